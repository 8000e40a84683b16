-- What a table of fields keeps. The public contracts don't cite this.
use Rattle.std.specs.Prelude.{◌+◌, ◌≤◌, List, length}
use Rattle.clean_base.specs.Limits.{most_fields}
use Rattle.clean_base.specs.Lists.{IsDistinct}
use Rattle.field_table.specs.Numbers.{own_fields}
use Rattle.jimple_tree.specs.declared.tree.FieldSig.{FieldSig}

-- no field is declared twice, and they are few
pub record IsKept (declared named : List FieldSig) : Type 0 where
  pub distinct : IsDistinct declared
  pub few : own_fields + (length declared + length named) ≤ most_fields
