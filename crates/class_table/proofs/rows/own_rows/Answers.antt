use Rattle.std.proofs.Common.{List, All, subst, sym, arith}
use Rattle.std.specs.Prelude.{Contains}
use Rattle.std.proofs.lemmas.List.{take_all}
use Rattle.jimple_tree.specs.declared.tree.Class.{Class}
use Rattle.class_table.specs.Kinds.{kind_names, AreOwnRows}
use Rattle.class_table.proofs.Rowed.{own_rows_more}
use Rattle.class_table.proofs.rows.own_rows.Goals as goal

pub row_of-requires-clause-known : goal.row_of-requires-clause-known
row_of-requires-clause-known c =
    subst (λ (d : Class). All (Contains c.args.names.now.keys) (kind_names c.args.kind d)) (sym c.class-item.is) (c.requires.known c.loop-class.class-index c.class-item.result (omega arith))

pub loop-class-preserved : goal.loop-class-preserved
loop-class-preserved c =
    own_rows_more c.args.names.now.keys (kind_names c.args.kind) c.args.classes.now c.loop-class.rows.items c.push.new.self.items c.loop-class.class-index c.class-item.result c.in_ok-row_of.field-0 (omega arith) c.class-item.is
    c.loop-class.invariant c.in_ok-row_of.ensures c.in_ok-push.ensures.items

pub returns : goal.returns
returns c = subst (λ (cs : List Class). AreOwnRows c.args.names.now.keys (kind_names c.args.kind) cs c.loop-class.rows.items) (take_all c.loop-class.class-index c.args.classes.now (omega arith)) c.loop-class.invariant
