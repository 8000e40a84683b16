-- What a table keeps. The public contracts don't cite this.
use Rattle.std.specs.Prelude.{◌≡◌, ℕ, List, All}
use Rattle.jimple_tree.specs.WellFormed.{IsWellFormed}
use Rattle.jimple_tree.specs.declared.tree.Class.{Class}
use Rattle.reach_rows.specs.Graphs.{IsOrder}
use Rattle.class_table.specs.Faults.{IsTable}
use Rattle.class_table.specs.Hierarchy.{class_names, heading}
use Rattle.class_table.specs.Links.{AreRows}
use Rattle.class_table.specs.Resolving.{superclass, interfaces}
use Rattle.class_table.specs.Members.{AreMembers}
use Rattle.class_table.specs.declared.links.Links.{Links}
use Rattle.class_table.specs.declared.members.Members.{Members}

-- the graphs of each kind of names, and an order of that of headings
pub record HasLinks (cs : List Class) (links : Links) : Type 0 where
  pub headings : AreRows cs heading links.headings.items
  pub superclasses : AreRows cs superclass links.superclasses.items
  pub interfaces : AreRows cs interfaces links.interfaces.items
  pub order : IsOrder links.headings.items links.order.items

-- the names in the order of their numbers, the graphs and the methods are those of the classes, which have no fault
pub record IsKept (cs : List Class) (keys : List (List ℕ)) (links : Links) (members : Members) : Type 0 where
  pub table : IsTable cs
  pub well_formed : All IsWellFormed cs
  pub numbered : keys ≡ class_names cs
  pub linked : HasLinks cs links
  pub listed : AreMembers cs members
