-- What a program keeps beside its code, so that nothing has to be searched for.
use Rattle.std.specs.Prelude.{◌≡◌, ◌↔◌, ◌<◌, ◌≤◌, ◌+◌, ◌^◌, ℕ, [], List, length, slice_index_or, Contains}
use Rattle.clean_base.specs.Lists.{At}
use Rattle.clean_base.specs.declared.ids.MethodId.{MethodId}
use Rattle.clean_base.specs.declared.ids.StmtId.{StmtId}
use Rattle.class_table.specs.Methods.{all_methods, IsNumber}
use Rattle.flow_rules.specs.Code.{Code, IsWhole, StandsIn, Follows, Calls, IsReturn, MayThrow}
use Rattle.field_table.specs.Numbers.{all_sigs}
use Rattle.flow_rules.specs.Own.{IsNamed}
use Rattle.jimple_tree.specs.declared.tree.Class.{Class}
use Rattle.jimple_tree.specs.declared.tree.Method.{Method}
use Rattle.reach_rows.specs.Closure.{IsClosure}
use Rattle.reach_rows.specs.Graphs.{Steps}
use Rattle.program_code.specs.App.{App, locals_of}
use Rattle.program_code.specs.declared.parts.Parts.{Parts}

-- for each statement those that it follows
pub record ArePreds (code : Code) (preds : List (List StmtId)) : Type 0 where
  pub count : length preds ≡ length code.views
  pub each : (s p : StmtId) → Contains (slice_index_or preds s.0 []) p ↔ Follows code p s

-- for each method its statements of a kind
pub record AreOfKind (code : Code) (Is : StmtId → Type 0) (lists : List (List StmtId)) : Type 0 where
  pub count : length lists ≡ length code.firsts
  pub each : (m : MethodId) (s : StmtId) → Contains (slice_index_or lists m.0 []) s ↔ (StandsIn code s m × Is s)

-- the graph's nodes are the methods, and one step leads from a method to each that it calls
pub record IsCallGraph (code : Code) (rows : List (List ℕ)) : Type 0 where
  pub count : length rows ≡ length code.firsts
  pub each : (m n : MethodId) → Steps rows m.0 n.0 ↔ Calls code m n

-- the program that has these parts
abbrev pub app_of : Parts → App
app_of p = record {
  classes = p.table;
  fields = all_sigs p.fields;
  code = record {
    root = p.root;
    firsts = p.firsts;
    locals = p.locals;
    fields = 2 + length (all_sigs p.fields);
    views = p.views;
    owners = p.owners;
    nexts = p.nexts;
    targets = p.targets;
  };
}

abbrev pub code_of : Parts → Code
code_of p = (app_of p).code

-- the program is whole and names only its own parts, and the lists are those of its code
pub record ArePartsOf (p : Parts) : Type 0 where
  pub whole : IsWhole (code_of p)
  pub named : IsNamed (code_of p)
  -- each statement and method has what belongs to it, and all can be counted
  pub nexts : length p.nexts ≡ length p.views
  pub targets : length p.targets ≡ length p.views
  pub locals : length p.locals ≡ length p.firsts
  pub few_statements : length p.views < 2 ^ 32
  -- methods have the numbers that they have among the classes, and the locals of their bodies; a method's first statement
  -- stands before its others
  pub methods : length (all_methods p.table) ≡ length p.firsts
  pub bodies : (m : MethodId) (c : Class) (method : Method) → IsNumber p.table m c method → At p.locals m.0 (length (locals_of method))
  pub behind : (s first : StmtId) (m : MethodId) → StandsIn (code_of p) s m → At p.firsts m.0 first → first.0 ≤ s.0
  pub preds : ArePreds (code_of p) p.preds
  pub returns : AreOfKind (code_of p) (IsReturn (code_of p)) p.returns
  pub throws : AreOfKind (code_of p) (MayThrow (code_of p)) p.throws
  -- what open calls lead to
  pub graph : List (List ℕ)
  pub calls : IsCallGraph (code_of p) graph
  pub closure : IsClosure graph p.closure
