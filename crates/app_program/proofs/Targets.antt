-- The methods that calls may come to are methods of the classes.
use Rattle.std.proofs.Common.{◌<◌, ℕ, List, [], Contains, length, get_or, subst, arith}
use Rattle.std.proofs.lemmas.List.{get_or_default}
use Rattle.clean_base.specs.declared.ids.MethodId.{MethodId}
use Rattle.jimple_tree.specs.declared.tree.Class.{Class}
use Rattle.jimple_tree.specs.declared.tree.InvokeKind.{InvokeKind}
use Rattle.jimple_tree.specs.declared.tree.InvokeKind.TheVariants as kinds
use Rattle.jimple_tree.specs.declared.tree.Sig.{Sig}
use Rattle.source_sink.specs.declared.line.Line.{Line}
use Rattle.access_path.specs.declared.view.View.{View}
use Rattle.class_table.specs.Methods.{all_methods, stmts_in}
use Rattle.call_graph.specs.Calls.{IsTargetOf}
use Rattle.reach_rows.specs.Graphs.{IsGraph}
use Rattle.statement_graph.proofs.Standing.{item_there}
use Rattle.statement_views.specs.Seen.{AreSeen}
use Rattle.app_program.specs.Ends.{AreCalls, AreMethodsOf}
use Rattle.app_program.proofs.Rowed.{item_at, row_within}

target_number : (cs : List Class) (kind : InvokeKind) (sig : Sig) (n : MethodId) → IsTargetOf cs kind sig n → n.0 < length (all_methods cs)
target_number cs kinds.Static sig n h = h.number.0
target_number cs kinds.Special sig n h = h.number.0
target_number cs kinds.Virtual sig n h = h.3.number.0
target_number cs kinds.Interface sig n h = h.3.number.0

module _ (cs : List Class) where
  -- so what statements are seen to call are methods
  pub targets_methods : (lines : List Line) (views : List View) (targets : List (List MethodId)) → AreSeen cs lines views targets → AreMethodsOf cs targets
  targets_methods lines views targets seen s n has =
      let within = row_within targets s n has in
      let long = seen.counted in
      let few = seen.within in
      let below : s < length (stmts_in cs) = omega (arith, within, long, few) in
      let (stmt, stands) = item_there (stmts_in cs) s below in
      let (call, found, to) = ((seen.rows_are s stmt (get_or targets s []) stands (item_at targets s [] within)).exact n).0 has in
      target_number cs call.kind call.sig n to.target

  -- and what methods call is a graph of methods
  pub calls_graph : (targets : List (List MethodId)) (rows : List (List ℕ)) → AreMethodsOf cs targets → AreCalls cs targets (length (all_methods cs)) rows → IsGraph rows
  calls_graph targets rows methods are p d below k e within =
      let q = get_or (get_or rows p d) k e in
      let m : MethodId = record { 0 = p } in
      let n : MethodId = record { 0 = q } in
      let count = are.counted in
      let row = get_or_default rows p d [] below in
      let has : Contains (get_or rows p []) q = subst (λ (ns : List ℕ). Contains ns q) row (k, within, get_or_default (get_or rows p d) k q e within) in
      let (s, own, target) = (are.each m n (omega (arith, below, count))).0 has in
      let number = methods s.0 n target in
      omega (arith, number, count)
