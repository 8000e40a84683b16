use Rattle.std.proofs.Common.{◌⊎◌, ◌∷◌, []}
use Rattle.access_path.specs.Paths.{inside, with_fields}
use Rattle.access_path.specs.declared.fact.Fact.TheVariants.{Taint as Tainted}
use Rattle.access_path.specs.declared.fact.Taint.{Taint}
use Rattle.flow_rules.specs.Forward.{Library, PassesOn}
use Rattle.flow_rules.specs.Locals.{Becomes, Holds, IsArgument, Says}
use Rattle.flow_rules.specs.Only.{IsIn}
use Rattle.clean_base.proofs.Appended.{appends_both_if}
use Rattle.flow_rules.proofs.Lifted.{of_two, only_also, either_also}
use Rattle.forward_flow.proofs.calls.library.Goals as goal

pub returns : goal.returns
returns c =
    let call = c.args.call.now in
    let t = c.in-Taint.t in
    let To : Taint → Type 0 = λ u. (IsArgument call t ⊎ Holds call.receiver t) × Becomes call.result (with_fields [] t) u in
    let Into : Taint → Type 0 = λ u. IsArgument call t × Becomes call.receiver (with_fields (inside ∷ []) t) u in
    rw c.in-Taint.is (appends_both_if c.add-2.result (IsIn c.said.result) (IsIn c.said-2.result) (Library call (Tainted t)) _ _ _
    (of_two (λ (a : Taint) (u : Taint). PassesOn call a u × Says u) t (λ u. To u × Says u) (λ u. Into u × Says u) c.said.result c.said-2.result
    (only_also To Says _ _ c.to_result.ensures c.said.ensures) (only_also Into Says _ _ c.to_receiver.ensures c.said-2.ensures) (λ u. either_also (To u) (Into u) (Says u)))
    c.in_ok-add.ensures c.add-2.ensures)
