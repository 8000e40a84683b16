-- What a solver asks of the machine of a whole program.
use Rattle.std.specs.Prelude.{◌≡◌, ◌↔◌, ℕ, ◌<◌, length, slice_index_or}
use Rattle.std.proofs.Common.{refl, sym, ◌∙◌, ap, inl, inr}
use Rattle.std.proofs.lemmas.List.{get_or_default}
use Rattle.clean_base.specs.declared.ids.MethodId.{MethodId}
use Rattle.clean_base.specs.declared.ids.StmtId.{StmtId}
use Rattle.ifds_model.specs.declared.node.Context.{Context}
use Rattle.ifds_model.specs.declared.node.Dir.{Dir}
use Rattle.ifds_model.specs.declared.node.Dir.TheVariants.{Forward, Backward}
use Rattle.ifds_model.specs.declared.node.Leak.{Leak}
use Rattle.ifds_model.specs.declared.node.Move.{Move}
use Rattle.ifds_model.specs.declared.node.Move.TheVariants.{Go, Call, Exit, Mark}
use Rattle.ifds_model.specs.declared.node.Node.{Node}
use Rattle.access_path.specs.declared.fact.Fact.{Fact}
use Rattle.access_path.specs.declared.view.View.{View}
use Rattle.reach_rows.specs.Reaches.{here, on}
use Rattle.reach_rows.proofs.Paths as paths
use Rattle.flow_rules.specs.Code.{Code, IsWhole, Calls, Follows, StandsIn, IsTarget, Leads, method_of}
use Rattle.flow_rules.specs.Machine.{before, Ahead, Behind, StepAt, Step, StartIn, Start, Back, machine}

module _ (k : ℕ) (code : Code) (whole : IsWhole code) where
  pub owner_at : (s : StmtId) (m : MethodId) → StandsIn code s m → method_of code s ≡ m
  owner_at s m at = get_or_default code.owners s.0 code.root m at.0 ∙ at.1

  -- both ways along successors
  follows_inside : (s q : StmtId) → Follows code s q → method_of code q ≡ method_of code s
  follows_inside s q follows = let same = whole.inside s q follows in owner_at q same.0 same.2 ∙ sym (owner_at s same.0 same.1)

  ahead_inside : (s : StmtId) (g : Fact) (n : Node) → Ahead code s g n → method_of code n.stmt ≡ method_of code s
  ahead_inside s g n ahead = ap (λ (m : Node). method_of code m.stmt) ahead.3 ∙ follows_inside s ahead.0 ahead.1

  behind_inside : (s : StmtId) (g : Fact) (n : Node) → Behind code s g n → method_of code n.stmt ≡ method_of code s
  behind_inside s g n behind = ap (λ (m : Node). method_of code m.stmt) behind.3 ∙ sym (follows_inside behind.0 s behind.1)

  goes_in : (view : View) (n m : Node) (dir : Dir) (f g : Fact) → StepAt k code view n dir f (Go m g) → method_of code m.stmt ≡ method_of code n.stmt
  goes_in view n m Forward f g (inl on_) = ahead_inside n.stmt g m on_.1
  goes_in view n m Forward f g (inr back_) = behind_inside n.stmt g m back_.1
  goes_in view n m Backward f g step = elim (step.2) [ inl turn ↦ ap (λ (o : Node). method_of code o.stmt) turn | inr back_ ↦ behind_inside n.stmt g m back_ ]

  pub goes_inside : (n m : Node) (f g : Fact) → Step k code n f (Go m g) → method_of code m.stmt ≡ method_of code n.stmt
  goes_inside n m f g step = goes_in step.0 n m n.dir f g step.2

  -- a call stands at its node and goes to a target
  calls_in : (view : View) (n : Node) (dir : Dir) (f : Fact) (at : StmtId) (e : Context Fact) → StepAt k code view n dir f (Call at e) → (at ≡ n.stmt) × IsTarget code n.stmt e.method
  calls_in view n Forward f at e step = (step.0, step.1.2)
  calls_in view n Backward f at e step = (step.0, step.2.2)

  pub calls_here : (n : Node) (f : Fact) (at : StmtId) (e : Context Fact) → Step k code n f (Call at e) → at ≡ n.stmt
  calls_here n f at e step = (calls_in step.0 n n.dir f at e step.2).0

  pub calls_reach : (n : Node) (f : Fact) (at : StmtId) (e : Context Fact) → Step k code n f (Call at e) → Leads code (method_of code n.stmt) e.method
  calls_reach n f at e step =
      let target = (calls_in step.0 n n.dir f at e step.2).1 in
      let there : n.stmt.0 < length code.owners = rw whole.owned step.1.0 in
      on (n.stmt, (there, get_or_default code.owners n.stmt.0 (method_of code n.stmt) code.root there), target) here

  pub called_within : (n : Node) (f : Fact) (at : StmtId) (e : Context Fact) → Step k code n f (Call at e) → e.method.0 < length code.firsts
  called_within n f at e step = whole.targets n.stmt e.method (calls_in step.0 n n.dir f at e step.2).1

  -- a context starts in its own method
  starts_in : (dir : Dir) (m : MethodId) (f : Fact) (n : Node) → StartIn k code dir m f n → method_of code n.stmt ≡ m
  starts_in Forward m f n start = ap (λ (o : Node). method_of code o.stmt) start.2 ∙ owner_at start.0 m (whole.starts m start.0 start.1)
  starts_in Backward m f n start = ap (λ (o : Node). method_of code o.stmt) start.3 ∙ owner_at start.0 m start.1

  pub starts_inside : (e : Context Fact) (n : Node) → Start k code e n → method_of code n.stmt ≡ e.method
  starts_inside e n start = starts_in e.dir e.method e.fact n start

  pub one_start : (n : Node) × ((m : Node) → Start k code (machine k code).root m ↔ (m ≡ n))
  one_start = (
    before first,
    λ m. (
      (λ start. start.2 ∙ ap before (sym start.1.1 ∙ get_or_default code.firsts code.root.0 start.0 (record { 0 = 0 }) whole.root)),
      (λ same. (first, (whole.root, get_or_default code.firsts code.root.0 first (record { 0 = 0 }) whole.root), same)),
    ),
  )
    where
      first : StmtId
      first = slice_index_or code.firsts code.root.0 (record { 0 = 0 })

  -- a caller goes on in its own method
  pub back_goes : (call : StmtId) (x : Fact) (m : Move Fact Leak) → Back k code call x m → (n : Node) × (f : Fact) × (m ≡ Go n f)
  back_goes call x (Go n f) back_ = (n, f, refl)
  back_goes call x (Call at e) back_ = absurd back_
  back_goes call x (Exit y) back_ = absurd back_
  back_goes call x (Mark l) back_ = absurd back_

  pub back_inside : (call : StmtId) (x : Fact) (n : Node) (f : Fact) → Back k code call x (Go n f) → method_of code n.stmt ≡ method_of code call
  back_inside call x n f back_ = elim (back_.2) [
    | inl thrown ↦ ap (λ (o : Node). method_of code o.stmt) thrown.1
    | inr other ↦ elim other [ inl ahead ↦ ahead_inside call f n ahead.1 | inr behind ↦ behind_inside call f n behind.1 ]
  ]

  pub reaches_on : (l m n : MethodId) → Leads code l m → Leads code m n → Leads code l n
  reaches_on l m n = paths.reaches_on (Calls code) l m n
