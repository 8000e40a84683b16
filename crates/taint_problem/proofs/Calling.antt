-- Open calls of statements, and where they lead.
use Rattle.std.proofs.Common.{◌≡◌, ◌⊎◌, ◌↔◌, ◌≤◌, length, arith, refl, sym, ◌∙◌, inl, inr, subst}
use Rattle.std.proofs.lemmas.List.{get_or_default}
use Rattle.clean_base.specs.declared.ids.MethodId.{MethodId}
use Rattle.clean_base.specs.declared.ids.StmtId.{StmtId}
use Rattle.access_path.specs.declared.view.CallView.{CallView}
use Rattle.access_path.specs.declared.view.View.{View}
use Rattle.access_path.specs.declared.fact.Fact.{Fact}
use Rattle.ifds_model.specs.declared.node.Dir.{Dir}
use Rattle.ifds_model.specs.declared.node.Dir.TheVariants.{Forward, Backward}
use Rattle.ifds_model.specs.declared.node.Node.{Node}
use Rattle.flow_rules.specs.Border as border
use Rattle.reach_rows.specs.Reaches.{here, on}
use Rattle.flow_rules.specs.Code.{Code, IsWhole, StandsIn, Leads}
use Rattle.flow_rules.specs.Forward.{Over}
use Rattle.flow_rules.specs.Locals.{IsThrown}
use Rattle.flow_rules.specs.Machine.{IsOpen, IsPlain}
use Rattle.program_code.specs.App.{IsMethod}
use Rattle.taint_problem.specs.Moves.{AfterCrossed, HandedOver, StartsIn}

-- a statement is one open call
pub one_open : (view : View) (c d : CallView) → IsOpen view c → IsOpen view d → c ≡ d
one_open view c d first second = let e = sym first.0 ∙ second.0 in cc

-- past an open call, and after any other statement
pub past_open : (k : _) (view : View) (s : StmtId) (f h : Fact) (call : CallView) → IsOpen view call
    → (g : Fact) → AfterCrossed k view s f h g ↔ (border.Passes call h g ⊎ (IsThrown f × (g ≡ f)))
past_open k view s f h call is_open g = (
  (λ is. elim is [
    | inl over ↦ absurd (over.0 call is_open)
    | inr past ↦ subst (λ (c : CallView). border.Passes c h g ⊎ (IsThrown f × (g ≡ f))) (one_open view past.0 call past.1 is_open) past.2
  ]),
  (λ past. inr (call, is_open, past)),
)

pub over_plain : (k : _) (view : View) (s : StmtId) (f h : Fact) → IsPlain view → (g : Fact) → AfterCrossed k view s f h g ↔ Over k view s h g
over_plain k view s f h plain g = (
  (λ is. elim is [ inl over ↦ over.1 | inr past ↦ absurd (plain past.0 past.1) ]),
  (λ over. inl (plain, over)),
)

-- what one open call hands over
pub handed_open : (view : View) (dir : Dir) (f : Fact) (call : CallView) → IsOpen view call → (g : Fact) → HandedOver view dir f g ↔ border.Enters call dir f g
handed_open view dir f call is_open g = (
  (λ is. subst (λ (c : CallView). border.Enters c dir f g) (one_open view is.0 call is.1 is_open) is.2),
  (λ enters. (call, is_open, enters)),
)

-- a statement stands in one method
pub one_owner : (code : Code) (s : StmtId) (m n : MethodId) → StandsIn code s m → StandsIn code s n → m ≡ n
one_owner code s m n first second = sym first.1 ∙ get_or_default code.owners s.0 m n first.0 ∙ second.1

-- to and from a number that isn't a method's no calls lead
module _ (code : Code) (whole : IsWhole code) where
  leads_within : (m n : MethodId) → IsMethod code m → Leads code m n → IsMethod code n
  leads_within m n within here = within
  leads_within m n within (on {b = o} calls rest) = leads_within o n (whole.targets calls.0 o calls.2) rest

  pub leads_outside : (m n : MethodId) → (IsMethod code m → IsMethod code n → ⊥) → Leads code m n ↔ (m ≡ n)
  leads_outside m n outside = ((λ is_led. away m n outside is_led), (λ same. subst (Leads code m) same here)) where
    away : (m n : MethodId) → (IsMethod code m → IsMethod code n → ⊥) → Leads code m n → m ≡ n
    away m n outside here = refl
    away m n outside (on {b = o} calls rest) =
        let from : IsMethod code m = whole.owners m (calls.0.0, calls.1.0, calls.1.1) in
        absurd (outside from (leads_within o n (whole.targets calls.0 o calls.2) rest))

  -- nor do contexts start there
  pub no_start : (dir : Dir) (m : MethodId) (f : Fact) → length code.firsts ≤ m.0 → (n : Node) → StartsIn code dir m f n → ⊥
  no_start Forward m f past n starts = omega (arith, past, starts.1.0)
  no_start Backward m f past n starts = omega (arith, past, whole.owners m (starts.0.0, starts.1.0, starts.1.1))
