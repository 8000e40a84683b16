-- Lines are a schedule or have one first fault, and how far one is read.
use Rattle.std.proofs.Common.{◌≡◌, ◌+◌, ℕ, List, [], ◌∷◌, ◌++◌, refl, sym, ◌∙◌, subst, inl, inr}
use Rattle.clean_base.specs.declared.fault.InputFault.{InputFault}
use Rattle.list_lines.specs.Lines.{list_lines}
use Rattle.list_lines.specs.Lists.{Give}
use Rattle.list_lines.proofs.Giving.{give_none, give_more, give_once, split}
use Rattle.list_lines.proofs.Faults.{IsSettled, ReadTo, is_fault, no_list}
use Rattle.list_lines.proofs.Faults as faults
use Rattle.event_schedule.specs.declared.order.Order.{Order}
use Rattle.event_schedule.specs.declared.schedule.Refusal.{Refusal}
use Rattle.event_schedule.specs.declared.schedule.Refusal.TheVariants.{Bad, Memory}
use Rattle.event_schedule.specs.Schedules.{Gives, IsBad, IsFirstFault, IsList, Refused}
use Rattle.event_schedule.specs.Reading.{Adds, RefusesLine, stop_of}
use Rattle.event_schedule.proofs.Once.{gives_once}

settled : (file : ℕ) → IsSettled (Give Gives) (IsBad file)
settled file = record {
  one_list = give_once Gives gives_once;
  one_fault = λ number orders line f g h k. h.is ∙ sym k.is;
  apart = λ number before more line orders others f give all bad. here more line others bad (split Gives before (line ∷ more) others all).back (split Gives before (line ∷ more) others all).then;
} where
  here : {number : ℕ} {orders : List Order} {f : InputFault} (more : List (List ℕ)) (line : List ℕ) (others : List Order) → IsBad file number orders line f → (back : List Order) → Give Gives (line ∷ more) back → ⊥
  here more line others bad back (inl g) = bad.something g.0
  here more line others bad back (inr g) = bad.strange g.0 g.2

more : (before : List (List ℕ)) (line : List ℕ) (old new : List Order) → Give Gives before old → Adds line old new → Give Gives (before ++ line ∷ []) new
more before line old new give (inl h) = subst (Give Gives (before ++ line ∷ [])) (sym h.1) (give_none Gives before line old give h.0)
more before line old new give (inr h) = subst (Give Gives (before ++ line ∷ [])) (sym h.2) (give_more Gives before line old h.0 give h.1)

pub one_more : (lines left : List (List ℕ)) (line : List ℕ) (old new : List Order) (number : ℕ) → ReadTo (Give Gives) lines (line ∷ left) old number → Adds line old new
    → ReadTo (Give Gives) lines left new (number + 1)
one_more lines left line old new number to adds = faults.one_more (Give Gives) lines left line old new number (λ before give. more before line old new give adds) to

pub refused : (file : ℕ) (bytes : List ℕ) (left : List (List ℕ)) (line : List ℕ) (orders : List Order) (number : ℕ) (refusal : Refusal)
    → ReadTo (Give Gives) (list_lines bytes) (line ∷ left) orders number → RefusesLine line refusal → Refused file bytes (stop_of refusal file (number + 1))
refused file bytes left line orders number Bad to why =
    is_fault (Give Gives) (IsBad file) (settled file) (list_lines bytes) left line orders number _ to (record { something = why.0; strange = why.1; is = refl })
refused file bytes left line orders number Memory to why = tt

pub only : (bytes : List ℕ) (orders others : List Order) → IsList bytes orders → IsList bytes others → others ≡ orders
only bytes orders others are also = give_once Gives gives_once (list_lines bytes) others orders also are

pub faultless : (file : ℕ) (bytes : List ℕ) (orders : List Order) (fault : InputFault) → IsList bytes orders → IsFirstFault file (list_lines bytes) fault → ⊥
faultless file bytes orders fault are first = no_list (Give Gives) (IsBad file) (settled file) (list_lines bytes) fault orders first are
