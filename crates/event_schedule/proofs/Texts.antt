-- Texts behind words, and what calls find.
use Rattle.std.proofs.Common.{◌≡◌, ℕ, List, ◌++◌, Option, Some, None, Result, IfNone, IfOk, IfSome, MatchOption, sym, ◌∙◌, subst}
use Rattle.std.proofs.lemmas.List.{append_cancel_left}
use Rattle.std.proofs.lemmas.Result.{IfOk-weaker}
use Rattle.event_schedule.specs.Schedules.{Behind}

pub matched : {X : Type 0} (r : Option X) (N : Type 0) (S : X → Type 0) → MatchOption r N S → IfSome r S
matched None N S m = tt
matched (Some x) N S m = m

pub missed : {X : Type 0} (r : Option X) (N : Type 0) (S : X → Type 0) → MatchOption r N S → IfNone r N
missed None N S m = m
missed (Some x) N S m = tt

pub none_then : {X : Type 0} (P Q : Type 0) → (P → Q) → (r : Option X) → IfNone r P → IfNone r Q
none_then P Q so None none = so none
none_then P Q so (Some x) none = tt

pub ok_none_then : {X E : Type 0} (P Q : Type 0) → (P → Q) → (r : Result (Option X) E) → IfOk r (λ found. IfNone found P) → IfOk r (λ found. IfNone found Q)
ok_none_then P Q so r none = IfOk-weaker r _ _ (λ found is. none_then P Q so found is) none

-- where the text behind the word doesn't mean so, no text behind it does
pub not_behind : (word line text : List ℕ) (Means : List ℕ → Type 0) → line ≡ word ++ text → (Means text → ⊥) → Behind word Means line → ⊥
not_behind word line text Means is none b = none (subst Means (append_cancel_left word b.text text (sym b.is ∙ is)) b.means)
