-- How far a list is read, and the steps of reading.
use Rattle.std.proofs.Common.{◌≡◌, ◌≢◌, ◌↔◌, ◌==◌, ◌<◌, ◌≤◌, ◌+◌, ℕ, Bool, true, false, not, MatchBool, List, [], ◌∷◌, ◌++◌, Contains, length, map, get_or, sym, ap, ◌∙◌, subst, inl, inr, arith}
use Rattle.std.proofs.lemmas.List.{length-append}
use Rattle.std.proofs.lemmas.List.Elements.{Contains-get_or}
use Rattle.std.proofs.lemmas.List.Quantifiers.{all_pairs_push}
use Rattle.clean_base.specs.Lists.{At, IsDistinct}
use Rattle.list_lines.specs.Lines.{list_lines}
use Rattle.list_lines.specs.Lists.{Give}
use Rattle.list_lines.proofs.Giving.{give_none, give_more}
use Rattle.list_lines.proofs.Faults.{ReadTo, is_fault}
use Rattle.list_lines.proofs.Faults as faults
use Rattle.dummy_main.specs.declared.component.Component.{Component}
use Rattle.dummy_main.specs.declared.list.Refusal.{Refusal}
use Rattle.dummy_main.specs.declared.list.Refusal.TheVariants.{Bad, Double, Memory}
use Rattle.dummy_main.specs.Listing.{most_components, Gives, name_of, AreListed, IsLineFault, Refused}
use Rattle.dummy_main.specs.Listing.IsLineFault.{bad, double}
use Rattle.dummy_main.specs.ReadingList.{Adds, RefusesLine, stop_of}
use Rattle.dummy_main.proofs.Once.{map_append, settled}

distinct_push : (names : List (List ℕ)) (name : List ℕ) → IsDistinct names → (Contains names name → ⊥) → IsDistinct (names ++ name ∷ [])
distinct_push names name distinct lacks =
    all_pairs_push (λ a b. a ≢ b) names name distinct (λ k d below same. lacks (subst (Contains names) same (Contains-get_or names k d below)))

listed_more : (before : List (List ℕ)) (line : List ℕ) (cs ds : List Component) → AreListed before cs → Adds line cs ds → AreListed (before ++ line ∷ []) ds
listed_more before line cs ds are (inl h) = record {
  give = subst (Give Gives (before ++ line ∷ [])) (sym h.1) (give_none Gives before line cs are.give h.0);
  distinct = subst (λ (xs : List Component). IsDistinct (map name_of xs)) (sym h.1) are.distinct;
  few = subst (λ (xs : List Component). length xs ≤ most_components) (sym h.1) are.few;
}
listed_more before line cs ds are (inr h) = record {
  give = subst (Give Gives (before ++ line ∷ [])) (sym h.3) (give_more Gives before line cs h.0 are.give h.1);
  distinct = subst IsDistinct (sym (ap (map name_of) h.3 ∙ map_append cs (h.0 ∷ []))) (distinct_push (map name_of cs) h.0.name are.distinct h.2.new);
  few = let e = ap length h.3 ∙ length-append cs (h.0 ∷ []) in let few = h.2.few in omega (arith, e, few);
}

pub one_more : (lines left : List (List ℕ)) (line : List ℕ) (cs ds : List Component) (number : ℕ) → ReadTo AreListed lines (line ∷ left) cs number → Adds line cs ds
    → ReadTo AreListed lines left ds (number + 1)
one_more lines left line cs ds number to adds = faults.one_more AreListed lines left line cs ds number (λ before are. listed_more before line cs ds are adds) to

pub refused : (file : ℕ) (bytes : List ℕ) (left : List (List ℕ)) (line : List ℕ) (cs : List Component) (number : ℕ) (refusal : Refusal)
    → ReadTo AreListed (list_lines bytes) (line ∷ left) cs number → RefusesLine cs line refusal → Refused file bytes (stop_of refusal file (number + 1))
refused file bytes left line cs number Bad to why = is_fault AreListed (IsLineFault file) (settled file) (list_lines bytes) left line cs number _ to (bad why)
refused file bytes left line cs number Double to why = is_fault AreListed (IsLineFault file) (settled file) (list_lines bytes) left line cs number _ to (double why)
refused file bytes left line cs number Memory to why = tt

-- a name stands among others where it has a place
pub has_place : (names : List (List ℕ)) (name : List ℕ) (places : List ℕ) (none : Bool) → ((place : ℕ) → Contains places place ↔ At names place name) → none ≡ (length places == 0)
    → MatchBool (not none) (Contains names name) (Contains names name → ⊥)
has_place names name places none exact is = by none is where
  by : (b : Bool) → b ≡ (length places == 0) → MatchBool (not b) (Contains names name) (Contains names name → ⊥)
  by true e = λ h. let l = ((exact h.0).1 (h.1, h.2)).1 in let empty : length places ≡ 0 = grind (arith, e) in omega (arith, empty, l)
  by false e = let some : 0 < length places = grind (arith, e) in let at = (exact (get_or places 0 0)).0 (Contains-get_or places 0 0 some) in (get_or places 0 0, at.0, at.1)
