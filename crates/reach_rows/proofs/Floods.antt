-- What each step of the search for what is reached from a node keeps.
use Rattle.std.proofs.Common.{◌≡◌, ℕ, zero, suc, Bool, true, false, cond, ◌+◌, ◌<◌, List, [], ◌∷◌, ◌++◌, length, get_or, set, take, sym, ap, subst, ◌∙◌, refl, arith, inl, inr, ◌⊎◌}
use Rattle.std.specs.List.{sum_by}
use Rattle.std.specs.Prelude.{Option, None, Some, IsSome, Contains}
use Rattle.std.proofs.lemmas.Bool.{false≢true}
use Rattle.std.proofs.lemmas.List.{length-set, length_push}
use Rattle.std.proofs.lemmas.List.Elements.{Contains-append_left, Contains-append_right, Contains-append_cases, Contains-push, Contains-push_cases}
use Rattle.std.proofs.lemmas.List.Sums.{sum_by-set}
use Rattle.clean_base.specs.Lists.{At}
use Rattle.reach_rows.specs.Reaches.{Reaches, here, on}
use Rattle.reach_rows.specs.Graphs.{row, Steps, IsGraph}
use Rattle.reach_rows.specs.Cycles.{RowSeen, IsFlood, IsAdded, IsSpread, IsWhole}
use Rattle.reach_rows.proofs.Places.{same_number_or_not, at_set_same, at_set_other, at_of_set}
use Rattle.reach_rows.proofs.Paths.{reaches_more, steps_to}

-- the item of a list of one
only : (a b : ℕ) → Contains (a ∷ []) b → a ≡ b
only a b there = elim (Contains-push_cases [] a b there) [ inl before ↦ absurd (omega (arith, before.1)) | inr same ↦ same ]

-- a node that isn't
pub added_new : (seen : List Bool) (waiting : List ℕ) (a : ℕ) → At seen a false → IsAdded (a ∷ []) seen waiting (set seen a true) (waiting ++ a ∷ [])
added_new seen waiting a at = record {
  count = length-set seen a true;
  kept = λ b old. elim (same_number_or_not b a) [
    | inl same ↦ subst (λ (n : ℕ). At (set seen a true) n true) (sym same) (at_set_same seen a true at.0)
    | inr other ↦ at_set_other seen a true b true other old
  ];
  waits = λ b there. Contains-append_left waiting (a ∷ []) b there;
  all = λ b there. subst (λ (n : ℕ). At (set seen a true) n true) (only a b there) (at_set_same seen a true at.0);
  fresh = λ b new. elim (same_number_or_not b a) [
    | inl same ↦ inr (subst (λ (n : ℕ). Contains (a ∷ []) n) (sym same) (Contains-push [] a), subst (λ (n : ℕ). Contains (waiting ++ a ∷ []) n) (sym same) (Contains-push waiting a))
    | inr other ↦ inl (at_of_set seen a true b true new other)
  ];
  from = λ b there. Contains-append_cases waiting (a ∷ []) b there;
  less =
      let f : Bool → ℕ = λ (b : Bool). cond b 0 1 in
      let change : sum_by f (set seen a true) + f (get_or seen a false) ≡ sum_by f seen + f true = sum_by-set f seen a true false at.0 in
      let one : f (get_or seen a false) ≡ 1 = ap f at.1 in
      let more : length (waiting ++ a ∷ []) ≡ length waiting + 1 = length_push waiting a in
      omega arith;
}

-- some nodes, and then others
pub added_more : (xs ys : List ℕ) (old mid new : List Bool) (before between after : List ℕ) → IsAdded xs old before mid between → IsAdded ys mid between new after → IsAdded (xs ++ ys) old before new after
added_more xs ys old mid new before between after one other = record {
  count = other.count ∙ one.count;
  kept = λ b at. other.kept b (one.kept b at);
  waits = λ b there. other.waits b (one.waits b there);
  all = λ b there. elim (Contains-append_cases xs ys b there) [ inl first ↦ other.kept b (one.all b first) | inr last ↦ other.all b last ];
  fresh = λ b at. elim (other.fresh b at) [
    | inl was ↦ first b (one.fresh b was)
    | inr last ↦ inr (Contains-append_right xs ys b last.0, last.1)
  ];
  from = λ b there. elim (other.from b there) [ inl was ↦ start b (one.from b was) | inr last ↦ inr (Contains-append_right xs ys b last) ];
  less = omega (arith, one.less, other.less);
}
  where
    first : (b : ℕ) → At old b true ⊎ (Contains xs b × Contains between b) → At old b true ⊎ (Contains (xs ++ ys) b × Contains after b)
    first b (inl was) = inl was
    first b (inr new) = inr (Contains-append_left xs ys b new.0, other.waits b new.1)

    start : (b : ℕ) → Contains before b ⊎ Contains xs b → Contains before b ⊎ Contains (xs ++ ys) b
    start b (inl was) = inl was
    start b (inr new) = inr (Contains-append_left xs ys b new)

-- the node is seen at first
pub flood_begins : (rows : List (List ℕ)) (a : ℕ) (old new : List Bool) (waiting after : List ℕ) → a < length rows → IsWhole rows old waiting → IsAdded (a ∷ []) old waiting new after → IsFlood rows a old new after
flood_begins rows a old new waiting after below whole added = record {
  count = added.count ∙ whole.count;
  within = λ b there. subst (λ (n : ℕ). n < length rows) (is b there) below;
  waits = λ b there. subst (λ (n : ℕ). Reaches (Steps rows) a n) (is b there) here;
  kept = added.kept;
  start = added.all a (Contains-push [] a);
  from = λ b at. elim (added.fresh b at) [ inl was ↦ inl was | inr fresh ↦ inr (subst (λ (n : ℕ). Reaches (Steps rows) a n) (only a b fresh.0) here) ];
  rest = λ b at. elim (added.fresh b at) [ inl was ↦ inr (λ n step. added.kept n (whole.closed b was n step)) | inr fresh ↦ inl fresh.1 ];
}
  where
    is : (b : ℕ) → Contains after b → a ≡ b
    is b there = elim (added.from b there) [
      | inl before ↦ absurd (let none = subst (λ (xs : List ℕ). Contains xs b) whole.none before in omega (arith, none.1))
      | inr new ↦ only a b new
    ]

-- the last one that waits has its row seen
module _ (rows : List (List ℕ)) (a : ℕ) (old seen new : List Bool) (front after : List ℕ) (next : ℕ) (graph : IsGraph rows) (is : IsFlood rows a old seen (front ++ next ∷ [])) (added : IsAdded (row rows next) seen front new after) where
  below_next : (b : ℕ) → Steps rows next b → Reaches (Steps rows) a b
  below_next b step = reaches_more (Steps rows) a next b (is.waits next (Contains-push front next)) step

  row_seen : (b : ℕ) → RowSeen rows seen b → RowSeen rows new b
  row_seen b was n step = added.kept n (was n step)

  goes_on : (b : ℕ) → Contains (front ++ next ∷ []) b ⊎ RowSeen rows seen b → Contains after b ⊎ RowSeen rows new b
  goes_on b (inl there) = elim (Contains-push_cases front next b there) [
    | inl before ↦ inl (added.waits b before)
    | inr same ↦ inr (λ n step. added.all n (subst (λ (k : ℕ). Steps rows k n) (sym same) step))
  ]
  goes_on b (inr was) = inr (row_seen b was)

  pub flood_more : IsFlood rows a old new after
  flood_more = record {
    count = added.count ∙ is.count;
    within = λ b there. elim (added.from b there) [ inl before ↦ is.within b (Contains-append_left front (next ∷ []) b before) | inr step ↦ steps_to rows next b graph step ];
    waits = λ b there. elim (added.from b there) [ inl before ↦ is.waits b (Contains-append_left front (next ∷ []) b before) | inr step ↦ below_next b step ];
    kept = λ b at. added.kept b (is.kept b at);
    start = added.kept a is.start;
    from = λ b at. elim (added.fresh b at) [ inl was ↦ is.from b was | inr fresh ↦ inr (below_next b fresh.0) ];
    rest = λ b at. elim (added.fresh b at) [ inl was ↦ goes_on b (is.rest b was) | inr fresh ↦ inl fresh.1 ];
  }

-- where none waits, all that is reached is seen
pub flood_ends : (rows : List (List ℕ)) (a : ℕ) (old seen : List Bool) (waiting : List ℕ) → waiting ≡ [] → IsFlood rows a old seen waiting → IsSpread rows a old seen × IsWhole rows seen waiting
flood_ends rows a old seen waiting none is = (
  record { kept = is.kept; start = is.start; from = is.from },
  record { count = is.count; none = none; closed = λ b at. all b (is.rest b at) },
)
  where
    all : (b : ℕ) → Contains waiting b ⊎ RowSeen rows seen b → RowSeen rows seen b
    all b (inl there) = absurd (let nothing = subst (λ (xs : List ℕ). Contains xs b) none there in omega (arith, nothing.1))
    all b (inr row) = row

pub reached_seen : (rows : List (List ℕ)) (seen : List Bool) (waiting : List ℕ) → IsWhole rows seen waiting → (a b : ℕ) → At seen a true → Reaches (Steps rows) a b → At seen b true
reached_seen rows seen waiting whole a b at here = at
reached_seen rows seen waiting whole a b at (on {b = by} step rest) = reached_seen rows seen waiting whole by b (whole.closed a at by step) rest

pub take_none : (n : ℕ) → (let none : List ℕ = [] in take n none ≡ [])
take_none zero = refl
take_none (suc n) = refl

-- where a pop gives none, none waits
pub none_waits : (r : Option ℕ) (waiting : List ℕ) → (0 < length waiting → IsSome r) → ((x : ℕ) → r ≡ Some x → ⊥) → waiting ≡ []
none_waits r [] some left = refl
none_waits None (x ∷ xs) some left = absurd (false≢true (some (omega arith)))
none_waits (Some y) (x ∷ xs) some left = absurd (left y refl)
