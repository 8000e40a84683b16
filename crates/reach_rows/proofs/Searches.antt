-- What each step of a depth-first search keeps.
use Rattle.std.proofs.Common.{◌≡◌, ◌≢◌, ℕ, ◌+◌, ◌-◌, ◌<◌, ◌≤◌, List, [], ◌∷◌, ◌++◌, length, get_or, set, take, sym, ap, subst, ◌∙◌, refl, arith, inl, inr, ◌⊎◌}
use Rattle.std.specs.Prelude.{Contains, AllPairs}
use Rattle.std.proofs.lemmas.List.{length-set, get_or_default, get_or-set_same, get_or-set_other}
use Rattle.std.proofs.lemmas.Bool.{cases_lt}
use Rattle.std.proofs.lemmas.List.Elements.{Contains-append_left, Contains-push, Contains-push_cases, Contains-get_or}
use Rattle.std.proofs.lemmas.List.Quantifiers.{all_pairs_push}
use Rattle.std.proofs.lemmas.List.Sums.{sum_by-set}
use Rattle.clean_base.specs.Lists.{At}
use Rattle.reach_rows.specs.declared.search.Mark.{Mark}
use Rattle.reach_rows.specs.declared.search.Mark.TheVariants.{Unseen, OnPath, Done}
use Rattle.reach_rows.specs.Reaches.{Reaches, here, on, Follows}
use Rattle.reach_rows.specs.Graphs.{row, Steps, IsGraph, IsOnCycle}
use Rattle.reach_rows.specs.Search.{IsSearchState, IsFinish, weight, to_do, IsLast, SeesRow}
use Rattle.reach_rows.proofs.Places.{same_number_or_not, at_one, at_set_same, at_set_other, at_of_set, other_of_set, at_push, at_push_cases, place_one, distinct_push, front_lacks, pairs_front, pairs_last}
use Rattle.reach_rows.proofs.Paths.{reaches_on, steps_from, steps_to}

unseen_on_path : Unseen ≡ OnPath → ⊥
unseen_on_path same = cc

unseen_done : Unseen ≡ Done → ⊥
unseen_done same = cc

on_path_done : OnPath ≡ Done → ⊥
on_path_done same = cc

-- nodes with different marks differ
marks_apart : (marks : List Mark) (a b : ℕ) (m n : Mark) → (m ≡ n → ⊥) → At marks a m → At marks b n → a ≢ b
marks_apart marks a b m n differ one other same = differ (at_one marks a m n one (subst (λ (k : ℕ). At marks k n) (sym same) other))

-- no node turns unseen where the new mark isn't that
unseen_before : (marks : List Mark) (b : ℕ) (m : Mark) → b < length marks → (m ≡ Unseen → ⊥) → (a : ℕ) → At (set marks b m) a Unseen → At marks a Unseen
unseen_before marks b m below differ a at = at_of_set marks b m a Unseen at (other_of_set marks b m a Unseen below differ at)

module _ (rows : List (List ℕ)) (marks : List Mark) (passed path done : List ℕ) (is : IsSearchState rows marks passed path done) (b : ℕ) where
  -- goes on to a node that is not seen
  pub opened : At marks b Unseen → ((a : ℕ) → Contains path a → Reaches (Steps rows) a b) → IsSearchState rows (set marks b OnPath) passed (path ++ b ∷ []) done
  opened unseen from = record {
    marks_count = length-set marks b OnPath ∙ is.marks_count;
    passed_count = is.passed_count;
    done_marked = λ a there. at_set_other marks b OnPath a Done (marks_apart marks a b Done Unseen (λ same. unseen_done (sym same)) (is.done_marked a there) unseen) (is.done_marked a there);
    marked_done = λ a at. is.marked_done a (at_of_set marks b OnPath a Done at (other_of_set marks b OnPath a Done unseen.0 on_path_done at));
    done_once = is.done_once;
    path_marked = λ a there. on_path a (Contains-push_cases path b a there);
    marked_path = λ a at. elim (same_number_or_not a b) [
      | inl same ↦ subst (λ (k : ℕ). Contains (path ++ b ∷ []) k) (sym same) (Contains-push path b)
      | inr other ↦ Contains-append_left path (b ∷ []) a (is.marked_path a (at_of_set marks b OnPath a OnPath at other))
    ];
    path_once = distinct_push path b is.path_once (λ there. marks_apart marks b b OnPath Unseen (λ same. unseen_on_path (sym same)) (is.path_marked b there) unseen refl);
    joined = all_pairs_push (Reaches (Steps rows)) path b is.joined (λ k d below. from (get_or path k d) (Contains-get_or path k d below));
    passed_seen = λ a k front below at. is.passed_seen a k front below (unseen_before marks b OnPath unseen.0 (λ same. unseen_on_path (sym same)) _ at);
    done_seen = λ a n there step at. is.done_seen a n there step (unseen_before marks b OnPath unseen.0 (λ same. unseen_on_path (sym same)) n at);
    earlier = is.earlier;
  }
    where
      on_path : (a : ℕ) → Contains path a ⊎ (b ≡ a) → At (set marks b OnPath) a OnPath
      on_path a (inl there) = at_set_other marks b OnPath a OnPath (marks_apart marks a b OnPath Unseen (λ same. unseen_on_path (sym same)) (is.path_marked a there) unseen) (is.path_marked a there)
      on_path a (inr same) = subst (λ (k : ℕ). At (set marks b OnPath) k OnPath) same (at_set_same marks b OnPath unseen.0)

  -- takes a longer front of the node's row as seen
  pub passed_more : (at : ℕ) → ((k : ℕ) → k < at → k < length (row rows b) → At marks (get_or (row rows b) k 0) Unseen → ⊥) → IsSearchState rows marks (set passed b at) path done
  passed_more at fronts = record {
    marks_count = is.marks_count;
    passed_count = length-set passed b at ∙ is.passed_count;
    done_marked = is.done_marked;
    marked_done = is.marked_done;
    done_once = is.done_once;
    path_marked = is.path_marked;
    marked_path = is.marked_path;
    path_once = is.path_once;
    joined = is.joined;
    passed_seen = λ a k front below unseen. elim (same_number_or_not a b) [
      | inl same ↦ here_seen a k front below same (subst (λ (n : ℕ). At marks (get_or (row rows n) k 0) Unseen) same unseen)
      | inr other ↦ is.passed_seen a k (subst (λ (n : ℕ). k < n) (get_or-set_other passed b a at 0 other) front) below unseen
    ];
    done_seen = is.done_seen;
    earlier = is.earlier;
  }
    where
      here_seen : (a k : ℕ) → k < get_or (set passed b at) a 0 → k < length (row rows a) → a ≡ b → At marks (get_or (row rows b) k 0) Unseen → ⊥
      here_seen a k front below same =
          let place : k < length (row rows b) = subst (λ (n : ℕ). k < length (row rows n)) same below in
          let within : b < length passed = let long : length passed ≡ length rows = is.passed_count in let some : b < length rows = steps_from rows b _ (Contains-get_or (row rows b) k 0 place) in omega arith in
          fronts k (subst (λ (n : ℕ). k < n) (get_or-set_same passed b at 0 within) (subst (λ (n : ℕ). k < get_or (set passed b at) n 0) same front)) place

-- a node that is seen is done or on the path
seen_there : (rows : List (List ℕ)) (marks : List Mark) (passed path done : List ℕ) → IsSearchState rows marks passed path done → (a : ℕ) → a < length rows → (At marks a Unseen → ⊥) → Contains done a ⊎ Contains path a
seen_there rows marks passed path done is a below seen = by (get_or marks a Done) (within, get_or_default marks a (get_or marks a Done) Done within)
  where
    within : a < length marks
    within = let count : length marks ≡ length rows = is.marks_count in omega arith

    by : (m : Mark) → At marks a m → Contains done a ⊎ Contains path a
    by Unseen at = absurd (seen at)
    by OnPath at = inr (is.marked_path a at)
    by Done at = inl (is.marked_done a at)

-- each node of the path leads to its last one
pub leads_to_last : (rows : List (List ℕ)) (path front : List ℕ) (a : ℕ) → AllPairs (Reaches (Steps rows)) path → path ≡ front ++ a ∷ [] → (b : ℕ) → Contains path b → Reaches (Steps rows) b a
leads_to_last rows path front a joined last b there = to (Contains-push_cases front a b (subst (λ (xs : List ℕ). Contains xs b) last there))
  where
    to : Contains front b ⊎ (a ≡ b) → Reaches (Steps rows) b a
    to (inl before) = pairs_last (Reaches (Steps rows)) front a b (subst (AllPairs (Reaches (Steps rows))) last joined) before
    to (inr same) = subst (λ (n : ℕ). Reaches (Steps rows) n a) same here

-- all that is reached from a node that is done is done too, or the way leads over the path
module _ (rows : List (List ℕ)) (graph : IsGraph rows) (marks : List Mark) (passed path done : List ℕ) (is : IsSearchState rows marks passed path done) where
  done_or_path : (a b : ℕ) → Contains done a ⊎ Contains path a → Reaches (Steps rows) a b → Contains done b ⊎ ((z : ℕ) × Contains path z × Reaches (Steps rows) a z)
  done_or_path a b (inr there) way = inr (a, there, here)
  done_or_path a _ (inl there) here = inl there
  done_or_path a b (inl there) (on {b = by} step rest) = elim (done_or_path by b (seen_there rows marks passed path done is by (steps_to rows a by graph step) (is.done_seen a by there step)) rest) [
    | inl before ↦ inl before
    | inr over ↦ inr (over.0, over.1, on step over.2)
  ]

  -- all that follows from the last node of the path, where all of its row is seen
  pub follows_done : (a b : ℕ) → IsLast path a → SeesRow rows a marks → Follows (Steps rows) a b → IsOnCycle rows a ⊎ Contains done b
  follows_done a b last sees follows = elim (done_or_path follows.by b (seen_there rows marks passed path done is follows.by (steps_to rows a follows.by graph follows.step) (sees follows.by follows.step)) follows.rest) [
    | inl before ↦ inr before
    | inr over ↦ inl (record { by = follows.by; step = follows.step; rest = reaches_on (Steps rows) follows.by over.0 a over.2 (leads_to_last rows path (take (length path - 1) path) a is.joined last over.0 over.1) })
  ]

-- the last node of the path is done
module _ (rows : List (List ℕ)) (marks : List Mark) (passed path done : List ℕ) (b : ℕ) (is : IsSearchState rows marks passed (path ++ b ∷ []) done) where
  last_marked : At marks b OnPath
  last_marked = is.path_marked b (Contains-push path b)

  not_done : Contains done b → ⊥
  not_done there = marks_apart marks b b OnPath Done on_path_done last_marked (is.done_marked b there) refl

  other_on_path : (a : ℕ) → Contains path a → a ≢ b
  other_on_path a there same = front_lacks path b is.path_once (subst (Contains path) same there)

  pub closed : SeesRow rows b marks → ((n : ℕ) → Follows (Steps rows) b n → IsOnCycle rows b ⊎ Contains done n) → IsSearchState rows (set marks b Done) passed path (done ++ b ∷ [])
  closed sees follows = record {
    marks_count = length-set marks b Done ∙ is.marks_count;
    passed_count = is.passed_count;
    done_marked = λ a there. marked a (Contains-push_cases done b a there);
    marked_done = λ a at. elim (same_number_or_not a b) [
      | inl same ↦ subst (λ (k : ℕ). Contains (done ++ b ∷ []) k) (sym same) (Contains-push done b)
      | inr other ↦ Contains-append_left done (b ∷ []) a (is.marked_done a (at_of_set marks b Done a Done at other))
    ];
    done_once = distinct_push done b is.done_once not_done;
    path_marked = λ a there. at_set_other marks b Done a OnPath (other_on_path a there) (is.path_marked a (Contains-append_left path (b ∷ []) a there));
    marked_path = λ a at. front a (other_of_set marks b Done a OnPath last_marked.0 (λ same. on_path_done (sym same)) at) at;
    path_once = pairs_front (λ x y. x ≢ y) path b is.path_once;
    joined = pairs_front (Reaches (Steps rows)) path b is.joined;
    passed_seen = λ a k passes below at. is.passed_seen a k passes below (unseen _ at);
    done_seen = λ a n there step at. elim (Contains-push_cases done b a there) [
      | inl old ↦ is.done_seen a n old step (unseen n at)
      | inr same ↦ sees n (subst (λ (k : ℕ). Steps rows k n) (sym same) step) (unseen n at)
    ];
    earlier = λ i a n at way. before a n way i (at_push_cases done b i a at);
  }
    where
      marked : (a : ℕ) → Contains done a ⊎ (b ≡ a) → At (set marks b Done) a Done
      marked a (inl there) = at_set_other marks b Done a Done (λ same. not_done (subst (Contains done) same there)) (is.done_marked a there)
      marked a (inr same) = subst (λ (k : ℕ). At (set marks b Done) k Done) same (at_set_same marks b Done last_marked.0)

      front : (a : ℕ) → a ≢ b → At (set marks b Done) a OnPath → Contains path a
      front a other at = elim (Contains-push_cases path b a (is.marked_path a (at_of_set marks b Done a OnPath at other))) [ inl there ↦ there | inr same ↦ absurd (other (sym same)) ]

      unseen : (a : ℕ) → At (set marks b Done) a Unseen → At marks a Unseen
      unseen = unseen_before marks b Done last_marked.0 (λ same. unseen_done (sym same))

      before : (a n : ℕ) → Follows (Steps rows) a n → (i : ℕ) → At done i a ⊎ ((i ≡ length done) × (b ≡ a)) → IsOnCycle rows a ⊎ ((j : ℕ) × (j < i) × At (done ++ b ∷ []) j n)
      before a n way i (inl at) = elim (is.earlier i a n at way) [ inl cycle ↦ inl cycle | inr there ↦ inr (there.0, there.1, at_push done b there.0 n there.2) ]
      before a n way i (inr last) = elim (follows n (subst (λ (k : ℕ). Follows (Steps rows) k n) (sym last.1) way)) [
        | inl cycle ↦ inl (subst (IsOnCycle rows) last.1 cycle)
        | inr there ↦ inr (there.0, (let less : there.0 < length done = there.1 in let end : i ≡ length done = last.0 in omega arith), at_push done b there.0 n (there.1, there.2))
      ]

  pub closed_last : (new all : List ℕ) → SeesRow rows b marks → ((n : ℕ) → Follows (Steps rows) b n → IsOnCycle rows b ⊎ Contains done n) → new ≡ path → all ≡ done ++ b ∷ [] → IsSearchState rows (set marks b Done) passed new all
  closed_last new all sees follows same more = subst (λ (xs : List ℕ). IsSearchState rows (set marks b Done) passed xs all) (sym same) (subst (IsSearchState rows (set marks b Done) passed path) (sym more) (closed sees follows))

-- a search that has seen all is done with all
pub ends : (rows : List (List ℕ)) (marks : List Mark) (passed done : List ℕ) → IsSearchState rows marks passed [] done → ((a : ℕ) → a < length rows → At marks a Unseen → ⊥) → IsFinish rows done
ends rows marks passed done is seen = record {
  all = λ a. ((λ there. let at = is.done_marked a there in let below : a < length marks = at.0 in let count : length marks ≡ length rows = is.marks_count in omega arith), whole a);
  distinct = is.done_once;
  behind = λ i j a b at other way. elim (is.earlier i a b at way) [
    | inl cycle ↦ inl cycle
    | inr there ↦ elim (cases_lt j i) [
      | inl less ↦ inr less
      | inr past ↦ absurd (place_one done there.0 j b is.done_once there.2 other (let less : there.0 < i = there.1 in omega arith))
    ]
  ];
}
  where
    whole : (a : ℕ) → a < length rows → Contains done a
    whole a below = elim (seen_there rows marks passed [] done is a below (seen a below)) [ inl there ↦ there | inr path ↦ absurd (omega (arith, path.1)) ]

-- the front of a row that was passed
pub front_seen : (rows : List (List ℕ)) (marks : List Mark) (passed path done : List ℕ) → IsSearchState rows marks passed path done → (b at : ℕ)
    → ((k : ℕ) → get_or passed b 0 ≤ k → k < at → At marks (get_or (row rows b) k 0) Unseen → ⊥) → (k : ℕ) → k < at → k < length (row rows b) → At marks (get_or (row rows b) k 0) Unseen → ⊥
front_seen rows marks passed path done is b at fronts k before below = elim (cases_lt k (get_or passed b 0)) [
  | inl old ↦ is.passed_seen b k old below
  | inr new ↦ fronts k new before
]

-- and where all of it was, all of it is seen
pub row_seen : (rows : List (List ℕ)) (marks : List Mark) (b at : ℕ) → ((k : ℕ) → k < at → k < length (row rows b) → At marks (get_or (row rows b) k 0) Unseen → ⊥) → length (row rows b) ≤ at → SeesRow rows b marks
row_seen rows marks b at fronts past n step unseen =
    let below : step.0 < length (row rows b) = step.1 in
    fronts step.0 (omega arith) step.1 (subst (λ (k : ℕ). At marks k Unseen) (sym (get_or_default (row rows b) step.0 0 n step.1 ∙ step.2)) unseen)

pub last_is_marked : (rows : List (List ℕ)) (marks : List Mark) (passed path done : List ℕ) → IsSearchState rows marks passed path done → (a : ℕ) → IsLast path a → At marks a OnPath
last_is_marked rows marks passed path done is a last = is.path_marked a (subst (λ (xs : List ℕ). Contains xs a) (sym last) (Contains-push (take (length path - 1) path) a))

pub closing_lessens : (marks : List Mark) (a : ℕ) → At marks a OnPath → to_do (set marks a Done) < to_do marks
closing_lessens marks a at =
    let change : to_do (set marks a Done) + weight (get_or marks a OnPath) ≡ to_do marks + weight Done = sum_by-set weight marks a Done OnPath at.0 in
    let one : weight (get_or marks a OnPath) ≡ 1 = ap weight at.1 in
    omega arith

-- the same, as the row and the count were read
pub front_read : (rows : List (List ℕ)) (marks : List Mark) (passed path done : List ℕ) → IsSearchState rows marks passed path done → (b at from : ℕ) (found : List ℕ)
    → found ≡ row rows b → from ≡ get_or passed b from → b < length rows → ((k : ℕ) → from ≤ k → k < at → At marks (get_or found k 0) Unseen → ⊥) → (k : ℕ) → k < at → k < length (row rows b) → At marks (get_or (row rows b) k 0) Unseen → ⊥
front_read rows marks passed path done is b at from found same begins below fronts =
    let count : from ≡ get_or passed b 0 = begins ∙ get_or_default passed b from 0 (let long : length passed ≡ length rows = is.passed_count in omega arith) in
    front_seen rows marks passed path done is b at (λ k new before. subst (λ (xs : List ℕ). At marks (get_or xs k 0) Unseen → ⊥) same (fronts k (subst (λ (n : ℕ). n ≤ k) (sym count) new) before))
