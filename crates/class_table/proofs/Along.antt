-- What stands first on walks: of the items of a row, and along an order of nodes.
use Rattle.std.proofs.Common.{◌≡◌, ◌≢◌, ◌<◌, ◌≤◌, ◌+◌, ℕ, suc, true, false, is_some, List, [], ◌∷◌, ◌++◌, length, get_or, set, map, take, drop, Contains, Option, Some, None, inl, inr, refl, sym, ap, subst, ◌∙◌, arith, true≢false}
use Rattle.std.specs.Prelude.{flat_map, slice_index_or}
use Rattle.std.proofs.lemmas.List.{map-append, get_or_default, get_or-set_same, get_or-set_other, length-set, take_more, drop_more, take-append-drop}
use Rattle.clean_base.specs.Lists.{At}
use Rattle.reach_rows.specs.Graphs.{row, IsGraph, IsOrder}
use Rattle.reach_rows.specs.Walks.{Walk, none}
use Rattle.reach_rows.proofs.Paths.{steps_to}
use Rattle.reach_rows.proofs.Places.{same_number_or_not, at_one, at_set_same, at_of_set, place_one}
use Rattle.class_table.specs.Alongs.{first_some, taken, AreAlong, AreNext}
use Rattle.class_table.proofs.Walking.{walk_both, walk_one}

-- a list of lists of one
flat_ones : {A : Type 0} (xs : List A) → flat_map (λ (x : A). x ∷ []) xs ≡ xs
flat_ones [] = refl
flat_ones {A} (x ∷ xs) = ap (λ (zs : List A). x ∷ zs) (flat_ones xs)

-- one thing or else another
abbrev pub or_else : {X : Type 0} → Option X → Option X → Option X
or_else None y = y
or_else (Some x) y = Some x

pub first_both : {X : Type 0} (xs ys : List (Option X)) → first_some (xs ++ ys) ≡ or_else (first_some xs) (first_some ys)
first_both [] ys = refl
first_both (None ∷ xs) ys = first_both xs ys
first_both (Some x ∷ xs) ys = refl

pub first_next : {X : Type 0} (x : Option X) (xs : List (Option X)) → first_some (x ∷ xs) ≡ or_else x (first_some xs)
first_next None xs = refl
first_next (Some x) xs = refl

module _ {X : Type 0} (things : List (Option X)) where
  pub taken_both : (xs ys : List ℕ) → taken things (xs ++ ys) ≡ or_else (taken things xs) (taken things ys)
  taken_both xs ys = ap first_some (map-append (λ a. slice_index_or things a None) xs ys) ∙ first_both (map (λ a. slice_index_or things a None) xs) (map (λ a. slice_index_or things a None) ys)

  pub taken_next : (a : ℕ) (xs : List ℕ) → taken things (a ∷ xs) ≡ or_else (slice_index_or things a None) (taken things xs)
  taken_next a xs = first_next (slice_index_or things a None) (map (λ b. slice_index_or things b None) xs)

  module _ (rows : List (List ℕ)) where
    -- the first that is met on a walk from these nodes
    abbrev pub IsMet : List ℕ → Option X → Type 0
    IsMet nodes x = (met : List ℕ) × Walk (row rows) nodes met × (x ≡ taken things met)

    -- on a walk from a node it is the node's own, or else one below it
    pub met_own : (a : ℕ) (below : Option X) → IsMet (row rows a) below → IsMet (a ∷ []) (or_else (slice_index_or things a None) below)
    met_own a below (met, walk, is) = (a ∷ met, walk_one (row rows) a met walk, ap (or_else (slice_index_or things a None)) is ∙ sym (taken_next a met))

    -- from two lists it is the first of what is met from each
    pub met_both : (xs ys : List ℕ) (x y : Option X) → IsMet xs x → IsMet ys y → IsMet (xs ++ ys) (or_else x y)
    met_both xs ys x y (own, first, is) (rest, others, are) =
        (own ++ rest, walk_both (row rows) first others, ap (λ (z : Option X). or_else z y) is ∙ ap (or_else (taken things own)) are ∙ sym (taken_both own rest))

    -- and from the lists of several nodes
    pub met_flat : (found : List (Option X)) (starts : ℕ → List ℕ) (nodes : List ℕ) → ((a : ℕ) → Contains nodes a → IsMet (starts a) (slice_index_or found a None)) → IsMet (flat_map starts nodes) (taken found nodes)
    met_flat found starts [] each = ([], none, refl)
    met_flat found starts (a ∷ nodes) each =
        subst (IsMet (flat_map starts (a ∷ nodes))) (sym (first_next (slice_index_or found a None) (map (λ b. slice_index_or found b None) nodes)))
        (met_both (starts a) (flat_map starts nodes) (slice_index_or found a None) (taken found nodes) (each a (0, (omega arith), refl))
        (met_flat found starts nodes (λ b has. each b (suc has.0, (let below = has.1 in omega (arith, below)), has.2))))

    pub met_each : (found : List (Option X)) (nodes : List ℕ) → ((a : ℕ) → Contains nodes a → IsMet (a ∷ []) (slice_index_or found a None)) → IsMet nodes (taken found nodes)
    met_each found nodes each = subst (λ (ns : List ℕ). IsMet ns (taken found nodes)) (flat_ones nodes) (met_flat found (λ a. a ∷ []) nodes each)

-- the next item of a row

pub taken_none : {X : Type 0} (things : List (Option X)) (nodes : List ℕ) (i : ℕ) → i < length nodes → ((x : X) → slice_index_or things (get_or nodes i 0) None ≡ Some x → ⊥) → taken things (take i nodes) ≡ None → taken things (take (i + 1) nodes) ≡ None
taken_none {X} things nodes i below lacks before =
    ap (taken things) (take_more nodes i 0 below) ∙ taken_both things (take i nodes) (get_or nodes i 0 ∷ []) ∙ ap (λ (x : Option X). or_else x (taken things (get_or nodes i 0 ∷ []))) before ∙ last (slice_index_or things (get_or nodes i 0) None) lacks where
      last : (o : Option X) → ((x : X) → o ≡ Some x → ⊥) → first_some (o ∷ []) ≡ None
      last None lacks = refl
      last (Some x) lacks = absurd (lacks x refl)

pub taken_some : {X : Type 0} (things : List (Option X)) (nodes : List ℕ) (i : ℕ) (x : X) → i < length nodes → slice_index_or things (get_or nodes i 0) None ≡ Some x → taken things (take i nodes) ≡ None → Some x ≡ taken things nodes
taken_some {X} things nodes i x below is before = sym (
    ap (taken things) (sym (take-append-drop i nodes)) ∙ taken_both things (take i nodes) (drop i nodes) ∙ ap (λ (y : Option X). or_else y (taken things (drop i nodes))) before
    ∙ ap (taken things) (drop_more nodes i 0 below) ∙ taken_next things (get_or nodes i 0) (drop (i + 1) nodes)
    ∙ ap (λ (y : Option X). or_else y (taken things (drop (i + 1) nodes))) is)

-- a node has its own thing or is given another

none_of : {X : Type 0} (o : Option X) → is_some o ≡ false → o ≡ None
none_of None lacks = refl
none_of (Some x) lacks = absurd (true≢false lacks)

written_there : {X : Type 0} (old : List (Option X)) (x : ℕ) (o v : Option X) → x < length old → o ≡ get_or old x o → o ≡ None → slice_index_or (set old x v) x None ≡ or_else (slice_index_or old x None) v
written_there {X} old x o v below read nothing = get_or-set_same old x v None below ∙ sym (ap (λ (y : Option X). or_else y v) (get_or_default old x None o below ∙ sym read ∙ nothing))

kept_there : {X : Type 0} (old : List (Option X)) (x : ℕ) (o v : Option X) → x < length old → o ≡ get_or old x o → is_some o ≡ true → slice_index_or old x None ≡ or_else (slice_index_or old x None) v
kept_there {X} old x o v below read some = by o (get_or_default old x None o below ∙ sym read) some where
  by : (p : Option X) → slice_index_or old x None ≡ p → is_some p ≡ true → slice_index_or old x None ≡ or_else (slice_index_or old x None) v
  by None same has = absurd (true≢false (sym has))
  by (Some y) same has = same ∙ sym (ap (λ (z : Option X). or_else z v) same)

-- what is met from the nodes of the first so many places
abbrev pub AreMetTo : {X : Type 0} → List (List ℕ) → List ℕ → List (Option X) → ℕ → List (Option X) → Type 0
AreMetTo rows order things passed found = (j a : ℕ) → j < passed → At order j a → IsMet things rows (a ∷ []) (slice_index_or found a None)

-- the others have their own
abbrev pub AreOwnFrom : {X : Type 0} → List ℕ → List (Option X) → ℕ → List (Option X) → Type 0
AreOwnFrom order things passed found = (j a : ℕ) → passed ≤ j → At order j a → slice_index_or found a None ≡ slice_index_or things a None

-- how far the pass has come
pub record IsPassed {X : Type 0} (rows : List (List ℕ)) (order : List ℕ) (things : List (Option X)) (passed : ℕ) (found : List (Option X)) : Type 0 where
  pub count : length found ≡ length rows
  pub met : AreMetTo rows order things passed found
  pub own : AreOwnFrom order things passed found

module _ {X : Type 0} (rows : List (List ℕ)) (order : List ℕ) (graph : IsGraph rows) (is : IsOrder rows order) (things : List (Option X)) where
  -- what is met below the node of a place
  met_below : (i x : ℕ) (found : List (Option X)) → At order i x → AreMetTo rows order things i found → IsMet things rows (row rows x) (taken found (row rows x))
  met_below i x found at met = met_each things rows found (row rows x) (λ b step.
      let there = (is.all b).1 (steps_to rows x b graph step) in
      let other : At order there.0 b = (there.1, there.2) in
      met there.0 b (is.behind i there.0 x b at other step) other)

  -- one node more: its own, or what is met below it
  pub met_more : (i x : ℕ) (old new : List (Option X)) → At order i x → AreMetTo rows order things i old → AreOwnFrom order things i old
      → slice_index_or new x None ≡ or_else (slice_index_or old x None) (taken old (row rows x)) → ((a : ℕ) → a ≢ x → slice_index_or new a None ≡ slice_index_or old a None) → AreMetTo rows order things (i + 1) new
  met_more i x old new at met own this others j a less other = elim (same_number_or_not a x) [
    | inl same ↦
        let value : slice_index_or new x None ≡ or_else (slice_index_or things x None) (taken old (row rows x)) = this ∙ ap (λ (y : Option X). or_else y (taken old (row rows x))) (own i x (omega arith) at) in
        subst (λ (n : ℕ). IsMet things rows (n ∷ []) (slice_index_or new n None)) (sym same)
        (subst (IsMet things rows (x ∷ [])) (sym value) (met_own things rows x (taken old (row rows x)) (met_below i x old at met)))
    | inr apart ↦
        let earlier : j < i = elim (same_number_or_not j i) [
          | inl again ↦ absurd (apart (at_one order i a x (subst (λ (k : ℕ). At order k a) again other) at))
          | inr differ ↦ omega (arith, less, differ)
        ] in
        subst (IsMet things rows (a ∷ [])) (sym (others a apart)) (met j a earlier other)
  ]

  pub own_more : (i x : ℕ) (old new : List (Option X)) → At order i x → AreOwnFrom order things i old → ((a : ℕ) → a ≢ x → slice_index_or new a None ≡ slice_index_or old a None) → AreOwnFrom order things (i + 1) new
  own_more i x old new at own others j a past other =
      let apart : a ≢ x = λ same. place_one order i j x is.distinct at (subst (λ (n : ℕ). At order j n) same other) (omega (arith, past)) in
      others a apart ∙ own j a (omega (arith, past)) other

  -- it has none and is given what is met below it
  pub pass_given : (i x : ℕ) (old new : List (Option X)) (o v : Option X) → At order i x → x < length rows → o ≡ get_or old x o → is_some o ≡ false → v ≡ taken old (row rows x) → new ≡ set old x v → IsPassed rows order things i old
      → IsPassed rows order things (i + 1) new
  pass_given i x old new o v at below read lacks is_met writes was = subst (IsPassed rows order things (i + 1)) (sym writes) by where
    within : x < length old
    within = let count = was.count in omega (arith, below, count)

    others : (a : ℕ) → a ≢ x → slice_index_or (set old x v) a None ≡ slice_index_or old a None
    others a apart = get_or-set_other old x a v None apart

    by : IsPassed rows order things (i + 1) (set old x v)
    by = record {
      count = length-set old x v ∙ was.count;
      met = met_more i x old (set old x v) at was.met was.own (written_there old x o v within read (none_of o lacks) ∙ ap (or_else (slice_index_or old x None)) is_met) others;
      own = own_more i x old (set old x v) at was.own others;
    }

  -- it has one
  pub pass_kept : (i x : ℕ) (old new : List (Option X)) (o : Option X) → At order i x → x < length rows → o ≡ get_or old x o → is_some o ≡ true → new ≡ old → IsPassed rows order things i old → IsPassed rows order things (i + 1) new
  pass_kept i x old new o at below read has same was = subst (IsPassed rows order things (i + 1)) (sym same) (record {
    count = was.count;
    met = met_more i x old old at was.met was.own (kept_there old x o (taken old (row rows x)) (let count = was.count in omega (arith, below, count)) read has) (λ a apart. refl);
    own = own_more i x old old at was.own (λ a apart. refl);
  })

  pub pass_start : (found : List (Option X)) → found ≡ things → length things ≡ length rows → IsPassed rows order things 0 found
  pass_start found same count = record {
    count = ap length same ∙ count;
    met = λ j a less at. absurd (omega (arith, less));
    own = λ j a past at. ap (λ (l : List (Option X)). slice_index_or l a None) same;
  }

  pub pass_ends : (passed : ℕ) (found : List (Option X)) → length order ≤ passed → IsPassed rows order things passed found → AreAlong rows things found
  pass_ends passed found all was = record {
    count = was.count;
    each = λ a x at.
        let within : a < length rows = (let below = at.0 in let count = was.count in omega (arith, below, count)) in
        let there = (is.all a).1 within in
        let own : IsMet things rows (a ∷ []) (slice_index_or found a None) = was.met there.0 a (let inside = there.1 in omega (arith, inside, all)) (there.1, there.2) in
        subst (IsMet things rows (a ∷ [])) (get_or_default found a None x at.0 ∙ at.1) own;
  }

-- the first ones, and where there is none the others

pub record AreEitherTo {X : Type 0} (first others : List (Option X)) (passed : ℕ) (places : List (Option X)) : Type 0 where
  pub count : length places ≡ length first
  pub done : (i : ℕ) (x y r : Option X) → i < passed → At first i x → At others i y → At places i r → r ≡ first_some (x ∷ y ∷ [])
  pub left : (i : ℕ) (x r : Option X) → passed ≤ i → At first i x → At places i r → r ≡ x

first_of_two : {X : Type 0} (x y : Option X) → x ≡ None → first_some (x ∷ y ∷ []) ≡ y
first_of_two {X} x y nothing = ap (λ (z : Option X). first_some (z ∷ y ∷ [])) nothing ∙ by y where
  by : (z : Option X) → first_some (z ∷ []) ≡ z
  by None = refl
  by (Some w) = refl

first_is : {X : Type 0} (x y : Option X) → is_some x ≡ true → first_some (x ∷ y ∷ []) ≡ x
first_is None y has = absurd (true≢false (sym has))
first_is (Some x) y has = refl

module _ {X : Type 0} (first others : List (Option X)) (passed : ℕ) (old new : List (Option X)) (o : Option X) (within : passed < length old) (read : o ≡ get_or old passed o) (was : AreEitherTo first others passed old) where
  here_now : At old passed o
  here_now = (within, sym read)

  pub either_given : (v : Option X) → is_some o ≡ false → v ≡ get_or others passed None → new ≡ set old passed v → AreEitherTo first others (passed + 1) new
  either_given v lacks given writes = subst (AreEitherTo first others (passed + 1)) (sym writes) (record {
    count = length-set old passed v ∙ was.count;
    done = λ i x y r less at other there. elim (same_number_or_not i passed) [
      | inl same ↦
          let own : o ≡ x = was.left passed x o (omega arith) (subst (λ (n : ℕ). At first n x) same at) here_now in
          let value : v ≡ r = at_one (set old passed v) passed v r (at_set_same old passed v within) (subst (λ (n : ℕ). At (set old passed v) n r) same there) in
          let two : At others passed y = subst (λ (n : ℕ). At others n y) same other in
          let its : v ≡ y = given ∙ get_or_default others passed None y two.0 ∙ two.1 in
          sym value ∙ its ∙ sym (first_of_two x y (sym own ∙ none_of o lacks))
      | inr apart ↦ was.done i x y r (omega (arith, less, apart)) at other (at_of_set old passed v i r there apart)
    ];
    left = λ i x r past at there. was.left i x r (omega (arith, past)) at (at_of_set old passed v i r there (λ same. let equal : i ≡ passed = same in omega (arith, past, equal)));
  })

  pub either_kept : is_some o ≡ true → new ≡ old → AreEitherTo first others (passed + 1) new
  either_kept has same_list = subst (AreEitherTo first others (passed + 1)) (sym same_list) (record {
    count = was.count;
    done = λ i x y r less at other there. elim (same_number_or_not i passed) [
      | inl same ↦
          let own : o ≡ x = was.left passed x o (omega arith) (subst (λ (n : ℕ). At first n x) same at) here_now in
          let value : o ≡ r = at_one old passed o r here_now (subst (λ (n : ℕ). At old n r) same there) in
          sym value ∙ own ∙ sym (first_is x y (subst (λ (z : Option X). is_some z ≡ true) own has))
      | inr apart ↦ was.done i x y r (omega (arith, less, apart)) at other there
    ];
    left = λ i x r past at there. was.left i x r (omega (arith, past)) at there;
  })

-- lists that were read

pub along_read : {X : Type 0} (rows read : List (List ℕ)) (things got found : List (Option X)) → read ≡ rows → got ≡ things → AreAlong read got found → AreAlong rows things found
along_read rows read things got found same was are = subst (λ (l : List (List ℕ)). AreAlong l things found) same (subst (λ (l : List (Option _)). AreAlong read l found) was are)

pub next_read : {X : Type 0} (rows read : List (List ℕ)) (things got found : List (Option X)) → read ≡ rows → got ≡ things → AreNext read got found → AreNext rows things found
next_read rows read things got found same was are = subst (λ (l : List (List ℕ)). AreNext l things found) same (subst (λ (l : List (Option _)). AreNext read l found) was are)

pub item_read : {X : Type 0} (things got : List (Option X)) (i : ℕ) → got ≡ things → i < length got → At things i (slice_index_or got i None)
item_read {X} things got i same below = subst (λ (l : List (Option X)). At l i (slice_index_or got i None)) same (below, get_or_default got i (slice_index_or got i None) None below)
