-- Rows of numbers as they grow.
use Rattle.std.proofs.Common.{◌≡◌, ◌↔◌, ◌+◌, ◌<◌, ◌≤◌, ◌^◌, ℕ, List, [], ◌∷◌, ◌++◌, Contains, All, length, get_or, take, map, refl, sym, ap, ◌∙◌, subst, inl, inr, arith, append_assoc, append-nil}
use Rattle.std.specs.List.Sorted.{IsStrictlyIncreasing}
use Rattle.std.proofs.lemmas.Bool.{cases_eq}
use Rattle.std.proofs.lemmas.List.{length-map, length_push, get_or_default, get_or_append_left, get_or_push, get_or-map, map_more, same_from_push}
use Rattle.std.proofs.lemmas.List.Elements.{All-contains, All-same, Contains-get_or}
use Rattle.clean_base.specs.Lists.{At}
use Rattle.clean_base.specs.Limits.{most_stmts}
use Rattle.flat_rows.specs.Rows.{AddsToLast}
use Rattle.jimple_tree.specs.WellFormed.{BodyFits}
use Rattle.jimple_tree.specs.declared.tree.Body.{Body}
use Rattle.jimple_tree.specs.Successors.{Succ}
use Rattle.statement_graph.specs.Successors.{AreRows, IsRow, IsShifted}
use Rattle.statement_graph.proofs.Places.{succ_below}

-- items more in the last row

last_of : {X : Type 0} (xs : List X) → 0 < length xs → (before : List X) × (last : X) × (xs ≡ before ++ last ∷ [])
last_of [] some = absurd (omega arith)
last_of (x ∷ []) some = ([], x, refl)
last_of {X} (x ∷ (y ∷ ys)) some = let (before, last, is) = last_of (y ∷ ys) (omega arith) in (x ∷ before, last, ap (λ (zs : List X). x ∷ zs) is)

pub adds_none : {X : Type 0} (rows : List (List X)) → 0 < length rows → AddsToLast rows [] rows
adds_none {X} rows some = let (before, last, is) = last_of rows some in (before, last, is, is ∙ ap (λ (r : List X). before ++ r ∷ []) (sym (append-nil last)))

pub adds_more : {X : Type 0} (old mid new : List (List X)) (xs ys : List X) → AddsToLast old xs mid → AddsToLast mid ys new → AddsToLast old (xs ++ ys) new
adds_more {X} old mid new xs ys (before, last, was, is) (front, row, then, now) =
    let both : (before ≡ front) × (last ++ xs ≡ row) = same_from_push before front (last ++ xs) row (sym is ∙ then) in
    (before, last, was, now ∙ ap (λ (rs : List (List X)). rs ++ (row ++ ys) ∷ []) (sym both.0) ∙ ap (λ (r : List X). before ++ (r ++ ys) ∷ []) (sym both.1) ∙ ap (λ (r : List X). before ++ r ∷ []) (append_assoc last xs ys))

pub adds_some : {X : Type 0} (old new : List (List X)) (xs : List X) → AddsToLast old xs new → 0 < length new
adds_some old new xs (before, last, was, is) = omega (arith, ap length is, length_push before (last ++ xs))

pub adds_row : {X : Type 0} (old mid new : List (List X)) (xs : List X) → mid ≡ old ++ [] ∷ [] → AddsToLast mid xs new → new ≡ old ++ xs ∷ []
adds_row {X} old mid new xs opened (before, last, was, is) =
    let both : (before ≡ old) × (last ≡ []) = same_from_push before old last [] (sym was ∙ opened) in
    is ∙ ap (λ (rs : List (List X)). rs ++ (last ++ xs) ∷ []) both.0 ∙ ap (λ (r : List X). old ++ (r ++ xs) ∷ []) both.1

pub opened_some : {X : Type 0} (old new : List (List X)) → new ≡ old ++ [] ∷ [] → 0 < length new
opened_some old new is = omega (arith, ap length is, length_push old [])

pub adds_mapped : {X Y : Type 0} (f : X → Y) (xs : List X) (i : ℕ) (x : X) (old mid new : List (List Y)) → i < length xs → x ≡ get_or xs i x → AddsToLast old (map f (take i xs)) mid → AddsToLast mid (f x ∷ []) new → AddsToLast old (map f (take (i + 1) xs)) new
adds_mapped {X} {Y} f xs i x old mid new below is before one =
    let next : map f (take (i + 1) xs) ≡ map f (take i xs) ++ f x ∷ [] = map_more f xs i x below ∙ ap (λ (z : X). map f (take i xs) ++ f z ∷ []) (sym is) in
    subst (λ (ys : List Y). AddsToLast old ys new) (sym next) (adds_more old mid new (map f (take i xs)) (f x ∷ []) before one)

-- places with a number added to each

shift_rises : (first : ℕ) (xs : List ℕ) → IsStrictlyIncreasing xs → IsStrictlyIncreasing (map (λ (t : ℕ). first + t) xs)
shift_rises first xs up k below =
    let long : length (map (λ (t : ℕ). first + t) xs) ≡ length xs = length-map xs (λ (t : ℕ). first + t) in
    let one : get_or (map (λ (t : ℕ). first + t) xs) k 0 ≡ first + get_or xs k 0 = get_or-map (λ (t : ℕ). first + t) xs k 0 0 (omega (arith, below, long)) in
    let two : get_or (map (λ (t : ℕ). first + t) xs) (k + 1) 0 ≡ first + get_or xs (k + 1) 0 = get_or-map (λ (t : ℕ). first + t) xs (k + 1) 0 0 (omega (arith, below, long)) in
    let less = up k (omega (arith, below, long)) in
    omega (arith, one, two, less)

shift_has : (first : ℕ) (xs : List ℕ) (q : ℕ) → Contains (map (λ (t : ℕ). first + t) xs) q ↔ ((u : ℕ) × (q ≡ first + u) × Contains xs u)
shift_has first xs q = (there, back) where
  long : length (map (λ (t : ℕ). first + t) xs) ≡ length xs
  long = length-map xs (λ (t : ℕ). first + t)

  there : Contains (map (λ (t : ℕ). first + t) xs) q → (u : ℕ) × (q ≡ first + u) × Contains xs u
  there (k, below, is) =
      let within : k < length xs = omega (arith, below, long) in
      (get_or xs k 0, sym is ∙ get_or-map (λ (t : ℕ). first + t) xs k 0 q within, Contains-get_or xs k 0 within)

  back : (u : ℕ) × (q ≡ first + u) × Contains xs u → Contains (map (λ (t : ℕ). first + t) xs) q
  back (u, e, (k, below, is)) = (k, omega (arith, below, long), get_or-map (λ (t : ℕ). first + t) xs k u q below ∙ ap (λ (t : ℕ). first + t) is ∙ sym e)

pub shifted_is : (first : ℕ) (places xs ys : List ℕ) → IsStrictlyIncreasing xs → ((t : ℕ) → Contains xs t ↔ Contains places t) → ys ≡ xs → IsShifted first places (map (λ (t : ℕ). first + t) ys)
shifted_is first places xs ys up same is = subst (λ (zs : List ℕ). IsShifted first places (map (λ (t : ℕ). first + t) zs)) (sym is) record {
  ascending = shift_rises first xs up;
  exact = λ q. (
    (λ has. let (u, e, within) = (shift_has first xs q).0 has in (u, e, (same u).0 within)),
    (λ h. (shift_has first xs q).1 (h.0, h.1, (same h.0).1 h.2)),
  );
}

-- what holds of places holds of them in order
pub in_order_fit : (P : ℕ → Type 0) (places xs ys : List ℕ) → ((u : ℕ) → Contains xs u ↔ Contains places u) → ys ≡ xs → All P places → All P ys
in_order_fit P places xs ys same copied all = All-same P ys xs copied (λ k d below. All-contains P places (get_or xs k d) all ((same (get_or xs k d)).0 (Contains-get_or xs k d below)))

-- the numbers fit
pub numbers_fit : (b : Body) (first s : ℕ) (list : List ℕ) → BodyFits b → first + length b.stmts ≤ most_stmts → ((t : ℕ) → Contains list t ↔ Succ b s t) → All (λ (t : ℕ). first + t < 2 ^ 32) list
numbers_fit b first s list fits few exact k d below =
    let has : Contains list (get_or list k d) = (k, below, get_or_default list k (get_or list k d) d below) in
    let less = succ_below b s (get_or list k d) fits ((exact (get_or list k d)).0 has) in
    omega (arith, less, few)

-- a list that wasn't put in order yet has a statement's successors
pub left_exact : (b : Body) (items first now : List (List ℕ)) (s : ℕ) → first ≡ items → get_or now s [] ≡ get_or first s [] → s < length b.stmts → ((n t : ℕ) → n < length b.stmts → Contains (get_or items n []) t ↔ Succ b n t) → (t : ℕ) → Contains (get_or now s []) t ↔ Succ b s t
left_exact b items first now s are same below exact t =
    let list : get_or items s [] ≡ get_or now s [] = ap (λ (ls : List (List ℕ)). get_or ls s []) (sym are) ∙ sym same in
    subst (λ (xs : List ℕ). Contains xs t ↔ Succ b s t) list (exact s t below)

-- the rows of a body

abbrev pub RowsBehind : Body → ℕ → ℕ → List (List ℕ) → List (List ℕ) → Type 0
RowsBehind b first n old new = (more : List (List ℕ)) × AreRows b first n more × (new ≡ old ++ more)

pub rows_none : (b : Body) (first : ℕ) (old : List (List ℕ)) → RowsBehind b first 0 old old
rows_none b first old = ([], record { counted = refl; each = λ s row at. absurd (let below = at.0 in omega (arith, below)) }, sym (append-nil old))

row_is : (b : Body) (first s : ℕ) (list row : List ℕ) → ((t : ℕ) → Contains list t ↔ Succ b s t) → IsShifted first list row → IsRow b first s row
row_is b first s list row exact shifted = record {
  ascending = shifted.ascending;
  exact = λ q. (
    (λ has. let (u, e, within) = (shifted.exact q).0 has in (u, e, (exact u).0 within)),
    (λ h. (shifted.exact q).1 (h.0, h.1, (exact h.0).1 h.2)),
  );
}

pub rows_more : (b : Body) (first n : ℕ) (list : List ℕ) (old mid new : List (List ℕ)) → ((t : ℕ) → Contains list t ↔ Succ b n t) → RowsBehind b first n old mid → ((row : List ℕ) × IsShifted first list row × (new ≡ mid ++ row ∷ [])) → RowsBehind b first (n + 1) old new
rows_more b first n list old mid new exact (more, are, behind) (row, shifted, is) = (
  more ++ row ∷ [],
  record {
    counted = let e = length_push more row in let c = are.counted in omega (arith, e, c);
    each = λ s r at. elim (cases_eq s n) [
      | inl same ↦
          let here : At (more ++ row ∷ []) n r = subst (λ (i : ℕ). At (more ++ row ∷ []) i r) same at in
          let one : row ≡ r = sym (get_or_push more row r n are.counted) ∙ here.1 in
          subst (λ (i : ℕ). IsRow b first i r) (sym same) (subst (IsRow b first n) one (row_is b first n list row exact shifted))
      | inr other ↦
          let e = length_push more row in
          let c = are.counted in
          let within = at.0 in
          let less : s < length more = omega (arith, e, c, within, other) in
          are.each s r (less, sym (get_or_append_left more (row ∷ []) r s less) ∙ at.1)
    ];
  },
  is ∙ ap (λ (rs : List (List ℕ)). rs ++ row ∷ []) behind ∙ append_assoc old more (row ∷ []),
)
