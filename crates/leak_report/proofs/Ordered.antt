-- A machine has one report: two ascending lists of the same items are one, and two lists of one set have the same items.
-- Below stand the order of lines, `Shows` and `Reports` (specs/Report.antt); above stands what speaks of two reports.
use Rattle.std.specs.Prelude.{◌≡◌, ◌≢◌, ◌⊎◌, Bool, true, false, nat_lt, ℕ, suc, ◌+◌, ◌≤◌, List, [], ◌∷◌, length, map, Contains, AllPairs, remove, IsPermutation, IsSorted}
use Rattle.std.specs.Cmp.{IsTotalOrder, IsStrictWeakOrder}
use Rattle.std.specs.Ordering.{is_lt, ordering_reverse, ordering_then}
use Rattle.std.specs.declared.cmp.Ordering.{Ordering}
use Rattle.std.specs.declared.cmp.Ordering.TheVariants.{Less, Equal, Greater}
use Rattle.std.specs.List.{sum_by}
use Rattle.std.specs.FinMap.{nat_cmp-IsAntisymmetric, slice_cmp-IsAntisymmetric}
use Rattle.std.proofs.Common.{arith, sym, ◌∙◌, ap, subst, inl, inr, refl, cond, get_or}
use Rattle.std.proofs.lemmas.Cmp.{nat_cmp_total, nat_list_cmp_total, then_total, on_total}
use Rattle.std.proofs.lemmas.List.Edits.{length-remove}
use Rattle.std.proofs.lemmas.List.Elements.{Contains-append_cases, Contains-push_cases}
use Rattle.std.proofs.lemmas.List.Sorted.{ranks_by, sorted_far, sum_by-IsPermutation, Contains-permutation, IsPermutation-refl, IsPermutation-sym, IsPermutation-cons, IsPermutation-trans, IsPermutation-map, IsPermutation-remove}
use Rattle.std.proofs.lemmas.List.Sums.{sum_by-cons, sum_by-le, get_or-le-sum_by}
use Rattle.ifds_model.specs.Machine.{Machine}
use Rattle.ifds_model.specs.Runs.{IsEdge, IsContext, IsLeak, Lists}
use Rattle.ifds_model.specs.Count.{no_more_than, one_count}
use Rattle.ifds_model.specs.declared.node.Leak.{Leak}
use Rattle.program_code.specs.App.{App}
use Rattle.leak_report.specs.declared.report.Line.{Line}
use Rattle.leak_report.specs.Report.{line_of, line_order, report_text, Shows, Reports}

-- of two items neither of which is before the other, the order says that they tie
tie : (p q : Ordering) → p ≡ ordering_reverse q → is_lt p ≡ false → is_lt q ≡ false → p ≡ Equal
tie Less q back p_not q_not = cc
tie Equal q back p_not q_not = refl
tie Greater Less back p_not q_not = cc
tie Greater Equal back p_not q_not = cc
tie Greater Greater back p_not q_not = cc

-- 1 where the test passes
one_if : Bool → ℕ
one_if b = cond b 1 0

one_if-none : (b : Bool) → one_if b ≤ 0 → b ≡ false
unfolding one_if
one_if-none true none = absurd (omega arith)
one_if-none false none = refl

none_if : (b : Bool) → b ≡ false → one_if b ≤ 0
unfolding one_if
none_if b e = rw e (omega arith)

module _ {X : Type 0} {R : X → X → Ordering} (total : IsTotalOrder R) where
  before_test : IsStrictWeakOrder (λ (x y : X). is_lt (R x y))
  before_test = ranks_by total (λ (x : X). x)

  -- how many items of a list stand before x
  before : X → X → ℕ
  before x y = one_if (is_lt (R y x))

  none_before : (x : X) (xs : List X) → IsSorted R (x ∷ xs) → sum_by (before x) (x ∷ xs) ≤ 0
  unfolding before
  none_before x xs up =
      let each = sum_by-le (before x) 0 (x ∷ xs) (λ k d within. none_if _ (sorted_far (λ (a b : X). is_lt (R a b)) before_test (x ∷ xs) up 0 k d (omega arith) within)) in
      omega (arith, each)

  not_before : (x y : X) (ys : List X) → sum_by (before x) (y ∷ ys) ≤ 0 → is_lt (R y x) ≡ false
  unfolding before
  not_before x y ys none = one_if-none (is_lt (R y x)) (omega (arith, none, get_or-le-sum_by (before x) (y ∷ ys) 0 y (omega arith)))

  tail_sorted : (x : X) (xs : List X) → IsSorted R (x ∷ xs) → IsSorted R xs
  tail_sorted x xs up = λ k d low high.
      let next : suc k + 1 ≡ suc (k + 1) = omega arith in
      subst (λ (n : ℕ). is_lt (R (get_or (x ∷ xs) n d) (get_or xs k d)) ≡ false) next (up (suc k) d (omega arith) (omega arith))

  module _ (exact : (x y : X) → R x y ≡ Equal → x ≡ y) where
    heads_same : (x y : X) (xs ys : List X) → ((f : X → ℕ) → sum_by f (y ∷ ys) ≡ sum_by f (x ∷ xs)) → IsSorted R (x ∷ xs) → IsSorted R (y ∷ ys) → y ≡ x
    heads_same x y xs ys same up more_up =
        let y_not : is_lt (R y x) ≡ false = not_before x y ys (omega (arith, same (before x), none_before x xs up)) in
        let x_not : is_lt (R x y) ≡ false = not_before y x xs (omega (arith, same (before y), none_before y ys more_up)) in
        exact y x (tie (R y x) (R x y) (total.antisymm y x) y_not x_not)

    same_sums : (xs ys : List X) → ((f : X → ℕ) → sum_by f ys ≡ sum_by f xs) → IsSorted R xs → IsSorted R ys → ys ≡ xs
    same_sums [] [] same up more_up = refl
    same_sums [] (y ∷ ys) same up more_up = absurd (omega (arith, same (λ _. 1), sum_by-cons (λ (_ : X). 1) y ys))
    same_sums (x ∷ xs) [] same up more_up = absurd (omega (arith, same (λ _. 1), sum_by-cons (λ (_ : X). 1) x xs))
    same_sums (x ∷ xs) (y ∷ ys) same up more_up =
        let head : y ≡ x = heads_same x y xs ys same up more_up in
        let rest : ys ≡ xs = same_sums xs ys (λ f. omega (arith, same f, sum_by-cons f x xs, sum_by-cons f y ys, ap f head)) (tail_sorted x xs up) (tail_sorted y ys more_up) in
        cc

-- two ascending lists of the same items are one
pub sorted_once : {X : Type 0} {R : X → X → Ordering} → IsTotalOrder R → ((x y : X) → R x y ≡ Equal → x ≡ y) → (xs ys : List X) → IsPermutation xs ys → IsSorted R xs → IsSorted R ys → ys ≡ xs
sorted_once total exact xs ys moved up more_up = same_sums total exact xs ys (λ f. sum_by-IsPermutation f xs ys moved) up more_up

module _ {X : Type 0} where
  cons_cases : (x : X) (xs : List X) (y : X) → Contains (x ∷ xs) y → (x ≡ y) ⊎ Contains xs y
  cons_cases x xs y has = elim (Contains-append_cases (x ∷ []) xs y has) [
    | inl first ↦ elim (Contains-push_cases [] x y first) [ inl none ↦ absurd (omega (arith, none.1)) | inr same ↦ inl same ]
    | inr later ↦ inr later
  ]

  -- a list of distinct items that all stand in a list which is no longer has the items of that list
  filled : (xs ys : List X) → AllPairs (λ a b. a ≢ b) xs → ((x : X) → Contains xs x → Contains ys x) → length ys ≤ length xs → IsPermutation xs ys
  filled [] [] d each short = IsPermutation-refl []
  filled [] (y ∷ ys) d each short = absurd (omega arith)
  filled (x ∷ xs) ys d each short =
      let at : Contains ys x = each x (0, omega arith, refl) in
      let moved : IsPermutation ys (x ∷ remove ys at.0) = IsPermutation-remove ys at.0 x at.1 (sym at.2) in
      let distinct : AllPairs (λ a b. a ≢ b) xs = λ i j e below within. d (suc i) (suc j) e (omega arith) (omega arith) in
      let rest : (y : X) → Contains xs y → Contains (remove ys at.0) y = λ y has.
      elim (cons_cases x (remove ys at.0) y (Contains-permutation ys (x ∷ remove ys at.0) y moved (each y (suc has.0, omega (arith, has.1), has.2)))) [
        | inl same ↦ absurd (d 0 (suc has.0) y (omega arith) (omega (arith, has.1)) (same ∙ sym has.2))
        | inr there ↦ there
      ] in
      let tails = filled xs (remove ys at.0) distinct rest (omega (arith, short, length-remove ys at.0 at.1)) in
      IsPermutation-trans (x ∷ xs) (x ∷ remove ys at.0) ys (IsPermutation-cons x xs (remove ys at.0) tails) (IsPermutation-sym ys (x ∷ remove ys at.0) moved)

-- two lists of one set have the same items
pub listed_permutation : {X : Type 0} (set : X → Type 0) (xs ys : List X) → Lists set xs → Lists set ys → IsPermutation xs ys
listed_permutation set xs ys a b =
    filled xs ys a.distinct (λ x has. b.whole x (a.sound x has)) (no_more_than ys xs b.distinct (λ x has. a.whole x (b.sound x has)))

pub line_order_total : IsTotalOrder line_order
line_order_total =
    then_total (on_total (λ (l : Line). l.sink.0) nat_cmp_total) (then_total (on_total (λ (l : Line). l.source.0) nat_cmp_total) (on_total (λ (l : Line). l.path) nat_list_cmp_total))

-- where two comparisons tie one after the other, each ties
both_tie : (p q : Ordering) → ordering_then p q ≡ Equal → (p ≡ Equal) × (q ≡ Equal)
both_tie Less q e = cc
both_tie Equal q e = (refl, e)
both_tie Greater q e = cc

line : ℕ → ℕ → List ℕ → Line
line sink source path = record { sink = record { 0 = sink }; source = record { 0 = source }; path = path }

pub line_order_exact : (a b : Line) → line_order a b ≡ Equal → a ≡ b
unfolding line
line_order_exact a b e =
    let first = both_tie _ _ e in
    let second = both_tie _ _ first.1 in
    ap (λ (n : ℕ). line n a.source.0 a.path) (nat_cmp-IsAntisymmetric a.sink.0 b.sink.0 first.0)
    ∙ ap (λ (n : ℕ). line b.sink.0 n a.path) (nat_cmp-IsAntisymmetric a.source.0 b.source.0 second.0)
    ∙ ap (λ (p : List ℕ). line b.sink.0 b.source.0 p) (slice_cmp-IsAntisymmetric nat_cmp-IsAntisymmetric a.path b.path second.1)

-- leaks in another order have the same lines
pub shows_once : (app : App) (leaks others : List Leak) (lines more : List Line) → IsPermutation leaks others → Shows app leaks lines → Shows app others more → more ≡ lines
shows_once app leaks others lines more moved a b =
    let there = IsPermutation-sym (map (line_of app) leaks) lines a.each in
    let over = IsPermutation-map (line_of app) leaks others moved in
    let on = IsPermutation-trans (map (line_of app) leaks) (map (line_of app) others) more over b.each in
    sorted_once line_order_total line_order_exact lines more (IsPermutation-trans lines (map (line_of app) leaks) more there on) a.in_order b.in_order

-- a machine has one report
pub reports_once : {F : Type 0} (P : Machine F Leak) (app : App) (edges n : ℕ) (text other : List ℕ) (leaky says : Bool) → Reports P app edges text leaky → Reports P app n other says → (other ≡ text) × (says ≡ leaky)
reports_once P app edges n text other leaky says a b =
    let lines : b.lines ≡ a.lines = shows_once app a.leaks b.leaks a.lines b.lines (listed_permutation (IsLeak P) a.leaks b.leaks a.listed b.listed) a.shown b.shown in
    let edges_same : n ≡ edges = one_count (IsEdge P) n edges b.counted a.counted in
    let contexts : b.contexts ≡ a.contexts = one_count (IsContext P) b.contexts a.contexts b.known a.known in
    let texts : report_text app b.lines n b.contexts ≡ report_text app a.lines edges a.contexts =
    ap (λ (ls : List Line). report_text app ls n b.contexts) lines
    ∙ ap (λ (m : ℕ). report_text app a.lines m b.contexts) edges_same
    ∙ ap (λ (m : ℕ). report_text app a.lines edges m) contexts in
    (b.is ∙ texts ∙ sym a.is, b.leaky_is ∙ ap (λ (ls : List Line). nat_lt 0 (length ls)) lines ∙ sym a.leaky_is)
