-- The scope of a body knows its locals and its named places.
-- Bodies stand above, look-ups and the numbers of labels below.
use Rattle.std.proofs.Common.{◌≡◌, ◌≢◌, ℕ, zero, suc, ◌+◌, ◌<◌, ◌≤◌, ◌^◌, Bool, true, false, ◌||◌, ◌==◌, List, [], ◌∷◌, ◌++◌, length, map, get_or, sym, ap, subst, refl, ◌∙◌, arith, rules, codes, Some}
use Rattle.std.specs.List.{AllByRecursion, flat_map, list_any}
use Rattle.std.proofs.Math.ListN.{get_or-append}
use Rattle.std.proofs.Math.Seq.{get_or-append_seam}
use Rattle.std.proofs.lemmas.Bool.{eqb-true, eqb-false}
use Rattle.std.proofs.lemmas.List.{length-append}
use Rattle.jimple_tree.specs.Labels.{is_named, label_number, label_text, named_places, targets_of, catch_places}
use Rattle.jimple_tree.specs.Statements.{stmt_text, stmt_line, lines_from}
use Rattle.jimple_tree.specs.Labels.{label_line}
use Rattle.jimple_tree.specs.WellFormed.{AreDistinct}
use Rattle.jimple_tree.specs.declared.tree.Body.{Body}
use Rattle.jimple_tree.specs.declared.tree.Catch.{Catch}
use Rattle.jimple_tree.specs.declared.tree.Local.{Local}
use Rattle.jimple_tree.specs.declared.tree.Stmt.{Stmt}
use Rattle.jimple_names.specs.Scope.{label_at}
use Rattle.jimple_rewrite.proofs.Known.{Knows, label_of, label_if, labels_of, known_scope}
use Rattle.jimple_rewrite.proofs.IsName.{IsName}
use Rattle.jimple_rewrite.proofs.Written.{LocalIsWritten, LocalsAreDistinct}
use Rattle.jimple_rewrite.proofs.Digits.{label_apart}
use Rattle.jimple_rewrite.proofs.LabelNumbers.{number_grows, number_small}
use Rattle.jimple_rewrite.proofs.LookUps.{local_found, label_past, label_here}
use Rattle.jimple_rewrite.proofs.Lists.{all_first}

-- The places that a body names are named

any_left : (p : ℕ) (xs ys : List ℕ) → list_any (λ q. q == p) xs ≡ true → list_any (λ q. q == p) (xs ++ ys) ≡ true
any_left p [] ys e = absurd (let bad : false ≡ true = e in cc)
any_left p (x ∷ xs) ys e = of (x == p) e (any_left p xs ys) where
  of : (c : Bool) → (c || list_any (λ q. q == p) xs) ≡ true → (list_any (λ q. q == p) xs ≡ true → list_any (λ q. q == p) (xs ++ ys) ≡ true) → (c || list_any (λ q. q == p) (xs ++ ys)) ≡ true
  of true f g = refl
  of false f g = g f

any_right : (p : ℕ) (xs ys : List ℕ) → list_any (λ q. q == p) ys ≡ true → list_any (λ q. q == p) (xs ++ ys) ≡ true
any_right p [] ys e = e
any_right p (x ∷ xs) ys e = of (x == p) (any_right p xs ys e) where
  of : (c : Bool) → list_any (λ q. q == p) (xs ++ ys) ≡ true → (c || list_any (λ q. q == p) (xs ++ ys)) ≡ true
  of true g = refl
  of false g = g

-- what stands in one list stands in the other
abbrev Within : List ℕ → List ℕ → Type 0
Within all xs = (p : ℕ) → list_any (λ q. q == p) xs ≡ true → list_any (λ q. q == p) all ≡ true

itself : (x : ℕ) (xs : List ℕ) → list_any (λ q. q == x) (x ∷ xs) ≡ true
itself x xs = let same : (x == x) ≡ true = search (rules, arith) in rw same refl

each_within : (all xs : List ℕ) → Within all xs → AllByRecursion (λ p. list_any (λ q. q == p) all ≡ true) xs
each_within all [] w = tt
each_within all (x ∷ xs) w = (w x (itself x xs), each_within all xs (λ p e. w p (any_right p (x ∷ []) xs e)))

all_within : {X : Type 0} (f : X → List ℕ) (all : List ℕ) (xs : List X) → Within all (flat_map f xs) → AllByRecursion (λ x. AllByRecursion (λ p. list_any (λ q. q == p) all ≡ true) (f x)) xs
all_within f all [] w = tt
all_within f all (x ∷ xs) w = (each_within all (f x) (λ p e. w p (any_left p (f x) (flat_map f xs) e)), all_within f all xs (λ p e. w p (any_right p (f x) (flat_map f xs) e)))

pub stmts_named : (b : Body) → AllByRecursion (λ (x : Stmt). AllByRecursion (λ p. is_named b p ≡ true) (targets_of x)) b.stmts
unfolding is_named
stmts_named b = all_within targets_of (named_places b) b.stmts (λ p e. any_left p (flat_map targets_of b.stmts) (flat_map catch_places b.catches) e)

pub catches_named : (b : Body) → AllByRecursion (λ (c : Catch). AllByRecursion (λ p. is_named b p ≡ true) (catch_places c)) b.catches
unfolding is_named
catches_named b = all_within catch_places (named_places b) b.catches (λ p e. any_right p (flat_map targets_of b.stmts) (flat_map catch_places b.catches) e)

-- Labels

-- as many lines as statements at least
pub few_stmts : (b : Body) (place : ℕ) (stmts : List Stmt) → length stmts ≤ length (lines_from b place stmts)
unfolding stmt_line
few_stmts b place [] = omega arith
few_stmts b place (s ∷ more) =
    let all = length-append (label_line b place ++ stmt_line b s) (lines_from b (suc place) more) in
    let front = length-append (label_line b place) (stmt_line b s) in
    let line = length-append (codes "        " ++ stmt_text b s) (codes "\n") in
    let rest = few_stmts b (suc place) more in
    omega (arith, all, front, line, rest)

pub texts_apart : (b : Body) (p q : ℕ) → p < q → q + 1 < 2 ^ 64 → is_named b q ≡ true → label_text (label_number b p) ≢ label_text (label_number b q)
texts_apart b p q less small n e =
    let grows = number_grows b p q less n in
    let last = number_small b q in
    let same = label_apart (label_number b p) (label_number b q) (omega (arith, grows, last, small)) (omega (arith, last, small)) e in
    absurd (omega (arith, grows, same))

pub label_found : (b : Body) (place : ℕ) (stmts : List Stmt) (p : ℕ) → place ≤ p → p ≤ place + length stmts → p + 1 < 2 ^ 64 → is_named b p ≡ true
    → label_at (labels_of b place stmts) (label_text (label_number b p)) ≡ Some p
label_found b place [] p from to small n =
    let same : place ≡ p = omega (arith, from, to) in
    subst (λ q. label_at (labels_of b q []) (label_text (label_number b p)) ≡ Some p) (sym same) (ap (λ (c : Bool). label_at (label_if c (label_of b p) []) (label_text (label_number b p))) n ∙ label_here (label_of b p) [] (label_text (label_number b p)) refl)
label_found b place (s ∷ more) p from to small n = by_place (λ above. label_found b (suc place) more p above (omega (arith, to)) small n) (place == p) refl where
  first : place ≡ p → label_at (labels_of b place (s ∷ more)) (label_text (label_number b p)) ≡ Some p
  first same =
      subst (λ q. label_at (labels_of b q (s ∷ more)) (label_text (label_number b p)) ≡ Some p) (sym same)
      (ap (λ (c : Bool). label_at (label_if c (label_of b p) (labels_of b (suc p) more)) (label_text (label_number b p))) n ∙ label_here (label_of b p) (labels_of b (suc p) more) (label_text (label_number b p)) refl)

  later : (suc place ≤ p → label_at (labels_of b (suc place) more) (label_text (label_number b p)) ≡ Some p) → (place ≡ p → ⊥) → label_at (labels_of b place (s ∷ more)) (label_text (label_number b p)) ≡ Some p
  later rec other = by_case (is_named b place) (rec (omega (arith, from, other))) where
    by_case : (c : Bool) → label_at (labels_of b (suc place) more) (label_text (label_number b p)) ≡ Some p → label_at (label_if c (label_of b place) (labels_of b (suc place) more)) (label_text (label_number b p)) ≡ Some p
    by_case true h = label_past (label_of b place) (labels_of b (suc place) more) (label_text (label_number b p)) (texts_apart b place p (omega (arith, from, other)) small n) ∙ h
    by_case false h = h

  by_place : (suc place ≤ p → label_at (labels_of b (suc place) more) (label_text (label_number b p)) ≡ Some p) → (c : Bool) → (place == p) ≡ c → label_at (labels_of b place (s ∷ more)) (label_text (label_number b p)) ≡ Some p
  by_place rec true e = first (eqb-true place p e)
  by_place rec false e = later rec (eqb-false place p e)

-- The scope

name_at : (locals : List Local) (x : ℕ) → AllByRecursion LocalIsWritten locals → x < length locals → IsName (get_or (map (λ (l : Local). l.name) locals) x [])
name_at [] x w less = absurd (omega (arith, less))
name_at (l ∷ locals) zero w less = w.0.0
name_at (l ∷ locals) (suc x) w less = name_at locals x w.1 (omega (arith, less))

pub knows : (b : Body) → AllByRecursion LocalIsWritten b.locals → LocalsAreDistinct b → length b.stmts + 1 < 2 ^ 64 → Knows b (known_scope b)
knows b w distinct small = record {
  name = λ x less. name_at b.locals x w less;
  local = λ x less. local_found b x distinct less;
  place = λ p to n. label_found b 0 b.stmts p (omega arith) (omega (arith, to)) (omega (arith, to, small)) n;
  count = refl;
}

-- what stands in front of an item of distinct ones differs from it
pub before_differ : {X K : Type 0} (key : X → K) (done : List X) (x : X) (rest : List X) → AreDistinct key (done ++ x ∷ rest) → AllByRecursion (λ d. key d ≢ key x) done
before_differ key done x rest distinct = all_first (λ d. key d ≢ key x) done (λ i d less e.
    let all = length-append done (x ∷ rest) in
    distinct i (length done) d less (omega (arith, all)) (ap key (get_or-append done (x ∷ rest) d i less) ∙ e ∙ sym (ap key (get_or-append_seam done x rest d))))
