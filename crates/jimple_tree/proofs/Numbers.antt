-- From marks to the numbers of labels.
use Rattle.std.proofs.Common.{◌≡◌, ℕ, zero, suc, ◌+◌, ◌<◌, ◌≤◌, Bool, true, false, cond, ◌||◌, List, [], ◌∷◌, ◌++◌, length, take, get_or, set, map, replicate, refl, sym, ap, ◌∙◌, arith, add-one}
use Rattle.std.specs.Prelude.{All, ◌==◌}
use Rattle.std.specs.List.{flat_map, list_any, sum}
use Rattle.std.proofs.lemmas.Bool.{eqb-true, eqb-false}
use Rattle.std.proofs.lemmas.List.{get_or-set_same, get_or-set_other, length-set, get_or-replicate, length-replicate}
use Rattle.std.proofs.lemmas.List.Elements.{All-nil, All-cons, All-head, All-tail, All-append, All-map, All-set}
use Rattle.std.proofs.lemmas.List.Sums.{fold-append, sum_by_more}
use Rattle.jimple_tree.specs.Labels.{IsNumbered, catch_places, is_named, marked, named_below, named_places, targets_of}
use Rattle.jimple_tree.specs.WellFormed.{StmtFits}
use Rattle.jimple_tree.specs.declared.tree.Body.{Body}
use Rattle.jimple_tree.specs.declared.tree.Case.{Case}
use Rattle.jimple_tree.specs.declared.tree.Stmt.{Stmt}
use Rattle.jimple_tree.specs.declared.tree.Stmt.TheVariants as stmt

-- Places within the table

pub cases_fit : (n : ℕ) (cases : List Case) (rest : List ℕ)
    → All (λ t. t < n) (map (λ (c : Case). c.target) cases ++ rest)
    → All (λ (c : Case). c.target < n) cases
cases_fit n [] rest h = All-nil (λ (c : Case). c.target < n)
cases_fit n (x ∷ xs) rest h =
    let others : List ℕ = map (λ (c : Case). c.target) xs ++ rest in
    All-cons (λ (c : Case). c.target < n) x xs (All-head (λ t. t < n) x.target others h)
    (cases_fit n xs rest (All-tail (λ t. t < n) x.target others h))

one_fits : (n t : ℕ) → t < n → All (λ u. u < n) (t ∷ [])
one_fits n t h = All-cons (λ u. u < n) t [] h (All-nil (λ u. u < n))

pub targets_fit : (b : Body) (s : Stmt) (n : ℕ) → StmtFits b s → length b.stmts ≤ n → All (λ t. t < n) (targets_of s)
targets_fit b (stmt.If left cond right target) n h le = one_fits n target (omega (arith, h.2))
targets_fit b (stmt.Goto target) n h le = one_fits n target (omega (arith, h))
targets_fit b (stmt.Switch table key cases default) n h le =
    All-append (λ t. t < n) (map (λ (c : Case). c.target) cases) (default ∷ [])
    (All-map (λ t. t < n) (λ (c : Case). c.target) cases (λ k d l. omega (arith, h.1 k d l)))
    (one_fits n default (omega (arith, h.2)))
targets_fit b _ n h le = All-nil (λ t. t < n)

-- Marks

pub marked_small : (places table : List ℕ) → All (λ m. m ≤ 1) table → All (λ m. m ≤ 1) (marked places table)
marked_small [] table h = h
marked_small (p ∷ places) table h = marked_small places (set table p 1) (All-set (λ m. m ≤ 1) table p 1 (omega arith) h)

pub length-marked : (places table : List ℕ) → length (marked places table) ≡ length table
length-marked [] table = refl
length-marked (p ∷ places) table = length-marked places (set table p 1) ∙ length-set table p 1

after_set : (table : List ℕ) (p place : ℕ) (rest : Bool) (test : Bool)
    → (p == place) ≡ test
    → place < length table
    → cond rest 1 (get_or (set table p 1) place 0) ≡ cond (test || rest) 1 (get_or table place 0)
after_set table p place true true e h = refl
after_set table p place false true e h =
    ap (λ q. get_or (set table q 1) place 0) (eqb-true p place e) ∙ get_or-set_same table place 1 0 h
after_set table p place rest false e h =
    ap (cond rest 1) (get_or-set_other table p place 1 0 (λ f. eqb-false p place e (sym f)))

pub get_or-marked : (places table : List ℕ) (place : ℕ)
    → place < length table
    → get_or (marked places table) place 0 ≡ cond (list_any (λ p. p == place) places) 1 (get_or table place 0)
get_or-marked [] table place h = refl
get_or-marked (p ∷ places) table place h =
    get_or-marked places (set table p 1) place (omega (arith, length-set table p 1))
    ∙ after_set table p place (list_any (λ q. q == place) places) (p == place) refl h

-- Counts

sum_of_marks : (b : Body) (marks : List ℕ) (n : ℕ)
    → n ≤ length marks
    → ((k : ℕ) → k < n → get_or marks k 0 ≡ cond (is_named b k) 1 0)
    → sum (take n marks) ≡ named_below b n
unfolding named_below
sum_of_marks b marks zero h each = refl
sum_of_marks b marks (suc n) h each =
    let before : sum (take n marks) ≡ named_below b n = sum_of_marks b marks n (omega arith) (λ k l. each k (omega arith)) in
    let more = sum_by_more (λ x. x) marks n 0 (omega arith) in
    rw (add-one) at more ∙ ap (λ t. t + get_or marks n 0) before ∙ ap (λ t. named_below b n + t) (each n (omega arith))

pub numbered : (b : Body) (n : ℕ) (marks labels : List ℕ)
    → n ≡ length b.stmts + 1
    → marks ≡ marked (flat_map catch_places b.catches) (marked (flat_map targets_of b.stmts) (replicate n 0))
    → length labels ≡ n
    → ((k : ℕ) → k < length marks → get_or labels k 0 ≡ sum (take (k + 1) marks))
    → IsNumbered b labels
unfolding is_named
numbered b n marks labels e m len up =
    let zeros : List ℕ = replicate n 0 in
    let zeros_long : length zeros ≡ n = length-replicate n 0 in
    let all : marks ≡ marked (named_places b) zeros =
    m ∙ sym (fold-append (λ t p. set t p 1) zeros (flat_map targets_of b.stmts) (flat_map catch_places b.catches)) in
    let long : length marks ≡ n = ap length all ∙ length-marked (named_places b) zeros ∙ zeros_long in
    let each : (k : ℕ) → k < n → get_or marks k 0 ≡ cond (is_named b k) 1 0 = λ k l.
    ap (λ t. get_or t k 0) all ∙ get_or-marked (named_places b) zeros k (omega arith)
    ∙ ap (cond (is_named b k) 1) (get_or-replicate n k 0 0 l) in
    record {
      len = omega arith;
      number = λ place l. up place (omega arith) ∙ sum_of_marks b marks (place + 1) (omega arith) (λ k h. each k (omega arith));
    }
