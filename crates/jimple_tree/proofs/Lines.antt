-- The lines of a body, from a place on.
use Rattle.std.proofs.Common.{subst, ◌≡◌, ℕ, suc, ◌+◌, ◌<◌, ◌≤◌, Bool, true, false, cond, nat_lt, List, [], ◌++◌, length, drop, get_or, refl, sym, ap, ◌∙◌, arith, add-one, codes}
use Rattle.std.proofs.lemmas.Bool.{lt-ltb, le-ltb}
use Rattle.std.proofs.lemmas.List.{append_assoc, at_drop_more, at_drop_all}
use Rattle.std.specs.Prelude.{Result, OnOk}
use Rattle.jimple_tree.specs.Labels.{is_named, label_line, label_number, label_text, named_below}
use Rattle.jimple_tree.specs.Statements.{lines_from, stmt_line}
use Rattle.jimple_tree.specs.declared.tree.Body.{Body}
use Rattle.jimple_tree.specs.declared.tree.Stmt.{Stmt}

-- the line of a label whose number is above that of the place before
abbrev pub line_above : ℕ → ℕ → List ℕ
line_above before number = cond (nat_lt before number) (codes "    " ++ label_text number ++ codes ":\n") []

by_test : (before : ℕ) (test : Bool) (line : ℕ → List ℕ)
    → cond test (line (before + cond test 1 0)) [] ≡ cond (nat_lt before (before + cond test 1 0)) (line (before + cond test 1 0)) []
by_test before true line = ap (λ t. cond t (line (before + 1)) []) (sym (lt-ltb before (before + 1) (omega arith)))
by_test before false line = ap (λ t. cond t (line (before + 0)) []) (sym (le-ltb before (before + 0) (omega arith)))

pub label_line_is : (b : Body) (place : ℕ) → label_line b place ≡ line_above (named_below b place) (label_number b place)
unfolding label_line named_below
label_line_is b place =
    rw add-one (by_test (named_below b place) (is_named b place) (λ n. codes "    " ++ label_text n ++ codes ":\n"))

pub named_first : (b : Body) → 0 ≡ named_below b 0
unfolding named_below
named_first b = refl

pub lines_more : (b : Body) (stmts : List Stmt) (place : ℕ) (s : Stmt)
    → place < length stmts
    → s ≡ get_or stmts place s
    → lines_from b place (drop place stmts) ≡ label_line b place ++ stmt_line b s ++ lines_from b (place + 1) (drop (place + 1) stmts)
lines_more b stmts place s inside read =
    at_drop_more (lines_from b place) stmts place s inside
    ∙ ap (λ t. label_line b place ++ stmt_line b t ++ lines_from b (suc place) (drop (place + 1) stmts)) (sym read)
    ∙ rw add-one refl

lines_end : (b : Body) (stmts : List Stmt) (place : ℕ) → length stmts ≤ place → lines_from b place (drop place stmts) ≡ label_line b place
lines_end b stmts place past = at_drop_all (lines_from b place) stmts place past

-- one statement more was written
pub wrote_line : (b : Body) (before number place : ℕ) (s : Stmt) (out middle now rest whole : List ℕ)
    → before ≡ named_below b place
    → number ≡ label_number b place
    → middle ≡ out ++ line_above before number
    → now ≡ middle ++ stmt_line b s
    → out ++ (label_line b place ++ stmt_line b s ++ rest) ≡ whole
    → now ++ rest ≡ whole
wrote_line b before number place s out middle now rest whole e f g h w =
    let line : line_above before number ≡ label_line b place =
    ap (λ t. line_above t number) e ∙ ap (line_above (named_below b place)) f ∙ sym (label_line_is b place) in
    let front : now ≡ (out ++ label_line b place) ++ stmt_line b s = h ∙ ap (λ t. t ++ stmt_line b s) (g ∙ ap (λ t. out ++ t) line) in
    ap (λ t. t ++ rest) front ∙ append_assoc (out ++ label_line b place) (stmt_line b s) rest
    ∙ append_assoc out (label_line b place) (stmt_line b s ++ rest)
    ∙ ap (λ t. out ++ t) (sym (append_assoc (label_line b place) (stmt_line b s) rest)) ∙ w

-- the label of the end was written
pub last_line : {E : Type 0} (b : Body) (before number place : ℕ) (out now whole : List ℕ)
    → before ≡ named_below b place
    → number ≡ label_number b place
    → length b.stmts ≤ place
    → out ++ lines_from b place (drop place b.stmts) ≡ whole
    → (r : Result (Unit {0}) E)
    → OnOk r (now ≡ out ++ line_above before number)
    → OnOk r (now ≡ whole)
last_line b before number place out now whole e f past w r h =
    let line : line_above before number ≡ label_line b place =
    ap (λ t. line_above t number) e ∙ ap (line_above (named_below b place)) f ∙ sym (label_line_is b place) in
    let rest : out ++ line_above before number ≡ whole = ap (λ t. out ++ t) (line ∙ sym (lines_end b b.stmts place past)) ∙ w in
    subst (λ t. OnOk r (now ≡ t)) rest h
