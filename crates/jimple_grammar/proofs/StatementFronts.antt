-- The first tokens of statements that begin with a name, and of labels before them.
use Rattle.std.proofs.Common.{◌≡◌, ℕ, ◌≤◌, true, List, [], ◌∷◌, ◌++◌, length, refl, sym, subst, inl, inr, arith}
use Rattle.jimple_words.specs.declared.kind.Kind.TheVariants as kinds
use Rattle.jimple_grammar.specs.declared.lexeme.Lexeme.{Lexeme}
use Rattle.jimple_grammar.specs.declared.raw.RawImm.{RawImm}
use Rattle.jimple_grammar.specs.declared.raw.RawItem.{RawItem}
use Rattle.jimple_grammar.specs.declared.raw.RawStmt.{RawStmt}
use Rattle.jimple_grammar.specs.declared.raw.RawStmt.TheVariants as stmts_are
use Rattle.jimple_words.specs.Kind.{Kinds, has}
use Rattle.jimple_words.specs.Sets.{names}
use Rattle.jimple_grammar.specs.Grammar.{Grammar, nothing, both, given, Spells, BeginsBy, ◌<*>◌}
use Rattle.jimple_grammar.specs.Reading.{first}
use Rattle.jimple_grammar.specs.Forms.{sign, name, brackets, ty, sig, several_types, params, field_sig, constant, handle, imm, callee, call, element, cast, new_array, later_lengths, new_multi, local_rhs, handle_rhs, constant_rhs, new_object, length_of, negated, static_load, called, rhs, this_given, param_given, caught_given, given_value, stored, identity, assign, store_field, store_element, local_stmt, store_static, call_stmt, if_stmt, goto_stmt, cases, switch_stmt, returned, return_stmt, throw_stmt, nop_stmt, enter_stmt, exit_stmt, word_stmt, stmt, later_items, front_items}
use Rattle.jimple_grammar.proofs.Starts.{laws}
use Rattle.jimple_grammar.proofs.Sure.{starts, apart}
use Rattle.jimple_grammar.proofs.Opens.{given_off, nothing_off, longer, length_parts, opens}
use Rattle.jimple_grammar.proofs.SureOperands.{open_bracket}
use Rattle.jimple_grammar.proofs.SureRightSides.{operands, element_second, element_on, element_long}
use Rattle.jimple_grammar.proofs.SureStatements.{local_rest, sure_identity, sure_assign, sure_store_field, sure_local_stmt, sure_word_stmt}

-- what stands behind a local in front of a statement
abbrev pub behind_names : Kinds
behind_names = kinds.ColonEquals ∷ kinds.Equals ∷ kinds.Dot ∷ kinds.OpenBracket ∷ []

word_not_name : (n : ℕ) (t : Lexeme) (us : List Lexeme) → BeginsBy n word_stmt (t ∷ us) → has names t.kind ≡ true → ⊥
unfolding word_stmt store_static field_sig call_stmt call callee if_stmt goto_stmt switch_stmt return_stmt throw_stmt nop_stmt enter_stmt exit_stmt
word_not_name n t us h a = apart names (first word_stmt) t.kind refl a (starts n word_stmt [] (sure_word_stmt [] refl) t us h)

-- behind the local
rest_first : (n : ℕ) (x u : Lexeme) (us : List Lexeme) → BeginsBy n (local_stmt x) (u ∷ us) → has behind_names u.kind ≡ true
unfolding local_stmt identity assign store_field store_element element
rest_first n x u us h = starts n (local_stmt x) [] (sure_local_stmt x []) u us h

rest_long : (x : Lexeme) (p : List Lexeme) (v : RawStmt) → Spells (local_rest x) p v → 2 ≤ length p
unfolding identity assign store_field store_element element field_sig ty brackets imm handle constant given_value this_given param_given caught_given rhs local_rhs handle_rhs constant_rhs cast static_load new_object new_array new_multi later_lengths length_of negated called call callee sig params several_types
rest_long x p v h = longer (local_rest x) p v h

abbrev put_element : Lexeme → RawImm → RawImm → RawStmt
put_element x i w = stmts_are.StoreElement x i w

abbrev element_of : Lexeme → Grammar (RawImm → RawStmt)
element_of x = nothing (put_element x) <*> element

element_of_long : (x : Lexeme) (p : List Lexeme) (v : RawImm → RawStmt) → Spells (element_of x) p v → 2 ≤ length p
element_of_long x p v h = let i = element_long h.3 h.1 h.6 in let l = length_parts p h.2 h.3 h.4 in omega (arith, i, l)

element_two : (n : ℕ) (x u v : Lexeme) → BeginsBy n (store_element x) (u ∷ v ∷ []) → has operands v.kind ≡ true
unfolding store_element
element_two n x u v h =
    let b = opens (Spells (element_of x)) (BeginsBy n (element_of x)) (λ y. BeginsBy n stored) (laws n (element_of x)) (u ∷ v ∷ []) (u ∷ v ∷ []) [] refl (λ y front rest e s. element_of_long x front y s) h in
    element_second n u v [] (nothing_off n (λ f i. f i) (put_element x) element (u ∷ v ∷ []) b)

rest_second : (n : ℕ) (x u v : Lexeme) → BeginsBy n (local_rest x) (u ∷ v ∷ []) → has open_bracket u.kind ≡ true → has operands v.kind ≡ true
unfolding identity assign store_field
rest_second n x u v (inl h) b = absurd (apart open_bracket (kinds.ColonEquals ∷ []) u.kind refl b (starts n (identity x) _ (sure_identity x) u (v ∷ []) h))
rest_second n x u v (inr (inl h)) b = absurd (apart open_bracket (kinds.Equals ∷ []) u.kind refl b (starts n (assign x) _ (sure_assign x) u (v ∷ []) h))
rest_second n x u v (inr (inr (inl h))) b = absurd (apart open_bracket (kinds.Dot ∷ []) u.kind refl b (starts n (store_field x) _ (sure_store_field x) u (v ∷ []) h))
rest_second n x u v (inr (inr (inr h))) b = element_two n x u v h

-- Statements.
pub stmt_second : (n : ℕ) (t u : Lexeme) (us : List Lexeme) → BeginsBy n stmt (t ∷ u ∷ us) → has names t.kind ≡ true → has behind_names u.kind ≡ true
unfolding stmt
stmt_second n t u us (inl h) a = rest_first n t u us (given_off n (λ x s. s) names local_stmt t (u ∷ us) h).1
stmt_second n t u us (inr h) a = absurd (word_not_name n t (u ∷ us) h a)

pub stmt_third : (n : ℕ) (t u v : Lexeme) (vs : List Lexeme) → BeginsBy n stmt (t ∷ u ∷ v ∷ vs) → has names t.kind ≡ true → has open_bracket u.kind ≡ true → has operands v.kind ≡ true
unfolding stmt local_stmt
stmt_third n t u v vs (inl h) a b =
    rest_second n t u v (opens (Spells (local_rest t)) (BeginsBy n (local_rest t)) (λ y. BeginsBy n (sign kinds.Semicolon)) (laws n (local_rest t)) (u ∷ v ∷ vs) (u ∷ v ∷ []) vs refl (λ y front rest e s. rest_long t front y s) (given_off n (λ x s. s) names local_stmt t (u ∷ v ∷ vs) h).1) b
stmt_third n t u v vs (inr h) a b = absurd (word_not_name n t (u ∷ v ∷ vs) h a)

pub stmt_on : (n : ℕ) (t : Lexeme) → has names t.kind ≡ true → BeginsBy n stmt (t ∷ [])
unfolding stmt
stmt_on n t a = inl (inl (inr (t, refl, a)))

pub stmt_element_on : (n : ℕ) (t u : Lexeme) → has names t.kind ≡ true → has open_bracket u.kind ≡ true → BeginsBy n stmt (t ∷ u ∷ [])
unfolding stmt local_stmt store_element
stmt_element_on n t u a b = inl (inr (t, t ∷ [], u ∷ [], refl, (refl, a), inl (inr (inr (inr (inl (inr (put_element t, [], u ∷ [], refl, (refl, refl), element_on n u b))))))))

local_long : (x : Lexeme) (p : List Lexeme) (v : RawStmt) → Spells (local_stmt x) p v → 3 ≤ length p
unfolding local_stmt
local_long x p v h = let l = length_parts p h.2 h.3 h.4 in let i = rest_long x h.2 h.0 h.5 in let j = longer (sign kinds.Semicolon) h.3 h.1 h.6 in omega (arith, l, i, j)

named_long : (p : List Lexeme) (v : RawStmt) → Spells (given (λ x s. s) name local_stmt) p v → 4 ≤ length p
named_long p v h = let l = length_parts p h.2 h.3 h.4 in let i = longer name h.2 h.0 h.5 in let j = local_long h.0 h.3 h.1 h.6 in omega (arith, l, i, j)

word_long : (p : List Lexeme) (v : RawStmt) → Spells word_stmt p v → 2 ≤ length p
unfolding word_stmt store_static field_sig sig ty brackets imm handle constant call_stmt call callee if_stmt goto_stmt switch_stmt cases return_stmt returned throw_stmt nop_stmt enter_stmt exit_stmt params several_types
word_long p v h = longer word_stmt p v h

pub stmt_long : (p : List Lexeme) (v : RawStmt) → Spells stmt p v → 2 ≤ length p
unfolding stmt
stmt_long p v (inl h) = let l = named_long p v h in omega (arith, l)
stmt_long p v (inr h) = word_long p v h

pub stmt_named : (t : Lexeme) (us : List Lexeme) (v : RawStmt) → Spells stmt (t ∷ us) v → has names t.kind ≡ true → 3 ≤ length (t ∷ us)
unfolding stmt
stmt_named t us v (inl h) a = let l = named_long (t ∷ us) v h in omega (arith, l)
stmt_named t us v (inr h) a = absurd (word_not_name 0 t us ((laws 0 word_stmt).begun (t ∷ us) v h) a)

stmt_front : (t : Lexeme) (us front rest : List Lexeme) (v : RawStmt) → t ∷ us ≡ front ++ rest → Spells stmt front v → has names t.kind ≡ true → 3 ≤ length front
stmt_front t us [] rest v e h a = absurd (let l = stmt_long [] v h in omega (arith, l))
stmt_front t us (w ∷ front) rest v e h a = stmt_named w front v h (let same : w ≡ t = cc in subst (λ (x : Lexeme). has names x.kind ≡ true) (sym same) a)

-- A statement, and then labels and statements.
abbrev pub stmts : Grammar (RawStmt × List RawItem)
stmts = both front_items stmt later_items

stmts_two : (n : ℕ) (ts p l : List Lexeme) → ts ≡ p ++ l → length p ≤ 2 → BeginsBy n stmts ts → BeginsBy n stmt p
stmts_two n ts p l e short h = opens (Spells stmt) (BeginsBy n stmt) (λ x. BeginsBy n later_items) (laws n stmt) ts p l e (λ x front rest e s. let i = stmt_long front x s in omega (arith, i, short)) h

pub stmts_second : (n : ℕ) (t u : Lexeme) (us : List Lexeme) → BeginsBy n stmts (t ∷ u ∷ us) → has names t.kind ≡ true → has behind_names u.kind ≡ true
stmts_second n t u us h a = stmt_second n t u [] (stmts_two n (t ∷ u ∷ us) (t ∷ u ∷ []) us refl (omega arith) h) a

pub stmts_third : (n : ℕ) (t u v : Lexeme) (vs : List Lexeme) → BeginsBy n stmts (t ∷ u ∷ v ∷ vs) → has names t.kind ≡ true → has open_bracket u.kind ≡ true → has operands v.kind ≡ true
stmts_third n t u v vs h a b = stmt_third n t u v [] (opens (Spells stmt) (BeginsBy n stmt) (λ x. BeginsBy n later_items) (laws n stmt) (t ∷ u ∷ v ∷ vs) (t ∷ u ∷ v ∷ []) vs refl (λ x front rest e s. stmt_front t (u ∷ v ∷ vs) front rest x e s a) h) a b

pub stmts_long : (p : List Lexeme) (y : RawStmt × List RawItem) → Spells stmts p y → 2 ≤ length p
stmts_long p y h = let l = length_parts p h.2 h.3 h.4 in let i = stmt_long h.2 h.0 h.5 in omega (arith, l, i)

pub stmts_named : (t : Lexeme) (us : List Lexeme) (y : RawStmt × List RawItem) → Spells stmts (t ∷ us) y → has names t.kind ≡ true → 3 ≤ length (t ∷ us)
stmts_named t us y h a = let l = length_parts (t ∷ us) h.2 h.3 h.4 in let i = stmt_front t us h.2 h.3 h.0 h.4 h.5 a in omega (arith, l, i)
