-- The choices of bodies show by the tokens in front: a name and `:` tell a label from a statement.
use Rattle.std.proofs.Common.{◌≡◌, ◌⊎◌, ℕ, ◌≤◌, true, List, [], ◌∷◌, ◌++◌, length, refl, rules, sym, subst, inl, inr, arith}
use Rattle.jimple_words.specs.declared.kind.Kind.TheVariants as kinds
use Rattle.jimple_grammar.specs.declared.lexeme.Lexeme.{Lexeme}
use Rattle.jimple_grammar.specs.declared.raw.RawCode.{RawCode}
use Rattle.jimple_grammar.specs.declared.raw.RawItem.{RawItem}
use Rattle.jimple_grammar.specs.declared.raw.RawStmt.{RawStmt}
use Rattle.jimple_words.specs.Kind.{Kinds, has}
use Rattle.jimple_words.specs.Sets.{names}
use Rattle.jimple_grammar.specs.Grammar.{token, ends, Spells, BeginsBy, ManySpells, last, more, end}
use Rattle.jimple_grammar.specs.Reading.{first}
use Rattle.jimple_grammar.specs.Forms.{field_sig, callee, call, element, identity, assign, store_field, store_element, local_stmt, store_static, call_stmt, if_stmt, goto_stmt, switch_stmt, return_stmt, throw_stmt, nop_stmt, enter_stmt, exit_stmt, word_stmt, label, behind_name, item, catch, catches, later_items, before_label, code}
use Rattle.jimple_grammar.proofs.Starts.{disjoint, next, laws}
use Rattle.jimple_grammar.proofs.Sure.{Sure, Tells, plain_sure, starts, apart}
use Rattle.jimple_grammar.proofs.Front.{token_off, token_on}
use Rattle.jimple_grammar.proofs.Opens.{longer, length_parts, many_opens, two_tell}
use Rattle.jimple_grammar.proofs.SureOperands.{open_bracket, colon}
use Rattle.jimple_grammar.proofs.SureRightSides.{semicolon}
use Rattle.jimple_grammar.proofs.SureStatements.{sure_local_stmt, sure_word_stmt, sure_stmt}
use Rattle.jimple_grammar.proofs.StatementFronts.{behind_names, stmts, stmt_on, stmt_element_on, stmts_second, stmts_long, stmts_named}

-- what stands behind the declarations, statements and catch clauses of a body
abbrev pub close_brace : Kinds
close_brace = kinds.CloseBrace ∷ []

-- what stands behind the statements of a body
abbrev pub closers : Kinds
closers = kinds.Catch ∷ close_brace

sure_behind_name : (x : Lexeme) (after : Kinds) → Sure (behind_name x) after
unfolding behind_name local_stmt identity assign store_field store_element element
sure_behind_name x after = ((tt, tt), (tt, sure_local_stmt x after), refl, refl)

sure_item : (after : Kinds) → disjoint semicolon after ≡ true → Sure item after
unfolding item word_stmt store_static field_sig call_stmt call callee if_stmt goto_stmt switch_stmt return_stmt throw_stmt nop_stmt enter_stmt exit_stmt
sure_item after d = ((tt, (λ x. (tt, sure_behind_name x after)), refl), (tt, sure_word_stmt after d), refl, refl)

sure_later_items : Sure later_items closers
unfolding later_items item word_stmt store_static field_sig call_stmt call callee if_stmt goto_stmt switch_stmt return_stmt throw_stmt nop_stmt enter_stmt exit_stmt
sure_later_items = plain_sure (λ xs end. xs) item ends closers (sure_item (first item ++ closers) refl) tt refl refl

sure_stmts : Sure stmts closers
unfolding later_items item word_stmt store_static field_sig call_stmt call callee if_stmt goto_stmt switch_stmt return_stmt throw_stmt nop_stmt enter_stmt exit_stmt
sure_stmts = (sure_stmt (next later_items closers) refl, sure_later_items)

-- Labels.
label_first : (n : ℕ) (t : Lexeme) (us : List Lexeme) → BeginsBy n label (t ∷ us) → has names t.kind ≡ true
label_first n t us h = (token_off n (λ x colon. x) names (token colon) t us h).0

label_second : (n : ℕ) (t u : Lexeme) (us : List Lexeme) → BeginsBy n label (t ∷ u ∷ us) → has colon u.kind ≡ true
label_second n t u us h = starts n (token colon) [] tt u us (token_off n (λ x colon. x) names (token colon) t (u ∷ us) h).1

stmts_on : (n : ℕ) (t : Lexeme) → has names t.kind ≡ true → BeginsBy n stmts (t ∷ [])
stmts_on n t a = inl (stmt_on n t a)

colon_behind : (n : ℕ) (t u : Lexeme) (us : List Lexeme) → BeginsBy n stmts (t ∷ u ∷ us) → has names t.kind ≡ true → has colon u.kind ≡ true → ⊥
colon_behind n t u us h a b = apart colon behind_names u.kind refl b (stmts_second n t u us h a)

labels_tell : (after : Kinds) → Tells {S = Unit {0}} before_label (λ s. label) (λ s x. s) stmts after
labels_tell after = two_tell {S = Unit {0}} (λ s. label) (λ s x. s) stmts names colon after
    (λ s p v h. longer label p v h) (λ n s t h. label_first n t [] h) (λ n s t u h. (label_first n t (u ∷ []) h, label_second n t u [] h)) (λ n s t h. token_on n (λ x colon. x) names (token colon) t [] h (laws n (token colon)).empty)
    (λ n t h. stmts_on n t h) (λ n t u us h i j. colon_behind n t u us h i j) (λ t y h. let l = stmts_long (t ∷ []) y h in omega (arith, l)) (λ y h. absurd (let l = stmts_long [] y h in omega (arith, l)))

pub sure_code : Sure code closers
unfolding code
sure_code = ((λ s. (tt, tt)), (λ s. refl), (λ s. refl), sure_stmts, labels_tell closers)

sure_catch : (after : Kinds) → Sure catch after
unfolding catch
sure_catch after = search rules

pub sure_catches : Sure catches close_brace
unfolding catches catch
sure_catches = plain_sure (λ xs end. xs) catch ends close_brace (sure_catch closers) tt refl refl

-- The first tokens of labels and statements.
pub code_two : (n : ℕ) (t u : Lexeme) (us : List Lexeme) → BeginsBy n code (t ∷ u ∷ us) → (has colon u.kind ≡ true) ⊎ BeginsBy n stmts (t ∷ u ∷ us)
unfolding code
code_two n t u us h = elim (many_opens {S = Unit {0}} (λ s. Spells label) (λ s x. s) (λ s. BeginsBy n label) (BeginsBy n stmts) tt (laws n label) (t ∷ u ∷ us) (t ∷ u ∷ []) us refl (λ x front h. longer label front x h) h) [
  | inl b ↦ inl (label_second n t u [] b)
  | inr b ↦ inr b
]

pieces_long : {p : List Lexeme} {z : List Lexeme × (RawStmt × List RawItem)} → ManySpells {S = Unit {0}} (λ s. Spells label) (λ s x. s) (Spells stmts) tt p z → 2 ≤ length p
pieces_long (last y h e) = stmts_long _ y h
pieces_long (more x z front rest parts h k e) = let l = length_parts _ front rest parts in let i = longer label front x h in omega (arith, l, i)

pieces_named : {p : List Lexeme} {z : List Lexeme × (RawStmt × List RawItem)} (t : Lexeme) (us : List Lexeme) → ManySpells {S = Unit {0}} (λ s. Spells label) (λ s x. s) (Spells stmts) tt p z → p ≡ t ∷ us → has names t.kind ≡ true → 3 ≤ length p
pieces_named t us (last y h e) m a = subst (λ (vs : List Lexeme). 3 ≤ length vs) (sym m) (stmts_named t us y (subst (λ (vs : List Lexeme). Spells stmts vs y) m h) a)
pieces_named t us (more x z front rest parts h k e) m a = let l = length_parts _ front rest parts in let i = longer label front x h in let j = pieces_long k in omega (arith, l, i, j)

pub code_long : (p : List Lexeme) (y : RawCode) → Spells code p y → 2 ≤ length p
unfolding code
code_long p y h = pieces_long h.1

pub code_on : (n : ℕ) (t : Lexeme) → has names t.kind ≡ true → BeginsBy n code (t ∷ [])
unfolding code
code_on n t a = end (stmts_on n t a)

pub code_element_on : (n : ℕ) (t u : Lexeme) → has names t.kind ≡ true → has open_bracket u.kind ≡ true → BeginsBy n code (t ∷ u ∷ [])
unfolding code
code_element_on n t u a b = end (inl (stmt_element_on n t u a b))

pub code_named : (t : Lexeme) (us : List Lexeme) (y : RawCode) → Spells code (t ∷ us) y → has names t.kind ≡ true → 3 ≤ length (t ∷ us)
unfolding code
code_named t us y h a = pieces_named t us h.1 refl a
