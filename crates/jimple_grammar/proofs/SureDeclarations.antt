-- The declarations of a body show by the tokens in front: a primitive, two names, or a name and `[ ]`.
use Rattle.std.proofs.Common.{◌≡◌, ◌⊎◌, ℕ, zero, suc, pred, ◌≤◌, Bool, true, false, List, [], ◌∷◌, ◌++◌, length, refl, sym, ◌∙◌, ap, subst, inl, inr, arith, append_assoc}
use mathlib.Core.Bool.{◌&&◌, ◌||◌}
use Rattle.jimple_words.specs.declared.kind.Kind.TheVariants as kinds
use Rattle.jimple_grammar.specs.declared.lexeme.Lexeme.{Lexeme}
use Rattle.jimple_grammar.specs.declared.raw.RawCatch.{RawCatch}
use Rattle.jimple_grammar.specs.declared.raw.RawCode.{RawCode}
use Rattle.jimple_grammar.specs.declared.raw.RawDecl.{RawDecl}
use Rattle.jimple_words.specs.Kind.{Kinds, has}
use Rattle.jimple_words.specs.Sets.{names, primitives, types}
use Rattle.jimple_grammar.specs.Grammar.{Grammar, token, both, ends, Spells, BeginsBy, ManyBegins, ◌<*◌}
use Rattle.jimple_grammar.specs.Reading.{sees, sees_one, may_be_empty, first}
use Rattle.clean_base.specs.Limits.{most_locals}
use Rattle.jimple_grammar.specs.Forms.{sign, typed, brackets, ty, field_sig, callee, call, if_stmt, goto_stmt, switch_stmt, return_stmt, throw_stmt, nop_stmt, enter_stmt, exit_stmt, store_static, call_stmt, word_stmt, stmt, catch, catches, code, slot, next_slot, later_slots, slots, declared_as, decl, before_decl, room_behind, code_catches, block, body}
use Rattle.jimple_grammar.proofs.Starts.{disjoint, next, laws, not_both, or_left, or_right, and_both, and_parts, has_left, has_right}
use Rattle.jimple_grammar.proofs.Sure.{Sure, Tells, PieceBegins, starts, one_tells, apart, or_cases, off_when}
use Rattle.jimple_grammar.proofs.Front.{token_off, token_on}
use Rattle.jimple_grammar.proofs.Opens.{pair, regroup, has_parts, longer, length_parts, opens}
use Rattle.jimple_grammar.proofs.SureOperands.{comma, open_bracket, sure_brackets, sure_ty}
use Rattle.jimple_grammar.proofs.SureRightSides.{semicolon, close_bracket, operands, brackets_second, brackets_on, brackets_one}
use Rattle.jimple_grammar.proofs.StatementFronts.{behind_names, stmts_second, stmts_third}
use Rattle.jimple_grammar.proofs.SureBodies.{close_brace, sure_code, sure_catches, code_two, code_long, code_named, code_on, code_element_on}

sure_slot : (room : ℕ) (after : Kinds) → Sure (slot room) after
sure_slot zero after = tt
sure_slot (suc room) after = tt

sure_later_slots : (room : ℕ) → Sure (later_slots room) semicolon
unfolding later_slots
sure_later_slots room = ((λ n. (tt, sure_slot n (comma ++ semicolon))), (λ n. refl), (λ n. refl), tt, one_tells next_slot (λ n x. pred n) ends comma semicolon (λ n. (tt, sure_slot n (comma ++ semicolon))) (λ n. refl) (λ n. refl) tt refl)

-- the names of a declaration, and its end
abbrev slots_end : ℕ → Grammar (List Lexeme)
slots_end room = slots room <* sign kinds.Semicolon

sure_slots_end : (room : ℕ) (after : Kinds) → Sure (slots_end room) after
unfolding slots
sure_slots_end room after = ((sure_slot room (next (later_slots (pred room)) semicolon), sure_later_slots (pred room)), tt)

slots_first : (room : ℕ) → first (slots_end room) ≡ names
unfolding slots
slots_first zero = refl
slots_first (suc room) = refl

slots_some : (room : ℕ) → may_be_empty (slots_end room) ≡ false
unfolding slots
slots_some zero = refl
slots_some (suc room) = refl

-- no `[` stands behind the brackets of a type
brackets_end : (room : ℕ) (after : Kinds) → disjoint open_bracket (next (slots_end room) after) ≡ true
brackets_end room after = rw (slots_some room, slots_first room) refl

sure_decl : (room : ℕ) (after : Kinds) → Sure (decl room) after
unfolding decl
sure_decl room after = (sure_ty (next (slots_end room) after) (brackets_end room after), sure_slots_end room after)

-- the brackets of a type, and then the names
abbrev tail : ℕ → Grammar (ℕ × List Lexeme)
tail room = both pair brackets (slots_end room)

in_tail : (n room : ℕ) (t : Lexeme) (us : List Lexeme) → BeginsBy n (decl room) (t ∷ us) → (has types t.kind ≡ true) × BeginsBy n (tail room) us
unfolding decl ty
in_tail n room t us h = token_off n pair types (tail room) t us (regroup n typed declared_as (token types) brackets (slots_end room) (t ∷ us) h)

names_start : (n room : ℕ) (u : Lexeme) (us : List Lexeme) → BeginsBy n (slots_end room) (u ∷ us) → has names u.kind ≡ true
names_start n room u us h = subst (λ (ks : Kinds). has ks u.kind ≡ true) (slots_first room) (starts n (slots_end room) [] (sure_slots_end room []) u us h)

tail_first : (n room : ℕ) (u : Lexeme) (us : List Lexeme) → BeginsBy n (tail room) (u ∷ us) → has (open_bracket ++ names) u.kind ≡ true
unfolding brackets
tail_first n room u us h = subst (λ (ks : Kinds). has (open_bracket ++ ks) u.kind ≡ true) (slots_first room) (starts n (tail room) [] (sure_brackets (next (slots_end room) []) (brackets_end room []), sure_slots_end room []) u us h)

tail_second : (n room : ℕ) (u v : Lexeme) (vs : List Lexeme) → BeginsBy n (tail room) (u ∷ v ∷ vs) → has open_bracket u.kind ≡ true → has close_bracket v.kind ≡ true
tail_second n room u v vs (inl h) b = brackets_second n u v vs h
tail_second n room u v vs (inr q) b = of q.1 q.0 q.2 q.3 q.4 q.5 where
  of : (front : List Lexeme) (x : ℕ) (rest : List Lexeme) → u ∷ v ∷ vs ≡ front ++ rest → Spells brackets front x → BeginsBy n (slots_end room) rest → has close_bracket v.kind ≡ true
  of [] x rest e s h = absurd (apart open_bracket names u.kind refl b (names_start n room u (v ∷ vs) (subst (BeginsBy n (slots_end room)) (sym e) h)))
  of (w ∷ []) x rest e s h = absurd (brackets_one w x s)
  of (w ∷ z ∷ front) x rest e s h = let same : z ≡ v = cc in subst (λ (t : Lexeme). has close_bracket t.kind ≡ true) same (brackets_second 0 w z front ((laws 0 brackets).begun (w ∷ z ∷ front) x s))

-- Declarations.
decl_long : (room : ℕ) (p : List Lexeme) (v : RawDecl) → Spells (decl room) p v → 3 ≤ length p
unfolding decl ty brackets slots later_slots
decl_long zero p v h = let l : 5 ≤ length p = longer (decl zero) p v h in omega (arith, l)
decl_long (suc room) p v h = longer (decl (suc room)) p v h

decl_on : (n room : ℕ) (t : Lexeme) → has types t.kind ≡ true → BeginsBy n (decl room) (t ∷ [])
unfolding decl ty
decl_on n room t h = inl (token_on n typed types brackets t [] h (laws n brackets).empty)

decl_bracket_on : (n room : ℕ) (t u : Lexeme) → has types t.kind ≡ true → has open_bracket u.kind ≡ true → BeginsBy n (decl room) (t ∷ u ∷ [])
unfolding decl ty
decl_bracket_on n room t u h b = inl (token_on n typed types brackets t (u ∷ []) h (brackets_on n u b))

-- Labels and statements, and then catch clauses.
abbrev after_decls : Grammar (RawCode × List RawCatch)
after_decls = both code_catches code catches

sure_after_decls : Sure after_decls close_brace
unfolding catches catch
sure_after_decls = (sure_code, sure_catches)

after_primitive : (n : ℕ) (t : Lexeme) (us : List Lexeme) → BeginsBy n after_decls (t ∷ us) → has primitives t.kind ≡ true → ⊥
unfolding code stmt word_stmt store_static field_sig call_stmt call callee if_stmt goto_stmt switch_stmt return_stmt throw_stmt nop_stmt enter_stmt exit_stmt
after_primitive n t us h a = apart primitives (first after_decls) t.kind refl a (starts n after_decls close_brace sure_after_decls t us h)

after_long : (p : List Lexeme) (y : RawCode × List RawCatch) → Spells after_decls p y → 2 ≤ length p
after_long p y h = let l = length_parts p h.2 h.3 h.4 in let i = code_long h.2 h.0 h.5 in omega (arith, l, i)

code_front : (t : Lexeme) (us front back : List Lexeme) (v : RawCode) → t ∷ us ≡ front ++ back → Spells code front v → has names t.kind ≡ true → 3 ≤ length front
code_front t us [] back v e h a = absurd (let l = code_long [] v h in omega (arith, l))
code_front t us (w ∷ front) back v e h a = code_named w front v h (let same : w ≡ t = cc in subst (λ (x : Lexeme). has names x.kind ≡ true) (sym same) a)

after_named : (t : Lexeme) (us : List Lexeme) (y : RawCode × List RawCatch) → Spells after_decls (t ∷ us) y → has names t.kind ≡ true → 3 ≤ length (t ∷ us)
after_named t us y h a = let l = length_parts (t ∷ us) h.2 h.3 h.4 in let i = code_front t us h.2 h.3 h.0 h.4 h.5 a in omega (arith, l, i)

after_names : (n : ℕ) (t u : Lexeme) (us : List Lexeme) → BeginsBy n after_decls (t ∷ u ∷ us) → has names t.kind ≡ true → has names u.kind ≡ true → ⊥
after_names n t u us h a b =
    let c = opens (Spells code) (BeginsBy n code) (λ x. BeginsBy n catches) (laws n code) (t ∷ u ∷ us) (t ∷ u ∷ []) us refl (λ x front back e s. code_long front x s) h in
    elim (code_two n t u [] c) [
      | inl k ↦ apart names (kinds.Colon ∷ []) u.kind refl b k
      | inr k ↦ apart names behind_names u.kind refl b (stmts_second n t u [] k a)
    ]

after_brackets : (n : ℕ) (t u v : Lexeme) (vs : List Lexeme) → BeginsBy n after_decls (t ∷ u ∷ v ∷ vs) → has names t.kind ≡ true → has open_bracket u.kind ≡ true → has close_bracket v.kind ≡ true → ⊥
after_brackets n t u v vs h a b c =
    let d = opens (Spells code) (BeginsBy n code) (λ x. BeginsBy n catches) (laws n code) (t ∷ u ∷ v ∷ vs) (t ∷ u ∷ v ∷ []) vs refl (λ x front back e s. code_front t (u ∷ v ∷ vs) front back x e s a) h in
    elim (code_two n t u (v ∷ []) d) [
      | inl k ↦ apart open_bracket (kinds.Colon ∷ []) u.kind refl b k
      | inr k ↦ apart close_bracket operands v.kind refl c (stmts_third n t u v [] k a b)
    ]

-- What is seen in front.
sees_primitive : (t : Lexeme) (us : List Lexeme) → has primitives t.kind ≡ true → sees_one before_decl (t ∷ us) ≡ true
sees_primitive t us a = or_left (has primitives t.kind && true) (sees (names ∷ names ∷ []) (t ∷ us) || sees (names ∷ open_bracket ∷ close_bracket ∷ []) (t ∷ us)) (and_both (has primitives t.kind) true a refl)

sees_names : (t u : Lexeme) (us : List Lexeme) → has names t.kind ≡ true → has names u.kind ≡ true → sees_one before_decl (t ∷ u ∷ us) ≡ true
sees_names t u us a b =
    let two = and_both (has names t.kind) (has names u.kind && true) a (and_both (has names u.kind) true b refl) in
    or_right (has primitives t.kind && true) (sees (names ∷ names ∷ []) (t ∷ u ∷ us) || sees (names ∷ open_bracket ∷ close_bracket ∷ []) (t ∷ u ∷ us)) (or_left (sees (names ∷ names ∷ []) (t ∷ u ∷ us)) (sees (names ∷ open_bracket ∷ close_bracket ∷ []) (t ∷ u ∷ us)) two)

sees_brackets : (t u v : Lexeme) (vs : List Lexeme) → has names t.kind ≡ true → has open_bracket u.kind ≡ true → has close_bracket v.kind ≡ true → sees_one before_decl (t ∷ u ∷ v ∷ vs) ≡ true
sees_brackets t u v vs a b c =
    let three = and_both (has names t.kind) (has open_bracket u.kind && (has close_bracket v.kind && true)) a (and_both (has open_bracket u.kind) (has close_bracket v.kind && true) b (and_both (has close_bracket v.kind) true c refl)) in
    or_right (has primitives t.kind && true) (sees (names ∷ names ∷ []) (t ∷ u ∷ v ∷ vs) || sees (names ∷ open_bracket ∷ close_bracket ∷ []) (t ∷ u ∷ v ∷ vs)) (or_right (sees (names ∷ names ∷ []) (t ∷ u ∷ v ∷ vs)) (sees (names ∷ open_bracket ∷ close_bracket ∷ []) (t ∷ u ∷ v ∷ vs)) three)

ways : (t : Lexeme) (us : List Lexeme) → sees_one before_decl (t ∷ us) ≡ true → (has primitives t.kind ≡ true) ⊎ (((has names t.kind ≡ true) × (sees (names ∷ []) us ≡ true)) ⊎ ((has names t.kind ≡ true) × (sees (open_bracket ∷ close_bracket ∷ []) us ≡ true)))
ways t us h = elim (or_cases (has primitives t.kind && true) (sees (names ∷ names ∷ []) (t ∷ us) || sees (names ∷ open_bracket ∷ close_bracket ∷ []) (t ∷ us)) h) [
  | inl p ↦ inl (and_parts (has primitives t.kind) true p).0
  | inr r ↦ elim (or_cases (sees (names ∷ names ∷ []) (t ∷ us)) (sees (names ∷ open_bracket ∷ close_bracket ∷ []) (t ∷ us)) r) [
    | inl q ↦ inr (inl (and_parts (has names t.kind) (sees (names ∷ []) us) q))
    | inr q ↦ inr (inr (and_parts (has names t.kind) (sees (open_bracket ∷ close_bracket ∷ []) us) q))
  ]
]

seen_first : (ks : Kinds) (kss : List Kinds) (t : Lexeme) (us : List Lexeme) → sees (ks ∷ kss) (t ∷ us) ≡ true → has ks t.kind ≡ true
seen_first ks kss t us h = (and_parts (has ks t.kind) (sees kss us) h).0

seen_second : (ks ms : Kinds) (t u : Lexeme) (us : List Lexeme) → sees (ks ∷ ms ∷ []) (t ∷ u ∷ us) ≡ true → has ms u.kind ≡ true
seen_second ks ms t u us h = (and_parts (has ms u.kind) true (and_parts (has ks t.kind) (has ms u.kind && true) h).1).0

seen_type : (t : Lexeme) (us : List Lexeme) → sees_one before_decl (t ∷ us) ≡ true → has types t.kind ≡ true
seen_type t us h = elim (ways t us h) [
  | inl p ↦ has_right names primitives t.kind p
  | inr r ↦ elim r [ inl q ↦ has_left names primitives t.kind q.0 | inr q ↦ has_left names primitives t.kind q.0 ]
]

unseen_name : (t : Lexeme) (us : List Lexeme) → sees_one before_decl (t ∷ us) ≡ false → has types t.kind ≡ true → has names t.kind ≡ true
unseen_name t us dark h = elim (has_parts names primitives t.kind h) [
  | inl a ↦ a
  | inr a ↦ absurd (not_both (sees_one before_decl (t ∷ us)) (sees_primitive t us a) dark)
]

unseen_bracket : (t u : Lexeme) (us : List Lexeme) → sees_one before_decl (t ∷ u ∷ us) ≡ false → has names t.kind ≡ true → has (open_bracket ++ names) u.kind ≡ true → has open_bracket u.kind ≡ true
unseen_bracket t u us dark a h = elim (has_parts open_bracket names u.kind h) [
  | inl b ↦ b
  | inr b ↦ absurd (not_both (sees_one before_decl (t ∷ u ∷ us)) (sees_names t u us a b) dark)
]

-- three tokens that aren't seen in front of a declaration
never_dark : (n room : ℕ) (t u v : Lexeme) (vs : List Lexeme) → BeginsBy n (decl room) (t ∷ u ∷ v ∷ []) → sees_one before_decl (t ∷ u ∷ v ∷ vs) ≡ false → ⊥
never_dark n room t u v vs h dark =
    let d = in_tail n room t (u ∷ v ∷ []) h in
    let a = unseen_name t (u ∷ v ∷ vs) dark d.0 in
    let b = unseen_bracket t u (v ∷ vs) dark a (tail_first n room u (v ∷ []) d.1) in
    not_both (sees_one before_decl (t ∷ u ∷ v ∷ vs)) (sees_brackets t u v vs a b (tail_second n room u v [] d.1 b)) dark

-- three tokens that are seen in front of what comes after the declarations
never_lit : (n : ℕ) (t u v : Lexeme) (vs ws : List Lexeme) → BeginsBy n after_decls (t ∷ u ∷ v ∷ vs) → sees_one before_decl (t ∷ u ∷ v ∷ ws) ≡ true → ⊥
never_lit n t u v vs ws h lit = elim (ways t (u ∷ v ∷ ws) lit) [
  | inl p ↦ after_primitive n t (u ∷ v ∷ vs) h p
  | inr r ↦ elim r [
    | inl q ↦ after_names n t u (v ∷ vs) h q.0 (seen_first names [] u (v ∷ ws) q.1)
    | inr q ↦ after_brackets n t u v vs h q.0 (seen_first open_bracket (close_bracket ∷ []) u (v ∷ ws) q.1) (seen_second open_bracket close_bracket u v ws q.1)
  ]
]

abbrev Pieces : ℕ → ℕ → List Lexeme → Type 0
Pieces n room ts = PieceBegins n decl room_behind after_decls room ts

first_three : (n room : ℕ) (ts p l : List Lexeme) → ts ≡ p ++ l → length p ≤ 3 → Pieces n room ts → BeginsBy n (decl room) p
first_three n room ts p l e short h = opens (Spells (decl room)) (BeginsBy n (decl room)) (λ x. ManyBegins (λ s. Spells (decl s)) room_behind (λ s. BeginsBy n (decl s)) (BeginsBy n after_decls) (room_behind room x)) (laws n (decl room)) ts p l e (λ x front back e s. let i = decl_long room front x s in omega (arith, i, short)) h

seen_two : (n room : ℕ) (t u : Lexeme) (l : List Lexeme) → sees_one before_decl (t ∷ u ∷ l) ≡ true → BeginsBy n after_decls (t ∷ u ∷ []) → BeginsBy n (decl room) (t ∷ u ∷ [])
seen_two n room t u l lit h = elim (ways t (u ∷ l) lit) [
  | inl p ↦ absurd (after_primitive n t (u ∷ []) h p)
  | inr r ↦ elim r [
    | inl q ↦ absurd (after_names n t u [] h q.0 (seen_first names [] u l q.1))
    | inr q ↦ decl_bracket_on n room t u (has_left names primitives t.kind q.0) (seen_first open_bracket (close_bracket ∷ []) u l q.1)
  ]
]

seen_at : (n room : ℕ) (ts p l : List Lexeme) → sees_one before_decl ts ≡ true → ts ≡ p ++ l → BeginsBy n after_decls p → Pieces n room p
seen_at n room ts [] l lit e h = inl (laws n (decl room)).empty
seen_at n room ts (t ∷ []) l lit e h = inl (decl_on n room t (seen_type t l (subst (λ (us : List Lexeme). sees_one before_decl us ≡ true) e lit)))
seen_at n room ts (t ∷ u ∷ []) l lit e h = inl (seen_two n room t u l (subst (λ (us : List Lexeme). sees_one before_decl us ≡ true) e lit) h)
seen_at n room ts (t ∷ u ∷ v ∷ vs) l lit e h = absurd (never_lit n t u v vs (vs ++ l) h (subst (λ (us : List Lexeme). sees_one before_decl us ≡ true) e lit))

unseen_two : (n room : ℕ) (t u : Lexeme) (l : List Lexeme) → sees_one before_decl (t ∷ u ∷ l) ≡ false → BeginsBy n (decl room) (t ∷ u ∷ []) → BeginsBy n after_decls (t ∷ u ∷ [])
unseen_two n room t u l dark h =
    let d = in_tail n room t (u ∷ []) h in
    let a = unseen_name t (u ∷ l) dark d.0 in
    inl (code_element_on n t u a (unseen_bracket t u l dark a (tail_first n room u [] d.1)))

unseen_at : (n room : ℕ) (ts p l : List Lexeme) → sees_one before_decl ts ≡ false → ts ≡ p ++ l → Pieces n room p → BeginsBy n after_decls p
unseen_at n room ts [] l dark e h = (laws n after_decls).empty
unseen_at n room ts (t ∷ []) l dark e h = inl (code_on n t (unseen_name t l (subst (λ (us : List Lexeme). sees_one before_decl us ≡ false) e dark) (in_tail n room t [] (first_three n room (t ∷ []) (t ∷ []) [] refl (omega arith) h)).0))
unseen_at n room ts (t ∷ u ∷ []) l dark e h = unseen_two n room t u l (subst (λ (us : List Lexeme). sees_one before_decl us ≡ false) e dark) (first_three n room (t ∷ u ∷ []) (t ∷ u ∷ []) [] refl (omega arith) h)
unseen_at n room ts (t ∷ u ∷ v ∷ vs) l dark e h = absurd (never_dark n room t u v (vs ++ l) (first_three n room (t ∷ u ∷ v ∷ vs) (t ∷ u ∷ v ∷ []) vs refl (omega arith) h) (subst (λ (us : List Lexeme). sees_one before_decl us ≡ false) e dark))

piece_at : (room : ℕ) (front back : List Lexeme) (x : RawDecl) → Spells (decl room) front x → sees_one before_decl (front ++ back) ≡ true
piece_at room [] back x h = absurd (let l = decl_long room [] x h in omega (arith, l))
piece_at room (t ∷ []) back x h = absurd (let l = decl_long room (t ∷ []) x h in omega (arith, l))
piece_at room (t ∷ u ∷ []) back x h = absurd (let l = decl_long room (t ∷ u ∷ []) x h in omega (arith, l))
piece_at room (t ∷ u ∷ v ∷ vs) back x h = lit_of (sees_one before_decl (t ∷ u ∷ v ∷ (vs ++ back))) refl where
  lit_of : (c : Bool) → sees_one before_decl (t ∷ u ∷ v ∷ (vs ++ back)) ≡ c → sees_one before_decl (t ∷ u ∷ v ∷ (vs ++ back)) ≡ true
  lit_of true e = e
  lit_of false e = absurd (never_dark 0 room t u v (vs ++ back) ((laws 0 (decl room)).closed (t ∷ u ∷ v ∷ []) vs ((laws 0 (decl room)).begun (t ∷ u ∷ v ∷ vs) x h)) e)

-- two tokens that are seen, and no more of them
end_two : (t u : Lexeme) (l : List Lexeme) (y : RawCode × List RawCatch) → Spells after_decls (t ∷ u ∷ []) y → sees_one before_decl (t ∷ u ∷ l) ≡ true → ⊥
end_two t u l y h lit =
    let b = (laws 0 after_decls).begun (t ∷ u ∷ []) y h in
    elim (ways t (u ∷ l) lit) [
      | inl p ↦ after_primitive 0 t (u ∷ []) b p
      | inr r ↦ elim r [ inl q ↦ too_short q.0 | inr q ↦ too_short q.0 ]
    ]
  where
    too_short : has names t.kind ≡ true → ⊥
    too_short a = let l = after_named t (u ∷ []) y h a in omega (arith, l)

end_at : (p l : List Lexeme) (y : RawCode × List RawCatch) → Spells after_decls p y → sees_one before_decl (p ++ l) ≡ false
end_at [] l y h = absurd (let i = after_long [] y h in omega (arith, i))
end_at (t ∷ []) l y h = absurd (let i = after_long (t ∷ []) y h in omega (arith, i))
end_at (t ∷ u ∷ []) l y h = off_when (sees_one before_decl (t ∷ u ∷ l)) (λ lit. end_two t u l y h lit)
end_at (t ∷ u ∷ v ∷ vs) l y h = off_when (sees_one before_decl (t ∷ u ∷ v ∷ (vs ++ l))) (λ lit. never_lit 0 t u v vs (vs ++ l) ((laws 0 after_decls).begun (t ∷ u ∷ v ∷ vs) y h) lit)

decls_tell : (after : Kinds) → Tells before_decl decl room_behind after_decls after
decls_tell after = record {
  none = refl;
  seen = λ n room ts p l lit e h. seen_at n room ts p l lit e h;
  unseen = λ n room ts p l dark e h. unseen_at n room ts p l dark e h;
  at_piece = λ room p l z h f. subst (λ (us : List Lexeme). sees_one before_decl us ≡ true) (sym (ap (λ (us : List Lexeme). us ++ l) h.4 ∙ append_assoc h.2 h.3 l)) (piece_at room h.2 (h.3 ++ l) h.0 h.5);
  at_end = λ p l y h f. end_at p l y h;
}

decl_first : (room : ℕ) → first (decl room) ≡ types
unfolding decl ty
decl_first room = refl

decl_some : (room : ℕ) → may_be_empty (decl room) ≡ false
unfolding decl ty
decl_some room = refl

sure_block : Sure block close_brace
unfolding block
sure_block = ((λ room. sure_decl room (first (decl most_locals) ++ next after_decls close_brace)), (λ room. decl_first room ∙ sym (decl_first most_locals)), (λ room. decl_some room), sure_after_decls, decls_tell close_brace)

pub sure_body : (after : Kinds) → Sure body after
unfolding body
sure_body after = ((tt, sure_block), tt)
