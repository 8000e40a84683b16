-- A further modifier word is a modifier where a word follows, and else the type of a field or a method.
use Rattle.std.proofs.Common.{◌≡◌, ◌⊎◌, ℕ, ◌≤◌, true, false, List, [], ◌∷◌, ◌++◌, length, refl, sym, ◌∙◌, ap, subst, inl, inr, arith}
use mathlib.Core.Bool.{◌&&◌}
use Rattle.jimple_words.specs.declared.kind.Kind.TheVariants as kinds
use Rattle.jimple_grammar.specs.declared.lexeme.Lexeme.{Lexeme}
use Rattle.jimple_grammar.specs.declared.raw.RawType.{RawType}
use Rattle.jimple_words.specs.Kind.{Kinds, has}
use Rattle.jimple_words.specs.Sets.{words, modifiers, sure_types}
use Rattle.jimple_grammar.specs.Grammar.{Spells, BeginsBy, ManySpells, last, more, ManyBegins, piece, end, later}
use Rattle.jimple_grammar.specs.Reading.{sees, sees_one}
use Rattle.jimple_grammar.specs.Forms.{brackets, modifier, put, plain_rest, far_rest, member_type, before_modifier, head}
use Rattle.jimple_grammar.proofs.Starts.{laws, many_laws, not_both, or_left, or_right, and_both, and_parts, has_left, has_right}
use Rattle.jimple_grammar.proofs.Sure.{Sure, Tells, PieceBegins, starts, apart, or_cases, off_when}
use Rattle.jimple_grammar.proofs.Front.{token_off, token_on}
use Rattle.jimple_grammar.proofs.Opens.{in_subset, has_parts, longer, length_parts}
use Rattle.jimple_grammar.proofs.SureOperands.{open_bracket, sure_brackets}

abbrev further : Kinds
further = kinds.Further ∷ []

abbrev modifier_words : Kinds
modifier_words = modifiers ++ further

abbrev type_words : Kinds
type_words = sure_types ++ further

-- The type and the name of a field or a method.
sure_plain_rest : (after : Kinds) → Sure plain_rest after
sure_plain_rest after = (sure_brackets words refl, tt)

sure_far_rest : (after : Kinds) → Sure far_rest after
sure_far_rest after = ((tt, tt), (sure_brackets words refl, tt))

pub sure_member_type : (after : Kinds) → Sure member_type after
unfolding member_type
sure_member_type after = ((tt, sure_plain_rest after), (tt, sure_far_rest after), refl, refl)

type_first : (n : ℕ) (t : Lexeme) (us : List Lexeme) → BeginsBy n member_type (t ∷ us) → has type_words t.kind ≡ true
unfolding member_type
type_first n t us h = starts n member_type [] (sure_member_type []) t us h

-- behind a further modifier word stands `[`
type_second : (n : ℕ) (t u : Lexeme) (us : List Lexeme) → BeginsBy n member_type (t ∷ u ∷ us) → has further t.kind ≡ true → has open_bracket u.kind ≡ true
unfolding member_type
type_second n t u us (inl h) k = absurd (apart sure_types further t.kind refl (token_off n put sure_types plain_rest t (u ∷ us) h).0 k)
type_second n t u us (inr h) k = starts n far_rest [] (sure_far_rest []) u us (token_off n put further far_rest t (u ∷ us) h).1

type_on : (n : ℕ) (t : Lexeme) → has further t.kind ≡ true → BeginsBy n member_type (t ∷ [])
unfolding member_type
type_on n t h = inr (token_on n put further far_rest t [] h (laws n far_rest).empty)

type_long : (p : List Lexeme) (v : RawType × Lexeme) → Spells member_type p v → 2 ≤ length p
unfolding member_type brackets
type_long p v h = longer member_type p v h

no_modifier : (n : ℕ) (t : Lexeme) (us : List Lexeme) → BeginsBy n member_type (t ∷ us) → has modifiers t.kind ≡ true → ⊥
no_modifier n t us h k = apart modifiers type_words t.kind refl k (type_first n t us h)

no_word : (n : ℕ) (t u : Lexeme) (us : List Lexeme) → BeginsBy n member_type (t ∷ u ∷ us) → has further t.kind ≡ true → has words u.kind ≡ true → ⊥
no_word n t u us h k w = apart words open_bracket u.kind refl w (type_second n t u us h k)

-- One modifier.
one_first : (n : ℕ) (t : Lexeme) (us : List Lexeme) → BeginsBy n modifier (t ∷ us) → (has modifier_words t.kind ≡ true) × (us ≡ [])
one_first n t us (inl e) = absurd cc
one_first n t us (inr h) = let k = h.1 in let e : t ≡ h.0 = cc in (subst (λ (v : Lexeme). has modifier_words v.kind ≡ true) (sym e) h.2, let m : us ≡ [] = cc in m)

one_front : (t : Lexeme) (us : List Lexeme) (x : Lexeme) (front rest : List Lexeme) → t ∷ us ≡ front ++ rest → Spells modifier front x → (has modifier_words t.kind ≡ true) × (us ≡ rest)
one_front t us x front rest e h =
    let k : t ∷ us ≡ x ∷ rest = e ∙ ap (λ (vs : List Lexeme). vs ++ rest) h.0 in
    let s : t ≡ x = cc in
    (subst (λ (v : Lexeme). has modifier_words v.kind ≡ true) (sym s) h.1, let n : us ≡ rest = cc in n)

-- Modifiers, and then the type and the name.
abbrev Heads : ℕ → List Lexeme → Type 0
Heads n ts = ManyBegins {S = Unit {0}} (λ s. Spells modifier) (λ s x. s) (λ s. BeginsBy n modifier) (BeginsBy n member_type) tt ts

abbrev HeadSpells : List Lexeme → List Lexeme × (RawType × Lexeme) → Type 0
HeadSpells ts z = ManySpells {S = Unit {0}} (λ s. Spells modifier) (λ s x. s) (Spells member_type) tt ts z

abbrev Pieces : ℕ → List Lexeme → Type 0
Pieces n ts = PieceBegins n {S = Unit {0}} (λ s. modifier) (λ s x. s) member_type tt ts

head_word : (n : ℕ) (u : Lexeme) (us : List Lexeme) → Heads n (u ∷ us) → has words u.kind ≡ true
head_word n u us (piece h) = in_subset modifier_words words u.kind refl (one_first n u us h).0
head_word n u us (end h) = in_subset type_words words u.kind refl (type_first n u us h)
head_word n u us (later x front rest e s h) = in_subset modifier_words words u.kind refl (one_front u us x front rest e s).0

pieces_first : (n : ℕ) (t : Lexeme) (us : List Lexeme) → Pieces n (t ∷ us) → has modifier_words t.kind ≡ true
pieces_first n t us (inl h) = (one_first n t us h).0
pieces_first n t us (inr q) = (one_front t us q.0 q.1 q.2 q.3 q.4).0

pieces_second : (n : ℕ) (t u : Lexeme) (us : List Lexeme) → Pieces n (t ∷ u ∷ us) → has words u.kind ≡ true
pieces_second n t u us (inl h) = absurd (let m = (one_first n t (u ∷ us) h).1 in let bad : u ∷ us ≡ [] = m in cc)
pieces_second n t u us (inr q) = head_word n u us (subst (Heads n) (sym (one_front t (u ∷ us) q.0 q.1 q.2 q.3 q.4).1) q.5)

-- What is seen in front.
sees_modifier : (t : Lexeme) (us : List Lexeme) → has modifiers t.kind ≡ true → sees_one before_modifier (t ∷ us) ≡ true
sees_modifier t us a = or_left (has modifiers t.kind && true) (sees (further ∷ words ∷ []) (t ∷ us)) (and_both (has modifiers t.kind) true a refl)

sees_further : (t u : Lexeme) (us : List Lexeme) → has further t.kind ≡ true → has words u.kind ≡ true → sees_one before_modifier (t ∷ u ∷ us) ≡ true
sees_further t u us a b = or_right (has modifiers t.kind && true) (sees (further ∷ words ∷ []) (t ∷ u ∷ us)) (and_both (has further t.kind) (has words u.kind && true) a (and_both (has words u.kind) true b refl))

sees_both : (t u : Lexeme) (us : List Lexeme) → has modifier_words t.kind ≡ true → has words u.kind ≡ true → sees_one before_modifier (t ∷ u ∷ us) ≡ true
sees_both t u us a b = elim (has_parts modifiers further t.kind a) [
  | inl m ↦ sees_modifier t (u ∷ us) m
  | inr f ↦ sees_further t u us f b
]

ways : (t : Lexeme) (us : List Lexeme) → sees_one before_modifier (t ∷ us) ≡ true → (has modifiers t.kind ≡ true) ⊎ ((has further t.kind ≡ true) × (sees (words ∷ []) us ≡ true))
ways t us h = elim (or_cases (has modifiers t.kind && true) (sees (further ∷ words ∷ []) (t ∷ us)) h) [
  | inl m ↦ inl (and_parts (has modifiers t.kind) true m).0
  | inr f ↦ inr (and_parts (has further t.kind) (sees (words ∷ []) us) f)
]

never_lit : (n : ℕ) (t u : Lexeme) (us l : List Lexeme) → BeginsBy n member_type (t ∷ u ∷ us) → sees_one before_modifier (t ∷ u ∷ l) ≡ true → ⊥
never_lit n t u us l h lit = elim (ways t (u ∷ l) lit) [
  | inl m ↦ no_modifier n t (u ∷ us) h m
  | inr f ↦ no_word n t u us h f.0 (and_parts (has words u.kind) true f.1).0
]

seen_one : (n : ℕ) (t : Lexeme) (l : List Lexeme) → sees_one before_modifier (t ∷ l) ≡ true → BeginsBy n modifier (t ∷ [])
seen_one n t l lit = elim (ways t l lit) [
  | inl m ↦ inr (t, refl, has_left modifiers further t.kind m)
  | inr f ↦ inr (t, refl, has_right modifiers further t.kind f.0)
]

unseen_one : (n : ℕ) (t : Lexeme) (l : List Lexeme) → sees_one before_modifier (t ∷ l) ≡ false → has modifier_words t.kind ≡ true → BeginsBy n member_type (t ∷ [])
unseen_one n t l dark a = elim (has_parts modifiers further t.kind a) [
  | inl m ↦ absurd (not_both (sees_one before_modifier (t ∷ l)) (sees_modifier t l m) dark)
  | inr f ↦ type_on n t f
]

seen_at : (n : ℕ) (ts p l : List Lexeme) → sees_one before_modifier ts ≡ true → ts ≡ p ++ l → BeginsBy n member_type p → Pieces n p
seen_at n ts [] l lit e h = inl (laws n modifier).empty
seen_at n ts (t ∷ []) l lit e h = inl (seen_one n t l (subst (λ (us : List Lexeme). sees_one before_modifier us ≡ true) e lit))
seen_at n ts (t ∷ u ∷ us) l lit e h = absurd (never_lit n t u us (us ++ l) h (subst (λ (vs : List Lexeme). sees_one before_modifier vs ≡ true) e lit))

unseen_at : (n : ℕ) (ts p l : List Lexeme) → sees_one before_modifier ts ≡ false → ts ≡ p ++ l → Pieces n p → BeginsBy n member_type p
unseen_at n ts [] l dark e h = (laws n member_type).empty
unseen_at n ts (t ∷ []) l dark e h = unseen_one n t l (subst (λ (us : List Lexeme). sees_one before_modifier us ≡ false) e dark) (pieces_first n t [] h)
unseen_at n ts (t ∷ u ∷ us) l dark e h = absurd (not_both (sees_one before_modifier (t ∷ u ∷ (us ++ l))) (sees_both t u (us ++ l) (pieces_first n t (u ∷ us) h) (pieces_second n t u us h)) (subst (λ (vs : List Lexeme). sees_one before_modifier vs ≡ false) e dark))

spelled_some : {ts : List Lexeme} {z : List Lexeme × (RawType × Lexeme)} → HeadSpells ts z → ts ≡ [] → ⊥
spelled_some (last y h e) m = let l = type_long _ y h in let n = ap length m in omega (arith, l, n)
spelled_some (more x z front rest parts h k e) m = let l = length_parts _ front rest parts in let i = longer modifier front x h in let n = ap length m in omega (arith, l, i, n)

piece_at : (x : Lexeme) (back rest : List Lexeme) (z : List Lexeme × (RawType × Lexeme)) → has modifier_words x.kind ≡ true → HeadSpells back z → sees_one before_modifier (x ∷ (back ++ rest)) ≡ true
piece_at x [] rest z a h = absurd (spelled_some h refl)
piece_at x (u ∷ us) rest z a h = sees_both x u (us ++ rest) a (head_word 0 u us ((many_laws {S = Unit {0}} (λ s. Spells modifier) (λ s x. s) (λ s. BeginsBy 0 modifier) (BeginsBy 0 member_type) (λ s. laws 0 modifier) (Spells member_type) (laws 0 member_type) tt).begun (u ∷ us) z h))

end_at : (p l : List Lexeme) (y : RawType × Lexeme) → Spells member_type p y → sees_one before_modifier (p ++ l) ≡ false
end_at [] l y h = absurd (let i = type_long [] y h in omega (arith, i))
end_at (t ∷ []) l y h = absurd (let i = type_long (t ∷ []) y h in omega (arith, i))
end_at (t ∷ u ∷ us) l y h = off_when (sees_one before_modifier (t ∷ u ∷ (us ++ l))) (λ lit. never_lit 0 t u us (us ++ l) ((laws 0 member_type).begun (t ∷ u ∷ us) y h) lit)

modifiers_tell : (after : Kinds) → Tells {S = Unit {0}} before_modifier (λ s. modifier) (λ s x. s) member_type after
modifiers_tell after = record {
  none = refl;
  seen = λ n s ts p l lit e h. seen_at n ts p l lit e h;
  unseen = λ n s ts p l dark e h. unseen_at n ts p l dark e h;
  at_piece = λ s p l z h f. subst (λ (us : List Lexeme). sees_one before_modifier us ≡ true) (sym (ap (λ (us : List Lexeme). us ++ l) (h.4 ∙ ap (λ (us : List Lexeme). us ++ h.3) h.5.0))) (piece_at h.0 h.3 l h.1 h.5.1 h.6);
  at_end = λ p l y h f. end_at p l y h;
}

pub sure_head : (after : Kinds) → Sure head after
unfolding head
sure_head after = ((λ s. tt), (λ s. refl), (λ s. refl), sure_member_type after, modifiers_tell after)
