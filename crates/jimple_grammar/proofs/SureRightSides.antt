-- The choices of right sides show by the tokens in front; `[` and an operand tell one more length from empty brackets.
use Rattle.std.proofs.Common.{◌≡◌, ℕ, ◌≤◌, true, false, List, [], ◌∷◌, ◌++◌, length, refl, rules, sym, ◌∙◌, inl, inr, arith}
use Rattle.jimple_words.specs.declared.kind.Kind.TheVariants as kinds
use Rattle.jimple_grammar.specs.declared.lexeme.Lexeme.{Lexeme}
use Rattle.jimple_grammar.specs.declared.raw.RawImm.{RawImm}
use Rattle.jimple_words.specs.Kind.{Kinds, has}
use Rattle.jimple_words.specs.Sets.{names}
use Rattle.jimple_grammar.specs.Grammar.{token, both, ends, Spells, BeginsBy, ManySpells, last, more, piece}
use Rattle.jimple_grammar.specs.Reading.{may_be_empty, first}
use Rattle.jimple_grammar.specs.Forms.{bracket_pair, brackets, field_sig, constant, handle, imm, callee, call, element, behind_operand, behind_local, behind_handle, cast, new_array, before_length, later_lengths, new_multi, local_rhs, handle_rhs, constant_rhs, new_object, length_of, negated, static_load, called, rhs}
use Rattle.jimple_grammar.proofs.Starts.{disjoint, next, laws}
use Rattle.jimple_grammar.proofs.Sure.{Sure, Tells, starts, apart}
use Rattle.jimple_grammar.proofs.Front.{token_off, token_on}
use Rattle.jimple_grammar.proofs.Opens.{subset, in_subset, pair, regroup, longer, length_parts, many_opens, two_tell}
use Rattle.jimple_grammar.proofs.SureOperands.{open_bracket, sure_brackets, sure_ty, sure_field_sig, sure_constant, sure_imm, sure_call}

abbrev pub semicolon : Kinds
semicolon = kinds.Semicolon ∷ []

abbrev pub close_bracket : Kinds
close_bracket = kinds.CloseBracket ∷ []

-- what an operand begins with
abbrev pub operands : Kinds
operands = names ++ kinds.Number ∷ kinds.Text ∷ kinds.Null ∷ kinds.Class ∷ []

pub sure_element : (after : Kinds) → Sure element after
unfolding element
sure_element after = ((tt, sure_imm close_bracket refl), tt)

imm_first : subset (first imm) operands ≡ true
unfolding imm handle constant
imm_first = refl

pub element_first : (n : ℕ) (t : Lexeme) (us : List Lexeme) → BeginsBy n element (t ∷ us) → has open_bracket t.kind ≡ true
unfolding element
element_first n t us h = starts n element [] (sure_element []) t us h

imm_of : (n : ℕ) (u : Lexeme) (us : List Lexeme) → BeginsBy n (both pair imm (token close_bracket)) (u ∷ us) → has (first imm) u.kind ≡ true
unfolding imm handle constant
imm_of n u us h = starts n (both pair imm (token close_bracket)) [] (sure_imm close_bracket refl, tt) u us h

pub element_second : (n : ℕ) (t u : Lexeme) (us : List Lexeme) → BeginsBy n element (t ∷ u ∷ us) → has operands u.kind ≡ true
unfolding element
element_second n t u us h =
    let r = (token_off n pair open_bracket (both pair imm (token close_bracket)) t (u ∷ us) (regroup n (λ x y. y) (λ x y. x) (token open_bracket) imm (token close_bracket) (t ∷ u ∷ us) h)).1 in
    in_subset (first imm) operands u.kind imm_first (imm_of n u us r)

pub element_on : (n : ℕ) (t : Lexeme) → has open_bracket t.kind ≡ true → BeginsBy n element (t ∷ [])
unfolding element
element_on n t h = inl (token_on n (λ x y. y) open_bracket imm t [] h (laws n imm).empty)

pub element_long : (p : List Lexeme) (v : RawImm) → Spells element p v → 3 ≤ length p
unfolding element imm handle constant
element_long p v h = longer element p v h

-- Empty brackets.
pair_second : (n : ℕ) (t u : Lexeme) (us : List Lexeme) → BeginsBy n bracket_pair (t ∷ u ∷ us) → has close_bracket u.kind ≡ true
pair_second n t u us h = starts n (token close_bracket) [] tt u us (token_off n (λ x y. y) open_bracket (token close_bracket) t (u ∷ us) h).1

pub brackets_second : (n : ℕ) (t u : Lexeme) (us : List Lexeme) → BeginsBy n brackets (t ∷ u ∷ us) → has close_bracket u.kind ≡ true
unfolding brackets
brackets_second n t u us h = elim (many_opens {S = Unit {0}} (λ s. Spells bracket_pair) (λ s x. s) (λ s. BeginsBy n bracket_pair) (BeginsBy n ends) tt (laws n bracket_pair) (t ∷ u ∷ us) (t ∷ u ∷ []) us refl (λ x front h. longer bracket_pair front x h) h) [
  | inl b ↦ pair_second n t u [] b
  | inr e ↦ absurd cc
]

pub brackets_on : (n : ℕ) (t : Lexeme) → has open_bracket t.kind ≡ true → BeginsBy n brackets (t ∷ [])
unfolding brackets
brackets_on n t h = piece (token_on n (λ x y. y) open_bracket (token close_bracket) t [] h (laws n (token close_bracket)).empty)

pub brackets_one : (t : Lexeme) (v : ℕ) → Spells brackets (t ∷ []) v → ⊥
unfolding brackets
brackets_one t v h = of h.1 refl where
  of : {p : List Lexeme} {z : List Lexeme × Unit {0}} → ManySpells {S = Unit {0}} (λ s. Spells bracket_pair) (λ s x. s) (Spells ends) tt p z → p ≡ t ∷ [] → ⊥
  of (last y q e) m = let n = q.0 in absurd cc
  of (more x z front rest parts q k e) m = let l = longer bracket_pair front x q in let i = length_parts (t ∷ []) front rest (sym m ∙ parts) in absurd (omega (arith, l, i))

lengths_tell : (after : Kinds) → disjoint open_bracket after ≡ true → Tells {S = Unit {0}} before_length (λ s. element) (λ s x. s) brackets after
lengths_tell after d = two_tell {S = Unit {0}} (λ s. element) (λ s x. s) brackets open_bracket operands after
    (λ s p v h. let l = element_long p v h in omega (arith, l)) (λ n s t h. element_first n t [] h) (λ n s t u h. (element_first n t (u ∷ []) h, element_second n t u [] h)) (λ n s t h. element_on n t h)
    (λ n t h. brackets_on n t h) (λ n t u us h i j. apart close_bracket operands u.kind refl (brackets_second n t u us h) j) (λ t y h. brackets_one t y h) (λ y h. d)

element_some : may_be_empty element ≡ false
unfolding element
element_some = refl

sure_later_lengths : (after : Kinds) → disjoint open_bracket after ≡ true → Sure later_lengths after
unfolding later_lengths
sure_later_lengths after d = ((λ s. sure_element (first element ++ next brackets after)), (λ s. refl), (λ s. element_some), sure_brackets after d, lengths_tell after d)

sure_behind_operand : (left : RawImm) → Sure (behind_operand left) semicolon
unfolding behind_operand
sure_behind_operand left = search (sure_ty, sure_imm)

sure_behind_local : (x : Lexeme) → Sure (behind_local x) semicolon
unfolding behind_local behind_operand element field_sig
sure_behind_local x = search (sure_field_sig, sure_element, sure_behind_operand)

sure_behind_handle : (x : Lexeme) → Sure (behind_handle x) semicolon
unfolding behind_handle behind_local behind_operand element field_sig
sure_behind_handle x = (tt, sure_behind_local x, refl, refl)

sure_cast : Sure cast semicolon
unfolding cast
sure_cast = search (sure_ty, sure_imm)

sure_new_array : (after : Kinds) → Sure new_array after
unfolding new_array
sure_new_array after = search (sure_ty, sure_element)

sure_new_multi : Sure new_multi semicolon
unfolding new_multi
sure_new_multi = search (sure_ty, sure_element, sure_later_lengths)

sure_local_rhs : Sure local_rhs semicolon
unfolding local_rhs
sure_local_rhs = (tt, (λ x. (tt, sure_behind_local x)), refl)

sure_handle_rhs : Sure handle_rhs semicolon
unfolding handle_rhs
sure_handle_rhs = (tt, (λ x. (tt, sure_behind_handle x)), refl)

sure_constant_rhs : Sure constant_rhs semicolon
unfolding constant_rhs constant
sure_constant_rhs = (sure_constant [], (λ x. (sure_constant (next (behind_operand x) semicolon), sure_behind_operand x)), refl)

sure_new_object : (after : Kinds) → Sure new_object after
unfolding new_object
sure_new_object after = search rules

sure_length_of : Sure length_of semicolon
unfolding length_of
sure_length_of = search sure_imm

sure_negated : Sure negated semicolon
unfolding negated
sure_negated = search sure_imm

sure_static_load : (after : Kinds) → Sure static_load after
unfolding static_load
sure_static_load after = search sure_field_sig

sure_called : (after : Kinds) → Sure called after
unfolding called
sure_called after = search sure_call

pub sure_rhs : Sure rhs semicolon
unfolding rhs local_rhs handle_rhs constant_rhs constant cast static_load field_sig new_object new_array new_multi length_of negated called call callee
sure_rhs = (sure_local_rhs, (sure_handle_rhs, (sure_constant_rhs, (sure_cast, (sure_static_load semicolon, (sure_new_object semicolon, (sure_new_array semicolon, (sure_new_multi, (sure_length_of, (sure_negated, sure_called semicolon, refl, refl), refl, refl), refl, refl), refl, refl), refl, refl), refl, refl), refl, refl), refl, refl), refl, refl), refl, refl)
