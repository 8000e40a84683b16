-- The choices of types, signatures, operands and calls show by the token in front.
use Rattle.std.proofs.Common.{◌≡◌, ℕ, zero, suc, true, [], ◌∷◌, ◌++◌, length, refl, rules}
use Rattle.jimple_words.specs.declared.kind.Kind.TheVariants as kinds
use Rattle.jimple_words.specs.Kind.{Kinds}
use Rattle.jimple_grammar.specs.Grammar.{Grammar, ends, ◌*>◌, times}
use Rattle.jimple_grammar.specs.Forms.{sign, name, others, several_names, bracket_pair, brackets, ty, several_types, params, sig, field_sig, constant, handle, imm, next_imm, args, callee, call}
use Rattle.jimple_grammar.proofs.Starts.{disjoint, next}
use Rattle.jimple_grammar.proofs.Sure.{Sure, plain_sure}

abbrev pub comma : Kinds
comma = kinds.Comma ∷ []

abbrev pub colon : Kinds
colon = kinds.Colon ∷ []

abbrev pub open_bracket : Kinds
open_bracket = kinds.OpenBracket ∷ []

abbrev pub close_paren : Kinds
close_paren = kinds.CloseParen ∷ []

pub sure_others : {A : Type 0} (a : Grammar A) (after : Kinds) → Sure a (comma ++ after) → disjoint comma after ≡ true → Sure (others a) after
sure_others a after s d = plain_sure (λ xs end. xs) (sign kinds.Comma *> a) ends after (tt, s) tt refl d

pub sure_names : (after : Kinds) → disjoint comma after ≡ true → Sure several_names after
unfolding several_names
sure_names after d = (tt, sure_others name after tt d)

pub sure_brackets : (after : Kinds) → disjoint open_bracket after ≡ true → Sure brackets after
unfolding brackets
sure_brackets after d = plain_sure (λ pairs end. length pairs) bracket_pair ends after (tt, tt) tt refl d

pub sure_ty : (after : Kinds) → disjoint open_bracket after ≡ true → Sure ty after
unfolding ty
sure_ty after d = (tt, sure_brackets after d)

pub sure_types : (after : Kinds) → disjoint open_bracket after ≡ true → disjoint comma after ≡ true → Sure several_types after
unfolding several_types
sure_types after d e = (sure_ty (comma ++ after) d, sure_others ty after (sure_ty (comma ++ after) d) e)

pub sure_params : Sure params close_paren
unfolding params several_types ty
sure_params = (sure_types close_paren refl refl, tt, refl, refl)

pub sure_sig : (after : Kinds) → Sure sig after
unfolding sig
sure_sig after = search (sure_ty, sure_params)

pub sure_field_sig : (after : Kinds) → Sure field_sig after
unfolding field_sig
sure_field_sig after = search sure_ty

pub sure_constant : (after : Kinds) → Sure constant after
unfolding constant
sure_constant after = search rules

sure_handle : (after : Kinds) → disjoint colon after ≡ true → Sure handle after
unfolding handle
sure_handle after d = (tt, (λ t. (tt, (tt, tt, refl, d))), refl)

pub sure_imm : (after : Kinds) → disjoint colon after ≡ true → Sure imm after
unfolding imm handle constant
sure_imm after d = ((tt, tt), (sure_handle after d, sure_constant after, refl, refl), refl, refl)

-- operands behind commas
sure_times : (n : ℕ) → Sure (times n next_imm) close_paren × (disjoint colon (next (times n next_imm) close_paren) ≡ true)
unfolding next_imm
sure_times zero = (tt, refl)
sure_times (suc n) = let s = sure_times n in (((tt, sure_imm (next (times n next_imm) close_paren) s.1), s.0), refl)

sure_args : (n : ℕ) → Sure (args n) close_paren
unfolding args
sure_args zero = tt
sure_args (suc n) = let s = sure_times n in (sure_imm (next (times n next_imm) close_paren) s.1, s.0)

sure_callee : (after : Kinds) → Sure callee after
unfolding callee
sure_callee after = search sure_sig

pub sure_call : (after : Kinds) → Sure call after
unfolding call callee
sure_call after = (sure_callee [], (λ callee. (sure_callee _, ((tt, sure_args (length callee.sig.params)), tt))), refl)
