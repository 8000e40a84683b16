-- Operands and calls have the spellings and the beginnings of their productions.
use Rattle.std.proofs.Common.{◌≡◌, ◌⊎◌, ℕ, zero, suc, Bool, true, false, [], ◌∷◌, ◌++◌, length, refl, inl, inr}
use mathlib.Core.Bool.{◌||◌}
use Rattle.std.specs.Prelude.{◌==◌}
use Rattle.jimple_words.specs.declared.kind.Kind.{Kind}
use Rattle.jimple_words.specs.declared.kind.Kind.TheVariants as kinds
use Rattle.jimple_grammar.specs.declared.raw.RawCallee.{RawCallee}
use Rattle.jimple_grammar.specs.declared.raw.RawImm.TheVariants as imms
use Rattle.jimple_words.specs.Kind.{Kinds, has, number}
use Rattle.jimple_words.specs.Sets.{plain_names}
use Rattle.jimple_grammar.specs.Grammar.{Grammar, nothing, token, both, either, times, ◌<*>◌}
use Rattle.jimple_grammar.specs.Forms.{sign, name, handle, constant, imm, next_imm, args, callee, call, element}
use Rattle.jimple_grammar.specs.AsWritten.{Same, imm_as_written, next_imm_as_written, args_as_written, arguments_as_written, call_as_written, element_as_written}
use Rattle.jimple_grammar.proofs.Starts.{has_left, has_right}
use Rattle.jimple_grammar.proofs.Within.{Alike, same, no_change, turned, ◌then◌, choice, left_of, right_of, one_of, itself, without_refused, without_last_refused, row, chain}
use Rattle.jimple_grammar.proofs.Apart.{front_apart, right_apart, alone}

-- ((a | b) | c) is (a | (b | c))
pub choices : {A : Type 0} {a b c : Grammar A} → Alike (either (either a b) c) (either a (either b c))
choices = (one_of (one_of (left_of itself) (right_of (left_of itself))) (right_of (right_of itself)), one_of (left_of (left_of itself)) (one_of (left_of (right_of itself)) (right_of itself)))

-- A token of the one kinds or of the others.
has_parts : (ks ms : Kinds) (k : Kind) → has (ks ++ ms) k ≡ true → (has ks k ≡ true) ⊎ (has ms k ≡ true)
has_parts [] ms k h = inr h
has_parts (j ∷ ks) ms k h = of (number k == number j) (has ks k) (has (ks ++ ms) k) h (has_parts ks ms k) where
  of : (a b c : Bool) → (a || c) ≡ true → (c ≡ true → (b ≡ true) ⊎ (has ms k ≡ true)) → ((a || b) ≡ true) ⊎ (has ms k ≡ true)
  of true b c h f = inl refl
  of false b c h f = f h

kinds_apart : {ks ms : Kinds} → Alike (token (ks ++ ms)) (either (token ks) (token ms))
kinds_apart {ks} {ms} = (
  record {
    spells = λ ts v h. elim (has_parts ks ms v.kind h.1) [ inl p ↦ inl (h.0, p) | inr q ↦ inr (h.0, q) ];
    begins = λ ts h. elim h [
      | inl n ↦ inl (inl n)
      | inr q ↦ elim (has_parts ks ms q.0.kind q.2) [ inl p ↦ inl (inr (q.0, q.1, p)) | inr r ↦ inr (inr (q.0, q.1, r)) ]
    ];
  },
  one_of (record {
    spells = λ ts v h. (h.0, has_left ks ms v.kind h.1);
    begins = λ ts h. elim h [ inl n ↦ inl n | inr q ↦ inr (q.0, q.1, has_left ks ms q.0.kind q.2) ];
  }) (record {
    spells = λ ts v h. (h.0, has_right ks ms v.kind h.1);
    begins = λ ts h. elim h [ inl n ↦ inl n | inr q ↦ inr (q.0, q.1, has_right ks ms q.0.kind q.2) ];
  }),
)

-- a name is a plain one, or one that is refused before ":" where an operand begins
pub names_are : Alike name (either (token plain_names) (sign kinds.Handle))
names_are = kinds_apart {ks = plain_names} {ms = kinds.Handle ∷ []}

handle_is : Alike handle (nothing imms.Local <*> sign kinds.Handle)
unfolding handle
handle_is = chain no_change (λ t. without_refused) then alone

pub imm_is : Alike imm imm_as_written
unfolding imm imm_as_written constant
imm_is = choice no_change (choice handle_is no_change) then turned choices then choice (turned (row no_change names_are then right_apart)) no_change

pub imm_same : Same imm imm_as_written
imm_same = same imm_is

times_are : (n : ℕ) → Alike (times n next_imm) (times n next_imm_as_written)
unfolding next_imm
times_are zero = no_change
times_are (suc n) = row (row no_change imm_is) (times_are n)

args_are : (n : ℕ) → Alike (args n) (args_as_written n)
unfolding args args_as_written
args_are zero = no_change
args_are (suc n) = row imm_is (times_are n)

arguments_are : (callee : RawCallee) → Alike (both (λ x y. x) (both (λ x y. y) (sign kinds.OpenParen) (args (length callee.sig.params))) (sign kinds.CloseParen)) (arguments_as_written callee)
unfolding arguments_as_written
arguments_are callee = row (row no_change (args_are (length callee.sig.params))) no_change

pub call_is : Alike call call_as_written
unfolding call callee call_as_written
call_is = chain (choice no_change without_last_refused) arguments_are then front_apart

pub element_is : Alike element element_as_written
unfolding element element_as_written
element_is = row (row no_change imm_is) no_change
