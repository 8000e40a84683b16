-- The bytes of a text have one list of tokens, or one fault below the tokens.
use Rattle.std.proofs.Common.{◌≡◌, ℕ, ◌+◌, ◌^◌, ◌<◌, ◌≤◌, Result, Ok, Err, IfOk, IfErr, List, ◌∷◌, length, All, refl, sym, ◌∙◌, ap, subst, inl, inr, arith}
use Rattle.std.proofs.lemmas.List.{length-append}
use Rattle.std.proofs.lemmas.List.Elements.{All-head, All-tail}
use Rattle.clean_base.specs.declared.fault.InputFault.{InputFault}
use Rattle.jimple_lex.specs.declared.token.Token.{Token}
use Rattle.jimple_lex.specs.Lexed.{Lexed, ends, blank, comment, token}
use Rattle.clean_base.specs.declared.fault.Stop.{Stop}
use Rattle.clean_base.specs.declared.fault.Stop.TheVariants.{Fault, OutOfMemory}
use Rattle.jimple_lex.specs.Faults.{bad_byte, open_text, IsLexical, at_byte, at_open, Refused as Unlexed}
use Rattle.jimple_tree.specs.declared.tree.Class.{Class}
use Rattle.jimple_text.specs.Reads.{Gives, Faults}
use Rattle.jimple_text.specs.Settled.{IsRead, IsRefused, Refused, AreGiven, AreRefused, TokensRefused}

-- the token takes a byte at least, and stands in a text of so many bytes
abbrev pub IsSpan : ℕ → Token → Type 0
IsSpan n t = (t.from < t.to) × (t.to ≤ n)

few : (n : ℕ) {at : ℕ} {whole : List ℕ} {ts : List Token} → Lexed at whole ts → All (IsSpan n) ts → length ts ≤ length whole
few n ends h = omega arith
few n (blank b l) h = let less = few n l h in omega (arith, less)
few n (comment text rest parts to c l) h = let less = few n l h in let sum = ap length parts ∙ length-append text rest in omega (arith, less, sum)
few n {at} {ts = t ∷ later} (token kind text rest parts to i l) h =
    let less = few n l (All-tail (IsSpan n) t later h) in
    let sum = ap length parts ∙ length-append text rest in
    let some : t.from < t.to = (All-head (IsSpan n) t later h).0 in
    let end : t.to ≡ t.from + length text = to in
    omega (arith, less, sum, some, end)

pub fits : (bytes : List ℕ) (ts us : List Token) → us ≡ ts → Lexed 0 bytes ts → All (IsSpan (length bytes)) ts → length bytes < 2 ^ 32 → All (IsSpan (length bytes)) us × (length bytes < 2 ^ 32) × (length us < 2 ^ 32)
fits bytes ts us same lexed spans small =
    let less = few (length bytes) lexed spans in
    let long = ap length same in
    (subst (All (IsSpan (length bytes))) (sym same) spans, small, omega (arith, less, long, small))

no_lexical : (number : ℕ) (bytes : List ℕ) (ts : List Token) → Lexed 0 bytes ts → {f : InputFault} → IsLexical number bytes f → ⊥
no_lexical number bytes ts lexed (at_byte h) = h.no_tokens ts lexed
no_lexical number bytes ts lexed (at_open h) = h.no_tokens ts lexed

module _ (number : ℕ) (bytes : List ℕ) where
  module _ (ts : List Token) (lexed : Lexed 0 bytes ts) (one : (us : List Token) → Lexed 0 bytes us → us ≡ ts) where
    is_read : (classes : List Class) → AreGiven number bytes ts classes → IsRead number bytes classes
    is_read classes h = record {
      reads = (ts, lexed, h.gives);
      only = λ others k. h.only others (subst (λ (us : List Token). Gives bytes us others) (one k.0 k.1) k.2);
      no_fault = λ f k. elim k [
        | inl l ↦ no_lexical number bytes ts lexed l
        | inr t ↦ h.no_fault f (subst (λ (us : List Token). Faults bytes us number f) (one t.0 t.1) t.2)
      ];
    }

    is_refused : (f : InputFault) → AreRefused number bytes ts f → IsRefused number bytes f
    is_refused f h = record {
      is = inr (ts, lexed, h.is);
      only = λ g k. elim k [
        | inl l ↦ absurd (no_lexical number bytes ts lexed l)
        | inr t ↦ h.only g (subst (λ (us : List Token). Faults bytes us number g) (one t.0 t.1) t.2)
      ];
      no_classes = λ classes k. h.no_classes classes (subst (λ (us : List Token). Gives bytes us classes) (one k.0 k.1) k.2);
    }

  -- a fault below the tokens is the only one
  two_kinds : bad_byte ≡ open_text → ⊥
  two_kinds e = cc

  only_lexical : {f g : InputFault} → IsLexical number bytes f → IsLexical number bytes g → g ≡ f
  only_lexical (at_byte h) (at_byte k) = let same = h.no_other bad_byte _ k.first in rw (k.in_file, h.in_file, same.1) refl
  only_lexical (at_byte h) (at_open k) = absurd (two_kinds (sym (h.no_other open_text _ k.first).0))
  only_lexical (at_open h) (at_byte k) = absurd (two_kinds (h.no_other bad_byte _ k.first).0)
  only_lexical (at_open h) (at_open k) = let same = h.no_other open_text _ k.first in rw (k.in_file, h.in_file, same.1) refl

  lexical : (f : InputFault) → IsLexical number bytes f → IsRefused number bytes f
  lexical f h = record {
    is = inl h;
    only = λ g k. elim k [ inl l ↦ only_lexical h l | inr t ↦ absurd (no_lexical number bytes t.0 t.1 h) ];
    no_classes = λ classes k. no_lexical number bytes k.0 k.1 h;
  }

  -- what the classes of the tokens, or why there are none, say of the text
  module _ (ts us : List Token) (lexed : Lexed 0 bytes ts) (one : (vs : List Token) → Lexed 0 bytes vs → vs ≡ ts) (same : us ≡ ts) where
    pub all_read : {T : Type 0} (items : T → List Class) (r : Result T Stop) → IfOk r (λ cs. AreGiven number bytes us (items cs)) → IfOk r (λ cs. IsRead number bytes (items cs))
    all_read items (Ok cs) h = is_read ts lexed one (items cs) (subst (λ (vs : List Token). AreGiven number bytes vs (items cs)) same h)
    all_read items (Err e) h = tt

    pub all_refused : {T : Type 0} (r : Result T Stop) → IfErr r (TokensRefused number bytes us) → IfErr r (Refused number bytes)
    all_refused (Ok cs) h = tt
    all_refused (Err (Fault f)) h = is_refused ts lexed one f (subst (λ (vs : List Token). AreRefused number bytes vs f) same h)
    all_refused (Err OutOfMemory) h = tt

  -- the fault below the tokens
  pub unlexed : (stop : Stop) → Unlexed number bytes stop → Refused number bytes stop
  unlexed (Fault f) h = lexical f h
  unlexed OutOfMemory h = tt
