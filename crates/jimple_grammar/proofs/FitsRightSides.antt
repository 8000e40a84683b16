-- The trees of right sides fit.
use Rattle.std.proofs.Common.{ℕ, ◌<◌, ◌≤◌, [], ◌∷◌, All, refl, sym, subst, arith}
use Rattle.std.proofs.lemmas.List.Elements.{All-cons, All-weaker}
use Rattle.jimple_grammar.specs.declared.lexeme.Lexeme.{Lexeme}
use Rattle.jimple_words.specs.declared.kind.Kind.TheVariants as kinds
use Rattle.jimple_grammar.specs.declared.raw.RawImm.{RawImm}
use Rattle.jimple_grammar.specs.declared.raw.RawImm.TheVariants as imms
use Rattle.jimple_words.specs.Sets.{names, plain_names, operators}
use Rattle.jimple_grammar.specs.Grammar.{ends}
use Rattle.jimple_grammar.specs.Forms.{word_before, bracket_pair, brackets, element, behind_operand, behind_local, behind_handle, cast, new_array, later_lengths, new_multi, local_rhs, handle_rhs, constant_rhs, new_object, length_of, negated, static_load, called, rhs}
use Rattle.jimple_grammar.specs.Fits.{Is, ImmFits, RhsFits}
use Rattle.jimple_grammar.proofs.FitsParts.{Yields, of_nothing, of_token, of_refused, of_either, behind, app, app_after, keep, skip, weaker, of_plain, many_count}
use Rattle.jimple_grammar.proofs.FitsOperands.{name_fits, ty_fits, field_sig_fits, constant_fits, handle_name, plain_name, imm_fits, call_fits}

-- what an operand fits doesn't depend on the number of tokens
imm_anywhere : (P : Lexeme → Type 0) (m n : ℕ) (x : RawImm) → ImmFits P m x → ImmFits P n x
imm_anywhere P m n (imms.Local t) h = h
imm_anywhere P m n (imms.Literal t) h = h
imm_anywhere P m n (imms.Class t) h = h

module _ {P : Lexeme → Type 0} {n : ℕ} where
  pub element_fits : Yields P n element (ImmFits P n)
  unfolding element
  element_fits = keep (skip imm_fits)

  brackets_few : Yields P n brackets (λ d. d ≤ n)
  unfolding brackets
  brackets_few = record {
    fits = λ ts v all le h.
        let c = many_count {S = Unit {0}} (λ s. bracket_pair) (λ s x. s) ends (λ y. 0) (λ s. refl) (λ ts y k. omega arith) h.1 in
        subst (λ (d : ℕ). d ≤ n) (sym h.2) (omega (arith, c, le));
  }

  later_lengths_fit : Yields P n later_lengths (λ r. All (ImmFits P n) r.0 × (r.1 ≤ n))
  unfolding later_lengths
  later_lengths_fit = of_plain element_fits brackets_few (λ xs bare h k. (h, k))

module _ {P : Lexeme → Type 0} {n : ℕ} where
  pub behind_operand_fits : (x : RawImm) → ImmFits P n x → Yields P n (behind_operand x) (RhsFits P n)
  unfolding behind_operand
  behind_operand_fits x l = of_either (app ty_fits (keep (of_nothing (λ ty h. (l, h))))) (of_either (app imm_fits (app (of_token operators) (of_nothing (λ op o right r. (l, o, r))))) (of_nothing l))

  pub behind_local_fits : (x : Lexeme) → Is P n names x → Yields P n (behind_local x) (RhsFits P n)
  unfolding behind_local
  behind_local_fits x l = of_either (app field_sig_fits (keep (of_nothing (λ f h. (l, h))))) (of_either (app element_fits (of_nothing (λ i h. (l, h)))) (behind_operand_fits (imms.Local x) l))

  pub behind_handle_fits : (x : Lexeme) → Is P n names x → Yields P n (behind_handle x) (RhsFits P n)
  unfolding behind_handle
  behind_handle_fits x l = of_either (of_refused word_before (kinds.Colon ∷ [])) (behind_local_fits x l)

  pub cast_fits : Yields P n cast (RhsFits P n)
  unfolding cast
  cast_fits = app imm_fits (keep (app ty_fits (keep (of_nothing (λ ty h x k. (h, k))))))

  pub new_array_fits : Yields P n new_array (RhsFits P n)
  unfolding new_array
  new_array_fits = app element_fits (keep (app ty_fits (keep (keep (of_nothing (λ ty h x k. (h, k)))))))

  lengths_behind : (m : ℕ) → m < n → Yields P m later_lengths (λ r. All (ImmFits P n) r.0 × (r.1 < n))
  lengths_behind m lt = weaker (later_lengths_fit {P = P} {n = m}) (λ r h. (All-weaker (ImmFits P m) (ImmFits P n) (imm_anywhere P m n) r.0 h.0, (let k = h.1 in omega (arith, k, lt))))

  pub new_multi_fits : Yields P n new_multi (RhsFits P n)
  unfolding new_multi
  new_multi_fits = app_after refl lengths_behind (app element_fits (keep (app ty_fits (keep (keep (of_nothing (λ ty h x k r i. record { ty = h; some = omega arith; lengths = All-cons (ImmFits P n) x r.0 k i.0; bare = i.1 })))))))

  pub local_rhs_fits : Yields P n local_rhs (RhsFits P n)
  unfolding local_rhs
  local_rhs_fits = behind (of_token plain_names) (λ x h. behind_local_fits x (plain_name P n x h))

  pub handle_rhs_fits : Yields P n handle_rhs (RhsFits P n)
  unfolding handle_rhs
  handle_rhs_fits = behind (of_token (kinds.Handle ∷ [])) (λ x h. behind_handle_fits x (handle_name P n x h))

  pub constant_rhs_fits : Yields P n constant_rhs (RhsFits P n)
  unfolding constant_rhs
  constant_rhs_fits = behind constant_fits behind_operand_fits

  pub new_object_fits : Yields P n new_object (RhsFits P n)
  unfolding new_object
  new_object_fits = app name_fits (keep (of_nothing (λ t h. h)))

  pub length_of_fits : Yields P n length_of (RhsFits P n)
  unfolding length_of
  length_of_fits = app imm_fits (keep (of_nothing (λ x h. h)))

  pub negated_fits : Yields P n negated (RhsFits P n)
  unfolding negated
  negated_fits = app imm_fits (keep (of_nothing (λ x h. h)))

  pub static_load_fits : Yields P n static_load (RhsFits P n)
  unfolding static_load
  static_load_fits = app field_sig_fits (of_nothing (λ f h. h))

  pub called_fits : Yields P n called (RhsFits P n)
  unfolding called
  called_fits = app call_fits (of_nothing (λ k h. h))

  pub rhs_fits : Yields P n rhs (RhsFits P n)
  unfolding rhs
  rhs_fits = of_either local_rhs_fits (of_either handle_rhs_fits (of_either constant_rhs_fits (of_either cast_fits (of_either static_load_fits
      (of_either new_object_fits (of_either new_array_fits (of_either new_multi_fits (of_either length_of_fits (of_either negated_fits called_fits)))))))))
