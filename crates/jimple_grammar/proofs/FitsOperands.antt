-- The trees of types, signatures, operands and calls fit.
use Rattle.std.proofs.Common.{◌≡◌, ℕ, zero, suc, [], ◌∷◌, length, All, refl, ap}
use Rattle.std.proofs.lemmas.List.Elements.{All-nil, All-cons}
use Rattle.jimple_grammar.specs.declared.lexeme.Lexeme.{Lexeme}
use Rattle.jimple_words.specs.declared.kind.Kind.TheVariants as kinds
use Rattle.jimple_words.specs.Sets.{names, plain_names, types, words, constants, based_calls}
use Rattle.jimple_grammar.specs.Grammar.{Grammar, times}
use Rattle.jimple_grammar.specs.Forms.{word_before, name, any_name, one_or_more, several_names, ty, several_types, params, sig, field_sig, constant, handle, imm, next_imm, args, callee, call}
use Rattle.jimple_grammar.specs.Fits.{Is, TypeFits, SigFits, FieldSigFits, ImmFits, BaseFits, CallFits}
use Rattle.jimple_grammar.proofs.FitsParts.{Yields, anything, of_nothing, of_token, of_refused, of_either, of_both, of_given, behind, app, keep, skip, of_plain, wider}

pub handle_name : (P : Lexeme → Type 0) (n : ℕ) (t : Lexeme) → Is P n (kinds.Handle ∷ []) t → Is P n names t
handle_name P n t h = wider P n (kinds.Handle ∷ []) names refl t h

pub plain_name : (P : Lexeme → Type 0) (n : ℕ) (t : Lexeme) → Is P n plain_names t → Is P n names t
plain_name P n t h = wider P n plain_names names refl t h

module _ {P : Lexeme → Type 0} {n : ℕ} where
  pub name_fits : Yields P n name (Is P n names)
  name_fits = of_token names

  pub any_name_fits : Yields P n any_name (Is P n words)
  any_name_fits = of_token words

  pub several_fit : {A : Type 0} {a : Grammar A} {Q : A → Type 0} → Yields P n a Q → Yields P n (one_or_more a) (All Q)
  several_fit {a} {Q} ya = of_both ya (of_plain (skip ya) anything (λ xs end h k. h)) (λ x xs h k. All-cons Q x xs h k)

  pub several_names_fit : Yields P n several_names (All (Is P n names))
  unfolding several_names
  several_names_fit = several_fit name_fits

  pub ty_fits : Yields P n ty (TypeFits P n)
  unfolding ty
  ty_fits = of_both (of_token types) anything (λ base dims h k. h)

  pub several_types_fit : Yields P n several_types (All (TypeFits P n))
  unfolding several_types
  several_types_fit = several_fit ty_fits

  pub params_fit : Yields P n params (All (TypeFits P n))
  unfolding params
  params_fit = of_either several_types_fit (of_nothing (All-nil (TypeFits P n)))

  pub sig_fits : Yields P n sig (SigFits P n)
  unfolding sig
  sig_fits = keep (keep (app params_fit (keep (app any_name_fits (app ty_fits (keep (app name_fits (keep (of_nothing (λ class c result r name m params p. record { class = c; result = r; name = m; params = p }))))))))))

  pub field_sig_fits : Yields P n field_sig (FieldSigFits P n)
  unfolding field_sig
  field_sig_fits = keep (app any_name_fits (app ty_fits (keep (app name_fits (keep (of_nothing (λ class c ty t name m. record { class = c; ty = t; name = m })))))))

  pub constant_fits : Yields P n constant (ImmFits P n)
  unfolding constant
  constant_fits = of_either (app (of_token constants) (of_nothing (λ t h. h))) (app (of_token (kinds.Text ∷ [])) (keep (of_nothing (λ t h. h))))

  pub handle_fits : Yields P n handle (ImmFits P n)
  unfolding handle
  handle_fits = behind (of_token (kinds.Handle ∷ [])) (λ t h. of_either (of_refused word_before (kinds.Colon ∷ [])) (of_nothing (handle_name P n t h)))

  pub imm_fits : Yields P n imm (ImmFits P n)
  unfolding imm
  imm_fits = of_either (app (of_token plain_names) (of_nothing (plain_name P n))) (of_either handle_fits constant_fits)

  times_fit : {A : Type 0} {a : Grammar A} {Q : A → Type 0} → Yields P n a Q → (k : ℕ) → Yields P n (times k a) (λ xs. All Q xs × (length xs ≡ k))
  times_fit {Q} ya zero = of_nothing (All-nil Q, refl)
  times_fit {Q} ya (suc k) = of_both ya (times_fit ya k) (λ x xs h i. (All-cons Q x xs h i.0, ap suc i.1))

  pub args_fit : (k : ℕ) → Yields P n (args k) (λ xs. All (ImmFits P n) xs × (length xs ≡ k))
  unfolding args next_imm
  args_fit zero = of_nothing (All-nil (ImmFits P n), refl)
  args_fit (suc k) = of_both imm_fits (times_fit (skip imm_fits) k) (λ x xs h i. (All-cons (ImmFits P n) x xs h i.0, ap suc i.1))

  pub callee_fits : Yields P n callee (λ c. BaseFits P n c.word c.base × SigFits P n c.sig)
  unfolding callee
  callee_fits = of_either (app sig_fits (app (of_token (kinds.Staticinvoke ∷ [])) (of_nothing (λ word w sig s. (w, s)))))
      (of_either (app sig_fits (keep (app name_fits (app (of_token based_calls) (of_nothing (λ word w base b sig s. ((w, b), s))))))) (of_refused _ _))

  pub call_fits : Yields P n call (CallFits P n)
  unfolding call
  call_fits = of_given {QB = λ c xs. All (ImmFits P n) xs × (length xs ≡ length c.sig.params)} callee_fits (λ c h. keep (skip (args_fit (length c.sig.params)))) (λ c xs h k. record { base = h.0; sig = h.1; args = k.0; count = k.1 })
