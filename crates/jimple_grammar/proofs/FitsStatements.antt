-- The trees of statements fit.
use Rattle.std.proofs.Common.{ℕ, [], ◌∷◌, All}
use Rattle.jimple_grammar.specs.declared.lexeme.Lexeme.{Lexeme}
use Rattle.jimple_words.specs.declared.kind.Kind.TheVariants as kinds
use Rattle.jimple_grammar.specs.declared.raw.RawStmt.TheVariants as stmts
use Rattle.jimple_words.specs.Sets.{names, conditions, switches}
use Rattle.jimple_grammar.specs.Forms.{unsupported, too_many, this_given, param_given, caught_given, given_value, stored, identity, assign, store_field, store_element, local_stmt, store_static, call_stmt, jump, if_stmt, goto_stmt, case, cases, switch_stmt, returned, return_stmt, throw_stmt, nop_stmt, enter_stmt, exit_stmt, word_stmt, stmt}
use Rattle.jimple_grammar.specs.Fits.{Is, ImmFits, GivenFits, CaseFits, StmtFits}
use Rattle.jimple_grammar.proofs.FitsParts.{Yields, anything, of_nothing, of_token, of_refused, of_either, behind, app, keep, skip, of_plain}
use Rattle.jimple_grammar.proofs.FitsOperands.{name_fits, ty_fits, field_sig_fits, imm_fits, call_fits}
use Rattle.jimple_grammar.proofs.FitsRightSides.{element_fits, rhs_fits}

module _ {P : Lexeme → Type 0} {n : ℕ} where
  pub given_value_fits : Yields P n given_value (GivenFits P n)
  unfolding given_value this_given param_given caught_given
  given_value_fits = skip (of_either (app ty_fits (keep (keep (of_nothing (λ ty h. h))))) (of_either (app ty_fits (keep (app (of_token (kinds.Parameter ∷ [])) (of_nothing (λ word w ty h. (w, h))))))
      (of_either (app anything (of_nothing (λ t h. tt))) (of_refused too_many (kinds.HighParameter ∷ [])))))

  stored_fits : Yields P n stored (ImmFits P n)
  stored_fits = skip imm_fits

  module _ (x : Lexeme) (l : Is P n names x) where
    identity_fits : Yields P n (identity x) (StmtFits P n)
    unfolding identity
    identity_fits = app given_value_fits (keep (of_nothing (λ g h. (l, h))))

    assign_fits : Yields P n (assign x) (StmtFits P n)
    unfolding assign
    assign_fits = app rhs_fits (keep (of_nothing (λ r h. (l, h))))

    store_field_fits : Yields P n (store_field x) (StmtFits P n)
    unfolding store_field
    store_field_fits = app stored_fits (app field_sig_fits (keep (of_nothing (λ f h v k. (l, h, k)))))

    store_element_fits : Yields P n (store_element x) (StmtFits P n)
    unfolding store_element
    store_element_fits = app stored_fits (app element_fits (of_nothing (λ i h v k. (l, h, k))))

    pub local_stmt_fits : Yields P n (local_stmt x) (StmtFits P n)
    unfolding local_stmt
    local_stmt_fits = keep (of_either identity_fits (of_either assign_fits (of_either store_field_fits store_element_fits)))

  store_static_fits : Yields P n store_static (StmtFits P n)
  unfolding store_static
  store_static_fits = keep (app stored_fits (app field_sig_fits (of_nothing (λ f h v k. (h, k)))))

  call_stmt_fits : Yields P n call_stmt (StmtFits P n)
  unfolding call_stmt
  call_stmt_fits = keep (app call_fits (of_nothing (λ k h. h)))

  jump_fits : Yields P n jump (Is P n names)
  jump_fits = keep (skip name_fits)

  if_stmt_fits : Yields P n if_stmt (StmtFits P n)
  unfolding if_stmt
  if_stmt_fits = app jump_fits (app imm_fits (app (of_token conditions) (app imm_fits (keep (of_nothing (λ left l cond c right r target t. (l, c, r, t)))))))

  goto_stmt_fits : Yields P n goto_stmt (StmtFits P n)
  unfolding goto_stmt
  goto_stmt_fits = app jump_fits (of_nothing (λ t h. h))

  case_fits : Yields P n case (CaseFits P n)
  unfolding case
  case_fits = app jump_fits (keep (app (of_token (kinds.Number ∷ [])) (keep (of_nothing (λ value v target t. (v, t))))))

  cases_fit : Yields P n cases (All (CaseFits P n))
  unfolding cases
  cases_fit = of_plain case_fits anything (λ xs end h k. h)

  switch_stmt_fits : Yields P n switch_stmt (StmtFits P n)
  unfolding switch_stmt
  switch_stmt_fits = keep (keep (app jump_fits (keep (keep (app cases_fit (keep (keep (app imm_fits (keep (app (of_token switches) (of_nothing (λ word w key k cases c default d. record { word = w; key = k; cases = c; default = d }))))))))))))

  returned_fits : Yields P n returned (λ x. StmtFits P n (stmts.Return x))
  unfolding returned
  returned_fits = of_either (app imm_fits (of_nothing (λ x h. h))) (of_nothing tt)

  return_stmt_fits : Yields P n return_stmt (StmtFits P n)
  unfolding return_stmt
  return_stmt_fits = keep (app returned_fits (keep (of_nothing (λ x h. h))))

  throw_stmt_fits : Yields P n throw_stmt (StmtFits P n)
  unfolding throw_stmt
  throw_stmt_fits = keep (app imm_fits (keep (of_nothing (λ x h. h))))

  nop_stmt_fits : Yields P n nop_stmt (StmtFits P n)
  unfolding nop_stmt
  nop_stmt_fits = keep (app anything (of_nothing (λ t h. tt)))

  enter_stmt_fits : Yields P n enter_stmt (StmtFits P n)
  unfolding enter_stmt
  enter_stmt_fits = keep (app imm_fits (keep (of_nothing (λ x h. h))))

  exit_stmt_fits : Yields P n exit_stmt (StmtFits P n)
  unfolding exit_stmt
  exit_stmt_fits = keep (app imm_fits (keep (of_nothing (λ x h. h))))

  pub word_stmt_fits : Yields P n word_stmt (StmtFits P n)
  unfolding word_stmt
  word_stmt_fits = of_either store_static_fits (of_either call_stmt_fits (of_either if_stmt_fits (of_either goto_stmt_fits (of_either switch_stmt_fits (of_either return_stmt_fits
      (of_either throw_stmt_fits (of_either nop_stmt_fits (of_either enter_stmt_fits (of_either exit_stmt_fits (of_refused unsupported (kinds.Ret ∷ kinds.Breakpoint ∷ [])))))))))))

  pub stmt_fits : Yields P n stmt (StmtFits P n)
  unfolding stmt
  stmt_fits = of_either (behind name_fits local_stmt_fits) word_stmt_fits
