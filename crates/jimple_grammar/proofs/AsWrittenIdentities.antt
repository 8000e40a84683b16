-- Identity statements have the spellings and the beginnings of their productions: what stands behind `:=` and `@` in a row.
use Rattle.std.proofs.Common.{List, [], ◌++◌, sym, ◌∙◌, ap, subst, refl, inl, inr, append-nil}
use Rattle.jimple_words.specs.declared.kind.Kind.TheVariants as kinds
use Rattle.jimple_grammar.specs.declared.lexeme.Lexeme.{Lexeme}
use Rattle.jimple_grammar.specs.declared.raw.RawGiven.{RawGiven}
use Rattle.jimple_grammar.specs.declared.raw.RawGiven.TheVariants as givens
use Rattle.jimple_grammar.specs.declared.raw.RawStmt.{RawStmt}
use Rattle.jimple_grammar.specs.declared.raw.RawStmt.TheVariants as stmts
use Rattle.jimple_grammar.specs.Grammar.{Grammar, nothing, both, either, given, Begins, ◌<*>◌, ◌<*◌}
use Rattle.jimple_grammar.specs.Forms.{sign, name, ty, this_given, param_given, caught_given, given_value, identity}
use Rattle.jimple_grammar.specs.AsWritten.{this_as_written, param_as_written, caught_as_written}
use Rattle.jimple_grammar.proofs.Starts.{laws}
use Rattle.jimple_grammar.proofs.Within.{Alike, no_change, turned, ◌then◌, choice, without_last_refused, row, chain}
use Rattle.jimple_grammar.proofs.Apart.{behind_apart, left_apart, right_apart, and_part, alone, grouped, quiet}

-- a tree behind a form, given to it in front
module _ {A B C : Type 0} (f : A → B → C) (a : Grammar A) (y : B) where
  pub in_front : Alike (both f a (nothing y)) (nothing (λ x. f x y) <*> a)
  in_front = (
    record {
      spells = λ ts v h. ((λ x. f x y), h.0, [], h.2, h.4 ∙ ap (λ (us : List Lexeme). h.2 ++ us) h.6.0 ∙ append-nil h.2, (refl, refl), h.5, h.7 ∙ ap (λ (z : B). f h.0 z) h.6.1);
      begins = λ ts h. elim h [
        | inl p ↦ inr ((λ x. f x y), [], ts, refl, (refl, refl), p)
        | inr q ↦ inr ((λ x. f x y), [], q.1, q.3 ∙ ap (λ (us : List Lexeme). q.1 ++ us) q.5 ∙ append-nil q.1, (refl, refl), (laws 0 a).begun q.1 q.0 q.4)
      ];
    },
    record {
      spells = λ ts v h. (h.1, y, h.3, [], h.4 ∙ ap (λ (us : List Lexeme). us ++ h.3) h.5.0 ∙ sym (append-nil h.3), h.6, (refl, refl), h.7 ∙ ap (λ (g : A → C). g h.1) h.5.1);
      begins = λ ts h. elim h [
        | inl p ↦ inl (subst (λ (us : List Lexeme). Begins a us) (sym p) (laws 0 a).empty)
        | inr q ↦ inl (subst (λ (us : List Lexeme). Begins a us) (sym (q.3 ∙ ap (λ (us : List Lexeme). us ++ q.2) q.4.0)) q.5)
      ];
    },
  )

-- a tree behind a form's part without one
module _ {A B C D : Type 0} (f : A → B → C) (a : Grammar A) (c : Grammar D) (y : B) where
  past : Alike (both f (a <* c) (nothing y)) (both f a (nothing y) <* c)
  past = in_front f (a <* c) y then grouped {h = λ x z. x} {k = λ g x. g x} (λ g x z. refl) then row (turned (in_front f a y)) no_change

-- two trees are one
pub two_trees : {A B C : Type 0} {f : A → B → C} {x : A} {y : B} → Alike (both f (nothing x) (nothing y)) (nothing (f x y))
two_trees {A} {B} {C} {f} {x} {y} = (
  record {
    spells = λ ts v h. (h.4 ∙ ap (λ (us : List Lexeme). us ++ h.3) h.5.0 ∙ h.6.0, h.7 ∙ ap (λ (z : A). f z h.1) h.5.1 ∙ ap (λ (z : B). f x z) h.6.1);
    begins = λ ts h. elim h [ inl p ↦ p | inr q ↦ q.3 ∙ ap (λ (us : List Lexeme). us ++ q.2) q.4.0 ∙ q.5 ];
  },
  record {
    spells = λ ts v h. (x, y, [], ts, refl, (refl, refl), (h.0, refl), h.1);
    begins = λ ts h. inl h;
  },
)

-- Behind ":=" and "@": what is made of the tree that stands there.
module _ (made : RawGiven → RawStmt) where
  abbrev front : Grammar (RawGiven → RawStmt)
  front = nothing made <* sign kinds.ColonEquals <* sign kinds.At

  put_in : {B C : Type 0} (f : (RawGiven → RawStmt) → B → C) (y : B) → Alike (both f front (nothing y)) (nothing (f made y) <* sign kinds.ColonEquals <* sign kinds.At)
  put_in f y = past f (nothing made <* sign kinds.ColonEquals) (sign kinds.At) y then row (past f (nothing made) (sign kinds.ColonEquals) y then row two_trees no_change) no_change

  this_row : Alike (front <*> this_given) (nothing (λ ty. made (givens.This ty)) <* sign kinds.ColonEquals <* sign kinds.At <* sign kinds.This <* sign kinds.Colon <*> ty)
  unfolding this_given
  this_row = grouped {h = λ g y. g y} {k = λ p q y. p (q y)} (λ p q y. refl)
      then row (grouped {h = λ x y. x} {k = λ p q y. p (q y)} (λ p q y. refl) then row (grouped {h = λ x y. x} {k = λ p q y. p (q y)} (λ p q y. refl) then row (put_in (λ p q y. p (q y)) givens.This) no_change) no_change) no_change

  param_row : Alike (front <*> param_given) (nothing (λ word ty. made (givens.Param word ty)) <* sign kinds.ColonEquals <* sign kinds.At <*> sign kinds.Parameter <* sign kinds.Colon <*> ty)
  unfolding param_given
  param_row = grouped {h = λ g y. g y} {k = λ p q y. p (q y)} (λ p q y. refl)
      then row (grouped {h = λ x y. x} {k = λ p q y. p (q y)} (λ p q y. refl) then row (grouped {h = λ g y. g y} {k = λ p q x y. p (q x y)} (λ p q y. refl) then row (put_in (λ p q x y. p (q x y)) givens.Param) no_change) no_change) no_change

  caught_row : Alike (front <*> caught_given) (nothing (made givens.Caught) <* sign kinds.ColonEquals <* sign kinds.At <* sign kinds.Caughtexception)
  unfolding caught_given
  caught_row = row no_change quiet then grouped {h = λ x y. x} {k = λ p q. p q} (λ p q y. refl) then row (put_in (λ p q. p q) givens.Caught) no_change

  rows : Alike (nothing made <* sign kinds.ColonEquals <*> given_value) (either (nothing (λ ty. made (givens.This ty)) <* sign kinds.ColonEquals <* sign kinds.At <* sign kinds.This <* sign kinds.Colon <*> ty)
      (either (nothing (λ word ty. made (givens.Param word ty)) <* sign kinds.ColonEquals <* sign kinds.At <*> sign kinds.Parameter <* sign kinds.Colon <*> ty)
      (nothing (made givens.Caught) <* sign kinds.ColonEquals <* sign kinds.At <* sign kinds.Caughtexception)))
  unfolding given_value
  rows = row no_change (row no_change (choice no_change (choice no_change without_last_refused))) then grouped {h = λ g y. g y} {k = λ x y. x} (λ p q y. refl)
      then right_apart then choice this_row (right_apart then choice param_row caught_row)

pub identities_are : Alike (given (λ x s. s) name identity <* sign kinds.Semicolon) (either this_as_written (either param_as_written caught_as_written))
unfolding identity this_as_written param_as_written caught_as_written
identities_are = row (chain no_change (λ x. rows (λ g. stmts.Identity x g)) then behind_apart
    then choice (and_part (and_part (and_part (and_part (and_part alone))))) (behind_apart then choice (and_part (and_part (and_part (and_part (and_part alone))))) (and_part (and_part (and_part alone))))) no_change
    then left_apart then choice no_change left_apart
