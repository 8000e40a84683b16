-- The parts of the tables fit each other, step by step.
use Rattle.std.proofs.Common.{◌≡◌, ℕ, ◌+◌, ◌-◌, ◌<◌, ◌≤◌, List, [], ◌∷◌, ◌++◌, length, get_or, take, sym, ap, subst, ◌∙◌, arith}
use Rattle.std.specs.Prelude.{Contains}
use Rattle.std.proofs.lemmas.List.{length_push, take_more}
use Rattle.ifds_model.specs.declared.node.Context.{Context}
use Rattle.entry_tables.specs.Lists.{list_at}
use Rattle.entry_tables.specs.Rows.{Rows}
use Rattle.entry_tables.specs.Tables.{IsFit}
use Rattle.entry_tables.specs.declared.tables.CallSite.{CallSite}
use Rattle.entry_tables.proofs.Listed.{distinct_push}

-- the next list is given out, and it is empty
pub list_given : {X : Type 0} (lists : List (List X)) (n m : ℕ) → m ≡ n + 1 → n < length lists → list_at lists n ≡ [] → take m lists ≡ take n lists ++ [] ∷ []
list_given {X} lists n m next below empty = ap (λ (k : ℕ). take k lists) next ∙ take_more lists n [] below ∙ ap (λ (xs : List X). take n lists ++ xs ∷ []) empty

module _ {F : Type 0} (keys more : List (Context F)) (spare left : ℕ) (callers : Rows CallSite) (exits : Rows F) (first : ℕ) (fit : IsFit keys spare callers exits first)
    (x : Context F) (is : more ≡ keys ++ x ∷ []) (room : 0 < length callers.lists - length keys) where
  one_more : length more ≡ length keys + 1
  one_more = ap length is ∙ length_push keys x

  pub opened : (Contains keys x → ⊥) → spare ≤ left + 1 → IsFit more left callers exits first
  opened fresh less =
      let longer : length more ≡ length keys + 1 = one_more in
      record {
        distinct = subst (λ (xs : List (Context F)). (i j : ℕ) (d : Context F) → i < j → j < length xs → get_or xs i d ≡ get_or xs j d → ⊥) (sym is) (distinct_push keys x fit.distinct fresh);
        known = omega arith;
        waiting = omega (arith, fit.waiting);
        exits_too = fit.exits_too;
        callers_even = fit.callers_even;
        exits_even = fit.exits_even;
        no_callers = λ k past. fit.no_callers k (omega arith);
        no_exits = λ k past. fit.no_exits k (omega arith);
        ready = λ k past below. fit.ready k (omega arith) below;
      }

  pub callers_given : take (length more) callers.lists ≡ take (length keys) callers.lists ++ [] ∷ []
  callers_given = list_given callers.lists (length keys) (length more) one_more (omega arith) (fit.no_callers (length keys) (omega arith))

  pub exits_given : take (length more) exits.lists ≡ take (length keys) exits.lists ++ [] ∷ []
  exits_given = list_given exits.lists (length keys) (length more) one_more (omega (arith, fit.exits_too)) (fit.no_exits (length keys) (omega arith))
