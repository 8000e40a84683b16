-- The one start of a root, among those that were listed.
use Rattle.std.specs.Prelude.{◌≡◌, ◌↔◌, ◌<◌, List, [], ◌++◌, length, slice_index_or, Contains}
use Rattle.std.proofs.Common.{arith, sym, ◌∙◌, ap, subst, refl}
use Rattle.ifds_model.specs.declared.node.Context.{Context}
use Rattle.ifds_model.specs.declared.node.Node.{Node}
use Rattle.clean_base.specs.Lists.{AppendsSet}
use Rattle.ifds_model.specs.Machine.{Machine}

module _ {F M : Type 0} (P : Machine F M) (e : Context F) (same : e ≡ P.root) (one : (n : Node) × ((m : Node) → P.start P.root m ↔ (m ≡ n))) (old xs : List Node) (none : old ≡ []) (added : AppendsSet (P.start e) old xs) where
  all_added : xs ≡ added.0
  all_added = added.1 ∙ ap (λ (ys : List Node). ys ++ added.0) none

  pub some_start : 0 < length xs
  some_start =
      let start : P.start e one.0 = subst (λ (d : Context F). P.start d one.0) (sym same) ((one.1 one.0).1 refl) in
      let has = (added.2 one.0).1 start in
      subst (λ (ys : List Node). 0 < length ys) (sym all_added) (omega (arith, has.1))

  pub first_start : (n : Node) → n ≡ slice_index_or xs 0 n → P.start P.root n
  first_start n is = subst (λ (d : Context F). P.start d n) same ((added.2 n).0 (subst (λ (ys : List Node). Contains ys n) all_added (0, some_start, sym is)))
