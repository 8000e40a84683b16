-- How many joins a queue has: taking one lowers the number, and the commit of a join adds none.
use Rattle.std.specs.Prelude.{◌≡◌, ◌+◌, suc, List, [], ◌∷◌, ◌++◌, remove, Contains}
use Rattle.std.proofs.Common.{arith, sym, subst, inl, inr, refl, zero-add}
use Rattle.clean_base.specs.declared.ids.StmtId.{StmtId}
use Rattle.ifds_model.specs.declared.node.Context.{Context}
use Rattle.ifds_model.specs.declared.node.Item.{Item}
use Rattle.ifds_model.specs.declared.node.Item.TheVariants.{Edge, Join}
use Rattle.ifds_model.specs.declared.node.Move.TheVariants.{Call, Exit}
use Rattle.ifds_model.specs.Machine.{Machine}
use Rattle.ifds_model.specs.State.{View, At, MovesOf}
use Rattle.ifds_model.specs.Events.{TakesIn}
use Rattle.core_driver.specs.Driven.{joins}

module _ {F : Type 0} where
  pub joins_append : (xs ys : List (Item F)) → joins (xs ++ ys) ≡ joins xs + joins ys
  joins_append [] ys = sym (zero-add (joins ys))
  joins_append (Edge c n f ∷ xs) ys = joins_append xs ys
  joins_append (Join c at d x ∷ xs) ys = omega (arith, joins_append xs ys)

  no_joins : (xs : List (Item F)) → ((c : Context F) (at : StmtId) (d : Context F) (x : F) → Contains xs (Join c at d x) → ⊥) → joins xs ≡ 0
  no_joins [] none = refl
  no_joins (Edge c n f ∷ xs) none = no_joins xs (λ e at d x has. none e at d x (suc has.0, omega (arith, has.1), has.2))
  no_joins (Join c at d x ∷ xs) none = absurd (none c at d x (0, omega arith, refl))

  pub first_join : (queue : List (Item F)) (c : Context F) (at : StmtId) (d : Context F) (x : F) → At queue 0 (Join c at d x) → joins (remove queue 0) + 1 ≡ joins queue
  first_join [] c at d x first = absurd (omega (arith, first.0))
  first_join (i ∷ queue) c at d x first =
      let same : i ≡ Join c at d x = first.1 in
      subst (λ (k : Item F). joins queue + 1 ≡ joins (k ∷ queue)) (sym same) (omega arith)

  -- the moves of a join call nothing and exit nowhere
  no_call : {M : Type 0} (P : Machine F M) (i : Item F) (c : Context F) (at : StmtId) (d : Context F) (x : F) → i ≡ Join c at d x → (call : StmtId) (e : Context F) → MovesOf P i (Call call e) → ⊥
  no_call P (Edge c n f) e at d x same call k move = cc
  no_call P (Join c at d x) e i k y same call l move = cc (move.3)

  no_exit : {M : Type 0} (P : Machine F M) (i : Item F) (c : Context F) (at : StmtId) (d : Context F) (x : F) → i ≡ Join c at d x → (y : F) → MovesOf P i (Exit y) → ⊥
  no_exit P (Edge c n f) e at d x same y move = cc
  no_exit P (Join c at d x) e i k z same y move = cc (move.3)

  -- so nothing of a join makes new joins
  pub none_added : {M : Type 0} (P : Machine F M) (i : Item F) (c : Context F) (at : StmtId) (d : Context F) (x : F) → i ≡ Join c at d x
      → (e : Context F) (old new : View F M) (t : TakesIn P e (MovesOf P i) old new) → joins t.added ≡ 0
  none_added P i c at d x same e old new t = no_joins t.added (λ k call f y has.
      let is = t.joins_from k call f y has in
      elim (t.callers_from f k call is.0) [
        | inr move ↦ no_call P i c at d x same call f move.0
        | inl caller ↦ elim (t.exits_from f y is.1) [
          | inr move ↦ no_exit P i c at d x same y move.0
          | inl exit ↦ is.2 (caller, exit)
        ]
      ])
