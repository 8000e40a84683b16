-- Moves that are taken in one after another, and none: what a loop over moves keeps.
use Rattle.std.specs.Prelude.{◌≢◌, ◌⊎◌, ◌+◌, List, [], ◌++◌, Contains}
use Rattle.std.proofs.Common.{arith, sym, ◌∙◌, ap, subst, inl, inr, refl, length-append, append_assoc, append-nil}
use Rattle.std.proofs.lemmas.List.Elements.{Contains-append_left, Contains-append_right, Contains-append_cases}
use Rattle.ifds_model.specs.declared.node.Context.{Context}
use Rattle.ifds_model.specs.declared.node.Frame.{Frame}
use Rattle.ifds_model.specs.declared.node.Item.{Item}
use Rattle.ifds_model.specs.declared.node.Item.TheVariants.{Edge, Join}
use Rattle.ifds_model.specs.declared.node.Move.{Move}
use Rattle.ifds_model.specs.declared.node.Move.TheVariants.{Go, Call, Exit, Mark}
use Rattle.ifds_model.specs.Machine.{Machine}
use Rattle.ifds_model.specs.Runs.{HasCount}
use Rattle.ifds_model.specs.State.{View, at_node, edge_item, IsHeld, IsKnown}
use Rattle.ifds_model.specs.Sound.{IsTaken}
use Rattle.ifds_model.specs.Events.{TakesIn}
use Rattle.ifds_model.proofs.Members.{empty_count}
use Rattle.ifds_model.proofs.Kept.{pairs_append}

module _ {F M : Type 0} (P : Machine F M) (e : Context F) (f g both : Move F M → Type 0) (old mid new : View F M)
    (splits : (x : Move F M) → both x → f x ⊎ g x) (from_f : (x : Move F M) → f x → both x) (from_g : (x : Move F M) → g x → both x)
    (a : TakesIn P e f old mid) (b : TakesIn P e g mid new) where
  known_mid : (d : Context F) → IsKnown old d → IsKnown mid d
  known_mid d (inl live) = inl (a.live d live)
  known_mid d (inr retired) = inr (a.retired d retired)

  known_new : (d : Context F) → IsKnown mid d → IsKnown new d
  known_new d (inl live) = inl (b.live d live)
  known_new d (inr retired) = inr (b.retired d retired)

  kept_taken : (x : Move F M) → IsTaken mid e x → IsTaken new e x
  kept_taken (Go node fact) taken = b.held (at_node e node fact) taken
  kept_taken (Call at c) taken = (known_new c taken.0, b.callers c e at taken.1)
  kept_taken (Exit x) taken = b.exits e x taken
  kept_taken (Mark x) taken = b.marks x taken

  -- what the one added, the other doesn't add
  added_apart : (i : Item F) → Contains a.added i → Contains b.added i → ⊥
  added_apart (Edge c n x) in_a in_b = (b.edges_from (at_node c n x) in_b).1 (a.edges_from (at_node c n x) in_a).0
  added_apart (Join c at d x) in_a in_b = let was = a.joins_from c at d x in_a in (b.joins_from c at d x in_b).2 (was.0, was.1)

  fresh_or_mid : (x : Frame F) → IsHeld new x → IsHeld mid x ⊎ (IsHeld new x × (IsHeld mid x → ⊥))
  fresh_or_mid x has = elim (b.queued x has) [ inl was ↦ inl was | inr queued ↦ inr (has, queued.1) ]

  counted_both : HasCount (λ x. IsHeld new x × (IsHeld old x → ⊥)) (a.more + b.more)
  counted_both =
      let xs = a.counted.0 in
      let ys = b.counted.0 in (
        xs ++ ys,
        record {
          distinct = pairs_append (λ x y. x ≢ y) xs ys a.counted.1.distinct b.counted.1.distinct (λ x y in_xs in_ys same. (b.counted.1.sound y in_ys).1 (subst (IsHeld mid) same (a.counted.1.sound x in_xs).0));
          sound = λ x has. elim (Contains-append_cases xs ys x has) [
            | inl in_xs ↦ let fresh = a.counted.1.sound x in_xs in (b.held x fresh.0, fresh.1)
            | inr in_ys ↦ let fresh = b.counted.1.sound x in_ys in (fresh.0, λ before. fresh.1 (a.held x before))
          ];
          whole = λ x fresh. elim (fresh_or_mid x fresh.0) [
            | inl was ↦ Contains-append_left xs ys x (a.counted.1.whole x (was, fresh.1))
            | inr now ↦ Contains-append_right xs ys x (b.counted.1.whole x now)
          ];
        },
        length-append xs ys ∙ (omega (arith, a.counted.2, b.counted.2)),
      )

  -- two sets of moves, one after the other
  pub takes_both : TakesIn P e both old new
  takes_both = record {
    live = λ d k. b.live d (a.live d k);
    retired = λ d k. b.retired d (a.retired d k);
    held = λ x k. b.held x (a.held x k);
    callers = λ d c at k. b.callers d c at (a.callers d c at k);
    exits = λ d x k. b.exits d x (a.exits d x k);
    marks = λ x k. b.marks x (a.marks x k);
    taken = λ x in_both. elim (splits x in_both) [ inl in_f ↦ kept_taken x (a.taken x in_f) | inr in_g ↦ b.taken x in_g ];
    started = λ d k. elim (b.started d k) [
      | inr each ↦ inr each
      | inl was ↦ elim (a.started d was) [ inl before ↦ inl before | inr each ↦ inr (λ node start. b.held _ (each node start)) ]
    ];
    live_from = λ d k. elim (b.live_from d k) [
      | inr fresh ↦ inr (λ before. fresh.0 (known_mid d before), (fresh.1.0, from_g _ fresh.1.1))
      | inl was ↦ elim (a.live_from d was) [ inl before ↦ inl before | inr fresh ↦ inr (fresh.0, (fresh.1.0, from_f _ fresh.1.1)) ]
    ];
    retired_from = λ d k. a.retired_from d (b.retired_from d k);
    held_from = λ x k. elim (b.held_from x k) [
      | inr leads ↦ inr (elim leads [
        | inl go ↦ inl (go.0, go.1, from_g _ go.2, go.3)
        | inr call ↦ inr (call.0, call.1, call.2, from_g _ call.3, λ before. call.4 (known_mid call.1 before), call.5, call.6)
      ])
      | inl was ↦ elim (a.held_from x was) [
        | inl before ↦ inl before
        | inr leads ↦ inr (elim leads [
          | inl go ↦ inl (go.0, go.1, from_f _ go.2, go.3)
          | inr call ↦ inr (call.0, call.1, call.2, from_f _ call.3, call.4, call.5, call.6)
        ])
      ]
    ];
    callers_from = λ d c at k. elim (b.callers_from d c at k) [
      | inr move ↦ inr (from_g _ move.0, move.1)
      | inl was ↦ elim (a.callers_from d c at was) [ inl before ↦ inl before | inr move ↦ inr (from_f _ move.0, move.1) ]
    ];
    exits_from = λ d x k. elim (b.exits_from d x k) [
      | inr move ↦ inr (from_g _ move.0, move.1)
      | inl was ↦ elim (a.exits_from d x was) [ inl before ↦ inl before | inr move ↦ inr (from_f _ move.0, move.1) ]
    ];
    marks_from = λ x k. elim (b.marks_from x k) [
      | inr move ↦ inr (from_g _ move)
      | inl was ↦ elim (a.marks_from x was) [ inl before ↦ inl before | inr move ↦ inr (from_f _ move) ]
    ];
    added = a.added ++ b.added;
    queue = b.queue ∙ ap (λ (q : List (Item F)). q ++ b.added) a.queue ∙ append_assoc old.queue a.added b.added;
    once = pairs_append (λ x y. x ≢ y) a.added b.added a.once b.once (λ x y in_a in_b same. added_apart y (subst (λ (i : Item F). Contains a.added i) same in_a) in_b);
    queued = λ x k. elim (b.queued x k) [
      | inr p ↦ inr (Contains-append_right a.added b.added (edge_item x) p.0, λ before. p.1 (a.held x before))
      | inl was ↦ elim (a.queued x was) [ inl before ↦ inl before | inr p ↦ inr (Contains-append_left a.added b.added (edge_item x) p.0, p.1) ]
    ];
    met = λ d c at x call exit. elim (b.met d c at x call exit) [
      | inr p ↦ inr (Contains-append_right a.added b.added (Join c at d x) p)
      | inl were ↦ elim (a.met d c at x were.0 were.1) [ inl before ↦ inl before | inr p ↦ inr (Contains-append_left a.added b.added (Join c at d x) p) ]
    ];
    edges_from = λ x k. elim (Contains-append_cases a.added b.added (edge_item x) k) [
      | inr in_b ↦ let fresh = b.edges_from x in_b in (fresh.0, λ before. fresh.1 (a.held x before))
      | inl in_a ↦ let fresh = a.edges_from x in_a in (b.held x fresh.0, fresh.1)
    ];
    joins_from = λ c at d x k. elim (Contains-append_cases a.added b.added (Join c at d x) k) [
      | inr in_b ↦ let fresh = b.joins_from c at d x in_b in (fresh.0, fresh.1, λ before. fresh.2 (a.callers d c at before.0, a.exits d x before.1))
      | inl in_a ↦ let fresh = a.joins_from c at d x in_a in (b.callers d c at fresh.0, b.exits d x fresh.1, fresh.2)
    ];
    more = a.more + b.more;
    counted = counted_both;
    found = omega (arith, a.found, b.found);
    rest = b.rest ∙ ap (λ (v : View F M). record v { queue = new.queue; held = new.held; known = new.known; callers = new.callers; exits = new.exits; marks = new.marks; found = new.found }) a.rest;
  }

-- no moves
pub takes_none : {F M : Type 0} (P : Machine F M) (e : Context F) (f : Move F M → Type 0) (s : View F M) → ((x : Move F M) → f x → ⊥) → TakesIn P e f s s
takes_none {F} {M} P e f s none = record {
  live = λ d k. k;
  retired = λ d k. k;
  held = λ x k. k;
  callers = λ d c at k. k;
  exits = λ d x k. k;
  marks = λ x k. k;
  taken = λ x is. absurd (none x is);
  started = λ d k. inl k;
  live_from = λ d k. inl k;
  retired_from = λ d k. k;
  held_from = λ x k. inl k;
  callers_from = λ d c at k. inl k;
  exits_from = λ d x k. inl k;
  marks_from = λ x k. inl k;
  added = [];
  queue = sym (append-nil s.queue);
  once = λ i j d below within. absurd (omega arith);
  queued = λ x k. inl k;
  met = λ d c at x call exit. inl (call, exit);
  edges_from = λ x k. absurd (omega (arith, k.1));
  joins_from = λ c at d x k. absurd (omega (arith, k.1));
  more = 0;
  counted = empty_count (λ x. IsHeld s x × (IsHeld s x → ⊥)) (λ x is. is.1 is.0);
  found = omega arith;
  rest = refl;
}
