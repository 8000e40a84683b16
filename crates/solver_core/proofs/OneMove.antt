-- One move that is taken in, over what contracts see: an edge, a mark, an exit with its callers, a call with the exits
-- that are already known. Moves one after another stand in `ifds_model`.
use Rattle.std.specs.Prelude.{◌≡◌, ◌⊎◌, ◌↔◌, ◌+◌, List, [], ◌∷◌, ◌++◌, Contains}
use Rattle.std.proofs.Common.{arith, sym, ◌∙◌, ap, subst, inl, inr, refl, append-nil}
use Rattle.std.proofs.lemmas.List.Elements.{Contains-push, Contains-push_cases, Contains-append_left}
use Rattle.clean_base.specs.declared.ids.StmtId.{StmtId}
use Rattle.ifds_model.specs.declared.node.Context.{Context}
use Rattle.ifds_model.specs.declared.node.Frame.{Frame}
use Rattle.ifds_model.specs.declared.node.Item.{Item}
use Rattle.ifds_model.specs.declared.node.Item.TheVariants.{Join}
use Rattle.ifds_model.specs.declared.node.Node.{Node}
use Rattle.ifds_model.specs.declared.node.Move.{Move}
use Rattle.ifds_model.specs.declared.node.Move.TheVariants.{Go, Call, Exit, Mark}
use Rattle.ifds_model.specs.Machine.{Machine}
use Rattle.ifds_model.specs.Runs.{HasCount}
use Rattle.ifds_model.specs.Count.{cons_cases}
use Rattle.ifds_model.specs.State.{View, Caller, Exited, IsDistinct, at_node, edge_item, IsHeld, IsKnown, IsCaller, IsExit}
use Rattle.ifds_model.specs.Sound.{IsTaken}
use Rattle.ifds_model.specs.Events.{TakesIn}
use Rattle.ifds_model.proofs.Begun.{same_edge, join_apart}
use Rattle.ifds_model.proofs.Composed.{takes_none}
use Rattle.ifds_model.proofs.Members.{empty_count, one_member}

only_one : {X : Type 0} (x y : X) → Contains (x ∷ []) y → y ≡ x
only_one x y has = elim (cons_cases x [] y has) [ inl same ↦ sym same | inr later ↦ absurd (omega (arith, later.1)) ]

none_in : {X : Type 0} (y : X) → (let no : List X = [] in Contains no y) → ⊥
none_in y has = omega (arith, has.1)

module _ {F M : Type 0} (P : Machine F M) (e : Context F) (s : View F M) where
  nothing : TakesIn P e (λ m. ⊥) s s
  nothing = takes_none P e (λ m. ⊥) s (λ m none. none)

  no_new_edge : HasCount (λ (a : Frame F). IsHeld s a × (IsHeld s a → ⊥)) 0
  no_new_edge = empty_count (λ (a : Frame F). IsHeld s a × (IsHeld s a → ⊥)) (λ a is. is.1 is.0)

  -- moves whose outcome is there change nothing
  pub taken_already : (moves : Move F M → Type 0) → ((m : Move F M) → moves m → IsTaken s e m) → TakesIn P e moves s s
  taken_already moves taken = record {
    live = nothing.live;
    retired = nothing.retired;
    held = nothing.held;
    callers = nothing.callers;
    exits = nothing.exits;
    marks = nothing.marks;
    taken = taken;
    started = nothing.started;
    live_from = λ d k. inl k;
    retired_from = nothing.retired_from;
    held_from = λ x k. inl k;
    callers_from = λ d c at k. inl k;
    exits_from = λ d x k. inl k;
    marks_from = λ x k. inl k;
    added = nothing.added;
    queue = nothing.queue;
    once = nothing.once;
    queued = nothing.queued;
    met = nothing.met;
    edges_from = nothing.edges_from;
    joins_from = nothing.joins_from;
    more = nothing.more;
    counted = nothing.counted;
    found = nothing.found;
    rest = nothing.rest;
  }

  pub one_already : (move : Move F M) → IsTaken s e move → TakesIn P e (λ m. m ≡ move) s s
  one_already move there = taken_already (λ m. m ≡ move) (λ m same. subst (IsTaken s e) (sym same) there)

  -- a new edge
  module _ (node : Node) (fact : F) (fresh : IsHeld s (at_node e node fact) → ⊥) where
    abbrev edge : Frame F
    edge = at_node e node fact

    abbrev pub gone : View F M
    gone = record s { queue = s.queue ++ edge_item edge ∷ []; held = s.held ++ edge ∷ []; found = s.found + 1 }

    held_now : (a : Frame F) → IsHeld gone a → IsHeld s a ⊎ (a ≡ edge)
    held_now a has = elim (Contains-push_cases s.held edge a has) [ inl was ↦ inl was | inr same ↦ inr (sym same) ]

    pub takes_go : TakesIn P e (λ m. m ≡ Go node fact) s gone
    takes_go = record {
      live = λ d k. k;
      retired = λ d k. k;
      held = λ a k. Contains-append_left s.held (edge ∷ []) a k;
      callers = λ d c at k. k;
      exits = λ d x k. k;
      marks = λ x k. k;
      taken = λ m same. subst (IsTaken gone e) (sym same) (Contains-push s.held edge);
      started = λ d k. inl k;
      live_from = λ d k. inl k;
      retired_from = λ d k. k;
      held_from = λ a k. elim (held_now a k) [ inl was ↦ inl was | inr same ↦ inr (inl (node, fact, refl, same)) ];
      callers_from = λ d c at k. inl k;
      exits_from = λ d x k. inl k;
      marks_from = λ x k. inl k;
      added = edge_item edge ∷ [];
      queue = refl;
      once = λ i j d below within. absurd (omega arith);
      queued = λ a k. elim (held_now a k) [
        | inl was ↦ inl was
        | inr same ↦ inr (subst (λ (b : Frame F). Contains (edge_item edge ∷ []) (edge_item b) × (IsHeld s b → ⊥)) (sym same) ((0, omega arith, refl), fresh))
      ];
      met = λ d c at x call exit. inl (call, exit);
      edges_from = λ a k. subst (λ (b : Frame F). IsHeld gone b × (IsHeld s b → ⊥)) (sym (same_edge a edge (only_one (edge_item edge) (edge_item a) k))) (Contains-push s.held edge, fresh);
      joins_from = λ c at d x k. absurd (join_apart edge c at d x (only_one (edge_item edge) (let i : Item F = Join c at d x in i) k));
      more = 1;
      counted = one_member (λ (a : Frame F). IsHeld gone a × (IsHeld s a → ⊥)) edge (Contains-push s.held edge, fresh) (λ a is. elim (held_now a is.0) [ inl was ↦ absurd (is.1 was) | inr same ↦ same ]);
      found = refl;
      rest = refl;
    }

  -- a mark, whether it is new or not
  pub takes_mark : (mark : M) → TakesIn P e (λ m. m ≡ Mark mark) s (record s { marks = s.marks ++ mark ∷ [] })
  takes_mark mark = record {
    live = λ d k. k;
    retired = λ d k. k;
    held = λ a k. k;
    callers = λ d c at k. k;
    exits = λ d x k. k;
    marks = λ x k. Contains-append_left s.marks (mark ∷ []) x k;
    taken = λ m same. subst (IsTaken (record s { marks = s.marks ++ mark ∷ [] }) e) (sym same) (Contains-push s.marks mark);
    started = λ d k. inl k;
    live_from = λ d k. inl k;
    retired_from = λ d k. k;
    held_from = λ a k. inl k;
    callers_from = λ d c at k. inl k;
    exits_from = λ d x k. inl k;
    marks_from = λ x k. elim (Contains-push_cases s.marks mark x k) [ inl was ↦ inl was | inr same ↦ inr (ap (λ (z : M). let v : Move F M = Mark z in v) (sym same)) ];
    added = [];
    queue = sym (append-nil s.queue);
    once = λ i j d below within. absurd (omega arith);
    queued = λ x k. inl k;
    met = λ d c at x call exit. inl (call, exit);
    edges_from = λ x k. absurd (none_in (edge_item x) k);
    joins_from = λ c at d x k. absurd (none_in (let i : Item F = Join c at d x in i) k);
    more = 0;
    counted = no_new_edge;
    found = omega arith;
    rest = refl;
  }

  -- no join is an edge's item
  no_edge : (joins : List (Item F)) → ((i : Item F) → Contains joins i → (c : Context F) × (at : StmtId) × (d : Context F) × (x : F) × (i ≡ Join c at d x)) → (a : Frame F) → Contains joins (edge_item a) → ⊥
  no_edge joins are a has = let j = are (edge_item a) has in join_apart a j.0 j.1 j.2 j.3 (sym j.4)

  -- a new exit, whose joins are those with the callers of its context
  module _ (exit : F) (exits : List (Exited F)) (joins : List (Item F)) (fresh : IsExit s e exit → ⊥)
      (there : (x : Exited F) → Contains exits x ↔ (Contains s.exits x ⊎ (x ≡ (let new : Exited F = record { context = e; exit = exit } in new))))
      (once : IsDistinct joins) (are : (i : Item F) → Contains joins i ↔ ((c : Context F) × (at : StmtId) × IsCaller s e c at × (i ≡ Join c at e exit))) where
    abbrev pub exited : View F M
    exited = record s { queue = s.queue ++ joins; exits = exits }

    exit_now : (d : Context F) (x : F) → IsExit exited d x → IsExit s d x ⊎ ((d ≡ e) × (x ≡ exit))
    exit_now d x has = elim ((there (record { context = d; exit = x })).0 has) [
      | inl was ↦ inl was
      | inr same ↦ inr (ap (λ (z : Exited F). z.context) same, ap (λ (z : Exited F). z.exit) same)
    ]

    here : IsExit exited e exit
    here = (there (record { context = e; exit = exit })).1 (inr refl)

    -- a join's parts
    join_is : (c : Context F) (at : StmtId) (d : Context F) (x : F) → Contains joins (Join c at d x) → IsCaller s d c at × (d ≡ e) × (x ≡ exit)
    join_is c at d x has =
        let j = (are (Join c at d x)).0 has in
        let same = j.3 in
        let callers : c ≡ j.0 = cc (same) in
        let calls : at ≡ j.1 = cc (same) in
        let callees : d ≡ e = cc (same) in
        let exits : x ≡ exit = cc (same) in
        (subst (λ (z : Context F). IsCaller s z c at) (sym callees) (subst (λ (z : Context F). IsCaller s e z at) (sym callers) (subst (λ (z : StmtId). IsCaller s e j.0 z) (sym calls) j.2)), callees, exits)

    pub takes_exit : TakesIn P e (λ m. m ≡ Exit exit) s exited
    takes_exit = record {
      live = λ d k. k;
      retired = λ d k. k;
      held = λ a k. k;
      callers = λ d c at k. k;
      exits = λ d x k. (there (record { context = d; exit = x })).1 (inl k);
      marks = λ x k. k;
      taken = λ m same. subst (IsTaken exited e) (sym same) here;
      started = λ d k. inl k;
      live_from = λ d k. inl k;
      retired_from = λ d k. k;
      held_from = λ a k. inl k;
      callers_from = λ d c at k. inl k;
      exits_from = λ d x k. elim (exit_now d x k) [ inl was ↦ inl was | inr is ↦ inr (ap (λ (z : F). let v : Move F M = Exit z in v) is.1, is.0) ];
      marks_from = λ x k. inl k;
      added = joins;
      queue = refl;
      once = once;
      queued = λ x k. inl k;
      met = λ d c at x call exits. elim (exit_now d x exits) [
        | inl was ↦ inl (call, was)
        | inr is ↦ inr ((are (Join c at d x)).1 (
          c,
          at,
          subst (λ (z : Context F). IsCaller s z c at) is.0 call,
          ap (λ (z : Context F). let i : Item F = Join c at z x in i) is.0 ∙ ap (λ (z : F). let i : Item F = Join c at e z in i) is.1,
        ))
      ];
      edges_from = λ a k. absurd (no_edge joins (λ i has. let j = (are i).0 has in (j.0, j.1, e, exit, j.3)) a k);
      joins_from = λ c at d x k.
          let is = join_is c at d x k in (
            is.0,
            subst (λ (z : F). IsExit exited d z) (sym is.2) (subst (λ (z : Context F). IsExit exited z exit) (sym is.1) here),
            λ were. fresh (subst (λ (z : F). IsExit s e z) is.2 (subst (λ (z : Context F). IsExit s z x) is.1 were.1)),
          );
      more = 0;
      counted = no_new_edge;
      found = omega arith;
      rest = refl;
    }

  -- a new caller of a known context, whose joins are those with that context's exits
  module _ (at : StmtId) (callee : Context F) (callers : List (Caller F)) (joins : List (Item F)) (known : IsKnown s callee) (fresh : IsCaller s callee e at → ⊥)
      (there : (x : Caller F) → Contains callers x ↔ (Contains s.callers x ⊎ (x ≡ (let new : Caller F = record { callee = callee; caller = e; call = at } in new))))
      (once : IsDistinct joins) (are : (i : Item F) → Contains joins i ↔ ((x : F) × IsExit s callee x × (i ≡ Join e at callee x))) where
    abbrev pub called : View F M
    called = record s { queue = s.queue ++ joins; callers = callers }

    caller_now : (d c : Context F) (i : StmtId) → IsCaller called d c i → IsCaller s d c i ⊎ ((d ≡ callee) × (c ≡ e) × (i ≡ at))
    caller_now d c i has = elim ((there (record { callee = d; caller = c; call = i })).0 has) [
      | inl was ↦ inl was
      | inr same ↦ inr (ap (λ (z : Caller F). z.callee) same, ap (λ (z : Caller F). z.caller) same, ap (λ (z : Caller F). z.call) same)
    ]

    waits : IsCaller called callee e at
    waits = (there (record { callee = callee; caller = e; call = at })).1 (inr refl)

    call_is : (c : Context F) (i : StmtId) (d : Context F) (x : F) → Contains joins (Join c i d x) → (c ≡ e) × (i ≡ at) × (d ≡ callee) × IsExit s callee x
    call_is c i d x has =
        let j = (are (Join c i d x)).0 has in
        let same = j.2 in
        let callers : c ≡ e = cc (same) in
        let calls : i ≡ at = cc (same) in
        let callees : d ≡ callee = cc (same) in
        let exits : x ≡ j.0 = cc (same) in
        (callers, calls, callees, subst (λ (z : F). IsExit s callee z) (sym exits) j.1)

    pub takes_call : TakesIn P e (λ m. m ≡ Call at callee) s called
    takes_call = record {
      live = λ d k. k;
      retired = λ d k. k;
      held = λ a k. k;
      callers = λ d c i k. (there (record { callee = d; caller = c; call = i })).1 (inl k);
      exits = λ d x k. k;
      marks = λ x k. k;
      taken = λ m same. subst (IsTaken called e) (sym same) (known, waits);
      started = λ d k. inl k;
      live_from = λ d k. inl k;
      retired_from = λ d k. k;
      held_from = λ a k. inl k;
      callers_from = λ d c i k. elim (caller_now d c i k) [
        | inl was ↦ inl was
        | inr is ↦ inr (ap (λ (z : StmtId). let v : Move F M = Call z d in v) is.2 ∙ ap (λ (z : Context F). let v : Move F M = Call at z in v) is.0, is.1)
      ];
      exits_from = λ d x k. inl k;
      marks_from = λ x k. inl k;
      added = joins;
      queue = refl;
      once = once;
      queued = λ x k. inl k;
      met = λ d c i x call exit. elim (caller_now d c i call) [
        | inl was ↦ inl (was, exit)
        | inr is ↦ inr ((are (Join c i d x)).1 (
          x,
          subst (λ (z : Context F). IsExit s z x) is.0 exit,
          ap (λ (z : Context F). let v : Item F = Join z i d x in v) is.1 ∙ ap (λ (z : StmtId). let v : Item F = Join e z d x in v) is.2 ∙ ap (λ (z : Context F). let v : Item F = Join e at z x in v) is.0,
        ))
      ];
      edges_from = λ a k. absurd (no_edge joins (λ i has. let j = (are i).0 has in (e, at, callee, j.0, j.2)) a k);
      joins_from = λ c i d x k.
          let is = call_is c i d x k in (
            subst (λ (z : Context F). IsCaller called z c i) (sym is.2) (subst (λ (z : Context F). IsCaller called callee z i) (sym is.0) (subst (λ (z : StmtId). IsCaller called callee e z) (sym is.1) waits)),
            subst (λ (z : Context F). IsExit s z x) (sym is.2) is.3,
            λ were. fresh (subst (λ (z : StmtId). IsCaller s callee e z) is.1 (subst (λ (z : Context F). IsCaller s callee z i) is.0 (subst (λ (z : Context F). IsCaller s z c i) is.2 were.0))),
          );
      more = 0;
      counted = no_new_edge;
      found = omega arith;
      rest = refl;
    }
