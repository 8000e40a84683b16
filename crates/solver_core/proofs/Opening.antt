-- A call of a context that isn't known: the context becomes known, its starts are taken in as moves of its own, and then
-- it is a known context that is called.
use Rattle.std.specs.Prelude.{◌≡◌, ◌≢◌, ◌⊎◌, false, true, List, [], ◌∷◌, ◌++◌, Contains}
use Rattle.std.proofs.Common.{arith, sym, ◌∙◌, ap, subst, inl, inr, refl, append_assoc}
use Rattle.std.proofs.lemmas.List.Elements.{Contains-push, Contains-push_cases, Contains-append_left, Contains-append_right, Contains-append_cases}
use Rattle.clean_base.specs.declared.ids.StmtId.{StmtId}
use Rattle.ifds_model.specs.declared.node.Context.{Context}
use Rattle.ifds_model.specs.declared.node.Frame.{Frame}
use Rattle.ifds_model.specs.declared.node.Item.{Item}
use Rattle.ifds_model.specs.declared.node.Item.TheVariants.{Edge, Join}
use Rattle.ifds_model.specs.declared.node.Node.{Node}
use Rattle.ifds_model.specs.declared.node.Move.{Move}
use Rattle.ifds_model.specs.declared.node.Move.TheVariants.{Go, Call, Exit, Mark}
use Rattle.ifds_model.specs.Machine.{Machine}
use Rattle.ifds_model.specs.Count.{one_count}
use Rattle.ifds_model.specs.Runs.{opened}
use Rattle.ifds_model.specs.State.{View, Known, at_node, edge_item, IsHeld, IsLive, IsRetired, IsKnown, IsCaller, IsExit}
use Rattle.ifds_model.specs.Events.{TakesIn}
use Rattle.ifds_model.proofs.Kept.{pairs_append}
use Rattle.ifds_model.proofs.Members.{empty_count, same_count}
use Rattle.solver_core.specs.Numbers.{live_of}

-- the starts of a context, as its moves
abbrev pub StartsOf : {F M : Type 0} → Machine F M → Context F → Move F M → Type 0
StartsOf P d m = (n : Node) × P.start d n × (m ≡ Go n d.fact)

module _ {F M : Type 0} (P : Machine F M) (e d : Context F) (at : StmtId) (s mid new : View F M) (unknown : IsKnown s d → ⊥)
    (a : TakesIn P d (StartsOf P d) (record s { known = s.known ++ live_of d ∷ [] }) mid) (b : TakesIn P e (λ m. m ≡ Call at d) mid new) where
  abbrev wider : View F M
  wider = record s { known = s.known ++ live_of d ∷ [] }

  live_wider : (c : Context F) → IsLive wider c → IsLive s c ⊎ (c ≡ d)
  live_wider c live = elim (Contains-push_cases s.known (live_of d) (live_of c) live) [ inl was ↦ inl was | inr same ↦ inr (ap (λ (k : Known F). k.context) (sym same)) ]

  retired_wider : (c : Context F) → IsRetired wider c → IsRetired s c
  retired_wider c retired = elim (Contains-push_cases s.known (live_of d) (let k : Known F = record { context = c; retired = true } in k) retired) [
    | inl was ↦ was
    | inr same ↦ let other : false ≡ true = ap (λ (k : Known F). k.retired) same in cc (other)
  ]

  known_wider : (c : Context F) → IsKnown s c → IsKnown wider c
  known_wider c (inl live) = inl (Contains-append_left s.known (live_of d ∷ []) (live_of c) live)
  known_wider c (inr retired) = inr (Contains-append_left s.known (live_of d ∷ []) (let k : Known F = record { context = c; retired = true } in k) retired)

  known_mid : (c : Context F) → IsKnown wider c → IsKnown mid c
  known_mid c (inl live) = inl (a.live c live)
  known_mid c (inr retired) = inr (a.retired c retired)

  no_call : (i : StmtId) (c : Context F) → StartsOf P d (Call i c) → ⊥
  no_call i c start = let same = start.2 in cc (same)

  no_exit : (x : F) → StartsOf P d (Exit x) → ⊥
  no_exit x start = let same = start.2 in cc (same)

  no_mark : (m : M) → StartsOf P d (Mark m) → ⊥
  no_mark m start = let same = start.2 in cc (same)

  start_leads : (x : Frame F) (node : Node) (fact : F) → StartsOf P d (Go node fact) → x ≡ at_node d node fact → (n : Node) × P.start d n × (x ≡ opened d n)
  start_leads x node fact start is =
      let same = start.2 in
      let nodes : node ≡ start.0 = cc (same) in
      let facts : fact ≡ d.fact = cc (same) in
      (start.0, start.1, is ∙ ap (λ (n : Node). at_node d n fact) nodes ∙ ap (λ (f : F). at_node d start.0 f) facts)

  -- the starts add no callers and no exits
  caller_was : (c k : Context F) (i : StmtId) → IsCaller mid c k i → IsCaller s c k i
  caller_was c k i has = elim (a.callers_from c k i has) [ inl before ↦ before | inr move ↦ absurd (no_call i c move.0) ]

  exit_was : (c : Context F) (x : F) → IsExit mid c x → IsExit s c x
  exit_was c x has = elim (a.exits_from c x has) [ inl before ↦ before | inr move ↦ absurd (no_exit x move.0) ]

  known_callee : IsKnown mid d
  known_callee = inl (a.live d (Contains-push s.known (live_of d)))

  -- and the call of a known context holds no edges
  held_was : (x : Frame F) → IsHeld new x → IsHeld mid x
  held_was x has = elim (b.held_from x has) [
    | inl was ↦ was
    | inr leads ↦ elim leads [
      | inl go ↦ let same = go.2 in cc (same)
      | inr call ↦ absurd (call.4 (let same = call.3 in let callee : d ≡ call.1 = cc (same) in subst (IsKnown mid) callee known_callee))
    ]
  ]

  none_more : b.more ≡ 0
  none_more = one_count (λ x. IsHeld new x × (IsHeld mid x → ⊥)) b.more 0 b.counted (empty_count (λ x. IsHeld new x × (IsHeld mid x → ⊥)) (λ x is. is.1 (held_was x is.0)))

  no_join : (c k : Context F) (i : StmtId) (x : F) → Contains a.added (Join c i k x) → ⊥
  no_join c k i x in_a = let was = a.joins_from c i k x in_a in was.2 (caller_was k c i was.0, exit_was k x was.1)

  no_edge : (x : Frame F) → Contains b.added (edge_item x) → ⊥
  no_edge x in_b = let fresh = b.edges_from x in_b in fresh.1 (held_was x fresh.0)

  -- the starts queue edges, the call queues joins
  apart : (i : Item F) → Contains a.added i → Contains b.added i → ⊥
  apart (Edge c n x) in_a in_b = no_edge (at_node c n x) in_b
  apart (Join c i k x) in_a in_b = no_join c k i x in_a

  started_now : (c : Context F) → IsKnown new c → IsKnown s c ⊎ ((n : Node) → P.start c n → IsHeld new (opened c n))
  started_now c k = elim (b.started c k) [
    | inr each ↦ inr each
    | inl was ↦ elim (a.started c was) [
      | inr each ↦ inr (λ node start. b.held (opened c node) (each node start))
      | inl before ↦ elim before [
        | inr retired ↦ inl (inr (retired_wider c retired))
        | inl live ↦ elim (live_wider c live) [
          | inl is ↦ inl (inl is)
          | inr same ↦ inr (subst (λ (z : Context F). (n : Node) → P.start z n → IsHeld new (opened z n)) (sym same) (λ node start. b.held (opened d node) (a.taken (Go node d.fact) (node, start, refl))))
        ]
      ]
    ]
  ]

  -- the call of an unknown context
  pub takes_unknown : TakesIn P e (λ m. m ≡ Call at d) s new
  takes_unknown = record {
    live = λ c k. b.live c (a.live c (Contains-append_left s.known (live_of d ∷ []) (live_of c) k));
    retired = λ c k. b.retired c (a.retired c (Contains-append_left s.known (live_of d ∷ []) (let r : Known F = record { context = c; retired = true } in r) k));
    held = λ x k. b.held x (a.held x k);
    callers = λ k c i has. b.callers k c i (a.callers k c i has);
    exits = λ c x k. b.exits c x (a.exits c x k);
    marks = λ x k. b.marks x (a.marks x k);
    taken = b.taken;
    started = started_now;
    live_from = λ c k. elim (b.live_from c k) [
      | inr fresh ↦ inr (λ before. fresh.0 (known_mid c (known_wider c before)), fresh.1)
      | inl was ↦ elim (a.live_from c was) [
        | inr fresh ↦ absurd (no_call fresh.1.0 c fresh.1.1)
        | inl before ↦ elim (live_wider c before) [
          | inl is ↦ inl is
          | inr same ↦ inr (subst (λ (z : Context F). IsKnown s z → ⊥) (sym same) unknown, (at, ap (λ (z : Context F). let m : Move F M = Call at z in m) same))
        ]
      ]
    ];
    retired_from = λ c k. retired_wider c (a.retired_from c (b.retired_from c k));
    held_from = λ x k. elim (a.held_from x (held_was x k)) [
      | inl before ↦ inl before
      | inr leads ↦ elim leads [
        | inl go ↦ let start = start_leads x go.0 go.1 go.2 go.3 in inr (inr (at, d, start.0, refl, unknown, start.1, start.2))
        | inr call ↦ absurd (no_call call.0 call.1 call.3)
      ]
    ];
    callers_from = λ k c i has. elim (b.callers_from k c i has) [ inr move ↦ inr move | inl was ↦ inl (caller_was k c i was) ];
    exits_from = λ c x k. elim (b.exits_from c x k) [ inr move ↦ inr move | inl was ↦ inl (exit_was c x was) ];
    marks_from = λ x k. elim (b.marks_from x k) [
      | inr move ↦ inr move
      | inl was ↦ elim (a.marks_from x was) [ inl before ↦ inl before | inr move ↦ absurd (no_mark x move) ]
    ];
    added = a.added ++ b.added;
    queue = b.queue ∙ ap (λ (items : List (Item F)). items ++ b.added) a.queue ∙ append_assoc s.queue a.added b.added;
    once = pairs_append (λ i j. i ≢ j) a.added b.added a.once b.once (λ i j in_a in_b same. apart j (subst (λ (k : Item F). Contains a.added k) same in_a) in_b);
    queued = λ x k. elim (a.queued x (held_was x k)) [ inl before ↦ inl before | inr p ↦ inr (Contains-append_left a.added b.added (edge_item x) p.0, p.1) ];
    met = λ k c i x call exit. elim (b.met k c i x call exit) [
      | inl were ↦ inl (caller_was k c i were.0, exit_was k x were.1)
      | inr p ↦ inr (Contains-append_right a.added b.added (Join c i k x) p)
    ];
    edges_from = λ x k. elim (Contains-append_cases a.added b.added (edge_item x) k) [
      | inl in_a ↦ let fresh = a.edges_from x in_a in (b.held x fresh.0, fresh.1)
      | inr in_b ↦ absurd (no_edge x in_b)
    ];
    joins_from = λ c i k x has. elim (Contains-append_cases a.added b.added (Join c i k x) has) [
      | inl in_a ↦ absurd (no_join c k i x in_a)
      | inr in_b ↦ let fresh = b.joins_from c i k x in_b in (fresh.0, fresh.1, λ before. fresh.2 (a.callers k c i before.0, a.exits k x before.1))
    ];
    more = a.more;
    counted = same_count (λ x. IsHeld mid x × (IsHeld s x → ⊥)) (λ x. IsHeld new x × (IsHeld s x → ⊥)) a.more (λ x is. (b.held x is.0, is.1)) (λ x is. (held_was x is.0, is.1)) a.counted;
    found = omega (arith, a.found, b.found, none_more);
    rest = b.rest ∙ ap (λ (v : View F M). record v { queue = new.queue; held = new.held; known = new.known; callers = new.callers; exits = new.exits; marks = new.marks; found = new.found }) a.rest;
  }
