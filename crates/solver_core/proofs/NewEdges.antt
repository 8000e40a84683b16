-- The new edges of moves, and their number.
use Rattle.std.specs.Prelude.{◌≡◌, ◌↔◌, ◌≤◌, ◌<◌, ℕ, ◌+◌, List, [], ◌++◌, length, Contains}
use Rattle.std.proofs.Common.{arith, sym, ◌∙◌, ap, subst, inl, inr, refl}
use Rattle.clean_base.specs.declared.ids.StmtId.{StmtId}
use Rattle.ifds_model.specs.declared.node.Context.{Context}
use Rattle.ifds_model.specs.declared.node.Frame.{Frame}
use Rattle.ifds_model.specs.declared.node.Node.{Node}
use Rattle.ifds_model.specs.declared.node.Item.{Item}
use Rattle.ifds_model.specs.declared.node.Move.{Move}
use Rattle.ifds_model.specs.declared.node.Move.TheVariants.{Go, Call}
use Rattle.ifds_model.specs.Count.{one_count}
use Rattle.ifds_model.specs.Events.{LeadsTo, TakesIn, landed}
use Rattle.clean_base.specs.Lists.{AppendsSet}
use Rattle.ifds_model.specs.Machine.{Machine}
use Rattle.ifds_model.specs.Outcome.{AreMovesOf}
use Rattle.ifds_model.specs.Runs.{opened, HasCount}
use Rattle.ifds_model.specs.State.{View, At, Known, at_node, context_of, MovesOf, IsHeld, IsKnown}
use Rattle.ifds_model.proofs.Members.{any_default, same_count}
use Rattle.solver_core.specs.Answers.{IsStopped}
use Rattle.solver_core.specs.Gathered.{Gathers, IsOfEach, IsNew, IsNewTo}
use Rattle.solver_core.specs.Numbers.{context_at, frame_of, live_of}
use Rattle.solver_core.specs.Seen.{view_of_parts, AreFit}
use Rattle.solver_core.specs.Store.{spot}
use Rattle.solver_core.specs.declared.answer.CommitStop.TheVariants.{EdgeLimit}
use Rattle.solver_core.specs.declared.parts.Parts.{Parts}
use Rattle.solver_core.proofs.Gathered.{gathers_as, gathers_none}
use Rattle.solver_core.proofs.Numbered.{in_map, from_map, fresh_frame}

-- a context of a view's known ones is one of the tables, and each of those is known
pub is_known : {F M : Type 0} (P : Machine F M) (s : Parts F M) (d : Context F) → Contains s.tables.contexts d → IsKnown (view_of_parts P s 0 0 0 0 0) d
is_known P s d has = inl (in_map live_of s.tables.contexts d has)

pub known_is : {F M : Type 0} (P : Machine F M) (s : Parts F M) (d : Context F) → IsKnown (view_of_parts P s 0 0 0 0 0) d → Contains s.tables.contexts d
known_is {F} P s d known = elim known [
  | inl live ↦ let from = from_map live_of s.tables.contexts (live_of d) live in subst (λ (c : Context F). Contains s.tables.contexts c) (sym (ap (λ (k : Known F). k.context) from.2)) from.1
  | inr retired ↦ let from = from_map live_of s.tables.contexts _ retired in subst (λ (c : Context F). Contains s.tables.contexts c) (sym (ap (λ (k : Known F). k.context) from.2)) from.1
]

module _ {F M : Type 0} (P : Machine F M) (s : Parts F M) (context : ℕ) where
  abbrev seen : View F M
  seen = view_of_parts P s 0 0 0 0 0

  abbrev here : Context F
  here = context_at P.root s.tables.contexts context

  go_only : (node : Node) (fact : F) (a : Frame F) → LeadsTo P here (λ m. m ≡ Go node fact) seen a → a ≡ at_node here node fact
  go_only node fact a leads = elim leads [
    | inl goes ↦
        let same : (let one : Move F M = Go goes.0 goes.1 in one ≡ Go node fact) = goes.2 in
        let nodes : goes.0 ≡ node = cc (same) in
        let facts : goes.1 ≡ fact = cc (same) in
        goes.3 ∙ ap (λ (n : Node). at_node here n goes.1) nodes ∙ ap (λ (f : F). at_node here node f) facts
    | inr calls ↦ let other = calls.3 in cc (other)
  ]

  abbrev Opens : Context F → Frame F → Type 0
  Opens d a = (n : Node) × P.start d n × (a ≡ opened d n)

  call_unknown : (at : StmtId) (callee : Context F) (a : Frame F) → LeadsTo P here (λ m. m ≡ Call at callee) seen a → IsKnown seen callee → ⊥
  call_unknown at callee a leads = elim leads [
    | inl goes ↦ let other = goes.2 in cc (other)
    | inr calls ↦
        let same : (let one : Move F M = Call calls.0 calls.1 in one ≡ Call at callee) = calls.3 in
        let callees : calls.1 ≡ callee = cc (same) in
        subst (λ (d : Context F). IsKnown seen d → ⊥) callees calls.4
  ]

  call_opens : (at : StmtId) (callee : Context F) (a : Frame F) → LeadsTo P here (λ m. m ≡ Call at callee) seen a → Opens callee a
  call_opens at callee a leads = elim leads [
    | inl goes ↦ let other = goes.2 in cc (other)
    | inr calls ↦
        let same : (let one : Move F M = Call calls.0 calls.1 in one ≡ Call at callee) = calls.3 in
        let callees : calls.1 ≡ callee = cc (same) in
        subst (λ (d : Context F). Opens d a) callees (calls.2, calls.5, calls.6)
  ]

  -- an edge that is held isn't new
  pub go_held : (node : Node) (fact : F) (a : List (Frame F)) → Contains s.edges.held.edges (spot context node fact) → Gathers (IsNewTo P s context (λ m. m ≡ Go node fact)) a a
  go_held node fact a has = gathers_none (IsNewTo P s context (λ m. m ≡ Go node fact)) a (λ x new.
      new.1 (subst (λ (y : Frame F). IsHeld seen y) (sym (go_only node fact x new.0)) (in_map (frame_of P.root s.tables.contexts) s.edges.held.edges (spot context node fact) has)))

  pub go_new : (node : Node) (fact : F) (e : Context F) (a b : List (Frame F)) → AreFit s → context < length s.tables.contexts → At s.tables.contexts context e → (Contains s.edges.held.edges (spot context node fact) → ⊥)
      → Gathers (λ y. y ≡ at_node e node fact) a b → Gathers (IsNewTo P s context (λ m. m ≡ Go node fact)) a b
  go_new node fact e a b fit below at fresh =
      let same : e ≡ here = sym at.1 ∙ any_default s.tables.contexts context e P.root at.0 in
      let frames : at_node e node fact ≡ at_node here node fact = ap (λ (c : Context F). at_node c node fact) same in
      gathers_as (λ y. y ≡ at_node e node fact) (IsNewTo P s context (λ m. m ≡ Go node fact)) a b
      (λ x is. (inl (node, fact, refl, is ∙ frames), λ held. fresh_frame P.root s.tables.contexts fit.distinct s.edges.held.edges (spot context node fact) fit.edges_in below fresh (subst (λ (y : Frame F). IsHeld seen y) (is ∙ frames) held)))
      (λ x new. go_only node fact x new.0 ∙ sym frames)

  -- a known context starts nothing
  pub call_known : (at : StmtId) (callee : Context F) (a : List (Frame F)) → Contains s.tables.contexts callee → Gathers (IsNewTo P s context (λ m. m ≡ Call at callee)) a a
  call_known at callee a has = gathers_none (IsNewTo P s context (λ m. m ≡ Call at callee)) a (λ x new. call_unknown at callee x new.0 (is_known P s callee has))

  -- no frame of a context that isn't known is held
  not_held : AreFit s → (callee : Context F) → (Contains s.tables.contexts callee → ⊥) → (x : Frame F) → x.context ≡ callee → IsHeld seen x → ⊥
  not_held fit callee unknown x is held =
      let from = from_map (frame_of P.root s.tables.contexts) s.edges.held.edges x held in
      let below = fit.edges_in from.0 from.1 in
      unknown (from.0.context, below, any_default s.tables.contexts from.0.context callee P.root below ∙ sym (ap (λ (y : Frame F). y.context) from.2) ∙ is)

  pub call_new : (at : StmtId) (callee : Context F) (starts : List Node) (a b : List (Frame F)) → AreFit s → (Contains s.tables.contexts callee → ⊥) → ((n : Node) → Contains starts n ↔ P.start callee n)
      → Gathers (IsOfEach (λ n y. y ≡ opened callee n) starts) a b → Gathers (IsNewTo P s context (λ m. m ≡ Call at callee)) a b
  call_new at callee starts a b fit unknown exact =
      gathers_as (IsOfEach (λ n y. y ≡ opened callee n) starts) (IsNewTo P s context (λ m. m ≡ Call at callee)) a b
      (λ x is. (inr (at, callee, is.0, refl, (λ known. unknown (known_is P s callee known)), (exact is.0).0 is.1, is.2), not_held fit callee unknown x (ap (λ (y : Frame F). y.context) is.2)))
      (λ x new. let only = call_opens at callee x new.0 in (only.0, (exact only.0).1 only.1, only.2))

  -- what was gathered from nothing is counted
  pub counted : (moves : List (Move F M)) (b : List (Frame F)) (k : ℕ) → Gathers (IsOfEach (λ step. IsNewTo P s context (λ m. m ≡ step)) moves) [] b → k ≡ length b
      → HasCount (IsNewTo P s context (λ m. Contains moves m)) k
  counted moves b k g is = (
    b,
    record {
      distinct = g.distinct (λ i j d less below. absurd (omega (arith, below)));
      sound = λ x has. elim (g.from x has) [
        | inl none ↦ absurd (omega (arith, none.1))
        | inr of ↦ (
          elim of.2.0 [
            | inl goes ↦ inl (goes.0, goes.1, subst (λ (m : Move F M). Contains moves m) (sym goes.2) of.1, goes.3)
            | inr calls ↦ inr (calls.0, calls.1, calls.2, subst (λ (m : Move F M). Contains moves m) (sym calls.3) of.1, calls.4, calls.5, calls.6)
          ],
          of.2.1,
        )
      ];
      whole = λ x new. g.there x (elim new.0 [
        | inl goes ↦ (Go goes.0 goes.1, goes.2, (inl (goes.0, goes.1, refl, goes.3), new.1))
        | inr calls ↦ (Call calls.0 calls.1, calls.3, (inr (calls.0, calls.1, calls.2, refl, calls.4, calls.5, calls.6), new.1))
      ]);
    },
    sym is,
  )

-- what is added to nothing is the set
pub all_added : {X : Type 0} (set : X → Type 0) (old new xs : List X) → old ≡ [] → xs ≡ new → AppendsSet set old new → (x : X) → Contains xs x ↔ set x
all_added {X} set old new xs none is added x =
    let same : xs ≡ added.0 = is ∙ added.1 ∙ ap (λ (zs : List X). zs ++ added.0) none in
    ((λ has. (added.2 x).0 (subst (λ (zs : List X). Contains zs x) same has)), (λ is_in. subst (λ (zs : List X). Contains zs x) (sym same) ((added.2 x).1 is_in)))

-- the limit, for a caller that knows the number of new edges
module _ {F M : Type 0} (P : Machine F M) (item : Item F) (moves : List (Move F M)) (exact : AreMovesOf P item moves) (s : View F M) (k : ℕ) (count : HasCount (IsNew P (context_of item) (λ m. Contains moves m) s) k) where
  -- what an item's moves lead to, by the list of them
  leads_there : (a : Frame F) → LeadsTo P (context_of item) (λ m. Contains moves m) s a → LeadsTo P (context_of item) (MovesOf P item) s a
  leads_there a leads = elim leads [
    | inl goes ↦ inl (goes.0, goes.1, (exact _).0 goes.2, goes.3)
    | inr calls ↦ inr (calls.0, calls.1, calls.2, (exact _).0 calls.3, calls.4, calls.5, calls.6)
  ]

  leads_back : (a : Frame F) → LeadsTo P (context_of item) (MovesOf P item) s a → LeadsTo P (context_of item) (λ m. Contains moves m) s a
  leads_back a leads = elim leads [
    | inl goes ↦ inl (goes.0, goes.1, (exact _).1 goes.2, goes.3)
    | inr calls ↦ inr (calls.0, calls.1, calls.2, (exact _).1 calls.3, calls.4, calls.5, calls.6)
  ]

  -- the new edges of the item's moves are so many
  pub item_count : HasCount (IsNew P (context_of item) (MovesOf P item) s) k
  item_count = same_count (IsNew P (context_of item) (λ m. Contains moves m) s) (IsNew P (context_of item) (MovesOf P item) s) k
      (λ a new. (leads_there a new.0, new.1)) (λ a new. (leads_back a new.0, new.1)) count

  -- past the limit the item's moves may be refused
  pub refused : s.max_edges < s.found + k → IsStopped P item s (EdgeLimit (s.max_edges + 1))
  refused past = ((k, item_count, past), refl)

  module _ (worker : ℕ) (new : View F M) (takes : TakesIn P (context_of item) (MovesOf P item) (landed worker item s) new) where
    -- the frames that become held are those of the count
    became_held : (a : Frame F) → IsNew P (context_of item) (MovesOf P item) s a → IsHeld new a × (IsHeld (landed worker item s) a → ⊥)
    became_held a is_new = (
      elim is_new.0 [
        | inl goes ↦ subst (λ (b : Frame F). IsHeld new b) (sym goes.3) (takes.taken (Go goes.0 goes.1) goes.2)
        | inr calls ↦ subst (λ (b : Frame F). IsHeld new b) (sym calls.6) (elim (takes.started calls.1 (takes.taken (Call calls.0 calls.1) calls.3).0) [
          | inl was ↦ absurd (calls.4 was)
          | inr starts ↦ starts calls.2 calls.5
        ])
      ],
      is_new.1,
    )

    held_new : (a : Frame F) → IsHeld new a × (IsHeld (landed worker item s) a → ⊥) → IsNew P (context_of item) (MovesOf P item) s a
    held_new a held = (elim (takes.held_from a held.0) [ inl was ↦ absurd (held.1 was) | inr leads ↦ leads ], held.1)

    pub more_is : takes.more ≡ k
    more_is = one_count (λ a. IsHeld new a × (IsHeld (landed worker item s) a → ⊥)) takes.more k takes.counted
        (same_count (IsNew P (context_of item) (MovesOf P item) s) (λ a. IsHeld new a × (IsHeld (landed worker item s) a → ⊥)) k became_held held_new item_count)

    -- within the limit the event keeps to it
    pub keeps_within : s.found + k ≤ s.max_edges → new.found ≤ new.max_edges
    keeps_within small =
        let limit : new.max_edges ≡ s.max_edges = ap (λ (v : View F M). v.max_edges) takes.rest in
        omega (arith, small, takes.found, more_is, limit)
