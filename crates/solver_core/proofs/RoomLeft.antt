-- Room for moves: what it is for the first of them, and what is left for the others once that one is taken in.
use Rattle.std.specs.Prelude.{◌≡◌, ◌≤◌, ◌<◌, ℕ, suc, ◌+◌, List, [], ◌∷◌, length, slice_index, Contains, vec_len, vec_capacity}
use Rattle.std.specs.List.{sum_by}
use Rattle.std.specs.VecDeque.{deque_len, deque_capacity}
use Rattle.std.proofs.Common.{arith, sym, subst, inl, inr, refl}
use Rattle.std.proofs.lemmas.List.Sums.{sum_by-cons}
use Rattle.clean_base.specs.declared.ids.StmtId.{StmtId}
use Rattle.entry_tables.specs.Tables.{Tables, call_site}
use Rattle.entry_tables.specs.declared.tables.CallSite.{CallSite}
use Rattle.ifds_model.specs.declared.node.Node.{Node}
use Rattle.ifds_model.specs.declared.node.Move.{Move}
use Rattle.ifds_model.specs.declared.node.Move.TheVariants.{Go, Call, Exit, Mark}
use Rattle.ifds_model.specs.Machine.{Machine}
use Rattle.ifds_model.specs.Count.{cons_cases}
use Rattle.ifds_model.specs.State.{At}
use Rattle.solver_core.specs.Room.{Uses, JoinsWithin, HasCallerRoom, HasPlaceFor, HasStarts, HasRoomFor, StandsAt, call_count, calls_of, edges_of, exit_count, leaves_of, works_of}
use Rattle.solver_core.specs.declared.parts.Parts.{Parts}
use Rattle.solver_core.specs.declared.ready.Ready.{Ready}

-- the first of a list, and the others
pub here : {X : Type 0} (x : X) (xs : List X) → Contains (x ∷ xs) x
here x xs = (0, omega arith, refl)

pub later : {X : Type 0} (x : X) (xs : List X) (y : X) → Contains xs y → Contains (x ∷ xs) y
later x xs y has = (suc has.0, omega (arith, has.1), has.2)

alone : {X : Type 0} (x y : X) → Contains (x ∷ []) y → x ≡ y
alone x y has = elim (cons_cases x [] y has) [ inl same ↦ same | inr none ↦ absurd (omega (arith, none.1)) ]

module _ {F M : Type 0} where
  -- fewer moves need less
  fewer_joins : (t : Tables F) (context calls exits fewer less joins : ℕ) (m : Move F M) → fewer ≤ calls → less ≤ exits → JoinsWithin t context calls exits joins m → JoinsWithin t context fewer less joins m
  fewer_joins t context calls exits fewer less joins (Go node fact) few low within = tt
  fewer_joins t context calls exits fewer less joins (Call at d) few low within = (omega (arith, low, within.0), λ k is. omega (arith, low, within.1 k is))
  fewer_joins t context calls exits fewer less joins (Exit x) few low within = omega (arith, few, within)
  fewer_joins t context calls exits fewer less joins (Mark m) few low within = tt

  -- and where one move was taken in, its calls and exits aren't left
  later_joins : (site : CallSite) (t u : Tables F) (context calls exits made done joins : ℕ) (m : Move F M) → Uses site made made done t u → JoinsWithin t context (made + calls) (done + exits) joins m → JoinsWithin u context calls exits joins m
  later_joins site t u context calls exits made done joins (Go node fact) used within = tt
  later_joins site t u context calls exits made done joins (Call at d) used within = (
    omega (arith, within.0),
    λ k is. elim (used.from k d is) [
      | inl was ↦ omega (arith, within.1 k was, used.exits_more k)
      | inr came ↦ omega (arith, within.0, came.2)
    ],
  )
  later_joins site t u context calls exits made done joins (Exit x) used within = omega (arith, within, used.callers_more context)
  later_joins site t u context calls exits made done joins (Mark m) used within = tt

  later_callers : (t u : Tables F) (context : ℕ) (at : StmtId) (contexts callers exits : ℕ) (m : Move F M) → Uses (call_site context at) contexts callers exits t u → 0 < t.first_callers → StandsAt at m → HasCallerRoom t context m → HasCallerRoom u context m
  later_callers t u context at contexts callers exits (Go node fact) used first stands room = tt
  later_callers t u context at contexts callers exits (Call here d) used first stands room =
      let place : (k : ℕ) → At t.contexts k d → HasPlaceFor (call_site context at) t k = λ k is. subst (λ (s : StmtId). HasPlaceFor (call_site context s) t k) stands (room k is) in
      λ k is. subst (λ (s : StmtId). HasPlaceFor (call_site context s) u k) (sym stands) (elim (used.from k d is) [
        | inl was ↦ used.places k (place k was)
        | inr came ↦ came.1 first
      ])
  later_callers t u context at contexts callers exits (Exit x) used first stands room = tt
  later_callers t u context at contexts callers exits (Mark m) used first stands room = tt

  -- what a move uses is what the ready one does
  pub uses_of : (t u : Tables F) (context : ℕ) (r : Ready F M) (m : Move F M) → r.step ≡ m → ((at : StmtId) → StandsAt at m → Uses (call_site context at) (call_count m) (call_count m) (exit_count m) t u)
      → (at : StmtId) → StandsAt at r.step → Uses (call_site context at) (calls_of r) (calls_of r) (leaves_of r) t u
  uses_of t u context r m is uses at stands = subst (λ (step : Move F M). Uses (call_site context at) (call_count step) (call_count step) (exit_count step) t u) (sym is) (uses at (subst (λ (step : Move F M). StandsAt at step) is stands))

  -- starts that were found before stay those of what is still unknown
  pub later_starts : (P : Machine F M) (site : CallSite) (contexts callers exits : ℕ) (t u : Tables F) (starts : List Node) (m : Move F M) → Uses site contexts callers exits t u → HasStarts P t starts m → HasStarts P u starts m
  later_starts P site contexts callers exits t u starts (Go node fact) used is = tt
  later_starts P site contexts callers exits t u starts (Call at d) used is = λ unknown. is (λ has. let now = used.at has.0 d (has.1, has.2) in unknown (has.0, now.0, now.1))
  later_starts P site contexts callers exits t u starts (Exit x) used is = tt
  later_starts P site contexts callers exits t u starts (Mark m) used is = tt

  module _ (context : ℕ) (s : Parts F M) (r : Ready F M) (rs : List (Ready F M)) (room : HasRoomFor context s (r ∷ rs)) where
    pub room_first : HasRoomFor context s (r ∷ [])
    room_first = record {
      at = room.at;
      stand = λ q has. subst (λ (z : Ready F M). StandsAt room.at z.step) (alone r q has) (room.stand r (here r rs));
      contexts = omega (arith, room.contexts, sum_by-cons calls_of r rs, sum_by-cons calls_of r []);
      first = room.first;
      exits = omega (arith, room.exits, sum_by-cons leaves_of r rs, sum_by-cons leaves_of r []);
      callers = λ q has. subst (λ (z : Ready F M). HasCallerRoom s.tables context z.step) (alone r q has) (room.callers r (here r rs));
      joins = λ q has. subst (λ (z : Ready F M). JoinsWithin s.tables context (sum_by calls_of (r ∷ [])) (sum_by leaves_of (r ∷ [])) z.joins z.step) (alone r q has)
          (fewer_joins s.tables context (sum_by calls_of (r ∷ rs)) (sum_by leaves_of (r ∷ rs)) (sum_by calls_of (r ∷ [])) (sum_by leaves_of (r ∷ [])) r.joins r.step
          (omega (arith, sum_by-cons calls_of r rs, sum_by-cons calls_of r [])) (omega (arith, sum_by-cons leaves_of r rs, sum_by-cons leaves_of r [])) (room.joins r (here r rs)));
      marks = omega (arith, room.marks);
      edges = omega (arith, room.edges, sum_by-cons edges_of r rs, sum_by-cons edges_of r []);
      queue = omega (arith, room.queue, sum_by-cons works_of r rs, sum_by-cons works_of r []);
    }

    pub room_rest : (t : Parts F M) → ((at : StmtId) → StandsAt at r.step → Uses (call_site context at) (calls_of r) (calls_of r) (leaves_of r) s.tables t.tables) → vec_len t.marks + vec_capacity s.marks ≤ vec_len s.marks + vec_capacity t.marks + 1 → s.edges.spare ≤ t.edges.spare + edges_of r
        → deque_len t.queue ≤ deque_len s.queue + works_of r → deque_capacity t.queue ≡ deque_capacity s.queue → HasRoomFor context t rs
    room_rest t uses marks edges len capacity =
        let used = uses room.at (room.stand r (here r rs)) in
        record {
          at = room.at;
          stand = λ q has. room.stand q (later r rs q has);
          contexts = omega (arith, room.contexts, used.room, sum_by-cons calls_of r rs);
          first = omega (arith, room.first, used.first);
          exits = omega (arith, room.exits, used.spare_exits context, sum_by-cons leaves_of r rs);
          callers = λ q has. later_callers s.tables t.tables context room.at (calls_of r) (calls_of r) (leaves_of r) q.step used room.first (room.stand q (later r rs q has)) (room.callers q (later r rs q has));
          joins = λ q has. later_joins (call_site context room.at) s.tables t.tables context (sum_by calls_of rs) (sum_by leaves_of rs) (calls_of r) (leaves_of r) q.joins q.step used
              (subst (λ (n : ℕ). JoinsWithin s.tables context (calls_of r + sum_by calls_of rs) n q.joins q.step) (sum_by-cons leaves_of r rs)
              (subst (λ (n : ℕ). JoinsWithin s.tables context n (sum_by leaves_of (r ∷ rs)) q.joins q.step) (sum_by-cons calls_of r rs) (room.joins q (later r rs q has))));
          marks = omega (arith, room.marks, marks);
          edges = omega (arith, room.edges, edges, sum_by-cons edges_of r rs);
          queue = omega (arith, room.queue, len, capacity, sum_by-cons works_of r rs);
        }

  -- what is in hand doesn't matter
  pub room_as : (context : ℕ) (s t : Parts F M) (rs qs : List (Ready F M)) → qs ≡ rs → t.tables ≡ s.tables → t.edges ≡ s.edges → t.queue ≡ s.queue → t.marks ≡ s.marks → HasRoomFor context s rs → HasRoomFor context t qs
  room_as context s t rs qs same tables edges queue marks room = subst (HasRoomFor context t) (sym same) (record {
    at = room.at;
    stand = room.stand;
    contexts = subst (λ (x : Tables F). sum_by calls_of rs ≤ x.spare_contexts) (sym tables) room.contexts;
    first = subst (λ (x : Tables F). 0 < x.first_callers) (sym tables) room.first;
    exits = subst (λ (x : Tables F). sum_by leaves_of rs ≤ slice_index x.spare_exits context) (sym tables) room.exits;
    callers = λ r has. subst (λ (x : Tables F). HasCallerRoom x context r.step) (sym tables) (room.callers r has);
    joins = λ r has. subst (λ (x : Tables F). JoinsWithin x context (sum_by calls_of rs) (sum_by leaves_of rs) r.joins r.step) (sym tables) (room.joins r has);
    marks = subst (λ x. vec_len x + length rs ≤ vec_capacity x) (sym marks) room.marks;
    edges = subst (λ x. sum_by edges_of rs ≤ x.spare) (sym edges) room.edges;
    queue = subst (λ x. deque_len x + sum_by works_of rs ≤ deque_capacity x) (sym queue) room.queue;
  })
