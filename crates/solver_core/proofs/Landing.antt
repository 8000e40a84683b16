-- A commit from what its calls answer: the worker's item has its moves taken in, and what is so of every state stays.
use Rattle.std.specs.Prelude.{◌≡◌, ◌≤◌, ℕ, ◌+◌, ◌-◌, ◌^◌, min, List, length, map, slice_set, Option, Some, None, IfSome, IfNone}
use Rattle.std.specs.List.{sum_by}
use Rattle.std.proofs.Common.{sym, ◌∙◌, ap, subst}
use Rattle.clean_base.specs.declared.ids.MethodId.{MethodId}
use Rattle.ifds_model.specs.declared.node.Context.{Context}
use Rattle.ifds_model.specs.declared.node.Item.{Item}
use Rattle.ifds_model.specs.declared.node.Move.{Move}
use Rattle.ifds_model.specs.Machine.{Machine}
use Rattle.ifds_model.specs.Outcome.{AreMovesOf}
use Rattle.ifds_model.specs.State.{At, context_of}
use Rattle.ifds_model.specs.Events.{commits_of, Commits}
use Rattle.solver_core.specs.Gathered.{KeepsWithin}
use Rattle.solver_core.specs.Numbers.{context_at, item_of, flight_of, place}
use Rattle.solver_core.specs.Room.{IsOf, IsSame, edges_of}
use Rattle.solver_core.specs.Seen.{view_of_parts, AreFit, IsRight, TakesInParts}
use Rattle.solver_core.specs.declared.parts.Parts.{Parts}
use Rattle.solver_core.specs.declared.pending.Pending.{Pending}
use Rattle.solver_core.specs.declared.ready.Ready.{Ready}
use Rattle.solver_core.proofs.Landed.{flown_item, not_both, place_context, emptied_hand, lag_is, committed, commit_right}

module _ {F M : Type 0} (P : Machine F M) (s t : Parts F M) (same : IsSame s t) (w context : ℕ) (item : Item F) (work : Pending F)
    (flies : At (map (flight_of P.root s.tables.contexts) s.flights.items) w (Some item)) (flew : At s.flights.items w (Some work)) (place_is : context ≡ place work) where
  named : item_of P.root s.tables.contexts work ≡ item
  named = flown_item P.root s.tables.contexts s.flights.items w item flies work flew

  -- the work is done in the item's context
  pub here : context_at P.root s.tables.contexts context ≡ context_of item
  here = ap (context_at P.root s.tables.contexts) place_is ∙ place_context P.root s.tables.contexts work ∙ ap context_of named

  module _ (moves : List (Move F M)) (exact : AreMovesOf P item moves) (mid new : Parts F M) (rs readies : List (Ready F M)) (commits lag takes period max_edges count next late : ℕ)
      (tables : mid.tables ≡ t.tables) (edges : mid.edges ≡ t.edges) (queue : mid.queue ≡ t.queue) (marks : mid.marks ≡ t.marks)
      (hand : Option (Pending F)) (idle : IfNone hand (At t.flights.items w None)) (emptied : IfSome hand (λ v. mid.flights.items ≡ slice_set t.flights.items w None))
      (value : rs ≡ readies) (steps : map (λ r. r.step) readies ≡ moves) (limit : KeepsWithin P s context moves (sum_by edges_of readies) max_edges)
      (taken : TakesInParts P context (IsOf rs) mid new) (held : new.edges.held.found ≤ mid.edges.held.found + sum_by edges_of rs)
      (counts : (root : Context F) (cs : List (Context F)) → count ≡ commits_of (item_of root cs work)) (sum : next ≡ min (lag + 1) (2 ^ 64 - 1)) (least : late ≡ min next period) (below : period ≤ 2 ^ 64 - 1) where
    now_empty : mid.flights.items ≡ slice_set t.flights.items w None
    now_empty = emptied_hand hand (At t.flights.items w None) (mid.flights.items ≡ slice_set t.flights.items w None) (not_both t.flights.items w work (subst (λ xs. At xs.items w (Some work)) (sym same.flights) flew)) idle emptied

    as_moves : map (λ r. r.step) rs ≡ moves
    as_moves = ap (map (λ r. r.step)) value ∙ steps

    counted : commits + count ≡ commits + commits_of item
    counted = ap (λ n. commits + n) (counts P.root s.tables.contexts ∙ ap commits_of named)

    lags : late ≡ min (lag + 1) period
    lags = lag_is lag late next period (2 ^ 64 - 1) sum least below

    pub event : Commits P w (view_of_parts P s commits lag takes period max_edges) (view_of_parts P new (commits + count) late takes period max_edges)
    event =
        committed P s t same context item moves here exact w mid new rs commits lag takes period max_edges (commits + count) late tables edges queue marks now_empty as_moves taken counted lags flies
        (subst (λ xs. KeepsWithin P s context moves (sum_by edges_of xs) max_edges) (sym value) limit) held

    pub right_after : (reaches : MethodId → MethodId → Type 0) → IsRight P reaches (view_of_parts P s commits lag takes period max_edges) → 1 ≤ period → AreFit new → IsRight P reaches (view_of_parts P new (commits + count) late takes period max_edges)
    right_after reaches right some fit =
        commit_right P s t same context item moves here exact w mid new rs commits lag takes period max_edges (commits + count) late tables edges queue marks now_empty as_moves taken counted lags flies reaches right some fit event
