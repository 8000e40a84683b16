-- What playing a list of events does to a state (docs/SOLVER.md, "Events that are played").
use Rattle.std.specs.Prelude.{◌≡◌, ◌⊎◌, ℕ, List, [], ◌∷◌, ◌++◌, Some, None}
use Rattle.clean_base.specs.declared.ids.MethodId.{MethodId}
use Rattle.ifds_model.specs.declared.event.Event.{Event}
use Rattle.ifds_model.specs.declared.event.Event.TheVariants.{Take, Commit, Back, Retire, Sweep}
use Rattle.ifds_model.specs.declared.node.Item.{Item}
use Rattle.ifds_model.specs.Machine.{Machine}
use Rattle.ifds_model.specs.State.{View, At}
use Rattle.ifds_model.specs.Events.{Happens}
use Rattle.solver_core.specs.Answers.{IsStopped}
use Rattle.solver_core.specs.declared.answer.CommitStop.{CommitStop}

module _ {F M : Type 0} where
  -- the event can happen. No edges are dropped yet, so no method is retired and nothing is swept
  abbrev pub IsReadyFor : View F M → Event → Type 0
  IsReadyFor s (Take worker place) = At s.flights worker None × ((item : Item F) × At s.queue place item)
  IsReadyFor s (Commit worker) = (item : Item F) × At s.flights worker (Some item)
  IsReadyFor s (Back worker) = (item : Item F) × At s.flights worker (Some item)
  IsReadyFor s (Retire method) = ⊥
  IsReadyFor s Sweep = ⊥

  -- why the event stops the play: it is the commit of an item in hand, and that is refused
  abbrev pub IsStopOf : Machine F M → Event → View F M → CommitStop → Type 0
  IsStopOf P (Take worker place) s stop = ⊥
  IsStopOf P (Commit worker) s stop = (item : Item F) × At s.flights worker (Some item) × IsStopped P item s stop
  IsStopOf P (Back worker) s stop = ⊥
  IsStopOf P (Retire method) s stop = ⊥
  IsStopOf P Sweep s stop = ⊥

  module _ (P : Machine F M) (reaches : MethodId → MethodId → Type 0) where
    -- an event happens, or it is passed over where it can't
    abbrev pub Plays : Event → View F M → View F M → Type 0
    Plays e old new = (IsReadyFor old e × Happens reaches P old e new) ⊎ ((IsReadyFor old e → ⊥) × (new ≡ old))

    -- events are played in order
    abbrev pub Played : List Event → View F M → View F M → Type 0
    Played [] old new = new ≡ old
    Played (e ∷ es) old new = (mid : View F M) × Plays e old mid × Played es mid new

    -- the events before a commit were played, and that commit is refused
    pub record IsStoppedAt (events : List Event) (old new : View F M) (stop : CommitStop) : Type 0 where
      pub before : List Event
      pub worker : ℕ
      pub behind : List Event
      pub parts : events ≡ before ++ Commit worker ∷ behind
      pub played : Played before old new
      pub item : Item F
      pub flies : At new.flights worker (Some item)
      pub stopped : IsStopped P item new stop
