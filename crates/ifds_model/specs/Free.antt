-- Free and freed methods, and the two laws on lag (docs/SOLVER.md, "Free, freed and done"). The state stands below.
use Rattle.std.specs.Prelude.{◌≡◌, ◌≤◌}
use Rattle.clean_base.specs.declared.ids.MethodId.{MethodId}
use Rattle.ifds_model.specs.declared.node.Frame.{Frame}
use Rattle.ifds_model.specs.declared.node.Item.{Item}
use Rattle.ifds_model.specs.State.{View, context_of, IsHeld, IsPending}

module _ {F M : Type 0} (reaches : MethodId → MethodId → Type 0) where
  -- no method that it reaches has a pending item
  abbrev pub IsFree : View F M → MethodId → Type 0
  IsFree s m = (item : Item F) → IsPending s item → reaches m (context_of item).method → ⊥

  -- free, with a held edge
  pub record IsFreed (s : View F M) (m : MethodId) : Type 0 where
    pub free : IsFree s m
    pub edge : Frame F
    pub held : IsHeld s edge
    pub method : edge.context.method ≡ m

  -- lag never passes the period, and it is 0 only where no method is freed
  pub record KeepsLag (s : View F M) : Type 0 where
    pub within : s.lag ≤ s.period
    pub swept : s.lag ≡ 0 → (m : MethodId) → IsFreed s m → ⊥
