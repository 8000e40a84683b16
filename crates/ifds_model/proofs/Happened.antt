-- Every event keeps a tidy state sound, and keeps the laws on lag.
use Rattle.std.specs.Prelude.{◌≤◌}
use Rattle.clean_base.specs.declared.ids.MethodId.{MethodId}
use Rattle.clean_base.specs.declared.ids.StmtId.{StmtId}
use Rattle.ifds_model.specs.declared.event.Event.{Event}
use Rattle.ifds_model.specs.declared.event.Event.TheVariants.{Take, Commit, Back, Retire, Sweep}
use Rattle.ifds_model.specs.Machine.{Machine}
use Rattle.ifds_model.specs.State.{View, IsTidy}
use Rattle.ifds_model.specs.Sound.{IsSound}
use Rattle.ifds_model.specs.Free.{KeepsLag}
use Rattle.ifds_model.specs.Events.{Happens}
use Rattle.ifds_model.specs.Laws.{IsLawful}
use Rattle.ifds_model.proofs.Requeued.{take_kept, back_kept}
use Rattle.ifds_model.proofs.Retired.{retire_kept, sweep_kept}
use Rattle.ifds_model.proofs.Kept.{commit_kept}

module _ {F M : Type 0} (P : Machine F M) (method_of : StmtId → MethodId) (reaches : MethodId → MethodId → Type 0) (law : IsLawful P method_of reaches) (old new : View F M) where
  pub event_kept : (event : Event) → Happens reaches P old event new → IsTidy old → IsSound P old → KeepsLag reaches old → 1 ≤ old.period → IsSound P new × KeepsLag reaches new
  event_kept (Take worker place) is tidy sound lag some = let kept = take_kept P reaches old new sound tidy lag worker place is in (kept.0, kept.2)
  event_kept (Commit worker) is tidy sound lag some = commit_kept P old sound reaches tidy worker new some is
  event_kept (Back worker) is tidy sound lag some = let kept = back_kept P reaches old new sound tidy lag worker is in (kept.0, kept.2)
  event_kept (Retire method) is tidy sound lag some = retire_kept P method_of reaches law old tidy sound method new is lag
  event_kept Sweep is tidy sound lag some = let kept = sweep_kept P method_of reaches law old tidy sound new is in (kept.0, kept.1)
