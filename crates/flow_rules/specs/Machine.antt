-- A program as a stack machine (docs/SOLVER.md, "Machines"; docs/FLOW-RULES.md, "Moves").
use Rattle.std.specs.Prelude.{◌≡◌, ◌⊎◌, ℕ, true}
use Rattle.clean_base.specs.Lists.{At}
use Rattle.clean_base.specs.declared.ids.MethodId.{MethodId}
use Rattle.clean_base.specs.declared.ids.StmtId.{StmtId}
use Rattle.ifds_model.specs.Machine.{Machine}
use Rattle.ifds_model.specs.declared.node.Context.{Context}
use Rattle.ifds_model.specs.declared.node.Dir.{Dir}
use Rattle.ifds_model.specs.declared.node.Dir.TheVariants.{Forward, Backward}
use Rattle.ifds_model.specs.declared.node.Leak.{Leak}
use Rattle.ifds_model.specs.declared.node.Move.{Move}
use Rattle.ifds_model.specs.declared.node.Move.TheVariants as moves
use Rattle.ifds_model.specs.declared.node.Node.{Node}
use Rattle.access_path.specs.Paths.{activate}
use Rattle.access_path.specs.declared.fact.Fact.{Fact}
use Rattle.access_path.specs.declared.fact.Fact.TheVariants.{Zero, Taint as Tainted}
use Rattle.access_path.specs.declared.fact.Taint.{Taint}
use Rattle.access_path.specs.declared.fact.Wake.TheVariants.{Asleep}
use Rattle.access_path.specs.declared.view.CallView.{CallView}
use Rattle.access_path.specs.declared.view.View.{View}
use Rattle.access_path.specs.declared.view.View.TheVariants.{Call, Return, Throw}
use Rattle.flow_rules.specs.Backward.{Under}
use Rattle.flow_rules.specs.Border.{Enters, Passes, Exits, Throws, ReturnsAhead, ReturnsBehind}
use Rattle.flow_rules.specs.Code.{Code, Stands, StandsIn, Follows, IsTarget, Leads, IsOpenCall, IsReturn, IsCatch, MayThrow}
use Rattle.flow_rules.specs.Forward.{Over, Triggers, Leaks}
use Rattle.flow_rules.specs.Locals.{IsThrown, Sleeps}

-- a forward node holds before its statement, a backward one after it
abbrev pub before : StmtId → Node
before s = record { stmt = s; dir = Forward }

abbrev pub after : StmtId → Node
after s = record { stmt = s; dir = Backward }

-- the statement is this open call
abbrev pub IsOpen : View → CallView → Type 0
IsOpen view call = (view ≡ Call call) × (call.is_open ≡ true)

-- it is no open call
abbrev pub IsPlain : View → Type 0
IsPlain view = (call : CallView) → IsOpen view call → ⊥

module _ (code : Code) where
  -- Nodes on the way

  -- a fact goes ahead to each successor; an exception only to handlers
  abbrev pub Ahead : StmtId → Fact → Node → Type 0
  Ahead s g n = (q : StmtId) × Follows code s q × (IsThrown g → IsCatch code q) × (n ≡ before q)

  -- and behind to each predecessor; an exception only to what may have thrown it
  abbrev pub Behind : StmtId → Fact → Node → Type 0
  Behind s g n = (p : StmtId) × Follows code p s × (IsThrown g → MayThrow code p) × (n ≡ after p)

  -- Crossing (docs/FLOW-RULES.md, "Crossing")

  -- to cross the statement is to pass the one that the inactive taint waits for: it is this one, or may run in the call
  abbrev pub Wakes : StmtId → Taint → Type 0
  Wakes s t = (at : StmtId) × (t.wake ≡ Asleep at)
      × ((at ≡ s) ⊎ ((m : MethodId) × (n : MethodId) × IsTarget code s m × Leads code m n × StandsIn code at n))

  abbrev pub Crosses : StmtId → Fact → Fact → Type 0
  Crosses s Zero g = g ≡ Zero
  Crosses s (Tainted t) g = (Wakes s t × (g ≡ Tainted (activate t))) ⊎ ((Wakes s t → ⊥) × (g ≡ Tainted t))

  -- what comes of the fact once it has crossed the statement
  abbrev pub Crossed : StmtId → (Fact → Fact → Type 0) → Fact → Fact → Type 0
  Crossed s R f g = (h : Fact) × Crosses s f h × R h g

  -- what holds behind an open call whatever is called; an exception that another call threw goes on as it is
  abbrev pub Past : CallView → StmtId → Fact → Fact → Type 0
  Past call s f g = Crossed s (Passes call) f g ⊎ (IsThrown f × (g ≡ f))

module _ (k : ℕ) (code : Code) where
  -- what holds after the statement in its own method: over it, or past it where it is an open call
  abbrev pub After : View → StmtId → Fact → Fact → Type 0
  After view s f g = (IsPlain view × Crossed code s (Over k view s) f g)
      ⊎ ((call : CallView) × IsOpen view call × Past code call s f g)

  -- the aliases that the statement asks for
  abbrev pub Asks : View → StmtId → Fact → Fact → Type 0
  Asks view s f g = IsPlain view × Crossed code s (Triggers k view s) f g

  -- into each method that an open call may call, in the same direction
  abbrev pub Into : View → Node → Fact → Context Fact → Type 0
  Into view n f e = (call : CallView) × IsOpen view call × IsTarget code n.stmt e.method × (e.dir ≡ n.dir) × Enters call n.dir f e.fact

  -- out of the method: at a return, at a throw, and at an open call with an exception on its way
  abbrev pub Out : View → Fact → Fact → Type 0
  Out (Return value) f x = Exits value f x
  Out (Throw value) f x = Throws value f x
  Out (Call call) f x = (call.is_open ≡ true) × IsThrown f × (x ≡ f)
  Out _ f x = ⊥

  -- from before a statement, and from after it, where only inactive taints are looked for
  abbrev pub StepAt : View → Node → Dir → Fact → Move Fact Leak → Type 0
  StepAt view n Forward f (moves.Go m g) = (After view n.stmt f g × Ahead code n.stmt g m) ⊎ (Asks view n.stmt f g × Behind code n.stmt g m)
  StepAt view n Forward f (moves.Call at e) = (at ≡ n.stmt) × Into view n f e
  StepAt view n Forward f (moves.Exit x) = Out view f x
  StepAt view n Forward f (moves.Mark l) = Leaks view n.stmt f l
  StepAt view n Backward f (moves.Go m g) = Sleeps f × Under k view f g × ((m ≡ before n.stmt) ⊎ Behind code n.stmt g m)
  StepAt view n Backward f (moves.Call at e) = (at ≡ n.stmt) × Sleeps f × Into view n f e
  StepAt view n Backward f (moves.Exit x) = ⊥
  StepAt view n Backward f (moves.Mark l) = ⊥

  abbrev pub Step : Node → Fact → Move Fact Leak → Type 0
  Step n f m = (view : View) × Stands code n.stmt view × StepAt view n n.dir f m

  -- where a method may have ended with such a fact: at a throw or an open call with an exception, else at a return
  abbrev pub EndsAt : Fact → StmtId → Type 0
  EndsAt f s = (IsThrown f × MayThrow code s) ⊎ ((IsThrown f → ⊥) × IsReturn code s)

  -- forward a context starts at the first statement of its method, backward wherever the method may have ended
  abbrev pub StartIn : Dir → MethodId → Fact → Node → Type 0
  StartIn Forward m f n = (s : StmtId) × At code.firsts m.0 s × (n ≡ before s)
  StartIn Backward m f n = (s : StmtId) × StandsIn code s m × EndsAt f s × (n ≡ after s)

  abbrev pub Start : Context Fact → Node → Type 0
  Start e n = StartIn e.dir e.method e.fact n

  -- in the caller: an exception stands before the call anew, all else goes ahead and behind
  abbrev pub ComesBack : CallView → StmtId → Fact → Node → Fact → Type 0
  ComesBack call c x n g = (IsThrown x × (n ≡ before c) × (g ≡ x)) ⊎ (ReturnsAhead call x g × Ahead code c g n) ⊎ (ReturnsBehind call c x g × Behind code c g n)

  abbrev pub Back : StmtId → Fact → Move Fact Leak → Type 0
  Back c x (moves.Go n g) = (call : CallView) × IsOpenCall code c call × ComesBack call c x n g
  Back c x _ = ⊥

  -- entered at its root, forward, with zero
  abbrev pub machine : Machine Fact Leak
  machine = record {
    root = record { method = code.root; dir = Forward; fact = Zero };
    start = Start;
    step = Step;
    back = Back;
  }
