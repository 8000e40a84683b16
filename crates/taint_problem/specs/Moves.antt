-- The moves of a fact at a statement in parts: sets of facts, and what each fact of a set does.
use Rattle.std.specs.Prelude.{◌≡◌, ◌⊎◌, ℕ, List, Contains, true}
use Rattle.clean_base.specs.declared.ids.MethodId.{MethodId}
use Rattle.clean_base.specs.declared.ids.StmtId.{StmtId}
use Rattle.ifds_model.specs.declared.node.Dir.{Dir}
use Rattle.ifds_model.specs.declared.node.Dir.TheVariants.{Forward, Backward}
use Rattle.ifds_model.specs.declared.node.Leak.{Leak}
use Rattle.ifds_model.specs.declared.node.Move.{Move}
use Rattle.ifds_model.specs.declared.node.Move.TheVariants as moves
use Rattle.ifds_model.specs.declared.node.Node.{Node}
use Rattle.access_path.specs.declared.fact.Fact.{Fact}
use Rattle.access_path.specs.declared.view.CallView.{CallView}
use Rattle.access_path.specs.declared.view.View.{View}
use Rattle.access_path.specs.declared.view.View.TheVariants.{Call, Return, Throw}
use Rattle.flow_rules.specs.Backward.{Under}
use Rattle.flow_rules.specs.Border as border
use Rattle.flow_rules.specs.Code.{Code, StandsIn, Follows, IsTarget, Leads, IsCatch, MayThrow}
use Rattle.flow_rules.specs.Forward.{Over, Triggers, Leaks}
use Rattle.flow_rules.specs.Locals.{IsThrown}
use Rattle.flow_rules.specs.Machine.{IsOpen, IsPlain, before, After, Asks, EndsAt, StartIn, Back}

-- what some member of the set makes
abbrev pub Each : {X M : Type 0} → (X → Type 0) → (X → M → Type 0) → M → Type 0
Each {X} set makes m = (x : X) × set x × makes x m

-- Sets of facts

-- what holds after the statement, where the first fact has crossed it as the second
abbrev pub AfterCrossed : ℕ → View → StmtId → Fact → Fact → Fact → Type 0
AfterCrossed k view s f h g = (IsPlain view × Over k view s h g)
    ⊎ ((call : CallView) × IsOpen view call × (border.Passes call h g ⊎ (IsThrown f × (g ≡ f))))

-- the aliases that it asks for
abbrev pub AskedCrossed : ℕ → View → StmtId → Fact → Fact → Type 0
AskedCrossed k view s h g = IsPlain view × Triggers k view s h g

-- what an open call hands over
abbrev pub HandedOver : View → Dir → Fact → Fact → Type 0
HandedOver view dir f g = (call : CallView) × IsOpen view call × border.Enters call dir f g

-- what leaves the method
abbrev pub Leaves : View → Fact → Fact → Type 0
Leaves (Return value) f x = border.Exits value f x
Leaves (Throw value) f x = border.Throws value f x
Leaves (Call call) f x = (call.is_open ≡ true) × IsThrown f × (x ≡ f)
Leaves _ f x = ⊥

-- Moves of one fact

abbrev pub Enters : StmtId → Dir → Fact → MethodId → Move Fact Leak → Type 0
Enters s dir g t m = m ≡ moves.Call s (record { method = t; dir = dir; fact = g })

abbrev pub Exits : Fact → Move Fact Leak → Type 0
Exits g m = m ≡ moves.Exit g

abbrev pub Turns : StmtId → Fact → Move Fact Leak → Type 0
Turns s g m = m ≡ moves.Go (before s) g

abbrev pub Marks : Leak → Move Fact Leak → Type 0
Marks l m = m ≡ moves.Mark l

module _ (code : Code) where
  -- open calls lead to the method from one of these
  abbrev pub LeadsFrom : List MethodId → MethodId → Type 0
  LeadsFrom from n = (m : MethodId) × Contains from m × Leads code m n

  -- a statement may run in the methods that another calls
  abbrev pub RunsIn : StmtId → StmtId → Type 0
  RunsIn s at = (m : MethodId) × (n : MethodId) × IsTarget code s m × Leads code m n × StandsIn code at n

  -- the second statement is next to the first, on the way ahead or behind
  abbrev pub IsNear : Dir → StmtId → StmtId → Type 0
  IsNear Forward s q = Follows code s q
  IsNear Backward s p = Follows code p s

  -- an exception may come to it this way
  abbrev pub Admits : Dir → StmtId → Type 0
  Admits Forward q = IsCatch code q
  Admits Backward p = MayThrow code p

  -- to one statement
  abbrev pub GoesTo : Dir → Fact → StmtId → Move Fact Leak → Type 0
  GoesTo dir g q m = (IsThrown g → Admits dir q) × (m ≡ moves.Go (record { stmt = q; dir = dir }) g)

  -- to those next to this one
  abbrev pub GoesOn : Dir → StmtId → Fact → Move Fact Leak → Type 0
  GoesOn dir s g m = (q : StmtId) × IsNear dir s q × GoesTo dir g q m

  -- into each method that the statement calls
  abbrev pub CallsEach : StmtId → Dir → Fact → Move Fact Leak → Type 0
  CallsEach s dir g m = (t : MethodId) × IsTarget code s t × Enters s dir g t m

  -- Starts: how many fields a path keeps says nothing of them

  abbrev pub Ends : Fact → StmtId → Type 0
  Ends f s = EndsAt 0 code f s

  abbrev pub StartsIn : Dir → MethodId → Fact → Node → Type 0
  StartsIn dir m f n = StartIn 0 code dir m f n

  -- Moves of a caller, in parts

  abbrev pub ReturnMoves : CallView → StmtId → Fact → Move Fact Leak → Type 0
  ReturnMoves call s x m = Each (λ g. IsThrown x × (g ≡ x)) (Turns s) m
      ⊎ (Each (border.ReturnsAhead call x) (GoesOn Forward s) m ⊎ Each (border.ReturnsBehind call s x) (GoesOn Backward s) m)

  abbrev pub Returns : StmtId → Fact → Move Fact Leak → Type 0
  Returns s x m = Back 0 code s x m

-- Moves of a fact at a statement, in parts

-- inside the method
abbrev pub StaysIn : ℕ → Code → View → StmtId → Fact → Move Fact Leak → Type 0
StaysIn k code view s f m = Each (After k code view s f) (GoesOn code Forward s) m ⊎ Each (Asks k code view s f) (GoesOn code Backward s) m

-- into those that it calls, out of its own, and leaks
abbrev pub LeavesBy : Code → View → StmtId → Fact → Move Fact Leak → Type 0
LeavesBy code view s f m = Each (HandedOver view Forward f) (CallsEach code s Forward) m ⊎ (Each (Leaves view f) Exits m ⊎ Each (Leaks view s f) Marks m)

abbrev pub ForwardMoves : ℕ → Code → View → StmtId → Fact → Move Fact Leak → Type 0
ForwardMoves k code view s f m = StaysIn k code view s f m ⊎ LeavesBy code view s f m

-- of an inactive taint: what holds before the statement turns there, and is looked for further back
abbrev pub BackwardMoves : ℕ → Code → View → StmtId → Fact → Move Fact Leak → Type 0
BackwardMoves k code view s f m = Each (Under k view f) (Turns s) m
    ⊎ (Each (Under k view f) (GoesOn code Backward s) m ⊎ Each (HandedOver view Backward f) (CallsEach code s Backward) m)
