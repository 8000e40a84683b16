-- Each move of a whole program's machine keeps to the names of its method: at a node of the method, with a fact that names
-- only the program's own. Rules over one fact stand below, runs above.
use Rattle.std.proofs.Common.{◌≡◌, ◌≤◌, ℕ, inl, inr, sym, ◌∙◌, subst}
use Rattle.clean_base.specs.declared.ids.MethodId.{MethodId}
use Rattle.clean_base.specs.declared.ids.StmtId.{StmtId}
use Rattle.ifds_model.specs.declared.node.Context.{Context}
use Rattle.ifds_model.specs.declared.node.Dir.{Dir}
use Rattle.ifds_model.specs.declared.node.Dir.TheVariants.{Forward, Backward}
use Rattle.ifds_model.specs.declared.node.Move.TheVariants as moves
use Rattle.ifds_model.specs.declared.node.Node.{Node}
use Rattle.access_path.specs.declared.fact.Fact.{Fact}
use Rattle.access_path.specs.declared.fact.Fact.TheVariants.{Zero, Taint as Tainted}
use Rattle.access_path.specs.declared.view.CallView.{CallView}
use Rattle.access_path.specs.declared.view.View.{View}
use Rattle.access_path.specs.declared.view.View.TheVariants.{Copy, Kill, Load, Store, StaticStore, Mix, Call, Return, Throw, Other}
use Rattle.flow_rules.specs.Code.{Code, IsWhole, Follows, StandsIn}
use Rattle.flow_rules.specs.Locals.{IsThrown}
use Rattle.flow_rules.specs.Machine.{Ahead, After, Asks, Back, Behind, Into, Out, Past, Start, StartIn, Step, StepAt}
use Rattle.flow_rules.specs.Own.{IsNamed, IsStmt, OwnBase, OwnFact, OwnView}
use Rattle.flow_rules.proofs.Laws.{owner_at}
use Rattle.flow_rules.proofs.OwnPaths.{own_elsewhere}
use Rattle.flow_rules.proofs.OwnBorder.{own_enters, own_exits, own_passes, own_returns_ahead, own_returns_behind, own_throws}
use Rattle.flow_rules.proofs.Owning.{own_crosses, own_over, own_triggers, own_under}

module _ (k : ℕ) (code : Code) (some : 1 ≤ k) (whole : IsWhole code) (named : IsNamed code) where
  -- Nodes

  same_method : (s : StmtId) (m n : MethodId) → StandsIn code s m → StandsIn code s n → m ≡ n
  same_method s m n at also = sym (owner_at k code whole s m at) ∙ owner_at k code whole s n also

  follower_inside : (s q : StmtId) (m : MethodId) → StandsIn code s m → Follows code s q → StandsIn code q m
  follower_inside s q m at follows = let both = whole.inside s q follows in subst (StandsIn code q) (same_method s both.0 m both.1 at) both.2

  followed_inside : (p s : StmtId) (m : MethodId) → StandsIn code s m → Follows code p s → StandsIn code p m
  followed_inside p s m at follows = let both = whole.inside p s follows in subst (StandsIn code p) (same_method s both.0 m both.2 at) both.1

  stands_ahead : (s : StmtId) (m : MethodId) (g : Fact) (n : Node) → StandsIn code s m → Ahead code s g n → StandsIn code n.stmt m
  stands_ahead s m g n at ahead = subst (λ (o : Node). StandsIn code o.stmt m) (sym ahead.3) (follower_inside s ahead.0 m at ahead.1)

  stands_behind : (s : StmtId) (m : MethodId) (g : Fact) (n : Node) → StandsIn code s m → Behind code s g n → StandsIn code n.stmt m
  stands_behind s m g n at behind = subst (λ (o : Node). StandsIn code o.stmt m) (sym behind.3) (followed_inside behind.0 s m at behind.1)

  -- The facts of a move

  own_past : (call : CallView) (s : StmtId) (m : MethodId) (f g : Fact) → OwnFact code k m f → Past code call s f g → OwnFact code k m g
  own_past call s m f g own (inl passes) = own_passes k code call m passes.0 g (own_crosses k code some named.own_fields m s f passes.0 own passes.1) passes.2
  own_past call s m f g own (inr thrown) = subst (OwnFact code k m) (sym thrown.1) own

  own_after : (view : View) (s : StmtId) (m : MethodId) (f g : Fact) → OwnView code m view → IsStmt code s → OwnFact code k m f → After k code view s f g → OwnFact code k m g
  own_after view s m f g owns stmt own (inl plain) =
      let crossed = plain.1 in
      own_over k code some named.own_fields m view s crossed.0 g owns stmt (own_crosses k code some named.own_fields m s f crossed.0 own crossed.1) crossed.2
  own_after view s m f g owns stmt own (inr past) = own_past past.0 s m f g own past.2

  own_asks : (view : View) (s : StmtId) (m : MethodId) (f g : Fact) → OwnView code m view → IsStmt code s → OwnFact code k m f → Asks k code view s f g → OwnFact code k m g
  own_asks view s m f g owns stmt own asks =
      let crossed = asks.1 in
      own_triggers k code some named.own_fields m view s crossed.0 g owns stmt (own_crosses k code some named.own_fields m s f crossed.0 own crossed.1) crossed.2

  -- an exception has a name in every method
  own_thrown : (m n : MethodId) (f : Fact) → IsThrown f → OwnFact code k m f → OwnFact code k n f
  own_thrown m n Zero none own = absurd none
  own_thrown m n (Tainted t) thrown own = own_elsewhere k code m n t (subst (OwnBase code n) (sym thrown) tt) own

  own_out : (view : View) (m n : MethodId) (f x : Fact) → OwnFact code k m f → Out k code view f x → OwnFact code k n x
  own_out (Return value) m n f x own out = own_exits k code value m n f x own out
  own_out (Throw value) m n f x own out = own_throws k code value m n f x own out
  own_out (Call call) m n f x own out = subst (OwnFact code k n) (sym out.2) (own_thrown m n f out.1 own)
  own_out (Copy to from) m n f x own none = absurd none
  own_out (Kill to) m n f x own none = absurd none
  own_out (Load to base field) m n f x own none = absurd none
  own_out (Store base field from) m n f x own none = absurd none
  own_out (StaticStore field from) m n f x own none = absurd none
  own_out (Mix to left right) m n f x own none = absurd none
  own_out Other m n f x own none = absurd none

  own_into : (view : View) (n : Node) (m : MethodId) (f : Fact) (e : Context Fact) → OwnFact code k m f → Into k code view n f e → OwnFact code k e.method e.fact
  own_into view n m f e own into = own_enters k code into.0 n.dir m e.method f e.fact own into.4

  -- Moves

  own_goes_at : (view : View) (n : Node) (dir : Dir) (m : MethodId) (f g : Fact) (o : Node) → OwnView code m view → IsStmt code n.stmt → StandsIn code n.stmt m → OwnFact code k m f
      → StepAt k code view n dir f (moves.Go o g) → StandsIn code o.stmt m × OwnFact code k m g
  own_goes_at view n Forward m f g o owns stmt here own (inl ahead) = (stands_ahead n.stmt m g o here ahead.1, own_after view n.stmt m f g owns stmt own ahead.0)
  own_goes_at view n Forward m f g o owns stmt here own (inr behind) = (stands_behind n.stmt m g o here behind.1, own_asks view n.stmt m f g owns stmt own behind.0)
  own_goes_at view n Backward m f g o owns stmt here own step = (
    elim (step.2) [ inl turn ↦ subst (λ (p : Node). StandsIn code p.stmt m) (sym turn) here | inr behind ↦ stands_behind n.stmt m g o here behind ],
    own_under k code some named.own_fields m view f g owns own step.1,
  )

  -- to another node of the method
  pub own_goes : (n : Node) (m : MethodId) (f g : Fact) (o : Node) → StandsIn code n.stmt m → OwnFact code k m f → Step k code n f (moves.Go o g) → StandsIn code o.stmt m × OwnFact code k m g
  own_goes n m f g o here own step = own_goes_at step.0 n n.dir m f g o (named.views n.stmt m step.0 here step.1) step.1.0 here own step.2

  own_calls_at : (view : View) (n : Node) (dir : Dir) (m : MethodId) (f : Fact) (at : StmtId) (e : Context Fact) → OwnFact code k m f → StepAt k code view n dir f (moves.Call at e) → OwnFact code k e.method e.fact
  own_calls_at view n Forward m f at e own step = own_into view n m f e own step.1
  own_calls_at view n Backward m f at e own step = own_into view n m f e own step.2

  -- into a method
  pub own_calls : (n : Node) (m : MethodId) (f : Fact) (at : StmtId) (e : Context Fact) → OwnFact code k m f → Step k code n f (moves.Call at e) → OwnFact code k e.method e.fact
  own_calls n m f at e own step = own_calls_at step.0 n n.dir m f at e own step.2

  own_leaves_at : (view : View) (n : Node) (dir : Dir) (m o : MethodId) (f x : Fact) → OwnFact code k m f → StepAt k code view n dir f (moves.Exit x) → OwnFact code k o x
  own_leaves_at view n Forward m o f x own step = own_out view m o f x own step
  own_leaves_at view n Backward m o f x own none = absurd none

  -- out of the method, to whatever method called it
  pub own_leaves : (n : Node) (m o : MethodId) (f x : Fact) → OwnFact code k m f → Step k code n f (moves.Exit x) → OwnFact code k o x
  own_leaves n m o f x own step = own_leaves_at step.0 n n.dir m o f x own step.2

  -- back in the caller
  pub own_back : (c : StmtId) (m : MethodId) (x : Fact) (n : Node) (g : Fact) → StandsIn code c m → OwnFact code k m x → Back k code c x (moves.Go n g) → StandsIn code n.stmt m × OwnFact code k m g
  own_back c m x n g here own back_ =
      let owns : OwnView code m (Call back_.0) = named.views c m (Call back_.0) here back_.1.0 in
      elim (back_.2) [
        | inl thrown ↦ (subst (λ (o : Node). StandsIn code o.stmt m) (sym thrown.1) here, subst (OwnFact code k m) (sym thrown.2) own)
        | inr other ↦ elim other [
          | inl ahead ↦ (stands_ahead c m g n here ahead.1, own_returns_ahead k code back_.0 m m x g owns own ahead.0)
          | inr behind ↦ (stands_behind c m g n here behind.1, own_returns_behind k code back_.0 c m m x g owns back_.1.0.0 own behind.0)
        ]
      ]

  own_starts_at : (dir : Dir) (m : MethodId) (f : Fact) (n : Node) → StartIn k code dir m f n → StandsIn code n.stmt m
  own_starts_at Forward m f n start = subst (λ (o : Node). StandsIn code o.stmt m) (sym start.2) (whole.starts m start.0 start.1)
  own_starts_at Backward m f n start = subst (λ (o : Node). StandsIn code o.stmt m) (sym start.3) start.1

  -- at a start
  pub own_starts : (e : Context Fact) (n : Node) → Start k code e n → StandsIn code n.stmt e.method
  own_starts e n start = own_starts_at e.dir e.method e.fact n start
