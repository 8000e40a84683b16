-- All moves of a fact at a statement, from their parts.
use Rattle.std.proofs.Common.{◌≡◌, ◌↔◌, ℕ, inl, inr, refl, sym, ◌∙◌, ap, subst}
use Rattle.std.proofs.lemmas.List.{get_or_default}
use Rattle.clean_base.specs.declared.ids.StmtId.{StmtId}
use Rattle.ifds_model.specs.declared.node.Context.{Context}
use Rattle.ifds_model.specs.declared.node.Dir.{Dir}
use Rattle.ifds_model.specs.declared.node.Dir.TheVariants.{Forward, Backward}
use Rattle.ifds_model.specs.declared.node.Leak.{Leak}
use Rattle.ifds_model.specs.declared.node.Move.{Move}
use Rattle.ifds_model.specs.declared.node.Move.TheVariants.{Go, Call, Exit, Mark}
use Rattle.ifds_model.specs.declared.node.Node.{Node}
use Rattle.access_path.specs.declared.fact.Fact.{Fact}
use Rattle.access_path.specs.declared.view.CallView.{CallView}
use Rattle.access_path.specs.declared.view.View.{View}
use Rattle.access_path.specs.declared.view.View.TheVariants as views
use Rattle.flow_rules.specs.Backward.{Under}
use Rattle.flow_rules.specs.Border.{Passes, ReturnsAhead, ReturnsBehind}
use Rattle.flow_rules.specs.Code.{Code, Stands, IsTarget, IsOpenCall}
use Rattle.flow_rules.specs.Forward.{Over, Triggers, Leaks}
use Rattle.flow_rules.specs.Locals.{IsThrown, Sleeps}
use Rattle.flow_rules.specs.Machine.{before, after, Crosses, After, Asks, Out, StepAt, Step, ComesBack}
use Rattle.flow_rules.proofs.Crossing.{crossed_is}
use Rattle.taint_problem.specs.Moves.{Each, AfterCrossed, AskedCrossed, HandedOver, Leaves, IsNear, Admits, GoesOn, CallsEach, Exits, Turns, Marks, ForwardMoves, BackwardMoves, ReturnMoves, Returns}

-- one view stands at a statement
one_view : (code : Code) (s : StmtId) (v w : View) → Stands code s v → Stands code s w → v ≡ w
one_view code s v w first second = sym first.1 ∙ get_or_default code.views s.0 v w first.0 ∙ second.1

-- What a fact that has crossed the statement makes

module _ (k : ℕ) (code : Code) (view : View) (s : StmtId) (f h : Fact) (crosses : Crosses code s f h) where
  pub after_crossed : (g : Fact) → After k code view s f g ↔ AfterCrossed k view s f h g
  after_crossed g =
      let over = crossed_is code s (Over k view s) f h crosses g in (
        (λ is. elim is [
          | inl plain ↦ inl (plain.0, over.0 plain.1)
          | inr past ↦ inr (past.0, past.1, elim (past.2) [ inl passes ↦ inl ((crossed_is code s (Passes past.0) f h crosses g).0 passes) | inr thrown ↦ inr thrown ])
        ]),
        (λ is. elim is [
          | inl plain ↦ inl (plain.0, over.1 plain.1)
          | inr past ↦ inr (past.0, past.1, elim (past.2) [ inl passes ↦ inl ((crossed_is code s (Passes past.0) f h crosses g).1 passes) | inr thrown ↦ inr thrown ])
        ]),
      )

  pub asks_crossed : (g : Fact) → Asks k code view s f g ↔ AskedCrossed k view s h g
  asks_crossed g =
      let asked = crossed_is code s (Triggers k view s) f h crosses g in
      ((λ is. (is.0, asked.0 is.1)), (λ is. (is.0, asked.1 is.1)))

-- The moves with the facts of a set, by their kind

abbrev to : Node → Fact → Move Fact Leak
to n g = Go n g

context_is : (e : Context Fact) (d : Dir) → e.dir ≡ d → e ≡ record { method = e.method; dir = d; fact = e.fact }
context_is e d is = ap (λ (x : Dir). let c : Context Fact = record { method = e.method; dir = x; fact = e.fact } in c) is

module _ (code : Code) (s : StmtId) (set : Fact → Type 0) where
  goes_is : (dir : Dir) (n : Node) (g : Fact)
      → Each set (GoesOn code dir s) (Go n g) ↔ (set g × ((q : StmtId) × IsNear code dir s q × (IsThrown g → Admits code dir q) × (n ≡ record { stmt = q; dir = dir })))
  goes_is dir n g = (
    (λ x.
        let same = x.2.2.1 in
        let fact : g ≡ x.0 = cc in
        let node : n ≡ record { stmt = x.2.0; dir = dir } = cc in
        (subst set (sym fact) x.1, (x.2.0, x.2.1, (λ thrown. x.2.2.0 (subst IsThrown fact thrown)), node))),
    (λ is. (g, is.0, (is.1.0, is.1.1, (is.1.2, ap (λ (o : Node). to o g) is.1.3)))),
  )

  calls_is : (dir : Dir) (at : StmtId) (e : Context Fact) → Each set (CallsEach code s dir) (Call at e) ↔ ((at ≡ s) × set e.fact × IsTarget code s e.method × (e.dir ≡ dir))
  calls_is dir at e = (
    (λ x.
        let is = x.2.2 in
        let place : at ≡ s = cc in
        let same : e ≡ record { method = x.2.0; dir = dir; fact = x.0 } = cc in (
          place,
          subst set (sym (ap (λ (c : Context Fact). c.fact) same)) x.1,
          subst (IsTarget code s) (sym (ap (λ (c : Context Fact). c.method) same)) x.2.1,
          ap (λ (c : Context Fact). c.dir) same,
        )),
    (λ is. (
      e.fact,
      is.1,
      (e.method, is.2, ap (λ (t : StmtId). let m : Move Fact Leak = Call t e in m) is.0 ∙ ap (λ (c : Context Fact). let m : Move Fact Leak = Call s c in m) (context_is e dir is.3)),
    )),
  )

  turns_is : (n : Node) (g : Fact) → Each set (Turns s) (Go n g) ↔ (set g × (n ≡ before s))
  turns_is n g = (
    (λ x. let same = x.2 in let fact : g ≡ x.0 = cc in let node : n ≡ before s = cc in (subst set (sym fact) x.1, node)),
    (λ is. (g, is.0, ap (λ (o : Node). to o g) is.1)),
  )

exits_is : (set : Fact → Type 0) (g : Fact) → Each set Exits (Exit g) ↔ set g
exits_is set g = (
  (λ x. let same = x.2 in let fact : g ≡ x.0 = cc in subst set (sym fact) x.1),
  (λ is. (g, is, refl)),
)

marks_is : (set : Leak → Type 0) (l : Leak) → Each set Marks (Mark l) ↔ set l
marks_is set l = (
  (λ x. let same = x.2 in let leak : l ≡ x.0 = cc in subst set (sym leak) x.1),
  (λ is. (l, is, refl)),
)

-- What leaves the method

out_is : (k : ℕ) (code : Code) (view : View) (f x : Fact) → Out k code view f x ↔ Leaves view f x
out_is k code (views.Copy to from) f x = ((λ e. e), (λ e. e))
out_is k code (views.Kill to) f x = ((λ e. e), (λ e. e))
out_is k code (views.Load to base field) f x = ((λ e. e), (λ e. e))
out_is k code (views.Store base field from) f x = ((λ e. e), (λ e. e))
out_is k code (views.StaticStore field from) f x = ((λ e. e), (λ e. e))
out_is k code (views.Mix to left right) f x = ((λ e. e), (λ e. e))
out_is k code (views.Call call) f x = ((λ e. e), (λ e. e))
out_is k code (views.Return value) f x = ((λ e. e), (λ e. e))
out_is k code (views.Throw value) f x = ((λ e. e), (λ e. e))
out_is k code views.Other f x = ((λ e. e), (λ e. e))

-- The parts of a step

module _ (k : ℕ) (code : Code) (view : View) (s : StmtId) (f : Fact) where
  forward_parts : (m : Move Fact Leak) → StepAt k code view (before s) Forward f m ↔ ForwardMoves k code view s f m
  forward_parts (Go n g) =
      let goes = goes_is code s (After k code view s f) Forward n g in
      let asks = goes_is code s (Asks k code view s f) Backward n g in (
        (λ step. inl (elim step [ inl on ↦ inl (goes.1 on) | inr back ↦ inr (asks.1 back) ])),
        (λ moves. elim moves [
          | inl stays ↦ elim stays [ inl on ↦ inl (goes.0 on) | inr back ↦ inr (asks.0 back) ]
          | inr leaves ↦ elim leaves [
            | inl calls ↦ absurd (let e = calls.2.2 in cc)
            | inr others ↦ elim others [ inl exits ↦ absurd (let e = exits.2 in cc) | inr marks ↦ absurd (let e = marks.2 in cc) ]
          ]
        ]),
      )
  forward_parts (Call at e) =
      let calls = calls_is code s (HandedOver view Forward f) Forward at e in (
        (λ step. let into = step.1 in inr (inl (calls.1 (step.0, (into.0, into.1, into.4), into.2, into.3)))),
        (λ moves. elim moves [
          | inl stays ↦ elim stays [ inl on ↦ absurd (let e = on.2.2.1 in cc) | inr back ↦ absurd (let e = back.2.2.1 in cc) ]
          | inr leaves ↦ elim leaves [
            | inl called ↦ let is = calls.0 called in (is.0, (is.1.0, is.1.1, is.2, is.3, is.1.2))
            | inr others ↦ elim others [ inl exits ↦ absurd (let e = exits.2 in cc) | inr marks ↦ absurd (let e = marks.2 in cc) ]
          ]
        ]),
      )
  forward_parts (Exit x) =
      let exits = exits_is (Leaves view f) x in
      let out = out_is k code view f x in (
        (λ step. inr (inr (inl (exits.1 (out.0 step))))),
        (λ moves. elim moves [
          | inl stays ↦ elim stays [ inl on ↦ absurd (let e = on.2.2.1 in cc) | inr back ↦ absurd (let e = back.2.2.1 in cc) ]
          | inr leaves ↦ elim leaves [
            | inl called ↦ absurd (let e = called.2.2 in cc)
            | inr others ↦ elim others [ inl exit ↦ out.1 (exits.0 exit) | inr marks ↦ absurd (let e = marks.2 in cc) ]
          ]
        ]),
      )
  forward_parts (Mark l) =
      let marks = marks_is (Leaks view s f) l in (
        (λ step. inr (inr (inr (marks.1 step)))),
        (λ moves. elim moves [
          | inl stays ↦ elim stays [ inl on ↦ absurd (let e = on.2.2.1 in cc) | inr back ↦ absurd (let e = back.2.2.1 in cc) ]
          | inr leaves ↦ elim leaves [
            | inl called ↦ absurd (let e = called.2.2 in cc)
            | inr others ↦ elim others [ inl exits ↦ absurd (let e = exits.2 in cc) | inr mark ↦ marks.0 mark ]
          ]
        ]),
      )

  backward_parts : Sleeps f → (m : Move Fact Leak) → StepAt k code view (after s) Backward f m ↔ BackwardMoves k code view s f m
  backward_parts sleeps (Go n g) =
      let turns = turns_is code s (Under k view f) n g in
      let goes = goes_is code s (Under k view f) Backward n g in (
        (λ step. elim (step.2) [ inl turn ↦ inl (turns.1 (step.1, turn)) | inr back ↦ inr (inl (goes.1 (step.1, back))) ]),
        (λ moves. elim moves [
          | inl turned ↦ let is = turns.0 turned in (sleeps, is.0, inl is.1)
          | inr others ↦ elim others [
            | inl back ↦ let is = goes.0 back in (sleeps, is.0, inr is.1)
            | inr calls ↦ absurd (let e = calls.2.2 in cc)
          ]
        ]),
      )
  backward_parts sleeps (Call at e) =
      let calls = calls_is code s (HandedOver view Backward f) Backward at e in (
        (λ step. let into = step.2 in inr (inr (calls.1 (step.0, (into.0, into.1, into.4), into.2, into.3)))),
        (λ moves. elim moves [
          | inl turned ↦ absurd (let e = turned.2 in cc)
          | inr others ↦ elim others [
            | inl back ↦ absurd (let e = back.2.2.1 in cc)
            | inr called ↦ let is = calls.0 called in (is.0, sleeps, (is.1.0, is.1.1, is.2, is.3, is.1.2))
          ]
        ]),
      )
  backward_parts sleeps (Exit x) = (
    (λ step. absurd step),
    (λ moves. elim moves [
      | inl turned ↦ absurd (let e = turned.2 in cc)
      | inr others ↦ elim others [ inl back ↦ absurd (let e = back.2.2.1 in cc) | inr calls ↦ absurd (let e = calls.2.2 in cc) ]
    ]),
  )
  backward_parts sleeps (Mark l) = (
    (λ step. absurd step),
    (λ moves. elim moves [
      | inl turned ↦ absurd (let e = turned.2 in cc)
      | inr others ↦ elim others [ inl back ↦ absurd (let e = back.2.2.1 in cc) | inr calls ↦ absurd (let e = calls.2.2 in cc) ]
    ]),
  )

  -- from the statement that stands there
  step_here : (n : Node) → Stands code n.stmt view → (m : Move Fact Leak) → Step k code n f m ↔ StepAt k code view n n.dir f m
  step_here n here m = (
    (λ step. subst (λ (v : View). StepAt k code v n n.dir f m) (one_view code n.stmt step.0 view step.1 here) step.2),
    (λ step. (view, here, step)),
  )

  pub forward_splits : Stands code s view → (m : Move Fact Leak) → Step k code (before s) f m ↔ ForwardMoves k code view s f m
  forward_splits here m =
      let whole = step_here (before s) here m in
      let parts = forward_parts m in
      ((λ step. parts.0 (whole.0 step)), (λ moves. whole.1 (parts.1 moves)))

  pub backward_splits : Stands code s view → Sleeps f → (m : Move Fact Leak) → Step k code (after s) f m ↔ BackwardMoves k code view s f m
  backward_splits here sleeps m =
      let whole = step_here (after s) here m in
      let parts = backward_parts sleeps m in
      ((λ step. parts.0 (whole.0 step)), (λ moves. whole.1 (parts.1 moves)))

-- The parts of a return

module _ (code : Code) (s : StmtId) (call : CallView) (x : Fact) where
  one_call : (c : CallView) → IsOpenCall code s c → IsOpenCall code s call → c ≡ call
  one_call c first second = let e = one_view code s (views.Call c) (views.Call call) first.0 second.0 in cc

  pub return_splits : IsOpenCall code s call → (m : Move Fact Leak) → Returns code s x m ↔ ReturnMoves code call s x m
  return_splits here (Go n g) =
      let turns = turns_is code s (λ h. IsThrown x × (h ≡ x)) n g in
      let ahead = goes_is code s (ReturnsAhead call x) Forward n g in
      let behind = goes_is code s (ReturnsBehind call s x) Backward n g in (
        (λ back. elim (subst (λ (c : CallView). ComesBack 0 code c s x n g) (one_call back.0 back.1 here) back.2) [
          | inl thrown ↦ inl (turns.1 ((thrown.0, thrown.2), thrown.1))
          | inr others ↦ elim others [ inl on ↦ inr (inl (ahead.1 on)) | inr back_ ↦ inr (inr (behind.1 back_)) ]
        ]),
        (λ moves. (
          call,
          here,
          elim moves [
            | inl turned ↦ let is = turns.0 turned in inl (is.0.0, is.1, is.0.1)
            | inr others ↦ elim others [ inl on ↦ inr (inl (ahead.0 on)) | inr back ↦ inr (inr (behind.0 back)) ]
          ],
        )),
      )
  return_splits here (Call at e) = (
    (λ back. absurd back),
    (λ moves. elim moves [
      | inl turned ↦ absurd (let i = turned.2 in cc)
      | inr others ↦ elim others [ inl on ↦ absurd (let i = on.2.2.1 in cc) | inr back ↦ absurd (let i = back.2.2.1 in cc) ]
    ]),
  )
  return_splits here (Exit y) = (
    (λ back. absurd back),
    (λ moves. elim moves [
      | inl turned ↦ absurd (let i = turned.2 in cc)
      | inr others ↦ elim others [ inl on ↦ absurd (let i = on.2.2.1 in cc) | inr back ↦ absurd (let i = back.2.2.1 in cc) ]
    ]),
  )
  return_splits here (Mark l) = (
    (λ back. absurd back),
    (λ moves. elim moves [
      | inl turned ↦ absurd (let i = turned.2 in cc)
      | inr others ↦ elim others [ inl on ↦ absurd (let i = on.2.2.1 in cc) | inr back ↦ absurd (let i = back.2.2.1 in cc) ]
    ]),
  )
