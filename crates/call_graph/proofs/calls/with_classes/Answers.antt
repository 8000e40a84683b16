use Rattle.std.proofs.Common.{◌<◌, ◌↔◌, ◌⊎◌, IsTrue, length, sym, ap, subst, arith}
use Rattle.source_sink.specs.declared.line.Kind.{Kind}
use Rattle.call_graph.proofs.Saying.{class_more, class_past, classes_all, marked_there, unmarked_there}
use Rattle.call_graph.proofs.calls.with_classes.Goals as goal
use Rattle.call_graph.proofs.calls.with_classes.Goals.{then-marks-number, else-marks-number}

pub loop-number-preserved : goal.loop-number-preserved
loop-number-preserved c =
    let cs = c.args.table.now in
    let lines = c.args.lists.now in
    let sig = c.args.sig.now in
    let marks = c.args.marks.now in
    let i = c.loop-number.number in
    let below : i < length marks = omega (arith, c.loop-number-test.true, c.classes-number-end.ensures, c.requires) in
    elim c.if-marks-number.branch [
      | then-marks-number w ↦ record {
        source = class_more cs lines sig _ _ _ _ _ marks i w.name-class.result.now (marked_there marks i _ below w.if-marks-number.true) w.name-class.ensures c.loop-number.invariant.source w.kind.ensures.source
            (subst (λ (k : Kind). IsTrue k.source ↔ (IsTrue c.loop-number.all.source ⊎ IsTrue w.kind.result.source)) (sym w.all-is) w.either-all.ensures.source);
        sink = class_more cs lines sig _ _ _ _ _ marks i w.name-class.result.now (marked_there marks i _ below w.if-marks-number.true) w.name-class.ensures c.loop-number.invariant.sink w.kind.ensures.sink
            (subst (λ (k : Kind). IsTrue k.sink ↔ (IsTrue c.loop-number.all.sink ⊎ IsTrue w.kind.result.sink)) (sym w.all-is) w.either-all.ensures.sink);
      }
      | else-marks-number w ↦ record {
        source = class_past cs lines sig _ _ _ _ marks i (unmarked_there marks i _ w.if-marks-number.false) (ap (λ (k : Kind). k.source) w.all-is) c.loop-number.invariant.source;
        sink = class_past cs lines sig _ _ _ _ marks i (unmarked_there marks i _ w.if-marks-number.false) (ap (λ (k : Kind). k.sink) w.all-is) c.loop-number.invariant.sink;
      }
    ]

pub returns-clause-source : goal.returns-clause-source
returns-clause-source c = classes_all c.args.table.now c.args.lists.now c.args.sig.now _ _ _ c.args.marks.now c.loop-number.number (omega (arith, c.loop-number-test.false, c.classes-number-end.ensures, c.requires)) c.loop-number.invariant.source

pub returns-clause-sink : goal.returns-clause-sink
returns-clause-sink c = classes_all c.args.table.now c.args.lists.now c.args.sig.now _ _ _ c.args.marks.now c.loop-number.number (omega (arith, c.loop-number-test.false, c.classes-number-end.ensures, c.requires)) c.loop-number.invariant.sink
