use Rattle.std.proofs.Common.{◌<◌, ◌≡◌, length, arith, sym, ap, subst, ◌∙◌, append-nil}
use Rattle.std.proofs.Math.ListN.{get_or}
use Rattle.std.proofs.lemmas.Result.{err_from_is_err_and}
use Rattle.jimple_grammar.specs.declared.raw.RawItem.{RawItem}
use Rattle.jimple_names.specs.Scope.{labels_from}
use Rattle.jimple_names.specs.Faults.{in_turn, item_fault}
use Rattle.jimple_names.specs.Resolving.{seen}
use Rattle.jimple_names.specs.Walking.{front_of, numbered_fault, number_behind}
use Rattle.jimple_names.proofs.Stops.{named_stopped}
use Rattle.jimple_names.proofs.Walks.{front_number, rest_more, rest_stop, rest_number, number_few, stmts_more, item_given}
use Rattle.jimple_names.proofs.bodies.later_stmts.Goals as goal

pub loop-item-init : goal.loop-item-init
loop-item-init c =
    let r = c.args.resolver.now in
    let s = seen r.names.locals.now r.names.labels.now r.count in
    let front = front_of c.args.code.now in
    let is = ap length c.as_slice.ensures in
    record {
      number = is ∙ front_number r.bytes.now s c.args.code.now c.requires.labels ∙ ap (λ (zs : _). length (labels_from r.bytes.now 0 zs)) (sym (append-nil front));
      few = omega (arith, is);
      fault = ap (λ (zs : _). in_turn (item_fault r.bytes.now s) zs c.args.code.now.rest) (sym (append-nil front));
      stmts = sym (append-nil c.args.stmts.now.items);
    }

pub add_item-requires-clause-given : goal.add_item-requires-clause-given
add_item-requires-clause-given c = item_given c.args.resolver.now.bytes.now c.args.code.now c.requires.given c.as_slice-item-items.result.now c.loop-item.item-index c.item-item.result c.as_slice-item-items.ensures c.loop-item-test.true c.item-item.is

pub returns-in_err-number-clause-fault : goal.returns-in_err-number-clause-fault
returns-in_err-number-clause-fault c =
    let p = err_from_is_err_and c.from_residual.result c.from_residual.ensures.1 in
    let r = c.args.resolver.now in
    let s = seen r.names.locals.now r.names.labels.now r.count in
    let x : RawItem = c.item-item.result in
    let i = c.loop-item.item-index in
    let is = c.as_slice-item-items.ensures in
    let less : i < length c.args.code.now.rest = subst (λ (zs : _). i < length zs) is c.loop-item-test.true in
    let at : x ≡ get_or c.args.code.now.rest i x = subst (λ (zs : _). x ≡ get_or zs i x) is c.item-item.is in
    rw (p.1, p.2) (rest_stop r.bytes.now s c.args.code.now c.requires.labels i x less at c.loop-item.number c.loop-item.invariant.number (in_turn (item_fault r.bytes.now s) (front_of c.args.code.now) c.args.code.now.rest) c.loop-item.invariant.fault c.in_err-number.field-0.0
    (named_stopped (λ x. x) c.in_err-number.field-0.0 (number_behind c.loop-item.number x) (numbered_fault r.bytes.now s c.loop-item.number x) c.in_err-number.ensures.number))

pub loop-item-preserved : goal.loop-item-preserved
loop-item-preserved c =
    let r = c.args.resolver.now in
    let s = seen r.names.locals.now r.names.labels.now r.count in
    let x : RawItem = c.item-item.result in
    let i = c.loop-item.item-index in
    let is = c.as_slice-item-items.ensures in
    let less : i < length c.args.code.now.rest = subst (λ (zs : _). i < length zs) is c.loop-item-test.true in
    let at : x ≡ get_or c.args.code.now.rest i x = subst (λ (zs : _). x ≡ get_or zs i x) is c.item-item.is in
    let grown = c.in_ok-number.ensures.number.1 in
    record {
      number = grown ∙ rest_number r.bytes.now s c.args.code.now c.requires.labels i x less at c.loop-item.number c.loop-item.invariant.number;
      few = let old = c.loop-item.invariant.few in let one = number_few c.loop-item.number x in omega (arith, grown, old, one);
      fault = rest_more r.bytes.now s c.args.code.now c.requires.labels i x less at c.loop-item.number c.loop-item.invariant.number (in_turn (item_fault r.bytes.now s) (front_of c.args.code.now) c.args.code.now.rest) c.loop-item.invariant.fault c.in_ok-number.ensures.number.0;
      stmts = stmts_more r.bytes.now s c.args.code.now.rest i x less at c.args.stmts.now.items c.loop-item.stmts.items c.add_item.new.stmts.items c.loop-item.invariant.stmts c.in_ok-number.ensures.stmts;
    }
