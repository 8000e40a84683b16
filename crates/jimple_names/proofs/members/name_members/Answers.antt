use Rattle.std.proofs.Common.{[]}
use Rattle.std.specs.HashSet.{contains}
use Rattle.std.proofs.lemmas.Result.{err_from_is_err_and}
use Rattle.jimple_grammar.specs.declared.raw.RawMember.{RawMember}
use Rattle.jimple_names.specs.declared.members.Members.{Members}
use Rattle.jimple_names.specs.Tree.{field_in, method_in}
use Rattle.jimple_names.specs.Faults.{in_turn, member_fault}
use Rattle.jimple_names.specs.Keys.{same_key, members_of}
use Rattle.jimple_names.proofs.Stops.{stopped_named}
use Rattle.jimple_names.proofs.OfMembers.{seen_more, name_stop, inner_stop, fault_more, kept_more}
use Rattle.jimple_names.proofs.members.name_members.Goals as goal

pub returns-in_err-add_key : goal.returns-in_err-add_key
returns-in_err-add_key c =
    let p = err_from_is_err_and c.from_residual-in_err-add_key.result c.from_residual-in_err-add_key.ensures.1 in
    let x : RawMember = c.member-item.result in
    let k = c.in_ok-key.key in
    let total = in_turn (member_fault c.args.bytes.now) [] c.args.raw.now in
    let e = c.in_err-add_key.field-0.0 in
    rw (p.1, p.2) (stopped_named (λ (m : Members). m) e (members_of c.args.bytes.now c.args.raw.now) total (name_stop c.args.bytes.now c.args.raw.now c.loop-member.member-index x c.loop-member-test.true c.member-item.is k c.in_ok-key.ensures.method c.in_ok-key.ensures.name c.in_ok-key.ensures.types
    c.head.result.now c.head.ensures (contains same_key c.loop-member.seen k) (c.loop-member.invariant.seen k) total c.loop-member.invariant.fault e c.in_err-add_key.ensures.fault))

pub returns-in_err-add_member : goal.returns-in_err-add_member
returns-in_err-add_member c =
    let p = err_from_is_err_and c.from_residual-in_err-add_member.result c.from_residual-in_err-add_member.ensures.1 in
    let x : RawMember = c.member-item.result in
    let k = c.in_ok-key.key in
    let total = in_turn (member_fault c.args.bytes.now) [] c.args.raw.now in
    let e = c.in_err-add_member.field-0.0 in
    rw (p.1, p.2) (stopped_named (λ (m : Members). m) e (members_of c.args.bytes.now c.args.raw.now) total (inner_stop c.args.bytes.now c.args.raw.now c.loop-member.member-index x c.loop-member-test.true c.member-item.is k c.in_ok-key.ensures.method c.in_ok-key.ensures.name c.in_ok-key.ensures.types
    c.head.result.now c.head.ensures (contains same_key c.loop-member.seen k) (c.loop-member.invariant.seen k) total c.loop-member.invariant.fault c.in_ok-add_key.ensures.fault e c.in_err-add_member.ensures.fault))

pub loop-member-preserved : goal.loop-member-preserved
loop-member-preserved c =
    let x : RawMember = c.member-item.result in
    let i = c.loop-member.member-index in
    let k = c.in_ok-key.key in
    let raw = c.args.raw.now in
    let bytes = c.args.bytes.now in
    let total = in_turn (member_fault bytes) [] raw in
    record {
      seen = λ q. seen_more bytes raw i x c.loop-member-test.true c.member-item.is k c.in_ok-key.ensures.method c.in_ok-key.ensures.name c.in_ok-key.ensures.types q (contains same_key c.loop-member.seen q) (contains same_key c.add_key.new.seen q) (c.loop-member.invariant.seen q) (c.in_ok-add_key.ensures.more q);
      fault = fault_more bytes raw i x c.loop-member-test.true c.member-item.is k c.in_ok-key.ensures.method c.in_ok-key.ensures.name c.in_ok-key.ensures.types
          c.head.result.now c.head.ensures (contains same_key c.loop-member.seen k) (c.loop-member.invariant.seen k) total c.loop-member.invariant.fault c.in_ok-add_key.ensures.fault c.in_ok-add_member.ensures.fault;
      fields = kept_more (field_in bytes) raw i x c.loop-member-test.true c.member-item.is c.loop-member.fields.items c.add_member.new.fields.items c.loop-member.invariant.fields c.in_ok-add_member.ensures.fields;
      methods = kept_more (method_in bytes) raw i x c.loop-member-test.true c.member-item.is c.loop-member.methods.items c.add_member.new.methods.items c.loop-member.invariant.methods c.in_ok-add_member.ensures.methods;
    }
