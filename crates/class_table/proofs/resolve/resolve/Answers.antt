use Rattle.std.proofs.Common.{◌<◌, length, refl, arith}
use Rattle.class_table.specs.Hierarchy.{class_names}
use Rattle.class_table.proofs.Searched.{answers_here, found_place, kept_here, read_answer}
use Rattle.class_table.proofs.resolve.resolve.Goals as goal

pub number-requires : goal.number-requires
number-requires c =
    let cs = c.args.classes.now in
    let place = c.in-Some.place in
    let test = c.if-len-number.false in
    let all = c.len.ensures in
    let long = c.args.links.now.headings.ok.0 in
    let count = c.requires.links.headings.count in
    let below : c.args.class.0 < length (class_names cs) = omega (arith, test, all, long, count) in
    let found = kept_here cs c.args.sig.now c.args.links.now c.requires.links c.args.class.0 below c.callable.result place c.in-Some.is c.callable.ensures in
    found_place cs c.requires.formed c.requires.table.names c.args.members.now c.requires.members c.args.sig.now c.args.class.0 _ found place refl

pub returns-in-Some : goal.returns-in-Some
returns-in-Some c =
    let cs = c.args.classes.now in
    let place = c.in-Some.place in
    let test = c.if-len-number.false in
    let all = c.len.ensures in
    let long = c.args.links.now.headings.ok.0 in
    let count = c.requires.links.headings.count in
    let below : c.args.class.0 < length (class_names cs) = omega (arith, test, all, long, count) in
    let found = kept_here cs c.args.sig.now c.args.links.now c.requires.links c.args.class.0 below c.callable.result place c.in-Some.is c.callable.ensures in
    answers_here cs c.requires.formed c.requires.table.names c.args.members.now c.requires.members c.args.sig.now c.args.class.0 below place found c.number.result c.number.ensures

pub returns : goal.returns
returns c n =
    let test = c.if-len-number.false in
    let all = c.len.ensures in
    let long = c.args.links.now.headings.ok.0 in
    let count = c.requires.links.headings.count in
    let same = c.in_ok-methods.ensures.count in
    read_answer c.in_ok-methods.methods.items c.args.class.0 c.index.result.now n (omega (arith, test, all, long, count, same)) c.index.ensures (c.in_ok-methods.ensures.exact c.args.class n)
