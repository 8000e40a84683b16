use Rattle.clean_top.proofs.Asked.{check_asked, graph_asked, main_asked, serial_asked, serial_fits, unasked}
use Rattle.clean_top.proofs.words.parse.Goals as goal

pub returns-in-Some-clause-some : goal.returns-in-Some-clause-some
returns-in-Some-clause-some c = rw c.check.ensures (check_asked c.args.words.now c.in-Some.classes (rw c.in-Some.is at c.in_ok-classes.ensures.some))

pub returns-in-Some-2-clause-some : goal.returns-in-Some-2-clause-some
returns-in-Some-2-clause-some c = rw c.in_ok-main.ensures (main_asked c.args.words.now c.in-Some-2.components (rw c.in-Some-2.is at c.in_ok-components.ensures.some))

pub returns-in-Some-3-clause-some : goal.returns-in-Some-3-clause-some
returns-in-Some-3-clause-some c =
    let named = c.in_ok-names.ensures in
    rw (named.names, named.start) (graph_asked c.args.words.now c.in-Some-3.input (rw c.in-Some-3.is at c.in_ok-input.ensures.some))

pub returns-in-Some-4-clause-some : goal.returns-in-Some-4-clause-some
returns-in-Some-4-clause-some c =
    let named = c.in_ok-names-2.ensures in
    rw (named.names, named.start) (serial_asked c.args.words.now c.in-Some-4.field-0 (rw c.in-Some-4.is at c.in_ok-input-2.ensures.some))

pub returns-in-Some-4-clause-fits : goal.returns-in-Some-4-clause-fits
returns-in-Some-4-clause-fits c =
    let named = c.in_ok-names-2.ensures in
    let only = rw c.in-Some-4.is at c.in_ok-input-2.ensures.some in
    rw (named.names, named.start) (serial_fits c.args.words.now c.in-Some-4.field-0 only.is)

pub returns-clause-none : goal.returns-clause-none
returns-clause-none c =
    unasked c.args.words.now (rw c.in_default.is at c.in_ok-classes.ensures.none) (rw c.in_default-2.is at c.in_ok-components.ensures.none)
    (rw c.in_default-3.is at c.in_ok-input.ensures.none) (rw c.in_default-4.is at c.in_ok-input-2.ensures.none)
