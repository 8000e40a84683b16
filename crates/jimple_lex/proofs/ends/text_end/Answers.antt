use Rattle.std.proofs.Common.{◌≡◌, ◌<◌, ◌+◌, suc, length, slice_index, sym, subst, arith, ℕ}
use Rattle.jimple_lex.proofs.Parts.{ends_none}
use Rattle.jimple_lex.proofs.Strings.{begun, no_end, line_ends, slash_ends, quote_ends, literal_on, escape_on}
use Rattle.jimple_lex.proofs.ends.text_end.Goals as goal
use Rattle.jimple_lex.proofs.ends.text_end.Goals.{then-to-bytes-via-then-to-bytes, then-to-bytes-via-else-to-bytes+then-bytes-to-eq10}

pub inside-init : goal.inside-init
inside-init c = begun c.args.bytes.now c.args.at c.requires.within

pub returns-then-c-eq34 : goal.returns-then-c-eq34
returns-then-c-eq34 c = quote_ends c.args.bytes.now c.args.at c.inside.to c.inside.invariant c.inside-test.true c.requires.within c.requires.quote c.if-c-eq34.true

pub returns-then-c-eq10 : goal.returns-then-c-eq10
returns-then-c-eq10 c = ends_none _ c.args.bytes.now c.args.at (omega arith) (line_ends c.args.bytes.now c.args.at c.inside.to c.inside.invariant c.inside-test.true c.if-c-eq10.true)

pub returns-then-to-bytes : goal.returns-then-to-bytes
returns-then-to-bytes c = ends_none _ c.args.bytes.now c.args.at (omega arith)
    (slash_ends c.args.bytes.now c.args.at c.inside.to c.inside.invariant c.inside-test.true c.if-c-eq92.true
    (λ below. let one : c.inside.to + 1 ≡ suc c.inside.to = omega arith in
    elim c.then-to-bytes.branch [
      | then-to-bytes-via-then-to-bytes w ↦ absurd (omega (arith, below, w.if-to-bytes.true))
      | then-to-bytes-via-else-to-bytes+then-bytes-to-eq10 w ↦ subst (λ (k : ℕ). slice_index c.args.bytes.now k ≡ 10) one w.if-bytes-to-eq10.true
    ]))

pub inside-preserved-then-c-eq92 : goal.inside-preserved-then-c-eq92
inside-preserved-then-c-eq92 c =
    let one : c.inside.to + 1 ≡ suc c.inside.to = omega arith in
    let next : suc c.inside.to < length c.args.bytes.now = omega (arith, c.if-to-bytes.false, c.inside-test.true) in
    escape_on c.args.bytes.now c.args.at c.inside.to c.inside.invariant c.inside-test.true c.if-c-eq92.true next
    (λ same. c.if-bytes-to-eq10.false (subst (λ (k : ℕ). slice_index c.args.bytes.now k ≡ 10) (sym one) same))

pub inside-preserved : goal.inside-preserved
inside-preserved c = literal_on c.args.bytes.now c.args.at c.inside.to c.inside.invariant c.inside-test.true c.if-c-eq34.false c.if-c-eq10.false c.if-c-eq92.false

pub returns : goal.returns
returns c = ends_none _ c.args.bytes.now c.args.at (omega arith) (no_end c.args.bytes.now c.args.at c.inside.to c.inside.invariant c.inside-test.false)
