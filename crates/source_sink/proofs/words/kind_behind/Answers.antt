use Rattle.std.proofs.Common.{◌≡◌, true, false, List, ℕ, sym, ◌∙◌, subst}
use Rattle.std.proofs.lemmas.Option.{IfSome_then}
use lib.Pointwise.{bytes_decides}
use Rattle.source_sink.specs.Lists.{arrow}
use Rattle.source_sink.specs.ReadingLists.{IsNext}
use Rattle.source_sink.proofs.Marked.{alone_is_marked, marked_is_alone, none_then, permitted, unmarked}
use Rattle.source_sink.proofs.words.kind_behind.Goals as goal

pub returns-then-eq-clause-some : goal.returns-then-eq-clause-some
returns-then-eq-clause-some c =
    let is_arrow : c.in-Some.word.now ≡ arrow = (bytes_decides c.in-Some.word.now c.as_slice.result.now).0 (sym c.if-eq.ensures) ∙ c.as_slice.ensures in
    let is = subst (λ (w : List ℕ). IsNext w c.words.left.now c.in-Some.rest.now) is_arrow c.in-Some.ensures.some in
    IfSome_then c.kind_alone.result c.kind_alone.ensures.some
    (λ kind alone. (c.words.invariant kind.source kind.sink).0 (alone_is_marked c.words.left.now c.in-Some.rest.now is kind.source kind.sink alone))

pub returns-then-eq-clause-none : goal.returns-then-eq-clause-none
returns-then-eq-clause-none c =
    let is_arrow : c.in-Some.word.now ≡ arrow = (bytes_decides c.in-Some.word.now c.as_slice.result.now).0 (sym c.if-eq.ensures) ∙ c.as_slice.ensures in
    let is = subst (λ (w : List ℕ). IsNext w c.words.left.now c.in-Some.rest.now) is_arrow c.in-Some.ensures.some in
    none_then c.kind_alone.result c.kind_alone.ensures.none
    (λ none source sink marked. none source sink (marked_is_alone c.words.left.now c.in-Some.rest.now is source sink ((c.words.invariant source sink).1 marked)))

pub words-preserved : goal.words-preserved
words-preserved c = λ source sink.
    let apart = λ (is : c.in-Some.word.now ≡ arrow).
    let same : true ≡ false = sym ((bytes_decides c.in-Some.word.now c.as_slice.result.now).1 (is ∙ sym c.as_slice.ensures)) ∙ sym c.if-eq.ensures in
    let bad : ⊥ = cc in bad in
    let both = permitted c.words.left.now c.in-Some.rest.now c.in-Some.word.now c.in-Some.ensures.some apart source sink in
    let before = c.words.invariant source sink in
    (λ h. before.0 (both.0 h), λ h. both.1 (before.1 h))

pub returns-clause-none : goal.returns-clause-none
returns-clause-none c = λ source sink marked. unmarked c.words.left.now c.in_default.ensures.none source sink ((c.words.invariant source sink).1 marked)
