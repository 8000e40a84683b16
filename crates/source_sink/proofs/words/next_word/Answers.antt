use Rattle.std.proofs.Common.{◌≡◌, true, false, List, ℕ, length, take, drop, refl, sym, ap, ◌∙◌, subst}
use Rattle.list_lines.specs.Lines.{without_blanks_before, word_len}
use Rattle.source_sink.specs.Lists.{IsWord}
use Rattle.source_sink.proofs.Marked.{front_word, behind_word, next, no_blank_first, no_word}
use Rattle.source_sink.proofs.words.next_word.Goals as goal
use Rattle.source_sink.proofs.words.next_word.Goals.{then-from-text-via-then-from-text, then-from-text-via-else-from-text+then-not-is_word}

front : {from word : List ℕ} {len : ℕ} (text : List ℕ) → from ≡ without_blanks_before text → len ≡ word_len from → word ≡ take len from → word ≡ front_word text
front text is long e = rw (e, long, is) refl

back : {from rest : List ℕ} {len : ℕ} (text : List ℕ) → from ≡ without_blanks_before text → len ≡ word_len from → rest ≡ drop len from → rest ≡ behind_word text
back text is long e = rw (e, long, is) refl

pub returns-then-from-text-clause-none : goal.returns-then-from-text-clause-none
returns-then-from-text-clause-none c = elim c.then-from-text.branch [
  | then-from-text-via-then-from-text w ↦ no_blank_first c.args.text.now (let same = w.if-from-text.true in let from = c.without_blanks_before-from.ensures in cc)
  | then-from-text-via-else-from-text+then-not-is_word w ↦ no_word c.args.text.now (λ is.
      let found : true ≡ false = sym (w.is_word.ensures.1 (subst IsWord (sym (front c.args.text.now c.without_blanks_before-from.ensures c.word_len.ensures.value c.split_at.ensures.front)) is)) ∙ w.if-not-is_word.true in
      let bad : ⊥ = cc in bad)
]

pub returns-clause-some : goal.returns-clause-some
returns-clause-some c =
    let text = c.args.text.now in
    let from = c.without_blanks_before-from.ensures in
    let len = c.word_len.ensures.value in
    let one = front text from len c.split_at.ensures.front in
    let other = back text from len c.split_at.ensures.back in
    rw (one, other) (next text (λ same. c.if-from-text.false (ap (λ (xs : List ℕ). length xs) from ∙ same)) (subst IsWord one (c.is_word.ensures.0 c.if-not-is_word.false)))
