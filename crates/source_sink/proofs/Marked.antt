-- Words: a text begins with one, or none does, and what stands behind a signature is marked in one way.
use Rattle.std.proofs.Common.{◌≡◌, ◌≢◌, ◌↔◌, ◌<◌, ℕ, zero, suc, Bool, true, false, not, List, [], ◌∷◌, ◌++◌, Contains, length, take, drop, refl, sym, ap, ◌∙◌, subst, arith, take-append-drop}
use Rattle.std.proofs.lemmas.List.{length-append, length-take-le, length-drop}
use Rattle.std.proofs.lemmas.List.Sums.{prefix_len-le-length}
use Rattle.std.proofs.Math.Seq.{take-append_seam, drop-append_seam}
use Rattle.std.specs.Prelude.{slice_index, slice_index_or, codes, Option, Some, None, IfNone}
use Rattle.std.specs.List.{prefix_len, list_all}
use Rattle.clean_base.specs.Exact.{both_true}
use Rattle.list_lines.specs.Lines.{is_blank, without_blanks_before, word_len}
use Rattle.source_sink.specs.Lists.{is_word_byte, IsWord, Begins, AreWords, IsMark, IsMarked, arrow}
use Rattle.source_sink.specs.ReadingLists.{IsNext, HasNoWord, IsMarkAlone}
use Rattle.source_sink.proofs.Sound.{run_passes}
use Rattle.source_sink.proofs.Whole.{Stops, run_length}

-- One word

abbrev goes_on : ℕ → Bool
goes_on c = not (is_blank c)

abbrev pub front_word : List ℕ → List ℕ
front_word text = take (word_len (without_blanks_before text)) (without_blanks_before text)

abbrev pub behind_word : List ℕ → List ℕ
behind_word text = drop (word_len (without_blanks_before text)) (without_blanks_before text)

-- a byte of a word is no blank
no_blank : (c : ℕ) → is_word_byte c ≡ true → is_blank c ≡ false
no_blank c h = grind arith

all_go_on : (w : List ℕ) → list_all is_word_byte w ≡ true → list_all goes_on w ≡ true
all_go_on [] h = refl
all_go_on (c ∷ cs) h =
    let parts = both_true _ _ h in
    let here : is_blank c ≡ false = no_blank c parts.0 in
    let more = all_go_on cs parts.1 in
    rw (here, more) refl

word_stops : (w behind : List ℕ) → IsWord w → Stops is_blank (w ++ behind)
word_stops [] behind h = absurd (omega (arith, h.some))
word_stops (c ∷ cs) behind h = no_blank c (both_true _ _ h.each).0

blank_first : (bs text : List ℕ) → 0 < length bs → list_all is_blank bs ≡ true → Stops goes_on (bs ++ text)
blank_first [] text some h = absurd (omega (arith, some))
blank_first (b ∷ bs) text some h = let first : is_blank b ≡ true = (both_true _ _ h).0 in rw first refl

words_stop : (ws : List (List ℕ)) (text : List ℕ) → AreWords ws text → Stops goes_on text
words_stop [] text h = subst (Stops goes_on) (sym h) tt
words_stop (w ∷ ws) text (more, b, are) = subst (Stops goes_on) (sym b.is) (blank_first b.blanks (w ++ more) b.some b.blank)

-- what is found where a text begins with a word
record Found (text w behind : List ℕ) : Type 0 where
  blanks : 0 < prefix_len is_blank text
  word : front_word text ≡ w
  rest : behind_word text ≡ behind

found : (text w behind : List ℕ) (ws : List (List ℕ)) → Begins w text behind → AreWords ws behind → Found text w behind
found text w behind ws b are = record {
  blanks = let some = b.some in omega (arith, count, some);
  word = ap (λ (xs : List ℕ). take (word_len xs) xs) from ∙ ap (λ (n : ℕ). take n (w ++ behind)) long ∙ take-append_seam w behind;
  rest = ap (λ (xs : List ℕ). drop (word_len xs) xs) from ∙ ap (λ (n : ℕ). drop n (w ++ behind)) long ∙ drop-append_seam w behind;
} where
  count : prefix_len is_blank text ≡ length b.blanks
  count = ap (prefix_len is_blank) b.is ∙ run_length is_blank b.blanks (w ++ behind) b.blank (word_stops w behind b.is_word)

  from : without_blanks_before text ≡ w ++ behind
  from = ap (λ (n : ℕ). drop n text) count ∙ ap (drop (length b.blanks)) b.is ∙ drop-append_seam b.blanks (w ++ behind)

  long : word_len (w ++ behind) ≡ length w
  long = run_length goes_on w behind (all_go_on w b.is_word.each) (words_stop ws behind are)

shorter : (text : List ℕ) → length (without_blanks_before text) ≢ length text → 0 < prefix_len is_blank text
shorter text apart = let n = length-drop (prefix_len is_blank text) text in omega (arith, n, apart)

pub next : (text : List ℕ) → length (without_blanks_before text) ≢ length text → IsWord (front_word text) → IsNext (front_word text) text (behind_word text)
next text apart is_word = record {
  begins = record {
    blanks = take (prefix_len is_blank text) text;
    some = let some = shorter text apart in let n = length-take-le (prefix_len is_blank text) text (prefix_len-le-length is_blank text) in omega (arith, some, n);
    blank = run_passes is_blank text;
    is_word = is_word;
    is = sym (take-append-drop (prefix_len is_blank text) text)
        ∙ ap (λ (xs : List ℕ). take (prefix_len is_blank text) text ++ xs) (sym (take-append-drop (word_len (without_blanks_before text)) (without_blanks_before text)));
  };
  only = λ other behind ws b are. let f = found text other behind ws b are in (sym f.word, sym f.rest);
}

pub no_blank_first : (text : List ℕ) → length (without_blanks_before text) ≡ length text → HasNoWord text
no_blank_first text same w behind ws b are =
    let some = (found text w behind ws b are).blanks in
    let le = prefix_len-le-length is_blank text in
    let n = length-drop (prefix_len is_blank text) text in
    omega (arith, n, same, some, le)

pub no_word : (text : List ℕ) → (IsWord (front_word text) → ⊥) → HasNoWord text
no_word text none w behind ws b are = none (subst IsWord (sym (found text w behind ws b are).word) b.is_word)

-- Marks

letter : (a b : List ℕ) (i : ℕ) → a ≡ b → slice_index a i ≡ slice_index b i
letter a b i e = ap (λ (w : List ℕ). slice_index w i) e

source_sink : (m : List ℕ) → m ≡ codes "_SOURCE_" → m ≡ codes "_SINK_" → ⊥
source_sink m h k = let e = letter (codes "_SOURCE_") (codes "_SINK_") 2 (sym h ∙ k) in omega (arith, e)

source_both : (m : List ℕ) → m ≡ codes "_SOURCE_" → m ≡ codes "_BOTH_" → ⊥
source_both m h k = let e = letter (codes "_SOURCE_") (codes "_BOTH_") 1 (sym h ∙ k) in omega (arith, e)

sink_both : (m : List ℕ) → m ≡ codes "_SINK_" → m ≡ codes "_BOTH_" → ⊥
sink_both m h k = let e = letter (codes "_SINK_") (codes "_BOTH_") 1 (sym h ∙ k) in omega (arith, e)

one_mark : (a b c d : Bool) (m : List ℕ) → IsMark a b m → IsMark c d m → (a ≡ c) × (b ≡ d)
one_mark false false c d m h k = absurd h
one_mark true false false false m h k = absurd k
one_mark true false true false m h k = (refl, refl)
one_mark true false false true m h k = absurd (source_sink m h k)
one_mark true false true true m h k = absurd (source_both m h k)
one_mark false true false false m h k = absurd k
one_mark false true true false m h k = absurd (source_sink m k h)
one_mark false true false true m h k = (refl, refl)
one_mark false true true true m h k = absurd (sink_both m h k)
one_mark true true false false m h k = absurd k
one_mark true true true false m h k = absurd (source_both m k h)
one_mark true true false true m h k = absurd (sink_both m k h)
one_mark true true true true m h k = (refl, refl)

no_words : (w : List ℕ) (ws : List (List ℕ)) (text : List ℕ) → AreWords (w ∷ ws) text → text ≡ [] → ⊥
no_words w ws text (more, b, are) e = let some = (found text w more ws b are).blanks in let n = ap (prefix_len is_blank) e in omega (arith, some, n)

words_once : (ws vs : List (List ℕ)) (text : List ℕ) → AreWords ws text → AreWords vs text → ws ≡ vs
words_once [] [] text h k = refl
words_once [] (v ∷ vs) text h k = absurd (no_words v vs text k h)
words_once (w ∷ ws) [] text h k = absurd (no_words w ws text h k)
words_once (w ∷ ws) (v ∷ vs) text (more, b, are) (then, c, also) =
    let f = found text w more ws b are in
    let g = found text v then vs c also in
    let later = words_once ws vs more are (subst (AreWords vs) (sym g.rest ∙ f.rest) also) in
    ap (λ (x : List ℕ). x ∷ ws) (sym f.word ∙ g.word) ∙ ap (λ (xs : List (List ℕ)). v ∷ xs) later

too_long : (p m n : List ℕ) (ps : List (List ℕ)) → arrow ∷ m ∷ [] ≡ p ∷ (ps ++ arrow ∷ n ∷ []) → ⊥
too_long p m n ps e = let l = ap length e in let k = length-append ps (arrow ∷ n ∷ []) in omega (arith, l, k)

last_once : (ps qs : List (List ℕ)) (m n : List ℕ) → ps ++ arrow ∷ m ∷ [] ≡ qs ++ arrow ∷ n ∷ [] → m ≡ n
last_once [] [] m n e = let f : arrow ∷ m ∷ [] ≡ arrow ∷ n ∷ [] = e in cc
last_once [] (q ∷ qs) m n e = absurd (too_long q m n qs e)
last_once (p ∷ ps) [] m n e = absurd (too_long p n m ps (sym e))
last_once (p ∷ ps) (q ∷ qs) m n e = last_once ps qs m n (let f : p ∷ (ps ++ arrow ∷ m ∷ []) ≡ q ∷ (qs ++ arrow ∷ n ∷ []) = e in cc)

pub marked_once : (text : List ℕ) (a b c d : Bool) → IsMarked a b text → IsMarked c d text → (a ≡ c) × (b ≡ d)
marked_once text a b c d h k =
    let words = words_once (h.permissions ++ arrow ∷ h.mark ∷ []) (k.permissions ++ arrow ∷ k.mark ∷ []) text h.words k.words in
    one_mark a b c d k.mark (subst (IsMark a b) (last_once h.permissions k.permissions h.mark k.mark words) h.says) k.says

pub none_then : {X : Type 0} (found : Option X) {P Q : Type 0} → IfNone found P → (P → Q) → IfNone found Q
none_then None h f = f h
none_then (Some x) h f = tt

-- A mark alone

pub no_mark_alone : (text : List ℕ) → HasNoWord text → (a b : Bool) → IsMarkAlone a b text → ⊥
no_mark_alone text none a b h = none h.mark h.words.0 [] h.words.1 h.words.2

pub more_behind : (text w behind : List ℕ) → IsNext w text behind → (behind ≡ [] → ⊥) → (a b : Bool) → IsMarkAlone a b text → ⊥
more_behind text w behind is some a b h = some (sym (is.only h.mark h.words.0 [] h.words.1 h.words.2).1 ∙ h.words.2)

pub other_word : (text w behind : List ℕ) → IsNext w text behind → ((a b : Bool) → IsMark a b w → ⊥) → (a b : Bool) → IsMarkAlone a b text → ⊥
other_word text w behind is none a b h = none a b (subst (IsMark a b) (is.only h.mark h.words.0 [] h.words.1 h.words.2).0 h.says)

-- Behind a signature

pub alone_is_marked : (text behind : List ℕ) → IsNext arrow text behind → (a b : Bool) → IsMarkAlone a b behind → IsMarked a b text
alone_is_marked text behind is a b h = record {
  permissions = [];
  mark = h.mark;
  words = (behind, is.begins, h.words);
  none_is_arrow = λ c. let below = c.1 in absurd (omega (arith, below));
  says = h.says;
}

first_is : {X : Type 0} (x : X) (xs : List X) → Contains (x ∷ xs) x
first_is x xs = (0, omega arith, refl)

pub marked_is_alone : (text behind : List ℕ) → IsNext arrow text behind → (a b : Bool) → IsMarked a b text → IsMarkAlone a b behind
marked_is_alone text behind is a b h = by h.permissions h.none_is_arrow h.words where
  by : (ps : List (List ℕ)) → (Contains ps arrow → ⊥) → AreWords (ps ++ arrow ∷ h.mark ∷ []) text → IsMarkAlone a b behind
  by [] none (more, begins, are) = record { mark = h.mark; words = subst (AreWords (h.mark ∷ [])) (is.only arrow more (h.mark ∷ []) begins are).1 are; says = h.says }
  by (p ∷ ps) none (more, begins, are) =
      absurd (none (subst (λ (w : List ℕ). Contains (w ∷ ps) arrow) (sym (is.only p more (ps ++ arrow ∷ h.mark ∷ []) begins are).0) (first_is arrow ps)))

-- a word in front is a permission, where it is no arrow
pub permitted : (text behind w : List ℕ) → IsNext w text behind → (w ≡ arrow → ⊥) → (a b : Bool) → IsMarked a b behind ↔ IsMarked a b text
permitted text behind w is apart a b = (there, back) where
  there : IsMarked a b behind → IsMarked a b text
  there h = record {
    permissions = w ∷ h.permissions;
    mark = h.mark;
    words = (behind, is.begins, h.words);
    none_is_arrow = λ c. none h.permissions h.none_is_arrow c.0 c.1 c.2;
    says = h.says;
  } where
    none : (ps : List (List ℕ)) → (Contains ps arrow → ⊥) → (i : ℕ) → i < length (w ∷ ps) → slice_index_or (w ∷ ps) i arrow ≡ arrow → ⊥
    none ps lacks zero below is = apart is
    none ps lacks (suc i) below is = lacks (i, omega (arith, below), is)

  back : IsMarked a b text → IsMarked a b behind
  back h = by h.permissions h.none_is_arrow h.words where
    by : (ps : List (List ℕ)) → (Contains ps arrow → ⊥) → AreWords (ps ++ arrow ∷ h.mark ∷ []) text → IsMarked a b behind
    by [] none (more, begins, are) = absurd (apart (sym (is.only arrow more (h.mark ∷ []) begins are).0))
    by (p ∷ ps) none (more, begins, are) = record {
      permissions = ps;
      mark = h.mark;
      words = subst (AreWords (ps ++ arrow ∷ h.mark ∷ [])) (is.only p more (ps ++ arrow ∷ h.mark ∷ []) begins are).1 are;
      none_is_arrow = λ c. none (suc c.0, (let l = c.1 in omega (arith, l)), c.2);
      says = h.says;
    }

pub unmarked : (text : List ℕ) → HasNoWord text → (a b : Bool) → IsMarked a b text → ⊥
unmarked text none a b h = by h.permissions h.words where
  by : (ps : List (List ℕ)) → AreWords (ps ++ arrow ∷ h.mark ∷ []) text → ⊥
  by [] (more, begins, are) = none arrow more (h.mark ∷ []) begins are
  by (p ∷ ps) (more, begins, are) = none p more (ps ++ arrow ∷ h.mark ∷ []) begins are
