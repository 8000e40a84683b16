-- A line gives one entry at most, and lines are a list or have one first fault.
use Rattle.std.proofs.Common.{◌≡◌, ◌+◌, ℕ, suc, Bool, List, [], ◌∷◌, ◌++◌, length, Some, refl, sym, ap, ◌∙◌, subst, inl, inr, arith}
use Rattle.std.specs.Prelude.{slice_index}
use Rattle.clean_base.specs.declared.fault.InputFault.{InputFault}
use Rattle.list_lines.specs.Lines.{IsPassedOver, list_lines}
use Rattle.list_lines.specs.Lists.{Give}
use Rattle.list_lines.proofs.Giving.{GivesOnce, give_none, give_more, give_once, split}
use Rattle.list_lines.proofs.Faults.{IsSettled, ReadTo, is_fault, no_list}
use Rattle.list_lines.proofs.Faults as faults
use Rattle.jimple_tree.specs.declared.tree.Sig.{Sig}
use Rattle.source_sink.specs.declared.cursor.Miss.{Miss}
use Rattle.source_sink.specs.declared.cursor.Miss.TheVariants.{Other, Memory}
use Rattle.source_sink.specs.declared.line.Line.{Line}
use Rattle.source_sink.specs.Signature.{sig_text}
use Rattle.source_sink.specs.Reading.{Misses, read_sig}
use Rattle.source_sink.specs.Lists.{IsMarked, Gives, IsList, IsBad, IsFirstFault, Refused}
use Rattle.source_sink.specs.ReadingLists.{GivesNothing, Adds, RefusesLine, stop_of}
use Rattle.source_sink.proofs.Exact.{front_read, one_front, no_front}
use Rattle.source_sink.proofs.Whole.{sig_is_read}
use Rattle.source_sink.proofs.Marked.{marked_once}

-- One line

abbrev make : Sig → Bool → Bool → Line
make sig source sink = record { sig = sig; source = source; sink = sink }

one : (line : List ℕ) (l m : Line) → Gives line l → Gives line m → l ≡ m
one line l m g h =
    let same = one_front line l.sig g.behind (sig_is_read l.sig line g.signature g.behind g.spells g.is) m.sig h.signature h.behind h.spells h.is in
    let marks = marked_once g.behind l.source l.sink m.source m.sink g.marked (subst (IsMarked m.source m.sink) same.1 h.marked) in
    ap (λ (s : Sig). make s l.source l.sink) (sym same.0) ∙ ap (λ (b : Bool). make m.sig b l.sink) marks.0 ∙ ap (make m.sig m.source) marks.1

-- a signature begins with its sign
silent : (line : List ℕ) (l : Line) → IsPassedOver line → Gives line l → ⊥
silent line l passed g = by line passed (ap length begins) (ap (λ (w : List ℕ). slice_index w 0) begins) where
  begins : line ≡ sig_text g.spells.colon g.spells.result g.spells.commas l.sig ++ g.behind
  begins = g.is ∙ ap (λ (xs : List ℕ). xs ++ g.behind) g.spells.is

  by : {n : ℕ} (line : List ℕ) → IsPassedOver line → length line ≡ suc n → slice_index line 0 ≡ 60 → ⊥
  by [] passed long first = omega (arith, long)
  by (c ∷ cs) passed long first = omega (arith, passed, first)

gives_once : GivesOnce Gives
gives_once = record { one = one; silent = silent }

pub gives : (line : List ℕ) (sig : Sig) (left : List ℕ) (source sink : Bool) → read_sig line ≡ Some (sig, left) → IsMarked source sink left → Gives line (make sig source sink)
gives line sig left source sink e marked =
    let h = front_read line sig left e in
    record { signature = h.front; behind = left; is = h.is; spells = h.spells; marked = marked }

pub unmarked : (line : List ℕ) (sig : Sig) (left : List ℕ) → read_sig line ≡ Some (sig, left) → ((source sink : Bool) → IsMarked source sink left → ⊥) → (l : Line) → Gives line l → ⊥
unmarked line sig left e none l g = none l.source l.sink (subst (IsMarked l.source l.sink) (one_front line sig left e l.sig g.signature g.behind g.spells g.is).1 g.marked)

pub missed : (miss : Miss) (line : List ℕ) → Misses miss (read_sig line) → GivesNothing miss line
missed Other line e = λ l g. no_front line e l.sig g.signature g.behind g.spells g.is
missed Memory line e = tt

pub refuses : (miss : Miss) (line : List ℕ) → (IsPassedOver line → ⊥) → GivesNothing miss line → RefusesLine line miss
refuses Other line something none = (something, none)
refuses Memory line something none = tt

-- Lines

pub settled : (file : ℕ) → IsSettled (Give Gives) (IsBad file)
settled file = record {
  one_list = give_once Gives gives_once;
  one_fault = λ number ls line f g h k. h.is ∙ sym k.is;
  apart = λ number before more line ls ms f give all bad. here more line ms bad (split Gives before (line ∷ more) ms all).back (split Gives before (line ∷ more) ms all).then;
} where
  here : {number : ℕ} {ls : List Line} {f : InputFault} (more : List (List ℕ)) (line : List ℕ) (ms : List Line) → IsBad file number ls line f → (back : List Line) → Give Gives (line ∷ more) back → ⊥
  here more line ms bad back (inl g) = bad.something g.0
  here more line ms bad back (inr g) = bad.strange g.0 g.2

more : (before : List (List ℕ)) (line : List ℕ) (ls ms : List Line) → Give Gives before ls → Adds line ls ms → Give Gives (before ++ line ∷ []) ms
more before line ls ms give (inl h) = subst (Give Gives (before ++ line ∷ [])) (sym h.1) (give_none Gives before line ls give h.0)
more before line ls ms give (inr h) = subst (Give Gives (before ++ line ∷ [])) (sym h.2) (give_more Gives before line ls h.0 give h.1)

pub one_more : (lines left : List (List ℕ)) (line : List ℕ) (ls ms : List Line) (number : ℕ) → ReadTo (Give Gives) lines (line ∷ left) ls number → Adds line ls ms
    → ReadTo (Give Gives) lines left ms (number + 1)
one_more lines left line ls ms number to adds = faults.one_more (Give Gives) lines left line ls ms number (λ before give. more before line ls ms give adds) to

pub refused : (file : ℕ) (bytes : List ℕ) (left : List (List ℕ)) (line : List ℕ) (ls : List Line) (number : ℕ) (miss : Miss)
    → ReadTo (Give Gives) (list_lines bytes) (line ∷ left) ls number → RefusesLine line miss → Refused file bytes (stop_of miss file (number + 1))
refused file bytes left line ls number Other to why =
    is_fault (Give Gives) (IsBad file) (settled file) (list_lines bytes) left line ls number _ to (record { something = why.0; strange = why.1; is = refl })
refused file bytes left line ls number Memory to why = tt

pub only : (bytes : List ℕ) (ls others : List Line) → IsList bytes ls → IsList bytes others → others ≡ ls
only bytes ls others are also = give_once Gives gives_once (list_lines bytes) others ls also are

pub faultless : (file : ℕ) (bytes : List ℕ) (ls : List Line) (fault : InputFault) → IsList bytes ls → IsFirstFault file (list_lines bytes) fault → ⊥
faultless file bytes ls fault are first = no_list (Give Gives) (IsBad file) (settled file) (list_lines bytes) fault ls first are
