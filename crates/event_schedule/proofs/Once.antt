-- A line orders one thing at most, and one that is passed over nothing.
use Rattle.std.proofs.Common.{◌≡◌, ℕ, List, [], ◌∷◌, ◌++◌, length, codes, refl, sym, ap, ◌∙◌, subst, arith, append-nil, slice_index}
use Rattle.std.proofs.lemmas.List.{append_cancel_left}
use Rattle.jimple_tree.specs.declared.tree.Sig.{Sig}
use Rattle.list_lines.specs.Lines.{IsPassedOver}
use Rattle.list_lines.proofs.Giving.{GivesOnce}
use Rattle.source_sink.specs.Signature.{Spells}
use Rattle.source_sink.proofs.Exact.{one_sig}
use Rattle.source_sink.proofs.Whole.{sig_is_read}
use Rattle.event_schedule.specs.declared.order.Order.{Order}
use Rattle.event_schedule.specs.declared.order.Order.TheVariants.{Take, Commit, Back, Retire, Sweep}
use Rattle.event_schedule.specs.Schedules.{Behind, Gives, Sets, Writes}
use Rattle.event_schedule.proofs.Numbers.{sets_once, writes_once}

spells_once : (text : List ℕ) (s t : Sig) → Spells s text → Spells t text → s ≡ t
spells_once text s t h k = one_sig text t [] (sig_is_read t text text [] k (sym (append-nil text))) s h

-- what means one thing by its text means one behind a word
once_behind : {X : Type 0} (word : List ℕ) (Means : List ℕ → X → Type 0) → ((text : List ℕ) (x y : X) → Means text x → Means text y → x ≡ y)
    → (line : List ℕ) (x y : X) → Behind word (λ text. Means text x) line → Behind word (λ text. Means text y) line → x ≡ y
once_behind {X} word Means once line x y g h =
    once g.text x y g.means (subst (λ (text : List ℕ). Means text y) (append_cancel_left word h.text g.text (sym h.is ∙ g.is)) h.means)

-- the letter that a line with this order begins with
abbrev letter : Order → ℕ
letter (Take worker place) = 116
letter (Commit worker) = 99
letter (Back worker) = 98
letter (Retire sig) = 114
letter Sweep = 115

begins : (line : List ℕ) (order : Order) → Gives line order → (rest : List ℕ) × (line ≡ letter order ∷ rest)
begins line (Take worker place) g = (codes "ake " ++ g.text, g.is)
begins line (Commit worker) g = (codes "ommit " ++ g.text, g.is)
begins line (Back worker) g = (codes "ack " ++ g.text, g.is)
begins line (Retire sig) g = (codes "etire " ++ g.text, g.is)
begins line Sweep g = (codes "weep", g)

same_letter : (line : List ℕ) (x y : Order) → Gives line x → Gives line y → letter x ≡ letter y
same_letter line x y g h =
    let e : letter x ∷ (begins line x g).0 ≡ letter y ∷ (begins line y h).0 = sym (begins line x g).1 ∙ (begins line y h).1 in
    ap (λ (text : List ℕ). slice_index text 0) e

same : (line : List ℕ) (x y : Order) → letter x ≡ letter y → Gives line x → Gives line y → x ≡ y
same line (Take worker place) (Take worker2 place2) e g h =
    let pair = once_behind {X = ℕ × ℕ} (codes "take ") (λ text p. Sets text p.0 p.1) (λ text p q s t. let e = sets_once text p.0 p.1 q.0 q.1 s t in ap (λ (n : ℕ). (n, p.1)) e.0 ∙ ap (λ (n : ℕ). (q.0, n)) e.1) line (worker, place) (worker2, place2) g h in
    ap (λ (p : ℕ × ℕ). Take p.0 p.1) pair
same line (Take worker place) (Commit worker2) e g h = absurd (omega (arith, e))
same line (Take worker place) (Back worker2) e g h = absurd (omega (arith, e))
same line (Take worker place) (Retire sig2) e g h = absurd (omega (arith, e))
same line (Take worker place) Sweep e g h = absurd (omega (arith, e))
same line (Commit worker) (Take worker2 place2) e g h = absurd (omega (arith, e))
same line (Commit worker) (Commit worker2) e g h = ap Commit (once_behind (codes "commit ") (Writes 32) (writes_once 32) line worker worker2 g h)
same line (Commit worker) (Back worker2) e g h = absurd (omega (arith, e))
same line (Commit worker) (Retire sig2) e g h = absurd (omega (arith, e))
same line (Commit worker) Sweep e g h = absurd (omega (arith, e))
same line (Back worker) (Take worker2 place2) e g h = absurd (omega (arith, e))
same line (Back worker) (Commit worker2) e g h = absurd (omega (arith, e))
same line (Back worker) (Back worker2) e g h = ap Back (once_behind (codes "back ") (Writes 32) (writes_once 32) line worker worker2 g h)
same line (Back worker) (Retire sig2) e g h = absurd (omega (arith, e))
same line (Back worker) Sweep e g h = absurd (omega (arith, e))
same line (Retire sig) (Take worker2 place2) e g h = absurd (omega (arith, e))
same line (Retire sig) (Commit worker2) e g h = absurd (omega (arith, e))
same line (Retire sig) (Back worker2) e g h = absurd (omega (arith, e))
same line (Retire sig) (Retire sig2) e g h = ap Retire (once_behind (codes "retire ") (λ text sig. Spells sig text) spells_once line sig sig2 g h)
same line (Retire sig) Sweep e g h = absurd (omega (arith, e))
same line Sweep (Take worker2 place2) e g h = absurd (omega (arith, e))
same line Sweep (Commit worker2) e g h = absurd (omega (arith, e))
same line Sweep (Back worker2) e g h = absurd (omega (arith, e))
same line Sweep (Retire sig2) e g h = absurd (omega (arith, e))
same line Sweep Sweep e g h = refl

one : (line : List ℕ) (x y : Order) → Gives line x → Gives line y → x ≡ y
one line x y g h = same line x y (same_letter line x y g h) g h

no_percent : (order : Order) → letter order ≡ 37 → ⊥
no_percent (Take worker place) e = omega (arith, e)
no_percent (Commit worker) e = omega (arith, e)
no_percent (Back worker) e = omega (arith, e)
no_percent (Retire sig) e = omega (arith, e)
no_percent Sweep e = omega (arith, e)

silent : (line : List ℕ) (order : Order) → IsPassedOver line → Gives line order → ⊥
silent line order passed g = by line passed (begins line order g).0 (begins line order g).1 where
  by : (line : List ℕ) → IsPassedOver line → (rest : List ℕ) → line ≡ letter order ∷ rest → ⊥
  by [] passed rest e = let long = ap length e in omega (arith, long)
  by (c ∷ cs) passed rest e = no_percent order (sym (ap (λ (text : List ℕ). slice_index text 0) e) ∙ passed)

pub gives_once : GivesOnce Gives
gives_once = record { one = one; silent = silent }
