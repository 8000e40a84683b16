-- A text spells what is read of it, and nothing else.
use Rattle.std.proofs.Common.{◌≡◌, ℕ, List, [], ◌++◌, Some, None, sym, ap, ◌∙◌, subst, append-nil}
use Rattle.jimple_tree.specs.declared.tree.Sig.{Sig}
use Rattle.source_sink.specs.Signature.{Spells}
use Rattle.source_sink.specs.Reading.{Read, read_sig}
use Rattle.source_sink.proofs.Steps.{reads_some}
use Rattle.source_sink.proofs.Sound.{IsSig, sig_read}
use Rattle.source_sink.proofs.Whole.{sig_is_read}

pub front_read : (text : List ℕ) (s : Sig) (left : List ℕ) → read_sig text ≡ Some (s, left) → IsSig text s left
front_read text s left e = reads_some (IsSig text) (read_sig text) (s, left) e (sig_read text)

pub read_is_spelled : (text : List ℕ) (found : Sig) → read_sig text ≡ Some (found, []) → Spells found text
read_is_spelled text found e = let h = front_read text found [] e in subst (Spells found) (sym (h.is ∙ append-nil h.front)) h.spells

one_read : (x y : Sig) (us vs : List ℕ) (r : Read Sig) → r ≡ Some (x, us) → r ≡ Some (y, vs) → (x ≡ y) × (us ≡ vs)
one_read x y us vs r d e =
    let same : (x, us) ≡ (y, vs) = cc in
    (ap (λ (p : Sig × List ℕ). p.0) same, ap (λ (p : Sig × List ℕ). p.1) same)

no_read : (x : Sig) (us : List ℕ) (r : Read Sig) → r ≡ Some (x, us) → r ≡ None → ⊥
no_read x us r d e = cc

-- a text begins with one signature
pub one_front : (text : List ℕ) (found : Sig) (left : List ℕ) → read_sig text ≡ Some (found, left)
    → (s : Sig) (front rest : List ℕ) → Spells s front → text ≡ front ++ rest → (s ≡ found) × (rest ≡ left)
one_front text found left e s front rest h is = one_read s found rest left (read_sig text) (sig_is_read s text front rest h is) e

pub no_front : (text : List ℕ) → read_sig text ≡ None → (s : Sig) (front rest : List ℕ) → Spells s front → text ≡ front ++ rest → ⊥
no_front text e s front rest h is = no_read s rest (read_sig text) (sig_is_read s text front rest h is) e

pub one_sig : (text : List ℕ) (found : Sig) (left : List ℕ) → read_sig text ≡ Some (found, left) → (s : Sig) → Spells s text → s ≡ found
one_sig text found left e s h = (one_front text found left e s text [] h (sym (append-nil text))).0

pub none_left : (text : List ℕ) (found : Sig) (left : List ℕ) → read_sig text ≡ Some (found, left) → (s : Sig) → Spells s text → left ≡ []
none_left text found left e s h = sym (one_front text found left e s text [] h (sym (append-nil text))).1

pub none_spelled : (text : List ℕ) → read_sig text ≡ None → (s : Sig) → Spells s text → ⊥
none_spelled text e s h = no_front text e s text [] h (sym (append-nil text))
