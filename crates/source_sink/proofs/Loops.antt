-- The loop over the parameters behind the first.
use Rattle.std.proofs.Common.{◌≡◌, ◌<◌, ◌≤◌, ℕ, zero, suc, true, false, List, [], ◌∷◌, ◌++◌, length, Some, None, refl, sym, ap, ◌∙◌, arith, append_assoc, append-nil}
use Rattle.std.proofs.lemmas.List.{length-append}
use Rattle.jimple_tree.specs.declared.tree.JType.{JType}
use Rattle.jimple_tree.specs.Printed.{type_text}
use Rattle.source_sink.specs.Signature.{spaces}
use Rattle.source_sink.specs.Reading.{Read, ◌>>=◌, sees, read_later_type, read_later}
use Rattle.source_sink.proofs.Steps.{reads_some}
use Rattle.source_sink.proofs.Sound.{IsLater, later_type_read}

-- behind these types
abbrev pub behind : List JType → Read (List JType) → Read (List JType)
behind done None = None
behind done (Some ts) = Some (done ++ ts.0, ts.1)

-- these types are read, and so much is left
pub record Onward (total : Read (List JType)) (done : List JType) (left : List ℕ) : Type 0 where
  pub fuel : ℕ
  pub enough : length left ≤ fuel
  pub is : total ≡ behind done (read_later fuel left)

pub begun : (text : List ℕ) → Onward (read_later (length text) text) [] text
begun text = record { fuel = length text; enough = omega arith; is = same (read_later (length text) text) } where
  same : (r : Read (List JType)) → r ≡ behind [] r
  same None = refl
  same (Some ts) = refl

-- a type behind a comma has a byte
pub less : (text : List ℕ) (t : JType) (left : List ℕ) → read_later_type text ≡ Some (t, left) → length left < length text
less text t left e =
    let h = reads_some (IsLater text) (read_later_type text) (t, left) e (later_type_read text) in
    let n = length-append (spaces h.gap) (type_text t ++ left) in
    let m = length-append (type_text t) left in
    let k : length text ≡ suc (length (spaces h.gap ++ (type_text t ++ left))) = ap length h.is in
    omega (arith, n, m, k)

regroup : (done : List JType) (t : JType) (r : Read (List JType)) → behind done (r >>= λ ts. Some (t ∷ ts.0, ts.1)) ≡ behind (done ++ t ∷ []) r
regroup done t None = refl
regroup done t (Some ts) = ap (λ (xs : List JType). Some (xs, ts.1)) (sym (append_assoc done (t ∷ []) ts.0))

on : (n : ℕ) (total : Read (List JType)) (done : List JType) (text : List ℕ) (t : JType) (left : List ℕ) → length text ≤ n → total ≡ behind done (read_later n text)
    → sees 44 text ≡ true → read_later_type text ≡ Some (t, left) → Onward total (done ++ t ∷ []) left
on zero total done text t left enough is s e = absurd (let m = less text t left e in omega (arith, m, enough))
on (suc n) total done text t left enough is s e = record {
  fuel = n;
  enough = let m = less text t left e in omega (arith, m, enough);
  is = is ∙ rw (s, e) (regroup done t (read_later n left));
}

pub onward : (total : Read (List JType)) (done : List JType) (text : List ℕ) (t : JType) (left : List ℕ) → Onward total done text
    → sees 44 text ≡ true → read_later_type text ≡ Some (t, left) → Onward total (done ++ t ∷ []) left
onward total done text t left o s e = on o.fuel total done text t left o.enough o.is s e

seen : (text : List ℕ) → sees 44 text ≡ true → 0 < length text
seen [] s = absurd (let bad : false ≡ true = s in cc)
seen (c ∷ cs) s = omega arith

halt : (n : ℕ) (total : Read (List JType)) (done : List JType) (text : List ℕ) → 0 < length text → length text ≤ n → total ≡ behind done (read_later n text)
    → sees 44 text ≡ true → read_later_type text ≡ None → total ≡ None
halt zero total done text some enough is s e = absurd (omega (arith, enough, some))
halt (suc n) total done text some enough is s e = is ∙ rw (s, e) refl

pub halted : (total : Read (List JType)) (done : List JType) (text : List ℕ) → Onward total done text
    → sees 44 text ≡ true → read_later_type text ≡ None → total ≡ None
halted total done text o s e = halt o.fuel total done text (seen text s) o.enough o.is s e

close : (n : ℕ) (total : Read (List JType)) (done : List JType) (text : List ℕ) → total ≡ behind done (read_later n text) → sees 44 text ≡ false → total ≡ Some (done, text)
close zero total done text is s = is ∙ ap (λ (xs : List JType). Some (xs, text)) (append-nil done)
close (suc n) total done text is s = is ∙ rw s (ap (λ (xs : List JType). Some (xs, text)) (append-nil done))

pub closed : (total : Read (List JType)) (done : List JType) (text : List ℕ) → Onward total done text → sees 44 text ≡ false → total ≡ Some (done, text)
closed total done text o s = close o.fuel total done text o.is s
