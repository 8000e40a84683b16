-- What is true of whatever a reading gives.
use Rattle.std.proofs.Common.{◌≡◌, ℕ, Bool, true, false, List, Some, None, refl, subst}
use Rattle.std.specs.Prelude.{if◌then◌else◌}
use Rattle.source_sink.specs.Reading.{Read, ◌>>=◌}

-- what is read, and what is left, are so
abbrev pub Reads : {X : Type 0} → Read X → (X → List ℕ → Type 0) → Type 0
Reads None P = Unit {0}
Reads (Some x) P = P x.0 x.1

pub reads_then : {X Y : Type 0} (P : X → List ℕ → Type 0) (Q : Y → List ℕ → Type 0) (r : Read X) (f : X × List ℕ → Read Y)
    → Reads r P → ((x : X × List ℕ) → P x.0 x.1 → Reads (f x) Q) → Reads (r >>= f) Q
reads_then P Q None f h k = tt
reads_then P Q (Some x) f h k = k x h

pub reads_if : {X : Type 0} (P : X → List ℕ → Type 0) (b : Bool) (r : Read X) → (b ≡ true → Reads r P) → Reads (if b then r else None) P
reads_if P true r h = h refl
reads_if P false r h = tt

pub reads_unless : {X : Type 0} (P : X → List ℕ → Type 0) (b : Bool) (r : Read X) → (b ≡ false → Reads r P) → Reads (if b then None else r) P
reads_unless P true r h = tt
reads_unless P false r h = h refl

pub reads_either : {X : Type 0} (P : X → List ℕ → Type 0) (b : Bool) (r s : Read X) → (b ≡ true → Reads r P) → (b ≡ false → Reads s P) → Reads (if b then r else s) P
reads_either P true r s h k = h refl
reads_either P false r s h k = k refl

pub reads_some : {X : Type 0} (P : X → List ℕ → Type 0) (r : Read X) (x : X × List ℕ) → r ≡ Some x → Reads r P → P x.0 x.1
reads_some P r x e h = let told : Reads (Some x) P = subst (λ (s : Read _). Reads s P) e h in told

pub reads_some_all : {X : Type 0} (P Q : X → List ℕ → Type 0) (r : Read X) → Reads r P → ((x : X) (left : List ℕ) → P x left → Q x left) → Reads r Q
reads_some_all P Q None h k = tt
reads_some_all P Q (Some x) h k = k x.0 x.1 h
