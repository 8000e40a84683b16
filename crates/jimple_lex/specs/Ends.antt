-- Where a run, or a piece of a form, ends. The helpers below `lex` cite this file, and no public clause does.
use Rattle.std.specs.Prelude.{◌≡◌, ℕ, ◌-◌, ◌≤◌, ◌<◌, Bool, true, false, List, ◌++◌, length, take, drop}
use Rattle.jimple_lex.specs.Tokens.{Longest}

-- the places from there on that pass the test, up to the first that doesn't or the limit
pub record EndsRun (test : ℕ → Bool) (limit from to : ℕ) : Type 0 where
  pub order : from ≤ to
  pub within : to ≤ limit
  pub each : (k : ℕ) → from ≤ k → k < to → test k ≡ true
  pub next : to < limit → test to ≡ false

-- the bytes from there up to here
abbrev pub part : List ℕ → ℕ → ℕ → List ℕ
part bytes from to = take (to - from) (drop from bytes)

-- a piece of the form stands there up to here, or none stands there
pub record Ends (Form : List ℕ → List ℕ → Type 0) (bytes : List ℕ) (from to : ℕ) : Type 0 where
  pub order : from ≤ to
  pub within : to ≤ length bytes
  pub some : from < to → Form (part bytes from to) (drop to bytes)
  pub none : to ≤ from → (text rest : List ℕ) → drop from bytes ≡ text ++ rest → Form text rest → ⊥

-- the longest front of the form ends there, or no front is of the form
pub record EndsLongest (Form : List ℕ → Type 0) (bytes : List ℕ) (from to : ℕ) : Type 0 where
  pub order : from ≤ to
  pub within : to ≤ length bytes
  pub some : from < to → Longest Form (part bytes from to) (drop to bytes)
  pub none : to ≤ from → (text rest : List ℕ) → drop from bytes ≡ text ++ rest → Form text → ⊥
