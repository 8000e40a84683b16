-- What each kind of step does to the own view, and what it tells.
use Rattle.std.specs.Prelude.{◌≡◌, ◌≢◌, ◌⊎◌, ℕ, ◌+◌, ◌-◌, ◌<◌, ◌≤◌, ◌^◌, [], ◌∷◌, Option, Some, None, true, false, max}
use Rattle.atomic_table.specs.Table.{Me, Step}
use Rattle.worker_turn.specs.declared.known.Known.{Known}

module _ {O : Type 0} where
  -- with the ticket t
  abbrev pub drawn : Known O → ℕ → Known O
  drawn v t = record v { ticket = Some t }

  abbrev pub with_turn : Known O → Known O
  with_turn v = record v { turn = true }

  -- d more commits, by which the word is n
  abbrev pub counted : Known O → ℕ → ℕ → Known O
  counted v d n = record v { counted = true; seen = n; made = v.made + d }

  abbrev pub taken_out : Known O → Known O
  taken_out v = record v { hand = true }

  abbrev pub put_in : Known O → Known O
  put_in v = record v { hand = false }

  abbrev pub passed_on : Known O → Known O
  passed_on v = record v { ticket = None; turn = false; counted = false }

  -- the old view after a split, and the new one
  abbrev pub kept_part : Known O → Known O
  kept_part v = record v { shares = v.shares - 1 }

  abbrev pub given_part : Known O → Known O
  given_part v = record v { ticket = None; turn = false; counted = false; hand = false; made = 0; shares = 1 }

  abbrev pub joined : Known O → Known O → Known O
  joined v w = record v { seen = max v.seen w.seen; made = v.made + w.made; shares = v.shares + w.shares }

  abbrev pub nobody : Known O
  nobody = record { ticket = None; turn = false; counted = false; hand = false; seen = 0; made = 0; shares = 0; owner = None; all = 0; opening = 0 }

  module _ {X : Type 0} where
    -- draw: the ticket is the number expected, where it was found; else nothing changes
    abbrev pub Draws : Step (Option X) → Me (Option X) (Known O) → ℕ → Me (Option X) (Known O) → Type 0
    Draws st m found n = (n.1 ≡ m.1) × ((found ≡ st.first) × (n.0 ≡ drawn m.0 found) ⊎ (found ≢ st.first) × (n.0 ≡ m.0))

    -- look: the turn has come where the word is the ticket; else nothing changes. What was made, and the shares, fit their words
    abbrev pub Looks : Step (Option X) → Me (Option X) (Known O) → ℕ → Me (Option X) (Known O) → Type 0
    Looks st m found n = (n.1 ≡ m.1) × ((m.0.ticket ≡ Some found) × (n.0 ≡ with_turn m.0) ⊎ (m.0.ticket ≢ Some found) × (n.0 ≡ m.0)) × (m.0.made < 2 ^ 64) × (m.0.shares < 2 ^ 32)

    -- count: the word found is no less than what was seen, and just that with the value in hand
    abbrev pub Counts : Step (Option X) → Me (Option X) (Known O) → ℕ → Me (Option X) (Known O) → Type 0
    Counts st m found n = (n.1 ≡ m.1) × (n.0 ≡ counted m.0 st.first (found + st.first)) × (m.0.seen ≤ found) × (found + st.first < 2 ^ 64) × (m.0.made + st.first < 2 ^ 64) × (m.0.hand ≡ true → m.0.seen ≡ found)

    -- take out: the value has the owner that the pass names, and its commits are what was seen
    abbrev pub TakesOut : (X → O) → (X → ℕ) → Step (Option X) → Me (Option X) (Known O) → ℕ → Me (Option X) (Known O) → Type 0
    TakesOut owner count st m found n = (x : X) × (n.1 ≡ (0, Some x) ∷ m.1) × (m.0.owner ≡ Some (owner x)) × (count x ≡ m.0.seen) × (n.0 ≡ taken_out m.0)

    abbrev pub PutsIn : Step (Option X) → Me (Option X) (Known O) → ℕ → Me (Option X) (Known O) → Type 0
    PutsIn st m found n = (n.1 ≡ []) × (n.0 ≡ put_in m.0)

    abbrev pub PassesOn : Step (Option X) → Me (Option X) (Known O) → ℕ → Me (Option X) (Known O) → Type 0
    PassesOn st m found n = (n.1 ≡ m.1) × (n.0 ≡ passed_on m.0)
