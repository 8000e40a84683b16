-- The rule of the turn, over its words, its slot and the views of all passes.
use Rattle.std.specs.Prelude.{◌≡◌, ◌⊎◌, ℕ, ◌+◌, ◌<◌, ◌≤◌, ◌^◌, List, [], ◌∷◌, Option, Some, None, true, false, sum_by, if◌then◌else◌, is_some}
use mathlib.Core.Option.{Option as Home, some, none}
use lib.ListN.{get_elem?}
use Rattle.atomic_table.specs.Table.{State}
use Rattle.worker_turn.specs.declared.known.Known.{Known}

-- the three words, and what all passes name alike: the owner, the number of all shares and the opening number
pub record Numbers (O : Type 0) : Type 0 where
  pub ticket : ℕ
  pub serving : ℕ
  pub commits : ℕ
  pub owner : O
  pub all : ℕ
  pub opening : ℕ

module _ {O : Type 0} where
  abbrev pub has_ticket : Known O → ℕ
  has_ticket v = if is_some v.ticket then 1 else 0

  -- what a pass that isn't spent knows is right
  pub record Fits (n : Numbers O) (v : Known O) : Type 0 where
    pub lined : (t : ℕ) → v.ticket ≡ Some t → (n.serving ≤ t) × (t < n.ticket)
    pub turn : v.turn ≡ true → v.ticket ≡ Some n.serving
    pub counted : v.counted ≡ true → v.turn ≡ true
    pub hand : v.hand ≡ true → v.counted ≡ true
    pub seen : v.seen ≤ n.commits
    pub seen_now : v.counted ≡ true → v.seen ≡ n.commits
    pub owner : v.owner ≡ Some n.owner
    pub all : v.all ≡ n.all
    pub opening : v.opening ≡ n.opening

  -- a pass without shares is spent: it stands nowhere and made nothing
  pub record IsSpent (v : Known O) : Type 0 where
    pub ticket : v.ticket ≡ None
    pub hand : v.hand ≡ false
    pub made : v.made ≡ 0

  module _ {X : Type 0} (owner : X → O) (count : X → ℕ) (n : Numbers O) (homes : List (Home (Option X))) (views : List (Known O)) where
    -- the value is at home: its commits are the word, its owner is the one that the passes name, and no pass has it
    pub record AtHome : Type 0 where
      pub value : X
      pub here : homes ≡ some (Some value) ∷ []
      pub commits : count value ≡ n.commits
      pub owned : owner value ≡ n.owner
      pub no_hand : (id : ℕ) (v : Known O) → get_elem? views id ≡ some v → v.hand ≡ false

    -- the value is in the hand of a pass
    pub record InHand : Type 0 where
      pub away : homes ≡ none ∷ []
      pub id : ℕ
      pub view : Known O
      pub there : get_elem? views id ≡ some view
      pub hand : view.hand ≡ true

    pub record IsRight : Type 0 where
      pub waiting : n.serving + sum_by has_ticket views ≡ n.ticket
      pub small : n.ticket < 2 ^ 64
      pub room : (n.commits < 2 ^ 64) × (n.all < 2 ^ 32)
      pub each : (id : ℕ) (v : Known O) → get_elem? views id ≡ some v → 0 < v.shares → Fits n v
      pub spent : (id : ℕ) (v : Known O) → get_elem? views id ≡ some v → v.shares ≡ 0 → IsSpent v
      pub differ : (i j : ℕ) (v w : Known O) (t : ℕ) → get_elem? views i ≡ some v → get_elem? views j ≡ some w → v.ticket ≡ Some t → w.ticket ≡ Some t → i ≡ j
      pub shares : sum_by (λ (v : Known O). v.shares) views ≡ n.all
      pub made : n.opening + sum_by (λ (v : Known O). v.made) views ≡ n.commits
      pub value : AtHome ⊎ InHand

  pub record IsTurn {X : Type 0} (owner : X → O) (count : X → ℕ) (s : State (Option X) (Known O)) : Type 0 where
    pub n : Numbers O
    pub words : s.words ≡ n.ticket ∷ n.serving ∷ n.commits ∷ []
    pub right : IsRight owner count n s.homes s.views

-- the first pass, which has all shares
abbrev pub first_view : {X O : Type 0} → (X → O) → (X → ℕ) → X → ℕ → Known O
first_view owner count x shares = record { ticket = None; turn = false; counted = false; hand = false; seen = count x; made = 0; shares = shares; owner = Some (owner x); all = shares; opening = count x }
