-- What contracts see of a pass, and what its fields say.
use Rattle.std.specs.Prelude.{◌≡◌, ℕ, ◌<◌, [], ◌∷◌, Option, None, Bool, true, false}
use Rattle.atomic_table.specs.Seated.{TableId}
use Rattle.atomic_table.specs.Table.{Me}
use Rattle.worker_turn.specs.declared.known.Known.{Known}

-- inside: a guard of the pass is out. The owner, the number of all shares and the opening number are the turn's
pub record PassView (O : Type 0) : Type 0 where
  pub turn : TableId
  pub owner : Option O
  pub seen : ℕ
  pub made : ℕ
  pub shares : ℕ
  pub all : ℕ
  pub opening : ℕ
  pub inside : Bool

module _ {O : Type 0} where
  abbrev pub view_of : TableId → Known O → PassView O
  view_of z v = record { turn = z; owner = v.owner; seen = v.seen; made = v.made; shares = v.shares; all = v.all; opening = v.opening; inside = v.hand }

  -- the numbers are the view's; a pass has the emptied slot just where its guard is out
  pub record IsPass {X : Type 0} (me : Me (Option X) (Known O)) (seen made shares : ℕ) : Type 0 where
    pub seen_is : me.0.seen ≡ seen
    pub made_is : me.0.made ≡ made
    pub shares_is : me.0.shares ≡ shares
    pub live : 0 < shares
    pub idle : me.0.hand ≡ false → (me.0.ticket ≡ None) × (me.1 ≡ [])
    pub inside : me.0.hand ≡ true → (me.0.turn ≡ true) × (me.0.counted ≡ true) × (me.1 ≡ (0, None) ∷ [])
