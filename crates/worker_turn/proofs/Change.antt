-- One pass changes its view: the rule stays where what it says of that view stays.
use Rattle.std.proofs.Common.{◌≡◌, ◌≢◌, ◌⊎◌, ℕ, zero, suc, is_some, if◌then◌else◌, ◌+◌, ◌<◌, ◌≤◌, ◌^◌, List, [], ◌∷◌, length, Option, Some, None, Bool, true, false, inl, inr, sym, ◌∙◌, ap, subst, refl, arith, get_or, sum_by}
use Rattle.std.proofs.lemmas.List.Sums.{sum_by-set, sum_by-cons}
use mathlib.Core.Option.{Option as Home, some, some-injective, some-ne-none}
use mathlib.Core.Logic.{dite}
use native.Mathlib.Decide.{ℕ_discrete}
use lib.ListN.{get_elem?, set}
use Rattle.atomic_table.proofs.Lists.{at_set, set_here, set_else}
use Rattle.worker_turn.specs.Rule.{Numbers, has_ticket, Fits, AtHome, InHand, IsRight}
use Rattle.worker_turn.specs.declared.known.Known.{Known}

pub found_at : {A : Type 0} (l : List A) (i : ℕ) (a : A) → get_elem? l i ≡ some a → (i < length l) × (a ≡ get_or l i a)
found_at [] i a e = absurd (some-ne-none a (sym e))
found_at (x ∷ xs) zero a e = (omega arith, sym (some-injective x a e))
found_at (x ∷ xs) (suc i) a e = let rest = found_at xs i a e in (omega (arith, rest.0), rest.1)

pub one_there : {A : Type 0} (l : List A) (i : ℕ) (a b : A) → get_elem? l i ≡ some a → get_elem? l i ≡ some b → a ≡ b
one_there l i a b p q = some-injective a b (sym p ∙ q)

pub not_true : (b : Bool) → (b ≡ true → ⊥) → b ≡ false
not_true true h = absurd (h refl)
not_true false h = refl

-- one of a list's numbers is at most their sum
pub part_le : {A : Type 0} (f : A → ℕ) (l : List A) (i : ℕ) (a : A) → get_elem? l i ≡ some a → f a ≤ sum_by f l
part_le f [] i a e = absurd (some-ne-none a (sym e))
part_le f (x ∷ xs) zero a e = let s = sum_by-cons f x xs in let same = ap f (some-injective x a e) in omega (arith, s, same)
part_le f (x ∷ xs) (suc i) a e = let s = sum_by-cons f x xs in let rest = part_le f xs i a e in omega (arith, s, rest)

pub no_ticket : (o : Option ℕ) (t : ℕ) → o ≡ None → o ≡ Some t → ⊥
no_ticket o t e f = cc

pub one_ticket : (o : Option ℕ) (t u : ℕ) → o ≡ Some t → o ≡ Some u → t ≡ u
one_ticket o t u e f = cc

pub is_ticket : (o : Option ℕ) (k : ℕ) → (o ≡ Some k) ⊎ (o ≢ Some k)
is_ticket None k = inr (λ e. no_ticket None k refl e)
is_ticket (Some t) k = dite (ℕ_discrete t k) (λ e. inl (ap Some e)) (λ ne. inr (λ e. ne (one_ticket (Some t) t k refl e)))

module _ {O : Type 0} where
  pub none_of : (v : Known O) → v.ticket ≡ None → has_ticket v ≡ 0
  none_of v e = ap (λ (o : Option ℕ). if is_some o then 1 else 0) e

  pub one_of : (v : Known O) (t : ℕ) → v.ticket ≡ Some t → has_ticket v ≡ 1
  one_of v t e = ap (λ (o : Option ℕ). if is_some o then 1 else 0) e

  -- what has to be known of a change of one view from v to w, and of the numbers from n to m
  pub record Change (n m : Numbers O) (views : List (Known O)) (id : ℕ) (v w : Known O) : Type 0 where
    pub live : 0 < v.shares
    pub fits : Fits m w
    pub others : (j : ℕ) (u : Known O) → j ≢ id → get_elem? views j ≡ some u → Fits n u → Fits m u
    pub shares : w.shares ≡ v.shares
    pub all : m.all ≡ n.all
    pub queue : m.serving + has_ticket w + n.ticket ≡ n.serving + has_ticket v + m.ticket
    pub small : m.ticket < 2 ^ 64
    pub room : m.commits < 2 ^ 64
    pub fresh : (t j : ℕ) (u : Known O) → w.ticket ≡ Some t → j ≢ id → get_elem? views j ≡ some u → u.ticket ≡ Some t → ⊥
    pub opening : m.opening ≡ n.opening
    pub made : m.commits + v.made ≡ n.commits + w.made

  module _ {X : Type 0} (owner : X → O) (count : X → ℕ) where
    -- the value stays where it is
    pub value_stays : (n m : Numbers O) (homes : List (Home (Option X))) (views : List (Known O)) (id : ℕ) (v w : Known O) → get_elem? views id ≡ some v
        → AtHome owner count n homes views ⊎ InHand owner count n homes views
        → w.hand ≡ v.hand → (v.hand ≡ false → m.commits ≡ n.commits) → m.owner ≡ n.owner
        → AtHome owner count m homes (set views id w) ⊎ InHand owner count m homes (set views id w)
    value_stays n m homes views id v w at value hand same owned = elim value [
      | inl home ↦ inl (record {
        value = home.value;
        here = home.here;
        commits = home.commits ∙ sym (same (home.no_hand id v at));
        owned = home.owned ∙ sym owned;
        no_hand = λ j u there. elim (at_set views id j w u there) [
          | inl own ↦ subst (λ (k : Known O). k.hand ≡ false) own.1 (hand ∙ home.no_hand id v at)
          | inr other ↦ home.no_hand j u other.1
        ];
      })
      | inr out ↦ inr (dite (ℕ_discrete out.id id)
          (λ (e : out.id ≡ id). let mine : v ≡ out.view = one_there views id v out.view at (ap (get_elem? views) (sym e) ∙ out.there) in
          record { away = out.away; id = id; view = w; there = set_here views id w (found_at views id v at).0; hand = hand ∙ ap (λ (k : Known O). k.hand) mine ∙ out.hand })
          (λ ne. record { away = out.away; id = out.id; view = out.view; there = set_else views id out.id w ne ∙ out.there; hand = out.hand }))
    ]

    pub changed : (n m : Numbers O) (homes homes' : List (Home (Option X))) (views : List (Known O)) (id : ℕ) (v w : Known O) → IsRight owner count n homes views → get_elem? views id ≡ some v
        → Change n m views id v w → AtHome owner count m homes' (set views id w) ⊎ InHand owner count m homes' (set views id w) → IsRight owner count m homes' (set views id w)
    changed n m homes homes' views id v w h at c value =
        let here : (id < length views) × (v ≡ get_or views id v) = found_at views id v at in
        let tickets = sum_by-set has_ticket views id w v here.0 in
        let shares = sum_by-set (λ (u : Known O). u.shares) views id w v here.0 in
        let mades = sum_by-set (λ (u : Known O). u.made) views id w v here.0 in
        let old_ticket : has_ticket v ≡ has_ticket (get_or views id v) = ap has_ticket here.1 in
        let old_shares : v.shares ≡ (get_or views id v).shares = ap (λ (u : Known O). u.shares) here.1 in
        let old_made : v.made ≡ (get_or views id v).made = ap (λ (u : Known O). u.made) here.1 in
        record {
          waiting = omega (arith, tickets, old_ticket, h.waiting, c.queue);
          small = c.small;
          room = (c.room, (let b = h.room.1 in omega (arith, b, c.all)));
          each = λ j u there live. elim (at_set views id j w u there) [
            | inl own ↦ subst (Fits m) own.1 c.fits
            | inr other ↦ c.others j u other.0 other.1 (h.each j u other.1 live)
          ];
          spent = λ j u there none_left. elim (at_set views id j w u there) [
            | inl own ↦ let e : w.shares ≡ u.shares = ap (λ (k : Known O). k.shares) own.1 in absurd (omega (arith, c.live, c.shares, e, none_left))
            | inr other ↦ h.spent j u other.1 none_left
          ];
          differ = λ i j a b t in_i in_j of_a of_b. elim (at_set views id i w a in_i) [
            | inl own_i ↦ elim (at_set views id j w b in_j) [
              | inl own_j ↦ own_i.0 ∙ sym own_j.0
              | inr other_j ↦ absurd (c.fresh t j b (ap (λ (k : Known O). k.ticket) own_i.1 ∙ of_a) other_j.0 other_j.1 of_b)
            ]
            | inr other_i ↦ elim (at_set views id j w b in_j) [
              | inl own_j ↦ absurd (c.fresh t i a (ap (λ (k : Known O). k.ticket) own_j.1 ∙ of_b) other_i.0 other_i.1 of_a)
              | inr other_j ↦ h.differ i j a b t other_i.1 other_j.1 of_a of_b
            ]
          ];
          shares = omega (arith, shares, old_shares, c.shares, c.all, h.shares);
          made = omega (arith, mades, old_made, c.opening, c.made, h.made);
          value = value;
        }
