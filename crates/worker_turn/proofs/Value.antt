-- The value is taken out and put in.
use Rattle.std.proofs.Common.{◌≡◌, ◌⊎◌, ℕ, ◌<◌, List, [], ◌∷◌, Option, Some, Bool, true, false, inl, inr, sym, ◌∙◌, ap, refl, slice_index, slice_set}
use mathlib.Core.Option.{Option as Home, some, none}
use lib.ListN.{get_elem?, set}
use Rattle.atomic_table.proofs.Lists.{at_set, set_here}
use Rattle.atomic_table.specs.Table.{Me, takes, gives, step, Allows, put_back, rest}
use Rattle.worker_turn.specs.Rule.{Numbers, AtHome, InHand, IsRight, IsTurn}
use Rattle.worker_turn.specs.Steps.{TakesOut, PutsIn, taken_out, put_in}
use Rattle.worker_turn.specs.declared.known.Known.{Known}
use Rattle.worker_turn.proofs.Change.{found_at, not_true, changed}
use Rattle.worker_turn.proofs.Kept.{one_has, hand_served, at_home}

module _ {O X : Type 0} (owner : X → O) (count : X → ℕ) where
  -- a view changes nothing but whether it has the value
  pub hand_changes : (n : Numbers O) (homes homes' : List (Home (Option X))) (views : List (Known O)) (id : ℕ) (v : Known O) (b : Bool) → IsRight owner count n homes views → get_elem? views id ≡ some v → 0 < v.shares
      → v.counted ≡ true → AtHome owner count n homes' (set views id (record v { hand = b })) ⊎ InHand owner count n homes' (set views id (record v { hand = b }))
      → IsRight owner count n homes' (set views id (record v { hand = b }))
  hand_changes n homes homes' views id v b h at live done value =
      let w : Known O = record v { hand = b } in
      let f = h.each id v at live in
      changed owner count n n homes homes' views id v w h at (record {
        live = live;
        fits = record { lined = f.lined; turn = f.turn; counted = f.counted; hand = λ _. done; seen = f.seen; seen_now = f.seen_now; owner = f.owner; all = f.all; opening = f.opening };
        others = λ j u ne there g. g;
        shares = refl;
        all = refl;
        queue = refl;
        small = h.small;
        room = h.room.0;
        fresh = λ t j u is ne there of_u. ne (h.differ j id u v t there at of_u is);
        opening = refl;
        made = refl;
      }) value

  pub takes_out : (slots id : ℕ) (me : Me (Option X) (Known O)) → 0 < me.0.shares → me.0.counted ≡ true → me.0.hand ≡ false
      → Allows (IsTurn owner count) slots id me 2 (λ n. n) (TakesOut owner count (step slots 2 0 0 none) me)
  takes_out slots id me live done empty s h homes at small =
      let k : ℕ = slice_index s.words 2 in
      let first : k ≡ h.n.commits = ap (λ (ws : List ℕ). slice_index ws 2) h.words in
      let f = h.right.each id me.0 at live in
      let home = at_home owner count h.n s.homes s.views h.right id me.0 at (f.turn (f.counted done)) empty in
      let w : Known O = taken_out me.0 in
      let away : slice_set s.homes 0 none ≡ none ∷ [] = ap (λ (hs : List (Home (Option X))). slice_set hs 0 none) home.here in (
        w,
        takes 0 (Some home.value),
        ap (λ (hs : List (Home (Option X))). get_elem? hs 0) home.here,
        record {
          n = h.n;
          words = ap (λ (ws : List ℕ). slice_set ws 2 k) h.words ∙ ap (λ (j : ℕ). h.n.ticket ∷ h.n.serving ∷ j ∷ []) first;
          right = hand_changes h.n s.homes (slice_set s.homes 0 none) s.views id me.0 true h.right at live done
              (inr (record { away = away; id = id; view = w; there = set_here s.views id w (found_at s.views id me.0 at).0; hand = refl }));
        },
        (home.value, refl, f.owner ∙ ap Some (sym home.owned), home.commits ∙ sym (f.seen_now done), refl),
      )

  pub puts_in : (slots id : ℕ) (x : X) (me : Me (Option X) (Known O)) → 0 < me.0.shares → me.0.counted ≡ true → me.0.hand ≡ true → me.1 ≡ (0, Some x) ∷ [] → me.0.owner ≡ Some (owner x) → count x ≡ me.0.seen
      → Allows (IsTurn owner count) slots id me 2 (λ n. n) (PutsIn (step slots 2 0 0 none) me)
  puts_in slots id x me live done has held owned commits s h homes at small =
      let k : ℕ = slice_index s.words 2 in
      let first : k ≡ h.n.commits = ap (λ (ws : List ℕ). slice_index ws 2) h.words in
      let f = h.right.each id me.0 at live in
      let w : Known O = put_in me.0 in
      let served = f.turn (f.counted done) in
      let one : slice_set s.homes 0 (some (Some x)) ≡ some (Some x) ∷ [] = elim h.right.value [
        | inl home ↦ ap (λ (hs : List (Home (Option X))). slice_set hs 0 (some (Some x))) home.here
        | inr out ↦ ap (λ (hs : List (Home (Option X))). slice_set hs 0 (some (Some x))) out.away
      ] in
      let here : put_back s.homes me.1 ≡ some (Some x) ∷ [] = ap (put_back s.homes) held ∙ one in
      let same : Some (owner x) ≡ Some h.n.owner = sym owned ∙ f.owner in (
        w,
        gives,
        tt,
        record {
          n = h.n;
          words = ap (λ (ws : List ℕ). slice_set ws 2 k) h.words ∙ ap (λ (j : ℕ). h.n.ticket ∷ h.n.serving ∷ j ∷ []) first;
          right = hand_changes h.n s.homes (put_back s.homes me.1) s.views id me.0 false h.right at live done
              (inl (record {
                value = x;
                here = here;
                commits = commits ∙ f.seen_now done;
                owned = cc;
                no_hand = λ j u there. elim (at_set s.views id j w u there) [
                  | inl own ↦ sym (ap (λ (u : Known O). u.hand) own.1)
                  | inr other ↦ not_true u.hand (λ theirs. other.0 (one_has owner count h.n s.homes s.views h.right j id u me.0 other.1 at (hand_served owner count h.n s.homes s.views h.right j u other.1 theirs) served))
                ];
              }));
        },
        (ap rest held, refl),
      )
