-- Each kind of step keeps the rule.
use Rattle.std.proofs.Common.{◌≡◌, ◌≢◌, ◌⊎◌, ℕ, ◌+◌, ◌-◌, ◌<◌, ◌≤◌, ◌%◌, ◌^◌, List, [], ◌∷◌, Option, Some, None, true, false, inl, inr, sym, ◌∙◌, ap, subst, refl, arith, slice_index, slice_set, eqb, true≢false, mod-eq_of_lt}
use mathlib.Core.Option.{Option as Home, some, none}
use native.Mathlib.Decide.{ℕ_discrete}
use lib.ListN.{get_elem?, set}
use prog.Atomic.{either}
use Rattle.atomic_table.proofs.Lists.{set_again, exchanged}
use Rattle.atomic_table.specs.Table.{Me, Act, keeps, step, stepped, Valid, Allows, carried_after}
use Rattle.worker_turn.specs.Rule.{Numbers, has_ticket, AtHome, IsRight, IsTurn}
use Rattle.worker_turn.specs.Steps.{Draws, Looks, Counts, PassesOn, drawn, with_turn, counted, passed_on}
use Rattle.worker_turn.specs.declared.known.Known.{Known}
use Rattle.worker_turn.proofs.Change.{one_there, part_le, none_of, one_of, no_ticket, one_ticket, is_ticket, value_stays, changed}

module _ {O X : Type 0} (owner : X → O) (count : X → ℕ) where
  -- one ticket more
  pub with_ticket : (n : Numbers O) (homes : List (Home (Option X))) (views : List (Known O)) (id : ℕ) (v : Known O) → IsRight owner count n homes views → get_elem? views id ≡ some v → 0 < v.shares
      → v.ticket ≡ None → n.ticket < 2 ^ 64 - 1 → IsRight owner count (record n { ticket = n.ticket + 1 }) homes (set views id (drawn v n.ticket))
  with_ticket n homes views id v h at live idle small =
      let m : Numbers O = record n { ticket = n.ticket + 1 } in
      let w : Known O = drawn v n.ticket in
      let f = h.each id v at live in
      let no_turn : v.turn ≡ true → ⊥ = λ on. no_ticket v.ticket n.serving idle (f.turn on) in
      let none_had : has_ticket v ≡ 0 = none_of v idle in
      changed owner count n m homes homes views id v w h at (record {
        live = live;
        fits = record {
          lined = λ t is. let same : n.ticket ≡ t = one_ticket (Some n.ticket) n.ticket t refl is in omega (arith, h.waiting, same);
          turn = λ on. absurd (no_turn on);
          counted = f.counted;
          hand = f.hand;
          seen = f.seen;
          seen_now = f.seen_now;
          owner = f.owner;
          all = f.all;
          opening = f.opening;
        };
        others = λ j u ne there g. record {
          lined = λ t is. let b = g.lined t is in omega (arith, b);
          turn = g.turn;
          counted = g.counted;
          hand = g.hand;
          seen = g.seen;
          seen_now = g.seen_now;
          owner = g.owner;
          all = g.all;
          opening = g.opening;
        };
        shares = refl;
        all = refl;
        queue = omega (arith, none_had);
        small = omega (arith, small);
        room = h.room.0;
        fresh = λ t j u is ne there of_u. let same : n.ticket ≡ t = one_ticket (Some n.ticket) n.ticket t refl is in
            elim (ℕ_discrete u.shares 0) [
              | yes gone ↦ no_ticket u.ticket t (h.spent j u there gone).ticket of_u
              | no there_still ↦ let b = (h.each j u there (omega (arith, there_still))).lined t of_u in absurd (omega (arith, same, b))
            ];
        opening = refl;
        made = refl;
      }) (value_stays owner count n m homes views id v w at h.value refl (λ none. refl) refl)

  -- a try to draw keeps the rule, whatever the word is
  pub draws : (slots id next : ℕ) (me : Me (Option X) (Known O)) → 0 < me.0.shares → me.0.ticket ≡ None → next < 2 ^ 64 - 1
      → Allows (IsTurn owner count) slots id me 0 (λ n. either (eqb n next) (next + 1) n) (Draws (step slots 0 next (next + 1) none) me)
  draws slots id next me live idle room s h homes at small =
      let k : ℕ = slice_index s.words 0 in
      let first : k ≡ h.n.ticket = ap (λ (ws : List ℕ). slice_index ws 0) h.words in
      exchanged k next (next + 1) (λ j. (x : Known O) × (a : Act (Option X)) × Valid s.homes me.1 a × IsTurn owner count (stepped s 0 j id me.1 x a)
      × Draws (step slots 0 next (next + 1) none) me k (x, carried_after me.1 a))
      (λ same. (
        drawn me.0 k,
        keeps,
        tt,
        record {
          n = record h.n { ticket = next + 1 };
          words = ap (λ (ws : List ℕ). slice_set ws 0 (next + 1)) h.words;
          right = let e : h.n.ticket ≡ next = sym first ∙ same in let r = with_ticket h.n s.homes s.views id me.0 h.right at live idle (omega (arith, e, room)) in
              subst (λ (j : ℕ). IsRight owner count (record h.n { ticket = next + 1 }) s.homes (set s.views id (drawn me.0 j))) (sym first)
              (subst (λ (j : ℕ). IsRight owner count (record h.n { ticket = j + 1 }) s.homes (set s.views id (drawn me.0 h.n.ticket))) e r);
        },
        (refl, inl (same, refl)),
      ))
      (λ other. (
        me.0,
        keeps,
        tt,
        record {
          n = h.n;
          words = ap (λ (ws : List ℕ). slice_set ws 0 k) h.words ∙ ap (λ (j : ℕ). j ∷ h.n.serving ∷ h.n.commits ∷ []) first;
          right = subst (λ (vs : List (Known O)). IsRight owner count h.n s.homes vs) (sym (set_again s.views id me.0 at)) h.right;
        },
        (refl, inr (other, refl)),
      ))

  -- of two passes that have the turn both are one
  pub one_has : (n : Numbers O) (homes : List (Home (Option X))) (views : List (Known O)) → IsRight owner count n homes views → (i j : ℕ) (v w : Known O) → get_elem? views i ≡ some v → get_elem? views j ≡ some w
      → v.ticket ≡ Some n.serving → w.ticket ≡ Some n.serving → i ≡ j
  one_has n homes views h i j v w in_i in_j of_v of_w = h.differ i j v w n.serving in_i in_j of_v of_w

  -- a pass that has the value isn't spent
  pub hand_lives : (n : Numbers O) (homes : List (Home (Option X))) (views : List (Known O)) → IsRight owner count n homes views → (id : ℕ) (v : Known O) → get_elem? views id ≡ some v → v.hand ≡ true → 0 < v.shares
  hand_lives n homes views h id v at hand = elim (ℕ_discrete v.shares 0) [
    | yes gone ↦ absurd (true≢false (sym hand ∙ (h.spent id v at gone).hand))
    | no still ↦ omega (arith, still)
  ]

  -- a pass that has the value has the ticket that is served
  pub hand_served : (n : Numbers O) (homes : List (Home (Option X))) (views : List (Known O)) → IsRight owner count n homes views → (id : ℕ) (v : Known O) → get_elem? views id ≡ some v → v.hand ≡ true → v.ticket ≡ Some n.serving
  hand_served n homes views h id v at hand = let f = h.each id v at (hand_lives n homes views h id v at hand) in f.turn (f.counted (f.hand hand))

  -- where a pass has the turn and not the value, the value is at home
  pub at_home : (n : Numbers O) (homes : List (Home (Option X))) (views : List (Known O)) → IsRight owner count n homes views → (id : ℕ) (v : Known O) → get_elem? views id ≡ some v → v.ticket ≡ Some n.serving → v.hand ≡ false
      → AtHome owner count n homes views
  at_home n homes views h id v at served empty = elim h.value [
    | inl home ↦ home
    | inr out ↦ let theirs = hand_served n homes views h out.id out.view out.there out.hand in
        let same : id ≡ out.id = one_has n homes views h id out.id v out.view at out.there served theirs in
        let e : v ≡ out.view = one_there views id v out.view at (ap (get_elem? views) same ∙ out.there) in
        absurd (true≢false (sym out.hand ∙ sym (ap (λ (k : Known O). k.hand) e) ∙ empty))
  ]

  -- the turn has come
  pub turn_comes : (n : Numbers O) (homes : List (Home (Option X))) (views : List (Known O)) (id : ℕ) (v : Known O) → IsRight owner count n homes views → get_elem? views id ≡ some v → 0 < v.shares
      → v.ticket ≡ Some n.serving → IsRight owner count n homes (set views id (with_turn v))
  turn_comes n homes views id v h at live served =
      let w : Known O = with_turn v in
      let f = h.each id v at live in
      changed owner count n n homes homes views id v w h at (record {
        live = live;
        fits = record { lined = f.lined; turn = λ on. served; counted = λ on. refl; hand = f.hand; seen = f.seen; seen_now = f.seen_now; owner = f.owner; all = f.all; opening = f.opening };
        others = λ j u ne there g. g;
        shares = refl;
        all = refl;
        queue = refl;
        small = h.small;
        room = h.room.0;
        fresh = λ t j u is ne there of_u. ne (h.differ j id u v t there at of_u is);
        opening = refl;
        made = refl;
      }) (value_stays owner count n n homes views id v w at h.value refl (λ none. refl) refl)

  pub looks : (slots id : ℕ) (me : Me (Option X) (Known O)) → 0 < me.0.shares → Allows (IsTurn owner count) slots id me 1 (λ n. n) (Looks (step slots 1 0 0 none) me)
  looks slots id me live s h homes at small =
      let k : ℕ = slice_index s.words 1 in
      let first : k ≡ h.n.serving = ap (λ (ws : List ℕ). slice_index ws 1) h.words in
      let words : slice_set s.words 1 k ≡ h.n.ticket ∷ h.n.serving ∷ h.n.commits ∷ [] = ap (λ (ws : List ℕ). slice_set ws 1 k) h.words ∙ ap (λ (j : ℕ). h.n.ticket ∷ j ∷ h.n.commits ∷ []) first in
      let made : me.0.made < 2 ^ 64 = let b = part_le (λ (u : Known O). u.made) s.views id me.0 at in let sum = h.right.made in let room = h.right.room.0 in omega (arith, b, sum, room) in
      let shares : me.0.shares < 2 ^ 32 = let b = part_le (λ (u : Known O). u.shares) s.views id me.0 at in let sum = h.right.shares in let room = h.right.room.1 in omega (arith, b, sum, room) in
      elim (is_ticket me.0.ticket k) [
        | inl same ↦ (
          with_turn me.0,
          keeps,
          tt,
          record {
            n = h.n;
            words = words;
            right = turn_comes h.n s.homes s.views id me.0 h.right at live (same ∙ ap Some first);
          },
          (refl, inl (same, refl), made, shares),
        )
        | inr other ↦ (
          me.0,
          keeps,
          tt,
          record {
            n = h.n;
            words = words;
            right = subst (λ (vs : List (Known O)). IsRight owner count h.n s.homes vs) (sym (set_again s.views id me.0 at)) h.right;
          },
          (refl, inr (other, refl), made, shares),
        )
      ]

  -- d more commits, where d is 0 or the value is in hand
  pub more : (n : Numbers O) (homes : List (Home (Option X))) (views : List (Known O)) (id d : ℕ) (v : Known O) → IsRight owner count n homes views → get_elem? views id ≡ some v → 0 < v.shares
      → v.turn ≡ true → (d ≡ 0) ⊎ (v.hand ≡ true) → n.commits + d < 2 ^ 64 → IsRight owner count (record n { commits = n.commits + d }) homes (set views id (counted v d (n.commits + d)))
  more n homes views id d v h at live on kind room =
      let m : Numbers O = record n { commits = n.commits + d } in
      let w : Known O = counted v d (n.commits + d) in
      let f = h.each id v at live in
      let served = f.turn on in
      changed owner count n m homes homes views id v w h at (record {
        live = live;
        fits = record { lined = f.lined; turn = f.turn; counted = λ c. on; hand = λ c. refl; seen = omega arith; seen_now = λ c. refl; owner = f.owner; all = f.all; opening = f.opening };
        others = λ j u ne there g. record {
          lined = g.lined;
          turn = g.turn;
          counted = g.counted;
          hand = g.hand;
          seen = omega (arith, g.seen);
          seen_now = λ c. absurd (ne (one_has n homes views h j id u v there at (g.turn (g.counted c)) served));
          owner = g.owner;
          all = g.all;
          opening = g.opening;
        };
        shares = refl;
        all = refl;
        queue = refl;
        small = h.small;
        room = room;
        fresh = λ t j u is ne there of_u. ne (h.differ j id u v t there at of_u is);
        opening = refl;
        made = omega arith;
      }) (value_stays owner count n m homes views id v w at h.value refl (λ empty. elim kind [
        | inl nothing ↦ omega (arith, nothing)
        | inr has ↦ absurd (true≢false (sym has ∙ empty))
      ]) refl)

  pub counts : (slots id d : ℕ) (me : Me (Option X) (Known O)) → 0 < me.0.shares → me.0.turn ≡ true → (d ≡ 0) ⊎ (me.0.hand ≡ true) → me.0.seen + d < 2 ^ 64
      → Allows (IsTurn owner count) slots id me 2 (λ n. (n + d) % 2 ^ 64) (Counts (step slots 2 d 0 none) me)
  counts slots id d me live on kind room s h homes at small =
      let k : ℕ = slice_index s.words 2 in
      let first : k ≡ h.n.commits = ap (λ (ws : List ℕ). slice_index ws 2) h.words in
      let f = h.right.each id me.0 at live in
      let now : me.0.hand ≡ true → me.0.seen ≡ k = λ has. f.seen_now (f.hand has) ∙ sym first in
      let fits : k + d < 2 ^ 64 = elim kind [
        | inl nothing ↦ omega (arith, nothing, small)
        | inr has ↦ let e = now has in omega (arith, e, room)
      ] in
      let seen : me.0.seen ≤ k = let b = f.seen in omega (arith, b, first) in
      let made : me.0.made + d < 2 ^ 64 = let b = part_le (λ (u : Known O). u.made) s.views id me.0 at in let sum = h.right.made in omega (arith, b, sum, first, fits) in (
        counted me.0 d (k + d),
        keeps,
        tt,
        record {
          n = record h.n { commits = h.n.commits + d };
          words = ap (λ (ws : List ℕ). slice_set ws 2 ((k + d) % 2 ^ 64)) h.words ∙ ap (λ (j : ℕ). h.n.ticket ∷ h.n.serving ∷ j ∷ []) (mod-eq_of_lt fits ∙ ap (λ (j : ℕ). j + d) first);
          right = subst (λ (j : ℕ). IsRight owner count (record h.n { commits = h.n.commits + d }) s.homes (set s.views id (counted me.0 d (j + d)))) (sym first)
              (more h.n s.homes s.views id d me.0 h.right at live on kind (omega (arith, fits, first)));
        },
        (refl, refl, seen, fits, made, now),
      )

  -- the next ticket is served
  pub goes_on : (n : Numbers O) (homes : List (Home (Option X))) (views : List (Known O)) (id : ℕ) (v : Known O) → IsRight owner count n homes views → get_elem? views id ≡ some v → 0 < v.shares
      → v.turn ≡ true → v.hand ≡ false → IsRight owner count (record n { serving = n.serving + 1 }) homes (set views id (passed_on v))
  goes_on n homes views id v h at live on empty =
      let m : Numbers O = record n { serving = n.serving + 1 } in
      let w : Known O = passed_on v in
      let f = h.each id v at live in
      let served = f.turn on in
      let had : has_ticket v ≡ 1 = one_of v n.serving served in
      changed owner count n m homes homes views id v w h at (record {
        live = live;
        fits = record {
          lined = λ t is. absurd (no_ticket None t refl is);
          turn = λ off. absurd (true≢false (sym off));
          counted = λ off. absurd (true≢false (sym off));
          hand = λ has. absurd (true≢false (sym has ∙ empty));
          seen = f.seen;
          seen_now = λ off. absurd (true≢false (sym off));
          owner = f.owner;
          all = f.all;
          opening = f.opening;
        };
        others = λ j u ne there g.
            let apart : u.ticket ≡ Some n.serving → ⊥ = λ of_u. ne (one_has n homes views h j id u v there at of_u served) in record {
              lined = λ t is. let b = g.lined t is in let ne' : t ≢ n.serving = λ e. apart (is ∙ ap Some e) in omega (arith, b, ne');
              turn = λ their. absurd (apart (g.turn their));
              counted = g.counted;
              hand = g.hand;
              seen = g.seen;
              seen_now = g.seen_now;
              owner = g.owner;
              all = g.all;
              opening = g.opening;
            };
        shares = refl;
        all = refl;
        queue = omega (arith, had);
        small = h.small;
        room = h.room.0;
        fresh = λ t j u is ne there of_u. no_ticket None t refl is;
        opening = refl;
        made = refl;
      }) (value_stays owner count n m homes views id v w at h.value refl (λ none. refl) refl)

  pub passes_on : (slots id : ℕ) (me : Me (Option X) (Known O)) → 0 < me.0.shares → me.0.turn ≡ true → me.0.hand ≡ false
      → Allows (IsTurn owner count) slots id me 1 (λ n. (n + 1) % 2 ^ 64) (PassesOn (step slots 1 1 0 none) me)
  passes_on slots id me live on empty s h homes at small =
      let k : ℕ = slice_index s.words 1 in
      let first : k ≡ h.n.serving = ap (λ (ws : List ℕ). slice_index ws 1) h.words in
      let f = h.right.each id me.0 at live in
      let line = f.lined h.n.serving (f.turn on) in
      let room = h.right.small in
      let fits : k + 1 < 2 ^ 64 = omega (arith, line, room, first) in (
        passed_on me.0,
        keeps,
        tt,
        record {
          n = record h.n { serving = h.n.serving + 1 };
          words = ap (λ (ws : List ℕ). slice_set ws 1 ((k + 1) % 2 ^ 64)) h.words ∙ ap (λ (j : ℕ). h.n.ticket ∷ j ∷ h.n.commits ∷ []) (mod-eq_of_lt fits ∙ ap (λ (j : ℕ). j + 1) first);
          right = goes_on h.n s.homes s.views id me.0 h.right at live on empty;
        },
        (refl, refl),
      )
