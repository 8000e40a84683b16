-- Passes are split and joined, and the last one closes the turn.
use Rattle.std.proofs.Common.{◌≡◌, ◌≢◌, ◌⊎◌, ℕ, zero, suc, ◌+◌, ◌<◌, ◌≤◌, ◌^◌, List, [], ◌∷◌, ◌++◌, length, Option, Some, None, true, false, inl, inr, sym, ◌∙◌, ap, subst, refl, arith, sum_by, get_or, true≢false}
use Rattle.std.proofs.lemmas.List.Sums.{sum_by-set, sum_by-cons, sum_by_push}
use mathlib.Core.Option.{Option as Home, some, some-injective, some-ne-none}
use mathlib.Core.Logic.{dite}
use native.Mathlib.Decide.{ℕ_discrete}
use lib.ListN.{get_elem?, set}
use Rattle.atomic_table.proofs.Lists.{at_set, at_snoc, at_longer, set_here, set_else}
use Rattle.atomic_table.specs.Table.{Splits, Joins, opening, Final, Seen}
use Rattle.worker_turn.specs.Rule.{Numbers, has_ticket, Fits, IsSpent, AtHome, IsTurn, first_view}
use Rattle.worker_turn.specs.Steps.{kept_part, given_part, joined, nobody}
use Rattle.worker_turn.specs.declared.known.Known.{Known}
use Rattle.worker_turn.proofs.Change.{found_at, one_there, part_le, none_of, no_ticket}
use Rattle.worker_turn.proofs.Kept.{hand_served}

module _ {O : Type 0} where
  -- a view after a split: the old one's, another's, or the new one
  pub split_cases : (views : List (Known O)) (id j : ℕ) (left right u : Known O) → get_elem? (set views id left ++ right ∷ []) j ≡ some u
      → ((j ≡ id) × (left ≡ u)) ⊎ (((j ≢ id) × (get_elem? views j ≡ some u)) ⊎ (right ≡ u))
  split_cases views id j left right u there = elim (at_snoc (set views id left) right u j there) [
    | inl early ↦ elim (at_set views id j left u early) [ inl own ↦ inl own | inr other ↦ inr (inl other) ]
    | inr last ↦ inr (inr last)
  ]

  -- a view after a join: the spent one, the joined one, or another's
  pub join_cases : (views : List (Known O)) (id other j : ℕ) (both gone u : Known O) → get_elem? (set (set views id both) other gone) j ≡ some u
      → ((j ≡ other) × (gone ≡ u)) ⊎ (((j ≡ id) × (both ≡ u)) ⊎ ((j ≢ other) × (j ≢ id) × (get_elem? views j ≡ some u)))
  join_cases views id other j both gone u there = elim (at_set (set views id both) other j gone u there) [
    | inl spent ↦ inl spent
    | inr early ↦ elim (at_set views id j both u early.1) [ inl own ↦ inr (inl own) | inr rest ↦ inr (inr (early.0, rest.0, rest.1)) ]
  ]

module _ {O X : Type 0} (owner : X → O) (count : X → ℕ) where
  -- a pass without a ticket stands nowhere
  pub idle_stands : (n : Numbers O) (v : Known O) → Fits n v → v.ticket ≡ None → (v.turn ≡ true → ⊥) × (v.counted ≡ true → ⊥) × (v.hand ≡ true → ⊥)
  idle_stands n v f idle =
      let turn : v.turn ≡ true → ⊥ = λ on. no_ticket v.ticket n.serving idle (f.turn on) in
      (turn, (λ done. turn (f.counted done)), λ has. turn (f.counted (f.hand has)))

  pub splits : (id : ℕ) (v : Known O) → 2 ≤ v.shares → Splits (IsTurn owner count) id v (kept_part v) (given_part v)
  splits id v two s h at =
      let n = h.n in
      let r = h.right in
      let left : Known O = kept_part v in
      let right : Known O = given_part v in
      let f = r.each id v at (omega (arith, two)) in
      let here : (id < length s.views) × (v ≡ get_or s.views id v) = found_at s.views id v at in
      let tickets = sum_by-set has_ticket s.views id left v here.0 in
      let shares = sum_by-set (λ (u : Known O). u.shares) s.views id left v here.0 in
      let mades = sum_by-set (λ (u : Known O). u.made) s.views id left v here.0 in
      let tickets' = sum_by_push has_ticket (set s.views id left) right in
      let shares' = sum_by_push (λ (u : Known O). u.shares) (set s.views id left) right in
      let mades' = sum_by_push (λ (u : Known O). u.made) (set s.views id left) right in
      let old_ticket : has_ticket v ≡ has_ticket (get_or s.views id v) = ap has_ticket here.1 in
      let old_shares : v.shares ≡ (get_or s.views id v).shares = ap (λ (u : Known O). u.shares) here.1 in
      let old_made : v.made ≡ (get_or s.views id v).made = ap (λ (u : Known O). u.made) here.1 in
      let ticket_of : (u : Known O) (t : ℕ) → right ≡ u → u.ticket ≡ Some t → ⊥ = λ u t e is. no_ticket None t refl (ap (λ (k : Known O). k.ticket) e ∙ is) in
      let moved : (j : ℕ) (u : Known O) (t : ℕ) → get_elem? (set s.views id left ++ right ∷ []) j ≡ some u → u.ticket ≡ Some t → (a : Known O) × (get_elem? s.views j ≡ some a) × (a.ticket ≡ Some t)
      = λ j u t there is. elim (split_cases s.views id j left right u there) [
        | inl own ↦ (v, ap (get_elem? s.views) own.0 ∙ at, ap (λ (k : Known O). k.ticket) own.1 ∙ is)
        | inr others ↦ elim others [ inl other ↦ (u, other.1, is) | inr last ↦ absurd (ticket_of u t last is) ]
      ] in
      record {
        n = n;
        words = h.words;
        right = record {
          waiting = omega (arith, tickets, tickets', old_ticket, r.waiting);
          small = r.small;
          room = r.room;
          each = λ j u there live. elim (split_cases s.views id j left right u there) [
            | inl own ↦ subst (Fits n) own.1 (record { lined = f.lined; turn = f.turn; counted = f.counted; hand = f.hand; seen = f.seen; seen_now = f.seen_now; owner = f.owner; all = f.all; opening = f.opening })
            | inr others ↦ elim others [
              | inl other ↦ r.each j u other.1 live
              | inr last ↦ subst (Fits n) last (record {
                lined = λ t is. absurd (no_ticket None t refl is);
                turn = λ off. absurd (true≢false (sym off));
                counted = λ off. absurd (true≢false (sym off));
                hand = λ off. absurd (true≢false (sym off));
                seen = f.seen;
                seen_now = λ off. absurd (true≢false (sym off));
                owner = f.owner;
                all = f.all;
                opening = f.opening;
              })
            ]
          ];
          spent = λ j u there none_left. elim (split_cases s.views id j left right u there) [
            | inl own ↦ let e = ap (λ (k : Known O). k.shares) own.1 in absurd (omega (arith, two, e, none_left))
            | inr others ↦ elim others [
              | inl other ↦ r.spent j u other.1 none_left
              | inr last ↦ let e = ap (λ (k : Known O). k.shares) last in absurd (omega (arith, e, none_left))
            ]
          ];
          differ = λ i j a b t in_i in_j of_a of_b. let x = moved i a t in_i of_a in let y = moved j b t in_j of_b in r.differ i j x.0 y.0 t x.1 y.1 x.2 y.2;
          shares = omega (arith, shares, shares', old_shares, two, r.shares);
          made = omega (arith, mades, mades', old_made, r.made);
          value = elim r.value [
            | inl home ↦ inl (record {
              value = home.value;
              here = home.here;
              commits = home.commits;
              owned = home.owned;
              no_hand = λ j u there. elim (split_cases s.views id j left right u there) [
                | inl own ↦ sym (ap (λ (k : Known O). k.hand) own.1) ∙ home.no_hand id v at
                | inr others ↦ elim others [ inl other ↦ home.no_hand j u other.1 | inr last ↦ sym (ap (λ (k : Known O). k.hand) last) ]
              ];
            })
            | inr out ↦ inr (dite (ℕ_discrete out.id id)
                (λ (e : out.id ≡ id). let mine : v ≡ out.view = one_there s.views id v out.view at (ap (get_elem? s.views) (sym e) ∙ out.there) in
                record { away = out.away; id = id; view = left; there = at_longer (set s.views id left) (right ∷ []) id left (set_here s.views id left here.0); hand = ap (λ (k : Known O). k.hand) mine ∙ out.hand })
                (λ ne. record { away = out.away; id = out.id; view = out.view; there = at_longer (set s.views id left) (right ∷ []) out.id out.view (set_else s.views id out.id left ne ∙ out.there); hand = out.hand }))
          ];
        };
      }

  pub joins : (id other : ℕ) (v w : Known O) → 0 < v.shares → 0 < w.shares → v.ticket ≡ None → w.ticket ≡ None → Joins (IsTurn owner count) id v other w (joined v w) nobody
  joins id other v w live_v live_w idle_v idle_w s h at apart there_w =
      let n = h.n in
      let r = h.right in
      let both : Known O = joined v w in
      let gone : Known O = nobody in
      let at_w : get_elem? s.views other ≡ some w = sym (set_else s.views id other both apart) ∙ there_w in
      let f = r.each id v at live_v in
      let g = r.each other w at_w live_w in
      let stands = idle_stands n v f idle_v in
      let stands_w = idle_stands n w g idle_w in
      let here : (id < length s.views) × (v ≡ get_or s.views id v) = found_at s.views id v at in
      let here_w : (other < length (set s.views id both)) × (w ≡ get_or (set s.views id both) other w) = found_at (set s.views id both) other w there_w in
      let tickets = sum_by-set has_ticket s.views id both v here.0 in
      let shares = sum_by-set (λ (u : Known O). u.shares) s.views id both v here.0 in
      let mades = sum_by-set (λ (u : Known O). u.made) s.views id both v here.0 in
      let tickets' = sum_by-set has_ticket (set s.views id both) other gone w here_w.0 in
      let shares' = sum_by-set (λ (u : Known O). u.shares) (set s.views id both) other gone w here_w.0 in
      let mades' = sum_by-set (λ (u : Known O). u.made) (set s.views id both) other gone w here_w.0 in
      let old_ticket : has_ticket v ≡ has_ticket (get_or s.views id v) = ap has_ticket here.1 in
      let old_shares : v.shares ≡ (get_or s.views id v).shares = ap (λ (u : Known O). u.shares) here.1 in
      let old_made : v.made ≡ (get_or s.views id v).made = ap (λ (u : Known O). u.made) here.1 in
      let old_ticket' : has_ticket w ≡ has_ticket (get_or (set s.views id both) other w) = ap has_ticket here_w.1 in
      let old_shares' : w.shares ≡ (get_or (set s.views id both) other w).shares = ap (λ (u : Known O). u.shares) here_w.1 in
      let old_made' : w.made ≡ (get_or (set s.views id both) other w).made = ap (λ (u : Known O). u.made) here_w.1 in
      let no_ticket_w : has_ticket w ≡ 0 = none_of w idle_w in
      let moved : (j : ℕ) (u : Known O) (t : ℕ) → get_elem? (set (set s.views id both) other gone) j ≡ some u → u.ticket ≡ Some t → (j ≢ other) × (j ≢ id) × (get_elem? s.views j ≡ some u)
      = λ j u t there is. elim (join_cases s.views id other j both gone u there) [
        | inl spent ↦ absurd (no_ticket None t refl (ap (λ (k : Known O). k.ticket) spent.1 ∙ is))
        | inr others ↦ elim others [ inl own ↦ absurd (no_ticket v.ticket t idle_v (ap (λ (k : Known O). k.ticket) own.1 ∙ is)) | inr rest ↦ rest ]
      ] in
      record {
        n = n;
        words = h.words;
        right = record {
          waiting = omega (arith, tickets, tickets', old_ticket, old_ticket', no_ticket_w, r.waiting);
          small = r.small;
          room = r.room;
          each = λ j u there live. elim (join_cases s.views id other j both gone u there) [
            | inl spent ↦ let e = ap (λ (k : Known O). k.shares) spent.1 in absurd (omega (arith, e, live))
            | inr others ↦ elim others [
              | inl own ↦ subst (Fits n) own.1 (record { lined = f.lined; turn = f.turn; counted = f.counted; hand = f.hand; seen = let a = f.seen in let b = g.seen in omega (arith, a, b); seen_now = λ done. absurd (stands.1 done); owner = f.owner; all = f.all; opening = f.opening })
              | inr rest ↦ r.each j u rest.2 live
            ]
          ];
          spent = λ j u there none_left. elim (join_cases s.views id other j both gone u there) [
            | inl spent ↦ subst IsSpent spent.1 (record { ticket = refl; hand = refl; made = refl })
            | inr others ↦ elim others [
              | inl own ↦ let e = ap (λ (k : Known O). k.shares) own.1 in absurd (omega (arith, e, live_v, none_left))
              | inr rest ↦ r.spent j u rest.2 none_left
            ]
          ];
          differ = λ i j a b t in_i in_j of_a of_b. let x = moved i a t in_i of_a in let y = moved j b t in_j of_b in r.differ i j a b t x.2 y.2 of_a of_b;
          shares = omega (arith, shares, shares', old_shares, old_shares', r.shares);
          made = omega (arith, mades, mades', old_made, old_made', r.made);
          value = elim r.value [
            | inl home ↦ inl (record {
              value = home.value;
              here = home.here;
              commits = home.commits;
              owned = home.owned;
              no_hand = λ j u there. elim (join_cases s.views id other j both gone u there) [
                | inl spent ↦ sym (ap (λ (k : Known O). k.hand) spent.1)
                | inr others ↦ elim others [ inl own ↦ sym (ap (λ (k : Known O). k.hand) own.1) ∙ home.no_hand id v at | inr rest ↦ home.no_hand j u rest.2 ]
              ];
            })
            | inr out ↦
                let served = hand_served owner count n s.homes s.views r out.id out.view out.there out.hand in
                let not_id : out.id ≢ id = λ e. no_ticket v.ticket n.serving idle_v (ap (λ (k : Known O). k.ticket) (one_there s.views id v out.view at (ap (get_elem? s.views) (sym e) ∙ out.there)) ∙ served) in
                let not_other : out.id ≢ other = λ e. no_ticket w.ticket n.serving idle_w (ap (λ (k : Known O). k.ticket) (one_there s.views other w out.view at_w (ap (get_elem? s.views) (sym e) ∙ out.there)) ∙ served) in
                inr (record { away = out.away; id = out.id; view = out.view; there = set_else (set s.views id both) other out.id gone not_other ∙ set_else s.views id out.id both not_id ∙ out.there; hand = out.hand })
          ];
        };
      }

pub sum_none : {A : Type 0} (f : A → ℕ) (l : List A) → ((j : ℕ) (b : A) → get_elem? l j ≡ some b → f b ≡ 0) → sum_by f l ≡ 0
sum_none f [] none_has = refl
sum_none f (x ∷ xs) none_has = let s = sum_by-cons f x xs in let head = none_has 0 x refl in let tail = sum_none f xs (λ j b e. none_has (suc j) b e) in omega (arith, s, head, tail)

-- where all others are 0, the sum is the one
pub sum_alone : {A : Type 0} (f : A → ℕ) (l : List A) (i : ℕ) (a : A) → get_elem? l i ≡ some a → ((j : ℕ) (b : A) → j ≢ i → get_elem? l j ≡ some b → f b ≡ 0) → sum_by f l ≡ f a
sum_alone f [] i a e others = absurd (some-ne-none a (sym e))
sum_alone f (x ∷ xs) zero a e others = let s = sum_by-cons f x xs in let same = ap f (some-injective x a e) in let rest = sum_none f xs (λ j b e'. others (suc j) b (λ h. omega arith) e') in omega (arith, s, same, rest)
sum_alone f (x ∷ xs) (suc i) a e others = let s = sum_by-cons f x xs in let head = others 0 x (λ h. omega arith) refl in let rest = sum_alone f xs i a e (λ j b ne e'. others (suc j) b (λ h. ne (omega arith)) e') in omega (arith, s, head, rest)

pub some_same : {A : Type 0} (a b : A) → Some a ≡ Some b → a ≡ b
some_same a b e = cc

pub some_none : {A : Type 0} (y : Option A) (a : A) → y ≡ Some a → y ≡ None → ⊥
some_none y a e f = cc

pub only_one : {A : Type 0} (a : A) (j : ℕ) (b : A) → get_elem? (a ∷ []) j ≡ some b → (j ≡ 0) × (a ≡ b)
only_one a zero b e = (refl, some-injective a b e)
only_one a (suc j) b e = absurd (some-ne-none b (sym e))

module _ {O X : Type 0} (owner : X → O) (count : X → ℕ) where
  -- the turn as it is made
  pub opens : (x : X) (shares : ℕ) → 0 < shares → (count x < 2 ^ 64) × (shares < 2 ^ 32) → IsTurn owner count (opening (0 ∷ 0 ∷ count x ∷ []) (Some x ∷ []) (first_view owner count x shares))
  opens x shares live room =
      let v : Known O = first_view owner count x shares in
      let n : Numbers O = record { ticket = 0; serving = 0; commits = count x; owner = owner x; all = shares; opening = count x } in
      let only : (j : ℕ) (u : Known O) → get_elem? (v ∷ []) j ≡ some u → (j ≡ 0) × (v ≡ u) = only_one v in
      record {
        n = n;
        words = refl;
        right = record {
          waiting = refl;
          small = omega arith;
          room = room;
          each = λ j u there alive. subst (Fits n) (only j u there).1 (record {
            lined = λ t is. absurd (no_ticket None t refl is);
            turn = λ off. absurd (true≢false (sym off));
            counted = λ off. absurd (true≢false (sym off));
            hand = λ off. absurd (true≢false (sym off));
            seen = omega arith;
            seen_now = λ off. absurd (true≢false (sym off));
            owner = refl;
            all = refl;
            opening = refl;
          });
          spent = λ j u there gone. let e = ap (λ (k : Known O). k.shares) (only j u there).1 in absurd (omega (arith, e, live, gone));
          differ = λ i j a b t in_i in_j of_a of_b. (only i a in_i).0 ∙ sym (only j b in_j).0;
          shares = omega arith;
          made = omega arith;
          value = inl (record { value = x; here = refl; commits = refl; owned = refl; no_hand = λ j u there. sym (ap (λ (k : Known O). k.hand) (only j u there).1) });
        };
      }

  -- the one pass that is left
  pub closes : (ws : List ℕ) (xs : List (Option X)) (id : ℕ) (v : Known O) → 0 < v.shares → v.shares ≡ v.all → v.hand ≡ false → Final (Seen (IsTurn owner count) id v) ws xs
      → (x : X) × (get_elem? xs 0 ≡ some (Some x)) × (v.owner ≡ Some (owner x)) × (count x ≡ v.opening + v.made) × (v.seen ≤ count x)
  closes ws xs id v live whole empty fin =
      let s = fin.0 in
      let h = fin.1.0 in
      let at = fin.1.1 in
      let r = h.right in
      let f = r.each id v at live in
      let bare : Known O = record v { shares = 0 } in
      let here : (id < length s.views) × (v ≡ get_or s.views id v) = found_at s.views id v at in
      let shares = sum_by-set (λ (u : Known O). u.shares) s.views id bare v here.0 in
      let old_shares : v.shares ≡ (get_or s.views id v).shares = ap (λ (u : Known O). u.shares) here.1 in
      let gone : (j : ℕ) (u : Known O) → j ≢ id → get_elem? s.views j ≡ some u → IsSpent u = λ j u ne there.
      let b = part_le (λ (k : Known O). k.shares) (set s.views id bare) j u (set_else s.views id j bare ne ∙ there) in
      r.spent j u there (omega (arith, b, shares, old_shares, r.shares, f.all, whole)) in
      let made : sum_by (λ (u : Known O). u.made) s.views ≡ v.made = sum_alone (λ (u : Known O). u.made) s.views id v at (λ j u ne there. (gone j u ne there).made) in
      let home : AtHome owner count h.n s.homes s.views = elim r.value [
        | inl home ↦ home
        | inr out ↦ elim (ℕ_discrete out.id id) [
          | yes e ↦ let mine : v ≡ out.view = one_there s.views id v out.view at (ap (get_elem? s.views) (sym e) ∙ out.there) in absurd (true≢false (sym out.hand ∙ sym (ap (λ (k : Known O). k.hand) mine) ∙ empty))
          | no ne ↦ absurd (true≢false (sym out.hand ∙ (gone out.id out.view ne out.there).hand))
        ]
      ] in (
        home.value,
        fin.4 0 (Some home.value) (ap (λ (hs : List (Home (Option X))). get_elem? hs 0) home.here),
        f.owner ∙ ap Some (sym home.owned),
        (let a = home.commits in let b = r.made in omega (arith, a, b, made, f.opening)),
        (let a = home.commits in let b = f.seen in omega (arith, a, b)),
      )

  -- what was in the slot, as it is taken out of the closed table
  pub last_value : (ws : List ℕ) (xs : List (Option X)) (id : ℕ) (v : Known O) (y : Option X) → 0 < v.shares → v.shares ≡ v.all → v.hand ≡ false → Final (Seen (IsTurn owner count) id v) ws xs → get_elem? xs 0 ≡ some y
      → (x : X) × (y ≡ Some x) × (v.owner ≡ Some (owner x)) × (count x ≡ v.opening + v.made) × (v.seen ≤ count x)
  last_value ws xs id v y live whole empty fin there = let t = closes ws xs id v live whole empty fin in (t.0, one_there xs 0 y (Some t.0) there t.1, t.2, t.3, t.4)

  -- the same, where the slot held a value
  pub last_is : (ws : List ℕ) (xs : List (Option X)) (id : ℕ) (v : Known O) (y : Option X) (z : X) → 0 < v.shares → v.shares ≡ v.all → v.hand ≡ false → Final (Seen (IsTurn owner count) id v) ws xs → get_elem? xs 0 ≡ some y → y ≡ Some z
      → (v.owner ≡ Some (owner z)) × (count z ≡ v.opening + v.made) × (v.seen ≤ count z)
  last_is ws xs id v y z live whole empty fin there is =
      let t = last_value ws xs id v y live whole empty fin there in
      let same : t.0 ≡ z = some_same t.0 z (sym t.1 ∙ is) in
      subst (λ (x : X). (v.owner ≡ Some (owner x)) × (count x ≡ v.opening + v.made) × (v.seen ≤ count x)) same (t.2, t.3, t.4)
