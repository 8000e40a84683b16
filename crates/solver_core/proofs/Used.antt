-- Room of the tables that is used: by a new caller, a new exit, a context that is opened, and by two of these together.
use Rattle.std.specs.Prelude.{◌≡◌, ◌⊎◌, ◌≤◌, ◌<◌, ℕ, zero, suc, ◌+◌, List, [], ◌∷◌, ◌++◌, length, slice_set, slice_index, Contains}
use Rattle.std.proofs.Common.{arith, sym, ◌∙◌, ap, subst, inl, inr, refl}
use Rattle.std.proofs.lemmas.List.{length_push, get_or_append_left}
use Rattle.std.proofs.lemmas.List.Elements.{Contains-push, Contains-append_left}
use Rattle.entry_tables.specs.Lists.{list_at, KeepsRoom, UsesRoomAt}
use Rattle.entry_tables.specs.Tables.{Tables, callers_of, exits_of}
use Rattle.entry_tables.specs.declared.tables.CallSite.{CallSite}
use Rattle.ifds_model.specs.declared.node.Context.{Context}
use Rattle.ifds_model.specs.State.{At}
use Rattle.ifds_model.proofs.Members.{same_number_or_not}
use Rattle.solver_core.specs.Room.{HasPlaceFor, Uses}

-- a list that is one longer is longer by one at most
list_grown : {X : Type 0} (rows : List (List X)) (i k : ℕ) (x : X) → length (list_at (slice_set rows i (list_at rows i ++ x ∷ [])) k) ≤ length (list_at rows k) + 1
list_grown [] i k x = omega arith
list_grown (row ∷ rows) zero zero x = omega (arith, length_push row x)
list_grown (row ∷ rows) zero (suc k) x = omega arith
list_grown (row ∷ rows) (suc i) zero x = omega arith
list_grown (row ∷ rows) (suc i) (suc k) x = list_grown rows i k x

-- a list more is empty
list_blank : {X : Type 0} (rows : List (List X)) (k : ℕ) → length (list_at (rows ++ [] ∷ []) k) ≡ length (list_at rows k)
list_blank [] zero = omega arith
list_blank [] (suc k) = omega arith
list_blank (row ∷ rows) zero = omega arith
list_blank (row ∷ rows) (suc k) = list_blank rows k

-- past the last list there is none
list_past : {X : Type 0} (rows : List (List X)) (k : ℕ) → length rows ≤ k → length (list_at rows k) ≡ 0
list_past [] k past = omega arith
list_past (row ∷ rows) zero past = absurd (omega (arith, past))
list_past (row ∷ rows) (suc k) past = list_past rows k (omega (arith, past))

-- what a list has stays in it, and what it got is there
list_kept : {X : Type 0} (rows : List (List X)) (i k : ℕ) (x y : X) → Contains (list_at rows k) y → Contains (list_at (slice_set rows i (list_at rows i ++ x ∷ [])) k) y
list_kept [] i k x y has = absurd (omega (arith, has.1))
list_kept (row ∷ rows) zero zero x y has = Contains-append_left row (x ∷ []) y has
list_kept (row ∷ rows) zero (suc k) x y has = has
list_kept (row ∷ rows) (suc i) zero x y has = has
list_kept (row ∷ rows) (suc i) (suc k) x y has = list_kept rows i k x y has

list_got : {X : Type 0} (rows : List (List X)) (i : ℕ) (x : X) → i < length rows → Contains (list_at (slice_set rows i (list_at rows i ++ x ∷ [])) i) x
list_got [] i x below = absurd (omega (arith, below))
list_got (row ∷ rows) zero x below = Contains-push row x
list_got (row ∷ rows) (suc i) x below = list_got rows i x (omega (arith, below))

list_blank_kept : {X : Type 0} (rows : List (List X)) (k : ℕ) (y : X) → Contains (list_at rows k) y → Contains (list_at (rows ++ [] ∷ []) k) y
list_blank_kept [] k y has = absurd (omega (arith, has.1))
list_blank_kept (row ∷ rows) zero y has = has
list_blank_kept (row ∷ rows) (suc k) y has = list_blank_kept rows k y has

room_used : (n : ℕ) (old new : List ℕ) → UsesRoomAt n old new → (k : ℕ) → slice_index old k ≤ slice_index new k + 1
room_used n old new used k = elim (same_number_or_not k n) [
  | inl same ↦ subst (λ (m : ℕ). slice_index old m ≤ slice_index new m + 1) (sym same) used.0
  | inr other ↦ omega (arith, used.1 k other)
]

-- a context is one of the old ones, or the new one
pushed_cases : {X : Type 0} (xs : List X) (y : X) (k : ℕ) (x : X) → At (xs ++ y ∷ []) k x → At xs k x ⊎ ((length xs ≡ k) × (y ≡ x))
pushed_cases [] y zero x at = inr (omega arith, at.1)
pushed_cases [] y (suc k) x at = absurd (omega (arith, at.0))
pushed_cases (z ∷ xs) y zero x at = inl (omega arith, at.1)
pushed_cases (z ∷ xs) y (suc k) x at = elim (pushed_cases xs y k x (omega (arith, at.0), at.1)) [
  | inl was ↦ inl (omega (arith, was.0), was.1)
  | inr last ↦ inr (omega (arith, last.0), last.1)
]

module _ {F : Type 0} (old new : Tables F) where
  -- tables that keep their contexts
  module _ (contexts : new.contexts ≡ old.contexts) (spare : new.spare_contexts ≡ old.spare_contexts) (first : new.first_callers ≡ old.first_callers) where
    same_at : (k : ℕ) (d : Context F) → At old.contexts k d → At new.contexts k d
    same_at k d at = subst (λ (cs : List (Context F)). At cs k d) (sym contexts) at

    same_from : (k : ℕ) (d : Context F) → At new.contexts k d → At old.contexts k d
    same_from k d at = subst (λ (cs : List (Context F)). At cs k d) contexts at

    -- where no exit comes, and each place for a caller is kept
    uses_callers : (site : CallSite) → new.exits ≡ old.exits → new.spare_exits ≡ old.spare_exits → ((k : ℕ) → length (callers_of new k) ≤ length (callers_of old k) + 1)
        → ((k : ℕ) → HasPlaceFor site old k → HasPlaceFor site new k) → Uses site 0 1 0 old new
    uses_callers site exits spare_exits callers places = record {
      at = same_at;
      from = λ k d at. inl (same_from k d at);
      room = omega (arith, spare);
      first = first;
      callers_more = callers;
      exits_more = λ k. omega (arith, ap (λ (rows : List (List F)). length (list_at rows k)) exits);
      places = places;
      spare_exits = λ k. omega (arith, ap (λ (rooms : List ℕ). slice_index rooms k) spare_exits);
    }

    -- the context of a number has the caller, and the others their room
    places_at : (n : ℕ) (site : CallSite) → ((k : ℕ) (c : CallSite) → Contains (callers_of old k) c → Contains (callers_of new k) c) → Contains (callers_of new n) site → UsesRoomAt n old.spare_callers new.spare_callers
        → (k : ℕ) → HasPlaceFor site old k → HasPlaceFor site new k
    places_at n site kept there used k place = elim (same_number_or_not k n) [
      | inl same ↦ inl (subst (λ (m : ℕ). Contains (callers_of new m) site) (sym same) there)
      | inr other ↦ elim place [ inl has ↦ inl (kept k site has) | inr some ↦ inr (omega (arith, some, used.1 k other)) ]
    ]

    -- a caller more
    pub uses_caller : (n : ℕ) (c : CallSite) → n < length old.callers → new.callers ≡ slice_set old.callers n (callers_of old n ++ c ∷ []) → new.exits ≡ old.exits → UsesRoomAt n old.spare_callers new.spare_callers → new.spare_exits ≡ old.spare_exits → Uses c 0 1 0 old new
    uses_caller n c below set exits spare_callers spare_exits = uses_callers c exits spare_exits
        (λ k. subst (λ (rows : List (List CallSite)). length (list_at rows k) ≤ length (callers_of old k) + 1) (sym set) (list_grown old.callers n k c))
        (places_at n c
        (λ k d has. subst (λ (rows : List (List CallSite)). Contains (list_at rows k) d) (sym set) (list_kept old.callers n k c d has))
        (subst (λ (rows : List (List CallSite)). Contains (list_at rows n) c) (sym set) (list_got old.callers n c below))
        spare_callers)

    -- a caller that was there
    pub uses_no_caller : (n : ℕ) (c : CallSite) → Contains (callers_of old n) c → new.callers ≡ old.callers → new.exits ≡ old.exits → UsesRoomAt n old.spare_callers new.spare_callers → new.spare_exits ≡ old.spare_exits → Uses c 0 1 0 old new
    uses_no_caller n c has same exits spare_callers spare_exits =
        let kept : (k : ℕ) (d : CallSite) → Contains (callers_of old k) d → Contains (callers_of new k) d = λ k d there. subst (λ (rows : List (List CallSite)). Contains (list_at rows k) d) (sym same) there in
        uses_callers c exits spare_exits
        (λ k. omega (arith, ap (λ (rows : List (List CallSite)). length (list_at rows k)) same))
        (places_at n c kept (kept n c has) spare_callers)

    -- where no caller comes
    uses_exits : (site : CallSite) → new.callers ≡ old.callers → new.spare_callers ≡ old.spare_callers → ((k : ℕ) → length (exits_of new k) ≤ length (exits_of old k) + 1)
        → ((k : ℕ) → slice_index old.spare_exits k ≤ slice_index new.spare_exits k + 1) → Uses site 0 0 1 old new
    uses_exits site callers spare_callers exits spare_exits = record {
      at = same_at;
      from = λ k d at. inl (same_from k d at);
      room = omega (arith, spare);
      first = first;
      callers_more = λ k. omega (arith, ap (λ (rows : List (List CallSite)). length (list_at rows k)) callers);
      exits_more = exits;
      places = λ k place. elim place [
        | inl has ↦ inl (subst (λ (rows : List (List CallSite)). Contains (list_at rows k) site) (sym callers) has)
        | inr some ↦ inr (subst (λ (rooms : List ℕ). 0 < slice_index rooms k) (sym spare_callers) some)
      ];
      spare_exits = spare_exits;
    }

    -- an exit more
    pub uses_exit : (site : CallSite) (n : ℕ) (x : F) → new.exits ≡ slice_set old.exits n (exits_of old n ++ x ∷ []) → new.callers ≡ old.callers → UsesRoomAt n old.spare_exits new.spare_exits → new.spare_callers ≡ old.spare_callers → Uses site 0 0 1 old new
    uses_exit site n x set callers spare_exits spare_callers = uses_exits site callers spare_callers
        (λ k. subst (λ (rows : List (List F)). length (list_at rows k) ≤ length (exits_of old k) + 1) (sym set) (list_grown old.exits n k x))
        (room_used n old.spare_exits new.spare_exits spare_exits)

    -- an exit that was there
    pub uses_no_exit : (site : CallSite) (n : ℕ) → new.exits ≡ old.exits → new.callers ≡ old.callers → UsesRoomAt n old.spare_exits new.spare_exits → new.spare_callers ≡ old.spare_callers → Uses site 0 0 1 old new
    uses_no_exit site n same callers spare_exits spare_callers = uses_exits site callers spare_callers
        (λ k. omega (arith, ap (λ (rows : List (List F)). length (list_at rows k)) same))
        (room_used n old.spare_exits new.spare_exits spare_exits)

  -- a context that is opened
  pub uses_context : (site : CallSite) (d : Context F) (number : ℕ) → (Contains old.contexts d → ⊥) → length old.exits ≡ length old.contexts → number ≡ length old.contexts → new.contexts ≡ old.contexts ++ d ∷ [] → new.callers ≡ old.callers ++ [] ∷ [] → new.exits ≡ old.exits ++ [] ∷ []
      → old.spare_contexts ≤ new.spare_contexts + 1 → new.first_callers ≡ old.first_callers → old.first_callers ≤ slice_index new.spare_callers number → KeepsRoom old.spare_callers new.spare_callers → KeepsRoom old.spare_exits new.spare_exits → Uses site 1 0 0 old new
  uses_context site d number fresh exits_long is contexts callers exits spare first ready spare_callers spare_exits = record {
    at = λ k e at. subst (λ (cs : List (Context F)). At cs k e) (sym contexts) (omega (arith, length_push old.contexts d, at.0), get_or_append_left old.contexts (d ∷ []) e k at.0 ∙ at.1);
    from = λ k e at. elim (pushed_cases old.contexts d k e (subst (λ (cs : List (Context F)). At cs k e) contexts at)) [
      | inl was ↦ inl was
      | inr last ↦ inr (
        λ has. fresh (subst (λ (c : Context F). Contains old.contexts c) (sym last.1) has),
        λ some. inr (omega (arith, some, subst (λ (n : ℕ). old.first_callers ≤ slice_index new.spare_callers n) (is ∙ last.0) ready)),
        omega (arith, ap (λ (rows : List (List F)). length (list_at rows k)) exits, list_blank old.exits k, list_past old.exits k (omega (arith, exits_long, last.0))),
      )
    ];
    room = spare;
    first = first;
    callers_more = λ k. omega (arith, ap (λ (rows : List (List CallSite)). length (list_at rows k)) callers, list_blank old.callers k);
    exits_more = λ k. omega (arith, ap (λ (rows : List (List F)). length (list_at rows k)) exits, list_blank old.exits k);
    places = λ k place. elim place [
      | inl has ↦ inl (subst (λ (rows : List (List CallSite)). Contains (list_at rows k) site) (sym callers) (list_blank_kept old.callers k site has))
      | inr some ↦ inr (omega (arith, some, spare_callers k))
    ];
    spare_exits = λ k. omega (arith, spare_exits k);
  }

  -- tables that stay
  pub uses_none : (site : CallSite) → new ≡ old → Uses site 0 0 0 old new
  uses_none site same = subst (λ (t : Tables F). Uses site 0 0 0 old t) (sym same) (record {
    at = λ k d at. at;
    from = λ k d at. inl at;
    room = omega arith;
    first = refl;
    callers_more = λ k. omega arith;
    exits_more = λ k. omega arith;
    places = λ k place. place;
    spare_exits = λ k. omega arith;
  })

  -- a bound that is larger
  pub uses_more : (site : CallSite) (contexts callers exits more others leaves : ℕ) → contexts ≤ more → callers ≤ others → exits ≤ leaves → Uses site contexts callers exits old new → Uses site more others leaves old new
  uses_more site contexts callers exits more others leaves wide long high u = record {
    at = u.at;
    from = λ k d at. elim (u.from k d at) [ inl was ↦ inl was | inr came ↦ inr (came.0, came.1, omega (arith, came.2, high)) ];
    room = omega (arith, u.room, wide);
    first = u.first;
    callers_more = λ k. omega (arith, u.callers_more k, long);
    exits_more = λ k. omega (arith, u.exits_more k, high);
    places = u.places;
    spare_exits = λ k. omega (arith, u.spare_exits k, high);
  }

-- one after the other
pub uses_both : {F : Type 0} (site : CallSite) (old mid new : Tables F) (a b c d e f : ℕ) → Uses site a b c old mid → Uses site d e f mid new → Uses site (a + d) (b + e) (c + f) old new
uses_both {F} site old mid new a b c d e f u v = record {
  at = λ k x at. v.at k x (u.at k x at);
  from = λ k x at. elim (v.from k x at) [
    | inl was ↦ elim (u.from k x was) [
      | inl before ↦ inl before
      | inr came ↦ inr (came.0, λ some. v.places k (came.1 some), omega (arith, came.2, v.exits_more k))
    ]
    | inr came ↦ inr (
      λ has. came.0 (kept has),
      λ some. came.1 (omega (arith, some, u.first)),
      omega (arith, came.2),
    )
  ];
  room = omega (arith, u.room, v.room);
  first = v.first ∙ u.first;
  callers_more = λ k. omega (arith, u.callers_more k, v.callers_more k);
  exits_more = λ k. omega (arith, u.exits_more k, v.exits_more k);
  places = λ k place. v.places k (u.places k place);
  spare_exits = λ k. omega (arith, u.spare_exits k, v.spare_exits k);
}
  where
    kept : {x : Context F} → Contains old.contexts x → Contains mid.contexts x
    kept {x} has = let now = u.at has.0 x (has.1, has.2) in (has.0, now.0, now.1)
