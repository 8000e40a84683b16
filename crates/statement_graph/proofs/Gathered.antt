-- The lists of successors of the statements of a body as they grow.
use Rattle.std.proofs.Common.{◌≡◌, ◌↔◌, ◌⊎◌, ◌+◌, ◌<◌, ◌≤◌, ℕ, List, [], ◌∷◌, ◌++◌, Contains, length, get_or, set, take, sym, ap, ◌∙◌, subst, inl, inr, arith}
use Rattle.std.proofs.lemmas.Bool.{cases_eq}
use Rattle.std.proofs.lemmas.List.{take_all, get_or_default, get_or_append_left, get_or_push, get_or-set_same, get_or-set_other}
use Rattle.std.proofs.lemmas.List.Elements.{Contains-push, Contains-push_cases, Contains-append_left}
use Rattle.clean_base.specs.Lists.{At}
use Rattle.jimple_tree.specs.declared.tree.Body.{Body}
use Rattle.jimple_tree.specs.declared.tree.Catch.{Catch}
use Rattle.jimple_tree.specs.declared.tree.Stmt.{Stmt}
use Rattle.jimple_tree.specs.Successors.{Succ}
use Rattle.statement_graph.specs.Successors.{IsOwn, Handles, IsCaught}
use Rattle.statement_graph.proofs.Places.{both_more, none_more, none_caught, caught_more, at_once, succ_of}

-- each statement itself

abbrev pub OwnBelow : List Stmt → List (List ℕ) → ℕ → Type 0
OwnBelow ss lists n = (s t : ℕ) (stmt : Stmt) → s < n → At ss s stmt → Contains (get_or lists s []) t ↔ IsOwn stmt (length ss) s t

pub own_more : (ss : List Stmt) (count at : ℕ) (old new : List (List ℕ)) (ts : List ℕ) (stmt : Stmt) → count ≡ length ss → at < length ss → stmt ≡ get_or ss at stmt → length old ≡ at
    → OwnBelow ss old at → ((t : ℕ) → Contains ts t ↔ IsOwn stmt count at t) → new ≡ old ++ ts ∷ [] → OwnBelow ss new (at + 1)
own_more ss count at old new ts stmt counted within is long own itself more s t x below there = elim (cases_eq s at) [
  | inl same ↦
      let here : At ss at x = subst (λ (i : ℕ). At ss i x) same there in
      let one : stmt ≡ x = at_once ss at stmt x (within, sym is) here in
      let list : get_or new at [] ≡ ts = ap (λ (ls : List (List ℕ)). get_or ls at []) more ∙ get_or_push old ts [] at long in
      let at_here : Contains (get_or new at []) t ↔ IsOwn x (length ss) at t =
      subst (λ (us : List ℕ). Contains us t ↔ IsOwn x (length ss) at t) (sym list)
      (subst (λ (y : Stmt). Contains ts t ↔ IsOwn y (length ss) at t) one
      (subst (λ (n : ℕ). Contains ts t ↔ IsOwn stmt n at t) counted (itself t))) in
      subst (λ (i : ℕ). Contains (get_or new i []) t ↔ IsOwn x (length ss) i t) (sym same) at_here
  | inr other ↦
      let less : s < at = omega (arith, below, other) in
      let list : get_or new s [] ≡ get_or old s [] = ap (λ (ls : List (List ℕ)). get_or ls s []) more ∙ get_or_append_left old (ts ∷ []) [] s (omega (arith, less, long)) in
      subst (λ (us : List ℕ). Contains us t ↔ IsOwn x (length ss) s t) (sym list) (own s t x less there)
]

-- a clause at the statements of its range

abbrev pub HandledBelow : Catch → List (List ℕ) → List (List ℕ) → ℕ → Type 0
HandledBelow c first lists at = (s t : ℕ) → s < length first → Contains (get_or lists s []) t ↔ (Contains (get_or first s []) t ⊎ ((c.from ≤ s) × (s < at) × (t ≡ c.with)))

pub none_handled : (c : Catch) (first : List (List ℕ)) → HandledBelow c first first c.from
none_handled c first s t within = none_more (Contains (get_or first s []) t) _ (λ h. let from = h.0 in let below = h.1 in omega (arith, from, below))

pub handled_more : (c : Catch) (first old new : List (List ℕ)) (at : ℕ) → c.from ≤ at → at < length first → length old ≡ length first → new ≡ set old at (get_or old at [] ++ c.with ∷ [])
    → HandledBelow c first old at → HandledBelow c first new (at + 1)
handled_more c first old new at from within long more before s t below = elim (cases_eq s at) [ inl same ↦ here same | inr other ↦ there other ] where
  here : s ≡ at → Contains (get_or new s []) t ↔ (Contains (get_or first s []) t ⊎ ((c.from ≤ s) × (s < at + 1) × (t ≡ c.with)))
  here same = (forth, back) where
    list : get_or new s [] ≡ get_or old s [] ++ c.with ∷ []
    list = ap (λ (i : ℕ). get_or new i []) same ∙ ap (λ (ls : List (List ℕ)). get_or ls at []) more ∙ get_or-set_same old at (get_or old at [] ++ c.with ∷ []) [] (omega (arith, within, long))
        ∙ ap (λ (i : ℕ). get_or old i [] ++ c.with ∷ []) (sym same)

    forth : Contains (get_or new s []) t → Contains (get_or first s []) t ⊎ ((c.from ≤ s) × (s < at + 1) × (t ≡ c.with))
    forth has = elim (Contains-push_cases (get_or old s []) c.with t (subst (λ (us : List ℕ). Contains us t) list has)) [
      | inl early ↦ elim ((before s t below).0 early) [ inl f ↦ inl f | inr h ↦ inr (h.0, (let less = h.1 in omega (arith, less)), h.2) ]
      | inr last ↦ inr ((omega (arith, from, same)), (omega (arith, same)), sym last)
    ]

    back : Contains (get_or first s []) t ⊎ ((c.from ≤ s) × (s < at + 1) × (t ≡ c.with)) → Contains (get_or new s []) t
    back (inl f) = subst (λ (us : List ℕ). Contains us t) (sym list) (Contains-append_left (get_or old s []) (c.with ∷ []) t ((before s t below).1 (inl f)))
    back (inr h) = subst (λ (us : List ℕ). Contains us t) (sym list) (subst (λ (u : ℕ). Contains (get_or old s [] ++ c.with ∷ []) u) (sym h.2) (Contains-push (get_or old s []) c.with))

  there : (s ≡ at → ⊥) → Contains (get_or new s []) t ↔ (Contains (get_or first s []) t ⊎ ((c.from ≤ s) × (s < at + 1) × (t ≡ c.with)))
  there other = (forth, back) where
    list : get_or new s [] ≡ get_or old s []
    list = ap (λ (ls : List (List ℕ)). get_or ls s []) more ∙ get_or-set_other old at s (get_or old at [] ++ c.with ∷ []) [] other

    forth : Contains (get_or new s []) t → Contains (get_or first s []) t ⊎ ((c.from ≤ s) × (s < at + 1) × (t ≡ c.with))
    forth has = elim ((before s t below).0 (subst (λ (us : List ℕ). Contains us t) list has)) [ inl f ↦ inl f | inr h ↦ inr (h.0, (let less = h.1 in omega (arith, less)), h.2) ]

    back : Contains (get_or first s []) t ⊎ ((c.from ≤ s) × (s < at + 1) × (t ≡ c.with)) → Contains (get_or new s []) t
    back (inl f) = subst (λ (us : List ℕ). Contains us t) (sym list) ((before s t below).1 (inl f))
    back (inr h) = subst (λ (us : List ℕ). Contains us t) (sym list) ((before s t below).1 (inr (h.0, (let less = h.1 in omega (arith, less, other)), h.2)))

pub handled_all : (c : Catch) (first lists : List (List ℕ)) (at : ℕ) → c.to ≤ at → (c.from ≤ c.to → at ≤ c.to) → (c.to ≤ c.from → at ≤ c.from) → HandledBelow c first lists at
    → (s t : ℕ) → s < length first → Contains (get_or lists s []) t ↔ (Contains (get_or first s []) t ⊎ Handles c s t)
handled_all c first lists at past short early h s t within = (forth, back) where
  forth : Contains (get_or lists s []) t → Contains (get_or first s []) t ⊎ Handles c s t
  forth has = elim ((h s t within).0 has) [ inl f ↦ inl f | inr k ↦ inr (k.0, inside k.0 k.1, k.2) ] where
    inside : c.from ≤ s → s < at → s < c.to
    inside from less = elim (cases_le c.from c.to) [ inl up ↦ (let e = short up in omega (arith, e, less)) | inr down ↦ (let e = early down in absurd (omega (arith, e, from, less))) ] where
      cases_le : (a b : ℕ) → (a ≤ b) ⊎ (b ≤ a)
      cases_le a b = grind arith

  back : Contains (get_or first s []) t ⊎ Handles c s t → Contains (get_or lists s []) t
  back (inl f) = (h s t within).1 (inl f)
  back (inr k) = (h s t within).1 (inr (k.0, (let less = k.1 in omega (arith, less, past)), k.2))

-- the clauses

abbrev pub CaughtAt : List Catch → List (List ℕ) → List (List ℕ) → Type 0
CaughtAt catches first lists = (s t : ℕ) → s < length first → Contains (get_or lists s []) t ↔ (Contains (get_or first s []) t ⊎ IsCaught catches s t)

pub none_caught_at : (first : List (List ℕ)) → CaughtAt [] first first
none_caught_at first s t within = none_more (Contains (get_or first s []) t) (IsCaught [] s t) (none_caught s t)

pub caught_at_more : (catches : List Catch) (i : ℕ) (c : Catch) (first old new : List (List ℕ)) → i < length catches → c ≡ get_or catches i c → length old ≡ length first → CaughtAt (take i catches) first old
    → ((s t : ℕ) → s < length old → Contains (get_or new s []) t ↔ (Contains (get_or old s []) t ⊎ Handles c s t)) → CaughtAt (take (i + 1) catches) first new
caught_at_more catches i c first old new below is long before one s t within =
    both_more (Contains (get_or first s []) t) (IsCaught (take i catches) s t) (Handles c s t) (IsCaught (take (i + 1) catches) s t) (Contains (get_or old s []) t) (Contains (get_or new s []) t)
    (before s t within) (one s t (omega (arith, within, long))) (caught_more catches i c s t below is)

pub caught_at_all : (catches : List Catch) (i : ℕ) (first lists : List (List ℕ)) → length catches ≤ i → CaughtAt (take i catches) first lists → CaughtAt catches first lists
caught_at_all catches i first lists past = subst (λ (cs : List Catch). CaughtAt cs first lists) (take_all i catches past)

-- a body

pub body_lists : (b : Body) (own all : List (List ℕ)) → length own ≡ length b.stmts → ((s t : ℕ) (stmt : Stmt) → At b.stmts s stmt → Contains (get_or own s []) t ↔ IsOwn stmt (length b.stmts) s t)
    → CaughtAt b.catches own all → (s t : ℕ) → s < length b.stmts → Contains (get_or all s []) t ↔ Succ b s t
body_lists b own all long itself gathered s t below = with_stmt (stmt_there b.stmts s below) where
  stmt_there : (ss : List Stmt) (n : ℕ) → n < length ss → (x : Stmt) × At ss n x
  stmt_there [] n below = absurd (omega (arith, below))
  stmt_there (x ∷ ss) n below = (get_or (x ∷ ss) n x, (below, get_or_default (x ∷ ss) n (get_or (x ∷ ss) n x) x below))

  with_stmt : (x : Stmt) × At b.stmts s x → Contains (get_or all s []) t ↔ Succ b s t
  with_stmt (stmt, at) = (there, back) where
    there : Contains (get_or all s []) t → Succ b s t
    there has = (succ_of b s t stmt at).0 (elim ((gathered s t (omega (arith, below, long))).0 has) [ inl o ↦ inl ((itself s t stmt at).0 o) | inr c ↦ inr c ])

    back : Succ b s t → Contains (get_or all s []) t
    back h = (gathered s t (omega (arith, below, long))).1 (elim ((succ_of b s t stmt at).1 h) [ inl o ↦ inl ((itself s t stmt at).1 o) | inr c ↦ inr c ])

pub lists_exact : (b : Body) (stmts : List Stmt) (catches : List Catch) (items own all : List (List ℕ)) → stmts ≡ b.stmts → catches ≡ b.catches → own ≡ items → length items ≡ length stmts
    → ((s t : ℕ) (stmt : Stmt) → At stmts s stmt → Contains (get_or items s []) t ↔ IsOwn stmt (length stmts) s t)
    → CaughtAt catches own all → (s t : ℕ) → s < length b.stmts → Contains (get_or all s []) t ↔ Succ b s t
lists_exact b stmts catches items own all are those same long itself gathered =
    body_lists b own all (ap (λ (ls : List (List ℕ)). length ls) same ∙ long ∙ ap (λ (ss : List Stmt). length ss) are)
    (subst (λ (ls : List (List ℕ)). (s t : ℕ) (stmt : Stmt) → At b.stmts s stmt → Contains (get_or ls s []) t ↔ IsOwn stmt (length b.stmts) s t) (sym same)
    (subst (λ (ss : List Stmt). (s t : ℕ) (stmt : Stmt) → At ss s stmt → Contains (get_or items s []) t ↔ IsOwn stmt (length ss) s t) are itself))
    (subst (λ (cs : List Catch). CaughtAt cs own all) those gathered)
