-- What stands in lists of places as they grow, and where a statement of a body leads.
use Rattle.std.proofs.Common.{◌≡◌, ◌↔◌, ◌⊎◌, ◌+◌, ◌<◌, ◌≤◌, ℕ, List, [], ◌∷◌, ◌++◌, Contains, All, length, get_or, take, map, refl, sym, ap, ◌∙◌, subst, inl, inr, arith}
use Rattle.std.proofs.lemmas.List.{take_more, get_or_default}
use Rattle.std.proofs.lemmas.List.Elements.{All-contains, All-map, Contains-push, Contains-push_cases, Contains-append_left}
use Rattle.clean_base.specs.Lists.{At}
use Rattle.jimple_tree.specs.Labels.{targets_of}
use Rattle.jimple_tree.specs.WellFormed.{BodyFits, CatchFits, StmtFits, TargetFits}
use Rattle.jimple_tree.specs.declared.tree.Body.{Body}
use Rattle.jimple_tree.specs.declared.tree.Case.{Case}
use Rattle.jimple_tree.specs.declared.tree.Catch.{Catch}
use Rattle.jimple_tree.specs.declared.tree.Stmt.{Stmt}
use Rattle.jimple_tree.specs.declared.tree.Stmt.TheVariants as stmts
use Rattle.jimple_tree.specs.Successors.{GoesOn, Succ}
use Rattle.statement_graph.specs.Successors.{IsOwn, Handles, IsCaught}
use Rattle.jimple_tree.specs.Successors.Succ.{falls, jumps, caught}

pub none_more : (A P : Type 0) → (P → ⊥) → A ↔ (A ⊎ P)
none_more A P never = (there, back) where
  there : A → A ⊎ P
  there a = inl a

  back : A ⊎ P → A
  back (inl a) = a
  back (inr p) = absurd (never p)

-- one more place, where it holds that it belongs there
pub one_place : (old new : List ℕ) (x : ℕ) (P : ℕ → Type 0) → new ≡ old ++ x ∷ [] → P x → ((t : ℕ) → P t → t ≡ x) → (t : ℕ) → Contains new t ↔ (Contains old t ⊎ P t)
one_place old new x P is here once t = (there, back) where
  there : Contains new t → Contains old t ⊎ P t
  there has = elim (Contains-push_cases old x t (subst (λ (xs : List ℕ). Contains xs t) is has)) [
    | inl early ↦ inl early
    | inr same ↦ inr (subst P same here)
  ]

  back : Contains old t ⊎ P t → Contains new t
  back (inl early) = subst (λ (xs : List ℕ). Contains xs t) (sym is) (Contains-append_left old (x ∷ []) t early)
  back (inr p) = subst (λ (xs : List ℕ). Contains xs t) (sym is) (subst (λ (y : ℕ). Contains (old ++ x ∷ []) y) (sym (once t p)) (Contains-push old x))

-- what is added first, and what then
pub both_more : (A B C D M N : Type 0) → M ↔ (A ⊎ B) → N ↔ (M ⊎ C) → D ↔ (B ⊎ C) → N ↔ (A ⊎ D)
both_more A B C D M N m n d = (there, back) where
  there : N → A ⊎ D
  there h = elim (n.0 h) [
    | inl early ↦ elim (m.0 early) [ inl a ↦ inl a | inr b ↦ inr (d.1 (inl b)) ]
    | inr late ↦ inr (d.1 (inr late))
  ]

  back : A ⊎ D → N
  back (inl a) = n.1 (inl (m.1 (inl a)))
  back (inr h) = elim (d.0 h) [ inl b ↦ n.1 (inl (m.1 (inr b))) | inr c ↦ n.1 (inr c) ]

-- a statement itself
pub own_of : (stmt : Stmt) (count s : ℕ) (empty named all : List ℕ) → empty ≡ [] → named ≡ empty ++ targets_of stmt
    → ((t : ℕ) → Contains all t ↔ (Contains named t ⊎ (GoesOn stmt × (t ≡ s + 1) × (t < count)))) → (t : ℕ) → Contains all t ↔ IsOwn stmt count s t
own_of stmt count s empty named all none is more t =
    subst (λ (xs : List ℕ). Contains all t ↔ (Contains xs t ⊎ (GoesOn stmt × (t ≡ s + 1) × (t < count)))) (is ∙ ap (λ (xs : List ℕ). xs ++ targets_of stmt) none) (more t)

pub next_out : (stmt : Stmt) (count s : ℕ) (old : List ℕ) → (GoesOn stmt → s + 1 < count → ⊥) → (t : ℕ) → Contains old t ↔ (Contains old t ⊎ (GoesOn stmt × (t ≡ s + 1) × (t < count)))
next_out stmt count s old never t = none_more (Contains old t) _ (λ h. never h.0 (subst (λ (x : ℕ). x < count) h.1 h.2))

pub next_in : (stmt : Stmt) (count s : ℕ) (old new : List ℕ) → GoesOn stmt → s + 1 < count → new ≡ old ++ (s + 1) ∷ [] → (t : ℕ) → Contains new t ↔ (Contains old t ⊎ (GoesOn stmt × (t ≡ s + 1) × (t < count)))
next_in stmt count s old new on below is = one_place old new (s + 1) (λ t. GoesOn stmt × (t ≡ s + 1) × (t < count)) is (on, refl, below) (λ t h. h.1)

-- the clauses that catch
pub handler_out : (c : Catch) (s : ℕ) (old : List ℕ) → (c.from ≤ s → s < c.to → ⊥) → (t : ℕ) → Contains old t ↔ (Contains old t ⊎ Handles c s t)
handler_out c s old never t = none_more (Contains old t) (Handles c s t) (λ h. never h.0 h.1)

pub handler_in : (c : Catch) (s : ℕ) (old new : List ℕ) → c.from ≤ s → s < c.to → new ≡ old ++ c.with ∷ [] → (t : ℕ) → Contains new t ↔ (Contains old t ⊎ Handles c s t)
handler_in c s old new from to is = one_place old new c.with (Handles c s) is (from, to, refl) (λ t h. h.2)

pub none_caught : (s t : ℕ) → IsCaught [] s t → ⊥
none_caught s t (c, (k, below, is), h) = absurd (omega (arith, below))

pub caught_more : (catches : List Catch) (i : ℕ) (c : Catch) (s t : ℕ) → i < length catches → c ≡ get_or catches i c → IsCaught (take (i + 1) catches) s t ↔ (IsCaught (take i catches) s t ⊎ Handles c s t)
caught_more catches i c s t below is = (there, back) where
  next : take (i + 1) catches ≡ take i catches ++ c ∷ []
  next = take_more catches i c below ∙ ap (λ (x : Catch). take i catches ++ x ∷ []) (sym is)

  there : IsCaught (take (i + 1) catches) s t → IsCaught (take i catches) s t ⊎ Handles c s t
  there (d, has, h) = elim (Contains-push_cases (take i catches) c d (subst (λ (cs : List Catch). Contains cs d) next has)) [
    | inl early ↦ inl (d, early, h)
    | inr same ↦ inr (subst (λ (x : Catch). Handles x s t) (sym same) h)
  ]

  back : IsCaught (take i catches) s t ⊎ Handles c s t → IsCaught (take (i + 1) catches) s t
  back (inl (d, has, h)) = (d, subst (λ (cs : List Catch). Contains cs d) (sym next) (Contains-append_left (take i catches) (c ∷ []) d has), h)
  back (inr h) = (c, subst (λ (cs : List Catch). Contains cs c) (sym next) (Contains-push (take i catches) c), h)

-- one item at a place
pub at_once : {X : Type 0} (xs : List X) (n : ℕ) (x y : X) → At xs n x → At xs n y → x ≡ y
at_once xs n x y a b = sym a.1 ∙ get_or_default xs n x y a.0 ∙ b.1

-- a statement and the clauses give its successors
pub succ_of : (b : Body) (s t : ℕ) (stmt : Stmt) → At b.stmts s stmt → (IsOwn stmt (length b.stmts) s t ⊎ IsCaught b.catches s t) ↔ Succ b s t
succ_of b s t stmt at = (there, back) where
  there : IsOwn stmt (length b.stmts) s t ⊎ IsCaught b.catches s t → Succ b s t
  there (inl (inl named)) = jumps stmt at named
  there (inl (inr (on, next, below))) = falls stmt at on next below
  there (inr (c, has, (from, to, is))) = caught c has from to is

  back : Succ b s t → IsOwn stmt (length b.stmts) s t ⊎ IsCaught b.catches s t
  back (falls other stands on next below) = inl (inr (subst GoesOn (at_once b.stmts s other stmt stands at) on, next, below))
  back (jumps other stands named) = inl (inl (subst (λ (x : Stmt). Contains (targets_of x) t) (at_once b.stmts s other stmt stands at) named))
  back (caught c has from to is) = inr (c, has, (from, to, is))

-- the successors of a place, as they were gathered
pub next_of : (b : Body) (stmts : List Stmt) (catches : List Catch) (s count : ℕ) (stmt : Stmt) (own all sorted : List ℕ) → stmts ≡ b.stmts → catches ≡ b.catches → count ≡ length stmts
    → s < length stmts → stmt ≡ get_or stmts s stmt → ((t : ℕ) → Contains own t ↔ IsOwn stmt count s t) → ((t : ℕ) → Contains all t ↔ (Contains own t ⊎ IsCaught catches s t))
    → ((t : ℕ) → Contains sorted t ↔ Contains all t) → (t : ℕ) → Contains sorted t ↔ Succ b s t
next_of b stmts catches s count stmt own all sorted are those counted below is itself gathered same t = (there, back) where
  at : At b.stmts s stmt
  at = subst (λ (ss : List Stmt). At ss s stmt) are (below, sym is)

  number : count ≡ length b.stmts
  number = counted ∙ ap (λ (ss : List Stmt). length ss) are

  there : Contains sorted t → Succ b s t
  there h = (succ_of b s t stmt at).0 (elim ((gathered t).0 ((same t).0 h)) [
    | inl o ↦ inl (subst (λ (n : ℕ). IsOwn stmt n s t) number ((itself t).0 o))
    | inr c ↦ inr (subst (λ (cs : List Catch). IsCaught cs s t) those c)
  ])

  back : Succ b s t → Contains sorted t
  back h = (same t).1 ((gathered t).1 (elim ((succ_of b s t stmt at).1 h) [
    | inl o ↦ inl ((itself t).1 (subst (λ (n : ℕ). IsOwn stmt n s t) (sym number) o))
    | inr c ↦ inr (subst (λ (cs : List Catch). IsCaught cs s t) (sym those) c)
  ]))

-- successors are places of the body

target_case : (b : Body) (cases : List Case) (default t : ℕ) → All (λ (c : Case). TargetFits b c.target) cases → TargetFits b default → Contains (map (λ (c : Case). c.target) cases ++ default ∷ []) t → TargetFits b t
target_case b cases default t fits last has = elim (Contains-push_cases (map (λ (c : Case). c.target) cases) default t has) [
  | inl early ↦ All-contains (TargetFits b) (map (λ (c : Case). c.target) cases) t (All-map (TargetFits b) (λ (c : Case). c.target) cases fits) early
  | inr same ↦ subst (TargetFits b) same last
]

one_target : (b : Body) (target t : ℕ) → TargetFits b target → Contains (target ∷ []) t → TargetFits b t
one_target b target t fits has = elim (Contains-push_cases [] target t has) [
  | inl (k, below, is) ↦ absurd (omega (arith, below))
  | inr same ↦ subst (TargetFits b) same fits
]

no_target : (b : Body) (t : ℕ) → Contains [] t → TargetFits b t
no_target b t (k, below, is) = absurd (omega (arith, below))

pub target_fits : (b : Body) (stmt : Stmt) (t : ℕ) → StmtFits b stmt → Contains (targets_of stmt) t → TargetFits b t
target_fits b (stmts.If left cond right target) t fits has = one_target b target t fits.2 has
target_fits b (stmts.Goto target) t fits has = one_target b target t fits has
target_fits b (stmts.Switch table key cases default) t fits has = target_case b cases default t fits.1 fits.2 has
target_fits b (stmts.Identity local what) t fits has = no_target b t has
target_fits b (stmts.Assign place rhs) t fits has = no_target b t has
target_fits b (stmts.Call invoke) t fits has = no_target b t has
target_fits b (stmts.Return value) t fits has = no_target b t has
target_fits b (stmts.Throw value) t fits has = no_target b t has
target_fits b stmts.Nop t fits has = no_target b t has
target_fits b (stmts.Enter value) t fits has = no_target b t has
target_fits b (stmts.Exit value) t fits has = no_target b t has

pub succ_below : (b : Body) (s t : ℕ) → BodyFits b → Succ b s t → t < length b.stmts
succ_below b s t fits (falls stmt at on next below) = below
succ_below b s t fits (jumps stmt at named) = target_fits b stmt t (All-contains (StmtFits b) b.stmts stmt fits.stmts (s, at.0, at.1)) named
succ_below b s t fits (caught c has from to is) = subst (λ (x : ℕ). x < length b.stmts) (sym is) (All-contains (CatchFits b) b.catches c fits.catches has).2
