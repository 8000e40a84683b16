-- Sets of facts, from those of taints.
use Rattle.std.proofs.Common.{◌≡◌, ◌⊎◌, ◌↔◌, List, [], ◌∷◌, ◌++◌, Option, Some, None, inl, inr, sym, ap}
use Rattle.clean_base.specs.Lists.{AppendsSet}
use Rattle.access_path.specs.declared.fact.Fact.{Fact}
use Rattle.access_path.specs.declared.fact.Fact.TheVariants.{Zero, Taint as Tainted}
use Rattle.access_path.specs.declared.fact.Taint.{Taint}
use Rattle.flow_rules.specs.Locals.{OnTaints, WithZero}
use Rattle.flow_rules.specs.Only.{IsOnly, IsIn}
use Rattle.clean_base.proofs.Appended.{appends_one, appends_none}

-- the one member is that of the set
pub only_some : {X : Type 0} (set : X → Type 0) (o : Option X) → IsOnly set o → (x : X) → set x ↔ (o ≡ Some x)
only_some set None none x = ((λ is. absurd (none x is)), (λ same. absurd (cc)))
only_some set (Some y) only x = ((λ is. ap Some (sym ((only x).0 is))), (λ same. (only x).1 (cc)))

-- a rule that gives at most two taints, each of a kind of its own
pub of_two : (R : Taint → Taint → Type 0) (t : Taint) (A B : Taint → Type 0) (a b : Option Taint) → IsOnly A a → IsOnly B b
    → ((u : Taint) → R t u ↔ (A u ⊎ B u)) → (g : Fact) → OnTaints R (Tainted t) g ↔ (IsIn a g ⊎ IsIn b g)
of_two R t A B a b only_a only_b splits Zero = ((λ none. absurd none), (λ is. elim is [ inl none ↦ absurd none | inr none ↦ absurd none ]))
of_two R t A B a b only_a only_b splits (Tainted u) = (
  (λ r. elim ((splits u).0 r) [ inl x ↦ inl ((only_some A a only_a u).0 x) | inr y ↦ inr ((only_some B b only_b u).0 y) ]),
  (λ is. (splits u).1 (elim is [ inl x ↦ inl ((only_some A a only_a u).1 x) | inr y ↦ inr ((only_some B b only_b u).1 y) ])),
)

-- a rule that gives at most one
pub of_one : (R : Taint → Taint → Type 0) (t : Taint) (a : Option Taint) → IsOnly (R t) a → (g : Fact) → OnTaints R (Tainted t) g ↔ IsIn a g
of_one R t a only Zero = ((λ none. absurd none), (λ none. absurd none))
of_one R t a only (Tainted u) = only_some (R t) a only u

-- nothing is added where there is no taint, and one fact where there is one
pub adds_none : (old : List Fact) → AppendsSet (IsIn None) old old
adds_none old = appends_none (IsIn None) old none where
  none : (g : Fact) → IsIn None g → ⊥
  none Zero is = is
  none (Tainted u) is = cc

pub adds_one : (old new : List Fact) (u : Taint) → new ≡ old ++ Tainted u ∷ [] → AppendsSet (IsIn (Some u)) old new
adds_one old new u is = appends_one (IsIn (Some u)) old new (Tainted u) only is where
  only : (g : Fact) → IsIn (Some u) g ↔ (g ≡ Tainted u)
  only Zero = ((λ none. absurd none), (λ e. absurd (cc)))
  only (Tainted v) = ((λ e. (cc)), (λ e. (cc)))

-- a set under a condition that holds
pub only_where : {X : Type 0} (P : Type 0) (set : X → Type 0) (o : Option X) → P → IsOnly set o → IsOnly (λ (x : X). P × set x) o
only_where P set None p none = λ x is. none x is.1
only_where P set (Some y) p only = λ x. ((λ is. (only x).0 is.1), (λ same. (p, (only x).1 same)))

-- the same set in other words
pub only_same : {X : Type 0} (set other : X → Type 0) (o : Option X) → ((x : X) → other x ↔ set x) → IsOnly set o → IsOnly other o
only_same set other None same none = λ x is. none x ((same x).0 is)
only_same set other (Some y) same only = λ x. ((λ is. (only x).0 ((same x).0 is)), (λ e. (same x).1 ((only x).1 e)))

-- the members of which something is so
pub only_also : {X : Type 0} (set also : X → Type 0) (a b : Option X) → IsOnly set a → IsOnly (λ (x : X). also x × (a ≡ Some x)) b → IsOnly (λ (x : X). set x × also x) b
only_also {X} set also a b only_a only_b = only_same (λ (x : X). also x × (a ≡ Some x)) (λ (x : X). set x × also x) b (λ x.
    let member = only_some set a only_a x in
    ((λ is. (is.1, member.0 is.0)), (λ is. (member.1 is.1, is.0)))) only_b

-- either of two, and something besides
pub either_also : (A B C : Type 0) → ((A ⊎ B) × C) ↔ ((A × C) ⊎ (B × C))
either_also A B C = (
  (λ is. elim (is.0) [ inl a ↦ inl (a, is.1) | inr b ↦ inr (b, is.1) ]),
  (λ is. elim is [ inl a ↦ (inl a.0, a.1) | inr b ↦ (inr b.0, b.1) ]),
)

-- what becomes of the one member
pub only_image : {X Y : Type 0} (set : X → Type 0) (f : X → Y) (a : Option X) (b : Option Y) → IsOnly set a → IsOnly (λ (y : Y). (x : X) × (a ≡ Some x) × (y ≡ f x)) b
    → IsOnly (λ (y : Y). (x : X) × set x × (y ≡ f x)) b
only_image {X} {Y} set f a b only_a only_b = only_same (λ (y : Y). (x : X) × (a ≡ Some x) × (y ≡ f x)) (λ (y : Y). (x : X) × set x × (y ≡ f x)) b (λ y. (
  (λ is. (is.0, (only_some set a only_a is.0).0 is.1, is.2)),
  (λ is. (is.0, (only_some set a only_a is.0).1 is.1, is.2)),
)) only_b

-- the same where zero leads to zero
pub of_one_with_zero : (R : Taint → Taint → Type 0) (t : Taint) (a : Option Taint) → IsOnly (R t) a → (g : Fact) → WithZero R (Tainted t) g ↔ IsIn a g
of_one_with_zero R t a only Zero = ((λ none. absurd none), (λ none. absurd none))
of_one_with_zero R t a only (Tainted u) = only_some (R t) a only u
