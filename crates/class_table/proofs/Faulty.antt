-- Classes without a fault have none, and those that have one have no other.
use Rattle.std.proofs.Common.{◌≡◌, ◌⊎◌, ◌<◌, ◌≤◌, ℕ, List, ◌∷◌, ◌++◌, length, get_or, refl, sym, ap, subst, ◌∙◌, inl, inr, arith}
use Rattle.std.specs.Prelude.{Contains}
use Rattle.std.proofs.lemmas.List.{length-append, get_or_append_left, get_or_at}
use Rattle.clean_base.specs.declared.fault.InputFault.{InputFault}
use Rattle.clean_base.specs.declared.fault.InputFault.TheVariants.{DoubleClass, Cycle}
use Rattle.clean_base.specs.declared.fault.Stop.{Stop}
use Rattle.clean_base.specs.declared.fault.Stop.TheVariants.{Fault, OutOfMemory}
use Rattle.jimple_tree.specs.declared.tree.Class.{Class}
use Rattle.class_table.specs.Hierarchy.{IsOwnSupertype}
use Rattle.class_table.specs.Faults.{IsTable, HaveNames, IsFirstDouble, IsFirstCycle, IsFault, IsOnly, Refused, classes, double, cycle, methods, stmts}

abbrev name_of : Class → List ℕ
name_of c = c.name

order : (i j : ℕ) → (i < j) ⊎ (i ≡ j) ⊎ (j < i)
order i j = grind arith

-- what stands before a part, and at it
module _ (cs before : List Class) (here : Class) (behind : List Class) (parts : cs ≡ before ++ here ∷ behind) where
  at_here : (d : Class) → get_or cs (length before) d ≡ here
  at_here d = ap (λ (xs : List Class). get_or xs (length before) d) parts ∙ get_or_at before here behind d (length before) refl

  within : length before < length cs
  within = let long = ap (λ (xs : List Class). length xs) parts in let both = length-append before (here ∷ behind) in omega (arith, long, both)

  at_before : (k : ℕ) (d : Class) → k < length before → get_or cs k d ≡ get_or before k d
  at_before k d less = ap (λ (xs : List Class). get_or xs k d) parts ∙ get_or_append_left before (here ∷ behind) d k less

-- an earlier part stands before a later one
earlier_part : (cs before other : List Class) (here there : Class) (behind rest : List Class) → cs ≡ before ++ here ∷ behind → cs ≡ other ++ there ∷ rest → length before < length other → Contains other here
earlier_part cs before other here there behind rest parts others less =
    (length before, less, sym (at_before cs other there rest others (length before) here less) ∙ at_here cs before here behind parts here)

same_part : (cs before other : List Class) (here there : Class) (behind rest : List Class) → cs ≡ before ++ here ∷ behind → cs ≡ other ++ there ∷ rest → length before ≡ length other → here ≡ there
same_part cs before other here there behind rest parts others same =
    sym (at_here cs before here behind parts here) ∙ ap (λ (k : ℕ). get_or cs k here) same ∙ at_here cs other there rest others here

-- one class has no name twice before it where another name stands twice before
no_earlier : (cs : List Class) (a b : List ℕ) (x : IsFirstDouble cs a) (y : IsFirstDouble cs b) → length x.before < length y.before → ⊥
no_earlier cs a b x y less =
    let again = x.again in
    let k = again.1.0 in
    let below = again.1.1 in
    let early : get_or y.before k again.0 ≡ again.0 =
    sym (at_before cs y.before y.double y.behind y.parts k again.0 (omega (arith, below, less))) ∙ at_before cs x.before x.double x.behind x.parts k again.0 below ∙ again.1.2 in
    let late : get_or y.before (length x.before) again.0 ≡ x.double =
    sym (at_before cs y.before y.double y.behind y.parts (length x.before) again.0 less) ∙ at_here cs x.before x.double x.behind x.parts again.0 in
    y.distinct k (length x.before) again.0 below less (ap name_of early ∙ again.2 ∙ sym x.named ∙ sym (ap name_of late))

one_double : (cs : List Class) (a b : List ℕ) → IsFirstDouble cs a → IsFirstDouble cs b → b ≡ a
one_double cs a b x y = elim (order (length x.before) (length y.before)) [
  | inl less ↦ absurd (no_earlier cs a b x y less)
  | inr (inl same) ↦ sym y.named ∙ ap name_of (sym (same_part cs x.before y.before x.double y.double x.behind y.behind x.parts y.parts same)) ∙ x.named
  | inr (inr more) ↦ absurd (no_earlier cs b a y x more)
]

no_double : (cs : List Class) (a : List ℕ) → HaveNames cs → IsFirstDouble cs a → ⊥
no_double cs a names x =
    let again = x.again in
    let k = again.1.0 in
    let below = again.1.1 in
    let early : get_or cs k again.0 ≡ again.0 = at_before cs x.before x.double x.behind x.parts k again.0 below ∙ again.1.2 in
    names k (length x.before) again.0 below (within cs x.before x.double x.behind x.parts)
    (ap name_of early ∙ again.2 ∙ sym x.named ∙ sym (ap name_of (at_here cs x.before x.double x.behind x.parts again.0)))

no_earlier_cycle : (cs : List Class) (a b : List ℕ) (x : IsFirstCycle cs a) (y : IsFirstCycle cs b) → length x.before < length y.before → ⊥
no_earlier_cycle cs a b x y less =
    y.first x.cyclic (earlier_part cs x.before y.before x.cyclic y.cyclic x.behind y.behind x.parts y.parts less) (subst (λ (n : List ℕ). IsOwnSupertype cs n) (sym x.named) x.on)

one_cycle : (cs : List Class) (a b : List ℕ) → IsFirstCycle cs a → IsFirstCycle cs b → b ≡ a
one_cycle cs a b x y = elim (order (length x.before) (length y.before)) [
  | inl less ↦ absurd (no_earlier_cycle cs a b x y less)
  | inr (inl same) ↦ sym y.named ∙ ap name_of (sym (same_part cs x.before y.before x.cyclic y.cyclic x.behind y.behind x.parts y.parts same)) ∙ x.named
  | inr (inr more) ↦ absurd (no_earlier_cycle cs b a y x more)
]

too_many : (n most : ℕ) → n ≤ most → most < n → ⊥
too_many n most few many = omega (arith, few, many)

module _ (cs : List Class) where
  pub no_fault : IsTable cs → (f : InputFault) → IsFault cs f → ⊥
  no_fault is _ (classes many) = too_many _ _ is.few many
  no_fault is _ (double {name = a} few x) = no_double cs a is.names x
  no_fault is _ (cycle {name = a} few names x) = is.acyclic a x.on
  no_fault is _ (methods few names acyclic many) = too_many _ _ is.methods many
  no_fault is _ (stmts few names acyclic fits many) = too_many _ _ is.stmts many

  one_fault : (f g : InputFault) → IsFault cs f → IsFault cs g → g ≡ f
  one_fault _ _ (classes many) (classes more) = refl
  one_fault _ _ (classes many) (double few y) = absurd (too_many _ _ few many)
  one_fault _ _ (classes many) (cycle few names y) = absurd (too_many _ _ few many)
  one_fault _ _ (classes many) (methods few names acyclic more) = absurd (too_many _ _ few many)
  one_fault _ _ (classes many) (stmts few names acyclic fits more) = absurd (too_many _ _ few many)
  one_fault _ _ (double few x) (classes many) = absurd (too_many _ _ few many)
  one_fault _ _ (double {name = a} few x) (double {name = b} also y) = ap DoubleClass (one_double cs a b x y)
  one_fault _ _ (double {name = a} few x) (cycle also names y) = absurd (no_double cs a names x)
  one_fault _ _ (double {name = a} few x) (methods also names acyclic many) = absurd (no_double cs a names x)
  one_fault _ _ (double {name = a} few x) (stmts also names acyclic fits many) = absurd (no_double cs a names x)
  one_fault _ _ (cycle few names x) (classes many) = absurd (too_many _ _ few many)
  one_fault _ _ (cycle few names x) (double {name = b} also y) = absurd (no_double cs b names y)
  one_fault _ _ (cycle {name = a} few names x) (cycle {name = b} also others y) = ap Cycle (one_cycle cs a b x y)
  one_fault _ _ (cycle {name = a} few names x) (methods also others acyclic many) = absurd (acyclic a x.on)
  one_fault _ _ (cycle {name = a} few names x) (stmts also others acyclic fits many) = absurd (acyclic a x.on)
  one_fault _ _ (methods few names acyclic many) (classes more) = absurd (too_many _ _ few more)
  one_fault _ _ (methods few names acyclic many) (double {name = b} also y) = absurd (no_double cs b names y)
  one_fault _ _ (methods few names acyclic many) (cycle {name = b} also others y) = absurd (acyclic b y.on)
  one_fault _ _ (methods few names acyclic many) (methods also others none more) = refl
  one_fault _ _ (methods few names acyclic many) (stmts also others none fits more) = absurd (too_many _ _ fits many)
  one_fault _ _ (stmts few names acyclic fits many) (classes more) = absurd (too_many _ _ few more)
  one_fault _ _ (stmts few names acyclic fits many) (double {name = b} also y) = absurd (no_double cs b names y)
  one_fault _ _ (stmts few names acyclic fits many) (cycle {name = b} also others y) = absurd (acyclic b y.on)
  one_fault _ _ (stmts few names acyclic fits many) (methods also others none more) = absurd (too_many _ _ fits more)
  one_fault _ _ (stmts few names acyclic fits many) (stmts also others none fit more) = refl

  pub only_fault : (e : Stop) → Refused cs e → IsOnly cs e
  only_fault (Fault f) is = λ other has. one_fault f other is has
  only_fault OutOfMemory is = tt
