-- Where classes are entered, and why they can't be.
use Rattle.std.proofs.Common.{◌≡◌, ◌<◌, ◌↔◌, ℕ, List, [], ◌∷◌, Bool, IsTrue, length, take, get_or, zero, suc, Result, Ok, Err, IfOk, IfErr, OnOk, None, refl, sym, ap, subst, ◌∙◌, arith}
use Rattle.std.proofs.lemmas.List.{get_or_default}
use Rattle.std.proofs.lemmas.List.Elements.{All-head, All-tail}
use Rattle.clean_base.specs.Lists.{At}
use Rattle.clean_base.specs.declared.fault.InputFault.{InputFault}
use Rattle.clean_base.specs.declared.fault.InputFault.TheVariants.{ComponentMissing}
use Rattle.clean_base.specs.declared.fault.Stop.{Stop}
use Rattle.clean_base.specs.declared.fault.Stop.TheVariants.{Fault, OutOfMemory}
use Rattle.clean_base.specs.declared.ids.MethodId.{MethodId}
use Rattle.jimple_tree.specs.declared.tree.Class.{Class}
use Rattle.jimple_tree.specs.declared.tree.Sig.{Sig}
use Rattle.class_table.specs.Concrete.{IsConcrete}
use Rattle.class_table.specs.Hierarchy.{class_names, given}
use Rattle.class_table.specs.Links.{name_at}
use Rattle.class_table.specs.Methods.{IsDeclared}
use Rattle.dummy_main.specs.declared.component.Component.{Component}
use Rattle.app_program.specs.declared.entry.Entry.{Entry}
use Rattle.app_program.specs.Entry.{start_of, components_of, AreKnown, IsKnown, IsFirstUnknown, IsOnlyRootFault, IsRoot, IsRootFault, IsUnknown, RootRefused, Undeclared, UnknownRefused}
use Rattle.app_program.specs.Entry.IsFirstUnknown.{here, later}
use Rattle.app_program.specs.Entry.IsRootFault.{component, method}

module _ (cs : List Class) where
  -- what is told of a number is told of the name that has it
  pub concrete_there : (name : List ℕ) (i : ℕ) → At (class_names cs) i name → (b : Bool) → IsTrue b ↔ IsConcrete cs (name_at cs i) → IsTrue b ↔ IsConcrete cs name
  concrete_there name i at b told = subst (λ (n : List ℕ). IsTrue b ↔ IsConcrete cs n) (get_or_default (class_names cs) i [] name at.0 ∙ at.1) told

  -- a name under which no class is given is none of a concrete class
  pub not_given : (name : List ℕ) → given cs name ≡ None → IsConcrete cs name → ⊥
  not_given name none is = let clash = sym none ∙ is.given in absurd (cc)

  -- where one isn't known, not all are
  unknown_there : (components : List Component) (name : List ℕ) → IsFirstUnknown cs components name → AreKnown cs components → ⊥
  unknown_there [] name first known = elim first [ ]
  unknown_there (c ∷ rest) name (here unknown is) known = unknown (All-head (IsKnown cs) c rest known)
  unknown_there (c ∷ rest) name (later first more) known = unknown_there rest name more (All-tail (IsKnown cs) c rest known)

  one_unknown : (components : List Component) (a b : List ℕ) → IsFirstUnknown cs components a → IsFirstUnknown cs components b → a ≡ b
  one_unknown [] a b first second = elim first [ ]
  one_unknown (c ∷ rest) a b (here unknown is) (here also other) = sym is ∙ other
  one_unknown (c ∷ rest) a b (here unknown is) (later known more) = absurd (unknown known)
  one_unknown (c ∷ rest) a b (later known more) (here unknown is) = absurd (unknown known)
  one_unknown (c ∷ rest) a b (later known more) (later first other) = one_unknown rest a b more other

  -- behind known ones the next one is the first
  first_at : (components : List Component) (i : ℕ) (c : Component) → i < length components → c ≡ get_or components i c → AreKnown cs (take i components) → (IsKnown cs c → ⊥) → IsFirstUnknown cs components c.name
  first_at [] i c below is known unknown = absurd (omega (arith, below))
  first_at (x ∷ rest) zero c below is known unknown =
      let same : c ≡ x = is in
      here (λ its. unknown (subst (IsKnown cs) (sym same) its)) (ap (λ (d : Component). d.name) (sym same))
  first_at (x ∷ rest) (suc i) c below is known unknown =
      later (All-head (IsKnown cs) x (take i rest) known) (first_at rest i c (omega (arith, below)) is (All-tail (IsKnown cs) x (take i rest) known) unknown)

  -- and is told
  pub refused_at : (components : List Component) (i : ℕ) (c : Component) → i < length components → c ≡ get_or components i c → AreKnown cs (take i components) → (IsKnown cs c → ⊥)
      → (stop : Stop) → IsUnknown c.name stop → UnknownRefused cs components stop
  refused_at components i c below is known unknown (Fault f) told = (c.name, first_at components i c below is known unknown, told)
  refused_at components i c below is known unknown OutOfMemory told = tt

  module _ (entry : Entry) where
    -- a place to enter and a reason why there is none exclude each other
    pub no_root_fault : (m : MethodId) → IsRoot cs entry m → (f : InputFault) → IsRootFault cs entry f → ⊥
    no_root_fault m root f (component name first) = unknown_there (components_of entry) name first root.known
    no_root_fault m root f (method known none) = none m root.declared

    one_root_fault : (f g : InputFault) → IsRootFault cs entry f → IsRootFault cs entry g → g ≡ f
    one_root_fault f g (component a first) (component b also) = ap ComponentMissing (one_unknown (components_of entry) b a also first)
    one_root_fault f g (component a first) (method known none) = absurd (unknown_there (components_of entry) a first known)
    one_root_fault f g (method known none) (component b also) = absurd (unknown_there (components_of entry) b also known)
    one_root_fault f g (method known none) (method also lacks) = refl

    pub only_root_fault : (stop : Stop) → RootRefused cs entry stop → IsOnlyRootFault cs entry stop
    only_root_fault (Fault f) is = λ other also. one_root_fault f other is also
    only_root_fault OutOfMemory is = tt

    -- where there is one place alone, two are the same
    pub one_root : (m : MethodId) → ((n : MethodId) → IsRoot cs entry n → n ≡ m) → (n o : MethodId) → IsRoot cs entry n → IsRoot cs entry o → n ≡ o
    one_root m only n o first second = only n first ∙ sym (only o second)

    -- a component that isn't known refuses the entry
    pub unknown_refused : (components : List Component) → components_of entry ≡ components → (stop : Stop) → UnknownRefused cs components stop → RootRefused cs entry stop
    unknown_refused components are (Fault f) (name, first, is) =
        subst (λ (g : InputFault). IsRootFault cs entry g) (sym is) (component name (subst (λ (ks : List Component). IsFirstUnknown cs ks name) (sym are) first))
    unknown_refused components are OutOfMemory is = tt

    -- where all are known, the signature alone decides
    module _ (sig : Sig) (begins : start_of entry ≡ sig) (known : AreKnown cs (components_of entry)) where
      root : (m : MethodId) → IsDeclared cs sig m → IsRoot cs entry m
      root m declared = record { known = known; declared = subst (λ (s : Sig). IsDeclared cs s m) (sym begins) declared }

      declared_by : (m : MethodId) → IsRoot cs entry m → IsDeclared cs sig m
      declared_by m is = subst (λ (s : Sig). IsDeclared cs s m) begins is.declared

      undeclared_refused : (stop : Stop) → Undeclared cs sig stop → RootRefused cs entry stop
      undeclared_refused (Fault f) (is, none) = subst (λ (g : InputFault). IsRootFault cs entry g) (sym is) (method known (λ m declared. none m (subst (λ (s : Sig). IsDeclared cs s m) begins declared)))
      undeclared_refused OutOfMemory is = tt

      pub root_ok : (r : Result MethodId Stop) → IfOk r (IsDeclared cs sig) → IfOk r (IsRoot cs entry)
      root_ok (Ok m) declared = root m declared
      root_ok (Err stop) is = tt

      pub root_one : (r : Result MethodId Stop) → IfOk r (λ m. (n : MethodId) → IsDeclared cs sig n → n ≡ m) → IfOk r (λ m. (n : MethodId) → IsRoot cs entry n → n ≡ m)
      root_one (Ok m) one = λ n also. one n (declared_by n also)
      root_one (Err stop) is = tt

      pub root_faultless : (r : Result MethodId Stop) → IfOk r (IsDeclared cs sig) → OnOk r ((f : InputFault) → IsRootFault cs entry f → ⊥)
      root_faultless (Ok m) declared = no_root_fault m (root m declared)
      root_faultless (Err stop) is = tt

      pub root_err : (r : Result MethodId Stop) → IfErr r (Undeclared cs sig) → IfErr r (RootRefused cs entry)
      root_err (Ok m) is = tt
      root_err (Err stop) is = undeclared_refused stop is

      pub root_only : (r : Result MethodId Stop) → IfErr r (Undeclared cs sig) → IfErr r (IsOnlyRootFault cs entry)
      root_only (Ok m) is = tt
      root_only (Err stop) is = only_root_fault stop (undeclared_refused stop is)
