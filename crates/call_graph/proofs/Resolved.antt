-- The methods that calls come to, by the numbers of classes.
use Rattle.std.proofs.Common.{◌≡◌, ◌⊎◌, ◌↔◌, ◌<◌, ◌≤◌, ◌+◌, ℕ, zero, suc, Bool, true, List, [], ◌∷◌, ◌++◌, length, Contains, Option, Some, flat_map, refl, sym, ap, subst, ◌∙◌, inl, inr, arith}
use Rattle.std.proofs.lemmas.List.Elements.{Contains-push, Contains-push_cases, Contains-append_left, Contains-append_right, Contains-append_cases}
use Rattle.std.proofs.lemmas.Option.{same_Some}
use Rattle.clean_base.specs.Lists.{At}
use Rattle.clean_base.specs.declared.ids.ClassId.{ClassId}
use Rattle.clean_base.specs.declared.ids.MethodId.{MethodId}
use Rattle.jimple_tree.specs.declared.tree.Class.{Class}
use Rattle.jimple_tree.specs.declared.tree.InvokeKind.{InvokeKind}
use Rattle.jimple_tree.specs.declared.tree.InvokeKind.TheVariants as kinds
use Rattle.jimple_tree.specs.declared.tree.Sig.{Sig}
use Rattle.reach_rows.specs.Reaches.{Reaches, here, on}
use Rattle.reach_rows.proofs.Walked.{Leads, met_reached}
use Rattle.class_table.specs.Concrete.{IsConcrete}
use Rattle.class_table.specs.Hierarchy.{class_names, names_in, IsSubtype, Subtype}
use Rattle.class_table.specs.Links.{name_at}
use Rattle.class_table.specs.Resolving.{Resolves, superclass, interfaces}
use Rattle.class_table.proofs.Linked.{at_name, name_is}
use Rattle.call_graph.specs.ByNumber.{IsChosen, ResolvesAt, ResolvesIn}
use Rattle.call_graph.specs.Calls.{IsTargetOf, ResolvesBelow}
use Rattle.call_graph.proofs.Saying.{given_known, known_up, last_or_before, unknown_none}

-- a list of empty lists
flat_none : {X Y : Type 0} (f : X → List Y) (xs : List X) → ((x : X) → Contains xs x → f x ≡ []) → flat_map f xs ≡ []
flat_none f [] none = refl
flat_none f (x ∷ xs) none =
    ap (λ (ys : List _). ys ++ flat_map f xs) (none x (0, (omega arith), refl)) ∙ flat_none f xs (λ y has. none y (let below = has.1 in (suc has.0, (omega (arith, below)), has.2)))

module _ (cs : List Class) where
  -- a signature comes to nothing on a name without a number
  pub unknown_resolves : (name : List ℕ) (sig : Sig) (n : MethodId) → (Contains (class_names cs) name → ⊥) → Resolves cs name sig n → ⊥
  unknown_resolves name sig n unknown r = unknown (subst (Contains (class_names cs)) (sym alone) (given_known cs r.found.place r.class r.found.here.class)) where
    stays : (kind : Class → List (List ℕ)) (b : List ℕ) → Reaches (Leads (names_in kind cs)) name b → name ≡ b
    stays kind _ here = refl
    stays kind b (on {b = by} step rest) = let below = (subst (λ (ns : List (List ℕ)). Contains ns by) (unknown_none cs kind name unknown) step).1 in absurd (omega (arith, below))

    own : (x : List ℕ) → Contains (name ∷ []) x → x ≡ name
    own x (zero, below, is) = sym is
    own x (suc k, below, is) = absurd (omega (arith, below))

    chained : (x : List ℕ) → Contains r.found.search.chain x → name ≡ x
    chained x has =
        let h = met_reached (names_in superclass cs) r.found.search.up x has in
        stays superclass x (subst (λ (a : List ℕ). Reaches (Leads (names_in superclass cs)) a x) (own h.0 h.1) h.2)

    beside : (x : List ℕ) → Contains r.found.search.met x → ⊥
    beside x has =
        let h = met_reached (names_in interfaces cs) r.found.search.across x has in
        let none = flat_none (names_in interfaces cs) r.found.search.chain (λ y there. ap (names_in interfaces cs) (sym (chained y there)) ∙ unknown_none cs interfaces name unknown) in
        let below = (subst (λ (ns : List (List ℕ)). Contains ns h.0) none h.1).1 in
        omega (arith, below)

    placed : Contains (r.found.search.chain ++ r.found.search.met) r.found.place
    placed = subst (λ (ns : List (List ℕ)). Contains ns r.found.place) r.found.search.are (Contains-append_right r.found.before (r.found.place ∷ r.found.behind) r.found.place (0, (omega arith), refl))

    alone : name ≡ r.found.place
    alone = elim (Contains-append_cases r.found.search.chain r.found.search.met r.found.place placed) [ inl up ↦ chained r.found.place up | inr across ↦ absurd (beside r.found.place across) ]

  -- nor does a call of one
  pub unknown_target : (kind : InvokeKind) (sig : Sig) (n : MethodId) → (Contains (class_names cs) sig.class → ⊥) → IsTargetOf cs kind sig n → ⊥
  unknown_target kind sig n unknown h = by kind h where
    below : ResolvesBelow cs sig n → ⊥
    below (name, concrete, way, r) = unknown (known_up cs way (given_known cs name concrete.class concrete.given))

    by : (kind : InvokeKind) → IsTargetOf cs kind sig n → ⊥
    by kinds.Static r = unknown_resolves sig.class sig n unknown r
    by kinds.Special r = unknown_resolves sig.class sig n unknown r
    by kinds.Virtual r = below r
    by kinds.Interface r = below r

  -- a method more
  pub found_more : {P : MethodId → Type 0} (old new : List MethodId) (m : MethodId) (found : Option MethodId) → found ≡ Some m → ((n : MethodId) → (found ≡ Some n) ↔ P n) → new ≡ old ++ m ∷ [] → (n : MethodId) → Contains new n ↔ (Contains old n ⊎ P n)
  found_more {P} old new m found is exact more n = (there, back) where
    there : Contains new n → Contains old n ⊎ P n
    there has = elim (Contains-push_cases old m n (subst (λ (ms : List MethodId). Contains ms n) more has)) [
      | inl early ↦ inl early
      | inr last ↦ inr ((exact n).0 (is ∙ ap (λ (k : MethodId). Some k) last))
    ]

    back : Contains old n ⊎ P n → Contains new n
    back (inl early) = subst (λ (ms : List MethodId). Contains ms n) (sym more) (Contains-append_left old (m ∷ []) n early)
    back (inr r) =
        let same : m ≡ n = same_Some m n (sym is ∙ (exact n).1 r) in
        subst (λ (ms : List MethodId). Contains ms n) (sym more) (subst (Contains (old ++ m ∷ [])) same (Contains-push old m))

  pub found_none : {P : MethodId → Type 0} (old new : List MethodId) (found : Option MethodId) → ((m : MethodId) → found ≡ Some m → ⊥) → ((n : MethodId) → (found ≡ Some n) ↔ P n) → new ≡ old → (n : MethodId) → Contains new n ↔ (Contains old n ⊎ P n)
  found_none {P} old new found none exact same n = subst (λ (ms : List MethodId). Contains ms n ↔ (Contains old n ⊎ P n)) (sym same) (λ has. inl has, back) where
    back : Contains old n ⊎ P n → Contains old n
    back (inl has) = has
    back (inr r) = absurd (none n ((exact n).1 r))

  -- the methods of one class
  pub one_class : {P : MethodId → Type 0} (old new : List MethodId) → old ≡ [] → ((n : MethodId) → Contains new n ↔ (Contains old n ⊎ P n)) → (n : MethodId) → Contains new n ↔ P n
  one_class {P} old new none exact n = ((λ has. by ((exact n).0 has)), (λ p. (exact n).1 (inr p))) where
    by : Contains old n ⊎ P n → P n
    by (inl has) = let below = (subst (λ (ms : List MethodId). Contains ms n) none has).1 in absurd (omega (arith, below))
    by (inr p) = p

  -- what the signature comes to on the concrete ones of the first so many marked classes
  abbrev pub ResolvesTo : List Bool → ℕ → Sig → MethodId → Type 0
  ResolvesTo marks passed sig n = (i : ℕ) × (i < passed) × At marks i true × IsConcrete cs (name_at cs i) × Resolves cs (name_at cs i) sig n

  -- a class more
  pub class_more : (marks : List Bool) (methods : List (Option MethodId)) (old new : List MethodId) (i : ℕ) (sig : Sig) → i < length (class_names cs) → ((class : ClassId) (n : MethodId) → At methods class.0 (Some n) ↔ ResolvesAt cs class sig n)
      → ((n : MethodId) → Contains old n ↔ ResolvesTo marks i sig n) → ((n : MethodId) → Contains new n ↔ (Contains old n ⊎ IsChosen cs marks methods i n)) → (n : MethodId) → Contains new n ↔ ResolvesTo marks (i + 1) sig n
  class_more marks methods old new i sig below exact before more n = (there, back) where
    class : ClassId
    class = record { 0 = i }

    there : Contains new n → ResolvesTo marks (i + 1) sig n
    there has = elim ((more n).0 has) [
      | inl early ↦ let h = (before n).0 early in (h.0, (let less = h.1 in omega (arith, less)), h.2, h.3, h.4)
      | inr chosen ↦ resolved chosen ((exact class n).0 chosen.method)
    ] where
      resolved : IsChosen cs marks methods i n → ResolvesAt cs class sig n → ResolvesTo marks (i + 1) sig n
      resolved chosen (name, at, r) = (i, (omega arith), chosen.marked, chosen.concrete, subst (λ (w : List ℕ). Resolves cs w sig n) (sym (name_is cs i name at)) r)

    back : ResolvesTo marks (i + 1) sig n → Contains new n
    back (k, less, marked, concrete, r) = elim (last_or_before k i less) [
      | inl early ↦ (more n).1 (inl ((before n).1 (k, early, marked, concrete, r)))
      | inr same ↦ (more n).1 (inr (record {
        marked = subst (λ (j : ℕ). At marks j true) same marked;
        concrete = subst (λ (j : ℕ). IsConcrete cs (name_at cs j)) same concrete;
        method = (exact class n).1 (name_at cs i, at_name cs i below, subst (λ (j : ℕ). Resolves cs (name_at cs j) sig n) same r);
      }))
    ]

  pub classes_all : (marks : List Bool) (old : List MethodId) (i : ℕ) (sig : Sig) → length marks ≤ i → ((n : MethodId) → Contains old n ↔ ResolvesTo marks i sig n) → (n : MethodId) → Contains old n ↔ ResolvesIn cs marks sig n
  classes_all marks old i sig past before n = (
    (λ has. let h = (before n).0 has in (h.0, h.2, h.3, h.4)),
    (λ h. (before n).1 (h.0, (let at = h.1 in let below = at.0 in omega (arith, below, past)), h.1, h.2, h.3)),
  )

  -- a call of a class
  pub on_class : (kind : InvokeKind) (class : ClassId) (sig : Sig) (n : MethodId) → At (class_names cs) class.0 sig.class → (kind ≡ kinds.Static) ⊎ (kind ≡ kinds.Special) → ResolvesAt cs class sig n ↔ IsTargetOf cs kind sig n
  on_class kind class sig n at is = by is where
    own : ResolvesAt cs class sig n ↔ Resolves cs sig.class sig n
    own = (there, (λ r. (sig.class, at, r))) where
      there : ResolvesAt cs class sig n → Resolves cs sig.class sig n
      there (name, stands, r) = subst (λ (w : List ℕ). Resolves cs w sig n) (sym (name_is cs class.0 name stands) ∙ name_is cs class.0 sig.class at) r

    by : (kind ≡ kinds.Static) ⊎ (kind ≡ kinds.Special) → ResolvesAt cs class sig n ↔ IsTargetOf cs kind sig n
    by (inl same) = subst (λ (k : InvokeKind). ResolvesAt cs class sig n ↔ IsTargetOf cs k sig n) (sym same) own
    by (inr same) = subst (λ (k : InvokeKind). ResolvesAt cs class sig n ↔ IsTargetOf cs k sig n) (sym same) own

  -- a call by an object
  pub on_subtypes : (kind : InvokeKind) (class : ClassId) (sig : Sig) (n : MethodId) (marks : List Bool) → At (class_names cs) class.0 sig.class → (kind ≡ kinds.Virtual) ⊎ (kind ≡ kinds.Interface)
      → ((name : ClassId) → At marks name.0 true ↔ IsSubtype cs name class) → ResolvesIn cs marks sig n ↔ IsTargetOf cs kind sig n
  on_subtypes kind class sig n marks at is exact = by is where
    named : name_at cs class.0 ≡ sig.class
    named = name_is cs class.0 sig.class at

    up : (other : ClassId) → IsSubtype cs other class → Subtype cs (name_at cs other.0) sig.class
    up other (inl same) = subst (Subtype cs (name_at cs other.0)) (ap (λ (c : ClassId). name_at cs c.0) same ∙ named) here
    up other (inr (x, y, one, two, way)) = subst (λ (n : List ℕ). Subtype cs n sig.class) (sym (name_is cs other.0 x one)) (subst (Subtype cs x) (sym (name_is cs class.0 y two) ∙ named) way)

    below : ResolvesIn cs marks sig n ↔ ResolvesBelow cs sig n
    below = (there, back) where
      there : ResolvesIn cs marks sig n → ResolvesBelow cs sig n
      there (i, marked, concrete, r) = (let other : ClassId = record { 0 = i } in (name_at cs i, concrete, up other ((exact other).0 marked), r))

      back : ResolvesBelow cs sig n → ResolvesIn cs marks sig n
      back (name, concrete, way, r) = numbered (given_known cs name concrete.class concrete.given) where
        numbered : Contains (class_names cs) name → ResolvesIn cs marks sig n
        numbered (k, within, same) =
            let other : ClassId = record { 0 = k } in
            let its : name ≡ name_at cs k = sym (name_is cs k name (within, same)) in
            (k, (exact other).1 (inr (name, sig.class, (within, same), at, way)), subst (IsConcrete cs) its concrete, subst (λ (w : List ℕ). Resolves cs w sig n) its r)

    by : (kind ≡ kinds.Virtual) ⊎ (kind ≡ kinds.Interface) → ResolvesIn cs marks sig n ↔ IsTargetOf cs kind sig n
    by (inl same) = subst (λ (k : InvokeKind). ResolvesIn cs marks sig n ↔ IsTargetOf cs k sig n) (sym same) below
    by (inr same) = subst (λ (k : InvokeKind). ResolvesIn cs marks sig n ↔ IsTargetOf cs k sig n) (sym same) below
