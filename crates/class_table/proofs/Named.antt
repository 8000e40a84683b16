-- Classes by their names.
use Rattle.std.proofs.Common.{◌≡◌, ◌≢◌, ℕ, zero, suc, Bool, true, false, cond, nat_eq, List, [], ◌∷◌, Some, None, refl, sym, ap, subst, ◌∙◌, arith, true≢false}
use Rattle.std.specs.Prelude.{Contains}
use Rattle.std.specs.List.{find}
use Rattle.std.proofs.lemmas.List.Elements.{Contains-get_or, Contains-append_right}
use lib.Pointwise.{pointwise, bytes_decides}
use Rattle.jimple_tree.specs.declared.tree.Class.{Class}
use Rattle.class_table.specs.Faults.{HaveNames}
use Rattle.class_table.specs.Hierarchy.{given}

-- what a search finds stands in the list and passes
pub find_some : {X : Type 0} (test : X → Bool) (xs : List X) (x : X) → find test xs ≡ Some x → Contains xs x × (test x ≡ true)
find_some test [] x is = let clash : None ≡ Some x = is in absurd (cc)
find_some {X} test (y ∷ ys) x is = by (test y) refl is (find_some test ys x) where
  by : (b : Bool) → test y ≡ b → cond b (Some y) (find test ys) ≡ Some x → (find test ys ≡ Some x → Contains ys x × (test x ≡ true)) → Contains (y ∷ ys) x × (test x ≡ true)
  by true passes found later = let same : y ≡ x = cc in (subst (Contains (y ∷ ys)) same (Contains-get_or (y ∷ ys) 0 y (omega arith)), subst (λ (z : X). test z ≡ true) same passes)
  by false fails found later = let rest = later found in (Contains-append_right (y ∷ []) ys x rest.0, rest.1)

-- the class that a name gives is one of the classes and has the name
pub given_is : (cs : List Class) (name : List ℕ) (c : Class) → given cs name ≡ Some c → Contains cs c × (c.name ≡ name)
given_is cs name c is = let found = find_some (λ (d : Class). pointwise nat_eq d.name name) cs c is in (found.0, (bytes_decides c.name name).0 found.1)

-- the classes behind the first have different names, and none has the first's
distinct_tail : (c : Class) (cs : List Class) → HaveNames (c ∷ cs) → HaveNames cs
distinct_tail c cs names i j d less below = names (suc i) (suc j) d (omega arith) (omega (arith, below))

distinct_head : (c : Class) (cs : List Class) → HaveNames (c ∷ cs) → (d : Class) → Contains cs d → c.name ≢ d.name
distinct_head c cs names d (k, below, at) same = names 0 (suc k) d (omega arith) (omega (arith, below)) (same ∙ ap (λ (e : Class). e.name) (sym at))

-- each class is given under its name, where no name stands twice
pub given_own : (cs : List Class) → HaveNames cs → (c : Class) → Contains cs c → given cs c.name ≡ Some c
given_own [] names c (k, below, at) = absurd (omega (arith, below))
given_own (x ∷ cs) names c has = by (pointwise nat_eq x.name c.name) refl has (given_own cs (distinct_tail x cs names) c) where
  by : (b : Bool) → pointwise nat_eq x.name c.name ≡ b → Contains (x ∷ cs) c → (Contains cs c → given cs c.name ≡ Some c) → cond b (Some x) (given cs c.name) ≡ Some c
  by true same (zero, below, at) later = ap Some at
  by true same (suc k, below, at) later = absurd (distinct_head x cs names c (k, (let less = below in omega (arith, less)), at) ((bytes_decides x.name c.name).0 same))
  by false other (zero, below, at) later = absurd (true≢false (sym ((bytes_decides x.name c.name).1 (ap (λ (e : Class). e.name) at)) ∙ other))
  by false other (suc k, below, at) later = later (k, (let less = below in omega (arith, less)), at)
