-- A call is open where methods are known to which it may come.
use Rattle.std.proofs.Common.{◌≡◌, ◌↔◌, ◌==◌, ◌∷◌, Bool, not, true, false, List, [], IsTrue, Contains, length, sym, subst, refl, arith}
use Rattle.clean_base.specs.declared.ids.MethodId.{MethodId}
use Rattle.jimple_tree.specs.declared.tree.Class.{Class}
use Rattle.jimple_tree.specs.declared.tree.Invoke.{Invoke}
use Rattle.source_sink.specs.declared.line.Line.{Line}
use Rattle.call_graph.specs.Calls.{IsOpenTo}
use Rattle.call_graph.specs.Known.{IsKnown}
use Rattle.call_graph.specs.declared.known.KnownSig.{KnownSig}

-- a list has an item just where it isn't empty
some_item : {X : Type 0} (xs : List X) (b : Bool) → b ≡ (length xs == 0) → IsTrue (not b) ↔ ((x : X) × Contains xs x)
some_item xs true e = ((λ no. absurd (cc)), (λ has. let below = has.1.1 in let empty : length xs ≡ 0 = grind (arith, e) in absurd (omega (arith, below, empty))))
some_item [] false e = ((λ yes. absurd (cc)), (λ has. refl))
some_item (x ∷ xs) false e = ((λ yes. (x, (0, omega arith, refl))), (λ has. refl))

pub opens_to : (cs : List Class) (lines : List Line) (invoke : Invoke) (known : KnownSig) (targets : List MethodId) (empty : Bool) → IsKnown cs lines invoke.kind invoke.sig known → targets ≡ known.targets → empty ≡ (length targets == 0)
    → IsTrue (not empty) ↔ ((n : MethodId) × IsOpenTo cs lines invoke n)
opens_to cs lines invoke known targets empty is are none = (
  (λ yes. let some = (some_item targets empty none).0 yes in
      let both = (is.targets some.0).0 (subst (λ (ms : List MethodId). Contains ms some.0) are some.1) in
      (some.0, record { target = both.0; plain = both.1 })),
  (λ has. (some_item targets empty none).1 (has.0, subst (λ (ms : List MethodId). Contains ms has.0) (sym are) ((is.targets has.0).1 (has.1.target, has.1.plain)))),
)
