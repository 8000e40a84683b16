-- What a call graph is determines it.
use Rattle.std.proofs.Common.{◌≡◌, ◌⊎◌, ◌↔◌, ◌<◌, ℕ, zero, suc, Contains, List, [], ◌∷◌, map, AllPairs, refl, sym, ap, subst, ◌∙◌, inl, inr, arith}
use Rattle.std.specs.List.Sorted.{IsStrictlyIncreasing}
use Rattle.std.proofs.lemmas.List.{length-map, get_or-map}
use Rattle.std.proofs.lemmas.List.Kept.{AllPairs-from_increasing}
use Rattle.clean_base.specs.declared.ids.MethodId.{MethodId}
use Rattle.jimple_tree.specs.declared.tree.Class.{Class}
use Rattle.source_sink.specs.declared.line.Line.{Line}
use Rattle.call_graph.specs.Graphs.{IsBefore, IsCallGraph}
use Rattle.call_graph.specs.declared.edges.CallGraph.{CallGraph}
use Rattle.call_graph.specs.declared.edges.CallEdge.{CallEdge}

-- lists in order with the same items are the same
module _ {X : Type 0} (R : X → X → Type 0) (one_way : (x y : X) → R x y → R y x → ⊥) where
  first_before : (x : X) (xs : List X) (y : X) → AllPairs R (x ∷ xs) → Contains xs y → R x y
  first_before x xs y pairs (k, below, at) = subst (R x) at (pairs 0 (suc k) y (omega arith) (let less = below in omega (arith, less)))

  rest_pairs : (x : X) (xs : List X) → AllPairs R (x ∷ xs) → AllPairs R xs
  rest_pairs x xs pairs i j d less below = pairs (suc i) (suc j) d (omega (arith, less)) (omega (arith, below))

  in_front : (x : X) (xs : List X) → Contains (x ∷ xs) x
  in_front x xs = (0, (omega arith), refl)

  behind : (x : X) (xs : List X) (y : X) → Contains xs y → Contains (x ∷ xs) y
  behind x xs y (k, below, at) = (suc k, (let less = below in omega (arith, less)), at)

  front_or_behind : (x : X) (xs : List X) (y : X) → Contains (x ∷ xs) y → (x ≡ y) ⊎ Contains xs y
  front_or_behind x xs y (zero, below, at) = inl at
  front_or_behind x xs y (suc k, below, at) = inr (k, (let less = below in omega (arith, less)), at)

  nothing_in : (y : X) → Contains [] y → ⊥
  nothing_in y (k, below, at) = let less = below in absurd (omega (arith, less))

  same_front : (x y : X) (xs ys : List X) → AllPairs R (x ∷ xs) → AllPairs R (y ∷ ys) → Contains (y ∷ ys) x → Contains (x ∷ xs) y → y ≡ x
  same_front x y xs ys p q there back = elim (front_or_behind y ys x there) [
    | inl same ↦ same
    | inr later ↦ elim (front_or_behind x xs y back) [
      | inl same ↦ sym same
      | inr after ↦ absurd (one_way x y (first_before x xs y p after) (first_before y ys x q later))
    ]
  ]

  same_rest : (x y : X) (xs ys : List X) → x ≡ y → AllPairs R (x ∷ xs) → (z : X) → Contains xs z → Contains (y ∷ ys) z → Contains ys z
  same_rest x y xs ys same p z has there = elim (front_or_behind y ys z there) [
    | inl here ↦ let up = subst (R x) (sym here ∙ sym same) (first_before x xs z p has) in absurd (one_way x x up up)
    | inr later ↦ later
  ]

  pub same_lists : (xs ys : List X) → AllPairs R xs → AllPairs R ys → ((x : X) → Contains xs x ↔ Contains ys x) → ys ≡ xs
  same_lists [] [] p q h = refl
  same_lists [] (y ∷ ys) p q h = absurd (nothing_in y ((h y).1 (in_front y ys)))
  same_lists (x ∷ xs) [] p q h = absurd (nothing_in x ((h x).0 (in_front x xs)))
  same_lists (x ∷ xs) (y ∷ ys) p q h =
      let same = same_front x y xs ys p q ((h x).0 (in_front x xs)) ((h y).1 (in_front y ys)) in
      let rest = same_lists xs ys (rest_pairs x xs p) (rest_pairs y ys q) (λ z. (
        λ has. same_rest x y xs ys (sym same) p z has ((h z).0 (behind x xs z has)),
        λ has. same_rest y x ys xs same q z has ((h z).1 (behind y ys z has)),
      )) in
      ap (λ (a : X). a ∷ ys) same ∙ ap (λ (zs : List X). x ∷ zs) rest

abbrev number_of : MethodId → ℕ
number_of m = m.0

methods_rise : (xs : List MethodId) → IsStrictlyIncreasing (map (λ (m : MethodId). m.0) xs) → AllPairs (λ (m : MethodId) (n : MethodId). m.0 < n.0) xs
methods_rise xs rises i j d less below =
    let number = λ (m : MethodId). m.0 in
    let long = length-map xs number in
    let up = AllPairs-from_increasing (map number xs) rises i j 0 less (omega (arith, below, long)) in
    let first = get_or-map number xs i d 0 (omega (arith, less, below)) in
    let second = get_or-map number xs j d 0 below in
    omega (arith, up, first, second)

one_way_numbers : (m n : MethodId) → m.0 < n.0 → n.0 < m.0 → ⊥
one_way_numbers m n up down = omega (arith, up, down)

one_way_edges : (e f : CallEdge) → IsBefore e f → IsBefore f e → ⊥
one_way_edges e f (inl up) (inl down) = omega (arith, up, down)
one_way_edges e f (inl up) (inr down) = let same = ap number_of down.0 in omega (arith, up, same)
one_way_edges e f (inr up) (inl down) = let same = ap number_of up.0 in omega (arith, down, same)
one_way_edges e f (inr up) (inr down) = by up.1 down.1 where
  by : (e.place < f.place) ⊎ ((e.place ≡ f.place) × (e.target.0 < f.target.0)) → (f.place < e.place) ⊎ ((f.place ≡ e.place) × (f.target.0 < e.target.0)) → ⊥
  by (inl a) (inl b) = omega (arith, a, b)
  by (inl a) (inr b) = let same = b.0 in omega (arith, a, same)
  by (inr a) (inl b) = let same = a.0 in omega (arith, b, same)
  by (inr a) (inr b) = let one = a.1 in let other = b.1 in omega (arith, one, other)

pub graph_once : (cs : List Class) (lines : List Line) (root : MethodId) (g other : CallGraph) → IsCallGraph cs lines root g → IsCallGraph cs lines root other → other ≡ g
graph_once cs lines root g other is also =
    let make = λ (es : List CallEdge) (ms : List MethodId). let r : CallGraph = record { calls = es; reached = ms } in r in
    let methods : other.reached ≡ g.reached =
    same_lists (λ (m : MethodId) (n : MethodId). m.0 < n.0) one_way_numbers g.reached other.reached (methods_rise g.reached is.methods_ascend) (methods_rise other.reached also.methods_ascend) (λ m. both (is.reached m) (also.reached m)) in
    let calls : other.calls ≡ g.calls = same_lists IsBefore one_way_edges g.calls other.calls is.calls_ascend also.calls_ascend (λ e. both (is.calls e) (also.calls e)) in
    ap (λ (es : List CallEdge). make es other.reached) calls ∙ ap (make g.calls) methods where
      both : {A B C : Type 0} → A ↔ B → C ↔ B → A ↔ C
      both f g = (λ a. g.1 (f.0 a), λ c. f.1 (g.0 c))
