-- The methods that methods may come to, as they are gathered.
use Rattle.std.proofs.Common.{◌≡◌, ◌⊎◌, ◌↔◌, ◌+◌, ◌<◌, ◌≤◌, ℕ, List, [], ◌∷◌, ◌++◌, Contains, length, get_or, map, sym, ap, ◌∙◌, subst, inl, inr, arith}
use Rattle.std.proofs.lemmas.List.{length-map, length_push, get_or-map, get_or_append_left, get_or_push}
use Rattle.std.proofs.lemmas.List.Elements.{Contains-append_cases, Contains-append_left, Contains-append_right}
use Rattle.clean_base.specs.declared.ids.MethodId.{MethodId}
use Rattle.clean_base.specs.declared.ids.StmtId.{StmtId}
use Rattle.jimple_tree.specs.declared.tree.Class.{Class}
use Rattle.statement_graph.specs.Statements.{IsOf}
use Rattle.app_program.specs.Ends.{AreCalled, AreCalls}

-- the methods of the rows of the statements from the first up to this one
abbrev pub Gained : List (List MethodId) → ℕ → ℕ → List MethodId → Type 0
Gained targets first at called = (n : MethodId) → Contains called n ↔ ((s : StmtId) × (first ≤ s.0) × (s.0 < at) × Contains (get_or targets s.0 []) n)

no_item : {X : Type 0} (x : X) → Contains [] x → ⊥
no_item x (k, below, is) = absurd (omega (arith, below))

early_or_last : (i n : ℕ) → i < n + 1 → (i < n) ⊎ (i ≡ n)
early_or_last i n h = grind arith

module _ (targets : List (List MethodId)) (first : ℕ) where
  pub gained_none : (called : List MethodId) → called ≡ [] → Gained targets first first called
  gained_none called is n = (
    (λ has. absurd (no_item n (subst (λ (ms : List MethodId). Contains ms n) is has))),
    (λ h. let low = h.1 in let high = h.2 in absurd (omega (arith, low, high))),
  )

  pub gained_more : (at : ℕ) (row called new : List MethodId) → first ≤ at → row ≡ get_or targets at [] → Gained targets first at called → new ≡ called ++ row → Gained targets first (at + 1) new
  gained_more at row called new from is gained more n = (forth, back) where
    forth : Contains new n → (s : StmtId) × (first ≤ s.0) × (s.0 < at + 1) × Contains (get_or targets s.0 []) n
    forth has = elim (Contains-append_cases called row n (subst (λ (ms : List MethodId). Contains ms n) more has)) [
      | inl early ↦ let h = (gained n).0 early in (h.0, h.1, (let less = h.2 in omega (arith, less)), h.3)
      | inr late ↦ (record { 0 = at }, from, omega arith, subst (λ (ms : List MethodId). Contains ms n) is late)
    ]

    back : (s : StmtId) × (first ≤ s.0) × (s.0 < at + 1) × Contains (get_or targets s.0 []) n → Contains new n
    back (s, low, high, has) = subst (λ (ms : List MethodId). Contains ms n) (sym more) (elim (early_or_last s.0 at high) [
      | inl less ↦ Contains-append_left called row n ((gained n).1 (s, low, less, has))
      | inr same ↦ Contains-append_right called row n (subst (λ (ms : List MethodId). Contains ms n) (sym is) (subst (λ (k : ℕ). Contains (get_or targets k []) n) same has))
    ])

  -- of all statements of a method they are those that it calls
  pub gained_all : (cs : List Class) (m : MethodId) (end : ℕ) (called ordered : List MethodId) → ((s : StmtId) → IsOf cs s m ↔ ((first ≤ s.0) × (s.0 < end)))
      → Gained targets first end called → ((n : MethodId) → Contains ordered n ↔ Contains called n) → AreCalled cs targets m ordered
  gained_all cs m end called ordered own gained same n = (
    (λ has. let h = (gained n).0 ((same n).0 has) in (h.0, (own h.0).1 (h.1, h.2), h.3)),
    (λ h. let within = (own h.0).0 h.1 in (same n).1 ((gained n).1 (h.0, within.0, within.1, h.2))),
  )

-- a method is listed just where its number is
numbers_have : (ms : List MethodId) (n : MethodId) → Contains (map (λ (m : MethodId). m.0) ms) n.0 ↔ Contains ms n
numbers_have ms n = (there, back) where
  long : length (map (λ (m : MethodId). m.0) ms) ≡ length ms
  long = length-map ms (λ (m : MethodId). m.0)

  there : Contains (map (λ (m : MethodId). m.0) ms) n.0 → Contains ms n
  there (k, below, is) =
      let number : (get_or ms k n).0 ≡ n.0 = sym (get_or-map (λ (m : MethodId). m.0) ms k n n.0 (omega (arith, below, long))) ∙ is in
      (k, omega (arith, below, long), ap (λ (i : ℕ). let r : MethodId = record { 0 = i } in r) number)

  back : Contains ms n → Contains (map (λ (m : MethodId). m.0) ms) n.0
  back (k, below, is) = (k, omega (arith, below, long), get_or-map (λ (m : MethodId). m.0) ms k n n.0 below ∙ ap (λ (m : MethodId). m.0) is)

module _ (cs : List Class) (targets : List (List MethodId)) where
  pub calls_none : (rows : List (List ℕ)) → rows ≡ [] → AreCalls cs targets 0 rows
  calls_none rows is = record { counted = ap length is; each = λ m n below. absurd (omega (arith, below)) }

  pub calls_more : (m : MethodId) (called : List MethodId) (numbers : List ℕ) (rows new : List (List ℕ)) → AreCalled cs targets m called → numbers ≡ map (λ (n : MethodId). n.0) called → AreCalls cs targets m.0 rows
      → new ≡ rows ++ numbers ∷ [] → AreCalls cs targets (m.0 + 1) new
  calls_more m called numbers rows new are numbered old is = record {
    counted = let long = length_push rows numbers in let count = old.counted in omega (arith, ap length is, long, count);
    each = λ o n below. elim (early_or_last o.0 m.0 below) [
      | inl less ↦
          let same : get_or new o.0 [] ≡ get_or rows o.0 [] = ap (λ (rs : List (List ℕ)). get_or rs o.0 []) is ∙ get_or_append_left rows (numbers ∷ []) [] o.0 (let count = old.counted in omega (arith, less, count)) in
          subst (λ (r : List ℕ). Contains r n.0 ↔ ((s : StmtId) × IsOf cs s o × Contains (get_or targets s.0 []) n)) (sym same) (old.each o n less)
      | inr last ↦
          let same : get_or new o.0 [] ≡ map (λ (k : MethodId). k.0) called = ap (λ (rs : List (List ℕ)). get_or rs o.0 []) is ∙ get_or_push rows numbers [] o.0 (old.counted ∙ sym last) ∙ numbered in
          let method : m ≡ o = ap (λ (k : ℕ). let r : MethodId = record { 0 = k } in r) (sym last) in
          let has = numbers_have called n in
          subst (λ (k : MethodId). Contains (get_or new o.0 []) n.0 ↔ ((s : StmtId) × IsOf cs s k × Contains (get_or targets s.0 []) n)) method
          (subst (λ (r : List ℕ). Contains r n.0 ↔ ((s : StmtId) × IsOf cs s m × Contains (get_or targets s.0 []) n)) (sym same) ((λ there. (are n).0 (has.0 there)), (λ h. has.1 ((are n).1 h))))
    ];
  }
