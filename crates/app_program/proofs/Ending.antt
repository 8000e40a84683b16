-- The rows of statements where methods may end, as they grow.
use Rattle.std.proofs.Common.{◌≡◌, ◌⊎◌, ◌↔◌, ◌+◌, ◌<◌, ◌≤◌, ℕ, List, [], ◌∷◌, ◌++◌, Contains, length, get_or, sym, ap, ◌∙◌, subst, inl, inr, arith}
use Rattle.std.proofs.lemmas.List.{length_push, get_or_append_left, get_or_default, get_or_push, same_from_push}
use Rattle.std.proofs.lemmas.List.Elements.{Contains-append_left, Contains-push, Contains-push_cases}
use Rattle.clean_base.specs.Lists.{At}
use Rattle.clean_base.specs.declared.ids.MethodId.{MethodId}
use Rattle.clean_base.specs.declared.ids.StmtId.{StmtId}
use Rattle.jimple_tree.specs.declared.tree.Class.{Class}
use Rattle.access_path.specs.declared.view.View.{View}
use Rattle.class_table.specs.Methods.{all_methods}
use Rattle.flat_rows.specs.Rows.{AddsToLast}
use Rattle.statement_graph.specs.Statements.{IsOf}
use Rattle.app_program.specs.Ends.{AreEnds, IsSeen}

-- the rows have one more, which has the statements from the first up to this one that are seen so
abbrev pub Grown : List (List StmtId) → List View → (View → Type 0) → ℕ → ℕ → List (List StmtId) → Type 0
Grown old views Is first at rows = (row : List StmtId) × (rows ≡ old ++ row ∷ []) × ((s : StmtId) → Contains row s ↔ ((first ≤ s.0) × (s.0 < at) × IsSeen views Is s))

abbrev stmt_id : ℕ → StmtId
stmt_id n = record { 0 = n }

no_item : {X : Type 0} (x : X) → Contains [] x → ⊥
no_item x (k, below, is) = absurd (omega (arith, below))

early_or_last : (i n : ℕ) → i < n + 1 → (i < n) ⊎ (i ≡ n)
early_or_last i n h = grind arith

one_view : (views : List View) (n : ℕ) (v w : View) → At views n v → At views n w → v ≡ w
one_view views n v w one two = sym one.1 ∙ get_or_default views n v w one.0 ∙ two.1

module _ (old : List (List StmtId)) (views : List View) (Is : View → Type 0) (first : ℕ) where
  pub grown_none : (rows : List (List StmtId)) → rows ≡ old ++ [] ∷ [] → Grown old views Is first first rows
  grown_none rows is = (
    [],
    is,
    λ s. (
      (λ has. absurd (no_item s has)),
      (λ h. let low = h.0 in let high = h.1 in absurd (omega (arith, low, high))),
    ),
  )

  pub grown_some : (at : ℕ) (rows : List (List StmtId)) → Grown old views Is first at rows → 0 < length rows
  grown_some at rows (row, is, each) = omega (arith, ap length is, length_push old row)

  pub grown_more : (at : ℕ) (view : View) (rows new : List (List StmtId)) → first ≤ at → At views at view → Is view → Grown old views Is first at rows → AddsToLast rows (record { 0 = at } ∷ []) new
      → Grown old views Is first (at + 1) new
  grown_more at view rows new from there seen (row, is, each) (before, last, was, now) = (row ++ stmt_id at ∷ [], added, λ s. (forth s, back s)) where
    both : (before ≡ old) × (last ≡ row)
    both = same_from_push before old last row (sym was ∙ is)

    added : new ≡ old ++ (row ++ stmt_id at ∷ []) ∷ []
    added = now ∙ ap (λ (rs : List (List StmtId)). rs ++ (last ++ stmt_id at ∷ []) ∷ []) both.0 ∙ ap (λ (r : List StmtId). old ++ (r ++ stmt_id at ∷ []) ∷ []) both.1

    forth : (s : StmtId) → Contains (row ++ stmt_id at ∷ []) s → (first ≤ s.0) × (s.0 < at + 1) × IsSeen views Is s
    forth s has = elim (Contains-push_cases row (stmt_id at) s has) [
      | inl early ↦ let h = (each s).0 early in (h.0, (let less = h.1 in omega (arith, less)), h.2)
      | inr same ↦ let number : at ≡ s.0 = ap (λ (x : StmtId). x.0) same in (omega (arith, from, number), omega (arith, number), (view, subst (λ (n : ℕ). At views n view) number there, seen))
    ]

    back : (s : StmtId) → (first ≤ s.0) × (s.0 < at + 1) × IsSeen views Is s → Contains (row ++ stmt_id at ∷ []) s
    back s (low, high, is_seen) = elim (early_or_last s.0 at high) [
      | inl less ↦ Contains-append_left row (stmt_id at ∷ []) s ((each s).1 (low, less, is_seen))
      | inr same ↦ subst (λ (x : StmtId). Contains (row ++ stmt_id at ∷ []) x) (ap stmt_id (sym same)) (Contains-push row (stmt_id at))
    ]

  pub grown_past : (at : ℕ) (view : View) (rows : List (List StmtId)) → At views at view → (Is view → ⊥) → Grown old views Is first at rows → Grown old views Is first (at + 1) rows
  grown_past at view rows there unseen (row, is, each) = (
    row,
    is,
    λ s. (
      (λ has. let h = (each s).0 has in (h.0, (let less = h.1 in omega (arith, less)), h.2)),
      (λ h. elim (early_or_last s.0 at h.1) [
        | inl less ↦ (each s).1 (h.0, less, h.2)
        | inr same ↦ absurd (unseen (subst Is (one_view views at h.2.0 view (subst (λ (n : ℕ). At views n h.2.0) same h.2.1) there) h.2.2))
      ]),
    ),
  )

  -- with all statements of the next method the rows are those of one method more
  pub grown_all : (cs : List Class) (m : MethodId) (end : ℕ) (rows : List (List StmtId)) → ((s : StmtId) → IsOf cs s m ↔ ((first ≤ s.0) × (s.0 < end)))
      → AreEnds cs views Is m.0 old → Grown old views Is first end rows → AreEnds cs views Is (m.0 + 1) rows
  grown_all cs m end rows own are (row, is, each) = record {
    counted = let long = length_push old row in let count = are.counted in omega (arith, ap length is, long, count);
    each = λ n s below. elim (early_or_last n.0 m.0 below) [
      | inl less ↦
          let same : get_or rows n.0 [] ≡ get_or old n.0 [] = ap (λ (rs : List (List StmtId)). get_or rs n.0 []) is ∙ get_or_append_left old (row ∷ []) [] n.0 (let count = are.counted in omega (arith, less, count)) in
          subst (λ (r : List StmtId). Contains r s ↔ (IsOf cs s n × IsSeen views Is s)) (sym same) (are.each n s less)
      | inr last ↦
          let same : get_or rows n.0 [] ≡ row = ap (λ (rs : List (List StmtId)). get_or rs n.0 []) is ∙ get_or_push old row [] n.0 (are.counted ∙ sym last) in
          let method : m ≡ n = ap (λ (k : ℕ). let r : MethodId = record { 0 = k } in r) (sym last) in
          subst (λ (k : MethodId). Contains (get_or rows n.0 []) s ↔ (IsOf cs s k × IsSeen views Is s)) method (subst (λ (r : List StmtId). Contains r s ↔ (IsOf cs s m × IsSeen views Is s)) (sym same) (here s))
    ];
  } where
    here : (s : StmtId) → Contains row s ↔ (IsOf cs s m × IsSeen views Is s)
    here s = (
      (λ has. let h = (each s).0 has in ((own s).1 (h.0, h.1), h.2)),
      (λ h. let within = (own s).0 h.0 in (each s).1 (within.0, within.1, h.1)),
    )

-- no row yet
pub ends_none : (cs : List Class) (views : List View) (Is : View → Type 0) (rows : List (List StmtId)) → rows ≡ [] → AreEnds cs views Is 0 rows
ends_none cs views Is rows is = record { counted = ap length is; each = λ m s below. absurd (omega (arith, below)) }

-- of the same classes and views they are the same
pub ends_as : (cs ds : List Class) (views seen : List View) (Is : View → Type 0) (rows : List (List StmtId)) → ds ≡ cs → seen ≡ views → AreEnds ds seen Is (length (all_methods ds)) rows → AreEnds cs views Is (length (all_methods cs)) rows
ends_as cs ds views seen Is rows classes same ends = subst (λ (es : List Class). AreEnds es views Is (length (all_methods es)) rows) classes (subst (λ (vs : List View). AreEnds ds vs Is (length (all_methods ds)) rows) same ends)
