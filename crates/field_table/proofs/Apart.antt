-- No field is declared twice, where classes differ in name and the fields of each in name or type.
use Rattle.std.proofs.Common.{◌≡◌, ◌<◌, ◌≤◌, ◌-◌, ◌⊎◌, inl, inr, ℕ, suc, List, [], ◌∷◌, ◌++◌, length, get_or, take, refl, sym, ap, ◌∙◌, arith}
use Rattle.std.specs.Prelude.{All, Contains}
use Rattle.std.proofs.lemmas.List.{get_or-map, get_or_default, length-map, take_all}
use Rattle.std.proofs.lemmas.List.Elements.{All-head, All-tail, Contains-append_cases}
use Rattle.clean_base.specs.Lists.{At, IsDistinct}
use Rattle.class_table.specs.Faults.{HaveNames}
use Rattle.class_table.proofs.Linked.{map_from}
use Rattle.class_table.proofs.Once.{all_fresh}
use Rattle.indexmap.specs.IndexSet.{insert_all}
use Rattle.field_table.specs.Fields.{field_sig, fields_of, declared_sigs, same_sig}
use Rattle.field_table.proofs.Keys.{sigs_decide}
use Rattle.field_table.proofs.Places.{at_one_of}
use Rattle.jimple_tree.specs.WellFormed.{IsWellFormed}
use Rattle.jimple_tree.specs.declared.tree.Class.{Class}
use Rattle.jimple_tree.specs.declared.tree.Field.{Field}
use Rattle.jimple_tree.specs.declared.tree.FieldSig.{FieldSig}

-- two lists without repeats that share nothing
apart_both : {X : Type 0} (xs ys : List X) → IsDistinct xs → IsDistinct ys → ((x : X) → Contains xs x → Contains ys x → ⊥) → IsDistinct (xs ++ ys)
apart_both {X} xs ys one two none i j d less below same = by (at_one_of xs ys i (get_or (xs ++ ys) i d) first) (at_one_of xs ys j (get_or (xs ++ ys) i d) second) where
  first : At (xs ++ ys) i (get_or (xs ++ ys) i d)
  first = (let sooner : i < length (xs ++ ys) = omega (arith, less, below) in (sooner, get_or_default (xs ++ ys) i (get_or (xs ++ ys) i d) d sooner))

  second : At (xs ++ ys) j (get_or (xs ++ ys) i d)
  second = (below, get_or_default (xs ++ ys) j (get_or (xs ++ ys) i d) d below ∙ sym same)

  by : At xs i (get_or (xs ++ ys) i d) ⊎ ((length xs ≤ i) × At ys (i - length xs) (get_or (xs ++ ys) i d)) → At xs j (get_or (xs ++ ys) i d) ⊎ ((length xs ≤ j) × At ys (j - length xs) (get_or (xs ++ ys) i d)) → ⊥
  by (inl a) (inl b) = one i j (get_or (xs ++ ys) i d) less b.0 (a.1 ∙ sym b.1)
  by (inl a) (inr b) = none (get_or (xs ++ ys) i d) (i, a.0, a.1) (j - length xs, b.1.0, b.1.1)
  by (inr a) (inl b) = let past = a.0 in let within = b.0 in omega (arith, past, within, less)
  by (inr a) (inr b) = let low = a.0 in two (i - length xs) (j - length xs) (get_or (xs ++ ys) i d) (omega (arith, low, less)) b.1.0 (a.1.1 ∙ sym b.1.1)

-- the fields of one class
own_apart : (c : Class) → IsWellFormed c → IsDistinct (fields_of c)
own_apart c formed i j d less below same =
    let long = length-map c.fields (field_sig c) in
    let f : Field = record { modifiers = []; ty = d.ty; name = d.name } in
    let later : j < length c.fields = omega (arith, below, long) in
    let sooner : i < length c.fields = omega (arith, less, later) in
    let sigs : field_sig c (get_or c.fields i f) ≡ field_sig c (get_or c.fields j f) = sym (get_or-map (field_sig c) c.fields i f d sooner) ∙ same ∙ get_or-map (field_sig c) c.fields j f d later in
    formed.fields i j f less later (ap (λ (s : FieldSig). (s.name, s.ty)) sigs)

of_class : (c : Class) (sig : FieldSig) → Contains (fields_of c) sig → c.name ≡ sig.class
of_class c sig has = let found = map_from (field_sig c) c.fields sig has in ap (λ (s : FieldSig). s.class) found.2

of_some : (cs : List Class) (sig : FieldSig) → Contains (declared_sigs cs) sig → (c : Class) × Contains cs c × (c.name ≡ sig.class)
of_some [] sig has = absurd (let below = has.1 in omega (arith, below))
of_some (c ∷ cs) sig has = elim (Contains-append_cases (fields_of c) (declared_sigs cs) sig has) [
  | inl own ↦ (c, (0, (omega arith), refl), of_class c sig own)
  | inr later ↦ let found = of_some cs sig later in let there = found.1 in (found.0, (suc there.0, (let within = there.1 in omega (arith, within)), there.2), found.2)
]

-- the fields of all
pub declared_apart : (cs : List Class) → HaveNames cs → All IsWellFormed cs → IsDistinct (declared_sigs cs)
declared_apart [] names formed = λ i j d less below same. absurd (omega (arith, below))
declared_apart (c ∷ cs) names formed =
    apart_both (fields_of c) (declared_sigs cs) (own_apart c (All-head IsWellFormed c cs formed))
    (declared_apart cs (λ i j d less below. names (suc i) (suc j) d (omega (arith, less)) (omega (arith, below))) (All-tail IsWellFormed c cs formed)) (λ sig own other. shares sig (of_class c sig own) (of_some cs sig other)) where
      shares : (sig : FieldSig) → c.name ≡ sig.class → (d : Class) × Contains cs d × (d.name ≡ sig.class) → ⊥
      shares sig one (d, has, two) = names 0 (suc has.0) d (omega arith) (let below = has.1 in omega (arith, below)) (one ∙ sym two ∙ ap (λ (e : Class). e.name) (sym has.2))

-- so they are a set as they stand
pub declared_whole : (cs : List Class) → HaveNames cs → All IsWellFormed cs → (n : ℕ) → length cs ≤ n → (sigs : List FieldSig) → sigs ≡ insert_all same_sig [] (declared_sigs (take n cs)) → sigs ≡ declared_sigs cs
declared_whole cs names formed n past sigs is =
    is ∙ ap (λ (ds : List Class). insert_all same_sig [] (declared_sigs ds)) (take_all n cs past)
    ∙ all_fresh same_sig sigs_decide [] (declared_sigs cs) (declared_apart cs names formed)
