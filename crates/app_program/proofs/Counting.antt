-- How many locals methods have, as they are counted.
use Rattle.std.proofs.Common.{◌≡◌, ◌⊎◌, ◌+◌, ◌<◌, ℕ, List, [], ◌∷◌, ◌++◌, length, sym, ap, ◌∙◌, subst, inl, inr, arith}
use Rattle.std.proofs.lemmas.List.{length_push, get_or_append_left, get_or_push}
use Rattle.clean_base.specs.Lists.{At}
use Rattle.clean_base.specs.declared.ids.MethodId.{MethodId}
use Rattle.jimple_tree.specs.declared.tree.Class.{Class}
use Rattle.jimple_tree.specs.declared.tree.Method.{Method}
use Rattle.class_table.specs.Methods.{all_methods, IsNumber}
use Rattle.class_table.proofs.Signed.{one_item}
use Rattle.program_code.specs.App.{locals_of}

-- how many locals the first so many methods have
pub record AreCounted (cs : List Class) (count : ℕ) (locals : List ℕ) : Type 0 where
  pub counted : length locals ≡ count
  pub each : (m : MethodId) (c : Class) (k : Method) → m.0 < count → IsNumber cs m c k → At locals m.0 (length (locals_of k))

early_or_last : (i n : ℕ) → i < n + 1 → (i < n) ⊎ (i ≡ n)
early_or_last i n h = grind arith

pub counted_none : (cs : List Class) (locals : List ℕ) → locals ≡ [] → AreCounted cs 0 locals
counted_none cs locals is = record { counted = ap length is; each = λ m c k below. absurd (omega (arith, below)) }

pub counted_more : (cs : List Class) (m : MethodId) (c : Class) (k : Method) (n : ℕ) (locals new : List ℕ) → IsNumber cs m c k → n ≡ length (locals_of k) → AreCounted cs m.0 locals → new ≡ locals ++ n ∷ [] → AreCounted cs (m.0 + 1) new
counted_more cs m c k n locals new at is old more = record {
  counted = let long = length_push locals n in let count = old.counted in omega (arith, ap length more, long, count);
  each = λ o d l below there. elim (early_or_last o.0 m.0 below) [
    | inl less ↦
        let known = old.each o d l less there in
        subst (λ (ns : List ℕ). At ns o.0 (length (locals_of l))) (sym more)
        (let long = length_push locals n in let within = known.0 in omega (arith, within, long), get_or_append_left locals (n ∷ []) (length (locals_of l)) o.0 known.0 ∙ known.1)
    | inr last ↦
        let same : k ≡ l = ap (λ (x : Class × Method). x.1) (one_item (all_methods cs) m.0 o.0 (c, k) (d, l) at there (sym last)) in
        let place : length locals ≡ o.0 = old.counted ∙ sym last in
        subst (λ (ns : List ℕ). At ns o.0 (length (locals_of l))) (sym more)
        (let long = length_push locals n in omega (arith, place, long), get_or_push locals n (length (locals_of l)) o.0 place ∙ is ∙ ap (λ (x : Method). length (locals_of x)) same)
  ];
}
