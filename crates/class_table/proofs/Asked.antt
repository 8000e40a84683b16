-- Where the classes that have methods of a name have that of a signature.
use Rattle.std.proofs.Common.{◌≡◌, ◌↔◌, ◌⊎◌, ◌<◌, ◌≤◌, ◌+◌, ℕ, List, [], ◌∷◌, length, get_or, set, take, replicate, All, Option, None, sym, ap, subst, ◌∙◌, inl, inr, arith}
use Rattle.std.specs.Prelude.{Contains}
use Rattle.std.proofs.lemmas.List.{get_or-replicate, length-replicate, length-set, take_all, take_more}
use Rattle.std.proofs.lemmas.List.Elements.{Contains-push_cases}
use Rattle.clean_base.specs.Lists.{At}
use Rattle.jimple_tree.specs.WellFormed.{IsWellFormed}
use Rattle.jimple_tree.specs.declared.tree.Class.{Class}
use Rattle.jimple_tree.specs.declared.tree.Sig.{Sig}
use Rattle.reach_rows.proofs.Places.{same_number_or_not, at_one, at_set_same, at_of_set}
use Rattle.class_table.specs.Faults.{HaveNames}
use Rattle.class_table.specs.Firsts.{AreOwn, IsFirst, LacksAt, later, nowhere}
use Rattle.class_table.specs.Hierarchy.{class_names}
use Rattle.class_table.specs.Links.{name_at}
use Rattle.class_table.specs.Members.{AreHolders, method_names}
use Rattle.class_table.specs.declared.members.Holders.{Holders}
use Rattle.class_table.specs.declared.members.Place.{Place}
use Rattle.class_table.proofs.Callable.{in_class, named_at}
use Rattle.class_table.proofs.Holding.{owns}
use Rattle.class_table.proofs.Signed.{one_item}

-- none of these methods is one of the class at this place
abbrev OwnsNone : List ℕ → List ℕ → ℕ → Type 0
OwnsNone owners methods at = (k : ℕ) → Contains methods k → At owners k at → ⊥

-- the owners of these methods were asked
pub record AreAsked (cs : List Class) (sig : Sig) (owners methods : List ℕ) (places : List (Option Place)) : Type 0 where
  pub count : length places ≡ length (class_names cs)
  pub each : (at : ℕ) (r : Option Place) → At places at r → IsFirst cs sig (at ∷ []) r ⊎ ((r ≡ None) × OwnsNone owners methods at)

module _ (cs : List Class) (sig : Sig) (owners : List ℕ) where
  -- none yet
  pub asked_none : (count : ℕ) (places : List (Option Place)) → count ≡ length (class_names cs) → places ≡ replicate count None → AreAsked cs sig owners [] places
  asked_none count places all are = subst (AreAsked cs sig owners []) (sym are) (record {
    count = length-replicate count None ∙ all;
    each = λ at r there.
        let long = length-replicate {A = Option Place} count None in
        let below = there.0 in
        inr (sym there.1 ∙ get_or-replicate count at None r (omega (arith, long, below)), λ k has stands. let empty = has.1 in omega (arith, empty));
  })

  -- one more
  pub asked_more : (methods : List ℕ) (i at : ℕ) (r : Option Place) (old new : List (Option Place)) → i < length methods → At owners (get_or methods i 0) at → at < length old → IsFirst cs sig (at ∷ []) r → new ≡ set old at r
      → AreAsked cs sig owners (take i methods) old → AreAsked cs sig owners (take (i + 1) methods) new
  asked_more methods i at r old new below owner within first writes are = subst (AreAsked cs sig owners (take (i + 1) methods)) (sym writes) (record {
    count = length-set old at r ∙ are.count;
    each = λ p x there. elim (same_number_or_not p at) [
      | inl same ↦
          let value : r ≡ x = at_one (set old at r) at r x (at_set_same old at r within) (subst (λ (n : ℕ). At (set old at r) n x) same there) in
          inl (subst (λ (n : ℕ). IsFirst cs sig (n ∷ []) x) (sym same) (subst (IsFirst cs sig (at ∷ [])) value first))
      | inr apart ↦ elim (are.each p x (at_of_set old at r p x there apart)) [
        | inl was ↦ inl was
        | inr lacks ↦ inr (
          lacks.0,
          λ k has stands. elim (Contains-push_cases (take i methods) (get_or methods i 0) k (subst (λ (ms : List ℕ). Contains ms k) (take_more methods i 0 below) has)) [
            | inl early ↦ lacks.1 k early stands
            | inr this ↦ apart (one_item owners k (get_or methods i 0) p at stands owner (sym this))
          ],
        )
      ]
    ];
  })

-- a class that has no method of the signature's name lacks one that may be called
owns_lacks : (cs : List Class) → All IsWellFormed cs → HaveNames cs → (h : Holders) → AreHolders cs (length (method_names cs)) h → (sig : Sig) (methods : List ℕ) → ((k : ℕ) → Contains methods k ↔ At (method_names cs) k sig.name)
    → (at : ℕ) → at < length (class_names cs) → OwnsNone h.owners.items methods at → LacksAt cs sig at
owns_lacks cs formed names h are sig methods exact at below none c m has =
    let here = in_class cs formed names sig at (name_at cs at) c m (named_at cs formed names sig at below) has in
    let member = has.member in
    let held = owns cs h are at c member.0 m here (member.1, member.2) in
    let named : m.name ≡ sig.name = ap (λ (s : Sig). s.name) has.named in
    none held.0 ((exact held.0).1 (subst (At (method_names cs) held.0) named held.2)) held.1

-- all of them
pub asked_all : (cs : List Class) → All IsWellFormed cs → HaveNames cs → (h : Holders) → AreHolders cs (length (method_names cs)) h → (sig : Sig) (methods : List ℕ) → ((k : ℕ) → Contains methods k ↔ At (method_names cs) k sig.name)
    → (i : ℕ) (places : List (Option Place)) → length methods ≤ i → AreAsked cs sig h.owners.items (take i methods) places → AreOwn cs sig places
asked_all cs formed names h are sig methods exact i places past asked = record {
  count = asked.count;
  each = λ at r there. elim (asked.each at r there) [
    | inl first ↦ first
    | inr lacks ↦
        let below = there.0 in
        let count = asked.count in
        let none = subst (λ (ms : List ℕ). OwnsNone h.owners.items ms at) (take_all i methods past) lacks.1 in
        subst (IsFirst cs sig (at ∷ [])) (sym lacks.0) (later (owns_lacks cs formed names h are sig methods exact at (omega (arith, below, count)) none) nowhere)
  ];
}
