-- Which classes have methods of a name: one method more, and what is found there.
use Rattle.std.proofs.Common.{◌≡◌, ◌↔◌, ◌<◌, ◌≤◌, ◌+◌, ℕ, List, [], ◌∷◌, ◌++◌, length, get_or, map, take, sym, ap, subst, ◌∙◌, inl, inr, arith}
use Rattle.std.specs.Prelude.{Contains}
use Rattle.std.proofs.lemmas.List.{get_or_default, length-append, length-map, length_push, take_all, take_more}
use Rattle.std.proofs.lemmas.List.Elements.{Contains-get_or}
use Rattle.std.proofs.lemmas.Grind.{flat_map-append}
use Rattle.clean_base.specs.Lists.{At}
use Rattle.jimple_tree.specs.declared.tree.Class.{Class}
use Rattle.jimple_tree.specs.declared.tree.Method.{Method}
use Rattle.name_index.specs.Index.{IsIndex}
use Rattle.name_index.proofs.Named.{name_at}
use Rattle.reach_rows.proofs.Places.{at_push_cases}
use Rattle.class_table.specs.Faults.{HaveNames}
use Rattle.class_table.specs.Hierarchy.{class_names}
use Rattle.class_table.specs.Index.{name_of}
use Rattle.class_table.specs.Members.{AreHolders, method_names}
use Rattle.class_table.specs.declared.members.Holders.{Holders}
use Rattle.class_table.proofs.Doubles.{own_number}
use Rattle.class_table.proofs.Picked.{flat_at, one_part}

abbrev own_names : Class → List (List ℕ)
own_names c = map name_of c.methods

-- how many methods stand before those of the class at this place
abbrev pub methods_before : List Class → ℕ → ℕ
methods_before cs at = length (method_names (take at cs))

-- a class's last method is before the next class's first
before_next : (cs : List Class) (at : ℕ) (c : Class) → At cs at c → methods_before cs (at + 1) ≡ methods_before cs at + length c.methods
before_next cs at c here =
    let next : take (at + 1) cs ≡ take at cs ++ c ∷ [] = take_more cs at c here.0 ∙ ap (λ (x : Class). take at cs ++ x ∷ []) here.1 in
    let parts = ap (λ (ds : List Class). length (method_names ds)) next ∙ ap length (flat_map-append own_names (take at cs) (c ∷ [])) in
    let both = length-append (method_names (take at cs)) (own_names c ++ []) in
    let own = length-append (own_names c) [] in
    let mapped = length-map c.methods name_of in
    omega (arith, parts, both, own, mapped)

-- the name of a method stands behind those of the classes before its own
name_there : (cs : List Class) (at : ℕ) (c : Class) (i : ℕ) (m : Method) → At cs at c → At c.methods i m → At (method_names cs) (methods_before cs at + i) m.name
name_there cs at c i m here there = flat_at own_names cs at c i m.name here (name_at name_of c.methods i m there)

-- one method more
pub holders_more : (cs : List Class) (at : ℕ) (c : Class) (i : ℕ) (m : Method) (old new : Holders) (place : ℕ) → At cs at c → At c.methods i m → place ≡ length old.owners.items
    → ((names : List (List ℕ)) → At names place m.name → IsIndex (take place names) old.names → IsIndex (take (place + 1) names) new.names)
    → new.owners.items ≡ old.owners.items ++ at ∷ [] → AreHolders cs (methods_before cs at + i) old → AreHolders cs (methods_before cs at + (i + 1)) new
holders_more cs at c i m old new place here there long adds more are =
    let was = old.owners.items in
    let names = method_names cs in
    let count : place ≡ methods_before cs at + i = long ∙ are.counted in
    let next : place + 1 ≡ methods_before cs at + (i + 1) = omega (arith, count) in
    let named : At names place m.name = subst (λ (k : ℕ). At names k m.name) (sym count) (name_there cs at c i m here there) in
    record {
      index = subst (λ (k : ℕ). IsIndex (take k names) new.names) next (adds names named (subst (λ (k : ℕ). IsIndex (take k names) old.names) (sym count) are.index));
      counted = ap length more ∙ length_push was at ∙ ap (λ (k : ℕ). k + 1) (sym long) ∙ next;
      owners = λ k p stands. elim (at_push_cases was at k p (subst (λ (os : List ℕ). At os k p) more stands)) [
        | inl before ↦ are.owners k p before
        | inr last ↦ subst (λ (q : ℕ). (d : Class) × (j : ℕ) × At cs q d × (j < length d.methods) × (k ≡ methods_before cs q + j)) last.1 (c, i, here, there.0, last.0 ∙ are.counted)
      ];
    }

-- all methods of a class
pub holders_class : (cs : List Class) (at : ℕ) (c : Class) (i : ℕ) (h : Holders) → At cs at c → i ≡ length c.methods → AreHolders cs (methods_before cs at + i) h → AreHolders cs (methods_before cs (at + 1)) h
holders_class cs at c i h here all are = let next = before_next cs at c here in subst (λ (n : ℕ). AreHolders cs n h) (omega (arith, next, all)) are

-- all classes
pub holders_all : (cs : List Class) (at : ℕ) (h : Holders) → length cs ≤ at → AreHolders cs (methods_before cs at) h → AreHolders cs (length (method_names cs)) h
holders_all cs at h past are = subst (λ (ds : List Class). AreHolders cs (length (method_names ds)) h) (take_all at cs past) are

module _ (cs : List Class) (h : Holders) (are : AreHolders cs (length (method_names cs)) h) where
  -- the index of all names
  pub whole_index : IsIndex (method_names cs) h.names
  whole_index = subst (λ (names : List (List ℕ)). IsIndex names h.names) (take_all (length (method_names cs)) (method_names cs) (omega arith)) are.index

  -- each method of a name has an owner
  pub has_owner : (name : List ℕ) (methods : List ℕ) → ((k : ℕ) → Contains methods k ↔ At (method_names cs) k name) → (i : ℕ) → i < length methods → get_or methods i 0 < length h.owners.items
  has_owner name methods exact i within =
      let below = ((exact (get_or methods i 0)).0 (Contains-get_or methods i 0 within)).0 in
      let count = are.counted in
      omega (arith, below, count)

  -- whose place is the number of its name
  pub owner_there : HaveNames cs → (name : List ℕ) (methods : List ℕ) → ((k : ℕ) → Contains methods k ↔ At (method_names cs) k name) → (i owner : ℕ) → i < length methods → owner ≡ get_or h.owners.items (get_or methods i 0) owner
      → At h.owners.items (get_or methods i 0) owner × (owner < length (class_names cs))
  owner_there names name methods exact i owner within read =
      let stands : At h.owners.items (get_or methods i 0) owner = (has_owner name methods exact i within, sym read) in
      let own = are.owners (get_or methods i 0) owner stands in
      (stands, (own_number cs names owner own.0 own.2.0 (sym own.2.1)).0)

  -- a class owns its methods
  pub owns : (at : ℕ) (c : Class) (i : ℕ) (m : Method) → At cs at c → At c.methods i m → (k : ℕ) × At h.owners.items k at × At (method_names cs) k m.name
  owns at c i m here there =
      let named = name_there cs at c i m here there in
      let k = methods_before cs at + i in
      let owner = get_or h.owners.items k 0 in
      let stands : At h.owners.items k owner = (let within = named.0 in let count = are.counted in let below : k < length h.owners.items = omega (arith, within, count) in (below, get_or_default h.owners.items k owner 0 below)) in
      (k, by owner stands (are.owners k owner stands), named) where
        by : (owner : ℕ) → At h.owners.items (methods_before cs at + i) owner
            → ((d : Class) × (j : ℕ) × At cs owner d × (j < length d.methods) × (methods_before cs at + i ≡ methods_before cs owner + j)) → At h.owners.items (methods_before cs at + i) at
        by owner stands (d, j, its, within, same) =
            let mine = length-map c.methods name_of in
            let other = length-map d.methods name_of in
            let inside = there.0 in
            subst (At h.owners.items (methods_before cs at + i)) (one_part own_names cs owner at j i d c its here (omega (arith, other, within)) (omega (arith, mine, inside)) (sym same)) stands
