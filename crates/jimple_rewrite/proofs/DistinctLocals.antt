-- The locals of a body in which no name is given twice to locals differ by name.
use Rattle.std.proofs.Common.{◌≡◌, ℕ, ◌+◌, ◌<◌, Bool, true, false, ◌||◌, List, [], ◌∷◌, ◌++◌, length, map, flat_map, filter_map, AllPairs, Option, Some, None, is_some, refl, sym, ◌∙◌, ap, subst, arith, true≢false}
use Rattle.std.specs.List.{list_any, position, position_from}
use Rattle.std.specs.Str.{bytes_eq}
use Rattle.std.proofs.Math.ListN.{get_or-map}
use Rattle.std.proofs.lemmas.Iterator.Adapters.{position_from-zero}
use Rattle.std.proofs.lemmas.List.{length-map, map-append}
use Rattle.std.proofs.lemmas.Slice.Eq.{bytes_eq-Decides}
use Rattle.jimple_tree.specs.declared.tree.Local.{Local}
use Rattle.jimple_grammar.specs.declared.lexeme.Lexeme.{Lexeme}
use Rattle.jimple_grammar.specs.declared.raw.RawBody.{RawBody}
use Rattle.jimple_grammar.specs.declared.raw.RawDecl.{RawDecl}
use Rattle.jimple_names.specs.Texts.{name_of}
use Rattle.jimple_names.specs.Scope.{declared, scope_of, items_of, local_at}
use Rattle.jimple_names.specs.Faults.{◌or◌, first, in_turn, declared_fault, item_fault, catch_fault, body_fault}
use Rattle.jimple_names.specs.Tree.{declares, locals_of, body_of}
use Rattle.jimple_names.proofs.WellFormedParts.{or_none, double_none, distinct_in_turn}
use Rattle.jimple_rewrite.proofs.Written.{LocalsAreDistinct}

-- Lists

from_any : {A : Type 0} (p : A → Bool) (n : ℕ) (xs : List A) → is_some (position_from p n xs) ≡ list_any p xs
from_any p n [] = refl
from_any p n (x ∷ xs) = of (p x) refl (from_any p (n + 1) xs) where
  of : (b : Bool) → p x ≡ b → is_some (position_from p (n + 1) xs) ≡ list_any p xs → is_some (position_from p n (x ∷ xs)) ≡ list_any p (x ∷ xs)
  of true e rest = rw e refl
  of false e rest = rw e rest

place_any : {A : Type 0} (p : A → Bool) (xs : List A) → is_some (position p xs) ≡ list_any p xs
place_any p xs = ap is_some (position_from-zero p xs) ∙ from_any p 0 xs

any_mapped : {A B : Type 0} (p : B → Bool) (f : A → B) (xs : List A) → list_any p (map f xs) ≡ list_any (λ x. p (f x)) xs
any_mapped p f [] = refl
any_mapped p f (x ∷ xs) = ap (λ b. p (f x) || b) (any_mapped p f xs)

all_some : {A B : Type 0} (f : A → B) (xs : List A) → filter_map (λ x. Some (f x)) xs ≡ map f xs
all_some f [] = refl
all_some {B} f (x ∷ xs) = ap (λ (ys : List B). f x ∷ ys) (all_some f xs)

by_key : {A K : Type 0} (key : A → K) (xs : List A) → AllPairs (λ a b. a ≡ b → ⊥) (map key xs) → AllPairs (λ x y. key x ≡ key y → ⊥) xs
by_key key xs h i j d less inside e =
    let within : j < length (map key xs) = let long = length-map xs key in omega (arith, long, inside) in
    h i j (key d) less within (get_or-map key xs i d ∙ e ∙ sym (get_or-map key xs j d))

module _ (bytes : List ℕ) where
  abbrev one_name : Lexeme → Lexeme → Bool
  one_name x w = bytes_eq (name_of bytes w) (name_of bytes x)

  abbrev its_name : Lexeme → Option (List ℕ)
  its_name t = Some (name_of bytes t)

  some_is : {A : Type 0} (x y : A) → ◌≡◌ {A = Option A} (Some x) (Some y) → x ≡ y
  some_is x y e = cc

  told : (x w : Lexeme) (y z : List ℕ) → its_name x ≡ Some y → its_name w ≡ Some z → one_name x w ≡ false → z ≡ y → ⊥
  told x w y z is on apart same =
      true≢false (sym ((bytes_eq-Decides (name_of bytes w) (name_of bytes x)).1 (some_is (name_of bytes w) z on ∙ same ∙ sym (some_is (name_of bytes x) y is))) ∙ apart)

  -- a name without a fault is none of those before it
  none_before : (before : List Lexeme) (x : Lexeme) → declared_fault bytes before x ≡ None → list_any (one_name x) before ≡ false
  none_before before x e =
      sym (any_mapped (λ m. bytes_eq m (name_of bytes x)) (name_of bytes) before) ∙ sym (place_any (λ m. bytes_eq m (name_of bytes x)) (map (name_of bytes) before))
      ∙ double_none (is_some (local_at (map (name_of bytes) before) (name_of bytes x))) x e

  names_differ : (ts : List Lexeme) → in_turn (declared_fault bytes) [] ts ≡ None → AllPairs (λ a b. a ≡ b → ⊥) (map (name_of bytes) ts)
  names_differ ts e =
      subst (AllPairs (λ a b. a ≡ b → ⊥)) (all_some (name_of bytes) ts)
      (distinct_in_turn its_name (λ y. y) one_name told (declared_fault bytes) none_before ts [] e (λ i j d less inside. absurd (omega (arith, inside))))

  -- Bodies

  own_names : (d : RawDecl) (ts : List Lexeme) → map (λ (l : Local). l.name) (map (declares bytes d) ts) ≡ map (name_of bytes) ts
  own_names d [] = refl
  own_names d (t ∷ ts) = ap (λ (xs : List (List ℕ)). name_of bytes t ∷ xs) (own_names d ts)

  local_names : (ds : List RawDecl) → map (λ (l : Local). l.name) (flat_map (locals_of bytes) ds) ≡ map (name_of bytes) (flat_map (λ (d : RawDecl). d.names) ds)
  local_names [] = refl
  local_names (d ∷ ds) =
      map-append (λ (l : Local). l.name) (locals_of bytes d) (flat_map (locals_of bytes) ds)
      ∙ ap (λ (xs : List (List ℕ)). xs ++ map (λ (l : Local). l.name) (flat_map (locals_of bytes) ds)) (own_names d d.names)
      ∙ ap (λ (xs : List (List ℕ)). map (name_of bytes) d.names ++ xs) (local_names ds)
      ∙ sym (map-append (name_of bytes) d.names (flat_map (λ (d : RawDecl). d.names) ds))

  pub body_distinct : (b : RawBody) → body_fault bytes b ≡ None → LocalsAreDistinct (body_of bytes b)
  body_distinct b e =
      let parts = or_none (in_turn (declared_fault bytes) [] (declared b)) (in_turn (item_fault bytes (scope_of bytes b)) [] (items_of b.code) or first (catch_fault bytes (scope_of bytes b)) b.catches) e in
      by_key (λ (l : Local). l.name) (flat_map (locals_of bytes) b.decls) (subst (AllPairs (λ (x y : List ℕ). x ≡ y → ⊥)) (sym (local_names b.decls)) (names_differ (declared b) parts.0))
