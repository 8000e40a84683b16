-- The method of a class that has a signature.
use Rattle.std.proofs.Common.{◌≡◌, ◌⊎◌, ◌↔◌, ◌<◌, ◌≤◌, ◌+◌, ℕ, List, [], ◌∷◌, ◌++◌, length, get_or, map, take, Some, None, sym, ap, subst, ◌∙◌, inl, inr, arith}
use Rattle.std.specs.Prelude.{Contains, Option}
use Rattle.std.proofs.lemmas.List.{get_or_default, take_all, take_more}
use Rattle.std.proofs.lemmas.List.Elements.{Contains-push_cases}
use Rattle.std.proofs.lemmas.Option.{same_Some}
use Rattle.clean_base.specs.Lists.{At}
use Rattle.jimple_tree.specs.declared.tree.Class.{Class}
use Rattle.jimple_tree.specs.declared.tree.Method.{Method}
use Rattle.jimple_tree.specs.declared.tree.Sig.{Sig}
use Rattle.jimple_tree.specs.WellFormed.{AreDistinct, IsWellFormed, method_key}
use Rattle.jimple_tree.specs.Signatures.{HasSignature}
use Rattle.name_index.proofs.Named.{name_at}
use Rattle.class_table.specs.Index.{IsMethodAt, name_of}

order : (i j : ℕ) → (i < j) ⊎ (i ≡ j) ⊎ (j < i)
order i j = grind arith

pub key_of : (sig : Sig) (m : Method) → HasSignature sig m → method_key m ≡ (sig.name, sig.params, sig.result)
key_of sig m same = ap (λ (t : Sig). (t.name, t.params, t.result)) (sym same)

-- no item stands before another of the same key
never_before : {X K : Type 0} (key : X → K) (xs : List X) → AreDistinct key xs → (i j : ℕ) (x y : X) → i < j → At xs i x → At xs j y → key x ≡ key y → ⊥
never_before key xs distinct i j x y less at there same =
    distinct i j y less there.0 (ap key (get_or_default xs i y x at.0 ∙ at.1) ∙ same ∙ ap key (sym there.1))

-- items of one key stand at one place
pub one_key : {X K : Type 0} (key : X → K) (xs : List X) → AreDistinct key xs → (i j : ℕ) (x y : X) → At xs i x → At xs j y → key x ≡ key y → i ≡ j
one_key key xs distinct i j x y at there same = elim (order i j) [
  | inl less ↦ absurd (never_before key xs distinct i j x y less at there same)
  | inr (inl here) ↦ here
  | inr (inr more) ↦ absurd (never_before key xs distinct j i y x more there at (sym same))
]

-- and are the same
pub one_item : {X : Type 0} (xs : List X) (i j : ℕ) (x y : X) → At xs i x → At xs j y → i ≡ j → x ≡ y
one_item xs i j x y at there same = sym at.1 ∙ ap (λ (k : ℕ). get_or xs k x) same ∙ get_or_default xs j x y there.0 ∙ there.1

pub none_some : {X : Type 0} (x : X) → None ≡ Some x → ⊥
none_some x e = cc

module _ (class : Class) (sig : Sig) where
  abbrev Stands : ℕ → Type 0
  Stands place = (method : Method) × IsMethodAt class sig place method

  -- the method that was found is the one
  pub found : IsWellFormed class → (a : ℕ) (m : Method) → IsMethodAt class sig a m → (n : ℕ) → (Some a ≡ Some n) ↔ Stands n
  found formed a m h n = (
    λ e. subst Stands (same_Some a n e) (m, h),
    λ k. ap Some (one_key method_key class.methods formed.methods a n m k.0 h.0 k.1.0 (key_of sig m h.1 ∙ sym (key_of sig k.0 k.1.1))),
  )

-- none of the methods at these places has the signature
abbrev pub NoneAmong : Class → Sig → List ℕ → Type 0
NoneAmong class sig places = (k : ℕ) (m : Method) → Contains places k → IsMethodAt class sig k m → ⊥

module _ (class : Class) (sig : Sig) where
  pub none_yet : NoneAmong class sig []
  none_yet k m has is = let below = has.1 in absurd (omega (arith, below))

  -- nor the one at the next
  pub none_more : (places : List ℕ) (i k : ℕ) (method : Method) → i < length places → k ≡ get_or places i 0 → At class.methods k method → (HasSignature sig method → ⊥)
      → NoneAmong class sig (take i places) → NoneAmong class sig (take (i + 1) places)
  none_more places i k method below is at other none j m has stands = elim (Contains-push_cases (take i places) k j (subst (λ (ns : List ℕ). Contains ns j) next has)) [
    | inl early ↦ none j m early stands
    | inr same ↦ other (subst (HasSignature sig) (one_item class.methods j k m method stands.0 at (sym same)) stands.1)
  ] where
    next : take (i + 1) places ≡ take i places ++ k ∷ []
    next = take_more places i 0 below ∙ ap (λ (n : ℕ). take i places ++ n ∷ []) (sym is)

  -- where these are all places of the signature's name, no method was found
  pub not_found : (places : List ℕ) (i : ℕ) → length places ≤ i → ((place : ℕ) → Contains places place ↔ At (map name_of class.methods) place sig.name) → NoneAmong class sig (take i places)
      → (at : Option ℕ) → at ≡ None → (n : ℕ) → (at ≡ Some n) ↔ ((method : Method) × IsMethodAt class sig n method)
  not_found places i past exact none at is n = (
    λ e. absurd (none_some n (sym is ∙ e)),
    λ k. absurd (none n k.0 (subst (λ (ns : List ℕ). Contains ns n) (sym (take_all i places past)) ((exact n).1 (named k.0 k.1))) k.1),
  ) where
    named : (m : Method) → IsMethodAt class sig n m → At (map name_of class.methods) n sig.name
    named m (at, same) = subst (At (map name_of class.methods) n) (ap (λ (s : Sig). s.name) (sym same)) (name_at name_of class.methods n m at)
