-- Lines are a list, or have one first fault, and never both; and how far a list is read.
use Rattle.std.proofs.Common.{◌≡◌, ◌⊎◌, ◌+◌, ℕ, List, [], ◌∷◌, ◌++◌, length, refl, sym, ap, subst, ◌∙◌, inl, inr, arith, append_assoc}
use Rattle.std.proofs.lemmas.List.{length-append, append-nil}
use Rattle.clean_base.specs.declared.fault.InputFault.{InputFault}
use Rattle.list_lines.specs.Lists.{IsFirstFault, IsFault}

-- where two lists of lines part
abbrev Parted : (before other : List (List ℕ)) (line next : List ℕ) → Type 0
Parted before other line next =
    ((before ≡ other) × (line ≡ next)) ⊎ (((more : List (List ℕ)) × (other ≡ before ++ line ∷ more)) ⊎ ((more : List (List ℕ)) × (before ≡ other ++ next ∷ more)))

fork : (before other : List (List ℕ)) (line next : List ℕ) (behind rest : List (List ℕ)) → before ++ line ∷ behind ≡ other ++ next ∷ rest → Parted before other line next
fork [] [] line next behind rest e = inl (refl, (let f : line ∷ behind ≡ next ∷ rest = e in cc))
fork [] (o ∷ other) line next behind rest e = inr (inl (other, (let f : line ∷ behind ≡ o ∷ (other ++ next ∷ rest) = e in let g : line ≡ o = cc in ap (λ x. x ∷ other) (sym g))))
fork (b ∷ before) [] line next behind rest e = inr (inr (before, (let f : b ∷ (before ++ line ∷ behind) ≡ next ∷ rest = e in let g : b ≡ next = cc in ap (λ x. x ∷ before) g)))
fork (b ∷ before) (o ∷ other) line next behind rest e =
    let f : b ∷ (before ++ line ∷ behind) ≡ o ∷ (other ++ next ∷ rest) = e in
    let same : b ≡ o = cc in
    let tails : before ++ line ∷ behind ≡ other ++ next ∷ rest = cc in
    elim (fork before other line next behind rest tails) [
      | inl h ↦ inl (ap (λ x. x ∷ before) same ∙ ap (λ xs. o ∷ xs) h.0, h.1)
      | inr h ↦ inr (elim h [ inl k ↦ inl (k.0, ap (λ x. x ∷ other) (sym same) ∙ ap (λ xs. b ∷ xs) k.1) | inr k ↦ inr (k.0, ap (λ x. x ∷ before) same ∙ ap (λ xs. o ∷ xs) k.1) ])
    ]

-- lines are one list at most, a line has one fault at most behind the items of a list, and then it is no line of a longer one
pub record IsSettled {X : Type 0} (Are : List (List ℕ) → List X → Type 0) (HasFault : ℕ → List X → List ℕ → InputFault → Type 0) : Type 0 where
  pub one_list : (lines : List (List ℕ)) (xs ys : List X) → Are lines xs → Are lines ys → xs ≡ ys
  pub one_fault : (number : ℕ) (xs : List X) (line : List ℕ) (f g : InputFault) → HasFault number xs line f → HasFault number xs line g → f ≡ g
  pub apart : (number : ℕ) (before more : List (List ℕ)) (line : List ℕ) (xs ys : List X) (f : InputFault)
      → Are before xs → Are (before ++ line ∷ more) ys → HasFault number xs line f → ⊥

module _ {X : Type 0} (Are : List (List ℕ) → List X → Type 0) (HasFault : ℕ → List X → List ℕ → InputFault → Type 0) (settled : IsSettled Are HasFault) where
  pub no_list : (lines : List (List ℕ)) (f : InputFault) (xs : List X) → IsFirstFault Are HasFault lines f → Are lines xs → ⊥
  no_list lines f xs first are =
      settled.apart (length first.before + 1) first.before first.behind first.line first.listed xs f first.are (subst (λ (ls : List (List ℕ)). Are ls xs) first.parts are) first.is

  pub one_first : (lines : List (List ℕ)) (f g : InputFault) → IsFirstFault Are HasFault lines f → IsFirstFault Are HasFault lines g → f ≡ g
  one_first lines f g x y = by (fork x.before y.before x.line y.line x.behind y.behind (sym x.parts ∙ y.parts)) where
    by : Parted x.before y.before x.line y.line → f ≡ g
    by (inl h) = settled.one_fault (length x.before + 1) x.listed x.line f g x.is there where
      are : Are x.before y.listed
      are = subst (λ (ls : List (List ℕ)). Are ls y.listed) (sym h.0) y.are

      there : HasFault (length x.before + 1) x.listed x.line g
      there = subst (λ (xs : List X). HasFault (length x.before + 1) xs x.line g) (settled.one_list x.before y.listed x.listed are x.are)
          (subst (λ (line : List ℕ). HasFault (length x.before + 1) y.listed line g) (sym h.1)
          (subst (λ (ls : List (List ℕ)). HasFault (length ls + 1) y.listed y.line g) (sym h.0) y.is))
    by (inr (inl h)) = absurd (settled.apart (length x.before + 1) x.before h.0 x.line x.listed y.listed f x.are (subst (λ (ls : List (List ℕ)). Are ls y.listed) h.1 y.are) x.is)
    by (inr (inr h)) = absurd (settled.apart (length y.before + 1) y.before h.0 y.line y.listed x.listed g y.are (subst (λ (ls : List (List ℕ)). Are ls x.listed) h.1 x.are) y.is)

-- the lines in front of those that are left are a list of these items
pub record ReadTo {X : Type 0} (Are : List (List ℕ) → List X → Type 0) (lines left : List (List ℕ)) (xs : List X) (number : ℕ) : Type 0 where
  pub before : List (List ℕ)
  pub parts : lines ≡ before ++ left
  pub are : Are before xs
  pub count : number ≡ length before

pub one_more : {X : Type 0} (Are : List (List ℕ) → List X → Type 0) (lines left : List (List ℕ)) (line : List ℕ) (xs ys : List X) (number : ℕ)
    → ((before : List (List ℕ)) → Are before xs → Are (before ++ line ∷ []) ys) → ReadTo Are lines (line ∷ left) xs number → ReadTo Are lines left ys (number + 1)
one_more Are lines left line xs ys number more to = record {
  before = to.before ++ line ∷ [];
  parts = to.parts ∙ sym (append_assoc to.before (line ∷ []) left);
  are = more to.before to.are;
  count = let e = to.count in let long = length-append to.before (line ∷ []) in omega (arith, e, long);
}

pub whole : {X : Type 0} (Are : List (List ℕ) → List X → Type 0) (lines : List (List ℕ)) (xs : List X) (number : ℕ) → ReadTo Are lines [] xs number → Are lines xs
whole Are lines xs number to = subst (λ (ls : List (List ℕ)). Are ls xs) (sym (to.parts ∙ append-nil to.before)) to.are

pub is_fault : {X : Type 0} (Are : List (List ℕ) → List X → Type 0) (HasFault : ℕ → List X → List ℕ → InputFault → Type 0) → IsSettled Are HasFault
    → (lines left : List (List ℕ)) (line : List ℕ) (xs : List X) (number : ℕ) (f : InputFault)
    → ReadTo Are lines (line ∷ left) xs number → HasFault (number + 1) xs line f → IsFault Are HasFault lines f
is_fault {X} Are HasFault settled lines left line xs number f to has = record {
  first = first;
  only = λ other is. one_first Are HasFault settled lines other f is first;
  no_list = λ ys are. no_list Are HasFault settled lines f ys first are;
} where
  first : IsFirstFault Are HasFault lines f
  first = record {
    before = to.before;
    line = line;
    behind = left;
    parts = to.parts;
    listed = xs;
    are = to.are;
    is = subst (λ (n : ℕ). HasFault (n + 1) xs line f) to.count has;
  }
