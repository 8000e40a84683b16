-- Lines give one list of components, or have one first fault, and never both.
use Rattle.std.proofs.Common.{◌≡◌, ◌<◌, ◌+◌, ℕ, suc, List, [], ◌∷◌, ◌++◌, Contains, length, take, map, refl, sym, ap, ◌∙◌, subst, inl, inr, arith}
use Rattle.std.specs.Prelude.{slice_index}
use Rattle.std.proofs.lemmas.List.{length-append, get_or_append_left, get_or_at}
use Rattle.clean_base.specs.Lists.{IsDistinct}
use Rattle.clean_base.specs.declared.fault.InputFault.{InputFault}
use Rattle.dummy_main.specs.declared.component.Component.{Component}
use Rattle.dummy_main.specs.declared.component.ComponentKind.{ComponentKind}
use Rattle.dummy_main.specs.declared.component.ComponentKind.TheVariants.{Activity, Service, Receiver, Provider}
use Rattle.list_lines.specs.Lines.{IsPassedOver, word_len}
use Rattle.list_lines.specs.Lists.{Give}
use Rattle.list_lines.proofs.Giving.{GivesOnce, GiveParts, give_once, split}
use Rattle.list_lines.proofs.Faults.{IsSettled}
use Rattle.dummy_main.specs.Listing.{most_components, word_of, Gives, name_of, AreListed, IsBad, IsDouble, IsLineFault}
use Rattle.dummy_main.specs.Listing.IsBad.{strange, many}
use Rattle.dummy_main.specs.Listing.IsLineFault.{bad, double}

-- One line

abbrev first_letter : ComponentKind → ℕ
first_letter Activity = 97
first_letter Service = 115
first_letter Receiver = 114
first_letter Provider = 112

begins : (kind : ComponentKind) → slice_index (word_of kind) 0 ≡ first_letter kind
begins Activity = refl
begins Service = refl
begins Receiver = refl
begins Provider = refl

by_letter : (k m : ComponentKind) → first_letter k ≡ first_letter m → k ≡ m
by_letter Activity Activity e = refl
by_letter Activity Service e = absurd (omega (arith, e))
by_letter Activity Receiver e = absurd (omega (arith, e))
by_letter Activity Provider e = absurd (omega (arith, e))
by_letter Service Activity e = absurd (omega (arith, e))
by_letter Service Service e = refl
by_letter Service Receiver e = absurd (omega (arith, e))
by_letter Service Provider e = absurd (omega (arith, e))
by_letter Receiver Activity e = absurd (omega (arith, e))
by_letter Receiver Service e = absurd (omega (arith, e))
by_letter Receiver Receiver e = refl
by_letter Receiver Provider e = absurd (omega (arith, e))
by_letter Provider Activity e = absurd (omega (arith, e))
by_letter Provider Service e = absurd (omega (arith, e))
by_letter Provider Receiver e = absurd (omega (arith, e))
by_letter Provider Provider e = refl

one_kind : (k m : ComponentKind) → word_of k ≡ word_of m → k ≡ m
one_kind k m e = by_letter k m (sym (begins k) ∙ ap (λ (w : List ℕ). slice_index w 0) e ∙ begins m)

no_percent : (kind : ComponentKind) → first_letter kind ≡ 37 → ⊥
no_percent Activity e = omega (arith, e)
no_percent Service e = omega (arith, e)
no_percent Receiver e = omega (arith, e)
no_percent Provider e = omega (arith, e)

-- a line gives one component
one : (line : List ℕ) (c d : Component) → Gives line c → Gives line d → c ≡ d
one line c d g h =
    ap (λ (k : ComponentKind). let r : Component = record { kind = k; name = c.name } in r) (one_kind c.kind d.kind (sym g.kind ∙ h.kind))
    ∙ ap (λ (n : List ℕ). let r : Component = record { kind = d.kind; name = n } in r) (g.name ∙ sym h.name)

-- a line that says nothing gives none
pub silent : (line : List ℕ) (c : Component) → IsPassedOver line → Gives line c → ⊥
silent [] c passed g = let e = ap length g.name in let s = g.some in omega (arith, e, s)
silent (b ∷ bs) c passed g = no_percent c.kind (sym (begins c.kind) ∙ ap (λ (w : List ℕ). slice_index w 0) (sym g.kind) ∙ front b passed) where
  more : (n m : ℕ) → n ≡ suc m → slice_index (take n (37 ∷ bs)) 0 ≡ 37
  more n m e = subst (λ (k : ℕ). slice_index (take k (37 ∷ bs)) 0 ≡ 37) (sym e) refl

  front : (b : ℕ) → b ≡ 37 → slice_index (take (word_len (b ∷ bs)) (b ∷ bs)) 0 ≡ 37
  front b e = subst (λ (x : ℕ). slice_index (take (word_len (x ∷ bs)) (x ∷ bs)) 0 ≡ 37) (sym e)
      (more (word_len (37 ∷ bs)) (word_len bs) (let f : 1 + word_len bs ≡ suc (word_len bs) = omega arith in f))

-- Lines

gives_once : GivesOnce Gives
gives_once = record { one = one; silent = silent }

pub map_append : (xs ys : List Component) → map name_of (xs ++ ys) ≡ map name_of xs ++ map name_of ys
map_append [] ys = refl
map_append (x ∷ xs) ys = ap (λ zs. name_of x ∷ zs) (map_append xs ys)

clash : (front : List (List ℕ)) (name : List ℕ) (back : List (List ℕ)) → IsDistinct (front ++ name ∷ back) → Contains front name → ⊥
clash front name back distinct (i, below, is) = distinct i (length front) name below within (get_or_append_left front (name ∷ back) name i below ∙ is ∙ sym (get_or_at front name back name (length front) refl)) where
  within : length front < length (front ++ name ∷ back)
  within = let e = length-append front (name ∷ back) in omega (arith, e)

-- a line with a fault is none of a list's
no_fault : (file number : ℕ) (before more : List (List ℕ)) (line : List ℕ) (cs ds : List Component) (f : InputFault)
    → AreListed before cs → AreListed (before ++ line ∷ more) ds → IsLineFault file number cs line f → ⊥
no_fault file number before more line cs ds f are all fault = by f parts.then fault where
  parts : GiveParts Gives before (line ∷ more) ds
  parts = split Gives before (line ∷ more) ds all.give

  same : parts.front ≡ cs
  same = give_once Gives gives_once before parts.front cs parts.first are.give

  whole : (c : Component) (rest : List Component) → parts.back ≡ c ∷ rest → ds ≡ cs ++ c ∷ rest
  whole c rest e = parts.is ∙ ap (λ (xs : List Component). xs ++ parts.back) same ∙ ap (λ xs. cs ++ xs) e

  too_many : (c : Component) (rest : List Component) → ds ≡ cs ++ c ∷ rest → length cs ≡ most_components → ⊥
  too_many c rest e full = let long = ap length e ∙ length-append cs (c ∷ rest) in let few = all.few in omega (arith, long, few, full)

  twice : (c d : Component) (rest : List Component) → ds ≡ cs ++ c ∷ rest → d ≡ c → Contains (map name_of cs) d.name → ⊥
  twice c d rest e is named = clash (map name_of cs) c.name (map name_of rest) (subst IsDistinct (ap (map name_of) e ∙ map_append cs (c ∷ rest)) all.distinct) (subst (λ (x : Component). Contains (map name_of cs) x.name) is named)

  on_bad : Give Gives (line ∷ more) parts.back → IsBad cs line → ⊥
  on_bad (inl g) (strange odd none) = odd g.0
  on_bad (inl g) (many c h full) = silent line c g.0 h
  on_bad (inr g) (strange odd none) = none g.0 g.2
  on_bad (inr g) (many c h full) = too_many g.0 g.1 (whole g.0 g.1 g.4) full

  on_double : Give Gives (line ∷ more) parts.back → IsDouble cs line → ⊥
  on_double (inl g) h = silent line h.again g.0 h.given
  on_double (inr g) h = twice g.0 h.again g.1 (whole g.0 g.1 g.4) (one line h.again g.0 h.given g.2) h.named

  by : (f : InputFault) → Give Gives (line ∷ more) parts.back → IsLineFault file number cs line f → ⊥
  by f g (bad h) = on_bad g h
  by f g (double h) = on_double g h

not_both : (cs : List Component) (line : List ℕ) → IsBad cs line → IsDouble cs line → ⊥
not_both cs line (strange odd none) h = none h.again h.given
not_both cs line (many c g full) h = let few = h.few in omega (arith, few, full)

one_fault : (file number : ℕ) (cs : List Component) (line : List ℕ) (f g : InputFault) → IsLineFault file number cs line f → IsLineFault file number cs line g → f ≡ g
one_fault file number cs line f g (bad h) (bad k) = refl
one_fault file number cs line f g (bad h) (double k) = absurd (not_both cs line h k)
one_fault file number cs line f g (double h) (bad k) = absurd (not_both cs line k h)
one_fault file number cs line f g (double h) (double k) = refl

one_list : (lines : List (List ℕ)) (cs ds : List Component) → AreListed lines cs → AreListed lines ds → cs ≡ ds
one_list lines cs ds are also = give_once Gives gives_once lines cs ds are.give also.give

pub settled : (file : ℕ) → IsSettled AreListed (IsLineFault file)
settled file = record {
  one_list = one_list;
  one_fault = one_fault file;
  apart = no_fault file;
}
