-- Walks from items: they meet one list, and what is met from several items is put together.
use Rattle.std.proofs.Common.{◌≡◌, List, [], ◌∷◌, ◌++◌, refl, sym, ap, subst, ◌∙◌, append-nil, append_assoc}
use Rattle.reach_rows.specs.Walks.{Walk, none, down}

module _ {X : Type 0} (next : X → List X) where
  -- a walk from given items meets one list
  pub walk_once : {xs ys zs : List X} → Walk next xs ys → Walk next xs zs → ys ≡ zs
  walk_once none none = refl
  walk_once (down {x} {xs} {below} {rest} deep wide) (down {below = under} {rest = others} other wider) =
      let one : below ≡ under = walk_once deep other in
      let more : rest ≡ others = walk_once wide wider in
      ap (λ (ns : List X). x ∷ (ns ++ rest)) one ∙ ap (λ (ns : List X). x ∷ (under ++ ns)) more

  -- a walk from two lists is the walks from each
  pub walk_both : {xs ys met more : List X} → Walk next xs met → Walk next ys more → Walk next (xs ++ ys) (met ++ more)
  walk_both none other = other
  walk_both {ys = ys} {more = more} (down {x} {xs} {below} {rest} deep wide) other =
      subst (λ (zs : List X). Walk next (x ∷ (xs ++ ys)) (x ∷ zs)) (sym (append_assoc below rest more)) (down deep (walk_both wide other))

  -- a walk from one item is that item and what is met below it
  pub walk_one : (x : X) (met : List X) → Walk next (next x) met → Walk next (x ∷ []) (x ∷ met)
  walk_one x met deep = subst (λ (zs : List X). Walk next (x ∷ []) (x ∷ zs)) (append-nil met) (down deep none)
