-- The text of a name, segment by segment.
use Rattle.std.proofs.Common.{◌≡◌, ℕ, ◌+◌, ◌-◌, ◌<◌, ◌≤◌, Bool, true, false, cond, nat_lt, List, [], ◌∷◌, ◌++◌, length, take, drop, codes, Some, None, ap, refl, sym, ◌∙◌, arith}
use Rattle.std.specs.Prelude.{◌==◌}
use Rattle.std.specs.List.{position, position_or_len, slice_split, onto_first, flat_map, before_first, after_first}
use Rattle.std.proofs.lemmas.Bool.{ltb-true, ltb-false}
use Rattle.std.proofs.lemmas.List.{append_assoc, append-nil, take_rest}
use Rattle.std.proofs.lemmas.List.Splits.{slice_split_first, slice_split_none}
use Rattle.std.proofs.lemmas.List.Sums.{fails_before_first}
use Rattle.jimple_tree.specs.Names.{joined, segment_text, quoted_name}

abbrev is_dot : ℕ → Bool
is_dot b = b == 46

-- a text in front of another one
joined_more : (separator first next : List ℕ) (rest : List (List ℕ))
    → joined separator segment_text (first ∷ next ∷ rest)
    ≡ segment_text first ++ (separator ++ joined separator segment_text (next ∷ rest))
joined_more separator first next rest =
    ap (λ t. segment_text first ++ t) (append_assoc separator (segment_text next) (flat_map (λ y. separator ++ segment_text y) rest))

never_empty : (test : Bool) (b : ℕ) (parts : List (List ℕ)) → cond test ([] ∷ parts) (onto_first b parts) ≡ [] → ⊥
never_empty true b parts e = cc
never_empty false b [] e = cc
never_empty false b (p ∷ ps) e = cc

split_is_some : (bytes : List ℕ) → slice_split is_dot bytes ≡ [] → ⊥
split_is_some [] e = cc
split_is_some (b ∷ bs) e = never_empty (is_dot b) b (slice_split is_dot bs) e

joined_split : (first : List ℕ) (parts : List (List ℕ))
    → (parts ≡ [] → ⊥)
    → joined (codes ".") segment_text (first ∷ parts) ≡ segment_text first ++ (codes "." ++ joined (codes ".") segment_text parts)
joined_split first [] some = absurd (some refl)
joined_split first (part ∷ parts) some = joined_more (codes ".") first part parts

-- at the first dot
at_first : (name : List ℕ) → position_or_len is_dot name < length name
    → quoted_name name ≡ segment_text (before_first is_dot name) ++ (codes "." ++ quoted_name (after_first is_dot name))
unfolding quoted_name
at_first name inside =
    ap (joined (codes ".") segment_text) (slice_split_first is_dot name 0 inside)
    ∙ joined_split (before_first is_dot name) (slice_split is_dot (after_first is_dot name)) (split_is_some (after_first is_dot name))

-- the invariant of the walk, after a part and its dot
pub wrote_part : (before middle now part rest whole : List ℕ)
    → middle ≡ before ++ part
    → now ≡ middle ++ codes "."
    → before ++ (part ++ (codes "." ++ rest)) ≡ whole
    → now ++ rest ≡ whole
wrote_part before middle now part rest whole e f g =
    ap (λ t. t ++ rest) (f ∙ ap (λ t. t ++ codes ".") e)
    ∙ append_assoc (before ++ part) (codes ".") rest ∙ append_assoc before part (codes "." ++ rest) ∙ g

at_none : (name : List ℕ) → length name ≤ position_or_len is_dot name → quoted_name name ≡ segment_text name
unfolding quoted_name
at_none name past =
    ap (joined (codes ".") segment_text)
    (slice_split_none is_dot name (λ k d h. fails_before_first is_dot name k d (omega arith)))
    ∙ append-nil (segment_text name)

position_is : (p : ℕ → Bool) (xs : List ℕ) (place : ℕ) (test : Bool)
    → nat_lt (position_or_len p xs) (length xs) ≡ test
    → cond test (Some (position_or_len p xs)) None ≡ Some place
    → (position_or_len p xs < length xs) × (position_or_len p xs ≡ place)
position_is p xs place true e h = (ltb-true _ _ e, cc)
position_is p xs place false e h = cc

position_past : (p : ℕ → Bool) (xs : List ℕ) (test : Bool)
    → nat_lt (position_or_len p xs) (length xs) ≡ test
    → cond test (Some (position_or_len p xs)) None ≡ None
    → length xs ≤ position_or_len p xs
position_past p xs true e h = cc
position_past p xs false e h = ltb-false _ _ e

-- a name whose first dot is known, and what stands in front of it and behind it
pub name_at_dot : (name : List ℕ) (dot : ℕ)
    → position is_dot name ≡ Some dot
    → quoted_name name ≡ segment_text (take dot name) ++ (codes "." ++ quoted_name (take (length name - (dot + 1)) (drop (dot + 1) name)))
name_at_dot name dot h =
    let at = position_is is_dot name dot (nat_lt (position_or_len is_dot name) (length name)) refl h in
    at_first name at.0
    ∙ ap (λ n. segment_text (take n name) ++ (codes "." ++ quoted_name (drop (n + 1) name))) at.1
    ∙ ap (λ r. segment_text (take dot name) ++ (codes "." ++ quoted_name r)) (sym (take_rest name (dot + 1)))

pub name_without_dot : (name : List ℕ) → position is_dot name ≡ None → quoted_name name ≡ segment_text name
name_without_dot name h =
    at_none name (position_past is_dot name (nat_lt (position_or_len is_dot name) (length name)) refl h)
