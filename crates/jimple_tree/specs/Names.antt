-- The text of a name: its segments, which are the parts between dots, quoted where the reader of words needs it.
-- Operands stand above.
use Rattle.std.specs.Prelude.{ℕ, Bool, true, ◌||◌, not, nat_eq, List, [], ◌∷◌, ◌++◌, codes, if◌then◌else◌, ◌==◌}
use Rattle.std.specs.List.{flat_map, slice_split, list_any}
use lib.Pointwise.{pointwise}
use Rattle.jimple_words.specs.Bytes.{is_digit, is_plain}
use Rattle.jimple_words.specs.Kinds.{is_reserved}

-- the texts of a list's items, with a separator between each two
abbrev pub joined : {X : Type 0} → List ℕ → (X → List ℕ) → List X → List ℕ
joined separator text [] = []
joined separator text (x ∷ xs) = text x ++ flat_map (λ y. separator ++ text y) xs

unfoldable pub primitives : List (List ℕ)
primitives =
    codes "void" ∷ codes "boolean" ∷ codes "byte" ∷ codes "short" ∷ codes "char" ∷ codes "int" ∷ codes "long"
    ∷ codes "float" ∷ codes "double" ∷ codes "null_type" ∷ codes "unknown" ∷ []

unfoldable pub is_one_of : List (List ℕ) → List ℕ → Bool
is_one_of words text = list_any (λ word. pointwise nat_eq text word) words

-- empty, or with a digit or `#` in front
abbrev pub begins_badly : List ℕ → Bool
begins_badly [] = true
begins_badly (b ∷ bs) = is_digit b || b == 35

unfoldable pub needs_quotes : List ℕ → Bool
needs_quotes segment =
    begins_badly segment || list_any (λ b. not (is_plain b)) segment || is_reserved segment

abbrev pub segment_text : List ℕ → List ℕ
segment_text segment = if needs_quotes segment then codes "'" ++ segment ++ codes "'" else segment

-- a name where no word may begin with `<`
unfoldable pub quoted_name : List ℕ → List ℕ
quoted_name name = joined (codes ".") segment_text (slice_split (λ b. b == 46) name)

-- `<init>` and `<clinit>` are words as they are
unfoldable pub initializers : List (List ℕ)
initializers = codes "<init>" ∷ codes "<clinit>" ∷ []

unfoldable pub name_text : List ℕ → List ℕ
name_text name = if is_one_of initializers name then name else quoted_name name
