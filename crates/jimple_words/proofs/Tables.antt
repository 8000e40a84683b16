-- What stands in a table of texts, and the kind that stands beside it.
use Rattle.std.proofs.Common.{◌≡◌, ℕ, Bool, true, false, not, ◌==◌, ◌||◌, List, [], ◌∷◌, refl, ◌∙◌, cond, if◌then◌else◌}
use Rattle.std.specs.List.{list_all}
use Rattle.std.specs.Str.{bytes_eq}
use Rattle.std.proofs.lemmas.Bool.{and_parts}
use Rattle.jimple_words.specs.declared.kind.Kind.{Kind}
use Rattle.jimple_words.specs.declared.kind.Kind.TheVariants as kinds
use Rattle.jimple_words.specs.Kind.{number}
use Rattle.jimple_words.specs.Kinds.{Texts, kind_in, is_in, is_keyword, is_further_modifier, keywords, further_modifiers}

-- beside the text, or beside none
beside : (k : Kind) (other b later : Bool) → not (number k == 0) ≡ true → other ≡ later → cond b (not (number k == 0)) other ≡ (b || later)
beside k other true later some e = some
beside k other false later some e = e

choice : (b : Bool) (k other : Kind) → not (number (if b then k else other) == 0) ≡ cond b (not (number k == 0)) (not (number other == 0))
choice true k other = refl
choice false k other = refl

-- a table in which no kind is that of just a word
some_kind : (table : Texts) (text : List ℕ) → list_all (λ (e : List ℕ × Kind). not (number e.1 == 0)) table ≡ true → not (number (kind_in table text) == 0) ≡ is_in table text
some_kind [] text each = refl
some_kind (e ∷ es) text each =
    let parts : (not (number e.1 == 0) ≡ true) × (list_all (λ (d : List ℕ × Kind). not (number d.1 == 0)) es ≡ true) = and_parts _ _ each in
    choice (bytes_eq text e.0) e.1 (kind_in es text) ∙ beside e.1 (not (number (kind_in es text) == 0)) (bytes_eq text e.0) (is_in es text) parts.0 (some_kind es text parts.1)

pub keyword_is : (text : List ℕ) → not (number (kind_in keywords text) == 0) ≡ is_keyword text
unfolding is_keyword keywords
keyword_is text = some_kind keywords text refl

-- the further modifiers have one kind
by_case : (a b c d e : Bool) → (if a then kinds.Further else (if b then kinds.Further else (if c then kinds.Further else (if d then kinds.Further else (if e then kinds.Further else kinds.Word)))))
    ≡ (if a || (b || (c || (d || (e || false)))) then kinds.Further else kinds.Word)
by_case true b c d e = refl
by_case false true c d e = refl
by_case false false true d e = refl
by_case false false false true e = refl
by_case false false false false true = refl
by_case false false false false false = refl

pub modifier_is : (text : List ℕ) → kind_in further_modifiers text ≡ (if is_further_modifier text then kinds.Further else kinds.Word)
unfolding is_further_modifier
modifier_is text = by_case (bytes_eq text _) (bytes_eq text _) (bytes_eq text _) (bytes_eq text _) (bytes_eq text _)
