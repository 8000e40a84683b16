-- The kinds of the tokens of canonical text.
use Rattle.std.proofs.Common.{◌≡◌, ℕ, zero, suc, ◌+◌, ◌≤◌, ◌<◌, Bool, true, false, not, cond, ◌||◌, ◌&&◌, List, [], ◌∷◌, ◌++◌, decimal, drop, ap, refl, ◌∙◌, arith, append-nil, codes}
use Rattle.std.specs.Prelude.{◌==◌}
use Rattle.std.specs.List.{list_any, list_all, slice_split}
use Rattle.std.specs.Fmt.{digits}
use Rattle.std.specs.Str.{bytes_eq}
use Rattle.std.proofs.lemmas.Bool.{or_parts, and_parts, not-true, cond-false, both_ways, false_from_ne_true}
use Rattle.jimple_words.specs.Bytes.{is_plain}
use Rattle.jimple_lex.specs.declared.token.TokenKind.{TokenKind}
use Rattle.jimple_lex.specs.declared.token.TokenKind.TheVariants as tokens
use Rattle.jimple_tree.specs.Names.{segment_text, needs_quotes, begins_badly, is_one_of, primitives, quoted_name, name_text, initializers}
use Rattle.jimple_tree.specs.Names as tree
use Rattle.jimple_tree.specs.Operands.{base_text}
use Rattle.jimple_words.specs.declared.kind.Kind.{Kind}
use Rattle.jimple_words.specs.declared.kind.Kind.TheVariants as kinds
use Rattle.jimple_words.specs.Kind.{Kinds, has}
use Rattle.jimple_words.specs.Kinds.{Texts, kind_in, keywords, further, further_modifiers, is_keyword, is_further_modifier, is_reserved, names_parameter, parameter_kind, word_kind}
use Rattle.jimple_grammar.specs.Lexemes.{kind_of}
use Rattle.jimple_words.specs.Sets as sets
use Rattle.jimple_words.specs.Sets.{sure_types}
use Rattle.jimple_rewrite.proofs.Written.{IsModifier, modifier_keywords, further_words}
use Rattle.jimple_rewrite.proofs.PlainWords.{in_words}
use Rattle.jimple_rewrite.proofs.Names.{clean, all_clean, dot_inside, behind}

cond_has : (ks : Kinds) (k l : Kind) (b : Bool) → has ks k ≡ true → has ks l ≡ true → has ks (cond b k l) ≡ true
cond_has ks k l true f g = f
cond_has ks k l false f g = g

-- a text's kind is in the set, where each entry's is, and the kind by the entries behind them
in_kinds : (ks : Kinds) (entries later : Texts) (text : List ℕ) → list_all (λ (e : List ℕ × Kind). has ks e.1) entries ≡ true → has ks (kind_in later text) ≡ true → has ks (kind_in (entries ++ later) text) ≡ true
in_kinds ks [] later text all h = h
in_kinds ks (entry ∷ entries) later text all h =
    let p = and_parts (has ks entry.1) (list_all (λ (e : List ℕ × Kind). has ks e.1) entries) all in cond_has ks entry.1 (kind_in (entries ++ later) text) (bytes_eq text entry.0) p.0 (in_kinds ks entries later text p.1 h)

parameter_has : (ks : Kinds) (text : List ℕ) → (has ks kinds.Parameter && has ks kinds.HighParameter) ≡ true → has ks (kind_in further text) ≡ true → has ks (word_kind text) ≡ true
parameter_has ks text p h =
    let both = and_parts (has ks kinds.Parameter) (has ks kinds.HighParameter) p in cond_has ks (parameter_kind (drop 9 text)) (kind_in further text) (names_parameter text) (cond_has ks kinds.Parameter kinds.HighParameter _ both.0 both.1) h

pub in_names : (text : List ℕ) → has sets.names (kind_of tokens.Word text) ≡ true
unfolding further
in_names text = parameter_has sets.names text refl (in_kinds sets.names further [] text refl refl)

pub in_any_names : (text : List ℕ) → has sets.words (kind_of tokens.Word text) ≡ true
unfolding further
in_any_names text = parameter_has sets.words text refl (in_kinds sets.words further [] text refl refl)

in_types : (text : List ℕ) → has sets.types (kind_of tokens.Word text) ≡ true
unfolding further
in_types text = parameter_has sets.types text refl (in_kinds sets.types further [] text refl refl)

-- Further modifiers are no names as they are written

no_further : (text : List ℕ) → list_all clean text ≡ false → is_further_modifier text ≡ false
unfolding is_further_modifier
no_further text e = false_from_ne_true (is_further_modifier text) (λ k. both_ways (list_all clean text) e (all_clean further_modifiers text refl k))

plain_no_further : (segment : List ℕ) → needs_quotes segment ≡ false → is_further_modifier segment ≡ false
unfolding needs_quotes
plain_no_further segment e =
    let p = or_parts (begins_badly segment || list_any (λ b. not (is_plain b)) segment) (is_reserved segment) e in
    (or_parts (is_keyword segment) (is_further_modifier segment) p.1).1

joined_no_further : (first : List ℕ) (parts : List (List ℕ)) → is_further_modifier (segment_text first ++ behind parts) ≡ false
joined_no_further first [] = ap is_further_modifier (append-nil (segment_text first)) ∙ by_case (needs_quotes first) refl where
  by_case : (b : Bool) → needs_quotes first ≡ b → is_further_modifier (cond b (codes "'" ++ first ++ codes "'") first) ≡ false
  by_case true e = no_further (39 ∷ (first ++ 39 ∷ [])) refl
  by_case false e = plain_no_further first e
joined_no_further first (part ∷ parts) = no_further (segment_text first ++ behind (part ∷ parts)) (dot_inside (segment_text first) (segment_text part ++ behind parts))

parts_no_further : (parts : List (List ℕ)) → is_further_modifier (tree.joined (codes ".") segment_text parts) ≡ false
unfolding is_further_modifier
parts_no_further [] = refl
parts_no_further (first ∷ parts) = joined_no_further first parts

initial : (n : List ℕ) → is_one_of initializers n ≡ true → not (is_further_modifier n) ≡ true
unfolding is_one_of initializers is_further_modifier
initial n e = in_words (λ t. not (is_further_modifier t)) initializers n refl e

name_no_further : (name : List ℕ) → is_further_modifier (name_text name) ≡ false
unfolding name_text quoted_name
name_no_further name = by_case (is_one_of initializers name) refl where
  by_case : (b : Bool) → is_one_of initializers name ≡ b → is_further_modifier (cond b name (quoted_name name)) ≡ false
  by_case true e = not-true (is_further_modifier name) (initial name e)
  by_case false e = parts_no_further (slice_split (λ b. b == 46) name)

kind_not : (entries : Texts) (text : List ℕ) → list_any (λ (e : List ℕ × Kind). bytes_eq text e.0) entries ≡ false → kind_in entries text ≡ kinds.Word
kind_not [] text e = refl
kind_not (entry ∷ entries) text e =
    let p = or_parts (bytes_eq text entry.0) (list_any (λ (f : List ℕ × Kind). bytes_eq text f.0) entries) e in cond-false (bytes_eq text entry.0) _ _ p.0 ∙ kind_not entries text p.1

surely : (text : List ℕ) → is_further_modifier text ≡ false → has sure_types (kind_of tokens.Word text) ≡ true
unfolding further is_further_modifier
surely text e = parameter_has sure_types text refl (in_kinds sure_types fronts modifying text refl (ap (has sure_types) (kind_not modifying text e))) where
  fronts : Texts
  fronts = (codes "this", kinds.This) ∷ (codes "caughtexception", kinds.Caughtexception) ∷ (codes "methodhandle", kinds.Handle) ∷ (codes "methodtype", kinds.Handle) ∷ []

  modifying : Texts
  modifying = (codes "synthetic", kinds.Further) ∷ (codes "constructor", kinds.Further) ∷ (codes "declared_synchronized", kinds.Further) ∷ (codes "bridge", kinds.Further) ∷ (codes "varargs", kinds.Further) ∷ []

-- Types

-- a primitive is a keyword
abbrev pub base_kind : Bool → TokenKind
base_kind true = tokens.Keyword
base_kind false = tokens.Word

primitive_kind : (ks : Kinds) (base : List ℕ) → list_all (λ w. has ks (kind_in keywords w)) primitives ≡ true → is_one_of primitives base ≡ true → has ks (kind_of tokens.Keyword base) ≡ true
unfolding is_one_of
primitive_kind ks base all e = in_words (λ w. has ks (kind_in keywords w)) primitives base all e

pub type_kind : (base : List ℕ) → has sets.types (kind_of (base_kind (is_one_of primitives base)) (base_text base)) ≡ true
unfolding base_text keywords primitives
type_kind base = by_case (is_one_of primitives base) refl where
  by_case : (b : Bool) → is_one_of primitives base ≡ b → has sets.types (kind_of (base_kind b) (cond b base (name_text base))) ≡ true
  by_case true e = primitive_kind sets.types base refl e
  by_case false e = in_types (name_text base)

pub sure_kind : (base : List ℕ) → has sure_types (kind_of (base_kind (is_one_of primitives base)) (base_text base)) ≡ true
unfolding base_text keywords primitives
sure_kind base = by_case (is_one_of primitives base) refl where
  by_case : (b : Bool) → is_one_of primitives base ≡ b → has sure_types (kind_of (base_kind b) (cond b base (name_text base))) ≡ true
  by_case true e = primitive_kind sure_types base refl e
  by_case false e = surely (name_text base) (name_no_further base)

-- Modifiers and literals

pub modifier_kind : (m : List ℕ) → IsModifier m → has (sets.modifiers ++ kinds.Further ∷ []) (kind_of (cond (is_keyword m) tokens.Keyword tokens.Word) m) ≡ true
unfolding is_one_of modifier_keywords is_keyword keywords further
modifier_kind m e = in_words (λ t. has (sets.modifiers ++ kinds.Further ∷ []) (kind_of (cond (is_keyword t) tokens.Keyword tokens.Word) t)) (modifier_keywords ++ further_words) m refl e

-- Parameters

-- so many numbers from one on pass
abbrev each_from : (ℕ → Bool) → ℕ → ℕ → Bool
each_from test first zero = true
each_from test first (suc n) = test first && each_from test (suc first) n

passes : (test : ℕ → Bool) (first n k : ℕ) → each_from test first n ≡ true → k < n → test (first + k) ≡ true
passes test first zero k all h = absurd (omega (arith, h))
passes test first (suc n) zero all h = ap test (let same : first + 0 ≡ first = omega arith in same) ∙ (and_parts (test first) (each_from test (suc first) n) all).0
passes test first (suc n) (suc k) all h =
    ap test (let same : first + suc k ≡ suc first + k = omega arith in same) ∙ passes test (suc first) n k (and_parts (test first) (each_from test (suc first) n) all).1 (omega (arith, h))

abbrev is_parameter : ℕ → Bool
is_parameter k = has (kinds.Parameter ∷ []) (kind_of tokens.Word (codes "parameter" ++ decimal k))

pub parameter_is : (n : ℕ) → n ≤ 254 → has (kinds.Parameter ∷ []) (kind_of tokens.Word (codes "parameter" ++ decimal n)) ≡ true
unfolding digits
parameter_is n h = ap is_parameter (let same : n ≡ 0 + n = omega arith in same) ∙ passes is_parameter 0 255 n refl (omega (arith, h))
