-- The text of a name is one word, which has that name.
use Rattle.std.proofs.Common.{◌≡◌, inl, inr, ℕ, Bool, true, false, not, cond, ◌||◌, ◌&&◌, ◌==◌, List, [], ◌∷◌, ◌++◌, sym, ap, subst, refl, ◌∙◌, arith, append-nil, codes}
use Rattle.std.specs.List.{list_any, list_all, flat_map, slice_split, onto_first, AllByRecursion, join_with_byte}
use Rattle.std.specs.Str.{bytes_eq}
use Rattle.std.proofs.lemmas.Bool.{or_cases, or_left, or_parts, and_parts, and_right, not-false, false_from_ne_true, both_ways}
use Rattle.std.proofs.lemmas.List.Elements.{filter-append}
use Rattle.std.proofs.lemmas.List.Splits.{join_with_byte-slice_split}
use Rattle.std.proofs.lemmas.Slice.Eq.{bytes_eq-Decides}
use Rattle.jimple_lex.specs.Bytes.{is_quotable, single_quote}
use Rattle.jimple_words.specs.Bytes.{is_digit, begins_plain, is_plain}
use Rattle.jimple_lex.specs.Forms.{IsSegment, plain, quoted, IsJoined, last, joined, IsWord, segments, initializer, class_initializer}
use Rattle.jimple_words.specs.Kinds.{Texts, is_in, is_keyword, keywords, is_further_modifier, is_reserved}
use Rattle.jimple_words.specs.declared.kind.Kind.{Kind}
use Rattle.jimple_lex.specs.Tokens.{IsToken}
use Rattle.jimple_lex.specs.declared.token.TokenKind.TheVariants.{Word}
use Rattle.jimple_lex.proofs.Parts.{Pass}
use Rattle.jimple_tree.specs.Names.{segment_text, needs_quotes, begins_badly, is_one_of, quoted_name, name_text, initializers}
use Rattle.jimple_tree.specs.Names as tree
use Rattle.jimple_rewrite.proofs.After.{after_word}
use Rattle.jimple_rewrite.proofs.IsName.{IsName, unquoted}
use Rattle.jimple_rewrite.proofs.Words.{word_token, init_token, clinit_token}

-- Segments

plain_bytes : (segment : List ℕ) → list_any (λ b. not (is_plain b)) segment ≡ false → Pass is_plain segment
plain_bytes [] e = tt
plain_bytes (c ∷ cs) e = let p = or_parts (not (is_plain c)) (list_any (λ b. not (is_plain b)) cs) e in (not-false (is_plain c) p.0, plain_bytes cs p.1)

begins : (c : ℕ) → is_plain c ≡ true → (is_digit c || (c == 35)) ≡ false → begins_plain c ≡ true
begins c e f = grind arith

-- what needs no quotes is a plain segment, and no keyword
plain_segment : (segment : List ℕ) → needs_quotes segment ≡ false → IsSegment segment × (is_keyword segment ≡ false)
unfolding needs_quotes
plain_segment [] e = absurd (let bad : true ≡ false = e in cc)
plain_segment (c ∷ cs) e =
    let p = or_parts (begins_badly (c ∷ cs) || list_any (λ b. not (is_plain b)) (c ∷ cs)) (is_reserved (c ∷ cs)) e in
    let q = or_parts (begins_badly (c ∷ cs)) (list_any (λ b. not (is_plain b)) (c ∷ cs)) p.0 in
    let r = or_parts (not (is_plain c)) (list_any (λ b. not (is_plain b)) cs) q.1 in
    (plain c cs refl (begins c (not-false (is_plain c) r.0) q.0) (plain_bytes cs r.1), (or_parts (is_keyword (c ∷ cs)) (is_further_modifier (c ∷ cs)) p.1).0)

segment_is : (segment : List ℕ) → IsName segment → IsSegment (segment_text segment)
segment_is segment n = by_case (needs_quotes segment) refl where
  by_case : (b : Bool) → needs_quotes segment ≡ b → IsSegment (cond b (codes "'" ++ segment ++ codes "'") segment)
  by_case true e = quoted segment refl n
  by_case false e = (plain_segment segment e).0

-- Segments joined by dots

abbrev pub behind : List (List ℕ) → List ℕ
behind parts = flat_map (λ part. codes "." ++ segment_text part) parts

joined_is : (first : List ℕ) (parts : List (List ℕ)) → IsName first → AllByRecursion IsName parts → IsJoined (segment_text first ++ behind parts)
joined_is first [] n all = subst IsJoined (sym (append-nil (segment_text first))) (last (segment_is first n))
joined_is first (part ∷ parts) n all = joined (segment_text first) (segment_text part ++ behind parts) refl (segment_is first n) (joined_is part parts all.0 all.1)

abbrev unquote : ℕ → Bool
unquote c = not (c == single_quote)

pub name_unquoted : (name : List ℕ) → IsName name → unquoted name ≡ name
name_unquoted [] n = refl
name_unquoted (c ∷ cs) n = let stays = (and_parts (not (c == 39)) (not (c == 10)) n.0).0 in
    ap (λ b. cond b (c ∷ unquoted cs) (unquoted cs)) stays ∙ ap (λ (t : List ℕ). c ∷ t) (name_unquoted cs n.1)

segment_unquoted : (segment : List ℕ) → IsName segment → unquoted (segment_text segment) ≡ segment
segment_unquoted segment n = by_case (needs_quotes segment) where
  by_case : (b : Bool) → unquoted (cond b (codes "'" ++ segment ++ codes "'") segment) ≡ segment
  by_case true = filter-append unquote segment (39 ∷ []) ∙ append-nil (unquoted segment) ∙ name_unquoted segment n
  by_case false = name_unquoted segment n

joined_unquoted : (first : List ℕ) (parts : List (List ℕ)) → IsName first → AllByRecursion IsName parts → unquoted (segment_text first ++ behind parts) ≡ join_with_byte 46 (first ∷ parts)
joined_unquoted first [] n all = ap unquoted (append-nil (segment_text first)) ∙ segment_unquoted first n
joined_unquoted first (part ∷ parts) n all =
    filter-append unquote (segment_text first) (codes "." ++ (segment_text part ++ behind parts))
    ∙ ap (λ t. t ++ (46 ∷ unquoted (segment_text part ++ behind parts))) (segment_unquoted first n)
    ∙ ap (λ (t : List ℕ). first ++ (46 ∷ t)) (joined_unquoted part parts all.0 all.1)

-- No keyword has a dot or a quote in it

abbrev pub clean : ℕ → Bool
clean c = not (c == 39) && not (c == 46)

pub all_clean : (table : Texts) (text : List ℕ) → list_all (λ (e : List ℕ × Kind). list_all clean e.0) table ≡ true → is_in table text ≡ true → list_all clean text ≡ true
all_clean [] text all any = absurd (let bad : false ≡ true = any in cc)
all_clean (entry ∷ table) text all any =
    let each = and_parts (list_all clean entry.0) (list_all (λ (e : List ℕ × Kind). list_all clean e.0) table) all in
    elim (or_cases (bytes_eq text entry.0) (is_in table text) any) [
      | inl here ↦ ap (list_all clean) ((bytes_eq-Decides text entry.0).0 here) ∙ each.0
      | inr later ↦ all_clean table text each.1 later
    ]

no_keyword : (text : List ℕ) → list_all clean text ≡ false → is_keyword text ≡ false
unfolding is_keyword keywords
no_keyword text e = false_from_ne_true (is_keyword text) (λ k. both_ways (list_all clean text) e (all_clean keywords text refl k))

pub dot_inside : (a b : List ℕ) → list_all clean (a ++ 46 ∷ b) ≡ false
dot_inside [] b = refl
dot_inside (c ∷ a) b = and_right (clean c) (list_all clean (a ++ 46 ∷ b)) (dot_inside a b)

joined_no_keyword : (first : List ℕ) (parts : List (List ℕ)) → is_keyword (segment_text first ++ behind parts) ≡ false
joined_no_keyword first [] = ap is_keyword (append-nil (segment_text first)) ∙ by_case (needs_quotes first) refl where
  by_case : (b : Bool) → needs_quotes first ≡ b → is_keyword (cond b (codes "'" ++ first ++ codes "'") first) ≡ false
  by_case true e = no_keyword (39 ∷ (first ++ 39 ∷ [])) refl
  by_case false e = (plain_segment first e).1
joined_no_keyword first (part ∷ parts) = no_keyword (segment_text first ++ behind (part ∷ parts)) (dot_inside (segment_text first) (segment_text part ++ behind parts))

-- Names

abbrev is_dot : ℕ → Bool
is_dot b = b == 46

first_name : (c : ℕ) (parts : List (List ℕ)) → is_quotable c ≡ true → AllByRecursion IsName parts → AllByRecursion IsName (onto_first c parts)
first_name c [] q all = ((q, tt), tt)
first_name c (part ∷ parts) q all = ((q, all.0), all.1)

parts_names : (name : List ℕ) → IsName name → AllByRecursion IsName (slice_split is_dot name)
parts_names [] n = (tt, tt)
parts_names (c ∷ cs) n = by_case (is_dot c) (slice_split is_dot cs) (parts_names cs n.1) where
  by_case : (b : Bool) (parts : List (List ℕ)) → AllByRecursion IsName parts → AllByRecursion IsName (cond b ([] ∷ parts) (onto_first c parts))
  by_case true parts all = (tt, all)
  by_case false parts all = first_name c parts n.0 all

-- what the text of a name is
pub record IsTextOf (name text : List ℕ) : Type 0 where
  pub joined : IsJoined text
  pub no_keyword : is_keyword text ≡ false
  pub named : unquoted text ≡ name

of_parts : (parts : List (List ℕ)) → (parts ≡ [] → ⊥) → AllByRecursion IsName parts → IsTextOf (join_with_byte 46 parts) (tree.joined (codes ".") segment_text parts)
of_parts [] some all = absurd (some refl)
of_parts (first ∷ parts) some all = record { joined = joined_is first parts all.0 all.1; no_keyword = joined_no_keyword first parts; named = joined_unquoted first parts all.0 all.1 }

never_empty : (test : Bool) (b : ℕ) (parts : List (List ℕ)) → cond test ([] ∷ parts) (onto_first b parts) ≡ [] → ⊥
never_empty true b parts e = cc
never_empty false b [] e = cc
never_empty false b (p ∷ ps) e = cc

split_is_some : (bytes : List ℕ) → slice_split is_dot bytes ≡ [] → ⊥
split_is_some [] e = cc
split_is_some (b ∷ bs) e = never_empty (is_dot b) b (slice_split is_dot bs) e

pub quoted_text : (name : List ℕ) → IsName name → IsTextOf name (quoted_name name)
unfolding quoted_name
quoted_text name n = subst (λ (m : List ℕ). IsTextOf m (quoted_name name)) (join_with_byte-slice_split 46 name) (of_parts (slice_split is_dot name) (split_is_some name) (parts_names name n))

-- the text of a name is a word that has it
pub record IsWordOf (name text : List ℕ) : Type 0 where
  pub token : (rest : List ℕ) → after_word rest ≡ true → IsToken Word text rest
  pub named : unquoted text ≡ name

of_text : (name text : List ℕ) → IsTextOf name text → IsWordOf name text
of_text name text t = record { token = λ rest a. word_token text rest t.joined t.no_keyword a; named = t.named }

pub quoted_word : (name : List ℕ) → IsName name → IsWordOf name (quoted_name name)
quoted_word name n = of_text name (quoted_name name) (quoted_text name n)

init_word : IsWordOf (codes "<init>") (codes "<init>")
init_word = record { token = λ rest a. init_token rest; named = refl }

clinit_word : IsWordOf (codes "<clinit>") (codes "<clinit>")
clinit_word = record { token = λ rest a. clinit_token rest; named = refl }

initializer_word : (name : List ℕ) → is_one_of initializers name ≡ true → IsWordOf name name
unfolding is_one_of initializers
initializer_word name e = elim (or_cases (bytes_eq name (codes "<init>")) (bytes_eq name (codes "<clinit>") || false) e) [
  | inl same ↦ subst (λ (t : List ℕ). IsWordOf t t) (sym ((bytes_eq-Decides name (codes "<init>")).0 same)) init_word
  | inr later ↦ elim (or_cases (bytes_eq name (codes "<clinit>")) false later) [
    | inl same ↦ subst (λ (t : List ℕ). IsWordOf t t) (sym ((bytes_eq-Decides name (codes "<clinit>")).0 same)) clinit_word
    | inr none ↦ absurd (let bad : false ≡ true = none in cc)
  ]
]

pub name_word : (name : List ℕ) → IsName name → IsWordOf name (name_text name)
unfolding name_text
name_word name n = by_case (is_one_of initializers name) refl where
  by_case : (b : Bool) → is_one_of initializers name ≡ b → IsWordOf name (cond b name (quoted_name name))
  by_case true e = initializer_word name e
  by_case false e = quoted_word name n

-- Each word has the name of a word

plain_quotable : (c : ℕ) → is_plain c ≡ true → is_quotable c ≡ true
plain_quotable c e = grind arith

plain_name : (bytes : List ℕ) → Pass is_plain bytes → IsName bytes
plain_name [] p = tt
plain_name (c ∷ bytes) p = (plain_quotable c p.0, plain_name bytes p.1)

both_names : (a b : List ℕ) → IsName a → IsName b → IsName (a ++ b)
both_names [] b n m = m
both_names (c ∷ a) b n m = (n.0, both_names a b n.1 m)

segment_named : (text : List ℕ) → IsSegment text → IsName (unquoted text)
segment_named text (plain c cs e b p) =
    let n = plain_name (c ∷ cs) (or_left (begins_plain c || is_digit c) (c == 35) (or_left (begins_plain c) (is_digit c) b), p) in
    subst (λ t. IsName (unquoted t)) (sym e) (subst IsName (sym (name_unquoted (c ∷ cs) n)) n)
segment_named text (quoted name e q) =
    subst (λ t. IsName (unquoted t)) (sym e) (subst IsName (sym (filter-append unquote name (39 ∷ []) ∙ append-nil (unquoted name) ∙ name_unquoted name q)) q)

joined_named : (text : List ℕ) → IsJoined text → IsName (unquoted text)
joined_named text (last s) = segment_named text s
joined_named text (joined segment more e s j) =
    subst (λ t. IsName (unquoted t)) (sym e) (subst IsName (sym (filter-append unquote segment (46 ∷ more))) (both_names (unquoted segment) (46 ∷ unquoted more) (segment_named segment s) (refl, joined_named more j)))

pub word_named : (text : List ℕ) → IsWord text → IsName (unquoted text)
word_named text (segments j) = joined_named text j
word_named text (initializer e) = subst (λ t. IsName (unquoted t)) (sym e) (refl, (refl, (refl, (refl, (refl, (refl, tt))))))
word_named text (class_initializer e) = subst (λ t. IsName (unquoted t)) (sym e) (refl, (refl, (refl, (refl, (refl, (refl, (refl, (refl, tt))))))))
