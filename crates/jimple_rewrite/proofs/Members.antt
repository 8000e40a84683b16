-- Fields and methods are read again.
-- Classes stand above, bodies below.
use Rattle.std.proofs.Common.{◌≡◌, ℕ, zero, suc, ◌≤◌, Bool, true, false, not, cond, ◌==◌, List, [], ◌∷◌, ◌++◌, length, map, pred, sym, ap, subst, refl, ◌∙◌, arith, append_assoc, append-nil, codes, Option, Some, None}
use Rattle.std.specs.List.{AllByRecursion, flat_map, list_all}
use Rattle.std.specs.Option.{option_map}
use Rattle.std.proofs.lemmas.Bool.{and_parts}
use Rattle.jimple_lex.specs.Bytes.{single_quote}
use Rattle.jimple_lex.specs.Tokens.{IsToken}
use Rattle.jimple_lex.specs.declared.token.TokenKind.TheVariants as tokens
use Rattle.jimple_tree.specs.Canonical.{modifiers_text, names_clause, member_head, field_line, method_end, method_text}
use Rattle.jimple_tree.specs.Names.{joined as row, is_one_of, name_text}
use Rattle.jimple_tree.specs.Operands.{type_text, types_text}
use Rattle.jimple_tree.specs.WellFormed.{OptionalBodyFits, MethodFits}
use Rattle.jimple_tree.specs.declared.tree.Body.{Body}
use Rattle.jimple_tree.specs.declared.tree.Field.{Field}
use Rattle.jimple_tree.specs.declared.tree.JType.{JType}
use Rattle.jimple_tree.specs.declared.tree.Method.{Method}
use Rattle.jimple_words.specs.declared.kind.Kind.{Kind}
use Rattle.jimple_words.specs.declared.kind.Kind.TheVariants as kinds
use Rattle.jimple_words.specs.Kind.{has}
use Rattle.jimple_words.specs.Kinds.{is_keyword, keywords}
use Rattle.jimple_words.specs.Sets.{sure_types}
use Rattle.jimple_grammar.specs.Grammar.{either, many, nothing, ends, ◌*>◌}
use Rattle.jimple_grammar.specs.Lexemes.{kind_of}
use Rattle.jimple_grammar.specs.Forms.{sign, name, several_names, next_param, later_params, heading_params, throws, modifier, headed}
use Rattle.jimple_grammar.specs.AsWritten.{body_as_written, body_or_none_as_written, member_ty_as_written, type_and_name, head_as_written, field_as_written, method_as_written, member_as_written}
use Rattle.jimple_grammar.specs.declared.lexeme.Lexeme.{Lexeme}
use Rattle.jimple_grammar.specs.declared.raw.RawHead.{RawHead}
use Rattle.jimple_grammar.specs.declared.raw.RawMember.{RawMember}
use Rattle.jimple_grammar.specs.declared.raw.RawMember.TheVariants as members
use Rattle.jimple_grammar.specs.declared.raw.RawMethod.{RawMethod}
use Rattle.jimple_grammar.specs.declared.raw.RawType.{RawType}
use Rattle.jimple_names.specs.Faults.{optional_body_fault}
use Rattle.jimple_names.specs.Texts.{name_of, type_of}
use Rattle.jimple_names.specs.Tree.{body_of, field_of, method_of}
use Rattle.jimple_rewrite.proofs.IsName.{IsName, unquoted}
use Rattle.jimple_rewrite.proofs.Written.{IsModifier, modifier_keywords, further_words, TypeIsWritten, OptionalBodyIsWritten, FieldIsWritten, MethodIsWritten}
use Rattle.jimple_rewrite.proofs.Bodies.{body_reread}
use Rattle.jimple_rewrite.proofs.PlainWords.{in_words, is_plain_word, plain_joined}
use Rattle.jimple_rewrite.proofs.Follows.{Stop, WordStop}
use Rattle.jimple_rewrite.proofs.KindsOf.{sure_kind, modifier_kind}
use Rattle.jimple_rewrite.proofs.Lists.{same_two, zipped_map}
use Rattle.jimple_rewrite.proofs.Operands.{type_by, type_reread, next_type, commas_stop}
use Rattle.jimple_rewrite.proofs.Reread.{IsReread, Anything, Both, Zipped, none, one, then, right, both_right, before, written, app, app_before, keep, keep_before, pass, left, other, of_one, of_four, behind, in_front, listed, many_last, many_more, many_as, each_follows, each_before, each_alone}
use Rattle.jimple_rewrite.proofs.Tokens.{open_paren, close_paren, open_brace, close_brace, comma_space, semicolon, keyword_space, a_name, any_word}
use Rattle.jimple_rewrite.proofs.Words.{word_token, keyword_token}

-- Modifiers

abbrev has_no_quote : List ℕ → Bool
has_no_quote text = list_all (λ c. not (c == single_quote)) text

no_quote_named : (text : List ℕ) → has_no_quote text ≡ true → unquoted text ≡ text
no_quote_named [] e = refl
no_quote_named (c ∷ cs) e =
    let p = and_parts (not (c == 39)) (has_no_quote cs) e in
    let stays = p.0 in
    rw stays (ap (λ (t : List ℕ). c ∷ t) (no_quote_named cs p.1))

modifier_named : (m : List ℕ) → IsModifier m → unquoted m ≡ m
unfolding is_one_of modifier_keywords
modifier_named m e = no_quote_named m (in_words has_no_quote (modifier_keywords ++ further_words) m refl e)

modifier_plain : (m : List ℕ) → IsModifier m → is_plain_word m ≡ true
unfolding is_one_of modifier_keywords
modifier_plain m e = in_words is_plain_word (modifier_keywords ++ further_words) m refl e

modifier_token : (m rest : List ℕ) → IsModifier m → WordStop rest → IsToken (cond (is_keyword m) tokens.Keyword tokens.Word) m rest
modifier_token m rest w s = by_case (is_keyword m) refl where
  by_case : (b : Bool) → is_keyword m ≡ b → IsToken (cond b tokens.Keyword tokens.Word) m rest
  by_case true e = keyword_token m rest (plain_joined m (modifier_plain m w)) e s
  by_case false e = word_token m rest (plain_joined m (modifier_plain m w)) e s

-- Lists of names

pub clause_stop : (word : List ℕ) (names : List (List ℕ)) (rest : List ℕ) → WordStop rest → WordStop (names_clause (codes " " ++ word) names ++ rest)
clause_stop word [] rest s = s
clause_stop word (n ∷ names) rest s = refl

end_stop : (body : Option Body) (rest : List ℕ) → WordStop (method_end body ++ rest)
end_stop None rest = refl
end_stop (Some body) rest = refl

same_head_parts : (modifiers modifiers2 : List (List ℕ)) (type type2 : JType) (name name2 : List ℕ) → modifiers ≡ modifiers2 → type ≡ type2 → name ≡ name2
    → (let f : Field = record { modifiers = modifiers; ty = type; name = name } in f) ≡ (let g : Field = record { modifiers = modifiers2; ty = type2; name = name2 } in g)
same_head_parts modifiers modifiers2 type type2 name name2 m t n = rw (m, t, n) refl

same_method_parts : (h h2 : Field) (params params2 : List JType) (throws throws2 : List (List ℕ)) (body body2 : Option Body) → h ≡ h2 → params ≡ params2 → throws ≡ throws2 → body ≡ body2
    → (let m : Method = record { modifiers = h.modifiers; result = h.ty; name = h.name; params = params; throws = throws; body = body } in m)
    ≡ (let n : Method = record { modifiers = h2.modifiers; result = h2.ty; name = h2.name; params = params2; throws = throws2; body = body2 } in n)
same_method_parts h h2 params params2 throws throws2 body body2 e p t b = rw (e, p, t, b) refl

module _ (bytes : List ℕ) where
  abbrev pub FieldIs : RawMember → Field → Type 0
  FieldIs r f = (h : RawHead) × (r ≡ members.Field h) × (field_of bytes h ≡ f)

  abbrev pub MethodIs : RawMember → Method → Type 0
  MethodIs r m = (h : RawHead) × (n : RawMethod) × (r ≡ members.Method h n) × (method_of bytes h n ≡ m) × (optional_body_fault bytes n.body ≡ None)

module _ {bytes : List ℕ} where
  pub modifier_reread : (m : List ℕ) → IsModifier m → IsReread bytes modifier Anything (m ++ codes " ") (λ t. name_of bytes t ≡ m)
  modifier_reread m w = behind (codes " ") (right (one (cond (is_keyword m) tokens.Keyword tokens.Word) m (modifier_kind m w) (λ rest s. modifier_token m rest w s)) (λ t o. ap unquoted o.text ∙ modifier_named m w)) refl (λ rest. refl)

  next_name : (n : List ℕ) → IsName n → IsReread bytes (sign kinds.Comma *> name) WordStop (codes ", " ++ name_text n) (λ t. name_of bytes t ≡ n)
  next_name n w = pass comma_space (a_name n w)

  names_reread : (n : List ℕ) (ns : List (List ℕ)) → AllByRecursion IsName (n ∷ ns) → IsReread bytes several_names WordStop (row (codes ", ") name_text (n ∷ ns)) (λ ts. map (name_of bytes) ts ≡ n ∷ ns)
  unfolding several_names
  names_reread n ns all = both_right
      (then (λ x xs. x ∷ xs) (a_name n all.0) (many_as (λ xs end. xs) (each_alone (λ m. codes ", " ++ name_text m) (λ t m. name_of bytes t ≡ m) IsName next_name (λ m rest. refl) ns all.1 WordStop (λ rest s. s)) (λ xs y z. z)) (each_follows (λ m. codes ", " ++ name_text m) WordStop (λ m rest. refl) ns))
      (λ t ts e z. same_two (λ (m : List ℕ) ms. m ∷ ms) _ n _ ns e (zipped_map (name_of bytes) ts ns z))

  pub clause_reread : (k : Kind) (word : List ℕ) (names : List (List ℕ)) → is_plain_word word ≡ true → is_keyword word ≡ true → has (k ∷ []) (kind_of tokens.Keyword word) ≡ true → AllByRecursion IsName names
      → IsReread bytes (either (sign k *> several_names) (nothing [])) WordStop (names_clause (codes " " ++ (word ++ codes " ")) names) (λ ts. map (name_of bytes) ts ≡ names)
  clause_reread k word [] p q h all = other (before (right (none []) (λ ts e. ap (map (name_of bytes)) e)) (λ rest (s : WordStop rest). tt))
  clause_reread k word (n ∷ ns) p q h all = left (pass (in_front (codes " ") (keyword_space k word p q h) refl) (names_reread n ns all))

  -- Heads

  member_type : (t : JType) → TypeIsWritten t → IsReread bytes member_ty_as_written Stop (type_text t) (λ r. type_of bytes r ≡ t)
  unfolding member_ty_as_written
  member_type t w = left (type_by sure_types t w (sure_kind t.base))

  head_reread : (modifiers : List (List ℕ)) (type : JType) (n : List ℕ) → AllByRecursion IsModifier modifiers → TypeIsWritten type → IsName n
      → IsReread bytes head_as_written WordStop (member_head modifiers type n) (λ h. field_of bytes h ≡ (let f : Field = record { modifiers = modifiers; ty = type; name = n } in f))
  unfolding head_as_written member_head
  head_reread modifiers type n m t i = written long (many_as headed
      (in_front (codes "    ") (each_before (λ word. word ++ codes " ") (λ l word. name_of bytes l ≡ word) IsModifier modifier_reread (λ word rest. tt)
      {H = λ v. (v.0 ≡ []) × Both type_and_name (λ r. type_of bytes r ≡ type) (λ l. name_of bytes l ≡ n) v.1} modifiers m
      (many_last (then type_and_name (behind (codes " ") (member_type type t) refl (λ rest. refl)) (any_word n i) (λ rest s. tt)) (λ y b. (refl, b))) (λ rest s. tt)) refl)
      (λ ls y h. let b = h.rest.1 in
      subst (λ (z : RawType × Lexeme). field_of bytes (headed ls z) ≡ (let f : Field = record { modifiers = modifiers; ty = type; name = n } in f)) (sym b.is)
      (same_head_parts _ modifiers _ type _ n (ap (map (name_of bytes)) (h.is ∙ ap (λ (ks : List Lexeme). h.front ++ ks) h.rest.0 ∙ append-nil h.front) ∙ zipped_map (name_of bytes) h.front modifiers h.each) b.one b.two)))
    where
      long : codes "    " ++ (modifiers_text modifiers ++ ((type_text type ++ codes " ") ++ name_text n)) ≡ codes "    " ++ modifiers_text modifiers ++ type_text type ++ codes " " ++ name_text n
      long =
          sym (append_assoc (codes "    " ++ modifiers_text modifiers) (type_text type ++ codes " ") (name_text n))
          ∙ ap (λ t. t ++ name_text n) (sym (append_assoc (codes "    " ++ modifiers_text modifiers) (type_text type) (codes " ")))

  pub field_reread : (f : Field) → FieldIsWritten f → IsReread bytes member_as_written Anything (field_line f) (λ r. FieldIs bytes r f)
  unfolding member_as_written field_as_written
  field_reread f w = left (of_one (keep_before (app (none members.Field) (head_reread f.modifiers f.ty f.name w.modifiers w.type w.name)) (behind (codes "\n") semicolon refl (λ rest. tt)) (λ rest p. refl)) (λ h e. (h, refl, e)))

  later_types : (room : ℕ) (ts : List JType) → length ts ≤ room → AllByRecursion TypeIsWritten ts
      → IsReread bytes (many listed (((kinds.Comma ∷ []) ∷ []) ∷ []) next_param (λ n x. pred n) room ends) Stop (flat_map (λ t. codes "," ++ type_text t) ts) (λ v. Zipped (λ r t. type_of bytes r ≡ t) v.0 ts)
  later_types room [] h all = before (many_last (none tt) (λ y e. tt)) (λ rest (s : Stop rest). tt)
  later_types zero (t ∷ ts) h all = absurd (omega (arith, h))
  later_types (suc room) (t ∷ ts) h all = many_more room (next_type t all.0) (later_types room ts (omega (arith, h)) all.1) (commas_stop type_text ts) (λ r e. refl) (λ r rs y e z. (e, z))

  types_reread : (types : List JType) → length types ≤ 255 → AllByRecursion TypeIsWritten types → IsReread bytes heading_params Stop (types_text types) (λ rs. map (type_of bytes) rs ≡ types)
  unfolding heading_params later_params
  types_reread [] h all = other (before (right (none []) (λ rs e. ap (map (type_of bytes)) e)) (λ rest (s : Stop rest). tt))
  types_reread (t ∷ types) h all = left (both_right
      (then (λ x xs. x ∷ xs) (type_reread t all.0) (many_as (λ xs end. xs) (later_types 254 types (omega (arith, h)) all.1) (λ xs y z. z)) (commas_stop type_text types))
      (λ r rs e z. same_two (λ (u : JType) us. u ∷ us) _ t _ types e (zipped_map (type_of bytes) rs types z)))

  -- Methods

  end_reread : (body : Option Body) → OptionalBodyFits body → OptionalBodyIsWritten body
      → IsReread bytes body_or_none_as_written Anything (method_end body) (λ r. (option_map (body_of bytes) r ≡ body) × (optional_body_fault bytes r ≡ None))
  unfolding body_as_written
  end_reread None f w = left (of_one (app (none _) (behind (codes "\n") semicolon refl (λ rest. tt))) (λ t o. (refl, refl)))
  end_reread (Some body) f w = other (of_one
      (app (none Some) (keep (pass (in_front (codes "\n    ") (behind (codes "\n") open_brace refl (λ rest. tt)) refl) (body_reread body f w)) (in_front (codes "    ") (behind (codes "\n") close_brace refl (λ rest. tt)) refl)))
      (λ r e. (ap Some e.0, e.1)))

  pub method_reread : (m : Method) → MethodFits m × MethodIsWritten m → IsReread bytes member_as_written Anything (method_text m) (λ r. MethodIs bytes r m)
  unfolding member_as_written method_as_written throws keywords is_keyword
  method_reread m (f, w) = other (of_four
      (app_before (app (keep_before (app (keep_before (app (none _) (head_reread m.modifiers m.result m.name w.modifiers w.returned w.name)) open_paren (λ rest p. refl)) (types_reread m.params f.params w.params)) close_paren (λ rest p. refl))
      (clause_reread kinds.Throws (codes "throws") m.throws refl refl refl w.throws)) (end_reread m.body f.body w.body) (λ rest p. end_stop m.body rest))
      (λ h ps ts body e p t b. (h, (let n : RawMethod = record { params = ps; throws = ts; body = body } in n), refl, same_method_parts _ (let g : Field = record { modifiers = m.modifiers; ty = m.result; name = m.name } in g) _ m.params _ m.throws _ m.body e p t b.0, b.1)))
