-- Right sides, statements and catch clauses are read again, where their targets are named.
-- Bodies stand above, operands below.
use Rattle.std.proofs.Common.{◌≡◌, ℕ, ◌≤◌, nat_lt, Bool, true, false, ◌&&◌, List, [], ◌∷◌, ◌++◌, length, map, decimal, is_some, sym, ap, subst, refl, ◌∙◌, arith, rules, append_assoc, append-nil, drop, codes, Option, Some, None}
use Rattle.std.specs.List.{AllByRecursion, flat_map}
use Rattle.std.specs.Option.{option_map}
use Rattle.clean_base.specs.declared.ids.LocalId.{LocalId}
use Rattle.jimple_lex.specs.Forms.{is_sign}
use Rattle.jimple_lex.specs.Tokens.{IsToken}
use Rattle.jimple_lex.specs.Front.{front}
use Rattle.jimple_lex.specs.declared.front.Front.TheVariants as fronts
use Rattle.jimple_lex.specs.declared.token.TokenKind.TheVariants as tokens
use Rattle.jimple_tree.specs.Labels.{is_named, label_number, label_text, targets_of, catch_places}
use Rattle.jimple_tree.specs.Operands.{brackets as bracket_text, type_text, field_sig_text, local_text, imm_text}
use Rattle.jimple_tree.specs.Statements.{length_text, field_text, element_text, cond_text, op_text, rhs_text, goto_text, switch_word, case_head, case_line, default_line, stmt_text, catch_head, catch_line}
use Rattle.jimple_tree.specs.WellFormed.{LocalFits, ImmFits, GivenFits, RhsFits, IsUse, PlaceFits, PlaceTakes, StmtFits, CatchFits, TargetFits}
use Rattle.jimple_tree.specs.declared.tree.BinOp.{BinOp}
use Rattle.jimple_tree.specs.declared.tree.BinOp.TheVariants.{Add, Sub, Mul, Div, Rem, And, Or, Xor, Shl, Shr, Ushr, Cmp, Cmpg, Cmpl}
use Rattle.jimple_tree.specs.declared.tree.Body.{Body}
use Rattle.jimple_tree.specs.declared.tree.Case.{Case}
use Rattle.jimple_tree.specs.declared.tree.Catch.{Catch}
use Rattle.jimple_tree.specs.declared.tree.Cond.{Cond}
use Rattle.jimple_tree.specs.declared.tree.Cond.TheVariants.{Eq, Ne, Lt, Le, Gt, Ge}
use Rattle.jimple_tree.specs.declared.tree.FieldSig.{FieldSig}
use Rattle.jimple_tree.specs.declared.tree.Given.{Given}
use Rattle.jimple_tree.specs.declared.tree.Given.TheVariants.{This, Param, Caught}
use Rattle.jimple_tree.specs.declared.tree.Imm.{Imm}
use Rattle.jimple_tree.specs.declared.tree.Place.{Place}
use Rattle.jimple_tree.specs.declared.tree.Place.TheVariants as place
use Rattle.jimple_tree.specs.declared.tree.Rhs.{Rhs}
use Rattle.jimple_tree.specs.declared.tree.Rhs.TheVariants as rhs
use Rattle.jimple_tree.specs.declared.tree.Stmt.{Stmt}
use Rattle.jimple_tree.specs.declared.tree.Stmt.TheVariants as stmt
use Rattle.jimple_words.specs.declared.kind.Kind.{Kind}
use Rattle.jimple_words.specs.declared.kind.Kind.TheVariants as kinds
use Rattle.jimple_words.specs.Kind.{Kinds, has}
use Rattle.jimple_words.specs.Kinds.{is_keyword, keywords, signs, further, read_digits}
use Rattle.jimple_words.specs.Sets as sets
use Rattle.jimple_grammar.specs.Lexemes.{kind_of}
use Rattle.jimple_grammar.specs.Grammar.{token as one_token, either, nothing, ◌<*>◌, ◌<*◌}
use Rattle.jimple_grammar.specs.Forms.{sign, name, lengths_and_bare, multi, new_object, static_load, jump, goto_stmt, case, cases, switched, nop_stmt, catch}
use Rattle.jimple_grammar.specs.AsWritten.{imm_as_written, element_as_written, use_as_written, binary_as_written, instance_as_written, length_as_written, negated_as_written, cast_as_written, load_as_written, load_element_as_written, new_array_as_written, later_lengths_as_written, new_multi_as_written, called_as_written, rhs_as_written, stored_as_written, this_as_written, param_as_written, caught_as_written, assign_as_written, store_field_as_written, store_element_as_written, store_static_as_written, call_stmt_as_written, if_as_written, switch_as_written, return_as_written, throw_as_written, enter_as_written, exit_as_written, stmt_as_written}
use Rattle.jimple_grammar.specs.declared.lexeme.Lexeme.{Lexeme}
use Rattle.jimple_grammar.specs.declared.raw.RawCase.{RawCase}
use Rattle.jimple_grammar.specs.declared.raw.RawCatch.{RawCatch}
use Rattle.jimple_grammar.specs.declared.raw.RawImm.{RawImm}
use Rattle.jimple_grammar.specs.declared.raw.RawRhs.{RawRhs}
use Rattle.jimple_grammar.specs.declared.raw.RawRhs.TheVariants as sides
use Rattle.jimple_grammar.specs.declared.raw.RawStmt.{RawStmt}
use Rattle.jimple_grammar.specs.declared.raw.RawStmt.TheVariants as stmts
use Rattle.jimple_names.specs.declared.stop.NameFault.TheVariants.{UnknownLabel}
use Rattle.jimple_names.specs.Faults.{unless, is_statement, label_fault, end_fault, imm_fault, rhs_fault, case_fault, value_fault, stmt_fault, catch_fault}
use Rattle.jimple_names.specs.Scope.{Scope, label_at, or_first}
use Rattle.jimple_names.specs.Texts.{name_of}
use Rattle.jimple_names.specs.Tree.{cond_of, op_of, is_table, target_of, imm_of, rhs_of, case_of, stmt_of, catch_of}
use Rattle.jimple_rewrite.proofs.Known.{Knows}
use Rattle.jimple_rewrite.proofs.IsName.{unquoted}
use Rattle.jimple_rewrite.proofs.Written.{FieldSigIsWritten, ImmIsWritten, GivenIsWritten, PlaceIsWritten, RhsIsWritten, CaseIsWritten, StmtIsWritten, CatchIsWritten}
use Rattle.jimple_rewrite.proofs.Digits.{read_decimal}
use Rattle.jimple_rewrite.proofs.PlainWords as words
use Rattle.jimple_rewrite.proofs.PlainWords.{is_plain_word}
use Rattle.jimple_rewrite.proofs.Follows.{Stop, WordStop, value_stop, word_stop}
use Rattle.jimple_rewrite.proofs.KindsOf.{in_names, parameter_is}
use Rattle.jimple_rewrite.proofs.Lists.{same_two, same_three, same_four, all_first, both_all}
use Rattle.jimple_rewrite.proofs.Numbered.{label_named, label_token, parameter_token}
use Rattle.jimple_rewrite.proofs.Operands.{brackets_reread, type_reread, field_sig_reread, all_values, no_fault_after, LocalIs, ImmIs, CanImm, local_reread, imm_reread, invoke_reread}
use Rattle.jimple_rewrite.proofs.Reread.{IsReread, IsOf, Anything, Is, Applied, Zipped, none, one, right, before, written, joined, apart, app, app_before, keep, keep_before, pass, left, other, past_two, past_four, past_eight, of_one, of_two, of_three, of_four, behind, in_front, many_last, many_as, each_before, each_alone}
use Rattle.jimple_rewrite.proofs.Signs.{opens_longer, sign_token}
use Rattle.jimple_rewrite.proofs.Tokens.{open_paren, close_paren, open_brace, close_brace, open_bracket, close_bracket, semicolon, at_sign, dot, colon_space, a_keyword, keyword_space, a_name}
use Rattle.jimple_rewrite.proofs.Values.{number_token}

same_catch : (class class2 : List ℕ) (from from2 to to2 with with2 : ℕ) → class ≡ class2 → from ≡ from2 → to ≡ to2 → with ≡ with2
    → (let c : Catch = record { class = class; from = from; to = to; with = with } in c) ≡ (let d : Catch = record { class = class2; from = from2; to = to2; with = with2 } in d)
same_catch class class2 from from2 to to2 with with2 c f t w = rw (c, f, t, w) refl

same_case : (value value2 : List ℕ) (target target2 : ℕ) → value ≡ value2 → target ≡ target2
    → (let c : Case = record { value = value; target = target } in c) ≡ (let d : Case = record { value = value2; target = target2 } in d)
same_case value value2 target target2 v t = rw (v, t) refl

-- Operators

module _ {bytes : List ℕ} where
  -- a sign with a blank on each side
  spaced_sign : {ks : Kinds} (word : List ℕ) → has ks (kind_of tokens.Sign word) ≡ true → is_sign word ≡ true → (opens_longer word && false) ≡ false → ((rest : List ℕ) → front (word ++ 32 ∷ rest) ≡ fronts.Sign)
      → IsReread bytes (one_token ks) Anything (codes " " ++ (word ++ codes " ")) (IsOf bytes tokens.Sign word)
  spaced_sign word h s n f = in_front (codes " ") (behind (codes " ") (one tokens.Sign word {P = λ rest. IsToken tokens.Sign word rest} h (λ rest p. p)) refl (λ rest. sign_token word (32 ∷ rest) s n (f rest))) refl

  spaced_word : {ks : Kinds} (word : List ℕ) → is_plain_word word ≡ true → is_keyword word ≡ true → has ks (kind_of tokens.Keyword word) ≡ true → IsReread bytes (one_token ks) Anything (codes " " ++ (word ++ codes " ")) (IsOf bytes tokens.Keyword word)
  spaced_word word p q h = in_front (codes " ") (behind (codes " ") (one tokens.Keyword word h (λ rest a. words.a_keyword word rest p q a)) refl (λ rest. refl)) refl

  cond_reread : (c : Cond) → IsReread bytes (one_token sets.conditions) Anything (cond_text c) (λ t. cond_of t.kind ≡ c)
  unfolding is_sign signs
  cond_reread Eq = right (spaced_sign (codes "==") refl refl refl (λ rest. refl)) (λ t o. ap cond_of o.kind)
  cond_reread Ne = right (spaced_sign (codes "!=") refl refl refl (λ rest. refl)) (λ t o. ap cond_of o.kind)
  cond_reread Lt = right (spaced_sign (codes "<") refl refl refl (λ rest. refl)) (λ t o. ap cond_of o.kind)
  cond_reread Le = right (spaced_sign (codes "<=") refl refl refl (λ rest. refl)) (λ t o. ap cond_of o.kind)
  cond_reread Gt = right (spaced_sign (codes ">") refl refl refl (λ rest. refl)) (λ t o. ap cond_of o.kind)
  cond_reread Ge = right (spaced_sign (codes ">=") refl refl refl (λ rest. refl)) (λ t o. ap cond_of o.kind)

  op_reread : (op : BinOp) → IsReread bytes (one_token sets.operators) Anything (op_text op) (λ t. op_of t.kind ≡ op)
  unfolding is_sign signs is_keyword keywords
  op_reread Add = right (spaced_sign (codes "+") refl refl refl (λ rest. refl)) (λ t o. ap op_of o.kind)
  op_reread Sub = right (spaced_sign (codes "-") refl refl refl (λ rest. refl)) (λ t o. ap op_of o.kind)
  op_reread Mul = right (spaced_sign (codes "*") refl refl refl (λ rest. refl)) (λ t o. ap op_of o.kind)
  op_reread Div = right (spaced_sign (codes "/") refl refl refl (λ rest. refl)) (λ t o. ap op_of o.kind)
  op_reread Rem = right (spaced_sign (codes "%") refl refl refl (λ rest. refl)) (λ t o. ap op_of o.kind)
  op_reread And = right (spaced_sign (codes "&") refl refl refl (λ rest. refl)) (λ t o. ap op_of o.kind)
  op_reread Or = right (spaced_sign (codes "|") refl refl refl (λ rest. refl)) (λ t o. ap op_of o.kind)
  op_reread Xor = right (spaced_sign (codes "^") refl refl refl (λ rest. refl)) (λ t o. ap op_of o.kind)
  op_reread Shl = right (spaced_sign (codes "<<") refl refl refl (λ rest. refl)) (λ t o. ap op_of o.kind)
  op_reread Shr = right (spaced_sign (codes ">>") refl refl refl (λ rest. refl)) (λ t o. ap op_of o.kind)
  op_reread Ushr = right (spaced_sign (codes ">>>") refl refl refl (λ rest. refl)) (λ t o. ap op_of o.kind)
  op_reread Cmp = right (spaced_word (codes "cmp") refl refl refl) (λ t o. ap op_of o.kind)
  op_reread Cmpg = right (spaced_word (codes "cmpg") refl refl refl) (λ t o. ap op_of o.kind)
  op_reread Cmpl = right (spaced_word (codes "cmpl") refl refl refl) (λ t o. ap op_of o.kind)

cond_stops : (c : Cond) (rest : List ℕ) → Stop (cond_text c ++ rest)
cond_stops Eq rest = refl
cond_stops Ne rest = refl
cond_stops Lt rest = refl
cond_stops Le rest = refl
cond_stops Gt rest = refl
cond_stops Ge rest = refl

op_stops : (op : BinOp) (rest : List ℕ) → Stop (op_text op ++ rest)
op_stops Add rest = refl
op_stops Sub rest = refl
op_stops Mul rest = refl
op_stops Div rest = refl
op_stops Rem rest = refl
op_stops And rest = refl
op_stops Or rest = refl
op_stops Xor rest = refl
op_stops Shl rest = refl
op_stops Shr rest = refl
op_stops Ushr rest = refl
op_stops Cmp rest = refl
op_stops Cmpg rest = refl
op_stops Cmpl rest = refl

-- The tree has the value, and no name in it breaks a rule.
module _ (bytes : List ℕ) (s : Scope) where
  abbrev pub RhsIs : RawRhs → Rhs → Type 0
  RhsIs r x = (rhs_of bytes s r ≡ x) × (rhs_fault bytes s r ≡ None)

  abbrev pub TargetIs : Lexeme → ℕ → Type 0
  TargetIs t p = (target_of bytes s t ≡ p) × (label_fault bytes s t ≡ None)

  abbrev pub CaseIs : RawCase → Case → Type 0
  CaseIs r c = (case_of bytes s r ≡ c) × (case_fault bytes s r ≡ None)

  abbrev pub StmtIs : RawStmt → Stmt → Type 0
  StmtIs r x = (stmt_of bytes s r ≡ x) × (stmt_fault bytes s r ≡ None)

  abbrev pub CatchIs : RawCatch → Catch → Type 0
  CatchIs r c = (catch_of bytes s r ≡ c) × (catch_fault bytes s r ≡ None)

module _ (b : Body) where
  -- a place that has a label
  abbrev pub IsNamed : ℕ → Type 0
  IsNamed p = is_named b p ≡ true

  abbrev CanCase : Case → Type 0
  CanCase c = (TargetFits b c.target × CaseIsWritten c) × IsNamed c.target

  abbrev pub CanStmt : Stmt → Type 0
  CanStmt x = StmtFits b x × StmtIsWritten x × AllByRecursion IsNamed (targets_of x)

  abbrev pub CanCatch : Catch → Type 0
  CanCatch c = CatchFits b c × CatchIsWritten c × AllByRecursion IsNamed (catch_places c)

abbrev StmtReread : List ℕ → Body → Scope → Stmt → Type 0
StmtReread bytes b s x = IsReread bytes stmt_as_written Anything (stmt_text b x) (λ r. StmtIs bytes s r x)

-- an identity statement up to its value, and a switch up to its last case
abbrev assigned : Body → LocalId → List ℕ
assigned b x = local_text b x ++ codes " := "

abbrev cases_front : Body → Bool → Imm → List Case → List ℕ
cases_front b table key cs = switch_word table ++ imm_text b key ++ codes ") {\n" ++ flat_map (case_line b) cs

-- what is written to a place that is no local
used : (b : Body) (r : Rhs) → IsUse r → RhsFits b r → RhsIsWritten r → (value : Imm) × (rhs.Use value ≡ r) × CanImm b value
used b (rhs.Use value) u f w = (value, refl, (f, w))
used b _ u f w = absurd u

cases_named : (b : Body) (cs : List Case) (default : ℕ) → AllByRecursion (IsNamed b) (map (λ (c : Case). c.target) cs ++ default ∷ []) → AllByRecursion (λ (c : Case). IsNamed b c.target) cs × IsNamed b default
cases_named b [] default n = (tt, n.0)
cases_named b (c ∷ cs) default n = let rest = cases_named b cs default n.1 in ((n.0, rest.0), rest.1)

found : {b : Body} {s : Scope} (k : Knows b s) (p : ℕ) → p ≤ length b.stmts → IsNamed b p → (n : List ℕ) → n ≡ label_text (label_number b p) → label_at s.labels n ≡ Some p
found {s = s} k p f i n e = ap (label_at s.labels) e ∙ k.place p f i

module _ {bytes : List ℕ} {b : Body} {s : Scope} (k : Knows b s) where
  -- Right sides

  pub length_reread : (len : Imm) → CanImm b len → IsReread bytes element_as_written Anything (length_text b len) (λ r. ImmIs bytes s r len)
  unfolding element_as_written
  length_reread len f = keep_before (pass open_bracket (imm_reread k len f)) close_bracket (λ rest p. refl)

  lengths_reread : (lens : List Imm) (bare : ℕ) → AllByRecursion (CanImm b) lens → IsReread bytes later_lengths_as_written Stop (flat_map (length_text b) lens ++ bracket_text bare) (λ v. Zipped (ImmIs bytes s) v.0 lens × (v.1 ≡ bare))
  lengths_reread lens bare all = many_as lengths_and_bare
      (each_before (length_text b) (ImmIs bytes s) (CanImm b) length_reread (λ len rest. tt) lens all (before (many_last {K = λ v. (v.0 ≡ []) × (v.1 ≡ bare)} (brackets_reread bare) (λ y e. (refl, e))) (λ rest (p : Stop rest). tt)) (λ rest p. tt))
      (λ xs y h. (subst (λ us. Zipped (ImmIs bytes s) us lens) (sym (h.is ∙ ap (λ us. h.front ++ us) h.rest.0 ∙ append-nil h.front)) h.each, h.rest.1))

  pub rhs_reread : (r : Rhs) → RhsFits b r → RhsIsWritten r → IsReread bytes rhs_as_written Stop (rhs_text b r) (λ v. RhsIs bytes s v r)
  unfolding rhs_as_written use_as_written binary_as_written instance_as_written length_as_written negated_as_written cast_as_written load_as_written load_element_as_written static_load new_object new_array_as_written new_multi_as_written called_as_written keywords is_keyword
  rhs_reread (rhs.Use value) f w = left (of_one (app (none sides.Use) (imm_reread k value (f, w))) (λ x i. (ap rhs.Use i.0, i.1)))
  rhs_reread (rhs.Binary op l r) f w = other (left (of_three
      (app (app_before (app (none _) (imm_reread k l (f.0, w.0))) (op_reread op) (λ rest p. op_stops op rest)) (imm_reread k r (f.1, w.1)))
      (λ x t y i o j. (same_three rhs.Binary _ op _ l _ r o i.0 j.0, no_fault_after _ _ i.1 j.1))))
  rhs_reread (rhs.InstanceOf value type) f w = past_two (left (of_two
      (app (keep_before (app (none _) (imm_reread k value (f, w.0))) (in_front (codes " ") (keyword_space kinds.Instanceof (codes "instanceof") refl refl refl) refl) (λ rest p. refl)) (type_reread type w.1))
      (λ x t i e. (same_two rhs.InstanceOf _ value _ type i.0 e, i.1))))
  rhs_reread (rhs.Length value) f w = past_two (other (left (of_one
      (app (keep (none sides.Length) (keyword_space kinds.Lengthof (codes "lengthof") refl refl refl)) (imm_reread k value (f, w))) (λ x i. (ap rhs.Length i.0, i.1)))))
  rhs_reread (rhs.Neg value) f w = past_four (left (of_one
      (app (keep (none sides.Neg) (keyword_space kinds.Neg (codes "neg") refl refl refl)) (imm_reread k value (f, w))) (λ x i. (ap rhs.Neg i.0, i.1))))
  rhs_reread (rhs.Cast type value) f w = past_four (other (left (of_two
      (app (keep_before (app (keep (none _) open_paren) (type_reread type w.0)) (behind (codes " ") close_paren refl (λ rest. tt)) (λ rest p. refl)) (imm_reread k value (f, w.1)))
      (λ t x e i. (same_two rhs.Cast _ type _ value e i.0, i.1)))))
  rhs_reread (rhs.Load base sig) f w = past_four (past_two (left (of_two
      (app_before (keep_before (app (none _) (local_reread k base f)) dot (λ rest d. d)) (field_sig_reread sig w) (λ rest p. refl))
      (λ x g l e. (same_two rhs.Load _ base _ sig l.0 e, l.1)))))
  rhs_reread (rhs.Element base index) f w = past_four (past_two (other (left (before (of_two
      (app_before (app (none _) (local_reread k base f.0)) (length_reread index (f.1, w)) (λ rest p. refl))
      (λ x i l j. (same_two rhs.Element _ base _ index l.0 j.0, no_fault_after _ _ l.1 j.1))) (λ rest (p : Stop rest). tt)))))
  rhs_reread (rhs.StaticLoad sig) f w = past_eight (left (of_one (app (none sides.LoadStatic) (field_sig_reread sig w)) (λ g e. (ap rhs.StaticLoad e, refl))))
  rhs_reread (rhs.New of) f w = past_eight (other (left (before (of_one
      (app (keep (none sides.New) (keyword_space kinds.New (codes "new") refl refl refl)) (a_name of w)) (λ t e. (ap rhs.New e, refl))) word_stop)))
  rhs_reread (rhs.NewArray type len) f w = past_eight (past_two (left (before (of_two
      (app (keep_before (app (keep (keep (none _) (keyword_space kinds.Newarray (codes "newarray") refl refl refl)) open_paren) (type_reread type w.0)) close_paren (λ rest p. refl)) (length_reread len (f, w.1)))
      (λ t x e i. (same_two rhs.NewArray _ type _ len e i.0, i.1))) (λ rest (p : Stop rest). tt))))
  rhs_reread (rhs.NewMulti type [] bare) f w = absurd (let some = w.2 in omega (arith, some))
  rhs_reread (rhs.NewMulti type (len ∷ lens) bare) f w = past_eight (past_two (other (left (written (long len lens bare) (of_three
      (app (app (keep_before (app (keep (keep (none multi) (keyword_space kinds.Newmultiarray (codes "newmultiarray") refl refl refl)) open_paren) (type_reread type w.0)) close_paren (λ rest p. refl))
      (length_reread len ((all_first (ImmFits b) (len ∷ lens) f).0, w.1.0))) (lengths_reread lens bare (both_all (ImmFits b) ImmIsWritten lens (all_first (ImmFits b) (len ∷ lens) f).1 w.1.1)))
      (λ t x v e i z. let all = all_values (imm_of bytes s) (imm_fault bytes s) (x ∷ v.0) (len ∷ lens) (i, z.0) in (same_three rhs.NewMulti _ type _ (len ∷ lens) _ bare e all.0 z.1, all.1)))))))
    where
      long : (x : Imm) (xs : List Imm) (n : ℕ) → (codes "newmultiarray (" ++ type_text type ++ codes ")" ++ length_text b x) ++ (flat_map (length_text b) xs ++ bracket_text n) ≡ codes "newmultiarray (" ++ type_text type ++ codes ")" ++ flat_map (length_text b) (x ∷ xs) ++ bracket_text n
      long x xs n =
          sym (append_assoc (codes "newmultiarray (" ++ type_text type ++ codes ")" ++ length_text b x) (flat_map (length_text b) xs) (bracket_text n))
          ∙ ap (λ t. t ++ bracket_text n) (append_assoc (codes "newmultiarray (" ++ type_text type ++ codes ")") (length_text b x) (flat_map (length_text b) xs))
  rhs_reread (rhs.Call invoke) f w = past_eight (past_four (before (of_one (app (none sides.Call) (invoke_reread k invoke f w)) (λ c i. (ap rhs.Call i.0, i.1))) (λ rest (p : Stop rest). tt)))

  -- Labels

  pub a_label : (number : ℕ) → IsReread bytes name WordStop (label_text number) (λ t. name_of bytes t ≡ label_text number)
  a_label number = right (one tokens.Word (label_text number) (in_names (label_text number)) (label_token number)) (λ t o. ap unquoted o.text ∙ label_named number)

  target_reread : (p : ℕ) → TargetFits b p → IsNamed b p → IsReread bytes name WordStop (label_text (label_number b p)) (λ t. TargetIs bytes s t p)
  target_reread p f n = right (a_label (label_number b p)) (λ t e.
      let at = found k p (omega (arith, f)) n (name_of bytes t) e in
      let c = k.count in
      let inside : nat_lt p s.count ≡ true = search (rules, arith, f, c) in
      (ap or_first at, ap (λ (o : Option ℕ). unless (is_statement bytes s o) (UnknownLabel t.from)) at ∙ ap (λ (i : Bool). unless i (UnknownLabel t.from)) inside))

  end_reread : (p : ℕ) → p ≤ length b.stmts → IsNamed b p → IsReread bytes name WordStop (label_text (label_number b p)) (λ t. (target_of bytes s t ≡ p) × (end_fault bytes s t ≡ None))
  end_reread p f n = right (a_label (label_number b p)) (λ t e. let at = found k p f n (name_of bytes t) e in (ap or_first at, ap (λ (o : Option ℕ). unless (is_some o) (UnknownLabel t.from)) at))

  goto_reread : (p : ℕ) → TargetFits b p → IsNamed b p → IsReread bytes jump Anything (goto_text (label_number b p)) (λ t. TargetIs bytes s t p)
  unfolding goto_text keywords is_keyword
  goto_reread p f n = keep_before (pass (keyword_space kinds.Goto (codes "goto") refl refl refl) (target_reread p f n)) semicolon (λ rest p. refl)

  -- Statements

  colon_equals : IsReread bytes (sign kinds.ColonEquals) Anything (codes " := ") (IsOf bytes tokens.Sign (codes ":="))
  unfolding is_sign signs
  colon_equals = spaced_sign (codes ":=") refl refl refl (λ rest. refl)

  equals : IsReread bytes (sign kinds.Equals) Anything (codes " = ") (IsOf bytes tokens.Sign (codes "="))
  unfolding is_sign signs
  equals = spaced_sign (codes "=") refl refl refl (λ rest. refl)

  a_word : (kind : Kind) (word : List ℕ) → is_plain_word word ≡ true → is_keyword word ≡ false → has (kind ∷ []) (kind_of tokens.Word word) ≡ true → IsReread bytes (sign kind) WordStop word (IsOf bytes tokens.Word word)
  a_word kind word p q h = one tokens.Word word h (λ rest a. words.a_word word rest p q a)

  -- an identity statement up to the word of its value
  given_front : {A : Type 0} (f : Lexeme → A) (x : LocalId) → LocalFits b x → IsReread bytes (nothing f <*> name <* sign kinds.ColonEquals <* sign kinds.At) Anything (assigned b x ++ codes "@") (Applied (Is f) (λ t. LocalIs bytes s t x))
  given_front f x l = keep (keep_before (app (none f) (local_reread k x l)) colon_equals (λ rest p. refl)) at_sign

  identity_reread : (x : LocalId) (g : Given) → LocalFits b x → GivenFits g → GivenIsWritten g → StmtReread bytes b s (stmt.Identity x g)
  unfolding stmt_as_written this_as_written param_as_written caught_as_written further is_keyword keywords
  identity_reread x (This type) l f w = left (of_two
      (keep_before (joined (assigned b x) (codes "@this: ") (type_text type) (app (joined (assigned b x) (codes "@this") (codes ": ") (keep_before (joined (assigned b x) (codes "@") (codes "this") (keep (given_front _ x l) (a_word kinds.This (codes "this") refl refl refl))) colon_space (λ rest p. refl))) (type_reread type w))) semicolon (λ rest p. refl))
      (λ t r e i. (same_two (λ y u. stmt.Identity y (This u)) _ x _ type e.0 i, e.1)))
  identity_reread x (Param n type) l f w = other (left (of_three
      (keep_before (joined (assigned b x) (codes "@parameter" ++ decimal n ++ codes ": ") (type_text type) (app (joined (assigned b x) (codes "@parameter" ++ decimal n) (codes ": ") (keep_before (joined (assigned b x) (codes "@") (codes "parameter" ++ decimal n) (app (given_front _ x l) (one tokens.Word (codes "parameter" ++ decimal n) (parameter_is n f) (parameter_token n)))) colon_space (λ rest p. refl))) (type_reread type w))) semicolon (λ rest p. refl))
      (λ t word r e o i. (same_three (λ y m u. stmt.Identity y (Param m u)) _ x _ n _ type e.0 (ap (λ (u : List ℕ). read_digits 0 (drop 9 u)) o.text ∙ read_decimal n (omega (arith, f))) i, e.1))))
  identity_reread x Caught l f w = past_two (left (of_one
      (keep_before (joined (assigned b x) (codes "@") (codes "caughtexception") (keep (given_front _ x l) (a_word kinds.Caughtexception (codes "caughtexception") refl refl refl))) semicolon (λ rest p. refl))
      (λ t e. (ap (λ y. stmt.Identity y Caught) e.0, e.1))))

  stored : (value : Imm) → CanImm b value → IsReread bytes stored_as_written Stop (codes " = " ++ imm_text b value) (λ r. ImmIs bytes s r value)
  stored value h = pass equals (imm_reread k value h)

  store_field : (base : LocalId) (sig : FieldSig) (value : Imm) → LocalFits b base → FieldSigIsWritten sig → CanImm b value → StmtReread bytes b s (stmt.Assign (place.Field base sig) (rhs.Use value))
  unfolding stmt_as_written store_field_as_written
  store_field base sig value f v h = past_four (left (of_three
      (keep_before (apart (field_text b base sig) (codes " = ") (imm_text b value) (app_before (app_before (keep_before (app (none _) (local_reread k base f)) dot (λ rest d. d)) (field_sig_reread sig v) (λ rest p. refl)) (stored value h) (λ rest p. refl))) semicolon (λ rest p. refl))
      (λ x y z e i j. (same_three (λ a c d. stmt.Assign (place.Field a c) (rhs.Use d)) _ base _ sig _ value e.0 i j.0, no_fault_after _ _ e.1 j.1))))

  store_element : (base : LocalId) (index : Imm) (value : Imm) → LocalFits b base → CanImm b index → CanImm b value → StmtReread bytes b s (stmt.Assign (place.Element base index) (rhs.Use value))
  unfolding stmt_as_written store_element_as_written
  store_element base index value f v h = past_four (other (left (of_three
      (keep_before (apart (element_text b base index) (codes " = ") (imm_text b value) (app (app_before (app (none _) (local_reread k base f)) (length_reread index v) (λ rest p. refl)) (stored value h))) semicolon (λ rest p. refl))
      (λ x y z e i j. (same_three (λ a c d. stmt.Assign (place.Element a c) (rhs.Use d)) _ base _ index _ value e.0 i.0 j.0, no_fault_after _ _ e.1 (no_fault_after _ _ i.1 j.1))))))

  store_static : (sig : FieldSig) (value : Imm) → FieldSigIsWritten sig → CanImm b value → StmtReread bytes b s (stmt.Assign (place.Static sig) (rhs.Use value))
  unfolding stmt_as_written store_static_as_written
  store_static sig value v h = past_four (past_two (left (of_two
      (keep_before (apart (field_sig_text sig) (codes " = ") (imm_text b value) (app_before (app (none _) (field_sig_reread sig v)) (stored value h) (λ rest p. refl))) semicolon (λ rest p. refl))
      (λ y z i j. (same_two (λ c d. stmt.Assign (place.Static c) (rhs.Use d)) _ sig _ value i j.0, j.1)))))

  assign_reread : (p : Place) (r : Rhs) → PlaceFits b p → RhsFits b r → PlaceTakes p r → PlaceIsWritten p → RhsIsWritten r → StmtReread bytes b s (stmt.Assign p r)
  unfolding stmt_as_written assign_as_written
  assign_reread (place.Local x) r f g t v w = past_two (other (left (of_two
      (keep_before (app (keep_before (app (none _) (local_reread k x f)) equals (λ rest p. refl)) (rhs_reread r g w)) semicolon (λ rest p. refl))
      (λ y u e i. (same_two (λ z v. stmt.Assign (place.Local z) v) _ x _ r e.0 i.0, no_fault_after _ _ e.1 i.1)))))
  assign_reread (place.Field base sig) r f g t v w = let u = used b r t g w in subst (λ y. StmtReread bytes b s (stmt.Assign (place.Field base sig) y)) u.1 (store_field base sig u.0 f v u.2)
  assign_reread (place.Static sig) r f g t v w = let u = used b r t g w in subst (λ y. StmtReread bytes b s (stmt.Assign (place.Static sig) y)) u.1 (store_static sig u.0 v u.2)
  assign_reread (place.Element base index) r f g t v w = let u = used b r t g w in subst (λ y. StmtReread bytes b s (stmt.Assign (place.Element base index) y)) u.1 (store_element base index u.0 f.0 (f.1, v) u.2)

  -- Switches

  case_reread : (c : Case) → CanCase b c → IsReread bytes case Anything (case_line b c) (λ r. CaseIs bytes s r c)
  unfolding case case_line case_head keywords is_keyword
  case_reread c f = behind (codes "\n") (of_two
      (app (keep_before (app (keep (none _) (in_front (codes "            ") (keyword_space kinds.Case (codes "case") refl refl refl) refl)) (one tokens.Number c.value {P = Stop} refl (λ rest p. number_token c.value rest f.0.1 (value_stop rest p)))) colon_space (λ rest p. refl)) (goto_reread c.target f.0.0 f.1))
      (λ t l o e. (same_case _ c.value _ c.target o.text e.0, e.1))) refl (λ rest. tt)

  cases_reread : (cs : List Case) → AllByRecursion (CanCase b) cs → IsReread bytes cases Anything (flat_map (case_line b) cs) (λ rs. Zipped (CaseIs bytes s) rs cs)
  unfolding cases
  cases_reread cs all = many_as (λ xs end. xs) (each_alone (case_line b) (CaseIs bytes s) (CanCase b) case_reread (λ c rest. tt) cs all Anything (λ rest p. tt)) (λ xs y z. z)

  switch_reread : (table : Bool) → IsReread bytes (nothing switched <*> one_token sets.switches <* sign kinds.OpenParen) Anything (switch_word table) (Applied (Is switched) (λ t. is_table t.kind ≡ table))
  unfolding keywords is_keyword
  switch_reread true = keep_before (app (none switched) (right (one tokens.Keyword (codes "tableswitch") refl (λ rest a. words.a_keyword (codes "tableswitch") rest refl refl a)) (λ t o. ap is_table o.kind))) open_paren (λ rest p. refl)
  switch_reread false = keep_before (app (none switched) (right (one tokens.Keyword (codes "lookupswitch") refl (λ rest a. words.a_keyword (codes "lookupswitch") rest refl refl a)) (λ t o. ap is_table o.kind))) open_paren (λ rest p. refl)

  switched_reread : (table : Bool) (key : Imm) (cs : List Case) (default : ℕ) → CanImm b key → AllByRecursion (CanCase b) cs → TargetFits b default → IsNamed b default → StmtReread bytes b s (stmt.Switch table key cs default)
  unfolding stmt_as_written switch_as_written default_line keywords is_keyword
  switched_reread table key cs default f all t n = past_eight (past_two (left (of_four
      (joined (cases_front b table key cs ++ default_line (label_number b default)) (codes "        }") (codes ";") (keep (keep (joined (cases_front b table key cs) (codes "            default: " ++ goto_text (label_number b default)) (codes "\n")
      (behind (codes "\n") (joined (cases_front b table key cs) (codes "            default: ") (goto_text (label_number b default)) (app (joined (cases_front b table key cs) (codes "            default") (codes ": ") (keep_before (keep
      (app (joined (switch_word table ++ imm_text b key) (codes ") ") (codes "{\n") (keep (keep_before (app (switch_reread table) (imm_reread k key f)) (behind (codes " ") close_paren refl (λ rest. tt)) (λ rest p. refl)) (behind (codes "\n") open_brace refl (λ rest. tt)))) (cases_reread cs all))
      (in_front (codes "            ") (a_keyword kinds.Default (codes "default") refl refl refl) refl)) colon_space (λ rest p. refl))) (goto_reread default t n))) refl (λ rest. tt)))
      (in_front (codes "        ") close_brace refl)) (left (pass semicolon (none tt)))))
      (λ word x rs l o i z e. let all = all_values (case_of bytes s) (case_fault bytes s) rs cs z in (same_four stmt.Switch _ table _ key _ cs _ default o i.0 all.0 e.0, no_fault_after _ _ i.1 (no_fault_after _ _ all.1 e.1))))))

  -- All statements

  -- a word and an operand
  value_behind : {f : RawImm → RawStmt} (kind : Kind) (word : List ℕ) (value : Imm) → CanImm b value → is_plain_word word ≡ true → is_keyword word ≡ true → has (kind ∷ []) (kind_of tokens.Keyword word) ≡ true
      → IsReread bytes (nothing f <* sign kind <*> imm_as_written <* sign kinds.Semicolon) Anything (word ++ codes " " ++ imm_text b value ++ codes ";") (Applied (Is f) (λ r. ImmIs bytes s r value))
  value_behind {f = f} kind word value h p q e = keep_before (app (keep (none f) (keyword_space kind word p q e)) (imm_reread k value h)) semicolon (λ rest p. refl)

  returned : (value : Imm) → CanImm b value → IsReread bytes (either (nothing Some <*> imm_as_written) (nothing None)) Stop (imm_text b value) (λ v. (option_map (imm_of bytes s) v ≡ Some value) × (value_fault bytes s v ≡ None))
  returned value h = left (of_one (app (none Some) (imm_reread k value h)) (λ x i. (ap Some i.0, i.1)))

  pub stmt_reread : (x : Stmt) → CanStmt b x → StmtReread bytes b s x
  unfolding stmt_as_written call_stmt_as_written if_as_written goto_stmt return_as_written throw_as_written nop_stmt enter_as_written exit_as_written keywords is_keyword
  stmt_reread (stmt.Identity x g) (f, w, n) = identity_reread x g f.0 f.1 w
  stmt_reread (stmt.Assign p r) (f, w, n) = assign_reread p r f.0 f.1 f.2 w.0 w.1
  stmt_reread (stmt.Call invoke) (f, w, n) = past_four (past_two (other (left (of_one (keep (app (none stmts.Call) (invoke_reread k invoke f w)) semicolon) (λ c i. (ap stmt.Call i.0, i.1))))))
  stmt_reread (stmt.If l c r target) (f, w, n) = past_eight (left (of_four
      (app (behind (codes " ") (app (app_before (app (keep (none _) (keyword_space kinds.If (codes "if") refl refl refl)) (imm_reread k l (f.0, w.0))) (cond_reread c) (λ rest p. cond_stops c rest)) (imm_reread k r (f.1, w.1))) refl (λ rest. refl)) (goto_reread target f.2 n.0))
      (λ x t y u i o j e. (same_four stmt.If _ l _ c _ r _ target i.0 o j.0 e.0, no_fault_after _ _ i.1 (no_fault_after _ _ j.1 e.1)))))
  stmt_reread (stmt.Goto target) (f, w, n) = past_eight (other (left (of_one (app (none stmts.Goto) (goto_reread target f n.0)) (λ t e. (ap stmt.Goto e.0, e.1)))))
  stmt_reread (stmt.Switch table key cs default) (f, w, n) = let named = cases_named b cs default n in
      switched_reread table key cs default (f.0, w.0) (both_all (λ (c : Case). TargetFits b c.target × CaseIsWritten c) (λ (c : Case). IsNamed b c.target) cs (both_all (λ (c : Case). TargetFits b c.target) CaseIsWritten cs (all_first (λ (c : Case). TargetFits b c.target) cs f.1) w.1) named.0) f.2 named.1
  stmt_reread (stmt.Return None) (f, w, n) = past_eight (past_two (other (left (of_one
      (keep_before (app_before (keep (none stmts.Return) (a_keyword kinds.Return (codes "return") refl refl refl)) (before (other (none None)) (λ rest (p : WordStop rest). tt)) (λ rest p. p)) semicolon (λ rest p. refl))
      (λ v e. subst (λ u. StmtIs bytes s (stmts.Return u) (stmt.Return None)) (sym e) (refl, refl))))))
  stmt_reread (stmt.Return (Some value)) (f, w, n) = past_eight (past_two (other (left (of_one
      (keep_before (app (keep (none stmts.Return) (keyword_space kinds.Return (codes "return") refl refl refl)) (returned value (f, w))) semicolon (λ rest p. refl))
      (λ v e. (ap stmt.Return e.0, e.1))))))
  stmt_reread (stmt.Throw value) (f, w, n) = past_eight (past_four (left (of_one (value_behind kinds.Throw (codes "throw") value (f, w) refl refl refl) (λ x i. (ap stmt.Throw i.0, i.1)))))
  stmt_reread stmt.Nop (f, w, n) = past_eight (past_four (other (left (of_one
      (keep_before (app (none _) (a_keyword kinds.Nop (codes "nop") refl refl refl)) semicolon (λ rest p. refl)) (λ t o. (refl, refl))))))
  stmt_reread (stmt.Enter value) (f, w, n) = past_eight (past_four (past_two (left (of_one (value_behind kinds.Entermonitor (codes "entermonitor") value (f, w) refl refl refl) (λ x i. (ap stmt.Enter i.0, i.1))))))
  stmt_reread (stmt.Exit value) (f, w, n) = past_eight (past_four (past_two (other (of_one (value_behind kinds.Exitmonitor (codes "exitmonitor") value (f, w) refl refl refl) (λ x i. (ap stmt.Exit i.0, i.1))))))

  -- Catch clauses

  pub catch_reread : (c : Catch) → CanCatch b c → IsReread bytes catch Anything (catch_line b c) (λ r. CatchIs bytes s r c)
  unfolding catch catch_line catch_head keywords is_keyword
  catch_reread c (f, w, n) = of_four
      (keep_before (app (keep_before (app (keep_before (app (keep_before (app (keep (none _) (in_front (codes "        ") (keyword_space kinds.Catch (codes "catch") refl refl refl) refl)) (a_name c.class w))
      (in_front (codes " ") (keyword_space kinds.From (codes "from") refl refl refl) refl) (λ rest p. refl)) (target_reread c.from f.0 n.0))
      (in_front (codes " ") (keyword_space kinds.To (codes "to") refl refl refl) refl) (λ rest p. refl)) (end_reread c.to f.1 n.1.0))
      (in_front (codes " ") (keyword_space kinds.With (codes "with") refl refl refl) refl) (λ rest p. refl)) (target_reread c.with f.2 n.1.1.0)) (behind (codes "\n") semicolon refl (λ rest. tt)) (λ rest p. refl))
      (λ t x y z e i j l. (same_catch _ c.class _ c.from _ c.to _ c.with e i.0 j.0 l.0, no_fault_after _ _ i.1 (no_fault_after _ _ j.1 l.1)))
