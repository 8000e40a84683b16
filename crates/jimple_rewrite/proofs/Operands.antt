-- Types, signatures, operands and calls are read again.
-- Statements stand above, tokens below.
use Rattle.std.proofs.Common.{◌≡◌, ℕ, zero, suc, Bool, true, false, cond, ◌&&◌, List, [], ◌∷◌, ◌++◌, length, map, is_some, sym, ap, subst, refl, ◌∙◌, append_assoc, codes, Option, Some, None}
use Rattle.std.specs.List.{AllByRecursion, flat_map}
use Rattle.std.specs.Option.{option_map}
use Rattle.std.proofs.lemmas.Bool.{and_parts}
use Rattle.std.proofs.lemmas.List.{length-map}
use Rattle.clean_base.specs.declared.ids.LocalId.{LocalId}
use Rattle.jimple_lex.specs.Tokens.{IsToken}
use Rattle.jimple_lex.specs.declared.token.TokenKind.{TokenKind}
use Rattle.jimple_lex.specs.declared.token.TokenKind.TheVariants as tokens
use Rattle.jimple_tree.specs.Names.{is_one_of, primitives, name_text, quoted_name}
use Rattle.jimple_tree.specs.Operands.{brackets as bracket_text, base_text, type_text, types_text, sig_head, sig_text, field_sig_text, local_text, imm_text, args_text, kind_text, base_dot_text, invoke_text}
use Rattle.jimple_tree.specs.WellFormed.{LocalFits, ImmFits, BaseFits, InvokeFits}
use Rattle.jimple_tree.specs.declared.tree.Body.{Body}
use Rattle.jimple_tree.specs.declared.tree.FieldSig.{FieldSig}
use Rattle.jimple_tree.specs.declared.tree.Imm.{Imm}
use Rattle.jimple_tree.specs.declared.tree.Imm.TheVariants as imm
use Rattle.jimple_tree.specs.declared.tree.Invoke.{Invoke}
use Rattle.jimple_tree.specs.declared.tree.InvokeKind.{InvokeKind}
use Rattle.jimple_tree.specs.declared.tree.InvokeKind.TheVariants.{Static, Virtual, Interface, Special}
use Rattle.jimple_tree.specs.declared.tree.JType.{JType}
use Rattle.jimple_tree.specs.declared.tree.Sig.{Sig}
use Rattle.jimple_words.specs.declared.kind.Kind.TheVariants as kinds
use Rattle.jimple_words.specs.Kind.{Kinds, has}
use Rattle.jimple_words.specs.Kinds.{is_keyword, keywords}
use Rattle.jimple_words.specs.Sets as sets
use Rattle.jimple_grammar.specs.Lexemes.{kind_of}
use Rattle.jimple_grammar.specs.Grammar.{Grammar, token as one_token, both, plain, nothing, given, ends, times, ◌<*>◌, ◌<*◌, ◌*>◌}
use Rattle.jimple_grammar.specs.Forms.{sign, name, any_name, bracket_pair, brackets, typed, ty, several_types, params, sig, field_sig, static_callee, based_callee}
use Rattle.jimple_grammar.specs.AsWritten.{imm_as_written, next_imm_as_written, args_as_written, arguments_as_written, call_as_written, with_arguments}
use Rattle.jimple_grammar.specs.declared.lexeme.Lexeme.{Lexeme}
use Rattle.jimple_grammar.specs.declared.raw.RawCall.{RawCall}
use Rattle.jimple_grammar.specs.declared.raw.RawCallee.{RawCallee}
use Rattle.jimple_grammar.specs.declared.raw.RawImm.{RawImm}
use Rattle.jimple_grammar.specs.declared.raw.RawImm.TheVariants as imms
use Rattle.jimple_grammar.specs.declared.raw.RawType.{RawType}
use Rattle.jimple_names.specs.declared.stop.NameFault.{NameFault}
use Rattle.jimple_names.specs.declared.stop.NameFault.TheVariants.{UnknownLocal}
use Rattle.jimple_names.specs.Faults.{◌or◌, unless, local_fault, imm_fault, base_fault, call_fault, first}
use Rattle.jimple_names.specs.Scope.{Scope, local_at, or_first}
use Rattle.jimple_names.specs.Texts.{name_of, type_of, sig_of, field_sig_of}
use Rattle.jimple_names.specs.Tree.{call_of, local_of, imm_of, invoke_of}
use Rattle.jimple_rewrite.proofs.Known.{Knows, local_name}
use Rattle.jimple_rewrite.proofs.IsName.{IsName, unquoted}
use Rattle.jimple_rewrite.proofs.Written as literal
use Rattle.jimple_rewrite.proofs.Written.{IsLiteral, null, number, string, TypeIsWritten, SigIsWritten, FieldSigIsWritten, ImmIsWritten, InvokeIsWritten}
use Rattle.jimple_rewrite.proofs.PlainWords as words
use Rattle.jimple_rewrite.proofs.PlainWords.{is_plain_word, in_words}
use Rattle.jimple_rewrite.proofs.Lists.{same_two, same_sig, same_field_sig, zipped_map, all_first, both_all}
use Rattle.jimple_rewrite.proofs.Follows.{Stop, WordStop, value_stop, word_stop}
use Rattle.jimple_rewrite.proofs.KindsOf.{base_kind, type_kind}
use Rattle.jimple_rewrite.proofs.Names.{name_unquoted, name_word, quoted_text}
use Rattle.jimple_rewrite.proofs.Reread.{IsReread, Anything, Is, Applied, Zipped, none, one, then, then_by, right, both_right, before, written, joined, app, app_before, keep, keep_before, pass, left, other, past_two, of_one, of_two, of_three, of_four, behind, listed, many_last, many_more, many_as, each_follows, each_alone}
use Rattle.jimple_rewrite.proofs.Signs as signs_end
use Rattle.jimple_rewrite.proofs.Tokens.{open_paren, close_paren, open_bracket, close_bracket, comma, comma_space, dot, colon_space, less, greater, keyword_space, a_name, any_word, quoted}
use Rattle.jimple_rewrite.proofs.Values.{number_token}

-- Types

base_named : (base : List ℕ) → IsName base → unquoted (base_text base) ≡ base
unfolding base_text
base_named base n = by_case (is_one_of primitives base) where
  by_case : (b : Bool) → unquoted (cond b base (name_text base)) ≡ base
  by_case true = name_unquoted base n
  by_case false = (name_word base n).named

primitive_token : (base rest : List ℕ) → is_one_of primitives base ≡ true → WordStop rest → IsToken tokens.Keyword base rest
unfolding is_one_of primitives is_keyword keywords
primitive_token base rest e a =
    let p = and_parts (is_plain_word base) (is_keyword base) (in_words (λ t. is_plain_word t && is_keyword t) primitives base refl e) in
    words.a_keyword base rest p.0 p.1 a

base_token : (base rest : List ℕ) → IsName base → WordStop rest → IsToken (base_kind (is_one_of primitives base)) (base_text base) rest
unfolding base_text
base_token base rest n a = by_case (is_one_of primitives base) refl where
  by_case : (b : Bool) → is_one_of primitives base ≡ b → IsToken (base_kind b) (cond b base (name_text base)) rest
  by_case true e = primitive_token base rest e a
  by_case false e = (name_word base n).token rest a

brackets_stop : (n : ℕ) (rest : List ℕ) → Stop rest → Stop (bracket_text n ++ rest)
unfolding bracket_text
brackets_stop zero rest s = s
brackets_stop (suc n) rest s = refl

-- a list with a comma in front of each item
pub commas_stop : {X : Type 0} (shown : X → List ℕ) (xs : List X) (rest : List ℕ) → Stop rest → Stop (flat_map (λ x. codes "," ++ shown x) xs ++ rest)
commas_stop shown = each_follows (λ x. codes "," ++ shown x) Stop (λ x rest. refl)

spaced_commas_stop : {X : Type 0} (shown : X → List ℕ) (xs : List X) (rest : List ℕ) → Stop rest → Stop (flat_map (λ x. codes ", " ++ shown x) xs ++ rest)
spaced_commas_stop shown = each_follows (λ x. codes ", " ++ shown x) Stop (λ x rest. refl)

abbrev Colon : List ℕ → Type 0
Colon rest = (more : List ℕ) × (rest ≡ 58 ∷ more)

module _ {bytes : List ℕ} where
  pub brackets_reread : (n : ℕ) → IsReread bytes brackets Anything (bracket_text n) (λ k. k ≡ n)
  unfolding brackets bracket_text
  brackets_reread n = many_as (λ pairs end. length pairs) (pairs n) (λ xs y e. e) where
    pairs : (m : ℕ) → IsReread bytes (plain listed (((kinds.OpenBracket ∷ []) ∷ []) ∷ []) bracket_pair ends) Anything (bracket_text m) (λ v. length v.0 ≡ m)
    pairs zero = many_last (none tt) (λ y e. refl)
    pairs (suc m) = many_more tt (pass open_bracket close_bracket) (pairs m) (λ rest p. tt) (λ x e. refl) (λ x xs y e l. ap suc l)

  -- a type whose base is of these kinds
  pub type_by : (ks : Kinds) (t : JType) → TypeIsWritten t → has ks (kind_of (base_kind (is_one_of primitives t.base)) (base_text t.base)) ≡ true → IsReread bytes (both typed (one_token ks) brackets) Stop (type_text t) (λ r. type_of bytes r ≡ t)
  type_by ks t w h = both_right
      (then typed (one (base_kind (is_one_of primitives t.base)) (base_text t.base) h (λ rest a. base_token t.base rest w a)) (before (brackets_reread t.dims) (λ rest (s : Stop rest). tt)) (λ rest s. word_stop (bracket_text t.dims ++ rest) (brackets_stop t.dims rest s)))
      (λ base dims o e. same_two (λ (x : List ℕ) (n : ℕ). let u : JType = record { base = x; dims = n } in u) _ t.base _ t.dims (ap unquoted o.text ∙ base_named t.base w) e)

  pub type_reread : (t : JType) → TypeIsWritten t → IsReread bytes ty Stop (type_text t) (λ r. type_of bytes r ≡ t)
  unfolding ty
  type_reread t w = type_by sets.types t w (type_kind t.base)

  pub next_type : (t : JType) → TypeIsWritten t → IsReread bytes (sign kinds.Comma *> ty) Stop (codes "," ++ type_text t) (λ r. type_of bytes r ≡ t)
  next_type t w = pass comma (type_reread t w)

  pub params_reread : (types : List JType) → AllByRecursion TypeIsWritten types → IsReread bytes params Stop (types_text types) (λ rs. map (type_of bytes) rs ≡ types)
  unfolding params several_types
  params_reread [] all = other (before (right (none []) (λ rs e. ap (map (type_of bytes)) e)) (λ rest (s : Stop rest). tt))
  params_reread (t ∷ types) all = left (both_right
      (then (λ x xs. x ∷ xs) (type_reread t all.0) (many_as (λ xs end. xs) (each_alone (λ u. codes "," ++ type_text u) (λ r u. type_of bytes r ≡ u) TypeIsWritten next_type (λ u rest. refl) types all.1 Stop (λ rest s. s)) (λ xs y z. z)) (commas_stop type_text types))
      (λ r rs e z. same_two (λ (u : JType) us. u ∷ us) _ t _ types e (zipped_map (type_of bytes) rs types z)))

  -- Signatures

  sig_head_reread : {A : Type 0} (f : Lexeme → RawType → Lexeme → A) (class : List ℕ) (type : JType) (n : List ℕ) → IsName class → TypeIsWritten type → IsName n
      → IsReread bytes (nothing f <* sign kinds.Less <*> name <* sign kinds.Colon <*> ty <*> any_name) WordStop (sig_head class type n)
      (Applied (Applied (Applied (Is f) (λ t. name_of bytes t ≡ class)) (λ r. type_of bytes r ≡ type)) (λ t. name_of bytes t ≡ n))
  sig_head_reread f class type n c w i = app (behind (codes " ") (app (keep_before
      (app_before (keep (none f) less) (before (quoted class c) (λ rest (d : Colon rest). subst WordStop (sym d.1) refl)) (λ rest d. subst (λ r. IsToken tokens.Sign (codes "<") (quoted_name class ++ r)) (sym d.1) (signs_end.less (quoted_name class) d.0 (quoted_text class c).joined)))
      colon_space (λ rest p. (32 ∷ rest, refl))) (type_reread type w)) refl (λ rest. refl)) (any_word n i)

  pub sig_reread : (s : Sig) → SigIsWritten s → IsReread bytes sig Stop (sig_text s) (λ r. sig_of bytes r ≡ s)
  unfolding sig
  sig_reread s w = of_four
      (joined (sig_head s.class s.result s.name ++ codes "(" ++ types_text s.params) (codes ")") (codes ">") (keep (keep_before (app (keep_before (sig_head_reread _ s.class s.result s.name w.class w.returned w.name) open_paren (λ rest p. refl)) (params_reread s.params w.params)) close_paren (λ rest p. refl)) greater))
      (λ class result n ps c r m p. same_sig _ s.class _ s.result _ s.name _ s.params c r m p)

  pub field_sig_reread : (s : FieldSig) → FieldSigIsWritten s → IsReread bytes field_sig Stop (field_sig_text s) (λ r. field_sig_of bytes r ≡ s)
  unfolding field_sig
  field_sig_reread s w = of_three (keep_before (sig_head_reread _ s.class s.ty s.name w.class w.type w.name) greater (λ rest p. refl))
      (λ class type n c t m. same_field_sig _ s.class _ s.ty _ s.name c t m)

-- Operands and calls

pub no_fault_after : (a b : Option NameFault) → a ≡ None → b ≡ None → (a or b) ≡ None
no_fault_after a b e f = rw (e, f) refl

-- the values of the items of a list, and no fault in the list where there is none in its items
pub all_values : {R X : Type 0} (value : R → X) (fault : R → Option NameFault) (rs : List R) (xs : List X) → Zipped (λ r x. (value r ≡ x) × (fault r ≡ None)) rs xs → (map value rs ≡ xs) × (first fault rs ≡ None)
all_values value fault [] [] z = (refl, refl)
all_values value fault [] (x ∷ xs) z = absurd z
all_values value fault (r ∷ rs) [] z = absurd z
all_values {X = X} value fault (r ∷ rs) (x ∷ xs) z = let later = all_values value fault rs xs z.1 in (same_two (λ (y : X) ys. y ∷ ys) _ x _ xs z.0.0 later.0, no_fault_after _ _ z.0.1 later.1)

same_invoke : (kind kind2 : InvokeKind) (base base2 : Option LocalId) (sig sig2 : Sig) (args args2 : List Imm) → kind ≡ kind2 → base ≡ base2 → sig ≡ sig2 → args ≡ args2
    → (let i : Invoke = record { kind = kind; base = base; sig = sig; args = args } in i) ≡ (let j : Invoke = record { kind = kind2; base = base2; sig = sig2; args = args2 } in j)
same_invoke kind kind2 base base2 sig sig2 args args2 k b s a = rw (k, b, s, a) refl

-- The tree has the value, and no name in it breaks a rule.
module _ (bytes : List ℕ) (s : Scope) where
  abbrev pub LocalIs : Lexeme → LocalId → Type 0
  LocalIs t x = (local_of bytes s t ≡ x) × (local_fault bytes s t ≡ None)

  abbrev pub ImmIs : RawImm → Imm → Type 0
  ImmIs r i = (imm_of bytes s r ≡ i) × (imm_fault bytes s r ≡ None)

  record CalleeIs (i : Invoke) (r : RawCallee) : Type 0 where
    kind : call_of r.word.kind ≡ i.kind
    base : option_map (local_of bytes s) r.base ≡ i.base
    fault : base_fault bytes s r.base ≡ None
    signature : sig_of bytes r.sig ≡ i.sig

  abbrev pub InvokeIs : RawCall → Invoke → Type 0
  InvokeIs r i = (invoke_of bytes s r ≡ i) × (call_fault bytes s r ≡ None)

abbrev pub CanImm : Body → Imm → Type 0
CanImm b i = ImmFits b i × ImmIsWritten i

module _ {bytes : List ℕ} {b : Body} {s : Scope} (k : Knows b s) where
  pub local_reread : (x : LocalId) → LocalFits b x → IsReread bytes name WordStop (local_text b x) (λ t. LocalIs bytes s t x)
  local_reread x f = right (a_name (local_name b x.0) (k.name x.0 f)) (λ t e.
      let found : local_at s.locals (name_of bytes t) ≡ Some x.0 = ap (local_at s.locals) e ∙ k.local x.0 f in
      (ap (λ (o : Option ℕ). let y : LocalId = record { 0 = or_first o } in y) found, ap (λ (o : Option ℕ). unless (is_some o) (UnknownLocal t.from)) found))

  constant_reread : (kind : TokenKind) (word : List ℕ) → has sets.constants (kind_of kind word) ≡ true → ((rest : List ℕ) → Stop rest → IsToken kind word rest) → IsReread bytes imm_as_written Stop word (λ r. ImmIs bytes s r (imm.Literal word))
  unfolding imm_as_written
  constant_reread kind word h i = other (left (of_one (app (none imms.Literal) (one kind word h i)) (λ t o. (ap imm.Literal o.text, refl))))

  literal_reread : (word : List ℕ) → IsLiteral word → IsReread bytes imm_as_written Stop word (λ r. ImmIs bytes s r (imm.Literal word))
  unfolding imm_as_written keywords is_keyword
  literal_reread word (null e) = subst (λ w. IsReread bytes imm_as_written Stop w (λ r. ImmIs bytes s r (imm.Literal w))) (sym e)
      (constant_reread tokens.Keyword (codes "null") refl (λ rest p. words.a_keyword (codes "null") rest refl refl (word_stop rest p)))
  literal_reread word (number n) = constant_reread tokens.Number word refl (λ rest p. number_token word rest n (value_stop rest p))
  literal_reread word (string w) = constant_reread tokens.Text word refl (λ rest p. w)
  literal_reread word (literal.class of e w) = subst (λ u. IsReread bytes imm_as_written Stop u (λ r. ImmIs bytes s r (imm.Literal u))) (sym e)
      (past_two (of_one (app (keep (none imms.Class) (keyword_space kinds.Class (codes "class") refl refl refl)) (one tokens.Text of refl (λ rest (p : Stop rest). w))) (λ t o. (ap (λ (u : List ℕ). imm.Literal (codes "class " ++ u)) o.text, refl))))

  pub imm_reread : (i : Imm) → ImmFits b i × ImmIsWritten i → IsReread bytes imm_as_written Stop (imm_text b i) (λ r. ImmIs bytes s r i)
  unfolding imm_as_written
  imm_reread (imm.Local x) f = left (of_one (app (none imms.Local) (before (local_reread x f.0) word_stop)) (λ t l. (ap imm.Local l.0, l.1)))
  imm_reread (imm.Literal word) f = literal_reread word f.1

  next_imm : (i : Imm) → CanImm b i → IsReread bytes next_imm_as_written Stop (codes ", " ++ imm_text b i) (λ r. ImmIs bytes s r i)
  next_imm i f = pass comma_space (imm_reread i f)

  later_args : (args : List Imm) → AllByRecursion (CanImm b) args → IsReread bytes (times (length args) next_imm_as_written) Stop (flat_map (λ i. codes ", " ++ imm_text b i) args) (λ rs. Zipped (ImmIs bytes s) rs args)
  later_args [] all = before (right (none []) (λ rs e. subst (λ us. Zipped (ImmIs bytes s) us []) (sym e) tt)) (λ rest (p : Stop rest). tt)
  later_args (i ∷ args) all = both_right (then (λ y ys. y ∷ ys) (next_imm i all.0) (later_args args all.1) (spaced_commas_stop (imm_text b) args)) (λ r rs e z. (e, z))

  args_reread : (args : List Imm) → AllByRecursion (CanImm b) args → IsReread bytes (args_as_written (length args)) Stop (args_text b args) (λ rs. Zipped (ImmIs bytes s) rs args)
  unfolding args_as_written
  args_reread [] all = before (right (none []) (λ rs e. subst (λ us. Zipped (ImmIs bytes s) us []) (sym e) tt)) (λ rest (p : Stop rest). tt)
  args_reread (i ∷ args) all = both_right (then (λ y ys. y ∷ ys) (imm_reread i all.0) (later_args args all.1) (spaced_commas_stop (imm_text b) args)) (λ r rs e z. (e, z))

  arguments : (args : List Imm) → AllByRecursion (CanImm b) args → IsReread bytes (sign kinds.OpenParen *> args_as_written (length args) <* sign kinds.CloseParen) Anything (codes "(" ++ args_text b args ++ codes ")") (λ rs. Zipped (ImmIs bytes s) rs args)
  arguments args all = keep_before (pass open_paren (args_reread args all)) close_paren (λ rest p. refl)

  called : (i : Invoke) (callee : Grammar RawCallee) (front : List ℕ) → length i.args ≡ length i.sig.params → AllByRecursion (CanImm b) i.args → IsReread bytes callee Stop front (CalleeIs bytes s i)
      → IsReread bytes (given with_arguments callee arguments_as_written) Anything (front ++ codes "(" ++ args_text b i.args ++ codes ")") (λ r. InvokeIs bytes s r i)
  unfolding arguments_as_written
  called i callee front n all c = written (sym (append_assoc (front ++ codes "(") (args_text b i.args) (codes ")") ∙ append_assoc front (codes "(") (args_text b i.args ++ codes ")")))
      (both_right (then_by with_arguments (λ (r : RawCallee). length r.sig.params) (length i.args) (λ n. sign kinds.OpenParen *> args_as_written n <* sign kinds.CloseParen) c (arguments i.args all) (λ rest p. refl) (λ r is. n ∙ sym (ap (λ (g : Sig). length g.params) is.signature) ∙ length-map r.sig.params (type_of bytes)))
      (λ r rs is z. let args = all_values (imm_of bytes s) (imm_fault bytes s) rs i.args z in
      (same_invoke _ i.kind _ i.base _ i.sig _ i.args is.kind is.base is.signature args.0, no_fault_after _ _ is.fault args.1)))

  call_word : (ks : Kinds) (word : List ℕ) (kind : InvokeKind) → is_plain_word word ≡ true → is_keyword word ≡ true → has ks (kind_of tokens.Keyword word) ≡ true → call_of (kind_of tokens.Keyword word) ≡ kind
      → IsReread bytes (one_token ks) Anything (word ++ codes " ") (λ t. call_of t.kind ≡ kind)
  call_word ks word kind p q h e = right (behind (codes " ") (one tokens.Keyword word h (λ rest a. words.a_keyword word rest p q a)) refl (λ rest. refl)) (λ t o. ap call_of o.kind ∙ e)

  static_call : (g : Sig) (args : List Imm) → SigIsWritten g → length args ≡ length g.params → AllByRecursion (CanImm b) args
      → (let i : Invoke = record { kind = Static; base = None; sig = g; args = args } in IsReread bytes call_as_written Anything (invoke_text b i) (λ r. InvokeIs bytes s r i))
  unfolding call_as_written keywords is_keyword
  static_call g args w n all = let i : Invoke = record { kind = Static; base = None; sig = g; args = args } in
      left (called i _ (codes "staticinvoke " ++ sig_text g) n all
      (of_two (app (app (none static_callee) (call_word (kinds.Staticinvoke ∷ []) (codes "staticinvoke") Static refl refl refl refl)) (sig_reread g w)) (λ t r e is. record { kind = e; base = refl; fault = refl; signature = is })))

  based_call : (kind : InvokeKind) (x : LocalId) (g : Sig) (args : List Imm) → LocalFits b x → SigIsWritten g → length args ≡ length g.params → AllByRecursion (CanImm b) args
      → IsReread bytes (one_token sets.based_calls) Anything (kind_text kind) (λ t. call_of t.kind ≡ kind)
      → (let i : Invoke = record { kind = kind; base = Some x; sig = g; args = args } in IsReread bytes call_as_written Anything (invoke_text b i) (λ r. InvokeIs bytes s r i))
  unfolding call_as_written
  based_call kind x g args f w n all word = let i : Invoke = record { kind = kind; base = Some x; sig = g; args = args } in
      other (called i _ (kind_text kind ++ base_dot_text b (Some x) ++ sig_text g) n all
      (of_three (app_before (joined (kind_text kind) (local_text b x) (codes ".") (keep_before (app (app (none based_callee) word) (local_reread x f)) dot (λ rest d. d))) (sig_reread g w) (λ rest q. refl))
      (λ t x r e l is. record { kind = e; base = ap Some l.0; fault = l.1; signature = is })))

  call_by : (kind : InvokeKind) (base : Option LocalId) (g : Sig) (args : List Imm) → BaseFits b kind base → SigIsWritten g → length args ≡ length g.params → AllByRecursion (CanImm b) args
      → (let i : Invoke = record { kind = kind; base = base; sig = g; args = args } in IsReread bytes call_as_written Anything (invoke_text b i) (λ r. InvokeIs bytes s r i))
  unfolding keywords is_keyword
  call_by Static None g args f w n all = static_call g args w n all
  call_by Static (Some x) g args f w n all = absurd f
  call_by Virtual None g args f w n all = absurd f
  call_by Virtual (Some x) g args f w n all = based_call Virtual x g args f w n all (call_word sets.based_calls (codes "virtualinvoke") Virtual refl refl refl refl)
  call_by Interface None g args f w n all = absurd f
  call_by Interface (Some x) g args f w n all = based_call Interface x g args f w n all (call_word sets.based_calls (codes "interfaceinvoke") Interface refl refl refl refl)
  call_by Special None g args f w n all = absurd f
  call_by Special (Some x) g args f w n all = based_call Special x g args f w n all (call_word sets.based_calls (codes "specialinvoke") Special refl refl refl refl)

  pub invoke_reread : (i : Invoke) → InvokeFits b i → InvokeIsWritten i → IsReread bytes call_as_written Anything (invoke_text b i) (λ r. InvokeIs bytes s r i)
  invoke_reread i f w = call_by i.kind i.base i.sig i.args f.0 w.sig f.1 (both_all (ImmFits b) ImmIsWritten i.args (all_first (ImmFits b) i.args f.2) w.args)
