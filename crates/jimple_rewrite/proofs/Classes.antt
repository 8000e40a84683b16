-- The members of a class differ, and the class is read again.
-- The law of rewriting stands above, members below.
use Rattle.std.proofs.Common.{◌≡◌, ◌≢◌, ℕ, ◌≤◌, Bool, true, false, ◌||◌, ◌==◌, List, [], ◌∷◌, ◌++◌, length, map, sym, ap, subst, refl, ◌∙◌, arith, codes, Option, Some, None, append-nil, append_assoc, filter_map}
use Rattle.std.specs.List.{AllByRecursion, list_any, flat_map, cons_option}
use Rattle.std.specs.Str.{bytes_eq}
use lib.Pointwise.{pointwise}
use Rattle.std.proofs.lemmas.Bool.{and_parts, eqb-true, false_from_ne_true}
use Rattle.std.proofs.lemmas.Slice.Eq.{bytes_eq-Decides}
use Rattle.jimple_tree.specs.Canonical.{modifiers_text, names_clause, class_word, class_heading, field_line, method_text, canonical}
use Rattle.jimple_tree.specs.Names.{name_text}
use Rattle.jimple_tree.specs.WellFormed.{MethodFits, AreDistinct, field_key, method_key, IsWellFormed}
use Rattle.jimple_tree.specs.declared.tree.Class.{Class}
use Rattle.jimple_tree.specs.declared.tree.Field.{Field}
use Rattle.jimple_tree.specs.declared.tree.JType.{JType}
use Rattle.jimple_tree.specs.declared.tree.Method.{Method}
use Rattle.jimple_words.specs.declared.kind.Kind.TheVariants as kinds
use Rattle.jimple_words.specs.Kinds.{is_keyword, keywords}
use Rattle.jimple_grammar.specs.Grammar.{Grammar, both, plain}
use Rattle.jimple_grammar.specs.Forms.{name, modifier, implements, extends_one, extends_several, class_heading as class_front, interface_heading, heading_members, classed, before_class_modifier}
use Rattle.jimple_grammar.specs.AsWritten.{members_as_written, class_as_written, file_as_written}
use Rattle.jimple_grammar.specs.declared.lexeme.Lexeme.{Lexeme}
use Rattle.jimple_grammar.specs.declared.raw.RawClass.{RawClass}
use Rattle.jimple_grammar.specs.declared.raw.RawHead.{RawHead}
use Rattle.jimple_grammar.specs.declared.raw.RawHeading.{RawHeading}
use Rattle.jimple_grammar.specs.declared.raw.RawMember.{RawMember}
use Rattle.jimple_grammar.specs.declared.raw.RawMember.TheVariants as members
use Rattle.jimple_grammar.specs.declared.raw.RawMethod.{RawMethod}
use Rattle.jimple_names.specs.declared.stop.NameFault.{NameFault}
use Rattle.jimple_names.specs.Faults.{◌or◌, double, in_turn, same_head, same_member, optional_body_fault, member_fault, class_fault, names_fault}
use Rattle.jimple_names.specs.Texts.{name_of, type_of, same_type}
use Rattle.jimple_names.specs.Tree.{field_of, method_of, field_in, method_in, class_of}
use Rattle.jimple_rewrite.proofs.IsName.{IsName}
use Rattle.jimple_rewrite.proofs.Written.{IsModifier, FieldIsWritten, MethodIsWritten, ClassIsWritten}
use Rattle.jimple_rewrite.proofs.Follows.{WordStop}
use Rattle.jimple_rewrite.proofs.Lists.{same_two, same_three, all_first, both_all, zipped_map}
use Rattle.jimple_rewrite.proofs.Members.{FieldIs, MethodIs, clause_stop, modifier_reread, clause_reread, field_reread, method_reread}
use Rattle.jimple_rewrite.proofs.Operands.{no_fault_after}
use Rattle.jimple_rewrite.proofs.Reread.{IsReread, Anything, Both, Zipped, none, then, right, before, written, app, app_before, keep, pass, left, other, of_one, of_three, behind, in_front, many_last, many_more, many_as, each_before}
use Rattle.jimple_rewrite.proofs.Scopes.{before_differ}
use Rattle.jimple_rewrite.proofs.Tokens.{open_brace, close_brace, keyword_space, a_name}

-- One and the same

type_told : (a b : JType) → same_type a b ≡ true → a ≡ b
type_told a b e =
    let p = and_parts (bytes_eq a.base b.base) (a.dims == b.dims) e in
    let base : a.base ≡ b.base = (bytes_eq-Decides a.base b.base).0 p.0 in
    let dims : a.dims ≡ b.dims = eqb-true a.dims b.dims p.1 in
    same_two (λ (x : List ℕ) (n : ℕ). let t : JType = record { base = x; dims = n } in t) a.base b.base a.dims b.dims base dims

types_told : (ts us : List JType) → pointwise same_type ts us ≡ true → ts ≡ us
types_told [] [] e = refl
types_told [] (u ∷ us) e = absurd (let bad : false ≡ true = e in cc)
types_told (t ∷ ts) [] e = absurd (let bad : false ≡ true = e in cc)
types_told (t ∷ ts) (u ∷ us) e = let p = and_parts (same_type t u) (pointwise same_type ts us) e in same_two (λ (v : JType) (vs : List JType). v ∷ vs) t u ts us (type_told t u p.0) (types_told ts us p.1)

any_of_both : {X : Type 0} (test : X → Bool) (xs ys : List X) → list_any test xs ≡ false → list_any test ys ≡ false → list_any test (xs ++ ys) ≡ false
any_of_both test [] ys e f = f
any_of_both test (x ∷ xs) ys e f = of (test x) e (λ g. any_of_both test xs ys g f) where
  of : (c : Bool) → (c || list_any test xs) ≡ false → (list_any test xs ≡ false → list_any test (xs ++ ys) ≡ false) → (c || list_any test (xs ++ ys)) ≡ false
  of true g rec = absurd (let bad : true ≡ false = g in cc)
  of false g rec = rec g

zipped_push : {R X : Type 0} (Q : R → X → Type 0) (rs : List R) (xs : List X) (r : R) (x : X) → Zipped Q rs xs → Q r x → Zipped Q (rs ++ r ∷ []) (xs ++ x ∷ [])
zipped_push Q [] [] r x z q = (q, tt)
zipped_push Q [] (y ∷ xs) r x z q = absurd z
zipped_push Q (s ∷ rs) [] r x z q = absurd z
zipped_push Q (s ∷ rs) (y ∷ xs) r x z q = (z.0, zipped_push Q rs xs r x z.1 q)

or_assoc : (a b c : Option NameFault) → ((a or b) or c) ≡ (a or (b or c))
or_assoc None b c = refl
or_assoc (Some f) b c = refl

-- the first of two lists
in_turn_append : {A : Type 0} (f : List A → A → Option NameFault) (before xs ys : List A) → in_turn f before (xs ++ ys) ≡ (in_turn f before xs or in_turn f (before ++ xs) ys)
in_turn_append f before [] ys = ap (λ (zs : List _). in_turn f zs ys) (sym (append-nil before))
in_turn_append f before (x ∷ xs) ys =
    ap (λ (r : Option NameFault). f before x or r) (in_turn_append f (before ++ x ∷ []) xs ys ∙ ap (λ (zs : List _). in_turn f (before ++ x ∷ []) xs or in_turn f zs ys) (append_assoc before (x ∷ []) xs))
    ∙ sym (or_assoc (f before x) (in_turn f (before ++ x ∷ []) xs) (in_turn f (before ++ x ∷ xs) ys))

module _ (bytes : List ℕ) where
  head_told : (h k : RawHead) → same_head bytes h k ≡ true → (name_of bytes h.name ≡ name_of bytes k.name) × (type_of bytes h.ty ≡ type_of bytes k.ty)
  head_told h k e =
      let p = and_parts (bytes_eq (name_of bytes h.name) (name_of bytes k.name)) (same_type (type_of bytes h.ty) (type_of bytes k.ty)) e in
      ((bytes_eq-Decides (name_of bytes h.name) (name_of bytes k.name)).0 p.0, type_told (type_of bytes h.ty) (type_of bytes k.ty) p.1)

  -- Fields

  other_field : (h : RawHead) (x : Field) (r : RawMember) (d : Field) → field_of bytes h ≡ x → FieldIs bytes r d → field_key d ≢ field_key x → same_member bytes (members.Field h) r ≡ false
  other_field h x r d e is apart = false_from_ne_true (same_member bytes (members.Field h) r) (λ same.
      let told = head_told h is.0 (sym (ap (same_member bytes (members.Field h)) is.1) ∙ same) in
      let keys : field_key (field_of bytes is.0) ≡ field_key (field_of bytes h) = same_two (λ (n : List ℕ) (t : JType). (n, t)) _ _ _ _ (sym told.0) (sym told.1) in
      apart (sym (ap field_key is.2) ∙ keys ∙ ap field_key e))

  other_fields : (h : RawHead) (x : Field) → field_of bytes h ≡ x → (rs : List RawMember) (ds : List Field) → Zipped (FieldIs bytes) rs ds → AllByRecursion (λ d. field_key d ≢ field_key x) ds → list_any (same_member bytes (members.Field h)) rs ≡ false
  other_fields h x e [] [] z a = refl
  other_fields h x e [] (d ∷ ds) z a = absurd z
  other_fields h x e (r ∷ rs) [] z a = absurd z
  other_fields h x e (r ∷ rs) (d ∷ ds) z a = rw (other_field h x r d e z.0 a.0) (other_fields h x e rs ds z.1 a.1)

  fields_turn : (before rs : List RawMember) (done xs : List Field) → Zipped (FieldIs bytes) before done → Zipped (FieldIs bytes) rs xs → AreDistinct field_key (done ++ xs) → in_turn (member_fault bytes) before rs ≡ None
  fields_turn before [] done xs b z distinct = refl
  fields_turn before (r ∷ rs) done [] b z distinct = absurd z
  fields_turn before (r ∷ rs) done (x ∷ xs) b z distinct =
      let h : RawHead = z.0.0 in
      let none = other_fields h x z.0.2 before done b (before_differ field_key done x xs distinct) in
      let fine : member_fault bytes before r ≡ None = ap (member_fault bytes before) z.0.1 ∙ ap (λ (c : Bool). double c h.name) none in
      no_fault_after _ _ fine (fields_turn (before ++ r ∷ []) rs (done ++ x ∷ []) xs (zipped_push (FieldIs bytes) before done r x b z.0) z.1 (subst (AreDistinct field_key) (sym (append_assoc done (x ∷ []) xs)) distinct))

  -- Methods

  among_fields : (h : RawHead) (m : RawMethod) (rs : List RawMember) (ds : List Field) → Zipped (FieldIs bytes) rs ds → list_any (same_member bytes (members.Method h m)) rs ≡ false
  among_fields h m [] [] z = refl
  among_fields h m [] (d ∷ ds) z = absurd z
  among_fields h m (r ∷ rs) [] z = absurd z
  among_fields h m (r ∷ rs) (d ∷ ds) z = ap (λ (q : RawMember). same_member bytes (members.Method h m) q || list_any (same_member bytes (members.Method h m)) rs) z.0.1 ∙ among_fields h m rs ds z.1

  other_method : (h : RawHead) (m : RawMethod) (x : Method) (r : RawMember) (d : Method) → method_of bytes h m ≡ x → MethodIs bytes r d → method_key d ≢ method_key x → same_member bytes (members.Method h m) r ≡ false
  other_method h m x r d e is apart = false_from_ne_true (same_member bytes (members.Method h m) r) (λ same.
      let k : RawHead = is.0 in
      let n : RawMethod = is.1 in
      let p = and_parts (same_head bytes h k) (pointwise same_type (map (type_of bytes) m.params) (map (type_of bytes) n.params)) (sym (ap (same_member bytes (members.Method h m)) is.2) ∙ same) in
      let told = head_told h k p.0 in
      let params = types_told (map (type_of bytes) m.params) (map (type_of bytes) n.params) p.1 in
      let keys : method_key (method_of bytes k n) ≡ method_key (method_of bytes h m) = same_three (λ (a : List ℕ) (b : List JType) (c : JType). (a, b, c)) _ _ _ _ _ _ (sym told.0) (sym params) (sym told.1) in
      apart (sym (ap method_key is.3) ∙ keys ∙ ap method_key e))

  other_methods : (h : RawHead) (m : RawMethod) (x : Method) → method_of bytes h m ≡ x → (rs : List RawMember) (ds : List Method) → Zipped (MethodIs bytes) rs ds → AllByRecursion (λ d. method_key d ≢ method_key x) ds
      → list_any (same_member bytes (members.Method h m)) rs ≡ false
  other_methods h m x e [] [] z a = refl
  other_methods h m x e [] (d ∷ ds) z a = absurd z
  other_methods h m x e (r ∷ rs) [] z a = absurd z
  other_methods h m x e (r ∷ rs) (d ∷ ds) z a = rw (other_method h m x r d e z.0 a.0) (other_methods h m x e rs ds z.1 a.1)

  methods_turn : (front : List RawMember) (fields : List Field) → Zipped (FieldIs bytes) front fields → (before rs : List RawMember) (done xs : List Method) → Zipped (MethodIs bytes) before done → Zipped (MethodIs bytes) rs xs
      → AreDistinct method_key (done ++ xs) → in_turn (member_fault bytes) (front ++ before) rs ≡ None
  methods_turn front fields f before [] done xs b z distinct = refl
  methods_turn front fields f before (r ∷ rs) done [] b z distinct = absurd z
  methods_turn front fields f before (r ∷ rs) done (x ∷ xs) b z distinct =
      let h : RawHead = z.0.0 in
      let m : RawMethod = z.0.1 in
      let none = any_of_both (same_member bytes (members.Method h m)) front before (among_fields h m front fields f) (other_methods h m x z.0.3 before done b (before_differ method_key done x xs distinct)) in
      let fine : member_fault bytes (front ++ before) r ≡ None =
      ap (member_fault bytes (front ++ before)) z.0.2 ∙ ap (λ (c : Bool). double c h.name or optional_body_fault bytes m.body) none ∙ z.0.4 in
      no_fault_after _ _ fine
      (ap (λ (ms : List RawMember). in_turn (member_fault bytes) ms rs) (append_assoc front before (r ∷ []))
      ∙ methods_turn front fields f (before ++ r ∷ []) rs (done ++ x ∷ []) xs (zipped_push (MethodIs bytes) before done r x b z.0) z.1 (subst (AreDistinct method_key) (sym (append_assoc done (x ∷ []) xs)) distinct))

  members_turn : (fs ms : List RawMember) (fields : List Field) (methods : List Method) → Zipped (FieldIs bytes) fs fields → Zipped (MethodIs bytes) ms methods → AreDistinct field_key fields → AreDistinct method_key methods
      → in_turn (member_fault bytes) [] (fs ++ ms) ≡ None
  members_turn fs ms fields methods f m df dm =
      in_turn_append (member_fault bytes) [] fs ms
      ∙ no_fault_after _ _ (fields_turn [] fs [] fields tt f df)
      (subst (λ (front : List RawMember). in_turn (member_fault bytes) front ms ≡ None) (append-nil fs) (methods_turn fs fields f [] ms [] methods tt m dm))

  -- Their lists

  no_fields : (ms : List RawMember) (ys : List Method) → Zipped (MethodIs bytes) ms ys → filter_map (field_in bytes) ms ≡ []
  no_fields [] [] z = refl
  no_fields [] (y ∷ ys) z = absurd z
  no_fields (m ∷ ms) [] z = absurd z
  no_fields (m ∷ ms) (y ∷ ys) z = ap (λ (r : RawMember). cons_option (field_in bytes r) (filter_map (field_in bytes) ms)) z.0.2 ∙ no_fields ms ys z.1

  fields_of : (fs ms : List RawMember) (xs : List Field) (ys : List Method) → Zipped (FieldIs bytes) fs xs → Zipped (MethodIs bytes) ms ys → filter_map (field_in bytes) (fs ++ ms) ≡ xs
  fields_of [] ms [] ys f m = no_fields ms ys m
  fields_of [] ms (x ∷ xs) ys f m = absurd f
  fields_of (r ∷ fs) ms [] ys f m = absurd f
  fields_of (r ∷ fs) ms (x ∷ xs) ys f m =
      ap (λ (q : RawMember). cons_option (field_in bytes q) (filter_map (field_in bytes) (fs ++ ms))) f.0.1
      ∙ same_two (λ (g : Field) (gs : List Field). g ∷ gs) _ x _ xs f.0.2 (fields_of fs ms xs ys f.1 m)

  methods_alone : (ms : List RawMember) (ys : List Method) → Zipped (MethodIs bytes) ms ys → filter_map (method_in bytes) ms ≡ ys
  methods_alone [] [] z = refl
  methods_alone [] (y ∷ ys) z = absurd z
  methods_alone (m ∷ ms) [] z = absurd z
  methods_alone (m ∷ ms) (y ∷ ys) z =
      ap (λ (q : RawMember). cons_option (method_in bytes q) (filter_map (method_in bytes) ms)) z.0.2
      ∙ same_two (λ (g : Method) (gs : List Method). g ∷ gs) _ y _ ys z.0.3 (methods_alone ms ys z.1)

  methods_in : (fs ms : List RawMember) (xs : List Field) (ys : List Method) → Zipped (FieldIs bytes) fs xs → Zipped (MethodIs bytes) ms ys → filter_map (method_in bytes) (fs ++ ms) ≡ ys
  methods_in [] ms [] ys f m = methods_alone ms ys m
  methods_in [] ms (x ∷ xs) ys f m = absurd f
  methods_in (r ∷ fs) ms [] ys f m = absurd f
  methods_in (r ∷ fs) ms (x ∷ xs) ys f m = ap (λ (q : RawMember). cons_option (method_in bytes q) (filter_map (method_in bytes) (fs ++ ms))) f.0.1 ∙ methods_in fs ms xs ys f.1 m

-- Classes

same_class : (is_interface is_interface2 : Bool) (modifiers modifiers2 : List (List ℕ)) (name name2 : List ℕ) (extends extends2 implements implements2 : List (List ℕ)) (fields fields2 : List Field) (methods methods2 : List Method)
    → is_interface ≡ is_interface2 → modifiers ≡ modifiers2 → name ≡ name2 → extends ≡ extends2 → implements ≡ implements2 → fields ≡ fields2 → methods ≡ methods2
    → (let c : Class = record { modifiers = modifiers; is_interface = is_interface; name = name; extends = extends; implements = implements; fields = fields; methods = methods } in c)
    ≡ (let d : Class = record { modifiers = modifiers2; is_interface = is_interface2; name = name2; extends = extends2; implements = implements2; fields = fields2; methods = methods2 } in d)
same_class is_interface is_interface2 modifiers modifiers2 name name2 extends extends2 implements implements2 fields fields2 methods methods2 b m n e i f g = rw (b, m, n, e, i, f, g) refl

module _ (bytes : List ℕ) where
  -- the fields, and then the methods
  pub record MembersAre (fields : List Field) (methods : List Method) (rs : List RawMember) : Type 0 where
    front : List RawMember
    others : List RawMember
    is : rs ≡ front ++ others
    each_field : Zipped (FieldIs bytes) front fields
    each_method : Zipped (MethodIs bytes) others methods

  pub record HeadingIs (interface : Bool) (c : Class) (h : RawHeading) : Type 0 where
    kind : h.is_interface ≡ interface
    named : name_of bytes h.name ≡ c.name
    above : map (name_of bytes) h.extends ≡ c.extends
    besides : map (name_of bytes) h.implements ≡ c.implements

  raw_class_is : (c : Class) → IsWellFormed c → (r : RawClass) → map (name_of bytes) r.modifiers ≡ c.modifiers → HeadingIs c.is_interface c r.heading → MembersAre c.fields c.methods r.members
      → (class_of bytes r ≡ c) × (class_fault bytes r ≡ None)
  raw_class_is c f r m h a = (
    same_class _ c.is_interface _ c.modifiers _ c.name _ c.extends _ c.implements _ c.fields _ c.methods h.kind m h.named h.above h.besides
        (ap (filter_map (field_in bytes)) a.is ∙ fields_of bytes a.front a.others c.fields c.methods a.each_field a.each_method)
        (ap (filter_map (method_in bytes)) a.is ∙ methods_in bytes a.front a.others c.fields c.methods a.each_field a.each_method),
    ap (in_turn (member_fault bytes) []) a.is ∙ members_turn bytes a.front a.others c.fields c.methods a.each_field a.each_method f.fields f.methods,
  )

abbrev CanMethod : Method → Type 0
CanMethod m = MethodFits m × MethodIsWritten m

-- a heading behind its modifiers
abbrev front_text : Bool → Class → List ℕ
front_text interface c = class_word interface ++ name_text c.name ++ names_clause (codes " extends ") c.extends ++ names_clause (codes " implements ") c.implements

-- all members, in braces
abbrev inside_text : Class → List ℕ
inside_text c = codes "\n{\n" ++ (flat_map field_line c.fields ++ (flat_map method_text c.methods ++ codes "}\n"))

long : (c : Class) → modifiers_text c.modifiers ++ (front_text c.is_interface c ++ inside_text c) ≡ canonical c
unfolding class_heading
long c =
    let m = modifiers_text c.modifiers in
    let w = class_word c.is_interface in
    let n = name_text c.name in
    let e = names_clause (codes " extends ") c.extends in
    let i = names_clause (codes " implements ") c.implements in
    let f = flat_map field_line c.fields in
    let k = flat_map method_text c.methods in
    sym (append_assoc (class_heading c ++ codes "\n{\n" ++ f) k (codes "}\n") ∙ append_assoc (class_heading c ++ codes "\n{\n") f (k ++ codes "}\n") ∙ append_assoc (class_heading c) (codes "\n{\n") (f ++ (k ++ codes "}\n"))
    ∙ ap (λ t. t ++ inside_text c) (ap (λ t. t ++ i) (ap (λ t. t ++ e) (append_assoc m w n) ∙ append_assoc m (w ++ n) e) ∙ append_assoc m (w ++ n ++ e) i)
    ∙ append_assoc m (front_text c.is_interface c) (inside_text c))

module _ {bytes : List ℕ} where
  members_reread : (c : Class) → AllByRecursion FieldIsWritten c.fields → AllByRecursion CanMethod c.methods → IsReread bytes members_as_written Anything (inside_text c) (MembersAre bytes c.fields c.methods)
  unfolding members_as_written
  members_reread c w m = pass (in_front (codes "\n") (behind (codes "\n") open_brace refl (λ rest. tt)) refl) (many_as (λ xs end. xs)
      (each_before field_line (FieldIs bytes) FieldIsWritten field_reread (λ f rest. tt) c.fields w
      (each_before method_text (MethodIs bytes) CanMethod method_reread (λ x rest. tt) c.methods m (many_last {K = λ v. v.0 ≡ []} (behind (codes "\n") close_brace refl (λ rest. tt)) (λ y e. refl)) (λ rest p. tt)) (λ rest p. tt))
      (λ xs y h. record {
        front = h.front;
        others = h.others;
        is = h.is;
        each_field = h.each;
        each_method = subst (λ us. Zipped (MethodIs bytes) us c.methods) (sym (h.rest.is ∙ ap (λ us. h.rest.front ++ us) h.rest.rest ∙ append-nil h.rest.front)) h.rest.each;
      }))

  superclass_reread : (names : List (List ℕ)) → length names ≤ 1 → AllByRecursion IsName names → IsReread bytes extends_one WordStop (names_clause (codes " extends ") names) (λ ts. map (name_of bytes) ts ≡ names)
  unfolding extends_one keywords is_keyword
  superclass_reread [] h all = other (before (right (none []) (λ ts e. ap (map (name_of bytes)) e)) (λ rest (s : WordStop rest). tt))
  superclass_reread (n ∷ []) h all = written (ap (λ t. codes " extends " ++ t) (sym (append-nil (name_text n)))) (left (of_one (app (keep (none (λ x. x ∷ [])) (in_front (codes " ") (keyword_space kinds.Extends (codes "extends") refl refl refl) refl)) (a_name n all.0)) (λ t e. ap (λ (m : List ℕ). m ∷ []) e)))
  superclass_reread (n ∷ m ∷ ns) h all = absurd (omega (arith, h))

  headed_reread : {g : Grammar RawHeading} (interface : Bool) (c : Class) → IsWellFormed c → ClassIsWritten c
      → IsReread bytes g WordStop (front_text interface c) (HeadingIs bytes interface c)
      → IsReread bytes (plain classed before_class_modifier modifier (both heading_members g members_as_written)) Anything (modifiers_text c.modifiers ++ (front_text interface c ++ inside_text c))
      (λ r. (map (name_of bytes) r.modifiers ≡ c.modifiers) × HeadingIs bytes interface c r.heading × MembersAre bytes c.fields c.methods r.members)
  headed_reread interface c f w heading =
      let can = both_all MethodFits MethodIsWritten c.methods (all_first MethodFits c.methods f.each_method) w.methods in
      many_as classed (each_before (λ word. word ++ codes " ") (λ l word. name_of bytes l ≡ word) (λ word. IsModifier word) modifier_reread (λ word rest. tt)
      {H = λ v. (v.0 ≡ []) × Both heading_members (HeadingIs bytes interface c) (MembersAre bytes c.fields c.methods) v.1} c.modifiers w.modifiers
      (many_last (then heading_members heading (members_reread c w.fields can) (λ rest p. refl)) (λ y b. (refl, b))) (λ rest p. tt))
      (λ ls y h. let b = h.rest.1 in let both = subst (λ (z : RawHeading × List RawMember). HeadingIs bytes interface c z.0 × MembersAre bytes c.fields c.methods z.1) (sym b.is) (b.one, b.two) in
      (ap (map (name_of bytes)) (h.is ∙ ap (λ (ks : List Lexeme). h.front ++ ks) h.rest.0 ∙ append-nil h.front) ∙ zipped_map (name_of bytes) h.front c.modifiers h.each, both.0, both.1))

  class_by : (interface : Bool) (c : Class) → (interface ≡ false → length c.extends ≤ 1) → IsWellFormed c → ClassIsWritten c
      → IsReread bytes class_as_written Anything (modifiers_text c.modifiers ++ (front_text interface c ++ inside_text c))
      (λ r. (map (name_of bytes) r.modifiers ≡ c.modifiers) × HeadingIs bytes interface c r.heading × MembersAre bytes c.fields c.methods r.members)
  unfolding class_as_written class_front interface_heading implements extends_several keywords is_keyword
  class_by false c h f w = left (headed_reread false c f w (of_three
      (app_before (app_before (app (keep (none _) (keyword_space kinds.Class (codes "class") refl refl refl)) (a_name c.name w.name))
      (superclass_reread c.extends (h refl) w.extends) (clause_stop (codes "extends ") c.extends))
      (clause_reread kinds.Implements (codes "implements") c.implements refl refl refl w.implements) (clause_stop (codes "implements ") c.implements))
      (λ t us vs n e i. record { kind = refl; named = n; above = e; besides = i })))
  class_by true c h f w = other (headed_reread true c f w (of_three
      (app_before (app_before (app (keep (none _) (keyword_space kinds.Interface (codes "interface") refl refl refl)) (a_name c.name w.name))
      (clause_reread kinds.Extends (codes "extends") c.extends refl refl refl w.extends) (clause_stop (codes "extends ") c.extends))
      (clause_reread kinds.Implements (codes "implements") c.implements refl refl refl w.implements) (clause_stop (codes "implements ") c.implements))
      (λ t us vs n e i. record { kind = refl; named = n; above = e; besides = i })))

  class_reread : (c : Class) → IsWellFormed c → ClassIsWritten c → IsReread bytes class_as_written Anything (canonical c) (λ r. (class_of bytes r ≡ c) × (class_fault bytes r ≡ None))
  class_reread c f w = written (long c) (right (class_by c.is_interface c f.superclass f w) (λ r h. raw_class_is bytes c f r h.0 h.1 h.2))

  -- a file of one class
  pub file_reread : (c : Class) → IsWellFormed c → ClassIsWritten c → IsReread bytes file_as_written Anything (canonical c) (λ rs. (map (class_of bytes) rs ≡ c ∷ []) × (names_fault bytes rs ≡ None))
  unfolding file_as_written
  file_reread c f w = written (append-nil (canonical c)) (many_as (λ xs end. xs)
      (many_more tt {K = λ v. (map (class_of bytes) v.0 ≡ c ∷ []) × (names_fault bytes v.0 ≡ None)} (class_reread c f w) (many_last {K = λ v. v.0 ≡ []} (none tt) (λ y e. refl)) (λ rest p. tt) (λ r e. refl)
      (λ r rs y h e. subst (λ us. (map (class_of bytes) (r ∷ us) ≡ c ∷ []) × (names_fault bytes (r ∷ us) ≡ None)) (sym e) (ap (λ (d : Class). d ∷ []) h.0, no_fault_after _ _ h.1 refl)))
      (λ xs y h. h))
