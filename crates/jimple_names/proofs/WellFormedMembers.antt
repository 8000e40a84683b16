-- Members among which no fault is found: fields and methods that differ, and methods that are well formed.
use Rattle.std.proofs.Common.{◌≡◌, ℕ, true, false, ◌==◌, List, [], ◌∷◌, map, All, Contains, Option, Some, None, filter_map, refl, sym, ◌∙◌, ap, subst, arith, true≢false}
use Rattle.std.specs.List.{list_any}
use Rattle.std.specs.Option.{option_map}
use Rattle.std.specs.Str.{bytes_eq}
use lib.Pointwise.{pointwise, bytes_decides}
use Rattle.std.proofs.lemmas.Bool.{eq-eqb, and_from}
use Rattle.std.proofs.lemmas.List.{length-map}
use Rattle.jimple_tree.specs.WellFormed.{OptionalBodyFits, MethodFits, AreDistinct, field_key, method_key}
use Rattle.jimple_tree.specs.declared.tree.Field.{Field}
use Rattle.jimple_tree.specs.declared.tree.JType.{JType}
use Rattle.jimple_tree.specs.declared.tree.Method.{Method}
use Rattle.jimple_lex.specs.declared.token.Token.{Token}
use Rattle.jimple_grammar.specs.Lexemes.{lexemes}
use Rattle.jimple_grammar.specs.Fits as raw
use Rattle.jimple_grammar.specs.declared.raw.RawBody.{RawBody}
use Rattle.jimple_grammar.specs.declared.raw.RawHead.{RawHead}
use Rattle.jimple_grammar.specs.declared.raw.RawMember.{RawMember}
use Rattle.jimple_grammar.specs.declared.raw.RawMember.TheVariants as members
use Rattle.jimple_grammar.specs.declared.raw.RawMethod.{RawMethod}
use Rattle.jimple_names.specs.Texts.{name_of, type_of, same_type}
use Rattle.jimple_names.specs.Tree.{body_of, field_of, method_of, field_in, method_in}
use Rattle.jimple_names.specs.Faults.{in_turn, double, same_head, same_member, optional_body_fault, member_fault}
use Rattle.jimple_names.proofs.WellFormedParts.{none_some, or_none, double_none, each_in_turn, distinct_in_turn}
use Rattle.jimple_names.proofs.WellFormedBodies.{body_fits}

-- One and the same

same_text : (xs ys : List ℕ) → xs ≡ ys → bytes_eq xs ys ≡ true
same_text xs ys e = (bytes_decides xs ys).1 e

one_type : (a b : JType) → a ≡ b → same_type a b ≡ true
one_type a b e = and_from (bytes_eq a.base b.base) (a.dims == b.dims) (same_text a.base b.base (ap (λ (t : JType). t.base) e)) (eq-eqb a.dims b.dims (ap (λ (t : JType). t.dims) e))

own_types : (ts : List JType) → pointwise same_type ts ts ≡ true
own_types [] = refl
own_types (t ∷ ts) = and_from (same_type t t) (pointwise same_type ts ts) (one_type t t refl) (own_types ts)

one_types : (ts us : List JType) → ts ≡ us → pointwise same_type ts us ≡ true
one_types ts us e = subst (λ vs. pointwise same_type ts vs ≡ true) e (own_types ts)

one_head : (bytes : List ℕ) (h k : RawHead) → name_of bytes h.name ≡ name_of bytes k.name → type_of bytes h.ty ≡ type_of bytes k.ty → same_head bytes h k ≡ true
one_head bytes h k name ty = and_from (bytes_eq (name_of bytes h.name) (name_of bytes k.name)) (same_type (type_of bytes h.ty) (type_of bytes k.ty)) (same_text (name_of bytes h.name) (name_of bytes k.name) name) (one_type (type_of bytes h.ty) (type_of bytes k.ty) ty)

some_is : {A : Type 0} (x y : A) → ◌≡◌ {A = Option A} (Some x) (Some y) → x ≡ y
some_is x y e = cc

module _ (bytes : List ℕ) where
  field_told : (x w : RawMember) (y z : Field) → field_in bytes x ≡ Some y → field_in bytes w ≡ Some z → same_member bytes x w ≡ false → field_key z ≡ field_key y → ⊥
  field_told (members.Field h) (members.Field k) y z is on apart key =
      let same : field_key (field_of bytes k) ≡ field_key (field_of bytes h) = ap field_key (some_is (field_of bytes k) z on) ∙ key ∙ sym (ap field_key (some_is (field_of bytes h) y is)) in
      true≢false (sym (one_head bytes h k (sym (ap (λ (q : List ℕ × JType). q.0) same)) (sym (ap (λ (q : List ℕ × JType). q.1) same))) ∙ apart)
  field_told (members.Field h) (members.Method k m) y z is on apart key = none_some z (sym on)
  field_told (members.Method h m) w y z is on apart key = none_some y (sym is)

  method_told : (x w : RawMember) (y z : Method) → method_in bytes x ≡ Some y → method_in bytes w ≡ Some z → same_member bytes x w ≡ false → method_key z ≡ method_key y → ⊥
  method_told (members.Method h m) (members.Method k n) y z is on apart key =
      let same : method_key (method_of bytes k n) ≡ method_key (method_of bytes h m) = ap method_key (some_is (method_of bytes k n) z on) ∙ key ∙ sym (ap method_key (some_is (method_of bytes h m) y is)) in
      let head = one_head bytes h k (sym (ap (λ (q : List ℕ × List JType × JType). q.0) same)) (sym (ap (λ (q : List ℕ × List JType × JType). q.2) same)) in
      let params = one_types (map (type_of bytes) m.params) (map (type_of bytes) n.params) (sym (ap (λ (q : List ℕ × List JType × JType). q.1) same)) in
      true≢false (sym (and_from (same_head bytes h k) (pointwise same_type (map (type_of bytes) m.params) (map (type_of bytes) n.params)) head params) ∙ apart)
  method_told (members.Method h m) (members.Field k) y z is on apart key = none_some z (sym on)
  method_told (members.Field h) w y z is on apart key = none_some y (sym is)

  -- a member without a fault is none of those before it
  none_before : (before : List RawMember) (x : RawMember) → member_fault bytes before x ≡ None → list_any (same_member bytes x) before ≡ false
  none_before before (members.Field h) e = double_none (list_any (same_member bytes (members.Field h)) before) h.name e
  none_before before (members.Method h m) e =
      let parts = or_none (double (list_any (same_member bytes (members.Method h m)) before) h.name) (optional_body_fault bytes m.body) e in
      double_none (list_any (same_member bytes (members.Method h m)) before) h.name parts.0

  pub fields_differ : (xs : List RawMember) → in_turn (member_fault bytes) [] xs ≡ None → AreDistinct field_key (filter_map (field_in bytes) xs)
  fields_differ xs e = distinct_in_turn (field_in bytes) field_key (same_member bytes) field_told (member_fault bytes) none_before xs [] e (λ i j d less inside. absurd (omega (arith, inside)))

  pub methods_differ : (xs : List RawMember) → in_turn (member_fault bytes) [] xs ≡ None → AreDistinct method_key (filter_map (method_in bytes) xs)
  methods_differ xs e = distinct_in_turn (method_in bytes) method_key (same_member bytes) method_told (member_fault bytes) none_before xs [] e (λ i j d less inside. absurd (omega (arith, inside)))

-- Methods

module _ (bytes : List ℕ) (ts : List Token) (n : ℕ) where
  optional_body_fits : (b : Option RawBody) → raw.OptionalBodyFits (Contains (lexemes bytes ts)) n b → optional_body_fault bytes b ≡ None → OptionalBodyFits (option_map (body_of bytes) b)
  optional_body_fits None h e = tt
  optional_body_fits (Some b) h e = body_fits bytes ts n b h e

  method_fits : (h : RawHead) (m : RawMethod) → raw.MethodFits (Contains (lexemes bytes ts)) n m → optional_body_fault bytes m.body ≡ None → MethodFits (method_of bytes h m)
  method_fits h m f e = record {
    params = let long = length-map m.params (type_of bytes) in let few = f.few in omega (arith, long, few);
    body = optional_body_fits m.body f.body e;
  }

  member_fits : (before : List RawMember) (x : RawMember) (y : Method) → raw.MemberFits (Contains (lexemes bytes ts)) n x → member_fault bytes before x ≡ None → method_in bytes x ≡ Some y → MethodFits y
  member_fits before (members.Field h) y f e is = absurd (none_some y (sym is))
  member_fits before (members.Method h m) y f e is =
      let parts = or_none (double (list_any (same_member bytes (members.Method h m)) before) h.name) (optional_body_fault bytes m.body) e in
      subst MethodFits (some_is (method_of bytes h m) y is) (method_fits h m f.1 parts.1)

  pub methods_fit : (xs : List RawMember) → All (raw.MemberFits (Contains (lexemes bytes ts)) n) xs → in_turn (member_fault bytes) [] xs ≡ None → All MethodFits (filter_map (method_in bytes) xs)
  methods_fit xs h e = each_in_turn (method_in bytes) (member_fault bytes) (raw.MemberFits (Contains (lexemes bytes ts)) n) MethodFits member_fits xs [] h e
