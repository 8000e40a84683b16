-- Members: a key tells what the faults tell, and a step of the walk over them.
use Rattle.std.proofs.Common.{◌≡◌, ℕ, ◌+◌, ◌<◌, ◌==◌, Bool, true, false, nat_eq, cond, List, [], ◌∷◌, ◌++◌, length, map, take, drop, Option, None, refl, sym, ◌∙◌, ap, arith, rules, true≢false}
use Rattle.std.specs.List.{filter_map, list_any}
use Rattle.std.specs.Str.{bytes_eq}
use mathlib.Core.Bool.{◌&&◌, ◌||◌}
use lib.Pointwise.{pointwise, bytes_decides}
use Rattle.std.proofs.Math.ListN.{get_or}
use Rattle.std.proofs.lemmas.Slice.Eq.{bytes_eq-Decides}
use Rattle.std.proofs.lemmas.List.Elements.{filter_map-append}
use Rattle.std.proofs.lemmas.List.Folds.{list_any_more}
use Rattle.jimple_grammar.specs.declared.raw.RawHead.{RawHead}
use Rattle.jimple_grammar.specs.declared.raw.RawMember.{RawMember}
use Rattle.jimple_grammar.specs.declared.raw.RawMember.TheVariants as members
use Rattle.jimple_grammar.specs.declared.raw.RawType.{RawType}
use Rattle.jimple_names.specs.declared.members.Key.{Key}
use Rattle.jimple_names.specs.declared.stop.NameFault.{NameFault}
use Rattle.jimple_names.specs.declared.stop.NameStop.{NameStop}
use Rattle.jimple_names.specs.Texts.{name_of, type_of, same_type}
use Rattle.jimple_names.specs.Faults.{◌or◌, in_turn, double, same_member, member_fault}
use Rattle.jimple_names.specs.Walking.{Stopped}
use Rattle.jimple_names.specs.Keys.{same_type_key, same_key, is_method, head_in, type_key, types_in, has_key, inner_fault}
use Rattle.jimple_names.proofs.Stops.{stopped}
use Rattle.jimple_names.proofs.Turns.{or_none, more, turn_more, turn_fault}

and_true : (b : Bool) → (b && true) ≡ b
and_true true = refl
and_true false = refl

and_assoc : (a b c : Bool) → (a && (b && c)) ≡ ((a && b) && c)
and_assoc true b c = refl
and_assoc false b c = refl

same_text : (xs ys : List ℕ) → bytes_eq xs ys ≡ true → xs ≡ ys
same_text xs ys h = search (rules, bytes_eq-Decides)

equal_text : (xs ys : List ℕ) → xs ≡ ys → bytes_eq xs ys ≡ true
equal_text xs ys h = search (rules, bytes_eq-Decides)

bytes_flip : (xs ys : List ℕ) → pointwise nat_eq xs ys ≡ bytes_eq ys xs
bytes_flip xs ys = of (pointwise nat_eq xs ys) (bytes_eq ys xs) refl refl where
  of : (a b : Bool) → pointwise nat_eq xs ys ≡ a → bytes_eq ys xs ≡ b → pointwise nat_eq xs ys ≡ bytes_eq ys xs
  of true true p q = p ∙ sym q
  of false false p q = p ∙ sym q
  of true false p q = absurd (true≢false (sym (equal_text ys xs (sym ((bytes_decides xs ys).0 p))) ∙ q))
  of false true p q = absurd (true≢false (sym ((bytes_decides xs ys).1 (sym (same_text ys xs q))) ∙ p))

nat_flip : (m n : ℕ) → nat_eq m n ≡ (n == m)
nat_flip m n = of (nat_eq m n) (n == m) refl refl where
  of : (a b : Bool) → nat_eq m n ≡ a → (n == m) ≡ b → nat_eq m n ≡ (n == m)
  of true true p q = p ∙ sym q
  of false false p q = p ∙ sym q
  of true false p q = absurd (search (rules, arith, p, q))
  of false true p q = absurd (search (rules, arith, p, q))

module _ (bytes : List ℕ) where
  type_flip : (a b : RawType) → same_type_key (type_key bytes a) (type_key bytes b) ≡ same_type (type_of bytes b) (type_of bytes a)
  type_flip a b = let e = bytes_flip (name_of bytes a.base) (name_of bytes b.base) in let f = nat_flip a.dims b.dims in rw (e, f) refl

  types_flip : (ps qs : List RawType) → pointwise same_type_key (map (type_key bytes) ps) (map (type_key bytes) qs) ≡ pointwise same_type (map (type_of bytes) qs) (map (type_of bytes) ps)
  types_flip [] [] = refl
  types_flip [] (q ∷ qs) = refl
  types_flip (p ∷ ps) [] = refl
  types_flip (p ∷ ps) (q ∷ qs) = let e = type_flip p q in let f = types_flip ps qs in rw (e, f) refl

  same_parts_is : (x m : RawMember) (q : Key) → q.is_method ≡ is_method x → q.name ≡ name_of bytes (head_in x).name → q.types.items ≡ types_in bytes x → has_key bytes q m ≡ same_member bytes x m
  same_parts_is (members.Field h) (members.Field k) q e f g =
      let n = bytes_flip (name_of bytes k.name) (name_of bytes h.name) in
      let t = type_flip k.ty h.ty in
      rw (e, f, g) (rw (n, t) (ap (λ (b : Bool). bytes_eq (name_of bytes h.name) (name_of bytes k.name) && b) (and_true (same_type (type_of bytes h.ty) (type_of bytes k.ty)))))
  same_parts_is (members.Field h) (members.Method k n) q e f g = rw e refl
  same_parts_is (members.Method h m) (members.Field k) q e f g = rw e refl
  same_parts_is (members.Method h m) (members.Method k n) q e f g =
      let s = bytes_flip (name_of bytes k.name) (name_of bytes h.name) in
      let t = type_flip k.ty h.ty in
      let u = types_flip n.params m.params in
      rw (e, f, g) (rw (s, t, u) (and_assoc (bytes_eq (name_of bytes h.name) (name_of bytes k.name)) (same_type (type_of bytes h.ty) (type_of bytes k.ty)) (pointwise same_type (map (type_of bytes) m.params) (map (type_of bytes) n.params))))

  any_same : (x : RawMember) (q : Key) → q.is_method ≡ is_method x → q.name ≡ name_of bytes (head_in x).name → q.types.items ≡ types_in bytes x → (ms : List RawMember) → list_any (has_key bytes q) ms ≡ list_any (same_member bytes x) ms
  any_same x q e f g [] = refl
  any_same x q e f g (m ∷ ms) = let a = same_parts_is x m q e f g in let b = any_same x q e f g ms in rw (a, b) refl

  parted : (before : List RawMember) (x : RawMember) → member_fault bytes before x ≡ (double (list_any (same_member bytes x) before) (head_in x).name or inner_fault bytes x)
  parted before (members.Field h) = sym (or_none (double (list_any (same_member bytes (members.Field h)) before) h.name))
  parted before (members.Method h m) = refl

  module _ (raw : List RawMember) (i : ℕ) (x : RawMember) (less : i < length raw) (at : x ≡ get_or raw i x) (key : Key) (method : key.is_method ≡ is_method x) (name : key.name ≡ name_of bytes (head_in x).name) (types : key.types.items ≡ types_in bytes x) where
    turned : (a b : Bool) → cond a true b ≡ (b || a)
    turned true true = refl
    turned true false = refl
    turned false true = refl
    turned false false = refl

    pub seen_more : (q : Key) (before after : Bool) → before ≡ list_any (has_key bytes q) (take i raw) → after ≡ cond (same_key key q) true before → after ≡ list_any (has_key bytes q) (take (i + 1) raw)
    seen_more q before after was is =
        let own : same_key key q ≡ has_key bytes q x = rw (method, name, types) refl in
        is ∙ turned (same_key key q) before ∙ ap (λ (b : Bool). b || same_key key q) was ∙ ap (λ (b : Bool). list_any (has_key bytes q) (take i raw) || b) (own ∙ ap (has_key bytes q) at)
        ∙ sym (list_any_more (has_key bytes q) raw i x less)

    module _ (front : RawHead) (front_is : front ≡ head_in x) (again : Bool) (was : again ≡ list_any (has_key bytes key) (take i raw)) (total : Option NameFault) (is : total ≡ in_turn (member_fault bytes) (take i raw) (drop i raw)) where
      own_fault : member_fault bytes (take i raw) x ≡ (double again front.name or inner_fault bytes x)
      own_fault = parted (take i raw) x ∙ ap (λ (b : Bool). double b (head_in x).name or inner_fault bytes x) (sym (was ∙ any_same x key method name types (take i raw))) ∙ ap (λ (h : RawHead). double again h.name or inner_fault bytes x) (sym front_is)

      pub name_stop : (e : NameStop) → Stopped e (double again front.name) → Stopped e total
      name_stop e h = stopped e (double again front.name) total (λ f some. turn_fault raw i x less at (member_fault bytes) [] total is f (own_fault ∙ ap (λ (o : Option NameFault). o or inner_fault bytes x) some)) h

      module _ (none : double again front.name ≡ None) where
        left : member_fault bytes (take i raw) x ≡ inner_fault bytes x
        left = own_fault ∙ ap (λ (o : Option NameFault). o or inner_fault bytes x) none

        pub inner_stop : (e : NameStop) → Stopped e (inner_fault bytes x) → Stopped e total
        inner_stop e h = stopped e (inner_fault bytes x) total (λ f some. turn_fault raw i x less at (member_fault bytes) [] total is f (left ∙ some)) h

        pub fault_more : inner_fault bytes x ≡ None → total ≡ in_turn (member_fault bytes) (take (i + 1) raw) (drop (i + 1) raw)
        fault_more clean = turn_more raw i x less at (member_fault bytes) [] total is (left ∙ clean)

pub kept_more : {A B : Type 0} (f : A → Option B) (xs : List A) (i : ℕ) (x : A) → i < length xs → x ≡ get_or xs i x → (now next : List B) → now ≡ filter_map f (take i xs) → next ≡ now ++ filter_map f (x ∷ []) → next ≡ filter_map f (take (i + 1) xs)
kept_more f xs i x less at now next is e = e ∙ ap (λ ys. ys ++ filter_map f (x ∷ [])) is ∙ sym (ap (filter_map f) (more xs i x less at) ∙ filter_map-append f (take i xs) (x ∷ []))
