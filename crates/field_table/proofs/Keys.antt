-- Names by number, and keys that are made of these numbers.
use Rattle.std.proofs.Common.{◌≡◌, ◌<◌, ◌+◌, ◌⊎◌, inl, inr, ℕ, Bool, true, false, nat_eq, List, [], ◌∷◌, ◌++◌, length, get_or, Some, None, is_some, refl, sym, subst, ◌∙◌, arith}
use Rattle.std.specs.Prelude.{Contains, Option, MatchOption, Result, Ok, Err, OnOk, OnErr, position}
use Rattle.std.specs.List.{list_any}
use Rattle.std.proofs.lemmas.List.{get_or_append_left, get_or_push, get_or_default, length-append}
use lib.Pointwise.{pointwise, bytes_decides}
use mathlib.Core.Bool.{◌&&◌}
use Rattle.clean_base.specs.Lists.{At, IsDistinct}
use Rattle.std.proofs.lemmas.Bool.{eq-eqb, eqb-true}
use Rattle.std.proofs.lemmas.List.Folds.{list_any_at}
use Rattle.class_table.proofs.Once.{one_place, position_at, any_lacks, insert_known, insert_new}
use Rattle.indexmap.specs.IndexSet.{insert_key}
use Rattle.field_table.specs.Fields.{same_type, same_sig}
use Rattle.field_table.specs.Sigs.{IsKey, AreSigs}
use Rattle.field_table.specs.declared.key.Key.{Key}
use Rattle.jimple_tree.specs.declared.tree.FieldSig.{FieldSig}
use Rattle.jimple_tree.specs.declared.tree.JType.{JType}

-- what a search for an item gives
module _ {X : Type 0} (eq : X → X → Bool) (tells : (x y : X) → (eq x y ≡ true → x ≡ y) × (x ≡ y → eq x y ≡ true)) where
  pub place_is : (xs : List X) (x : X) (r : Option ℕ) → r ≡ position (eq x) xs → is_some r ≡ list_any (eq x) xs → MatchOption r (¬ Contains xs x) (λ n. At xs n x)
  place_is xs x None at found = any_lacks eq tells xs x (sym found)
  place_is xs x (Some n) at found = position_at eq tells xs x n (sym at)

pub name_place : (names : List (List ℕ)) (name : List ℕ) (r : Option ℕ) → r ≡ position (pointwise nat_eq name) names → is_some r ≡ list_any (pointwise nat_eq name) names → MatchOption r (¬ Contains names name) (λ n. At names n name)
name_place = place_is (pointwise nat_eq) bytes_decides

-- a new item stands at the end
pub pushed_at : (names old : List (List ℕ)) (name : List ℕ) (n : ℕ) → names ≡ insert_key (pointwise nat_eq) old name → (Contains old name → ⊥) → n ≡ length old → At names n name
pushed_at names old name n is lacks at =
    let grown : names ≡ old ++ name ∷ [] = is ∙ insert_new (pointwise nat_eq) bytes_decides old name lacks in
    let long = length-append old (name ∷ []) in
    subst (λ (l : List (List ℕ)). At l n name) (sym grown) ((omega (arith, long, at)), get_or_push old name name n (sym at))

-- `==` on keys and signatures tells apart whatever differs
parts : (a b : Bool) → (a && b) ≡ true → (a ≡ true) × (b ≡ true)
parts true b h = (refl, h)
parts false b h = cc

joined : (a b : Bool) → a ≡ true → b ≡ true → (a && b) ≡ true
joined true b h k = k
joined false b h k = cc

abbrev pub same_key : Key → Key → Bool
same_key a b = nat_eq a.class b.class && (nat_eq a.base b.base && (nat_eq a.dims b.dims && nat_eq a.name b.name))

key_yes : (a b : Key) → same_key a b ≡ true → a ≡ b
key_yes a b h =
    let p = parts (nat_eq a.class b.class) _ h in
    let q = parts (nat_eq a.base b.base) _ p.1 in
    let r = parts (nat_eq a.dims b.dims) _ q.1 in
    let class = eqb-true a.class b.class p.0 in
    let base = eqb-true a.base b.base q.0 in
    let dims = eqb-true a.dims b.dims r.0 in
    let name = eqb-true a.name b.name r.1 in
    λ i. record { class = class i; base = base i; dims = dims i; name = name i }

key_self : (a : Key) → same_key a a ≡ true
key_self a = joined _ _ (eq-eqb a.class a.class refl) (joined _ _ (eq-eqb a.base a.base refl) (joined _ _ (eq-eqb a.dims a.dims refl) (eq-eqb a.name a.name refl)))

pub keys_decide : (a b : Key) → (same_key a b ≡ true → a ≡ b) × (a ≡ b → same_key a b ≡ true)
keys_decide a b = (key_yes a b, λ e. subst (λ c. same_key a c ≡ true) e (key_self a))

type_yes : (a b : JType) → same_type a b ≡ true → a ≡ b
type_yes a b h =
    let p = parts (pointwise nat_eq a.base b.base) (nat_eq a.dims b.dims) h in
    let base = (bytes_decides a.base b.base).0 p.0 in
    let dims = eqb-true a.dims b.dims p.1 in
    λ i. record { base = base i; dims = dims i }

sig_yes : (a b : FieldSig) → same_sig a b ≡ true → a ≡ b
sig_yes a b h =
    let p = parts (pointwise nat_eq a.class b.class) _ h in
    let q = parts (same_type a.ty b.ty) _ p.1 in
    let class = (bytes_decides a.class b.class).0 p.0 in
    let ty = type_yes a.ty b.ty q.0 in
    let name = (bytes_decides a.name b.name).0 q.1 in
    λ i. record { class = class i; ty = ty i; name = name i }

sig_self : (a : FieldSig) → same_sig a a ≡ true
sig_self a =
    joined _ _ ((bytes_decides a.class a.class).1 refl)
    (joined _ _ (joined _ _ ((bytes_decides a.ty.base a.ty.base).1 refl) (eq-eqb a.ty.dims a.ty.dims refl)) ((bytes_decides a.name a.name).1 refl))

pub sigs_decide : (a b : FieldSig) → (same_sig a b ≡ true → a ≡ b) × (a ≡ b → same_sig a b ≡ true)
sigs_decide a b = (sig_yes a b, λ e. subst (λ c. same_sig a c ≡ true) e (sig_self a))

-- an item that a list has passes the test
pub has_any : {X : Type 0} (eq : X → X → Bool) → ((x y : X) → (eq x y ≡ true → x ≡ y) × (x ≡ y → eq x y ≡ true)) → (xs : List X) (x : X) → Contains xs x → list_any (eq x) xs ≡ true
has_any eq tells xs x (k, below, at) = list_any_at (eq x) xs k x below ((tells x (get_or xs k x)).1 (sym at))

-- what goes into a set of signatures
pub sig_known : (ss : List FieldSig) (sig : FieldSig) → Contains ss sig → insert_key same_sig ss sig ≡ ss
sig_known ss sig has = insert_known same_sig sigs_decide ss sig (has_any same_sig sigs_decide ss sig has)

pub sig_new : (ss : List FieldSig) (sig : FieldSig) → (Contains ss sig → ⊥) → insert_key same_sig ss sig ≡ ss ++ sig ∷ []
sig_new = insert_new same_sig sigs_decide

-- an item at a place of a list, and at the same place of a longer one
pub at_longer : {X : Type 0} (xs more : List X) (i : ℕ) (x : X) → At xs i x → At (xs ++ more) i x
at_longer xs more i x (below, is) = ((let long = length-append xs more in omega (arith, long, below)), get_or_append_left xs more x i below ∙ is)

same_or_less : (k n : ℕ) → k < n + 1 → (k < n) ⊎ (k ≡ n)
same_or_less k n h = grind arith

at_either : {X : Type 0} (xs : List X) (x : X) (k : ℕ) (y : X) → At (xs ++ x ∷ []) k y → At xs k y ⊎ ((k ≡ length xs) × (x ≡ y))
at_either xs x k y (below, is) = elim (same_or_less k (length xs) (let long = length-append xs (x ∷ []) in omega (arith, long, below))) [
  | inl less ↦ inl (less, sym (get_or_append_left xs (x ∷ []) y k less) ∙ is)
  | inr here ↦ inr (here, sym (get_or_push xs x y k (sym here)) ∙ is)
]

one_item : {X : Type 0} (xs : List X) (i : ℕ) (x y : X) → At xs i x → At xs i y → x ≡ y
one_item xs i x y at there = sym at.1 ∙ get_or_default xs i x y there.0 ∙ there.1

-- a key names one signature, and a signature has one key
pub key_longer : (names more : List (List ℕ)) (key : Key) (sig : FieldSig) → IsKey names key sig → IsKey (names ++ more) key sig
key_longer names more key sig is = record {
  class = at_longer names more key.class sig.class is.class;
  base = at_longer names more key.base sig.ty.base is.base;
  dims = is.dims;
  name = at_longer names more key.name sig.name is.name;
}

pub one_sig : (names : List (List ℕ)) (key : Key) (a b : FieldSig) → IsKey names key a → IsKey names key b → a ≡ b
one_sig names key a b one two =
    let class = one_item names key.class a.class b.class one.class two.class in
    let base = one_item names key.base a.ty.base b.ty.base one.base two.base in
    let dims = sym one.dims ∙ two.dims in
    let name = one_item names key.name a.name b.name one.name two.name in
    λ i. record { class = class i; ty = record { base = base i; dims = dims i }; name = name i }

pub one_key : (names : List (List ℕ)) → IsDistinct names → (a b : Key) (sig : FieldSig) → IsKey names a sig → IsKey names b sig → a ≡ b
one_key names distinct a b sig one two =
    let class = one_place names distinct a.class b.class sig.class one.class two.class in
    let base = one_place names distinct a.base b.base sig.ty.base one.base two.base in
    let dims = one.dims ∙ sym two.dims in
    let name = one_place names distinct a.name b.name sig.name one.name two.name in
    λ i. record { class = class i; base = base i; dims = dims i; name = name i }

some_item : {X : Type 0} (xs : List X) (i : ℕ) (d : X) → i < length xs → At xs i (get_or xs i d)
some_item xs i d below = (below, get_or_default xs i (get_or xs i d) d below)

module _ (names : List (List ℕ)) (keys : List Key) (sigs : List FieldSig) (are : AreSigs names keys sigs) where
  -- no signature without a key, and none whose key is another's
  pub no_key : (sig : FieldSig) → ((key : Key) → IsKey names key sig → ⊥) → Contains sigs sig → ⊥
  no_key sig none (n, below, at) =
      let count = are.count in
      let within : n < length keys = omega (arith, count, below) in
      by keys within are.each where
        by : (ks : List Key) → n < length ks → ((i : ℕ) (key : Key) (s : FieldSig) → At ks i key → At sigs i s → IsKey names key s) → ⊥
        by [] within each = omega (arith, within)
        by (k ∷ ks) within each = none (get_or (k ∷ ks) n k) (each n (get_or (k ∷ ks) n k) sig (some_item (k ∷ ks) n k within) (below, at))

  pub other_key : (key : Key) (sig : FieldSig) → IsKey names key sig → (Contains keys key → ⊥) → Contains sigs sig → ⊥
  other_key key sig is lacks (n, below, at) =
      let count = are.count in
      let within : n < length keys = omega (arith, count, below) in
      let here = some_item keys n key within in
      let same : get_or keys n key ≡ key = one_key names are.distinct (get_or keys n key) key sig (are.each n (get_or keys n key) sig here (below, at)) is in
      lacks (n, within, same)

  -- the signature at its key's place
  pub key_there : (key : Key) (sig : FieldSig) (n : ℕ) → IsKey names key sig → At keys n key → At sigs n sig
  key_there key sig n is at =
      let count = are.count in
      let less = at.0 in
      let within : n < length sigs = omega (arith, count, less) in
      let here = some_item sigs n sig within in
      (within, one_sig names key (get_or sigs n sig) sig (are.each n key (get_or sigs n sig) at here) is)

  -- what a look-up of its key gives
  pub sig_place : (key : Key) (sig : FieldSig) (r : Option ℕ) → IsKey names key sig → r ≡ position (same_key key) keys → is_some r ≡ list_any (same_key key) keys → MatchOption r (¬ Contains sigs sig) (λ n. At sigs n sig)
  sig_place key sig r is at found = by r (place_is same_key keys_decide keys key r at found) where
    by : (r : Option ℕ) → MatchOption r (¬ Contains keys key) (λ n. At keys n key) → MatchOption r (¬ Contains sigs sig) (λ n. At sigs n sig)
    by None lacks = other_key key sig is lacks
    by (Some n) there = key_there key sig n is there

  -- with further names
  pub more_names : (more : List (List ℕ)) → IsDistinct (names ++ more) → AreSigs (names ++ more) keys sigs
  more_names more distinct = record {
    distinct = distinct;
    count = are.count;
    each = λ i key sig at there. key_longer names more key sig (are.each i key sig at there);
  }

  -- the key of a new signature is new
  pub new_key : (key : Key) (sig : FieldSig) → IsKey names key sig → (Contains sigs sig → ⊥) → Contains keys key → ⊥
  new_key key sig is lacks (n, below, at) =
      let there = key_there key sig n is (below, at) in
      lacks (n, there.0, there.1)

  -- and it goes in with it
  pub one_more : (key : Key) (sig : FieldSig) → IsKey names key sig → AreSigs names (keys ++ key ∷ []) (sigs ++ sig ∷ [])
  one_more key sig is = record {
    distinct = are.distinct;
    count = let count = are.count in let a = length-append keys (key ∷ []) in let b = length-append sigs (sig ∷ []) in omega (arith, count, a, b);
    each = λ i k s at there. elim (at_either keys key i k at) [
      | inl early ↦ are.each i k s early (earlier i s (let less = early.0 in less) there)
      | inr last ↦ subst (λ (x : Key). IsKey names x s) last.1 (subst (IsKey names key) (later i s last.0 there) is)
    ];
  } where
    earlier : (i : ℕ) (s : FieldSig) → i < length keys → At (sigs ++ sig ∷ []) i s → At sigs i s
    earlier i s less there = elim (at_either sigs sig i s there) [
      | inl early ↦ early
      | inr last ↦ absurd (let count = are.count in let here = last.0 in omega (arith, count, here, less))
    ]

    later : (i : ℕ) (s : FieldSig) → i ≡ length keys → At (sigs ++ sig ∷ []) i s → sig ≡ s
    later i s here there = elim (at_either sigs sig i s there) [
      | inl early ↦ absurd (let count = are.count in let less = early.0 in omega (arith, count, here, less))
      | inr last ↦ last.1
    ]

pub key_new : (keys old : List Key) (key : Key) → keys ≡ insert_key same_key old key → (Contains old key → ⊥) → keys ≡ old ++ key ∷ []
key_new keys old key is lacks = is ∙ insert_new same_key keys_decide old key lacks

-- what a look-up tells of a signature
pub some_has : {X : Type 0} (xs : List X) (x : X) (r : Option ℕ) → MatchOption r (¬ Contains xs x) (λ n. At xs n x) → is_some r ≡ true → Contains xs x
some_has xs x None lacks some = absurd (cc)
some_has xs x (Some n) at some = (n, at.0, at.1)

pub none_lacks : {X : Type 0} (xs : List X) (x : X) (r : Option ℕ) → MatchOption r (¬ Contains xs x) (λ n. At xs n x) → is_some r ≡ false → Contains xs x → ⊥
none_lacks xs x None lacks none = lacks
none_lacks xs x (Some n) at none = absurd (cc)

-- a set whose names grew, and a signature that goes in
module _ (names wide : List (List ℕ)) (keys : List Key) (sigs : List FieldSig) (are : AreSigs names keys sigs) (distinct : IsDistinct wide) (kept : (more : List (List ℕ)) × (wide ≡ names ++ more)) where
  pub widened : AreSigs wide keys sigs
  widened = subst (λ (l : List (List ℕ)). AreSigs l keys sigs) (sym kept.1) (more_names names keys sigs are kept.0 (subst (λ (l : List (List ℕ)). IsDistinct l) kept.1 distinct))

  -- both or neither went in
  pub went_in : {E : Type 0} (key : Key) (sig : FieldSig) → IsKey wide key sig → (r : Result Unit E) (ks : List Key) (ss : List FieldSig)
      → OnOk r (ks ≡ keys ++ key ∷ []) → OnOk r (ss ≡ sigs ++ sig ∷ []) → OnErr r (ks ≡ keys) → OnErr r (ss ≡ sigs) → AreSigs wide ks ss
  went_in key sig is (Ok x) ks ss key_in sig_in _ _ = subst (λ (l : List Key). AreSigs wide l ss) (sym key_in) (subst (λ (l : List FieldSig). AreSigs wide (keys ++ key ∷ []) l) (sym sig_in) (one_more wide keys sigs widened key sig is))
  went_in key sig is (Err e) ks ss _ _ same_keys same_sigs = subst (λ (l : List Key). AreSigs wide l ss) (sym same_keys) (subst (λ (l : List FieldSig). AreSigs wide keys l) (sym same_sigs) widened)
