-- `==` on types and signatures tells apart whatever differs: so a table by signature is one by value.
use Rattle.std.proofs.Common.{◌≡◌, ◌∙◌, sym, Bool, true, false, not, nat_eq, List, refl, subst}
use Rattle.std.proofs.lemmas.Bool.{eq-eqb, eqb-true}
use lib.Pointwise.{pointwise, bytes_decides, pointwise_decides}
use mathlib.Core.Bool.{◌&&◌}
use Rattle.jimple_tree.specs.declared.tree.FieldSig.{FieldSig}
use Rattle.jimple_tree.specs.declared.tree.JType.{JType}
use Rattle.jimple_tree.specs.declared.tree.Sig.{Sig}

parts : (a b : Bool) → (a && b) ≡ true → (a ≡ true) × (b ≡ true)
parts true b h = (refl, h)
parts false b h = cc

joined : (a b : Bool) → a ≡ true → b ≡ true → (a && b) ≡ true
joined true b h k = k
joined false b h k = cc

abbrev pub same_type : JType → JType → Bool
same_type a b = pointwise nat_eq a.base b.base && nat_eq a.dims b.dims

type_yes : (a b : JType) → same_type a b ≡ true → a ≡ b
type_yes a b h =
    let p = parts (pointwise nat_eq a.base b.base) (nat_eq a.dims b.dims) h in
    let base = (bytes_decides a.base b.base).0 p.0 in
    let dims = eqb-true a.dims b.dims p.1 in
    λ i. record { base = base i; dims = dims i }

type_self : (a : JType) → same_type a a ≡ true
type_self a = joined _ _ ((bytes_decides a.base a.base).1 refl) (eq-eqb a.dims a.dims refl)

types_decide : (xs ys : List JType) → (pointwise same_type xs ys ≡ true → xs ≡ ys) × (xs ≡ ys → pointwise same_type xs ys ≡ true)
types_decide = pointwise_decides (λ a b. (type_yes a b, λ e. subst (λ c. same_type a c ≡ true) e (type_self a)))

abbrev pub same_sig : Sig → Sig → Bool
same_sig a b = pointwise nat_eq a.class b.class && (same_type a.result b.result && (pointwise nat_eq a.name b.name && pointwise same_type a.params b.params))

sig_yes : (a b : Sig) → same_sig a b ≡ true → a ≡ b
sig_yes a b h =
    let p = parts (pointwise nat_eq a.class b.class) _ h in
    let q = parts (same_type a.result b.result) _ p.1 in
    let r = parts (pointwise nat_eq a.name b.name) _ q.1 in
    let class = (bytes_decides a.class b.class).0 p.0 in
    let value = type_yes a.result b.result q.0 in
    let name = (bytes_decides a.name b.name).0 r.0 in
    let params = (types_decide a.params b.params).0 r.1 in
    λ i. record { class = class i; result = value i; name = name i; params = params i }

sig_self : (a : Sig) → same_sig a a ≡ true
sig_self a =
    joined _ _ ((bytes_decides a.class a.class).1 refl)
    (joined _ _ (type_self a.result) (joined _ _ ((bytes_decides a.name a.name).1 refl) ((types_decide a.params a.params).1 refl)))

pub sigs_decide : (a b : Sig) → (same_sig a b ≡ true → a ≡ b) × (a ≡ b → same_sig a b ≡ true)
sigs_decide a b = (sig_yes a b, λ e. subst (λ c. same_sig a c ≡ true) e (sig_self a))

abbrev pub same_field_sig : FieldSig → FieldSig → Bool
same_field_sig a b = pointwise nat_eq a.class b.class && (same_type a.ty b.ty && pointwise nat_eq a.name b.name)

field_sig_yes : (a b : FieldSig) → same_field_sig a b ≡ true → a ≡ b
field_sig_yes a b h =
    let p = parts (pointwise nat_eq a.class b.class) _ h in
    let q = parts (same_type a.ty b.ty) _ p.1 in
    let class = (bytes_decides a.class b.class).0 p.0 in
    let type = type_yes a.ty b.ty q.0 in
    let name = (bytes_decides a.name b.name).0 q.1 in
    λ i. record { class = class i; ty = type i; name = name i }

field_sig_self : (a : FieldSig) → same_field_sig a a ≡ true
field_sig_self a = joined _ _ ((bytes_decides a.class a.class).1 refl) (joined _ _ (type_self a.ty) ((bytes_decides a.name a.name).1 refl))

pub field_sigs_decide : (a b : FieldSig) → (same_field_sig a b ≡ true → a ≡ b) × (a ≡ b → same_field_sig a b ≡ true)
field_sigs_decide a b = (field_sig_yes a b, λ e. subst (λ c. same_field_sig a c ≡ true) e (field_sig_self a))

-- where all but the parameters are the same, these decide
pub params_decide : (a b : Sig) (r : Bool) → pointwise nat_eq a.class b.class ≡ true → pointwise nat_eq a.name b.name ≡ true → same_type a.result b.result ≡ true → r ≡ pointwise same_type a.params b.params
    → (r ≡ true → a ≡ b) × (a ≡ b → r ≡ true)
params_decide a b r class name value params = (
  (λ yes. sig_yes a b (joined _ _ class (joined _ _ value (joined _ _ name (sym params ∙ yes))))),
  (λ same.
      let all = parts (pointwise nat_eq a.class b.class) _ ((sigs_decide a b).1 same) in
      let rest = parts (same_type a.result b.result) _ all.1 in
      params ∙ (parts (pointwise nat_eq a.name b.name) _ rest.1).1),
)

pub not_false : (b : Bool) → not b ≡ false → b ≡ true
not_false true h = refl
not_false false h = cc
