-- Lists of trees for lists of items, and equality part by part.
use Rattle.std.proofs.Common.{◌≡◌, ℕ, suc, List, [], ◌∷◌, map, ap, refl, ◌∙◌, arith}
use Rattle.std.specs.Prelude.{All}
use Rattle.std.specs.List.{AllByRecursion}
use Rattle.jimple_tree.specs.declared.tree.FieldSig.{FieldSig}
use Rattle.jimple_tree.specs.declared.tree.JType.{JType}
use Rattle.jimple_tree.specs.declared.tree.Sig.{Sig}
use Rattle.jimple_rewrite.proofs.Reread.{Zipped}

pub same_two : {A B C : Type 0} (f : A → B → C) (a a2 : A) (b b2 : B) → a ≡ a2 → b ≡ b2 → f a b ≡ f a2 b2
same_two f a a2 b b2 e g = ap (λ x. f x b) e ∙ ap (f a2) g

pub same_three : {A B C D : Type 0} (f : A → B → C → D) (a a2 : A) (b b2 : B) (c c2 : C) → a ≡ a2 → b ≡ b2 → c ≡ c2 → f a b c ≡ f a2 b2 c2
same_three f a a2 b b2 c c2 e g h = ap (λ x. f x b c) e ∙ same_two (f a2) b b2 c c2 g h

pub same_four : {A B C D E : Type 0} (f : A → B → C → D → E) (a a2 : A) (b b2 : B) (c c2 : C) (d d2 : D) → a ≡ a2 → b ≡ b2 → c ≡ c2 → d ≡ d2 → f a b c d ≡ f a2 b2 c2 d2
same_four f a a2 b b2 c c2 d d2 e g h i = ap (λ x. f x b c d) e ∙ same_three (f a2) b b2 c c2 d d2 g h i

pub same_sig : (class class2 : List ℕ) (result result2 : JType) (name name2 : List ℕ) (params params2 : List JType) → class ≡ class2 → result ≡ result2 → name ≡ name2 → params ≡ params2
    → (let a : Sig = record { class = class; result = result; name = name; params = params } in a) ≡ (let b : Sig = record { class = class2; result = result2; name = name2; params = params2 } in b)
same_sig class class2 result result2 name name2 params params2 c r n p = rw (c, r, n, p) refl

pub same_field_sig : (class class2 : List ℕ) (type type2 : JType) (name name2 : List ℕ) → class ≡ class2 → type ≡ type2 → name ≡ name2
    → (let a : FieldSig = record { class = class; ty = type; name = name } in a) ≡ (let b : FieldSig = record { class = class2; ty = type2; name = name2 } in b)
same_field_sig class class2 type type2 name name2 c t n = rw (c, t, n) refl

-- Each tree is right for the item in its place

pub zipped_map : {R X : Type 0} (f : R → X) (rs : List R) (xs : List X) → Zipped (λ r x. f r ≡ x) rs xs → map f rs ≡ xs
zipped_map f [] [] z = refl
zipped_map f [] (x ∷ xs) z = absurd z
zipped_map f (r ∷ rs) [] z = absurd z
zipped_map f (r ∷ rs) (x ∷ xs) z = ap (λ y. y ∷ map f rs) z.0 ∙ ap (λ ys. x ∷ ys) (zipped_map f rs xs z.1)

-- From places to lists

pub all_first : {X : Type 0} (P : X → Type 0) (xs : List X) → All P xs → AllByRecursion P xs
all_first P [] a = tt
all_first P (x ∷ xs) a = (a 0 x (omega arith), all_first P xs (λ k d less. a (suc k) d (omega (arith, less))))

pub both_all : {X : Type 0} (P Q : X → Type 0) (xs : List X) → AllByRecursion P xs → AllByRecursion Q xs → AllByRecursion (λ x. P x × Q x) xs
both_all P Q [] p q = tt
both_all P Q (x ∷ xs) p q = ((p.0, q.0), both_all P Q xs p.1 q.1)

pub all_three : {X : Type 0} (P Q R : X → Type 0) (xs : List X) → AllByRecursion P xs → AllByRecursion Q xs → AllByRecursion R xs → AllByRecursion (λ x. P x × Q x × R x) xs
all_three P Q R [] p q r = tt
all_three P Q R (x ∷ xs) p q r = ((p.0, q.0, r.0), all_three P Q R xs p.1 q.1 r.1)
