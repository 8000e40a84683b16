-- A name among distinct ones is found at its own place.
use Rattle.std.proofs.Common.{◌≡◌, ◌≢◌, ℕ, zero, suc, ◌<◌, nat_lt, Bool, true, false, cond, List, [], ◌∷◌, length, map, get_or, Some, None, ap, sym, subst, refl, ◌∙◌, arith, rules}
use Rattle.std.specs.List.{position_or_len, find}
use Rattle.std.specs.Option.{option_map}
use Rattle.std.specs.Str.{bytes_eq}
use Rattle.std.proofs.lemmas.Bool.{false_from_ne_true}
use Rattle.std.proofs.lemmas.List.Sums.{position_or_len_is}
use Rattle.std.proofs.lemmas.Slice.Eq.{bytes_eq-Decides}
use Rattle.jimple_tree.specs.declared.tree.Body.{Body}
use Rattle.jimple_tree.specs.declared.tree.Local.{Local}
use Rattle.jimple_names.specs.declared.scope.Label.{Label}
use Rattle.jimple_names.specs.Scope.{local_at, label_at}
use Rattle.jimple_rewrite.proofs.Written.{LocalsAreDistinct}

pub same_name : (name : List ℕ) → bytes_eq name name ≡ true
same_name name = let e : name ≡ name = refl in search (rules, bytes_eq-Decides, e)

pub other_name : (m n : List ℕ) → m ≢ n → bytes_eq m n ≡ false
other_name m n apart = false_from_ne_true (bytes_eq m n) (λ e. apart ((bytes_eq-Decides m n).0 e))

pub map_at : {X Y : Type 0} (f : X → Y) (xs : List X) (k : ℕ) (y : Y) (x : X) → k < length xs → get_or (map f xs) k y ≡ f (get_or xs k x)
map_at f [] k y x less = absurd (omega (arith, less))
map_at f (z ∷ zs) zero y x less = refl
map_at f (z ∷ zs) (suc k) y x less = map_at f zs k y x (omega (arith, less))

pub length_map : {X Y : Type 0} (f : X → Y) (xs : List X) → length (map f xs) ≡ length xs
length_map f [] = refl
length_map f (x ∷ xs) = ap suc (length_map f xs)

found : (names : List (List ℕ)) (x : ℕ) → ((k : ℕ) → k < x → get_or names k [] ≢ get_or names x []) → x < length names → local_at names (get_or names x []) ≡ Some x
found names x apart less =
    let at : position_or_len (λ n. bytes_eq n (get_or names x [])) names ≡ x =
    position_or_len_is (λ n. bytes_eq n (get_or names x [])) names x [] (omega (arith, less)) (λ k l. other_name (get_or names k []) (get_or names x []) (apart k l)) (λ l. same_name (get_or names x [])) in
    let inside : nat_lt x (length names) ≡ true = search (rules, arith, less) in
    ap (λ (k : ℕ). cond (nat_lt k (length names)) (Some k) None) at ∙ ap (λ (b : Bool). cond b (Some x) None) inside

pub local_found : (b : Body) (x : ℕ) → LocalsAreDistinct b → x < length b.locals
    → local_at (map (λ (l : Local). l.name) b.locals) (get_or (map (λ (l : Local). l.name) b.locals) x []) ≡ Some x
local_found b x distinct less =
    let d : Local = get_or b.locals x (record { ty = record { base = []; dims = 0 }; name = [] }) in
    let all = length_map (λ (l : Local). l.name) b.locals in
    found (map (λ (l : Local). l.name) b.locals) x
    (λ k l e. distinct k x d l less (sym (map_at (λ (m : Local). m.name) b.locals k [] d (omega (arith, l, less))) ∙ e ∙ map_at (λ (m : Local). m.name) b.locals x [] d less))
    (omega (arith, all, less))

-- a label of another name before those that are searched
pub label_past : (l : Label) (labels : List Label) (name : List ℕ) → l.name ≢ name → label_at (l ∷ labels) name ≡ label_at labels name
label_past l labels name apart = ap (λ (b : Bool). option_map (λ (k : Label). k.place) (cond b (Some l) (find (λ (k : Label). bytes_eq k.name name) labels))) (other_name l.name name apart)

pub label_here : (l : Label) (labels : List Label) (name : List ℕ) → l.name ≡ name → label_at (l ∷ labels) name ≡ Some l.place
label_here l labels name e = ap (λ (b : Bool). option_map (λ (k : Label). k.place) (cond b (Some l) (find (λ (k : Label). bytes_eq k.name name) labels))) (subst (λ (n : List ℕ). bytes_eq l.name n ≡ true) e (same_name l.name))
