-- What a text spells is read.
use Rattle.std.proofs.Common.{◌≡◌, ◌==◌, ◌<◌, ◌≤◌, ℕ, zero, suc, Bool, true, false, List, [], ◌∷◌, ◌++◌, length, drop, Some, nat_eq, inl, inr, refl, sym, ap, ◌∙◌, arith, append_assoc, append-nil}
use Rattle.std.proofs.lemmas.List.{length-append}
use Rattle.std.proofs.Math.Seq.{take-append_seam, drop-append_seam}
use Rattle.std.specs.Prelude.{slice_index}
use Rattle.std.specs.List.{prefix_len, list_all, AllByRecursion}
use Rattle.clean_base.specs.Exact.{both_true}
use Rattle.jimple_tree.specs.declared.tree.JType.{JType}
use Rattle.jimple_tree.specs.declared.tree.Sig.{Sig}
use Rattle.jimple_tree.specs.Printed.{brackets, type_text}
use Rattle.source_sink.specs.Signature.{is_name_byte, IsName, IsPlainName, spaces, later_text, params_text, sig_text, HasNames, Spells}
use Rattle.source_sink.specs.Reading.{sees, read_byte, name_len, read_name, is_space, read_spaces, without_spaces, pairs, without_pairs, read_type, read_later_type, read_later, read_params, read_sig}

-- no byte of this kind stands in front
abbrev pub Stops : (ℕ → Bool) → List ℕ → Type 0
Stops p [] = Unit {0}
Stops p (c ∷ cs) = p c ≡ false

pub run_length : (p : ℕ → Bool) (xs rest : List ℕ) → list_all p xs ≡ true → Stops p rest → prefix_len p (xs ++ rest) ≡ length xs
run_length p [] [] h s = refl
run_length p [] (c ∷ cs) h s = rw s refl
run_length p (x ∷ xs) rest h s =
    let parts = both_true _ _ h in
    let here : p x ≡ true = parts.0 in
    let more = run_length p xs rest parts.1 s in
    rw (here, more) (omega arith)

-- a name's first byte is no space, and doesn't end it
plain_first : (c : ℕ) → is_name_byte c ≡ true → (nat_eq 60 c ≡ false) × (is_space c ≡ false)
plain_first c h = (grind arith, grind arith)

plain_len : (c : ℕ) (cs rest : List ℕ) → list_all is_name_byte (c ∷ cs) ≡ true → Stops is_name_byte rest → name_len (c ∷ cs ++ rest) ≡ length (c ∷ cs)
plain_len c cs rest h s =
    let first = plain_first c (both_true _ _ h).0 in
    let no_tag : nat_eq 60 c ≡ false = first.0 in
    rw no_tag (run_length is_name_byte (c ∷ cs) rest h s)

plain_read : (n rest : List ℕ) → IsPlainName n → Stops is_name_byte rest → read_name (n ++ rest) ≡ Some (n, rest)
plain_read [] rest h s = absurd (omega (arith, h.some))
plain_read (c ∷ cs) rest h s =
    let apart : (length (c ∷ cs) == 0) ≡ false = grind arith in
    rw (plain_len c cs rest h.each s, take-append_seam (c ∷ cs) rest, drop-append_seam (c ∷ cs) rest, apart) refl

pub name_is_read : (n rest : List ℕ) → IsName n → Stops is_name_byte rest → read_name (n ++ rest) ≡ Some (n, rest)
name_is_read n rest (inl e) s = rw e refl
name_is_read n rest (inr (inl e)) s = rw e refl
name_is_read n rest (inr (inr h)) s = plain_read n rest h s

-- a name stops spaces
plain_stops : (n rest : List ℕ) → IsPlainName n → Stops is_space (n ++ rest)
plain_stops [] rest h = absurd (omega (arith, h.some))
plain_stops (c ∷ cs) rest h = (plain_first c (both_true _ _ h.each).0).1

pub name_stops : (n rest : List ℕ) → IsName n → Stops is_space (n ++ rest)
name_stops n rest (inl e) = rw e refl
name_stops n rest (inr (inl e)) = rw e refl
name_stops n rest (inr (inr h)) = plain_stops n rest h

all_spaces : (n : ℕ) → list_all is_space (spaces n) ≡ true
all_spaces zero = refl
all_spaces (suc n) = all_spaces n

length_spaces : (n : ℕ) → length (spaces n) ≡ n
length_spaces zero = refl
length_spaces (suc n) = ap suc (length_spaces n)

space_run : (n : ℕ) (rest : List ℕ) → Stops is_space rest → prefix_len is_space (spaces n ++ rest) ≡ n
space_run n rest s = run_length is_space (spaces n) rest (all_spaces n) s ∙ length_spaces n

space_drop : (n : ℕ) (rest : List ℕ) → drop n (spaces n ++ rest) ≡ rest
space_drop n rest = ap (λ (k : ℕ). drop k (spaces n ++ rest)) (sym (length_spaces n)) ∙ drop-append_seam (spaces n) rest

pub spaces_are_read : (n : ℕ) (rest : List ℕ) → 0 < n → Stops is_space rest → read_spaces (spaces n ++ rest) ≡ Some (tt, rest)
spaces_are_read n rest some s =
    let k = space_run n rest s in
    let apart : (n == 0) ≡ false = grind arith in
    rw (k, apart, space_drop n rest) refl

pub spaces_are_skipped : (n : ℕ) (rest : List ℕ) → Stops is_space rest → without_spaces (spaces n ++ rest) ≡ rest
spaces_are_skipped n rest s = rw (space_run n rest s) (space_drop n rest)

abbrev pub is_open : ℕ → Bool
is_open c = c == 91

no_pair : (text : List ℕ) → Stops is_open text → (pairs text ≡ 0) × (without_pairs text ≡ text)
no_pair [] s = (refl, refl)
no_pair (a ∷ []) s = (refl, refl)
no_pair (a ∷ b ∷ cs) s = (rw s refl, rw s refl)

pairs_are_read : (n : ℕ) (rest : List ℕ) → Stops is_open rest → (pairs (brackets n ++ rest) ≡ n) × (without_pairs (brackets n ++ rest) ≡ rest)
pairs_are_read zero rest s = no_pair rest s
pairs_are_read (suc n) rest s = let more = pairs_are_read n rest s in (ap suc more.0, more.1)

stops_behind : (n : ℕ) (rest : List ℕ) → Stops is_name_byte rest → Stops is_name_byte (brackets n ++ rest)
stops_behind zero rest s = s
stops_behind (suc n) rest s = refl

pub type_is_read : (t : JType) (rest : List ℕ) → IsName t.base → Stops is_name_byte rest → Stops is_open rest → read_type (type_text t ++ rest) ≡ Some (t, rest)
type_is_read t rest h s o =
    let both = pairs_are_read t.dims rest o in
    let e : read_name (type_text t ++ rest) ≡ Some (t.base, brackets t.dims ++ rest) = rw append_assoc (name_is_read t.base (brackets t.dims ++ rest) h (stops_behind t.dims rest s)) in
    rw (e, both.0, both.1) refl

pub type_stops : (t : JType) (rest : List ℕ) → IsName t.base → Stops is_space (type_text t ++ rest)
type_stops t rest h = rw append_assoc (name_stops t.base (brackets t.dims ++ rest) h)

-- what stands behind a parameter
later_stops : (ts : List JType) (gaps more : List ℕ) → Stops is_name_byte (later_text ts gaps ++ 41 ∷ more) × Stops is_open (later_text ts gaps ++ 41 ∷ more)
later_stops [] gaps more = (refl, refl)
later_stops (t ∷ ts) gaps more = (refl, refl)

later_type_is_read : (gap : ℕ) (t : JType) (rest : List ℕ) → IsName t.base → Stops is_name_byte rest → Stops is_open rest
    → read_later_type (44 ∷ (spaces gap ++ (type_text t ++ rest))) ≡ Some (t, rest)
later_type_is_read gap t rest h s o =
    let skipped = spaces_are_skipped gap (type_text t ++ rest) (type_stops t rest h) in
    rw skipped (type_is_read t rest h s o)

later_on : (n : ℕ) (text : List ℕ) (t : JType) (left : List ℕ) (ts : List JType) (end : List ℕ) → sees 44 text ≡ true → read_later_type text ≡ Some (t, left)
    → read_later n left ≡ Some (ts, end) → read_later (suc n) text ≡ Some (t ∷ ts, end)
later_on n text t left ts end s first next = rw (s, first, next) refl

pub later_is_read : (n : ℕ) (ts : List JType) (gaps more : List ℕ) → length ts ≤ n → AllByRecursion (λ (t : JType). IsName t.base) ts
    → read_later n (later_text ts gaps ++ 41 ∷ more) ≡ Some (ts, 41 ∷ more)
later_is_read zero [] gaps more le h = refl
later_is_read (suc n) [] gaps more le h = refl
later_is_read zero (t ∷ ts) gaps more le h = absurd (omega (arith, le))
later_is_read (suc n) (t ∷ ts) gaps more le h =
    let left = later_text ts (drop 1 gaps) ++ 41 ∷ more in
    let gap = slice_index gaps 0 in
    let stop = later_stops ts (drop 1 gaps) more in
    let first : read_later_type (44 ∷ (spaces gap ++ (type_text t ++ left))) ≡ Some (t, left) = later_type_is_read gap t left h.0 stop.0 stop.1 in
    let next = later_is_read n ts (drop 1 gaps) more (omega (arith, le)) h.1 in
    let shape : later_text (t ∷ ts) gaps ++ 41 ∷ more ≡ 44 ∷ (spaces gap ++ (type_text t ++ left)) = simp (append_assoc, append-nil) in
    ap (λ (xs : List ℕ). read_later (suc n) xs) shape ∙ later_on n (44 ∷ (spaces gap ++ (type_text t ++ left))) t left ts (41 ∷ more) refl first next

later_longer : (ts : List JType) (gaps : List ℕ) → length ts ≤ length (later_text ts gaps)
later_longer [] gaps = omega arith
later_longer (t ∷ ts) gaps =
    let more = later_longer ts (drop 1 gaps) in
    let whole : later_text (t ∷ ts) gaps ≡ 44 ∷ ((spaces (slice_index gaps 0) ++ type_text t) ++ later_text ts (drop 1 gaps)) = simp (append_assoc, append-nil) in
    let n = length-append (spaces (slice_index gaps 0) ++ type_text t) (later_text ts (drop 1 gaps)) in
    let m : length (later_text (t ∷ ts) gaps) ≡ suc (length ((spaces (slice_index gaps 0) ++ type_text t) ++ later_text ts (drop 1 gaps))) = ap length whole in
    omega (arith, more, n, m)

-- a name is no closing parenthesis
plain_closes : (n rest : List ℕ) → IsPlainName n → sees 41 (n ++ rest) ≡ false
plain_closes [] rest h = absurd (omega (arith, h.some))
plain_closes (c ∷ cs) rest h = let first : is_name_byte c ≡ true = (both_true _ _ h.each).0 in grind arith

name_closes : (n rest : List ℕ) → IsName n → sees 41 (n ++ rest) ≡ false
name_closes n rest (inl e) = rw e refl
name_closes n rest (inr (inl e)) = rw e refl
name_closes n rest (inr (inr h)) = plain_closes n rest h

params_on : (text : List ℕ) (t : JType) (left : List ℕ) (ts : List JType) (end : List ℕ) → sees 41 text ≡ false → read_type text ≡ Some (t, left)
    → read_later (length left) left ≡ Some (ts, end) → read_params text ≡ Some (t ∷ ts, end)
params_on text t left ts end s first next = rw (s, first, next) refl

pub params_are_read : (ts : List JType) (gaps more : List ℕ) → AllByRecursion (λ (t : JType). IsName t.base) ts
    → read_params (params_text ts gaps ++ 41 ∷ more) ≡ Some (ts, 41 ∷ more)
params_are_read [] gaps more h = refl
params_are_read (t ∷ ts) gaps more h =
    let left = later_text ts gaps ++ 41 ∷ more in
    let stop = later_stops ts gaps more in
    let enough : length ts ≤ length left = let n = length-append (later_text ts gaps) (41 ∷ more) in let m = later_longer ts gaps in omega (arith, n, m) in
    let closes : sees 41 (type_text t ++ left) ≡ false = rw append_assoc (name_closes t.base (brackets t.dims ++ left) h.0) in
    let shape : params_text (t ∷ ts) gaps ++ 41 ∷ more ≡ type_text t ++ left = append_assoc (type_text t) (later_text ts gaps) (41 ∷ more) in
    ap read_params shape ∙ params_on (type_text t ++ left) t left ts (41 ∷ more) closes (type_is_read t left h.0 stop.0 stop.1) (later_is_read (length left) ts gaps more enough h.1)

spaces_stop : (n : ℕ) (rest : List ℕ) → 0 < n → Stops is_name_byte (spaces n ++ rest) × Stops is_open (spaces n ++ rest)
spaces_stop zero rest some = absurd (omega (arith, some))
spaces_stop (suc n) rest some = (refl, refl)

sig_on : (text t1 class t2 t3 t4 : List ℕ) (result : JType) (t5 t6 name t7 t8 : List ℕ) (params : List JType) (t9 t10 t11 : List ℕ)
    → read_byte 60 text ≡ Some (tt, t1) → read_name t1 ≡ Some (class, t2) → read_byte 58 t2 ≡ Some (tt, t3) → read_spaces t3 ≡ Some (tt, t4)
    → read_type t4 ≡ Some (result, t5) → read_spaces t5 ≡ Some (tt, t6) → read_name t6 ≡ Some (name, t7) → read_byte 40 t7 ≡ Some (tt, t8)
    → read_params t8 ≡ Some (params, t9) → read_byte 41 t9 ≡ Some (tt, t10) → read_byte 62 t10 ≡ Some (tt, t11)
    → read_sig text ≡ Some (record { class = class; result = result; name = name; params = params }, t11)
unfolding read_sig
sig_on text t1 class t2 t3 t4 result t5 t6 name t7 t8 params t9 t10 t11 e1 e2 e3 e4 e5 e6 e7 e8 e9 e10 e11 =
    rw (e1, e2, e3, e4, e5, e6, e7, e8, e9, e10, e11) refl

sig_text_is_read : (s : Sig) (colon result : ℕ) (commas rest : List ℕ) → HasNames s → 0 < colon → 0 < result
    → read_sig (sig_text colon result commas s ++ rest) ≡ Some (s, rest)
sig_text_is_read s colon result commas rest names some_colon some_result =
    let t9 : List ℕ = 41 ∷ 62 ∷ rest in
    let t8 : List ℕ = params_text s.params commas ++ t9 in
    let t6 : List ℕ = s.name ++ (40 ∷ t8) in
    let t5 : List ℕ = spaces result ++ t6 in
    let t4 : List ℕ = type_text s.result ++ t5 in
    let t3 : List ℕ = spaces colon ++ t4 in
    let t1 : List ℕ = s.class ++ (58 ∷ t3) in
    let shape : sig_text colon result commas s ++ rest ≡ 60 ∷ t1 = simp (append_assoc, append-nil) in
    let stop = spaces_stop result t6 some_result in
    ap read_sig shape ∙ sig_on (60 ∷ t1) t1 s.class (58 ∷ t3) t3 t4 s.result t5 t6 s.name (40 ∷ t8) t8 s.params t9 (62 ∷ rest) rest
    refl (name_is_read s.class (58 ∷ t3) names.class refl) refl (spaces_are_read colon t4 some_colon (type_stops s.result t5 names.result))
    (type_is_read s.result t5 names.result stop.0 stop.1) (spaces_are_read result t6 some_result (name_stops s.name (40 ∷ t8) names.name))
    (name_is_read s.name (40 ∷ t8) names.name refl) refl (params_are_read s.params commas (62 ∷ rest) names.params) refl refl

pub sig_is_read : (s : Sig) (text front rest : List ℕ) → Spells s front → text ≡ front ++ rest → read_sig text ≡ Some (s, rest)
sig_is_read s text front rest h e =
    ap read_sig (e ∙ ap (λ (xs : List ℕ). xs ++ rest) h.is) ∙ sig_text_is_read s h.colon h.result h.commas rest h.names h.colon_some h.result_some
