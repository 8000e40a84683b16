-- What is read is spelled by the text in front of what is left.
use Rattle.std.proofs.Common.{◌≡◌, ◌≢◌, ◌==◌, ◌<◌, ◌≤◌, ℕ, zero, suc, Bool, true, false, List, [], ◌∷◌, ◌++◌, length, take, drop, Some, nat_eq, inl, inr, refl, sym, ap, ◌∙◌, arith, rules, append_assoc, append-nil, take-append-drop}
use Rattle.std.proofs.lemmas.List.{length-take-le}
use Rattle.clean_base.specs.Exact.{both_true}
use mathlib.Core.Bool.{◌&&◌}
use Rattle.std.specs.Prelude.{codes}
use Rattle.std.specs.List.{prefix_len, starts_with, list_all, AllByRecursion}
use Rattle.std.proofs.lemmas.List.Sums.{prefix_len-le-length}
use lib.Pointwise.{bytes_decides}
use Rattle.jimple_tree.specs.declared.tree.JType.{JType}
use Rattle.jimple_tree.specs.declared.tree.Sig.{Sig}
use Rattle.jimple_tree.specs.Printed.{brackets, type_text}
use Rattle.source_sink.specs.Signature.{is_name_byte, IsName, spaces, later_text, params_text, sig_text, Spells}
use Rattle.source_sink.specs.Reading.{sees, read_byte, name_len, read_name, is_space, read_spaces, without_spaces, pairs, without_pairs, read_type, read_later_type, read_later, read_params, read_sig}
use Rattle.source_sink.proofs.Steps.{Reads, reads_then, reads_if, reads_unless, reads_either, reads_some_all}

pub byte_read : (b : ℕ) (text : List ℕ) → Reads (read_byte b text) (λ u left. text ≡ b ∷ left)
byte_read b [] = tt
byte_read b (c ∷ cs) = reads_if (λ u left. c ∷ cs ≡ b ∷ left) (c == b) (Some (tt, cs)) (λ e. let same : c ≡ b = search rules in ap (λ (x : ℕ). x ∷ cs) same)

-- the bytes of a run pass its test
run_on : (p : ℕ → Bool) (c : ℕ) (cs : List ℕ) (b : Bool) → p c ≡ b → list_all p (take (prefix_len p cs) cs) ≡ true → list_all p (take (prefix_len p (c ∷ cs)) (c ∷ cs)) ≡ true
run_on p c cs true e more =
    let n : prefix_len p (c ∷ cs) ≡ suc (prefix_len p cs) = rw e (omega arith) in
    rw (n, e) more
run_on p c cs false e more = rw e refl

pub run_passes : (p : ℕ → Bool) (text : List ℕ) → list_all p (take (prefix_len p text) text) ≡ true
run_passes p [] = refl
run_passes p (c ∷ cs) = run_on p c cs (p c) refl (run_passes p cs)

front_length : (n : ℕ) (text : List ℕ) → n ≤ length text → 0 < n → 0 < length (take n text)
front_length n text le some = let e = length-take-le n text le in omega (arith, e)

cut : (n : ℕ) (text : List ℕ) → text ≡ take n text ++ drop n text
cut n text = sym (take-append-drop n text)

-- where a text begins with one of these words, that word is its front
begins : (word text : List ℕ) → starts_with nat_eq text word ≡ true → take (length word) text ≡ word
begins word text e = sym ((bytes_decides word (take (length word) text)).0 e)

name_front : (text : List ℕ) (i c : Bool) → starts_with nat_eq text (codes "<init>") ≡ i → starts_with nat_eq text (codes "<clinit>") ≡ c
    → (name_len text == 0) ≡ false → IsName (take (name_len text) text)
name_front text true c ei ec some = rw ei (inl (begins (codes "<init>") text ei))
name_front text false true ei ec some = rw (ei, ec) (inr (inl (begins (codes "<clinit>") text ec)))
name_front text false false ei ec some =
    let n : name_len text ≡ prefix_len is_name_byte text = rw (ei, ec) refl in
    let apart : prefix_len is_name_byte text ≢ 0 = let left : (prefix_len is_name_byte text == 0) ≡ false = rw (← n) some in search rules in
    rw n (inr (inr record {
      some = front_length (prefix_len is_name_byte text) text (prefix_len-le-length is_name_byte text) (omega (arith, apart));
      each = run_passes is_name_byte text;
    }))

abbrev pub IsNamed : List ℕ → List ℕ → List ℕ → Type 0
IsNamed text n left = (text ≡ n ++ left) × IsName n

pub name_read : (text : List ℕ) → Reads (read_name text) (IsNamed text)
name_read text = reads_unless (IsNamed text) (name_len text == 0) (Some (take (name_len text) text, drop (name_len text) text))
    (λ e. (cut (name_len text) text, name_front text _ _ refl refl e))

-- a run of spaces is so many of them
run_of_spaces : (text : List ℕ) → list_all is_space text ≡ true → text ≡ spaces (length text)
run_of_spaces [] h = refl
run_of_spaces (c ∷ cs) h =
    let parts = both_true _ _ h in
    let same : c ≡ 32 = let first : (c == 32) ≡ true = parts.0 in search rules in
    ap (λ (x : ℕ). x ∷ cs) same ∙ ap (λ (xs : List ℕ). 32 ∷ xs) (run_of_spaces cs parts.1)

spaces_front : (text : List ℕ) → text ≡ spaces (prefix_len is_space text) ++ drop (prefix_len is_space text) text
spaces_front text =
    let n : length (take (prefix_len is_space text) text) ≡ prefix_len is_space text = length-take-le (prefix_len is_space text) text (prefix_len-le-length is_space text) in
    let e : take (prefix_len is_space text) text ≡ spaces (prefix_len is_space text) = run_of_spaces _ (run_passes is_space text) ∙ ap spaces n in
    cut (prefix_len is_space text) text ∙ ap (λ (xs : List ℕ). xs ++ drop (prefix_len is_space text) text) e

-- a space or more
pub record IsSpaced (text : List ℕ) (u : Unit {0}) (left : List ℕ) : Type 0 where
  pub gap : ℕ
  pub some : 0 < gap
  pub is : text ≡ spaces gap ++ left

pub spaces_read : (text : List ℕ) → Reads (read_spaces text) (IsSpaced text)
spaces_read text = reads_unless (IsSpaced text) (prefix_len is_space text == 0) (Some (tt, without_spaces text))
    (λ e. record { gap = prefix_len is_space text; some = let apart : prefix_len is_space text ≢ 0 = search rules in omega (arith, apart); is = spaces_front text })

pairs_on : (a b : ℕ) (cs : List ℕ) (t : Bool) → (a == 91 && b == 93) ≡ t → cs ≡ brackets (pairs cs) ++ without_pairs cs
    → a ∷ b ∷ cs ≡ brackets (pairs (a ∷ b ∷ cs)) ++ without_pairs (a ∷ b ∷ cs)
pairs_on a b cs true e more =
    let parts = both_true _ _ e in
    let open_is : a ≡ 91 = let first : (a == 91) ≡ true = parts.0 in search rules in
    let close_is : b ≡ 93 = let second : (b == 93) ≡ true = parts.1 in search rules in
    rw e (ap (λ (x : ℕ). x ∷ b ∷ cs) open_is ∙ ap (λ (x : ℕ). 91 ∷ x ∷ cs) close_is ∙ ap (λ (xs : List ℕ). 91 ∷ 93 ∷ xs) more)
pairs_on a b cs false e more = rw e refl

pub pairs_front : (text : List ℕ) → text ≡ brackets (pairs text) ++ without_pairs text
pairs_front [] = refl
pairs_front (a ∷ []) = refl
pairs_front (a ∷ b ∷ cs) = pairs_on a b cs _ refl (pairs_front cs)

abbrev pub IsTyped : List ℕ → JType → List ℕ → Type 0
IsTyped text t left = (text ≡ type_text t ++ left) × IsName t.base

pub type_read : (text : List ℕ) → Reads (read_type text) (IsTyped text)
type_read text = reads_then (IsNamed text) (IsTyped text) (read_name text) _ (name_read text)
    (λ n h. (h.0 ∙ ap (λ (xs : List ℕ). n.0 ++ xs) (pairs_front n.1) ∙ sym (append_assoc n.0 (brackets (pairs n.1)) (without_pairs n.1)), h.1))

-- a comma, spaces and a type
pub record IsLater (text : List ℕ) (t : JType) (left : List ℕ) : Type 0 where
  pub gap : ℕ
  pub is : text ≡ 44 ∷ (spaces gap ++ (type_text t ++ left))
  pub name : IsName t.base

pub later_type_read : (text : List ℕ) → Reads (read_later_type text) (IsLater text)
later_type_read text = reads_then (λ u left. text ≡ 44 ∷ left) (IsLater text) (read_byte 44 text) _ (byte_read 44 text)
    (λ c e. reads_some_all (IsTyped (without_spaces c.1)) (IsLater text) (read_type (without_spaces c.1)) (type_read (without_spaces c.1))
    (λ t left h. record {
      gap = prefix_len is_space c.1;
      is = e ∙ ap (λ (xs : List ℕ). 44 ∷ xs) (spaces_front c.1) ∙ ap (λ (xs : List ℕ). 44 ∷ (spaces (prefix_len is_space c.1) ++ xs)) h.0;
      name = h.1;
    }))

-- types behind commas
pub record AreLater (text : List ℕ) (ts : List JType) (left : List ℕ) : Type 0 where
  pub gaps : List ℕ
  pub is : text ≡ later_text ts gaps ++ left
  pub names : AllByRecursion (λ (t : JType). IsName t.base) ts

one_more : (text : List ℕ) (t : JType) (mid : List ℕ) → IsLater text t mid → (ts : List JType) (left : List ℕ) → AreLater mid ts left → AreLater text (t ∷ ts) left
one_more text t mid h ts left m = record {
  gaps = h.gap ∷ m.gaps;
  is = h.is ∙ ap (λ (xs : List ℕ). 44 ∷ (spaces h.gap ++ (type_text t ++ xs))) m.is ∙ simp (append_assoc, append-nil);
  names = (h.name, m.names);
}

pub later_read : (n : ℕ) (text : List ℕ) → Reads (read_later n text) (AreLater text)
later_read zero text = record { gaps = []; is = refl; names = tt }
later_read (suc n) text = reads_either (AreLater text) (sees 44 text) _ _
    (λ e. reads_then (IsLater text) (AreLater text) (read_later_type text) _ (later_type_read text)
    (λ t h. reads_then (AreLater t.1) (AreLater text) (read_later n t.1) _ (later_read n t.1) (λ ts m. one_more text t.0 t.1 h ts.0 ts.1 m)))
    (λ e. record { gaps = []; is = refl; names = tt })

-- the parameters between the parentheses
pub record AreParams (text : List ℕ) (ts : List JType) (left : List ℕ) : Type 0 where
  pub gaps : List ℕ
  pub is : text ≡ params_text ts gaps ++ left
  pub names : AllByRecursion (λ (t : JType). IsName t.base) ts

pub params_read : (text : List ℕ) → Reads (read_params text) (AreParams text)
params_read text = reads_either (AreParams text) (sees 41 text) _ _
    (λ e. record { gaps = []; is = refl; names = tt })
    (λ e. reads_then (IsTyped text) (AreParams text) (read_type text) _ (type_read text)
    (λ t h. reads_then (AreLater t.1) (AreParams text) (read_later (length t.1) t.1) _ (later_read (length t.1) t.1)
    (λ ts m. record {
      gaps = m.gaps;
      is = h.0 ∙ ap (λ (xs : List ℕ). type_text t.0 ++ xs) m.is ∙ sym (append_assoc (type_text t.0) (later_text ts.0 m.gaps) ts.1);
      names = (h.1, m.names);
    })))

-- a signature in front
pub record IsSig (text : List ℕ) (s : Sig) (left : List ℕ) : Type 0 where
  pub front : List ℕ
  pub spells : Spells s front
  pub is : text ≡ front ++ left

abbrev pub OneByte : ℕ → List ℕ → Unit {0} → List ℕ → Type 0
OneByte b text u left = text ≡ b ∷ left

pub sig_read : (text : List ℕ) → Reads (read_sig text) (IsSig text)
unfolding read_sig
sig_read text =
    reads_then (OneByte 60 text) (IsSig text) (read_byte 60 text) _ (byte_read 60 text) (λ x1 h1.
    reads_then (IsNamed x1.1) (IsSig text) (read_name x1.1) _ (name_read x1.1) (λ x2 h2.
    reads_then (OneByte 58 x2.1) (IsSig text) (read_byte 58 x2.1) _ (byte_read 58 x2.1) (λ x3 h3.
    reads_then (IsSpaced x3.1) (IsSig text) (read_spaces x3.1) _ (spaces_read x3.1) (λ x4 h4.
    reads_then (IsTyped x4.1) (IsSig text) (read_type x4.1) _ (type_read x4.1) (λ x5 h5.
    reads_then (IsSpaced x5.1) (IsSig text) (read_spaces x5.1) _ (spaces_read x5.1) (λ x6 h6.
    reads_then (IsNamed x6.1) (IsSig text) (read_name x6.1) _ (name_read x6.1) (λ x7 h7.
    reads_then (OneByte 40 x7.1) (IsSig text) (read_byte 40 x7.1) _ (byte_read 40 x7.1) (λ x8 h8.
    reads_then (AreParams x8.1) (IsSig text) (read_params x8.1) _ (params_read x8.1) (λ x9 h9.
    reads_then (OneByte 41 x9.1) (IsSig text) (read_byte 41 x9.1) _ (byte_read 41 x9.1) (λ x10 h10.
    reads_then (OneByte 62 x10.1) (IsSig text) (read_byte 62 x10.1) _ (byte_read 62 x10.1) (λ x11 h11.
    record {
      front = sig_text h4.gap h6.gap h9.gaps (record { class = x2.0; result = x5.0; name = x7.0; params = x9.0 });
      spells = record {
        colon = h4.gap;
        result = h6.gap;
        commas = h9.gaps;
        names = record { class = h2.1; result = h5.1; name = h7.1; params = h9.names };
        colon_some = h4.some;
        result_some = h6.some;
        is = refl;
      };
      is = joined text x1.1 x2.0 x2.1 x3.1 h4.gap x4.1 x5.0 x5.1 h6.gap x6.1 x7.0 x7.1 x8.1 x9.0 h9.gaps x9.1 x10.1 x11.1 h1 h2.0 h3 h4.is h5.0 h6.is h7.0 h8 h9.is h10 h11;
    }))))))))))) where
      joined : (text t1 class t2 t3 : List ℕ) (colon : ℕ) (t4 : List ℕ) (result : JType) (t5 : List ℕ) (gap : ℕ) (t6 name t7 t8 : List ℕ) (params : List JType) (gaps : List ℕ) (t9 t10 t11 : List ℕ)
          → text ≡ 60 ∷ t1 → t1 ≡ class ++ t2 → t2 ≡ 58 ∷ t3 → t3 ≡ spaces colon ++ t4 → t4 ≡ type_text result ++ t5 → t5 ≡ spaces gap ++ t6 → t6 ≡ name ++ t7 → t7 ≡ 40 ∷ t8
          → t8 ≡ params_text params gaps ++ t9 → t9 ≡ 41 ∷ t10 → t10 ≡ 62 ∷ t11
          → text ≡ sig_text colon gap gaps (record { class = class; result = result; name = name; params = params }) ++ t11
      joined text t1 class t2 t3 colon t4 result t5 gap t6 name t7 t8 params gaps t9 t10 t11 e1 e2 e3 e4 e5 e6 e7 e8 e9 e10 e11 =
          rw (e1, e2, e3, e4, e5, e6, e7, e8, e9, e10, e11) (simp (append_assoc, append-nil))
