-- Texts of digits: they are text, they hold no blank, and each writes one number.
use Rattle.std.proofs.Common.{◌≡◌, ℕ, zero, suc, false, List, [], ◌∷◌, ◌++◌, length, take, drop, codes, refl, sym, ap, ◌∙◌, arith, IsAscii, IsUtf8}
use Rattle.std.specs.Int.{IsInRange}
use Rattle.std.specs.Str.Parse.{AllDigits, IsNumeral, digits_value}
use Rattle.std.proofs.lemmas.List.{append_cancel_left}
use Rattle.std.proofs.lemmas.Str.{IsUtf8-from_ascii}
use Rattle.std.proofs.lemmas.Str.Parse.{digit_from_value}
use Rattle.list_lines.specs.Lines.{is_blank, word_len}
use Rattle.event_schedule.specs.Schedules.{Sets, Writes}

ascii : (text : List ℕ) → AllDigits 10 text → IsAscii text
ascii [] d i = omega arith
ascii (c ∷ cs) d zero = let k = digit_from_value c d.0 in omega (arith, k.1)
ascii (c ∷ cs) d (suc i) = ascii cs d.1 i

pub is_text : (text : List ℕ) → IsNumeral 10 text → IsUtf8 text
is_text text n = IsUtf8-from_ascii text (ascii text n.1)

no_blank : (c : ℕ) → IsInRange 48 57 c → is_blank c ≡ false
no_blank c k = grind (arith, k.0, k.1)

-- the word in front ends behind the digits
digits_end : (first second : List ℕ) → AllDigits 10 first → word_len (first ++ 32 ∷ second) ≡ length first
digits_end [] second d = refl
digits_end (c ∷ cs) second d = rw (no_blank c (digit_from_value c d.0)) (let e = digits_end cs second d.1 in omega (arith, e))

take_seam : (xs ys : List ℕ) → take (length xs) (xs ++ ys) ≡ xs
take_seam [] ys = refl
take_seam (x ∷ xs) ys = ap (λ zs. x ∷ zs) (take_seam xs ys)

drop_seam : (xs ys : List ℕ) → drop (length xs) (xs ++ ys) ≡ ys
drop_seam [] ys = refl
drop_seam (x ∷ xs) ys = drop_seam xs ys

pub first_is : (text : List ℕ) (worker place : ℕ) (s : Sets text worker place) → s.first ≡ take (word_len text) text
first_is text worker place s = rw (s.is, digits_end s.first s.second s.worker_is.numeral.1) (sym (take_seam s.first (32 ∷ s.second)))

pub rest_is : (text : List ℕ) (worker place : ℕ) (s : Sets text worker place) → codes " " ++ s.second ≡ drop (word_len text) text
rest_is text worker place s = rw (s.is, digits_end s.first s.second s.worker_is.numeral.1) (sym (drop_seam s.first (32 ∷ s.second)))

pub writes_once : (bits : ℕ) (text : List ℕ) (n m : ℕ) → Writes bits text n → Writes bits text m → n ≡ m
writes_once bits text n m w v = w.value ∙ sym v.value

pub sets_once : (text : List ℕ) (worker place other next : ℕ) → Sets text worker place → Sets text other next → (worker ≡ other) × (place ≡ next)
sets_once text worker place other next s t =
    let first = first_is text worker place s ∙ sym (first_is text other next t) in
    let second = append_cancel_left (codes " ") s.second t.second (rest_is text worker place s ∙ sym (rest_is text other next t)) in
    (s.worker_is.value ∙ ap (digits_value 10) first ∙ sym t.worker_is.value, s.place_is.value ∙ ap (digits_value 10) second ∙ sym t.place_is.value)
