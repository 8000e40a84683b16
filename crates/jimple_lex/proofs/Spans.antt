-- Tokens stand in the text, and in order.
use Rattle.std.proofs.Common.{◌≡◌, ℕ, zero, suc, ◌+◌, ◌<◌, ◌≤◌, List, [], ◌∷◌, length, ap, arith, length-append}
use Rattle.std.specs.List.{All}
use Rattle.jimple_lex.specs.Lexed.{Lexed, ends, blank, comment, token, InOrder}
use Rattle.jimple_lex.specs.declared.token.Token.{Token}
use Rattle.jimple_lex.proofs.Pieces.{token_form, form_some}

in_order_from : (low high : ℕ) (ts : List Token) → low ≤ high → InOrder high ts → InOrder low ts
in_order_from low high [] le o = tt
in_order_from low high (t ∷ ts) le o = (omega (arith, le, o.0), o.1)

pub in_order : {at : ℕ} {whole : List ℕ} {ts : List Token} → Lexed at whole ts → InOrder at ts
in_order ends = tt
in_order {at} {whole} {ts} (blank b l) = in_order_from at (suc at) ts (omega arith) (in_order l)
in_order {at} {whole} {ts} (comment {to = to} text rest e n c l) = in_order_from at to ts (omega (arith, n)) (in_order l)
in_order {at} (token k text rest e n t l) = (omega arith, in_order l)

abbrev pub Spans : ℕ → Token → Type 0
Spans end t = (t.from < t.to) × (t.to ≤ end)

-- a test of all the elements, by place
all_by : (end : ℕ) (t : Token) (ts : List Token) → Spans end t → All (Spans end) ts → All (Spans end) (t ∷ ts)
all_by end t ts first later zero d below = first
all_by end t ts first later (suc k) d below = later k d (omega arith)

pub spans : {at : ℕ} {whole : List ℕ} {ts : List Token} (end : ℕ) → end ≡ at + length whole → Lexed at whole ts → All (Spans end) ts
spans end e ends = λ k d below. absurd (omega (arith, below))
spans {at} end e (blank {rest = rest} b l) = spans end (let same : end ≡ suc at + length rest = omega (arith, e) in same) l
spans {at} {whole} end e (comment {to = to} text rest f n c l) = spans end (let size = ap length f in let sum = length-append text rest in let same : end ≡ to + length rest = omega (arith, e, n, size, sum) in same) l
spans {at} {whole} end e (token {to = to} {later = later} k text rest f n t l) =
    let form = token_form k text rest t in let some = form_some form.0 text rest form.1 in
    let size = ap length f in let sum = length-append text rest in
    let same : end ≡ to + length rest = omega (arith, e, n, size, sum) in
    all_by end _ later (omega (arith, n, some), omega (arith, same)) (spans end same l)
