-- The trees of bodies fit.
use Rattle.std.proofs.Common.{◌≡◌, ℕ, zero, suc, pred, ◌+◌, ◌-◌, ◌≤◌, List, ◌∷◌, length, flat_map, All, refl, sym, ap, subst, ◌∙◌, arith, length-append}
use Rattle.std.proofs.lemmas.List.Elements.{All-nil, All-cons}
use Rattle.jimple_grammar.specs.declared.lexeme.Lexeme.{Lexeme}
use Rattle.jimple_grammar.specs.declared.raw.RawCode.{RawCode}
use Rattle.jimple_grammar.specs.declared.raw.RawDecl.{RawDecl}
use Rattle.jimple_grammar.specs.declared.raw.RawItem.{RawItem}
use Rattle.jimple_grammar.specs.declared.raw.RawStmt.{RawStmt}
use Rattle.jimple_words.specs.Sets.{names}
use Rattle.jimple_grammar.specs.Grammar.{ends, both, Spells}
use Rattle.jimple_grammar.specs.Forms.{too_many, label, behind_name, item, catch, catches, later_items, front_items, stmt, code, slot, next_slot, later_slots, slots, decl, room_behind, block, body}
use Rattle.jimple_grammar.specs.Fits.{Is, ItemFits, StmtFits, CodeFits, CatchFits, DeclFits, names_of, BodyFits}
use Rattle.jimple_grammar.proofs.Shorten.{item_some, stmt_some}
use Rattle.jimple_grammar.proofs.FitsParts.{Yields, anything, some_long, of_nothing, of_refused, of_either, of_both, behind, app, keep, skip, weaker, of_many, of_plain, many_count}
use Rattle.jimple_grammar.proofs.FitsOperands.{name_fits, ty_fits}
use Rattle.jimple_grammar.proofs.FitsStatements.{local_stmt_fits, word_stmt_fits, stmt_fits}

-- Lengths

later_items_count : (ts : List Lexeme) (xs : List RawItem) → Spells later_items ts xs → length xs ≤ length ts
unfolding later_items
later_items_count ts xs h =
    let c = many_count {S = Unit {0}} (λ s. item) (λ s x. s) ends (λ y. 0) (λ s. item_some) (λ us y k. omega arith) h.1 in
    subst (λ (ys : List RawItem). length ys ≤ length ts) (sym h.2) (omega (arith, c))

-- a statement takes a token, and so does each item behind it
front_count : (ts : List Lexeme) (v : RawStmt × List RawItem) → Spells (both front_items stmt later_items) ts v → suc (length v.1) ≤ length ts
front_count ts v h =
    let one = some_long stmt stmt_some h.2 h.0 h.5 in
    let more = later_items_count h.3 h.1 h.6 in
    let sum : length ts ≡ length h.2 + length h.3 = ap length h.4 ∙ length-append h.2 h.3 in
    subst (λ (v : RawStmt × List RawItem). suc (length v.1) ≤ length ts) (sym h.7) (omega (arith, one, more, sum))

code_count : (ts : List Lexeme) (c : RawCode) → Spells code ts c → suc (length c.labels + length c.rest) ≤ length ts
unfolding code
code_count ts c h =
    let k = many_count {S = Unit {0}} (λ s. label) (λ s x. s) (both front_items stmt later_items) (λ y. suc (length y.1)) (λ s. refl) front_count h.1 in
    subst (λ (c : RawCode). suc (length c.labels + length c.rest) ≤ length ts) (sym h.2) (omega (arith, k))

-- one more, where there is room
pub one_more : (room k : ℕ) → 1 ≤ room → k ≤ pred room → suc k ≤ room
one_more zero k h i = absurd (omega (arith, h))
one_more (suc room) k h i = omega (arith, i)

locals_more : (P : Lexeme → Type 0) (n room : ℕ) (d : RawDecl) (ds : List RawDecl) → length d.names ≤ room → length (flat_map names_of ds) ≤ room - length d.names → length (flat_map names_of (d ∷ ds)) ≤ room
locals_more P n room d ds h i = let sum = length-append d.names (flat_map names_of ds) in omega (arith, sum, h, i)

module _ {P : Lexeme → Type 0} {n : ℕ} where
  behind_name_fits : (x : Lexeme) → Is P n names x → Yields P n (behind_name x) (ItemFits P n)
  unfolding behind_name
  behind_name_fits x l = of_either (app anything (of_nothing (λ c h. l))) (app (local_stmt_fits x l) (of_nothing (λ s h. h)))

  item_fits : Yields P n item (ItemFits P n)
  unfolding item
  item_fits = of_either (behind name_fits behind_name_fits) (app word_stmt_fits (of_nothing (λ s h. h)))

  later_items_fit : Yields P n later_items (All (ItemFits P n))
  unfolding later_items
  later_items_fit = of_plain item_fits anything (λ xs end h k. h)

  catch_fits : Yields P n catch (CatchFits P n)
  unfolding catch
  catch_fits = keep (app name_fits (keep (app name_fits (keep (app name_fits (keep (app name_fits (keep (of_nothing (λ class c from f to t with w. record { class = c; from = f; to = t; with = w }))))))))))

  catches_fit : Yields P n catches (All (CatchFits P n))
  unfolding catches
  catches_fit = of_plain catch_fits anything (λ xs end h k. h)

  code_parts : Yields P n code (λ c. All (Is P n names) c.labels × StmtFits P n c.front × All (ItemFits P n) c.rest)
  unfolding code
  code_parts = of_plain {QB = λ r. StmtFits P n r.0 × All (ItemFits P n) r.1} (keep name_fits) (of_both stmt_fits later_items_fit (λ s items h k. (h, k))) (λ labels front h k. (h, k.0, k.1))

  code_fits : Yields P n code (CodeFits P n)
  code_fits = record {
    fits = λ ts c all le h.
        let p = code_parts.fits ts c all le h in
        let k = code_count ts c h in
        record { labels = p.0; front = p.1; rest = p.2; few = omega (arith, k, le) };
  }

  slot_fits : (room : ℕ) → Yields P n (slot room) (λ t. Is P n names t × (1 ≤ room))
  slot_fits zero = of_refused too_many names
  slot_fits (suc room) = weaker name_fits (λ t h. (h, omega arith))

  later_slots_fit : (room : ℕ) → Yields P n (later_slots room) (λ xs. All (Is P n names) xs × (length xs ≤ room))
  unfolding later_slots
  later_slots_fit room = of_many next_slot (λ n x. pred n) ends (λ room t. Is P n names t × (1 ≤ room)) (λ room xs. All (Is P n names) xs × (length xs ≤ room)) (λ u. Unit {0})
      (λ room. (All-nil (Is P n names), omega arith)) (λ room x xs h i. (All-cons (Is P n names) x xs h.0 i.0, one_more room (length xs) h.1 i.1)) (λ room. skip (slot_fits room)) anything (λ xs end h k. h)

  slots_fit : (room : ℕ) → Yields P n (slots room) (λ xs. All (Is P n names) xs × (length xs ≤ room))
  unfolding slots
  slots_fit room = of_both (slot_fits room) (later_slots_fit (pred room)) (λ x xs h i. (All-cons (Is P n names) x xs h.0 i.0, one_more room (length xs) h.1 i.1))

  decl_fits : (room : ℕ) → Yields P n (decl room) (λ d. DeclFits P n d × (length d.names ≤ room))
  unfolding decl
  decl_fits room = of_both ty_fits (keep (slots_fit room)) (λ ty names h k. ((h, k.0), k.1))

  block_fits : Yields P n block (BodyFits P n)
  unfolding block
  block_fits = of_many decl room_behind (both _ code catches) (λ room d. DeclFits P n d × (length d.names ≤ room)) (λ room ds. All (DeclFits P n) ds × (length (flat_map names_of ds) ≤ room)) (λ c. CodeFits P n c.0 × All (CatchFits P n) c.1)
      (λ room. (All-nil (DeclFits P n), omega arith)) (λ room d ds h i. (All-cons (DeclFits P n) d ds h.0 i.0, locals_more P n room d ds h.1 i.1)) decl_fits (of_both code_fits catches_fit (λ c cs h k. (h, k)))
      (λ ds c h k. record { decls = h.0; locals = h.1; code = k.0; catches = k.1 })

  pub body_fits : Yields P n body (BodyFits P n)
  unfolding body
  body_fits = keep (skip block_fits)
