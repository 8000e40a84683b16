-- Code is any number of items with at least one statement among them.
use Rattle.std.proofs.Common.{◌≡◌, ◌↔◌, List, [], ◌∷◌, ◌++◌, map, sym, ◌∙◌, ap, subst, refl, inl, inr}
use Rattle.jimple_grammar.specs.declared.lexeme.Lexeme.{Lexeme}
use Rattle.jimple_grammar.specs.declared.raw.RawCode.{RawCode}
use Rattle.jimple_grammar.specs.declared.raw.RawItem.{RawItem}
use Rattle.jimple_grammar.specs.declared.raw.RawItem.TheVariants as items
use Rattle.jimple_grammar.specs.declared.raw.RawStmt.{RawStmt}
use Rattle.jimple_grammar.specs.Grammar.{Grammar, nothing, both, either, plain, ManySpells, last, more, ManyBegins, piece, end, later, Spells, Begins, ends, ◌<*>◌}
use Rattle.jimple_grammar.specs.Forms.{before_item, label, front_items, later_items, code}
use Rattle.jimple_grammar.specs.AsWritten.{stmt_as_written, item_as_written, items_as_written, items_of, HasStatement, WithStatement, code_as_written}
use Rattle.jimple_grammar.proofs.Starts.{laws}
use Rattle.jimple_grammar.proofs.Within.{same}
use Rattle.jimple_grammar.proofs.AsWrittenStatements.{items_are, code_is}

-- Trees changed by a function.
module _ {A B : Type 0} (k : A → B) (a : Grammar A) where
  changed_spells : (ts : List Lexeme) (x : A) → Spells a ts x → Spells (nothing k <*> a) ts (k x)
  changed_spells ts x h = (k, x, [], ts, refl, (refl, refl), h, refl)

  spells_changed : (ts : List Lexeme) (v : B) → Spells (nothing k <*> a) ts v → (x : A) × Spells a ts x × (v ≡ k x)
  spells_changed ts v h = (h.1, subst (λ (us : List Lexeme). Spells a us h.1) (sym (h.4 ∙ ap (λ (us : List Lexeme). us ++ h.3) h.5.0)) h.6, h.7 ∙ ap (λ (g : A → B). g h.1) h.5.1)

  changed_begins : (ts : List Lexeme) → Begins a ts → Begins (nothing k <*> a) ts
  changed_begins ts h = inr (k, [], ts, refl, (refl, refl), h)

  begins_changed : (ts : List Lexeme) → Begins (nothing k <*> a) ts → Begins a ts
  begins_changed ts (inl n) = subst (λ (us : List Lexeme). Begins a us) (sym n) (laws 0 a).empty
  begins_changed ts (inr q) = subst (λ (us : List Lexeme). Begins a us) (sym (q.3 ∙ ap (λ (us : List Lexeme). us ++ q.2) q.4.0)) q.5

-- Labels and statements, as any items and as the code of a body.
module _ (l : Grammar Lexeme) (s : Grammar RawStmt) where
  abbrev one : Grammar RawItem
  one = either (nothing items.Label <*> l) (nothing items.Stmt <*> s)

  abbrev any : Grammar (List RawItem)
  any = plain (λ xs end. xs) before_item one ends

  abbrev front : Grammar (RawStmt × List RawItem)
  front = both front_items s any

  abbrev on : {A : Type 0} → Unit {0} → A → Unit {0}
  on t x = t

  abbrev Any : List Lexeme → List RawItem × Unit {0} → Type 0
  Any = ManySpells (λ t. Spells one) on (Spells ends) tt

  abbrev Code : List Lexeme → List Lexeme × (RawStmt × List RawItem) → Type 0
  Code = ManySpells (λ t. Spells l) on (Spells front) tt

  abbrev in_row : List Lexeme × (RawStmt × List RawItem) → List RawItem × Unit {0}
  in_row z = (map items.Label z.0 ++ items.Stmt z.1.0 ∷ z.1.1, tt)

  row_spelled : {t : Unit {0}} {ts : List Lexeme} {z : List Lexeme × (RawStmt × List RawItem)} → ManySpells (λ t. Spells l) on (Spells front) t ts z → ManySpells (λ t. Spells one) on (Spells ends) t ts (in_row z)
  row_spelled {z} (last y h e) = more (items.Stmt h.0) h.6.0 h.2 h.3 h.4 (inr (changed_spells items.Stmt s h.2 h.0 h.5)) h.6.1
      (ap in_row (e ∙ ap (λ (y : RawStmt × List RawItem). ([], y)) (h.7 ∙ ap (λ (xs : List RawItem). (h.0, xs)) h.6.2)))
  row_spelled (more x z front rest parts h m e) = more (items.Label x) (in_row z) front rest parts (inl (changed_spells items.Label l front x h)) (row_spelled m) (ap in_row e)

  -- what an item is
  label_of : (ts : List Lexeme) (i : RawItem) (x : Lexeme) → Spells one ts i → i ≡ items.Label x → Spells l ts x
  label_of ts i x (inl h) e =
      let p = spells_changed items.Label l ts i h in
      let same_label : p.0 ≡ x = let k : i ≡ items.Label p.0 = p.2 in cc in
      subst (λ (y : Lexeme). Spells l ts y) same_label p.1
  label_of ts i x (inr h) e = let p = spells_changed items.Stmt s ts i h in absurd (let k : i ≡ items.Stmt p.0 = p.2 in cc)

  stmt_of : (ts : List Lexeme) (i : RawItem) (x : RawStmt) → Spells one ts i → i ≡ items.Stmt x → Spells s ts x
  stmt_of ts i x (inl h) e = let p = spells_changed items.Label l ts i h in absurd (let k : i ≡ items.Label p.0 = p.2 in cc)
  stmt_of ts i x (inr h) e =
      let p = spells_changed items.Stmt s ts i h in
      let same_stmt : p.0 ≡ x = let k : i ≡ items.Stmt p.0 = p.2 in cc in
      subst (λ (y : RawStmt). Spells s ts y) same_stmt p.1

  spelled_row : (labels : List Lexeme) (x : RawStmt) (rest : List RawItem) {t : Unit {0}} {ts : List Lexeme} {w : List RawItem × Unit {0}} → ManySpells (λ t. Spells one) on (Spells ends) t ts w
      → w.0 ≡ map items.Label labels ++ items.Stmt x ∷ rest → ManySpells (λ t. Spells l) on (Spells front) t ts (labels, (x, rest))
  spelled_row [] x rest (last y h e) q = absurd (let k : [] ≡ items.Stmt x ∷ rest = sym (ap (λ (z : List RawItem × Unit {0}). z.0) e) ∙ q in cc)
  spelled_row [] x rest (more i z before behind parts h m e) q =
      let k : i ∷ z.0 ≡ items.Stmt x ∷ rest = sym (ap (λ (z : List RawItem × Unit {0}). z.0) e) ∙ q in
      let is : i ≡ items.Stmt x = cc in
      let left : rest ≡ z.0 = cc in
      last (x, rest) (x, rest, before, behind, parts, stmt_of before i x h is, (z, m, left), refl) refl
  spelled_row (label ∷ labels) x rest (last y h e) q = absurd (let k : [] ≡ items.Label label ∷ (map items.Label labels ++ items.Stmt x ∷ rest) = sym (ap (λ (z : List RawItem × Unit {0}). z.0) e) ∙ q in cc)
  spelled_row (label ∷ labels) x rest (more i z before behind parts h m e) q =
      let k : i ∷ z.0 ≡ items.Label label ∷ (map items.Label labels ++ items.Stmt x ∷ rest) = sym (ap (λ (z : List RawItem × Unit {0}). z.0) e) ∙ q in
      let is : i ≡ items.Label label = cc in
      let left : z.0 ≡ map items.Label labels ++ items.Stmt x ∷ rest = cc in
      more label (labels, (x, rest)) before behind parts (label_of before i label h is) (spelled_row labels x rest m left) refl

  row_begins : {t : Unit {0}} {ts : List Lexeme} → ManyBegins (λ t. Spells l) on (λ t. Begins l) (Begins front) t ts → ManyBegins (λ t. Spells one) on (λ t. Begins one) (Begins ends) t ts
  row_begins (piece p) = piece (inl (changed_begins items.Label l _ p))
  row_begins (end h) = elim h [
    | inl p ↦ piece (inr (changed_begins items.Stmt s _ p))
    | inr q ↦ later (items.Stmt q.0) q.1 q.2 q.3 (inr (changed_spells items.Stmt s q.1 q.0 q.4)) q.5
  ]
  row_begins (later x before behind parts h m) = later (items.Label x) before behind parts (inl (changed_spells items.Label l before x h)) (row_begins m)

  begins_row : {t : Unit {0}} {ts : List Lexeme} → ManyBegins (λ t. Spells one) on (λ t. Begins one) (Begins ends) t ts → ManyBegins (λ t. Spells l) on (λ t. Begins l) (Begins front) t ts
  begins_row (piece h) = elim h [
    | inl p ↦ piece (begins_changed items.Label l _ p)
    | inr q ↦ end (inl (begins_changed items.Stmt s _ q))
  ]
  begins_row (end n) = end (inl (subst (λ (us : List Lexeme). Begins s us) (sym n) (laws 0 s).empty))
  begins_row (later i before behind parts h m) = elim h [
    | inl p ↦ let x = spells_changed items.Label l before i p in later x.0 before behind parts x.1 (begins_row m)
    | inr q ↦ let x = spells_changed items.Stmt s before i q in end (inr (x.0, before, behind, parts, x.1, m))
  ]

-- A list of items that has a statement begins with labels up to one.
taken_apart : (xs : List RawItem) → HasStatement xs → (v : RawCode) × (xs ≡ items_of v)
taken_apart [] h = absurd h
taken_apart (items.Label x ∷ rest) h = let p = taken_apart rest h in (record { labels = x ∷ p.0.labels; front = p.0.front; rest = p.0.rest }, ap (λ (ys : List RawItem). items.Label x ∷ ys) p.1)
taken_apart (items.Stmt s ∷ rest) h = (record { labels = []; front = s; rest = rest }, refl)

has_one : (labels : List Lexeme) (s : RawStmt) (rest : List RawItem) → HasStatement (map items.Label labels ++ items.Stmt s ∷ rest)
has_one [] s rest = tt
has_one (x ∷ labels) s rest = has_one labels s rest

all_items : (xs : List RawItem) → HasStatement xs ↔ ((v : RawCode) × (xs ≡ items_of v))
all_items xs = (taken_apart xs, (λ p. subst HasStatement (sym p.1) (has_one p.0.labels p.0.front p.0.rest)))

pub code_written : WithStatement code_as_written items_as_written
unfolding code_as_written items_as_written item_as_written
code_written = record {
  spells = λ ts v. ((λ h. (in_row label stmt_as_written h.0, row_spelled label stmt_as_written h.1, ap items_of h.2)), (λ h. ((v.labels, (v.front, v.rest)), spelled_row label stmt_as_written v.labels v.front v.rest h.1 (sym h.2), refl)));
  all = all_items;
  begins = λ ts. ((λ h. row_begins label stmt_as_written h), (λ h. begins_row label stmt_as_written h));
}

pub code_same : WithStatement code later_items
code_same =
    let c = same code_is in
    let i = same items_are in
    record {
      spells = λ ts v. ((λ h. (i.spells ts (items_of v)).1 ((code_written.spells ts v).0 ((c.spells ts v).0 h))), (λ h. (c.spells ts v).1 ((code_written.spells ts v).1 ((i.spells ts (items_of v)).0 h))));
      all = all_items;
      begins = λ ts. ((λ h. (i.begins ts).1 ((code_written.begins ts).0 ((c.begins ts).0 h))), (λ h. (c.begins ts).1 ((code_written.begins ts).1 ((i.begins ts).0 h))));
    }
