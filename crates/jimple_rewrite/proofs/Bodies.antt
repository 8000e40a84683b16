-- Bodies are read again, with the scope of their own names.
-- Members stand above, statements and scopes below.
use Rattle.std.proofs.Common.{◌≡◌, ◌≢◌, ℕ, zero, suc, ◌+◌, ◌<◌, ◌≤◌, ◌^◌, Bool, true, false, cond, List, [], ◌∷◌, ◌++◌, length, drop, map, get_or, is_some, sym, ap, subst, refl, ◌∙◌, arith, codes, Option, Some, None, append_assoc, append-nil}
use Rattle.std.specs.List.{AllByRecursion, find, flat_map, position_from}
use Rattle.std.specs.Option.{option_map}
use Rattle.std.specs.Str.{bytes_eq}
use Rattle.std.proofs.lemmas.List.{length-map, map-append}
use Rattle.std.proofs.lemmas.Iterator.Adapters.{position_from-zero}
use Rattle.clean_base.specs.Limits.{most_locals}
use Rattle.jimple_tree.specs.Labels.{is_named, label_number, label_text, label_line, targets_of, catch_places}
use Rattle.jimple_tree.specs.Names.{name_text}
use Rattle.jimple_tree.specs.Operands.{type_text}
use Rattle.jimple_tree.specs.Statements.{stmt_line, local_line, lines_from, catch_line, body_text}
use Rattle.jimple_tree.specs.WellFormed.{StmtFits, CatchFits, BodyFits, AreDistinct}
use Rattle.jimple_tree.specs.declared.tree.Body.{Body}
use Rattle.jimple_tree.specs.declared.tree.Catch.{Catch}
use Rattle.jimple_tree.specs.declared.tree.JType.{JType}
use Rattle.jimple_tree.specs.declared.tree.Local.{Local}
use Rattle.jimple_tree.specs.declared.tree.Stmt.{Stmt}
use Rattle.jimple_grammar.specs.Grammar.{Look, Grammar, both, many, plain, ends}
use Rattle.jimple_grammar.specs.Forms.{label, catches, before_item, front_items, coded, later_slots, slots, declared_as, decl, before_decl, code_catches, bodied, room_behind}
use Rattle.jimple_grammar.specs.AsWritten.{stmt_as_written, item_as_written, items_as_written, code_as_written}
use Rattle.jimple_grammar.specs.declared.lexeme.Lexeme.{Lexeme}
use Rattle.jimple_grammar.specs.declared.raw.RawBody.{RawBody}
use Rattle.jimple_grammar.specs.declared.raw.RawCatch.{RawCatch}
use Rattle.jimple_grammar.specs.declared.raw.RawCode.{RawCode}
use Rattle.jimple_grammar.specs.declared.raw.RawDecl.{RawDecl}
use Rattle.jimple_grammar.specs.declared.raw.RawItem.{RawItem}
use Rattle.jimple_grammar.specs.declared.raw.RawItem.TheVariants as items
use Rattle.jimple_grammar.specs.declared.raw.RawStmt.{RawStmt}
use Rattle.jimple_names.specs.declared.scope.Label.{Label}
use Rattle.jimple_names.specs.declared.stop.NameFault.{NameFault}
use Rattle.jimple_names.specs.Faults.{◌or◌, stmt_fault, double, in_turn, item_fault, catch_fault, declared_fault, body_fault, first}
use Rattle.jimple_names.specs.Scope.{Scope, items_of, stmts_of, labels_from, declared, scope_of, local_at, label_at}
use Rattle.jimple_names.specs.Texts.{name_of}
use Rattle.jimple_names.specs.Tree.{locals_of, stmt_of, catch_of, body_of}
use Rattle.jimple_rewrite.proofs.Known.{Knows, label_of, label_if, labels_of, known_scope}
use Rattle.jimple_rewrite.proofs.Written.{LocalIsWritten, StmtIsWritten, CatchIsWritten, BodyIsWritten, LocalsAreDistinct}
use Rattle.jimple_rewrite.proofs.Follows.{WordStop}
use Rattle.jimple_rewrite.proofs.Lists.{all_first, all_three}
use Rattle.jimple_rewrite.proofs.LookUps.{other_name, label_past}
use Rattle.jimple_rewrite.proofs.Operands.{type_reread, all_values, no_fault_after}
use Rattle.jimple_rewrite.proofs.Reread.{IsReread, Anything, Zipped, none, then, right, both_right, before, written, apart, app, keep_before, left, other, of_one, behind, in_front, listed, many_last, many_more, many_as, each_alone}
use Rattle.jimple_rewrite.proofs.Scopes.{stmts_named, catches_named, knows, before_differ, texts_apart}
use Rattle.jimple_rewrite.proofs.Statements.{a_label, StmtIs, CanStmt, stmt_reread, CatchIs, CanCatch, catch_reread}
use Rattle.jimple_rewrite.proofs.Tokens.{semicolon, colon, a_name}

-- Labels in front of other items

stmts_behind : (ls : List Lexeme) (is : List RawItem) → stmts_of (map items.Label ls ++ is) ≡ stmts_of is
stmts_behind [] is = refl
stmts_behind (l ∷ ls) is = stmts_behind ls is

some_none : {A : Type 0} (x : A) → ◌≡◌ {A = Option A} (Some x) None → ⊥
some_none x e = cc

-- found in neither of two lists
none_behind : (ls ks : List Label) (name : List ℕ) → label_at ls name ≡ None → label_at ks name ≡ None → label_at (ls ++ ks) name ≡ None
none_behind [] ks name e f = f
none_behind (l ∷ ls) ks name e f = of (bytes_eq l.name name) e (λ g. none_behind ls ks name g f) where
  of : (c : Bool) → option_map (λ (k : Label). k.place) (cond c (Some l) (find (λ (k : Label). bytes_eq k.name name) ls)) ≡ None → (label_at ls name ≡ None → label_at (ls ++ ks) name ≡ None)
      → option_map (λ (k : Label). k.place) (cond c (Some l) (find (λ (k : Label). bytes_eq k.name name) (ls ++ ks))) ≡ None
  of true g rec = absurd (some_none l.place g)
  of false g rec = rec g

same_items : (ls : List Lexeme) → map (λ (t : Lexeme). t) ls ≡ ls
same_items [] = refl
same_items (l ∷ ls) = ap (λ (ks : List Lexeme). l ∷ ks) (same_items ls)

module _ (bytes : List ℕ) where
  -- the label of a place, if it is named
  pub data Marked : Bool → ℕ → List Lexeme → Type 0 where
    marked : {number : ℕ} (t : Lexeme) → name_of bytes t ≡ label_text number → Marked true number (t ∷ [])
    unmarked : {number : ℕ} → Marked false number []

  one_label : (named : Bool) (place number : ℕ) (ls : List Lexeme) (is : List RawItem) → Marked named number ls
      → labels_from bytes place (map items.Label ls ++ is) ≡ label_if named (let l : Label = record { name = label_text number; place = place } in l) (labels_from bytes place is)
  one_label true place number ls is (marked t e) = ap (λ (name : List ℕ). let l : Label = record { name = name; place = place } in l ∷ labels_from bytes place is) e
  one_label false place number ls is unmarked = refl

  -- the labels of a line, of another name
  other_labels : (named : Bool) (place number : ℕ) (ls : List Lexeme) (r : RawStmt) (name : List ℕ) → Marked named number ls → label_text number ≢ name → label_at (labels_from bytes place (map items.Label ls ++ items.Stmt r ∷ [])) name ≡ None
  other_labels true place number ls r name (marked t e) apart = ap (λ (n : List ℕ). label_at ((let l : Label = record { name = n; place = place } in l) ∷ []) name) e ∙ label_past (let l : Label = record { name = label_text number; place = place } in l) [] name apart
  other_labels false place number ls r name unmarked apart = refl

  label_turn : (s : Scope) (named : Bool) (number : ℕ) (ls : List Lexeme) (before is : List RawItem) → Marked named number ls → (named ≡ true → label_at (labels_from bytes 0 before) (label_text number) ≡ None)
      → in_turn (item_fault bytes s) before (map items.Label ls ++ is) ≡ in_turn (item_fault bytes s) (before ++ map items.Label ls) is
  label_turn s true number ls before is (marked t e) fresh =
      let none : label_at (labels_from bytes 0 before) (name_of bytes t) ≡ None = ap (label_at (labels_from bytes 0 before)) e ∙ fresh refl in
      ap (λ (o : Option ℕ). double (is_some o) t or in_turn (item_fault bytes s) (before ++ items.Label t ∷ []) is) none
  label_turn s false number ls before is unmarked fresh = ap (λ (xs : List RawItem). in_turn (item_fault bytes s) xs is) (sym (append-nil before))

  -- labels, and then other items
  pub record Labelled {R B : Type 0} (wrap : Lexeme → R) (named : Bool) (number : ℕ) (H : List R × B → Type 0) (v : List R × B) : Type 0 where
    pub labels : List Lexeme
    pub others : List R
    pub is : v.0 ≡ map wrap labels ++ others
    pub mark : Marked named number labels
    pub rest : H (others, v.1)

abbrev IsLabel : {R : Type 0} → List ℕ → (Lexeme → R) → ℕ → R → Type 0
IsLabel bytes wrap number r = (t : Lexeme) × (r ≡ wrap t) × (name_of bytes t ≡ label_text number)

module _ {bytes : List ℕ} {R B : Type 0} (wrap : Lexeme → R) {look : Look} {a : Grammar R} {b : Grammar B}
    (each_label : (number : ℕ) → IsReread bytes a Anything (label_text number ++ codes ":\n") (IsLabel bytes wrap number)) where
  label_if_named : {Last : List ℕ → Type 0} {u : List ℕ} {H : List R × B → Type 0} (named : Bool) (number : ℕ) → IsReread bytes (plain listed look a b) Last u H
      → IsReread bytes (plain listed look a b) Last (cond named (codes "    " ++ label_text number ++ codes ":\n") [] ++ u) (Labelled bytes wrap named number H)
  label_if_named true number w = many_more tt (in_front (codes "    ") (each_label number) refl) w (λ rest p. tt) (λ r l. refl)
      (λ r rs y l h. record { labels = l.0 ∷ []; others = rs; is = ap (λ (q : R). q ∷ rs) l.1; mark = marked l.0 l.2; rest = h })
  label_if_named false number w = right w (λ v h. record { labels = []; others = v.0; is = refl; mark = unmarked; rest = h })

  label_in_front : {Last : List ℕ → Type 0} {u : List ℕ} {H : List R × B → Type 0} (body : Body) (place : ℕ) → IsReread bytes (plain listed look a b) Last u H
      → IsReread bytes (plain listed look a b) Last (label_line body place ++ u) (Labelled bytes wrap (is_named body place) (label_number body place) H)
  unfolding label_line
  label_in_front body place w = label_if_named (is_named body place) (label_number body place) w

-- Statements, each behind its label

module _ (bytes : List ℕ) (b : Body) (s : Scope) where
  -- the items are the labels and statements from this place on
  abbrev pub ItemsAre : ℕ → List RawItem → List Stmt → Type 0
  ItemsAre place is [] = (ls : List Lexeme) × Marked bytes (is_named b place) (label_number b place) ls × (is ≡ map items.Label ls)
  ItemsAre place is (x ∷ xs) = (ls : List Lexeme) × (r : RawStmt) × (later : List RawItem) × Marked bytes (is_named b place) (label_number b place) ls × StmtIs bytes s r x × ItemsAre (suc place) later xs × (is ≡ map items.Label ls ++ items.Stmt r ∷ later)

  -- the first statement, and the items behind it
  abbrev FrontIs : Stmt → List Stmt → RawStmt × List RawItem → Type 0
  FrontIs x xs front = StmtIs bytes s front.0 x × ItemsAre 1 front.1 xs

module _ {bytes : List ℕ} {b : Body} {s : Scope} (k : Knows b s) where
  label_reread : (number : ℕ) → IsReread bytes label Anything (label_text number ++ codes ":\n") (IsLabel bytes (λ t. t) number)
  label_reread number = both_right (then (λ x colon. x) (a_label k number) (behind (codes "\n") colon refl (λ rest. refl)) (λ rest p. refl)) (λ t c e o. (t, refl, e))

  line_reread : (x : Stmt) → CanStmt b x → IsReread bytes stmt_as_written Anything (stmt_line b x) (λ r. StmtIs bytes s r x)
  unfolding stmt_line
  line_reread x f = behind (codes "\n") (in_front (codes "        ") (stmt_reread k x f) refl) refl (λ rest. tt)

  item_label : (number : ℕ) → IsReread bytes item_as_written Anything (label_text number ++ codes ":\n") (IsLabel bytes items.Label number)
  unfolding item_as_written
  item_label number = left (of_one (app (none items.Label) (label_reread number)) (λ t l. (l.0, ap items.Label l.1, l.2)))

  item_line : (x : Stmt) → CanStmt b x → IsReread bytes item_as_written Anything (stmt_line b x) (λ i. (r : RawStmt) × (i ≡ items.Stmt r) × StmtIs bytes s r x)
  unfolding item_as_written
  item_line x f = other (of_one (app (none items.Stmt) (line_reread x f)) (λ r e. (r, refl, e)))

  lines_reread : (place : ℕ) (xs : List Stmt) → AllByRecursion (CanStmt b) xs → IsReread bytes (plain listed before_item item_as_written ends) Anything (lines_from b place xs) (λ v. ItemsAre bytes b s place v.0 xs)
  lines_reread place [] f = written (append-nil (label_line b place)) (right (label_in_front items.Label item_label {H = λ v. v.0 ≡ []} b place (many_last (none tt) (λ y e. refl)))
      (λ v l. (l.labels, l.mark, l.is ∙ ap (λ (is : List RawItem). map items.Label l.labels ++ is) l.rest ∙ append-nil (map items.Label l.labels))))
  lines_reread place (x ∷ xs) f = apart (label_line b place) (stmt_line b x) (lines_from b (suc place) xs) (right (label_in_front items.Label item_label {H = λ v. (r : RawStmt) × (later : List RawItem) × (v.0 ≡ items.Stmt r ∷ later) × StmtIs bytes s r x × ItemsAre bytes b s (suc place) later xs} b place
      (many_more tt (item_line x f.0) (lines_reread (suc place) xs f.1) (λ rest p. tt) (λ r e. refl) (λ i is y e h. (e.0, is, ap (λ (j : RawItem). j ∷ is) e.1, e.2, h))))
      (λ v (l : Labelled bytes items.Label (is_named b place) (label_number b place) _ v). (l.labels, l.rest.0, l.rest.1, l.mark, l.rest.3, l.rest.4, l.is ∙ ap (λ (is : List RawItem). map items.Label l.labels ++ is) l.rest.2)))

  code_reread : (xs : List Stmt) → 0 < length xs → AllByRecursion (CanStmt b) xs → IsReread bytes code_as_written Anything (lines_from b 0 xs) (λ c. ItemsAre bytes b s 0 (items_of c) xs)
  unfolding code_as_written items_as_written
  code_reread [] some f = absurd (omega (arith, some))
  code_reread (x ∷ xs) some f = apart (label_line b 0) (stmt_line b x) (lines_from b 1 xs) (many_as coded (label_in_front (λ t. t) label_reread {H = λ v. (v.0 ≡ []) × FrontIs bytes b s x xs v.1} b 0
      (many_last (then front_items (line_reread x f.0) (many_as (λ is end. is) (lines_reread 1 xs f.1) (λ is y h. h)) (λ rest p. tt)) (λ y h. (refl, subst (FrontIs bytes b s x xs) (sym h.is) (h.one, h.two)))))
      (λ ls y l. let same : ls ≡ l.labels = l.is ∙ ap (λ (us : List Lexeme). map (λ (t : Lexeme). t) l.labels ++ us) l.rest.0 ∙ append-nil (map (λ (t : Lexeme). t) l.labels) ∙ same_items l.labels in
      (l.labels, y.0, y.1, l.mark, l.rest.1.0, l.rest.1.1, ap (λ (us : List Lexeme). map items.Label us ++ items.Stmt y.0 ∷ y.1) same)))

-- Their labels and faults

module _ (bytes : List ℕ) (b : Body) (s : Scope) where
  labels_are : (place : ℕ) (is : List RawItem) (xs : List Stmt) → ItemsAre bytes b s place is xs → labels_from bytes place is ≡ labels_of b place xs
  labels_are place is [] (ls, m, e) = ap (labels_from bytes place) (e ∙ sym (append-nil (map items.Label ls))) ∙ one_label bytes (is_named b place) place (label_number b place) ls [] m
  labels_are place is (x ∷ xs) (ls, r, later, m, i, a, e) =
      ap (labels_from bytes place) e ∙ one_label bytes (is_named b place) place (label_number b place) ls (items.Stmt r ∷ later) m ∙ ap (label_if (is_named b place) (label_of b place)) (labels_are (suc place) later xs a)

  stmts_are : (place : ℕ) (is : List RawItem) (xs : List Stmt) → ItemsAre bytes b s place is xs → Zipped (StmtIs bytes s) (stmts_of is) xs
  stmts_are place is [] (ls, m, e) = subst (λ rs. Zipped (StmtIs bytes s) rs []) (sym (ap stmts_of (e ∙ sym (append-nil (map items.Label ls))) ∙ stmts_behind ls [])) tt
  stmts_are place is (x ∷ xs) (ls, r, later, m, i, a, e) = subst (λ rs. Zipped (StmtIs bytes s) rs (x ∷ xs)) (sym (ap stmts_of e ∙ stmts_behind ls (items.Stmt r ∷ later))) (i, stmts_are (suc place) later xs a)

  labels_append : (at : ℕ) (xs ys : List RawItem) → labels_from bytes at (xs ++ ys) ≡ labels_from bytes at xs ++ labels_from bytes (at + length (stmts_of xs)) ys
  labels_append at [] ys = let n : at + 0 ≡ at = omega arith in rw n refl
  labels_append at (items.Label t ∷ xs) ys = ap (λ (ls : List Label). (let l : Label = record { name = name_of bytes t; place = at } in l) ∷ ls) (labels_append at xs ys)
  labels_append at (items.Stmt r ∷ xs) ys = let n : at + suc (length (stmts_of xs)) ≡ suc at + length (stmts_of xs) = omega arith in rw n (labels_append (suc at) xs ys)

  -- no label of a later place stands before
  abbrev Fresh : ℕ → List RawItem → Type 0
  Fresh place before = (p : ℕ) → place ≤ p → p ≤ length b.stmts → is_named b p ≡ true → label_at (labels_from bytes 0 before) (label_text (label_number b p)) ≡ None

  fresh_more : length b.stmts + 1 < 2 ^ 64 → (place : ℕ) (ls : List Lexeme) (r : RawStmt) (before : List RawItem) → Marked bytes (is_named b place) (label_number b place) ls → Fresh place before → Fresh (suc place) (before ++ (map items.Label ls ++ items.Stmt r ∷ []))
  fresh_more small place ls r before m fresh p from to n =
      let line : List RawItem = map items.Label ls ++ items.Stmt r ∷ [] in
      ap (λ (ks : List Label). label_at ks (label_text (label_number b p))) (labels_append 0 before line)
      ∙ none_behind (labels_from bytes 0 before) (labels_from bytes (0 + length (stmts_of before)) line) (label_text (label_number b p)) (fresh p (omega (arith, from)) to n)
      (other_labels bytes (is_named b place) (0 + length (stmts_of before)) (label_number b place) ls r (label_text (label_number b p)) m (texts_apart b place p (omega (arith, from)) (omega (arith, to, small)) n))

  no_item_fault : length b.stmts + 1 < 2 ^ 64 → (place : ℕ) (is : List RawItem) (xs : List Stmt) (before : List RawItem) → place + length xs ≤ length b.stmts → ItemsAre bytes b s place is xs → Fresh place before → in_turn (item_fault bytes s) before is ≡ None
  no_item_fault small place is [] before to (ls, m, e) fresh =
      ap (in_turn (item_fault bytes s) before) (e ∙ sym (append-nil (map items.Label ls))) ∙ label_turn bytes s (is_named b place) (label_number b place) ls before [] m (λ n. fresh place (omega arith) (omega (arith, to)) n)
  no_item_fault small place is (x ∷ xs) before to (ls, r, later, m, i, a, e) fresh =
      ap (in_turn (item_fault bytes s) before) e
      ∙ label_turn bytes s (is_named b place) (label_number b place) ls before (items.Stmt r ∷ later) m (λ n. fresh place (omega arith) (omega (arith, to)) n)
      ∙ ap (λ (g : Option NameFault). g or in_turn (item_fault bytes s) ((before ++ map items.Label ls) ++ items.Stmt r ∷ []) later) i.1
      ∙ ap (λ (ys : List RawItem). in_turn (item_fault bytes s) ys later) (append_assoc before (map items.Label ls) (items.Stmt r ∷ []))
      ∙ no_item_fault small (suc place) later xs (before ++ (map items.Label ls ++ items.Stmt r ∷ [])) (omega (arith, to)) a (fresh_more small place ls r before m fresh)

-- Locals

zipped_length : {R X : Type 0} (Q : R → X → Type 0) (rs : List R) (xs : List X) → Zipped Q rs xs → length rs ≡ length xs
zipped_length Q [] [] z = refl
zipped_length Q [] (x ∷ xs) z = absurd z
zipped_length Q (r ∷ rs) [] z = absurd z
zipped_length Q (r ∷ rs) (x ∷ xs) z = ap suc (zipped_length Q rs xs z.1)

none_from : (ds : List Local) (n : List ℕ) (i : ℕ) → AllByRecursion (λ (d : Local). d.name ≢ n) ds → position_from (λ m. bytes_eq m n) i (map (λ (d : Local). d.name) ds) ≡ None
none_from [] n i a = refl
none_from (d ∷ ds) n i a = rw (other_name d.name n a.0) (none_from ds n (i + 1) a.1)

none_at : (ds : List Local) (n : List ℕ) → AllByRecursion (λ (d : Local). d.name ≢ n) ds → local_at (map (λ (d : Local). d.name) ds) n ≡ None
none_at ds n a = position_from-zero (λ m. bytes_eq m n) (map (λ (d : Local). d.name) ds) ∙ none_from ds n 0 a

same_local : (type type2 : JType) (name name2 : List ℕ) → type ≡ type2 → name ≡ name2 → (let l : Local = record { ty = type; name = name } in l) ≡ (let m : Local = record { ty = type2; name = name2 } in m)
same_local type type2 name name2 t n = rw (t, n) refl

same_scope : (locals locals2 : List (List ℕ)) (labels labels2 : List Label) (count count2 : ℕ) → locals ≡ locals2 → labels ≡ labels2 → count ≡ count2
    → (let s : Scope = record { locals = locals; labels = labels; count = count } in s) ≡ (let t : Scope = record { locals = locals2; labels = labels2; count = count2 } in t)
same_scope locals locals2 labels labels2 count count2 l m c = rw (l, m, c) refl

same_body : (locals locals2 : List Local) (stmts stmts2 : List Stmt) (catches catches2 : List Catch) → locals ≡ locals2 → stmts ≡ stmts2 → catches ≡ catches2
    → (let b : Body = record { locals = locals; stmts = stmts; catches = catches } in b) ≡ (let c : Body = record { locals = locals2; stmts = stmts2; catches = catches2 } in c)
same_body locals locals2 stmts stmts2 catches catches2 l s c = rw (l, s, c) refl

module _ (bytes : List ℕ) where
  -- a declaration of one local
  abbrev DeclIs : RawDecl → Local → Type 0
  DeclIs d l = (locals_of bytes d ≡ l ∷ []) × (map (name_of bytes) d.names ≡ l.name ∷ [])

  names_are : (ds : List RawDecl) (ls : List Local) → Zipped DeclIs ds ls → map (name_of bytes) (flat_map (λ (d : RawDecl). d.names) ds) ≡ map (λ (l : Local). l.name) ls
  names_are [] [] z = refl
  names_are [] (l ∷ ls) z = absurd z
  names_are (d ∷ ds) [] z = absurd z
  names_are (d ∷ ds) (l ∷ ls) z =
      map-append (name_of bytes) d.names (flat_map (λ (e : RawDecl). e.names) ds)
      ∙ ap (λ (ns : List (List ℕ)). ns ++ map (name_of bytes) (flat_map (λ (e : RawDecl). e.names) ds)) z.0.1
      ∙ ap (λ (ns : List (List ℕ)). l.name ∷ ns) (names_are ds ls z.1)

  locals_are : (ds : List RawDecl) (ls : List Local) → Zipped DeclIs ds ls → flat_map (locals_of bytes) ds ≡ ls
  locals_are [] [] z = refl
  locals_are [] (l ∷ ls) z = absurd z
  locals_are (d ∷ ds) [] z = absurd z
  locals_are (d ∷ ds) (l ∷ ls) z = ap (λ (ms : List Local). ms ++ flat_map (locals_of bytes) ds) z.0.0 ∙ ap (λ (ms : List Local). l ∷ ms) (locals_are ds ls z.1)

  -- locals of distinct names
  no_double : (before ts : List Lexeme) (done xs : List Local) → map (name_of bytes) before ≡ map (λ (l : Local). l.name) done → map (name_of bytes) ts ≡ map (λ (l : Local). l.name) xs
      → AreDistinct (λ (l : Local). l.name) (done ++ xs) → in_turn (declared_fault bytes) before ts ≡ None
  no_double before [] done xs e f distinct = refl
  no_double before (t ∷ ts) done [] e f distinct = absurd cc
  no_double before (t ∷ ts) done (x ∷ xs) e f distinct =
      let head : name_of bytes t ≡ x.name = ap (λ (ns : List (List ℕ)). get_or ns 0 []) f in
      let none : local_at (map (name_of bytes) before) (name_of bytes t) ≡ None =
      ap (λ (ns : List (List ℕ)). local_at ns (name_of bytes t)) e ∙ ap (local_at (map (λ (l : Local). l.name) done)) head ∙ none_at done x.name (before_differ (λ (l : Local). l.name) done x xs distinct) in
      ap (λ (o : Option ℕ). double (is_some o) t or in_turn (declared_fault bytes) (before ++ t ∷ []) ts) none
      ∙ no_double (before ++ t ∷ []) ts (done ++ x ∷ []) xs
      (map-append (name_of bytes) before (t ∷ []) ∙ ap (λ (ns : List (List ℕ)). ns ++ name_of bytes t ∷ []) e ∙ ap (λ (n : List ℕ). map (λ (l : Local). l.name) done ++ n ∷ []) head ∙ sym (map-append (λ (l : Local). l.name) done (x ∷ [])))
      (ap (drop 1) f)
      (subst (AreDistinct (λ (l : Local). l.name)) (sym (append_assoc done (x ∷ []) xs)) distinct)

  -- Bodies

  raw_body_is : (b : Body) → BodyFits b → LocalsAreDistinct b → length b.stmts + 1 < 2 ^ 64 → (r : RawBody) → Zipped DeclIs r.decls b.locals → ItemsAre bytes b (known_scope b) 0 (items_of r.code) b.stmts
      → Zipped (CatchIs bytes (known_scope b)) r.catches b.catches → (body_of bytes r ≡ b) × (body_fault bytes r ≡ None)
  raw_body_is b f distinct small r decls lines caught =
      let s : Scope = known_scope b in
      let stmts = stmts_are bytes b s 0 (items_of r.code) b.stmts lines in
      let said = all_values (stmt_of bytes s) (stmt_fault bytes s) (stmts_of (items_of r.code)) b.stmts stmts in
      let handled = all_values (catch_of bytes s) (catch_fault bytes s) r.catches b.catches caught in
      let names = names_are r.decls b.locals decls in
      let scope : scope_of bytes r ≡ s = same_scope _ (map (λ (l : Local). l.name) b.locals) _ (labels_of b 0 b.stmts) _ (length b.stmts) names (labels_are bytes b s 0 (items_of r.code) b.stmts lines) (zipped_length (StmtIs bytes s) (stmts_of (items_of r.code)) b.stmts stmts) in (
        same_body _ b.locals _ b.stmts _ b.catches (locals_are r.decls b.locals decls)
            (ap (λ (t : Scope). map (stmt_of bytes t) (stmts_of (items_of r.code))) scope ∙ said.0)
            (ap (λ (t : Scope). map (catch_of bytes t) r.catches) scope ∙ handled.0),
        no_fault_after _ _ (no_double [] (declared r) [] b.locals refl names distinct) (no_fault_after _ _
            (ap (λ (t : Scope). in_turn (item_fault bytes t) [] (items_of r.code)) scope ∙ no_item_fault bytes b s small 0 (items_of r.code) b.stmts [] (omega arith) lines (λ p from to n. refl))
            (ap (λ (t : Scope). first (catch_fault bytes t) r.catches) scope ∙ handled.1)),
      )

module _ {bytes : List ℕ} where
  decl_reread : (room : ℕ) (l : Local) → LocalIsWritten l → IsReread bytes (decl (suc room)) Anything (local_line l) (λ d. DeclIs bytes d l)
  unfolding decl slots later_slots local_line
  decl_reread room l w = apart (codes "        " ++ type_text l.ty ++ codes " ") (name_text l.name) (codes ";\n") (both_right
      (then declared_as (behind (codes " ") (in_front (codes "        ") (type_reread l.ty w.1) refl) refl (λ rest. refl))
      (keep_before (written (append-nil (name_text l.name)) (then (λ x xs. x ∷ xs) (a_name l.name w.0) (before (many_as (λ xs end. xs) (many_last {K = λ v. v.0 ≡ []} (none tt) (λ y e. refl)) (λ xs y e. e)) (λ rest (p : WordStop rest). tt)) (λ rest p. p))) (behind (codes "\n") semicolon refl (λ rest. tt)) (λ rest p. refl)) (λ rest p. tt))
      (λ r ns t h. subst (λ (ks : List Lexeme). DeclIs bytes (declared_as r ks) l) (sym (h.is ∙ ap (λ (ks : List Lexeme). h.first ∷ ks) h.two))
      (ap (λ (m : Local). m ∷ []) (same_local _ l.ty _ l.name t h.one), ap (λ (n : List ℕ). n ∷ []) h.one)))

  decls_reread : {B : Type 0} {b : Grammar B} {u : List ℕ} {H : B → Type 0} (room : ℕ) (ls : List Local) → length ls ≤ room → AllByRecursion LocalIsWritten ls → IsReread bytes b Anything u H
      → IsReread bytes (many listed before_decl decl room_behind room b) Anything (flat_map local_line ls ++ u) (λ v. Zipped (DeclIs bytes) v.0 ls × H v.1)
  decls_reread room [] h all v = many_last v (λ y g. (tt, g))
  decls_reread zero (l ∷ ls) h all v = absurd (omega (arith, h))
  decls_reread {u = u} (suc room) (l ∷ ls) h all v = written (sym (append_assoc (local_line l) (flat_map local_line ls) u))
      (many_more room (decl_reread room l all.0) (decls_reread room ls (omega (arith, h)) all.1 v) (λ rest p. tt)
      (λ d i. let one = ap length i.1 in let same = length-map d.names (name_of bytes) in omega (arith, one, same)) (λ d ds y i g. ((i, g.0), g.1)))

  catches_reread : {b : Body} {s : Scope} (k : Knows b s) (cs : List Catch) → AllByRecursion (CanCatch b) cs → IsReread bytes catches Anything (flat_map (catch_line b) cs) (λ rs. Zipped (CatchIs bytes s) rs cs)
  unfolding catches
  catches_reread {b = b} {s = s} k cs all = many_as (λ xs end. xs) (each_alone (catch_line b) (CatchIs bytes s) (CanCatch b) (catch_reread k) (λ c rest. tt) cs all Anything (λ rest p. tt)) (λ xs y z. z)

  -- the inside of a body
  pub body_reread : (b : Body) → BodyFits b → BodyIsWritten b
      → IsReread bytes (many bodied before_decl decl room_behind most_locals (both code_catches code_as_written catches)) Anything (body_text b) (λ r. (body_of bytes r ≡ b) × (body_fault bytes r ≡ None))
  body_reread b f w =
      let few = w.few in
      let small : length b.stmts + 1 < 2 ^ 64 = omega (arith, few) in
      let k = knows b w.locals w.distinct small in
      let can = all_three (StmtFits b) StmtIsWritten (λ (x : Stmt). AllByRecursion (λ p. is_named b p ≡ true) (targets_of x)) b.stmts (all_first (StmtFits b) b.stmts f.stmts) w.stmts (stmts_named b) in
      let caught = all_three (CatchFits b) CatchIsWritten (λ (c : Catch). AllByRecursion (λ p. is_named b p ≡ true) (catch_places c)) b.catches (all_first (CatchFits b) b.catches f.catches) w.catches (catches_named b) in
      apart (flat_map local_line b.locals) (lines_from b 0 b.stmts) (flat_map (catch_line b) b.catches) (many_as bodied
      (decls_reread most_locals b.locals f.locals w.locals (then code_catches (code_reread k b.stmts f.has_statement can) (catches_reread k b.catches caught) (λ rest p. tt)))
      (λ ds y g. let h = g.1 in
      subst (λ (z : RawCode × List RawCatch). (body_of bytes (bodied ds z) ≡ b) × (body_fault bytes (bodied ds z) ≡ None)) (sym h.is) (raw_body_is bytes b f w.distinct small (bodied ds (h.first, h.second)) g.0 h.one h.two)))
