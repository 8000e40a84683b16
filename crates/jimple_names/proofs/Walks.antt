-- The walk over a body, step by step: its locals, the labels before its first statement, and what stands behind it.
use Rattle.std.proofs.Common.{◌-◌, ◌≡◌, ℕ, suc, ◌+◌, ◌<◌, ◌≤◌, ◌^◌, List, [], ◌∷◌, ◌++◌, length, map, take, drop, Option, None, refl, sym, ◌∙◌, ap, subst, arith, append-nil, append_assoc}
use Rattle.std.specs.List.{All, filter_map}
use Rattle.std.proofs.Math.ListN.{get_or}
use Rattle.std.proofs.lemmas.List.{get_or_default, length-take-le, length-map, map-append}
use Rattle.std.proofs.lemmas.List.Elements.{All-get_or, filter_map-append}
use Rattle.jimple_tree.specs.declared.tree.Stmt.{Stmt}
use Rattle.jimple_grammar.specs.declared.lexeme.Lexeme.{Lexeme}
use Rattle.jimple_grammar.specs.declared.raw.RawCode.{RawCode}
use Rattle.jimple_grammar.specs.declared.raw.RawItem.{RawItem}
use Rattle.jimple_grammar.specs.declared.raw.RawItem.TheVariants as items
use Rattle.jimple_grammar.specs.declared.raw.RawStmt.{RawStmt}
use Rattle.jimple_grammar.specs.Fits.{CodeFits, ItemFits, StmtFits}
use Rattle.jimple_names.specs.declared.scope.Label.{Label}
use Rattle.jimple_names.specs.declared.stop.NameFault.{NameFault}
use Rattle.jimple_names.specs.declared.stop.NameStop.{NameStop}
use Rattle.jimple_names.specs.Texts.{name_of}
use Rattle.jimple_names.specs.Scope.{Scope, stmt_in, items_of, stmts_of, labels_from}
use Rattle.jimple_names.specs.Tree.{stmt_of}
use Rattle.jimple_names.specs.Faults.{◌or◌, in_turn, declared_fault, item_fault, stmt_fault}
use Rattle.jimple_names.specs.Resolving.{Given}
use Rattle.jimple_names.specs.Walking.{Stopped, label_of, place_behind, number_behind, numbered_local, numbered_label, numbered_fault, front_of}
use Rattle.jimple_names.proofs.Turns.{in_turn_append, more, split, turn_more, turn_fault}
use Rattle.jimple_names.proofs.Doubles.{local_own, item_own, labels_append, labels_only, number_more, place_more, no_stmts}
use Rattle.jimple_names.proofs.Stops.{stopped}

-- an item is the one at its place
pub itself : {A : Type 0} (xs : List A) (i : ℕ) (d : A) → i < length xs → get_or xs i d ≡ get_or xs i (get_or xs i d)
itself xs i d less = get_or_default xs i d (get_or xs i d) less

-- Locals

module _ (bytes : List ℕ) (s : Scope) (ts : List Lexeme) (i : ℕ) (less : i < length ts) (same : s.locals ≡ map (name_of bytes) ts) (total : Option NameFault) (is : total ≡ in_turn (declared_fault bytes) (take i ts) (drop i ts)) where
  pub locals_more : (d : Lexeme) → numbered_local bytes s i (get_or ts i d) ≡ None → total ≡ in_turn (declared_fault bytes) (take (i + 1) ts) (drop (i + 1) ts)
  locals_more d none = let t : Lexeme = get_or ts i d in let at = itself ts i d less in turn_more ts i t less at (declared_fault bytes) [] total is (sym (local_own bytes s ts i t less at same) ∙ none)

  pub locals_stop : (d : Lexeme) (e : NameStop) → Stopped e (numbered_local bytes s i (get_or ts i d)) → Stopped e total
  locals_stop d e h = let t : Lexeme = get_or ts i d in let at = itself ts i d less in
      stopped e (numbered_local bytes s i t) total (λ f some. turn_fault ts i t less at (declared_fault bytes) [] total is f (sym (local_own bytes s ts i t less at same) ∙ some)) h

-- Labels before the first statement

module _ (bytes : List ℕ) (s : Scope) where
  -- a label behind labels
  abbrev pub label_fault : List Lexeme → Lexeme → Option NameFault
  label_fault before t = item_fault bytes s (map items.Label before) (items.Label t)

  labels_behind : (before ts : List Lexeme) → in_turn (item_fault bytes s) (map items.Label before) (map items.Label ts) ≡ in_turn label_fault before ts
  labels_behind before [] = refl
  labels_behind before (t ∷ ts) = ap (λ (r : Option NameFault). label_fault before t or r) (ap (λ (zs : List RawItem). in_turn (item_fault bytes s) zs (map items.Label ts)) (sym (map-append items.Label before (t ∷ []))) ∙ labels_behind (before ++ t ∷ []) ts)

  pub labels_turn : (ts : List Lexeme) → in_turn (item_fault bytes s) [] (map items.Label ts) ≡ in_turn label_fault [] ts
  labels_turn ts = labels_behind [] ts

  module _ (c : RawCode) (same : s.labels ≡ labels_from bytes 0 (items_of c)) where
    front_own : (i : ℕ) (t : Lexeme) → i < length c.labels → t ≡ get_or c.labels i t → numbered_label bytes s i t ≡ label_fault (take i c.labels) t
    front_own i t less at =
        let before : List RawItem = map items.Label (take i c.labels) in
        let rest : List RawItem = map items.Label (drop (i + 1) c.labels) ++ items.Stmt c.front ∷ c.rest in
        let parts : items_of c ≡ before ++ items.Label t ∷ rest =
        ap (λ (zs : List RawItem). zs ++ items.Stmt c.front ∷ c.rest) (ap (map items.Label) (split c.labels i t less at []) ∙ map-append items.Label (take i c.labels) (t ∷ drop (i + 1) c.labels))
        ∙ append_assoc before (items.Label t ∷ map items.Label (drop (i + 1) c.labels)) (items.Stmt c.front ∷ c.rest) in
        let long : i ≡ length (labels_from bytes 0 before) = sym (ap length (labels_only bytes 0 (take i c.labels)) ∙ length-map (take i c.labels) (label_of bytes 0) ∙ length-take-le i c.labels (omega (arith, less))) in
        item_own bytes s before rest (items.Label t) i (same ∙ ap (labels_from bytes 0) parts) long

    module _ (i : ℕ) (less : i < length c.labels) (total : Option NameFault) (is : total ≡ in_turn label_fault (take i c.labels) (drop i c.labels)) where
      pub labels_more : (us : List Lexeme) → us ≡ c.labels → (d : Lexeme) → numbered_label bytes s i (get_or us i d) ≡ None → total ≡ in_turn label_fault (take (i + 1) c.labels) (drop (i + 1) c.labels)
      labels_more us e d found = let none = subst (λ (vs : List Lexeme). numbered_label bytes s i (get_or vs i d) ≡ None) e found in let t : Lexeme = get_or c.labels i d in let at = itself c.labels i d less in turn_more c.labels i t less at label_fault [] total is (sym (front_own i t less at) ∙ none)

      pub labels_stop : (us : List Lexeme) → us ≡ c.labels → (d : Lexeme) (e : NameStop) → Stopped e (numbered_label bytes s i (get_or us i d)) → Stopped e total
      labels_stop us q d e found = let h = subst (λ (vs : List Lexeme). Stopped e (numbered_label bytes s i (get_or vs i d))) q found in let t : Lexeme = get_or c.labels i d in let at = itself c.labels i d less in
          stopped e (numbered_label bytes s i t) total (λ f some. turn_fault c.labels i t less at label_fault [] total is f (sym (front_own i t less at) ∙ some)) h

    -- What stands behind the first statement

    parted : items_of c ≡ front_of c ++ c.rest
    parted = sym (append_assoc (map items.Label c.labels) (items.Stmt c.front ∷ []) c.rest)

    pub front_number : length c.labels ≡ length (labels_from bytes 0 (front_of c))
    front_number = sym (ap length (labels_append bytes 0 (map items.Label c.labels) (items.Stmt c.front ∷ []) ∙ append-nil (labels_from bytes 0 (map items.Label c.labels)) ∙ labels_only bytes 0 c.labels) ∙ length-map c.labels (label_of bytes 0))

    module _ (i : ℕ) (x : RawItem) (less : i < length c.rest) (at : x ≡ get_or c.rest i x) (n : ℕ) (long : n ≡ length (labels_from bytes 0 (front_of c ++ take i c.rest))) where
      rest_own : numbered_fault bytes s n x ≡ item_fault bytes s (front_of c ++ take i c.rest) x
      rest_own = item_own bytes s (front_of c ++ take i c.rest) (drop (i + 1) c.rest) x n (same ∙ ap (labels_from bytes 0) (parted ∙ split c.rest i x less at (front_of c))) long

      grown : (front_of c ++ take i c.rest) ++ x ∷ [] ≡ front_of c ++ take (i + 1) c.rest
      grown = append_assoc (front_of c) (take i c.rest) (x ∷ []) ∙ ap (λ (zs : List RawItem). front_of c ++ zs) (sym (more c.rest i x less at))

      pub rest_number : number_behind n x ≡ length (labels_from bytes 0 (front_of c ++ take (i + 1) c.rest))
      rest_number = number_more bytes (front_of c ++ take i c.rest) x n long ∙ ap (λ (zs : List RawItem). length (labels_from bytes 0 zs)) grown

      module _ (total : Option NameFault) (is : total ≡ in_turn (item_fault bytes s) (front_of c ++ take i c.rest) (drop i c.rest)) where
        pub rest_more : numbered_fault bytes s n x ≡ None → total ≡ in_turn (item_fault bytes s) (front_of c ++ take (i + 1) c.rest) (drop (i + 1) c.rest)
        rest_more none = turn_more c.rest i x less at (item_fault bytes s) (front_of c) total is (sym rest_own ∙ none)

        pub rest_stop : (e : NameStop) → Stopped e (numbered_fault bytes s n x) → Stopped e total
        rest_stop e h = stopped e (numbered_fault bytes s n x) total (λ f some. turn_fault c.rest i x less at (item_fault bytes s) (front_of c) total is f (sym rest_own ∙ some)) h

    -- the labels in front, the first statement and the rest
    pub whole_fault : in_turn (item_fault bytes s) [] (items_of c) ≡ (in_turn (item_fault bytes s) [] (map items.Label c.labels) or stmt_fault bytes s c.front or in_turn (item_fault bytes s) (front_of c) c.rest)
    whole_fault = in_turn_append (item_fault bytes s) [] (map items.Label c.labels) (items.Stmt c.front ∷ c.rest)

  pub whole_stmts : (c : RawCode) → map (stmt_of bytes s) (stmts_of (items_of c)) ≡ stmt_of bytes s c.front ∷ map (stmt_of bytes s) (stmts_of c.rest)
  whole_stmts c = ap (map (stmt_of bytes s)) (filter_map-append stmt_in (map items.Label c.labels) (items.Stmt c.front ∷ c.rest) ∙ ap (λ (zs : List RawStmt). zs ++ c.front ∷ stmts_of c.rest) (no_stmts bytes c.labels))

  -- one item more
  pub stmts_more : (xs : List RawItem) (i : ℕ) (x : RawItem) → i < length xs → x ≡ get_or xs i x → (front now next : List Stmt) → now ≡ front ++ map (stmt_of bytes s) (stmts_of (take i xs)) → next ≡ now ++ map (stmt_of bytes s) (stmts_of (x ∷ []))
      → next ≡ front ++ map (stmt_of bytes s) (stmts_of (take (i + 1) xs))
  stmts_more xs i x less at front now next is e =
      e ∙ ap (λ (zs : List Stmt). zs ++ map (stmt_of bytes s) (stmts_of (x ∷ []))) is ∙ append_assoc front (map (stmt_of bytes s) (stmts_of (take i xs))) (map (stmt_of bytes s) (stmts_of (x ∷ [])))
      ∙ ap (λ (zs : List Stmt). front ++ zs) (sym (map-append (stmt_of bytes s) (stmts_of (take i xs)) (stmts_of (x ∷ []))) ∙ ap (map (stmt_of bytes s)) (sym (ap (filter_map stmt_in) (more xs i x less at) ∙ filter_map-append stmt_in (take i xs) (x ∷ []))))

  pub later_more : (xs : List RawItem) (i : ℕ) (x : RawItem) → i < length xs → x ≡ get_or xs i x → (place : ℕ) → place ≡ suc (length (stmts_of (take i xs))) → (front now next : List Label) → now ≡ front ++ labels_from bytes 1 (take i xs) → next ≡ now ++ labels_from bytes place (x ∷ [])
      → next ≡ front ++ labels_from bytes 1 (take (i + 1) xs)
  later_more xs i x less at place count front now next is e =
      let one : 1 + length (stmts_of (take i xs)) ≡ place = omega (arith, count) in
      e ∙ ap (λ (zs : List Label). zs ++ labels_from bytes place (x ∷ [])) is ∙ append_assoc front (labels_from bytes 1 (take i xs)) (labels_from bytes place (x ∷ []))
      ∙ ap (λ (zs : List Label). front ++ zs) (sym (ap (labels_from bytes 1) (more xs i x less at) ∙ labels_append bytes 1 (take i xs) (x ∷ []) ∙ ap (λ (m : ℕ). labels_from bytes 1 (take i xs) ++ labels_from bytes m (x ∷ [])) one))

pub place_count : (xs : List RawItem) (i : ℕ) (x : RawItem) → i < length xs → x ≡ get_or xs i x → (place : ℕ) → place ≡ suc (length (stmts_of (take i xs))) → place_behind place x ≡ suc (length (stmts_of (take (i + 1) xs)))
place_count xs i x less at place count = place_more [] (take i xs) x place count ∙ ap (λ (zs : List RawItem). suc (length (stmts_of zs))) (sym (more xs i x less at))

pub place_few : (place : ℕ) (x : RawItem) → place_behind place x ≤ suc place
place_few place (items.Label t) = omega arith
place_few place (items.Stmt y) = omega arith

pub number_few : (n : ℕ) (x : RawItem) → number_behind n x ≤ suc n
number_few n (items.Label t) = omega arith
number_few n (items.Stmt y) = omega arith

-- Given

module _ (bytes : List ℕ) (c : RawCode) (given : Given bytes (λ P n. CodeFits P n c)) where
  pub front_given : Given bytes (λ P n. StmtFits P n c.front)
  front_given = (given.0, given.1, given.2.front)

  pub item_given : (xs : List RawItem) (i : ℕ) (x : RawItem) → xs ≡ c.rest → i < length xs → x ≡ get_or xs i x → Given bytes (λ P n. ItemFits P n x)
  item_given xs i x is less at =
      let all = subst (All (ItemFits _ _)) (sym is) given.2.rest in
      (given.0, given.1, subst (ItemFits _ _) (sym at) (All-get_or (ItemFits _ _) xs i x less all))

  -- so few labels and statements that their places have numbers
  pub few_given : length c.labels + length c.rest < 2 ^ 32 - 1
  few_given = let many = given.1 in let few = given.2.few in omega (arith, many, few)
