-- Bodies: the scope of what was found, and the parts of their faults.
use Rattle.std.proofs.Common.{◌≡◌, ℕ, suc, ◌<◌, ◌≤◌, ◌^◌, List, [], ◌∷◌, ◌++◌, length, map, flat_map, None, refl, sym, ◌∙◌, ap, subst, arith}
use Rattle.std.proofs.lemmas.List.{length-append, length-map, map-append}
use Rattle.std.proofs.lemmas.List.Elements.{filter_map-append}
use Rattle.clean_base.specs.Limits.{most_locals}
use Rattle.jimple_tree.specs.declared.tree.Catch.{Catch}
use Rattle.jimple_tree.specs.declared.tree.Local.{Local}
use Rattle.jimple_tree.specs.declared.tree.Stmt.{Stmt}
use Rattle.jimple_grammar.specs.declared.lexeme.Lexeme.{Lexeme}
use Rattle.jimple_grammar.specs.declared.raw.RawBody.{RawBody}
use Rattle.jimple_grammar.specs.declared.raw.RawCatch.{RawCatch}
use Rattle.jimple_grammar.specs.declared.raw.RawCode.{RawCode}
use Rattle.jimple_grammar.specs.declared.raw.RawDecl.{RawDecl}
use Rattle.jimple_grammar.specs.declared.raw.RawItem.{RawItem}
use Rattle.jimple_grammar.specs.declared.raw.RawItem.TheVariants as items
use Rattle.jimple_grammar.specs.declared.raw.RawStmt.{RawStmt}
use Rattle.jimple_grammar.specs.Fits.{BodyFits, CodeFits}
use Rattle.jimple_names.specs.declared.bodies.Parts.{Parts}
use Rattle.jimple_names.specs.declared.scope.Label.{Label}
use Rattle.jimple_names.specs.Texts.{name_of}
use Rattle.jimple_names.specs.Scope.{Scope, stmt_in, declared, items_of, stmts_of, labels_from, scope_of}
use Rattle.jimple_names.specs.declared.stop.NameStop.{NameStop}
use Rattle.jimple_names.specs.Faults.{first, in_turn, declared_fault, item_fault, catch_fault, body_fault}
use Rattle.jimple_names.specs.Tree.{declares, locals_of, stmt_of, catch_of}
use Rattle.jimple_names.specs.Resolving.{Given, seen}
use Rattle.jimple_names.specs.Walking.{Stopped, label_of, parts_of}
use Rattle.jimple_names.proofs.Doubles.{labels_append, labels_only, few_labels, no_stmts}
use Rattle.jimple_names.proofs.Stops.{stop_second, stop_third, no_fault}
use Rattle.jimple_names.proofs.Walks.{few_given}

pub parts_is : (ss ts : List Stmt) (cs ds : List Catch) → ss ≡ ts → cs ≡ ds → ◌≡◌ {A = Parts} (record { stmts = ss; catches = cs }) (record { stmts = ts; catches = ds })
parts_is ss ts cs ds e f = rw (e, f) refl

scope_parts : (ns ms : List (List ℕ)) (ls bs : List Label) (m n : ℕ) → ns ≡ ms → ls ≡ bs → m ≡ n → ◌≡◌ {A = Scope} (record { locals = ns; labels = ls; count = m }) (record { locals = ms; labels = bs; count = n })
scope_parts ns ms ls bs m n e f g = rw (e, f, g) refl

-- the scope of what is the same
pub same_scope : (ls ms : List Local) (bs ds : List Label) (n : ℕ) (s : Scope) → ls ≡ ms → bs ≡ ds → seen ms ds n ≡ s → seen ls bs n ≡ s
same_scope ls ms bs ds n s e f h = rw (e, f) h

module _ (bytes : List ℕ) where
  names_one : (d : RawDecl) (ts : List Lexeme) → map (λ (l : Local). l.name) (map (declares bytes d) ts) ≡ map (name_of bytes) ts
  names_one d [] = refl
  names_one d (t ∷ ts) = ap (λ (ns : List (List ℕ)). name_of bytes t ∷ ns) (names_one d ts)

  names_all : (ds : List RawDecl) → map (λ (l : Local). l.name) (flat_map (locals_of bytes) ds) ≡ map (name_of bytes) (flat_map (λ (d : RawDecl). d.names) ds)
  names_all [] = refl
  names_all (d ∷ ds) =
      map-append (λ (l : Local). l.name) (locals_of bytes d) (flat_map (locals_of bytes) ds) ∙ ap (λ (ns : List (List ℕ)). ns ++ map (λ (l : Local). l.name) (flat_map (locals_of bytes) ds)) (names_one d d.names)
      ∙ ap (λ (ns : List (List ℕ)). map (name_of bytes) d.names ++ ns) (names_all ds) ∙ sym (map-append (name_of bytes) d.names (flat_map (λ (e : RawDecl). e.names) ds))

  code_stmts : (c : RawCode) → stmts_of (items_of c) ≡ c.front ∷ stmts_of c.rest
  code_stmts c = filter_map-append stmt_in (map items.Label c.labels) (items.Stmt c.front ∷ c.rest) ∙ ap (λ (zs : List RawStmt). zs ++ c.front ∷ stmts_of c.rest) (no_stmts bytes c.labels)

  code_labels : (c : RawCode) → labels_from bytes 0 (items_of c) ≡ map (label_of bytes 0) c.labels ++ labels_from bytes 1 c.rest
  code_labels c =
      labels_append bytes 0 (map items.Label c.labels) (items.Stmt c.front ∷ c.rest)
      ∙ ap (λ (m : ℕ). labels_from bytes 0 (map items.Label c.labels) ++ labels_from bytes m (items.Stmt c.front ∷ c.rest)) (let none = ap length (no_stmts bytes c.labels) in omega (arith, none))
      ∙ ap (λ (bs : List Label). bs ++ labels_from bytes 1 c.rest) (labels_only bytes 0 c.labels)

  module _ (b : RawBody) where
    pub scope_is : (ls : List Local) (bs : List Label) (n : ℕ) → ls ≡ flat_map (locals_of bytes) b.decls → bs ≡ map (label_of bytes 0) b.code.labels ++ labels_from bytes 1 b.code.rest → n ≡ suc (length (stmts_of b.code.rest)) → seen ls bs n ≡ scope_of bytes b
    scope_is ls bs n e f g = scope_parts (map (λ (l : Local). l.name) ls) (map (name_of bytes) (declared b)) bs (labels_from bytes 0 (items_of b.code)) n (length (stmts_of (items_of b.code)))
        (ap (map (λ (l : Local). l.name)) e ∙ names_all b.decls) (f ∙ sym (code_labels b.code)) (g ∙ sym (ap length (code_stmts b.code)))

    module _ (given : Given bytes (λ P n. BodyFits P n b)) where
      pub code_given : Given bytes (λ P n. CodeFits P n b.code)
      code_given = (given.0, given.1, given.2.code)

      module _ (ls : List Local) (bs : List Label) (n : ℕ) (same : seen ls bs n ≡ scope_of bytes b) where
        pub labels_few : length bs < 2 ^ 32
        labels_few =
            let few = few_given bytes b.code code_given in
            let e = ap (λ (s : Scope). length s.labels) same ∙ ap length (code_labels b.code) in
            let l = length-append (map (label_of bytes 0) b.code.labels) (labels_from bytes 1 b.code.rest) in
            let m = length-map b.code.labels (label_of bytes 0) in
            let k = few_labels bytes 1 b.code.rest in
            omega (arith, few, e, l, m, k)

        pub locals_few : length ls ≤ most_locals
        locals_few =
            let e = sym (length-map ls (λ (l : Local). l.name)) ∙ ap (λ (s : Scope). length s.locals) same ∙ length-map (declared b) (name_of bytes) in
            let few = given.2.locals in
            omega (arith, e, few)

    pub labels_are : (bs old : List Label) (ts : List Lexeme) (rs : List RawItem) → bs ≡ old ++ labels_from bytes 1 rs → old ≡ map (label_of bytes 0) ts → ts ≡ b.code.labels → rs ≡ b.code.rest → bs ≡ map (label_of bytes 0) b.code.labels ++ labels_from bytes 1 b.code.rest
    labels_are bs old ts rs e f g h =
        e ∙ ap (λ (ls : List Label). ls ++ labels_from bytes 1 rs) (f ∙ ap (map (label_of bytes 0)) g) ∙ ap (λ (is : List RawItem). map (label_of bytes 0) b.code.labels ++ labels_from bytes 1 is) h

    -- Its parts, over a scope that is the body's

    module _ (s : Scope) (same : s ≡ scope_of bytes b) (us : List Lexeme) (are : us ≡ declared b) (none : in_turn (declared_fault bytes) [] us ≡ None) where
      no_double : in_turn (declared_fault bytes) [] (declared b) ≡ None
      no_double = subst (λ (ts : List Lexeme). in_turn (declared_fault bytes) [] ts ≡ None) are none

      pub stmts_stop : (e : NameStop) → Stopped e (in_turn (item_fault bytes s) [] (items_of b.code)) → Stopped e (body_fault bytes b)
      stmts_stop e h = stop_second (in_turn (declared_fault bytes) [] (declared b)) (in_turn (item_fault bytes (scope_of bytes b)) [] (items_of b.code)) (first (catch_fault bytes (scope_of bytes b)) b.catches) (body_fault bytes b) refl no_double e
          (subst (λ (z : Scope). Stopped e (in_turn (item_fault bytes z) [] (items_of b.code))) same h)

      module _ (no : in_turn (item_fault bytes s) [] (items_of b.code) ≡ None) (ks : List RawCatch) (these : ks ≡ b.catches) where
        no_item : in_turn (item_fault bytes (scope_of bytes b)) [] (items_of b.code) ≡ None
        no_item = subst (λ (z : Scope). in_turn (item_fault bytes z) [] (items_of b.code) ≡ None) same no

        pub catches_stop : (e : NameStop) → Stopped e (first (catch_fault bytes s) ks) → Stopped e (body_fault bytes b)
        catches_stop e h = stop_third (in_turn (declared_fault bytes) [] (declared b)) (in_turn (item_fault bytes (scope_of bytes b)) [] (items_of b.code)) (first (catch_fault bytes (scope_of bytes b)) b.catches) (body_fault bytes b) refl no_double no_item e
            (subst (λ (z : Scope). Stopped e (first (catch_fault bytes z) b.catches)) same (subst (λ (cs : List RawCatch). Stopped e (first (catch_fault bytes s) cs)) these h))

        pub body_none : first (catch_fault bytes s) ks ≡ None → body_fault bytes b ≡ None
        body_none h = no_fault (in_turn (declared_fault bytes) [] (declared b)) (in_turn (item_fault bytes (scope_of bytes b)) [] (items_of b.code)) (first (catch_fault bytes (scope_of bytes b)) b.catches) (body_fault bytes b) refl no_double no_item
            (subst (λ (z : Scope). first (catch_fault bytes z) b.catches ≡ None) same (subst (λ (cs : List RawCatch). first (catch_fault bytes s) cs ≡ None) these h))

        pub body_parts : (ss : List Stmt) (cs : List Catch) → ss ≡ map (stmt_of bytes s) (stmts_of (items_of b.code)) → cs ≡ map (catch_of bytes s) ks → ◌≡◌ {A = Parts} (record { stmts = ss; catches = cs }) (parts_of bytes b)
        body_parts ss cs e f =
            parts_is ss (map (stmt_of bytes (scope_of bytes b)) (stmts_of (items_of b.code))) cs (map (catch_of bytes (scope_of bytes b)) b.catches)
            (e ∙ ap (λ (z : Scope). map (stmt_of bytes z) (stmts_of (items_of b.code))) same) (f ∙ ap (map (catch_of bytes s)) these ∙ ap (λ (z : Scope). map (catch_of bytes z) b.catches) same)
