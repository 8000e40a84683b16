-- A name given twice: the number of the first of its name isn't its own.
use Rattle.std.proofs.Common.{◌≡◌, ℕ, suc, ◌+◌, ◌<◌, ◌≤◌, ◌==◌, Bool, true, false, not, is_some, List, [], ◌∷◌, ◌++◌, length, map, take, drop, Option, refl, sym, ◌∙◌, ap, subst, arith, rules}
use Rattle.std.specs.List.{find, position, position_from}
use Rattle.std.specs.Option.{option_map}
use Rattle.std.specs.Str.{bytes_eq}
use Rattle.std.proofs.Math.ListN.{get_or}
use Rattle.std.proofs.lemmas.Slice.Eq.{bytes_eq-Decides}
use Rattle.std.proofs.lemmas.List.{length-take-le, length-map, map-append}
use Rattle.std.proofs.lemmas.Iterator.Adapters.{position_from-zero}
use Rattle.jimple_grammar.specs.declared.lexeme.Lexeme.{Lexeme}
use Rattle.jimple_grammar.specs.declared.raw.RawItem.{RawItem}
use Rattle.jimple_grammar.specs.declared.raw.RawItem.TheVariants as items
use Rattle.jimple_names.specs.declared.scope.Label.{Label}
use Rattle.jimple_names.specs.declared.stop.NameFault.TheVariants.{DoubleName}
use Rattle.jimple_names.specs.Texts.{name_of}
use Rattle.jimple_names.specs.Scope.{Scope, stmts_of, labels_from, local_at}
use Rattle.jimple_names.specs.Faults.{unless, double, declared_fault, item_fault}
use Rattle.jimple_names.specs.Walking.{is_at, label_of, place_behind, number_behind, numbered_local, numbered_fault}
use Rattle.jimple_names.proofs.Turns.{split}

same_bytes : (xs : List ℕ) → bytes_eq xs xs ≡ true
same_bytes xs = let e : xs ≡ xs = refl in search (rules, bytes_eq-Decides, e)

unless_not : (b : Bool) (t : Lexeme) → unless (not b) (DoubleName t.from) ≡ double b t
unless_not true t = refl
unless_not false t = refl

-- the first that passes, where this one does
own_number : {A : Type 0} (p : A → Bool) (n : ℕ) (before : List A) (x : A) (rest : List A) → p x ≡ true → is_at (position_from p n (before ++ x ∷ rest)) (n + length before) ≡ not (is_some (position_from p n before))
own_number p n [] x rest e = rw e (let same : (n == n + 0) ≡ true = search (rules, arith) in same)
own_number {A} p n (b ∷ bs) x rest e = of (p b) refl (own_number p (n + 1) bs x rest e) where
  of : (c : Bool) → p b ≡ c → is_at (position_from p (n + 1) (bs ++ x ∷ rest)) (n + 1 + length bs) ≡ not (is_some (position_from p (n + 1) bs))
      → is_at (position_from p n (b ∷ bs ++ x ∷ rest)) (n + length (b ∷ bs)) ≡ not (is_some (position_from p n (b ∷ bs)))
  of true q h = rw q (let other : (n == n + suc (length bs)) ≡ false = search (rules, arith) in other)
  of false q h = rw q (let same : n + suc (length bs) ≡ n + 1 + length bs = omega arith in rw same h)

pub own : {A : Type 0} (p : A → Bool) (all before : List A) (x : A) (rest : List A) (n : ℕ) → all ≡ before ++ x ∷ rest → n ≡ length before → p x ≡ true → is_at (position p all) n ≡ not (is_some (position p before))
own p all before x rest n is long e =
    let zero_more : 0 + length before ≡ length before = omega arith in
    rw (is, long) (ap (λ (r : Option ℕ). is_at r (length before)) (position_from-zero p (before ++ x ∷ rest)) ∙ subst (λ (m : ℕ). is_at (position_from p 0 (before ++ x ∷ rest)) m ≡ not (is_some (position_from p 0 before))) zero_more (own_number p 0 before x rest e) ∙ ap (λ (r : Option ℕ). not (is_some r)) (sym (position_from-zero p before)))

found_some : (p : Label → Bool) (n : ℕ) (ls : List Label) → is_some (position_from p n ls) ≡ is_some (option_map (λ (l : Label). l.place) (find p ls))
found_some p n [] = refl
found_some p n (l ∷ ls) = of (p l) refl (found_some p (n + 1) ls) where
  of : (b : Bool) → p l ≡ b → is_some (position_from p (n + 1) ls) ≡ is_some (option_map (λ (m : Label). m.place) (find p ls)) → is_some (position_from p n (l ∷ ls)) ≡ is_some (option_map (λ (m : Label). m.place) (find p (l ∷ ls)))
  of true q h = rw q refl
  of false q h = rw q h

module _ (bytes : List ℕ) where
  pub local_own : (s : Scope) (ts : List Lexeme) (i : ℕ) (t : Lexeme) → i < length ts → t ≡ get_or ts i t → s.locals ≡ map (name_of bytes) ts → numbered_local bytes s i t ≡ declared_fault bytes (take i ts) t
  local_own s ts i t less at is =
      let all : s.locals ≡ map (name_of bytes) (take i ts) ++ name_of bytes t ∷ map (name_of bytes) (drop (i + 1) ts) = is ∙ ap (map (name_of bytes)) (split ts i t less at []) ∙ map-append (name_of bytes) (take i ts) (t ∷ drop (i + 1) ts) in
      let long : i ≡ length (map (name_of bytes) (take i ts)) = sym (length-map (take i ts) (name_of bytes) ∙ length-take-le i ts (omega (arith, less))) in
      ap (λ (b : Bool). unless b (DoubleName t.from)) (own (λ n. bytes_eq n (name_of bytes t)) s.locals (map (name_of bytes) (take i ts)) (name_of bytes t) (map (name_of bytes) (drop (i + 1) ts)) i all long (same_bytes (name_of bytes t)))
      ∙ unless_not (is_some (local_at (map (name_of bytes) (take i ts)) (name_of bytes t))) t

  -- Labels

  pub labels_append : (at : ℕ) (xs ys : List RawItem) → labels_from bytes at (xs ++ ys) ≡ labels_from bytes at xs ++ labels_from bytes (at + length (stmts_of xs)) ys
  labels_append at [] ys = let n : at + 0 ≡ at = omega arith in rw n refl
  labels_append at (items.Label t ∷ xs) ys = ap (λ (ls : List Label). label_of bytes at t ∷ ls) (labels_append at xs ys)
  labels_append at (items.Stmt s ∷ xs) ys = let n : at + suc (length (stmts_of xs)) ≡ suc at + length (stmts_of xs) = omega arith in rw n (labels_append (suc at) xs ys)

  pub labels_only : (at : ℕ) (ts : List Lexeme) → labels_from bytes at (map items.Label ts) ≡ map (label_of bytes at) ts
  labels_only at [] = refl
  labels_only at (t ∷ ts) = ap (λ (ls : List Label). label_of bytes at t ∷ ls) (labels_only at ts)

  stmts_append : (xs ys : List RawItem) → length (stmts_of (xs ++ ys)) ≡ length (stmts_of xs) + length (stmts_of ys)
  stmts_append [] ys = omega arith
  stmts_append (items.Label t ∷ xs) ys = stmts_append xs ys
  stmts_append (items.Stmt s ∷ xs) ys = let e = stmts_append xs ys in omega (arith, e)

  pub no_stmts : (ts : List Lexeme) → stmts_of (map items.Label ts) ≡ []
  no_stmts [] = refl
  no_stmts (t ∷ ts) = no_stmts ts

  -- one label more
  pub number_more : (before : List RawItem) (x : RawItem) (n : ℕ) → n ≡ length (labels_from bytes 0 before) → number_behind n x ≡ length (labels_from bytes 0 (before ++ x ∷ []))
  number_more before (items.Label t) n is = rw is (sym (ap length (labels_append 0 before (items.Label t ∷ [])) ∙ length_push (labels_from bytes 0 before) (label_of bytes (0 + length (stmts_of before)) t))) where
    length_push : (ls : List Label) (l : Label) → length (ls ++ l ∷ []) ≡ suc (length ls)
    length_push [] l = refl
    length_push (k ∷ ls) l = ap suc (length_push ls l)
  number_more before (items.Stmt s) n is = is ∙ sym (ap length (labels_append 0 before (items.Stmt s ∷ [])) ∙ length_nil (labels_from bytes 0 before)) where
    length_nil : (ls : List Label) → length (ls ++ []) ≡ length ls
    length_nil [] = refl
    length_nil (k ∷ ls) = ap suc (length_nil ls)

  -- one statement more
  pub place_more : (xs : List RawItem) (x : RawItem) (n : ℕ) → n ≡ suc (length (stmts_of xs)) → place_behind n x ≡ suc (length (stmts_of (xs ++ x ∷ [])))
  place_more xs (items.Label t) n is = is ∙ ap suc (let e = stmts_append xs (items.Label t ∷ []) in omega (arith, e))
  place_more xs (items.Stmt s) n is = ap suc is ∙ ap suc (let e = stmts_append xs (items.Stmt s ∷ []) in omega (arith, e))

  -- no more labels than items
  pub few_labels : (at : ℕ) (xs : List RawItem) → length (labels_from bytes at xs) ≤ length xs
  few_labels at [] = omega arith
  few_labels at (items.Label t ∷ xs) = let few = few_labels at xs in omega (arith, few)
  few_labels at (items.Stmt s ∷ xs) = let few = few_labels (suc at) xs in omega (arith, few)

  -- an item behind others is judged by the number of labels before it
  pub item_own : (s : Scope) (before rest : List RawItem) (x : RawItem) (n : ℕ) → s.labels ≡ labels_from bytes 0 (before ++ x ∷ rest) → n ≡ length (labels_from bytes 0 before) → numbered_fault bytes s n x ≡ item_fault bytes s before x
  item_own s before rest (items.Stmt y) n is long = refl
  item_own s before rest (items.Label t) n is long =
      let place : ℕ = 0 + length (stmts_of before) in
      let all : s.labels ≡ labels_from bytes 0 before ++ label_of bytes place t ∷ labels_from bytes place rest = is ∙ labels_append 0 before (items.Label t ∷ rest) in
      let p : Label → Bool = λ (l : Label). bytes_eq l.name (name_of bytes t) in
      ap (λ (b : Bool). unless b (DoubleName t.from)) (own (λ (l : Label). bytes_eq l.name (name_of bytes t)) s.labels (labels_from bytes 0 before) (label_of bytes place t) (labels_from bytes place rest) n all long (same_bytes (name_of bytes t)))
      ∙ unless_not (is_some (position (λ (l : Label). bytes_eq l.name (name_of bytes t)) (labels_from bytes 0 before))) t
      ∙ ap (λ (b : Bool). double b t) (ap is_some (position_from-zero (λ (l : Label). bytes_eq l.name (name_of bytes t)) (labels_from bytes 0 before)) ∙ found_some (λ (l : Label). bytes_eq l.name (name_of bytes t)) 0 (labels_from bytes 0 before))
