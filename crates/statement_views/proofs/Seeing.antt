-- One statement more is seen.
use Rattle.std.proofs.Common.{◌≡◌, ◌⊎◌, ◌<◌, ◌+◌, ◌++◌, ◌∷◌, ℕ, zero, suc, List, [], Some, Contains, length, take, map, flat_map, get_or, refl, sym, ap, ◌∙◌, subst, inl, inr, arith}
use Rattle.std.specs.List.Sorted.{IsStrictlyIncreasing}
use Rattle.std.proofs.lemmas.List.{get_or_append_left, get_or_push, length-append, take_more}
use Rattle.std.proofs.lemmas.List.Concat.{get_or-flat_map}
use Rattle.std.proofs.lemmas.List.Elements.{Contains-append_left, Contains-append_right}
use Rattle.std.proofs.lemmas.List.Folds.{length-flat_map-take}
use Rattle.std.proofs.lemmas.Option.{same_Some}
use Rattle.clean_base.specs.Lists.{At}
use Rattle.clean_base.specs.declared.ids.MethodId.{MethodId}
use Rattle.jimple_tree.specs.declared.tree.Class.{Class}
use Rattle.jimple_tree.specs.declared.tree.FieldSig.{FieldSig}
use Rattle.jimple_tree.specs.declared.tree.Invoke.{Invoke}
use Rattle.jimple_tree.specs.declared.tree.Place.{Place}
use Rattle.jimple_tree.specs.declared.tree.Place.TheVariants as place
use Rattle.jimple_tree.specs.declared.tree.Rhs.{Rhs}
use Rattle.jimple_tree.specs.declared.tree.Rhs.TheVariants as rhs
use Rattle.jimple_tree.specs.declared.tree.Stmt.{Stmt}
use Rattle.jimple_tree.specs.declared.tree.Stmt.TheVariants as stmt
use Rattle.source_sink.specs.declared.line.Line.{Line}
use Rattle.access_path.specs.declared.view.View.{View}
use Rattle.class_table.specs.Methods.{stmts_in}
use Rattle.class_table.proofs.Signed.{one_item}
use Rattle.field_table.specs.Fields.{stmt_refs, place_refs, rhs_refs, references}
use Rattle.call_graph.specs.Calls.{IsOpenTo, call_in}
use Rattle.call_graph.specs.Known.{IsKnown}
use Rattle.call_graph.specs.declared.known.KnownSig.{KnownSig}
use Rattle.statement_views.specs.Seen.{AreSeen, AreTargets, Sees, assign_ref, read_ref, ref_of}

-- Items of lists of lists

flat_has : {X Y : Type 0} (f : X → List Y) (xs : List X) (x : X) (y : Y) → Contains xs x → Contains (f x) y → Contains (flat_map f xs) y
flat_has f [] x y has inside = let below = has.1 in absurd (omega (arith, below))
flat_has f (z ∷ zs) x y (zero, below, is) inside = Contains-append_left (f z) (flat_map f zs) y (subst (λ (w : _). Contains (f w) y) (sym is) inside)
flat_has f (z ∷ zs) x y (suc k, below, is) inside = Contains-append_right (f z) (flat_map f zs) y (flat_has f zs x y (k, (omega (arith, below)), is) inside)

-- an item of the list of the item at i
pub flat_at : {X Y : Type 0} (f : X → List Y) (xs : List X) (i : ℕ) (x : X) (j : ℕ) (y : Y) → At xs i x → At (f x) j y → At (flat_map f xs) (length (flat_map f (take i xs)) + j) y
flat_at {X} {Y} f xs i x j y (below, is) here = (within, get_or-flat_map f xs i j x y below there.0 ∙ there.1) where
  there : At (f (get_or xs i x)) j y
  there = subst (λ (z : X). At (f z) j y) (sym is) here

  within : length (flat_map f (take i xs)) + j < length (flat_map f xs)
  within = let all = length-flat_map-take f xs i x below in let less = there.0 in omega (arith, all, less)

flat_append : {X Y : Type 0} (f : X → List Y) (xs : List X) (x : X) → length (flat_map f (xs ++ x ∷ [])) ≡ length (flat_map f xs) + length (f x)
flat_append f [] x = length-append (f x) [] ∙ omega arith
flat_append f (z ∷ zs) x =
    let rest = flat_append f zs x in
    let a = length-append (f z) (flat_map f (zs ++ x ∷ [])) in
    let b = length-append (f z) (flat_map f zs) in
    omega (arith, rest, a, b)

-- and all items before those of the next one
pub flat_more : {X Y : Type 0} (f : X → List Y) (xs : List X) (i : ℕ) (x : X) → At xs i x → length (flat_map f (take (i + 1) xs)) ≡ length (flat_map f (take i xs)) + length (f x)
flat_more {X} f xs i x (below, is) = ap (λ (ys : List X). length (flat_map f ys)) (take_more xs i x below ∙ ap (λ (y : X). take i xs ++ y ∷ []) is) ∙ flat_append f (take i xs) x

-- References

read_has : (value : Rhs) (sig : FieldSig) → read_ref value ≡ Some sig → Contains (rhs_refs value) sig
read_has (rhs.Load base own) sig is = (0, omega arith, same_Some own sig is)
read_has (rhs.StaticLoad own) sig is = (0, omega arith, same_Some own sig is)
read_has (rhs.Use value) sig is = absurd (cc)
read_has (rhs.Cast type value) sig is = absurd (cc)
read_has (rhs.Element base index) sig is = absurd (cc)
read_has (rhs.New class) sig is = absurd (cc)
read_has (rhs.NewArray type len) sig is = absurd (cc)
read_has (rhs.NewMulti type lens bare) sig is = absurd (cc)
read_has (rhs.InstanceOf value type) sig is = absurd (cc)
read_has (rhs.Length value) sig is = absurd (cc)
read_has (rhs.Neg value) sig is = absurd (cc)
read_has (rhs.Binary op left right) sig is = absurd (cc)
read_has (rhs.Call invoke) sig is = absurd (cc)

assign_has : (where_ : Place) (value : Rhs) (sig : FieldSig) → assign_ref where_ value ≡ Some sig → Contains (place_refs where_ ++ rhs_refs value) sig
assign_has (place.Field base own) value sig is = (0, omega arith, same_Some own sig is)
assign_has (place.Static own) value sig is = (0, omega arith, same_Some own sig is)
assign_has (place.Local x) value sig is = read_has value sig is
assign_has (place.Element base index) value sig is = read_has value sig is

stmt_has : (s : Stmt) (sig : FieldSig) → ref_of s ≡ Some sig → Contains (stmt_refs s) sig
stmt_has (stmt.Assign where_ value) sig is = assign_has where_ value sig is
stmt_has (stmt.Identity local what) sig is = absurd (cc)
stmt_has (stmt.Call invoke) sig is = absurd (cc)
stmt_has (stmt.If left cond right target) sig is = absurd (cc)
stmt_has (stmt.Goto target) sig is = absurd (cc)
stmt_has (stmt.Switch table key cases default) sig is = absurd (cc)
stmt_has (stmt.Return value) sig is = absurd (cc)
stmt_has (stmt.Throw value) sig is = absurd (cc)
stmt_has stmt.Nop sig is = absurd (cc)
stmt_has (stmt.Enter value) sig is = absurd (cc)
stmt_has (stmt.Exit value) sig is = absurd (cc)

-- what a statement of the classes refers to is one of their references
pub ref_in : (cs : List Class) (s : Stmt) (sig : FieldSig) → Contains (stmts_in cs) s → ref_of s ≡ Some sig → Contains (references cs) sig
ref_in cs s sig stands is = flat_has stmt_refs (stmts_in cs) s sig stands (stmt_has s sig is)

-- One item more

early_or_last : (i n : ℕ) → i < n + 1 → (i < n) ⊎ (i ≡ n)
early_or_last i n h = grind arith

each_more : {X : Type 0} (P : ℕ → X → Type 0) (xs : List X) (x : X) → ((s : ℕ) (y : X) → At xs s y → P s y) → P (length xs) x → (s : ℕ) (y : X) → At (xs ++ x ∷ []) s y → P s y
each_more {X} P xs x each last s y (below, is) = by (early_or_last s (length xs) (let long = length-append xs (x ∷ []) in omega (arith, long, below))) where
  by : (s < length xs) ⊎ (s ≡ length xs) → P s y
  by (inl less) = each s y (less, sym (get_or_append_left xs (x ∷ []) y s less) ∙ is)
  by (inr here) = subst (λ (n : ℕ). P n y) (sym here) (subst (P (length xs)) (sym (get_or_push xs x y s (sym here)) ∙ is) last)

module _ (cs : List Class) (lines : List Line) where
  -- what is known of a call gives its targets
  pub targets_are : (s : Stmt) (call : Invoke) (k : KnownSig) (row : List MethodId) → call_in s ≡ Some call → IsKnown cs lines call.kind call.sig k → row ≡ k.targets → AreTargets cs lines s row
  targets_are s call k row is known are = record {
    ascending = subst (λ (ms : List MethodId). IsStrictlyIncreasing (map (λ (m : MethodId). m.0) ms)) (sym are) known.ascending;
    exact = λ n. (
      (λ has. let both = (known.targets n).0 (subst (λ (ms : List MethodId). Contains ms n) are has) in (call, is, record { target = both.0; plain = both.1 })),
      (λ t.
          let one : t.0 ≡ call = same_Some t.0 call (sym t.1 ∙ is) in
          let to = subst (λ (c : Invoke). IsOpenTo cs lines c n) one t.2 in
          subst (λ (ms : List MethodId). Contains ms n) (sym are) ((known.targets n).1 (to.target, to.plain))),
    );
  }

  pub one_more : (views : List View) (rows : List (List MethodId)) (s : Stmt) (view : View) (row : List MethodId) → AreSeen cs lines views rows → At (stmts_in cs) (length views) s
      → Sees cs lines (length views) s view → AreTargets cs lines s row → AreSeen cs lines (views ++ view ∷ []) (rows ++ row ∷ [])
  one_more views rows s view row seen stands sees targets = record {
    counted = let a = length-append views (view ∷ []) in let b = length-append rows (row ∷ []) in let c = seen.counted in omega (arith, a, b, c);
    within = let a = length-append views (view ∷ []) in let b = stands.0 in omega (arith, a, b);
    views_are = λ i t v at has. each_more (λ (n : ℕ) (w : View). (u : Stmt) → At (stmts_in cs) n u → Sees cs lines n u w) views view (λ n w here u there. seen.views_are n u w there here)
        (λ u there. subst (λ (z : Stmt). Sees cs lines (length views) z view) (one_item (stmts_in cs) (length views) (length views) s u stands there refl) sees) i v has t at;
    rows_are = λ i t r at has. each_more (λ (n : ℕ) (w : List MethodId). (u : Stmt) → At (stmts_in cs) n u → AreTargets cs lines u w) rows row (λ n w here u there. seen.rows_are n u w there here)
        (λ u there. subst (λ (z : Stmt). AreTargets cs lines z row) (one_item (stmts_in cs) (length views) (length rows) s u stands there (sym seen.counted)) targets) i r has t at;
  }

  -- none is seen yet
  pub none_seen : AreSeen cs lines [] []
  none_seen = record {
    counted = refl;
    within = omega arith;
    views_are = λ s t v at has. let below = has.0 in absurd (omega (arith, below));
    rows_are = λ s t r at has. let below = has.0 in absurd (omega (arith, below));
  }
