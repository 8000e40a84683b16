-- Classes, a list and an entry have one program.
use Rattle.std.proofs.Common.{◌≡◌, ◌↔◌, ◌<◌, ℕ, List, [], ◌∷◌, length, map, get_or, AllPairs, Contains, sym, ap, subst, ◌∙◌, arith}
use Rattle.std.specs.List.Sorted.{IsStrictlyIncreasing}
use Rattle.std.proofs.lemmas.List.{same_lists, get_or_default, length-map, get_or-map}
use Rattle.std.proofs.lemmas.List.Kept.{AllPairs-from_increasing}
use Rattle.clean_base.specs.Lists.{At}
use Rattle.clean_base.specs.declared.ids.MethodId.{MethodId}
use Rattle.clean_base.specs.declared.ids.StmtId.{StmtId}
use Rattle.jimple_tree.specs.declared.tree.Class.{Class}
use Rattle.jimple_tree.specs.declared.tree.FieldSig.{FieldSig}
use Rattle.jimple_tree.specs.declared.tree.Method.{Method}
use Rattle.jimple_tree.specs.declared.tree.Stmt.{Stmt}
use Rattle.source_sink.specs.declared.line.Line.{Line}
use Rattle.access_path.specs.declared.view.View.{View}
use Rattle.class_table.specs.Methods.{all_methods, stmts_in}
use Rattle.field_table.specs.Numbers.{HaveOneNumber}
use Rattle.call_graph.proofs.Only.{same_lists as same_items}
use Rattle.flow_rules.specs.Code.{Code, Follows}
use Rattle.program_code.specs.App.{App, locals_of}
use Rattle.app_program.specs.Entry.{IsRoot}
use Rattle.app_program.specs.Program.{AreMethods, AreStmts, IsProgram}
use Rattle.app_program.specs.declared.entry.Entry.{Entry}
use Rattle.app_program.proofs.Rowed.{item_at}
use Rattle.app_program.proofs.OneView.{one_seen}

-- lists with one item for each place are the same
one_list : {X : Type 0} (xs ys : List X) → length xs ≡ length ys → ((k : ℕ) (x y : X) → At xs k x → At ys k y → x ≡ y) → xs ≡ ys
one_list xs ys long one = same_lists xs ys long (λ k d below. one k (get_or xs k d) (get_or ys k d) (there xs k d below) (there ys k d (omega (arith, below, long)))) where
  there : {X : Type 0} (zs : List X) (k : ℕ) (d : X) → k < length zs → At zs k (get_or zs k d)
  there zs k d below = (below, get_or_default zs k (get_or zs k d) d below)

-- ids that ascend are in one order
module _ {X : Type 0} (number : X → ℕ) where
  rises : (xs : List X) → IsStrictlyIncreasing (map number xs) → AllPairs (λ a b. number a < number b) xs
  rises xs up i j d less below =
      let long = length-map xs number in
      let more = AllPairs-from_increasing (map number xs) up i j 0 less (omega (arith, below, long)) in
      let first = get_or-map number xs i d 0 (omega (arith, less, below)) in
      let second = get_or-map number xs j d 0 below in
      omega (arith, more, first, second)

  one_way : (a b : X) → number a < number b → number b < number a → ⊥
  one_way a b up down = omega (arith, up, down)

  one_row : (xs ys : List X) → IsStrictlyIncreasing (map number xs) → IsStrictlyIncreasing (map number ys) → ((x : X) → Contains xs x ↔ Contains ys x) → ys ≡ xs
  one_row xs ys up also same = same_items (λ a b. number a < number b) one_way xs ys (rises xs up) (rises ys also) same

-- what stands at a place
item_there : {X : Type 0} (xs : List X) (n : ℕ) → n < length xs → (x : X) × At xs n x
item_there [] n below = absurd (omega (arith, below))
item_there (x ∷ xs) n below = (get_or (x ∷ xs) n x, item_at (x ∷ xs) n x below)

one_at : {X : Type 0} (xs : List X) (n : ℕ) (x y : X) → At xs n x → At xs n y → x ≡ y
one_at xs n x y at there = sym at.1 ∙ get_or_default xs n x y at.0 ∙ there.1

same_owner : (m n : MethodId) → m.0 ≡ n.0 → m ≡ n
same_owner m n same = ap (λ (k : ℕ). let r : MethodId = record { 0 = k } in r) same

same_stmt : (s t : StmtId) → s.0 ≡ t.0 → s ≡ t
same_stmt s t same = ap (λ (k : ℕ). let r : StmtId = record { 0 = k } in r) same

module _ (cs : List Class) (lines : List Line) (numbered : HaveOneNumber cs) (c d : Code) where
  module _ (one : AreMethods cs c) (two : AreMethods cs d) where
    same_firsts : d.firsts ≡ c.firsts
    same_firsts = one_list d.firsts c.firsts (two.count ∙ sym one.count) (λ k s t at there. same_stmt s t (two.firsts (record { 0 = k }) s at ∙ sym (one.firsts (record { 0 = k }) t there)))

    same_locals : d.locals ≡ c.locals
    same_locals = one_list d.locals c.locals (two.counted ∙ sym one.counted) (λ k m n at there.
        let below : k < length (all_methods cs) = let less = at.0 in let count = two.counted in omega (arith, less, count) in
        by k m n at there (item_there (all_methods cs) k below)) where
          by : (k m n : ℕ) → At d.locals k m → At c.locals k n → (own : Class × Method) × At (all_methods cs) k own → m ≡ n
          by k m n at there ((class, method), stands) =
              let first = two.locals (record { 0 = k }) class method stands in
              let second = one.locals (record { 0 = k }) class method stands in
              one_at d.locals k m (length (locals_of method)) at first ∙ sym (one_at c.locals k n (length (locals_of method)) there second)

  module _ (one : AreStmts cs lines c) (two : AreStmts cs lines d) where
    same_owners : d.owners ≡ c.owners
    same_owners = one_list d.owners c.owners (two.owned ∙ sym one.owned) (λ k m n at there. one_at c.owners k m n ((one.owners (record { 0 = k }) m).1 ((two.owners (record { 0 = k }) m).0 at)) there)

    -- the statement with a number
    stmt_there : (xs : List Stmt) (k : ℕ) (n : ℕ) → n ≡ length xs → k < n → (stmt : Stmt) × At xs k stmt
    stmt_there xs k n count below = item_there xs k (omega (arith, count, below))

    same_views : d.views ≡ c.views
    same_views = one_list d.views c.views (two.viewed ∙ sym one.viewed) (λ k v w at there. by k v w at there (stmt_there (stmts_in cs) k (length d.views) two.viewed at.0)) where
      by : (k : ℕ) (v w : View) → At d.views k v → At c.views k w → (stmt : Stmt) × At (stmts_in cs) k stmt → v ≡ w
      by k v w at there (stmt, stands) = one_seen cs lines numbered k stmt v w (two.views k stmt v stands at) (one.views k stmt w stands there)

    same_nexts : d.nexts ≡ c.nexts
    same_nexts = one_list d.nexts c.nexts (two.led ∙ sym one.led) (λ k qs rs at there.
        one_row (λ (q : StmtId). q.0) rs qs (one.ascending k rs there) (two.ascending k qs at) (λ q. (
          λ has. back k q qs at ((two.nexts (record { 0 = k }) q).1 ((one.nexts (record { 0 = k }) q).0 (rs, there, has))),
          λ has. front k q rs there ((one.nexts (record { 0 = k }) q).1 ((two.nexts (record { 0 = k }) q).0 (qs, at, has))),
        ))) where
          back : (k : ℕ) (q : StmtId) (qs : List StmtId) → At d.nexts k qs → Follows d (record { 0 = k }) q → Contains qs q
          back k q qs at (own, stands, has) = subst (λ (l : List StmtId). Contains l q) (one_at d.nexts k own qs stands at) has

          front : (k : ℕ) (q : StmtId) (qs : List StmtId) → At c.nexts k qs → Follows c (record { 0 = k }) q → Contains qs q
          front k q qs at (own, stands, has) = subst (λ (l : List StmtId). Contains l q) (one_at c.nexts k own qs stands at) has

    same_targets : d.targets ≡ c.targets
    same_targets = one_list d.targets c.targets (two.called ∙ sym one.called) (λ k ms ns at there. by k ms ns at there (stmt_there (stmts_in cs) k (length d.targets) two.called at.0)) where
      by : (k : ℕ) (ms ns : List MethodId) → At d.targets k ms → At c.targets k ns → (stmt : Stmt) × At (stmts_in cs) k stmt → ms ≡ ns
      by k ms ns at there (stmt, stands) =
          let one = one.targets k stmt ns stands there in
          let two = two.targets k stmt ms stands at in
          one_row (λ (m : MethodId). m.0) ns ms one.ascending two.ascending (λ m. (λ has. (two.exact m).1 ((one.exact m).0 has), λ has. (one.exact m).1 ((two.exact m).0 has)))

abbrev app : List Class → List FieldSig → MethodId → List StmtId → List ℕ → ℕ → List View → List MethodId → List (List StmtId) → List (List MethodId) → App
app classes fields root firsts locals count views owners nexts targets = record {
  classes = classes;
  fields = fields;
  code = record {
    root = root;
    firsts = firsts;
    locals = locals;
    fields = count;
    views = views;
    owners = owners;
    nexts = nexts;
    targets = targets;
  };
}

-- the program is one, where the entry names one method and each reference has one number
pub one_program : (cs : List Class) (lines : List Line) (entry : Entry) → HaveOneNumber cs → ((n m : MethodId) → IsRoot cs entry n → IsRoot cs entry m → n ≡ m)
    → (p q : App) → IsProgram cs lines entry p → IsProgram cs lines entry q → q ≡ p
one_program cs lines entry numbered declared p q one two =
    let c = p.code in
    let d = q.code in
    ap (λ x. app x q.fields d.root d.firsts d.locals d.fields d.views d.owners d.nexts d.targets) (two.classes ∙ sym one.classes)
    ∙ ap (λ x. app p.classes x d.root d.firsts d.locals d.fields d.views d.owners d.nexts d.targets) (two.fields ∙ sym one.fields)
    ∙ ap (λ x. app p.classes p.fields x d.firsts d.locals d.fields d.views d.owners d.nexts d.targets) (declared d.root c.root two.root one.root)
    ∙ ap (λ x. app p.classes p.fields c.root x d.locals d.fields d.views d.owners d.nexts d.targets) (same_firsts cs lines numbered c d one.methods two.methods)
    ∙ ap (λ x. app p.classes p.fields c.root c.firsts x d.fields d.views d.owners d.nexts d.targets) (same_locals cs lines numbered c d one.methods two.methods)
    ∙ ap (λ x. app p.classes p.fields c.root c.firsts c.locals x d.views d.owners d.nexts d.targets) (two.numbered ∙ sym one.numbered)
    ∙ ap (λ x. app p.classes p.fields c.root c.firsts c.locals c.fields x d.owners d.nexts d.targets) (same_views cs lines numbered c d one.stmts two.stmts)
    ∙ ap (λ x. app p.classes p.fields c.root c.firsts c.locals c.fields c.views x d.nexts d.targets) (same_owners cs lines numbered c d one.stmts two.stmts)
    ∙ ap (λ x. app p.classes p.fields c.root c.firsts c.locals c.fields c.views c.owners x d.targets) (same_nexts cs lines numbered c d one.stmts two.stmts)
    ∙ ap (λ x. app p.classes p.fields c.root c.firsts c.locals c.fields c.views c.owners c.nexts x) (same_targets cs lines numbered c d one.stmts two.stmts)
