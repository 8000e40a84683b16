-- From listed statements to the graph: what each row has, as statements.
use Rattle.std.proofs.Common.{◌≡◌, ◌↔◌, ◌⊎◌, ◌+◌, ◌-◌, ◌<◌, ◌≤◌, ℕ, List, [], ◌∷◌, Contains, All, length, get_or, map, refl, sym, ap, ◌∙◌, subst, inl, inr, arith}
use Rattle.std.specs.List.Sorted.{IsStrictlyIncreasing}
use Rattle.std.proofs.lemmas.List.{length-map, get_or-map, get_or_default, get_or_past}
use Rattle.std.proofs.lemmas.List.Elements.{Contains-get_or}
use Rattle.clean_base.specs.Lists.{At}
use Rattle.clean_base.specs.declared.ids.MethodId.{MethodId}
use Rattle.clean_base.specs.declared.ids.StmtId.{StmtId}
use Rattle.jimple_tree.specs.WellFormed.{IsWellFormed}
use Rattle.jimple_tree.specs.Successors.{Succ}
use Rattle.jimple_tree.specs.declared.tree.Body.{Body}
use Rattle.jimple_tree.specs.declared.tree.Class.{Class}
use Rattle.class_table.specs.Methods.{all_methods, stmts_in}
use Rattle.flat_rows.specs.Converse.{row, IsConverse, IsGraph}
use Rattle.statement_graph.specs.Kept.{AreListed, IsKept, StandsIn, method_id, stmt_id}
use Rattle.statement_graph.specs.Statements.{first_of, AreRelated, AreStatements, IsAt, IsOf, Leads}
use Rattle.statement_graph.proofs.Standing.{begins_own, first_whole, leads_from, leads_to, leads_together, one_place_only, stmt_within}

ways : (a b : ℕ) → (a < b) ⊎ (b ≤ a)
ways a b = grind arith

at_of : {X : Type 0} (xs : List X) (n : ℕ) (d : X) → n < length xs → At xs n (get_or xs n d)
at_of xs n d below = (below, get_or_default xs n (get_or xs n d) d below)

no_item : (q : ℕ) → Contains [] q → ⊥
no_item q (k, below, is) = absurd (omega (arith, below))

-- what a statement's row has
stands_leads : (cs : List Class) (s m q : ℕ) (ns : List ℕ) → StandsIn cs s m ns → Contains ns q ↔ Leads cs (stmt_id s) (stmt_id q)
stands_leads cs s m q ns stands = (there, back) where
  there : Contains ns q → Leads cs (stmt_id s) (stmt_id q)
  there has = let (u, number, succ) = (stands.leads.exact q).0 has in record {
    m = method_id m;
    c = stands.c;
    k = stands.k;
    b = stands.b;
    p = stands.p;
    stmt = stands.stmt;
    is = stands.is;
    u = u;
    succ = succ;
    number = number;
  }

  back : Leads cs (stmt_id s) (stmt_id q) → Contains ns q
  back leads =
      let same = one_place_only cs (stmt_id s) leads.m (method_id m) leads.c stands.c leads.k stands.k leads.b stands.b leads.p stands.p leads.stmt stands.stmt leads.is stands.is in
      let body : Succ stands.b stands.p leads.u = subst (λ (p : ℕ). Succ stands.b p leads.u) same.place (subst (λ (b : Body). Succ b leads.p leads.u) same.body leads.succ) in
      let number : q ≡ first_of cs m + leads.u = leads.number ∙ ap (λ (x : MethodId). first_of cs x.0 + leads.u) same.method in
      (stands.leads.exact q).1 (leads.u, number, body)

module _ (cs : List Class) (firsts : List StmtId) (owners : List MethodId) (rows : List (List ℕ)) (are : AreListed cs (length (all_methods cs)) firsts owners rows) where
  pub owners_all : length owners ≡ length (stmts_in cs)
  owners_all = are.owned ∙ first_whole cs

  pub rows_all : length rows ≡ length (stmts_in cs)
  rows_all = are.rowed ∙ first_whole cs

  pub stands_at : (s : ℕ) (m : MethodId) → At owners s m → (m.0 < length (all_methods cs)) × StandsIn cs s m.0 (row rows s)
  stands_at s m at =
      let below = at.0 in
      let within : s < length rows = omega (arith, below, owners_all, rows_all) in
      are.each s m (row rows s) at (at_of rows s [] within)

  here : (s : ℕ) → s < length (stmts_in cs) → (m : MethodId) × StandsIn cs s m.0 (row rows s)
  here s below = let m = get_or owners s (method_id 0) in (m, (stands_at s m (at_of owners s (method_id 0) (omega (arith, below, owners_all)))).1)

  pub row_leads : (s q : ℕ) → Contains (row rows s) q ↔ Leads cs (stmt_id s) (stmt_id q)
  row_leads s q = elim (ways s (length (stmts_in cs))) [
    | inl below ↦ let (m, stands) = here s below in stands_leads cs s m.0 q (row rows s) stands
    | inr past ↦ (
      (λ has. absurd (no_item q (subst (λ (ns : List ℕ). Contains ns q) (get_or_past rows s [] (omega (arith, past, rows_all))) has))),
      (λ leads. let below = leads_from cs (stmt_id s) (stmt_id q) leads in absurd (omega (arith, past, below))),
    )
  ]

  pub row_rises : (s : ℕ) → IsStrictlyIncreasing (row rows s)
  row_rises s = elim (ways s (length (stmts_in cs))) [
    | inl below ↦ let (m, stands) = here s below in stands.leads.ascending
    | inr past ↦ subst IsStrictlyIncreasing (sym (get_or_past rows s [] (omega (arith, past, rows_all)))) (λ k less. absurd (omega (arith, less)))
  ]

  -- each row has statements alone
  pub rows_graph : All IsWellFormed cs → IsGraph rows
  rows_graph formed s d below j e within =
      let ns = get_or rows s d in
      let q = get_or ns j e in
      let same : ns ≡ row rows s = get_or_default rows s d [] below in
      let has : Contains (row rows s) q = subst (λ (xs : List ℕ). Contains xs q) same (j, within, get_or_default ns j q e within) in
      let less = leads_to cs (stmt_id s) (stmt_id q) formed ((row_leads s q).0 has) in
      omega (arith, less, rows_all)

  pub back_leads : (back : List (List ℕ)) → IsConverse rows back → (s q : ℕ) → Contains (row back s) q ↔ Leads cs (stmt_id q) (stmt_id s)
  back_leads back is s q = ((λ has. (row_leads q s).0 ((is.leads q s).0 has)), (λ leads. (is.leads q s).1 ((row_leads q s).1 leads)))

-- the method in which a statement stands, and its place

pub owner_exact : (cs : List Class) (s : StmtId) (m : MethodId) (ns : List ℕ) → StandsIn cs s.0 m.0 ns → (n : MethodId) → (m ≡ n) ↔ IsOf cs s n
owner_exact cs s m ns stands n = (there, back) where
  there : m ≡ n → IsOf cs s n
  there same = subst (IsOf cs s) same (stands.c, stands.k, stands.b, stands.p, stands.stmt, stands.is)

  back : IsOf cs s n → m ≡ n
  back (c, k, b, p, stmt, is) = (one_place_only cs s m n stands.c c stands.k k stands.b b stands.p p stands.stmt stmt stands.is is).method

pub place_exact : (cs : List Class) (s : StmtId) (m : MethodId) (first : ℕ) → first ≡ first_of cs m.0 → IsOf cs s m → (p : ℕ) → (s.0 - first ≡ p) ↔ IsAt cs s p
place_exact cs s m first begins (c, k, b, q, stmt, is) p = (there, back) where
  mine : s.0 - first ≡ q
  mine = let number = is.number in omega (arith, number, begins)

  there : s.0 - first ≡ p → IsAt cs s p
  there same = subst (IsAt cs s) (sym mine ∙ same) (m, c, k, b, stmt, is)

  back : IsAt cs s p → s.0 - first ≡ p
  back (n, d, l, e, other, at) = mine ∙ (one_place_only cs s m n c d k l b e q p stmt other is at).place

pub place_above : (cs : List Class) (s : StmtId) (m : MethodId) (first : ℕ) → first ≡ first_of cs m.0 → IsOf cs s m → (m.0 < length (all_methods cs)) × (first ≤ s.0)
place_above cs s m first begins (c, k, b, q, stmt, is) = (is.method.0, let number = is.number in omega (arith, number, begins))

-- rows of numbers as rows of statements

map_back : (ns : List ℕ) → map (λ (q : StmtId). q.0) (map stmt_id ns) ≡ ns
map_back [] = refl
map_back (n ∷ ns) = ap (λ (ms : List ℕ). n ∷ ms) (map_back ns)

ids_have : (ns : List ℕ) (q : StmtId) → Contains (map stmt_id ns) q ↔ Contains ns q.0
ids_have ns q = (there, back) where
  long : length (map stmt_id ns) ≡ length ns
  long = length-map ns stmt_id

  there : Contains (map stmt_id ns) q → Contains ns q.0
  there (k, below, is) = (k, omega (arith, below, long), ap (λ (x : StmtId). x.0) (sym (get_or-map stmt_id ns k q.0 q (omega (arith, below, long))) ∙ is))

  back : Contains ns q.0 → Contains (map stmt_id ns) q
  back (k, below, is) = (k, omega (arith, below, long), get_or-map stmt_id ns k q.0 q below ∙ ap stmt_id is)

row_ids : (rows : List (List ℕ)) (s : ℕ) → get_or (map (map stmt_id) rows) s [] ≡ map stmt_id (row rows s)
row_ids rows s = elim (ways s (length rows)) [
  | inl below ↦ get_or-map (map stmt_id) rows s [] [] below
  | inr past ↦ let long = length-map rows (map stmt_id) in get_or_past (map (map stmt_id) rows) s [] (omega (arith, past, long)) ∙ ap (map stmt_id) (sym (get_or_past rows s [] past))
]

pub ends_are : (cs : List Class) (R : StmtId → StmtId → Type 0) (rows : List (List ℕ)) (ids : List (List StmtId)) → length rows ≡ length (stmts_in cs) → ((s : ℕ) → IsStrictlyIncreasing (row rows s)) → ((s q : ℕ) → Contains (row rows s) q ↔ R (stmt_id s) (stmt_id q))
    → ids ≡ map (map stmt_id) rows → AreRelated cs R ids
ends_are cs R rows ids counted rises exact is = record {
  counted = ap length is ∙ length-map rows (map stmt_id) ∙ counted;
  ascending = λ s. subst (λ (qs : List StmtId). IsStrictlyIncreasing (map (λ (q : StmtId). q.0) qs)) (sym (same s)) (subst IsStrictlyIncreasing (sym (map_back (row rows s))) (rises s));
  exact = λ s q below. (
    (λ has. (exact s.0 q.0).0 ((ids_have (row rows s.0) q).0 (subst (λ (qs : List StmtId). Contains qs q) (same s.0) has))),
    (λ leads. subst (λ (qs : List StmtId). Contains qs q) (sym (same s.0)) ((ids_have (row rows s.0) q).1 ((exact s.0 q.0).1 leads))),
  );
}
  where
    same : (s : ℕ) → get_or ids s [] ≡ map stmt_id (row rows s)
    same s = ap (λ (rs : List (List StmtId)). get_or rs s []) is ∙ row_ids rows s

-- what holds of all to which the relation leads holds of each item
pub all_ends : (R : StmtId → Type 0) (P : StmtId → Type 0) (qs : List StmtId) → ((q : StmtId) → Contains qs q ↔ R q) → ((q : StmtId) → R q → P q) → All P qs
all_ends R P qs exact holds k d below = holds (get_or qs k d) ((exact (get_or qs k d)).0 (Contains-get_or qs k d below))

-- the kept lists are those of the statements
module _ (cs : List Class) (firsts : List StmtId) (owners : List MethodId) (succs preds : List (List StmtId)) (kept : IsKept cs firsts owners succs preds) where
  abbrev rows : List (List ℕ)
  rows = kept.listed.0

  are : AreListed cs (length (all_methods cs)) firsts owners rows
  are = kept.listed.1

  begins : (m : MethodId) (s : StmtId) → At firsts m.0 s → (s.0 ≡ first_of cs m.0) × IsOf cs s m
  begins m s at =
      let number = are.begins m.0 s at in
      let count = are.methods in
      let below = at.0 in
      let (c, k, b, stmt, is) = begins_own cs s m kept.well_formed (omega (arith, count, below)) number in
      (number, (c, k, b, 0, stmt, is))

  owned : length owners ≡ length (stmts_in cs)
  owned = owners_all cs firsts owners rows are

  owner_is : (s : StmtId) (m : MethodId) → At owners s.0 m → (n : MethodId) → (m ≡ n) ↔ IsOf cs s n
  owner_is s m at = owner_exact cs s m (row rows s.0) (stands_at cs firsts owners rows are s.0 m at).1

  owners_are : (s : StmtId) (m : MethodId) → At owners s.0 m ↔ IsOf cs s m
  owners_are s m = (there, back) where
    there : At owners s.0 m → IsOf cs s m
    there at = (owner_is s m at m).0 refl

    back : IsOf cs s m → At owners s.0 m
    back of =
        let (c, k, b, p, stmt, is) = of in
        let below = stmt_within cs s m c k b p stmt is in
        let at = at_of owners s.0 (method_id 0) (omega (arith, below, owned)) in
        let n = get_or owners s.0 (method_id 0) in
        subst (At owners s.0) ((owner_is s n at m).1 of) at

  pub kept_lists : AreStatements cs firsts owners succs preds
  kept_lists = record {
    methods = are.methods;
    begins = begins;
    owned = owned;
    owners_are = owners_are;
    forth = kept.forth;
    back = kept.back;
    together = λ s q leads. leads_together cs s q kept.well_formed leads;
  }
