-- Where statements stand: their numbers method by method, and that each has one place.
use Rattle.std.proofs.Common.{◌≡◌, ◌⊎◌, ◌↔◌, ◌+◌, ◌-◌, ◌<◌, ◌≤◌, ℕ, zero, suc, Bool, true, false, cond, is_some, Option, Some, None, List, [], ◌∷◌, ◌++◌, Contains, All, length, get_or, take, map, refl, sym, ap, ◌∙◌, subst, inl, inr, arith}
use Rattle.std.specs.Prelude.{filter, flat_map}
use Rattle.std.proofs.lemmas.Grind.{flat_map-append}
use Rattle.std.proofs.lemmas.List.{length-append, get_or_default, take_more, take_all, take-take}
use Rattle.std.proofs.lemmas.List.Elements.{All-contains, Contains-append_cases}
use Rattle.clean_base.specs.Lists.{At}
use Rattle.clean_base.specs.declared.ids.MethodId.{MethodId}
use Rattle.clean_base.specs.declared.ids.StmtId.{StmtId}
use Rattle.jimple_tree.specs.Bodies.{bodied, body_stmts, stmts_of, all_stmts}
use Rattle.jimple_tree.specs.WellFormed.{BodyFits, IsWellFormed, MethodFits, OptionalBodyFits}
use Rattle.jimple_tree.specs.declared.tree.Body.{Body}
use Rattle.jimple_tree.specs.declared.tree.Class.{Class}
use Rattle.jimple_tree.specs.declared.tree.Method.{Method}
use Rattle.jimple_tree.specs.declared.tree.Stmt.{Stmt}
use Rattle.class_table.specs.Methods.{all_methods, methods_of, stmts_in}
use Rattle.statement_graph.specs.Kept.{method_id}
use Rattle.statement_graph.specs.Statements.{first_of, IsOf, IsStmt, Leads, Together}
use Rattle.statement_graph.proofs.Places.{at_once, succ_below}

abbrev own_stmts : Class × Method → List Stmt
own_stmts k = stmts_of k.1

-- what stands at a place
pub item_there : {X : Type 0} (xs : List X) (n : ℕ) → n < length xs → (x : X) × At xs n x
item_there [] n below = absurd (omega (arith, below))
item_there (x ∷ xs) n below = (get_or (x ∷ xs) n x, (below, get_or_default (x ∷ xs) n (get_or (x ∷ xs) n x) x below))

-- the numbers of the methods

pub first_more : (cs : List Class) (n : ℕ) (c : Class) (k : Method) → At (all_methods cs) n (c, k) → first_of cs (n + 1) ≡ first_of cs n + length (stmts_of k)
first_more cs n c k at =
    let ms = all_methods cs in
    let x : Class × Method = (c, k) in
    let next : take (n + 1) ms ≡ take n ms ++ x ∷ [] = take_more ms n x at.0 ∙ ap (λ (y : Class × Method). take n ms ++ y ∷ []) at.1 in
    let parts : flat_map own_stmts (take (n + 1) ms) ≡ flat_map own_stmts (take n ms) ++ (stmts_of k ++ []) = ap (flat_map own_stmts) next ∙ flat_map-append own_stmts (take n ms) (x ∷ []) in
    let one = length-append (flat_map own_stmts (take n ms)) (stmts_of k ++ []) in
    let two = length-append (stmts_of k) [] in
    let whole = ap length parts in
    omega (arith, whole, one, two)

fewer : (ms : List (Class × Method)) (n : ℕ) → length (flat_map own_stmts (take n ms)) ≤ length (flat_map own_stmts ms)
fewer [] zero = omega arith
fewer [] (suc n) = omega arith
fewer (k ∷ ms) zero = omega arith
fewer (k ∷ ms) (suc n) =
    let rest = fewer ms n in
    let one = length-append (own_stmts k) (flat_map own_stmts (take n ms)) in
    let all = length-append (own_stmts k) (flat_map own_stmts ms) in
    omega (arith, rest, one, all)

first_up : (cs : List Class) (n m : ℕ) → n ≤ m → first_of cs n ≤ first_of cs m
first_up cs n m less =
    let same = take-take n m (all_methods cs) less in
    let e = ap (λ (ms : List (Class × Method)). length (flat_map own_stmts ms)) same in
    let f = fewer (take m (all_methods cs)) n in
    omega (arith, e, f)

-- methods without a body have no statements
all_bodied : (ms : List Method) → all_stmts (bodied ms) ≡ all_stmts ms
all_bodied [] = refl
all_bodied (m ∷ ms) = by_body m.body refl (all_bodied ms) where
  by_body : (body : Option Body) → m.body ≡ body → all_stmts (bodied ms) ≡ all_stmts ms → all_stmts (bodied (m ∷ ms)) ≡ all_stmts (m ∷ ms)
  by_body None e rest =
      let here : bodied (m ∷ ms) ≡ bodied ms = ap (λ (b : Option Body). cond (is_some b) (m ∷ bodied ms) (bodied ms)) e in
      let none : stmts_of m ≡ [] = ap body_stmts e in
      ap all_stmts here ∙ rest ∙ ap (λ (ss : List Stmt). ss ++ all_stmts ms) (sym none)
  by_body (Some b) e rest =
      let here : bodied (m ∷ ms) ≡ m ∷ bodied ms = ap (λ (b : Option Body). cond (is_some b) (m ∷ bodied ms) (bodied ms)) e in
      ap all_stmts here ∙ ap (λ (ss : List Stmt). stmts_of m ++ ss) rest

paired : (c : Class) (ms : List Method) → flat_map own_stmts (map (λ (m : Method). (c, m)) ms) ≡ all_stmts ms
paired c [] = refl
paired c (m ∷ ms) = ap (λ (ss : List Stmt). stmts_of m ++ ss) (paired c ms)

all_in : (cs : List Class) → flat_map own_stmts (all_methods cs) ≡ stmts_in cs
all_in [] = refl
all_in (c ∷ cs) =
    flat_map-append own_stmts (methods_of c) (all_methods cs)
    ∙ ap (λ (ss : List Stmt). ss ++ flat_map own_stmts (all_methods cs)) (paired c (bodied c.methods) ∙ all_bodied c.methods)
    ∙ ap (λ (ss : List Stmt). all_stmts c.methods ++ ss) (all_in cs)

-- the statements of all methods are all
pub first_whole : (cs : List Class) → first_of cs (length (all_methods cs)) ≡ length (stmts_in cs)
first_whole cs = ap (λ (ms : List (Class × Method)). length (flat_map own_stmts ms)) (take_all (length (all_methods cs)) (all_methods cs) (omega arith)) ∙ ap length (all_in cs)

-- methods with a body are well formed

cons_cases : {X : Type 0} (x : X) (xs : List X) (y : X) → Contains (x ∷ xs) y → (x ≡ y) ⊎ Contains xs y
cons_cases x xs y (zero, below, is) = inl is
cons_cases x xs y (suc k, below, is) = inr (k, omega arith, is)

cons_rest : {X : Type 0} (x : X) (xs : List X) (y : X) → Contains xs y → Contains (x ∷ xs) y
cons_rest x xs y (k, below, is) = (suc k, omega arith, is)

in_filter : (test : Method → Bool) (xs : List Method) (x : Method) → Contains (filter test xs) x → Contains xs x
in_filter test [] x (k, below, is) = absurd (omega (arith, below))
in_filter test (y ∷ ys) x has = by (test y) has (in_filter test ys x) where
  by : (b : Bool) → Contains (cond b (y ∷ filter test ys) (filter test ys)) x → (Contains (filter test ys) x → Contains ys x) → Contains (y ∷ ys) x
  by true has rest = elim (cons_cases y (filter test ys) x has) [ inl is ↦ (zero, omega arith, is) | inr later ↦ cons_rest y ys x (rest later) ]
  by false has rest = cons_rest y ys x (rest has)

in_pairs : (d c : Class) (ms : List Method) (k : Method) → Contains {X = Class × Method} (map (λ (m : Method). (d, m)) ms) (c, k) → (d ≡ c) × Contains ms k
in_pairs d c [] k (j, below, is) = absurd (omega (arith, below))
in_pairs d c (m ∷ ms) k has = elim (cons_cases {X = Class × Method} (d, m) (map (λ (m : Method). (d, m)) ms) (c, k) has) [
  | inl is ↦ (ap (λ (x : Class × Method). x.0) is, (zero, omega arith, ap (λ (x : Class × Method). x.1) is))
  | inr rest ↦ let (same, there) = in_pairs d c ms k rest in (same, cons_rest m ms k there)
]

in_methods : (cs : List Class) (c : Class) (k : Method) → Contains {X = Class × Method} (all_methods cs) (c, k) → Contains cs c × Contains c.methods k
in_methods [] c k (j, below, is) = absurd (omega (arith, below))
in_methods (d ∷ cs) c k has = elim (Contains-append_cases (methods_of d) (all_methods cs) (c, k) has) [
  | inl own ↦ let (same, there) = in_pairs d c (bodied d.methods) k own in ((zero, omega arith, same), in_filter (λ (m : Method). is_some m.body) c.methods k (subst (λ (x : Class). Contains (bodied x.methods) k) same there))
  | inr rest ↦ let (stands, there) = in_methods cs c k rest in (cons_rest d cs c stands, there)
]

optional_fits : (body : Option Body) (b : Body) → body ≡ Some b → OptionalBodyFits body → BodyFits b
optional_fits body b is fits = subst OptionalBodyFits is fits

pub body_fits : (cs : List Class) (n : ℕ) (c : Class) (k : Method) (b : Body) → All IsWellFormed cs → At (all_methods cs) n (c, k) → k.body ≡ Some b → BodyFits b
body_fits cs n c k b formed at body =
    let (stands, there) = in_methods cs c k (n, at.0, at.1) in
    let class = All-contains IsWellFormed cs c formed stands in
    let method = All-contains MethodFits c.methods k class.each_method there in
    optional_fits k.body b body method.body

some_body : (ms : List Method) (k : Method) → Contains (bodied ms) k → is_some k.body ≡ true
some_body [] k (j, below, is) = absurd (omega (arith, below))
some_body (m ∷ ms) k has = by (is_some m.body) refl has (some_body ms k) where
  by : (b : Bool) → is_some m.body ≡ b → Contains (cond b (m ∷ bodied ms) (bodied ms)) k → (Contains (bodied ms) k → is_some k.body ≡ true) → is_some k.body ≡ true
  by true e has rest = elim (cons_cases m (bodied ms) k has) [ inl is ↦ subst (λ (x : Method). is_some x.body ≡ true) is e | inr later ↦ rest later ]
  by false e has rest = rest has

pub has_body : (cs : List Class) (c : Class) (k : Method) → Contains {X = Class × Method} (all_methods cs) (c, k) → is_some k.body ≡ true
has_body [] c k (j, below, is) = absurd (omega (arith, below))
has_body (d ∷ cs) c k has = elim (Contains-append_cases (methods_of d) (all_methods cs) (c, k) has) [
  | inl own ↦ let (same, there) = in_pairs d c (bodied d.methods) k own in some_body d.methods k there
  | inr rest ↦ has_body cs c k rest
]

-- so one without a body has no number
pub none_bodiless : (cs : List Class) (n : ℕ) (c : Class) (k : Method) → At (all_methods cs) n (c, k) → k.body ≡ None → ⊥
none_bodiless cs n c k at none = false_true (sym (ap is_some none) ∙ has_body cs c k (n, at.0, at.1)) where
  false_true : false ≡ true → ⊥
  false_true e = cc

the_body : (body : Option Body) → is_some body ≡ true → (b : Body) × (body ≡ Some b)
the_body (Some b) some = (b, refl)
the_body None some = absurd (false_true some) where
  false_true : false ≡ true → ⊥
  false_true e = cc

-- each method begins with a statement of its own
pub begins_own : (cs : List Class) (s : StmtId) (m : MethodId) → All IsWellFormed cs → m.0 < length (all_methods cs) → s.0 ≡ first_of cs m.0 → (c : Class) × (k : Method) × (b : Body) × (stmt : Stmt) × IsStmt cs s m c k b 0 stmt
begins_own cs s m formed below begins =
    let ((c, k), at) = item_there (all_methods cs) m.0 below in
    let (b, body) = the_body k.body (has_body cs c k (m.0, at.0, at.1)) in
    let fits = body_fits cs m.0 c k b formed at body in
    let (stmt, stands) = item_there b.stmts 0 fits.has_statement in
    (c, k, b, stmt, record { method = at; body = body; place = stands; number = begins ∙ (omega arith) })

-- a statement stands in one method only, and at one place

pub method_size : (cs : List Class) (n : ℕ) (c : Class) (k : Method) (b : Body) → At (all_methods cs) n (c, k) → k.body ≡ Some b → first_of cs (n + 1) ≡ first_of cs n + length b.stmts
method_size cs n c k b at body = first_more cs n c k at ∙ ap (λ (ss : List Stmt). first_of cs n + length ss) (ap body_stmts body)

-- a place of a method's body has a number below those of the next method
pub in_method : (cs : List Class) (n : ℕ) (c : Class) (k : Method) (b : Body) (p : ℕ) → At (all_methods cs) n (c, k) → k.body ≡ Some b → p < length b.stmts → (first_of cs n + p < first_of cs (n + 1)) × (first_of cs n + p < length (stmts_in cs))
in_method cs n c k b p at body below =
    let size = method_size cs n c k b at body in
    let up = first_up cs (n + 1) (length (all_methods cs)) (let h = at.0 in omega (arith, h)) in
    let whole = first_whole cs in
    (omega (arith, size, below), omega (arith, size, below, up, whole))

-- the statements before a method and its own are no more than all
pub method_within : (cs : List Class) (n : ℕ) (c : Class) (k : Method) (b : Body) → At (all_methods cs) n (c, k) → k.body ≡ Some b → first_of cs n + length b.stmts ≤ length (stmts_in cs)
method_within cs n c k b at body =
    let size = method_size cs n c k b at body in
    let up = first_up cs (n + 1) (length (all_methods cs)) (let h = at.0 in omega (arith, h)) in
    let whole = first_whole cs in
    omega (arith, size, up, whole)

-- the numbers up to those of the next method are no more than all
pub next_within : (cs : List Class) (n : ℕ) → n < length (all_methods cs) → first_of cs (n + 1) ≤ length (stmts_in cs)
next_within cs n below =
    let up = first_up cs (n + 1) (length (all_methods cs)) (omega (arith, below)) in
    let whole = first_whole cs in
    omega (arith, up, whole)

pub stmt_within : (cs : List Class) (s : StmtId) (m : MethodId) (c : Class) (k : Method) (b : Body) (p : ℕ) (stmt : Stmt) → IsStmt cs s m c k b p stmt → s.0 < length (stmts_in cs)
stmt_within cs s m c k b p stmt is =
    let below = (in_method cs m.0 c k b p is.method is.body is.place.0).1 in
    let number = is.number in
    omega (arith, below, number)

three_ways : (a b : ℕ) → (a < b) ⊎ ((a ≡ b) ⊎ (b < a))
three_ways a b = grind arith

apart : (cs : List Class) (s : StmtId) (m n : MethodId) (c d : Class) (k l : Method) (b e : Body) (p q : ℕ) (x y : Stmt) → IsStmt cs s m c k b p x → IsStmt cs s n d l e q y → m.0 < n.0 → ⊥
apart cs s m n c d k l b e p q x y one two less =
    let here = (in_method cs m.0 c k b p one.method one.body one.place.0).0 in
    let up = first_up cs (m.0 + 1) n.0 (omega (arith, less)) in
    let first = one.number in
    let second = two.number in
    omega (arith, here, up, first, second)

pub record SamePlace (m n : MethodId) (b e : Body) (p q : ℕ) : Type 0 where
  pub method : m ≡ n
  pub body : b ≡ e
  pub place : p ≡ q

some_once : (b e : Body) → Some b ≡ Some e → b ≡ e
some_once b e is = cc

places : (first other s p q : ℕ) → first ≡ other → s ≡ first + p → s ≡ other + q → p ≡ q
places first other s p q same one two = omega arith

pub one_place_only : (cs : List Class) (s : StmtId) (m n : MethodId) (c d : Class) (k l : Method) (b e : Body) (p q : ℕ) (x y : Stmt) → IsStmt cs s m c k b p x → IsStmt cs s n d l e q y → SamePlace m n b e p q
one_place_only cs s m n c d k l b e p q x y one two = elim (three_ways m.0 n.0) [
  | inl less ↦ absurd (apart cs s m n c d k l b e p q x y one two less)
  | inr (inr more) ↦ absurd (apart cs s n m d c l k e b q p y x two one more)
  | inr (inl same) ↦
      let method : m ≡ n = ap method_id same in
      let first : At (all_methods cs) n.0 (c, k) = subst (λ (i : ℕ). At (all_methods cs) i (c, k)) same one.method in
      let pair : (c, k) ≡ (d, l) = at_once (all_methods cs) n.0 (c, k) (d, l) first two.method in
      let bodies : Some b ≡ Some e = sym one.body ∙ ap (λ (x : Class × Method). x.1.body) pair ∙ two.body in
      let number : first_of cs m.0 ≡ first_of cs n.0 = ap (first_of cs) same in
      record { method = method; body = some_once b e bodies; place = places (first_of cs m.0) (first_of cs n.0) s.0 p q number one.number two.number }
]

-- where one leads to another, both are among the statements
pub leads_from : (cs : List Class) (s q : StmtId) → Leads cs s q → s.0 < length (stmts_in cs)
leads_from cs s q leads = stmt_within cs s leads.m leads.c leads.k leads.b leads.p leads.stmt leads.is

pub leads_together : (cs : List Class) (s q : StmtId) → All IsWellFormed cs → Leads cs s q → Together cs s q
leads_together cs s q formed leads =
    let fits = body_fits cs leads.m.0 leads.c leads.k leads.b formed leads.is.method leads.is.body in
    let below = succ_below leads.b leads.p leads.u fits leads.succ in
    let (stmt, stands) = item_there leads.b.stmts leads.u below in
    let is : IsStmt cs q leads.m leads.c leads.k leads.b leads.u stmt = record { method = leads.is.method; body = leads.is.body; place = stands; number = leads.number } in
    (leads.m, (leads.c, leads.k, leads.b, leads.p, leads.stmt, leads.is), (leads.c, leads.k, leads.b, leads.u, stmt, is))

pub together_back : (cs : List Class) (s q : StmtId) → Together cs s q → Together cs q s
together_back cs s q (m, one, two) = (m, two, one)

pub leads_to : (cs : List Class) (s q : StmtId) → All IsWellFormed cs → Leads cs s q → q.0 < length (stmts_in cs)
leads_to cs s q formed leads =
    let fits = body_fits cs leads.m.0 leads.c leads.k leads.b formed leads.is.method leads.is.body in
    let below = succ_below leads.b leads.p leads.u fits leads.succ in
    let within = (in_method cs leads.m.0 leads.c leads.k leads.b leads.u leads.is.method leads.is.body below).1 in
    let number = leads.number in
    omega (arith, within, number)

-- a method's statements have the numbers from its first one up to the first of the next
pub own_range : (cs : List Class) (s : StmtId) (m : MethodId) → m.0 < length (all_methods cs) → IsOf cs s m ↔ ((first_of cs m.0 ≤ s.0) × (s.0 < first_of cs (m.0 + 1)))
own_range cs s m below = (there, back) where
  there : IsOf cs s m → (first_of cs m.0 ≤ s.0) × (s.0 < first_of cs (m.0 + 1))
  there (c, k, b, p, stmt, is) =
      let less = (in_method cs m.0 c k b p is.method is.body is.place.0).0 in
      let number = is.number in
      (omega (arith, number), omega (arith, number, less))

  back : (first_of cs m.0 ≤ s.0) × (s.0 < first_of cs (m.0 + 1)) → IsOf cs s m
  back (from, to) =
      let ((c, k), at) = item_there (all_methods cs) m.0 below in
      let (b, body) = the_body k.body (has_body cs c k (m.0, at.0, at.1)) in
      let size = method_size cs m.0 c k b at body in
      let p = s.0 - first_of cs m.0 in
      let (stmt, stands) = item_there b.stmts p (omega (arith, from, to, size)) in
      (c, k, b, p, stmt, record { method = at; body = body; place = stands; number = omega (arith, from) })

-- so the number of the next one's first bounds them
pub own_below : (cs : List Class) (m : MethodId) (end : ℕ) → end ≡ first_of cs (m.0 + 1) → m.0 < length (all_methods cs) → (s : StmtId) → IsOf cs s m ↔ ((first_of cs m.0 ≤ s.0) × (s.0 < end))
own_below cs m end is below s = subst (λ (e : ℕ). IsOf cs s m ↔ ((first_of cs m.0 ≤ s.0) × (s.0 < e))) (sym is) (own_range cs s m below)

pub end_within : (cs : List Class) (m : MethodId) (end : ℕ) → end ≡ first_of cs (m.0 + 1) → m.0 < length (all_methods cs) → end ≤ length (stmts_in cs)
end_within cs m end is below = let most = next_within cs m.0 below in omega (arith, is, most)
