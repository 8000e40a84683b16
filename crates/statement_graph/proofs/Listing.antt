-- The listed methods, one method more.
use Rattle.std.proofs.Common.{◌≡◌, ◌⊎◌, ◌+◌, ◌-◌, ◌<◌, ◌≤◌, ℕ, Some, List, [], ◌∷◌, ◌++◌, length, replicate, refl, sym, ap, ◌∙◌, subst, inl, inr, arith}
use Rattle.std.proofs.lemmas.List.{length-append, length-replicate, length_push, get_or_append_left, get_or-append_right, get_or-replicate, get_or_push}
use Rattle.clean_base.specs.Lists.{At}
use Rattle.clean_base.specs.declared.ids.MethodId.{MethodId}
use Rattle.clean_base.specs.declared.ids.StmtId.{StmtId}
use Rattle.jimple_tree.specs.declared.tree.Body.{Body}
use Rattle.jimple_tree.specs.declared.tree.Class.{Class}
use Rattle.jimple_tree.specs.declared.tree.Method.{Method}
use Rattle.class_table.specs.Methods.{all_methods}
use Rattle.statement_graph.specs.Kept.{AreListed, StandsIn, method_id, stmt_id}
use Rattle.statement_graph.specs.Statements.{first_of}
use Rattle.statement_graph.specs.Successors.{AreRows, IsRow}
use Rattle.statement_graph.proofs.Standing.{method_size, item_there}

at_left : {X : Type 0} (xs ys : List X) (n : ℕ) (x : X) → At (xs ++ ys) n x → n < length xs → At xs n x
at_left xs ys n x at below = (below, sym (get_or_append_left xs ys x n below) ∙ at.1)

at_right : {X : Type 0} (xs ys : List X) (n : ℕ) (x : X) → At (xs ++ ys) n x → length xs ≤ n → At ys (n - length xs) x
at_right xs ys n x at past = let long = length-append xs ys in let below = at.0 in (omega (arith, long, below, past), sym (get_or-append_right xs ys (length xs) n x refl past) ∙ at.1)

one_copy : (n : ℕ) (x y : MethodId) (i : ℕ) → At (replicate n x) i y → y ≡ x
one_copy n x y i at = let long = length-replicate n x in let below = at.0 in sym at.1 ∙ get_or-replicate n i x y (omega (arith, long, below))

ways : (a b : ℕ) → (a < b) ⊎ (b ≤ a)
ways a b = grind arith

pub listed_none : (cs : List Class) (firsts : List StmtId) (owners : List MethodId) (rows : List (List ℕ)) → firsts ≡ [] → owners ≡ [] → rows ≡ [] → AreListed cs 0 firsts owners rows
listed_none cs firsts owners rows first owned rowed = record {
  methods = ap length first;
  begins = λ m s at. absurd (let below = at.0 in omega (arith, below, ap length first));
  owned = ap length owned;
  rowed = ap length rowed;
  each = λ s m row at there. absurd (let below = at.0 in omega (arith, below, ap length owned));
}

module _ (cs : List Class) (n : ℕ) (firsts : List StmtId) (owners : List MethodId) (rows more : List (List ℕ)) (are : AreListed cs n firsts owners rows) (c : Class) (k : Method) (b : Body) (at : At (all_methods cs) n (c, k)) (body : k.body ≡ Some b)
    (behind : AreRows b (length owners) (length b.stmts) more) where
  abbrev copies : List MethodId
  copies = replicate (length b.stmts) (method_id n)

  size : first_of cs (n + 1) ≡ first_of cs n + length b.stmts
  size = method_size cs n c k b at body

  many : length owners ≡ first_of cs n
  many = are.owned

  same_many : length rows ≡ length owners
  same_many = are.rowed ∙ sym are.owned

  first : (m : ℕ) (s : StmtId) → At (firsts ++ stmt_id (length owners) ∷ []) m s → s.0 ≡ first_of cs m
  first m s there = elim (ways m (length firsts)) [
    | inl early ↦ are.begins m s (at_left firsts (stmt_id (length owners) ∷ []) m s there early)
    | inr late ↦
        let long = length_push firsts (stmt_id (length owners)) in
        let below = there.0 in
        let last : length firsts ≡ m = omega (arith, long, below, late) in
        let one : stmt_id (length owners) ≡ s = sym (get_or_push firsts (stmt_id (length owners)) s m last) ∙ there.1 in
        let number : s.0 ≡ length owners = sym (ap (λ (x : StmtId). x.0) one) in
        number ∙ many ∙ ap (first_of cs) (sym are.methods ∙ last)
  ]

  here : (s p : ℕ) (row : List ℕ) → s ≡ length owners + p → p < length b.stmts → At more p row → StandsIn cs s n row
  here s p row number below there = let (stmt, stands) = item_there b.stmts p below in record {
    c = c;
    k = k;
    b = b;
    p = p;
    stmt = stmt;
    is = record { method = at; body = body; place = stands; number = number ∙ ap (λ (f : ℕ). f + p) many };
    leads = subst (λ (f : ℕ). IsRow b f p row) many (behind.each p row there);
  }

  every : (s : ℕ) (m : MethodId) (row : List ℕ) → At (owners ++ copies) s m → At (rows ++ more) s row → (m.0 < n + 1) × StandsIn cs s m.0 row
  every s m row own there = elim (ways s (length owners)) [
    | inl early ↦ let (less, stands) = are.each s m row (at_left owners copies s m own early) (at_left rows more s row there (omega (arith, early, same_many))) in (omega (arith, less), stands)
    | inr late ↦
        let mine : At copies (s - length owners) m = at_right owners copies s m own late in
        let one : m ≡ method_id n = one_copy (length b.stmts) (method_id n) m (s - length owners) mine in
        let number : n ≡ m.0 = sym (ap (λ (x : MethodId). x.0) one) in
        let long = length-replicate (length b.stmts) (method_id n) in
        let below = mine.0 in
        let next : At more (s - length rows) row = at_right rows more s row there (omega (arith, late, same_many)) in
        let place : s - length rows ≡ s - length owners = ap (λ (i : ℕ). s - i) same_many in
        let stands : StandsIn cs s n row = here s (s - length owners) row (omega (arith, late)) (omega (arith, below, long)) (subst (λ (i : ℕ). At more i row) place next) in
        (omega (arith, number), subst (λ (i : ℕ). StandsIn cs s i row) number stands)
  ]

  listed : AreListed cs (n + 1) (firsts ++ stmt_id (length owners) ∷ []) (owners ++ copies) (rows ++ more)
  listed = record {
    methods = length_push firsts (stmt_id (length owners)) ∙ ap (λ (i : ℕ). i + 1) are.methods;
    begins = first;
    owned = let long = length-append owners copies in let own = length-replicate (length b.stmts) (method_id n) in omega (arith, long, own, size, many);
    rowed = let long = length-append rows more in let own = behind.counted in omega (arith, long, own, size, many, same_many);
    each = every;
  }

pub listed_more : (cs : List Class) (n : ℕ) (firsts : List StmtId) (owners : List MethodId) (rows : List (List ℕ)) → AreListed cs n firsts owners rows
    → (c : Class) (k : Method) (b : Body) → At (all_methods cs) n (c, k) → k.body ≡ Some b
    → (firsts' : List StmtId) (owners' : List MethodId) (rows' : List (List ℕ)) → firsts' ≡ firsts ++ stmt_id (length owners) ∷ [] → owners' ≡ owners ++ replicate (length b.stmts) (method_id n)
    → ((more : List (List ℕ)) × AreRows b (length owners) (length b.stmts) more × (rows' ≡ rows ++ more)) → AreListed cs (n + 1) firsts' owners' rows'
listed_more cs n firsts owners rows are c k b at body firsts' owners' rows' first owned (more, behind, rowed) =
    subst (λ (fs : List StmtId). AreListed cs (n + 1) fs owners' rows') (sym first)
    (subst (λ (os : List MethodId). AreListed cs (n + 1) (firsts ++ stmt_id (length owners) ∷ []) os rows') (sym owned)
    (subst (λ (rs : List (List ℕ)). AreListed cs (n + 1) (firsts ++ stmt_id (length owners) ∷ []) (owners ++ replicate (length b.stmts) (method_id n)) rs) (sym rowed)
    (listed cs n firsts owners rows more are c k b at body behind)))
