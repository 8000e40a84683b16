-- Chains of links as they grow.
use Rattle.std.proofs.Common.{◌≡◌, ◌↔◌, ◌⊎◌, ℕ, zero, suc, ◌+◌, ◌<◌, ◌≤◌, List, [], ◌∷◌, ◌++◌, length, get_or, set, take, replicate, Contains, refl, sym, ap, ◌∙◌, subst, inl, inr, arith}
use Rattle.std.specs.List.Sorted.{IsStrictlyIncreasing}
use Rattle.std.proofs.lemmas.Bool.{cases_eq}
use Rattle.std.proofs.lemmas.List.{get_or_append_left, get_or_default, get_or_push, get_or-set_same, get_or-set_other, get_or_past, get_or-replicate, length-append, length-replicate, length-set, take_more, take_all}
use Rattle.std.proofs.lemmas.List.Elements.{Contains-push, Contains-push_cases, Contains-append_left}
use Rattle.clean_base.specs.Lists.{At}
use Rattle.flat_rows.specs.Converse.{row}
use Rattle.flat_rows.specs.Chains.{Chain, AreChains, LeadsFrom, Linked}
use Rattle.flat_rows.specs.Chains.Chain.{ends, goes}
use Rattle.flat_rows.specs.Chains.Linked.{again, fresh}
use Rattle.flat_rows.specs.declared.chains.Link.{Link}

at_once : (links : List Link) (n : ℕ) (x y : Link) → At links n x → At links n y → x ≡ y
at_once links n x y a b = sym a.1 ∙ get_or_default links n x y a.0 ∙ b.1

pub chain_once : (links : List Link) (h : ℕ) (ps qs : List ℕ) → Chain links h ps → Chain links h qs → ps ≡ qs
chain_once links _ _ _ ends ends = refl
chain_once links (suc at) _ _ (goes {nodes = ps} x here low rest) (goes {nodes = qs} y there less more) =
    let one : x ≡ y = at_once links at x y here there in
    let same : ps ≡ qs = chain_once links x.next ps qs rest (subst (λ (l : Link). Chain links l.next qs) (sym one) more) in
    ap (λ (l : Link). l.node ∷ ps) one ∙ ap (λ (ns : List ℕ). y.node ∷ ns) same

pub chain_more : (links more : List Link) (h : ℕ) (ps : List ℕ) → Chain links h ps → Chain (links ++ more) h ps
chain_more links more _ _ ends = ends
chain_more links more (suc at) _ (goes {nodes = ps} x here low rest) =
    goes x ((let below : at < length links = here.0 in omega (arith, below, length-append links more)), get_or_append_left links more x at here.0 ∙ here.1) low (chain_more links more x.next ps rest)

pub chain_low : (links : List Link) (h : ℕ) (ps : List ℕ) → Chain links h ps → h ≤ length links
chain_low links _ _ ends = omega arith
chain_low links (suc at) _ (goes x here low rest) = let below : at < length links = here.0 in omega (arith, below)

pub cons_cases : (x : ℕ) (xs : List ℕ) (y : ℕ) → Contains (x ∷ xs) y → (x ≡ y) ⊎ Contains xs y
cons_cases x xs y (zero, below, is) = inl is
cons_cases x xs y (suc k, below, is) = inr (k, omega arith, is)

pub cons_first : (x : ℕ) (xs : List ℕ) → Contains (x ∷ xs) x
cons_first x xs = (0, omega arith, refl)

pub cons_rest : (x : ℕ) (xs : List ℕ) (y : ℕ) → Contains xs y → Contains (x ∷ xs) y
cons_rest x xs y (k, below, is) = (suc k, omega arith, is)

rises : (x : ℕ) (xs : List ℕ) → IsStrictlyIncreasing xs → (0 < length xs → x < get_or xs 0 0) → IsStrictlyIncreasing (x ∷ xs)
rises x xs up first zero below = first (omega arith)
rises x xs up first (suc k) below = let next : suc k + 1 ≡ suc (k + 1) = omega arith in rw next (up k (omega arith))

-- chains of what the relation tells in other words
pub chains_same : (D E : ℕ → ℕ → Type 0) (count : ℕ) (heads : List ℕ) (links : List Link) → ((p q : ℕ) → D p q ↔ E p q) → AreChains D count heads links → AreChains E count heads links
chains_same D E count heads links same are = record {
  counted = are.counted;
  each = λ q below. let (ps, chain, up, exact) = are.each q below in (ps, chain, up, λ p. ((λ has. (same p q).0 ((exact p).0 has)), (λ has. (exact p).1 ((same p q).1 has))));
}

abbrev pub OneMore : (ℕ → ℕ → Type 0) → ℕ → ℕ → ℕ → ℕ → Type 0
OneMore D node at p q = D p q ⊎ ((p ≡ node) × (q ≡ at))

-- one more that leads to a node
module _ (D : ℕ → ℕ → Type 0) (count : ℕ) (heads : List ℕ) (links : List Link) (node at : ℕ) (are : AreChains D count heads links) (within : at < count) (above : (p q : ℕ) → D p q → node ≤ p) where
  stays : (nodes : List ℕ) → Chain links (get_or heads at 0) (node ∷ nodes) → AreChains (OneMore D node at) count heads links
  stays nodes begins = record {
    counted = are.counted;
    each = λ q below.
        let (ps, chain, up, exact) = are.each q below in
        let first : q ≡ at → Contains ps node = λ same. subst (λ (ns : List ℕ). Contains ns node) (chain_once links (get_or heads q 0) (node ∷ nodes) ps (subst (λ (i : ℕ). Chain links (get_or heads i 0) (node ∷ nodes)) (sym same) begins) chain) (cons_first node nodes) in
        (ps, chain, up, λ p. ((λ has. inl ((exact p).0 has)), (λ has. elim has [ inl was ↦ (exact p).1 was | inr (is, same) ↦ subst (Contains ps) (sym is) (first same) ])));
  }

  module _ (link : Link) (named : link.node ≡ node) (behind : link.next ≡ get_or heads at 0) (apart : (nodes : List ℕ) → Chain links (get_or heads at 0) (node ∷ nodes) → ⊥) where
    abbrev heads' : List ℕ
    heads' = set heads at (suc (length links))

    abbrev links' : List Link
    links' = links ++ link ∷ []

    long : length heads ≡ count
    long = are.counted

    here : at < length heads
    here = omega (arith, long, within)

    abbrev Each : ℕ → Type 0
    Each q = (ps : List ℕ) × Chain links' (get_or heads' q 0) ps × IsStrictlyIncreasing ps × ((p : ℕ) → Contains ps p ↔ OneMore D node at p q)

    old : (q : ℕ) → q < count → (q ≡ at → ⊥) → Each q
    old q below other =
        let (ps, chain, up, exact) = are.each q below in
        let same : get_or heads' q 0 ≡ get_or heads q 0 = get_or-set_other heads at q (suc (length links)) 0 other in (
          ps,
          subst (λ (h : ℕ). Chain links' h ps) (sym same) (chain_more links (link ∷ []) (get_or heads q 0) ps chain),
          up,
          λ p. ((λ has. inl ((exact p).0 has)), (λ has. elim has [ inl was ↦ (exact p).1 was | inr (is, it) ↦ absurd (other it) ])),
        )

    lower : (ps : List ℕ) → Chain links (get_or heads at 0) ps → ((p : ℕ) → Contains ps p ↔ D p at) → 0 < length ps → node < get_or ps 0 0
    lower [] chain exact some = absurd (omega arith)
    lower (first ∷ rest) chain exact some =
        let least : node ≤ first = above first at ((exact first).0 (cons_first first rest)) in
        let other : first ≡ node → ⊥ = λ same. apart rest (subst (λ (n : ℕ). Chain links (get_or heads at 0) (n ∷ rest)) same chain) in
        elim (cases_eq first node) [ inl same ↦ absurd (other same) | inr differs ↦ omega (arith, least, differs) ]

    new : Each at
    new =
        let (ps, chain, up, exact) = are.each at within in
        let head : get_or heads' at 0 ≡ suc (length links) = get_or-set_same heads at (suc (length links)) 0 here in
        let low : get_or heads at 0 ≤ length links = chain_low links (get_or heads at 0) ps chain in
        let rest : Chain links' link.next ps = chain_more links (link ∷ []) link.next ps (subst (λ (h : ℕ). Chain links h ps) (sym behind) chain) in
        let stands : At links' (length links) link = (omega (arith, length-append links (link ∷ [])), get_or_push links link link (length links) refl) in
        let grown : Chain links' (suc (length links)) (link.node ∷ ps) = goes link stands (omega (arith, low, behind)) rest in (
          node ∷ ps,
          subst (λ (h : ℕ). Chain links' h (node ∷ ps)) (sym head) (subst (λ (n : ℕ). Chain links' (suc (length links)) (n ∷ ps)) named grown),
          rises node ps up (lower ps chain exact),
          λ p. (
            (λ has. elim (cons_cases node ps p has) [ inl is ↦ inr (sym is, refl) | inr was ↦ inl ((exact p).0 was) ]),
            (λ has. elim has [ inl was ↦ cons_rest node ps p ((exact p).1 was) | inr (is, it) ↦ subst (Contains (node ∷ ps)) (sym is) (cons_first node ps) ]),
          ),
        )

    added : AreChains (OneMore D node at) count heads' links'
    added = record {
      counted = length-set heads at (suc (length links)) ∙ are.counted;
      each = λ q below. elim (cases_eq q at) [ inl same ↦ subst Each (sym same) new | inr other ↦ old q below other ];
    }

pub chains_more : (D : ℕ → ℕ → Type 0) (count : ℕ) (heads : List ℕ) (links : List Link) (node at : ℕ) → AreChains D count heads links → at < count → ((p q : ℕ) → D p q → node ≤ p)
    → (now : List ℕ) (then : List Link) → Linked heads links node at now then → AreChains (OneMore D node at) count now then
chains_more D count heads links node at are within above _ _ (again nodes begins) = stays D count heads links node at are within above nodes begins
chains_more D count heads links node at are within above _ _ (fresh link named behind apart) = added D count heads links node at are within above link named behind apart

-- those to which a node leads, one after another

abbrev pub RowFrom : List (List ℕ) → ℕ → ℕ → ℕ → ℕ → Type 0
RowFrom rows node n p q = LeadsFrom rows (node + 1) p q ⊎ ((p ≡ node) × Contains (take n (row rows node)) q)

none_taken : (xs : List ℕ) (q : ℕ) → Contains (take 0 xs) q → ⊥
none_taken xs q (k, below, is) = absurd (omega (arith, below))

pub row_begun : (rows : List (List ℕ)) (node : ℕ) (p q : ℕ) → LeadsFrom rows (node + 1) p q ↔ RowFrom rows node 0 p q
row_begun rows node p q = ((λ has. inl has), (λ has. elim has [ inl was ↦ was | inr (is, none) ↦ absurd (none_taken (row rows node) q none) ]))

pub row_more : (rows : List (List ℕ)) (node n at : ℕ) (p q : ℕ) → n < length (row rows node) → at ≡ get_or (row rows node) n 0 → OneMore (RowFrom rows node n) node at p q ↔ RowFrom rows node (n + 1) p q
row_more rows node n at p q below is = (there, back) where
  ns : List ℕ
  ns = row rows node

  next : take (n + 1) ns ≡ take n ns ++ at ∷ []
  next = take_more ns n 0 below ∙ ap (λ (x : ℕ). take n ns ++ x ∷ []) (sym is)

  there : OneMore (RowFrom rows node n) node at p q → RowFrom rows node (n + 1) p q
  there (inl (inl was)) = inl was
  there (inl (inr (same, has))) = inr (same, subst (λ (xs : List ℕ). Contains xs q) (sym next) (Contains-append_left (take n ns) (at ∷ []) q has))
  there (inr (same, it)) = inr (same, subst (λ (xs : List ℕ). Contains xs q) (sym next) (subst (λ (x : ℕ). Contains (take n ns ++ at ∷ []) x) (sym it) (Contains-push (take n ns) at)))

  back : RowFrom rows node (n + 1) p q → OneMore (RowFrom rows node n) node at p q
  back (inl was) = inl (inl was)
  back (inr (same, has)) = elim (Contains-push_cases (take n ns) at q (subst (λ (xs : List ℕ). Contains xs q) next has)) [
    | inl early ↦ inl (inr (same, early))
    | inr last ↦ inr (same, sym last)
  ]

pub row_above : (rows : List (List ℕ)) (node n : ℕ) (p q : ℕ) → RowFrom rows node n p q → node ≤ p
row_above rows node n p q (inl was) = let less : node + 1 ≤ p = was.0 in omega (arith, less)
row_above rows node n p q (inr (same, has)) = omega (arith, same)

pub row_done : (rows : List (List ℕ)) (node n : ℕ) (p q : ℕ) → length (row rows node) ≤ n → RowFrom rows node n p q ↔ LeadsFrom rows node p q
row_done rows node n p q all = (there, back) where
  whole : take n (row rows node) ≡ row rows node
  whole = take_all n (row rows node) all

  there : RowFrom rows node n p q → LeadsFrom rows node p q
  there (inl was) = ((let less : node + 1 ≤ p = was.0 in omega (arith, less)), was.1)
  there (inr (same, has)) = (omega (arith, same), subst (λ (x : ℕ). Contains (row rows x) q) (sym same) (subst (λ (xs : List ℕ). Contains xs q) whole has))

  back : LeadsFrom rows node p q → RowFrom rows node n p q
  back (low, has) = elim (cases_eq p node) [
    | inl same ↦ inr (same, subst (λ (xs : List ℕ). Contains xs q) (sym whole) (subst (λ (x : ℕ). Contains (row rows x) q) same has))
    | inr other ↦ inl (omega (arith, low, other), has)
  ]

-- before all nodes
pub chains_none : (rows : List (List ℕ)) (count : ℕ) (heads : List ℕ) → length rows ≡ count → heads ≡ replicate count 0 → AreChains (LeadsFrom rows count) count heads []
chains_none rows count heads long is = record {
  counted = ap length is ∙ length-replicate count 0;
  each = λ q below. (
    [],
    subst (λ (h : ℕ). Chain [] h []) (sym (ap (λ (hs : List ℕ). get_or hs q 0) is ∙ get_or-replicate count q 0 0 below)) ends,
    (λ k less. absurd (omega (arith, less))),
    λ p. ((λ has. absurd (none_taken [] p has)), (λ has. absurd (none_taken [] q (subst (λ (xs : List ℕ). Contains xs q) (get_or_past rows p [] (let low : count ≤ p = has.0 in omega (arith, low, long))) has.1)))),
  );
}
