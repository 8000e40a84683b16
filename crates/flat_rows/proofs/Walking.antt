-- From chains to the rows of the graph turned the other way.
use Rattle.std.proofs.Common.{◌≡◌, ◌⊎◌, ℕ, suc, ◌+◌, ◌-◌, ◌<◌, ◌≤◌, List, [], ◌∷◌, ◌++◌, length, get_or, Contains, refl, sym, ap, ◌∙◌, subst, inl, inr, arith, append_assoc}
use Rattle.std.specs.List.Sorted.{IsStrictlyIncreasing}
use Rattle.std.proofs.lemmas.Bool.{cases_eq}
use Rattle.std.proofs.lemmas.List.{get_or_append_left, get_or_push, get_or_past, get_or_default, length_push, same_from_push}
use Rattle.std.proofs.lemmas.List.Elements.{All-contains}
use Rattle.clean_base.specs.Lists.{At}
use Rattle.flat_rows.specs.Rows.{AddsToLast}
use Rattle.flat_rows.specs.Converse.{row, IsConverse, IsGraph}
use Rattle.flat_rows.specs.Chains.{Chain, AreChains, LeadsFrom}
use Rattle.flat_rows.specs.Chains.Chain.{ends, goes}
use Rattle.flat_rows.specs.declared.chains.Link.{Link}
use Rattle.flat_rows.proofs.Linking.{chain_once}

-- a chain as it is walked: what of it stands in the last row, and what is left
pub record IsWalk (links : List Link) (head : ℕ) (old : List (List ℕ)) (at : ℕ) (new : List (List ℕ)) : Type 0 where
  pub done : List ℕ
  pub left : List ℕ
  pub chain : Chain links head (done ++ left)
  pub rest : Chain links at left
  pub rows : new ≡ old ++ done ∷ []

pub walk_begun : (links : List Link) (head : ℕ) (old new : List (List ℕ)) → ((ps : List ℕ) × Chain links head ps) → new ≡ old ++ [] ∷ [] → IsWalk links head old head new
walk_begun links head old new (ps, chain) is = record { done = []; left = ps; chain = chain; rest = chain; rows = is }

pub walk_some : (links : List Link) (head : ℕ) (old new : List (List ℕ)) (at : ℕ) → IsWalk links head old at new → 0 < length new
walk_some links head old new at walk = omega (arith, ap length walk.rows ∙ length_push old walk.done)

-- the first of a chain that is no empty one
pub record IsFirst (links : List Link) (at : ℕ) : Type 0 where
  pub below : at ≤ length links
  pub lower : (link : Link) → link ≡ get_or links (at - 1) link → link.next < at

the_first : (links : List Link) (at : ℕ) (x link : Link) → At links at x → link ≡ get_or links (suc at - 1) link → x ≡ link
the_first links at x link here is =
    let same : suc at - 1 ≡ at = omega arith in
    sym here.1 ∙ get_or_default links at x link here.0 ∙ ap (λ (i : ℕ). get_or links i link) (sym same) ∙ sym is

pub chain_first : (links : List Link) (at : ℕ) (ps : List ℕ) → 0 < at → Chain links at ps → IsFirst links at
chain_first links _ _ some ends = absurd (omega arith)
chain_first links (suc at) _ some (goes x here low rest) = record {
  below = let less : at < length links = here.0 in omega (arith, less);
  lower = λ link is. let one : x ≡ link = the_first links at x link here is in let next : x.next ≡ link.next = ap (λ (l : Link). l.next) one in omega (arith, low, next);
}

pub walk_lower : (links : List Link) (head : ℕ) (old new : List (List ℕ)) (at : ℕ) (link : Link) → IsWalk links head old at new → 0 < at → link ≡ get_or links (at - 1) link → link.next < at
walk_lower links head old new at link walk some is = (chain_first links at walk.left some walk.rest).lower link is

-- what a read of a link gives
pub link_read : (links : List Link) (at : ℕ) (ps : List ℕ) (d : Link) → 0 < at → Chain links at ps → get_or links (at - 1) d ≡ get_or links (at - 1) (get_or links (at - 1) d)
link_read links at ps d some chain = let low : at ≤ length links = (chain_first links at ps some chain).below in get_or_default links (at - 1) d (get_or links (at - 1) d) (omega (arith, low, some))

walk_on : (links : List Link) (head : ℕ) (old mid new : List (List ℕ)) (at : ℕ) (link : Link) (done left : List ℕ) → Chain links head (done ++ left) → Chain links at left → mid ≡ old ++ done ∷ [] → 0 < at → link ≡ get_or links (at - 1) link → AddsToLast mid (link.node ∷ []) new → IsWalk links head old link.next new
walk_on links head old mid new _ link done _ chain ends rows some is adds = absurd (omega arith)
walk_on links head old mid new (suc at) link done _ chain (goes {nodes = left} x here low rest) rows some is (before, last, was, now) =
    let one : x ≡ link = the_first links at x link here is in
    let both : (before ≡ old) × (last ≡ done) = same_from_push before old last done (sym was ∙ rows) in
    record {
      done = done ++ link.node ∷ [];
      left = left;
      chain = subst (λ (ns : List ℕ). Chain links head ns) (ap (λ (l : Link). done ++ l.node ∷ left) one ∙ sym (append_assoc done (link.node ∷ []) left)) chain;
      rest = subst (λ (l : Link). Chain links l.next left) one rest;
      rows = now ∙ ap (λ (rs : List (List ℕ)). rs ++ (last ++ link.node ∷ []) ∷ []) both.0 ∙ ap (λ (ns : List ℕ). old ++ (ns ++ link.node ∷ []) ∷ []) both.1;
    }

pub walk_more : (links : List Link) (head : ℕ) (old mid new : List (List ℕ)) (at : ℕ) (link : Link) → IsWalk links head old at mid → 0 < at → link ≡ get_or links (at - 1) link → AddsToLast mid (link.node ∷ []) new → IsWalk links head old link.next new
walk_more links head old mid new at link walk some is adds = walk_on links head old mid new at link walk.done walk.left walk.chain walk.rest walk.rows some is adds

walk_ended : (links : List Link) (head : ℕ) (old new : List (List ℕ)) (at : ℕ) (done left : List ℕ) → Chain links head (done ++ left) → Chain links at left → new ≡ old ++ done ∷ [] → at ≤ 0 → (ps : List ℕ) × Chain links head ps × (new ≡ old ++ ps ∷ [])
walk_ended links head old new _ done _ chain ends rows none = (done ++ [], chain, rows ∙ ap (λ (ns : List ℕ). old ++ ns ∷ []) (sym (append_nil done))) where
  append_nil : (ns : List ℕ) → ns ++ [] ≡ ns
  append_nil [] = refl
  append_nil (n ∷ ns) = ap (λ (ms : List ℕ). n ∷ ms) (append_nil ns)
walk_ended links head old new (suc at) done _ chain (goes x here low rest) rows none = absurd (omega arith)

pub walk_done : (links : List Link) (head : ℕ) (old new : List (List ℕ)) (at : ℕ) → IsWalk links head old at new → at ≤ 0 → (ps : List ℕ) × Chain links head ps × (new ≡ old ++ ps ∷ [])
walk_done links head old new at walk none = walk_ended links head old new at walk.done walk.left walk.chain walk.rest walk.rows none

-- the rows of the first so many nodes

pub record AreWalked (links : List Link) (heads : List ℕ) (count : ℕ) (back : List (List ℕ)) : Type 0 where
  pub counted : length back ≡ count
  pub each : (q : ℕ) → q < count → Chain links (get_or heads q 0) (row back q)

pub walked_none : (links : List Link) (heads : List ℕ) (back : List (List ℕ)) → back ≡ [] → AreWalked links heads 0 back
walked_none links heads back is = record { counted = ap length is; each = λ q below. absurd (omega arith) }

pub walked_more : (links : List Link) (heads : List ℕ) (count : ℕ) (old new : List (List ℕ)) (head : ℕ) → head ≡ get_or heads count 0 → AreWalked links heads count old → ((ps : List ℕ) × Chain links head ps × (new ≡ old ++ ps ∷ [])) → AreWalked links heads (count + 1) new
walked_more links heads count old new head is are (ps, chain, rows) = record {
  counted = ap length rows ∙ length_push old ps ∙ ap (λ (n : ℕ). n + 1) are.counted;
  each = λ q below. elim (cases_eq q count) [
    | inl same ↦
        let last : row new q ≡ ps = ap (λ (rs : List (List ℕ)). row rs q) rows ∙ get_or_push old ps [] q (are.counted ∙ sym same) in
        let head_is : head ≡ get_or heads q 0 = is ∙ ap (λ (i : ℕ). get_or heads i 0) (sym same) in
        subst (λ (ns : List ℕ). Chain links (get_or heads q 0) ns) (sym last) (subst (λ (h : ℕ). Chain links h ps) head_is chain)
    | inr other ↦
        let less : q < count = omega (arith, below, other) in
        let long : length old ≡ count = are.counted in
        let early : row new q ≡ row old q = ap (λ (rs : List (List ℕ)). row rs q) rows ∙ get_or_append_left old (ps ∷ []) [] q (omega (arith, less, long)) in
        subst (λ (ns : List ℕ). Chain links (get_or heads q 0) ns) (sym early) (are.each q less)
  ];
}

-- what a row has is a node
leads_within : (rows : List (List ℕ)) (p q : ℕ) → IsGraph rows → Contains (row rows p) q → q < length rows
leads_within rows p q graph has = elim (cases_lt p (length rows)) [
  | inl below ↦ All-contains (λ (x : ℕ). x < length rows) (row rows p) q (graph p [] below) has
  | inr past ↦ none (subst (λ (ns : List ℕ). Contains ns q) (get_or_past rows p [] past) has)
]
  where
    cases_lt : (a b : ℕ) → (a < b) ⊎ (b ≤ a)
    cases_lt a b = grind arith

    none : Contains [] q → q < length rows
    none (k, below, is) = absurd (omega (arith, below))

pub converse_is : (rows back : List (List ℕ)) (heads : List ℕ) (links : List Link) (count : ℕ) → IsGraph rows → AreChains (LeadsFrom rows 0) (length rows) heads links → AreWalked links heads count back → count ≡ length rows → IsConverse rows back
converse_is rows back heads links count graph chains are whole = record {
  count = are.counted ∙ whole;
  leads = λ p q. elim (cases_lt q (length rows)) [
    | inl below ↦
        let (ps, chain, up, exact) = chains.each q below in
        let same : row back q ≡ ps = one q below ps chain in (
          (λ has. ((exact p).0 (subst (λ (ns : List ℕ). Contains ns p) same has)).1),
          (λ has. subst (λ (ns : List ℕ). Contains ns p) (sym same) ((exact p).1 (omega arith, has))),
        )
    | inr past ↦ (
      (λ has. absurd (none p (subst (λ (ns : List ℕ). Contains ns p) (empty q past) has))),
      (λ has. let below : q < length rows = leads_within rows p q graph has in absurd (omega (arith, below, past))),
    )
  ];
  ascending = λ q. elim (cases_lt q (length rows)) [
    | inl below ↦ let (ps, chain, up, exact) = chains.each q below in subst IsStrictlyIncreasing (sym (one q below ps chain)) up
    | inr past ↦ subst IsStrictlyIncreasing (sym (empty q past)) (λ k less. absurd (omega (arith, less)))
  ];
}
  where
    cases_lt : (a b : ℕ) → (a < b) ⊎ (b ≤ a)
    cases_lt a b = grind arith

    long : length back ≡ count
    long = are.counted

    one : (q : ℕ) → q < length rows → (ps : List ℕ) → Chain links (get_or heads q 0) ps → row back q ≡ ps
    one q below ps chain = chain_once links (get_or heads q 0) (row back q) ps (are.each q (omega (arith, below, whole))) chain

    empty : (q : ℕ) → length rows ≤ q → row back q ≡ []
    empty q past = get_or_past back q [] (omega (arith, past, whole, long))

    none : (p : ℕ) → Contains [] p → ⊥
    none p (k, below, is) = absurd (omega (arith, below))
