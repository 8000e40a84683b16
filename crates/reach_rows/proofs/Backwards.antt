-- The graph whose steps lead the other way.
use Rattle.std.proofs.Common.{◌≡◌, ◌↔◌, ◌⊎◌, ℕ, ◌+◌, ◌<◌, List, [], ◌∷◌, ◌++◌, length, get_or, set, take, sym, ap, subst, ◌∙◌, arith, inl, inr}
use Rattle.std.specs.Prelude.{Contains}
use Rattle.std.proofs.lemmas.Bool.{cases_eq}
use Rattle.std.proofs.lemmas.List.{length-set, get_or_default, get_or-set_same, get_or-set_other, take_more}
use Rattle.std.proofs.lemmas.List.Elements.{Contains-get_or, Contains-append_left, Contains-push, Contains-push_cases}
use Rattle.reach_rows.specs.Backward.{IsBackward, AddsTo}
use Rattle.reach_rows.specs.Graphs.{row, Steps, IsGraph}
use Rattle.reach_rows.specs.Reaches.{Reaches, here, on}
use Rattle.reach_rows.proofs.Paths.{reaches_more, steps_from}

module _ (rows backs : List (List ℕ)) (back : IsBackward rows backs) where
  pub reach_back : (a b : ℕ) → Reaches (Steps backs) a b → Reaches (Steps rows) b a
  reach_back a b here = here
  reach_back a b (on {b = by} step rest) = reaches_more (Steps rows) b by a (reach_back by b rest) ((back.steps by a).0 step)

  pub reach_forth : (a b : ℕ) → Reaches (Steps rows) a b → Reaches (Steps backs) b a
  reach_forth a b here = here
  reach_forth a b (on {b = by} step rest) = reaches_more (Steps backs) b by a (reach_forth by b rest) ((back.steps a by).1 step)

  pub back_graph : IsGraph backs
  back_graph k d below j e within =
      let a = get_or (get_or backs k d) j e in
      let same : get_or backs k d ≡ row backs k = get_or_default backs k d [] below in
      let step : Steps backs k a = subst (λ (ns : List ℕ). Contains ns a) same (Contains-get_or (get_or backs k d) j e within) in
      let long : length backs ≡ length rows = back.count in
      let there : a < length rows = steps_from rows a k ((back.steps a k).0 step) in
      omega arith

-- a node more
pub adds_more : (nodes : List ℕ) (i node : ℕ) (old mid new : List (List ℕ)) → i < length nodes → get_or nodes i 0 < length mid → AddsTo (take i nodes) node old mid
    → new ≡ set mid (get_or nodes i 0) (row mid (get_or nodes i 0) ++ node ∷ []) → AddsTo (take (i + 1) nodes) node old new
adds_more nodes i node old mid new within below adds is = record {
  count = ap length is ∙ length-set mid at _ ∙ adds.count;
  each = λ b a. elim (cases_eq b at) [
    | inl same ↦ subst (λ (n : ℕ). Contains (row new n) a ↔ (Contains (row old n) a ⊎ (Contains (take (i + 1) nodes) n × (node ≡ a)))) (sym same) (own a)
    | inr apart ↦ (
      (λ there. elim ((adds.each b a).0 (subst (λ (ns : List ℕ). Contains ns a) (other b apart) there)) [ inl was ↦ inl was | inr fresh ↦ inr (early b fresh.0, fresh.1) ]),
      (λ there. subst (λ (ns : List ℕ). Contains ns a) (sym (other b apart)) ((adds.each b a).1 (elim there [
        | inl was ↦ inl was
        | inr fresh ↦ elim (Contains-push_cases (take i nodes) at b (subst (λ (ns : List ℕ). Contains ns b) next fresh.0)) [ inl before ↦ inr (before, fresh.1) | inr last ↦ absurd (apart (sym last)) ]
      ]))),
    )
  ];
}
  where
    at : ℕ
    at = get_or nodes i 0

    next : take (i + 1) nodes ≡ take i nodes ++ at ∷ []
    next = take_more nodes i 0 within

    there : row new at ≡ row mid at ++ node ∷ []
    there = ap (λ (rs : List (List ℕ)). row rs at) is ∙ get_or-set_same mid at (row mid at ++ node ∷ []) [] below

    other : (b : ℕ) → (b ≡ at → ⊥) → row new b ≡ row mid b
    other b apart = ap (λ (rs : List (List ℕ)). row rs b) is ∙ get_or-set_other mid at b (row mid at ++ node ∷ []) [] apart

    early : (b : ℕ) → Contains (take i nodes) b → Contains (take (i + 1) nodes) b
    early b before = subst (λ (ns : List ℕ). Contains ns b) (sym next) (Contains-append_left (take i nodes) (at ∷ []) b before)

    last : Contains (take (i + 1) nodes) at
    last = subst (λ (ns : List ℕ). Contains ns at) (sym next) (Contains-push (take i nodes) at)

    own : (a : ℕ) → Contains (row new at) a ↔ (Contains (row old at) a ⊎ (Contains (take (i + 1) nodes) at × (node ≡ a)))
    own a = (
      (λ has. elim (Contains-push_cases (row mid at) node a (subst (λ (ns : List ℕ). Contains ns a) there has)) [
        | inl before ↦ elim ((adds.each at a).0 before) [ inl was ↦ inl was | inr fresh ↦ inr (last, fresh.1) ]
        | inr same ↦ inr (last, same)
      ]),
      (λ has. subst (λ (ns : List ℕ). Contains ns a) (sym there) (elim has [
        | inl was ↦ Contains-append_left (row mid at) (node ∷ []) a ((adds.each at a).1 (inl was))
        | inr fresh ↦ subst (λ (n : ℕ). Contains (row mid at ++ node ∷ []) n) fresh.1 (Contains-push (row mid at) node)
      ])),
    )

-- the steps of the first so many nodes
pub record AreBackFrom (rows : List (List ℕ)) (passed : ℕ) (backs : List (List ℕ)) : Type 0 where
  pub count : length backs ≡ length rows
  pub steps : (a b : ℕ) → Steps backs b a ↔ ((a < passed) × Steps rows a b)

pub back_more : (rows : List (List ℕ)) (node : ℕ) (found : List ℕ) (mid new : List (List ℕ)) → found ≡ row rows node → AreBackFrom rows node mid → AddsTo found node mid new → AreBackFrom rows (node + 1) new
back_more rows node found mid new is was adds = record {
  count = adds.count ∙ was.count;
  steps = λ a b. (
    (λ step. elim ((adds.each b a).0 step) [
      | inl before ↦ let h = (was.steps a b).0 before in ((let less : a < node = h.0 in omega arith), h.1)
      | inr fresh ↦ ((let same : node ≡ a = fresh.1 in omega arith), subst (λ (n : ℕ). Steps rows n b) fresh.1 (subst (λ (ns : List ℕ). Contains ns b) is fresh.0))
    ]),
    (λ has. (adds.each b a).1 (elim (cases_eq node a) [
      | inl same ↦ inr (subst (λ (ns : List ℕ). Contains ns b) (sym is) (subst (λ (n : ℕ). Steps rows n b) (sym same) has.1), same)
      | inr apart ↦ inl ((was.steps a b).1 ((let less : a < node + 1 = has.0 in omega (arith, less, apart)), has.1))
    ])),
  );
}

pub back_all : (rows : List (List ℕ)) (count : ℕ) (backs : List (List ℕ)) → length rows < count + 1 → AreBackFrom rows count backs → IsBackward rows backs
back_all rows count backs all is = record {
  count = is.count;
  steps = λ a b. ((λ step. ((is.steps a b).0 step).1), (λ step. (is.steps a b).1 ((let below : a < length rows = steps_from rows a b step in omega (arith, below, all)), step)));
}
