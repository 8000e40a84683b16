-- Methods as they are met.
use Rattle.std.proofs.Common.{◌≡◌, ◌⊎◌, ◌↔◌, ◌<◌, ◌≤◌, ◌+◌, ◌++◌, ◌∷◌, [], ℕ, suc, Bool, true, false, true≢false, List, All, Contains, length, get_or, set, take, cond, refl, sym, ap, subst, ◌∙◌, inl, inr, arith, append_assoc, append-nil}
use Rattle.std.specs.List.{count_by}
use Rattle.std.proofs.lemmas.Bool.{cases_eq}
use Rattle.std.proofs.lemmas.List.{length-append, take_more, take_all, take-append-le, get_or-set_same, get_or-set_other, get_or_past}
use Rattle.std.proofs.lemmas.List.Elements.{Contains-get_or, Contains-push, Contains-push_cases, Contains-append_left, Contains-append_right, Contains-append_cases}
use Rattle.std.proofs.lemmas.List.Sums.{count_by-le-length, sum_by-set}
use Rattle.clean_base.specs.declared.ids.MethodId.{MethodId}
use Rattle.jimple_tree.specs.declared.tree.Class.{Class}
use Rattle.source_sink.specs.declared.line.Line.{Line}
use Rattle.reach_rows.specs.Reaches.{Reaches, here, on}
use Rattle.class_table.specs.Members.{method_id}
use Rattle.call_graph.specs.Floods.{IsMet, IsMore, IsTargetIn, IsFlood}
use Rattle.call_graph.specs.Graphs.{IsCall, Calls}
use Rattle.call_graph.specs.declared.edges.CallEdge.{CallEdge}

-- a method that was met
pub met_again : (order : List MethodId) (met : List Bool) (m : MethodId) → IsMet order met → get_or met m.0 false ≡ true → IsMore (λ n. m ≡ n) order order
met_again order met m are marked = record {
  behind = [];
  is = sym (append-nil order);
  members = λ n. (λ has. inl has, λ h. elim h [ inl has ↦ has | inr same ↦ subst (Contains order) same ((are.marked m).1 marked) ]);
}

-- and one that wasn't
pub met_more : (order : List MethodId) (m : MethodId) → IsMore (λ n. m ≡ n) order (order ++ m ∷ [])
met_more order m = record {
  behind = m ∷ [];
  is = refl;
  members = λ n. (λ has. Contains-push_cases order m n has, λ h. elim h [ inl has ↦ Contains-append_left order (m ∷ []) n has | inr same ↦ subst (Contains (order ++ m ∷ [])) same (Contains-push order m) ]);
}

pub met_now : (order : List MethodId) (met : List Bool) (m : MethodId) → m.0 < length met → IsMet order met → get_or met m.0 false ≡ false → IsMet (order ++ m ∷ []) (set met m.0 true)
met_now order met m within are unmarked = record {
  marked = λ n. (there n, back n);
  count =
      let marks = sum_by-set (λ (b : Bool). cond b 1 0) met m.0 true false within in
      let was = ap (λ (b : Bool). let n : ℕ = cond b 1 0 in n) unmarked in
      let long = length-append order (m ∷ []) in
      let before = are.count in
      omega (arith, marks, was, long, before);
} where
  there : (n : MethodId) → Contains (order ++ m ∷ []) n → get_or (set met m.0 true) n.0 false ≡ true
  there n has = elim (cases_eq n.0 m.0) [
    | inl same ↦ ap (λ (i : ℕ). get_or (set met m.0 true) i false) same ∙ get_or-set_same met m.0 true false within
    | inr other ↦ get_or-set_other met m.0 n.0 true false other ∙ elim (Contains-push_cases order m n has) [
      | inl early ↦ (are.marked n).0 early
      | inr one ↦ absurd (other (ap (λ (k : MethodId). k.0) (sym one)))
    ]
  ]

  back : (n : MethodId) → get_or (set met m.0 true) n.0 false ≡ true → Contains (order ++ m ∷ []) n
  back n is = elim (cases_eq n.0 m.0) [
    | inl same ↦ let one : m ≡ n = ap method_id (sym same) in subst (Contains (order ++ m ∷ [])) one (Contains-push order m)
    | inr other ↦ Contains-append_left order (m ∷ []) n ((are.marked n).1 (sym (get_or-set_other met m.0 n.0 true false other) ∙ is))
  ]

-- a mark that is set is one of the table
marked_within : (met : List Bool) (i : ℕ) → get_or met i false ≡ true → i < length met
marked_within met i marked = elim (cases i (length met)) [
  | inl below ↦ below
  | inr past ↦ absurd (true≢false (sym marked ∙ get_or_past met i false past))
] where
  cases : (a b : ℕ) → (a < b) ⊎ (b ≤ a)
  cases a b = grind arith

-- no method is met yet
count_none : (met : List Bool) → All (λ b. b ≡ false) met → count_by (λ b. b) met ≡ 0
count_none [] none = refl
count_none (true ∷ bs) none = absurd (true≢false (none 0 true (omega arith)))
count_none (false ∷ bs) none = count_none bs (λ k d below. none (suc k) d (omega (arith, below)))

pub none_met_yet : (order : List MethodId) (met : List Bool) → order ≡ [] → All (λ b. b ≡ false) met → IsMet order met
none_met_yet order met empty none = subst (λ (ms : List MethodId). IsMet ms met) (sym empty) (record {
  marked = λ m. (
    λ has. let below = has.1 in absurd (omega (arith, below)),
    λ is. absurd (true≢false (sym is ∙ none m.0 false (marked_within met m.0 is))),
  );
  count = count_none met none;
})

-- what was met has its mark within the table, and there are no more than it has places
pub met_within : (order : List MethodId) (met : List Bool) (m : MethodId) → IsMet order met → Contains order m → m.0 < length met
met_within order met m are has = marked_within met m.0 ((are.marked m).0 has)

pub few_met : (order : List MethodId) (met : List Bool) → IsMet order met → length order ≤ length met
few_met order met are = let count = are.count in let most = count_by-le-length (λ (b : Bool). b) met in omega (arith, count, most)

-- more behind more
pub more_none : (order : List MethodId) → IsMore (IsTargetIn []) order order
more_none order = record {
  behind = [];
  is = sym (append-nil order);
  members = λ n. (λ has. inl has, λ h. elim h [ inl has ↦ has | inr t ↦ let below = t.1.1 in absurd (omega (arith, below)) ]);
}

pub more_targets : (first old new : List MethodId) (edges : List CallEdge) (i : ℕ) (d : CallEdge) → i < length edges
    → IsMore (IsTargetIn (take i edges)) first old → IsMore (λ n. (get_or edges i d).target ≡ n) old new → IsMore (IsTargetIn (take (i + 1) edges)) first new
more_targets first old new edges i d below before now = record {
  behind = before.behind ++ now.behind;
  is = now.is ∙ ap (λ (ms : List MethodId). ms ++ now.behind) before.is ∙ append_assoc first before.behind now.behind;
  members = λ n. (there n, back n);
} where
  e : CallEdge
  e = get_or edges i d

  next : take (i + 1) edges ≡ take i edges ++ e ∷ []
  next = take_more edges i d below

  there : (n : MethodId) → Contains new n → Contains first n ⊎ IsTargetIn (take (i + 1) edges) n
  there n has = elim ((now.members n).0 has) [
    | inl early ↦ elim ((before.members n).0 early) [
      | inl one ↦ inl one
      | inr t ↦ inr (t.0, subst (λ (es : List CallEdge). Contains es t.0) (sym next) (Contains-append_left (take i edges) (e ∷ []) t.0 t.1), t.2)
    ]
    | inr last ↦ inr (e, subst (λ (es : List CallEdge). Contains es e) (sym next) (Contains-push (take i edges) e), last)
  ]

  back : (n : MethodId) → Contains first n ⊎ IsTargetIn (take (i + 1) edges) n → Contains new n
  back n (inl one) = (now.members n).1 (inl ((before.members n).1 (inl one)))
  back n (inr t) = elim (Contains-push_cases (take i edges) e t.0 (subst (λ (es : List CallEdge). Contains es t.0) next t.1)) [
    | inl early ↦ (now.members n).1 (inl ((before.members n).1 (inr (t.0, early, t.2))))
    | inr last ↦ (now.members n).1 (inr (ap (λ (f : CallEdge). f.target) last ∙ t.2))
  ]

-- one step more
reaches_on : {X : Type 0} {Step : X → X → Type 0} {a b c : X} → Reaches Step a b → Step b c → Reaches Step a c
reaches_on here last = on last here
reaches_on (on first rest) last = on first (reaches_on rest last)

module _ (cs : List Class) (lines : List Line) (root : MethodId) where
  pub flood_begun : (order : List MethodId) (calls : List CallEdge) → IsMore (λ n. root ≡ n) [] order → calls ≡ [] → IsFlood cs lines root order 0 calls
  flood_begun order calls more empty = record {
    begun = (more.members root).1 (inr refl);
    sound = λ m has. elim ((more.members m).0 has) [
      | inl none ↦ let below = none.1 in absurd (omega (arith, below))
      | inr same ↦ subst (λ (n : MethodId). Reaches (Calls cs lines) root n) same here
    ];
    closed = λ m n has calls. let below = has.1 in absurd (omega (arith, below));
    listed = λ e. (
      λ has. let below = (subst (λ (es : List CallEdge). Contains es e) empty has).1 in absurd (omega (arith, below)),
      λ h. let below = h.0.1 in absurd (omega (arith, below)),
    );
  }

  module _ (order next : List MethodId) (done : ℕ) (calls own : List CallEdge) (m : MethodId) (below : done < length order) (is : m ≡ get_or order done m) (flood : IsFlood cs lines root order done calls)
      (exact : (e : CallEdge) → Contains own e ↔ ((e.caller ≡ m) × IsCall cs lines e)) (more : IsMore (IsTargetIn own) order next) where
    worked : take (done + 1) next ≡ take done order ++ m ∷ []
    worked =
        ap (λ (ms : List MethodId). take (done + 1) ms) more.is ∙ take-append-le (done + 1) order more.behind (omega (arith, below)) ∙ take_more order done m below
        ∙ ap (λ (n : MethodId). take done order ++ n ∷ []) (sym is)

    here_met : Contains order m
    here_met = subst (Contains order) (sym is) (Contains-get_or order done m below)

    sound : (n : MethodId) → Contains next n → Reaches (Calls cs lines) root n
    sound n has = elim ((more.members n).0 has) [
      | inl early ↦ flood.sound n early
      | inr t ↦ let call = (exact t.0).0 t.1 in reaches_on (flood.sound m here_met) (t.0, call.1, call.0, t.2)
    ]

    closed : (a n : MethodId) → Contains (take (done + 1) next) a → Calls cs lines a n → Contains next n
    closed a n has (e, call, from, to) = elim (Contains-push_cases (take done order) m a (subst (λ (ms : List MethodId). Contains ms a) worked has)) [
      | inl early ↦ (more.members n).1 (inl (flood.closed a n early (e, call, from, to)))
      | inr last ↦ (more.members n).1 (inr (e, (exact e).1 (from ∙ sym last, call), to))
    ]

    listed : (e : CallEdge) → Contains (calls ++ own) e ↔ (Contains (take (done + 1) next) e.caller × IsCall cs lines e)
    listed e = (there, back) where
      there : Contains (calls ++ own) e → Contains (take (done + 1) next) e.caller × IsCall cs lines e
      there has = elim (Contains-append_cases calls own e has) [
        | inl early ↦
            let h = (flood.listed e).0 early in
            (subst (λ (ms : List MethodId). Contains ms e.caller) (sym worked) (Contains-append_left (take done order) (m ∷ []) e.caller h.0), h.1)
        | inr late ↦
            let h = (exact e).0 late in
            (subst (λ (ms : List MethodId). Contains ms e.caller) (sym worked) (subst (Contains (take done order ++ m ∷ [])) (sym h.0) (Contains-push (take done order) m)), h.1)
      ]

      back : Contains (take (done + 1) next) e.caller × IsCall cs lines e → Contains (calls ++ own) e
      back (has, call) = elim (Contains-push_cases (take done order) m e.caller (subst (λ (ms : List MethodId). Contains ms e.caller) worked has)) [
        | inl early ↦ Contains-append_left calls own e ((flood.listed e).1 (early, call))
        | inr last ↦ Contains-append_right calls own e ((exact e).1 (sym last, call))
      ]

    pub flood_more : IsFlood cs lines root next (done + 1) (calls ++ own)
    flood_more = record { begun = (more.members root).1 (inl flood.begun); sound = sound; closed = closed; listed = listed }

    pub more_long : done + 1 ≤ length next
    more_long = let long = ap (λ (ms : List MethodId). length ms) more.is in let both = length-append order more.behind in omega (arith, long, both, below)

  -- where all methods that were met are done, all are met that are reached
  module _ (order : List MethodId) (done : ℕ) (calls : List CallEdge) (past : length order ≤ done) (flood : IsFlood cs lines root order done calls) where
    all : take done order ≡ order
    all = take_all done order past

    along : {a b : MethodId} → Reaches (Calls cs lines) a b → Contains order a → Contains order b
    along here has = has
    along (on {a} {b} {c} step rest) has = along rest (flood.closed a b (subst (λ (ms : List MethodId). Contains ms a) (sym all) has) step)

    pub flood_reached : (m : MethodId) → Contains order m ↔ Reaches (Calls cs lines) root m
    flood_reached m = (flood.sound m, λ way. along way flood.begun)

    pub flood_calls : (e : CallEdge) → Contains calls e ↔ (Reaches (Calls cs lines) root e.caller × IsCall cs lines e)
    flood_calls e = (
      λ has. let h = (flood.listed e).0 has in ((flood_reached e.caller).0 (subst (λ (ms : List MethodId). Contains ms e.caller) all h.0), h.1),
      λ h. (flood.listed e).1 (subst (λ (ms : List MethodId). Contains ms e.caller) (sym all) ((flood_reached e.caller).1 h.0), h.1),
    )
