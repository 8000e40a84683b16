-- Moves that are made ready one after another, and the room that is made for them.
use Rattle.std.specs.Prelude.{◌≡◌, ◌<◌, ◌≤◌, ℕ, ◌+◌, List, [], ◌∷◌, ◌++◌, length, map, take, slice_index, slice_index_or, Contains, Result, Ok, Err, OnOk}
use Rattle.std.proofs.Common.{arith, sym, ◌∙◌, ap, subst, inl, inr, get_or, take_all, refl}
use Rattle.std.proofs.lemmas.List.{take_more, map-append}
use Rattle.std.proofs.lemmas.List.Elements.{Contains-push_cases}
use Rattle.std.specs.List.{sum_by}
use Rattle.std.proofs.lemmas.List.Sums.{sum_by-cons}
use Rattle.clean_base.specs.declared.ids.StmtId.{StmtId}
use Rattle.entry_tables.specs.Lists.{KeepsRoom}
use Rattle.entry_tables.specs.Tables.{Tables, call_site}
use Rattle.entry_tables.specs.declared.tables.CallSite.{CallSite}
use Rattle.ifds_model.specs.declared.node.Context.{Context}
use Rattle.ifds_model.specs.declared.node.Move.{Move}
use Rattle.ifds_model.specs.declared.node.Move.TheVariants.{Go, Call, Exit, Mark}
use Rattle.ifds_model.specs.declared.node.Node.{Node}
use Rattle.ifds_model.specs.Machine.{Machine}
use Rattle.ifds_model.specs.State.{At, IsDistinct}
use Rattle.solver_core.specs.Room.{JoinsWithin, HasCallerRoom, HasPlaceFor, HasStarts}
use Rattle.solver_core.specs.declared.ready.Ready.{Ready}
use Rattle.solver_core.proofs.Numbered.{in_map, one_place}

-- a context has one number
pub one_number : {X : Type 0} (xs : List X) → IsDistinct xs → (x : X) (i j : ℕ) → At xs i x → At xs j x → i ≡ j
one_number xs distinct x i j a b = one_place xs distinct x i j a.0 b.0 (a.1 ∙ sym b.1)

-- what was asked for one number holds of each number of the context
pub of_number : {F : Type 0} (cs : List (Context F)) → IsDistinct cs → (d : Context F) (n : ℕ) → At cs n d → (holds : ℕ → Type 0) → holds n → (k : ℕ) → At cs k d → holds k
of_number cs distinct d n is holds so k at = subst holds (sym (one_number cs distinct d k n at is)) so

-- what is so of one item more
pub each_more : {X : Type 0} (xs now : List X) (x : X) (holds : X → Type 0) → now ≡ xs ++ x ∷ [] → ((y : X) → Contains xs y → holds y) → holds x → (y : X) → Contains now y → holds y
each_more {X} xs now x holds is each so y has = elim (Contains-push_cases xs x y (subst (λ (zs : List X). Contains zs y) is has)) [
  | inl was ↦ each y was
  | inr same ↦ subst holds same so
]

pub take_each : {X : Type 0} (xs : List X) (i : ℕ) (x : X) (holds : X → Type 0) → i < length xs → x ≡ get_or xs i x → ((y : X) → Contains (take i xs) y → holds y) → holds x → (y : X) → Contains (take (i + 1) xs) y → holds y
take_each {X} xs i x holds below is each so = each_more (take i xs) (take (i + 1) xs) x holds (take_more xs i x below ∙ ap (λ (z : X). take i xs ++ z ∷ []) (sym is)) each so

pub whole_each : {X : Type 0} (xs : List X) (i : ℕ) (holds : X → Type 0) → length xs ≤ i → ((y : X) → Contains (take i xs) y → holds y) → (y : X) → Contains xs y → holds y
whole_each {X} xs i holds end each y has = each y (subst (λ (zs : List X). Contains zs y) (sym (take_all i xs end)) has)

-- one image more
pub image_more : {X Y : Type 0} (f : X → Y) (xs now : List X) (x : X) (ys : List Y) (i : ℕ) (y : Y) → now ≡ xs ++ x ∷ [] → f x ≡ y → i < length ys → y ≡ get_or ys i y → map f xs ≡ take i ys → map f now ≡ take (i + 1) ys
image_more {X} {Y} f xs now x ys i y is same below there before =
    ap (map f) is ∙ map-append f xs (x ∷ []) ∙ ap (λ (zs : List Y). zs ++ f x ∷ []) before ∙ ap (λ (z : Y). take i ys ++ z ∷ []) (same ∙ there) ∙ sym (take_more ys i y below)

-- what follows from four facts
pub on_ok_four : {X E : Type 0} (r : Result X E) (A B C D Z : Type 0) → OnOk r A → OnOk r B → OnOk r C → OnOk r D → (A → B → C → D → Z) → OnOk r Z
on_ok_four (Ok x) A B C D Z a b c d f = f a b c d
on_ok_four (Err e) A B C D Z a b c d f = tt

module _ {F M : Type 0} where
  -- room that is kept, and contexts and callers that stay
  pub callers_kept : (t u : Tables F) (context : ℕ) (m : Move F M) → u.contexts ≡ t.contexts → u.callers ≡ t.callers → KeepsRoom t.spare_callers u.spare_callers → HasCallerRoom t context m → HasCallerRoom u context m
  callers_kept t u context (Go node fact) same callers kept room = tt
  callers_kept t u context (Call at d) same callers kept room = λ k is. elim (room k (subst (λ (cs : List (Context F)). At cs k d) same is)) [
    | inl has ↦ inl (subst (λ (rows : List (List CallSite)). Contains (slice_index_or rows k []) (call_site context at)) (sym callers) has)
    | inr some ↦ inr (omega (arith, some, kept k))
  ]
  callers_kept t u context (Exit x) same callers kept room = tt
  callers_kept t u context (Mark m) same callers kept room = tt

  pub joins_kept : (t u : Tables F) (context calls leaves joins : ℕ) (m : Move F M) → u.contexts ≡ t.contexts → u.callers ≡ t.callers → u.exits ≡ t.exits → JoinsWithin t context calls leaves joins m → JoinsWithin u context calls leaves joins m
  joins_kept t u context calls leaves joins (Go node fact) contexts callers exits within = tt
  joins_kept t u context calls leaves joins (Call at d) contexts callers exits within = (
    within.0,
    λ k is. subst (λ (rows : List (List F)). length (slice_index_or rows k []) + leaves ≤ joins) (sym exits) (within.1 k (subst (λ (cs : List (Context F)). At cs k d) contexts is)),
  )
  joins_kept t u context calls leaves joins (Exit x) contexts callers exits within = subst (λ rows. length (slice_index_or rows context []) + calls ≤ joins) (sym callers) within
  joins_kept t u context calls leaves joins (Mark m) contexts callers exits within = tt

  pub starts_kept : (P : Machine F M) (t u : Tables F) (starts : List Node) (m : Move F M) → u.contexts ≡ t.contexts → HasStarts P t starts m → HasStarts P u starts m
  starts_kept P t u starts (Go node fact) same is = tt
  starts_kept P t u starts (Call at d) same is = λ unknown. is (λ has. unknown (subst (λ (cs : List (Context F)). Contains cs d) (sym same) has))
  starts_kept P t u starts (Exit x) same is = tt
  starts_kept P t u starts (Mark m) same is = tt

-- the place for a caller of a known context
pub caller_room : {F : Type 0} (t u : Tables F) (d : Context F) (n context : ℕ) (at : StmtId) → u.contexts ≡ t.contexts → IsDistinct t.contexts → At t.contexts n d → 1 ≤ slice_index u.spare_callers n → (k : ℕ) → At u.contexts k d → HasPlaceFor (call_site context at) u k
caller_room {F} t u d n context at same distinct is room k there = of_number t.contexts distinct d n is (HasPlaceFor (call_site context at) u) (inr (omega (arith, room))) k (subst (λ (cs : List (Context F)). At cs k d) same there)

-- calls and exits of moves are those of the moves that are ready
pub sum_of_steps : {F M : Type 0} (f : Move F M → ℕ) (rs : List (Ready F M)) (moves : List (Move F M)) → map (λ r. r.step) rs ≡ moves → sum_by f moves ≡ sum_by (λ r. f r.step) rs
sum_of_steps {F} {M} f rs moves is = subst (λ (ms : List (Move F M)). sum_by f ms ≡ sum_by (λ r. f r.step) rs) is (same rs)
  where
    same : (qs : List (Ready F M)) → sum_by f (map (λ r. r.step) qs) ≡ sum_by (λ r. f r.step) qs
    same [] = refl
    same (q ∷ qs) = omega (arith, sum_by-cons f q.step (map (λ r. r.step) qs), sum_by-cons (λ r. f r.step) q qs, same qs)

-- a move that is ready is one of the moves
pub step_of : {F M : Type 0} (rs : List (Ready F M)) (moves : List (Move F M)) → map (λ r. r.step) rs ≡ moves → (r : Ready F M) → Contains rs r → Contains moves r.step
step_of {F} {M} rs moves is r has = subst (λ (ms : List (Move F M)). Contains ms r.step) is (in_map (λ (q : Ready F M). q.step) rs r has)
