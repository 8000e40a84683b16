-- A new caller meets the exits of what it calls, by numbers.
use Rattle.std.specs.Prelude.{◌≡◌, ◌↔◌, ◌<◌, ℕ, zero, suc, List, [], ◌∷◌, ◌++◌, length, map, slice_set, Contains, Option}
use Rattle.std.proofs.Common.{arith, sym, ◌∙◌, ap, subst, inl, inr}
use Rattle.std.proofs.Math.ListN.{length-set}
use Rattle.std.proofs.lemmas.List.{map-append}
use Rattle.clean_base.specs.declared.ids.StmtId.{StmtId}
use Rattle.entry_tables.specs.Lists.{list_at}
use Rattle.entry_tables.specs.Tables.{call_site}
use Rattle.entry_tables.specs.declared.tables.CallSite.{CallSite}
use Rattle.ifds_model.specs.declared.node.Context.{Context}
use Rattle.ifds_model.specs.declared.node.Item.{Item}
use Rattle.ifds_model.specs.declared.node.Item.TheVariants.{Join}
use Rattle.ifds_model.specs.declared.node.Move.TheVariants.{Call}
use Rattle.ifds_model.specs.Machine.{Machine}
use Rattle.ifds_model.specs.State.{View, Exited, IsDistinct, IsCaller, IsExit, IsKnown}
use Rattle.ifds_model.specs.State.{Caller}
use Rattle.ifds_model.specs.Events.{TakesIn}
use Rattle.solver_core.specs.Joins.{call_join}
use Rattle.solver_core.specs.Numbers.{spread, view_of, context_at, item_of, exited_of, waits_of, live_of, AreNumbers}
use Rattle.solver_core.specs.Store.{Held}
use Rattle.solver_core.specs.declared.pending.Pending.{Pending}
use Rattle.solver_core.proofs.Numbered.{in_map, from_map, one_place}
use Rattle.solver_core.proofs.OneMove.{called, takes_call, one_already}
use Rattle.solver_core.proofs.Joining.{number_is, at_number, same_caller, joins_within}
use Rattle.solver_core.proofs.Spread.{in_spread, from_spread, spread_set, row_from, map_distinct}

-- a list with a member is one of the lists
in_range : {X : Type 0} (rows : List (List X)) (k : ℕ) (x : X) → Contains (list_at rows k) x → k < length rows
in_range [] k x has = absurd (omega (arith, has.1))
in_range (row ∷ rows) zero x has = omega arith
in_range (row ∷ rows) (suc k) x has = omega (arith, in_range rows k x has)

module _ {F M : Type 0} (P : Machine F M) (cs : List (Context F)) (edges : Held F) (flights : List (Option (Pending F))) (context callee : ℕ) (at : StmtId) (callers : List (List CallSite)) (exits : List (List F)) (queue : List (Pending F))
    (fit : AreNumbers cs callers exits edges queue flights) (below : context < length cs) (there : callee < length cs) where
  abbrev here : Context F
  here = context_at P.root cs context

  abbrev target : Context F
  target = context_at P.root cs callee

  abbrev item : Pending F → Item F
  item = item_of P.root cs

  abbrev me : CallSite
  me = call_site context at

  abbrev seen : List M → ℕ → ℕ → ℕ → ℕ → ℕ → List (List CallSite) → List (Pending F) → View F M
  seen marks commits lag takes period max_edges calls works = view_of P.root cs calls exits edges works flights marks commits lag takes period max_edges

  module _ (now : List (List CallSite)) (later : List (Pending F)) (set : now ≡ slice_set callers callee (list_at callers callee ++ me ∷ [])) (joined : later ≡ queue ++ map (call_join context at callee) (list_at exits callee)) where
    caller_below : (k : ℕ) (c : CallSite) → Contains (list_at now k) c → k < length callers → c.caller < length cs
    caller_below k c has within = elim (row_from (waits_of P.root cs) cs callers now callee target me (at_number P.root cs callee there) fit.callers_long set k c has within) [
      | inl was ↦ fit.callers_in k c was
      | inr same ↦ subst (λ (z : CallSite). z.caller < length cs) (sym same.1) below
    ]

    long : length now ≡ length callers
    long = ap length set ∙ length-set callers callee (list_at callers callee ++ me ∷ [])

    call_fit : AreNumbers cs now exits edges later flights
    call_fit = record {
      workers = fit.workers;
      distinct = fit.distinct;
      callers_long = long ∙ fit.callers_long;
      exits_long = fit.exits_long;
      once = fit.once;
      edges_in = fit.edges_in;
      queue_in = joins_within (length cs) queue later (call_join context at callee) (list_at exits callee) joined fit.queue_in (λ x has. (below, there));
      flights_in = fit.flights_in;
      callers_in = λ k c has. caller_below k c has (omega (arith, in_range now k c has, long));
    }

    module _ (fresh : Contains (list_at callers callee) me → ⊥) (once : IsDistinct (list_at exits callee)) (marks : List M) (commits lag takes period max_edges : ℕ) where
      abbrev s : View F M
      s = seen marks commits lag takes period max_edges callers queue

      abbrev joins : List (Item F)
      joins = map item (map (call_join context at callee) (list_at exits callee))

      known : IsKnown s target
      known = inl (in_map live_of cs target (callee, (at_number P.root cs callee there).0, (at_number P.root cs callee there).1))

      not_caller : IsCaller s target here at → ⊥
      not_caller has =
          let from = from_spread (waits_of P.root cs) cs callers (let z : Caller F = record { callee = target; caller = here; call = at } in z) has in
          let is = from.is in
          let same_key : from.key ≡ target = ap (λ (z : Caller F). z.callee) (sym is) in
          let number : from.number ≡ callee = number_is cs fit.distinct from.number callee from.key target from.at (at_number P.root cs callee there) same_key in
          let mine : Contains (list_at callers callee) from.entry = subst (λ (n : ℕ). Contains (list_at callers n) from.entry) number from.has in
          let contexts : context_at P.root cs from.entry.caller ≡ here = ap (λ (z : Caller F). z.caller) (sym is) in
          let numbers : from.entry.caller ≡ context = one_place cs fit.distinct P.root from.entry.caller context (fit.callers_in callee from.entry mine) below contexts in
          fresh (subst (λ (z : CallSite). Contains (list_at callers callee) z) (same_caller from.entry me numbers (ap (λ (z : Caller F). z.call) (sym is))) mine)

      join_once : IsDistinct joins
      join_once = map_distinct item (map (call_join context at callee) (list_at exits callee))
          (map_distinct (call_join context at callee) (list_at exits callee) once (λ x y in_x in_y same. let a : x ≡ y = cc (same) in a))
          (λ v w in_v in_w same.
          let x = from_map (call_join context at callee) (list_at exits callee) v in_v in
          let y = from_map (call_join context at callee) (list_at exits callee) w in_w in
          let items : item (call_join context at callee x.0) ≡ item (call_join context at callee y.0) = ap item (sym x.2) ∙ same ∙ ap item y.2 in
          let facts : x.0 ≡ y.0 = cc (items) in
          x.2 ∙ ap (call_join context at callee) facts ∙ sym y.2)

      are : (i : Item F) → Contains joins i ↔ ((x : F) × IsExit s target x × (i ≡ Join here at target x))
      are i = (
        λ has.
            let w = from_map item (map (call_join context at callee) (list_at exits callee)) i has in
            let x = from_map (call_join context at callee) (list_at exits callee) w.0 w.1 in
            (x.0, in_spread exited_of cs exits callee target x.0 (at_number P.root cs callee there) x.1, w.2 ∙ ap item x.2),
        λ is.
            let from = from_spread exited_of cs exits (exited_of target is.0) is.1 in
            let entry = from.is in
            let same_key : from.key ≡ target = ap (λ (z : Exited F). z.context) (sym entry) in
            let number : from.number ≡ callee = number_is cs fit.distinct from.number callee from.key target from.at (at_number P.root cs callee there) same_key in
            let has : Contains (list_at exits callee) from.entry = subst (λ (n : ℕ). Contains (list_at exits n) from.entry) number from.has in
            let made : i ≡ item (call_join context at callee from.entry) = is.2 ∙ ap (λ (z : F). let j : Item F = Join here at target z in j) (ap (λ (z : Exited F). z.exit) entry) in
            subst (λ (j : Item F). Contains joins j) (sym made) (in_map item (map (call_join context at callee) (list_at exits callee)) (call_join context at callee from.entry) (in_map (call_join context at callee) (list_at exits callee) from.entry has)),
      )

      call_taken : TakesIn P here (λ m. m ≡ Call at target) s (seen marks commits lag takes period max_edges now later)
      call_taken =
          let entries = spread_set (waits_of P.root cs) cs callers now callee target me (at_number P.root cs callee there) fit.callers_long set in
          let same : seen marks commits lag takes period max_edges now later ≡ called P here s at target (spread (waits_of P.root cs) cs now) joins known not_caller entries join_once are =
          ap (λ (q : List (Pending F)). seen marks commits lag takes period max_edges now q) joined
          ∙ ap (λ (q : List (Item F)). record (seen marks commits lag takes period max_edges now queue) { queue = q }) (map-append item queue (map (call_join context at callee) (list_at exits callee))) in
          subst (λ (v : View F M). TakesIn P here (λ m. m ≡ Call at target) s v) (sym same) (takes_call P here s at target (spread (waits_of P.root cs) cs now) joins known not_caller entries join_once are)

  call_was : (now : List (List CallSite)) → Contains (list_at callers callee) me → now ≡ callers → (marks : List M) (commits lag takes period max_edges : ℕ)
      → TakesIn P here (λ m. m ≡ Call at target) (seen marks commits lag takes period max_edges callers queue) (seen marks commits lag takes period max_edges now queue)
  call_was now has same marks commits lag takes period max_edges =
      subst (λ (calls : List (List CallSite)). TakesIn P here (λ m. m ≡ Call at target) (seen marks commits lag takes period max_edges callers queue) (seen marks commits lag takes period max_edges calls queue)) (sym same)
      (one_already P here (seen marks commits lag takes period max_edges callers queue) (Call at target)
      (inl (in_map live_of cs target (callee, (at_number P.root cs callee there).0, (at_number P.root cs callee there).1)), in_spread (waits_of P.root cs) cs callers callee target me (at_number P.root cs callee there) has))

  -- the same where the other tables are only equal to what they were
  module _ (cs_now : List (Context F)) (exits_now : List (List F)) (same_cs : cs_now ≡ cs) (same_exits : exits_now ≡ exits) where
    abbrev Old : List M → ℕ → ℕ → ℕ → ℕ → ℕ → View F M
    Old marks commits lag takes period max_edges = seen marks commits lag takes period max_edges callers queue

    joined_as : (later : List (Pending F)) → later ≡ queue ++ map (call_join context at callee) (list_at exits_now callee) → later ≡ queue ++ map (call_join context at callee) (list_at exits callee)
    joined_as later joined = joined ∙ ap (λ (x : List (List F)). queue ++ map (call_join context at callee) (list_at x callee)) same_exits

    pub call_fit_as : (now : List (List CallSite)) (later : List (Pending F)) → now ≡ slice_set callers callee (list_at callers callee ++ me ∷ []) → later ≡ queue ++ map (call_join context at callee) (list_at exits_now callee) → AreNumbers cs_now now exits_now edges later flights
    call_fit_as now later set joined =
        subst (λ (x : List (Context F)). AreNumbers x now exits_now edges later flights) (sym same_cs)
        (subst (λ (x : List (List F)). AreNumbers cs now x edges later flights) (sym same_exits) (call_fit now later set (joined_as later joined)))

    pub call_taken_as : (now : List (List CallSite)) (later : List (Pending F)) → now ≡ slice_set callers callee (list_at callers callee ++ me ∷ []) → later ≡ queue ++ map (call_join context at callee) (list_at exits_now callee)
        → (Contains (list_at callers callee) me → ⊥) → IsDistinct (list_at exits_now callee) → (marks : List M) (commits lag takes period max_edges : ℕ)
        → TakesIn P here (λ m. m ≡ Call at target) (Old marks commits lag takes period max_edges) (view_of P.root cs_now now exits_now edges later flights marks commits lag takes period max_edges)
    call_taken_as now later set joined fresh once marks commits lag takes period max_edges =
        subst (λ (x : List (Context F)). TakesIn P here (λ m. m ≡ Call at target) (Old marks commits lag takes period max_edges) (view_of P.root x now exits_now edges later flights marks commits lag takes period max_edges)) (sym same_cs)
        (subst (λ (x : List (List F)). TakesIn P here (λ m. m ≡ Call at target) (Old marks commits lag takes period max_edges) (view_of P.root cs now x edges later flights marks commits lag takes period max_edges)) (sym same_exits)
        (call_taken now later set (joined_as later joined) fresh (subst (λ (x : List (List F)). IsDistinct (list_at x callee)) same_exits once) marks commits lag takes period max_edges))

    pub call_was_as : (now : List (List CallSite)) → Contains (list_at callers callee) me → now ≡ callers → (marks : List M) (commits lag takes period max_edges : ℕ)
        → TakesIn P here (λ m. m ≡ Call at target) (Old marks commits lag takes period max_edges) (view_of P.root cs_now now exits_now edges queue flights marks commits lag takes period max_edges)
    call_was_as now has same marks commits lag takes period max_edges =
        subst (λ (x : List (Context F)). TakesIn P here (λ m. m ≡ Call at target) (Old marks commits lag takes period max_edges) (view_of P.root x now exits_now edges queue flights marks commits lag takes period max_edges)) (sym same_cs)
        (subst (λ (x : List (List F)). TakesIn P here (λ m. m ≡ Call at target) (Old marks commits lag takes period max_edges) (view_of P.root cs now x edges queue flights marks commits lag takes period max_edges)) (sym same_exits)
        (call_was now has same marks commits lag takes period max_edges))
