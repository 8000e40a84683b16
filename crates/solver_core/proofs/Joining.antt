-- A new exit meets its context's callers, and a new caller its callee's exits, by numbers.
use Rattle.std.specs.Prelude.{◌≡◌, ◌↔◌, ◌<◌, ℕ, List, [], ◌∷◌, ◌++◌, length, map, slice_set, Contains, Option}
use Rattle.std.proofs.Common.{sym, ◌∙◌, ap, subst, inl, inr}
use Rattle.std.proofs.Math.ListN.{length-set}
use Rattle.std.proofs.lemmas.List.{map-append}
use Rattle.std.proofs.lemmas.List.Elements.{Contains-append_cases}
use Rattle.clean_base.specs.declared.ids.StmtId.{StmtId}
use Rattle.entry_tables.specs.Lists.{list_at}
use Rattle.entry_tables.specs.Tables.{call_site}
use Rattle.entry_tables.specs.declared.tables.CallSite.{CallSite}
use Rattle.ifds_model.specs.declared.node.Context.{Context}
use Rattle.ifds_model.specs.declared.node.Item.{Item}
use Rattle.ifds_model.specs.declared.node.Item.TheVariants.{Join}
use Rattle.ifds_model.specs.declared.node.Move.TheVariants.{Exit}
use Rattle.ifds_model.specs.Machine.{Machine}
use Rattle.ifds_model.specs.State.{View, Exited, At, IsDistinct, IsCaller, IsExit}
use Rattle.ifds_model.specs.State.{Caller}
use Rattle.ifds_model.specs.Events.{TakesIn}
use Rattle.ifds_model.proofs.Members.{any_default}
use Rattle.solver_core.specs.Joins.{exit_join}
use Rattle.solver_core.specs.Numbers.{spread, view_of, context_at, item_of, exited_of, waits_of, AreNumbers, HasNumbersBelow}
use Rattle.solver_core.specs.Store.{Held}
use Rattle.solver_core.specs.declared.pending.Pending.{Pending}
use Rattle.solver_core.proofs.Numbered.{in_map, from_map, one_place}
use Rattle.solver_core.proofs.OneMove.{exited, takes_exit, one_already}
use Rattle.solver_core.proofs.Spread.{in_spread, from_spread, spread_set, map_distinct}

module _ {F : Type 0} (cs : List (Context F)) (distinct : IsDistinct cs) where
  pub number_is : (n m : ℕ) (k l : Context F) → At cs n k → At cs m l → k ≡ l → n ≡ m
  number_is n m k l at_n at_m same = one_place cs distinct k n m at_n.0 at_m.0 (at_n.1 ∙ same ∙ sym (any_default cs m k l at_m.0 ∙ at_m.1))

pub at_number : {F : Type 0} (root : Context F) (cs : List (Context F)) (n : ℕ) → n < length cs → At cs n (context_at root cs n)
at_number root cs n below = (below, any_default cs n (context_at root cs n) root below)

pub same_caller : (k l : CallSite) → k.caller ≡ l.caller → k.call ≡ l.call → k ≡ l
same_caller k l callers calls = ap (λ (n : ℕ). call_site n k.call) callers ∙ ap (λ (s : StmtId). call_site l.caller s) calls

pub joins_within : {F X : Type 0} (len : ℕ) (queue later : List (Pending F)) (f : X → Pending F) (xs : List X) → later ≡ queue ++ map f xs → ((w : Pending F) → Contains queue w → HasNumbersBelow len w) → ((x : X) → Contains xs x → HasNumbersBelow len (f x))
    → (w : Pending F) → Contains later w → HasNumbersBelow len w
joins_within len queue later f xs is within each w has = elim (Contains-append_cases queue (map f xs) w (subst (λ (q : List (Pending _)). Contains q w) is has)) [
  | inl was ↦ within w was
  | inr joined ↦ let from = from_map f xs w joined in subst (HasNumbersBelow len) (sym from.2) (each from.0 from.1)
]

module _ {F M : Type 0} (P : Machine F M) (cs : List (Context F)) (edges : Held F) (flights : List (Option (Pending F))) (context : ℕ) (callers : List (List CallSite)) (exits : List (List F)) (queue : List (Pending F))
    (fit : AreNumbers cs callers exits edges queue flights) (below : context < length cs) where
  abbrev here : Context F
  here = context_at P.root cs context

  abbrev item : Pending F → Item F
  item = item_of P.root cs

  abbrev seen : List M → ℕ → ℕ → ℕ → ℕ → ℕ → List (List CallSite) → List (List F) → List (Pending F) → View F M
  seen marks commits lag takes period max_edges calls outs works = view_of P.root cs calls outs edges works flights marks commits lag takes period max_edges

  module _ (exit : F) (now : List (List F)) (later : List (Pending F)) (set : now ≡ slice_set exits context (list_at exits context ++ exit ∷ [])) (joined : later ≡ queue ++ map (exit_join context exit) (list_at callers context)) where
    exit_fit : AreNumbers cs callers now edges later flights
    exit_fit = record {
      workers = fit.workers;
      distinct = fit.distinct;
      callers_long = fit.callers_long;
      exits_long = ap length set ∙ length-set exits context (list_at exits context ++ exit ∷ []) ∙ fit.exits_long;
      once = fit.once;
      edges_in = fit.edges_in;
      queue_in = joins_within (length cs) queue later (exit_join context exit) (list_at callers context) joined fit.queue_in (λ k has. (fit.callers_in context k has, below));
      flights_in = fit.flights_in;
      callers_in = fit.callers_in;
    }

    module _ (fresh : Contains (list_at exits context) exit → ⊥) (once : IsDistinct (list_at callers context)) (marks : List M) (commits lag takes period max_edges : ℕ) where
      abbrev s : View F M
      s = seen marks commits lag takes period max_edges callers exits queue

      abbrev joins : List (Item F)
      joins = map item (map (exit_join context exit) (list_at callers context))

      not_exit : IsExit s here exit → ⊥
      not_exit has =
          let from = from_spread exited_of cs exits (exited_of here exit) has in
          let is = from.is in
          let same_key : from.key ≡ here = ap (λ (z : Exited F). z.context) (sym is) in
          let same_entry : from.entry ≡ exit = ap (λ (z : Exited F). z.exit) (sym is) in
          let number : from.number ≡ context = number_is cs fit.distinct from.number context from.key here from.at (at_number P.root cs context below) same_key in
          fresh (subst (λ (x : F). Contains (list_at exits context) x) same_entry (subst (λ (n : ℕ). Contains (list_at exits n) from.entry) number from.has))

      join_once : IsDistinct joins
      join_once = map_distinct item (map (exit_join context exit) (list_at callers context))
          (map_distinct (exit_join context exit) (list_at callers context) once (λ k l in_k in_l same. let a : k.caller ≡ l.caller = cc (same) in let b : k.call ≡ l.call = cc (same) in same_caller k l a b))
          (λ v w in_v in_w same.
          let k = from_map (exit_join context exit) (list_at callers context) v in_v in
          let l = from_map (exit_join context exit) (list_at callers context) w in_w in
          let items : item (exit_join context exit k.0) ≡ item (exit_join context exit l.0) = ap item (sym k.2) ∙ same ∙ ap item l.2 in
          let contexts : context_at P.root cs k.0.caller ≡ context_at P.root cs l.0.caller = cc (items) in
          let calls : k.0.call ≡ l.0.call = cc (items) in
          let numbers : k.0.caller ≡ l.0.caller = one_place cs fit.distinct P.root k.0.caller l.0.caller (fit.callers_in context k.0 k.1) (fit.callers_in context l.0 l.1) contexts in
          k.2 ∙ ap (exit_join context exit) (same_caller k.0 l.0 numbers calls) ∙ sym l.2)

      are : (i : Item F) → Contains joins i ↔ ((c : Context F) × (at : StmtId) × IsCaller s here c at × (i ≡ Join c at here exit))
      are i = (
        λ has.
            let w = from_map item (map (exit_join context exit) (list_at callers context)) i has in
            let k = from_map (exit_join context exit) (list_at callers context) w.0 w.1 in
            (context_at P.root cs k.0.caller, k.0.call, in_spread (waits_of P.root cs) cs callers context here k.0 (at_number P.root cs context below) k.1, w.2 ∙ ap item k.2),
        λ is.
            let from = from_spread (waits_of P.root cs) cs callers (let z : Caller F = record { callee = here; caller = is.0; call = is.1 } in z) is.2 in
            let entry = from.is in
            let same_key : from.key ≡ here = ap (λ (z : Caller F). z.callee) (sym entry) in
            let number : from.number ≡ context = number_is cs fit.distinct from.number context from.key here from.at (at_number P.root cs context below) same_key in
            let has : Contains (list_at callers context) from.entry = subst (λ (n : ℕ). Contains (list_at callers n) from.entry) number from.has in
            let made : i ≡ item (exit_join context exit from.entry) = is.3 ∙ ap (λ (z : Context F). let j : Item F = Join z is.1 here exit in j) (ap (λ (z : Caller F). z.caller) entry) ∙ ap (λ (z : StmtId). let j : Item F = Join (context_at P.root cs from.entry.caller) z here exit in j) (ap (λ (z : Caller F). z.call) entry) in
            subst (λ (j : Item F). Contains joins j) (sym made) (in_map item (map (exit_join context exit) (list_at callers context)) (exit_join context exit from.entry) (in_map (exit_join context exit) (list_at callers context) from.entry has)),
      )

      exit_taken : TakesIn P here (λ m. m ≡ Exit exit) s (seen marks commits lag takes period max_edges callers now later)
      exit_taken =
          let there = spread_set exited_of cs exits now context here exit (at_number P.root cs context below) fit.exits_long set in
          let same : seen marks commits lag takes period max_edges callers now later ≡ exited P here s exit (spread exited_of cs now) joins not_exit there join_once are =
          ap (λ (q : List (Pending F)). seen marks commits lag takes period max_edges callers now q) joined
          ∙ ap (λ (q : List (Item F)). record (seen marks commits lag takes period max_edges callers now queue) { queue = q }) (map-append item queue (map (exit_join context exit) (list_at callers context))) in
          subst (λ (v : View F M). TakesIn P here (λ m. m ≡ Exit exit) s v) (sym same) (takes_exit P here s exit (spread exited_of cs now) joins not_exit there join_once are)

  exit_was : (exit : F) (now : List (List F)) → Contains (list_at exits context) exit → now ≡ exits → (marks : List M) (commits lag takes period max_edges : ℕ)
      → TakesIn P here (λ m. m ≡ Exit exit) (seen marks commits lag takes period max_edges callers exits queue) (seen marks commits lag takes period max_edges callers now queue)
  exit_was exit now has same marks commits lag takes period max_edges =
      subst (λ (outs : List (List F)). TakesIn P here (λ m. m ≡ Exit exit) (seen marks commits lag takes period max_edges callers exits queue) (seen marks commits lag takes period max_edges callers outs queue)) (sym same)
      (one_already P here (seen marks commits lag takes period max_edges callers exits queue) (Exit exit) (in_spread exited_of cs exits context here exit (at_number P.root cs context below) has))

  -- the same where the other tables are only equal to what they were
  module _ (cs_now : List (Context F)) (callers_now : List (List CallSite)) (same_cs : cs_now ≡ cs) (same_callers : callers_now ≡ callers) (exit : F) where
    pub exit_fit_as : (now : List (List F)) (later : List (Pending F)) → now ≡ slice_set exits context (list_at exits context ++ exit ∷ []) → later ≡ queue ++ map (exit_join context exit) (list_at callers_now context) → AreNumbers cs_now callers_now now edges later flights
    exit_fit_as now later set joined =
        subst (λ (x : List (Context F)). AreNumbers x callers_now now edges later flights) (sym same_cs)
        (subst (λ (x : List (List CallSite)). AreNumbers cs x now edges later flights) (sym same_callers)
        (exit_fit exit now later set (joined ∙ ap (λ (x : List (List CallSite)). queue ++ map (exit_join context exit) (list_at x context)) same_callers)))

    pub exit_taken_as : (now : List (List F)) (later : List (Pending F)) → now ≡ slice_set exits context (list_at exits context ++ exit ∷ []) → later ≡ queue ++ map (exit_join context exit) (list_at callers_now context)
        → (Contains (list_at exits context) exit → ⊥) → IsDistinct (list_at callers_now context) → (marks : List M) (commits lag takes period max_edges : ℕ)
        → TakesIn P here (λ m. m ≡ Exit exit) (seen marks commits lag takes period max_edges callers exits queue) (view_of P.root cs_now callers_now now edges later flights marks commits lag takes period max_edges)
    exit_taken_as now later set joined fresh once marks commits lag takes period max_edges =
        subst (λ (x : List (Context F)). TakesIn P here (λ m. m ≡ Exit exit) (seen marks commits lag takes period max_edges callers exits queue) (view_of P.root x callers_now now edges later flights marks commits lag takes period max_edges)) (sym same_cs)
        (subst (λ (x : List (List CallSite)). TakesIn P here (λ m. m ≡ Exit exit) (seen marks commits lag takes period max_edges callers exits queue) (view_of P.root cs x now edges later flights marks commits lag takes period max_edges)) (sym same_callers)
        (exit_taken exit now later set (joined ∙ ap (λ (x : List (List CallSite)). queue ++ map (exit_join context exit) (list_at x context)) same_callers) fresh (subst (λ (x : List (List CallSite)). IsDistinct (list_at x context)) same_callers once) marks commits lag takes period max_edges))

    pub exit_was_as : (now : List (List F)) → Contains (list_at exits context) exit → now ≡ exits → (marks : List M) (commits lag takes period max_edges : ℕ)
        → TakesIn P here (λ m. m ≡ Exit exit) (seen marks commits lag takes period max_edges callers exits queue) (view_of P.root cs_now callers_now now edges queue flights marks commits lag takes period max_edges)
    exit_was_as now has same marks commits lag takes period max_edges =
        subst (λ (x : List (Context F)). TakesIn P here (λ m. m ≡ Exit exit) (seen marks commits lag takes period max_edges callers exits queue) (view_of P.root x callers_now now edges queue flights marks commits lag takes period max_edges)) (sym same_cs)
        (subst (λ (x : List (List CallSite)). TakesIn P here (λ m. m ≡ Exit exit) (seen marks commits lag takes period max_edges callers exits queue) (view_of P.root cs x now edges queue flights marks commits lag takes period max_edges)) (sym same_callers)
        (exit_was exit now has same marks commits lag takes period max_edges))
