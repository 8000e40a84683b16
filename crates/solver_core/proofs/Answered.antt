-- What is exact where nothing is left to do.
use Rattle.std.specs.Prelude.{◌≡◌, ◌↔◌, suc, false, true, List, [], ◌∷◌, length, map, Contains}
use Rattle.std.proofs.Common.{arith, sym, ap, subst, inl, inr, refl}
use Rattle.clean_base.specs.declared.ids.MethodId.{MethodId}
use Rattle.clean_base.specs.declared.ids.StmtId.{StmtId}
use Rattle.ifds_model.specs.declared.node.Context.{Context}
use Rattle.ifds_model.specs.Machine.{Machine}
use Rattle.ifds_model.specs.Count.{cons_cases, one_count}
use Rattle.ifds_model.specs.Laws.{IsLawful}
use Rattle.ifds_model.specs.Runs.{IsEdge, IsContext, IsLeak, HasCount, Lists}
use Rattle.ifds_model.specs.State.{View, Known, IsDistinct, IsKnown, IsMarked}
use Rattle.ifds_model.proofs.Quiet.{all_quiet, found_exact, commits_exact, contexts_exact, marks_exact}
use Rattle.solver_core.specs.Answers.{IsOver}
use Rattle.solver_core.specs.Numbers.{live_of}
use Rattle.solver_core.specs.Seen.{IsRight}

-- a live context of the list is one of its contexts
pub live_member : {F : Type 0} (cs : List (Context F)) (k : Known F) → Contains (map live_of cs) k → (k.retired ≡ false) × Contains cs k.context
live_member [] k has = absurd (omega (arith, has.1))
live_member (c ∷ cs) k has = elim (cons_cases (live_of c) (map live_of cs) k has) [
  | inl is ↦ (ap (λ (z : Known _). z.retired) (sym is), (0, omega arith, ap (λ (z : Known _). z.context) is))
  | inr later ↦ let rest = live_member cs k later in (rest.0, (suc rest.1.0, omega (arith, rest.1.1), rest.1.2))
]

member_live : {F : Type 0} (cs : List (Context F)) (c : Context F) → Contains cs c → Contains (map live_of cs) (live_of c)
member_live [] c has = absurd (omega (arith, has.1))
member_live (d ∷ cs) c has = elim (cons_cases d cs c has) [
  | inl is ↦ (0, omega arith, ap live_of is)
  | inr later ↦ let rest = member_live cs c later in (suc rest.0, omega (arith, rest.1), rest.2)
]

module _ {F M : Type 0} (P : Machine F M) (method_of : StmtId → MethodId) (reaches : MethodId → MethodId → Type 0) (law : IsLawful P method_of reaches) (s : View F M) (right : IsRight P reaches s) (over : IsOver s) where
  pub edges_whole : HasCount (IsEdge P) s.found
  edges_whole = found_exact P method_of reaches law s right.tidy right.sound (λ n. Unit {0}) (all_quiet P method_of reaches law s over) (λ m. tt)

  pub commits_whole : s.commits ≡ s.found
  commits_whole = one_count (IsEdge P) s.commits s.found (commits_exact P method_of reaches law s right.tidy right.sound (λ n. Unit {0}) (all_quiet P method_of reaches law s over) (λ m. tt)) edges_whole

  pub marks_whole : (ms : List M) → IsDistinct ms → ((m : M) → Contains ms m ↔ Contains s.marks m) → Lists (IsLeak P) ms
  marks_whole ms distinct same =
      let exact : (m : M) → IsMarked s m ↔ IsLeak P m = marks_exact P method_of reaches law s right.tidy right.sound (λ n. Unit {0}) (all_quiet P method_of reaches law s over) (λ m. tt) in
      record { distinct = distinct; sound = λ m has. (exact m).0 ((same m).0 has); whole = λ m leak. (same m).1 ((exact m).1 leak) }

  pub contexts_whole : (cs : List (Context F)) → IsDistinct cs → s.known ≡ map live_of cs → HasCount (IsContext P) (length cs)
  contexts_whole cs distinct is =
      let exact : (e : Context F) → IsKnown s e ↔ IsContext P e = contexts_exact P method_of reaches law s right.tidy right.sound (λ n. Unit {0}) (all_quiet P method_of reaches law s over) (λ m. tt) in (
        cs,
        record {
          distinct = distinct;
          sound = λ e has. (exact e).0 (inl (subst (λ (ks : List (Known F)). Contains ks (live_of e)) (sym is) (member_live cs e has)));
          whole = λ e context. elim ((exact e).1 context) [
            | inl live ↦ (live_member cs (live_of e) (subst (λ (ks : List (Known F)). Contains ks (live_of e)) is live)).1
            | inr retired ↦ let k : Known F = record { context = e; retired = true } in let other = (live_member cs k (subst (λ (ks : List (Known F)). Contains ks k) is retired)).0 in cc (other)
          ];
        },
        refl,
      )
