-- Moves that are taken in one after another: what each of them needs, and what all of them together did.
use Rattle.std.specs.Prelude.{◌≡◌, ◌<◌, ◌≤◌, ℕ, ◌+◌, List, [], ◌∷◌, ◌++◌, length, take, drop, Contains}
use Rattle.std.specs.List.{sum_by}
use Rattle.std.proofs.Common.{arith, sym, ◌∙◌, ap, subst, inl, inr, refl, get_or, take_all}
use Rattle.std.proofs.lemmas.List.{take_more, drop_more}
use Rattle.std.proofs.lemmas.List.Sums.{sum_by_more}
use Rattle.std.proofs.lemmas.List.Elements.{Contains-push, Contains-append_left, Contains-push_cases}
use Rattle.ifds_model.specs.declared.node.Context.{Context}
use Rattle.ifds_model.specs.declared.node.Move.{Move}
use Rattle.ifds_model.specs.Machine.{Machine}
use Rattle.ifds_model.specs.State.{View, At}
use Rattle.ifds_model.specs.Events.{TakesIn}
use Rattle.ifds_model.proofs.Composed.{takes_both, takes_none}
use Rattle.ifds_model.proofs.Members.{any_default}
use Rattle.solver_core.specs.Numbers.{context_at}
use Rattle.solver_core.specs.Room.{IsOf}
use Rattle.solver_core.specs.declared.ready.Ready.{Ready}

-- a context with its number
pub number_at : {F : Type 0} (root : Context F) (cs : List (Context F)) (n : ℕ) (d : Context F) → At cs n d → context_at root cs n ≡ d
number_at root cs n d at = any_default cs n root d at.0 ∙ at.1

pub at_number_of : {F : Type 0} (root : Context F) (cs : List (Context F)) (n : ℕ) → n < length cs → At cs n (context_at root cs n)
at_number_of root cs n below = (below, any_default cs n (context_at root cs n) root below)

-- what is left begins with the next one
pub next_of : {X : Type 0} (xs : List X) (i : ℕ) (x : X) → i < length xs → x ≡ get_or xs i x → drop i xs ≡ x ∷ drop (i + 1) xs
next_of {X} xs i x below is = drop_more xs i x below ∙ ap (λ (z : X). z ∷ drop (i + 1) xs) (sym is)

pub there_of : {X : Type 0} (xs : List X) (i : ℕ) (x : X) → i < length xs → x ≡ get_or xs i x → Contains xs x
there_of xs i x below is = (i, below, sym is)

pub head_of : {X : Type 0} (xs : List X) (i : ℕ) (x : X) → i < length xs → x ≡ get_or xs i x → Contains (drop i xs) x
head_of {X} xs i x below is = subst (λ (zs : List X). Contains zs x) (sym (next_of xs i x below is)) (0, omega arith, refl)

pub sum_next : {X : Type 0} (f : X → ℕ) (xs : List X) (i : ℕ) (x : X) → i < length xs → x ≡ get_or xs i x → sum_by f (take (i + 1) xs) ≡ sum_by f (take i xs) + f x
sum_next {X} f xs i x below is = sum_by_more f xs i x below ∙ ap (λ (z : X). sum_by f (take i xs) + f z) (sym is)

module _ {F M : Type 0} (P : Machine F M) (e : Context F) (rs : List (Ready F M)) where
  nothing_yet : (m : Move F M) → IsOf (take 0 rs) m → ⊥
  nothing_yet m of = none rs of.0 of.1
    where
      none : (xs : List (Ready F M)) (x : Ready F M) → Contains (take 0 xs) x → ⊥
      none [] x has = omega (arith, has.1)
      none (y ∷ ys) x has = omega (arith, has.1)

  pub begun : (s : View F M) → TakesIn P e (IsOf (take 0 rs)) s s
  begun s = takes_none P e (IsOf (take 0 rs)) s nothing_yet

  pub one_taken : (i : ℕ) (r : Ready F M) (old mid new : View F M) (here : Context F) → here ≡ e → i < length rs → r ≡ get_or rs i r → TakesIn P e (IsOf (take i rs)) old mid → TakesIn P here (λ m. m ≡ r.step) mid new → TakesIn P e (IsOf (take (i + 1) rs)) old new
  one_taken i r old mid new here same below is first then =
      let more : take (i + 1) rs ≡ take i rs ++ r ∷ [] = take_more rs i r below ∙ ap (λ (z : Ready F M). take i rs ++ z ∷ []) (sym is) in
      subst (λ (zs : List (Ready F M)). TakesIn P e (IsOf zs) old new) (sym more)
      (takes_both P e (IsOf (take i rs)) (λ m. m ≡ r.step) (IsOf (take i rs ++ r ∷ [])) old mid new
      (λ m of. elim (Contains-push_cases (take i rs) r of.0 of.1) [
        | inl there ↦ inl (of.0, there, of.2)
        | inr last ↦ inr (of.2 ∙ ap (λ (z : Ready F M). z.step) (sym last))
      ])
      (λ m of. (of.0, Contains-append_left (take i rs) (r ∷ []) of.0 of.1, of.2))
      (λ m step. (r, Contains-push (take i rs) r, step))
      first (subst (λ (c : Context F). TakesIn P c (λ m. m ≡ r.step) mid new) same then))

  pub all_taken : (i : ℕ) (old new : View F M) → length rs ≤ i → TakesIn P e (IsOf (take i rs)) old new → TakesIn P e (IsOf rs) old new
  all_taken i old new end t = subst (λ (zs : List (Ready F M)). TakesIn P e (IsOf zs) old new) (take_all i rs end) t
