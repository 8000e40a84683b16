-- What is asked for, by what a line gives.
use Rattle.std.proofs.Common.{IfNone, IfOk, IfSome, List, None, Option, Result, Some, subst}
use Rattle.std.proofs.lemmas.Option.{IfSome_then}
use Rattle.std.proofs.lemmas.Result.{IfOk-weaker}
use Rattle.command_line.specs.Words.{Asks, Given, Gives, IsOnly, Text}

module _ {A : Type 0} (name : Text) (options words : List Text) (Means : Given → A → Type 0) where
  -- what is meant by the only line is all that is asked for
  pub asked_only : (given : Given) → IsOnly (Gives name options words) given → (a : A) → IsOnly (Means given) a → IsOnly (λ x. Asks name options words (λ g. Means g x)) a
  asked_only given gives a means = record {
    is = record { given = given; gives = gives.is; means = means.is };
    only = λ other asks. means.only other (subst (λ g. Means g other) (gives.only asks.given asks.gives) asks.means);
  }

  -- where it means nothing, nothing is asked for
  pub not_asked : (given : Given) → IsOnly (Gives name options words) given → ((a : A) → Means given a → ⊥) → (a : A) → Asks name options words (λ g. Means g a) → ⊥
  not_asked given gives none a asks = none a (subst (λ g. Means g a) (gives.only asks.given asks.gives) asks.means)

-- ---- what calls find

module _ {X E : Type 0} (r : Result (Option X) E) where
  pub some_found : (P Q : X → Type 0) → ((x : X) → P x → Q x) → IfOk r (λ found. IfSome found P) → IfOk r (λ found. IfSome found Q)
  some_found P Q weaker so = IfOk-weaker r _ _ (λ found some. IfSome_then found some weaker) so

  pub none_found : (P Q : Type 0) → (P → Q) → IfOk r (λ found. IfNone found P) → IfOk r (λ found. IfNone found Q)
  none_found P Q weaker so = IfOk-weaker r _ _ (λ found none. then found none) so
    where
      then : (found : Option X) → IfNone found P → IfNone found Q
      then None none = weaker none
      then (Some x) none = none
