-- Items by their place, and what belongs to a statement.
use Rattle.std.specs.Prelude.{◌≡◌, ◌↔◌, ◌<◌, ℕ, List, [], length, slice_index_or, Contains}
use Rattle.std.proofs.Common.{sym, ◌∙◌, subst}
use Rattle.std.proofs.lemmas.List.{get_or_default}
use Rattle.clean_base.specs.Lists.{At}
use Rattle.clean_base.specs.declared.ids.MethodId.{MethodId}
use Rattle.clean_base.specs.declared.ids.StmtId.{StmtId}
use Rattle.flow_rules.specs.Code.{Code, IsWhole, Follows, IsTarget}
use Rattle.flow_rules.specs.Own.{IsStmt}

-- a place has one item
pub one_at : {X : Type 0} (xs : List X) (n : ℕ) (x y : X) → At xs n x → At xs n y → x ≡ y
one_at xs n x y a b = sym a.1 ∙ get_or_default xs n x y a.0 ∙ b.1

-- the list at a place
in_row : {X : Type 0} (xss : List (List X)) (n : ℕ) → n < length xss → (x : X) → Contains (slice_index_or xss n []) x ↔ ((xs : List X) × At xss n xs × Contains xs x)
in_row {X} xss n below x =
    let row = slice_index_or xss n [] in
    let here : At xss n row = (below, get_or_default xss n row [] below) in (
      (λ has. (row, here, has)),
      (λ is. subst (λ (xs : List X). Contains xs x) (one_at xss n is.0 row is.1 here) is.2),
    )

module _ (code : Code) where
  pub owner_within : IsWhole code → (s : StmtId) → IsStmt code s → (slice_index_or code.owners s.0 (record { 0 = 0 })).0 < length code.firsts
  owner_within whole s there =
      let owner = slice_index_or code.owners s.0 (record { 0 = 0 }) in
      let below : s.0 < length code.owners = rw whole.owned there in
      whole.owners owner (s.0, below, get_or_default code.owners s.0 owner (record { 0 = 0 }) below)

  pub row_follows : length code.nexts ≡ length code.views → (s : StmtId) → IsStmt code s → (q : StmtId) → Contains (slice_index_or code.nexts s.0 []) q ↔ Follows code s q
  row_follows count s there q = in_row code.nexts s.0 (rw count there) q

  pub row_targets : length code.targets ≡ length code.views → (s : StmtId) → IsStmt code s → (m : MethodId) → Contains (slice_index_or code.targets s.0 []) m ↔ IsTarget code s m
  row_targets count s there m = in_row code.targets s.0 (rw count there) m

  -- both statements of a step are the program's
  pub next_within : IsWhole code → (s q : StmtId) → Follows code s q → IsStmt code q
  next_within whole s q follows = rw (sym whole.owned) (whole.inside s q follows).2.0

  pub last_within : IsWhole code → (s q : StmtId) → Follows code s q → IsStmt code s
  last_within whole s q follows = rw (sym whole.owned) (whole.inside s q follows).1.0
