-- From clap's own words to those of `Steps` and `Lines`.
use Rattle.std.proofs.Common.{◌≡◌, ◌∙◌, Bool, cond, true, false, not, ◌&&◌, ◌||◌, refl, sym, ap, ap₂, List, [], ◌∷◌, ◌++◌, Option, None, codes, fold, drop, map, flat_map, IsUtf8}
use Rattle.std.specs.List.{list_any}
use Rattle.clap.specs.Kinds.{or_else, check_kinds}
use Rattle.clap.specs.Faults.{settle_fault, walk_fault, fault_of, built_fault, defaults_fault, check_fault, given_default_fault}
use Rattle.clap.specs.Walk.{Text, Row, Rule, Walk, idle, has_row, settled, nothing_held, walk, with_default, finished, walked}
use Rattle.clap.specs.Simple.{App, built, matches_of}
use Rattle.clap.specs.Takes.{is_given}
use Rattle.clap.proofs.FaultLemmas.{leaf_fault}
use Rattle.command_line.specs.Words.{Piece, spelled, ending}
use Rattle.command_line.specs.Written.{file_rule, option_rule, rules_for, shape_for, written}
use Rattle.command_line.proofs.Steps as steps
use Rattle.command_line.proofs.Steps.{or_else_nil}
use Rattle.command_line.proofs.Lines.{Every, IsLoose, Fresh, final, Found, Names, ends, finds}

or_true : (b : Bool) → (b || true) ≡ true
or_true true = refl
or_true false = refl

same_either : {X : Type 0} (b : Bool) (x : X) → cond b x x ≡ x
same_either true x = refl
same_either false x = refl

no_defaults : (rows : List Row) (ns : List Text) → defaults_fault rows (map option_rule ns) ≡ []
unfolding defaults_fault
no_defaults rows [] = refl
no_defaults rows (n ∷ ns) =
    ap₂ (λ b r. or_else (cond b [] (given_default_fault (option_rule n) [])) (defaults_fault r (map option_rule ns))) (or_true (has_row n rows)) (same_either (has_row n rows) rows)
    ∙ no_defaults rows ns

no_default_fault : (rows : List Row) (ns : List Text) → defaults_fault rows (rules_for ns) ≡ []
unfolding defaults_fault
no_default_fault rows ns =
    ap₂ (λ b r. or_else (cond b [] (given_default_fault file_rule [])) (defaults_fault r (map option_rule ns))) (or_true (has_row (codes "file") rows)) (same_either (has_row (codes "file") rows) rows)
    ∙ no_defaults rows ns

options_finish : (rows : List Row) (ns : List Text) → fold with_default rows (map option_rule ns) ≡ rows
options_finish rows [] = refl
options_finish rows (n ∷ ns) = ap (λ r. fold with_default r (map option_rule ns)) (same_either (has_row n rows) rows) ∙ options_finish rows ns

finish : (rows : List Row) (ns : List Text) → fold with_default rows (rules_for ns) ≡ rows
finish rows ns = ap (λ r. fold with_default r (map option_rule ns)) (same_either (has_row (codes "file") rows) rows) ∙ options_finish rows ns

none_required : (rows : List Row) (ns : List Text) → list_any (λ (a : Rule). a.required && not (is_given a.id rows)) (map option_rule ns) ≡ false
none_required rows [] = refl
none_required rows (n ∷ ns) = none_required rows ns

module _ (name : Text) (ns : List Text) (is_built : built (written name ns) ≡ record { top = shape_for name ns; subs = [] }) where
  abbrev start : Walk
  start = steps.state name ns [] None idle false

  abbrev end : List Text → Walk
  end words = fold (walked (rules_for ns) []) start words

  fault_is : (words : List Text) → fault_of (written name ns) words ≡ steps.total name ns start (drop 1 words)
  fault_is words =
      let ws = drop 1 words in
      let rows = (settled (rules_for ns) (end ws).held).rows in
      ap (λ (a : App). built_fault a nothing_held ws) is_built
      ∙ leaf_fault (record { top = shape_for name ns; subs = [] }) nothing_held ws refl
      ∙ ap (λ k. or_else (walk_fault (steps.s name ns) [] start ws) (or_else (settle_fault (rules_for ns) false (end ws).held) (or_else k (check_fault (steps.s name ns) (finished (rules_for ns) (end ws).held) false)))) (no_default_fault rows ns)
      ∙ ap (λ b. or_else (walk_fault (steps.s name ns) [] start ws) (or_else (settle_fault (rules_for ns) false (end ws).held) (check_kinds false false b))) (none_required (finished (rules_for ns) (end ws).held) ns)
      ∙ ap (λ k. or_else (walk_fault (steps.s name ns) [] start ws) k) (or_else_nil (settle_fault (rules_for ns) false (end ws).held))

  rows_are : (words : List Text) → matches_of (written name ns) words ≡ steps.rows_at_end name ns start (drop 1 words)
  rows_are words =
      let ws = drop 1 words in
      ap (λ (a : App). Rattle.clap.specs.Walk.rows_after a.top.rules (map Rattle.clap.specs.Simple.label_of a.subs) ws) is_built
      ∙ finish (settled (rules_for ns) (end ws).held).rows ns

  -- clap takes the words of a line, and has its values
  pub taken : (first : Text) (ps : List Piece) (after : Option (List Text)) → Every (IsLoose ns) ps → Fresh ps []
      → (fault_of (written name ns) (first ∷ (flat_map spelled ps ++ ending after)) ≡ [])
      × (matches_of (written name ns) (first ∷ (flat_map spelled ps ++ ending after)) ≡ final [] ps after)
  taken first ps after loose fresh =
      let words = flat_map spelled ps ++ ending after in
      let e = ends name ns ps after [] None false refl loose fresh in
      (fault_is (first ∷ words) ∙ e.0, rows_are (first ∷ words) ∙ e.1)

  -- words that clap takes are those of a line
  pub untangled : Names ns → (first : Text) (words : List Text) → Every IsUtf8 words → fault_of (written name ns) (first ∷ words) ≡ [] → Found name ns words []
  untangled names first words utf8 e = (finds name ns names words utf8 [] None false (sym (fault_is (first ∷ words)) ∙ e)).1
