-- clap takes exactly the words of lines, and its matches are the line's values.
use Rattle.std.proofs.Common.{◌≡◌, ◌∙◌, Bool, cond, true, false, refl, sym, ap, ap₂, subst, List, [], ◌∷◌, ◌++◌, Option, Some, None, codes, bytes_eq, flat_map, true≢false, IsUtf8, unwrap_or}
use Rattle.std.specs.List.{list_any}
use Rattle.clap.specs.Kinds.{Kinds, or_else}
use Rattle.clap.specs.Faults.{settle_fault, walk_fault}
use Rattle.clap.specs.Walk.{Text, Row, Rule, Walk, Waiting, idle, positional, option, has_row, settled_rows, used}
use Rattle.clap.specs.declared.error.kind.ErrorKind.{ErrorKind}
use Rattle.command_line.specs.Words.{Piece, file, apart, joined, spelled, ending}
use Rattle.command_line.specs.Written.{option_rule, rules_for}
use Rattle.command_line.proofs.Lookups.{IsOption}
use Rattle.command_line.proofs.Looks.{Look, looks_plain, looks_dashes, looks_long, looks_short, IsName, look, looks_apart, looks_joined, option_text}
use Rattle.command_line.proofs.Steps as steps
use Rattle.command_line.proofs.Steps.{IsPlain, IsLong, add}

abbrev pub Every : {X : Type 0} → (X → Type 0) → List X → Type 0
Every P [] = Unit {0}
Every P (x ∷ xs) = P x × Every P xs

-- the names of the options are fit to be read
abbrev pub Names : List Text → Type 0
Names ns = (n : Text) → list_any (λ m. bytes_eq m n) ns ≡ true → IsOption ns n × IsName n

no_kind : (k : ErrorKind) (ks : Kinds) → k ∷ ks ≡ [] → ⊥
no_kind k ks e = true≢false (ap (λ (x : Kinds). elim x [ [] ↦ false | ◌∷◌ y ys ↦ true ]) e)

first_none : (a b : Kinds) → or_else a b ≡ [] → a ≡ []
first_none [] b e = refl
first_none (k ∷ ks) b e = e

then_none : (a b : Kinds) → or_else a b ≡ [] → b ≡ []
then_none [] b e = e
then_none (k ∷ ks) b e = absurd (no_kind k ks e)

both_none : (a b : Kinds) → a ≡ [] → b ≡ [] → or_else a b ≡ []
both_none a b x y = ap (λ k. or_else k b) x ∙ y

abbrev pub use_of : Piece → Text × Text
use_of (file f) = (codes "file", f)
use_of (apart n v) = (n, v)
use_of (joined n v) = (n, v)

abbrev pub IsLoose : List Text → Piece → Type 0
IsLoose ns (file f) = IsPlain f
IsLoose ns (apart n v) = IsOption ns n × IsName n × IsPlain v
IsLoose ns (joined n v) = IsOption ns n × IsName n

abbrev pub IsFresh : Piece → List Row → Type 0
IsFresh (file f) r = Unit {0}
IsFresh (apart n v) r = has_row n r ≡ false
IsFresh (joined n v) r = has_row n r ≡ false

-- no option stands twice
abbrev pub Fresh : List Piece → List Row → Type 0
Fresh [] r = Unit {0}
Fresh (p ∷ ps) r = IsFresh p r × Fresh ps (add r (use_of p))

abbrev pub through : List Row → List Piece → List Row
through r [] = r
through r (p ∷ ps) = through (add r (use_of p)) ps

abbrev pub through_files : List Row → List Text → List Row
through_files r [] = r
through_files r (f ∷ fs) = through_files (add r (codes "file", f)) fs

abbrev pub final : List Row → List Piece → Option (List Text) → List Row
final r ps after = through_files (through r ps) (unwrap_or after [])

module _ (name : Text) (ns : List Text) where
  abbrev R : List Rule
  R = rules_for ns

  abbrev calm : List Row → Option (Text × List Text) → Bool → Walk
  calm r p b = steps.state name ns r p (cond b positional idle) false

  -- ---- words of a line are taken

  abbrev Ends : Walk → List Text → List Row → Type 0
  Ends w words rows = (steps.total name ns w words ≡ []) × (steps.rows_at_end name ns w words ≡ rows)

  ends_after : (u : Waiting) (fs : List Text) (r : List Row) (p : Option (Text × List Text)) → settle_fault R false (steps.held name ns r p) ≡ []
      → Ends (steps.state name ns r p u true) fs (through_files (settled_rows R p r) fs)
  unfolding walk_fault
  ends_after u [] r p e = (e, refl)
  ends_after u (f ∷ fs) r p e =
      let go = steps.goes_after name ns u r p f in
      let rest = ends_after positional fs (settled_rows R p r) (Some (codes "file", f ∷ [])) refl in
      (go.faults fs ∙ both_none _ _ e rest.0, go.rows fs ∙ rest.1)

  pub ends : (ps : List Piece) (after : Option (List Text)) (r : List Row) (p : Option (Text × List Text)) (b : Bool) → settle_fault R false (steps.held name ns r p) ≡ []
      → Every (IsLoose ns) ps → Fresh ps (settled_rows R p r) → Ends (calm r p b) (flat_map spelled ps ++ ending after) (final (settled_rows R p r) ps after)
  unfolding walk_fault
  ends [] None r p b e all fresh = (e, refl)
  ends [] (Some fs) r p b e all fresh =
      let go = steps.goes_dashes name ns (cond b positional idle) r p in
      let rest = ends_after (cond b positional idle) fs r p e in
      (go.faults fs ∙ rest.0, go.rows fs ∙ rest.1)
  ends (file f ∷ ps) after r p b e all fresh =
      let words = flat_map spelled ps ++ ending after in
      let go = steps.goes_file name ns b r p f all.0 in
      let rest = ends ps after (settled_rows R p r) (Some (codes "file", f ∷ [])) true refl all.1 fresh.1 in
      (go.faults words ∙ both_none _ _ e rest.0, go.rows words ∙ rest.1)
  ends (apart n v ∷ ps) after r p b e all fresh =
      let words = flat_map spelled ps ++ ending after in
      let o = all.0.0 in
      let now = settled_rows R p r in
      let go = steps.goes_apart name ns (cond b positional idle) r p (45 ∷ 45 ∷ n) n (looks_apart n all.0.1) o in
      let next = steps.goes_value name ns now n v all.0.2 o in
      let rows = steps.rows_option name ns now n v o fresh.0 in
      let rest = ends ps after now (Some (n, v ∷ [])) false (steps.settle_new name ns now n v o fresh.0) all.1 (subst (Fresh ps) (sym rows) fresh.1) in
      (go.faults (v ∷ words) ∙ both_none _ _ e (next.faults words ∙ rest.0), go.rows (v ∷ words) ∙ next.rows words ∙ rest.1 ∙ ap (λ x. final x ps after) rows)
  ends (joined n v ∷ ps) after r p b e all fresh =
      let words = flat_map spelled ps ++ ending after in
      let o = all.0.0 in
      let now = settled_rows R p r in
      let go = steps.goes_joined name ns (cond b positional idle) r p (45 ∷ 45 ∷ (n ++ 61 ∷ v)) n v (looks_joined n v all.0.1.plain) o in
      let rows = steps.used_option name ns now n v fresh.0 in
      let rest = ends ps after (used (option_rule n) (v ∷ []) now) None false refl all.1 (subst (Fresh ps) (sym rows) fresh.1) in
      (go.faults words ∙ both_none _ _ (both_none _ _ e (steps.use_new name ns now n v fresh.0)) rest.0, go.rows words ∙ rest.1 ∙ ap (λ x. final x ps after) rows)

  -- ---- words that are taken are those of a line

  settled_after : (u : Waiting) (fs : List Text) (r : List Row) (p : Option (Text × List Text)) → steps.total name ns (steps.state name ns r p u true) fs ≡ [] → settle_fault R false (steps.held name ns r p) ≡ []
  unfolding walk_fault
  settled_after u [] r p e = e
  settled_after u (f ∷ fs) r p e = first_none _ _ (sym ((steps.goes_after name ns u r p f).faults fs) ∙ e)

  pub record Found (words : List Text) (r : List Row) : Type 0 where
    pub pieces : List Piece
    pub after : Option (List Text)
    pub words_are : words ≡ flat_map spelled pieces ++ ending after
    pub loose : Every (IsLoose ns) pieces
    pub fresh : Fresh pieces r

  abbrev FindsFrom : List Text → List Row → Option (Text × List Text) → Type 0
  FindsFrom words r p = (settle_fault R false (steps.held name ns r p) ≡ []) × Found words (settled_rows R p r)

  module _ (names : Names ns) where
    -- an option that waits isn't settled
    waits : (r : List Row) (n : Text) → IsOption ns n → settle_fault R false (steps.held name ns r (Some (n, []))) ≡ [] → ⊥
    waits r n o e = no_kind _ _ (sym (steps.settle_no_value name ns r n o) ∙ e)

    abbrev waiting : List Row → Text → Walk
    waiting r n = steps.state name ns r (Some (n, [])) (option n) false

    -- a long option in the place of a value
    no_long : (r : List Row) (n w m : Text) (v : Option Text) (ws : List Text) → IsOption ns n → IsLong w m v → steps.total name ns (waiting r n) (w ∷ ws) ≡ [] → ⊥
    no_long r n w m v ws o is e = go (list_any (λ k. bytes_eq k m) ns) refl v is
      where
        go : (b : Bool) → list_any (λ k. bytes_eq k m) ns ≡ b → (v : Option Text) → IsLong w m v → ⊥
        go false unknown v is = no_kind _ _ (sym (steps.unknown_option name ns (option n) r (Some (n, [])) w m v is unknown ws) ∙ e)
        go true known None is = waits r n o (first_none _ _ (sym ((steps.goes_apart name ns (option n) r (Some (n, [])) w m is (names m known).0).faults ws) ∙ e))
        go true known (Some v) is = waits r n o (first_none _ _ (first_none _ _ (sym ((steps.goes_joined name ns (option n) r (Some (n, [])) w m v is (names m known).0).faults ws) ∙ e)))

    -- the word after `--name` is its value
    value_follows : (r : List Row) (n w : Text) (ws : List Text) → IsOption ns n → Look w → steps.total name ns (waiting r n) (w ∷ ws) ≡ [] → IsPlain w
    value_follows r n w ws o (looks_plain is) e = is
    value_follows r n w ws o (looks_dashes is) e =
        absurd (waits r n o (settled_after (option n) ws r (Some (n, []))
        (sym ((steps.goes_dashes name ns (option n) r (Some (n, []))).faults ws) ∙ ap (λ (k : Text). steps.total name ns (waiting r n) (k ∷ ws)) (sym is) ∙ e)))
    value_follows r n w ws o (looks_long m v is same) e = absurd (no_long r n w m v ws o is e)
    value_follows r n w ws o (looks_short flags x is) e = absurd (no_kind _ _ (sym (steps.unknown_letters name ns (option n) r (Some (n, [])) w flags x is ws) ∙ e))

    with_file : (f : Text) (ws : List Text) (r : List Row) → IsPlain f → Found ws (add r (codes "file", f)) → Found (f ∷ ws) r
    with_file f ws r is rest = record {
      pieces = file f ∷ rest.pieces;
      after = rest.after;
      words_are = ap (λ (t : List Text). f ∷ t) rest.words_are;
      loose = (is, rest.loose);
      fresh = (tt, rest.fresh);
    }

    with_apart : (w n v : Text) (ws : List Text) (r : List Row) → w ≡ 45 ∷ 45 ∷ n → IsOption ns n × IsName n → IsPlain v → has_row n r ≡ false → Found ws (add r (n, v)) → Found (w ∷ v ∷ ws) r
    with_apart w n v ws r same o is new rest = record {
      pieces = apart n v ∷ rest.pieces;
      after = rest.after;
      words_are = ap₂ (λ (k : Text) (t : List Text). k ∷ v ∷ t) same rest.words_are;
      loose = ((o.0, o.1, is), rest.loose);
      fresh = (new, rest.fresh);
    }

    with_joined : (w n v : Text) (ws : List Text) (r : List Row) → w ≡ 45 ∷ 45 ∷ (n ++ 61 ∷ v) → IsOption ns n × IsName n → has_row n r ≡ false → Found ws (add r (n, v)) → Found (w ∷ ws) r
    with_joined w n v ws r same o new rest = record {
      pieces = joined n v ∷ rest.pieces;
      after = rest.after;
      words_are = ap₂ (λ (k : Text) (t : List Text). k ∷ t) same rest.words_are;
      loose = ((o.0, o.1), rest.loose);
      fresh = (new, rest.fresh);
    }

    abbrev Finder : List Text → Type 0
    Finder ws = (r : List Row) (p : Option (Text × List Text)) (b : Bool) → steps.total name ns (calm r p b) ws ≡ [] → FindsFrom ws r p

    -- the same, where an option waits
    abbrev Waiter : List Text → Type 0
    Waiter ws = (r : List Row) (w n : Text) → w ≡ 45 ∷ 45 ∷ n → IsOption ns n × IsName n → steps.total name ns (waiting r n) ws ≡ [] → Found (w ∷ ws) r

    wait_end : Waiter []
    unfolding walk_fault
    wait_end r w n same o e = absurd (waits r n o.0 e)

    wait_value : (v : Text) (ws : List Text) → Look v → Finder ws → Waiter (v ∷ ws)
    wait_value v ws l next r w n same o e =
        let is = value_follows r n v ws o.0 l e in
        let found = next r (Some (n, v ∷ [])) false (sym ((steps.goes_value name ns r n v is o.0).faults ws) ∙ e) in
        let new = steps.new_if_settled name ns r n v o.0 found.0 in
        with_apart w n v ws r same o is new (subst (Found ws) (steps.rows_option name ns r n v o.0 new) found.1)

    find_long : (w n : Text) (ws : List Text) (v : Option Text) → IsOption ns n × IsName n → IsLong w n v → w ≡ option_text n v → Finder ws → Waiter ws → Finder (w ∷ ws)
    find_long w n ws None o is same next wait r p b e =
        let all = sym ((steps.goes_apart name ns (cond b positional idle) r p w n is o.0).faults ws) ∙ e in
        (first_none _ _ all, wait (settled_rows R p r) w n same o (then_none _ _ all))
    find_long w n ws (Some v) o is same next wait r p b e =
        let now = settled_rows R p r in
        let all = sym ((steps.goes_joined name ns (cond b positional idle) r p w n v is o.0).faults ws) ∙ e in
        let uses = first_none _ _ all in
        let new = steps.new_if_used name ns now n v (then_none _ _ uses) in
        let found = next (used (option_rule n) (v ∷ []) now) None false (then_none _ _ all) in
        (first_none _ _ uses, with_joined w n v ws now same o new (subst (Found ws) (steps.used_option name ns now n v new) found.1))

    find_word : (w : Text) (ws : List Text) → Look w → Finder ws → Waiter ws → Finder (w ∷ ws)
    find_word w ws (looks_plain is) next wait r p b e =
        let all = sym ((steps.goes_file name ns b r p w is).faults ws) ∙ e in
        let found = next (settled_rows R p r) (Some (codes "file", w ∷ [])) true (then_none _ _ all) in
        (first_none _ _ all, with_file w ws (settled_rows R p r) is found.1)
    find_word w ws (looks_dashes is) next wait r p b e =
        let all = sym ((steps.goes_dashes name ns (cond b positional idle) r p).faults ws) ∙ ap (λ (k : Text). steps.total name ns (calm r p b) (k ∷ ws)) (sym is) ∙ e in
        (settled_after (cond b positional idle) ws r p all, record { pieces = []; after = Some ws; words_are = ap (λ (k : Text). k ∷ ws) is; loose = tt; fresh = tt })
    find_word w ws (looks_long n v is same) next wait r p b e = go (list_any (λ k. bytes_eq k n) ns) refl
      where
        go : (k : Bool) → list_any (λ k. bytes_eq k n) ns ≡ k → FindsFrom (w ∷ ws) r p
        go false unknown = absurd (no_kind _ _ (sym (steps.unknown_option name ns (cond b positional idle) r p w n v is unknown ws) ∙ e))
        go true known = find_long w n ws v (names n known) is same next wait r p b e
    find_word w ws (looks_short flags x is) next wait r p b e = absurd (no_kind _ _ (sym (steps.unknown_letters name ns (cond b positional idle) r p w flags x is ws) ∙ e))

    pub finds : (ws : List Text) → Every IsUtf8 ws → Finder ws
    unfolding walk_fault
    finds [] utf8 = λ r p b e. (e, record { pieces = []; after = None; words_are = refl; loose = tt; fresh = tt })
    finds (w ∷ []) utf8 = find_word w [] (look w utf8.0) (finds [] tt) wait_end
    finds (w ∷ v ∷ ws) utf8 = find_word w (v ∷ ws) (look w utf8.0) (finds (v ∷ ws) utf8.1) (wait_value v ws (look v utf8.1.0) (finds ws utf8.1.1))
