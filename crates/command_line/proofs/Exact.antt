-- clap and the lines of a command say the same.
use Rattle.std.proofs.Common.{ap₂, zero, ◌≡◌, ◌≢◌, ◌∙◌, ℕ, suc, ◌<◌, length, Bool, cond, true, false, not, ◌&&◌, ◌||◌, refl, sym, ap, subst, arith, List, [], ◌∷◌, ◌++◌, Option, Some, None, codes, find, flat_map, bytes_eq, unwrap_or, option_map, true≢false, All, AllPairs, slice_index_or, IsUtf8, inl, inr, ◌⊎◌, ◌==◌, ne_eqb, is_some, option_and_then}
use Rattle.std.specs.List.{list_any, list_all}
use Rattle.std.proofs.lemmas.List.Elements.{All-cons}
use Rattle.clap.specs.Lexer.{long_of_rest}
use Rattle.clap.specs.Walk.{Text, Row, first_of, is_empty}
use Rattle.clap.specs.Faults.{fault_of}
use Rattle.clap.specs.Simple.{built, matches_of}
use Rattle.command_line.specs.Words.{Piece, file, apart, joined, Line, Given, Gives, IsFirst, IsLine, IsOnly, IsTaken, IsGiven, IsOwnWord, IsAmong, files_of, options_of, value_of, file_of, option_of, given_by}
use Rattle.command_line.specs.Written.{HasGivenValues, IsFit, fits, given_in, shape_for, written}
use Rattle.command_line.proofs.Lookups.{same_text, equal_text}
use Rattle.command_line.proofs.Looks.{other_plain}
use Rattle.command_line.proofs.Steps.{IsPlain}
use Rattle.command_line.proofs.Lines.{Every, IsLoose, Names, final}
use Rattle.command_line.proofs.Values.{files_held, no_value, not_files, value_held, once, fresh_if_once}
use Rattle.command_line.proofs.Bridge.{taken, untangled}

-- ---- names

pub both : (a b : Bool) → (a && b) ≡ true → (a ≡ true) × (b ≡ true)
both true b e = (refl, e)
both false b e = absurd (true≢false (sym e))

is_false : (b : Bool) → not b ≡ true → b ≡ false
is_false true e = absurd (true≢false (sym e))
is_false false e = refl

filled : (n : Text) → is_empty n ≡ false → (c : ℕ) × (cs : Text) × (n ≡ c ∷ cs)
filled [] e = absurd (true≢false e)
filled (c ∷ cs) e = (c, cs, refl)

found_fits : (ns : List Text) (n : Text) → list_all fits ns ≡ true → list_any (λ m. bytes_eq m n) ns ≡ true → fits n ≡ true
found_fits [] n all any = absurd (true≢false (sym any))
found_fits (m ∷ ms) n all any = go (bytes_eq m n) (same_text m n) any (found_fits ms n (both _ _ all).1)
  where
    go : (b : Bool) → (b ≡ true → m ≡ n) → (b || list_any (λ k. bytes_eq k n) ms) ≡ true → (list_any (λ k. bytes_eq k n) ms ≡ true → fits n ≡ true) → fits n ≡ true
    go true same any next = ap fits (sym (same refl)) ∙ (both _ _ all).0
    go false same any next = next any

pub names_fit : (ns : List Text) → list_all fits ns ≡ true → Names ns
names_fit ns all n any =
    let p = both _ _ (found_fits ns n all any) in
    let q = both _ _ p.1 in
    (record { among = any; not_file = is_false _ p.0 }, record { plain = is_false _ q.0; some = filled n (is_false _ q.1) })

pub among : (ns : List Text) (n : Text) → IsAmong ns n → list_any (λ m. bytes_eq m n) ns ≡ true
among [] n h = elim h [ ]
among (m ∷ ms) n (inl same) = ap (λ b. b || list_any (λ k. bytes_eq k n) ms) (equal_text m n same)
among (m ∷ ms) n (inr rest) = ap (λ b. bytes_eq m n || b) (among ms n rest) ∙ or_true (bytes_eq m n)
  where
    or_true : (b : Bool) → (b || true) ≡ true
    or_true true = refl
    or_true false = refl

is_among : (ns : List Text) (n : Text) → list_any (λ m. bytes_eq m n) ns ≡ true → IsAmong ns n
is_among [] n e = absurd (true≢false (sym e))
is_among (m ∷ ms) n e = go (bytes_eq m n) (same_text m n) e (is_among ms n)
  where
    go : (b : Bool) → (b ≡ true → m ≡ n) → (b || list_any (λ k. bytes_eq k n) ms) ≡ true → (list_any (λ k. bytes_eq k n) ms ≡ true → IsAmong ms n) → (m ≡ n) ⊎ IsAmong ms n
    go true same any next = inl (same refl)
    go false same any next = inr (next any)

-- a fact of each name is one of a name that is among them
of_each : (P : Text → Type 0) (ns : List Text) → All P ns → (n : Text) → IsAmong ns n → P n
of_each P [] all n h = elim h [ ]
of_each P (m ∷ ms) all n (inl same) = subst P same (all 0 n (omega arith))
of_each P (m ∷ ms) all n (inr rest) = of_each P ms (λ k d lt. all (suc k) d (omega (arith, lt))) n rest

at_is_among : (ns : List Text) (k : ℕ) (d : Text) → k < length ns → IsAmong ns (slice_index_or ns k d)
at_is_among [] k d lt = absurd (omega (arith, lt))
at_is_among (m ∷ ms) zero d lt = inl refl
at_is_among (m ∷ ms) (suc k) d lt = inr (at_is_among ms k d (omega (arith, lt)))

-- ---- lists by their items

every : {X : Type 0} (P : X → Type 0) (xs : List X) → All P xs → Every P xs
every P [] all = tt
every P (x ∷ xs) all = (all 0 x (omega arith), every P xs (λ k d lt. all (suc k) d (omega (arith, lt))))

each : {X : Type 0} (P : X → Type 0) (xs : List X) → Every P xs → All P xs
each P [] all = λ k d lt. absurd (omega (arith, lt))
each P (x ∷ xs) all = All-cons P x xs all.0 (each P xs all.1)

every_both : {X : Type 0} (P : X → Type 0) (xs ys : List X) → Every P (xs ++ ys) → Every P xs × Every P ys
every_both P [] ys all = (tt, all)
every_both P (x ∷ xs) ys all = let r = every_both P xs ys all.1 in ((all.0, r.0), r.1)

both_every : {X : Type 0} (P : X → Type 0) (xs ys : List X) → Every P xs → Every P ys → Every P (xs ++ ys)
both_every P [] ys a b = b
both_every P (x ∷ xs) ys a b = (a.0, both_every P xs ys a.1 b)

-- ---- words of their own

own_plain : (w : Text) → IsOwnWord w → IsPlain w
own_plain [] h = absurd h
own_plain (c ∷ cs) h = other_plain c cs (ne_eqb c 45 h)

own_given : (w : Text) → IsOwnWord w → IsGiven w
own_given [] h = absurd h
own_given (c ∷ cs) h = (
  (λ e. let bad = ap length e in absurd (omega (arith, bad))),
  (λ e. h (ap (λ (t : List ℕ). slice_index_or t 0 0) e)),
)

pub some_not_none : {X : Type 0} (x : X) → Some x ≡ None → ⊥
some_not_none x e = true≢false (ap (λ o. is_some o) e)

dash_not_plain : (cs : Text) → IsPlain (45 ∷ cs) → 45 ∷ cs ≢ codes "-" → ⊥
dash_not_plain [] is given = given refl
dash_not_plain (d ∷ ds) is given = go (d == 45) refl ds is
  where
    go : (b : Bool) → (d == 45) ≡ b → (ds : Text) → IsPlain (45 ∷ d ∷ ds) → ⊥
    go false e ds is = some_not_none (d ∷ ds) (sym (ap (λ b. cond b None (Some (d ∷ ds))) e) ∙ is.short)
    go true e [] is = true≢false (sym (ap (λ b. b && true) e) ∙ is.dashes)
    go true e (c ∷ cs) is = some_not_none _ (sym (ap (λ b. option_and_then long_of_rest (cond b (Some (c ∷ cs)) None)) e) ∙ is.long)

plain_own : (w : Text) → IsPlain w → IsGiven w → IsOwnWord w
plain_own [] is given = given.0 refl
plain_own (c ∷ cs) is given = λ e. dash_not_plain cs (subst (λ k. IsPlain (k ∷ cs)) e is) (subst (λ (k : ℕ). k ∷ cs ≢ codes "-") e given.1)

-- ---- pieces

module _ (ns : List Text) (names : Names ns) where
  loosely : (p : Piece) → IsTaken ns p → IsLoose ns p
  loosely (file f) h = own_plain f h
  loosely (apart n v) h = let o = names n (among ns n h.0) in (o.0, o.1, own_plain v h.1)
  loosely (joined n v) h = names n (among ns n h.0)

  all_loosely : (ps : List Piece) → All (IsTaken ns) ps → Every (IsLoose ns) ps
  all_loosely [] all = tt
  all_loosely (p ∷ ps) all = (loosely p (all 0 p (omega arith)), all_loosely ps (λ k d lt. all (suc k) d (omega (arith, lt))))

  abbrev IsGivenFor : Text × Text → Type 0
  IsGivenFor o = IsGiven o.1

  strictly : (ps : List Piece) → Every (IsLoose ns) ps → Every IsGiven (flat_map file_of ps) → Every IsGivenFor (flat_map option_of ps) → Every (IsTaken ns) ps
  strictly [] all files values = tt
  strictly (file f ∷ ps) all files values = (plain_own f all.0 files.0, strictly ps all.1 files.1 values)
  strictly (apart n v ∷ ps) all files values = ((is_among ns n all.0.0.among, plain_own v all.0.2 values.0), strictly ps all.1 files values.1)
  strictly (joined n v ∷ ps) all files values = ((is_among ns n all.0.0.among, values.0), strictly ps all.1 files values.1)

  pub files_given : (ps : List Piece) → Every (IsTaken ns) ps → Every IsGiven (flat_map file_of ps)
  files_given [] all = tt
  files_given (file f ∷ ps) all = (own_given f all.0, files_given ps all.1)
  files_given (apart n v ∷ ps) all = files_given ps all.1
  files_given (joined n v ∷ ps) all = files_given ps all.1

  values_given : (ps : List Piece) → Every (IsTaken ns) ps → Every IsGivenFor (flat_map option_of ps)
  values_given [] all = tt
  values_given (file f ∷ ps) all = values_given ps all.1
  values_given (apart n v ∷ ps) all = (own_given v all.0.1, values_given ps all.1)
  values_given (joined n v ∷ ps) all = (all.0.1, values_given ps all.1)

  abbrev value_in : Text → List (Text × Text) → Option Text
  value_in n os = option_map (λ o. o.1) (find (λ o. bytes_eq o.0 n) os)

  one_given : (os : List (Text × Text)) → Every IsGivenFor os → (n v : Text) → value_in n os ≡ Some v → IsGiven v
  one_given [] all n v e = absurd (some_not_none v (sym e))
  one_given (o ∷ os) all n v e = go (bytes_eq o.0 n) e (one_given os all.1 n v)
    where
      go : (b : Bool) → option_map (λ (o : Text × Text). o.1) (cond b (Some o) (find (λ o. bytes_eq o.0 n) os)) ≡ Some v → (value_in n os ≡ Some v → IsGiven v) → IsGiven v
      go true e next = subst IsGiven (ap (λ k. unwrap_or k v) e) all.0
      go false e next = next e

  -- values that are found under their names are all values, where no name stands twice
  absent : (n v : Text) (os : List (Text × Text)) → ((k : ℕ) (d : Text × Text) → k < length os → n ≢ (slice_index_or os k d).0) → value_in n os ≡ Some v → ⊥
  absent n v [] h e = some_not_none v (sym e)
  absent n v (o ∷ os) h e = here (bytes_eq o.0 n) (same_text o.0 n) e (absent n v os (λ k d lt. h (suc k) d (omega (arith, lt))))
    where
      here : (b : Bool) → (b ≡ true → o.0 ≡ n) → option_map (λ (o : Text × Text). o.1) (cond b (Some o) (find (λ o. bytes_eq o.0 n) os)) ≡ Some v → (value_in n os ≡ Some v → ⊥) → ⊥
      here true same e next = h 0 o (omega arith) (sym (same refl))
      here false same e next = next e

  hidden : (m w n v : Text) (os : List (Text × Text)) → ((k : ℕ) (d : Text × Text) → k < length os → m ≢ (slice_index_or os k d).0) → value_in n os ≡ Some v → value_in n ((m, w) ∷ os) ≡ Some v
  hidden m w n v os differs e = go (bytes_eq m n) (same_text m n)
    where
      go : (b : Bool) → (b ≡ true → m ≡ n) → option_map (λ (o : Text × Text). o.1) (cond b (Some (m, w)) (find (λ o. bytes_eq o.0 n) os)) ≡ Some v
      go true same = absurd (absent n v os (λ k d lt. subst (λ (t : Text). t ≢ (slice_index_or os k d).0) (same refl) (differs k d lt)) e)
      go false same = e

  abbrev IsNamed : Text × Text → Type 0
  IsNamed o = IsAmong ns o.0

  all_named : (ps : List Piece) → Every (IsLoose ns) ps → Every IsNamed (flat_map option_of ps)
  all_named [] all = tt
  all_named (file f ∷ ps) all = all_named ps all.1
  all_named (apart n v ∷ ps) all = (is_among ns n all.0.0.among, all_named ps all.1)
  all_named (joined n v ∷ ps) all = (is_among ns n all.0.0.among, all_named ps all.1)

  all_given : (os : List (Text × Text)) → AllPairs (λ a b. a.0 ≢ b.0) os → Every IsNamed os → ((n v : Text) → IsAmong ns n → value_in n os ≡ Some v → IsGiven v) → Every IsGivenFor os
  all_given [] pairs is h = tt
  all_given (o ∷ os) pairs is h = (
    h o.0 o.1 is.0 (ap (λ b. option_map (λ (o : Text × Text). o.1) (cond b (Some o) (find (λ p. bytes_eq p.0 o.0) os))) (equal_text o.0 o.0 refl)),
    all_given os (λ i j d below lt. pairs (suc i) (suc j) d (omega (arith, below)) (omega (arith, lt))) is.1
        (λ n v named e. h n v named (hidden o.0 o.1 n v os (λ k d lt. pairs 0 (suc k) d (omega arith) (omega (arith, lt))) e)),
  )

  -- ---- the two directions

  value_same : (line : Line) → Every (IsLoose ns) line.pieces → (n : Text) → (given_in (final [] line.pieces line.after)).value n ≡ value_of n line
  value_same line all n = go (bytes_eq (codes "file") n) refl
    where
      go : (b : Bool) → bytes_eq (codes "file") n ≡ b → cond b None (first_of n (final [] line.pieces line.after)) ≡ value_of n line
      go true e = sym (ap (λ (k : Text). value_of k line) (sym (same_text (codes "file") n e)) ∙ no_value (options_of line) (not_files ns line.pieces all))
      go false e = value_held n e line.pieces line.after

  given_same : (line : Line) → Every (IsLoose ns) line.pieces → given_in (final [] line.pieces line.after) ≡ given_by line
  given_same line all =
      let files = files_held ns line.pieces line.after all in
      λ i. record { value = λ n. value_same line all n i; files = files i }

  -- what a line gives is given
  line_files : (line : Line) → All (IsTaken ns) line.pieces → All IsGiven (unwrap_or line.after []) → All IsGiven (files_of line)
  line_files line taken after = each IsGiven (files_of line)
      (both_every IsGiven (flat_map file_of line.pieces) (unwrap_or line.after []) (files_given line.pieces (every (IsTaken ns) line.pieces taken)) (every IsGiven (unwrap_or line.after []) after))

  line_values : (line : Line) → All (IsTaken ns) line.pieces → (n v : Text) → value_of n line ≡ Some v → IsGiven v
  line_values line taken n v e = one_given (options_of line) (values_given line.pieces (every (IsTaken ns) line.pieces taken)) n v e

  -- the value of an option by the rows is that by what they give
  option_value : (rows : List Row) (n : Text) → IsAmong ns n → (given_in rows).value n ≡ first_of n rows
  option_value rows n h = ap (λ b. cond b None (first_of n rows)) (names n (among ns n h)).0.not_file

  module _ (name : Text) (is_built : built (written name ns) ≡ record { top = shape_for name ns; subs = [] }) where
    abbrev rows : List Text → List Row
    rows words = matches_of (written name ns) words

    -- clap takes the words of a line
    accepted : (words : List Text) (line : Line) → IsLine name ns words line → (fault_of (written name ns) words ≡ []) × (given_in (rows words) ≡ given_by line)
    accepted words line is =
        let all = all_loosely line.pieces is.pieces_taken in
        let t = taken name ns is_built name line.pieces line.after all (fresh_if_once ns line.pieces all is.each_once) in
        (ap (fault_of (written name ns)) is.words_are ∙ t.0, ap given_in (ap rows is.words_are ∙ t.1) ∙ given_same line all)

    -- words that clap takes are those of a line, where what it found is given
    recovered : (words : List Text) → IsFirst name words → All IsUtf8 words → fault_of (written name ns) words ≡ []
        → All IsGiven (given_in (rows words)).files → HasGivenValues ns (rows words) → Gives name ns words (given_in (rows words))
    recovered [] first utf8 e files values = absurd first
    recovered (w ∷ rest) first utf8 e files values =
        let f = untangled name ns is_built names w rest (every IsUtf8 rest (λ k d lt. utf8 (suc k) d (omega (arith, lt)))) e in
        let line : Line = record { pieces = f.pieces; after = f.after } in
        let t = taken name ns is_built w f.pieces f.after f.loose f.fresh in
        let same = ap (λ (ws : List Text). rows (w ∷ ws)) f.words_are ∙ t.1 in
        let given : given_in (rows (w ∷ rest)) ≡ given_by line = ap given_in same ∙ given_same line f.loose in
        let pairs = once f.pieces [] f.fresh in
        let all_files = every_both IsGiven (flat_map file_of f.pieces) (unwrap_or f.after []) (every IsGiven (files_of line) (subst (λ (g : Given). All IsGiven g.files) given files)) in
        let all_values = all_given (options_of line) pairs (all_named f.pieces f.loose)
        (λ n v named found. of_each (λ m. (x : Text) → first_of m (rows (w ∷ rest)) ≡ Some x → IsGiven x) ns values n named v (sym (option_value (rows (w ∷ rest)) n named) ∙ ap (λ (g : Given). g.value n) given ∙ found)) in
        record {
          line = line;
          is_line = record {
            words_are = ap₂ (λ (k : Text) (ws : List Text). k ∷ ws) first f.words_are;
            pieces_taken = each (IsTaken ns) f.pieces (strictly f.pieces f.loose all_files.0 all_values);
            after_given = each IsGiven (unwrap_or f.after []) all_files.1;
            each_once = pairs;
          };
          given_is = given;
        }

-- ---- what readers cite

module _ (name : Text) (ns : List Text) (fit : IsFit name ns) where
  names_are : Names ns
  names_are = names_fit ns fit.names

  -- the words of a line are taken, and the rows give what it gives
  pub line_taken : (words : List Text) (given : Given) → Gives name ns words given → fault_of (written name ns) words ≡ []
  line_taken words given gives = (accepted ns names_are name fit.built_so words gives.line gives.is_line).0

  pub line_given : (words : List Text) (given : Given) → Gives name ns words given → given ≡ given_in (matches_of (written name ns) words)
  line_given words given gives = gives.given_is ∙ sym (accepted ns names_are name fit.built_so words gives.line gives.is_line).1

  -- it gives files and values that are given
  pub files_are_given : (words : List Text) (given : Given) → Gives name ns words given → All IsGiven (given_in (matches_of (written name ns) words)).files
  files_are_given words given gives =
      subst (λ (g : Given). All IsGiven g.files) (sym gives.given_is ∙ line_given words given gives) (line_files ns names_are gives.line gives.is_line.pieces_taken gives.is_line.after_given)

  pub values_are_given : (words : List Text) (given : Given) → Gives name ns words given → HasGivenValues ns (matches_of (written name ns) words)
  values_are_given words given gives = λ k d lt v e.
      let n = slice_index_or ns k d in
      let named = at_is_among ns k d lt in
      let same = ap (λ (g : Given). g.value n) (sym (line_given words given gives) ∙ gives.given_is) in
      line_values ns names_are gives.line gives.is_line.pieces_taken n v (sym same ∙ option_value ns names_are (matches_of (written name ns) words) n named ∙ e)

  -- words that clap takes, with files and values that are given, give what the rows do, and nothing else
  pub line_read : (words : List Text) → IsFirst name words → All IsUtf8 words → fault_of (written name ns) words ≡ []
      → All IsGiven (given_in (matches_of (written name ns) words)).files → HasGivenValues ns (matches_of (written name ns) words)
      → IsOnly (Gives name ns words) (given_in (matches_of (written name ns) words))
  line_read words first utf8 e files values = record {
    is = recovered ns names_are name fit.built_so words first utf8 e files values;
    only = λ other gives. line_given words other gives;
  }
