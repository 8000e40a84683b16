-- What the matches hold, by the line.
use Rattle.std.proofs.Common.{◌≡◌, ◌∙◌, ℕ, Bool, cond, true, false, ◌||◌, refl, sym, ap, ap₂, List, [], ◌∷◌, ◌++◌, Option, Some, None, codes, find, flat_map, bytes_eq, unwrap_or, slice_get, option_map, option_and_then, true≢false, append_assoc, append-nil, ◌≢◌, All, AllPairs, arith, suc, length, ◌<◌, slice_index_or}
use Rattle.std.proofs.lemmas.List.Elements.{All-cons}
use Rattle.std.proofs.lemmas.List.Kept.{AllPairs-cons}
use Rattle.clap.specs.Walk.{Text, Row, has_row, first_of, stronger}
use Rattle.clap.specs.declared.parser.matches.ValueSource.TheVariants.{CommandLine}
use Rattle.command_line.specs.Written.{values_of}
use Rattle.command_line.specs.Words.{Piece, file, apart, joined, file_of, option_of}
use Rattle.command_line.proofs.Lookups.{same_text, equal_text, or_false}
use Rattle.command_line.proofs.Steps.{add}
use Rattle.command_line.proofs.Lines.{Every, IsLoose, Fresh, final, through, through_files, use_of}

abbrev as_values : Option Row → List Text
as_values o = unwrap_or (option_map (λ (r : Row). r.values) o) []

held_cons : (m : Text) (x : Row) (rest : List Row) → values_of m (x ∷ rest) ≡ cond (bytes_eq x.id m) x.values (values_of m rest)
held_cons m x rest = go (bytes_eq x.id m)
  where
    go : (b : Bool) → as_values (cond b (Some x) (find (λ (r : Row). bytes_eq r.id m) rest)) ≡ cond b x.values (values_of m rest)
    go true = refl
    go false = refl

abbrev grown : Row → Text → Row
grown x v = record x { values = x.values ++ v ∷ []; source = Some (stronger x.source CommandLine) }

add_hit : (id v : Text) (x : Row) (xs : List Row) → bytes_eq x.id id ≡ true → add (x ∷ xs) (id, v) ≡ grown x v ∷ xs
add_hit id v x xs e = ap (λ b. cond b (grown x v ∷ xs) (x ∷ add xs (id, v))) e

add_miss : (id v : Text) (x : Row) (xs : List Row) → bytes_eq x.id id ≡ false → add (x ∷ xs) (id, v) ≡ x ∷ add xs (id, v)
add_miss id v x xs e = ap (λ b. cond b (grown x v ∷ xs) (x ∷ add xs (id, v))) e

one_more : (id v : Text) (r : List Row) → values_of id (add r (id, v)) ≡ values_of id r ++ v ∷ []
one_more id v [] = held_cons id _ [] ∙ ap (λ b. cond b (v ∷ []) []) (equal_text id id refl)
one_more id v (x ∷ xs) = go (bytes_eq x.id id) refl (one_more id v xs)
  where
    go : (b : Bool) → bytes_eq x.id id ≡ b → values_of id (add xs (id, v)) ≡ values_of id xs ++ v ∷ [] → values_of id (add (x ∷ xs) (id, v)) ≡ values_of id (x ∷ xs) ++ v ∷ []
    go true e next = ap (values_of id) (add_hit id v x xs e) ∙ held_cons id (grown x v) xs ∙ ap (λ b. cond b (x.values ++ v ∷ []) (values_of id xs)) e
        ∙ sym (ap (λ t. t ++ v ∷ []) (held_cons id x xs ∙ ap (λ b. cond b x.values (values_of id xs)) e))
    go false e next = ap (values_of id) (add_miss id v x xs e) ∙ held_cons id x (add xs (id, v)) ∙ ap (λ b. cond b x.values (values_of id (add xs (id, v)))) e ∙ next
        ∙ sym (ap (λ t. t ++ v ∷ []) (held_cons id x xs ∙ ap (λ b. cond b x.values (values_of id xs)) e))

none_more : (id v m : Text) (r : List Row) → bytes_eq id m ≡ false → values_of m (add r (id, v)) ≡ values_of m r
none_more id v m [] other = held_cons m _ [] ∙ ap (λ b. cond b (v ∷ []) []) other
none_more id v m (x ∷ xs) other = go (bytes_eq x.id id) refl (none_more id v m xs other)
  where
    go : (b : Bool) → bytes_eq x.id id ≡ b → values_of m (add xs (id, v)) ≡ values_of m xs → values_of m (add (x ∷ xs) (id, v)) ≡ values_of m (x ∷ xs)
    go true e next =
        let differs : bytes_eq x.id m ≡ false = ap (λ t. bytes_eq t m) (same_text x.id id e) ∙ other in
        ap (values_of m) (add_hit id v x xs e) ∙ held_cons m (grown x v) xs ∙ ap (λ b. cond b (x.values ++ v ∷ []) (values_of m xs)) differs
        ∙ sym (held_cons m x xs ∙ ap (λ b. cond b x.values (values_of m xs)) differs)
    go false e next = ap (values_of m) (add_miss id v x xs e) ∙ held_cons m x (add xs (id, v)) ∙ ap (λ t. cond (bytes_eq x.id m) x.values t) next ∙ sym (held_cons m x xs)

or_again : (a b : Bool) → (a || b) ≡ ((a || b) || a)
or_again true b = refl
or_again false b = sym (or_false b)

or_assoc : (a b c : Bool) → (a || (b || c)) ≡ ((a || b) || c)
or_assoc true b c = refl
or_assoc false b c = refl

row_added : (id v m : Text) (r : List Row) → has_row m (add r (id, v)) ≡ (has_row m r || bytes_eq id m)
row_added id v m [] = or_false (bytes_eq id m)
row_added id v m (x ∷ xs) = go (bytes_eq x.id id) refl (row_added id v m xs)
  where
    go : (b : Bool) → bytes_eq x.id id ≡ b → has_row m (add xs (id, v)) ≡ (has_row m xs || bytes_eq id m) → has_row m (add (x ∷ xs) (id, v)) ≡ (has_row m (x ∷ xs) || bytes_eq id m)
    go true e next = ap (has_row m) (add_hit id v x xs e) ∙ or_again (bytes_eq x.id m) (has_row m xs) ∙ ap (λ t. (bytes_eq x.id m || has_row m xs) || bytes_eq t m) (same_text x.id id e)
    go false e next = ap (has_row m) (add_miss id v x xs e) ∙ ap (λ b. bytes_eq x.id m || b) next ∙ or_assoc (bytes_eq x.id m) (has_row m xs) (bytes_eq id m)

-- ---- the values of an id, among uses

abbrev pub given : Text → List Piece → List Text
given id [] = []
given id (p ∷ ps) = cond (bytes_eq (use_of p).0 id) ((use_of p).1 ∷ given id ps) (given id ps)

through_holds : (id : Text) (ps : List Piece) (r : List Row) → values_of id (through r ps) ≡ values_of id r ++ given id ps
through_holds id [] r = sym (append-nil (values_of id r))
through_holds id (p ∷ ps) r = through_holds id ps (add r (use_of p)) ∙ go (bytes_eq (use_of p).0 id) refl
  where
    go : (b : Bool) → bytes_eq (use_of p).0 id ≡ b → values_of id (add r (use_of p)) ++ given id ps ≡ values_of id r ++ cond b ((use_of p).1 ∷ given id ps) (given id ps)
    go true e =
        let same = same_text (use_of p).0 id e in
        ap (λ t. t ++ given id ps) (ap (λ (k : Text). values_of id (add r (k, (use_of p).1))) same ∙ one_more id (use_of p).1 r) ∙ append_assoc (values_of id r) ((use_of p).1 ∷ []) (given id ps)
    go false e = ap (λ t. t ++ given id ps) (none_more (use_of p).0 (use_of p).1 id r e)

files_hold : (fs : List Text) (r : List Row) → values_of (codes "file") (through_files r fs) ≡ values_of (codes "file") r ++ fs
files_hold [] r = sym (append-nil (values_of (codes "file") r))
files_hold (f ∷ fs) r = files_hold fs (add r (codes "file", f)) ∙ ap (λ t. t ++ fs) (one_more (codes "file") f r) ∙ append_assoc (values_of (codes "file") r) (f ∷ []) fs

others_hold : (id : Text) → bytes_eq (codes "file") id ≡ false → (fs : List Text) (r : List Row) → values_of id (through_files r fs) ≡ values_of id r
others_hold id other [] r = refl
others_hold id other (f ∷ fs) r = others_hold id other fs (add r (codes "file", f)) ∙ none_more (codes "file") f id r other

turned : (a b : Text) → bytes_eq a b ≡ false → bytes_eq b a ≡ false
turned a b e = go (bytes_eq b a) refl
  where
    go : (k : Bool) → bytes_eq b a ≡ k → bytes_eq b a ≡ false
    go true h = absurd (true≢false (sym (equal_text a b (sym (same_text b a h))) ∙ e))
    go false h = h

files_given : (ns : List Text) (ps : List Piece) → Every (IsLoose ns) ps → given (codes "file") ps ≡ flat_map file_of ps
files_given ns [] all = refl
files_given ns (file f ∷ ps) all = ap (λ t. f ∷ t) (files_given ns ps all.1)
files_given ns (apart n v ∷ ps) all = ap (λ b. cond b (v ∷ given (codes "file") ps) (given (codes "file") ps)) (turned (codes "file") n all.0.0.not_file) ∙ files_given ns ps all.1
files_given ns (joined n v ∷ ps) all = ap (λ b. cond b (v ∷ given (codes "file") ps) (given (codes "file") ps)) (turned (codes "file") n all.0.0.not_file) ∙ files_given ns ps all.1

-- the files are those of the line
pub files_held : (ns : List Text) (ps : List Piece) (after : Option (List Text)) → Every (IsLoose ns) ps → values_of (codes "file") (final [] ps after) ≡ flat_map file_of ps ++ unwrap_or after []
files_held ns ps after all =
    files_hold (unwrap_or after []) (through [] ps) ∙ ap (λ t. t ++ unwrap_or after []) (through_holds (codes "file") ps [] ∙ files_given ns ps all)

-- the first value of an option
abbrev pub value_among : Text → List (Text × Text) → Option Text
value_among n os = option_map (λ o. o.1) (find (λ o. bytes_eq o.0 n) os)

value_given : (n : Text) → bytes_eq (codes "file") n ≡ false → (ps : List Piece) → slice_get (given n ps) 0 ≡ value_among n (flat_map option_of ps)
value_given n other [] = refl
value_given n other (file f ∷ ps) = ap (λ b. slice_get (cond b (f ∷ given n ps) (given n ps)) 0) other ∙ value_given n other ps
value_given n other (apart m v ∷ ps) = go (bytes_eq m n) (value_given n other ps)
  where
    go : (b : Bool) → slice_get (given n ps) 0 ≡ value_among n (flat_map option_of ps)
        → slice_get (cond b (v ∷ given n ps) (given n ps)) 0 ≡ option_map (λ (o : Text × Text). o.1) (cond b (Some (m, v)) (find (λ o. bytes_eq o.0 n) (flat_map option_of ps)))
    go true next = refl
    go false next = next
value_given n other (joined m v ∷ ps) = go (bytes_eq m n) (value_given n other ps)
  where
    go : (b : Bool) → slice_get (given n ps) 0 ≡ value_among n (flat_map option_of ps)
        → slice_get (cond b (v ∷ given n ps) (given n ps)) 0 ≡ option_map (λ (o : Text × Text). o.1) (cond b (Some (m, v)) (find (λ o. bytes_eq o.0 n) (flat_map option_of ps)))
    go true next = refl
    go false next = next

first_is : (n : Text) (rows : List Row) → first_of n rows ≡ slice_get (values_of n rows) 0
first_is n rows = go (find (λ (r : Row). bytes_eq r.id n) rows)
  where
    go : (o : Option Row) → option_and_then (λ (r : Row). slice_get r.values 0) o ≡ slice_get (as_values o) 0
    go None = refl
    go (Some r) = refl

-- the value of an option is that of the line
pub value_held : (n : Text) → bytes_eq (codes "file") n ≡ false → (ps : List Piece) (after : Option (List Text)) → first_of n (final [] ps after) ≡ value_among n (flat_map option_of ps)
value_held n other ps after =
    first_is n (final [] ps after) ∙ ap (λ (t : List Text). slice_get t 0) (others_hold n other (unwrap_or after []) (through [] ps) ∙ through_holds n ps []) ∙ value_given n other ps

-- ---- the id of the files is no option

pub no_value : (os : List (Text × Text)) → Every (λ (o : Text × Text). bytes_eq (codes "file") o.0 ≡ false) os → value_among (codes "file") os ≡ None
no_value [] all = refl
no_value (o ∷ os) all = ap (λ b. option_map (λ (p : Text × Text). p.1) (cond b (Some o) (find (λ p. bytes_eq p.0 (codes "file")) os))) (turned (codes "file") o.0 all.0) ∙ no_value os all.1

-- ---- options that stand once

abbrev Options : List Piece → List (Text × Text)
Options = flat_map option_of

abbrev Differs : Text × Text → Text × Text → Type 0
Differs a b = a.0 ≢ b.0

stays : (m : Text) (u : Text × Text) (r : List Row) → has_row m r ≡ true → has_row m (add r u) ≡ true
stays m u r e = row_added u.0 u.1 m r ∙ ap (λ b. b || bytes_eq u.0 m) e

comes : (u : Text × Text) (r : List Row) → has_row u.0 (add r u) ≡ true
comes u r = row_added u.0 u.1 u.0 r ∙ ap (λ b. has_row u.0 r || b) (equal_text u.0 u.0 refl) ∙ go (has_row u.0 r)
  where
    go : (b : Bool) → (b || true) ≡ true
    go true = refl
    go false = refl

later : (n v : Text) (ps : List Piece) (r : List Row) → Fresh ps r → has_row n r ≡ true → All (Differs (n, v)) (Options ps)
later n v [] r fresh e = λ k d lt. absurd (omega (arith, lt))
later n v (file f ∷ ps) r fresh e = later n v ps (add r (codes "file", f)) fresh.1 (stays n (codes "file", f) r e)
later n v (apart m w ∷ ps) r fresh e =
    All-cons (Differs (n, v)) (m, w) (Options ps) (λ same. true≢false (sym e ∙ ap (λ t. has_row t r) same ∙ fresh.0)) (later n v ps (add r (m, w)) fresh.1 (stays n (m, w) r e))
later n v (joined m w ∷ ps) r fresh e =
    All-cons (Differs (n, v)) (m, w) (Options ps) (λ same. true≢false (sym e ∙ ap (λ t. has_row t r) same ∙ fresh.0)) (later n v ps (add r (m, w)) fresh.1 (stays n (m, w) r e))

pub once : (ps : List Piece) (r : List Row) → Fresh ps r → AllPairs Differs (Options ps)
once [] r fresh = λ i j d below lt. absurd (omega (arith, lt))
once (file f ∷ ps) r fresh = once ps (add r (codes "file", f)) fresh.1
once (apart n v ∷ ps) r fresh = AllPairs-cons Differs (n, v) (Options ps) (later n v ps (add r (n, v)) fresh.1 (comes (n, v) r)) (once ps (add r (n, v)) fresh.1)
once (joined n v ∷ ps) r fresh = AllPairs-cons Differs (n, v) (Options ps) (later n v ps (add r (n, v)) fresh.1 (comes (n, v) r)) (once ps (add r (n, v)) fresh.1)

-- no option stands in the rows yet
abbrev Absent : List Piece → List Row → Type 0
Absent ps r = Every (λ (o : Text × Text). has_row o.0 r ≡ false) (Options ps)

still_absent : (u : Text × Text) (os : List (Text × Text)) (r : List Row) → Every (λ (o : Text × Text). has_row o.0 r ≡ false) os → Every (λ (o : Text × Text). bytes_eq u.0 o.0 ≡ false) os
    → Every (λ (o : Text × Text). has_row o.0 (add r u) ≡ false) os
still_absent u [] r all other = tt
still_absent u (o ∷ os) r all other = (row_added u.0 u.1 o.0 r ∙ ap₂ (λ a b. a || b) all.0 other.0, still_absent u os r all.1 other.1)

unequal : (a b : Text) → a ≢ b → bytes_eq a b ≡ false
unequal a b h = go (bytes_eq a b) refl
  where
    go : (k : Bool) → bytes_eq a b ≡ k → bytes_eq a b ≡ false
    go true e = absurd (h (same_text a b e))
    go false e = e

from_pairs : (n v : Text) (os : List (Text × Text)) → ((k : ℕ) (d : Text × Text) → k < length os → Differs (n, v) (slice_index_or os k d)) → Every (λ (o : Text × Text). bytes_eq n o.0 ≡ false) os
from_pairs n v [] h = tt
from_pairs n v (o ∷ os) h = (unequal n o.0 (h 0 o (omega arith)), from_pairs n v os (λ k d lt. h (suc k) d (omega (arith, lt))))

pub not_files : (ns : List Text) (ps : List Piece) → Every (IsLoose ns) ps → Every (λ (o : Text × Text). bytes_eq (codes "file") o.0 ≡ false) (Options ps)
not_files ns [] all = tt
not_files ns (file f ∷ ps) all = not_files ns ps all.1
not_files ns (apart n v ∷ ps) all = (all.0.0.not_file, not_files ns ps all.1)
not_files ns (joined n v ∷ ps) all = (all.0.0.not_file, not_files ns ps all.1)

fresh_from : (ns : List Text) (ps : List Piece) (r : List Row) → Every (IsLoose ns) ps → Absent ps r → AllPairs Differs (Options ps) → Fresh ps r
fresh_from ns [] r all none pairs = tt
fresh_from ns (file f ∷ ps) r all none pairs = (tt, fresh_from ns ps (add r (codes "file", f)) all.1 (still_absent (codes "file", f) (Options ps) r none (not_files ns ps all.1)) pairs)
fresh_from ns (apart n v ∷ ps) r all none pairs = (
  none.0,
  fresh_from ns ps (add r (n, v)) all.1 (still_absent (n, v) (Options ps) r none.1 (from_pairs n v (Options ps) (λ k d lt. pairs 0 (suc k) d (omega arith) (omega (arith, lt)))))
      (λ i j d below lt. pairs (suc i) (suc j) d (omega (arith, below)) (omega (arith, lt))),
)
fresh_from ns (joined n v ∷ ps) r all none pairs = (
  none.0,
  fresh_from ns ps (add r (n, v)) all.1 (still_absent (n, v) (Options ps) r none.1 (from_pairs n v (Options ps) (λ k d lt. pairs 0 (suc k) d (omega arith) (omega (arith, lt)))))
      (λ i j d below lt. pairs (suc i) (suc j) d (omega (arith, below)) (omega (arith, lt))),
)

none_yet : (os : List (Text × Text)) → Every (λ (o : Text × Text). has_row o.0 [] ≡ false) os
none_yet [] = tt
none_yet (o ∷ os) = (refl, none_yet os)

pub fresh_if_once : (ns : List Text) (ps : List Piece) → Every (IsLoose ns) ps → AllPairs Differs (Options ps) → Fresh ps []
fresh_if_once ns ps all pairs = fresh_from ns ps [] all (none_yet (Options ps)) pairs
