-- What clap does at one word, at a command with these options and files.
use Rattle.std.proofs.Common.{◌≡◌, ◌∙◌, ℕ, Bool, cond, true, false, ◌&&◌, refl, sym, ap, ap₂, List, [], ◌∷◌, length, Option, Some, None, codes, bytes_eq, fold, drop, encode_utf8, nat_lt, slice_get, chars, suc, true≢false}
use Rattle.std.specs.List.{list_any}
use Rattle.clap.specs.Lexer.{long_of, short_of}
use Rattle.clap.specs.Walk.{Rule, Text, Row, Held, Waiting, idle, positional, option, value, trailing, word_met, Walk, walked, positional_held, subcommand_met, subcommand_or_other, long_or_other, short_or_plain, plain_word, settled_rows, settled, used, arg_by_long, long_word, after_step, is_pending, pushed, has_row, Step, after_flag, long_met, option_word, next, with_values, used_by_id}
use Rattle.clap.specs.Kinds.{Kinds, or_else}
use Rattle.clap.specs.Faults.{turn_fault, walk_fault, settle_fault, use_fault, other_fault, word_fault, step_fault, flag_word_fault, long_fault, flags_fault, bundle_fault, bundle_step_fault, short_fault}
use Rattle.clap.specs.declared.error.kind.ErrorKind.TheVariants as kind
use Rattle.clap.specs.Simple.{Shape}
use Rattle.command_line.proofs.Lookups.{IsOption, equal_text, id_found, long_found, long_unknown, no_short, without_none}
use Rattle.clap.specs.declared.parser.matches.ValueSource.TheVariants.{CommandLine}
use Rattle.clap.specs.declared.builder.value_parser.Reading.TheVariants as reading
use Rattle.command_line.specs.Written.{rules_for, option_rule, file_rule, shape_for}

-- ---- what a word looks like

pub record IsPlain (w : Text) : Type 0 where
  pub dashes : bytes_eq w (45 ∷ 45 ∷ []) ≡ false
  pub long : long_of w ≡ None
  pub short : short_of w ≡ None

pub record IsLong (w name : Text) (v : Option Text) : Type 0 where
  pub dashes : bytes_eq w (45 ∷ 45 ∷ []) ≡ false
  pub long : long_of w ≡ Some (name, v)

pub record IsShort (w flags : Text) (x : ℕ) : Type 0 where
  pub dashes : bytes_eq w (45 ∷ 45 ∷ []) ≡ false
  pub long : long_of w ≡ None
  pub short : short_of w ≡ Some flags
  pub length_is : (n : ℕ) × (length flags ≡ suc n)
  pub first : slice_get (chars flags) 0 ≡ Some x

-- one more value of an id
abbrev pub add : List Row → Text × Text → List Row
add r u = with_values u.0 reading.AsWritten CommandLine (u.1 ∷ []) r

and_false : (b : Bool) → (b && false) ≡ false
and_false true = refl
and_false false = refl

and_true : (b : Bool) → (b && true) ≡ b
and_true true = refl
and_true false = refl

pub or_else_nil : (a : Kinds) → or_else a [] ≡ a
or_else_nil [] = refl
or_else_nil (k ∷ ks) = refl

pub or_else_assoc : (a b c : Kinds) → or_else (or_else a b) c ≡ or_else a (or_else b c)
or_else_assoc [] b c = refl
or_else_assoc (k ∷ ks) b c = refl

module _ (name : Text) (ns : List Text) where
  abbrev pub R : List Rule
  R = rules_for ns

  abbrev pub s : Shape
  s = shape_for name ns

  abbrev pub held : List Row → Option (Text × List Text) → Held
  held r p = record { rows = r; pending = p; skip = 0 }

  abbrev pub state : List Row → Option (Text × List Text) → Waiting → Bool → Walk
  state r p u t = record { held = held r p; waiting = u; position = 1; is_trailing = t; stopped = None }

  -- the fault of the words from here on, and of what is pending at their end
  abbrev pub total : Walk → List Text → Kinds
  total w words = or_else (walk_fault s [] w words) (settle_fault R false (fold (walked R []) w words).held)

  -- the rows at the end of the words
  abbrev pub rows_at_end : Walk → List Text → List Row
  rows_at_end w words = (settled R (fold (walked R []) w words).held).rows

  pub record Goes (w : Walk) (word : Text) (fault : Kinds) (then : Walk) : Type 0 where
    pub faults : (rest : List Text) → total w (word ∷ rest) ≡ or_else fault (total then rest)
    pub rows : (rest : List Text) → rows_at_end w (word ∷ rest) ≡ rows_at_end then rest

  goes : (w then : Walk) (word : Text) (fault : Kinds) → turn_fault s [] w word ≡ fault → walked R [] w word ≡ then → Goes w word fault then
  unfolding walk_fault
  goes w then word fault f e = record {
    faults = λ rest. or_else_assoc (turn_fault s [] w word) (walk_fault s [] (walked R [] w word) rest) (settle_fault R false (fold (walked R []) (walked R [] w word) rest).held)
        ∙ ap₂ (λ a b. or_else a (total b rest)) f e;
    rows = λ rest. ap (λ b. rows_at_end b rest) e;
  }

  no_subcommand : (u : Waiting) (w : Text) → subcommand_met [] u w ≡ None
  no_subcommand idle w = refl
  no_subcommand positional w = refl
  no_subcommand (option id) w = refl

  -- ---- a word that is no flag

  met_plain : (u : Waiting) (w : Text) (h : Held) → IsPlain w → word_met R [] false u 1 w h ≡ plain_word R u w h
  met_plain u w h p =
      ap (λ o. subcommand_or_other R o u 1 w h) (no_subcommand u w)
      ∙ ap (λ b. cond b (h, trailing 1) (long_or_other R u w (long_of w) h)) p.dashes
      ∙ ap (λ l. long_or_other R u w l h) p.long
      ∙ ap (λ l. short_or_plain R u w l h) p.short

  fault_plain : (u : Waiting) (w : Text) (h : Held) → IsPlain w → word_fault s [] false u w h ≡ []
  fault_plain u w h p =
      ap (λ o. other_fault s o w h) (no_subcommand u w)
      ∙ ap (λ b. cond b [] (flag_word_fault R false (long_of w) w h)) p.dashes
      ∙ ap (λ l. flag_word_fault R false l w h) p.long
      ∙ ap (λ l. Rattle.std.specs.Option.option_map_or (λ flags. bundle_fault R false flags h) l []) p.short

  -- the state when a file was taken
  abbrev pub with_file : List Row → Option (Text × List Text) → Text → Bool → Walk
  with_file r p f t = state (settled_rows R p r) (Some (codes "file", f ∷ [])) positional t

  file_held : (w : Text) (r : List Row) (p : Option (Text × List Text)) → positional_held R file_rule w (held r p) ≡ held (settled_rows R p r) (Some (codes "file", w ∷ []))
  file_held w r p = ap (λ b. pushed (codes "file") w (cond b (held r p) (settled R (held r p)))) (and_false (is_pending file_rule p))

  file_fault : (r : List Row) (p : Option (Text × List Text)) → step_fault s 1 (held r p) value ≡ settle_fault R false (held r p)
  file_fault r p = ap (λ b. cond b [] (settle_fault R false (held r p))) (and_false (is_pending file_rule p))

  pub goes_file : (b : Bool) (r : List Row) (p : Option (Text × List Text)) (w : Text) → IsPlain w
      → Goes (state r p (cond b positional idle) false) w (settle_fault R false (held r p)) (with_file r p w false)
  unfolding walked
  goes_file true r p w is = goes _ _ w _
      (ap₂ or_else (fault_plain positional w (held r p) is) (ap (λ (m : Held × _). step_fault s 1 m.0 m.1) (met_plain positional w (held r p) is) ∙ file_fault r p))
      (ap (λ (m : Held × _). after_step R w (state r p positional false) m.0 m.1) (met_plain positional w (held r p) is)
      ∙ ap (λ h. record (state r p positional false) { held = h; waiting = positional }) (file_held w r p))
  goes_file false r p w is = goes _ _ w _
      (ap₂ or_else (fault_plain idle w (held r p) is) (ap (λ (m : Held × _). step_fault s 1 m.0 m.1) (met_plain idle w (held r p) is) ∙ file_fault r p))
      (ap (λ (m : Held × _). after_step R w (state r p idle false) m.0 m.1) (met_plain idle w (held r p) is)
      ∙ ap (λ h. record (state r p idle false) { held = h; waiting = positional }) (file_held w r p))

  pub goes_after : (u : Waiting) (r : List Row) (p : Option (Text × List Text)) (w : Text) → Goes (state r p u true) w (settle_fault R false (held r p)) (with_file r p w true)
  unfolding walked
  goes_after u r p w = goes _ _ w _ (file_fault r p) (ap (λ h. record (state r p u true) { held = h; waiting = positional }) (file_held w r p))

  pub goes_dashes : (u : Waiting) (r : List Row) (p : Option (Text × List Text)) → Goes (state r p u false) (45 ∷ 45 ∷ []) [] (state r p u true)
  unfolding walked
  goes_dashes idle r p = goes _ _ _ _ refl refl
  goes_dashes positional r p = goes _ _ _ _ refl refl
  goes_dashes (option id) r p = goes _ _ _ _ refl refl

  -- ---- a word that is an option

  met_long : (u : Waiting) (w n : Text) (v : Option Text) (h : Held) → IsLong w n v → word_met R [] false u 1 w h ≡ long_word R u w n v h
  met_long u w n v h p =
      ap (λ o. subcommand_or_other R o u 1 w h) (no_subcommand u w)
      ∙ ap (λ b. cond b (h, trailing 1) (long_or_other R u w (long_of w) h)) p.dashes
      ∙ ap (λ l. long_or_other R u w l h) p.long

  fault_long : (u : Waiting) (w n : Text) (v : Option Text) (h : Held) → IsLong w n v → word_fault s [] false u w h ≡ long_fault R false (arg_by_long R n) v h
  fault_long u w n v h p =
      ap (λ o. other_fault s o w h) (no_subcommand u w)
      ∙ ap (λ b. cond b [] (flag_word_fault R false (long_of w) w h)) p.dashes
      ∙ ap (λ l. flag_word_fault R false l w h) p.long

  -- the state when an option waits for its value
  abbrev pub with_name : List Row → Option (Text × List Text) → Text → Walk
  with_name r p n = state (settled_rows R p r) (Some (n, [])) (option n) false

  abbrev found_long : Waiting → Text → Text → Option Text → Held → Option Rule → Held × Step
  found_long u w n v h o = after_flag R u w (long_met R o v h).0 (long_met R o v h).1

  pub goes_apart : (u : Waiting) (r : List Row) (p : Option (Text × List Text)) (w n : Text) → IsLong w n None → IsOption ns n
      → Goes (state r p u false) w (settle_fault R false (held r p)) (with_name r p n)
  unfolding walked
  goes_apart u r p w n is o =
      let met : word_met R [] false u 1 w (held r p) ≡ found_long u w n None (held r p) (Some (option_rule n)) = met_long u w n None (held r p) is ∙ ap (found_long u w n None (held r p)) (long_found ns n o) in
      goes _ _ w _
      (ap₂ or_else (fault_long u w n None (held r p) is ∙ ap (λ a. long_fault R false a None (held r p)) (long_found ns n o)) (ap (λ (m : Held × Step). step_fault s 1 m.0 m.1) met)
      ∙ or_else_nil _)
      (ap (λ (m : Held × Step). after_step R w (state r p u false) m.0 m.1) met)

  -- the state when an option was taken with its value
  abbrev pub with_option : List Row → Option (Text × List Text) → Text → Text → Walk
  with_option r p n v = state (used (option_rule n) (v ∷ []) (settled_rows R p r)) None idle false

  pub goes_joined : (u : Waiting) (r : List Row) (p : Option (Text × List Text)) (w n v : Text) → IsLong w n (Some v) → IsOption ns n
      → Goes (state r p u false) w (or_else (settle_fault R false (held r p)) (use_fault false (option_rule n) (v ∷ []) (settled_rows R p r))) (with_option r p n v)
  unfolding walked
  goes_joined u r p w n v is o =
      let met : word_met R [] false u 1 w (held r p) ≡ found_long u w n (Some v) (held r p) (Some (option_rule n)) =
      met_long u w n (Some v) (held r p) is ∙ ap (found_long u w n (Some v) (held r p)) (long_found ns n o) in
      goes _ _ w _
      (ap₂ or_else (fault_long u w n (Some v) (held r p) is ∙ ap (λ a. long_fault R false a (Some v) (held r p)) (long_found ns n o)) (ap (λ (m : Held × Step). step_fault s 1 m.0 m.1) met)
      ∙ or_else_nil _)
      (ap (λ (m : Held × Step). after_step R w (state r p u false) m.0 m.1) met)

  -- the word is refused, whatever follows
  abbrev pub Refused : Walk → Text → Type 0
  Refused w word = (rest : List Text) → total w (word ∷ rest) ≡ kind.UnknownArgument ∷ []

  refused : (u : Waiting) (r : List Row) (p : Option (Text × List Text)) (w : Text) → word_fault s [] false u w (held r p) ≡ kind.UnknownArgument ∷ [] → Refused (state r p u false) w
  refused u r p w e = λ rest.
      (goes (state r p u false) _ w (kind.UnknownArgument ∷ [])
      (ap (λ k. or_else k (step_fault s 1 (word_met R [] false u 1 w (held r p)).0 (word_met R [] false u 1 w (held r p)).1)) e) refl).faults rest

  pub unknown_option : (u : Waiting) (r : List Row) (p : Option (Text × List Text)) (w n : Text) (v : Option Text) → IsLong w n v → list_any (λ m. bytes_eq m n) ns ≡ false → Refused (state r p u false) w
  unknown_option u r p w n v is not_there = refused u r p w (fault_long u w n v (held r p) is ∙ ap (λ a. long_fault R false a v (held r p)) (long_unknown ns n not_there))

  pub unknown_letters : (u : Waiting) (r : List Row) (p : Option (Text × List Text)) (w flags : Text) (x : ℕ) → IsShort w flags x → Refused (state r p u false) w
  unfolding flags_fault
  unknown_letters u r p w flags x is = refused u r p w
      (ap (λ o. other_fault s o w (held r p)) (no_subcommand u w)
      ∙ ap (λ b. cond b [] (flag_word_fault R false (long_of w) w (held r p))) is.dashes
      ∙ ap (λ l. flag_word_fault R false l w (held r p)) is.long
      ∙ ap (λ l. Rattle.std.specs.Option.option_map_or (λ flags. bundle_fault R false flags (held r p)) l []) is.short
      ∙ ap (λ k. flags_fault R false k flags 0 (held r p)) is.length_is.1
      ∙ ap (λ o. bundle_step_fault R false o flags 0 (held r p) (flags_fault R false is.length_is.0)) is.first
      ∙ ap (λ a. let rest = drop (length (encode_utf8 x)) flags in short_fault R false a rest (held r p) (flags_fault R false is.length_is.0 rest 0)) (no_short ns x))

  -- ---- the value that an option waits for

  pub goes_value : (r : List Row) (n v : Text) → IsPlain v → IsOption ns n → Goes (state r (Some (n, [])) (option n) false) v [] (state r (Some (n, v ∷ [])) idle false)
  unfolding walked
  goes_value r n v is o =
      let h = held r (Some (n, [])) in
      let taken : (option_word (Some (option_rule n)) n v h).1 ≡ idle = ap (λ b. cond (nat_lt (cond b 1 0) 1) (option n) idle) (equal_text n n refl) in
      let met : word_met R [] false (option n) 1 v h ≡ (pushed n v h, next idle) =
      met_plain (option n) v h is ∙ ap (λ a. ((option_word a n v h).0, next (option_word a n v h).1)) (id_found ns n o) ∙ ap (λ z. (pushed n v h, next z)) taken in
      goes _ _ v _
      (ap₂ or_else (fault_plain (option n) v h is) (ap (λ (m : Held × Step). step_fault s 1 m.0 m.1) met))
      (ap (λ (m : Held × Step). after_step R v (state r (Some (n, [])) (option n) false) m.0 m.1) met)

  -- ---- what is pending is settled

  abbrev pub repeats : Text → List Row → Kinds
  repeats n r = cond (has_row n r) (kind.ArgumentConflict ∷ []) []

  pub use_option : (n v : Text) (r : List Row) → use_fault false (option_rule n) (v ∷ []) r ≡ repeats n r
  use_option n v r = or_else_nil _ ∙ ap (λ b. cond b (kind.ArgumentConflict ∷ []) []) (and_true (has_row n r))

  pub settle_option : (r : List Row) (n v : Text) → IsOption ns n → settle_fault R false (held r (Some (n, v ∷ []))) ≡ repeats n r
  settle_option r n v o = ap (λ a. Rattle.std.specs.Option.option_map_or (λ a. use_fault false a (v ∷ []) r) a []) (id_found ns n o) ∙ use_option n v r

  pub settle_new : (r : List Row) (n v : Text) → IsOption ns n → has_row n r ≡ false → settle_fault R false (held r (Some (n, v ∷ []))) ≡ []
  settle_new r n v o e = settle_option r n v o ∙ ap (λ b. cond b (kind.ArgumentConflict ∷ []) []) e

  pub use_new : (r : List Row) (n v : Text) → has_row n r ≡ false → use_fault false (option_rule n) (v ∷ []) r ≡ []
  use_new r n v e = use_option n v r ∙ ap (λ b. cond b (kind.ArgumentConflict ∷ []) []) e

  not_repeated : (b : Bool) → cond b (kind.ArgumentConflict ∷ []) [] ≡ [] → b ≡ false
  not_repeated true e = absurd (true≢false (ap (λ (x : Kinds). elim x [ [] ↦ false | ◌∷◌ y ys ↦ true ]) e))
  not_repeated false e = refl

  pub new_if_settled : (r : List Row) (n v : Text) → IsOption ns n → settle_fault R false (held r (Some (n, v ∷ []))) ≡ [] → has_row n r ≡ false
  new_if_settled r n v o e = not_repeated (has_row n r) (sym (settle_option r n v o) ∙ e)

  pub new_if_used : (r : List Row) (n v : Text) → use_fault false (option_rule n) (v ∷ []) r ≡ [] → has_row n r ≡ false
  new_if_used r n v e = not_repeated (has_row n r) (sym (use_option n v r) ∙ e)

  pub settle_no_value : (r : List Row) (n : Text) → IsOption ns n → settle_fault R false (held r (Some (n, []))) ≡ kind.InvalidValue ∷ []
  settle_no_value r n o = ap (λ a. Rattle.std.specs.Option.option_map_or (λ a. use_fault false a [] r) a []) (id_found ns n o)

  pub used_option : (r : List Row) (n v : Text) → has_row n r ≡ false → used (option_rule n) (v ∷ []) r ≡ add r (n, v)
  used_option r n v e = ap (λ x. with_values n reading.AsWritten CommandLine (v ∷ []) x) (without_none n r e)

  pub rows_option : (r : List Row) (n v : Text) → IsOption ns n → has_row n r ≡ false → settled_rows R (Some (n, v ∷ [])) r ≡ add r (n, v)
  rows_option r n v o e = ap (λ a. used_by_id a (v ∷ []) r) (id_found ns n o) ∙ used_option r n v e
