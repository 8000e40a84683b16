-- Words ask for one command at most, and it fits.
use Rattle.std.proofs.Common.{◌≡◌, ◌≤◌, ◌+◌, ◌-◌, ◌^◌, ℕ, true, false, nat_eq, List, [], ◌∷◌, length, Option, Some, None, codes, refl, sym, ap, ◌∙◌, arith}
use Rattle.std.proofs.lemmas.List.{length-append}
use lib.Pointwise.{pointwise, bytes_decides}
use Rattle.command_line.specs.Check.{AsksCheck}
use Rattle.command_line.specs.Graph.{AsksGraph}
use Rattle.command_line.specs.Main.{AsksMain}
use Rattle.command_line.specs.Serial.{AsksSerial}
use Rattle.command_line.specs.Tuning.{IsNumber, IsTuning}
use Rattle.command_line.specs.Words.{Asks as AsksLine, Given, IsOnly, Text, words_of}
use Rattle.command_line.specs.declared.input.Input.{Input}
use Rattle.command_line.specs.declared.input.Root.{Root}
use Rattle.command_line.specs.declared.input.Root.TheVariants as roots
use Rattle.command_line.specs.declared.serial.Serial.{Serial as SerialWords}
use Rattle.command_line.specs.declared.tuning.Tuning.{Tuning}
use Rattle.clean_top.specs.Words.{Asks, AsksFor, Fits, IsTuned, IsUsage, lists_with, list_place, named_of, start_of}
use Rattle.clean_top.specs.declared.task.Command.{Command}
use Rattle.clean_top.specs.declared.task.Named.{Named}
use Rattle.clean_top.specs.declared.task.Task.{Task}
use Rattle.clean_top.specs.declared.task.Task.TheVariants.{Check, Main, Graph, Serial}

abbrev command_of : Named → Task → Command
command_of names task = record { names = names; task = task }

-- what words ask for
abbrev check_of : List Text → Command
check_of files = command_of (record { classes = files; lists = [] }) Check

abbrev main_of : Text → Command
main_of file = command_of (record { classes = []; lists = file ∷ [] }) Main

abbrev graph_of : Input → Command
graph_of input = command_of (named_of input) (Graph (start_of input.root))

abbrev serial_of : SerialWords → Command
serial_of serial = command_of (named_of serial.input) (Serial (start_of serial.input.root) serial.tuning)

module _ (words : List Text) where
  -- the first word is the command's name
  record Begins (name : Text) : Type 0 where
    rest : List Text
    is : words ≡ name ∷ rest

  begins : {name : Text} {options : List Text} {Means : Given → Type 0} → AsksLine name options words Means → Begins name
  begins asks = let gives = asks.gives in let line = gives.is_line in record { rest = words_of gives.line; is = line.words_are }

  -- and is no other
  clash : {a b : Text} → Begins a → Begins b → pointwise nat_eq a b ≡ false → ⊥
  clash {a} {b} one two unlike =
      let e = sym one.is ∙ two.is in
      let same : a ≡ b = cc in
      let both : true ≡ false = sym ((bytes_decides a b).1 same) ∙ unlike in
      cc

  -- the words of no command are of no form
  pub unasked : ((files : List Text) → AsksCheck words files → ⊥) → ((file : Text) → AsksMain words file → ⊥) → ((input : Input) → AsksGraph words input → ⊥) → ((serial : SerialWords) → AsksSerial words serial → ⊥) → IsUsage words
  unasked no_check no_main no_graph no_serial command asks = by command.task command.names asks where
    by : (task : Task) (names : Named) → AsksFor words task names → ⊥
    by Check names (asks, none) = no_check names.classes asks
    by Main names (file, asks, are) = no_main file asks
    by (Graph start) names (input, asks, begins_so, are) = no_graph input asks
    by (Serial start tuning) names (serial, asks, begins_so, tuned, are) = no_serial serial asks

  -- where they ask for one thing, they ask for no other
  one_check : (files : List Text) → IsOnly (AsksCheck words) files → (other : Command) → Asks words other → other ≡ check_of files
  one_check files only other asks = by other.task other.names asks where
    by : (task : Task) (names : Named) → AsksFor words task names → command_of names task ≡ check_of files
    by Check names (asks, none) = let same = only.only names.classes asks in λ i. record { names = record { classes = same i; lists = none i }; task = Check }
    by Main names (file, asks, are) = absurd (clash (begins only.is) (begins asks) refl)
    by (Graph start) names (input, asks, begins_so, are) = absurd (clash (begins only.is) (begins asks) refl)
    by (Serial start tuning) names (serial, asks, begins_so, tuned, are) = absurd (clash (begins only.is) (begins asks) refl)

  one_main : (file : Text) → IsOnly (AsksMain words) file → (other : Command) → Asks words other → other ≡ main_of file
  one_main file only other asks = by other.task other.names asks where
    by : (task : Task) (names : Named) → AsksFor words task names → command_of names task ≡ main_of file
    by Main names (f, asks, are) = let same = only.only f asks in λ i. record { names = (are ∙ ap (λ (g : Text). let r : Named = record { classes = []; lists = g ∷ [] } in r) same) i; task = Main }
    by Check names (asks, none) = absurd (clash (begins only.is) (begins asks) refl)
    by (Graph start) names (input, asks, begins_so, are) = absurd (clash (begins only.is) (begins asks) refl)
    by (Serial start tuning) names (serial, asks, begins_so, tuned, are) = absurd (clash (begins only.is) (begins asks) refl)

  one_graph : (input : Input) → IsOnly (AsksGraph words) input → (other : Command) → Asks words other → other ≡ graph_of input
  one_graph input only other asks = by other.task other.names asks where
    by : (task : Task) (names : Named) → AsksFor words task names → command_of names task ≡ graph_of input
    by (Graph start) names (i, asks, begins_so, are) = (λ k. record { names = are k; task = Graph (begins_so k) }) ∙ ap graph_of (only.only i asks)
    by Check names (asks, none) = absurd (clash (begins only.is) (begins asks) refl)
    by Main names (file, asks, are) = absurd (clash (begins only.is) (begins asks) refl)
    by (Serial start tuning) names (serial, asks, begins_so, tuned, are) = absurd (clash (begins only.is) (begins asks) refl)

  one_serial : (serial : SerialWords) → IsOnly (AsksSerial words) serial → (other : Command) → Asks words other → other ≡ serial_of serial
  one_serial serial only other asks = by other.task other.names asks where
    by : (task : Task) (names : Named) → AsksFor words task names → command_of names task ≡ serial_of serial
    by (Serial start tuning) names (s, asks, begins_so, tuned, are) = (λ k. record { names = are k; task = Serial (begins_so k) (tuned k) }) ∙ ap serial_of (only.only s asks)
    by Check names (asks, none) = absurd (clash (begins only.is) (begins asks) refl)
    by Main names (file, asks, are) = absurd (clash (begins only.is) (begins asks) refl)
    by (Graph start) names (input, asks, begins_so, are) = absurd (clash (begins only.is) (begins asks) refl)

  -- the words ask for this command, and for no other
  abbrev pub IsAsked : Command → Type 0
  IsAsked command = Asks words command × ((other : Command) → Asks words other → other ≡ command)

  pub check_asked : (files : List Text) → IsOnly (AsksCheck words) files → IsAsked (check_of files)
  check_asked files only = ((only.is, refl), one_check files only)

  pub main_asked : (file : Text) → IsOnly (AsksMain words) file → IsAsked (main_of file)
  main_asked file only = ((file, only.is, refl), one_main file only)

  pub graph_asked : (input : Input) → IsOnly (AsksGraph words) input → IsAsked (graph_of input)
  graph_asked input only = ((input, only.is, refl, refl), one_graph input only)

  pub serial_asked : (serial : SerialWords) → IsOnly (AsksSerial words) serial → IsAsked (serial_of serial)
  serial_asked serial only = ((serial, only.is, refl, refl, refl), one_serial serial only)

-- a program has so many lists
count_of_lists : (root : Root) (lists : Text) → length (lists_with root lists) ≡ list_place (start_of root) + 1
count_of_lists (roots.Entry sig) lists = refl
count_of_lists (roots.Components file) lists = refl

-- a number is in its range, and so is the default
in_range : (lowest highest default : ℕ) → lowest ≤ default → default ≤ highest → (given : Option Text) (n : ℕ) → IsNumber lowest highest default given n → (lowest ≤ n) × (n ≤ highest)
in_range lowest highest default low high None n is = (omega (arith, is, low), omega (arith, is, high))
in_range lowest highest default low high (Some text) n is = (is.1, is.2)

tuned_so : (given : Given) (tuning : Tuning) → IsTuning given tuning → IsTuned tuning
tuned_so given tuning is = record {
  k = in_range 1 8 5 (omega arith) (omega arith) (given.value (codes "k")) tuning.k is.k;
  period = in_range 1 1_000_000 256 (omega arith) (omega arith) (given.value (codes "period")) tuning.period is.period;
  max_edges = in_range 1 (2 ^ 64 - 2) (2 ^ 64 - 2) (omega arith) (omega arith) (given.value (codes "max-edges")) tuning.max_edges is.max_edges;
}

-- a report that words ask for fits
module _ (words : List Text) where
  pub serial_fits : (serial : SerialWords) → AsksSerial words serial → Fits (serial_of serial)
  serial_fits serial asks =
      let means = asks.means in
      let names = means.input in
      let are = names.are_files in
      let input = serial.input in
      record {
        some = omega (arith, length-append input.classes (lists_with input.root input.lists), are.some);
        classes = are.not_many;
        lists = count_of_lists input.root input.lists;
        tuned = tuned_so asks.given serial.tuning means.tuning;
      }
