-- Which argument a name, an id or a letter means, at a command with these options and files.
use Rattle.std.proofs.Common.{◌≡◌, ◌∙◌, ℕ, Bool, cond, true, false, ◌||◌, refl, ap, List, [], ◌∷◌, map, Some, None, codes, bytes_eq, true≢false}
use Rattle.std.specs.List.{list_any}
use lib.Pointwise.{bytes_decides}
use Rattle.clap.specs.Walk.{Text, Row, arg_by_long, arg_by_short, arg_by_id, has_row, without}
use Rattle.command_line.specs.Written.{rules_for, option_rule, file_rule}

pub or_false : (b : Bool) → (b || false) ≡ b
or_false true = refl
or_false false = refl

pub same_text : (m n : Text) → bytes_eq m n ≡ true → m ≡ n
same_text m n e = (bytes_decides m n).0 e

pub equal_text : (m n : Text) → m ≡ n → bytes_eq m n ≡ true
equal_text m n e = (bytes_decides m n).1 e

-- the name is one of an option, and not the id of the files
pub record IsOption (ns : List Text) (n : Text) : Type 0 where
  pub among : list_any (λ m. bytes_eq m n) ns ≡ true
  pub not_file : bytes_eq (codes "file") n ≡ false

options_by_long : (ns : List Text) (n : Text) → arg_by_long (map option_rule ns) n ≡ cond (list_any (λ m. bytes_eq m n) ns) (Some (option_rule n)) None
options_by_long [] n = refl
options_by_long (m ∷ ms) n = ap (λ b. cond b (Some (option_rule m)) (arg_by_long (map option_rule ms) n)) (or_false (bytes_eq m n)) ∙ go (bytes_eq m n) (λ e. same_text m n e) (options_by_long ms n)
  where
    go : (b : Bool) → (b ≡ true → m ≡ n) → arg_by_long (map option_rule ms) n ≡ cond (list_any (λ k. bytes_eq k n) ms) (Some (option_rule n)) None
        → cond b (Some (option_rule m)) (arg_by_long (map option_rule ms) n) ≡ cond (b || list_any (λ k. bytes_eq k n) ms) (Some (option_rule n)) None
    go true same rest = ap (λ (k : Text). Some (option_rule k)) (same refl)
    go false same rest = rest

options_by_id : (ns : List Text) (n : Text) → arg_by_id (map option_rule ns) n ≡ cond (list_any (λ m. bytes_eq m n) ns) (Some (option_rule n)) None
options_by_id [] n = refl
options_by_id (m ∷ ms) n = go (bytes_eq m n) (λ e. same_text m n e) (options_by_id ms n)
  where
    go : (b : Bool) → (b ≡ true → m ≡ n) → arg_by_id (map option_rule ms) n ≡ cond (list_any (λ k. bytes_eq k n) ms) (Some (option_rule n)) None
        → cond b (Some (option_rule m)) (arg_by_id (map option_rule ms) n) ≡ cond (b || list_any (λ k. bytes_eq k n) ms) (Some (option_rule n)) None
    go true same rest = ap (λ (k : Text). Some (option_rule k)) (same refl)
    go false same rest = rest

pub long_found : (ns : List Text) (n : Text) → IsOption ns n → arg_by_long (rules_for ns) n ≡ Some (option_rule n)
long_found ns n o = options_by_long ns n ∙ ap (λ b. cond b (Some (option_rule n)) None) o.among

pub long_unknown : (ns : List Text) (n : Text) → list_any (λ m. bytes_eq m n) ns ≡ false → arg_by_long (rules_for ns) n ≡ None
long_unknown ns n not_there = options_by_long ns n ∙ ap (λ b. cond b (Some (option_rule n)) None) not_there

pub id_found : (ns : List Text) (n : Text) → IsOption ns n → arg_by_id (rules_for ns) n ≡ Some (option_rule n)
id_found ns n o =
    ap (λ b. cond b (Some file_rule) (arg_by_id (map option_rule ns) n)) o.not_file
    ∙ options_by_id ns n ∙ ap (λ b. cond b (Some (option_rule n)) None) o.among

pub no_short : (ns : List Text) (x : ℕ) → arg_by_short (rules_for ns) x ≡ None
no_short [] x = refl
no_short (n ∷ ns) x = no_short ns x

pub without_none : (n : Text) (r : List Row) → has_row n r ≡ false → without n r ≡ r
without_none n [] e = refl
without_none n (x ∷ xs) e = go (bytes_eq x.id n) e (without_none n xs)
  where
    go : (b : Bool) → (b || has_row n xs) ≡ false → (has_row n xs ≡ false → without n xs ≡ xs) → cond b xs (x ∷ without n xs) ≡ x ∷ xs
    go true bad next = absurd (true≢false bad)
    go false none next = ap (λ (ys : List Row). x ∷ ys) (next none)
