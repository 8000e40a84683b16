-- Steps of the loop that makes the body.
use Rattle.std.proofs.Common.{◌≡◌, ◌+◌, ◌≤◌, ℕ, List, [], ◌∷◌, ◌++◌, length, refl, sym, ap, ◌∙◌, arith, append_assoc}
use Rattle.std.proofs.lemmas.List.{length-append}
use Rattle.jimple_tree.specs.declared.tree.Stmt.{Stmt}
use Rattle.jimple_tree.specs.declared.tree.Stmt.TheVariants.{Return}
use Rattle.std.specs.Prelude.{None}
use Rattle.dummy_main.specs.declared.component.Component.{Component}
use Rattle.dummy_main.specs.declared.component.ComponentKind.{ComponentKind}
use Rattle.dummy_main.specs.declared.component.ComponentKind.TheVariants.{Activity, Service, Receiver, Provider}
use Rattle.dummy_main.specs.Layout.{size, block, blocks, choices, first, statements, body_of, main_of, class_of}
use Rattle.dummy_main.specs.Means.{IsMainOf}
use Rattle.dummy_main.proofs.Body.{long_block, long_choices, body_means}

pub small_size : (kind : ComponentKind) → size kind ≤ 20
small_size Activity = omega arith
small_size Service = omega arith
small_size Receiver = omega arith
small_size Provider = omega arith

pub longer : (old new : List Stmt) (k : ℕ) (c : Component) → new ≡ old ++ block k (length old) c → length new ≡ length old + size c.kind
longer old new k c e = ap length e ∙ length-append old (block k (length old) c) ∙ ap (λ n. length old + n) (long_block k (length old) c)

pub block_more : (old new all : List Stmt) (k : ℕ) (c : Component) (cs rest : List Component) → cs ≡ c ∷ rest → new ≡ old ++ block k (length old) c → old ++ blocks k (length old) cs ≡ all
    → new ++ blocks (k + 1) (length new) rest ≡ all
block_more old new all k c cs rest split e done =
    ap (λ n. new ++ blocks (k + 1) n rest) (longer old new k c e)
    ∙ ap (λ (xs : List Stmt). xs ++ blocks (k + 1) (length old + size c.kind) rest) e
    ∙ append_assoc old (block k (length old) c) (blocks (k + 1) (length old + size c.kind) rest)
    ∙ ap (λ xs. old ++ blocks k (length old) xs) (sym split)
    ∙ done

-- the four parts of the body, as they are pushed
pub all_pushed : (cs : List Component) (start : ℕ) (a b c d : List Stmt) → start ≡ length cs + 2 → a ≡ first ∷ [] → b ≡ a ++ choices start cs → c ≡ b ++ Return None ∷ [] → (length c ≡ length cs + 2) × (d ≡ c ++ blocks 0 (length c) cs → d ≡ statements cs)
all_pushed cs start a b c d s ea eb ec = (
  long,
  λ ed. ed ∙ ap (λ n. c ++ blocks 0 n cs) long ∙ ap (λ (xs : List Stmt). xs ++ blocks 0 (length cs + 2) cs) whole
      ∙ append_assoc (first ∷ choices (length cs + 2) cs) (Return None ∷ []) (blocks 0 (length cs + 2) cs),
) where
  whole : c ≡ (first ∷ choices (length cs + 2) cs) ++ Return None ∷ []
  whole = ec ∙ ap (λ (xs : List Stmt). xs ++ Return None ∷ []) (eb ∙ ap (λ (xs : List Stmt). xs ++ choices start cs) ea ∙ ap (λ n. first ∷ choices n cs) s)

  long : length c ≡ length cs + 2
  long = ap length whole ∙ length-append (first ∷ choices (length cs + 2) cs) (Return None ∷ []) ∙ (let e = long_choices (length cs + 2) cs in omega (arith, e))

pub class_means : (cs : List Component) → IsMainOf cs (class_of cs)
class_means cs = record { main = main_of cs; body = body_of cs; methods = refl; bodied = refl; runs = body_means cs }
