-- What is reached in the graph of calls is what calls lead to.
use Rattle.std.specs.Prelude.{◌↔◌, ◌<◌, ℕ, List, length, IsTrue}
use Rattle.clean_base.specs.declared.ids.MethodId.{MethodId}
use Rattle.flow_rules.specs.Code.{Code, Leads}
use Rattle.reach_rows.specs.Closure.{Closure, IsClosure, has}
use Rattle.reach_rows.specs.Graphs.{Steps}
use Rattle.reach_rows.specs.Reaches.{Reaches, here, on}
use Rattle.program_code.specs.Parts.{IsCallGraph}

module _ (code : Code) (rows : List (List ℕ)) (graph : IsCallGraph code rows) where
  abbrev number : ℕ → MethodId
  number a = record { 0 = a }

  leads : (a b : ℕ) → Reaches (Steps rows) a b → Leads code (number a) (number b)
  leads a b here = here
  leads a b (on {b = c} step rest) = on ((graph.each (number a) (number c)).0 step) (leads c b rest)

  reached : (m n : MethodId) → Leads code m n → Reaches (Steps rows) m.0 n.0
  reached m n here = here
  reached m n (on {b = o} calls rest) = on ((graph.each m o).1 calls) (reached o n rest)

  pub closure_leads : (closure : Closure) → IsClosure rows closure → (m n : MethodId) → m.0 < length code.firsts → n.0 < length code.firsts → IsTrue (has closure m.0 n.0) ↔ Leads code m n
  closure_leads closure is m n from to =
      let tells = is.has m.0 n.0 (rw graph.count from) (rw graph.count to) in
      ((λ has. leads m.0 n.0 (tells.0 has)), (λ is_led. tells.1 (reached m n is_led)))
