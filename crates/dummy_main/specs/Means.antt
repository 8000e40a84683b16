-- What the generated class means (docs/LIFECYCLE.md, "What a body means").
use Rattle.std.specs.Prelude.{◌≡◌, ◌↔◌, List, [], ◌∷◌, Some}
use Rattle.jimple_tree.specs.declared.tree.Body.{Body}
use Rattle.jimple_tree.specs.declared.tree.Class.{Class}
use Rattle.jimple_tree.specs.declared.tree.Method.{Method}
use Rattle.dummy_main.specs.declared.component.Component.{Component}
use Rattle.dummy_main.specs.Lifecycle.{Letter, IsProgramRun}
use Rattle.dummy_main.specs.Paths.{Shows}

-- the paths of the body from its first statement show exactly the runs of the app
abbrev pub MeansTheRuns : List Component → Body → Type 0
MeansTheRuns components body = (letters : List Letter) → Shows body 0 letters ↔ IsProgramRun components letters

-- the class has one method, with such a body
pub record IsMainOf (components : List Component) (c : Class) : Type 0 where
  pub main : Method
  pub body : Body
  pub methods : c.methods ≡ main ∷ []
  pub bodied : main.body ≡ Some body
  pub runs : MeansTheRuns components body
