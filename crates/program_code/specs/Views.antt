-- What is said of a statement by its view alone.
use Rattle.std.specs.Prelude.{◌≡◌, true}
use Rattle.access_path.specs.declared.fact.Base.TheVariants.{Thrown}
use Rattle.access_path.specs.declared.view.View.{View}
use Rattle.access_path.specs.declared.view.View.TheVariants.{Copy, Call, Throw}

-- it takes the exception that is on its way
abbrev pub Takes : View → Type 0
Takes (Copy to from) = from ≡ Thrown
Takes _ = ⊥

-- an exception may leave it
abbrev pub Raises : View → Type 0
Raises (Throw value) = Unit {0}
Raises (Call call) = call.is_open ≡ true
Raises _ = ⊥
