-- Why a check stops, seen from the whole.
use Rattle.std.proofs.Common.{◌≡◌, Option, None, Some, Err, ◌∙◌, ap}
use Rattle.jimple_names.specs.declared.stop.NameFault.{NameFault}
use Rattle.jimple_names.specs.declared.stop.NameStop.{NameStop}
use Rattle.jimple_names.specs.declared.stop.NameStop.TheVariants as stops
use Rattle.jimple_names.specs.Faults.{◌or◌}
use Rattle.jimple_names.specs.Named.{Named}
use Rattle.jimple_names.specs.Walking.{Stopped}

-- a stop that the whole shares
pub stopped : (e : NameStop) (one total : Option NameFault) → ((f : NameFault) → one ≡ Some f → total ≡ Some f) → Stopped e one → Stopped e total
stopped stops.OutOfMemory one total f h = tt
stopped (stops.Fault e) one total f h = f e h

-- a stop of what is named
pub named_stopped : {X Y : Type 0} (view : X → Y) (e : NameStop) (tree : Y) (fault : Option NameFault) → Named view (Err e) tree fault → Stopped e fault
named_stopped view stops.OutOfMemory tree fault h = tt
named_stopped view (stops.Fault f) tree fault h = h

pub stopped_named : {X Y : Type 0} (view : X → Y) (e : NameStop) (tree : Y) (fault : Option NameFault) → Stopped e fault → Named view (Err e) tree fault
stopped_named view stops.OutOfMemory tree fault h = tt
stopped_named view (stops.Fault f) tree fault h = h

-- a stop at the first, the second or the third of three parts
module _ (a b r total : Option NameFault) (is : total ≡ (a or b or r)) where
  pub stop_first : (e : NameStop) → Stopped e a → Stopped e total
  stop_first e h = stopped e a total (λ f some. is ∙ ap (λ (o : Option NameFault). o or b or r) some) h

  module _ (none : a ≡ None) where
    behind : total ≡ (b or r)
    behind = is ∙ ap (λ (o : Option NameFault). o or b or r) none

    pub stop_second : (e : NameStop) → Stopped e b → Stopped e total
    stop_second e h = stopped e b total (λ f some. behind ∙ ap (λ (o : Option NameFault). o or r) some) h

    module _ (no : b ≡ None) where
      last : total ≡ r
      last = behind ∙ ap (λ (o : Option NameFault). o or r) no

      pub stop_third : (e : NameStop) → Stopped e r → Stopped e total
      stop_third e h = stopped e r total (λ f some. last ∙ some) h

      pub no_fault : r ≡ None → total ≡ None
      no_fault n = last ∙ n
