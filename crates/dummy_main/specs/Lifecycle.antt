-- The lifecycles of components (docs/LIFECYCLE.md): an automaton for each kind, its words, and the runs of an app. Nothing
-- here knows how a body is laid out.
use Rattle.std.specs.Prelude.{◌≡◌, ◌+◌, ℕ, List, [], ◌∷◌, map, codes, Contains, Option, Some}
use Rattle.std.specs.List.{AllByRecursion, flat_map}
use Rattle.clean_base.specs.Lists.{At}
use Rattle.clean_base.specs.declared.ids.LocalId.{LocalId}
use Rattle.jimple_tree.specs.declared.tree.JType.{JType}
use Rattle.jimple_tree.specs.declared.tree.Place.{Place}
use Rattle.jimple_tree.specs.declared.tree.Place.TheVariants as place
use Rattle.jimple_tree.specs.declared.tree.Sig.{Sig}
use Rattle.dummy_main.specs.declared.callback.Callback.{Callback}
use Rattle.dummy_main.specs.declared.callback.Callback.TheVariants.{Init, ActivityCreate, Start, Resume, Pause, Stop, Restart, ActivityDestroy, ServiceCreate, StartCommand, Bind, Unbind, Rebind, ServiceDestroy, Receive, ProviderCreate, Query, Insert, Update, Delete, GetType}
use Rattle.dummy_main.specs.declared.callback.TypeName.{TypeName}
use Rattle.dummy_main.specs.declared.callback.TypeName.TheVariants.{Void, Int, Boolean, Bundle, Context, Intent, Binder, Uri, Cursor, Values, Text, Texts}
use Rattle.dummy_main.specs.declared.component.Component.{Component}
use Rattle.dummy_main.specs.declared.component.ComponentKind.{ComponentKind}
use Rattle.dummy_main.specs.declared.component.ComponentKind.TheVariants.{Activity, Service, Receiver, Provider}

-- The methods that the system calls

abbrev pub type_of : TypeName → JType
type_of Void = record { base = codes "void"; dims = 0 }
type_of Int = record { base = codes "int"; dims = 0 }
type_of Boolean = record { base = codes "boolean"; dims = 0 }
type_of Bundle = record { base = codes "android.os.Bundle"; dims = 0 }
type_of Context = record { base = codes "android.content.Context"; dims = 0 }
type_of Intent = record { base = codes "android.content.Intent"; dims = 0 }
type_of Binder = record { base = codes "android.os.IBinder"; dims = 0 }
type_of Uri = record { base = codes "android.net.Uri"; dims = 0 }
type_of Cursor = record { base = codes "android.database.Cursor"; dims = 0 }
type_of Values = record { base = codes "android.content.ContentValues"; dims = 0 }
type_of Text = record { base = codes "java.lang.String"; dims = 0 }
type_of Texts = record { base = codes "java.lang.String"; dims = 1 }

-- a method without its class
pub record Heading : Type 0 where
  pub result : TypeName
  pub name : List ℕ
  pub params : List TypeName

abbrev pub method : TypeName → List ℕ → List TypeName → Heading
method result name params = record { result = result; name = name; params = params }

abbrev pub heading : Callback → Heading
heading Init = method Void (codes "<init>") []
heading ActivityCreate = method Void (codes "onCreate") (Bundle ∷ [])
heading Start = method Void (codes "onStart") []
heading Resume = method Void (codes "onResume") []
heading Pause = method Void (codes "onPause") []
heading Stop = method Void (codes "onStop") []
heading Restart = method Void (codes "onRestart") []
heading ActivityDestroy = method Void (codes "onDestroy") []
heading ServiceCreate = method Void (codes "onCreate") []
heading StartCommand = method Int (codes "onStartCommand") (Intent ∷ Int ∷ Int ∷ [])
heading Bind = method Binder (codes "onBind") (Intent ∷ [])
heading Unbind = method Boolean (codes "onUnbind") (Intent ∷ [])
heading Rebind = method Void (codes "onRebind") (Intent ∷ [])
heading ServiceDestroy = method Void (codes "onDestroy") []
heading Receive = method Void (codes "onReceive") (Context ∷ Intent ∷ [])
heading ProviderCreate = method Boolean (codes "onCreate") []
heading Query = method Cursor (codes "query") (Uri ∷ Texts ∷ Text ∷ Texts ∷ Text ∷ [])
heading Insert = method Uri (codes "insert") (Uri ∷ Values ∷ [])
heading Update = method Int (codes "update") (Uri ∷ Values ∷ Text ∷ Texts ∷ [])
heading Delete = method Int (codes "delete") (Uri ∷ Text ∷ Texts ∷ [])
heading GetType = method Text (codes "getType") (Uri ∷ [])

-- The automata

-- where a component stands in its life. A stage in -ing says which call is due
pub data Stage : Type 0 where
  Unmade : Stage
  Initing : Stage
  Ready : Stage
  Starting : Stage
  Resuming : Stage
  Pausing : Stage
  Stopping : Stage
  Restarting : Stage
  Destroying : Stage
  Running : Stage
  Over : Stage

-- what happens in a life
pub data Act : Type 0 where
  New : Act
  Call : Callback → Act

pub record Edge : Type 0 where
  pub from : Stage
  pub act : Act
  pub to : Stage

abbrev pub edge : Stage → Act → Stage → Edge
edge from act to = record { from = from; act = act; to = to }

-- each component is made, initialized, and then lives by its kind
abbrev pub birth : List Edge → List Edge
birth edges = edge Unmade New Initing ∷ edge Initing (Call Init) Ready ∷ edges

-- the edges of each kind's automaton
abbrev pub edges : ComponentKind → List Edge
edges Activity = birth (
    edge Ready (Call ActivityCreate) Starting
    ∷ edge Starting (Call Start) Resuming
    ∷ edge Resuming (Call Resume) Pausing
    ∷ edge Pausing (Call Pause) Resuming
    ∷ edge Pausing (Call Pause) Stopping
    ∷ edge Stopping (Call Stop) Destroying
    ∷ edge Stopping (Call Stop) Restarting
    ∷ edge Restarting (Call Restart) Starting
    ∷ edge Destroying (Call ActivityDestroy) Over
    ∷ []
    )
edges Service = birth (
    edge Ready (Call ServiceCreate) Running
    ∷ edge Running (Call StartCommand) Running
    ∷ edge Running (Call Bind) Running
    ∷ edge Running (Call Unbind) Running
    ∷ edge Running (Call Rebind) Running
    ∷ edge Running (Call ServiceDestroy) Over
    ∷ []
    )
edges Receiver = birth (edge Ready (Call Receive) Over ∷ [])
edges Provider = birth (
    edge Ready (Call ProviderCreate) Running
    ∷ edge Running (Call Query) Running
    ∷ edge Running (Call Insert) Running
    ∷ edge Running (Call Update) Running
    ∷ edge Running (Call Delete) Running
    ∷ edge Running (Call GetType) Running
    ∷ []
    )

-- where a life of the kind ends
abbrev pub end_of : ComponentKind → Stage
end_of Provider = Running
end_of _ = Over

-- the acts lead from the stage to an end
abbrev pub IsLife : ComponentKind → Stage → List Act → Type 0
IsLife kind stage [] = stage ≡ end_of kind
IsLife kind stage (act ∷ acts) = (next : Stage) × Contains (edges kind) (edge stage act next) × IsLife kind next acts

-- The runs of an app

-- what a run shows: an object is made, or a method is called
pub data Letter : Type 0 where
  Makes : Place → List ℕ → Letter
  Calls : Option LocalId → Sig → Letter

-- the component numbered j from 0 lives in the local j + 1
abbrev pub local_of : ℕ → LocalId
local_of j = record { 0 = j + 1 }

abbrev pub sig_with : List ℕ → Heading → Sig
sig_with class m = record { class = class; result = type_of m.result; name = m.name; params = map type_of m.params }

abbrev pub sig_in : List ℕ → Callback → Sig
sig_in class callback = sig_with class (heading callback)

abbrev pub letter : ℕ → List ℕ → Act → Letter
letter j class New = Makes (place.Local (local_of j)) class
letter j class (Call c) = Calls (Some (local_of j)) (sig_in class c)

-- one component's life
pub record ComponentRun : Type 0 where
  pub place : ℕ
  pub component : Component
  pub acts : List Act

abbrev pub IsComponentRun : List Component → ComponentRun → Type 0
IsComponentRun components run = At components run.place run.component × IsLife run.component.kind Unmade run.acts

abbrev pub letters_of : ComponentRun → List Letter
letters_of run = map (letter run.place run.component.name) run.acts

-- a run of the app is any number of lives, one after another, of any components in any order
abbrev pub IsProgramRun : List Component → List Letter → Type 0
IsProgramRun components letters = (runs : List ComponentRun) × AllByRecursion (IsComponentRun components) runs × (letters ≡ flat_map letters_of runs)
