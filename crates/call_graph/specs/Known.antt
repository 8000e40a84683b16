-- What is known of calls by their signatures (docs/FLOW-RULES.md, "Calls").
use Rattle.std.specs.Prelude.{◌≤◌, ◌↔◌, IsTrue, ℕ, List, Contains, length, map}
use Rattle.std.specs.List.Sorted.{IsStrictlyIncreasing}
use Rattle.clean_base.specs.Lists.{At}
use Rattle.clean_base.specs.declared.ids.MethodId.{MethodId}
use Rattle.jimple_tree.specs.declared.tree.Class.{Class}
use Rattle.jimple_tree.specs.declared.tree.InvokeKind.{InvokeKind}
use Rattle.jimple_tree.specs.declared.tree.InvokeKind.TheVariants as kinds
use Rattle.jimple_tree.specs.declared.tree.Sig.{Sig}
use Rattle.source_sink.specs.declared.line.Line.{Line}
use Rattle.call_graph.specs.Calls.{IsKind, IsPlain, IsTargetOf}
use Rattle.call_graph.specs.declared.known.KnownSig.{KnownSig}

-- where calls are looked up, and the signatures of which all is known: for calls of the written class, and for those below it
pub record Known : Type 0 where
  pub classes : List Class
  pub lines : List Line
  pub own : List Sig
  pub below : List Sig

-- the signatures that are known for calls of a kind
abbrev pub sigs_of : InvokeKind → Known → List Sig
sigs_of kinds.Static known = known.own
sigs_of kinds.Special known = known.own
sigs_of kinds.Virtual known = known.below
sigs_of kinds.Interface known = known.below

-- what the lists say of the signature, and the methods that an open call of the kind may come to
pub record IsKnown (cs : List Class) (lines : List Line) (kind : InvokeKind) (sig : Sig) (known : KnownSig) : Type 0 where
  pub source : IsTrue known.said.source ↔ IsKind cs lines sig (λ (l : Line). l.source)
  pub sink : IsTrue known.said.sink ↔ IsKind cs lines sig (λ (l : Line). l.sink)
  pub ascending : IsStrictlyIncreasing (map (λ (m : MethodId). m.0) known.targets)
  pub targets : (n : MethodId) → Contains known.targets n ↔ (IsTargetOf cs kind sig n × IsPlain cs lines sig)

-- so it is of each of these signatures
pub record AreKnown (cs : List Class) (lines : List Line) (kind : InvokeKind) (sigs : List Sig) (known : List KnownSig) : Type 0 where
  pub long : length sigs ≤ length known
  pub each : (i : ℕ) (sig : Sig) (k : KnownSig) → At sigs i sig → At known i k → IsKnown cs lines kind sig k
