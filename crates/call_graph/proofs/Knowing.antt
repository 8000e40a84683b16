-- Signatures of which all is known, one more at a time.
use Rattle.std.proofs.Common.{◌≡◌, ◌⊎◌, ◌↔◌, ◌<◌, ◌+◌, ◌++◌, ◌∷◌, ℕ, List, [], IsTrue, Contains, Some, position, length, take, map, get_or, refl, sym, ◌∙◌, subst, inl, inr, arith, Result, Ok, Err, OnOk, OnErr}
use Rattle.std.specs.List.Sorted.{IsStrictlyIncreasing}
use Rattle.std.proofs.lemmas.List.{get_or-take, get_or_append_left, get_or_push, length-append, length-take-le}
use Rattle.std.proofs.lemmas.List.Quantifiers.{position-Some}
use Rattle.indexmap.specs.IndexSet.{insert_key}
use Rattle.clean_base.specs.Lists.{At}
use Rattle.clean_base.specs.declared.ids.MethodId.{MethodId}
use Rattle.jimple_tree.specs.Exact.{same_sig, sigs_decide}
use Rattle.jimple_tree.specs.declared.tree.Class.{Class}
use Rattle.jimple_tree.specs.declared.tree.Invoke.{Invoke}
use Rattle.jimple_tree.specs.declared.tree.InvokeKind.{InvokeKind}
use Rattle.jimple_tree.specs.declared.tree.InvokeKind.TheVariants as kinds
use Rattle.jimple_tree.specs.declared.tree.Sig.{Sig}
use Rattle.source_sink.specs.declared.line.Kind.{Kind}
use Rattle.source_sink.specs.declared.line.Line.{Line}
use Rattle.class_table.proofs.Once.{insert_new}
use Rattle.call_graph.specs.Calls.{IsKind, IsNeither, IsTargetOf}
use Rattle.call_graph.specs.Floods.{AreOpenTargets}
use Rattle.call_graph.specs.Known.{AreKnown, IsKnown, sigs_of}
use Rattle.call_graph.specs.declared.known.KnownSig.{KnownSig}

-- where a signature is found
pub found_at : (sigs : List Sig) (sig : Sig) (i : ℕ) → position (same_sig sig) sigs ≡ Some i → At sigs i sig
found_at sigs sig i is = let found = position-Some (same_sig sig) sigs i sig is in (found.0, sym ((sigs_decide sig (get_or sigs i sig)).0 found.1))

-- what holds of some classes and lines holds of the same ones
pub as_before : (P : List Class → List Line → Type 0) (cs ds : List Class) (ls ms : List Line) → cs ≡ ds → ls ≡ ms → P cs ls → P ds ms
as_before P cs ds ls ms classes lines holds = subst (λ (x : List Class). P x ms) classes (subst (λ (y : List Line). P cs y) lines holds)

early_or_last : (i n : ℕ) → i < n + 1 → (i < n) ⊎ (i ≡ n)
early_or_last i n h = grind arith

-- what holds of both kinds holds of the one that it is
of_either : (P : InvokeKind → Type 0) (a b kind : InvokeKind) → (kind ≡ a) ⊎ (kind ≡ b) → P a → P b → P kind
of_either P a b kind (inl same) one other = subst P (sym same) one
of_either P a b kind (inr same) one other = subst P (sym same) other

module _ (cs : List Class) (lines : List Line) where
  -- what the calls on the way give is all that is known
  pub known_is : (kind : InvokeKind) (sig : Sig) (said : Kind) (targets : List MethodId) → IsTrue said.source ↔ IsKind cs lines sig (λ (l : Line). l.source) → IsTrue said.sink ↔ IsKind cs lines sig (λ (l : Line). l.sink)
      → IsStrictlyIncreasing (map (λ (m : MethodId). m.0) targets) → ((n : MethodId) → Contains targets n ↔ (IsTargetOf cs kind sig n × IsNeither said)) → IsKnown cs lines kind sig (record { said = said; targets = targets })
  known_is kind sig said targets source sink ascending exact = record {
    source = source;
    sink = sink;
    ascending = ascending;
    targets = λ n. (
      (λ has. let both = (exact n).0 has in (both.0, record { no_source = λ s. both.1.no_source (source.1 s); no_sink = λ s. both.1.no_sink (sink.1 s) })),
      (λ both. (exact n).1 (both.0, record { no_source = λ s. both.1.no_source (source.0 s); no_sink = λ s. both.1.no_sink (sink.0 s) })),
    );
  }

  -- static calls come to what special ones come to, and those of interfaces to what virtual ones do
  known_static : (sig : Sig) (k : KnownSig) → IsKnown cs lines kinds.Special sig k → IsKnown cs lines kinds.Static sig k
  known_static sig k is = record { source = is.source; sink = is.sink; ascending = is.ascending; targets = is.targets }

  known_interface : (sig : Sig) (k : KnownSig) → IsKnown cs lines kinds.Virtual sig k → IsKnown cs lines kinds.Interface sig k
  known_interface sig k is = record { source = is.source; sink = is.sink; ascending = is.ascending; targets = is.targets }

  -- what stands at a place is known of the signature there, for each kind of calls that is looked up so
  module _ (own below : List Sig) (all : List KnownSig) (place : ℕ) (k : KnownSig) (is : get_or all place k ≡ k) where
    abbrev pub IsKnownAt : InvokeKind → Type 0
    IsKnownAt kind = (sig : Sig) → At (sigs_of kind (record { classes = cs; lines = lines; own = own; below = below })) place sig → IsKnown cs lines kind sig k

    here : (kind : InvokeKind) (sigs : List Sig) → AreKnown cs lines kind sigs all → (sig : Sig) → At sigs place sig → IsKnown cs lines kind sig k
    here kind sigs are sig at = are.each place sig k at (let long = are.long in let there = at.0 in omega (arith, long, there), is)

    pub own_at : (kind : InvokeKind) → (kind ≡ kinds.Static) ⊎ (kind ≡ kinds.Special) → AreKnown cs lines kinds.Special own all → IsKnownAt kind
    own_at kind of are = of_either IsKnownAt kinds.Static kinds.Special kind of (λ sig at. known_static sig k (here kinds.Special own are sig at)) (here kinds.Special own are)

    pub below_at : (kind : InvokeKind) → (kind ≡ kinds.Virtual) ⊎ (kind ≡ kinds.Interface) → AreKnown cs lines kinds.Virtual below all → IsKnownAt kind
    below_at kind of are = of_either IsKnownAt kinds.Virtual kinds.Interface kind of (here kinds.Virtual below are) (λ sig at. known_interface sig k (here kinds.Virtual below are sig at))

  -- an open call comes to what is known of it
  pub open_targets : (call : Invoke) (k : KnownSig) → IsKnown cs lines call.kind call.sig k → AreOpenTargets cs lines call k.targets
  open_targets call k is n = ((λ has. let both = (is.targets n).0 has in record { target = both.0; plain = both.1 }), (λ o. (is.targets n).1 (o.target, o.plain)))

  module _ (kind : InvokeKind) (sigs : List Sig) (all : List KnownSig) (sig : Sig) (k : KnownSig) (are : AreKnown cs lines kind sigs all) (is : IsKnown cs lines kind sig k) where
    abbrev pub front : List KnownSig
    front = take (length sigs) all

    front_long : length front ≡ length sigs
    front_long = length-take-le (length sigs) all are.long

    early : (i : ℕ) (s : Sig) (other : KnownSig) → At sigs i s → At (front ++ k ∷ []) i other → IsKnown cs lines kind s other
    early i s other at (below, same) =
        let less : i < length front = let long = front_long in let there = at.0 in omega (arith, long, there) in
        let in_all : i < length all = let long = are.long in let there = at.0 in omega (arith, long, there) in
        are.each i s other at (in_all, sym (get_or-take (length sigs) all i other at.0) ∙ sym (get_or_append_left front (k ∷ []) other i less) ∙ same)

    -- it is known, but its signature isn't there
    pub left_over : AreKnown cs lines kind sigs (front ++ k ∷ [])
    left_over = record {
      long = let a = length-append front (k ∷ []) in let b = front_long in omega (arith, a, b);
      each = early;
    }

    -- both are
    pub one_more : AreKnown cs lines kind (sigs ++ sig ∷ []) (front ++ k ∷ [])
    one_more = record {
      long = let a = length-append front (k ∷ []) in let b = front_long in let c = length-append sigs (sig ∷ []) in omega (arith, a, b, c);
      each = λ i s other at has. by i s other at has (early_or_last i (length sigs) (let c = length-append sigs (sig ∷ []) in let there = at.0 in omega (arith, c, there)));
    } where
      by : (i : ℕ) (s : Sig) (other : KnownSig) → At (sigs ++ sig ∷ []) i s → At (front ++ k ∷ []) i other → (i < length sigs) ⊎ (i ≡ length sigs) → IsKnown cs lines kind s other
      by i s other at has (inl less) = early i s other (less, sym (get_or_append_left sigs (sig ∷ []) s i less) ∙ at.1) has
      by i s other at has (inr last) =
          let s_is : sig ≡ s = sym (get_or_push sigs sig s i (sym last)) ∙ at.1 in
          let k_is : k ≡ other = sym (get_or_push front k other i (front_long ∙ sym last)) ∙ has.1 in
          subst (λ (t : Sig). IsKnown cs lines kind t other) s_is (subst (IsKnown cs lines kind sig) k_is is)

    -- whether there was memory for the signature or not
    pub kept_known : {A E : Type 0} (r : Result A E) (new : List Sig) → (Contains sigs sig → ⊥) → OnOk r (new ≡ insert_key same_sig sigs sig) → OnErr r (new ≡ sigs) → AreKnown cs lines kind new (front ++ k ∷ [])
    kept_known (Ok a) new lacks is_new same = subst (λ (ss : List Sig). AreKnown cs lines kind ss (front ++ k ∷ [])) (sym (is_new ∙ insert_new same_sig sigs_decide sigs sig lacks)) one_more
    kept_known (Err e) new lacks is_new same = subst (λ (ss : List Sig). AreKnown cs lines kind ss (front ++ k ∷ [])) (sym same) left_over

-- the last item
pub last_at : (sigs : List Sig) (sig : Sig) → At (sigs ++ sig ∷ []) (length sigs) sig
last_at sigs sig = (let c = length-append sigs (sig ∷ []) in omega (arith, c), get_or_push sigs sig sig (length sigs) refl)
