-- What the numbers of a sound state tell: no more commits than the limit; and that live contexts are each there once.
use Rattle.std.specs.Prelude.{◌≡◌, ◌≢◌, ◌<◌, ◌≤◌, ℕ, List, length, map, slice_index_or, AllPairs}
use Rattle.std.proofs.Common.{arith, sym, ◌∙◌, ap, inl, inr}
use Rattle.std.proofs.lemmas.List.{length-map, get_or-map}
use Rattle.ifds_model.specs.declared.node.Context.{Context}
use Rattle.ifds_model.specs.declared.node.Frame.{Frame}
use Rattle.ifds_model.specs.Machine.{Machine}
use Rattle.ifds_model.specs.Count.{no_more_than}
use Rattle.ifds_model.specs.State.{View, Known, IsDistinct}
use Rattle.ifds_model.specs.Sound.{IsSound, IsFound, IsDone}
use Rattle.solver_core.specs.Numbers.{live_of}

module _ {F M : Type 0} (P : Machine F M) (s : View F M) (sound : IsSound P s) where
  done_found : (a : Frame F) → IsDone P s a → IsFound P s a
  done_found a (inl done) = inl done.0
  done_found a (inr gone) = inr gone

  pub commits_within : s.commits ≤ s.max_edges
  commits_within =
      let done = sound.counts.commits in
      let found = sound.counts.found in
      let fewer = no_more_than done.0 found.0 done.1.distinct (λ a has. found.1.whole a (done_found a (done.1.sound a has))) in
      omega (arith, fewer, done.2, found.2, sound.counts.within)

-- live contexts, each once
pub live_once : {F : Type 0} (cs : List (Context F)) → IsDistinct cs → AllPairs (λ a b. a.context ≢ b.context) (map live_of cs)
live_once {F} cs distinct = λ i j d below within same.
    let inside : j < length cs = omega (arith, length-map cs live_of, within) in
    let at : (n : ℕ) → n < length cs → (slice_index_or (map live_of cs) n d).context ≡ slice_index_or cs n d.context = λ n here. ap (λ (k : Known F). k.context) (get_or-map live_of cs n d.context d here) in
    distinct i j d.context below inside (sym (at i (omega (arith, below, inside))) ∙ same ∙ at j inside)
