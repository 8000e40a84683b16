-- Each run of the app is shown by a path of a laid out body.
use Rattle.std.proofs.Common.{◌≡◌, ◌+◌, ◌<◌, ◌≤◌, ℕ, zero, suc, Option, Some, None, List, [], ◌∷◌, ◌++◌, Contains, length, map, refl, sym, ap, ◌∙◌, subst, inl, inr, arith, append_assoc}
use Rattle.std.specs.Prelude.{slice_get, slice_index_or}
use Rattle.std.specs.List.{flat_map, AllByRecursion}
use Rattle.jimple_tree.specs.declared.tree.Body.{Body}
use Rattle.jimple_tree.specs.declared.tree.Stmt.TheVariants.{Return}
use Rattle.dummy_main.specs.declared.component.Component.{Component}
use Rattle.dummy_main.specs.declared.component.ComponentKind.{ComponentKind}
use Rattle.dummy_main.specs.Lifecycle.{Act, Letter, letter, Stage, Unmade, edge, edges, IsLife, end_of, ComponentRun, IsComponentRun, letters_of, IsProgramRun}
use Rattle.dummy_main.specs.Means.{MeansTheRuns}
use Rattle.dummy_main.specs.Paths.{shown, shown_by, Shows}
use Rattle.dummy_main.specs.declared.line.Line.{Line}
use Rattle.dummy_main.specs.declared.line.Line.TheVariants.{Leaves}
use Rattle.dummy_main.specs.Layout.{lines, stmt_of, chooses, first}
use Rattle.dummy_main.proofs.Places.{Nth, from_at, to_at, nth_below, nth_within}
use Rattle.dummy_main.proofs.Plans.{act_of, act_at, listed, LeadsAt, IsWay, acts_along, Taken, Ended, home, IsPlanned}
use Rattle.dummy_main.proofs.Laid.{IsBlockAt, IsLaid, before, is_one, shows_act, leads_line}
use Rattle.dummy_main.proofs.Sound.{map_append, sound}

-- an item of a list has what all its items have
pub all_at : {X : Type 0} (P : X → Type 0) (xs : List X) (x : X) → AllByRecursion P xs → Contains xs x → P x
all_at P [] x all h = absurd (let l = h.1 in omega (arith, l))
all_at P (y ∷ xs) x all h = at (λ later. all_at P xs x all.1 later) h.0 h.1 h.2 where
  at : (Contains xs x → P x) → (k : ℕ) → k < length (y ∷ xs) → slice_index_or (y ∷ xs) k x ≡ x → P x
  at later zero l e = subst P e all.0
  at later (suc k) l e = later (k, omega (arith, l), e)

module _ (b : Body) (cs : List Component) (laid : IsLaid b cs) (planned : (kind : ComponentKind) → IsPlanned kind) where
  -- a way in a block, before a path from where it ends
  along : (j : ℕ) (c : Component) (p : ℕ) → IsBlockAt b j c p → (ks : List ℕ) (i last : ℕ) (v : List Letter) → IsWay c.kind i ks last → Shows b (p + last) v
      → Shows b (p + i) (map (letter j c.name) (acts_along c.kind i ks) ++ v)
  along j c p block [] i last v way shows = subst (λ k. Shows b (p + k) v) (sym way) shows
  along j c p block (k ∷ ks) i last v way shows = by (along j c p block ks k last v way.1 shows) (slice_get (lines c.kind) i) refl way.0 where
    by : Shows b (p + k) (map (letter j c.name) (acts_along c.kind k ks) ++ v) → (line : Option Line) → slice_get (lines c.kind) i ≡ line → LeadsAt line i k
        → Shows b (p + i) (map (letter j c.name) (acts_along c.kind i (k ∷ ks)) ++ v)
    by rest None e leads = absurd leads
    by rest (Some line) e leads = subst (Shows b (p + i)) same (before b (p + i) (p + k) (stmt_of j c.name p line) (map (letter j c.name) (acts_along c.kind k ks) ++ v) laid.catches (block.stands i line e) (leads_line j c.name p i k line leads) rest) where
      same : shown (stmt_of j c.name p line) ++ (map (letter j c.name) (acts_along c.kind k ks) ++ v) ≡ map (letter j c.name) (acts_along c.kind i (k ∷ ks)) ++ v
      same = ap (λ ls. ls ++ (map (letter j c.name) (acts_along c.kind k ks) ++ v)) (shows_act j c.name p line)
          ∙ sym (append_assoc (map (letter j c.name) (listed (act_of line))) (map (letter j c.name) (acts_along c.kind k ks)) v)
          ∙ ap (λ ls. ls ++ v) (sym (map_append (letter j c.name) (listed (act_of line)) (acts_along c.kind k ks)))
          ∙ ap (λ o. map (letter j c.name) (act_at o ++ acts_along c.kind k ks) ++ v) (sym e)

  -- the rest of a life, before a path from the first choice
  lives : (j : ℕ) (c : Component) (p : ℕ) → IsBlockAt b j c p → (acts : List Act) (q : Stage) (v : List Letter) → IsLife c.kind q acts → Shows b 1 v
      → Shows b (p + home c.kind q) (map (letter j c.name) acts ++ v)
  lives j c p block [] q v life shows = subst (λ r. Shows b (p + home c.kind r) v) (sym life) (subst (λ done. Shows b (p + home c.kind (end_of c.kind)) (map (letter j c.name) done ++ v)) ended.4
      (along j c p block ended.0 (home c.kind (end_of c.kind)) ended.1 v ended.2 (before b (p + ended.1) 1 (stmt_of j c.name p Leaves) v laid.catches (block.stands ended.1 Leaves ended.3) (inr (is_one 1 1 refl)) shows))) where
        ended : Ended c.kind (end_of c.kind)
        ended = (planned c.kind).ended
  lives j c p block (a ∷ acts) q v life shows = subst (Shows b (p + home c.kind q)) same (along j c p block taken.0 (home c.kind q) (home c.kind life.0) (map (letter j c.name) acts ++ v) taken.1 (lives j c p block acts life.0 v life.2 shows)) where
    taken : Taken c.kind (edge q a life.0)
    taken = all_at (Taken c.kind) (edges c.kind) (edge q a life.0) (planned c.kind).taken life.1

    same : map (letter j c.name) (acts_along c.kind (home c.kind q) taken.0) ++ (map (letter j c.name) acts ++ v) ≡ map (letter j c.name) (a ∷ acts) ++ v
    same = ap (λ done. map (letter j c.name) done ++ (map (letter j c.name) acts ++ v)) taken.2

  -- past choices that aren't taken
  past : (n : ℕ) (v : List Letter) → n ≤ length cs → Shows b (n + 1) v → Shows b 1 v
  past zero v l shows = shows
  past (suc n) v l shows = past n v (omega (arith, l)) (before b (n + 1) (suc n + 1) (chooses choice.0) v laid.catches choice.1 (inl (tt, omega arith)) shows) where
    found : (c : Component) × Nth cs n c
    found = nth_below cs n (omega (arith, l))

    choice : (p : ℕ) × Nth b.stmts (n + 1) (chooses p) × IsBlockAt b n found.0 p
    choice = laid.choice n found.0 found.1

  more : (r : ComponentRun) (rs : List ComponentRun) → IsComponentRun cs r → Shows b 1 (flat_map letters_of rs) → Shows b 1 (flat_map letters_of (r ∷ rs))
  more r rs is shows = past r.place (letters_of r ++ flat_map letters_of rs) (let l : r.place < length cs = nth_within cs r.place r.component at in omega (arith, l))
      (before b (r.place + 1) choice.0 (chooses choice.0) (letters_of r ++ flat_map letters_of rs) laid.catches choice.1 (inr (is_one choice.0 choice.0 refl)) begun) where
        at : Nth cs r.place r.component
        at = from_at cs r.place r.component is.0

        choice : (p : ℕ) × Nth b.stmts (r.place + 1) (chooses p) × IsBlockAt b r.place r.component p
        choice = laid.choice r.place r.component at

        begun : Shows b choice.0 (letters_of r ++ flat_map letters_of rs)
        begun = subst (λ s. Shows b s (letters_of r ++ flat_map letters_of rs)) (let e = (planned r.component.kind).home_unmade in let f : choice.0 + home r.component.kind Unmade ≡ choice.0 = omega (arith, e) in f)
            (lives r.place r.component choice.0 choice.2 r.acts Unmade (flat_map letters_of rs) is.1 shows)

  runs : (rs : List ComponentRun) → AllByRecursion (IsComponentRun cs) rs → Shows b 1 (flat_map letters_of rs)
  runs [] all = past (length cs) [] (omega arith) ([], (None, to_at b.stmts (length cs + 1) (Return None) laid.last), sym (ap shown_by laid.last))
  runs (r ∷ rs) all = more r rs all.0 (runs rs all.1)

  complete : (letters : List Letter) → IsProgramRun cs letters → Shows b 0 letters
  complete letters h = subst (Shows b 0) (sym h.2) (before b 0 1 first (flat_map letters_of h.0) laid.catches laid.start (inl (tt, omega arith)) (runs h.0 h.1))

  pub means : MeansTheRuns cs b
  means letters = (sound b cs laid planned letters, complete letters)
