-- Each path of a laid out body shows a run of the app.
use Rattle.std.proofs.Common.{◌≡◌, ◌+◌, ◌<◌, ◌≤◌, ℕ, zero, suc, Option, Some, None, List, [], ◌∷◌, ◌++◌, length, map, refl, sym, ap, ◌∙◌, subst, inl, inr, arith, append_assoc}
use Rattle.std.specs.Prelude.{slice_get}
use Rattle.jimple_tree.specs.declared.tree.Body.{Body}
use Rattle.jimple_tree.specs.declared.tree.Stmt.TheVariants.{Return}
use Rattle.dummy_main.specs.declared.component.Component.{Component}
use Rattle.dummy_main.specs.declared.component.ComponentKind.{ComponentKind}
use Rattle.dummy_main.specs.Lifecycle.{Act, Letter, letter, Stage, Unmade, IsLife, end_of, ComponentRun, IsProgramRun}
use Rattle.dummy_main.specs.Paths.{IsPath, shown_by, shown_along, Shows}
use Rattle.dummy_main.specs.declared.line.Line.{Line}
use Rattle.dummy_main.specs.declared.line.Line.TheVariants.{Makes, Inits, Calls, Chooses, Jumps, Leaves}
use Rattle.dummy_main.specs.Layout.{lines, stmt_of, chooses, first}
use Rattle.dummy_main.proofs.Places.{Nth, from_at, to_at, one_nth, nth_below, nth_within, below_or_at}
use Rattle.dummy_main.proofs.Plans.{act_of, listed, Leads, stages_at, Has, Comes, AllCome, Next, Fits, AllFit, IsPlanned}
use Rattle.dummy_main.proofs.Laid.{IsBlockAt, IsLaid, Steps, left, contains_none, contains_one, shows_act, line_leads, never_returns}

pub fits_at : (kind : ComponentKind) (ls : List Line) (i n m : ℕ) (line : Line) → m ≡ i + n → AllFit kind i ls → Nth ls n line → Fits kind m line
fits_at kind [] i n m line e fits h = absurd (let f : None ≡ Some line = h in cc)
fits_at kind (l ∷ ls) i zero m line e fits h =
    let same : l ≡ line = let f : Some l ≡ Some line = h in cc in
    subst (λ (k : ℕ). Fits kind k line) (let f : i ≡ m = omega (arith, e) in f) (subst (Fits kind i) same fits.0)
fits_at kind (l ∷ ls) i (suc n) m line e fits h = fits_at kind ls (i + 1) n m line (omega (arith, e)) fits.1 h

pub next_at : (kind : ComponentKind) (i k : ℕ) (line : Line) → Fits kind i line → Leads line i k → Next kind i line k
next_at kind i k Makes fits e = subst (Next kind i Makes) (sym e) fits
next_at kind i k Inits fits e = subst (Next kind i Inits) (sym e) fits
next_at kind i k (Calls c) fits e = subst (Next kind i (Calls c)) (sym e) fits
next_at kind i k (Chooses t) fits (inl e) = subst (Next kind i (Chooses t)) (sym e) fits.0
next_at kind i k (Chooses t) fits (inr e) = subst (Next kind i (Chooses t)) (sym e) fits.1
next_at kind i k (Jumps t) fits e = subst (Next kind i (Jumps t)) (sym e) fits
next_at kind i k Leaves fits e = absurd e

pub comes_of : (kind : ComponentKind) (qs : List Stage) (act : Option Act) (rs : List Stage) (r : Stage) → AllCome kind qs act rs → Has rs r → Comes kind qs act r
comes_of kind qs act [] r all h = absurd h
comes_of kind qs act (x ∷ rs) r all (inl e) = subst (Comes kind qs act) e all.0
comes_of kind qs act (x ∷ rs) r all (inr h) = comes_of kind qs act rs r all.1 h

pub back_up : (kind : ComponentKind) (qs : List Stage) (act : Option Act) (r : Stage) (acts : List Act) → Comes kind qs act r → IsLife kind r acts
    → (q : Stage) × Has qs q × IsLife kind q (listed act ++ acts)
back_up kind qs None r acts comes life = (r, comes, life)
back_up kind qs (Some act) r acts comes life = (comes.0, comes.1, (r, comes.2, life))

pub map_append : (f : Act → Letter) (xs ys : List Act) → map f (xs ++ ys) ≡ map f xs ++ map f ys
map_append f [] ys = refl
map_append f (x ∷ xs) ys = ap (λ zs. f x ∷ zs) (map_append f xs ys)

-- what a path shows from inside a block: the end of a life from one of these stages, and a run of the app
pub record Lives (b : Body) (cs : List Component) (j : ℕ) (c : Component) (s i : ℕ) (places : List ℕ) : Type 0 where
  pub stage : Stage
  pub acts : List Act
  pub rest : List Letter
  pub stands : Has (stages_at c.kind i) stage
  pub life : IsLife c.kind stage acts
  pub run : IsProgramRun cs rest
  pub shows : shown_along b s places ≡ map (letter j c.name) acts ++ rest

module _ (b : Body) (cs : List Component) (laid : IsLaid b cs) (planned : (kind : ComponentKind) → IsPlanned kind) where
  abbrev Inside : List ℕ → Type 0
  Inside places = (j : ℕ) (c : Component) (p i : ℕ) (line : Line) → Nth cs j c → IsBlockAt b j c p → Nth (lines c.kind) i line → IsPath b (p + i) places → Lives b cs j c (p + i) i places

  abbrev Choosing : List ℕ → Type 0
  Choosing places = (s : ℕ) → s ≤ length cs + 1 → IsPath b s places → IsProgramRun cs (shown_along b s places)

  -- a life from its beginning and a run are a run
  more_run : (j : ℕ) (c : Component) (s : ℕ) (places : List ℕ) → Nth cs j c → Lives b cs j c s 0 places → IsProgramRun cs (shown_along b s places)
  more_run j c s places at lives = (run ∷ lives.run.0, ((to_at cs j c at, life), lives.run.1), lives.shows ∙ ap (λ ls. map (letter j c.name) lives.acts ++ ls) lives.run.2) where
    run : ComponentRun
    run = record { place = j; component = c; acts = lives.acts }

    only : Has (Unmade ∷ []) lives.stage → Unmade ≡ lives.stage
    only (inl e) = e
    only (inr h) = absurd h

    life : IsLife c.kind Unmade lives.acts
    life = subst (λ q. IsLife c.kind q lives.acts) (sym (only (subst (λ qs. Has qs lives.stage) (planned c.kind).unmade lives.stands))) lives.life

  inside_more : (t : ℕ) (places : List ℕ) → Inside places → Choosing places → Inside (t ∷ places)
  inside_more t places inside choosing j c p i line at block here path = elim (line_leads j c.name p i t line steps) [ inl h ↦ on h.0 h.1 h.2 | inr h ↦ out h.0 h.1 ] where
    stands : Nth b.stmts (p + i) (stmt_of j c.name p line)
    stands = block.stands i line here

    steps : Steps (stmt_of j c.name p line) (p + i) t
    steps = left b (p + i) t (stmt_of j c.name p line) laid.catches stands path.0

    fits : Fits c.kind i line
    fits = fits_at c.kind (lines c.kind) 0 i i line (omega arith) (planned c.kind).fits here

    head : shown_by (slice_get b.stmts (p + i)) ≡ map (letter j c.name) (listed (act_of line))
    head = ap shown_by stands ∙ shows_act j c.name p line

    on : (k : ℕ) → Leads line i k → t ≡ p + k → Lives b cs j c (p + i) i (t ∷ places)
    on k leads e = record {
      stage = up.0;
      acts = listed (act_of line) ++ then.acts;
      rest = then.rest;
      stands = up.1;
      life = up.2;
      run = then.run;
      shows = ap (λ ls. ls ++ shown_along b t places) head
          ∙ ap (λ ls. map (letter j c.name) (listed (act_of line)) ++ ls) (ap (λ s. shown_along b s places) e ∙ then.shows)
          ∙ sym (append_assoc (map (letter j c.name) (listed (act_of line))) (map (letter j c.name) then.acts) then.rest)
          ∙ ap (λ ls. ls ++ then.rest) (sym (map_append (letter j c.name) (listed (act_of line)) then.acts));
    } where
      next : Next c.kind i line k
      next = next_at c.kind i k line fits leads

      then : Lives b cs j c (p + k) k places
      then = inside j c p k next.1.0 at block next.1.1 (subst (λ s. IsPath b s places) e path.1)

      up : (q : Stage) × Has (stages_at c.kind i) q × IsLife c.kind q (listed (act_of line) ++ then.acts)
      up = back_up c.kind (stages_at c.kind i) (act_of line) then.stage then.acts (comes_of c.kind (stages_at c.kind i) (act_of line) (stages_at c.kind k) then.stage next.0 then.stands) then.life

    out : line ≡ Leaves → t ≡ 1 → Lives b cs j c (p + i) i (t ∷ places)
    out e f = record {
      stage = end.0;
      acts = [];
      rest = shown_along b t places;
      stands = end.1;
      life = end.2;
      run = subst (λ s. IsProgramRun cs (shown_along b s places)) (sym f) (choosing 1 (omega arith) (subst (λ s. IsPath b s places) f path.1));
      shows = ap (λ ls. ls ++ shown_along b t places) (head ∙ ap (λ l. map (letter j c.name) (listed (act_of l))) e);
    } where
      end : (q : Stage) × Has (stages_at c.kind i) q × (q ≡ end_of c.kind)
      end = subst (Fits c.kind i) e fits

  choosing_more : (t : ℕ) (places : List ℕ) → Inside places → Choosing places → Choosing (t ∷ places)
  choosing_more t places inside choosing zero l path = elim (left b 0 t first laid.catches laid.start path.0) [
    | inl h ↦ subst (IsProgramRun cs) (sym same) (choosing t (let e = h.1 in omega (arith, e)) path.1)
    | inr h ↦ absurd (contains_none t h)
  ] where
    same : shown_along b 0 (t ∷ places) ≡ shown_along b t places
    same = ap (λ o. shown_by o ++ shown_along b t places) laid.start
  choosing_more t places inside choosing (suc m) l path = elim (below_or_at m (length cs) (omega (arith, l))) [
    | inl below ↦ let found = nth_below cs m below in one found.0 found.1
    | inr e ↦ absurd (ended e)
  ] where
    ended : m ≡ length cs → ⊥
    ended e = elim (left b (suc m) t (Return None) laid.catches (subst (λ s. Nth b.stmts s (Return None)) (let f : length cs + 1 ≡ suc m = omega (arith, e) in f) laid.last) path.0) [
      | inl h ↦ h.0
      | inr h ↦ contains_none t h
    ]

    one : (c : Component) → Nth cs m c → IsProgramRun cs (shown_along b (suc m) (t ∷ places))
    one c at = subst (IsProgramRun cs) (sym same) (elim (left b (suc m) t (chooses choice.0) laid.catches here path.0) [
      | inl h ↦ choosing t (let e = h.1 in let f : m < length cs = nth_within cs m c at in omega (arith, e, f)) path.1
      | inr h ↦
          let e : t ≡ choice.0 + 0 = let f : choice.0 ≡ t = contains_one choice.0 t h in omega (arith, f) in
          subst (λ s. IsProgramRun cs (shown_along b s places)) (sym e) (more_run m c (choice.0 + 0) places at (begun e))
    ]) where
      choice : (p : ℕ) × Nth b.stmts (m + 1) (chooses p) × IsBlockAt b m c p
      choice = laid.choice m c at

      here : Nth b.stmts (suc m) (chooses choice.0)
      here = subst (λ s. Nth b.stmts s (chooses choice.0)) (let f : m + 1 ≡ suc m = omega arith in f) choice.1

      same : shown_along b (suc m) (t ∷ places) ≡ shown_along b t places
      same = ap (λ o. shown_by o ++ shown_along b t places) here

      begun : t ≡ choice.0 + 0 → Lives b cs m c (choice.0 + 0) 0 places
      begun e = inside m c choice.0 0 (planned c.kind).begins.0 at choice.2 (planned c.kind).begins.1 (subst (λ s. IsPath b s places) e path.1)

  inside_end : Inside []
  inside_end j c p i line at block here path =
      absurd (never_returns j c.name p line path.0 (one_nth b.stmts (p + i) (stmt_of j c.name p line) (Return path.0) (block.stands i line here) (from_at b.stmts (p + i) (Return path.0) path.1)))

  choosing_end : Choosing []
  choosing_end s l path = ([], tt, ap shown_by (from_at b.stmts s (Return path.0) path.1))

  both : (places : List ℕ) → Inside places × Choosing places
  both [] = (inside_end, choosing_end)
  both (t ∷ places) = let h = both places in (inside_more t places h.0 h.1, choosing_more t places h.0 h.1)

  pub sound : (letters : List Letter) → Shows b 0 letters → IsProgramRun cs letters
  sound letters h = subst (IsProgramRun cs) (sym h.2) ((both h.0).1 0 (omega arith) h.1)
