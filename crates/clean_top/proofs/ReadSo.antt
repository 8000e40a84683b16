-- Files that are read one after another.
use Rattle.std.proofs.Common.{◌≡◌, ℕ, ◌+◌, ◌<◌, ◌≤◌, List, [], ◌∷◌, ◌++◌, length, map, drop, get_or, Contains, Option, Some, IfSome, Result, Ok, Err, sym, ◌∙◌, subst, arith}
use Rattle.std.proofs.lemmas.List.{drop_all, get_or_default, get_or_append_left, get_or-append-add, length-append}
use Rattle.std.proofs.lemmas.List.Elements.{Contains-get_or, Contains-append_left, Contains-append_right}
use Rattle.clean_base.specs.Device.{Rose, ReadCause}
use Rattle.clean_base.specs.declared.fault.InputFault.TheVariants.{TooLong}
use Rattle.clean_base.specs.declared.read.ReadStop.{ReadStop}
use Rattle.clean_base.specs.declared.read.ReadStop.TheVariants as stops
use Rattle.clean_stage.proofs.Stages.{drop_at, fails, passes, next, stop, is_done, goes_on, stops, finishes, out_of_memory}
use Rattle.clean_stage.specs.Stage.{Stage, ◌>>=◌, before, Comes, Leaves, fault}
use Rattle.clean_stage.specs.declared.halt.Halt.{Halt}
use Rattle.clean_stage.specs.declared.halt.Refusal.TheVariants.{Fault}
use Rattle.clean_top.specs.Words.{in_order}
use Rattle.clean_base.specs.Limits.{class_room, list_room}
use Rattle.clean_top.specs.Reading.{Tells, ComesIn, Reads, texts_in, fits, fitting, of_read, room_bytes, room_after}
use Rattle.clean_top.specs.declared.read.ReadHalt.{ReadHalt}
use Rattle.clean_top.specs.declared.read.ReadHalt.TheVariants as halts
use Rattle.clean_top.specs.declared.read.Room.{Room}
use Rattle.clean_top.specs.declared.read.Room.TheVariants.{Shared, Each}
use Rattle.clean_top.specs.declared.read.Texts.{Texts}
use Rattle.clean_top.specs.declared.task.Named.{Named}
use Rattle.clean_top.specs.declared.read.Text.{Text}

pub at_some : {X : Type 0} (o : Option X) (x : X) (P : X → Type 0) → o ≡ Some x → IfSome o P → P x
at_some {X} o x P is holds = let here : IfSome (Some x) P = subst (λ (p : Option X). IfSome p P) is holds in here

module _ (holds : List ℕ → Option (List ℕ)) (names : List (List ℕ)) (first : ℕ) (room left : Room) (file i : ℕ) (front : List Text) where
  abbrev Begun : Type 0
  Begun = (files : List ℕ → List ℕ) → Tells holds names files → Leaves (fitting room first (map files names)) (fitting left file (map files (drop i names))) front

  module _ (begun : Begun) where
    pub all_read : length names ≤ i → (files : List ℕ → List ℕ) → Tells holds names files → Comes (fitting room first (map files names)) (Ok front)
    all_read past files tells =
        let none : drop i names ≡ [] = drop_all i names past in
        finishes _ front (subst (λ (ns : List (List ℕ)). Leaves (fitting room first (map files names)) (fitting left file (map files ns)) front) none (begun files tells))

    module _ (name : List ℕ) (below : i < length names) (is : name ≡ get_or names i name) where
      held : (files : List ℕ → List ℕ) → Tells holds names files → holds name ≡ Some (files name)
      held files tells = tells name (subst (Contains names) (sym is) (Contains-get_or names i name below))

      here : (files : List ℕ → List ℕ) → Tells holds names files
          → Leaves (fitting room first (map files names)) (before (fits file (room_bytes left) (files name)) (fitting (room_after left (length (files name))) (file + 1) (map files (drop (i + 1) names)))) front
      here files tells =
          let e : drop i names ≡ name ∷ drop (i + 1) names = drop_at names i name below is in
          subst (λ (ns : List (List ℕ)). Leaves (fitting room first (map files names)) (fitting left file (map files ns)) front) e (begun files tells)

      pub one_read : (bytes : List ℕ) (told : Option (List ℕ)) → told ≡ holds name → IfSome told (λ b. bytes ≡ b) → length bytes ≤ room_bytes left
          → (files : List ℕ → List ℕ) → Tells holds names files
          → Leaves (fitting room first (map files names)) (fitting (room_after left (length bytes)) (file + 1) (map files (drop (i + 1) names))) (front ++ record { file = file; bytes = bytes } ∷ [])
      one_read bytes told same whole short files tells =
          let e : bytes ≡ files name = at_some told (files name) (λ b. bytes ≡ b) (same ∙ held files tells) whole in
          let start = here files tells in
          let moved : Leaves (fitting room first (map files names)) (before (fits file (room_bytes left) bytes) (fitting (room_after left (length bytes)) (file + 1) (map files (drop (i + 1) names)))) front =
          subst (λ (b : List ℕ). Leaves (fitting room first (map files names)) (before (fits file (room_bytes left) b) (fitting (room_after left (length b)) (file + 1) (map files (drop (i + 1) names)))) front) (sym e) start in
          goes_on _ _ _ front (record { file = file; bytes = bytes }) moved (passes (room_bytes left < length bytes) (Fault (TooLong file (room_bytes left))) _ (λ long. absurd (omega (arith, long, short))))

      pub one_stops : (stop : ReadStop) (told : Option (List ℕ)) (earlier : List ℕ → ℕ) (mid : ℕ) (now : List ℕ → ℕ) → told ≡ holds name → earlier name ≤ mid → file ≡ first + i
          → ReadCause told mid (now name) (room_bytes left) stop → Reads holds earlier now names first (λ files. fitting room first (map files names)) (Err (of_read stop file))
      one_stops stops.ReadFault told earlier mid now same later numbered cause =
          let rose : Rose (earlier name) (now name) = omega (arith, cause, later) in
          let e : name ≡ get_or names i [] = is ∙ get_or_default names i name [] below in
          record { so = record { place = i; below = below; is = numbered; rose = subst (λ (n : List ℕ). Rose (earlier n) (now n)) e rose } }
      one_stops (stops.TooLong at) told earlier mid now same later numbered cause = record {
        so = λ files tells.
            let long : room_bytes left < length (files name) = at_some told (files name) (λ b. room_bytes left < length b) (same ∙ held files tells) cause.1 in
            let over = stops _ _ _ front _ (here files tells) (fails (room_bytes left < length (files name)) (Fault (TooLong file (room_bytes left))) _ long) in
            subst (λ (n : ℕ). Comes (fitting room first (map files names)) (Err (fault (TooLong file n)))) (sym cause.0) over;
      }
      one_stops stops.OutOfMemory told earlier mid now same later numbered cause = record { so = λ files tells. out_of_memory _ }

-- class files, and then the others
module _ (holds : List ℕ → Option (List ℕ)) (earlier now : List ℕ → ℕ) (names : Named) where
  abbrev classes_in : (List ℕ → List ℕ) → Stage (List Text)
  classes_in files = fitting (Shared class_room) 0 (map files names.classes)

  abbrev lists_in : (List ℕ → List ℕ) → Stage (List Text)
  lists_in files = fitting (Each list_room) (length names.classes) (map files names.lists)

  front : (files : List ℕ → List ℕ) → Tells holds (in_order names) files → Tells holds names.classes files
  front files tells name named = tells name (Contains-append_left names.classes names.lists name named)

  pub classes_halt : (h : ReadHalt) → Reads holds earlier now names.classes 0 classes_in (Err h) → Reads holds earlier now (in_order names) 0 (texts_in names) (Err h)
  classes_halt (halts.Halt h) reads = record { so = λ files tells. stop _ h (reads.so files (front files tells)) }
  classes_halt (halts.ReadFault file) reads =
      let fault_at = reads.so in
      let e = get_or_append_left names.classes names.lists [] fault_at.place fault_at.below in
      record {
        so = record {
          place = fault_at.place;
          below = omega (arith, length-append names.classes names.lists, fault_at.below);
          is = fault_at.is;
          rose = rw e fault_at.rose;
        };
      }

  module _ (classes : List Text) (first : ComesIn holds names.classes classes_in (Ok classes)) (told : List ℕ → Option (List ℕ)) (same : (name : List ℕ) → told name ≡ holds name) where
    back : (files : List ℕ → List ℕ) → Tells holds (in_order names) files → Tells told names.lists files
    back files tells name named = same name ∙ tells name (Contains-append_right names.classes names.lists name named)

    pub lists_halt : (mid : List ℕ → ℕ) → ((name : List ℕ) → earlier name ≤ mid name) → (h : ReadHalt) → Reads told mid now names.lists (length names.classes) lists_in (Err h) → Reads holds earlier now (in_order names) 0 (texts_in names) (Err h)
    lists_halt mid later (halts.Halt h) reads = record { so = λ files tells. next _ _ (first files (front files tells)) (stop _ h (reads.so files (back files tells))) }
    lists_halt mid later (halts.ReadFault file) reads =
        let fault_at = reads.so in
        let e = get_or-append-add names.classes names.lists fault_at.place [] in
        let name = get_or names.lists fault_at.place [] in
        let rose : Rose (earlier name) (now name) = omega (arith, fault_at.rose, later name) in
        record {
          so = record {
            place = length names.classes + fault_at.place;
            below = omega (arith, length-append names.classes names.lists, fault_at.below);
            is = omega (arith, fault_at.is);
            rose = rw e rose;
          };
        }

    pub all_texts : (lists : List Text) → ComesIn told names.lists lists_in (Ok lists) → ComesIn holds (in_order names) (texts_in names) (Ok (record { classes = classes; lists = lists }))
    all_texts lists second files tells = next _ _ (first files (front files tells)) (next _ _ (second files (back files tells)) (is_done _))

-- the work on the texts that were read
module _ {A : Type 0} (holds : List ℕ → Option (List ℕ)) (earlier now : List ℕ → ℕ) (names : Named) (stage : Texts → Stage A) where
  pub texts_halt : (h : ReadHalt) → Reads holds earlier now (in_order names) 0 (texts_in names) (Err h) → Reads holds earlier now (in_order names) 0 (λ files. texts_in names files >>= stage) (Err h)
  texts_halt (halts.Halt h) reads = record { so = λ files tells. stop _ h (reads.so files tells) }
  texts_halt (halts.ReadFault file) reads = record { so = reads.so }

  pub texts_worked : (texts : Texts) → ComesIn holds (in_order names) (texts_in names) (Ok texts) → (r : Result A Halt) → Comes (stage texts) r → ComesIn holds (in_order names) (λ files. texts_in names files >>= stage) r
  texts_worked texts reads r comes files tells = next _ r (reads files tells) comes

  pub work_halts : (texts : Texts) → ComesIn holds (in_order names) (texts_in names) (Ok texts) → (h : Halt) → Comes (stage texts) (Err h) → Reads holds earlier now (in_order names) 0 (λ files. texts_in names files >>= stage) (Err (halts.Halt h))
  work_halts texts reads h comes = record { so = texts_worked texts reads (Err h) comes }

  pub work_ends : (texts : Texts) → ComesIn holds (in_order names) (texts_in names) (Ok texts) → (a : A) → Comes (stage texts) (Ok a) → Reads holds earlier now (in_order names) 0 (λ files. texts_in names files >>= stage) (Ok a)
  work_ends texts reads a comes = record { so = texts_worked texts reads (Ok a) comes }
