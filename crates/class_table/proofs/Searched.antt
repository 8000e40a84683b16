-- Where a method is looked for: along numbers and along names.
use Rattle.std.proofs.Common.{◌≡◌, ◌↔◌, ◌<◌, ℕ, zero, suc, List, [], ◌∷◌, ◌++◌, length, map, inl, inr, All, Contains, Option, Some, None, refl, sym, ap, subst, ◌∙◌, arith}
use Rattle.std.specs.Prelude.{flat_map, slice_index_or}
use Rattle.std.proofs.lemmas.List.{map-append, get_or_default}
use Rattle.std.proofs.lemmas.List.Elements.{All-append, All-cons, All-contains, All-head, All-tail}
use Rattle.std.proofs.lemmas.Option.{same_Some}
use Rattle.clean_base.specs.Lists.{At}
use Rattle.clean_base.specs.declared.ids.ClassId.{ClassId}
use Rattle.clean_base.specs.declared.ids.MethodId.{MethodId}
use Rattle.jimple_tree.specs.WellFormed.{IsWellFormed}
use Rattle.jimple_tree.specs.declared.tree.Class.{Class}
use Rattle.jimple_tree.specs.declared.tree.Method.{Method}
use Rattle.jimple_tree.specs.declared.tree.Sig.{Sig}
use Rattle.reach_rows.specs.Graphs.{row, IsGraph, IsOrder}
use Rattle.reach_rows.specs.Walks.{Walk, none}
use Rattle.reach_rows.proofs.Paths.{steps_to}
use Rattle.reach_rows.proofs.Places.{at_push_cases}
use Rattle.class_table.specs.Alongs.{first_some, taken, AreAlong, AreNext}
use Rattle.class_table.specs.Faults.{HaveNames}
use Rattle.class_table.specs.Firsts.{FirstOf, nowhere, here, AreEither, AreFound, AreOwn, IsFirst, LacksAt, HasAt, LacksCallable, HasCallableAt}
use Rattle.class_table.specs.Hierarchy.{class_names, names_in}
use Rattle.class_table.specs.Kept.{HasLinks}
use Rattle.class_table.specs.Links.{name_at, AreRows}
use Rattle.class_table.specs.Members.{AreMembers, HasPlace, IsNumberAt, IsNumbered, StandsAt}
use Rattle.class_table.specs.Methods.{IsNumber}
use Rattle.class_table.specs.Resolving.{superclass, interfaces, IsSearch, HasCallable, Finds, Resolves}
use Rattle.class_table.specs.declared.links.Links.{Links}
use Rattle.class_table.specs.declared.members.Members.{Members}
use Rattle.class_table.specs.declared.members.Place.{Place}
use Rattle.class_table.proofs.Along.{or_else, IsMet, met_each, met_flat, taken_both, taken_next}
use Rattle.class_table.proofs.Callable.{one_callable}
use Rattle.class_table.proofs.Exact.{number_exact, own_there}
use Rattle.class_table.proofs.First.{first_map, first_of_one, first_one, first_split, first_meets}
use Rattle.class_table.proofs.Linked.{is_graph, order_of_part, superclass_within, interfaces_within}
use Rattle.class_table.proofs.Signed.{none_some}
use Rattle.class_table.proofs.Walked.{AreNumbers, row_names, walk_numbers, walk_names}
use Rattle.class_table.proofs.Walking.{walk_both, walk_once, walk_one}

-- a search for a name goes over one list
search_once : (cs : List Class) (name : List ℕ) (xs ys : List (List ℕ)) → IsSearch cs name xs → IsSearch cs name ys → xs ≡ ys
search_once cs name xs ys one other =
    let up : one.chain ≡ other.chain = walk_once (names_in superclass cs) one.up other.up in
    let from : Walk (names_in interfaces cs) (flat_map (names_in interfaces cs) other.chain) one.met = subst (λ (ns : List (List ℕ)). Walk (names_in interfaces cs) (flat_map (names_in interfaces cs) ns) one.met) up one.across in
    let met : one.met ≡ other.met = walk_once (names_in interfaces cs) from other.across in
    one.are ∙ ap (λ (ns : List (List ℕ)). ns ++ one.met) up ∙ ap (λ (ns : List (List ℕ)). other.chain ++ ns) met ∙ sym other.are

-- Numbers

module _ (cs : List Class) (supers inters : List (List ℕ)) (up : AreRows cs superclass supers) (across : AreRows cs interfaces inters) where
  -- the interfaces of numbers are those of their names
  across_names : (numbers : List ℕ) → AreNumbers cs numbers → map (name_at cs) (flat_map (row inters) numbers) ≡ flat_map (names_in interfaces cs) (map (name_at cs) numbers)
  across_names [] within = refl
  across_names (n ∷ numbers) within =
      let P = λ (i : ℕ). i < length (class_names cs) in
      map-append (name_at cs) (row inters n) (flat_map (row inters) numbers)
      ∙ ap (λ (ns : List (List ℕ)). ns ++ map (name_at cs) (flat_map (row inters) numbers)) (row_names cs interfaces inters across n (All-head P n numbers within))
      ∙ ap (λ (ns : List (List ℕ)). names_in interfaces cs (name_at cs n) ++ ns) (across_names numbers (All-tail P n numbers within))

  flat_within : (numbers : List ℕ) → AreNumbers cs (flat_map (row inters) numbers)
  flat_within [] = λ k d below. absurd (omega (arith, below))
  flat_within (n ∷ numbers) = All-append (λ (i : ℕ). i < length (class_names cs)) (row inters n) (flat_map (row inters) numbers) (across.within n) (flat_within numbers)

  -- the walks from a number are the search for its name
  module _ (a : ℕ) (below : a < length (class_names cs)) (chain met : List ℕ) (upwards : Walk (row supers) (a ∷ []) chain) (aside : Walk (row inters) (flat_map (row inters) chain) met) where
    one : AreNumbers cs (a ∷ [])
    one = All-cons (λ (i : ℕ). i < length (class_names cs)) a [] below (λ k d less. absurd (omega (arith, less)))

    chain_within : AreNumbers cs chain
    chain_within = walk_numbers cs superclass supers up upwards one

    pub whole_within : AreNumbers cs (chain ++ met)
    whole_within = All-append (λ (i : ℕ). i < length (class_names cs)) chain met chain_within (walk_numbers cs interfaces inters across aside (flat_within chain))

    pub search_names : IsSearch cs (name_at cs a) (map (name_at cs) (chain ++ met))
    search_names = record {
      chain = map (name_at cs) chain;
      met = map (name_at cs) met;
      up = walk_names cs superclass supers up upwards one;
      across = subst (λ (ns : List (List ℕ)). Walk (names_in interfaces cs) ns (map (name_at cs) met)) (across_names chain chain_within) (walk_names cs interfaces inters across aside (flat_within chain));
      are = map-append (name_at cs) chain met;
    }

-- there is a walk from each node of a graph with an order

walk_each : (rows : List (List ℕ)) (nodes : List ℕ) → ((a : ℕ) → Contains nodes a → (met : List ℕ) × Walk (row rows) (a ∷ []) met) → (met : List ℕ) × Walk (row rows) nodes met
walk_each rows [] each = ([], none)
walk_each rows (a ∷ nodes) each =
    let first = each a (0, (omega arith), refl) in
    let rest = walk_each rows nodes (λ b has. each b (suc has.0, (let below = has.1 in omega (arith, below)), has.2)) in
    (first.0 ++ rest.0, walk_both (row rows) first.1 rest.1)

module _ (rows : List (List ℕ)) (order : List ℕ) (graph : IsGraph rows) (is : IsOrder rows order) where
  walk_before : (n i a : ℕ) → i < n → At order i a → (met : List ℕ) × Walk (row rows) (a ∷ []) met
  walk_before zero i a less at = absurd (omega (arith, less))
  walk_before (suc n) i a less at =
      let deep = walk_each rows (row rows a) (λ b step.
      let there = (is.all b).1 (steps_to rows a b graph step) in
      let other : At order there.0 b = (there.1, there.2) in
      let earlier : there.0 < i = is.behind i there.0 a b at other step in
      walk_before n there.0 b (omega (arith, earlier, less)) other) in
      (a ∷ deep.0, walk_one (row rows) a deep.0 deep.1)

  pub walk_from : (a : ℕ) → a < length rows → (met : List ℕ) × Walk (row rows) (a ∷ []) met
  walk_from a below = let there = (is.all a).1 below in walk_before (suc there.0) there.0 a (omega arith) (there.1, there.2)

  pub walk_all : (nodes : List ℕ) → All (λ (a : ℕ). a < length rows) nodes → (met : List ℕ) × Walk (row rows) nodes met
  walk_all nodes within = walk_each rows nodes (λ a has. walk_from a (All-contains (λ (b : ℕ). b < length rows) nodes a within has))

-- Methods

module _ (cs : List Class) (formed : All IsWellFormed cs) (names : HaveNames cs) (sig : Sig) (name : List ℕ) (places : List (List ℕ)) (r : Option Place) (search : IsSearch cs name places)
    (first : FirstOf (LacksCallable cs sig) (HasCallableAt cs sig) places r) where
  -- what a search finds is what stands first
  meets : (c : Class) (m : Method) → Finds cs name sig c m → (place : List ℕ) × (x : Place) × (r ≡ Some x) × HasCallableAt cs sig place x × HasCallable cs sig place c m
  meets c m finds =
      let parts : places ≡ finds.before ++ finds.place ∷ finds.behind = search_once cs name places (finds.before ++ finds.place ∷ finds.behind) search finds.search in
      let met = first_meets (LacksCallable cs sig) (HasCallableAt cs sig) finds.before finds.place finds.behind r (λ lacks. lacks c m finds.here)
      (λ other inside x has. finds.none other inside has.class has.method has.callable) (subst (λ (ns : List (List ℕ)). FirstOf (LacksCallable cs sig) (HasCallableAt cs sig) ns r) parts first) in
      (finds.place, met.0, met.1, met.2, finds.here)

  -- nothing is found
  none_resolves : r ≡ None → (n : MethodId) → Resolves cs name sig n → ⊥
  none_resolves is n resolves = let met = meets resolves.class resolves.method resolves.found in none_some met.1 (sym is ∙ met.2)

  -- the method that is found, where it has that number
  one_resolves : (x : Place) → r ≡ Some x → (out : Option MethodId) → ((c : Class) (m : Method) → At cs x.class c → At c.methods x.method m → IsNumbered cs c m out) → (n : MethodId) → (out ≡ Some n) ↔ Resolves cs name sig n
  one_resolves x is out numbered n = (there (first_split (LacksCallable cs sig) (HasCallableAt cs sig) places r x first is), back) where
    there : ((before : List (List ℕ)) × (place : List ℕ) × (behind : List (List ℕ)) × (places ≡ before ++ place ∷ behind) × ((other : List ℕ) → Contains before other → LacksCallable cs sig other) × HasCallableAt cs sig place x)
        → out ≡ Some n → Resolves cs name sig n
    there (before, place, behind, parts, lacks, has) e = record {
      class = has.class;
      method = has.method;
      found = record {
        before = before;
        place = place;
        behind = behind;
        search = subst (IsSearch cs name) parts search;
        none = lacks;
        here = has.callable;
      };
      number = (number_exact cs formed names has.class has.method out (numbered has.class has.method has.stands.0 has.stands.1) n).0 e;
    }

    back : Resolves cs name sig n → out ≡ Some n
    back resolves =
        let met = meets resolves.class resolves.method resolves.found in
        let same : met.1 ≡ x = same_Some met.1 x (sym met.2 ∙ is) in
        let has : HasCallableAt cs sig met.0 x = subst (HasCallableAt cs sig met.0) same met.3 in
        let one = one_callable cs formed names sig met.0 resolves.class has.class resolves.method has.method met.4 has.callable in
        let number : IsNumber cs n has.class has.method = subst (λ (m : Method). IsNumber cs n has.class m) one.1 (subst (λ (c : Class). IsNumber cs n c resolves.method) one.0 resolves.number) in
        (number_exact cs formed names has.class has.method out (numbered has.class has.method has.stands.0 has.stands.1) n).1 number

  -- what is found stands in some class
  found_stands : (x : Place) → r ≡ Some x → (c : Class) × (m : Method) × StandsAt cs x c m
  found_stands x is = by (first_split (LacksCallable cs sig) (HasCallableAt cs sig) places r x first is) where
    by : ((before : List (List ℕ)) × (place : List ℕ) × (behind : List (List ℕ)) × (places ≡ before ++ place ∷ behind) × ((other : List ℕ) → Contains before other → LacksCallable cs sig other) × HasCallableAt cs sig place x)
        → (c : Class) × (m : Method) × StandsAt cs x c m
    by (before, place, behind, parts, lacks, has) = (has.class, has.method, has.stands)

some_item : {X : Type 0} (xs : List X) (i : ℕ) → i < length xs → (x : X) × At xs i x
some_item [] i below = absurd (omega (arith, below))
some_item (x ∷ xs) zero below = (x, (below, refl))
some_item (x ∷ xs) (suc i) below =
    let rest = some_item xs i (omega (arith, below)) in
    (rest.0, (below, rest.1.1))

-- the number that was read there is that of the method there
number_found : (cs : List Class) (members : Members) (x : Place) (out : Option MethodId) → AreMembers cs members → IsNumberAt members x out → (c : Class) (m : Method) → At cs x.class c → At c.methods x.method m → IsNumbered cs c m out
number_found cs members x out are read c m stands there =
    let count = are.owns.counted in
    let within = stands.0 in
    let own = some_item members.classes.items x.class (omega (arith, count, within)) in
    (are.owns.each x.class c own.0 stands own.1).numbers.each x.method m out there (read own.0 own.1)

-- what stands first in the search for the name of a number
abbrev pub IsFound : List Class → Sig → ℕ → Option Place → Type 0
IsFound cs sig a r = (search : List (List ℕ)) × IsSearch cs (name_at cs a) search × FirstOf (LacksCallable cs sig) (HasCallableAt cs sig) search r

-- some class whose name has the number resolves to it
abbrev pub Answers : List Class → Sig → ℕ → MethodId → Type 0
Answers cs sig a n = (name : List ℕ) × At (class_names cs) a name × Resolves cs name sig n

module _ (cs : List Class) (formed : All IsWellFormed cs) (names : HaveNames cs) (members : Members) (are : AreMembers cs members) (sig : Sig) (a : ℕ) where
  -- it has a number where it has a body
  pub found_place : (r : Option Place) → IsFound cs sig a r → (x : Place) → r ≡ Some x → HasPlace members x
  found_place r (search, searched, first) x is = by (found_stands cs formed names sig (name_at cs a) search r searched first x is) where
    by : ((c : Class) × (m : Method) × StandsAt cs x c m) → HasPlace members x
    by (c, m, (stands, there)) =
        let count = are.owns.counted in
        let within = stands.0 in
        let own = some_item members.classes.items x.class (omega (arith, count, within)) in
        own_there cs members x.class c own.0 x.method are stands own.1 there.0

  resolves_found : (r : Option Place) → IsFound cs sig a r → (out : Option MethodId) → (r ≡ None → out ≡ None) → ((x : Place) → r ≡ Some x → IsNumberAt members x out) → (n : MethodId) → (out ≡ Some n) ↔ Resolves cs (name_at cs a) sig n
  resolves_found None (search, searched, first) out lacks has n = (
    (λ e. absurd (none_some n (sym (lacks refl) ∙ e))),
    (λ resolves. absurd (none_resolves cs formed names sig (name_at cs a) search None searched first refl n resolves)),
  )
  resolves_found (Some x) (search, searched, first) out lacks has n = one_resolves cs formed names sig (name_at cs a) search (Some x) searched first x refl out (number_found cs members x out are (has x refl)) n

  pub answers_found : a < length (class_names cs) → (r : Option Place) → IsFound cs sig a r → (out : Option MethodId) → (r ≡ None → out ≡ None) → ((x : Place) → r ≡ Some x → IsNumberAt members x out) → (n : MethodId) → (out ≡ Some n) ↔ Answers cs sig a n
  answers_found below r found out lacks has n =
      let exact = resolves_found r found out lacks has n in (
        (λ e. (name_at cs a, (below, get_or_default (class_names cs) a (name_at cs a) [] below), exact.0 e)),
        (λ answers. exact.1 (subst (λ (w : List ℕ). Resolves cs w sig n) (sym answers.1.1 ∙ get_or_default (class_names cs) a answers.0 [] below) answers.2)),
      )

-- What is found

module _ (cs : List Class) (sig : Sig) (own : List (Option Place)) (are : AreOwn cs sig own) where
  -- what the nodes have first is what their classes have
  first_taken : (numbers : List ℕ) → AreNumbers cs numbers → IsFirst cs sig numbers (taken own numbers)
  first_taken [] within = nowhere
  first_taken (a ∷ numbers) within =
      let P = λ (i : ℕ). i < length (class_names cs) in
      let below : a < length (class_names cs) = All-head P a numbers within in
      let o = slice_index_or own a None in
      let inside : a < length own = let count = are.count in omega (arith, below, count) in
      let one : IsFirst cs sig (a ∷ []) o = are.each a o (inside, get_or_default own a o None inside) in
      subst (IsFirst cs sig (a ∷ numbers)) (sym (taken_next own a numbers)) (first_one (LacksAt cs sig) (HasAt cs sig) a numbers o (taken own numbers) one (first_taken numbers (All-tail P a numbers within)))

module _ (cs : List Class) (sig : Sig) (supers inters : List (List ℕ)) (ups : AreRows cs superclass supers) (links : AreRows cs interfaces inters) where
  -- one that the class itself has is found
  pub found_here : (order part : List ℕ) → IsGraph supers → IsOrder supers order → IsGraph inters → IsOrder inters part → (a : ℕ) → a < length (class_names cs) → (x : Place) → IsFirst cs sig (a ∷ []) (Some x) → IsFound cs sig a (Some x)
  found_here order part graph is other its a below x first =
      let inside : a < length supers = let count = ups.count in omega (arith, below, count) in
      let deep = walk_all supers order graph is (row supers a) (λ k d less. let each = ups.within a k d less in let count = ups.count in omega (arith, each, count)) in
      let upwards = walk_one (row supers) a deep.0 deep.1 in
      let starts : All (λ (b : ℕ). b < length inters) (flat_map (row inters) (a ∷ deep.0)) = λ k d less. (let each = flat_within cs supers inters ups links (a ∷ deep.0) k d less in let count = links.count in omega (arith, each, count)) in
      let aside = walk_all inters part other its (flat_map (row inters) (a ∷ deep.0)) starts in (
        map (name_at cs) ((a ∷ deep.0) ++ aside.0),
        search_names cs supers inters ups links a below (a ∷ deep.0) aside.0 upwards aside.1,
        here (first_of_one (LacksAt cs sig) (HasAt cs sig) a (Some x) x first refl),
      )

  module _ (own up deep across aside : List (Option Place)) (are : AreOwn cs sig own) (first : AreAlong supers own up) (below : AreAlong inters own deep) (next : AreNext inters deep across) (others : AreAlong supers across aside) where
    -- what is met from the interfaces of a number
    met_across : (a : ℕ) → a < length (class_names cs) → IsMet own inters (row inters a) (slice_index_or across a None)
    met_across a within =
        let inside : a < length across = (let count = next.count in let all = links.count in omega (arith, within, count, all)) in
        let value : slice_index_or across a None ≡ taken deep (row inters a) = next.each a (slice_index_or across a None) (inside, get_or_default across a (slice_index_or across a None) None inside) in
        subst (IsMet own inters (row inters a)) (sym value) (met_each own inters deep (row inters a) (λ b has.
        let within_b : b < length (class_names cs) = All-contains (λ (i : ℕ). i < length (class_names cs)) (row inters a) b (links.within a) has in
        let inside_b : b < length deep = (let count = below.count in let all = links.count in omega (arith, within_b, count, all)) in
        below.each b (slice_index_or deep b None) (inside_b, get_or_default deep b (slice_index_or deep b None) None inside_b)))

    found_at : (a : ℕ) (r : Option Place) → a < length (class_names cs) → r ≡ or_else (slice_index_or up a None) (slice_index_or aside a None) → IsFound cs sig a r
    found_at a r within is =
        let one = slice_index_or up a None in
        let two = slice_index_or aside a None in
        let inside : a < length up = (let count = first.count in let all = ups.count in omega (arith, within, count, all)) in
        let beside : a < length aside = (let count = others.count in let all = ups.count in omega (arith, within, count, all)) in
        by one two (first.each a one (inside, get_or_default up a one None inside)) (others.each a two (beside, get_or_default aside a two None beside)) is where
          by : (one two : Option Place) → ((chain : List ℕ) × Walk (row supers) (a ∷ []) chain × (one ≡ taken own chain)) → ((again : List ℕ) × Walk (row supers) (a ∷ []) again × (two ≡ taken across again)) → r ≡ or_else one two → IsFound cs sig a r
          by one two (chain, upwards, has) (again, same, other) is =
              let all : AreNumbers cs chain = walk_numbers cs superclass supers ups upwards (All-cons (λ (i : ℕ). i < length (class_names cs)) a [] within (λ k d less. absurd (omega (arith, less)))) in
              let met = met_flat own inters across (row inters) chain (λ b inside. met_across b (All-contains (λ (i : ℕ). i < length (class_names cs)) chain b all inside)) in
              let given : two ≡ taken own met.0 = other ∙ ap (taken across) (walk_once (row supers) same upwards) ∙ met.2 in
              let value : r ≡ taken own (chain ++ met.0) = is ∙ ap (λ (o : Option Place). or_else o two) has ∙ ap (or_else (taken own chain)) given ∙ sym (taken_both own chain met.0) in
              let numbers : AreNumbers cs (chain ++ met.0) = whole_within cs supers inters ups links a within chain met.0 upwards met.1 in (
                map (name_at cs) (chain ++ met.0),
                search_names cs supers inters ups links a within chain met.0 upwards met.1,
                first_map (name_at cs) (LacksCallable cs sig) (HasCallableAt cs sig) (chain ++ met.0) r (subst (IsFirst cs sig (chain ++ met.0)) (sym value) (first_taken cs sig own are (chain ++ met.0) numbers)),
              )

    pub all_found : (places : List (Option Place)) → AreEither up aside places → AreFound cs sig places
    all_found places either = record {
      count = either.count ∙ first.count ∙ ups.count;
      each = λ a r at.
          let below_a = at.0 in
          let same = either.count in
          let long = first.count in
          let more = others.count in
          let all = ups.count in
          let within : a < length (class_names cs) = omega (arith, below_a, same, long, all) in
          let inside : a < length up = omega (arith, below_a, same) in
          let beside : a < length aside = omega (arith, below_a, same, long, more) in
          let one = slice_index_or up a None in
          let two = slice_index_or aside a None in
          found_at a r within (either.each a one two r (inside, get_or_default up a one None inside) (beside, get_or_default aside a two None beside) at ∙ either_of one two);
    } where
      either_of : (x y : Option Place) → first_some (x ∷ y ∷ []) ≡ or_else x y
      either_of None None = refl
      either_of None (Some y) = refl
      either_of (Some x) y = refl

-- The methods, one after another

-- what is told of each name
abbrev pub AreAnswers : List Class → Sig → List (Option MethodId) → Type 0
AreAnswers cs sig methods = (a : ℕ) (out : Option MethodId) → At methods a out → (n : MethodId) → (out ≡ Some n) ↔ Answers cs sig a n

pub answers_more : (cs : List Class) (sig : Sig) (old new : List (Option MethodId)) (out : Option MethodId) (i : ℕ) → length old ≡ i → AreAnswers cs sig old → ((n : MethodId) → (out ≡ Some n) ↔ Answers cs sig i n) → new ≡ old ++ out ∷ [] → AreAnswers cs sig new
answers_more cs sig old new out i count before this pushed a o at = elim (at_push_cases old out a o (subst (λ (l : List (Option MethodId)). At l a o) pushed at)) [
  | inl was ↦ before a o was
  | inr last ↦
      let same : a ≡ i = last.0 ∙ count in
      subst (λ (k : ℕ). (n : MethodId) → (o ≡ Some n) ↔ Answers cs sig k n) (sym same) (subst (λ (p : Option MethodId). (n : MethodId) → (p ≡ Some n) ↔ Answers cs sig i n) last.1 this)
]

pub answers_exact : (cs : List Class) (sig : Sig) (methods : List (Option MethodId)) → length methods ≡ length (class_names cs) → AreAnswers cs sig methods → (class : ClassId) (n : MethodId) → At methods class.0 (Some n) ↔ Answers cs sig class.0 n
answers_exact cs sig methods count are class n = ((λ at. (are class.0 (Some n) at n).0 refl), back) where
  back : Answers cs sig class.0 n → At methods class.0 (Some n)
  back answers =
      let within : class.0 < length methods = (let below = answers.1.0 in omega (arith, below, count)) in
      let item = some_item methods class.0 within in
      subst (At methods class.0) ((are class.0 item.0 item.1 n).1 answers) item.1

-- what was read of a list of answers
pub read_answer : {P : Type 0} (methods : List (Option MethodId)) (a : ℕ) (out : Option MethodId) (n : MethodId) → a < length methods → out ≡ slice_index_or methods a out → (At methods a (Some n) ↔ P) → (out ≡ Some n) ↔ P
read_answer methods a out n below read exact = (
  (λ e. exact.0 (below, get_or_default methods a (Some n) out below ∙ sym read ∙ e)),
  (λ p. let at = exact.1 p in read ∙ get_or_default methods a out (Some n) below ∙ at.1),
)

-- the answer where the class itself has one
pub answers_here : (cs : List Class) (formed : All IsWellFormed cs) (names : HaveNames cs) (members : Members) (are : AreMembers cs members) (sig : Sig) (a : ℕ) → a < length (class_names cs) → (x : Place) → IsFound cs sig a (Some x)
    → (out : Option MethodId) → IsNumberAt members x out → (n : MethodId) → (out ≡ Some n) ↔ Answers cs sig a n
answers_here cs formed names members are sig a below x found out number n =
    answers_found cs formed names members are sig a below (Some x) found out (λ e. absurd (none_some x (sym e))) (λ y e. subst (λ (z : Place). IsNumberAt members z out) (same_Some x y e) number) n

-- what a table keeps finds it
pub kept_here : (cs : List Class) (sig : Sig) (links : Links) → HasLinks cs links → (a : ℕ) → a < length (class_names cs) → (r : Option Place) (x : Place) → r ≡ Some x → IsFirst cs sig (a ∷ []) r → IsFound cs sig a (Some x)
kept_here cs sig links kept a below r x is first =
    found_here cs sig links.superclasses.items links.interfaces.items kept.superclasses kept.interfaces links.order.items links.order.items (is_graph cs superclass links.superclasses.items kept.superclasses)
    (order_of_part cs links.headings.items kept.headings superclass links.superclasses.items kept.superclasses superclass_within links.order.items kept.order) (is_graph cs interfaces links.interfaces.items kept.interfaces)
    (order_of_part cs links.headings.items kept.headings interfaces links.interfaces.items kept.interfaces interfaces_within links.order.items kept.order) a below x (subst (IsFirst cs sig (a ∷ [])) is first)
