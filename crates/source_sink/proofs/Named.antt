-- What the lines of one name say.
use Rattle.std.proofs.Common.{◌≡◌, ◌==◌, ◌⊎◌, ◌↔◌, ◌<◌, ◌≤◌, ◌+◌, ℕ, zero, suc, Bool, not, true, false, true≢false, List, [], ◌∷◌, ◌++◌, length, nat_eq, get_or, map, take, IsTrue, refl, sym, ap, subst, ◌∙◌, inl, inr, arith}
use Rattle.std.specs.Prelude.{Contains}
use Rattle.std.proofs.lemmas.List.{get_or_default, take_all, take_more}
use Rattle.std.proofs.lemmas.List.Elements.{Contains-append_left, Contains-append_right, Contains-push, Contains-push_cases}
use Rattle.clean_base.specs.Exact.{both_true, same_number}
use lib.Pointwise.{bytes_decides, pointwise_decides}
use Rattle.clean_base.specs.Lists.{At}
use Rattle.jimple_tree.specs.declared.tree.JType.{JType}
use Rattle.jimple_tree.specs.declared.tree.Sig.{Sig}
use Rattle.name_index.proofs.Named.{name_at}
use Rattle.source_sink.specs.declared.line.Line.{Line}
use Rattle.source_sink.specs.Lists.{Names, Says}
use Rattle.source_sink.specs.ReadingLists.{same_type, is_same, adds, name_of, SaysAt}

number_same : (n : ℕ) → nat_eq n n ≡ true
number_same n = grind arith

type_decides : (a b : JType) → (same_type a b ≡ true → a ≡ b) × (a ≡ b → same_type a b ≡ true)
type_decides a b = (there, λ e. subst (λ (t : JType). same_type a t ≡ true) e itself) where
  there : same_type a b ≡ true → a ≡ b
  there h =
      let parts = both_true _ _ h in
      let base : a.base ≡ b.base = (bytes_decides a.base b.base).0 parts.0 in
      let dims : a.dims ≡ b.dims = same_number _ _ parts.1 in
      ap (λ (n : List ℕ). let t : JType = record { base = n; dims = a.dims } in t) base ∙ ap (λ (n : ℕ). let t : JType = record { base = b.base; dims = n } in t) dims

  itself : same_type a a ≡ true
  itself = let base = (bytes_decides a.base a.base).1 refl in let dims = number_same a.dims in rw (base, dims) refl

abbrev pub asked : List ℕ → Sig → Sig
asked class sig = record sig { class = class }

abbrev make : List ℕ → JType → List ℕ → List JType → Sig
make class result name params = record { class = class; result = result; name = name; params = params }

pub same_decides : (a : Sig) (class : List ℕ) (b : Sig) → (is_same a class b ≡ true → a ≡ asked class b) × (a ≡ asked class b → is_same a class b ≡ true)
same_decides a class b = (there, λ e. subst (λ (s : Sig). is_same s class b ≡ true) (sym e) itself) where
  there : is_same a class b ≡ true → a ≡ asked class b
  there h =
      let p = both_true _ _ h in
      let q = both_true _ _ p.0 in
      let r = both_true _ _ q.0 in
      let name : a.name ≡ b.name = (bytes_decides a.name b.name).0 r.0 in
      let of : a.class ≡ class = (bytes_decides a.class class).0 r.1 in
      let result : a.result ≡ b.result = (type_decides a.result b.result).0 q.1 in
      let params : a.params ≡ b.params = (pointwise_decides type_decides a.params b.params).0 p.1 in
      ap (λ (c : List ℕ). make c a.result a.name a.params) of ∙ ap (λ (t : JType). make class t a.name a.params) result
      ∙ ap (λ (n : List ℕ). make class b.result n a.params) name ∙ ap (λ (ts : List JType). make class b.result b.name ts) params

  itself : is_same (asked class b) class b ≡ true
  itself =
      let name = (bytes_decides b.name b.name).1 refl in
      let of = (bytes_decides class class).1 refl in
      let result = (type_decides b.result b.result).1 refl in
      let params = (pointwise_decides type_decides b.params b.params).1 refl in
      rw (name, of, result, params) refl

-- so far no line was asked
pub none_said : (lines : List Line) (sig : Sig) (does : Line → Bool) → IsTrue false ↔ SaysAt lines [] sig does
none_said lines sig does = (λ h. let bad : false ≡ true = h in cc, λ s. let below = s.among.1 in absurd (omega (arith, below)))

adds_true : (before same says : Bool) → adds before same says ≡ true → (before ≡ true) ⊎ ((same ≡ true) × (says ≡ true))
adds_true true same says h = inl refl
adds_true false true true h = inr (refl, refl)
adds_true false true false h = absurd (let bad : false ≡ true = h in cc)
adds_true false false says h = absurd (let bad : false ≡ true = h in cc)

adds_before : (before same says : Bool) → before ≡ true → adds before same says ≡ true
adds_before before true says h = rw h refl
adds_before before false says h = h

adds_here : (before same says : Bool) → same ≡ true → says ≡ true → adds before same says ≡ true
adds_here true same says s t = rw s refl
adds_here false same says s t = rw (s, t) refl

-- one line more
pub says_more : (lines : List Line) (class : List ℕ) (sig : Sig) (does : Line → Bool) (places : List ℕ) (i k : ℕ) (line : Line) (known : Bool) → i < length places → k ≡ get_or places i 0 → At lines k line
    → IsTrue known ↔ SaysAt lines (take i places) (asked class sig) does
    → IsTrue (adds known (is_same line.sig class sig) (does line)) ↔ SaysAt lines (take (i + 1) places) (asked class sig) does
says_more lines class sig does places i k line known below is at h = (there, back) where
  next : take (i + 1) places ≡ take i places ++ k ∷ []
  next = take_more places i 0 below ∙ ap (λ (n : ℕ). take i places ++ n ∷ []) (sym is)

  there : IsTrue (adds known (is_same line.sig class sig) (does line)) → SaysAt lines (take (i + 1) places) (asked class sig) does
  there t = elim (adds_true known (is_same line.sig class sig) (does line) t) [
    | inl before ↦
        let s = h.0 before in
        record { place = s.place; line = s.line; among = subst (λ (ns : List ℕ). Contains ns s.place) (sym next) (Contains-append_left (take i places) (k ∷ []) s.place s.among); stands = s.stands; of = s.of; says = s.says }
    | inr here ↦
        record { place = k; line = line; among = subst (λ (ns : List ℕ). Contains ns k) (sym next) (Contains-push (take i places) k); stands = at; of = (same_decides line.sig class sig).0 here.0; says = here.1 }
  ]

  back : SaysAt lines (take (i + 1) places) (asked class sig) does → IsTrue (adds known (is_same line.sig class sig) (does line))
  back s = elim (Contains-push_cases (take i places) k s.place (subst (λ (ns : List ℕ). Contains ns s.place) next s.among)) [
    | inl early ↦ adds_before known (is_same line.sig class sig) (does line) (h.1 (record { place = s.place; line = s.line; among = early; stands = s.stands; of = s.of; says = s.says }))
    | inr here ↦
        let there = s.stands in
        let one : line ≡ s.line = sym at.1 ∙ ap (λ (n : ℕ). get_or lines n line) here ∙ get_or_default lines s.place line s.line there.0 ∙ there.1 in
        adds_here known (is_same line.sig class sig) (does line) ((same_decides line.sig class sig).1 (ap (λ (l : Line). l.sig) one ∙ s.of)) (ap does one ∙ s.says)
  ]

-- where these are all places of the signature's name, it is what all lines say
pub all_said : (lines : List Line) (sig : Sig) (does : Line → Bool) (places : List ℕ) (i : ℕ) (known : Bool) → length places ≤ i
    → ((place : ℕ) → Contains places place ↔ At (map name_of lines) place sig.name)
    → IsTrue known ↔ SaysAt lines (take i places) sig does → IsTrue known ↔ Says lines sig does
all_said lines sig does places i known past exact h = (
  λ t. let s = h.0 t in record { line = s.line; listed = (s.place, s.stands.0, s.stands.1); of = s.of; says = s.says },
  λ s. h.1 (record {
    place = s.listed.0;
    line = s.line;
    among = subst (λ (ns : List ℕ). Contains ns s.listed.0) (sym (take_all i places past)) ((exact s.listed.0).1 (subst (At (map name_of lines) s.listed.0) (ap (λ (t : Sig). t.name) s.of) (name_at name_of lines s.listed.0 s.line (s.listed.1, s.listed.2))));
    stands = (s.listed.1, s.listed.2);
    of = s.of;
    says = s.says;
  }),
)

-- the line at the place of a name
line_there : (lines : List Line) (name : List ℕ) (k : ℕ) → At (map name_of lines) k name → Names lines name
line_there [] name k (below, is) = absurd (omega (arith, below))
line_there (l ∷ lines) name zero (below, is) = (l, (0, omega arith, refl), is)
line_there (l ∷ lines) name (suc k) (below, is) = let rest = line_there lines name k ((omega (arith, below)), is) in (rest.0, Contains-append_right (l ∷ []) lines rest.0 rest.1, rest.2)

-- a name has places just where some line is of it
pub has_places : (lines : List Line) (name : List ℕ) (places : List ℕ) (empty : Bool) → empty ≡ (length places == 0)
    → ((place : ℕ) → Contains places place ↔ At (map name_of lines) place name) → IsTrue (not empty) ↔ Names lines name
has_places lines name [] true is exact = ((λ no. absurd (cc)), λ (line, (k, below, at), same). let has = (exact k).1 (subst (At (map name_of lines) k) same (name_at name_of lines k line (below, at))) in let none = has.1 in absurd (omega (arith, none)))
has_places lines name (p ∷ places) false is exact = ((λ yes. line_there lines name p ((exact p).0 (0, omega arith, refl))), (λ has. refl))
has_places lines name [] false is exact = let bad : false ≡ true = is in absurd (true≢false (sym bad))
has_places lines name (p ∷ places) true is exact = let none : length (p ∷ places) ≡ 0 = grind (arith, is) in absurd (omega (arith, none))
