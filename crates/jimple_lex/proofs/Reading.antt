-- Reading a text from its front: what stands before a place, and what is left.
use Rattle.std.proofs.Common.{◌≡◌, ℕ, suc, ◌+◌, ◌<◌, ◌≤◌, Bool, true, false, List, [], ◌∷◌, ◌++◌, length, drop, slice_index, sym, ap, subst, refl, ◌∙◌, arith, append_assoc, append-nil, length-append, Some, None}
use Rattle.std.proofs.lemmas.List.{drop_all}
use Rattle.jimple_lex.specs.Bytes.{is_blank}
use Rattle.jimple_words.specs.Kinds.{is_keyword}
use Rattle.jimple_lex.specs.Lexed.{Lexed, ends, blank, comment, token}
use Rattle.jimple_lex.specs.Faults.{FaultKind, bad_byte, open_text, FirstFault, bad, unended, past_blank, past_comment, past_token, Stuck, opens, IsFault, IsLexical, at_byte, at_open}
use Rattle.jimple_lex.specs.Ends.{Ends, part}
use Rattle.jimple_lex.specs.Front.{front, FormOf, kind_of, FaultAt, no_begin, no_end}
use Rattle.jimple_lex.specs.declared.front.Front.{Front}
use Rattle.jimple_lex.specs.declared.front.Front.TheVariants as fronts
use Rattle.jimple_lex.specs.declared.token.Token.{Token}
use Rattle.jimple_lex.specs.declared.token.TokenKind.{TokenKind}
use Rattle.jimple_lex.specs.declared.token.TokenKind.TheVariants as kinds
use Rattle.clean_base.specs.declared.fault.InputFault.{InputFault}
use Rattle.jimple_lex.proofs.Parts.{parts, part_length, ends_some}
use Rattle.jimple_lex.proofs.Places.{front_is, part_one}
use Rattle.jimple_lex.proofs.Fronts.{not_true}
use Rattle.jimple_lex.proofs.Pieces.{one_piece, form_front, token_form, form_token, form_some}

abbrev pub token_at : TokenKind → ℕ → ℕ → Token
token_at k from to = record { kind = k; from = from; to = to }

-- what stands at the front of a text with tokens
data View (at : ℕ) (whole : List ℕ) (ts : List Token) : Type 0 where
  over : whole ≡ [] → ts ≡ [] → View at whole ts
  gap : (f : Front) (text rest : List ℕ) → whole ≡ text ++ rest → FormOf f text rest → kind_of f text ≡ None → Lexed (at + length text) rest ts → View at whole ts
  found : (f : Front) (text rest : List ℕ) (k : TokenKind) (later : List Token) → whole ≡ text ++ rest → FormOf f text rest → kind_of f text ≡ Some k → ts ≡ token_at k at (at + length text) ∷ later
      → Lexed (at + length text) rest later → View at whole ts

view : {at : ℕ} {whole : List ℕ} {ts : List Token} → Lexed at whole ts → View at whole ts
view ends = over refl refl
view {at = at} {ts = ts} (blank {c = c} {rest = rest} b l) = gap fronts.Blank (c ∷ []) rest refl (c, refl, b) refl (subst (λ (n : ℕ). Lexed n rest ts) (let one : suc at ≡ at + length (c ∷ []) = omega arith in one) l)
view {ts = ts} (comment text rest e n c l) = gap fronts.Comment text rest e c refl (subst (λ (k : ℕ). Lexed k rest ts) n l)
view {at = at} (token {later = later} k text rest e n t l) = let f = token_form k text rest t in
    found f.0 text rest k later e f.1 f.2 (ap (λ (m : ℕ). token_at k at m ∷ later) n) (subst (λ (m : ℕ). Lexed m rest later) n l)

-- a gap and a token before a text with tokens
gap_before : (f : Front) (text rest : List ℕ) (at : ℕ) (ts : List Token) → FormOf f text rest → kind_of f text ≡ None → Lexed (at + length text) rest ts → Lexed at (text ++ rest) ts
gap_before fronts.Blank text rest at ts a n l = subst (λ (t : List ℕ). Lexed at (t ++ rest) ts) (sym a.1)
    (blank a.2 (subst (λ (k : ℕ). Lexed k rest ts) (let size = ap length a.1 in let one : at + length text ≡ suc at = omega (arith, size) in one) l))
gap_before fronts.Comment text rest at ts a n l = comment text rest refl refl a l
gap_before fronts.Word text rest at ts a n l = absurd (some_none n) where
  some_none : {k : TokenKind} → Some k ≡ None → ⊥
  some_none e = cc
gap_before fronts.Number text rest at ts a n l = absurd (let bad : Some _ ≡ None = n in cc)
gap_before fronts.Text text rest at ts a n l = absurd (let bad : Some _ ≡ None = n in cc)
gap_before fronts.Sign text rest at ts a n l = absurd (let bad : Some _ ≡ None = n in cc)

gap_fault : (f : Front) (text rest : List ℕ) (at : ℕ) (kind : FaultKind) (place : ℕ) → FormOf f text rest → kind_of f text ≡ None → FirstFault (at + length text) rest kind place → FirstFault at (text ++ rest) kind place
gap_fault fronts.Blank text rest at kind place a n l = subst (λ (t : List ℕ). FirstFault at (t ++ rest) kind place) (sym a.1)
    (past_blank a.2 (subst (λ (k : ℕ). FirstFault k rest kind place) (let size = ap length a.1 in let one : at + length text ≡ suc at = omega (arith, size) in one) l))
gap_fault fronts.Comment text rest at kind place a n l = past_comment text rest refl refl a l
gap_fault fronts.Word text rest at kind place a n l = absurd (let bad : Some _ ≡ None = n in cc)
gap_fault fronts.Number text rest at kind place a n l = absurd (let bad : Some _ ≡ None = n in cc)
gap_fault fronts.Text text rest at kind place a n l = absurd (let bad : Some _ ≡ None = n in cc)
gap_fault fronts.Sign text rest at kind place a n l = absurd (let bad : Some _ ≡ None = n in cc)

-- what stands at the front of a text with a fault
abbrev IsHere : List ℕ → FaultKind → Type 0
IsHere whole bad_byte = opens whole ≡ false
IsHere whole open_text = opens whole ≡ true

data FaultView (at : ℕ) (whole : List ℕ) (kind : FaultKind) (place : ℕ) : Type 0 where
  here : Stuck whole → place ≡ at → IsHere whole kind → FaultView at whole kind place
  past : (f : Front) (text rest : List ℕ) → whole ≡ text ++ rest → FormOf f text rest → FirstFault (at + length text) rest kind place → FaultView at whole kind place

fault_view : {at : ℕ} {whole : List ℕ} {kind : FaultKind} {place : ℕ} → FirstFault at whole kind place → FaultView at whole kind place
fault_view (bad s o) = here s refl o
fault_view (unended s o) = here s refl o
fault_view {at = at} {kind = kind} {place = place} (past_blank {c = c} {rest = rest} b p) =
    past fronts.Blank (c ∷ []) rest refl (c, refl, b) (subst (λ (n : ℕ). FirstFault n rest kind place) (let one : suc at ≡ at + length (c ∷ []) = omega arith in one) p)
fault_view {kind = kind} {place = place} (past_comment text rest e n c p) = past fronts.Comment text rest e c (subst (λ (k : ℕ). FirstFault k rest kind place) n p)
fault_view {kind = kind} {place = place} (past_token k text rest e n t p) = let f = token_form k text rest t in past f.0 text rest e f.1 (subst (λ (m : ℕ). FirstFault m rest kind place) n p)

stuck_none : (f : Front) (whole text rest : List ℕ) → whole ≡ text ++ rest → FormOf f text rest → Stuck whole → ⊥
stuck_none fronts.Blank whole text rest e a s = let bad : false ≡ true = sym (s.no_blank a.0 rest (e ∙ ap (λ (t : List ℕ). t ++ rest) a.1)) ∙ a.2 in cc
stuck_none fronts.Comment whole text rest e a s = s.no_comment text rest e a
stuck_none fronts.Word whole text rest e a s = by (is_keyword text) refl where
  by : (b : Bool) → is_keyword text ≡ b → ⊥
  by true k = s.no_token kinds.Keyword text rest e (a, k)
  by false k = s.no_token kinds.Word text rest e (a, k)
stuck_none fronts.Number whole text rest e a s = s.no_token kinds.Number text rest e a
stuck_none fronts.Text whole text rest e a s = s.no_token kinds.Text text rest e a
stuck_none fronts.Sign whole text rest e a s = s.no_token kinds.Sign text rest e a

one_kind : (whole : List ℕ) (j k : FaultKind) → IsHere whole j → IsHere whole k → j ≡ k
one_kind whole bad_byte bad_byte a b = refl
one_kind whole bad_byte open_text a b = absurd (let bad : false ≡ true = sym a ∙ b in cc)
one_kind whole open_text bad_byte a b = absurd (let bad : false ≡ true = sym b ∙ a in cc)
one_kind whole open_text open_text a b = refl

-- so many bytes are read, and these are their tokens
pub record Read (bytes : List ℕ) (at : ℕ) (done : List Token) : Type 0 where
  pub within : at ≤ length bytes
  pub sound : (ts : List Token) → Lexed at (drop at bytes) ts → Lexed 0 bytes (done ++ ts)
  pub whole : (ts : List Token) → Lexed 0 bytes ts → (us : List Token) × (ts ≡ done ++ us) × Lexed at (drop at bytes) us
  pub first : (kind : FaultKind) (place : ℕ) → FirstFault at (drop at bytes) kind place → FirstFault 0 bytes kind place
  pub left : (kind : FaultKind) (place : ℕ) → FirstFault 0 bytes kind place → FirstFault at (drop at bytes) kind place

pub begun : (bytes : List ℕ) → Read bytes 0 []
begun bytes = record { within = omega arith; sound = λ ts l. l; whole = λ ts l. (ts, refl, l); first = λ kind place f. f; left = λ kind place f. f }

pub finished : (bytes : List ℕ) (at : ℕ) (done : List Token) → Read bytes at done → length bytes ≤ at → Lexed 0 bytes done
finished bytes at done r end = subst (λ (ts : List Token). Lexed 0 bytes ts) (append-nil done) (r.sound [] (subst (λ (bs : List ℕ). Lexed at bs []) (sym (drop_all at bytes end)) ends))

nothing_left : (at : ℕ) (us : List Token) → Lexed at [] us → us ≡ []
nothing_left at us l = by_view (view l) where
  by_view : View at [] us → us ≡ []
  by_view (over e n) = n
  by_view (gap f text rest e a n m) = absurd (let some = form_some f text rest a in let size = ap length e in let sum = length-append text rest in omega (arith, some, size, sum))
  by_view (found f text rest k later e a n t m) = absurd (let some = form_some f text rest a in let size = ap length e in let sum = length-append text rest in omega (arith, some, size, sum))

no_fault_left : (at : ℕ) (kind : FaultKind) (place : ℕ) → FirstFault at [] kind place → ⊥
no_fault_left at kind place p = by_view (fault_view p) where
  by_view : FaultView at [] kind place → ⊥
  by_view (here s e h) = s.goes_on refl
  by_view (past f text rest e a q) = let some = form_some f text rest a in let size = ap length e in let sum = length-append text rest in omega (arith, some, size, sum)

pub faultless : (bytes : List ℕ) (at : ℕ) (done : List Token) → Read bytes at done → length bytes ≤ at → (kind : FaultKind) (place : ℕ) → FirstFault 0 bytes kind place → ⊥
faultless bytes at done r end kind place p = no_fault_left at kind place (subst (λ (bs : List ℕ). FirstFault at bs kind place) (drop_all at bytes end) (r.left kind place p))

pub only_these : (bytes : List ℕ) (at : ℕ) (done : List Token) → Read bytes at done → length bytes ≤ at → (us : List Token) → Lexed 0 bytes us → us ≡ done
only_these bytes at done r end us l =
    let left = r.whole us l in
    left.1 ∙ ap (λ (ts : List Token). done ++ ts) (nothing_left at left.0 (subst (λ (bs : List ℕ). Lexed at bs left.0) (drop_all at bytes end) left.2)) ∙ append-nil done

module _ (bytes : List ℕ) (at to : ℕ) (done : List Token) (r : Read bytes at done) (order : at < to) (within : to ≤ length bytes) (f : Front) (form : FormOf f (part bytes at to) (drop to bytes)) where
  text : List ℕ
  text = part bytes at to

  split : drop at bytes ≡ text ++ drop to bytes
  unfolding text
  split = parts bytes at to (omega arith)

  size : at + length text ≡ to
  unfolding text
  size = let n = part_length bytes at to (omega arith) within in omega (arith, n)

  not_over : drop at bytes ≡ [] → ⊥
  not_over e = let bad : slice_index bytes at ∷ drop (suc at) bytes ≡ [] = sym (front_is bytes at (omega arith)) ∙ e in cc

  same_piece : (g : Front) (other rest : List ℕ) → drop at bytes ≡ other ++ rest → FormOf g other rest → (f ≡ g) × (text ≡ other) × (drop to bytes ≡ rest)
  unfolding text
  same_piece g other rest e a = one_piece f g text (drop to bytes) other rest form a (sym split ∙ e)

  left_on : (kind : FaultKind) (place : ℕ) → FirstFault 0 bytes kind place → FirstFault to (drop to bytes) kind place
  unfolding text
  left_on kind place p = off (fault_view (r.left kind place p)) where
    off : FaultView at (drop at bytes) kind place → FirstFault to (drop to bytes) kind place
    off (here s e h) = absurd (stuck_none f (drop at bytes) text (drop to bytes) split form s)
    off (past g other rest e a q) = let s = same_piece g other rest e a in
        subst (λ (bs : List ℕ). FirstFault to bs kind place) (sym s.2) (subst (λ (k : ℕ). FirstFault k rest kind place) (ap (λ (u : List ℕ). at + length u) (sym s.1) ∙ size) q)

  same_kind : (g : Front) (other : List ℕ) → f ≡ g → text ≡ other → kind_of f text ≡ kind_of g other
  same_kind g other e t = ap (λ (h : Front). kind_of h text) e ∙ ap (kind_of g) t

  same_left : (other rest : List ℕ) (ts : List Token) → text ≡ other → drop to bytes ≡ rest → Lexed (at + length other) rest ts → Lexed to (drop to bytes) ts
  same_left other rest ts t e l = subst (λ (bs : List ℕ). Lexed to bs ts) (sym e) (subst (λ (k : ℕ). Lexed k rest ts) (ap (λ (u : List ℕ). at + length u) (sym t) ∙ size) l)

  pub gap_on : kind_of f (part bytes at to) ≡ None → Read bytes to done
  unfolding text
  gap_on none = record {
    within = within;
    sound = λ ts l. r.sound ts (subst (λ (bs : List ℕ). Lexed at bs ts) (sym split) (gap_before f text (drop to bytes) at ts form none (subst (λ (k : ℕ). Lexed k (drop to bytes) ts) (sym size) l)));
    whole = λ ts l. let w = r.whole ts l in (w.0, w.1, off w.0 (view w.2));
    first = λ kind place p. r.first kind place (subst (λ (bs : List ℕ). FirstFault at bs kind place) (sym split) (gap_fault f text (drop to bytes) at kind place form none (subst (λ (k : ℕ). FirstFault k (drop to bytes) kind place) (sym size) p)));
    left = left_on;
  } where
    off : (us : List Token) → View at (drop at bytes) us → Lexed to (drop to bytes) us
    off us (over e n) = absurd (not_over e)
    off us (gap g other rest e a n l) = let s = same_piece g other rest e a in same_left other rest us s.1 s.2 l
    off us (found g other rest k later e a n t l) = let s = same_piece g other rest e a in absurd (let bad : None ≡ Some k = sym none ∙ same_kind g other s.0 s.1 ∙ n in cc)

  pub token_on : (k : TokenKind) → kind_of f (part bytes at to) ≡ Some k → Read bytes to (done ++ token_at k at to ∷ [])
  unfolding text
  token_on k some = record {
    within = within;
    sound = λ ts l. subst (λ (us : List Token). Lexed 0 bytes us) (sym (append_assoc done (token_at k at to ∷ []) ts))
        (r.sound (token_at k at to ∷ ts) (token k text (drop to bytes) split (sym size) (form_token f k text (drop to bytes) form some) l));
    whole = λ ts l. let w = r.whole ts l in let next = off w.0 (view w.2) in
        (next.0, w.1 ∙ ap (λ (us : List Token). done ++ us) next.1 ∙ sym (append_assoc done (token_at k at to ∷ []) next.0), next.2);
    first = λ kind place p. r.first kind place (past_token k text (drop to bytes) split (sym size) (form_token f k text (drop to bytes) form some) p);
    left = left_on;
  } where
    off : (us : List Token) → View at (drop at bytes) us → (later : List Token) × (us ≡ token_at k at to ∷ later) × Lexed to (drop to bytes) later
    off us (over e n) = absurd (not_over e)
    off us (gap g other rest e a n l) = let s = same_piece g other rest e a in absurd (let bad : Some k ≡ None = sym some ∙ same_kind g other s.0 s.1 ∙ n in cc)
    off us (found g other rest j later e a n t l) = let s = same_piece g other rest e a in
        let kinds_are : Some j ≡ Some k = sym n ∙ sym (same_kind g other s.0 s.1) ∙ some in
        let kind_is : j ≡ k = cc in
        let end : at + length other ≡ to = ap (λ (u : List ℕ). at + length u) (sym s.1) ∙ size in
        (later, t ∙ ap (λ (h : TokenKind). token_at h at (at + length other) ∷ later) kind_is ∙ ap (λ (m : ℕ). token_at k at m ∷ later) end, same_left other rest later s.1 s.2 l)

-- nothing stands there
module _ (bytes : List ℕ) (at : ℕ) (done : List Token) (r : Read bytes at done) (below : at < length bytes) (f : Front) (is : f ≡ front (drop at bytes)) (e : Ends (FormOf f) bytes at at) where
  no_form : (g : Front) (text rest : List ℕ) → drop at bytes ≡ text ++ rest → FormOf g text rest → ⊥
  no_form g text rest split a =
      let same : g ≡ f = sym (form_front g text rest a) ∙ ap front (sym split) ∙ sym is in
      e.none (omega arith) text rest split (subst (λ (h : Front). FormOf h text rest) same a)

  not_empty : drop at bytes ≡ [] → ⊥
  not_empty none = let bad : slice_index bytes at ∷ drop (suc at) bytes ≡ [] = sym (front_is bytes at below) ∙ none in cc

  stuck : Stuck (drop at bytes)
  stuck = record {
    goes_on = not_empty;
    no_blank = λ c rest split. not_true (is_blank c) (λ b. no_form fronts.Blank (c ∷ []) rest split (c, refl, b));
    no_comment = λ text rest split c. no_form fronts.Comment text rest split c;
    no_token = λ k text rest split t. let g = token_form k text rest t in no_form g.0 text rest split g.1;
  }

  no_tokens : (us : List Token) → Lexed 0 bytes us → ⊥
  no_tokens us l = let w = r.whole us l in by_view w.0 (view w.2) where
    by_view : (vs : List Token) → View at (drop at bytes) vs → ⊥
    by_view vs (over none n) = not_empty none
    by_view vs (gap g text rest split a n l) = no_form g text rest split a
    by_view vs (found g text rest k later split a n t l) = no_form g text rest split a

  -- and the fault that stands there is the only one
  no_other : (kind : FaultKind) → IsHere (drop at bytes) kind → (other : FaultKind) (place : ℕ) → FirstFault 0 bytes other place → (other ≡ kind) × (place ≡ at)
  no_other kind is_here other place p = by_view (fault_view (r.left other place p)) where
    by_view : FaultView at (drop at bytes) other place → (other ≡ kind) × (place ≡ at)
    by_view (here s e h) = (one_kind (drop at bytes) other kind h is_here, e)
    by_view (past g text rest split a q) = absurd (no_form g text rest split a)

  there : (file : ℕ) (kind : FaultKind) (named place : ℕ) → IsHere (drop at bytes) kind → FirstFault at (drop at bytes) kind at → named ≡ file → place ≡ at → IsFault file bytes kind named place
  there file kind named place is_here begun in_file same = record {
    in_file = in_file;
    first = subst (FirstFault 0 bytes kind) (sym same) (r.first kind at begun);
    no_other = λ other place p. let o = no_other kind is_here other place p in (o.0, o.1 ∙ sym same);
    no_tokens = no_tokens;
  }

  pub faulted : (file : ℕ) (fault : InputFault) → FaultAt file (drop at bytes) at fault → IsLexical file bytes fault
  faulted file _ (no_begin named place shut) = at_byte (there file bad_byte _ _ shut (bad stuck shut) named place)
  faulted file _ (no_end named place opened) = at_open (there file open_text _ _ opened (unended stuck opened) named place)

pub blank_there : (bytes : List ℕ) (at : ℕ) → at < length bytes → is_blank (slice_index bytes at) ≡ true → Ends (FormOf fronts.Blank) bytes at (at + 1)
blank_there bytes at below b = let one : at + 1 ≡ suc at = omega arith in
    subst (Ends (FormOf fronts.Blank) bytes at) (sym one) (ends_some (FormOf fronts.Blank) bytes at (suc at) (omega arith) (omega (arith, below)) (slice_index bytes at, part_one bytes at below, b))
