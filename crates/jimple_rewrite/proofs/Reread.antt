-- Texts that are read again: what a form is written as has pieces that spell the form, with a tree that is right.
-- Operands stand above, pieces below.
use Rattle.std.proofs.Common.{◌≡◌, inl, inr, ℕ, true, List, [], ◌∷◌, ◌++◌, sym, ap, subst, refl, ◌∙◌, append_assoc, append-nil}
use Rattle.std.specs.List.{AllByRecursion, flat_map, list_all}
use Rattle.jimple_lex.specs.Bytes.{is_blank}
use Rattle.jimple_lex.specs.Tokens.{IsToken}
use Rattle.jimple_lex.specs.declared.token.TokenKind.{TokenKind}
use Rattle.jimple_words.specs.Kind.{Kinds, has}
use Rattle.std.proofs.lemmas.Bool.{and_parts}
use Rattle.jimple_grammar.specs.Grammar.{Look, Grammar, Spells, ManySpells, last, more, nothing, token as one_token, both, either, many, plain, given, ends, ◌<*>◌, ◌<*◌, ◌*>◌}
use Rattle.jimple_grammar.specs.Lexemes.{kind_of, between}
use Rattle.jimple_grammar.specs.declared.lexeme.Lexeme.{Lexeme}
use Rattle.jimple_rewrite.proofs.Pieces.{Piece, blank, token, flatten, Fine, stands}
use Rattle.jimple_rewrite.proofs.Pieces as pieces

-- a token of that kind of the lexer and of that text
pub record IsOf (bytes : List ℕ) (lexed_as : TokenKind) (word : List ℕ) (t : Lexeme) : Type 0 where
  pub kind : t.kind ≡ kind_of lexed_as word
  pub text : between bytes t.from t.to ≡ word

-- the tokens are those of the pieces
abbrev pub Are : List ℕ → List Lexeme → List Piece → Type 0
Are bytes ts [] = ts ≡ []
Are bytes ts (blank text ∷ pieces) = Are bytes ts pieces
Are bytes ts (token kind word ∷ pieces) = (t : Lexeme) × (later : List Lexeme) × (ts ≡ t ∷ later) × IsOf bytes kind word t × Are bytes later pieces

-- A tree that is right for what it was made from, and tokens that spell it.
pub record IsTree {A : Type 0} (g : Grammar A) (Right : A → Type 0) (ts : List Lexeme) : Type 0 where
  pub tree : A
  pub spelled : Spells g ts tree
  pub right : Right tree

-- The text is in pieces, each of which is what it says where the text behind may follow; and their tokens, wherever they
-- stand in the bytes, spell a tree of the form, which is right.
pub record IsReread {A : Type 0} (bytes : List ℕ) (g : Grammar A) (Before : List ℕ → Type 0) (text : List ℕ) (Right : A → Type 0) : Type 0 where
  pub pieces : List Piece
  pub same : flatten pieces ≡ text
  pub fine : (rest : List Piece) → Before (flatten rest) → Fine rest → Fine (pieces ++ rest)
  pub read : (ts : List Lexeme) → Are bytes ts pieces → IsTree g Right ts

-- anything may follow
abbrev pub Anything : List ℕ → Type 0
Anything rest = Unit {0}

-- Pieces

pub flatten_append : (ps qs : List Piece) → flatten (ps ++ qs) ≡ flatten ps ++ flatten qs
flatten_append [] qs = refl
flatten_append (blank text ∷ ps) qs = ap (λ u. text ++ u) (flatten_append ps qs) ∙ sym (append_assoc text (flatten ps) (flatten qs))
flatten_append (token kind text ∷ ps) qs = ap (λ u. text ++ u) (flatten_append ps qs) ∙ sym (append_assoc text (flatten ps) (flatten qs))

record Parted (bytes : List ℕ) (ts : List Lexeme) (ps qs : List Piece) : Type 0 where
  front : List Lexeme
  rest : List Lexeme
  is : ts ≡ front ++ rest
  first : Are bytes front ps
  second : Are bytes rest qs

parted : (bytes : List ℕ) (ts : List Lexeme) (ps qs : List Piece) → Are bytes ts (ps ++ qs) → Parted bytes ts ps qs
parted bytes ts [] qs a = record { front = []; rest = ts; is = refl; first = refl; second = a }
parted bytes ts (blank text ∷ ps) qs a = let p = parted bytes ts ps qs a in record { front = p.front; rest = p.rest; is = p.is; first = p.first; second = p.second }
parted bytes ts (token kind word ∷ ps) qs (t, later, e, i, a) =
    let p = parted bytes later ps qs a in record { front = t ∷ p.front; rest = p.rest; is = e ∙ ap (λ (us : List Lexeme). t ∷ us) p.is; first = (t, p.front, refl, i, p.first); second = p.second }

-- Parts one after the other

behind_pieces : (Before : List ℕ → Type 0) (text : List ℕ) (ps rest : List Piece) → flatten ps ≡ text → Before (text ++ flatten rest) → Before (flatten (ps ++ rest))
behind_pieces Before text ps rest same b = subst Before (sym (flatten_append ps rest ∙ ap (λ u. u ++ flatten rest) same)) b

module _ {A B : Type 0} {bytes : List ℕ} {a : Grammar A} {P Q : List ℕ → Type 0} {t u : List ℕ} {G : A → Type 0} (v : IsReread bytes a P t G) where
  fine_both : {b : Grammar B} {H : B → Type 0} (w : IsReread bytes b Q u H) → ((rest : List ℕ) → Q rest → P (u ++ rest)) → (rest : List Piece) → Q (flatten rest) → Fine rest → Fine ((v.pieces ++ w.pieces) ++ rest)
  fine_both w next rest q f =
      subst Fine (sym (append_assoc v.pieces w.pieces rest)) (v.fine (w.pieces ++ rest) (behind_pieces P u w.pieces rest w.same (next (flatten rest) q)) (w.fine rest q f))

  same_both : {b : Grammar B} {H : B → Type 0} (w : IsReread bytes b Q u H) → flatten (v.pieces ++ w.pieces) ≡ t ++ u
  same_both w = flatten_append v.pieces w.pieces ∙ ap (λ x. x ++ flatten w.pieces) v.same ∙ ap (λ x. t ++ x) w.same

-- the trees of two parts are right, and this is what they come to
pub record Both {A B C : Type 0} (f : A → B → C) (G : A → Type 0) (H : B → Type 0) (z : C) : Type 0 where
  pub first : A
  pub second : B
  pub one : G first
  pub two : H second
  pub is : z ≡ f first second

-- one form and then another, where what the second one begins with may follow the first
pub then : {A B C : Type 0} (f : A → B → C) {bytes : List ℕ} {a : Grammar A} {b : Grammar B} {P Q : List ℕ → Type 0} {t u : List ℕ} {G : A → Type 0} {H : B → Type 0}
    → IsReread bytes a P t G → IsReread bytes b Q u H → ((rest : List ℕ) → Q rest → P (u ++ rest)) → IsReread bytes (both f a b) Q (t ++ u) (Both f G H)
then f {bytes = bytes} v w next = record {
  pieces = v.pieces ++ w.pieces;
  same = same_both v w;
  fine = fine_both v w next;
  read = λ ts are.
      let p = parted bytes ts v.pieces w.pieces are in
      let x = v.read p.front p.first in
      let y = w.read p.rest p.second in
      record { tree = f x.tree y.tree; spelled = (x.tree, y.tree, p.front, p.rest, p.is, x.spelled, y.spelled, refl); right = record { first = x.tree; second = y.tree; one = x.right; two = y.right; is = refl } };
}

-- a tree is right by another measure
pub right : {A : Type 0} {bytes : List ℕ} {g : Grammar A} {P : List ℕ → Type 0} {t : List ℕ} {G K : A → Type 0} → IsReread bytes g P t G → ((v : A) → G v → K v) → IsReread bytes g P t K
right v k = record { pieces = v.pieces; same = v.same; fine = v.fine; read = λ ts are. let x = v.read ts are in record { tree = x.tree; spelled = x.spelled; right = k x.tree x.right } }

-- what a function of two right trees comes to
pub both_right : {A B C : Type 0} {f : A → B → C} {bytes : List ℕ} {g : Grammar C} {P : List ℕ → Type 0} {t : List ℕ} {G : A → Type 0} {H : B → Type 0} {K : C → Type 0}
    → IsReread bytes g P t (Both f G H) → ((x : A) (y : B) → G x → H y → K (f x y)) → IsReread bytes g P t K
both_right {K = K} v k = right v (λ z b. subst K (sym b.is) (k b.first b.second b.one b.two))

-- the second form hangs on a number that the first tree has
pub then_by : {A B C : Type 0} (f : A → B → C) (number : A → ℕ) (n : ℕ) (b : ℕ → Grammar B) {bytes : List ℕ} {a : Grammar A} {P Q : List ℕ → Type 0} {t u : List ℕ} {G : A → Type 0} {H : B → Type 0}
    → IsReread bytes a P t G → IsReread bytes (b n) Q u H → ((rest : List ℕ) → Q rest → P (u ++ rest)) → ((x : A) → G x → n ≡ number x) → IsReread bytes (given f a (λ x. b (number x))) Q (t ++ u) (Both f G H)
then_by f number n b {bytes = bytes} v w next counted = record {
  pieces = v.pieces ++ w.pieces;
  same = same_both v w;
  fine = fine_both v w next;
  read = λ ts are.
      let p = parted bytes ts v.pieces w.pieces are in
      let x = v.read p.front p.first in
      let y = w.read p.rest p.second in
      record {
        tree = f x.tree y.tree;
        spelled = (x.tree, y.tree, p.front, p.rest, p.is, x.spelled, subst (λ (k : ℕ). Spells (b k) p.rest y.tree) (counted x.tree x.right) y.spelled, refl);
        right = record { first = x.tree; second = y.tree; one = x.right; two = y.right; is = refl };
      };
}

-- less may follow
pub before : {A : Type 0} {bytes : List ℕ} {g : Grammar A} {P Q : List ℕ → Type 0} {t : List ℕ} {G : A → Type 0} → IsReread bytes g P t G → ((rest : List ℕ) → Q rest → P rest) → IsReread bytes g Q t G
before v less = record { pieces = v.pieces; same = v.same; fine = λ rest q f. v.fine rest (less (flatten rest) q) f; read = v.read }

-- the text put together in another way
pub written : {A : Type 0} {bytes : List ℕ} {g : Grammar A} {P : List ℕ → Type 0} {t u : List ℕ} {G : A → Type 0} → t ≡ u → IsReread bytes g P t G → IsReread bytes g P u G
written {bytes = bytes} {g = g} {P = P} {G = G} e v = subst (λ w. IsReread bytes g P w G) e v

-- two constant texts at the end are one
pub joined : (t u v : List ℕ) {A : Type 0} {bytes : List ℕ} {g : Grammar A} {P : List ℕ → Type 0} {G : A → Type 0} → IsReread bytes g P ((t ++ u) ++ v) G → IsReread bytes g P (t ++ (u ++ v)) G
joined t u v r = written (append_assoc t u v) r

-- two texts that are one at the end stand apart
pub apart : (t u v : List ℕ) {A : Type 0} {bytes : List ℕ} {g : Grammar A} {P : List ℕ → Type 0} {G : A → Type 0} → IsReread bytes g P (t ++ (u ++ v)) G → IsReread bytes g P ((t ++ u) ++ v) G
apart t u v r = written (sym (append_assoc t u v)) r

-- Forms

-- the tree is this one
abbrev pub Is : {A : Type 0} → A → A → Type 0
Is x y = y ≡ x

-- no token, with this tree
pub none : {A : Type 0} {bytes : List ℕ} (x : A) → IsReread bytes (nothing x) Anything [] (Is x)
none x = record { pieces = []; same = refl; fine = λ rest p f. f; read = λ ts are. record { tree = x; spelled = (are, refl); right = refl } }

-- one token
pub one : {bytes : List ℕ} {ks : Kinds} (kind : TokenKind) (word : List ℕ) {P : List ℕ → Type 0} → has ks (kind_of kind word) ≡ true → ((rest : List ℕ) → P rest → IsToken kind word rest) → IsReread bytes (one_token ks) P word (IsOf bytes kind word)
one {ks = ks} kind word h i = record {
  pieces = token kind word ∷ [];
  same = append-nil word;
  fine = λ rest p f. stands (i (flatten rest) p) f;
  read = λ ts (t, later, e, is, no_more). record { tree = t; spelled = (e ∙ ap (λ (us : List Lexeme). t ∷ us) no_more, ap (has ks) is.kind ∙ h); right = is };
}

-- the trees of a row of parts are right, and the function has been applied to them
pub record Applied {A B : Type 0} (F : (A → B) → Type 0) (G : A → Type 0) (z : B) : Type 0 where
  pub function : A → B
  pub argument : A
  pub one : F function
  pub two : G argument
  pub is : z ≡ function argument

-- a function and its argument; where anything may follow the first part, `app`
pub app_before : {A B : Type 0} {bytes : List ℕ} {a : Grammar (A → B)} {b : Grammar A} {P Q : List ℕ → Type 0} {t u : List ℕ} {F : (A → B) → Type 0} {G : A → Type 0}
    → IsReread bytes a P t F → IsReread bytes b Q u G → ((rest : List ℕ) → Q rest → P (u ++ rest)) → IsReread bytes (a <*> b) Q (t ++ u) (Applied F G)
app_before v w next = right (then (λ f x. f x) v w next) (λ z b. record { function = b.first; argument = b.second; one = b.one; two = b.two; is = b.is })

pub app : {A B : Type 0} {bytes : List ℕ} {a : Grammar (A → B)} {b : Grammar A} {Q : List ℕ → Type 0} {t u : List ℕ} {F : (A → B) → Type 0} {G : A → Type 0}
    → IsReread bytes a Anything t F → IsReread bytes b Q u G → IsReread bytes (a <*> b) Q (t ++ u) (Applied F G)
app v w = app_before v w (λ rest q. tt)

-- two parts, of which the first one's tree counts
pub keep_before : {A B : Type 0} {bytes : List ℕ} {a : Grammar A} {b : Grammar B} {P Q : List ℕ → Type 0} {t u : List ℕ} {G : A → Type 0} {H : B → Type 0}
    → IsReread bytes a P t G → IsReread bytes b Q u H → ((rest : List ℕ) → Q rest → P (u ++ rest)) → IsReread bytes (a <* b) Q (t ++ u) G
keep_before {G = G} v w next = right (then (λ x y. x) v w next) (λ z b. subst G (sym b.is) b.one)

pub keep : {A B : Type 0} {bytes : List ℕ} {a : Grammar A} {b : Grammar B} {Q : List ℕ → Type 0} {t u : List ℕ} {G : A → Type 0} {H : B → Type 0}
    → IsReread bytes a Anything t G → IsReread bytes b Q u H → IsReread bytes (a <* b) Q (t ++ u) G
keep v w = keep_before v w (λ rest q. tt)

-- two parts, of which the second one's tree counts
pub pass_before : {A B : Type 0} {bytes : List ℕ} {a : Grammar A} {b : Grammar B} {P Q : List ℕ → Type 0} {t u : List ℕ} {G : A → Type 0} {H : B → Type 0}
    → IsReread bytes a P t G → IsReread bytes b Q u H → ((rest : List ℕ) → Q rest → P (u ++ rest)) → IsReread bytes (a *> b) Q (t ++ u) H
pass_before {H = H} v w next = right (then (λ x y. y) v w next) (λ z b. subst H (sym b.is) b.two)

pub pass : {A B : Type 0} {bytes : List ℕ} {a : Grammar A} {b : Grammar B} {Q : List ℕ → Type 0} {t u : List ℕ} {G : A → Type 0} {H : B → Type 0}
    → IsReread bytes a Anything t G → IsReread bytes b Q u H → IsReread bytes (a *> b) Q (t ++ u) H
pass v w = pass_before v w (λ rest q. tt)

-- the first of two alternatives, and the other
pub left : {A : Type 0} {bytes : List ℕ} {a b : Grammar A} {P : List ℕ → Type 0} {t : List ℕ} {G : A → Type 0} → IsReread bytes a P t G → IsReread bytes (either a b) P t G
left v = record { pieces = v.pieces; same = v.same; fine = v.fine; read = λ ts are. let x = v.read ts are in record { tree = x.tree; spelled = inl x.spelled; right = x.right } }

pub other : {A : Type 0} {bytes : List ℕ} {a b : Grammar A} {P : List ℕ → Type 0} {t : List ℕ} {G : A → Type 0} → IsReread bytes b P t G → IsReread bytes (either a b) P t G
other v = record { pieces = v.pieces; same = v.same; fine = v.fine; read = λ ts are. let x = v.read ts are in record { tree = x.tree; spelled = inr x.spelled; right = x.right } }

-- behind so many alternatives
pub past_two : {A : Type 0} {bytes : List ℕ} {a b c : Grammar A} {P : List ℕ → Type 0} {t : List ℕ} {G : A → Type 0} → IsReread bytes c P t G → IsReread bytes (either a (either b c)) P t G
past_two v = other (other v)

pub past_four : {A : Type 0} {bytes : List ℕ} {a b c d e : Grammar A} {P : List ℕ → Type 0} {t : List ℕ} {G : A → Type 0} → IsReread bytes e P t G → IsReread bytes (either a (either b (either c (either d e)))) P t G
past_four v = past_two (past_two v)

pub past_eight : {A : Type 0} {bytes : List ℕ} {a b c d e f g h i : Grammar A} {P : List ℕ → Type 0} {t : List ℕ} {G : A → Type 0}
    → IsReread bytes i P t G → IsReread bytes (either a (either b (either c (either d (either e (either f (either g (either h i)))))))) P t G
past_eight v = past_four (past_four v)

-- What a function of so many right parts comes to

pub of_one : {A B : Type 0} {bytes : List ℕ} {g : Grammar B} {P : List ℕ → Type 0} {t : List ℕ} {f : A → B} {G : A → Type 0} {K : B → Type 0}
    → IsReread bytes g P t (Applied (Is f) G) → ((x : A) → G x → K (f x)) → IsReread bytes g P t K
of_one {K = K} v k = right v (λ z a. subst K (sym (a.is ∙ ap (λ f. f a.argument) a.one)) (k a.argument a.two))

pub of_two : {A B C : Type 0} {bytes : List ℕ} {g : Grammar C} {P : List ℕ → Type 0} {t : List ℕ} {f : A → B → C} {G : A → Type 0} {H : B → Type 0} {K : C → Type 0}
    → IsReread bytes g P t (Applied (Applied (Is f) G) H) → ((x : A) (y : B) → G x → H y → K (f x y)) → IsReread bytes g P t K
of_two {f = f} {K = K} v k = right v (λ z a. let b = a.one in subst K (sym (a.is ∙ ap (λ g. g a.argument) (b.is ∙ ap (λ g. g b.argument) b.one))) (k b.argument a.argument b.two a.two))

pub of_three : {A B C D : Type 0} {bytes : List ℕ} {g : Grammar D} {P : List ℕ → Type 0} {t : List ℕ} {f : A → B → C → D} {G : A → Type 0} {H : B → Type 0} {I : C → Type 0} {K : D → Type 0}
    → IsReread bytes g P t (Applied (Applied (Applied (Is f) G) H) I) → ((x : A) (y : B) (z : C) → G x → H y → I z → K (f x y z)) → IsReread bytes g P t K
of_three {K = K} v k = right v (λ z a. let b = a.one in let c = b.one in
    subst K (sym (a.is ∙ ap (λ g. g a.argument) (b.is ∙ ap (λ g. g b.argument) (c.is ∙ ap (λ g. g c.argument) c.one)))) (k c.argument b.argument a.argument c.two b.two a.two))

pub of_four : {A B C D E : Type 0} {bytes : List ℕ} {g : Grammar E} {P : List ℕ → Type 0} {t : List ℕ} {f : A → B → C → D → E} {G : A → Type 0} {H : B → Type 0} {I : C → Type 0} {J : D → Type 0} {K : E → Type 0}
    → IsReread bytes g P t (Applied (Applied (Applied (Applied (Is f) G) H) I) J) → ((x : A) (y : B) (z : C) (w : D) → G x → H y → I z → J w → K (f x y z w)) → IsReread bytes g P t K
of_four {K = K} v k = right v (λ z a. let b = a.one in let c = b.one in let d = c.one in
    subst K (sym (a.is ∙ ap (λ g. g a.argument) (b.is ∙ ap (λ g. g b.argument) (c.is ∙ ap (λ g. g c.argument) (d.is ∙ ap (λ g. g d.argument) d.one))))) (k d.argument c.argument b.argument a.argument d.two c.two b.two a.two))

-- Blanks

pub blank_bytes : (text : List ℕ) → list_all is_blank text ≡ true → AllByRecursion (λ c. is_blank c ≡ true) text
blank_bytes [] e = tt
blank_bytes (c ∷ text) e = let p = and_parts (is_blank c) (list_all is_blank text) e in (p.0, blank_bytes text p.1)

-- blanks behind a text, and in front of it
pub behind : {A : Type 0} {bytes : List ℕ} {g : Grammar A} {P : List ℕ → Type 0} {t : List ℕ} {G : A → Type 0} (text : List ℕ) → IsReread bytes g P t G → list_all is_blank text ≡ true → ((rest : List ℕ) → P (text ++ rest)) → IsReread bytes g Anything (t ++ text) G
behind {bytes = bytes} {P = P} {t = t} text v e next = record {
  pieces = v.pieces ++ blank text ∷ [];
  same = flatten_append v.pieces (blank text ∷ []) ∙ ap (λ u. u ++ (text ++ [])) v.same ∙ ap (λ u. t ++ u) (append-nil text);
  fine = λ rest p f. subst Fine (sym (append_assoc v.pieces (blank text ∷ []) rest)) (v.fine (blank text ∷ rest) (next (flatten rest)) (pieces.apart (blank_bytes text e) f));
  read = λ ts are. let p = parted bytes ts v.pieces (blank text ∷ []) are in v.read ts (subst (λ us. Are bytes us v.pieces) (sym (p.is ∙ ap (λ us. p.front ++ us) p.second ∙ append-nil p.front)) p.first);
}

pub in_front : {A : Type 0} {bytes : List ℕ} {g : Grammar A} {P : List ℕ → Type 0} {t : List ℕ} {G : A → Type 0} (text : List ℕ) → IsReread bytes g P t G → list_all is_blank text ≡ true → IsReread bytes g P (text ++ t) G
in_front text v e = record {
  pieces = blank text ∷ v.pieces;
  same = ap (λ u. text ++ u) v.same;
  fine = λ rest p f. pieces.apart (blank_bytes text e) (v.fine rest p f);
  read = v.read;
}

-- Lists

abbrev pub listed : {A B : Type 0} → List A → B → List A × B
listed xs y = (xs, y)

module _ {S A B : Type 0} {bytes : List ℕ} {look : Look} {a : S → Grammar A} {step : S → A → S} {b : Grammar B} where
  pub many_last : {s : S} {P : List ℕ → Type 0} {t : List ℕ} {G : B → Type 0} {K : List A × B → Type 0} → IsReread bytes b P t G → ((y : B) → G y → K ([], y)) → IsReread bytes (many listed look a step s b) P t K
  many_last v k = record {
    pieces = v.pieces;
    same = v.same;
    fine = v.fine;
    read = λ ts are. let y = v.read ts are in record { tree = ([], y.tree); spelled = (([], y.tree), last y.tree y.spelled refl, refl); right = k y.tree y.right };
  }

  pub many_more : {s : S} (later : S) {P Q : List ℕ → Type 0} {t u : List ℕ} {G : A → Type 0} {H K : List A × B → Type 0}
      → IsReread bytes (a s) P t G → IsReread bytes (many listed look a step later b) Q u H → ((rest : List ℕ) → Q rest → P (u ++ rest)) → ((x : A) → G x → later ≡ step s x)
      → ((x : A) (xs : List A) (y : B) → G x → H (xs, y) → K (x ∷ xs, y)) → IsReread bytes (many listed look a step s b) Q (t ++ u) K
  many_more {s = s} later {H = H} v w next steps k = record {
    pieces = v.pieces ++ w.pieces;
    same = same_both v w;
    fine = fine_both v w next;
    read = λ ts are.
        let p = parted bytes ts v.pieces w.pieces are in
        let x = v.read p.front p.first in
        let y = w.read p.rest p.second in
        let z = y.spelled.0 in
        let is : y.tree ≡ z = y.spelled.2 in
        record {
          tree = (x.tree ∷ z.0, z.1);
          spelled = ((x.tree ∷ z.0, z.1), more x.tree z p.front p.rest p.is x.spelled (subst (λ (k : S). ManySpells (λ s. Spells (a s)) step (Spells b) k p.rest z) (steps x.tree x.right) y.spelled.1) refl, refl);
          right = k x.tree z.0 z.1 x.right (subst H is y.right);
        };
  }

pub many_as : {S A B C : Type 0} (f : List A → B → C) {bytes : List ℕ} {look : Look} {a : S → Grammar A} {step : S → A → S} {s : S} {b : Grammar B} {P : List ℕ → Type 0} {t : List ℕ} {G : List A × B → Type 0} {K : C → Type 0}
    → IsReread bytes (many listed look a step s b) P t G → ((xs : List A) (y : B) → G (xs, y) → K (f xs y)) → IsReread bytes (many f look a step s b) P t K
many_as {A = A} {B = B} f {G = G} v k = record {
  pieces = v.pieces;
  same = v.same;
  fine = v.fine;
  read = λ ts are. let x = v.read ts are in let z = x.spelled.0 in let is : x.tree ≡ z = x.spelled.2 in record { tree = f z.0 z.1; spelled = (z, x.spelled.1, refl); right = k z.0 z.1 (subst G is x.right) };
}

-- each of some trees is right for the item in its place
abbrev pub Zipped : {R X : Type 0} → (R → X → Type 0) → List R → List X → Type 0
Zipped Q [] [] = Unit {0}
Zipped Q (r ∷ rs) (x ∷ xs) = Q r x × Zipped Q rs xs
Zipped Q _ _ = ⊥

-- first the trees of these items, and then the others
pub record InFront {R X B : Type 0} (Q : R → X → Type 0) (xs : List X) (H : List R × B → Type 0) (v : List R × B) : Type 0 where
  pub front : List R
  pub others : List R
  pub is : v.0 ≡ front ++ others
  pub each : Zipped Q front xs
  pub rest : H (others, v.1)

-- what may stand before each text and before what is behind them all may stand before them
pub each_follows : {X : Type 0} (text : X → List ℕ) (Before : List ℕ → Type 0) → ((x : X) (rest : List ℕ) → Before (text x ++ rest)) → (xs : List X) (rest : List ℕ) → Before rest → Before (flat_map text xs ++ rest)
each_follows text Before next [] rest b = b
each_follows text Before next (x ∷ xs) rest b = subst Before (sym (append_assoc (text x) (flat_map text xs) rest)) (next x (flat_map text xs ++ rest))

-- items one after another, in front of others
module _ {X R : Type 0} {bytes : List ℕ} (text : X → List ℕ) (Q : R → X → Type 0) (P : X → Type 0) {a : Grammar R} {Before : List ℕ → Type 0}
    (one_item : (x : X) → P x → IsReread bytes a Before (text x) (λ r. Q r x)) (next : (x : X) (rest : List ℕ) → Before (text x ++ rest)) where
  pub each_before : {B : Type 0} {look : Look} {b : Grammar B} {Last : List ℕ → Type 0} {u : List ℕ} {H : List R × B → Type 0} (xs : List X) → AllByRecursion P xs
      → IsReread bytes (plain listed look a b) Last u H → ((rest : List ℕ) → Last rest → Before (u ++ rest)) → IsReread bytes (plain listed look a b) Last (flat_map text xs ++ u) (InFront Q xs H)
  each_before [] all w end = right w (λ v h. record { front = []; others = v.0; is = refl; each = tt; rest = h })
  each_before {u = u} (x ∷ xs) all w end = written (sym (append_assoc (text x) (flat_map text xs) u))
      (many_more tt (one_item x all.0) (each_before xs all.1 w end) (λ rest l. subst Before (sym (append_assoc (flat_map text xs) u rest)) (each_follows text Before next xs (u ++ rest) (end rest l))) (λ r q. refl)
      (λ r rs y q h. record { front = r ∷ h.front; others = h.others; is = ap (λ (us : List R). r ∷ us) h.is; each = (q, h.each); rest = h.rest }))

  -- and nothing behind them
  pub each_alone : {look : Look} (xs : List X) → AllByRecursion P xs → (Last : List ℕ → Type 0) → ((rest : List ℕ) → Last rest → Before rest) → IsReread bytes (plain listed look a ends) Last (flat_map text xs) (λ v. Zipped Q v.0 xs)
  each_alone xs all Last end = written (append-nil (flat_map text xs))
      (right (each_before {H = λ v. v.0 ≡ []} xs all (before (many_last (none tt) (λ y e. refl)) (λ rest (l : Last rest). tt)) end) (λ v h. subst (λ us. Zipped Q us xs) (sym (h.is ∙ ap (λ us. h.front ++ us) h.rest ∙ append-nil h.front)) h.each))
