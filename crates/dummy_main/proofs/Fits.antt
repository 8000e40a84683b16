-- The generated class is well formed.
use Rattle.std.proofs.Common.{◌≡◌, ◌+◌, ◌<◌, ◌≤◌, ℕ, suc, List, [], ◌∷◌, ◌++◌, length, map, refl, sym, ap, ◌∙◌, arith}
use Rattle.std.specs.List.{AllByRecursion}
use Rattle.std.proofs.lemmas.List.{length-append, length-map}
use Rattle.std.proofs.lemmas.List.Elements.{All-from_recursion, All-nil, All-cons}
use Rattle.jimple_tree.specs.WellFormed.{ImmFits, StmtFits, BodyFits, MethodFits, IsWellFormed}
use Rattle.jimple_tree.specs.declared.tree.Body.{Body}
use Rattle.jimple_tree.specs.declared.tree.Stmt.TheVariants.{Return}
use Rattle.std.specs.Prelude.{None}
use Rattle.dummy_main.specs.declared.callback.TypeName.{TypeName}
use Rattle.dummy_main.specs.declared.callback.TypeName.TheVariants.{Void, Int, Boolean, Bundle, Context, Intent, Binder, Uri, Cursor, Values, Text, Texts}
use Rattle.dummy_main.specs.declared.component.Component.{Component}
use Rattle.dummy_main.specs.declared.component.ComponentKind.{ComponentKind}
use Rattle.dummy_main.specs.declared.component.ComponentKind.TheVariants.{Activity, Service, Receiver, Provider}
use Rattle.dummy_main.specs.declared.line.Line.{Line}
use Rattle.dummy_main.specs.declared.line.Line.TheVariants.{Makes, Inits, Calls, Chooses, Jumps, Leaves}
use Rattle.dummy_main.specs.Lifecycle.{heading, type_of}
use Rattle.dummy_main.specs.Listing.{most_components}
use Rattle.dummy_main.specs.Layout.{argument, lines, size, stmt_of, block, choices, blocks, statements, locals_from, body_of, main_of, class_of}
use Rattle.dummy_main.proofs.Body.{long_block, long_choices}

-- a line's targets lie in a block of n lines
abbrev pub LineIn : ℕ → Line → Type 0
LineIn n (Chooses k) = k < n
LineIn n (Jumps k) = k < n
LineIn n _ = Unit {0}

pub lines_in : (kind : ComponentKind) → AllByRecursion (LineIn (size kind)) (lines kind)
lines_in Activity = (tt, (tt, (tt, (tt, (tt, (tt, (omega arith, (tt, (omega arith, (tt, (omega arith, (tt, (tt, tt)))))))))))))
lines_in Service = (tt, (tt, (tt, (omega arith, (omega arith, (omega arith, (omega arith, (omega arith, (tt, (omega arith, (tt, (omega arith, (tt, (omega arith, (tt, (omega arith, (tt, (tt, tt))))))))))))))))))
lines_in Receiver = (tt, (tt, (tt, (tt, tt))))
lines_in Provider = (tt, (tt, (tt, (omega arith, (omega arith, (omega arith, (omega arith, (omega arith, (omega arith, (tt, (omega arith, (tt, (omega arith, (tt, (omega arith, (tt, (omega arith, (tt, (omega arith, (tt, tt))))))))))))))))))))

pub all_append : {X : Type 0} (P : X → Type 0) (xs ys : List X) → AllByRecursion P xs → AllByRecursion P ys → AllByRecursion P (xs ++ ys)
all_append P [] ys h k = k
all_append P (x ∷ xs) ys h k = (h.0, all_append P xs ys h.1 k)

pub all_map : {X Y : Type 0} (P : X → Type 0) (Q : Y → Type 0) (f : X → Y) → ((x : X) → P x → Q (f x)) → (xs : List X) → AllByRecursion P xs → AllByRecursion Q (map f xs)
all_map P Q f g [] h = tt
all_map P Q f g (x ∷ xs) h = (g x h.0, all_map P Q f g xs h.1)

pub argument_fits : (b : Body) (type : TypeName) → ImmFits b (argument type)
argument_fits b Void = tt
argument_fits b Int = tt
argument_fits b Boolean = tt
argument_fits b Bundle = tt
argument_fits b Context = tt
argument_fits b Intent = tt
argument_fits b Binder = tt
argument_fits b Uri = tt
argument_fits b Cursor = tt
argument_fits b Values = tt
argument_fits b Text = tt
argument_fits b Texts = tt

pub arguments_fit : (b : Body) (types : List TypeName) → AllByRecursion (ImmFits b) (map argument types)
arguments_fit b [] = tt
arguments_fit b (type ∷ types) = (argument_fits b type, arguments_fit b types)

-- how many statements the blocks have
abbrev pub total : List Component → ℕ
total [] = 0
total (c ∷ cs) = size c.kind + total cs

pub long_blocks : (k p : ℕ) (cs : List Component) → length (blocks k p cs) ≡ total cs
long_blocks k p [] = refl
long_blocks k p (c ∷ cs) =
    let here = long_block k p c in let rest = long_blocks (k + 1) (p + size c.kind) cs in
    let both = length-append (block k p c) (blocks (k + 1) (p + size c.kind) cs) in omega (arith, here, rest, both)

pub long_locals : (k : ℕ) (cs : List Component) → length (locals_from k cs) ≡ length cs
long_locals k [] = refl
long_locals k (c ∷ cs) = ap suc (long_locals (k + 1) cs)

pub long_statements : (cs : List Component) → length (statements cs) ≡ length cs + 2 + total cs
long_statements cs =
    let here = long_choices (length cs + 2) cs in let rest = long_blocks 0 (length cs + 2) cs in
    let both = length-append (choices (length cs + 2) cs) (Return None ∷ blocks 0 (length cs + 2) cs) in omega (arith, here, rest, both)

pub some_size : (kind : ComponentKind) → 0 < size kind
some_size Activity = omega arith
some_size Service = omega arith
some_size Receiver = omega arith
some_size Provider = omega arith

module _ (b : Body) where
  line_fits : (j : ℕ) (name : List ℕ) (p n : ℕ) → j + 1 < length b.locals → 1 < length b.stmts → p + n ≤ length b.stmts → (line : Line) → LineIn n line → StmtFits b (stmt_of j name p line)
  line_fits j name p n local one room Makes h = (local, tt, tt)
  line_fits j name p n local one room Inits h = (local, refl, All-nil (ImmFits b))
  line_fits j name p n local one room (Calls c) h =
      (local, length-map (heading c).params argument ∙ sym (length-map (heading c).params type_of), All-from_recursion (ImmFits b) (map argument (heading c).params) (arguments_fit b (heading c).params))
  line_fits j name p n local one room (Chooses k) h = (omega (arith, local), tt, omega (arith, room, h))
  line_fits j name p n local one room (Jumps k) h = omega (arith, room, h)
  line_fits j name p n local one room Leaves h = one

  blocks_fit : (k p : ℕ) (cs : List Component) → k + length cs < length b.locals → 1 < length b.stmts → p + total cs ≤ length b.stmts → AllByRecursion (StmtFits b) (blocks k p cs)
  blocks_fit k p [] locals one room = tt
  blocks_fit k p (c ∷ cs) locals one room = all_append (StmtFits b) (block k p c) (blocks (k + 1) (p + size c.kind) cs)
      (all_map (LineIn (size c.kind)) (StmtFits b) (stmt_of k c.name p) (line_fits k c.name p (size c.kind) (omega (arith, locals)) one (omega (arith, room))) (lines c.kind) (lines_in c.kind))
      (blocks_fit (k + 1) (p + size c.kind) cs (omega (arith, locals)) one (omega (arith, room)))

  choices_fit : (p : ℕ) (cs : List Component) → 0 < length b.locals → p + total cs ≤ length b.stmts → AllByRecursion (StmtFits b) (choices p cs)
  choices_fit p [] local room = tt
  choices_fit p (c ∷ cs) local room = ((local, tt, (let s = some_size c.kind in omega (arith, room, s))), choices_fit (p + size c.kind) cs local (omega (arith, room)))

pub body_fits : (cs : List Component) → length cs ≤ most_components → BodyFits (body_of cs)
body_fits cs few = record {
  has_statement = omega arith;
  locals = let e = long_locals 0 cs in omega (arith, e, few);
  stmts = All-from_recursion (StmtFits (body_of cs)) (statements cs) (
    ((omega arith), tt, tt),
    all_append (StmtFits (body_of cs)) (choices (length cs + 2) cs) _
        (choices_fit (body_of cs) (length cs + 2) cs (omega arith) room)
        (tt, blocks_fit (body_of cs) 0 (length cs + 2) cs (let e = long_locals 0 cs in omega (arith, e)) (omega (arith, room)) room),
  );
  catches = All-nil _;
} where
  room : length cs + 2 + total cs ≤ length (statements cs)
  room = let e = long_statements cs in omega (arith, e)

pub class_fits : (cs : List Component) → length cs ≤ most_components → IsWellFormed (class_of cs)
class_fits cs few = record {
  superclass = λ _. omega arith;
  fields = λ i j d less within. absurd (omega (arith, within));
  methods = λ i j d less within. absurd (omega (arith, less, within));
  each_method = All-cons MethodFits (main_of cs) [] (record { params = omega arith; body = body_fits cs few }) (All-nil MethodFits);
}
