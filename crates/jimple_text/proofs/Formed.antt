-- Whatever a text reads as is well formed, whether or not a call says so.
use Rattle.std.proofs.Common.{List, ℕ, length, All, Contains, sym, subst, arith}
use Rattle.std.proofs.lemmas.List.Elements.{All-contains_itself}
use Rattle.jimple_tree.specs.WellFormed.{IsWellFormed}
use Rattle.jimple_tree.specs.declared.tree.Class.{Class}
use Rattle.jimple_grammar.specs.Lexemes.{lexemes}
use Rattle.jimple_grammar.proofs.FitsMembers.{file_fits}
use Rattle.jimple_names.proofs.WellFormed.{all_well_formed}
use Rattle.jimple_text.specs.Reads.{Reads}

pub formed : (bytes : List ℕ) (classes : List Class) → Reads bytes classes → All IsWellFormed classes
formed bytes classes (ts, lexed, g) =
    let n = length (lexemes bytes ts) in
    let fits = file_fits (Contains (lexemes bytes ts)) n (lexemes bytes ts) g.tree (All-contains_itself (lexemes bytes ts)) (omega arith) g.spelled in
    subst (All IsWellFormed) (sym g.are) (all_well_formed bytes ts n g.tree g.named fits)
