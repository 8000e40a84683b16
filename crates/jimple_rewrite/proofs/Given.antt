-- Each class that the bytes of a text are read as is written so that it can be read.
use Rattle.std.proofs.Common.{ℕ, ◌<◌, ◌^◌, List, length, All, sym, subst, arith}
use Rattle.std.proofs.lemmas.List.{length-map}
use Rattle.jimple_tree.specs.declared.tree.Class.{Class}
use Rattle.jimple_grammar.specs.Fits.{ClassFits}
use Rattle.jimple_grammar.specs.Lexemes.{lexeme, lexemes}
use Rattle.jimple_grammar.proofs.FitsMembers.{file_fits}
use Rattle.jimple_names.specs.Tree.{class_of}
use Rattle.jimple_names.specs.Faults.{class_fault}
use Rattle.jimple_names.proofs.WellFormedParts.{each_none}
use Rattle.jimple_text.specs.Reads.{Reads}
use Rattle.jimple_rewrite.proofs.Written.{ClassIsWritten}
use Rattle.jimple_rewrite.proofs.TokensOf.{IsTokenOf, tokens_of}
use Rattle.jimple_rewrite.proofs.WrittenTrees.{class_written}
use Rattle.jimple_rewrite.proofs.Few.{few_tokens}

pub given_written : (bytes : List ℕ) (classes : List Class) → length bytes < 2 ^ 32 → Reads bytes classes → All ClassIsWritten classes
given_written bytes classes long (ts, lexed, g) =
    let n = length (lexemes bytes ts) in
    let same = length-map ts (lexeme bytes) in
    let less = few_tokens lexed in
    let small : n < 2 ^ 32 = omega (arith, same, less, long) in
    let fits = file_fits (IsTokenOf bytes) n (lexemes bytes ts) g.tree (tokens_of bytes ts lexed) (omega arith) g.spelled in
    subst (All ClassIsWritten) (sym g.are) (each_none (class_of bytes) (class_fault bytes) (ClassFits (IsTokenOf bytes) n) ClassIsWritten (class_written bytes n small) g.tree fits g.named)
