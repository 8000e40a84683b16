use Rattle.std.proofs.Common.{length}
use Rattle.jimple_grammar.specs.Reading.{reading}
use Rattle.jimple_grammar.specs.Grammar.{both}
use Rattle.jimple_grammar.specs.Forms.{bodied, before_decl, decl, room_behind, code_catches, code, catches, block}
use Rattle.jimple_grammar.proofs.Groups.{Underway}
use Rattle.jimple_grammar.proofs.cursor.Cursor.block.Given as goal

abbrev pub invariant-loop-self : goal.invariant-loop-self
invariant-loop-self l = Underway bodied before_decl decl room_behind (both code_catches code catches) (reading block l.fn.self.left.now) l.decls.items l.room l.self.left.now

abbrev pub decreases-loop-self : goal.decreases-loop-self
decreases-loop-self l = length l.self.left.now
