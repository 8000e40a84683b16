use Rattle.std.proofs.Common.{◌∙◌, ap, sym, Bool, if◌then◌else◌}
use Rattle.jimple_words.specs.declared.kind.Kind.TheVariants as kinds
use Rattle.jimple_words.proofs.Tables.{modifier_is}
use Rattle.jimple_words.proofs.kinds.modifier_word.Goals as goal

pub returns-then-is_further_modifier : goal.returns-then-is_further_modifier
returns-then-is_further_modifier c = sym (modifier_is c.args.text.now ∙ ap (λ (b : Bool). if b then kinds.Further else kinds.Word) (sym c.is_further_modifier.ensures ∙ c.if-is_further_modifier.true))

pub returns : goal.returns
returns c = sym (modifier_is c.args.text.now ∙ ap (λ (b : Bool). if b then kinds.Further else kinds.Word) (sym c.is_further_modifier.ensures ∙ c.if-is_further_modifier.false))
