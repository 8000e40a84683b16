use Rattle.std.proofs.Common.{[], ◌∷◌, ◌++◌, append_assoc, append-nil, sym, ◌∙◌, refl, pred}
use Rattle.std.proofs.lemmas.Result.{err_from_is_err_and}
use Rattle.jimple_grammar.specs.declared.raw.RawType.{RawType}
use Rattle.jimple_words.specs.declared.kind.Kind.TheVariants as kinds
use Rattle.jimple_grammar.specs.Reading.{reading}
use Rattle.jimple_grammar.specs.Grammar.{ends}
use Rattle.clean_base.specs.Limits.{most_params}
use Rattle.jimple_grammar.specs.Forms.{next_param, later_params}
use Rattle.jimple_grammar.proofs.Shorten.{shortens}
use Rattle.jimple_grammar.proofs.Groups.{started, underway, failed, ended, less_one}
use Rattle.jimple_grammar.proofs.cursor.Cursor.later_params.Goals as goal

pub loop-self-init : goal.loop-self-init
unfolding later_params
loop-self-init c = record {
  pieces = [];
  are = sym (append-nil c.args.params.now.items);
  underway = started (λ xs end. xs) (((kinds.Comma ∷ []) ∷ []) ∷ []) next_param (λ n x. pred n) ends (pred most_params) c.args.self.now.left.now;
}

pub loop-self-smaller : goal.loop-self-smaller
loop-self-smaller c = shortens (next_param c.loop-self.room) refl c.loop-self.self.left.now (c.in_ok-next.next, c.next_param.new.self.left.now) c.in_ok-next.ensures

pub loop-self-preserved : goal.loop-self-preserved
loop-self-preserved c =
    let i = c.loop-self.invariant in
    let x : RawType = c.in_ok-next.next in
    record {
      pieces = i.pieces ++ x ∷ [];
      are = let e = i.are in rw (c.in_ok-push.ensures.items, e) (append_assoc c.args.params.now.items i.pieces (x ∷ []));
      underway = underway _ _ next_param _ ends (reading later_params c.args.self.now.left.now) i.pieces c.loop-self.room _ c.loop-self.self.left.now (x, c.next_param.new.self.left.now) i.underway (sym c.loop-self-test.ensures) c.in_ok-next.ensures refl (c.saturating_sub-room.ensures ∙ less_one c.loop-self.room);
    }

pub returns-in_err-next : goal.returns-in_err-next
returns-in_err-next c =
    let p = err_from_is_err_and c.from_residual.result c.from_residual.ensures.1 in
    rw (p.1, p.2) (failed _ _ next_param _ ends (reading later_params c.args.self.now.left.now) c.loop-self.invariant.pieces c.loop-self.room c.loop-self.self.left.now c.in_err-next.field-0.0 c.loop-self.invariant.underway (sym c.loop-self-test.ensures) refl c.in_err-next.ensures)

pub returns : goal.returns
returns c = (c.loop-self.invariant.pieces, ended _ _ next_param _ ends (reading later_params c.args.self.now.left.now) c.loop-self.invariant.pieces c.loop-self.room c.loop-self.self.left.now tt c.loop-self.self.left.now c.loop-self.invariant.underway (sym c.loop-self-test.ensures) refl, c.loop-self.invariant.are)
