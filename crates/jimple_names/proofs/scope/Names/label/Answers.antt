use Rattle.std.proofs.Common.{◌∙◌, sym, ap, Option}
use Rattle.std.specs.Option.{option_map}
use Rattle.std.specs.Str.{bytes_eq}
use Rattle.jimple_names.specs.declared.scope.Label.{Label}
use Rattle.jimple_names.specs.Texts.{unquoted}
use Rattle.jimple_names.proofs.Positions.{is_here, is_nowhere}
use Rattle.jimple_names.proofs.scope.Names.label.Goals as goal

pub returns-in-Some : goal.returns-in-Some
returns-in-Some c =
    let found = is_here (λ (l : Label). bytes_eq l.name (unquoted c.args.word.now)) c.in-Some.number c.args.self.now.labels.now c.index-self-number.result (sym c.in_ok-number.ensures ∙ c.in-Some.is) in
    sym (ap (λ (o : Option Label). option_map (λ (l : Label). l.place) o) found)

pub returns-in-None : goal.returns-in-None
returns-in-None c =
    let found = is_nowhere (λ (l : Label). bytes_eq l.name (unquoted c.args.word.now)) c.args.self.now.labels.now (sym c.in_ok-number.ensures ∙ c.in-None.is) in
    sym (ap (λ (o : Option Label). option_map (λ (l : Label). l.place) o) found)
