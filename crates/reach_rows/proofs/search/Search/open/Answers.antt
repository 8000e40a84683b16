use Rattle.std.proofs.Common.{List, ℕ, set, sym, subst}
use Rattle.reach_rows.specs.declared.search.Mark.TheVariants.{OnPath}
use Rattle.reach_rows.specs.Search.{IsSearchState}
use Rattle.reach_rows.proofs.Searches.{opened}
use Rattle.reach_rows.proofs.search.Search.open.Goals as goal

pub returns-clause-search : goal.returns-clause-search
returns-clause-search c =
    let s = c.args.self.now in
    subst (λ (path : List ℕ). IsSearchState c.args.rows.now (set s.marks.items c.args.node OnPath) s.passed.items path s.done.items) (sym c.in_ok-push.ensures.items)
    (opened c.args.rows.now s.marks.items s.passed.items s.path.items s.done.items c.requires.search c.args.node c.requires.unseen c.requires.from)
