use Rattle.std.proofs.Common.{◌≡◌, ◌<◌, ◌-◌, List, ℕ, length, take, ap, vec_len, subst, ◌∙◌, arith}
use Rattle.reach_rows.specs.Search.{IsSearchState}
use Rattle.reach_rows.proofs.Searches.{last_is_marked, closed_last, closing_lessens, follows_done}
use Rattle.reach_rows.proofs.search.Search.close.Goals as goal

pub index_mut-requires : goal.index_mut-requires
index_mut-requires c =
    let s = c.args.self.now in
    let at = last_is_marked c.args.rows.now s.marks.items s.passed.items s.path.items s.done.items c.requires.search c.args.node c.requires.last in
    let below : c.args.node < length s.marks.items = at.0 in
    omega (arith, s.marks.ok.0)

pub returns-clause-search : goal.returns-clause-search
returns-clause-search c =
    let s = c.args.self.now in
    let long : vec_len s.path ≡ length s.path.items = omega (arith, s.path.ok.0) in
    closed_last c.args.rows.now s.marks.items s.passed.items (take (length s.path.items - 1) s.path.items) s.done.items c.args.node
    (subst (λ (xs : List ℕ). IsSearchState c.args.rows.now s.marks.items s.passed.items xs s.done.items) c.requires.last c.requires.search)
    _ _ c.requires.row (λ n. follows_done c.args.rows.now c.requires.graph s.marks.items s.passed.items s.path.items s.done.items c.requires.search c.args.node n c.requires.last c.requires.row) (c.pop-last.ensures.rest ∙ ap (λ (n : ℕ). take (n - 1) s.path.items) long) c.in_ok-push.ensures.items

pub returns-clause-less : goal.returns-clause-less
returns-clause-less c =
    let s = c.args.self.now in
    closing_lessens s.marks.items c.args.node (last_is_marked c.args.rows.now s.marks.items s.passed.items s.path.items s.done.items c.requires.search c.args.node c.requires.last)
