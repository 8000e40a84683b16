use Rattle.std.proofs.Common.{arith}
use Rattle.edge_store.proofs.Listed.{distinct_push}
use Rattle.edge_store.proofs.Paged.{set_there, set_kept, set_from, push_there, push_from, uses_push, full_set, full_push}
use Rattle.edge_store.proofs.edges.hold.Goals as goal

pub returns-in-Some-clause-there : goal.returns-in-Some-clause-there
returns-in-Some-clause-there g c = rw (c.mark.ensures.pages, c.mark.ensures.bits) (set_there c.args.table.now.pages c.args.table.now.bits c.args.page c.args.place c.find.ensures.even c.find.ensures.distinct c.requires.place c.in-Some.at c.in-Some.ensures.there)

pub returns-in-Some-clause-kept : goal.returns-in-Some-clause-kept
returns-in-Some-clause-kept g c = rw (c.mark.ensures.pages, c.mark.ensures.bits) (set_kept c.args.table.now.pages c.args.table.now.bits c.args.page c.args.place c.find.ensures.even c.find.ensures.distinct c.requires.place c.in-Some.at c.in-Some.ensures.there)

pub returns-in-Some-clause-from : goal.returns-in-Some-clause-from
returns-in-Some-clause-from g c = rw (c.mark.ensures.pages, c.mark.ensures.bits) (set_from c.args.table.now.pages c.args.table.now.bits c.args.page c.args.place c.find.ensures.even c.find.ensures.distinct c.requires.place c.in-Some.at c.in-Some.ensures.there)

pub returns-in-None-clause-there : goal.returns-in-None-clause-there
returns-in-None-clause-there g c = rw (c.open.ensures.pages, c.open.ensures.bits) (push_there c.args.table.now.pages c.args.table.now.bits c.args.page c.args.place c.find.ensures.even c.find.ensures.distinct c.requires.place)

pub returns-in-None-clause-from : goal.returns-in-None-clause-from
returns-in-None-clause-from g c = rw (c.open.ensures.pages, c.open.ensures.bits) (push_from c.args.table.now.pages c.args.table.now.bits c.args.page c.args.place c.find.ensures.even c.find.ensures.distinct c.requires.place)

pub returns-in-None-clause-counts : goal.returns-in-None-clause-counts
returns-in-None-clause-counts g c = λ n. rw (c.up.ensures.counts, c.open.ensures.pages) (uses_push c.args.table.now.pages c.args.page c.args.pool.now.counts n (omega (arith, c.up.ensures.even)))

pub returns-in-Some-clause-full : goal.returns-in-Some-clause-full
returns-in-Some-clause-full g c = rw c.mark.ensures.pages (full_set c.args.table.now.pages c.mark.new.self.bits)

pub returns-in-None-clause-full : goal.returns-in-None-clause-full
returns-in-None-clause-full g c = rw (c.open.ensures.pages, c.open.ensures.bits) (full_push c.args.table.now.pages c.args.table.now.bits c.args.page c.args.place c.find.ensures.even c.find.ensures.distinct c.requires.place)

pub returns-in-Some-clause-once : goal.returns-in-Some-clause-once
returns-in-Some-clause-once g c = rw c.mark.ensures.pages c.find.ensures.distinct

pub returns-in-None-clause-once : goal.returns-in-None-clause-once
returns-in-None-clause-once g c = rw c.open.ensures.pages (distinct_push c.args.table.now.pages c.args.page c.find.ensures.distinct c.in-None.ensures.unknown)
