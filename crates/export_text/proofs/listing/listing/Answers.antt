use Rattle.std.proofs.Common.{length}
use Rattle.export_text.proofs.ListLaws.{listed_rise, listed_still}
use Rattle.export_text.proofs.listing.listing.Goals as goal

pub returns-clause-are : goal.returns-clause-are
returns-clause-are c = listed_still c.args.table.now c.args.path.now c.args.ids.now (length c.args.ids.now) c.in_ok-types.types.items c.sort_types.new.types.items c.sort_types.ensures.same c.in_ok-types.ensures.are

pub returns-clause-rise : goal.returns-clause-rise
returns-clause-rise c = listed_rise c.in_ok-types.types.items c.sort_types.new.types.items c.in_ok-types.ensures.once c.sort_types.ensures.same c.sort_types.ensures.sorted
