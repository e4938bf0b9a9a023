use Rattle.std.proofs.Common.{sym, ap, ◌∙◌}
use Rattle.unit_read.specs.Entries.{stored, value_at}
use Rattle.unit_read.proofs.EntryLemmas.{stored_at}
use Rattle.unit_read.proofs.entries.Entries.get.Goals as goal

pub returns : goal.returns
returns g c =
    let items = c.self.inside.list.items in
    c.value_at.ensures ∙ (ap (value_at c.args.n) c.entry_at.ensures
    ∙ (stored_at items c.args.n c.place_of-place.result c.self.invariant c.place_of-place.ensures.below c.place_of-place.ensures.above
    ∙ ap (λ xs. stored xs c.args.n) c.self.view_is))
