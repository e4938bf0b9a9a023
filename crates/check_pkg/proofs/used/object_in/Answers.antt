use Rattle.std.proofs.Common.{Some, None, sym, ap, ◌∙◌}
use Rattle.std.specs.Option.{option_copied}
use Rattle.object_order.specs.Spots.{place}
use Rattle.check_pkg.proofs.UsedLemmas.{row_seen}
use Rattle.check_pkg.proofs.used.object_in.Goals as goal

pub returns-in-Some : goal.returns-in-Some
returns-in-Some c =
    c.cell_in.ensures
    ∙ (row_seen c.args.u.now.objects.items c.args.file c.args.node (Some c.in-Some.row.now) (ap option_copied (sym c.in-Some.is) ∙ c.row_of.ensures)
    ∙ c.requires.objects (place c.args.file c.args.node))

pub returns-in-None : goal.returns-in-None
returns-in-None c =
    row_seen c.args.u.now.objects.items c.args.file c.args.node None (ap option_copied (sym c.in-None.is) ∙ c.row_of.ensures)
    ∙ c.requires.objects (place c.args.file c.args.node)
