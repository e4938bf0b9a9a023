use Rattle.tree_report.proofs.readers.told_all.Goals as goal

pub returns : goal.returns
returns g c = c.in_ok-parts.ensures c.args.files.now c.in_ok-told.ensures
