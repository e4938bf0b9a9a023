use Rattle.std.proofs.Common.{ap, ◌∙◌}
use Rattle.unit_read.specs.Subjects.{full_of}
use Rattle.unit_read.specs.Index.{found}
use Rattle.check_pkg.specs.ImportLists.{is_before}
use Rattle.check_pkg.proofs.ImportLemmas.{later_is}
use Rattle.check_pkg.proofs.import_refusals.comes_later.Goals as goal

pub returns : goal.returns
returns c =
    later_is (full_of c.args.u.now) c.args.at c.args.name.now (found c.args.firsts.now c.args.name.now) c.is_before.result (c.requires c.args.name.now)
    (c.is_before.ensures ∙ ap (λ o. is_before o c.args.at.node) c.find.ensures)
