use Rattle.std.proofs.Common.{sym, ◌∙◌}
use Rattle.body_rules.specs.Given.{given}
use Rattle.body_rules.proofs.StrayLemmas.{stray_is}
use Rattle.body_rules.proofs.rules.is_stray.Goals as goal

pub returns-in-Some : goal.returns-in-Some
returns-in-Some c =
    stray_is (given c.args.v.now.file.now) c.args.n c.in-Some.which c.leaves_none.result (sym c.branch_at.ensures ∙ c.in-Some.is)
    (sym c.is_undefined.ensures ∙ c.if-is_undefined.false) c.leaves_none.ensures
