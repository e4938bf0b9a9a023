use Rattle.std.proofs.Common.{◌∙◌}
use Rattle.unit_read.specs.Environments.{faces_in}
use Rattle.unit_read.specs.Index.{texts_of}
use Rattle.check_pkg.proofs.TypedLaws.{copied_unit}
use Rattle.check_pkg.proofs.typing.Typed.subject.Goals as goal

pub returns-clause-of : goal.returns-clause-of
returns-clause-of c =
    c.in_ok-subject.ensures.of
    ∙ copied_unit c.args.path.now (texts_of c.args.texts.now) c.args.trees.now (faces_in c.args.env.now) c.args.self.now c.in_ok-flags.flags c.in_ok-flags.ensures
