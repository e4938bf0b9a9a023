use Rattle.std.proofs.Common.{◌++◌, List, ap, ◌∙◌}
use Rattle.scopes.specs.declared.scope.Named.{Named}
use Rattle.unit_read.specs.Subjects.{unit_of}
use Rattle.unit_blocks.specs.Blocks.{again_in_file}
use Rattle.unit_blocks.proofs.again.add_by.Goals as goal

pub returns : goal.returns
returns c = c.in_ok-add_file.ensures ∙ ap (λ (names : List Named). c.args.out.now.items ++ again_in_file (unit_of c.args.s.now) c.args.file names) c.row.ensures
