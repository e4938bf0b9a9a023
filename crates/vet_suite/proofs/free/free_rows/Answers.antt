use Rattle.std.specs.Prelude.{codes}
use Rattle.findings.specs.Passes.{unit_in}
use Rattle.vet_suite.proofs.FreeLemmas.{rows_free}
use Rattle.vet_suite.proofs.free.free_rows.Goals as goal

pub undeclared-requires-clause-spelled : goal.undeclared-requires-clause-spelled
undeclared-requires-clause-spelled c = c.requires.given.spelled

pub undeclared-requires-clause-fit : goal.undeclared-requires-clause-fit
undeclared-requires-clause-fit c = c.requires.pass.small

pub undeclared-requires-clause-few : goal.undeclared-requires-clause-few
undeclared-requires-clause-few c = c.requires.given.few

pub returns : goal.returns
returns c = rows_free (unit_in c.args.pass.now) c.args.files.now c.args.named.now c.args.given.now (codes "rune") c.in_ok-rows.rows.items c.requires.given c.in_ok-rows.ensures
