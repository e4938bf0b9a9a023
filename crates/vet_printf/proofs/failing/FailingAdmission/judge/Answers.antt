use Rattle.vet_printf.proofs.FailLemmas.{says_same}
use Rattle.std.specs.Prelude.{IsTrue}
use Rattle.vet_printf.specs.InTable.{fails_by}
use Rattle.least.specs.Work.{set_of}
use Rattle.vet_printf.proofs.failing.FailingAdmission.judge.Goals as goal

pub returns : goal.returns
returns c = says_same c.fails_by.result (fails_by c.args.self.now.fits.now c.args.self.now.shapes.now (set_of c.args.members.now) c.args.at) c.fails_by.ensures
