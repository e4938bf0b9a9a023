use Rattle.std.proofs.Common.{sym, ◌∙◌}
use Rattle.unit_read.specs.Units.{defined}
use Rattle.unit_read.specs.Subjects.{unit_of}
use Rattle.unit_read.proofs.TypeLemmas.{foreign}
use Rattle.unit_read.proofs.subject.Subject.type_node.Goals as goal

pub returns-then-not-is_own : goal.returns-then-not-is_own
returns-then-not-is_own c = sym (foreign (unit_of c.args.self.now) c.args.name.now (defined (unit_of c.args.self.now)) (sym c.is_own.ensures ∙ c.if-not-is_own.true))
