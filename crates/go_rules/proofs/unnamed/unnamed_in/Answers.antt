use Rattle.std.proofs.Common.{◌≡◌, Bool, List, true, false, get_or, subst}
use Rattle.unit_read.specs.Subjects.{unit_of}
use Rattle.go_rules.proofs.UnnamedLemmas.{unnamed_quiet}
use Rattle.go_rules.proofs.unnamed.unnamed_in.Goals as goal

pub returns-clause-none : goal.returns-clause-none
returns-clause-none c = λ n set. unnamed_quiet (unit_of c.args.u.now) c.args.block n (subst (λ (l : List Bool). get_or l n false ≡ true) c.in_ok-flags.ensures set)
