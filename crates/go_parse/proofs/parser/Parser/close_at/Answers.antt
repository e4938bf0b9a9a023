use Rattle.std.proofs.Common.{ap, refl}
use Rattle.go_parse.specs.declared.parser.Task.TheVariants.{Close}
use Rattle.go_parse.specs.Machine.{state_of}
use Rattle.go_parse.proofs.Running.{stays_at}
use Rattle.go_parse.proofs.parser.Parser.close_at.Goals as goal

pub returns-in_ok-end-in-Is-clause-led : goal.returns-in_ok-end-in-Is-clause-led
returns-in_ok-end-in-Is-clause-led c = stays_at c.args.class c.args.at (Close c.args.ending c.args.first c.args.base) _ (state_of c.args.self.now) _ (ap (λ e. Close e c.args.first c.args.base) c.in-Is.is) c.in_ok-end-in-Is.ensures.led

pub returns-in-Bare-clause-led : goal.returns-in-Bare-clause-led
returns-in-Bare-clause-led c = stays_at c.args.class c.args.at (Close c.args.ending c.args.first c.args.base) _ (state_of c.args.self.now) _ (ap (λ e. Close e c.args.first c.args.base) c.in-Bare.is) refl
