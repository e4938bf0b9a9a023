use Rattle.std.proofs.Common.{ap}
use Rattle.go_parse.specs.declared.parser.Task.TheVariants.{Want}
use Rattle.go_parse.specs.Machine.{state_of}
use Rattle.go_parse.proofs.Running.{stays_at}
use Rattle.go_parse.proofs.parser.Parser.want.Goals as goal

pub returns-in_ok-led-in-Token-clause-led : goal.returns-in_ok-led-in-Token-clause-led
returns-in_ok-led-in-Token-clause-led c = stays_at c.args.class c.args.at (Want c.args.symbol) _ (state_of c.args.self.now) _ (ap Want c.in-Token.is) c.in_ok-led-in-Token.ensures.led

pub returns-in_ok-led-in-Inline-clause-led : goal.returns-in_ok-led-in-Inline-clause-led
returns-in_ok-led-in-Inline-clause-led c = stays_at c.args.class c.args.at (Want c.args.symbol) _ (state_of c.args.self.now) _ (ap Want c.in-Inline.is) c.in_ok-led-in-Inline.ensures.led
