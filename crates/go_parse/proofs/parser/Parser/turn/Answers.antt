use Rattle.go_parse.specs.Machine.{state_of}
use Rattle.go_parse.proofs.Running.{stays_at}
use Rattle.go_parse.proofs.parser.Parser.turn.Goals as goal

pub returns-in_ok-led-in-After-clause-led : goal.returns-in_ok-led-in-After-clause-led
returns-in_ok-led-in-After-clause-led c = stays_at c.args.class c.args.at c.args.item _ (state_of c.args.self.now) _ c.in-After.is c.in_ok-led-in-After.ensures.led
