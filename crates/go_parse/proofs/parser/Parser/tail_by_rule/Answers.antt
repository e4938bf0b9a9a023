use Rattle.go_parse.specs.Machine.{state_of}
use Rattle.go_parse.proofs.Running.{tail_on, tail_off}
use Rattle.go_parse.proofs.parser.Parser.tail_by_rule.Goals as goal

pub returns-in_ok-led-in-Some-clause-led : goal.returns-in_ok-led-in-Some-clause-led
returns-in_ok-led-in-Some-clause-led c = tail_on c.args.class c.args.at c.args.category c.args.first c.args.base (state_of c.args.self.now) _ _ c.in-Some.ensures c.in_ok-led-in-Some.ensures.led

pub returns-in-None-clause-led : goal.returns-in-None-clause-led
returns-in-None-clause-led c = tail_off c.args.class c.args.at c.args.category c.args.first c.args.base (state_of c.args.self.now) c.in-None.ensures
