use Rattle.go_parse.proofs.Running.{stays}
use Rattle.go_parse.proofs.parser.Parser.operand.Goals as goal

pub returns-clause-led : goal.returns-clause-led
returns-clause-led c = stays _ _ _ _ c.in_ok-led.ensures.led
