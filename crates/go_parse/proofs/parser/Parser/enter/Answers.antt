use Rattle.go_parse.specs.Machine.{state_of}
use Rattle.go_parse.proofs.Running.{stays, bare_enters}
use Rattle.go_parse.proofs.parser.Parser.enter.Goals as goal

pub returns-then-is_bare-clause-led : goal.returns-then-is_bare-clause-led
returns-then-is_bare-clause-led c = bare_enters c.args.class c.args.at c.args.first c.args.base c.args.symbols.now c.args.ending (state_of c.args.self.now) (c.is_bare.ensures.0 c.if-is_bare.true)

pub returns-clause-led : goal.returns-clause-led
returns-clause-led c = stays _ _ _ _ c.in_ok-led.ensures.led
