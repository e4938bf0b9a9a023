use Rattle.go_parse.specs.Machine.{state_of}
use Rattle.go_parse.proofs.Running.{taken_so, type_turns}
use Rattle.go_parse.proofs.parser.Parser.type_name.Goals as goal

pub returns-clause-led : goal.returns-clause-led
returns-clause-led c = taken_so _ _ _ _ _ c.in_ok-above_type.ensures.led (type_turns c.args.class c.args.at (state_of c.args.self.now) c.requires)
