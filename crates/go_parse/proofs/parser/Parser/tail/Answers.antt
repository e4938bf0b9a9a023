use Rattle.go_parse.specs.Machine.{state_of}
use Rattle.go_parse.proofs.Running.{end_runs}
use Rattle.go_parse.proofs.parser.Parser.tail.Goals as goal

pub returns-then-is_at_end-clause-led : goal.returns-then-is_at_end-clause-led
returns-then-is_at_end-clause-led c = end_runs c.args.category c.args.class c.args.at c.args.first c.args.base (state_of c.args.self.now) (c.is_at_end.ensures.0 c.if-is_at_end.true)
