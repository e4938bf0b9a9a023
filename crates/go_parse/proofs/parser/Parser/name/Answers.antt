use Rattle.std.proofs.Common.{sym, ◌∙◌}
use Rattle.go_parse.specs.Machine.{state_of}
use Rattle.go_parse.proofs.Running.{taken_so, operand_runs, operand_refused}
use Rattle.go_parse.proofs.parser.Parser.name.Goals as goal

pub returns-then-is_above-clause-led : goal.returns-then-is_above-clause-led
returns-then-is_above-clause-led c = operand_refused c.args.least c.args.class c.args.at c.args.setting (state_of c.args.self.now) c.requires (sym c.is_above.ensures ∙ c.if-is_above.true)

pub returns-clause-led : goal.returns-clause-led
returns-clause-led c = taken_so _ _ _ _ _ c.in_ok-above_operand.ensures.led (operand_runs c.args.least c.args.class c.args.at c.args.setting (state_of c.args.self.now) c.requires (sym c.is_above.ensures ∙ c.if-is_above.false))
