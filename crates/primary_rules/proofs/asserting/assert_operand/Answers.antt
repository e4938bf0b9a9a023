use Rattle.std.proofs.Common.{sym, ◌∙◌}
use Rattle.type_model.specs.Tables.{declarations_in}
use Rattle.rule_words.specs.Scenes.{type_in}
use Rattle.rule_words.proofs.InterfaceLemmas.{interface_known}
use Rattle.primary_rules.proofs.asserting.assert_operand.Goals as goal

pub assert_to-requires-clause-known : goal.assert_to-requires-clause-known
assert_to-requires-clause-known c =
    interface_known (declarations_in c.args.s.now.table) (type_in c.args.s.now c.args.x.under) (sym c.is_interface.ensures ∙ c.if-is_interface.true)
