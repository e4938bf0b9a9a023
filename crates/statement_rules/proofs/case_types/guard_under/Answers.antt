use Rattle.std.proofs.Common.{sym, ◌∙◌}
use Rattle.type_model.specs.Tables.{declarations_in}
use Rattle.rule_words.specs.Scenes.{type_in}
use Rattle.rule_words.proofs.InterfaceLemmas.{interface_known}
use Rattle.statement_rules.proofs.case_types.guard_under.Goals as goal

pub type_against-requires-clause-known : goal.type_against-requires-clause-known
type_against-requires-clause-known c =
    interface_known (declarations_in c.args.s.now.table) (type_in c.args.s.now c.args.under) (sym c.is_interface.ensures ∙ c.if-is_interface.true)
