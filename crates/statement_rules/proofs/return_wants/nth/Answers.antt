use Rattle.std.proofs.Common.{option_map, sym, ap, ◌∙◌, subst}
use Rattle.rule_words.specs.Scenes.{type_in, MayBeTypeOf}
use Rattle.assign_rules.proofs.TypeLemmas.{nth_type, nth_below}
use Rattle.statement_rules.proofs.return_wants.nth.Goals as goal

pub returns-clause-is : goal.returns-clause-is
returns-clause-is c = let s = c.args.s.now in ap (option_map (type_in s)) c.id_at.ensures ∙ nth_type s c.args.list.now c.args.i

pub returns-clause-within : goal.returns-clause-within
returns-clause-within c = let s = c.args.s.now in subst (MayBeTypeOf s) (sym c.id_at.ensures) (nth_below s c.args.list.now c.args.i c.requires)
