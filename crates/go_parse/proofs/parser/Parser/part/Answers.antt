use Rattle.std.proofs.Common.{ap, ◌∷◌, []}
use Rattle.go_tree.specs.declared.grammar.Symbol.TheVariants.{Part}
use Rattle.go_parse.specs.declared.parser.Task.TheVariants.{Want}
use Rattle.go_parse.specs.Machine.{state_of}
use Rattle.go_parse.specs.State.{Goes, pushed}
use Rattle.go_parse.proofs.Running.{same_item, stays}
use Rattle.go_parse.proofs.parser.Parser.part.Goals as goal

pub ident-requires : goal.ident-requires
ident-requires c = (c.is_ident.ensures.0 c.if-is_ident.true).1

pub type_name-requires : goal.type_name-requires
type_name-requires c = (c.is_type_name.ensures.0 c.if-is_type_name.true).1

pub returns-then-is_ident-clause-led : goal.returns-then-is_ident-clause-led
returns-then-is_ident-clause-led c = same_item c.args.class c.args.at (Want (Part c.args.category)) _ (state_of c.args.self.now) _ (ap (λ x. Want (Part x)) (c.is_ident.ensures.0 c.if-is_ident.true).0) c.in_ok-taken.ensures.led

pub returns-then-is_type_name-clause-led : goal.returns-then-is_type_name-clause-led
returns-then-is_type_name-clause-led c = same_item c.args.class c.args.at (Want (Part c.args.category)) _ (state_of c.args.self.now) _ (ap (λ x. Want (Part x)) (c.is_type_name.ensures.0 c.if-is_type_name.true).0) c.in_ok-taken-2.ensures.led

pub returns-clause-led : goal.returns-clause-led
returns-clause-led c = stays _ _ _ _ (ap (λ i. Goes (pushed (i ∷ []) (state_of c.args.self.now))) c.part_end-end.ensures)
