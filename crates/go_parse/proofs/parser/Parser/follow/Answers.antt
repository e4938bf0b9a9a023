use Rattle.std.proofs.Common.{◌∙◌, ap, sym}
use Rattle.go_parse.specs.Machine.{state_of, topped}
use Rattle.go_parse.proofs.Advance.{unpopped}
use Rattle.go_parse.proofs.parser.Parser.follow.Goals as goal

pub returns-in-None-clause-same : goal.returns-in-None-clause-same
returns-in-None-clause-same c = unpopped _ _ _ _ _ _ _ c.pop.ensures.items ∙ ap (λ o. topped o (state_of c.args.self.now)) (sym c.in-None.is)
