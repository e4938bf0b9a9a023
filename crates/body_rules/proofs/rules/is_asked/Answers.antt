use Rattle.std.proofs.Common.{sym, ◌∙◌}
use Rattle.body_rules.specs.Asked.{acts_at, is_marked}
use Rattle.body_rules.specs.Given.{given}
use Rattle.body_rules.proofs.AskedLemmas.{either}
use Rattle.body_rules.proofs.rules.is_asked.Goals as goal

pub returns-then-acts_at : goal.returns-then-acts_at
returns-then-acts_at c =
    let f = given c.args.f.now in
    either (is_marked f c.args.n) (acts_at f c.args.n) (sym c.acts_at.ensures ∙ c.if-acts_at.true)
