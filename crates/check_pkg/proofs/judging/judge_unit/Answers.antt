use Rattle.std.proofs.Common.{subst}
use Rattle.elaborate.specs.Covering.{IsElaborated}
use Rattle.check_pkg.proofs.judging.judge_unit.Goals as goal

pub returns-in_ok-refused-in-Marked : goal.returns-in_ok-refused-in-Marked
returns-in_ok-refused-in-Marked g c =
    let made = c.in_ok-refused-in-Marked.ensures in
    let both = subst (IsElaborated g.R.Rules.rule c.args.u.now) c.in-Marked.is c.in_ok-elaborated.ensures in
    record {
      scene = both.0;
      annotated = both.1;
      all = made.all;
      ordered = made.ordered;
      rise = made.rise;
      exported = made.exported;
      within = made.within;
      nothing = made.nothing;
    }
