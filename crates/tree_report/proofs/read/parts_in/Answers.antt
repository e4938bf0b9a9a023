use Rattle.std.proofs.Common.{List, ℕ, sym, subst}
use Rattle.parse_file.specs.Verdict.{IsParsed}
use Rattle.tree_report.proofs.read.parts_in.Goals as goal

pub new-requires : goal.new-requires
new-requires c =
    subst (λ (b : List ℕ). IsParsed b c.in-Parsed.tree) (sym c.in_ok-held-in-Parsed.ensures) (rw c.in-Parsed.is at c.requires)
