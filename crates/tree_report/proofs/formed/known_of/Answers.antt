use Rattle.std.proofs.Common.{ap, sym, ◌∙◌}
use Rattle.tree_report.specs.Limits.{size_limit}
use Rattle.tree_report.proofs.LimitLemmas.{first-told}
use Rattle.tree_report.proofs.formed.known_of.Goals as goal

pub returns-in-Some : goal.returns-in-Some
returns-in-Some g c = first-told c.args.files.now c.in-Some.limit (sym (c.size_limit.ensures ∙ ap size_limit (c.deref.ensures.value ∙ c.in_ok-sizes.ensures)) ∙ c.in-Some.is)
