use Rattle.go_kit.proofs.KnownLemmas.{all_grow}
use Rattle.go_kit.proofs.storing.again.Goals as goal

pub returns-clause-kept : goal.returns-clause-kept
returns-clause-kept c = record {
  basics = c.in_ok-table.ensures.basics;
  known = all_grow c.args.old.table c.in_ok-table.table c.args.old.known c.in_ok-table.ensures.extends c.requires.known;
}
