use Rattle.std.proofs.Common.{ℕ, List, Some, ap, sym, ◌∙◌, subst}
use Rattle.go_kit.specs.declared.kept.Known.{Known}
use Rattle.go_kit.specs.Keeping.{IsKnown}
use Rattle.go_kit.proofs.KnownLemmas.{all_less, was_known}
use Rattle.go_kit.proofs.known.taken.Goals as goal

pub returns-in-Some-clause-known : goal.returns-in-Some-clause-known
returns-in-Some-clause-known c = all_less c.args.table.now c.args.known.now c.take.new.known c.take.ensures.rest c.requires.known

pub returns-in-None-clause-known : goal.returns-in-None-clause-known
returns-in-None-clause-known c = all_less c.args.table.now c.args.known.now c.take.new.known c.take.ensures.rest c.requires.known

pub returns-in-Some-clause-is : goal.returns-in-Some-clause-is
returns-in-Some-clause-is c = was_known c.args.table.now c.in-Some.one c.args.text.now c.same.result (c.requires.known.each c.args.path.now c.in-Some.one (sym c.take.ensures.value ∙ c.in-Some.is)) c.same.ensures
