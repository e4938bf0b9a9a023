use Rattle.value_tests.proofs.LinkLemmas.{link_marked, ends_here, goes_on, waits_on}
use Rattle.value_tests.proofs.mark_walk_tests.LinksMarking.judge.Goals as goal

pub mark_of-requires-in-Some : goal.mark_of-requires-in-Some
mark_of-requires-in-Some c =
    let k = c.args.self.now in
    link_marked k.links.items k.marks.items c.requires.state c.args.item c.mark_of.result c.in-Some.other c.mark_of.ensures c.in-Some.is

pub returns-in-None-clause-steps : goal.returns-in-None-clause-steps
returns-in-None-clause-steps c =
    let k = c.args.self.now in
    ends_here k.links.items k.marks.items c.requires.state c.args.item c.requires.item c.requires.unmarked c.mark_of.result c.mark_of.ensures c.in-None.is c.mark_as.new.marks.items c.mark_as.ensures

pub returns-in-None-mark_of-clause-steps : goal.returns-in-None-mark_of-clause-steps
returns-in-None-mark_of-clause-steps c =
    let k = c.args.self.now in
    waits_on k.links.items k.marks.items c.requires.state c.args.item c.mark_of.result c.in-Some.other c.mark_of.ensures c.in-Some.is c.mark_of-in-Some.result c.mark_of-in-Some.ensures c.in-None-mark_of.is

pub returns-in-Some-mark_of-clause-steps : goal.returns-in-Some-mark_of-clause-steps
returns-in-Some-mark_of-clause-steps c =
    let k = c.args.self.now in
    goes_on k.links.items k.marks.items c.requires.state c.args.item c.requires.item c.requires.unmarked c.mark_of.result c.in-Some.other c.mark_of.ensures c.in-Some.is
    c.mark_of-in-Some.result c.in-Some-mark_of.mark c.mark_of-in-Some.ensures c.in-Some-mark_of.is c.mark_as-in-Some-mark_of.new.marks.items c.mark_as-in-Some-mark_of.ensures
