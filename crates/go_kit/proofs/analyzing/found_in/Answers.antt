use Rattle.std.proofs.Common.{List, map, sym, subst}
use Rattle.mark_walk.specs.Asks.{filled}
use Rattle.typed_marks.specs.Meanings.{Quiet}
use Rattle.typed_marks.specs.States.{so_far}
use Rattle.unit_read.specs.Subjects.{full_of}
use Rattle.action_graph.specs.Free.{path_of, AreGiven}
use Rattle.action_graph.specs.Suite.{FactsBy, FoundBy}
use Rattle.action_graph.specs.Nodes.{Named}
use Rattle.go_kit.proofs.analyzing.found_in.Goals as goal

pub returns-clause-found : goal.returns-clause-found
returns-clause-found c =
    subst (λ (given : List Named). FoundBy c.args.asked.now.analyzer (full_of c.args.subject.now) (filled Quiet (so_far c.args.state.now)) (map path_of c.args.files.now) given c.in_ok-found.found.found.items)
    c.as_slice-facts.ensures c.in_ok-found.ensures.found

pub returns-clause-facts : goal.returns-clause-facts
returns-clause-facts c =
    subst (λ (given : List Named). FactsBy c.args.asked.now.analyzer (full_of c.args.subject.now) (filled Quiet (so_far c.args.state.now)) given c.in_ok-found.found.facts)
    c.as_slice-facts.ensures c.in_ok-found.ensures.facts

pub run-requires-clause-given : goal.run-requires-clause-given
run-requires-clause-given c =
    subst (λ (given : List Named). AreGiven (full_of c.args.subject.now) c.args.files.now c.args.named.now given) (sym c.as_slice-facts.ensures) c.requires.given
