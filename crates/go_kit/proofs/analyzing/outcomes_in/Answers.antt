use Rattle.std.proofs.Common.{Some, map, sym, ap, ◌∙◌, arith}
use Rattle.std.proofs.lemmas.Option.{slice_get-get_or}
use Rattle.mark_walk.specs.Asks.{filled}
use Rattle.typed_marks.specs.Meanings.{Quiet}
use Rattle.typed_marks.specs.States.{so_far}
use Rattle.unit_read.specs.Subjects.{full_of}
use Rattle.action_graph.specs.Free.{path_of}
use Rattle.go_kit.proofs.RunLemmas.{outcomes-none, outcomes-more}
use Rattle.go_kit.proofs.analyzing.outcomes_in.Goals as goal

pub loop-run-init : goal.loop-run-init
loop-run-init c =
    outcomes-none (full_of c.args.subject.now) (filled Quiet (so_far c.args.state.now)) (map path_of c.args.files.now) c.args.asked.now c.in_ok-outcomes.outcomes.items c.in_ok-outcomes.ensures.items

pub loop-run-preserved : goal.loop-run-preserved
loop-run-preserved c =
    outcomes-more (full_of c.args.subject.now) (filled Quiet (so_far c.args.state.now)) (map path_of c.args.files.now) c.args.asked.now c.loop-run.run-index c.run-item.result c.loop-run.outcomes.items _ c.in_ok-outcome.outcome
    c.run-item.is c.loop-run-test.true c.loop-run.invariant c.in_ok-outcome.ensures c.in_ok-push.ensures.items

pub returns-clause-size : goal.returns-clause-size
returns-clause-size c = let size = c.loop-run.invariant.size in omega (arith, size)

pub outcome_in-requires-clause-given : goal.outcome_in-requires-clause-given
outcome_in-requires-clause-given c =
    c.requires.given c.loop-run.run-index c.run-item.result (slice_get-get_or c.args.asked.now c.loop-run.run-index c.run-item.result c.loop-run-test.true ∙ ap Some (sym c.run-item.is))
