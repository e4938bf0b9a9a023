use Rattle.std.proofs.Common.{◌≡◌, ◌≤◌, ◌<◌, ◌+◌, ◌*◌, ◌^◌, None, length}
use Rattle.std.specs.Prelude.{sum_by}
use Rattle.tree_runs.specs.Reports.{work}
use Rattle.top_calls.specs.Desk.{IsReady}
use Rattle.top_calls.specs.Headline.{keeper_faults}
use Rattle.top_calls.specs.Workers.{DidAtMost}
use Rattle.top_calls.specs.Turn.{Turns, work_left}
use Rattle.top_calls.proofs.top.converse.Given as goal

abbrev pub invariant-script : goal.invariant-script
invariant-script g l = record {
  turns : Turns l.options (g.I.Source.view l.initial.input) (g.I.Source.view l.input) (g.O.Sink.view l.initial.output) (g.O.Sink.view l.output) (work (sum_by g.W.Kit.loads l.initial.kits) (sum_by g.W.Kit.runs l.initial.kits)) (work (sum_by g.W.Kit.loads l.kits) (sum_by g.W.Kit.runs l.kits)) (g.K.Keeper.view l.initial.keeper).kept (g.K.Keeper.view l.keeper).kept l.initial.session l.session None;
  room : DidAtMost g.W.Kit.loads g.W.Kit.runs (2 ^ 61 + 16384 * l.session.offset) l.kits;
  ready : IsReady l.session.desk;
  size : length l.kits ≡ length l.initial.kits;
  some : 0 < length l.kits;
  source : (g.I.Source.view l.initial.input).faults ≤ (g.I.Source.view l.input).faults;
  keeper : keeper_faults (g.K.Keeper.view l.initial.keeper) ≤ keeper_faults (g.K.Keeper.view l.keeper);
  sink : (g.O.Sink.view l.initial.output).faults ≤ (g.O.Sink.view l.output).faults;
  stalls : (g.O.Sink.view l.initial.output).stalls ≤ (g.O.Sink.view l.output).stalls;
}

abbrev pub decreases-script : goal.decreases-script
decreases-script g l = work_left l.session
