use Rattle.std.proofs.Common.{arith, refl}
use Rattle.top_calls.proofs.BeginLaws.{Turns-trans, Turns-none}
use Rattle.top_calls.proofs.top.converse.Goals as goal

pub script-preserved : goal.script-preserved
script-preserved g c = record {
  turns = Turns-trans c.script.invariant.turns c.in_default.ensures.turns;
  room = c.in_default.ensures.room refl;
  ready = c.in_default.ensures.ready refl;
  size = let s = c.script.invariant.size in let e = c.in_default.ensures.size in omega arith;
  some = let s = c.script.invariant.some in let e = c.in_default.ensures.size in omega arith;
  source = omega (arith, c.in_default.ensures.source_fault.later);
  keeper = omega (arith, c.in_default.ensures.keeper_fault.later);
  sink = omega (arith, c.in_default.ensures.sink_fault.later);
  stalls = omega (arith, c.in_default.ensures.stalled.later);
}

pub returns-in-Some-clause-turns : goal.returns-in-Some-clause-turns
returns-in-Some-clause-turns g c = Turns-trans c.script.invariant.turns c.in-Some.ensures.turns

pub script-init : goal.script-init
script-init g c = record {
  turns = Turns-none c.args.options.now (g.I.Source.view c.args.input.now) (g.O.Sink.view c.args.output.now) _ (g.K.Keeper.view c.args.keeper.now).kept c.args.session.now;
  room = c.requires.room;
  ready = c.requires.ready;
  size = refl;
  some = c.requires.some;
  source = omega arith;
  keeper = omega arith;
  sink = omega arith;
  stalls = omega arith;
}
