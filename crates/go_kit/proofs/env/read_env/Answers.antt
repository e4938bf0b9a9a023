use Rattle.go_kit.proofs.ReadLemmas.{interfaces-more, interfaces-within, no-face}
use Rattle.type_texts.proofs.GrowLaws.{grown_then}
use Rattle.go_kit.proofs.env.read_env.Goals as goal

pub returns-in-None-clause-is : goal.returns-in-None-clause-is
returns-in-None-clause-is c = no-face c.args.env.now c.loop-pair.pair-index c.pair-item.result c.pair-item.is c.loop-pair-test.true (rw c.in-None.is at c.in_ok-read.ensures.is)

pub returns-in-None-clause-grown : goal.returns-in-None-clause-grown
returns-in-None-clause-grown c = grown_then c.args.table.now c.loop-pair.table c.read_face.new.table c.loop-pair.invariant.grown c.in_ok-read.ensures.grown

pub loop-pair-preserved : goal.loop-pair-preserved
loop-pair-preserved c = record {
  table = c.in_ok-read.ensures.grown.table;
  known = c.in_ok-read.ensures.known;
  grown = grown_then c.args.table.now c.loop-pair.table c.read_face.new.table c.loop-pair.invariant.grown c.in_ok-read.ensures.grown;
  read =
      interfaces-more c.args.env.now c.loop-pair.pair-index c.pair-item.result c.loop-pair.table c.read_face.new.table c.loop-pair.list.items _ c.in-Some.interface c.pair-item.is c.loop-pair-test.true
      c.in_ok-read.ensures.grown c.loop-pair.invariant.within c.loop-pair.invariant.read (rw c.in-Some.is at c.in_ok-read.ensures.is) c.in_ok-push-in-Some.ensures.items;
  within =
      interfaces-within c.loop-pair.table c.read_face.new.table c.loop-pair.list.items _ c.in-Some.interface c.in_ok-read.ensures.grown c.loop-pair.invariant.within
      (rw c.in-Some.is at c.in_ok-read.ensures.within) c.in_ok-push-in-Some.ensures.items;
}

pub returns-in_err-read-clause-grown : goal.returns-in_err-read-clause-grown
returns-in_err-read-clause-grown c = grown_then c.args.table.now c.loop-pair.table c.read_face.new.table c.loop-pair.invariant.grown c.in_err-read.ensures.grown

pub returns-in_err-push-in-Some-clause-grown : goal.returns-in_err-push-in-Some-clause-grown
returns-in_err-push-in-Some-clause-grown c = grown_then c.args.table.now c.loop-pair.table c.read_face.new.table c.loop-pair.invariant.grown c.in_ok-read.ensures.grown
