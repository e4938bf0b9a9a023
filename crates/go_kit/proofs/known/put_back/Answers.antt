use Rattle.go_kit.proofs.KnownLemmas.{read_before, read_last}
use Rattle.go_kit.proofs.known.put_back.Goals as goal

pub put_at-requires-clause-is : goal.put_at-requires-clause-is
put_at-requires-clause-is c = λ pair there.
    read_last c.args.table.now c.args.env.now c.loop-face.rest.items c.pop.new.self.items c.in-Some.face c.height.result pair (rw c.in-Some.is at c.pop.ensures.items) c.height.ensures there c.loop-face.invariant.read

pub loop-face-preserved : goal.loop-face-preserved
loop-face-preserved c = record {
  known = c.in_ok-put_at.ensures;
  read = read_before c.args.table.now c.args.env.now c.loop-face.rest.items c.pop.new.self.items c.in-Some.face (rw c.in-Some.is at c.pop.ensures.items) c.loop-face.invariant.read;
}
