use Rattle.std.proofs.Common.{◌∙◌, length, refl, arith}
use Rattle.std.proofs.lemmas.Option.{slice_get-get_or}
use Rattle.file_flow.proofs.ToldLemmas.{given_by}
use Rattle.file_flow.proofs.told.give.Goals as goal

pub loop-i-preserved : goal.loop-i-preserved
loop-i-preserved c = record {
  size = c.put.ensures.size ∙ c.loop-i.invariant.size;
  given = given_by c.args.jumps.now c.args.owners.now c.loop-i.i _ c.owner_of.result c.loop-i.given.items c.put.new.all.items c.requires.rises (slice_get-get_or c.args.jumps.now c.loop-i.i _ c.loop-i-test.true) c.owner_of.ensures c.put.ensures c.loop-i.invariant.given;
}
