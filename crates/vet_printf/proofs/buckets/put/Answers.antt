use Rattle.vet_printf.proofs.BucketLemmas.{bucket_put}
use Rattle.vet_printf.proofs.buckets.put.Goals as goal

pub returns : goal.returns
returns c = bucket_put c.args.i c.args.handed c.args.j c.args.buckets.now.settled.items c.settle.new.settled.items c.args.buckets.now.parts.items c.add_part.new.parts.items c.requires.flags c.requires.rows c.settle.ensures c.in_ok-add_part.ensures
