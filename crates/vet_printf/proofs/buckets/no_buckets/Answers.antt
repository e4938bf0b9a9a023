use Rattle.vet_printf.proofs.BucketLemmas.{empty_buckets}
use Rattle.vet_printf.proofs.buckets.no_buckets.Goals as goal

pub returns : goal.returns
returns c given number = empty_buckets c.args.count c.in_ok-settled.settled.items c.in_ok-parts.parts.items c.in_ok-settled.ensures c.in_ok-parts.ensures.size c.in_ok-parts.ensures.empty given number
