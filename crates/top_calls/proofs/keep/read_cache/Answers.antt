use Rattle.std.proofs.Common.{refl, Some}
use Rattle.top_calls.specs.Outcome.{spelled, ignored}
use Rattle.top_calls.proofs.keep.read_cache.Goals as goal

pub returns-in-Ok-Some-clause-finds : goal.returns-in-Ok-Some-clause-finds
returns-in-Ok-Some-clause-finds c = record { kept = Some c.args.bytes.now; holds = refl; opens = spelled c.args.bytes.now refl c.count_of-count.ensures.small (rw c.in-Ok-Some.field-0-is at c.in-Ok-Some.ensures) refl }

pub returns-in-Ok-None-clause-finds : goal.returns-in-Ok-None-clause-finds
returns-in-Ok-None-clause-finds c = record { kept = Some c.args.bytes.now; holds = refl; opens = ignored c.args.bytes.now refl (rw c.in-Ok-None.field-0-is at c.in-Ok-None.ensures) c.with_key.ensures refl }
