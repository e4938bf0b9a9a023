use Rattle.std.proofs.Common.{length, nat_lt, refl}
use Rattle.analysis_core.proofs.JsonLemmas.{found_so}
use Rattle.analysis_core.proofs.laws.a_check_is_told_so.Goals as goal

pub returns : goal.returns
returns c files packages errors counts = record { text = refl; found = found_so (nat_lt 0 (length errors)) }
