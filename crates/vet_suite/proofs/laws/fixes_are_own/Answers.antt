use Rattle.std.proofs.Common.{refl}
use Rattle.analysis_core.specs.Findings.{IsOwn}
use Rattle.vet_suite.proofs.EachLemmas.{each_of, all_of}
use Rattle.vet_suite.proofs.laws.fixes_are_own.Goals as goal

pub returns : goal.returns
returns c number u marks paths given found is =
    all_of IsOwn found (each_of u IsOwn number (λ name named. record { plain = λ f n text node there. tt; removed = λ f n m text node other there at kind. refl; wrapped = λ f n m text node other there call part at. refl }) marks paths given found is)
