use Rattle.vet_suite.specs.Standing.{Stands}
use Rattle.vet_suite.proofs.EachLemmas.{each_of, all_of}
use Rattle.vet_suite.proofs.StandLemmas.{stands_numbered}
use Rattle.vet_suite.proofs.laws.findings_stand.Goals as goal

pub returns : goal.returns
returns c number u marks paths given found stand is =
    all_of (Stands u number) found (each_of u (Stands u number) number (stands_numbered u stand number c.analyzers_are_told.ensures.numbered) marks paths given found is)
