use Rattle.std.proofs.Common.{◌≡◌, ◌↔◌, ◌⊎◌, map, sym, subst}
use Rattle.std.specs.List.{Contains}
use Rattle.fact_codec.specs.Tables.{fact_of}
use Rattle.handed_facts.specs.Handed.{Facts}
use Rattle.fact_codec.specs.declared.units.Never.{Never}
use Rattle.vet_never.specs.Never.{fact_name}
use Rattle.vet_never.proofs.PutLemmas.{put_names, none_of}
use Rattle.vet_never.proofs.never.put_new.Goals as goal

pub put-requires : goal.put-requires
put-requires c = record { absent = none_of (fact_of c.args.table.now c.args.name.now) c.requires }

pub returns : goal.returns
returns c = λ q.
    subst (λ (t : Facts Never). Contains (map fact_name t) q ↔ (Contains (map fact_name c.args.table.now) q ⊎ (q ≡ c.args.name.now))) (sym c.in_ok-put.ensures.put)
    (put_names c.args.table.now c.args.name.now q (record {}) (none_of (fact_of c.args.table.now c.args.name.now) c.requires))
