use Rattle.std.proofs.Common.{ℕ, List, length, refl, sym, ap, ◌∙◌, subst}
use Rattle.std.proofs.lemmas.Option.{slice_get_read}
use Rattle.handed_facts.specs.Handed.{Named, TellsFacts}
use Rattle.handed_facts.proofs.HandedLemmas.{nth_told}
use Rattle.handed_facts.proofs.reading.nth_told.Goals as goal

pub returns : goal.returns
returns g c = nth_told g.F.FactKind.spelling c.args.given.now c.args.i c.index-given-i.result c.in_ok-table.table (slice_get_read c.args.given.now (length c.args.given.now) c.args.i c.index-given-i.result refl c.requires c.index-given-i.is)
    (subst (λ (b : List ℕ). TellsFacts g.F.FactKind.spelling b c.in_ok-table.table) (c.as_slice.ensures ∙ ap (λ (x : Named). x.1) (sym c.index-given-i.is)) c.in_ok-table.ensures)
