use Rattle.std.proofs.Common.{length, refl, sym, ap, ◌∙◌}
use Rattle.std.proofs.lemmas.Option.{slice_get_read}
use Rattle.findings.specs.Passes.{unit_in}
use Rattle.own_functions.specs.declared.functions.Declared.{Declared}
use Rattle.own_functions.proofs.ListLemmas.{name_is}
use Rattle.own_functions.proofs.functions.nth_name.Goals as goal

pub returns : goal.returns
returns c =
    let list = c.args.list.now in
    c.as_bytes.ensures.value ∙ (c.as_str.ensures ∙ (ap (λ (d : Declared). d.name) (sym c.index-list-i.is) ∙ name_is (unit_in c.args.p.now) list c.args.i c.index-list-i.result c.requires.list (slice_get_read list (length list) c.args.i c.index-list-i.result refl c.requires.there c.index-list-i.is)))
