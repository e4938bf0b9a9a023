use Rattle.std.proofs.Common.{◌≡◌, ◌∙◌, ◌<◌, ap, sym, subst, length, arith}
use Rattle.std.proofs.lemmas.List.{length-map}
use Rattle.need_order.specs.Graphs.{Needs, IsOrder}
use Rattle.import_graph.specs.Tables.{imports_in, says_cyclic}
use Rattle.import_graph.specs.declared.drafts.Draft.{Draft}
use Rattle.import_graph.proofs.CycleLemmas.{flags-are}
use Rattle.import_graph.proofs.cycles.cycles.Goals as goal

pub returns : goal.returns
returns c =
    let e : length (imports_in c.args.drafts.now) ≡ length c.args.drafts.now = length-map c.args.drafts.now (λ (d : Draft). d.imports) in
    flags-are (imports_in c.args.drafts.now) c.in_ok-needed.needed.items c.in_ok-flags.flags.items
    (subst (λ g. IsOrder (Needs g) (length g) c.in_ok-needed.needed.items) c.in_ok-graph.ensures c.in_ok-needed.ensures)
    (c.in_ok-flags.ensures.size ∙ sym e)
    (λ k l. c.in_ok-flags.ensures.flags k (let l' : k < length (imports_in c.args.drafts.now) = l in omega (arith, l', e)) ∙ ap (says_cyclic k) c.deref.ensures.value)
