use Rattle.std.proofs.Common.{◌≡◌, ◌<◌, ℕ, List, Option, Some, length, sym, ap, ◌∙◌, subst, arith}
use Rattle.fact_codec.specs.declared.wraps.Wraps.{Wraps}
use Rattle.findings.specs.Passes.{unit_in}
use Rattle.own_functions.specs.Functions.{functions, nth_name}
use Rattle.own_functions.proofs.ListLemmas.{size_is}
use Rattle.vet_printf.specs.Items.{fact_named, IsAdded}
use Rattle.vet_printf.proofs.FactLemmas.{facts_none, facts_more, facts_all, nth_there}
use Rattle.vet_printf.proofs.fact_text.table_of.Goals as goal

pub loop-i-init : goal.loop-i-init
loop-i-init c = facts_none (unit_in c.args.p.now) c.args.x.now c.new-table.result c.new-table.ensures

pub loop-i-preserved : goal.loop-i-preserved
loop-i-preserved c =
    let u = unit_in c.args.p.now in
    let x = c.args.x.now in
    let name : List ℕ = c.nth_text-name.result.now in
    let size = size_is u c.args.known.now.list.now c.requires.list in
    let added : IsAdded name (fact_named u x name) c.loop-i.table c.put_some.new.table = subst (λ (o : Option Wraps). IsAdded name o c.loop-i.table c.put_some.new.table) (c.fact_named-fact.ensures ∙ ap (fact_named u x) c.as_bytes.ensures.value) c.in_ok-put_some.ensures in
    facts_more u x c.loop-i.i name c.loop-i.table c.put_some.new.table (nth_there u c.loop-i.i name c.nth_text-name.ensures (omega (arith, c.loop-i-test.true, c.loop-i.auto.i-end, size))) c.loop-i.invariant added

pub returns : goal.returns
returns c =
    let u = unit_in c.args.p.now in
    let size : length c.args.known.now.list.now ≡ length (functions u) = size_is u c.args.known.now.list.now c.requires.list in
    facts_all u c.args.x.now c.loop-i.i c.loop-i.table (omega (arith, c.loop-i-test.false, c.loop-i.auto.i-end, size)) c.loop-i.invariant
