use Rattle.std.proofs.Common.{◌≡◌, ℕ, length, ◌∙◌, arith}
use Rattle.findings.specs.Passes.{unit_in, marks_in}
use Rattle.own_functions.specs.Functions.{functions}
use Rattle.own_functions.proofs.ListLemmas.{size_is}
use Rattle.vet_printf.specs.Items.{IsItemAs}
use Rattle.vet_printf.specs.Wraps.{number_of}
use Rattle.vet_printf.proofs.EachLemmas.{none_yet, one_more, all_there}
use Rattle.vet_printf.proofs.items.all_items.Goals as goal

pub loop-i-init : goal.loop-i-init
loop-i-init c = none_yet (IsItemAs c.args.known.now (unit_in c.args.p.now) (marks_in c.args.p.now) (number_of c.args.kind)) c.new-items.result.items c.new-items.ensures.items

pub loop-i-preserved : goal.loop-i-preserved
loop-i-preserved c =
    one_more (IsItemAs c.args.known.now (unit_in c.args.p.now) (marks_in c.args.p.now) (number_of c.args.kind)) c.loop-i.i c.loop-i.items.items c.push.new.self.items c.in_ok-one.one c.loop-i.invariant c.in_ok-one.ensures c.in_ok-push.ensures.items

pub returns : goal.returns
returns c =
    let u = unit_in c.args.p.now in
    let size : length c.args.known.now.list.now ≡ length (functions u) = size_is u c.args.known.now.list.now c.requires.known.list in
    all_there (IsItemAs c.args.known.now u (marks_in c.args.p.now) (number_of c.args.kind)) c.loop-i.i (length (functions u)) c.loop-i.items.items (omega (arith, c.loop-i-test.false, c.loop-i.auto.i-end, size)) c.loop-i.invariant
