use Rattle.std.proofs.Common.{◌≤◌, length, sym, ◌∙◌, arith}
use Rattle.literal_rules.proofs.FieldLemmas.{scan, scan_here, scan_on, scan_end}
use Rattle.literal_rules.proofs.fields.place_among.Goals as goal

pub returns-then-is_named : goal.returns-then-is_named
returns-then-is_named c =
    sym (c.loop-i.invariant ∙ scan_here c.args.s.now c.args.fields.now c.args.name.now c.loop-i.i c.listed.result.now c.listed.ensures (sym c.is_named.ensures ∙ c.if-is_named.true))

pub loop-i-preserved : goal.loop-i-preserved
loop-i-preserved c =
    c.loop-i.invariant ∙ scan_on c.args.s.now c.args.fields.now c.args.name.now c.loop-i.i c.listed.result.now c.listed.ensures (sym c.is_named.ensures ∙ c.if-is_named.false)

pub returns : goal.returns
returns c = sym (c.loop-i.invariant ∙ scan_end c.args.s.now c.args.fields.now c.args.name.now c.loop-i.i (omega arith))
