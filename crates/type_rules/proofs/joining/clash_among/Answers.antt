use Rattle.std.proofs.Common.{map}
use Rattle.unit_read.specs.Subjects.{unit_of}
use Rattle.rule_words.specs.Scenes.{parts_in}
use Rattle.type_rules.specs.Elements.{method_in}
use Rattle.type_rules.proofs.JoinLemmas.{clash_on}
use Rattle.type_rules.proofs.joining.clash_among.Goals as goal

pub loop-k-preserved : goal.loop-k-preserved
loop-k-preserved c =
    let s = c.args.s.now in
    clash_on (unit_of c.args.u.now) c.args.file (map (method_in s) c.args.methods.now) c.args.reads.now (parts_in s c.args.parts.now) c.loop-k.k _ _ _ c.loop-k.invariant c.in_ok-here.ensures
    c.either-found.ensures
