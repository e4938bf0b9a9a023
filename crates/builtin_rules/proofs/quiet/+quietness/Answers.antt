use Rattle.std.proofs.Common.{◌-◌, Bool, sym, ap, ◌∙◌, arith}
use Rattle.mark_walk.specs.Telling.{tell}
use Rattle.unit_read.specs.Subjects.{unit_of}
use Rattle.rule_words.specs.Asking.{Asks}
use Rattle.rule_words.specs.Scenes.{sight, told_by}
use Rattle.builtin_rules.specs.Quiet.{heard_ask, parts_at, then_parts, quiet_within}
use Rattle.rule_words.proofs.BindLaws.{says_bind, waits_bind}
use Rattle.builtin_rules.proofs.LevelLemmas.{within_none, within_more}
use Rattle.builtin_rules.proofs.QuietLemmas.{goes_on, stops, all_quiet}
use Rattle.builtin_rules.proofs.quiet.+quietness.Goals as goal

pub every-loop-i-preserved : goal.every-loop-i-preserved
every-loop-i-preserved t c =
    goes_on (sight c.args.s.now) (quiet_within (unit_of c.args.u.now) c.args.block c.args.file c.args.levels) c.args.parts.now c.loop-i.i c.nth-n.result c.within-found.result
    c.nth-n.ensures c.within-found.ensures (sym c.ends.ensures ∙ c.if-ends.false) c.loop-i.invariant

pub every-returns-then-ends : goal.every-returns-then-ends
every-returns-then-ends t c =
    stops (sight c.args.s.now) (quiet_within (unit_of c.args.u.now) c.args.block c.args.file c.args.levels) c.args.parts.now c.loop-i.i c.nth-n.result c.within-found.result
    c.nth-n.ensures c.within-found.ensures (sym c.ends.ensures ∙ c.if-ends.true) c.loop-i.invariant

pub every-returns : goal.every-returns
every-returns t c =
    all_quiet (sight c.args.s.now) (quiet_within (unit_of c.args.u.now) c.args.block c.args.file c.args.levels) c.args.parts.now c.loop-i.i (omega arith) c.loop-i.invariant

pub within-returns-then-levels-eq0 : goal.within-returns-then-levels-eq0
within-returns-then-levels-eq0 t c =
    sym (ap (λ (r : Asks Bool). tell (sight c.args.s.now) r) (within_none (unit_of c.args.u.now) c.args.block c.args.file c.args.levels c.args.n (omega arith)))

pub within-returns-in-Is : goal.within-returns-in-Is
within-returns-in-Is t c =
    let s = c.args.s.now in
    let u = unit_of c.args.u.now in
    let less = c.args.levels - 1 in
    says_bind (sight s) (heard_ask u c.args.block c.args.file c.args.n) (then_parts (quiet_within u c.args.block c.args.file less) (parts_at u c.args.file c.args.n)) c.in-Is.known
    (told_by (λ (b : Bool). b) c.or_parts.result) c.in-Is.ensures c.or_parts.ensures
    ∙ ap (λ (r : Asks Bool). tell (sight s) r) (sym (within_more u c.args.block c.args.file c.args.levels less c.args.n (omega arith)))

pub within-returns-in-Wait : goal.within-returns-in-Wait
within-returns-in-Wait t c =
    let s = c.args.s.now in
    let u = unit_of c.args.u.now in
    let less = c.args.levels - 1 in
    waits_bind (sight s) (heard_ask u c.args.block c.args.file c.args.n) (then_parts (quiet_within u c.args.block c.args.file less) (parts_at u c.args.file c.args.n)) c.in-Wait.item c.in-Wait.ensures
    ∙ ap (λ (r : Asks Bool). tell (sight s) r) (sym (within_more u c.args.block c.args.file c.args.levels less c.args.n (omega arith)))
