use Rattle.std.proofs.Common.{List, Option, sym, subst}
use Rattle.std.specs.Prelude.{IfOk}
use Rattle.typed_marks.specs.declared.item.Item.{Item}
use Rattle.unit_read.specs.Subjects.{unit_of}
use Rattle.rule_words.specs.declared.seen.Seen.{Seen}
use Rattle.rule_words.specs.Scenes.{parts_in, AreSeenOf}
use Rattle.rule_words.specs.Wanting.{wanted_of}
use Rattle.elaborate.specs.Briefs.{ComesBriefly}
use Rattle.elaborate.proofs.BriefLemmas.{bind_briefly}
use Rattle.go_rules.specs.Slots.{ComeTo}
use Rattle.go_rules.specs.Stages.{from_parts, parts_read}
use Rattle.go_rules.proofs.judged.with_parts.Goals as goal

pub from_parts-requires-in-None-clause-parts : goal.from_parts-requires-in-None-clause-parts
from_parts-requires-in-None-clause-parts c = subst (λ (l : List Seen). AreSeenOf c.args.s.now l) (sym c.deref.ensures.value) (c.in_ok-waits.ensures.over c.in-None.is)

pub returns-in-None-clause-comes : goal.returns-in-None-clause-comes
returns-in-None-clause-comes c =
    let s = c.args.s.now in
    let u = unit_of c.args.u.now in
    let seen = c.read_parts.new.room.seen.items in
    bind_briefly c.args.u.now s (parts_read u c.args.stage c.args.block c.args.at c.args.node.now) (from_parts u c.args.block c.args.at c.args.node.now (wanted_of s c.args.w))
    (parts_in s seen) _
    (subst (λ (o : Option Item). ComeTo c.args.u.now s (parts_read u c.args.stage c.args.block c.args.at c.args.node.now) (parts_in s seen) o) c.in-None.is c.in_ok-waits.ensures.is)
    (subst (λ (l : List Seen). IfOk c.from_parts-in-None.result (ComesBriefly c.args.u.now s (from_parts u c.args.block c.args.at c.args.node.now (wanted_of s c.args.w) (parts_in s l)))) c.deref.ensures.value c.from_parts-in-None.ensures.comes)
