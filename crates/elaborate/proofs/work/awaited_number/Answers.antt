use Rattle.std.proofs.Common.{◌∙◌}
use Rattle.unit_read.specs.Subjects.{full_of}
use Rattle.elaborate.proofs.NowhereLemmas.{is_item_so, number_there, number_missing}
use Rattle.elaborate.proofs.work.awaited_number.Goals as goal

pub returns-then-is_item : goal.returns-then-is_item
returns-then-is_item c =
    let u = full_of c.args.u.now in
    let there = is_item_so u c.args.item c.deref.result.now c.is_item.result _ (c.deref.ensures.value ∙ c.requires.blocks) c.is_item.ensures c.if-is_item.true in
    number_there u c.args.item c.deref-then-is_item.result.now c.number_of.result (c.deref-then-is_item.ensures.value ∙ c.requires.blocks) there c.number_of.ensures.number

pub returns-else-is_item : goal.returns-else-is_item
returns-else-is_item c =
    let u = full_of c.args.u.now in
    let none = is_item_so u c.args.item c.deref.result.now c.is_item.result _ (c.deref.ensures.value ∙ c.requires.blocks) c.is_item.ensures c.if-is_item.false in
    number_missing u c.args.item _ none (c.len-else-is_item.ensures.count ∙ c.requires.cells)
