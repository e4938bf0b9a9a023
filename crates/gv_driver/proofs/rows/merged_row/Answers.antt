use Rattle.std.proofs.Common.{◌≡◌, ◌<◌, ◌^◌, Bool, List, length, refl, ap, sym, ◌∙◌, arith}
use Rattle.gv_driver.specs.Rows.{with_each}
use Rattle.gv_driver.proofs.EnvLaws.{flags-long, row-is}
use Rattle.gv_driver.proofs.rows.merged_row.Goals as goal

pub places-requires : goal.places-requires
places-requires c =
    let long : length c.set_each.new.flags.items ≡ length c.args.table.now =
    flags-long c.args.table.now c.args.numbers.now c.in_ok-flags.flags.items c.set_each.new.flags.items (length c.args.table.now) c.in_ok-flags.ensures refl c.set_each.ensures in
    let same : length c.deref.result.now ≡ length c.set_each.new.flags.items = ap (λ (l : List Bool). length l) c.deref.ensures.value in
    let few : length c.args.table.now < 2 ^ 32 = c.requires in
    omega (arith, long, same, few)

pub returns : goal.returns
returns c =
    row-is c.args.table.now c.args.numbers.now c.in_ok-flags.flags.items c.deref.result.now (length c.args.table.now) c.in_ok-list.list.items c.new.result c.in_ok-flags.ensures refl (c.deref.ensures.value ∙ c.set_each.ensures)
    c.in_ok-list.ensures c.new.ensures
