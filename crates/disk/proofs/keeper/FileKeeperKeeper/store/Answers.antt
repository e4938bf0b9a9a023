use Rattle.std.proofs.Common.{arith, ◌≤◌, length, refl, rules, codes, Ok, Err}
use Rattle.gv_base.proofs.PathFacts.{path-of_segment}
use Rattle.gv_base.specs.declared.fault.Denied.TheVariants as denied
use Rattle.disk.proofs.ReplaceLaws.{stored, denied-leaves}
use Rattle.disk.proofs.keeper.FileKeeperKeeper.store.Goals as goal

pub replace-requires : goal.replace-requires
replace-requires g c = path-of_segment (codes ".gvet-cache") refl (omega arith) (omega arith)

pub returns-in-Ok : goal.returns-in-Ok
returns-in-Ok g c =
    let long = c.if-bytes-gt-LONGEST.false in
    let short : length c.args.bytes.now ≤ 1073741824 = omega (arith, long) in
    record { leaves = stored _ _ (Ok tt) c.args.bytes.now short c.in-Ok.ensures.held; stores = search rules; fetches = refl }

pub returns-in-Err-Failed : goal.returns-in-Err-Failed
returns-in-Err-Failed g c =
    let long = c.if-bytes-gt-LONGEST.false in
    let short : length c.args.bytes.now ≤ 1073741824 = omega (arith, long) in
    record { leaves = denied-leaves _ _ c.in-Err-Failed.field-0 denied.Failed c.args.bytes.now (stored _ _ (Err c.in-Err-Failed.field-0) c.args.bytes.now short c.in-Err-Failed.ensures.held); stores = search rules; fetches = refl }

pub returns-in-Err-NoMemory : goal.returns-in-Err-NoMemory
returns-in-Err-NoMemory g c =
    let long = c.if-bytes-gt-LONGEST.false in
    let short : length c.args.bytes.now ≤ 1073741824 = omega (arith, long) in
    record { leaves = denied-leaves _ _ c.in-Err-NoMemory.field-0 denied.NoMemory c.args.bytes.now (stored _ _ (Err c.in-Err-NoMemory.field-0) c.args.bytes.now short c.in-Err-NoMemory.ensures.held); stores = search rules; fetches = refl }
