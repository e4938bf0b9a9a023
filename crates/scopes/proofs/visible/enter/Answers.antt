use Rattle.std.proofs.Common.{refl}
use Rattle.std.proofs.lemmas.Option.{slice_get_read}
use Rattle.scopes.proofs.VisibleLemmas.{no_declaration, enter_all, region_here, visible_here, stack_within}
use Rattle.scopes.proofs.visible.enter.Goals as goal

pub leave-requires : goal.leave-requires
leave-requires c =
    let ds = c.args.declarations.now in
    let region = region_here ds c.args.next no_declaration c.requires.region in
    let low = c.requires.names c.args.next _ region.0 in
    let there = slice_get_read c.args.visible.now.items _ _ c.index_mut-stack.result.now refl low c.index_mut-stack.ensures.value in
    stack_within ds c.args.next _ _ c.index_mut-stack.result.now.items (c.requires.visible _ region.0 _ _ there)

pub returns-clause-visible : goal.returns-clause-visible
returns-clause-visible c =
    let ds = c.args.declarations.now in
    let region = region_here ds c.args.next no_declaration c.requires.region in
    let low = c.requires.names c.args.next _ region.0 in
    let there = slice_get_read c.args.visible.now.items _ _ c.index_mut-stack.result.now refl low c.index_mut-stack.ensures.value in
    visible_here ds c.args.next _ _ _ region.0
    (enter_all ds c.args.next c.args.visible.now.items _ c.index_mut-stack.result.now c.leave.new.stack c.push.new.self c.requires.laid region low there
    c.leave.ensures.taken c.leave.ensures.top c.in_ok-push.ensures.items (c.requires.visible _ region.0))
