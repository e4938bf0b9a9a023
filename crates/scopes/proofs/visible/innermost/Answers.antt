use Rattle.std.proofs.Common.{◌≡◌, ℕ, length, slice_get, Some, None, sym, ap, ◌∙◌, ◌-◌, refl, List}
use Rattle.std.specs.Option.{option_copied}
use Rattle.std.proofs.lemmas.Option.{slice_get_read}
use Rattle.scopes.proofs.VisibleLemmas.{leave_all, left_visible, stack_within, answer_none, answer_some}
use Rattle.scopes.proofs.visible.innermost.Goals as goal

pub leave-requires : goal.leave-requires
leave-requires c =
    let ds = c.args.declarations.now in
    let there = slice_get_read c.args.visible.now.items _ _ c.index_mut-stack.result.now refl c.requires.name c.index_mut-stack.ensures.value in
    stack_within ds c.args.next _ _ c.index_mut-stack.result.now.items (c.requires.reached.visible _ _ there)

pub returns-in-Some-clause-reached : goal.returns-in-Some-clause-reached
returns-in-Some-clause-reached c =
    let there = slice_get_read c.args.visible.now.items _ _ c.index_mut-stack.result.now refl c.requires.name c.index_mut-stack.ensures.value in
    leave_all c.args.declarations.now c.args.next c.args.sought.at c.args.sought.name c.args.visible.now.items c.index_mut-stack.result.now c.leave.new.stack c.requires.name there c.leave.ensures.taken c.requires.none_left c.requires.reached

pub returns-in-None-clause-reached : goal.returns-in-None-clause-reached
returns-in-None-clause-reached c =
    let there = slice_get_read c.args.visible.now.items _ _ c.index_mut-stack.result.now refl c.requires.name c.index_mut-stack.ensures.value in
    leave_all c.args.declarations.now c.args.next c.args.sought.at c.args.sought.name c.args.visible.now.items c.index_mut-stack.result.now c.leave.new.stack c.requires.name there c.leave.ensures.taken c.requires.none_left c.requires.reached

pub returns-in-Some-clause-answers : goal.returns-in-Some-clause-answers
returns-in-Some-clause-answers c =
    let ds = c.args.declarations.now in
    let there = slice_get_read c.args.visible.now.items _ _ c.index_mut-stack.result.now refl c.requires.name c.index_mut-stack.ensures.value in
    let was = c.requires.reached in
    let now = left_visible ds c.args.next was.from c.args.sought.at c.args.sought.name c.index_mut-stack.result.now.items c.leave.new.stack.items (was.visible _ _ there) was.low c.leave.ensures.taken in
    let last : slice_get c.leave.new.stack.items (length c.leave.new.stack.items - 1) ≡ Some c.in-Some.top.now =
    ap (λ (x : List ℕ). slice_get x (length x - 1)) (sym c.deref.ensures.value) ∙ (sym c.last.ensures.value ∙ ap option_copied c.in-Some.is) in
    answer_some ds c.args.next c.args.sought c.leave.new.stack.items c.in-Some.top.now c.args.visible.now.items was c.requires.none_left now c.leave.ensures.top last

pub returns-in-None-clause-answers : goal.returns-in-None-clause-answers
returns-in-None-clause-answers c =
    let ds = c.args.declarations.now in
    let there = slice_get_read c.args.visible.now.items _ _ c.index_mut-stack.result.now refl c.requires.name c.index_mut-stack.ensures.value in
    let was = c.requires.reached in
    let now = left_visible ds c.args.next was.from c.args.sought.at c.args.sought.name c.index_mut-stack.result.now.items c.leave.new.stack.items (was.visible _ _ there) was.low c.leave.ensures.taken in
    let last : slice_get c.leave.new.stack.items (length c.leave.new.stack.items - 1) ≡ None =
    ap (λ (x : List ℕ). slice_get x (length x - 1)) (sym c.deref.ensures.value) ∙ (sym c.last.ensures.value ∙ ap option_copied c.in-None.is) in
    answer_none ds c.args.next c.args.sought.at c.args.sought c.leave.new.stack.items refl c.requires.none_left now last
