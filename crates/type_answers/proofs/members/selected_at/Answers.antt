use Rattle.type_model.specs.GoTypes.{type_at}
use Rattle.type_model.specs.Tables.{types_in}
use Rattle.method_sets.specs.Members.{selector}
use Rattle.method_sets.specs.Levels.{EnoughToSelect, NeedsToSelect, SaysSelected, IsSelectionIn, chosen_in, select_of}
use Rattle.method_sets.proofs.ChooseLaws.{selecting_lasts}
use Rattle.method_sets.proofs.ReplyLaws.{said_in}
use Rattle.type_questions.specs.Questions.{Selecting}
use Rattle.type_questions.proofs.JudgingLaws.{of_table, found_shown}
use Rattle.typed_marks.specs.States.{so_far}
use Rattle.unit_read.specs.Units.{base_of}
use Rattle.unit_read.specs.Subjects.{full_of, unit_of}
use Rattle.rule_words.specs.Asking.{declarer, declaration_told}
use Rattle.type_answers.proofs.PendingLemmas.{in_step}
use Rattle.type_answers.proofs.SelectionLemmas.{selection_below}
use Rattle.type_answers.proofs.members.selected_at.Goals as goal

pub reached-requires-clause-within : goal.reached-requires-clause-within
reached-requires-clause-within c =
    let t = c.args.s.now.table in
    of_table EnoughToSelect NeedsToSelect (IsSelectionIn t) t (select_of t c.args.of c.args.name.now c.args.from.now) c.in_ok-reply.reply c.in_ok-reply.ensures

pub returns-clause-told : goal.returns-clause-told
returns-clause-told c =
    let s = c.args.s.now in
    let t = s.table in
    let u = c.args.u.now in
    found_shown (base_of (full_of u)) (declarer (unit_of u)) declaration_told (so_far s) t (in_step c.args.u.now s c.requires.scene)
    EnoughToSelect NeedsToSelect SaysSelected selecting_lasts Selecting (select_of t c.args.of c.args.name.now c.args.from.now)
    (IsSelectionIn t) (chosen_in t) (λ sel said. said_in t (type_at (types_in t) c.args.of) (selector c.args.name.now c.args.from.now) sel said)
    c.in_ok-reply.reply c.reached.result c.in_ok-reply.ensures c.reached.ensures

pub returns-clause-below : goal.returns-clause-below
returns-clause-below c =
    let s = c.args.s.now in
    let t = s.table in
    let u = c.args.u.now in
    selection_below t (base_of (full_of u)) (declarer (unit_of u)) declaration_told (so_far s) (select_of t c.args.of c.args.name.now c.args.from.now)
    c.in_ok-reply.reply c.reached.result c.in_ok-reply.ensures c.reached.ensures
