use Rattle.std.proofs.Common.{ℕ, List, Option, option_map, sym, ap, ◌∙◌}
use Rattle.std.specs.Global.{Vec}
use Rattle.go_tree.specs.declared.tree.Node.{Node}
use Rattle.mark_walk.specs.Telling.{Says, Waits, tell}
use Rattle.mark_walk.proofs.TellLaws.{told_bind}
use Rattle.typed_marks.specs.declared.mark.Mark.{Mark}
use Rattle.unit_read.specs.Subjects.{unit_of}
use Rattle.unit_read.specs.Units.{nodes_at}
use Rattle.rule_words.specs.Scenes.{sight, told_by, type_in}
use Rattle.literal_rules.specs.Items.{keys_ask}
use Rattle.literal_rules.specs.Keys.{role_told}
use Rattle.literal_rules.specs.Rules.{literal_told, row_mark, row_by, map_mark, map_by}
use Rattle.literal_rules.specs.Shapes.{braces_ask}
use Rattle.literal_rules.specs.InCode.{keys_in, may_be_literal}
use Rattle.literal_rules.proofs.rules.judge_row.Goals as goal

pub returns-in_ok-answer-in-Is-clause-is : goal.returns-in_ok-answer-in-Is-clause-is
returns-in_ok-answer-in-Is-clause-is c =
    let s = c.args.s.now in
    let u = unit_of c.args.u.now in
    let of = option_map (type_in s) c.args.of in
    ap Says (c.in_ok-answer-in-Is.ensures.is ∙ ap (λ (l : List (Option Mark)). row_mark of (type_in s c.args.e) c.args.limit (keys_in s l)) c.deref.ensures.value)
    ∙ sym (told_bind (sight s) (keys_ask u c.args.block (nodes_at u c.args.file) c.args.v.now.parts) (row_by of (type_in s c.args.e) c.args.limit) (Says (keys_in s c.in-Is.list.items)) (
    sym (ap (λ (n : List Node). tell (sight s) (keys_ask u c.args.block n c.as_slice.result.now)) c.nodes_at.ensures
    ∙ ap (λ (l : List ℕ). tell (sight s) (keys_ask u c.args.block (nodes_at u c.args.file) l)) c.as_slice.ensures)
    ∙ (sym c.in_ok-found.ensures.is ∙ ap (told_by (λ (v : Vec (Option Mark)). keys_in s v.items)) c.in-Is.is)))

pub returns-in-Wait-clause-is : goal.returns-in-Wait-clause-is
returns-in-Wait-clause-is c =
    let s = c.args.s.now in
    let u = unit_of c.args.u.now in
    let of = option_map (type_in s) c.args.of in
    sym (told_bind (sight s) (keys_ask u c.args.block (nodes_at u c.args.file) c.args.v.now.parts) (row_by of (type_in s c.args.e) c.args.limit) (Waits c.in-Wait.item) (
    sym (ap (λ (n : List Node). tell (sight s) (keys_ask u c.args.block n c.as_slice.result.now)) c.nodes_at.ensures
    ∙ ap (λ (l : List ℕ). tell (sight s) (keys_ask u c.args.block (nodes_at u c.args.file) l)) c.as_slice.ensures)
    ∙ (sym c.in_ok-found.ensures.is ∙ ap (told_by (λ (v : Vec (Option Mark)). keys_in s v.items)) c.in-Wait.is)))
