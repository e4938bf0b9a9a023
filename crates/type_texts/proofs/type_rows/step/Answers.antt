use Rattle.type_model.specs.GoTypes.{GoType, type_at}
use Rattle.type_model.specs.Tables.{types_in, count}
use Rattle.type_model.proofs.TypeLaws.{over_more}
use Rattle.std.proofs.Common.{rules, ◌<◌, ◌++◌, ◌∷◌, [], ◌∙◌, ap, sym, subst, refl, arith}
use Rattle.type_texts.specs.declared.type_rows.Todo.{Todo}
use Rattle.type_texts.specs.Rows.{type_row}
use Rattle.type_texts.specs.Pending.{pending, steps_left}
use Rattle.type_texts.proofs.PendingLaws.{taken_fewer, opened_fewer}
use Rattle.type_texts.proofs.type_rows.step.Goals as goal

pub returns-in_ok-push_term-in-Type-clause-within : goal.returns-in_ok-push_term-in-Type-clause-within
returns-in_ok-push_term-in-Type-clause-within c =
    let low : c.in-Type.of.0 < count c.args.table.now = search rules in
    c.in_ok-push_term-in-Type.ensures.within (count c.args.table.now) (over_more c.in-Type.of.0 (count c.args.table.now) c.term.result.now (omega (arith, low)) c.term.ensures.over)

pub returns-in_ok-push-in-Piece-clause-fewer : goal.returns-in_ok-push-in-Piece-clause-fewer
returns-in_ok-push-in-Piece-clause-fewer c =
    let types = types_in c.args.table.now in
    let todos = c.args.todo.now.items in
    subst (λ (t : Todo). steps_left types todos < steps_left types (todos ++ t ∷ [])) (sym c.in-Piece.is) (taken_fewer types todos todos c.in-Piece.piece refl)

pub returns-in_ok-push_term-in-Type-clause-fewer : goal.returns-in_ok-push_term-in-Type-clause-fewer
returns-in_ok-push_term-in-Type-clause-fewer c =
    let types = types_in c.args.table.now in
    let todos = c.args.todo.now.items in
    let new = c.push_term.new.todo.items in
    let opened = c.in_ok-push_term-in-Type.ensures.pending types [] ∙ ap (λ (t : GoType). type_row t (pending types todos [])) (sym c.term.ensures.is) in
    subst (λ (t : Todo). steps_left types new < steps_left types (todos ++ t ∷ [])) (sym c.in-Type.is) (opened_fewer types todos new c.in-Type.of opened c.in_ok-push_term-in-Type.ensures.pieces)
