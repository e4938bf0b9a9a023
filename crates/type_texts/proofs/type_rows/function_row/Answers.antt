use Rattle.std.proofs.Common.{◌≡◌, ◌≤◌, ℕ, List, [], sym, ap, ◌∙◌, subst}
use Rattle.std.proofs.lemmas.Result.{err_from_is_err_and}
use Rattle.type_model.specs.GoTypes.{FuncOf, signature_of, nodes}
use Rattle.type_model.specs.Tables.{types_in, count}
use Rattle.type_texts.specs.Pending.{pending, nodes_in}
use Rattle.type_texts.proofs.WriteLaws.{small_row, tells_less}
use Rattle.type_texts.proofs.type_rows.function_row.Goals as goal

pub rest_of-requires-clause-within : goal.rest_of-requires-clause-within
rest_of-requires-clause-within c = c.in_ok-todo.ensures.within (count c.args.table.now) c.requires.within

pub returns-clause-is : goal.returns-clause-is
returns-clause-is c = c.in_ok-row.ensures.is ∙ c.in_ok-todo.ensures.pending (types_in c.args.table.now) []

pub returns-clause-small : goal.returns-clause-small
returns-clause-small c =
    let size : nodes_in (pending (types_in c.args.table.now) c.in_ok-todo.todo.items []) ≡ nodes (FuncOf (signature_of (types_in c.args.table.now) c.args.of.now)) = ap nodes_in (c.in_ok-todo.ensures.pending (types_in c.args.table.now) []) ∙ small_row (FuncOf (signature_of (types_in c.args.table.now) c.args.of.now)) in
    subst (λ (n : ℕ). n ≤ 10000) size c.in_ok-row.ensures.small

pub returns-in_err-row-clause-small : goal.returns-in_err-row-clause-small
returns-in_err-row-clause-small c =
    let p = err_from_is_err_and c.from_residual-in_err-row.result c.from_residual-in_err-row.ensures.1 in
    let size : nodes_in (pending (types_in c.args.table.now) c.in_ok-todo.todo.items []) ≡ nodes (FuncOf (signature_of (types_in c.args.table.now) c.args.of.now)) = ap nodes_in (c.in_ok-todo.ensures.pending (types_in c.args.table.now) []) ∙ small_row (FuncOf (signature_of (types_in c.args.table.now) c.args.of.now)) in
    rw (p.1, p.2) (tells_less c.in_err-row.field-0.0 (nodes_in (pending (types_in c.args.table.now) c.in_ok-todo.todo.items []) ≤ 10000) (nodes (FuncOf (signature_of (types_in c.args.table.now) c.args.of.now)) ≤ 10000) (λ le. subst (λ (n : ℕ). n ≤ 10000) (sym size) le) c.in_err-row.ensures.small)
