use Rattle.std.proofs.Common.{length, map, sym, ap, ◌∙◌}
use Rattle.std.proofs.lemmas.Bool.{eqb-true}
use Rattle.unit_rows.specs.Tables.{flags_of}
use Rattle.unit_rows.proofs.FlagLemmas.{listed_read, none_listed}
use Rattle.unit_rows.proofs.flags.listed_rows.Goals as goal

pub returns : goal.returns
returns c =
    listed_read c.args.trees.now c.args.list.now c.deref.result.now c.in_ok-rows.rows.items c.in_ok-flags.flags.items (c.deref.ensures.value ∙ c.in_ok-nodes.ensures) c.in_ok-rows.ensures
    (c.in_ok-flags.ensures ∙ ap (map flags_of) c.deref-2.ensures.value)

pub returns-then-is_empty : goal.returns-then-is_empty
returns-then-is_empty c = λ at. none_listed c.args.trees.now c.args.list.now c.new.result.items at (eqb-true (length c.args.list.now) 0 (sym c.is_empty.ensures ∙ c.if-is_empty.true)) c.new.ensures.items
