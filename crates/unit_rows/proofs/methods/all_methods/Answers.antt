use Rattle.std.proofs.Common.{length, sym, ap, ◌∙◌}
use Rattle.std.proofs.lemmas.Bool.{eqb-true}
use Rattle.unit_rows.proofs.GapLemmas.{no_methods}
use Rattle.unit_rows.proofs.ListLemmas.{small_at}
use Rattle.unit_rows.proofs.methods.all_methods.Goals as goal

pub add_file-requires : goal.add_file-requires
add_file-requires c = small_at c.args.s.now.trees.now c.requires.small c.loop-file.file

pub returns-then-is_empty : goal.returns-then-is_empty
returns-then-is_empty c =
    c.new.ensures.items ∙ sym (no_methods c.args.s.now (ap length (sym c.as_slice.ensures.value) ∙ eqb-true (length c.as_slice.result.now) 0 (sym c.is_empty.ensures ∙ c.if-is_empty.true)))
