use Rattle.std.proofs.Common.{◌++◌, sym, ap, ◌∙◌}
use Rattle.std.proofs.lemmas.List.{append-nil}
use Rattle.fix_apply.proofs.Rewritings.{none_inserted, one_inserted, past_some}
use Rattle.fix_apply.proofs.rewriting.write_inserted.Goals as goal

pub returns-in-None-clause-written : goal.returns-in-None-clause-written
returns-in-None-clause-written c = sym (ap (λ l. c.args.new.now.items ++ l) (none_inserted _ _ c.in-None.ensures) ∙ append-nil c.args.new.now.items)

pub returns-in_ok-extend_from_slice-in-Some-clause-written :
    goal.returns-in_ok-extend_from_slice-in-Some-clause-written
returns-in_ok-extend_from_slice-in-Some-clause-written c = c.in_ok-extend_from_slice-in-Some.ensures.items ∙ ap (λ l. c.args.new.now.items ++ l) (c.as_slice.ensures ∙ sym (one_inserted _ _ _ c.index-edits-number.result c.requires.apart c.in-Some.ensures c.index-edits-number.is))

pub returns-in_ok-extend_from_slice-in-Some-clause-stands :
    goal.returns-in_ok-extend_from_slice-in-Some-clause-stands
returns-in_ok-extend_from_slice-in-Some-clause-stands c = past_some _ _ _ _ _ _ _ c.index-edits-number.result c.requires.apart c.requires.stands c.first_from-next.ensures.passed c.in-Some.ensures c.index-edits-number.is c.max.ensures
