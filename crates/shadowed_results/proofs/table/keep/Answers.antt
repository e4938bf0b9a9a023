use Rattle.shadowed_results.proofs.table.keep.Goals as goal

pub returns : goal.returns
returns c = λ f q. c.in_ok-insert.ensures.updates.0 (f, record { ref_ptr = (0, 0); now = q })
