use Rattle.vet_never.proofs.calls.call_at.Goals as goal

pub returns : goal.returns
returns c = (c.in_ok-told.told, c.in_ok-told.ensures, c.call.ensures)
