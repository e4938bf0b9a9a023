use Rattle.vet_printf.proofs.arguments.nth_argument.Goals as goal

pub returns : goal.returns
returns c = (c.node_nth-n.result, c.node_nth-n.ensures, c.in_ok-argument.ensures)
