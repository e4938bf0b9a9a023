use Rattle.unit_blocks.proofs.again.block_rows.Goals as goal

pub returns : goal.returns
returns c = record { rows = c.args.names.now; names = c.requires.names; each = c.in_ok-flags.ensures }
