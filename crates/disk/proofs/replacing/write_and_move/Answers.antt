use Rattle.disk.proofs.Besides.{is-beside}
use Rattle.disk.proofs.replacing.write_and_move.Goals as goal

pub write_beside-requires : goal.write_beside-requires
write_beside-requires g c = is-beside c.args.other.now c.args.path.now c.requires.path c.requires.other c.requires.short

pub discard-requires : goal.discard-requires
discard-requires g c = is-beside c.args.other.now c.args.path.now c.requires.path c.requires.other c.requires.short

pub move_onto-requires-clause-beside : goal.move_onto-requires-clause-beside
move_onto-requires-clause-beside g c = is-beside c.args.other.now c.args.path.now c.requires.path c.requires.other c.requires.short

pub discard-requires-in-Err-move_onto : goal.discard-requires-in-Err-move_onto
discard-requires-in-Err-move_onto g c = is-beside c.args.other.now c.args.path.now c.requires.path c.requires.other c.requires.short
