use Rattle.std.proofs.Common.{length}
use Rattle.report_text.proofs.FixLemmas.{lies_spot, earlier_of}
use Rattle.report_text.proofs.lines.choice_said.Goals as goal

pub turn_to-requires-clause-within : goal.turn_to-requires-clause-within
turn_to-requires-clause-within c =
    (lies_spot c.args.files.now c.args.spots.now c.in-Overlaps.first c.spot_numbered-spot.result (earlier_of (length c.args.spots.now) c.args.choice c.in-Overlaps.first c.in-Overlaps.is c.requires.earlier) c.spot_numbered-spot.ensures.at c.requires.stand).file

pub turn_to-requires-clause-short : goal.turn_to-requires-clause-short
turn_to-requires-clause-short c =
    (lies_spot c.args.files.now c.args.spots.now c.in-Overlaps.first c.spot_numbered-spot.result (earlier_of (length c.args.spots.now) c.args.choice c.in-Overlaps.first c.in-Overlaps.is c.requires.earlier) c.spot_numbered-spot.ensures.at c.requires.stand).short

pub place_text-requires-clause-lies : goal.place_text-requires-clause-lies
place_text-requires-clause-lies c =
    lies_spot c.args.files.now c.args.spots.now c.in-Overlaps.first c.spot_numbered-spot.result (earlier_of (length c.args.spots.now) c.args.choice c.in-Overlaps.first c.in-Overlaps.is c.requires.earlier) c.spot_numbered-spot.ensures.at c.requires.stand
