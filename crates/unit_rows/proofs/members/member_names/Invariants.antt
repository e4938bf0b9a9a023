use Rattle.std.proofs.Common.{◌≡◌, map, take}
use Rattle.unit_read.specs.Index.{texts_of}
use Rattle.unit_read.specs.Members.{member_name}
use Rattle.unit_read.specs.Subjects.{unit_of}
use Rattle.unit_rows.proofs.members.member_names.Given as goal

abbrev pub invariant-loop-member : goal.invariant-loop-member
invariant-loop-member l = texts_of l.names.items ≡ map (member_name (unit_of l.s)) (take l.member-index l.members)
