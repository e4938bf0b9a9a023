use Rattle.std.proofs.Common.{◌≡◌, map}
use Rattle.literal_rules.specs.Again.{all_of}
use Rattle.literal_rules.specs.Structs.{is_open}
use Rattle.literal_rules.specs.InCode.{field_in}
use Rattle.literal_rules.proofs.structs.are_open.Given as goal

abbrev pub invariant-loop-i : goal.invariant-loop-i
invariant-loop-i l = l.all ≡ all_of (is_open l.path (map (field_in l.s) l.fields)) l.i
