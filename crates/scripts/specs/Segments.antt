-- A path that is read byte by byte: how the segment stands in which a byte lies.
use Rattle.std.specs.Prelude.{ℕ, List, [], ◌∷◌, Bool, ◌==◌, ◌||◌, if◌then◌else◌}
use Rattle.gv_base.specs.Paths.{is_segment_byte}
use Rattle.scripts.specs.declared.path.Segment.{Segment}
use Rattle.scripts.specs.declared.path.Segment.TheVariants.{Empty, Dot, Dots, Named, Broken}

-- the bytes of a path: those of a segment, and the slash
abbrev pub is_path_byte : ℕ → Bool
is_path_byte b = is_segment_byte b || b == 47

-- after a slash: the segment before it has to be one
abbrev pub parted : Segment → Segment
parted Empty = Broken
parted Dot = Broken
parted Dots = Broken
parted Named = Empty
parted Broken = Broken

-- after a dot
abbrev pub dotted : Segment → Segment
dotted Empty = Dot
dotted Dot = Dots
dotted Dots = Named
dotted Named = Named
dotted Broken = Broken

-- after another byte of a segment
abbrev pub named : Segment → Segment
named Empty = Named
named Dot = Named
named Dots = Named
named Named = Named
named Broken = Broken

abbrev pub step : Segment → ℕ → Segment
step segment b = if b == 47 then parted segment else (if b == 46 then dotted segment else named segment)

abbrev pub segment_after : Segment → List ℕ → Segment
segment_after segment [] = segment
segment_after segment (b ∷ bytes) = segment_after (step segment b) bytes
