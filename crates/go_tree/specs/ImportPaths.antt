-- Go 1.17, "Import declarations": the path that an import names.
-- profile: a path is one or more segments joined by slashes
use Rattle.std.specs.Prelude.{ℕ, Bool, true, false, cond, ◌==◌, ◌&&◌, ◌||◌, nat_le, List, []}
use Rattle.std.specs.List.{fold}
use Rattle.go_tree.specs.Values.{text_value}
use Rattle.go_tree.specs.declared.import_path.Segment.{Segment}
use Rattle.go_tree.specs.declared.import_path.Segment.TheVariants.{Empty, Dot, Dots, Good, Wrong}

-- a byte of a segment of an import path
abbrev pub is_path_byte : ℕ → Bool
is_path_byte b = (nat_le 48 b && nat_le b 57) || ((nat_le 65 b && nat_le b 90) || ((nat_le 97 b && nat_le b 122) || (b == 95 || (b == 46 || (b == 45 || (b == 43 || (b == 126 || b == 64)))))))

-- a segment with a byte more: one or more path bytes, and neither `.` nor `..`; a slash ends a good one
abbrev pub segment_step : Segment → ℕ → Segment
segment_step Wrong b = Wrong
segment_step Good b = cond (b == 47) Empty (cond (is_path_byte b) Good Wrong)
segment_step Empty b = cond (b == 46) Dot (cond (is_path_byte b) Good Wrong)
segment_step Dot b = cond (b == 46) Dots (cond (is_path_byte b) Good Wrong)
segment_step Dots b = cond (is_path_byte b) Good Wrong

abbrev pub is_good : Segment → Bool
is_good Good = true
is_good _ = false

-- one or more segments joined by `/`
abbrev pub are_segments : List ℕ → Bool
are_segments path = is_good (fold segment_step Empty path)

-- the path that a literal imports, empty where its value is none
abbrev pub path_of : List ℕ → List ℕ
path_of literal = cond (are_segments (text_value literal)) (text_value literal) []
