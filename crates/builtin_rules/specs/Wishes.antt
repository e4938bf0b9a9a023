-- What places in calls wish.
use Rattle.std.specs.Prelude.{Option, Some, None}
use Rattle.type_model.specs.GoTypes.{GoType}
use Rattle.typed_marks.specs.Meanings.{Wish, Free, Assigned}

-- ---- wishes

-- a value is assigned to a type, if there is one
abbrev pub assigned_to : Option GoType → Wish
assigned_to None = Free
assigned_to (Some to) = Assigned to

-- ---- marks
