-- What is told of values one after the other, until one isn't assignable.
use Rattle.std.specs.Prelude.{Bool, true, not}
use Rattle.type_questions.specs.declared.reached.Found.{Found}
use Rattle.type_questions.specs.declared.reached.Found.TheVariants as f
use Rattle.type_questions.specs.declared.reached.Reached.{Reached}
use Rattle.type_questions.specs.declared.reached.Reached.TheVariants.{Got, Lost}
use Rattle.typed_marks.specs.declared.item.Item.{Item}

-- it doesn't hold, or nothing is known of it
abbrev pub is_refused : Reached Bool → Bool
is_refused (Got holds) = not holds
is_refused Lost = true

-- those behind it aren't looked at
abbrev pub ends : Found (Reached Bool) Item → Bool
ends (f.Is told) = is_refused told
ends (f.Wait i) = true
