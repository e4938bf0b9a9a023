-- Lists of fields.
use Rattle.std.proofs.Common.{◌≡◌, ℕ, ◌+◌, suc, Bool, ◌||◌, List, [], ◌∷◌, map, slice_get, refl, ap, ◌∙◌, arith}
use Rattle.type_model.specs.declared.term.Field.{Field}
use Rattle.type_model.specs.GoTypes.{AndField, type_at, fields_of}
use Rattle.type_model.specs.Tables.{types_in}
use Rattle.typed_marks.specs.declared.state.State.{State}
use Rattle.unit_read.specs.Units.{Unit}
use Rattle.type_rules.specs.Members.{field_in}
use Rattle.type_rules.specs.Structs.{fields_from, repeats, repeat_among}

pub fields_from_all : (s : State) (fields : List Field) → fields_of (types_in s.table) fields ≡ fields_from (map (field_in s) fields)
fields_from_all s [] = refl
fields_from_all s (f ∷ fields) = ap (AndField f.name f.«package» f.embedded (type_at (types_in s.table) f.of) f.tag) (fields_from_all s fields)

pub repeat_on : (u : Unit) (file : ℕ) (names : List ℕ) (i : ℕ) (found x next : Bool) → found ≡ repeat_among u file names i
    → x ≡ repeats u file (slice_get names i) → next ≡ (found || x) → next ≡ repeat_among u file names (i + 1)
repeat_on u file names i found x next before here is =
    is ∙ ap (λ f. f || x) before ∙ ap (λ b. repeat_among u file names i || b) here ∙ (let e : suc i ≡ i + 1 = omega arith in ap (repeat_among u file names) e)
