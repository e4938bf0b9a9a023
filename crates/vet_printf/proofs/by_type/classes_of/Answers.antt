use Rattle.std.proofs.Common.{Bool}
use Rattle.vet_printf.specs.declared.verb.Class.{Class}
use Rattle.vet_printf.specs.InTable.{IsSuited}
use Rattle.vet_printf.proofs.FlagLemmas.{classes_told}
use Rattle.vet_printf.proofs.by_type.classes_of.Goals as goal

pub returns : goal.returns
returns c =
    classes_told (λ (class : Class) (b : Bool). IsSuited c.args.t.now class c.args.id.0 b)
    c.in_ok-boolean.boolean c.in_ok-integer.integer c.in_ok-integer_pointer.integer_pointer c.in_ok-integer_text_pointer.integer_text_pointer c.in_ok-integer_text.integer_text c.in_ok-text.text
    c.in_ok-reference.reference c.in_ok-nothing.nothing c.in_ok-boolean.ensures c.in_ok-integer.ensures c.in_ok-integer_pointer.ensures c.in_ok-integer_text_pointer.ensures c.in_ok-integer_text.ensures
    c.in_ok-text.ensures c.in_ok-reference.ensures c.in_ok-nothing.ensures
