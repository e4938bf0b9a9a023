use Rattle.std.proofs.Common.{arith, ◌<◌, sym, subst, ◌∙◌}
use Rattle.std.specs.Char.{InScalarRange}
use Rattle.go_tree.proofs.Literals.{unit_small, unit_scalar}
use Rattle.go_tree.proofs.quoted.push_unit.Goals as goal

pub push_char-requires : goal.push_char-requires
push_char-requires c = subst InScalarRange (sym c.unit_value-unit.ensures) (unit_scalar _ _ c.requires (sym c.gives_char.ensures ∙ c.if-gives_char.true))

pub overflow_cast-unit : goal.overflow_cast-unit
overflow_cast-unit c =
    let small : c.unit_value-unit.result < 256 = subst (λ n. n < 256) (sym c.unit_value-unit.ensures) (unit_small _ _ c.requires (sym c.gives_char.ensures ∙ c.if-gives_char.false) (omega arith)) in
    omega (arith, small)
