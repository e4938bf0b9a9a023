use Rattle.std.proofs.Common.{rules, ◌≡◌}
use Rattle.export_text.proofs.listing.declared_type.Goals as goal

pub returns-clause-tells : goal.returns-clause-tells
returns-clause-tells c =
    let local : c.args.name.now.local ≡ 0 → ⊥ = search rules in
    λ plain. local plain.global
