use Rattle.std.proofs.Common.{Bool, false, List, ℕ, if◌then◌else◌, sym, ap, ◌∙◌}
use Rattle.unit_read.specs.Subjects.{full_of}
use Rattle.unit_read.specs.Units.{last_spelled}
use Rattle.check_pkg.specs.Elsewhere.{owner_at, exports_struct}
use Rattle.check_pkg.proofs.elsewhere.names_struct.Goals as goal

pub returns-then-is_selector : goal.returns-then-is_selector
returns-then-is_selector c =
    let u = full_of c.args.u.now in
    let name = last_spelled u c.args.at.file c.args.node.now in
    c.exports_struct.ensures
    ∙ (ap (λ (n : List ℕ). exports_struct u n c.owner_at-owner.result) c.spelled.ensures
    ∙ (ap (exports_struct u name) c.owner_at-owner.ensures
    ∙ ap (λ (b : Bool). if b then exports_struct u name (owner_at u c.args.at c.args.node.now) else false) (sym c.if-is_selector.true ∙ c.is_selector.ensures)))
