use Rattle.std.proofs.Common.{List, ℕ, ap, ◌∙◌}
use Rattle.findings.specs.Passes.{unit_in}
use Rattle.vet_never.specs.Knowing.{body_told}
use Rattle.vet_never.specs.Listed.{is_listed_name}
use Rattle.vet_never.proofs.bodies.nth_function.Goals as goal

pub returns : goal.returns
returns c =
    let u = unit_in c.args.p.now in
    record { listed_is = c.is_listed_name.ensures ∙ ap (λ (n : List ℕ). is_listed_name u.path n) c.nth_name-name.ensures; body_is = c.body_told.ensures ∙ ap (λ (n : List ℕ). body_told u n) c.nth_name-name.ensures }
