use Rattle.std.proofs.Common.{◌≡◌, ◌≤◌, ◌<◌, ◌+◌, ◌++◌, ◌∷◌, [], List, Bool, false, length, ap, ◌∙◌, arith}
use Rattle.std.proofs.lemmas.List.{length_push}
use Rattle.flow.specs.Passing.{flag_of}
use Rattle.flow.proofs.SeenLemmas.{grown, more_unset}
use Rattle.flow.proofs.seen.grow.Goals as goal

pub returns-clause-room : goal.returns-clause-room
returns-clause-room c =
    let size = c.in_ok-resize.ensures.len in
    let more : length c.push.new.self.items ≡ length c.resize.new.self.items + 1 = ap length c.in_ok-push.ensures.items ∙ length_push c.resize.new.self.items false in
    omega arith

pub returns-clause-same : goal.returns-clause-same
returns-clause-same c = λ n.
    let more : c.push.new.self.items ≡ c.resize.new.self.items ++ false ∷ [] = c.in_ok-push.ensures.items in
    ap (λ (l : List Bool). flag_of l n) more
    ∙ (more_unset c.resize.new.self.items 1 n
    ∙ (ap (λ (l : List Bool). flag_of l n) c.in_ok-resize.ensures.items ∙ grown c.args.flags.now.items c.args.at _ n c.requires))
