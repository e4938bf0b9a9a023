use Rattle.std.proofs.Common.{ℕ, List, sym, subst}
use Rattle.go_kit.specs.Keeping.{IsKnown}
use Rattle.go_kit.proofs.KnownLemmas.{one_more}
use Rattle.go_kit.proofs.known.put.Goals as goal

pub returns : goal.returns
returns c =
    one_more c.args.table.now c.args.known.now c.insert.new.self c.in_ok-path.path (record { text = c.in_ok-text.text; face = c.args.face }) c.in_ok-insert.ensures.updates
    (subst (λ (text : List ℕ). IsKnown c.args.table.now (record { text = text; face = c.args.face })) (sym c.in_ok-text.ensures) c.requires.is) c.requires.known
