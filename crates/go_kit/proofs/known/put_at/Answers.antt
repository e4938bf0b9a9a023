use Rattle.std.proofs.Common.{Some, ap, sym, ◌∙◌, arith}
use Rattle.std.proofs.lemmas.Option.{slice_get-get_or}
use Rattle.go_kit.proofs.known.put_at.Goals as goal

pub put-requires-clause-is : goal.put-requires-clause-is
put-requires-clause-is c =
    let low = c.if-n-env.false in
    c.requires.is c.index-env-n.result (slice_get-get_or c.args.env.now c.args.n c.index-env-n.result (omega (arith, low)) ∙ ap Some (sym c.index-env-n.is))
