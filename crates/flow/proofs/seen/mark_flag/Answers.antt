use Rattle.std.proofs.Common.{◌∙◌, Bool, true, cond, ap}
use Rattle.std.specs.Prelude.{nat_eq}
use Rattle.flow.proofs.SeenLemmas.{put_flag}
use Rattle.flow.proofs.seen.mark_flag.Goals as goal

pub returns-clause-marked : goal.returns-clause-marked
returns-clause-marked c = λ n.
    put_flag c.room_for.new.flags.items c.put.new.flags.items c.args.at n c.in_ok-room_for.ensures.room c.put.ensures ∙ ap (λ (b : Bool). cond (nat_eq c.args.at n) true b) (c.in_ok-room_for.ensures.same n)
