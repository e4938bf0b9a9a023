use Rattle.std.proofs.Common.{rules}
use Rattle.std.specs.Ordering.{nat_cmp}
use Rattle.std.specs.Cmp.Lexicographic.{slice_cmp}
use Rattle.std.proofs.lemmas.Fn.{always_returns_same}
use Rattle.import_graph.proofs.NameLemmas.{place-here, place-none}
use Rattle.import_graph.proofs.names.place_in.Goals as goal

pub returns-in-Ok : goal.returns-in-Ok
returns-in-Ok c =
    place-here c.args.names.now c.args.path.now c.in-Ok.at c.in-Ok.ensures.bound
    (c.in-Ok.ensures.position (λ e. slice_cmp nat_cmp e c.args.path.now) (always_returns_same _ _ _ (λ a r q k. search rules)))

pub returns-in-Err : goal.returns-in-Err
returns-in-Err c =
    place-none c.args.names.now c.args.path.now c.in-Err.field-0 c.requires.order
    (c.in-Err.ensures.position (λ e. slice_cmp nat_cmp e c.args.path.now) (always_returns_same _ _ _ (λ a r q k. search rules)))
