use Rattle.std.proofs.Common.{List, Bool, ap, ◌∙◌}
use Rattle.std.specs.Global.{Vec}
use Rattle.mark_walk.specs.Asks.{filled}
use Rattle.typed_marks.specs.Meanings.{Quiet}
use Rattle.typed_marks.specs.States.{so_far}
use Rattle.unit_read.specs.Subjects.{full_of, cell}
use Rattle.value_circles.specs.Circles.{flag}
use Rattle.check_pkg.proofs.InitialLemmas.{few_opened, initial_are}
use Rattle.check_pkg.proofs.initial.searched_nodes.Goals as goal

pub initial_circles-requires : goal.initial_circles-requires
initial_circles-requires c = record { few = few_opened c.args.u.now.trees.now c.deref.result.now (c.deref.ensures.value ∙ c.in_ok-opened.ensures) c.requires.few }

pub returns : goal.returns
returns c =
    initial_are (full_of c.args.u.now) (filled Quiet (so_far c.args.s.now)) (cell c.in_ok-methods.methods.items) c.in_ok-meant.meant.items c.deref-2.result.now c.deref-3.result.now c.deref.result.now
    c.in_ok-bodies.bodies.items c.in_ok-list.list.items c.in_ok-methods.ensures c.in_ok-meant.ensures c.deref-2.ensures.value (λ at. ap (λ (rows : List (Vec Bool)). flag rows at) c.deref-3.ensures.value) (c.deref.ensures.value ∙ c.in_ok-opened.ensures)
    c.in_ok-bodies.ensures c.in_ok-list.ensures
