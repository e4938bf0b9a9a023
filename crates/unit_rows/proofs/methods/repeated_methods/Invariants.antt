use Rattle.std.proofs.Common.{◌≡◌}
use Rattle.object_order.specs.Views.{group_in}
use Rattle.package_objects.specs.Declares.{gather}
use Rattle.unit_read.specs.Methods.{named_again}
use Rattle.unit_read.specs.Subjects.{unit_of}
use Rattle.unit_rows.proofs.methods.repeated_methods.Given as goal

abbrev pub invariant-loop-k : goal.invariant-loop-k
invariant-loop-k l = l.out.items ≡ gather (λ k. named_again (unit_of l.s) (group_in l.groups.items k)) l.k
