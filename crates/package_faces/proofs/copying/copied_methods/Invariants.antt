use Rattle.std.proofs.Common.{◌≡◌, take}
use Rattle.package_faces.proofs.copying.copied_methods.Given as goal

abbrev pub invariant-loop-method : goal.invariant-loop-method
invariant-loop-method l = l.out.items ≡ take l.method-index l.methods
