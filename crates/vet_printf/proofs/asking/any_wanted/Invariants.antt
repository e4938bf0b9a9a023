use Rattle.std.proofs.Common.{◌≡◌, drop, map}
use Rattle.std.specs.List.{list_any}
use Rattle.type_model.specs.Parts.{method_of}
use Rattle.type_model.specs.Tables.{types_in}
use Rattle.vet_printf.specs.Fitting.{is_wanted}
use Rattle.vet_printf.proofs.asking.any_wanted.Given as goal

abbrev pub invariant-loop-m : goal.invariant-loop-m
invariant-loop-m l = list_any (is_wanted l.wanted) (map (method_of (types_in l.t)) (drop l.m-index l.methods)) ≡ list_any (is_wanted l.wanted) (map (method_of (types_in l.t)) l.methods)
