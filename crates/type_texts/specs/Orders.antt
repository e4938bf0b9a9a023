-- The order of the methods of an interface type: by name and package, in byte order.
use Rattle.std.specs.Prelude.{ℕ, Bool, true, false, List, if◌then◌else◌}
use Rattle.type_model.specs.GoTypes.{GoMethods, NoMethod, AndMethod}
use Rattle.package_faces.specs.Orders.{stands_before}

-- the methods of an interface type stand in order of name and package, each once
abbrev pub methods_rise_after : List ℕ → List ℕ → GoMethods → Bool
methods_rise_after name owner NoMethod = true
methods_rise_after name owner (AndMethod next its_owner pointer of methods) = if stands_before name owner next its_owner then methods_rise_after next its_owner methods else false

abbrev pub methods_rise : GoMethods → Bool
methods_rise NoMethod = true
methods_rise (AndMethod name owner pointer of methods) = methods_rise_after name owner methods
