-- The functions of a package, in code.
use Rattle.std.specs.Prelude.{ℕ, List}
use Rattle.own_functions.specs.declared.functions.Declared.{Declared}
use Rattle.own_functions.specs.Functions.{Named}

abbrev pub named_in : Declared → Named
named_in d = (d.name, d.at)

abbrev pub declared_name : Declared → List ℕ
declared_name d = d.name
