-- What stands beside the terms of a table of which nothing is declared.
use Rattle.std.specs.Prelude.{List, map, Option, None}
use Rattle.type_model.specs.declared.term.Term.{Term}
use Rattle.type_model.specs.declared.term.Declared.{Declared}

abbrev pub nothing_of : Term → Option Declared
nothing_of term = None

abbrev pub nothings : List Term → List (Option Declared)
nothings terms = map nothing_of terms
