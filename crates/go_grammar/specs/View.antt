-- Rules of the code as those of the definitions.
use Rattle.std.specs.Prelude.{◌≡◌, List, Option, Some, None, MatchOption}
use denote.Ref.{Bor}
use Rattle.go_grammar.specs.declared.rule.Rule.{Rule}
use Rattle.go_tree.specs.declared.grammar.Symbol.{Symbol}
use Rattle.go_tree.specs.Rule as grammar

abbrev pub rule_of : Rule → grammar.Rule
rule_of r = record { ending = r.ending; level = r.level; left = r.left; before = r.before; guard = r.guard; symbols = r.symbols.now }

-- the code answers this rule, or that there is none
abbrev pub IsRule : Option grammar.Rule → Option Rule → Type 0
IsRule picked answer = MatchOption answer (picked ≡ None) (λ r. picked ≡ Some (rule_of r))

-- the code answers these symbols, or that there are none
abbrev pub AreSymbols : Option (List Symbol) → Option (Bor (List Symbol)) → Type 0
AreSymbols picked answer = MatchOption answer (picked ≡ None) (λ r. picked ≡ Some r.now)
