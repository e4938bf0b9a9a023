-- What is printed of a rule and of a limit.
use Rattle.std.specs.Prelude.{ℕ, List, [], ◌∷◌, codes, slice_index_or}
use Rattle.typed_tree.specs.declared.rule.Rule.{Rule}
use Rattle.typed_tree.specs.declared.rule.Limit.{Limit}
use Rattle.typed_tree.specs.declared.rule.Limit.TheVariants.{Float, Complex, Wide, LongText, WideType, Unsafe, Cgo, DotImport, BuildConstraint}

-- by number, from 0; no rule has the numbers between
abbrev pub rule_texts : List (List ℕ)
rule_texts =
    []
    ∷ codes "E1 redeclared"
    ∷ codes "E2 bad init"
    ∷ codes "E3 undefined"
    ∷ codes "E4 declaration cycle"
    ∷ codes "E5 initialisation cycle"
    ∷ codes "E6 unused variable"
    ∷ codes "E7 unused import"
    ∷ codes "E8 no new variable"
    ∷ codes "E9 not exported by package"
    ∷ codes "E10 not a type"
    ∷ codes "E11 bad array length"
    ∷ codes "E12 bad map key"
    ∷ codes "E13 bad embedded type"
    ∷ codes "E14 duplicate field or method"
    ∷ codes "E15 embeds no interface"
    ∷ codes "E16 bad receiver"
    ∷ codes "E17 blank used as value"
    ∷ []
    ∷ []
    ∷ codes "E20 no such field or method"
    ∷ codes "E21 ambiguous selector"
    ∷ codes "E22 needs an address"
    ∷ []
    ∷ codes "E24 not a value"
    ∷ codes "E25 several values"
    ∷ codes "E26 nil without a type"
    ∷ []
    ∷ []
    ∷ []
    ∷ codes "E30 constant overflow"
    ∷ codes "E31 division by zero"
    ∷ codes "E32 not assignable"
    ∷ codes "E33 mismatched operands"
    ∷ codes "E34 operator not defined"
    ∷ codes "E35 not comparable"
    ∷ codes "E36 bad shift count"
    ∷ codes "E37 shifted operand is not an integer"
    ∷ []
    ∷ codes "E39 cannot take address"
    ∷ codes "E40 not a pointer"
    ∷ codes "E41 cannot index"
    ∷ codes "E42 bad index"
    ∷ codes "E43 index out of range"
    ∷ codes "E44 cannot slice"
    ∷ codes "E45 slice indexes out of order"
    ∷ codes "E46 not an interface"
    ∷ codes "E47 impossible type"
    ∷ []
    ∷ []
    ∷ codes "E50 not a function"
    ∷ codes "E51 wrong number of arguments"
    ∷ codes "E52 bad ..."
    ∷ codes "E53 cannot convert"
    ∷ codes "E54 conversion takes one argument"
    ∷ codes "E55 bad built-in argument"
    ∷ codes "E56 built-in must be called"
    ∷ []
    ∷ []
    ∷ []
    ∷ codes "E60 bad literal type"
    ∷ codes "E61 keys mixed"
    ∷ codes "E62 unknown field"
    ∷ codes "E63 duplicate key"
    ∷ codes "E64 wrong number of fields"
    ∷ codes "E65 missing key"
    ∷ codes "E66 bad index key"
    ∷ codes "E67 implicit field not exported"
    ∷ []
    ∷ []
    ∷ codes "E70 not a statement"
    ∷ codes "E71 not a call"
    ∷ codes "E72 cannot assign"
    ∷ codes "E73 wrong number of operands"
    ∷ []
    ∷ []
    ∷ codes "E76 condition is not boolean"
    ∷ codes "E77 cannot send"
    ∷ codes "E78 cannot receive"
    ∷ codes "E79 cannot range"
    ∷ codes "E80 too many range variables"
    ∷ codes "E81 duplicate case"
    ∷ []
    ∷ []
    ∷ []
    ∷ codes "E85 second default"
    ∷ codes "E86 bad select case"
    ∷ codes "E87 wrong number of results"
    ∷ codes "E88 result is shadowed"
    ∷ codes "E89 missing return"
    ∷ codes "E90 label undefined"
    ∷ codes "E91 label unused"
    ∷ []
    ∷ codes "E93 jump over variable"
    ∷ codes "E94 jump into block"
    ∷ codes "E95 misplaced break or continue"
    ∷ codes "E96 misplaced fallthrough"
    ∷ codes "E97 not constant"
    ∷ codes "E98 bad constant type"
    ∷ codes "E99 wrong number of values"
    ∷ []

abbrev pub rule_text : Rule → List ℕ
rule_text rule = slice_index_or rule_texts rule.0 []

abbrev pub limit_text : Limit → List ℕ
limit_text Float = codes "outside profile: float"
limit_text Complex = codes "outside profile: complex"
limit_text Wide = codes "outside profile: wide"
limit_text LongText = codes "outside profile: long text"
limit_text WideType = codes "outside profile: wide type"
limit_text Unsafe = codes "outside profile: unsafe"
limit_text Cgo = codes "outside profile: cgo"
limit_text DotImport = codes "outside profile: dot import"
limit_text BuildConstraint = codes "outside profile: build constraint"
