-- Statements in code, with types and constants by number.
use Rattle.std.specs.Prelude.{option_map}
use Rattle.typed_marks.specs.declared.state.State.{State}
use Rattle.rule_words.specs.Scenes.{type_in, IsTypeOf, MayBeTypeOf}
use Rattle.assign_rules.specs.declared.ranging.Ranged.{Ranged as RangedInCode}
use Rattle.assign_rules.specs.declared.ranging.Ranging.{Ranging as RangingInCode}
use Rattle.assign_rules.specs.declared.ranging.Ranging.TheVariants as code
use Rattle.assign_rules.specs.Ranging.{Ranged, Ranging, Unknown, Refused, Gives}

-- ---- ranges

abbrev pub ranged_in : State → RangedInCode → Ranged
ranged_in s r = record { first = type_in s r.first; second = option_map (type_in s) r.second }

pub record IsRangedOf (s : State) (r : RangedInCode) : Type 0 where
  pub first : IsTypeOf s r.first
  pub second : MayBeTypeOf s r.second

abbrev pub ranging_in : State → RangingInCode → Ranging
ranging_in s code.Unknown = Unknown
ranging_in s code.Refused = Refused
ranging_in s (code.Gives r) = Gives (ranged_in s r)

abbrev pub IsRangingOf : State → RangingInCode → Type 0
IsRangingOf s code.Unknown = Prim.Unit {0}
IsRangingOf s code.Refused = Prim.Unit {0}
IsRangingOf s (code.Gives r) = IsRangedOf s r

-- ---- values that are assigned one after the other
