-- Words of the rules of statements.
use Rattle.std.specs.Prelude.{ℕ, Bool, true, false, not, if◌then◌else◌, None}
use Rattle.std.specs.Option.{option_map_or}
use Rattle.mark_walk.specs.Asks.{done, bind}
use Rattle.type_model.specs.GoTypes.{GoType}
use Rattle.typed_tree.specs.declared.mark.Mode.{Mode}
use Rattle.typed_tree.specs.declared.mark.Mode.TheVariants as mode
use Rattle.typed_tree.specs.declared.place.Want.TheVariants as demand
use Rattle.typed_tree.specs.declared.rule.Rule.{Rule as RuleNumber}
use Rattle.typed_marks.specs.declared.item.Stage.TheVariants as s
use Rattle.typed_marks.specs.Meanings.{Known, Wish, Free, Meaning, Right, Wrong, Beyond, Quiet, Wishes, Declares}
use Rattle.unit_read.specs.Units.{Unit}
use Rattle.rule_words.specs.Asking.{Rule, mark_ask}
use Rattle.rule_words.specs.Good.{known_told}
use Rattle.rule_words.specs.Words.{nothing}
use Rattle.rule_words.specs.Wishes.{default_of, wants}
use Rattle.typed_tree.specs.declared.rule.TheConstants.{BAD_SELECT_CASE}

-- a statement that holds has no value
abbrev pub holds : Rule
holds = done nothing

-- the first test that fails gives its rule
abbrev pub held_if : Bool → RuleNumber → Rule
held_if b rule = if b then done nothing else done (Wrong rule)

-- the last test of a statement: where it stands in a clause of a select statement it sends or receives, E86
abbrev pub settled : Bool → Rule
settled bad = held_if (not bad) BAD_SELECT_CASE

-- a test before that
abbrev pub settled_if : Bool → RuleNumber → Bool → Rule
settled_if b rule bad = if b then settled bad else done (Wrong rule)

-- a variable of a type
abbrev pub variable : GoType → Meaning
variable of = Right (record { mode = mode.Variable; of = of; value = None; last = of })

-- the mark of a part of which nothing else is wanted than what its place tests of what is good
abbrev pub placed_good : (Known → Rule) → Meaning → Rule
placed_good rest (Right x) = rest x
placed_good rest (Wrong rule) = done (Wrong rule)
placed_good rest (Beyond limit) = done (Beyond limit)
placed_good rest Quiet = done Quiet
placed_good rest (Wishes demand wish) = done Quiet
placed_good rest (Declares d) = done Quiet

-- ---- modes

abbrev pub is_builtin_mode : Mode → Bool
is_builtin_mode mode.Builtin = true
is_builtin_mode _ = false

-- ---- types

-- ---- wishes

abbrev pub own_default : Meaning → Wish
own_default own = option_map_or (λ (x : Known). default_of x.of) (known_told own) Free

abbrev pub loose_by : Meaning → Rule
loose_by own = wants demand.Operand (own_default own)

-- A single value whose type isn't known to be needed: nothing more is tested of it, so that nil isn't refused.
unfoldable pub loose_operand : Unit → ℕ → ℕ → Rule
loose_operand u block n = bind (mark_ask u s.Before block n) loose_by
