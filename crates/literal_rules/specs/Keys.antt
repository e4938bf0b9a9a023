-- Names before colons (Go 1.17, "Composite literals": "The key is interpreted as a field name for struct literals").
use Rattle.std.specs.Prelude.{ℕ, Option, Some, None}
use Rattle.std.specs.Option.{option_map_or}
use Rattle.go_tree.specs.declared.tree.NodeRef.{NodeRef}
use Rattle.object_order.specs.Spots.{place}
use Rattle.mark_walk.specs.Asks.{done, bind}
use Rattle.unit_read.specs.declared.place.Place.{Place}
use Rattle.unit_read.specs.Units.{Unit, place_at}
use Rattle.rule_words.specs.Asking.{Asks}
use Rattle.literal_rules.specs.declared.keys.KeyRole.{KeyRole}
use Rattle.literal_rules.specs.declared.keys.KeyRole.TheVariants as r
use Rattle.literal_rules.specs.Shapes.{Shape, Fields, Row, Table, Other, Literal, braces_ask}

-- A field's name; a use of what the name denotes; or it isn't known which.
abbrev pub role_in : Shape → KeyRole
role_in (Fields fields) = r.Field
role_in (Row e limit) = r.Use
role_in (Table key e) = r.Use
role_in Other = r.Unknown

abbrev pub role_told : Option Literal → Asks KeyRole
role_told o = done (option_map_or (λ (l : Literal). role_in l.shape) o r.Unknown)

abbrev pub role_around : Unit → ℕ → ℕ → Place → Asks KeyRole
role_around u block file outer = bind (braces_ask u block (place file outer.around)) role_told

abbrev pub pair_role : Unit → ℕ → ℕ → Place → Asks KeyRole
pair_role u block file p = option_map_or (role_around u block file) (place_at u (place file p.around)) (done r.Unknown)

-- What a bare name before a colon is.
abbrev pub key_role : Unit → ℕ → NodeRef → Asks KeyRole
key_role u block at = option_map_or (pair_role u block at.file) (place_at u at) (done r.Unknown)
