-- Names that lead back to themselves: a name leads to what its declaration mentions outside the bodies of functions, and a type to what the
-- signatures of its methods mention too.
use Rattle.std.specs.Prelude.{◌≡◌, ◌↔◌, ℕ, IsTrue, List, [], map, option_map, slice_get, Some}
use Rattle.go_tree.specs.declared.tree.NodeRef.{NodeRef}
use Rattle.object_order.specs.declared.needed.Needed.{Needed}
use Rattle.object_order.specs.declared.spot.Entry.{Entry}
use Rattle.object_order.specs.declared.spot.Role.TheVariants as role
use Rattle.object_order.specs.declared.spot.Root.{Root}
use Rattle.object_order.specs.Cases.{Reaches}
use Rattle.object_order.specs.Names.{IsNamed}
use Rattle.object_order.specs.Paths.{Leads}
use Rattle.object_order.specs.Spots.{World}

-- the name leads back to itself
abbrev pub Circles : World → NodeRef → Type 0
Circles w o = Leads (Reaches w) o o

-- Each declared name, and nothing else; one that isn't the name of a type with methods is marked exactly where it leads back to itself.
pub record AreMarked (w : World) (entries : List Entry) (order : List Needed) : Type 0 where
  pub only : (k : ℕ) (e : Needed) → slice_get order k ≡ Some e → IsNamed entries e.object
  pub each : (o : NodeRef) → IsNamed entries o → (k : ℕ) × (e : Needed) × (slice_get order k ≡ Some e) × (e.object ≡ o)
  pub marks : (k : ℕ) (e : Needed) → slice_get order k ≡ Some e → w.kin e.object ≡ [] → IsTrue e.cyclic ↔ Circles w e.object

-- ---- in code: the same declarations, each of which rests on all that is written in it, so that a name needs whatever it leads to

abbrev pub resting : Root → Root
resting r = record { role = role.Resting; node = r.node }

abbrev pub opened : Entry → Entry
opened e = record { name = e.name; form = e.form; roots = map resting e.roots }

abbrev pub open_world : World → World
open_world w = record { node = w.node; meant = w.meant; entry = λ at. option_map opened (w.entry at); kin = w.kin }
