-- What the uses have for a node, with one use more.
use Rattle.std.proofs.Common.{◌≡◌, ℕ, ◌+◌, Bool, true, false, if◌then◌else◌, List, [], ◌∷◌, ◌++◌, length, take, slice_get, Option, Some, None, refl, ap, ◌∙◌}
use Rattle.std.specs.Global.{Vec}
use Rattle.std.proofs.lemmas.List.{take_more}
use Rattle.std.proofs.lemmas.Option.{slice_get_within, get_or_from_slice_get}
use Rattle.go_tree.specs.declared.bindings.Object.{Object}
use Rattle.go_tree.specs.declared.tree.FileTree.{FileTree}
use Rattle.go_tree.specs.declared.tree.NodeRef.{NodeRef}
use Rattle.object_order.specs.Views.{same_key}
use Rattle.unit_read.specs.Places.{put_at}
use Rattle.unit_read.specs.Rows.{AreRows}
use Rattle.unit_read.specs.Units.{object_in}
use Rattle.unit_rows.specs.Rows.{object_for}
use Rattle.unit_rows.specs.Tables.{PutsIn}
use Rattle.unit_rows.proofs.TableLemmas.{put_more}

abbrev key_of : NodeRef → ℕ × ℕ
key_of at = (at.file, at.node)

first_there : (b : Bool) (o : Object) → (if b then Some o else None) ≡ put_at None b o
first_there true o = refl
first_there false o = refl

put_behind : (b c : Bool) (first o : Object) (old new : Option Object) → new ≡ put_at old c o → (if b then Some first else new) ≡ put_at (if b then Some first else old) c o
put_behind true c first o old new e = refl
put_behind false c first o old new e = e

object_behind : (uses : List (NodeRef × Object)) (entry : NodeRef × Object) (q : NodeRef)
    → object_in (uses ++ entry ∷ []) q ≡ put_at (object_in uses q) (same_key (key_of entry.0) (key_of q)) entry.1
object_behind [] entry q = first_there (same_key (key_of entry.0) (key_of q)) entry.1
object_behind (first ∷ uses) entry q =
    put_behind (same_key (key_of first.0) (key_of q)) (same_key (key_of entry.0) (key_of q)) first.1 entry.1 (object_in uses q) (object_in (uses ++ entry ∷ []) q) (object_behind uses entry q)

object_more : (uses : List (NodeRef × Object)) (k : ℕ) (entry : NodeRef × Object) (q : NodeRef) → slice_get uses k ≡ Some entry
    → object_in (take (k + 1) uses) q ≡ put_at (object_in (take k uses) q) (same_key (key_of entry.0) (key_of q)) entry.1
object_more uses k entry q there =
    let low = slice_get_within uses k entry there in
    ap (λ (xs : List (NodeRef × Object)). object_in xs q) (take_more uses k entry low ∙ ap (λ (x : NodeRef × Object). take k uses ++ x ∷ []) (get_or_from_slice_get uses k entry entry there))
    ∙ object_behind (take k uses) entry q

pub uses_more : (trees : List FileTree) (uses : List (NodeRef × Object)) (k : ℕ) (entry : NodeRef × Object) (old new : List (Vec (Option Object))) → slice_get uses k ≡ Some entry
    → AreRows (object_for (take k uses)) trees old (length trees) → PutsIn old new entry.0.file entry.0.node entry.1 → AreRows (object_for (take (k + 1) uses)) trees new (length trees)
uses_more trees uses k entry old new there are puts =
    put_more trees old new entry.0 entry.1 (object_in (take k uses)) (object_in (take (k + 1) uses)) are puts (λ q. object_more uses k entry q there)
