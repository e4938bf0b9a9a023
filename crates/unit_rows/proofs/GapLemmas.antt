-- Lists in which nothing stands, and packages without methods.
use Rattle.std.proofs.Common.{◌≡◌, ℕ, ◌+◌, Bool, true, false, if◌then◌else◌, List, [], ◌∷◌, length, map, Option, Some, None, is_some, option_and_then, slice_get, slice_index_or, refl, sym, ap, ◌∙◌, arith}
use Rattle.std.specs.List.{list_all, position_from}
use Rattle.std.specs.Global.{Vec}
use Rattle.std.specs.Option.{option_map_or}
use Rattle.std.proofs.lemmas.Option.{slice_get_past}
use Rattle.go_tree.specs.declared.tree.FileTree.{FileTree}
use Rattle.go_tree.specs.declared.tree.Node.{Node}
use Rattle.go_tree.specs.declared.tree.NodeRef.{NodeRef}
use Rattle.object_order.specs.Spots.{place}
use Rattle.package_objects.specs.Declares.{gather}
use Rattle.unit_read.specs.declared.subject.Subject.{Subject}
use Rattle.unit_read.specs.Entries.{entry, stored}
use Rattle.unit_read.specs.Methods.{methods_at, methods_in, all_methods, methods_of, nth_owned, nth_named_again, repeated_methods, is_repeated_method}
use Rattle.unit_read.specs.Subjects.{cell, flag, unit_of, kept_by, kept_methods}
use Rattle.unit_read.specs.Units.{Unit, nodes_of, nodes_at, node_at, is_this, is_among}
use Rattle.unit_rows.proofs.MethodLemmas.{gather_none}
use Rattle.unit_rows.specs.Rows.{first_for}
use Rattle.unit_rows.specs.Tables.{is_gap}

-- an empty table has nothing for a node
pub no_entry : {X : Type 0} (table : List (List (ℕ × X))) → table ≡ [] → (at : NodeRef) → entry table at ≡ None
no_entry {X} table empty at =
    ap (λ (rows : List (List (ℕ × X))). entry rows at) empty ∙ ap (λ (o : Option (List (ℕ × X))). option_and_then (λ (row : List (ℕ × X)). stored row at.node) o) (slice_get_past [] at.file (omega arith))

none_from : (at : NodeRef) (k : ℕ) (list : List (Option NodeRef)) → list_all is_gap list ≡ true → position_from (is_this at) k list ≡ None
none_from at k [] all = refl
none_from at k (None ∷ list) all = none_from at (k + 1) list all
none_from at k (Some other ∷ list) all = absurd (cc)

pub bare_first : (trees : List FileTree) (list : List (Option NodeRef)) (at : NodeRef) → list_all is_gap list ≡ true → first_for trees list at ≡ None
bare_first trees list at all = by (slice_get (nodes_of (slice_get trees at.file)) at.node) where
  by : (o : Option Node) → option_and_then (λ (node : Node). position_from (is_this at) 0 list) o ≡ None
  by None = refl
  by (Some node) = none_from at 0 list all

-- ---- no methods

no_cell : {X : Type 0} (rows : List (Vec (Option X))) (at : NodeRef) → length rows ≡ 0 → cell rows at ≡ None
no_cell {X} [] at none = ap (λ (o : Option (Vec (Option X))). option_and_then (λ (row : Vec (Option X)). option_and_then (λ (o : Option X). o) (slice_get row.items at.node)) o) (slice_get_past [] at.file (omega arith))
no_cell (row ∷ rows) at none = absurd (omega arith)

pub no_methods : (s : Subject) → length s.owners.items ≡ 0 → all_methods (unit_of s) ≡ []
no_methods s none =
    let u = unit_of s in
    gather_none (methods_in u) (λ f. gather_none (methods_at u f) (λ n. ap (λ (o : Option NodeRef). if is_some o then place f n ∷ [] else []) (no_cell s.owners.items (place f n) none)) (length (nodes_at u f))) (length u.trees)

no_items : {X : Type 0} (xs : List X) → length xs ≡ 0 → xs ≡ []
no_items [] none = refl
no_items (x ∷ xs) none = absurd (omega arith)

pub none_found : (found : List NodeRef) (u : Unit) → found ≡ all_methods u → length found ≡ 0 → all_methods u ≡ []
none_found found u are none = sym are ∙ no_items found none

pub none_kept : (u : Unit) (groups : List (Vec NodeRef)) (kin : List (List (ℕ × ℕ))) (t : NodeRef) → groups ≡ [] → kin ≡ [] → all_methods u ≡ [] → kept_methods groups kin t ≡ methods_of u t
none_kept u groups kin t bare empty none = ap (kept_by groups) (no_entry kin empty t) ∙ sym (by (node_at u t)) where
  by : (o : Option Node) → option_map_or (λ (node : Node). gather (nth_owned u t) (length (all_methods u))) o [] ≡ []
  by None = refl
  by (Some node) = ap (λ (ms : List NodeRef). gather (nth_owned u t) (length ms)) none

pub none_repeated : (u : Unit) (rows : List (Vec Bool)) (at : NodeRef) → rows ≡ [] → all_methods u ≡ [] → flag rows at ≡ is_repeated_method u at
none_repeated u rows at bare none =
    ap (λ (rows : List (Vec Bool)). flag rows at) bare
    ∙ (ap (λ (o : Option (Vec Bool)). option_map_or (λ (row : Vec Bool). slice_index_or row.items at.node false) o false) (slice_get_past [] at.file (omega arith)) ∙ sym (by (node_at u at))) where
      by : (o : Option Node) → option_map_or (λ (node : Node). is_among at (repeated_methods u)) o false ≡ false
      by None = refl
      by (Some node) = ap (λ (ms : List NodeRef). is_among at (gather (nth_named_again u) (length (map u.owner ms)))) none
