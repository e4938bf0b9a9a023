-- Flags of what stands in a list.
use Rattle.std.proofs.Common.{◌≡◌, ℕ, zero, suc, ◌+◌, ◌||◌, Bool, true, false, cond, List, [], ◌∷◌, length, map, slice_get, slice_index_or, is_some, Option, Some, None, option_and_then, option_map, refl, sym, ap, ◌∙◌, arith}
use Rattle.std.specs.Global.{Vec}
use Rattle.std.specs.List.{position_from}
use Rattle.std.specs.Option.{option_map_or}
use Rattle.std.proofs.lemmas.Option.{slice_get-map, slice_get_past}
use Rattle.go_tree.specs.declared.tree.FileTree.{FileTree}
use Rattle.go_tree.specs.declared.tree.Node.{Node}
use Rattle.go_tree.specs.declared.tree.NodeRef.{NodeRef}
use Rattle.object_order.specs.Views.{same_key}
use Rattle.unit_read.specs.Rows.{AreRows}
use Rattle.unit_read.specs.Subjects.{cell, flag}
use Rattle.unit_read.specs.Units.{nodes_of, is_this, is_among}
use Rattle.unit_rows.specs.Rows.{first_in}
use Rattle.unit_rows.specs.Tables.{some_node, items_of, flags_of, is_listed}
use Rattle.unit_rows.proofs.ReadLemmas.{firsts_read, first_at, in_tree}

-- ---- flags and cells

abbrev flag_in : ℕ → Option (List Bool) → Bool
flag_in n o = option_map_or (λ (xs : List Bool). slice_index_or xs n false) o false

there : (xs : List (Option ℕ)) (n : ℕ) → slice_index_or (map is_some xs) n false ≡ is_some (option_and_then (λ (o : Option ℕ). o) (slice_get xs n))
there [] zero = refl
there [] (suc n) = refl
there (x ∷ xs) zero = refl
there (x ∷ xs) (suc n) = there xs n

pub flag_is : (flags : List (Vec Bool)) (rows : List (Vec (Option ℕ))) → map items_of flags ≡ map flags_of rows → (at : NodeRef) → flag flags at ≡ is_some (cell rows at)
flag_is flags rows same at =
    bare (slice_get flags at.file)
    ∙ (ap (flag_in at.node) (sym (slice_get-map items_of flags at.file) ∙ (ap (λ (xs : List (List Bool)). slice_get xs at.file) same ∙ slice_get-map flags_of rows at.file))
    ∙ made (slice_get rows at.file)) where
      bare : (o : Option (Vec Bool)) → option_map_or (λ (row : Vec Bool). slice_index_or row.items at.node false) o false ≡ flag_in at.node (option_map items_of o)
      bare None = refl
      bare (Some row) = refl

      made : (o : Option (Vec (Option ℕ)))
          → flag_in at.node (option_map flags_of o) ≡ is_some (option_and_then (λ (row : Vec (Option ℕ)). option_and_then (λ (c : Option ℕ). c) (slice_get row.items at.node)) o)
      made None = refl
      made (Some row) = there row.items at.node

-- ---- what stands in a list

among : (at : NodeRef) (list : List NodeRef) (i : ℕ) → is_some (position_from (is_this at) i (map some_node list)) ≡ is_among at list
among at [] i = refl
among at (o ∷ list) i = by (same_key (at.file, at.node) (o.file, o.node)) (among at list (i + 1)) where
  by : (b : Bool) → is_some (position_from (is_this at) (i + 1) (map some_node list)) ≡ is_among at list
      → is_some (cond b (Some i) (position_from (is_this at) (i + 1) (map some_node list))) ≡ (b || is_among at list)
  by true later = refl
  by false later = later

-- in an empty list nothing does
none_in : (at : NodeRef) (o : Option Node) → option_map_or (λ (node : Node). is_among at []) o false ≡ false
none_in at None = refl
none_in at (Some node) = refl

pub none_listed : (trees : List FileTree) (list : List NodeRef) (flags : List (Vec Bool)) (at : NodeRef) → length list ≡ 0 → flags ≡ [] → flag flags at ≡ is_listed trees list at
none_listed trees list flags at empty none =
    ap (λ (rows : List (Vec Bool)). flag rows at) none
    ∙ (ap (λ (o : Option (Vec Bool)). option_map_or (λ (row : Vec Bool). slice_index_or row.items at.node false) o false) (slice_get_past [] at.file (omega arith)) ∙ sym (by list empty)) where
      by : (xs : List NodeRef) → length xs ≡ 0 → is_listed trees xs at ≡ false
      by [] e = none_in at (slice_get (nodes_of (slice_get trees at.file)) at.node)
      by (x ∷ xs) e = absurd (omega (arith, e))

pub listed_read : (trees : List FileTree) (list : List NodeRef) (nodes : List (Option NodeRef)) (rows : List (Vec (Option ℕ))) (flags : List (Vec Bool)) → nodes ≡ map some_node list
    → AreRows (first_in nodes) trees rows (length trees) → map items_of flags ≡ map flags_of rows → (at : NodeRef) → flag flags at ≡ is_listed trees list at
listed_read trees list nodes rows flags some are same at =
    flag_is flags rows same at
    ∙ (ap is_some (firsts_read trees nodes rows are at)
    ∙ (ap (λ (xs : List (Option NodeRef)). is_some (first_at xs at (in_tree at (slice_get trees at.file)))) some ∙ by (in_tree at (slice_get trees at.file)))) where
      by : (o : Option Node) → is_some (first_at (map some_node list) at o) ≡ option_map_or (λ (node : Node). is_among at list) o false
      by None = refl
      by (Some node) = among at list 0
