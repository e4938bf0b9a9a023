-- Items of lists, and the sizes of files.
use Rattle.std.proofs.Common.{◌≡◌, ℕ, zero, suc, ◌+◌, ◌<◌, ◌≤◌, ◌^◌, List, [], ◌∷◌, ◌++◌, length, take, slice_get, slice_index_or, Option, Some, None, refl, sym, ap, ◌∙◌, append_assoc, arith}
use Rattle.std.specs.List.{cons_option}
use Rattle.std.proofs.lemmas.List.{take_more}
use Rattle.std.proofs.lemmas.Option.{slice_get-get_or}
use Rattle.go_tree.specs.declared.tree.FileTree.{FileTree}
use Rattle.unit_read.specs.Units.{nodes_of}
use Rattle.package_objects.specs.Declares.{AreSmall}

pub got : {X : Type 0} (xs : List X) (k : ℕ) → k < length xs → (x : X) × (slice_get xs k ≡ Some x)
got [] k low = absurd (omega arith)
got (x ∷ xs) zero low = (x, refl)
got (x ∷ xs) (suc k) low = got xs k (omega arith)

-- one item more
pub take_on : (xs : List ℕ) (i : ℕ) (old mid new : List ℕ) → i < length xs → mid ≡ old ++ take i xs → new ≡ mid ++ cons_option (slice_get xs i) [] → new ≡ old ++ take (i + 1) xs
take_on xs i old mid new low was is =
    let one : List ℕ = slice_index_or xs i 0 ∷ [] in
    is ∙ (ap (λ (o : Option ℕ). mid ++ cons_option o []) (slice_get-get_or xs i 0 low)
    ∙ (ap (λ (ys : List ℕ). ys ++ one) was ∙ (append_assoc old (take i xs) one ∙ ap (λ (ys : List ℕ). old ++ ys) (sym (take_more xs i 0 low)))))

pub small_at : (trees : List FileTree) → AreSmall trees → (f : ℕ) → length (nodes_of (slice_get trees f)) ≤ 2 ^ 32
small_at trees small f = by (slice_get trees f) refl where
  by : (o : Option FileTree) → slice_get trees f ≡ o → length (nodes_of o) ≤ 2 ^ 32
  by None e = omega arith
  by (Some tree) e = small f tree e
