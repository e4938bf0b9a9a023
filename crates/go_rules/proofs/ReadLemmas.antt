-- Lists that are gathered item by item.
use Rattle.std.proofs.Common.{◌≡◌, ℕ, zero, suc, List, [], ◌∷◌, ◌++◌, length, map, refl, sym, ap, ◌∙◌}
use Rattle.std.proofs.lemmas.List.{append_assoc}
use Rattle.package_objects.specs.Declares.{gather}
use Rattle.rule_words.specs.declared.read.How.{How}
use Rattle.rule_words.specs.Parts.{read_as}
use Rattle.go_rules.specs.Slots.{nth_read}

nothing_behind : {A : Type 0} (xs : List A) → xs ++ [] ≡ xs
nothing_behind [] = refl
nothing_behind (x ∷ xs) = ap (λ ys. x ∷ ys) (nothing_behind xs)

-- the first, then the others
gather_first : {A : Type 0} (g : ℕ → List A) (n : ℕ) → gather g (suc n) ≡ g 0 ++ gather (λ k. g (suc k)) n
gather_first g zero = sym (nothing_behind (g 0))
gather_first g (suc n) = ap (λ xs. xs ++ g (suc n)) (gather_first g n) ∙ append_assoc (g 0) (gather (λ k. g (suc k)) n) (g (suc n))

pub all_read : (how : How) (list : List ℕ) → gather (nth_read how list) (length list) ≡ map (read_as how) list
all_read how [] = refl
all_read how (n ∷ list) = gather_first (nth_read how (n ∷ list)) (length list) ∙ ap (λ reads. read_as how n ∷ reads) (all_read how list)
