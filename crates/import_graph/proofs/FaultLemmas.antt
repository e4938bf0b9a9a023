-- Imports that are missing.
use Rattle.std.proofs.Common.{◌≡◌, ◌∙◌, ℕ, Bool, true, false, cond, Some, List, [], ◌∷◌, slice_get, refl, ap}
use Rattle.std.specs.Str.{bytes_eq}
use Rattle.std.specs.List.{Contains, list_any}
use Rattle.std.proofs.lemmas.Option.{slice_get_within, get_or_from_slice_get}
use Rattle.std.proofs.lemmas.Slice.Eq.{bytes_eq-Decides}
use Rattle.go_tree.specs.declared.head.ImportLine.{ImportLine}
use Rattle.import_graph.specs.Packages.{missing_at}
use Rattle.import_graph.proofs.ListLemmas.{any-get, get-any}

pub missing-none : (names : List (List ℕ)) (n : ℕ) (line : ImportLine) (k : ℕ) → slice_get names k ≡ Some line.path → missing_at names n line ≡ []
missing-none names n line k at =
    ap (λ t. cond t [] (record { file = n; offset = line.at } ∷ [])) (any-get (λ path. bytes_eq path line.path) names k line.path at ((bytes_eq-Decides line.path line.path).1 refl))

refuted : (b : Bool) → (b ≡ true → ⊥) → b ≡ false
refuted true h = absurd (h refl)
refuted false h = refl

pub missing-one : (names : List (List ℕ)) (n : ℕ) (line : ImportLine) → (Contains names line.path → ⊥) → missing_at names n line ≡ record { file = n; offset = line.at } ∷ []
missing-one names n line lacks =
    ap (λ t. cond t [] (record { file = n; offset = line.at } ∷ []))
    (refuted (list_any (λ path. bytes_eq path line.path) names) (λ h. let r = get-any (λ path. bytes_eq path line.path) names h in
    lacks (r.place, slice_get_within names r.place r.item r.stands, get_or_from_slice_get names r.place r.item line.path r.stands ∙ (bytes_eq-Decides r.item line.path).0 r.told)))
