-- A job for each file, and what is told of each.
use Rattle.std.proofs.Common.{◌≡◌, ℕ, zero, suc, ◌+◌, ◌<◌, ◌≤◌, ◌^◌, Option, Some, List, [], ◌∷◌, ◌++◌, length, slice_get, refl, sym, ap, ◌∙◌, subst, arith}
use Rattle.std.proofs.lemmas.Option.{slice_get_within}
use Rattle.gv_base.specs.Files.{Entry}
use Rattle.wave_run.specs.Waves.{AreAnswered, Costs}
use Rattle.go_tree.specs.declared.head.Head.{Head}
use Rattle.parse_file.specs.declared.verdict.FileVerdict.{FileVerdict}
use Rattle.tree_report.specs.Readings.{AreReadings, AreToldFrom, IsToldAt}
use Rattle.tree_report.specs.Telling.{AreTold}
use Rattle.tree_report.specs.declared.read.Told.{Told}
use Rattle.tree_report.specs.declared.readings.Reading.{Reading}
use Rattle.tree_report.proofs.ReadLemmas.{each-pushed, length-pushed}
use Rattle.tree_report.proofs.ToldLemmas.{told_more}

pub readings_none : (list : List Reading) → list ≡ [] → AreReadings 0 list
readings_none list is = record {
  size = ap length is;
  few = omega arith;
  each = λ k r there. absurd (let low : k < 0 = slice_get_within [] k r (subst (λ (l : List Reading). slice_get l k ≡ Some r) is there) in omega (arith, low));
}

pub readings_more : (count : ℕ) (list more : List Reading) (r : Reading) → AreReadings count list → count + 1 < 2 ^ 32 → r.file ≡ count → more ≡ list ++ r ∷ [] → AreReadings (count + 1) more
readings_more count list more r are few file is = record {
  size = length-pushed list more count r is are.size;
  few = few;
  each = each-pushed (λ k s. s.file ≡ k) list more count r is are.size are.each file;
}

-- an item stands at each place of a list
item-at : {X : Type 0} (xs : List X) (k : ℕ) → k < length xs → (x : X) × (slice_get xs k ≡ Some x)
item-at [] k low = absurd (omega (arith, low))
item-at (x ∷ xs) zero low = (x, refl)
item-at (x ∷ xs) (suc k) low = item-at xs k (omega (arith, low))

from-each : (tree : List Entry) (n : ℕ) (told : List Told) → n + length told ≡ length tree → ((k : ℕ) (t : Told) → slice_get told k ≡ Some t → IsToldAt tree (n + k) t) → AreToldFrom tree n told
from-each tree n [] size each = omega (arith, size)
from-each tree n (t ∷ more) size each =
    let first : n + 0 ≡ n = omega arith in (
      subst (λ (m : ℕ). IsToldAt tree m t) first (each 0 t refl),
      from-each tree (n + 1) more (omega (arith, size)) (λ k u there.
          let next : n + suc k ≡ n + 1 + k = omega arith in
          subst (λ (m : ℕ). IsToldAt tree m u) next (each (suc k) u there)),
    )

-- the answers of the jobs
pub told_from : (tree : List Entry) (list : List Reading) (costs : List (Option Costs)) (told : List Told) → AreReadings (length tree) list
    → AreAnswered (λ (r : Reading) (c : Costs) (t : Told). IsToldAt tree r.file t) list costs told → AreToldFrom tree 0 told
told_from tree list costs told are answered =
    let size : length told ≡ length tree = answered.size ∙ are.size in
    from-each tree 0 told (omega (arith, size)) (λ k t there.
    let low : k < length told = slice_get_within told k t there in
    let same : length told ≡ length list = answered.size in
    let here = item-at list k (omega (arith, low, same)) in
    let right = answered.each k here.0 t here.1 there in
    let place : here.0.file ≡ 0 + k = are.each k here.0 here.1 ∙ omega arith in
    subst (λ (m : ℕ). IsToldAt tree m t) place right.2)

-- one more is taken from what is told
pub told_next : (tree : List Entry) (n : ℕ) (t : Told) (rest more : List Told) (heads others : List (Option Head)) (refusals longer : List (Option FileVerdict)) → rest ≡ t ∷ more → AreTold tree n heads refusals
    → AreToldFrom tree n rest → others ≡ heads ++ t.head ∷ [] → longer ≡ refusals ++ t.refusal ∷ [] → AreTold tree (n + 1) others longer × AreToldFrom tree (n + 1) more
told_next tree n t rest more heads others refusals longer next are from pushed added =
    let both = subst (λ (l : List Told). AreToldFrom tree n l) next from in
    let told = both.0 in
    (told_more tree n told.0 t heads others refusals longer are told.1 told.2 pushed added, both.1)
