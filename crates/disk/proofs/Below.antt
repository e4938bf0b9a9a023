-- What stands below a folder, by its path.
use Rattle.std.proofs.Common.{◌≡◌, ℕ, ◌<◌, ◌≤◌, List, [], ◌∷◌, ◌++◌, length, refl, ap, sym, ◌∙◌, arith, append_assoc}
use Rattle.gv_base.specs.Paths.{IsSegment, slash}
use Rattle.disk.specs.declared.device.Kind.{Kind}
use Rattle.disk.specs.declared.device.Kind.TheVariants.{Folder}
use Rattle.disk.specs.Folders.{Placed, Has, child, Reaches, here, down}
use Rattle.disk.proofs.PathTests.{child-joined, child-some}

pub below-path : (slots : List Placed) (folder path : List ℕ) → Reaches slots folder path → 0 < length folder → (rest : List ℕ) × (path ≡ folder ++ slash ∷ rest)
below-path slots folder path (here _ name seg has) h = (name, child-joined folder name h)
below-path slots folder path (down _ name _ seg has more) h =
    let k = below-path slots (child folder name) path more (child-some folder name seg) in
    (name ++ slash ∷ k.0, k.1 ∙ ap (λ z. z ++ slash ∷ k.0) (child-joined folder name h) ∙ append_assoc folder (slash ∷ name) (slash ∷ k.0))

-- a folder that is reached from the top
pub data Entered (slots : List Placed) : List ℕ → Type 0 where
  top : Entered slots []
  into : (folder name : List ℕ) → IsSegment name → Has slots (folder, name, Folder) → Entered slots folder → Entered slots (child folder name)

-- what stands below it stands below the top
pub climb : (slots : List Placed) (folder path : List ℕ) → Entered slots folder → Reaches slots folder path → Reaches slots [] path
climb slots folder path top below = below
climb slots folder path (into above name seg has entered) below = climb slots above path entered (down above name path seg has below)
