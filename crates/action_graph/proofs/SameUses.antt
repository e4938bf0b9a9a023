-- What uses denote rests on packages that are known by the names alone that imports declare.
use Rattle.std.proofs.Common.{◌≡◌, ℕ, List, Some, slice_get, sym, ◌∙◌}
use Rattle.std.specs.List.{Contains}
use Rattle.go_tree.specs.Head.{import_line}
use Rattle.go_tree.specs.declared.bindings.Object.{Object}
use Rattle.go_tree.specs.declared.bindings.Object.TheVariants.{Universe, Import, Local, Package}
use Rattle.go_tree.specs.declared.tree.NodeRef.{NodeRef}
use Rattle.bind.specs.Denoting.{IsInnermost, DenotesBy, Denotes}
use Rattle.bind.specs.Imports.{specs_in, line_name, IsImportName}
use Rattle.bind.specs.Regions.{Region, HasRegion}
use Rattle.bind.specs.Sources.{Source, Sources}

-- the files with what is known of packages
abbrev pub sources : List Source → List (List ℕ × List ℕ) → Sources
sources files named = record { files = files; named = named }

-- each import declares the same name
abbrev pub Alike : List Source → List (List ℕ × List ℕ) → List (List ℕ × List ℕ) → Type 0
Alike files one other = (at : NodeRef) (src : Source) → slice_get files at.file ≡ Some src → Contains (specs_in src.tree src.tree.tops) at.node
    → line_name one (import_line src.tree src.bytes at.node) ≡ line_name other (import_line src.tree src.bytes at.node)

pub alike_back : (files : List Source) (one other : List (List ℕ × List ℕ)) → Alike files one other → Alike files other one
alike_back files one other alike at src file has = sym (alike at src file has)

import_to : (files : List Source) (one other : List (List ℕ × List ℕ)) → Alike files one other → (at : NodeRef) (name : List ℕ) → IsImportName (sources files one) at name → IsImportName (sources files other) at name
import_to files one other alike at name (src, file, has, named) = (src, file, has, sym (alike at src file has) ∙ named)

region_to : (files : List Source) (one other : List (List ℕ × List ℕ)) → Alike files one other → (o : Object) (name : List ℕ) (r : Region) → HasRegion (sources files one) o name r → HasRegion (sources files other) o name r
region_to files one other alike (Universe i) name r h = absurd h
region_to files one other alike (Local at) name r h = record { src = h.src; k = h.k; d = h.d; file = h.file; local = h.local; node = h.node; named = h.named; region = h.region }
region_to files one other alike (Package at) name r h = record { named = h.named; first = λ before. h.first before; region = h.region }
region_to files one other alike (Import at) name r h = record {
  named = import_to files one other alike at name h.named;
  own = λ before. h.own before;
  first = λ before file is. h.first before file (import_to files other one (alike_back files one other alike) before name is);
  region = h.region;
}

innermost_to : (files : List Source) (one other : List (List ℕ × List ℕ)) → Alike files one other → (at : NodeRef) (name : List ℕ) (o : Object) → IsInnermost (sources files one) at name o → IsInnermost (sources files other) at name o
innermost_to files one other alike at name o h = record {
  region = h.region;
  has = region_to files one other alike o name h.region h.has;
  holds = h.holds;
  smallest = λ less r has. h.smallest less r (region_to files other one (alike_back files one other alike) less name r has);
}

denotes_by : (files : List Source) (one other : List (List ℕ × List ℕ)) → Alike files one other → (at : NodeRef) (name : List ℕ) (o : Object) → DenotesBy (sources files one) at name o → DenotesBy (sources files other) at name o
denotes_by files one other alike at name (Universe i) h = (h.0, λ o r has. h.1 o r (region_to files other one (alike_back files one other alike) o name r has))
denotes_by files one other alike at name (Local n) h = innermost_to files one other alike at name (Local n) h
denotes_by files one other alike at name (Package n) h = innermost_to files one other alike at name (Package n) h
denotes_by files one other alike at name (Import n) h = innermost_to files one other alike at name (Import n) h

-- a use denotes the same
pub same_denotes : (files : List Source) (one other : List (List ℕ × List ℕ)) → Alike files one other → (at : NodeRef) (o : Object) → Denotes (sources files one) at o → Denotes (sources files other) at o
same_denotes files one other alike at o h = record { src = h.src; name = h.name; file = h.file; used = h.used; denotes = denotes_by files one other alike at h.name o h.denotes }
