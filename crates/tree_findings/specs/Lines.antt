-- The diagnostics of packages as those of a tree. In those of a package the files are its own, counted from 0; in a reply they are those of the tree.
use Rattle.std.specs.Prelude.{◌≡◌, ℕ, List, [], ◌∷◌, ◌++◌, Contains, map, get_or, Option, option_map}
use Rattle.std.specs.List.Sorted.{IsStrictlySortedBy}
use Rattle.gv_base.specs.declared.place.Place.{Place}
use Rattle.fix_apply.specs.declared.edits.Fix.{Fix}
use Rattle.analysis_core.specs.declared.diagnostic.Diagnostic.{Diagnostic}
use Rattle.analysis_core.specs.declared.reply.FoundLine.{FoundLine}
use Rattle.analysis_core.specs.FoundOrder.{found_order}
use Rattle.import_graph.specs.declared.pack.Package.{Package}

-- the same place, its file by the number in the tree
abbrev pub place_in_tree : List ℕ → Place → Place
place_in_tree files at = record { file = get_or files at.file 0; offset = at.offset }

abbrev pub fix_in_tree : List ℕ → Option Fix → Option Fix
fix_in_tree files fix = option_map (λ f. record { file = get_or files f.file 0; edits = f.edits }) fix

abbrev pub diagnostic_in_tree : List ℕ → Diagnostic → Diagnostic
diagnostic_in_tree files d =
    record { place = place_in_tree files d.place; end = d.end; analyzer = d.analyzer; text = d.text; fix = fix_in_tree files d.fix }

-- a diagnostic of the package of this path, which has these files
abbrev pub line_in_tree : List ℕ → List ℕ → Diagnostic → FoundLine
line_in_tree path files d = record { «package» = path; diagnostic = diagnostic_in_tree files d }

-- the diagnostics of all packages, one package after the other
abbrev pub all_lines : List Package → List (List Diagnostic) → List FoundLine
all_lines [] found = []
all_lines (p ∷ ps) [] = []
all_lines (p ∷ ps) (ds ∷ found) = map (line_in_tree p.path p.files) ds ++ all_lines ps found

-- Exactly these lines, in the order of a reply, each once.
pub record IsSettled (lines settled : List FoundLine) : Type 0 where
  pub each : (l : FoundLine) → Contains settled l → Contains lines l
  pub every : (l : FoundLine) → Contains lines l → Contains settled l
  pub rises : IsStrictlySortedBy found_order settled
