-- What lines tell of verdicts they tell of the refusals alone.
use Rattle.std.proofs.Common.{◌≡◌, ℕ, zero, suc, Option, Some, None, List, [], ◌∷◌, ◌++◌, map, flat_map, get_or, refl, sym, ap, ◌∙◌}
use Rattle.go_tree.specs.declared.head.Head.{Head}
use Rattle.parse_file.specs.declared.verdict.FileVerdict.{FileVerdict}
use Rattle.parse_file.specs.declared.verdict.FileVerdict.TheVariants as file
use Rattle.import_graph.specs.declared.pack.Package.{Package}
use Rattle.import_graph.specs.declared.pack.PackState.{PackState}
use Rattle.import_graph.specs.declared.pack.PackState.TheVariants.{Broken, NameClash, MissingImport, ImportCycle, Sound}
use Rattle.gv_driver.specs.declared.reply.Verdict.{Verdict}
use Rattle.gv_driver.specs.declared.reply.Verdict.TheVariants.{Faulty}
use Rattle.analysis_core.specs.declared.reply.ErrorLine.{ErrorLine}
use Rattle.tree_report.specs.Lines.{refusal_in, refusal_of, read_lines, broken_lines, state_lines, lines_from, error_lines}

read_same : (path : List ℕ) (n : ℕ) (v : Option FileVerdict) → read_lines path n (refusal_of v) ≡ read_lines path n v
read_same path n None = refl
read_same path n (Some (file.Parsed tree)) = refl
read_same path n (Some (file.Lexical offset why)) = refl
read_same path n (Some (file.Syntax offset)) = refl
read_same path n (Some (file.TooDeep offset)) = refl

refusal_at : (verdicts : List (Option FileVerdict)) (n : ℕ) → get_or (map refusal_of verdicts) n None ≡ refusal_of (get_or verdicts n None)
refusal_at [] n = refl
refusal_at (v ∷ vs) zero = refl
refusal_at (v ∷ vs) (suc n) = refusal_at vs n

broken_same : (verdicts : List (Option FileVerdict)) (path files : List ℕ) → broken_lines (map refusal_of verdicts) path files ≡ broken_lines verdicts path files
broken_same verdicts path [] = refl
broken_same verdicts path (n ∷ files) =
    let here : read_lines path n (get_or (map refusal_of verdicts) n None) ≡ read_lines path n (get_or verdicts n None) = ap (read_lines path n) (refusal_at verdicts n) ∙ read_same path n (get_or verdicts n None) in
    ap (λ (l : List ErrorLine). l ++ broken_lines (map refusal_of verdicts) path files) here
    ∙ ap (λ (l : List ErrorLine). read_lines path n (get_or verdicts n None) ++ l) (broken_same verdicts path files)

module _ (heads : List (Option Head)) (verdicts : List (Option FileVerdict)) (packages : List Package) (outcomes : List Verdict) where
  state_same : (p : Package) (o : Verdict) (state : PackState) → state_lines heads (map refusal_of verdicts) packages outcomes p o state ≡ state_lines heads verdicts packages outcomes p o state
  state_same p o Broken = broken_same verdicts p.path p.files
  state_same p o (NameClash places) = refl
  state_same p o (MissingImport places) = refl
  state_same p o ImportCycle = refl
  state_same p o Sound = refl

  lines_same : (k : ℕ) (rest : List Package) → lines_from heads (map refusal_of verdicts) packages outcomes k rest ≡ lines_from heads verdicts packages outcomes k rest
  lines_same k [] = refl
  lines_same k (p ∷ ps) =
      ap (λ (l : List ErrorLine). l ++ lines_from heads (map refusal_of verdicts) packages outcomes (suc k) ps) (state_same p (get_or outcomes k Faulty) p.state)
      ∙ ap (λ (l : List ErrorLine). state_lines heads verdicts packages outcomes p (get_or outcomes k Faulty) p.state ++ l) (lines_same (suc k) ps)

  pub told_same : (refusals : List (Option FileVerdict)) → refusals ≡ map refusal_of verdicts → error_lines heads refusals packages outcomes ≡ error_lines heads verdicts packages outcomes
  told_same refusals is = ap (λ v. error_lines heads v packages outcomes) is ∙ lines_same 0 packages
