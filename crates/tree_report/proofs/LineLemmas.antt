-- Lines of missing imports, and lines package by package.
use Rattle.std.proofs.Common.{◌≡◌, ℕ, zero, suc, ◌+◌, ◌<◌, true, Option, Some, List, [], ◌∷◌, ◌++◌, map, drop, length, codes, slice_get, get_or, refl, sym, ap, ◌∙◌, arith, append_assoc}
use Rattle.std.proofs.lemmas.Option.{same_Some, slice_get_within, slice_get-get_or, get_or_from_slice_get}
use Rattle.std.specs.List.{Contains}
use Rattle.std.proofs.lemmas.List.{append-nil}
use Rattle.gv_base.specs.declared.place.Place.{Place}
use Rattle.go_tree.specs.declared.head.ImportLine.{ImportLine}
use Rattle.typed_tree.specs.RuleTexts.{limit_text}
use Rattle.typed_tree.specs.declared.rule.Limit.{Limit}
use Rattle.typed_tree.specs.declared.rule.Limit.TheVariants as limits
use Rattle.gv_driver.specs.Faults.{limit_number}
use Rattle.import_graph.proofs.FaultLemmas.{missing-none, missing-one}
use Rattle.analysis_core.specs.declared.reply.ErrorLine.{ErrorLine}
use Rattle.go_tree.specs.declared.head.Head.{Head}
use Rattle.parse_file.specs.declared.verdict.FileVerdict.{FileVerdict}
use Rattle.import_graph.specs.declared.pack.Package.{Package}
use Rattle.gv_driver.specs.declared.reply.Verdict.{Verdict}
use Rattle.gv_driver.specs.declared.reply.Verdict.TheVariants.{Faulty}
use Rattle.tree_report.specs.Lines.{line_at, missing_line, missing_lines_at, mark_text, state_lines, lines_from}

-- an import that leads to a package has no line
pub nothing-missing : (paths : List (List ℕ)) (path : List ℕ) (n : ℕ) (line : ImportLine) (k : ℕ) (lines : List ErrorLine) → slice_get paths k ≡ Some line.path
    → lines ≡ lines ++ missing_lines_at paths path n line
nothing-missing paths path n line k lines at =
    sym (append-nil lines) ∙ ap (λ (l : List Place). lines ++ map (missing_line path line) l) (sym (missing-none paths n line k at))

-- another has one
pub one-missing : (paths : List (List ℕ)) (path : List ℕ) (n : ℕ) (line : ImportLine) (text : List ℕ) (old new : List ErrorLine) → (Contains paths line.path → ⊥)
    → text ≡ codes "missing import \"" ++ (line.path ++ codes "\"") → new ≡ old ++ line_at path (record { file = n; offset = line.at }) text ∷ []
    → new ≡ old ++ missing_lines_at paths path n line
one-missing paths path n line text old new lacks says is =
    is ∙ ap (λ t. old ++ line_at path (record { file = n; offset = line.at }) t ∷ []) says
    ∙ ap (λ (l : List Place). old ++ map (missing_line path line) l) (sym (missing-one paths n line lacks))

drop-at : {X : Type 0} (xs : List X) (k : ℕ) (x : X) → slice_get xs k ≡ Some x → drop k xs ≡ x ∷ drop (suc k) xs
drop-at [] k x at = absurd (let l : k < 0 = slice_get_within [] k x at in omega (arith, l))
drop-at (y ∷ ys) zero x at = ap (λ z. z ∷ ys) (same_Some y x at)
drop-at (y ∷ ys) (suc k) x at = drop-at ys k x at

-- one package more
pub lines-more : (heads : List (Option Head)) (verdicts : List (Option FileVerdict)) (packages : List Package) (outcomes : List Verdict) (k : ℕ) (p : Package) (o : Verdict) (old new whole : List ErrorLine)
    → k < length packages → k < length outcomes
    → new ≡ old ++ state_lines heads verdicts packages outcomes (get_or packages k p) (get_or outcomes k o) (get_or packages k p).state
    → old ++ lines_from heads verdicts packages outcomes k (drop k packages) ≡ whole
    → new ++ lines_from heads verdicts packages outcomes (k + 1) (drop (k + 1) packages) ≡ whole
lines-more heads verdicts packages outcomes k p o old new whole l m grown before =
    let e : k + 1 ≡ suc k = omega arith in
    let at : slice_get packages k ≡ Some (get_or packages k p) = slice_get-get_or packages k p l in
    let found : get_or outcomes k Faulty ≡ get_or outcomes k o = get_or_from_slice_get outcomes k (get_or outcomes k o) Faulty (slice_get-get_or outcomes k o m) in
    let next : List ErrorLine = lines_from heads verdicts packages outcomes (suc k) (drop (suc k) packages) in
    ap (λ n. new ++ lines_from heads verdicts packages outcomes n (drop n packages)) e
    ∙ (ap (λ t. t ++ next) grown
    ∙ (append_assoc old (state_lines heads verdicts packages outcomes (get_or packages k p) (get_or outcomes k o) (get_or packages k p).state) next
    ∙ (ap (λ v. old ++ (state_lines heads verdicts packages outcomes (get_or packages k p) v (get_or packages k p).state ++ next)) (sym found)
    ∙ (ap (λ ps. old ++ lines_from heads verdicts packages outcomes k ps) (sym (drop-at packages k (get_or packages k p) at)) ∙ before))))

-- the text of a limit is had by its number
pub limit-text : (limit : Limit) → mark_text true (limit_number limit) ≡ limit_text limit
limit-text limits.Float = refl
limit-text limits.Complex = refl
limit-text limits.Wide = refl
limit-text limits.LongText = refl
limit-text limits.WideType = refl
limit-text limits.Unsafe = refl
limit-text limits.Cgo = refl
limit-text limits.DotImport = refl
limit-text limits.BuildConstraint = refl
