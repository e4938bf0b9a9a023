-- A run does no more work than any reply to it counts; files stay at paths.
use Rattle.std.proofs.Common.{◌≡◌, ◌∙◌, ℕ, ◌+◌, ◌-◌, ◌<◌, List, [], ◌∷◌, ◌++◌, filter, get_or, length, take, refl, sym, ap, arith}
use Rattle.std.proofs.lemmas.List.{take_more}
use Rattle.std.proofs.lemmas.List.Elements.{All-append, All-cons, All-filter}
use Rattle.gv_base.specs.Files.{Entry, is_before, put_file, del_file}
use Rattle.gv_base.specs.Paths.{IsPath}
use Rattle.analysis_core.specs.declared.command.Command.{Command as Kind}
use Rattle.analysis_core.specs.declared.reply.ChangedFile.{ChangedFile}
use Rattle.folder.specs.Folders.{AreAtPaths, put_all}
use Rattle.tree_runs.specs.Reports.{Work, IsHonest, SpendsAtMost}
use Rattle.top_calls.specs.declared.options.ToolOptions.{ToolOptions}
use Rattle.top_calls.specs.declared.desk.Desk.{Desk}
use Rattle.top_calls.specs.Deeds.{run, task_of}
use Rattle.top_calls.specs.Desk.{Tries}

pub Tries-run : (o : ToolOptions) (k : Kind) (old : Desk) (kits kits' : Work) → (IsHonest old.cache → SpendsAtMost old.files (task_of o k) old.cache kits kits') → Tries o (run k) old kits kits'
Tries-run o k old kits kits' most = record {
  loads = λ h loads runs kept next reply a. (let b = a h in let m = (most h).loads next.cache b.report b.reports in let e = b.loads in omega arith);
  runs = λ h loads runs kept next reply a. (let b = a h in let m = (most h).runs next.cache b.report b.reports in let e = b.runs in omega arith);
}

abbrev HasPath : Entry → Type 0
HasPath e = IsPath e.0

-- a put leaves files at paths
pub put_paths : (tree : List Entry) (path bytes : List ℕ) → IsPath path → AreAtPaths tree → AreAtPaths (put_file tree path bytes)
put_paths tree path bytes is paths =
    All-append HasPath (filter (λ file. is_before file.0 path) tree) ((path, bytes) ∷ filter (λ file. is_before path file.0) tree) (All-filter (λ file. is_before file.0 path) HasPath tree paths)
    (All-cons HasPath (path, bytes) (filter (λ file. is_before path file.0) tree) is (All-filter (λ file. is_before path file.0) HasPath tree paths))

-- and so does a removal
pub del_paths : (tree : List Entry) (path : List ℕ) → AreAtPaths tree → AreAtPaths (del_file tree path)
del_paths tree path paths =
    All-append HasPath (filter (λ file. is_before file.0 path) tree) (filter (λ file. is_before path file.0) tree) (All-filter (λ file. is_before file.0 path) HasPath tree paths)
    (All-filter (λ file. is_before path file.0) HasPath tree paths)

-- ---- files that change, one more at a time

changed-last : (tree : List Entry) (changed : List ChangedFile) (f : ChangedFile) → put_all tree (changed ++ f ∷ []) ≡ put_file (put_all tree changed) f.path f.bytes
changed-last tree [] f = refl
changed-last tree (g ∷ gs) f = changed-last (put_file tree g.path g.bytes) gs f

pub changed_more : (tree : List Entry) (changed : List ChangedFile) (k : ℕ) (f : ChangedFile) (now new : List Entry) → k < length changed → f ≡ get_or changed k f → now ≡ put_all tree (take k changed) → new ≡ put_file now f.path f.bytes
    → new ≡ put_all tree (take (k + 1) changed)
changed_more tree changed k f now new lt is so_far put =
    let more : take (k + 1) changed ≡ take k changed ++ f ∷ [] = take_more changed k f lt ∙ ap (λ x. take k changed ++ x ∷ []) (sym is) in
    put ∙ (ap (λ t. put_file t f.path f.bytes) so_far ∙ (sym (changed-last tree (take k changed) f) ∙ ap (put_all tree) (sym more)))
