-- A file that wasn't written whole is old or new, so the files written are the first of those that were to be.
use Rattle.std.proofs.Common.{◌≡◌, inl, inr, ℕ, ◌+◌, ◌<◌, ◌≤◌, Option, Some, None, List, [], ◌∷◌, ◌++◌, length, take, get_or, refl, sym, ap, ◌∙◌, subst, arith}
use Rattle.std.specs.Prelude.{Ok, Err}
use Rattle.std.proofs.lemmas.List.{take_more}
use Rattle.gv_base.specs.Files.{Entry, put_file}
use Rattle.gv_base.specs.Trees.{LeavesFiles}
use Rattle.gv_base.specs.declared.fault.Denied.{Denied}
use Rattle.analysis_core.specs.declared.reply.ChangedFile.{ChangedFile}
use Rattle.folder.specs.Folders.{IsTold, put_all}

all-more : (files : List Entry) (cs : List ChangedFile) (c : ChangedFile) → put_all files (cs ++ c ∷ []) ≡ put_file (put_all files cs) c.path c.bytes
all-more files [] c = refl
all-more files (d ∷ cs) c = all-more (put_file files d.path d.bytes) cs c

-- one file more
next : (files : List Entry) (changed : List ChangedFile) (i : ℕ) (c : ChangedFile) (path bytes : List ℕ) (old new : List Entry) → i < length changed → c ≡ get_or changed i c → path ≡ c.path → bytes ≡ c.bytes → old ≡ put_all files (take i changed)
    → new ≡ put_file old path bytes → new ≡ put_all files (take (i + 1) changed)
next files changed i c path bytes old new lt is p b told put =
    put ∙ (ap (λ z. put_file z path bytes) told ∙ (ap (λ z. put_file (put_all files (take i changed)) z bytes) p ∙ (ap (λ z. put_file (put_all files (take i changed)) c.path z) b
    ∙ (sym (all-more files (take i changed) c) ∙ ap (put_all files) (ap (λ z. take i changed ++ z ∷ []) is ∙ sym (take_more changed i c lt))))))

pub write-more : (old new : Option (List Entry)) (files : List Entry) (changed : List ChangedFile) (i : ℕ) (c : ChangedFile) (path bytes : List ℕ) → LeavesFiles old new path bytes (Ok tt) → IsTold old (put_all files (take i changed)) → i < length changed
    → c ≡ get_or changed i c → path ≡ c.path → bytes ≡ c.bytes → IsTold new (put_all files (take (i + 1) changed))
write-more None new files changed i c path bytes l t lt is p b = subst (λ z. IsTold z (put_all files (take (i + 1) changed))) (sym l) tt
write-more (Some old) None files changed i c path bytes l t lt is p b = absurd l
write-more (Some old) (Some new) files changed i c path bytes l t lt is p b = next files changed i c path bytes old new lt is p b t l

pub write-cut : (old new : Option (List Entry)) (files : List Entry) (changed : List ChangedFile) (i : ℕ) (c : ChangedFile) (path bytes : List ℕ) (e : Denied) → LeavesFiles old new path bytes (Err e) → IsTold old (put_all files (take i changed))
    → i < length changed → c ≡ get_or changed i c → path ≡ c.path → bytes ≡ c.bytes → (n : ℕ) × (n ≤ length changed) × IsTold new (put_all files (take n changed))
write-cut None new files changed i c path bytes e l t lt is p b = (i, (let z : i ≤ length changed = omega (arith, lt) in z), subst (λ z. IsTold z (put_all files (take i changed))) (sym l) tt)
write-cut (Some old) None files changed i c path bytes e l t lt is p b = absurd l
write-cut (Some old) (Some new) files changed i c path bytes e l t lt is p b = elim l [
  | inl s ↦ (i, (let z : i ≤ length changed = omega (arith, lt) in z), s ∙ t)
  | inr s ↦ (i + 1, (let z : i + 1 ≤ length changed = omega (arith, lt) in z), next files changed i c path bytes old new lt is p b t s)
]
