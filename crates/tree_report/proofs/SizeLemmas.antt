-- The sizes of files, one file more.
use Rattle.std.proofs.Common.{◌≡◌, ℕ, ◌+◌, ◌<◌, List, [], ◌∷◌, ◌++◌, length, take, map, filter, Bool, true, false, cond, Some, slice_get, ap, sym, ◌∙◌}
use Rattle.std.proofs.lemmas.Option.{get_or_from_slice_get}
use Rattle.std.proofs.lemmas.List.{map-append, append-nil}
use Rattle.std.proofs.lemmas.List.Elements.{filter_more}
use Rattle.gv_base.specs.Files.{Entry}
use Rattle.tree_report.specs.Limits.{is_limited, limited_sizes}

-- the files that the limits count
abbrev limited : List Entry → List Entry
limited tree = filter (λ entry. is_limited entry.0) tree

abbrev sizes_of : List Entry → List ℕ
sizes_of files = map (λ file. length file.1) files

-- one file more
file-more : (files : List Entry) (n : ℕ) (e : Entry) → slice_get files n ≡ Some e → n < length files → limited (take (n + 1) files) ≡ limited (take n files) ++ cond (is_limited e.0) (e ∷ []) []
file-more files n e at lt = filter_more (λ file. is_limited file.0) files n e lt ∙ ap (λ x. limited (take n files) ++ cond (is_limited x.0) (x ∷ []) []) (get_or_from_slice_get files n e e at)

sizes-more : (files : List Entry) (n : ℕ) (e : Entry) (b : Bool) → slice_get files n ≡ Some e → n < length files → is_limited e.0 ≡ b → limited_sizes (take (n + 1) files) ≡ limited_sizes (take n files) ++ sizes_of (cond b (e ∷ []) [])
sizes-more files n e b at lt is =
    ap sizes_of (file-more files n e at lt ∙ ap (λ c. limited (take n files) ++ cond c (e ∷ []) []) is) ∙ map-append (λ file. length file.1) (limited (take n files)) (cond b (e ∷ []) [])

pub size-picked : (files : List Entry) (n : ℕ) (e : Entry) (old new : List ℕ) → slice_get files n ≡ Some e → n < length files → is_limited e.0 ≡ true → new ≡ old ++ length e.1 ∷ [] → old ≡ limited_sizes (take n files)
    → new ≡ limited_sizes (take (n + 1) files)
size-picked files n e old new at lt is more so = more ∙ ap (λ l. l ++ length e.1 ∷ []) so ∙ sym (sizes-more files n e true at lt is)

pub size-passed : (files : List Entry) (n : ℕ) (e : Entry) (old new : List ℕ) → slice_get files n ≡ Some e → n < length files → is_limited e.0 ≡ false → new ≡ old → old ≡ limited_sizes (take n files)
    → new ≡ limited_sizes (take (n + 1) files)
size-passed files n e old new at lt is same so = same ∙ so ∙ sym (append-nil (limited_sizes (take n files))) ∙ sym (sizes-more files n e false at lt is)
