-- What one look into a folder leaves, item by item.
use Rattle.std.proofs.Common.{◌≡◌, ◌⊎◌, inl, inr, ℕ, ◌≤◌, List, [], ◌∷◌, ◌++◌, length, Bool, true, false, ◌&&◌, Option, Some, None, bytes_eq, refl, ap, sym, ◌∙◌, subst, fold}
use Rattle.std.specs.Prelude.{if◌then◌else◌}
use Rattle.std.specs.List.{AllByRecursion}
use Rattle.std.proofs.lemmas.Bool.{leb-true}
use Rattle.gv_base.specs.Files.{Entry, file_at, put_file}
use Rattle.gv_base.specs.Paths.{IsPath}
use Rattle.gv_base.specs.Trees.{AreNamed}
use Rattle.gv_base.proofs.FileLemmas.{put_file-here, put_file-else}
use Rattle.gv_base.proofs.TreeLaws.{named-put}
use Rattle.disk.specs.Folders.{Has, Named, child}
use Rattle.disk.specs.Names.{is_segment, is_file, is_folder, is_short, is_chosen, is_open, lists, enters, found_with, waiting_with, IsFolder}
use Rattle.disk.proofs.Members.{has-left, has-right, has-cases, and-first, and-second, one-or_two}
use Rattle.disk.proofs.PathTests.{segment-of, child-path}

-- a file of this path was found
abbrev pub Held : List Entry → List ℕ → Type 0
Held found path = (bytes : List ℕ) × (file_at found path ≡ Some bytes)

held-put : (found : List Entry) (path q : List ℕ) → Held found q → Held (put_file found path []) q
held-put found path q h = elim (one-or_two q path (bytes_eq q path) refl) [
  | inl e ↦ ([], ap (file_at (put_file found path [])) e ∙ put_file-here found path [])
  | inr n ↦ (h.0, put_file-else found path [] q n ∙ h.1)
]

held-put-back : (found : List Entry) (path q : List ℕ) → Held (put_file found path []) q → (q ≡ path) ⊎ Held found q
held-put-back found path q h = elim (one-or_two q path (bytes_eq q path) refl) [
  | inl e ↦ inl e
  | inr n ↦ inr (h.0, sym (put_file-else found path [] q n) ∙ h.1)
]

held-if : (b : Bool) (found : List Entry) (path q : List ℕ) → Held found q → Held (if b then put_file found path [] else found) q
held-if true found path q h = held-put found path q h
held-if false found path q h = h

held-new : (b : Bool) (found : List Entry) (path : List ℕ) → b ≡ true → Held (if b then put_file found path [] else found) path
held-new true found path e = ([], put_file-here found path [])
held-new false found path e = absurd (let f : ◌≡◌ {A = Bool} false true = e in cc)

held-back : (b : Bool) (found : List Entry) (path q : List ℕ) → Held (if b then put_file found path [] else found) q → ((b ≡ true) × (q ≡ path)) ⊎ Held found q
held-back true found path q h = elim (held-put-back found path q h) [ inl e ↦ inl (refl, e) | inr k ↦ inr k ]
held-back false found path q h = inr h

pub found-keeps : (folder : List ℕ) (items : List Named) (found : List Entry) (q : List ℕ) → Held found q → Held (fold (found_with folder) found items) q
found-keeps folder [] found q h = h
found-keeps folder (item ∷ items) found q h = found-keeps folder items (found_with folder found item) q (held-if (lists folder item) found (child folder item.0) q h)

pub found-adds : (folder : List ℕ) (items : List Named) (found : List Entry) (item : Named) → Has items item → lists folder item ≡ true → Held (fold (found_with folder) found items) (child folder item.0)
found-adds folder [] found item h l = absurd h
found-adds folder (x ∷ items) found item h l = elim h [
  | inl e ↦ found-keeps folder items (found_with folder found x) (child folder item.0) (let P : Named → Type 0 = λ z. Held (found_with folder found x) (child folder z.0) in subst P (sym e) (held-new (lists folder x) found (child folder x.0) (ap (lists folder) (sym e) ∙ l)))
  | inr k ↦ found-adds folder items (found_with folder found x) item k l
]

pub found-sound : (P : List ℕ → Type 0) (folder : List ℕ) (items : List Named) (found : List Entry)
    → ((q : List ℕ) → Held found q → P q)
    → ((item : Named) → Has items item → lists folder item ≡ true → P (child folder item.0))
    → (q : List ℕ) → Held (fold (found_with folder) found items) q → P q
found-sound P folder [] found old new q h = old q h
found-sound P folder (x ∷ items) found old new q h = found-sound P folder items (found_with folder found x) stepped (λ item k l. new item (inr k) l) q h
  where
    stepped : (q : List ℕ) → Held (found_with folder found x) q → P q
    stepped q h = elim (held-back (lists folder x) found (child folder x.0) q h) [ inl k ↦ subst P (sym k.1) (new x (inl refl) k.0) | inr k ↦ old q k ]

-- the folders that wait
waits-if : (b : Bool) (waiting : List (List ℕ)) (path q : List ℕ) → Has waiting q → Has (if b then waiting ++ path ∷ [] else waiting) q
waits-if true waiting path q h = has-left waiting (path ∷ []) q h
waits-if false waiting path q h = h

waits-new : (b : Bool) (waiting : List (List ℕ)) (path : List ℕ) → b ≡ true → Has (if b then waiting ++ path ∷ [] else waiting) path
waits-new true waiting path e = has-right waiting (path ∷ []) path (inl refl)
waits-new false waiting path e = absurd (let f : ◌≡◌ {A = Bool} false true = e in cc)

waits-back : (b : Bool) (waiting : List (List ℕ)) (path q : List ℕ) → Has (if b then waiting ++ path ∷ [] else waiting) q → ((b ≡ true) × (q ≡ path)) ⊎ Has waiting q
waits-back true waiting path q h = elim (has-cases waiting (path ∷ []) q h) [ inl k ↦ inr k | inr k ↦ only k ]
  where
    only : Has (path ∷ []) q → ((true ≡ true) × (q ≡ path)) ⊎ Has waiting q
    only (inl e) = inl (refl, e)
    only (inr n) = absurd n
waits-back false waiting path q h = inr h

pub waiting-keeps : (folder : List ℕ) (items : List Named) (waiting : List (List ℕ)) (q : List ℕ) → Has waiting q → Has (fold (waiting_with folder) waiting items) q
waiting-keeps folder [] waiting q h = h
waiting-keeps folder (item ∷ items) waiting q h = waiting-keeps folder items (waiting_with folder waiting item) q (waits-if (enters folder item) waiting (child folder item.0) q h)

pub waiting-adds : (folder : List ℕ) (items : List Named) (waiting : List (List ℕ)) (item : Named) → Has items item → enters folder item ≡ true → Has (fold (waiting_with folder) waiting items) (child folder item.0)
waiting-adds folder [] waiting item h l = absurd h
waiting-adds folder (x ∷ items) waiting item h l = elim h [
  | inl e ↦ waiting-keeps folder items (waiting_with folder waiting x) (child folder item.0) (let P : Named → Type 0 = λ z. Has (waiting_with folder waiting x) (child folder z.0) in subst P (sym e) (waits-new (enters folder x) waiting (child folder x.0) (ap (enters folder) (sym e) ∙ l)))
  | inr k ↦ waiting-adds folder items (waiting_with folder waiting x) item k l
]

pub waiting-sound : (P : List ℕ → Type 0) (folder : List ℕ) (items : List Named) (waiting : List (List ℕ))
    → ((q : List ℕ) → Has waiting q → P q)
    → ((item : Named) → Has items item → enters folder item ≡ true → P (child folder item.0))
    → (q : List ℕ) → Has (fold (waiting_with folder) waiting items) q → P q
waiting-sound P folder [] waiting old new q h = old q h
waiting-sound P folder (x ∷ items) waiting old new q h = waiting-sound P folder items (waiting_with folder waiting x) stepped (λ item k l. new item (inr k) l) q h
  where
    stepped : (q : List ℕ) → Has (waiting_with folder waiting x) q → P q
    stepped q h = elim (waits-back (enters folder x) waiting (child folder x.0) q h) [ inl k ↦ subst P (sym k.1) (new x (inl refl) k.0) | inr k ↦ old q k ]

-- what a taken item says
taken-path : (folder : List ℕ) (item : Named) (kind fits : Bool) → IsFolder folder → (is_segment item.0 && (kind && (is_short (child folder item.0) && fits))) ≡ true → IsPath (child folder item.0)
taken-path folder item kind fits f h =
    let rest = and-second (is_segment item.0) _ h in
    let short = and-first (is_short (child folder item.0)) _ (and-second kind _ rest) in
    child-path folder item.0 f (segment-of item.0 (and-first (is_segment item.0) _ h)) (leb-true (length (child folder item.0)) 1024 short)

pub found-named : (folder : List ℕ) (items : List Named) (found : List Entry) → IsFolder folder → AreNamed found → AreNamed (fold (found_with folder) found items)
found-named folder [] found f h = h
found-named folder (x ∷ items) found f h = found-named folder items (found_with folder found x) f (stepped (lists folder x) refl)
  where
    stepped : (b : Bool) → lists folder x ≡ b → AreNamed (if b then put_file found (child folder x.0) [] else found)
    stepped true e = named-put found (child folder x.0) [] (taken-path folder x (is_file x.1) (is_chosen (child folder x.0)) f e) h
    stepped false e = h

all-more : (P : List ℕ → Type 0) (xs : List (List ℕ)) (y : List ℕ) → AllByRecursion P xs → P y → AllByRecursion P (xs ++ y ∷ [])
all-more P [] y h k = (k, tt)
all-more P (x ∷ xs) y h k = (h.0, all-more P xs y h.1 k)

pub waiting-folders : (folder : List ℕ) (items : List Named) (waiting : List (List ℕ)) → IsFolder folder → AllByRecursion IsFolder waiting → AllByRecursion IsFolder (fold (waiting_with folder) waiting items)
waiting-folders folder [] waiting f h = h
waiting-folders folder (x ∷ items) waiting f h = waiting-folders folder items (waiting_with folder waiting x) f (stepped (enters folder x) refl)
  where
    stepped : (b : Bool) → enters folder x ≡ b → AllByRecursion IsFolder (if b then waiting ++ child folder x.0 ∷ [] else waiting)
    stepped true e = all-more IsFolder waiting (child folder x.0) h (inr (taken-path folder x (is_folder x.1) (is_open (child folder x.0)) f e))
    stepped false e = h

-- of a list with one more at its end
pub all-front : (P : List ℕ → Type 0) (xs : List (List ℕ)) (y : List ℕ) → AllByRecursion P (xs ++ y ∷ []) → AllByRecursion P xs
all-front P [] y h = tt
all-front P (x ∷ xs) y h = (h.0, all-front P xs y h.1)

pub all-last : (P : List ℕ → Type 0) (xs : List (List ℕ)) (y : List ℕ) → AllByRecursion P (xs ++ y ∷ []) → P y
all-last P [] y h = h.0
all-last P (x ∷ xs) y h = all-last P xs y h.1
