-- How far a listing is.
use Rattle.std.proofs.Common.{◌≡◌, ◌⊎◌, ◌↔◌, inl, inr, ℕ, ◌<◌, ◌≤◌, List, [], ◌∷◌, ◌++◌, length, map, Bool, true, false, ◌&&◌, Option, Some, None, bytes_eq, refl, ap, sym, ◌∙◌, subst, arith, fold, cond}
use Rattle.std.proofs.lemmas.Bool.{leb-true}
use Rattle.std.proofs.lemmas.Slice.Eq.{bytes_eq-Decides}
use Rattle.gv_base.specs.Files.{Entry, file_at}
use Rattle.gv_base.specs.Paths.{IsSegment}
use Rattle.gv_base.specs.Trees.{paths_of, AreNamed}
use Rattle.disk.specs.Searches.{Turned, Turns}
use Rattle.std.specs.List.{AllByRecursion}
use Rattle.disk.specs.declared.device.Kind.{Kind}
use Rattle.disk.specs.declared.device.Kind.TheVariants.{File, Folder, Other}
use Rattle.disk.specs.Folders.{Placed, Named, Has, child, AreItems, TellsItems, Reaches, here, down}
use Rattle.disk.specs.Names.{is_segment, is_file, is_folder, is_short, is_chosen, is_open, lists, enters, found_with, waiting_with, IsFolder}
use Rattle.disk.specs.Listings.{IsListed, AreListed, TellsListing}
use Rattle.disk.proofs.Members.{has-left, has-right, has-cases, and-true, and-first, and-second, one-or_two}
use Rattle.disk.proofs.PathTests.{le-test, segment-of, segment-test, open-above, shorter-above, child-some}
use Rattle.disk.proofs.Taking.{Held, found-keeps, found-adds, found-sound, waiting-keeps, waiting-adds, waiting-sound, found-named, waiting-folders, all-front, all-last}
use Rattle.disk.proofs.Below.{below-path, Entered, top, into, climb}

-- it stands below a folder that waits
abbrev pub IsLeft : List Placed → List (List ℕ) → List ℕ → Type 0
IsLeft slots waiting path = (folder : List ℕ) × Has waiting folder × Reaches slots folder path

pub record Progress (slots : List Placed) (found : List Entry) (waiting : List (List ℕ)) : Type 0 where
  pub files : (path : List ℕ) → Held found path → IsListed slots path
  pub entered : (folder : List ℕ) → Has waiting folder → Entered slots folder
  pub left : (path : List ℕ) → IsListed slots path → Held found path ⊎ IsLeft slots waiting path

abbrev pub Progresses : Option (List Placed) → List Entry → List (List ℕ) → Type 0
Progresses None found waiting = Unit {0}
Progresses (Some slots) found waiting = Progress slots found waiting

pub start : (slots : Option (List Placed)) → Progresses slots [] ([] ∷ [])
start None = tt
start (Some slots) = record {
  files = λ path h. absurd (let f : ◌≡◌ {A = Option (List ℕ)} None (Some h.0) = h.1 in cc);
  entered = λ folder h. first folder h;
  left = λ path listed. inr ([], inl refl, listed.reached);
}
  where
    first : (folder : List ℕ) → Has ([] ∷ []) folder → Entered slots folder
    first folder (inl e) = let P : List ℕ → Type 0 = λ z. Entered slots z in subst P (sym e) top
    first folder (inr n) = absurd n

file-kind : (kind : Kind) → is_file kind ≡ true → kind ≡ File
file-kind File e = refl
file-kind Folder e = absurd (let f : ◌≡◌ {A = Bool} false true = e in cc)
file-kind Other e = absurd (let f : ◌≡◌ {A = Bool} false true = e in cc)

folder-kind : (kind : Kind) → is_folder kind ≡ true → kind ≡ Folder
folder-kind File e = absurd (let f : ◌≡◌ {A = Bool} false true = e in cc)
folder-kind Folder e = refl
folder-kind Other e = absurd (let f : ◌≡◌ {A = Bool} false true = e in cc)

-- a file that is listed
new-file : (slots : List Placed) (folder : List ℕ) (items : List Named) → AreItems slots folder items → Entered slots folder
    → (item : Named) → Has items item → lists folder item ≡ true → IsListed slots (child folder item.0)
new-file slots folder items are entered (name, kind) has l =
    let seg = segment-of name (and-first (is_segment name) _ l) in
    let rest = and-second (is_segment name) _ l in
    let is : kind ≡ File = file-kind kind (and-first (is_file kind) _ rest) in
    let fits = and-second (is_file kind) _ rest in
    let P : Kind → Type 0 = λ k. Has items (name, k) in
    record {
      reached = climb slots folder (child folder name) entered (here folder name seg (are.sound name File (subst P is has)));
      chosen = and-second (is_short (child folder name)) _ fits;
      short = leb-true (length (child folder name)) 1024 (and-first (is_short (child folder name)) _ fits);
    }

-- a folder that is looked into
new-folder : (slots : List Placed) (folder : List ℕ) (items : List Named) → AreItems slots folder items → Entered slots folder
    → (item : Named) → Has items item → enters folder item ≡ true → Entered slots (child folder item.0)
new-folder slots folder items are entered (name, kind) has l =
    let seg = segment-of name (and-first (is_segment name) _ l) in
    let is : kind ≡ Folder = folder-kind kind (and-first (is_folder kind) _ (and-second (is_segment name) _ l)) in
    let P : Kind → Type 0 = λ k. Has items (name, k) in
    into folder name seg (are.sound name Folder (subst P is has)) entered

-- what stands below the folder is found, or stands below a folder that waits
looked : (slots : List Placed) (folder : List ℕ) (items : List Named) (found : List Entry) (rest : List (List ℕ)) → AreItems slots folder items
    → (path : List ℕ) → is_chosen path ≡ true → length path ≤ 1024 → Reaches slots folder path
    → Held (fold (found_with folder) found items) path ⊎ IsLeft slots (fold (waiting_with folder) rest items) path
looked slots folder items found rest are path chosen short (here _ name seg has) =
    inl (found-adds folder items found (name, File) (are.complete name File has) (and-true _ _ (segment-test name seg) (and-true _ _ (le-test _ _ short) chosen)))
looked slots folder items found rest are path chosen short (down _ name _ seg has more) =
    let below = below-path slots (child folder name) path more (child-some folder name seg) in
    let open_it = open-above (child folder name) below.0 path below.1 chosen in
    let fits = le-test _ _ (shorter-above (child folder name) below.0 path below.1 short) in
    inr (child folder name, waiting-adds folder items rest (name, Folder) (are.complete name Folder has) (and-true _ _ (segment-test name seg) (and-true _ _ fits open_it)), more)

-- one folder further
pub further : (slots : Option (List Placed)) (folder : List ℕ) (items : List Named) (found : List Entry) (rest : List (List ℕ))
    → TellsItems slots folder items → Progresses slots found (rest ++ folder ∷ [])
    → Progresses slots (fold (found_with folder) found items) (fold (waiting_with folder) rest items)
further None folder items found rest are progress = tt
further (Some slots) folder items found rest are progress =
    let entered = progress.entered folder (has-right rest (folder ∷ []) folder (inl refl)) in
    record {
      files = found-sound (IsListed slots) folder items found progress.files (new-file slots folder items are entered);
      entered = waiting-sound (Entered slots) folder items rest (λ q h. progress.entered q (has-left rest (folder ∷ []) q h)) (new-folder slots folder items are entered);
      left = λ path listed. elim (progress.left path listed) [ inl h ↦ inl (found-keeps folder items found path h) | inr k ↦ moved path listed k ];
    }
  where
    at_last : (path : List ℕ) → IsListed slots path → (below : List ℕ) → Reaches slots below path → Has (folder ∷ []) below
        → Held (fold (found_with folder) found items) path ⊎ IsLeft slots (fold (waiting_with folder) rest items) path
    at_last path listed below reach (inl e) = let P : List ℕ → Type 0 = λ z. Reaches slots z path in looked slots folder items found rest are path listed.chosen listed.short (subst P e reach)
    at_last path listed below reach (inr n) = absurd n

    moved : (path : List ℕ) → IsListed slots path → IsLeft slots (rest ++ folder ∷ []) path
        → Held (fold (found_with folder) found items) path ⊎ IsLeft slots (fold (waiting_with folder) rest items) path
    moved path listed k = elim (has-cases rest (folder ∷ []) k.0 k.1) [
      | inl h ↦ inr (k.0, waiting-keeps folder items rest k.0 h, k.2)
      | inr h ↦ at_last path listed k.0 k.2 h
    ]

-- the paths of files
has-path : (files : List Entry) (path : List ℕ) → Held files path → Has (paths_of files) path
has-path [] path h = absurd (let f : ◌≡◌ {A = Option (List ℕ)} None (Some h.0) = h.1 in cc)
has-path (file ∷ files) path h = found (bytes_eq file.0 path) refl h.1 (has-path files path)
  where
    found : (b : Bool) → bytes_eq file.0 path ≡ b → cond b (Some file.1) (file_at files path) ≡ Some h.0 → (Held files path → Has (paths_of files) path) → Has (paths_of (file ∷ files)) path
    found true e is more = inl (sym ((bytes_eq-Decides file.0 path).0 e))
    found false e is more = inr (more (h.0, is))

path-held : (files : List Entry) (path : List ℕ) → Has (paths_of files) path → Held files path
path-held [] path h = absurd h
path-held (file ∷ files) path h = elim (one-or_two file.0 path (bytes_eq file.0 path) refl) [
  | inl e ↦ (file.1, ap (λ b. cond b (Some file.1) (file_at files path)) ((bytes_eq-Decides file.0 path).1 e))
  | inr n ↦ passed (path-held files path) n h
]
  where
    later : (b : Bool) → bytes_eq file.0 path ≡ b → (file.0 ≡ path → ⊥) → Held files path → Held (file ∷ files) path
    later true e n k = absurd (n ((bytes_eq-Decides file.0 path).0 e))
    later false e n k = (k.0, ap (λ b. cond b (Some file.1) (file_at files path)) e ∙ k.1)

    passed : (Has (paths_of files) path → Held files path) → (file.0 ≡ path → ⊥) → Has (paths_of (file ∷ files)) path → Held (file ∷ files) path
    passed rest n (inl e) = absurd (n (sym e))
    passed rest n (inr k) = later (bytes_eq file.0 path) refl n (rest k)

-- no folder waits any more
pub done : (slots : Option (List Placed)) (found : List Entry) → Progresses slots found [] → TellsListing slots (paths_of found)
done None found progress = tt
done (Some slots) found progress = λ path. (λ h. progress.files path (path-held found path h), λ listed. elim (progress.left path listed) [ inl h ↦ has-path found path h | inr k ↦ absurd k.1 ])

-- where the listing stands between two folders
pub record UnderWay (slots : Option (List Placed)) (found : List Entry) (waiting : List (List ℕ)) : Type 0 where
  pub named : AreNamed found
  pub folders : AllByRecursion IsFolder waiting
  pub progress : Progresses slots found waiting

pub under-way : (slots : Option (List Placed)) → UnderWay slots [] ([] ∷ [])
under-way slots = record { named = record { each = ∣ tt ∣₁; order = λ i j d lt hi. absurd (omega (arith, hi)) }; folders = (inl refl, tt); progress = start slots }

-- one turn
pub turned : (slots : Option (List Placed)) (found found' : List Entry) (waiting waiting' : List (List ℕ)) → UnderWay slots found waiting → Turned slots found found' waiting waiting' → UnderWay slots found' waiting'
turned slots found found' waiting waiting' u t =
    let P : List (List ℕ) → Type 0 = λ z. UnderWay slots found z in
    let v : UnderWay slots found (t.rest ++ t.folder ∷ []) = subst P t.split u in
    let f : IsFolder t.folder = all-last IsFolder t.rest t.folder v.folders in
    let Q : List Entry → Type 0 = λ z. AreNamed z in
    let R : List (List ℕ) → Type 0 = λ z. AllByRecursion IsFolder z in
    let S : List Entry → Type 0 = λ z. Progresses slots z (fold (waiting_with t.folder) t.rest t.looks.items) in
    let T : List (List ℕ) → Type 0 = λ z. Progresses slots found' z in
    record {
      named = subst Q (sym t.looks.files) (found-named t.folder t.looks.items found f v.named);
      folders = subst R (sym t.looks.folders) (waiting-folders t.folder t.looks.items t.rest f (all-front IsFolder t.rest t.folder v.folders));
      progress = subst T (sym t.looks.folders) (subst S (sym t.looks.files) (further slots t.folder t.looks.items found t.rest t.looks.are v.progress));
    }

-- no folder waits any more
pub finished : (slots : Option (List Placed)) (found found' : List Entry) (waiting : List (List ℕ)) (paths : List (List ℕ)) → UnderWay slots found waiting → (waiting ≡ []) × (found' ≡ found) → paths ≡ paths_of found' → TellsListing slots paths
finished slots found found' waiting paths u e is =
    let P : List (List ℕ) → Type 0 = λ z. Progresses slots found z in
    let Q : List (List ℕ) → Type 0 = λ z. TellsListing slots z in
    subst Q (sym (is ∙ ap paths_of e.1)) (done slots found (subst P e.0 u.progress))

pub named-still : (found found' : List Entry) (waiting : List (List ℕ)) → AreNamed found → (waiting ≡ []) × (found' ≡ found) → AreNamed found'
named-still found found' waiting h e = let P : List Entry → Type 0 = λ z. AreNamed z in subst P (sym e.1) h

-- a turn after which the listing goes on, and one after which it ends
pub way-on : (slots : Option (List Placed)) (found found' : List Entry) (waiting waiting' : List (List ℕ)) (more : Bool) → more ≡ true → UnderWay slots found waiting → Turns slots found found' waiting waiting' more → UnderWay slots found' waiting'
way-on slots found found' waiting waiting' true e u t = turned slots found found' waiting waiting' u t
way-on slots found found' waiting waiting' false e u t = absurd (let f : ◌≡◌ {A = Bool} false true = e in cc)

pub way-told : (first slots : Option (List Placed)) (found found' : List Entry) (waiting waiting' : List (List ℕ)) (paths : List (List ℕ)) (more : Bool) → more ≡ false → slots ≡ first → UnderWay slots found waiting → Turns slots found found' waiting waiting' more → paths ≡ paths_of found' → TellsListing first paths
way-told first slots found found' waiting waiting' paths true e same u t is = absurd (let f : ◌≡◌ {A = Bool} true false = e in cc)
way-told first slots found found' waiting waiting' paths false e same u t is = let P : Option (List Placed) → Type 0 = λ z. TellsListing z paths in subst P same (finished slots found found' waiting paths u t is)
