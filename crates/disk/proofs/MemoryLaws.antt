-- What stands in a folder of a disk in memory.
use Rattle.std.proofs.Common.{◌≡◌, ◌⊎◌, inl, inr, ℕ, List, [], ◌∷◌, ◌++◌, Bool, true, false, bytes_eq, refl, ap, sym, ◌∙◌, subst, cond, flat_map}
use Rattle.std.specs.Prelude.{if◌then◌else◌}
use Rattle.std.proofs.lemmas.Slice.Eq.{bytes_eq-Decides}
use Rattle.gv_base.specs.Files.{Entry, file_at, put_file, del_file}
use Rattle.gv_base.proofs.FileLemmas.{put_file-here, put_file-else, del_file-here, del_file-else}
use Rattle.std.specs.Prelude.{Result, Ok, Err, Option, Some, None, OnOk, OnErr, ◌≢◌}
use Rattle.disk.specs.Held.{OthersStay, Writes, IsMoved}
use Rattle.disk.specs.declared.device.Kind.{Kind}
use Rattle.disk.specs.Folders.{Placed, Named, Has, AreItems}
use Rattle.disk.specs.Memory.{item_in}
use Rattle.disk.proofs.Members.{has-left, has-right, has-cases}

placed-same : (f n : List ℕ) (k : Kind) (g m : List ℕ) (l : Kind) → f ≡ g → n ≡ m → k ≡ l → ◌≡◌ {A = Placed} (f, n, k) (g, m, l)
placed-same f n k g m l a b c = λ i. (a i, b i, c i)

item-sound : (folder name : List ℕ) (kind : Kind) (slot : Placed) (b : Bool) → bytes_eq slot.0 folder ≡ b → Has {X = Named} (if b then (slot.1, slot.2) ∷ [] else []) (name, kind) → (folder, name, kind) ≡ slot
item-sound folder name kind (g, m, l) true e (inl s) = placed-same folder name kind g m l (sym ((bytes_eq-Decides g folder).0 e)) (ap (λ z. z.0) s) (ap (λ z. z.1) s)
item-sound folder name kind slot true e (inr n) = absurd n
item-sound folder name kind slot false e n = absurd n

item-complete : (folder name : List ℕ) (kind : Kind) (slot : Placed) → (folder, name, kind) ≡ slot → Has {X = Named} (item_in folder slot) (name, kind)
item-complete folder name kind slot e = let P : Placed → Type 0 = λ z. Has {X = Named} (item_in folder z) (name, kind) in subst P e (let Q : Bool → Type 0 = λ b. Has {X = Named} (if b then (name, kind) ∷ [] else []) (name, kind) in subst Q (sym ((bytes_eq-Decides folder folder).1 refl)) (inl refl))

sound : (slots : List Placed) (folder name : List ℕ) (kind : Kind) → Has {X = Named} (flat_map (item_in folder) slots) (name, kind) → Has {X = Placed} slots (folder, name, kind)
sound [] folder name kind h = absurd h
sound (slot ∷ slots) folder name kind h = elim (has-cases (item_in folder slot) (flat_map (item_in folder) slots) (name, kind) h) [
  | inl k ↦ inl (item-sound folder name kind slot (bytes_eq slot.0 folder) refl k)
  | inr k ↦ inr (sound slots folder name kind k)
]

complete : (slots : List Placed) (folder name : List ℕ) (kind : Kind) → Has {X = Placed} slots (folder, name, kind) → Has {X = Named} (flat_map (item_in folder) slots) (name, kind)
complete [] folder name kind h = absurd h
complete (slot ∷ slots) folder name kind h = elim h [
  | inl e ↦ has-left (item_in folder slot) (flat_map (item_in folder) slots) (name, kind) (item-complete folder name kind slot e)
  | inr k ↦ has-right (item_in folder slot) (flat_map (item_in folder) slots) (name, kind) (complete slots folder name kind k)
]

pub are-items : (slots : List Placed) (folder : List ℕ) → AreItems slots folder (flat_map (item_in folder) slots)
are-items slots folder = record { sound = sound slots folder; complete = complete slots folder }

pub items-told : (a b : List Placed) (folder : List ℕ) (got : List Named) → got ≡ flat_map (item_in folder) b → b ≡ a → AreItems a folder got
items-told a b folder got e s =
    let P : List Named → Type 0 = λ z. AreItems a folder z in
    subst P (sym (e ∙ ap (flat_map (item_in folder)) s)) (are-items a folder)

-- files that are written, and taken away
pub put-others : (old new : List Entry) (path bytes : List ℕ) → new ≡ put_file old path bytes → OthersStay old new path
put-others old new path bytes e q n = ap (λ z. file_at z q) e ∙ put_file-else old path bytes q n

pub put-writes : (old new : List Entry) (path bytes : List ℕ) → new ≡ put_file old path bytes → Writes path bytes (Ok tt) old new
put-writes old new path bytes e = record { others = put-others old new path bytes e; done = ap (λ z. file_at z path) e ∙ put_file-here old path bytes }

pub torn : {E : Type 0} (old new : List Entry) (path bytes : List ℕ) (r : Result (Unit {0}) E) → OnOk r (new ≡ put_file old path bytes) → OnErr r (new ≡ old) → OthersStay old new path
torn old new path bytes (Ok done) h k q n = put-others old new path bytes h q n
torn old new path bytes (Err e) h k q n = ap (λ z. file_at z q) k

pub del-others : (old mid new : List Entry) (path : List ℕ) → mid ≡ old → new ≡ del_file mid path → OthersStay old new path
del-others old mid new path s e q n = ap (λ z. file_at z q) e ∙ del_file-else mid path q n ∙ ap (λ z. file_at z q) s

pub moved-none : (beside path : List ℕ) (old new : List Entry) → file_at old beside ≡ None → new ≡ del_file old path → IsMoved beside path old new
moved-none beside path old new none e = record {
  here = ap (λ z. file_at z path) e ∙ del_file-here old path ∙ sym none;
  others = λ q p b. ap (λ z. file_at z q) e ∙ del_file-else old path q p;
}

pub moved-some : (beside path bytes : List ℕ) (old mid new : List Entry) → beside ≢ path → file_at old beside ≡ Some bytes → mid ≡ put_file old path bytes → new ≡ del_file mid beside → IsMoved beside path old new
moved-some beside path bytes old mid new apart some put del = record {
  here = ap (λ z. file_at z path) del ∙ del_file-else mid beside path (λ s. apart (sym s)) ∙ ap (λ z. file_at z path) put ∙ put_file-here old path bytes ∙ sym some;
  others = λ q p b. ap (λ z. file_at z q) del ∙ del_file-else mid beside q b ∙ ap (λ z. file_at z q) put ∙ put_file-else old path bytes q p;
}
