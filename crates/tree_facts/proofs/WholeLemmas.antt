-- The least set of a tree, where the facts of all its accepted packages are known.
use Rattle.std.proofs.Common.{◌≡◌, ℕ, ◌&&◌, Bool, true, List, map, length, Option, Some, None, is_some, slice_get, refl, sym, ap, ◌∙◌, subst}
use Rattle.std.specs.List.{Contains}
use Rattle.std.proofs.lemmas.Option.{slice_get_within}
use Rattle.go_tree.specs.Lexeme.{place_of}
use Rattle.handed_facts.specs.Handed.{Named, path_in, entry, entries_of}
use Rattle.least.specs.Least.{IsClosed, IsLeast, IsMonotone, IsWithin}
use Rattle.least.specs.Tables.{Member, member}
use Rattle.known_callees.proofs.FunctionNames.{both_true, mapped_there, place_none, place_there}
use Rattle.typed_marks.specs.declared.item.Item.{Item}
use Rattle.typed_marks.specs.Meanings.{Meaning}
use Rattle.unit_read.specs.Units.{Unit}
use Rattle.gv_driver.specs.declared.tree.PackageTexts.{PackageTexts}
use Rattle.gv_driver.specs.Trees.{IsTree}
use Rattle.known_callees.specs.Telling.{TellsLeast}
use Rattle.known_callees.proofs.EntryLemmas.{ReadsOnce}
use Rattle.known_callees.proofs.MeetLemmas.{IsMet, met}
use Rattle.known_callees.proofs.ToldLemmas.{TellEach}
use Rattle.known_callees.proofs.Words.{both_so, get_mapped, not_none}
use Rattle.tree_facts.specs.Accepted.{IsAccepted, AreFactTextsBy}
use Rattle.tree_facts.proofs.TreeLemmas.{Steps, tells}
use Rattle.tree_facts.proofs.UnitLemmas.{unit_path}

-- an accepted package of the tree has the member's path
pub record IsOwned (tree : List PackageTexts) (m : Member) : Type 0 where
  pub p : ℕ
  pub unit : Unit
  pub marks : Item → Meaning
  pub accepted : IsAccepted tree p unit marks
  pub own : m.path ≡ unit.path

module _ {F : Type 0} (spelling kinds : F → List ℕ) (once : ReadsOnce spelling) (admits : (Member → Bool) → Member → Type 0) (grows : IsMonotone admits) (analyzer : ℕ) (tree : List PackageTexts) (formed : IsTree tree)
    (step : Steps spelling kinds admits analyzer tree) (owned : (N : Member → Bool) (m : Member) → admits N m → IsOwned tree m) (all : List Named) (are : AreFactTextsBy analyzer tree all) where
  pub told : TellEach spelling kinds admits all
  told k x e =
      let f = are.each k x e in
      subst (λ (l : List ℕ). TellsLeast spelling kinds admits l x.1) (sym f.path) (tells spelling kinds admits analyzer tree formed step f.p x.1 f.has f.pack f.face f.at f.accepted)

  pub everyone : IsMet spelling kinds once admits grows all told (length all)
  everyone = met spelling kinds once admits grows all told (length all)

  abbrev pub is_there : List ℕ → Bool
  is_there path = is_some (place_of (map path_in all) path)

  -- of the accepted packages, what is told of them
  abbrev pub whole : Member → Bool
  whole m = everyone.set m && is_there m.path

  place_is : (k : ℕ) (x : Named) (path : List ℕ) → slice_get all k ≡ Some x → x.0 ≡ path → is_there path ≡ true
  place_is k x path there same =
      let at : slice_get (map path_in all) k ≡ Some path = get_mapped path_in all k x there ∙ ap (λ (p : List ℕ). Some p) same in
      not_none (place_of (map path_in all) path) (λ none. place_none (map path_in all) path k none at)

  whole_closed : IsClosed admits whole
  whole_closed m w =
      let o = owned whole m w in
      let a = o.accepted in
      let (k, x, there, path) = are.every o.p a.pack a.face a.at a.accepted in
      let same : x.0 ≡ m.path = path ∙ sym (o.own ∙ unit_path tree o.p o.unit o.marks a) in
      both_so (everyone.set m) (is_there m.path)
      (everyone.closed m (grows whole everyone.set m (λ f e. (both_true (everyone.set f) (is_there f.path) e).0) w))
      (place_is k x m.path there same)

  told_within : (M : Member → Bool) → IsClosed admits M → (m : Member) (k : ℕ) (x : Named) → slice_get all k ≡ Some x → x.0 ≡ m.path → everyone.set m ≡ true → M m ≡ true
  told_within M closed m k x there path e =
      let named : Contains (entries_of kinds (told k x there).table) (entry m.name m.kind) = everyone.exact k x there (slice_get_within all k x there) m (sym path) e in
      let member_in : M (member x.0 m.name m.kind) ≡ true = (told k x there).within M closed (entry m.name m.kind) named in
      subst (λ (z : Member). M z ≡ true) (ap (λ (p : List ℕ). member p m.name m.kind) path) member_in

  whole_within : (M : Member → Bool) → IsClosed admits M → IsWithin whole M
  whole_within M closed m e =
      let both = both_true (everyone.set m) (is_there m.path) e in
      by (place_of (map path_in all) m.path) refl both.1 both.0
    where
      by : (o : Option ℕ) → place_of (map path_in all) m.path ≡ o → is_some o ≡ true → everyone.set m ≡ true → M m ≡ true
      by None at none there = absurd (cc)
      by (Some k) at some there =
          let (x, stands, path) = mapped_there path_in all k m.path (place_there (map path_in all) m.path k at) in
          told_within M closed m k x stands path there

  pub whole_least : IsLeast admits whole
  whole_least = record { closed = whole_closed; least = whole_within }
