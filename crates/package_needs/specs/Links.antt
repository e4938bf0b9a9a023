-- The types of a package as a graph: from each to the type that it names alone.
use Rattle.std.specs.Prelude.{◌≡◌, ◌↔◌, ℕ, Bool, List, [], length, Option, Some, None, slice_get, option_and_then, option_map}
use Rattle.std.specs.List.{cons_option}
use Rattle.std.specs.HashMap.{HashMap}
use Rattle.object_order.specs.Views.{number_in}
use Rattle.go_tree.specs.declared.tree.NodeRef.{NodeRef}
use Rattle.object_order.specs.declared.spot.Entry.{Entry}
use Rattle.object_order.specs.Spots.{World}
use Rattle.package_needs.specs.declared.ends.Link.{Link}
use Rattle.package_needs.specs.Follow.{given, next, Peels, IsEnd}

-- the number of the declaration to which a bare type goes on
abbrev pub StepsBy : World → List Entry → Bool → NodeRef → Option ℕ → Type 0
StepsBy w entries far at (Some n) = (e : Entry) × (t : NodeRef) × (slice_get entries n ≡ Some e) × (given far e ≡ Some t) × (next w far at ≡ Some t)
StepsBy w entries far at None = next w far at ≡ None

-- the number of the declaration, where it gives a type
abbrev pub numbered : Bool → List Entry → ℕ → Option ℕ
numbered far entries n = option_and_then (λ (e : Entry). option_map (λ t. n) (given far e)) (slice_get entries n)

-- the number of the declaration of what a node denotes
abbrev pub named_in : {S : Type 0} → List Entry → HashMap (ℕ × ℕ) ℕ S → Bool → Option NodeRef → Option ℕ
named_in entries numbers far o = option_and_then (λ (u : NodeRef). option_and_then (λ n. numbered far entries n) (number_in numbers (u.file, u.node))) o

-- where the type of a declaration goes on, if it declares one
abbrev pub IsLink : World → List Entry → Bool → Entry → Option Link → Type 0
IsLink w entries far e (Some l) = (t : NodeRef) × (given far e ≡ Some t) × Peels w t l.bare × StepsBy w entries far l.bare l.to
IsLink w entries far e None = given far e ≡ None

pub record AreLinks (w : World) (entries : List Entry) (far : Bool) (links : List (Option Link)) : Type 0 where
  pub size : length links ≡ length entries
  pub each : (k : ℕ) (e : Entry) → slice_get entries k ≡ Some e → (l : Option Link) × (slice_get links k ≡ Some l) × IsLink w entries far e l

abbrev pub row_of : Option Link → List ℕ
row_of o = cons_option (option_and_then (λ (l : Link). l.to) o) []

-- the links lead from a declaration to this type, at which they end
pub data Arrives (links : List (Option Link)) : ℕ → NodeRef → Type 0 where
  at_end : {k : ℕ} {x : NodeRef} (l : Link) → slice_get links k ≡ Some (Some l) → l.to ≡ None → l.bare ≡ x → Arrives links k x
  goes_on : {k : ℕ} {x : NodeRef} (l : Link) (m : ℕ) → slice_get links k ≡ Some (Some l) → l.to ≡ Some m → Arrives links m x → Arrives links k x

abbrev pub cell : List (Option NodeRef) → ℕ → Option NodeRef
cell table k = option_and_then (λ (o : Option NodeRef). o) (slice_get table k)

-- what a link says, where the links before it are known
abbrev pub ended_to : List (Option NodeRef) → NodeRef → Option ℕ → Option NodeRef
ended_to table bare (Some m) = cell table m
ended_to table bare None = Some bare

abbrev pub ended : List (Option NodeRef) → Option Link → Option NodeRef
ended table o = option_and_then (λ (l : Link). ended_to table l.bare l.to) o

abbrev pub link_at : List (Option Link) → ℕ → Option Link
link_at links k = option_and_then (λ (o : Option Link). o) (slice_get links k)

-- for each declaration where its links end
abbrev pub AreArrivals : List (Option Link) → List (Option NodeRef) → Type 0
AreArrivals links table = (k : ℕ) (x : NodeRef) → (cell table k ≡ Some x) ↔ Arrives links k x

-- for each declaration of a type where that type ends
abbrev pub AreEnds : World → List Entry → Bool → List (Option NodeRef) → Type 0
AreEnds w entries far table = (k : ℕ) (e : Entry) (t : NodeRef) → slice_get entries k ≡ Some e → given far e ≡ Some t → IsEnd w far t (cell table k)
