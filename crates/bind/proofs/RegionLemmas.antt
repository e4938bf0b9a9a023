-- The declaration of a name with the smallest region that holds a node.
use Rattle.std.proofs.Common.{◌≡◌, ℕ, zero, suc, ◌+◌, ◌<◌, ◌≤◌, List, Option, Some, length, slice_get, refl, sym, ap, ◌∙◌, subst, inl, inr, arith}
use Rattle.std.proofs.lemmas.Option.{slice_get_within}
use Rattle.go_tree.specs.declared.bindings.Object.{Object}
use Rattle.go_tree.specs.declared.bindings.Object.TheVariants.{Universe, Import, Local, Package}
use Rattle.go_tree.specs.declared.tree.NodeRef.{NodeRef}
use Rattle.scopes.specs.Laid.{AreLaid}
use Rattle.scopes.specs.declared.scope.Named.{Named}
use Rattle.gv_base.proofs.Lists.{same_some}
use Rattle.file_uses.specs.Locals.{IsLocal, HoldsNode, DenotesLocal}
use Rattle.bind.specs.Denoting.{IsInnermost, IsUndeclared}
use Rattle.bind.specs.Imports.{IsImportName}
use Rattle.bind.specs.Regions.{Region, Everywhere, OfFile, Nodes, Holds, Within, HasRegion, IsLocalName, IsFirstOfPackage, IsFirstImport}
use Rattle.bind.specs.Sources.{Source, Sources, IsPackageName, IsEarlier, name_of, names_in}
use Rattle.bind.proofs.Orders.{nat_order}

-- a declaration that holds the node is the innermost where no later one does
the_last : (name : ℕ → Option (List ℕ)) (total : ℕ) (ds : List Named) (n : ℕ) → AreLaid ds → (k : ℕ) (d : Named) → IsLocal name total ds k d → name d.node ≡ name n → HoldsNode d n
    → ((j : ℕ) (e : Named) → k < j → IsLocal name total ds j e → name e.node ≡ name n → HoldsNode e n → ⊥) → DenotesLocal name total ds n k
the_last name total ds n laid k d local named holds none = record { d = d; region = local; named = named; holds = holds; smallest = λ j e other same it. smaller j e other same it } where
  before : (j : ℕ) (e : Named) → j < k → IsLocal name total ds j e → name e.node ≡ name n → HoldsNode e n → (e.start ≤ d.start) × (d.end ≤ e.end)
  before j e low other same it =
      let lies = laid j k e d low other.0 local.0 in
      elim lies.1 [
        | inl block ↦ absurd (local.1 (j, e, low, other.0, block, same ∙ sym named))
        | inr apart ↦ elim apart [
          | inl ended ↦ absurd (let a = it.1 in let b = holds.0 in omega arith)
          | inr inner ↦ (lies.0, (let i = inner in omega arith))
        ]
      ]

  itself : (j : ℕ) (e : Named) → j ≡ k → IsLocal name total ds j e → (e.start ≤ d.start) × (d.end ≤ e.end)
  itself j e is other =
      let same : e ≡ d = same_some (slice_get ds j) e d other.0 (ap (λ x. slice_get ds x) is ∙ local.0) in
      let start : e.start ≡ d.start = ap (λ (x : Named). x.start) same in
      let end : e.end ≡ d.end = ap (λ (x : Named). x.end) same in
      (omega arith, omega arith)

  smaller : (j : ℕ) (e : Named) → IsLocal name total ds j e → name e.node ≡ name n → HoldsNode e n → (e.start ≤ d.start) × (d.end ≤ e.end)
  smaller j e other same it = elim (nat_order j k) [
    | inl low ↦ before j e low other same it
    | inr rest ↦ elim rest [
      | inl is ↦ itself j e is other
      | inr later ↦ absurd (none j e later other same it)
    ]
  ]

-- where no declaration within a function is denoted, none of the name holds the node: of those that do, the last would be the innermost
pub none_holds : (name : ℕ → Option (List ℕ)) (total : ℕ) (ds : List Named) (n : ℕ) → AreLaid ds → ((k : ℕ) → DenotesLocal name total ds n k → ⊥)
    → (fuel k : ℕ) (d : Named) → length ds ≤ k + fuel → IsLocal name total ds k d → name d.node ≡ name n → HoldsNode d n → ⊥
none_holds name total ds n laid none zero k d high local named holds = let low : k < length ds = slice_get_within ds k d local.0 in omega arith
none_holds name total ds n laid none (suc fuel) k d high local named holds =
    none k (the_last name total ds n laid k d local named holds (λ j e later other same it. none_holds name total ds n laid none fuel j e (omega arith) other same it))

-- ---- the declaration within a function

holds_is : (r a : Region) (at : NodeRef) → r ≡ a → Holds r at → Holds a at
holds_is r a at e h = subst (λ (x : Region). Holds x at) e h

within_any : (a r b : Region) → r ≡ b → Within a b → Within a r
within_any a r b e w = subst (λ (x : Region). Within a x) (sym e) w

pub local_innermost : (p : Sources) (s : Source) (at m : NodeRef) (q : List ℕ) (k : ℕ) → slice_get p.files at.file ≡ Some s → name_of s at.node ≡ Some q
    → (a : DenotesLocal (name_of s) (length s.tree.nodes) (names_in s) at.node k) → m.file ≡ at.file → m.node ≡ a.d.node → IsInnermost p at q (Local m)
local_innermost p s at m q k there is a file node = record {
  region = Nodes m.file a.d.start a.d.end;
  has = declared;
  holds = (file, a.holds.0, a.holds.1);
  smallest = λ other r has holds. smaller other r has holds;
} where
  declared : IsLocalName p m q (Nodes m.file a.d.start a.d.end)
  declared = record { src = s; k = k; d = a.d; file = ap (λ x. slice_get p.files x) file ∙ there; local = a.region; node = sym node; named = a.named ∙ is; region = refl }

  of_local : (n : NodeRef) (r : Region) → IsLocalName p n q r → Holds r at → Within (Nodes m.file a.d.start a.d.end) r
  of_local n r b holds =
      let it : (n.file ≡ at.file) × (b.d.start ≤ at.node) × (at.node < b.d.end) = holds_is r (Nodes n.file b.d.start b.d.end) at b.region holds in
      let src : b.src ≡ s = same_some (slice_get p.files n.file) b.src s b.file (ap (λ x. slice_get p.files x) it.0 ∙ there) in
      let local : IsLocal (name_of s) (length s.tree.nodes) (names_in s) b.k b.d = subst (λ (x : Source). IsLocal (name_of x) (length x.tree.nodes) (names_in x) b.k b.d) src b.local in
      let named : name_of s b.d.node ≡ name_of s at.node = ap (λ (x : Source). name_of x b.d.node) (sym src) ∙ (b.named ∙ sym is) in
      let w = a.smallest b.k b.d local named (it.1, it.2) in
      within_any (Nodes m.file a.d.start a.d.end) r (Nodes n.file b.d.start b.d.end) b.region (file ∙ sym it.0, w.0, w.1)

  smaller : (other : Object) (r : Region) → HasRegion p other q r → Holds r at → Within (Nodes m.file a.d.start a.d.end) r
  smaller (Universe i) r b holds = absurd b
  smaller (Local n) r b holds = of_local n r b holds
  smaller (Package n) r b holds = within_any (Nodes m.file a.d.start a.d.end) r Everywhere b.region tt
  smaller (Import n) r b holds = within_any (Nodes m.file a.d.start a.d.end) r (OfFile n.file) b.region (file ∙ sym (holds_is r (OfFile n.file) at b.region holds))

-- ---- the declarations outside functions

-- no declaration of the name within a function holds the node
abbrev pub NoLocal : Sources → NodeRef → List ℕ → Type 0
NoLocal p at q = (m : NodeRef) (r : Region) → IsLocalName p m q r → Holds r at → ⊥

pub no_local : (p : Sources) (s : Source) (at : NodeRef) (q : List ℕ) → slice_get p.files at.file ≡ Some s → name_of s at.node ≡ Some q → AreLaid (names_in s)
    → ((k : ℕ) → DenotesLocal (name_of s) (length s.tree.nodes) (names_in s) at.node k → ⊥) → NoLocal p at q
no_local p s at q there is laid none m r b holds =
    let it : (m.file ≡ at.file) × (b.d.start ≤ at.node) × (at.node < b.d.end) = holds_is r (Nodes m.file b.d.start b.d.end) at b.region holds in
    let src : b.src ≡ s = same_some (slice_get p.files m.file) b.src s b.file (ap (λ x. slice_get p.files x) it.0 ∙ there) in
    let local : IsLocal (name_of s) (length s.tree.nodes) (names_in s) b.k b.d = subst (λ (x : Source). IsLocal (name_of x) (length x.tree.nodes) (names_in x) b.k b.d) src b.local in
    let named : name_of s b.d.node ≡ name_of s at.node = ap (λ (x : Source). name_of x b.d.node) (sym src) ∙ (b.named ∙ sym is) in
    none_holds (name_of s) (length s.tree.nodes) (names_in s) at.node laid none (length (names_in s)) b.k b.d (omega arith) local named (it.1, it.2)

pub package_innermost : (p : Sources) (at m : NodeRef) (q : List ℕ) → NoLocal p at q → IsPackageName p m q → ((other : NodeRef) → IsPackageName p other q → IsEarlier p other m → ⊥)
    → IsInnermost p at q (Package m)
package_innermost p at m q none named first = record {
  region = Everywhere;
  has = declared;
  holds = tt;
  smallest = λ other r has holds. smaller other r has holds;
} where
  declared : IsFirstOfPackage p m q Everywhere
  declared = record { named = named; first = first; region = refl }

  smaller : (other : Object) (r : Region) → HasRegion p other q r → Holds r at → Within Everywhere r
  smaller (Universe i) r b holds = absurd b
  smaller (Local n) r b holds = absurd (none n r b holds)
  smaller (Package n) r b holds = within_any Everywhere r Everywhere b.region tt
  smaller (Import n) r b holds = absurd (b.own m named)

pub import_innermost : (p : Sources) (at m : NodeRef) (q : List ℕ) → NoLocal p at q → ((other : NodeRef) → IsPackageName p other q → ⊥) → IsImportName p m q → m.file ≡ at.file
    → ((other : NodeRef) → other.file ≡ m.file → IsImportName p other q → other.node < m.node → ⊥) → IsInnermost p at q (Import m)
import_innermost p at m q none own named file first = record {
  region = OfFile m.file;
  has = declared;
  holds = file;
  smallest = λ other r has holds. smaller other r has holds;
} where
  declared : IsFirstImport p m q (OfFile m.file)
  declared = record { named = named; own = own; first = first; region = refl }

  smaller : (other : Object) (r : Region) → HasRegion p other q r → Holds r at → Within (OfFile m.file) r
  smaller (Universe i) r b holds = absurd b
  smaller (Local n) r b holds = absurd (none n r b holds)
  smaller (Package n) r b holds = absurd (own n b.named)
  smaller (Import n) r b holds = within_any (OfFile m.file) r (OfFile n.file) b.region (file ∙ sym (holds_is r (OfFile n.file) at b.region holds))

pub undeclared : (p : Sources) (at : NodeRef) (q : List ℕ) → NoLocal p at q → ((other : NodeRef) → IsPackageName p other q → ⊥)
    → ((other : NodeRef) → other.file ≡ at.file → IsImportName p other q → ⊥) → IsUndeclared p at q
undeclared p at q none own imports (Universe i) r b holds = absurd b
undeclared p at q none own imports (Local n) r b holds = none n r b holds
undeclared p at q none own imports (Package n) r b holds = own n b.named
undeclared p at q none own imports (Import n) r b holds = imports n (holds_is r (OfFile n.file) at b.region holds) b.named
