-- What is known of a package.
use Rattle.std.proofs.Common.{◌≡◌, ℕ, Bool, List, [], slice_get, Option, Some, None, option_and_then, refl, sym, ap, ◌∙◌, subst}
use Rattle.std.specs.HashMap.{HashMap}
use Rattle.std.specs.Option.{option_map_or}
use Rattle.go_tree.specs.declared.tree.NodeRef.{NodeRef}
use Rattle.object_order.specs.declared.spot.Entry.{Entry}
use Rattle.object_order.specs.Names.{AreNamed}
use Rattle.object_order.specs.Views.{number_in, entry_in, group_in}
use Rattle.std.specs.Global.{Vec}
use Rattle.go_tree.specs.declared.bindings.Object.{Object}
use Rattle.go_tree.specs.declared.tree.FileTree.{FileTree}
use Rattle.object_order.specs.declared.needed.Needed.{Needed}
use Rattle.object_order.specs.Cases.{NeedsOf}
use Rattle.object_order.specs.Names.{IsNamed}
use Rattle.object_order.specs.Orders.{IsNeedOrder}
use Rattle.object_order.specs.Spots.{World}
use Rattle.object_order.specs.Views.{node_in, meant_in, kin_in}
use Rattle.package_objects.specs.Declares.{declared}
use Rattle.package_needs.specs.Keys.{up, AreMentions}
use Rattle.package_needs.specs.Kin.{AreMethods}
use Rattle.package_needs.specs.Worlds.{AreDenoted, IsFirstOf, AreEntries, IsOrderOf, AreOwners, AreNeedsOf}

-- the numbers of names lead to their declarations
pub entries_are : {S : Type 0} (entries : List Entry) (numbers : HashMap (ℕ × ℕ) ℕ S) → AreNamed entries numbers → AreEntries entries (entry_in entries numbers)
entries_are entries numbers named = record {
  has = λ k e at. (let (n, is) = named.has k e at in let (d, d_at, same) = named.«is» n e.name is in (d, ap (λ o. option_and_then (λ n. slice_get entries n) o) is ∙ d_at));
  «is» = λ at e is. from at e (number_in numbers (at.file, at.node)) refl is;
} where
  from : (at : NodeRef) (e : Entry) (o : Option ℕ) → number_in numbers (at.file, at.node) ≡ o → option_and_then (λ n. slice_get entries n) o ≡ Some e → IsFirstOf entries at e
  from at e None none is = absurd (cc)
  from at e (Some n) some is = (let (d, d_at, same) = named.«is» n at some in record {
    number = n;
    here = is;
    named = ap (λ (x : Entry). x.name) (one d d_at is) ∙ same;
    first = λ j x x_at x_is. named.first n j x (ap (λ (q : NodeRef). number_in numbers (q.file, q.node)) x_is ∙ some) x_at;
  }) where
    one : (d : Entry) → slice_get entries n ≡ Some d → slice_get entries n ≡ Some e → e ≡ d
    one d p q = cc

-- the world that lists and numbers give
abbrev pub world_by : {S : Type 0} → List FileTree → List (Vec (Option NodeRef)) → List Entry → HashMap (ℕ × ℕ) ℕ S → List (Vec NodeRef) → World
world_by trees meant entries numbers groups = record { node = node_in trees; meant = meant_in meant; entry = entry_in entries numbers; kin = kin_in groups numbers }

pub order_is : {S : Type 0} (uses : List (NodeRef × Object)) (trees : List FileTree) (elsewhere : NodeRef → Bool) (rows first second third meant : List (Vec (Option NodeRef))) (entries : List Entry) (numbers : HashMap (ℕ × ℕ) ℕ S)
    (blank groups : List (Vec NodeRef)) (order : List Needed) → blank ≡ [] → AreDenoted uses trees rows → first ≡ rows → second ≡ rows → third ≡ meant → entries ≡ declared trees first → AreNamed entries numbers
    → AreMethods (world_by trees second entries numbers blank) (kin_in groups numbers) → AreMentions (world_by trees second entries numbers blank) elsewhere (up trees) (meant_in meant)
    → IsNeedOrder (NeedsOf (world_by trees third entries numbers groups)) (IsNamed entries) order → IsOrderOf uses trees elsewhere order
order_is uses trees elsewhere rows first second third meant entries numbers blank groups order none denoted one two three are named methods mentions ordered = record {
  rows = rows;
  names = world_by trees second entries numbers blank;
  world = world_by trees third entries numbers groups;
  «is» = record {
    denoted = denoted;
    nodes = refl;
    denotes = ap (λ (r : List (Vec (Option NodeRef))). meant_in r) two;
    entries = subst (λ (es : List Entry). AreEntries es (entry_in entries numbers)) declared_is (entries_are entries numbers named);
    bare = bare;
    same_nodes = refl;
    same_entries = refl;
    mentions = subst (λ (r : List (Vec (Option NodeRef))). AreMentions (world_by trees second entries numbers blank) elsewhere (up trees) (meant_in r)) (sym three) mentions;
    methods = methods;
  };
  ordered = subst (λ (es : List Entry). IsNeedOrder (NeedsOf (world_by trees third entries numbers groups)) (IsNamed es) order) declared_is ordered;
} where
  declared_is : entries ≡ declared trees rows
  declared_is = are ∙ ap (λ (r : List (Vec (Option NodeRef))). declared trees r) one

  by_number : (o : Option ℕ) → option_map_or (λ n. group_in [] n) o [] ≡ []
  by_number None = refl
  by_number (Some n) = refl

  bare : (at : NodeRef) → kin_in blank numbers at ≡ []
  bare at = ap (λ (groups : List (Vec NodeRef)). kin_in groups numbers at) none ∙ by_number (number_in numbers (at.file, at.node))

pub needs_are : {S : Type 0} (uses : List (NodeRef × Object)) (trees : List FileTree) (elsewhere : NodeRef → Bool) (rows first second third meant : List (Vec (Option NodeRef))) (entries : List Entry) (numbers : HashMap (ℕ × ℕ) ℕ S)
    (blank groups : List (Vec NodeRef)) (order : List Needed) (owners : List (Vec (Option NodeRef))) → blank ≡ [] → AreDenoted uses trees rows → first ≡ rows → second ≡ rows → third ≡ meant → entries ≡ declared trees first
    → AreNamed entries numbers → AreMethods (world_by trees second entries numbers blank) (kin_in groups numbers) → AreMentions (world_by trees second entries numbers blank) elsewhere (up trees) (meant_in meant)
    → IsNeedOrder (NeedsOf (world_by trees third entries numbers groups)) (IsNamed entries) order → AreOwners (world_by trees second entries numbers blank) trees owners → AreNeedsOf uses trees elsewhere order owners
unfolding order_is
needs_are uses trees elsewhere rows first second third meant entries numbers blank groups order owners none denoted one two three are named methods mentions ordered owned =
    let whole : IsOrderOf uses trees elsewhere order = order_is uses trees elsewhere rows first second third meant entries numbers blank groups order none denoted one two three are named methods mentions ordered in
    record { rows = rows; names = world_by trees second entries numbers blank; world = world_by trees third entries numbers groups; «is» = whole.«is»; ordered = whole.ordered; owned = owned }
