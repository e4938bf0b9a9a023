-- Lists of declared functions.
use Rattle.std.proofs.Common.{◌≡◌, ◌++◌, ℕ, zero, suc, Bool, false, List, [], ◌∷◌, map, length, Option, Some, None, option_map, slice_get, refl, sym, ap, ◌∙◌}
use Rattle.std.specs.Option.{option_map_or}
use Rattle.go_tree.specs.declared.tree.Node.{Node}
use Rattle.go_tree.specs.declared.tree.NodeKind.{NodeKind}
use Rattle.go_tree.specs.declared.tree.NodeKind.TheVariants as k
use Rattle.go_tree.specs.declared.tree.NodeRef.{NodeRef}
use Rattle.object_order.specs.Spots.{place}
use Rattle.unit_read.specs.Units.{Unit}
use Rattle.own_functions.specs.declared.functions.Declared.{Declared}
use Rattle.own_functions.specs.Functions.{Named, declares, name_by, named_at, function_by, name_in, node_in, functions, names, nth_name}
use Rattle.own_functions.specs.InCode.{named_in, declared_name}
use Rattle.own_functions.proofs.NameLemmas.{map_twice}

pub pushed : (old new : List Declared) (d : Declared) → new ≡ old ++ d ∷ [] → map named_in new ≡ map named_in old ++ named_in d ∷ []
pushed old new d e = ap (λ l. map named_in l) e ∙ over old where
  over : (xs : List Declared) → map named_in (xs ++ d ∷ []) ≡ map named_in xs ++ named_in d ∷ []
  over [] = refl
  over (x ∷ xs) = ap (λ l. named_in x ∷ l) (over xs)

pub pushed_named : (old new : List Declared) (d : Declared) (f n : ℕ) (o : Option (List ℕ)) → new ≡ old ++ d ∷ [] → o ≡ Some d.name → d.at ≡ place f n → map named_in new ≡ map named_in old ++ option_map_or (named_at f n) o []
pushed_named old new d f n o e is at =
    pushed old new d e ∙ ap (λ (l : List Named). map named_in old ++ l) (ap (λ (p : NodeRef). (d.name, p) ∷ []) at ∙ sym (ap (λ (x : Option (List ℕ)). option_map_or (named_at f n) x []) is))

-- other nodes declare none
unnamed : (u : Unit) (f n : ℕ) (at : Node) (kind : NodeKind) → declares kind ≡ false → name_by u f n at kind ≡ None
unnamed u f n at k.FuncDecl e = absurd (cc)
unnamed u f n at k.MethodDecl e = absurd (cc)
unnamed u f n at _ e = refl

append_none : (xs : List Named) → xs ≡ xs ++ []
append_none [] = refl
append_none (x ∷ xs) = ap (λ l. x ∷ l) (append_none xs)

pub unchanged : (u : Unit) (f n : ℕ) (at : Node) (old : List Declared) (b : Bool) → b ≡ declares at.kind → b ≡ false → map named_in old ≡ map named_in old ++ function_by u f n at
unchanged u f n at old b told out =
    append_none (map named_in old)
    ∙ ap (λ (l : List Named). map named_in old ++ l) (sym (ap (λ (o : Option (List ℕ)). option_map_or (named_at f n) o []) (unnamed u f n at at.kind (sym told ∙ out))))

-- the names of the list are those of the package
pub names_are : (u : Unit) (list : List Declared) → map named_in list ≡ functions u → map declared_name list ≡ names u
names_are u list e = sym (map_twice named_in name_in list) ∙ ap (λ l. map name_in l) e

abbrev at_of : Declared → NodeRef
at_of d = d.at

nth_mapped : (list : List Declared) (i : ℕ) → option_map at_of (slice_get list i) ≡ option_map node_in (slice_get (map named_in list) i)
nth_mapped [] i = refl
nth_mapped (d ∷ list) zero = refl
nth_mapped (d ∷ list) (suc i) = nth_mapped list i

pub nth_at : (u : Unit) (list : List Declared) (i : ℕ) (o : Option NodeRef) → map named_in list ≡ functions u → o ≡ option_map (λ (d : Declared). d.at) (slice_get list i) → o ≡ option_map node_in (slice_get (functions u) i)
nth_at u list i o e is = is ∙ (nth_mapped list i ∙ ap (λ l. option_map node_in (slice_get l i)) e)

-- as many as the package has
pub size_is : (u : Unit) (list : List Declared) → map named_in list ≡ functions u → length list ≡ length (functions u)
size_is u list e = over list ∙ ap (λ l. length l) e where
  over : (xs : List Declared) → length xs ≡ length (map named_in xs)
  over [] = refl
  over (x ∷ xs) = ap (λ n. suc n) (over xs)

pub name_is : (u : Unit) (list : List Declared) (i : ℕ) (d : Declared) → map named_in list ≡ functions u → slice_get list i ≡ Some d → d.name ≡ nth_name u i
name_is u list i d e there = sym (ap (λ (l : List Named). option_map_or name_in (slice_get l i) []) (sym e) ∙ over list i there) where
  over : (xs : List Declared) (i : ℕ) → slice_get xs i ≡ Some d → option_map_or name_in (slice_get (map named_in xs) i) [] ≡ d.name
  over [] i there = absurd (cc)
  over (x ∷ xs) zero there = ap (λ (o : Option Declared). option_map_or declared_name o []) there
  over (x ∷ xs) (suc i) there = over xs i there
