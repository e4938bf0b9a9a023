-- What is known over a table, as it grows and as some of it is taken or put.
use Rattle.std.proofs.Common.{◌≡◌, ℕ, zero, suc, ◌++◌, Bool, true, false, cond, List, [], ◌∷◌, length, slice_get, Option, Some, None, IfSome, refl, sym, ap, ◌∙◌, subst}
use Rattle.std.specs.HashMap.{HashMap, get_by_text, UpdatesBy}
use Rattle.std.specs.Prelude.{String}
use Rattle.std.specs.Str.{bytes_eq}
use Rattle.std.specs.String.{string_bytes, string_eq}
use Rattle.std.proofs.lemmas.Map.Text.{hash_map_updates_text}
use Rattle.std.proofs.lemmas.Option.{same_Some}
use Rattle.export_text.specs.Faces.{IsFaceText}
use Rattle.package_faces.specs.declared.interface.Interface.{Interface}
use Rattle.package_faces.specs.Faces.{Face}
use Rattle.package_faces.proofs.FaceLaws.{face_stays, interface_grows}
use Rattle.type_model.specs.declared.table.TypeTable.{TypeTable}
use Rattle.type_model.specs.Tables.{Extends, count, terms_in, types_in}
use Rattle.package_faces.specs.Interfaces.{faces_of, IsInterfaceIn, AreInterfacesIn}
use Rattle.action_graph.specs.Judging.{AreInterfaces}
use Rattle.std.specs.List.{All}
use Rattle.std.proofs.lemmas.List.Elements.{All-head, All-tail}
use Rattle.go_kit.specs.declared.kept.Known.{Known}
use Rattle.action_graph.specs.Nodes.{Named}
use Rattle.go_kit.specs.Keeping.{IsKnown, AreKnown}
use Rattle.go_kit.specs.Returning.{AreRead}

pub known_grows : (old new : TypeTable) (k : Known) → Extends (terms_in old) (terms_in new) → IsKnown old k → IsKnown new k
known_grows old new k grown is = record {
  within = interface_grows (terms_in old) (terms_in new) grown k.face is.within;
  spelled = subst (λ (f : Face). IsFaceText f k.text) (sym (face_stays (terms_in old) (terms_in new) grown k.face is.within)) is.spelled;
}

pub all_grow : {A S : Type 0} (old new : TypeTable) (known : HashMap (String A) Known S) → Extends (terms_in old) (terms_in new) → AreKnown old known → AreKnown new known
all_grow old new known grown are = record { each = λ path k e. known_grows old new k grown (are.each path k e) }

pub all_less : {A S : Type 0} (t : TypeTable) (old new : HashMap (String A) Known S) → ((q : List ℕ) (k : Known) → get_by_text new q ≡ Some k → get_by_text old q ≡ Some k) → AreKnown t old → AreKnown t new
all_less t old new less are = record { each = λ path k e. are.each path k (less path k e) }

no_some : {A : Type 0} (a : A) → None ≡ Some a → ⊥
no_some a e = absurd cc

-- what is left where one is taken
left-by : (b : Bool) (w : Option Known) (k : Known) → cond b None w ≡ Some k → w ≡ Some k
left-by true w k e = absurd (no_some k e)
left-by false w k e = e

pub left : {A S : Type 0} (old new : HashMap (String A) Known S) (path : List ℕ) → UpdatesBy string_eq (λ s. bytes_eq path (string_bytes s)) old new None
    → (q : List ℕ) (k : Known) → get_by_text new q ≡ Some k → get_by_text old q ≡ Some k
left old new path h q k e = left-by (bytes_eq path q) (get_by_text old q) k (sym (hash_map_updates_text path old new None h q) ∙ e)

-- one more
more-by : (t : TypeTable) (b : Bool) (one k : Known) (w : Option Known) → IsKnown t one → (w ≡ Some k → IsKnown t k) → cond b (Some one) w ≡ Some k → IsKnown t k
more-by t true one k w is old e = subst (λ (x : Known). IsKnown t x) (same_Some one k e) is
more-by t false one k w is old e = old e

pub one_more : {A S : Type 0} (t : TypeTable) (old new : HashMap (String A) Known S) (path : String A) (one : Known) → UpdatesBy string_eq (λ s. bytes_eq (string_bytes path) (string_bytes s)) old new (Some one)
    → IsKnown t one → AreKnown t old → AreKnown t new
one_more t old new path one h is are = record {
  each = λ q k e.
      more-by t (bytes_eq (string_bytes path) q) one k (get_by_text old q) is (are.each q k) (sym (hash_map_updates_text (string_bytes path) old new (Some one) h q) ∙ e);
}

-- what was kept of a path was read of the text, where it is the same
pub was_known : (t : TypeTable) (k : Known) (text : List ℕ) (r : Option Interface) → IsKnown t k → IfSome r (λ face. (face ≡ k.face) × (k.text ≡ text))
    → IfSome r (λ face. IsKnown t (record { text = text; face = face }))
was_known t k text None is same = tt
was_known t k text (Some face) is same =
    subst (λ (x : List ℕ). IsKnown t (record { text = x; face = face })) same.1
    (subst (λ (i : Interface). IsKnown t (record { text = k.text; face = i })) (sym same.0) is)

-- ---- the interfaces of a load

stays : {X : Type 0} (xs ys : List X) (n : ℕ) (x : X) → slice_get xs n ≡ Some x → slice_get (xs ++ ys) n ≡ Some x
stays [] ys n x e = absurd (no_some x e)
stays (y ∷ xs) ys zero x e = e
stays (y ∷ xs) ys (suc n) x e = stays xs ys n x e

at_end : {X : Type 0} (xs : List X) (x : X) → slice_get (xs ++ x ∷ []) (length xs) ≡ Some x
at_end [] x = refl
at_end (y ∷ xs) x = at_end xs x

pub read_before : (t : TypeTable) (env : List Named) (old new : List Interface) (face : Interface) → old ≡ new ++ face ∷ [] → AreRead t env old → AreRead t env new
read_before t env old new face is read n pair i there at = read n pair i there (ap (λ l. slice_get l n) is ∙ stays new (face ∷ []) n i at)

pub read_last : (t : TypeTable) (env : List Named) (old new : List Interface) (face : Interface) (n : ℕ) (pair : Named) → old ≡ new ++ face ∷ [] → n ≡ length new → slice_get env n ≡ Some pair → AreRead t env old
    → IsKnown t (record { text = pair.1; face = face })
read_last t env old new face n pair is count there read =
    read n pair face there (ap (λ l. slice_get l n) is ∙ (ap (λ k. slice_get (new ++ face ∷ []) k) count ∙ at_end new face))

-- the interfaces of a load are what the texts beside them spell
pub read_all : (t : TypeTable) (env : List Named) (faces : List Interface) → AreInterfacesIn (count t) (types_in t) faces → AreInterfaces env (faces_of (types_in t) faces) → AreRead t env faces
read_all t env faces within are n pair face there at = by env faces n within.each are there at where
  by : (env : List Named) (faces : List Interface) (n : ℕ) → All (IsInterfaceIn (count t) (types_in t)) faces → AreInterfaces env (faces_of (types_in t) faces) → slice_get env n ≡ Some pair → slice_get faces n ≡ Some face
      → IsKnown t (record { text = pair.1; face = face })
  by [] faces n within are there at = absurd (no_some pair there)
  by (x ∷ env) [] n within are there at = absurd (no_some face at)
  by (x ∷ env) (i ∷ faces) zero within are there at =
      let same : i ≡ face = same_Some i face at in
      let its : x ≡ pair = same_Some x pair there in
      subst (λ (p : Named). IsKnown t (record { text = p.1; face = face })) its
      (subst (λ (j : Interface). IsKnown t (record { text = x.1; face = j })) same
      (record { within = All-head (IsInterfaceIn (count t) (types_in t)) i faces within; spelled = are.0 }))
  by (x ∷ env) (i ∷ faces) (suc n) within are there at = by env faces n (All-tail (IsInterfaceIn (count t) (types_in t)) i faces within) are.2 there at

-- both hold over the table that comes back
pub known_after : {A S : Type 0} (t : TypeTable) (after : Option TypeTable) (known : HashMap (String A) Known S) → IfSome after (λ n. Extends (terms_in t) (terms_in n)) → AreKnown t known → IfSome after (λ n. AreKnown n known)
known_after t None known extends are = tt
known_after t (Some n) known extends are = all_grow t n known extends are

pub read_after : (t : TypeTable) (after : Option TypeTable) (env input : List Named) (faces : List Interface) → env ≡ input → IfSome after (λ n. Extends (terms_in t) (terms_in n))
    → AreInterfacesIn (count t) (types_in t) faces → AreInterfaces input (faces_of (types_in t) faces) → IfSome after (λ n. AreRead n env faces)
read_after t None env input faces same extends within are = tt
read_after t (Some n) env input faces same extends within are =
    λ k pair face there at. known_grows t n (record { text = pair.1; face = face }) extends (read_all t input faces within are k pair face (ap (λ l. slice_get l k) (sym same) ∙ there) at)
