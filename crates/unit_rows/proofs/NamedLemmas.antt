-- The first defined type of each name at package level.
use Rattle.std.proofs.Common.{◌≡◌, ℕ, ◌+◌, ◌≤◌, ◌&&◌, nat_eq, Bool, true, false, if◌then◌else◌, List, [], ◌∷◌, ◌++◌, take, slice_get, Option, Some, None, refl, sym, ap, ◌∙◌, arith}
use Rattle.std.specs.HashMap.{HashMap}
use Rattle.std.specs.Str.{bytes_eq}
use Rattle.std.proofs.lemmas.Bool.{ne_eqb}
use Rattle.std.proofs.lemmas.List.{take_more}
use Rattle.std.proofs.lemmas.Option.{slice_get_within, get_or_from_slice_get}
use Rattle.std.proofs.lemmas.Slice.Eq.{bytes_eq-Decides}
use denote.Ref.{Bor}
use Rattle.go_tree.specs.declared.tree.NodeRef.{NodeRef}
use Rattle.type_model.specs.declared.term.TypeName.{TypeName}
use Rattle.type_model.specs.Tables.{is_same_name}
use Rattle.unit_read.specs.Index.{found}
use Rattle.unit_read.specs.Places.{put_at}
use Rattle.unit_read.specs.Subjects.{top_name}
use Rattle.unit_read.specs.Units.{Unit, name_at, is_top, place_in, defined, type_name, named_by}
use Rattle.unit_read.proofs.TypeLemmas.{counted}
use Rattle.unit_rows.specs.Drafts.{AddsType}
use Rattle.unit_rows.proofs.TableLemmas.{first_put, not_put}

named_push : (u : Unit) (name : TypeName) (xs : List NodeRef) (x : NodeRef) → named_by u name (xs ++ x ∷ []) ≡ put_at (named_by u name xs) (is_same_name (type_name u x) name) x
named_push u name [] x = by (is_same_name (type_name u x) name) where
  by : (b : Bool) → (if b then Some x else None) ≡ put_at None b x
  by true = refl
  by false = refl
named_push u name (y ∷ xs) x = by (named_push u name xs x) (is_same_name (type_name u y) name) where
  by : named_by u name (xs ++ x ∷ []) ≡ put_at (named_by u name xs) (is_same_name (type_name u x) name) x
      → (b : Bool) → (if b then Some y else named_by u name (xs ++ x ∷ [])) ≡ put_at (if b then Some y else named_by u name xs) (is_same_name (type_name u x) name) x
  by more true = refl
  by more false = more

-- a type has a name at package level exactly where it is declared there under it
top_same : (u : Unit) (x : NodeRef) (q : List ℕ) → is_same_name (type_name u x) (top_name u q) ≡ (is_top u x && bytes_eq (name_at u x) q)
top_same u x q =
    ap (λ (b : Bool). b && (bytes_eq (name_at u x) q && nat_eq (if is_top u x then 0 else place_in x (defined u) 1) 0)) ((bytes_eq-Decides u.path u.path).1 refl)
    ∙ by (is_top u x) (bytes_eq (name_at u x) q) (place_in x (defined u) 1) (counted x (defined u) 1) where
      by : (t b : Bool) (p : ℕ) → 1 ≤ p → (b && nat_eq (if t then 0 else p) 0) ≡ (t && b)
      by true true p low = refl
      by true false p low = refl
      by false true p low = ne_eqb p 0 (λ same. omega arith)
      by false false p low = refl

kept : {S : Type 0} (u : Unit) (old new : HashMap (Bor (List ℕ)) NodeRef S) (x : NodeRef) → AddsType u old new x → (q : List ℕ)
    → found new q ≡ put_at (found old q) (is_top u x && bytes_eq (name_at u x) q) x
kept u old new x adds q = by (is_top u x) refl where
  by : (t : Bool) → is_top u x ≡ t → found new q ≡ put_at (found old q) (t && bytes_eq (name_at u x) q) x
  by true e = adds.top e q ∙ first_put (found old q) (bytes_eq (name_at u x) q) x
  by false e = ap (λ (m : HashMap (Bor (List ℕ)) NodeRef _). found m q) (adds.inner e) ∙ sym (not_put (found old q) x)

pub named_more : {S : Type 0} (u : Unit) (list : List NodeRef) (k : ℕ) (x : NodeRef) (old new : HashMap (Bor (List ℕ)) NodeRef S) → slice_get list k ≡ Some x
    → ((q : List ℕ) → found old q ≡ named_by u (top_name u q) (take k list)) → AddsType u old new x → (q : List ℕ) → found new q ≡ named_by u (top_name u q) (take (k + 1) list)
named_more u list k x old new there before adds q =
    let low = slice_get_within list k x there in
    kept u old new x adds q
    ∙ (ap (λ (o : Option NodeRef). put_at o (is_top u x && bytes_eq (name_at u x) q) x) (before q)
    ∙ (ap (λ (b : Bool). put_at (named_by u (top_name u q) (take k list)) b x) (sym (top_same u x q))
    ∙ (sym (named_push u (top_name u q) (take k list) x)
    ∙ ap (named_by u (top_name u q)) (sym (take_more list k x low ∙ ap (λ (y : NodeRef). take k list ++ y ∷ []) (get_or_from_slice_get list k x x there))))))
