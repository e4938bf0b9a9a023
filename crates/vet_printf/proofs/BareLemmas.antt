-- Types without members have no methods, and pointers to them have none.
use Rattle.std.proofs.Common.{◌≡◌, ◌↔◌, ◌⊎◌, ℕ, Bool, true, false, List, [], ◌∷◌, Option, Some, None, slice_get, refl, sym, ap, ◌∙◌, subst, inl, inr}
use Rattle.type_model.specs.GoTypes.{GoType, BasicType, DefinedType, PointerTo, SliceOf, ArrayOf, MapOf, ChanOf, FuncOf, StructOf, InterfaceOf, is_defined}
use Rattle.type_model.specs.Parts.{GoField}
use Rattle.type_model.specs.Declarations.{Declarations}
use Rattle.type_model.specs.declared.table.TypeTable.{TypeTable}
use Rattle.type_model.specs.Tables.{declarations_in}
use Rattle.method_sets.specs.Members.{Name, Member, fields_in, member_of}
use Rattle.method_sets.specs.Paths.{base, Begins, Selects}
use Rattle.vet_printf.specs.declared.asking.Asked.{Asked}
use Rattle.vet_printf.specs.declared.asking.Wanted.{Wanted}
use Rattle.vet_printf.specs.declared.asking.Wanted.TheVariants as w
use Rattle.vet_printf.specs.Fitting.{is_bare, Has}
use Rattle.vet_printf.specs.InTable.{ty, IsAsked}

no_member : (ds : Declarations) (name : Name) (of : GoType) (m : Member) → is_bare of ≡ true → member_of ds name of ≡ Some m → ⊥
no_member ds n (BasicType kind) m bare e = cc
no_member ds n (DefinedType name) m bare e = cc
no_member ds n (PointerTo of) m bare e = cc
no_member ds n (SliceOf of) m bare e = cc
no_member ds n (ArrayOf size of) m bare e = cc
no_member ds n (MapOf key of) m bare e = cc
no_member ds n (ChanOf direction of) m bare e = cc
no_member ds n (FuncOf of) m bare e = cc
no_member ds n (StructOf fields) m bare e = cc
no_member ds n (InterfaceOf methods) m bare e = cc

no_field : (ds : Declarations) (of : GoType) (k : ℕ) (f : GoField) → is_bare of ≡ true → slice_get (fields_in ds of) k ≡ Some f → ⊥
no_field ds (BasicType kind) k f bare e = cc
no_field ds (DefinedType name) k f bare e = cc
no_field ds (PointerTo of) k f bare e = cc
no_field ds (SliceOf of) k f bare e = cc
no_field ds (ArrayOf size of) k f bare e = cc
no_field ds (MapOf key of) k f bare e = cc
no_field ds (ChanOf direction of) k f bare e = cc
no_field ds (FuncOf of) k f bare e = cc
no_field ds (StructOf fields) k f bare e = cc
no_field ds (InterfaceOf methods) k f bare e = cc

not_defined : (of : GoType) → is_bare (base of) ≡ true → is_defined of ≡ true → ⊥
not_defined (BasicType kind) bare e = cc
not_defined (DefinedType name) bare e = cc
not_defined (PointerTo of) bare e = cc
not_defined (SliceOf of) bare e = cc
not_defined (ArrayOf size of) bare e = cc
not_defined (MapOf key of) bare e = cc
not_defined (ChanOf direction of) bare e = cc
not_defined (FuncOf of) bare e = cc
not_defined (StructOf fields) bare e = cc
not_defined (InterfaceOf methods) bare e = cc

selects_none : (ds : Declarations) (name : Name) (of : GoType) (path : List ℕ) (m : Member) → is_bare of ≡ true → Selects ds name of path m → ⊥
selects_none ds name of [] m bare s = no_member ds name of m bare (subst (λ x. member_of ds name x ≡ Some m) (sym s.leads) s.has)
selects_none ds name of (k ∷ path) m bare s = no_field ds of k s.leads.1.0 bare s.leads.1.1

from_base : (ds : Declarations) (of a : GoType) → is_bare (base of) ≡ true → Begins ds of a → is_bare a ≡ true
from_base ds of a bare begins = elim begins [
  | inl here ↦ subst (λ x. is_bare x ≡ true) here.1.0 bare
  | inr there ↦ absurd (not_defined of bare there.1.0)
]

bare_has : (ds : Declarations) (of : GoType) (wanted : Wanted) → is_bare (base of) ≡ true → Has ds of wanted → ⊥
bare_has ds of wanted bare has =
    let set = has.1 in
    selects_none ds _ set.from set.path _ (from_base ds of set.from bare set.begins) set.selects

not_one : (ds : Declarations) (of : GoType) (wanted : Wanted) → is_bare (base of) ≡ true → (false ≡ true) ↔ Has ds of wanted
not_one ds of wanted bare = ((λ e. absurd (cc)), (λ has. absurd (bare_has ds of wanted bare has)))

pub none_asked : (t : TypeTable) (n : ℕ) → is_bare (base (ty t n)) ≡ true → IsAsked t n (record { format = false; text = false; error = false })
none_asked t n bare = record {
  format = not_one (declarations_in t) (ty t n) w.Format bare;
  text = not_one (declarations_in t) (ty t n) w.Text bare;
  error = not_one (declarations_in t) (ty t n) w.Error bare;
}
