-- Methods in code.
use Rattle.std.specs.Prelude.{◌≡◌, ℕ, List, [], ◌∷◌, map}
use denote.Ref.{Bor}
use Rattle.type_model.specs.declared.term.Method.{Method}
use Rattle.type_model.specs.GoTypes.{SignatureBelow}
use Rattle.type_model.specs.Parts.{GoMethod, method_of}
use Rattle.type_model.specs.Tables.{types_in, count}
use Rattle.typed_marks.specs.declared.state.State.{State}
use Rattle.type_rules.specs.Interfaces.{Named}

abbrev pub method_in : State → Method → GoMethod
method_in s m = method_of (types_in s.table) m

-- a method that is lent stands under its name and package
abbrev pub Entry : Type 0
Entry = (Bor (List ℕ) × Bor (List ℕ)) × Bor Method

abbrev pub entry_in : State → Entry → Named × GoMethod
entry_in s e = ((e.0.0.now, e.0.1.now), method_in s e.1.now)

abbrev pub entries_in : State → List Entry → List (Named × GoMethod)
entries_in s entries = map (λ (e : Entry). entry_in s e) entries

abbrev pub listed_methods : List Entry → List Method
listed_methods entries = map (λ (e : Entry). e.1.now) entries

-- its signature is over the table
abbrev pub IsEntry : State → Entry → Type 0
IsEntry s e = (e.0.0.now ≡ e.1.now.name) × (e.0.1.now ≡ e.1.now.package) × SignatureBelow (count s.table) e.1.now.of

abbrev pub AreEntries : State → List Entry → Type 0
AreEntries s [] = Unit {0}
AreEntries s (e ∷ entries) = IsEntry s e × AreEntries s entries
