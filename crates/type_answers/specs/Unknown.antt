-- Methods whose signatures aren't known, since what is written there is faulty. They are of their types all the same: a name selects them, and hides others.
use Rattle.std.specs.Prelude.{ℕ, ◌&&◌, Bool, true, false, if◌then◌else◌, bytes_eq, List, [], ◌∷◌, Option, Some, None, is_some}
use Rattle.std.specs.Option.{option_or, option_map_or}
use Rattle.type_model.specs.GoTypes.{GoType, GoTypes, GoSignature, From, NoType, AndType}
use Rattle.type_model.specs.Parts.{GoMethod}

-- The signature under which such a method is listed: variadic without parameters, as none is that is written.
abbrev pub no_signature : GoSignature
no_signature = From NoType NoType true

abbrev pub are_none : GoTypes → Bool
are_none NoType = true
are_none (AndType of types) = false

abbrev pub is_unknown : GoSignature → Bool
is_unknown (From params results variadic) = variadic && are_none params

-- ---- methods one after the other

-- what the first tells that tells something
abbrev pub first_told : {X Y : Type 0} → (X → Option Y) → List X → Option Y
first_told f [] = None
first_told f (x ∷ xs) = option_or (f x) (first_told f xs)

abbrev pub unknown_told : GoMethod → Option Bool
unknown_told m = if is_unknown m.of then Some true else None

-- one of the methods has no known signature
abbrev pub has_unknown : List GoMethod → Bool
has_unknown methods = is_some (first_told unknown_told methods)

abbrev pub named_told : List ℕ → GoMethod → Option Bool
named_told name m = if bytes_eq m.name name then Some (is_unknown m.of) else None

-- whether the signature of the method of this name isn't known; nothing where no method has the name
abbrev pub unknown_named : List ℕ → List GoMethod → Option Bool
unknown_named name methods = first_told (named_told name) methods

abbrev pub is_unknown_named : List ℕ → List GoMethod → Bool
is_unknown_named name methods = option_map_or (λ b. b) (unknown_named name methods) false

-- a method that isn't there is missed, whatever comes behind it; behind one of a known signature it goes on
abbrev pub stops : Option Bool → Option Bool
stops None = Some false
stops (Some b) = if b then Some true else None

abbrev pub wanted_told : List GoMethod → GoMethod → Option Bool
wanted_told set w = stops (unknown_named w.name set)

-- Methods that are wanted in turn come to one in the set without a known signature.
abbrev pub comes_to_unknown : List GoMethod → List GoMethod → Bool
comes_to_unknown set wanted = option_map_or (λ b. b) (first_told (wanted_told set) wanted) false
