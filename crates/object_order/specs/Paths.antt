-- Where a relation leads.
use Rattle.std.specs.Prelude.{List, [], ◌∷◌}

-- The relation leads from a to b by way of these in turn.
abbrev pub Path : {A : Type 0} → (A → A → Type 0) → A → List A → A → Type 0
Path r a [] b = r a b
Path r a (c ∷ via) b = r a c × Path r c via b

-- The relation leads from a to b, by one step or more.
abbrev pub Leads : {A : Type 0} → (A → A → Type 0) → A → A → Type 0
Leads {A} r a b = (via : List A) × Path r a via b
