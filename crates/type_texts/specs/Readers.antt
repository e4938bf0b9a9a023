-- Readers made of readers: one after another, of another value, kept by a test, by the byte in front, of all the bytes.
use Rattle.std.specs.Prelude.{ℕ, Bool, List, [], ◌∷◌, length, Option, Some, None, ◌==◌, if◌then◌else◌}
use Rattle.gv_bytes.specs.Reading.{◌>>=◌}

abbrev pub Reader : Type 0 → Type 0
Reader A = List ℕ → Option (A × List ℕ)

abbrev pub seq_at : {A B : Type 0} → Reader A → Reader B → Reader (A × B)
seq_at a b bytes = a bytes >>= λ x. b x.1 >>= λ y. Some ((x.0, y.0), y.1)

abbrev pub via_at : {A B : Type 0} → (A → B) → Reader A → Reader B
via_at to a bytes = a bytes >>= λ x. Some (to x.0, x.1)

-- of another value, where there is one
abbrev pub part_at : {A B : Type 0} → (A → Option B) → Reader A → Reader B
part_at to a bytes = a bytes >>= λ x. to x.0 >>= λ y. Some (y, x.1)

abbrev pub kept_at : {A : Type 0} → (A → Bool) → Reader A → Reader A
kept_at test a bytes = a bytes >>= λ x. if test x.0 then Some x else None

abbrev pub tagged_at : {A : Type 0} → (ℕ → Reader A) → Reader A
tagged_at body [] = None
tagged_at body (c ∷ rest) = body c rest

abbrev pub whole_at : {A : Type 0} → Reader A → List ℕ → Option A
whole_at a bytes = a bytes >>= λ x. if length x.1 == 0 then Some x.0 else None
