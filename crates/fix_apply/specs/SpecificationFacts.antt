-- Worked examples of the definitions.
use Rattle.std.specs.Prelude.{◌≡◌, [], ◌∷◌, codes, refl}
use Rattle.fix_apply.specs.Rewriting.{rewritten}

replaced : rewritten (codes "abcd") (record { start = 1; end = 3; text = codes "XYZ" } ∷ []) ≡ codes "aXYZd"
replaced = refl

inserted_twice : rewritten (codes "ab") (record { start = 2; end = 2; text = codes "!" } ∷ record { start = 0; end = 0; text = codes "_" } ∷ []) ≡ codes "_ab!"
inserted_twice = refl

inserted_behind : rewritten (codes "abc") (record { start = 0; end = 2; text = codes "X" } ∷ record { start = 2; end = 2; text = codes "Y" } ∷ []) ≡ codes "XYc"
inserted_behind = refl

removed : rewritten (codes "x") (record { start = 0; end = 1; text = [] } ∷ []) ≡ []
removed = refl

unchanged : rewritten (codes "x") [] ≡ codes "x"
unchanged = refl
