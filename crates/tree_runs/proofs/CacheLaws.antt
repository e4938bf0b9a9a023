-- What is read of a cache's text.
use Rattle.std.proofs.Common.{◌≡◌, ◌∙◌, ℕ, Option, Some, None, List, sym}
use Rattle.std.specs.Prelude.{IfSome, option_map}
use Rattle.tree_runs.specs.Reports.{Entries, CacheSpelled, IsDecoded}

pub decoded-of : (bytes : List ℕ) (o : Option Entries) → IfSome o (λ c. CacheSpelled c bytes) → ((c : Entries) → CacheSpelled c bytes → o ≡ Some c) → IsDecoded bytes (option_map (λ c. c) o)
decoded-of bytes None spelled only = λ c s. (let e = only c s in cc)
decoded-of bytes (Some cache) spelled only = spelled

pub text-once : (cache : Entries) (a b : List ℕ) → CacheSpelled cache a → CacheSpelled cache b → a ≡ b
text-once cache a b s t = s.1 ∙ sym t.1
