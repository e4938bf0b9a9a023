-- How many bytes the kinds of a wrapper take.
use Rattle.std.proofs.Common.{◌≡◌, ℕ, ◌-◌, ◌≤◌, List, ◌++◌, length, drop, Option, Some, refl, sym, ap, ◌∙◌, arith}
use Rattle.std.proofs.lemmas.List.Prefix.{front_rest}
use Rattle.gv_bytes.specs.Spelling.{natural}
use Rattle.gv_bytes.specs.Reading.{◌>>=◌, Reads, natural_at}
use Rattle.gv_bytes.proofs.Options.{rest_fits, front_len}
use Rattle.gv_bytes.proofs.Numbers.{naturals}
use Rattle.fact_codec.specs.declared.wraps.Wraps.{Wraps}
use Rattle.fact_codec.specs.Kinds.{wraps_numbered, wraps_at}

spelled : (bytes : List ℕ) (n : ℕ) (rest : List ℕ) → natural_at 7 bytes ≡ Some (n, rest) → bytes ≡ natural n ++ rest
spelled bytes n rest e = ((naturals 7 (omega arith)).takes bytes (n, rest) e).0

pub rest_short : (bytes : List ℕ) (n : ℕ) (rest : List ℕ) → natural_at 7 bytes ≡ Some (n, rest) → length rest ≤ length bytes
rest_short bytes n rest e = rest_fits bytes (natural n) rest (spelled bytes n rest e)

pub wraps_found : (bytes : List ℕ) (n : ℕ) (rest : List ℕ) (w : Wraps) → natural_at 7 bytes ≡ Some (n, rest) → wraps_numbered n ≡ Some w
    → wraps_at bytes ≡ Some (w, drop (length bytes - length rest) bytes)
unfolding wraps_at
wraps_found bytes n rest w e f =
    let whole = spelled bytes n rest e in
    let back : drop (length bytes - length rest) bytes ≡ rest = ap (λ (k : ℕ). drop k bytes) (front_len bytes (natural n) rest whole) ∙ front_rest bytes (natural n) rest whole in
    rw (e, f, back) refl
