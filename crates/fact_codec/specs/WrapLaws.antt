-- The kinds of wrappers are read as they are spelled.
use Rattle.std.proofs.Common.{◌≡◌, ℕ, zero, suc, ◌≤◌, List, ◌++◌, Some, None, refl, sym, ap, subst, ◌∙◌, arith}
use Rattle.gv_bytes.specs.Spelling.{natural}
use Rattle.gv_bytes.specs.Reading.{◌>>=◌, Reads, natural_at}
use Rattle.gv_bytes.proofs.Options.{bind_some, some_is}
use Rattle.gv_bytes.proofs.Numbers.{naturals}
use Rattle.fact_codec.specs.declared.wraps.Wraps.{Wraps}
use Rattle.fact_codec.specs.declared.wraps.Wraps.TheVariants as wraps
use Rattle.fact_codec.specs.Kinds.{wraps_number, wraps_numbered, wraps_spelling, wraps_at}

sevens : Reads (λ n. n ≤ 7) natural (natural_at 7)
sevens = naturals 7 (omega arith)

pub number_kept : (n : ℕ) (w : Wraps) → wraps_numbered n ≡ Some w → wraps_number w ≡ n
number_kept zero w e = absurd cc
number_kept (suc zero) w e = ap wraps_number (sym (some_is wraps.Print w e))
number_kept (suc (suc zero)) w e = ap wraps_number (sym (some_is wraps.Printf w e))
number_kept (suc (suc (suc zero))) w e = ap wraps_number (sym (some_is wraps.PrintPrintf w e))
number_kept (suc (suc (suc (suc zero)))) w e = ap wraps_number (sym (some_is wraps.Errorf w e))
number_kept (suc (suc (suc (suc (suc zero))))) w e = ap wraps_number (sym (some_is wraps.PrintErrorf w e))
number_kept (suc (suc (suc (suc (suc (suc zero)))))) w e = ap wraps_number (sym (some_is wraps.PrintfErrorf w e))
number_kept (suc (suc (suc (suc (suc (suc (suc zero))))))) w e = ap wraps_number (sym (some_is wraps.Each w e))
number_kept (suc (suc (suc (suc (suc (suc (suc (suc n)))))))) w e = absurd cc

pub number_back : (w : Wraps) → wraps_numbered (wraps_number w) ≡ Some w
number_back wraps.Print = refl
number_back wraps.Printf = refl
number_back wraps.PrintPrintf = refl
number_back wraps.Errorf = refl
number_back wraps.PrintErrorf = refl
number_back wraps.PrintfErrorf = refl
number_back wraps.Each = refl

number_small : (w : Wraps) → wraps_number w ≤ 7
number_small wraps.Print = omega arith
number_small wraps.Printf = omega arith
number_small wraps.PrintPrintf = omega arith
number_small wraps.Errorf = omega arith
number_small wraps.PrintErrorf = omega arith
number_small wraps.PrintfErrorf = omega arith
number_small wraps.Each = omega arith

take : (bytes : List ℕ) (x : Wraps × List ℕ) → wraps_at bytes ≡ Some x → (bytes ≡ wraps_spelling x.0 ++ x.1) × Unit {0}
unfolding wraps_at wraps_spelling
take bytes x e =
    let a = bind_some (natural_at 7 bytes) (λ n. wraps_numbered n.0 >>= λ w. Some (w, n.1)) x e in
    let b = bind_some (wraps_numbered a.0.0) (λ w. Some (w, a.0.1)) x a.2 in
    let t = sevens.takes bytes a.0 a.1 in
    subst (λ (y : Wraps × List ℕ). (bytes ≡ natural (wraps_number y.0) ++ y.1) × Unit {0}) (some_is (b.0, a.0.1) x b.2)
    (t.0 ∙ ap (λ (n : ℕ). natural n ++ a.0.1) (sym (number_kept a.0.0 b.0 b.1)), tt)

again : (w : Wraps) (rest : List ℕ) → wraps_at (wraps_spelling w ++ rest) ≡ Some (w, rest)
unfolding wraps_at wraps_spelling
again w rest = rw (sevens.again (wraps_number w) rest (number_small w), number_back w) refl

pub wraps_read : Reads (λ w. Unit {0}) wraps_spelling wraps_at
wraps_read = record { takes = take; again = λ w rest fits. again w rest }
