use Rattle.std.proofs.Common.{◌≡◌, ℕ, ◌<◌, ◌≤◌, List, [], ◌∷◌, length, true, refl, ap, arith, codes}
use Rattle.std.specs.List.{list_all}
use Rattle.gv_base.specs.Paths.{IsPath, IsSegment, is_segment_byte, joined}
use Rattle.gv_base.proofs.PathFacts.{path-of_segment}
use Rattle.run_cases.proofs.trees.put.Goals as goal

long_segment : (s : List ℕ) → list_all is_segment_byte s ≡ true → 2 < length s → IsSegment s
long_segment s each long = record {
  each = each;
  some = omega (arith, long);
  not_here = λ e. let n : length s ≡ 1 = ap length e in omega (arith, long, n);
  not_above = λ e. let n : length s ≡ 2 = ap length e in omega (arith, long, n);
}

directory : (d : List ℕ) → list_all is_segment_byte d ≡ true → length d ≡ 1 → (d ≡ codes "." → ⊥) → IsSegment d
directory d each short named = record {
  each = each;
  some = omega (arith, short);
  not_here = named;
  not_above = λ e. let n : length d ≡ 2 = ap length e in omega (arith, short, n);
}

-- a path in a directory
under : (d s : List ℕ) → IsSegment d → list_all is_segment_byte s ≡ true → 2 < length s → length (joined d (s ∷ [])) ≤ 1024 → IsPath (joined d (s ∷ []))
under d s lawful each long short = record { first = d; others = s ∷ []; first_lawful = lawful; others_lawful = (long_segment s each long, tt); parts = refl; most = short }

in_a : IsSegment (codes "a")
in_a = directory (codes "a") refl refl (λ e. cc)

in_b : IsSegment (codes "b")
in_b = directory (codes "b") refl refl (λ e. cc)

in_c : IsSegment (codes "c")
in_c = directory (codes "c") refl refl (λ e. cc)

pub put-requires : goal.put-requires
put-requires g = path-of_segment (codes "a.go") refl (omega arith) (omega arith)

pub put-requires-in-text-2 : goal.put-requires-in-text-2
put-requires-in-text-2 g = under (codes "a") (codes "a.go") in_a refl (omega arith) (omega arith)

pub put-requires-in-text-3 : goal.put-requires-in-text-3
put-requires-in-text-3 g = path-of_segment (codes "b.go") refl (omega arith) (omega arith)

pub put-requires-in-text-4 : goal.put-requires-in-text-4
put-requires-in-text-4 g = under (codes "b") (codes "b.go") in_b refl (omega arith) (omega arith)

pub put-requires-in-text-5 : goal.put-requires-in-text-5
put-requires-in-text-5 g = under (codes "b") (codes "c.go") in_b refl (omega arith) (omega arith)

pub put-requires-in-text-6 : goal.put-requires-in-text-6
put-requires-in-text-6 g = under (codes "c") (codes "c.go") in_c refl (omega arith) (omega arith)

pub put-requires-in-text-7 : goal.put-requires-in-text-7
put-requires-in-text-7 g = path-of_segment (codes "go.mod") refl (omega arith) (omega arith)

pub put-requires-in-text-8 : goal.put-requires-in-text-8
put-requires-in-text-8 g = record {
  first = codes "std";
  others = codes "b" ∷ codes "b.go" ∷ [];
  first_lawful = long_segment (codes "std") refl (omega arith);
  others_lawful = (in_b, (long_segment (codes "b.go") refl (omega arith), tt));
  parts = refl;
  most = omega arith;
}
