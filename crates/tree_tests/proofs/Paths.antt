-- Paths of two segments and of three, for the tests' trees.
use Rattle.std.proofs.Common.{◌≡◌, ℕ, ◌<◌, ◌≤◌, List, [], ◌∷◌, ◌++◌, length, codes, get_or, true, false, ◌==◌, refl, ap, sym, ◌∙◌, arith}
use Rattle.std.proofs.lemmas.Bool.{false≢true}
use Rattle.std.specs.List.{list_all}
use Rattle.gv_base.specs.Paths.{IsPath, IsSegment, is_segment_byte, joined}

-- bytes of a segment that don't begin with a dot are one
pub segment-of : (s : List ℕ) → list_all is_segment_byte s ≡ true → 0 < length s → (get_or s 0 46 == 46) ≡ false → IsSegment s
segment-of s each some dotless = record {
  each = each;
  some = some;
  not_here = λ e. let t : (get_or s 0 46 == 46) ≡ true = ap (λ l. get_or l 0 46 == 46) e in false≢true (sym dotless ∙ t);
  not_above = λ e. let t : (get_or s 0 46 == 46) ≡ true = ap (λ l. get_or l 0 46 == 46) e in false≢true (sym dotless ∙ t);
}

pub path-of_two : (s a b : List ℕ) → s ≡ joined a (b ∷ []) → IsSegment a → IsSegment b → length s ≤ 1024 → IsPath s
path-of_two s a b parts one two most = record {
  first = a;
  others = b ∷ [];
  first_lawful = one;
  others_lawful = (two, tt);
  parts = parts;
  most = most;
}

pub path-of_three : (s a b c : List ℕ) → s ≡ joined a (b ∷ c ∷ []) → IsSegment a → IsSegment b → IsSegment c → length s ≤ 1024 → IsPath s
path-of_three s a b c parts one two three most = record {
  first = a;
  others = b ∷ c ∷ [];
  first_lawful = one;
  others_lawful = (two, (three, tt));
  parts = parts;
  most = most;
}
