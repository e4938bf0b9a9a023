-- What is kept of files that were read, with one file more.
use Rattle.std.proofs.Common.{◌≡◌, ℕ, zero, suc, ◌+◌, ◌<◌, Option, Some, List, [], ◌∷◌, ◌++◌, length, map, slice_get, refl, sym, ap, ◌∙◌, subst, arith}
use Rattle.std.proofs.lemmas.Option.{same_Some, slice_get_within}
use Rattle.gv_base.specs.Files.{Entry}
use Rattle.go_tree.specs.declared.head.Head.{Head}
use Rattle.parse_file.specs.declared.verdict.FileVerdict.{FileVerdict}
use Rattle.tree_report.specs.Lines.{refusal_of}
use Rattle.tree_report.specs.Reading.{IsRead, AreRead, head_in, AreHeads}
use Rattle.tree_report.specs.Telling.{IsTold, AreTold}
use Rattle.tree_report.specs.declared.read.Told.{Told}
use Rattle.tree_report.proofs.ReadLemmas.{each-pushed, length-pushed}

front : {X : Type 0} (xs : List X) (y : X) (n : ℕ) → n < length xs → slice_get (xs ++ y ∷ []) n ≡ slice_get xs n
front [] y n low = absurd (omega (arith, low))
front (x ∷ xs) y zero low = refl
front (x ∷ xs) y (suc n) low = front xs y n (omega (arith, low))

behind : {X : Type 0} (xs : List X) (y : X) → slice_get (xs ++ y ∷ []) (length xs) ≡ Some y
behind [] y = refl
behind (x ∷ xs) y = behind xs y

mapped : {X Y : Type 0} (f : X → Y) (xs : List X) (y : X) → map f (xs ++ y ∷ []) ≡ map f xs ++ f y ∷ []
mapped f [] y = refl
mapped f (x ∷ xs) y = ap (λ (rest : List _). f x ∷ rest) (mapped f xs y)

pub told_none : (tree : List Entry) (heads : List (Option Head)) (refusals : List (Option FileVerdict)) → heads ≡ [] → refusals ≡ [] → AreTold tree 0 heads refusals
told_none tree heads refusals h r = record {
  verdicts = [];
  size = refl;
  read = λ n v there e here. absurd (let low : n < 0 = slice_get_within [] n v there in omega (arith, low));
  headed = ap length h;
  heads_are = λ n x there e v here said. absurd (let low : n < 0 = slice_get_within [] n v said in omega (arith, low));
  refusals_are = r;
}

pub told_more : (tree : List Entry) (k : ℕ) (entry : Entry) (told : Told) (heads more : List (Option Head)) (refusals others : List (Option FileVerdict)) → AreTold tree k heads refusals → slice_get tree k ≡ Some entry
    → IsTold entry told → more ≡ heads ++ told.head ∷ [] → others ≡ refusals ++ told.refusal ∷ [] → AreTold tree (k + 1) more others
told_more tree k entry told heads more refusals others are there is pushed added =
    let longer : List (Option FileVerdict) = are.verdicts ++ is.verdict ∷ [] in
    record {
      verdicts = longer;
      size = length-pushed are.verdicts longer k is.verdict refl are.size;
      read = each-pushed (λ n v. (e : Entry) → slice_get tree n ≡ Some e → IsRead e v) are.verdicts longer k is.verdict refl are.size are.read
          (λ e here. subst (λ (x : Entry). IsRead x is.verdict) (same_Some entry e (sym there ∙ here)) is.read);
      headed = length-pushed heads more k told.head pushed are.headed;
      heads_are = each-pushed (λ n h. (e : Entry) (v : Option FileVerdict) → slice_get tree n ≡ Some e → slice_get longer n ≡ Some v → h ≡ head_in e v) heads more k told.head pushed are.headed
          (λ n h stands e v here said.
          let low : n < length heads = slice_get_within heads n h stands in
          let size = are.size in
          let headed = are.headed in
          are.heads_are n h stands e v here (sym (front are.verdicts is.verdict n (omega (arith, low, size, headed))) ∙ said))
          (λ e v here said.
          let last : slice_get longer k ≡ Some is.verdict = subst (λ (n : ℕ). slice_get longer n ≡ Some is.verdict) are.size (behind are.verdicts is.verdict) in
          is.head ∙ (ap (λ (x : Entry). head_in x is.verdict) (same_Some entry e (sym there ∙ here)) ∙ ap (head_in e) (same_Some is.verdict v (sym last ∙ said))));
      refusals_are =
          added ∙ (ap (λ (list : List (Option FileVerdict)). list ++ told.refusal ∷ []) are.refusals_are
          ∙ (ap (λ (r : Option FileVerdict). map refusal_of are.verdicts ++ r ∷ []) is.refusal ∙ sym (mapped refusal_of are.verdicts is.verdict)));
    }

-- all files
pub all_read : (tree : List Entry) (heads : List (Option Head)) (refusals : List (Option FileVerdict)) (are : AreTold tree (length tree) heads refusals) → AreRead tree are.verdicts
all_read tree heads refusals are = record { size = are.size; each = λ n e v here there. are.read n v there e here }

pub all_headed : (tree : List Entry) (heads : List (Option Head)) (refusals : List (Option FileVerdict)) (are : AreTold tree (length tree) heads refusals) → AreHeads tree are.verdicts heads
all_headed tree heads refusals are = record { size = are.headed; each = λ n e v h here said there. are.heads_are n h there e v here said }
