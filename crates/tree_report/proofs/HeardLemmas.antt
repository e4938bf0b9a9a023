-- What was read of a file serves where the file is the same.
use Rattle.std.proofs.Common.{◌≡◌, ℕ, ◌+◌, ◌<◌, ◌≤◌, Bool, true, false, Option, Some, None, is_some, List, [], ◌∷◌, ◌++◌, length, take, map, slice_get, get_or, option_map, refl, sym, ap, ◌∙◌, subst, arith}
use Rattle.std.specs.Prelude.{◌&&◌}
use Rattle.std.specs.Str.{bytes_eq}
use Rattle.std.proofs.lemmas.Bool.{and_parts}
use Rattle.std.proofs.lemmas.Slice.Eq.{bytes_eq-Decides}
use Rattle.std.proofs.lemmas.List.{length-map, take_more, take_all}
use Rattle.std.proofs.lemmas.Option.{get_or_from_slice_get, same_Some, slice_get_read, slice_get-map, slice_get_within, slice_get-get_or}
use Rattle.gv_base.specs.Files.{Entry}
use Rattle.go_tree.specs.declared.head.Head.{Head}
use Rattle.parse_file.specs.declared.verdict.FileVerdict.{FileVerdict}
use Rattle.tree_report.specs.Lines.{refusal_of}
use Rattle.tree_report.specs.Formed.{Holds}
use Rattle.tree_report.specs.Telling.{IsTold, AreTold}
use Rattle.tree_report.specs.declared.formed.Formed.{Formed}
use Rattle.tree_report.proofs.ToldLemmas.{told_none}

-- what was told of a file that isn't refused
pub told_kept : (files : List Entry) (heads : List (Option Head)) (refusals : List (Option FileVerdict)) → AreTold files (length files) heads refusals → (at : ℕ) (entry : Entry) (head copy : Option Head)
    → slice_get files at ≡ Some entry → slice_get refusals at ≡ Some None → slice_get heads at ≡ Some head → copy ≡ head → IsTold entry (record { head = copy; refusal = None; tree = None })
told_kept files heads refusals are at entry head copy here refused headed same =
    let low : at < length files = slice_get_within files at entry here in
    let size : length are.verdicts ≡ length files = are.size in
    let v : Option FileVerdict = get_or are.verdicts at None in
    let known : slice_get are.verdicts at ≡ Some v = slice_get-get_or are.verdicts at None (omega (arith, low, size)) in
    record {
      verdict = v;
      read = are.read at v known entry here;
      head = same ∙ are.heads_are at head headed entry v here known;
      refusal = same_Some None (refusal_of v)
          (sym refused ∙ (ap (λ (l : List (Option FileVerdict)). slice_get l at) are.refusals_are ∙ (slice_get-map refusal_of are.verdicts at ∙ ap (option_map refusal_of) known)));
    }

none_of : {X : Type 0} (o : Option X) (b : Bool) → b ≡ is_some o → b ≡ false → o ≡ None
none_of None b is h = refl
none_of (Some x) b is h = absurd cc

-- a file of this path and these bytes
pub file_same : (entry : Entry) (path text : List ℕ) → (bytes_eq entry.0 path && bytes_eq entry.1 text) ≡ true → entry ≡ (path, text)
file_same (p, t) path text same =
    let parts = and_parts (bytes_eq p path) (bytes_eq t text) same in
    ap (λ (q : List ℕ). (q, t)) ((bytes_eq-Decides p path).0 parts.0) ∙ ap (λ (u : List ℕ). (path, u)) ((bytes_eq-Decides t text).0 parts.1)

-- the same of what stands at a place
pub told_place : (files : List Entry) (heads : List (Option Head)) (refusals : List (Option FileVerdict)) → AreTold files (length files) heads refusals → (at : ℕ) (entry wanted : Entry) (refusal : Option FileVerdict) (head copy : Option Head) (some : Bool)
    → at < length files → entry ≡ get_or files at entry → entry ≡ wanted → refusal ≡ get_or refusals at refusal → some ≡ is_some refusal → some ≡ false → head ≡ get_or heads at head → copy ≡ head
    → IsTold wanted (record { head = copy; refusal = None; tree = None })
told_place files heads refusals are at entry wanted refusal head copy some low entry_is same refusal_is some_is off head_is copied =
    let size : length are.verdicts ≡ length files = are.size in
    let headed : length heads ≡ length files = are.headed in
    let refused : length refusals ≡ length are.verdicts = ap length are.refusals_are ∙ length-map are.verdicts refusal_of in
    let none : refusal ≡ None = none_of refusal some some_is off in
    told_kept files heads refusals are at wanted head copy
    (slice_get_read files (length files) at entry refl low entry_is ∙ ap Some same)
    (slice_get_read refusals (length refusals) at refusal refl (omega (arith, low, size, refused)) refusal_is ∙ ap Some none)
    (slice_get_read heads (length heads) at head refl (omega (arith, low, headed)) head_is) copied

-- nothing was read
pub heard_none : (files : List Entry) (heads : List (Option Head)) (refusals : List (Option FileVerdict)) → files ≡ [] → heads ≡ [] → refusals ≡ [] → AreTold files (length files) heads refusals
heard_none files heads refusals f h r = subst (λ (n : ℕ). AreTold files n heads refusals) (sym (ap length f)) (told_none files heads refusals h r)

-- the files of a report were
pub heard_form : (tree files : List Entry) (f : Formed) → files ≡ tree → Holds tree f → AreTold files (length files) f.heads.items f.refusals.items
heard_form tree files f same holds = subst (λ (t : List Entry). AreTold t (length t) f.heads.items f.refusals.items) (sym same) (record {
  verdicts = holds.0;
  size = holds.1.0.read.size;
  read = λ n v there e here. holds.1.0.read.each n e v here there;
  headed = holds.1.0.headed.size;
  heads_are = λ n h there e v here said. holds.1.0.headed.each n e v h here said there;
  refusals_are = holds.1.1;
})

-- ---- files, one more at a time

pub file-more : (tree : List Entry) (k : ℕ) (e : Entry) (old new : List Entry) → slice_get tree k ≡ Some e → old ≡ take k tree → new ≡ old ++ e ∷ [] → new ≡ take (k + 1) tree
file-more tree k e old new at so_far grown =
    let more : take (k + 1) tree ≡ take k tree ++ e ∷ [] = take_more tree k e (slice_get_within tree k e at) ∙ ap (λ (x : Entry). take k tree ++ x ∷ []) (get_or_from_slice_get tree k e e at) in
    grown ∙ (ap (λ (l : List Entry). l ++ e ∷ []) so_far ∙ sym more)

pub file-all : (tree : List Entry) (k : ℕ) (list : List Entry) → length tree ≤ k → list ≡ take k tree → list ≡ tree
file-all tree k list most is = is ∙ take_all k tree most
