-- A tree has one reading.
use Rattle.std.proofs.Common.{◌≡◌, ◌<◌, Bool, true, false, Option, Some, None, List, length, refl, sym, ap, ◌∙◌, subst, arith}
use Rattle.std.proofs.lemmas.Option.{slice_get_within}
use Rattle.gv_base.specs.Files.{Entry}
use Rattle.go_tree.specs.declared.head.Head.{Head}
use Rattle.parse_file.specs.declared.verdict.FileVerdict.{FileVerdict}
use Rattle.parse_file.proofs.VerdictLaws.{one_verdict}
use Rattle.import_graph.specs.declared.pack.Package.{Package}
use Rattle.import_graph.specs.Packages.{ArePackages}
use Rattle.import_graph.proofs.ListLemmas.{same-list}
use Rattle.import_graph.proofs.OneLemmas.{one-answer}
use Rattle.gv_driver.proofs.Places.{element}
use Rattle.tree_report.specs.Reading.{IsRead, AreRead, AreHeads}

differ : (b : Bool) → b ≡ true → b ≡ false → ⊥
differ true h k = cc
differ false h k = cc

verdict-once : (e : Entry) (v w : Option FileVerdict) → IsRead e v → IsRead e w → v ≡ w
verdict-once e None None one two = refl
verdict-once e None (Some w) one two = absurd (differ _ two.0 one)
verdict-once e (Some v) None one two = absurd (differ _ one.0 two)
verdict-once e (Some v) (Some w) one two = ap Some (one_verdict e.1 v w one.1 two.1)

pub verdicts-once : (tree : List Entry) (a b : List (Option FileVerdict)) → AreRead tree a → AreRead tree b → a ≡ b
verdicts-once tree a b one two = same-list a b (one.size ∙ sym two.size)
    (λ k v at.
    let l : k < length a = slice_get_within a k v at in
    let size_a : length a ≡ length tree = one.size in
    let size_b : length b ≡ length tree = two.size in
    let e = element tree k (omega (arith, l, size_a)) in
    let w = element b k (omega (arith, l, size_a, size_b)) in
    w.1 ∙ ap Some (verdict-once e.0 w.0 v (two.each k e.0 w.0 e.1 w.1) (one.each k e.0 v e.1 at)))

pub heads-once : (tree : List Entry) (verdicts : List (Option FileVerdict)) (a b : List (Option Head)) → length verdicts ≡ length tree → AreHeads tree verdicts a → AreHeads tree verdicts b → a ≡ b
heads-once tree verdicts a b size one two = same-list a b (one.size ∙ sym two.size)
    (λ k h at.
    let l : k < length a = slice_get_within a k h at in
    let size_a : length a ≡ length tree = one.size in
    let size_b : length b ≡ length tree = two.size in
    let e = element tree k (omega (arith, l, size_a)) in
    let v = element verdicts k (omega (arith, l, size_a, size)) in
    let g = element b k (omega (arith, l, size_a, size_b)) in
    g.1 ∙ ap Some (two.each k e.0 v.0 g.0 e.1 v.1 g.1 ∙ sym (one.each k e.0 v.0 h e.1 v.1 at)))

-- the same verdicts, heads and packages
pub record Same (v w : List (Option FileVerdict)) (h g : List (Option Head)) (p q : List Package) : Type 0 where
  pub verdicts : v ≡ w
  pub heads : h ≡ g
  pub packages : p ≡ q

pub reading-once : (tree : List Entry) (v w : List (Option FileVerdict)) (h g : List (Option Head)) (p q : List Package) → AreRead tree v → AreRead tree w → AreHeads tree v h → AreHeads tree w g
    → ArePackages tree h p → ArePackages tree g q → Same v w h g p q
reading-once tree v w h g p q read other headed told packed found =
    let verdicts : v ≡ w = verdicts-once tree v w read other in
    let heads : h ≡ g = heads-once tree w h g other.size (subst (λ x. AreHeads tree x h) verdicts headed) told in
    record {
      verdicts = verdicts;
      heads = heads;
      packages = one-answer tree g p q (subst (λ x. ArePackages tree x p) heads packed) found;
    }
