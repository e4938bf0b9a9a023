-- What the table's nodes tell of the tree.
use Rattle.std.proofs.Common.{◌≡◌, ℕ, ◌<◌, true, Option, Some, None, List, [], ◌∷◌, ◌++◌, length, slice_get, map, refl, sym, ap, ◌∙◌, subst, arith}
use Rattle.std.specs.List.{Contains}
use Rattle.std.proofs.lemmas.Option.{slice_get_within}
use Rattle.package_faces.specs.Faces.{Face}
use Rattle.export_text.specs.Faces.{IsFaceText}
use Rattle.action_graph.specs.declared.kit.LoadInput.{LoadInput}
use Rattle.action_graph.specs.Judging.{Judged, Tells}
use Rattle.action_graph.specs.Judging.Judged.{Accepts, Refuses}
use Rattle.action_graph.proofs.JudgingLaws.{tells_accepted, tells_refused}
use Rattle.gv_driver.specs.declared.tree.PackageTexts.{PackageTexts}
use Rattle.gv_driver.specs.declared.node.Answer.{Answer}
use Rattle.gv_driver.specs.declared.node.Answer.TheVariants.{Accepted, Refused}
use Rattle.gv_driver.specs.declared.node.Node.{Node}
use Rattle.gv_driver.specs.Whole.{Checked}
use Rattle.gv_driver.specs.Whole.Checked.{checked}
use Rattle.gv_driver.specs.Loads.{IsLoadOf}
use Rattle.gv_driver.specs.Tables.{answer_text, answer_in, is_good, export_part, accepted_in, IsGood, IsRightNode, AreRight, IsReady}
use Rattle.gv_driver.proofs.Places.{element}
use Rattle.gv_driver.proofs.WholeLaws.{same_pack, shown, unique, judged-of}

-- the answer that is read from an outcome text has that text
pub read-again : (judged : Judged) (text : List ℕ) → Tells judged text → answer_text (answer_in text) ≡ text
read-again (Accepts i) text (e, s, h) = subst (λ (t : List ℕ). answer_text (answer_in t) ≡ t) (sym h) refl
read-again (Refuses list) text (e, s, h) = subst (λ (t : List ℕ). answer_text (answer_in t) ≡ t) (sym h) refl

pub answer-good : (a : Answer) (i : Face) → Tells (Accepts i) (answer_text a) → is_good a ≡ true
answer-good (Accepted export) i t = refl
answer-good (Refused marks) i t = let r = tells_refused (Accepts i) marks t in let e : Accepts i ≡ Refuses r.0 = r.1 in cc

-- a node's answer tells what comes of its package
pub node-tells : {only : ℕ} (tree : List PackageTexts) (table : List (Option Node)) (q : ℕ) (n : Node) (v : Judged) → AreRight tree only table → slice_get table q ≡ Some (Some n) → Checked tree q v → Tells v (answer_text n.answer)
node-tells tree table q n v right at is =
    let r = right.node q n at in
    let j = judged-of tree q r.load (answer_text n.answer) r.of r.outcome in
    subst (λ (w : Judged). Tells w (answer_text n.answer)) (unique tree q j.0 v j.1 is) j.2

pub record GoodNode (tree : List PackageTexts) (table : List (Option Node)) (q : ℕ) : Type 0 where
  pub node : Node
  pub other : PackageTexts
  pub face : Face
  pub at : slice_get table q ≡ Some (Some node)
  pub other_at : slice_get tree q ≡ Some other
  pub good : Checked tree q (Accepts face)
  pub spelled : IsFaceText face (export_part node.answer)

good-case : (tree : List PackageTexts) (table : List (Option Node)) (q : ℕ) (n : Node) (other : PackageTexts) (a : Answer) (v : Judged) → n.answer ≡ a → slice_get table q ≡ Some (Some n) → slice_get tree q ≡ Some other
    → Checked tree q v → Tells v (answer_text a) → is_good a ≡ true → GoodNode tree table q
good-case tree table q n other (Accepted export) v is at other_at good tells yes_it =
    let t = tells_accepted v export tells in
    record {
      node = n;
      other = other;
      face = t.0;
      at = at;
      other_at = other_at;
      good = subst (λ (w : Judged). Checked tree q w) t.1 good;
      spelled = subst (λ (b : Answer). IsFaceText t.0 (export_part b)) (sym is) t.2;
    }
good-case tree table q n other (Refused marks) v is at other_at good tells yes_it = cc

good-at : {only : ℕ} (tree : List PackageTexts) (table : List (Option Node)) (q : ℕ) (o : Option (Option Node)) → AreRight tree only table → slice_get table q ≡ o → accepted_in o ≡ true → GoodNode tree table q
good-at tree table q None right at a = cc
good-at tree table q (Some None) right at a = cc
good-at tree table q (Some (Some n)) right at a =
    let r = right.node q n at in
    let j = judged-of tree q r.load (answer_text n.answer) r.of r.outcome in
    good-case tree table q n r.of.pack n.answer j.0 refl at r.of.at j.1 j.2 a

pub good-node : {only : ℕ} (tree : List PackageTexts) (table : List (Option Node)) (q : ℕ) → AreRight tree only table → IsGood table q → GoodNode tree table q
good-node tree table q right a = good-at tree table q (slice_get table q) right refl a

done-case : (tree : List PackageTexts) (table : List (Option Node)) (p : ℕ) (o : Option (Option Node)) → slice_get table p ≡ o → p < length table → (slice_get table p ≡ Some None → ⊥)
    → (n : Node) × (slice_get table p ≡ Some (Some n))
done-case tree table p None at within none = let e = element table p within in let f : None ≡ Some e.0 = sym at ∙ e.1 in cc
done-case tree table p (Some None) at within none = absurd (none at)
done-case tree table p (Some (Some n)) at within none = (n, at)

-- where nothing is ready, a sound package whose imports are accepted is done
pub settled : (tree : List PackageTexts) (table : List (Option Node)) → length table ≡ length tree → ((p : ℕ) → IsReady tree table p → ⊥)
    → (p : ℕ) (pack : PackageTexts) → slice_get tree p ≡ Some pack → pack.sound ≡ true → ((q : ℕ) → Contains pack.imports q → IsGood table q) → (n : Node) × (slice_get table p ≡ Some (Some n))
settled tree table size none p pack at sound all =
    let l : p < length tree = slice_get_within tree p pack at in
    let within : p < length table = omega (arith, l, size) in
    done-case tree table p (slice_get table p) refl within
    (λ waits. none p (record { pack = pack; at = at; waits = waits; sound = sound; accepted = all }))

good-is : {only : ℕ} (tree : List PackageTexts) (table : List (Option Node)) (q : ℕ) (n : Node) (i : Face) → AreRight tree only table → slice_get table q ≡ Some (Some n) → Checked tree q (Accepts i) → IsGood table q
good-is tree table q n i right at is = ap accepted_in at ∙ answer-good n.answer i (node-tells tree table q n (Accepts i) right at is)

-- where nothing is ready, each package of which something comes is done
pub complete : {only : ℕ} (tree : List PackageTexts) (table : List (Option Node)) → AreRight tree only table → ((p : ℕ) → IsReady tree table p → ⊥) → (p : ℕ) (v : Judged) → Checked tree p v
    → (n : Node) × (slice_get table p ≡ Some (Some n))
complete tree table right none _ _ (checked p pack numbers env v at sound around good judges) =
    settled tree table right.size none p pack at sound (λ q c.
    let i = shown numbers env q around.size (around.imports q (pack, at, c)) in
    let n = complete tree table right none q (Accepts i.0) (good q i.0 i.1) in
    good-is tree table q n.0 i.0 right n.1 (good q i.0 i.1))

pub accepted-good : {only : ℕ} (tree : List PackageTexts) (table : List (Option Node)) → AreRight tree only table → ((p : ℕ) → IsReady tree table p → ⊥) → (q : ℕ) (i : Face) → Checked tree q (Accepts i) → IsGood table q
accepted-good tree table right none q i is =
    let n = complete tree table right none q (Accepts i) is in
    good-is tree table q n.0 i right n.1 is

-- where nothing is ready, each load is done
pub load-done : {only : ℕ} (tree : List PackageTexts) (table : List (Option Node)) → AreRight tree only table → ((p : ℕ) → IsReady tree table p → ⊥) → (p : ℕ) (load : LoadInput) → IsLoadOf tree p load
    → (n : Node) × (slice_get table p ≡ Some (Some n))
load-done tree table right none p load is =
    settled tree table right.size none p is.pack is.at is.sound (λ q c.
    let i = shown is.numbers is.faces q is.are.around.size (is.are.around.imports q (is.pack, is.at, c)) in
    accepted-good tree table right none q i.0 (is.are.good q i.0 i.1))
