-- The analyzer of a number has one list of findings over a package.
use Rattle.std.proofs.Common.{◌≡◌, ◌↔◌, ℕ, Bool, true, false, if◌then◌else◌, List, [], ◌∷◌, Option, Some, None, slice_get, refl, sym, ap, ◌∙◌, subst}
use Rattle.std.specs.Prelude.{codes}
use Rattle.std.specs.List.{Contains}
use Rattle.std.specs.Option.{option_map_or}
use Rattle.package_objects.specs.Declares.{part}
use Rattle.go_tree.specs.declared.tree.Node.{Node}
use Rattle.go_tree.specs.declared.tree.NodeRef.{NodeRef}
use Rattle.typed_marks.specs.declared.item.Item.{Item}
use Rattle.typed_marks.specs.Meanings.{Meaning}
use Rattle.unit_read.specs.Units.{Unit, node_at, nodes_at}
use Rattle.analysis_core.specs.AnalyzerNames.{analyzer_numbered}
use Rattle.analysis_core.specs.declared.analyzer_name.AnalyzerName.{AnalyzerName}
use Rattle.analysis_core.specs.declared.analyzer_name.AnalyzerName.TheVariants as a
use Rattle.analysis_core.specs.declared.diagnostic.Diagnostic.{Diagnostic}
use Rattle.analysis_core.proofs.OrderLemmas.{order_total}
use Rattle.analysis_core.proofs.OneLemmas.{one_in_order}
use Rattle.findings.specs.Reported.{IsReported, AreFindings}
use Rattle.bind.specs.Denoting.{IsUndeclared}
use Rattle.handed_facts.specs.Handed.{Named}
use Rattle.vet_never.proofs.OneLemmas.{one_text}
use Rattle.vet_printf.proofs.OneLemmas as printing
use Rattle.vet_simple.specs.Assigning.{IsSelfAssigned}
use Rattle.vet_simple.specs.Bools.{IsBoolFound}
use Rattle.vet_simple.specs.NilFunctions.{IsNilCompared}
use Rattle.vet_simple.specs.RuneTexts.{gives_rune, rune_callee, rune_operand, rune_found, rune_texts, IsRuneText}
use Rattle.vet_simple.specs.StructTags.{IsTagFault}
use Rattle.vet_simple.specs.Unused.{IsUnused}
use Rattle.vet_locks.specs.CopyLocks.{IsLockCopy}
use Rattle.vet_flow.specs.Unreachable.{IsUnreachable}
use Rattle.vet_suite.specs.Free.{IsFree}
use Rattle.vet_suite.specs.Suite.{AreFreeRuneTexts, FoundOf, FoundIf, FoundBy, FactsOf, FactsIf, FactsBy}

module _ (u : Unit) (marks : Item → Meaning) where
  one_of : (Of : Unit → (Item → Meaning) → NodeRef → Node → Diagnostic → Type 0) (xs ys : List Diagnostic) → AreFindings Of u marks xs → AreFindings Of u marks ys → xs ≡ ys
  one_of Of xs ys one other = one_in_order order_total (IsReported Of u marks) xs ys one other

  same_flag : (P : Type 0) (b c : Bool) → (b ≡ true) ↔ P → (c ≡ true) ↔ P → b ≡ c
  same_flag P true true one other = refl
  same_flag P true false one other = sym (other.1 (one.0 refl))
  same_flag P false true one other = one.1 (other.0 refl)
  same_flag P false false one other = refl

  -- flags that say the same of the nodes of a package
  flags_same : (paths : List (List ℕ)) (free other : NodeRef → Bool) → IsFree paths u (codes "rune") free → IsFree paths u (codes "rune") other → (at : NodeRef) (node : Node) → node_at u at ≡ Some node → free at ≡ other at
  flags_same paths free other one two at node there =
      same_flag (IsUndeclared one.sources at (codes "rune")) (free at) (other at) (one.each one.sources one.are at node there) (two.each one.sources one.are at node there)

  -- of a node only its own flag counts
  rune_same : (free other : NodeRef → Bool) (at : NodeRef) (node : Node) → free at ≡ other at → rune_texts free u marks at node ≡ rune_texts other u marks at node
  rune_same free other at node same = ap (λ (b : Bool). rune_texts (λ x. b) u marks at node) same

  rune_moved : (free other : NodeRef → Bool) (d : Diagnostic) → ((at : NodeRef) (node : Node) → node_at u at ≡ Some node → rune_texts free u marks at node ≡ rune_texts other u marks at node) → IsReported (IsRuneText free) u marks d → IsReported (IsRuneText other) u marks d
  rune_moved free other d same r = record {
    at = r.at;
    node = r.node;
    stands = r.stands;
    is = subst (λ (l : List Diagnostic). Contains l d) (same r.at r.node r.stands) r.is;
  }

  rune_over : (free other : NodeRef → Bool) (found : List Diagnostic) → ((at : NodeRef) (node : Node) → node_at u at ≡ Some node → rune_texts free u marks at node ≡ rune_texts other u marks at node) → AreFindings (IsRuneText free) u marks found → AreFindings (IsRuneText other) u marks found
  rune_over free other found same are = record {
    each = λ d there. rune_moved free other d same (are.each d there);
    every = λ d is. are.every d (rune_moved other free d (λ at node there. sym (same at node there)) is);
    rises = are.rises;
  }

  -- whether something is reported of a node doesn't rest on its flag
  none_either : (free other : NodeRef → Bool) (at : NodeRef) (node : Node) → rune_texts free u marks at node ≡ [] → rune_texts other u marks at node ≡ []
  none_either free other at node none = by (gives_rune u marks at.file node) (part node 0) none where
    last : (callee operand : ℕ) (o : Option Node) → option_map_or (rune_found free u marks at node callee operand) o [] ≡ [] → option_map_or (rune_found other u marks at node callee operand) o [] ≡ []
    last callee operand None e = refl
    last callee operand (Some inner) e = absurd (cc)

    later : (callee : ℕ) (o : Option ℕ) → option_map_or (rune_operand free u marks at node callee) o [] ≡ [] → option_map_or (rune_operand other u marks at node callee) o [] ≡ []
    later callee None e = refl
    later callee (Some operand) e = last callee operand (slice_get (nodes_at u at.file) operand) e

    by : (b : Bool) (o : Option ℕ) → (if b then option_map_or (rune_callee free u marks at node) o [] else []) ≡ [] → (if b then option_map_or (rune_callee other u marks at node) o [] else []) ≡ []
    by false o e = refl
    by true None e = refl
    by true (Some callee) e = later callee (part node 1) e

  rune_alike : (paths : List (List ℕ)) (xs ys : List Diagnostic) (one : AreFreeRuneTexts paths u marks xs) (other : AreFreeRuneTexts paths u marks ys) (at : NodeRef) (node : Node) → node_at u at ≡ Some node
      → rune_texts one.free u marks at node ≡ rune_texts other.free u marks at node
  rune_alike paths xs ys one other at node there = by (rune_texts one.free u marks at node) refl where
    some : (d : Diagnostic) (ds : List Diagnostic) → rune_texts one.free u marks at node ≡ d ∷ ds → rune_texts one.free u marks at node ≡ [] → ⊥
    some d ds e none = (let f : d ∷ ds ≡ [] = sym e ∙ none in cc)

    by : (ds : List Diagnostic) → rune_texts one.free u marks at node ≡ ds → rune_texts one.free u marks at node ≡ rune_texts other.free u marks at node
    by [] e = e ∙ sym (none_either one.free other.free at node e)
    by (d ∷ ds) e =
        rune_same one.free other.free at node
        (flags_same paths one.free other.free (one.is_free at node there (some d ds e)) (other.is_free at node there (λ none. some d ds e (none_either other.free one.free at node none))) at node there)

  one_rune : (paths : List (List ℕ)) (xs ys : List Diagnostic) → AreFreeRuneTexts paths u marks xs → AreFreeRuneTexts paths u marks ys → xs ≡ ys
  one_rune paths xs ys one other = one_of (IsRuneText other.free) xs ys (rune_over one.free other.free xs (rune_alike paths xs ys one other) one.are) other.are

  one_named : (name : AnalyzerName) (paths : List (List ℕ)) (given : List Named) (xs ys : List Diagnostic) → FoundOf name u marks paths given xs → FoundOf name u marks paths given ys → xs ≡ ys
  one_named a.Assign paths given xs ys one other = one_of IsSelfAssigned xs ys one other
  one_named a.Bools paths given xs ys one other = one_of IsBoolFound xs ys one other
  one_named a.CopyLocks paths given xs ys one other = one_of IsLockCopy xs ys one other
  one_named a.CtrlFlow paths given xs ys one other = one ∙ sym other
  one_named a.NilFunc paths given xs ys one other = one_of IsNilCompared xs ys one other
  one_named a.Printf paths given xs ys one other = printing.one_found u marks given xs ys one other
  one_named a.StringIntConv paths given xs ys one other = one_rune paths xs ys one other
  one_named a.StructTag paths given xs ys one other = one_of (IsTagFault paths) xs ys one other
  one_named a.Unreachable paths given xs ys one other = one_of IsUnreachable xs ys one other
  one_named a.UnusedResult paths given xs ys one other = one_of IsUnused xs ys one other

  one_if : (o : Option AnalyzerName) (paths : List (List ℕ)) (given : List Named) (xs ys : List Diagnostic) → FoundIf o u marks paths given xs → FoundIf o u marks paths given ys → xs ≡ ys
  one_if None paths given xs ys one other = one ∙ sym other
  one_if (Some name) paths given xs ys one other = one_named name paths given xs ys one other

  pub one_by : (number : ℕ) (paths : List (List ℕ)) (given : List Named) (xs ys : List Diagnostic) → FoundBy number u marks paths given xs → FoundBy number u marks paths given ys → xs ≡ ys
  unfolding FoundBy
  one_by number paths given xs ys one other = one_if (analyzer_numbered number) paths given xs ys one other

  -- ---- facts

  facts_named : (name : AnalyzerName) (given : List Named) (x y : List ℕ) → FactsOf name u marks given x → FactsOf name u marks given y → x ≡ y
  facts_named a.Assign given x y one other = one ∙ sym other
  facts_named a.Bools given x y one other = one ∙ sym other
  facts_named a.CopyLocks given x y one other = one ∙ sym other
  facts_named a.CtrlFlow given x y one other = one_text u marks given x y one other
  facts_named a.NilFunc given x y one other = one ∙ sym other
  facts_named a.Printf given x y one other = printing.one_text u marks given x y one other
  facts_named a.StringIntConv given x y one other = one ∙ sym other
  facts_named a.StructTag given x y one other = one ∙ sym other
  facts_named a.Unreachable given x y one other = one ∙ sym other
  facts_named a.UnusedResult given x y one other = one ∙ sym other

  facts_if : (o : Option AnalyzerName) (given : List Named) (x y : List ℕ) → FactsIf o u marks given x → FactsIf o u marks given y → x ≡ y
  facts_if None given x y one other = one ∙ sym other
  facts_if (Some name) given x y one other = facts_named name given x y one other

  pub one_facts : (number : ℕ) (given : List Named) (x y : List ℕ) → FactsBy number u marks given x → FactsBy number u marks given y → x ≡ y
  unfolding FactsBy
  one_facts number given x y one other = facts_if (analyzer_numbered number) given x y one other
