-- What holds of each diagnostic of each analyzer: it is enough that it holds of a diagnostic of a node, without a fix or with one of the two
-- that there are.
use Rattle.std.proofs.Common.{◌≡◌, ◌⊎◌, ◌&&◌, ◌==◌, ◌<◌, ℕ, zero, suc, Bool, true, false, if◌then◌else◌, List, [], ◌∷◌, ◌++◌, Option, Some, None, length, get_or, slice_get, refl, sym, subst, inl, inr, arith}
use Rattle.std.specs.List.{Contains, All}
use Rattle.std.specs.Option.{option_map_or}
use Rattle.std.proofs.lemmas.List.Elements.{Contains-append_cases, Contains-push_cases}
use Rattle.fix_apply.specs.declared.edits.Fix.{Fix}
use Rattle.go_tree.specs.declared.tree.Node.{Node}
use Rattle.go_tree.specs.declared.tree.NodeRef.{NodeRef}
use Rattle.object_order.specs.Spots.{place}
use Rattle.package_objects.specs.Declares.{gather, part}
use Rattle.typed_marks.specs.declared.item.Item.{Item}
use Rattle.typed_marks.specs.Meanings.{Meaning}
use Rattle.unit_read.specs.Units.{Unit, node_at, nodes_at}
use Rattle.analysis_core.specs.AnalyzerNames.{analyzer_numbered}
use Rattle.analysis_core.specs.declared.analyzer_name.AnalyzerName.{AnalyzerName}
use Rattle.analysis_core.specs.declared.analyzer_name.AnalyzerName.TheVariants as a
use Rattle.analysis_core.specs.declared.diagnostic.Diagnostic.{Diagnostic}
use Rattle.findings.specs.Reported.{AreFindings}
use Rattle.vet_words.specs.Diagnosing.{diagnosed, diagnosed_at}
use Rattle.vet_words.specs.Forms.{bare, is_plain_call}
use Rattle.vet_words.specs.Marked.{calls_type, is_conversion}
use Rattle.vet_words.specs.Quiet.{is_quiet}
use Rattle.vet_words.specs.Texts.{is_same}
use Rattle.vet_simple.specs.declared.chains.Chain.{Chain}
use Rattle.vet_simple.specs.Assigning.{is_assign, all_self, removal, fix_of, nth_fix, self_text, self_at, nth_self, self_pairs, self_lists, side, self_assigned, is_self_pair, IsSelfAssigned}
use Rattle.vet_simple.specs.Bools as bools
use Rattle.vet_simple.specs.NilFunctions.{IsNilCompared}
use Rattle.vet_simple.specs.RuneTexts.{rune_edits, rune_fix, rune_found, rune_operand, rune_callee, rune_parts, rune_text, rune_texts, to_text, of_integer, gives_rune, goes_into_rune, IsRuneText}
use Rattle.vet_simple.specs.StructTags.{is_struct, fault_at, name_fault, nth_fault, field_count, field_faults, node_faults, part_faults, tag_faults, IsTagFault}
use Rattle.vet_simple.specs.Unused.{IsUnused}
use Rattle.handed_facts.specs.Handed.{Named}
use Rattle.vet_locks.specs.CopyLocks.{IsLockCopy}
use Rattle.vet_printf.specs.declared.ways.Way.{Way}
use Rattle.vet_printf.specs.declared.ways.Way.TheVariants as way
use Rattle.vet_printf.specs.Calls.{param_count, way_of, IsWayFound, IsPrintFault}
use Rattle.vet_flow.specs.Unreachable.{IsUnreachable}
use Rattle.vet_suite.specs.Suite.{FoundOf, FoundIf, FoundBy}

-- of an analyzer's diagnostic of a node: of one without a fix, with one that removes a node, and with one round the operand of a call
pub record HoldsOf (u : Unit) (name : AnalyzerName) (P : Diagnostic → Type 0) : Type 0 where
  pub plain : (f n : ℕ) (text : List ℕ) (node : Node) → slice_get (nodes_at u f) n ≡ Some node → P (diagnosed u f name text None node)
  pub removed : (f n m : ℕ) (text : List ℕ) (node other : Node) → slice_get (nodes_at u f) n ≡ Some node → slice_get (nodes_at u f) m ≡ Some other → is_assign other.kind ≡ true → P (diagnosed u f name text (Some (removal u f other)) node)
  pub wrapped : (f n m : ℕ) (text : List ℕ) (node other : Node) → slice_get (nodes_at u f) n ≡ Some node → is_plain_call node.kind ≡ true → part node 1 ≡ Some m → slice_get (nodes_at u f) m ≡ Some other
      → P (diagnosed u f name text (Some (rune_edits u f other)) node)

module _ (u : Unit) (P : Diagnostic → Type 0) where
  -- it holds of all of a list
  abbrev Each : List Diagnostic → Type 0
  Each list = (d : Diagnostic) → Contains list d → P d

  none : Each []
  none d (k, low, e) = absurd (omega arith)

  one : (x : Diagnostic) → P x → Each (x ∷ [])
  one x it d there = elim (Contains-push_cases {X = Diagnostic} [] x d there) [ inl before ↦ none d before | inr same ↦ subst P same it ]

  both : (xs ys : List Diagnostic) → Each xs → Each ys → Each (xs ++ ys)
  both xs ys first second d there = elim (Contains-append_cases xs ys d there) [ inl before ↦ first d before | inr later ↦ second d later ]

  chosen : (b : Bool) (xs ys : List Diagnostic) → (b ≡ true → Each xs) → (b ≡ false → Each ys) → Each (if b then xs else ys)
  chosen true xs ys first second = first refl
  chosen false xs ys first second = second refl

  optional : {X : Type 0} (g : X → List Diagnostic) (o : Option X) → ((x : X) → o ≡ Some x → Each (g x)) → Each (option_map_or g o [])
  optional g None each = none
  optional g (Some x) each = each x refl

  gathered : (g : ℕ → List Diagnostic) (n : ℕ) → ((k : ℕ) → Each (g k)) → Each (gather g n)
  gathered g zero each = none
  gathered g (suc n) each = both (gather g n) (g n) (gathered g n each) (each n)

  -- that of a node, if it is there
  plain_at : (name : AnalyzerName) (holds : HoldsOf u name P) (f n : ℕ) (text : List ℕ) → Each (diagnosed_at u f n name text None)
  plain_at name holds f n text = optional (λ (node : Node). diagnosed u f name text None node ∷ []) (slice_get (nodes_at u f) n) (λ node there. one (diagnosed u f name text None node) (holds.plain f n text node there))

  -- ---- assign

  -- no fix, or the removal of a node that is there
  abbrev IsRemoval : ℕ → Option Fix → Type 0
  IsRemoval f fix = (fix ≡ None) ⊎ ((m : ℕ) × (other : Node) × (slice_get (nodes_at u f) m ≡ Some other) × (is_assign other.kind ≡ true) × (fix ≡ Some (removal u f other)))

  fixed_at : HoldsOf u a.Assign P → (f n : ℕ) (text : List ℕ) (fix : Option Fix) → IsRemoval f fix → Each (diagnosed_at u f n a.Assign text fix)
  fixed_at holds f n text fix is = optional (λ (node : Node). diagnosed u f a.Assign text fix node ∷ []) (slice_get (nodes_at u f) n) (λ node there. one (diagnosed u f a.Assign text fix node) (by node there is)) where
    by : (node : Node) → slice_get (nodes_at u f) n ≡ Some node → IsRemoval f fix → P (diagnosed u f a.Assign text fix node)
    by node there (inl e) = subst (λ (x : Option Fix). P (diagnosed u f a.Assign text x node)) (sym e) (holds.plain f n text node there)
    by node there (inr (m, other, at, kind, e)) = subst (λ (x : Option Fix). P (diagnosed u f a.Assign text x node)) (sym e) (holds.removed f n m text node other there at kind)

  nth_removal : (f : ℕ) (fix : Option Fix) (i : ℕ) → IsRemoval f fix → IsRemoval f (nth_fix fix i)
  nth_removal f fix zero is = is
  nth_removal f fix (suc i) is = inl refl

  removal_if : (f m : ℕ) (node : Node) (b : Bool) → slice_get (nodes_at u f) m ≡ Some node → is_assign node.kind ≡ true → IsRemoval f (if b then Some (removal u f node) else None)
  removal_if f m node true there kind = inr (m, node, there, kind, refl)
  removal_if f m node false there kind = inl refl

  pairs_each : HoldsOf u a.Assign P → (marks : Item → Meaning) (f : ℕ) (xs ys : List ℕ) (fix : Option Fix) → IsRemoval f fix → Each (self_pairs u marks f xs ys fix)
  pairs_each holds marks f xs ys fix is = gathered (nth_self u marks f xs ys fix) (length xs) (λ i.
      chosen (is_self_pair u marks f xs ys i) (option_map_or (self_at u f (nth_fix fix i)) (slice_get xs i) []) []
      (λ e. optional (self_at u f (nth_fix fix i)) (slice_get xs i) (λ x there. fixed_at holds f x (self_text u f x) (nth_fix fix i) (nth_removal f fix i is)))
      (λ e. none))

  assign_each : HoldsOf u a.Assign P → (marks : Item → Meaning) (at : NodeRef) (node : Node) → node_at u at ≡ Some node → Each (self_assigned u marks at node)
  assign_each holds marks at node there =
      let xs = side u at.file node 0 in
      let ys = side u at.file node 1 in
      chosen (is_assign node.kind) (self_lists u marks at.file node xs ys) []
      (λ e. chosen (length xs == length ys) (self_pairs u marks at.file xs ys (fix_of u marks at.file node xs ys)) []
      (λ f. pairs_each holds marks at.file xs ys (fix_of u marks at.file node xs ys) (removal_if at.file at.node node (all_self u marks at.file xs ys) there e))
      (λ f. none))
      (λ e. none)

  -- ---- bools

  redundant_each : HoldsOf u a.Bools P → (f : ℕ) (c : Chain) (run : List ℕ) (x : ℕ) → Each (bools.redundant u f c run x)
  redundant_each holds f c run x = chosen (bools.is_again u f run x) (diagnosed_at u f x a.Bools (bools.pair_text u f c (bools.redundant_word c) x x) None) [] (λ e. plain_at a.Bools holds f x (bools.pair_text u f c (bools.redundant_word c) x x)) (λ e. none)

  suspect_each : HoldsOf u a.Bools P → (marks : Item → Meaning) (f : ℕ) (c : Chain) (run : List ℕ) (x : ℕ) → Each (bools.suspect u marks f c run x)
  suspect_each holds marks f c run x = optional (bools.suspect_by u marks f c run x) (bools.tested u marks f c x) (λ t e.
      optional (bools.suspect_pair u f c x) (bools.first_testing u marks f c run t) (λ y g.
      chosen (is_same u f y x) [] (diagnosed_at u f x a.Bools (bools.pair_text u f c (bools.suspect_word c) x y) None) (λ h. none) (λ h. plain_at a.Bools holds f x (bools.pair_text u f c (bools.suspect_word c) x y))))

  runs_each : HoldsOf u a.Bools P → (marks : Item → Meaning) (f : ℕ) (c : Chain) (run xs : List ℕ) → Each (bools.in_runs u marks f c run xs)
  runs_each holds marks f c run [] = none
  runs_each holds marks f c run (x ∷ xs) =
      both (bools.if_quiet u marks f c run x) (bools.in_runs u marks f c (bools.run_with u marks f run x) xs)
      (chosen (is_quiet u marks f x) (bools.in_run u marks f c run x) [] (λ e. both (bools.redundant u f c run x) (bools.suspect u marks f c run x) (redundant_each holds f c run x) (suspect_each holds marks f c run x)) (λ e. none))
      (runs_each holds marks f c (bools.run_with u marks f run x) xs)

  bools_each : HoldsOf u a.Bools P → (marks : Item → Meaning) (at : NodeRef) (node : Node) → Each (bools.bools_found u marks at node)
  bools_each holds marks at node = optional (bools.in_chain u marks at.file at.node) (bools.chain_of u at.file node) (λ c e.
      chosen (bools.is_inner u at.file c at.node) [] (bools.in_runs u marks at.file c [] (bools.operands u at.file c at.node)) (λ f. none) (λ f. runs_each holds marks at.file c [] (bools.operands u at.file c at.node)))

  -- ---- stringintconv

  rune_each : HoldsOf u a.StringIntConv P → (free : NodeRef → Bool) (marks : Item → Meaning) (at : NodeRef) (node : Node) → node_at u at ≡ Some node → Each (rune_texts free u marks at node)
  rune_each holds free marks at node there =
      chosen (gives_rune u marks at.file node) (rune_parts free u marks at node) [] (λ e.
      optional (rune_callee free u marks at node) (part node 0) (λ callee g.
      optional (rune_operand free u marks at node callee) (part node 1) (λ operand h.
      optional (rune_found free u marks at node callee operand) (slice_get (nodes_at u at.file) operand) (λ inner k.
      one (diagnosed u at.file a.StringIntConv (rune_text u at.file callee) (rune_fix free u marks at operand inner) node)
      (by callee operand inner (first_holds (is_plain_call node.kind) (calls_type marks at.file node) (first_holds (is_conversion marks at.file node) (to_text u marks at.file node && of_integer u marks at.file node) e)) h k
      (free at && goes_into_rune marks at.file operand))))))
      (λ e. none) where
        first_holds : (b c : Bool) → (b && c) ≡ true → b ≡ true
        first_holds true c e = refl
        first_holds false c e = absurd (cc)

        by : (callee operand : ℕ) (inner : Node) → is_plain_call node.kind ≡ true → part node 1 ≡ Some operand → slice_get (nodes_at u at.file) operand ≡ Some inner → (b : Bool)
            → P (diagnosed u at.file a.StringIntConv (rune_text u at.file callee) (if b then Some (rune_edits u at.file inner) else None) node)
        by callee operand inner call h k true = holds.wrapped at.file at.node operand (rune_text u at.file callee) node inner there call h k
        by callee operand inner call h k false = holds.plain at.file at.node (rune_text u at.file callee) node there

  -- ---- structtag

  tags_each : HoldsOf u a.StructTag P → (paths : List (List ℕ)) (marks : Item → Meaning) (at : NodeRef) (node : Node) → Each (tag_faults paths u marks at node)
  tags_each holds paths marks at node =
      chosen (is_struct node.kind) (gather (part_faults paths u at.file node) (length node.parts)) [] (λ e.
      gathered (part_faults paths u at.file node) (length node.parts) (λ i.
      optional (node_faults paths u at.file node i) (part node i) (λ n g.
      optional (field_faults paths u at.file node i n) (slice_get (nodes_at u at.file) n) (λ field h.
      gathered (nth_fault paths u at.file node i n field) (field_count u at.file field) (λ j.
      optional (fault_at u at.file n) (name_fault paths u at.file node i field j) (λ text k. plain_at a.StructTag holds at.file n text))))))
      (λ e. none)

  -- ---- those that are told of a node itself

  nil_each : HoldsOf u a.NilFunc P → (marks : Item → Meaning) (at : NodeRef) (node : Node) (d : Diagnostic) → node_at u at ≡ Some node → IsNilCompared u marks at node d → P d
  nil_each holds marks at node d there (outcome, o, (n, c, (named, s, (is, e)))) = subst P (sym e) (holds.plain at.file at.node _ node there)

  unused_each : HoldsOf u a.UnusedResult P → (marks : Item → Meaning) (at : NodeRef) (node : Node) (d : Diagnostic) → node_at u at ≡ Some node → IsUnused u marks at node d → P d
  unused_each holds marks at node d there (statement, (call, c, (callee, p, (named, s, (is, e))))) = subst P (sym e) (holds.plain at.file at.node _ node there)

  dead_each : HoldsOf u a.Unreachable P → (marks : Item → Meaning) (at : NodeRef) (node : Node) (d : Diagnostic) → node_at u at ≡ Some node → IsUnreachable u marks at node d → P d
  dead_each holds marks at node d there (dead, e) = subst P (sym e) (holds.plain at.file at.node _ node there)

  locks_each : HoldsOf u a.CopyLocks P → (marks : Item → Meaning) (at : NodeRef) (node : Node) (d : Diagnostic) → IsLockCopy u marks at node d → P d
  locks_each holds marks at node d (i, low, (s, e, (lock, told))) = plain_at a.CopyLocks holds at.file s.node _ d told

  -- ---- printf

  way_each : HoldsOf u a.Printf P → (marks : Item → Meaning) (f n : ℕ) (node : Node) (callee count : ℕ) (w : Way) (d : Diagnostic) → slice_get (nodes_at u f) n ≡ Some node → IsWayFound u marks f node callee count w d → P d
  way_each holds marks f n node callee count (way.Format errorf) d there (text, t, (fault, is, e)) = subst P (sym e) (holds.plain f n _ node there)
  way_each holds marks f n node callee count way.Plain d there (text, t, (read, reads, possible, e)) = subst P (sym e) (holds.plain f n _ node there)
  way_each holds marks f n node callee count way.Silent d there of = absurd of

  calls_each : HoldsOf u a.Printf P → (kinds : NodeRef → ℕ) (marks : Item → Meaning) (at : NodeRef) (node : Node) (d : Diagnostic) → node_at u at ≡ Some node → IsPrintFault kinds u marks at node d → P d
  calls_each holds kinds marks at node d there (call, (callee, p, (x, k, found))) =
      way_each holds marks at.file at.node node callee (param_count x.of) (way_of (kinds (place at.file (bare (nodes_at u at.file) callee)))) d there found

  -- ---- all of them

  -- exactly what is reported
  found_each : (Of : Unit → (Item → Meaning) → NodeRef → Node → Diagnostic → Type 0) (marks : Item → Meaning) (found : List Diagnostic) → AreFindings Of u marks found
      → ((at : NodeRef) (node : Node) (d : Diagnostic) → node_at u at ≡ Some node → Of u marks at node d → P d) → Each found
  found_each Of marks found are each d there = let r = are.each d there in each r.at r.node d r.stands r.is

  empty_each : (found : List Diagnostic) → found ≡ [] → Each found
  empty_each found e d there = none d (subst (λ (l : List Diagnostic). Contains l d) e there)

  named_each : (name : AnalyzerName) → HoldsOf u name P → (marks : Item → Meaning) (paths : List (List ℕ)) (given : List Named) (found : List Diagnostic) → FoundOf name u marks paths given found → Each found
  named_each a.Assign holds marks paths given found is = found_each IsSelfAssigned marks found is (λ at node d there of. assign_each holds marks at node there d of)
  named_each a.Bools holds marks paths given found is = found_each bools.IsBoolFound marks found is (λ at node d there of. bools_each holds marks at node d of)
  named_each a.CopyLocks holds marks paths given found is = found_each IsLockCopy marks found is (λ at node d there of. locks_each holds marks at node d of)
  named_each a.CtrlFlow holds marks paths given found is = empty_each found is
  named_each a.NilFunc holds marks paths given found is = found_each IsNilCompared marks found is (λ at node d there of. nil_each holds marks at node d there of)
  named_each a.Printf holds marks paths given found is = found_each (IsPrintFault is.kinds) marks found is.are (λ at node d there of. calls_each holds is.kinds marks at node d there of)
  named_each a.StringIntConv holds marks paths given found is = found_each (IsRuneText is.free) marks found is.are (λ at node d there of. rune_each holds is.free marks at node there d of)
  named_each a.StructTag holds marks paths given found is = found_each (IsTagFault paths) marks found is (λ at node d there of. tags_each holds paths marks at node d of)
  named_each a.Unreachable holds marks paths given found is = found_each IsUnreachable marks found is (λ at node d there of. dead_each holds marks at node d there of)
  named_each a.UnusedResult holds marks paths given found is = found_each IsUnused marks found is (λ at node d there of. unused_each holds marks at node d there of)

  if_each : (o : Option AnalyzerName) → ((name : AnalyzerName) → o ≡ Some name → HoldsOf u name P) → (marks : Item → Meaning) (paths : List (List ℕ)) (given : List Named) (found : List Diagnostic) → FoundIf o u marks paths given found → Each found
  if_each None holds marks paths given found is = empty_each found is
  if_each (Some name) holds marks paths given found is = named_each name (holds name refl) marks paths given found is

  pub each_of : (number : ℕ) → ((name : AnalyzerName) → analyzer_numbered number ≡ Some name → HoldsOf u name P) → (marks : Item → Meaning) (paths : List (List ℕ)) (given : List Named) (found : List Diagnostic) → FoundBy number u marks paths given found → Each found
  unfolding FoundBy
  each_of number holds marks paths given found is = if_each (analyzer_numbered number) holds marks paths given found is

-- of all of a list, place by place
pub all_of : (P : Diagnostic → Type 0) (found : List Diagnostic) → ((d : Diagnostic) → Contains found d → P d) → All P found
all_of P found each k d low = each (get_or found k d) (k, low, read found k d (get_or found k d) low) where
  read : (xs : List Diagnostic) (k : ℕ) (d e : Diagnostic) → k < length xs → get_or xs k (get_or xs k d) ≡ get_or xs k d
  read [] k d e low = absurd (omega arith)
  read (x ∷ xs) zero d e low = refl
  read (x ∷ xs) (suc k) d e low = read xs k d e (omega arith)
