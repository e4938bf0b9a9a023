-- There is one table of each sort, and one of all that is given of a file.
use Rattle.std.proofs.Common.{◌≡◌, ℕ, suc, ◌<◌, ◌↔◌, Bool, true, false, List, [], ◌∷◌, length, get_or, Option, Some, None, refl, sym, ap, ◌∙◌, subst, arith}
use Rattle.go_tree.specs.declared.token.Token.{Token}
use Rattle.go_tree.specs.declared.tree.Node.{Node}
use Rattle.go_tree.specs.declared.tree.FileTree.{FileTree}
use Rattle.go_tree.specs.declared.tree.NodeRef.{NodeRef}
use Rattle.node_values.specs.Flagged.{AreFlagged}
use Rattle.node_values.specs.Trees.{IsTree}
use Rattle.node_values.proofs.FlagLemmas.{one_flagged}
use Rattle.node_values.proofs.HandLemmas.{one_value}
use Rattle.label_uses.specs.Labels.{IsRepeated}
use Rattle.shadowed_results.specs.Shadows.{IsShadowed, AreShadowed}
use Rattle.unit_read.specs.Units.{Unit}
use Rattle.body_rules.specs.Given.{Given}
use Rattle.body_facts.specs.LabelTables.{AreDenoted, AreFlagsOf, IsIdle}
use Rattle.body_facts.specs.NameTables.{AreValues, Panics, ArePanics, callee_rule, within_rule, is_variable, AreVariables, meant_at}
use Rattle.body_facts.specs.Facts.{IsGivenOf}

same_items : {X : Type 0} (xs ys : List X) (d : X) → length xs ≡ length ys → ((k : ℕ) → k < length xs → get_or xs k d ≡ get_or ys k d) → xs ≡ ys
same_items [] [] d e same = refl
same_items [] (y ∷ ys) d e same = absurd (omega arith)
same_items (x ∷ xs) [] d e same = absurd (omega arith)
same_items (x ∷ xs) (y ∷ ys) d e same = ap (λ h. h ∷ xs) (same 0 (omega arith)) ∙ ap (λ t. y ∷ t) (same_items xs ys d (omega arith) (λ k low. same (suc k) (omega arith)))

same_option : (a b : Option ℕ) → ((l : ℕ) → a ≡ Some l → b ≡ Some l) → ((l : ℕ) → b ≡ Some l → a ≡ Some l) → a ≡ b
same_option None None to back = refl
same_option None (Some y) to back = back y refl
same_option (Some x) b to back = sym (to x refl)

same_bool : (a b : Bool) → (a ≡ true → b ≡ true) → (b ≡ true → a ≡ true) → a ≡ b
same_bool true b to back = sym (to refl)
same_bool false true to back = back refl
same_bool false false to back = refl

one_denoting : (bytes : List ℕ) (tree : FileTree) (a b : List (Option ℕ)) → AreDenoted bytes tree a → AreDenoted bytes tree b → a ≡ b
one_denoting bytes tree a b x y = same_items a b None (x.size ∙ sym y.size) (λ k low. one k (let s = x.size in omega arith)) where
  one : (k : ℕ) → k < length tree.nodes → get_or a k None ≡ get_or b k None
  one k low = same_option (get_or a k None) (get_or b k None) (λ l e. (y.each k l low).1 ((x.each k l low).0 e)) (λ l e. (x.each k l low).1 ((y.each k l low).0 e))

one_flags : (P : ℕ → Type 0) (count : ℕ) (a b : List Bool) → AreFlagsOf P count a → AreFlagsOf P count b → a ≡ b
one_flags P count a b x y = same_items a b false (x.size ∙ sym y.size) (λ k low. one k (let s = x.size in omega arith)) where
  one : (k : ℕ) → k < count → get_or a k false ≡ get_or b k false
  one k low = same_bool (get_or a k false) (get_or b k false) (λ e. (y.each k low).1 ((x.each k low).0 e)) (λ e. (x.each k low).1 ((y.each k low).0 e))

one_shadowed : (bytes : List ℕ) (tree : FileTree) (a b : List Bool) → AreShadowed bytes tree a → AreShadowed bytes tree b → a ≡ b
one_shadowed bytes tree a b x y = one_flags (IsShadowed bytes tree) (length tree.nodes) a b record { size = x.size; each = x.each } record { size = y.size; each = y.each }

one_values : {X : Type 0} (value : ℕ → X) (top : X) (count : ℕ) (a b : List X) → AreValues value top count a → AreValues value top count b → a ≡ b
one_values {X} value top count a b x y = same_items a b top (x.size ∙ sym y.size) (λ k low. one k (let s = x.size in omega arith)) where
  one : (k : ℕ) → k < count → get_or a k top ≡ get_or b k top
  one k low = x.each k low ∙ sym (y.each k low)

one_panics : (u : Unit) (f : ℕ) (nodes : List Node) (a b : List Bool) → IsTree nodes → ArePanics u f nodes a → ArePanics u f nodes b → a ≡ b
one_panics u f nodes a b tree x y =
    one_flagged (Panics u f x.found) (length nodes) (length nodes) a b x.flagged
    (subst (λ (l : List (Option ℕ)). AreFlagged (Panics u f l) (length nodes) (length nodes) b) (sym same) y.flagged) where
      same : x.found ≡ y.found
      same = same_items x.found y.found None (x.callees.handed.size ∙ sym y.callees.handed.size) (λ k low. one_value callee_rule None nodes x.found y.found tree x.callees y.callees k)

one_variables : (u : Unit) (f : ℕ) (nodes : List Node) (a b : List Bool) → IsTree nodes → AreVariables u f nodes a → AreVariables u f nodes b → a ≡ b
one_variables u f nodes a b tree x y =
    one_values (is_variable u f x.inside) false (length nodes) a b x.values
    (subst (λ (l : List Bool). AreValues (is_variable u f l) false (length nodes) b) (sym same) y.values) where
      same : x.inside ≡ y.inside
      same = same_items x.inside y.inside false (x.within.handed.size ∙ sym y.within.handed.size) (λ k low. one_value within_rule false nodes x.inside y.inside tree x.within y.within k)

-- what is given, by its fields
abbrev made : ℕ → List Node → List Token → List (Option ℕ) → List Bool → List Bool → List Bool → List Bool → List Bool → List (Option ℕ) → Given
made a b c d e f s i j k = record { number = a; nodes = b; tokens = c; labels = d; repeated = e; unused = f; shadowed = s; panics = i; variables = j; meant = k }

-- two of these, field by field
same_given : (g h : Given) → g.number ≡ h.number → g.nodes ≡ h.nodes → g.tokens ≡ h.tokens → g.labels ≡ h.labels → g.repeated ≡ h.repeated → g.unused ≡ h.unused → g.shadowed ≡ h.shadowed
    → g.panics ≡ h.panics → g.variables ≡ h.variables → g.meant ≡ h.meant → g ≡ h
same_given g h a b c d e f s i j k =
    ap (λ (x : ℕ). made x g.nodes g.tokens g.labels g.repeated g.unused g.shadowed g.panics g.variables g.meant) a
    ∙ (ap (λ (x : List Node). made h.number x g.tokens g.labels g.repeated g.unused g.shadowed g.panics g.variables g.meant) b
    ∙ (ap (λ (x : List Token). made h.number h.nodes x g.labels g.repeated g.unused g.shadowed g.panics g.variables g.meant) c
    ∙ (ap (λ (x : List (Option ℕ)). made h.number h.nodes h.tokens x g.repeated g.unused g.shadowed g.panics g.variables g.meant) d
    ∙ (ap (λ (x : List Bool). made h.number h.nodes h.tokens h.labels x g.unused g.shadowed g.panics g.variables g.meant) e
    ∙ (ap (λ (x : List Bool). made h.number h.nodes h.tokens h.labels h.repeated x g.shadowed g.panics g.variables g.meant) f
    ∙ (ap (λ (x : List Bool). made h.number h.nodes h.tokens h.labels h.repeated h.unused x g.panics g.variables g.meant) s
    ∙ (ap (λ (x : List Bool). made h.number h.nodes h.tokens h.labels h.repeated h.unused h.shadowed x g.variables g.meant) i
    ∙ (ap (λ (x : List Bool). made h.number h.nodes h.tokens h.labels h.repeated h.unused h.shadowed h.panics x g.meant) j
    ∙ ap (λ (x : List (Option ℕ)). made h.number h.nodes h.tokens h.labels h.repeated h.unused h.shadowed h.panics h.variables x) k))))))))

pub one_given : (u : Unit) (meant : NodeRef → Option NodeRef) (number : ℕ) (bytes : List ℕ) (tree : FileTree) (g h : Given) → IsTree tree.nodes → IsGivenOf u meant number bytes tree g → IsGivenOf u meant number bytes tree h → g ≡ h
one_given u meant number bytes tree g h is x y =
    same_given g h (x.number_is ∙ sym y.number_is) (x.nodes ∙ sym y.nodes) (x.tokens ∙ sym y.tokens) (one_denoting bytes tree g.labels h.labels x.labels y.labels)
    (one_flags (IsRepeated bytes tree) (length tree.nodes) g.repeated h.repeated x.repeated y.repeated)
    (one_flags (IsIdle bytes tree) (length tree.nodes) g.unused h.unused x.unused y.unused)
    (one_shadowed bytes tree g.shadowed h.shadowed x.shadowed y.shadowed)
    (one_panics u number tree.nodes g.panics h.panics is x.panics y.panics)
    (one_variables u number tree.nodes g.variables h.variables is x.variables y.variables)
    (one_values (meant_at meant number) None (length tree.nodes) g.meant h.meant x.meant y.meant)
