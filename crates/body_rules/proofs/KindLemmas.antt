-- Whether there is a node of some kind.
use Rattle.std.proofs.Common.{◌≡◌, ℕ, Bool, true, false, cond, Option, Some, None, option_and_then, slice_get, refl, sym, ap, ◌∙◌}
use Rattle.std.specs.Option.{option_map_or}
use Rattle.gv_base.proofs.Lists.{nothing_there}
use Rattle.go_tree.specs.declared.tree.Node.{Node}
use Rattle.node_values.specs.Trees.{IsOfKind}
use Rattle.go_tree.proofs.NodeLemmas.{differ}
use Rattle.body_rules.specs.Files.{goto_label, falls_at}
use Rattle.body_rules.specs.Given.{Given}
use Rattle.body_rules.specs.Jumps.{label_of}
use Rattle.body_rules.specs.Kinds.{is_goto, is_fall}

pub goto_there : (f : Given) (n l : ℕ) → goto_label f n ≡ Some l → IsOfKind is_goto f.nodes n
goto_there f n l is = by (slice_get f.nodes n) refl where
  in_node : Node → Option ℕ
  in_node node = cond (is_goto node.kind) (label_of f.labels node) None

  by_kind : (b : Bool) (o : Option ℕ) → cond b o None ≡ Some l → b ≡ true
  by_kind true o e = refl
  by_kind false o e = absurd (nothing_there l e)

  by : (o : Option Node) → slice_get f.nodes n ≡ o → IsOfKind is_goto f.nodes n
  by None there = absurd (nothing_there l (sym (ap (option_and_then in_node) there) ∙ is))
  by (Some node) there = (node, there, by_kind (is_goto node.kind) (label_of f.labels node) (sym (ap (option_and_then in_node) there) ∙ is))

pub fall_there : (f : Given) (n : ℕ) → falls_at f n ≡ true → IsOfKind is_fall f.nodes n
fall_there f n is = by (slice_get f.nodes n) refl where
  falls : Option Node → Bool
  falls o = option_map_or (λ (node : Node). is_fall node.kind) o false

  by : (o : Option Node) → slice_get f.nodes n ≡ o → IsOfKind is_fall f.nodes n
  by None there = absurd (differ false refl (sym (ap falls there) ∙ is))
  by (Some node) there = (node, there, sym (ap falls there) ∙ is)
