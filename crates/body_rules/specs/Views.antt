-- What is read of a file before its rules are asked.
use Rattle.std.specs.Prelude.{ℕ, ◌≡◌, Bool, List, length}
use Rattle.std.specs.List.{Contains}
use Rattle.node_values.specs.Parents.{AreParents}
use Rattle.node_values.specs.Ranges.{starts}
use Rattle.go_tree.specs.declared.tree.Node.{Node}
use Rattle.go_tree.specs.declared.tree.NodeKind.{NodeKind}
use Rattle.node_values.specs.Trees.{IsOfKind, AreInnermost}
use Rattle.body_rules.specs.declared.branches.Branch.TheVariants as w
use Rattle.body_rules.specs.declared.endings.Ending.{Ending}
use Rattle.body_rules.specs.declared.file.File.{File}
use Rattle.body_rules.specs.declared.view.View.{View}
use Rattle.body_rules.specs.Branches.{AreLeft}
use Rattle.body_rules.specs.Endings.{flag_of, endings}
use Rattle.gv_base.specs.declared.place.Place.{Place}
use Rattle.late_list.specs.declared.late.LateRule.{LateRule}
use Rattle.body_rules.specs.Files.{IsFile, AreRead, IsFaultIn, node_count}
use Rattle.body_rules.specs.Given.{Given, given}
use Rattle.body_rules.specs.Hands.{AreClauseEnds}
use Rattle.body_rules.specs.Jumping.{AreNearest}
use Rattle.body_rules.specs.Kinds.{is_block, is_goto, is_fall}
use Rattle.body_rules.specs.Latest.{AreLatest}

-- how each node of the file ends
pub record AreEndings (f : Given) (found : List Ending) : Type 0 where
  pub left : List Bool
  pub are_left : AreLeft f.nodes f.labels left
  pub same : found ≡ endings (flag_of left) (flag_of f.panics) f.nodes

-- what is so where some node is of such a kind
abbrev pub IfAny : (NodeKind → Bool) → List Node → Type 0 → Type 0
IfAny kinds nodes P = (n : ℕ) → IsOfKind kinds nodes n → P

-- What a view holds is right. What only a `goto`, a `fallthrough`, or a `break` or `continue` without a label asks for is there where there is one.
pub record IsRead (v : View) : Type 0 where
  pub file : IsFile (given v.file.now)
  pub parents : AreParents v.file.now.nodes.now (length v.file.now.nodes.now) v.parents.items
  pub begins : v.begins.items ≡ starts v.file.now.nodes.now
  pub blocks : IfAny is_goto v.file.now.nodes.now (AreInnermost is_block v.file.now.nodes.now v.blocks.items)
  pub breaks : AreNearest w.Break v.file.now.nodes.now v.breaks.items
  pub continues : AreNearest w.Continue v.file.now.nodes.now v.continues.items
  pub latest : IfAny is_goto v.file.now.nodes.now (AreLatest v.file.now.nodes.now v.blocks.items (length v.file.now.nodes.now) v.latest.items)
  pub endings : AreEndings (given v.file.now) v.endings.items
  pub clause_ends : IfAny is_fall v.file.now.nodes.now (AreClauseEnds v.file.now.nodes.now v.clause_ends.items)
  pub read : AreRead (given v.file.now) v.read.items

-- each view is right and of one of the files, and each file has one
pub record AreViews (files : List File) (views : List View) : Type 0 where
  pub read : (v : View) → Contains views v → IsRead v
  pub «of» : (v : View) → Contains views v → Contains files v.file.now
  pub all : (f : File) → Contains files f → (v : View) × Contains views v × (v.file.now ≡ f)

-- ---- of the files themselves

abbrev pub IsFaultOf : File → LateRule → ℕ → Place → Type 0
IsFaultOf f = IsFaultIn (given f)

abbrev pub count_of : File → ℕ
count_of f = node_count (given f)
