-- Where the faults of bodies stand: at a token of a file of the package.
use Rattle.std.proofs.Common.{◌≡◌, ℕ, List, Option, Some, slice_get, get_or, ap, ◌∙◌}
use Rattle.std.specs.Option.{option_map_or}
use Rattle.gv_base.specs.declared.place.Place.{Place}
use Rattle.go_tree.specs.declared.token.Token.{Token}
use Rattle.go_tree.specs.declared.tree.FileTree.{FileTree}
use Rattle.go_tree.specs.declared.tree.Node.{Node}
use Rattle.go_tree.specs.declared.tree.NodeRef.{NodeRef}
use Rattle.late_list.specs.declared.late.LateFault.{LateFault}
use Rattle.late_list.specs.declared.late.LateRule.{LateRule}
use Rattle.late_list.specs.declared.late.LateRule.TheVariants as r
use Rattle.unit_read.specs.Units.{Unit}
use Rattle.late_list.specs.Late.{IsFoundIn}
use Rattle.body_rules.specs.Files.{IsFaultIn, node_count, place_at, body_of}
use Rattle.body_rules.specs.Given.{Given}
use Rattle.body_facts.specs.Facts.{IsBodyFault}

-- the place of a token of a file of the package
pub record StandsAt (u : Unit) (p : Place) : Type 0 where
  pub tree : FileTree
  pub token : ℕ
  pub there : slice_get u.trees p.file ≡ Some tree
  pub offset : p.offset ≡ option_map_or (λ (t : Token). t.start) (slice_get tree.tokens token) 0

-- the first token of a node, and the last
abbrev first_token : Given → ℕ → ℕ
first_token g n = option_map_or (λ (node : Node). node.first) (slice_get g.nodes n) 0

abbrev last_token : Given → ℕ → ℕ
last_token g n = option_map_or (λ (node : Node). node.last) (slice_get g.nodes n) 0

-- a fault stands at a token of its file: a row for each rule
token_of : (g : Given) (rule : LateRule) (n : ℕ) (p : Place) → IsFaultIn g rule n p → (token : ℕ) × (p ≡ place_at g token)
token_of g r.RedeclaredLabel n p (is, here) = (first_token g n, here)
token_of g r.UnusedVariable n p (is, here) = (first_token g n, here)
token_of g r.ShadowedResult n p (is, here) = (first_token g n, here)
token_of g r.MissingReturn n p (is, here) = (last_token g (option_map_or (λ (b : ℕ). b) (body_of g n) 0), here)
token_of g r.UndefinedLabel n p (is, here) = (first_token g (option_map_or (λ (node : Node). get_or node.parts 0 0) (slice_get g.nodes n) 0), here)
token_of g r.UnusedLabel n p (is, here) = (first_token g n, here)
token_of g r.OverVariable n p (is, here) = (first_token g n, here)
token_of g r.IntoBlock n p (is, here) = (first_token g n, here)
token_of g r.MisplacedBranch n p (is, here) = (first_token g n, here)
token_of g r.MisplacedFallthrough n p (is, here) = (first_token g n, here)

found_stands : (u : Unit) (meant : NodeRef → Option NodeRef) (x : LateFault) (b : IsBodyFault u meant x) → IsFoundIn IsFaultIn node_count b.g x → StandsAt u x.place
found_stands u meant x b (n, low, (rule, (is, same))) =
    let t = token_of b.g rule n x.place is in
    let file : x.place.file ≡ b.number = ap (λ (p : Place). p.file) t.1 ∙ b.is_given.number_is in
    record {
      tree = b.tree;
      token = t.0;
      there = ap (λ (f : ℕ). slice_get u.trees f) file ∙ b.has_tree;
      offset = ap (λ (p : Place). p.offset) t.1 ∙ ap (λ (ts : List Token). option_map_or (λ (k : Token). k.start) (slice_get ts t.0) 0) b.is_given.tokens;
    }

pub fault_stands : (u : Unit) (meant : NodeRef → Option NodeRef) (x : LateFault) → IsBodyFault u meant x → StandsAt u x.place
fault_stands u meant x b = found_stands u meant x b b.found
