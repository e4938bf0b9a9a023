-- A node of which no rule is asked has no fault.
use Rattle.std.proofs.Common.{◌≡◌, ℕ, ◌||◌, ◌&&◌, not, cond, if◌then◌else◌, Bool, true, false, List, Option, Some, None, option_and_then, slice_get, refl, sym, ap, ◌∙◌}
use Rattle.std.specs.Option.{option_map_or}
use Rattle.gv_base.proofs.Lists.{nothing_there}
use Rattle.gv_base.specs.declared.place.Place.{Place}
use Rattle.go_tree.specs.declared.tree.Node.{Node}
use Rattle.go_tree.proofs.NodeLemmas.{differ}
use Rattle.late_list.specs.declared.late.LateRule.{LateRule}
use Rattle.late_list.specs.declared.late.LateRule.TheVariants as r
use Rattle.body_rules.specs.declared.branches.Branch.{Branch}
use Rattle.body_rules.specs.declared.branches.Branch.TheVariants as w
use Rattle.body_rules.specs.Branches.{branch_of}
use Rattle.body_rules.specs.Endings.{flag_of, from_last}
use Rattle.body_rules.specs.Files.{IsFaultIn, returns_by, lacks_label, is_nil, is_none, body_of, goto_label, is_undefined, branch_at, falls_at}
use Rattle.body_rules.specs.Given.{Given}
use Rattle.body_rules.specs.Jumps.{label_of}
use Rattle.body_rules.specs.Kinds.{is_jump, is_break, is_continue, is_goto, is_fall}
use Rattle.body_rules.specs.Asked.{acts, acts_at, is_marked, is_asked}

pub either : (a b : Bool) → b ≡ true → true ≡ (a || b)
either true b e = refl
either false b e = sym e

neither : (a b : Bool) → (a || b) ≡ false → (a ≡ false) × (b ≡ false)
neither true b e = absurd (differ true e refl)
neither false b e = (refl, e)

-- what doesn't act is nothing of these
pub record IsIdle (nodes : List Node) (node : Node) : Type 0 where
  pub returns : returns_by nodes node.kind node.parts ≡ false
  pub jump : is_jump node.kind ≡ false
  pub «break» : is_break node.kind ≡ false
  pub «continue» : is_continue node.kind ≡ false
  pub goto : is_goto node.kind ≡ false
  pub fall : is_fall node.kind ≡ false

idle : (nodes : List Node) (node : Node) → acts nodes node ≡ false → IsIdle nodes node
idle nodes node e =
    let one = neither (returns_by nodes node.kind node.parts) (is_jump node.kind || is_fall node.kind) e in
    let two = neither (is_jump node.kind) (is_fall node.kind) one.1 in
    let three = neither (is_break node.kind) (is_continue node.kind || is_goto node.kind) two.0 in
    let four = neither (is_continue node.kind) (is_goto node.kind) three.1 in
    record { returns = one.0; jump = two.0; «break» = three.0; «continue» = four.0; goto = four.1; fall = two.1 }

idle_at : (f : Given) (n : ℕ) (node : Node) → acts_at f n ≡ false → slice_get f.nodes n ≡ Some node → IsIdle f.nodes node
idle_at f n node e there = idle f.nodes node (sym (ap (λ (o : Option Node). option_map_or (acts f.nodes) o false) there) ∙ e)

no_body : (f : Given) (n b : ℕ) → acts_at f n ≡ false → body_of f n ≡ Some b → ⊥
no_body f n b e is = by (slice_get f.nodes n) refl where
  in_node : Node → Option ℕ
  in_node node = cond (returns_by f.nodes node.kind node.parts) (Some (from_last node.parts 1)) None

  by : (o : Option Node) → slice_get f.nodes n ≡ o → ⊥
  by None there = nothing_there b (sym (ap (option_and_then in_node) there) ∙ is)
  by (Some node) there = nothing_there b (sym (ap (λ (x : Bool). cond x (Some (from_last node.parts 1)) None) (idle_at f n node e there).returns) ∙ (sym (ap (option_and_then in_node) there) ∙ is))

no_goto : (f : Given) (n l : ℕ) → acts_at f n ≡ false → goto_label f n ≡ Some l → ⊥
no_goto f n l e is = by (slice_get f.nodes n) refl where
  in_node : Node → Option ℕ
  in_node node = cond (is_goto node.kind) (label_of f.labels node) None

  by : (o : Option Node) → slice_get f.nodes n ≡ o → ⊥
  by None there = nothing_there l (sym (ap (option_and_then in_node) there) ∙ is)
  by (Some node) there = nothing_there l (sym (ap (λ (x : Bool). cond x (label_of f.labels node) None) (idle_at f n node e there).goto) ∙ (sym (ap (option_and_then in_node) there) ∙ is))

no_branch : (f : Given) (n : ℕ) (which : Branch) → acts_at f n ≡ false → branch_at f n ≡ Some which → ⊥
no_branch f n which e is = by (slice_get f.nodes n) refl where
  in_node : Node → Option Branch
  in_node node = branch_of node.kind

  none : (a b : Bool) → a ≡ false → b ≡ false → (if a then Some w.Break else (if b then Some w.Continue else None)) ≡ Some which → ⊥
  none true b p q h = absurd (differ true p refl)
  none false true p q h = absurd (differ true q refl)
  none false false p q h = nothing_there which h

  by : (o : Option Node) → slice_get f.nodes n ≡ o → ⊥
  by None there = nothing_there which (sym (ap (option_and_then in_node) there) ∙ is)
  by (Some node) there =
      let one = idle_at f n node e there in
      none (is_break node.kind) (is_continue node.kind) one.«break» one.«continue» (sym (ap (option_and_then in_node) there) ∙ is)

no_jump : (f : Given) (n : ℕ) → acts_at f n ≡ false → is_undefined f n ≡ true → ⊥
no_jump f n e is = by (slice_get f.nodes n) refl where
  by : (o : Option Node) → slice_get f.nodes n ≡ o → ⊥
  by None there = differ false refl (sym (ap (λ (o : Option Node). option_map_or (lacks_label f.labels) o false) there) ∙ is)
  by (Some node) there = differ false refl (
      sym (ap (λ (x : Bool). x && (not (is_nil node.parts) && is_none (label_of f.labels node))) (idle_at f n node e there).jump)
      ∙ (sym (ap (λ (o : Option Node). option_map_or (lacks_label f.labels) o false) there) ∙ is)
      )

no_fall : (f : Given) (n : ℕ) → acts_at f n ≡ false → falls_at f n ≡ true → ⊥
no_fall f n e is = by (slice_get f.nodes n) refl where
  falls : Option Node → Bool
  falls o = option_map_or (λ (node : Node). is_fall node.kind) o false

  by : (o : Option Node) → slice_get f.nodes n ≡ o → ⊥
  by None there = differ false refl (sym (ap falls there) ∙ is)
  by (Some node) there = differ (is_fall node.kind) (idle_at f n node e there).fall (sym (ap falls there) ∙ is)

-- ---- all rules

-- what is false of a node that isn't asked
record IsPlain (f : Given) (n : ℕ) : Type 0 where
  repeated : flag_of f.repeated n ≡ false
  unused : flag_of f.unused n ≡ false
  shadowed : flag_of f.shadowed n ≡ false
  variable : flag_of f.variables n ≡ false
  idle : acts_at f n ≡ false

plain : (f : Given) (n : ℕ) → is_asked f n ≡ false → IsPlain f n
plain f n e =
    let one = neither (is_marked f n) (acts_at f n) e in
    let two = neither (flag_of f.repeated n) (flag_of f.unused n || (flag_of f.shadowed n || flag_of f.variables n)) one.0 in
    let three = neither (flag_of f.unused n) (flag_of f.shadowed n || flag_of f.variables n) two.1 in
    let four = neither (flag_of f.shadowed n) (flag_of f.variables n) three.1 in
    record { repeated = two.0; unused = three.0; shadowed = four.0; variable = four.1; idle = one.1 }

pub unasked : (f : Given) (n : ℕ) → is_asked f n ≡ false → (rule : LateRule) (p : Place) → IsFaultIn f rule n p → ⊥
unasked f n e r.RedeclaredLabel p is = differ (flag_of f.repeated n) (plain f n e).repeated is.0
unasked f n e r.UnusedVariable p is = differ (flag_of f.variables n) (plain f n e).variable is.0.variable
unasked f n e r.ShadowedResult p is = differ (flag_of f.shadowed n) (plain f n e).shadowed is.0
unasked f n e r.MissingReturn p is = no_body f n is.0.b (plain f n e).idle is.0.body
unasked f n e r.UndefinedLabel p is = no_jump f n (plain f n e).idle is.0
unasked f n e r.UnusedLabel p is = differ (flag_of f.unused n) (plain f n e).unused is.0
unasked f n e r.OverVariable p is = no_goto f n is.0.0 (plain f n e).idle is.0.1
unasked f n e r.IntoBlock p is = no_goto f n is.0.0 (plain f n e).idle is.0.1
unasked f n e r.MisplacedBranch p is = no_branch f n is.0.which (plain f n e).idle is.0.branch
unasked f n e r.MisplacedFallthrough p is = no_fall f n (plain f n e).idle is.0.falls
