-- The names that trees declare, with their regions (Go 1.17, "Declarations and scope").
use Rattle.std.specs.Prelude.{ℕ, suc, ◌+◌, Bool, true, false, cond, List, [], ◌∷◌, ◌++◌, map}
use Rattle.go_tree.specs.declared.tree.NodeKind.{NodeKind}
use Rattle.scopes.specs.declared.scope.Form.{Form}
use Rattle.scopes.specs.declared.scope.Form.TheVariants as form
use Rattle.scopes.specs.declared.scope.Handed.{Handed}
use Rattle.scopes.specs.declared.scope.Handed.TheVariants as hand
use Rattle.scopes.specs.declared.scope.Declares.{Declares}
use Rattle.scopes.specs.declared.scope.Declares.TheVariants as name
use Rattle.scopes.specs.declared.scope.Named.{Named}
use Rattle.go_tree.specs.Arena.{size}
use Rattle.go_tree.specs.Forest.{Forest, Empty, Grow}
use Rattle.scopes.specs.Roles.{role}

abbrev pub form_of : NodeKind → Form
form_of k = (role k).form

abbrev pub is_name : Form → Bool
is_name form.Name = true
is_name form.Names = false
is_name form.Params = false
is_name form.Param = false
is_name form.Bind = false
is_name form.Other = false

abbrev pub is_names : Form → Bool
is_names form.Name = false
is_names form.Names = true
is_names form.Params = false
is_names form.Param = false
is_names form.Bind = false
is_names form.Other = false

abbrev pub is_params : Form → Bool
is_params form.Name = false
is_params form.Names = false
is_params form.Params = true
is_params form.Param = false
is_params form.Bind = false
is_params form.Other = false

abbrev pub is_param : Form → Bool
is_param form.Name = false
is_param form.Names = false
is_param form.Params = false
is_param form.Param = true
is_param form.Bind = false
is_param form.Other = false

abbrev pub is_bind : Form → Bool
is_bind form.Name = false
is_bind form.Names = false
is_bind form.Params = false
is_bind form.Param = false
is_bind form.Bind = true
is_bind form.Other = false

-- the names among the top nodes of trees whose nodes are numbered from m
abbrev pub leaf_names : ℕ → Forest → List ℕ
leaf_names m Empty = []
leaf_names m (Grow k a z ps rest) = cond (is_name (form_of k)) ((m + size ps) ∷ []) [] ++ leaf_names (m + suc (size ps)) rest

-- the names that the first of the trees is: one, or a list
abbrev pub first_names : ℕ → Forest → List ℕ
first_names m Empty = []
first_names m (Grow k a z ps rest) = cond (is_name (form_of k)) ((m + size ps) ∷ []) (cond (is_names (form_of k)) (leaf_names m ps) [])

-- the names with which the trees of a form begin
abbrev pub names_of : (Form → Bool) → ℕ → Forest → List ℕ
names_of p m Empty = []
names_of p m (Grow k a z ps rest) = cond (p (form_of k)) (first_names m ps) [] ++ names_of p (m + suc (size ps)) rest

-- the names of receivers, parameters and results: their lists are parts of the function
abbrev pub parameters : ℕ → Forest → List ℕ
parameters m Empty = []
parameters m (Grow k a z ps rest) = cond (is_params (form_of k)) (names_of is_param m ps) [] ++ parameters (m + suc (size ps)) rest

-- Where declarations belong: the node that is their block, and the names that are handed down, to be declared in the block of the part that takes
-- them, or in the one around it.
pub record Scope : Type 0 where
  pub block : ℕ
  pub within : List ℕ
  pub around : List ℕ

-- the names that a node hands to the block of a body
abbrev pub handed_within : Handed → ℕ → Forest → List ℕ
handed_within hand.Nothing m ps = []
handed_within hand.Parameters m ps = parameters m ps
handed_within hand.Range m ps = []
handed_within hand.Switch m ps = []
handed_within hand.Passed m ps = []

-- the names that it hands to its own block, or to those of its clauses
abbrev pub handed_around : Handed → Scope → ℕ → Forest → List ℕ
handed_around hand.Nothing s m ps = []
handed_around hand.Parameters s m ps = []
handed_around hand.Range s m ps = first_names m ps
handed_around hand.Switch s m ps = names_of is_bind m ps
handed_around hand.Passed s m ps = s.around

-- where the declarations among a node's parts belong
abbrev pub inside : Scope → NodeKind → ℕ → Forest → Scope
inside s k m ps = record {
  block = cond (role k).opens (m + size ps) s.block;
  within = handed_within (role k).hands m ps;
  around = handed_around (role k).hands s m ps;
}

-- the names of the first part, where a node declares them as it begins, and as it ends
abbrev pub before : Declares → ℕ → Forest → List ℕ
before name.Nothing m ps = []
before name.Before m ps = first_names m ps
before name.After m ps = []
before name.Assigns m ps = []

abbrev pub after : Declares → ℕ → Forest → List ℕ
after name.Nothing m ps = []
after name.Before m ps = []
after name.After m ps = first_names m ps
after name.Assigns m ps = first_names m ps

abbrev pub is_soft : Declares → Bool
is_soft name.Nothing = false
is_soft name.Before = false
is_soft name.After = false
is_soft name.Assigns = true

abbrev pub declare : ℕ → ℕ → Bool → List ℕ → List Named
declare start block soft names = map (λ n. record { node = n; start = start; «end» = block; soft = soft }) names

-- The names that trees declare, in the order in which their regions begin. A local type's region begins at its name, which is the first node of its
-- declaration; that of a constant or variable after its specification, and that of a handed name where the part that takes it begins.
abbrev pub declared : Scope → ℕ → Forest → List Named
declared s m Empty = []
declared s m (Grow k a z ps rest) =
    ((declare m s.block false (cond (role k).takes s.around []) ++ (declare m s.block false (before (role k).declares m ps)
    ++ (declare m (inside s k m ps).block false (cond (role k).takes s.within []) ++ declared (inside s k m ps) m ps)))
    ++ declare (m + suc (size ps)) s.block (is_soft (role k).declares) (after (role k).declares m ps))
    ++ declared s (m + suc (size ps)) rest

-- outside functions: the block is the package's, and is told by the number of the file's nodes
abbrev pub file_scope : Forest → Scope
file_scope f = record { block = size f; within = []; around = [] }

-- the names that a file's trees declare
abbrev pub file_names : Forest → List Named
file_names f = declared (file_scope f) 0 f
