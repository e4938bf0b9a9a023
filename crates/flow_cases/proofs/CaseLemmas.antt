-- A parsed file is spelled, and one graph is all graphs of one file.
use Rattle.std.proofs.Common.{◌≡◌, ◌<◌, ℕ, zero, suc, List, [], ◌∷◌, length, Some, sym, ap, ◌∙◌, subst, arith}
use Rattle.std.specs.Prelude.{slice_get}
use Rattle.std.proofs.lemmas.Option.{same_Some, slice_get_within}
use Rattle.go_tree.specs.declared.token.Token.{Token}
use Rattle.go_tree.specs.declared.tree.FileTree.{FileTree}
use Rattle.go_tree.specs.Pieces.{Spelled}
use Rattle.parse_file.specs.Verdict.{IsParsed}
use Rattle.flow.specs.Search.{IsGraph}
use Rattle.never_returns.specs.declared.files.FileFlow.{FileFlow}

-- a tree that is parsed is spelled by its own tokens
pub parsed_spelled : (text : List ℕ) (t : FileTree) → IsParsed text t → Spelled t.tokens text t
parsed_spelled text t p = subst (λ (ts : List Token). Spelled ts text t) (ap (λ (u : FileTree). u.tokens) p.spelled.arena) p.spelled

pub graph_at : (file : FileFlow) (k : ℕ) (f : FileFlow) → slice_get (file ∷ []) k ≡ Some f → IsGraph file.tree.now file.labels.now file.graph.now → IsGraph f.tree.now f.labels.now f.graph.now
graph_at file zero f e graph = subst (λ (x : FileFlow). IsGraph x.tree.now x.labels.now x.graph.now) (same_Some file f e) graph
graph_at file (suc k) f e graph = absurd (let low = slice_get_within [] k f e in omega (arith, low))
