-- A file that was read.
use Rattle.std.proofs.Common.{◌≡◌, ℕ, ◌<◌, ◌≤◌, ◌+◌, List, [], length, get_or, Bool, None, sym, ap, ◌∙◌, subst, arith}
use Rattle.std.specs.List.{All}
use Rattle.scopes.specs.declared.scope.Named.{Named}
use Rattle.go_tree.specs.declared.tree.FileTree.{FileTree}
use Rattle.go_tree.specs.Arena.{arena_of, size}
use Rattle.go_tree.specs.Forest.{Forest}
use Rattle.go_tree.specs.Pieces.{Spelled}
use Rattle.scopes.specs.Regions.{declared, file_scope, file_names}
use Rattle.scopes.specs.declared.visible.Declaration.{Declaration}
use Rattle.file_uses.specs.Assigned.{AreFlagged, AreUses}
use Rattle.scopes.specs.Denotes.{IsFlags, AreAnswered}
use Rattle.scopes.specs.Laid.{AreLaid}
use Rattle.file_uses.specs.Locals.{AreAnsweredBy, LocalAnswer}
use Rattle.file_uses.specs.Numbers.{name_in, IsNumbering}
use Rattle.file_uses.specs.Read.{AreLocals}
use Rattle.scopes.specs.Walk.{Shows, IsFormed}
use Rattle.file_uses.specs.declared.file.Locals.{Locals}
use Rattle.file_uses.proofs.ArenaLemmas.{shown, count, formed, roots_low}
use Rattle.file_uses.proofs.AssignedLemmas.{all_uses}
use Rattle.file_uses.proofs.LocalLemmas.{by_number, all_answers}
use Rattle.scopes.proofs.RegionLemmas.{laid}

-- the names that were collected are the file's
pub names_are : (tree : FileTree) (f : Forest) (names : List Named) → arena_of tree.tokens f ≡ tree
    → ((g : Forest) → Shows tree.nodes 0 tree.tops g → names ≡ declared (record { block = length tree.nodes; within = []; around = [] }) 0 g) → names ≡ file_names f
names_are tree f names arena is =
    is f (shown tree.tokens f tree arena) ∙ ap (λ n. declared (record { block = n; within = []; around = [] }) 0 f) (count tree.tokens f tree arena)

pub file_laid : (f : Forest) → AreLaid (file_names f)
file_laid f = laid (file_scope f) 0 f (same (size f)) where
  same : (n : ℕ) → 0 + n ≤ n
  same n = omega arith

pub spelled_formed : (tree : FileTree) (source : List ℕ) → Spelled tree.tokens source tree → IsFormed tree.nodes
spelled_formed tree source is = formed tree.tokens is.forest tree is.arena

pub spelled_tops : (tree : FileTree) (source : List ℕ) → Spelled tree.tokens source tree → All (λ k. k < length tree.nodes) tree.tops
spelled_tops tree source is =
    subst (λ (x : List ℕ). All (λ k. k < length tree.nodes) x) (ap (λ (t : FileTree). t.tops) is.arena)
    (roots_low 0 (length tree.nodes) is.forest (low (size is.forest) (length tree.nodes) (sym (count tree.tokens is.forest tree is.arena)))) where
      low : (a b : ℕ) → a ≡ b → 0 + a ≤ b
      low a b e = omega arith

pub spelled_laid : (tree : FileTree) (source : List ℕ) (names : List Named) → Spelled tree.tokens source tree
    → ((g : Forest) → Shows tree.nodes 0 tree.tops g → names ≡ declared (record { block = length tree.nodes; within = []; around = [] }) 0 g) → AreLaid names
spelled_laid tree source names is collected =
    subst (λ (x : List Named). AreLaid x) (sym (names_are tree is.forest names is.arena collected)) (file_laid is.forest)

pub read : (bytes : List ℕ) (tree : FileTree) (l : Locals) (numbers : List ℕ) (high : ℕ) (declarations : List Declaration) (first : List Bool)
    → IsNumbering (name_in bytes tree) (length tree.nodes) numbers high
    → ((g : Forest) → Shows tree.nodes 0 tree.tops g → l.names.items ≡ declared (record { block = length tree.nodes; within = []; around = [] }) 0 g)
    → declarations ≡ by_number numbers (length tree.nodes) l.names.items → IsFlags declarations first → AreAnsweredBy declarations numbers l.answers.items
    → AreFlagged tree.nodes l.names.items numbers high first l.uses.items
    → (f : Forest) → arena_of tree.tokens f ≡ tree → AreLocals bytes tree f l
read bytes tree l numbers high declarations first is collected numbered firsts by flagged f arena =
    let names = names_are tree f l.names.items arena collected in
    let by_num : IsFlags (by_number numbers (length tree.nodes) l.names.items) first = subst (λ (x : List Declaration). IsFlags x first) numbered firsts in
    let answers_are : AreAnswered (by_number numbers (length tree.nodes) l.names.items) by.uses l.answers.items = subst (λ (x : List Declaration). AreAnswered x by.uses l.answers.items) numbered by.answered in
    record {
      names = names;
      uses = subst (λ (x : List Named). AreUses (name_in bytes tree) tree.nodes x l.uses.items) names
          (all_uses (name_in bytes tree) (length tree.nodes) high numbers tree.nodes is l.names.items first flagged.once flagged.plain l.uses.items by_num flagged.onces flagged.plains flagged.marked);
      size = (let a = answers_are.0 in let b = by.all.0 in let c = is.size in omega arith);
      answers = λ n low. subst (λ (x : List Named). LocalAnswer (name_in bytes tree) (length tree.nodes) x n (get_or l.answers.items n None)) names
          (all_answers (name_in bytes tree) (length tree.nodes) high numbers is l.names.items by.uses l.answers.items by.all answers_are n (let c = is.size in omega arith));
    }
