use Rattle.std.proofs.Common.{◌≡◌, ◌∙◌, ℕ, Bool, List, Option, ap, subst}
use Rattle.flow.specs.Passing.{flag_of, AreUnreached}
use Rattle.std.proofs.Math.Path.{fun_ext}
use Rattle.file_flow.specs.File.{calls_panic}
use Rattle.file_flow.proofs.file.unreached_in.Goals as goal

pub unreached-requires-clause-tree : goal.unreached-requires-clause-tree
unreached-requires-clause-tree c = c.spelled_is_a_tree.ensures c.args.bytes.now c.args.tree.now c.requires

pub returns : goal.returns
returns c =
    let same : (n : ℕ) → flag_of c.deref-2.result.now n ≡ calls_panic c.args.bytes.now c.args.tree.now n = λ n. ap (λ (l : List Bool). flag_of l n) c.deref-2.ensures.value ∙ c.in_ok-stops.ensures n in
    record {
      labels = c.in_ok-labels.labels.items;
      told = c.in_ok-labels.ensures;
      are = subst (λ (s : ℕ → Bool). AreUnreached c.args.tree.now c.in_ok-labels.labels.items s c.in_ok-found.found.items) (fun_ext same)
          (subst (λ (l : List (Option ℕ)). AreUnreached c.args.tree.now l (flag_of c.deref-2.result.now) c.in_ok-found.found.items) c.deref.ensures.value c.in_ok-found.ensures);
    }
