use Rattle.std.proofs.Common.{List, sym, ◌∙◌, subst}
use Rattle.typed_tree.specs.Basics.{HasBasics}
use Rattle.check_pkg.specs.declared.typing.Typed.{Typed}
use Rattle.action_graph.specs.Nodes.{Named}
use Rattle.go_kit.specs.Returning.{AreRead}
use Rattle.go_kit.proofs.KnownLemmas.{read_all}
use Rattle.go_kit.proofs.loaded.loaded_of.Goals as goal

pub returns-clause-of : goal.returns-clause-of
returns-clause-of c = record { few = c.requires.few; files = c.requires.files; typed = c.requires.typed }

pub returns-clause-keeps : goal.returns-clause-keeps
returns-clause-keeps c =
    let over = c.requires.typed in
    record {
      basics = subst (λ (t : Typed). HasBasics t.state.table) over.accepted.typed over.accepted.comes.comes.typed.basics;
      known = c.requires.known;
      read =
          subst (λ (texts : List Named). AreRead c.args.typed.state.table texts c.args.env.items) (sym (c.in_ok-texts.ensures ∙ c.as_slice.ensures))
          (read_all c.args.typed.state.table c.args.input.now.env c.args.env.items over.within over.faces);
    }
