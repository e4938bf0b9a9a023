use Rattle.std.proofs.Common.{ℕ, List, map, sym, subst}
use Rattle.go_tree.specs.declared.tree.FileTree.{FileTree}
use Rattle.action_graph.specs.Judging.{AreInterfaces, text_of}
use Rattle.package_faces.specs.declared.interface.Interface.{Interface}
use Rattle.package_faces.specs.Interfaces.{faces_of, AreInterfacesIn}
use Rattle.type_model.specs.Tables.{count, types_in}
use Rattle.go_kit.specs.Loading.{IsTypedOver}
use Rattle.go_kit.specs.Reading.{AreFilesOf}
use Rattle.go_kit.proofs.KnownLemmas.{all_grow, known_after, read_after}
use Rattle.go_kit.proofs.loading.load_env.Goals as goal

pub load_over-requires-clause-files : goal.load_over-requires-clause-files
load_over-requires-clause-files c = subst (λ (trees : List FileTree). AreFilesOf (map text_of c.args.input.now.files) trees) (sym c.deref.ensures.value) c.requires.files

pub load_over-requires-clause-within : goal.load_over-requires-clause-within
load_over-requires-clause-within c =
    subst (λ (list : List Interface). AreInterfacesIn (count c.args.table) (types_in c.args.table) list) (sym c.deref-2.ensures.value) c.requires.within

pub load_over-requires-clause-read : goal.load_over-requires-clause-read
load_over-requires-clause-read c =
    subst (λ (list : List Interface). AreInterfaces c.args.input.now.env (faces_of (types_in c.args.table) list)) (sym c.deref-2.ensures.value) c.requires.read

pub loaded_of-requires-clause-typed : goal.loaded_of-requires-clause-typed
loaded_of-requires-clause-typed c =
    subst (λ (trees : List FileTree). IsTypedOver c.args.input.now trees c.args.env.items c.in-Accepted.typed) c.deref.ensures.value
    (subst (λ (list : List Interface). IsTypedOver c.args.input.now c.deref.result.now list c.in-Accepted.typed) c.deref-2.ensures.value (rw c.in-Accepted.is at c.in_ok-load.ensures.accepted))

pub loaded_of-requires-clause-known : goal.loaded_of-requires-clause-known
loaded_of-requires-clause-known c = all_grow c.args.table c.in-Accepted.typed.state.table c.args.known (rw c.in-Accepted.is at c.in_ok-load.ensures.grown) c.requires.known

pub kept_after-requires-clause-known : goal.kept_after-requires-clause-known
kept_after-requires-clause-known c = known_after c.args.table c.in_ok-load.after c.args.known c.in_ok-load.ensures.extends c.requires.known

pub kept_after-requires-clause-read : goal.kept_after-requires-clause-read
kept_after-requires-clause-read c =
    read_after c.args.table c.in_ok-load.after c.as_slice.result.now c.args.input.now.env c.args.env.items c.as_slice.ensures c.in_ok-load.ensures.extends c.requires.within c.requires.read

pub returns-in_ok-loaded-in-Accepted-clause-read : goal.returns-in_ok-loaded-in-Accepted-clause-read
returns-in_ok-loaded-in-Accepted-clause-read c = λ r. rw c.in-Accepted.is at (c.in_ok-load.ensures.read r)

pub returns-in_ok-kept-in-Refused-clause-read : goal.returns-in_ok-kept-in-Refused-clause-read
returns-in_ok-kept-in-Refused-clause-read c = λ r. rw c.in-Refused.is at (c.in_ok-load.ensures.read r)
