use Rattle.std.proofs.Common.{List, map, ap, ◌∙◌, option_map, ◌≡◌}
use Rattle.unit_read.specs.Environments.{faces_in}
use Rattle.unit_read.specs.Imports.{bare}
use Rattle.unit_read.specs.Index.{texts_of}
use Rattle.unit_read.specs.Subjects.{top_name}
use Rattle.unit_read.specs.Units.{named_by, type_name_at, repeater}
use Rattle.unit_rows.specs.Drafts.{package_unit}
use Rattle.unit_rows.proofs.NumberLemmas.{local_there}
use Rattle.unit_rows.proofs.ReadLemmas.{objects_read, places_read, specs_read, leads_read, locals_read}
use Rattle.unit_read.specs.Entries.{entry}
use Rattle.unit_read.specs.declared.passage.Passage.{Passage}
use Rattle.unit_rows.specs.Rows.{first_for}
use Rattle.type_model.specs.declared.term.TypeName.{TypeName}
use Rattle.go_tree.specs.declared.tree.NodeRef.{NodeRef}
use Rattle.unit_rows.proofs.reader.read_unit.Goals as goal

pub local_rows-requires : goal.local_rows-requires
local_rows-requires c =
    let u = bare (package_unit c.args.path.now (texts_of c.args.texts.now) c.args.trees.now c.args.uses.now (faces_in c.args.env.now) c.args.redeclared.items c.args.cyclic.items c.args.circular.items c.args.owners.items) in
    places_read u c.in_ok-places.places.items c.in_ok-places.ensures

pub named_types-requires : goal.named_types-requires
named_types-requires c =
    let u = bare (package_unit c.args.path.now (texts_of c.args.texts.now) c.args.trees.now c.args.uses.now (faces_in c.args.env.now) c.args.redeclared.items c.args.cyclic.items c.args.circular.items c.args.owners.items) in
    places_read u c.in_ok-places.places.items c.in_ok-places.ensures

pub returns-clause-read : goal.returns-clause-read
returns-clause-read c =
    let full = package_unit c.args.path.now (texts_of c.args.texts.now) c.args.trees.now c.args.uses.now (faces_in c.args.env.now) c.args.redeclared.items c.args.cyclic.items c.args.circular.items c.args.owners.items in
    let u = bare full in
    let numbers : (at : NodeRef) → entry c.in_ok-locals.locals.items at ≡ option_map (λ (n : TypeName). n.local) (type_name_at u at) = λ at. c.in_ok-locals.ensures at ∙ locals_read u c.in_ok-defined.defined.items c.in_ok-local_cells.local_cells.items c.in_ok-defined.ensures c.in_ok-local_cells.ensures at in
    record {
      blocks = c.in_ok-passages.ensures;
      objects = objects_read u c.in_ok-objects.objects.items c.in_ok-objects.ensures;
      places = places_read u c.in_ok-places.places.items c.in_ok-places.ensures;
      specs = λ at. c.in_ok-specs.ensures at ∙ specs_read u at;
      env = c.requires.env;
      leads = λ at. c.in_ok-leads.ensures at ∙ leads_read full c.in_ok-lead_cells.lead_cells.items c.in_ok-lead_cells.ensures at;
      types = c.in_ok-defined.ensures;
      locals = λ k at there. numbers at ∙ local_there u k at there;
      inside = numbers;
      repeats = c.in_ok-repeats.ensures;
      methods = c.in_ok-methods.ensures.methods;
      repeated = c.in_ok-methods.ensures.repeated;
      copies = λ at. c.in_ok-copies.ensures at ∙ ap (λ (xs : List Passage). first_for c.args.trees.now (map repeater xs) at) (c.deref.ensures.value ∙ c.in_ok-passages.ensures);
      named = λ q. c.in_ok-named.ensures q ∙ ap (named_by u (top_name u q)) c.in_ok-defined.ensures;
      texts = c.requires.texts;
    }
