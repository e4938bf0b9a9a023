-- What is kept of a package that was checked: read again, it is the same unit, with the same marks.
use Rattle.std.proofs.Common.{◌≡◌, ℕ, Bool, false, List, length, map, Option, Some, None, option_map, option_and_then, slice_get, slice_index_or, refl, sym, ap, ◌∙◌, subst}
use Rattle.std.proofs.Math.Path.{fun_ext}
use Rattle.std.specs.Global.{Vec}
use Rattle.std.specs.Option.{option_map_or}
use Rattle.std.proofs.lemmas.Option.{slice_get-map}
use Rattle.go_tree.specs.declared.bindings.Object.{Object}
use Rattle.go_tree.specs.declared.tree.FileTree.{FileTree}
use Rattle.go_tree.specs.declared.tree.NodeRef.{NodeRef}
use Rattle.package_faces.specs.Faces.{Face}
use Rattle.type_model.specs.Tables.{Extends, terms_in}
use Rattle.type_model.specs.declared.term.TypeName.{TypeName}
use Rattle.type_model.specs.Tables.{declarations_in}
use Rattle.type_questions.specs.Over.{declared}
use Rattle.typed_marks.specs.declared.item.Item.{Item}
use Rattle.typed_marks.specs.States.{so_far}
use Rattle.unit_read.specs.declared.subject.Subject.{Subject}
use Rattle.unit_read.specs.Imports.{bare}
use Rattle.unit_read.specs.Passages.{passages}
use Rattle.unit_read.specs.Subjects.{cell, flag, full_of, IsRead}
use Rattle.unit_read.specs.Units.{Unit, base_of}
use Rattle.unit_rows.specs.Drafts.{package_unit}
use Rattle.rule_words.specs.Asking.{Rule, type_item, declaration_told}
use Rattle.rule_words.specs.Scenes.{IsScene}
use Rattle.check_pkg.specs.declared.typing.Flags.{Flags}
use Rattle.check_pkg.specs.declared.typing.Typed.{Typed}
use Rattle.check_pkg.specs.Typings.{AreSameFlags, IsTyped, items_of, unit_by}
use Rattle.check_pkg.proofs.Uniqueness.{unit_with}

-- ---- rows that are the same

flag_of : List (List Bool) → NodeRef → Bool
flag_of rows at = option_map_or (λ (row : List Bool). slice_index_or row at.node false) (slice_get rows at.file) false

cell_of : List (List (Option NodeRef)) → NodeRef → Option NodeRef
cell_of rows at = option_and_then (λ (row : List (Option NodeRef)). option_and_then (λ (o : Option NodeRef). o) (slice_get row at.node)) (slice_get rows at.file)

flag_is : (rows : List (Vec Bool)) (at : NodeRef) → flag rows at ≡ flag_of (map items_of rows) at
unfolding flag_of
flag_is rows at = by (slice_get rows at.file) refl where
  by : (o : Option (Vec Bool)) → slice_get rows at.file ≡ o → flag rows at ≡ flag_of (map items_of rows) at
  by None e =
      ap (λ (x : Option (Vec Bool)). option_map_or (λ (row : Vec Bool). slice_index_or row.items at.node false) x false) e
      ∙ sym (ap (λ (x : Option (List Bool)). option_map_or (λ (row : List Bool). slice_index_or row at.node false) x false) (slice_get-map items_of rows at.file ∙ ap (option_map items_of) e))
  by (Some row) e =
      ap (λ (x : Option (Vec Bool)). option_map_or (λ (row : Vec Bool). slice_index_or row.items at.node false) x false) e
      ∙ sym (ap (λ (x : Option (List Bool)). option_map_or (λ (row : List Bool). slice_index_or row at.node false) x false) (slice_get-map items_of rows at.file ∙ ap (option_map items_of) e))

cell_is : (rows : List (Vec (Option NodeRef))) (at : NodeRef) → cell rows at ≡ cell_of (map items_of rows) at
unfolding cell_of
cell_is rows at = by (slice_get rows at.file) refl where
  by : (o : Option (Vec (Option NodeRef))) → slice_get rows at.file ≡ o → cell rows at ≡ cell_of (map items_of rows) at
  by None e =
      ap (λ (x : Option (Vec (Option NodeRef))). option_and_then (λ (row : Vec (Option NodeRef)). option_and_then (λ (o : Option NodeRef). o) (slice_get row.items at.node)) x) e
      ∙ sym (ap (λ (x : Option (List (Option NodeRef))). option_and_then (λ (row : List (Option NodeRef)). option_and_then (λ (o : Option NodeRef). o) (slice_get row at.node)) x) (slice_get-map items_of rows at.file ∙ ap (option_map items_of) e))
  by (Some row) e =
      ap (λ (x : Option (Vec (Option NodeRef))). option_and_then (λ (row : Vec (Option NodeRef)). option_and_then (λ (o : Option NodeRef). o) (slice_get row.items at.node)) x) e
      ∙ sym (ap (λ (x : Option (List (Option NodeRef))). option_and_then (λ (row : List (Option NodeRef)). option_and_then (λ (o : Option NodeRef). o) (slice_get row at.node)) x) (slice_get-map items_of rows at.file ∙ ap (option_map items_of) e))

same_flags : (old new : List (Vec Bool)) → map items_of new ≡ map items_of old → flag new ≡ flag old
same_flags old new same = fun_ext (λ at. flag_is new at ∙ ap (λ (rows : List (List Bool)). flag_of rows at) same ∙ sym (flag_is old at))

same_cells : (old new : List (Vec (Option NodeRef))) → map items_of new ≡ map items_of old → cell new ≡ cell old
same_cells old new same = fun_ext (λ at. cell_is new at ∙ ap (λ (rows : List (List (Option NodeRef))). cell_of rows at) same ∙ sym (cell_is old at))

-- ---- the unit

with_all : (path : List ℕ) (texts : List (List ℕ)) (trees : List FileTree) (uses uses2 : List (NodeRef × Object)) (env : List Face) (r r2 y y2 c c2 : NodeRef → Bool) (o o2 : NodeRef → Option NodeRef)
    → uses ≡ uses2 → r ≡ r2 → y ≡ y2 → c ≡ c2 → o ≡ o2 → unit_with path texts trees uses env r y c o ≡ unit_with path texts trees uses2 env r2 y2 c2 o2
with_all path texts trees uses uses2 env r r2 y y2 c c2 o o2 us rs ys cs os =
    ap (λ (x : List (NodeRef × Object)). unit_with path texts trees x env r y c o) us
    ∙ (ap (λ (x : NodeRef → Bool). unit_with path texts trees uses2 env x y c o) rs
    ∙ (ap (λ (x : NodeRef → Bool). unit_with path texts trees uses2 env r2 x c o) ys
    ∙ (ap (λ (x : NodeRef → Bool). unit_with path texts trees uses2 env r2 y2 x o) cs
    ∙ ap (λ (x : NodeRef → Option NodeRef). unit_with path texts trees uses2 env r2 y2 c2 x) os)))

-- read again over copies of the flags it is the same package
pub copied_unit : (path : List ℕ) (texts : List (List ℕ)) (trees : List FileTree) (env : List Face) (t : Typed) (copy : Flags) → AreSameFlags t.flags copy
    → package_unit path texts trees t.uses env copy.redeclared.items copy.cyclic.items copy.circular.items copy.owners.items ≡ unit_by path texts trees env t
copied_unit path texts trees env t copy same =
    with_all path texts trees t.uses t.uses env (flag copy.redeclared.items) (flag t.flags.redeclared.items) (flag copy.cyclic.items) (flag t.flags.cyclic.items)
    (flag copy.circular.items) (flag t.flags.circular.items) (cell copy.owners.items) (cell t.flags.owners.items) refl
    (same_flags t.flags.redeclared.items copy.redeclared.items same.redeclared) (same_flags t.flags.cyclic.items copy.cyclic.items same.cyclic)
    (same_flags t.flags.circular.items copy.circular.items same.circular) (same_cells t.flags.owners.items copy.owners.items same.owners)

module _ (rule : Unit → Item → Rule) (u : Unit) (t : Typed) (typed : IsTyped rule u t) where
  -- the unit of what is kept is the one by which the package was checked
  pub typed_unit : unit_by u.path u.texts u.trees u.env t ≡ u
  typed_unit =
      with_all u.path u.texts u.trees t.uses u.uses u.env (flag t.flags.redeclared.items) u.redeclared (flag t.flags.cyclic.items) u.cyclic
      (flag t.flags.circular.items) u.circular (cell t.flags.owners.items) u.owner typed.uses typed.redeclared typed.cyclic typed.circular typed.owner

  -- and the package that is read again is marked
  pub typed_scene : (s : Subject) → IsRead s → full_of s ≡ u → Extends s.env.now.types.now (terms_in t.state.table) → IsScene s t.state
  typed_scene s read same extends = record {
    read = read;
    state = typed.state;
    blocks = typed.blocks ∙ ap (λ (v : Unit). length (passages v.trees)) (sym same);
    basics = typed.basics;
    env = extends;
    step = subst (λ (v : Unit). (name : TypeName) → declarations_in t.state.table name ≡ declared (base_of v) (type_item (bare v)) declaration_told (so_far t.state) name) (sym same) typed.step;
  }
