-- The rules decide what selectors select: a selector without a fault has a mark that came from the answer to the question what its name selects.
use Rattle.std.proofs.Common.{◌≡◌, ◌⊎◌, inl, inr, ℕ, ◌||◌, nat_lt, Bool, true, false, if◌then◌else◌, List, [], ◌∷◌, map, length, Option, Some, None, unwrap_or, option_and_then, slice_get, refl, sym, ap, ◌∙◌, subst}
use Rattle.std.proofs.Math.Path.{fun_ext}
use Rattle.std.specs.Option.{option_or, option_map_or}
use Rattle.std.proofs.lemmas.Option.{same_Some, slice_get_within}
use Rattle.go_tree.specs.declared.tree.FileTree.{FileTree}
use Rattle.go_tree.specs.declared.tree.Node.{Node}
use Rattle.go_tree.specs.declared.tree.NodeKind.{NodeKind}
use Rattle.go_tree.specs.declared.tree.NodeKind.TheVariants as k
use Rattle.go_tree.specs.declared.tree.NodeRef.{NodeRef}
use Rattle.go_tree.specs.declared.token.Token.{Token}
use Rattle.go_tree.specs.Pieces.{Spelled}
use Rattle.mark_walk.specs.Asks.{done, ask, put, bind, Gives, Annotates}
use Rattle.method_sets.specs.Levels.{Chosen, EnoughToSelect, NeedsToSelect, SaysSelected}
use Rattle.method_sets.specs.Members.{Name}
use Rattle.node_values.specs.Trees.{IsTree}
use Rattle.node_values.proofs.TreeLemmas.{spelled_tree}
use Rattle.object_order.specs.Spots.{place}
use Rattle.package_faces.specs.Faces.{Face}
use Rattle.package_objects.specs.Declares.{gather, items, part, is_list}
use Rattle.type_model.specs.declared.term.TypeName.{TypeName}
use Rattle.type_model.specs.Declarations.{Declarations}
use Rattle.type_model.specs.GoTypes.{GoType}
use Rattle.type_questions.specs.declared.reached.Reached.{Reached}
use Rattle.type_questions.specs.declared.reached.Reached.TheVariants.{Got, Lost}
use Rattle.type_questions.specs.Over.{says_over, declared}
use Rattle.type_questions.specs.Questions.{Told, Selecting}
use Rattle.typed_tree.specs.declared.place.Want.{Want as Demand}
use Rattle.typed_tree.specs.declared.rule.TheConstants.{NOT_A_TYPE}
use Rattle.typed_tree.specs.Places.{is_package}
use Rattle.typed_marks.specs.declared.item.Item.{Item}
use Rattle.typed_marks.specs.declared.item.Stage.{Stage}
use Rattle.typed_marks.specs.declared.item.Stage.TheVariants as s
use Rattle.typed_marks.specs.Items.{is_item, is_nowhere}
use Rattle.typed_marks.specs.Meanings.{Known, Meaning, Wish, Right, Wrong, Beyond, Quiet, Wishes, Declares}
use Rattle.unit_read.specs.declared.passage.Passage.{Passage}
use Rattle.unit_read.specs.declared.place.Place.{Place}
use Rattle.unit_read.specs.Imports.{bare}
use Rattle.unit_read.specs.Places.{place_of}
use Rattle.unit_read.specs.Units.{Unit, tree_at, nodes_of, nodes_at, node_at, place_at, last_spelled, is_blank, base_of}
use Rattle.rule_words.specs.Asking.{Asks, Rule, type_item, item, is_within, stands, mark_ask, nowhere_of, declarer, declaration_told, marked_part, part_ask, ask_each, parts_ask}
use Rattle.rule_words.specs.declared.read.How.TheVariants as h
use Rattle.rule_words.specs.declared.read.Read.{Read}
use Rattle.rule_words.specs.Parts.{Part, part_at, read_as, slot_reads}
use Rattle.rule_words.specs.Words.{Wanted, need, wanted_in}
use Rattle.type_answers.specs.Answering.{says_of}
use Rattle.type_answers.specs.Asked.{select_ask, chosen_told}
use Rattle.elaborate.specs.Walks.{blocks_of, item_rule}
use Rattle.elaborate.proofs.NowhereLemmas.{nowhere_rule}
use Rattle.selected_methods.specs.Owners.{is_selector, is_good, judged, type_placed, owner_part, owner_good, owner_in, selected_name}
use Rattle.selected_methods.specs.Selected.{to_select, declared_by}
use Rattle.op_rules.specs.Forms.{form_of as op_form_of}
use Rattle.op_rules.specs.Names.{blank, owned, owner_at as op_owner_at, selector_rule as op_selector_rule}
use Rattle.op_rules.specs.Placed.{placed_rule}
use Rattle.op_rules.specs.Rules.{form_rule as op_form_rule, dotted_rule, freed_rule, free_ask, op_rule}
use Rattle.primary_rules.specs.Forms.{form_of}
use Rattle.primary_rules.specs.Rules.{name_in, owner_rule, owned_rule, selector_rule, form_rule}
use Rattle.primary_rules.specs.Selecting.{select_told, select_rule}
use Rattle.go_rules.specs.declared.family.Family.{Family}
use Rattle.go_rules.specs.declared.role.Role.{Role}
use Rattle.go_rules.specs.declared.role.Role.TheVariants as r
use Rattle.go_rules.specs.Families.{family, reads_by, node_reads, rule_by}
use Rattle.assign_rules.specs.Around.{clause_of}
use Rattle.go_rules.specs.Own.{is_own_type}
use Rattle.go_rules.specs.Roles.{is_name, name_role, role_in, role_beside, role_at, clause_for}
use Rattle.go_rules.specs.Statements.{switched_rule}
use Rattle.go_rules.specs.Stages.{from_parts, parts_read, with_parts, judged_with, judged_plain, judged_as, placed_with, placed_plain, placed_at, placed_after, stage_rule, node_rule, nth_rule, file_rule, number, rule}
use Rattle.check_pkg.specs.Refusals.{IsAnnotation}
use Rattle.action_graph.proofs.StayFaces.{bound_some, contains_at}
use Rattle.action_graph.proofs.StayImports.{Within}
use Rattle.action_graph.proofs.StayKinds.{selector_kind, list_name, list_family, good_right, told_right, below, gather_front, blank_wrong}
use Rattle.action_graph.proofs.StayPlaces.{passage_first, list_nowhere}
use Rattle.action_graph.proofs.StaySelected.{AllDecided}

-- ---- what rules give

module _ (u : Unit) (marks : Item → Meaning) where
  abbrev Spoken : {R : Type 0} → Asks R → R → Type 0
  Spoken rule x = Gives (says_of u) (λ j. Some (marks j)) rule x

  bind_gives : {R S : Type 0} (first : Asks R) (rest : R → Asks S) (x : S) → Spoken (bind first rest) x → (y : R) × Spoken first y × Spoken (rest y) x
  bind_gives (done y) rest x h = (y, refl, h)
  bind_gives (ask i more) rest x (n, at, h) = let z = bind_gives (more n) rest x h in (z.0, (n, at, z.1), z.2)
  bind_gives (put q more) rest x (a, is, h) = let z = bind_gives (more a) rest x h in (z.0, (a, is, z.1), z.2)

  -- what questions are answered over
  abbrev Over : Declarations
  Over = declared (base_of u) (declarer (bare u)) declaration_told (λ i. Some (marks i))

  -- enough is declared to say what the name selects from the type
  abbrev Decided : Declarations → GoType → Name → Type 0
  Decided ds t name = EnoughToSelect ds (record { of = t; name = name }) × ((c : Chosen) × SaysSelected ds (record { of = t; name = name }) c)

  -- a good mark came from an answer
  chosen_decided : (b : Unit) (name : Name) (x y : Known) → Spoken (select_rule b name x) (Right y) → Decided (declared (base_of u) (declarer (bare u)) declaration_told (λ i. Some (marks i))) x.of name
  unfolding select_rule select_ask
  chosen_decided b name x y (told, (reached, is, said), more) = by reached is said where
    by : (c : Reached Chosen) → told ≡ Selecting c
        → says_over (base_of u) (declarer (bare u)) declaration_told EnoughToSelect NeedsToSelect SaysSelected (λ j. Some (marks j)) (record { of = x.of; name = name }) c
        → Decided (declared (base_of u) (declarer (bare u)) declaration_told (λ i. Some (marks i))) x.of name
    by (Got c) e said = (said.0, (c, said.1))
    by Lost e said = absurd (let given : Spoken (select_told b name x (chosen_told (Selecting Lost))) (Right y) = subst (λ (t : Told). Spoken (select_told b name x (chosen_told t)) (Right y)) e more in cc)

  module _ (annotates : Annotates (says_of u) (item_rule rule u) marks) where
    -- what is said is given by the item's own rule
    rule_gives : (i : Item) (m : Meaning) → marks i ≡ m → (Quiet ≡ m) ⊎ Spoken (rule (bare u) i) m
    rule_gives i m is = by (is_item (blocks_of u) i) (is_nowhere (blocks_of u) i) (subst (λ (x : Meaning). Spoken (item_rule rule u i) x) is (annotates i)) where
      by : (own none : Bool) → Spoken (if own then rule (bare u) i else (if none then ask i (λ (x : Meaning). done Quiet) else done Quiet)) m → (Quiet ≡ m) ⊎ Spoken (rule (bare u) i) m
      by true none h = inr h
      by false true (x, at, h) = inl h
      by false false h = inl h

    -- from the node of the item, at its stage
    abbrev FromNode : Stage → ℕ → ℕ → FileTree → Meaning → Type 0
    FromNode stage f n tree m = (node : Node) × (slice_get tree.nodes n ≡ Some node) × Spoken (stage_rule stage (bare u) f (place f n) node) m

    descend : (stage : Stage) (f n : ℕ) (tree : FileTree) (m : Meaning) → tree_at u f ≡ Some tree → Spoken (rule (bare u) (item stage f n)) m → (Quiet ≡ m) ⊎ FromNode stage f n tree m
    descend stage f n tree m at h = in_file (nat_lt n 4294967296) (subst (λ (o : Option Passage). Spoken (option_map_or (file_rule (bare u) (item stage f n)) o (done Quiet)) m) (passage_first u.trees f tree at) h) where
      in_node : (o : Option Node) → slice_get tree.nodes n ≡ o → Spoken (option_map_or (node_rule (bare u) (item stage f n) (place f n)) o (done Quiet)) m → (Quiet ≡ m) ⊎ FromNode stage f n tree m
      in_node None none h = inl h
      in_node (Some node) here h = inr (node, here, h)

      in_file : (b : Bool) → Spoken (option_map_or (nth_rule (bare u) (item stage f n) f) (if b then Some n else None) (done Quiet)) m → (Quiet ≡ m) ⊎ FromNode stage f n tree m
      in_file true h =
          in_node (slice_get tree.nodes n) refl
          (subst (λ (o : Option FileTree). Spoken (option_map_or (node_rule (bare u) (item stage f n) (place f n)) (slice_get (nodes_of o) n) (done Quiet)) m) at h)
      in_file false h = inl h

    said_at : (stage : Stage) (f n : ℕ) (tree : FileTree) (m : Meaning) → tree_at u f ≡ Some tree → marks (item stage f n) ≡ m → (Quiet ≡ m) ⊎ FromNode stage f n tree m
    said_at stage f n tree m at is = elim (rule_gives (item stage f n) m is) [
      | inl none ↦ inl none
      | inr h ↦ descend stage f n tree m at h
    ]

    good_at : (stage : Stage) (f n : ℕ) (tree : FileTree) (y : Known) → tree_at u f ≡ Some tree → marks (item stage f n) ≡ Right y → FromNode stage f n tree (Right y)
    good_at stage f n tree y at is = elim (said_at stage f n tree (Right y) at is) [
      | inl none ↦ absurd cc
      | inr h ↦ h
    ]

    -- the mark that is asked for
    asked : (stage : Stage) (f n : ℕ) (tree : FileTree) (node : Node) (m : Meaning) → tree_at u f ≡ Some tree → slice_get tree.nodes n ≡ Some node → Spoken (mark_ask (bare u) stage f n) m → marks (item stage f n) ≡ m
    asked stage f n tree node m at here h =
        let there : stands (bare u) f n ≡ true =
        ap (λ (o : Option Passage). option_map_or (λ (p : Passage). is_within p.span n) o false) (passage_first u.trees f tree at) ∙ below n (length tree.nodes) (slice_get_within tree.nodes n node here) in
        let given = subst (λ (b : Bool). Spoken (if b then ask (item stage f n) (λ (x : Meaning). done x) else done Quiet) m) there h in
        same_Some (marks (item stage f n)) given.0 given.1 ∙ given.2

    -- ---- a node that is no name, as it is judged

    role_part : (at : NodeRef) (node : Node) → is_name node.kind ≡ false → role_at (bare u) at node ≡ r.Part
    role_part at node plain = by (place_at (bare u) at) where
      beside : (p : Place) (o : Option Node) → option_map_or (role_in (bare u) at node p) o r.Part ≡ r.Part
      beside p None = refl
      beside p (Some around) = ap (λ (b : Bool). if b then name_role (bare u) at around.kind p.slot else r.Part) plain

      by : (o : Option Place) → option_map_or (role_beside (bare u) at node) o r.Part ≡ r.Part
      by None = refl
      by (Some p) = beside p (node_at (bare u) (place at.file p.around))

    abbrev ByParts : ℕ → NodeRef → Node → Known → Type 0
    ByParts f at node y = (w : Wanted) × (ps : List Part) × Spoken (parts_read (bare u) s.Placed f at node) ps × Spoken (rule_by (family node.kind) (bare u) f at node ps w) (Right y)

    judged_parts : (f : ℕ) (at : NodeRef) (node : Node) (y : Known) → is_name node.kind ≡ false → Spoken (stage_rule s.Judged (bare u) f at node) (Right y) → ByParts f at node y
    judged_parts f at node y plain h =
        let part = subst (λ (x : Role). Spoken (judged_as x (bare u) f at node) (Right y)) (role_part at node plain) h in
        let no_clause : clause_for (bare u) at node ≡ None = ap (λ (b : Bool). if b then clause_of (bare u) at else None) plain in
        let own = subst (λ (o : Option ℕ). Spoken (option_map_or (switched_rule (bare u) at.file) o (judged_plain (bare u) f at node)) (Right y)) no_clause part in
        let want = bind_gives (mark_ask (bare u) s.Wanted f at.node) (judged_with (bare u) f at node) (Right y) own in
        wanting (is_own_type (bare u) at node (wanted_in want.0)) (wanted_in want.0) want.2
      where
        wanting : (own : Bool) (w : Wanted) → Spoken (if own then done (Wrong NOT_A_TYPE) else with_parts (bare u) s.Placed f at node w) (Right y) → ByParts f at node y
        wanting true w h = absurd cc
        wanting false w h = let z = bind_gives (parts_read (bare u) s.Placed f at node) (from_parts (bare u) f at node w) (Right y) h in (w, z.0, z.1, z.2)

    -- nothing is said of a list
    list_unsaid : (f n : ℕ) (node : Node) (y : Known) → is_list node.kind ≡ true → Spoken (stage_rule s.Judged (bare u) f (place f n) node) (Right y) → ⊥
    list_unsaid f n node y list h =
        let z = judged_parts f (place f n) node y (list_name node.kind list) h in
        let quiet = subst (λ (x : Family). Spoken (rule_by x (bare u) f (place f n) node z.1 z.0) (Right y)) (list_family node.kind list) z.3 in cc

    -- ---- what stands before the dot, in its place

    module _ (f n m : ℕ) (tree : FileTree) (spelled : IsTree tree.nodes) (at : tree_at u f ≡ Some tree) (node under : Node) (here : slice_get tree.nodes n ≡ Some node) (kind : node.kind ≡ k.Selector)
        (first : part node 0 ≡ Some m) (there : slice_get tree.nodes m ≡ Some under) where
      nodes_are : nodes_at (bare u) f ≡ tree.nodes
      nodes_are = ap nodes_of at

      -- a list has no good mark in its place
      bad_stays : (j : Meaning) (y : Known) → ((x : Known) → j ≡ Right x → ⊥) → Spoken (placed_plain (bare u) f (place f m) j) (Right y) → ⊥
      bad_stays j y bad h = let z = bind_gives (mark_ask (bare u) s.Wanted f m) (placed_with (bare u) j) (Right y) h in by j (wanted_in z.0) bad z.2 where
        by : (x : Meaning) (w : Wanted) → ((k : Known) → x ≡ Right k → ⊥) → Spoken (placed_rule (bare u) w x) (Right y) → ⊥
        by (Right x) w bad h = bad x refl
        by (Wrong number) w bad h = cc
        by (Beyond limit) w bad h = cc
        by Quiet w bad h = cc
        by (Wishes d wish) w bad h = cc
        by (Declares d) w bad h = cc

      no_list : (x : Known) → marks (item s.Placed f m) ≡ Right x → (b : Bool) → is_list under.kind ≡ b → is_list under.kind ≡ false
      no_list x placed false plain = plain
      no_list x placed true list =
          let given = good_at s.Placed f m tree x at placed in
          let z = bind_gives (mark_ask (bare u) s.Judged f m) (placed_after (bare u) f (place f m) given.0) (Right x) given.2 in
          let judged_is : marks (item s.Judged f m) ≡ z.0 = asked s.Judged f m tree under z.0 at there z.1 in
          let plain : is_list node.kind ≡ false = ap is_list kind in
          let none : place_of tree.nodes m ≡ None = list_nowhere tree.nodes spelled n m node under here plain (contains_at node.parts 0 m first) there list in
          let nowhere : place_at (bare u) (place f m) ≡ None =
          ap (λ (ns : List Node). option_and_then (λ (y : Node). place_of ns m) (slice_get ns m)) nodes_are ∙ (ap (option_and_then (λ (y : Node). place_of tree.nodes m)) there ∙ none) in
          let plainly = subst (λ (o : Option Place). Spoken (option_map_or (placed_at (bare u) f (place f m) given.0 z.0) o (placed_plain (bare u) f (place f m) z.0)) (Right x)) nowhere z.2 in
          absurd (bad_stays z.0 x (λ v e. (
          let judged = good_at s.Judged f m tree v at (judged_is ∙ e) in
          let same : judged.0 ≡ under = same_Some judged.0 under (sym judged.1 ∙ there) in
          list_unsaid f m under v list (subst (λ (y : Node). Spoken (stage_rule s.Judged (bare u) f (place f m) y) (Right v)) same judged.2))) plainly)

      -- ---- the selector by its part

      items_one : is_list under.kind ≡ false → items tree.nodes (part node 0) ≡ m ∷ []
      items_one plain =
          ap (items tree.nodes) first
          ∙ (ap (λ (o : Option Node). option_map_or (λ (x : Node). if is_list x.kind then x.parts else m ∷ []) o []) there ∙ ap (λ (b : Bool). if b then under.parts else m ∷ []) plain)

      first_read : is_list under.kind ≡ false → (xs : List Read) × (node_reads (nodes_at (bare u) f) node ≡ read_as h.Mark m ∷ xs)
      unfolding form_of
      first_read plain =
          let g : ℕ → List Read = λ slot. slot_reads (reads_by (family k.Selector) k.Selector slot) (items tree.nodes (part node slot)) in
          let front = gather_front g (length node.parts) (read_as h.Mark m) (slice_get_within node.parts 0 m first) (ap (map (read_as h.Mark)) (items_one plain)) in (
            front.0,
            ap (λ (ns : List Node). node_reads ns node) nodes_are
                ∙ (ap (λ (x : NodeKind). gather (λ slot. slot_reads (reads_by (family x) x slot) (items tree.nodes (part node slot))) (length node.parts)) kind ∙ front.1),
          )

      first_part : (ps : List Part) → is_list under.kind ≡ false → Spoken (parts_read (bare u) s.Placed f (place f n) node) ps → marks (item s.Placed f m) ≡ (part_at ps 0).mark
      first_part ps plain spoken =
          let read = first_read plain in
          let each = subst (λ (l : List Read). Spoken (parts_ask (bare u) s.Placed f l) ps) read.1 spoken in
          let one = bind_gives (part_ask (bare u) s.Placed f (read_as h.Mark m)) (λ p. bind (ask_each (part_ask (bare u) s.Placed f) read.0) (λ rest. done (p ∷ rest))) ps each in
          let all = bind_gives (ask_each (part_ask (bare u) s.Placed f) read.0) (λ rest. done (one.0 ∷ rest)) ps one.2 in
          let mark = bind_gives (mark_ask (bare u) s.Placed f m) (λ x. marked_part (bare u) h.Mark x) one.0 one.1 in
          asked s.Placed f m tree under mark.0 at there mark.1 ∙ (ap (λ (p : Part). p.mark) mark.2 ∙ ap (λ (l : List Part). (part_at l 0).mark) all.2)

      -- by operands alone a selector without a package before it has no good mark
      needed : (y : Known) (mark : Meaning) (rest : Known → Rule) → ((x : Known) → mark ≡ Right x → ⊥) → Spoken (need mark rest) (Right y) → ⊥
      needed y (Right x) rest never h = never x refl
      needed y (Wrong rule) rest never h = cc
      needed y (Beyond limit) rest never h = cc
      needed y Quiet rest never h = cc
      needed y (Wishes d wish) rest never h = cc
      needed y (Declares d) rest never h = cc

      op_named : (ps : List Part) (d : Demand) (wish : Wish) (y : Known) (b : Bool) → is_blank (last_spelled (bare u) f node) ≡ b → (is_blank (last_spelled (bare u) f node) ≡ true) ⊎ ((x : Known) → (part_at ps 0).mark ≡ Right x → ⊥)
          → Spoken (if b then done (blank d wish) else owned (bare u) (last_spelled (bare u) f node) (op_owner_at (bare u) (place f n) node) wish (part_at ps 0).mark) (Right y) → ⊥
      op_named ps d wish y true is why h = blank_wrong d wish y h
      op_named ps d wish y false is (inl blank) h = cc
      op_named ps d wish y false is (inr never) h = needed y (part_at ps 0).mark _ never h

      op_bad : (ps : List Part) (w : Wanted) (y : Known) → (is_blank (last_spelled (bare u) f node) ≡ true) ⊎ ((x : Known) → (part_at ps 0).mark ≡ Right x → ⊥)
          → Spoken (op_rule (bare u) f (place f n) node ps w) (Right y) → ⊥
      unfolding freed_rule op_form_rule op_form_of dotted_rule op_selector_rule
      op_bad ps w y why h =
          let z = bind_gives (free_ask (bare u) w.wish) (freed_rule (bare u) f (place f n) node ps w.demand) (Right y) h in
          let dotted = subst (λ (x : NodeKind). Spoken (op_form_rule (bare u) f (place f n) node ps (record { demand = w.demand; wish = z.0 }) (op_form_of x)) (Right y)) kind z.2 in
          op_named ps w.demand z.0 y (is_blank (last_spelled (bare u) f node)) refl why dotted

      right_is : (x v : Known) → Right x ≡ Right v → x ≡ v
      right_is x v e = cc

      -- a selector without a fault is decided
      selector_decided : (ps : List Part) (w : Wanted) (x y : Known) → is_list under.kind ≡ false → marks (item s.Placed f m) ≡ Right x → is_package x.mode ≡ false → Spoken (parts_read (bare u) s.Placed f (place f n) node) ps
          → Spoken (rule_by (family node.kind) (bare u) f (place f n) node ps w) (Right y) → Decided (declared (base_of u) (declarer (bare u)) declaration_told (λ i. Some (marks i))) x.of (name_in (bare u) (place f n) node)
      unfolding form_rule form_of selector_rule
      selector_decided ps w x y plain placed apart parts h =
          let primary = subst (λ (z : NodeKind). Spoken (rule_by (family z) (bare u) f (place f n) node ps w) (Right y)) kind h in
          let dotted = subst (λ (z : NodeKind). Spoken (form_rule (bare u) f (place f n) node ps w (form_of z)) (Right y)) kind primary in
          by (part_at ps 0).mark refl dotted
        where
          at_owner : (b : Bool) → is_blank (last_spelled (bare u) f node) ≡ b
              → Spoken (if b || is_package x.mode then op_rule (bare u) f (place f n) node ps w else select_rule (bare u) (name_in (bare u) (place f n) node) x) (Right y)
              → Decided (declared (base_of u) (declarer (bare u)) declaration_told (λ i. Some (marks i))) x.of (name_in (bare u) (place f n) node)
          at_owner true is h = absurd (op_bad ps w y (inl is) h)
          at_owner false is h =
              chosen_decided (bare u) (name_in (bare u) (place f n) node) x y
              (subst (λ (b : Bool). Spoken (if b then op_rule (bare u) f (place f n) node ps w else select_rule (bare u) (name_in (bare u) (place f n) node) x) (Right y)) apart h)

          by : (z : Meaning) → (part_at ps 0).mark ≡ z → Spoken (owned_rule (bare u) f (place f n) node ps w z) (Right y)
              → Decided (declared (base_of u) (declarer (bare u)) declaration_told (λ i. Some (marks i))) x.of (name_in (bare u) (place f n) node)
          by (Right v) is h =
              let same : x ≡ v = right_is x v (sym placed ∙ (first_part ps plain parts ∙ is)) in
              at_owner (is_blank (last_spelled (bare u) f node)) refl (subst (λ (t : Known). Spoken (owner_rule (bare u) f (place f n) node ps w t) (Right y)) (sym same) h)
          by (Wrong rule) is h = absurd (op_bad ps w y (inr (λ v e. cc)) h)
          by (Beyond limit) is h = absurd (op_bad ps w y (inr (λ v e. cc)) h)
          by Quiet is h = absurd (op_bad ps w y (inr (λ v e. cc)) h)
          by (Wishes d wish) is h = absurd (op_bad ps w y (inr (λ v e. cc)) h)
          by (Declares d) is h = absurd (op_bad ps w y (inr (λ v e. cc)) h)

    -- ---- all selectors

    nowhere_quiet : marks (nowhere_of u) ≡ Quiet
    nowhere_quiet =
        let gives = subst (λ (x : Rule). Spoken x (marks (nowhere_of u))) (nowhere_rule rule u) (annotates (nowhere_of u)) in
        sym gives.2

    over_is : declared (base_of u) (declarer (bare u)) declaration_told (λ i. Some (marks i)) ≡ declared_by u marks
    over_is = fun_ext (λ (name : TypeName). ap (option_or (base_of u name)) (by (type_item (bare u) name))) where
      by : (o : Option Item) → declaration_told (marks (unwrap_or o (nowhere_of u))) ≡ option_map_or declaration_told (option_map_or (λ (i : Item). Some (marks i)) o None) None
      by None = ap declaration_told nowhere_quiet
      by (Some i) = refl

    module _ (spelled : (f : ℕ) (tree : FileTree) → tree_at u f ≡ Some tree → (tokens : List Token) × (text : List ℕ) × Spelled tokens text tree) where
      tree_is : (tokens : List Token) (text : List ℕ) (tree : FileTree) → Spelled tokens text tree → IsTree tree.nodes
      tree_is tokens text tree is = spelled_tree tree text (subst (λ (ts : List Token). Spelled ts text tree) (ap (λ (t : FileTree). t.tokens) is.arena) is)

      in_tree : (f n : ℕ) (tree : FileTree) (node : Node) (t : GoType) → tree_at u f ≡ Some tree → slice_get tree.nodes n ≡ Some node → owner_in marks (place f n) node ≡ Some t
          → Decided (declared (base_of u) (declarer (bare u)) declaration_told (λ i. Some (marks i))) t (name_in (bare u) (place f n) node)
      in_tree f n tree node t at here owns = by_kind (is_selector node.kind) refl owns where
        whole : IsTree tree.nodes
        whole = let is = spelled f tree at in tree_is is.0 is.1 tree is.2

        by_part : node.kind ≡ k.Selector → (y : Known) → marks (item s.Judged f n) ≡ Right y → owner_part marks (place f n) node ≡ Some t
            → Decided (declared (base_of u) (declarer (bare u)) declaration_told (λ i. Some (marks i))) t (name_in (bare u) (place f n) node)
        by_part kind y good owner =
            let one = bound_some (type_placed marks f) (part node 0) t owner in
            let x = told_right (marks (item s.Placed f one.0)) t one.2 in
            let under = good_at s.Placed f one.0 tree x.0 at x.1 in
            let mine = good_at s.Judged f n tree y at good in
            let same : mine.0 ≡ node = same_Some mine.0 node (sym mine.1 ∙ here) in
            let judged_is = subst (λ (z : Node). Spoken (stage_rule s.Judged (bare u) f (place f n) z) (Right y)) same mine.2 in
            let parts = judged_parts f (place f n) node y (ap is_name kind) judged_is in
            subst (λ (v : GoType). Decided (declared (base_of u) (declarer (bare u)) declaration_told (λ i. Some (marks i))) v (name_in (bare u) (place f n) node)) x.3
            (selector_decided f n one.0 tree whole at node under.0 here kind one.1 under.1 parts.1 parts.0 x.0 y (no_list f n one.0 tree whole at node under.0 here kind one.1 under.1 x.0 x.1 (is_list under.0.kind) refl) x.1 x.2 parts.2 parts.3)

        by_good : (b : Bool) → is_good (marks (item s.Judged f n)) ≡ b → node.kind ≡ k.Selector → (if b then owner_part marks (place f n) node else None) ≡ Some t
            → Decided (declared (base_of u) (declarer (bare u)) declaration_told (λ i. Some (marks i))) t (name_in (bare u) (place f n) node)
        by_good true good kind owner = let y = good_right (marks (item s.Judged f n)) good in by_part kind y.0 y.1 owner
        by_good false bad kind owner = absurd cc

        by_kind : (b : Bool) → is_selector node.kind ≡ b → (if b then owner_good marks (place f n) node else None) ≡ Some t
            → Decided (declared (base_of u) (declarer (bare u)) declaration_told (λ i. Some (marks i))) t (name_in (bare u) (place f n) node)
        by_kind true is owner = by_good (is_good (marks (item s.Judged f n))) refl (selector_kind node.kind is) owner
        by_kind false is owner = absurd cc

pub decides : (u : Unit) (world : List Face) (a : Within u world) (marks : Item → Meaning) → IsAnnotation rule u marks → AllDecided u world a marks
decides u world a marks annotates at of owns =
    let found = bound_some (owner_in marks at) (node_at (bare u) at) of owns in
    by (tree_at u at.file) refl found.0 found.1 found.2
  where
    by : (o : Option FileTree) → tree_at u at.file ≡ o → (node : Node) → slice_get (nodes_of o) at.node ≡ Some node → owner_in marks at node ≡ Some of
        → EnoughToSelect (declared_by u marks) (to_select (bare u) (selected_name (bare u) at) of) × ((c : Chosen) × SaysSelected (declared_by u marks) (to_select (bare u) (selected_name (bare u) at) of) c)
    by None none node here owner = absurd cc
    by (Some tree) there node here owner =
        let is = in_tree u marks annotates (λ f t e. (let x = a.spelled f t e in (x.0, _, x.1))) at.file at.node tree node of there here owner in
        let node_is : node_at (bare u) at ≡ Some node = ap (λ (o : Option FileTree). slice_get (nodes_of o) at.node) there ∙ here in
        let name_is : last_spelled (bare u) at.file node ≡ selected_name (bare u) at = sym (ap (λ (o : Option Node). option_map_or (last_spelled (bare u) at.file) o []) node_is) in
        subst (λ (name : List ℕ). EnoughToSelect (declared_by u marks) (to_select (bare u) name of) × ((c : Chosen) × SaysSelected (declared_by u marks) (to_select (bare u) name of) c)) name_is
        (subst (λ (ds : Declarations). EnoughToSelect ds (to_select (bare u) (last_spelled (bare u) at.file node) of) × ((c : Chosen) × SaysSelected ds (to_select (bare u) (last_spelled (bare u) at.file node) of) c))
        (over_is u marks annotates) is)
