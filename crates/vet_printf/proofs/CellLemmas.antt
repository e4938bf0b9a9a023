-- In which ways what nodes name prints.
use Rattle.std.proofs.Common.{◌≡◌, ◌⊎◌, ◌↔◌, inl, inr, ℕ, zero, suc, Bool, true, false, ◌||◌, List, [], ◌∷◌, Option, Some, None, slice_index_or, refl, sym, ap, ◌∙◌, subst, arith}
use Rattle.std.specs.Prelude.{slice_get, option_and_then}
use Rattle.std.specs.Global.{Vec}
use Rattle.std.specs.Option.{option_map_or}
use Rattle.std.proofs.lemmas.Option.{slice_get_within}
use Rattle.fact_codec.specs.declared.wraps.WrapKind.{WrapKind}
use Rattle.fact_codec.specs.declared.wraps.WrapKind.TheVariants as wrap
use Rattle.go_tree.specs.declared.bindings.Object.{Object}
use Rattle.go_tree.specs.declared.bindings.Object.TheVariants as object
use Rattle.go_tree.specs.declared.tree.Node.{Node}
use Rattle.go_tree.specs.declared.tree.NodeKind.{NodeKind}
use Rattle.go_tree.specs.declared.tree.NodeKind.TheVariants as form
use Rattle.go_tree.specs.declared.tree.NodeRef.{NodeRef}
use Rattle.least.specs.Tables.{member}
use Rattle.member_names.specs.declared.named.Named.{Named}
use Rattle.member_names.specs.Named.{IsNamed}
use Rattle.member_names.specs.InCode.{named_in, found_named, Finds}
use Rattle.typed_marks.specs.declared.item.Item.{Item}
use Rattle.typed_marks.specs.Meanings.{Meaning}
use Rattle.object_order.specs.Spots.{place}
use Rattle.unit_read.specs.Units.{Unit, nodes_at, object_at, first_spelled}
use Rattle.vet_words.specs.Forms.{is_selector}
use Rattle.vet_words.specs.Called.{function_by, function_of, own_function}
use Rattle.vet_printf.specs.declared.known.Known.{Known}
use Rattle.vet_printf.specs.declared.printing.Printing.{Printing}
use Rattle.vet_printf.specs.Calls.{kinds_at}
use Rattle.vet_printf.specs.Items.{sets_of, is_declared, may_name_by, may_name, prints, kinds_of_member, IsKindsCell, AreKindsRow, AreKindsRows}
use Rattle.vet_printf.specs.Knowing.{handed_in}
use Rattle.vet_printf.specs.Verbs.{has_flag}
use Rattle.vet_printf.specs.Wraps.{number_of, NamesPrinting}
use Rattle.vet_printf.proofs.FitLemmas.{past}
use Rattle.vet_printf.proofs.HandingLemmas.{file_there}
use Rattle.vet_printf.proofs.KindLemmas.{says_print, says_printf, says_errorf}
use Rattle.vet_printf.proofs.ReaderLemmas.{same_some, either}

or_cases : (a b : Bool) → (a || b) ≡ true → (a ≡ true) ⊎ (b ≡ true)
or_cases true b e = inl refl
or_cases false b e = inr e

or_left : (a b : Bool) → a ≡ true → (a || b) ≡ true
or_left a b e = ap (λ x. x || b) e

or_right : (a b : Bool) → b ≡ true → (a || b) ≡ true
or_right true b e = refl
or_right false b e = e

module _ (k : Known) (u : Unit) (marks : Item → Meaning) (x : Printing) where
  says : (kind : WrapKind) (path name : List ℕ) → has_flag (kinds_of_member k u x path name) (number_of kind) ≡ (handed_in k (member path name (number_of kind)) || sets_of u x kind (member path name (number_of kind)))
  says wrap.Print path name = says_print (prints k u wrap.Print x.print.items path name) (prints k u wrap.Printf x.printf.items path name) (prints k u wrap.Errorf x.errorf.items path name)
  says wrap.Printf path name = says_printf (prints k u wrap.Print x.print.items path name) (prints k u wrap.Printf x.printf.items path name) (prints k u wrap.Errorf x.errorf.items path name)
  says wrap.Errorf path name = says_errorf (prints k u wrap.Print x.print.items path name) (prints k u wrap.Printf x.printf.items path name) (prints k u wrap.Errorf x.errorf.items path name)

  -- what the node names
  pub cell_some : (f n : ℕ) (o : Option Named) (m : Named) (c : ℕ) → Finds (IsNamed u marks f n) o → o ≡ Some m → c ≡ kinds_of_member k u x m.path m.name → IsKindsCell k u marks x f n c
  cell_some f n o m c finds is e = record {
    each = λ kind. (
      λ h. (
          let p = sym (says kind m.path m.name) ∙ (ap (λ d. has_flag d (number_of kind)) (sym e) ∙ h) in
          (named_in m, (finds (named_in m)).0 (ap found_named is), or_cases (handed_in k (member m.path m.name (number_of kind))) (sets_of u x kind (member m.path m.name (number_of kind))) p)
          ),
      λ (y, named, h). (
          let same : named_in m ≡ y = same_some (sym (ap found_named is) ∙ (finds y).1 named) in
          let q = subst (λ (z : List ℕ × List ℕ). (handed_in k (member z.0 z.1 (number_of kind)) ≡ true) ⊎ (sets_of u x kind (member z.0 z.1 (number_of kind)) ≡ true)) (sym same) h in
          ap (λ d. has_flag d (number_of kind)) e
          ∙ (says kind m.path m.name
          ∙ either q (λ a. or_left (handed_in k (member m.path m.name (number_of kind))) (sets_of u x kind (member m.path m.name (number_of kind))) a)
          (λ b. or_right (handed_in k (member m.path m.name (number_of kind))) (sets_of u x kind (member m.path m.name (number_of kind))) b))
          ),
    );
  }

  no_flag : (kind : WrapKind) → has_flag 0 (number_of kind) ≡ true → ⊥
  no_flag wrap.Print e = cc
  no_flag wrap.Printf e = cc
  no_flag wrap.Errorf e = cc

  pub cell_none : (f n : ℕ) (o : Option Named) → Finds (IsNamed u marks f n) o → o ≡ None → IsKindsCell k u marks x f n 0
  cell_none f n o finds is = record { each = λ kind. (λ h. absurd (no_flag kind h), λ (y, named, h). absurd (differ o y is ((finds y).1 named))) } where
    differ : (o : Option Named) (y : List ℕ × List ℕ) → o ≡ None → found_named o ≡ Some y → ⊥
    differ None y p q = cc
    differ (Some m) y p q = cc

  -- ---- nodes of other kinds name nothing

  apart : {C : Type 0} (y : List ℕ × List ℕ) → None ≡ Some y → C
  apart y e = absurd (cc)

  declared_by : (spelled : List ℕ) (o : Option Object) (y : List ℕ × List ℕ) → option_and_then (own_function u spelled) o ≡ Some y → option_map_or is_declared o false ≡ true
  declared_by spelled None y e = apart y e
  declared_by spelled (Some (object.Package at)) y e = refl
  declared_by spelled (Some (object.Universe i)) y e = apart y e
  declared_by spelled (Some (object.Import at)) y e = apart y e
  declared_by spelled (Some (object.Local at)) y e = apart y e

  called_by : (f n : ℕ) (at : Node) (kind : NodeKind) (y : List ℕ × List ℕ) → function_by u marks f n at kind ≡ Some y → may_name_by u f n kind ≡ true
  called_by f n at form.Name y e = declared_by (first_spelled u f at) (object_at u (place f n)) y e
  called_by f n at form.Selector y e = refl
  called_by f n at _ y e = apart y e

  selector_named : (f n : ℕ) (kind : NodeKind) → is_selector kind ≡ true → may_name_by u f n kind ≡ true
  selector_named f n form.Selector e = refl
  selector_named f n _ e = absurd (cc)

  there_named : (f n : ℕ) (at : Node) → slice_get (nodes_at u f) n ≡ Some at → may_name_by u f n at.kind ≡ true → may_name u f n ≡ true
  there_named f n at there named = ap (λ (o : Option Node). option_map_or (λ (x : Node). may_name_by u f n x.kind) o false) there ∙ named

  name_there : (f n : ℕ) (y : List ℕ × List ℕ) → IsNamed u marks f n y → may_name u f n ≡ true
  name_there f n y (inl e) = by (slice_get (nodes_at u f) n) refl e where
    by : (o : Option Node) → slice_get (nodes_at u f) n ≡ o → option_and_then (function_of u marks f n) o ≡ Some y → may_name u f n ≡ true
    by None there e = apart y e
    by (Some at) there e = there_named f n at there (called_by f n at at.kind y e)
  name_there f n y (inr (none, (at, there, rest))) = there_named f n at there (selector_named f n at.kind rest.0)

  pub cell_other : (f n : ℕ) (b : Bool) → b ≡ may_name u f n → b ≡ false → IsKindsCell k u marks x f n 0
  cell_other f n b told out = record { each = λ kind. (λ h. absurd (no_flag kind h), λ (y, named, h). absurd (not_both (may_name u f n) (name_there f n y named) (sym told ∙ out))) } where
    not_both : (b : Bool) → b ≡ true → b ≡ false → ⊥
    not_both b e g = cc

  -- ---- all nodes

  -- what names something is there
  named_there : (f n : ℕ) (y : List ℕ × List ℕ) → IsNamed u marks f n y → (node : Node) × (slice_get (nodes_at u f) n ≡ Some node)
  named_there f n y (inl e) = by (slice_get (nodes_at u f) n) refl e where
    by : (o : Option Node) → slice_get (nodes_at u f) n ≡ o → option_and_then (function_of u marks f n) o ≡ Some y → (node : Node) × (slice_get (nodes_at u f) n ≡ Some node)
    by None at e = absurd (cc)
    by (Some node) at e = (node, at)
  named_there f n y (inr (none, (node, there, rest))) = (node, there)

  module _ (rows : List (Vec ℕ)) (are : AreKindsRows k u marks x rows) where
    -- nothing is said of a node that isn't there
    absent : (at : NodeRef) → ((node : Node) → slice_get (nodes_at u at.file) at.node ≡ Some node → ⊥) → (kind : WrapKind) → (has_flag 0 (number_of kind) ≡ true) ↔ NamesPrinting u marks (handed_in k) (sets_of u x) at kind
    absent at none kind = (λ h. absurd (no_flag kind h), λ (y, named, h). absurd (let r = named_there at.file at.node y named in none r.0 r.1))

    in_row : (at : NodeRef) (row : Vec ℕ) → AreKindsRow k u marks x at.file row → (o : Option ℕ) → slice_get row.items at.node ≡ o → (kind : WrapKind)
        → (has_flag (slice_index_or row.items at.node 0) (number_of kind) ≡ true) ↔ NamesPrinting u marks (handed_in k) (sets_of u x) at kind
    in_row at row cells (Some c) there kind = subst (λ (d : ℕ). (has_flag d (number_of kind) ≡ true) ↔ NamesPrinting u marks (handed_in k) (sets_of u x) at kind) (sym (read row.items at.node c there)) ((cells.each at.node c there).each kind) where
      read : (xs : List ℕ) (i c : ℕ) → slice_get xs i ≡ Some c → slice_index_or xs i 0 ≡ c
      read [] i c e = absurd (cc)
      read (y ∷ xs) zero c e = same_some e
      read (y ∷ xs) (suc i) c e = read xs i c e
    in_row at row cells None there kind = subst (λ (d : ℕ). (has_flag d (number_of kind) ≡ true) ↔ NamesPrinting u marks (handed_in k) (sets_of u x) at kind) (sym (unread row.items at.node there))
        (absent at (λ node here. (let low = slice_get_within (nodes_at u at.file) at.node node here in let high = past row.items at.node there in let size = cells.size in omega (arith, low, high, size))) kind) where
          unread : (xs : List ℕ) (i : ℕ) → slice_get xs i ≡ None → slice_index_or xs i 0 ≡ 0
          unread [] i e = refl
          unread (y ∷ xs) zero e = absurd (cc)
          unread (y ∷ xs) (suc i) e = unread xs i e

    -- the rows tell in which ways what each node names prints
    pub rows_told : (at : NodeRef) (kind : WrapKind) → (has_flag (kinds_at rows at) (number_of kind) ≡ true) ↔ NamesPrinting u marks (handed_in k) (sets_of u x) at kind
    rows_told at kind = by (slice_get rows at.file) refl where
      by : (o : Option (Vec ℕ)) → slice_get rows at.file ≡ o
          → (has_flag (option_map_or (λ (row : Vec ℕ). slice_index_or row.items at.node 0) (slice_get rows at.file) 0) (number_of kind) ≡ true) ↔ NamesPrinting u marks (handed_in k) (sets_of u x) at kind
      by (Some row) there = subst (λ (p : Option (Vec ℕ)). (has_flag (option_map_or (λ (row : Vec ℕ). slice_index_or row.items at.node 0) p 0) (number_of kind) ≡ true) ↔ NamesPrinting u marks (handed_in k) (sets_of u x) at kind)
          (sym there) (in_row at row (are.each at.file row there) (slice_get row.items at.node) refl kind)
      by None there = subst (λ (p : Option (Vec ℕ)). (has_flag (option_map_or (λ (row : Vec ℕ). slice_index_or row.items at.node 0) p 0) (number_of kind) ≡ true) ↔ NamesPrinting u marks (handed_in k) (sets_of u x) at kind)
          (sym there) (absent at (λ node here. (let low = file_there u at.file at.node node here in let high = past rows at.file there in let size = are.size in omega (arith, low, high, size))) kind)
