-- The one annotation of a package is the one where more is seen of other packages.
use Rattle.std.proofs.Common.{◌≡◌, ◌==◌, Bool, true, false, if◌then◌else◌, Option, Some, None, unwrap_or, option_and_then, List, refl, sym, ap, ◌∙◌, subst}
use Rattle.std.specs.Str.{bytes_eq}
use Rattle.mark_walk.specs.Asks.{done, IsTheAnnotation}
use Rattle.mark_walk.proofs.MoreLaws.{Answers, annotation_wider}
use Rattle.package_faces.specs.Declaring.{first_named, path_of, declared_in, declared_by}
use Rattle.package_faces.specs.Faces.{Face}
use Rattle.type_growth.specs.Growth.{Grows as DeclaresMore}
use Rattle.type_model.specs.declared.term.TypeName.{TypeName}
use Rattle.type_model.specs.Declarations.{Declaration}
use Rattle.type_model.specs.Tables.{is_same_name}
use Rattle.type_questions.specs.Questions.{says}
use Rattle.type_questions.proofs.KnowingLaws.{DeclaresSame, says_more}
use Rattle.typed_tree.specs.Universe.{error_name}
use Rattle.typed_marks.specs.declared.item.Item.{Item}
use Rattle.typed_marks.specs.Meanings.{Meaning, Quiet}
use Rattle.unit_read.specs.Imports.{bare}
use Rattle.unit_read.specs.Units.{Unit, defined, base_of, error_declaration}
use Rattle.unit_read.proofs.BareLemmas.{over}
use Rattle.unit_read.proofs.TypeLemmas.{foreign}
use Rattle.rule_words.specs.Asking.{Rule, under_at, type_item, nowhere_of, item_for, declarer, declaration_told}
use Rattle.type_answers.specs.Answering.{says_of, pends_of, answers_last}
use Rattle.elaborate.specs.Walks.{blocks_of, item_rule, missing_rule}
use Rattle.elaborate.proofs.NowhereLemmas.{nowhere_rule}
use Rattle.typed_marks.specs.Items.{is_item}
use Rattle.action_graph.proofs.StayFaces.{bound_some}
use Rattle.action_graph.proofs.StayImports.{Within, bare_is}

-- ---- a name of the package

-- what has an item is a type of the package
pub own_item : (u : Unit) (n : TypeName) (i : Item) → type_item u n ≡ Some i → bytes_eq u.path n.package ≡ true
own_item u n i is = by (bytes_eq u.path n.package) refl where
  by : (b : Bool) → bytes_eq u.path n.package ≡ b → b ≡ true
  by true own = refl
  by false other = (let none : type_item u n ≡ None = ap (option_and_then (under_at u)) (foreign u n (defined u) other) in absurd cc)

-- of a type of the package the same is declared from the start, whatever is seen of other packages
pub own_same : (u : Unit) (world : List Face) (n : TypeName) → bytes_eq u.path n.package ≡ true → base_of (over u world) n ≡ base_of u n
own_same u world n own =
    ap (λ (b : Bool). if is_same_name n error_name then Some error_declaration else (if b then None else declared_by world n)) own
    ∙ sym (ap (λ (b : Bool). if is_same_name n error_name then Some error_declaration else (if b then None else declared_by u.env n)) own)

module _ (u : Unit) (world : List Face) (a : Within u world) where
  -- ---- what is declared from the start

  local_more : (b : Bool) (n : TypeName) (d : Declaration) → (if b then option_and_then (declared_in n.name) (first_named path_of u.env n.package) else None) ≡ Some d
      → (if b then option_and_then (declared_in n.name) (first_named path_of world n.package) else None) ≡ Some d
  local_more true n d h = let face = bound_some (declared_in n.name) (first_named path_of u.env n.package) d h in ap (option_and_then (declared_in n.name)) (a.grows n.package face.0 face.1) ∙ face.2
  local_more false n d h = absurd cc

  -- what is declared stays so
  pub base_more : DeclaresMore (base_of u) (base_of (over u world))
  base_more n d = by (is_same_name n error_name) (bytes_eq u.path n.package) where
    by : (e own : Bool) → (if e then Some error_declaration else (if own then None else declared_by u.env n)) ≡ Some d → (if e then Some error_declaration else (if own then None else declared_by world n)) ≡ Some d
    by true own h = h
    by false true h = absurd cc
    by false false h = local_more (n.local == 0) n d h

  -- of the package's own types the same is declared
  item_same : DeclaresSame (base_of u) (base_of (over u world)) (declarer (bare u)) (nowhere_of u)
  item_same n item is apart = by (type_item (bare u) n) refl where
    item_is : item_for (bare u) n ≡ item
    item_is = cc

    by : (o : Option Item) → type_item (bare u) n ≡ o → base_of (over u world) n ≡ base_of u n
    by None none = absurd (apart (sym item_is ∙ ap (λ (o : Option Item). unwrap_or o (nowhere_of u)) none))
    by (Some i) own = own_same u world n (own_item (bare u) n i own)

  -- ---- questions and rules

  declarer_is : declarer (bare (over u world)) ≡ declarer (bare u)
  declarer_is = ap declarer (bare_is u world a)

  -- each question has the answers that it had
  pub answers_more : Answers (says_of u) (says_of (over u world)) (nowhere_of u)
  answers_more so_far q x free said =
      subst (λ (under : TypeName → Option Item). says (base_of (over u world)) under declaration_told so_far q x) (sym declarer_is)
      (says_more (base_of u) (base_of (over u world)) (declarer (bare u)) declaration_told (nowhere_of u) base_more item_same so_far free q x said)

  module _ (rule : Unit → Item → Rule) where
    -- the rules are the same
    pub rules_same : item_rule rule (over u world) ≡ item_rule rule u
    rules_same = ap {B = Item → Rule} (λ (w : Unit) (i : Item). if is_item (blocks_of u) i then rule w i else missing_rule u i) (bare_is u world a)

    -- the marks are the one annotation over the world
    pub annotation_stays : (marks : Item → Meaning) → IsTheAnnotation (says_of u) (item_rule rule u) marks → IsTheAnnotation (says_of (over u world)) (item_rule rule (over u world)) marks
    annotation_stays marks is =
        subst (λ (r : Item → Rule). IsTheAnnotation (says_of (over u world)) r marks) (sym rules_same)
        (annotation_wider (says_of u) (says_of (over u world)) (pends_of (over u world)) (nowhere_of u) answers_more (answers_last (over u world)) (item_rule rule u) (λ (m : Meaning). done Quiet)
        (nowhere_rule rule u) marks is)
