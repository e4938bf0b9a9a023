-- What is told of a key by what was kept is what its definition says.
use Rattle.std.proofs.Common.{◌≡◌, ℕ, zero, suc, ◌+◌, Bool, true, false, List, [], ◌++◌, Option, Some, None, slice_get, option_map, option_and_then, refl, sym, ap, ◌∙◌, codes, ◌==◌, if◌then◌else◌, subst, length, slice_index_or, ◌∷◌, inl, inr, arith}
use Rattle.std.specs.Option.{option_map_or, option_or}
use Rattle.std.specs.Global.{Vec}
use Rattle.std.specs.HashMap.{HashMap}
use Rattle.std.specs.Str.{bytes_eq}
use Rattle.std.proofs.lemmas.Slice.Eq.{bytes_eq-Decides}
use Rattle.std.proofs.lemmas.List.{length_push}
use Rattle.gv_base.proofs.Lists.{push_cases}
use Rattle.gv_base.specs.Lines.{LineTable, IsTableOf}
use Rattle.go_tree.specs.declared.tree.Node.{Node}
use Rattle.package_objects.specs.Declares.{gather, part}
use Rattle.unit_read.specs.Units.{Unit, nodes_at}
use Rattle.type_rules.specs.Structs.{tag_of}
use Rattle.analysis_core.specs.declared.diagnostic.Diagnostic.{Diagnostic}
use Rattle.vet_simple.specs.declared.tags.Pair.{Pair}
use Rattle.vet_simple.specs.InRuns.{kept, has_key, noted}
use Rattle.vet_simple.specs.Tags.{pairs_of}
use Rattle.vet_simple.specs.TagNames.{json_key, xml_key}
use Rattle.vet_simple.specs.StructTags.{part_key, node_key, tag_key, first_below, few_before, again_text, again_by, if_hidden, bad_text, fault_of, name_fault, field_name, fault_at, nth_fault}
use Rattle.vet_simple.specs.TagSpots.{or_this, earlier, told_by, ToldOf, again_told, fault_in, fault_told, nth_told, IsTold, AreLines, AreFirstLines}

noted_this : (o : Option ℕ) (i : ℕ) → noted o true i ≡ or_this o i
noted_this None i = refl
noted_this (Some b) i = refl

later : (o : Option ℕ) (i j : ℕ) → or_this o i ≡ earlier o i (suc j)
later o i j = ap (λ (b : Bool). if b then o else or_this o i) (apart j) where
  apart : (j : ℕ) → false ≡ (suc j == 0)
  apart j = grind arith

-- one of the other names of a part meets the part itself
pub few : (key : ℕ → Option (List ℕ)) (i j : ℕ) (k : List ℕ) → key i ≡ Some k → first_below key k (few_before i j) ≡ earlier (first_below key k i) i j
few key i zero k at = refl
few key i (suc j) k at =
    let same : has_key key k i ≡ true = ap (λ (o : Option (List ℕ)). option_map_or (λ q. bytes_eq q k) o false) at ∙ (bytes_eq-Decides k k).1 refl in
    let this : first_below key k (suc i) ≡ noted (first_below key k i) true i = ap (λ (b : Bool). noted (first_below key k i) b i) same in
    this ∙ (noted_this (first_below key k i) i ∙ later (first_below key k i) i j)

module _ (paths : List (List ℕ)) (u : Unit) (f : ℕ) (struct : Node) (i j : ℕ) where
  pub told_is : (key : List Pair → Option (List ℕ)) (word name : List ℕ) (o : Option (List ℕ)) (before : Option ℕ) → part_key key u f struct i ≡ o
      → ((k : List ℕ) → o ≡ Some k → before ≡ first_below (part_key key u f struct) k i)
      → told_by (again_text paths u f struct word name) o (earlier before i j) ≡ option_and_then (again_by paths u f struct word (part_key key u f struct) (few_before i j) name) o
  told_is key word name None before at was = refl
  told_is key word name (Some k) before at was =
      ap (λ (q : Option ℕ). option_map (again_text paths u f struct word name k) q) (ap (λ (b : Option ℕ). earlier b i j) (was k refl) ∙ sym (few (part_key key u f struct) i j k at))

  -- the part of the number is the node
  pub key_is : (key : List Pair → Option (List ℕ)) (node : Node) → option_and_then (λ m. slice_get (nodes_at u f) m) (part struct i) ≡ Some node → part_key key u f struct i ≡ tag_key key u f node
  key_is key node stands = by (part struct i) stands where
    by : (o : Option ℕ) → option_and_then (λ m. slice_get (nodes_at u f) m) o ≡ Some node → option_and_then (node_key key u f) o ≡ tag_key key u f node
    by None e = absurd cc
    by (Some m) e = ap (λ (q : Option Node). option_and_then (tag_key key u f) q) e

  module _ (node : Node) (t : ToldOf) (told : IsTold u f struct i node t) (stands : option_and_then (λ m. slice_get (nodes_at u f) m) (part struct i) ≡ Some node) where
    -- a key that the tag of the part gives
    told_key : (key : List Pair → Option (List ℕ)) (word name : List ℕ) (pairs : List Pair) (o : Option (List ℕ)) (before : Option ℕ) → pairs_of (tag_of u f node) ≡ Some pairs
        → o ≡ tag_key key u f node → ((k : List ℕ) → o ≡ Some k → before ≡ first_below (part_key key u f struct) k i)
        → told_by (again_text paths u f struct word name) o (earlier before i j) ≡ option_and_then (again_by paths u f struct word (part_key key u f struct) (few_before i j) name) (key pairs)
    told_key key word name pairs o before read was met =
        told_is key word name o before (key_is key node stands ∙ sym was) met
        ∙ ap (λ (q : Option (List ℕ)). option_and_then (again_by paths u f struct word (part_key key u f struct) (few_before i j) name) q) (was ∙ ap (λ (q : Option (List Pair)). option_and_then key q) read)

    -- the fault of a name, by what the part was read to say
    pub fault_is : fault_told paths u f struct i node t j ≡ name_fault paths u f struct i node j
    fault_is = by t.pairs refl where
      name : List ℕ
      name = field_name u f node j

      by : (o : Option (List Pair)) → t.pairs ≡ o → fault_in paths u f struct i j node name t t.pairs ≡ fault_of paths u f struct (few_before i j) node name (pairs_of (tag_of u f node))
      by None e = ap (λ (o : Option (List Pair)). fault_in paths u f struct i j node name t o) e ∙ ap (λ (o : Option (List Pair)). fault_of paths u f struct (few_before i j) node name o) (sym e ∙ told.pairs)
      by (Some pairs) e =
          let read : pairs_of (tag_of u f node) ≡ Some pairs = sym told.pairs ∙ e in
          ap (λ (o : Option (List Pair)). fault_in paths u f struct i j node name t o) e
          ∙ (ap (λ (o : Option (List ℕ)). option_or (if_hidden node name pairs) (option_or o (told_by (again_text paths u f struct (codes "xml") name) t.xml (earlier t.xml_before i j))))
          (told_key json_key (codes "json") name pairs t.json t.json_before read told.json told.json_before)
          ∙ (ap (λ (o : Option (List ℕ)). option_or (if_hidden node name pairs) (option_or (option_and_then (again_by paths u f struct (codes "json") (part_key json_key u f struct) (few_before i j) name) (json_key pairs)) o))
          (told_key xml_key (codes "xml") name pairs t.xml t.xml_before read told.xml told.xml_before)
          ∙ ap (λ (o : Option (List Pair)). fault_of paths u f struct (few_before i j) node name o) (sym read)))

-- ---- what is kept of the parts

next_is : (n : ℕ) → suc n ≡ n + 1
next_is n = omega arith

-- a part with a key is noted
pub met_more : {S T : Type 0} (key : ℕ → Option (List ℕ)) (i : ℕ) (q : List ℕ) (old : HashMap (Vec ℕ) ℕ S) (new : HashMap (Vec ℕ) ℕ T) → ((k : List ℕ) → kept old k ≡ first_below key k i) → key i ≡ Some q
    → ((k : List ℕ) → kept new k ≡ noted (kept old k) (bytes_eq q k) i) → (k : List ℕ) → kept new k ≡ first_below key k (i + 1)
met_more key i q old new was is after = λ k.
    after k
    ∙ (ap (λ o. noted o (bytes_eq q k) i) (was k)
    ∙ (ap (λ o. noted (first_below key k i) (option_map_or (λ p. bytes_eq p k) o false) i) (sym is) ∙ ap (λ (n : ℕ). first_below key k n) (next_is i)))

noted_not : (o : Option ℕ) (i : ℕ) → o ≡ noted o false i
noted_not None i = refl
noted_not (Some y) i = refl

-- one without isn't
pub met_same : {S : Type 0} (key : ℕ → Option (List ℕ)) (i : ℕ) (met : HashMap (Vec ℕ) ℕ S) → ((k : List ℕ) → kept met k ≡ first_below key k i) → key i ≡ None → (k : List ℕ) → kept met k ≡ first_below key k (i + 1)
met_same key i met was none = λ k.
    was k
    ∙ (noted_not (first_below key k i) i
    ∙ (ap (λ o. noted (first_below key k i) (option_map_or (λ p. bytes_eq p k) o false) i) (sym none) ∙ ap (λ (n : ℕ). first_below key k n) (next_is i)))

pub gather_same : {A : Type 0} (g h : ℕ → List A) → ((j : ℕ) → g j ≡ h j) → (n : ℕ) → gather g n ≡ gather h n
gather_same g h same zero = refl
gather_same g h same (suc n) = ap (λ xs. xs ++ g n) (gather_same g h same n) ∙ ap (λ xs. gather h n ++ xs) (same n)

-- ---- lines

pub lines_none : (texts : List (List ℕ)) (lines : List LineTable) → lines ≡ [] → AreFirstLines texts 0 lines
lines_none texts lines bare = subst (λ (x : List LineTable). AreFirstLines texts 0 x) (sym bare) (record { size = refl; each = λ f table at. absurd cc })

pub lines_more : (texts : List (List ℕ)) (k : ℕ) (lines new : List LineTable) (table : LineTable) → AreFirstLines texts k lines → IsTableOf (slice_index_or texts k []) table → new ≡ lines ++ (table ∷ []) → AreFirstLines texts (k + 1) new
lines_more texts k lines new table was is now = record {
  size = ap length now ∙ (length_push lines table ∙ ap (λ n. n + 1) was.size);
  each = λ f t t_at. elim (push_cases lines table t f (ap (λ (xs : List LineTable). slice_get xs f) (sym now) ∙ t_at)) [
    | inl before ↦ was.each f t before
    | inr (f_is, t_is) ↦
        let here : k ≡ f = sym (f_is ∙ was.size) in
        subst (λ (x : LineTable). IsTableOf (slice_index_or texts f []) x) t_is (subst (λ (n : ℕ). IsTableOf (slice_index_or texts n []) table) here is)
  ];
}

pub lines_all : (texts : List (List ℕ)) (k : ℕ) (lines : List LineTable) → k ≡ length texts → AreFirstLines texts k lines → AreLines texts lines
lines_all texts k lines same are = record { size = are.size ∙ same; each = are.each }
