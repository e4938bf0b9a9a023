-- What is known of a package's files and functions is what `never_returns` asks for.
use Rattle.std.proofs.Common.{◌≡◌, ◌<◌, ◌≤◌, ◌&&◌, if◌then◌else◌, ℕ, zero, suc, Bool, true, false, List, [], ◌∷◌, map, length, Option, Some, None, is_some, option_map, slice_get, refl, sym, ap, ◌∙◌, subst, arith}
use Rattle.std.specs.Option.{option_map_or}
use Rattle.std.specs.Prelude.{option_and_then, slice_index_or}
use Rattle.std.proofs.lemmas.Option.{slice_get_within}
use Rattle.gv_base.proofs.Lists.{same_some}
use Rattle.go_tree.specs.declared.tree.FileTree.{FileTree}
use Rattle.go_tree.specs.declared.tree.Node.{Node}
use Rattle.go_tree.specs.declared.tree.NodeRef.{NodeRef}
use Rattle.object_order.specs.Spots.{place}
use Rattle.file_flow.specs.Told.{AreTold}
use Rattle.flow.specs.declared.point.Call.{Call}
use Rattle.flow.specs.declared.point.Call.TheVariants as c
use Rattle.flow.specs.Flow.{call_at}
use Rattle.least.specs.Numbered.{IsNumbering}
use Rattle.least.specs.Tables.{Member, home}
use Rattle.never_returns.specs.Admits.{Other, Body, Admits}
use Rattle.never_returns.specs.Bodies.{call_of, IsBlockOf, IsBodyOf, AreFunctionsOf}
use Rattle.never_returns.specs.declared.files.Block.{Block}
use Rattle.never_returns.specs.declared.files.FileFlow.{FileFlow}
use Rattle.never_returns.specs.declared.files.Function.{Function}
use Rattle.own_functions.specs.Functions.{Named, name_in, functions, names, nth_name, first_of, number, member_at, declared_at, block_at}
use Rattle.own_functions.proofs.NameLemmas.{bytes_same, place_none}
use Rattle.own_functions.proofs.NumberLemmas.{numbered}
use Rattle.typed_marks.specs.declared.item.Item.{Item}
use Rattle.typed_marks.specs.Meanings.{Meaning}
use Rattle.unit_read.specs.Units.{Unit, text_in, tree_at, nodes_at, nodes_of}
use Rattle.vet_words.specs.Forms.{bare, bare_from, bare_by, between}
use Rattle.vet_never.specs.declared.files.FileKnown.{FileKnown}
use Rattle.vet_never.specs.declared.told.Told.{Told}
use Rattle.vet_never.specs.declared.calls.Known.{Known}
use Rattle.vet_never.specs.Callees.{if_call, callee_part, callee_of, IsCalleeOf, IsCallee}
use Rattle.vet_never.specs.InCode.{callee_in}
use Rattle.vet_never.specs.Knowing.{handed_in, IsFileKnown, AreFilesKnown, AreLent, block_in, block_told, body_told, AreFunctions}
use Rattle.vet_never.specs.Listed.{is_listed_name, listed_in}
use Rattle.vet_never.specs.Never.{Around, body_with, body_in, body_at, body_of, bodies_in, IsAround}
use Rattle.vet_never.proofs.AdmitLemmas.{unadmitted}
use Rattle.vet_never.proofs.FileLemmas.{there_at}

-- ---- lists

past : {X : Type 0} (xs : List X) (i : ℕ) → length xs ≤ i → slice_get xs i ≡ None
past [] i low = refl
past (x ∷ xs) zero low = absurd (omega arith)
past (x ∷ xs) (suc i) low = past xs i (omega arith)

none_within : {X : Type 0} (xs : List X) (i : ℕ) → slice_get xs i ≡ None → length xs ≤ i
none_within [] i e = omega arith
none_within (x ∷ xs) zero e = absurd (cc)
none_within (x ∷ xs) (suc i) e = let l = none_within xs i e in omega arith

and_true : (a b : Bool) → b ≡ true → (a && b) ≡ a
and_true true b e = e
and_true false b e = refl

-- ---- calls that aren't there

bare_nowhere : (nodes : List Node) (most n : ℕ) → slice_get nodes n ≡ None → bare_from nodes most n ≡ n
bare_nowhere nodes zero n none = refl
bare_nowhere nodes (suc most) n none = ap (λ (o : Option Node). bare_by (bare_from nodes most) n (option_and_then between o)) none

no_callee : (nodes : List Node) (n : ℕ) → slice_get nodes n ≡ None → callee_of nodes n ≡ None
no_callee nodes n none =
    ap (λ (o : Option Node). option_map (bare nodes) (option_and_then callee_part (option_and_then if_call o))) (ap (λ k. slice_get nodes k) (bare_nowhere nodes (length nodes) n none) ∙ none)

module _ (u : Unit) (marks : Item → Meaning) (k : Known) (list : List FileKnown) (are : AreFilesKnown u marks k (length u.trees) list) where
  abbrev told_at : ℕ → List Told → Option Told
  told_at n row = slice_get row n

  -- what is known, as functions of files and nodes
  abbrev pub around : Around
  around = record {
    labels = λ f. option_map_or (λ (x : FileKnown). x.labels.items) (slice_get list f) [];
    callee = λ at. option_map_or callee_in (option_and_then (told_at at.node) (slice_get are.rows at.file)) Other;
  }

  -- a file that is there is known
  known_there : (f : ℕ) (tree : FileTree) → tree_at u f ≡ Some tree → (x : FileKnown) × (row : List Told) × (slice_get list f ≡ Some x) × (slice_get are.rows f ≡ Some row) × IsFileKnown u marks k f tree row x
  known_there f tree there =
      let low = slice_get_within u.trees f tree there in
      let (x, at) = there_at list f (let size = are.size in omega (arith, low, size)) in
      let (row, here) = there_at are.rows f (let size = are.rows_size in omega (arith, low, size)) in
      (x, row, at, here, are.each f tree x row there at here)

  other_called : (f n : ℕ) → slice_get (nodes_at u f) n ≡ None → IsCallee u marks (place f n) Other
  other_called f n none = subst (λ (o : Option ℕ). IsCalleeOf u marks f o Other) (sym (no_callee (nodes_at u f) n none)) refl

  calls_known : (f n : ℕ) → IsCallee u marks (place f n) (around.callee (place f n))
  calls_known f n = by (tree_at u f) refl where
    by_told : (tree : FileTree) (x : FileKnown) (row : List Told) (o : Option Told) → tree_at u f ≡ Some tree → IsFileKnown u marks k f tree row x → slice_get row n ≡ o → IsCallee u marks (place f n) (option_map_or callee_in o Other)
    by_told tree x row None there known e = other_called f n (ap (λ (t : Option FileTree). slice_get (nodes_of t) n) there ∙ past tree.nodes n (let l = none_within row n e in let size = known.callees.size in omega (arith, l, size)))
    by_told tree x row (Some t) there known e = known.callees.each n t e

    by : (o : Option FileTree) → tree_at u f ≡ o → IsCallee u marks (place f n) (around.callee (place f n))
    by None e =
        subst (λ (y : Option (List Told)). IsCallee u marks (place f n) (option_map_or callee_in (option_and_then (told_at n) y) Other))
        (sym (past are.rows f (let l = none_within u.trees f e in let size = are.rows_size in omega (arith, l, size)))) (other_called f n (ap (λ (t : Option FileTree). slice_get (nodes_of t) n) e))
    by (Some tree) e =
        let (x, row, at, here, known) = known_there f tree e in
        subst (λ (y : Option (List Told)). IsCallee u marks (place f n) (option_map_or callee_in (option_and_then (told_at n) y) Other)) (sym here) (by_told tree x row (slice_get row n) e known refl)

  pub is_around : IsAround u marks around
  is_around = record {
    calls = λ at. calls_known at.file at.node;
    labels = λ f tree there. (
        let (x, row, at, here, known) = known_there f tree there in
        subst (λ (y : Option FileKnown). AreTold (text_in u f) tree (option_map_or (λ (z : FileKnown). z.labels.items) y [])) (sym at) known.told
        );
  }

  -- ---- functions by number

  calls_same : (given : Member → Bool) (number : Member → Option ℕ) (row : List Told) (n : ℕ) → slice_index_or (map (λ t. call_of given number (callee_in t)) row) n c.Passes ≡ call_of given number (option_map_or callee_in (slice_get row n) Other)
  calls_same given number [] n = refl
  calls_same given number (t ∷ row) zero = refl
  calls_same given number (t ∷ row) (suc n) = calls_same given number row n

  module _ (flows : List FileFlow) (lent : AreLent u.trees list (length u.trees) flows) (fs : List Function) (all : AreFunctions u (length (functions u)) fs) where
    block_is : (at : NodeRef) (tree : FileTree) (b : ℕ) → tree_at u at.file ≡ Some tree → IsBlockOf flows (handed_in k) (number 0 u) (body_with around at.file tree b) (block_in at b)
    block_is at tree b there =
        let (x, flow) = there_at flows at.file (let low = slice_get_within u.trees at.file tree there in let size = lent.size in omega (arith, low, size)) in
        let l = lent.each at.file x flow in
        let (row, here) = there_at are.rows at.file (let low = slice_get_within u.trees at.file tree there in let size = are.rows_size in omega (arith, low, size)) in
        let known = are.each at.file tree l.known row there l.known_there here in
        let same : l.tree ≡ tree = same_some (tree_at u at.file) l.tree tree l.tree_there there in
        record {
          file = x;
          there = flow;
          tree = l.tree_is ∙ same;
          labels = l.labels_are ∙ sym (ap (λ (y : Option FileKnown). option_map_or (λ (z : FileKnown). z.labels.items) y []) l.known_there);
          node = refl;
          calls = λ n. ap (λ (row : List Call). call_at row n) (l.calls_are ∙ known.calls) ∙ (calls_same (handed_in k) (number 0 u) row n
              ∙ ap (call_of (handed_in k) (number 0 u)) (sym (ap (λ (y : Option (List Told)). option_map_or callee_in (option_and_then (told_at n) y) Other) here)));
        }

    body_by : (name : List ℕ) → IsBodyOf flows (handed_in k) (number 0 u) (option_and_then (body_at u around) (declared_at u name)) (body_told u name)
    body_by name = by (declared_at u name) where
      by_block : (at : NodeRef) (tree : FileTree) (o : Option ℕ) → tree_at u at.file ≡ Some tree → IsBodyOf flows (handed_in k) (number 0 u) (option_map (body_with around at.file tree) o) (option_map (block_in at) o)
      by_block at tree None there = refl
      by_block at tree (Some b) there = block_is at tree b there

      by_tree : (at : NodeRef) (o : Option FileTree) → tree_at u at.file ≡ o → IsBodyOf flows (handed_in k) (number 0 u) (option_and_then (body_in around at) o) (option_map (block_in at) (block_at (nodes_of o) at.node))
      by_tree at None e = refl
      by_tree at (Some tree) e = by_block at tree (block_at tree.nodes at.node) e

      by : (o : Option NodeRef) → IsBodyOf flows (handed_in k) (number 0 u) (option_and_then (body_at u around) o) (option_and_then (block_told u) o)
      by None = refl
      by (Some at) = by_tree at (tree_at u at.file) refl

    own_body : (i : ℕ) → bodies_in u around (member_at 0 u i) ≡ option_and_then (body_at u around) (declared_at u (nth_name u i))
    own_body i = ap (λ b. if b then body_of u around (member_at 0 u i) else None) (bytes_same u.path)

    -- each number's name has a first place
    has_number : (i : ℕ) → i < length (functions u) → is_some (number 0 u (member_at 0 u i)) ≡ true
    has_number i low = ap (λ b. is_some (if b then first_of u (nth_name u i) else None)) (bytes_same u.path) ∙ by (first_of u (nth_name u i)) refl where
      name_there : slice_get (names u) i ≡ Some (nth_name u i)
      name_there = mapped (functions u) i low where
        mapped : (xs : List Named) (i : ℕ) → i < length xs → slice_get (map name_in xs) i ≡ Some (option_map_or name_in (slice_get xs i) [])
        mapped [] i low = absurd (omega arith)
        mapped (x ∷ xs) zero low = refl
        mapped (x ∷ xs) (suc i) low = mapped xs i (omega arith)

      by : (o : Option ℕ) → first_of u (nth_name u i) ≡ o → is_some o ≡ true
      by None e = absurd (place_none (names u) (nth_name u i) i e name_there)
      by (Some j) e = refl

    pub functions_are : AreFunctionsOf (listed_in u) (bodies_in u around) u.path (handed_in k) (number 0 u) (member_at 0 u) flows fs
    functions_are = record {
      numbering = subst (λ (n : ℕ). IsNumbering home (Admits (listed_in u) (bodies_in u around)) u.path n (number 0 u) (member_at 0 u)) (sym all.size) (numbered (Admits (listed_in u) (bodies_in u around)) 0 u (λ N m none it. unadmitted u around N m none it));
      listed_so = λ i g there. (all.each i g there).listed_is ∙ sym (and_true (is_listed_name u.path (nth_name u i)) (is_some (number 0 u (member_at 0 u i))) (has_number i (let low = slice_get_within fs i g there in let size = all.size in omega (arith, low, size))));
      body_so = λ i g there. subst (λ (b : Option Block). IsBodyOf flows (handed_in k) (number 0 u) (bodies_in u around (member_at 0 u i)) b) (sym (all.each i g there).body_is)
          (subst (λ (b : Option Body). IsBodyOf flows (handed_in k) (number 0 u) b (body_told u (nth_name u i))) (sym (own_body i)) (body_by (nth_name u i)));
    }
