-- Where the nodes of files that parse stand.
use Rattle.std.proofs.Common.{◌≡◌, ℕ, zero, suc, ◌<◌, ◌≤◌, true, false, List, [], ◌∷◌, length, Option, Some, None, slice_get, get_or, slice_index_or, option_and_then, refl, sym, ap, ◌∙◌, subst, arith}
use Rattle.std.specs.List.{All}
use Rattle.std.specs.Option.{option_map_or}
use Rattle.std.proofs.lemmas.Option.{slice_get_within, slice_get-get_or, get_or_from_slice_get, same_Some}
use Rattle.go_tree.specs.declared.token.Token.{Token}
use Rattle.go_tree.specs.declared.tree.FileTree.{FileTree}
use Rattle.go_tree.specs.declared.tree.Node.{Node}
use Rattle.go_tree.specs.declared.tree.NodeKind.{NodeKind}
use Rattle.go_tree.specs.declared.tree.NodeKind.TheVariants as k
use Rattle.go_tree.specs.Lexeme.{item_of}
use Rattle.go_scan.proofs.TokenLaws.{tokens_lie}
use Rattle.parse_file.specs.Verdict.{IsParsed}
use Rattle.package_objects.specs.Declares.{part}
use Rattle.unit_read.specs.Units.{Unit, text_in, nodes_at, nodes_of, token_at}
use Rattle.vet_suite.specs.Diagnosing.{start_of, end_of}
use Rattle.vet_suite.specs.Forms.{is_plain_call}
use Rattle.vet_suite.specs.Assigning.{is_assign}
use Rattle.vet_suite.specs.Standing.{NodesStand}
use Rattle.action_graph.specs.Judging.{AreParsed}
use Rattle.action_graph.proofs.NodeTokens.{is_statements}
use Rattle.action_graph.proofs.PieceTokens.{NodeHas, IsAt, nodes_have}
use Rattle.action_graph.proofs.ListParts.{is_clause, NoList, NodeTidy, parts_plain}
use Rattle.action_graph.proofs.TokenOrder.{spans}

all_get : {A : Type 0} (P : A → Type 0) (xs : List A) (i : ℕ) (x : A) → All P xs → slice_get xs i ≡ Some x → P x
all_get P xs i x all at = subst P (get_or_from_slice_get xs i x x at) (all i x (slice_get_within xs i x at))

parsed_at : (texts : List (List ℕ)) (trees : List FileTree) (f : ℕ) (tree : FileTree) → AreParsed texts trees → slice_get trees f ≡ Some tree → IsParsed (slice_index_or texts f []) tree
parsed_at [] [] f tree h at = absurd (let l : f < 0 = slice_get_within [] f tree at in omega (arith, l))
parsed_at [] (t ∷ trees) f tree h at = absurd h
parsed_at (x ∷ texts) [] f tree h at = absurd h
parsed_at (x ∷ texts) (t ∷ trees) zero tree h at = subst (IsParsed x) (same_Some t tree at) h.0
parsed_at (x ∷ texts) (t ∷ trees) (suc f) tree h at = parsed_at texts trees f tree h.1 at

-- ---- a file

-- where a token begins or ends
abbrev place : (Token → ℕ) → List Token → ℕ → ℕ
place at tokens i = option_map_or at (slice_get tokens i) 0

assigns : (k : NodeKind) → is_assign k ≡ true → is_statements k ≡ false
assigns k.List h = absurd (cc)
assigns _ h = refl

calls : (k : NodeKind) → is_plain_call k ≡ true → is_clause k ≡ false
calls k.Case h = absurd (cc)
calls k.Default h = absurd (cc)
calls k.TypeCase h = absurd (cc)
calls k.Comm h = absurd (cc)
calls _ h = refl

module _ (text : List ℕ) (tree : FileTree) (parsed : IsParsed text tree) where
  tokens_are : parsed.tokens ≡ tree.tokens
  tokens_are = ap (λ (t : FileTree). t.tokens) parsed.spelled.arena

  lies : (at : Token → ℕ) → ((t : Token) → (t.start ≤ t.end) × (t.end ≤ length text) → at t ≤ length text) → (i : ℕ) → place at tree.tokens i ≤ length text
  lies at low i = by (slice_get tree.tokens i) refl where
    by : (o : Option Token) → slice_get tree.tokens i ≡ o → option_map_or at o 0 ≤ length text
    by None h = omega arith
    by (Some t) h = low t (tokens_lie item_of text parsed.tokens parsed.lexed i t (ap (λ (ts : List Token). slice_get ts i) tokens_are ∙ h))

  here : (at : Token → ℕ) (i : ℕ) (t : Token) → slice_get parsed.tokens i ≡ Some t → at t ≡ place at tree.tokens i
  here at i t h = ap (λ (o : Option Token). option_map_or at o 0) (sym h ∙ ap (λ (ts : List Token). slice_get ts i) tokens_are)

  -- a node that is no list of statements begins before it ends
  node_spans : (n : ℕ) (node : Node) → slice_get tree.nodes n ≡ Some node → is_statements node.kind ≡ false → place (λ t. t.start) tree.tokens node.first < place (λ t. t.end) tree.tokens node.last
  node_spans n node at other =
      let has : NodeHas (IsAt text parsed.tokens) (length parsed.tokens) node = all_get (NodeHas (IsAt text parsed.tokens) (length parsed.tokens)) tree.nodes n node (nodes_have parsed.tokens text tree parsed.spelled) at in
      let is = has other in
      let x = is.0.0 in
      let first = is.0.1 in
      let t = first.0 in
      let s = get_or parsed.tokens node.last t in
      let last = slice_get-get_or parsed.tokens node.last t is.2 in
      let less = spans text parsed.tokens node.first node.last t s parsed.lexed first.1 last is.1 (λ semi. is.0.2 (sym first.2 ∙ semi)) in
      let a = here (λ u. u.start) node.first t first.1 in
      let b = here (λ u. u.end) node.last s last in
      omega (arith, less, a, b)

  -- so does what a call has as an argument
  part_spans : (n m : ℕ) (node other : Node) → slice_get tree.nodes n ≡ Some node → is_plain_call node.kind ≡ true → part node 1 ≡ Some m → slice_get tree.nodes m ≡ Some other
      → place (λ t. t.start) tree.tokens other.first < place (λ t. t.end) tree.tokens other.last
  part_spans n m node other at call operand there =
      let tidy : NodeTidy tree.nodes node = all_get (NodeTidy tree.nodes) tree.nodes n node (parts_plain parsed.tokens text tree parsed.spelled) at in
      let plain : NoList tree.nodes m = all_get (NoList tree.nodes) node.parts 1 m (tidy (calls node.kind call)) operand in
      node_spans m other there (plain other there)

-- ---- the files of a package

module _ (u : Unit) (parsed : AreParsed u.texts u.trees) where
  low_at : (at : Token → ℕ) → ((t : Token) (size : ℕ) → t.start ≤ t.end → t.end ≤ size → at t ≤ size) → (f i : ℕ) → option_map_or at (token_at u f i) 0 ≤ length (text_in u f)
  low_at at low f i = by (slice_get u.trees f) refl where
    by : (o : Option FileTree) → slice_get u.trees f ≡ o → option_map_or at (option_and_then (λ (tree : FileTree). slice_get tree.tokens i) o) 0 ≤ length (text_in u f)
    by None h = omega arith
    by (Some tree) h = lies (text_in u f) tree (parsed_at u.texts u.trees f tree parsed h) at (λ t in_text. low t (length (text_in u f)) in_text.0 in_text.1) i

  -- what is asked of two tokens of a tree in a list is found in that tree
  abbrev Less : Option FileTree → Node → Type 0
  Less o node = option_map_or (λ (t : Token). t.start) (option_and_then (λ (tree : FileTree). slice_get tree.tokens node.first) o) 0 < option_map_or (λ (t : Token). t.end) (option_and_then (λ (tree : FileTree). slice_get tree.tokens node.last) o) 0

  assign_stands : (f n : ℕ) (node : Node) → slice_get (nodes_at u f) n ≡ Some node → is_assign node.kind ≡ true → start_of u f node.first < end_of u f node.last
  assign_stands f n node = by (slice_get u.trees f) refl where
    by : (o : Option FileTree) → slice_get u.trees f ≡ o → slice_get (nodes_of o) n ≡ Some node → is_assign node.kind ≡ true → Less o node
    by None h at is = absurd (cc)
    by (Some tree) h at is = node_spans (text_in u f) tree (parsed_at u.texts u.trees f tree parsed h) n node at (assigns node.kind is)

  call_stands : (f n m : ℕ) (node other : Node) → slice_get (nodes_at u f) n ≡ Some node → is_plain_call node.kind ≡ true → part node 1 ≡ Some m → slice_get (nodes_at u f) m ≡ Some other
      → start_of u f other.first < end_of u f other.last
  call_stands f n m node other at call operand = by (slice_get u.trees f) refl at where
    by : (o : Option FileTree) → slice_get u.trees f ≡ o → slice_get (nodes_of o) n ≡ Some node → slice_get (nodes_of o) m ≡ Some other → Less o other
    by None h at there = absurd (cc)
    by (Some tree) h at there = part_spans (text_in u f) tree (parsed_at u.texts u.trees f tree parsed h) n m node other at call operand there

  -- the nodes of files that parse stand in them
  pub parsed_stand : NodesStand u
  parsed_stand = record {
    begin = low_at (λ (t : Token). t.start) (λ t size first last. omega (arith, first, last));
    finish = low_at (λ (t : Token). t.end) (λ t size first last. last);
    assigned = λ f n node at is. let less = assign_stands f n node at is in omega (arith, less);
    passed = call_stands;
  }
