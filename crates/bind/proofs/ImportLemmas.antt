-- The names of imports, as a list and as the definition has them.
use Rattle.std.proofs.Common.{◌≡◌, ℕ, suc, ◌+◌, ◌-◌, ◌⊎◌, List, [], ◌∷◌, ◌++◌, Bool, true, false, cond, map, Option, Some, None, option_map, option_and_then, length, slice_get, refl, sym, ap, ◌∙◌, subst, inl, inr, arith}
use Rattle.std.specs.List.{Contains}
use Rattle.std.specs.Str.{bytes_eq}
use Rattle.std.proofs.lemmas.List.Elements.{Contains-append_left, Contains-append_right, Contains-append_cases, Contains-push, Contains-push_cases}
use Rattle.go_tree.specs.Head.{import_line, imports_of, piece_imports, is_import, node_at}
use Rattle.go_tree.specs.declared.head.ImportLine.{ImportLine}
use Rattle.go_tree.specs.declared.tree.FileTree.{FileTree}
use Rattle.go_tree.specs.declared.tree.NodeRef.{NodeRef}
use Rattle.bind.specs.Imported.{imported}
use Rattle.bind.specs.Imports.{piece_specs, specs_in, package_of, line_name}
use Rattle.bind.specs.Package.{listed}
use Rattle.bind.specs.Places.{place_from}
use Rattle.bind.proofs.AnswerLemmas.{placed_there}
use Rattle.bind.proofs.Orders.{made}
use Rattle.bind.proofs.PackageLemmas.{from_listed, to_listed}

-- ---- the imports of a file, at their specs

pub map_join : {X Y : Type 0} (g : X → Y) (xs ys : List X) → map g (xs ++ ys) ≡ map g xs ++ map g ys
map_join g [] ys = refl
map_join g (x ∷ xs) ys = ap (λ r. g x ∷ r) (map_join g xs ys)

pieces_same : (tree : FileTree) (source : List ℕ) (top : ℕ) → piece_imports tree source top ≡ map (import_line tree source) (piece_specs tree top)
pieces_same tree source top = at (is_import (node_at tree top).kind) where
  at : (b : Bool) → cond b (map (import_line tree source) (node_at tree top).parts) [] ≡ map (import_line tree source) (cond b (node_at tree top).parts [])
  at true = refl
  at false = refl

pub lines_are : (tree : FileTree) (source : List ℕ) (tops : List ℕ) → imports_of tree source tops ≡ map (import_line tree source) (specs_in tree tops)
lines_are tree source [] = refl
lines_are tree source (t ∷ ts) =
    ap (λ r. piece_imports tree source t ++ r) (lines_are tree source ts)
    ∙ (ap (λ r. r ++ map (import_line tree source) (specs_in tree ts)) (pieces_same tree source t) ∙ sym (map_join (import_line tree source) (piece_specs tree t) (specs_in tree ts)))

pub map_size : {X Y : Type 0} (g : X → Y) (xs : List X) → length (map g xs) ≡ length xs
map_size g [] = refl
map_size g (x ∷ xs) = ap (λ n. suc n) (map_size g xs)

-- ---- what the list of names has

pub from_imported : (named : List (List ℕ × List ℕ)) (file : ℕ) (g : ℕ → ImportLine) (ns : List ℕ) (q : List ℕ) (m : NodeRef) → Contains (imported named file ns (map g ns)) (q, m)
    → (m.file ≡ file) × Contains ns m.node × (line_name named (g m.node) ≡ Some q)
from_imported named file g [] q m (k, low, e) = absurd (omega arith)
from_imported named file g (n ∷ ns) q m there = cases (Contains-append_cases (listed (line_name named (g n)) (record { file = file; node = n })) (imported named file ns (map g ns)) (q, m) there) (λ later. from_imported named file g ns q m later) where
  cases : Contains (listed (line_name named (g n)) (record { file = file; node = n })) (q, m) ⊎ Contains (imported named file ns (map g ns)) (q, m)
      → (Contains (imported named file ns (map g ns)) (q, m) → (m.file ≡ file) × Contains ns m.node × (line_name named (g m.node) ≡ Some q))
      → (m.file ≡ file) × Contains (n ∷ ns) m.node × (line_name named (g m.node) ≡ Some q)
  cases (inl here) others =
      let e = from_listed (line_name named (g n)) (record { file = file; node = n }) q m here in
      let node : n ≡ m.node = ap (λ (x : NodeRef). x.node) e.1 in (
        sym (ap (λ (x : NodeRef). x.file) e.1),
        subst (λ (x : ℕ). Contains (n ∷ ns) x) node (Contains-append_left (n ∷ []) ns n (Contains-push [] n)),
        ap (λ x. line_name named (g x)) (sym node) ∙ e.0,
      )
  cases (inr later) others = let r = others later in (r.0, Contains-append_right (n ∷ []) ns m.node r.1, r.2)

pub to_imported : (named : List (List ℕ × List ℕ)) (file : ℕ) (g : ℕ → ImportLine) (ns : List ℕ) (q : List ℕ) (n : ℕ) → Contains ns n → line_name named (g n) ≡ Some q
    → Contains (imported named file ns (map g ns)) (q, record { file = file; node = n })
to_imported named file g [] q n (k, low, e) is = absurd (omega arith)
to_imported named file g (x ∷ ns) q n there is = cases (Contains-append_cases (x ∷ []) ns n there) (λ later. to_imported named file g ns q n later is) where
  here : (y : ℕ) → y ≡ n → Contains (listed (line_name named (g y)) (record { file = file; node = y })) (q, made file n)
  here y e = subst (λ (z : ℕ). Contains (listed (line_name named (g z)) (made file z)) (q, made file n)) (sym e) (to_listed (line_name named (g n)) (made file n) q is)

  itself : Contains [] n ⊎ (x ≡ n) → Contains (listed (line_name named (g x)) (record { file = file; node = x })) (q, made file n)
  itself (inl (k, low, e)) = absurd (omega arith)
  itself (inr e) = here x e

  cases : Contains (x ∷ []) n ⊎ Contains ns n → (Contains ns n → Contains (imported named file ns (map g ns)) (q, made file n)) → Contains (imported named file (x ∷ ns) (map g (x ∷ ns))) (q, made file n)
  cases (inl first) others = Contains-append_left (listed (line_name named (g x)) (record { file = file; node = x })) (imported named file ns (map g ns)) (q, made file n) (itself (Contains-push_cases [] x n first))
  cases (inr later) others = Contains-append_right (listed (line_name named (g x)) (record { file = file; node = x })) (imported named file ns (map g ns)) (q, made file n) (others later)

-- ---- the name of the package to which a path leads

abbrev Entry : Type 0
Entry = List ℕ × List ℕ

-- the name at a place that is counted from i on
abbrev from_place : List Entry → ℕ → ℕ → Option (List ℕ)
from_place named i k = option_map (λ (e : Entry). e.1) (slice_get named (k - i))

later_place : (e : Entry) (es : List Entry) (path : List ℕ) (i : ℕ) (o : Option ℕ) → place_from (suc i) (map (λ (e : Entry). e.0) es) path ≡ o
    → option_and_then (from_place (e ∷ es) i) o ≡ option_and_then (from_place es (suc i)) o
later_place e es path i None is = refl
later_place e es path i (Some k) is = ap (λ x. option_map (λ (e : Entry). e.1) (slice_get (e ∷ es) x)) (further (placed_there (map (λ (e : Entry). e.0) es) (suc i) k path is)) where
  further : (j : ℕ) × (k ≡ suc i + j) × (slice_get (map (λ (e : Entry). e.0) es) j ≡ Some path) → k - i ≡ suc (k - suc i)
  further (j, n, there) = omega arith

leads : (named : List Entry) (path : List ℕ) (i : ℕ) → option_and_then (from_place named i) (place_from i (map (λ (e : Entry). e.0) named) path) ≡ package_of named path
leads [] path i = refl
leads (e ∷ es) path i = at (bytes_eq e.0 path) (leads es path (suc i)) where
  first : option_map (λ (e : Entry). e.1) (slice_get (e ∷ es) (i - i)) ≡ Some e.1
  first = ap (λ x. option_map (λ (e : Entry). e.1) (slice_get (e ∷ es) x)) (none_left i) where
    none_left : (i : ℕ) → i - i ≡ 0
    none_left i = omega arith

  at : (b : Bool) → option_and_then (from_place es (suc i)) (place_from (suc i) (map (λ (e : Entry). e.0) es) path) ≡ package_of es path
      → option_and_then (from_place (e ∷ es) i) (cond b (Some i) (place_from (suc i) (map (λ (e : Entry). e.0) es) path)) ≡ cond b (Some e.1) (package_of es path)
  at true others = first
  at false others = later_place e es path i (place_from (suc i) (map (λ (e : Entry). e.0) es) path) refl ∙ others

pub package_is : (named : List Entry) (path : List ℕ) → option_and_then (λ k. option_map (λ (e : Entry). e.1) (slice_get named k)) (place_from 0 (map (λ (e : Entry). e.0) named) path) ≡ package_of named path
package_is named path = at (place_from 0 (map (λ (e : Entry). e.0) named) path) ∙ leads named path 0 where
  at : (o : Option ℕ) → option_and_then (λ k. option_map (λ (e : Entry). e.1) (slice_get named k)) o ≡ option_and_then (from_place named 0) o
  at None = refl
  at (Some k) = ap (λ x. option_map (λ (e : Entry). e.1) (slice_get named x)) (less_none k) where
    less_none : (k : ℕ) → k ≡ k - 0
    less_none k = omega arith

pub leads_some : (named : List Entry) (path : List ℕ) (places : List ℕ → Option ℕ) (result : Option ℕ) (place : ℕ) (name : Option (List ℕ)) → ((q : List ℕ) → places q ≡ place_from 0 (map (λ (e : Entry). e.0) named) q)
    → result ≡ places path → result ≡ Some place → name ≡ option_map (λ (e : Entry). e.1) (slice_get named place) → name ≡ package_of named path
leads_some named path places result place name are is there name_is =
    name_is ∙ (ap (λ o. option_and_then (λ k. option_map (λ (e : Entry). e.1) (slice_get named k)) o) (sym there ∙ (is ∙ are path)) ∙ package_is named path)

pub leads_none : (named : List Entry) (path : List ℕ) (places : List ℕ → Option ℕ) (result : Option ℕ) → ((q : List ℕ) → places q ≡ place_from 0 (map (λ (e : Entry). e.0) named) q)
    → result ≡ places path → result ≡ None → None ≡ package_of named path
leads_none named path places result are is there =
    ap (λ o. option_and_then (λ k. option_map (λ (e : Entry). e.1) (slice_get named k)) o) (sym there ∙ (is ∙ are path)) ∙ package_is named path
