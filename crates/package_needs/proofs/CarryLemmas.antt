-- What is needed is the same by two descriptions of one package.
use Rattle.std.proofs.Common.{◌≡◌, ◌↔◌, ℕ, IsTrue, Bool, List, [], ◌∷◌, slice_get, Option, Some, None, refl, sym, ap, ◌∙◌, subst, inl, inr}
use Rattle.go_tree.specs.Spells.{Among}
use Rattle.go_tree.specs.declared.bindings.Object.{Object}
use Rattle.go_tree.specs.declared.tree.FileTree.{FileTree}
use Rattle.go_tree.specs.declared.tree.Node.{Node}
use Rattle.go_tree.specs.declared.tree.NodeRef.{NodeRef}
use Rattle.std.specs.Global.{Vec}
use Rattle.object_order.specs.declared.spot.Entry.{Entry}
use Rattle.object_order.specs.declared.spot.Form.{Form}
use Rattle.object_order.specs.declared.spot.Role.{Role}
use Rattle.object_order.specs.Cases.{IsPart, Within, itself, deeper, Plainly, at_once, under_plain, IsMention, Mentions, MentionsDirectly, Is, IsRoot, HasMention, RestsOn, IsMethodOf, own, by_name, Reaches, ReachedFrom, there, on, NamesAlone, names, follows, in_parens, Embeds, IsType, StepsTo, to_alias, to_embedded, to_named, NeedsOf, by_type, by_alias, by_expression, by_steps}
use Rattle.object_order.specs.Paths.{Path, Leads}
use Rattle.object_order.specs.Spots.{World}
use Rattle.package_needs.specs.Keys.{up, IsMentioned, AreMentions}
use Rattle.package_needs.specs.Worlds.{IsPackage}

-- what is known by the one is known by the other
pub record Carries (w v : World) : Type 0 where
  pub node : (at : NodeRef) → w.node at ≡ v.node at
  pub meant : (at : NodeRef) → w.meant at ≡ v.meant at
  pub entry : (at : NodeRef) → w.entry at ≡ v.entry at
  pub kin : (t m : NodeRef) → Among m (w.kin t) → Among m (v.kin t)

abbrev part : {w v : World} → Carries w v → {a b : NodeRef} → IsPart w a b → IsPart v a b
part {w} {v} c {a} {b} p = record { node = p.node; inner = p.inner; «is» = sym (c.node a) ∙ p.«is»; among = p.among; file = p.file; there = sym (c.node b) ∙ p.there; no_body = p.no_body }

within : {w v : World} → Carries w v → {a b : NodeRef} → Within w a b → Within v a b
within c (itself e) = itself e
within c (deeper p rest) = deeper (part c p) (within c rest)

plainly : {w v : World} → Carries w v → {a b : NodeRef} → Plainly w a b → Plainly v a b
plainly c (at_once e) = at_once e
plainly c (under_plain p plain rest) = under_plain (part c p) plain (plainly c rest)

mention : {w v : World} → Carries w v → {a u : NodeRef} → IsMention w a u → IsMention v a u
mention c {a} {u} m = record { entry = m.entry; meant = sym (c.meant a) ∙ m.meant; declared = sym (c.entry u) ∙ m.declared }

mentions : {w v : World} → Carries w v → {a u : NodeRef} → Mentions w a u → Mentions v a u
mentions c (n, inside, m) = (n, within c inside, mention c m)

directly : {w v : World} → Carries w v → {a u : NodeRef} → MentionsDirectly w a u → MentionsDirectly v a u
directly c (n, inside, m) = (n, plainly c inside, mention c m)

is_form : {w v : World} → Carries w v → {o : NodeRef} {form : Form} → Is w o form → Is v o form
is_form c {o} (e, e_at, same) = (e, sym (c.entry o) ∙ e_at, same)

root : {w v : World} → Carries w v → {o at : NodeRef} {role : Role} → IsRoot w o role at → IsRoot v o role at
root c {o} d = record { entry = d.entry; declared = sym (c.entry o) ∙ d.declared; root = d.root; among = d.among; role_is = d.role_is; at_is = d.at_is }

has_mention : {w v : World} → Carries w v → {o u : NodeRef} → HasMention w o u → HasMention v o u
has_mention c (role, at, is, m) = (role, at, root c is, mentions c m)

rests : {w v : World} → Carries w v → {o e : NodeRef} → RestsOn w o e → RestsOn v o e
rests c (inl is) = inl (root c is)
rests c (inr (role, at, a, is, inside, (p, array, first))) = inr (role, at, a, root c is, within c inside, (part c p, array, first))

method : {w v : World} → Carries w v → {t m : NodeRef} → IsMethodOf w t m → IsMethodOf v t m
method c {t} {m} (own among is) = own (c.kin t m among) (is_form c is)
method c {t} {m} (by_name {a = a} form among is apart more) = by_name form (c.kin t a among) (is_form c is) apart (method c more)

reaches : {w v : World} → Carries w v → {o u : NodeRef} → Reaches w o u → Reaches v o u
reaches c (inl m) = inl (has_mention c m)
reaches c (inr (m, of, has)) = inr (m, method c of, has_mention c has)

reached : {w v : World} → Carries w v → {o u : NodeRef} → ReachedFrom w o u → ReachedFrom v o u
reached c (there e) = there e
reached c (on step rest) = on (reaches c step) (reached c rest)

alone : {w v : World} → Carries w v → {at u : NodeRef} → NamesAlone w at u → NamesAlone v at u
alone c (names m is) = names (mention c m) (is_form c is)
alone c (follows m is to rest) = follows (mention c m) (is_form c is) (root c to) (alone c rest)
alone c (in_parens p paren rest) = in_parens (part c p) paren (alone c rest)

embeds : {w v : World} → Carries w v → {at u : NodeRef} → Embeds w at u → Embeds v at u
embeds c (i, n, inside, p, interface, name, rest) = (i, n, within c inside, part c p, interface, name, alone c rest)

is_type : {w v : World} → Carries w v → {o : NodeRef} → IsType w o → IsType v o
is_type c (inl is) = inl (is_form c is)
is_type c (inr is) = inr (is_form c is)

steps : {w v : World} → Carries w v → {t u : NodeRef} → StepsTo w t u → StepsTo v t u
steps c (to_alias at is to m alias) = to_alias at (is_type c is) (root c to) (mentions c m) (is_form c alias)
steps c (to_embedded at is to e) = to_embedded at (is_type c is) (root c to) (embeds c e)
steps c (to_named at is to rest) = to_named at (is_form c is) (root c to) (alone c rest)

path : {A : Type 0} (one two : A → A → Type 0) → ((a b : A) → one a b → two a b) → (a b : A) (via : List A) → Path one a via b → Path two a via b
path one two to a b [] edge = to a b edge
path one two to a b (x ∷ via) (edge, rest) = (to a x edge, path one two to x b via rest)

pub leads : {A : Type 0} (one two : A → A → Type 0) → ((a b : A) → one a b → two a b) → (a b : A) → Leads one a b → Leads two a b
leads one two to a b (via, p) = (via, path one two to a b via p)

pub needs : {w v : World} → Carries w v → {o u : NodeRef} → NeedsOf w o u → NeedsOf v o u
needs c (by_type at is m) = by_type at (root c is) (directly c m)
needs c (by_alias at alias is m other) = by_alias at (is_form c alias) (root c is) (mentions c m) (is_form c other)
needs c (by_expression e x on_it m to) = by_expression e x (rests c on_it) (mentions c m) (reached c to)
needs {w} {v} c {o} {u} (by_steps same turn) = by_steps same (leads (StepsTo w) (StepsTo v) (λ a b s. steps c s) o o turn)

-- ---- two descriptions of one package

one_mention : (by : World) (elsewhere : NodeRef → Bool) (up_to : NodeRef → Option NodeRef) (at : NodeRef) (a b : Option NodeRef) → IsMentioned by elsewhere up_to at a → IsMentioned by elsewhere up_to at b → a ≡ b
one_mention by elsewhere up_to at a b (inl (key, none)) (inl (other, none_b)) = none ∙ sym none_b
one_mention by elsewhere up_to at a b (inl (key, none)) (inr (lacks, is)) = absurd (lacks key)
one_mention by elsewhere up_to at a b (inr (lacks, is)) (inl (key, none)) = absurd (lacks key)
one_mention by elsewhere up_to at a b (inr (lacks, is)) (inr (other, is_b)) = is ∙ sym is_b

same_meant : (w_names w v : World) (elsewhere : NodeRef → Bool) (up_to : NodeRef → Option NodeRef) → AreMentions w_names elsewhere up_to w.meant → AreMentions w_names elsewhere up_to v.meant → (at : NodeRef) → w.meant at ≡ v.meant at
same_meant w_names w v elsewhere up_to one two at = from (w_names.node at) refl where
  from : (o : Option Node) → w_names.node at ≡ o → w.meant at ≡ v.meant at
  from None none = one.outside at none ∙ sym (two.outside at none)
  from (Some n) some = one_mention w_names elsewhere up_to at (w.meant at) (v.meant at) (one.node at n some) (two.node at n some)

pub carries : (uses : List (NodeRef × Object)) (trees : List FileTree) (elsewhere : NodeRef → Bool) (rows : List (Vec (Option NodeRef))) (w_names w v : World) → IsPackage uses trees elsewhere rows w_names w → IsPackage uses trees elsewhere rows w_names v → Carries w v
carries uses trees elsewhere rows w_names w v one two = record {
  node = λ at. ap (λ (g : NodeRef → Option Node). g at) (one.same_nodes ∙ sym two.same_nodes);
  meant = same_meant w_names w v elsewhere (up trees) one.mentions two.mentions;
  entry = λ at. ap (λ (g : NodeRef → Option Entry). g at) (one.same_entries ∙ sym two.same_entries);
  kin = λ t m among. (two.methods t m).1 ((one.methods t m).0 among);
}
