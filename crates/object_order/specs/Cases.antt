-- What an object needs, by four cases. The Go specification refuses declarations that refer to themselves (Go 1.17, "Type
-- declarations", "Constant declarations", "Package initialization"), and leaves open how far they refer: the cases are the project's own.
use Rattle.std.specs.Prelude.{◌≡◌, ℕ, ◌==◌, ◌⊎◌, true, false, List, Some}
use Rattle.go_tree.specs.Spells.{Among}
use Rattle.go_tree.specs.declared.tree.Node.{Node}
use Rattle.go_tree.specs.declared.tree.NodeRef.{NodeRef}
use Rattle.object_order.specs.declared.spot.Form.{Form}
use Rattle.object_order.specs.declared.spot.Form.TheVariants as f
use Rattle.object_order.specs.declared.spot.Role.{Role}
use Rattle.object_order.specs.declared.spot.Role.TheVariants as r
use Rattle.object_order.specs.declared.spot.Root.{Root}
use Rattle.object_order.specs.declared.spot.Entry.{Entry}
use Rattle.object_order.specs.Paths.{Leads}
use Rattle.object_order.specs.Spots.{World, place, is_block, is_array, is_interface, is_name, is_paren, is_plain, first_part}

-- ---- what stands in a node

-- a part of a node, which is no body
pub record IsPart (w : World) (at part : NodeRef) : Type 0 where
  pub node : Node
  pub inner : Node
  pub «is» : w.node at ≡ Some node
  pub among : Among part.node node.parts
  pub file : part.file ≡ at.file
  pub there : w.node part ≡ Some inner
  pub no_body : is_block inner.kind ≡ false

-- the node is the other, or lies in it and in no body there
pub data Within (w : World) : NodeRef → NodeRef → Type 0 where
  itself : {a b : NodeRef} → a ≡ b → Within w a b
  deeper : {a b c : NodeRef} → IsPart w a b → Within w b c → Within w a c

-- the node lies in a type under array elements, struct fields, embedded names and parentheses alone
pub data Plainly (w : World) : NodeRef → NodeRef → Type 0 where
  at_once : {a b : NodeRef} → a ≡ b → Plainly w a b
  under_plain : {a b c : NodeRef} → (p : IsPart w a b) → is_plain p.node.kind ≡ true → Plainly w b c → Plainly w a c

-- the node is a use of the object, and no field key
pub record IsMention (w : World) (at u : NodeRef) : Type 0 where
  pub entry : Entry
  pub meant : w.meant at ≡ Some u
  pub declared : w.entry u ≡ Some entry

abbrev pub Mentions : World → NodeRef → NodeRef → Type 0
Mentions w at u = (n : NodeRef) × Within w at n × IsMention w n u

abbrev pub MentionsDirectly : World → NodeRef → NodeRef → Type 0
MentionsDirectly w at u = (n : NodeRef) × Plainly w at n × IsMention w n u

-- ---- declarations

abbrev pub Is : World → NodeRef → Form → Type 0
Is w o form = (e : Entry) × (w.entry o ≡ Some e) × (e.form ≡ form)

-- the node has this role in the object's declaration
pub record IsRoot (w : World) (o : NodeRef) (role : Role) (at : NodeRef) : Type 0 where
  pub entry : Entry
  pub declared : w.entry o ≡ Some entry
  pub root : Root
  pub among : Among root entry.roots
  pub role_is : root.role ≡ role
  pub at_is : place o.file root.node ≡ at

-- the declaration mentions the object outside bodies
abbrev pub HasMention : World → NodeRef → NodeRef → Type 0
HasMention w o u = (role : Role) × (at : NodeRef) × IsRoot w o role at × Mentions w at u

-- the expression is the length of an array type
abbrev pub IsLength : World → NodeRef → NodeRef → Type 0
IsLength w a e = (p : IsPart w a e) × (is_array p.node.kind ≡ true) × ((e.node == first_part p.node) ≡ true)

-- the object's type or value rests on the expression: a value, or the length of an array anywhere in the declaration
abbrev pub RestsOn : World → NodeRef → NodeRef → Type 0
RestsOn w o e = IsRoot w o r.Resting e ⊎ ((role : Role) × (at : NodeRef) × (a : NodeRef) × IsRoot w o role at × Within w at a × IsLength w a e)

-- a method that is declared for a type, or for another name of it
pub data IsMethodOf (w : World) : NodeRef → NodeRef → Type 0 where
  own : {t m : NodeRef} → Among m (w.kin t) → Is w m f.Other → IsMethodOf w t m
  by_name : {t a m : NodeRef} (form : Form) → Among a (w.kin t) → Is w a form → (form ≡ f.Defined → ⊥) → IsMethodOf w a m → IsMethodOf w t m

-- the declaration mentions the object, or the signature of one of its methods does
abbrev pub Reaches : World → NodeRef → NodeRef → Type 0
Reaches w o u = HasMention w o u ⊎ ((m : NodeRef) × IsMethodOf w o m × HasMention w m u)

-- the object is the other, or is reached from it
pub data ReachedFrom (w : World) : NodeRef → NodeRef → Type 0 where
  there : {o u : NodeRef} → o ≡ u → ReachedFrom w o u
  on : {o v u : NodeRef} → Reaches w o v → ReachedFrom w v u → ReachedFrom w o u

-- ---- steps of types

-- the type is a name alone, parentheses aside, that denotes the defined type, followed through aliases
pub data NamesAlone (w : World) : NodeRef → NodeRef → Type 0 where
  names : {at u : NodeRef} → IsMention w at u → Is w u f.Defined → NamesAlone w at u
  follows : {at a to u : NodeRef} → IsMention w at a → Is w a f.Alias → IsRoot w a r.Typing to → NamesAlone w to u → NamesAlone w at u
  in_parens : {at part u : NodeRef} → (p : IsPart w at part) → is_paren p.node.kind ≡ true → NamesAlone w part u → NamesAlone w at u

-- an interface in the node embeds the defined type, followed through aliases
abbrev pub Embeds : World → NodeRef → NodeRef → Type 0
Embeds w at u = (i : NodeRef) × (n : NodeRef) × Within w at i × (p : IsPart w i n) × (is_interface p.node.kind ≡ true) × (is_name p.inner.kind ≡ true) × NamesAlone w n u

-- an alias or a defined type
abbrev pub IsType : World → NodeRef → Type 0
IsType w o = Is w o f.Alias ⊎ Is w o f.Defined

-- one step from type to type: to an alias that it mentions anywhere, to what an interface in it embeds, or to what its declaration names alone
pub data StepsTo (w : World) (t u : NodeRef) : Type 0 where
  to_alias : (at : NodeRef) → IsType w t → IsRoot w t r.Typing at → Mentions w at u → Is w u f.Alias → StepsTo w t u
  to_embedded : (at : NodeRef) → IsType w t → IsRoot w t r.Typing at → Embeds w at u → StepsTo w t u
  to_named : (at : NodeRef) → Is w t f.Defined → IsRoot w t r.Typing at → NamesAlone w at u → StepsTo w t u

-- ---- need

-- The object needs the other: its type mentions it directly; both are aliases and it mentions the other anywhere; an expression on which
-- its type or value rests mentions it, or one from which it is reached; or it is the other, and steps of types lead back to it.
pub data NeedsOf (w : World) (o u : NodeRef) : Type 0 where
  by_type : (at : NodeRef) → IsRoot w o r.Typing at → MentionsDirectly w at u → NeedsOf w o u
  by_alias : (at : NodeRef) → Is w o f.Alias → IsRoot w o r.Typing at → Mentions w at u → Is w u f.Alias → NeedsOf w o u
  by_expression : (e v : NodeRef) → RestsOn w o e → Mentions w e v → ReachedFrom w v u → NeedsOf w o u
  by_steps : u ≡ o → Leads (StepsTo w) o o → NeedsOf w o u
