-- Initialisation cycles, by what names denote, by the marks of those before colons and by the methods that are selected (Go 1.17, "Package initialization").
use Rattle.std.specs.Prelude.{Option}
use Rattle.go_tree.specs.declared.tree.NodeRef.{NodeRef}
use Rattle.typed_marks.specs.declared.item.Item.{Item}
use Rattle.typed_marks.specs.Meanings.{Meaning}
use Rattle.unit_read.specs.Units.{Unit}
use Rattle.value_circles.specs.Bodies.{body_entries, opened_trees}
use Rattle.value_circles.specs.Circles.{IsInitialCircle}
use Rattle.check_pkg.specs.References.{AreReferences}

-- E5: the name of a variable of the package block that isn't refused as a declaration that needs itself, and that reaches itself by references in initial values
-- and in the bodies of functions and methods. What lies in the body of a function literal counts where the literal stands.
abbrev pub IsInitialFault : Unit → (Item → Meaning) → NodeRef → Type 0
IsInitialFault u marks at =
    (meant : NodeRef → Option NodeRef) × AreReferences u marks meant × IsInitialCircle (opened_trees u.trees) meant u.cyclic (body_entries u.trees) at
