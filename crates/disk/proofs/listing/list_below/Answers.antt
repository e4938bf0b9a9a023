use Rattle.std.proofs.Common.{◌≡◌, ℕ, List, [], ◌∷◌, Option, map, refl, ap, sym, ◌∙◌, subst, string_bytes}
use Rattle.gv_base.specs.Files.{Entry}
use Rattle.disk.specs.Folders.{Placed}
use Rattle.disk.proofs.Progressing.{UnderWay, under-way, way-on, way-told}
use Rattle.disk.proofs.Waiting.{way-less}
use Rattle.disk.proofs.listing.list_below.Goals as goal

pub folders-init : goal.folders-init
folders-init g c = record {
  slots = refl;
  held = refl;
  way = (let P : List Entry → Type 0 = λ z. UnderWay (g.D.Disk.slots c.args.disk.now) z (map string_bytes c.in-Ok.waiting.items) in
      let Q : List (List ℕ) → Type 0 = λ z. UnderWay (g.D.Disk.slots c.args.disk.now) [] z in
      subst P (sym c.new-found.ensures) (subst Q (sym c.in-Ok.ensures) (under-way (g.D.Disk.slots c.args.disk.now))));
}

pub folders-preserved : goal.folders-preserved
folders-preserved g c = record {
  slots = c.in_ok-more.ensures.slots ∙ c.folders.invariant.slots;
  held = c.in_ok-more.ensures.held ∙ c.folders.invariant.held;
  way = (let P : Option (List Placed) → Type 0 = λ z. UnderWay z c.next_turn.new.found (map string_bytes c.next_turn.new.waiting.items) in
      subst P (sym c.in_ok-more.ensures.slots) (way-on (g.D.Disk.slots c.folders.disk) c.folders.found c.next_turn.new.found (map string_bytes c.folders.waiting.items) (map string_bytes c.next_turn.new.waiting.items) c.in_ok-more.more c.if-not-more.false c.folders.invariant.way c.in_ok-more.ensures.turns));
}

pub folders-smaller : goal.folders-smaller
folders-smaller g c =
    way-less (g.D.Disk.slots c.folders.disk) c.folders.found c.next_turn.new.found (map string_bytes c.folders.waiting.items) (map string_bytes c.next_turn.new.waiting.items) c.in_ok-more.more c.if-not-more.false
    c.folders.invariant.way c.in_ok-more.ensures.turns

pub returns-then-not-more-clause-listed : goal.returns-then-not-more-clause-listed
returns-then-not-more-clause-listed g c =
    way-told (g.D.Disk.slots c.args.disk.now) (g.D.Disk.slots c.folders.disk) c.folders.found c.next_turn.new.found (map string_bytes c.folders.waiting.items) (map string_bytes c.next_turn.new.waiting.items) (map string_bytes c.in_ok-list.list.items) c.in_ok-more.more c.if-not-more.true
    c.folders.invariant.slots c.folders.invariant.way c.in_ok-more.ensures.turns c.in_ok-list.ensures.listed
