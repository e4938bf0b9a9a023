use Rattle.std.proofs.Common.{◌≡◌, ◌≤◌, ℕ, List, true, length, ap, sym, ◌∙◌, subst, arith, string_bytes}
use Rattle.std.proofs.lemmas.Bool.{leb-true}
use Rattle.gv_base.specs.Paths.{IsPath}
use Rattle.disk.specs.Folders.{child}
use Rattle.disk.specs.Names.{is_segment, is_short}
use Rattle.disk.proofs.PathTests.{segment-of, child-path}
use Rattle.disk.proofs.listing.take_item.Goals as goal

pub take_file-requires : goal.take_file-requires
take_file-requires c =
    let name = string_bytes c.args.item.now.name in
    let seg : is_segment name ≡ true = ap is_segment (sym c.as_bytes.ensures.value) ∙ sym c.if-not-is_segment.ensures in
    let is : string_bytes c.in_ok-path.path ≡ child c.args.folder.now name = c.in_ok-path.ensures ∙ ap (child c.args.folder.now) c.as_str.ensures.value in
    let short : is_short (child c.args.folder.now name) ≡ true = ap is_short (sym (c.as_bytes-2.ensures.value ∙ is)) ∙ sym c.if-not-is_short.ensures in
    let P : List ℕ → Type 0 = λ z. IsPath z in
    subst P (sym (c.as_str-in-File.ensures.value ∙ is)) (child-path c.args.folder.now name c.requires (segment-of name seg) (leb-true (length (child c.args.folder.now name)) 1024 short))
