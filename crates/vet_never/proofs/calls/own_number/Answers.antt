use Rattle.std.proofs.Common.{◌≡◌, ◌<◌, Option, List, ℕ, None, Some, IfSome, if◌then◌else◌, sym, ap, ◌∙◌, arith}
use Rattle.std.proofs.lemmas.Option.{slice_get_within}
use Rattle.findings.specs.Passes.{unit_in}
use Rattle.own_functions.specs.Functions.{name_in, functions, names, first_of}
use Rattle.unit_read.specs.Index.{found}
use Rattle.own_functions.proofs.NameLemmas.{place_there, mapped_there}
use Rattle.vet_never.proofs.calls.own_number.Goals as goal

pub returns-then-is_own-clause-is : goal.returns-then-is_own-clause-is
returns-then-is_own-clause-is c =
    c.find.ensures ∙ (ap (λ (q : List ℕ). found c.args.known.now.numbers.now q) (c.as_bytes.ensures.value ∙ c.as_str.ensures) ∙ (c.requires.numbers c.args.m.now.name ∙ sym (ap (λ b. if b then first_of (unit_in c.args.p.now) c.args.m.now.name else None) (sym c.is_own.ensures ∙ c.if-is_own.true))))

pub returns-else-is_own-clause-is : goal.returns-else-is_own-clause-is
returns-else-is_own-clause-is c = sym (ap (λ b. if b then first_of (unit_in c.args.p.now) c.args.m.now.name else None) (sym c.is_own.ensures ∙ c.if-is_own.false))

pub returns-then-is_own-clause-below : goal.returns-then-is_own-clause-below
returns-then-is_own-clause-below c = below c.find.result (c.find.ensures ∙ (ap (λ (q : List ℕ). found c.args.known.now.numbers.now q) (c.as_bytes.ensures.value ∙ c.as_str.ensures) ∙ c.requires.numbers c.args.m.now.name)) where
  -- the place of a name is below the count of names, and that is below 2 ^ 32
  below : (o : Option ℕ) → o ≡ first_of (unit_in c.args.p.now) c.args.m.now.name → IfSome o (λ i. i < 4294967296)
  below None e = tt
  below (Some i) e =
      let (x, there, same) = mapped_there name_in (functions (unit_in c.args.p.now)) i c.args.m.now.name (place_there (names (unit_in c.args.p.now)) c.args.m.now.name i (sym e)) in
      let low = slice_get_within (functions (unit_in c.args.p.now)) i x there in
      omega (arith, low, c.requires.few)
