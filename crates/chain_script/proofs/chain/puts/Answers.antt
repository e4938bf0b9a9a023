use Rattle.std.proofs.Common.{◌≡◌, ◌+◌, ◌++◌, ◌∙◌, ℕ, suc, List, ap, sym, arith}
use Rattle.chain_script.specs.Chain.{put_text, puts_below}
use Rattle.chain_script.proofs.chain.puts.Goals as goal

one-more : (k : ℕ) → puts_below k ++ put_text k ≡ puts_below (k + 1)
one-more k = ap puts_below (let e : suc k ≡ k + 1 = omega arith in e)

pub loop-i-preserved : goal.loop-i-preserved
loop-i-preserved c =
    c.in_ok-extend_from_slice.ensures.items
    ∙ (ap (λ (t : List ℕ). t ++ c.deref.result.now) c.loop-i.invariant
    ∙ (ap (λ (t : List ℕ). puts_below c.loop-i.i ++ t) (c.deref.ensures.value ∙ c.in_ok-text.ensures) ∙ one-more c.loop-i.i))
