-- `intra::flat_sample` meets its contract: the word holds it. Assumes nothing.
use Rattle.std.proofs.Common.{ℕ, ◌^◌, ◌+◌, ◌%◌, ap, ◌∙◌, arith}
use native.Mathlib.Nat.{mod-eq_of_lt}
use Rattle.intra.specs.Fill.{flat_sample}
use Rattle.intra.proofs.CostLaws.{flat_held}
use Rattle.intra.proofs.flat_sample.Goals as goal

pub returns : goal.returns
returns g c =
    let most = g.S.Sample.most in
    let held = flat_held g.S.Depths.word c.args.depth most c.requires (g.met.S.Depths.holds c.args.depth c.requires) in
    c.narrowed.ensures.is
    ∙ ap (λ (n : ℕ). n % (most + 1)) (mod-eq_of_lt {n = flat_sample c.args.depth} {m = 2 ^ 32} (omega (arith, held.1, g.met.S.Sample.narrow)))
    ∙ mod-eq_of_lt (omega (arith, held.1))
