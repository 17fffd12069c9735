-- `hadamard::paired` meets its contract: what is read back of the two butterflies is the stage. Assumes nothing.
use native.Mathlib.Omega.{arith}
use Rattle.hadamard.specs.Steps.{nth}
use Rattle.hadamard.proofs.SignedLaws.{two_read}
use Rattle.hadamard.proofs.paired.Goals as goal

pub returns : goal.returns
returns c =
    let x = c.args.x in
    let most = c.requires.most in
    let first = two_read (nth x 0) (nth x 1) (omega (arith, most 0)) (omega (arith, most 1)) _ c.butterfly-sum.ensures in
    let second = two_read (nth x 2) (nth x 3) (omega (arith, most 2)) (omega (arith, most 3)) _ c.butterfly-next_sum.ensures in
    rw (first.0, second.0, first.1, second.1)
