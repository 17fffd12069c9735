-- `hadamard::store` meets its contract: each store is the next of `stores`, and a small number is read back as it is. Assumes nothing.
use native.Mathlib.Nat.{add-zero, zero-mul, one-mul}
use native.Mathlib.Omega.{arith}
use Rattle.hadamard.specs.Steps.{nth, stores}
use Rattle.hadamard.proofs.SignedLaws.{read_back}
use Rattle.hadamard.proofs.store.Goals as goal

pub returns : goal.returns
unfolding stores
returns c =
    let y = c.args.y in
    let most = c.requires.four_within.most in
    simp (zero-mul, one-mul, add-zero, read_back (nth y 0) (omega (arith, most 0)), read_back (nth y 1) (omega (arith, most 1)), read_back (nth y 2) (omega (arith, most 2)), read_back (nth y 3) (omega (arith, most 3)))
