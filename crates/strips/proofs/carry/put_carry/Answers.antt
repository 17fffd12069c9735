-- `strips::carry::put_carry` meets its contract: six stores from the start on. Assumes nothing.
use mathlib.Core.List.{List, ◌++◌, append-nil}
use mathlib.Core.Path.{ap, ◌∙◌}
use Prim.Native.Nat.{ℕ}
use native.Mathlib.Omega.{arith}
use lib.ListN.{drop_of_length-le}
use lib.Seq.{sets-eq}
use Rattle.strips.specs.Carry.{carry_long, carry_numbers}
use Rattle.strips.proofs.carry.put_carry.Goals as goal

pub returns : goal.returns
returns c =
    let ns = c.args.numbers.now in
    let rest = drop_of_length-le ns {i = carry_long} (omega arith) in
    sets-eq (carry_numbers c.args.c) ns 0 (omega arith) ∙ ap (λ (l : List ℕ). carry_numbers c.args.c ++ l) rest ∙ append-nil (carry_numbers c.args.c)
