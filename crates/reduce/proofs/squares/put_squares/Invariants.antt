-- `reduce::squares::put_squares` meets its contract. After x turns the first x places have the means of their squares. Assumes nothing.
use Rattle.std.proofs.Common.{ℕ, ltb}
use Rattle.sums.proofs.Wrote.{Wrote}
use Rattle.reduce.specs.Needs.{mean_from}
use Rattle.reduce.proofs.squares.put_squares.Given as goal

abbrev pub invariant-loop-x : goal.invariant-loop-x
invariant-loop-x g l = let values = g.S.Sample.values in Wrote (λ (k : ℕ). ltb k l.x) (mean_from l.factor (values l.s) l.start l.stride) (values l.initial.out) (values l.out)
