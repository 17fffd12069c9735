-- `sums::copy` meets its contract. After k turns the first k places are copied and every other is as it was. Assumes nothing.
use Rattle.std.proofs.Common.{ℕ, ltb, get_or}
use Rattle.sums.proofs.Wrote.{Wrote}
use Rattle.sums.proofs.copy.Given as goal

abbrev pub invariant-loop-k : goal.invariant-loop-k
invariant-loop-k g l = let values = g.S.Sample.values in Wrote (λ (i : ℕ). ltb i l.k) (λ (i : ℕ). get_or (values l.from) i 0) (values l.initial.to) (values l.to)
