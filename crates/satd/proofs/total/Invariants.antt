-- `satd::total` meets its contract. The loop's invariant: the absolute values passed are added. Assumes nothing.
use Rattle.std.proofs.Common.{◌≡◌, ℕ, nat_abs, pos, get_or}
use Rattle.sums.specs.Sums.{sum_below}
use Rattle.satd.proofs.total.Given as goal

abbrev pub invariant-loop-v : goal.invariant-loop-v
invariant-loop-v l = l.sum ≡ sum_below l.v-index (λ (t : ℕ). nat_abs (get_or l.block t (pos 0)))
