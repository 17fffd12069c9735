-- `entry` meets its contract: past the entries the library's NaN stands for each number of no score. Assumes nothing.
use mathlib.Core.Path.{◌≡◌, refl, ◌∙◌}
use lib.Ieee.{nan, binary64, of_bits}
use Rattle.score.specs.Deque.{no_score}
use native.Mathlib.Omega.{arith}
use Rattle.score.proofs.ScoreDeque.entry.Goals as goal

is_nan : of_bits binary64 9221120237041090560 ≡ nan
unfolding of_bits
is_nan = refl

pub returns-in-None : goal.returns-in-None
returns-in-None c = c.new.ensures ∙ rw (is_nan, ← c.scores.ensures) (c.in-None.ensures.lookup.4 (omega arith) no_score)
