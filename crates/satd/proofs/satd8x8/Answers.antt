-- `satd::satd8x8` meets its contract: an array of 64 samples has room in memory. Assumes nothing.
use Rattle.std.proofs.Common.{arith}
use Rattle.satd.proofs.satd8x8.Goals as goal

pub whole-requires : goal.whole-requires
whole-requires g c = omega (arith, g.met.S.Sample.room)
