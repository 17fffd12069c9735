-- Each contract of module `sensor` allows one outcome alone: the number, and all that a caller keeps. Assumes nothing.
use mathlib.Core.List.{List}
use Prim.Native.Nat.{ℕ}
use lib.IntN.{ℤ}
use Rattle.answer.specs.Unique.{OneOutcome}
use Rattle.strips.specs.Strips.{Kept, kept}
use Rattle.brinepulley.proofs.Unique.{same, both}
use Rattle.brinepulley.proofs.sensor.brine_strips_start.Kinds as start-kinds
use Rattle.brinepulley.proofs.sensor.brine_strips_start.Reads as start-reads
use Rattle.brinepulley.proofs.sensor.brine_strips_end.Kinds as end-kinds
use Rattle.brinepulley.proofs.sensor.brine_strips_end.Reads as end_reads

pub strips_start_unique : OneOutcome 1 start-kinds.ps start-kinds.r (ℤ × List ℕ) (λ κs r e. (r, e.1.1.1.0.now)) start-reads.Post
strips_start_unique κs a r r' e e' p q = same r r' e.1.1.1.0.now e'.1.1.1.0.now p q

pub strips_end_unique : OneOutcome 3 end-kinds.ps end-kinds.r (ℤ × ℕ × ℕ) (λ κs r e. (r, e.1.0.now, e.1.1.0.now)) end_reads.Post
strips_end_unique κs a r r' e e' p q = both r r' e.1.0.now e'.1.0.now e.1.1.0.now e'.1.1.0.now p q
