-- `scale::factor_by` meets its contract: each arm is the case of the table that its test found. Assumes nothing.
use native.Mathlib.Omega.{arith}
use borrow.Author.Tests.{le-leb, lt-leb}
use Rattle.scale.specs.Scale.{factor_by}
use Rattle.scale.proofs.factor_by.Goals as goal

pub returns-in-0-to-240 : goal.returns-in-0-to-240
unfolding factor_by
returns-in-0-to-240 c = let e = c.args.small_edge in simp (le-leb e 240 (omega arith))

pub returns-in-241-to-480 : goal.returns-in-241-to-480
unfolding factor_by
returns-in-241-to-480 c = let e = c.args.small_edge in simp (lt-leb e 240 (omega arith), le-leb e 480 (omega arith))

pub returns-in-481-to-720 : goal.returns-in-481-to-720
unfolding factor_by
returns-in-481-to-720 c = let e = c.args.small_edge in simp (lt-leb e 240 (omega arith), lt-leb e 480 (omega arith), le-leb e 720 (omega arith))

pub returns-in-721-to-1080 : goal.returns-in-721-to-1080
unfolding factor_by
returns-in-721-to-1080 c = let e = c.args.small_edge in simp (lt-leb e 240 (omega arith), lt-leb e 480 (omega arith), lt-leb e 720 (omega arith), le-leb e 1080 (omega arith))

pub returns-in-1081-to-1600 : goal.returns-in-1081-to-1600
unfolding factor_by
returns-in-1081-to-1600 c = let e = c.args.small_edge in simp (lt-leb e 240 (omega arith), lt-leb e 480 (omega arith), lt-leb e 720 (omega arith), lt-leb e 1080 (omega arith), le-leb e 1600 (omega arith))

pub returns-in_default : goal.returns-in_default
unfolding factor_by
returns-in_default c = let e = c.args.small_edge in simp (lt-leb e 240 (omega arith), lt-leb e 480 (omega arith), lt-leb e 720 (omega arith), lt-leb e 1080 (omega arith), lt-leb e 1600 (omega arith))
