-- `lent::put_pairs` meets its contract. After i turns the first i entries' pair numbers are placed, and what stands before them stayed.
-- Assumes nothing.
use mathlib.Core.Path.{sym, ◌∙◌}
use Prim.Native.Nat.{◌+◌}
use native.Mathlib.Numerals.{add-one}
use native.Mathlib.Omega.{arith}
use lib.ListN.{take, drop, get_or, length-drop, length-set}
use lib.Seq.{take-set-le, drop-set-add}
use Rattle.score.specs.Deque.{no_score}
use Rattle.lent.specs.Places.{pairs_place}
use Rattle.lent.proofs.Scores.{pair_more}
use Rattle.lent.proofs.put_pairs.Goals as goal

pub loop-i-preserved : goal.loop-i-preserved
loop-i-preserved c =
    let l = take c.min.result c.args.d.entries in
    let out = c.loop-i.numbers in
    let i = c.loop-i.i in
    let pair = (get_or l i no_score).pair_number in
    let ns = drop pairs_place c.args.numbers.now in
    let inv = c.loop-i.invariant in (
      rw length-set inv.0,
      take-set-le pairs_place out (pairs_place + i) pair (omega arith) ∙ inv.1,
      drop-set-add pairs_place out i pair ∙ rw (inv.2, add-one) (sym (pair_more l i ns (omega arith) (omega (arith, length-drop pairs_place c.args.numbers.now)))),
    )
