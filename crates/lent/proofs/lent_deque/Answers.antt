-- `lent::lent_deque` meets its contract. After i turns the first i entries are the first i scores. Assumes nothing.
use mathlib.Core.Path.{◌≡◌, ◌∙◌}
use Prim.Native.Nat.{◌*◌, ◌-◌, min}
use native.Mathlib.Omega.{arith}
use lib.ListN.{take, drop, get_or, length-drop, length-set}
use lib.Seq.{take_all, get_or-drop}
use Rattle.settings.specs.Settings.{room}
use Rattle.lent.specs.Places.{pairs_place, score_long, scores_long, front_score}
use Rattle.lent.proofs.Scores.{read_more, read_all}
use Rattle.lent.proofs.lent_deque.Goals as goal

pub loop-i-preserved : goal.loop-i-preserved
loop-i-preserved c =
    let a = c.args in
    let xs = a.scores.now in
    let ps = drop pairs_place a.numbers.now in
    let i = c.loop-i.i in
    let inv = c.loop-i.invariant in
    let k : take (scores_long - i * score_long) (drop (i * score_long) xs) ≡ drop (i * score_long) xs
    = take_all (scores_long - i * score_long) (drop (i * score_long) xs) (omega (arith, length-drop (i * score_long) xs)) in
    let e : c.front_score.result ≡ front_score (get_or ps i 0) (drop (i * score_long) xs)
    = c.front_score.ensures ∙ rw (k, get_or-drop pairs_place a.numbers.now i 0) in
    (rw e (read_more c.loop-i.out.entries ps xs i inv.1 (omega arith) inv.0), rw length-set inv.1, inv.2)

pub returns-clause-result_value : goal.returns-clause-result_value
returns-clause-result_value c =
    let a = c.args in
    let i : c.loop-i.i ≡ min a.count room = omega arith in
    rw c.loop-i.invariant.2 (read_all a.count c.loop-i.out.entries (drop pairs_place a.numbers.now) a.scores.now c.loop-i.invariant.1 (rw i at c.loop-i.invariant.0))
