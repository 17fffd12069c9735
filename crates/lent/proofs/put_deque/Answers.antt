-- `lent::put_deque` meets its contract. After i turns the first i entries are placed; each is put in the part that starts at its
-- place. Assumes nothing.
use mathlib.Core.Path.{◌≡◌, sym, ◌∙◌}
use Prim.Native.Nat.{◌+◌, ◌*◌, ◌-◌}
use native.Mathlib.Numerals.{add-one}
use native.Mathlib.Omega.{arith}
use borrow.Rule.Slice.PartMut.{same_len_mid}
use lib.ListN.{take, get_or}
use Rattle.score.specs.Deque.{no_score}
use Rattle.lent.specs.Places.{score_long, doubles}
use Rattle.lent.proofs.Scores.{place_more, placed_none}
use Rattle.lent.proofs.put_deque.Goals as goal

pub loop-i-init : goal.loop-i-init
loop-i-init c = (c.requires, placed_none c.args.scores.now)

pub loop-i-preserved : goal.loop-i-preserved
loop-i-preserved c =
    let l = take c.min.result c.args.d.entries in
    let i = c.loop-i.i in
    let out = c.loop-i.scores in
    let k : i * score_long + score_long - i * score_long ≡ score_long = omega arith in
    let e : c.copy_from_slice.new.self ≡ doubles (get_or l i no_score) = c.copy_from_slice.ensures.after ∙ c.doubles.ensures in
    (same_len_mid (i * score_long) _ out c.copy_from_slice.new.self c.copy_from_slice.auto.self ∙ c.loop-i.invariant.0, rw (k, e, c.loop-i.invariant.1, add-one) (sym (place_more l i c.args.scores.now (omega arith))))
