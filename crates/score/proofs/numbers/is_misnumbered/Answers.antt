-- `is_misnumbered` meets its contract: as long as no two neighbours that were looked at were astray, the search from the start is the search
-- among those that are left, and the whole count of equal neighbours is the count so far and the count of those.
-- Assumes nothing.
use mathlib.Core.Path.{ap, ◌∙◌}
use native.Mathlib.Omega.{arith}
use Rattle.score.specs.Deque.{content}
use Rattle.score.proofs.Neighbours.{number, looked_none, looked_equal, looked_fall, looked_astray, looked_end}
use Rattle.score.proofs.PairLaws.{two_behind, two_far}
use Rattle.score.proofs.numbers.is_misnumbered.Goals as goal
use Rattle.score.proofs.numbers.is_misnumbered.Goals.{then-ahead-behind-via-then-ahead-behind, then-ahead-behind-via-else-ahead-behind+then-ahead-behind-gt1}

pub loop-two-init : goal.loop-two-init
loop-two-init c =
    let sized = ap (λ w. w.size) c.into_iter-two-iterator.ensures.into_iter_gives ∙ c.windows-two-items.ensures.size in
    let rest = ap (λ w. w.rest.now) c.into_iter-two-iterator.ensures.into_iter_gives ∙ c.windows-two-items.ensures.rest ∙ c.scores.ensures in
    (omega (arith, sized), tt, sized, rw rest (looked_none (content c.args.d)))

pub loop-two-preserved : goal.loop-two-preserved
loop-two-preserved c =
    let s = c.in-Some.ensures.steps in
    let k = c.loop-two.invariant in
    (omega (arith, s.0), tt, s.0 ∙ k.2, looked_fall _ _ _ _ _ _ k.2 s.1.0 s.1.1 s.1.2 k.3 (omega arith))

pub loop-two-preserved-then-ahead-behind-2 : goal.loop-two-preserved-then-ahead-behind-2
loop-two-preserved-then-ahead-behind-2 c =
    let s = c.in-Some.ensures.steps in
    let k = c.loop-two.invariant in
    (omega (arith, s.0), tt, s.0 ∙ k.2, looked_equal _ _ _ _ _ _ k.2 s.1.0 s.1.1 s.1.2 k.3 (omega arith))

pub returns-then-ahead-behind : goal.returns-then-ahead-behind
returns-then-ahead-behind c =
    let s = c.in-Some.ensures.steps in
    let k = c.loop-two.invariant in
    let two = c.in-Some.two.now in
    looked_astray _ _ _ _ _ _ k.2 s.1.0 s.1.1 s.1.2 k.3 (
    elim c.then-ahead-behind.branch [
      | then-ahead-behind-via-then-ahead-behind w ↦ two_behind (number 0 two) (number 1 two) w.if-ahead-behind.true
      | then-ahead-behind-via-else-ahead-behind+then-ahead-behind-gt1 w ↦ two_far (number 0 two) (number 1 two) (omega arith)
    ]
    )

pub returns : goal.returns
returns c =
    let s = c.in-None.ensures.steps in
    let k = c.loop-two.invariant in
    looked_end _ _ _ (omega arith) k.3
