-- `plane::looked_rows` meets its contract: after so many turns the bits are those of as many rows. Assumes nothing.
use mathlib.Core.Path.{◌≡◌, sym, ap, ◌∙◌}
use Prim.Native.Nat.{◌+◌, ◌-◌}
use native.Mathlib.Nat.{zero-mod}
use native.Mathlib.Omega.{arith}
use Rattle.plane.specs.Planes.{row_large}
use Rattle.plane.proofs.SampleLaws.{reach_none, reach_more, reach_to}
use Rattle.plane.proofs.samples.looked_rows.Invariants.{large}
use Rattle.plane.proofs.samples.looked_rows.Goals as goal

pub loop-y-init : goal.loop-y-init
loop-y-init g c =
    let s = c.args in
    let test = large s.p (g.S.Sample.values s.s.now) s.from in
    (omega arith, omega arith, reach_to test _ 0 _ (rw (c.narrowed-bits.ensures.is ∙ zero-mod (g.S.Sample.most + 1)) (reach_none test)) (omega arith))

pub loop-y-preserved : goal.loop-y-preserved
loop-y-preserved g c =
    let s = c.args in
    let y = c.loop-y.y in
    let values = g.S.Sample.values in
    let test = large s.p (values s.s.now) s.from in
    let place : s.from + (y - s.from) ≡ y = omega arith in (
      omega arith,
      omega arith,
      reach_to test _ (y - s.from + 1) _
          (rw c.or-bits.ensures (reach_more test _ (y - s.from) _ c.loop-y.invariant.2
          (λ n. rw c.row.ensures at (c.bits_of.ensures n) ∙ ap (row_large n s.p (values s.s.now)) (sym place))))
          (omega arith),
    )

pub returns : goal.returns
returns g c =
    let s = c.args in
    c.reaches.ensures ∙ reach_to (large s.p (g.S.Sample.values s.s.now) s.from) _ _ _ c.loop-y.invariant.2 (omega arith) s.depth
