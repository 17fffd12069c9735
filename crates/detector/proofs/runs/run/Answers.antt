-- `run` meets its contract: the run from the start is the run of what is left of the lists, from where the calls before ended.
-- Assumes nothing.
use mathlib.Core.Path.{◌≡◌, sym, ◌∙◌}
use mathlib.Core.Logic.{inl, inr}
use Prim.Native.Nat.{min}
use native.Mathlib.Omega.{arith}
use lib.ListN.{length, drop}
use Rattle.detector.specs.Step.{outcome}
use Rattle.detector.specs.Runs.{run_of, calls_of}
use Rattle.detector.proofs.Calls.{run_next, run_over}
use Rattle.detector.proofs.runs.run.Goals as goal

pub loop-j-preserved : goal.loop-j-preserved
loop-j-preserved c =
    let a = c.args in
    let o = outcome c.loop-j.last in
    let it = c.loop-j.j-iterator in
    let left = c.next.new.self in
    let steps = c.in-Some.ensures.steps in
    let ns = left.iter.a.a.rest.now in
    let longs = left.iter.a.b.rest.now in
    let ps = left.iter.b.rest.now in
    let more : run_of o (calls_of it.iter.a.a.rest.now it.iter.a.b.rest.now it.iter.b.rest.now (drop it.count a.inter.now) (drop it.count a.importance.now) (drop it.count a.threshold.now)) ≡ run_of _ _
    = rw (steps.0.0.0, steps.0.0.1, steps.0.1)
    (run_next o a.inter.now a.importance.now a.threshold.now c.in-Some.number.now c.in-Some.length.now c.in-Some.keyframe.now it.count ns longs ps) in
    rw (c.then_step-last.ensures.result_value, c.window.ensures, c.window-in-loop-j.ensures, c.window-in-loop-j-2.ensures, c.items_of-items.ensures, steps.1, steps.2)
    (c.loop-j.invariant ∙ more)

pub returns : goal.returns
returns c =
    let a = c.args in
    let it = c.loop-j.j-iterator in
    let over : min (length it.iter.a.a.rest.now) (min (length it.iter.a.b.rest.now) (length it.iter.b.rest.now)) ≡ 0
    = elim c.in-None.ensures.steps.0 [ inl x ↦ elim x.1 [ inl y ↦ omega (arith, y.1.0) | inr y ↦ omega (arith, y.1.0) ] | inr y ↦ omega (arith, y.1.0) ] in
    sym (c.loop-j.invariant ∙ run_over (outcome c.loop-j.last) _ _ _ _ _ _ over)
