-- `strips::strip_difference` meets its contract: strips without a row differ in nothing, and others are planes. Assumes nothing.
use mathlib.Core.Path.{sym, ap, ◌∙◌}
use Prim.Native.Nat.{ℕ}
use native.Mathlib.Nat.{pos_of_ne-zero}
use Rattle.answer.specs.Answer.{answered}
use Rattle.plane.proofs.SampleLaws.{pair_fault_is}
use Rattle.sad.specs.Difference.{plane_sad}
use Rattle.strips.proofs.RowLaws.{no_rows}
use Rattle.strips.proofs.strip_difference.Goals as goal

pub returns-then-p-eq0 : goal.returns-then-p-eq0
returns-then-p-eq0 g c = no_rows _ _ _ _ _ c.if-p-eq0.true (sym c.requires.height_value ∙ c.if-p-eq0.true)

pub returns : goal.returns
returns g c =
    let values = g.S.Sample.values in
    let s = c.args in
    let none = c.requires.b_value (pos_of_ne-zero c.if-p-eq0.false) in
    c.plane_difference.ensures
    ∙ ap (λ (f : ℕ). answered f (plane_sad s.p (values s.a.now) s.q (values s.b.now)))
    (sym (pair_fault_is g.S.Depths.word s.depth s.p (values s.a.now) s.q (values s.b.now) (sym none)))
