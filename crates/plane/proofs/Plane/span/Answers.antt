-- `Plane::span` meets its contract: where the row ends within the samples no sum overflows and the part is there; else it is empty. Assumes nothing.
use mathlib.Core.Path.{◌≡◌, sym, ap, ◌∙◌}
use mathlib.Core.Bool.{true, false}
use Prim.Native.Nat.{ℕ, ◌+◌, ◌*◌, ◌-◌}
use native.Mathlib.Omega.{arith}
use borrow.Author.Tests.{leb-true}
use lib.Dec.{leb}
use lib.ListN.{take, drop}
use Rattle.plane.specs.declared.Plane.{Plane}
use Rattle.plane.specs.Needs.{SpanOf}
use Rattle.plane.specs.Planes.{row_end, row_of}
use Rattle.plane.proofs.Plane.span.Goals as goal

-- a row that lies within, and one that does not
there : (p : Plane) (n y : ℕ) → leb (row_end p y) n ≡ true → SpanOf p n y (p.origin + y * p.stride) (p.origin + y * p.stride + p.width)
unfolding row_of
there p n y e =
    let start = p.origin + y * p.stride in
    let count : start + p.width - start ≡ p.width = omega arith in
    record { order = omega arith; within = leb-true _ _ e; part = λ s l. rw (l, e) (ap (λ (k : ℕ). take k (drop start s)) count) }

nowhere : (p : Plane) (n y : ℕ) → leb (row_end p y) n ≡ false → SpanOf p n y 0 0
unfolding row_of
nowhere p n y e = record { order = omega arith; within = omega arith; part = λ s l. rw (l, e) }

pub returns-then-row_lies : goal.returns-then-row_lies
returns-then-row_lies c = there _ _ _ (sym c.row_lies.ensures ∙ c.if-row_lies.true)

pub returns : goal.returns
returns c = nowhere _ _ _ (sym c.row_lies.ensures ∙ c.if-row_lies.false)
