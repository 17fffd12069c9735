-- `scale::factor` meets its contract: outside Fast mode 1, and in it the factor of the smaller side. Assumes nothing.
use borrow.Author.Tests.{eq-eqb, ne_eqb}
use Rattle.scale.specs.Scale.{scale_of}
use Rattle.scale.proofs.ScaleLaws.{smaller}
use Rattle.scale.proofs.factor.Goals as goal

pub returns-then-mode-ne-FAST : goal.returns-then-mode-ne-FAST
unfolding scale_of
returns-then-mode-ne-FAST c = rw (ne_eqb c.args.mode 1 c.if-mode-ne-FAST.true)

pub returns : goal.returns
unfolding scale_of
returns c =
    let s = c.args in
    rw (eq-eqb s.mode 1 c.if-mode-ne-FAST.false, ← smaller s.width s.height, ← c.min.ensures) c.factor_by.ensures
