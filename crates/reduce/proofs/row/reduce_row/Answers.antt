-- `reduce::row::reduce_row` meets its contract: a factor of 1 copies samples that lie within, and others are the word's own. Assumes nothing.
use Rattle.std.proofs.Common.{refl, ◌∙◌, arith}
use Rattle.reduce.proofs.ReduceLaws.{factor_one}
use Rattle.reduce.proofs.RowLaws.{copy_in, copy_is}
use Rattle.reduce.proofs.row.reduce_row.Goals as goal

pub offset_bounds-s-start : goal.offset_bounds-s-start
offset_bounds-s-start g c = omega (arith, copy_in g.met.S.Sample.each _ _ _ _ _ (factor_one _ c.requires.factor_value c.if-factor-lt2.true) c.requires.rows_in)

pub slice_bounds-copy-count : goal.slice_bounds-copy-count
slice_bounds-copy-count g c = omega (arith, copy_in g.met.S.Sample.each _ _ _ _ _ (factor_one _ c.requires.factor_value c.if-factor-lt2.true) c.requires.rows_in)

pub slice_bounds-copy-start : goal.slice_bounds-copy-start
slice_bounds-copy-start g c = omega (arith, copy_in g.met.S.Sample.each _ _ _ _ _ (factor_one _ c.requires.factor_value c.if-factor-lt2.true) c.requires.rows_in)

pub returns-then-factor-lt2 : goal.returns-then-factor-lt2
returns-then-factor-lt2 g c =
    c.copy.ensures ∙ copy_is g.met.S.Sample.each _ _ _ _ _ (factor_one _ c.requires.factor_value c.if-factor-lt2.true) c.requires.rows_in _ refl
