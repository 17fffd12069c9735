-- `reduce::byte::put_row` of bytes meets its contract: few squares are taken one by one, and others in chunks. Assumes nothing.
use mathlib.Core.Path.{sym, ap, subst, ◌∙◌}
use Prim.Native.Nat.{ℕ, ◌*◌}
use lib.ListN.{length}
use Rattle.sums.specs.Table.{table}
use Rattle.reduce.specs.Needs.{RowsIn, mean_from}
use Rattle.reduce.proofs.ReduceLaws.{factor_small, factor_half}
use Rattle.reduce.proofs.byte.U8ReduceRow.put_row.Goals as goal

pub nonzero_div-half-2 : goal.nonzero_div-half-2
nonzero_div-half-2 c = (factor_half _ c.requires.factor_value c.requires.factor_above).1.some

pub put_by_factor-requires : goal.put_by_factor-requires
put_by_factor-requires c = c.requires

pub put_chunks-requires : goal.put_chunks-requires
put_chunks-requires c =
    let s = c.args in
    let halved = factor_half _ c.requires.factor_value c.requires.factor_above in
    record {
      half = halved.1;
      half_bound = c.if-out-half.false;
      rows_in = subst (λ (f : ℕ). RowsIn s.start s.stride f (length s.out.now * f) (length s.s.now)) (sym halved.0) c.requires.rows_in;
    }

pub returns : goal.returns
returns c =
    let s = c.args in
    c.put_chunks.ensures ∙ ap (λ (f : ℕ). table (length s.out.now) (mean_from f s.s.now s.start s.stride)) (factor_half _ c.requires.factor_value c.requires.factor_above).0
