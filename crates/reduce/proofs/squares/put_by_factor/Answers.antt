-- `put_by_factor` meets its contract: each factor stands in its arm as a number. Assumes nothing.
use mathlib.Core.List.{List}
use mathlib.Core.Path.{◌≡◌, sym, ap, subst, ◌∙◌}
use Prim.Native.Nat.{ℕ, ◌*◌}
use native.Mathlib.Omega.{arith}
use Rattle.sums.specs.Table.{table}
use Rattle.reduce.specs.Needs.{RowsIn, mean_from}
use Rattle.reduce.proofs.ReduceLaws.{factor_small, factor_arms}
use Rattle.reduce.proofs.squares.put_by_factor.Goals as goal

-- a factor stands in its arm as the number g
module _ (f g : ℕ) (e : f ≡ g) (start stride count : ℕ) where
  rows_at : (n : ℕ) → RowsIn start stride f (count * f) n → RowsIn start stride g (count * g) n
  rows_at n = subst (λ (i : ℕ). RowsIn start stride i (count * i) n) e

  gives : (s new : List ℕ) → new ≡ table count (mean_from g s start stride) → new ≡ table count (mean_from f s start stride)
  gives s new m = m ∙ ap (λ (i : ℕ). table count (mean_from i s start stride)) (sym e)

-- which arm is taken says which factor it is
pub put_squares-requires : goal.put_squares-requires
put_squares-requires g c =
    let two = (factor_arms _ c.requires.factor_value c.requires.factor_above).0 c.if-factor-lt4.true in
    record { factor_nonzero = (omega arith, omega arith); rows_in = rows_at _ 2 two _ _ _ _ c.requires.rows_in }

pub put_squares-requires-then-factor-lt8 : goal.put_squares-requires-then-factor-lt8
put_squares-requires-then-factor-lt8 g c =
    let four = (factor_arms _ c.requires.factor_value c.requires.factor_above).1 c.if-factor-lt4.false c.if-factor-lt8.true in
    record { factor_nonzero = (omega arith, omega arith); rows_in = rows_at _ 4 four _ _ _ _ c.requires.rows_in }

pub put_squares-requires-then-factor-lt16 : goal.put_squares-requires-then-factor-lt16
put_squares-requires-then-factor-lt16 g c =
    let eight = (factor_arms _ c.requires.factor_value c.requires.factor_above).2 c.if-factor-lt8.false c.if-factor-lt16.true in
    record { factor_nonzero = (omega arith, omega arith); rows_in = rows_at _ 8 eight _ _ _ _ c.requires.rows_in }

pub put_squares-requires-else-factor-lt16 : goal.put_squares-requires-else-factor-lt16
put_squares-requires-else-factor-lt16 g c = record { factor_nonzero = factor_small _ c.requires.factor_value; rows_in = c.requires.rows_in }

pub returns-then-factor-lt4 : goal.returns-then-factor-lt4
returns-then-factor-lt4 g c = gives _ 2 ((factor_arms _ c.requires.factor_value c.requires.factor_above).0 c.if-factor-lt4.true) _ _ _ _ _ c.put_squares.ensures

pub returns-then-factor-lt8 : goal.returns-then-factor-lt8
returns-then-factor-lt8 g c =
    gives _ 4 ((factor_arms _ c.requires.factor_value c.requires.factor_above).1 c.if-factor-lt4.false c.if-factor-lt8.true) _ _ _ _ _ c.put_squares-then-factor-lt8.ensures

pub returns-then-factor-lt16 : goal.returns-then-factor-lt16
returns-then-factor-lt16 g c =
    gives _ 8 ((factor_arms _ c.requires.factor_value c.requires.factor_above).2 c.if-factor-lt8.false c.if-factor-lt16.true) _ _ _ _ _ c.put_squares-then-factor-lt16.ensures
