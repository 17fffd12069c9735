-- Every starred value holds, and every value of the depths: one test is computed over each table, and one law turns it into the
-- equation of each row.
-- Assumes nothing.
use mathlib.Core.Path.{◌≡◌, refl}
use mathlib.Core.Bool.{true}
use mathlib.Core.List.{List, [], ◌∷◌}
use Prim.Native.Nat.{zero, suc}
use native.Mathlib.Omega.{arith}
use lib.Count.{ones}
use lib.IntN.{one, pow}
use lib.Ieee.{of_bits, to_bits, of_int, sub, mul, div, lt, le, eq}
use lib.Dec.{eqb}
use borrow.Author.Tests.{eqb-true}
use Rattle.answer.specs.Refusal.{◌or_else◌}
use Rattle.answer.specs.Answer.{answered}
use Rattle.sums.specs.Any.{any_below}
use Rattle.sums.specs.Sums.{sum_below}
use Rattle.sums.specs.Table.{table}
use Rattle.plane.specs.Blocks.{block_fault, blocks_fault}
use Rattle.plane.specs.Planes.{bad_side, bad_plane, past_samples, sizes_differ, plane_fault, sizes_fault, depth_fault, word_fault, too_large, sample_fault, shapes_fault}
use Rattle.scale.specs.Scale.{size_fault, factor_by, scale_of}
use Rattle.hadamard.specs.Transform.{sum_z, sign, output, transformed}
use Rattle.satd.specs.Satd.{satd_value}
use Rattle.importance.specs.Importance.{importance_total, importance_fault}
use Rattle.settings.specs.Settings.{is_scaled, fast_threshold, importance_threshold, settings_fault}
use Rattle.score.specs.Search.{any_of, count_of}
use Rattle.score.specs.Scores.{walk_back, backward_of}
use Rattle.score.specs.Cut.{cut_of}
use Rattle.state.specs.Refusals.{state_fault, number_fault, length_fault, stop_fault, lists_fault, step_fault}
use Rattle.state.proofs.Tests.{and_both}
use Rattle.detector.specs.Step.{accepted_of, step_of}
use Rattle.edges.specs.Rows.{Value, Row, same, all_same, Holds}
use Rattle.edges.specs.Starred.{starred}
use Rattle.edges.specs.Depths.{depths}

-- ---- the law

same_value : (a b : Value) → same a b ≡ true → a ≡ b
same_value a b e =
    let w = and_both (eqb a.kind b.kind) (eqb a.code b.code) e in
    rw (eqb-true a.kind b.kind w.0, eqb-true a.code b.code w.1)

pub by_test : (rows : List Row) → all_same rows ≡ true → Holds rows
unfolding all_same
by_test [] t k h = absurd (omega arith)
by_test (r ∷ rows) t zero h = same_value r.given r.said (and_both (same r.given r.said) (all_same rows) t).0
by_test (r ∷ rows) t (suc k) h = by_test rows (and_both (same r.given r.said) (all_same rows) t).1 k (omega arith)

-- ---- the test, and so the table

tested : all_same starred ≡ true
unfolding
    starred all_same answered ◌or_else◌ sum_below any_below table bad_side bad_plane past_samples sizes_differ plane_fault sizes_fault depth_fault word_fault too_large shapes_fault block_fault blocks_fault
    importance_fault size_fault factor_by scale_of sum_z sign output transformed pow one ones satd_value importance_total is_scaled fast_threshold importance_threshold settings_fault any_of
    count_of walk_back backward_of cut_of state_fault number_fault length_fault stop_fault lists_fault step_fault accepted_of step_of of_bits to_bits of_int sub
    mul div lt le eq
tested = refl

pub starred_hold : Holds starred
starred_hold = by_test starred tested

-- ---- and the values at each depth

tested_depths : all_same depths ≡ true
unfolding
    depths all_same answered ◌or_else◌ sum_below any_below table bad_side bad_plane past_samples sizes_differ plane_fault sizes_fault depth_fault word_fault too_large
    sample_fault shapes_fault block_fault blocks_fault importance_fault sum_z sign output transformed pow one ones satd_value importance_total fast_threshold importance_threshold of_bits
    to_bits of_int sub mul div lt le eq
tested_depths = refl

pub depths_hold : Holds depths
depths_hold = by_test depths tested_depths
