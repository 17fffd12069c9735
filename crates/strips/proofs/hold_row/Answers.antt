-- `strips::hold_row` meets its contract: each row has a place of its own in the room. Assumes nothing.
use mathlib.Core.Path.{◌≡◌, ap, ◌∙◌}
use Prim.Native.Nat.{ℕ, ◌*◌, ◌%◌}
use native.Mathlib.Omega.{arith}
use lib.ListN.{length, get_or}
use Rattle.strips.proofs.RowLaws.{first_place, second_place, length_laid, both_laid}
use Rattle.strips.proofs.hold_row.Goals as goal

pub overflow_mul-slot : goal.overflow_mul-slot
overflow_mul-slot g c = omega (arith, c.requires.width_le_max_side, first_place c.args.y c.args.c.width)

pub lay_row-requires : goal.lay_row-requires
lay_row-requires g c =
    omega (arith, c.requires.c_in_bounds, c.requires.first_len.0, first_place c.args.y c.args.c.width)

pub overflow_mul-slot-2 : goal.overflow_mul-slot-2
overflow_mul-slot-2 g c =
    omega (arith, c.requires.width_le_max_side, second_place c.args.y c.args.c.width)

pub lay_row-requires-2 : goal.lay_row-requires-2
lay_row-requires-2 g c =
    let values = g.S.Sample.values in
    let l = c.lay_row in
    let s = c.args in
    let same : length (values l.new.room) ≡ length (values s.room.now) =
    ap length l.ensures ∙ length_laid (s.y % 8 * s.c.width) (length (values s.first.now)) (λ (k : ℕ). get_or (values s.first.now) k 0) (values s.room.now) in
    omega (arith, c.requires.c_in_bounds, c.requires.first_len.1, second_place c.args.y c.args.c.width, same)

pub returns : goal.returns
returns g c =
    let values = g.S.Sample.values in
    let s = c.args in
    both_laid s.c s.y (values s.first.now) (values s.second.now) (values s.room.now) _ _ c.requires.first_len.0 c.requires.first_len.1
    c.lay_row.ensures c.lay_row-2.ensures
