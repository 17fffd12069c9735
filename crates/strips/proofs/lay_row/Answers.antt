-- `strips::lay_row` meets its contract: a copy into the part that starts at the place. Assumes nothing.
use mathlib.Core.Path.{◌≡◌, ◌∙◌}
use Prim.Native.Nat.{ℕ, ◌-◌}
use lib.ListN.{length, get_or, drop}
use Rattle.sums.proofs.SampleLaws.{length_values, values_take, values_drop, values_put_mid}
use Rattle.strips.proofs.RowLaws.{laid_back}
use Rattle.strips.proofs.lay_row.Goals as goal

pub returns : goal.returns
returns g c =
    let each = g.met.S.Sample.each in
    let values = g.S.Sample.values in
    let s = c.args in
    let room = s.room.now in
    let long = length room - s.at in
    let same : length (values room) ≡ length room = length_values each room in
    let part = rw (values_take each long (drop s.at room), values_drop each s.at room, ← same) at c.copy.ensures in
    let laid = laid_back s.at (length (values s.row.now)) (λ (k : ℕ). get_or (values s.row.now) k 0) (values room) c.requires (values c.copy.new.to) part in
    values_put_mid each s.at long room c.copy.new.to ∙ rw same at laid
