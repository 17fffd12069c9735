-- `strips::add_row` meets its contract: both rows are laid into the room, and where they are a row of blocks' eighth it is finished. Assumes nothing.
use mathlib.Core.Path.{◌≡◌, sym, ap, ◌∙◌}
use Prim.Native.Nat.{◌+◌}
use native.Mathlib.Omega.{arith}
use lib.ListN.{length}
use Rattle.plane.proofs.PlaneLaws.{Pair, pair, length_row}
use Rattle.strips.specs.Rows.{room_row}
use Rattle.strips.specs.Strips.{strip}
use Rattle.strips.proofs.RowLaws.{rows_shown, length_room, row_finished, row_kept, finished_in}
use Rattle.strips.proofs.add_row.Given as given
use Rattle.strips.proofs.add_row.Goals as goal
use Rattle.strips.proofs.add_row.Goals.{After-hold_row}

-- the strips are planes of one size
planes : (g : given.Over) (c : After-hold_row g) → let values = g.S.Sample.values in Pair c.args.p (length (values c.args.a.now)) c.args.q (length (values c.args.b.now))
planes g c = pair _ _ _ _ (c.requires.taken.sizes (let h = c.requires.j_lt_height in omega arith))

-- what the room holds then
room_is : (g : given.Over) (c : After-hold_row g) → let values = g.S.Sample.values in let s = c.args in
    values c.hold_row.new.room ≡ room_row s.c (strip s.p (values s.a.now) s.q (values s.b.now)) s.j (s.c.rows + s.j) (values s.room.now)
room_is g c =
    let values = g.S.Sample.values in
    let s = c.args in
    let h = planes g c in
    let t = c.requires.taken in
    c.hold_row.ensures
    ∙ rows_shown s.c (strip s.p (values s.a.now) s.q (values s.b.now)) s.j (s.c.rows + s.j) (values s.room.now) _ _ h.first h.second c.requires.j_lt_height
    (omega (arith, c.requires.j_lt_height, h.heights)) t.width (sym h.widths ∙ t.width) c.row.ensures c.row-2.ensures

pub hold_row-requires : goal.hold_row-requires
hold_row-requires g c =
    let t = c.requires.taken in
    let h = pair _ _ _ _ (t.sizes (let h = c.requires.j_lt_height in omega arith)) in
    record {
      width_le_max_side = t.carry.width_most;
      c_in_bounds = t.enough;
      first_len = (
        ap length c.row.ensures ∙ length_row _ _ _ h.first c.requires.j_lt_height ∙ t.width,
        ap length c.row-2.ensures ∙ length_row _ _ _ h.second (omega (arith, c.requires.j_lt_height, h.heights)) ∙ sym h.widths ∙ t.width,
      );
    }

pub finish-requires : goal.finish-requires
finish-requires g c =
    let values = g.S.Sample.values in
    let here = (goal.at.finish-requires g c).After-hold_row in
    let s = c.args in
    let t = c.requires.taken in
    let same : length (values c.hold_row.new.room) ≡ length (values s.room.now) =
    ap length (room_is g here) ∙ length_room s.c (strip s.p (values s.a.now) s.q (values s.b.now)) s.j (s.c.rows + s.j) (values s.room.now) in
    record {
      sound = t.carry;
      c_in_bounds = omega (arith, t.enough, same);
      y_lt_max_side = let h = c.requires.j_lt_height in omega (arith, t.rows, t.carry);
      c_in_bounds_2 = finished_in s.c s.j _ c.if-y.true (let h = c.requires.j_lt_height in omega (arith, t.rows)) t.list;
    }

pub returns-then-y : goal.returns-then-y
returns-then-y g c =
    let values = g.S.Sample.values in
    let here = (goal.at.returns-then-y g c).After-hold_row in
    let s = c.args in
    record {
      by_index = (λ t.
          row_finished g.S.Depths.word s.c (strip s.p (values s.a.now) s.q (values s.b.now)) s.j t (values s.room.now) s.costs.now _ (room_is g here) _ _
          c.if-y.true c.finish.ensures.value c.finish.ensures.costs_after);
      upper_bound = c.finish.ensures.upper_bound;
    }

pub returns : goal.returns
returns g c =
    let values = g.S.Sample.values in
    let here = (goal.at.returns g c).After-hold_row in
    let s = c.args in
    record {
      by_index = (λ t.
          row_kept g.S.Depths.word s.c (strip s.p (values s.a.now) s.q (values s.b.now)) s.j t (values s.room.now) s.costs.now _ (room_is g here) c.if-y.false);
      upper_bound = omega arith;
    }
