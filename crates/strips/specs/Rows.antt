-- Document 02, L6: what a row of both frames leaves in the lent room, and what a finished row of blocks leaves in the importance total and in the
-- list of costs. The room holds eight rows of the first frame and, behind them, eight of the second: row y goes to place y % 8 among
-- them.
use Rattle.std.specs.Prelude.{cond, List, ℕ, zero, suc, ◌+◌, ◌-◌, ◌*◌, ◌/◌, ◌%◌, eqb}
use Rattle.answer.specs.Answer.{Answer, gives, refused, lent_after}
use Rattle.importance.specs.Importance.{total_of}
use Rattle.intra.specs.Costs.{cost_at}
use Rattle.intra.specs.Fill.{flat_sample}
use Rattle.plane.specs.Blocks.{block_side}
use Rattle.plane.specs.Planes.{Word, sample_at, sample_fault}
use Rattle.plane.specs.declared.Plane.{Plane}
use Rattle.sums.specs.Places.{in_run}
use Rattle.sums.specs.Written.{written}
use Rattle.strips.specs.declared.carry.Carry.{Carry}
use Rattle.strips.specs.Carry.{blocks_along}

-- matching strips of both frames, each beside its lent samples
pub record Strip : Type 0 where
  pub first : Plane
  pub a : List ℕ
  pub second : Plane
  pub b : List ℕ

-- g 0, .., g (n - 1) from place `at` on; every other place stays
abbrev pub laid : ℕ → ℕ → (ℕ → ℕ) → List ℕ → List ℕ
laid at n g s = written (in_run at n) (λ (k : ℕ). g (k - at)) s

-- ---- the room

-- "lent room under 16 × width samples" is too little
abbrev pub room_long : Carry → ℕ
room_long c = 2 * block_side * c.width

-- the eight rows of a frame as a plane, from a place of the room on
abbrev pub held_plane : Carry → ℕ → Plane
held_plane c at = record { width = c.width; height = block_side; stride = c.width; origin = at }

abbrev pub held_first : Carry → Plane
held_first c = held_plane c 0

abbrev pub held_second : Carry → Plane
held_second c = held_plane c (block_side * c.width)

-- a row of the first frame and one of the second, to the places of row y
abbrev pub rows_laid : Carry → ℕ → (ℕ → ℕ) → (ℕ → ℕ) → List ℕ → List ℕ
rows_laid c y first second room =
    laid ((block_side + y % block_side) * c.width) c.width second (laid (y % block_side * c.width) c.width first room)

-- row j of the strips, which is row y of the frames
abbrev pub room_row : Carry → Strip → ℕ → ℕ → List ℕ → List ℕ
room_row c s j y room = rows_laid c y (sample_at s.first s.a j) (sample_at s.second s.b j) room

-- ---- a row of blocks, finished by its eighth row

-- Rubbish in the room is no fault and no refusal. A held sample that is too large for its depth, which no strip leaves there, keeps its row of
-- blocks out of the importance total, and, if it is the second frame's, out of the costs.
abbrev pub or_nothing : Answer ℕ → ℕ
or_nothing (gives n) = n
or_nothing (refused f) = 0

-- how much the importance total rises by
unfoldable pub blocks_rise : Word → Carry → List ℕ → ℕ
blocks_rise word c room = or_nothing (total_of word c.depth (held_first c) room (held_second c) room)

-- "the second frame's intra costs": those of row y of blocks, in their places
unfoldable pub blocks_costs : Word → Carry → ℕ → List ℕ → List ℕ → List ℕ
blocks_costs word c y room costs =
    lent_after (sample_fault word c.depth (held_second c) room)
    (laid (y * blocks_along c) (blocks_along c) (cost_at (flat_sample c.depth) (held_second c) room) costs) costs

-- ---- row after row

-- the importance total, the room and the list of costs
pub record Held : Type 0 where
  pub total : ℕ
  pub room : List ℕ
  pub costs : List ℕ

-- with the room as row y leaves it
abbrev pub with_room : Word → Carry → ℕ → Held → List ℕ → Held
with_room word c y h room = record {
  total = h.total + cond (eqb (y % block_side) (block_side - 1)) (blocks_rise word c room) 0;
  room = room;
  costs = cond (eqb (y % block_side) (block_side - 1)) (blocks_costs word c (y / block_side) room h.costs) h.costs;
}

-- one more row: row j of the strips
abbrev pub held_row : Word → Carry → Strip → ℕ → Held → Held
held_row word c s j h = let y = c.rows + j in with_room word c y h (room_row c s j y h.room)

-- the first n rows of the strips
unfoldable pub held_rows : Word → Carry → Strip → ℕ → Held → Held
held_rows word c s zero h = h
held_rows word c s (suc n) h = held_row word c s n (held_rows word c s n h)
