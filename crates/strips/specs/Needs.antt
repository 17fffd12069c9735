-- What only private contracts cite: a carry that is fit, and strips that are not refused by their shapes.
use Rattle.std.specs.Prelude.{◌≡◌, List, ℕ, ◌+◌, ◌≤◌, ◌<◌}
use Rattle.plane.specs.Planes.{Word, word_fault, sizes_fault, max_side}
use Rattle.plane.specs.declared.Plane.{Plane}
use Rattle.strips.specs.declared.carry.Carry.{Carry}
use Rattle.strips.specs.Carry.{totals_most, blocks_along, blocks_in}
use Rattle.strips.specs.Rows.{Held, room_long}

-- a carry that is not unfit, at a depth that suits the word, of planes with a whole block
pub record Sound (word : Word) (c : Carry) : Type 0 where
  pub depth_fits : word_fault word c.depth ≡ 0
  pub width_some : 0 < c.width
  pub width_most : c.width ≤ max_side
  pub height_some : 0 < c.height
  pub height_most : c.height ≤ max_side
  pub come : c.rows ≤ c.height
  pub difference : c.difference ≤ totals_most c
  pub importance : c.importance ≤ totals_most c
  pub blocks_some : 0 < blocks_along c

-- strips over n and m samples, with so many places of room and of costs
pub record Taken (word : Word) (c : Carry) (p : Plane) (n : ℕ) (q : Plane) (m room costs : ℕ) : Type 0 where
  pub carry : Sound word c
  pub rows : c.rows + p.height ≤ c.height
  pub heights : p.height ≡ q.height
  pub width : p.width ≡ c.width
  pub sizes : 0 < p.height → sizes_fault p n q m ≡ 0
  pub list : blocks_in c ≤ costs
  pub enough : room_long c ≤ room

abbrev pub held : ℕ → List ℕ → List ℕ → Held
held total room costs = record { total = total; room = room; costs = costs }
