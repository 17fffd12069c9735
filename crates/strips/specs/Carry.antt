-- Document 02, L6, "The camera sends strips": the carry, which a caller keeps between calls beside the lent room and the costs; and refusal 11,
-- which is of the carry alone.
use Rattle.std.specs.Prelude.{Bool, not, ◌||◌, ◌&&◌, List, [], ◌∷◌, ℕ, ◌-◌, ◌*◌, ◌/◌, ◌^◌, ltb, eqb, length, get_or}
use Rattle.answer.specs.Refusal.{refusal}
use Rattle.plane.specs.Blocks.{block_side}
use Rattle.plane.specs.Planes.{bad_side, depth_fault}
use Rattle.strips.specs.declared.carry.Carry.{Carry}

-- ---- six numbers: width, height, depth, rows that have come, difference so far, importance total so far

abbrev pub carry_long : ℕ
carry_long = 6

abbrev pub carry_by : ℕ → ℕ → ℕ → ℕ → ℕ → ℕ → Carry
carry_by width height depth rows difference importance = record {
  width = width;
  height = height;
  depth = depth;
  rows = rows;
  difference = difference;
  importance = importance;
}

abbrev pub carry_of : List ℕ → Carry
carry_of ns = carry_by (get_or ns 0 0) (get_or ns 1 0) (get_or ns 2 0) (get_or ns 3 0) (get_or ns 4 0) (get_or ns 5 0)

abbrev pub carry_numbers : Carry → List ℕ
carry_numbers c = c.width ∷ c.height ∷ c.depth ∷ c.rows ∷ c.difference ∷ c.importance ∷ []

-- the whole blocks of the planes that the strips are cut from
abbrev pub blocks_along : Carry → ℕ
blocks_along c = c.width / block_side

abbrev pub blocks_in : Carry → ℕ
blocks_in c = c.height / block_side * blocks_along c

-- ---- 11

-- "rows × width × the largest sample", which is that of the carry's depth, whichever word the call has
abbrev pub totals_most : Carry → ℕ
totals_most c = c.rows * c.width * (2 ^ c.depth - 1)

-- "a total above" that. For a depth that 5 refuses it is silent, so that 5 follows.
unfoldable pub totals_past : Carry → Bool
totals_past c = eqb (depth_fault c.depth) 0 && (ltb (totals_most c) c.difference || ltb (totals_most c) c.importance)

-- "a carry with a size that 1 forbids, more rows than the height or a total above" that
unfoldable pub carry_unfit : Carry → Bool
carry_unfit c = bad_side c.width || bad_side c.height || ltb c.height c.rows || totals_past c

abbrev pub is_carry : List ℕ → Bool
is_carry ns = eqb (length ns) carry_long

-- for a carry of another length, and for one that is unfit
unfoldable pub carry_fault : List ℕ → ℕ
carry_fault ns = refusal 11 (not (is_carry ns) || carry_unfit (carry_of ns))
