-- Rows that are laid into the room, and rows of blocks that are finished there. Assumes nothing.
use mathlib.Core.Bool.{Bool, true, false, ◌||◌, cond}
use mathlib.Core.List.{List}
use mathlib.Core.Path.{◌≡◌, refl, sym, ap, ◌∙◌}
use Prim.Native.Nat.{ℕ, ◌+◌, ◌-◌, ◌*◌, ◌/◌, ◌%◌, ◌≤◌, ◌<◌, ◌^◌}
use native.Mathlib.Nat.{mul-le-mul_right, add-mul}
use native.Mathlib.Numerals.{add-one}
use native.Mathlib.Omega.{arith}
use borrow.Author.Tests.{eq-eqb, ne_eqb}
use borrow.Rule.Slice.PartMut.{put_mid}
use lib.Dec.{ltb, leb, eqb}
use lib.ListN.{length, get_or, take, drop}
use Rattle.answer.specs.Answer.{gives, answered, lent_after}
use Rattle.answer.specs.Refusal.{refusal}
use Rattle.answer.proofs.Laws.{answer_given, test_passed}
use Rattle.intra.specs.Costs.{cost_at}
use Rattle.intra.specs.Fill.{flat_sample}
use Rattle.plane.specs.Blocks.{block_side}
use Rattle.plane.specs.Planes.{Word, too_large, sample_at, row_of, sample_fault}
use Rattle.plane.specs.declared.Plane.{Plane}
use Rattle.plane.proofs.PlaneLaws.{Lies, row_at}
use Rattle.sad.specs.Difference.{plane_sad, row_sad}
use Rattle.sums.specs.Any.{any_below}
use Rattle.sums.specs.Places.{in_run}
use Rattle.sums.specs.Written.{written}
use Rattle.sums.proofs.AnyLaws.{any_zero}
use Rattle.sums.proofs.PlaceLaws.{run_holds}
use Rattle.sums.proofs.SumLaws.{sum_none}
use Rattle.sums.proofs.WrittenLaws.{length_written, written_value}
use Rattle.sums.proofs.Wrote.{put_back}
use Rattle.strips.specs.declared.carry.Carry.{Carry}
use Rattle.strips.specs.Carry.{blocks_along, blocks_in, totals_most}
use Rattle.strips.specs.Needs.{Sound, held}
use Rattle.strips.proofs.CarryLaws.{totals_small}
use Rattle.strips.specs.Rows.{Strip, Held, laid, rows_laid, room_row, held_second, blocks_rise, blocks_costs, held_row, held_rows}

-- ---- laid from a place on

-- through a part from that place on, whose first n places a callee writes
pub laid_back : (at n : ℕ) (f : ℕ → ℕ) (s : List ℕ) → at + n ≤ length s
    → (t : List ℕ) → t ≡ written (λ (k : ℕ). ltb k n) f (take (length s - at) (drop at s)) → put_mid at (length s - at) s t ≡ laid at n f s
laid_back at n f s room t e =
    put_back at n f (λ (k : ℕ). f (k - at)) s room (λ k _. let back : at + k - at ≡ k = omega arith in sym (ap f back)) t e

pub length_laid : (at n : ℕ) (f : ℕ → ℕ) (s : List ℕ) → length (laid at n f s) ≡ length s
length_laid at n f s = length_written (in_run at n) (λ (k : ℕ). f (k - at)) s

-- only the first n numbers count
pub laid_same : (at n : ℕ) (f g : ℕ → ℕ) (s : List ℕ) → ((k : ℕ) → k < n → f k ≡ g k) → laid at n f s ≡ laid at n g s
laid_same at n f g s e =
    written_value (in_run at n) (λ (k : ℕ). f (k - at)) (λ (k : ℕ). g (k - at)) s
    (λ k h. let r = run_holds at n k h in e (k - at) (omega arith))

-- ---- the places of row y in the room

pub first_place : (y w : ℕ) → y % 8 * w + w ≤ 8 * w
first_place y w = let l : y % 8 + 1 ≤ 8 = omega arith in omega (arith, mul-le-mul_right w l, add-mul (y % 8) 1 w)

pub second_place : (y w : ℕ) → (8 + y % 8) * w + w ≤ 16 * w
second_place y w = omega (arith, first_place y w, add-mul 8 (y % 8) w)

-- both of them, one after the other
pub both_laid : (c : Carry) (y : ℕ) (first second room one two : List ℕ) → length first ≡ c.width → length second ≡ c.width
    → one ≡ laid (y % block_side * c.width) (length first) (λ (k : ℕ). get_or first k 0) room
    → two ≡ laid ((block_side + y % block_side) * c.width) (length second) (λ (k : ℕ). get_or second k 0) one
    → two ≡ rows_laid c y (λ (k : ℕ). get_or first k 0) (λ (k : ℕ). get_or second k 0) room
both_laid c y first second room one two e d f g =
    let w = c.width in
    g
    ∙ ap (λ (l : List ℕ). laid ((block_side + y % block_side) * w) (length second) (λ (k : ℕ). get_or second k 0) l) f
    ∙ ap (λ (n : ℕ). laid ((block_side + y % block_side) * w) n (λ (k : ℕ). get_or second k 0) (laid (y % block_side * w) (length first) (λ (k : ℕ). get_or first k 0) room)) d
    ∙ ap (λ (n : ℕ). laid ((block_side + y % block_side) * w) w (λ (k : ℕ). get_or second k 0) (laid (y % block_side * w) n (λ (k : ℕ). get_or first k 0) room)) e

-- the room stays as long as it is
pub length_room : (c : Carry) (s : Strip) (j y : ℕ) (room : List ℕ) → length (room_row c s j y room) ≡ length room
length_room c s j y room =
    let f = sample_at s.first s.a j in
    length_laid ((block_side + y % block_side) * c.width) c.width (sample_at s.second s.b j) (laid (y % block_side * c.width) c.width f room)
    ∙ length_laid (y % block_side * c.width) c.width f room

-- ---- strips without a row

pub nothing : (p : Plane) (a : List ℕ) (q : Plane) (b : List ℕ) → p.height ≡ 0 → 0 ≡ plane_sad p a q b
unfolding plane_sad
nothing p a q b e = rw e (sum_none (row_sad p a q b))

pub no_rows : (depth : ℕ) (p : Plane) (a : List ℕ) (q : Plane) (b : List ℕ) → p.height ≡ 0 → q.height ≡ 0
    → gives 0 ≡ answered (refusal 16 (too_large depth p a || too_large depth q b)) (plane_sad p a q b)
unfolding too_large
no_rows depth p a q b e d =
    answer_given (refusal 16 (too_large depth p a || too_large depth q b)) (plane_sad p a q b) 0
    (test_passed 16 (too_large depth p a || too_large depth q b) (rw (e, d) (rw (any_zero (λ (y : ℕ). any_below p.width (λ (x : ℕ). leb (2 ^ depth) (sample_at p a y x)))) (any_zero (λ (y : ℕ). any_below q.width (λ (x : ℕ). leb (2 ^ depth) (sample_at q b y x)))))))
    (nothing p a q b e)

-- ---- a row of the strips

-- the visible samples of two rows that were taken out of their planes, in the room
pub rows_shown : (c : Carry) (s : Strip) (j y : ℕ) (room first second : List ℕ) → Lies s.first (length s.a) → Lies s.second (length s.b)
    → j < s.first.height → j < s.second.height → s.first.width ≡ c.width → s.second.width ≡ c.width
    → first ≡ row_of s.first s.a j → second ≡ row_of s.second s.b j
    → rows_laid c y (λ (k : ℕ). get_or first k 0) (λ (k : ℕ). get_or second k 0) room ≡ room_row c s j y room
rows_shown c s j y room first second l m h i w v e d =
    let at = y % block_side * c.width in
    let at2 = (block_side + y % block_side) * c.width in
    laid_same at2 c.width (λ (k : ℕ). get_or second k 0) (sample_at s.second s.b j) _
    (λ k k<. ap (λ (r : List ℕ). get_or r k 0) d ∙ row_at s.second s.b j m i k (omega arith))
    ∙ ap (laid at2 c.width (sample_at s.second s.b j))
    (laid_same at c.width (λ (k : ℕ). get_or first k 0) (sample_at s.first s.a j) room
    (λ k k<. ap (λ (r : List ℕ). get_or r k 0) e ∙ row_at s.first s.a j l h k (omega arith)))

module _ (word : Word) (c : Carry) (s : Strip) (j t : ℕ) (room costs room' : List ℕ) (r : room' ≡ room_row c s j (c.rows + j) room) where
  abbrev y : ℕ
  y = c.rows + j

  -- a row of blocks' eighth, and one that is not
  pub row_finished : (rise : ℕ) (costs' : List ℕ) → y % block_side ≡ 7 → rise ≡ blocks_rise word c room' → costs' ≡ blocks_costs word c (y / block_side) room' costs
      → held (t + rise) room' costs' ≡ held_row word c s j (held t room costs)
  row_finished rise costs' e f g = rw (eq-eqb (y % block_side) 7 e, ← r, f, g) refl

  pub row_kept : (y % block_side ≡ 7 → ⊥) → held (t + 0) room' costs ≡ held_row word c s j (held t room costs)
  row_kept h = rw (ne_eqb (y % block_side) 7 h, ← r) refl

-- the row of blocks that is finished then has its costs within the list
pub finished_in : (c : Carry) (j n : ℕ) → (c.rows + j) % block_side ≡ 7 → c.rows + j < c.height → blocks_in c ≤ n
    → (c.rows + j) / block_side * blocks_along c + blocks_along c ≤ n
finished_in c j n e h l =
    let down : (c.rows + j) / block_side + 1 ≤ c.height / block_side = omega arith in
    omega (arith, mul-le-mul_right (blocks_along c) down, add-mul ((c.rows + j) / block_side) 1 (blocks_along c))

-- rows one after the other
pub rows_none : (word : Word) (c : Carry) (s : Strip) (h : Held) → h ≡ held_rows word c s 0 h
unfolding held_rows
rows_none word c s h = refl

pub rows_more : (word : Word) (c : Carry) (s : Strip) (n : ℕ) (h : Held) → held_rows word c s (n + 1) h ≡ held_row word c s n (held_rows word c s n h)
unfolding held_rows
rows_more word c s n h = rw add-one

-- neither the room nor the list of costs gets longer or shorter
costs_long : (word : Word) (c : Carry) (y : ℕ) (room costs : List ℕ) → length (blocks_costs word c y room costs) ≡ length costs
unfolding blocks_costs lent_after
costs_long word c y room costs = go (eqb (sample_fault word c.depth (held_second c) room) 0)
  where
    go : (b : Bool) → length (cond b (laid (y * blocks_along c) (blocks_along c) (cost_at (flat_sample c.depth) (held_second c) room) costs) costs) ≡ length costs
    go true = length_laid (y * blocks_along c) (blocks_along c) (cost_at (flat_sample c.depth) (held_second c) room) costs
    go false = refl

pub row_long : (word : Word) (c : Carry) (s : Strip) (j : ℕ) (h : Held)
    → (length (held_row word c s j h).room ≡ length h.room) × (length (held_row word c s j h).costs ≡ length h.costs)
row_long word c s j h =
    let y = c.rows + j in
    (length_room c s j y h.room, go (eqb (y % block_side) 7) (room_row c s j y h.room))
  where
    go : (b : Bool) (room : List ℕ) → length (cond b (blocks_costs word c ((c.rows + j) / block_side) room h.costs) h.costs) ≡ length h.costs
    go true room = costs_long word c ((c.rows + j) / block_side) room h.costs
    go false room = refl

-- ---- a loop over the rows

-- what the first n rows leave: as long as it was, and with a total that is small
pub record RowsTaken (word : Word) (c : Carry) (s : Strip) (start : Held) (n : ℕ) (h : Held) : Type 0 where
  pub is : h ≡ held_rows word c s n start
  pub room : length h.room ≡ length start.room
  pub costs : length h.costs ≡ length start.costs
  pub small : h.total < (n + 1) * 2 ^ 42

pub taken_none : (word : Word) (c : Carry) (s : Strip) (start : Held) → Sound word c → start.total ≤ totals_most c → RowsTaken word c s start 0 start
taken_none word c s start f h = record {
  is = rows_none word c s start;
  room = refl;
  costs = refl;
  small = omega (arith, totals_small word c f);
}

pub taken_more : (word : Word) (c : Carry) (s : Strip) (start : Held) (n rise total : ℕ) (room costs room' costs' : List ℕ)
    → RowsTaken word c s start n (held total room costs) → rise < 2 ^ 42
    → ((t : ℕ) → held (t + rise) room' costs' ≡ held_row word c s n (held t room costs))
    → RowsTaken word c s start (n + 1) (held (total + rise) room' costs')
taken_more word c s start n rise total room costs room' costs' r l e =
    let long = row_long word c s n (held total room costs) in
    record {
      is = e total ∙ ap (held_row word c s n) r.is ∙ sym (rows_more word c s n start);
      room = ap (λ (h : Held). length h.room) (e total) ∙ long.0 ∙ r.room;
      costs = ap (λ (h : Held). length h.costs) (e total) ∙ long.1 ∙ r.costs;
      small = omega (arith, r.small, l);
    }
