-- What every accepted strip keeps to: the promises of specs/Promises.antt. Assumes nothing.
use mathlib.Core.Bool.{Bool, true, false, ◌||◌, cond}
use mathlib.Core.List.{List}
use mathlib.Core.Path.{◌≡◌, refl, sym, ap, subst, ◌∙◌}
use Prim.Native.Nat.{ℕ, zero, suc, ◌+◌, ◌-◌, ◌*◌, ◌/◌, ◌%◌, ◌≤◌, ◌<◌, ◌^◌}
use native.Mathlib.Decide.{dec_lt, ℕ_discrete}
use native.Mathlib.Nat.{add-mul, mul_assoc, mul-le-mul_right}
use native.Mathlib.Omega.{arith}
use borrow.Author.Tests.{eq-eqb, ne_eqb}
use lib.Dec.{eqb}
use lib.ListN.{length, get_or}
use Rattle.answer.specs.Answer.{Answer, lent_after}
use Rattle.answer.proofs.Laws.{answer_cases, lent_written, test_passed}
use Rattle.importance.specs.Importance.{importance_total}
use Rattle.importance.proofs.Refusals.{as_difference}
use Rattle.intra.specs.Costs.{cost_at}
use Rattle.intra.specs.Fill.{flat_sample}
use Rattle.plane.specs.Blocks.{block_side}
use Rattle.plane.specs.Planes.{Word, depth_fault, too_large, sample_fault}
use Rattle.plane.proofs.SampleLaws.{pair_fault_is}
use Rattle.sad.specs.Difference.{plane_sad}
use Rattle.strips.specs.declared.carry.Carry.{Carry}
use Rattle.strips.specs.Carry.{carry_of, carry_numbers, blocks_along, totals_most, carry_unfit, carry_fault}
use Rattle.strips.specs.Needs.{Taken, held}
use Rattle.strips.specs.Promises.{StaysFit, OnlyFinished}
use Rattle.strips.specs.Rows.{Strip, Held, laid, held_first, held_second, or_nothing, blocks_rise, blocks_costs, held_row, held_rows}
use Rattle.strips.specs.Strips.{Kept, strip, add_after, held_after, carry_after, taken}
use Rattle.strips.proofs.AddLaws.{add_known}
use Rattle.strips.proofs.CarryLaws.{word_depth, fit_passed}
use Rattle.strips.proofs.Frames.{rows_most, blocks_most, fits_back}
use Rattle.strips.proofs.RoomLaws.{laid_before, laid_behind}
use Rattle.strips.proofs.RowLaws.{nothing, row_long}
use Rattle.strips.proofs.ShapeLaws.{shapes_pass}

-- ---- the totals

-- the largest sample
abbrev most_of : Carry → ℕ
most_of c = 2 ^ c.depth - 1

-- a finished row of blocks raises the total by no more than a row of samples may
rise_within : (word : Word) (c : Carry) (room : List ℕ) → blocks_rise word c room ≤ c.width * most_of c
unfolding blocks_rise importance_total
rise_within word c room =
    answer_cases (λ (a : Answer ℕ). or_nothing a ≤ c.width * most_of c) _ _
    (λ e.
    let along : blocks_along c ≤ c.width = omega arith in
    omega (arith, blocks_most word c.depth (strip (held_first c) room (held_second c) room) (as_difference word c.depth (held_first c) room (held_second c) room e) 1 (omega arith), mul-le-mul_right (most_of c) along))
    (λ h. omega arith)

row_total : (word : Word) (c : Carry) (s : Strip) (j : ℕ) (h : Held) → (held_row word c s j h).total ≤ h.total + c.width * most_of c
row_total word c s j h = go (eqb ((c.rows + j) % block_side) 7)
  where
    go : (b : Bool) → h.total + cond b (blocks_rise word c (held_row word c s j h).room) 0 ≤ h.total + c.width * most_of c
    go true = omega (arith, rise_within word c (held_row word c s j h).room)
    go false = omega arith

rows_total : (word : Word) (c : Carry) (s : Strip) (n : ℕ) (h : Held) → (held_rows word c s n h).total ≤ h.total + n * (c.width * most_of c)
unfolding held_rows
rows_total word c s zero h = omega arith
rows_total word c s (suc n) h = omega (arith, rows_total word c s n h, row_total word c s n (held_rows word c s n h))

-- and a strip's difference by no more than its rows may
difference_within : (word : Word) (c : Carry) (s : Strip) (room costs : ℕ) → Taken word c s.first (length s.a) s.second (length s.b) room costs
    → too_large c.depth s.first s.a || too_large c.depth s.second s.b ≡ false
    → plane_sad s.first s.a s.second s.b ≤ s.first.height * (c.width * most_of c)
unfolding plane_sad
difference_within word c s room costs t e = go (dec_lt 0 s.first.height)
  where
    go : Dec (0 < s.first.height) → plane_sad s.first s.a s.second s.b ≤ s.first.height * (c.width * most_of c)
    go (yes some) =
        let shapes = shapes_pass word c s.first (length s.a) s.second (length s.b) room costs t some in
        let good = sym (test_passed 16 _ e ∙ pair_fault_is word c.depth s.first s.a s.second s.b (sym shapes)) in
        subst (λ (w : ℕ). plane_sad s.first s.a s.second s.b ≤ s.first.height * (w * most_of c)) t.width
        (rows_most word c.depth s good s.first.height (omega arith))
    go (no m) = omega (arith, nothing s.first s.a s.second s.b (omega arith))

-- so the carry stays fit
pub stays_fit : StaysFit
stays_fit word k s e =
    let c = carry_of k.carry in
    let t = add_known word k s e in
    let h = held_after word k s in
    let f = t.0.carry in
    let next = carry_after c s h.total in
    let is : add_after word k s ≡ taken word k s = sym (lent_written _ (taken word k s) k (sym e)) in
    let limit : totals_most next ≡ totals_most c + s.first.height * (c.width * most_of c) =
    omega (
      arith,
      mul_assoc (c.rows + s.first.height) c.width (most_of c),
      mul_assoc c.rows c.width (most_of c),
      add-mul c.rows s.first.height (c.width * most_of c),
    ) in
    let fits : carry_unfit next ≡ false =
    fits_back next f.width_some f.width_most f.height_some f.height_most t.0.rows
    (omega (arith, limit, f.difference, difference_within word c s (length k.room) (length k.costs) t.0 t.1))
    (omega (arith, limit, f.importance, rows_total word c s s.first.height (held c.importance k.room k.costs))) in (
      ap (λ (x : Kept). carry_fault x.carry) is ∙ sym (fit_passed (carry_numbers next) refl fits),
      ap (λ (x : Kept). depth_fault (carry_of x.carry).depth) is ∙ sym (word_depth word c.depth f.depth_fits),
    )

-- ---- the costs

module _ (word : Word) (c : Carry) (room costs : List ℕ) (y i : ℕ) where
  -- a finished row of blocks leaves the costs before its own, and those behind them
  costs_before : i < y * blocks_along c → i < length costs → get_or (blocks_costs word c y room costs) i 0 ≡ get_or costs i 0
  unfolding blocks_costs lent_after
  costs_before h l = go (eqb (sample_fault word c.depth (held_second c) room) 0)
    where
      go : (b : Bool) → get_or (cond b (laid (y * blocks_along c) (blocks_along c) (cost_at (flat_sample c.depth) (held_second c) room) costs) costs) i 0 ≡ get_or costs i 0
      go true = laid_before (y * blocks_along c) (blocks_along c) (cost_at (flat_sample c.depth) (held_second c) room) costs i h l
      go false = refl

  costs_behind : y * blocks_along c + blocks_along c ≤ i → i < length costs → get_or (blocks_costs word c y room costs) i 0 ≡ get_or costs i 0
  unfolding blocks_costs lent_after
  costs_behind h l = go (eqb (sample_fault word c.depth (held_second c) room) 0)
    where
      go : (b : Bool) → get_or (cond b (laid (y * blocks_along c) (blocks_along c) (cost_at (flat_sample c.depth) (held_second c) room) costs) costs) i 0 ≡ get_or costs i 0
      go true = laid_behind (y * blocks_along c) (blocks_along c) (cost_at (flat_sample c.depth) (held_second c) room) costs i h l
      go false = refl

-- after n rows: what was there, but for the rows of blocks that they finish
record Kept-costs (c : Carry) (n : ℕ) (old new : List ℕ) : Type 0 where
  long : length new ≡ length old
  before : (i : ℕ) → i < c.rows / block_side * blocks_along c → i < length old → get_or new i 0 ≡ get_or old i 0
  behind : (i : ℕ) → (c.rows + n) / block_side * blocks_along c ≤ i → i < length old → get_or new i 0 ≡ get_or old i 0

-- one row more
module _ (word : Word) (c : Carry) (s : Strip) (n : ℕ) (old : List ℕ) (h : Held) (done : Kept-costs c n old h.costs) where
  abbrev y : ℕ
  y = c.rows + n

  abbrev next : Held
  next = held_row word c s n h

  row_keeps : Kept-costs c (suc n) old next.costs
  row_keeps = go (ℕ_discrete (y % block_side) 7)
    where
      long : length next.costs ≡ length old
      long = (row_long word c s n h).1 ∙ done.long

      go : Dec (y % block_side ≡ 7) → Kept-costs c (suc n) old next.costs
      go (yes e) =
          let is : next.costs ≡ blocks_costs word c (y / block_side) next.room h.costs = rw (eq-eqb (y % block_side) 7 e) refl in
          let down : (c.rows + suc n) / block_side ≡ y / block_side + 1 = omega arith in
          let further : c.rows / block_side ≤ y / block_side = omega arith in
          record {
            long = long;
            before = λ i b l.
                ap (λ (x : List ℕ). get_or x i 0) is
                ∙ costs_before word c next.room h.costs (y / block_side) i (omega (arith, mul-le-mul_right (blocks_along c) further)) (omega (arith, done.long)) ∙ done.before i b l;
            behind = λ i b l.
                let end : y / block_side * blocks_along c + blocks_along c ≤ i = omega (arith, ap (λ (m : ℕ). m * blocks_along c) down, add-mul (y / block_side) 1 (blocks_along c)) in
                ap (λ (x : List ℕ). get_or x i 0) is ∙ costs_behind word c next.room h.costs (y / block_side) i end (omega (arith, done.long)) ∙ done.behind i (omega arith) l;
          }
      go (no m) =
          let is : next.costs ≡ h.costs = rw (ne_eqb (y % block_side) 7 m) refl in
          let down : (c.rows + suc n) / block_side ≡ y / block_side = omega arith in
          record {
            long = long;
            before = λ i b l. ap (λ (x : List ℕ). get_or x i 0) is ∙ done.before i b l;
            behind = λ i b l. ap (λ (x : List ℕ). get_or x i 0) is ∙ done.behind i (omega (arith, ap (λ (m : ℕ). m * blocks_along c) down)) l;
          }

rows_kept : (word : Word) (c : Carry) (s : Strip) (n : ℕ) (h : Held) → Kept-costs c n h.costs (held_rows word c s n h).costs
unfolding held_rows
rows_kept word c s zero h = record { long = refl; before = λ i b l. refl; behind = λ i b l. refl }
rows_kept word c s (suc n) h = row_keeps word c s n h.costs (held_rows word c s n h) (rows_kept word c s n h)

pub only_finished : OnlyFinished
only_finished word k s e =
    let c = carry_of k.carry in
    let t = (add_known word k s e).0 in
    let is : (add_after word k s).costs ≡ (held_after word k s).costs = ap (λ (x : Kept). x.costs) (sym (lent_written _ (taken word k s) k (sym e))) in
    let r = rows_kept word c s s.first.height (held c.importance k.room k.costs) in
    let down : c.rows / block_side ≤ c.height / block_side = omega (arith, t.carry.come) in
    let inside : c.rows / block_side * blocks_along c ≤ length k.costs = omega (arith, mul-le-mul_right (blocks_along c) down, t.list) in (
      ap length is ∙ r.long,
      (λ i h. ap (λ (x : List ℕ). get_or x i 0) is ∙ r.before i h (omega (arith, inside))),
      (λ i h l. ap (λ (x : List ℕ). get_or x i 0) is ∙ r.behind i h l),
    )
