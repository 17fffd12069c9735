-- Wherever two frames are cut into strips, the strips end where the whole planes do: the theorem of specs/Cuts.antt. Assumes nothing.
use mathlib.Core.Bool.{true, false, ◌||◌}
use mathlib.Core.List.{List, [], ◌∷◌}
use mathlib.Core.Path.{◌≡◌, refl, sym, ap, subst, ◌∙◌}
use Prim.Native.Nat.{ℕ, zero, suc, ◌+◌, ◌*◌, ◌/◌, ◌≤◌, ◌<◌}
use native.Mathlib.Omega.{arith}
use borrow.Author.Tests.{le-ltb, eq-eqb, eqb-true}
use lib.Dec.{ltb}
use lib.ListN.{length}
use Rattle.answer.specs.Answer.{gives}
use Rattle.answer.proofs.Laws.{or_both, or_none, test_passed, answer_given, lent_written}
use Rattle.importance.specs.Importance.{blocks_difference, importance_total}
use Rattle.intra.specs.Costs.{intra_fault, cost_at}
use Rattle.intra.specs.Fill.{flat_sample}
use Rattle.importance.proofs.Refusals.{with_blocks}
use Rattle.intra.proofs.CostLaws.{fine, has_block}
use Rattle.plane.specs.Blocks.{block_side, blocks_across, block_count}
use Rattle.plane.specs.Planes.{Word, bad_side, sample_at, sizes_differ, word_fault, too_large, shapes_fault, pair_fault}
use Rattle.plane.specs.declared.Plane.{Plane}
use Rattle.plane.proofs.BlockLaws.{block_passes}
use Rattle.plane.proofs.PlaneLaws.{side_passes}
use Rattle.sad.specs.Difference.{row_sad, plane_sad}
use Rattle.sums.specs.Sums.{sum_below, apart}
use Rattle.sums.specs.Written.{written}
use Rattle.sums.proofs.SumLaws.{sum_ext, sum_cut, sum_none}
use Rattle.sums.proofs.PlaceLaws.{fronts_none}
use Rattle.sums.proofs.WrittenLaws.{length_written, written_none}
use Rattle.strips.specs.declared.carry.Carry.{Carry}
use Rattle.strips.specs.Carry.{carry_by, carry_numbers, blocks_in, is_carry, carry_long}
use Rattle.strips.specs.Cuts.{Shows, Cut, adds_after, Accepted, AsWhole, StripsAsWhole}
use Rattle.strips.specs.Needs.{held}
use Rattle.strips.specs.Rows.{Strip, Held, room_long, held_rows}
use Rattle.strips.specs.Strips.{Kept, kept, start_after, start_fault, strip_most, too_many_rows, strips_differ, too_little, match_fault, shape_fault, add_fault, add_of, add_after, taken, end_fault, end_of, totals_of}
use Rattle.strips.proofs.CarryLaws.{word_depth, fit_passed, sound}
use Rattle.strips.proofs.Frames.{planes, samples_below, carry_at, carry_fits}
use Rattle.strips.proofs.Level.{Level, Suits, Same, level_next, none_large}
use Rattle.strips.proofs.ShapeLaws.{started, ended}

module _ (word : Word) (depth : ℕ) (frames : Strip) (before : List ℕ)
    (good : pair_fault word depth frames.first frames.a frames.second frames.b ≡ 0)
    (suit : word_fault word depth ≡ 0) (some : 0 < block_count frames.first) where
  abbrev p : Plane
  p = frames.first

  abbrev q : Plane
  q = frames.second

  abbrev at : ℕ → Carry
  at = carry_at word depth frames good

  -- what a caller keeps once r rows have come
  abbrev state_at : ℕ → List ℕ → List ℕ → Kept
  state_at r room costs = kept (carry_numbers (at r)) room costs

  abbrev Here : ℕ → List ℕ → List ℕ → Type 0
  Here r room costs = Level word depth frames before r (sum_below (r / block_side) (blocks_difference p frames.a q frames.b)) room costs

  suits_at : (r : ℕ) → r ≤ p.height → Suits word depth frames before (at r)
  suits_at r h = record {
    sound = sound word (at r) (carry_fits word depth frames good r h) suit some;
    width = refl;
    depth_is = refl;
    widths = sym (planes word depth frames good).widths;
    below = samples_below word depth frames good;
  }

  -- ---- a strip

  module _ (r : ℕ) (room costs : List ℕ) (here : Here r room costs) (s : Strip) (shows : Shows frames r s) (within : r + s.first.height ≤ p.height)
      (list : blocks_in (at r) ≤ length costs) where
    -- it is accepted
    shape_passes : shape_fault (word_fault word depth) (at r) s.first (length s.a) s.second (length s.b) (length room) (length costs) ≡ 0
    unfolding shape_fault match_fault strips_differ too_little too_many_rows sizes_differ
    shape_passes =
        let few : too_many_rows (at r) s.first ≡ false =
        rw (le-ltb strip_most s.first.height shows.few, le-ltb p.height (r + s.first.height) within) refl in
        let few2 : too_many_rows (at r) s.second ≡ false =
        rw (le-ltb strip_most s.second.height (omega (arith, shows.few, shows.heights)), le-ltb p.height (r + s.second.height) (omega (arith, within, shows.heights))) refl in
        let widths : s.first.width ≡ s.second.width = shows.widths.0 ∙ sym shows.widths.1 in
        let match : strips_differ (at r) s.first s.second ≡ false =
        rw (eq-eqb s.first.width s.second.width widths, eq-eqb s.first.height s.second.height shows.heights, eq-eqb s.first.width p.width shows.widths.0) refl in
        let enough : too_little (at r) (length room) (length costs) ≡ false =
        rw (le-ltb (length costs) (blocks_in (at r)) list, le-ltb (length room) (room_long (at r)) here.enough) refl in
        let both : too_many_rows (at r) s.first || too_many_rows (at r) s.second ≡ false = rw (few, few2) refl in
        or_both _ _ (sym (test_passed 17 _ both))
        (or_both _ _ suit (or_both _ _ shows.lies.0 (or_both _ _ shows.lies.1 (or_both _ _ (sym (test_passed 3 _ match)) (or_both _ _ (sym (block_passes (blocks_in (at r)) some)) (sym (test_passed 4 _ enough)))))))

    samples_pass : too_large depth s.first s.a || too_large depth s.second s.b ≡ false
    samples_pass =
        let first : too_large depth s.first s.a ≡ false =
        none_large depth s.first s.a (λ y x h l. rw (shows.first y x h (omega (arith, shows.widths.0))) (samples_below word depth frames good (r + y) x (omega (arith, within)) (omega (arith, shows.widths.0))).0) in
        let second : too_large depth s.second s.b ≡ false =
        none_large depth s.second s.b
        (λ y x h l. rw (shows.second y x (omega (arith, shows.heights)) (omega (arith, shows.widths.1))) (samples_below word depth frames good (r + y) x (omega (arith, within, shows.heights)) (omega (arith, shows.widths.1))).1) in
        rw (first, second) refl

    pub strip_accepted : add_fault word (state_at r room costs) s ≡ 0
    unfolding add_fault
    strip_accepted =
        or_both _ _ (sym (fit_passed (carry_numbers (at r)) refl (carry_fits word depth frames good r (omega (arith, within)))))
        (or_both _ _ shape_passes (sym (test_passed 16 _ samples_pass)))

    -- row after row it leads to the level of its last row
    rows_at : ℕ → Held
    rows_at n = held_rows word (at r) s n (held (at r).importance room costs)

    rows_level : (n : ℕ) → n ≤ s.first.height → Level word depth frames before (r + n) (rows_at n).total (rows_at n).room (rows_at n).costs
    unfolding rows_at held_rows
    rows_level zero h = let none : r ≡ r + 0 = omega arith in subst (λ (m : ℕ). Level word depth frames before m (at r).importance room costs) none here
    rows_level (suc n) h =
        let one : r + n + 1 ≡ r + suc n = omega arith in
        let same : Same word depth frames before (at r) (suits_at r (omega (arith, within))) s n = record {
          within = omega (arith, within);
          first = λ x x<. shows.first n x (omega arith) x<;
          second = λ x x<. shows.second n x (omega arith) x<;
        } in
        subst (λ (m : ℕ). Level word depth frames before m (rows_at (suc n)).total (rows_at (suc n)).room (rows_at (suc n)).costs) one
        (level_next word depth frames before (at r) (suits_at r (omega (arith, within))) s n same (rows_at n) (rows_level n (omega arith)))

    -- its difference is that of the frames' rows
    row_shown : (j : ℕ) → j < s.first.height → row_sad s.first s.a s.second s.b j ≡ row_sad p frames.a q frames.b (r + j)
    row_shown j h =
        ap (λ (n : ℕ). sum_below n (λ (x : ℕ). apart (sample_at s.first s.a j x) (sample_at s.second s.b j x))) shows.widths.0
        ∙ sum_ext p.width (λ (x : ℕ). apart (sample_at s.first s.a j x) (sample_at s.second s.b j x))
        (λ (x : ℕ). apart (sample_at p frames.a (r + j) x) (sample_at q frames.b (r + j) x))
        (λ x x<. ap (λ (n : ℕ). apart n (sample_at s.second s.b j x)) (shows.first j x h x<) ∙ ap (λ (n : ℕ). apart (sample_at p frames.a (r + j) x) n) (shows.second j x h x<))

    difference_next : (at r).difference + plane_sad s.first s.a s.second s.b ≡ (at (r + s.first.height)).difference
    unfolding plane_sad
    difference_next =
        let f = row_sad p frames.a q frames.b in
        omega (
          arith,
          sum_cut r s.first.height f,
          sum_ext s.first.height (row_sad s.first s.a s.second s.b) (λ (j : ℕ). f (r + j)) row_shown,
        )

    -- what is kept then
    abbrev last : Held
    last = rows_at s.first.height

    strip_leaves : (add_after word (state_at r room costs) s ≡ state_at (r + s.first.height) last.room last.costs) × Here (r + s.first.height) last.room last.costs
    unfolding rows_at
    strip_leaves =
        let l = rows_level s.first.height (omega arith) in
        let rest : ℕ → ℕ → Kept = λ (d i : ℕ). kept (carry_numbers (carry_by p.width p.height depth (r + s.first.height) d i)) last.room last.costs in (
          sym (lent_written _ (taken word (state_at r room costs) s) (state_at r room costs) (sym strip_accepted))
              ∙ ap (λ (d : ℕ). rest d last.total) difference_next ∙ ap (rest (at (r + s.first.height)).difference) l.total_is,
          subst (λ (n : ℕ). Level word depth frames before (r + s.first.height) n last.room last.costs) l.total_is l,
        )

  -- ---- all strips

  cut_within : (r : ℕ) (strips : List Strip) → Cut frames r strips → r ≤ p.height
  unfolding Cut
  cut_within r [] e = omega (arith, e)
  cut_within r (s ∷ rest) c = let h = cut_within (r + s.first.height) rest c.1 in omega (arith, h)

  -- what they end with, and the level there
  abbrev Ends : Kept → List Strip → Type 0
  Ends k strips = (room : List ℕ) × (costs : List ℕ) × (adds_after word k strips ≡ state_at p.height room costs) × Here p.height room costs

  all_strips : (r : ℕ) (room costs : List ℕ) → Here r room costs → blocks_in (at 0) ≤ length before → (strips : List Strip) → Cut frames r strips
      → Accepted word (state_at r room costs) r strips × Ends (state_at r room costs) strips
  unfolding Cut Accepted adds_after
  all_strips r room costs here list [] e =
      (tt, (room, costs, ap (λ (n : ℕ). state_at n room costs) e, subst (λ (n : ℕ). Here n room costs) e here))
  all_strips r room costs here list (s ∷ rest) c =
      let n = r + s.first.height in
      let within = cut_within n rest c.1 in
      let long : length costs ≡ length before = ap length here.costs_are ∙ length_written (λ (k : ℕ). ltb k (r / block_side * blocks_across p)) (cost_at (flat_sample depth) q frames.b) before in
      let fits : blocks_in (at r) ≤ length costs = omega (arith, long, list) in
      let leaves = strip_leaves r room costs here s c.0 within fits in
      let then = all_strips n _ _ leaves.1 list rest c.1 in
      let answer : gives n ≡ add_of word (state_at r room costs) s = answer_given _ _ _ (sym (strip_accepted r room costs here s c.0 within fits)) refl in
      subst (λ (k : Kept). ((add_of word (state_at r room costs) s ≡ gives n) × Accepted word k n rest) × Ends k rest) (sym leaves.0) ((sym answer, then.0), then.1)

-- ---- the whole planes

module _ (word : Word) (depth : ℕ) (frames : Strip) (w : Plane) (work ns room costs : List ℕ)
    (good : pair_fault word depth frames.first frames.a frames.second frames.b ≡ 0)
    (intra : intra_fault word depth frames.second frames.b w work (length costs) ≡ 0) where
  abbrev first : Plane
  first = frames.first

  abbrev second : Plane
  second = frames.second

  suit : word_fault word depth ≡ 0
  unfolding pair_fault shapes_fault
  suit = (or_none (word_fault word depth) _ (or_none (shapes_fault word depth first (length frames.a) second (length frames.b)) _ good).0).0

  abbrev carry_of : ℕ → Carry
  carry_of = carry_at word depth frames good

  -- the blocks of either plane are as many, and there is one
  blocks_same : block_count second ≡ blocks_in (carry_of 0)
  blocks_same =
      let l = planes word depth frames good in
      ap (λ (n : ℕ). n / block_side * (second.width / block_side)) (sym l.heights) ∙ ap (λ (n : ℕ). first.height / block_side * (n / block_side)) (sym l.widths)

  some : 0 < block_count first
  some = omega (arith, has_block word depth second frames.b w work (length costs) intra, blocks_same)

  -- the start
  start_passes : is_carry ns ≡ true → 0 ≡ start_fault depth first.width first.height ns
  start_passes e =
      let l = (planes word depth frames good).first in
      let sides : bad_side first.width || bad_side first.height ≡ false =
      rw (side_passes first.width l.some_width l.width_most, side_passes first.height l.some_height l.height_most) refl in
      started depth first.width first.height ns (eqb-true (length ns) carry_long e) (word_depth word depth suit) sides

  begins : is_carry ns ≡ true → start_after depth first.width first.height ns ≡ carry_numbers (carry_of 0)
  begins e =
      sym (lent_written _ (carry_numbers (carry_by first.width first.height depth 0 0 0)) ns (start_passes e))
      ∙ ap (λ (d : ℕ). carry_numbers (carry_by first.width first.height depth 0 d 0)) (sum_none (row_sad first frames.a second frames.b))
      ∙ ap (λ (i : ℕ). carry_numbers (carry_by first.width first.height depth 0 (carry_of 0).difference i)) (sum_none (blocks_difference first frames.a second frames.b))

  level_none : 2 * block_side * first.width ≤ length room → Level word depth frames costs 0 (carry_of 0).importance room costs
  level_none h = record {
    enough = h;
    total_is = refl;
    first = λ i x i< x<. absurd (omega arith);
    second = λ i x i< x<. absurd (omega arith);
    costs_are = written_none _ (cost_at (flat_sample depth) second frames.b) costs (fronts_none (blocks_across first));
  }

  -- the end
  end_passes : 0 ≡ end_fault (carry_numbers (carry_of first.height))
  end_passes =
      let fits = carry_fits word depth frames good first.height (omega arith) in
      ended (carry_numbers (carry_of first.height)) (fit_passed (carry_numbers (carry_of first.height)) refl fits) (word_depth word depth suit) (block_passes (block_count first) some) (omega arith)

  as_whole : (last : Kept) (room' costs' : List ℕ) → last ≡ kept (carry_numbers (carry_of first.height)) room' costs'
      → Level word depth frames costs first.height (carry_of first.height).importance room' costs'
      → AsWhole word depth frames w work costs last (totals_of (carry_of first.height))
  unfolding plane_sad importance_total
  as_whole last room' costs' e l = record {
    given = ap (λ (k : Kept). end_of k.carry) e ∙ sym (answer_given _ _ _ end_passes refl);
    difference = sym (answer_given _ _ _ (sym good) refl);
    importance = sym (answer_given _ _ _ (sym (with_blocks word depth first frames.a second frames.b good some)) refl);
    blocks = sym (answer_given _ _ _ (sym intra) (sym blocks_same));
    costs_are = ap (λ (k : Kept). k.costs) e ∙ l.costs_are
        ∙ ap (λ (n : ℕ). written (λ (k : ℕ). ltb k n) (cost_at (flat_sample depth) second frames.b) costs) (sym blocks_same)
        ∙ lent_written _ _ _ (sym intra);
  }

pub strips_as_whole : StripsAsWhole
strips_as_whole word depth frames w work strips ns room costs good intra carry enough cut =
    let first = frames.first in
    let suits = suit word depth frames w work ns room costs good intra in
    let blocks = some word depth frames w work ns room costs good intra in
    let list : blocks_in (carry_at word depth frames good 0) ≤ length costs =
    omega (arith, blocks_same word depth frames w work ns room costs good intra, (fine frames.b work intra (length frames.b) (length work) refl refl).room_enough) in
    let all = all_strips word depth frames costs good suits blocks 0 room costs (level_none word depth frames w work ns room costs good intra enough) list strips cut in
    let begun = begins word depth frames w work ns room costs good intra carry in (
      sym (answer_given _ _ _ (start_passes word depth frames w work ns room costs good intra carry) refl),
      rw begun all.0,
      (
        totals_of (carry_at word depth frames good first.height),
        as_whole word depth frames w work ns room costs good intra _ all.1.0 all.1.1
            (ap (λ (l : List ℕ). adds_after word (kept l room costs) strips) begun ∙ all.1.2) all.1.3,
      ),
    )
