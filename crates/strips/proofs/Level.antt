-- Strips that show two frames: what the room, the total and the costs hold after each row, by the frames' own samples. Assumes nothing.
use mathlib.Core.Bool.{Bool, false, ◌||◌}
use mathlib.Core.List.{List}
use mathlib.Core.Path.{◌≡◌, refl, sym, ap, subst, ◌∙◌}
use Prim.Native.Nat.{ℕ, ◌+◌, ◌-◌, ◌*◌, ◌/◌, ◌%◌, ◌≤◌, ◌<◌, ◌^◌}
use native.Mathlib.Decide.{dec_lt, ℕ_discrete}
use native.Mathlib.Nat.{add-mul}
use native.Mathlib.Omega.{arith}
use borrow.Author.Tests.{eq-eqb, ne_eqb, lt-leb}
use lib.Arith.{digits_div, digits_mod}
use lib.Dec.{ltb}
use lib.ListN.{length, get_or}
use Rattle.answer.proofs.Laws.{answer_given, lent_written, test_passed}
use Rattle.importance.specs.Importance.{mean, block_sum, block_difference, blocks_difference, importance_total}
use Rattle.intra.specs.Costs.{block_of, prediction, block_cost, cost_at}
use Rattle.intra.specs.Fill.{flat_sample}
use Rattle.plane.specs.Blocks.{block_side, blocks_across, block_sample}
use Rattle.plane.specs.Planes.{Word, sample_at, too_large}
use Rattle.plane.specs.declared.Plane.{Plane}
use Rattle.satd.specs.Satd.{block_size, satd_value}
use Rattle.sums.specs.Any.{any_below}
use Rattle.sums.specs.Places.{in_run}
use Rattle.sums.specs.Sums.{sum_below, apart}
use Rattle.sums.specs.Written.{written}
use Rattle.sums.proofs.AnyLaws.{any_below_lem, any_none}
use Rattle.sums.proofs.PlaceLaws.{run_holds, fronts_next}
use Rattle.sums.proofs.SumLaws.{sum_ext, sum_more, sum_none}
use Rattle.sums.proofs.TableLaws.{table_below}
use Rattle.sums.proofs.WrittenLaws.{written_value, written_again, written_ext}
use Rattle.strips.specs.declared.carry.Carry.{Carry}
use Rattle.strips.specs.Carry.{blocks_along}
use Rattle.strips.specs.Needs.{Sound}
use Rattle.strips.specs.Rows.{Strip, Held, laid, room_long, room_row, held_first, held_second, or_nothing, blocks_rise, blocks_costs, held_row}
use Rattle.strips.proofs.HeldLaws.{held_pair, held_sample}
use Rattle.strips.proofs.RoomLaws.{first_new, first_old, second_new, second_old}
use Rattle.strips.proofs.RowLaws.{length_room}

-- no sample of a plane is too large, if each that is visible is below the limit
pub none_large : (depth : ℕ) (p : Plane) (s : List ℕ) → ((y x : ℕ) → y < p.height → x < p.width → sample_at p s y x < 2 ^ depth) → too_large depth p s ≡ false
unfolding too_large
none_large depth p s h =
    all_fail p.height _ (λ y y<. all_fail p.width _ (λ x x<. lt-leb (2 ^ depth) (sample_at p s y x) (h y x y< x<)))
  where
    all_fail : (n : ℕ) (f : ℕ → Bool) → ((i : ℕ) → i < n → f i ≡ false) → any_below n f ≡ false
    all_fail n f e = any_below_lem n f (λ (_ : ℕ). false) e ∙ any_none n (λ (_ : ℕ). false) (λ _. refl)

module _ (word : Word) (depth : ℕ) (frames : Strip) (before : List ℕ) where
  abbrev pub p : Plane
  p = frames.first

  abbrev pub q : Plane
  q = frames.second

  abbrev a : List ℕ
  a = frames.a

  abbrev b : List ℕ
  b = frames.b

  -- ---- what holds once r rows have come

  -- the total and the costs are those of the finished rows of blocks, and the room holds the rows of the one that is begun
  pub record Level (r total : ℕ) (room costs : List ℕ) : Type 0 where
    pub enough : 2 * block_side * p.width ≤ length room
    pub total_is : total ≡ sum_below (r / block_side) (blocks_difference p a q b)
    pub first : (i x : ℕ) → i < r % block_side → x < p.width → get_or room (i * p.width + x) 0 ≡ sample_at p a (r / block_side * block_side + i) x
    pub second : (i x : ℕ) → i < r % block_side → x < p.width → get_or room ((block_side + i) * p.width + x) 0 ≡ sample_at q b (r / block_side * block_side + i) x
    pub costs_are : costs ≡ written (λ (k : ℕ). ltb k (r / block_side * blocks_across p)) (cost_at (flat_sample depth) q b) before

  -- the frames' samples, and the carry while a strip is taken
  pub record Suits (c : Carry) : Type 0 where
    pub sound : Sound word c
    pub width : c.width ≡ p.width
    pub depth_is : c.depth ≡ depth
    pub widths : q.width ≡ p.width
    pub below : (y x : ℕ) → y < p.height → x < p.width → (sample_at p a y x < 2 ^ depth) × (sample_at q b y x < 2 ^ depth)

  -- ---- a row of blocks whose eight rows are in the room

  -- row y of blocks
  pub record Full (c : Carry) (room : List ℕ) (y : ℕ) : Type 0 where
    pub enough : room_long c ≤ length room
    pub within : y * block_side + 7 < p.height
    pub first : (i x : ℕ) → i < block_side → x < p.width → get_or room (i * p.width + x) 0 ≡ sample_at p a (y * block_side + i) x
    pub second : (i x : ℕ) → i < block_side → x < p.width → get_or room ((block_side + i) * p.width + x) 0 ≡ sample_at q b (y * block_side + i) x

  module _ (c : Carry) (t : Suits c) (room : List ℕ) (y : ℕ) (full : Full c room y) where
    -- the held planes' samples are the frames'
    first_sample : (i x : ℕ) → i < block_side → x < p.width → sample_at (held_first c) room i x ≡ sample_at p a (y * block_side + i) x
    first_sample i x h l =
        let place : 0 + i * c.width + x ≡ i * p.width + x = rw t.width (omega arith) in
        ap (λ (k : ℕ). get_or room k 0) place ∙ full.first i x h l

    second_sample : (i x : ℕ) → i < block_side → x < p.width → sample_at (held_second c) room i x ≡ sample_at q b (y * block_side + i) x
    second_sample i x h l =
        let place : block_side * c.width + i * c.width + x ≡ (block_side + i) * p.width + x = rw t.width (omega (arith, add-mul block_side i p.width)) in
        ap (λ (k : ℕ). get_or room k 0) place ∙ full.second i x h l

    first_small : too_large c.depth (held_first c) room ≡ false
    first_small =
        none_large c.depth (held_first c) room
        (λ i x h l. rw (t.depth_is, first_sample i x h (omega (arith, t.width))) (t.below (y * block_side + i) x (omega (arith, full.within)) (omega (arith, t.width))).0)

    second_small : too_large c.depth (held_second c) room ≡ false
    second_small =
        none_large c.depth (held_second c) room
        (λ i x h l. rw (t.depth_is, second_sample i x h (omega (arith, t.width))) (t.below (y * block_side + i) x (omega (arith, full.within)) (omega (arith, t.width))).1)

    -- and so are their blocks'
    block_first : (x j i : ℕ) → x < p.width / block_side → j < block_side → i < block_side → block_sample (held_first c) room 0 x j i ≡ block_sample p a y x j i
    block_first x j i h j< i< =
        let row : 0 * block_side + j ≡ j = omega arith in
        ap (λ (k : ℕ). sample_at (held_first c) room k (x * block_side + i)) row ∙ first_sample j (x * block_side + i) j< (omega arith)

    block_second : (x j i : ℕ) → x < p.width / block_side → j < block_side → i < block_side → block_sample (held_second c) room 0 x j i ≡ block_sample q b y x j i
    block_second x j i h j< i< =
        let row : 0 * block_side + j ≡ j = omega arith in
        ap (λ (k : ℕ). sample_at (held_second c) room k (x * block_side + i)) row ∙ second_sample j (x * block_side + i) j< (omega arith)

    -- so the total rises by the row's own
    difference_is : (x : ℕ) → x < p.width / block_side → block_difference (held_first c) room (held_second c) room 0 x ≡ block_difference p a q b y x
    difference_is x h =
        let f : block_sum (held_first c) room 0 x ≡ block_sum p a y x =
        sum_ext block_side (λ (j : ℕ). sum_below block_side (block_sample (held_first c) room 0 x j)) (λ (j : ℕ). sum_below block_side (block_sample p a y x j))
        (λ j j<. sum_ext block_side (block_sample (held_first c) room 0 x j) (block_sample p a y x j) (λ i i<. block_first x j i h j< i<)) in
        let s : block_sum (held_second c) room 0 x ≡ block_sum q b y x =
        sum_ext block_side (λ (j : ℕ). sum_below block_side (block_sample (held_second c) room 0 x j)) (λ (j : ℕ). sum_below block_side (block_sample q b y x j))
        (λ j j<. sum_ext block_side (block_sample (held_second c) room 0 x j) (block_sample q b y x j) (λ i i<. block_second x j i h j< i<)) in
        ap (λ (n : ℕ). apart (mean n) (mean (block_sum (held_second c) room 0 x))) f ∙ ap (λ (n : ℕ). apart (mean (block_sum p a y x)) (mean n)) s

    held_total : blocks_difference p a q b y ≡ importance_total (held_first c) room (held_second c) room
    unfolding importance_total
    held_total =
        let held : ℕ → ℕ = blocks_difference (held_first c) room (held_second c) room in
        let row : held 0 ≡ blocks_difference p a q b y =
        ap (λ (n : ℕ). sum_below (n / block_side) (block_difference (held_first c) room (held_second c) room 0)) t.width
        ∙ sum_ext (p.width / block_side) (block_difference (held_first c) room (held_second c) room 0) (block_difference p a q b y) difference_is in
        omega (arith, row, sum_more 0 held, sum_none held)

    pub rise_is : blocks_rise word c room ≡ blocks_difference p a q b y
    unfolding blocks_rise
    rise_is =
        sym (ap or_nothing
        (answer_given _ _ (blocks_difference p a q b y)
        (test_passed 16 (too_large c.depth (held_first c) room || too_large c.depth (held_second c) room) (rw (first_small, second_small) refl)
        ∙ held_pair word c t.sound room full.enough)
        held_total))

    -- and the costs are those of the second frame, in their places
    cost_is : (k : ℕ) → k < p.width / block_side → cost_at (flat_sample c.depth) (held_second c) room k ≡ cost_at (flat_sample depth) q b (y * blocks_across p + k)
    cost_is k h =
        let flat = flat_sample depth in
        let across = blocks_across p in
        let at : k ≡ 0 * across + k = omega arith in
        let row : k / across ≡ 0 = ap (λ (i : ℕ). i / across) at ∙ digits_div 0 h in
        let column : k % across ≡ k = ap (λ (i : ℕ). i % across) at ∙ digits_mod 0 h in
        let block : block_of (held_second c) room 0 k ≡ block_of q b y k =
        table_below block_size (λ (n : ℕ). block_sample (held_second c) room 0 k (n / block_side) (n % block_side)) (λ (n : ℕ). block_sample q b y k (n / block_side) (n % block_side))
        (λ n n<. block_second k (n / block_side) (n % block_side) h (omega arith) (omega arith)) in
        ap (λ (d : ℕ). cost_at (flat_sample d) (held_second c) room k) t.depth_is
        ∙ ap (λ (n : ℕ). block_cost flat (held_second c) room (k / (n / block_side)) (k % (n / block_side))) t.width
        ∙ ap (λ (r : ℕ). block_cost flat (held_second c) room r (k % across)) row
        ∙ ap (λ (x : ℕ). block_cost flat (held_second c) room 0 x) column
        ∙ ap (λ (l : List ℕ). satd_value l (prediction flat)) block
        ∙ sym (ap (λ (n : ℕ). block_cost flat q b ((y * across + k) / (n / block_side)) ((y * across + k) % (n / block_side))) t.widths
        ∙ ap (λ (r : ℕ). block_cost flat q b r ((y * across + k) % across)) (digits_div y h)
        ∙ ap (λ (x : ℕ). block_cost flat q b y x) (digits_mod y h))

    pub costs_next : (costs : List ℕ) → costs ≡ written (λ (k : ℕ). ltb k (y * blocks_across p)) (cost_at (flat_sample depth) q b) before
        → blocks_costs word c y room costs ≡ written (λ (k : ℕ). ltb k ((y + 1) * blocks_across p)) (cost_at (flat_sample depth) q b) before
    unfolding blocks_costs
    costs_next costs e =
        let at = y * blocks_across p in
        let across = blocks_across p in
        let cost = cost_at (flat_sample depth) q b in
        let held = cost_at (flat_sample c.depth) (held_second c) room in
        let none = test_passed 16 (too_large c.depth (held_second c) room) second_small ∙ held_sample word c t.sound room full.enough in
        sym (lent_written _ (laid (y * blocks_along c) (blocks_along c) held costs) costs none)
        ∙ ap (λ (n : ℕ). laid (y * (n / block_side)) (n / block_side) held costs) t.width
        ∙ written_value (in_run at across) (λ (k : ℕ). held (k - at)) cost costs
        (λ k h. let r = run_holds at across k h in let back : at + (k - at) ≡ k = omega arith in cost_is (k - at) (omega arith) ∙ ap cost back)
        ∙ ap (written (in_run at across) cost) e
        ∙ written_again (λ (k : ℕ). ltb k at) (in_run at across) cost before
        ∙ written_ext (λ (k : ℕ). ltb k at || in_run at across k) (λ (k : ℕ). ltb k ((y + 1) * across)) cost before (fronts_next across y)

  -- ---- one more row

  module _ (c : Carry) (t : Suits c) (s : Strip) (j : ℕ) where
    abbrev r : ℕ
    r = c.rows + j

    -- row j of the strip is row r of the frames
    pub record Same : Type 0 where
      pub within : r < p.height
      pub first : (x : ℕ) → x < p.width → sample_at s.first s.a j x ≡ sample_at p a r x
      pub second : (x : ℕ) → x < p.width → sample_at s.second s.b j x ≡ sample_at q b r x

    module _ (same : Same) (h : Held) (l : Level r h.total h.room h.costs) where
      room : List ℕ
      room = room_row c s j r h.room

      enough : room_long c ≤ length h.room
      enough = rw t.width l.enough

      -- the room holds the row too
      first_held : (i x : ℕ) → i ≤ r % block_side → x < p.width → get_or room (i * p.width + x) 0 ≡ sample_at p a (r / block_side * block_side + i) x
      unfolding room
      first_held i x i≤ x< = go (dec_lt i (r % block_side))
        where
          go : Dec (i < r % block_side) → get_or room (i * p.width + x) 0 ≡ sample_at p a (r / block_side * block_side + i) x
          go (yes i<) =
              subst (λ (n : ℕ). get_or room (i * n + x) 0 ≡ get_or h.room (i * n + x) 0) t.width (first_old c s j r h.room enough i x i< (omega (arith, t.width)))
              ∙ l.first i x i< x<
          go (no m) =
              let last : r % block_side ≡ i = omega arith in
              let row : r ≡ r / block_side * block_side + i = omega arith in
              subst (λ (n : ℕ). get_or room (i * n + x) 0 ≡ sample_at s.first s.a j x) t.width
              (subst (λ (k : ℕ). get_or room (k * c.width + x) 0 ≡ sample_at s.first s.a j x) last (first_new c s j r h.room enough x (omega (arith, t.width))))
              ∙ same.first x x< ∙ ap (λ (k : ℕ). sample_at p a k x) row

      second_held : (i x : ℕ) → i ≤ r % block_side → x < p.width → get_or room ((block_side + i) * p.width + x) 0 ≡ sample_at q b (r / block_side * block_side + i) x
      unfolding room
      second_held i x i≤ x< = go (dec_lt i (r % block_side))
        where
          go : Dec (i < r % block_side) → get_or room ((block_side + i) * p.width + x) 0 ≡ sample_at q b (r / block_side * block_side + i) x
          go (yes i<) =
              subst (λ (n : ℕ). get_or room ((block_side + i) * n + x) 0 ≡ get_or h.room ((block_side + i) * n + x) 0) t.width
              (second_old c s j r h.room enough i x i< (omega (arith, t.width)))
              ∙ l.second i x i< x<
          go (no m) =
              let last : r % block_side ≡ i = omega arith in
              let row : r ≡ r / block_side * block_side + i = omega arith in
              subst (λ (n : ℕ). get_or room ((block_side + i) * n + x) 0 ≡ sample_at s.second s.b j x) t.width
              (subst (λ (k : ℕ). get_or room ((block_side + k) * c.width + x) 0 ≡ sample_at s.second s.b j x) last
              (second_new c s j r h.room enough x (omega (arith, t.width))))
              ∙ same.second x x< ∙ ap (λ (k : ℕ). sample_at q b k x) row

      room_long_lem : 2 * block_side * p.width ≤ length room
      unfolding room
      room_long_lem = omega (arith, l.enough, length_room c s j r h.room)

      -- so the next row finds the next level
      pub level_next : let n = held_row word c s j h in Level (r + 1) n.total n.room n.costs
      unfolding room
      level_next = go (ℕ_discrete (r % block_side) 7)
        where
          go : Dec (r % block_side ≡ 7) → let n = held_row word c s j h in Level (r + 1) n.total n.room n.costs
          go (yes e) =
              let full : Full c room (r / block_side) = record {
                enough = omega (arith, t.width, room_long_lem);
                within = omega (arith, same.within);
                first = λ i x i< x<. first_held i x (omega arith) x<;
                second = λ i x i< x<. second_held i x (omega arith) x<;
              } in
              let down : (r + 1) / block_side ≡ r / block_side + 1 = omega arith in
              record {
                enough = room_long_lem;
                total_is = rw (eq-eqb (r % block_side) 7 e, down)
                    (omega (arith, l.total_is, rise_is c t room (r / block_side) full, sum_more (r / block_side) (blocks_difference p a q b)));
                first = λ i x i< x<. absurd (omega arith);
                second = λ i x i< x<. absurd (omega arith);
                costs_are = rw (eq-eqb (r % block_side) 7 e, down) (costs_next c t room (r / block_side) full h.costs l.costs_are);
              }
          go (no m) =
              let down : (r + 1) / block_side ≡ r / block_side = omega arith in
              record {
                enough = room_long_lem;
                total_is = rw (ne_eqb (r % block_side) 7 m, down) (omega (arith, l.total_is));
                first = λ i x i< x<. rw down (first_held i x (omega arith) x<);
                second = λ i x i< x<. rw down (second_held i x (omega arith) x<);
                costs_are = rw (ne_eqb (r % block_side) 7 m, down) l.costs_are;
              }
