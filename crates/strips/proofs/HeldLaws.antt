-- The rows that the room holds, as planes: they are not refused by their shape, and what a finished row of blocks leaves. Assumes nothing.
use mathlib.Core.Bool.{Bool, true, false, ◌||◌}
use mathlib.Core.List.{List}
use mathlib.Core.Path.{◌≡◌, refl, sym, ap, ◌∙◌}
use Prim.Native.Nat.{ℕ, ◌+◌, ◌-◌, ◌*◌, ◌≤◌, ◌<◌, ◌^◌}
use native.Mathlib.Omega.{arith}
use borrow.Author.Tests.{eq-eqb, le-ltb}
use borrow.Rule.Slice.PartMut.{put_mid}
use lib.ListN.{length, get_or, take, drop, length-take, length-drop}
use Rattle.answer.specs.Answer.{Answer, answer_of}
use Rattle.answer.specs.Refusal.{refusal}
use Rattle.std.specs.Prelude.{Result, Ok, Err}
use Rattle.std.specs.Result.{result_unwrap_or}
use Rattle.answer.specs.declared.Refusal.{Refusal}
use Rattle.answer.proofs.Laws.{or_later, or_both, test_given, test_passed, answer_cases, lent_written, lent_kept}
use Rattle.importance.specs.Importance.{importance_fault, total_of}
use Rattle.importance.proofs.BlockSums.{total_most}
use Rattle.importance.proofs.Refusals.{samples_decide}
use Rattle.intra.specs.Costs.{cost_at, costs_after, costs_fault, plane_costs_of}
use Rattle.intra.specs.Fill.{flat_sample}
use Rattle.plane.specs.Blocks.{block_side, block_count, block_fault}
use Rattle.plane.specs.Planes.{Word, sizes_differ, sizes_fault, shapes_fault, sample_fault, too_large}
use Rattle.plane.proofs.BlockLaws.{block_passes, blocks_next}
use Rattle.plane.proofs.PlaneLaws.{Lies, not_refused}
use Rattle.sums.specs.Places.{in_run}
use Rattle.sums.proofs.PlaceLaws.{run_none}
use Rattle.sums.proofs.WrittenLaws.{written_none, prefix_none}
use Rattle.strips.specs.declared.carry.Carry.{Carry}
use Rattle.strips.specs.Carry.{blocks_along}
use Rattle.strips.specs.Needs.{Sound}
use Rattle.strips.specs.Rows.{laid, room_long, held_plane, held_first, held_second, or_nothing, blocks_rise, blocks_costs}
use Rattle.strips.proofs.RowLaws.{laid_back}

module _ (word : Word) (c : Carry) (s : Sound word c) (room : List ℕ) (enough : room_long c ≤ length room) where
  -- ---- the two planes

  held_lies : (at : ℕ) → at + 8 * c.width ≤ length room → Lies (held_plane c at) (length room)
  held_lies at h = record {
    some_width = s.width_some;
    width_most = s.width_most;
    some_height = omega arith;
    height_most = omega arith;
    strides = omega arith;
    within = omega arith;
  }

  pub first_lies : Lies (held_first c) (length room)
  first_lies = held_lies 0 (omega arith)

  pub second_lies : Lies (held_second c) (length room)
  second_lies = held_lies (8 * c.width) (omega arith)

  shapes : 0 ≡ shapes_fault word c.depth (held_first c) (length room) (held_second c) (length room)
  unfolding shapes_fault sizes_fault sizes_differ
  shapes =
      let same : sizes_differ (held_first c) (held_second c) ≡ false = rw (eq-eqb c.width c.width refl) refl in
      sym (or_both _ _ s.depth_fits
      (or_both _ _ (not_refused (held_first c) (length room) first_lies)
      (or_both _ _ (not_refused (held_second c) (length room) second_lies) (sym (test_passed 3 _ same)))))

  -- and have a block
  some : (at : ℕ) → 0 ≡ block_fault (block_count (held_plane c at))
  some at = block_passes (block_count (held_plane c at)) (omega (arith, s.blocks_some))

  -- so only their samples can be refused
  pub held_pair : refusal 16 (too_large c.depth (held_first c) room || too_large c.depth (held_second c) room) ≡ importance_fault word c.depth (held_first c) room (held_second c) room
  held_pair =
      samples_decide word c.depth (held_first c) room (held_second c) room
      (blocks_next word c.depth (held_first c) (length room) (held_second c) (length room) 0 shapes (some 0))

  pub held_sample : refusal 16 (too_large c.depth (held_second c) room) ≡ sample_fault word c.depth (held_second c) room
  unfolding sample_fault
  held_sample = or_later _ _ _ (sym s.depth_fits) (or_later _ _ _ (sym (not_refused (held_second c) (length room) second_lies)) refl)

  held_costs : (n : ℕ) → block_count (held_second c) ≤ n → refusal 16 (too_large c.depth (held_second c) room) ≡ costs_fault word c.depth (held_second c) room n
  unfolding costs_fault
  held_costs n h =
      or_later _ _ _ (sym s.depth_fits)
      (or_later _ _ _ (sym (not_refused (held_second c) (length room) second_lies))
      (or_later _ _ _ (some (block_side * c.width)) (or_later _ _ _ (test_passed 4 _ (le-ltb n (block_count (held_second c)) h)) refl)))

  -- ---- a finished row of blocks

  -- what the importance total rises by: the total, or nothing where it is refused
  pub rise_is : (r : Result ℕ Refusal) → answer_of r ≡ total_of word c.depth (held_first c) room (held_second c) room → result_unwrap_or r 0 ≡ blocks_rise word c room
  unfolding blocks_rise
  rise_is (Ok n) e = ap or_nothing e
  rise_is (Err f) e = ap or_nothing e

  -- it is small, whatever the room holds
  pub rise_most : (k : ℕ) → k < 2 ^ 16 → ((i : ℕ) → get_or room i 0 ≤ k) → blocks_rise word c room < 2 ^ 42
  unfolding blocks_rise
  rise_most k small l =
      answer_cases (λ (a : Answer ℕ). or_nothing a < 2 ^ 42) _ _ (λ e. total_most k (held_first c) room (held_second c) room l l word c.depth small e) (λ h. omega arith)

  -- ---- its costs, through a part of the list that starts at their first place

  module _ (y : ℕ) (costs : List ℕ) (h : y * blocks_along c + blocks_along c ≤ length costs) where
    at : ℕ
    at = y * blocks_along c

    part : List ℕ
    unfolding at
    part = take (length costs - at) (drop at costs)

    along : block_count (held_second c) ≡ blocks_along c
    along = omega arith

    part_long : length part ≡ length costs - at
    unfolding part
    part_long = simp (length-take, length-drop) (omega arith)

    fault : refusal 16 (too_large c.depth (held_second c) room) ≡ costs_fault word c.depth (held_second c) room (length part)
    unfolding at
    fault = held_costs (length part) (omega (arith, part_long, along))

    flat : ℕ
    flat = flat_sample c.depth

    -- where a sample is too large the part is as it was, and so is the list
    kept_back : (t : List ℕ) → t ≡ part → put_mid at (length costs - at) costs t ≡ costs
    unfolding at part
    kept_back t e =
        laid_back at 0 (λ (k : ℕ). 0) costs (omega arith) t (e ∙ prefix_none (λ (k : ℕ). 0) part)
        ∙ sym (written_none (in_run at 0) (λ (k : ℕ). 0) costs (run_none at))

    -- else the costs stand in their places
    costs_laid : (t : List ℕ) → t ≡ costs_after flat (held_second c) room part → put_mid at (length costs - at) costs t ≡ laid at (blocks_along c) (cost_at flat (held_second c) room) costs
    unfolding at part
    costs_laid t e =
        laid_back at (block_count (held_second c)) (cost_at flat (held_second c) room) costs (omega (arith, along)) t e
        ∙ ap (λ (n : ℕ). laid at n (cost_at flat (held_second c) room) costs) along

    pub costs_back : (t : List ℕ)
        → t ≡ plane_costs_of word c.depth (held_second c) room (take (length costs - y * blocks_along c) (drop (y * blocks_along c) costs))
        → put_mid (y * blocks_along c) (length costs - y * blocks_along c) costs t ≡ blocks_costs word c y room costs
    unfolding blocks_costs at part flat
    costs_back t e = go (too_large c.depth (held_second c) room) refl
      where
        go : (b : Bool) → too_large c.depth (held_second c) room ≡ b → put_mid at (length costs - at) costs t ≡ blocks_costs word c y room costs
        go true d =
            let sixteen = test_given 16 _ d in
            kept_back t (e ∙ sym (lent_kept 16 _ _ _ (sixteen ∙ fault) (λ z. omega arith)))
            ∙ lent_kept 16 _ _ _ (sixteen ∙ held_sample) (λ z. omega arith)
        go false d =
            let none = test_passed 16 _ d in
            costs_laid t (e ∙ sym (lent_written _ _ _ (none ∙ fault)))
            ∙ lent_written _ _ _ (none ∙ held_sample)
