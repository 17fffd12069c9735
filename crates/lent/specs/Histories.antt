-- The detector over lent places as one that runs: what is kept between calls are the two places, and what a call leaves in them is
-- what the contracts of `fresh` and `step` say (proofs/Contracts.antt: word for word).
use Rattle.std.specs.Prelude.{◌≡◌, List, ℕ, ◌+◌, ◌*◌, ◌<◌, take, get_or, set, Float, Result}
use Rattle.answer.specs.declared.Refusal.{Refusal}
use Rattle.std.specs.Float.{nan}
use Rattle.settings.specs.declared.Settings.{Settings}
use Rattle.state.specs.State.{Call}
use Rattle.detector.specs.declared.Decision.{Decision}
use Rattle.detector.specs.Step.{step_answer}
use Rattle.detector.specs.Histories.{Detector, by_value}
use Rattle.lent.specs.Places.{score_long, offset_place, first_number_place, release_place, count_place, pairs_place}
use Rattle.lent.specs.Lent.{fresh_fault, fresh_numbers, lent_step, numbers_after, scores_after}

pub record Places : Type 0 where
  pub numbers : List ℕ
  pub scores : List Float

-- what a call leaves in the places, whatever it replies
abbrev pub Leaves : Places → Call → Places → Type 0
Leaves p c q =
    (q.numbers ≡ numbers_after (lent_step p.numbers p.scores c) p.numbers)
    × (q.scores ≡ scores_after (lent_step p.numbers p.scores c) p.scores)

-- `before` is what the numbers held when `fresh` was called
abbrev pub by_places : Detector
by_places = record {
  Kept = Places;
  Reply = Result Decision Refusal;
  accepts = by_value.accepts;
  Begins = λ (g : Settings) (p : Places).
      (before : List ℕ) × (0 ≡ fresh_fault before p.scores g) × (p.numbers ≡ fresh_numbers before p.scores g);
  Allows = λ (p : Places) (c : Call) (a : Result Decision Refusal) (q : Places).
      (step_answer a ≡ (lent_step p.numbers p.scores c).answer) × Leaves p c q;
}

-- ---- what of two pairs of places demand 3 compares

abbrev pub number_at : ℕ → Places → ℕ
number_at i p = get_or p.numbers i 0

-- double j of score k
abbrev pub double_at : ℕ → ℕ → Places → Float
double_at k j p = get_or p.scores (k * score_long + j) nan

-- the pair number of score k
abbrev pub pair_at : ℕ → Places → ℕ
pair_at k p = number_at (pairs_place + k) p

-- all numbers before the pair numbers, with the first and the release number set to 0
abbrev pub compared_numbers : Places → List ℕ
compared_numbers p = set (set (take pairs_place p.numbers) first_number_place 0) release_place 0

-- these numbers; all pair numbers and all scores below the count; and the score at the offset with its pair number, once there is one
pub record SamePlaces (p q : Places) : Type 0 where
  pub numbers : compared_numbers p ≡ compared_numbers q
  pub pairs : (k : ℕ) → k < number_at count_place p → pair_at k p ≡ pair_at k q
  pub scores : (k j : ℕ) → k < number_at count_place p → j < score_long → double_at k j p ≡ double_at k j q
  pub decided_pair : 0 < number_at count_place p → pair_at (number_at offset_place p) p ≡ pair_at (number_at offset_place q) q
  pub decided : (j : ℕ) → 0 < number_at count_place p → j < score_long → double_at (number_at offset_place p) j p ≡ double_at (number_at offset_place q) j q
