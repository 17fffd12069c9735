-- The detector as C has it, as one that runs: two lent places, and a number that comes back. What a call may return and leave is what the
-- contracts of `brine_detector_fresh` and `brine_detector_step` say (proofs/Contracts.antt: word for word).
use Rattle.std.specs.Prelude.{◌≡◌, Bool, true, false, List, ℕ, ℤ, pos, negsuc}
use Rattle.settings.specs.declared.Settings.{Settings}
use Rattle.state.specs.State.{Call}
use Rattle.detector.specs.Histories.{Detector}
use Rattle.lent.specs.Lent.{fresh_fault, fresh_numbers, lent_step}
use Rattle.lent.specs.Histories.{Places, Leaves}
use Rattle.brinepulley.specs.Coded.{coded, done, decided}

-- "the refusal number negated": a number below 0 says that a call was refused
abbrev pub not_negative : ℤ → Bool
not_negative (pos n) = true
not_negative (negsuc n) = false

-- `before` is what the numbers held when `brine_detector_fresh` was called
abbrev pub in_c : Detector
in_c = record {
  Kept = Places;
  Reply = ℤ;
  accepts = not_negative;
  Begins = λ (g : Settings) (p : Places).
      (before : List ℕ) × (pos 0 ≡ coded (done (fresh_fault before p.scores g))) × (p.numbers ≡ fresh_numbers before p.scores g);
  Allows = λ (p : Places) (c : Call) (r : ℤ) (q : Places).
      (r ≡ coded (decided (lent_step p.numbers p.scores c).answer)) × Leaves p c q;
}
