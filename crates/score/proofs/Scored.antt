-- Scoring makes a deque one entry longer, so that what fits the room is kept whole; and it keeps inter costs as they are, so that a deque
-- never holds one that refusal 10 forbids.
-- Assumes nothing.
use mathlib.Core.Path.{◌≡◌, refl, sym, ap, ◌∙◌}
use mathlib.Core.Bool.{Bool, true, false, ◌||◌}
use mathlib.Core.List.{List, [], ◌∷◌}
use Prim.Native.Nat.{ℕ, zero, suc, ◌<◌}
use native.Mathlib.Omega.{arith}
use lib.ListN.{length, take}
use lib.Seq.{take_all}
use lib.Ieee.{Float}
use Rattle.settings.specs.Settings.{room}
use Rattle.score.specs.declared.ScenecutResult.{ScenecutResult}
use Rattle.score.specs.declared.Measure.{Measure}
use Rattle.score.specs.Search.{any_of}
use Rattle.score.specs.Scores.{with_forward, updated_from, updated_of, standard_score, fast_score, back_of, score_of}
use Rattle.score.specs.Costs.{forbidden, forbidden_entry}
use Rattle.score.proofs.Counts.{any_first, none_of}
use Rattle.score.proofs.Update.{update_long}

-- no entry has an inter cost that 10 forbids
abbrev pub Sound : List ScenecutResult → Type 0
Sound l = any_of forbidden_entry l ≡ false

updated_same : (first : Bool) (k : ℕ) (new : Float) (l : List ScenecutResult) → any_of forbidden_entry (updated_from first k new l) ≡ any_of forbidden_entry l
updated_same first zero new l = refl
updated_same first (suc k) new [] = refl
updated_same first (suc k) new (e ∷ es) =
    any_first forbidden_entry (with_forward first new e) (updated_from false k new es)
    ∙ ap (λ (b : Bool). forbidden_entry e || b) (updated_same false k new es)
    ∙ sym (any_first forbidden_entry e es)

module _ (level : Float) (o pair : ℕ) (m : Measure) (l : List ScenecutResult) where
  pub score_long_lem : (fast : Bool) → length (score_of fast level o pair m l) ≡ suc (length l)
  score_long_lem true = refl
  score_long_lem false = ap suc (update_long m.inter true o l)

  pub score_kept : (fast : Bool) → length l < room → take room (score_of fast level o pair m l) ≡ score_of fast level o pair m l
  score_kept fast h = take_all room (score_of fast level o pair m l) (omega (arith, score_long_lem fast))

  pub score_sound : (fast : Bool) → forbidden m.inter ≡ false → Sound l → Sound (score_of fast level o pair m l)
  score_sound true h k = none_of forbidden_entry (fast_score level pair m.inter) l h k
  score_sound false h k = none_of forbidden_entry (standard_score pair m (back_of o pair m.inter l)) (updated_of o m.inter l) h (updated_same true o m.inter l ∙ k)
