-- What a step leaves of the state that it was given: its settings, without a score its entries, and never more of them than there is
-- room for. Assumes nothing.
use mathlib.Core.Path.{◌≡◌, refl}
use mathlib.Core.Bool.{false}
use Rattle.std.specs.Prelude.{Option, Some, None}
use Prim.Native.Nat.{ℕ, ◌≤◌, ◌<◌}
use native.Mathlib.Omega.{arith}
use lib.ListN.{length}
use Rattle.answer.specs.Answer.{Answer, gives, refused}
use Rattle.settings.specs.Settings.{room, lookahead_offset, is_none}
use Rattle.score.specs.declared.ScenecutResult.{ScenecutResult}
use Rattle.state.specs.State.{View, Call}
use Rattle.state.specs.Refusals.{step_fault}
use Rattle.state.proofs.Well.{well, passes}
use Rattle.state.proofs.Fine.{fine}
use Rattle.detector.specs.Step.{Verdict, progress_of, scored_of, step_of}
use Rattle.detector.proofs.Cases.{step_cases}
use Rattle.detector.proofs.Reach.{score_in, scored_passes}

module _ (s : View) (c : Call) where
  pub settings_kept : (step_of s c).state.settings ≡ s.settings
  settings_kept = step_cases s c (λ o. o.state.settings ≡ s.settings) (λ f. refl) (λ q cut i. refl) (λ q l m. refl)

  pub entries_kept : score_in (step_of s c).answer ≡ None → (step_of s c).state.entries ≡ s.entries
  entries_kept = step_cases s c (λ o. score_in o.answer ≡ None → o.state.entries ≡ s.entries) (λ f h. refl) (λ q cut i h. refl) (λ q l m h. absurd (clash _ h))
    where
      clash : (e : ScenecutResult) → ◌≡◌ {A = Option ScenecutResult} (Some e) None → ⊥
      clash e k = let z : ◌≡◌ {A = ℕ} 0 1 = cc in omega arith

  pub entries_few : (v : Verdict) → (step_of s c).answer ≡ gives v → length (step_of s c).state.entries ≤ room
  entries_few v = step_cases s c (λ o. o.answer ≡ gives v → length o.state.entries ≤ room) (λ f h. absurd (clash _ h)) (λ q cut i h. few q) (λ q l m h. scored q l m)
    where
      clash : (f : ℕ) → ◌≡◌ {A = Answer Verdict} (refused f) (gives v) → ⊥
      clash f k = let z : ◌≡◌ {A = ℕ} 0 1 = cc in omega arith

      few : step_fault s c ≡ 0 → length s.entries ≤ room
      few q = omega (arith, (fine s c q).state.few)

      scored : step_fault s c ≡ 0 → lookahead_offset s.settings < c.set_length → is_none s.settings ≡ false → length (scored_of s c (progress_of s c)).state.entries ≤ room
      scored q l m = omega (arith, (well _ (scored_passes s c (passes s (fine s c q).state) q l m)).few)
