-- The detector over lent places: what a call answers, and what the places hold at exit.
use Rattle.std.specs.Prelude.{List, ◌++◌, not, cond, ℕ, Float, take, drop, Option, Some, None}
use Rattle.answer.specs.Answer.{Answer, gives, refused, lent_after}
use Rattle.answer.specs.Refusal.{refusal, ◌or_else◌}
use Rattle.settings.specs.declared.Settings.{Settings}
use Rattle.settings.specs.Settings.{settings_fault}
use Rattle.score.specs.declared.ScenecutResult.{ScenecutResult}
use Rattle.state.specs.State.{View, Call}
use Rattle.detector.specs.Fresh.{fresh_view}
use Rattle.detector.specs.Step.{Verdict, Outcome, step_of}
use Rattle.lent.specs.Places.{settings_long, pairs_place, is_state, state_of, setting_numbers, call_numbers, pairs_placed, placed}

-- ---- a fresh detector

-- "Another length is no state: 11, which comes first, in `fresh` too"; then 6 and 5
abbrev pub fresh_fault : List ℕ → List Float → Settings → ℕ
fresh_fault ns xs g = refusal 11 (not (is_state ns xs)) or_else settings_fault g

-- the numbers of a fresh state, which has no entry: the first thirteen are written, and the pair numbers stay
abbrev pub fresh_numbers : List ℕ → List Float → Settings → List ℕ
fresh_numbers ns xs g = lent_after (fresh_fault ns xs g) (setting_numbers g ++ call_numbers (fresh_view g) ++ drop pairs_place ns) ns

-- ---- a step

abbrev pub lent_step : List ℕ → List Float → Call → Outcome
lent_step ns xs c = cond (is_state ns xs) (step_of (state_of ns xs) c) (record { answer = refused 11; state = state_of ns xs })

-- an accepted call with a score writes the entries' pair numbers, up to the count; one without a score writes none
abbrev pub pairs_by : Option ScenecutResult → View → List ℕ → List ℕ
pairs_by None s ps = ps
pairs_by (Some e) s ps = pairs_placed s.entries ps

-- "A refused call writes nothing"; an accepted one the numbers that a call may change
abbrev numbers_by : Answer Verdict → View → List ℕ → List ℕ
numbers_by (refused f) s ns = ns
numbers_by (gives v) s ns = take settings_long ns ++ call_numbers s ++ pairs_by v.score s (drop pairs_place ns)

abbrev pub numbers_after : Outcome → List ℕ → List ℕ
numbers_after o ns = numbers_by o.answer o.state ns

-- .. and, if there is a score, the entries' doubles: without one "o and the deque unchanged"
abbrev entries_by : Option ScenecutResult → View → List Float → List Float
entries_by None s xs = xs
entries_by (Some e) s xs = placed s.entries xs

abbrev scores_by : Answer Verdict → View → List Float → List Float
scores_by (refused f) s xs = xs
scores_by (gives v) s xs = entries_by v.score s xs

abbrev pub scores_after : Outcome → List Float → List Float
scores_after o xs = scores_by o.answer o.state xs
