-- Document 01, "The step", whole: "The step answers either a refusal or a decision with its score, if there is one."
use Rattle.std.specs.Prelude.{◌≡◌, Bool, true, false, cond, ℕ, ◌-◌, eqb, get_or, Option, Some, None, Result, Ok, Err}
use Rattle.answer.specs.declared.Refusal.{Refusal}
use Rattle.answer.specs.Answer.{Answer, gives, refused}
use Rattle.answer.specs.Refusal.{number_of}
use Rattle.settings.specs.declared.Settings.{Settings}
use Rattle.settings.specs.Settings.{is_none, is_fast}
use Rattle.score.specs.declared.ScenecutResult.{ScenecutResult}
use Rattle.score.specs.declared.Measure.{Measure}
use Rattle.score.specs.Deque.{no_score}
use Rattle.state.specs.State.{View, Call, view}
use Rattle.state.specs.declared.State.{State}
use Rattle.state.specs.Refusals.{step_fault}
use Rattle.detector.specs.declared.Stepped.{Stepped}
use Rattle.detector.specs.declared.Decision.{Decision}
use Rattle.detector.specs.Rules.{measure_of, Turn, rule2, rule3, rule4, rule5, rule6, rule7, next_of}

-- ---- what the step answers, and the state beside it

pub record Verdict : Type 0 where
  pub cut : Bool
  pub score : Option ScenecutResult

pub record Outcome : Type 0 where
  pub answer : Answer Verdict
  pub state : View

-- the values of a decision, or the number of a refusal
abbrev pub verdict : Decision → Verdict
verdict d = record { cut = d.cut; score = d.score }

abbrev pub step_answer : Result Decision Refusal → Answer Verdict
step_answer (Ok d) = gives (verdict d)
step_answer (Err e) = refused (number_of e)

abbrev pub outcome : Stepped → Outcome
outcome r = record { answer = step_answer r.answer; state = view r.state }

abbrev pub is_refused : Answer Verdict → Bool
is_refused (refused f) = true
is_refused (gives v) = false

-- "A refusal returns its number only; state .. as before": the very state, with the slots past its count, which no view shows
abbrev pub HandsBack : Stepped → State → Type 0
HandsBack r s = is_refused (step_answer r.answer) ≡ true → r.state ≡ s

-- ---- rules 2 to 7

-- what was measured of item k of a call, as far as the mode reads it
abbrev pub item_in : Settings → Call → ℕ → Measure
item_in g c = measure_of (is_fast g) c.inter c.importance c.threshold

abbrev pub item_of : View → Call → ℕ → Measure
item_of s = item_in s.settings

-- rules 4 and 5
abbrev pub progress_of : View → Call → Turn
progress_of s c =
    rule5 s.settings c.set_length c.number (item_of s c)
    (rule4 s.settings c.set_length c.number (item_of s c) s.offset s.entries)

-- a decision without a score: "o and the deque unchanged"
abbrev pub bare_of : View → ℕ → ℕ → Bool → Outcome
bare_of s long n cut = record { answer = gives (record { cut = cut; score = None }); state = next_of s long n s.entries s.offset }

-- a decision with the score of entry o, and the state after rule 7
abbrev pub scored_of : View → Call → Turn → Outcome
scored_of s c t = record {
  answer = gives (record { cut = rule6 s.settings (c.number - c.keyframe) t; score = Some (get_or t.entries t.offset no_score) });
  state = next_of s c.set_length c.number (rule7 s.settings t.entries) t.offset;
}

-- rule 2, else rule 3 in None mode, else rules 4 to 7
unfoldable pub accepted_of : View → Call → Outcome
accepted_of s c =
    cond (rule2 s.settings c.set_length) (bare_of s c.set_length c.number false)
    (cond (is_none s.settings) (bare_of s c.set_length c.number (rule3 s.settings (c.number - c.keyframe)))
    (scored_of s c (progress_of s c)))

-- "A refusal returns its number only; state and lent memory are as before."
unfoldable pub step_of : View → Call → Outcome
step_of s c =
    cond (eqb (step_fault s c) 0) (accepted_of s c) (record { answer = refused (step_fault s c); state = s })
