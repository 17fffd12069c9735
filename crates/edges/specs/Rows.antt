-- A table of values: what the definitions give, beside what document 01 says; and the test over the whole of it.
use Rattle.std.specs.Prelude.{◌≡◌, List, [], ◌∷◌, Bool, true, ◌&&◌, cond, ℕ, ◌<◌, eqb, Float, length, get_or, Option, Some, None}
use Rattle.std.specs.Float.{binary64}
use Rattle.std.specs.Float.Ieee.{to_bits}
use Rattle.answer.specs.Answer.{Answer, gives, refused}
use Rattle.score.specs.declared.ScenecutResult.{ScenecutResult}
use Rattle.detector.specs.Step.{Verdict}

-- a value: of what kind, and its code
pub record Value : Type 0 where
  pub kind : ℕ
  pub code : ℕ

abbrev value_of : ℕ → ℕ → Value
value_of kind code = record { kind = kind; code = code }

-- a whole number, a float by its bits, a yes or no, the number of a refusal, and nothing
abbrev pub number : ℕ → Value
number n = value_of 0 n

abbrev pub bits : ℕ → Value
bits n = value_of 1 n

abbrev pub truth : Bool → Value
truth b = value_of 2 (cond b 1 0)

abbrev pub fault : ℕ → Value
fault f = value_of 3 f

abbrev missing : Value
missing = value_of 4 0

pub record Row : Type 0 where
  pub given : Value
  pub said : Value

-- ---- values of answers

abbrev pub real_of : Float → Value
real_of x = bits (to_bits binary64 x)

abbrev pub of_answer : {A : Type 0} → (A → Value) → Answer A → Value
of_answer value (gives a) = value a
of_answer value (refused f) = fault f

abbrev of_score : (ScenecutResult → Value) → Option ScenecutResult → Value
of_score value None = missing
of_score value (Some e) = value e

-- whether a verdict is a cut, and a number of its score
abbrev pub cut_value : Answer Verdict → Value
cut_value = of_answer (λ (v : Verdict). truth v.cut)

abbrev pub score_value : (ScenecutResult → Float) → Answer Verdict → Value
score_value part = of_answer (λ (v : Verdict). of_score (λ (e : ScenecutResult). real_of (part e)) v.score)

-- ---- the test

abbrev pub same : Value → Value → Bool
same a b = eqb a.kind b.kind && eqb a.code b.code

unfoldable pub all_same : List Row → Bool
all_same [] = true
all_same (r ∷ rs) = same r.given r.said && all_same rs

-- ---- what the test says of each row

abbrev empty_row : Row
empty_row = record { given = missing; said = missing }

abbrev pub Holds : List Row → Type 0
Holds rows = (k : ℕ) → k < length rows → (get_or rows k empty_row).given ≡ (get_or rows k empty_row).said
