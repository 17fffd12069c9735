-- Document 01, "Refusal numbers": what a C function returns. "each gives a whole number .., or the refusal number negated."
use Rattle.std.specs.Prelude.{Bool, cond, ℕ, ℤ, pos, neg_ℤ, Float, Option, Some, None}
use Rattle.answer.specs.Answer.{Answer, gives, refused, answered}
use Rattle.plane.specs.declared.Plane.{Plane}
use Rattle.score.specs.declared.ScenecutResult.{ScenecutResult}
use Rattle.detector.specs.Step.{Verdict}
use Rattle.strips.specs.declared.Totals.{Totals}

abbrev pub coded : Answer ℕ → ℤ
coded (gives n) = pos n
coded (refused f) = neg_ℤ (pos f)

-- the answer of a function that has nothing to count: 0
abbrev pub done : ℕ → Answer ℕ
done fault = answered fault 0

-- a value that goes to a lent place leaves 0 as the number
abbrev pub status : Answer Float → Answer ℕ
status (gives x) = gives 0
status (refused f) = refused f

-- "state and lent memory are as before": what that place holds at exit
abbrev pub held_after : Answer Float → Float → Float
held_after (gives x) old = x
held_after (refused f) old = old

-- the end of strips counts the blocks, and its two totals go to lent places
abbrev pub blocks_given : Answer Totals → Answer ℕ
blocks_given (gives t) = gives t.blocks
blocks_given (refused f) = refused f

abbrev pub difference_after : Answer Totals → ℕ → ℕ
difference_after (gives t) old = t.difference
difference_after (refused f) old = old

abbrev pub importance_after : Answer Totals → ℕ → ℕ
importance_after (gives t) old = t.importance
importance_after (refused f) old = old

-- a decision: "0 no cut and no score, 1 a cut without a score, 2 no cut with a score, 3 a cut with a score"
abbrev decision : Bool → Option ScenecutResult → ℕ
decision cut None = cond cut 1 0
decision cut (Some score) = cond cut 3 2

abbrev pub decided : Answer Verdict → Answer ℕ
decided (gives v) = gives (decision v.cut v.score)
decided (refused f) = refused f

-- a plane by its four numbers, in the order of the parameters
abbrev pub plane_by : ℕ → ℕ → ℕ → ℕ → Plane
plane_by width height stride origin = record { width = width; height = height; stride = stride; origin = origin }
