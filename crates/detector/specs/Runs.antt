-- Calls one after the other: what they leave, and what the code's run makes of them.
use Rattle.std.specs.Prelude.{List, [], ◌∷◌, Bool, true, ◌&&◌, ℕ, ◌-◌, eqb, take, drop, Float}
use Rattle.answer.specs.Answer.{Answer, gives, refused}
use Rattle.state.specs.State.{View, Call, call}
use Rattle.state.specs.Refusals.{step_fault}
use Rattle.detector.specs.Step.{Verdict, Outcome, step_of}

-- ---- any calls whatsoever after a state, refused ones among them

-- the state at the end
unfoldable pub state_after : View → List Call → View
state_after s [] = s
state_after s (c ∷ cs) = state_after (step_of s c).state cs

-- whether every one of them is accepted
unfoldable pub all_accepted : View → List Call → Bool
all_accepted s [] = true
all_accepted s (c ∷ cs) = eqb (step_fault s c) 0 && all_accepted (step_of s c).state cs

-- a state with other numbers for its first call's and its release number
abbrev pub renumbered : View → ℕ → ℕ → View
renumbered s first release = record {
  settings = s.settings;
  entries = s.entries;
  count = s.count;
  offset = s.offset;
  last_number = s.last_number;
  last_length = s.last_length;
  first_number = first;
  release = release;
}

-- "demand 3 compares all of the state but these two"
abbrev pub compared : View → View
compared s = renumbered s 0 0

-- ---- the code's run: "callers take the decision apart .. and hand the refusal on"

-- a refusal is handed on as it is; after a decision comes the next step
abbrev pub next : Answer Verdict → Outcome → Outcome → Outcome
next (refused f) before after = before
next (gives v) before after = after

abbrev pub then_step : Outcome → Call → Outcome
then_step before c = next before.answer before (step_of before.state c)

-- the last answer, or the first refusal: where every call is accepted, the state is `state_after` (proofs/Account.antt, `run_after`)
unfoldable pub run_of : Outcome → List Call → Outcome
run_of before [] = before
run_of before (c ∷ cs) = run_of (then_step before c) cs

-- "sets that are successive windows of one film": each call has the next number, length and previous keyframe, and its lists are the
-- first L − 1 items of what is left of the film, which then goes on by one
unfoldable pub calls_of : List ℕ → List ℕ → List ℕ → List Float → List Float → List Float → List Call
calls_of [] longs ps ds is ts = []
calls_of (n ∷ ns) [] ps ds is ts = []
calls_of (n ∷ ns) (long ∷ longs) [] ds is ts = []
calls_of (n ∷ ns) (long ∷ longs) (p ∷ ps) ds is ts =
    call long n p (take (long - 1) ds) (take (long - 1) is) (take (long - 1) ts)
    ∷ calls_of ns longs ps (drop 1 ds) (drop 1 is) (drop 1 ts)
