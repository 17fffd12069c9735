-- An answer: what was asked for, or a refusal's number and nothing else.
use Rattle.std.specs.Prelude.{cond, ℕ, eqb, Result, Ok, Err}
use Rattle.answer.specs.declared.Refusal.{Refusal}
use Rattle.answer.specs.Refusal.{number_of}

pub data Answer (A : Type 0) : Type 0 where
  gives : A → Answer A
  refused : ℕ → Answer A

-- the value where nothing is refused, else the refusal's number
unfoldable pub answered : {A : Type 0} → ℕ → A → Answer A
answered fault a = cond (eqb fault 0) (gives a) (refused fault)

-- "A refusal returns its number only; state and lent memory are as before": what a lent place holds at exit
unfoldable pub lent_after : {A : Type 0} → ℕ → A → A → A
lent_after fault new old = cond (eqb fault 0) new old

-- what a function's result answers
abbrev pub answer_of : {A : Type 0} → Result A Refusal → Answer A
answer_of (Ok a) = gives a
answer_of (Err e) = refused (number_of e)

-- the number of the refusal in a result, and 0 where there is none
abbrev pub fault_in : {A : Type 0} → Result A Refusal → ℕ
fault_in (Ok a) = 0
fault_in (Err e) = number_of e
