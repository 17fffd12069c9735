-- What refuses a call is one of the refusals: each number that is given is the number of one.
-- Assumes nothing.
use mathlib.Core.Path.{◌≡◌, refl, ap}
use mathlib.Core.Bool.{Bool, true, false, cond}
use Prim.Native.Nat.{ℕ}
use lib.Dec.{eqb}
use Rattle.answer.specs.declared.Refusal.{Refusal}
use Rattle.answer.specs.declared.Refusal.TheVariants.{BadNumber, BadLength, Stop, BadList, BadState}
use Rattle.answer.specs.Refusal.{number_of, refusal, ◌or_else◌}
use Rattle.answer.proofs.Laws.{by_number, by_number_of}
use Rattle.state.specs.State.{View, Call}
use Rattle.state.specs.Refusals.{state_fault, number_fault, length_fault, stop_fault, lists_fault, step_fault}

abbrev pub IsRefusal : ℕ → Type 0
IsRefusal f = (f ≡ 0 → ⊥) → number_of (by_number f) ≡ f

pub is_refusal : (e : Refusal) (test : Bool) → IsRefusal (refusal (number_of e) test)
is_refusal e true h = ap number_of (by_number_of e)
is_refusal e false h = absurd (h refl)

either : (f g : ℕ) → IsRefusal f → IsRefusal g → IsRefusal (f or_else g)
unfolding ◌or_else◌
either f g p q = by (eqb f 0)
  where
    by : (b : Bool) → IsRefusal (cond b g f)
    by true h = q h
    by false h = p h

pub fault_is : (s : View) (c : Call) → IsRefusal (step_fault s c)
unfolding state_fault number_fault length_fault stop_fault lists_fault step_fault
fault_is s c =
    either _ _ (is_refusal BadState _)
    (either _ _ (is_refusal BadNumber _) (either _ _ (is_refusal BadLength _) (either _ _ (is_refusal Stop _) (is_refusal BadList _))))
