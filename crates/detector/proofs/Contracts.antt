-- Every result that the contracts of `fresh` and `step` allow is one that `by_value` allows (specs/Histories.antt), so every run of the
-- code is a history; and back: the two say the same.
-- Assumes nothing.
use Rattle.std.specs.Prelude.{Result, Ok}
use Rattle.answer.specs.declared.Refusal.{Refusal}
use borrow.Fn.Kinds.{Dens, ended_of}
use contract.Lifetimes.{Lfts}
use denote.Triple.Clauses.{AtExit}
use Rattle.state.specs.State.{Call, call_of}
use Rattle.state.specs.declared.State.{State}
use Rattle.detector.specs.declared.Decision.{Decision}
use Rattle.detector.specs.Histories.{by_value}
use Rattle.detector.proofs.fresh.Kinds as fresh-kinds
use Rattle.detector.proofs.fresh.Reads as fresh-reads
use Rattle.detector.proofs.step.Kinds as step-kinds
use Rattle.detector.proofs.step.Reads as step-reads

module _ (κs : Lfts 0) (a : Dens κs fresh-kinds.ps) (s : State) (e : AtExit (ended_of 0 fresh-kinds.ps fresh-kinds.r) κs) where
  pub fresh_said : fresh-reads.Post κs a (record { answer = Ok tt; state = s }) e → by_value.Begins a.0 s
  fresh_said p = p

  pub fresh_meant : by_value.Begins a.0 s → fresh-reads.Post κs a (record { answer = Ok tt; state = s }) e
  fresh_meant p = p

module _ (κs : Lfts 2) (a : Dens κs step-kinds.ps) (r : Result Decision Refusal) (t : State) (e : AtExit (ended_of 2 step-kinds.ps step-kinds.r) κs) where
  -- the call that the arguments are
  abbrev given : Call
  given = call_of a.1.0.now

  pub step_said : step-reads.Post κs a (record { answer = r; state = t }) e → by_value.Allows a.0 given r t
  step_said p = p

  pub step_meant : by_value.Allows a.0 given r t → step-reads.Post κs a (record { answer = r; state = t }) e
  step_meant p = p
