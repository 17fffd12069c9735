-- Every result that the contracts of `fresh` and `step` allow is one that `by_places` allows (specs/Histories.antt), so every run of the
-- code is a history; and of a step the way back too.
-- Assumes nothing.
use Rattle.std.specs.Prelude.{Result, Ok}
use Rattle.answer.specs.declared.Refusal.{Refusal}
use borrow.Fn.Kinds.{Dens, ended_of}
use contract.Lifetimes.{Lfts}
use denote.Triple.Clauses.{AtExit}
use Rattle.state.specs.State.{Call, call_of}
use Rattle.detector.specs.declared.Decision.{Decision}
use Rattle.lent.specs.Histories.{Places, by_places}
use Rattle.lent.proofs.fresh.Kinds as fresh-kinds
use Rattle.lent.proofs.fresh.Reads as fresh-reads
use Rattle.lent.proofs.step.Kinds as step-kinds
use Rattle.lent.proofs.step.Reads as step-reads

-- the scores are lent to be read alone: `fresh` leaves them
module _ (κs : Lfts 2) (a : Dens κs fresh-kinds.ps) (e : AtExit (ended_of 2 fresh-kinds.ps fresh-kinds.r) κs) where
  abbrev begun : Places
  begun = record { numbers = e.1.0.now; scores = a.1.1.0.now }

  pub fresh_said : fresh-reads.Post κs a (Ok tt) e → by_places.Begins a.0 begun
  fresh_said p = (a.1.0.now, p.0, p.1)

module _ (κs : Lfts 4) (a : Dens κs step-kinds.ps) (r : Result Decision Refusal) (e : AtExit (ended_of 4 step-kinds.ps step-kinds.r) κs) where
  -- the call that the arguments are
  abbrev given : Call
  given = call_of a.1.1.0.now

  abbrev before : Places
  before = record { numbers = a.0.now; scores = a.1.0.now }

  abbrev after : Places
  after = record { numbers = e.0.now; scores = e.1.0.now }

  pub step_said : step-reads.Post κs a r e → by_places.Allows before given r after
  step_said p = p

  pub step_meant : by_places.Allows before given r after → step-reads.Post κs a r e
  step_meant p = p
