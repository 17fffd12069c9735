-- Every result that the contracts of `brine_detector_fresh` and `brine_detector_step` allow is one that `in_c` allows
-- (specs/Histories.antt), so every run of the code is a history; and of a step the way back too.
-- Assumes nothing.
use borrow.Fn.Kinds.{Dens, ended_of}
use contract.Lifetimes.{Lfts}
use denote.Triple.Clauses.{AtExit}
use lib.IntN.{ℤ, pos}
use Rattle.state.specs.State.{Call, call}
use Rattle.lent.specs.Places.{settings_by}
use Rattle.lent.specs.Histories.{Places}
use Rattle.brinepulley.specs.Histories.{in_c}
use Rattle.brinepulley.proofs.brine_detector_fresh.Kinds as fresh-kinds
use Rattle.brinepulley.proofs.brine_detector_fresh.Reads as fresh-reads
use Rattle.brinepulley.proofs.brine_detector_step.Kinds as step-kinds
use Rattle.brinepulley.proofs.brine_detector_step.Reads as step-reads

module _ (κs : Lfts 2) (a : Dens κs fresh-kinds.ps) (e : AtExit (ended_of 2 fresh-kinds.ps fresh-kinds.r) κs) where
  abbrev begun : Places
  begun = record { numbers = e.1.1.1.1.1.1.1.0.now; scores = e.1.1.1.1.1.1.1.1.0.now }

  pub fresh_said : fresh-reads.Post κs a (pos 0) e
      → in_c.Begins (settings_by a.0 a.1.0 a.1.1.0 a.1.1.1.0 a.1.1.1.1.0 a.1.1.1.1.1.0 a.1.1.1.1.1.1.0) begun
  fresh_said p = (a.1.1.1.1.1.1.1.0.now, rw p.1.1 p.0, rw p.1.1 p.1.0)

module _ (κs : Lfts 5) (a : Dens κs step-kinds.ps) (r : ℤ) (e : AtExit (ended_of 5 step-kinds.ps step-kinds.r) κs) where
  -- the call that the arguments are
  abbrev given : Call
  given =
      call a.1.1.0 a.1.1.1.0 a.1.1.1.1.0 a.1.1.1.1.1.0.now a.1.1.1.1.1.1.0.now a.1.1.1.1.1.1.1.0.now

  abbrev before : Places
  before = record { numbers = a.0.now; scores = a.1.0.now }

  abbrev after : Places
  after = record { numbers = e.0.now; scores = e.1.0.now }

  pub step_said : step-reads.Post κs a r e → in_c.Allows before given r after
  step_said p = p

  pub step_meant : in_c.Allows before given r after → step-reads.Post κs a r e
  step_meant p = p
