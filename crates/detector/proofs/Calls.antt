-- A run of calls: its next call, from what is left of every list, and its end, where one of them is empty.
-- Assumes nothing.
use mathlib.Core.Path.{◌≡◌, refl}
use mathlib.Core.List.{List, [], ◌∷◌}
use Prim.Native.Nat.{ℕ, ◌+◌, ◌-◌, min}
use native.Mathlib.Numerals.{add-one}
use native.Mathlib.Omega.{arith}
use lib.Ieee.{Float}
use lib.ListN.{length, take, drop}
use lib.Seq.{drop-drop}
use Rattle.state.specs.State.{call}
use Rattle.detector.specs.Step.{Outcome}
use Rattle.detector.specs.Runs.{then_step, run_of, calls_of}

module _ (o : Outcome) (ds is ts : List Float) where
  -- call j, and the calls behind it
  pub run_next : (n long p j : ℕ) (ns longs ps : List ℕ)
      → run_of o (calls_of (n ∷ ns) (long ∷ longs) (p ∷ ps) (drop j ds) (drop j is) (drop j ts))
      ≡ run_of (then_step o (call long n p (take (long - 1) (drop j ds)) (take (long - 1) (drop j is)) (take (long - 1) (drop j ts))))
      (calls_of ns longs ps (drop (j + 1) ds) (drop (j + 1) is) (drop (j + 1) ts))
  unfolding run_of calls_of
  run_next n long p j ns longs ps = rw (drop-drop 1 j ds, drop-drop 1 j is, drop-drop 1 j ts, add-one)

  pub run_over : (ns longs ps : List ℕ) → min (length ns) (min (length longs) (length ps)) ≡ 0 → run_of o (calls_of ns longs ps ds is ts) ≡ o
  unfolding run_of calls_of
  run_over [] longs ps h = refl
  run_over (n ∷ ns) [] ps h = refl
  run_over (n ∷ ns) (long ∷ longs) [] h = refl
  run_over (n ∷ ns) (long ∷ longs) (p ∷ ps) h = absurd (omega arith)
