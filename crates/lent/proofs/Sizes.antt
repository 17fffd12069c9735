-- Whether two lent places are a state, by their lengths, and what other lengths are answered. Assumes nothing.
use mathlib.Core.Path.{◌≡◌}
use mathlib.Core.Bool.{true, false, not}
use mathlib.Core.List.{List}
use Prim.Native.Nat.{ℕ}
use native.Mathlib.Omega.{arith}
use borrow.Author.Tests.{eq-eqb, eqb-true}
use lib.Dec.{eqb}
use lib.ListN.{length}
use lib.Ieee.{Float}
use Rattle.answer.specs.Refusal.{refusal}
use Rattle.answer.proofs.Laws.{or_given, or_later}
use Rattle.settings.specs.declared.Settings.{Settings}
use Rattle.settings.specs.Settings.{settings_fault}
use Rattle.state.proofs.Tests.{and_both}
use Rattle.lent.specs.Places.{numbers_long, scores_long, is_state}
use Rattle.lent.specs.Lent.{fresh_fault}

module _ (ns : List ℕ) (xs : List Float) where
  pub both : length ns ≡ numbers_long → length xs ≡ scores_long → is_state ns xs ≡ true
  both e f = rw (eq-eqb (length ns) numbers_long e, eq-eqb (length xs) scores_long f)

  -- and back: a state has these lengths
  pub state_long : is_state ns xs ≡ true → (length ns ≡ numbers_long) × (length xs ≡ scores_long)
  state_long is =
      let p = and_both (eqb (length ns) numbers_long) (eqb (length xs) scores_long) is in
      (eqb-true _ _ p.0, eqb-true _ _ p.1)

-- the refusal of a fresh detector: 11 by the lengths, else the settings' own
module _ (ns : List ℕ) (xs : List Float) (g : Settings) where
  pub fresh_other : is_state ns xs ≡ false → 11 ≡ fresh_fault ns xs g
  fresh_other e = or_given 11 (refusal 11 (not (is_state ns xs))) (settings_fault g) (rw e) (λ z. omega arith)

  pub fresh_state_lem : (r : ℕ) → is_state ns xs ≡ true → r ≡ settings_fault g → r ≡ fresh_fault ns xs g
  fresh_state_lem r e d = or_later r (refusal 11 (not (is_state ns xs))) (settings_fault g) (rw e) d
