-- The numbers that a call writes, from the settings on: what is read back of them, and the pair numbers behind them. Assumes nothing.
use mathlib.Core.Path.{◌≡◌, sym, ap, ◌∙◌}
use mathlib.Core.List.{List, ◌++◌}
use Prim.Native.Nat.{ℕ, ◌+◌, ◌≤◌, ◌<◌}
use native.Mathlib.Omega.{arith}
use lib.ListN.{length, take, drop, get_or, get_or-append, length-append, length-drop}
use lib.Seq.{get_or-append-add, get_or-take, length-take-le, drop_at}
use Rattle.score.specs.declared.ScenecutResult.{ScenecutResult}
use Rattle.score.specs.Numbers.{numbers_of}
use Rattle.score.proofs.PairLaws.{numbers_long_lem}
use Rattle.state.specs.State.{View}
use Rattle.lent.specs.Places.{numbers_long, settings_long, call_long, pairs_place, settings_of, call_numbers, pairs_placed}

-- as many pair numbers as there were
pub pairs_long : (l : List ScenecutResult) (ps : List ℕ) → length l ≤ length ps → length (pairs_placed l ps) ≡ length ps
pairs_long l ps h = omega (arith, length-append (numbers_of l) (drop (length l) ps), numbers_long_lem l, length-drop (length l) ps)

-- the settings as they were, what a call changes, and what stands behind it
abbrev pub written : List ℕ → View → List ℕ → List ℕ
written ns s rest = take settings_long ns ++ call_numbers s ++ rest

module _ (ns : List ℕ) (s : View) (rest : List ℕ) (size : length ns ≡ numbers_long) where
  settings_long_lem : length (take settings_long ns) ≡ settings_long
  settings_long_lem = length-take-le settings_long ns (omega arith)

  front_long : length (take settings_long ns ++ call_numbers s) ≡ pairs_place
  front_long = omega (arith, length-append (take settings_long ns) (call_numbers s), settings_long_lem)

  pub written_long : length rest + pairs_place ≡ numbers_long → length (written ns s rest) ≡ numbers_long
  written_long h = omega (arith, length-append (take settings_long ns ++ call_numbers s) rest, front_long)

  in_front : (i : ℕ) → i < pairs_place → get_or (written ns s rest) i 0 ≡ get_or (take settings_long ns ++ call_numbers s) i 0
  in_front i h = get_or-append (take settings_long ns ++ call_numbers s) rest 0 i (omega (arith, front_long))

  -- the settings stay
  kept : (i : ℕ) → i < settings_long → get_or (written ns s rest) i 0 ≡ get_or ns i 0
  kept i h =
      in_front i (omega arith)
      ∙ get_or-append (take settings_long ns) (call_numbers s) 0 i (omega (arith, settings_long_lem))
      ∙ get_or-take settings_long ns i 0 h

  pub same_settings : settings_of (written ns s rest) ≡ settings_of ns
  same_settings =
      rw (kept 0 (omega arith), kept 1 (omega arith), kept 2 (omega arith), kept 3 (omega arith), kept 4 (omega arith), kept 5 (omega arith), kept 6 (omega arith))

  -- then comes what a call changes
  pub called : (i : ℕ) → i < call_long → get_or (written ns s rest) (settings_long + i) 0 ≡ get_or (call_numbers s) i 0
  called i h =
      in_front (settings_long + i) (omega arith)
      ∙ ap (λ (n : ℕ). get_or (take settings_long ns ++ call_numbers s) (n + i) 0) (sym settings_long_lem)
      ∙ get_or-append-add (take settings_long ns) (call_numbers s) i 0

  -- and then the rest
  pub behind : drop pairs_place (written ns s rest) ≡ rest
  behind = drop_at (take settings_long ns ++ call_numbers s) rest pairs_place front_long
