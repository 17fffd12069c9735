-- Document 02, L5: which pair each entry is, in every state that calls reach from a fresh detector. "In the deque numbers fall by one
-- from front to back, save that the entry from a first call's repeat equals the one behind it." The proof: proofs/Numbered.antt.
use Rattle.std.specs.Prelude.{◌≡◌, List, [], ◌∷◌, ◌++◌, Bool, true, false, not, ◌&&◌, cond, ℕ, zero, suc, ◌+◌, ◌-◌, ◌<◌, ltb, length, take, get_or}
use Rattle.settings.specs.declared.Settings.{Settings}
use Rattle.settings.specs.Settings.{lookahead_offset, is_none}
use Rattle.score.specs.Numbers.{numbers_of}
use Rattle.state.specs.State.{View, Call}
use Rattle.state.specs.Refusals.{state_fault}
use Rattle.detector.specs.Rules.{starts_ahead}
use Rattle.detector.specs.Histories.{Detector, History, last_kept, accepted_calls}

-- k pairs from pair n on, the newest first: n + k − 1 down to n
abbrev pub pairs_from : ℕ → ℕ → List ℕ
pairs_from n zero = []
pairs_from n (suc k) = (n + k) ∷ pairs_from n k

-- whether a first call scores an item twice. Rule 4: "if o > 0 and L > o + 1, score items 0 to o − 1. Otherwise score items 0 to L − 2 ..,
-- then set o = L − 2", which is the item that rule 5 then scores
abbrev pub repeats : Settings → Call → Bool
repeats g c = not (starts_ahead (lookahead_offset g) c.set_length)

-- the pair of that item: the repeat has the number of the item that it repeats
abbrev pub repeated_pair : Call → ℕ
repeated_pair c = c.number + (c.set_length - 2)

-- all pairs that are scored from a first call c on, the newest first, so many of them by later calls
abbrev pub scored_pairs : Settings → Call → ℕ → List ℕ
scored_pairs g c later =
    cond (repeats g c) (pairs_from (repeated_pair c) (later + 1) ++ pairs_from c.number (c.set_length - 1))
    (pairs_from c.number (later + suc (lookahead_offset g)))

-- the deque's numbers are the newest of these, and the front is o pairs ahead of the last call n that scored
pub record NewestPairs (g : Settings) (c : Call) (n : ℕ) (s : View) : Type 0 where
  pub later : ℕ
  pub some : 0 < length s.entries
  pub numbers : numbers_of s.entries ≡ take (length s.entries) (scored_pairs g c later)
  pub front : get_or (numbers_of s.entries) 0 0 ≡ n + s.offset

-- the last call with more than A frames, n before these calls. The others score nothing (rule 2), and after one of them no set is longer (8)
abbrev pub last_scoring : Settings → ℕ → List Call → ℕ
last_scoring g n [] = n
last_scoring g n (c ∷ cs) = last_scoring g (cond (ltb (lookahead_offset g) c.set_length) c.number n) cs

-- whether a first call scores. One with L ≤ A scores nothing, and no later one does, since no later set is longer; None mode never scores
abbrev pub first_scores : Settings → Call → Bool
first_scores g c = ltb (lookahead_offset g) c.set_length && not (is_none g)

-- the numbers in a state, by the accepted calls that led to it
abbrev pub NumberedBy : Settings → List Call → View → Type 0
NumberedBy g [] s = s.entries ≡ []
NumberedBy g (c ∷ cs) s =
    (first_scores g c ≡ true → NewestPairs g c (last_scoring g c.number cs) s) × (first_scores g c ≡ false → s.entries ≡ [])

-- of a detector that runs, whose states are read by `seen`: after every history, refused calls among it, the state has these numbers, and it
-- passes 11
abbrev pub AlwaysNumbered : (D : Detector) → (D.Kept → View) → Type 0
AlwaysNumbered D seen =
    (g : Settings) (h : History D g) → let s = seen (last_kept h) in
    NumberedBy g (accepted_calls h) s × (state_fault s ≡ 0)
