-- Document 01, "Refusal numbers" 10, with document 02's L7: the numbers that a list may not hold.
use Rattle.std.specs.Prelude.{Bool, not, ◌&&◌, Float}
use Rattle.std.specs.Float.Ieee.{le}
use Rattle.score.specs.declared.ScenecutResult.{ScenecutResult}
use Rattle.score.specs.Scores.{zero_f, max_f}

-- "NaN, infinite or below 0", of all three lists: "10 now covers NaN everywhere in a read list"
abbrev pub forbidden : Float → Bool
forbidden x = not (le zero_f x && le x max_f)

-- 11: "an entry whose inter cost 10 forbids". Its importance and its threshold may be NaNs: states from before L7 have them.
abbrev pub forbidden_entry : ScenecutResult → Bool
forbidden_entry e = forbidden e.inter_cost
