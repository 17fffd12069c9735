-- Document 01, "The step": when the pair of entry o is a cut.
use Rattle.std.specs.Prelude.{List, Bool, ◌&&◌, ◌||◌, true, false, cond, ℕ, ◌+◌, eqb, leb, take, drop, get_or, Float}
use Rattle.std.specs.Float.Ieee.{le}
use Rattle.score.specs.declared.ScenecutResult.{ScenecutResult}
use Rattle.score.specs.Deque.{no_score}
use Rattle.score.specs.Search.{any_of, count_of}

-- "over (forward ≥ threshold)", and "over (backward ≥ threshold)"; a NaN on either side is not
abbrev pub over : Bool → ScenecutResult → Bool
over true e = le e.threshold e.forward_adjusted_cost
over false e = le e.threshold e.backward_adjusted_cost

-- "has importance ≥ 7 × depth / 8", which is t
abbrev pub reached : Float → ScenecutResult → Bool
reached t e = le t e.imp_block_cost

-- "r is 2 in Fast, 1 in Standard"
abbrev pub required_of : Bool → ℕ
required_of fast = cond fast 2 1

-- "no entry before o is over .. with the count of entries after o that are over .. either 0 or at least r; or none after o is over
-- and, before o, entry 0 alone is"
abbrev pub no_flash : Bool → ℕ → ℕ → Bool → Bool
no_flash fast before after first =
    (eqb before 0 && (eqb after 0 || leb (required_of fast) after)) || (eqb after 0 && (eqb before 1 && first))

-- "Cut exactly when some entry from o to the end has importance ≥ 7 × depth / 8, entry o has forward ≥ threshold, and: .."
unfoldable pub cut_of : Bool → Float → ℕ → List ScenecutResult → Bool
cut_of fast t o l =
    any_of (reached t) (drop o l)
    && (over true (get_or l o no_score)
    && no_flash fast (count_of (over true) (take o l)) (count_of (over false) (drop (o + 1) l)) (over true (get_or l 0 no_score)))
