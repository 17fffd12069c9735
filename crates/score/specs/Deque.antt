-- Document 01: "A score holds five f64 numbers, as `ScenecutResult`", and "`Vec` deque: a fixed array of 16 scores and a count";
-- document 02, L5: "The score record gains its pair number."
use Rattle.std.specs.Prelude.{List, cond, ℕ, ◌-◌, ltb, length, take, Float}
use Rattle.std.specs.Float.{nan}
use Rattle.score.specs.declared.ScenecutResult.{ScenecutResult}
use Rattle.score.specs.declared.ScoreDeque.{ScoreDeque}

-- a score, by its numbers in the order of `ScenecutResult`
abbrev pub score_from : ℕ → Float → Float → Float → Float → Float → ScenecutResult
score_from pair inter importance backward forward limit = record {
  pair_number = pair;
  inter_cost = inter;
  imp_block_cost = importance;
  backward_adjusted_cost = backward;
  forward_adjusted_cost = forward;
  threshold = limit;
}

-- what stands for a score that is not there
abbrev pub no_score : ScenecutResult
no_score = score_from 0 nan nan nan nan nan

-- the entries, front first: "slots past the count are no part of the state"
abbrev pub content : ScoreDeque → List ScenecutResult
content d = take d.count d.entries

-- what a function that returns a deque promises of it: its entries, and that its count is theirs
pub record Held : Type 0 where
  pub entries : List ScenecutResult
  pub count : ℕ

abbrev pub held : ScoreDeque → Held
held d = record { entries = content d; count = d.count }

abbrev pub holding : List ScenecutResult → Held
holding l = record { entries = l; count = length l }

-- rule 7: with more than `most` entries, "drop one, the last"
abbrev pub trimmed_to : ℕ → List ScenecutResult → List ScenecutResult
trimmed_to most l = cond (ltb most (length l)) (take (length l - 1) l) l
