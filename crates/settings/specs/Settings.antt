-- Document 01, "The step", rule 1, and the thresholds: "The thresholds and sizes that belong to the settings record are its constants."
use Rattle.std.specs.Prelude.{ℕ, Bool, false, cond, not, pos, ◌==◌, nat_le, Float}
use Rattle.std.specs.Float.{binary64}
use Rattle.std.specs.Float.Ieee.{of_int, mul, div}
use Rattle.answer.specs.Refusal.{◌or_else◌}
use Rattle.answer.specs.Answer.{Answer, gives, refused}
use Rattle.plane.specs.Planes.{depth_fault}
use Rattle.scale.specs.Scale.{mode_fast, size_fault, factor_answer}
use Rattle.settings.specs.declared.Settings.{Settings}

-- the room for entries: "a fixed array of 16 scores"
abbrev pub room : ℕ
room = 16

-- the most frames of a set: refusal 8's "L above 16". A first set of so many leaves as many scores, since one item is scored twice
abbrev pub set_limit : ℕ
set_limit = room

-- the 5 of rule 1, and of rule 7's "5 + A"
abbrev pub normal_lookahead : ℕ
normal_lookahead = 5

-- 1. "A (lookahead offset) is 5 if the lookahead distance is at least 5, else 0."
abbrev pub lookahead_offset : Settings → ℕ
lookahead_offset g = cond (nat_le normal_lookahead g.lookahead_distance) normal_lookahead 0

-- "0 None, 1 Fast, 2 Standard"
abbrev pub is_none : Settings → Bool
is_none g = g.mode == 0

abbrev pub is_fast : Settings → Bool
is_fast g = g.mode == mode_fast

-- "When Fast is scaled": the scale rule gives a factor other than 1
abbrev pub scales : Answer ℕ → Bool
scales (gives factor) = not (factor == 1)
scales (refused f) = false

unfoldable pub is_scaled : Settings → Bool
is_scaled g = scales (factor_answer g.width g.height g.mode)

-- "18 × depth / 8": a threshold at the depth of the settings, each operation rounded once in the order written
abbrev pub scaled_to : Settings → Float → Float
scaled_to g base = div binary64 (mul binary64 base (of_int binary64 (pos g.bit_depth))) (of_int binary64 (pos 8))

abbrev pub at_depth : ℕ → Settings → Float
at_depth k g = scaled_to g (of_int binary64 (pos k))

unfoldable pub fast_threshold : Settings → Float
fast_threshold g = at_depth 18 g

-- "7 × depth / 8"
unfoldable pub importance_threshold : Settings → Float
importance_threshold g = at_depth 7 g

-- 6, then 5: the settings that a fresh detector refuses, and that 11 finds in a state
unfoldable pub settings_fault : Settings → ℕ
settings_fault g = size_fault g.width g.height g.mode or_else depth_fault g.bit_depth
