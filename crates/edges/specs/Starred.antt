-- Document 01, "Values at the edges": "Starred ones are proved. In the lookahead 4 cases the distance lies at or above min and below max."
-- Each row: what the definitions give that the code is proved equal to, and what document 01 says.
use Rattle.std.specs.Prelude.{List, [], ◌∷◌, true, false, ℕ, ◌*◌, pos, length, drop, get_or, replicate, Float}
use Rattle.std.specs.Float.{binary64}
use Rattle.std.specs.Float.Ieee.{of_int}
use Rattle.answer.specs.Answer.{Answer}
use Rattle.plane.specs.Blocks.{block_side}
use Rattle.plane.specs.Planes.{byte}
use Rattle.plane.specs.declared.Plane.{Plane}
use Rattle.scale.specs.Scale.{mode_fast, mode_standard, factor_answer}
use Rattle.satd.specs.Satd.{satd_of}
use Rattle.importance.specs.Importance.{block_sum, mean, importance_of}
use Rattle.settings.specs.declared.Settings.{Settings}
use Rattle.settings.specs.Settings.{importance_threshold}
use Rattle.score.specs.declared.ScenecutResult.{ScenecutResult}
use Rattle.score.specs.Deque.{no_score, score_from}
use Rattle.score.specs.Search.{count_of}
use Rattle.score.specs.Cut.{over, reached}
use Rattle.state.specs.State.{call}
use Rattle.detector.specs.Fresh.{fresh_view}
use Rattle.detector.specs.Step.{Outcome, step_of}
use Rattle.edges.specs.Rows.{Value, number, truth, Row, real_of, of_answer, cut_value, score_value}

infix 10 ◌is◌
abbrev pub ◌is◌ : Value → Value → Row
given is said = record { given = given; said = said }

-- ---- blocks

abbrev pub real : ℕ → Float
real n = of_int binary64 (pos n)

abbrev depth : ℕ
depth = 8

-- one block, alone in its plane
abbrev pub block : Plane
block = record { width = block_side; height = block_side; stride = block_side; origin = 0 }

abbrev pub flat : ℕ → List ℕ
flat x = replicate (block_side * block_side) x

-- x first, and y for every other sample
abbrev pub first : ℕ → ℕ → List ℕ
first x y = x ∷ replicate 63 y

abbrev small_edge : ℕ → Value
small_edge edge = of_answer number (factor_answer edge 4000 mode_fast)

abbrev importance : ℕ → Answer Float
importance other = importance_of byte depth block (flat 0) block (flat other)

abbrev rounded_mean : ℕ → Value
rounded_mean sum = number (mean (block_sum block (first sum 0) 0 0))

abbrev satd : List ℕ → Value
satd samples = of_answer number (satd_of samples (flat 128))

-- ---- the step

abbrev settings : ℕ → ℕ → ℕ → ℕ → Settings
settings ahead mode least most = record {
  width = 64;
  height = 64;
  bit_depth = depth;
  lookahead_distance = ahead;
  mode = mode;
  min_key_frame_interval = least;
  max_key_frame_interval = most;
}

abbrev is_reached : Answer Float → Value
is_reached = of_answer (λ (x : Float). truth (reached (importance_threshold (settings 4 mode_standard 0 100)) (score_from 0 x x x x x)))

-- None mode, lookahead 0, L 1, min 5, max 3
abbrev none_at : ℕ → Outcome
none_at keyframe = step_of (fresh_view (settings 0 0 5 3)) (call 1 9 keyframe [] [] [])

-- lookahead 4, Standard, L 2, inter 1000, importance 50
abbrev standard_at : ℕ → Outcome
standard_at threshold = step_of (fresh_view (settings 4 mode_standard 0 100)) (call 2 5 4 (real 1000 ∷ []) (real 50 ∷ []) (real threshold ∷ []))

-- lookahead 4, Fast unscaled, first call, L 2, delta 20
abbrev fast_once : Outcome
fast_once = step_of (fresh_view (settings 4 mode_fast 0 100)) (call 2 5 4 (real 20 ∷ []) [] [])

-- ---- the table

unfoldable pub starred : List Row
starred =
    -- "Small edge 240 none", which is 1; "1600 gives 16", "1601 gives 32"
    (small_edge 240 is number 1)
    ∷ (small_edge 1600 is number 16)
    ∷ (small_edge 1601 is number 32)
    -- "Block of 0 against block of 7: importance 7, reached. Against 6: not."
    ∷ (of_answer real_of (importance 7) is real_of (real 7))
    ∷ (is_reached (importance 7) is truth true)
    ∷ (is_reached (importance 6) is truth false)
    -- "Block sum 31 rounds to 0, 32 to 1."
    ∷ (rounded_mean 31 is number 0)
    ∷ (rounded_mean 32 is number 1)
    -- "Block all 128: SATD 0. All 0: 1,024. All 255: 1,016. One 129 among 128: 8."
    ∷ (satd (flat 128) is number 0)
    ∷ (satd (flat 0) is number 1024)
    ∷ (satd (flat 255) is number 1016)
    ∷ (satd (first 129 128) is number 8)
    -- "None mode, lookahead 0, L 1, min 5, max 3: distance 4 no cut, distance 5 cut."
    ∷ (cut_value (none_at 5).answer is truth false)
    ∷ (cut_value (none_at 4).answer is truth true)
    -- "Lookahead 4, Standard, L 2, inter 1000, importance 50, threshold 10: forward stays 0, no cut. Threshold 0: cut."
    ∷ (score_value (λ (e : ScenecutResult). e.forward_adjusted_cost) (standard_at 10).answer is real_of (real 0))
    ∷ (cut_value (standard_at 10).answer is truth false)
    ∷ (cut_value (standard_at 0).answer is truth true)
    -- "Lookahead 4, Fast unscaled, first call, L 2, delta 20: the pair stands twice, one over behind, no cut."
    ∷ (number (length fast_once.state.entries) is number 2)
    ∷ (real_of (get_or fast_once.state.entries 0 no_score).inter_cost is real_of (real 20))
    ∷ (real_of (get_or fast_once.state.entries 1 no_score).inter_cost is real_of (real 20))
    ∷ (number (count_of (over false) (drop 1 fast_once.state.entries)) is number 1)
    ∷ (cut_value fast_once.answer is truth false)
    ∷ []
