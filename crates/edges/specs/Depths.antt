-- Document 02, L4: its values at each depth, proved as the starred ones are. "The flat prediction is 128 times 2 to the power depth − 8.
-- Thresholds at 10 bits are 22.5 and 8.75, at 12 bits 27 and 10.5."
use Rattle.std.specs.Prelude.{List, [], ◌∷◌, true, false, ℕ, Float}
use Rattle.std.specs.Float.{binary64}
use Rattle.std.specs.Float.Ieee.{round}
use Rattle.plane.specs.Planes.{Word, byte, deep, depth_fault, word_fault, sample_fault}
use Rattle.scale.specs.Scale.{mode_standard}
use Rattle.satd.specs.Satd.{satd_of}
use Rattle.importance.specs.Importance.{importance_of}
use Rattle.intra.specs.Fill.{flat_sample}
use Rattle.settings.specs.declared.Settings.{Settings}
use Rattle.settings.specs.Settings.{fast_threshold, importance_threshold}
use Rattle.score.specs.Cut.{reached}
use Rattle.score.specs.Deque.{score_from}
use Rattle.edges.specs.Rows.{Value, number, truth, fault, Row, real_of, of_answer}
use Rattle.edges.specs.Starred.{◌is◌, real, block, flat, first}

abbrev settings : ℕ → Settings
settings depth = record {
  width = 64;
  height = 64;
  bit_depth = depth;
  lookahead_distance = 5;
  mode = mode_standard;
  min_key_frame_interval = 0;
  max_key_frame_interval = 100;
}

-- n quarters
abbrev quarters : ℕ → Float
quarters n = round binary64 false n 4

-- whether the importance of a block of 0 against one of x is reached at a depth
abbrev is_reached : ℕ → ℕ → Value
is_reached depth x =
    of_answer (λ (y : Float). truth (reached (importance_threshold (settings depth)) (score_from 0 y y y y y))) (importance_of deep depth block (flat 0) block (flat x))

-- the SATD of a block against the flat sample of a depth
abbrev satd : ℕ → List ℕ → Value
satd depth samples = of_answer number (satd_of samples (flat (flat_sample depth)))

-- the refusal of one block of x that has one sample y
abbrev refusal_of : Word → ℕ → ℕ → ℕ → Value
refusal_of word depth y x = fault (sample_fault word depth block (first y x))

unfoldable pub depths : List Row
depths =
    -- Fast mode's threshold
    (real_of (fast_threshold (settings 8)) is real_of (real 18))
    ∷ (real_of (fast_threshold (settings 10)) is real_of (quarters 90))
    ∷ (real_of (fast_threshold (settings 12)) is real_of (real 27))
    -- the importance that a cut needs
    ∷ (real_of (importance_threshold (settings 8)) is real_of (real 7))
    ∷ (real_of (importance_threshold (settings 10)) is real_of (quarters 35))
    ∷ (real_of (importance_threshold (settings 12)) is real_of (quarters 42))
    ∷ (is_reached 10 9 is truth true)
    ∷ (is_reached 10 8 is truth false)
    ∷ (is_reached 12 11 is truth true)
    ∷ (is_reached 12 10 is truth false)
    -- the flat prediction, and a block against it: all flat, all 0, all of the largest sample
    ∷ (number (flat_sample 8) is number 128)
    ∷ (number (flat_sample 10) is number 512)
    ∷ (number (flat_sample 12) is number 2048)
    ∷ (satd 10 (flat 512) is number 0)
    ∷ (satd 10 (flat 0) is number 4096)
    ∷ (satd 10 (flat 1023) is number 4088)
    ∷ (satd 12 (flat 0) is number 16384)
    ∷ (satd 12 (flat 4095) is number 16376)
    -- 5: a depth that no word has, and one that does not suit the word
    ∷ (fault (depth_fault 10) is fault 0)
    ∷ (fault (depth_fault 12) is fault 0)
    ∷ (fault (depth_fault 9) is fault 5)
    ∷ (fault (depth_fault 16) is fault 5)
    ∷ (fault (word_fault byte 12) is fault 5)
    ∷ (fault (word_fault deep 8) is fault 5)
    -- 16: "at or above 2 to the depth"
    ∷ (refusal_of deep 10 1023 0 is fault 0)
    ∷ (refusal_of deep 10 1024 0 is fault 16)
    ∷ (refusal_of deep 12 4095 0 is fault 0)
    ∷ (refusal_of deep 12 4096 0 is fault 16)
    ∷ []
