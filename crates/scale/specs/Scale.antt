-- Document 01, "Plane difference and scale": the scale by the smaller side; and refusal 6.
use Rattle.std.specs.Prelude.{ℕ, ◌/◌, ◌||◌, cond, ltb, leb, eqb, Result, Ok, Err}
use Rattle.answer.specs.Refusal.{number_of, refusal}
use Rattle.answer.specs.Answer.{Answer, gives, refused, answered}
use Rattle.plane.specs.Planes.{bad_side}
use Rattle.answer.specs.declared.Refusal.{Refusal}
use Rattle.scale.specs.declared.Sides.{Sides}

-- "mode not 0 None, 1 Fast, 2 Standard"
abbrev pub mode_fast : ℕ
mode_fast = 1

abbrev pub mode_standard : ℕ
mode_standard = 2

-- 6: "a resolution side outside 1 to 8,192, or mode not 0 None, 1 Fast, 2 Standard"
unfoldable pub size_fault : ℕ → ℕ → ℕ → ℕ
size_fault width height mode = refusal 6 (bad_side width || bad_side height || ltb mode_standard mode)

-- "The scale by the smaller side": the factor of the table, 1 for none
unfoldable pub factor_by : ℕ → ℕ
factor_by edge =
    cond (leb edge 240) 1
    (cond (leb edge 480) 2
    (cond (leb edge 720) 4
    (cond (leb edge 1080) 8
    (cond (leb edge 1600) 16
    32))))

-- "the smaller side"
abbrev pub small_edge : ℕ → ℕ → ℕ
small_edge width height = cond (ltb width height) width height

-- "Fast mode only"
unfoldable pub scale_of : ℕ → ℕ → ℕ → ℕ
scale_of width height mode = cond (eqb mode mode_fast) (factor_by (small_edge width height)) 1

abbrev pub factor_answer : ℕ → ℕ → ℕ → Answer ℕ
factor_answer width height mode = answered (size_fault width height mode) (scale_of width height mode)

-- "Reduced sides are the sides divided by the factor, rounded down."
abbrev pub reduced_sides : ℕ → ℕ → ℕ → Answer (ℕ × ℕ)
reduced_sides width height mode =
    answered (size_fault width height mode) (width / scale_of width height mode, height / scale_of width height mode)

-- the two sides of a result, or the number of its refusal
abbrev pub sides_answer : Result Sides Refusal → Answer (ℕ × ℕ)
sides_answer (Ok s) = gives (s.width, s.height)
sides_answer (Err e) = refused (number_of e)
