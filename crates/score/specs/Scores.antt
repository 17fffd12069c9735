-- Document 01, "The step": how a pair is scored. "Float arithmetic is IEEE 754 binary64, each operation rounded once in the order written."
use Rattle.std.specs.Prelude.{List, [], ◌∷◌, map, Bool, true, false, ◌||◌, cond, ℕ, zero, suc, eqb, take, Float}
use Rattle.std.specs.Float.{binary64}
use Rattle.std.specs.Float.Ieee.{of_bits, sub, lt}
use Rattle.score.specs.declared.ScenecutResult.{ScenecutResult}
use Rattle.score.specs.declared.Measure.{Measure}
use Rattle.score.specs.Deque.{score_from}

-- 0, which is +0.0, and f64::MAX
abbrev pub zero_f : Float
zero_f = of_bits binary64 0

abbrev pub max_f : Float
max_f = of_bits binary64 0x7fef_ffff_ffff_ffff

-- "Fast: all four costs are delta and the threshold is 18 × depth / 8", which is `level`
abbrev pub fast_score : Float → ℕ → Float → ScenecutResult
fast_score level pair delta = score_from pair delta delta delta delta level

-- "Standard: adjusted costs start at 0."
abbrev pub standard_score : ℕ → Measure → Float → ScenecutResult
standard_score pair m back = score_from pair m.inter m.importance back zero_f m.threshold

-- "the least of f64::MAX and (own inter − other's inter) .. front first, the nearer pair's kept on a tie, where the walk stops at the
-- first difference below zero with 0": over the others' inter costs, with the least so far
unfoldable pub walk_back : Float → Float → List Float → Float
walk_back own least [] = least
walk_back own least (other ∷ others) =
    let difference = sub binary64 own other in
    cond (lt difference zero_f) zero_f (walk_back own (cond (lt difference least) difference least) others)

-- ".. over the first o entries of the deque before it (all, if fewer)"
unfoldable pub backward_of : ℕ → Float → List ScenecutResult → Float
backward_of o own l = walk_back own max_f (take o (map (λ e. e.inter_cost) l))

-- "If o > 0, backward becomes 0 for pair 1; else the least .."; it started at 0
abbrev pub back_of : ℕ → ℕ → Float → List ScenecutResult → Float
back_of o pair own l = cond (eqb o 0 || eqb pair 1) zero_f (backward_of o own l)

-- "a forward cost below 0 becomes 0"
abbrev pub clamp_of : Float → Float
clamp_of x = cond (lt x zero_f) zero_f x

-- an entry "takes (its inter − new inter) if it is entry 0 or that is less than its forward cost"
abbrev pub forward_of : Bool → Float → Float → Float → Float
forward_of first new own forward =
    let difference = sub binary64 own new in clamp_of (cond (first || lt difference forward) difference forward)

abbrev pub with_forward : Bool → Float → ScenecutResult → ScenecutResult
with_forward first new e =
    score_from e.pair_number e.inter_cost e.imp_block_cost e.backward_adjusted_cost
    (forward_of first new e.inter_cost e.forward_adjusted_cost) e.threshold

-- "Then each of these first entries takes ..": n entries from a place on, which is entry 0 or a later one
abbrev pub updated_from : Bool → ℕ → Float → List ScenecutResult → List ScenecutResult
updated_from first zero new l = l
updated_from first (suc n) new [] = []
updated_from first (suc n) new (e ∷ es) = with_forward first new e ∷ updated_from false n new es

abbrev pub updated_of : ℕ → Float → List ScenecutResult → List ScenecutResult
updated_of o new l = updated_from true o new l

-- "Scoring puts the new entry in front."; document 02, L5: it says "which pair it is"
abbrev pub score_of : Bool → Float → ℕ → ℕ → Measure → List ScenecutResult → List ScenecutResult
score_of true level o pair m l = fast_score level pair m.inter ∷ l
score_of false level o pair m l = standard_score pair m (back_of o pair m.inter l) ∷ updated_of o m.inter l
