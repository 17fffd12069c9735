-- The backward walk, one entry at a time from a place on, and what a deque's backward cost walks over.
-- Assumes nothing.
use mathlib.Core.Path.{◌≡◌, refl, ap, ◌∙◌}
use mathlib.Core.Bool.{true, false, cond}
use mathlib.Core.List.{List, map}
use Prim.Native.Nat.{ℕ, ◌+◌, ◌≤◌, ◌<◌, min}
use native.Mathlib.Numerals.{add-one}
use lib.ListN.{length, take, drop, get_or, drop_of_length-le}
use lib.Seq.{drop-cons}
use lib.Ieee.{Float, binary64, sub, lt}
use Rattle.std.specs.List.{take-map}
use Rattle.std.proofs.lemmas.List.{take_min}
use Rattle.score.specs.declared.ScenecutResult.{ScenecutResult}
use Rattle.score.specs.Deque.{no_score}
use Rattle.score.specs.Scores.{zero_f, max_f, walk_back, backward_of}

abbrev pub costs : List ScenecutResult → List Float
costs l = map (λ (e : ScenecutResult). e.inter_cost) l

module _ (own least : Float) (l : List ScenecutResult) (i : ℕ) where
  pub walk_end : length l ≤ i → walk_back own least (costs (drop i l)) ≡ least
  unfolding walk_back
  walk_end h = rw (drop_of_length-le l h)

  module _ (h : i < length l) where
    abbrev difference : Float
    difference = sub binary64 own (get_or l i no_score).inter_cost

    pub walk_stop : lt difference zero_f ≡ true → walk_back own least (costs (drop i l)) ≡ zero_f
    unfolding walk_back
    walk_stop t = rw (drop-cons l i no_score h, t)

    pub walk_go : lt difference zero_f ≡ false → walk_back own least (costs (drop i l)) ≡ walk_back own (cond (lt difference least) difference least) (costs (drop (i + 1) l))
    unfolding walk_back
    walk_go t = rw (add-one, drop-cons l i no_score h, t)

-- the backward cost of a pair is the walk over the first o entries' inter costs
pub backward_walk : (o : ℕ) (own : Float) (l : List ScenecutResult) → backward_of o own l ≡ walk_back own max_f (take o (costs l))
unfolding backward_of
backward_walk o own l = refl

-- all of them, if there are fewer
pub backward_within : (o : ℕ) (own : Float) (l : List ScenecutResult) → backward_of o own l ≡ walk_back own max_f (costs (take (min o (length l)) l))
backward_within o own l =
    rw (take_min o l) (backward_walk o own l ∙ ap (walk_back own max_f) (take-map (λ (e : ScenecutResult). e.inter_cost) o l))
