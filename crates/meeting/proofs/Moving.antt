-- The calls that move the release number: no accepted set grows, so they are a run's first ones, and their sets are full.
-- Assumes nothing.
use mathlib.Core.Path.{◌≡◌, refl, sym, ◌∙◌, ap}
use mathlib.Core.Bool.{Bool, true, false, not, true≢false}
use mathlib.Core.List.{List, [], ◌∷◌, map, nil≢cons, head-eq_of_cons-eq, tail-eq_of_cons-eq}
use Prim.Native.Nat.{ℕ, zero, suc, ◌+◌, ◌-◌, ◌≤◌, ◌<◌}
use native.Mathlib.Omega.{arith}
use borrow.Author.Tests.{leb-true, not-true}
use lib.Dec.{eqb, leb}
use lib.ListN.{length, take, drop}
use lib.Seq.{take-nil, drop-nil}
use Rattle.settings.specs.declared.Settings.{Settings}
use Rattle.settings.specs.Settings.{normal_lookahead, lookahead_offset, is_none}
use Rattle.state.specs.State.{Call}
use Rattle.state.proofs.Tests.{and_both}
use Rattle.detector.specs.Rules.{release_length, releases}
use Rattle.detector.proofs.Release.{moves, moving, longer}
use Rattle.meeting.specs.Calls.{as_read, full_set, FullSets}
use Rattle.meeting.proofs.Newest.{InTurn}

-- ---- the settings under which a call moves the release number

pub settings_move : (g : Settings) (long : ℕ) → releases g long ≡ true → (is_none g ≡ false) × (normal_lookahead ≤ g.lookahead_distance)
settings_move g long e = by (leb normal_lookahead g.lookahead_distance) refl
  where
    both : (eqb (lookahead_offset g) normal_lookahead ≡ true) × (not (is_none g) ≡ true)
    both = and_both (eqb (lookahead_offset g) normal_lookahead) _ (and_both (leb release_length long) _ e).1

    by : (b : Bool) → leb normal_lookahead g.lookahead_distance ≡ b → (is_none g ≡ false) × (normal_lookahead ≤ g.lookahead_distance)
    by true t = (not-true (is_none g) both.1, leb-true _ _ t)
    by false t = absurd (true≢false (sym both.0 ∙ rw t))

module _ (g : Settings) where
  pub moving_few : (cs : List Call) → moving g cs ≤ length cs
  unfolding moving
  moving_few [] = omega arith
  moving_few (c ∷ cs) = by (releases g c.set_length) refl (moving_few cs)
    where
      by : (b : Bool) → releases g c.set_length ≡ b → moving g cs ≤ length cs → moves g c + moving g cs ≤ suc (length cs)
      by true e h = rw e (omega arith)
      by false e h = rw e (omega arith)

  -- behind a call that does not move it, none does
  none_moves : (b : Call) (cs : List Call) → InTurn b cs → releases g b.set_length ≡ false → moving g cs ≡ 0
  unfolding moving
  none_moves b [] w e = refl
  none_moves b (c ∷ cs) w e = by (releases g c.set_length) refl (none_moves c cs w.1)
    where
      by : (x : Bool) → releases g c.set_length ≡ x → (releases g c.set_length ≡ false → moving g cs ≡ 0) → moves g c + moving g cs ≡ 0
      by true t rest = absurd (true≢false (sym (longer g c.set_length b.set_length w.0.1 t) ∙ e))
      by false t rest = rw (t, rest t)

  -- so where one does, the first does
  pub first_moves : (b : Call) (cs : List Call) → InTurn b cs → 0 < moving g (b ∷ cs) → releases g b.set_length ≡ true
  unfolding moving
  first_moves b cs w h = by (releases g b.set_length) refl
    where
      by : (x : Bool) → releases g b.set_length ≡ x → releases g b.set_length ≡ true
      by true t = t
      by false t =
          let none : moves g b + moving g cs ≡ 0 = rw (t, none_moves b cs w t) in
          absurd (omega arith)

  -- the first ones have full sets
  full : (b : Call) (cs : List Call) → InTurn b cs → 0 < moving g (b ∷ cs) → full_set ≤ b.set_length
  full b cs w h =
      omega (arith, leb-true release_length b.set_length (and_both (leb release_length b.set_length) _ (first_moves b cs w h)).0)

  pub first_full : (n : ℕ) (b : Call) (cs : List Call) → InTurn b cs → n ≤ moving g (b ∷ cs) → FullSets (take n (b ∷ cs))
  unfolding moving
  first_full zero b cs w h = tt
  first_full (suc n) b [] w h = (full b [] w (omega arith), rw (take-nil {A = Call} n) tt)
  first_full (suc n) b (c ∷ cs) w h =
      let rest : suc n ≤ 1 + moving g (c ∷ cs) = rw (first_moves b (c ∷ cs) w (omega arith)) at h in
      (full b (c ∷ cs) w (omega arith), first_full n c cs w.1 (omega arith))

  -- of a run's later calls as many as are left
  pub moving_drop : (d : ℕ) (b : Call) (cs : List Call) → InTurn b cs → moving g (drop d (b ∷ cs)) ≡ moving g (b ∷ cs) - d
  unfolding moving
  moving_drop zero b cs w = omega arith
  moving_drop (suc d) b [] w =
      let none : drop d [] ≡ [] = drop-nil {A = Call} d in
      ap (moving g) none ∙ omega (arith, moving_few (b ∷ []))
  moving_drop (suc d) b (c ∷ cs) w = by (releases g b.set_length) refl (moving_drop d c cs w.1)
    where
      by : (x : Bool) → releases g b.set_length ≡ x → moving g (drop d (c ∷ cs)) ≡ moving g (c ∷ cs) - d
          → moving g (drop d (c ∷ cs)) ≡ moves g b + moving g (c ∷ cs) - suc d
      by true t rest = rw t (omega arith)
      by false t rest = rw t (omega (arith, none_moves b (c ∷ cs) w t))

  -- calls that are the same as read
  pub same_moving : (cs ds : List Call) → map (as_read g) cs ≡ map (as_read g) ds → moving g cs ≡ moving g ds
  unfolding moving
  same_moving [] [] e = refl
  same_moving [] (d ∷ ds) e = absurd (nil≢cons e)
  same_moving (c ∷ cs) [] e = absurd (nil≢cons (sym e))
  same_moving (c ∷ cs) (d ∷ ds) e =
      let size : c.set_length ≡ d.set_length = ap (λ (x : Call). x.set_length) (head-eq_of_cons-eq e) in
      rw (size, same_moving cs ds (tail-eq_of_cons-eq e))
