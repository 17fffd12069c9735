-- A stage of four numbers: it looks at these alone, doubles their size at most, and done twice it is their transform. So two stages of all rows
-- of a list are the transforms of its rows. Assumes nothing.
use mathlib.Core.Path.{◌≡◌, sym, ap, ◌∙◌}
use mathlib.Core.List.{List}
use Prim.Native.Nat.{ℕ, zero, suc, ◌+◌, ◌*◌, ◌/◌, ◌%◌, ◌≤◌, ◌<◌}
use native.Mathlib.Omega.{arith}
use lib.IntN.{ℤ, pos, nat_abs}
use lib.ListN.{length}
use lib.Seq.{ext_get_or}
use Rattle.hadamard.specs.Transform.{output}
use Rattle.hadamard.specs.Steps.{four_of, nth, stage_of, AllWithin, line_entry, all_lined_by, all_lined, LinesIn}
use Rattle.hadamard.proofs.SignedLaws.{abs_add, abs_sub}
use Rattle.hadamard.proofs.Halves.{output_4, output_ext}
use Rattle.hadamard.proofs.FourLaws.{nth_four, four_within}
use Rattle.hadamard.proofs.Places.{at_place, length_lined, lined_done}

stage_ext : (f g : ℕ → ℤ) (k : ℕ) → ((j : ℕ) → j < 4 → f j ≡ g j) → stage_of f k ≡ stage_of g k
stage_ext f g k e = rw (e 0 (omega arith), e 1 (omega arith), e 2 (omega arith), e 3 (omega arith))

pub stage_within : (m : ℕ) (f : ℕ → ℤ) → AllWithin m (four_of f) → AllWithin (2 * m) (four_of (stage_of f))
stage_within m f h = record { most = each }
  where
    each : (k : ℕ) → nat_abs (nth (four_of (stage_of f)) k) ≤ 2 * m
    each zero = omega (arith, abs_add (f 0) (f 1), h.most 0, h.most 1)
    each (suc zero) = omega (arith, abs_add (f 2) (f 3), h.most 2, h.most 3)
    each (suc (suc zero)) = omega (arith, abs_sub (f 0) (f 1), h.most 0, h.most 1)
    each (suc (suc (suc zero))) = omega (arith, abs_sub (f 2) (f 3), h.most 2, h.most 3)
    each (suc (suc (suc (suc k)))) = omega arith

pub two_stages : (f : ℕ → ℤ) → four_of (stage_of (stage_of f)) ≡ four_of (output 4 f)
two_stages f = sym (output_4 f)

-- ---- m rows of four
abbrev staged : ℕ → List ℤ → List ℤ
staged = all_lined_by stage_of 4 4 1

module _ (m q : ℕ) (l : List ℤ) (size : length l ≡ m * 4) (p : LinesIn 4 m 4 1 q l) where
  -- row a
  abbrev row : ℕ → ℕ → ℤ
  row a = line_entry l (a * 4) 1

  once : (a k : ℕ) → a < m → k < 4 → line_entry (staged m l) (a * 4) 1 k ≡ stage_of (row a) k
  once a k a< k< = lined_done stage_of 4 4 1 m q l p stage_ext m a k (omega arith) a< k<

  pub stage_in : LinesIn 4 m 4 1 (2 * q) (all_lined_by stage_of 4 4 1 m l)
  stage_in =
      record {
        some = p.some;
        own = p.own;
        room = λ a i a< i<. omega (arith, p.room a i a< i<, length_lined stage_of 4 4 1 m l);
        most = λ a i a< i<. rw (once a i a< i<) ((stage_within q (row a) (four_within q (row a) (λ j j<. p.most a j a< j<))).most i);
      }

  twice : (a k : ℕ) → a < m → k < 4 → line_entry (staged m (staged m l)) (a * 4) 1 k ≡ line_entry (all_lined 4 4 1 m l) (a * 4) 1 k
  twice a k a< k< =
      lined_done stage_of 4 4 1 m (2 * q) (staged m l) stage_in stage_ext m a k (omega arith) a< k<
      ∙ stage_ext (line_entry (staged m l) (a * 4) 1) (stage_of (row a)) k (λ j j<. once a j a< j<)
      ∙ ap (λ (x : List ℤ). nth x k) (two_stages (row a))
      ∙ nth_four (output 4 (row a)) k k<
      ∙ sym (lined_done (output 4) 4 4 1 m q l p (output_ext 4) m a k (omega arith) a< k<)

  pub rows_twice : all_lined_by stage_of 4 4 1 m (all_lined_by stage_of 4 4 1 m l) ≡ all_lined 4 4 1 m l
  rows_twice =
      let long : length (staged m (staged m l)) ≡ length l = length_lined stage_of 4 4 1 m (staged m l) ∙ length_lined stage_of 4 4 1 m l in
      ext_get_or (pos 0) (staged m (staged m l)) (all_lined 4 4 1 m l) (long ∙ sym (length_lined (output 4) 4 4 1 m l))
      (λ t t<.
      let place : t ≡ t / 4 * 4 + t % 4 * 1 = omega arith in
      at_place (staged m (staged m l)) t (t / 4 * 4 + t % 4 * 1) place
      ∙ twice (t / 4) (t % 4) (omega arith) (omega arith)
      ∙ sym (at_place (all_lined 4 4 1 m l) t (t / 4 * 4 + t % 4 * 1) place))
