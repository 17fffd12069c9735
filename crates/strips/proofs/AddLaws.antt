-- What a strip answers and leaves: refused in order, or taken. Assumes nothing.
use mathlib.Core.Bool.{Bool, false, ◌||◌}
use mathlib.Core.List.{List}
use mathlib.Core.Path.{◌≡◌, sym, ap, ◌∙◌}
use Prim.Native.Nat.{ℕ, ◌+◌, ◌*◌, ◌≤◌, ◌<◌, ◌^◌}
use native.Mathlib.Decide.{dec_lt}
use native.Mathlib.Omega.{arith}
use lib.ListN.{length, get_or}
use Rattle.answer.specs.Answer.{refused}
use Rattle.answer.specs.Refusal.{refusal}
use Rattle.answer.proofs.Laws.{or_given, or_later, or_none, passed, answer_refused, lent_written, lent_kept}
use Rattle.plane.specs.Planes.{Word, max_side, word_fault, too_large}
use Rattle.plane.specs.declared.Plane.{Plane}
use Rattle.plane.proofs.SampleLaws.{pair_fault_is}
use Rattle.sad.specs.Difference.{plane_sad}
use Rattle.sad.proofs.SadLaws.{sad_most}
use Rattle.strips.specs.declared.carry.Carry.{Carry}
use Rattle.strips.specs.Carry.{carry_by, carry_of, carry_numbers, blocks_in, carry_fault}
use Rattle.strips.specs.Needs.{Taken, held}
use Rattle.strips.specs.Rows.{Strip, Held, held_rows}
use Rattle.strips.proofs.RowLaws.{nothing}
use Rattle.strips.proofs.CarryLaws.{fit, carry_passed, blocks_most}
use Rattle.strips.proofs.ShapeLaws.{shapes_pass, taken_known}
use Rattle.strips.specs.Strips.{Kept, kept, shape_fault, add_fault, add_of, add_after, held_after, carry_after, end_fault}

-- the difference of strips that are not refused is small
pub difference_small : (word : Word) (c : Carry) (p : Plane) (a : List ℕ) (q : Plane) (b : List ℕ) (room costs : ℕ)
    → Taken word c p (length a) q (length b) room costs → 0 ≡ refusal 16 (too_large c.depth p a || too_large c.depth q b)
    → (k : ℕ) → k < 2 ^ 16 → ((i : ℕ) → get_or a i 0 ≤ k) → ((i : ℕ) → get_or b i 0 ≤ k) → plane_sad p a q b < 2 ^ 42
difference_small word c p a q b room costs t none k small l m = go (dec_lt 0 p.height)
  where
    go : Dec (0 < p.height) → plane_sad p a q b < 2 ^ 42
    go (yes some) =
        let shapes = shapes_pass word c p (length a) q (length b) room costs t some in
        sad_most k a b l m word c.depth p q small (sym (none ∙ pair_fault_is word c.depth p a q b (sym shapes)))
    go (no h) = omega (arith, nothing p a q b (omega arith))

module _ (word : Word) (k : Kept) (s : Strip) where
  -- where a refusal applies, it is the answer, and nothing is changed
  abbrev pub Refused : ℕ → Type 0
  Refused r = (refused r ≡ add_of word k s) × (k ≡ add_after word k s)

  refused_by : (r : ℕ) → r ≡ add_fault word k s → (r ≡ 0 → ⊥) → Refused r
  refused_by r e h = (answer_refused r _ _ e h, lent_kept r _ _ _ e h)

  -- 11
  pub carry_refused : (r : ℕ) → r ≡ carry_fault k.carry → (r ≡ 0 → ⊥) → Refused r
  unfolding add_fault
  carry_refused r e h = refused_by r (or_given r _ _ e h) h

  -- by the shapes, of the carry as it was read
  abbrev shapes : ℕ → Carry → ℕ
  shapes w c = shape_fault w c s.first (length s.a) s.second (length s.b) (length k.room) (length k.costs)

  shapes_are : (w : ℕ) (c : Carry) → c ≡ carry_of k.carry → w ≡ word_fault word c.depth → shapes w c ≡ shapes (word_fault word (carry_of k.carry).depth) (carry_of k.carry)
  shapes_are w c e d = ap (λ (v : ℕ). shapes v c) d ∙ ap (λ (b : Carry). shapes (word_fault word b.depth) b) e

  module _ (w : ℕ) (c : Carry) (e : c ≡ carry_of k.carry) (d : w ≡ word_fault word c.depth) (fit : 0 ≡ carry_fault k.carry) where
    pub shape_refused : (r : ℕ) → r ≡ shapes w c → (r ≡ 0 → ⊥) → Refused r
    unfolding add_fault
    shape_refused r f h = refused_by r (or_later r _ _ fit (or_given r _ _ (f ∙ shapes_are w c e d) h)) h

    module _ (shape : 0 ≡ shapes w c) where
      abbrev large : Bool
      large = too_large c.depth s.first s.a || too_large c.depth s.second s.b

      samples_decide : (r : ℕ) → r ≡ refusal 16 large → r ≡ add_fault word k s
      unfolding add_fault
      samples_decide r f =
          or_later r _ _ fit
          (or_later r _ _ (shape ∙ shapes_are w c e d)
          (f ∙ ap (λ (b : Carry). refusal 16 (too_large b.depth s.first s.a || too_large b.depth s.second s.b)) e))

      -- 16
      pub sample_refused : (r : ℕ) → r ≡ refusal 16 large → (r ≡ 0 → ⊥) → Refused r
      sample_refused r f h = refused_by r (samples_decide r f) h

      pub accepted : 0 ≡ refusal 16 large → 0 ≡ add_fault word k s
      accepted f = samples_decide 0 f

    -- what an accepted one leaves
    pub all_taken : 0 ≡ add_fault word k s → (total more : ℕ) (next : Carry) (ns room costs : List ℕ) → more ≡ plane_sad s.first s.a s.second s.b
        → held total room costs ≡ held_rows word c s s.first.height (held c.importance k.room k.costs)
        → next ≡ carry_by c.width c.height c.depth (c.rows + s.first.height) (c.difference + more) total
        → ns ≡ carry_numbers next → kept ns room costs ≡ add_after word k s
    all_taken none total more next ns room costs m h n f =
        let here : held total room costs ≡ held_after word k s =
        h ∙ ap (λ (b : Carry). held_rows word b s s.first.height (held b.importance k.room k.costs)) e in
        let numbers : ns ≡ carry_numbers (carry_after (carry_of k.carry) s (held_after word k s).total) =
        f ∙ ap carry_numbers (n ∙ ap (λ (d : ℕ). carry_by c.width c.height c.depth (c.rows + s.first.height) (c.difference + d) total) m
        ∙ ap (λ (b : Carry). carry_after b s total) e ∙ ap (λ (x : Held). carry_after (carry_of k.carry) s x.total) here) in
        ap (λ (l : List ℕ). kept l room costs) numbers
        ∙ ap (λ (x : Held). kept (carry_numbers (carry_after (carry_of k.carry) s (held_after word k s).total)) x.room x.costs) here
        ∙ lent_written _ _ _ none

-- what a strip that is not refused tells: the carry and the shapes fit, and no sample is too large
pub add_known : (word : Word) (k : Kept) (s : Strip) → add_fault word k s ≡ 0
    → let c = carry_of k.carry in
    Taken word c s.first (length s.a) s.second (length s.b) (length k.room) (length k.costs)
    × (too_large c.depth s.first s.a || too_large c.depth s.second s.b ≡ false)
unfolding add_fault
add_known word k s e =
    let c = carry_of k.carry in
    let t = or_none (carry_fault k.carry) _ e in
    let u = or_none (shape_fault (word_fault word c.depth) c s.first (length s.a) s.second (length s.b) (length k.room) (length k.costs)) _ t.1 in (
      taken_known word c s.first (length s.a) s.second (length s.b) (length k.room) (length k.costs) (carry_passed k.carry t.0).1 u.0,
      passed 15 _ u.1,
    )

-- the numbers that are answered are small
pub rows_small : (word : Word) (k : Kept) (s : Strip) → add_fault word k s ≡ 0 → (carry_of k.carry).rows + s.first.height ≤ max_side
rows_small word k s e = let t = (add_known word k s e).0 in omega (arith, t.rows, t.carry.height_most)

pub ended_small : (ns : List ℕ) → end_fault ns ≡ 0 → blocks_in (carry_of ns) ≤ max_side * max_side
unfolding end_fault
ended_small ns e =
    let f = fit (carry_of ns) (carry_passed ns (or_none (carry_fault ns) _ e).0).1 in blocks_most (carry_of ns) f.width_most f.height_most
