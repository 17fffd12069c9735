-- Document 02, L6: start, strip after strip, and the end: what each answers, when each is refused, and what the lent places hold at exit.
use Rattle.std.specs.Prelude.{Bool, not, ◌||◌, cond, List, ℕ, ◌+◌, ltb, eqb, length}
use Rattle.answer.specs.Answer.{Answer, gives, refused, answered, lent_after}
use Rattle.answer.specs.Refusal.{refusal, ◌or_else◌}
use Rattle.plane.specs.Blocks.{block_fault}
use Rattle.plane.specs.Planes.{Word, bad_side, plane_fault, sizes_differ, depth_fault, word_fault, too_large}
use Rattle.plane.specs.declared.Plane.{Plane}
use Rattle.sad.specs.Difference.{plane_sad}
use Rattle.strips.specs.declared.carry.Carry.{Carry}
use Rattle.strips.specs.declared.Totals.{Totals}
use Rattle.strips.specs.Carry.{carry_by, carry_of, carry_numbers, blocks_in, is_carry, carry_fault}
use Rattle.strips.specs.Rows.{Strip, Held, held_rows, room_long}

-- what a caller hands back from call to call
pub record Kept : Type 0 where
  pub carry : List ℕ
  pub room : List ℕ
  pub costs : List ℕ

abbrev pub kept : List ℕ → List ℕ → List ℕ → Kept
kept carry room costs = record { carry = carry; room = room; costs = costs }

abbrev pub strip : Plane → List ℕ → Plane → List ℕ → Strip
strip p a q b = record { first = p; a = a; second = q; b = b }

-- ---- the start

-- 11 for a carry of another length; then "5 or 1 by the whole size"
unfoldable pub start_fault : ℕ → ℕ → ℕ → List ℕ → ℕ
start_fault depth width height ns = refusal 11 (not (is_carry ns)) or_else depth_fault depth or_else refusal 1 (bad_side width || bad_side height)

abbrev pub start_of : ℕ → ℕ → ℕ → List ℕ → Answer ℕ
start_of depth width height ns = answered (start_fault depth width height ns) 0

abbrev pub start_after : ℕ → ℕ → ℕ → List ℕ → List ℕ
start_after depth width height ns = lent_after (start_fault depth width height ns) (carry_numbers (carry_by width height depth 0 0 0)) ns

-- ---- a strip

-- 17: "over 64 rows or a strip past the height"
abbrev pub strip_most : ℕ
strip_most = 64

unfoldable pub too_many_rows : Carry → Plane → Bool
too_many_rows c p = ltb strip_most p.height || ltb c.height (c.rows + p.height)

-- 1 and 2 "as for planes", save that "a strip of 0 rows passes 2 and the height's part of 1"
unfoldable pub strip_fault : Plane → ℕ → ℕ
strip_fault p n = cond (eqb p.height 0) (refusal 1 (bad_side p.width || ltb p.stride p.width)) (plane_fault p n)

-- 3: "also against the carry's width"
unfoldable pub strips_differ : Carry → Plane → Plane → Bool
strips_differ c p q = sizes_differ p q || not (eqb p.width c.width)

-- 4: a list shorter than the whole plane's blocks, or "lent room under 16 × width samples"
unfoldable pub too_little : Carry → ℕ → ℕ → Bool
too_little c room costs = ltb costs (blocks_in c) || ltb room (room_long c)

-- 3, then 19 by the whole size: "strips included, at any strip or end"; then 4
unfoldable pub match_fault : Carry → Plane → Plane → ℕ → ℕ → ℕ
match_fault c p q room costs = refusal 3 (strips_differ c p q) or_else block_fault (blocks_in c) or_else refusal 4 (too_little c room costs)

-- by the shapes: 17, 5, 1 and 2 of the first, 1 and 2 of the second, 3, 19, 4. `unsuited` is 5 where the carry's depth does not suit the samples'
-- word, else 0.
unfoldable pub shape_fault : ℕ → Carry → Plane → ℕ → Plane → ℕ → ℕ → ℕ → ℕ
shape_fault unsuited c p n q m room costs =
    refusal 17 (too_many_rows c p || too_many_rows c q) or_else unsuited or_else strip_fault p n or_else strip_fault q m
    or_else match_fault c p q room costs

-- 11 first, and 16 last
unfoldable pub add_fault : Word → Kept → Strip → ℕ
add_fault word k s =
    carry_fault k.carry
    or_else shape_fault (word_fault word (carry_of k.carry).depth) (carry_of k.carry) s.first (length s.a) s.second (length s.b)
    (length k.room) (length k.costs)
    or_else refusal 16 (too_large (carry_of k.carry).depth s.first s.a || too_large (carry_of k.carry).depth s.second s.b)

-- what all of the strip's rows leave
abbrev pub held_after : Word → Kept → Strip → Held
held_after word k s =
    held_rows word (carry_of k.carry) s s.first.height
    (record { total = (carry_of k.carry).importance; room = k.room; costs = k.costs })

abbrev pub carry_after : Carry → Strip → ℕ → Carry
carry_after c s total =
    carry_by c.width c.height c.depth (c.rows + s.first.height) (c.difference + plane_sad s.first s.a s.second s.b) total

abbrev pub taken : Word → Kept → Strip → Kept
taken word k s = let h = held_after word k s in kept (carry_numbers (carry_after (carry_of k.carry) s h.total)) h.room h.costs

-- the answer is the rows that have come; "a refused strip changes nothing"
abbrev pub add_of : Word → Kept → Strip → Answer ℕ
add_of word k s = answered (add_fault word k s) ((carry_of k.carry).rows + s.first.height)

abbrev pub add_after : Word → Kept → Strip → Kept
add_after word k s = lent_after (add_fault word k s) (taken word k s) k

-- ---- the end

-- 11, 5, 19, and 18: "before all rows have come"
unfoldable pub end_fault : List ℕ → ℕ
end_fault ns =
    carry_fault ns or_else depth_fault (carry_of ns).depth or_else block_fault (blocks_in (carry_of ns))
    or_else refusal 18 (ltb (carry_of ns).rows (carry_of ns).height)

abbrev pub totals_of : Carry → Totals
totals_of c = record { blocks = blocks_in c; difference = c.difference; importance = c.importance }

abbrev pub end_of : List ℕ → Answer Totals
end_of ns = answered (end_fault ns) (totals_of (carry_of ns))
