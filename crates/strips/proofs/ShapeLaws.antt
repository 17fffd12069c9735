-- The refusals of strips by their shapes, in order, and what strips keep to that are not refused. Assumes nothing.
use mathlib.Core.Bool.{Bool, true, false, not, ◌||◌}
use mathlib.Core.List.{List}
use mathlib.Core.Path.{◌≡◌, refl, sym, ap, ◌∙◌}
use Prim.Native.Nat.{ℕ, ◌+◌, ◌-◌, ◌≤◌, ◌<◌}
use native.Mathlib.Decide.{dec_lt}
use native.Mathlib.Omega.{arith}
use borrow.Author.Tests.{lt-ltb, le-ltb, ltb-false, eq-eqb, ne_eqb, eqb-true, not-false}
use lib.Dec.{ltb, eqb}
use lib.ListN.{length}
use Rattle.answer.specs.Refusal.{refusal}
use Rattle.answer.proofs.Laws.{or_no, or_none, or_both, or_given, or_later, passed, test_first, test_later, test_given, test_passed}
use Rattle.plane.specs.Blocks.{block_fault}
use Rattle.plane.specs.Planes.{Word, bad_side, depth_fault, plane_fault, sizes_differ, sizes_fault, shapes_fault, word_fault}
use Rattle.plane.specs.declared.Plane.{Plane}
use Rattle.plane.proofs.BlockLaws.{some_block}
use Rattle.strips.specs.declared.carry.Carry.{Carry}
use Rattle.strips.specs.Carry.{carry_long, carry_of, blocks_in, carry_unfit, carry_fault}
use Rattle.strips.specs.Needs.{Taken}
use Rattle.strips.specs.Rows.{room_long}
use Rattle.strips.specs.Strips.{start_fault, end_fault, strip_most, too_many_rows, strip_fault, strips_differ, too_little, match_fault, shape_fault}
use Rattle.strips.proofs.CarryLaws.{sound}

-- ---- 17

-- the rows that are left, in place of a sum
pub rows_left : (c : Carry) (p : Plane) → c.rows ≤ c.height → ltb strip_most p.height || ltb (c.height - c.rows) p.height ≡ too_many_rows c p
unfolding too_many_rows
rows_left c p h = ap (λ (t : Bool). ltb strip_most p.height || t) (go (dec_lt (c.height - c.rows) p.height))
  where
    go : Dec (c.height - c.rows < p.height) → ltb (c.height - c.rows) p.height ≡ ltb c.height (c.rows + p.height)
    go (yes l) = lt-ltb (c.height - c.rows) p.height l ∙ sym (lt-ltb c.height (c.rows + p.height) (omega arith))
    go (no m) = le-ltb (c.height - c.rows) p.height (omega arith) ∙ sym (le-ltb c.height (c.rows + p.height) (omega arith))

pub rows_fit : (c : Carry) (p : Plane) → too_many_rows c p ≡ false → (p.height ≤ strip_most) × (c.rows + p.height ≤ c.height)
unfolding too_many_rows
rows_fit c p e =
    let t = or_no (ltb strip_most p.height) (ltb c.height (c.rows + p.height)) e in
    (ltb-false strip_most p.height t.0, ltb-false c.height (c.rows + p.height) t.1)

-- ---- 1 and 2

module _ (p : Plane) (n : ℕ) where
  pub some_rows : (p.height ≡ 0 → ⊥) → plane_fault p n ≡ strip_fault p n
  unfolding strip_fault
  some_rows h = rw (ne_eqb p.height 0 h) refl

  no_rows : p.height ≡ 0 → refusal 1 (bad_side p.width || ltb p.stride p.width) ≡ strip_fault p n
  unfolding strip_fault
  no_rows e = rw (eq-eqb p.height 0 e) refl

  pub no_rows_bad : p.height ≡ 0 → bad_side p.width || ltb p.stride p.width ≡ true → 1 ≡ strip_fault p n
  no_rows_bad e d = test_given 1 _ d ∙ no_rows e

  pub no_rows_good : p.height ≡ 0 → bad_side p.width || ltb p.stride p.width ≡ false → 0 ≡ strip_fault p n
  no_rows_good e d = test_passed 1 _ d ∙ no_rows e

-- ---- 3, 19 and 4

-- as the code asks for it
pub sizes_are : (p q : Plane) (also : Bool) → sizes_differ p q || also ≡ (not (eqb p.width q.width) || not (eqb p.height q.height)) || also
unfolding sizes_differ
sizes_are p q also = refl

module _ (c : Carry) (p q : Plane) (room costs : ℕ) where
  pub sizes_refused : sizes_differ p q || not (eqb p.width c.width) ≡ true → 3 ≡ match_fault c p q room costs
  unfolding match_fault strips_differ
  sizes_refused e = test_first 2 _ _ e

  module _ (same : sizes_differ p q || not (eqb p.width c.width) ≡ false) where
    pub blocks_refused : (r : ℕ) → r ≡ block_fault (blocks_in c) → (r ≡ 0 → ⊥) → r ≡ match_fault c p q room costs
    unfolding match_fault strips_differ
    blocks_refused r e h = test_later 3 r _ _ same (or_given r _ _ e h)

    module _ (some : 0 ≡ block_fault (blocks_in c)) where
      pub room_refused : ltb costs (blocks_in c) || ltb room (room_long c) ≡ true → 4 ≡ match_fault c p q room costs
      unfolding match_fault strips_differ too_little
      room_refused d = test_later 3 4 _ _ same (or_later 4 _ _ some (test_given 4 _ d))

      pub matched : ltb costs (blocks_in c) || ltb room (room_long c) ≡ false → 0 ≡ match_fault c p q room costs
      unfolding match_fault strips_differ too_little
      matched d = test_later 3 0 _ _ same (or_later 0 _ _ some (test_passed 4 _ d))

  -- and what follows where none is given
  pub match_known : match_fault c p q room costs ≡ 0 → (sizes_differ p q ≡ false) × (p.width ≡ c.width) × (0 < blocks_in c) × (blocks_in c ≤ costs) × (room_long c ≤ room)
  unfolding match_fault strips_differ too_little
  match_known e =
      let little = ltb costs (blocks_in c) || ltb room (room_long c) in
      let t = or_none (refusal 3 (sizes_differ p q || not (eqb p.width c.width))) _ e in
      let u = or_none (block_fault (blocks_in c)) (refusal 4 little) t.1 in
      let s = or_no (sizes_differ p q) (not (eqb p.width c.width)) (passed 2 _ t.0) in
      let r = or_no (ltb costs (blocks_in c)) (ltb room (room_long c)) (passed 3 little u.1) in
      (s.0, eqb-true p.width c.width (not-false _ s.1), some_block (blocks_in c) u.0, ltb-false costs (blocks_in c) r.0, ltb-false room (room_long c) r.1)

-- ---- all of them, in order

module _ (unsuited : ℕ) (c : Carry) (p : Plane) (n : ℕ) (q : Plane) (m room costs : ℕ) where
  pub many_refused : too_many_rows c p || too_many_rows c q ≡ true → 17 ≡ shape_fault unsuited c p n q m room costs
  unfolding shape_fault
  many_refused e = test_first 16 _ _ e

  module _ (few : too_many_rows c p || too_many_rows c q ≡ false) where
    pub word_refused : (unsuited ≡ 0 → ⊥) → unsuited ≡ shape_fault unsuited c p n q m room costs
    unfolding shape_fault
    word_refused h = test_later 17 unsuited _ _ few (or_given unsuited unsuited _ refl h)

    module _ (suits : unsuited ≡ 0) where
      pub first_refused : (r : ℕ) → r ≡ strip_fault p n → (r ≡ 0 → ⊥) → r ≡ shape_fault unsuited c p n q m room costs
      unfolding shape_fault
      first_refused r e h = test_later 17 r _ _ few (or_later r unsuited _ (sym suits) (or_given r _ _ e h))

      module _ (first : 0 ≡ strip_fault p n) where
        pub second_refused : (r : ℕ) → r ≡ strip_fault q m → (r ≡ 0 → ⊥) → r ≡ shape_fault unsuited c p n q m room costs
        unfolding shape_fault
        second_refused r e h = test_later 17 r _ _ few (or_later r unsuited _ (sym suits) (or_later r _ _ first (or_given r _ _ e h)))

        pub match_decides : 0 ≡ strip_fault q m → (r : ℕ) → r ≡ match_fault c p q room costs → r ≡ shape_fault unsuited c p n q m room costs
        unfolding shape_fault
        match_decides second r e = test_later 17 r _ _ few (or_later r unsuited _ (sym suits) (or_later r _ _ first (or_later r _ _ second e)))

-- where none is given
pub taken_known : (word : Word) (c : Carry) (p : Plane) (n : ℕ) (q : Plane) (m room costs : ℕ) → carry_unfit c ≡ false
    → shape_fault (word_fault word c.depth) c p n q m room costs ≡ 0 → Taken word c p n q m room costs
unfolding shape_fault sizes_differ sizes_fault
taken_known word c p n q m room costs f e =
    let t = or_none (refusal 17 (too_many_rows c p || too_many_rows c q)) _ e in
    let u = or_none (word_fault word c.depth) _ t.1 in
    let v = or_none (strip_fault p n) _ u.1 in
    let w = or_none (strip_fault q m) (match_fault c p q room costs) v.1 in
    let k = match_known c p q room costs w.1 in
    let d = or_no (not (eqb p.width q.width)) (not (eqb p.height q.height)) k.0 in
    let heights : p.height ≡ q.height = eqb-true p.height q.height (not-false _ d.1) in
    let rows = or_no (too_many_rows c p) (too_many_rows c q) (passed 16 _ t.0) in
    record {
      carry = sound word c f u.0 k.2;
      rows = (rows_fit c p rows.0).1;
      heights = heights;
      width = k.1;
      sizes = λ some.
          or_both (plane_fault p n) _ (some_rows p n (λ z. omega arith) ∙ v.0)
          (or_both (plane_fault q m) _ (some_rows q m (λ z. omega arith) ∙ w.0) (sym (test_passed 3 _ k.0)));
      list = k.3;
      enough = k.4;
    }

-- strips that have a row are planes that no measure refuses by its shape
pub shapes_pass : (word : Word) (c : Carry) (p : Plane) (n : ℕ) (q : Plane) (m room costs : ℕ) → Taken word c p n q m room costs
    → 0 < p.height → shapes_fault word c.depth p n q m ≡ 0
unfolding shapes_fault
shapes_pass word c p n q m room costs t some = or_both (word_fault word c.depth) (sizes_fault p n q m) t.carry.depth_fits (t.sizes some)

-- the room and the list may have other contents, if they stay as long
pub taken_again : (word : Word) (c : Carry) (p : Plane) (n : ℕ) (q : Plane) (m : ℕ) {room costs room' costs' : ℕ}
    → Taken word c p n q m room costs → room' ≡ room → costs' ≡ costs → Taken word c p n q m room' costs'
taken_again word c p n q m t e d = rw (e, d) t

-- ---- the start

module _ (depth width height : ℕ) (ns : List ℕ) where
  pub start_long : (length ns ≡ carry_long → ⊥) → 11 ≡ start_fault depth width height ns
  unfolding start_fault
  start_long h = test_first 10 _ _ (ap not (ne_eqb (length ns) carry_long h))

  module _ (e : length ns ≡ carry_long) where
    pub start_depth : (r : ℕ) → r ≡ depth_fault depth → (r ≡ 0 → ⊥) → r ≡ start_fault depth width height ns
    unfolding start_fault
    start_depth r d h = test_later 11 r _ _ (ap not (eq-eqb (length ns) carry_long e)) (or_given r _ _ d h)

    pub start_sides : 0 ≡ depth_fault depth → bad_side width || bad_side height ≡ true → 1 ≡ start_fault depth width height ns
    unfolding start_fault
    start_sides d t = test_later 11 1 _ _ (ap not (eq-eqb (length ns) carry_long e)) (or_later 1 _ _ d (test_given 1 _ t))

    pub started : 0 ≡ depth_fault depth → bad_side width || bad_side height ≡ false → 0 ≡ start_fault depth width height ns
    unfolding start_fault
    started d t = test_later 11 0 _ _ (ap not (eq-eqb (length ns) carry_long e)) (or_later 0 _ _ d (test_passed 1 _ t))

-- ---- the end

module _ (ns : List ℕ) where
  pub end_unfit : (r : ℕ) → r ≡ carry_fault ns → (r ≡ 0 → ⊥) → r ≡ end_fault ns
  unfolding end_fault
  end_unfit r e h = or_given r _ _ e h

  module _ (e : 0 ≡ carry_fault ns) where
    pub end_depth : (r : ℕ) → r ≡ depth_fault (carry_of ns).depth → (r ≡ 0 → ⊥) → r ≡ end_fault ns
    unfolding end_fault
    end_depth r d h = or_later r _ _ e (or_given r _ _ d h)

    module _ (d : 0 ≡ depth_fault (carry_of ns).depth) where
      pub end_blocks : (r : ℕ) → r ≡ block_fault (blocks_in (carry_of ns)) → (r ≡ 0 → ⊥) → r ≡ end_fault ns
      unfolding end_fault
      end_blocks r f h = or_later r _ _ e (or_later r _ _ d (or_given r _ _ f h))

      module _ (some : 0 ≡ block_fault (blocks_in (carry_of ns))) where
        pub end_early : (carry_of ns).rows < (carry_of ns).height → 18 ≡ end_fault ns
        unfolding end_fault
        end_early h = or_later 18 _ _ e (or_later 18 _ _ d (or_later 18 _ _ some (test_given 18 _ (lt-ltb _ _ h))))

        pub ended : (carry_of ns).height ≤ (carry_of ns).rows → 0 ≡ end_fault ns
        unfolding end_fault
        ended h = or_later 0 _ _ e (or_later 0 _ _ d (or_later 0 _ _ some (test_passed 18 _ (le-ltb _ _ h))))
