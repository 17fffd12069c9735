-- What rule 4 leaves of a call that is not refused: room for one entry more, an offset within the entries, which falls only where it is
-- above 0, no inter cost that 10 forbids, and numbers in order, of which the front is one behind what rule 5 scores, or the same.
-- Assumes nothing.
use mathlib.Core.Path.{◌≡◌, refl, sym, ap, ◌∙◌}
use mathlib.Core.Bool.{Bool, true, false, not, ◌&&◌, true≢false}
use mathlib.Core.List.{List, append-nil}
use Prim.Native.Nat.{ℕ, suc, ◌+◌, ◌-◌, ◌≤◌, ◌<◌}
use native.Mathlib.Omega.{arith}
use borrow.Author.Tests.{lt-ltb, ltb-true, ltb-false, eqb-true, eqb-false}
use lib.Dec.{eqb, ltb}
use lib.ListN.{length, get_or}
use lib.Ieee.{nan}
use Rattle.settings.specs.declared.Settings.{Settings}
use Rattle.settings.specs.Settings.{room, normal_lookahead, lookahead_offset, is_none, is_fast, fast_threshold}
use Rattle.settings.proofs.Laws.{lookahead_small}
use Rattle.score.specs.declared.ScenecutResult.{ScenecutResult}
use Rattle.score.specs.Costs.{forbidden}
use Rattle.score.specs.Numbers.{numbers_of}
use Rattle.score.proofs.Counts.{none_at_lem}
use Rattle.score.proofs.Scored.{Sound}
use Rattle.score.proofs.PairLaws.{no_numbers, number_at_lem}
use Rattle.score.proofs.Order.{InOrder, order_more}
use Rattle.state.specs.State.{View, Call, view}
use Rattle.state.proofs.Tests.{and_right, and_both, positive}
use Rattle.state.proofs.Fine.{Fine, fine}
use Rattle.state.specs.Refusals.{reads_all, step_fault}
use Rattle.state.specs.declared.State.{State}
use Rattle.score.specs.Deque.{content}
use Rattle.score.proofs.Room.{long_min}
use Rattle.detector.specs.Rules.{Turn, items_of, rule4}
use Rattle.detector.specs.Step.{item_of}
use Rattle.detector.specs.Needs.{Readable, Ready}
use Rattle.detector.specs.Numbers.{pairs_from}
use Rattle.detector.proofs.Items.{items_long, items_sound, items_numbers, pairs_front, pairs_long, pairs_order}

pub record Begun (g : Settings) (k n : ℕ) (t : Turn) : Type 0 where
  pub ready : Ready k t
  pub fewer : lookahead_offset g ≡ normal_lookahead → length t.entries ≤ normal_lookahead + normal_lookahead
  pub spare : normal_lookahead + lookahead_offset g ≤ length t.entries → t.offset < length t.entries
  pub sound : Sound t.entries
  pub order : InOrder 1 (numbers_of t.entries)
  pub next : t.again ≡ false → n + t.offset ≡ suc (get_or (numbers_of t.entries) 0 0)
  pub twice : t.again ≡ true → (t.offset + 1 < k) × (n + t.offset ≡ get_or (numbers_of t.entries) 0 0) × InOrder 0 (numbers_of t.entries)

module _ (s : View) (c : Call) (f : Fine s c) (later : lookahead_offset s.settings < c.set_length) (mode : is_none s.settings ≡ false) where
  abbrev g : Settings
  g = s.settings

  abbrev o : ℕ
  o = s.offset

  abbrev k : ℕ
  k = c.set_length

  pub item_sound : (i : ℕ) → i < k - 1 → forbidden (item_of s c i).inter ≡ false
  item_sound i h =
      let r = f.inter (ap not mode) in
      none_at_lem forbidden c.inter i nan (omega (arith, r.long)) r.allowed

  -- refusal 9 is not given
  never : k ≡ 1 → lookahead_offset g ≡ 0 → o ≡ 0 → ⊥
  never i j l = clash (f.goes i j l)
    where
      clash : is_none g ≡ true → ⊥
      clash e = let z : ◌≡◌ {A = ℕ} 0 1 = cc in omega arith

  falls : k ≤ o + 1 → 0 < o
  falls h = positive o (λ z. never (omega arith) (omega arith) z)

  -- where the deque is empty, o is A and lies among two frames or more
  pub empty : length s.entries ≡ 0 → (o < k) × (2 ≤ k)
  empty z =
      let a = f.state.empty z in
      let one : 0 < k - 1 = positive (k - 1) (λ e. never (omega arith) (omega arith) (omega arith)) in
      (omega arith, omega arith)

  abbrev items : ℕ → List ScenecutResult
  items q = items_of (is_fast g) (fast_threshold g) o c.number (item_of s c) q s.entries

  scored : (q : ℕ) → q ≤ k - 1 → Sound (items q)
  scored q h = items_sound (is_fast g) (fast_threshold g) o c.number (item_of s c) s.entries q (λ i u. item_sound i (omega arith)) f.state.sound

  many : (q : ℕ) → length (items q) ≡ q + length s.entries
  many q = items_long (is_fast g) (fast_threshold g) o c.number (item_of s c) s.entries q

  -- the numbers of a deque that was empty
  numbered : length s.entries ≡ 0 → (q : ℕ) → numbers_of (items q) ≡ pairs_from c.number q
  numbered z q =
      items_numbers (is_fast g) (fast_threshold g) o c.number (item_of s c) s.entries q
      ∙ rw (no_numbers s.entries z) (append-nil (pairs_from c.number q))

  -- .. and of one that was not: the last call's set had more than A frames too
  front : 0 < length s.entries → c.number + o ≡ suc (get_or (numbers_of s.entries) 0 0)
  front h =
      let last = f.state.called h in
      let l = f.state.front h (omega (arith, f.shrinks last)) in
      rw (number_at_lem s.entries 0, l) (omega (arith, f.in_turn last, f.begun))

  pub begun : Begun g k c.number (rule4 g k c.number (item_of s c) o s.entries)
  begun = by (eqb (length s.entries) 0) (ltb 0 o && ltb (o + 1) k) refl refl
    where
      by : (x y : Bool) → eqb (length s.entries) 0 ≡ x → ltb 0 o && ltb (o + 1) k ≡ y → Begun g k c.number (rule4 g k c.number (item_of s c) o s.entries)
      by true true p q =
          let z = eqb-true (length s.entries) 0 p in
          let a = f.state.empty z in
          let l = ltb-true (o + 1) k (and_both (ltb 0 o) (ltb (o + 1) k) q).1 in
          let n = many o in
          let small = lookahead_small g in
          let ns = numbered z o in
          let up = ltb-true 0 o (and_both (ltb 0 o) (ltb (o + 1) k) q).0 in
          rw (p, q) (record {
            ready = record { few = omega arith; at = omega arith; falls = λ h. omega arith };
            fewer = λ h. omega arith;
            spare = λ h. omega arith;
            sound = scored o (omega arith);
            order = rw ns (order_more 0 _ (pairs_order c.number o));
            next = λ h. rw ns (sym (pairs_front c.number o (omega (arith, pairs_long c.number o))));
            twice = λ h. absurd (true≢false (sym h));
          })
      by true false p q =
          let z = eqb-true (length s.entries) 0 p in
          let a = f.state.empty z in
          let d = (empty z).1 in
          let n = many (k - 1) in
          let ns = numbered z (k - 1) in
          rw (p, q) (record {
            ready = record { few = omega (arith, f.short); at = omega arith; falls = λ h. omega arith };
            fewer = λ h. omega (arith, ltb-false (o + 1) k (and_right (ltb 0 o) (ltb (o + 1) k) q (lt-ltb 0 o (omega arith))));
            spare = λ h. omega arith;
            sound = scored (k - 1) (omega arith);
            order = rw ns (order_more 0 _ (pairs_order c.number (k - 1)));
            next = λ h. absurd (true≢false h);
            twice = λ h. (omega arith, rw ns (omega (arith, pairs_front c.number (k - 1) (omega (arith, pairs_long c.number (k - 1))))), rw ns (pairs_order c.number (k - 1)));
          })
      by false y p q =
          let some = positive (length s.entries) (eqb-false (length s.entries) 0 p) in
          let i = f.state.within some in
          rw p (record {
            ready = record { few = f.state.few; at = omega arith; falls = falls };
            fewer = f.state.fewer;
            spare = λ h. i;
            sound = f.state.sound;
            order = f.state.order;
            next = λ h. front some;
            twice = λ h. absurd (true≢false (sym h));
          })

-- where no refusal is given, a state's count is that of its entries
pub counted : (s : State) (c : Call) → length s.deque.entries ≡ room → step_fault (view s) c ≡ 0 → s.deque.count ≡ length (content s.deque)
counted s c r e = omega (arith, long_min s.deque r, (fine (view s) c e).state.few)

-- .. and the lists that are read are long enough
pub readable : (s : View) (c : Call) → step_fault s c ≡ 0 → is_none s.settings ≡ false → Readable s.settings c
readable s c e mode =
    let f = fine s c e in
    let all : is_fast s.settings ≡ false → reads_all s.settings ≡ true = λ h. rw (mode, h) in
    record {
      short = f.short;
      small = f.small;
      costs = omega (arith, (f.inter (ap not mode)).long);
      rest = λ h. (omega (arith, (f.importance (all h)).long), omega (arith, (f.threshold (all h)).long));
    }
