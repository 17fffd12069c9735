-- What a state that passes 11 tells a proof: one record with a field for each part of the refusal, unpacked here alone, and back.
-- Assumes nothing.
use mathlib.Core.Path.{◌≡◌, ap}
use mathlib.Core.Bool.{true, false, not}
use Prim.Native.Nat.{◌+◌, ◌-◌, ◌≤◌, ◌<◌}
use native.Mathlib.Omega.{arith}
use lib.Dec.{eqb, leb, ltb}
use lib.ListN.{length, get_or}
use borrow.Author.Tests.{ltb-true, ltb-false, leb-false, lt-ltb, le-ltb, lt-leb, eq-eqb, ne_eqb, eqb-true, eqb-false, not-true}
use Rattle.answer.proofs.Laws.{or_no, passed}
use Rattle.settings.specs.Settings.{room, normal_lookahead, lookahead_offset, is_none, settings_fault}
use Rattle.score.specs.Deque.{no_score}
use Rattle.score.specs.Numbers.{numbers_of, numbers_astray, repeated_twice, misnumbered}
use Rattle.score.proofs.Order.{InOrder}
use Rattle.state.specs.State.{View}
use Rattle.state.specs.Refusals.{settings_forbidden, over_room, over_window, offset_past, offset_astray, entries_in_none, entries_before_call, unfit, cost_forbidden, front_astray, state_fault}
use Rattle.state.proofs.Tests.{and_right, not_both, not_eqb, positive}

pub record Well (s : View) : Type 0 where
  pub settled : settings_fault s.settings ≡ 0
  pub few : length s.entries < room
  pub fewer : lookahead_offset s.settings ≡ normal_lookahead → length s.entries ≤ normal_lookahead + normal_lookahead
  pub within : 0 < length s.entries → s.offset < length s.entries
  pub empty : length s.entries ≡ 0 → s.offset ≡ lookahead_offset s.settings
  pub moded : 0 < length s.entries → is_none s.settings ≡ false
  pub called : 0 < length s.entries → s.last_number ≡ 0 → ⊥
  pub sound : cost_forbidden s.entries ≡ false
  pub order : InOrder 1 (numbers_of s.entries)
  pub front : 0 < length s.entries → lookahead_offset s.settings < s.last_length → (get_or s.entries 0 no_score).pair_number ≡ s.last_number + s.offset

pub well : (s : View) → state_fault s ≡ 0 → Well s
unfolding state_fault
well s e =
    let g = s.settings in
    let a = lookahead_offset g in
    let o = s.offset in
    let count = length s.entries in
    let last = s.last_number in
    let p = or_no (unfit g count o last) _ (passed 10 _ e) in
    let q1 = or_no (cost_forbidden s.entries) _ p.1 in
    let q2 = or_no (misnumbered s.entries) (front_astray g last s.last_length o s.entries) q1.1 in
    let q3 = or_no (numbers_astray s.entries) (repeated_twice s.entries) q2.0 in
    let p1 = or_no (settings_forbidden g) _ p.0 in
    let p2 = or_no (over_room count) _ p1.1 in
    let p3 = or_no (over_window g count) _ p2.1 in
    let p4 = or_no (offset_past count o) _ p3.1 in
    let p5 = or_no (offset_astray g count o) _ p4.1 in
    let p6 = or_no (entries_in_none g count) (entries_before_call last count) p5.1 in
    let some : 0 < count → not (eqb count 0) ≡ true = λ h. ap not (ne_eqb count 0 (λ z. omega arith)) in
    record {
      settled = not_eqb (settings_fault g) 0 p1.0;
      few = omega (arith, ltb-false (room - 1) count p2.0);
      fewer = λ h. ltb-false _ count (and_right (eqb a normal_lookahead) _ p3.0 (eq-eqb _ _ h));
      within = λ h. leb-false count o (and_right (not (eqb count 0)) _ p4.0 (some h));
      empty = λ h. not_eqb o a (and_right (eqb count 0) _ p5.0 (eq-eqb _ _ h));
      moded = λ h. and_right (not (eqb count 0)) _ p6.0 (some h);
      called = λ h. eqb-false last 0 (and_right (not (eqb count 0)) _ p6.1 (some h));
      sound = q1.0;
      order = record { falls = q3.0; equals = ltb-false 1 _ q3.1 };
      front = λ h k. not_eqb _ _ (and_right (ltb a s.last_length) _ (and_right (not (eqb count 0)) _ q2.1 (some h)) (lt-ltb _ _ k));
    }

pub passes : (s : View) → Well s → state_fault s ≡ 0
unfolding state_fault
passes s w =
    let g = s.settings in
    let a = lookahead_offset g in
    let o = s.offset in
    let count = length s.entries in
    let settled : settings_forbidden g ≡ false = ap not (eq-eqb (settings_fault g) 0 w.settled) in
    let few : over_room count ≡ false = le-ltb (room - 1) count (omega (arith, w.few)) in
    let fewer : over_window g count ≡ false = not_both (eqb a normal_lookahead) _ (λ t. le-ltb _ count (w.fewer (eqb-true a _ t))) in
    let within : offset_past count o ≡ false
    = not_both (not (eqb count 0)) (leb count o) (λ t. lt-leb count o (w.within (positive count (eqb-false count 0 (not-true _ t))))) in
    let empty : offset_astray g count o ≡ false = not_both (eqb count 0) _ (λ t. ap not (eq-eqb o a (w.empty (eqb-true count 0 t)))) in
    let last = s.last_number in
    let some : not (eqb count 0) ≡ true → 0 < count = λ t. positive count (eqb-false count 0 (not-true _ t)) in
    let moded : entries_in_none g count ≡ false = not_both (not (eqb count 0)) _ (λ t. w.moded (some t)) in
    let called : entries_before_call last count ≡ false = not_both (not (eqb count 0)) _ (λ t. ne_eqb last 0 (w.called (some t))) in
    let once : repeated_twice s.entries ≡ false = le-ltb 1 _ w.order.equals in
    let front : front_astray g last s.last_length o s.entries ≡ false
    = not_both (not (eqb count 0)) _ (λ t. not_both (ltb a s.last_length) _ (λ u. ap not (eq-eqb _ _ (w.front (some t) (ltb-true _ _ u))))) in
    rw (settled, few, fewer, within, empty, moded, called, w.sound, w.order.falls, once, front)

-- 11 looks at the settings, the entries, the offset, the last number and the last length alone
pub state_same : (s t : View) → s.settings ≡ t.settings → s.entries ≡ t.entries → s.offset ≡ t.offset → s.last_number ≡ t.last_number → s.last_length ≡ t.last_length
    → state_fault s ≡ state_fault t
unfolding state_fault
state_same s t p q r n l = rw (p, q, r, n, l)

pub settings_unfit : (s : View) → (settings_fault s.settings ≡ 0 → ⊥) → state_fault s ≡ 11
unfolding state_fault
settings_unfit s h = rw (ne_eqb (settings_fault s.settings) 0 h)
