-- What a call that no refusal forbids tells a proof: one record with a field for each part of the refusals, unpacked here alone, and
-- back. Assumes nothing.
use mathlib.Core.Path.{◌≡◌, refl, sym, ap}
use mathlib.Core.Bool.{Bool, true, false, not, ◌&&◌, ◌||◌}
use mathlib.Core.List.{List}
use Prim.Native.Nat.{ℕ, ◌-◌, ◌≤◌, ◌<◌}
use native.Mathlib.Omega.{arith}
use lib.Dec.{eqb}
use lib.ListN.{length}
use lib.Ieee.{Float}
use borrow.Author.Tests.{ltb-false, leb-false, le-ltb, lt-leb, eqb-true, eqb-false, eq-eqb, ne_eqb, not-true, not-false}
use Rattle.answer.proofs.Laws.{or_no, or_none, or_given, or_later, passed}
use Rattle.settings.specs.declared.Settings.{Settings}
use Rattle.settings.specs.Settings.{set_limit, lookahead_offset, is_none, is_fast, settings_fault}
use Rattle.state.specs.State.{View, Call}
use Rattle.state.specs.Refusals.{no_number, number_limit, number_too_large, keyframe_ahead, out_of_turn, set_too_long, set_grows, stops, reads_inter, reads_all, wrong_length, holds_forbidden, bad_list, state_fault, number_fault, length_fault, stop_fault, lists_fault, step_fault}
use Rattle.state.proofs.Tests.{and_right, not_both, not_eqb}
use Rattle.state.proofs.Well.{Well, well, passes, state_same, settings_unfit}

-- a list that is read
pub record Read (items : ℕ) (l : List Float) : Type 0 where
  pub long : length l ≡ items
  pub allowed : holds_forbidden l ≡ false

pub record Fine (s : View) (c : Call) : Type 0 where
  pub state : Well s
  pub begun : c.number ≡ 0 → ⊥
  pub small : c.number < number_limit
  pub behind : c.keyframe ≤ c.number
  pub in_turn : (s.last_number ≡ 0 → ⊥) → c.number - 1 ≡ s.last_number
  pub short : c.set_length ≤ set_limit
  pub shrinks : (s.last_number ≡ 0 → ⊥) → c.set_length ≤ s.last_length
  pub goes : c.set_length ≡ 1 → lookahead_offset s.settings ≡ 0 → s.offset ≡ 0 → is_none s.settings ≡ true
  pub inter : reads_inter s.settings ≡ true → Read (c.set_length - 1) c.inter
  pub importance : reads_all s.settings ≡ true → Read (c.set_length - 1) c.importance
  pub threshold : reads_all s.settings ≡ true → Read (c.set_length - 1) c.threshold

-- a test that is asked only where there was a last call
abbrev has_last : ℕ → Bool
has_last last = not (eqb last 0)

was : (last : ℕ) → (last ≡ 0 → ⊥) → has_last last ≡ true
was last h = ap not (ne_eqb last 0 h)

was_no : (last : ℕ) → has_last last ≡ true → last ≡ 0 → ⊥
was_no last t = eqb-false last 0 (not-true (eqb last 0) t)

-- a list
list_read : (items : ℕ) (l : List Float) → bad_list items l ≡ false → Read items l
list_read items l e =
    let p = or_no (wrong_length items l) (holds_forbidden l) e in
    record { long = not_eqb (length l) items p.0; allowed = p.1 }

list_good : (items : ℕ) (l : List Float) → Read items l → bad_list items l ≡ false
list_good items l r =
    let long : wrong_length items l ≡ false = ap not (eq-eqb (length l) items r.long) in
    rw (long, r.allowed)

-- refusal 9
module _ (g : Settings) (o k : ℕ) where
  going : stops g o k ≡ false → k ≡ 1 → lookahead_offset g ≡ 0 → o ≡ 0 → is_none g ≡ true
  going e h i j =
      let e1 = and_right (eqb k 1) _ e (eq-eqb _ _ h) in
      let e2 = and_right (eqb (lookahead_offset g) 0) _ e1 (eq-eqb _ _ i) in
      not-false (is_none g) (and_right (eqb o 0) (not (is_none g)) e2 (eq-eqb _ _ j))

  on : (k ≡ 1 → lookahead_offset g ≡ 0 → o ≡ 0 → is_none g ≡ true) → stops g o k ≡ false
  on f =
      not_both (eqb k 1) _ (λ t.
      not_both (eqb (lookahead_offset g) 0) _ (λ u.
      not_both (eqb o 0) (not (is_none g)) (λ v. ap not (f (eqb-true _ _ t) (eqb-true _ _ u) (eqb-true _ _ v)))))

pub fine : (s : View) (c : Call) → step_fault s c ≡ 0 → Fine s c
unfolding number_fault length_fault stop_fault lists_fault step_fault
fine s c e =
    let g = s.settings in
    let o = s.offset in
    let last = s.last_number in
    let n = c.number in
    let p = c.keyframe in
    let long = c.set_length in
    let k = long - 1 in
    let r1 = or_none (state_fault s) _ e in
    let r2 = or_none (number_fault last n p) _ r1.1 in
    let r3 = or_none (length_fault last s.last_length long) _ r2.1 in
    let r4 = or_none (stop_fault g o long) (lists_fault g k c.inter c.importance c.threshold) r3.1 in
    let n1 = or_no (no_number n) _ (passed 6 _ r2.0) in
    let n2 = or_no (number_too_large n) _ n1.1 in
    let n3 = or_no (keyframe_ahead n p) (out_of_turn last n) n2.1 in
    let l1 = or_no (set_too_long long) (set_grows last s.last_length long) (passed 7 _ r3.0) in
    let rest = bad_list k c.importance || bad_list k c.threshold in
    let d1 = or_no (reads_inter g && bad_list k c.inter) (reads_all g && rest) (passed 9 _ r4.1) in
    let d2 : reads_all g ≡ true → (bad_list k c.importance ≡ false) × (bad_list k c.threshold ≡ false)
    = λ h. or_no (bad_list k c.importance) _ (and_right (reads_all g) rest d1.1 h) in
    record {
      state = well s r1.0;
      begun = eqb-false n 0 n1.0;
      small = leb-false number_limit n n2.0;
      behind = ltb-false n p n3.0;
      in_turn = λ h. not_eqb (n - 1) last (and_right (has_last last) _ n3.1 (was last h));
      short = ltb-false set_limit long l1.0;
      shrinks = λ h. ltb-false s.last_length long (and_right (has_last last) _ l1.1 (was last h));
      goes = going g o long (passed 8 _ r4.0);
      inter = λ h. list_read k c.inter (and_right (reads_inter g) _ d1.0 h);
      importance = λ h. list_read k c.importance (d2 h).0;
      threshold = λ h. list_read k c.threshold (d2 h).1;
    }

pub accepts : (s : View) (c : Call) → Fine s c → step_fault s c ≡ 0
unfolding number_fault length_fault stop_fault lists_fault step_fault
accepts s c f =
    let g = s.settings in
    let o = s.offset in
    let last = s.last_number in
    let n = c.number in
    let p = c.keyframe in
    let long = c.set_length in
    let k = long - 1 in
    let begun : no_number n ≡ false = ne_eqb n 0 f.begun in
    let small : number_too_large n ≡ false = lt-leb number_limit n f.small in
    let behind : keyframe_ahead n p ≡ false = le-ltb n p f.behind in
    let in_turn : out_of_turn last n ≡ false = not_both (has_last last) _ (λ t. ap not (eq-eqb (n - 1) last (f.in_turn (was_no last t)))) in
    let short : set_too_long long ≡ false = le-ltb set_limit long f.short in
    let shrinks : set_grows last s.last_length long ≡ false = not_both (has_last last) _ (λ t. le-ltb s.last_length long (f.shrinks (was_no last t))) in
    let goes : stops g o long ≡ false = on g o long f.goes in
    let inter : reads_inter g && bad_list k c.inter ≡ false = not_both (reads_inter g) _ (λ h. list_good k c.inter (f.inter h)) in
    let rest : reads_all g && (bad_list k c.importance || bad_list k c.threshold) ≡ false
    = not_both (reads_all g) _ (λ h. rw (list_good k c.importance (f.importance h), list_good k c.threshold (f.threshold h))) in
    sym (or_later 0 (state_fault s) _ (sym (passes s f.state))
    (or_later 0 (number_fault last n p) _ (rw (begun, small, behind, in_turn))
    (or_later 0 (length_fault last s.last_length long) _ (rw (short, shrinks))
    (or_later 0 (stop_fault g o long) _ (rw goes) (rw (inter, rest))))))

-- the refusal of a call looks at neither the first nor the release number
pub step_same : (s t : View) (c : Call) → s.settings ≡ t.settings → s.entries ≡ t.entries → s.offset ≡ t.offset → s.last_number ≡ t.last_number → s.last_length ≡ t.last_length
    → step_fault s c ≡ step_fault t c
unfolding step_fault
step_same s t c p q r n l = rw (state_same s t p q r n l, p, r, n, l)

-- settings that are refused are refused in every state
pub settings_refused : (s : View) (c : Call) → (settings_fault s.settings ≡ 0 → ⊥) → step_fault s c ≡ 11
unfolding step_fault
settings_refused s c h = sym (or_given 11 (state_fault s) _ (sym (settings_unfit s h)) (λ z. omega arith))

-- a list that the mode does not read may be anything
module _ (s : View) (c d : Call) (k : c.set_length ≡ d.set_length) (n : c.number ≡ d.number) (p : c.keyframe ≡ d.keyframe) where
  pub unread : (reads_inter s.settings ≡ true → c.inter ≡ d.inter)
      → (reads_all s.settings ≡ true → (c.importance ≡ d.importance) × (c.threshold ≡ d.threshold)) → step_fault s c ≡ step_fault s d
  unfolding step_fault lists_fault
  unread inter rest = by (is_none s.settings) (is_fast s.settings) refl refl
    where
      by : (x y : Bool) → is_none s.settings ≡ x → is_fast s.settings ≡ y → step_fault s c ≡ step_fault s d
      by true true e f = rw (e, f, k, n, p)
      by true false e f = rw (e, f, k, n, p)
      by false true e f = rw (e, f, k, n, p, inter (ap not e))
      by false false e f =
          let all = rest (rw (f, e)) in
          rw (k, n, p, inter (ap not e), all.0, all.1)
