-- The newest pairs that two detectors have scored are the same: their calls are numbered one after the other, so they score the same pairs,
-- and each pair has one measurement.
-- Assumes nothing.
use mathlib.Core.Path.{◌≡◌, refl, sym, ◌∙◌, ap, subst}
use mathlib.Core.Bool.{true}
use mathlib.Core.List.{List, [], ◌∷◌, ◌++◌, append_assoc}
use Prim.Native.Nat.{ℕ, zero, suc, ◌+◌, ◌≤◌}
use native.Mathlib.Omega.{arith}
use borrow.Author.Tests.{eqb-true}
use lib.Dec.{eqb}
use lib.ListN.{length, take}
use lib.Seq.{take-take}
use Rattle.settings.specs.declared.Settings.{Settings}
use Rattle.state.specs.State.{View, Call}
use Rattle.state.specs.Refusals.{step_fault}
use Rattle.state.proofs.Tests.{and_both, positive}
use Rattle.state.proofs.Fine.{fine}
use Rattle.detector.specs.Fresh.{fresh_view}
use Rattle.detector.specs.Step.{item_in, step_of}
use Rattle.detector.specs.Runs.{all_accepted}
use Rattle.detector.proofs.Cases.{leaves}
use Rattle.meeting.specs.Calls.{Agree, All, full_set}
use Rattle.meeting.proofs.ClosedForm.{span, Item, item_at, first_items, scored_then, last_call}
use Rattle.meeting.proofs.Closed.{first_long}

-- ---- what further calls score stands in front of what was scored

module _ (g : Settings) where
  pub scored_parts : (past : List Item) (cs ds : List Call) → scored_then g past (cs ++ ds) ≡ scored_then g (scored_then g past cs) ds
  unfolding scored_then
  scored_parts past [] ds = refl
  scored_parts past (c ∷ cs) ds = scored_parts (item_at g c span ∷ past) cs ds

  pub scored_front : (past : List Item) (cs : List Call) → scored_then g past cs ≡ scored_then g [] cs ++ past
  unfolding scored_then
  scored_front past [] = refl
  scored_front past (c ∷ cs) =
      let i = item_at g c span in
      scored_front (i ∷ past) cs
      ∙ sym (append_assoc (scored_then g [] cs) (i ∷ []) past)
      ∙ ap (λ (l : List Item). l ++ past) (sym (scored_front (i ∷ []) cs))

  pub scored_long : (past : List Item) (cs : List Call) → length (scored_then g past cs) ≡ length cs + length past
  unfolding scored_then
  scored_long past [] = omega arith
  scored_long past (c ∷ cs) = omega (arith, scored_long (item_at g c span ∷ past) cs)

-- behind the same front, as many as are the same
pub take_behind : (m r : ℕ) (front l k : List Item) → m ≤ length front + r → take r l ≡ take r k → take m (front ++ l) ≡ take m (front ++ k)
take_behind m r [] l k h e =
    let n : m ≤ r = omega arith in
    sym (take-take m r l n) ∙ ap (take m) e ∙ take-take m r k n
take_behind zero r (i ∷ front) l k h e = refl
take_behind (suc m) r (i ∷ front) l k h e = ap (λ (x : List Item). i ∷ x) (take_behind m r front l k (omega arith) e)

-- ---- accepted calls are numbered one after the other, and their sets do not grow

abbrev pub Next : Call → Call → Type 0
Next b c = (c.number ≡ suc b.number) × (c.set_length ≤ b.set_length)

abbrev pub InTurn : Call → List Call → Type 0
InTurn b [] = Unit {0}
InTurn b (c ∷ cs) = Next b c × InTurn c cs

in_turn_lem : (s : View) (b : Call) (cs : List Call) → s.last_number ≡ b.number → s.last_length ≡ b.set_length → (b.number ≡ 0 → ⊥)
    → all_accepted s cs ≡ true → InTurn b cs
unfolding all_accepted
in_turn_lem s b [] e k h t = tt
in_turn_lem s b (c ∷ cs) e k h t =
    let u = and_both (eqb (step_fault s c) 0) _ t in
    let f = fine s c (eqb-true _ _ u.0) in
    let w = leaves s c (eqb-true _ _ u.0) in
    let some = f.begun in
    let next : c.number ≡ suc b.number = omega (arith, f.in_turn (λ z. h (sym e ∙ z)), positive c.number some) in
    let size : c.set_length ≤ b.set_length = omega (arith, f.shrinks (λ z. h (sym e ∙ z))) in
    ((next, size), in_turn_lem (step_of s c).state c cs w.number w.size some u.1)

-- .. from a fresh detector on
pub run_turn : (g : Settings) (x : Call) (xs : List Call) → all_accepted (fresh_view g) (x ∷ xs) ≡ true → InTurn x xs
unfolding all_accepted
run_turn g x xs t =
    let u = and_both (eqb (step_fault (fresh_view g) x) 0) _ t in
    let fault = eqb-true _ _ u.0 in
    let w = leaves (fresh_view g) x fault in
    in_turn_lem (step_of (fresh_view g) x).state x xs w.number w.size (fine (fresh_view g) x fault).begun u.1

-- ---- the pairs of calls in turn, held to those of one call

-- calls whose first six items are the same wherever they are of one pair
abbrev pub Agreed : Settings → Call → Call → Type 0
Agreed g c d = (j k : ℕ) → j ≤ span → k ≤ span → c.number + j ≡ d.number + k → item_in g c j ≡ item_in g d k

-- full sets have six items
pub agreed : (g : Settings) (c d : Call) → full_set ≤ c.set_length → full_set ≤ d.set_length → Agree g c d → Agreed g c d
agreed g c d m n a j k h l = a j k (h, omega arith) (l, omega arith)

module _ (g : Settings) (z : Call) where
  -- a pair that this call has too is the same there
  abbrev Same : Item → Type 0
  Same i = (k : ℕ) → k ≤ span → i.pair ≡ z.number + k → i ≡ item_at g z k

  -- pairs below q that fall by one
  abbrev Lined : ℕ → List Item → Type 0
  Lined q [] = Unit {0}
  Lined q (i ∷ l) = (suc i.pair ≡ q) × Same i × Lined i.pair l

  same_at : (c : Call) (j : ℕ) → Agreed g c z → j ≤ span → Same (item_at g c j)
  same_at c j a h k l e = rw (e, a j k h l e)

  first_lined : (c : Call) (k : ℕ) → Agreed g c z → k ≤ suc span → Lined (c.number + k) (first_items g c k)
  unfolding first_items
  first_lined c zero a h = tt
  first_lined c (suc k) a h = (omega arith, same_at c k a (omega arith), first_lined c k a (omega arith))

  then_lined : (b : Call) (past : List Item) (cs : List Call) → Lined (b.number + suc span) past → InTurn b cs → All (λ (c : Call). Agreed g c z) cs
      → Lined ((last_call b cs).number + suc span) (scored_then g past cs)
  unfolding scored_then
  then_lined b past [] l t a = l
  then_lined b past (c ∷ cs) l t a =
      let e : b.number + suc span ≡ c.number + span = omega (arith, t.0.0) in
      then_lined c (item_at g c span ∷ past) cs
      (omega arith, same_at c span a.0 (omega arith), subst (λ (q : ℕ). Lined q past) e l) t.1 a.1

  lined_same : (k q : ℕ) (l : List Item) → Lined q l → q ≡ z.number + k → k ≤ length l → k ≤ suc span → take k l ≡ first_items g z k
  unfolding first_items
  lined_same zero q l w e h n = refl
  lined_same (suc k) q [] w e h n = absurd (omega arith)
  lined_same (suc k) q (i ∷ l) w e h n =
      let here : i.pair ≡ z.number + k = omega (arith, w.0) in
      rw (lined_same k i.pair l w.2 here (omega arith) (omega arith), ← w.1 k (omega arith) here)

  -- the newest five pairs that the calls before this one have scored are its own first five
  pub newest_same : (x : Call) (xs : List Call) → InTurn x xs → All (λ (c : Call). Agreed g c z) (x ∷ xs) → z.number ≡ suc (last_call x xs).number
      → take span (scored_then g (first_items g x (suc span)) xs) ≡ first_items g z span
  newest_same x xs t a next =
      let long = scored_long g (first_items g x (suc span)) xs in
      let first = first_long g x (suc span) in
      let e : (last_call x xs).number + suc span ≡ z.number + span = omega arith in
      lined_same span ((last_call x xs).number + suc span) (scored_then g (first_items g x (suc span)) xs)
      (then_lined x (first_items g x (suc span)) xs (first_lined x (suc span) a.0 (omega arith)) t a.1) e (omega arith) (omega arith)
