-- The release number of a run, by the number of its first call and by how many of its calls move it: all calls above it are the run's last
-- ten that move it and those behind them, or the whole run.
-- Assumes nothing.
use mathlib.Core.Path.{◌≡◌, refl, sym, ◌∙◌}
use mathlib.Core.Bool.{Bool, true, false, cond, true≢false}
use mathlib.Core.List.{List, [], ◌∷◌}
use Prim.Native.Nat.{ℕ, suc, ◌+◌, ◌-◌, ◌≤◌, ◌<◌}
use native.Mathlib.Omega.{arith}
use borrow.Author.Tests.{eqb-true, eqb-false, ne_eqb, le-leb, leb-true}
use lib.Dec.{eqb, leb}
use Rattle.settings.specs.declared.Settings.{Settings}
use Rattle.state.specs.State.{View, Call}
use Rattle.state.specs.Refusals.{step_fault}
use Rattle.state.proofs.Tests.{and_both, positive}
use Rattle.state.proofs.Fine.{Fine, fine}
use Rattle.detector.specs.Rules.{first_of, release_length, release_reach, releases, start_release}
use Rattle.detector.specs.Fresh.{fresh_view}
use Rattle.detector.specs.Step.{step_of}
use Rattle.detector.specs.Runs.{state_after, all_accepted}
use Rattle.detector.proofs.Cases.{Leaves, leaves}

-- how many of some calls move the release number
abbrev pub moves : Settings → Call → ℕ
moves g c = cond (releases g c.set_length) 1 0

unfoldable pub moving : Settings → List Call → ℕ
moving g [] = 0
moving g (c ∷ cs) = moves g c + moving g cs

-- a longer set moves it too
pub longer : (g : Settings) (long longest : ℕ) → long ≤ longest → releases g long ≡ true → releases g longest ≡ true
longer g long longest h e =
    let b = and_both (leb release_length long) _ e in
    rw (le-leb release_length longest (omega (arith, leb-true release_length long b.0))) b.1

-- a state after calls, the first of them numbered a, of which m move the release number
pub record Numbered (g : Settings) (a m : ℕ) (s : View) : Type 0 where
  pub settings : s.settings ≡ g
  pub begun : s.last_number ≡ 0 → ⊥
  pub positive : a ≡ 0 → ⊥
  pub first : s.first_number ≡ a
  -- one above it is the first call, or the tenth from the end of those that move it
  pub above : suc s.release ≡ a + (m - suc release_reach)
  pub within : a + m ≤ suc s.last_number
  -- no set grows, so if the last call moves it, all do
  pub all : releases g s.last_length ≡ true → suc s.last_number ≡ a + m

module _ (g : Settings) (c : Call) (s : View) (is : s.settings ≡ g) (e : step_fault s c ≡ 0) where
  w : Leaves s c (step_of s c)
  w = leaves s c e

  f : Fine s c
  f = fine s c e

  -- after a step with these numbers, whether it moves the release number or not
  now : (a m : ℕ) → (a ≡ 0 → ⊥) → first_of s c.number ≡ a → start_release s c.number + 1 ≡ a + (m - suc release_reach) → a + m ≤ c.number
      → (releases g c.set_length ≡ true → c.number ≡ a + m) → Numbered g a (m + moves g c) (step_of s c).state
  now a m some first start within all = by (releases g c.set_length) refl
    where
      by : (b : Bool) → releases g c.set_length ≡ b → Numbered g a (m + moves g c) (step_of s c).state
      by true t = record {
        settings = w.settings ∙ is;
        begun = λ z. f.begun (sym w.number ∙ z);
        positive = some;
        first = w.first ∙ first;
        above = rw (w.release, is, t, first) (omega (arith, positive a some, all t));
        within = rw (w.number, t) (omega arith);
        all = λ h. rw (w.number, t) (omega (arith, all t));
      }
      by false t = record {
        settings = w.settings ∙ is;
        begun = λ z. f.begun (sym w.number ∙ z);
        positive = some;
        first = w.first ∙ first;
        above = rw (w.release, is, t) (omega (arith, start));
        within = rw (w.number, t) (omega arith);
        all = λ h. absurd (true≢false (sym h ∙ rw w.size t));
      }

  -- the first call
  pub first_call : s.last_number ≡ 0 → Numbered g c.number (0 + moves g c) (step_of s c).state
  first_call none =
      now c.number 0 f.begun (rw none) (rw none (omega (arith, positive c.number f.begun))) (omega arith) (λ t. omega arith)

  -- each further one
  pub further : (a m : ℕ) → Numbered g a m s → Numbered g a (m + moves g c) (step_of s c).state
  further a m n =
      let was : eqb s.last_number 0 ≡ false = ne_eqb s.last_number 0 n.begun in
      let next = f.in_turn n.begun in
      let some = positive c.number f.begun in
      now a m n.positive (rw was n.first) (rw was (omega (arith, n.above))) (omega (arith, n.within))
      (λ t. omega (arith, n.all (longer g c.set_length s.last_length (f.shrinks n.begun) t)))

-- after any calls
then_numbered : (g : Settings) (a m : ℕ) (s : View) (cs : List Call) → Numbered g a m s → all_accepted s cs ≡ true
    → Numbered g a (m + moving g cs) (state_after s cs)
unfolding all_accepted state_after moving
then_numbered g a m s [] n t = let k : m + 0 ≡ m = omega arith in rw k n
then_numbered g a m s (c ∷ cs) n t =
    let u = and_both (eqb (step_fault s c) 0) _ t in
    let k : m + moves g c + moving g cs ≡ m + (moves g c + moving g cs) = omega arith in
    rw (← k)
    (then_numbered g a (m + moves g c) (step_of s c).state cs (further g c s n.settings (eqb-true _ _ u.0) a m n) u.1)

pub numbered : (g : Settings) (c : Call) (cs : List Call) → all_accepted (fresh_view g) (c ∷ cs) ≡ true
    → Numbered g c.number (moving g (c ∷ cs)) (state_after (fresh_view g) (c ∷ cs))
unfolding all_accepted state_after moving
numbered g c cs t =
    let u = and_both (eqb (step_fault (fresh_view g) c) 0) _ t in
    let k : 0 + moves g c + moving g cs ≡ moves g c + moving g cs = omega arith in
    rw (← k)
    (then_numbered g c.number (0 + moves g c) (step_of (fresh_view g) c).state cs (first_call g c (fresh_view g) refl (eqb-true _ _ u.0) refl) u.1)

-- ---- what is known of every state that calls reach from a fresh detector

pub record Known (g : Settings) (s : View) : Type 0 where
  pub settings : s.settings ≡ g
  pub none : s.last_number ≡ 0 → s.release ≡ 0
  pub begun : (s.last_number ≡ 0 → ⊥) → (a : ℕ) × (m : ℕ) × Numbered g a m s

pub fresh_known : (g : Settings) → Known g (fresh_view g)
fresh_known g = record { settings = refl; none = λ z. refl; begun = λ h. absurd (h refl) }

numbered_known : (g : Settings) (a m : ℕ) (s : View) → Numbered g a m s → Known g s
numbered_known g a m s n = record { settings = n.settings; none = λ z. absurd (n.begun z); begun = λ h. (a, m, n) }

-- each call is numbered above the release number before it, and does not lower it
module _ (g : Settings) (s : View) (c : Call) (k : Known g s) (e : step_fault s c ≡ 0) where
  abbrev Goes : Type 0
  Goes = Known g (step_of s c).state × (s.release < c.number) × (s.release ≤ (step_of s c).state.release)

  pub known_step : Goes
  known_step = by (eqb s.last_number 0) refl
    where
      n : 0 < c.number
      n = positive c.number (fine s c e).begun

      by : (b : Bool) → eqb s.last_number 0 ≡ b → Goes
      by true t =
          let z = eqb-true _ _ t in
          let now = first_call g c s k.settings e z in
          (numbered_known g _ _ _ now, omega (arith, n, k.none z), omega (arith, k.none z))
      by false t =
          let h = eqb-false _ _ t in
          let was = k.begun h in
          let now = further g c s k.settings e was.0 was.1 was.2 in (
            numbered_known g _ _ _ now,
            omega (arith, n, (fine s c e).in_turn h, was.2.within, was.2.above),
            omega (arith, was.2.above, now.above),
          )

pub known_after : (g : Settings) (s : View) (cs : List Call) → Known g s → all_accepted s cs ≡ true
    → Known g (state_after s cs) × (s.release ≤ (state_after s cs).release)
unfolding all_accepted state_after
known_after g s [] k t = (k, omega arith)
known_after g s (c ∷ cs) k t =
    let u = and_both (eqb (step_fault s c) 0) _ t in
    let w = known_step g s c k (eqb-true _ _ u.0) in
    let rest = known_after g (step_of s c).state cs w.0 u.1 in
    (rest.0, omega (arith, w.2, rest.1))
