-- Two states that calls reach, the same but for the first number: equal calls get the same answer from both and leave them so. The first
-- numbers do not matter, since no set grows: a call that moves the release number comes behind calls that all moved it.
-- Assumes nothing.
use mathlib.Core.Path.{◌≡◌, refl, sym, ◌∙◌, ap}
use mathlib.Core.Bool.{Bool, true, false}
use Prim.Native.Nat.{ℕ, ◌+◌}
use native.Mathlib.Omega.{arith}
use borrow.Author.Tests.{eqb-true, eqb-false}
use lib.Dec.{eqb}
use Rattle.settings.specs.declared.Settings.{Settings}
use Rattle.state.specs.State.{View, Call}
use Rattle.state.specs.Refusals.{step_fault}
use Rattle.detector.specs.Rules.{releases}
use Rattle.detector.specs.Step.{Outcome, step_of}
use Rattle.detector.proofs.Cases.{leaves, step_refused}
use Rattle.detector.proofs.Release.{moves, Numbered, first_call, further, Known, known_step}
use Rattle.meeting.specs.Calls.{as_read}
use Rattle.meeting.proofs.Onwards.{Met, met_step, met_fault}

pub record Level (g : Settings) (s t : View) : Type 0 where
  pub met : Met g s t
  pub release : s.release ≡ t.release
  pub known : Known g s
  pub also : Known g t

module _ (g : Settings) (s t : View) (c d : Call) (l : Level g s t) (same : as_read g c ≡ as_read g d) where
  number : c.number ≡ d.number
  number = ap (λ (x : Call). x.number) same

  size : c.set_length ≡ d.set_length
  size = ap (λ (x : Call). x.set_length) same

  last : s.last_number ≡ t.last_number
  last = ap (λ (v : View). v.last_number) l.met.same

  -- an accepted call leaves the same release number in both
  module _ (e : step_fault s c ≡ 0) (f : step_fault t d ≡ 0) where
    abbrev Same : Type 0
    Same = (step_of s c).state.release ≡ (step_of t d).state.release

    begun : s.last_number ≡ 0 → Same
    begun z =
        let x = first_call g c s l.known.settings e z in
        let y = first_call g d t l.also.settings f (sym last ∙ z) in
        let k : moves g c ≡ moves g d = rw size in
        omega (arith, x.above, y.above, number)

    gone : (s.last_number ≡ 0 → ⊥) → Same
    gone h =
        let was = l.known.begun h in
        let is = l.also.begun (λ z. h (last ∙ z)) in
        let x = further g c s l.known.settings e was.0 was.1 was.2 in
        let y = further g d t l.also.settings f is.0 is.1 is.2 in
        by (releases g c.set_length) refl was is x y
      where
        by : (b : Bool) → releases g c.set_length ≡ b
            → (was : (a : ℕ) × (m : ℕ) × Numbered g a m s) → (is : (a : ℕ) × (m : ℕ) × Numbered g a m t)
            → Numbered g was.0 (was.1 + moves g c) (step_of s c).state → Numbered g is.0 (is.1 + moves g d) (step_of t d).state → Same
        by true p was is x y =
            let one : moves g c ≡ 1 = rw p in
            let other : moves g d ≡ 1 = rw (← size, p) in
            let v = leaves s c e in
            let w = leaves t d f in
            let all = x.all (rw v.size p) in
            let too = y.all (rw (w.size, ← size) p) in
            omega (arith, was.2.above, is.2.above, x.above, y.above, all, too, v.number, w.number, number, l.release)
        by false p was is x y =
            let one : moves g c ≡ 0 = rw p in
            let other : moves g d ≡ 0 = rw (← size, p) in
            omega (arith, was.2.above, is.2.above, x.above, y.above, l.release)

    same_release : Same
    same_release = by (eqb s.last_number 0) refl
      where
        by : (b : Bool) → eqb s.last_number 0 ≡ b → Same
        by true p = begun (eqb-true _ _ p)
        by false p = gone (eqb-false _ _ p)

  pub level_step : ((step_of s c).answer ≡ (step_of t d).answer) × Level g (step_of s c).state (step_of t d).state
  level_step = by (eqb (step_fault s c) 0) refl
    where
      both : ((step_of s c).answer ≡ (step_of t d).answer) × Met g (step_of s c).state (step_of t d).state
      both = met_step g s t c d l.met same

      by : (b : Bool) → eqb (step_fault s c) 0 ≡ b → ((step_of s c).answer ≡ (step_of t d).answer) × Level g (step_of s c).state (step_of t d).state
      by true p =
          let e = eqb-true _ _ p in
          let f = sym (met_fault g s t c d l.met same) ∙ e in (
            both.0,
            record {
              met = both.1;
              release = same_release e f;
              known = (known_step g s c l.known e).0;
              also = (known_step g t d l.also f).0;
            },
          )
      by false p =
          let h = eqb-false _ _ p in
          let x = ap (λ (o : Outcome). o.state) (step_refused s c h) in
          let y = ap (λ (o : Outcome). o.state) (step_refused t d (λ z. h (met_fault g s t c d l.met same ∙ z))) in
          (both.0, rw (x, y) l)
