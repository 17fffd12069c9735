-- A fresh detector accepts the calls that an old one has accepted, or the last of them: it has no last call to be refused by, and then its
-- last call is the old one's; every state that calls reach passes 11; the lists that are read are the same.
-- Assumes nothing.
use mathlib.Core.Path.{◌≡◌, refl, sym, ◌∙◌, ap}
use mathlib.Core.Bool.{true}
use mathlib.Core.List.{List, ◌++◌, map}
use Prim.Native.Nat.{ℕ}
use native.Mathlib.Omega.{arith}
use lib.ListN.{take, drop, take-append-drop}
use Rattle.settings.specs.declared.Settings.{Settings}
use Rattle.settings.specs.Settings.{lookahead_offset}
use Rattle.state.specs.State.{View, Call}
use Rattle.state.specs.Refusals.{state_fault, step_fault}
use Rattle.state.proofs.Well.{well}
use Rattle.state.proofs.Fine.{Fine, fine, accepts}
use Rattle.detector.specs.Fresh.{fresh_view}
use Rattle.detector.specs.Step.{step_of}
use Rattle.detector.specs.Runs.{state_after, all_accepted}
use Rattle.detector.specs.Histories.{Detector, calls_in, accepted_in, History}
use Rattle.detector.proofs.Cases.{leaves}
use Rattle.detector.proofs.Reach.{fresh_passes, step_passes}
use Rattle.detector.proofs.Left.{settings_kept}
use Rattle.detector.proofs.Account.{accepted_parts, settings_after}
use Rattle.detector.proofs.Histories.{Shows}
use Rattle.meeting.specs.Calls.{as_read, All}
use Rattle.meeting.proofs.Lists.{all_any}
use Rattle.meeting.proofs.AsRead.{same_fault}
use Rattle.meeting.proofs.Onwards.{takes, Met, met_step, met_fault}

-- a state that passes 11 and has no last call, or the same one
pub record Behind (g : Settings) (s t : View) : Type 0 where
  pub settings : s.settings ≡ g
  pub also : t.settings ≡ g
  pub passes : state_fault t ≡ 0
  pub number : (t.last_number ≡ 0 → ⊥) → t.last_number ≡ s.last_number
  pub size : (t.last_number ≡ 0 → ⊥) → t.last_length ≡ s.last_length

-- it is never at a call that refusal 9 may forbid
abbrev pub GoesOn : Settings → Call → Type 0
GoesOn g c = c.set_length ≡ 1 → lookahead_offset g ≡ 0 → ⊥

module _ (g : Settings) (s t : View) (c d : Call) (b : Behind g s t) (go : GoesOn g c) (e : step_fault s c ≡ 0) (same : as_read g c ≡ as_read g d) where
  abbrev f : Fine s c
  f = fine s c e

  here : Fine t c
  here =
      let was = b.settings in
      let is = b.also in
      record {
        state = well t b.passes;
        begun = f.begun;
        small = f.small;
        behind = f.behind;
        in_turn = λ h. f.in_turn (λ z. h (b.number h ∙ z)) ∙ sym (b.number h);
        short = f.short;
        shrinks = λ h. omega (arith, f.shrinks (λ z. h (b.number h ∙ z)), b.size h);
        goes = λ one none o. absurd (go one (ap lookahead_offset (sym is) ∙ none));
        inter = rw is (rw was at f.inter);
        importance = rw is (rw was at f.importance);
        threshold = rw is (rw was at f.threshold);
      }

  taken : step_fault t d ≡ 0
  taken = sym (same_fault g t c d b.also same) ∙ accepts t c here

  pub behind_step : (step_fault t d ≡ 0) × Behind g (step_of s c).state (step_of t d).state
  behind_step =
      let x = leaves s c e in
      let y = leaves t d taken in (
        taken,
        record {
          settings = settings_kept s c ∙ b.settings;
          also = settings_kept t d ∙ b.also;
          passes = step_passes t d b.passes;
          number = λ h. y.number ∙ sym (ap (λ (w : Call). w.number) same) ∙ sym x.number;
          size = λ h. y.size ∙ sym (ap (λ (w : Call). w.set_length) same) ∙ sym x.size;
        },
      )

module _ (D : Detector) (S : Shows D) (g : Settings) where
  -- a fresh detector is given accepted calls of `old`, but for the first d
  pub takes_behind : (old : List Call) (d : ℕ) (new : History D g) → all_accepted (fresh_view g) old ≡ true → All (GoesOn g) (drop d old)
      → map (as_read g) (drop d old) ≡ map (as_read g) (calls_in D new.made) → accepted_in D new.made ≡ calls_in D new.made
  takes_behind old d new t go same =
      let b = S.begins g new.begun new.fresh in
      let split : take d old ++ drop d old ≡ old = take-append-drop d old in
      let parts = accepted_parts (fresh_view g) (take d old) (drop d old) (rw split t) in
      let behind : Behind g (state_after (fresh_view g) (take d old)) (S.seen new.begun) = rw b.1 (record {
        settings = settings_after (fresh_view g) (take d old);
        also = refl;
        passes = fresh_passes g b.2;
        number = λ h. absurd (h refl);
        size = λ h. absurd (h refl);
      }) in
      takes D S g (Behind g) (GoesOn g) (behind_step g) (state_after (fresh_view g) (take d old)) new.begun (drop d old) new.made behind parts.1 go
      b.0 new.follows same

  -- .. or all of them, of whatever kind
  pub takes_all : (old : List Call) (new : History D g) → all_accepted (fresh_view g) old ≡ true
      → map (as_read g) old ≡ map (as_read g) (calls_in D new.made) → accepted_in D new.made ≡ calls_in D new.made
  takes_all old new t same =
      let b = S.begins g new.begun new.fresh in
      let met : Met g (fresh_view g) (S.seen new.begun) = rw b.1 (record { one = refl; other = refl; same = refl }) in
      takes D S g (Met g) (λ (c : Call). Unit {0})
      (λ s u c d m p e r. (sym (met_fault g s u c d m r) ∙ e, (met_step g s u c d m r).1)) (fresh_view g) new.begun old new.made met t
      (all_any (λ (c : Call). Unit {0}) (λ c. tt) old) b.0 new.follows same
