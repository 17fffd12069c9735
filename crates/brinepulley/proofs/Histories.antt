-- The C functions keep to the definitions as the detector over lent places does: the number that comes back is below 0 just where a refusal
-- applies, and is fixed by the answer.
-- Assumes nothing.
use mathlib.Core.Path.{◌≡◌, refl, sym, ◌∙◌, ap}
use mathlib.Core.Bool.{false, true≢false}
use mathlib.Core.List.{List}
use Prim.Native.Nat.{ℕ, zero, suc}
use lib.Dec.{eqb}
use lib.IntN.{pos, neg_ℤ}
use lib.Ieee.{Float}
use borrow.Author.Tests.{eq-eqb, ne_eqb}
use Rattle.answer.specs.Answer.{Answer}
use Rattle.answer.proofs.Laws.{answer_cases, answer_given}
use Rattle.settings.specs.declared.Settings.{Settings}
use Rattle.state.specs.State.{View, Call}
use Rattle.state.specs.Refusals.{step_fault}
use Rattle.detector.specs.Step.{Verdict, step_of}
use Rattle.detector.specs.Numbers.{AlwaysNumbered}
use Rattle.detector.proofs.Cases.{step_cases}
use Rattle.detector.proofs.Numbered.{always_numbered}
use Rattle.detector.proofs.Histories.{Shows}
use Rattle.detector.proofs.Makes.{Makes}
use Rattle.lent.specs.Lent.{fresh_fault, lent_step}
use Rattle.lent.specs.Histories.{Places}
use Rattle.lent.proofs.Histories.{Sound, seen, leaves_state, stays_sound, answers, fresh_sound, places_after, fresh_places}
use Rattle.brinepulley.specs.Coded.{coded, done, decided}
use Rattle.brinepulley.specs.Histories.{not_negative, in_c}

negated : (f : ℕ) → (f ≡ 0 → ⊥) → not_negative (neg_ℤ (pos f)) ≡ false
negated zero h = absurd (h refl)
negated (suc f) h = refl

pub told : (s : View) (c : Call) → not_negative (coded (decided (step_of s c).answer)) ≡ eqb (step_fault s c) 0
told s c =
    step_cases s c (λ o. not_negative (coded (decided o.answer)) ≡ eqb (step_fault s c) 0)
    (λ h. negated (step_fault s c) h ∙ sym (ne_eqb _ 0 h)) (λ e cut i. sym (eq-eqb _ 0 e)) (λ e l m. sym (eq-eqb _ 0 e))

-- 0 comes back where no refusal applies
pub accepted : (f : ℕ) → pos 0 ≡ coded (done f) → 0 ≡ f
accepted f =
    answer_cases (λ a. pos 0 ≡ coded a → 0 ≡ f) f 0 (λ z e. sym z) (λ h e. absurd (true≢false (ap not_negative e ∙ negated f h)))

abbrev pub c_shows : Shows in_c
c_shows = record {
  Sound = Sound;
  seen = seen;
  begins = λ g p b. fresh_sound g p (b.0, accepted (fresh_fault b.0 p.scores g) b.1, b.2);
  stays = λ p q c r w d. stays_sound p q c w d.1;
  steps = λ p q c r w d. leaves_state p q c w d.1;
  tells = λ p q c r w d. ap not_negative (d.0 ∙ ap (λ (a : Answer Verdict). coded (decided a)) (answers p c w)) ∙ told (seen p) c;
  replies = λ p q p' q' c d r r' w w' h h' e.
      h.0 ∙ ap (λ (a : Answer Verdict). coded (decided a)) (answers p c w ∙ e ∙ sym (answers p' d w')) ∙ sym h'.0;
}

-- so the numbers in the places are always in order
pub c_numbered : AlwaysNumbered in_c seen
c_numbered = always_numbered in_c c_shows

-- every call has such a result, and so has every fresh detector that is not refused
abbrev pub c_makes : Makes in_c
c_makes = record {
  reply = λ (p : Places) (c : Call). coded (decided (lent_step p.numbers p.scores c).answer);
  after = places_after;
  allowed = λ p c. (refl, (refl, refl));
}

pub c_begins : (ns : List ℕ) (xs : List Float) (g : Settings) → 0 ≡ fresh_fault ns xs g → in_c.Begins g (fresh_places ns xs g)
c_begins ns xs g e = (ns, ap coded (answer_given (fresh_fault ns xs g) 0 0 e refl), refl)
