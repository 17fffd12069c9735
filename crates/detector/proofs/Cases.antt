-- A step is refused, or decides without a score, or with one. What is to be shown of every step is shown of these three; and what
-- every accepted call leaves.
-- Assumes nothing.
use mathlib.Core.Path.{◌≡◌, refl, ◌∙◌}
use mathlib.Core.Bool.{Bool, true, false}
use Prim.Native.Nat.{ℕ, ◌-◌, ◌<◌}
use native.Mathlib.Omega.{arith}
use borrow.Author.Tests.{eq-eqb, ne_eqb, eqb-true, eqb-false, leb-true, leb-false, lt-leb}
use lib.Dec.{eqb, leb}
use lib.ListN.{length, get_or}
use mathlib.Core.List.{List}
use Rattle.std.specs.Prelude.{Some}
use Rattle.score.specs.declared.ScenecutResult.{ScenecutResult}
use Rattle.score.specs.Deque.{no_score}
use Rattle.answer.specs.Answer.{Answer, gives, refused}
use Rattle.settings.specs.Settings.{lookahead_offset, is_none}
use Rattle.state.specs.State.{View, Call}
use Rattle.state.specs.Refusals.{step_fault}
use Rattle.detector.specs.Rules.{Turn, rule2, rule3, rule6, rule7, first_of, release_of, next_of}
use Rattle.detector.specs.Step.{Verdict, Outcome, is_refused, progress_of, bare_of, scored_of, accepted_of, step_of}

module _ (s : View) (c : Call) where
  -- rule 2, rule 3, and where neither applies
  pub stays : rule2 s.settings c.set_length ≡ true → accepted_of s c ≡ bare_of s c.set_length c.number false
  unfolding accepted_of
  stays k = rw k

  pub silent : rule2 s.settings c.set_length ≡ false → is_none s.settings ≡ true
      → accepted_of s c ≡ bare_of s c.set_length c.number (rule3 s.settings (c.number - c.keyframe))
  unfolding accepted_of
  silent k m = rw (k, m)

  pub goes_on : rule2 s.settings c.set_length ≡ false → is_none s.settings ≡ false → accepted_of s c ≡ scored_of s c (progress_of s c)
  unfolding accepted_of
  goes_on k m = rw (k, m)

  -- an outcome with a score, by its parts
  pub scored_is : (t : Turn) (cut : Bool) (score : ScenecutResult) (kept : List ScenecutResult) (state : View)
      → cut ≡ rule6 s.settings (c.number - c.keyframe) t
      → score ≡ get_or t.entries t.offset no_score
      → kept ≡ rule7 s.settings t.entries
      → state ≡ next_of s c.set_length c.number kept t.offset
      → ◌≡◌ {A = Outcome} (record { answer = gives (record { cut = cut; score = Some score }); state = state }) (scored_of s c t)
  scored_is t cut score kept state p q r e = rw (e, r, q, p)

  pub step_refused : (step_fault s c ≡ 0 → ⊥) → step_of s c ≡ record { answer = refused (step_fault s c); state = s }
  unfolding step_of
  step_refused h = rw (ne_eqb (step_fault s c) 0 h)

  pub step_accepted : step_fault s c ≡ 0 → step_of s c ≡ accepted_of s c
  unfolding step_of
  step_accepted e = rw (eq-eqb (step_fault s c) 0 e)

  pub step_scored : step_fault s c ≡ 0 → lookahead_offset s.settings < c.set_length → is_none s.settings ≡ false
      → step_of s c ≡ scored_of s c (progress_of s c)
  step_scored e h m = step_accepted e ∙ goes_on (lt-leb _ _ h) m

  module _ (P : Outcome → Type 0) where
    -- without a score the set has no more than A frames, or the mode is None
    pub accepted_cases : ((cut : Bool) → (lookahead_offset s.settings < c.set_length → is_none s.settings ≡ true) → P (bare_of s c.set_length c.number cut))
        → (lookahead_offset s.settings < c.set_length → is_none s.settings ≡ false → P (scored_of s c (progress_of s c)))
        → P (accepted_of s c)
    accepted_cases bare scored = by (leb c.set_length (lookahead_offset s.settings)) (is_none s.settings) refl refl
      where
        by : (x y : Bool) → leb c.set_length (lookahead_offset s.settings) ≡ x → is_none s.settings ≡ y → P (accepted_of s c)
        by true y p q = rw (stays p) (bare false (λ l. absurd (omega (arith, leb-true c.set_length (lookahead_offset s.settings) p))))
        by false true p q = rw (silent p q) (bare _ (λ l. q))
        by false false p q = rw (goes_on p q) (scored (leb-false _ _ p) q)

    pub step_cases : ((step_fault s c ≡ 0 → ⊥) → P (record { answer = refused (step_fault s c); state = s }))
        → (step_fault s c ≡ 0 → (cut : Bool) → (lookahead_offset s.settings < c.set_length → is_none s.settings ≡ true) → P (bare_of s c.set_length c.number cut))
        → (step_fault s c ≡ 0 → lookahead_offset s.settings < c.set_length → is_none s.settings ≡ false → P (scored_of s c (progress_of s c)))
        → P (step_of s c)
    step_cases none bare scored = by (eqb (step_fault s c) 0) refl
      where
        by : (x : Bool) → eqb (step_fault s c) 0 ≡ x → P (step_of s c)
        by true p = let e = eqb-true (step_fault s c) 0 p in rw (step_accepted e) (accepted_cases (bare e) (scored e))
        by false p = let h = eqb-false (step_fault s c) 0 p in rw (step_refused h) (none h)

-- what an accepted call leaves, whatever its rule
pub record Leaves (s : View) (c : Call) (o : Outcome) : Type 0 where
  pub decided : is_refused o.answer ≡ false
  pub settings : o.state.settings ≡ s.settings
  pub counted : o.state.count ≡ length o.state.entries
  pub number : o.state.last_number ≡ c.number
  pub size : o.state.last_length ≡ c.set_length
  pub first : o.state.first_number ≡ first_of s c.number
  pub release : o.state.release ≡ release_of s c.set_length c.number

module _ (s : View) (c : Call) where
  pub accepted_leaves : Leaves s c (accepted_of s c)
  accepted_leaves =
      accepted_cases s c (Leaves s c)
      (λ cut i. record { decided = refl; settings = refl; counted = refl; number = refl; size = refl; first = refl; release = refl })
      (λ l m. record { decided = refl; settings = refl; counted = refl; number = refl; size = refl; first = refl; release = refl })

  pub leaves : step_fault s c ≡ 0 → Leaves s c (step_of s c)
  leaves e = rw (step_accepted s c e) accepted_leaves

  -- a call that is decided is not refused
  pub decided_accepted : (v : Verdict) → (step_of s c).answer ≡ gives v → step_fault s c ≡ 0
  decided_accepted v =
      step_cases s c (λ o. o.answer ≡ gives v → step_fault s c ≡ 0) (λ f h. absurd (clash _ h)) (λ e cut i h. e) (λ e l m h. e)
    where
      clash : (f : ℕ) → ◌≡◌ {A = Answer Verdict} (refused f) (gives v) → ⊥
      clash f k = let z : ◌≡◌ {A = ℕ} 0 1 = cc in omega arith
