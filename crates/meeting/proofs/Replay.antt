-- The replay theorem and what the recorder needs of it, of the three detectors that run: a history leaves what its accepted calls leave, and
-- of accepted calls it is proved (Again.antt), and stays so (Level.antt). The statements stand in specs/Replay.antt.
-- Assumes nothing.
use mathlib.Core.Path.{◌≡◌, refl, sym, ◌∙◌, ap, subst}
use mathlib.Core.Bool.{Bool, true, false}
use mathlib.Core.List.{List, [], ◌∷◌, ◌++◌, map}
use Prim.Native.Nat.{ℕ, zero, suc, ◌-◌, ◌≤◌}
use native.Mathlib.Omega.{arith}
use borrow.Author.Tests.{eqb-true, le-leb, leb-true}
use lib.Dec.{eqb, leb}
use lib.ListN.{drop}
use Rattle.settings.specs.declared.Settings.{Settings}
use Rattle.settings.specs.Settings.{normal_lookahead, lookahead_offset}
use Rattle.state.specs.State.{View, Call}
use Rattle.state.specs.Refusals.{step_fault}
use Rattle.state.specs.declared.State.{State}
use Rattle.state.proofs.Tests.{and_both}
use Rattle.detector.specs.Fresh.{fresh_view}
use Rattle.detector.specs.Step.{step_of}
use Rattle.detector.specs.Runs.{state_after, all_accepted, compared}
use Rattle.detector.specs.Histories.{Detector, kept_after, calls_in, accepted_in, History, by_value}
use Rattle.detector.proofs.Release.{Known, fresh_known, known_step, known_after}
use Rattle.detector.proofs.Histories.{Shows, sound_after, history_leaves, value_shows}
use Rattle.lent.specs.Places.{release_place}
use Rattle.lent.specs.Histories.{by_places, number_at, SamePlaces}
use Rattle.lent.proofs.Histories.{places_show, same_places}
use Rattle.brinepulley.specs.Histories.{in_c}
use Rattle.brinepulley.proofs.Histories.{c_shows}
use Rattle.meeting.specs.Calls.{as_read, All}
use Rattle.meeting.specs.Meeting.{SameState}
use Rattle.meeting.specs.Replay.{calls_from, first_again, Again, Replay, ReplayProved}
use Rattle.meeting.proofs.Lists.{all_so, all_join, all_any}
use Rattle.meeting.proofs.Onwards.{left, sound, stay}
use Rattle.meeting.proofs.Takes.{GoesOn, takes_behind, takes_all}
use Rattle.meeting.proofs.Level.{Level, level_step}
use Rattle.meeting.proofs.Again.{left_out, calls_are, scoring, calls_replay}

-- ---- the numbers of calls

above : (q : ℕ) (cs : List Call) → All (λ (c : Call). q ≤ c.number) (calls_from q cs)
above q [] = tt
above q (c ∷ cs) = by (leb q c.number) refl (above q cs)
  where
    by : (b : Bool) → leb q c.number ≡ b → All (λ (c : Call). q ≤ c.number) (calls_from q cs) → All (λ (c : Call). q ≤ c.number) (calls_from q (c ∷ cs))
    by true e rest = rw e (leb-true _ _ e, rest)
    by false e rest = rw e rest

later_above : (g : Settings) (r : ℕ) (s : View) (cs : List Call) → Known g s → r ≤ s.release → all_accepted s cs ≡ true
    → All (λ (c : Call). first_again r ≤ c.number) cs
unfolding all_accepted
later_above g r s [] k h t = tt
later_above g r s (c ∷ cs) k h t =
    let u = and_both (eqb (step_fault s c) 0) _ t in
    let w = known_step g s c k (eqb-true _ _ u.0) in
    (omega (arith, w.1), later_above g r (step_of s c).state cs w.0 (omega (arith, w.2)) u.1)

-- ---- of any detector that runs

module _ (D : Detector) (S : Shows D) (g : Settings) where
  -- what a history keeps at its end
  abbrev end : History D g → View
  end h = S.seen (kept_after D h.begun h.made)

  known : (h : History D g) → Known g (end h)
  known h =
      let x = left D S g h in
      rw x.0 (known_after g (fresh_view g) (accepted_in D h.made) (fresh_known g) x.1).0

  level : (old new : History D g) → Again g (end old).release (accepted_in D old.made) (accepted_in D new.made) → Level g (end old) (end new)
  level old new a =
      let x = left D S g old in
      let y = left D S g new in
      let again = subst (λ (r : ℕ). Again g r (accepted_in D old.made) (accepted_in D new.made)) (ap (λ (s : View). s.release) x.0) a in
      let same = calls_replay g (accepted_in D old.made) (accepted_in D new.made) again x.1 y.1 in
      record {
        met = record {
          one = (known old).settings;
          other = (known new).settings;
          same = ap compared x.0 ∙ same.0 ∙ sym (ap compared y.0);
        };
        release = ap (λ (s : View). s.release) x.0 ∙ same.1 ∙ sym (ap (λ (s : View). s.release) y.0);
        known = known old;
        also = known new;
      }

  -- the fresh one accepts these calls: they are all of the run, or A is 5 and no call gets 9
  accepts_again : (q : ℕ) (old new : History D g) → q ≤ first_again (end old).release
      → map (as_read g) (calls_from q (accepted_in D old.made)) ≡ map (as_read g) (calls_in D new.made)
      → accepted_in D new.made ≡ calls_in D new.made
  accepts_again q old new h same =
      by (accepted_in D old.made) (left D S g old).1 (subst (λ (v : View). q ≤ first_again v.release) (left D S g old).0 h) same
    where
      by : (cs : List Call) → all_accepted (fresh_view g) cs ≡ true → q ≤ first_again (state_after (fresh_view g) cs).release
          → map (as_read g) (calls_from q cs) ≡ map (as_read g) (calls_in D new.made) → accepted_in D new.made ≡ calls_in D new.made
      by [] t h same = takes_all D S g [] new t same
      by (x ∷ xs) t h same = part (q - x.number) refl
        where
          again : map (as_read g) (drop (q - x.number) (x ∷ xs)) ≡ map (as_read g) (calls_in D new.made)
          again = calls_are g x xs t q (calls_in D new.made) same

          part : (d : ℕ) → q - x.number ≡ d → accepted_in D new.made ≡ calls_in D new.made
          part zero e = takes_all D S g (x ∷ xs) new t (rw e at again)
          part (suc d) e =
              let few = left_out g x xs t q h in
              let ahead : leb normal_lookahead g.lookahead_distance ≡ true = le-leb _ _ (scoring g x xs t (q - x.number) few (omega arith)).1 in
              let five : lookahead_offset g ≡ normal_lookahead = rw ahead in
              takes_behind D S g (x ∷ xs) (q - x.number) new t
              (all_any (GoesOn g) (λ c one none. omega (arith, five, none)) (drop (q - x.number) (x ∷ xs))) again

-- all five, where states that show the same but for the two numbers are alike, and `release` reads the release number
module _ (D : Detector) (S : Shows D) (Alike : D.Kept → D.Kept → Type 0)
    (alike : (k l : D.Kept) → S.Sound k → S.Sound l → compared (S.seen k) ≡ compared (S.seen l) → Alike k l)
    (release : D.Kept → ℕ) (reads : (k : D.Kept) → release k ≡ (S.seen k).release)
  where
    same : (g : Settings) (k l : D.Kept) → S.Sound k → S.Sound l → Level g (S.seen k) (S.seen l) → Alike k l × (release k ≡ release l)
    same g k l p q w = (alike k l p q w.met.same, reads k ∙ w.release ∙ sym (reads l))

    leveled : (g : Settings) (old new : History D g)
        → Again g (release (kept_after D old.begun old.made)) (accepted_in D old.made) (accepted_in D new.made) → Level g (end D S g old) (end D S g new)
    leveled g old new a = level D S g old new (subst (λ (r : ℕ). Again g r (accepted_in D old.made) (accepted_in D new.made)) (reads _) a)

    replay : Replay D Alike release
    replay = record {
      replayed = λ g old new a. same g _ _ (sound D S g old) (sound D S g new) (leveled g old new a);
      stay_replayed = λ g old new a us vs f h e.
          let w = stay D S g (Level g) (level_step g) _ _ us vs (sound D S g old) (sound D S g new) (leveled g old new a) f h e in
          (w.0, same g _ _ (sound_after D S _ us (sound D S g old) f) (sound_after D S _ vs (sound D S g new) h) w.1);
      accepted_again = λ g q old new h e. accepts_again D S g q old new (subst (λ (r : ℕ). q ≤ first_again r) (reads _) h) e;
      frames_stay = λ g run later f.
          let r = release (kept_after D run.begun run.made) in
          let w = history_leaves D S (kept_after D run.begun run.made) later (sound D S g run) f in
          all_so (λ (c : Call). first_again r ≤ c.number) _ (λ c h x l. omega (arith, l.0))
          (calls_from (first_again r) (accepted_in D run.made) ++ accepted_in D later)
          (all_join (λ (c : Call). first_again r ≤ c.number) (calls_from (first_again r) (accepted_in D run.made)) (accepted_in D later)
          (above (first_again r) (accepted_in D run.made))
          (later_above g r (end D S g run) (accepted_in D later) (known D S g run) (omega (arith, reads (kept_after D run.begun run.made))) w.1));
      never_falls = λ g run later f.
          let k = kept_after D run.begun run.made in
          let w = history_leaves D S k later (sound D S g run) f in
          let rises = (known_after g (end D S g run) (accepted_in D later) (known D S g run) w.1).1 in
          omega (arith, reads k, reads (kept_after D k later), rises, ap (λ (s : View). s.release) w.0);
    }

-- ---- the detector whose state is handed on by value, the one over lent places, and the functions for C

pub replay_proved : ReplayProved
replay_proved = record {
  value = replay by_value value_shows SameState (λ s t p q e. e) (λ (s : State). s.release_number) (λ s. refl);
  places = replay by_places places_show SamePlaces same_places (number_at release_place) (λ p. refl);
  for_c = replay in_c c_shows SamePlaces same_places (number_at release_place) (λ p. refl);
}
