-- Scoring a pair turns the closed form of the pairs before it into that of these and the pair, and the first entries of the closed form
-- depend on the newest pairs alone. No law of floats is used.
-- Assumes nothing.
use mathlib.Core.Path.{◌≡◌, refl, sym, ap}
use mathlib.Core.Bool.{Bool, true, false, cond}
use mathlib.Core.List.{List, [], ◌∷◌, ◌++◌, map}
use Prim.Native.Nat.{ℕ, zero, suc, ◌+◌, ◌-◌, ◌≤◌}
use native.Mathlib.Omega.{arith}
use lib.Dec.{ltb}
use lib.ListN.{length, take, length-append}
use lib.Seq.{take_all, take-take, take-append-le}
use lib.Ieee.{Float}
use borrow.Author.Tests.{ltb-true, ltb-false}
use Rattle.settings.specs.declared.Settings.{Settings}
use Rattle.score.specs.declared.ScenecutResult.{ScenecutResult}
use Rattle.score.specs.declared.Measure.{Measure}
use Rattle.score.specs.Deque.{trimmed_to}
use Rattle.score.specs.Scores.{zero_f, forward_of, with_forward, updated_from, updated_of, score_of}
use Rattle.score.proofs.Walk.{backward_walk}
use Rattle.score.proofs.Update.{update_take}
use Rattle.state.specs.State.{Call}
use Rattle.meeting.proofs.Lists.{take_map}
use Rattle.meeting.proofs.ClosedForm.{span, Item, cost, first_items, forward_from, entry_of, closed_entries_of}

abbrev inter : ScenecutResult → Float
inter e = e.inter_cost

-- ---- the update adds one later pair

abbrev none : {A : Type 0} → Bool → List A → Bool
none b [] = b
none b (x ∷ xs) = false

none_false : {A : Type 0} (xs : List A) → none false xs ≡ false
none_false [] = refl
none_false (x ∷ xs) = refl

forward_snoc : (own : Float) (b : Bool) (forward : Float) (xs : List Float) (new : Float)
    → forward_of (none b xs) new own (forward_from own b forward xs) ≡ forward_from own b forward (xs ++ (new ∷ []))
forward_snoc own b forward [] new = refl
forward_snoc own b forward (x ∷ xs) new = rw none_false at (forward_snoc own false (forward_of b x own forward) xs new)

-- how many of the newest pairs the first n entries depend on: five more than n; in Fast mode n
abbrev pub pairs_needed : Bool → ℕ → ℕ
pairs_needed fast n = cond fast n (n + span)

module _ (level : Float) where
  -- from five later pairs on, a further one changes nothing
  settled : (later : List Float) (new : Float) (h : List Item) → span ≤ length later
      → closed_entries_of false level later h ≡ closed_entries_of false level (later ++ (new ∷ [])) h
  settled later new [] k = refl
  settled later new (i ∷ h) k =
      rw (take-append-le span later (new ∷ []) k)
      (ap (λ (r : List ScenecutResult). entry_of false level later i h ∷ r) (settled (cost i ∷ later) new h (omega arith)))

  update_entries : (j : ℕ) (later : List Float) (new : Float) (h : List Item) → j + length later ≡ span
      → updated_from (none true later) j new (closed_entries_of false level later h) ≡ closed_entries_of false level (later ++ (new ∷ [])) h
  update_entries zero later new h k = settled later new h (omega arith)
  update_entries (suc j) later new [] k = refl
  update_entries (suc j) later new (i ∷ h) k =
      let more = later ++ (new ∷ []) in
      let short : length later ≤ span = omega arith in
      let long : length more ≤ span = omega (arith, length-append later (new ∷ [])) in
      let head : with_forward (none true later) new (entry_of false level later i h) ≡ entry_of false level more i h
      = rw (take_all span later short, take_all span more long, ← forward_snoc (cost i) true zero_f later new) in
      rw head (ap (λ (r : List ScenecutResult). entry_of false level more i h ∷ r) (update_entries j (cost i ∷ later) new h (omega arith)))

  -- ---- scoring one pair more

  costs : (fast : Bool) (later : List Float) (h : List Item) → map inter (closed_entries_of fast level later h) ≡ map cost h
  costs fast later [] = refl
  costs true later (i ∷ h) = ap (λ (r : List Float). cost i ∷ r) (costs true (cost i ∷ later) h)
  costs false later (i ∷ h) = ap (λ (r : List Float). cost i ∷ r) (costs false (cost i ∷ later) h)

  fast_later : (xs ys : List Float) (h : List Item) → closed_entries_of true level xs h ≡ closed_entries_of true level ys h
  fast_later xs ys [] = refl
  fast_later xs ys (i ∷ h) = ap (λ (r : List ScenecutResult). entry_of true level [] i h ∷ r) (fast_later (cost i ∷ xs) (cost i ∷ ys) h)

  pub score_entries : (fast : Bool) (i : Item) (h : List Item)
      → score_of fast level span i.pair i.measure (closed_entries_of fast level [] h) ≡ closed_entries_of fast level [] (i ∷ h)
  score_entries true i h = ap (λ (r : List ScenecutResult). entry_of true level [] i h ∷ r) (fast_later [] (cost i ∷ []) h)
  score_entries false i h = rw (backward_walk span (cost i) (closed_entries_of false level [] h), costs false [] h, update_entries span [] (cost i) h refl)

  -- scoring reads the first five entries alone, so what stands behind them may be cut off
  pub score_take : (fast : Bool) (pair : ℕ) (m : Measure) (c : ℕ) (l : List ScenecutResult) → span ≤ c
      → score_of fast level span pair m (take c l) ≡ take (suc c) (score_of fast level span pair m l)
  score_take true pair m c l k = refl
  score_take false pair m c l k =
      let read : take span (map inter (take c l)) ≡ take span (map inter l) = rw (← take_map inter c l) (take-take span c (map inter l) k) in
      let behind : updated_of span m.inter (take c l) ≡ take c (updated_of span m.inter l) = sym (update_take m.inter true span c l) in
      rw (backward_walk span m.inter (take c l), backward_walk span m.inter l, read, behind)

  -- an entry for each pair
  pub entries_long : (fast : Bool) (later : List Float) (h : List Item) → length (closed_entries_of fast level later h) ≡ length h
  entries_long fast later [] = refl
  entries_long fast later (i ∷ h) = ap suc (entries_long fast (cost i ∷ later) h)

  -- ---- the first n entries depend on those pairs alone

  pub local : (fast : Bool) (n m : ℕ) (later : List Float) (h : List Item) → pairs_needed fast n ≤ m
      → take n (closed_entries_of fast level later (take m h)) ≡ take n (closed_entries_of fast level later h)
  local fast zero m later h k = refl
  local true (suc n) zero later h k = absurd (omega arith)
  local false (suc n) zero later h k = absurd (omega arith)
  local fast (suc n) (suc m) later [] k = refl
  local true (suc n) (suc m) later (i ∷ h) k =
      ap (λ (r : List ScenecutResult). entry_of true level later i h ∷ r) (local true n m (cost i ∷ later) h (omega arith))
  local false (suc n) (suc m) later (i ∷ h) k =
      let e : take span (map cost (take m h)) ≡ take span (map cost h) = rw (← take_map cost m h) (take-take span m (map cost h) (omega arith)) in
      rw e (ap (λ (r : List ScenecutResult). entry_of false level later i h ∷ r) (local false n m (cost i ∷ later) h (omega arith)))

-- rule 7 on a list of one entry too many at the most
pub trim : (most : ℕ) (l : List ScenecutResult) → length l ≤ suc most → trimmed_to most l ≡ take most l
trim most l h = by (ltb most (length l)) refl
  where
    by : (b : Bool) → ltb most (length l) ≡ b → cond b (take (length l - 1) l) l ≡ take most l
    by true e =
        let n : length l - 1 ≡ most = omega (arith, ltb-true most (length l) e) in
        rw n
    by false e = sym (take_all most l (ltb-false most (length l) e))

-- so many first items
pub first_long : (g : Settings) (c : Call) (k : ℕ) → length (first_items g c k) ≡ k
unfolding first_items
first_long g c zero = refl
first_long g c (suc k) = ap suc (first_long g c k)
