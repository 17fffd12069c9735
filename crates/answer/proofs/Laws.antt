-- Laws of refusals and answers, cited by every crate that refuses. Assumes nothing.
use mathlib.Core.Path.{◌≡◌, refl, sym, ap, ◌∙◌}
use mathlib.Core.Bool.{Bool, true, false, ◌||◌, cond, true≢false}
use Prim.Native.Nat.{ℕ, suc}
use native.Mathlib.Nat.{suc-ne-zero}
use lib.Dec.{eqb}
use borrow.Author.Tests.{ne_eqb, eqb-true, eqb-false}
use Rattle.answer.specs.Refusal.{number_of, refusal, ◌or_else◌}
use Rattle.answer.specs.Answer.{Answer, gives, refused, answered, lent_after, answer_of, fault_in}
use Rattle.std.specs.Prelude.{Result, Ok, Err, IsOk}
use Rattle.answer.specs.declared.Refusal.{Refusal}
use Rattle.answer.specs.declared.Refusal.TheVariants.{BadPlane, PastSamples, SizesDiffer, NoRoom, BadDepth, BadSize, BadNumber, BadLength, Stop, BadList, BadState, NoMark, BadCut, NotRising, LogRoom, TooLarge, TooManyRows, RowsLeft, NoBlock}

-- neither of two tests holds
pub or_no : (a b : Bool) → a || b ≡ false → (a ≡ false) × (b ≡ false)
or_no true b e = absurd (true≢false e)
or_no false b e = (refl, e)

-- a refusal that is given comes first
pub or_given : (r f g : ℕ) → r ≡ f → (r ≡ 0 → ⊥) → r ≡ f or_else g
unfolding ◌or_else◌
or_given r f g e h = rw (← e, ne_eqb r 0 h)

-- and where it is not, the next ones speak
pub or_later : (r f g : ℕ) → 0 ≡ f → r ≡ g → r ≡ f or_else g
unfolding ◌or_else◌
or_later r f g e d = rw (← e, d)

-- where nothing is refused, neither refuses
pub or_none : (f g : ℕ) → f or_else g ≡ 0 → (f ≡ 0) × (g ≡ 0)
unfolding ◌or_else◌
or_none f g e = by_case (eqb f 0) f g (eqb-true f 0) (eqb-false f 0) e
  where
    by_case : (b : Bool) (f g : ℕ) → (b ≡ true → f ≡ 0) → (b ≡ false → f ≡ 0 → ⊥) → cond b g f ≡ 0 → (f ≡ 0) × (g ≡ 0)
    by_case true f g is isn't e = (is refl, e)
    by_case false f g is isn't e = absurd (isn't refl e)

-- and where neither refuses, nothing is refused
pub or_both : (f g : ℕ) → f ≡ 0 → g ≡ 0 → f or_else g ≡ 0
or_both f g e d = sym (or_later 0 f g (sym e) (sym d))

-- refusals may be grouped
pub or_group : (f g h : ℕ) → (f or_else g) or_else h ≡ f or_else (g or_else h)
unfolding ◌or_else◌
or_group f g h = by_case (eqb f 0) refl
  where
    by_case : (b : Bool) → eqb f 0 ≡ b → cond (eqb (cond b g f) 0) h (cond b g f) ≡ cond b (cond (eqb g 0) h g) f
    by_case true e = refl
    by_case false e = rw e

-- a refusal that is not given: its test fails
pub passed : (k : ℕ) (test : Bool) → refusal (suc k) test ≡ 0 → test ≡ false
passed k true e = absurd (suc-ne-zero k e)
passed k false e = refl

-- a refusal by its test: where it holds the refusal speaks, before all later ones
pub test_given : (k : ℕ) (test : Bool) → test ≡ true → k ≡ refusal k test
test_given k test e = rw e

pub test_first : (k g : ℕ) (test : Bool) → test ≡ true → suc k ≡ refusal (suc k) test or_else g
test_first k g test e = or_given (suc k) (refusal (suc k) test) g (test_given (suc k) test e) (suc-ne-zero k)

-- and where it fails the refusal is none, and the later ones speak
pub test_passed : (k : ℕ) (test : Bool) → test ≡ false → 0 ≡ refusal k test
test_passed k test e = rw e

pub test_later : (k r g : ℕ) (test : Bool) → test ≡ false → r ≡ g → r ≡ refusal k test or_else g
test_later k r g test e d = or_later r (refusal k test) g (test_passed k test e) d

-- an answer from its refusal's number: none, or one
pub answer_given : {A : Type 0} (fault : ℕ) (a b : A) → 0 ≡ fault → b ≡ a → gives b ≡ answered fault a
unfolding answered
answer_given fault a b e d = rw (← e, d)

pub answer_refused : {A : Type 0} (r fault : ℕ) (a : A) → r ≡ fault → (r ≡ 0 → ⊥) → refused r ≡ answered fault a
unfolding answered
answer_refused r fault a e h = rw (← e, ne_eqb r 0 h)

-- a lent place: written, or as it was
pub lent_written : {A : Type 0} (fault : ℕ) (new old : A) → 0 ≡ fault → new ≡ lent_after fault new old
unfolding lent_after
lent_written fault new old e = rw (← e)

pub lent_kept : {A : Type 0} (r fault : ℕ) (new old : A) → r ≡ fault → (r ≡ 0 → ⊥) → old ≡ lent_after fault new old
unfolding lent_after
lent_kept r fault new old e h = rw (← e, ne_eqb r 0 h)

-- what holds of both cases holds of an answer
pub answer_cases : {A : Type 0} (P : Answer A → Type 0) (fault : ℕ) (a : A) → (fault ≡ 0 → P (gives a)) → ((fault ≡ 0 → ⊥) → P (refused fault)) → P (answered fault a)
unfolding answered
answer_cases P fault a f g = by_case (eqb fault 0) (λ t. f (eqb-true fault 0 t)) (λ t. g (eqb-false fault 0 t))
  where
    by_case : (t : Bool) → (t ≡ true → P (gives a)) → (t ≡ false → P (refused fault)) → P (cond t (gives a) (refused fault))
    by_case true f g = f refl
    by_case false f g = g refl

-- two values that agree where nothing is refused make one answer
pub answer_same : {A : Type 0} (fault : ℕ) (a b : A) → (fault ≡ 0 → a ≡ b) → answered fault a ≡ answered fault b
unfolding answered
answer_same fault a b e = by_case (eqb fault 0) (λ t. e (eqb-true fault 0 t))
  where
    by_case : (t : Bool) → (t ≡ true → a ≡ b) → cond t (gives a) (refused fault) ≡ cond t (gives b) (refused fault)
    by_case true e = ap gives (e refl)
    by_case false e = refl

-- two enum answers with the same number and value are the same: the way back gives each
module _ {E A : Type 0} (to : E → Answer A) (back : Answer A → E) (same : (r : E) → back (to r) ≡ r) where
  pub only : (r s : E) → to r ≡ to s → r ≡ s
  only r s e = sym (same r) ∙ ap back e ∙ same s

-- a refusal has a number of its own, and 0 is none's
pub by_number : ℕ → Refusal
by_number n =
    cond (eqb n 1) BadPlane (cond (eqb n 2) PastSamples (cond (eqb n 3) SizesDiffer (cond (eqb n 4) NoRoom (cond (eqb n 5) BadDepth (cond (eqb n 6) BadSize (cond (eqb n 7) BadNumber (cond (eqb n 8) BadLength (cond (eqb n 9) Stop (cond (eqb n 10) BadList (cond (eqb n 11) BadState (cond (eqb n 12) NoMark (cond (eqb n 13) BadCut (cond (eqb n 14) NotRising (cond (eqb n 15) LogRoom (cond (eqb n 16) TooLarge (cond (eqb n 17) TooManyRows (cond (eqb n 18) RowsLeft (NoBlock))))))))))))))))))

pub by_number_of : (e : Refusal) → by_number (number_of e) ≡ e
unfolding by_number
by_number_of BadPlane = refl
by_number_of PastSamples = refl
by_number_of SizesDiffer = refl
by_number_of NoRoom = refl
by_number_of BadDepth = refl
by_number_of BadSize = refl
by_number_of BadNumber = refl
by_number_of BadLength = refl
by_number_of Stop = refl
by_number_of BadList = refl
by_number_of BadState = refl
by_number_of NoMark = refl
by_number_of BadCut = refl
by_number_of NotRising = refl
by_number_of LogRoom = refl
by_number_of TooLarge = refl
by_number_of TooManyRows = refl
by_number_of RowsLeft = refl
by_number_of NoBlock = refl

pub number_only : (e d : Refusal) → number_of e ≡ number_of d → e ≡ d
number_only e d p = sym (by_number_of e) ∙ ap by_number p ∙ by_number_of d

pub number_some : (e : Refusal) → number_of e ≡ 0 → ⊥
number_some BadPlane p = suc-ne-zero _ p
number_some PastSamples p = suc-ne-zero _ p
number_some SizesDiffer p = suc-ne-zero _ p
number_some NoRoom p = suc-ne-zero _ p
number_some BadDepth p = suc-ne-zero _ p
number_some BadSize p = suc-ne-zero _ p
number_some BadNumber p = suc-ne-zero _ p
number_some BadLength p = suc-ne-zero _ p
number_some Stop p = suc-ne-zero _ p
number_some BadList p = suc-ne-zero _ p
number_some BadState p = suc-ne-zero _ p
number_some NoMark p = suc-ne-zero _ p
number_some BadCut p = suc-ne-zero _ p
number_some NotRising p = suc-ne-zero _ p
number_some LogRoom p = suc-ne-zero _ p
number_some TooLarge p = suc-ne-zero _ p
number_some TooManyRows p = suc-ne-zero _ p
number_some RowsLeft p = suc-ne-zero _ p
number_some NoBlock p = suc-ne-zero _ p

-- two results with the same answer are the same
pub answer_only : {A : Type 0} (r s : Result A Refusal) → answer_of r ≡ answer_of s → r ≡ s
answer_only (Ok a) (Ok b) p = cc p
answer_only (Ok a) (Err d) p = cc p
answer_only (Err e) (Ok b) p = cc p
answer_only (Err e) (Err d) p =
    let same : number_of e ≡ number_of d = cc p in ap Err (number_only e d same)

pub fault_only : (r s : Result Unit Refusal) → fault_in r ≡ fault_in s → r ≡ s
fault_only (Ok u) (Ok v) p = refl
fault_only (Ok u) (Err d) p = absurd (number_some d (sym p))
fault_only (Err e) (Ok u) p = absurd (number_some e p)
fault_only (Err e) (Err d) p = ap Err (number_only e d p)

-- a refusal that is handed on comes first
pub number_first : (e : Refusal) (f g : ℕ) → number_of e ≡ f → number_of e ≡ f or_else g
number_first e f g p = or_given _ f g p (number_some e)

-- by these the check finds that a refusal is the first that applies: one that is handed on comes first, and where it is none the next ones speak
pub ruleset refusals = (number_first, or_later)

-- the answer of a result: the refusal that is handed on, or the value where there is none
pub answer_handed : {A : Type 0} (e : Refusal) (fault : ℕ) (a : A) → number_of e ≡ fault → refused (number_of e) ≡ answered fault a
answer_handed e fault a p = answer_refused _ fault a p (number_some e)

pub ruleset answers = (answer_handed, answer_given)

-- a result without a refusal holds a value
pub fault_ok : {A : Type 0} (r : Result A Refusal) → fault_in r ≡ 0 → IsOk r
fault_ok (Ok a) p = refl
fault_ok (Err e) p = absurd (number_some e p)

abbrev is_given : {A : Type 0} → Answer A → Bool
is_given (gives a) = true
is_given (refused r) = false

-- what answers one value tells of another: a refusal is handed on, and a value is given where nothing is refused
pub handed_on : {A B : Type 0} (fault : ℕ) (v : A) (w : B) (n : ℕ) → refused n ≡ answered fault v → refused n ≡ answered fault w
handed_on {A} fault v w n =
    answer_cases (λ (x : Answer A). refused n ≡ x → refused n ≡ answered fault w) fault v
    (λ z e. absurd (true≢false (sym (ap is_given e))))
    (λ h e. let same : n ≡ fault = cc in answer_refused n fault w same (λ z. h (sym same ∙ z)))

pub given_by : {A : Type 0} (fault : ℕ) (v a : A) → gives a ≡ answered fault v → (fault ≡ 0) × (a ≡ v)
given_by {A} fault v a =
    answer_cases (λ (x : Answer A). gives a ≡ x → (fault ≡ 0) × (a ≡ v)) fault v (λ z e. (z, cc)) (λ h e. absurd (true≢false (ap is_given e)))

-- a lent place, where something is refused
pub lent_stays : {A : Type 0} (fault : ℕ) (new old : A) → (fault ≡ 0 → ⊥) → old ≡ lent_after fault new old
lent_stays fault new old h = lent_kept fault fault new old refl h

pub ruleset lents = (lent_stays, lent_written, number_some)

pub refused_is : {A : Type 0} (fault n : ℕ) (v : A) → refused n ≡ answered fault v → n ≡ fault
refused_is {A} fault n v =
    answer_cases (λ (x : Answer A). refused n ≡ x → n ≡ fault) fault v (λ z e. absurd (true≢false (sym (ap is_given e)))) (λ h e. cc)
