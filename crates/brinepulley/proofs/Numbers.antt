-- What an i64 is made of: a number below 2 ^ 63 reads back as itself. Assumes nothing.
use mathlib.Core.Path.{◌≡◌, refl, sym, ap, subst, ◌∙◌}
use Prim.Native.Nat.{ℕ, ◌<◌, ◌^◌}
use borrow.Author.Tests.{lt-ltb}
use lib.IntN.{pos, neg_ℤ}
use mir.Syntax.{w64}
use mir.Val.{to_z}
use Rattle.answer.specs.Answer.{Answer, gives, answered}
use Rattle.answer.proofs.Laws.{answer_cases}
use Rattle.brinepulley.specs.Coded.{coded, done}
use Rattle.brinepulley.specs.Needs.{Codable}

read_small : (n : ℕ) → n < 2 ^ 63 → to_z w64 n ≡ pos n
read_small n h = rw (lt-ltb n (2 ^ 63) h)

-- an answer can be coded where its number can
pub codable_answer : (fault n : ℕ) → (fault ≡ 0 → n < 2 ^ 63) → Codable (answered fault n)
codable_answer fault n h = answer_cases Codable fault n h (λ _. tt)

-- a number of an answer that is given
module _ (a : Answer ℕ) (n : ℕ) where
  pub given_fits : a ≡ gives n → Codable a → n < 2 ^ 63
  given_fits e s = subst Codable e s

  pub given_coded : a ≡ gives n → Codable a → to_z w64 n ≡ coded a
  given_coded e s = read_small n (given_fits e s) ∙ ap coded (sym e)

-- 0 where nothing is refused, else the refusal negated: either is the number negated
pub done_coded : (fault : ℕ) → neg_ℤ (pos fault) ≡ coded (done fault)
done_coded fault =
    answer_cases (λ (a : Answer ℕ). neg_ℤ (pos fault) ≡ coded a) fault 0 (λ e. ap (λ (n : ℕ). neg_ℤ (pos n)) e) (λ _. refl)

-- .. and where nothing is refused, it is 0
pub done_none : pos 0 ≡ coded (done 0)
done_none = done_coded 0

pub ruleset dones = (done_coded, done_none)
