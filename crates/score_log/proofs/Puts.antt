-- What is put behind what was put before stands there with it. Assumes nothing.
use mathlib.Core.Path.{◌≡◌, sym, ap, ◌∙◌}
use mathlib.Core.List.{List, [], ◌∷◌, ◌++◌, append_assoc}
use Prim.Native.Nat.{ℕ, ◌+◌, ◌≤◌, ◌<◌}
use native.Mathlib.Nat.{zero-add}
use native.Mathlib.Omega.{arith}
use lib.ListN.{length, take, drop, set}
use lib.Seq.{drop-drop}
use borrow.Rule.Slice.PartMut.{put_mid}
use Rattle.octets.specs.Octets.{bytes_of, overwritten, with_number}
use Rattle.octets.proofs.Laws.{with_here}
use Rattle.octets.proofs.Over.{over_length, over_join, over_one, over_end}

-- a part of a list, written, is bytes written from its place on
pub part_put : (at k : ℕ) (bs s : List ℕ) → length bs ≡ k → put_mid at k s bs ≡ overwritten at bs s
unfolding overwritten
part_put at k bs s e = rw (e, drop-drop k at s) (sym (append_assoc (take at s) bs (drop (at + k) s)))

-- and so is its front
pub front_put : (bs s part : List ℕ) → part ≡ bs → part ++ drop (length bs) s ≡ overwritten 0 bs s
unfolding overwritten
front_put bs s part e = rw (e, zero-add (length bs))

-- bytes written over as many are all there is
pub all_put : (bs s : List ℕ) → length bs ≡ length s → overwritten 0 bs s ≡ bs
all_put bs s e = over_end 0 bs s (omega arith)

module _ (at k : ℕ) (bs s t : List ℕ) (long : length bs ≡ k) (e : t ≡ overwritten at bs s) where
  same_long : at + k ≤ length s → length t ≡ length s
  same_long h = omega (arith, ap length e, over_length at bs s (omega arith))

  -- bytes
  pub bytes_next : (cs : List ℕ) → at + k ≤ length s → overwritten (at + k) cs t ≡ overwritten at (bs ++ cs) s
  bytes_next cs h = ap (overwritten (at + k) cs) e ∙ over_join at (at + k) bs cs s (omega arith) (omega arith)

  -- a number of n bytes
  pub number_next : (n x : ℕ) → at + k + n ≤ length s → with_number n (at + k) x t ≡ overwritten at (bs ++ bytes_of n x) s
  number_next n x h = with_here n (at + k) t (omega (arith, same_long (omega arith))) x ∙ bytes_next (bytes_of n x) (omega arith)

  -- one byte
  pub byte_next : (b : ℕ) → at + k < length s → set t (at + k) b ≡ overwritten at (bs ++ b ∷ []) s
  byte_next b h = over_one (at + k) t b (omega (arith, same_long (omega arith))) ∙ bytes_next (b ∷ []) (omega arith)
