-- Bytes written over others: what stays, what stands there, and that bytes written behind others are written with them. Assumes nothing.
use mathlib.Core.Path.{◌≡◌, sym, ap, ◌∙◌}
use mathlib.Core.List.{List, [], ◌∷◌, ◌++◌, append_assoc, append-nil}
use Prim.Native.Nat.{ℕ, suc, ◌+◌, ◌-◌, ◌≤◌, ◌<◌}
use native.Mathlib.Nat.{add-zero}
use native.Mathlib.Omega.{arith}
use lib.ListN.{length, take, drop, get_or, set, length-append, length-take, length-drop, take-append-drop, drop_of_length-le}
use lib.Seq.{take_at, drop_at, take-append-le, length-take-le, drop-cons, drop-drop, take-take, take-add, take-append_seam, set_at, append_snoc}
use Rattle.octets.specs.Octets.{overwritten}

module _ (at : ℕ) (bs s : List ℕ) (h : at ≤ length s) where
  front_long : length (take at s) ≡ at
  front_long = length-take-le at s h

  written_long : length (take at s ++ bs) ≡ at + length bs
  written_long = omega (arith, length-append (take at s) bs, front_long)

  -- what stands before stays
  pub over_front : (k : ℕ) → k ≤ at → take k (overwritten at bs s) ≡ take k s
  unfolding overwritten
  over_front k l =
      rw (append_assoc (take at s) bs (drop (at + length bs) s))
      (take-append-le k (take at s) (bs ++ drop (at + length bs) s) (omega (arith, front_long)) ∙ take-take k at s l)

  -- from the place on
  pub over_drop : drop at (overwritten at bs s) ≡ bs ++ drop (at + length bs) s
  unfolding overwritten
  over_drop = rw (append_assoc (take at s) bs (drop (at + length bs) s)) (drop_at (take at s) (bs ++ drop (at + length bs) s) at front_long)

  -- the bytes stand there
  pub over_here : take (length bs) (drop at (overwritten at bs s)) ≡ bs
  over_here = rw over_drop (take-append_seam bs (drop (at + length bs) s))

  -- what stands behind them stays
  pub over_behind : drop (at + length bs) (overwritten at bs s) ≡ drop (at + length bs) s
  unfolding overwritten
  over_behind = drop_at (take at s ++ bs) (drop (at + length bs) s) (at + length bs) written_long

  -- all up to their end
  pub over_take : take (at + length bs) (overwritten at bs s) ≡ take at s ++ bs
  unfolding overwritten
  over_take = take_at (take at s ++ bs) (drop (at + length bs) s) (at + length bs) written_long

  -- the length: as it was, or up to the bytes' end
  pub over_length : length (overwritten at bs s) ≡ at + length bs + (length s - (at + length bs))
  unfolding overwritten
  over_length = omega (arith, length-append (take at s ++ bs) (drop (at + length bs) s), written_long, length-drop (at + length bs) s)

  -- bytes behind bytes
  pub over_next : (cs : List ℕ) → overwritten (at + length bs) cs (overwritten at bs s) ≡ overwritten at (bs ++ cs) s
  unfolding overwritten
  over_next cs =
      rw over_take'
      (ap (λ (l : List ℕ). (take at s ++ bs) ++ cs ++ l) behind ∙ again)
    where
      over_take' : take (at + length bs) (take at s ++ bs ++ drop (at + length bs) s) ≡ take at s ++ bs
      over_take' = take_at (take at s ++ bs) (drop (at + length bs) s) (at + length bs) written_long

      behind : drop (at + length bs + length cs) (take at s ++ bs ++ drop (at + length bs) s) ≡ drop (at + length (bs ++ cs)) s
      behind =
          let end : at + length bs + length cs ≡ at + length (bs ++ cs) = omega (arith, length-append bs cs) in
          sym (drop-drop (length cs) (at + length bs) (take at s ++ bs ++ drop (at + length bs) s))
          ∙ ap (drop (length cs)) (drop_at (take at s ++ bs) (drop (at + length bs) s) (at + length bs) written_long)
          ∙ drop-drop (length cs) (at + length bs) s
          ∙ ap (λ (k : ℕ). drop k s) end

      again : (take at s ++ bs) ++ cs ++ drop (at + length (bs ++ cs)) s ≡ take at s ++ (bs ++ cs) ++ drop (at + length (bs ++ cs)) s
      again = simp append_assoc

-- the same, where the place is known otherwise
pub over_join : (at k : ℕ) (bs cs s : List ℕ) → at ≤ length s → k ≡ at + length bs → overwritten k cs (overwritten at bs s) ≡ overwritten at (bs ++ cs) s
over_join at k bs cs s h e = rw e (over_next at bs s h cs)

-- where the bytes lie within the list, its length stays
pub over_long : (at : ℕ) (bs s : List ℕ) → at + length bs ≤ length s → length (overwritten at bs s) ≡ length s
over_long at bs s h = omega (arith, over_length at bs s (omega arith))

-- the same bytes again change nothing
pub over_same : (at n : ℕ) (s : List ℕ) → at + n ≤ length s → overwritten at (take n (drop at s)) s ≡ s
unfolding overwritten
over_same at n s h =
    let long : length (take n (drop at s)) ≡ n = omega (arith, length-take n (drop at s), length-drop at s) in
    rw (long, append_assoc (take at s) (take n (drop at s)) (drop (at + n) s), ← drop-drop n at s, take-append-drop n (drop at s))
    (take-append-drop at s)

-- farther behind the bytes too, all stays
pub over_past : (at : ℕ) (bs s : List ℕ) (k : ℕ) → at ≤ length s → at + length bs ≤ k → drop k (overwritten at bs s) ≡ drop k s
over_past at bs s k h l =
    let end : ℕ = at + length bs in
    let far : end + (k - end) ≡ k = omega arith in
    ap (λ (n : ℕ). drop n (overwritten at bs s)) (sym far)
    ∙ sym (drop-drop (k - end) end (overwritten at bs s))
    ∙ ap (drop (k - end)) (over_behind at bs s h)
    ∙ drop-drop (k - end) end s
    ∙ ap (λ (n : ℕ). drop n s) far

-- bytes written over no more bytes than they are: as if those had never been written
pub over_again : (at : ℕ) (bs cs s : List ℕ) → at ≤ length s → length cs ≤ length bs → overwritten at bs (overwritten at cs s) ≡ overwritten at bs s
unfolding overwritten
over_again at bs cs s h l =
    ap (λ (front : List ℕ). front ++ bs ++ drop (at + length bs) (overwritten at cs s)) (over_front at cs s h at (omega arith))
    ∙ ap (λ (behind : List ℕ). take at s ++ bs ++ behind) (over_past at cs s (at + length bs) h (omega arith))

-- where nothing stands behind the bytes, they are the end
pub over_end : (at : ℕ) (bs s : List ℕ) → length s ≤ at + length bs → overwritten at bs s ≡ take at s ++ bs
unfolding overwritten
over_end at bs s h = rw (drop_of_length-le s h) (append-nil (take at s ++ bs))

-- bytes written behind a front are written into the rest
pub over_rest : (m at : ℕ) (bs s : List ℕ) → overwritten (m + at) bs s ≡ take m s ++ overwritten at bs (drop m s)
unfolding overwritten
over_rest m at bs s =
    let far : m + at + length bs ≡ m + (at + length bs) = omega arith in
    rw (take-add m at s, drop-drop (at + length bs) m s, far) (simp append_assoc)

-- no byte changes nothing
pub over_none : (at : ℕ) (s : List ℕ) → overwritten at [] s ≡ s
unfolding overwritten
over_none at s = rw (append-nil (take at s), add-zero at) (take-append-drop at s)

-- a byte stored behind bytes is written with them
pub over_set : (at : ℕ) (bs s : List ℕ) (b : ℕ) → at + length bs < length s → set (overwritten at bs s) (at + length bs) b ≡ overwritten at (bs ++ b ∷ []) s
unfolding overwritten
over_set at bs s b h =
    let front : length (take at s ++ bs) ≡ at + length bs = omega (arith, length-append (take at s) bs, length-take-le at s (omega arith)) in
    let end : at + length (bs ++ b ∷ []) ≡ suc (at + length bs) = omega (arith, length-append bs (b ∷ [])) in
    ap (λ (l : List ℕ). set (take at s ++ bs ++ l) (at + length bs) b) (drop-cons s (at + length bs) 0 h)
    ∙ set_at (take at s ++ bs) (get_or s (at + length bs) 0) (drop (suc (at + length bs)) s) b (at + length bs) front
    ∙ sym (append_snoc (take at s ++ bs) b (drop (suc (at + length bs)) s))
    ∙ rw end (ap (λ (l : List ℕ). l ++ drop (suc (at + length bs)) s) (append_assoc (take at s) bs (b ∷ [])))

-- one byte stored
pub over_one : (at : ℕ) (s : List ℕ) (b : ℕ) → at < length s → set s at b ≡ overwritten at (b ∷ []) s
over_one at s b h = rw (over_none at s, add-zero at) at (over_set at [] s b (omega arith))
