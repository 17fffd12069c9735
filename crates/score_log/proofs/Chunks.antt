-- The first chunks of n elements of a list, by their places. Assumes nothing.
use mathlib.Core.Path.{◌≡◌, sym, ap, ◌∙◌}
use mathlib.Core.List.{List}
use Prim.Native.Nat.{ℕ, zero, suc, ◌+◌, ◌*◌, ◌<◌}
use native.Mathlib.Nat.{zero-mul}
use native.Mathlib.Omega.{arith}
use lib.ListN.{take, drop, get_or}
use lib.Seq.{drop-drop}
use Rattle.std.specs.Simd.{first_chunks}

pub chunk_at : (n k i : ℕ) (s d : List ℕ) → i < k → get_or (first_chunks n k s) i d ≡ take n (drop (i * n) s)
chunk_at n zero i s d l = absurd (omega arith)
chunk_at n (suc k) zero s d l = ap (λ (j : ℕ). take n (drop j s)) (sym (zero-mul n))
chunk_at n (suc k) (suc i) s d l =
    let far : n + i * n ≡ suc i * n = omega arith in
    chunk_at n k i (drop n s) d (omega arith) ∙ ap (take n) (drop-drop (i * n) n s ∙ ap (λ (j : ℕ). drop j s) far)
