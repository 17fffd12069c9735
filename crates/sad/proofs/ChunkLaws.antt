-- Sums over two lists that are taken chunk by chunk from the front: what was summed and what is left. Assumes nothing.
use mathlib.Core.Bool.{Bool, true, false, ◌||◌}
use mathlib.Core.List.{List, ◌++◌}
use mathlib.Core.Path.{◌≡◌, refl, sym, ap, ◌∙◌}
use Prim.Native.Nat.{ℕ, ◌+◌, ◌-◌, ◌*◌, ◌%◌, ◌≤◌, ◌<◌, ◌^◌}
use native.Mathlib.Nat.{add-mod_left, mod-eq_of_lt, mul-le-mul_right}
use native.Mathlib.Omega.{arith}
use lib.Bits.{bit_or}
use lib.Dec.{leb}
use lib.ListN.{length, get_or, take, drop, get_or-append, length-append, length-drop, length-take}
use lib.Seq.{take-length}
use Rattle.std.proofs.lemmas.List.{get_or-append-add, take-append-drop, drop-drop}
use Rattle.plane.specs.Planes.{max_side}
use Rattle.plane.proofs.SampleLaws.{reach_or}
use Rattle.sums.specs.Any.{any_below}
use Rattle.sums.proofs.AnyLaws.{any_below_lem, any_cut, any_zero}
use Rattle.sums.specs.Sums.{sum_below, apart}
use Rattle.sums.proofs.SumLaws.{sum_ext, sum_most, sum_cut, sum_none, sum_to}
use Rattle.sad.specs.Needs.{gap_at, large_from}

-- the sum over two whole lists of one length
abbrev pub gaps : List ℕ → List ℕ → ℕ
gaps a b = sum_below (length a) (gap_at a b)

-- what lies apart of a pair that is the next
pub gap_is : (a b : List ℕ) (i x y : ℕ) → x ≡ get_or a i 0 → y ≡ get_or b i 0 → apart x y ≡ gap_at a b i
gap_is a b i x y e f = rw (e, f) refl

-- of two lists that start with x and y
pub gaps_joined : (x r y t : List ℕ) → length x ≡ length y → gaps (x ++ r) (y ++ t) ≡ gaps x y + gaps r t
gaps_joined x r y t e =
    let a = x ++ r in
    let b = y ++ t in
    let front = sum_ext (length x) (gap_at a b) (gap_at x y)
    (λ i i<. rw (get_or-append x r 0 i i<, get_or-append y t 0 i (omega arith)) refl) in
    let rest = sum_ext (length r) (λ (i : ℕ). gap_at a b (length x + i)) (gap_at r t)
    (λ i _. rw (get_or-append-add x r i 0) (ap (λ (k : ℕ). apart (get_or r i 0) (get_or b (k + i) 0)) e ∙ ap (apart (get_or r i 0)) (get_or-append-add y t i 0))) in
    sum_to _ _ _ (gap_at a b) refl (length-append x r) ∙ sum_cut (length x) (length r) (gap_at a b) ∙ rw (front, rest) refl

-- what two lists come to whose numbers are at most k
pub gaps_most : (k : ℕ) (a b : List ℕ) → ((i : ℕ) → get_or a i 0 ≤ k) → ((i : ℕ) → get_or b i 0 ≤ k) → length a ≤ max_side → gaps a b ≤ max_side * k
gaps_most k a b l m h = omega (arith, sum_most k (length a) (gap_at a b) (λ x _. omega (arith, l x, m x)), mul-le-mul_right k h)

-- a chunk goes from what is left to what was summed
pub chunk_taken : (whole sum part : ℕ) (a b x r y t : List ℕ) → sum + gaps a b ≡ whole → a ≡ x ++ r → b ≡ y ++ t → length x ≡ length y → part ≡ gaps x y
    → sum + part + gaps r t ≡ whole
chunk_taken whole sum part a b x r y t h e f g p =
    let cut : gaps a b ≡ gaps x y + gaps r t = rw (e, f) (gaps_joined x r y t g) in
    omega (arith, cut)

-- what is left stays of one length ..
pub left_long : (a b x r y t : List ℕ) → length a ≡ length b → a ≡ x ++ r → b ≡ y ++ t → length x ≡ length y → length r ≡ length t
left_long a b x r y t h e f g =
    let first : length a ≡ length x + length r = ap (λ (l : List ℕ). length l) e ∙ length-append x r in
    let second : length b ≡ length y + length t = ap (λ (l : List ℕ). length l) f ∙ length-append y t in
    omega arith

-- .. and whole chunks of n ..
pub whole_left : (n : ℕ) (a x r : List ℕ) → length a % n ≡ 0 → a ≡ x ++ r → length x ≡ n → length r % n ≡ 0
whole_left n a x r h e g =
    let long : length a ≡ n + length r = ap (λ (l : List ℕ). length l) e ∙ length-append x r ∙ ap (λ (k : ℕ). k + length r) g in
    sym (add-mod_left n (length r)) ∙ ap (λ (k : ℕ). k % n) (sym long) ∙ h

-- .. so that what is shorter than a chunk is nothing
pub sum_is : (whole sum : ℕ) (a b : List ℕ) → sum + gaps a b ≡ whole → length a ≡ 0 → sum ≡ whole
sum_is whole sum a b h e =
    let none = sum_to (gaps a b) (length a) 0 (gap_at a b) refl e ∙ sym (sum_none (gap_at a b)) in
    omega arith

pub none_left : (whole sum n : ℕ) (a b : List ℕ) → sum + gaps a b ≡ whole → length a % n ≡ 0 → length a < n → sum ≡ whole
none_left whole sum n a b h e l = sum_is whole sum a b h (sym (mod-eq_of_lt l) ∙ e)

-- the first n of two lists go likewise
front_taken : (whole sum part n : ℕ) (a b : List ℕ) → length a ≡ length b → sum + gaps a b ≡ whole → part ≡ gaps (take n a) (take n b)
    → sum + part + gaps (drop n a) (drop n b) ≡ whole
front_taken whole sum part n a b long h p =
    chunk_taken whole sum part a b (take n a) (drop n a) (take n b) (drop n b) h (sym (take-append-drop n a)) (sym (take-append-drop n b))
    (omega (arith, length-take n a, length-take n b, long)) p

-- a part that goes on to the end
all_left : (a b : List ℕ) (n : ℕ) → gaps (drop n a) (drop n b) ≡ gaps (take (length a - n) (drop n a)) (take (length b - n) (drop n b))
all_left a b n =
    let all : (l : List ℕ) → take (length l - n) (drop n l) ≡ drop n l = λ l. ap (λ (k : ℕ). take k (drop n l)) (sym (length-drop n l)) ∙ take-length (drop n l) in
    rw (all a, all b) refl

-- two lists in two parts
pub two_parts : (a b : List ℕ) (n s t : ℕ) → length a ≡ length b → n ≤ length a → s ≡ gaps (take n a) (take n b)
    → t ≡ gaps (take (length a - n) (drop n a)) (take (length b - n) (drop n b)) → s + t ≡ gaps a b
two_parts a b n s t long h e f =
    let first = front_taken (gaps a b) 0 s n a b long (omega arith) e in
    omega (arith, first, all_left a b n, f)

-- two lists in three parts
pub row_parts : (a b : List ℕ) (m n s t u : ℕ) → length a ≡ length b → m ≤ n → s ≡ gaps (take m a) (take m b)
    → t ≡ gaps (take (n - m) (drop m a)) (take (n - m) (drop m b)) → u ≡ gaps (take (length a - n) (drop n a)) (take (length b - n) (drop n b)) → s + t + u ≡ gaps a b
row_parts a b m n s t u long h e f g =
    let first = front_taken (gaps a b) 0 s m a b long (omega arith) e in
    let second = front_taken (gaps a b) s t (n - m) (drop m a) (drop m b) (omega (arith, length-drop m a, length-drop m b, long)) (omega (arith, first)) f in
    let here : (l : List ℕ) → drop (n - m) (drop m l) ≡ drop n l = λ l. drop-drop (n - m) m l ∙ ap (λ (k : ℕ). drop k l) (omega arith) in
    let last : gaps (drop (n - m) (drop m a)) (drop (n - m) (drop m b)) ≡ gaps (drop n a) (drop n b) = rw (here a, here b) refl in
    omega (arith, second, last, all_left a b n, g)

-- ---- whether a number reaches 2 to the m, likewise

abbrev pub larges : List ℕ → List ℕ → ℕ → Bool
larges a b m = any_below (length a) (large_from a b 0 m)

or_chain : (a b c : Bool) → (a || b) || c ≡ a || (b || c)
or_chain true b c = refl
or_chain false b c = refl

or_none : (a : Bool) → a || false ≡ a
or_none true = refl
or_none false = refl

pub larges_joined : (x r y t : List ℕ) (m : ℕ) → length x ≡ length y → larges (x ++ r) (y ++ t) m ≡ larges x y m || larges r t m
larges_joined x r y t m e =
    let a = x ++ r in
    let b = y ++ t in
    let either : ℕ → ℕ → Bool = λ (i j : ℕ). leb (2 ^ m) i || leb (2 ^ m) j in
    let at : (l : List ℕ) (i : ℕ) → get_or l (0 + i) 0 ≡ get_or l i 0 = λ l i. ap (λ (k : ℕ). get_or l k 0) (omega arith) in
    let front = any_below_lem (length x) (large_from a b 0 m) (large_from x y 0 m)
    (λ i i<. rw (at a i, at b i, at x i, at y i, get_or-append x r 0 i i<, get_or-append y t 0 i (omega arith)) refl) in
    let first : (i : ℕ) → get_or a (0 + (length x + i)) 0 ≡ get_or r (0 + i) 0 = λ i. at a (length x + i) ∙ get_or-append-add x r i 0 ∙ sym (at r i) in
    let second : (i : ℕ) → get_or b (0 + (length x + i)) 0 ≡ get_or t (0 + i) 0
    = λ i. at b (length x + i) ∙ ap (λ (k : ℕ). get_or b (k + i) 0) e ∙ get_or-append-add y t i 0 ∙ sym (at t i) in
    let rest = any_below_lem (length r) (λ (i : ℕ). large_from a b 0 m (length x + i)) (large_from r t 0 m) (λ i _. rw (first i, second i) refl) in
    ap (λ (k : ℕ). any_below k (large_from a b 0 m)) (length-append x r) ∙ any_cut (length x) (length r) (large_from a b 0 m) ∙ rw (front, rest) refl

pub bits_taken : (whole : Bool) (bits part m : ℕ) (a b x r y t : List ℕ) → leb (2 ^ m) bits || larges a b m ≡ whole → a ≡ x ++ r → b ≡ y ++ t → length x ≡ length y
    → leb (2 ^ m) part ≡ larges x y m → leb (2 ^ m) (bit_or bits part) || larges r t m ≡ whole
bits_taken whole bits part m a b x r y t h e f g p =
    let cut : larges a b m ≡ larges x y m || larges r t m = rw (e, f) (larges_joined x r y t m g) in
    ap (λ (k : Bool). k || larges r t m) (reach_or m bits part ∙ ap (λ (k : Bool). leb (2 ^ m) bits || k) p)
    ∙ or_chain (leb (2 ^ m) bits) (larges x y m) (larges r t m) ∙ ap (λ (k : Bool). leb (2 ^ m) bits || k) (sym cut) ∙ h

pub bits_are : (whole : Bool) (bits m : ℕ) (a b : List ℕ) → leb (2 ^ m) bits || larges a b m ≡ whole → length a ≡ 0 → leb (2 ^ m) bits ≡ whole
bits_are whole bits m a b h e =
    let none : larges a b m ≡ false = ap (λ (k : ℕ). any_below k (large_from a b 0 m)) e ∙ any_zero (large_from a b 0 m) in
    sym (or_none (leb (2 ^ m) bits)) ∙ ap (λ (k : Bool). leb (2 ^ m) bits || k) (sym none) ∙ h
