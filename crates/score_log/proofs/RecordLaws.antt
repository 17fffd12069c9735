-- The bytes of a record: there are 47, and each field is read back from them. Assumes nothing.
use mathlib.Core.Path.{◌≡◌, refl, sym, ap, ◌∙◌}
use mathlib.Core.Bool.{true, not}
use mathlib.Core.List.{List, [], ◌∷◌, ◌++◌, append_assoc}
use Prim.Native.Nat.{ℕ, zero, suc, ◌+◌, ◌*◌, ◌^◌, ◌≤◌, ◌<◌}
use native.Mathlib.Omega.{arith}
use borrow.Author.Tests.{ltb-false, le-ltb, not-false}
use lib.Dec.{ltb}
use lib.ListN.{length, get_or, length-append}
use lib.Seq.{take_at, drop_at, get_or_at}
use Rattle.answer.specs.Refusal.{refusal, ◌or_else◌}
use Rattle.answer.proofs.Laws.{or_none, or_both, or_later, passed}
use Rattle.octets.specs.Octets.{bytes_of}
use Rattle.octets.proofs.Laws.{bytes_long, number_bytes, bits_below}
use Rattle.score_log.specs.declared.Record.{Record}
use Rattle.score_log.specs.Records.{record_long, number_place, number_long, patterns_place, pattern_long, pattern_count, cut_place, patterns, pattern_bytes, record_bytes}
use Rattle.score_log.specs.Records.{has_mark, field, number_field, pattern_fields, cut_field, later_fault, bytes_fault}
use Rattle.score_log.specs.Promises.{Typed}

-- ---- a field among other bytes

-- a number that n bytes hold is read back from behind a front, whatever follows
field_back : (n at x : ℕ) (front back : List ℕ) → length front ≡ at → x < 256 ^ n → field n at (front ++ (bytes_of n x ++ back)) ≡ x
field_back n at x front back long h =
    rw (drop_at front (bytes_of n x ++ back) at long, take_at (bytes_of n x) back n (bytes_long n x)) (number_bytes n x h)

pub patterns_long : (ps : List ℕ) → length (pattern_bytes ps) ≡ pattern_long * length ps
unfolding pattern_bytes
patterns_long [] = refl
patterns_long (p ∷ ps) = omega (arith, length-append (bytes_of pattern_long p) (pattern_bytes ps), bytes_long pattern_long p, patterns_long ps)

-- every pattern fits its bytes
abbrev AllFit : List ℕ → Type 0
AllFit [] = Unit {0}
AllFit (p ∷ ps) = (p < 256 ^ pattern_long) × AllFit ps

-- pattern j of a list is read back from its place
pattern_back : (ps : List ℕ) (j at : ℕ) (front back : List ℕ) → length front ≡ at → AllFit ps → j < length ps
    → field pattern_long (at + pattern_long * j) (front ++ (pattern_bytes ps ++ back)) ≡ get_or ps j 0
unfolding pattern_bytes
pattern_back [] j at front back long fit l = absurd (omega arith)
pattern_back (p ∷ ps) zero at front back long fit l =
    rw append_assoc (field_back pattern_long (at + pattern_long * 0) p front (pattern_bytes ps ++ back) (omega arith) fit.0)
pattern_back (p ∷ ps) (suc j) at front back long fit l =
    let next : at + pattern_long * suc j ≡ at + pattern_long + pattern_long * j = omega arith in
    let farther : length (front ++ bytes_of pattern_long p) ≡ at + pattern_long
    = omega (arith, length-append front (bytes_of pattern_long p), bytes_long pattern_long p) in
    ap (λ (k : ℕ). field pattern_long k (front ++ (bytes_of pattern_long p ++ pattern_bytes ps ++ back))) next
    ∙ ap (field pattern_long (at + pattern_long + pattern_long * j)) (simp append_assoc)
    ∙ pattern_back ps j (at + pattern_long) (front ++ bytes_of pattern_long p) back farther fit.1 (omega arith)

-- ---- a record's bytes

abbrev head : Record → List ℕ
head r = 0x53 ∷ 0x43 ∷ bytes_of number_long r.number

head_long : (r : Record) → length (head r) ≡ patterns_place
head_long r = omega (arith, bytes_long number_long r.number)

pub record_long_lem : (r : Record) → length (record_bytes r) ≡ record_long
unfolding record_bytes
record_long_lem r =
    omega (
      arith,
      length-append (head r ++ pattern_bytes (patterns r)) (r.cut ∷ []),
      length-append (head r) (pattern_bytes (patterns r)),
      head_long r,
      patterns_long (patterns r),
    )

pub mark_back : (r : Record) → has_mark (record_bytes r) ≡ true
unfolding record_bytes
mark_back r = refl

pub cut_back : (r : Record) → cut_field (record_bytes r) ≡ r.cut
unfolding record_bytes
cut_back r =
    get_or_at (head r ++ pattern_bytes (patterns r)) r.cut [] 0 cut_place
    (omega (arith, length-append (head r) (pattern_bytes (patterns r)), head_long r, patterns_long (patterns r)))

module _ (r : Record) (t : Typed r) where
  pub number_back : number_field (record_bytes r) ≡ r.number
  unfolding record_bytes
  number_back = rw append_assoc (field_back number_long number_place r.number (0x53 ∷ 0x43 ∷ []) (pattern_bytes (patterns r) ++ r.cut ∷ []) refl t.number)

  all_fit : AllFit (patterns r)
  all_fit = (
    bits_below r.inter_cost t.inter,
    (
      bits_below r.imp_block_cost t.importance,
      (
        bits_below r.backward_adjusted_cost t.backward,
        (bits_below r.forward_adjusted_cost t.forward, (bits_below r.threshold t.limit, tt)),
      ),
    ),
  )

  pattern_here : (j : ℕ) → j < pattern_count → field pattern_long (patterns_place + pattern_long * j) (record_bytes r) ≡ get_or (patterns r) j 0
  unfolding record_bytes
  pattern_here j l = rw append_assoc (pattern_back (patterns r) j patterns_place (head r) (r.cut ∷ []) (head_long r) all_fit l)

  pub patterns_back : pattern_fields (record_bytes r) ≡ patterns r
  unfolding pattern_fields
  patterns_back =
      rw (pattern_here 0 (omega arith), pattern_here 1 (omega arith), pattern_here 2 (omega arith), pattern_here 3 (omega arith), pattern_here 4 (omega arith))

-- ---- a record's fault

-- a record that is not at fault
pub record Sound (least : ℕ) (bs : List ℕ) : Type 0 where
  pub mark : has_mark bs ≡ true
  pub cut : cut_field bs ≤ 1
  pub rises : least ≤ number_field bs

pub sound : (least : ℕ) (bs : List ℕ) → bytes_fault least bs ≡ 0 → Sound least bs
unfolding bytes_fault
sound least bs e =
    let (mark, later) = or_none (refusal 12 (not (has_mark bs))) (later_fault (cut_field bs) (number_field bs) least) e in
    let (cut, number) = or_none (refusal 13 (ltb 1 (cut_field bs))) (refusal 14 (ltb (number_field bs) least)) later in
    record {
      mark = not-false (has_mark bs) (passed 11 (not (has_mark bs)) mark);
      cut = ltb-false 1 (cut_field bs) (passed 12 (ltb 1 (cut_field bs)) cut);
      rises = ltb-false (number_field bs) least (passed 13 (ltb (number_field bs) least) number);
    }

pub passes : (least : ℕ) (bs : List ℕ) → Sound least bs → bytes_fault least bs ≡ 0
unfolding bytes_fault
passes least bs s =
    rw (s.mark, le-ltb 1 (cut_field bs) s.cut, le-ltb (number_field bs) least s.rises) (or_both 0 (0 or_else 0) refl (or_both 0 0 refl refl))

-- a record that rises above a number rises above a lower one
pub fault_lower : (low high : ℕ) (bs : List ℕ) → low ≤ high → bytes_fault high bs ≡ 0 → bytes_fault low bs ≡ 0
fault_lower low high bs l e =
    let s : Sound high bs = sound high bs e in
    passes low bs (record { mark = s.mark; cut = s.cut; rises = omega arith })

-- of a record as it is written the mark is never at fault
pub fault_written : (r : Record) → Typed r → (least : ℕ) → bytes_fault least (record_bytes r) ≡ later_fault r.cut r.number least
unfolding bytes_fault
fault_written r t least =
    let later : ℕ = later_fault r.cut r.number least in
    rw (mark_back r, cut_back r, number_back r t) (sym (or_later later 0 later refl refl))
