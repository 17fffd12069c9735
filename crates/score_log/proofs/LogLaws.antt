-- Logs by their records: what depends on the first n records alone, what the reader gives at each place, what an overwritten log holds, and what its end
-- holds. Assumes nothing.
use mathlib.Core.Path.{◌≡◌, refl, sym, ap, ap₂, ◌∙◌}
use mathlib.Core.Bool.{Bool, true, false}
use mathlib.Core.List.{List, [], ◌∷◌, ◌++◌}
use Prim.Native.Nat.{ℕ, zero, suc, ◌+◌, ◌-◌, ◌*◌, ◌≤◌, ◌<◌, max}
use native.Mathlib.Omega.{arith}
use borrow.Author.Tests.{leb-true, leb-false}
use lib.Dec.{leb}
use lib.ListN.{length, take, drop, get_or, length-take, length-drop}
use lib.Seq.{take-take, drop-drop, length-take-le}
use Rattle.std.specs.Simd.{first_chunks}
use Rattle.octets.specs.Octets.{overwritten}
use Rattle.octets.proofs.Over.{over_front, over_here, over_length}
use Rattle.score_log.specs.Records.{record_long, pattern_long, pattern_count, patterns_place, field, number_field, pattern_fields, cut_field, bytes_fault}
use Rattle.score_log.specs.Log.{whole_records, torn_rest, whole_long, record_in, least_after, record_fault, earliest, log_fault, joined, numbers_of, patterns_of, cuts_of}
use Rattle.score_log.proofs.Chunks.{chunk_at}
use Rattle.score_log.proofs.Each.{joined_same, joined_next, joined_place, earliest_same, earliest_next, earliest_none, earliest_each}
use Rattle.score_log.proofs.Places.{part_front}
use Rattle.score_log.proofs.RecordLaws.{fault_lower}

-- ---- the first n records

-- two logs with the same first n records
module _ (s t : List ℕ) (n : ℕ) (same : take (n * record_long) s ≡ take (n * record_long) t) where
  pub record_same : (k : ℕ) → k < n → record_in s k ≡ record_in t k
  unfolding record_in
  record_same k l =
      sym (part_front (k * record_long) record_long (n * record_long) s (omega arith))
      ∙ ap (λ (front : List ℕ). take record_long (drop (k * record_long) front)) same
      ∙ part_front (k * record_long) record_long (n * record_long) t (omega arith)

  pub least_same : (k : ℕ) → k ≤ n → least_after s k ≡ least_after t k
  unfolding least_after
  least_same zero l = refl
  least_same (suc k) l = ap (λ (bs : List ℕ). suc (number_field bs)) (record_same k l)

  pub faults_same : earliest n (record_fault s) ≡ earliest n (record_fault t)
  faults_same = earliest_same n (record_fault s) (record_fault t) (λ k l. ap₂ bytes_fault (least_same k (omega arith)) (record_same k l))

  pub fields_same : (g : List ℕ → List ℕ) → joined n (λ k. g (record_in s k)) ≡ joined n (λ k. g (record_in t k))
  fields_same g = joined_same n (λ k. g (record_in s k)) (λ k. g (record_in t k)) (λ k l. ap g (record_same k l))

-- the log's chunks are its records
pub record_at : (log : List ℕ) (records : List (List ℕ)) → records ≡ first_chunks record_long (whole_records log) log → (k : ℕ) → k < whole_records log → get_or records k [] ≡ record_in log k
unfolding record_in
record_at log records e k l = ap (λ (rs : List (List ℕ)). get_or rs k []) e ∙ chunk_at record_long (whole_records log) k log [] l

pub record_in_long : (log : List ℕ) (k : ℕ) → k < whole_records log → length (record_in log k) ≡ record_long
unfolding record_in
record_in_long log k l = omega (arith, length-take record_long (drop (k * record_long) log), length-drop (k * record_long) log)

-- ---- what the reader gives, by its places: numbers[k], bits[5 * k + j], cuts[k]

field_at : (bs : List ℕ) (j : ℕ) → j < pattern_count → get_or (pattern_fields bs) j 0 ≡ field pattern_long (patterns_place + pattern_long * j) bs
unfolding pattern_fields
field_at bs zero l = refl
field_at bs (suc zero) l = refl
field_at bs (suc (suc zero)) l = refl
field_at bs (suc (suc (suc zero))) l = refl
field_at bs (suc (suc (suc (suc zero)))) l = refl
field_at bs (suc (suc (suc (suc (suc j))))) l = absurd (omega arith)

module _ (log : List ℕ) (k : ℕ) (l : k < whole_records log) where
  single_at : (f : List ℕ → ℕ) → get_or (joined (whole_records log) (λ i. f (record_in log i) ∷ [])) k 0 ≡ f (record_in log k)
  single_at f =
      let place : k ≡ k * 1 + 0 = omega arith in
      ap (λ (m : ℕ). get_or (joined (whole_records log) (λ i. f (record_in log i) ∷ [])) m 0) place
      ∙ joined_place 1 (λ i. f (record_in log i) ∷ []) (λ i. refl) (whole_records log) k 0 l (omega arith)

  pub number_at_lem : get_or (numbers_of log) k 0 ≡ number_field (record_in log k)
  number_at_lem = single_at (λ bs. number_field bs)

  pub pattern_at_lem : (j : ℕ) → j < pattern_count
      → get_or (patterns_of log) (k * pattern_count + j) 0 ≡ field pattern_long (patterns_place + pattern_long * j) (record_in log k)
  unfolding pattern_fields
  pattern_at_lem j h = joined_place pattern_count (λ i. pattern_fields (record_in log i)) (λ i. refl) (whole_records log) k j l h ∙ field_at (record_in log k) j h

  pub cut_at : get_or (cuts_of log) k 0 ≡ cut_field (record_in log k)
  cut_at = single_at (λ bs. cut_field bs)

-- ---- bytes written behind the last whole record

module _ (log bs : List ℕ) where
  abbrev over : List ℕ
  over = overwritten (whole_long log) bs log

  over_long : length over ≡ whole_long log + length bs + (length log - (whole_long log + length bs))
  over_long = over_length (whole_long log) bs log (omega arith)

  pub front_stays : take (whole_long log) over ≡ take (whole_long log) log
  front_stays = over_front (whole_long log) bs log (omega arith) (whole_long log) (omega arith)

  -- fewer than a record: a rest
  module _ (short : length bs < record_long) where
    pub records_stay : whole_records over ≡ whole_records log
    records_stay = omega (arith, over_long)

    pub rest_reaches : torn_rest over ≡ max (length bs) (torn_rest log)
    rest_reaches = omega (arith, over_long)

    pub fault_stays : log_fault over ≡ log_fault log
    unfolding log_fault
    fault_stays = ap (λ (n : ℕ). earliest n (record_fault over)) records_stay ∙ faults_same over log (whole_records log) front_stays

    pub least_stays : least_after over (whole_records over) ≡ least_after log (whole_records log)
    least_stays = ap (least_after over) records_stay ∙ least_same over log (whole_records log) front_stays (whole_records log) (omega arith)

    pub fields_stay : (g : List ℕ → List ℕ) → joined (whole_records over) (λ k. g (record_in over k)) ≡ joined (whole_records log) (λ k. g (record_in log k))
    fields_stay g =
        ap (λ (n : ℕ). joined n (λ k. g (record_in over k))) records_stay ∙ fields_same over log (whole_records log) front_stays g

  -- as many as a record: one more
  module _ (whole : length bs ≡ record_long) where
    pub one_more : whole_records over ≡ suc (whole_records log)
    one_more = omega (arith, over_long)

    pub no_rest : torn_rest over ≡ 0
    no_rest = omega (arith, over_long)

    pub last_record : record_in over (whole_records log) ≡ bs
    unfolding record_in
    last_record =
        ap (λ (n : ℕ). take n (drop (whole_long log) over)) (sym whole) ∙ over_here (whole_long log) bs log (omega arith)

    pub fault_more : log_fault log ≡ 0 → bytes_fault (least_after log (whole_records log)) bs ≡ 0 → log_fault over ≡ 0
    unfolding log_fault
    fault_more e d =
        ap (λ (n : ℕ). earliest n (record_fault over)) one_more
        ∙ earliest_next (whole_records log) (record_fault over) (faults_same over log (whole_records log) front_stays ∙ e)
        (ap₂ bytes_fault (least_same over log (whole_records log) front_stays (whole_records log) (omega arith)) last_record ∙ d)

    pub fields_more : (g : List ℕ → List ℕ)
        → joined (whole_records over) (λ k. g (record_in over k)) ≡ joined (whole_records log) (λ k. g (record_in log k)) ++ g bs
    fields_more g =
        ap (λ (n : ℕ). joined n (λ k. g (record_in over k))) one_more
        ∙ joined_next (whole_records log) (λ k. g (record_in over k))
        ∙ ap₂ (λ (a b : List ℕ). a ++ b) (fields_same over log (whole_records log) front_stays g) (ap g last_record)

-- ---- a log without its first j records

module _ (log : List ℕ) (j : ℕ) where
  abbrev end : List ℕ
  end = drop (j * record_long) log

  pub end_records : j ≤ whole_records log → j + whole_records end ≡ whole_records log
  end_records h = omega (arith, length-drop (j * record_long) log)

  pub end_record : (k : ℕ) → record_in end k ≡ record_in log (j + k)
  unfolding record_in
  end_record k =
      let place : j * record_long + k * record_long ≡ (j + k) * record_long = omega arith in
      ap (take record_long) (drop-drop (k * record_long) (j * record_long) log ∙ ap (λ (n : ℕ). drop n log) place)

  -- behind a record of the end, the same numbers rise
  pub end_least : (k : ℕ) → least_after end (suc k) ≡ least_after log (suc (j + k))
  unfolding least_after
  end_least k = ap (λ (bs : List ℕ). suc (number_field bs)) (end_record k)

  -- before it all do
  least_lower : (k : ℕ) → least_after end k ≤ least_after log (j + k)
  unfolding least_after
  least_lower zero = omega arith
  least_lower (suc k) =
      let next : j + suc k ≡ suc (j + k) = omega arith in
      omega (arith, end_least k, ap (least_after log) next)

  pub end_accepted : j ≤ whole_records log → log_fault log ≡ 0 → log_fault end ≡ 0
  unfolding log_fault
  end_accepted h e =
      earliest_none (whole_records end) (record_fault end) (λ k l.
      let there : record_fault log (j + k) ≡ 0 = earliest_each (whole_records log) (record_fault log) e (j + k) (omega (arith, end_records h)) in
      ap (bytes_fault (least_after end k)) (end_record k)
      ∙ fault_lower (least_after end k) (least_after log (j + k)) (record_in log (j + k)) (least_lower k) there)

  -- a log that is accepted up to record j ..
  module _ (h : j < whole_records log) (front : log_fault (take (suc j * record_long) log) ≡ 0) where
    abbrev piece : List ℕ
    piece = take (suc j * record_long) log

    accepted_before : (k : ℕ) → k ≤ j → record_fault log k ≡ 0
    unfolding log_fault
    accepted_before k l =
        let long : length piece ≡ suc j * record_long = length-take-le (suc j * record_long) log (omega arith) in
        let same : take (suc j * record_long) log ≡ take (suc j * record_long) piece = sym (take-take (suc j * record_long) (suc j * record_long) log (omega arith)) in
        ap₂ bytes_fault (least_same log piece (suc j) same k (omega arith)) (record_same log piece (suc j) same k (omega arith))
        ∙ earliest_each (whole_records piece) (record_fault piece) front k (omega arith)

    -- .. and from it on
    module _ (back : log_fault end ≡ 0) where
      accepted_behind : (k : ℕ) → k < whole_records log → j < k → record_fault log k ≡ 0
      unfolding log_fault
      accepted_behind k l later =
          let i : ℕ = k - suc j in
          let place : k ≡ j + suc i = omega arith in
          let next : j + suc i ≡ suc (j + i) = omega arith in
          ap (record_fault log) place
          ∙ ap₂ bytes_fault (ap (least_after log) next ∙ sym (end_least i)) (sym (end_record (suc i)))
          ∙ earliest_each (whole_records end) (record_fault end) back (suc i) (omega (arith, end_records (omega arith)))

      pub pieces_accepted : log_fault log ≡ 0
      unfolding log_fault
      pieces_accepted = earliest_none (whole_records log) (record_fault log) (λ k l. by k l (leb k j) (leb-true k j) (leb-false k j))
        where
          by : (k : ℕ) → k < whole_records log → (b : Bool) → (b ≡ true → k ≤ j) → (b ≡ false → j < k) → record_fault log k ≡ 0
          by k l true is isn't = accepted_before k (is refl)
          by k l false is isn't = accepted_behind k l (isn't refl)

  -- behind its last one too
  pub end_rises : j < whole_records log → least_after end (whole_records end) ≡ least_after log (whole_records log)
  end_rises h =
      let k : ℕ = whole_records log - suc j in
      let last : whole_records end ≡ suc k = omega (arith, end_records (omega arith)) in
      let whole : suc (j + k) ≡ whole_records log = omega arith in
      ap (least_after end) last ∙ end_least k ∙ ap (least_after log) whole
