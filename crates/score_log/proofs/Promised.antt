-- The proofs of what specs/Promises.antt promises a recorder's author. Assumes nothing.
use mathlib.Core.Path.{◌≡◌, refl, sym, ap, ◌∙◌}
use mathlib.Core.Bool.{Bool, true, false, cond, true≢false}
use mathlib.Core.List.{List, [], ◌∷◌, ◌++◌}
use Prim.Native.Nat.{ℕ, zero, suc, ◌+◌, ◌*◌, ◌≤◌, ◌<◌, max}
use native.Mathlib.Omega.{arith}
use borrow.Author.Tests.{eqb-true, eqb-false, ltb-false}
use lib.Dec.{eqb, ltb}
use lib.Ieee.{nan, inf, fin, is_nan}
use lib.ListN.{length, take, drop, length-take}
use lib.Seq.{take_all, take-take, length-take-le}
use Rattle.answer.specs.Refusal.{refusal, ◌or_else◌}
use Rattle.answer.proofs.Laws.{or_none, passed, lent_written, lent_kept}
use Rattle.octets.specs.Octets.{overwritten}
use Rattle.octets.proofs.Laws.{nan_pattern}
use Rattle.octets.proofs.Over.{over_take, over_past, over_again, over_end, over_rest}
use Rattle.score_log.specs.declared.Record.{Record}
use Rattle.score_log.specs.Records.{record_long, patterns, record_bytes, number_field, pattern_fields, cut_field, later_fault}
use Rattle.score_log.specs.Log.{whole_records, torn_rest, whole_long, record_in, least_after, record_fault, log_fault, numbers_of, patterns_of, cuts_of}
use Rattle.score_log.specs.Log.{read_fault, new_fault, append_fault, appended, lent_after_append}
use Rattle.score_log.specs.Promises.{Reading, reading_of, and_record, and_rest, cut_short, Untouched, card_after, AllTaken, read_all, InOrder}
use Rattle.score_log.specs.Promises.{AppendLeaves, RoundTrip, StaysALog, PowerCut, AfterTheCut, NothingOnRefusal, EndWillDo, InPieces, CardsLife, ScanAccepts, OnePattern, ByPlace}
use Rattle.score_log.proofs.RecordLaws.{record_long_lem, number_back, patterns_back, cut_back, fault_written, Sound, sound, passes}
use Rattle.score_log.proofs.LogLaws.{records_stay, rest_reaches, fault_stays, least_stays, fields_stay, no_rest, fault_more, fields_more}
use Rattle.score_log.proofs.LogLaws.{number_at_lem, pattern_at_lem, cut_at, end_records, end_rises, end_accepted, pieces_accepted}
use Rattle.score_log.proofs.Each.{earliest_none, earliest_each}

-- It holds since the new record stands behind the old ones, and each of its fields is read back from its bytes.
pub round_trip : RoundTrip
round_trip log r t = λ i. record { numbers = numbers i; bits = bits i; cuts = cuts i; torn = no_rest log (record_bytes r) (record_long_lem r) i }
  where
    numbers : numbers_of (appended log r) ≡ numbers_of log ++ r.number ∷ []
    numbers = fields_more log (record_bytes r) (record_long_lem r) (λ bs. number_field bs ∷ []) ∙ ap (λ (n : ℕ). numbers_of log ++ n ∷ []) (number_back r t)

    bits : patterns_of (appended log r) ≡ patterns_of log ++ patterns r
    bits = fields_more log (record_bytes r) (record_long_lem r) pattern_fields ∙ ap (λ (ps : List ℕ). patterns_of log ++ ps) (patterns_back r t)

    cuts : cuts_of (appended log r) ≡ cuts_of log ++ r.cut ∷ []
    cuts = fields_more log (record_bytes r) (record_long_lem r) (λ bs. cut_field bs ∷ []) ∙ ap (λ (c : ℕ). cuts_of log ++ c ∷ []) (cut_back r)

-- It holds since the account of IEEE 754 has one NaN.
pub one_pattern : OnePattern
unfolding is_nan
one_pattern nan e = nan_pattern
one_pattern (inf s) e = absurd (true≢false (sym e))
one_pattern (fin s m k) e = absurd (true≢false (sym e))

-- It holds since the old records stay as they were, and the new one is at fault only where the append is refused.
pub stays_a_log : StaysALog
unfolding new_fault
stays_a_log log r t takes =
    fault_more log (record_bytes r) (record_long_lem r) takes.old (fault_written r t (least_after log (whole_records log)) ∙ takes.new)

-- ---- the power goes

-- so many bytes were written
bytes_written : (k : ℕ) (r : Record) → k ≤ record_long → length (take k (record_bytes r)) ≡ k
bytes_written k r l = length-take-le k (record_bytes r) (omega (arith, record_long_lem r))

all_written : (k : ℕ) (log : List ℕ) (r : Record) → k ≡ record_long → cut_short k log r ≡ appended log r
all_written k log r e = ap (λ (bs : List ℕ). overwritten (whole_long log) bs log) (take_all k (record_bytes r) (omega (arith, record_long_lem r)))

module _ (log : List ℕ) (r : Record) (k : ℕ) (l : k < record_long) where
  abbrev part : List ℕ
  part = take k (record_bytes r)

  short : length part < record_long
  short = omega (arith, bytes_written k r (omega arith))

  rest_only : reading_of (cut_short k log r) ≡ and_rest (reading_of log) (max k (torn_rest log))
  rest_only = λ i. record {
    numbers = fields_stay log part short (λ bs. number_field bs ∷ []) i;
    bits = fields_stay log part short pattern_fields i;
    cuts = fields_stay log part short (λ bs. cut_field bs ∷ []) i;
    torn = rest i;
  }
    where
      rest : torn_rest (cut_short k log r) ≡ max k (torn_rest log)
      rest = rest_reaches log part short ∙ ap (λ (n : ℕ). max n (torn_rest log)) (bytes_written k r (omega arith))

-- It holds since fewer than 47 bytes behind the last whole record are a rest, which is never tested, and 47 are the record.
pub power_cut : PowerCut
power_cut log r k t takes l = by_case (eqb k record_long) (eqb-true k record_long) (eqb-false k record_long)
  where
    by_case : (b : Bool) → (b ≡ true → k ≡ record_long) → (b ≡ false → k ≡ record_long → ⊥)
        → (log_fault (cut_short k log r) ≡ 0)
        × (reading_of (cut_short k log r) ≡ cond b (and_record (reading_of log) r) (and_rest (reading_of log) (max k (torn_rest log))))
    by_case true is isn't =
        let same = all_written k log r (is refl) in
        (ap log_fault same ∙ stays_a_log log r t takes, ap reading_of same ∙ round_trip log r t)
    by_case false is isn't =
        let less : k < record_long = omega (arith, isn't refl) in
        (fault_stays log (part log r k less) (short log r k less) ∙ takes.old, rest_only log r k less)

-- It holds since the next record goes over the rest, and the records before it are the same.
pub after_the_cut : AfterTheCut
unfolding new_fault
after_the_cut log r k l = record {
  old = fault_stays log (part log r k l) (short log r k l);
  new = λ next. ap (later_fault next.cut next.number) (least_stays log (part log r k l) (short log r k l));
  bytes = λ next.
      ap (λ (n : ℕ). overwritten (n * record_long) (record_bytes next) (cut_short k log r)) (records_stay log (part log r k l) (short log r k l))
      ∙ over_again (whole_long log) (record_bytes next) (part log r k l) log (omega arith) (omega (arith, short log r k l, record_long_lem next));
}

-- It holds by going from append to append: each leaves a log of which the power cut's promise speaks.
pub cards_life : CardsLife
unfolding card_after AllTaken read_all
cards_life log [] accepted taken = (accepted, refl)
cards_life log (t ∷ ts) accepted taken =
    let once = power_cut log t.what t.bytes taken.0 (record { old = accepted; new = taken.1.0 }) taken.1.1.0 in
    let later = cards_life (cut_short t.bytes log t.what) ts once.0 taken.1.1.1 in
    (later.0, later.1 ∙ ap (λ (g : Reading). read_all g ts) once.1)

-- ---- in lent memory

module _ (lent : List ℕ) (used : ℕ) (r : Record) where
  abbrev place : ℕ
  place = whole_long (take used lent)

  abbrev written : List ℕ
  written = overwritten place (record_bytes r) lent

  log_there : take (place + record_long) written ≡ appended (take used lent) r
  log_there =
      ap (λ (n : ℕ). take (place + n) written) (sym (record_long_lem r))
      ∙ over_take place (record_bytes r) lent (omega (arith, length-take used lent))
      ∙ ap (λ (front : List ℕ). front ++ record_bytes r) (sym (take-take place used lent (omega (arith, length-take used lent))))
      ∙ sym (over_end place (record_bytes r) (take used lent) (omega (arith, record_long_lem r)))

  behind_there : drop (place + record_long) written ≡ drop (place + record_long) lent
  behind_there = over_past place (record_bytes r) lent (place + record_long) (omega (arith, length-take used lent)) (omega (arith, record_long_lem r))

-- It holds since what a refused call leaves in a lent place is what stood there.
pub nothing_on_refusal : NothingOnRefusal
nothing_on_refusal = (append, read)
  where
    append : (lent : List ℕ) (used : ℕ) (r : Record) → (append_fault lent used r ≡ 0 → ⊥) → lent_after_append lent used r ≡ lent
    append lent used r h = sym (lent_kept (append_fault lent used r) (append_fault lent used r) (written lent used r) lent refl h)

    read : (log numbers bits cuts : List ℕ) (torn : ℕ) → (read_fault log numbers bits cuts ≡ 0 → ⊥) → Untouched log numbers bits cuts torn
    read log numbers bits cuts torn h =
        let fault : ℕ = read_fault log numbers bits cuts in
        record {
          number = sym (lent_kept fault fault (overwritten 0 (numbers_of log) numbers) numbers refl h);
          pattern = sym (lent_kept fault fault (overwritten 0 (patterns_of log) bits) bits refl h);
          cut = sym (lent_kept fault fault (overwritten 0 (cuts_of log) cuts) cuts refl h);
          rest = sym (lent_kept fault fault (torn_rest log) torn refl h);
        }

-- It holds since the record ends the log so far, and in the lent memory it stands at the same place.
pub append_leaves : AppendLeaves
unfolding append_fault
append_leaves lent used r e =
    let log : List ℕ = take used lent in
    let room : ℕ = refusal 15 (ltb (length lent) (whole_long log + record_long)) in
    let (within, later) = or_none (refusal 15 (ltb (length lent) used)) (log_fault log or_else new_fault log r or_else room) e in
    let (old, last) = or_none (log_fault log) (new_fault log r or_else room) later in
    let (new, room-none) = or_none (new_fault log r) room last in
    let left : lent_after_append lent used r ≡ written lent used r = sym (lent_written (append_fault lent used r) (written lent used r) lent (sym e)) in
    record {
      takes = record { old = old; new = new };
      fits = ltb-false (length lent) (whole_long log + record_long) (passed 14 (ltb (length lent) (whole_long log + record_long)) room-none);
      log = ap (take (whole_long log + record_long)) left ∙ log_there lent used r;
      behind = ap (drop (whole_long log + record_long)) left ∙ behind_there lent used r;
    }

-- It holds since a record is tested against the one before it alone, and an append touches what stands behind the last one alone.
pub end_will_do : EndWillDo
unfolding new_fault
end_will_do log j e l = record {
  accepted = end_accepted log j (omega arith) e;
  same_fault = λ r. ap (later_fault r.cut r.number) (end_rises log j l);
  same_bytes = λ r. ap (λ (n : ℕ). overwritten n (record_bytes r) log) there ∙ over_rest front (whole_long (drop front log)) (record_bytes r) log;
}
  where
    front : ℕ
    front = j * record_long

    there : whole_long log ≡ front + whole_long (drop front log)
    there = omega (arith, end_records log j (omega arith))

-- It holds since each record but the first of a piece is tested there as in the whole log.
pub in_pieces : InPieces
in_pieces log j h front back = pieces_accepted log j h front back

-- It holds since a log has no fault exactly when none of its records is at fault.
pub scan_accepts : ScanAccepts
unfolding log_fault least_after
scan_accepts log = (there, λ o. earliest_none (whole_records log) (record_fault log) (back o))
  where
    here : log_fault log ≡ 0 → (k : ℕ) → k < whole_records log → Sound (least_after log k) (record_in log k)
    here e k l = sound (least_after log k) (record_in log k) (earliest_each (whole_records log) (record_fault log) e k l)

    there : log_fault log ≡ 0 → InOrder log
    there e = record {
      marks = λ k l. (here e k l).mark;
      rise = λ k l. rw (number_at_lem log k (omega arith), number_at_lem log (suc k) l) (here e (suc k) l).rises;
      cut_or_none = λ k l. rw (cut_at log k l) (here e k l).cut;
    }

    rises : InOrder log → (k : ℕ) → k < whole_records log → least_after log k ≤ number_field (record_in log k)
    rises o zero l = omega arith
    rises o (suc k) l = rw (number_at_lem log k (omega arith), number_at_lem log (suc k) l) at (o.rise k l)

    back : InOrder log → (k : ℕ) → k < whole_records log → record_fault log k ≡ 0
    back o k l =
        passes (least_after log k) (record_in log k)
        (record { mark = o.marks k l; cut = rw (cut_at log k l) at (o.cut_or_none k l); rises = rises o k l })

-- It holds since each record gives as many items as every other.
pub by_place : ByPlace
by_place log k l = record { number = number_at_lem log k l; pattern = pattern_at_lem log k l; cut = cut_at log k l }
