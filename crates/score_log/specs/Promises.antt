-- What a recorder's author can rely on. A card holds a log: a list of bytes. `appended` says what an append leaves on it, and `lent_after_append`
-- what the code leaves in lent memory; 1 ties the two. proofs/Promised.antt proves each statement.
use Rattle.std.specs.Prelude.{◌≡◌, true, cond, List, [], ◌∷◌, ◌++◌, ℕ, suc, ◌+◌, ◌*◌, ◌≤◌, ◌<◌, ◌^◌, max, T, eqb, Float, length, take, drop, get_or}
use Rattle.std.specs.Float.{binary64}
use Rattle.std.specs.Float.Ieee.{fits, is_nan, to_bits}
use Rattle.answer.specs.Answer.{lent_after}
use Rattle.octets.specs.Octets.{overwritten}
use Rattle.score_log.specs.declared.Record.{Record}
use Rattle.score_log.specs.Records.{record_long, patterns_place, pattern_long, pattern_count, patterns, record_bytes, has_mark, field, number_field, cut_field}
use Rattle.score_log.specs.Log.{whole_records, torn_rest, whole_long, record_in, log_fault, numbers_of, patterns_of, cuts_of}
use Rattle.score_log.specs.Log.{read_fault, read_into, new_fault, append_fault, appended, lent_after_append}

-- ---- the words

-- what a reader gives of a card
pub record Reading : Type 0 where
  pub numbers : List ℕ
  pub bits : List ℕ
  pub cuts : List ℕ
  pub torn : ℕ

abbrev pub reading_of : List ℕ → Reading
reading_of log = record { numbers = numbers_of log; bits = patterns_of log; cuts = cuts_of log; torn = torn_rest log }

-- the same records, and one more behind them; no rest
abbrev pub and_record : Reading → Record → Reading
and_record g r = record { numbers = g.numbers ++ r.number ∷ []; bits = g.bits ++ patterns r; cuts = g.cuts ++ r.cut ∷ []; torn = 0 }

-- the same records, and another rest
abbrev pub and_rest : Reading → ℕ → Reading
and_rest g n = record { numbers = g.numbers; bits = g.bits; cuts = g.cuts; torn = n }

-- scan accepts the log, and an append of r behind it is not refused for what it is
pub record Takes (log : List ℕ) (r : Record) : Type 0 where
  pub old : log_fault log ≡ 0
  pub new : new_fault log r ≡ 0

-- what a record's types hold: a number of 32 bits, and floats of IEEE 754 binary64
pub record Typed (r : Record) : Type 0 where
  pub number : r.number < 2 ^ 32
  pub inter : T (fits binary64 r.inter_cost)
  pub importance : T (fits binary64 r.imp_block_cost)
  pub backward : T (fits binary64 r.backward_adjusted_cost)
  pub forward : T (fits binary64 r.forward_adjusted_cost)
  pub limit : T (fits binary64 r.threshold)

-- "A power cut may leave any prefix of what was being appended": the card holds the first k of its bytes over what stood there
abbrev pub cut_short : ℕ → List ℕ → Record → List ℕ
cut_short k log r = overwritten (whole_long log) (take k (record_bytes r)) log

-- ---- the promises

-- 1. What the code does is what is said of cards. An append that is not refused leaves in the lent memory the log that the card is to hold, up
-- to the new used length, which lies within it; bytes behind it stay.
pub record Leaves (lent : List ℕ) (used : ℕ) (r : Record) : Type 0 where
  pub takes : Takes (take used lent) r
  pub fits : whole_long (take used lent) + record_long ≤ length lent
  pub log : take (whole_long (take used lent) + record_long) (lent_after_append lent used r) ≡ appended (take used lent) r
  pub behind : drop (whole_long (take used lent) + record_long) (lent_after_append lent used r) ≡ drop (whole_long (take used lent) + record_long) lent

abbrev pub AppendLeaves : Type 0
AppendLeaves = (lent : List ℕ) (used : ℕ) (r : Record) → append_fault lent used r ≡ 0 → Leaves lent used r

-- 2. Round trip: what was appended is read back, number, cut and all five bit patterns, behind all that was read before; of a NaN the one
-- pattern.
abbrev pub RoundTrip : Type 0
RoundTrip = (log : List ℕ) (r : Record) → Typed r → reading_of (appended log r) ≡ and_record (reading_of log) r

abbrev pub OnePattern : Type 0
OnePattern = (x : Float) → is_nan x ≡ true → to_bits binary64 x ≡ 0x7FF8_0000_0000_0000

-- 3. Appending keeps it a log.
abbrev pub StaysALog : Type 0
StaysALog = (log : List ℕ) (r : Record) → Typed r → Takes log r → log_fault (appended log r) ≡ 0

-- 4. Power cut. Whatever rest an accepted log has, whatever is appended, and wherever the power goes: the card is a log that scan accepts, and the
-- reader gives every old record unchanged; the new one too, exactly when all its bytes were written; and no other.
abbrev pub PowerCut : Type 0
PowerCut =
    (log : List ℕ) (r : Record) (k : ℕ) → Typed r → Takes log r → k ≤ record_long
    → (log_fault (cut_short k log r) ≡ 0)
    × (reading_of (cut_short k log r) ≡ cond (eqb k record_long) (and_record (reading_of log) r) (and_rest (reading_of log) (max k (torn_rest log))))

-- 5. After the cut: the card is refused for the same records, an append is taken or refused as if the cut had not happened, and leaves the card as
-- if it had not.
pub record AsIfNever (log card : List ℕ) : Type 0 where
  pub old : log_fault card ≡ log_fault log
  pub new : (r : Record) → new_fault card r ≡ new_fault log r
  pub bytes : (r : Record) → appended card r ≡ appended log r

abbrev pub AfterTheCut : Type 0
AfterTheCut = (log : List ℕ) (r : Record) (k : ℕ) → k < record_long → AsIfNever log (cut_short k log r)

-- 6. Nothing on refusal: a refused append leaves every lent byte, and a refused read its three lists and the place of the rest's length.
pub record Untouched (log numbers bits cuts : List ℕ) (torn : ℕ) : Type 0 where
  pub number : read_into (read_fault log numbers bits cuts) (numbers_of log) numbers ≡ numbers
  pub pattern : read_into (read_fault log numbers bits cuts) (patterns_of log) bits ≡ bits
  pub cut : read_into (read_fault log numbers bits cuts) (cuts_of log) cuts ≡ cuts
  pub rest : lent_after (read_fault log numbers bits cuts) (torn_rest log) torn ≡ torn

abbrev pub NothingOnRefusal : Type 0
NothingOnRefusal =
    ((lent : List ℕ) (used : ℕ) (r : Record) → (append_fault lent used r ≡ 0 → ⊥) → lent_after_append lent used r ≡ lent)
    × ((log numbers bits cuts : List ℕ) (torn : ℕ) → (read_fault log numbers bits cuts ≡ 0 → ⊥) → Untouched log numbers bits cuts torn)

-- 7. The end of a log will do: without its first j records, of which it has more, an accepted log is accepted; an append behind it is taken or
-- refused as behind the whole log, and leaves the same bytes.
pub record EndAlone (log : List ℕ) (j : ℕ) : Type 0 where
  pub accepted : log_fault (drop (j * record_long) log) ≡ 0
  pub same_fault : (r : Record) → new_fault (drop (j * record_long) log) r ≡ new_fault log r
  pub same_bytes : (r : Record) → appended log r ≡ take (j * record_long) log ++ appended (drop (j * record_long) log) r

abbrev pub EndWillDo : Type 0
EndWillDo = (log : List ℕ) (j : ℕ) → log_fault log ≡ 0 → j < whole_records log → EndAlone log j

-- 8. A log may be scanned in pieces: accepted up to record j and from record j on, it is accepted. Record j stands in both, so that numbers are
-- seen to rise from one piece to the next.
abbrev pub InPieces : Type 0
InPieces =
    (log : List ℕ) (j : ℕ) → j < whole_records log
    → log_fault (take (suc j * record_long) log) ≡ 0 → log_fault (drop (j * record_long) log) ≡ 0 → log_fault log ≡ 0

-- 9. A card's life: appends one after the other, each of which the power may cut after k of its bytes.
pub record Try : Type 0 where
  pub what : Record
  pub bytes : ℕ

unfoldable pub card_after : List ℕ → List Try → List ℕ
card_after log [] = log
card_after log (t ∷ ts) = card_after (cut_short t.bytes log t.what) ts

-- each is one that an append does not refuse for what it is, at its time
unfoldable pub AllTaken : List ℕ → List Try → Type 0
AllTaken log [] = Unit {0}
AllTaken log (t ∷ ts) = Typed t.what × ((new_fault log t.what ≡ 0) × ((t.bytes ≤ record_long) × AllTaken (cut_short t.bytes log t.what) ts))

-- what was written whole is read, in order; what was cut short leaves a rest at most
abbrev pub read_after : Reading → Try → Reading
read_after g t = cond (eqb t.bytes record_long) (and_record g t.what) (and_rest g (max t.bytes g.torn))

unfoldable pub read_all : Reading → List Try → Reading
read_all g [] = g
read_all g (t ∷ ts) = read_all (read_after g t) ts

abbrev pub CardsLife : Type 0
CardsLife =
    (log : List ℕ) (ts : List Try) → log_fault log ≡ 0 → AllTaken log ts
    → (log_fault (card_after log ts) ≡ 0) × (reading_of (card_after log ts) ≡ read_all (reading_of log) ts)

-- 10. What scan accepts, and all that it accepts: every record has the mark, numbers rise strictly, and each cut is 0 or 1.
pub record InOrder (log : List ℕ) : Type 0 where
  pub marks : (k : ℕ) → k < whole_records log → has_mark (record_in log k) ≡ true
  pub rise : (k : ℕ) → suc k < whole_records log → get_or (numbers_of log) k 0 < get_or (numbers_of log) (suc k) 0
  pub cut_or_none : (k : ℕ) → k < whole_records log → get_or (cuts_of log) k 0 ≤ 1

abbrev pub ScanAccepts : Type 0
ScanAccepts = (log : List ℕ) → (log_fault log ≡ 0 → InOrder log) × (InOrder log → log_fault log ≡ 0)

-- 11. Where the reader puts it: record k's number is numbers[k], its patterns are bits[5 * k] to bits[5 * k + 4], and its cut is cuts[k].
pub record Placed (log : List ℕ) (k : ℕ) : Type 0 where
  pub number : get_or (numbers_of log) k 0 ≡ number_field (record_in log k)
  pub pattern : (j : ℕ) → j < pattern_count
      → get_or (patterns_of log) (k * pattern_count + j) 0 ≡ field pattern_long (patterns_place + pattern_long * j) (record_in log k)
  pub cut : get_or (cuts_of log) k 0 ≡ cut_field (record_in log k)

abbrev pub ByPlace : Type 0
ByPlace = (log : List ℕ) (k : ℕ) → k < whole_records log → Placed log k
