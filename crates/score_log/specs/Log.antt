-- Document 02, L1: "Write and read a log". A log is a list of bytes: whole records, one behind the other, and a rest that is shorter than one.
use Rattle.std.specs.Prelude.{Bool, ◌||◌, List, [], ◌∷◌, ◌++◌, ℕ, zero, suc, ◌+◌, ◌*◌, ◌/◌, ◌%◌, ltb, length, take, drop}
use Rattle.answer.specs.Answer.{Answer, answered, lent_after}
use Rattle.answer.specs.Refusal.{refusal, ◌or_else◌}
use Rattle.octets.specs.Octets.{overwritten}
use Rattle.score_log.specs.declared.Record.{Record}
use Rattle.score_log.specs.Records.{record_long, pattern_count, record_bytes, number_field, pattern_fields, cut_field, later_fault, bytes_fault}

-- "every whole record and the length of the torn rest"
abbrev pub whole_records : List ℕ → ℕ
whole_records log = length log / record_long

abbrev pub torn_rest : List ℕ → ℕ
torn_rest log = length log % record_long

-- where the rest begins: "behind the last whole record"
abbrev pub whole_long : List ℕ → ℕ
whole_long log = whole_records log * record_long

-- record k
unfoldable pub record_in : List ℕ → ℕ → List ℕ
record_in log k = take record_long (drop (k * record_long) log)

-- ---- refusals

-- "Numbers rise strictly": the least number that rises behind k records
unfoldable pub least_after : List ℕ → ℕ → ℕ
least_after log zero = 0
least_after log (suc k) = suc (number_field (record_in log k))

abbrev pub record_fault : List ℕ → ℕ → ℕ
record_fault log k = bytes_fault (least_after log k) (record_in log k)

-- "the earliest record at fault first"
unfoldable pub earliest : ℕ → (ℕ → ℕ) → ℕ
earliest zero fault = 0
earliest (suc n) fault = earliest n fault or_else fault n

-- "a rest of fewer than 47 bytes is never tested"
unfoldable pub log_fault : List ℕ → ℕ
log_fault log = earliest (whole_records log) (record_fault log)

-- ---- the reader

-- g 0, g 1, .., g (n - 1), one list behind the other
unfoldable pub joined : ℕ → (ℕ → List ℕ) → List ℕ
joined zero g = []
joined (suc n) g = joined n g ++ g n

-- of record k: the number, the five patterns "as they stand in the log", and the cut
abbrev pub number_one : List ℕ → ℕ → List ℕ
number_one log k = number_field (record_in log k) ∷ []

abbrev pub patterns_one : List ℕ → ℕ → List ℕ
patterns_one log k = pattern_fields (record_in log k)

abbrev pub cut_one : List ℕ → ℕ → List ℕ
cut_one log k = cut_field (record_in log k) ∷ []

-- "the reader then gives every whole record"
abbrev pub numbers_of : List ℕ → List ℕ
numbers_of log = joined (whole_records log) (number_one log)

abbrev pub patterns_of : List ℕ → List ℕ
patterns_of log = joined (whole_records log) (patterns_one log)

abbrev pub cuts_of : List ℕ → List ℕ
cuts_of log = joined (whole_records log) (cut_one log)

-- scan: how many whole records
abbrev pub scan_of : List ℕ → Answer ℕ
scan_of log = answered (log_fault log) (whole_records log)

-- read: the same, "then 15 where a list is short of that"
abbrev pub is_short : List ℕ → List ℕ → List ℕ → List ℕ → Bool
is_short log numbers bits cuts =
    ltb (length numbers) (whole_records log) || ltb (length bits) (whole_records log * pattern_count) || ltb (length cuts) (whole_records log)

unfoldable pub read_fault : List ℕ → List ℕ → List ℕ → List ℕ → ℕ
read_fault log numbers bits cuts = log_fault log or_else refusal 15 (is_short log numbers bits cuts)

-- what a lent list holds at exit: the new from its first place on, and "Places past the records stay"
abbrev pub read_into : ℕ → List ℕ → List ℕ → List ℕ
read_into fault new old = lent_after fault (overwritten 0 new old) old

-- ---- append

-- "13 (cut above 1) and 14 of the new one": its mark is never bad
unfoldable pub new_fault : List ℕ → Record → ℕ
new_fault log r = later_fault r.cut r.number (least_after log (whole_records log))

-- "15 where used is above the length; 12, 13, 14 of the old records; 13 and 14 of the new one; 15". The log so far is the first `used` bytes.
unfoldable pub append_fault : List ℕ → ℕ → Record → ℕ
append_fault lent used r =
    refusal 15 (ltb (length lent) used)
    or_else log_fault (take used lent)
    or_else new_fault (take used lent) r
    or_else refusal 15 (ltb (length lent) (whole_long (take used lent) + record_long))

-- "An append goes behind the last whole record, over a torn rest"
abbrev pub appended : List ℕ → Record → List ℕ
appended log r = overwritten (whole_long log) (record_bytes r) log

-- the new used length
abbrev pub append_of : List ℕ → ℕ → Record → Answer ℕ
append_of lent used r = answered (append_fault lent used r) (whole_long (take used lent) + record_long)

-- "Bytes past the new record stay"; "a refused append .. writes nothing"
abbrev pub lent_after_append : List ℕ → ℕ → Record → List ℕ
lent_after_append lent used r = lent_after (append_fault lent used r) (overwritten (whole_long (take used lent)) (record_bytes r) lent) lent
