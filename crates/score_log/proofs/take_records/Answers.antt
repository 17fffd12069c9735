-- `score_log::take_records` meets its contract: after k turns the lists hold the first k records. Assumes nothing.
use mathlib.Core.Path.{◌≡◌, refl, ap, ◌∙◌}
use mathlib.Core.List.{List, [], ◌∷◌}
use Prim.Native.Nat.{ℕ, suc, ◌-◌, ◌*◌, ◌<◌}
use native.Mathlib.Numerals.{add-one}
use native.Mathlib.Omega.{arith}
use lib.ListN.{length, get_or}
use Rattle.octets.proofs.Laws.{number_here}
use Rattle.score_log.specs.Records.{record_long, number_long, pattern_count, number_place, pattern_fields, number_field, cut_field}
use Rattle.score_log.specs.Log.{whole_records, number_one, patterns_one, cut_one}
use Rattle.score_log.proofs.LogLaws.{record_at, record_in_long}
use Rattle.score_log.proofs.Puts.{part_put}
use Rattle.score_log.proofs.Filled.{filled_none, filled_one, filled_more}
use Rattle.score_log.proofs.take_records.Goals as goal

patterns-wide : (log : List ℕ) (k : ℕ) → length (patterns_one log k) ≡ pattern_count
unfolding pattern_fields
patterns-wide log k = refl

pub loop-k-init : goal.loop-k-init
loop-k-init c =
    let a = c.args in
    let log = a.log.now in
    (filled_none (number_one log) a.numbers.now, filled_none (patterns_one log) a.bits.now, filled_none (cut_one log) a.cuts.now)

pub loop-k-preserved : goal.loop-k-preserved
loop-k-preserved c =
    let a = c.args in
    let log = a.log.now in
    let k = c.loop-k.k in
    let (numbers, bits, cuts) = c.loop-k.invariant in
    let within : k < whole_records log = omega (arith, c.as_chunks.ensures.front_len) in
    let here = record_at log c.as_chunks.result.0.now c.as_chunks.ensures.front k within in
    let long : length (get_or c.as_chunks.result.0.now k []) ≡ record_long = ap length here ∙ record_in_long log k within in
    let number = c.u32_at.ensures ∙ number_here number_long number_place _ (omega (arith, long)) ∙ ap number_field here in
    let took : c.take_patterns.new.bits ≡ patterns_one log k = c.take_patterns.ensures ∙ ap pattern_fields here in
    let wide : length c.take_patterns.new.bits ≡ pattern_count = ap length took ∙ patterns-wide log k in
    rw add-one (
      filled_one (number_one log) a.numbers.now (λ k. refl) _ k numbers (omega (arith, within, c.requires.number)) _ (ap (λ (n : ℕ). n ∷ []) number),
      rw (part_put (k * pattern_count) (suc k * pattern_count - k * pattern_count) c.take_patterns.new.bits c.loop-k.bits (omega (arith, wide)))
          (filled_more (patterns_one log) a.bits.now pattern_count (patterns-wide log) _ k bits (omega (arith, within, c.requires.pattern)) _ took),
      filled_one (cut_one log) a.cuts.now (λ k. refl) _ k cuts (omega (arith, within, c.requires.cut)) _ (ap (λ (bs : List ℕ). cut_field bs ∷ []) here),
    )
