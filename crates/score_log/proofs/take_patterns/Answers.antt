-- `score_log::take_patterns` meets its contract: after j turns the first j patterns stand in the list. Assumes nothing.
use mathlib.Core.Path.{◌≡◌, refl, sym, ap, ◌∙◌}
use mathlib.Core.List.{List, [], ◌∷◌}
use Prim.Native.Nat.{ℕ, ◌+◌, ◌*◌, ◌/◌, ◌<◌}
use native.Mathlib.Numerals.{add-one}
use native.Mathlib.Omega.{arith}
use lib.ListN.{length, take, drop, get_or, length-take, length-drop}
use lib.Seq.{drop-drop, take_all}
use Rattle.std.specs.Simd.{first_chunks}
use Rattle.octets.specs.Octets.{number_of, overwritten, number_at}
use Rattle.octets.proofs.Laws.{number_here}
use Rattle.score_log.specs.Records.{record_long, pattern_long, pattern_count, patterns_place, field, pattern_fields}
use Rattle.score_log.specs.Log.{joined}
use Rattle.score_log.proofs.Chunks.{chunk_at}
use Rattle.score_log.proofs.Places.{part_front, patterns_part, pattern_one, all_patterns}
use Rattle.score_log.proofs.Filled.{filled_none, filled_one}
use Rattle.score_log.proofs.Puts.{all_put}
use Rattle.score_log.proofs.take_patterns.Goals as goal

part_long : (bs : List ℕ) → length bs ≡ record_long → length (patterns_part bs) / pattern_long ≡ pattern_count
part_long bs e = omega (arith, length-take (pattern_count * pattern_long) (drop patterns_place bs), length-drop patterns_place bs)

-- what stands in chunk j of the patterns is pattern j
module _ (bs : List ℕ) (e : length bs ≡ record_long) (j : ℕ) (h : j < pattern_count) (chunks : List (List ℕ)) (is : chunks ≡ first_chunks pattern_long (length (patterns_part bs) / pattern_long) (patterns_part bs)) where
  chunk : get_or chunks j [] ≡ take pattern_long (drop (patterns_place + j * pattern_long) bs)
  chunk =
      ap (λ (ls : List (List ℕ)). get_or ls j []) (is ∙ ap (λ (n : ℕ). first_chunks pattern_long n (patterns_part bs)) (part_long bs e))
      ∙ chunk_at pattern_long pattern_count j (patterns_part bs) [] h
      ∙ part_front (j * pattern_long) pattern_long (pattern_count * pattern_long) (drop patterns_place bs) (omega arith)
      ∙ ap (take pattern_long) (drop-drop (j * pattern_long) patterns_place bs)

  chunk_pattern : number_at pattern_long 0 (get_or chunks j []) ≡ field pattern_long (patterns_place + j * pattern_long) bs
  chunk_pattern =
      let at : ℕ = patterns_place + j * pattern_long in
      let long : length (take pattern_long (drop at bs)) ≡ pattern_long = omega (arith, length-take pattern_long (drop at bs), length-drop at bs) in
      ap (number_at pattern_long 0) chunk
      ∙ number_here pattern_long 0 (take pattern_long (drop at bs)) (omega arith)
      ∙ ap number_of (take_all pattern_long (take pattern_long (drop at bs)) (omega arith))

pub loop-j-init : goal.loop-j-init
loop-j-init c = filled_none (pattern_one c.args.bytes.now) c.args.bits.now

pub loop-j-preserved : goal.loop-j-preserved
loop-j-preserved c =
    let bs = c.args.bytes.now in
    let j = c.loop-j.j in
    let within : j < pattern_count = omega (arith, c.as_chunks.ensures.front_len, part_long bs c.told-bytes) in
    let value = c.u64_at.ensures ∙ chunk_pattern bs c.told-bytes j within c.as_chunks.result.0.now c.as_chunks.ensures.front in
    rw add-one (filled_one (pattern_one bs) c.args.bits.now (λ k. refl) _ j c.loop-j.invariant (omega (arith, within, c.requires)) _ (ap (λ (n : ℕ). n ∷ []) value))

pub returns : goal.returns
unfolding pattern_fields
returns c =
    let bs = c.args.bytes.now in
    let old = c.args.bits.now in
    let all : c.loop-j.j ≡ pattern_count = omega (arith, c.as_chunks.ensures.front_len, part_long bs c.told-bytes) in
    c.loop-j.invariant.is
    ∙ ap (λ (n : ℕ). overwritten 0 (joined n (pattern_one bs)) old) all
    ∙ ap (λ (l : List ℕ). overwritten 0 l old) (all_patterns bs)
    ∙ all_put (pattern_fields bs) old (sym c.requires)
