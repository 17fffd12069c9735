-- `score_log::put_record` meets its contract: mark, number, patterns and cut, each behind the one before it. Assumes nothing.
use mathlib.Core.Path.{◌≡◌, refl, ap, ◌∙◌}
use mathlib.Core.List.{List, [], ◌∷◌, ◌++◌, append_assoc}
use Prim.Native.Nat.{ℕ}
use native.Mathlib.Omega.{arith}
use lib.ListN.{length, length-append}
use Rattle.octets.specs.Octets.{bytes_of, overwritten}
use Rattle.octets.proofs.Laws.{bytes_long}
use Rattle.score_log.specs.Records.{number_long, patterns, pattern_bytes, record_bytes}
use Rattle.score_log.proofs.RecordLaws.{patterns_long, record_long_lem}
use Rattle.score_log.proofs.Puts.{front_put, part_put, all_put, bytes_next, number_next, byte_next}
use Rattle.score_log.proofs.put_record.Goals as goal

pub returns : goal.returns
unfolding record_bytes
returns c =
    let s = c.args.bytes.now in
    let r = c.args.r in
    let b2 : List ℕ = 0x53 ∷ 0x43 ∷ [] in
    let b3 = b2 ++ bytes_of number_long r.number in
    let b4 = b3 ++ pattern_bytes (patterns r) in
    let l3 : length b3 ≡ 6 = omega (arith, length-append b2 (bytes_of number_long r.number), bytes_long number_long r.number) in
    let l4 : length b4 ≡ 46 = omega (arith, length-append b3 (pattern_bytes (patterns r)), patterns_long (patterns r)) in
    let e2 = front_put b2 s _ c.copy_from_slice.ensures.after in
    let e3 = c.put_u32.ensures ∙ number_next 0 2 b2 s _ refl e2 4 r.number (omega arith) in
    let e4 = part_put 6 40 _ c.put_u32.new.s (omega (arith, ap length c.put_patterns.ensures, patterns_long (patterns r)))
    ∙ ap (λ (bs : List ℕ). overwritten 6 bs c.put_u32.new.s) c.put_patterns.ensures
    ∙ bytes_next 0 6 b3 s c.put_u32.new.s l3 e3 (pattern_bytes (patterns r)) (omega arith) in
    let e5 = byte_next 0 46 b4 s _ l4 e4 r.cut (omega arith) in
    e5 ∙ ap (λ (bs : List ℕ). overwritten 0 bs s) (simp append_assoc) ∙ all_put (record_bytes r) s (omega (arith, record_long_lem r))
