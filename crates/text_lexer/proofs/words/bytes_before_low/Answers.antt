-- For `bytes_before_low`: its goals.
use Rattle.std.proofs.Common.{◌≡◌, ◌≢◌, sym, ap, ◌∙◌, length, drop, take, map, nat_le, w8, w64, arith}
use Rattle.std.specs.Int.{trailing_zeros}
use Rattle.std.specs.Simd.Lanes.{mask_l}
use Rattle.std.proofs.lemmas.Simd.{bitmask_splat, leading_from_mask_l, length-chunk, trailing_mask_l}
use Rattle.text_lexer.proofs.WordParts.{is_low}
use Rattle.text_lexer.proofs.words.bytes_before_low.Goals as goal

pub returns-then-low-eq0 : goal.returns-then-low-eq0
returns-then-low-eq0 c =
    let bytes = take 16 (drop c.args.from c.args.text.now) in
    let long : length bytes ≡ 16 = length-chunk c.args.from 16 c.args.text.now c.requires in
    let none : mask_l (map is_low bytes) ≡ 0 = sym (bitmask_splat w8 nat_le bytes 16 32 long (omega arith)) ∙ c.if-low-eq0.true in
    sym (leading_from_mask_l is_low bytes none ∙ long)

pub returns : goal.returns
returns c =
    let bytes = take 16 (drop c.args.from c.args.text.now) in
    let long : length bytes ≡ 16 = length-chunk c.args.from 16 c.args.text.now c.requires in
    let same = bitmask_splat w8 nat_le bytes 16 32 long (omega arith) in
    let some : mask_l (map is_low bytes) ≢ 0 = λ none. c.if-low-eq0.false (same ∙ none) in
    ap (trailing_zeros w64) same ∙ trailing_mask_l is_low 64 bytes (omega (arith, long)) (omega (arith, some))
