-- The place is the first: `first_difference`.
use Rattle.std.proofs.Common.{arith, ◌≡◌, sym, subst, length, map, take}
use Rattle.std.specs.Cmp.Lexicographic.{other_text, same_text}
use Rattle.std.proofs.lemmas.Grind.{common_steps}
use Rattle.std.proofs.lemmas.List.{length-map}
use Rattle.mm_types.specs.Packed.{packed}
use Rattle.lock_core.proofs.Differing.{longer_at, differs_area, agrees_area, ends_at}
use Rattle.lock_core.proofs.rows.first_difference.Goals as goal

pub returns-then-place-areas : goal.returns-then-place-areas
returns-then-place-areas c =
    let h = c.if-place-areas.true in
    sym (longer_at c.args.rows.now (map packed c.args.areas.now) c.loop-place.place (omega arith) (omega (arith, length-map c.args.areas.now packed)) c.loop-place.invariant)

pub returns-then-ne : goal.returns-then-ne
returns-then-ne c =
    sym (differs_area c.args.rows.now c.args.areas.now c.loop-place.place _ c.pack-words.result (omega arith) (omega arith)
    c.pack-words.ensures (other_text _ _ (grind (arith, common_steps))) c.loop-place.invariant)

pub loop-place-preserved : goal.loop-place-preserved
loop-place-preserved c =
    agrees_area c.args.rows.now c.args.areas.now c.loop-place.place _ c.pack-words.result (omega arith) (omega arith)
    c.pack-words.ensures (same_text _ _ (grind (arith, common_steps))) c.loop-place.invariant

pub returns : goal.returns
returns c =
    let end : c.loop-place.place ≡ length c.args.rows.now = omega arith in
    let same : take (length c.args.rows.now) c.args.rows.now ≡ take (length c.args.rows.now) (map packed c.args.areas.now) =
    subst (λ n. take n c.args.rows.now ≡ take n (map packed c.args.areas.now)) end c.loop-place.invariant in
    let e = ends_at c.args.rows.now (map packed c.args.areas.now) same in
    let long = length-map c.args.areas.now packed in
    grind (arith, common_steps, e, long)
