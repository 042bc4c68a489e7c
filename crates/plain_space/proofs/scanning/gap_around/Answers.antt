-- For `gap_around` of scanning.rt: its goals.
use Rattle.std.proofs.Common.{◌≡◌, ◌+◌, suc, ap, ◌∙◌, arith}
use Rattle.plain_space.specs.Internal.Gaps.{gap_before}
use Rattle.plain_space.proofs.scanning.gap_around.Goals as goal

pub returns : goal.returns
returns c =
    let next : c.args.place + 1 ≡ suc c.args.place = omega arith in
    let behind = c.gap_before-2.ensures ∙ ap (gap_before c.args.areas.now) next in
    omega (arith, c.max.ensures, c.gap_before.ensures, behind)
