-- The proof of `shares`: a caller has few lines, and they are named few times.
use Rattle.std.proofs.Common.{◌<◌, arith}
use Rattle.history.proofs.OneSpace.{space_threads}
use Rattle.vma_drive.proofs.NamedCounts.{few_own}
use Rattle.vma_drive.proofs.places.shares.Goals as goal

pub overflow_add-lines : goal.overflow_add-lines
overflow_add-lines c =
    let caller : c.loop-caller.caller < 64 = omega (arith, c.loop-caller-test.true, c.max-caller-end.ensures, c.count.ensures.few) in
    let own = c.lines.ensures c.args.lines.now (space_threads _ c.of-callers.ensures.kept) c.of-callers.ensures.counted in
    omega (
      arith,
      own,
      few_own c.args.lines.now c.loop-caller.caller,
      c.of-callers.ensures.kept.few,
      c.tells_by_caller-tells.ensures.few c.loop-caller.caller caller,
    )
