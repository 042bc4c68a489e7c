-- For `has_distinct_fds`: its goals.
use Rattle.std.proofs.Common.{IsTrue, true, false, refl}
use Rattle.std.proofs.lemmas.Bool.{false≢true}
use Rattle.mm_types.proofs.Distinct.{found_twice, more_distinct, whole_distinct}
use Rattle.mm_types.proofs.config.has_distinct_fds.Goals as goal

pub returns-then-shares_fd : goal.returns-then-shares_fd
returns-then-shares_fd c = (
  λ (t : IsTrue false). absurd (false≢true t),
  λ apart. absurd (found_twice c.args.files.now c.loop-place.place c.index-files-place.result c.loop-place-test.true
      c.index-files-place.is (c.shares_fd.ensures.0 c.if-shares_fd.true) apart),
)

pub loop-place-preserved : goal.loop-place-preserved
loop-place-preserved c = more_distinct c.args.files.now c.loop-place.place c.index-files-place.result c.shares_fd.result
    c.loop-place-test.true c.index-files-place.is c.if-shares_fd.false c.shares_fd.ensures.1 c.loop-place.invariant

pub returns : goal.returns
returns c = (λ (t : IsTrue true). whole_distinct c.args.files.now c.loop-place.place c.loop-place-test.false c.loop-place.invariant, λ apart. refl)
