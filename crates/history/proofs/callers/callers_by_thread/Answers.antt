-- For `callers_by_thread`: one thread more.
use Rattle.std.proofs.Common.{ℕ, ◌≡◌, ◌≢◌, ◌<◌, ◌+◌, ◌⊎◌, inl, inr, ◌∙◌, sym, ap, arith, set}
use Rattle.std.specs.List.{slice_index}
use Rattle.std.proofs.lemmas.Bool.{cases_eq}
use Rattle.std.proofs.lemmas.List.{length-set, get_or-set_same, get_or-set_other}
use Rattle.history.specs.Threads.{busy_below}
use Rattle.history.proofs.callers.callers_by_thread.Goals as goal

pub loop-thread-preserved : goal.loop-thread-preserved
loop-thread-preserved c = (length-set c.loop-thread.callers c.loop-thread.thread c.busy_below.result ∙ c.loop-thread.invariant.0, λ thread below. by thread below (cases_eq thread c.loop-thread.thread))
  where
    by : (thread : ℕ) → thread < c.loop-thread.thread + 1 → ((thread ≡ c.loop-thread.thread) ⊎ (thread ≢ c.loop-thread.thread))
        → slice_index (set c.loop-thread.callers c.loop-thread.thread c.busy_below.result) thread ≡ busy_below thread c.args.counts.now
    by thread below (inl same) = ap (slice_index (set c.loop-thread.callers c.loop-thread.thread c.busy_below.result)) same
        ∙ get_or-set_same c.loop-thread.callers c.loop-thread.thread c.busy_below.result 0 (omega (arith, c.loop-thread.invariant.0, c.loop-thread-test.true))
        ∙ c.busy_below.ensures.count ∙ ap (λ n. busy_below n c.args.counts.now) (sym same)
    by thread below (inr other) = get_or-set_other c.loop-thread.callers c.loop-thread.thread thread c.busy_below.result 0 other
        ∙ c.loop-thread.invariant.1 thread (omega arith)
