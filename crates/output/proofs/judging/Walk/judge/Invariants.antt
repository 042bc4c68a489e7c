-- The proof of `Walk::judge`: the items so far were compared, and each shortens what is left.
use Rattle.std.proofs.Common.{ℕ, List, length}
use Rattle.output.specs.Internal.Judging.{IsTextWalked, trace_over}
use Rattle.output.proofs.judging.Walk.judge.Given as goal

abbrev pub invariant-loop-self : goal.invariant-loop-self
invariant-loop-self l = record {
  some : (text : List ℕ) × IsTextWalked (trace_over l.config l.lines) text l.self;
  kept : (text : List ℕ) → IsTextWalked (trace_over l.config l.lines) text l.fn.self → IsTextWalked (trace_over l.config l.lines) text l.self;
}

abbrev pub decreases-loop-self : goal.decreases-loop-self
decreases-loop-self l = length l.self.given.rest.now
