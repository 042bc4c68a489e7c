-- For `take`: the first word and zeros after it.
use Rattle.std.proofs.Common.{ℕ, ◌∙◌, ap, set, take, replicate, arith}
use Rattle.node_slots.proofs.Zeros.{zeros_taken}
use Rattle.node_slots.proofs.first_words.FirstWords.take.Goals as goal

pub returns : goal.returns
returns c =
    let count = ap (λ v. v.count) c.self.view_is in
    ap (take c.args.count) c.deref.ensures.value
    ∙ zeros_taken _ _ c.self.invariant (omega (arith, count, c.requires))
    ∙ ap (λ v. set (replicate {A = ℕ} c.args.count 0) 0 v.first) c.self.view_is
