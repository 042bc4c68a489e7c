-- The proof of `keep_front`: the rest is cut to what is kept of it.
use Rattle.std.proofs.Common.{◌≡◌, ◌∙◌, ℕ, List, ap, arith, drop, length, min, subst, sym}
use Rattle.std.proofs.lemmas.List.{length-take}
use Rattle.live_session.specs.declared.held.TheConstants.{MOST_KEPT}
use Rattle.live_session.specs.Internal.Held.{HeldLineView, HasNoNewline, kept}
use Rattle.live_session.proofs.Newlines.{kept_held, kept_rest}
use Rattle.live_session.proofs.held.Held.keep_front.Goals as goal

abbrev with_bytes : List ℕ → ℕ → HeldLineView
with_bytes bytes turns = record { bytes = bytes; searched = length bytes; turns = turns }

-- as many were searched as are kept
all_searched : (bytes : List ℕ) (count : ℕ) → count ≡ min MOST_KEPT (length bytes) → count ≡ length (kept bytes)
all_searched bytes count is = is ∙ sym (length-take MOST_KEPT bytes)

pub invariant_of-self : goal.invariant_of-self
invariant_of-self c =
    kept_held c.self.inside.bytes.items c.truncate.new.self.items c.self.inside.at c.min-self-inside.result (omega (arith, c.self.invariant.within))
    (c.min-self-inside.ensures ∙ ap (λ (b : List ℕ). min MOST_KEPT (length b)) (c.bytes.ensures ∙ sym (ap (λ (h : HeldLineView). h.bytes) c.self.view_is))) c.truncate.ensures.items (subst (λ (h : HeldLineView). HasNoNewline h.bytes) (sym c.self.view_is) c.requires) c.self.invariant.few

pub returns : goal.returns
returns c =
    let old : List ℕ = drop c.self.inside.at c.self.inside.bytes.items in
    let new : List ℕ = drop c.self.inside.at c.truncate.new.self.items in
    let count : c.min-self-inside.result ≡ min MOST_KEPT (length old) =
    c.min-self-inside.ensures ∙ ap (λ (b : List ℕ). min MOST_KEPT (length b)) (c.bytes.ensures ∙ sym (ap (λ (h : HeldLineView). h.bytes) c.self.view_is)) in
    ap (λ (n : ℕ). record { bytes = new; searched = n; turns = c.self.inside.turns }) (all_searched old c.min-self-inside.result count)
    ∙ ap (λ (b : List ℕ). record { bytes = b; searched = length (kept old); turns = c.self.inside.turns })
    (kept_rest c.self.inside.bytes.items c.truncate.new.self.items c.self.inside.at c.min-self-inside.result (omega (arith, c.self.invariant.within)) count
    c.truncate.ensures.items)
    ∙ ap (λ (h : HeldLineView). with_bytes (kept h.bytes) h.turns) c.self.view_is
