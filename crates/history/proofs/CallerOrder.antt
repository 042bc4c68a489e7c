-- For all laws of histories: the callers of a trace are its threads by ascending number.
use Rattle.std.proofs.Common.{ℕ, zero, suc, ◌≡◌, ◌+◌, ◌<◌, ◌≤◌, ◌∙◌, refl, sym, ap, subst, cond, Bool, true, ◌||◌, nat_eq, nat_le, List, [], ◌∷◌, All, arith, inl, inr}
use Rattle.std.proofs.lemmas.Bool.{cases_lt, eq-eqb, le-leb, lt-leb, or_right}
use Rattle.std.proofs.lemmas.List.Elements.{All-nil, All-cons, All-weaker}
use Rattle.trace_reader.specs.declared.trace.TraceLine.{TraceLine}
use Rattle.history.specs.Histories.{occurs, caller_of}

same_below : (f : ℕ → ℕ) (m n : ℕ) → m ≡ n → f m ≤ f n
same_below f m n same = subst (λ k. f m ≤ f k) same (omega arith)

-- callers do not fall with threads
pub caller_rises : (trace : List TraceLine) (low high : ℕ) → low ≤ high → caller_of trace low ≤ caller_of trace high
unfolding caller_of
caller_rises trace low zero below = same_below (caller_of trace) low zero (omega arith)
caller_rises trace low (suc high) below = elim (cases_lt low (suc high)) [
  | inl lower ↦ let rises : caller_of trace low ≤ caller_of trace high = caller_rises trace low high (omega arith) in omega arith
  | inr level ↦ same_below (caller_of trace) low (suc high) (omega arith)
]

-- and rise after a thread of the trace
pub caller_above : (trace : List TraceLine) (low high : ℕ) → occurs trace low ≡ true → low < high → caller_of trace low < caller_of trace high
unfolding caller_of
caller_above trace low high here above =
    let next : caller_of trace (suc low) ≡ caller_of trace low + 1 = ap (λ (t : Bool). caller_of trace low + cond t 1 0) here in
    omega (arith, next, caller_rises trace (suc low) high (omega arith))

-- so threads of the trace go as their callers
pub callers_alike : (trace : List TraceLine) (a b : ℕ) → occurs trace a ≡ true → occurs trace b ≡ true
    → nat_le a b ≡ nat_le (caller_of trace a) (caller_of trace b)
callers_alike trace a b here there = elim (cases_lt b a) [
  | inl above ↦ lt-leb a b above ∙ sym (lt-leb (caller_of trace a) (caller_of trace b) (caller_above trace b a there above))
  | inr below ↦ le-leb a b below ∙ sym (le-leb (caller_of trace a) (caller_of trace b) (caller_rises trace a b below))
]

-- each line's thread is one of the trace
pub all_occur : (trace : List TraceLine) → All (λ line. occurs trace line.thread ≡ true) trace
all_occur [] = All-nil (λ (line : TraceLine). occurs [] line.thread ≡ true)
all_occur (first ∷ lines) =
    All-cons (λ (line : TraceLine). occurs (first ∷ lines) line.thread ≡ true) first lines
    (ap (λ (t : Bool). t || occurs lines first.thread) (eq-eqb first.thread first.thread refl))
    (All-weaker (λ (line : TraceLine). occurs lines line.thread ≡ true) (λ (line : TraceLine). occurs (first ∷ lines) line.thread ≡ true)
    (λ line here. or_right (nat_eq first.thread line.thread) (occurs lines line.thread) here) lines (all_occur lines))
