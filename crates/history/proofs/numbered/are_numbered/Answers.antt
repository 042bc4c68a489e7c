-- The proof of `are_numbered`: one line more, one that does not rise, and all lines.
use Rattle.std.proofs.Common.{ℕ, ◌≡◌, ◌+◌, ◌-◌, ◌<◌, ◌≤◌, ◌∙◌, refl, sym, ap, List, length, get_or, arith, inl, inr}
use Rattle.std.proofs.lemmas.Bool.{cases_eq}
use Rattle.std.proofs.lemmas.Option.{slice_get-get_or, same_Some}
use Rattle.trace_reader.specs.declared.trace.TraceLine.{TraceLine}
use Rattle.trace_reader.specs.Values.{AreNumbered}
use Rattle.history.proofs.numbered.are_numbered.Goals as goal

-- what stands at a place, whatever else it might be
number_at : (lines : List TraceLine) (place : ℕ) (a b : TraceLine) → place < length lines → (get_or lines place a).number ≡ (get_or lines place b).number
number_at lines place a b within =
    ap (λ (l : TraceLine). l.number)
    (same_Some (get_or lines place a) (get_or lines place b) (sym (slice_get-get_or lines place a within) ∙ slice_get-get_or lines place b within))

-- the numbers of lines so far rise
abbrev RiseSoFar : List TraceLine → ℕ → Type 0
RiseSoFar lines place = (i j : ℕ) (d : TraceLine) → i < j → j < place → (get_or lines i d).number < (get_or lines j d).number

rise_more : (lines : List TraceLine) (place : ℕ) (a b : TraceLine) → 1 ≤ place → place < length lines → RiseSoFar lines place
    → (get_or lines (place - 1) a).number < (get_or lines place b).number → RiseSoFar lines (place + 1)
rise_more lines place a b some within rise next = λ i j d below inside. elim (cases_eq j place) [
  | inl last ↦
      let here : (get_or lines j d).number ≡ (get_or lines place b).number =
      ap (λ (k : ℕ). (get_or lines k d).number) last ∙ number_at lines place d b within in
      let prior : (get_or lines (place - 1) d).number ≡ (get_or lines (place - 1) a).number = number_at lines (place - 1) d a (omega arith) in
      elim (cases_eq i (place - 1)) [
        | inl level ↦
            let same : (get_or lines i d).number ≡ (get_or lines (place - 1) d).number = ap (λ (k : ℕ). (get_or lines k d).number) level in
            omega (arith, here, prior, same, next)
        | inr lower ↦ omega (arith, here, prior, next, rise i (place - 1) d (omega arith) (omega arith))
      ]
  | inr before ↦ rise i j d below (omega arith)
]

-- a line that does not rise is none of lines that rise
falls : (lines : List TraceLine) (place : ℕ) (a b : TraceLine) → 1 ≤ place → place < length lines
    → (get_or lines place b).number ≤ (get_or lines (place - 1) a).number → AreNumbered lines → ⊥
falls lines place a b some within low rises =
    let next : (get_or lines (place - 1) a).number < (get_or lines place a).number = rises (place - 1) place a (omega arith) within in
    omega (arith, next, low, number_at lines place a b within)

pub returns-then-lines-place : goal.returns-then-lines-place
returns-then-lines-place c = (
  λ wrong. cc,
  λ numbered. absurd (falls c.args.lines.now c.loop-place.place _ _ (omega arith) (omega arith) c.if-lines-place.true numbered),
)

pub returns : goal.returns
returns c = (λ is i j d below inside. c.loop-place.invariant i j d below (omega (arith, inside, c.loop-place-test.false)), λ numbered. refl)

pub loop-place-preserved : goal.loop-place-preserved
loop-place-preserved c =
    rise_more c.args.lines.now c.loop-place.place _ _ (omega arith) (omega arith) c.loop-place.invariant c.if-lines-place.false
