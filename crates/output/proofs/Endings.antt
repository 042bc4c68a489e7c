-- Whether a line of the trace is left behind some items, and what their right text ends with.
use Rattle.std.proofs.Common.{ℕ, zero, suc, ◌≡◌, ◌<◌, ◌≤◌, ◌∙◌, refl, sym, ap, subst, cond, nat_eq, List, [], ◌∷◌, ◌++◌, length, ◌⊎◌, Some, arith, inl, inr}
use Rattle.std.proofs.lemmas.Bool.{cases_eq, cases_lt, cond-false, ne_eqb}
use Rattle.std.proofs.lemmas.Option.{slice_get_past, none-some}
use Rattle.mm_types.specs.declared.config.Config.{Config}
use Rattle.trace_reader.specs.declared.trace.TraceLine.{TraceLine}
use Rattle.area_rules.specs.Steps.{after}
use Rattle.history.specs.declared.items.Item.{Item}
use Rattle.history.specs.Histories.{items_of, lines_of, journal_of}
use Rattle.history.specs.Checking.{next_line}
use Rattle.history.specs.Coming.{ProgressView, IsProgress, HasNoneLeft}
use Rattle.history.proofs.Advances.{items_more, left_within}
use Rattle.output.specs.Output.{maps_text}
use Rattle.output.specs.Judgements.{IsEnding}

-- where a line is left
pub left_ending : (config : Config) (lines : List TraceLine) (items : List Item) → (HasNoneLeft lines items → ⊥) → IsEnding config lines items []
left_ending config lines items left = record { ended = λ all. absurd (left all); going_on = λ some. refl }

-- and where none is
pub whole_ending : (config : Config) (lines : List TraceLine) (items : List Item) → HasNoneLeft lines items
    → IsEnding config lines items (maps_text config.files (after config (journal_of items)).areas)
whole_ending config lines items all = record { ended = λ _. refl; going_on = λ left. absurd (left all) }

below : (lines : List TraceLine) (items : List Item) (count : ℕ)
    → ((caller : ℕ) → caller < count → length (items_of items caller) ≡ length (lines_of lines caller)) ⊎ (HasNoneLeft lines items → ⊥)
below lines items zero = inl (λ caller low. absurd (omega arith))
below lines items (suc count) = elim (cases_eq (length (items_of items count)) (length (lines_of lines count))) [
  | inl same ↦ elim (below lines items count) [
    | inl all ↦ inl (λ caller low. elim (cases_eq caller count) [
      | inl here ↦ subst (λ (k : ℕ). length (items_of items k) ≡ length (lines_of lines k)) (sym here) same
      | inr apart ↦ all caller (omega arith)
    ])
    | inr left ↦ inr left
  ]
  | inr other ↦ inr (λ all. other (all count))
]

-- who is no caller has no line, and answers none
none_past : (lines : List TraceLine) (items : List Item) (progress : ProgressView) (caller : ℕ) → IsProgress lines items progress
    → length progress.answered ≤ caller → length (items_of items caller) ≡ length (lines_of lines caller)
none_past lines items progress caller is past =
    let none : length (lines_of lines caller) ≡ 0 = ap (λ (l : List TraceLine). length l) (is.no_lines caller past) in
    omega (arith, none, is.few caller)

-- with the next item of a caller, too
more_past : (lines : List TraceLine) (items : List Item) (item : Item) (line : TraceLine) (progress : ProgressView) (caller : ℕ)
    → IsProgress lines items progress → next_line lines items item.caller ≡ Some line → length progress.answered ≤ caller
    → length (items_of (items ++ item ∷ []) caller) ≡ length (lines_of lines caller)
more_past lines items item line progress caller is next past =
    let within : item.caller < length progress.answered = left_within lines items _ item.caller line is next in
    let none : ◌≡◌ {A = ℕ} (cond (nat_eq item.caller caller) 1 0) 0 =
    cond-false (nat_eq item.caller caller) 1 0 (ne_eqb item.caller caller (λ same. absurd (omega (arith, within, past, same)))) in
    let more = items_more items item caller in
    let old = none_past lines items progress caller is past in
    omega (arith, more, none, old)

-- the ending of the items with the next item
pub some_ending : (config : Config) (lines : List TraceLine) (items : List Item) (item : Item) (line : TraceLine) (progress : ProgressView)
    → IsProgress lines items progress → next_line lines items item.caller ≡ Some line
    → (ending : List ℕ) × IsEnding config lines (items ++ item ∷ []) ending
some_ending config lines items item line progress is next =
    let many : List Item = items ++ item ∷ [] in
    let count : ℕ = length progress.answered in
    elim (below lines many count) [
      | inl all ↦ (
        maps_text config.files (after config (journal_of many)).areas,
        whole_ending config lines many (λ caller. elim (cases_lt caller count) [
          | inl low ↦ all caller low
          | inr past ↦ more_past lines items item line progress caller is next past
        ]),
      )
      | inr left ↦ ([], left_ending config lines many left)
    ]

-- where no line is left none comes next
pub none_next : (lines : List TraceLine) (items : List Item) (caller : ℕ) (line : TraceLine) → HasNoneLeft lines items
    → next_line lines items caller ≡ Some line → ⊥
none_next lines items caller line all next =
    none-some line (sym (slice_get_past (lines_of lines caller) (length (items_of items caller)) (omega (arith, all caller))) ∙ next)
