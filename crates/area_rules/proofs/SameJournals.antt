-- For the laws of this crate: so many calls, one after another, do and answer the same with both limits.
use Rattle.std.proofs.Common.{◌≡◌, ◌≤◌, ◌<◌, ◌+◌, ◌*◌, ◌∙◌, ◌⊎◌, ◌↔◌, inl, inr, ℕ, min, List, [], ◌∷◌, ◌++◌, length, take, slice_get, Some, refl, sym, ap, subst, append_assoc, append-nil, arith}
use Rattle.std.proofs.lemmas.Bool.{cases_lt}
use Rattle.std.proofs.lemmas.List.{length-take, length_push}
use Rattle.std.proofs.lemmas.Option.{slice_get_within}
use Rattle.mm_types.specs.declared.area.Access.{Access}
use Rattle.mm_types.specs.declared.call.Call.{Call}
use Rattle.mm_types.specs.declared.call.Entry.{Entry}
use Rattle.mm_types.specs.declared.call.Seen.{Seen}
use Rattle.mm_types.specs.declared.call.Seen.TheVariants as reads
use Rattle.mm_types.specs.declared.config.Config.{Config}
use Rattle.mm_types.specs.Config.{IsValidConfig}
use Rattle.area_rules.specs.Growing.{grows}
use Rattle.area_rules.specs.Journals.{version_of, IsReadAfter, IsReadRight}
use Rattle.area_rules.specs.Steps.{step, opening, after, IsLegalJournal}
use Rattle.area_rules.specs.Tables.{AddressSpace, Outcome}
use Rattle.area_rules.specs.Verdicts.{verdict}
use Rattle.area_rules.proofs.Journals.{after_ready, after-nil, after-push}
use Rattle.area_rules.specs.Limits.{with_areas, config_for}
use Rattle.area_rules.proofs.SameSteps.{length-step, grows_same, verdict_same, step_same}

-- what holds of no entry, and stays with one more, holds of each journal
by_entries : (P : List Entry → Type 0) → P [] → ((journal : List Entry) (entry : Entry) → P journal → P (journal ++ entry ∷ []))
    → (journal : List Entry) → P journal
by_entries P none more journal = go [] journal none
  where
    go : (done rest : List Entry) → P done → P (done ++ rest)
    go done [] p = subst P (sym (append-nil done)) p
    go done (entry ∷ rest) p = subst P (append_assoc done (entry ∷ []) rest) (go (done ++ entry ∷ []) rest (more done entry p))

-- so many calls make at most three areas each
pub length-after : (config : Config) (journal : List Entry) → IsValidConfig config → length journal ≤ 3000000000
    → length (after config journal).areas ≤ 3 * length journal
length-after config journal valid =
    by_entries (λ j. length j ≤ 3000000000 → length (after config j).areas ≤ 3 * length j)
    (λ few. nothing)
    (λ j entry before few.
    let shorter : length j ≤ 3000000000 = omega (arith, few, length_push j entry) in
    let step : length (after config (j ++ entry ∷ [])).areas ≤ length (after config j).areas + 3 =
    subst (λ (s : AddressSpace). length s.areas ≤ length (after config j).areas + 3) (sym (after-push config j entry))
    (length-step config (after config j) entry.call (after_ready config j valid shorter)) in
    omega (arith, before shorter, step, length_push j entry))
    journal
  where
    nothing : length (after config []).areas ≤ 3 * 0
    nothing = subst (λ (s : AddressSpace). length s.areas ≤ 3 * 0) (sym (after-nil config)) (unfold opening in omega arith)

opening_same : (areas : ℕ) (config : Config) → opening (with_areas areas config) ≡ opening config
unfolding opening
opening_same areas config = refl

-- ---- two limits that so many calls cannot pass

module _ (areas calls : ℕ) (config : Config) (valid : IsValidConfig config) (few : calls ≤ 3000000000)
    (fits : 3 * calls ≤ areas) (fits_own : 3 * calls ≤ config.areas) where
  next_same : (journal : List Entry) (call : Call) → length journal < calls
      → step (with_areas areas config) (after config journal) call ≡ step config (after config journal) call
  next_same journal call more =
      let made = length-after config journal valid (omega arith) in
      step_same areas config (after config journal) (after_ready config journal valid (omega arith)) (omega arith) (omega arith) call

  after_same : (journal : List Entry) → length journal ≤ calls → after (with_areas areas config) journal ≡ after config journal
  after_same = by_entries (λ j. length j ≤ calls → after (with_areas areas config) j ≡ after config j)
      (λ none. after-nil (with_areas areas config) ∙ opening_same areas config ∙ sym (after-nil config))
      (λ j entry before within.
      let shorter : length j < calls = omega (arith, within, length_push j entry) in
      after-push (with_areas areas config) j entry
      ∙ ap (λ (s : AddressSpace). (step (with_areas areas config) s entry.call).space) (before (omega (arith, shorter)))
      ∙ ap (λ (o : Outcome). o.space) (next_same j entry.call shorter)
      ∙ sym (after-push config j entry))

-- ---- the configuration for so many calls

-- it is the configuration itself, or neither limit can be passed
limits : (calls : ℕ) (config : Config)
    → (config_for calls config ≡ config) ⊎ ((3 * calls ≤ (config_for calls config).areas) × (3 * calls ≤ config.areas))
limits calls config = elim (cases_lt (3 * calls + 1) config.areas) [
  | inl lower ↦ inr (omega (arith, lower), omega (arith, lower))
  | inr enough ↦ inl (let same : min config.areas (3 * calls + 1) ≡ config.areas = omega (arith, enough) in ap (λ (n : ℕ). with_areas n config) same)
]

pub valid_for : (calls : ℕ) (config : Config) → IsValidConfig config → IsValidConfig (config_for calls config)
valid_for calls config valid = record {
  min = valid.min;
  top = valid.top;
  heap = valid.heap;
  limit = valid.limit;
  some_areas = omega (arith, valid.some_areas);
  most_areas = omega (arith, valid.most_areas);
  most_files = valid.most_files;
  distinct = valid.distinct;
}

module _ (calls : ℕ) (config : Config) (valid : IsValidConfig config) (few : calls ≤ 3000000000) where
  pub after_for : (journal : List Entry) → length journal ≤ calls → after (config_for calls config) journal ≡ after config journal
  after_for journal within = elim (limits calls config) [
    | inl same ↦ ap (λ (c : Config). after c journal) same
    | inr both ↦ after_same (config_for calls config).areas calls config valid few both.0 both.1 journal within
  ]

  pub step_for : (journal : List Entry) (call : Call) → length journal < calls
      → step (config_for calls config) (after config journal) call ≡ step config (after config journal) call
  step_for journal call within = elim (limits calls config) [
    | inl same ↦ ap (λ (c : Config). step c (after config journal) call) same
    | inr both ↦ next_same (config_for calls config).areas calls config valid few both.0 both.1 journal call within
  ]

  -- a call's outcome
  outcome_for : (journal : List Entry) (call : Call) → length journal < calls
      → step (config_for calls config) (after (config_for calls config) journal) call ≡ step config (after config journal) call
  outcome_for journal call within =
      ap (λ (s : AddressSpace). step (config_for calls config) s call) (after_for journal (omega (arith, within))) ∙ step_for journal call within

  at : (journal : List Entry) (place : ℕ) (entry : Entry) → length journal ≤ calls → slice_get journal place ≡ Some entry
      → step (config_for calls config) (after (config_for calls config) (take place journal)) entry.call
      ≡ step config (after config (take place journal)) entry.call
  at journal place entry within found =
      outcome_for (take place journal) entry.call (omega (arith, slice_get_within journal place entry found, length-take place journal))

  pub legal_for : (journal : List Entry) → length journal ≤ calls
      → IsLegalJournal (config_for calls config) journal ↔ IsLegalJournal config journal
  legal_for journal within = (
    λ legal. record {
      replies = λ place entry found. legal.replies place entry found ∙ ap (λ (o : Outcome). o.reply) (at journal place entry within found);
    },
    λ legal. record {
      replies = λ place entry found. legal.replies place entry found ∙ sym (ap (λ (o : Outcome). o.reply) (at journal place entry within found));
    },
  )

  grows_for : (journal : List Entry) (page : ℕ) (access : Access) → length journal ≤ calls
      → grows (config_for calls config) (after (config_for calls config) journal).areas page access ≡ grows config (after config journal).areas page access
  grows_for journal page access within =
      ap (λ (s : AddressSpace). grows (config_for calls config) s.areas page access) (after_for journal within)
      ∙ grows_same (config_for calls config).areas config (after config journal).areas page access

  verdict_for : (journal : List Entry) (page : ℕ) (access : Access) → length journal ≤ calls
      → verdict (config_for calls config) (after (config_for calls config) journal).areas page access
      ≡ verdict config (after config journal).areas page access
  verdict_for journal page access within =
      ap (λ (s : AddressSpace). verdict (config_for calls config) s.areas page access) (after_for journal within)
      ∙ verdict_same (config_for calls config).areas config (after config journal).areas page access

  pub read_for : (journal : List Entry) (read : Seen) → length journal ≤ calls
      → IsReadAfter (config_for calls config) journal read ↔ IsReadAfter config journal read
  read_for journal (reads.Fault version page access found) within = (
    λ h. (sym (grows_for journal page.0 access within) ∙ h.0, h.1 ∙ verdict_for journal page.0 access within),
    λ h. (grows_for journal page.0 access within ∙ h.0, h.1 ∙ sym (verdict_for journal page.0 access within)),
  )
  read_for journal (reads.Maps version list) within = (
    λ h. h ∙ ap (λ (s : AddressSpace). s.areas) (after_for journal within),
    λ h. h ∙ sym (ap (λ (s : AddressSpace). s.areas) (after_for journal within)),
  )

  pub right_for : (journal : List Entry) (read : Seen) → length journal ≤ calls
      → IsReadRight (config_for calls config) journal read ↔ IsReadRight config journal read
  right_for journal read within =
      let same = read_for (take (version_of read) journal) read (omega (arith, length-take (version_of read) journal)) in (
        λ h. record { right = same.0 h.right; within = h.within },
        λ h. record { right = same.1 h.right; within = h.within },
      )
