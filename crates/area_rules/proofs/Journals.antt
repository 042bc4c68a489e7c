-- For the laws `journal_laws` and `legal_journal_is_sound`: each prefix of a journal leaves a space where a step may be taken.
use Rattle.std.proofs.Common.{◌≡◌, ◌<◌, ◌≤◌, ◌+◌, ◌-◌, ◌^◌, ◌⊎◌, inl, inr, ℕ, true, zero, suc, List, [], ◌∷◌, ◌++◌, length, take, drop, slice_get, Some, refl, sym, ap, subst, ◌∙◌, ◌↔◌, arith}
use Rattle.std.specs.List.{fold}
use Rattle.std.proofs.lemmas.Bool.{cases_lt}
use Rattle.std.proofs.lemmas.Grind.{fold-append}
use Rattle.std.proofs.lemmas.List.{take-append-drop, take-append-le, take-take, take_at, length-take, length_push}
use Rattle.std.proofs.lemmas.List.Elements.{All-nil, All-from_recursion}
use Rattle.std.proofs.lemmas.Option.{same_Some, slice_get_within}
use Rattle.mm_types.specs.declared.area.Record.{Record}
use Rattle.mm_types.specs.declared.call.Entry.{Entry}
use Rattle.mm_types.specs.declared.config.Config.{Config}
use Rattle.mm_types.specs.Config.{IsValidConfig}
use Rattle.area_list.specs.Areas.{page_of, IsSound}
use Rattle.area_rules.specs.Tables.{AddressSpace}
use Rattle.area_rules.specs.Growing.{AreGrowersPrivate}
use Rattle.area_rules.specs.Steps.{step, IsReady, opening, after, IsLegalJournal}
use Rattle.area_list.proofs.Order.{canonical_from_good}
use Rattle.area_rules.proofs.Limits.{limit_between}
use Rattle.area_rules.proofs.Stepping.{IsCounted, AllCounted, step_sound, step_counted, step_objects, step_private, step_bounded}

-- all that a step is taken over, but the counter's room; and the files are counted
record IsCountedSpace (config : Config) (space : AddressSpace) : Type 0 where
  sound : IsSound config space.areas
  counted : AllCounted space
  files : length config.files ≤ space.objects
  private : AreGrowersPrivate space.areas
  bounded : space.brk ≤ config.limit

ready_from_counted : (config : Config) (space : AddressSpace) → IsValidConfig config → IsCountedSpace config space
    → space.objects < 2 ^ 32 - 1 → IsReady config space
ready_from_counted config space valid c room = record {
  valid = valid;
  sound = c.sound;
  counted = All-from_recursion (IsCounted space.objects) space.areas c.counted;
  room = room;
  private = c.private;
  bounded = c.bounded;
}

-- the space after some calls
abbrev run : Config → AddressSpace → List Entry → AddressSpace
run config space journal = fold (λ space entry. (step config space entry.call).space) space journal

run_ready : (config : Config) (space : AddressSpace) (journal : List Entry) → IsValidConfig config
    → IsCountedSpace config space → space.objects + length journal < 2 ^ 32 - 1
    → IsReady config (run config space journal)
run_ready config space [] valid c room = ready_from_counted config space valid c (omega arith)
run_ready config space (entry ∷ journal) valid c room =
    let ready : IsReady config space = ready_from_counted config space valid c (omega arith) in
    let objects = step_objects config space entry.call in
    run_ready config (step config space entry.call).space journal valid
    (record {
      sound = step_sound config space entry.call ready;
      counted = step_counted config space entry.call c.counted c.files;
      files = omega (arith, c.files, objects.0);
      private = step_private config space entry.call c.private;
      bounded = step_bounded config space entry.call ready;
    })
    (omega (arith, objects.1, room))

-- the heap begins at or below the limit
heap_within : (config : Config) → IsValidConfig config → config.heap ≤ config.limit
heap_within config valid = let limit = (limit_between config valid).low in elim valid.heap [
  | inl none ↦ omega (arith, none)
  | inr bound ↦ omega (arith, bound.within, limit)
]

opening_counted : (config : Config) → IsValidConfig config → IsCountedSpace config (opening config)
unfolding opening
opening_counted config valid = record {
  sound = record { canonical = canonical_from_good (page_of config.limit) [] tt tt; few = omega arith };
  counted = tt;
  files = omega arith;
  private = All-nil (λ (area : Record). area.attr.grows ≡ true → area.object ≡ 0);
  bounded = heap_within config valid;
}

pub after_ready : (config : Config) (journal : List Entry) → IsValidConfig config → length journal ≤ 3000000000
    → IsReady config (after config journal)
unfolding after
after_ready config journal valid few =
    run_ready config (opening config) journal valid (opening_counted config valid) (room config journal valid few)
  where
    room : (config : Config) (journal : List Entry) → IsValidConfig config → length journal ≤ 3000000000
        → (opening config).objects + length journal < 2 ^ 32 - 1
    room config journal valid few = unfold opening in omega (arith, valid.most_files)

pub after_take_ready : (config : Config) (journal : List Entry) (count : ℕ) → IsValidConfig config
    → length journal ≤ 3000000000 → IsReady config (after config (take count journal))
after_take_ready config journal count valid few =
    after_ready config (take count journal) valid (omega (arith, length-take count journal))

run_files : (config : Config) (space : AddressSpace) (journal : List Entry) → length config.files ≤ space.objects
    → length config.files ≤ (run config space journal).objects
run_files config space [] files = files
run_files config space (entry ∷ journal) files =
    run_files config (step config space entry.call).space journal
    (omega (arith, files, (step_objects config space entry.call).0))

pub after_files : (config : Config) (journal : List Entry) → length config.files ≤ (after config journal).objects
unfolding after
after_files config journal = run_files config (opening config) journal (unfold opening in omega arith)

pub after-nil : (config : Config) → after config [] ≡ opening config
unfolding after
after-nil config = refl

pub after-push : (config : Config) (journal : List Entry) (entry : Entry)
    → after config (journal ++ entry ∷ []) ≡ (step config (after config journal) entry.call).space
unfolding after
after-push config journal entry =
    fold-append (λ space entry. (step config space entry.call).space) (opening config) journal (entry ∷ [])

slice_get_left : {A : Type 0} (xs ys : List A) (i : ℕ) → i < length xs → slice_get (xs ++ ys) i ≡ slice_get xs i
slice_get_left [] ys i h = absurd (omega arith)
slice_get_left (x ∷ xs) ys zero h = refl
slice_get_left (x ∷ xs) ys (suc i) h = slice_get_left xs ys i (omega arith)

slice_get_last : {A : Type 0} (xs : List A) (y : A) → slice_get (xs ++ y ∷ []) (length xs) ≡ Some y
slice_get_last [] y = refl
slice_get_last (x ∷ xs) y = slice_get_last xs y

slice_get_take : {A : Type 0} (count : ℕ) (xs : List A) (i : ℕ) → i < length (take count xs)
    → slice_get xs i ≡ slice_get (take count xs) i
slice_get_take count xs i h =
    ap (λ list. slice_get list i) (sym (take-append-drop count xs))
    ∙ slice_get_left (take count xs) (drop count xs) i h

pub legal_take : (config : Config) (journal : List Entry) (count : ℕ) → IsLegalJournal config journal
    → IsLegalJournal config (take count journal)
legal_take config journal count legal = record {
  replies = λ place entry h.
      let within : place < length (take count journal) = slice_get_within (take count journal) place entry h in
      let there = slice_get_take count journal place within ∙ h in
      let same = take-take place count journal (omega (arith, within, length-take count journal)) in
      subst (λ list. entry.reply ≡ (step config (after config list) entry.call).reply) (sym same)
      (legal.replies place entry there);
}

-- a journal with one more entry: the reply of the entry is the step's
abbrev IsReplied : Config → List Entry → Entry → Type 0
IsReplied config journal entry = entry.reply ≡ (step config (after config journal) entry.call).reply

legal_front : (config : Config) (journal : List Entry) (entry : Entry) → IsLegalJournal config (journal ++ entry ∷ [])
    → IsLegalJournal config journal
legal_front config journal entry legal =
    subst (λ list. IsLegalJournal config list) (take_at journal (entry ∷ []) (length journal) refl)
    (legal_take config (journal ++ entry ∷ []) (length journal) legal)

legal_last : (config : Config) (journal : List Entry) (entry : Entry) → IsLegalJournal config (journal ++ entry ∷ [])
    → IsReplied config journal entry
legal_last config journal entry legal =
    subst (λ list. IsReplied config list entry) (take_at journal (entry ∷ []) (length journal) refl)
    (legal.replies (length journal) entry (slice_get_last journal entry))

legal_more : (config : Config) (journal : List Entry) (entry : Entry) → IsLegalJournal config journal
    → IsReplied config journal entry → IsLegalJournal config (journal ++ entry ∷ [])
legal_more config journal entry legal replied =
    record { replies = λ place found h. at place found h (cases_lt place (length journal)) }
  where
    at : (place : ℕ) (found : Entry) → slice_get (journal ++ entry ∷ []) place ≡ Some found
        → (place < length journal) ⊎ (length journal ≤ place)
        → found.reply ≡ (step config (after config (take place (journal ++ entry ∷ []))) found.call).reply
    at place found h (inl before) =
        subst (λ list. IsReplied config list found) (sym (take-append-le place journal (entry ∷ []) (omega arith)))
        (legal.replies place found (sym (slice_get_left journal (entry ∷ []) place before) ∙ h))
    at place found h (inr behind) =
        let within : place < length (journal ++ entry ∷ []) = slice_get_within (journal ++ entry ∷ []) place found
        h in
        let last : length journal ≡ place = omega (arith, within, length_push journal entry) in
        let same = same_Some entry found
        (sym (slice_get_last journal entry) ∙ ap (slice_get (journal ++ entry ∷ [])) last ∙ h) in
        subst (λ list. IsReplied config list found) (sym (take_at journal (entry ∷ []) place last))
        (subst (λ e. IsReplied config journal e) same replied)

pub legal-push : (config : Config) (journal : List Entry) (entry : Entry)
    → IsLegalJournal config (journal ++ entry ∷ []) ↔ (IsLegalJournal config
    journal × (entry.reply ≡ (step config (after config journal) entry.call).reply))
legal-push config journal entry = (
  λ legal. (legal_front config journal entry legal, legal_last config journal entry legal),
  λ both. legal_more config journal entry both.0 both.1,
)
