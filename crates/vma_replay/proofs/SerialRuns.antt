-- For `serial_outputs_are_equal`: two runs of the same lines, in their order, have the same journal.
use Rattle.std.proofs.Common.{ℕ, zero, suc, ◌≡◌, ◌+◌, ◌<◌, ◌≤◌, ◌∙◌, refl, sym, ap, subst, cond, List, [], ◌∷◌, ◌++◌, length, get_or, map, take, slice_get, All, Some, arith}
use Rattle.std.specs.Option.{option_map}
use Rattle.std.proofs.lemmas.List.{length-map, take_all, take_more_same}
use Rattle.std.proofs.lemmas.List.Elements.{All-append}
use Rattle.std.proofs.lemmas.Option.{slice_get-get_or, slice_get-map, slice_get_within}
use Rattle.mm_types.specs.declared.call.Entry.{Entry}
use Rattle.mm_types.specs.declared.call.Seen.{Seen}
use Rattle.mm_types.specs.declared.config.Config.{Config}
use Rattle.trace_reader.specs.declared.trace.Op.{Op}
use Rattle.trace_reader.specs.declared.trace.TraceLine.{TraceLine}
use Rattle.area_rules.specs.Steps.{after}
use Rattle.history.specs.declared.items.Content.{Content}
use Rattle.history.specs.declared.items.Content.TheVariants as contents
use Rattle.history.specs.declared.items.Item.{Item}
use Rattle.history.specs.Histories.{answer_of, is_call, op_asked, journal_of}
use Rattle.history.specs.Runs.{entry_items, logs_items, history_of, ops_of, asked, IsReadRightAfter}
use Rattle.history.specs.Labels.{IsSerialRun}
use Rattle.history.proofs.Gathers.{all_gather}
use Rattle.history.proofs.Legal.{IsGathered, all_log, all_logs, entries_below, history_journal, legal_from_opening, right_from_opening, small_items}
use Rattle.history.proofs.Placed.{IsPlaced, placed}
use Rattle.history.proofs.Serial.{right_is_answer}
use Rattle.vma_replay.proofs.RunTexts.{serial_own}

-- a run by one caller has no other log
one_log : (config : Config) (journal : List Entry) (log : List Seen) → All (IsReadRightAfter config [] journal) log
    → (caller : ℕ) (other : List Seen) → slice_get (log ∷ []) caller ≡ Some other → All (IsReadRightAfter config [] journal) other
one_log config journal log right zero other found =
    let is : log ≡ other = cc in subst (λ (l : List Seen). All (IsReadRightAfter config [] journal) l) is right
one_log config journal log right (suc caller) other found = absurd (cc)

gathered : (config : Config) (lines : List TraceLine) (journal : List Entry) (log : List Seen) → IsSerialRun config lines journal log
    → IsGathered config [] journal (log ∷ [])
gathered config lines journal log run = record {
  legal = legal_from_opening config journal run.legal;
  made = run.made;
  right = one_log config journal log (right_from_opening config journal log run.right);
  small = small_items 1 journal (log ∷ []) (omega arith) (omega arith) run.others;
}

-- what it did, item by item
abbrev did : List Entry → List Seen → List Item
did journal log = history_of journal (log ∷ [])

asked_for : (config : Config) (lines : List TraceLine) (journal : List Entry) (log : List Seen) → IsSerialRun config lines journal log
    → map (λ (item : Item). op_asked item.content) (did journal log) ≡ asked lines
unfolding ops_of
asked_for config lines journal log run =
    ap (λ (l : List Item). map (λ (item : Item). op_asked item.content) l) (serial_own config lines journal log run) ∙ run.done

by_none_else : (config : Config) (lines : List TraceLine) (journal : List Entry) (log : List Seen) → IsSerialRun config lines journal log
    → All (λ item. item.caller < 1) (did journal log)
unfolding history_of
by_none_else config lines journal log run =
    let P : Item → Type 0 = λ item. item.caller < 1 in
    all_gather P (entry_items 0 journal ++ logs_items 0 (log ∷ []))
    (All-append P (entry_items 0 journal) (logs_items 0 (log ∷ [])) (entries_below 1 0 journal run.others)
    (all_logs P 0 (log ∷ []) (λ place other found.
    let first : place < 1 = slice_get_within (log ∷ []) place other found in
    all_log P (0 + place) other (λ k d within. omega arith))))

-- any item
no_item : Item
no_item = record { caller = 0; version = 0; content = contents.List [] }

-- an item is settled by what stands before it and by what it was asked
settled : (config : Config) (before : List Item) (item other : Item) → IsPlaced config [] before item → IsPlaced config [] before other
    → item.caller < 1 → other.caller < 1 → op_asked item.content ≡ op_asked other.content → item ≡ other
settled config before item other one two own same_caller asked =
    let content : item.content ≡ other.content =
    right_is_answer config (journal_of before) (after config (journal_of before)) item.content refl one.right
    ∙ ap (answer_of config (after config (journal_of before))) asked
    ∙ sym (right_is_answer config (journal_of before) (after config (journal_of before)) other.content refl two.right) in
    let version : item.version ≡ other.version =
    one.version ∙ ap (λ (c : Content). length (journal_of before) + cond (is_call c) 1 0) content ∙ sym two.version in
    let caller : item.caller ≡ other.caller = omega arith in
    ap (λ (c : ℕ). record item { caller = c }) caller
    ∙ ap (λ (v : ℕ). record item { caller = other.caller; version = v }) version
    ∙ ap (λ (c : Content). record { caller = other.caller; version = other.version; content = c }) content

module _ (config : Config) (lines : List TraceLine) (journal other : List Entry) (log others : List Seen)
    (first : IsSerialRun config lines journal log) (second : IsSerialRun config lines other others) where
  as_long : length (did journal log) ≡ length (did other others)
  as_long =
      sym (length-map (did journal log) (λ (item : Item). op_asked item.content))
      ∙ ap (λ (l : List Op). length l) (asked_for config lines journal log first ∙ sym (asked_for config lines other others second))
      ∙ length-map (did other others) (λ (item : Item). op_asked item.content)

  asked_alike : (place : ℕ) (d : Item) → place < length (did journal log)
      → op_asked (get_or (did journal log) place d).content ≡ op_asked (get_or (did other others) place d).content
  asked_alike place d within =
      let op : Item → Op = λ item. op_asked item.content in
      let mine = slice_get-map op (did journal log) place ∙ ap (option_map op) (slice_get-get_or (did journal log) place d within) in
      let theirs = slice_get-map op (did other others) place
      ∙ ap (option_map op) (slice_get-get_or (did other others) place d (omega (arith, as_long))) in
      let same = ap (λ (l : List Op). slice_get l place)
      (asked_for config lines journal log first ∙ sym (asked_for config lines other others second)) in
      cc (mine, theirs, same)

  same_taken : (count : ℕ) → count ≤ length (did journal log) → take count (did journal log) ≡ take count (did other others)
  same_taken zero within = refl
  same_taken (suc count) within =
      let so_far : take count (did journal log) ≡ take count (did other others) = same_taken count (omega arith) in
      let here : count < length (did journal log) = omega arith in
      let there : count < length (did other others) = omega (arith, as_long) in
      let d : Item = no_item in
      let one : Item = get_or (did journal log) count d in
      let two : Item = get_or (did other others) count d in
      let placed_one : IsPlaced config [] (take count (did journal log)) one =
      placed config [] journal (log ∷ []) (gathered config lines journal log first) count one (slice_get-get_or (did journal log) count d here) in
      let placed_two : IsPlaced config [] (take count (did journal log)) two =
      subst (λ (b : List Item). IsPlaced config [] b two) (sym so_far)
      (placed config [] other (others ∷ []) (gathered config lines other others second) count two (slice_get-get_or (did other others) count d there)) in
      let same : one ≡ two = settled config (take count (did journal log)) one two placed_one placed_two
      (by_none_else config lines journal log first count d here) (by_none_else config lines other others second count d there)
      (asked_alike count d here) in
      let more : take (count + 1) (did journal log) ≡ take (count + 1) (did other others) =
      take_more_same (did journal log) (did other others) count d here there so_far same in
      let next : count + 1 ≡ suc count = omega arith in
      subst (λ (n : ℕ). take n (did journal log) ≡ take n (did other others)) next more

  same_done : did journal log ≡ did other others
  same_done = sym (take_all (length (did journal log)) (did journal log) (omega arith))
      ∙ same_taken (length (did journal log)) (omega arith)
      ∙ take_all (length (did journal log)) (did other others) (omega (arith, as_long))

  pub same_journal : journal ≡ other
  same_journal = sym (history_journal journal (log ∷ []) (gathered config lines journal log first).small)
      ∙ ap journal_of same_done ∙ history_journal other (others ∷ []) (gathered config lines other others second).small
