-- For `VmaTable::add`, `VmaTable::begin`, `VmaTable::end` and others: what the structs of seats keep, after each step.
use Rattle.std.proofs.Common.{ℕ, zero, suc, ◌≡◌, ◌<◌, ◌≤◌, ◌+◌, ◌*◌, ◌-◌, ◌%◌, ◌^◌, ◌∙◌, refl, sym, ap, subst, eqb, List, [], ◌∷◌, ◌++◌, length, map, get_or, set, Option, Some, None, arith, length-append}
use mathlib.Core.Option.{some, none}
use prog.Atomic.{either}
use Rattle.std.specs.Option.{IsSome}
use Rattle.std.proofs.lemmas.List.{length-set, length-map, map-set, get_or-map, get_or-set_same}
use Rattle.std.proofs.Math.Seq.{map-set_same}
use Rattle.mm_types.specs.declared.call.Entry.{Entry}
use Rattle.mm_types.specs.declared.config.Config.{Config}
use Rattle.area_rules.specs.Steps.{step as call_step, after}
use Rattle.lock_core.specs.declared.stage.SlotState.{SlotState}
use Rattle.lock_core.specs.Core.{slot_at, free_slot, slot_held}
use Rattle.lock_core.specs.Facts.{list_after}
use Rattle.lock_core.specs.Rows.{Exactly}
use Rattle.atomic_table.specs.Table.{Me, step, Allows}
use Rattle.vma_lock.specs.declared.view.SeatKind.TheVariants.{Writes}
use Rattle.vma_lock.specs.declared.view.View.{View}
use Rattle.vma_lock.specs.Views.{slot_count, add_at, field_at, mark_at, try_at, lock_with_slot, lock_store_at, write_at, end_at}
use Rattle.vma_lock.specs.Words.{mark_place}
use Rattle.vma_lock.specs.Rule.{ShowsLock}
use Rattle.vma_lock.specs.Plays.{begin_tells, mark_tells, end_tells, sub_tells}
use Rattle.vma_lock.specs.Kept.{LockReaderKept, ReaderCounts, LockWriterKept, free_mark}
use Rattle.vma_lock.specs.Seats.{MayEnter}
use Rattle.vma_lock.proofs.Adding.{sub_allows}
use Rattle.vma_lock.proofs.Marking.{begin_allows, mark_allows, end_allows}

-- a reader's seat after an add
pub add_kept : (caller old slot words more found : ℕ) (me new : Me Entry View) → LockReaderKept caller old words me → more ≡ words
    → (slot + 2) * 8 ≤ words → new ≡ (add_at me.0 slot found, me.1) → LockReaderKept caller slot more new
add_kept caller old slot words more found me new kept same within is =
    subst (LockReaderKept caller slot more) (sym is) (record {
      kind = kept.kind;
      empty = kept.empty;
      caller_is = kept.caller_is;
      slot_is = λ at holding. let e : Some (slot, found) ≡ Some at = holding in cc;
      within = omega arith;
    })

-- a reader's seat after a word was read
pub field_kept : (caller slot words more word : ℕ) (me new : Me Entry View) → LockReaderKept caller slot words me → more ≡ words
    → new ≡ (field_at me.0 word, me.1) → LockReaderKept caller slot more new
field_kept caller slot words more word me new kept same is =
    subst (LockReaderKept caller slot more) (sym is) (record {
      kind = kept.kind;
      empty = kept.empty;
      caller_is = kept.caller_is;
      slot_is = kept.slot_is;
      within = omega (arith, kept.within);
    })

-- what a reader's seat counts, after an add
pub add_counts : (looks version slot found : ℕ) (me new : Me Entry View) → ReaderCounts looks version me → new ≡ (add_at me.0 slot found, me.1)
    → ReaderCounts looks version new
add_counts looks version slot found me new counts is =
    subst (ReaderCounts looks version) (sym is) (record { looks_are = counts.looks_are; version_is = counts.version_is })

-- what it counts, after a word was read
pub field_counts : (looks version word : ℕ) (me new : Me Entry View) → ReaderCounts looks version me → new ≡ (field_at me.0 word, me.1)
    → ReaderCounts looks version new
field_counts looks version word me new counts is =
    subst (ReaderCounts looks version) (sym is) (record { looks_are = counts.looks_are; version_is = counts.version_is })

-- a held slot is the one that the seat knows
pub held_slot_is : (caller slot words : ℕ) (me : Me Entry View) → LockReaderKept caller slot words me → IsSome (slot_held me.0.stage)
    → (found : ℕ) × (slot_held me.0.stage ≡ Some (slot, found))
held_slot_is caller slot words me kept some_held = at (slot_held me.0.stage) refl some_held
  where
    at : (place : Option (ℕ × ℕ)) → slot_held me.0.stage ≡ place → IsSome place → (found : ℕ) × (slot_held me.0.stage ≡ Some (slot, found))
    at None is there = absurd (cc)
    at (Some place) is there = let same = kept.slot_is place is in (place.1, is ∙ ap (λ n. Some (n, place.1)) same)

-- sub, at the slot that the seat knows
pub sub_owes : (config : Config) (slots seat caller slot words : ℕ) (me : Me Entry View) → LockReaderKept caller slot words me → IsSome (slot_held me.0.stage)
    → Allows (ShowsLock config) slots seat me (mark_place slot) (λ n. (n + (2 ^ 64 - 1)) % 2 ^ 64) (sub_tells (step slots (mark_place slot) 1 0 none) me)
sub_owes config slots seat caller slot words me kept some_held =
    let at = held_slot_is caller slot words me kept some_held in
    sub_allows config slots seat (slot, at.0) me kept.kind at.1

-- begin, at the sequence that the seat knows
pub begin_owes : (config : Config) (slots seat seq : ℕ) (me : Me Entry View) → me.0.kind ≡ Writes → me.0.writer_state.seq ≡ seq → me.0.writer_state.seq % 2 ≡ 0 → seq ≤ 2 ^ 32
    → Allows (ShowsLock config) slots seat me 0 (λ n. seq + 1) (λ n. begin_tells (step slots 0 (seq + 1) 0 none) me (seq + 1))
begin_owes config slots seat seq me writes is even room =
    subst (λ m. Allows (ShowsLock config) slots seat me 0 (λ n. m + 1) (λ n. begin_tells (step slots 0 (m + 1) 0 none) me (m + 1))) is
    (begin_allows config slots seat me writes even (omega arith))

-- mark, at the mark word and the sequence that the seat knows
pub mark_owes : (config : Config) (slots seat slot first seq : ℕ) (me : Me Entry View) → me.0.kind ≡ Writes → me.0.writer_state.seq ≡ seq → me.0.writer_state.seq % 2 ≡ 1
    → slot < slot_count config → first ≡ free_mark (slot_at me.0.writer_state.slots slot)
    → Allows (ShowsLock config) slots seat me (mark_place slot) (λ n. either (eqb n first) (seq * 256) n) (mark_tells (step slots (mark_place slot) first (seq * 256) none) me)
mark_owes config slots seat slot first seq me writes is is_open there first_is =
    subst (λ f. Allows (ShowsLock config) slots seat me (mark_place slot) (λ n. either (eqb n f) (seq * 256) n) (mark_tells (step slots (mark_place slot) f (seq * 256) none) me)) (sym first_is)
    (subst (λ m. Allows (ShowsLock config) slots seat me (mark_place slot) (λ n. either (eqb n (free_mark (slot_at me.0.writer_state.slots slot))) (m * 256) n)
    (mark_tells (step slots (mark_place slot) (free_mark (slot_at me.0.writer_state.slots slot)) (m * 256) none) me)) is
    (mark_allows config slots seat slot me writes is_open there))

-- end, at the sequence that the seat knows
pub end_owes : (config : Config) (slots seat seq : ℕ) (me : Me Entry View) (entry : Entry) → me.0.kind ≡ Writes → me.0.writer_state.seq ≡ seq → me.0.writer_state.seq % 2 ≡ 1
    → entry.reply ≡ (call_step me.0.config (after me.0.config me.0.seen) entry.call).reply
    → Exactly me.0.writer_state.slots (list_after me.0.config (me.0.seen ++ entry ∷ [])) → MayEnter entry me.0.turn
    → Allows (ShowsLock config) slots seat me 0 (λ n. either (eqb n seq) (seq + 1) n) (end_tells (step slots 0 seq (seq + 1) (some entry)) me)
end_owes config slots seat seq me entry writes is is_open replied exact may =
    subst (λ m. Allows (ShowsLock config) slots seat me 0 (λ n. either (eqb n m) (m + 1) n) (end_tells (step slots 0 m (m + 1) (some entry)) me)) is
    (end_allows config slots seat me entry writes is_open replied exact may)

-- the mark word that the writer's seat knows
pub mark_known : (config : Config) (seq : ℕ) (marks : List ℕ) (turn : Option ℕ) (words slot free : ℕ) (me : Me Entry View)
    → LockWriterKept config seq marks turn words me → slot < length marks → free ≡ get_or marks slot free
    → free ≡ free_mark (slot_at me.0.writer_state.slots slot)
mark_known config seq marks turn words slot free me kept within is =
    is ∙ ap (λ (l : List ℕ). get_or l slot free) kept.marks_are
    ∙ get_or-map free_mark me.0.writer_state.slots slot free_slot free
    (omega (arith, within, ap (λ (l : List ℕ). length l) kept.marks_are, length-map me.0.writer_state.slots free_mark))

-- the writer's seat after it marked a slot
pub mark_kept : (config : Config) (seq : ℕ) (marks : List ℕ) (turn : Option ℕ) (words more slot found : ℕ) (me new : Me Entry View)
    → LockWriterKept config seq marks turn words me → more ≡ words → new ≡ (mark_at me.0 slot found, me.1)
    → LockWriterKept config seq (set marks slot (seq * 256)) turn more new
mark_kept config seq marks turn words more slot found me new kept same is =
    subst (LockWriterKept config seq (set marks slot (seq * 256)) turn more) (sym is) (record {
      kind = kept.kind;
      settings = kept.settings;
      empty = kept.empty;
      seq_is = kept.seq_is;
      marks_are = ap (λ (l : List ℕ). set l slot (seq * 256)) kept.marks_are
          ∙ ap (λ n. set (map free_mark me.0.writer_state.slots) slot (n * 256)) (sym kept.seq_is)
          ∙ sym (map-set free_mark me.0.writer_state.slots slot (record (slot_at me.0.writer_state.slots slot) { lock_seq = me.0.writer_state.seq }));
      turn_is = kept.turn_is;
      sized = omega (arith, same, kept.sized, length-set marks slot (seq * 256));
      counted = kept.counted;
      room = kept.room;
    })

-- the writer's seat after it found readers
pub try_kept : (config : Config) (seq : ℕ) (marks : List ℕ) (turn : Option ℕ) (words more slot found : ℕ) (me new : Me Entry View)
    → LockWriterKept config seq marks turn words me → more ≡ words → new ≡ (try_at me.0 slot found, me.1)
    → LockWriterKept config seq marks turn more new
try_kept config seq marks turn words more slot found me new kept same is =
    subst (LockWriterKept config seq marks turn more) (sym is) (record {
      kind = kept.kind;
      settings = kept.settings;
      empty = kept.empty;
      seq_is = kept.seq_is;
      marks_are = kept.marks_are;
      turn_is = kept.turn_is;
      sized = same ∙ kept.sized;
      counted = kept.counted;
      room = kept.room;
    })

-- the writer's seat after a store
pub store_kept : (config : Config) (seq : ℕ) (marks : List ℕ) (turn : Option ℕ) (words more slot field word : ℕ) (me new : Me Entry View)
    → LockWriterKept config seq marks turn words me → more ≡ words → new ≡ (lock_store_at me.0 slot field word, me.1)
    → LockWriterKept config seq marks turn more new
store_kept config seq marks turn words more slot field word me new kept same is =
    subst (LockWriterKept config seq marks turn more) (sym is) (record {
      kind = kept.kind;
      settings = kept.settings;
      empty = kept.empty;
      seq_is = kept.seq_is;
      marks_are = kept.marks_are
          ∙ sym (map-set_same free_mark me.0.writer_state.slots slot (record (slot_at me.0.writer_state.slots slot) { row = set (slot_at me.0.writer_state.slots slot).row field word }) free_slot refl);
      turn_is = kept.turn_is;
      sized = same ∙ kept.sized;
      counted = kept.counted;
      room = kept.room;
    })

-- the writer's seat after an end
pub end_kept : (config : Config) (seq : ℕ) (marks : List ℕ) (turn : Option ℕ) (words more : ℕ) (entry : Entry) (me new : Me Entry View)
    → LockWriterKept config seq marks turn words me → more ≡ words → me.0.writer_state.seq % 2 ≡ 1 → new ≡ (end_at me.0 entry, me.1)
    → LockWriterKept config (seq + 1) marks turn more new
end_kept config seq marks turn words more entry me new kept same is_open is =
    subst (LockWriterKept config (seq + 1) marks turn more) (sym is) (record {
      kind = kept.kind;
      settings = kept.settings;
      empty = kept.empty;
      seq_is = ap (λ n. n + 1) kept.seq_is;
      marks_are = kept.marks_are;
      turn_is = kept.turn_is;
      sized = same ∙ kept.sized;
      counted = omega (arith, kept.counted, kept.seq_is, is_open, length-append me.0.seen (entry ∷ []));
      room = omega (arith, kept.room, kept.seq_is, is_open);
    })

set_twice : {A : Type 0} (xs : List A) (i : ℕ) (x y : A) → set (set xs i x) i y ≡ set xs i y
set_twice [] i x y = refl
set_twice (z ∷ zs) zero x y = refl
set_twice (z ∷ zs) (suc i) x y = ap (λ l. z ∷ l) (set_twice zs i x y)

-- a store into a slot that was changed before
store_more : (view : View) (slot field word : ℕ) (changed : SlotState) → slot < length view.writer_state.slots
    → lock_store_at (lock_with_slot view slot changed) slot field word ≡ lock_with_slot view slot (record changed { row = set changed.row field word })
store_more view slot field word changed within =
    ap (λ (s : SlotState). lock_with_slot (lock_with_slot view slot changed) slot (record s { row = set s.row field word })) (get_or-set_same view.writer_state.slots slot changed free_slot within)
    ∙ ap (λ (l : List SlotState). record view { writer_state = record view.writer_state { slots = l } }) (set_twice view.writer_state.slots slot changed (record changed { row = set changed.row field word }))

row_written : (row : List ℕ) (first second third fourth : ℕ) → length row ≡ 4 → set (set (set (set row 0 first) 1 second) 2 third) 3 fourth ≡ first ∷ second ∷ third ∷ fourth ∷ []
row_written (a ∷ b ∷ c ∷ d ∷ []) first second third fourth wide = refl
row_written [] first second third fourth wide = absurd (omega arith)
row_written (a ∷ []) first second third fourth wide = absurd (omega arith)
row_written (a ∷ b ∷ []) first second third fourth wide = absurd (omega arith)
row_written (a ∷ b ∷ c ∷ []) first second third fourth wide = absurd (omega arith)
row_written (a ∷ b ∷ c ∷ d ∷ e ∷ rest) first second third fourth wide = absurd (omega arith)

-- four stores write a row
pub stores_row : (view : View) (slot first second third fourth : ℕ) → slot < length view.writer_state.slots → length (slot_at view.writer_state.slots slot).row ≡ 4
    → lock_store_at (lock_store_at (lock_store_at (lock_store_at view slot 0 first) slot 1 second) slot 2 third) slot 3 fourth
    ≡ write_at view slot (first ∷ second ∷ third ∷ fourth ∷ [])
stores_row view slot first second third fourth within wide =
    let old : SlotState = slot_at view.writer_state.slots slot in
    let one : SlotState = record old { row = set old.row 0 first } in
    let two : SlotState = record old { row = set one.row 1 second } in
    let three : SlotState = record old { row = set two.row 2 third } in
    ap (λ (v : View). lock_store_at (lock_store_at v slot 2 third) slot 3 fourth) (store_more view slot 1 second one within)
    ∙ ap (λ (v : View). lock_store_at v slot 3 fourth) (store_more view slot 2 third two within)
    ∙ store_more view slot 3 fourth three within
    ∙ ap (λ (l : List ℕ). lock_with_slot view slot (record old { row = l })) (row_written old.row first second third fourth wide)

-- how many slots the writer knows
pub slots_known : (config : Config) (seq : ℕ) (marks : List ℕ) (turn : Option ℕ) (words : ℕ) (me : Me Entry View)
    → LockWriterKept config seq marks turn words me → length marks ≡ length me.0.writer_state.slots
slots_known config seq marks turn words me kept = ap (λ (l : List ℕ). length l) kept.marks_are ∙ length-map me.0.writer_state.slots free_mark

-- the four words of a row
pub four_words : (row : List ℕ) → length row ≡ 4 → get_or row 0 0 ∷ get_or row 1 0 ∷ get_or row 2 0 ∷ get_or row 3 0 ∷ [] ≡ row
four_words (a ∷ b ∷ c ∷ d ∷ []) wide = refl
four_words [] wide = absurd (omega arith)
four_words (a ∷ []) wide = absurd (omega arith)
four_words (a ∷ b ∷ []) wide = absurd (omega arith)
four_words (a ∷ b ∷ c ∷ []) wide = absurd (omega arith)
four_words (a ∷ b ∷ c ∷ d ∷ e ∷ rest) wide = absurd (omega arith)

-- what the writer knows after four stores, one after another, of the words of a row
pub row_stored : (before one two three four : View) (slot : ℕ) (row : List ℕ)
    → one ≡ lock_store_at before slot 0 (get_or row 0 0) → two ≡ lock_store_at one slot 1 (get_or row 1 0)
    → three ≡ lock_store_at two slot 2 (get_or row 2 0) → four ≡ lock_store_at three slot 3 (get_or row 3 0)
    → slot < length before.writer_state.slots → length (slot_at before.writer_state.slots slot).row ≡ 4 → length row ≡ 4 → four ≡ write_at before slot row
row_stored before one two three four slot row first second third fourth within wide same =
    fourth
    ∙ ap (λ (v : View). lock_store_at v slot 3 (get_or row 3 0)) third
    ∙ ap (λ (v : View). lock_store_at (lock_store_at v slot 2 (get_or row 2 0)) slot 3 (get_or row 3 0)) second
    ∙ ap (λ (v : View). lock_store_at (lock_store_at (lock_store_at v slot 1 (get_or row 1 0)) slot 2 (get_or row 2 0)) slot 3 (get_or row 3 0)) first
    ∙ stores_row before slot (get_or row 0 0) (get_or row 1 0) (get_or row 2 0) (get_or row 3 0) within wide
    ∙ ap (write_at before slot) (four_words row same)
