-- For `VmaTable::add`: add and sub keep the rule of a table.
use Rattle.std.proofs.Common.{ℕ, ◌≡◌, ◌<◌, ◌≤◌, ◌+◌, ◌*◌, ◌-◌, ◌/◌, ◌%◌, ◌^◌, ◌∙◌, refl, sym, ap, subst, List, length, map, get_or, set, cond, Option, Some, arith}
use mathlib.Core.Option.{none}
use Rattle.std.specs.List.{sum_by}
use Rattle.std.specs.Option.{unwrap_or}
use Rattle.std.proofs.lemmas.Bool.{cond-true, eq-eqb}
use Rattle.std.proofs.lemmas.List.{length-map}
use Rattle.mm_types.specs.declared.call.Entry.{Entry}
use Rattle.mm_types.specs.declared.config.Config.{Config}
use Rattle.lock_core.specs.declared.stage.Stage.TheVariants.{Out, Holds}
use Rattle.lock_core.specs.Core.{LockCore, Reader, slot_at, count_at, reader_at, gone_reader, slot_held, holds}
use Rattle.lock_core.specs.Facts.{LockFacts}
use Rattle.lock_core.specs.Events.{held_slot}
use Rattle.lock_core.specs.Words.{mark_word}
use Rattle.lock_core.proofs.Elements.{one_weighs}
use Rattle.lock_core.proofs.Holding.{IsFound, holds-some}
use Rattle.lock_core.proofs.Keeping.{add_keeps, sub_keeps}
use Rattle.atomic_table.specs.Table.{State, Me, step, Allows, keeps}
use Rattle.vma_lock.specs.declared.view.SeatKind.TheVariants.{Reads}
use Rattle.vma_lock.specs.declared.view.View.{View}
use Rattle.vma_lock.specs.Views.{slot_count, reader_of, add_at, sub_at}
use Rattle.vma_lock.specs.Words.{table_words, mark_place}
use Rattle.vma_lock.specs.Rule.{LockSeatFits, ShowsLock}
use Rattle.vma_lock.specs.Plays.{add_tells, sub_tells}
use Rattle.vma_lock.proofs.Lines.{word-mark, words-count}
use Rattle.vma_lock.proofs.Standing.{IsSeat, seat_found, readers_after, stands_reading, count_few}

-- an add leaves what is so of the seat
add_fits : (config : Config) (state : State Entry View) (shows : ShowsLock config state) (seat slot found : ℕ) (view : View)
    → IsSeat config state shows seat view → view.kind ≡ Reads
    → LockSeatFits config shows.core.seq shows.core.slots shows.core.journal shows.made seat (add_at view slot found)
add_fits config state shows seat slot found view at reads = record {
  settings = at.fits.settings;
  turn = at.fits.turn;
  before = at.fits.before;
  joined = at.fits.joined;
  writer = λ writes. let e = sym reads ∙ writes in absurd (cc);
  free = λ other. absurd (other reads);
  traced = (refl, refl);
}

-- add
pub add_allows : (config : Config) (slots seat slot : ℕ) (me : Me Entry View) → me.0.kind ≡ Reads → me.0.stage ≡ Out → slot < slot_count config
    → Allows (ShowsLock config) slots seat me (mark_place slot) (λ n. (n + 1) % 2 ^ 64) (add_tells (step slots (mark_place slot) 1 0 none) me)
add_allows config slots seat slot me reads out there state shows homes found fits =
    let core : LockCore = shows.core in
    let at = seat_found config state shows seat me.0 found in
    let lock_seq : ℕ = (slot_at core.slots slot).lock_seq in
    let count : ℕ = count_at core.counts slot in
    let within : slot < length core.slots = omega (arith, there, shows.slots) in
    let same = shows.facts.holders.each_slot in
    let wide = shows.facts.rows.wide in
    let word : get_or state.words (mark_place slot) 0 ≡ lock_seq * 256 + count =
    ap (λ (l : List ℕ). get_or l (mark_place slot) 0) shows.words ∙ word-mark core.seq core.slots core.counts slot same wide within in
    let few : count ≤ 64 = count_few config state shows slot in
    let low : lock_seq ≤ core.seq = shows.facts.sequence.below slot in
    let room : core.seq ≤ 2 ^ 32 + 2 = shows.room in
    let next : (get_or state.words (mark_place slot) 0 + 1) % 2 ^ 64 ≡ lock_seq * 256 + (count + 1) = omega arith in
    let half : get_or state.words (mark_place slot) 0 / 256 ≡ lock_seq = omega arith in
    let new : View = add_at me.0 slot lock_seq in
    let readers : List Reader = set core.readers seat (record (reader_at core.readers seat) { stage = Holds slot lock_seq }) in
    let readers_are : readers ≡ map reader_of (set state.views seat new) =
    ap (λ (r : Reader). set core.readers seat (record r { stage = Holds slot lock_seq })) at.reader ∙ readers_after config state shows seat new in
    let words : set state.words (mark_place slot) ((get_or state.words (mark_place slot) 0 + 1) % 2 ^ 64) ≡ table_words core.seq core.slots (set core.counts slot (count + 1)) =
    ap (λ n. set state.words (mark_place slot) n) next ∙ ap (λ (l : List ℕ). set l (mark_place slot) (mark_word lock_seq (count + 1))) shows.words
    ∙ words-count core.seq core.slots core.counts slot (count + 1) same wide within in (
      new,
      keeps,
      tt,
      stands_reading config state shows seat (mark_place slot) ((get_or state.words (mark_place slot) 0 + 1) % 2 ^ 64) me.1 me.0 new (set core.counts slot (count + 1)) readers at
          (add_keeps config core seat slot shows.facts (ap (λ (r : Reader). r.stage) at.reader ∙ out) within)
          readers_are words (add_fits config state shows seat slot lock_seq me.0 at reads) refl refl,
      λ place is.
          let here : slot ≡ place = omega arith in
          ap (λ n. (add_at me.0 n lock_seq, me.1)) here ∙ ap (λ n. (add_at me.0 place n, me.1)) (sym half),
    )

-- the slot that a reader holds is counted
held_counted : (core : LockCore) (config : Config) (seat : ℕ) (at : ℕ × ℕ) → LockFacts config core → slot_held (reader_at core.readers seat).stage ≡ Some at
    → seat < length core.readers → 0 < count_at core.counts at.0
held_counted core config seat at facts holding within =
    let weight : Reader → ℕ = λ reader. cond (holds at.0 reader) 1 0 in
    let one : weight (reader_at core.readers seat) ≡ 1 =
    cond-true {A = ℕ} (holds at.0 (reader_at core.readers seat)) 1 0 (holds-some at.0 (reader_at core.readers seat) at holding ∙ eq-eqb at.0 at.0 refl) in
    let counted : count_at core.counts at.0 ≡ sum_by weight core.readers = facts.holders.counted at.0 in
    omega (arith, one, counted, one_weighs weight core.readers seat gone_reader within)

-- sub
pub sub_allows : (config : Config) (slots seat : ℕ) (at : ℕ × ℕ) (me : Me Entry View) → me.0.kind ≡ Reads → slot_held me.0.stage ≡ Some at
    → Allows (ShowsLock config) slots seat me (mark_place at.0) (λ n. (n + (2 ^ 64 - 1)) % 2 ^ 64) (sub_tells (step slots (mark_place at.0) 1 0 none) me)
sub_allows config slots seat at me reads holding state shows homes found fits =
    let core : LockCore = shows.core in
    let is = seat_found config state shows seat me.0 found in
    let lock_seq : ℕ = (slot_at core.slots at.0).lock_seq in
    let count : ℕ = count_at core.counts at.0 in
    let some_there : slot_held (reader_at core.readers seat).stage ≡ Some at = ap (λ (r : Reader). slot_held r.stage) is.reader ∙ holding in
    let place : IsFound core.slots (Some at) = subst (IsFound core.slots) some_there (shows.facts.holders.found seat) in
    let within : at.0 < length core.slots = place.0 in
    let inside : seat < length core.readers =
    subst (λ n. seat < n) (sym (ap (λ (l : List Reader). length l) shows.readers ∙ length-map state.views reader_of)) is.within in
    let same = shows.facts.holders.each_slot in
    let wide = shows.facts.rows.wide in
    let word : get_or state.words (mark_place at.0) 0 ≡ lock_seq * 256 + count =
    ap (λ (l : List ℕ). get_or l (mark_place at.0) 0) shows.words ∙ word-mark core.seq core.slots core.counts at.0 same wide within in
    let few : count ≤ 64 = count_few config state shows at.0 in
    let one : 0 < count = held_counted core config seat at shows.facts some_there inside in
    let low : lock_seq ≤ core.seq = shows.facts.sequence.below at.0 in
    let room : core.seq ≤ 2 ^ 32 + 2 = shows.room in
    let next : (get_or state.words (mark_place at.0) 0 + (2 ^ 64 - 1)) % 2 ^ 64 ≡ lock_seq * 256 + (count - 1) = omega arith in
    let new : View = sub_at me.0 in
    let slot_is : held_slot core seat ≡ at.0 = ap (λ (o : Option (ℕ × ℕ)). (unwrap_or o (0, 0)).0) some_there in
    let counts : List ℕ = set core.counts at.0 (count - 1) in
    let readers : List Reader = set core.readers seat (record (reader_at core.readers seat) { stage = Out }) in
    let facts : LockFacts config (record core { counts = counts; readers = readers }) =
    subst (λ slot. LockFacts config (record core { counts = set core.counts slot (count_at core.counts slot - 1); readers = readers })) slot_is
    (sub_keeps config core seat at shows.facts some_there) in
    let readers_are : readers ≡ map reader_of (set state.views seat new) =
    ap (λ (r : Reader). set core.readers seat (record r { stage = Out })) is.reader ∙ readers_after config state shows seat new in
    let words : set state.words (mark_place at.0) ((get_or state.words (mark_place at.0) 0 + (2 ^ 64 - 1)) % 2 ^ 64) ≡ table_words core.seq core.slots counts =
    ap (λ n. set state.words (mark_place at.0) n) next ∙ ap (λ (l : List ℕ). set l (mark_place at.0) (mark_word lock_seq (count - 1))) shows.words
    ∙ words-count core.seq core.slots core.counts at.0 (count - 1) same wide within in (
      new,
      keeps,
      tt,
      stands_reading config state shows seat (mark_place at.0) ((get_or state.words (mark_place at.0) 0 + (2 ^ 64 - 1)) % 2 ^ 64) me.1 me.0 new counts readers is
          facts readers_are words
          (record {
            settings = is.fits.settings;
            turn = is.fits.turn;
            before = is.fits.before;
            joined = is.fits.joined;
            writer = λ writes. let e = sym reads ∙ writes in absurd (cc);
            free = λ other. refl;
            traced = tt;
          }) refl refl,
      refl,
    )
