-- For `VmaTable::field` and `VmaTable::look`: look and field keep the rule of a table, and what they tell.
use Rattle.std.proofs.Common.{ℕ, ◌≡◌, ◌≢◌, ◌<◌, ◌/◌, ◌∙◌, refl, sym, ap, subst, nat_eq, true, cond, List, length, map, get_or, set, Option, Some, arith}
use mathlib.Core.Option.{none}
use Rattle.std.proofs.lemmas.Bool.{cond-true, cond-false, cond_both, eqb-false}
use Rattle.std.proofs.lemmas.List.{set-get_or}
use Rattle.mm_types.specs.declared.call.Entry.{Entry}
use Rattle.mm_types.specs.declared.config.Config.{Config}
use Rattle.area_rules.specs.Steps.{IsLegalJournal}
use Rattle.lock_core.specs.declared.stage.Stage.{Stage}
use Rattle.lock_core.specs.declared.stage.Stage.TheVariants.{Out, Holds, Valid, Gone}
use Rattle.lock_core.specs.Core.{LockCore, Reader, slot_at, reader_at, slot_held, StartsWith}
use Rattle.lock_core.specs.Facts.{LockFacts, list_after, StaysValid}
use Rattle.lock_core.specs.Rows.{IsRowOf}
use Rattle.lock_core.specs.Events.{stage_after_look}
use Rattle.lock_core.proofs.Holding.{IsFound, starts_all}
use Rattle.lock_core.proofs.Keeping.{look_keeps}
use Rattle.lock_core.proofs.Weighing.{row_is_right}
use Rattle.atomic_table.specs.Table.{State, Me, step, Allows, keeps}
use Rattle.vma_lock.specs.declared.view.SeatKind.TheVariants.{Reads}
use Rattle.vma_lock.specs.declared.view.SeenAt.{SeenAt}
use Rattle.vma_lock.specs.declared.view.View.{View}
use Rattle.vma_lock.specs.Views.{slot_count, reader_of, or_first, or_valid, holds_slot, look_at, field_at}
use Rattle.vma_lock.specs.Words.{table_words, field_place}
use Rattle.vma_lock.specs.Rule.{IsTraced, LockSeatFits, ShowsLock}
use Rattle.vma_lock.specs.Plays.{IsSettled, LooksAt, ReadsRow, look_tells, field_tells}
use Rattle.vma_lock.proofs.Lines.{AreWide, word-sequence, word-field}
use Rattle.vma_lock.proofs.Standing.{IsSeat, seat_found, readers_after, readers_same, stands_reading}

-- a load leaves the words
pub words_loaded : (config : Config) (state : State Entry View) (shows : ShowsLock config state) (word : ℕ)
    → set state.words word (get_or state.words word 0) ≡ table_words shows.core.seq shows.core.slots shows.core.counts
words_loaded config state shows word = set-get_or state.words word 0 ∙ shows.words

-- what so far was so of the seat's slot is so after a look, and the first validating look saw the list of which the row is
traced_after : (config : Config) (core : LockCore) (added : Option (ℕ × ℕ)) (valid : Option SeenAt) (stage : Stage) → LockFacts config core
    → IsFound core.slots (slot_held stage) → IsTraced config added valid stage
    → IsTraced config added (or_valid added valid (record { seq = core.seq; seen = core.journal; held = holds_slot stage })) (stage_after_look core.seq core.slots stage)
traced_after config core added valid Out facts found traced = tt
traced_after config core added valid Gone facts found traced = tt
traced_after config core added valid (Holds slot at) facts found traced =
    let now : SeenAt = record { seq = core.seq; seen = core.journal; held = true } in
    let row : List ℕ = (slot_at core.slots slot).row in
    cond_both (nat_eq at core.seq) (Holds slot at) (Valid slot at row) (IsTraced config added (or_valid added valid now))
    (λ same. (traced.0, ap (λ a. or_valid a valid now) traced.0 ∙ cond-true (nat_eq at core.seq) valid (or_first valid now) same ∙ traced.1))
    (λ apart. (
      traced.0,
      (
        now,
        ap (λ a. or_valid a valid now) traced.0 ∙ cond-false (nat_eq at core.seq) valid (or_first valid now) apart ∙ ap (λ v. or_first v now) traced.1,
        (λ e. eqb-false at core.seq apart (sym e)),
        row_is_right core.seq core.slots (list_after config core.journal) slot facts.rows.within (λ e. eqb-false at core.seq apart (sym found.1 ∙ e)),
      ),
    ))
traced_after config core added valid (Valid slot at row) facts found traced =
    let now : SeenAt = record { seq = core.seq; seen = core.journal; held = true } in
    let before : SeenAt = traced.1.0 in (
      traced.0,
      (
        before,
        ap (λ a. or_valid a valid now) traced.0 ∙ ap (λ v. cond (nat_eq at core.seq) v (or_first v now)) traced.1.1
            ∙ cond_both (nat_eq at core.seq) (Some before) (Some before) (λ v. v ≡ Some before) (λ h. refl) (λ h. refl),
        traced.1.2,
        traced.1.3,
      ),
    )

-- a validated reader's row is right for the list now, and its slot is marked no more
stays_right : (config : Config) (core : LockCore) (slot found : ℕ) (row : List ℕ) → LockFacts config core
    → IsFound core.slots (Some (slot, found)) → StaysValid core.seq core.slots (Valid slot found row)
    → (found ≢ core.seq) × (length row ≡ 4) × IsRowOf (list_after config core.journal) row
stays_right config core slot found row facts is valid = (
  λ e. valid.0 (is.1 ∙ e),
  sym (ap (λ (l : List ℕ). length l) valid.1) ∙ facts.rows.wide slot,
  subst (IsRowOf (list_after config core.journal)) valid.1
      (row_is_right core.seq core.slots (list_after config core.journal) slot facts.rows.within valid.0),
)

-- a look leaves a validated reader so, and a reader whose slot is not marked is validated
now_valid : (core : LockCore) (stage : Stage) → IsFound core.slots (slot_held stage) → StaysValid core.seq core.slots stage
    → IsFound core.slots (slot_held (stage_after_look core.seq core.slots stage)) × StaysValid core.seq core.slots (stage_after_look core.seq core.slots stage)
now_valid core Out found valid = (found, tt)
now_valid core Gone found valid = (found, tt)
now_valid core (Valid slot at row) found valid = (found, valid)
now_valid core (Holds slot at) found valid =
    let row : List ℕ = (slot_at core.slots slot).row in
    cond_both (nat_eq at core.seq) (Holds slot at) (Valid slot at row) (λ s. IsFound core.slots (slot_held s) × StaysValid core.seq core.slots s)
    (λ same. (found, tt))
    (λ apart. (found, ((λ e. eqb-false at core.seq apart (sym found.1 ∙ e)), refl)))

-- what a look tells of the seat's slot
looks_at : (config : Config) (core : LockCore) (stage : Stage) → LockFacts config core → IsFound core.slots (slot_held stage) → StaysValid core.seq core.slots stage
    → LooksAt config core.journal core.seq stage (stage_after_look core.seq core.slots stage)
looks_at config core stage facts found valid =
    let now = now_valid core stage found valid in
    record {
      slots = core.slots;
      tests = refl;
      right = λ slot at row is. stays_right config core slot at row facts (subst (λ s. IsFound core.slots (slot_held s)) is now.0)
          (subst (StaysValid core.seq core.slots) is now.1);
    }

-- what a seat learns of the last join into it
pub settled_seat : (config : Config) (state : State Entry View) (shows : ShowsLock config state) (seat : ℕ) (view : View)
    → IsSeat config state shows seat view → IsSettled view
settled_seat config state shows seat view at = record {
  before = at.fits.before;
  joined = at.fits.joined;
  own = λ caller turn. (at.fits.turn caller turn).from_own;
}

-- a look leaves what is so of the seat
look_fits : (config : Config) (state : State Entry View) (shows : ShowsLock config state) (seat found : ℕ) (view : View)
    → IsSeat config state shows seat view → view.kind ≡ Reads → found ≡ shows.core.seq
    → IsFound shows.core.slots (slot_held view.stage)
    → LockSeatFits config shows.core.seq shows.core.slots shows.core.journal shows.made seat
    (look_at view found shows.core.journal (stage_after_look shows.core.seq shows.core.slots view.stage))
look_fits config state shows seat found view at reads is there =
    let core : LockCore = shows.core in
    record {
      settings = at.fits.settings;
      turn = λ caller turn. record { early = (at.fits.turn caller turn).early; all = refl; from_own = refl };
      before = starts_all core.journal;
      joined = starts_all core.journal;
      writer = λ writes. let e = sym reads ∙ writes in absurd (cc);
      free = λ other. absurd (other reads);
      traced = subst (λ n. IsTraced config view.trace.added (or_valid view.trace.added view.trace.valid (record { seq = n; seen = core.journal; held = holds_slot view.stage })) (stage_after_look core.seq core.slots view.stage))
          (sym is) (traced_after config core view.trace.added view.trace.valid view.stage shows.facts there at.fits.traced);
    }

-- look
pub look_allows : (config : Config) (slots seat : ℕ) (me : Me Entry View) → me.0.kind ≡ Reads
    → Allows (ShowsLock config) slots seat me 0 (λ n. n) (look_tells (step slots 0 0 0 none) me)
look_allows config slots seat me reads state shows homes found fits =
    let core : LockCore = shows.core in
    let at = seat_found config state shows seat me.0 found in
    let n : ℕ = get_or state.words 0 0 in
    let is : n ≡ core.seq = ap (λ (l : List ℕ). get_or l 0 0) shows.words ∙ word-sequence core.seq core.slots core.counts in
    let same_config : me.0.config ≡ config = at.fits.settings (λ spent. let e = sym reads ∙ spent in cc) in
    let there : IsFound core.slots (slot_held me.0.stage) = subst (λ (r : Reader). IsFound core.slots (slot_held r.stage)) at.reader (shows.facts.holders.found seat) in
    let valid : StaysValid core.seq core.slots me.0.stage = subst (λ (r : Reader). StaysValid core.seq core.slots r.stage) at.reader (shows.facts.validation seat) in
    let stage : Stage = stage_after_look core.seq core.slots me.0.stage in
    let new : View = look_at me.0 n core.journal stage in
    let readers : List Reader = set core.readers seat (record { stage = stage_after_look core.seq core.slots (reader_at core.readers seat).stage; seen = core.journal }) in
    let readers_are : readers ≡ map reader_of (set state.views seat new) =
    ap (λ (r : Reader). set core.readers seat (record { stage = stage_after_look core.seq core.slots r.stage; seen = core.journal })) at.reader
    ∙ readers_after config state shows seat new in (
      new,
      keeps,
      tt,
      stands_reading config state shows seat 0 n me.1 me.0 new core.counts readers at (look_keeps config core seat shows.facts) readers_are
          (words_loaded config state shows 0) (look_fits config state shows seat n me.0 at reads is there) refl refl,
      (
        core.journal,
        stage,
        refl,
        record {
          legal = subst (λ c. IsLegalJournal c core.journal) (sym same_config) shows.facts.rows.legal;
          later = subst (λ (r : Reader). StartsWith core.journal r.seen) at.reader (shows.facts.seen seat);
          counted = ap (λ m. m / 2) is ∙ shows.facts.sequence.counts;
          few = let counts = shows.facts.sequence.counts in let room = shows.room in omega arith;
          own = λ caller turn. (at.fits.turn caller turn).all;
        },
        settled_seat config state shows seat me.0 at,
        subst (λ c. LooksAt c core.journal n me.0.stage stage) (sym same_config)
            (subst (λ m. LooksAt config core.journal m me.0.stage stage) (sym is) (looks_at config core me.0.stage shows.facts there valid)),
      ),
    )

-- a validated seat reads its row
reads_row : (core : LockCore) (stage : Stage) (slot field n : ℕ) → StaysValid core.seq core.slots stage → AreWide core.slots
    → n ≡ get_or (slot_at core.slots slot).row field 0 → ReadsRow stage slot field n
reads_row core Out slot field n valid wide is = tt
reads_row core (Holds place found) slot field n valid wide is = tt
reads_row core Gone slot field n valid wide is = tt
reads_row core (Valid place found row) slot field n valid wide is = λ here.
    let same : (slot_at core.slots slot).row ≡ row = ap (λ k. (slot_at core.slots k).row) (sym here) ∙ valid.1 in (
      sym (ap (λ (l : List ℕ). length l) same) ∙ wide slot,
      is ∙ ap (λ (l : List ℕ). get_or l field 0) same,
    )

-- field
pub field_allows : (config : Config) (slots seat slot field : ℕ) (me : Me Entry View) → me.0.kind ≡ Reads → slot < slot_count config → field < 4
    → Allows (ShowsLock config) slots seat me (field_place slot field) (λ n. n) (field_tells (step slots (field_place slot field) 0 0 none) me)
field_allows config slots seat slot field me reads there inside state shows homes found fits =
    let core : LockCore = shows.core in
    let at = seat_found config state shows seat me.0 found in
    let within : slot < length core.slots = omega (arith, there, shows.slots) in
    let n : ℕ = get_or state.words (field_place slot field) 0 in
    let is : n ≡ get_or (slot_at core.slots slot).row field 0 =
    ap (λ (l : List ℕ). get_or l (field_place slot field) 0) shows.words
    ∙ word-field core.seq core.slots core.counts slot field shows.facts.holders.each_slot shows.facts.rows.wide within inside in
    let same_config : me.0.config ≡ config = at.fits.settings (λ spent. let e = sym reads ∙ spent in cc) in
    let valid : StaysValid core.seq core.slots me.0.stage = subst (λ (r : Reader). StaysValid core.seq core.slots r.stage) at.reader (shows.facts.validation seat) in
    let new : View = field_at me.0 n in (
      new,
      keeps,
      tt,
      stands_reading config state shows seat (field_place slot field) n me.1 me.0 new core.counts core.readers at shows.facts
          (readers_same config state shows seat me.0 new at refl) (words_loaded config state shows (field_place slot field))
          (record {
            settings = at.fits.settings;
            turn = at.fits.turn;
            before = at.fits.before;
            joined = at.fits.joined;
            writer = λ writes. let e = sym reads ∙ writes in absurd (cc);
            free = at.fits.free;
            traced = at.fits.traced;
          }) refl refl,
      λ slot' field' few place.
          let slots_same : slot ≡ slot' = omega arith in
          let fields_same : field ≡ field' = omega arith in (
            refl,
            reads_row core me.0.stage slot' field' n valid shows.facts.rows.wide
                (is ∙ ap (λ k. get_or (slot_at core.slots k).row field 0) slots_same ∙ ap (λ k. get_or (slot_at core.slots slot').row k 0) fields_same),
            subst (λ c. IsTraced c me.0.trace.added me.0.trace.valid me.0.stage) (sym same_config) at.fits.traced,
          ),
    )
