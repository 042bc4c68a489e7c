-- For `VmaTable::store`: begin, mark, store and end keep the rule of a table.
use Rattle.std.proofs.Common.{ℕ, ◌≡◌, ◌≢◌, ◌<◌, ◌≤◌, ◌+◌, ◌*◌, ◌%◌, ◌^◌, ◌∙◌, inl, inr, refl, sym, ap, subst, eqb, nat_eq, List, [], ◌∷◌, ◌++◌, length, map, get_or, set, Some, None, arith}
use mathlib.Core.Option.{some, none, some-injective}
use prog.Atomic.{either}
use Rattle.std.proofs.lemmas.Bool.{cond-true, eq-eqb, cases_lt}
use Rattle.std.proofs.lemmas.List.{length-set, get_or_past}
use Rattle.mm_types.specs.declared.call.Entry.{Entry}
use Rattle.mm_types.specs.declared.config.Config.{Config}
use Rattle.area_rules.specs.Steps.{step as call_step, after, IsLegalJournal}
use Rattle.area_rules.proofs.Journals.{legal-push}
use Rattle.lock_core.specs.declared.stage.SlotState.{SlotState}
use Rattle.lock_core.specs.Core.{LockCore, Reader, slot_at, count_at, reader_at}
use Rattle.lock_core.specs.Facts.{LockFacts, list_after}
use Rattle.lock_core.specs.Rows.{Exactly}
use Rattle.lock_core.specs.Events.{stage_after_look as stage_after, after_begin, after_mark, after_store, after_end, after_look}
use Rattle.lock_core.specs.Words.{mark_word}
use Rattle.lock_core.proofs.Holding.{starts_all}
use Rattle.lock_core.proofs.Keeping.{begin_keeps, mark_keeps, store_keeps, end_keeps, look_keeps}
use Rattle.atomic_table.specs.Table.{State, Me, step, stepped, Allows, keeps}
use Rattle.atomic_table.proofs.Lists.{exchanged}
use Rattle.vma_lock.specs.declared.view.SeatKind.TheVariants.{Writes}
use Rattle.vma_lock.specs.declared.view.View.{View}
use Rattle.vma_lock.specs.Views.{slot_count, reader_of, lock_view_at, spent_lock_view, begin_at, try_at, mark_at, lock_store_at, end_at}
use Rattle.area_rules.specs.Journals.{calls_by}
use Rattle.vma_lock.specs.Words.{table_words, mark_place, field_place}
use Rattle.vma_lock.specs.Rule.{IsTraced, turn_weight, bears, IsWriter, LockSeatFits, ShowsLock}
use Rattle.vma_lock.specs.Plays.{begin_tells, mark_tells, store_tells, end_tells}
use Rattle.vma_lock.specs.Seats.{MayEnter}
use Rattle.vma_lock.proofs.Places.{two_weigh}
use Rattle.vma_lock.proofs.Journals.{calls_other}
use Rattle.vma_lock.proofs.Lines.{word-sequence, word-mark, words-mark, words-store, words-sequence}
use Rattle.vma_lock.proofs.Standing.{IsSeat, seat_found, readers_after, readers_same, stands, count_few}
use Rattle.vma_lock.proofs.Looking.{words_loaded}

-- what the writer knows is so
pub writer_is : (config : Config) (state : State Entry View) (shows : ShowsLock config state) (seat : ℕ) (view : View)
    → IsSeat config state shows seat view → view.kind ≡ Writes
    → IsWriter shows.core.seq shows.core.slots shows.core.journal shows.made seat view × (view.config ≡ config)
writer_is config state shows seat view at writes = (
  at.fits.writer writes,
  at.fits.settings (λ spent. let e = sym writes ∙ spent in cc),
)

-- no other seat is a writer, so a change of the sequence or of a slot leaves what is so of it
others_fit : (config : Config) (state : State Entry View) (shows : ShowsLock config state) (seat : ℕ) (view : View) (seq : ℕ) (slots : List SlotState)
    → IsSeat config state shows seat view → view.kind ≡ Writes
    → (other : ℕ) → other ≢ seat → LockSeatFits config seq slots shows.core.journal shows.made other (lock_view_at state.views other)
others_fit config state shows seat view seq slots at writes other apart =
    let fits = shows.seats other in
    record {
      settings = fits.settings;
      turn = fits.turn;
      before = fits.before;
      joined = fits.joined;
      writer = λ also. absurd (apart ((fits.writer also).first ∙ sym (at.fits.writer writes).first));
      free = fits.free;
      traced = fits.traced;
    }

-- the writer after a change of the sequence or of a slot that it knows
writer_fits : (config : Config) (state : State Entry View) (shows : ShowsLock config state) (seat : ℕ) (view new : View) (seq : ℕ) (slots : List SlotState)
    → IsSeat config state shows seat view → view.kind ≡ Writes
    → new ≡ record view { writer_state = new.writer_state; trace = new.trace }
    → new.writer_state.seq ≡ seq → new.writer_state.slots ≡ slots → new.writer_state.made ≡ shows.made
    → LockSeatFits config seq slots shows.core.journal shows.made seat new
writer_fits config state shows seat view new seq slots at writes same seq_is slots_are made_is =
    let is = at.fits.writer writes in
    let writer_state = new.writer_state in
    let trace = new.trace in
    let fits : LockSeatFits config seq slots shows.core.journal shows.made seat (record view { writer_state = writer_state; trace = trace }) = record {
      settings = at.fits.settings;
      turn = at.fits.turn;
      before = at.fits.before;
      joined = at.fits.joined;
      writer = λ also. record { first = is.first; stage = is.stage; seen = is.seen; seq_is = seq_is; slots_are = slots_are; made_is = made_is };
      free = at.fits.free;
      traced = subst (λ s. IsTraced config trace.added trace.valid s) (sym is.stage) tt;
    } in
    subst (LockSeatFits config seq slots shows.core.journal shows.made seat) (sym same) fits

-- begin
pub begin_allows : (config : Config) (slots seat : ℕ) (me : Me Entry View) → me.0.kind ≡ Writes → me.0.writer_state.seq % 2 ≡ 0 → me.0.writer_state.seq ≤ 2 ^ 32
    → Allows (ShowsLock config) slots seat me 0 (λ n. me.0.writer_state.seq + 1) (λ n. begin_tells (step slots 0 (me.0.writer_state.seq + 1) 0 none) me (me.0.writer_state.seq + 1))
begin_allows config slots seat me writes even room state shows homes found fits =
    let core : LockCore = shows.core in
    let at = seat_found config state shows seat me.0 found in
    let known = writer_is config state shows seat me.0 at writes in
    let is = known.0 in
    let core_even : core.seq % 2 ≡ 0 = subst (λ n. n % 2 ≡ 0) is.seq_is even in
    let new : View = begin_at me.0 in
    let words : set state.words 0 (me.0.writer_state.seq + 1) ≡ table_words (core.seq + 1) core.slots core.counts =
    ap (λ (l : List ℕ). set l 0 (me.0.writer_state.seq + 1)) shows.words ∙ ap (λ n. set (table_words core.seq core.slots core.counts) 0 (n + 1)) is.seq_is
    ∙ words-sequence core.seq (core.seq + 1) core.slots core.counts in (
      new,
      keeps,
      tt,
      stands config state shows seat 0 (me.0.writer_state.seq + 1) me.1 me.0 new (after_begin core) at (begin_keeps config core shows.facts core_even)
          (readers_same config state shows seat me.0 new at refl) words refl
          (others_fit config state shows seat me.0 (core.seq + 1) core.slots at writes)
          (writer_fits config state shows seat me.0 new (core.seq + 1) core.slots at writes refl (ap (λ n. n + 1) is.seq_is) is.slots_are is.made_is)
          refl refl (omega (arith, room, is.seq_is)),
      (
        refl,
        subst (λ c. IsLegalJournal c me.0.seen) (sym known.1) (subst (IsLegalJournal config) (sym is.seen) shows.facts.rows.legal),
        subst (λ c. Exactly me.0.writer_state.slots (list_after c me.0.seen)) (sym known.1)
            (subst (λ (j : List Entry). Exactly me.0.writer_state.slots (list_after config j)) (sym is.seen)
            (subst (λ (l : List SlotState). Exactly l (list_after config core.journal)) (sym is.slots_are) (shows.facts.rows.exact core_even))),
      ),
    )

-- the slot of a number, as the writer knows it
slot_known : (slots known : List SlotState) (slot : ℕ) → known ≡ slots → slot_at known slot ≡ slot_at slots slot
slot_known slots known slot same = ap (λ (l : List SlotState). slot_at l slot) same

-- what the mark word is, as the writer knows the slot
mark_found : (config : Config) (state : State Entry View) (shows : ShowsLock config state) (seat slot : ℕ) (view : View)
    → IsSeat config state shows seat view → view.kind ≡ Writes → slot < slot_count config
    → get_or state.words (mark_place slot) 0 ≡ (slot_at view.writer_state.slots slot).lock_seq * 256 + count_at shows.core.counts slot
mark_found config state shows seat slot view at writes there =
    let is = at.fits.writer writes in
    let within : slot < length shows.core.slots = omega (arith, there, shows.slots) in
    ap (λ (l : List ℕ). get_or l (mark_place slot) 0) shows.words
    ∙ word-mark shows.core.seq shows.core.slots shows.core.counts slot shows.facts.holders.each_slot shows.facts.rows.wide within
    ∙ ap (λ (s : SlotState). s.lock_seq * 256 + count_at shows.core.counts slot) (sym (slot_known shows.core.slots view.writer_state.slots slot is.slots_are))

-- what a try to mark a slot owes at a word: a view that keeps the rule, and what it tells
abbrev Owes : Config → State Entry View → ℕ → ℕ → ℕ → ℕ → ℕ → Me Entry View → ℕ → Type 0
Owes config state seat slots slot first second me next =
    (w : View) × ShowsLock config (stepped state (mark_place slot) next seat me.1 w keeps)
    × mark_tells (step slots (mark_place slot) first second none) me (get_or state.words (mark_place slot) 0) (w, me.1)

-- no reader holds the slot, and it is marked
mark_owed : (config : Config) (state : State Entry View) (shows : ShowsLock config state) (slots seat slot : ℕ) (me : Me Entry View)
    → IsSeat config state shows seat me.0 → me.0.kind ≡ Writes → me.0.writer_state.seq % 2 ≡ 1 → slot < slot_count config
    → get_or state.words (mark_place slot) 0 ≡ (slot_at me.0.writer_state.slots slot).lock_seq * 256
    → Owes config state seat slots slot ((slot_at me.0.writer_state.slots slot).lock_seq * 256) (me.0.writer_state.seq * 256) me (me.0.writer_state.seq * 256)
mark_owed config state shows slots seat slot me at writes is_open there hit =
    let core : LockCore = shows.core in
    let is = at.fits.writer writes in
    let within : slot < length core.slots = omega (arith, there, shows.slots) in
    let word : ℕ = get_or state.words (mark_place slot) 0 in
    let none_left : count_at core.counts slot ≡ 0 =
    omega (arith, hit, mark_found config state shows seat slot me.0 at writes there) in
    let core_open : core.seq % 2 ≡ 1 = subst (λ n. n % 2 ≡ 1) is.seq_is is_open in
    let new : View = mark_at me.0 slot word in
    let marked : SlotState = record (slot_at core.slots slot) { lock_seq = core.seq } in
    let slots_are : new.writer_state.slots ≡ set core.slots slot marked =
    ap (λ (l : List SlotState). set l slot (record (slot_at l slot) { lock_seq = me.0.writer_state.seq })) is.slots_are
    ∙ ap (λ n. set core.slots slot (record (slot_at core.slots slot) { lock_seq = n })) is.seq_is in
    let value : me.0.writer_state.seq * 256 ≡ mark_word core.seq (count_at core.counts slot) = omega (arith, is.seq_is, none_left) in
    let words : set state.words (mark_place slot) (me.0.writer_state.seq * 256) ≡ table_words core.seq (set core.slots slot marked) core.counts =
    ap (λ n. set state.words (mark_place slot) n) value ∙ ap (λ (l : List ℕ). set l (mark_place slot) (mark_word core.seq (count_at core.counts slot))) shows.words
    ∙ words-mark core.seq core.slots core.counts slot core.seq shows.facts.holders.each_slot shows.facts.rows.wide within in (
      new,
      stands config state shows seat (mark_place slot) (me.0.writer_state.seq * 256) me.1 me.0 new (after_mark core slot) at
          (mark_keeps config core slot shows.facts core_open none_left) (readers_same config state shows seat me.0 new at refl) words
          (length-set core.slots slot marked)
          (others_fit config state shows seat me.0 core.seq (set core.slots slot marked) at writes)
          (writer_fits config state shows seat me.0 new core.seq (set core.slots slot marked) at writes refl is.seq_is slots_are is.made_is)
          refl refl shows.room,
      λ place here.
          let same : slot ≡ place = omega arith in (
            λ e. ap (λ k. (mark_at me.0 k word, me.1)) same,
            λ apart. absurd (apart hit),
          ),
    )

-- readers hold the slot, and nothing changes but what the writer knows of the try
try_owed : (config : Config) (state : State Entry View) (shows : ShowsLock config state) (slots seat slot : ℕ) (me : Me Entry View)
    → IsSeat config state shows seat me.0 → me.0.kind ≡ Writes → slot < slot_count config
    → get_or state.words (mark_place slot) 0 ≢ (slot_at me.0.writer_state.slots slot).lock_seq * 256
    → Owes config state seat slots slot ((slot_at me.0.writer_state.slots slot).lock_seq * 256) (me.0.writer_state.seq * 256) me (get_or state.words (mark_place slot) 0)
try_owed config state shows slots seat slot me at writes there miss =
    let core : LockCore = shows.core in
    let is = at.fits.writer writes in
    let word : ℕ = get_or state.words (mark_place slot) 0 in
    let first : ℕ = (slot_at me.0.writer_state.slots slot).lock_seq * 256 in
    let count : ℕ = count_at core.counts slot in
    let found : word ≡ first + count = mark_found config state shows seat slot me.0 at writes there in
    let few : count ≤ 64 = count_few config state shows slot in
    let new : View = try_at me.0 slot word in (
      new,
      stands config state shows seat (mark_place slot) word me.1 me.0 new core at shows.facts (readers_same config state shows seat me.0 new at refl)
          (words_loaded config state shows (mark_place slot)) refl (λ other apart. shows.seats other)
          (writer_fits config state shows seat me.0 new core.seq core.slots at writes refl is.seq_is is.slots_are is.made_is)
          refl refl shows.room,
      λ place here.
          let same : slot ≡ place = omega arith in (
            λ e. absurd (miss e),
            λ apart. (omega (arith, found, apart), omega (arith, found, few), ap (λ k. (try_at me.0 k word, me.1)) same),
          ),
    )

-- mark
pub mark_allows : (config : Config) (slots seat slot : ℕ) (me : Me Entry View) → me.0.kind ≡ Writes → me.0.writer_state.seq % 2 ≡ 1 → slot < slot_count config
    → Allows (ShowsLock config) slots seat me (mark_place slot)
    (λ n. either (eqb n ((slot_at me.0.writer_state.slots slot).lock_seq * 256)) (me.0.writer_state.seq * 256) n)
    (mark_tells (step slots (mark_place slot) ((slot_at me.0.writer_state.slots slot).lock_seq * 256) (me.0.writer_state.seq * 256) none) me)
mark_allows config slots seat slot me writes is_open there state shows homes found fits =
    let at = seat_found config state shows seat me.0 found in
    let word : ℕ = get_or state.words (mark_place slot) 0 in
    let first : ℕ = (slot_at me.0.writer_state.slots slot).lock_seq * 256 in
    let second : ℕ = me.0.writer_state.seq * 256 in
    let owed : Owes config state seat slots slot first second me (either (eqb word first) second word) =
    exchanged word first second (Owes config state seat slots slot first second me)
    (mark_owed config state shows slots seat slot me at writes is_open there)
    (try_owed config state shows slots seat slot me at writes there) in (owed.0, keeps, tt, owed.1, owed.2)

-- store
pub store_allows : (config : Config) (slots seat slot field word : ℕ) (me : Me Entry View) → me.0.kind ≡ Writes → me.0.writer_state.seq % 2 ≡ 1
    → slot < slot_count config → field < 4 → (slot_at me.0.writer_state.slots slot).lock_seq ≡ me.0.writer_state.seq
    → Allows (ShowsLock config) slots seat me (field_place slot field) (λ n. word) (λ n. store_tells (step slots (field_place slot field) word 0 none) me word)
store_allows config slots seat slot field word me writes is_open there inside marked state shows homes found fits =
    let core : LockCore = shows.core in
    let at = seat_found config state shows seat me.0 found in
    let is = at.fits.writer writes in
    let within : slot < length core.slots = omega (arith, there, shows.slots) in
    let old : SlotState = slot_at core.slots slot in
    let changed : SlotState = record old { row = set old.row field word } in
    let new : View = lock_store_at me.0 slot field word in
    let core_open : core.seq % 2 ≡ 1 = subst (λ n. n % 2 ≡ 1) is.seq_is is_open in
    let core_marked : old.lock_seq ≡ core.seq =
    ap (λ (s : SlotState). s.lock_seq) (sym (slot_known core.slots me.0.writer_state.slots slot is.slots_are)) ∙ marked ∙ is.seq_is in
    let slots_are : new.writer_state.slots ≡ set core.slots slot changed =
    ap (λ (l : List SlotState). set l slot (record (slot_at l slot) { row = set (slot_at l slot).row field word })) is.slots_are in
    let words : set state.words (field_place slot field) word ≡ table_words core.seq (set core.slots slot changed) core.counts =
    ap (λ (l : List ℕ). set l (field_place slot field) word) shows.words
    ∙ words-store core.seq core.slots core.counts slot field word shows.facts.holders.each_slot shows.facts.rows.wide within inside in (
      new,
      keeps,
      tt,
      stands config state shows seat (field_place slot field) word me.1 me.0 new (after_store core slot field word) at
          (store_keeps config core slot field word shows.facts core_open core_marked) (readers_same config state shows seat me.0 new at refl) words
          (length-set core.slots slot changed)
          (others_fit config state shows seat me.0 core.seq (set core.slots slot changed) at writes)
          (writer_fits config state shows seat me.0 new core.seq (set core.slots slot changed) at writes refl is.seq_is slots_are is.made_is)
          refl refl shows.room,
      λ place other few here.
          let same : slot ≡ place = omega arith in
          let fields_same : field ≡ other = omega arith in (
            ap (λ k. (lock_store_at me.0 k field word, me.1)) same ∙ ap (λ k. (lock_store_at me.0 place k word, me.1)) fields_same,
            ap (λ (l : List SlotState). length (slot_at l place).row) is.slots_are ∙ shows.facts.rows.wide place,
          ),
    )

-- the writer with its view after an end
end_fits : (config : Config) (state : State Entry View) (shows : ShowsLock config state) (seat : ℕ) (view : View) (entry : Entry)
    → IsSeat config state shows seat view → view.kind ≡ Writes
    → LockSeatFits config (shows.core.seq + 1) shows.core.slots (shows.core.journal ++ entry ∷ []) shows.made seat (end_at view entry)
end_fits config state shows seat view entry at writes =
    let is = at.fits.writer writes in
    let longer : view.seen ++ entry ∷ [] ≡ shows.core.journal ++ entry ∷ [] = ap (λ (l : List Entry). l ++ entry ∷ []) is.seen in
    record {
      settings = at.fits.settings;
      turn = λ caller turn. record { early = (at.fits.turn caller turn).early; all = ap (calls_by caller) (sym longer); from_own = refl };
      before = starts_all (view.seen ++ entry ∷ []);
      joined = starts_all (view.seen ++ entry ∷ []);
      writer = λ also. record {
        first = is.first;
        stage = is.stage;
        seen = longer;
        seq_is = ap (λ n. n + 1) is.seq_is;
        slots_are = is.slots_are;
        made_is = is.made_is;
      };
      free = at.fits.free;
      traced = subst (IsTraced config view.trace.added view.trace.valid) (sym is.stage) tt;
    }

-- the entry is of no caller whose turn another seat has
of_no_other : (config : Config) (state : State Entry View) (shows : ShowsLock config state) (seat : ℕ) (view : View) (entry : Entry)
    → IsSeat config state shows seat view → MayEnter entry view.turn
    → (other caller : ℕ) → other ≢ seat → (lock_view_at state.views other).turn ≡ Some caller → entry.caller ≢ caller
of_no_other config state shows seat view entry at (inr above) other caller apart turn same =
    let early : caller < shows.made = ((shows.seats other).turn caller turn).early in
    let most : shows.made ≤ 64 = shows.most in
    omega arith
of_no_other config state shows seat view entry at (inl mine) other caller apart turn same =
    let one : bears caller (lock_view_at state.views seat) ≡ 1 =
    ap (bears caller) at.is ∙ ap (turn_weight caller) mine ∙ cond-true {A = ℕ} (nat_eq entry.caller caller) 1 0 (eq-eqb entry.caller caller same) in
    let two : bears caller (lock_view_at state.views other) ≡ 1 =
    ap (turn_weight caller) turn ∙ cond-true {A = ℕ} (nat_eq caller caller) 1 0 (eq-eqb caller caller refl) in
    let there : other < length state.views = elim (cases_lt other (length state.views)) [
      | inl within ↦ within
      | inr past ↦
          let none : None ≡ Some caller = sym (ap (λ (v : View). v.turn) (get_or_past state.views other spent_lock_view past)) ∙ turn in absurd (cc)
    ] in
    let both = two_weigh (bears caller) state.views seat other spent_lock_view at.within there apart in
    let once = shows.once caller in
    omega arith

-- the seats that are not the writer's, after an end
others_after_end : (config : Config) (state : State Entry View) (shows : ShowsLock config state) (seat : ℕ) (view : View) (entry : Entry)
    → IsSeat config state shows seat view → view.kind ≡ Writes → MayEnter entry view.turn
    → (other : ℕ) → other ≢ seat
    → LockSeatFits config (shows.core.seq + 1) shows.core.slots (shows.core.journal ++ entry ∷ []) shows.made other (lock_view_at state.views other)
others_after_end config state shows seat view entry at writes may other apart =
    let fits = shows.seats other in
    record {
      settings = fits.settings;
      turn = λ caller turn. record {
        early = (fits.turn caller turn).early;
        all = calls_other caller shows.core.journal entry (of_no_other config state shows seat view entry at may other caller apart turn) ∙ (fits.turn caller turn).all;
        from_own = (fits.turn caller turn).from_own;
      };
      before = fits.before;
      joined = fits.joined;
      writer = λ also. absurd (apart ((fits.writer also).first ∙ sym (at.fits.writer writes).first));
      free = fits.free;
      traced = fits.traced;
    }

-- end
pub end_allows : (config : Config) (slots seat : ℕ) (me : Me Entry View) (entry : Entry) → me.0.kind ≡ Writes → me.0.writer_state.seq % 2 ≡ 1
    → entry.reply ≡ (call_step me.0.config (after me.0.config me.0.seen) entry.call).reply
    → Exactly me.0.writer_state.slots (list_after me.0.config (me.0.seen ++ entry ∷ [])) → MayEnter entry me.0.turn
    → Allows (ShowsLock config) slots seat me 0 (λ n. either (eqb n me.0.writer_state.seq) (me.0.writer_state.seq + 1) n)
    (end_tells (step slots 0 me.0.writer_state.seq (me.0.writer_state.seq + 1) (some entry)) me)
end_allows config slots seat me entry writes is_open replied exact may state shows homes found fits =
    let core : LockCore = shows.core in
    let at = seat_found config state shows seat me.0 found in
    let known = writer_is config state shows seat me.0 at writes in
    let is = known.0 in
    let word : ℕ = get_or state.words 0 0 in
    let word_is : word ≡ me.0.writer_state.seq = ap (λ (l : List ℕ). get_or l 0 0) shows.words ∙ word-sequence core.seq core.slots core.counts ∙ sym is.seq_is in
    let wins : either (eqb word me.0.writer_state.seq) (me.0.writer_state.seq + 1) word ≡ core.seq + 1 =
    ap (λ b. either b (me.0.writer_state.seq + 1) word) (eq-eqb word me.0.writer_state.seq word_is) ∙ ap (λ n. n + 1) is.seq_is in
    let core_open : core.seq % 2 ≡ 1 = subst (λ n. n % 2 ≡ 1) is.seq_is is_open in
    let room : core.seq + 1 ≤ 2 ^ 32 + 2 = omega (arith, shows.room, core_open) in
    let new : View = end_at me.0 entry in
    let all : List Entry = core.journal ++ entry ∷ [] in
    let replied_core : entry.reply ≡ (call_step config (after config core.journal) entry.call).reply =
    subst (λ (j : List Entry). entry.reply ≡ (call_step config (after config j) entry.call).reply) is.seen
    (subst (λ c. entry.reply ≡ (call_step c (after c me.0.seen) entry.call).reply) known.1 replied) in
    let legal : IsLegalJournal config all = (legal-push config core.journal entry).1 (shows.facts.rows.legal, replied_core) in
    let exact_core : Exactly core.slots (list_after config all) =
    subst (λ (l : List SlotState). Exactly l (list_after config all)) is.slots_are
    (subst (λ (j : List Entry). Exactly me.0.writer_state.slots (list_after config (j ++ entry ∷ []))) is.seen
    (subst (λ c. Exactly me.0.writer_state.slots (list_after c (me.0.seen ++ entry ∷ []))) known.1 exact)) in
    let facts : LockFacts config (after_look (after_end core entry) seat) =
    look_keeps config (after_end core entry) seat (end_keeps config core entry shows.facts core_open legal exact_core) in
    let reader_is : record { stage = stage_after (core.seq + 1) core.slots (reader_at core.readers seat).stage; seen = all } ≡ reader_of new =
    ap (λ (r : Reader). record { stage = stage_after (core.seq + 1) core.slots r.stage; seen = all }) at.reader
    ∙ ap (λ s. record { stage = stage_after (core.seq + 1) core.slots s; seen = all }) is.stage
    ∙ ap (λ s. record { stage = s; seen = all }) (sym is.stage)
    ∙ ap (λ (j : List Entry). record { stage = me.0.stage; seen = j ++ entry ∷ [] }) (sym is.seen) in
    let readers : (after_look (after_end core entry) seat).readers ≡ map reader_of (set state.views seat new) =
    ap (set core.readers seat) reader_is ∙ readers_after config state shows seat new in
    let words : set state.words 0 (either (eqb word me.0.writer_state.seq) (me.0.writer_state.seq + 1) word) ≡ table_words (core.seq + 1) core.slots core.counts =
    ap (set state.words 0) wins ∙ ap (λ (l : List ℕ). set l 0 (core.seq + 1)) shows.words
    ∙ words-sequence core.seq (core.seq + 1) core.slots core.counts in (
      new,
      keeps,
      tt,
      stands config state shows seat 0 (either (eqb word me.0.writer_state.seq) (me.0.writer_state.seq + 1) word) me.1 me.0 new (after_look (after_end core entry) seat) at
          facts readers words refl (others_after_end config state shows seat me.0 entry at writes may) (end_fits config state shows seat me.0 entry at writes)
          refl refl room,
      λ other said. ap (λ e. (end_at me.0 e, me.1)) (some-injective entry other said),
    )
