-- For `VmaTable::give_back_turn`, `VmaTable::learn_from_reader`, `VmaTable::join` and others: splits and joins of seats keep the rule of a table, and so does a load that tells of a join.
use Rattle.std.proofs.Common.{ℕ, ◌≡◌, ◌≢◌, ◌<◌, ◌≤◌, ◌+◌, ◌∙◌, inl, inr, refl, sym, ap, subst, nat_eq, List, [], ◌∷◌, ◌++◌, length, get_or, set, Option, Some, None, arith}
use mathlib.Core.Option.{some, none}
use lib.ListN.{get_elem?}
use Rattle.std.specs.List.{sum_by}
use Rattle.std.proofs.lemmas.Bool.{cond-true, cond-false, cases_lt}
use Rattle.std.proofs.lemmas.Bool.Decides.{eqb_tells}
use Rattle.std.proofs.lemmas.List.{length-set, map-append, map-set, get_or-set_other}
use Rattle.std.proofs.lemmas.List.Sums.{sum_by-set, sum_by_push}
use Rattle.mm_types.specs.declared.call.Entry.{Entry}
use Rattle.mm_types.specs.declared.config.Config.{Config}
use Rattle.lock_core.specs.declared.stage.Stage.TheVariants.{Out}
use Rattle.lock_core.specs.Core.{LockCore, Reader, reader_at, gone_reader, slot_held, StartsWith}
use Rattle.lock_core.specs.Events.{longer, after_lock_split, after_lock_join}
use Rattle.lock_core.proofs.Elements.{some_weighs}
use Rattle.lock_core.proofs.Holding.{starts_longer}
use Rattle.lock_core.proofs.Keeping.{split_keeps, join_keeps}
use Rattle.atomic_table.specs.Table.{State, Me, step, Allows, Splits, Joins, keeps}
use Rattle.atomic_table.proofs.Lists.{set_else}
use Rattle.vma_lock.specs.declared.view.SeatKind.TheVariants.{Reads, Writes, Note, Spent}
use Rattle.vma_lock.specs.declared.view.View.{View}
use Rattle.vma_lock.specs.Views.{reader_of, lock_view_at, spent_lock_view, split_view, new_lock_reader, after_lock_reader, without_turn, note_view, turn_note, lent_at, heard_at, lock_joined_at, returned_at}
use Rattle.area_rules.specs.Journals.{calls_by}
use Rattle.vma_lock.specs.Rule.{turn_weight, bears, kind_weight, can_hold, LockSeatFits, ShowsLock}
use Rattle.vma_lock.specs.Plays.{join_tells}
use Rattle.vma_lock.proofs.Places.{each_else, each_more}
use Rattle.vma_lock.proofs.Journals.{starts_self, longer_first, longer_second, longer_whole, calls_between}
use Rattle.vma_lock.proofs.Standing.{IsSeat, seat_found, readers_after, readers_same, stands_reading}
use Rattle.vma_lock.proofs.Looking.{words_loaded, settled_seat}

-- a seat of this table's configuration is split in two
abbrev AfterSplit : Config → State Entry View → ℕ → View → View → Type 0
AfterSplit config state seat left right =
    ShowsLock config (record { words = state.words; homes = state.homes; views = set state.views seat left ++ right ∷ [] })

-- what a split has to show
split_shows : (config : Config) (state : State Entry View) (shows : ShowsLock config state) (seat made : ℕ) (view left right : View)
    → IsSeat config state shows seat view
    → reader_of left ≡ reader_of view → reader_of right ≡ record { stage = Out; seen = view.seen }
    → ((other : ℕ) → other ≢ seat → LockSeatFits config shows.core.seq shows.core.slots shows.core.journal made other (lock_view_at state.views other))
    → LockSeatFits config shows.core.seq shows.core.slots shows.core.journal made seat left
    → LockSeatFits config shows.core.seq shows.core.slots shows.core.journal made (length state.views) right
    → ((caller : ℕ) → sum_by (bears caller) state.views + bears caller left + bears caller right ≤ 1 + bears caller view)
    → can_hold left + can_hold right + shows.made ≤ can_hold view + made → made ≤ 64
    → AfterSplit config state seat left right
split_shows config state shows seat made view left right at same new_is others fits new_fits turns holders most =
    let core : LockCore = shows.core in
    let views : List View = set state.views seat left in
    let count = length-set state.views seat left in
    record {
      core = after_lock_split core seat;
      made = made;
      readers = ap (λ (r : Reader). core.readers ++ record { stage = Out; seen = r.seen } ∷ []) at.reader
          ∙ ap (λ (r : Reader). core.readers ++ r ∷ []) (sym new_is)
          ∙ ap (λ (l : List Reader). l ++ reader_of right ∷ []) (readers_same config state shows seat view left at same)
          ∙ sym (map-append reader_of views (right ∷ []));
      facts = split_keeps config core seat shows.facts;
      words = shows.words;
      slots = shows.slots;
      seats = each_more (LockSeatFits config core.seq core.slots core.journal made) views right spent_lock_view
          (each_else (LockSeatFits config core.seq core.slots core.journal made) state.views seat left spent_lock_view at.within others fits)
          (subst (λ n. LockSeatFits config core.seq core.slots core.journal made n right) (sym count) new_fits);
      once = λ caller.
          let swap = sum_by-set (bears caller) state.views seat left spent_lock_view at.within in
          let before : bears caller (lock_view_at state.views seat) ≡ bears caller view = ap (bears caller) at.is in
          let more = sum_by_push (bears caller) views right in
          let turn = turns caller in
          omega arith;
      few =
          let swap = sum_by-set can_hold state.views seat left spent_lock_view at.within in
          let before : can_hold (lock_view_at state.views seat) ≡ can_hold view = ap can_hold at.is in
          let more = sum_by_push can_hold views right in
          let old : sum_by can_hold state.views ≤ shows.made = shows.few in
          omega arith;
      most = most;
      room = shows.room;
    }

-- a note of what a seat has seen fits
note_fits : (config : Config) (state : State Entry View) (shows : ShowsLock config state) (seat number : ℕ) (view : View) (turn : Option ℕ)
    → IsSeat config state shows seat view → view.config ≡ config
    → ((caller : ℕ) → turn ≡ Some caller → (caller < shows.made) × (calls_by caller shows.core.journal ≡ calls_by caller view.seen))
    → LockSeatFits config shows.core.seq shows.core.slots shows.core.journal shows.made number (split_view view Note view.caller turn)
note_fits config state shows seat number view turn at settings seen = record {
  settings = λ spent. settings;
  turn = λ caller is. record { early = (seen caller is).0; all = (seen caller is).1; from_own = refl };
  before = starts_self view.seen;
  joined = starts_self view.seen;
  writer = λ writes. absurd (cc);
  free = λ other. refl;
  traced = tt;
}

-- a note is made
pub note_splits : (config : Config) (seat : ℕ) (view : View) → view.kind ≢ Spent → Splits (ShowsLock config) seat view view (note_view view)
note_splits config seat view real state shows found =
    let at = seat_found config state shows seat view found in
    split_shows config state shows seat shows.made view view (note_view view) at refl refl (λ other apart. shows.seats other) at.fits
    (note_fits config state shows seat (length state.views) view None at (at.fits.settings real) (λ caller is. absurd (cc)))
    (λ caller. let once = shows.once caller in omega arith)
    (omega arith) shows.most

-- a seat without its turn fits
turnless_fits : (config : Config) (state : State Entry View) (shows : ShowsLock config state) (seat : ℕ) (view : View) → IsSeat config state shows seat view
    → LockSeatFits config shows.core.seq shows.core.slots shows.core.journal shows.made seat (without_turn view)
turnless_fits config state shows seat view at = record {
  settings = at.fits.settings;
  turn = λ caller is. absurd (cc);
  before = at.fits.before;
  joined = at.fits.joined;
  writer = λ writes. let is = at.fits.writer writes in record {
    first = is.first;
    stage = is.stage;
    seen = is.seen;
    seq_is = is.seq_is;
    slots_are = is.slots_are;
    made_is = is.made_is;
  };
  free = at.fits.free;
  traced = at.fits.traced;
}

-- a note is made that takes the seat's turn along
pub turn_splits : (config : Config) (seat : ℕ) (view : View) → view.kind ≢ Spent → Splits (ShowsLock config) seat view (without_turn view) (turn_note view)
turn_splits config seat view real state shows found =
    let at = seat_found config state shows seat view found in
    split_shows config state shows seat shows.made view (without_turn view) (turn_note view) at refl refl (λ other apart. shows.seats other)
    (turnless_fits config state shows seat view at)
    (note_fits config state shows seat (length state.views) view view.turn at (at.fits.settings real)
    (λ caller is. ((at.fits.turn caller is).early, (at.fits.turn caller is).all)))
    (λ caller. let once = shows.once caller in omega arith)
    (omega arith) shows.most

-- no seat has the turn of a caller whose reader is not made yet
no_turn_yet : (config : Config) (state : State Entry View) (shows : ShowsLock config state) → sum_by (bears shows.made) state.views ≡ 0
no_turn_yet config state shows = elim (cases_lt 0 (sum_by (bears shows.made) state.views)) [
  | inl some_turn ↦
      let seat = some_weighs (bears shows.made) state.views spent_lock_view some_turn in
      absurd (early (lock_view_at state.views seat.0).turn (λ caller is. ((shows.seats seat.0).turn caller is).early) seat.2)
  | inr none_yet ↦ omega arith
]
  where
    early : (turn : Option ℕ) → ((caller : ℕ) → turn ≡ Some caller → caller < shows.made) → 0 < turn_weight shows.made turn → ⊥
    early None below weighs = omega arith
    early (Some caller) below weighs = elim (eqb_tells caller shows.made) [
      | inl same ↦ let less = below caller refl in omega (arith, less, same.1)
      | inr apart ↦ let none_at = cond-false {A = ℕ} (nat_eq caller shows.made) 1 0 apart.0 in omega (arith, weighs, none_at)
    ]

-- the writer makes a reader
pub reader_splits : (config : Config) (seat : ℕ) (view : View) → view.kind ≡ Writes → view.writer_state.made < 64
    → Splits (ShowsLock config) seat view (after_lock_reader view) (new_lock_reader view)
reader_splits config seat view writes few state shows found =
    let at = seat_found config state shows seat view found in
    let is = at.fits.writer writes in
    let made : ℕ = shows.made in
    let made_is : view.writer_state.made ≡ made = is.made_is in
    split_shows config state shows seat (made + 1) view (after_lock_reader view) (new_lock_reader view) at refl refl
    (λ other apart. let fits = shows.seats other in record {
      settings = fits.settings;
      turn = λ caller turn. let own = fits.turn caller turn in record { early = omega (arith, own.early); all = own.all; from_own = own.from_own };
      before = fits.before;
      joined = fits.joined;
      writer = λ also. absurd (apart ((fits.writer also).first ∙ sym is.first));
      free = fits.free;
      traced = fits.traced;
    })
    (record {
      settings = at.fits.settings;
      turn = λ caller turn. let own = at.fits.turn caller turn in record { early = omega (arith, own.early); all = own.all; from_own = own.from_own };
      before = at.fits.before;
      joined = at.fits.joined;
      writer = λ also. record {
        first = is.first;
        stage = is.stage;
        seen = is.seen;
        seq_is = is.seq_is;
        slots_are = is.slots_are;
        made_is = ap (λ n. n + 1) made_is;
      };
      free = at.fits.free;
      traced = at.fits.traced;
    })
    (record {
      settings = λ spent. at.fits.settings (λ other. let e = sym writes ∙ other in cc);
      turn = λ caller turn. record {
        early = (let e : view.writer_state.made ≡ caller = cc in omega arith);
        all = ap (calls_by caller) (sym is.seen);
        from_own = refl;
      };
      before = starts_self view.seen;
      joined = starts_self view.seen;
      writer = λ also. absurd (cc);
      free = λ other. absurd (other refl);
      traced = tt;
    })
    (λ caller. new_turn caller made_is)
    (let e : can_hold view ≡ 0 = ap kind_weight writes in omega arith)
    (omega arith)
  where
    new_turn : (caller : ℕ) → view.writer_state.made ≡ shows.made
        → sum_by (bears caller) state.views + bears caller view + turn_weight caller (Some view.writer_state.made) ≤ 1 + bears caller view
    new_turn caller same = elim (eqb_tells view.writer_state.made caller) [
      | inl here ↦
          let one = cond-true {A = ℕ} (nat_eq view.writer_state.made caller) 1 0 here.0 in
          let none_yet : sum_by (bears caller) state.views ≡ 0 =
          subst (λ c. sum_by (bears c) state.views ≡ 0) (sym same ∙ here.1) (no_turn_yet config state shows) in
          omega arith
      | inr apart ↦
          let none_here = cond-false {A = ℕ} (nat_eq view.writer_state.made caller) 1 0 apart.0 in
          let once = shows.once caller in
          omega arith
    ]

-- what a join has to show
join_shows : (config : Config) (state : State Entry View) (shows : ShowsLock config state) (seat other : ℕ) (view taken both : View)
    → IsSeat config state shows seat view → IsSeat config state shows other taken → ¬ (other ≡ seat) → slot_held taken.stage ≡ None
    → reader_of both ≡ record { stage = view.stage; seen = longer view.seen taken.seen }
    → LockSeatFits config shows.core.seq shows.core.slots shows.core.journal shows.made seat both
    → ((caller : ℕ) → bears caller both ≤ bears caller view + bears caller taken) → both.kind ≡ view.kind
    → ShowsLock config (record { words = state.words; homes = state.homes; views = set (set state.views seat both) other spent_lock_view })
join_shows config state shows seat other view taken both at there apart free reader_is fits turns kind =
    let core : LockCore = shows.core in
    let middle : List View = set state.views seat both in
    let count = length-set state.views seat both in
    let still : lock_view_at middle other ≡ taken = get_or-set_other state.views seat other both spent_lock_view apart ∙ there.is in
    let inside : other < length middle = omega (arith, there.within, count) in
    record {
      core = after_lock_join core seat other;
      made = shows.made;
      readers = ap (λ (r : Reader). set (set core.readers seat (record (reader_at core.readers seat) { seen = longer (reader_at core.readers seat).seen r.seen })) other gone_reader) there.reader
          ∙ ap (λ (r : Reader). set (set core.readers seat (record r { seen = longer r.seen taken.seen })) other gone_reader) at.reader
          ∙ ap (λ (r : Reader). set (set core.readers seat r) other gone_reader) (sym reader_is)
          ∙ ap (λ (l : List Reader). set l other gone_reader) (readers_after config state shows seat both)
          ∙ sym (map-set reader_of middle other spent_lock_view);
      facts = join_keeps config core seat other shows.facts (ap (λ (r : Reader). slot_held r.stage) there.reader ∙ free) (λ e. apart (sym e));
      words = shows.words;
      slots = shows.slots;
      seats = each_else (LockSeatFits config core.seq core.slots core.journal shows.made) middle other spent_lock_view spent_lock_view inside
          (λ k far. each_else (LockSeatFits config core.seq core.slots core.journal shows.made) state.views seat both spent_lock_view at.within (λ j else. shows.seats j) fits k)
          spent_fits;
      once = λ caller.
          let first = sum_by-set (bears caller) state.views seat both spent_lock_view at.within in
          let second = sum_by-set (bears caller) middle other spent_lock_view spent_lock_view inside in
          let one : bears caller (lock_view_at state.views seat) ≡ bears caller view = ap (bears caller) at.is in
          let two : bears caller (lock_view_at middle other) ≡ bears caller taken = ap (bears caller) still in
          let turn = turns caller in
          let old = shows.once caller in
          omega arith;
      few =
          let first = sum_by-set can_hold state.views seat both spent_lock_view at.within in
          let second = sum_by-set can_hold middle other spent_lock_view spent_lock_view inside in
          let one : can_hold (lock_view_at state.views seat) ≡ can_hold view = ap can_hold at.is in
          let same : can_hold both ≡ can_hold view = ap kind_weight kind in
          let old : sum_by can_hold state.views ≤ shows.made = shows.few in
          omega arith;
      most = shows.most;
      room = shows.room;
    }
  where
    spent_fits : LockSeatFits config shows.core.seq shows.core.slots shows.core.journal shows.made other spent_lock_view
    spent_fits = record {
      settings = λ spent. absurd (spent refl);
      turn = λ caller is. absurd (cc);
      before = refl;
      joined = refl;
      writer = λ writes. absurd (cc);
      free = λ reads. refl;
      traced = tt;
    }

-- the seat of the second number, before the first took another view
other_found : (config : Config) (state : State Entry View) (shows : ShowsLock config state) (seat other : ℕ) (both taken : View) → ¬ (other ≡ seat)
    → get_elem? (set state.views seat both) other ≡ some taken → IsSeat config state shows other taken
other_found config state shows seat other both taken apart found =
    seat_found config state shows other taken (sym (set_else state.views seat other both apart) ∙ found)

-- what a seat has seen is a beginning of the journal
seen_starts : (config : Config) (state : State Entry View) (shows : ShowsLock config state) (seat : ℕ) (view : View)
    → IsSeat config state shows seat view → StartsWith shows.core.journal view.seen
seen_starts config state shows seat view at = subst (λ (r : Reader). StartsWith shows.core.journal r.seen) at.reader (shows.facts.seen seat)

-- the writer takes a note in
writer_takes : (config : Config) (state : State Entry View) (shows : ShowsLock config state) (seat other : ℕ) (view taken : View)
    → IsSeat config state shows seat view → IsSeat config state shows other taken → view.kind ≡ Writes
    → (StartsWith view.seen taken.seen) × (longer view.seen taken.seen ≡ view.seen)
writer_takes config state shows seat other view taken at there writes =
    let is = at.fits.writer writes in
    let starts : StartsWith view.seen taken.seen =
    subst (λ (j : List Entry). StartsWith j taken.seen) (sym is.seen) (seen_starts config state shows other taken there) in
    (starts, longer_whole view.seen taken.seen starts)

-- a turn is lent to the writer
pub lent_joins : (config : Config) (seat other : ℕ) (view note : View) → view.kind ≡ Writes → slot_held note.stage ≡ None
    → Joins (ShowsLock config) seat view other note (lent_at view note) spent_lock_view
lent_joins config seat other view note writes free state shows found apart other_there =
    let at = seat_found config state shows seat view found in
    let there = other_found config state shows seat other (lent_at view note) note apart other_there in
    let is = at.fits.writer writes in
    let takes = writer_takes config state shows seat other view note at there writes in
    join_shows config state shows seat other view note (lent_at view note) at there apart free
    (ap (λ (l : List Entry). record { stage = view.stage; seen = l }) (sym takes.1))
    (record {
      settings = at.fits.settings;
      turn = λ caller turn. let own = there.fits.turn caller turn in record {
        early = own.early;
        all = ap (calls_by caller) (sym is.seen);
        from_own = ap (calls_by caller) is.seen ∙ own.all;
      };
      before = at.fits.before;
      joined = takes.0;
      writer = λ also. record { first = is.first; stage = is.stage; seen = is.seen; seq_is = is.seq_is; slots_are = is.slots_are; made_is = is.made_is };
      free = at.fits.free;
      traced = at.fits.traced;
    })
    (λ caller. omega arith) refl

-- a note is joined into the writer
pub heard_joins : (config : Config) (seat other : ℕ) (view note : View) → view.kind ≡ Writes → slot_held note.stage ≡ None
    → Joins (ShowsLock config) seat view other note (heard_at view note) spent_lock_view
heard_joins config seat other view note writes free state shows found apart other_there =
    let at = seat_found config state shows seat view found in
    let there = other_found config state shows seat other (heard_at view note) note apart other_there in
    let is = at.fits.writer writes in
    let takes = writer_takes config state shows seat other view note at there writes in
    join_shows config state shows seat other view note (heard_at view note) at there apart free
    (ap (λ (l : List Entry). record { stage = view.stage; seen = l }) (sym takes.1))
    (record {
      settings = at.fits.settings;
      turn = at.fits.turn;
      before = at.fits.before;
      joined = takes.0;
      writer = λ also. record { first = is.first; stage = is.stage; seen = is.seen; seq_is = is.seq_is; slots_are = is.slots_are; made_is = is.made_is };
      free = at.fits.free;
      traced = at.fits.traced;
    })
    (λ caller. omega arith) refl

-- a seat is joined into a reader
pub reader_joins : (config : Config) (seat other : ℕ) (view taken : View) → view.kind ≡ Reads → slot_held taken.stage ≡ None
    → Joins (ShowsLock config) seat view other taken (lock_joined_at view taken) spent_lock_view
reader_joins config seat other view taken reads free state shows found apart other_there =
    let at = seat_found config state shows seat view found in
    let there = other_found config state shows seat other (lock_joined_at view taken) taken apart other_there in
    let journal : List Entry = shows.core.journal in
    let mine = seen_starts config state shows seat view at in
    let theirs = seen_starts config state shows other taken there in
    let all = starts_longer journal view.seen taken.seen mine theirs in
    let first = longer_first journal view.seen taken.seen mine theirs in
    join_shows config state shows seat other view taken (lock_joined_at view taken) at there apart free refl
    (record {
      settings = at.fits.settings;
      turn = λ caller turn.
          let own = at.fits.turn caller turn in
          let between = calls_between caller journal (longer view.seen taken.seen) view.seen all first own.all in
          record { early = own.early; all = own.all ∙ sym between; from_own = between };
      before = first;
      joined = longer_second journal view.seen taken.seen mine theirs;
      writer = λ writes. let e = sym reads ∙ writes in absurd (cc);
      free = at.fits.free;
      traced = at.fits.traced;
    })
    (λ caller. omega arith) refl

-- a note with a turn is joined into a reader
pub returned_joins : (config : Config) (seat other : ℕ) (view note : View) → view.kind ≡ Reads → slot_held note.stage ≡ None
    → Joins (ShowsLock config) seat view other note (returned_at view note) spent_lock_view
returned_joins config seat other view note reads free state shows found apart other_there =
    let at = seat_found config state shows seat view found in
    let there = other_found config state shows seat other (returned_at view note) note apart other_there in
    let journal : List Entry = shows.core.journal in
    let mine = seen_starts config state shows seat view at in
    let theirs = seen_starts config state shows other note there in
    let all = starts_longer journal view.seen note.seen mine theirs in
    let second = longer_second journal view.seen note.seen mine theirs in
    join_shows config state shows seat other view note (returned_at view note) at there apart free refl
    (record {
      settings = at.fits.settings;
      turn = λ caller turn.
          let own = there.fits.turn caller turn in
          let between = calls_between caller journal (longer view.seen note.seen) note.seen all second own.all in
          record { early = own.early; all = own.all ∙ sym between; from_own = between };
      before = longer_first journal view.seen note.seen mine theirs;
      joined = second;
      writer = λ writes. let e = sym reads ∙ writes in absurd (cc);
      free = at.fits.free;
      traced = at.fits.traced;
    })
    (λ caller. omega arith) refl

-- a load tells of the last join
pub tell_allows : (config : Config) (slots seat : ℕ) (me : Me Entry View)
    → Allows (ShowsLock config) slots seat me 0 (λ n. n) (join_tells (step slots 0 0 0 none) me)
tell_allows config slots seat me state shows homes found fits =
    let at = seat_found config state shows seat me.0 found in (
      me.0,
      keeps,
      tt,
      stands_reading config state shows seat 0 (get_or state.words 0 0) me.1 me.0 me.0 shows.core.counts shows.core.readers at shows.facts
          (readers_same config state shows seat me.0 me.0 at refl) (words_loaded config state shows 0) at.fits refl refl,
      (refl, settled_seat config state shows seat me.0 at),
    )
