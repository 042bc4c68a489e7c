-- For `lock_slot`: what an add, a look and a read of the row leave together.
use Rattle.std.proofs.Common.{ℕ, ◌≡◌, ◌≢◌, ◌≤◌, ◌+◌, ◌^◌, ◌∙◌, true, false, List, [], ◌∷◌, length, get_or, Option, Some, refl, sym, ap, subst, nat_eq, arith}
use Rattle.std.proofs.lemmas.Bool.{cond-false, ne_eqb}
use Rattle.mm_types.specs.declared.area.Record.{Record}
use Rattle.mm_types.specs.declared.call.Entry.{Entry}
use Rattle.mm_types.specs.declared.config.Config.{Config}
use Rattle.mm_types.specs.Config.{IsValidConfig}
use Rattle.mm_types.specs.Packed.{unpacked}
use Rattle.area_list.specs.Areas.{has_page}
use Rattle.lock_core.specs.declared.stage.Stage.{Stage}
use Rattle.lock_core.specs.declared.stage.Stage.TheVariants.{Holds, Valid}
use Rattle.lock_core.specs.Core.{slot_at}
use Rattle.lock_core.specs.Facts.{list_after}
use Rattle.lock_core.specs.Rows.{IsRowOf}
use Rattle.vma_lock.specs.declared.view.View.{View}
use Rattle.vma_lock.specs.declared.view.SeenAt.{SeenAt}
use Rattle.vma_lock.specs.Plays.{Sees, LooksAt}
use Rattle.vma_lock.specs.Seats.{is_validated, row_of}
use Rattle.vma_lock.specs.Views.{or_first, holds_slot, add_at, look_at, read_at, sub_at}
use Rattle.fault_path.specs.Faults.{ReadsSlot, words_read, Lacks}
use Rattle.fault_path.specs.Locking.{IsLocked, LocksSlot}
use Rattle.fault_path.proofs.Members.{seen_sound, held_member, lacks_page}

-- four words, read one by one
four_words : (row : List ℕ) → length row ≡ 4 → get_or row 0 0 ∷ get_or row 1 0 ∷ get_or row 2 0 ∷ get_or row 3 0 ∷ [] ≡ row
four_words (a ∷ b ∷ c ∷ d ∷ []) four = refl
four_words [] four = absurd (omega arith)
four_words (a ∷ []) four = absurd (omega arith)
four_words (a ∷ b ∷ []) four = absurd (omega arith)
four_words (a ∷ b ∷ c ∷ []) four = absurd (omega arith)
four_words (a ∷ b ∷ c ∷ d ∷ e ∷ row) four = absurd (omega arith)

-- a slot that was validated, whose row was read
pub record Validated (old new : View) (slot : ℕ) (row : List ℕ) : Type 0 where
  pub valid : is_validated new.stage ≡ true
  pub row_is : row_of new.stage ≡ row
  pub four : length row ≡ 4
  pub right : IsRowOf (list_after new.config new.seen) row
  pub few : length new.seen ≤ 2 ^ 31
  pub config : new.config ≡ old.config
  pub reads : ReadsSlot slot row old new

-- what a look found
abbrev seen_at : ℕ → List Entry → Option SeenAt
seen_at seq journal = Some (record { seq = seq; seen = journal; held = true })

-- an add, a look that found another sequence, and a read of the row
pub validated : (old added looked new : View) (slot lock_seq seq : ℕ) (row : List ℕ) → added ≡ add_at old slot lock_seq → Sees added seq looked.seen
    → LooksAt added.config looked.seen seq added.stage looked.stage → looked ≡ look_at added seq looked.seen looked.stage → lock_seq ≢ seq
    → row ≡ row_of looked.stage → new ≡ read_at looked row → Validated old new slot row
validated old added looked new slot lock_seq seq row add sees looks look apart row_is read =
    let start : added.stage ≡ Holds slot lock_seq = ap (λ (v : View). v.stage) add in
    let at : LooksAt added.config looked.seen seq (Holds slot lock_seq) looked.stage =
    subst (λ (s : Stage). LooksAt added.config looked.seen seq s looked.stage) start looks in
    let stable : List ℕ = (slot_at at.slots slot).row in
    let found : looked.stage ≡ Valid slot lock_seq stable =
    at.tests ∙ cond-false (nat_eq lock_seq seq) (Holds slot lock_seq) (Valid slot lock_seq stable) (ne_eqb lock_seq seq apart) in
    let right = at.right slot lock_seq stable found in
    let same : row ≡ stable = row_is ∙ ap row_of found in
    let stays : new.stage ≡ looked.stage = ap (λ (v : View). v.stage) read in
    let config : new.config ≡ added.config = ap (λ (v : View). v.config) read ∙ ap (λ (v : View). v.config) look in
    let seen : new.seen ≡ looked.seen = ap (λ (v : View). v.seen) read in
    let four : length row ≡ 4 = ap (λ (l : List ℕ). length l) same ∙ right.1 in
    let first : looked.trace.first ≡ Some (record { seq = seq; seen = looked.seen; held = true }) =
    ap (λ (v : View). v.trace.first) look ∙ ap (λ (v : View). or_first v.trace.first (record { seq = seq; seen = looked.seen; held = holds_slot v.stage })) add in
    record {
      valid = ap is_validated (stays ∙ found);
      row_is = ap row_of stays ∙ sym row_is;
      four = four;
      right = subst (λ (r : List ℕ). IsRowOf (list_after new.config new.seen) r) (sym same)
          (subst (λ (c : Config). IsRowOf (list_after c new.seen) stable) (sym config)
          (subst (λ (j : List Entry). IsRowOf (list_after added.config j) stable) (sym seen) right.2));
      few = subst (λ (j : List Entry). length j ≤ 2 ^ 31) (sym seen) sees.few;
      config = config ∙ ap (λ (v : View). v.config) add;
      reads = record {
        lock_seq = lock_seq;
        seq = seq;
        tries = record {
          added = ap (λ (v : View). v.trace.added) read ∙ ap (λ (v : View). v.trace.added) look ∙ ap (λ (v : View). v.trace.added) add;
          first = ap (λ (v : View). v.trace.first) read ∙ first ∙ sym (ap (seen_at seq) seen);
          adds = ap (λ (v : View). v.trace.adds) read ∙ ap (λ (v : View). v.trace.adds) look ∙ ap (λ (v : View). v.trace.adds) add;
          looks = ap (λ (v : View). v.trace.looks) read ∙ ap (λ (v : View). v.trace.looks) look ∙ ap (λ (v : View). v.trace.looks + 1) add;
          fields = ap (λ (v : View). v.trace.fields) read ∙ ap (λ (v : View). v.trace.fields + 4) look ∙ ap (λ (v : View). v.trace.fields + 4) add;
        };
        apart = λ is. apart (sym is);
        words = ap words_read read ∙ four_words row four;
      };
    }

-- it holds an area that has the page
pub locked : (old new : View) (slot page : ℕ) (row : List ℕ) (area : Record) → IsValidConfig old.config → Validated old new slot row
    → unpacked row ≡ Some area → has_page area.span page ≡ true → IsLocked area new × LocksSlot slot page area old new
locked old new slot page row area config at holds has =
    let valid : IsValidConfig new.config = subst IsValidConfig (sym at.config) config in (
      record {
        valid = at.valid;
        holds = ap unpacked at.row_is ∙ holds;
        sound = seen_sound new.config new.seen valid at.few;
        member = held_member new.config new.seen row area valid at.few at.right holds;
      },
      record { row = row; reads = at.reads; holds = record { holds = holds; has = has } },
    )

-- the slot was given back
given_back : (old held new : View) (slot : ℕ) (row : List ℕ) → new ≡ sub_at held → ReadsSlot slot row old held → ReadsSlot slot row old new
given_back old held new slot row sub reads = subst (λ (v : View). ReadsSlot slot row old v) (sym sub) (record {
  lock_seq = reads.lock_seq;
  seq = reads.seq;
  tries = record {
    added = reads.tries.added;
    first = reads.tries.first;
    adds = reads.tries.adds;
    looks = reads.tries.looks;
    fields = reads.tries.fields;
  };
  apart = reads.apart;
  words = reads.words;
})

-- it holds none: the row lacks the page
pub lacked : (old held new : View) (slot page : ℕ) (row : List ℕ) → IsValidConfig old.config → Validated old held slot row → new ≡ sub_at held
    → ((area : Record) → unpacked row ≡ Some area → has_page area.span page ≡ false)
    → ReadsSlot slot row old new × Lacks page row
lacked old held new slot page row config at sub lacks =
    let valid : IsValidConfig held.config = subst IsValidConfig (sym at.config) config in (
      given_back old held new slot row sub at.reads,
      lacks_page held.config held.seen page row valid at.few at.right lacks,
    )
