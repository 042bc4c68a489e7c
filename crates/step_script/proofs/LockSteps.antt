-- For `lock_text`: what the events of a script leave room for.
use Rattle.std.proofs.Common.{◌≡◌, ◌≤◌, ◌<◌, ◌+◌, ℕ, List, [], ◌∷◌, ◌++◌, length, get_or, drop, sym, ap, ◌∙◌, subst, append_assoc, add-one, drop-cons, Option, Some, None, refl, inl, lit≤, lit<, arith}
use Rattle.mm_types.specs.Config.{IsValidConfig, default_config}
use Rattle.lock_core.specs.declared.events.LockEvent.{LockEvent}
use Rattle.lock_core.specs.declared.events.LockEvent.TheVariants.{Add, Look, Field, Sub, Begin, Mark, Store, End, Split, Join}
use Rattle.lock_core.specs.declared.events.StepRefusal.{StepRefusal}
use Rattle.lock_core.specs.Refusals.{lock_refusal}
use Rattle.lock_core.specs.States.{Lock, NamesField, after_step}
use Rattle.step_script.specs.declared.script.EventLine.{EventLine}
use Rattle.lock_core.proofs.Growing.{readers_grow, journal_grows}
use Rattle.step_script.specs.LockTexts.{lock_after, lock_line_text, lock_lines_text}
use Rattle.step_script.specs.Texts.{state_after}
use Rattle.step_script.specs.Values.{IsLockEvent}

-- the configuration of a script is valid
pub default_valid : IsValidConfig (default_config [])
unfolding default_config
default_valid = record {
  min = record { aligned = refl; above_zero = lit≤ tt; within = lit≤ tt };
  top = record { aligned = refl; above_zero = lit≤ tt; within = lit≤ tt };
  heap = inl refl;
  limit = inl refl;
  some_areas = lit< tt;
  most_areas = lit≤ tt;
  most_files = lit≤ tt;
  distinct = λ i j d before within. absurd (omega (arith, within));
}

-- the fields that an event of a script names are there
pub names_field : (readers slots : ℕ) (event : LockEvent) → IsLockEvent readers slots event → NamesField event
names_field readers slots (Add reader slot) fits = tt
names_field readers slots (Look reader) fits = tt
names_field readers slots (Field reader field) fits = fits.1
names_field readers slots (Sub reader) fits = tt
names_field readers slots Begin fits = tt
names_field readers slots (Mark slot) fits = tt
names_field readers slots (Store slot field word) fits = fits.1
names_field readers slots (End caller call) fits = tt
names_field readers slots (Split reader) fits = tt
names_field readers slots (Join first second) fits = tt

-- whether an event is refused or not, the state after it has at most one reader more
pub readers_left : (lock : Lock) (event : LockEvent) → length (lock_after lock event).core.readers ≤ length lock.core.readers + 1
readers_left lock event = by_refusal (lock_refusal lock.config lock.core event)
  where
    by_refusal : (reason : Option StepRefusal)
        → length (state_after reason lock (after_step lock event)).core.readers ≤ length lock.core.readers + 1
    by_refusal None = readers_grow lock.config lock.core event
    by_refusal (Some reason) = omega arith

-- and at most one entry more
pub journal_left : (lock : Lock) (event : LockEvent) → length (lock_after lock event).core.journal ≤ length lock.core.journal + 1
journal_left lock event = by_refusal (lock_refusal lock.config lock.core event)
  where
    by_refusal : (reason : Option StepRefusal)
        → length (state_after reason lock (after_step lock event)).core.journal ≤ length lock.core.journal + 1
    by_refusal None = journal_grows lock.config lock.core event
    by_refusal (Some reason) = omega arith

-- one line more is printed
pub one_printed : (lines : List (EventLine LockEvent)) (index : ℕ) (line : EventLine LockEvent) (lock next : Lock) (before after all : List ℕ)
    → drop index lines ≡ line ∷ drop (index + 1) lines
    → before ++ lock_lines_text lock (drop index lines) ≡ all
    → after ≡ before ++ lock_line_text lock line → next ≡ lock_after lock line.event
    → after ++ lock_lines_text next (drop (index + 1) lines) ≡ all
one_printed lines index line lock next before after all first so_far printed is =
    ap (λ (t : List ℕ). t ++ lock_lines_text next (drop (index + 1) lines)) printed
    ∙ append_assoc before (lock_line_text lock line) (lock_lines_text next (drop (index + 1) lines))
    ∙ ap (λ (l : Lock). before ++ (lock_line_text lock line ++ lock_lines_text l (drop (index + 1) lines))) is
    ∙ ap (λ (ls : List (EventLine LockEvent)). before ++ lock_lines_text lock ls) (sym first) ∙ so_far

-- the line at an index is the first of those that are left there
pub line_at : (lines shown : List (EventLine LockEvent)) (index : ℕ) (d : EventLine LockEvent) → shown ≡ lines → index < length shown
    → drop index lines ≡ get_or shown index d ∷ drop (index + 1) lines
line_at lines shown index d same within =
    subst (λ (ls : List (EventLine LockEvent)). drop index ls ≡ get_or shown index d ∷ drop (index + 1) ls) same
    (rw add-one (drop-cons shown index d within))

-- a step makes at most one reader and at most one entry
pub next_readers : (lock next : Lock) (event : LockEvent) → next ≡ lock_after lock event
    → length next.core.readers ≤ length lock.core.readers + 1
next_readers lock next event is = rw is (readers_left lock event)

pub next_journal : (lock next : Lock) (event : LockEvent) → next ≡ lock_after lock event
    → length next.core.journal ≤ length lock.core.journal + 1
next_journal lock next event is = rw is (journal_left lock event)
