-- Finished runs: what callers did, as items of a history.
use Rattle.std.specs.Prelude.{ℕ, ◌≡◌, ◌≤◌, ◌+◌, ◌*◌, ◌^◌, if◌then◌else◌, List, [], ◌∷◌, ◌++◌, length, map, take, zip, slice_get, Some, All, Contains}
use Rattle.mm_types.specs.declared.call.Call.{Call}
use Rattle.mm_types.specs.declared.call.Call.TheVariants.{Mmap, Munmap, Mprotect, Mremap, Touch, Brk, Mseal}
use Rattle.mm_types.specs.declared.call.Entry.{Entry}
use Rattle.mm_types.specs.declared.call.Reply.{Reply}
use Rattle.mm_types.specs.declared.call.Reply.TheVariants.{Addr, Zero, Refused, Grown}
use Rattle.mm_types.specs.declared.call.Seen.{Seen}
use Rattle.mm_types.specs.declared.call.Seen.TheVariants as reads
use Rattle.mm_types.specs.declared.config.Config.{Config}
use Rattle.trace_reader.specs.declared.trace.Op.{Op}
use Rattle.trace_reader.specs.declared.trace.TraceLine.{TraceLine}
use Rattle.area_rules.specs.Steps.{step, after}
use Rattle.area_rules.specs.Journals.{calls_by, version_of, IsReadAfter}
use Rattle.history.specs.declared.items.Content.{Content}
use Rattle.history.specs.declared.items.Content.TheVariants as contents
use Rattle.history.specs.declared.items.Item.{Item}
use Rattle.history.specs.Histories.{items_of, lines_of, read_as, asks_for, op_asked, is_call, call_made, gather}

-- the items of the entries of a journal that goes on from a version; an entry's version counts the entry itself
unfoldable pub entry_items : ℕ → List Entry → List Item
entry_items version [] = []
entry_items version (entry ∷ entries) =
    record { caller = entry.caller; version = version + 1; content = contents.Called entry.call entry.reply } ∷ entry_items (version + 1) entries

-- what a read found, as the content of an item
abbrev pub content_of : Seen → Content
content_of (reads.Fault version page access verdict) = contents.Fault page access verdict
content_of (reads.Maps version list) = contents.List list

-- the item of a caller's read
abbrev pub read_item : ℕ → Seen → Item
read_item caller read = record { caller = caller; version = version_of read; content = content_of read }

-- the items of a caller's log
unfoldable pub log_items : ℕ → List Seen → List Item
log_items caller log = map (read_item caller) log

-- the items of logs, of which the first is of this caller, the next of the next caller, and so on
unfoldable pub logs_items : ℕ → List (List Seen) → List Item
logs_items caller [] = []
logs_items caller (log ∷ logs) = log_items caller log ++ logs_items (caller + 1) logs

-- the history of a journal and of the logs of the callers from 0 on
unfoldable pub history_of : List Entry → List (List Seen) → List Item
history_of journal logs = gather (entry_items 0 journal ++ logs_items 0 logs)

-- what a caller did by this journal and its log, in the order of a history
unfoldable pub own_of : ℕ → List Entry → List Seen → List Item
own_of caller journal log = gather (items_of (entry_items 0 journal) caller ++ log_items caller log)

-- what items were asked to do
unfoldable pub ops_of : List Item → List Op
ops_of items = map (λ item. op_asked item.content) items

-- what lines ask for
abbrev pub asked : List TraceLine → List Op
asked lines = map (λ line. read_as line.op) lines

-- in a space that began with some entries, the operation of each entry behind them makes that call there
abbrev pub AreMade : Config → List Entry → List Entry → Type 0
AreMade config start journal = (place : ℕ) (entry : Entry) → slice_get journal place ≡ Some entry
    → call_made config (after config (start ++ take place journal)) (asks_for entry.call) ≡ Some entry.call

-- an entry is no touch, or one that grew
abbrev pub HasGrown : Entry → Type 0
HasGrown entry = grew entry.call entry.reply
  where
    grown : Reply → Type 0
    grown (Addr addr) = ⊥
    grown Zero = ⊥
    grown (Refused errno) = ⊥
    grown (Grown area index) = Unit {0}

    grew : Call → Reply → Type 0
    grew (Mmap args) reply = Unit {0}
    grew (Munmap addr len) reply = Unit {0}
    grew (Mprotect addr len prot) reply = Unit {0}
    grew (Mremap old old_len new_len flags new) reply = Unit {0}
    grew (Touch page access) reply = grown reply
    grew (Brk addr) reply = Unit {0}
    grew (Mseal addr len flags) reply = Unit {0}

-- each entry behind those that a space began with has the step's reply
pub record IsLegalAfter (config : Config) (start journal : List Entry) : Type 0 where
  pub replies : (place : ℕ) (entry : Entry) → slice_get journal place ≡ Some entry
      → entry.reply ≡ (step config (after config (start ++ take place journal)) entry.call).reply

-- a read is right behind the entries that a space began with, and its version counts from there
pub record IsReadRightAfter (config : Config) (start journal : List Entry) (read : Seen) : Type 0 where
  pub right : IsReadAfter config (start ++ take (version_of read) journal) read
  pub within : version_of read ≤ length journal

-- an item comes after a call where it has seen it, and where it is a call itself has a later place
abbrev pub ComesAfter : Item → Item → Type 0
ComesAfter said heard = said.version + (if is_call heard.content then 1 else 0) ≤ heard.version

-- the lines of callers from this one on, each with the item that answers it: a caller's items answer its lines in their order
abbrev pub answered_lines : {X : Type 0} → (ℕ → X → List Item) → List TraceLine → ℕ → List X → List (TraceLine × Item)
answered_lines own lines caller [] = []
answered_lines own lines caller (one ∷ others) = zip (lines_of lines caller) (own caller one) ++ answered_lines own lines (caller + 1) others

-- where a line names a line, what was done for it comes after what was done for that one
abbrev pub ComeAfterNamed : List (TraceLine × Item) → Type 0
ComeAfterNamed answered = (heard said : TraceLine × Item) → Contains answered heard → Contains answered said
    → heard.0.after ≡ Some said.0.number → ComesAfter said.1 heard.1

-- so of what callers did by this journal and their logs
abbrev pub AreTold : List TraceLine → List Entry → List (List Seen) → Type 0
AreTold lines journal logs = ComeAfterNamed (answered_lines (λ caller log. own_of caller journal log) lines 0 logs)

-- A finished run of the lines of a trace by so many callers, in a space that began with some entries: behind these the journal is legal and
-- the operation of each entry makes it there, there is a log for each caller whose reads are right in the journal, what each caller did is
-- its lines, in order, what a line names was done before, and nobody else did anything or has a line.
pub record IsRun (config : Config) (start : List Entry) (lines : List TraceLine) (callers : ℕ) (journal : List Entry) (logs : List (List Seen)) : Type 0 where
  pub legal : IsLegalAfter config start journal
  pub made : AreMade config start journal
  pub all : length logs ≡ callers
  pub right : (caller : ℕ) (log : List Seen) → slice_get logs caller ≡ Some log → All (IsReadRightAfter config start journal) log
  pub done : (caller : ℕ) (log : List Seen) → slice_get logs caller ≡ Some log → ops_of (own_of caller journal log) ≡ asked (lines_of lines caller)
  pub told : AreTold lines journal logs
  pub others : (caller : ℕ) → callers ≤ caller → calls_by caller journal ≡ []
  pub no_lines : (caller : ℕ) → callers ≤ caller → lines_of lines caller ≡ []

-- where an item stands in a history, as one number, where callers have 32 bits: by version, then a call, and then the reads by caller
abbrev pub place_key : Item → ℕ
place_key item = item.version * 2 ^ 33 + (if is_call item.content then 0 else item.caller + 1)

-- when it stands in a history, whoever did it: by version, then a call, and then the reads
abbrev pub time_key : Item → ℕ
time_key item = item.version * 2 + (if is_call item.content then 0 else 1)
