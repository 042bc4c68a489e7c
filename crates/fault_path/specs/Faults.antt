-- Faults without the lock: what a caller's seats did in a call, and what its answer rests on. A view of a seat before the call is
-- `old`, one after it is `new`, and `walked` is what the seat at the table of nodes knows after it.
use Rattle.std.specs.Prelude.{ℕ, ◌≡◌, ◌≢◌, ◌≤◌, ◌+◌, ◌⊎◌, true, false, List, [], ◌∷◌, length, Contains, Some, None}
use Rattle.mm_types.specs.declared.area.Access.{Access}
use Rattle.mm_types.specs.declared.area.Record.{Record}
use Rattle.mm_types.specs.declared.area.Verdict.{Verdict}
use Rattle.mm_types.specs.declared.area.Verdict.TheVariants.{Served, MapErr}
use Rattle.mm_types.specs.Packed.{unpacked}
use Rattle.area_list.specs.Areas.{has_page}
use Rattle.area_rules.specs.Growing.{grows}
use Rattle.area_rules.specs.Verdicts.{area_verdict, verdict}
use Rattle.lock_core.specs.Rows.{is_detached}
use Rattle.lock_core.specs.Facts.{list_after}
use Rattle.maple_read.specs.Walks.{shown_slot}
use Rattle.vma_lock.specs.declared.view.View.{View}
use Rattle.vma_lock.specs.Seats.{lock_view}
use Rattle.node_slots.specs.declared.view.ShownTree.{ShownTree}
use Rattle.node_slots.specs.declared.view.NodeView.{NodeView}
use Rattle.fault_path.specs.declared.fast.Miss.{Miss}
use Rattle.fault_path.specs.declared.fast.Miss.TheVariants.{NoArea, Marked, Elsewhere}
use Rattle.fault_path.specs.declared.fast.Fast.{Fast}
use Rattle.fault_path.specs.declared.fast.Fast.TheVariants as fast
use Rattle.fault_path.specs.Passes.{PassView, pass_config, seen_by, walker}

-- One walk was made: one root was loaded, and at most 105 words of rows.
pub record WalksOnce (old new : NodeView) : Type 0 where
  pub walks : new.walks ≡ old.walks + 1
  pub words : new.words ≤ old.words + 105

-- The tree that was loaded last pairs this slot with the page.
pub record IsPaired (page slot : ℕ) (walked : NodeView) : Type 0 where
  pub shown : ShownTree
  pub loaded : walked.last ≡ Some shown
  pub pair : shown_slot page shown ≡ Some slot

-- The tree that was loaded last has this number, and pairs no slot with the page.
pub record IsUnpaired (page tree : ℕ) (walked : NodeView) : Type 0 where
  pub shown : ShownTree
  pub loaded : walked.last ≡ Some shown
  pub number : shown.root.tree ≡ tree
  pub none : shown_slot page shown ≡ None

-- One slot was tried: one add found this lock sequence in it, one look after the add found this sequence while the slot was held,
-- and so many words of the slot's row were read.
pub record TriesOnce (slot lock_seq seq words : ℕ) (old new : View) : Type 0 where
  pub added : new.trace.added ≡ Some (slot, lock_seq)
  pub first : new.trace.first ≡ Some (record { seq = seq; seen = new.seen; held = true })
  pub adds : new.trace.adds ≡ old.trace.adds + 1
  pub looks : new.trace.looks ≡ old.trace.looks + 1
  pub fields : new.trace.fields ≡ old.trace.fields + words

-- the last four words that a seat read, the first of them first
abbrev pub words_read : View → List ℕ
words_read view = view.trace.words.first ∷ view.trace.words.second ∷ view.trace.words.third ∷ view.trace.words.fourth ∷ []

-- A slot was validated: the look found another sequence than its lock sequence, and then its row was read, which has these words.
pub record ReadsSlot (slot : ℕ) (row : List ℕ) (old new : View) : Type 0 where
  pub lock_seq : ℕ
  pub seq : ℕ
  pub tries : TriesOnce slot lock_seq seq 4 old new
  pub apart : seq ≢ lock_seq
  pub words : words_read new ≡ row

-- a row is detached, or the area that it holds lacks the page
abbrev pub Lacks : ℕ → List ℕ → Type 0
Lacks page row = (is_detached row ≡ true) ⊎ ((area : Record) × (unpacked row ≡ Some area) × (has_page area.span page ≡ false))

-- a row holds this area, which has the page
pub record HoldsPage (page : ℕ) (row : List ℕ) (area : Record) : Type 0 where
  pub holds : unpacked row ≡ Some area
  pub has : has_page area.span page ≡ true

-- No area: the tree that was loaded has this number and pairs no slot with the page, and no slot was tried.
pub record IsNoArea (page tree : ℕ) (old new : View) (walked : NodeView) : Type 0 where
  pub unpaired : IsUnpaired page tree walked
  pub untouched : new ≡ old

-- Marked: the tree that was loaded pairs a slot with the page, and both the add and the look found this sequence there.
pub record IsMarkedFault (page seq : ℕ) (old new : View) (walked : NodeView) : Type 0 where
  pub slot : ℕ
  pub paired : IsPaired page slot walked
  pub tries : TriesOnce slot seq seq 0 old new

-- Elsewhere: the tree that was loaded pairs a slot with the page, and the slot was validated, but its row lacks the page.
pub record IsElsewhere (page : ℕ) (row : List ℕ) (old new : View) (walked : NodeView) : Type 0 where
  pub slot : ℕ
  pub paired : IsPaired page slot walked
  pub reads : ReadsSlot slot row old new
  pub lacks : Lacks page row

-- the cause of a miss
abbrev pub IsMiss : ℕ → View → View → NodeView → Miss → Type 0
IsMiss page old new walked (NoArea tree) = IsNoArea page tree old new walked
IsMiss page old new walked (Marked seq) = IsMarkedFault page seq old new walked
IsMiss page old new walked (Elsewhere row) = IsElsewhere page row old new walked

-- Found: the tree that was loaded pairs a slot with the page, the slot was validated, and its row holds this area, which has
-- the page.
pub record IsFound (page : ℕ) (area : Record) (old new : View) (walked : NodeView) : Type 0 where
  pub slot : ℕ
  pub row : List ℕ
  pub paired : IsPaired page slot walked
  pub reads : ReadsSlot slot row old new
  pub holds : HoldsPage page row area

-- The area is one of the list after all of the journal that the pass has seen.
abbrev pub IsMember : Record → PassView → Type 0
IsMember area pass = Contains (list_after (pass_config pass) (seen_by pass)) area

-- Answered: the page was found in an area, of whose row the verdict is that of the area alone; and it is the verdict over the
-- list after all of the journal that the pass has seen, whose length is the version, where the fault grows no area. A page that no
-- area has is never answered.
pub record IsAnswer (page : ℕ) (access : Access) (answer : Verdict) (version : ℕ) (old new : PassView) : Type 0 where
  pub area : Record
  pub found : IsFound page area (lock_view old.reader) (lock_view new.reader) (walker new)
  pub gives : answer ≡ area_verdict (pass_config new).files page access area
  pub version_is : version ≡ length (seen_by new)
  pub right : answer ≡ verdict (pass_config new) (list_after (pass_config new) (seen_by new)) page access
  pub still : grows (pass_config new) (list_after (pass_config new) (seen_by new)) page access ≡ false
  pub mapped : answer ≢ MapErr
  pub serves : (other : Record) (index : ℕ) → answer ≡ Served other index → other ≡ area

-- what a pass missed at a page in a call
abbrev pub Misses : ℕ → PassView → PassView → Miss → Type 0
Misses page old new miss = IsMiss page (lock_view old.reader) (lock_view new.reader) (walker new) miss

-- what a fault without the lock gave
abbrev pub IsFast : ℕ → Access → PassView → PassView → Fast → Type 0
IsFast page access old new (fast.Answer answer version) = IsAnswer page access answer version old new
IsFast page access old new (fast.Miss miss) = Misses page old new miss
