-- For `lock_page`: what was tried at the slot that the walk found, or that it found none, is told of the page.
use Rattle.std.proofs.Common.{ℕ, ◌≡◌, ◌+◌, ◌∙◌, length, Option, Some, None, Result, Ok, Err, MatchResult, refl, sym, ap, subst, arith}
use Rattle.std.proofs.lemmas.List.{take_all}
use Rattle.std.specs.Option.{option_map}
use Rattle.mm_types.specs.declared.area.Record.{Record}
use Rattle.mm_types.specs.declared.slot.Slot.{Slot}
use Rattle.lock_core.specs.declared.stage.Stage.TheVariants.{Out}
use Rattle.vma_lock.specs.declared.view.View.{View}
use Rattle.node_slots.specs.declared.view.ShownTree.{ShownTree}
use Rattle.node_slots.specs.declared.view.NodeView.{NodeView}
use Rattle.node_slots.specs.Views.{root_at, close_at}
use Rattle.maple_read.specs.Walks.{shown_slot}
use Rattle.fault_path.specs.declared.fast.Miss.{Miss}
use Rattle.fault_path.specs.declared.fast.Miss.TheVariants.{NoArea, Marked, Elsewhere}
use Rattle.fault_path.specs.Faults.{IsPaired, IsUnpaired, IsFound, IsMiss}
use Rattle.fault_path.specs.Locking.{GoesOn, IsLocked, IsPairedNow, LocksSlot, MissesSlot}

-- the tree that was loaded is the last one that the closed walker loaded
pub last_is : (shown : ShownTree) (opened loaded walked closed : NodeView) (reads : ℕ) → loaded ≡ root_at opened shown
    → walked ≡ record loaded { words = loaded.words + reads } → closed ≡ close_at walked → closed.last ≡ Some shown
last_is shown opened loaded walked closed reads load walk close =
    ap (λ (v : NodeView). v.last) close ∙ ap (λ (v : NodeView). v.last) walk ∙ ap (λ (v : NodeView). v.last) load

-- the walker still has the tree of its snapshot after the walk, which pairs the slot that the walk found with the page
pub paired_now : (page : ℕ) (slot : Slot) (found : Option Slot) (shown : ShownTree) (loaded walked : NodeView) (reads : ℕ) → loaded.snapshot ≡ Some shown
    → walked ≡ record loaded { words = loaded.words + reads } → option_map (λ (s : Slot). s.0) found ≡ shown_slot page shown → found ≡ Some slot
    → IsPairedNow page slot.0 walked
paired_now page slot found shown loaded walked reads snapshot walk told is = record {
  shown = shown;
  snapshot = ap (λ (v : NodeView). v.snapshot) walk ∙ snapshot;
  pair = sym told ∙ ap (option_map (λ (s : Slot). s.0)) is;
}

-- the tree pairs the slot that the walk found with the page
pub paired : (page : ℕ) (slot : Slot) (found : Option Slot) (shown : ShownTree) (closed : NodeView) → closed.last ≡ Some shown
    → option_map (λ (s : Slot). s.0) found ≡ shown_slot page shown → found ≡ Some slot → IsPaired page slot.0 closed
paired page slot found shown closed last walk is = record {
  shown = shown;
  loaded = last;
  pair = sym walk ∙ ap (option_map (λ (s : Slot). s.0)) is;
}

-- the tree pairs no slot with the page, where the walk found none
pub unpaired : (page tree : ℕ) (found : Option Slot) (shown : ShownTree) (closed : NodeView) → closed.last ≡ Some shown → shown.root.tree ≡ tree
    → option_map (λ (s : Slot). s.0) found ≡ shown_slot page shown → found ≡ None → IsUnpaired page tree closed
unpaired page tree found shown closed last number walk is = record {
  shown = shown;
  loaded = last;
  number = number;
  none = sym walk ∙ ap (option_map (λ (s : Slot). s.0)) is;
}

-- what the answer of a lock at a page tells
abbrev pub Tells : ℕ → View → View → NodeView → Result Record Miss → Type 0
Tells page old new closed answer = MatchResult answer (λ area. IsLocked area new × IsFound page area old new closed)
    (λ miss. (new.stage ≡ Out) × IsMiss page old new closed miss)

-- the slot was tried
pub tried : (page slot : ℕ) (old new : View) (closed : NodeView) (answer : Result Record Miss) → IsPaired page slot closed
    → MatchResult answer (λ area. IsLocked area new × LocksSlot slot page area old new) (λ miss. (new.stage ≡ Out) × MissesSlot slot page old new miss)
    → Tells page old new closed answer
tried page slot old new closed (Ok area) pair is = (
  is.0,
  record { slot = slot; row = is.1.row; paired = pair; reads = is.1.reads; holds = is.1.holds },
)
tried page slot old new closed (Err (NoArea tree)) pair is = absurd (is.1)
tried page slot old new closed (Err (Marked seq)) pair is = (is.0, record { slot = slot; paired = pair; tries = is.1 })
tried page slot old new closed (Err (Elsewhere row)) pair is = (
  is.0,
  record { slot = slot; paired = pair; reads = is.1.0; lacks = is.1.1 },
)

-- no slot was tried: the reader is as it was, and has no mark
pub untried : (page tree : ℕ) (old new : View) (closed : NodeView) → old.stage ≡ Out → new ≡ old → IsUnpaired page tree closed
    → Tells page old new closed (Err (NoArea tree))
untried page tree old new closed free same none = (ap (λ (v : View). v.stage) same ∙ free, record { unpaired = none; untouched = same })

-- a reader that is as it was
pub stays : (old new : View) → new ≡ old → GoesOn old new
stays old new same = subst (λ (v : View). GoesOn old v) (sym same) (record {
  caller = refl;
  config = refl;
  turn = refl;
  legal = λ legal. legal;
  later = take_all (length old.seen) old.seen (omega arith);
  own = λ caller turn. refl;
})
