-- For `lock_page`: what a walk between an open and a close of the pin tells.
use Rattle.std.proofs.Common.{ℕ, ◌≡◌, ◌<◌, ◌≤◌, ◌-◌, ◌∙◌, List, Option, Some, None, refl, sym, ap, subst, arith, cond, nat_eq, nat_lt, true, false, inl, inr}
use Rattle.std.specs.Option.{option_and_then}
use Rattle.std.proofs.lemmas.Bool.{cases_lt}
use Rattle.std.proofs.lemmas.Bool.Decides.{nat_tests}
use Rattle.node_slots.specs.declared.view.Size.{Size}
use Rattle.node_slots.specs.Plays.{RowsExist}
use Rattle.maple_node.specs.declared.item.NodeItem.{NodeItem}
use Rattle.maple_node.specs.declared.root.Root.{Root}
use Rattle.maple_node.specs.Levels.{item_at}
use Rattle.node_slots.specs.declared.view.ShownTree.{ShownTree}
use Rattle.node_slots.specs.declared.view.NodeView.{NodeView}
use Rattle.node_slots.specs.Trees.{IsShown}
use Rattle.node_slots.specs.Views.{root_at}
use Rattle.maple_read.specs.Walks.{shown_slot, HasLoaded}
use Rattle.maple_read.proofs.Pairs.{slot_in}
use Rattle.maple_read.proofs.Loaded.{is_loaded, slot-entry, entries_in}
use Rattle.area_list.proofs.Finding.{find_keeps}

-- a slot that an entry's word tells is below so many
slot_below : (slots slot word : ℕ) → word ≤ slots → slot_in word ≡ Some slot → slot < slots
slot_below slots slot word few is = elim (cases_lt 0 word) [
  | inl some ↦
      let test : nat_eq word 0 ≡ false = grind (arith, nat_tests) in
      let told : Some (word - 1) ≡ Some slot = subst (λ b. cond b None (Some (word - 1)) ≡ Some slot) test is in
      let same : word - 1 ≡ slot = cc in
      omega arith
  | inr none ↦
      let test : nat_eq word 0 ≡ true = grind (arith, nat_tests) in
      let told : None ≡ Some slot = subst (λ b. cond b None (Some (word - 1)) ≡ Some slot) test is in
      absurd (cc)
]

entry_below : (slots slot : ℕ) (page : ℕ) (entries : List NodeItem) (found : Option NodeItem) → item_at page entries ≡ found
    → ((item : NodeItem) → item_at page entries ≡ Some item → item.word ≤ slots)
    → option_and_then (λ item. slot_in item.word) found ≡ Some slot → slot < slots
entry_below slots slot page entries None at few is = absurd (cc)
entry_below slots slot page entries (Some item) at few is = slot_below slots slot item.word (few item at) is

-- the slot that a loaded tree pairs with a page is one of the table's
pub slot_within : (view : NodeView) (root : Root) (page slot : ℕ) (loaded : HasLoaded view root) → shown_slot page loaded.shown ≡ Some slot
    → slot < view.size.slots
slot_within view root page slot loaded is =
    let shown = loaded.shown in
    let numbered = (is_loaded view.size.slots shown loaded.layout).numbered in
    entry_below view.size.slots slot page (entries_in shown) (item_at page (entries_in shown)) refl
    (λ item at. find_keeps (λ (i : NodeItem). i.word ≤ view.size.slots) (λ (i : NodeItem). nat_lt page i.end) (entries_in shown) item numbered at)
    (sym (slot-entry view root page loaded shown loaded.snapshot) ∙ is)

-- the reader of a loaded root has loaded it
pub loaded_now : (opened loaded : NodeView) (root : Root) (shown : ShownTree) → shown.root ≡ root → IsShown opened.size.slots shown
    → RowsExist opened.size.rows shown → loaded ≡ root_at opened shown → HasLoaded loaded root
loaded_now opened loaded root shown same layout exist is = record {
  shown = shown;
  snapshot = ap (λ (v : NodeView). v.snapshot) is;
  root_is = same;
  layout = subst (λ (s : Size). IsShown s.slots shown) (sym (ap (λ (v : NodeView). v.size) is)) layout;
  exist = subst (λ (s : Size). RowsExist s.rows shown) (sym (ap (λ (v : NodeView). v.size) is)) exist;
}
