-- For `walk`: from the loaded root to the slot.
use Rattle.std.proofs.Common.{ℕ, suc, ◌≡◌, ◌<◌, ◌≤◌, ◌+◌, ◌-◌, ◌*◌, Bool, true, false, List, [], ◌∷◌, length, All, Option, Some, None, refl, sym, ap, subst, ◌∙◌, arith, inl, inr}
use Rattle.std.proofs.lemmas.Bool.{cases_lt, lt-ltb}
use Rattle.std.proofs.lemmas.List.{length-replicate}
use Rattle.std.specs.Option.{option_map, option_and_then}
use Rattle.grace_core.specs.Core as grace
use Rattle.grace_core.specs.Core.{has_row}
use Rattle.maple_node.specs.declared.item.NodeItem.{NodeItem}
use Rattle.maple_node.specs.declared.root.Root.{Root}
use Rattle.maple_node.specs.Nodes.{Ascends}
use Rattle.maple_node.specs.Levels.{at_of, items_at, item_at, IsTower}
use Rattle.maple_node.specs.Trees.{tree_of, entries_of, tree_rows, IsFirst, IsLayout}
use Rattle.maple_node.proofs.Trees.{first-entries, entries-ascend}
use Rattle.node_slots.specs.declared.view.ShownTree.{ShownTree}
use Rattle.node_slots.specs.declared.view.NodeView.{NodeView}
use Rattle.node_slots.specs.Trees.{shown_rows, grace_tree, IsShown}
use Rattle.node_slots.proofs.Writers.{times_same}
use Rattle.maple_read.specs.Walks.{HasLoaded, HasNode, shown_slot}
use Rattle.maple_read.proofs.Items.{item_at-first, item_at-later}
use Rattle.maple_read.proofs.Descent.{Reached, at_root, to_child, no_child, at_leaf, top-long}
use Rattle.maple_read.proofs.Pairs.{slot_in, slot_from-entry}
use Rattle.maple_read.proofs.Reading.{read_at, read-none, read-more, one_shown}

-- the entries of a shown tree
abbrev pub entries_in : ShownTree → List NodeItem
entries_in shown = entries_of (at_of shown.words) (tree_of (at_of shown.words) shown.root)

-- a row is that of the node that has a page, where some node so many levels above the leaves has it
abbrev pub IsAt : ShownTree → ℕ → ℕ → ℕ → Type 0
IsAt shown page up row = let at = at_of shown.words in let tree = tree_of at shown.root in
    Reached at tree.top.end (entries_in shown) (tree_rows at tree) page up row

-- the rows of a tree that is shown are in the rows of the grace protocol
pub row_has : (shown : ShownTree) (page up row : ℕ) → IsAt shown page up row → has_row (grace_tree shown) row ≡ true
unfolding shown_rows
row_has shown page up row at =
    let rows = tree_rows (at_of shown.words) (tree_of (at_of shown.words) shown.root) in
    let some = at.here in
    lt-ltb 0 (grace.times row rows) (omega (arith, some, times_same row rows))

-- so the row is that of a node
pub node_at : (view : NodeView) (root : Root) (page up row : ℕ) → HasLoaded view root
    → ((shown : ShownTree) → view.snapshot ≡ Some shown → IsAt shown page up row) → HasNode view row
node_at view root page up row loaded at =
    let here = at loaded.shown loaded.snapshot in
    record { shown = loaded.shown; snapshot = loaded.snapshot; has = row_has loaded.shown page up row here; long = here.long }

-- what is so of tree 0, and of each later tree
pub record Loaded (shown : ShownTree) (slots : ℕ) : Type 0 where
  pub tall : 1 ≤ shown.root.height
  pub tower : 2 ≤ shown.root.height → let at = at_of shown.words in let tree = tree_of at shown.root in
      IsTower at tree.top.end 0 tree.height (tree.top ∷ [])
  pub long : length (at_of shown.words shown.root.row.0) ≡ 32
  pub ascends : Ascends 0 (entries_in shown)
  pub numbered : All (λ entry. entry.word ≤ slots) (entries_in shown)

first_loaded : (shown : ShownTree) (slots : ℕ) → IsFirst (at_of shown.words) shown.root → Loaded shown slots
first_loaded shown slots first =
    let at = at_of shown.words in
    let none : entries_in shown ≡ [] = first-entries at shown.root first in
    let tall : shown.root.height ≡ 1 = ap (λ (r : Root). r.height) first.named in
    record {
      tall = omega arith;
      tower = λ inner. absurd (omega (arith, tall));
      long = ap (λ (r : Root). length (at r.row.0)) first.named ∙ ap length first.words ∙ length-replicate {A = ℕ} 32 0;
      ascends = subst (λ (xs : List NodeItem). Ascends 0 xs) (sym none) tt;
      numbered = subst (λ (xs : List NodeItem). All (λ (entry : NodeItem). entry.word ≤ slots) xs) (sym none) (λ k d low. absurd (omega arith));
    }

later_loaded : (shown : ShownTree) (slots : ℕ) → IsLayout (at_of shown.words) slots (tree_of (at_of shown.words) shown.root)
    → Loaded shown slots
later_loaded shown slots layout =
    let at = at_of shown.words in
    let tree = tree_of at shown.root in
    record {
      tall = layout.tall;
      tower = λ inner. layout.tower;
      long = top-long at tree.top.end tree.height tree.top layout.tall layout.tower;
      ascends = entries-ascend at slots tree layout;
      numbered = layout.numbered;
    }

pub is_loaded : (slots : ℕ) (shown : ShownTree) → IsShown slots shown → Loaded shown slots
is_loaded slots shown is = elim (cases_lt 0 shown.root.tree) [
  | inl some ↦ later_loaded shown slots (is.tree.later some)
  | inr none ↦ first_loaded shown slots (is.tree.first (omega arith))
]

-- the walk begins at the root
pub begins : (view : NodeView) (root : Root) (page : ℕ) → HasLoaded view root → (shown : ShownTree) → view.snapshot ≡ Some shown
    → IsAt shown page (root.height - 1) root.row.0
begins view root page loaded shown shows =
    let one : loaded.shown ≡ shown = one_shown view loaded.shown shown loaded.snapshot shows in
    let is = is_loaded view.size.slots loaded.shown loaded.layout in
    let at = at_of loaded.shown.words in
    let tree = tree_of at loaded.shown.root in
    let here : IsAt loaded.shown page (loaded.shown.root.height - 1) loaded.shown.root.row.0 =
    at_root at tree.top.end tree.height page tree.top is.tall is.tower is.long in
    subst (λ (s : ShownTree). IsAt s page (root.height - 1) root.row.0) one
    (subst (λ (r : Root). IsAt loaded.shown page (r.height - 1) r.row.0) loaded.root_is here)

-- the value of which something is made
pub record Made {A : Type 0} (f : A → ℕ) (o : Option A) (n : ℕ) : Type 0 where
  pub one : A
  pub is : o ≡ Some one
  pub gives : f one ≡ n

pub made : {A : Type 0} (f : A → ℕ) (o : Option A) (n : ℕ) → option_map f o ≡ Some n → Made f o n
made f None n is = absurd (cc)
made f (Some x) n is = record { one = x; is = refl; gives = cc }

pub made-none : {A : Type 0} (f : A → ℕ) (o : Option A) → option_map f o ≡ None → o ≡ None
made-none f None is = refl
made-none f (Some x) is = absurd (cc)

-- it goes on at the child that has the page
pub goes_on : (shown : ShownTree) (page up next row word row' : ℕ) → IsAt shown page up row → next + 1 ≡ up
    → option_map (λ item. item.word) (item_at page (items_at (at_of shown.words) false row)) ≡ Some word → row' ≡ word → IsAt shown page next row'
goes_on shown page up next row word row' at level found same =
    let words = at_of shown.words in
    let tree = tree_of words shown.root in
    let child = made (λ (item : NodeItem). item.word) (item_at page (items_at words false row)) word found in
    let levels : up ≡ suc next = omega arith in
    let from : IsAt shown page (suc next) row = subst (λ n. IsAt shown page n row) levels at in
    let down : IsAt shown page next child.one.word = to_child words tree.top.end (entries_in shown) (tree_rows words tree) page next row child.one from child.is in
    subst (λ n. IsAt shown page next n) (child.gives ∙ sym same) down

-- the slot of a tree is the one that the entry's word tells
pub slot-entry : (view : NodeView) (root : Root) (page : ℕ) → HasLoaded view root → (shown : ShownTree) → view.snapshot ≡ Some shown
    → shown_slot page shown ≡ option_and_then (λ item. slot_in item.word) (item_at page (entries_in shown))
slot-entry view root page loaded shown shows =
    let one : loaded.shown ≡ shown = one_shown view loaded.shown shown loaded.snapshot shows in
    let is = is_loaded view.size.slots loaded.shown loaded.layout in
    subst (λ (s : ShownTree). shown_slot page s ≡ option_and_then (λ (item : NodeItem). slot_in item.word) (item_at page (entries_in s))) one
    (slot_from-entry page 0 (entries_in loaded.shown) is.ascends (omega arith))

-- no pair has the page where no child has it
pub none_inner : (view : NodeView) (root : Root) (page up next row : ℕ) → HasLoaded view root → (shown : ShownTree) → view.snapshot ≡ Some shown
    → IsAt shown page up row → next + 1 ≡ up
    → option_map (λ item. item.word) (item_at page (items_at (at_of shown.words) false row)) ≡ None → shown_slot page shown ≡ None
none_inner view root page up next row loaded shown shows at level found =
    let words = at_of shown.words in
    let tree = tree_of words shown.root in
    let none = made-none (λ (item : NodeItem). item.word) (item_at page (items_at words false row)) found in
    let levels : up ≡ suc next = omega arith in
    let from : IsAt shown page (suc next) row = subst (λ n. IsAt shown page n row) levels at in
    let past : item_at page (entries_in shown) ≡ None = no_child words tree.top.end (entries_in shown) (tree_rows words tree) page next row from none in
    slot-entry view root page loaded shown shows ∙ ap (option_and_then (λ (item : NodeItem). slot_in item.word)) past

-- the word of the entry that has the page
pub entry_word : (shown : ShownTree) (page up row : ℕ) (word : Option ℕ) → IsAt shown page up row → up ≡ 0
    → option_map (λ item. item.word) (item_at page (items_at (at_of shown.words) true row)) ≡ word
    → option_map (λ item. item.word) (item_at page (entries_in shown)) ≡ word
entry_word shown page up row word at level found =
    let words = at_of shown.words in
    let tree = tree_of words shown.root in
    let from : IsAt shown page 0 row = subst (λ n. IsAt shown page n row) level at in
    ap (option_map (λ (item : NodeItem). item.word)) (sym (at_leaf words tree.top.end (entries_in shown) (tree_rows words tree) page row from)) ∙ found

-- a value by the word of an item
by_word : (o : Option NodeItem) → option_and_then (λ item. slot_in item.word) o ≡ option_and_then slot_in (option_map (λ item. item.word) o)
by_word None = refl
by_word (Some item) = refl

-- the slot that it tells is that of the tree
pub slot_told : (view : NodeView) (root : Root) (page up row : ℕ) (word : Option ℕ) → HasLoaded view root → (shown : ShownTree)
    → view.snapshot ≡ Some shown → IsAt shown page up row → up ≡ 0
    → option_map (λ item. item.word) (item_at page (items_at (at_of shown.words) true row)) ≡ word
    → shown_slot page shown ≡ option_and_then slot_in word
slot_told view root page up row word loaded shown shows at level found =
    slot-entry view root page loaded shown shows ∙ by_word (item_at page (entries_in shown))
    ∙ ap (option_and_then slot_in) (entry_word shown page up row word at level found)

-- what holds of each item holds of the one that has a page
of_found : (P : NodeItem → Type 0) (page : ℕ) (xs : List NodeItem) (item : NodeItem) → All P xs → item_at page xs ≡ Some item → P item
of_found P page [] item all is = absurd (cc)
of_found P page (x ∷ xs) item all is = elim (cases_lt page x.end) as (λ _. P item) [
  | inl within ↦ let same = sym (item_at-first page x xs within) ∙ is in
      let e : x ≡ item = cc in
      subst P e (all 0 x (omega arith))
  | inr past ↦ of_found P page xs item (λ k d low. all (suc k) d (omega arith)) (sym (item_at-later page x xs past) ∙ is)
]

-- and the slot is one of the table's
pub slot_fits : (view : NodeView) (root : Root) (page up row word : ℕ) → HasLoaded view root
    → ((shown : ShownTree) → view.snapshot ≡ Some shown → IsAt shown page up row) → up ≡ 0
    → ((shown : ShownTree) → view.snapshot ≡ Some shown
    → option_map (λ item. item.word) (item_at page (items_at (at_of shown.words) true row)) ≡ Some word)
    → word ≤ view.size.slots
slot_fits view root page up row word loaded at level found =
    let shown = loaded.shown in
    let is = is_loaded view.size.slots shown loaded.layout in
    let entry = made (λ (item : NodeItem). item.word) (item_at page (entries_in shown)) word
    (entry_word shown page up row (Some word) (at shown loaded.snapshot) level (found shown loaded.snapshot)) in
    subst (λ n. n ≤ view.size.slots) entry.gives
    (of_found (λ (item : NodeItem). item.word ≤ view.size.slots) page (entries_in shown) entry.one is.numbered entry.is)

-- a child's row is one that exists
pub row_fits : (view : NodeView) (root : Root) (page up next row word : ℕ) → HasLoaded view root
    → ((shown : ShownTree) → view.snapshot ≡ Some shown → IsAt shown page up row) → next + 1 ≡ up
    → ((shown : ShownTree) → view.snapshot ≡ Some shown
    → option_map (λ item. item.word) (item_at page (items_at (at_of shown.words) false row)) ≡ Some word)
    → word < view.size.rows
row_fits view root page up next row word loaded at level found =
    let shown = loaded.shown in
    let down : IsAt shown page next word =
    goes_on shown page up next row word word (at shown loaded.snapshot) level (found shown loaded.snapshot) refl in
    loaded.exist word (row_has shown page next word down)

-- a walk so far: the row is that of the node that has the page, so many levels down from above the root
pub record Walks (old now : NodeView) (root : Root) (page depth row : ℕ) : Type 0 where
  pub at : (shown : ShownTree) → old.snapshot ≡ Some shown → IsAt shown page (root.height - depth) row
  pub reads : ℕ
  pub few : reads ≤ 11 * (depth - 1)
  pub view : now ≡ read_at old reads

-- it begins at the root
pub walks-none : (old : NodeView) (root : Root) (page : ℕ) → HasLoaded old root → Walks old old root page 1 root.row.0
walks-none old root page loaded = record { at = begins old root page loaded; reads = 0; few = omega arith; view = read-none old }

-- each row is that of a node
pub walks-node : (old now : NodeView) (root : Root) (page depth row : ℕ) → HasLoaded old root → Walks old now root page depth row → HasNode now row
walks-node old now root page depth row loaded walks =
    let node = node_at old root page (root.height - depth) row loaded walks.at in
    record { shown = node.shown; snapshot = ap (λ (v : NodeView). v.snapshot) walks.view ∙ node.snapshot; has = node.has; long = node.long }

-- what was found in a node
abbrev pub Finds : NodeView → Bool → ℕ → ℕ → Option ℕ → Type 0
Finds now leaf page row word = (shown : ShownTree) → now.snapshot ≡ Some shown
    → option_map (λ item. item.word) (item_at page (items_at (at_of shown.words) leaf row)) ≡ word

-- the same, in the snapshot of before
found_before : (old now : NodeView) (root : Root) (page depth row : ℕ) (leaf : Bool) (word : Option ℕ) → Walks old now root page depth row
    → Finds now leaf page row word → Finds old leaf page row word
found_before old now root page depth row leaf word walks finds =
    λ shown is. finds shown (ap (λ (v : NodeView). v.snapshot) walks.view ∙ is)

-- a level down
pub walks-more : (old now new : NodeView) (root : Root) (page depth next row word row' : ℕ) → Walks old now root page depth row → 1 ≤ depth
    → depth < root.height → next ≡ depth + 1 → Finds now false page row (Some word) → row' ≡ word
    → (reads : ℕ) × (3 * reads ≤ 35) × (new ≡ read_at now reads) → Walks old new root page next row'
walks-more old now new root page depth next row word row' walks some more is finds same read = record {
  at = λ shown shows. goes_on shown page (root.height - depth) (root.height - next) row word row' (walks.at shown shows) (omega arith)
      (found_before old now root page depth row false (Some word) walks finds shown shows) same;
  reads = walks.reads + read.0;
  few = let few = walks.few in let last = read.1 in omega arith;
  view = read-more old now new walks.reads read.0 walks.view read.2;
}

-- the row that was found exists
pub child_fits : (old now : NodeView) (root : Root) (page depth row word : ℕ) → HasLoaded old root → Walks old now root page depth row
    → depth < root.height → Finds now false page row (Some word) → word < old.size.rows
child_fits old now root page depth row word loaded walks more finds =
    row_fits old root page (root.height - depth) (root.height - (depth + 1)) row word loaded walks.at (omega arith)
    (found_before old now root page depth row false (Some word) walks finds)

-- and so does the slot
pub entry_fits : (old now : NodeView) (root : Root) (page depth row word : ℕ) → HasLoaded old root → Walks old now root page depth row
    → root.height ≤ depth → Finds now true page row (Some word) → word ≤ old.size.slots
entry_fits old now root page depth row word loaded walks last finds =
    slot_fits old root page (root.height - depth) row word loaded walks.at (omega arith)
    (found_before old now root page depth row true (Some word) walks finds)

-- how `walk` ends
pub record Ends (old new : NodeView) (page : ℕ) (answer : Option ℕ) : Type 0 where
  pub slot : (shown : ShownTree) → old.snapshot ≡ Some shown → answer ≡ shown_slot page shown
  pub view : (reads : ℕ) × (reads ≤ 105) × (new ≡ read_at old reads)

-- the tree has at most nine levels
low : (view : NodeView) (root : Root) → HasLoaded view root → root.height ≤ 9
low view root loaded = subst (λ (r : Root). r.height ≤ 9) loaded.root_is loaded.layout.low

-- and at least one
tall : (view : NodeView) (root : Root) → HasLoaded view root → 1 ≤ root.height
tall view root loaded =
    subst (λ (r : Root). 1 ≤ r.height) loaded.root_is (is_loaded view.size.slots loaded.shown loaded.layout).tall

-- with none where no child has the page
pub ends-inner : (old now new : NodeView) (root : Root) (page depth row : ℕ) → HasLoaded old root → Walks old now root page depth row → 1 ≤ depth
    → depth < root.height → Finds now false page row None → (reads : ℕ) × (3 * reads ≤ 35) × (new ≡ read_at now reads) → Ends old new page None
ends-inner old now new root page depth row loaded walks some more finds read = record {
  slot = λ shown shows. sym (none_inner old root page (root.height - depth) (root.height - (depth + 1)) row loaded shown shows (walks.at shown shows)
      (omega arith) (found_before old now root page depth row false None walks finds shown shows));
  view = (
    walks.reads + read.0,
    let few = walks.few in let last = read.1 in let levels = low old root loaded in omega arith,
    read-more old now new walks.reads read.0 walks.view read.2,
  );
}

-- and with what the entry's word tells
pub ends-leaf : (old now new : NodeView) (root : Root) (page depth row : ℕ) (word slot : Option ℕ) → HasLoaded old root
    → Walks old now root page depth row → root.height ≤ depth → (1 ≤ root.height → depth ≤ root.height) → Finds now true page row word
    → (reads : ℕ) × (2 * reads ≤ 34) × (new ≡ read_at now reads) → slot ≡ option_and_then slot_in word → Ends old new page slot
ends-leaf old now new root page depth row word slot loaded walks last until finds read told = record {
  slot = λ shown shows. told ∙ sym (slot_told old root page (root.height - depth) row word loaded shown shows (walks.at shown shows)
      (omega arith) (found_before old now root page depth row true word walks finds shown shows));
  view = (
    walks.reads + read.0,
    let few = walks.few in let more = read.1 in let levels = low old root loaded in let end = until (tall old root loaded) in omega arith,
    read-more old now new walks.reads read.0 walks.view read.2,
  );
}
