-- For `walk`: going down from the root of a tree to the leaf that has a page.
use Rattle.std.proofs.Common.{ℕ, zero, suc, ◌≡◌, ◌≤◌, ◌+◌, ◌-◌, Bool, true, false, List, [], ◌∷◌, ◌++◌, length, map, Some, None, refl, sym, ap, subst, ◌∙◌, arith, append-nil}
use Rattle.std.proofs.lemmas.Bool.Decides.{nat_tests}
use Rattle.std.specs.Option.{option_and_then}
use Rattle.maple_node.specs.declared.item.NodeItem.{NodeItem}
use Rattle.maple_node.specs.Nodes.{words_of_items, most}
use Rattle.maple_node.specs.Levels.{is_leaf, items_at, below, item_at, IsNode, level_of, IsTower, rows_below, times_among}
use Rattle.maple_node.proofs.Frames.{times-first, times-append}
use Rattle.maple_node.proofs.Packing.{length-leaf_words, length-inner_words}
use Rattle.maple_node.proofs.Places.{length-words_of}
use Rattle.maple_read.proofs.Items.{item_at-below, item_at-none, item_at-among, item_at-node}

-- the row of a node has 32 words
room : (leaf : Bool) (at : ℕ → List ℕ) (row : ℕ) → length (items_at at leaf row) ≤ most leaf → at row ≡ words_of_items leaf (items_at at leaf row) → length (at row) ≡ 32
room true at row few words =
    ap length words ∙ length-words_of true (items_at at true row) (omega (arith, few, length-leaf_words (items_at at true row)))
room false at row few words =
    ap length words ∙ length-words_of false (items_at at false row) (omega (arith, few, length-inner_words (items_at at false row)))

pub node-long : (at : ℕ → List ℕ) (leaf : Bool) (limit start : ℕ) (item : NodeItem) → IsNode at leaf limit start item → length (at item.word) ≡ 32
node-long at leaf limit start item node = room leaf at item.word node.most node.words

-- and so has that of the root
pub top-long : (at : ℕ → List ℕ) (limit height : ℕ) (top : NodeItem) → 1 ≤ height → IsTower at limit 0 height (top ∷ []) → length (at top.word) ≡ 32
unfolding IsTower
top-long at limit zero top tall tower = absurd (omega arith)
top-long at limit (suc up) top tall tower = node-long at (is_leaf (0 + up)) limit 0 top tower.0.0

-- A node with so many levels below it has a page where any node of its level has it.
pub record Reached (at : ℕ → List ℕ) (limit : ℕ) (entries : List NodeItem) (rows : List ℕ) (page up row : ℕ) : Type 0 where
  pub items : List NodeItem
  pub tower : 1 ≤ up → IsTower at limit 0 (suc up) items
  pub down : level_of at 0 (suc up) items ≡ entries
  pub found : item_at page (items_at at (is_leaf (0 + up)) row) ≡ item_at page (below at (is_leaf (0 + up)) items)
  pub here : 1 ≤ times_among row rows
  pub among : (other : ℕ) → 1 ≤ times_among other (rows_below at 0 (suc up) items) → 1 ≤ times_among other rows
  pub long : length (at row) ≡ 32

-- the root
pub at_root : (at : ℕ → List ℕ) (limit height page : ℕ) (top : NodeItem) → 1 ≤ height → (2 ≤ height → IsTower at limit 0 height (top ∷ []))
    → length (at top.word) ≡ 32
    → Reached at limit (level_of at 0 height (top ∷ [])) (rows_below at 0 height (top ∷ [])) page (height - 1) top.word
unfolding rows_below
at_root at limit zero page top tall tower long = absurd (omega arith)
at_root at limit (suc up) page top tall tower long =
    let level : up ≡ suc up - 1 = omega arith in
    subst (λ (n : ℕ). Reached at limit (level_of at 0 (suc up) (top ∷ [])) (rows_below at 0 (suc up) (top ∷ [])) page n top.word) level (record {
      items = top ∷ [];
      tower = λ some. tower (omega arith);
      down = refl;
      found = ap (item_at page) (sym (append-nil (items_at at (is_leaf (0 + up)) top.word)));
      here = times-first top.word (rows_below at 0 up (below at (is_leaf (0 + up)) (top ∷ [])));
      among = λ other some. some;
      long = long;
    })

-- the items of an inner node have nodes below them
inner : (up : ℕ) → is_leaf (0 + suc up) ≡ false
inner up = grind (arith, nat_tests)

-- the child that has the page
pub to_child : (at : ℕ → List ℕ) (limit : ℕ) (entries : List NodeItem) (rows : List ℕ) (page up row : ℕ) (child : NodeItem)
    → Reached at limit entries rows page (suc up) row → item_at page (items_at at false row) ≡ Some child
    → Reached at limit entries rows page up child.word
unfolding IsTower level_of rows_below
to_child at limit entries rows page up row child from is =
    let leaf = is_leaf (0 + up) in
    let next = below at (is_leaf (0 + suc up)) from.items in
    let tower = from.tower (omega arith) in
    let there : item_at page next ≡ Some child =
    sym from.found ∙ ap (λ (b : Bool). item_at page (items_at at b row)) (inner up) ∙ is in
    let node = item_at-node at leaf limit 0 page next child tower.1.0 there in
    let deep = rows_below at 0 up (below at leaf next) in
    let words = map (λ (item : NodeItem). item.word) in
    record {
      items = next;
      tower = λ some. tower.1;
      down = from.down;
      found = sym (item_at-below at leaf limit 0 page next tower.1.0
          ∙ ap (option_and_then (λ (item : NodeItem). item_at page (items_at at leaf item.word))) there);
      here = from.among child.word (let some = item_at-among page next child there in
          omega (
            arith,
            some,
            times-append child.word (words next) deep,
            times-append child.word (words from.items) (words next ++ deep),
          ));
      among = λ other some. from.among other (omega (arith, some, times-append other (words from.items) (words next ++ deep)));
      long = node-long at leaf limit node.0 child node.1;
    }

-- no entry has the page where no child has it
pub no_child : (at : ℕ → List ℕ) (limit : ℕ) (entries : List NodeItem) (rows : List ℕ) (page up row : ℕ)
    → Reached at limit entries rows page (suc up) row → item_at page (items_at at false row) ≡ None → item_at page entries ≡ None
unfolding IsTower level_of
no_child at limit entries rows page up row from is =
    let next = below at (is_leaf (0 + suc up)) from.items in
    let tower = from.tower (omega arith) in
    let none : item_at page next ≡ None = sym from.found ∙ ap (λ (b : Bool). item_at page (items_at at b row)) (inner up) ∙ is in
    sym (ap (item_at page) from.down) ∙ item_at-none at limit (suc up) page next tower.1 none

-- the entry of the leaf that has the page is the one of the tree
pub at_leaf : (at : ℕ → List ℕ) (limit : ℕ) (entries : List NodeItem) (rows : List ℕ) (page row : ℕ)
    → Reached at limit entries rows page 0 row → item_at page (items_at at true row) ≡ item_at page entries
unfolding level_of
at_leaf at limit entries rows page row from = from.found ∙ ap (item_at page) from.down
