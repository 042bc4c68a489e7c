-- For `root_of` and `root_with_gap`: the whole tree as a branch.
use Rattle.std.proofs.Common.{ℕ, zero, suc, ◌≡◌, ◌<◌, ◌≤◌, ◌+◌, ◌-◌, ◌^◌, Bool, true, false, List, [], ◌∷◌, ◌++◌, length, replicate, All, refl, sym, ap, subst, ◌∙◌, arith, inl, inr}
use Rattle.std.specs.Prelude.{nat_eq}
use Rattle.std.proofs.lemmas.Bool.{cases_lt}
use Rattle.std.proofs.lemmas.Bool.Decides.{nat_tests}
use Rattle.std.proofs.lemmas.List.Elements.{All-weaker, All-cons, All-nil}
use Rattle.maple_node.specs.declared.item.NodeItem.{NodeItem}
use Rattle.maple_node.specs.Nodes.{leaf_items, Ascends, gap_of}
use Rattle.maple_node.specs.Levels.{is_leaf, items_at, below, AllFrom, IsNode, level_of, IsTower}
use Rattle.maple_node.specs.Trees.{pairs_from, entries_of, ApartFrom}
use Rattle.maple_node.proofs.Trees.{limit_above}
use Rattle.maple_node.proofs.Levels.{below-ascends}
use Rattle.maple_node.proofs.ItemLists.{AllFrom-left, AllFrom-right}
use Rattle.node_slots.specs.declared.tree.Tree.{Tree as View}
use Rattle.node_slots.specs.declared.seats.NodeWriter.{NodeWriter}
use Rattle.node_slots.specs.Seats.{node_sight, row_count}
use Rattle.node_slots.specs.Built.{words_at, built, IsBuilt, IsWriters}
use Rattle.maple_gap.specs.declared.branch.Branch.{Branch}
use Rattle.maple_gap.specs.Internal.Searches.{IsUnder, IsBranch, with_gap, IsAnyBranch, IsRootOf}
use Rattle.maple_gap.proofs.Rows.{node_there, node_under}
use Rattle.maple_gap.proofs.Under.{entries_any}

-- nodes, under each of which all is so
split : (at : ℕ → List ℕ) (leaf : Bool) (limit : ℕ) (P : ℕ → NodeItem → Type 0) (start : ℕ) (items : List NodeItem) → AllFrom (IsNode at leaf limit) start items
    → AllFrom P start (below at leaf items) → AllFrom (λ s item. IsNode at leaf limit s item × AllFrom P s (items_at at leaf item.word)) start items
split at leaf limit P start [] nodes all = tt
split at leaf limit P start (x ∷ xs) nodes all =
    let here = items_at at leaf x.word in
    let others = below at leaf xs in
    let later : AllFrom P x.end others = subst (λ (p : ℕ). AllFrom P p others) nodes.0.until (AllFrom-right P start here others all) in
    ((nodes.0, AllFrom-left P start here others all), split at leaf limit P x.end xs nodes.1 later)

past_all : (start : ℕ) (items : List NodeItem) → Ascends start items → AllFrom (λ s item. s < item.end) start items
past_all start [] ascends = tt
past_all start (x ∷ xs) ascends = (ascends.0, past_all x.end xs ascends.1)

-- a tower, seen from above
tower_under : (at : ℕ → List ℕ) (limit level : ℕ) (items : List NodeItem) → Ascends 0 items → IsTower at limit 0 level items
    → AllFrom (IsUnder at limit level) 0 items
unfolding IsUnder IsTower
tower_under at limit zero items ascends tower = past_all 0 items ascends
tower_under at limit (suc level) items ascends tower =
    let e : 0 + level ≡ level = omega arith in
    let nodes = subst (λ (n : ℕ). AllFrom (IsNode at (is_leaf n) limit) 0 items) e tower.0 in
    let rest = subst (λ (n : ℕ). IsTower at limit 0 level (below at (is_leaf n) items)) e tower.1 in
    split at (is_leaf level) limit (IsUnder at limit level) 0 items nodes
    (tower_under at limit level (below at (is_leaf level) items) (below-ascends at (is_leaf level) limit 0 items nodes) rest)

-- words of entries have at most 33 bits
few_words : (writer : NodeWriter) (entries : List NodeItem) → All (λ entry. entry.word ≤ (node_sight writer).size.slots) entries
    → All (λ entry. entry.word ≤ 2 ^ 32) entries
few_words writer entries few =
    let size = ap (λ s. s.slots) writer.writer_state.kept.size_is in
    let bound = writer.writer_state.table.sized.few_slots in
    All-weaker (λ (entry : NodeItem). entry.word ≤ (node_sight writer).size.slots) (λ (entry : NodeItem). entry.word ≤ 2 ^ 32) (λ entry is. omega arith) entries few

-- the whole of a tree that was built is under its root
top_under : (writer : NodeWriter) (tree : View) → IsBuilt writer tree
    → IsUnder (words_at writer) (built writer tree).top.end tree.height 0 (built writer tree).top
top_under writer tree made =
    let top = (built writer tree).top in
    let past = limit_above (words_at writer) (node_sight writer).size.slots (built writer tree) made.layout in
    (tower_under (words_at writer) top.end tree.height (top ∷ []) (past, tt) made.layout.tower).0

top_node : (writer : NodeWriter) (tree : View) → IsBuilt writer tree
    → IsNode (words_at writer) (is_leaf (tree.height - 1)) (built writer tree).top.end 0 (built writer tree).top
top_node writer tree made =
    let tall = made.layout.tall in
    node_under (words_at writer) (built writer tree).top.end tree.height (tree.height - 1) 0 (built writer tree).top (omega arith) (top_under writer tree made)

-- tree 0 lists nothing
blank_at : (at : ℕ → List ℕ) → at 0 ≡ replicate 32 0 → items_at at true 0 ≡ []
unfolding leaf_items
blank_at at zeros = ap (λ (words : List ℕ). leaf_items words) zeros

blank_tree : (at : ℕ → List ℕ) (height root : ℕ) → height ≡ 1 → root ≡ 0 → at 0 ≡ replicate 32 0 → items_at at (is_leaf (height - 1)) root ≡ []
blank_tree at height root one none zeros =
    subst (λ (h : ℕ). items_at at (is_leaf (h - 1)) root ≡ []) (sym one)
    (subst (λ (r : ℕ). items_at at true r ≡ []) (sym none) (blank_at at zeros))

blank_entries : (at : ℕ → List ℕ) (height : ℕ) (top : NodeItem) → height ≡ 1 → top.word ≡ 0 → at 0 ≡ replicate 32 0
    → entries_of at (record { top = top; height = height }) ≡ []
unfolding level_of
blank_entries at height top one none zeros =
    ap (λ (h : ℕ). level_of at 0 h (top ∷ [])) one
    ∙ ap (λ (r : ℕ). items_at at true r ++ []) none
    ∙ ap (λ (xs : List NodeItem). xs ++ []) (blank_at at zeros)

-- the root lies in a row of the table
pub root_there : (writer : NodeWriter) (tree : View) → IsWriters writer tree → tree.root.0 < row_count writer
root_there writer tree is = elim is as (λ _. tree.root.0 < row_count writer) [
  | inl made ↦ node_there writer (is_leaf (tree.height - 1)) (built writer tree).top.end 0 (built writer tree).top (top_node writer tree made)
  | inr blank ↦
      let first = blank.root in
      let rows = blank.rows in
      omega arith
]

-- a tree without entries is one gap
pub gap_root : (writer : NodeWriter) (tree : View) (items : List NodeItem) → IsWriters writer tree
    → items ≡ items_at (words_at writer) (is_leaf (tree.height - 1)) tree.root.0 → length items ≡ 0
    → IsRootOf writer tree (record { place = record { start = 0; item = record { end = tree.limit.0; word = 0; gap = 0 } }; level = 0 })
unfolding IsUnder level_of
gap_root writer tree items is are none =
    let Goal : Type 0 = IsRootOf writer tree (record { place = record { start = 0; item = record { end = tree.limit.0; word = 0; gap = 0 } }; level = 0 }) in
    elim is as (λ _. Goal) [
      | inl made ↦
          let some = (top_node writer tree made).some in
          let same = ap (λ (xs : List NodeItem). length xs) are in
          absurd (omega arith)
      | inr blank ↦ record {
        branch = record { limit = 0; gap = 0; under = blank.some };
        begin = refl;
        limit = refl;
        low = omega arith;
        apart = (λ one gap. absurd (omega arith), tt);
        numbered = All-cons (λ (entry : NodeItem). entry.word ≤ 2 ^ 32) (record { end = tree.limit.0; word = 0; gap = 0 }) [] (omega arith) (All-nil (λ (entry : NodeItem). entry.word ≤ 2 ^ 32));
        pairs = sym (ap (pairs_from 0) (blank_entries (words_at writer) tree.height (built writer tree).top blank.height blank.root blank.words));
      }
    ]

-- and another one is what its root lists
pub whole_root : (writer : NodeWriter) (tree : View) (items : List NodeItem) (row : ℕ) → IsWriters writer tree
    → items ≡ items_at (words_at writer) (is_leaf (tree.height - 1)) tree.root.0 → (length items ≡ 0 → ⊥) → row ≡ tree.root.0
    → IsRootOf writer tree (record { place = record { start = 0; item = record { end = tree.limit.0; word = row; gap = 0 } }; level = tree.height })
whole_root writer tree items row is are some here =
    let At : NodeItem → Type 0 = λ x. IsRootOf writer tree (record { place = record { start = 0; item = x }; level = tree.height }) in
    elim is as (λ _. At (record { end = tree.limit.0; word = row; gap = 0 })) [
      | inl made ↦
          let at = words_at writer in
          let top = (built writer tree).top in
          let same = entries_any at tree.height 0 top made.layout.tall in
          let From : ℕ → NodeItem = λ e. record { end = e; word = top.word; gap = 0 } in
          let Told : ℕ → NodeItem = λ w. record { end = tree.limit.0; word = w; gap = 0 } in
          subst At (ap From made.limit ∙ ap Told (sym here)) (record {
            branch = record { limit = top.end; gap = top.gap; under = top_under writer tree made };
            begin = refl;
            limit = made.limit;
            low = omega arith;
            apart = subst (λ (es : List NodeItem). ApartFrom 1 es) (sym same) made.layout.apart;
            numbered = subst (λ (es : List NodeItem). All (λ entry. entry.word ≤ 2 ^ 32) es) (sym same)
                (few_words writer (entries_of at (built writer tree)) made.layout.numbered);
            pairs = ap (pairs_from 0) same;
          })
      | inr blank ↦
          let none = blank_tree (words_at writer) tree.height tree.root.0 blank.height blank.root blank.words in
          absurd (some (ap (λ (xs : List NodeItem). length xs) (are ∙ none)))
    ]

-- a branch that is an entry may tell any gap
pub any_entry : (at : ℕ → List ℕ) (branch : Branch) → IsAnyBranch at branch → branch.level ≡ 0 → IsBranch at branch
unfolding IsUnder
any_entry at branch is low =
    let item = branch.place.item in
    let start = branch.place.start in
    let under : IsUnder at is.limit 0 start (with_gap is.gap item) = subst (λ (n : ℕ). IsUnder at is.limit n start (with_gap is.gap item)) low is.under in
    record { limit = is.limit; under = subst (λ (n : ℕ). IsUnder at is.limit n start item) (sym low) under }

-- whether a node is a leaf, as its level tells
pub one_less : (level : ℕ) → 1 ≤ level → nat_eq level 1 ≡ is_leaf (level - 1)
one_less level above = elim (cases_lt level 2) as (λ _. nat_eq level 1 ≡ nat_eq (level - 1) 0) [
  | inl low ↦
      let a : nat_eq level 1 ≡ true = grind (arith, nat_tests) in
      let b : nat_eq (level - 1) 0 ≡ true = grind (arith, nat_tests) in a ∙ sym b
  | inr high ↦
      let a : nat_eq level 1 ≡ false = grind (arith, nat_tests) in
      let b : nat_eq (level - 1) 0 ≡ false = grind (arith, nat_tests) in a ∙ sym b
]

-- the node of a branch above the entries
pub any_node : (at : ℕ → List ℕ) (branch : Branch) → (is : IsAnyBranch at branch) → 1 ≤ branch.level
    → IsNode at (is_leaf (branch.level - 1)) is.limit branch.place.start (with_gap is.gap branch.place.item)
any_node at branch is above =
    node_under at is.limit branch.level (branch.level - 1) branch.place.start (with_gap is.gap branch.place.item) (omega arith) is.under

-- the root with the largest gap of its items
pub record Gapped (writer : NodeWriter) (tree : View) (branch : Branch) : Type 0 where
  pub root : IsRootOf writer tree branch
  pub right : IsBranch (words_at writer) branch

pub gapped : (writer : NodeWriter) (tree : View) (root : Branch) (leaf : Bool) (items : List NodeItem) (gap : ℕ) → IsRootOf writer tree root → 1 ≤ root.level
    → leaf ≡ is_leaf (root.level - 1) → items ≡ items_at (words_at writer) leaf root.place.item.word → gap ≡ gap_of leaf root.place.start items
    → Gapped writer tree (record { place = record { start = root.place.start; item = with_gap gap root.place.item }; level = root.level })
gapped writer tree root leaf items gap is above below are largest =
    let at = words_at writer in
    let item = root.place.item in
    let start = root.place.start in
    let told : gap ≡ is.branch.gap = largest ∙ ap (gap_of leaf start) are ∙ ap (λ (b : Bool). gap_of b start (items_at at b item.word)) below
    ∙ (any_node at root is.branch above).gap in
    let under = subst (λ (g : ℕ). IsUnder at is.branch.limit root.level start (with_gap g item)) (sym told) is.branch.under in
    let same = entries_any at root.level gap item above in
    record {
      root = record {
        branch = record { limit = is.branch.limit; gap = gap; under = under };
        begin = is.begin;
        limit = is.limit;
        low = is.low;
        apart = subst (λ (es : List NodeItem). ApartFrom 1 es) (sym same) is.apart;
        numbered = subst (λ (es : List NodeItem). All (λ entry. entry.word ≤ 2 ^ 32) es) (sym same) is.numbered;
        pairs = ap (pairs_from 0) same ∙ is.pairs;
      };
      right = record { limit = is.branch.limit; under = under };
    }
