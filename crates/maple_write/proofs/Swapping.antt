-- For `swapped`: one child in the place of one in the words of a node.
use Rattle.std.proofs.Common.{ℕ, ◌≡◌, ◌≢◌, ◌<◌, ◌≤◌, Bool, false, nat_eq, List, [], ◌∷◌, length, get_or, Option, Some, None, IfSome, IfNone, refl, sym, ap, subst, ◌∙◌, arith}
use Rattle.std.proofs.lemmas.Bool.Decides.{nat_tests}
use Rattle.maple_node.specs.declared.item.NodeItem.{NodeItem}
use Rattle.maple_node.specs.Nodes.{words_of_items, node_items, items_end, Ascends, gap_of}
use Rattle.maple_node.specs.Levels.{is_leaf, at_of, items_at, item_at}
use Rattle.maple_node.proofs.Levels.{nodes-ascend}
use Rattle.maple_node.specs.declared.place.Place.{Place}
use Rattle.maple_node.specs.Splices.{ending_by, spliced}
use Rattle.maple_node.proofs.ItemLists.{stands}
use Rattle.maple_write.specs.Internal.Tables.{RowTable}
use Rattle.maple_write.specs.Internal.Stores.{old_level, Level, old_nodes, node_begin, Partly, IsRenewed}
use Rattle.maple_write.proofs.Steps.{upper_of, there_at}
use Rattle.maple_write.proofs.Renewing.{ends_same, source_of, lists_spliced, renewed_is}

-- a level above the entries has no leaves
inner_is : (level : ℕ) → 0 < level → is_leaf level ≡ false
inner_is level some = let test : nat_eq level 0 ≡ false = grind (arith, nat_tests) in test

-- the largest gap of children is the same wherever they begin
gap_anywhere : (a b : ℕ) (items : List NodeItem) → gap_of false a items ≡ gap_of false b items
gap_anywhere a b [] = refl
gap_anywhere a b (item ∷ items) = refl

-- what the words of the node above the leaves that has a page tell
pub record Children (words : List ℕ) (page end gap : ℕ) : Type 0 where
  pub ascends : Ascends 0 (node_items false words)
  pub ends : items_end 0 (node_items false words) ≡ end
  pub within : page < items_end 0 (node_items false words)
  pub whole : words ≡ words_of_items false (node_items false words)
  pub largest : gap_of false 0 (node_items false words) ≡ gap

pub children_of : (table : RowTable) (level : Level) (item : NodeItem) (words : List ℕ)
    → Partly table level → level.height < level.tree.height → 0 < level.height → item_at level.lo (old_nodes table level) ≡ Some item
    → words ≡ at_of table.rows item.word → Children words level.lo item.end item.gap
children_of table level item words partly less inner found is =
    let begin = node_begin table level in
    let source = source_of table level level.lo item words partly less found is in
    let there = there_at table level level.lo item partly less found in
    let nodes = (upper_of table level partly less).nodes in
    let ascends = nodes-ascend (at_of table.rows) (is_leaf level.height) level.tree.top.end 0 (old_nodes table level) nodes in
    let here = stands 0 level.lo (old_nodes table level) item ascends found in
    let listed : (leaf : Bool) → items_at (at_of table.rows) leaf item.word ≡ node_items leaf words = λ leaf. ap (node_items leaf) (sym is) in
    let leafless = inner_is level.height inner in
    let ends : items_end 0 (node_items (is_leaf level.height) words) ≡ item.end =
    ap (items_end 0) (sym (listed (is_leaf level.height))) ∙ ends_same 0 begin (items_at (at_of table.rows) (is_leaf level.height) item.word) there.node.some ∙ there.node.until in
    let within : level.lo < items_end 0 (node_items (is_leaf level.height) words) = let above = here.above in omega arith in
    let gap : gap_of (is_leaf level.height) begin (node_items (is_leaf level.height) words) ≡ item.gap =
    ap (gap_of (is_leaf level.height) begin) (sym (listed (is_leaf level.height))) ∙ there.node.gap in
    record {
      ascends = subst (λ (b : Bool). Ascends 0 (node_items b words)) leafless source.ascends;
      ends = subst (λ (b : Bool). items_end 0 (node_items b words) ≡ item.end) leafless ends;
      within = subst (λ (b : Bool). level.lo < items_end 0 (node_items b words)) leafless within;
      whole = subst (λ (b : Bool). words ≡ words_of_items b (node_items b words)) leafless source.whole;
      largest = gap_anywhere 0 begin (node_items false words)
          ∙ subst (λ (b : Bool). gap_of b begin (node_items b words) ≡ item.gap) leafless gap;
    }

-- the only new item ends where they end
pub only_ends : (table : RowTable) (level : Level) (child : NodeItem) → Partly table level → level.new ≡ child ∷ [] → child.end ≡ level.hi
only_ends table level child partly one =
    sym (ap (items_end (items_end 0 (ending_by level.lo (old_level table level.tree level.height)))) one) ∙ partly.ending

-- a child in a node that ends below a page ends elsewhere
pub ends_before : (words : List ℕ) (page end gap hi : ℕ) (child : NodeItem) → Children words page end gap → end < hi
    → item_at page (node_items false words) ≡ Some child → child.end ≢ hi
ends_before words page end gap hi child is past found same =
    let within = (stands 0 page (node_items false words) child is.ascends found).within in
    let ends = is.ends in
    omega arith

-- where there is no answer, it tells another thing
pub if_none : {P Q : Type 0} (answer : Option ℕ) → IfNone answer P → (P → Q) → IfNone answer Q
if_none None p more = more p
if_none (Some gap) p more = tt

-- the node anew, and its largest gap
pub record Swapped (table : RowTable) (level : Level) (left : Place) (made : List ℕ) (gap : ℕ) : Type 0 where
  pub renewed : IsRenewed table level left made
  pub largest : gap ≡ gap_of (is_leaf level.height) left.start (node_items (is_leaf level.height) made)

pub swapped_is : (table : RowTable) (level : Level) (left : Place) (child : NodeItem) (words made : List ℕ) (gap : ℕ)
    → Partly table level → level.height < level.tree.height → 0 < level.height → level.new ≡ child ∷ []
    → item_at level.lo (old_nodes table level) ≡ Some left.item
    → left.start ≡ node_begin table level → level.hi ≤ left.item.end
    → words ≡ at_of table.rows left.item.word
    → made ≡ words_of_items false (spliced level.lo child.end (child ∷ []) (node_items false words))
    → length (spliced level.lo child.end (child ∷ []) (node_items false words)) ≡ length (node_items false words)
    → gap ≡ gap_of false 0 (spliced level.lo child.end (child ∷ []) (node_items false words))
    → Swapped table level left made gap
swapped_is table level left child words made gap partly less inner one found begins within is told count largest =
    let leaf = is_leaf level.height in
    let leafless = inner_is level.height inner in
    let ends = only_ends table level child partly one in
    let same : spliced level.lo child.end (child ∷ []) (node_items false words) ≡ spliced level.lo level.hi level.new (node_items false words) =
    ap (λ (xs : List NodeItem). spliced level.lo child.end xs (node_items false words)) (sym one)
    ∙ ap (λ (p : ℕ). spliced level.lo p level.new (node_items false words)) ends in
    let told_here : made ≡ words_of_items leaf (spliced level.lo level.hi level.new (node_items leaf words)) =
    subst (λ (b : Bool). made ≡ words_of_items b (spliced level.lo level.hi level.new (node_items b words))) (sym leafless) (told ∙ ap (words_of_items false) same) in
    let count_here : length (spliced level.lo level.hi level.new (node_items leaf words)) ≡ length (node_items leaf words) =
    subst (λ (b : Bool). length (spliced level.lo level.hi level.new (node_items b words)) ≡ length (node_items b words)) (sym leafless)
    (sym (ap (λ (xs : List NodeItem). length xs) same) ∙ count) in
    let there = there_at table level level.lo left.item partly less found in
    let long : length (node_items leaf words) ≡ length (items_at (at_of table.rows) leaf left.item.word) = ap (λ (ws : List ℕ). length (node_items leaf ws)) is in
    let few = there.node.most in
    let lists = lists_spliced table level left words made partly less found begins within is told_here in
    let lists_here : node_items false made ≡ spliced level.lo level.hi level.new (node_items false words) =
    subst (λ (b : Bool). node_items b made ≡ spliced level.lo level.hi level.new (node_items b words)) leafless lists in
    let gap_here : gap ≡ gap_of false left.start (node_items false made) =
    largest ∙ ap (gap_of false 0) (same ∙ sym lists_here) ∙ gap_anywhere 0 left.start (node_items false made) in
    record {
      renewed = renewed_is table level (length (node_items leaf words)) left words made partly less found begins within is told_here
          (omega arith) (omega arith) (λ ends_inside. let enough = there.node.least ends_inside in omega arith);
      largest = subst (λ (b : Bool). gap ≡ gap_of b left.start (node_items b made)) (sym leafless) gap_here;
    }

-- where there is an answer, it tells these three
pub if_three : {P Q R S : ℕ → Type 0} (answer : Option ℕ) → IfSome answer P → IfSome answer Q → IfSome answer R
    → ((gap : ℕ) → P gap → Q gap → R gap → S gap) → IfSome answer S
if_three None p q r all = tt
if_three (Some gap) p q r all = all gap p q r

-- one item is the list of it
pub only : (items : List NodeItem) (d : NodeItem) → length items ≡ 1 → items ≡ get_or items 0 d ∷ []
only [] d one = absurd (omega arith)
only (item ∷ []) d one = refl
only (item ∷ other ∷ items) d one = absurd (omega arith)
