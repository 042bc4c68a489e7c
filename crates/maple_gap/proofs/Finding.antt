-- For `entry_at` and `leaf_at`: the entry that has a page is under the item that has it.
use Rattle.std.proofs.Common.{ℕ, suc, ◌≡◌, ◌<◌, ◌≤◌, ◌-◌, Bool, false, List, [], ◌∷◌, ◌++◌, Some, refl, sym, ap, subst, ◌∙◌, arith, inl, inr, append-nil}
use Rattle.std.proofs.lemmas.Bool.{cases_lt}
use Rattle.std.proofs.lemmas.Bool.Decides.{nat_tests}
use Rattle.std.proofs.lemmas.List.Elements.{filter-append}
use Rattle.std.specs.Prelude.{nat_le}
use Rattle.maple_node.specs.declared.item.NodeItem.{NodeItem}
use Rattle.maple_node.specs.Nodes.{items_end, Ascends}
use Rattle.maple_node.specs.Levels.{is_leaf, items_at, item_at, AllFrom, IsNode, level_of}
use Rattle.maple_node.proofs.Lists.{end_of-append, ends_above}
use Rattle.maple_node.specs.declared.place.Place.{Place}
use Rattle.maple_node.specs.Splices.{ending_by}
use Rattle.maple_node.proofs.ItemLists.{ending_by-first, ending_by-later, item_at-first, item_at-later, ending_by_all, ending_by_none, ending_by_first, end_ending_by, item_at-left, item_at-right}
use Rattle.maple_gap.specs.declared.branch.Branch.{Branch}
use Rattle.maple_gap.specs.Internal.Searches.{IsUnder, with_gap, IsAnyBranch, IsPartOf, entries_under}
use Rattle.maple_gap.proofs.Rows.{node_under}
use Rattle.maple_gap.proofs.Under.{spread, spread_items, under-ascends, level_of-append, entries-down}

-- the entry that has a page, and where it begins, are those under the item that has it
pub record Under (at : ℕ → List ℕ) (limit level start page : ℕ) (entries : List NodeItem) (place : Place) : Type 0 where
  pub under : IsUnder at limit level place.start place.item
  pub above : place.start ≤ page
  pub within : page < place.item.end
  pub found : item_at page entries ≡ item_at page (level_of at 0 level (place.item ∷ []))
  pub begins : items_end start (ending_by page entries) ≡ items_end place.start (ending_by page (level_of at 0 level (place.item ∷ [])))

place_is : (start : ℕ) (x : NodeItem) (place : Place) → start ≡ place.start → x ≡ place.item
    → (let this : Place = record { start = start; item = x } in this ≡ place)
place_is start x place begin same =
    let From : ℕ → Place = λ s. record { start = s; item = x } in
    let Of : NodeItem → Place = λ y. record { start = place.start; item = y } in
    ap From begin ∙ ap Of same

in_items : (at : ℕ → List ℕ) (limit level start page : ℕ) (items : List NodeItem) (place : Place) → AllFrom (IsUnder at limit level) start items → start ≤ page
    → item_at page items ≡ Some place.item → place.start ≡ items_end start (ending_by page items)
    → Under at limit level start page (level_of at 0 level items) place
in_items at limit level start page [] place all above is begins = absurd (cc)
in_items at limit level start page (x ∷ xs) place all above is begins =
    let here = level_of at 0 level (x ∷ []) in
    let others = level_of at 0 level xs in
    let first = spread at limit level start x all.0 in
    let ending = first.ending in
    let joined : level_of at 0 level (x ∷ xs) ≡ here ++ others = level_of-append at 0 level (x ∷ []) xs in
    let Goal : List NodeItem → Type 0 = λ es. Under at limit level start page es place in
    let ascends = under-ascends at limit level start (x ∷ xs) all in
    subst Goal (sym joined) (elim (cases_lt page x.end) as (λ _. Goal (here ++ others)) [
      | inl within ↦
          let told : Some x ≡ Some place.item = sym (item_at-first page x xs within) ∙ is in
          let same : x ≡ place.item = cc in
          let begin : start ≡ place.start = sym (begins ∙ ap (items_end start) (ending_by_first start page x xs ascends within)) in
          let one = place_is start x place begin same in
          let At : Place → Type 0 = λ p. Under at limit level start page (here ++ others) p in
          subst At one (record {
            under = all.0;
            above = above;
            within = within;
            found = item_at-left start page here others above (omega arith);
            begins = ap (items_end start) (cut at limit level page x.end here xs all.1 (omega arith));
          })
      | inr past ↦
          let later = in_items at limit level x.end page xs place all.1 past (sym (item_at-later page x xs past) ∙ is)
          (begins ∙ ap (items_end start) (ending_by-first page x xs past)) in
          record {
            under = later.under;
            above = later.above;
            within = later.within;
            found = item_at-right start page here others first.ascends (omega arith) ∙ later.found;
            begins = ap (items_end start) (filter-append (λ (item : NodeItem). nat_le item.end page) here others)
                ∙ ap (λ (ys : List NodeItem). items_end start (ys ++ ending_by page others)) (ending_by_all start page here first.ascends (omega arith))
                ∙ end_of-append start here (ending_by page others)
                ∙ ap (λ (p : ℕ). items_end p (ending_by page others)) ending
                ∙ later.begins;
          }
    ]) where
      cut : (at : ℕ → List ℕ) (limit level page next : ℕ) (here xs : List NodeItem) → AllFrom (IsUnder at limit level) next xs → page ≤ next
          → ending_by page (here ++ level_of at 0 level xs) ≡ ending_by page here
      cut at limit level page next here xs all past =
          let others = level_of at 0 level xs in
          filter-append (λ (item : NodeItem). nat_le item.end page) here others
          ∙ ap (λ (ys : List NodeItem). ending_by page here ++ ys) (ending_by_none next page others (spread_items at limit level next xs all).ascends past)
          ∙ append-nil (ending_by page here)

-- the branch that was reached has the page
pub record Reached (at : ℕ → List ℕ) (page : ℕ) (root branch : Branch) : Type 0 where
  pub limit : ℕ
  pub gap : ℕ
  pub under : IsUnder at limit branch.level branch.place.start (with_gap gap branch.place.item)
  pub above : branch.place.start ≤ page
  pub within : page < branch.place.item.end
  pub found : item_at page (entries_under at root) ≡ item_at page (entries_under at branch)
  pub begins : items_end root.place.start (ending_by page (entries_under at root)) ≡ items_end branch.place.start (ending_by page (entries_under at branch))

pub reach_root : (at : ℕ → List ℕ) (page : ℕ) (root : Branch) → IsAnyBranch at root → root.place.start ≤ page → page < root.place.item.end
    → Reached at page root root
reach_root at page root is above within =
    record { limit = is.limit; gap = is.gap; under = is.under; above = above; within = within; found = refl; begins = refl }

-- its items, which are those of a node
pub record Inside (page start : ℕ) (items : List NodeItem) : Type 0 where
  pub ascends : Ascends start items
  pub within : page < items_end start items

pub reach_node : (at : ℕ → List ℕ) (page : ℕ) (root branch : Branch) (level : ℕ) → (reached : Reached at page root branch) → branch.level ≡ suc level
    → IsNode at (is_leaf level) reached.limit branch.place.start (with_gap reached.gap branch.place.item)
reach_node at page root branch level reached e =
    node_under at reached.limit branch.level level branch.place.start (with_gap reached.gap branch.place.item) e reached.under

pub inside : (at : ℕ → List ℕ) (page : ℕ) (root branch : Branch) (level : ℕ) (leaf : Bool) (items : List NodeItem) → Reached at page root branch
    → branch.level ≡ suc level → leaf ≡ is_leaf level → items ≡ items_at at leaf branch.place.item.word → Inside page branch.place.start items
inside at page root branch level leaf items reached e below are =
    let node = reach_node at page root branch level reached e in
    let own = items_at at (is_leaf level) branch.place.item.word in
    let until : items_end branch.place.start own ≡ branch.place.item.end = node.until in
    let within = reached.within in
    let same : items ≡ own = are ∙ ap (λ (b : Bool). items_at at b branch.place.item.word) below in
    subst (λ (xs : List NodeItem). Inside page branch.place.start xs) (sym same) (record { ascends = node.ascends; within = omega arith })

-- down to the item that has the page
pub reach_down : (at : ℕ → List ℕ) (page : ℕ) (root branch : Branch) (level : ℕ) (leaf : Bool) (items : List NodeItem) (place : Place)
    → Reached at page root branch → branch.level ≡ suc level → leaf ≡ is_leaf level → items ≡ items_at at leaf branch.place.item.word
    → item_at page items ≡ Some place.item → place.start ≡ items_end branch.place.start (ending_by page items)
    → Reached at page root (record { place = place; level = level })
unfolding IsUnder
reach_down at page root branch level leaf items place reached e below are is begins = from (opened reached.under) where
  item : NodeItem
  item = with_gap reached.gap branch.place.item

  opened : IsUnder at reached.limit branch.level branch.place.start item → IsUnder at reached.limit (suc level) branch.place.start item
  opened under = subst (λ (n : ℕ). IsUnder at reached.limit n branch.place.start item) e under

  from : IsUnder at reached.limit (suc level) branch.place.start item → Reached at page root (record { place = place; level = level })
  from under =
      let start = branch.place.start in
      let own = items_at at (is_leaf level) branch.place.item.word in
      let same : items ≡ own = are ∙ ap (λ (b : Bool). items_at at b branch.place.item.word) below in
      let deep : entries_under at branch ≡ level_of at 0 level own =
      ap (λ (n : ℕ). level_of at 0 n (branch.place.item ∷ [])) e ∙ entries-down at level branch.place.item in
      let next = in_items at reached.limit level start page own place under.1 reached.above (ap (item_at page) (sym same) ∙ is)
      (begins ∙ ap (λ (xs : List NodeItem). items_end start (ending_by page xs)) same) in
      record {
        limit = reached.limit;
        gap = place.item.gap;
        under = next.under;
        above = next.above;
        within = next.within;
        found = reached.found ∙ ap (item_at page) deep ∙ next.found;
        begins = reached.begins ∙ ap (λ (xs : List NodeItem). items_end start (ending_by page xs)) deep ∙ next.begins;
      }

-- and at the end it is the entry
pub record Entry (at : ℕ → List ℕ) (page : ℕ) (root : Branch) (place : Place) : Type 0 where
  pub item : item_at page (entries_under at root) ≡ Some place.item
  pub start : place.start ≡ items_end root.place.start (ending_by page (entries_under at root))

pub reach_entry : (at : ℕ → List ℕ) (page : ℕ) (root branch : Branch) → Reached at page root branch → branch.level ≡ 0
    → Entry at page root branch.place
unfolding level_of
reach_entry at page root branch reached low =
    let item = branch.place.item in
    let one : entries_under at branch ≡ item ∷ [] = ap (λ (n : ℕ). level_of at 0 n (item ∷ [])) low in
    record {
      item = reached.found ∙ ap (item_at page) one ∙ item_at-first page item [] reached.within;
      start = sym (reached.begins ∙ ap (λ (xs : List NodeItem). items_end branch.place.start (ending_by page xs)) one
          ∙ ap (items_end branch.place.start) (ending_by-later page item [] reached.within));
    }

-- an item that has one page of a list is found by each of its pages
pub record Found (start other : ℕ) (items : List NodeItem) (place : Place) : Type 0 where
  pub item : item_at other items ≡ Some place.item
  pub begins : place.start ≡ items_end start (ending_by other items)

found_by : (start page other : ℕ) (items : List NodeItem) (place : Place) → Ascends start items → item_at page items ≡ Some place.item
    → place.start ≡ items_end start (ending_by page items) → place.start ≤ other → other < place.item.end → Found start other items place
found_by start page other [] place ascends is begins above within = absurd (cc)
found_by start page other (x ∷ xs) place ascends is begins above within = elim (cases_lt page x.end) as (λ _. Found start other (x ∷ xs) place) [
  | inl first ↦
      let told : Some x ≡ Some place.item = sym (item_at-first page x xs first) ∙ is in
      let same : x ≡ place.item = cc in
      let end : x.end ≡ place.item.end = ap (λ (i : NodeItem). i.end) same in
      record {
        item = item_at-first other x xs (omega arith) ∙ ap (λ (i : NodeItem). Some i) same;
        begins = begins ∙ ap (items_end start) (ending_by_first start page x xs ascends first ∙ sym (ending_by_first start other x xs ascends (omega arith)));
      }
  | inr past ↦
      let begin : place.start ≡ items_end x.end (ending_by page xs) = begins ∙ ap (items_end start) (ending_by-first page x xs past) in
      let least = end_ending_by x.end page xs ascends.1 in
      let later = found_by x.end page other xs place ascends.1 (sym (item_at-later page x xs past) ∙ is) begin above within in
      record {
        item = item_at-later other x xs (omega arith) ∙ later.item;
        begins = later.begins ∙ sym (ap (items_end start) (ending_by-first other x xs (omega arith)));
      }
]

-- the branch that was reached has the page, and the other pages of it have their entries there too
pub record Around (at : ℕ → List ℕ) (page : ℕ) (root branch : Branch) : Type 0 where
  pub here : Reached at page root branch
  pub others : (other : ℕ) → branch.place.start ≤ other → other < branch.place.item.end → Reached at other root branch

pub around_root : (at : ℕ → List ℕ) (page : ℕ) (root : Branch) → IsAnyBranch at root → root.place.start ≤ page → page < root.place.item.end
    → Around at page root root
around_root at page root is above within =
    record { here = reach_root at page root is above within; others = λ other low high. reach_root at other root is low high }

-- an item lies within the node that lists it
pub record Within (start end : ℕ) (place : Place) : Type 0 where
  pub low : start ≤ place.start
  pub high : place.item.end ≤ end

within_all : (start page : ℕ) (items : List NodeItem) (place : Place) → Ascends start items → item_at page items ≡ Some place.item
    → place.start ≡ items_end start (ending_by page items) → Within start (items_end start items) place
within_all start page items place ascends is begins =
    let least = end_ending_by start page items ascends in
    record { low = omega arith; high = ends start items ascends is } where
      ends : (start : ℕ) (items : List NodeItem) → Ascends start items → item_at page items ≡ Some place.item → place.item.end ≤ items_end start items
      ends start [] ascends is = absurd (cc)
      ends start (x ∷ xs) ascends is = elim (cases_lt page x.end) as (λ _. place.item.end ≤ items_end x.end xs) [
        | inl first ↦
            let told : Some x ≡ Some place.item = sym (item_at-first page x xs first) ∙ is in
            let same : x ≡ place.item = cc in
            let end : x.end ≡ place.item.end = ap (λ (i : NodeItem). i.end) same in
            let later = ends_above x.end xs ascends.1 in
            omega arith
        | inr past ↦ ends x.end xs ascends.1 (sym (item_at-later page x xs past) ∙ is)
      ]

-- down to the item that has the page
pub around_down : (at : ℕ → List ℕ) (page : ℕ) (root branch : Branch) (level : ℕ) (leaf : Bool) (items : List NodeItem) (place : Place)
    → Around at page root branch → branch.level ≡ suc level → leaf ≡ is_leaf level → items ≡ items_at at leaf branch.place.item.word
    → item_at page items ≡ Some place.item → place.start ≡ items_end branch.place.start (ending_by page items)
    → Around at page root (record { place = place; level = level })
around_down at page root branch level leaf items place around e below are is begins =
    let node = reach_node at page root branch level around.here e in
    let until : items_end branch.place.start (items_at at (is_leaf level) branch.place.item.word) ≡ branch.place.item.end = node.until in
    let same : items ≡ items_at at (is_leaf level) branch.place.item.word = are ∙ ap (λ (b : Bool). items_at at b branch.place.item.word) below in
    let ending : items_end branch.place.start items ≡ branch.place.item.end = ap (items_end branch.place.start) same ∙ until in
    let ascends = (inside at page root branch level leaf items around.here e below are).ascends in
    let lies = within_all branch.place.start page items place ascends is begins in
    let low = lies.low in
    let high = lies.high in
    record {
      here = reach_down at page root branch level leaf items place around.here e below are is begins;
      others = λ other above within.
          let found = found_by branch.place.start page other items place ascends is begins above within in
          reach_down at other root branch level leaf items place (around.others other (omega arith) (omega arith)) e below are found.item found.begins;
    }

-- what lies two levels above the entries or more lists no entries
pub not_leaf : (level : ℕ) → 1 < level → false ≡ is_leaf (level - 1)
not_leaf level above = grind (arith, nat_tests)

-- so it is a part of the whole
pub around_part : (at : ℕ → List ℕ) (page : ℕ) (root branch : Branch) → Around at page root branch → IsPartOf at root branch
unfolding IsPartOf
around_part at page root branch around = λ other above within. (around.others other above within).found

-- and what the part says of a page of it holds of the whole
pub whole_item : (at : ℕ → List ℕ) (root part : Branch) (page : ℕ) (item : NodeItem) → IsPartOf at root part → part.place.start ≤ page
    → page < part.place.item.end → item_at page (entries_under at part) ≡ Some item → item_at page (entries_under at root) ≡ Some item
unfolding IsPartOf
whole_item at root part page item same above within found = same page above within ∙ found

-- an entry ends above each page that it has
pub item_above : (page : ℕ) (items : List NodeItem) (item : NodeItem) → item_at page items ≡ Some item → page < item.end
item_above page [] item found = absurd (cc)
item_above page (x ∷ xs) item found = elim (cases_lt page x.end) as (λ _. page < item.end) [
  | inl above ↦
      let told : Some x ≡ Some item = sym (item_at-first page x xs above) ∙ found in
      let same : x ≡ item = cc in
      let end : x.end ≡ item.end = ap (λ (i : NodeItem). i.end) same in
      omega arith
  | inr past ↦ item_above page xs item (sym (item_at-later page x xs past) ∙ found)
]
