-- For `descend`: what is found under an item of the tree.
use Rattle.std.proofs.Common.{ℕ, zero, suc, ◌≡◌, ◌<◌, ◌≤◌, ◌+◌, ◌-◌, max, Bool, true, false, List, [], ◌∷◌, ◌++◌, Option, Some, None, refl, sym, ap, subst, ◌∙◌, arith, inl, inr, append-nil}
use Rattle.std.specs.Prelude.{nat_eq, if◌then◌else◌}
use Rattle.std.proofs.lemmas.Bool.{cases_lt}
use Rattle.std.proofs.lemmas.Bool.Decides.{nat_tests}
use Rattle.std.proofs.lemmas.Grind.{flat_map-append}
use Rattle.maple_node.specs.declared.item.NodeItem.{NodeItem}
use Rattle.maple_node.specs.Nodes.{items_end, Ascends, item_gap, gap_of}
use Rattle.maple_node.specs.Levels.{is_leaf, items_at, below, AllFrom, level_of}
use Rattle.maple_node.proofs.Lists.{end_of-append, Ascends-append, ends_above}
use Rattle.maple_node.proofs.Levels.{node_past}
use Rattle.maple_gap.specs.declared.window.Side.{Side}
use Rattle.maple_gap.specs.declared.window.Window.{Window}
use Rattle.maple_gap.specs.Internal.Searches.{may_have_room, pick, best, spot, IsUnder, with_gap}
use Rattle.maple_gap.proofs.Best.{pick_from, pick_both, best-append, best-one, room_of, of_room, Placed, spot_from, spot_some}

-- the entries under joined items, under none, and under a node
pub level_of-append : (at : ℕ → List ℕ) (low up : ℕ) (xs ys : List NodeItem) → level_of at low up (xs ++ ys) ≡ level_of at low up xs ++ level_of at low up ys
unfolding level_of
level_of-append at low zero xs ys = refl
level_of-append at low (suc up) xs ys =
    let leaf = is_leaf (low + up) in
    ap (level_of at low up) (flat_map-append (λ (item : NodeItem). items_at at leaf item.word) xs ys)
    ∙ level_of-append at low up (below at leaf xs) (below at leaf ys)

pub level_of-nil : (at : ℕ → List ℕ) (low up : ℕ) → level_of at low up [] ≡ []
unfolding level_of
level_of-nil at low zero = refl
level_of-nil at low (suc up) = level_of-nil at low up

pub entries-down : (at : ℕ → List ℕ) (level : ℕ) (item : NodeItem)
    → level_of at 0 (suc level) (item ∷ []) ≡ level_of at 0 level (items_at at (is_leaf level) item.word)
unfolding level_of
entries-down at level item =
    let e : 0 + level ≡ level = omega arith in
    ap (λ (n : ℕ). level_of at 0 level (items_at at (is_leaf n) item.word ++ [])) e
    ∙ ap (level_of at 0 level) (append-nil (items_at at (is_leaf level) item.word))

pub inner : (level : ℕ) → is_leaf (suc level) ≡ false
inner level = grind (arith, nat_tests)

-- an item has a page
pub under_past : (at : ℕ → List ℕ) (limit level start : ℕ) (item : NodeItem) → IsUnder at limit level start item → start < item.end
unfolding IsUnder
under_past at limit zero start item under = under
under_past at limit (suc level) start item under = node_past at (is_leaf level) limit start item under.0

pub under-ascends : (at : ℕ → List ℕ) (limit level start : ℕ) (items : List NodeItem) → AllFrom (IsUnder at limit level) start items → Ascends start items
under-ascends at limit level start [] all = tt
under-ascends at limit level start (x ∷ xs) all = (under_past at limit level start x all.0, under-ascends at limit level x.end xs all.1)

-- the entries under an item ascend from where it begins, and end where it does
pub record Spread (start end : ℕ) (entries : List NodeItem) : Type 0 where
  pub ascends : Ascends start entries
  pub ending : items_end start entries ≡ end

spread_all : (at : ℕ → List ℕ) (limit level : ℕ)
    → ((start : ℕ) (item : NodeItem) → IsUnder at limit level start item → Spread start item.end (level_of at 0 level (item ∷ [])))
    → (start : ℕ) (items : List NodeItem) → AllFrom (IsUnder at limit level) start items → Spread start (items_end start items) (level_of at 0 level items)
spread_all at limit level one start [] all =
    subst (λ (es : List NodeItem). Spread start start es) (sym (level_of-nil at 0 level)) (record { ascends = tt; ending = refl })
spread_all at limit level one start (x ∷ xs) all =
    let here = one start x all.0 in
    let rest = spread_all at limit level one x.end xs all.1 in
    let first = level_of at 0 level (x ∷ []) in
    let others = level_of at 0 level xs in
    let joined : Spread start (items_end x.end xs) (first ++ others) = record {
      ascends = Ascends-append start first others here.ascends (subst (λ (p : ℕ). Ascends p others) (sym here.ending) rest.ascends);
      ending = end_of-append start first others ∙ ap (λ (p : ℕ). items_end p others) here.ending ∙ rest.ending;
    } in
    subst (λ (es : List NodeItem). Spread start (items_end x.end xs) es) (sym (level_of-append at 0 level (x ∷ []) xs)) joined

pub spread : (at : ℕ → List ℕ) (limit level start : ℕ) (item : NodeItem) → IsUnder at limit level start item
    → Spread start item.end (level_of at 0 level (item ∷ []))
unfolding IsUnder level_of
spread at limit zero start item under = record { ascends = (under, tt); ending = refl }
spread at limit (suc level) start item under =
    let is = spread_all at limit level (λ s x u. spread at limit level s x u) start (items_at at (is_leaf level) item.word) under.1 in
    subst (λ (es : List NodeItem). Spread start item.end es) (sym (entries-down at level item)) (record {
      ascends = is.ascends;
      ending = is.ending ∙ under.0.until;
    })

-- and so they do where the item tells another gap
pub spread_any : (at : ℕ → List ℕ) (limit level start gap : ℕ) (item : NodeItem) → IsUnder at limit level start (with_gap gap item)
    → Spread start item.end (level_of at 0 level (item ∷ []))
unfolding IsUnder level_of
spread_any at limit zero start gap item under = record { ascends = (under, tt); ending = refl }
spread_any at limit (suc level) start gap item under = spread at limit (suc level) start (with_gap gap item) under

-- the entries under a node are the same where its item tells another gap
pub entries_any : (at : ℕ → List ℕ) (level gap : ℕ) (item : NodeItem) → 1 ≤ level
    → level_of at 0 level (with_gap gap item ∷ []) ≡ level_of at 0 level (item ∷ [])
unfolding level_of
entries_any at zero gap item above = absurd (omega arith)
entries_any at (suc level) gap item above = refl

pub spread_items : (at : ℕ → List ℕ) (limit level start : ℕ) (items : List NodeItem) → AllFrom (IsUnder at limit level) start items
    → Spread start (items_end start items) (level_of at 0 level items)
spread_items at limit level start items all = spread_all at limit level (λ s x u. spread at limit level s x u) start items all

-- the start that is sought under one item
abbrev pub found_in : Side → Window → (ℕ → List ℕ) → ℕ → ℕ → NodeItem → Option ℕ
found_in side window at level start item = best side window start (level_of at 0 level (item ∷ []))

-- and under items, of which the first begins at a page
abbrev pub over : Side → (ℕ → NodeItem → Option ℕ) → ℕ → List NodeItem → Option ℕ
over side found start [] = None
over side found start (x ∷ xs) = pick side (found start x) (over side found x.end xs)

pub best-over : (side : Side) (window : Window) (at : ℕ → List ℕ) (limit level start : ℕ) (items : List NodeItem) → AllFrom (IsUnder at limit level) start items
    → best side window start (level_of at 0 level items) ≡ over side (found_in side window at level) start items
unfolding best
best-over side window at limit level start [] all = ap (best side window start) (level_of-nil at 0 level)
best-over side window at limit level start (x ∷ xs) all =
    let first = level_of at 0 level (x ∷ []) in
    let others = level_of at 0 level xs in
    let here = best side window start first in
    ap (best side window start) (level_of-append at 0 level (x ∷ []) xs)
    ∙ best-append side window start first others
    ∙ ap (λ (p : ℕ). pick side here (best side window p others)) (spread at limit level start x all.0).ending
    ∙ ap (pick side here) (best-over side window at limit level x.end xs all.1)

pub found-down : (side : Side) (window : Window) (at : ℕ → List ℕ) (limit level start : ℕ) (item : NodeItem) → IsUnder at limit (suc level) start item
    → found_in side window at (suc level) start item ≡ over side (found_in side window at level) start (items_at at (is_leaf level) item.word)
unfolding IsUnder
found-down side window at limit level start item under =
    ap (best side window start) (entries-down at level item)
    ∙ best-over side window at limit level start (items_at at (is_leaf level) item.word) under.1

-- what is found lies in the window
pub placed : (side : Side) (window : Window) (start : ℕ) (items : List NodeItem) (s : ℕ) → 1 ≤ window.len → Ascends start items
    → best side window start items ≡ Some s → Placed window start (items_end start items) s
unfolding best
placed side window start [] s some ascends is = absurd (cc)
placed side window start (x ∷ xs) s some ascends is =
    let later = ends_above x.end xs ascends.1 in
    let past = ascends.0 in
    elim (pick_from side (spot side window start x) (best side window x.end xs) s is) as (λ _. Placed window start (items_end x.end xs) s) [
      | inl here ↦
          let at = (spot_from side window start x s some here).placed in
          let within = at.within in
          record { above = at.above; within = omega arith; low = at.low; high = at.high }
      | inr there ↦
          let at = placed side window x.end xs s some ascends.1 there in
          let above = at.above in
          record { above = omega arith; within = at.within; low = at.low; high = at.high }
    ]

-- where something is found under an item, its gap is long enough
gap_all : (side : Side) (window : Window) (at : ℕ → List ℕ) (limit level : ℕ)
    → ((start : ℕ) (item : NodeItem) (s : ℕ) → IsUnder at limit level start item → found_in side window at level start item ≡ Some s
    → window.len ≤ item_gap (is_leaf level) start item)
    → (start : ℕ) (items : List NodeItem) (s : ℕ) → AllFrom (IsUnder at limit level) start items → over side (found_in side window at level) start items ≡ Some s
    → window.len ≤ gap_of (is_leaf level) start items
gap_all side window at limit level one start [] s all is = absurd (cc)
gap_all side window at limit level one start (x ∷ xs) s all is =
    let here = found_in side window at level start x in
    let rest = over side (found_in side window at level) x.end xs in
    elim (pick_from side here rest s is) as (λ _. window.len ≤ max (item_gap (is_leaf level) start x) (gap_of (is_leaf level) x.end xs)) [
      | inl first ↦ let long = one start x s all.0 first in omega arith
      | inr later ↦ let long = gap_all side window at limit level one x.end xs s all.1 later in omega arith
    ]

pub gap_under : (side : Side) (window : Window) (at : ℕ → List ℕ) (limit level start : ℕ) (item : NodeItem) (s : ℕ) → 1 ≤ window.len
    → IsUnder at limit level start item → found_in side window at level start item ≡ Some s → window.len ≤ item_gap (is_leaf level) start item
unfolding IsUnder level_of
gap_under side window at limit zero start item s some under is =
    let one = spot_from side window start item s some (sym (best-one side window start item) ∙ is) in
    (room_of window true start item one.may).gap
gap_under side window at limit (suc level) start item s some under is =
    let items = items_at at (is_leaf level) item.word in
    let told = sym (found-down side window at limit level start item under) ∙ is in
    let long = gap_all side window at limit level (λ p x t u f. gap_under side window at limit level p x t some u f) start items s under.1 told in
    let same : gap_of (is_leaf level) start items ≡ item.gap = under.0.gap in
    let gap : item_gap (is_leaf (suc level)) start item ≡ item.gap = ap (λ b. item_gap b start item) (inner level) in
    omega arith

-- an item inside the window whose gap is long enough has room
whole_gap : (start : ℕ) (item : NodeItem) → item_gap true start item ≤ item.end - start
whole_gap start item = elim (nat_eq item.word 0) as (λ b. (if b then item.end - start else 0) ≤ item.end - start) [
  | true ↦ omega arith
  | false ↦ omega arith
]

some_all : (side : Side) (window : Window) (at : ℕ → List ℕ) (limit level : ℕ) → 1 ≤ window.len
    → ((start : ℕ) (item : NodeItem) → IsUnder at limit level start item → window.len ≤ item_gap (is_leaf level) start item → window.lo ≤ start
    → item.end ≤ window.hi → found_in side window at level start item ≡ None → ⊥)
    → (start : ℕ) (items : List NodeItem) → AllFrom (IsUnder at limit level) start items → window.len ≤ gap_of (is_leaf level) start items → window.lo ≤ start
    → items_end start items ≤ window.hi → over side (found_in side window at level) start items ≡ None → ⊥
some_all side window at limit level some one start [] all long low high is = omega arith
some_all side window at limit level some one start (x ∷ xs) all long low high is =
    let here = found_in side window at level start x in
    let rest = over side (found_in side window at level) x.end xs in
    let both = pick_both side here rest is in
    let past = under_past at limit level start x all.0 in
    let later = ends_above x.end xs (under-ascends at limit level x.end xs all.1) in
    elim (cases_lt (item_gap (is_leaf level) start x) window.len) as (λ _. ⊥) [
      | inl short ↦ some_all side window at limit level some one x.end xs all.1 (omega arith) (omega arith) high both.1
      | inr first ↦ one start x all.0 first low (omega arith) both.0
    ]

pub some_under : (side : Side) (window : Window) (at : ℕ → List ℕ) (limit level start : ℕ) (item : NodeItem) → 1 ≤ window.len
    → IsUnder at limit level start item → window.len ≤ item_gap (is_leaf level) start item → window.lo ≤ start → item.end ≤ window.hi
    → found_in side window at level start item ≡ None → ⊥
unfolding IsUnder level_of
some_under side window at limit zero start item some under long low high is =
    let whole = whole_gap start item in
    let may = of_room window true start item (record { gap = long; part = omega arith }) in
    let told = sym (spot_some side window start item may) ∙ sym (best-one side window start item) ∙ is in
    absurd (cc)
some_under side window at limit (suc level) start item some under long low high is =
    let items = items_at at (is_leaf level) item.word in
    let told = sym (found-down side window at limit level start item under) ∙ is in
    let same : gap_of (is_leaf level) start items ≡ item.gap = under.0.gap in
    let gap : item_gap (is_leaf (suc level)) start item ≡ item.gap = ap (λ b. item_gap b start item) (inner level) in
    let until = under.0.until in
    some_all side window at limit level some (λ p x u g l h n. some_under side window at limit level p x some u g l h n) start items under.1
    (omega arith) low (omega arith) told

-- what is known of what is found in an item: nothing where it may have no room, and something where it lies inside the window
pub record Known (window : Window) (leaf : Bool) (found : ℕ → NodeItem → Option ℕ) (start : ℕ) (item : NodeItem) : Type 0 where
  pub room : (s : ℕ) → found start item ≡ Some s → may_have_room window leaf start item ≡ true
  pub some : may_have_room window leaf start item ≡ true → window.lo ≤ start → item.end ≤ window.hi → found start item ≡ None → ⊥
  pub past : start < item.end

pub known_under : (side : Side) (window : Window) (at : ℕ → List ℕ) (limit level start : ℕ) (item : NodeItem) → 1 ≤ window.len
    → IsUnder at limit level start item → Known window (is_leaf level) (found_in side window at level) start item
known_under side window at limit level start item some under = record {
  room = λ s is.
      let entries = spread at limit level start item under in
      let here = placed side window start (level_of at 0 level (item ∷ [])) s some entries.ascends is in
      let ending = entries.ending in
      let above = here.above in
      let within = here.within in
      let low = here.low in
      let high = here.high in
      of_room window (is_leaf level) start item (record {
        gap = gap_under side window at limit level start item s some under is;
        part = omega arith;
      });
  some = λ may low high none.
      some_under side window at limit level start item some under (room_of window (is_leaf level) start item may).gap low high none;
  past = under_past at limit level start item under;
}
