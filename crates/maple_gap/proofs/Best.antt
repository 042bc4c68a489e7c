-- For `choose`, `descend` and `search`: which start is sought in joined entries.
use Rattle.std.proofs.Common.{ℕ, ◌≡◌, ◌<◌, ◌≤◌, ◌+◌, ◌-◌, min, max, Bool, true, false, ◌&&◌, List, [], ◌∷◌, ◌++◌, Option, Some, None, ◌⊎◌, refl, sym, ap, subst, ◌∙◌, arith, inl, inr}
use Rattle.std.specs.Prelude.{nat_le, if◌then◌else◌}
use Rattle.std.specs.Option.{option_or}
use Rattle.std.proofs.lemmas.Bool.{cases_Bool}
use Rattle.std.proofs.lemmas.Bool.Decides.{nat_tests}
use Rattle.maple_node.specs.declared.item.NodeItem.{NodeItem}
use Rattle.maple_node.specs.Nodes.{items_end, item_gap}
use Rattle.maple_gap.specs.declared.window.Side.{Side}
use Rattle.maple_gap.specs.declared.window.Side.TheVariants.{Low, High}
use Rattle.maple_gap.specs.declared.window.Window.{Window}
use Rattle.maple_gap.specs.Internal.Searches.{may_have_room, edge, spot, pick, best}

-- one thing or another, where one of them is none
pub or_none : (o : Option ℕ) → option_or o None ≡ o
or_none None = refl
or_none (Some s) = refl

pub or_some : (o p : Option ℕ) → (o ≡ None → ⊥) → option_or o p ≡ o
or_some None p some = absurd (some refl)
or_some (Some s) p some = refl

pub or_assoc : (o p q : Option ℕ) → option_or (option_or o p) q ≡ option_or o (option_or p q)
or_assoc None p q = refl
or_assoc (Some s) p q = refl

pub pick_none : (side : Side) (o : Option ℕ) → pick side None o ≡ o
pick_none Low o = refl
pick_none High o = or_none o

pub pick_one : (side : Side) (o : Option ℕ) → pick side o None ≡ o
pick_one Low o = or_none o
pick_one High o = refl

pub pick_assoc : (side : Side) (o p q : Option ℕ) → pick side (pick side o p) q ≡ pick side o (pick side p q)
pick_assoc Low o p q = or_assoc o p q
pick_assoc High o p q = sym (or_assoc q p o)

-- which of the two it is, and that both are none where it is
or_from : (o p : Option ℕ) (s : ℕ) → option_or o p ≡ Some s → (o ≡ Some s) ⊎ (p ≡ Some s)
or_from None p s is = inr is
or_from (Some t) p s is = inl is

pub pick_from : (side : Side) (o p : Option ℕ) (s : ℕ) → pick side o p ≡ Some s → (o ≡ Some s) ⊎ (p ≡ Some s)
pick_from Low o p s is = or_from o p s is
pick_from High o p s is = elim (or_from p o s is) [ inl a ↦ inr a | inr b ↦ inl b ]

or_both : (o p : Option ℕ) → option_or o p ≡ None → (o ≡ None) × (p ≡ None)
or_both None p is = (refl, is)
or_both (Some t) p is = absurd (cc)

pub pick_both : (side : Side) (o p : Option ℕ) → pick side o p ≡ None → (o ≡ None) × (p ≡ None)
pick_both Low o p is = or_both o p is
pick_both High o p is = let both = or_both p o is in (both.1, both.0)

-- entries after others
pub best-append : (side : Side) (window : Window) (start : ℕ) (xs ys : List NodeItem)
    → best side window start (xs ++ ys) ≡ pick side (best side window start xs) (best side window (items_end start xs) ys)
unfolding best
best-append side window start [] ys = sym (pick_none side (best side window start ys))
best-append side window start (x ∷ xs) ys =
    ap (pick side (spot side window start x)) (best-append side window x.end xs ys)
    ∙ sym (pick_assoc side (spot side window start x) (best side window x.end xs) (best side window (items_end x.end xs) ys))

-- in one entry
pub best-one : (side : Side) (window : Window) (start : ℕ) (x : NodeItem) → best side window start (x ∷ []) ≡ spot side window start x
unfolding best
best-one side window start x = pick_one side (spot side window start x)

-- an item that may have room has a gap that is long enough, and a part in the window that is
pub record Room (window : Window) (leaf : Bool) (start : ℕ) (item : NodeItem) : Type 0 where
  pub gap : window.len ≤ item_gap leaf start item
  pub part : window.len ≤ min item.end window.hi - max start window.lo

and_both : (a b : Bool) → (a && b) ≡ true → (a ≡ true) × (b ≡ true)
and_both true b is = (refl, is)
and_both false b is = absurd (cc)

le_of : (a b : ℕ) → nat_le a b ≡ true → a ≤ b
le_of a b is = grind (arith, nat_tests)

of_le : (a b : ℕ) → a ≤ b → nat_le a b ≡ true
of_le a b is = grind (arith, nat_tests)

pub room_of : (window : Window) (leaf : Bool) (start : ℕ) (item : NodeItem) → may_have_room window leaf start item ≡ true → Room window leaf start item
unfolding may_have_room
room_of window leaf start item is =
    let long = item_gap leaf start item in
    let part = min item.end window.hi - max start window.lo in
    let both = and_both (nat_le window.len long) (nat_le window.len part) is in
    record { gap = le_of window.len long both.0; part = le_of window.len part both.1 }

pub of_room : (window : Window) (leaf : Bool) (start : ℕ) (item : NodeItem) → Room window leaf start item → may_have_room window leaf start item ≡ true
unfolding may_have_room
of_room window leaf start item room =
    let long = item_gap leaf start item in
    let part = min item.end window.hi - max start window.lo in
    ap (λ b. b && nat_le window.len part) (of_le window.len long room.gap) ∙ of_le window.len part room.part

-- it begins and ends where the window has pages
pub record Touches (window : Window) (start : ℕ) (item : NodeItem) : Type 0 where
  pub low : window.lo < item.end
  pub high : start < window.hi
  pub long : start + window.len ≤ item.end

pub touches : (window : Window) (leaf : Bool) (start : ℕ) (item : NodeItem) → 1 ≤ window.len → may_have_room window leaf start item ≡ true → Touches window start item
touches window leaf start item some is =
    let room = room_of window leaf start item is in
    let part = room.part in
    record { low = omega arith; high = omega arith; long = omega arith }

-- the start in an entry lies in it, and in the window
pub record Placed (window : Window) (start end s : ℕ) : Type 0 where
  pub above : start ≤ s
  pub within : s + window.len ≤ end
  pub low : window.lo ≤ s
  pub high : s + window.len ≤ window.hi

edge_placed : (side : Side) (window : Window) (start : ℕ) (item : NodeItem) → 1 ≤ window.len → window.len ≤ min item.end window.hi - max start window.lo
    → Placed window start item.end (edge side window start item)
edge_placed Low window start item some part = record { above = omega arith; within = omega arith; low = omega arith; high = omega arith }
edge_placed High window start item some part = record { above = omega arith; within = omega arith; low = omega arith; high = omega arith }

-- one entry: either it has room, or not
pub spot_some : (side : Side) (window : Window) (start : ℕ) (item : NodeItem) → may_have_room window true start item ≡ true
    → spot side window start item ≡ Some (edge side window start item)
unfolding spot
spot_some side window start item is = ap (λ b. if b then Some (edge side window start item) else None) is

pub spot_none : (side : Side) (window : Window) (start : ℕ) (item : NodeItem) → may_have_room window true start item ≡ false
    → spot side window start item ≡ None
unfolding spot
spot_none side window start item is = ap (λ b. if b then Some (edge side window start item) else None) is

pub record Spot (side : Side) (window : Window) (start : ℕ) (item : NodeItem) (s : ℕ) : Type 0 where
  pub may : may_have_room window true start item ≡ true
  pub is : s ≡ edge side window start item
  pub placed : Placed window start item.end s

pub spot_from : (side : Side) (window : Window) (start : ℕ) (item : NodeItem) (s : ℕ) → 1 ≤ window.len → spot side window start item ≡ Some s
    → Spot side window start item s
spot_from side window start item s some is = elim (cases_Bool (may_have_room window true start item)) as (λ _. Spot side window start item s) [
  | inl may ↦
      let told : Some s ≡ Some (edge side window start item) = sym is ∙ spot_some side window start item may in
      let same : s ≡ edge side window start item = cc in
      let placed = edge_placed side window start item some (room_of window true start item may).part in
      record { may = may; is = same; placed = subst (λ (n : ℕ). Placed window start item.end n) (sym same) placed }
  | inr out ↦ let none = sym (spot_none side window start item out) ∙ is in absurd (cc)
]
