-- For `descend`: of the items of a node that may have room, two are searched.
use Rattle.std.proofs.Common.{ℕ, ◌≡◌, ◌≢◌, ◌≤◌, ◌+◌, Bool, true, false, List, [], ◌∷◌, length, get_or, drop, Option, Some, None, refl, sym, ap, ◌∙◌, arith, inl, inr}
use Rattle.std.specs.Prelude.{if◌then◌else◌}
use Rattle.std.specs.Option.{option_or}
use Rattle.std.proofs.lemmas.Bool.{cases_Bool}
use Rattle.maple_node.specs.declared.item.NodeItem.{NodeItem}
use Rattle.maple_node.specs.Nodes.{node_items, items_end}
use Rattle.maple_node.specs.Levels.{AllFrom}
use Rattle.maple_node.specs.declared.place.Place.{Place}
use Rattle.maple_node.specs.Codec.{width_of, listed_at}
use Rattle.maple_node.proofs.Parts.{listed_there}
use Rattle.maple_gap.specs.declared.window.Side.{Side}
use Rattle.maple_gap.specs.declared.window.Side.TheVariants.{Low, High}
use Rattle.maple_gap.specs.declared.window.Window.{Window}
use Rattle.maple_gap.specs.declared.window.Choice.{Choice}
use Rattle.maple_gap.specs.Internal.Searches.{may_have_room, pick, chosen, chosen_from, IsFar}
use Rattle.maple_gap.proofs.Best.{or_none, or_some, pick_none, pick_assoc, touches}
use Rattle.maple_gap.proofs.Under.{over, Known}

-- a place comes after another in the order of the search
abbrev pub After : Side → Place → Place → Type 0
After Low p q = p.item.end ≤ q.start
After High p q = q.item.end ≤ p.start

-- what comes after a place with room does not go beyond the edge where the search begins
pub far_after : (side : Side) (window : Window) (a b : Bool) (p q : Place) → 1 ≤ window.len → may_have_room window a p.start p.item ≡ true → After side p q
    → IsFar side window q
far_after Low window a b p q some may after = let is = (touches window a p.start p.item some may).low in omega arith
far_after High window a b p q some may after = let is = (touches window a p.start p.item some may).high in omega arith

-- what comes before a place with room, and does not go beyond that edge, has room
pub found_before : (side : Side) (window : Window) (leaf other : Bool) (found : ℕ → NodeItem → Option ℕ) (q r : Place) → 1 ≤ window.len
    → Known window leaf found q.start q.item → may_have_room window leaf q.start q.item ≡ true → IsFar side window q
    → may_have_room window other r.start r.item ≡ true → After side q r → found q.start q.item ≡ None → ⊥
found_before Low window leaf other found q r some known may far room after none =
    let is = (touches window other r.start r.item some room).high in
    known.some may far (omega arith) none
found_before High window leaf other found q r some known may far room after none =
    let is = (touches window other r.start r.item some room).low in
    known.some may (omega arith) far none

-- a place among items from one page up to another, that may have room
pub record IsIn (window : Window) (leaf : Bool) (P : ℕ → NodeItem → Type 0) (begin page : ℕ) (place : Place) : Type 0 where
  pub known : P place.start place.item
  pub may : may_have_room window leaf place.start place.item ≡ true
  pub above : begin ≤ place.start
  pub within : place.item.end ≤ page

-- two places, the second after the first
abbrev pub AreChosen : Side → Window → Bool → (ℕ → NodeItem → Type 0) → ℕ → ℕ → Option Place → Option Place → Type 0
AreChosen side window leaf P begin page None None = Unit {0}
AreChosen side window leaf P begin page None (Some q) = ⊥
AreChosen side window leaf P begin page (Some p) None = IsIn window leaf P begin page p
AreChosen side window leaf P begin page (Some p) (Some q) = IsIn window leaf P begin page p × IsIn window leaf P begin page q × After side p q

-- what is found in a place, and in the first of two or else in the second
abbrev pub told_in : (ℕ → NodeItem → Option ℕ) → Option Place → Option ℕ
told_in found None = None
told_in found (Some p) = found p.start p.item

abbrev pub told : (ℕ → NodeItem → Option ℕ) → Option Place → Option Place → Option ℕ
told found first second = option_or (told_in found first) (told_in found second)

-- the same up to a page above
in_more : (window : Window) (leaf : Bool) (P : ℕ → NodeItem → Type 0) (begin page next : ℕ) (p : Place) → page ≤ next
    → IsIn window leaf P begin page p → IsIn window leaf P begin next p
in_more window leaf P begin page next p more is = let within = is.within in
    record { known = is.known; may = is.may; above = is.above; within = omega arith }

chosen_more : (side : Side) (window : Window) (leaf : Bool) (P : ℕ → NodeItem → Type 0) (begin page next : ℕ) (first second : Option Place) → page ≤ next
    → AreChosen side window leaf P begin page first second → AreChosen side window leaf P begin next first second
chosen_more side window leaf P begin page next None None more is = tt
chosen_more side window leaf P begin page next None (Some q) more is = absurd is
chosen_more side window leaf P begin page next (Some p) None more is = in_more window leaf P begin page next p more is
chosen_more side window leaf P begin page next (Some p) (Some q) more is =
    (in_more window leaf P begin page next p more is.0, in_more window leaf P begin page next q more is.1, is.2)

-- one item more
record Taken (side : Side) (window : Window) (leaf : Bool) (P : ℕ → NodeItem → Type 0) (found : ℕ → NodeItem → Option ℕ) (begin page : ℕ) (first second : Option Place) (x : Place) : Type 0 where
  pub are : AreChosen side window leaf P begin x.item.end (chosen side (record { first = first; second = second }) x).first (chosen side (record { first = first; second = second }) x).second
  pub same : pick side (told found first second) (found x.start x.item)
      ≡ told found (chosen side (record { first = first; second = second }) x).first (chosen side (record { first = first; second = second }) x).second

taken : (side : Side) (window : Window) (leaf : Bool) (P : ℕ → NodeItem → Type 0) (found : ℕ → NodeItem → Option ℕ) (begin page : ℕ) (first second : Option Place)
    (x : Place) → 1 ≤ window.len → ((start : ℕ) (item : NodeItem) → P start item → Known window leaf found start item)
    → AreChosen side window leaf P begin page first second → x.start ≡ page → begin ≤ page → P x.start x.item → may_have_room window leaf x.start x.item ≡ true
    → Taken side window leaf P found begin page first second x
taken side window leaf P found begin page None (Some q) x some all are at above known may = absurd are
taken Low window leaf P found begin page None None x some all are at above known may = record {
  are = record { known = known; may = may; above = omega arith; within = omega arith };
  same = sym (or_none (found x.start x.item));
}
taken High window leaf P found begin page None None x some all are at above known may = record {
  are = record { known = known; may = may; above = omega arith; within = omega arith };
  same = refl;
}
taken Low window leaf P found begin page (Some p) None x some all are at above known may =
    let past = (all x.start x.item known).past in
    let within = are.within in record {
      are = (
        in_more window leaf P begin page x.item.end p (omega arith) are,
        record { known = known; may = may; above = omega arith; within = omega arith },
        omega arith,
      );
      same = ap (λ o. option_or o (found x.start x.item)) (or_none (found p.start p.item));
    }
taken High window leaf P found begin page (Some p) None x some all are at above known may =
    let past = (all x.start x.item known).past in
    let within = are.within in record {
      are = (
        record { known = known; may = may; above = omega arith; within = omega arith },
        in_more window leaf P begin page x.item.end p (omega arith) are,
        omega arith,
      );
      same = ap (λ o. option_or (found x.start x.item) o) (or_none (found p.start p.item));
    }
taken Low window leaf P found begin page (Some p) (Some q) x some all are at above known may =
    let past = (all x.start x.item known).past in
    let within = are.1.within in
    let far = far_after Low window leaf leaf p q some are.0.may are.2 in
    let there = found_before Low window leaf leaf found q x some (all q.start q.item are.1.known) are.1.may far may (omega arith) in
    record {
      are = (
        in_more window leaf P begin page x.item.end p (omega arith) are.0,
        in_more window leaf P begin page x.item.end q (omega arith) are.1,
        are.2,
      );
      same = kept (found p.start p.item) (found q.start q.item) (found x.start x.item) there;
    } where
      kept : (o p q : Option ℕ) → (p ≡ None → ⊥) → option_or (option_or o p) q ≡ option_or o p
      kept None p q there = or_some p q there
      kept (Some s) p q there = refl
taken High window leaf P found begin page (Some p) (Some q) x some all are at above known may =
    let past = (all x.start x.item known).past in
    let within = are.0.within in
    let far = far_after High window leaf leaf x p some may (omega arith) in
    let there = found_before High window leaf leaf found p q some (all p.start p.item are.0.known) are.0.may far are.1.may are.2 in
    record {
      are = (
        record { known = known; may = may; above = omega arith; within = omega arith },
        in_more window leaf P begin page x.item.end p (omega arith) are.0,
        omega arith,
      );
      same = ap (λ o. option_or (found x.start x.item) o) (or_some (found p.start p.item) (found q.start q.item) there);
    }

-- all items of a node
pub record Chosen (side : Side) (window : Window) (leaf : Bool) (P : ℕ → NodeItem → Type 0) (found : ℕ → NodeItem → Option ℕ) (begin end : ℕ) (before : Option ℕ) (rest : Option ℕ) (choice : Choice) : Type 0 where
  pub are : AreChosen side window leaf P begin end choice.first choice.second
  pub same : pick side before rest ≡ told found choice.first choice.second

pub chosen_all : (side : Side) (window : Window) (leaf : Bool) (P : ℕ → NodeItem → Type 0) (found : ℕ → NodeItem → Option ℕ) (begin page : ℕ) (choice : Choice)
    (items : List NodeItem) → 1 ≤ window.len → ((start : ℕ) (item : NodeItem) → P start item → Known window leaf found start item)
    → AreChosen side window leaf P begin page choice.first choice.second → begin ≤ page → AllFrom P page items
    → Chosen side window leaf P found begin (items_end page items) (told found choice.first choice.second) (over side found page items)
    (chosen_from side window leaf choice page items)
unfolding chosen_from
chosen_all side window leaf P found begin page choice [] some all are above each = record { are = are; same = one side (told found choice.first choice.second) } where
  one : (side : Side) (o : Option ℕ) → pick side o None ≡ o
  one Low o = or_none o
  one High o = refl
chosen_all side window leaf P found begin page choice (x ∷ xs) some all are above each =
    let known = all page x each.0 in
    let past = known.past in
    let here = told found choice.first choice.second in
    let rest = over side found x.end xs in
    let place : Place = record { start = page; item = x } in
    let more = chosen side choice place in
    let Goal : Choice → Type 0 = λ c. Chosen side window leaf P found begin (items_end x.end xs) here (pick side (found page x) rest)
    (chosen_from side window leaf c x.end xs) in
    elim (cases_Bool (may_have_room window leaf page x)) as (λ _. Goal (if may_have_room window leaf page x then more else choice)) [
      | inl may ↦
          let step = taken side window leaf P found begin page choice.first choice.second place some all are refl above each.0 may in
          let deep = chosen_all side window leaf P found begin x.end more xs some all step.are (omega arith) each.1 in
          rw may (record {
            are = deep.are;
            same = sym (pick_assoc side here (found page x) rest) ∙ ap (λ o. pick side o rest) step.same ∙ deep.same;
          })
      | inr out ↦
          let none : found page x ≡ None = nothing (found page x) refl out known in
          let deep = chosen_all side window leaf P found begin x.end choice xs some all
          (chosen_more side window leaf P begin page x.end choice.first choice.second (omega arith) are) (omega arith) each.1 in
          rw out (record {
            are = deep.are;
            same = ap (λ o. pick side here (pick side o rest)) none ∙ ap (pick side here) (pick_none side rest) ∙ deep.same;
          })
    ] where
      nothing : (o : Option ℕ) → o ≡ found page x → may_have_room window leaf page x ≡ false → Known window leaf found page x → o ≡ None
      nothing None is out known = refl
      nothing (Some s) is out known = let may = known.room s (sym is) in absurd (cc)

-- For `next_room` and `choose`: what is chosen with the item that is listed at a place, which may have room or may not
pub chosen_step : (side : Side) (window : Window) (leaf : Bool) (choice : Choice) (page place : ℕ) (words : List ℕ) (fits : Bool)
    → place + width_of leaf ≤ length words → get_or words place 0 ≢ 0 → may_have_room window leaf page (listed_at leaf words place) ≡ fits
    → chosen_from side window leaf choice page (node_items leaf (drop place words))
    ≡ chosen_from side window leaf (if fits then chosen side choice (record { start = page; item = listed_at leaf words place }) else choice)
    (listed_at leaf words place).end (node_items leaf (drop (place + width_of leaf) words))
unfolding chosen_from
chosen_step side window leaf choice page place words fits room some is =
    ap (chosen_from side window leaf choice page) (listed_there leaf words place room some)
    ∙ ap (λ (b : Bool). chosen_from side window leaf (if b then chosen side choice (record { start = page; item = listed_at leaf words place }) else choice)
    (listed_at leaf words place).end (node_items leaf (drop (place + width_of leaf) words))) is

-- and where none is listed
pub chosen_none : (side : Side) (window : Window) (leaf : Bool) (choice : Choice) (page place : ℕ) (words : List ℕ)
    → node_items leaf (drop place words) ≡ [] → chosen_from side window leaf choice page (node_items leaf (drop place words)) ≡ choice
unfolding chosen_from
chosen_none side window leaf choice page place words none = ap (chosen_from side window leaf choice page) none
