-- For `descend`: one step down, and what was found at the end.
use Rattle.std.proofs.Common.{ℕ, suc, ◌≡◌, ◌≤◌, Bool, true, List, Option, Some, None, refl, sym, ap, subst, ◌∙◌, arith}
use Rattle.std.specs.Prelude.{IfSome}
use Rattle.std.specs.Option.{option_or}
use Rattle.maple_node.specs.declared.item.NodeItem.{NodeItem}
use Rattle.maple_node.specs.Levels.{is_leaf, items_at, level_of}
use Rattle.maple_node.specs.declared.place.Place.{Place}
use Rattle.maple_gap.specs.declared.window.Side.{Side}
use Rattle.maple_gap.specs.declared.window.Side.TheVariants.{Low, High}
use Rattle.maple_gap.specs.declared.window.Window.{Window}
use Rattle.maple_gap.specs.declared.window.Choice.{Choice}
use Rattle.maple_gap.specs.declared.branch.Branch.{Branch}
use Rattle.maple_gap.specs.Internal.Searches.{may_have_room, edge, nothing_chosen, chosen_from, IsUnder, IsBranch, best_under, best_of, spare_from, IsFar, IsSpare}
use Rattle.maple_gap.proofs.Best.{or_none, or_some, pick_none, best-one, spot_some}
use Rattle.maple_gap.proofs.Under.{found_in, over, found-down, known_under}
use Rattle.maple_gap.proofs.Choices.{After, IsIn, AreChosen, told, far_after, found_before, chosen_all}

-- what was chosen of the items of a node, and what is found there
pub record Seen (side : Side) (window : Window) (at : ℕ → List ℕ) (limit level start : ℕ) (item : NodeItem) (first second : Option Place) : Type 0 where
  pub are : AreChosen side window (is_leaf level) (IsUnder at limit level) start item.end first second
  pub same : found_in side window at (suc level) start item ≡ told (found_in side window at level) first second

pub seen : (side : Side) (window : Window) (at : ℕ → List ℕ) (limit up level start : ℕ) (item : NodeItem) (leaf : Bool) (items : List NodeItem) (choice : Choice)
    → 1 ≤ window.len → up ≡ suc level → IsUnder at limit up start item → leaf ≡ is_leaf level → items ≡ items_at at leaf item.word
    → choice ≡ chosen_from side window leaf nothing_chosen start items → Seen side window at limit level start item choice.first choice.second
unfolding IsUnder
seen side window at limit up level start item leaf items choice some e above is_of are is = from (opened e above) where
  opened : up ≡ suc level → IsUnder at limit up start item → IsUnder at limit (suc level) start item
  opened e above = subst (λ (n : ℕ). IsUnder at limit n start item) e above

  from : IsUnder at limit (suc level) start item → Seen side window at limit level start item choice.first choice.second
  from under =
      let found = found_in side window at level in
      let own = items_at at (is_leaf level) item.word in
      let all = chosen_all side window (is_leaf level) (IsUnder at limit level) found start start nothing_chosen own some
      (λ s x u. known_under side window at limit level s x some u) tt (omega arith) under.1 in
      let Told : Choice → Type 0 = λ c. Seen side window at limit level start item c.first c.second in
      let same : choice ≡ chosen_from side window (is_leaf level) nothing_chosen start own =
      is ∙ ap (chosen_from side window leaf nothing_chosen start) are
      ∙ ap (λ (b : Bool). chosen_from side window b nothing_chosen start (items_at at b item.word)) is_of in
      let here : Told (chosen_from side window (is_leaf level) nothing_chosen start own) = record {
        are = subst (λ (p : ℕ). AreChosen side window (is_leaf level) (IsUnder at limit level) start p
            (chosen_from side window (is_leaf level) nothing_chosen start own).first (chosen_from side window (is_leaf level) nothing_chosen start own).second) under.0.until all.are;
        same = found-down side window at limit level start item under ∙ sym (pick_none side (over side found start own)) ∙ all.same;
      } in
      subst Told (sym same) here

-- the spare branch, if there is one, comes after the branch that was reached
abbrev pub IfSpare : Side → Window → (ℕ → List ℕ) → Branch → Place → Option Branch → Type 0
IfSpare side window at from place None = Unit {0}
IfSpare side window at from place (Some spare) = IsSpare side window at spare × (spare.level ≤ from.level) × After side place spare.place

-- what is sought is under the branch that was reached, or else under the spare one
pub record Going (side : Side) (window : Window) (at : ℕ → List ℕ) (from branch : Branch) (spare : Option Branch) : Type 0 where
  pub limit : ℕ
  pub under : IsUnder at limit branch.level branch.place.start branch.place.item
  pub may : may_have_room window (is_leaf branch.level) branch.place.start branch.place.item ≡ true
  pub low : branch.level ≤ from.level
  pub sought : best_under side window at from ≡ option_or (best_under side window at branch) (best_of side window at spare)
  pub far : IsFar side window from.place → IsFar side window branch.place × (best_under side window at from ≡ best_under side window at branch)
  pub rest : IfSpare side window at from branch.place spare

pub begun : (side : Side) (window : Window) (at : ℕ → List ℕ) (from : Branch) → IsBranch at from
    → may_have_room window (is_leaf from.level) from.place.start from.place.item ≡ true → Going side window at from from None
begun side window at from is may = record {
  limit = is.limit;
  under = is.under;
  may = may;
  low = omega arith;
  sought = sym (or_none (best_under side window at from));
  far = λ far. (far, refl);
  rest = tt;
}

-- a place inside another
far_in : (side : Side) (window : Window) (outer inner : Place) → outer.start ≤ inner.start → inner.item.end ≤ outer.item.end → IsFar side window outer
    → IsFar side window inner
far_in Low window outer inner above within far = omega arith
far_in High window outer inner above within far = omega arith

after_in : (side : Side) (outer inner next : Place) → outer.start ≤ inner.start → inner.item.end ≤ outer.item.end → After side outer next
    → After side inner next
after_in Low outer inner next above within after = omega arith
after_in High outer inner next above within after = omega arith

rest_in : (side : Side) (window : Window) (at : ℕ → List ℕ) (from : Branch) (outer inner : Place) (spare : Option Branch) → outer.start ≤ inner.start
    → inner.item.end ≤ outer.item.end → IfSpare side window at from outer spare → IfSpare side window at from inner spare
rest_in side window at from outer inner None above within rest = tt
rest_in side window at from outer inner (Some spare) above within rest = (rest.0, rest.1, after_in side outer inner spare.place above within rest.2)

-- what is found under a branch above the entries
found_up : (side : Side) (window : Window) (at : ℕ → List ℕ) (branch : Branch) (level : ℕ) → branch.level ≡ suc level
    → best_under side window at branch ≡ found_in side window at (suc level) branch.place.start branch.place.item
found_up side window at branch level e = ap (λ (n : ℕ). found_in side window at n branch.place.start branch.place.item) e

kept : (o p q : Option ℕ) → (p ≡ None → ⊥) → option_or (option_or o p) q ≡ option_or o p
kept None p q there = or_some p q there
kept (Some s) p q there = refl

-- down to an item that was chosen
pub went : (side : Side) (window : Window) (at : ℕ → List ℕ) (from branch : Branch) (spare : Option Branch) (level : ℕ) (first second : Option Place) (p : Place)
    → 1 ≤ window.len → (going : Going side window at from branch spare) → branch.level ≡ suc level
    → Seen side window at going.limit level branch.place.start branch.place.item first second → first ≡ Some p
    → Going side window at from (record { place = p; level = level }) (spare_from second level spare)
went side window at from branch spare level first second p some going e looked is =
    step second (subst (λ o. Seen side window at going.limit level branch.place.start branch.place.item o second) is looked) where
      next : Branch
      next = record { place = p; level = level }

      step : (second : Option Place) → Seen side window at going.limit level branch.place.start branch.place.item (Some p) second
          → Going side window at from (record { place = p; level = level }) (spare_from second level spare)
      step None here =
          let found = found_in side window at level in
          let chosen = here.are in
          let low = going.low in
          let told : best_under side window at branch ≡ found p.start p.item =
          found_up side window at branch level e ∙ here.same ∙ or_none (found p.start p.item) in record {
            limit = going.limit;
            under = chosen.known;
            may = chosen.may;
            low = omega arith;
            sought = going.sought ∙ ap (λ o. option_or o (best_of side window at spare)) told;
            far = λ f. let both = going.far f in (far_in side window branch.place p chosen.above chosen.within both.0, both.1 ∙ told);
            rest = rest_in side window at from branch.place p spare chosen.above chosen.within going.rest;
          }
      step (Some q) here =
          let found = found_in side window at level in
          let chosen = here.are in
          let low = going.low in
          let told : best_under side window at branch ≡ option_or (found p.start p.item) (found q.start q.item) =
          found_up side window at branch level e ∙ here.same in
          let ending_after = far_after side window (is_leaf level) (is_leaf level) p q some chosen.0.may chosen.2 in
          record {
            limit = going.limit;
            under = chosen.0.known;
            may = chosen.0.may;
            low = omega arith;
            sought = going.sought ∙ ap (λ o. option_or o (best_of side window at spare)) told
                ∙ dropped spare going.rest q chosen.1 ending_after (found p.start p.item);
            far = λ f.
                let both = going.far f in
                let there = far_in side window branch.place p chosen.0.above chosen.0.within both.0 in
                let has = found_before side window (is_leaf level) (is_leaf level) found p q some
                (known_under side window at going.limit level p.start p.item some chosen.0.known) chosen.0.may there chosen.1.may chosen.2 in
                (there, both.1 ∙ told ∙ or_some (found p.start p.item) (found q.start q.item) has);
            rest = (
              record {
                branch = record { limit = going.limit; under = chosen.1.known };
                room = chosen.1.may;
                far = ending_after;
              },
              omega arith,
              chosen.2,
            );
          } where
            dropped : (spare : Option Branch) → IfSpare side window at from branch.place spare → (q : Place)
                → IsIn window (is_leaf level) (IsUnder at going.limit level) branch.place.start branch.place.item.end q → IsFar side window q → (o : Option ℕ)
                → option_or (option_or o (found_in side window at level q.start q.item)) (best_of side window at spare)
                ≡ option_or o (found_in side window at level q.start q.item)
            dropped None rest q chosen ending_after o = or_none (option_or o (found_in side window at level q.start q.item))
            dropped (Some other) rest q chosen ending_after o =
                let after = after_in side branch.place q other.place chosen.above chosen.within rest.2 in
                let found = found_in side window at level in
                let has = found_before side window (is_leaf level) (is_leaf other.level) found q other.place some
                (known_under side window at going.limit level q.start q.item some chosen.known) chosen.may ending_after rest.0.room after in
                kept o (found q.start q.item) (best_under side window at other) has

-- nothing was chosen, so nothing is found under the branch
pub stuck : (side : Side) (window : Window) (at : ℕ → List ℕ) (from branch : Branch) (spare : Option Branch) (level : ℕ) (first second : Option Place)
    → (going : Going side window at from branch spare) → branch.level ≡ suc level
    → Seen side window at going.limit level branch.place.start branch.place.item first second → first ≡ None → best_under side window at branch ≡ None
stuck side window at from branch spare level first second going e looked is =
    found_up side window at branch level e ∙ step second (subst (λ o. Seen side window at going.limit level branch.place.start branch.place.item o second) is looked) where
      step : (second : Option Place) → Seen side window at going.limit level branch.place.start branch.place.item None second
          → found_in side window at (suc level) branch.place.start branch.place.item ≡ None
      step None here = here.same
      step (Some q) here = absurd here.are

-- the entry at the end has room
pub ended : (side : Side) (window : Window) (at : ℕ → List ℕ) (from branch : Branch) (spare : Option Branch) → Going side window at from branch spare
    → branch.level ≡ 0 → best_under side window at branch ≡ Some (edge side window branch.place.start branch.place.item)
unfolding level_of
ended side window at from branch spare going low =
    let start = branch.place.start in
    let item = branch.place.item in
    let may : may_have_room window true start item ≡ true = ap (λ (n : ℕ). may_have_room window (is_leaf n) start item) (sym low) ∙ going.may in
    ap (λ (n : ℕ). found_in side window at n start item) low ∙ best-one side window start item ∙ spot_some side window start item may

-- the spare branch as it is answered
pub if_spare : (side : Side) (window : Window) (at : ℕ → List ℕ) (from : Branch) (place : Place) (spare : Option Branch) → IfSpare side window at from place spare
    → IfSome spare (λ s. IsSpare side window at s × (s.level ≤ from.level))
if_spare side window at from place None rest = tt
if_spare side window at from place (Some other) rest = (rest.0, rest.1)
