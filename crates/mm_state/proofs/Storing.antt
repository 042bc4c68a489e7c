-- For `store_moved`: the last of what moved is stored.
use Rattle.std.proofs.Common.{◌≡◌, ◌≤◌, ◌<◌, ◌+◌, ◌-◌, ◌*◌, ℕ, Bool, true, nat_le, ◌||◌, List, [], ◌∷◌, ◌++◌, length, get_or, sum_by, sym, ap, ◌∙◌, subst, append_assoc, arith, ◌⊎◌, inl, inr, length-append}
use Rattle.std.specs.List.{Contains}
use Rattle.std.specs.List.Sorted.{IsPermutation}
use Rattle.std.proofs.lemmas.Bool.{cases_lt}
use Rattle.std.proofs.lemmas.Bool.Decides.{nat_tests}
use Rattle.std.proofs.lemmas.List.{length-map}
use Rattle.std.proofs.lemmas.List.Elements.{All-contains, All-map, Contains-push, Contains-append_left, Contains-append_right, Contains-get_or}
use Rattle.std.proofs.lemmas.List.Sums.{sum_by-append, sum_by_push, get_or-le-sum_by, list_all-from_AllPass}
use Rattle.std.proofs.lemmas.List.Sorted.{length_permutation, All-permutation, sum_by-IsPermutation, IsPermutation-trans, IsPermutation-to_front, IsPermutation-append_left}
use Rattle.mm_types.specs.declared.area.Record.{Record}
use Rattle.area_rules.specs.Placement.{is_free}
use Rattle.area_rules.proofs.Placing.{free_each}
use Rattle.area_slots.specs.Slots.{one_at}
use Rattle.area_tree.specs.declared.shown.ShownArea.{ShownArea}
use Rattle.area_tree.specs.AreaTrees.{areas_shown, times_shown}
use Rattle.mm_state.specs.Internal.AreaStores.{at_page, IsWithin, CanHold}
use Rattle.mm_state.proofs.Hanging.{self}

pub hold_permuted : (most limit : ℕ) (shown others : List ShownArea) → IsPermutation shown others → CanHold most limit shown → CanHold most limit others
hold_permuted most limit shown others moved can = record {
  few = omega (arith, length_permutation shown others moved, can.few);
  within = All-permutation (λ (s : ShownArea). IsWithin limit s.area) shown others moved can.within;
  apart = λ page. omega (arith, sum_by-IsPermutation (λ (s : ShownArea). at_page page s.area) shown others moved, can.apart page);
  once = λ slot. omega (arith, sum_by-IsPermutation (λ (s : ShownArea). one_at slot s.slot) shown others moved, can.once slot);
  slots = All-permutation (λ (s : ShownArea). s.slot < 2 * most + 2) shown others moved can.slots;
}

-- the last that moved comes into the tree
pub moved_in : (tree moved after rest : List ShownArea) (shown : ShownArea) → moved ≡ rest ++ shown ∷ [] → IsPermutation (shown ∷ tree) after
    → IsPermutation (tree ++ moved) (after ++ rest)
moved_in tree moved after rest shown last came =
    subst (λ (list : List ShownArea). IsPermutation list (after ++ rest)) (append_assoc tree rest (shown ∷ []) ∙ ap (λ list. tree ++ list) (sym last))
    (IsPermutation-trans ((tree ++ rest) ++ shown ∷ []) (shown ∷ (tree ++ rest)) (after ++ rest) (IsPermutation-to_front (tree ++ rest) shown)
    (IsPermutation-append_left rest (shown ∷ tree) after came))

-- two areas with no page in common stand on two sides
on_sides : (other area : Record) → other.span.lo < other.span.hi → area.span.lo < area.span.hi → ((page : ℕ) → at_page page other + at_page page area ≤ 1)
    → nat_le (area.span.lo + (area.span.hi - area.span.lo)) other.span.lo || nat_le other.span.hi area.span.lo ≡ true
on_sides other area some pages apart = by (cases_lt area.span.lo other.span.hi) (cases_lt other.span.lo area.span.hi) (cases_lt area.span.lo other.span.lo)
  where
    two : (page : ℕ) → at_page page other ≡ 1 → at_page page area ≡ 1 → ⊥
    two page one more = omega (arith, apart page, one, more)

    by : ((area.span.lo < other.span.hi) ⊎ (other.span.hi ≤ area.span.lo)) → ((other.span.lo < area.span.hi) ⊎ (area.span.hi ≤ other.span.lo))
        → ((area.span.lo < other.span.lo) ⊎ (other.span.lo ≤ area.span.lo))
        → nat_le (area.span.lo + (area.span.hi - area.span.lo)) other.span.lo || nat_le other.span.hi area.span.lo ≡ true
    by (inr under) begins order = grind (arith, nat_tests)
    by (inl above) (inr over) order = grind (arith, nat_tests)
    by (inl above) (inl under) (inl first) =
        let one : at_page other.span.lo other ≡ 1 = grind (arith, nat_tests) in
        let more : at_page other.span.lo area ≡ 1 = grind (arith, nat_tests) in
        absurd (two other.span.lo one more)
    by (inl above) (inl under) (inr later) =
        let one : at_page area.span.lo other ≡ 1 = grind (arith, nat_tests) in
        let more : at_page area.span.lo area ≡ 1 = grind (arith, nat_tests) in
        absurd (two area.span.lo one more)

module _ (most limit : ℕ) (tree moved rest : List ShownArea) (shown : ShownArea) (last : moved ≡ rest ++ shown ∷ []) (can : CanHold most limit (tree ++ moved)) where
  member : Contains (tree ++ moved) shown
  member = Contains-append_right tree moved shown (subst (λ (list : List ShownArea). Contains list shown) (sym last) (Contains-push rest shown))

  parts : (weight : ShownArea → ℕ) → sum_by weight (tree ++ moved) ≡ sum_by weight tree + sum_by weight rest + weight shown
  parts weight = omega (arith, sum_by-append weight tree moved, ap (sum_by weight) last, sum_by_push weight rest shown)

  pub last_within : IsWithin limit shown.area
  last_within = All-contains (λ (s : ShownArea). IsWithin limit s.area) (tree ++ moved) shown can.within member

  pub last_slot : shown.slot < 2 * most + 2
  last_slot = All-contains (λ (s : ShownArea). s.slot < 2 * most + 2) (tree ++ moved) shown can.slots member

  pub last_free : times_shown shown.slot tree ≡ 0
  last_free = omega (arith, can.once shown.slot, parts (λ s. one_at shown.slot s.slot), self shown.slot)

  pub last_few : length (areas_shown tree) < most
  last_few = omega (
    arith,
    can.few,
    length-append tree moved,
    ap length last,
    length-append rest (shown ∷ []),
    length-map tree (λ (s : ShownArea). s.area),
  )

  pub last_pages : is_free (areas_shown tree) (shown.area.span.hi - shown.area.span.lo) shown.area.span.lo ≡ true
  last_pages = free_each (areas_shown tree) (shown.area.span.hi - shown.area.span.lo) shown.area.span.lo
      ∙ list_all-from_AllPass apart (areas_shown tree) (All-map (λ area. apart area ≡ true) (λ (s : ShownArea). s.area) tree
      (λ k d within. on_sides (get_or tree k d).area shown.area
      (All-contains (λ (s : ShownArea). IsWithin limit s.area) (tree ++ moved) (get_or tree k d) can.within
      (Contains-append_left tree moved (get_or tree k d) (Contains-get_or tree k d within))).0
      last_within.0
      (λ page. omega (
        arith,
        can.apart page,
        parts (λ s. at_page page s.area),
        get_or-le-sum_by (λ (s : ShownArea). at_page page s.area) tree k d within,
      ))))
    where
      apart : Record → Bool
      apart area = nat_le (shown.area.span.lo + (shown.area.span.hi - shown.area.span.lo)) area.span.lo || nat_le area.span.hi shown.area.span.lo
