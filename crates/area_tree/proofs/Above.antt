-- For `append`: areas in order, listed from a page on.
use Rattle.std.proofs.Common.{ℕ, ◌≡◌, ◌<◌, ◌≤◌, ◌∙◌, true, false, List, [], ◌∷◌, Option, Some, None, refl, sym, ap, arith, ◌⊎◌, inl, inr}
use Rattle.std.specs.Prelude.{nat_lt, filter, map}
use Rattle.std.proofs.lemmas.Bool.{cases_Bool, ltb-true, ltb-false, lt-ltb, le-ltb}
use Rattle.mm_types.specs.declared.area.Record.{Record}
use Rattle.split_merge.specs.Finding.{first_from}
use Rattle.mm_types.specs.declared.slot.Slot.{Slot}
use Rattle.maple_node.specs.Trees.{Pair}
use Rattle.maple_gap.specs.Gaps.{first_pair_from as first_pair, slot_in}
use Rattle.area_tree.specs.SpanTrees.{ArePairs}
use Rattle.area_tree.specs.AreaTrees.{shown_at, areas_shown, AreasRise, AreRecords}
use Rattle.area_tree.proofs.Order.{areas_rise}
use Rattle.area_tree.proofs.Finding.{shown_in, first_shown}

-- the areas that end above a page
abbrev pub after : ℕ → List Record → List Record
after page areas = filter (λ (area : Record). nat_lt page area.span.hi) areas

-- all do where they stand from there on
pub after_all : (limit start page : ℕ) (areas : List Record) → AreasRise limit start areas → page ≤ start → after page areas ≡ areas
after_all limit start page [] rise upto = refl
after_all limit start page (area ∷ areas) rise upto =
    let test : nat_lt page area.span.hi ≡ true = lt-ltb page area.span.hi (omega (arith, rise.0, rise.1)) in
    rw test (ap (λ (rest : List Record). area ∷ rest) (after_all limit area.span.hi page areas rise.3 (omega (arith, rise.0, rise.1))))

-- the first of them
pub first_above : (page : ℕ) (areas : List Record) (found : Record) → first_from areas page ≡ Some found → page < found.span.hi
first_above page [] found is = cc
first_above page (area ∷ areas) found is = by (first_above page areas found) (cases_Bool (nat_lt page area.span.hi))
  where
    by : (first_from areas page ≡ Some found → page < found.span.hi) → ((nat_lt page area.span.hi ≡ true) ⊎ (nat_lt page area.span.hi ≡ false)) → page < found.span.hi
    by rest (inl test) =
        let same : ◌≡◌ {A = Option Record} (Some area) (Some found) = rw test at is in
        let equal : area ≡ found = cc in
        omega (arith, ltb-true page area.span.hi test, ap (λ (a : Record). a.span.hi) equal)
    by rest (inr test) = rest (rw test at is)

-- and the others end above it
pub after_first : (limit start page : ℕ) (areas : List Record) (found : Record) → AreasRise limit start areas → first_from areas page ≡ Some found
    → after page areas ≡ found ∷ after found.span.hi areas
after_first limit start page [] found rise is = cc
after_first limit start page (area ∷ areas) found rise is = by (after_first limit area.span.hi page areas found rise.3) (cases_Bool (nat_lt page area.span.hi))
  where
    by : (first_from areas page ≡ Some found → after page areas ≡ found ∷ after found.span.hi areas)
        → ((nat_lt page area.span.hi ≡ true) ⊎ (nat_lt page area.span.hi ≡ false)) → after page (area ∷ areas) ≡ found ∷ after found.span.hi (area ∷ areas)
    by next (inl test) =
        let same : ◌≡◌ {A = Option Record} (Some area) (Some found) = rw test at is in
        let equal : area ≡ found = cc in
        let ended : nat_lt found.span.hi area.span.hi ≡ false = le-ltb found.span.hi area.span.hi (omega (arith, ap (λ (a : Record). a.span.hi) equal)) in
        let all = after_all limit area.span.hi page areas rise.3 (omega (arith, ltb-true page area.span.hi test)) in
        let rest = after_all limit area.span.hi found.span.hi areas rise.3 (omega (arith, ap (λ (a : Record). a.span.hi) equal)) in
        rw (test, ended) (ap (λ (rest : List Record). area ∷ rest) (all ∙ sym rest) ∙ ap (λ (a : Record). a ∷ after found.span.hi areas) equal)
    by next (inr test) =
        let later : first_from areas page ≡ Some found = rw test at is in
        let above = first_above page areas found later in
        let ended : nat_lt found.span.hi area.span.hi ≡ false = le-ltb found.span.hi area.span.hi (omega (arith, above, ltb-false page area.span.hi test)) in
        rw (test, ended) (next later)

-- where there is none, none does
pub after_none : (page : ℕ) (areas : List Record) → first_from areas page ≡ None → after page areas ≡ []
after_none page [] is = refl
after_none page (area ∷ areas) is = by (after_none page areas) (cases_Bool (nat_lt page area.span.hi))
  where
    by : (first_from areas page ≡ None → after page areas ≡ []) → ((nat_lt page area.span.hi ≡ true) ⊎ (nat_lt page area.span.hi ≡ false)) → after page (area ∷ areas) ≡ []
    by rest (inl test) =
        let same : ◌≡◌ {A = Option Record} (Some area) None = rw test at is in cc
    by rest (inr test) =
        let later : first_from areas page ≡ None = rw test at is in
        rw test (rest later)

-- what the slot of the first pair above a page shows is the first area there
pub next_above : (records : List Record) (slots limit page : ℕ) (pairs : List Pair) (slot : Option Slot) (shown : Option Record) (area : Record)
    → ArePairs slots limit 0 pairs → AreRecords records pairs → slot ≡ slot_in (first_pair pairs page) → shown ≡ shown_in records slot → shown ≡ Some area
    → after page (areas_shown (map (shown_at records) pairs)) ≡ area ∷ after area.span.hi (areas_shown (map (shown_at records) pairs))
next_above records slots limit page pairs slot shown area are spans found shows is =
    after_first limit 0 page (areas_shown (map (shown_at records) pairs)) area (areas_rise records slots limit 0 pairs are spans)
    (sym (first_shown records pairs page spans) ∙ ap (shown_in records) (sym found) ∙ sym shows ∙ is)

-- and where there is no pair, there is no area
pub none_above : (records : List Record) (page : ℕ) (pairs : List Pair) (slot : Option Slot) (shown : Option Record)
    → AreRecords records pairs → slot ≡ slot_in (first_pair pairs page) → shown ≡ shown_in records slot → shown ≡ None
    → after page (areas_shown (map (shown_at records) pairs)) ≡ []
none_above records page pairs slot shown spans found shows is =
    after_none page (areas_shown (map (shown_at records) pairs))
    (sym (first_shown records pairs page spans) ∙ ap (shown_in records) (sym found) ∙ sym shows ∙ is)
