-- A plan of one change makes the list in which an area grew.
use Rattle.std.proofs.Common.{ℕ, ◌≡◌, ◌+◌, ◌<◌, ◌⊎◌, ◌∙◌, refl, sym, ap, true, false, not, nat_lt, List, [], ◌∷◌, map, filter, Some, arith, inl, inr}
use Rattle.std.specs.List.{AllByRecursion as Each, find}
use Rattle.std.proofs.lemmas.Bool.{cases_Bool, cond-true, cond-false}
use Rattle.std.proofs.lemmas.Bool.Decides.{nat_tests}
use Rattle.std.proofs.lemmas.List.Elements.{All-from_recursion}
use Rattle.mm_types.specs.declared.area.Record.{Record}
use Rattle.mm_types.specs.Records.{IsValid}
use Rattle.area_list.specs.Changes.{insert_area}
use Rattle.area_list.proofs.Elements.{Pairs, Each-weaker}
use Rattle.area_list.proofs.Finding.{find_keeps, find_passes}
use Rattle.area_list.proofs.Parts.{Apart}
use Rattle.area_rules.specs.Growing.{is_above, grown_to, grown_at, grown_list}
use Rattle.area_rules.proofs.Growing.{IsClear}
use Rattle.split_merge.specs.declared.plan.Change.TheVariants.{Alter}
use Rattle.split_merge.specs.Plans.{starts_alike, applied}

apart_start : (a old : Record) → (a.span.lo < old.span.lo) ⊎ (old.span.lo < a.span.lo) → starts_alike a old ≡ false
apart_start a old sides = elim sides [ inl below ↦ grind (arith, nat_tests, below) | inr above ↦ grind (arith, nat_tests, above) ]

not_above : (page : ℕ) (a : Record) → (a.span.lo < page + 1) ⊎ (page + 1 < a.span.lo) → is_above page a ≡ false
not_above page a sides = elim sides [ inl below ↦ grind (arith, nat_tests, below) | inr above ↦ grind (arith, nat_tests, above) ]

-- areas above the one that grows stay
kept_above : (old : Record) (areas : List Record) → Each (λ a. old.span.lo < a.span.lo) areas → filter (λ a. not (starts_alike a old)) areas ≡ areas
kept_above old [] above = refl
kept_above old (a ∷ areas) above =
    let p = λ (r : Record). not (starts_alike r old) in
    cond-true (p a) (a ∷ filter p areas) (filter p areas) (ap not (apart_start a old (inr above.0)))
    ∙ ap (λ (l : List Record). a ∷ l) (kept_above old areas above.1)

grown_above : (page : ℕ) (areas : List Record) → Each (λ a. page + 1 < a.span.lo) areas → map (grown_at page) areas ≡ areas
grown_above page [] above = refl
grown_above page (a ∷ areas) above =
    ap (λ (r : Record). r ∷ map (grown_at page) areas) (cond-false (is_above page a) (grown_to page a) a (not_above page a (inr above.0)))
    ∙ ap (λ (l : List Record). a ∷ l) (grown_above page areas above.1)

insert_first : (new : Record) (areas : List Record) → Each (λ a. new.span.lo < a.span.lo) areas → insert_area new areas ≡ new ∷ areas
insert_first new [] above = refl
insert_first new (a ∷ areas) above =
    let low : nat_lt a.span.lo new.span.lo ≡ false = grind (arith, nat_tests, above.0) in
    cond-false (nat_lt a.span.lo new.span.lo) (a ∷ insert_area new areas) (new ∷ a ∷ areas) low

some_same : {X : Type 0} (x y : X) → Some x ≡ Some y → x ≡ y
some_same x y is = cc

pub alter_grows : (page : ℕ) (areas : List Record) (old : Record) → Each IsValid areas → Each (IsClear page) areas → Pairs Apart areas
    → find (is_above page) areas ≡ Some old
    → insert_area (grown_to page old) (filter (λ a. not (starts_alike a old)) areas) ≡ map (grown_at page) areas
alter_grows page [] old valid clear apart found = cc
alter_grows page (a ∷ areas) old valid clear apart found =
    let p = λ (r : Record). not (starts_alike r old) in
    elim (cases_Bool (is_above page a)) [
      | inl above ↦
          let is : a ≡ old = some_same a old (sym (cond-true (is_above page a) (Some a) (find (is_above page) areas) above) ∙ found) in
          let begins : a.span.lo ≡ page + 1 = grind (arith, nat_tests, above) in
          let later : Each (λ (b : Record). page + 1 < b.span.lo) areas =
          Each-weaker (Apart a) (λ (b : Record). page + 1 < b.span.lo) (λ b after. omega (arith, after.order, valid.0.some_pages, begins)) areas apart.0 in
          let old_begins : old.span.lo ≡ page + 1 = ap (λ (r : Record). r.span.lo) (sym is) ∙ begins in
          let same : p a ≡ false = grind (arith, nat_tests, begins, old_begins) in
          ap (insert_area (grown_to page old)) (cond-false (p a) (a ∷ filter p areas) (filter p areas) same
          ∙ kept_above old areas (Each-weaker (λ (b : Record). page + 1 < b.span.lo) (λ (b : Record). old.span.lo < b.span.lo)
          (λ b high. omega (arith, high, old_begins)) areas later))
          ∙ insert_first (grown_to page old) areas (Each-weaker (λ (b : Record). page + 1 < b.span.lo) (λ (b : Record). page < b.span.lo)
          (λ b high. omega (arith, high)) areas later)
          ∙ ap (λ (r : Record). grown_to page r ∷ areas) (sym is)
          ∙ ap (λ (r : Record). r ∷ areas) (sym (cond-true (is_above page a) (grown_to page a) a above))
          ∙ ap (λ (l : List Record). grown_at page a ∷ l) (sym (grown_above page areas later))
      | inr other ↦
          let rest : find (is_above page) areas ≡ Some old = sym (cond-false (is_above page a) (Some a) (find (is_above page) areas) other) ∙ found in
          let after : Apart a old = find_keeps (Apart a) (is_above page) areas old (All-from_recursion (Apart a) areas apart.0) rest in
          let passes : is_above page old ≡ true = find_passes (is_above page) areas old rest in
          let begins : old.span.lo ≡ page + 1 = grind (arith, nat_tests, passes) in
          let low : a.span.lo < page = elim clear.0.apart [
            | inl over ↦ absurd (omega (arith, over, valid.0.some_pages, after.order, begins))
            | inr under ↦ omega (arith, under, valid.0.some_pages)
          ] in
          let kept : p a ≡ true = ap not (apart_start a old (inl (omega (arith, low, begins)))) in
          let before : nat_lt a.span.lo page ≡ true = grind (arith, nat_tests, low) in
          ap (insert_area (grown_to page old)) (cond-true (p a) (a ∷ filter p areas) (filter p areas) kept)
          ∙ cond-true (nat_lt a.span.lo page) (a ∷ insert_area (grown_to page old) (filter p areas)) (grown_to page old ∷ a ∷ filter p areas) before
          ∙ ap (λ (l : List Record). a ∷ l) (alter_grows page areas old valid.1 clear.1 apart.1 rest)
          ∙ ap (λ (r : Record). r ∷ map (grown_at page) areas) (sym (cond-false (is_above page a) (grown_to page a) a other))
    ]

pub plan_grows : (page : ℕ) (areas : List Record) (old : Record) → Each IsValid areas → Each (IsClear page) areas → Pairs Apart areas
    → find (is_above page) areas ≡ Some old → applied (Alter old (grown_to page old) ∷ []) areas ≡ grown_list page areas
unfolding applied grown_list
plan_grows page areas old valid clear apart found = alter_grows page areas old valid clear apart found
