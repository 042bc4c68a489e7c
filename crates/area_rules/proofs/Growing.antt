-- For `growing_keeps_the_list_canonical` and the step: a list in which the area above a free page grew is as canonical as before.
use Rattle.std.proofs.Common.{ℕ, ◌≡◌, ◌+◌, ◌-◌, ◌≤◌, ◌⊎◌, ◌∙◌, refl, sym, ap, subst, true, false, nat_le, List, [], ◌∷◌, length, map, All, arith, inl, inr}
use Rattle.std.proofs.lemmas.Bool.{cases_Bool, cond-true, cond-false}
use Rattle.std.proofs.lemmas.Bool.Decides.{nat_tests}
use Rattle.std.proofs.lemmas.List.{length-map}
use Rattle.std.proofs.lemmas.List.Elements.{All-nil, All-cons, All-head, All-tail}
use Rattle.mm_types.specs.declared.area.Record.{Record}
use Rattle.mm_types.specs.Records.{IsValid}
use Rattle.area_list.specs.Areas.{joins, Neighbours, IsCanonical}
use Rattle.area_list.proofs.Parts.{joins_touching}
use Rattle.area_rules.specs.Placement.{is_free}
use Rattle.area_rules.specs.Growing.{is_above, grown_to, grown_at, grown_list, AreGrowersPrivate}

-- a page and the one below it are apart from an area
pub record IsClear (page : ℕ) (area : Record) : Type 0 where
  pub apart : (page + 1 ≤ area.span.lo) ⊎ (area.span.hi + 1 ≤ page)

above_parts : (page : ℕ) (area : Record) → is_above page area ≡ true → (area.attr.grows ≡ true) × (area.span.lo ≡ page + 1)
above_parts page area above = grind (arith, nat_tests, above)

-- what growing leaves of an area, whether or not it grows
record Kept (page : ℕ) (old new : Record) : Type 0 where
  pub hi : new.span.hi ≡ old.span.hi
  pub lower : new.span.lo ≤ old.span.lo
  pub low : page ≤ old.span.lo → page ≤ new.span.lo
  pub moved : (new ≡ old) ⊎ ((old.span.lo ≡ page + 1) × (new ≡ grown_to page old) × (old.attr.grows ≡ true))

kept : (page : ℕ) (area : Record) → Kept page area (grown_at page area)
kept page area = elim (cases_Bool (is_above page area)) [
  | inl above ↦
      let is : grown_at page area ≡ grown_to page area = cond-true (is_above page area) (grown_to page area) area above in
      let parts = above_parts page area above in
      subst (λ (r : Record). Kept page area r) (sym is)
      (record { hi = refl; lower = omega (arith, parts.1); low = λ from. omega arith; moved = inr (parts.1, refl, parts.0) })
  | inr other ↦
      let is : grown_at page area ≡ area = cond-false (is_above page area) (grown_to page area) area other in
      subst (λ (r : Record). Kept page area r) (sym is)
      (record { hi = refl; lower = omega arith; low = λ from. from; moved = inl refl })
]

grown_valid : (page : ℕ) (area : Record) → IsValid area → (area.attr.grows ≡ true → area.object ≡ 0) → area.span.lo ≡ page + 1 → area.attr.grows ≡ true
    → IsValid (grown_to page area)
grown_valid page area valid private begins grows = record {
  some_pages = omega (arith, valid.some_pages, begins);
  below_end = valid.below_end;
  allowed = valid.allowed;
  anonymous = valid.anonymous;
  backed = λ other. absurd (other (private grows));
}

valid_after : (page : ℕ) (area : Record) → IsValid area → (area.attr.grows ≡ true → area.object ≡ 0) → IsValid (grown_at page area)
valid_after page area valid private = elim (kept page area).moved [
  | inl same ↦ subst IsValid (sym same) valid
  | inr more ↦ subst IsValid (sym more.1) (grown_valid page area valid private more.0 more.2)
]

-- what private anonymous memory joins does not rest on where it begins
joins_grown : (page : ℕ) (a b : Record) → a.object ≡ 0 → joins (grown_to page a) b ≡ joins a b
unfolding joins
joins_grown page a b private = rw private refl

-- two neighbours, of which either may grow
pair_after : (page : ℕ) (a b : Record) → IsValid a → IsClear page a → (a.attr.grows ≡ true → a.object ≡ 0) → a.span.hi ≤ b.span.lo → joins a b ≡ false
    → ((grown_at page a).span.hi ≤ (grown_at page b).span.lo) × (joins (grown_at page a) (grown_at page b) ≡ false)
pair_after page a b valid clear private order apart =
    let ka = kept page a in
    let kb = kept page b in
    elim kb.moved [
      | inr more ↦
          let low : a.span.hi + 1 ≤ page = elim clear.apart [
            | inl above ↦ absurd (omega (arith, above, valid.some_pages, order, more.0))
            | inr below ↦ below
          ] in
          let begins : (grown_at page b).span.lo ≡ page = ap (λ (r : Record). r.span.lo) more.1 in (
            omega (arith, low, begins, ka.hi),
            joins_touching (grown_at page a) (grown_at page b) (omega (arith, low, begins, ka.hi)),
          )
      | inl same ↦ (
        subst (λ (r : Record). (grown_at page a).span.hi ≤ r.span.lo) (sym same) (omega (arith, ka.hi, order)),
        subst (λ (r : Record). joins (grown_at page a) r ≡ false) (sym same) (elim ka.moved [
          | inl still ↦ subst (λ (r : Record). joins r b ≡ false) (sym still) apart
          | inr more ↦ subst (λ (r : Record). joins r b ≡ false) (sym more.1) (joins_grown page a b (private more.2) ∙ apart)
        ]),
      )
    ]

-- so for the whole list
pub neighbours_after : (page : ℕ) (areas : List Record) → All IsValid areas → All (IsClear page) areas → AreGrowersPrivate areas
    → Neighbours (λ a b. a.span.hi ≤ b.span.lo) areas → Neighbours (λ a b. joins a b ≡ false) areas
    → Neighbours (λ a b. a.span.hi ≤ b.span.lo) (map (grown_at page) areas) × Neighbours (λ a b. joins a b ≡ false) (map (grown_at page) areas)
neighbours_after page [] valid clear private order apart = (tt, tt)
neighbours_after page (a ∷ []) valid clear private order apart = ((tt, tt), (tt, tt))
neighbours_after page (a ∷ b ∷ areas) valid clear private order apart =
    let first = pair_after page a b (All-head IsValid a (b ∷ areas) valid) (All-head (IsClear page) a (b ∷ areas) clear)
    (All-head (λ (r : Record). r.attr.grows ≡ true → r.object ≡ 0) a (b ∷ areas) private) order.0 apart.0 in
    let rest = neighbours_after page (b ∷ areas) (All-tail IsValid a (b ∷ areas) valid) (All-tail (IsClear page) a (b ∷ areas) clear)
    (All-tail (λ (r : Record). r.attr.grows ≡ true → r.object ≡ 0) a (b ∷ areas) private) order.1 apart.1 in
    ((first.0, rest.0), (first.1, rest.1))

pub each_after : (end page : ℕ) (areas : List Record) → All IsValid areas → AreGrowersPrivate areas → All (λ area. area.span.hi ≤ end) areas
    → All IsValid (map (grown_at page) areas) × All (λ area. area.span.hi ≤ end) (map (grown_at page) areas)
each_after end page [] valid private ends = (All-nil IsValid, All-nil (λ (area : Record). area.span.hi ≤ end))
each_after end page (a ∷ areas) valid private ends =
    let P = λ (r : Record). r.attr.grows ≡ true → r.object ≡ 0 in
    let E = λ (area : Record). area.span.hi ≤ end in
    let rest = each_after end page areas (All-tail IsValid a areas valid) (All-tail P a areas private) (All-tail E a areas ends) in (
      All-cons IsValid (grown_at page a) (map (grown_at page) areas) (valid_after page a (All-head IsValid a areas valid) (All-head P a areas private)) rest.0,
      All-cons E (grown_at page a) (map (grown_at page) areas) (omega (arith, (kept page a).hi, All-head E a areas ends)) rest.1,
    )

-- two free pages lie apart from each area
pub clear_from_free : (page : ℕ) (areas : List Record) → 1 ≤ page → is_free areas 2 (page - 1) ≡ true → All (IsClear page) areas
unfolding is_free
clear_from_free page [] some free = All-nil (IsClear page)
clear_from_free page (a ∷ areas) some free =
    let here : (page + 1 ≤ a.span.lo) ⊎ (a.span.hi + 1 ≤ page) = elim (cases_Bool (nat_le (page - 1 + 2) a.span.lo)) [
      | inl above ↦ inl (grind (arith, nat_tests, above, some))
      | inr not ↦ inr (grind (arith, nat_tests, not, some, free))
    ] in
    All-cons (IsClear page) a areas (record { apart = here }) (clear_from_free page areas some (grind (arith, nat_tests, free)))

pub grown_canonical : (end page : ℕ) (areas : List Record) → IsCanonical end areas → AreGrowersPrivate areas → 1 ≤ page → is_free areas 2 (page - 1) ≡ true
    → IsCanonical end (grown_list page areas)
unfolding grown_list
grown_canonical end page areas canonical private some free =
    let clear = clear_from_free page areas some free in
    let each = each_after end page areas canonical.valid private canonical.below_end in
    let pairs = neighbours_after page areas canonical.valid clear private canonical.ordered canonical.apart in
    record { valid = each.0; below_end = each.1; ordered = pairs.0; apart = pairs.1 }

pub grown_length : (page : ℕ) (areas : List Record) → length (grown_list page areas) ≡ length areas
unfolding grown_list
grown_length page areas = length-map areas (grown_at page)
