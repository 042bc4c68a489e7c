-- For `AreaStore::change_all`, `AreaStore::enter` and `store_moved`: areas in order are told by their weights.
use Rattle.std.proofs.Common.{ℕ, ◌≡◌, ◌≢◌, ◌<◌, ◌≤◌, ◌+◌, Bool, true, false, if◌then◌else◌, nat_eq, nat_lt, nat_le, ◌&&◌, ◌*◌, get_or, List, [], ◌∷◌, length, sum_by, All, refl, sym, ap, subst, ◌∙◌, arith, ◌⊎◌, inl, inr}
use Rattle.std.proofs.lemmas.Bool.{cases_lt}
use Rattle.std.proofs.lemmas.Bool.Decides.{nat_tests}
use Rattle.std.proofs.lemmas.List.Elements.{All-nil, All-cons, All-weaker}
use Rattle.std.proofs.lemmas.List.Kept.{AllPairs-cons}
use Rattle.std.proofs.lemmas.List.Sums.{sum_by-cons, get_or-le-sum_by}
use Rattle.mm_types.specs.declared.area.Prot.{Prot}
use Rattle.mm_types.specs.declared.area.Attr.{Attr}
use Rattle.mm_types.specs.declared.area.Record.{Record}
use Rattle.area_list.specs.Areas.{has_page}
use Rattle.split_merge.specs.Sorted.{BeginsAscend}
use Rattle.area_tree.specs.declared.shown.ShownArea.{ShownArea}
use Rattle.area_tree.specs.AreaTrees.{areas_shown, times_shown, AreasRise}
use Rattle.mm_state.specs.Internal.AreaStores.{at_page, weigh, IsWithin, CanHold}

pub weigh_map : (weight : Record → ℕ) (shown : List ShownArea) → sum_by weight (areas_shown shown) ≡ weigh weight shown
weigh_map weight [] = refl
weigh_map weight (s ∷ shown) = omega (arith, sum_by-cons weight s.area (areas_shown shown), sum_by-cons (λ (t : ShownArea). weight t.area) s shown, weigh_map weight shown)

pub ones : {A : Type 0} (xs : List A) → sum_by (λ x. 1) xs ≡ length xs
ones [] = refl
ones (x ∷ xs) = omega (arith, sum_by-cons (λ y. 1) x xs, ones xs)

-- a weight of the areas that begin at a page
at_lo : ℕ → (Record → ℕ) → Record → ℕ
at_lo page weight area = if nat_eq area.span.lo page then weight area else 0

lo_here : (weight : Record → ℕ) (area : Record) (page : ℕ) → area.span.lo ≡ page → at_lo page weight area ≡ weight area
unfolding at_lo
lo_here weight area page is =
    let test : nat_eq area.span.lo page ≡ true = grind (arith, nat_tests) in rw test refl

lo_away : (weight : Record → ℕ) (area : Record) (page : ℕ) → area.span.lo ≢ page → at_lo page weight area ≡ 0
unfolding at_lo
lo_away weight area page apart =
    let test : nat_eq area.span.lo page ≡ false = grind (arith, nat_tests) in rw test refl

-- none begins below the page from which on they stand
lo_none : (limit page start : ℕ) (weight : Record → ℕ) (areas : List Record) → AreasRise limit start areas → page < start → sum_by (at_lo page weight) areas ≡ 0
lo_none limit page start weight [] rises below = refl
lo_none limit page start weight (area ∷ areas) (begins, some, upto, rest) below = omega (
  arith,
  sum_by-cons (at_lo page weight) area areas,
  lo_away weight area page (λ same. omega arith),
  lo_none limit page area.span.hi weight areas rest (omega arith),
)

bit : Bool → ℕ
bit b = if b then 1 else 0

same_bit : (a b : Bool) → bit a ≡ bit b → a ≡ b
unfolding bit
same_bit true true is = refl
same_bit true false is = absurd (omega (arith, is))
same_bit false true is = absurd (omega (arith, is))
same_bit false false is = refl

module _ (a b : Record) (same : (weight : Record → ℕ) → weight a ≡ weight b) where
  same_flag : (flag : Record → Bool) → flag a ≡ flag b
  same_flag flag = same_bit (flag a) (flag b) (same (λ r. bit (flag r)))

  same_prot_of : (prot : Record → Prot) → prot a ≡ prot b
  same_prot_of prot = ap (λ v. record { read = v; write = (prot a).write; exec = (prot a).exec }) (same_flag (λ r. (prot r).read))
      ∙ ap (λ v. record { read = (prot b).read; write = v; exec = (prot a).exec }) (same_flag (λ r. (prot r).write))
      ∙ ap (λ v. record { read = (prot b).read; write = (prot b).write; exec = v }) (same_flag (λ r. (prot r).exec))

  same_attr_of : a.attr ≡ b.attr
  same_attr_of = ap (λ (v : Prot). record a.attr { prot = v }) (same_prot_of (λ r. r.attr.prot))
      ∙ ap (λ (v : Prot). record a.attr { prot = b.attr.prot; most = v }) (same_prot_of (λ r. r.attr.most))
      ∙ ap (λ v. record a.attr { prot = b.attr.prot; most = b.attr.most; shared = v }) (same_flag (λ r. r.attr.shared))
      ∙ ap (λ v. record b.attr { grows = v; sealed = a.attr.sealed; heap = a.attr.heap }) (same_flag (λ r. r.attr.grows))
      ∙ ap (λ v. record b.attr { sealed = v; heap = a.attr.heap }) (same_flag (λ r. r.attr.sealed))
      ∙ ap (λ v. record b.attr { heap = v }) (same_flag (λ r. r.attr.heap))

  -- areas that weigh the same are the same
  same_area : a ≡ b
  same_area = ap (λ v. record a { span = record { lo = v; hi = a.span.hi } }) (same (λ r. r.span.lo))
      ∙ ap (λ v. record a { span = record { lo = b.span.lo; hi = v } }) (same (λ r. r.span.hi))
      ∙ ap (λ (v : Attr). record a { span = b.span; attr = v }) same_attr_of
      ∙ ap (λ v. record b { object = v; offset = a.offset }) (same (λ r. r.object))
      ∙ ap (λ v. record b { offset = v }) (same (λ r. r.offset))

-- lists in order with the same areas are the same
pub same_order : (limit start : ℕ) (xs ys : List Record) → AreasRise limit start xs → AreasRise limit start ys
    → ((weight : Record → ℕ) → sum_by weight xs ≡ sum_by weight ys) → xs ≡ ys
same_order limit start [] [] first second same = refl
same_order limit start [] (y ∷ ys) first second same = absurd (omega (arith, same (λ p. 1), sum_by-cons (λ (p : Record). 1) y ys))
same_order limit start (x ∷ xs) [] first second same = absurd (omega (arith, same (λ p. 1), sum_by-cons (λ (p : Record). 1) x xs))
same_order limit start (x ∷ xs) (y ∷ ys) (x_begins, x_some, x_upto, x_rest) (y_begins, y_some, y_upto, y_rest) same =
    by (λ rises. same_order limit x.span.hi xs ys x_rest rises) (cases_lt x.span.lo y.span.lo) (cases_lt y.span.lo x.span.lo)
  where
    weighs : (page : ℕ) (weight : Record → ℕ) → at_lo page weight x + sum_by (at_lo page weight) xs ≡ at_lo page weight y + sum_by (at_lo page weight) ys
    weighs page weight = omega (arith, same (at_lo page weight), sum_by-cons (at_lo page weight) x xs, sum_by-cons (at_lo page weight) y ys)

    xs_none : (page : ℕ) (weight : Record → ℕ) → page ≤ x.span.lo → sum_by (at_lo page weight) xs ≡ 0
    xs_none page weight upto = lo_none limit page x.span.hi weight xs x_rest (omega (arith, x_some, upto))

    ys_none : (page : ℕ) (weight : Record → ℕ) → page ≤ y.span.lo → sum_by (at_lo page weight) ys ≡ 0
    ys_none page weight upto = lo_none limit page y.span.hi weight ys y_rest (omega (arith, y_some, upto))

    heads : x.span.lo ≡ y.span.lo → (weight : Record → ℕ) → weight x ≡ weight y
    heads is weight = omega (
      arith,
      weighs x.span.lo weight,
      lo_here weight x x.span.lo refl,
      lo_here weight y x.span.lo (sym is),
      xs_none x.span.lo weight (omega arith),
      ys_none x.span.lo weight (omega (arith, is)),
    )

    by : (AreasRise limit x.span.hi ys → ((weight : Record → ℕ) → sum_by weight xs ≡ sum_by weight ys) → xs ≡ ys)
        → ((x.span.lo < y.span.lo) ⊎ (y.span.lo ≤ x.span.lo)) → ((y.span.lo < x.span.lo) ⊎ (x.span.lo ≤ y.span.lo)) → x ∷ xs ≡ y ∷ ys
    by later (inl less) more = absurd (omega (
      arith,
      weighs x.span.lo (λ p. 1),
      lo_here (λ p. 1) x x.span.lo refl,
      lo_away (λ p. 1) y x.span.lo (λ is. omega arith),
      ys_none x.span.lo (λ p. 1) (omega arith),
    ))
    by later (inr above) (inl less) = absurd (omega (
      arith,
      weighs y.span.lo (λ p. 1),
      lo_here (λ p. 1) y y.span.lo refl,
      lo_away (λ p. 1) x y.span.lo (λ is. omega arith),
      xs_none y.span.lo (λ p. 1) (omega arith),
    ))
    by later (inr above) (inr upto) =
        let is : x.span.lo ≡ y.span.lo = omega arith in
        let rest : xs ≡ ys = later (subst (λ n. AreasRise limit n ys) (sym (heads is (λ p. p.span.hi))) y_rest)
        (λ weight. omega (arith, same weight, sum_by-cons weight x xs, sum_by-cons weight y ys, heads is weight)) in
        ap (λ p. p ∷ xs) (same_area x y (heads is)) ∙ ap (λ ps. y ∷ ps) rest

-- no page is in two areas in order, and none before them in any
page_none : (limit page start : ℕ) (areas : List Record) → AreasRise limit start areas → page < start → sum_by (at_page page) areas ≡ 0
page_none limit page start [] rises below = refl
page_none limit page start (area ∷ areas) (begins, some, upto, rest) below =
    let none : at_page page area ≡ 0 = grind (arith, nat_tests) in
    omega (arith, sum_by-cons (at_page page) area areas, none, page_none limit page area.span.hi areas rest (omega arith))

at_most_one : (b : Bool) → (if b then 1 else 0) ≤ 1
at_most_one true = omega arith
at_most_one false = omega arith

pub page_once : (limit page start : ℕ) (areas : List Record) → AreasRise limit start areas → sum_by (at_page page) areas ≤ 1
page_once limit page start [] rises = omega arith
page_once limit page start (area ∷ areas) (begins, some, upto, rest) = by (page_once limit page area.span.hi areas rest) (cases_lt page area.span.hi)
  where
    single : at_page page area ≤ 1
    single = at_most_one (has_page area.span page)

    by : sum_by (at_page page) areas ≤ 1 → ((page < area.span.hi) ⊎ (area.span.hi ≤ page)) → sum_by (at_page page) (area ∷ areas) ≤ 1
    by later (inl below) = omega (arith, sum_by-cons (at_page page) area areas, single, page_none limit page area.span.hi areas rest below)
    by later (inr above) =
        let none : at_page page area ≡ 0 = grind (arith, nat_tests) in
        omega (arith, sum_by-cons (at_page page) area areas, none, later)

-- areas in order begin each above the one before
pub rise_ascend : (limit start : ℕ) (areas : List Record) → AreasRise limit start areas → All (λ area. start ≤ area.span.lo) areas × BeginsAscend areas
rise_ascend limit start [] rise = (All-nil (λ (area : Record). start ≤ area.span.lo), λ i j d before within. absurd (omega (arith, within)))
rise_ascend limit start (area ∷ areas) (begins, some, upto, rest) =
    let later = rise_ascend limit area.span.hi areas rest in (
      All-cons (λ (a : Record). start ≤ a.span.lo) area areas begins
          (All-weaker (λ (a : Record). area.span.hi ≤ a.span.lo) (λ (a : Record). start ≤ a.span.lo) (λ a above. omega arith) areas later.0),
      AllPairs-cons (λ (a b : Record). a.span.lo < b.span.lo) area areas
          (All-weaker (λ (a : Record). area.span.hi ≤ a.span.lo) (λ (a : Record). area.span.lo < a.span.lo) (λ a above. omega arith) areas later.0) later.1,
    )

-- 1 for an area that has no page, or ends above the limit
outside : ℕ → Record → ℕ
outside limit area = if nat_lt area.span.lo area.span.hi && nat_le area.span.hi limit then 0 else 1

none_outside : (limit start : ℕ) (areas : List Record) → AreasRise limit start areas → sum_by (outside limit) areas ≡ 0
unfolding outside
none_outside limit start [] rise = refl
none_outside limit start (area ∷ areas) (begins, some, upto, rest) =
    let none : outside limit area ≡ 0 = grind (arith, nat_tests) in
    omega (arith, sum_by-cons (outside limit) area areas, none, none_outside limit area.span.hi areas rest)

is_within : (limit : ℕ) (area : Record) → outside limit area ≤ 0 → IsWithin limit area
unfolding outside
is_within limit area none = by (cases_lt area.span.lo area.span.hi) (cases_lt limit area.span.hi)
  where
    by : ((area.span.lo < area.span.hi) ⊎ (area.span.hi ≤ area.span.lo)) → ((limit < area.span.hi) ⊎ (area.span.hi ≤ limit)) → IsWithin limit area
    by (inl some) (inr upto) = (some, upto)
    by (inl some) (inl above) =
        let one : outside limit area ≡ 1 = grind (arith, nat_tests) in absurd (omega (arith, one, none))
    by (inr empty) end =
        let one : outside limit area ≡ 1 = grind (arith, nat_tests) in absurd (omega (arith, one, none))

-- a tree can hold what weighs as areas in order do, at slots that show one area each
pub can_hold : (most limit : ℕ) (areas : List Record) (shown : List ShownArea) → AreasRise limit 0 areas → length areas ≤ most
    → ((weight : Record → ℕ) → weigh weight shown ≡ sum_by weight areas) → ((slot : ℕ) → times_shown slot shown ≤ 1)
    → All (λ s. s.slot < 2 * most + 2) shown → CanHold most limit shown
can_hold most limit areas shown rise few same once slots = record {
  few = omega (arith, same (λ a. 1), ones areas, ones shown, few);
  within = λ k d within. is_within limit (get_or shown k d).area (omega (
    arith,
    get_or-le-sum_by (λ (s : ShownArea). outside limit s.area) shown k d within,
    same (outside limit),
    none_outside limit 0 areas rise,
  ));
  apart = λ page. omega (arith, same (at_page page), page_once limit page 0 areas rise);
  once = once;
  slots = slots;
}
