-- For `fault_fast`, `lock_slot` and `Held::look`: an area of a sound list that has a page is the one that the list has there, and
-- the row of a validated slot holds such an area.
use Rattle.std.proofs.Common.{ℕ, zero, suc, ◌≡◌, ◌≢◌, ◌<◌, ◌≤◌, ◌-◌, ◌^◌, ◌∙◌, true, false, ◌&&◌, cond, List, [], ◌∷◌, length, get_or, Option, Some, None, refl, sym, ap, subst, inl, inr, arith}
use Rattle.std.specs.List.{Contains, AllByRecursion as Each}
use Rattle.std.specs.Option.{IfSome, option_map_or}
use Rattle.std.proofs.lemmas.Bool.{and_parts}
use Rattle.std.proofs.lemmas.Bool.Decides.{nat_tests}
use Rattle.std.proofs.lemmas.List.{get_or-map, length-map}
use Rattle.std.specs.Prelude.{nat_le, nat_lt, not, if◌then◌else◌}
use Rattle.mm_types.specs.declared.area.Access.{Access}
use Rattle.mm_types.specs.declared.area.Record.{Record}
use Rattle.mm_types.specs.declared.area.Verdict.TheVariants.{Served, MapErr, AccErr, BusErr}
use Rattle.mm_types.specs.declared.call.Entry.{Entry}
use Rattle.mm_types.specs.declared.config.Config.{Config}
use Rattle.mm_types.specs.declared.files.FileRow.{FileRow}
use Rattle.mm_types.specs.Config.{IsValidConfig}
use Rattle.mm_types.specs.Packed.{packed, unpacked}
use Rattle.mm_types.proofs.PackedWords.{unpacked_is, unpacked_none, length-packed}
use Rattle.area_list.specs.Areas.{area_at, has_page, IsSound, index_of}
use Rattle.area_list.proofs.Elements.{Pairs}
use Rattle.area_list.proofs.Parts.{Apart}
use Rattle.area_list.proofs.Order.{pairs_from_canonical}
use Rattle.area_rules.specs.Steps.{after, IsReady}
use Rattle.area_rules.specs.Accesses.{permits}
use Rattle.area_rules.specs.Growing.{grower, grows}
use Rattle.area_rules.specs.Verdicts.{is_past_end, area_verdict, unmapped_verdict, verdict}
use Rattle.area_rules.proofs.Cases.{grower_is}
use Rattle.area_rules.proofs.Journals.{after_ready}
use Rattle.area_rules.proofs.Unmapped.{free_at}
use Rattle.lock_core.specs.Facts.{list_after}
use Rattle.lock_core.specs.Rows.{IsRowOf}
use Rattle.lock_core.proofs.Reading.{row_after}
use Rattle.lock_core.proofs.Weighing.{no_area}
use Rattle.fault_path.specs.Faults.{Lacks}
use Rattle.fault_path.proofs.Places.{none_is_some}

-- what is so of each element is so of one that there is
each_at : {A : Type 0} (P : A → Type 0) (xs : List A) (k : ℕ) (d : A) → Each P xs → k < length xs → P (get_or xs k d)
each_at P [] k d each within = absurd (omega arith)
each_at P (x ∷ xs) zero d each within = each.0
each_at P (x ∷ xs) (suc k) d each within = each_at P xs k d each.1 (omega arith)

-- an area that ends where one with the page begins, or before that, does not have the page
before_lacks : (a b : Record) (page : ℕ) → Apart a b → has_page b.span page ≡ true → has_page a.span page ≡ false
before_lacks a b page apart has =
    let low = (and_parts (nat_le b.span.lo page) (nat_lt page b.span.hi) has).0 in
    let order = apart.order in
    let test : nat_lt page a.span.hi ≡ false = grind (arith, nat_tests) in
    elim (nat_le a.span.lo page) as (λ t. t && nat_lt page a.span.hi ≡ false) [ true ↦ test | false ↦ refl ]

-- of areas that lie apart, the one at this place that has the page is the first that has it
find_at : (areas : List Record) (k : ℕ) (area : Record) (page : ℕ) → Pairs Apart areas → k < length areas → get_or areas k area ≡ area
    → has_page area.span page ≡ true → area_at areas page ≡ Some area
find_at [] k area page apart within is has = absurd (omega arith)
find_at (a ∷ rest) zero area page apart within is has =
    let here : has_page a.span page ≡ true = subst (λ (r : Record). has_page r.span page ≡ true) (sym is) has in
    ap (λ b. cond b (Some a) (area_at rest page)) here ∙ ap Some is
find_at (a ∷ rest) (suc k) area page apart within is has =
    let later : Apart a (get_or rest k area) = each_at (Apart a) rest k area apart.0 (omega arith) in
    let lacks = before_lacks a area page (subst (λ r. Apart a r) is later) has in
    ap (λ b. cond b (Some a) (area_at rest page)) lacks ∙ find_at rest k area page apart.1 (omega arith) is has

-- an area of a sound list that has a page is the one that the list has there
pub member_at : (config : Config) (areas : List Record) (area : Record) (page : ℕ) → IsSound config areas → Contains areas area
    → has_page area.span page ≡ true → area_at areas page ≡ Some area
member_at config areas area page sound member has =
    find_at areas member.0 area page (pairs_from_canonical _ areas sound.canonical) member.1 member.2 has

-- a fault at a page that an area has grows none
pub member_still : (config : Config) (areas : List Record) (area : Record) (page : ℕ) (access : Access) → IsSound config areas
    → Contains areas area → has_page area.span page ≡ true → grows config areas page access ≡ false
unfolding grows
member_still config areas area page access sound member has = at (grower config areas page) refl
  where
    at : (found : Option Record) → grower config areas page ≡ found → option_map_or (λ (a : Record). permits a.attr.prot access) found false ≡ false
    at None is = refl
    at (Some above) is =
        let free = (grower_is config areas page above is).free in
        let none : area_at areas page ≡ None = free_at areas 2 (page - 1) page free (omega arith) (omega arith) in
        absurd (none_is_some (sym none ∙ member_at config areas area page sound member has))

-- so its verdict is that over the list
pub member_verdict : (config : Config) (areas : List Record) (area : Record) (page : ℕ) (access : Access) → IsSound config areas
    → Contains areas area → has_page area.span page ≡ true → area_verdict config.files page access area ≡ verdict config areas page access
unfolding verdict
member_verdict config areas area page access sound member has =
    sym (ap (λ (o : Option Record). option_map_or (area_verdict config.files page access) o (unmapped_verdict (grower config areas page)))
    (member_at config areas area page sound member has))

-- the verdict of an area is never that no area has the page
pub verdict_mapped : (files : List FileRow) (page : ℕ) (access : Access) (area : Record) → area_verdict files page access area ≢ MapErr
unfolding area_verdict
verdict_mapped files page access area =
    elim (permits area.attr.prot access) as (λ b. (if not b then AccErr else (if is_past_end files area page then BusErr else Served area (index_of area page))) ≢ MapErr) [
      | true ↦ elim (is_past_end files area page) as (λ b. (if b then BusErr else Served area (index_of area page)) ≢ MapErr) [
        | true ↦ λ is. absurd (cc)
        | false ↦ λ is. absurd (cc)
      ]
      | false ↦ λ is. absurd (cc)
    ]

-- and where it is served, it is by this area
pub verdict_serves : (files : List FileRow) (page : ℕ) (access : Access) (area other : Record) (index : ℕ)
    → area_verdict files page access area ≡ Served other index → other ≡ area
unfolding area_verdict
verdict_serves files page access area other index =
    elim (permits area.attr.prot access) as (λ b. (if not b then AccErr else (if is_past_end files area page then BusErr else Served area (index_of area page)))
    ≡ Served other index → other ≡ area) [
      | true ↦ elim (is_past_end files area page) as (λ b. (if b then BusErr else Served area (index_of area page)) ≡ Served other index → other ≡ area) [
        | true ↦ λ is. absurd (cc)
        | false ↦ λ is. cc
      ]
      | false ↦ λ is. absurd (cc)
    ]

-- the list after a journal that was seen is sound
pub seen_sound : (config : Config) (journal : List Entry) → IsValidConfig config → length journal ≤ 2 ^ 31 → IsSound config (list_after config journal)
seen_sound config journal valid few =
    let ready : IsReady config (after config journal) = after_ready config journal valid (omega (arith, few)) in
    ready.sound

-- an area that a right row holds is one of the list
pub held_member : (config : Config) (journal : List Entry) (row : List ℕ) (area : Record) → IsValidConfig config → length journal ≤ 2 ^ 31
    → IsRowOf (list_after config journal) row → unpacked row ≡ Some area → Contains (list_after config journal) area
held_member config journal row area valid few right holds =
    let four : length row ≡ 4 = sym (ap (λ (l : List ℕ). length l) (unpacked_is row area holds).0) ∙ length-packed area in
    subst (λ (o : Option Record). IfSome o (Contains (list_after config journal))) holds (row_after config journal row valid (omega (arith, few)) four right)

-- a right row that holds no area is detached, and one that holds an area without the page lacks it too
lacks_by : (config : Config) (journal : List Entry) (page : ℕ) (row : List ℕ) → IsValidConfig config → length journal ≤ 2 ^ 31
    → (held : Option Record) → unpacked row ≡ held → ((area : Record) → held ≡ Some area → has_page area.span page ≡ false)
    → IsRowOf (list_after config journal) row → Lacks page row
lacks_by config journal page row valid few (Some area) is lacks right = inr (area, is, lacks area refl)
lacks_by config journal page row valid few None is lacks (inl detached) = inl detached
lacks_by config journal page row valid few None is lacks (inr (place, within, here)) =
    let areas = list_after config journal in
    let ready : IsReady config (after config journal) = after_ready config journal valid (omega (arith, few)) in
    let inside : place < length areas = omega (arith, within, length-map areas packed) in
    let area = get_or areas place no_area in
    let words : packed area ≡ row = sym (get_or-map packed areas place no_area row inside) ∙ here in
    absurd (unpacked_none row area is (ready.sound.canonical.valid place no_area inside)
    (let counted = ready.counted place no_area inside in let room = ready.room in omega (arith, counted, room)) words)

pub lacks_page : (config : Config) (journal : List Entry) (page : ℕ) (row : List ℕ) → IsValidConfig config → length journal ≤ 2 ^ 31
    → IsRowOf (list_after config journal) row → ((area : Record) → unpacked row ≡ Some area → has_page area.span page ≡ false)
    → Lacks page row
lacks_page config journal page row valid few right lacks = lacks_by config journal page row valid few (unpacked row) refl lacks right
