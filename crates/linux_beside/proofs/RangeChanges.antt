-- mprotect and mseal change the pages of their range, area by area.
use Rattle.std.proofs.Common.{arith, sym, subst, ap, ◌∙◌, ◌⊎◌, inl, inr}
use Rattle.std.proofs.lemmas.Bool.Decides.{nat_tests}
use Rattle.std.specs.Prelude.{ℕ, zero, suc, ◌≡◌, ◌<◌, ◌≤◌, ◌+◌, ◌-◌, ◌*◌, ◌/◌, ◌%◌, ◌^◌, min, max, Bool, true, false, not, ◌&&◌, ◌||◌, if◌then◌else◌, nat_eq, nat_le, nat_lt, List, Option, Some, None, Result, Ok, Err, refl}
use Rattle.mm_types.specs.declared.area.Prot.{Prot}
use Rattle.mm_types.specs.declared.call.Call.TheVariants as call
use Rattle.mm_types.specs.declared.config.TheConstants.{PAGE_SIZE}
use Rattle.mm_types.specs.Records.{holds_all}
use Rattle.area_list.specs.declared.attributes.AttrChange.{AttrChange}
use Rattle.area_list.specs.declared.attributes.AttrChange.TheVariants.{Protection, Seal}
use Rattle.area_list.specs.Areas.{MappedPage, has_page, page_map}
use Rattle.area_rules.specs.Munmap.{range_of}
use Rattle.area_rules.specs.Steps as profile
use Rattle.area_rules.specs.Tables as tables
use Rattle.area_rules.specs.Tables.{AddressSpace}
use Rattle.area_rules.proofs.PageLaws.{protected_pages}
use Rattle.area_rules.proofs.Sealing.{sealed_page_map, mseal_kept}
use Rattle.linux_rules.specs.declared.area.Vma.{Vma}
use Rattle.linux_rules.specs.declared.errors.TheConstants.{ENOMEM, EACCES, EINVAL, ENOSYS}
use Rattle.linux_rules.specs.declared.kernel.Kernel.{Kernel}
use Rattle.linux_rules.specs.Areas.{vma_lookup, is_aligned, pages_of}
use Rattle.linux_rules.specs.Doing.{LinuxSpace, Did, Doing, ◌>>=◌, ◌>>◌, go_on, done, refuse_if, or_refuse, areas_now}
use Rattle.linux_rules.specs.Mprotect.{mprotect_fixup, mprotect_from, end_page, mprotect}
use Rattle.linux_rules.specs.Mseal.{is_mapped, seal_one, next_begin, mseal_from, mseal}
use Rattle.linux_beside.specs.Changing.{IsChangedTo, ProtectsItsRange, ProtectsAsProfile, RefusedProtectsPrefix, SealsItsRange, SealsAsProfile, RefusedSealsPrefix}
use Rattle.linux_beside.specs.InOrder.{AreInOrder}
use Rattle.linux_beside.proofs.SplitLemmas.{has, maps_to}
use Rattle.linux_beside.proofs.LookUps.{IsOneOf, found_in}
use Rattle.linux_beside.proofs.MunmapLemmas.{looked_up, same_length}
use Rattle.linux_beside.proofs.Merges.{lies}
use Rattle.linux_beside.proofs.ChangeLemmas.{IsChange, turned, fixup_changes, seal_changes}

-- whether a page lies in a range
abbrev pub within : (lo hi page : ℕ) → Bool
within lo hi page = nat_le lo page && nat_lt page hi

-- a range in two parts, of which the first area may have some pages of the second
two_parts : (change : AttrChange) (page hi next end last at : ℕ) (start mid final : Option MappedPage) → page < hi → hi ≤ end → next ≡ max hi last
    → mid ≡ (if within page hi at then turned change start else start) → (hi ≤ at → at < last → turned change start ≡ start)
    → final ≡ (if within next end at then turned change mid else mid) → final ≡ (if within page end at then turned change start else start)
two_parts change page hi next end last at start mid final some to far first over second =
    case (within page hi at) (within next end at) (within page end at) refl refl refl first second
  where
    wide : hi ≤ next
    wide = omega arith

    case : (a b c : Bool) → within page hi at ≡ a → within next end at ≡ b → within page end at ≡ c → mid ≡ (if a then turned change start else start)
        → final ≡ (if b then turned change mid else mid) → final ≡ (if c then turned change start else start)
    case true true c is it both m f = let w = wide in absurd (grind (arith, nat_tests))
    case true false true is it both m f = f ∙ m
    case true false false is it both m f = absurd (grind (arith, nat_tests))
    case false true true is it both m f = f ∙ ap (λ (o : Option MappedPage). turned change o) m
    case false true false is it both m f = let w = wide in absurd (grind (arith, nat_tests))
    case false false true is it both m f = let past : hi ≤ at = grind (arith, nat_tests) in let low : at < next = grind (arith, nat_tests) in
        f ∙ (m ∙ sym (over past (omega arith)))
    case false false false is it both m f = f ∙ m

-- an empty range
no_range : (change : AttrChange) (page end at : ℕ) (o : Option MappedPage) → end ≤ page → o ≡ (if within page end at then turned change o else o)
no_range change page end at o none = case (within page end at) refl
  where
    case : (inside : Bool) → within page end at ≡ inside → o ≡ (if inside then turned change o else o)
    case true is = absurd (grind (arith, nat_tests))
    case false is = refl

-- mprotect, area by area
protects : (kernel : Kernel) (prot : Prot) (end rounds page at : ℕ) (space : LinuxSpace) → AreInOrder space.areas → end ≤ page + rounds
    → (mprotect_from kernel prot end rounds page space).result ≡ Ok tt
    → maps_to (mprotect_from kernel prot end rounds page space).space.areas at
    ≡ (if within page end at then turned (Protection prot) (maps_to space.areas at) else maps_to space.areas at)
unfolding mprotect_from
protects kernel prot end zero page at space order enough ok = no_range (Protection prot) page end at (maps_to space.areas at) (omega arith)
protects kernel prot end (suc rounds) page at space order enough ok =
    case (nat_le end page) refl (λ next after ordered more fine. protects kernel prot end rounds next at after ordered more fine) ok
  where
    start : Option MappedPage
    start = maps_to space.areas at

    Rest : Type 0
    Rest = (next : ℕ) (after : LinuxSpace) → AreInOrder after.areas → end ≤ next + rounds → (mprotect_from kernel prot end rounds next after).result ≡ Ok tt
        → maps_to (mprotect_from kernel prot end rounds next after).space.areas at
        ≡ (if within next end at then turned (Protection prot) (maps_to after.areas at) else maps_to after.areas at)

    Holds : Did Unit → Type 0
    Holds did = did.result ≡ Ok tt → maps_to did.space.areas at ≡ (if within page end at then turned (Protection prot) start else start)

    go : Vma → Vma → Doing Unit
    go vma last = mprotect_from kernel prot end rounds (max (min vma.hi end) last.hi)

    after : Rest → (vma : Vma) → page < vma.hi → page < end → (did : Did Vma) → IsChange (Protection prot) page (min vma.hi end) space did
        → (r : Result Vma ℕ) → did.result ≡ r → Holds (go_on did.space r (go vma))
    after rest vma under below did is (Err error) same = λ fine. absurd (cc)
    after rest vma under below did is (Ok last) same = λ fine. let next = max (min vma.hi end) last.hi in
        two_parts (Protection prot) page (min vma.hi end) next end last.hi at start (maps_to did.space.areas at)
        (maps_to (mprotect_from kernel prot end rounds next did.space).space.areas at) (omega arith) (omega arith) refl (is.maps last at same)
        (λ past less. is.over last at same past less) (rest next did.space is.order (omega arith) fine)

    denied : Rest → (vma : Vma) (test : Bool) → vma_lookup space.areas page ≡ Some vma → page < end
        → Holds ((refuse_if test EACCES >> (mprotect_fixup kernel prot vma page (min vma.hi end) >>= go vma)) space)
    denied rest vma true found below = λ fine. absurd (cc)
    denied rest vma false found below = let inside = looked_up space.areas page vma found in let above = inside.0 in let under = inside.1 in
        let did = mprotect_fixup kernel prot vma page (min vma.hi end) space in
        after rest vma under below did (fixup_changes kernel prot vma page (min vma.hi end) space order (found_in (λ v. has v page) 0 vma space.areas order found)
        above (omega arith) (omega arith)) did.result refl

    look : Rest → page < end → (found : Option Vma) → vma_lookup space.areas page ≡ found
        → Holds ((or_refuse found ENOMEM >>= (λ vma. refuse_if (not (holds_all vma.flags.may prot)) EACCES
        >> (mprotect_fixup kernel prot vma page (min vma.hi end) >>= go vma))) space)
    look rest below None is = λ fine. absurd (cc)
    look rest below (Some vma) is = denied rest vma (not (holds_all vma.flags.may prot)) is below

    case : (test : Bool) → nat_le end page ≡ test → Rest
        → Holds ((if test then done tt else (areas_now >>= (λ areas. or_refuse (vma_lookup areas page) ENOMEM >>= (λ vma.
        refuse_if (not (holds_all vma.flags.may prot)) EACCES >> (mprotect_fixup kernel prot vma page (min vma.hi end) >>= go vma))))) space)
    case true is rest = λ fine. no_range (Protection prot) page end at start (grind (arith, nat_tests))
    case false is rest = look rest (grind (arith, nat_tests)) (vma_lookup space.areas page) refl

-- a loop that fails isn't over
not_over : (kernel : Kernel) (prot : Prot) (end rounds page error : ℕ) (space : LinuxSpace) → (mprotect_from kernel prot end rounds page space).result ≡ Err error → page < end
unfolding mprotect_from
not_over kernel prot end zero page error space fails = absurd (cc)
not_over kernel prot end (suc rounds) page error space fails = case (nat_le end page) refl fails
  where
    case : (test : Bool) → nat_le end page ≡ test → ((if test then done tt else (areas_now >>= (λ areas. or_refuse (vma_lookup areas page) ENOMEM >>= (λ vma.
        refuse_if (not (holds_all vma.flags.may prot)) EACCES >> (mprotect_fixup kernel prot vma page (min vma.hi end)
        >>= (λ last. mprotect_from kernel prot end rounds (max (min vma.hi end) last.hi))))))) space).result ≡ Err error → page < end
    case true is over = absurd (cc)
    case false is over = grind (arith, nat_tests)

seal_not_over : (kernel : Kernel) (end rounds page begin error : ℕ) (space : LinuxSpace) → (mseal_from kernel end rounds page begin space).result ≡ Err error → page < end
unfolding mseal_from
seal_not_over kernel end zero page begin error space fails = absurd (cc)
seal_not_over kernel end (suc rounds) page begin error space fails = case (nat_le end page) refl fails
  where
    case : (test : Bool) → nat_le end page ≡ test → ((if test then done tt else (areas_now >>= (λ areas. or_refuse (vma_lookup areas page) ENOMEM >>= (λ vma.
        seal_one kernel vma begin (min vma.hi end) >>= (λ last. let next = max (min vma.hi end) last.hi in
        mseal_from kernel end rounds next (next_begin kernel next (min vma.hi end))))))) space).result ≡ Err error → page < end
    case true is over = absurd (cc)
    case false is over = grind (arith, nat_tests)

-- the pages of a range before one of them are changed, and no other page is
pub record IsPrefix (change : AttrChange) (page end : ℕ) (before : List Vma) (after : List Vma) : Type 0 where
  pub stop : ℕ
  pub from : page ≤ stop
  pub to : stop ≤ max page end
  pub maps : (at : ℕ) → maps_to after at ≡ (if within page stop at then turned change (maps_to before at) else maps_to before at)

-- none is
no_prefix : (change : AttrChange) (page end : ℕ) (before after : List Vma) → ((at : ℕ) → maps_to after at ≡ maps_to before at) → IsPrefix change page end before after
no_prefix change page end before after same = record {
  stop = page;
  from = omega arith;
  to = omega arith;
  maps = λ at. same at ∙ no_range change page page at (maps_to before at) (omega arith);
}

-- one area is, and then some
more_prefix : (change : AttrChange) (page hi next end last : ℕ) (before middle after : List Vma) → page < hi → hi ≤ end → next ≡ max hi last
    → ((at : ℕ) → maps_to middle at ≡ (if within page hi at then turned change (maps_to before at) else maps_to before at))
    → ((at : ℕ) → hi ≤ at → at < last → turned change (maps_to before at) ≡ maps_to before at)
    → next < end → IsPrefix change next end middle after → IsPrefix change page end before after
more_prefix change page hi next end last before middle after some within_end far first over less rest = let from = rest.from in let to = rest.to in record {
  stop = rest.stop;
  from = omega arith;
  to = omega arith;
  maps = λ at. two_parts change page hi next rest.stop last at (maps_to before at) (maps_to middle at) (maps_to after at) some (omega arith) far (first at) (over at) (rest.maps at);
}

-- mprotect that is refused halfway
protects_prefix : (kernel : Kernel) (prot : Prot) (end rounds page error : ℕ) (space : LinuxSpace) → AreInOrder space.areas
    → (mprotect_from kernel prot end rounds page space).result ≡ Err error
    → IsPrefix (Protection prot) page end space.areas (mprotect_from kernel prot end rounds page space).space.areas
unfolding mprotect_from
protects_prefix kernel prot end zero page error space order refused = absurd (cc)
protects_prefix kernel prot end (suc rounds) page error space order refused =
    case (nat_le end page) refl (λ next after ordered fails. protects_prefix kernel prot end rounds next error after ordered fails) refused
  where
    Rest : Type 0
    Rest = (next : ℕ) (after : LinuxSpace) → AreInOrder after.areas → (mprotect_from kernel prot end rounds next after).result ≡ Err error
        → IsPrefix (Protection prot) next end after.areas (mprotect_from kernel prot end rounds next after).space.areas

    Holds : Did Unit → Type 0
    Holds did = did.result ≡ Err error → IsPrefix (Protection prot) page end space.areas did.space.areas

    go : Vma → Vma → Doing Unit
    go vma last = mprotect_from kernel prot end rounds (max (min vma.hi end) last.hi)

    after : Rest → (vma : Vma) → page < vma.hi → page < end → (did : Did Vma) → IsChange (Protection prot) page (min vma.hi end) space did
        → (r : Result Vma ℕ) → did.result ≡ r → Holds (go_on did.space r (go vma))
    after rest vma under below did is (Err other) same = λ fails. no_prefix (Protection prot) page end space.areas did.space.areas (λ at. is.fails other at same)
    after rest vma under below did is (Ok last) same = λ fails. let next = max (min vma.hi end) last.hi in
        more_prefix (Protection prot) page (min vma.hi end) next end last.hi space.areas did.space.areas (mprotect_from kernel prot end rounds next did.space).space.areas
        (omega arith) (omega arith) refl (λ at. is.maps last at same) (λ at past less. is.over last at same past less)
        (not_over kernel prot end rounds next error did.space fails) (rest next did.space is.order fails)

    denied : Rest → (vma : Vma) (test : Bool) → vma_lookup space.areas page ≡ Some vma → page < end
        → Holds ((refuse_if test EACCES >> (mprotect_fixup kernel prot vma page (min vma.hi end) >>= go vma)) space)
    denied rest vma true found below = λ fails. no_prefix (Protection prot) page end space.areas space.areas (λ at. refl)
    denied rest vma false found below = let inside = looked_up space.areas page vma found in let above = inside.0 in let under = inside.1 in
        let did = mprotect_fixup kernel prot vma page (min vma.hi end) space in
        after rest vma under below did (fixup_changes kernel prot vma page (min vma.hi end) space order (found_in (λ v. has v page) 0 vma space.areas order found)
        above (omega arith) (omega arith)) did.result refl

    look : Rest → page < end → (found : Option Vma) → vma_lookup space.areas page ≡ found
        → Holds ((or_refuse found ENOMEM >>= (λ vma. refuse_if (not (holds_all vma.flags.may prot)) EACCES
        >> (mprotect_fixup kernel prot vma page (min vma.hi end) >>= go vma))) space)
    look rest below None is = λ fails. no_prefix (Protection prot) page end space.areas space.areas (λ at. refl)
    look rest below (Some vma) is = denied rest vma (not (holds_all vma.flags.may prot)) is below

    case : (test : Bool) → nat_le end page ≡ test → Rest
        → Holds ((if test then done tt else (areas_now >>= (λ areas. or_refuse (vma_lookup areas page) ENOMEM >>= (λ vma.
        refuse_if (not (holds_all vma.flags.may prot)) EACCES >> (mprotect_fixup kernel prot vma page (min vma.hi end) >>= go vma))))) space)
    case true is rest = λ fails. absurd (cc)
    case false is rest = look rest (grind (arith, nat_tests)) (vma_lookup space.areas page) refl

-- behind an area the next one begins
begins_after : (last vma : Vma) (areas : List Vma) → AreInOrder areas → IsOneOf 0 last areas → vma_lookup areas last.hi ≡ Some vma → last.hi ≤ vma.lo
begins_after last vma areas order one found = case (nat_le last.hi vma.lo) refl
  where
    clash : vma.lo < last.hi → ⊥
    clash low = let some = one.some in let inside = looked_up areas last.hi vma found in let above = inside.1 in
        let here = one.looked (last.hi - 1) (lies last (last.hi - 1) (omega arith) (omega arith)) in
        let there = (found_in (λ v. has v last.hi) 0 vma areas order found).looked (last.hi - 1) (lies vma (last.hi - 1) (omega arith) (omega arith)) in
        let same : last ≡ vma = cc in let ends : last.hi ≡ vma.hi = ap (λ (v : Vma). v.hi) same in omega arith

    case : (test : Bool) → nat_le last.hi vma.lo ≡ test → last.hi ≤ vma.lo
    case true is = grind (arith, nat_tests)
    case false is = absurd (clash (grind (arith, nat_tests)))

-- an area is sealed from the page on: from there, or from its begin
abbrev pub IsFresh : (page begin : ℕ) → List Vma → Type 0
IsFresh page begin areas = (begin ≡ page) ⊎ ((vma : Vma) → vma_lookup areas page ≡ Some vma → page ≤ vma.lo)

fresh_here : (page begin : ℕ) (vma : Vma) (areas : List Vma) → vma_lookup areas page ≡ Some vma → IsFresh page begin areas → (begin ≡ page) ⊎ (page ≤ vma.lo)
fresh_here page begin vma areas found (inl same) = inl same
fresh_here page begin vma areas found (inr later) = inr (later vma found)

not_later : (stale : Bool) (next stop : ℕ) → stop ≤ next → (if stale then stop else next) ≤ next
not_later true next stop to = to
not_later false next stop to = omega arith

-- so it is for the next area too, also from a stale address
fresh_again : (stale : Bool) (stop : ℕ) (last : Vma) (areas : List Vma) → AreInOrder areas → IsOneOf 0 last areas
    → IsFresh (max stop last.hi) (if stale then stop else max stop last.hi) areas
fresh_again false stop last areas ordered one = inl refl
fresh_again true stop last areas ordered one = beside (nat_le last.hi stop) refl
  where
    beside : (short : Bool) → nat_le last.hi stop ≡ short → IsFresh (max stop last.hi) stop areas
    beside true is = let under : last.hi ≤ stop = grind (arith, nat_tests) in inl (omega arith)
    beside false is = let over : stop < last.hi = grind (arith, nat_tests) in let same : last.hi ≡ max stop last.hi = omega arith in
        inr (λ vma found. subst (λ (page : ℕ). page ≤ vma.lo) same (begins_after last vma areas ordered one
        (subst (λ (page : ℕ). vma_lookup areas page ≡ Some vma) (sym same) found)))

-- mseal, area by area
seals : (kernel : Kernel) (end rounds page begin at : ℕ) (space : LinuxSpace) → AreInOrder space.areas → end ≤ page + rounds → begin ≤ page → IsFresh page begin space.areas
    → (mseal_from kernel end rounds page begin space).result ≡ Ok tt
    → maps_to (mseal_from kernel end rounds page begin space).space.areas at ≡ (if within page end at then turned Seal (maps_to space.areas at) else maps_to space.areas at)
unfolding mseal_from
seals kernel end zero page begin at space order enough behind fresh ok = no_range Seal page end at (maps_to space.areas at) (omega arith)
seals kernel end (suc rounds) page begin at space order enough behind fresh ok =
    case (nat_le end page) refl (λ next from after ordered more less anew fine. seals kernel end rounds next from at after ordered more less anew fine) ok
  where
    start : Option MappedPage
    start = maps_to space.areas at

    Rest : Type 0
    Rest = (next from : ℕ) (after : LinuxSpace) → AreInOrder after.areas → end ≤ next + rounds → from ≤ next → IsFresh next from after.areas
        → (mseal_from kernel end rounds next from after).result ≡ Ok tt
        → maps_to (mseal_from kernel end rounds next from after).space.areas at ≡ (if within next end at then turned Seal (maps_to after.areas at) else maps_to after.areas at)

    Holds : Did Unit → Type 0
    Holds did = did.result ≡ Ok tt → maps_to did.space.areas at ≡ (if within page end at then turned Seal start else start)

    go : Vma → Vma → Doing Unit
    go vma last = let next = max (min vma.hi end) last.hi in mseal_from kernel end rounds next (next_begin kernel next (min vma.hi end))

    after : Rest → (vma : Vma) → page < vma.hi → page < end → (did : Did Vma) → IsChange Seal page (min vma.hi end) space did
        → (r : Result Vma ℕ) → did.result ≡ r → Holds (go_on did.space r (go vma))
    after rest vma under below did is (Err error) same = λ fine. absurd (cc)
    after rest vma under below did is (Ok last) same = λ fine. let next = max (min vma.hi end) last.hi in
        let from = next_begin kernel next (min vma.hi end) in
        two_parts Seal page (min vma.hi end) next end last.hi at start (maps_to did.space.areas at)
        (maps_to (mseal_from kernel end rounds next from did.space).space.areas at) (omega arith) (omega arith) refl (is.maps last at same)
        (λ past low. is.over last at same past low)
        (rest next from did.space is.order (omega arith) (not_later kernel.rules.has_stale_seal next (min vma.hi end) (omega arith))
        (fresh_again kernel.rules.has_stale_seal (min vma.hi end) last did.space.areas is.order (is.one last same)) fine)

    look : Rest → page < end → (found : Option Vma) → vma_lookup space.areas page ≡ found
        → Holds ((or_refuse found ENOMEM >>= (λ vma. seal_one kernel vma begin (min vma.hi end) >>= go vma)) space)
    look rest below None is = λ fine. absurd (cc)
    look rest below (Some vma) is = let inside = looked_up space.areas page vma is in let above = inside.0 in let under = inside.1 in
        let did = seal_one kernel vma begin (min vma.hi end) space in
        after rest vma under below did (seal_changes kernel vma begin page (min vma.hi end) space order (found_in (λ v. has v page) 0 vma space.areas order is)
        above (omega arith) (omega arith) behind (fresh_here page begin vma space.areas is fresh)) did.result refl

    case : (test : Bool) → nat_le end page ≡ test → Rest
        → Holds ((if test then done tt else (areas_now >>= (λ areas. or_refuse (vma_lookup areas page) ENOMEM >>= (λ vma.
        seal_one kernel vma begin (min vma.hi end) >>= go vma)))) space)
    case true is rest = λ fine. no_range Seal page end at start (grind (arith, nat_tests))
    case false is rest = look rest (grind (arith, nat_tests)) (vma_lookup space.areas page) refl

-- mseal that is refused halfway
seals_prefix : (kernel : Kernel) (end rounds page begin error : ℕ) (space : LinuxSpace) → AreInOrder space.areas → begin ≤ page → IsFresh page begin space.areas
    → (mseal_from kernel end rounds page begin space).result ≡ Err error
    → IsPrefix Seal page end space.areas (mseal_from kernel end rounds page begin space).space.areas
unfolding mseal_from
seals_prefix kernel end zero page begin error space order behind fresh refused = absurd (cc)
seals_prefix kernel end (suc rounds) page begin error space order behind fresh refused =
    case (nat_le end page) refl (λ next from after ordered less anew fails. seals_prefix kernel end rounds next from error after ordered less anew fails) refused
  where
    Rest : Type 0
    Rest = (next from : ℕ) (after : LinuxSpace) → AreInOrder after.areas → from ≤ next → IsFresh next from after.areas
        → (mseal_from kernel end rounds next from after).result ≡ Err error
        → IsPrefix Seal next end after.areas (mseal_from kernel end rounds next from after).space.areas

    Holds : Did Unit → Type 0
    Holds did = did.result ≡ Err error → IsPrefix Seal page end space.areas did.space.areas

    go : Vma → Vma → Doing Unit
    go vma last = let next = max (min vma.hi end) last.hi in mseal_from kernel end rounds next (next_begin kernel next (min vma.hi end))

    after : Rest → (vma : Vma) → page < vma.hi → page < end → (did : Did Vma) → IsChange Seal page (min vma.hi end) space did
        → (r : Result Vma ℕ) → did.result ≡ r → Holds (go_on did.space r (go vma))
    after rest vma under below did is (Err other) same = λ fails. no_prefix Seal page end space.areas did.space.areas (λ at. is.fails other at same)
    after rest vma under below did is (Ok last) same = λ fails. let next = max (min vma.hi end) last.hi in
        let from = next_begin kernel next (min vma.hi end) in
        more_prefix Seal page (min vma.hi end) next end last.hi space.areas did.space.areas (mseal_from kernel end rounds next from did.space).space.areas
        (omega arith) (omega arith) refl (λ at. is.maps last at same) (λ at past low. is.over last at same past low)
        (seal_not_over kernel end rounds next from error did.space fails)
        (rest next from did.space is.order (not_later kernel.rules.has_stale_seal next (min vma.hi end) (omega arith))
        (fresh_again kernel.rules.has_stale_seal (min vma.hi end) last did.space.areas is.order (is.one last same)) fails)

    look : Rest → page < end → (found : Option Vma) → vma_lookup space.areas page ≡ found
        → Holds ((or_refuse found ENOMEM >>= (λ vma. seal_one kernel vma begin (min vma.hi end) >>= go vma)) space)
    look rest below None is = λ fails. no_prefix Seal page end space.areas space.areas (λ at. refl)
    look rest below (Some vma) is = let inside = looked_up space.areas page vma is in let above = inside.0 in let under = inside.1 in
        let did = seal_one kernel vma begin (min vma.hi end) space in
        after rest vma under below did (seal_changes kernel vma begin page (min vma.hi end) space order (found_in (λ v. has v page) 0 vma space.areas order is)
        above (omega arith) (omega arith) behind (fresh_here page begin vma space.areas is fresh)) did.result refl

    case : (test : Bool) → nat_le end page ≡ test → Rest
        → Holds ((if test then done tt else (areas_now >>= (λ areas. or_refuse (vma_lookup areas page) ENOMEM >>= (λ vma.
        seal_one kernel vma begin (min vma.hi end) >>= go vma)))) space)
    case true is rest = λ fails. absurd (cc)
    case false is rest = look rest (grind (arith, nat_tests)) (vma_lookup space.areas page) refl

-- a length has fewer pages than there are
few_pages : (len : ℕ) → pages_of len < 2 ^ 52
unfolding pages_of
few_pages len = omega arith

-- a length of 0 has none
no_pages : (len : ℕ) → len ≡ 0 → tables.pages_of len ≡ 0
unfolding tables.pages_of
no_pages len none = omega arith

zero_pages : (len : ℕ) → len ≡ 0 → pages_of len ≡ tables.pages_of len
unfolding pages_of tables.pages_of
zero_pages len none = omega arith

is_zero : (len : ℕ) → nat_eq len 0 ≡ true → len ≡ 0
is_zero len is = grind (arith, nat_tests)

-- the end of a range that doesn't wrap
end_is : (addr pages : ℕ) → pages < 2 ^ 52 → addr % PAGE_SIZE ≡ 0 → addr / PAGE_SIZE ≤ (addr + PAGE_SIZE * pages) % 2 ^ 64 / PAGE_SIZE
    → (addr + PAGE_SIZE * pages) % 2 ^ 64 / PAGE_SIZE ≡ addr / PAGE_SIZE + pages
end_is addr pages few aligned from = case (nat_lt (addr + PAGE_SIZE * pages) (2 ^ 64)) refl
  where
    case : (low : Bool) → nat_lt (addr + PAGE_SIZE * pages) (2 ^ 64) ≡ low → (addr + PAGE_SIZE * pages) % 2 ^ 64 / PAGE_SIZE ≡ addr / PAGE_SIZE + pages
    case true is = let less : addr + PAGE_SIZE * pages < 2 ^ 64 = grind (arith, nat_tests) in
        let whole : (addr + PAGE_SIZE * pages) % 2 ^ 64 ≡ addr + PAGE_SIZE * pages = omega arith in rw whole (omega arith)
    case false is = let more : 2 ^ 64 ≤ addr + PAGE_SIZE * pages = grind (arith, nat_tests) in
        let small : addr < 2 ^ 64 = omega arith in
        let less : (addr + PAGE_SIZE * pages) % 2 ^ 64 ≡ addr + PAGE_SIZE * pages - 2 ^ 64 = omega arith in absurd (omega arith)

aligned_is : (addr : ℕ) → is_aligned addr ≡ true → addr % PAGE_SIZE ≡ 0
aligned_is addr is = grind (arith, nat_tests)

not_true : (a : Bool) → not a ≡ false → a ≡ true
not_true true is = refl
not_true false is = absurd (cc)

pub protects_its_range : ProtectsItsRange
unfolding mprotect range_of
protects_its_range kernel space addr len prot order small ok = λ page.
    case page (not (is_aligned addr)) (nat_eq len 0) (nat_le (end_page addr len) (addr / PAGE_SIZE)) refl refl refl ok
  where
    lo : ℕ
    lo = addr / PAGE_SIZE

    pages : ℕ
    pages = tables.pages_of len

    loop : Did Unit
    loop = mprotect_from kernel prot (end_page addr len) (end_page addr len - lo) lo space

    Holds : ℕ → Did Unit → Type 0
    Holds page did = did.result ≡ Ok tt
        → maps_to did.space.areas page ≡ (if within lo (lo + pages) page then turned (Protection prot) (maps_to space.areas page) else maps_to space.areas page)

    whole : is_aligned addr ≡ true → lo < end_page addr len → end_page addr len ≡ lo + pages
    whole aligned above = let few = few_pages len in let end = end_is addr (pages_of len) few (aligned_is addr aligned) (omega arith) in
        let some : 0 < pages_of len = omega arith in let same = same_length len small some in omega arith

    case : (page : ℕ) (odd empty wraps : Bool) → not (is_aligned addr) ≡ odd → nat_eq len 0 ≡ empty → nat_le (end_page addr len) (addr / PAGE_SIZE) ≡ wraps
        → Holds page ((refuse_if odd EINVAL >> (if empty then done tt else (refuse_if wraps ENOMEM
        >> mprotect_from kernel prot (end_page addr len) (end_page addr len - addr / PAGE_SIZE) (addr / PAGE_SIZE)))) space)
    case page true empty wraps o e w = λ fine. absurd (cc)
    case page false true wraps o e w = λ fine. let none = no_pages len (is_zero len e) in no_range (Protection prot) lo (lo + pages) page (maps_to space.areas page) (omega arith)
    case page false false true o e w = λ fine. absurd (cc)
    case page false false false o e w = λ fine. let above : lo < end_page addr len = grind (arith, nat_tests) in
        subst (λ (end : ℕ). maps_to loop.space.areas page ≡ (if within lo end page then turned (Protection prot) (maps_to space.areas page) else maps_to space.areas page))
        (whole (not_true (is_aligned addr) o) above)
        (protects kernel prot (end_page addr len) (end_page addr len - lo) lo page space order (omega arith) fine)

pub protects_as_profile : ProtectsAsProfile
protects_as_profile kernel config space other addr len prot order small ready same ok told = λ page.
    protects_its_range kernel space addr len prot order small ok page
    ∙ (ap (λ (o : Option MappedPage). if has_page (range_of addr len) page then turned (Protection prot) o else o) (same page)
    ∙ sym (protected_pages config other addr len prot page ready told))

pub seals_its_range : SealsItsRange
unfolding mseal range_of
seals_its_range kernel space addr len flags order small ok = λ page.
    case page (not kernel.rules.has_mseal) (not (nat_eq flags 0) || not (is_aligned addr)) (not (nat_eq len 0) && nat_eq (pages_of len) 0)
    (nat_lt (end_page addr len) (addr / PAGE_SIZE)) refl refl refl ok
  where
    lo : ℕ
    lo = addr / PAGE_SIZE

    pages : ℕ
    pages = tables.pages_of len

    end : ℕ
    end = end_page addr len

    all : Doing Unit
    all = mseal_from kernel end (pages_of len) lo lo

    Holds : ℕ → Did Unit → Type 0
    Holds page did = did.result ≡ Ok tt
        → maps_to did.space.areas page ≡ (if within lo (lo + pages) page then turned Seal (maps_to space.areas page) else maps_to space.areas page)

    second : (a : Bool) → (a || not (is_aligned addr)) ≡ false → is_aligned addr ≡ true
    second true is = absurd (cc)
    second false is = not_true (is_aligned addr) is

    same_pages : (none : Bool) → nat_eq len 0 ≡ none → (not none && nat_eq (pages_of len) 0) ≡ false → pages_of len ≡ pages
    same_pages true is some = zero_pages len (is_zero len is)
    same_pages false is some = same_length len small (grind (arith, nat_tests))

    ends : is_aligned addr ≡ true → pages_of len ≡ pages → lo ≤ end → end ≡ lo + pages
    ends aligned same above = let few = few_pages len in let it = end_is addr (pages_of len) few (aligned_is addr aligned) above in omega arith

    mapped : (page : ℕ) (holes : Bool) → is_aligned addr ≡ true → pages_of len ≡ pages → lo ≤ end → Holds page ((refuse_if holes ENOMEM >> all) space)
    mapped page true aligned same above = λ fine. absurd (cc)
    mapped page false aligned same above = λ fine. let whole = ends aligned same above in
        subst (λ (to : ℕ). maps_to (all space).space.areas page ≡ (if within lo to page then turned Seal (maps_to space.areas page) else maps_to space.areas page)) whole
        (seals kernel end (pages_of len) lo lo page space order (omega arith) (omega arith) (inl refl) fine)

    case : (page : ℕ) (absent odd wraps turns : Bool) → (not (nat_eq flags 0) || not (is_aligned addr)) ≡ odd
        → (not (nat_eq len 0) && nat_eq (pages_of len) 0) ≡ wraps → nat_lt (end_page addr len) (addr / PAGE_SIZE) ≡ turns
        → Holds page ((refuse_if absent ENOSYS >> (refuse_if odd EINVAL >> (refuse_if wraps EINVAL >> (refuse_if turns EINVAL >> (areas_now >>= (λ areas.
        refuse_if (not (is_mapped areas (end_page addr len) (pages_of len) (addr / PAGE_SIZE))) ENOMEM >> all)))))) space)
    case page true odd wraps turns o w t = λ fine. absurd (cc)
    case page false true wraps turns o w t = λ fine. absurd (cc)
    case page false false true turns o w t = λ fine. absurd (cc)
    case page false false false true o w t = λ fine. absurd (cc)
    case page false false false false o w t = let above : lo ≤ end = grind (arith, nat_tests) in
        mapped page (not (is_mapped space.areas end (pages_of len) lo)) (second (not (nat_eq flags 0)) o) (same_pages (nat_eq len 0) refl w) above

pub seals_as_profile : SealsAsProfile
unfolding range_of
seals_as_profile kernel config space other addr len flags order small ready same ok told = λ page. case page (nat_eq len 0) refl
  where
    mine : (page : ℕ) → maps_to (mseal kernel addr len flags space).space.areas page
        ≡ (if has_page (range_of addr len) page then turned Seal (maps_to space.areas page) else maps_to space.areas page)
    mine page = seals_its_range kernel space addr len flags order small ok page

    nothing : (page : ℕ) → len ≡ 0 → (if has_page (range_of addr len) page then turned Seal (maps_to space.areas page) else maps_to space.areas page) ≡ maps_to space.areas page
    nothing page none = let empty = no_pages len none in sym (no_range Seal (addr / PAGE_SIZE) (addr / PAGE_SIZE + tables.pages_of len) page (maps_to space.areas page) (omega arith))

    case : (page : ℕ) (none : Bool) → nat_eq len 0 ≡ none → maps_to (mseal kernel addr len flags space).space.areas page
        ≡ page_map (profile.step config other (call.Mseal addr len flags)).space.areas page
    case page true is = let none = is_zero len is in
        mine page ∙ (nothing page none ∙ (same page ∙ ap (λ (s : AddressSpace). page_map s.areas page) (sym (mseal_kept config other addr len flags (inr none)))))
    case page false is = mine page
        ∙ (ap (λ (o : Option MappedPage). if has_page (range_of addr len) page then turned Seal o else o) (same page)
        ∙ sym (sealed_page_map config other addr len flags page ready told (λ none. absurd (grind (arith, nat_tests)))))

-- a request that is refused at once changes nothing
same_prefix : (change : AttrChange) (addr len : ℕ) (areas : List Vma) → IsPrefix change (addr / PAGE_SIZE) (addr / PAGE_SIZE + tables.pages_of len) areas areas
same_prefix change addr len areas = no_prefix change (addr / PAGE_SIZE) (addr / PAGE_SIZE + tables.pages_of len) areas areas (λ at. refl)

pub refused_protects : RefusedProtectsPrefix
unfolding mprotect range_of
refused_protects kernel space addr len prot error order small refused =
    case (not (is_aligned addr)) (nat_eq len 0) (nat_le (end_page addr len) (addr / PAGE_SIZE)) refl refl refused
  where
    lo : ℕ
    lo = addr / PAGE_SIZE

    pages : ℕ
    pages = tables.pages_of len

    Holds : Did Unit → Type 0
    Holds did = did.result ≡ Err error → IsChangedTo (Protection prot) addr len space did.space

    said_so : (after : LinuxSpace) → IsPrefix (Protection prot) lo (lo + pages) space.areas after.areas → IsChangedTo (Protection prot) addr len space after
    said_so after is = let to = is.to in record { stop = is.stop; from = is.from; to = omega arith; pages = is.maps }

    whole : is_aligned addr ≡ true → lo < end_page addr len → end_page addr len ≡ lo + pages
    whole aligned above = let few = few_pages len in let end = end_is addr (pages_of len) few (aligned_is addr aligned) (omega arith) in
        let some : 0 < pages_of len = omega arith in let same = same_length len small some in omega arith

    case : (odd empty wraps : Bool) → not (is_aligned addr) ≡ odd → nat_le (end_page addr len) (addr / PAGE_SIZE) ≡ wraps
        → Holds ((refuse_if odd EINVAL >> (if empty then done tt else (refuse_if wraps ENOMEM
        >> mprotect_from kernel prot (end_page addr len) (end_page addr len - addr / PAGE_SIZE) (addr / PAGE_SIZE)))) space)
    case true empty wraps o w = λ fails. said_so space (same_prefix (Protection prot) addr len space.areas)
    case false true wraps o w = λ fails. absurd (cc)
    case false false true o w = λ fails. said_so space (same_prefix (Protection prot) addr len space.areas)
    case false false false o w = λ fails. let above : lo < end_page addr len = grind (arith, nat_tests) in
        let loop = mprotect_from kernel prot (end_page addr len) (end_page addr len - lo) lo space in
        said_so loop.space (subst (λ (end : ℕ). IsPrefix (Protection prot) lo end space.areas loop.space.areas) (whole (not_true (is_aligned addr) o) above)
        (protects_prefix kernel prot (end_page addr len) (end_page addr len - lo) lo error space order fails))

pub refused_seals : RefusedSealsPrefix
unfolding mseal range_of
refused_seals kernel space addr len flags error order small refused =
    case (not kernel.rules.has_mseal) (not (nat_eq flags 0) || not (is_aligned addr)) (not (nat_eq len 0) && nat_eq (pages_of len) 0)
    (nat_lt (end_page addr len) (addr / PAGE_SIZE)) refl refl refl refused
  where
    lo : ℕ
    lo = addr / PAGE_SIZE

    pages : ℕ
    pages = tables.pages_of len

    end : ℕ
    end = end_page addr len

    all : Doing Unit
    all = mseal_from kernel end (pages_of len) lo lo

    Holds : Did Unit → Type 0
    Holds did = did.result ≡ Err error → IsChangedTo Seal addr len space did.space

    said_so : (after : LinuxSpace) → IsPrefix Seal lo (lo + pages) space.areas after.areas → IsChangedTo Seal addr len space after
    said_so after is = let to = is.to in record { stop = is.stop; from = is.from; to = omega arith; pages = is.maps }

    second : (a : Bool) → (a || not (is_aligned addr)) ≡ false → is_aligned addr ≡ true
    second true is = absurd (cc)
    second false is = not_true (is_aligned addr) is

    same_pages : (none : Bool) → nat_eq len 0 ≡ none → (not none && nat_eq (pages_of len) 0) ≡ false → pages_of len ≡ pages
    same_pages true is some = zero_pages len (is_zero len is)
    same_pages false is some = same_length len small (grind (arith, nat_tests))

    ends : is_aligned addr ≡ true → pages_of len ≡ pages → lo ≤ end → end ≡ lo + pages
    ends aligned same above = let few = few_pages len in let it = end_is addr (pages_of len) few (aligned_is addr aligned) above in omega arith

    mapped : (holes : Bool) → is_aligned addr ≡ true → pages_of len ≡ pages → lo ≤ end → Holds ((refuse_if holes ENOMEM >> all) space)
    mapped true aligned same above = λ fails. said_so space (same_prefix Seal addr len space.areas)
    mapped false aligned same above = λ fails. said_so (all space).space
        (subst (λ (to : ℕ). IsPrefix Seal lo to space.areas (all space).space.areas) (ends aligned same above)
        (seals_prefix kernel end (pages_of len) lo lo error space order (omega arith) (inl refl) fails))

    case : (absent odd wraps turns : Bool) → (not (nat_eq flags 0) || not (is_aligned addr)) ≡ odd
        → (not (nat_eq len 0) && nat_eq (pages_of len) 0) ≡ wraps → nat_lt (end_page addr len) (addr / PAGE_SIZE) ≡ turns
        → Holds ((refuse_if absent ENOSYS >> (refuse_if odd EINVAL >> (refuse_if wraps EINVAL >> (refuse_if turns EINVAL >> (areas_now >>= (λ areas.
        refuse_if (not (is_mapped areas (end_page addr len) (pages_of len) (addr / PAGE_SIZE))) ENOMEM >> all)))))) space)
    case true odd wraps turns o w t = λ fails. said_so space (same_prefix Seal addr len space.areas)
    case false true wraps turns o w t = λ fails. said_so space (same_prefix Seal addr len space.areas)
    case false false true turns o w t = λ fails. said_so space (same_prefix Seal addr len space.areas)
    case false false false true o w t = λ fails. said_so space (same_prefix Seal addr len space.areas)
    case false false false false o w t = let above : lo ≤ end = grind (arith, nat_tests) in
        mapped (not (is_mapped space.areas end (pages_of len) lo)) (second (not (nat_eq flags 0)) o) (same_pages (nat_eq len 0) refl w) above
