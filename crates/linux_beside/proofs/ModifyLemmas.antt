-- What mprotect and mseal leave of a list in order: areas that are split, or merge.
use Rattle.std.proofs.Common.{arith, subst}
use Rattle.std.proofs.lemmas.Bool.Decides.{nat_tests}
use Rattle.std.specs.Prelude.{ℕ, zero, suc, ◌≡◌, ◌<◌, ◌≤◌, ◌-◌, ◌/◌, min, max, Bool, true, false, not, ◌&&◌, ◌||◌, if◌then◌else◌, nat_eq, nat_le, nat_lt, Option, Some, None, IfSome, Result, Ok, Err, refl}
use Rattle.mm_types.specs.declared.area.Prot.{Prot}
use Rattle.mm_types.specs.declared.config.TheConstants.{PAGE_SIZE}
use Rattle.mm_types.specs.Records.{holds_all}
use Rattle.linux_rules.specs.declared.area.Vma.{Vma}
use Rattle.linux_rules.specs.declared.area.VmFlags.{VmFlags}
use Rattle.linux_rules.specs.declared.errors.TheConstants.{EPERM, ENOMEM, EACCES, EINVAL, ENOSYS}
use Rattle.linux_rules.specs.declared.kernel.Kernel.{Kernel}
use Rattle.linux_rules.specs.Accounts.{lacks_memory}
use Rattle.linux_rules.specs.Areas.{vma_lookup, vma_before, replaced, lower_part, upper_part, split_at, split_vma, at_limit, is_aligned, pages_of}
use Rattle.linux_rules.specs.Doing.{LinuxSpace, Did, Doing, ◌>>=◌, ◌>>◌, go_on, done, refuse_if, or_refuse, areas_now, set_areas}
use Rattle.linux_rules.specs.Merging.{Merged, merge_existing_range}
use Rattle.linux_rules.specs.Mprotect.{cut_below, cut_above, split_off, merged_or, modify_flags, changes_nothing, becomes_accounted, flags_with, mprotect_fixup, mprotect_from, end_page, mprotect}
use Rattle.linux_rules.specs.Mseal.{is_mapped, sealed_flags, seal_one, next_begin, mseal_from, mseal}
use Rattle.linux_beside.specs.InOrder.{AreInOrder}
use Rattle.linux_beside.proofs.SplitLemmas.{has, split_list}
use Rattle.linux_beside.proofs.LookUps.{IsOneOf, IsPut, is_split, put_over, put_one, found_in}
use Rattle.linux_beside.proofs.MunmapLemmas.{looked_up}
use Rattle.linux_beside.proofs.Merges.{IsMergedOver, merged_existing}

-- what a step did that returns an area of a list in order, which has this range alone, with these flags
pub record LeavesPart (lo hi : ℕ) (flags : VmFlags) (did : Did Vma) : Type 0 where
  pub order : AreInOrder did.space.areas
  pub part : (vma : Vma) → did.result ≡ Ok vma → IsOneOf 0 vma did.space.areas × (vma.lo ≡ lo) × (vma.hi ≡ hi) × (vma.flags ≡ flags)

part_refused : (space : LinuxSpace) (lo hi error : ℕ) (flags : VmFlags) → AreInOrder space.areas → LeavesPart lo hi flags (record { space = space; result = Err error })
part_refused space lo hi error flags order = record { order = order; part = λ vma is. absurd (cc) }

part_is : (space : LinuxSpace) (vma : Vma) → AreInOrder space.areas → IsOneOf 0 vma space.areas → LeavesPart vma.lo vma.hi vma.flags (done vma space)
part_is space vma order one = record {
  order = order;
  part = λ v is. let same : vma ≡ v = cc in subst (λ (u : Vma). IsOneOf 0 u space.areas × (u.lo ≡ vma.lo) × (u.hi ≡ vma.hi) × (u.flags ≡ vma.flags)) same
      (one, refl, refl, refl);
}

-- split where a range begins
pub cut_lower : (kernel : Kernel) (vma : Vma) (lo : ℕ) (space : LinuxSpace) → AreInOrder space.areas → IsOneOf 0 vma space.areas → vma.lo ≤ lo → lo < vma.hi
    → LeavesPart lo vma.hi vma.flags (cut_below kernel vma lo space)
cut_lower kernel vma lo space order one from below = case (nat_lt vma.lo lo) refl
  where
    full : (test : Bool) → vma.lo < lo → LeavesPart lo vma.hi vma.flags ((refuse_if test ENOMEM >> split_at vma lo) space)
    full true above = part_refused space lo vma.hi ENOMEM vma.flags order
    full false above = let split = is_split vma lo space.areas order one above below in
        part_is (record space { areas = split_list vma lo space.areas }) (upper_part vma lo) split.order split.upper

    case : (test : Bool) → nat_lt vma.lo lo ≡ test → LeavesPart lo vma.hi vma.flags ((if test then split_vma kernel vma lo else done vma) space)
    case true is = full (at_limit kernel space.areas) (grind (arith, nat_tests))
    case false is = let same : vma.lo ≡ lo = grind (arith, nat_tests) in subst (λ (page : ℕ). LeavesPart page vma.hi vma.flags (done vma space)) same (part_is space vma order one)

-- split where it ends
pub cut_upper : (kernel : Kernel) (vma : Vma) (hi : ℕ) (space : LinuxSpace) → AreInOrder space.areas → IsOneOf 0 vma space.areas → vma.lo < hi → hi ≤ vma.hi
    → LeavesPart vma.lo hi vma.flags (cut_above kernel vma hi space)
cut_upper kernel vma hi space order one above to = case (nat_lt hi vma.hi) refl
  where
    full : (test : Bool) → hi < vma.hi → LeavesPart vma.lo hi vma.flags (((refuse_if test ENOMEM >> split_at vma hi) >>= (λ upper. done (record vma { hi = hi }))) space)
    full true below = part_refused space vma.lo hi ENOMEM vma.flags order
    full false below = let split = is_split vma hi space.areas order one above below in
        part_is (record space { areas = split_list vma hi space.areas }) (lower_part vma hi) split.order split.lower

    case : (test : Bool) → nat_lt hi vma.hi ≡ test
        → LeavesPart vma.lo hi vma.flags ((if test then split_vma kernel vma hi >>= (λ upper. done (record vma { hi = hi })) else done vma) space)
    case true is = full (at_limit kernel space.areas) (grind (arith, nat_tests))
    case false is = let same : vma.hi ≡ hi = grind (arith, nat_tests) in subst (λ (page : ℕ). LeavesPart vma.lo page vma.flags (done vma space)) same (part_is space vma order one)

-- the part gets its flags
abbrev pub with_flags : VmFlags → Vma → Doing Vma
with_flags flags part = areas_now >>= (λ areas. set_areas (replaced part (record part { flags = flags }) areas) >> done (record part { flags = flags }))

pub flags_set : (flags : VmFlags) (part : Vma) (space : LinuxSpace) → AreInOrder space.areas → IsOneOf 0 part space.areas → LeavesPart part.lo part.hi flags (with_flags flags part space)
flags_set flags part space order one = part_is (record space { areas = replaced part changed space.areas }) changed put.order
    (put_one changed space.areas (replaced part changed space.areas) put)
  where
    changed : Vma
    changed = record part { flags = flags }

    put : IsPut changed space.areas (replaced part changed space.areas)
    put = put_over part changed space.areas order one one.some (λ page it. it) (λ page it off. absurd (cc))

-- a range of an area on its own
pub split_is : (kernel : Kernel) (vma : Vma) (lo hi : ℕ) (flags : VmFlags) (space : LinuxSpace) → AreInOrder space.areas → IsOneOf 0 vma space.areas
    → vma.lo ≤ lo → lo < hi → hi ≤ vma.hi → LeavesPart lo hi flags (split_off kernel vma lo hi flags space)
unfolding split_off
split_is kernel vma lo hi flags space order one from some to = first low.result refl
  where
    low : Did Vma
    low = cut_below kernel vma lo space

    is_low : LeavesPart lo vma.hi vma.flags low
    is_low = cut_lower kernel vma lo space order one from (omega arith)

    last : (high : Did Vma) → LeavesPart lo hi vma.flags high → (r : Result Vma ℕ) → high.result ≡ r → LeavesPart lo hi flags (go_on high.space r (with_flags flags))
    last high is (Err error) same = part_refused high.space lo hi error flags is.order
    last high is (Ok part) same = let it = is.part part same in
        subst (λ (page : ℕ). LeavesPart page hi flags (with_flags flags part high.space)) it.1
        (subst (λ (page : ℕ). LeavesPart part.lo page flags (with_flags flags part high.space)) it.2 (flags_set flags part high.space is.order it.0))

    first : (r : Result Vma ℕ) → low.result ≡ r → LeavesPart lo hi flags (go_on low.space r (λ middle. cut_above kernel middle hi >>= with_flags flags))
    first (Err error) same = part_refused low.space lo hi error flags is_low.order
    first (Ok middle) same = let it = is_low.part middle same in let begin = it.1 in let end = it.2 in
        let high = cut_above kernel middle hi low.space in
        last high (subst (λ (f : VmFlags). LeavesPart lo hi f high) it.3 (subst (λ (page : ℕ). LeavesPart page hi middle.flags high) begin (cut_upper kernel middle hi low.space is_low.order it.0 (omega arith) (omega arith)))) high.result refl

-- what a step did that returns an area of a list in order, which has this range and maybe more
pub record LeavesOver (lo hi : ℕ) (did : Did Vma) : Type 0 where
  pub order : AreInOrder did.space.areas
  pub over : (vma : Vma) → did.result ≡ Ok vma → IsOneOf 0 vma did.space.areas × (vma.lo ≤ lo) × (hi ≤ vma.hi)

-- a range with other flags, merged or on its own
pub modified : (kernel : Kernel) (vma : Vma) (lo hi : ℕ) (flags : VmFlags) (space : LinuxSpace) → AreInOrder space.areas → IsOneOf 0 vma space.areas
    → vma.lo ≤ lo → lo < hi → hi ≤ vma.hi → LeavesOver lo hi (modify_flags kernel vma lo hi flags space)
unfolding modify_flags
modified kernel vma lo hi flags space order one from some to =
    at (merge_existing_range kernel.rules space.areas (vma_before space.areas lo) vma lo hi flags) (merged_existing kernel.rules space.areas vma lo hi flags order one from some to)
  where
    alone : Did Vma
    alone = split_off kernel vma lo hi flags space

    is_alone : LeavesPart lo hi flags alone
    is_alone = split_is kernel vma lo hi flags space order one from some to

    at : (o : Option Merged) → IfSome o (IsMergedOver vma lo hi space.areas) → LeavesOver lo hi (merged_or o (split_off kernel vma lo hi flags) space)
    at None is = record {
      order = is_alone.order;
      over = λ v same. let it = is_alone.part v same in let begin = it.1 in let end = it.2 in (it.0, omega arith, omega arith);
    }
    at (Some merged) is = record {
      order = is.put.order;
      over = λ v same. let it : merged.vma ≡ v = cc in
          subst (λ (u : Vma). IsOneOf 0 u merged.areas × (u.lo ≤ lo) × (hi ≤ u.hi)) it
          (put_one merged.vma is.rest merged.areas is.put, is.covers.0, is.covers.1);
    }

-- one area of mprotect's range
fixed_order : (kernel : Kernel) (prot : Prot) (vma : Vma) (lo hi : ℕ) (space : LinuxSpace) → AreInOrder space.areas → IsOneOf 0 vma space.areas
    → vma.lo ≤ lo → lo < hi → hi ≤ vma.hi → AreInOrder (mprotect_fixup kernel prot vma lo hi space).space.areas
unfolding mprotect_fixup
fixed_order kernel prot vma lo hi space order one from some to =
    case vma.flags.sealed (changes_nothing kernel vma prot) (becomes_accounted vma.flags prot && lacks_memory kernel (hi - lo))
  where
    case : (sealed same lacks : Bool) → AreInOrder ((refuse_if sealed EPERM >> (if same then done vma else
        (refuse_if lacks ENOMEM >> modify_flags kernel vma lo hi (flags_with kernel vma prot)))) space).space.areas
    case true same lacks = order
    case false true lacks = order
    case false false true = order
    case false false false = (modified kernel vma lo hi (flags_with kernel vma prot) space order one from some to).order

protected_order : (kernel : Kernel) (prot : Prot) (end rounds page : ℕ) (space : LinuxSpace) → AreInOrder space.areas
    → AreInOrder (mprotect_from kernel prot end rounds page space).space.areas
unfolding mprotect_from
protected_order kernel prot end zero page space order = order
protected_order kernel prot end (suc rounds) page space order =
    case (nat_le end page) refl (λ next after ordered. protected_order kernel prot end rounds next after ordered)
  where
    Rest : Type 0
    Rest = (next : ℕ) (after : LinuxSpace) → AreInOrder after.areas → AreInOrder (mprotect_from kernel prot end rounds next after).space.areas

    go : Vma → Vma → Doing Unit
    go vma last = mprotect_from kernel prot end rounds (max (min vma.hi end) last.hi)

    after : Rest → (vma : Vma) (did : Did Vma) → AreInOrder did.space.areas → (r : Result Vma ℕ) → AreInOrder (go_on did.space r (go vma)).space.areas
    after rest vma did ordered (Err error) = ordered
    after rest vma did ordered (Ok last) = rest (max (min vma.hi end) last.hi) did.space ordered

    denied : Rest → (vma : Vma) (test : Bool) → vma_lookup space.areas page ≡ Some vma → page < end
        → AreInOrder ((refuse_if test EACCES >> (mprotect_fixup kernel prot vma page (min vma.hi end) >>= go vma)) space).space.areas
    denied rest vma true found below = order
    denied rest vma false found below = let inside = looked_up space.areas page vma found in let above = inside.0 in let under = inside.1 in
        let did = mprotect_fixup kernel prot vma page (min vma.hi end) space in
        after rest vma did (fixed_order kernel prot vma page (min vma.hi end) space order (found_in (λ v. has v page) 0 vma space.areas order found)
        above (omega arith) (omega arith)) did.result

    at : Rest → page < end → (found : Option Vma) → vma_lookup space.areas page ≡ found
        → AreInOrder ((or_refuse found ENOMEM >>= (λ vma. refuse_if (not (holds_all vma.flags.may prot)) EACCES
        >> (mprotect_fixup kernel prot vma page (min vma.hi end) >>= go vma))) space).space.areas
    at rest below None is = order
    at rest below (Some vma) is = denied rest vma (not (holds_all vma.flags.may prot)) is below

    case : (test : Bool) → nat_le end page ≡ test → Rest
        → AreInOrder ((if test then done tt else (areas_now >>= (λ areas. or_refuse (vma_lookup areas page) ENOMEM >>= (λ vma.
        refuse_if (not (holds_all vma.flags.may prot)) EACCES >> (mprotect_fixup kernel prot vma page (min vma.hi end) >>= go vma))))) space).space.areas
    case true is rest = order
    case false is rest = at rest (grind (arith, nat_tests)) (vma_lookup space.areas page) refl

pub mprotect_order : (kernel : Kernel) (space : LinuxSpace) (addr len : ℕ) (prot : Prot) → AreInOrder space.areas
    → AreInOrder (mprotect kernel addr len prot space).space.areas
unfolding mprotect
mprotect_order kernel space addr len prot order = case (not (is_aligned addr)) (nat_eq len 0) (nat_le (end_page addr len) (addr / PAGE_SIZE))
  where
    case : (odd empty wraps : Bool) → AreInOrder ((refuse_if odd EINVAL >> (if empty then done tt else (refuse_if wraps ENOMEM
        >> mprotect_from kernel prot (end_page addr len) (end_page addr len - addr / PAGE_SIZE) (addr / PAGE_SIZE)))) space).space.areas
    case true empty wraps = order
    case false true wraps = order
    case false false true = order
    case false false false = protected_order kernel prot (end_page addr len) (end_page addr len - addr / PAGE_SIZE) (addr / PAGE_SIZE) space order

-- one area of mseal's range
sealed_order : (kernel : Kernel) (vma : Vma) (begin stop : ℕ) (space : LinuxSpace) → AreInOrder space.areas → IsOneOf 0 vma space.areas
    → begin < stop → vma.lo < stop → stop ≤ vma.hi → AreInOrder (seal_one kernel vma begin stop space).space.areas
unfolding seal_one
sealed_order kernel vma begin stop space order one some above to = case vma.flags.sealed (nat_le vma.lo begin) refl
  where
    case : (sealed fresh : Bool) → nat_le vma.lo begin ≡ fresh → AreInOrder ((if sealed then done vma else
        (if fresh then modify_flags kernel vma begin stop (sealed_flags vma) else split_off kernel vma vma.lo stop (sealed_flags vma))) space).space.areas
    case true fresh is = order
    case false true is = (modified kernel vma begin stop (sealed_flags vma) space order one (grind (arith, nat_tests)) some to).order
    case false false is = (split_is kernel vma vma.lo stop (sealed_flags vma) space order one (omega arith) above to).order

seals_order : (kernel : Kernel) (end rounds page begin : ℕ) (space : LinuxSpace) → AreInOrder space.areas → begin ≤ page
    → AreInOrder (mseal_from kernel end rounds page begin space).space.areas
unfolding mseal_from
seals_order kernel end zero page begin space order behind = order
seals_order kernel end (suc rounds) page begin space order behind =
    case (nat_le end page) refl (λ next start after ordered less. seals_order kernel end rounds next start after ordered less)
  where
    Rest : Type 0
    Rest = (next start : ℕ) (after : LinuxSpace) → AreInOrder after.areas → start ≤ next → AreInOrder (mseal_from kernel end rounds next start after).space.areas

    go : Vma → Vma → Doing Unit
    go vma last = let next = max (min vma.hi end) last.hi in mseal_from kernel end rounds next (next_begin kernel next (min vma.hi end))

    stale : (test : Bool) (next stop : ℕ) → stop ≤ next → (if test then stop else next) ≤ next
    stale true next stop less = less
    stale false next stop less = omega arith

    after : Rest → (vma : Vma) (did : Did Vma) → AreInOrder did.space.areas → (r : Result Vma ℕ) → AreInOrder (go_on did.space r (go vma)).space.areas
    after rest vma did ordered (Err error) = ordered
    after rest vma did ordered (Ok last) = let next = max (min vma.hi end) last.hi in
        rest next (next_begin kernel next (min vma.hi end)) did.space ordered (stale kernel.rules.has_stale_seal next (min vma.hi end) (omega arith))

    at : Rest → page < end → (found : Option Vma) → vma_lookup space.areas page ≡ found
        → AreInOrder ((or_refuse found ENOMEM >>= (λ vma. seal_one kernel vma begin (min vma.hi end) >>= go vma)) space).space.areas
    at rest below None is = order
    at rest below (Some vma) is = let inside = looked_up space.areas page vma is in let above = inside.0 in let under = inside.1 in
        let did = seal_one kernel vma begin (min vma.hi end) space in
        after rest vma did (sealed_order kernel vma begin (min vma.hi end) space order (found_in (λ v. has v page) 0 vma space.areas order is)
        (omega arith) (omega arith) (omega arith)) did.result

    case : (test : Bool) → nat_le end page ≡ test → Rest
        → AreInOrder ((if test then done tt else (areas_now >>= (λ areas. or_refuse (vma_lookup areas page) ENOMEM >>= (λ vma.
        seal_one kernel vma begin (min vma.hi end) >>= go vma)))) space).space.areas
    case true is rest = order
    case false is rest = at rest (grind (arith, nat_tests)) (vma_lookup space.areas page) refl

pub mseal_order : (kernel : Kernel) (space : LinuxSpace) (addr len flags : ℕ) → AreInOrder space.areas
    → AreInOrder (mseal kernel addr len flags space).space.areas
unfolding mseal
mseal_order kernel space addr len flags order =
    case (not kernel.rules.has_mseal) (not (nat_eq flags 0) || not (is_aligned addr)) (not (nat_eq len 0) && nat_eq (pages_of len) 0)
    (nat_lt (end_page addr len) (addr / PAGE_SIZE))
  where
    seals : Doing Unit
    seals = mseal_from kernel (end_page addr len) (pages_of len) (addr / PAGE_SIZE) (addr / PAGE_SIZE)

    mapped : (holes : Bool) → AreInOrder ((refuse_if holes ENOMEM >> seals) space).space.areas
    mapped true = order
    mapped false = seals_order kernel (end_page addr len) (pages_of len) (addr / PAGE_SIZE) (addr / PAGE_SIZE) space order (omega arith)

    case : (absent odd wraps turned : Bool) → AreInOrder ((refuse_if absent ENOSYS >> (refuse_if odd EINVAL >> (refuse_if wraps EINVAL
        >> (refuse_if turned EINVAL >> (areas_now >>= (λ areas.
        refuse_if (not (is_mapped areas (end_page addr len) (pages_of len) (addr / PAGE_SIZE))) ENOMEM >> seals)))))) space).space.areas
    case true odd wraps turned = order
    case false true wraps turned = order
    case false false true turned = order
    case false false false true = order
    case false false false false = mapped (not (is_mapped space.areas (end_page addr len) (pages_of len) (addr / PAGE_SIZE)))
