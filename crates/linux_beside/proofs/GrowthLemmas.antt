-- An access by which an area grows, beside the profile's.
use Rattle.std.proofs.Common.{arith, sym, subst, ap, ◌∙◌, inl}
use Rattle.std.proofs.lemmas.Bool.Decides.{nat_tests}
use Rattle.std.specs.Prelude.{ℕ, ◌≡◌, ◌<◌, ◌≤◌, ◌+◌, ◌-◌, Bool, true, false, not, ◌&&◌, ◌||◌, if◌then◌else◌, nat_eq, nat_le, nat_lt, List, [], ◌∷◌, map, find, Option, Some, None, IfSome, Result, Ok, refl}
use Rattle.mm_types.specs.declared.area.Access.{Access}
use Rattle.mm_types.specs.declared.area.Record.{Record}
use Rattle.mm_types.specs.declared.config.Config.{Config}
use Rattle.area_list.specs.Areas.{page_of}
use Rattle.area_list.proofs.Finding.{find_passes}
use Rattle.area_rules.specs.Accesses.{permits}
use Rattle.area_rules.specs.Growing.{is_above, grower, grows, grown_at, grown_list, touch}
use Rattle.area_rules.specs.Placement.{is_free}
use Rattle.area_rules.specs.Tables.{AddressSpace}
use Rattle.linux_rules.specs.declared.area.AnonVma.{AnonVma}
use Rattle.linux_rules.specs.declared.area.Vma.{Vma}
use Rattle.linux_rules.specs.declared.errors.TheConstants.{ENOMEM}
use Rattle.linux_rules.specs.declared.kernel.Kernel.{Kernel}
use Rattle.linux_rules.specs.declared.verdict.LinuxVerdict.{LinuxVerdict}
use Rattle.linux_rules.specs.AnonVmas.{anon_vma_prepare}
use Rattle.linux_rules.specs.Areas.{find_vma, vma_lookup, vma_before, with_vma, replaced}
use Rattle.linux_rules.specs.Doing.{LinuxSpace, Did, Doing, ◌>>◌, go_on, done, refuse_if}
use Rattle.linux_rules.specs.Faults.{is_guarded, expand_downwards, is_exec, access_error, area_verdict, area_for_fault, or_bad_area, do_user_addr_fault, fault}
use Rattle.linux_rules.specs.Merging.{from_page}
use Rattle.linux_rules.specs.Searching.{lowest_for_hints}
use Rattle.linux_rules.specs.Steps.{Answer, Serves}
use Rattle.linux_beside.specs.Faulting.{IsPlainGrowth, GrowthHasVerdictOfProfile, GrowsAsProfile, forgotten_space, is_past_object_end}
use Rattle.linux_beside.specs.Forgetting.{forgotten}
use Rattle.linux_beside.specs.InOrder.{AreInOrder, AreInOrderFrom}
use Rattle.linux_beside.specs.Sides as profile
use Rattle.linux_beside.proofs.SplitLemmas.{has}
use Rattle.linux_beside.proofs.LookUps.{IsOneOf, IsPut, found_in, nothing_below, put_over, put_one}
use Rattle.linux_beside.proofs.Merges.{page_in, lies, lies_not}
use Rattle.linux_beside.proofs.OrderLemmas.{gone, comes_first}
use Rattle.linux_beside.proofs.Orderly.{LeavesSame, hole, written_is}
use Rattle.linux_beside.proofs.FaultLemmas.{IsAnswered, IsPrepared, prepared, area_answered, answers_agree, by_linux, served}
use Rattle.linux_beside.proofs.PlainAccess.{fault_is, still_answered, seen_result, seen_space}

-- in a list in order the area that has a page is the first that ends above it
first_above : (low page : ℕ) (vma : Vma) (areas : List Vma) → AreInOrderFrom low areas → vma_lookup areas page ≡ Some vma → find_vma areas page ≡ Some vma
first_above low page vma [] order found = absurd (cc)
first_above low page vma (first ∷ areas) order found = case (has first page) (nat_lt page first.hi) refl refl (λ is. first_above first.hi page vma areas order.2 is) found
  where
    below : nat_lt page first.hi ≡ true → vma_lookup areas page ≡ None
    below is = nothing_below first.hi page areas (grind (arith, nat_tests)) order.2

    case : (here ends : Bool) → has first page ≡ here → nat_lt page first.hi ≡ ends → (vma_lookup areas page ≡ Some vma → find_vma areas page ≡ Some vma)
        → (if here then Some first else vma_lookup areas page) ≡ Some vma → (if ends then Some first else find_vma areas page) ≡ Some vma
    case true true is it later found = found
    case true false is it later found = absurd (grind (arith, nat_tests))
    case false true is it later found = let none = below it in absurd (cc)
    case false false is it later found = later found

-- the profile grows what begins next above the page
above_is : (config : Config) (areas : List Record) (page : ℕ) (area : Record) → grower config areas page ≡ Some area → is_above page area ≡ true
unfolding grower
above_is config areas page area grows = case (nat_le (page_of config.min) page && is_free areas 2 (page - 1)) grows
  where
    case : (may : Bool) → (if may then find (is_above page) areas else None) ≡ Some area → is_above page area ≡ true
    case true is = find_passes (is_above page) areas area is
    case false is = absurd (cc)

second_holds : (a b : Bool) → (a && b) ≡ true → b ≡ true
second_holds true b is = is
second_holds false b is = absurd (cc)

first_holds : (a b : Bool) → (a && b) ≡ true → a ≡ true
first_holds true b is = refl
first_holds false b is = absurd (cc)

-- no area behind the one above the page grows with it
none_above : (low page : ℕ) (areas : List Vma) → page + 1 < low → AreInOrderFrom low areas → map (grown_at page) (map forgotten areas) ≡ map forgotten areas
none_above low page [] over order = refl
none_above low page (vma ∷ areas) over order = let begin = order.0 in let some = order.1 in
    let rest = none_above vma.hi page areas (omega arith) order.2 in
    let other : (vma.flags.growsdown && nat_eq vma.lo (page + 1)) ≡ false = grind (arith, nat_tests) in rw (other, rest)

-- the area that takes the page has it in the profile's list too
grown_forgotten : (low page : ℕ) (vma : Vma) (areas : List Vma) → AreInOrderFrom low areas → ((at : ℕ) → has vma at ≡ true → vma_lookup areas at ≡ Some vma)
    → vma_lookup areas page ≡ None → vma.lo ≡ page + 1 → vma.lo < vma.hi → vma.flags.growsdown ≡ true → vma.file ≡ 0
    → map forgotten (replaced vma (from_page vma page) areas) ≡ map (grown_at page) (map forgotten areas)
grown_forgotten low page vma [] order looked free begins some grows plain = let is = looked vma.lo (lies vma vma.lo (omega arith) some) in absurd (cc)
grown_forgotten low page vma (first ∷ areas) order looked free begins some grows plain =
    case (nat_eq first.lo vma.lo) refl (λ later none. grown_forgotten first.hi page vma areas order.2 later none begins some grows plain)
  where
    off : (test : Bool) → has first page ≡ test → (if test then Some first else vma_lookup areas page) ≡ None → (has first page ≡ false) × (vma_lookup areas page ≡ None)
    off true is none = absurd (cc)
    off false is none = (is, none)

    missed : (has first page ≡ false) × (vma_lookup areas page ≡ None)
    missed = off (has first page) refl free

    here : (has first vma.lo ≡ true) → first ≡ vma
    here it = let is = looked vma.lo (lies vma vma.lo (omega arith) some) in let found : vma_lookup (first ∷ areas) vma.lo ≡ Some first = rw it in cc

    later_at : (at : ℕ) (test : Bool) → nat_eq first.lo vma.lo ≡ false → has first at ≡ test → (if test then Some first else vma_lookup areas at) ≡ Some vma → vma_lookup areas at ≡ Some vma
    later_at at true apart it is = let same : first ≡ vma = cc in let lo = ap (λ (v : Vma). v.lo) same in absurd (grind (arith, nat_tests))
    later_at at false apart it is = is

    front : (v : Vma) → AreInOrderFrom v.hi areas → v.lo ≡ page + 1 → v.lo < v.hi → v.flags.growsdown ≡ true → v.file ≡ 0
        → map forgotten (replaced v (from_page v page) (v ∷ areas)) ≡ map (grown_at page) (map forgotten (v ∷ areas))
    front v rest_order at more down none =
        let left = gone v.lo v.hi areas rest_order more in
        let itself : nat_eq v.lo v.lo ≡ true = grind (arith, nat_tests) in
        let put : with_vma (from_page v page) areas ≡ from_page v page ∷ areas = comes_first (from_page v page) v.hi areas rest_order (omega arith) in
        let above : nat_eq v.lo (page + 1) ≡ true = grind (arith, nat_tests) in
        let rest = none_above v.hi page areas (omega arith) rest_order in rw (itself, left, put, down, above, none, rest)

    apart_less : nat_eq first.lo vma.lo ≡ false → first.lo < page
    apart_less apart = let b = order.1 in before (nat_lt first.lo page) refl
      where
        before : (less : Bool) → nat_lt first.lo page ≡ less → first.lo < page
        before true is = grind (arith, nat_tests)
        before false is = absurd (beyond (vma_lookup areas vma.lo) refl)
          where
            beyond : (o : Option Vma) → vma_lookup areas vma.lo ≡ o → ⊥
            beyond o same = let found = later_at vma.lo (has first vma.lo) apart refl (looked vma.lo (lies vma vma.lo (omega arith) some)) in
                let from = (found_in (λ v. has v vma.lo) first.hi vma areas order.2 found).from in let more = order.1 in let out = missed.0 in
                grind (arith, nat_tests)

    case : (test : Bool) → nat_eq first.lo vma.lo ≡ test
        → (((at : ℕ) → has vma at ≡ true → vma_lookup areas at ≡ Some vma) → vma_lookup areas page ≡ None
        → map forgotten (replaced vma (from_page vma page) areas) ≡ map (grown_at page) (map forgotten areas))
        → map forgotten (replaced vma (from_page vma page) (first ∷ areas)) ≡ map (grown_at page) (map forgotten (first ∷ areas))
    case true is rest = let more = order.1 in let same = here (lies first vma.lo (grind (arith, nat_tests)) (grind (arith, nat_tests))) in
        subst (λ (v : Vma). map forgotten (replaced vma (from_page vma page) (v ∷ areas)) ≡ map (grown_at page) (map forgotten (v ∷ areas))) (sym same)
        (front vma (subst (λ (v : Vma). AreInOrderFrom v.hi areas) same order.2) begins some grows plain)
    case false is rest = let less = apart_less is in let before : nat_lt first.lo page ≡ true = grind (arith, nat_tests) in
        let other : (first.flags.growsdown && nat_eq first.lo (page + 1)) ≡ false = grind (arith, nat_tests) in
        let tail = rest (λ at it. later_at at (has first at) is refl (looked at it)) missed.1 in rw (is, before, other, tail)

-- what the growth of an area leaves: a list in which the area has the page, and of which the profile has the one in which it grew
pub record IsGrown (kernel : Kernel) (space : LinuxSpace) (page : ℕ) (vma : Vma) (did : Did Vma) : Type 0 where
  pub anon : Option AnonVma
  pub returns : did.result ≡ Ok (from_page (record vma { anon = anon }) page)
  pub order : AreInOrder did.space.areas
  pub found : find_vma did.space.areas page ≡ Some (from_page (record vma { anon = anon }) page)
  pub known : forgotten_space did.space ≡ record (forgotten_space space) { areas = grown_list page (map forgotten space.areas) }

grown_is : (kernel : Kernel) (space : LinuxSpace) (page : ℕ) (access : Access) (vma : Vma) → IsPlainGrowth kernel space page access vma
    → IsGrown kernel space page vma (expand_downwards kernel vma page space)
unfolding expand_downwards grown_list
grown_is kernel space page access vma plain = rw (test, ready.returns, plain.near) made
  where
    did : Did Vma
    did = anon_vma_prepare vma space

    one : IsOneOf 0 vma space.areas
    one = found_in (λ v. nat_lt page v.hi) 0 vma space.areas plain.in_order plain.next

    ready : IsPrepared space vma did
    ready = prepared space page vma plain.in_order plain.next

    same : LeavesSame vma space did
    same = written_is vma space plain.in_order one

    written : Vma
    written = record vma { anon = ready.anon }

    part : IsOneOf 0 written did.space.areas
    part = (same.part written ready.returns).0

    above : is_above page (forgotten vma) ≡ true
    above = above_is kernel.config (map forgotten space.areas) page (forgotten vma) plain.grows

    begins : vma.lo ≡ page + 1
    begins = let at : nat_eq vma.lo (page + 1) ≡ true = second_holds vma.flags.growsdown (nat_eq vma.lo (page + 1)) above in grind (arith, nat_tests)

    down : vma.flags.growsdown ≡ true
    down = first_holds vma.flags.growsdown (nat_eq vma.lo (page + 1)) above

    test : (nat_lt page (lowest_for_hints kernel) || is_guarded page (vma_before space.areas vma.lo)) ≡ false
    test = let a = plain.low in let b = plain.guard in rw (a, b)

    free : vma_lookup did.space.areas page ≡ None
    free = let at = begins in same.others page (lies_not vma page (inl (omega arith)))
        ∙ hole 0 page page space.areas plain.in_order (omega arith) (under (find_vma space.areas page) plain.next)
      where
        under : (o : Option Vma) → o ≡ Some vma → IfSome o (λ v. page < v.lo)
        under None is = absurd (cc)
        under (Some v) is = let it : v ≡ vma = cc in let at = begins in let less : page < vma.lo = omega arith in rw it less

    new : Vma
    new = from_page written page

    after : List Vma
    after = replaced written new did.space.areas

    put : IsPut new did.space.areas after
    put = let some = part.some in let next = begins in let first : page < vma.hi = omega arith in put_over written new did.space.areas same.order part first
        (λ at it. let in_it = page_in written at it in let a : vma.lo ≤ at = in_it.0 in let b = in_it.1 in let from : page ≤ at = omega arith in lies new at from b)
        (λ at it off. let in_it = page_in new at it in let a = in_it.0 in let b = in_it.1 in
        subst (λ (p : ℕ). vma_lookup did.space.areas p ≡ None) (only at a (under at b off)) free)
      where
        under : (at : ℕ) → at < written.hi → has written at ≡ false → at < vma.lo
        under at below off = let less : at < written.lo = grind (arith, nat_tests) in omega arith

        only : (at : ℕ) → page ≤ at → at < vma.lo → page ≡ at
        only at from less = let it = begins in omega arith

    list_is : map forgotten after ≡ map (grown_at page) (map forgotten space.areas)
    list_is = grown_forgotten 0 page written did.space.areas same.order part.looked free begins part.some down plain.plain
        ∙ ap (λ (list : List Record). map (grown_at page) list) ready.areas

    made : IsGrown kernel space page vma (record { space = record (did.space) { areas = after }; result = Ok new })
    made = record {
      anon = ready.anon;
      returns = refl;
      order = put.order;
      found = let some = put.some in first_above 0 page new after put.order
          ((put_one new did.space.areas after put).looked page (lies new page (omega arith) some));
      known = let list = list_is in let brk = ready.brk in let objects = ready.objects in rw (list, brk, objects);
    }

-- the access, once the area has the page
pub record IsAlikeGrown (kernel : Kernel) (space : LinuxSpace) (page : ℕ) (access : Access) (did : Did LinuxVerdict) : Type 0 where
  pub answer : Answer
  pub after : LinuxSpace
  pub linux : IsAnswered after answer did
  pub known : forgotten_space after ≡ record (forgotten_space space) { areas = grown_list page (map forgotten space.areas) }
  pub profile : profile.accessed kernel.config (forgotten_space space) page access
      ≡ record { space = record (forgotten_space space) { areas = grown_list page (map forgotten space.areas) }; answer = Ok answer }

-- the area above a page is one that grows
area_grows : (kernel : Kernel) (vma : Vma) (page : ℕ) (space : LinuxSpace) → nat_le vma.lo page ≡ false → vma.flags.growsdown ≡ true
    → area_for_fault kernel page (Some vma) space ≡ expand_downwards kernel vma page space
unfolding area_for_fault
area_grows kernel vma page space not_here down = case (nat_le vma.lo page) vma.flags.growsdown not_here down
  where
    case : (here grows : Bool) → here ≡ false → grows ≡ true
        → ((if here then done vma else (refuse_if (not grows) ENOMEM >> expand_downwards kernel vma page)) space) ≡ expand_downwards kernel vma page space
    case true grows is it = absurd (cc)
    case false false is it = absurd (cc)
    case false true is it = refl

-- the profile's side
grows_page : (config : Config) (space : AddressSpace) (vma : Vma) (page : ℕ) (access : Access) → grower config space.areas page ≡ Some (forgotten vma)
    → permits vma.flags.access access ≡ true → profile.accessed config space page access
    ≡ record { space = record space { areas = grown_list page space.areas }; answer = Ok (Serves page vma.hi vma.flags.access vma.flags.mayshare 0) }
unfolding grows touch
grows_page config space vma page access found allowed = rw (found, allowed)

-- Linux's answer by the area that has taken the page
serves_page : (kernel : Kernel) (space : LinuxSpace) (vma : Vma) (page : ℕ) (access : Access) → vma.file ≡ 0 → permits vma.flags.access access ≡ true
    → by_linux (access_error vma access) (is_past_object_end kernel space vma page) (is_exec access && not vma.flags.access.exec) (served vma page)
    ≡ Serves vma.lo vma.hi vma.flags.access vma.flags.mayshare 0
serves_page kernel space vma page access plain allowed =
    answers_agree vma.flags.access access (is_past_object_end kernel space vma page) (served vma page) (λ exec none. past) ∙ (rw (allowed, past) first)
  where
    past : is_past_object_end kernel space vma page ≡ false
    past = rw plain

    first : served vma page ≡ Serves vma.lo vma.hi vma.flags.access vma.flags.mayshare 0
    first = rw plain

alike_grown : (kernel : Kernel) (space : LinuxSpace) (page : ℕ) (access : Access) (vma : Vma) → IsPlainGrowth kernel space page access vma
    → IsAlikeGrown kernel space page access (fault kernel page access space)
unfolding do_user_addr_fault
alike_grown kernel space page access vma plain = subst (λ (did : Did LinuxVerdict). IsAlikeGrown kernel space page access did)
    (sym (fault_is kernel space page access plain.lower_half ∙ ap (λ (did : Did LinuxVerdict). or_bad_area did.space did.result) verdict_is)) (record {
      answer = Serves page vma.hi vma.flags.access vma.flags.mayshare 0;
      after = grown.space;
      linux = still_answered grown.space (Serves page vma.hi vma.flags.access vma.flags.mayshare 0) verdict
          (subst (λ (a : Answer). IsAnswered grown.space a verdict) (serves_page kernel grown.space new page access plain.plain plain.allowed)
          (area_answered kernel grown.space page access new is.order is.found plain.no_key));
      known = is.known;
      profile = grows_page kernel.config (forgotten_space space) vma page access plain.grows plain.allowed;
    })
  where
    grown : Did Vma
    grown = expand_downwards kernel vma page space

    is : IsGrown kernel space page vma grown
    is = grown_is kernel space page access vma plain

    new : Vma
    new = from_page (record vma { anon = is.anon }) page

    verdict : Did LinuxVerdict
    verdict = area_verdict kernel new page access grown.space

    above : is_above page (forgotten vma) ≡ true
    above = above_is kernel.config (map forgotten space.areas) page (forgotten vma) plain.grows

    not_here : nat_le vma.lo page ≡ false
    not_here = let at : nat_eq vma.lo (page + 1) ≡ true = second_holds vma.flags.growsdown (nat_eq vma.lo (page + 1)) above in grind (arith, nat_tests)

    down : vma.flags.growsdown ≡ true
    down = first_holds vma.flags.growsdown (nat_eq vma.lo (page + 1)) above

    next : Vma → Doing LinuxVerdict
    next v = area_verdict kernel v page access

    outcome : Option Vma → Did LinuxVerdict
    outcome found = let did = area_for_fault kernel page found space in go_on did.space did.result next

    verdict_is : do_user_addr_fault kernel page access space ≡ verdict
    verdict_is = ap outcome plain.next ∙ (ap (λ (did : Did Vma). go_on did.space did.result next) (area_grows kernel vma page space not_here down)
        ∙ ap (λ (r : Result Vma ℕ). go_on grown.space r next) is.returns)

pub growth_has_verdict : GrowthHasVerdictOfProfile
growth_has_verdict kernel space page access vma plain = let both = alike_grown kernel space page access vma plain in
    seen_result both.after both.answer (fault kernel page access space) both.linux ∙ sym (ap (λ (a : profile.Answered). a.answer) both.profile)

pub grows_as_profile : GrowsAsProfile
grows_as_profile kernel space page access vma plain = let both = alike_grown kernel space page access vma plain in
    seen_space both.after both.answer (fault kernel page access space) both.linux ∙ (both.known ∙ sym (ap (λ (a : profile.Answered). a.space) both.profile))
