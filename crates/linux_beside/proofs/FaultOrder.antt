-- What an access leaves of a list in order, also where an area grows; and what a fork gives the child.
use Rattle.std.proofs.Common.{arith, ◌∙◌, ◌⊎◌, inl}
use Rattle.std.proofs.lemmas.Bool.Decides.{nat_tests}
use Rattle.std.specs.Prelude.{ℕ, ◌≡◌, ◌<◌, ◌≤◌, ◌+◌, ◌-◌, Bool, true, false, not, ◌&&◌, ◌||◌, if◌then◌else◌, nat_eq, nat_le, nat_lt, List, [], ◌∷◌, Option, Some, None, IfSome, Result, Ok, Err, refl}
use Rattle.std.specs.List.{list_any}
use Rattle.mm_types.specs.declared.area.Access.{Access}
use Rattle.linux_rules.specs.declared.area.Vma.{Vma}
use Rattle.linux_rules.specs.declared.errors.TheConstants.{ENOMEM}
use Rattle.linux_rules.specs.declared.kernel.Kernel.{Kernel}
use Rattle.linux_rules.specs.declared.verdict.LinuxVerdict.{LinuxVerdict}
use Rattle.linux_rules.specs.declared.verdict.LinuxVerdict.TheVariants.{AccErr, PkuErr, NotCanonical}
use Rattle.linux_rules.specs.Accounts.{lacks_memory}
use Rattle.linux_rules.specs.AnonVmas.{anon_vma_prepare}
use Rattle.linux_rules.specs.Areas.{find_vma, vma_lookup, vma_before, replaced}
use Rattle.linux_rules.specs.Doing.{LinuxSpace, Did, Doing, ◌>>=◌, ◌>>◌, go_on, done, refuse_if, areas_now, set_areas}
use Rattle.linux_rules.specs.Faults.{is_guarded, grows_too_far, expand_downwards, is_huge_fault, is_write, is_exec, access_error, fault_answer, area_verdict, area_for_fault, or_bad_area, do_user_addr_fault, VSYSCALL, vsyscall_verdict, is_not_canonical, fault}
use Rattle.linux_rules.specs.Forks.{forked_from, child_space, fork}
use Rattle.linux_rules.specs.Merging.{from_page}
use Rattle.linux_rules.specs.Searching.{lowest_for_hints}
use Rattle.linux_beside.specs.InOrder.{AreInOrder, AreInOrderFrom}
use Rattle.linux_beside.specs.Ordering.{ChildIsInOrder}
use Rattle.linux_beside.proofs.SplitLemmas.{has}
use Rattle.linux_beside.proofs.LookUps.{IsOneOf, IsPut, found_in, put_over, put_one}
use Rattle.linux_beside.proofs.Merges.{page_in, lies, lies_not}
use Rattle.linux_beside.proofs.Orderly.{tested, went_on, LeavesOne, LeavesSame, one_refused, one_is, hole, written_is}

-- a stack-like area grows over free pages
expanded : (kernel : Kernel) (vma : Vma) (page : ℕ) (space : LinuxSpace) → AreInOrder space.areas → find_vma space.areas page ≡ Some vma → page < vma.lo
    → LeavesOne (expand_downwards kernel vma page space)
unfolding expand_downwards
expanded kernel vma page space order found above =
    case (nat_lt page (lowest_for_hints kernel) || is_guarded page (vma_before space.areas vma.lo))
  where
    one : IsOneOf 0 vma space.areas
    one = found_in (λ v. nat_lt page v.hi) 0 vma space.areas order found

    did : Did Vma
    did = anon_vma_prepare vma space

    is : LeavesSame vma space did
    is = written_is vma space order one

    put : Vma → Doing Vma
    put written = areas_now >>= (λ areas. set_areas (replaced written (from_page written page) areas) >> done (from_page written page))

    go : Vma → Doing Vma
    go written = refuse_if (grows_too_far kernel written page) ENOMEM >> put written

    free : (at : ℕ) → page ≤ at → at < vma.lo → vma_lookup did.space.areas at ≡ None
    free at from under = is.others at (lies_not vma at (below under)) ∙ hole 0 page at space.areas order from (lower (find_vma space.areas page) found)
      where
        below : at < vma.lo → (at < vma.lo) ⊎ (vma.hi ≤ at)
        below less = inl less

        lower : (o : Option Vma) → o ≡ Some vma → IfSome o (λ v. at < v.lo)
        lower None same = absurd (cc)
        lower (Some v) same = let it : v ≡ vma = cc in rw it under

    grown : (written : Vma) → IsOneOf 0 written did.space.areas → written.lo ≡ vma.lo → LeavesOne (put written did.space)
    grown written part begin = one_is (record (did.space) { areas = replaced written (from_page written page) did.space.areas }) (from_page written page) grows.order
        (put_one (from_page written page) did.space.areas (replaced written (from_page written page) did.space.areas) grows)
      where
        grows : IsPut (from_page written page) did.space.areas (replaced written (from_page written page) did.space.areas)
        grows = let some = part.some in put_over written (from_page written page) did.space.areas is.order part (omega arith)
            (λ at it. let in_it = page_in written at it in let a = in_it.0 in let b = in_it.1 in lies (from_page written page) at (omega arith) b)
            (λ at it off. let in_it = page_in (from_page written page) at it in let a = in_it.0 in let b = in_it.1 in
            free at a (under at b off))
          where
            under : (at : ℕ) → at < written.hi → has written at ≡ false → at < vma.lo
            under at below off = let less : at < written.lo = grind (arith, nat_tests) in omega arith

    limited : (test : Bool) (written : Vma) → IsOneOf 0 written did.space.areas → written.lo ≡ vma.lo → LeavesOne ((refuse_if test ENOMEM >> put written) did.space)
    limited true written part begin = one_refused did.space ENOMEM is.order
    limited false written part begin = grown written part begin

    at : (r : Result Vma ℕ) → did.result ≡ r → LeavesOne (go_on did.space r go)
    at (Err error) same = one_refused did.space error is.order
    at (Ok written) same = let it = is.part written same in limited (grows_too_far kernel written page) written it.0 it.1

    case : (test : Bool) → LeavesOne ((refuse_if test ENOMEM >> (anon_vma_prepare vma >>= go)) space)
    case true = one_refused space ENOMEM order
    case false = at did.result refl

-- the area of an access
area_found : (kernel : Kernel) (page : ℕ) (space : LinuxSpace) → AreInOrder space.areas → (found : Option Vma) → find_vma space.areas page ≡ found
    → LeavesOne (area_for_fault kernel page found space)
unfolding area_for_fault
area_found kernel page space order None is = one_refused space ENOMEM order
area_found kernel page space order (Some vma) is = case (nat_le vma.lo page) refl
  where
    grows : (test : Bool) → page < vma.lo → LeavesOne ((refuse_if test ENOMEM >> expand_downwards kernel vma page) space)
    grows true above = one_refused space ENOMEM order
    grows false above = expanded kernel vma page space order is above

    case : (test : Bool) → nat_le vma.lo page ≡ test
        → LeavesOne ((if test then done vma else (refuse_if (not vma.flags.growsdown) ENOMEM >> expand_downwards kernel vma page)) space)
    case true has_it = one_is space vma order (found_in (λ v. nat_lt page v.hi) 0 vma space.areas order is)
    case false not_it = grows (not vma.flags.growsdown) (grind (arith, nat_tests))

-- its verdict leaves at most an anon_vma
verdict_order : (kernel : Kernel) (vma : Vma) (page : ℕ) (access : Access) (space : LinuxSpace) → AreInOrder space.areas → IsOneOf 0 vma space.areas
    → AreInOrder (area_verdict kernel vma page access space).space.areas
unfolding area_verdict
verdict_order kernel vma page access space order one = case (vma.flags.pkey && not (is_exec access)) (access_error vma access)
    ((is_write access && not vma.flags.shared) || is_huge_fault kernel vma page)
  where
    show : Vma → Doing LinuxVerdict
    show after space = done (fault_answer kernel after page access space) space

    shown : (did : Did Vma) → AreInOrder did.space.areas → (r : Result Vma ℕ) → AreInOrder (go_on did.space r show).space.areas
    shown did is (Ok after) = is
    shown did is (Err error) = is

    case : (key denied writes : Bool) → AreInOrder ((if key then done PkuErr else (if denied then done AccErr
        else ((if writes then anon_vma_prepare vma else done vma) >>= show))) space).space.areas
    case true denied writes = order
    case false true writes = order
    case false false true = let did = anon_vma_prepare vma space in shown did (written_is vma space order one).order did.result
    case false false false = order

user_order : (kernel : Kernel) (page : ℕ) (access : Access) (space : LinuxSpace) → AreInOrder space.areas
    → AreInOrder (do_user_addr_fault kernel page access space).space.areas
unfolding do_user_addr_fault
user_order kernel page access space order =
    let did = area_for_fault kernel page (find_vma space.areas page) space in let is = area_found kernel page space order (find_vma space.areas page) refl in
    went_on did.space did.result (λ vma. area_verdict kernel vma page access) is.order
    (λ vma same. verdict_order kernel vma page access did.space is.order (is.one vma same))

pub access_order : (kernel : Kernel) (space : LinuxSpace) (page : ℕ) (access : Access) → AreInOrder space.areas
    → AreInOrder (fault kernel page access space).space.areas
unfolding fault
access_order kernel space page access order = case (is_not_canonical page) (nat_eq page VSYSCALL)
  where
    did : Did LinuxVerdict
    did = do_user_addr_fault kernel page access space

    at : (r : Result LinuxVerdict ℕ) → AreInOrder (or_bad_area did.space r).space.areas
    at (Ok verdict) = user_order kernel page access space order
    at (Err error) = user_order kernel page access space order

    case : (upper vsyscall : Bool) → AreInOrder (if upper then done NotCanonical space
        else (if vsyscall then done (vsyscall_verdict kernel.machine.vsyscall access) space else or_bad_area did.space did.result)).space.areas
    case true vsyscall = order
    case false true = order
    case false false = at did.result

pub fork_order : (kernel : Kernel) (space : LinuxSpace) → AreInOrder space.areas → AreInOrder (fork kernel space).space.areas
unfolding fork
fork_order kernel space order = tested (list_any (λ vma. vma.flags.account && lacks_memory kernel (vma.hi - vma.lo)) space.areas) ENOMEM (done tt) space order (λ is. order)

forked_order : (low number : ℕ) (areas : List Vma) → AreInOrderFrom low areas → AreInOrderFrom low (forked_from number areas)
forked_order low number [] order = tt
forked_order low number (vma ∷ areas) order = (order.0, order.1, forked_order vma.hi (number + 1) areas order.2)

pub child_order : ChildIsInOrder
unfolding child_space
child_order space order = forked_order 0 0 space.areas order
