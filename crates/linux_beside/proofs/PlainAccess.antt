-- An access outside the named rows is the profile's.
use Rattle.std.proofs.Common.{arith, sym, subst, ap, ◌∙◌}
use Rattle.std.proofs.lemmas.Bool.Decides.{nat_tests}
use Rattle.std.specs.Prelude.{ℕ, ◌≡◌, ◌<◌, ◌^◌, Bool, true, false, not, ◌&&◌, nat_eq, nat_le, Option, Some, None, Result, Ok, refl}
use Rattle.mm_types.specs.declared.area.Access.{Access}
use Rattle.area_rules.specs.Accesses.{permits}
use Rattle.linux_rules.specs.declared.area.Vma.{Vma}
use Rattle.linux_rules.specs.declared.kernel.Kernel.{Kernel}
use Rattle.linux_rules.specs.declared.verdict.LinuxVerdict.{LinuxVerdict}
use Rattle.linux_rules.specs.declared.verdict.LinuxVerdict.TheVariants.{MapErr}
use Rattle.linux_rules.specs.Areas.{find_vma}
use Rattle.linux_rules.specs.Doing.{LinuxSpace, Did, go_on, done}
use Rattle.linux_rules.specs.Faults.{VSYSCALL, is_not_canonical, fault, do_user_addr_fault, area_for_fault, area_verdict, or_bad_area, is_exec, access_error}
use Rattle.linux_rules.specs.Recorded as linux
use Rattle.linux_rules.specs.Steps.{Answer, Signal}
use Rattle.linux_beside.specs.Faulting.{IsPlainAccess, IsPlainArea, HasVerdictOfProfile, KeepsWhatProfileKnows, forgotten_space, is_past_object_end}
use Rattle.linux_beside.specs.Sides as profile
use Rattle.linux_beside.proofs.FaultLemmas.{IsAnswered, area_answered, answers_agree, by_linux, by_profile, past_by_profile, same_past_end, served}
use Rattle.linux_beside.proofs.OrderLemmas.{at_found, none_at_hole, none_at_end, no_stack_at_hole, no_stack_at_end}
use Rattle.linux_beside.proofs.ProfileFaults.{at_area, at_hole}

-- an access to user memory is a page fault
pub fault_is : (kernel : Kernel) (space : LinuxSpace) (page : ℕ) (access : Access) → page < 2 ^ 35
    → fault kernel page access space ≡ (let did = do_user_addr_fault kernel page access space in or_bad_area did.space did.result)
unfolding fault
fault_is kernel space page access low =
    let lower : is_not_canonical page ≡ false = grind (arith, nat_tests) in
    let other : nat_eq page VSYSCALL ≡ false = grind (arith, nat_tests) in rw (lower, other)

-- what an access gives by Linux and by the profile
pub record IsAlike (kernel : Kernel) (space : LinuxSpace) (page : ℕ) (access : Access) (did : Did LinuxVerdict) : Type 0 where
  pub answer : Answer
  pub linux : IsAnswered space answer did
  pub profile : profile.accessed kernel.config (forgotten_space space) page access ≡ record { space = forgotten_space space; answer = Ok answer }

-- what the profile answers without a change
abbrev pub answered_by : Kernel → LinuxSpace → Answer → profile.Answered
answered_by kernel space answer = record { space = forgotten_space space; answer = Ok answer }

-- what the look-up of the area leads to
abbrev pub outcome : Kernel → LinuxSpace → ℕ → Access → Option Vma → Did LinuxVerdict
outcome kernel space page access found = let did = area_for_fault kernel page found space in
    let next : Did LinuxVerdict = go_on did.space did.result (λ vma. area_verdict kernel vma page access) in or_bad_area next.space next.result

-- a verdict is no bad area
pub still_answered : (space : LinuxSpace) (answer : Answer) (did : Did LinuxVerdict) → IsAnswered space answer did
    → IsAnswered space answer (or_bad_area did.space did.result)
still_answered space answer did is = subst (λ (r : Result LinuxVerdict ℕ). IsAnswered space answer (or_bad_area did.space r)) (sym is.returns)
    (record { verdict = is.verdict; returns = refl; says = is.says; known = is.known })

pub alike_at : (kernel : Kernel) (space : LinuxSpace) (page : ℕ) (access : Access) → IsPlainAccess kernel space page access
    → (found : Option Vma) → find_vma space.areas page ≡ found → IsAlike kernel space page access (outcome kernel space page access found)
unfolding area_for_fault
alike_at kernel space page access plain None found = record {
  answer = Signal MapErr;
  linux = record { verdict = MapErr; returns = refl; says = refl; known = refl };
  profile = at_hole kernel.config (forgotten_space space) page access (none_at_end page space.areas found)
      (no_stack_at_end 0 page space.areas plain.in_order found);
}
alike_at kernel space page access plain (Some vma) found = at (nat_le vma.lo page) vma.flags.growsdown refl refl
  where
    past : Bool
    past = is_past_object_end kernel space vma page

    agrees : (vma : Vma) → IsPlainArea kernel space page access vma
        → by_linux (access_error vma access) (is_past_object_end kernel space vma page) (is_exec access && not vma.flags.access.exec) (served vma page)
        ≡ by_profile (permits vma.flags.access access) (past_by_profile kernel vma page) (served vma page)
    agrees vma area = answers_agree vma.flags.access access (is_past_object_end kernel space vma page) (served vma page) area.exec
        ∙ ap (λ past. by_profile (permits vma.flags.access access) past (served vma page)) (same_past_end kernel space vma page plain.files area.object)

    at : (begins grows : Bool) → nat_le vma.lo page ≡ begins → vma.flags.growsdown ≡ grows → IsAlike kernel space page access (outcome kernel space page access (Some vma))
    at true grows begins is = let area = plain.area vma found begins in record {
      answer = by_linux (access_error vma access) past (is_exec access && not vma.flags.access.exec) (served vma page);
      linux = rw begins (still_answered space _ (area_verdict kernel vma page access space) (area_answered kernel space page access vma plain.in_order found area.no_key));
      profile = at_area kernel.config (forgotten_space space) vma page access (at_found 0 page space.areas vma plain.in_order found begins)
          ∙ ap (λ a. answered_by kernel space a) (sym (agrees vma area));
    }
    at false true begins is = let not_above = plain.above vma found begins in absurd (cc)
    at false false begins is = record {
      answer = Signal MapErr;
      linux = rw (begins, is) (record { verdict = MapErr; returns = refl; says = refl; known = refl });
      profile = at_hole kernel.config (forgotten_space space) page access (none_at_hole 0 page space.areas vma plain.in_order found begins)
          (no_stack_at_hole 0 page space.areas vma plain.in_order found begins is);
    }

alike : (kernel : Kernel) (space : LinuxSpace) (page : ℕ) (access : Access) → IsPlainAccess kernel space page access
    → IsAlike kernel space page access (fault kernel page access space)
unfolding do_user_addr_fault
alike kernel space page access plain = let is = fault_is kernel space page access plain.lower_half in
    rw is (alike_at kernel space page access plain (find_vma space.areas page) refl)

-- the answer as a trace shows it
pub seen_result : (space : LinuxSpace) (answer : Answer) (did : Did LinuxVerdict) → IsAnswered space answer did
    → (go_on did.space did.result (λ verdict. done (linux.verdict_shown verdict))).result ≡ Ok answer
seen_result space answer did is =
    subst (λ (r : Result LinuxVerdict ℕ). (go_on did.space r (λ verdict. done (linux.verdict_shown verdict))).result ≡ Ok answer) (sym is.returns) (ap (λ a. Ok a) is.says)

pub seen_space : (space : LinuxSpace) (answer : Answer) (did : Did LinuxVerdict) → IsAnswered space answer did
    → forgotten_space (go_on did.space did.result (λ verdict. done (linux.verdict_shown verdict))).space ≡ forgotten_space space
seen_space space answer did is =
    subst (λ (r : Result LinuxVerdict ℕ). forgotten_space (go_on did.space r (λ verdict. done (linux.verdict_shown verdict))).space ≡ forgotten_space space) (sym is.returns) is.known

pub has_verdict_of_profile : HasVerdictOfProfile
has_verdict_of_profile kernel space page access plain = let both = alike kernel space page access plain in
    seen_result space both.answer (fault kernel page access space) both.linux ∙ sym (ap (λ (a : profile.Answered). a.answer) both.profile)

pub keeps_what_profile_knows : KeepsWhatProfileKnows
keeps_what_profile_knows kernel space page access plain = let both = alike kernel space page access plain in
    seen_space space both.answer (fault kernel page access space) both.linux ∙ sym (ap (λ (a : profile.Answered). a.space) both.profile)
