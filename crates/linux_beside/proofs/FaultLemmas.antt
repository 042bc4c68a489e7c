-- An access by Linux's rules, beside the profile's verdict.
use Rattle.std.proofs.Common.{arith, sym, subst, ap, ◌∙◌, inl, inr}
use Rattle.std.proofs.lemmas.Bool.Decides.{nat_tests}
use Rattle.std.proofs.lemmas.Option.{slice_get_cases, slice_get_past}
use Rattle.std.specs.Prelude.{ℕ, ◌≡◌, ◌<◌, ◌+◌, ◌-◌, ◌%◌, ◌^◌, Bool, true, false, not, ◌&&◌, ◌||◌, if◌then◌else◌, nat_eq, nat_le, List, map, length, slice_get, All, Option, Some, is_some, Ok, Result, refl}
use Rattle.std.specs.Option.{option_map_or, option_or}
use Rattle.mm_types.specs.declared.area.Access.{Access}
use Rattle.mm_types.specs.declared.area.Access.TheVariants.{Read, Write, Exec}
use Rattle.mm_types.specs.declared.area.Prot.{Prot}
use Rattle.mm_types.specs.declared.config.TheConstants.{PAGE_SIZE}
use Rattle.mm_types.specs.declared.files.FileRow.{FileRow}
use Rattle.area_list.specs.Areas.{index_of}
use Rattle.area_rules.specs.Accesses.{permits}
use Rattle.area_rules.specs.Tables as tables
use Rattle.linux_rules.specs.declared.area.AnonVma.{AnonVma}
use Rattle.linux_rules.specs.declared.area.Vma.{Vma}
use Rattle.linux_rules.specs.declared.kernel.Kernel.{Kernel}
use Rattle.linux_rules.specs.declared.verdict.LinuxVerdict.{LinuxVerdict}
use Rattle.linux_rules.specs.declared.verdict.LinuxVerdict.TheVariants.{Served, AccErr, PkuErr, BusErr}
use Rattle.linux_rules.specs.AnonVmas.{anon_vma_prepare, mergeable_anon}
use Rattle.linux_rules.specs.Areas as areas
use Rattle.linux_rules.specs.Doing.{LinuxSpace, Did, ◌>>=◌, go_on, done}
use Rattle.linux_rules.specs.Faults.{object_pages, fault_answer, area_verdict, is_exec, access_error, is_write, is_huge_fault}
use Rattle.linux_rules.specs.Recorded as linux
use Rattle.linux_rules.specs.Steps.{Answer, Serves, Signal}
use Rattle.linux_beside.specs.Faulting.{forgotten_space, is_past_object_end}
use Rattle.linux_beside.specs.Forgetting.{forgotten}
use Rattle.linux_beside.specs.InOrder.{AreInOrder}
use Rattle.linux_beside.proofs.OrderLemmas.{replaced_in_place}

-- the pages of a file are counted alike
same_pages : (size : ℕ) → size < 2 ^ 63 → areas.pages_of size ≡ tables.pages_of size
unfolding areas.pages_of tables.pages_of
same_pages size small = let whole : (size + (PAGE_SIZE - 1)) % 2 ^ 64 ≡ size + (PAGE_SIZE - 1) = omega arith in rw whole

-- the test of the profile whether a page lies past the end of a file
abbrev pub past_by_profile : Kernel → Vma → ℕ → Bool
past_by_profile kernel vma page = not (nat_eq vma.file 0)
    && option_map_or (λ file. nat_le (tables.pages_of file.size) (vma.pgoff + (page - vma.lo))) (slice_get kernel.config.files (vma.file - 1)) false

-- it agrees with Linux's, but for objects that are no files of the trace
pub same_past_end : (kernel : Kernel) (space : LinuxSpace) (vma : Vma) (page : ℕ) → All (λ file. file.size < 2 ^ 63) kernel.config.files
    → (length kernel.config.files < vma.file → is_past_object_end kernel space vma page ≡ false) → is_past_object_end kernel space vma page ≡ past_by_profile kernel vma page
unfolding object_pages
same_past_end kernel space vma page small object = at (nat_eq vma.file 0) (nat_le vma.file (length kernel.config.files)) refl refl
  where
    files : List FileRow
    files = kernel.config.files

    index : ℕ
    index = vma.pgoff + (page - vma.lo)

    at : (plain within : Bool) → nat_eq vma.file 0 ≡ plain → nat_le vma.file (length files) ≡ within
        → is_past_object_end kernel space vma page ≡ past_by_profile kernel vma page
    at true within plain is = rw plain
    at false true plain is =
        let inside : vma.file - 1 < length files = grind (arith, nat_tests) in
        elim (slice_get_cases files (vma.file - 1)).1 [
          | inl found ↦
              let size : found.0.size < 2 ^ 63 = subst (λ (d : FileRow). d.size < 2 ^ 63) found.3 (small (vma.file - 1) found.0 inside) in
              let pages = same_pages found.0.size size in rw (plain, is, found.2, pages)
          | inr none ↦ absurd (omega arith)
        ]
    at false false plain is =
        let outside : length files < vma.file = grind (arith, nat_tests) in
        let none = slice_get_past files (vma.file - 1) (omega arith) in rw (object outside, plain, none)

-- the answer to an access to a page that an area has: of another area with the same pages, file and flags the same
answered_same : (past denied : Bool) (index : ℕ) (vma : Vma) (anon : Option AnonVma)
    → linux.verdict_shown (if past then BusErr else (if denied then AccErr else Served (record vma { anon = anon }) index))
    ≡ linux.verdict_shown (if past then BusErr else (if denied then AccErr else Served vma index))
answered_same true denied index vma anon = refl
answered_same false true index vma anon = refl
answered_same false false index vma anon = refl

-- the page of its object, and whether that lies past the end, by either test for private anonymous memory
answered_parts : (plain denied : Bool) (pages offset : ℕ) (vma : Vma)
    → (if not plain && nat_le pages (if plain then 0 else offset) then BusErr else (if denied then AccErr else Served vma (if plain then 0 else offset)))
    ≡ (if not plain && nat_le pages offset then BusErr else (if denied then AccErr else Served vma (if plain then 0 else offset)))
answered_parts true denied pages offset vma = refl
answered_parts false denied pages offset vma = refl

-- what the page of the object is by the profile
abbrev pub index : Vma → ℕ → ℕ
index vma page = if nat_eq vma.file 0 then 0 else vma.pgoff + (page - vma.lo)

same_index : (plain : Bool) (first more : ℕ) → (if plain then 0 else (if plain then 0 else first) + more) ≡ (if plain then 0 else first + more)
same_index true first more = refl
same_index false first more = refl

pub index_is : (vma : Vma) (page : ℕ) → index_of (forgotten vma) page ≡ index vma page
unfolding index_of
index_is vma page = same_index (nat_eq vma.file 0) vma.pgoff (page - vma.lo)

-- what an access past its rights answers
pub answered_is : (kernel : Kernel) (vma : Vma) (page : ℕ) (access : Access) (space : LinuxSpace)
    → fault_answer kernel vma page access space
    ≡ (if is_past_object_end kernel space vma page then BusErr else (if is_exec access && not vma.flags.access.exec then AccErr else Served vma (index vma page)))
unfolding fault_answer
answered_is kernel vma page access space = answered_parts (nat_eq vma.file 0) (is_exec access && not vma.flags.access.exec) (object_pages kernel space vma.file)
    (vma.pgoff + (page - vma.lo)) vma

-- the answer by Linux, from its tests: denied, past the end, and for execution
abbrev pub by_linux : (denied past exec : Bool) → Answer → Answer
by_linux denied past exec served = if denied then Signal AccErr else (if past then Signal BusErr else (if exec then Signal AccErr else served))

-- and by the profile
abbrev pub by_profile : (allowed past : Bool) → Answer → Answer
by_profile allowed past served = if not allowed then Signal AccErr else (if past then Signal BusErr else served)

-- they agree, where what would be executed and may not be lies before the end
pub answers_agree : (prot : Prot) (access : Access) (past : Bool) (served : Answer) → (access ≡ Exec → prot.exec ≡ false → past ≡ false)
    → by_linux ((is_write access && not prot.write) || not (prot.read || (prot.write || prot.exec))) past (is_exec access && not prot.exec) served
    ≡ by_profile (permits prot access) past served
unfolding permits
answers_agree prot Read past served before = at (prot.read || (prot.write || prot.exec))
  where
    at : (some : Bool) → by_linux (not some) past false served ≡ by_profile some past served
    at true = refl
    at false = refl
answers_agree prot Write past served before = at prot.write prot.read prot.exec
  where
    at : (w r x : Bool) → by_linux (not w || not (r || (w || x))) past false served ≡ by_profile w past served
    at true true x = refl
    at true false x = refl
    at false r x = refl
answers_agree prot Exec past served before = at prot.exec prot.read prot.write past (λ x. before refl x)
  where
    at : (x r w past : Bool) → (x ≡ false → past ≡ false) → by_linux (not (r || (w || x))) past (not x) served ≡ by_profile x past served
    at true true w past before = refl
    at true false true past before = refl
    at true false false past before = refl
    at false true w past before = rw (before refl)
    at false false true past before = rw (before refl)
    at false false false past before = refl

-- what a step that leaves an anon_vma did: it returns the area with some anon_vma, and the list is the same but for that
pub record IsPrepared (space : LinuxSpace) (vma : Vma) (did : Did Vma) : Type 0 where
  pub anon : Option AnonVma
  pub returns : did.result ≡ Ok (record vma { anon = anon })
  pub objects : did.space.objects ≡ space.objects
  pub brk : did.space.brk ≡ space.brk
  pub areas : map forgotten did.space.areas ≡ map forgotten space.areas

-- nothing is left where nothing is done
unprepared : (space : LinuxSpace) (vma : Vma) → IsPrepared space vma (done vma space)
unprepared space vma = record { anon = vma.anon; returns = refl; objects = refl; brk = refl; areas = refl }

pub prepared : (space : LinuxSpace) (page : ℕ) (vma : Vma) → AreInOrder space.areas → areas.find_vma space.areas page ≡ Some vma
    → IsPrepared space vma (anon_vma_prepare vma space)
unfolding anon_vma_prepare
prepared space page vma order found = at (is_some vma.anon)
  where
    anon : Option AnonVma
    anon = mergeable_anon space vma

    written : Vma
    written = record vma { anon = option_or anon (Some (record { number = space.anons; forked = false })) }

    at : (had : Bool) → IsPrepared space vma (if had then record { space = space; result = Ok vma } else record {
      space = record space { areas = areas.replaced vma written space.areas; anons = if is_some anon then space.anons else space.anons + 1 };
      result = Ok written;
    })
    at true = unprepared space vma
    at false = record {
      anon = written.anon;
      returns = refl;
      objects = refl;
      brk = refl;
      areas = replaced_in_place 0 page space.areas vma written.anon order found;
    }

-- such a step is one, whether anything is to be left or not
pub prepared_if : (space : LinuxSpace) (page : ℕ) (vma : Vma) (wanted : Bool) → AreInOrder space.areas → areas.find_vma space.areas page ≡ Some vma
    → IsPrepared space vma ((if wanted then anon_vma_prepare vma else done vma) space)
prepared_if space page vma true order found = prepared space page vma order found
prepared_if space page vma false order found = unprepared space vma

-- what serves an access by an area
abbrev pub served : Vma → ℕ → Answer
served vma page = Serves vma.lo vma.hi vma.flags.access vma.flags.mayshare (index vma page)

answer_parts : (past exec : Bool) (vma : Vma) (at : ℕ)
    → linux.verdict_shown (if past then BusErr else (if exec then AccErr else Served vma at))
    ≡ by_linux false past exec (Serves vma.lo vma.hi vma.flags.access vma.flags.mayshare at)
answer_parts true exec vma at = refl
answer_parts false true vma at = refl
answer_parts false false vma at = refl

-- whether the page lies past the end is the same as long as the objects are
same_end : (kernel : Kernel) (space after : LinuxSpace) (vma : Vma) (page : ℕ) → after.objects ≡ space.objects
    → is_past_object_end kernel after vma page ≡ is_past_object_end kernel space vma page
unfolding object_pages
same_end kernel space after vma page same = rw same

-- the answer of an area that has some anon_vma by now
answer_then : (kernel : Kernel) (space after : LinuxSpace) (vma : Vma) (anon : Option AnonVma) (page : ℕ) (access : Access) → after.objects ≡ space.objects
    → linux.verdict_shown (fault_answer kernel (record vma { anon = anon }) page access after)
    ≡ by_linux false (is_past_object_end kernel space vma page) (is_exec access && not vma.flags.access.exec) (served vma page)
answer_then kernel space after vma anon page access same =
    ap linux.verdict_shown (answered_is kernel (record vma { anon = anon }) page access after)
    ∙ (answer_parts (is_past_object_end kernel after vma page) (is_exec access && not vma.flags.access.exec) (record vma { anon = anon }) (index vma page)
    ∙ ap (λ past. by_linux false past (is_exec access && not vma.flags.access.exec) (served vma page)) (same_end kernel space after vma page same))

-- that an access is answered so, and leaves what the profile knows as it is
pub record IsAnswered (space : LinuxSpace) (answer : Answer) (did : Did LinuxVerdict) : Type 0 where
  pub verdict : LinuxVerdict
  pub returns : did.result ≡ Ok verdict
  pub says : linux.verdict_shown verdict ≡ answer
  pub known : forgotten_space did.space ≡ forgotten_space space

-- an access to a page that an area without a key has
pub area_answered : (kernel : Kernel) (space : LinuxSpace) (page : ℕ) (access : Access) (vma : Vma) → AreInOrder space.areas
    → areas.find_vma space.areas page ≡ Some vma → vma.flags.pkey ≡ false
    → IsAnswered space (by_linux (access_error vma access) (is_past_object_end kernel space vma page) (is_exec access && not vma.flags.access.exec) (served vma page))
    (area_verdict kernel vma page access space)
unfolding area_verdict
area_answered kernel space page access vma order found key = at vma.flags.pkey (access_error vma access) key
  where
    wanted : Bool
    wanted = (is_write access && not vma.flags.shared) || is_huge_fault kernel vma page

    step : Did Vma
    step = (if wanted then anon_vma_prepare vma else done vma) space

    did : IsPrepared space vma step
    did = prepared_if space page vma wanted order found

    next : Vma → LinuxSpace → Did LinuxVerdict
    next after = λ space. done (fault_answer kernel after page access space) space

    past : Bool
    past = is_past_object_end kernel space vma page

    denies : Bool
    denies = is_exec access && not vma.flags.access.exec

    at : (key denied : Bool) → key ≡ false
        → IsAnswered space (by_linux denied past denies (served vma page))
        ((if key && not (is_exec access) then done PkuErr else (if denied then done AccErr
        else ((if wanted then anon_vma_prepare vma else done vma) >>= next))) space)
    at true denied off = absurd (cc)
    at false true off = record { verdict = AccErr; returns = refl; says = refl; known = refl }
    at false false off = subst (λ (r : Result Vma ℕ). IsAnswered space (by_linux false past denies (served vma page)) (go_on step.space r next)) (sym did.returns)
        (record {
          verdict = fault_answer kernel (record vma { anon = did.anon }) page access step.space;
          returns = refl;
          says = answer_then kernel space step.space vma did.anon page access did.objects;
          known = let a = did.areas in let b = did.brk in let o = did.objects in rw (a, b, o);
        })
