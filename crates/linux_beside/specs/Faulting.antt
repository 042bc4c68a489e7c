-- Where an access has the profile's verdict, and changes nothing that the profile knows.
use Rattle.std.specs.Prelude.{ℕ, ◌≡◌, ◌<◌, ◌+◌, ◌-◌, ◌^◌, Bool, true, false, not, ◌&&◌, nat_eq, nat_le, nat_lt, length, map, All, Some}
use Rattle.mm_types.specs.declared.area.Access.{Access}
use Rattle.mm_types.specs.declared.area.Access.TheVariants.{Exec}
use Rattle.area_rules.specs.Accesses.{permits}
use Rattle.area_rules.specs.Growing.{grower}
use Rattle.area_rules.specs.Tables.{AddressSpace}
use Rattle.linux_rules.specs.declared.area.Vma.{Vma}
use Rattle.linux_rules.specs.declared.kernel.Kernel.{Kernel}
use Rattle.linux_rules.specs.Areas.{find_vma, vma_before}
use Rattle.linux_rules.specs.Doing.{LinuxSpace}
use Rattle.linux_rules.specs.Faults.{object_pages, is_guarded, grows_too_far}
use Rattle.linux_rules.specs.Recorded as linux
use Rattle.linux_rules.specs.Searching.{lowest_for_hints}
use Rattle.linux_rules.specs.Steps.{Touch}
use Rattle.linux_beside.specs.Forgetting.{forgotten}
use Rattle.linux_beside.specs.InOrder.{AreInOrder}
use Rattle.linux_beside.specs.Sides as profile

-- an address space without what the profile lacks
abbrev pub forgotten_space : LinuxSpace → AddressSpace
forgotten_space space = record { areas = map forgotten space.areas; objects = length space.objects; brk = space.brk }

-- whether a page of an area lies past the end of its file or its shared anonymous object
abbrev pub is_past_object_end : Kernel → LinuxSpace → Vma → ℕ → Bool
is_past_object_end kernel space vma page = not (nat_eq vma.file 0) && nat_le (object_pages kernel space vma.file) (vma.pgoff + (page - vma.lo))

-- An area that has a page has no key (fault-exec-only). Of an object that is no file of the trace it has the page (fault-shared-grown), and
-- where the access would execute what may not be executed, also of a file (fault-exec-past-end).
pub record IsPlainArea (kernel : Kernel) (space : LinuxSpace) (page : ℕ) (access : Access) (vma : Vma) : Type 0 where
  pub no_key : vma.flags.pkey ≡ false
  pub object : length kernel.config.files < vma.file → is_past_object_end kernel space vma page ≡ false
  pub exec : access ≡ Exec → vma.flags.access.exec ≡ false → is_past_object_end kernel space vma page ≡ false

-- An access to user memory (fault-not-canonical, fault-vsyscall) in a list in order. The first area that ends above the page has the page and is
-- such a one, or isn't stack-like (the rows grow-*). The kernel counts the bytes of a file below 2^63.
pub record IsPlainAccess (kernel : Kernel) (space : LinuxSpace) (page : ℕ) (access : Access) : Type 0 where
  pub in_order : AreInOrder space.areas
  pub lower_half : page < 2 ^ 35
  pub files : All (λ file. file.size < 2 ^ 63) kernel.config.files
  pub area : (vma : Vma) → find_vma space.areas page ≡ Some vma → nat_le vma.lo page ≡ true → IsPlainArea kernel space page access vma
  pub above : (vma : Vma) → find_vma space.areas page ≡ Some vma → nat_le vma.lo page ≡ false → vma.flags.growsdown ≡ false

-- such an access has the profile's verdict
abbrev pub HasVerdictOfProfile : Type 0
HasVerdictOfProfile = (kernel : Kernel) (space : LinuxSpace) (page : ℕ) (access : Access) → IsPlainAccess kernel space page access
    → (linux.operation_made kernel (Touch page access) space).result ≡ (profile.operation_answer kernel.config (forgotten_space space) (Touch page access)).answer

-- and leaves the address space as it is, but for what the profile lacks
abbrev pub KeepsWhatProfileKnows : Type 0
KeepsWhatProfileKnows = (kernel : Kernel) (space : LinuxSpace) (page : ℕ) (access : Access) → IsPlainAccess kernel space page access
    → forgotten_space (linux.operation_made kernel (Touch page access) space).space
    ≡ (profile.operation_answer kernel.config (forgotten_space space) (Touch page access)).space

-- An access to the page next below a stack-like area (grow-far), of private anonymous memory without a key, which allows the access (grow-denied).
-- The profile grows it (grow-none, grow-growing), and Linux's tests pass: the lowest address (grow-min), the memory below (grow-near), and how far
-- the area may grow (grow-large, grow-moved).
pub record IsPlainGrowth (kernel : Kernel) (space : LinuxSpace) (page : ℕ) (access : Access) (vma : Vma) : Type 0 where
  pub in_order : AreInOrder space.areas
  pub lower_half : page < 2 ^ 35
  pub next : find_vma space.areas page ≡ Some vma
  pub grows : grower kernel.config (map forgotten space.areas) page ≡ Some (forgotten vma)
  pub plain : vma.file ≡ 0
  pub no_key : vma.flags.pkey ≡ false
  pub allowed : permits vma.flags.access access ≡ true
  pub low : nat_lt page (lowest_for_hints kernel) ≡ false
  pub guard : is_guarded page (vma_before space.areas vma.lo) ≡ false
  pub near : grows_too_far kernel vma page ≡ false

-- such an access has the profile's verdict
abbrev pub GrowthHasVerdictOfProfile : Type 0
GrowthHasVerdictOfProfile = (kernel : Kernel) (space : LinuxSpace) (page : ℕ) (access : Access) (vma : Vma) → IsPlainGrowth kernel space page access vma
    → (linux.operation_made kernel (Touch page access) space).result ≡ (profile.operation_answer kernel.config (forgotten_space space) (Touch page access)).answer

-- and the area takes the page in both
abbrev pub GrowsAsProfile : Type 0
GrowsAsProfile = (kernel : Kernel) (space : LinuxSpace) (page : ℕ) (access : Access) (vma : Vma) → IsPlainGrowth kernel space page access vma
    → forgotten_space (linux.operation_made kernel (Touch page access) space).space
    ≡ (profile.operation_answer kernel.config (forgotten_space space) (Touch page access)).space
