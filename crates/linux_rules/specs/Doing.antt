-- What a function of the kernel does to an address space, step by step. An error ends it, and takes nothing back.
use Rattle.std.specs.Prelude.{ℕ, Bool, true, false, List, Option, Some, None, Result, Ok, Err}
use Rattle.linux_rules.specs.declared.area.Vma.{Vma}

-- an address space (`struct mm_struct`): its areas by address, how many anon_vmas were made, the sizes of its shared anonymous objects in
-- pages, and the break in bytes
pub record LinuxSpace : Type 0 where
  pub areas : List Vma
  pub anons : ℕ
  pub objects : List ℕ
  pub brk : ℕ

-- what a function did: the address space as it left it, and what it returned, or the number of its error
pub record Did (A : Type 0) : Type 0 where
  pub space : LinuxSpace
  pub result : Result A ℕ

-- a function of the kernel, once its other arguments are given
abbrev pub Doing : Type 0 → Type 0
Doing A = LinuxSpace → Did A

-- goes on with the space as it is by then; after an error, with nothing
abbrev pub go_on : {A B : Type 0} → LinuxSpace → Result A ℕ → (A → Doing B) → Did B
go_on space (Ok value) next = next value space
go_on space (Err error) next = record { space = space; result = Err error }

infixl 10 ◌>>=◌
-- one step and then the next, which gets what the first returns
abbrev pub ◌>>=◌ : {A B : Type 0} → Doing A → (A → Doing B) → Doing B
(first >>= next) space = go_on (first space).space (first space).result next

infixl 10 ◌>>◌
-- one step and then the next
abbrev pub ◌>>◌ : {A B : Type 0} → Doing A → Doing B → Doing B
(first >> next) space = go_on (first space).space (first space).result (λ value. next)

-- returns this, and changes nothing
abbrev pub done : {A : Type 0} → A → Doing A
done value space = record { space = space; result = Ok value }

-- fails with this error; what was changed before stays
abbrev pub refuse : {A : Type 0} → ℕ → Doing A
refuse error space = record { space = space; result = Err error }

-- fails with this error if the test holds
abbrev pub refuse_if : Bool → ℕ → Doing Unit
refuse_if true error = refuse error
refuse_if false error = done tt

-- what is there, or this error
abbrev pub or_refuse : {A : Type 0} → Option A → ℕ → Doing A
or_refuse (Some value) error = done value
or_refuse None error = refuse error

-- the areas as they are by then
abbrev pub areas_now : Doing (List Vma)
areas_now space = record { space = space; result = Ok space.areas }

-- the areas become these
abbrev pub set_areas : List Vma → Doing Unit
set_areas areas space = record { space = record space { areas = areas }; result = Ok tt }

-- whether it succeeded
abbrev pub caught_as : {A : Type 0} → LinuxSpace → Result A ℕ → Did Bool
caught_as space (Ok value) = record { space = space; result = Ok true }
caught_as space (Err error) = record { space = space; result = Ok false }

-- tries, and returns whether it succeeded; what was changed before an error stays
abbrev pub caught : {A : Type 0} → Doing A → Doing Bool
caught call space = caught_as (call space).space (call space).result
