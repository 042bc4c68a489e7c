-- What munmap leaves.
use Rattle.std.specs.Prelude.{ℕ, ◌≡◌, ◌<◌, ◌^◌, if◌then◌else◌, map, None, Ok, Err}
use Rattle.mm_types.specs.declared.call.Call.TheVariants as call
use Rattle.mm_types.specs.declared.call.Reply.TheVariants.{Zero}
use Rattle.mm_types.specs.declared.config.Config.{Config}
use Rattle.area_list.specs.Areas.{has_page, page_map}
use Rattle.area_rules.specs.Munmap.{range_of}
use Rattle.area_rules.specs.Steps as profile
use Rattle.area_rules.specs.Tables.{AddressSpace}
use Rattle.linux_rules.specs.declared.kernel.Kernel.{Kernel}
use Rattle.linux_rules.specs.Doing.{LinuxSpace}
use Rattle.linux_rules.specs.Munmap.{munmap}
use Rattle.linux_beside.specs.Forgetting.{forgotten}
use Rattle.linux_beside.specs.InOrder.{AreInOrder}

-- munmap that succeeds unmaps the pages of its range, and keeps every other page
abbrev pub UnmapsItsRange : Type 0
UnmapsItsRange = (kernel : Kernel) (space : LinuxSpace) (addr len page : ℕ) → AreInOrder space.areas → len < 2 ^ 64
    → (munmap kernel addr len space).result ≡ Ok tt
    → page_map (map forgotten (munmap kernel addr len space).space.areas) page
    ≡ (if has_page (range_of addr len) page then None else page_map (map forgotten space.areas) page)

-- where it's refused, each page is mapped as it was: at most an area is split
abbrev pub RefusedKeepsPages : Type 0
RefusedKeepsPages = (kernel : Kernel) (space : LinuxSpace) (addr len page error : ℕ) → AreInOrder space.areas
    → (munmap kernel addr len space).result ≡ Err error
    → page_map (map forgotten (munmap kernel addr len space).space.areas) page ≡ page_map (map forgotten space.areas) page

-- the same pages are mapped in the same way, whatever areas have them
abbrev pub MapTheSame : LinuxSpace → AddressSpace → Type 0
MapTheSame space profile = (page : ℕ) → page_map (map forgotten space.areas) page ≡ page_map profile.areas page

-- where the profile's succeeds too, both map the same after it if they did before
abbrev pub UnmapsAsProfile : Type 0
UnmapsAsProfile = (kernel : Kernel) (config : Config) (space : LinuxSpace) (other : AddressSpace) (addr len : ℕ) → AreInOrder space.areas → len < 2 ^ 64
    → MapTheSame space other → (munmap kernel addr len space).result ≡ Ok tt → (profile.step config other (call.Munmap addr len)).reply ≡ Zero
    → MapTheSame (munmap kernel addr len space).space (profile.step config other (call.Munmap addr len)).space
