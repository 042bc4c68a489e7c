-- What mprotect and mseal change of the pages of their range.
use Rattle.std.specs.Prelude.{ℕ, ◌≡◌, ◌<◌, ◌≤◌, ◌^◌, if◌then◌else◌, map, option_map, Ok, Err}
use Rattle.mm_types.specs.declared.area.Prot.{Prot}
use Rattle.mm_types.specs.declared.call.Call.TheVariants as call
use Rattle.mm_types.specs.declared.call.Reply.TheVariants.{Zero}
use Rattle.mm_types.specs.declared.config.Config.{Config}
use Rattle.area_list.specs.declared.attributes.AttrChange.{AttrChange}
use Rattle.area_list.specs.declared.attributes.AttrChange.TheVariants.{Protection, Seal}
use Rattle.area_list.specs.Areas.{has_page, page_map}
use Rattle.area_list.specs.Attributes.{changed_page}
use Rattle.area_rules.specs.Munmap.{range_of}
use Rattle.area_rules.specs.Steps as profile
use Rattle.area_rules.specs.Tables.{AddressSpace}
use Rattle.linux_rules.specs.declared.kernel.Kernel.{Kernel}
use Rattle.linux_rules.specs.Doing.{LinuxSpace}
use Rattle.linux_rules.specs.Mprotect.{mprotect}
use Rattle.linux_rules.specs.Mseal.{mseal}
use Rattle.linux_beside.specs.Forgetting.{forgotten}
use Rattle.linux_beside.specs.InOrder.{AreInOrder}
use Rattle.linux_beside.specs.Unmapping.{MapTheSame}

-- the pages of a range change so, where they are mapped, and no other page changes
abbrev pub ChangesPages : AttrChange → (addr len : ℕ) → LinuxSpace → LinuxSpace → Type 0
ChangesPages change addr len before after = (page : ℕ) → page_map (map forgotten after.areas) page
    ≡ (if has_page (range_of addr len) page then option_map (changed_page change) (page_map (map forgotten before.areas) page)
    else page_map (map forgotten before.areas) page)

-- the pages of a range that lie before one of them change so, where they are mapped, and no other page changes
pub record IsChangedTo (change : AttrChange) (addr len : ℕ) (before after : LinuxSpace) : Type 0 where
  pub stop : ℕ
  pub from : (range_of addr len).lo ≤ stop
  pub to : stop ≤ (range_of addr len).hi
  pub pages : (page : ℕ) → page_map (map forgotten after.areas) page
      ≡ (if has_page (record { lo = (range_of addr len).lo; hi = stop }) page then option_map (changed_page change) (page_map (map forgotten before.areas) page)
      else page_map (map forgotten before.areas) page)

-- mprotect that succeeds gives the pages of its range the protection, and keeps all else
abbrev pub ProtectsItsRange : Type 0
ProtectsItsRange = (kernel : Kernel) (space : LinuxSpace) (addr len : ℕ) (prot : Prot) → AreInOrder space.areas → len < 2 ^ 64
    → (mprotect kernel addr len prot space).result ≡ Ok tt → ChangesPages (Protection prot) addr len space (mprotect kernel addr len prot space).space

-- where the profile's succeeds too, both map the same after it if they did before
abbrev pub ProtectsAsProfile : Type 0
ProtectsAsProfile = (kernel : Kernel) (config : Config) (space : LinuxSpace) (other : AddressSpace) (addr len : ℕ) (prot : Prot) → AreInOrder space.areas → len < 2 ^ 64
    → profile.IsReady config other → MapTheSame space other → (mprotect kernel addr len prot space).result ≡ Ok tt
    → (profile.step config other (call.Mprotect addr len prot)).reply ≡ Zero
    → MapTheSame (mprotect kernel addr len prot space).space (profile.step config other (call.Mprotect addr len prot)).space

-- where it's refused, at once or halfway, the pages before one of its range have the protection (seal-prefix, limit-prefix)
abbrev pub RefusedProtectsPrefix : Type 0
RefusedProtectsPrefix = (kernel : Kernel) (space : LinuxSpace) (addr len : ℕ) (prot : Prot) (error : ℕ) → AreInOrder space.areas → len < 2 ^ 64
    → (mprotect kernel addr len prot space).result ≡ Err error → IsChangedTo (Protection prot) addr len space (mprotect kernel addr len prot space).space

-- mseal that succeeds seals the pages of its range, and keeps all else, also where it goes on from a stale address
abbrev pub SealsItsRange : Type 0
SealsItsRange = (kernel : Kernel) (space : LinuxSpace) (addr len flags : ℕ) → AreInOrder space.areas → len < 2 ^ 64
    → (mseal kernel addr len flags space).result ≡ Ok tt → ChangesPages Seal addr len space (mseal kernel addr len flags space).space

-- and so does the profile's
abbrev pub SealsAsProfile : Type 0
SealsAsProfile = (kernel : Kernel) (config : Config) (space : LinuxSpace) (other : AddressSpace) (addr len flags : ℕ)
    → AreInOrder space.areas → len < 2 ^ 64 → profile.IsReady config other → MapTheSame space other → (mseal kernel addr len flags space).result ≡ Ok tt
    → (profile.step config other (call.Mseal addr len flags)).reply ≡ Zero
    → MapTheSame (mseal kernel addr len flags space).space (profile.step config other (call.Mseal addr len flags)).space

-- where it's refused, the pages before one of its range are sealed (limit-prefix-seal)
abbrev pub RefusedSealsPrefix : Type 0
RefusedSealsPrefix = (kernel : Kernel) (space : LinuxSpace) (addr len flags error : ℕ) → AreInOrder space.areas → len < 2 ^ 64
    → (mseal kernel addr len flags space).result ≡ Err error → IsChangedTo Seal addr len space (mseal kernel addr len flags space).space
