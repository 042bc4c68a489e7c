-- For mmap(2), in the model and as a plan: the outcome by how far its tests go.
use Rattle.std.proofs.Common.{◌≡◌, ℕ, true, false, Some, None}
use Rattle.mm_types.specs.declared.call.Errno.{Errno}
use Rattle.mm_types.specs.declared.call.Errno.TheVariants.{Enomem}
use Rattle.mm_types.specs.declared.call.MmapArgs.{MmapArgs}
use Rattle.mm_types.specs.declared.call.Reply.TheVariants.{Refused}
use Rattle.mm_types.specs.declared.config.Config.{Config}
use Rattle.area_rules.specs.Tables.{AddressSpace, Outcome, has_too_many_areas}
use Rattle.mm_types.specs.Rows.{first_row}
use Rattle.area_rules.specs.Mmap.{mmap_unsealed, mmap_rows, mmap_placed_unsealed, mmap_done, start_of, mapped_list}

-- a refusal
abbrev pub refusal : AddressSpace → Errno → Outcome
refusal space errno = record { space = space; reply = Refused errno }

-- a test of the request refuses
pub mmap_refused : (config : Config) (space : AddressSpace) (args : MmapArgs) (errno : Errno) → first_row (mmap_rows config space.areas args) ≡ Some errno
    → mmap_unsealed config space args ≡ refusal space errno
unfolding mmap_unsealed
mmap_refused config space args errno refused = rw refused

-- there is no place
pub mmap_no_place : (config : Config) (space : AddressSpace) (args : MmapArgs) → first_row (mmap_rows config space.areas args) ≡ None
    → start_of config space.areas args ≡ None → mmap_unsealed config space args ≡ refusal space Enomem
unfolding mmap_unsealed mmap_placed_unsealed
mmap_no_place config space args passes none = rw (passes, none)

module _ (config : Config) (space : AddressSpace) (args : MmapArgs) (start : ℕ) (passes : first_row (mmap_rows config space.areas args) ≡ None)
    (found : start_of config space.areas args ≡ Some start) where
  -- there would be too many areas
  pub mmap_too_long : has_too_many_areas config (mapped_list config space args start) ≡ true → mmap_unsealed config space args ≡ refusal space Enomem
  unfolding mmap_unsealed mmap_placed_unsealed
  mmap_too_long long = rw (passes, found, long)

  -- the mapping goes through
  pub mmap_maps : has_too_many_areas config (mapped_list config space args start) ≡ false → mmap_unsealed config space args ≡ mmap_done config space args start
  unfolding mmap_unsealed mmap_placed_unsealed
  mmap_maps fits = rw (passes, found, fits)
