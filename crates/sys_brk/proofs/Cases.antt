-- For the plans of brk(2): the outcome of a call by how far its cases come.
use Rattle.std.proofs.Common.{◌≡◌, ◌<◌, ℕ, true, false, ◌||◌, nat_eq, nat_lt, refl, arith}
use Rattle.std.proofs.lemmas.Bool.{lt-ltb, le-ltb, ne_eqb, eq-eqb}
use Rattle.mm_types.specs.declared.config.Config.{Config}
use Rattle.area_rules.specs.Tables.{AddressSpace, pages_of, has_too_many_areas}
use Rattle.area_rules.specs.Seals.{has_sealed}
use Rattle.area_rules.specs.Brk.{brk, brk_rows, break_kept, break_moved, lowered_list, raised_list, pages_between, has_room_above}
use Rattle.mm_types.specs.declared.call.Reply.TheVariants.{Addr}
use Rattle.area_rules.proofs.Cases.{brk_cases}

module _ (config : Config) (space : AddressSpace) (addr : ℕ) where
  -- there is no heap, or the address lies below it
  pub stays_below : (nat_eq config.heap 0 || nat_lt addr config.heap) ≡ true → brk config space addr ≡ break_kept space
  unfolding brk brk_rows
  stays_below below = rw below

  module _ (heap : (nat_eq config.heap 0 || nat_lt addr config.heap) ≡ false) where
    -- the break stays within its page
    pub moves_within : pages_of addr ≡ pages_of space.brk → brk config space addr ≡ break_moved space addr space.areas
    unfolding brk brk_rows
    moves_within same = let alike = eq-eqb (pages_of addr) (pages_of space.brk) same in rw (heap, alike)

    module _ (lower : pages_of addr < pages_of space.brk) where
      other : nat_eq (pages_of addr) (pages_of space.brk) ≡ false
      other = ne_eqb (pages_of addr) (pages_of space.brk) (λ same. omega arith)

      below : nat_lt (pages_of addr) (pages_of space.brk) ≡ true
      below = lt-ltb (pages_of addr) (pages_of space.brk) lower

      -- a page that would be given back is sealed
      pub stays_sealed : has_sealed (pages_between addr space.brk) space.areas ≡ true → brk config space addr ≡ break_kept space
      unfolding brk brk_rows
      stays_sealed sealed = rw (heap, other, below, sealed)

      -- too many areas would be left
      pub stays_long : has_sealed (pages_between addr space.brk) space.areas ≡ false → has_too_many_areas config (lowered_list space addr) ≡ true
          → brk config space addr ≡ break_kept space
      unfolding brk brk_rows
      stays_long sealed long = rw (heap, other, below, sealed, long)

      -- the pages are given back
      pub lowers : has_sealed (pages_between addr space.brk) space.areas ≡ false → has_too_many_areas config (lowered_list space addr) ≡ false
          → brk config space addr ≡ break_moved space addr (lowered_list space addr)
      unfolding brk brk_rows
      lowers sealed short = rw (heap, other, below, sealed, short)

    module _ (higher : pages_of space.brk < pages_of addr) where
      another : nat_eq (pages_of addr) (pages_of space.brk) ≡ false
      another = ne_eqb (pages_of addr) (pages_of space.brk) (λ same. omega arith)

      above : nat_lt (pages_of addr) (pages_of space.brk) ≡ false
      above = le-ltb (pages_of addr) (pages_of space.brk) (omega arith)

      -- there is no room
      pub stays_full : has_room_above config space addr ≡ false → brk config space addr ≡ break_kept space
      unfolding brk brk_rows
      stays_full full = rw (heap, another, above, full)

      -- there would be too many areas
      pub stays_crowded : has_room_above config space addr ≡ true → has_too_many_areas config (raised_list space addr) ≡ true
          → brk config space addr ≡ break_kept space
      unfolding brk brk_rows
      stays_crowded room long = rw (heap, another, above, room, long)

      -- the pages are taken
      pub raises : has_room_above config space addr ≡ true → has_too_many_areas config (raised_list space addr) ≡ false
          → brk config space addr ≡ break_moved space addr (raised_list space addr)
      unfolding brk brk_rows
      raises room short = rw (heap, another, above, room, short)

-- the reply is the address of the break after the call
pub reply_is_break : (config : Config) (space : AddressSpace) (addr : ℕ) → (brk config space addr).reply ≡ Addr (brk config space addr).space.brk
reply_is_break config space addr =
    brk_cases (λ outcome. outcome.reply ≡ Addr outcome.space.brk) config space addr refl (λ same. refl) (λ lower. refl) (λ higher. refl)
