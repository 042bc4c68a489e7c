-- For the law `brk_changes_the_pages_between`: what brk(2) changes, and what it answers.
use Rattle.std.proofs.Common.{◌≡◌, ◌<◌, ◌+◌, ◌-◌, ◌⊎◌, ℕ, true, if◌then◌else◌, Some, None, refl, sym, subst, arith, inl, inr}
use Rattle.mm_types.specs.declared.call.Call.TheVariants.{Brk}
use Rattle.mm_types.specs.declared.call.Reply.TheVariants.{Addr}
use Rattle.mm_types.specs.declared.config.Config.{Config}
use Rattle.area_list.specs.Areas.{page_of, has_page, index_of, mapped_page, page_map}
use Rattle.area_list.proofs.Cutting.{page_map-cut}
use Rattle.area_list.proofs.Holding.{lies_in}
use Rattle.area_list.proofs.Order.{good_from_canonical}
use Rattle.area_list.proofs.Putting.{page_map-put}
use Rattle.area_rules.specs.Brk.{pages_between, heap_area, break_kept, break_moved, lowered_list, raised_list, brk}
use Rattle.area_rules.specs.Laws.{heap_page, after_brk}
use Rattle.area_rules.specs.Steps.{step, IsReady}
use Rattle.area_rules.specs.Tables.{AddressSpace, Outcome, pages_of}
use Rattle.area_rules.proofs.Cases.{IsLowered, IsRaised, brk_cases}
use Rattle.area_rules.proofs.Stepping.{room_above, raised_good}
use Rattle.area_rules.proofs.Unmapped.{free_unmapped}

-- no brk is refused by a seal
pub step-brk : (config : Config) (space : AddressSpace) (addr : ℕ) → step config space (Brk addr) ≡ brk config space addr
unfolding step
step-brk config space addr = refl

module _ (config : Config) (space : AddressSpace) (addr : ℕ) where
  -- what holds of each of brk's outcomes holds of the step
  by_brk : (P : Outcome → Type 0) → P (break_kept space)
      → (pages_of addr ≡ pages_of space.brk → P (break_moved space addr space.areas))
      → (IsLowered config space addr → P (break_moved space addr (lowered_list space addr)))
      → (IsRaised config space addr → P (break_moved space addr (raised_list space addr)))
      → P (step config space (Brk addr))
  by_brk P kept same lowered raised =
      subst P (sym (step-brk config space addr)) (brk_cases P config space addr kept same lowered raised)

  -- the pages of the list after a higher break
  raised_pages : (page : ℕ) → IsReady config space → IsRaised config space addr → page_map (raised_list space addr) page
      ≡ (if has_page (pages_between space.brk addr) page then Some heap_page else page_map space.areas page)
  unfolding heap_area mapped_page index_of
  raised_pages page ready r =
      let end = page_of config.limit in
      page_map-put end (heap_area (pages_between space.brk addr)) space.areas page
      (raised_good config space addr ready.valid r) (good_from_canonical end space.areas ready.sound.canonical)

  -- a higher break maps the pages between to the heap
  pub brk_raised : (page : ℕ) → IsReady config space → pages_of space.brk < pages_of (after_brk config space addr).brk
      → page_map (after_brk config space addr).areas page
      ≡ (if has_page (pages_between space.brk (after_brk config space addr).brk) page then Some heap_page
      else page_map space.areas page)
  brk_raised page ready = by_brk
      (λ o. pages_of space.brk < pages_of o.space.brk → page_map o.space.areas page
      ≡ (if has_page (pages_between space.brk o.space.brk) page then Some heap_page else page_map space.areas page))
      (λ more. absurd (omega (arith, more)))
      (λ same more. absurd (omega (arith, same, more)))
      (λ l more. absurd (omega (arith, l.below, more)))
      (λ r more. raised_pages page ready r)

  -- which were free
  pub brk_free : (page : ℕ) → pages_of space.brk < pages_of (after_brk config space addr).brk
      → has_page (pages_between space.brk (after_brk config space addr).brk) page ≡ true → page_map space.areas page ≡ None
  brk_free page = by_brk
      (λ o. pages_of space.brk < pages_of o.space.brk → has_page (pages_between space.brk o.space.brk) page ≡ true
      → page_map space.areas page ≡ None)
      (λ more here. absurd (omega (arith, more)))
      (λ same more here. absurd (omega (arith, same, more)))
      (λ l more here. absurd (omega (arith, l.below, more)))
      (λ r more here. let room = room_above config space addr r.room in
      let lies = lies_in (pages_between space.brk addr) page here in
      free_unmapped space.areas (pages_of addr + 1 - pages_of space.brk) (pages_of space.brk) page room.free lies.low
      (omega (arith, lies.high, r.above)))

  -- a lower break unmaps the pages between
  pub brk_lowered : (page : ℕ) → pages_of (after_brk config space addr).brk < pages_of space.brk
      → page_map (after_brk config space addr).areas page
      ≡ (if has_page (pages_between (after_brk config space addr).brk space.brk) page then None else page_map space.areas page)
  brk_lowered page = by_brk
      (λ o. pages_of o.space.brk < pages_of space.brk → page_map o.space.areas page
      ≡ (if has_page (pages_between o.space.brk space.brk) page then None else page_map space.areas page))
      (λ less. absurd (omega (arith, less)))
      (λ same less. absurd (omega (arith, same, less)))
      (λ l less. page_map-cut (pages_between addr space.brk) space.areas page l.below)
      (λ r less. absurd (omega (arith, r.above, less)))

  -- where the page of the break stays, so does the list
  pub brk_kept : pages_of (after_brk config space addr).brk ≡ pages_of space.brk
      → (after_brk config space addr).areas ≡ space.areas
  brk_kept = by_brk (λ o. pages_of o.space.brk ≡ pages_of space.brk → o.space.areas ≡ space.areas) (λ same. refl)
      (λ same again. refl) (λ l same. absurd (omega (arith, l.below, same))) (λ r same. absurd (omega (arith, r.above, same)))

  -- the break is the address, or nothing changes
  pub brk_asked : ((after_brk config space addr).brk ≡ addr) ⊎ (after_brk config space addr ≡ space)
  brk_asked = by_brk (λ o. (o.space.brk ≡ addr) ⊎ (o.space ≡ space)) (inr refl) (λ same. inl refl) (λ l. inl refl)
      (λ r. inl refl)

  -- the reply is the break
  pub brk_reply : (step config space (Brk addr)).reply ≡ Addr (after_brk config space addr).brk
  brk_reply = by_brk (λ o. o.reply ≡ Addr o.space.brk) refl (λ same. refl) (λ l. refl) (λ r. refl)
