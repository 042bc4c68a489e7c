-- For the law `calls_change_only_their_pages`: a call keeps the pages that it is not about.
use Rattle.std.proofs.Common.{◌≡◌, ◌≢◌, ◌+◌, ◌⊎◌, inl, inr, ℕ, true, false, ◌||◌, if◌then◌else◌, nat_eq, [], ◌∷◌, None, refl, ap, ◌∙◌, sym, subst, arith}
use Rattle.std.specs.List.{list_any}
use Rattle.std.proofs.lemmas.Bool.{cond-false, or_parts, eqb-true, eqb-false, cases_Bool, cases_lt}
use Rattle.mm_types.specs.declared.area.Access.{Access}
use Rattle.mm_types.specs.declared.area.Page.{Page}
use Rattle.mm_types.specs.declared.area.Prot.{Prot}
use Rattle.mm_types.specs.declared.area.Span.{Span}
use Rattle.mm_types.specs.declared.call.Call.{Call}
use Rattle.mm_types.specs.declared.call.Call.TheVariants.{Mmap, Munmap, Mprotect, Mremap, Touch, Brk, Mseal}
use Rattle.mm_types.specs.declared.call.MmapArgs.{MmapArgs}
use Rattle.mm_types.specs.declared.call.Reply.{Reply}
use Rattle.mm_types.specs.declared.call.Reply.TheVariants.{Addr, Zero, Refused, Grown}
use Rattle.mm_types.specs.declared.config.Config.{Config}
use Rattle.area_list.specs.Areas.{has_page, page_map}
use Rattle.area_list.proofs.Holding.{inside}
use Rattle.area_rules.specs.Mprotect.{prefix_of}
use Rattle.area_rules.specs.declared.mremap_request.MremapArgs.{MremapArgs}
use Rattle.area_rules.specs.Brk.{pages_between}
use Rattle.area_rules.specs.Growing.{grows}
use Rattle.area_rules.specs.Laws.{after_brk}
use Rattle.area_rules.specs.Mremap.{mremap_args}
use Rattle.area_rules.specs.Munmap.{range_of}
use Rattle.area_rules.specs.Pages.{replied_range, replied_break, spans_about, is_about}
use Rattle.area_rules.specs.Steps.{step, IsReady}
use Rattle.area_rules.specs.Tables.{AddressSpace, Outcome, is_refusal, pages_of}
use Rattle.area_rules.proofs.Breaks.{brk_raised, brk_lowered, brk_kept, brk_reply}
use Rattle.area_rules.proofs.Cases.{touch_cases}
use Rattle.area_rules.proofs.PageLaws.{unmapped_pages, unmapped_kept, by_mprotect, before_stop, mapped_pages, mapped_kept, remap, remapped_others, remapped_kept}
use Rattle.area_rules.proofs.Sealing.{sealed_page_map, mseal_kept}
use Rattle.area_rules.proofs.Touching.{step-touch, touched_others, touched_reply, touch_refused}

-- a refusal is no address
refused_addr : (reply : Reply) → is_refusal reply ≡ true → (address : ℕ) → reply ≢ Addr address
refused_addr reply refused address is =
    let other : is_refusal (Addr address) ≡ true = subst (λ r. is_refusal r ≡ true) is refused in cc

-- nor zero
refused_zero : (reply : Reply) → is_refusal reply ≡ true → reply ≢ Zero
refused_zero reply refused is = let other : is_refusal Zero ≡ true = subst (λ r. is_refusal r ≡ true) is refused in cc

module _ (config : Config) (space : AddressSpace) (page : ℕ) (ready : IsReady config space) where
  -- a call keeps the page, where it is not about it
  abbrev Keeps : Call → Type 0
  Keeps call = is_about space call (step config space call).reply page ≡ false
      → page_map (step config space call).space.areas page ≡ page_map space.areas page

  -- by what it makes of the page at each reply that it may have
  abbrev KeepsAt : Call → Reply → Type 0
  KeepsAt call reply = (step config space call).reply ≡ reply → is_about space call reply page ≡ false
      → page_map (step config space call).space.areas page ≡ page_map space.areas page

  -- one that changes nothing does
  same_pages : (call : Call) → (step config space call).space ≡ space
      → page_map (step config space call).space.areas page ≡ page_map space.areas page
  same_pages call same = ap (λ s. page_map s.areas page) same

  mmap_keeps : (args : MmapArgs) → Keeps (Mmap args)
  unfolding is_about spans_about replied_range
  mmap_keeps args = at (step config space (Mmap args)).reply refl
    where
      at : (reply : Reply) → KeepsAt (Mmap args) reply
      at (Addr address) is apart =
          mapped_pages config space args address page ready is
          ∙ cond-false (has_page (range_of address args.len) page) _ (page_map space.areas page)
          (or_parts (has_page (range_of address args.len) page) false apart).0
      at Zero is apart = same_pages (Mmap args) (mapped_kept config space args (λ address e. cc))
      at (Refused errno) is apart = same_pages (Mmap args) (mapped_kept config space args (λ address e. cc))
      at (Grown area index) is apart = same_pages (Mmap args) (mapped_kept config space args (λ address e. cc))

  munmap_keeps : (addr len : ℕ) → Keeps (Munmap addr len)
  unfolding is_about spans_about
  munmap_keeps addr len = at (step config space (Munmap addr len)).reply refl
    where
      at : (reply : Reply) → KeepsAt (Munmap addr len) reply
      at Zero is apart =
          unmapped_pages config space addr len page is
          ∙ cond-false (has_page (range_of addr len) page) None (page_map space.areas page)
          (or_parts (has_page (range_of addr len) page) false apart).0
      at (Addr address) is apart = same_pages (Munmap addr len) (unmapped_kept config space addr len (λ e. cc))
      at (Refused errno) is apart = same_pages (Munmap addr len) (unmapped_kept config space addr len (λ e. cc))
      at (Grown area index) is apart = same_pages (Munmap addr len) (unmapped_kept config space addr len (λ e. cc))

  mprotect_keeps : (addr len : ℕ) (prot : Prot) → Keeps (Mprotect addr len prot)
  unfolding is_about spans_about
  mprotect_keeps addr len prot =
      let prefix = has_page (prefix_of prot (range_of addr len) space.areas) page in
      by_mprotect config space addr len prot
      (λ o. (prefix || false) ≡ false → page_map o.space.areas page ≡ page_map space.areas page)
      (λ errno apart. refl) (λ none apart. refl)
      (λ apart. before_stop config space addr len prot page ready
      ∙ cond-false prefix _ (page_map space.areas page) (or_parts prefix false apart).0)

  mremap_keeps : (args : MremapArgs) → Keeps (remap args)
  unfolding is_about spans_about replied_range
  mremap_keeps args = at (step config space (remap args)).reply refl
    where
      at : (reply : Reply) → KeepsAt (remap args) reply
      at (Addr address) is apart =
          let old = has_page (range_of args.old args.old_len) page in
          let new = has_page (range_of address args.new_len) page in
          let parts = or_parts old (new || false) apart in
          remapped_others config space args address page ready is parts.0 (or_parts new false parts.1).0
      at Zero is apart = same_pages (remap args) (remapped_kept config space args (λ address e. cc))
      at (Refused errno) is apart = same_pages (remap args) (remapped_kept config space args (λ address e. cc))
      at (Grown area index) is apart = same_pages (remap args) (remapped_kept config space args (λ address e. cc))

  touch_keeps : (touched : Page) (access : Access) → Keeps (Touch touched access)
  unfolding is_about spans_about
  touch_keeps touched access = at (cases_Bool (grows config space.areas touched.0 access))
    where
      one : Span
      one = record { lo = touched.0; hi = touched.0 + 1 }

      off : (reply : Reply) → is_refusal reply ≡ false → is_about space (Touch touched access) reply page ≡ false
          → has_page one page ≡ false
      off reply some apart = (or_parts (has_page one page) false (subst (λ refused. list_any (λ span. has_page span page)
          (if refused then [] else one ∷ []) ≡ false) some apart)).0

      at : (grows config space.areas touched.0 access ≡ true) ⊎ (grows config space.areas touched.0 access ≡ false)
          → Keeps (Touch touched access)
      at (inl does) apart =
          let grown = touched_reply config space touched access ready does in
          let out : has_page one page ≡ false = off (step config space (Touch touched access)).reply (ap is_refusal grown.answer) apart in
          touched_others config space touched access ready does page
          (λ same. let here : has_page one page ≡ true = inside one page (omega (arith, same)) (omega (arith, same)) in cc)
      at (inr stays) apart = ap (λ o. page_map o.space.areas page) (touch_refused config space touched access stays)

  brk_keeps : (addr : ℕ) → Keeps (Brk addr)
  unfolding is_about spans_about replied_break
  brk_keeps addr apart =
      let before = space.brk in
      let now = (after_brk config space addr).brk in
      let parts = or_parts (has_page (pages_between before now) page) (has_page (pages_between now before) page || false)
      (subst (λ r. list_any (λ span. has_page span page) (replied_break before r) ≡ false) (brk_reply config space addr) apart) in
      elim (cases_lt (pages_of before) (pages_of now)) [
        | inl higher ↦ brk_raised config space addr page ready higher
            ∙ cond-false (has_page (pages_between before now) page) _ (page_map space.areas page) parts.0
        | inr other ↦ elim (cases_lt (pages_of now) (pages_of before)) [
          | inl lower ↦ brk_lowered config space addr page lower
              ∙ cond-false (has_page (pages_between now before) page) None (page_map space.areas page)
              (or_parts (has_page (pages_between now before) page) false parts.1).0
          | inr same ↦ ap (λ areas. page_map areas page) (brk_kept config space addr (omega (arith, other, same)))
        ]
      ]

  mseal_keeps : (addr len flags : ℕ) → Keeps (Mseal addr len flags)
  unfolding is_about spans_about
  mseal_keeps addr len flags = at (step config space (Mseal addr len flags)).reply refl
    where
      sealed : (nat_eq len 0 ≡ true) ⊎ (nat_eq len 0 ≡ false) → KeepsAt (Mseal addr len flags) Zero
      sealed (inl none) is apart = same_pages (Mseal addr len flags) (mseal_kept config space addr len flags (inr (eqb-true len 0 none)))
      sealed (inr some) is apart =
          sealed_page_map config space addr len flags page ready is (eqb-false len 0 some)
          ∙ cond-false (has_page (range_of addr len) page) _ (page_map space.areas page)
          (or_parts (has_page (range_of addr len) page) false apart).0

      at : (reply : Reply) → KeepsAt (Mseal addr len flags) reply
      at Zero is apart = sealed (cases_Bool (nat_eq len 0)) is apart
      at (Addr address) is apart = same_pages (Mseal addr len flags) (mseal_kept config space addr len flags (inl (λ e. cc)))
      at (Refused errno) is apart = same_pages (Mseal addr len flags) (mseal_kept config space addr len flags (inl (λ e. cc)))
      at (Grown area index) is apart = same_pages (Mseal addr len flags) (mseal_kept config space addr len flags (inl (λ e. cc)))

-- so each call keeps the pages that it is not about
pub keeps_others : (config : Config) (space : AddressSpace) (call : Call) (page : ℕ) → IsReady config space
    → is_about space call (step config space call).reply page ≡ false
    → page_map (step config space call).space.areas page ≡ page_map space.areas page
keeps_others config space (Mmap args) page ready = mmap_keeps config space page ready args
keeps_others config space (Munmap addr len) page ready = munmap_keeps config space page ready addr len
keeps_others config space (Mprotect addr len prot) page ready = mprotect_keeps config space page ready addr len prot
keeps_others config space (Mremap old old_len new_len flags new) page ready =
    mremap_keeps config space page ready (mremap_args old old_len new_len flags new)
keeps_others config space (Touch touched access) page ready = touch_keeps config space page ready touched access
keeps_others config space (Brk addr) page ready = brk_keeps config space page ready addr
keeps_others config space (Mseal addr len flags) page ready = mseal_keeps config space page ready addr len flags

-- a touch that is refused changes nothing
touch_keeps_all : (config : Config) (space : AddressSpace) (page : Page) (access : Access)
    → is_refusal (step config space (Touch page access)).reply ≡ true → (step config space (Touch page access)).space ≡ space
touch_keeps_all config space page access =
    subst Stays (sym (step-touch config space page access))
    (touch_cases Stays config space page.0 access (λ refused. refl) (λ area found allowed refused. cc))
  where
    Stays : Outcome → Type 0
    Stays o = is_refusal o.reply ≡ true → o.space ≡ space

-- a call that is refused changes nothing, but for an mprotect
pub keeps_all : (config : Config) (space : AddressSpace) (call : Call) → is_refusal (step config space call).reply ≡ true
    → ((addr len : ℕ) (prot : Prot) → call ≢ Mprotect addr len prot) → (step config space call).space ≡ space
keeps_all config space (Mmap args) refused other =
    mapped_kept config space args (refused_addr (step config space (Mmap args)).reply refused)
keeps_all config space (Munmap addr len) refused other =
    unmapped_kept config space addr len (refused_zero (step config space (Munmap addr len)).reply refused)
keeps_all config space (Mprotect addr len prot) refused other = absurd (other addr len prot refl)
keeps_all config space (Mremap old old_len new_len flags new) refused other =
    remapped_kept config space (mremap_args old old_len new_len flags new)
    (refused_addr (step config space (Mremap old old_len new_len flags new)).reply refused)
keeps_all config space (Touch page access) refused other = touch_keeps_all config space page access refused
keeps_all config space (Brk addr) refused other =
    absurd (refused_addr (step config space (Brk addr)).reply refused (after_brk config space addr).brk (brk_reply config space addr))
keeps_all config space (Mseal addr len flags) refused other =
    mseal_kept config space addr len flags (inl (refused_zero (step config space (Mseal addr len flags)).reply refused))
