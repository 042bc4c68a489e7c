-- For the law `mseal_seals_the_range`: what mseal(2) changes.
use Rattle.std.proofs.Common.{◌≡◌, ◌≢◌, ◌⊎◌, ℕ, true, if◌then◌else◌, None, List, option_map, refl, sym, subst, ◌∙◌, arith, inl, inr}
use Rattle.std.proofs.lemmas.Bool.{eqb-false}
use Rattle.mm_types.specs.declared.area.Record.{Record}
use Rattle.mm_types.specs.declared.call.Call.TheVariants.{Mseal}
use Rattle.mm_types.specs.declared.call.Errno.{Errno}
use Rattle.mm_types.specs.declared.call.Reply.TheVariants.{Refused, Zero}
use Rattle.mm_types.specs.declared.config.Config.{Config}
use Rattle.area_list.specs.declared.attributes.AttrChange.TheVariants.{Seal}
use Rattle.area_list.specs.Attributes.{changed_page}
use Rattle.area_list.specs.Areas.{page_of, has_page, page_map, IsCanonical}
use Rattle.area_list.specs.Changes.{sealed_list}
use Rattle.area_list.proofs.Changed.{page_map-changed}
use Rattle.area_list.proofs.Holding.{lies_in}
use Rattle.area_list.proofs.Uniqueness.{canonical_unique}
use Rattle.area_rules.specs.Mseal.{has_hole, mseal}
use Rattle.area_rules.specs.Munmap.{range_of}
use Rattle.area_rules.specs.Steps.{step, IsReady}
use Rattle.area_rules.specs.Tables.{AddressSpace, Outcome, pages_of}
use Rattle.area_rules.proofs.Cases.{IsSealable, mseal_cases}
use Rattle.area_rules.proofs.SealTests.{hole_is}
use Rattle.area_rules.proofs.Stepping.{in_order, all_may_seal, step_sound}

-- no mseal is refused by a seal
pub step-mseal : (config : Config) (space : AddressSpace) (addr len flags : ℕ)
    → step config space (Mseal addr len flags) ≡ mseal config space addr len flags
unfolding step
step-mseal config space addr len flags = refl

-- an empty range has no page
pub no_page : (addr page : ℕ) → has_page (range_of addr 0) page ≡ true → ⊥
unfolding range_of pages_of
no_page addr page here = let lies = lies_in (range_of addr 0) page here in omega (arith, lies.low, lies.high)

module _ (config : Config) (space : AddressSpace) (addr len flags : ℕ) where
  -- what holds of each of mseal's outcomes holds of the step
  by_mseal : (P : Outcome → Type 0) → ((errno : Errno) → P (record { space = space; reply = Refused errno }))
      → (len ≡ 0 → P (record { space = space; reply = Zero }))
      → (IsSealable config space.areas addr len
      → P (record { space = record space { areas = sealed_list (range_of addr len) space.areas }; reply = Zero }))
      → P (step config space (Mseal addr len flags))
  by_mseal P refused empty done =
      subst P (sym (step-mseal config space addr len flags)) (mseal_cases P config space addr len flags refused empty done)

  -- the pages of the range are sealed
  pub sealed_page_map : (page : ℕ) → IsReady config space
      → (step config space (Mseal addr len flags)).reply ≡ Zero → len ≢ 0
      → page_map (step config space (Mseal addr len flags)).space.areas page
      ≡ (if has_page (range_of addr len) page then option_map (changed_page Seal) (page_map space.areas page)
      else page_map space.areas page)
  sealed_page_map page ready = by_mseal
      (λ o. o.reply ≡ Zero → len ≢ 0 → page_map o.space.areas page
      ≡ (if has_page (range_of addr len) page then option_map (changed_page Seal) (page_map space.areas page)
      else page_map space.areas page))
      (λ errno is some. cc)
      (λ none is some. absurd (some none))
      (λ s is some. page_map-changed (page_of config.limit) Seal (range_of addr len) space.areas page (in_order addr len)
      ready.sound.canonical (all_may_seal (range_of addr len) space.areas))

  -- which were all mapped
  pub sealed_mapped : (page : ℕ) → (step config space (Mseal addr len flags)).reply ≡ Zero
      → has_page (range_of addr len) page ≡ true → page_map space.areas page ≢ None
  sealed_mapped page = by_mseal
      (λ o. o.reply ≡ Zero → has_page (range_of addr len) page ≡ true → page_map space.areas page ≢ None)
      (λ errno is. cc)
      (λ none is here unmapped. no_page addr page (subst (λ n. has_page (range_of addr n) page ≡ true) none here))
      (λ s is here unmapped. let hole : has_hole (range_of addr len) space.areas ≡ true =
      (hole_is (range_of addr len) space.areas).1 (record { page = page; within = here; holds = unmapped }) in
      let whole = s.whole in cc)

  -- else nothing changes
  pub mseal_kept : ((step config space (Mseal addr len flags)).reply ≢ Zero) ⊎ (len ≡ 0)
      → (step config space (Mseal addr len flags)).space ≡ space
  mseal_kept = by_mseal (λ o. ((o.reply ≢ Zero) ⊎ (len ≡ 0)) → o.space ≡ space) (λ errno h. refl) (λ none h. refl)
      (λ s h. elim h [ inl other ↦ absurd (other refl) | inr none ↦ absurd (eqb-false len 0 s.some_bytes none) ])

  -- the list is the only canonical one with this map of pages
  pub sealed_unique : (others : List Record) → IsReady config space
      → (step config space (Mseal addr len flags)).reply ≡ Zero → len ≢ 0 → IsCanonical (page_of config.limit) others
      → ((page : ℕ) → page_map others page
      ≡ (if has_page (range_of addr len) page then option_map (changed_page Seal) (page_map space.areas page)
      else page_map space.areas page))
      → others ≡ (step config space (Mseal addr len flags)).space.areas
  sealed_unique others ready is some canonical alike =
      canonical_unique (page_of config.limit) others (step config space (Mseal addr len flags)).space.areas canonical
      (step_sound config space (Mseal addr len flags) ready).canonical (λ page. alike page ∙ sym (sealed_page_map page ready is some))
