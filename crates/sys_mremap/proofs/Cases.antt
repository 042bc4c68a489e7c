-- For `plan_change`, `plan_elsewhere` and `plan_longer`: the cases of mremap(2), and what its tests leave for each.
use Rattle.std.proofs.Common.{◌≡◌, ◌≤◌, ◌<◌, ◌+◌, ◌*◌, ◌^◌, ◌⊎◌, inl, inr, ℕ, Bool, true, false, not, ◌&&◌, ◌||◌, List, Some, option_map, refl, ◌∙◌, sym, subst, arith}
use Rattle.std.proofs.lemmas.Bool.{cond-true, cond-false, ltb-false}
use Rattle.std.proofs.lemmas.Option.{same_Some}
use Rattle.mm_types.specs.declared.area.Record.{Record}
use Rattle.mm_types.specs.declared.config.Config.{Config}
use Rattle.area_rules.specs.declared.mremap_request.MremapArgs.{MremapArgs}
use Rattle.area_list.specs.Areas.{page_of, IsCanonical}
use Rattle.mm_types.specs.declared.config.TheConstants.{PAGE_SIZE}
use Rattle.area_rules.specs.Placement.{bounds_of}
use Rattle.area_rules.specs.Tables.{pages_of, is_aligned}
use Rattle.area_rules.specs.declared.placement.Bounds.{Bounds}
use Rattle.area_list.specs.Changes.{IsSmall}
use Rattle.area_rules.specs.Mremap.{carried_area, added_range, moves_to, lengthens, old_range, has_room, mremap_rows, moved, lengthened_list, shrunk_list, mremap_change}
use Rattle.area_list.specs.Areas.{overlap}
use Rattle.area_rules.specs.Laws.{MovesTo, moved_range}
use Rattle.area_list.proofs.Order.{IsGood}
use Rattle.area_list.proofs.SmallNumbers.{small_valid}
use Rattle.area_rules.proofs.Moving.{move_beside}
use Rattle.area_rules.proofs.NewArea.{pages_some}
use Rattle.area_rules.proofs.Rows.{NoneHolds, rows_false}
use Rattle.area_rules.proofs.Limits.{limit_between}
use Rattle.area_rules.proofs.RemapLaws.{IsRemappable, some_range, remappable_from_rows, IsOld, old_area, grown_good, moved_good, moved_fits}
use Rattle.split_merge.proofs.Refusing.{range_within}
use Rattle.sys_mremap.specs.Internal.Cases.{IsAccepted, IsAdmitted, goes_elsewhere, other_place}

module _ (config : Config) (areas : List Record) (args : MremapArgs) (area : Record) where
  -- why a range goes elsewhere
  elsewhere_cases : goes_elsewhere config areas args ≡ true
      → (moves_to args ≡ true) ⊎ ((moves_to args ≡ false) × (lengthens args ≡ true) × (has_room config areas args ≡ false))
  unfolding goes_elsewhere
  elsewhere_cases goes = by (moves_to args) (lengthens args) (has_room config areas args) goes
    where
      by : (moves more room : Bool) → (moves || (more && not room)) ≡ true → (moves ≡ true) ⊎ ((moves ≡ false) × (more ≡ true) × (room ≡ false))
      by true more room goes = inl refl
      by false true true goes = cc
      by false true false goes = inr (refl, refl, refl)
      by false false room goes = cc

  -- it moves to the place there is
  pub elsewhere_change : goes_elsewhere config areas args ≡ true
      → mremap_change config areas area args ≡ option_map (moved areas area args) (other_place config areas args)
  unfolding other_place mremap_change
  elsewhere_change goes = elim (elsewhere_cases goes) [
    | inl fixed ↦ rw fixed
    | inr found ↦ rw (found.0, found.1, found.2)
  ]

  pub elsewhere_moves : (start : ℕ) → goes_elsewhere config areas args ≡ true → other_place config areas args ≡ Some start → MovesTo config areas args start
  unfolding other_place
  elsewhere_moves start goes there = elim (elsewhere_cases goes) [
    | inl fixed ↦ inl (fixed, same_Some (page_of args.new) start (sym (cond-true (moves_to args) _ _ fixed) ∙ there))
    | inr found ↦ inr (found.0, found.1, found.2, sym (cond-false (moves_to args) _ _ found.0) ∙ there)
  ]

  -- a range that stays where it is and grows has room
  staying : goes_elsewhere config areas args ≡ false → (moves_to args ≡ false) × (lengthens args ≡ true → has_room config areas args ≡ true)
  unfolding goes_elsewhere
  staying stays = (moves_not (moves_to args) _ stays, has_room_to (moves_to args) (lengthens args) (has_room config areas args) stays)
    where
      moves_not : (moves rest : Bool) → (moves || rest) ≡ false → moves ≡ false
      moves_not moves rest stays = grind arith

      has_room_to : (moves more room : Bool) → (moves || (more && not room)) ≡ false → more ≡ true → room ≡ true
      has_room_to moves more room stays longer = grind arith

  pub growing_room : goes_elsewhere config areas args ≡ false → lengthens args ≡ true → has_room config areas args ≡ true
  growing_room stays more = (staying stays).1 more

  -- it grows in place
  pub growing_change : goes_elsewhere config areas args ≡ false → lengthens args ≡ true
      → mremap_change config areas area args ≡ Some (record { areas = lengthened_list areas area args; page = page_of args.old })
  unfolding mremap_change
  growing_change stays more = rw ((staying stays).0, more, growing_room stays more)

  -- and one that does not grow shrinks in place
  pub shrinking_change : goes_elsewhere config areas args ≡ false → lengthens args ≡ false
      → mremap_change config areas area args ≡ Some (record { areas = shrunk_list areas args; page = page_of args.old })
  unfolding mremap_change
  shrinking_change stays less = rw ((staying stays).0, less)

  -- what the tests of the request leave
  accepted_remappable : IsAccepted config areas args area → IsRemappable config areas args
  accepted_remappable a = remappable_from_rows config areas args (rows_false (mremap_rows config areas args) a.accepted)

  -- the old range ends at or below the limit
  accepted_within : (bounds : Bounds) → bounds ≡ bounds_of config → IsAccepted config areas args area → (old_range args).hi ≤ bounds.limit
  unfolding mremap_rows
  accepted_within bounds numbers a = let passed : NoneHolds (mremap_rows config areas args) = rows_false (mremap_rows config areas args) a.accepted in
      range_within config bounds args.old args.old_len (old_range args) numbers (is_not (is_aligned args.old) passed.1.1.0)
      (ltb-false config.limit (args.old + PAGE_SIZE * pages_of args.old_len) passed.1.1.1.1.1.0) refl
    where
      is_not : (b : Bool) → not b ≡ false → b ≡ true
      is_not b h = grind arith

module _ {config : Config} {bounds : Bounds} {most : ℕ} {areas : List Record} {args : MremapArgs} {area : Record}
    (h : IsAdmitted config bounds most areas args area) where
  canonical : IsCanonical (page_of config.limit) areas
  canonical = subst (λ (b : Bounds). IsCanonical b.limit areas) h.numbers h.kept.canonical

  remappable : IsRemappable config areas args
  remappable = accepted_remappable config areas args area h.accepted

  good_by_bounds : (carried : Record) → IsGood (page_of config.limit) carried → IsGood bounds.limit carried
  good_by_bounds carried good = subst (λ (b : Bounds). IsGood b.limit carried) (sym h.numbers) good

  -- the area that has the old range's first page is small
  pub old_small : IsSmall area
  old_small = let old : IsOld (page_of config.limit) areas args area = old_area (page_of config.limit) areas args area canonical h.accepted.found in
      small_valid area old.good.valid

  -- the old range has a page, and ends at or below the limit
  pub old_some : (old_range args).lo < (old_range args).hi
  old_some = some_range args.old args.old_len remappable.some_old

  pub old_within : (old_range args).hi ≤ bounds.limit
  old_within = accepted_within config areas args area bounds h.numbers h.accepted

  -- the new length has a page
  pub new_some : 1 ≤ pages_of args.new_len
  new_some = omega (arith, pages_some args.new_len remappable.some_new)

  -- what grows in place
  pub grown_by_bounds : lengthens args ≡ true → has_room config areas args ≡ true
      → IsGood bounds.limit (carried_area area (added_range args).lo (added_range args))
  grown_by_bounds more room =
      good_by_bounds _ (grown_good config areas args area h.valid canonical remappable h.accepted.found more room)

  -- what goes elsewhere
  module _ {start : ℕ} (goes : goes_elsewhere config areas args ≡ true) (found : other_place config areas args ≡ Some start) where
    pub moved_by_bounds : IsGood bounds.limit (carried_area area (page_of args.old) (moved_range args start))
    moved_by_bounds = good_by_bounds _ (moved_good config areas args area start h.valid canonical remappable h.accepted.found
        (elsewhere_moves config areas args area start goes found))

    pub moved_low : start + pages_of args.new_len ≤ 2 ^ 45
    moved_low = omega (
      arith,
      moved_fits config areas args start h.valid remappable (elsewhere_moves config areas args area start goes found),
      (limit_between config h.valid).high,
    )

    pub moved_beside : overlap (old_range args) (moved_range args start) ≡ false
    moved_beside = move_beside config areas area args start (record {
      valid = h.valid;
      canonical = canonical;
      found = h.accepted.found;
      accepted = h.accepted.accepted;
      place = elsewhere_moves config areas args area start goes found;
    })
