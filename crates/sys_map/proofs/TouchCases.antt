-- For `plan_touch`: a touch by the area that would grow.
use Rattle.std.proofs.Common.{◌≡◌, ℕ, true, false, List, [], Some, None, refl, ap, sym, arith}
use Rattle.mm_types.specs.Config.{IsValidConfig}
use Rattle.mm_types.specs.declared.area.Access.{Access}
use Rattle.mm_types.specs.declared.area.Record.{Record}
use Rattle.mm_types.specs.declared.call.Counters.{Counters}
use Rattle.mm_types.specs.declared.call.Errno.TheVariants.{Efault}
use Rattle.mm_types.specs.declared.call.Reply.TheVariants.{Grown, Refused}
use Rattle.mm_types.specs.declared.config.Config.{Config}
use Rattle.area_list.specs.Areas.{IsSound, page_of}
use Rattle.area_rules.specs.Accesses.{permits}
use Rattle.area_rules.specs.declared.placement.Bounds.{Bounds}
use Rattle.area_rules.specs.Growing.{AreGrowersPrivate, grower, grows, grown_to, grown_list, touch}
use Rattle.area_rules.specs.Tables.{space_of}
use Rattle.area_rules.proofs.Cases.{grower_is}
use Rattle.area_rules.proofs.Growing.{grown_canonical, grown_length}
use Rattle.split_merge.specs.Calls.{IsPrepared, IsPlannedCall}
use Rattle.split_merge.specs.Plans.{PlanView, Makes}
use Rattle.split_merge.proofs.Calling.{unchanged, done}

module _ {config : Config} {bounds : Bounds} {most : ℕ} {old : PlanView} (prepared : IsPrepared config bounds most old)
    (new : PlanView) (room : new.room ≡ old.room) (areas : List Record) (sound : IsSound config areas) (page : ℕ) (access : Access) where
  -- no area would grow
  pub no_grower : grower config areas page ≡ None → new.changes ≡ []
      → (counters : Counters) → IsPlannedCall bounds most areas (touch config (space_of areas counters) page access) (Refused Efault) old new
  unfolding touch grows
  no_grower is none counters =
      unchanged prepared new room (space_of areas counters) (touch config (space_of areas counters) page access) (Refused Efault) (rw is refl) none sound

  -- the one that would grow does not allow the access
  pub denied_grower : (area : Record) → grower config areas page ≡ Some area → permits area.attr.prot access ≡ false → new.changes ≡ []
      → (counters : Counters) → IsPlannedCall bounds most areas (touch config (space_of areas counters) page access) (Refused Efault) old new
  unfolding touch grows
  denied_grower area is denied none counters =
      unchanged prepared new room (space_of areas counters) (touch config (space_of areas counters) page access) (Refused Efault) (rw (is, denied) refl) none sound

  -- it grows
  pub grown_call : (area grown : Record) → grown ≡ grown_to page area → IsValidConfig config → AreGrowersPrivate areas → grower config areas page ≡ Some area → permits area.attr.prot access ≡ true
      → Makes new.changes areas (grown_list page areas)
      → (counters : Counters) → IsPlannedCall bounds most areas (touch config (space_of areas counters) page access) (Grown grown 0) old new
  unfolding touch grows
  grown_call area grown grows_to valid private is allowed made counters =
      let grower = grower_is config areas page area is in
      done prepared new room areas (grown_list page areas) counters (touch config (space_of areas counters) page access) (Grown grown 0)
      (rw (is, allowed) (ap (λ (r : Record). record { space = space_of (grown_list page areas) counters; reply = Grown r 0 }) (sym grows_to))) made (record {
        canonical = grown_canonical (page_of config.limit) page areas sound.canonical private (omega (arith, grower.low, valid.min.above_zero)) grower.free;
        few = omega (arith, sound.few, grown_length page areas);
      })
