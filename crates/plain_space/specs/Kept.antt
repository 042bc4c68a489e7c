-- What the fields of an address space without locks keep.
use Rattle.std.specs.Prelude.{◌≡◌, ◌≤◌, length, All}
use Rattle.mm_types.specs.Config.{IsValidConfig}
use Rattle.area_rules.specs.Growing.{AreGrowersPrivate}
use Rattle.area_rules.specs.Placement.{bounds_of}
use Rattle.area_rules.specs.Tables.{space_of}
use Rattle.split_merge.specs.Plans.{IsPlannedFor, IsFreshPlan}
use Rattle.plain_space.specs.declared.space.PlainSpace.TheInside.{Inside}
use Rattle.plain_space.specs.Plain.{PlainView}

-- the address space that the fields are
abbrev pub plain_of : Inside → PlainView
plain_of fields = record {
  config = fields.config.now;
  space = space_of fields.areas.list fields.counters;
}

-- The configuration is valid. The list goes by its numbers and is kept for them. The files are numbered, and no area has an object
-- above the count. What may grow is private, the break lies at or below the limit, and the plan is fresh.
pub record IsPlain (fields : Inside) : Type 0 where
  pub valid : IsValidConfig fields.config.now
  pub bounds : fields.areas.bounds ≡ bounds_of fields.config.now
  pub most : fields.areas.most ≡ fields.config.now.areas
  pub kept : IsPlannedFor fields.areas.bounds fields.areas.most fields.areas.list
  pub files : length fields.config.now.files ≤ fields.counters.objects
  pub counted : All (λ area. area.object ≤ fields.counters.objects) fields.areas.list
  pub private : AreGrowersPrivate fields.areas.list
  pub bounded : fields.counters.brk ≤ fields.config.now.limit
  pub fresh : IsFreshPlan fields.config.now.areas fields.plan
