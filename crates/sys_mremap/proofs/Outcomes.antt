-- For `plan_mremap`: mremap(2) by how far its tests come.
use Rattle.std.proofs.Common.{◌≡◌, ◌*◌, ℕ, Bool, true, false, nat_lt, List, [], length, Option, Some, None, ap, ◌∙◌, sym, subst, arith}
use Rattle.mm_types.specs.declared.area.Record.{Record}
use Rattle.mm_types.specs.declared.call.Counters.{Counters}
use Rattle.mm_types.specs.declared.call.Errno.{Errno}
use Rattle.mm_types.specs.declared.call.Errno.TheVariants.{Enomem}
use Rattle.mm_types.specs.declared.call.Reply.{Reply}
use Rattle.mm_types.specs.declared.call.Reply.TheVariants.{Refused, Addr, Zero, Grown}
use Rattle.mm_types.specs.declared.config.Config.{Config}
use Rattle.mm_types.specs.Config.{IsValidConfig}
use Rattle.area_rules.specs.declared.placement.Bounds.{Bounds}
use Rattle.area_rules.specs.declared.mremap_request.Moved.{Moved}
use Rattle.area_rules.specs.declared.mremap_request.MremapArgs.{MremapArgs}
use Rattle.area_list.specs.Areas.{page_of, IsCanonical, IsSound}
use Rattle.area_rules.specs.Tables.{Outcome}
use Rattle.mm_types.specs.Rows.{first_row}
use Rattle.area_rules.specs.Munmap.{range_of}
use Rattle.area_rules.specs.Mremap.{old_range, mremap_rows, mremap_change, mremap_changed_unsealed, mremap_done, mremap_unsealed}
use Rattle.area_rules.specs.Laws.{moved_range}
use Rattle.area_rules.specs.Tables.{space_of}
use Rattle.area_rules.proofs.MmapTable.{refusal}
use Rattle.area_rules.proofs.RemapLaws.{mremap_both, change_both, moved_canonical, shrunk_canonical, lengthened_canonical}
use Rattle.split_merge.specs.declared.plan.Change.{Change}
use Rattle.split_merge.specs.Plans.{PlanView, applied, Makes, IsLocalToEither}
use Rattle.split_merge.specs.Calls.{IsPrepared, IsPlannedCall}
use Rattle.split_merge.proofs.Calling.{planned, unchanged}
use Rattle.sys_mremap.specs.Internal.Cases.{IsAccepted}

module _ (config : Config) (areas : List Record) (args : MremapArgs) where
  -- the call is refused, whatever the counters are
  abbrev pub IsRefused : Errno → Type 0
  IsRefused errno = (counters : Counters) → mremap_unsealed config (space_of areas counters) args ≡ refusal (space_of areas counters) errno

  -- the call leaves this list and answers this page, whatever the counters are
  abbrev pub IsDone : List Record → ℕ → Type 0
  IsDone after page = (counters : Counters) → mremap_unsealed config (space_of areas counters) args ≡ record { space = space_of after counters; reply = Addr (4096 * page) }

  -- a test of the request refuses
  pub refused_by_test : (errno : Errno) → first_row (mremap_rows config areas args) ≡ Some errno → IsRefused errno
  unfolding mremap_unsealed
  refused_by_test errno refused counters = rw refused

  -- the list that the model leaves is sound
  mremap_sound : (counters : Counters) → IsValidConfig config → IsSound config areas → IsSound config (mremap_unsealed config (space_of areas counters) args).space.areas
  mremap_sound counters valid sound = mremap_both (λ space. IsSound config space.areas) config (space_of areas counters) args sound
      (λ area change found r is few. record {
        canonical = change_both (IsCanonical (page_of config.limit)) config areas area args change
            (λ start moves. moved_canonical config areas args area start valid sound.canonical r found moves)
            (shrunk_canonical (page_of config.limit) areas args sound.canonical)
            (λ more room. lengthened_canonical config areas args area valid sound.canonical r found more room) is;
        few = few;
      })

  module _ {bounds : Bounds} {most : ℕ} {old : PlanView} (asked : MremapArgs) (same : args ≡ asked) (prepared : IsPrepared config bounds most old)
      (sound : IsSound config areas) (new : PlanView) (room : new.room ≡ old.room) where
    -- the refusal is planned
    pub refused_call : (errno : Errno) → IsRefused errno → new.changes ≡ []
        → (counters : Counters) → IsPlannedCall bounds most areas (mremap_unsealed config (space_of areas counters) asked) (Refused errno) old new
    refused_call errno is none counters =
        subst (λ a. IsPlannedCall bounds most areas (mremap_unsealed config (space_of areas counters) a) (Refused errno) old new) same
        (unchanged prepared new room (space_of areas counters) (mremap_unsealed config (space_of areas counters) args) (Refused errno) (is counters) none sound)

    -- and so is the list that the call leaves
    pub done_call : (after : List Record) (page : ℕ) → IsValidConfig config → IsDone after page → Makes new.changes areas after
        → (counters : Counters) → IsPlannedCall bounds most areas (mremap_unsealed config (space_of areas counters) asked) (Addr (4096 * page)) old new
    done_call after page valid is made counters =
        subst (λ a. IsPlannedCall bounds most areas (mremap_unsealed config (space_of areas counters) a) (Addr (4096 * page)) old new) same
        (planned prepared new room areas (mremap_unsealed config (space_of areas counters) args) (Addr (4096 * page))
        (sym (ap (λ (o : Outcome). o.reply) (is counters)))
        (subst (Makes new.changes areas) (sym (ap (λ (o : Outcome). o.space.areas) (is counters))) made) (mremap_sound counters valid sound))

-- the test on the length of a list, by the plan that makes it
pub length_test : (most : ℕ) (plan : List Change) (areas after : List Record) (result test : Bool) → applied plan areas ≡ after
    → result ≡ nat_lt most (length (applied plan areas)) → result ≡ test → nat_lt most (length after) ≡ test
length_test most plan areas after result test made tested outcome = ap (λ items. nat_lt most (length items)) (sym made) ∙ sym tested ∙ outcome

module _ {config : Config} {areas : List Record} {args : MremapArgs} {area : Record} (accepted : IsAccepted config areas args area) where
  -- an accepted call is refused by the tests of its change, or makes that
  by_change : (counters : Counters) (change : Option Moved) → mremap_change config areas area args ≡ change
      → mremap_unsealed config (space_of areas counters) args
      ≡ mremap_changed_unsealed config (space_of areas counters) change
  unfolding mremap_unsealed
  by_change counters change is = rw (accepted.accepted, accepted.found, is)

  pub refused_without_change : mremap_change config areas area args ≡ None → IsRefused config areas args Enomem
  unfolding mremap_changed_unsealed
  refused_without_change none counters = by_change counters None none

  module _ {after : List Record} {page : ℕ} (is : mremap_change config areas area args ≡ Some (record { areas = after; page = page })) where
    pub refused_too_long : nat_lt config.areas (length after) ≡ true → IsRefused config areas args Enomem
    unfolding mremap_changed_unsealed
    refused_too_long long counters = by_change counters (Some (record { areas = after; page = page })) is ∙ rw long

    pub done_change : nat_lt config.areas (length after) ≡ false → IsDone config areas args after page
    unfolding mremap_changed_unsealed mremap_done
    done_change fits counters = by_change counters (Some (record { areas = after; page = page })) is ∙ rw fits

-- a plan that is local to the new range at a page is so to the range from its address on
pub local_from_address : (args asked : MremapArgs) (plan : List Change) (areas : List Record) (page addr : ℕ) → args ≡ asked → Addr (4096 * page) ≡ Addr addr
    → IsLocalToEither (old_range args) (moved_range args page) areas plan → IsLocalToEither (old_range asked) (range_of addr asked.new_len) areas plan
unfolding range_of
local_from_address args asked plan areas page addr same is local =
    subst (λ (a : MremapArgs). IsLocalToEither (old_range a) (moved_range a (page_of addr)) areas plan) same
    (subst (λ first. IsLocalToEither (old_range args) (moved_range args first) areas plan) begins local)
  where
    addr_of : Reply → ℕ
    addr_of (Refused errno) = 0
    addr_of (Addr addr) = addr
    addr_of Zero = 0
    addr_of (Grown area index) = 0

    begins : page ≡ page_of addr
    begins = omega (arith, ap addr_of is)
