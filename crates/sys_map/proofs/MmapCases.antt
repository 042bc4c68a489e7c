-- For `plan_mmap`: mmap(2) by how far its tests come.
use Rattle.std.proofs.Common.{◌≡◌, ◌≤◌, ◌+◌, ◌*◌, ◌^◌, ℕ, Bool, nat_lt, List, [], length, Some, None, ap, ◌∙◌, sym, subst, arith}
use Rattle.std.proofs.lemmas.Bool.{eqb-false}
use Rattle.mm_types.specs.declared.area.Record.{Record}
use Rattle.mm_types.specs.declared.call.Errno.{Errno}
use Rattle.mm_types.specs.declared.call.MmapArgs.{MmapArgs}
use Rattle.mm_types.specs.declared.call.Reply.{Reply}
use Rattle.mm_types.specs.declared.call.Reply.TheVariants.{Refused, Addr, Zero, Grown}
use Rattle.mm_types.specs.declared.config.Config.{Config}
use Rattle.mm_types.specs.Config.{IsValidConfig}
use Rattle.area_list.specs.Areas.{page_of}
use Rattle.area_list.specs.Changes.{put}
use Rattle.area_rules.specs.Mmap.{mmap_unsealed, mmap_rows, mmap_done, start_of, mapped_list, new_area, objects_after}
use Rattle.area_rules.specs.Tables.{AddressSpace, Outcome, counters_of, has_too_many_areas}
use Rattle.mm_types.specs.declared.call.Counters.{Counters}
use Rattle.mm_types.specs.Rows.{first_row}
use Rattle.area_rules.proofs.MmapTable.{refusal}
use Rattle.area_rules.proofs.NewArea.{IsAccepted, accepted_from_rows, start_fits, new_area_good}
use Rattle.area_list.proofs.Order.{IsGood}
use Rattle.mm_types.specs.declared.call.Call.TheVariants.{Mmap}
use Rattle.area_rules.specs.declared.placement.Bounds.{Bounds}
use Rattle.area_rules.specs.Steps.{step_unsealed, IsReady}
use Rattle.area_rules.proofs.Stepping.{unsealed_sound}
use Rattle.area_rules.proofs.Limits.{limit_between}
use Rattle.area_rules.proofs.Rows.{rows_false}
use Rattle.split_merge.specs.declared.plan.Change.{Change}
use Rattle.split_merge.specs.Plans.{PlanView, Makes, IsLocal}
use Rattle.split_merge.specs.Calls.{IsPrepared, IsPlannedCall}
use Rattle.area_rules.specs.Munmap.{range_of}
use Rattle.area_rules.specs.Tables.{pages_of}
use Rattle.split_merge.proofs.Calling.{planned, unchanged}

-- a refusal by its reply
abbrev refused_with : AddressSpace → Reply → Outcome
refused_with space reply = record { space = space; reply = reply }

module _ {config : Config} {space : AddressSpace} {bounds : Bounds} {most : ℕ} {old : PlanView} (args : MmapArgs)
    (ready : IsReady config space) (prepared : IsPrepared config bounds most old) (new : PlanView) (room : new.room ≡ old.room) where
  -- a call that is refused
  pub refused_call : (errno : Errno) (reply : Reply) → reply ≡ Refused errno → mmap_unsealed config space args ≡ refusal space errno → new.changes ≡ []
      → IsPlannedCall bounds most space.areas (mmap_unsealed config space args) reply old new
  refused_call errno reply answered is none =
      unchanged prepared new room space (mmap_unsealed config space args) reply (is ∙ ap (refused_with space) (sym answered)) none ready.sound

  -- a call that goes through
  pub done_call : (start : ℕ) (area : Record) → mmap_unsealed config space args ≡ mmap_done config space args start
      → area ≡ new_area config space.objects args start → Makes new.changes space.areas (put area space.areas)
      → IsPlannedCall bounds most space.areas (mmap_unsealed config space args) (Addr (4096 * start)) old new
  unfolding mmap_done mapped_list
  done_call start area is newest made =
      planned prepared new room space.areas (mmap_unsealed config space args) (Addr (4096 * start)) (sym (ap (λ (o : Outcome). o.reply) is))
      (subst (Makes new.changes space.areas) (ap (λ area. put area space.areas) newest ∙ sym (ap (λ (o : Outcome). o.space.areas) is)) made)
      (unfold step_unsealed in unsealed_sound config space (Mmap args) ready)

module _ (config : Config) (space : AddressSpace) (args : MmapArgs) where
  -- the counters after it
  pub refused_counters : (errno : Errno) (counters : Counters) → counters ≡ counters_of space → mmap_unsealed config space args ≡ refusal space errno
      → counters ≡ counters_of (mmap_unsealed config space args).space
  refused_counters errno counters same is = same ∙ sym (ap (λ (o : Outcome). counters_of o.space) is)

  pub done_counters : (start objects : ℕ) → objects ≡ objects_after space.objects args → mmap_unsealed config space args ≡ mmap_done config space args start
      → record { objects = objects; brk = space.brk } ≡ counters_of (mmap_unsealed config space args).space
  unfolding mmap_done
  done_counters start objects counted is = ap (λ n. record { objects = n; brk = space.brk }) counted ∙ sym (ap (λ (o : Outcome). counters_of o.space) is)

  -- the test on the length of the list
  pub too_many : (start : ℕ) (new : Record) (list : List Record) (result test : Bool) → new ≡ new_area config space.objects args start
      → list ≡ put new space.areas → result ≡ nat_lt config.areas (length list) → result ≡ test
      → has_too_many_areas config (mapped_list config space args start) ≡ test
  unfolding mapped_list
  too_many start new list result test newest is tested outcome =
      ap (λ areas. nat_lt config.areas (length areas)) (sym (is ∙ ap (λ area. put area space.areas) newest)) ∙ sym tested ∙ outcome

-- where the tests of the request pass and there is a place, the new area is valid and lies below the limit
pub accepted_area : (config : Config) (areas : List Record) (objects : ℕ) (args : MmapArgs) (start : ℕ) → IsValidConfig config
    → first_row (mmap_rows config areas args) ≡ None → start_of config areas args ≡ Some start
    → IsGood (page_of config.limit) (new_area config objects args start)
accepted_area config areas objects args start valid passes found =
    new_area_good config areas objects args start valid (accepted_from_rows config areas args (rows_false (mmap_rows config areas args) passes)) found

pub accepted_low : (config : Config) (areas : List Record) (args : MmapArgs) (start : ℕ) → IsValidConfig config
    → first_row (mmap_rows config areas args) ≡ None → start_of config areas args ≡ Some start → start ≤ 2 ^ 45
accepted_low config areas args start valid passes found =
    omega (arith, start_fits config areas args start valid (accepted_from_rows config areas args (rows_false (mmap_rows config areas args) passes)) found, (limit_between config valid).high)

-- and the length is not empty
pub accepted_some : (config : Config) (areas : List Record) (args : MmapArgs) → first_row (mmap_rows config areas args) ≡ None → 1 ≤ args.len
accepted_some config areas args passes = let accepted : IsAccepted config args = accepted_from_rows config areas args (rows_false (mmap_rows config areas args) passes) in
    some args.len (eqb-false args.len 0 accepted.some_bytes)
  where
    some : (n : ℕ) → (n ≡ 0 → ⊥) → 1 ≤ n
    some n h = omega arith

-- a plan that is local to the new area is local to the pages from its address on
pub done_local : (config : Config) (objects : ℕ) (args : MmapArgs) (start addr : ℕ) (new : Record) (plan : List Change) (areas : List Record)
    → new ≡ new_area config objects args start → Addr (4096 * start) ≡ Addr addr → IsLocal new.span areas plan
    → IsLocal (range_of addr args.len) areas plan
unfolding new_area range_of
done_local config objects args start addr new plan areas newest is local =
    subst (λ span. IsLocal span areas plan) (ap (λ (area : Record). area.span) newest ∙ ap (λ page. record { lo = page; hi = page + pages_of args.len }) begins) local
  where
    addr_of : Reply → ℕ
    addr_of (Refused errno) = 0
    addr_of (Addr addr) = addr
    addr_of Zero = 0
    addr_of (Grown area index) = 0

    begins : start ≡ page_of addr
    begins = omega (arith, ap addr_of is)
