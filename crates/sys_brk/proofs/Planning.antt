-- For the plans of brk(2): calls that are planned, where the break stays and where it is moved.
use Rattle.std.proofs.Common.{inl, inr, ◌≡◌, ◌≤◌, ◌<◌, ℕ, Bool, true, false, if◌then◌else◌, List, [], length, refl, ap, sym, subst, ◌∙◌, arith}
use Rattle.std.proofs.lemmas.Bool.{ltb-false}
use Rattle.mm_types.specs.declared.area.Record.{Record}
use Rattle.mm_types.specs.declared.area.Span.{Span}
use Rattle.mm_types.specs.declared.call.Counters.{Counters}
use Rattle.mm_types.specs.declared.call.Reply.{Reply}
use Rattle.mm_types.specs.declared.call.Reply.TheVariants.{Addr, Refused, Zero, Grown}
use Rattle.mm_types.specs.declared.config.Config.{Config}
use Rattle.mm_types.specs.Config.{IsValidConfig}
use Rattle.area_list.specs.Areas.{page_of, IsSound}
use Rattle.area_list.specs.Changes.{cut, put}
use Rattle.area_list.proofs.Cutting.{cut_canonical}
use Rattle.area_list.proofs.Order.{IsGood}
use Rattle.area_list.proofs.Putting.{put_canonical}
use Rattle.area_rules.specs.declared.placement.Bounds.{Bounds}
use Rattle.area_rules.specs.Brk.{brk, break_kept, break_moved, heap_area, pages_between, has_room_above}
use Rattle.area_rules.specs.Placement.{bounds_of}
use Rattle.area_rules.specs.Tables.{AddressSpace, pages_of, space_of, has_too_many_areas}
use Rattle.area_rules.proofs.Limits.{limit_between}
use Rattle.area_rules.proofs.Stepping.{room_above, heap_good}
use Rattle.split_merge.specs.declared.plan.Change.{Change}
use Rattle.split_merge.specs.Calls.{IsPrepared, IsPlannedCall}
use Rattle.split_merge.specs.Plans.{PlanView, applied, Makes, IsLocal}
use Rattle.split_merge.proofs.Calling.{done, unchanged}
use Rattle.split_merge.proofs.Refusing.{nothing_local}

-- the counters with this break
abbrev pub at_break : ℕ → ℕ → Counters
at_break old_break objects = record { objects = objects; brk = old_break }

-- what holds at each count of objects holds at all counters with this break
pub at_each_break : (P : Counters → Type 0) (old_break : ℕ) → ((objects : ℕ) → P (at_break old_break objects))
    → (counters : Counters) → counters.brk ≡ old_break → P counters
at_each_break P old_break each counters at = subst (λ b. P (at_break b counters.objects)) (sym at) (each counters.objects)

module _ {config : Config} {bounds : Bounds} {most : ℕ} {old : PlanView} (prepared : IsPrepared config bounds most old)
    (areas : List Record) (new : PlanView) (room : new.room ≡ old.room) (old_break addr : ℕ) where
  -- a call with this break is planned, whatever the count of objects is
  abbrev IsPlanned : Reply → Type 0
  IsPlanned answer = (counters : Counters) → counters.brk ≡ old_break
      → IsPlannedCall bounds most areas (brk config (space_of areas counters) addr) answer old new

  abbrev space_at : ℕ → AddressSpace
  space_at objects = space_of areas (at_break old_break objects)

  -- the break stays, and the plan is empty
  pub kept_call : IsSound config areas → ((objects : ℕ) → brk config (space_at objects) addr ≡ break_kept (space_at objects))
      → new.changes ≡ [] → IsPlanned (Addr old_break)
  kept_call sound stays none =
      at_each_break (λ counters. IsPlannedCall bounds most areas (brk config (space_of areas counters) addr) (Addr old_break) old new) old_break
      (λ objects. unchanged prepared new room (space_at objects) (brk config (space_at objects) addr) (Addr old_break) (stays objects) none sound)

  -- the break is the address, and the plan makes the list that there is then
  pub moved_call : (after : List Record) → ((objects : ℕ) → brk config (space_at objects) addr ≡ break_moved (space_at objects) addr after)
      → Makes new.changes areas after → IsSound config after → IsPlanned (Addr addr)
  moved_call after moves made sound =
      at_each_break (λ counters. IsPlannedCall bounds most areas (brk config (space_of areas counters) addr) (Addr addr) old new) old_break
      (λ objects. done prepared new room areas after (at_break addr objects) (brk config (space_at objects) addr) (Addr addr) (moves objects) made sound)

  -- the break is settled by the length of the list that the plan makes
  pub settled_call : (plan : List Change) (after : List Record) (answer : Reply) → IsSound config areas → Makes plan areas after
      → answer ≡ Addr (if has_too_many_areas config (applied plan areas) then old_break else addr)
      → new.changes ≡ (if has_too_many_areas config (applied plan areas) then [] else plan)
      → (has_too_many_areas config after ≡ true → (objects : ℕ) → brk config (space_at objects) addr ≡ break_kept (space_at objects))
      → (has_too_many_areas config after ≡ false → (objects : ℕ) → brk config (space_at objects) addr ≡ break_moved (space_at objects) addr after)
      → (has_too_many_areas config after ≡ false → IsSound config after) → IsPlanned answer
  settled_call plan after answer sound made answers changes stays moves kept =
      at (has_too_many_areas config after) refl
      (answers ∙ ap (λ (list : List Record). Addr (if has_too_many_areas config list then old_break else addr)) made.result)
      (changes ∙ ap (λ (list : List Record). if has_too_many_areas config list then [] else plan) made.result)
    where
      at : (long : Bool) → has_too_many_areas config after ≡ long → answer ≡ Addr (if long then old_break else addr)
          → new.changes ≡ (if long then [] else plan) → IsPlanned answer
      at true is replies none = subst (λ (reply : Reply). IsPlanned reply) (sym replies) (kept_call sound (stays is) none)
      at false is replies same = subst (λ (reply : Reply). IsPlanned reply) (sym replies)
          (moved_call after (moves is) (subst (λ (changes : List Change). Makes changes areas after) (sym same) made) (kept is))

-- the address of a reply
abbrev address_of : Reply → ℕ
address_of (Addr addr) = addr
address_of (Refused errno) = 0
address_of Zero = 0
address_of (Grown area index) = 0

-- a break on another page is another reply
pub other_reply : (addr old_break : ℕ) → (pages_of addr ≡ pages_of old_break → ⊥) → Addr addr ≡ Addr old_break → ⊥
other_reply addr old_break other same = other (ap (λ reply. pages_of (address_of reply)) same)

-- where the break stays, the plan is empty
pub settled_kept : (addr old_break : ℕ) (long : Bool) (plan new : List Change) (answer : Reply) → (pages_of addr ≡ pages_of old_break → ⊥)
    → answer ≡ Addr (if long then old_break else addr) → new ≡ (if long then [] else plan) → answer ≡ Addr old_break → new ≡ []
settled_kept addr old_break true plan new answer other replies none same = none
settled_kept addr old_break false plan new answer other replies all same = absurd (other_reply addr old_break other (sym replies ∙ same))

-- and else it is local where the plan is
pub settled_local : (span : Span) (areas : List Record) (long : Bool) (plan new : List Change) → new ≡ (if long then [] else plan)
    → IsLocal span areas plan → IsLocal span areas new
settled_local span areas true plan new none local = nothing_local new span areas none
settled_local span areas false plan new same local = subst (λ (changes : List Change). IsLocal span areas changes) (sym same) local

-- what is local to an area of the heap is so to its pages
pub heap_local : (area : Record) (span : Span) (areas : List Record) (plan : List Change) → area ≡ heap_area span → IsLocal area.span areas plan
    → IsLocal span areas plan
unfolding heap_area
heap_local area span areas plan is local = subst (λ (r : Record). IsLocal r.span areas plan) is local

-- a lower break takes no more pages
pub fewer_pages : (low high : ℕ) → low ≤ high → pages_of low ≤ pages_of high
unfolding pages_of
fewer_pages low high less = omega (arith, less)

module _ (config : Config) (areas : List Record) (sound : IsSound config areas) (old_break addr : ℕ) where
  -- the list without the pages that are given back is sound
  pub lowered_sound : pages_of addr < pages_of old_break → has_too_many_areas config (cut (pages_between addr old_break) areas) ≡ false
      → IsSound config (cut (pages_between addr old_break) areas)
  lowered_sound lower short = record {
    canonical = cut_canonical (page_of config.limit) (pages_between addr old_break) areas lower sound.canonical;
    few = ltb-false config.areas (length (cut (pages_between addr old_break) areas)) short;
  }

  -- the area of the pages that are taken is valid and ends below the limit
  module _ (valid : IsValidConfig config) (higher : pages_of old_break < pages_of addr) (room : has_room_above config (space_of areas (at_break old_break 0)) addr ≡ true) where
    pub raised_good : IsGood (page_of config.limit) (heap_area (pages_between old_break addr))
    raised_good = heap_good (page_of config.limit) (pages_between old_break addr) higher
        (omega (arith, (room_above config (space_of areas (at_break old_break 0)) addr room).within))
        (omega (arith, (limit_between config valid).high))

    pub raised_sound : has_too_many_areas config (put (heap_area (pages_between old_break addr)) areas) ≡ false
        → IsSound config (put (heap_area (pages_between old_break addr)) areas)
    raised_sound short = record {
      canonical = put_canonical (page_of config.limit) (heap_area (pages_between old_break addr)) areas raised_good sound.canonical;
      few = ltb-false config.areas (length (put (heap_area (pages_between old_break addr)) areas)) short;
    }

-- a break at or below the limit lies on its pages
pub break_within : (config : Config) (bounds : Bounds) (old_break : ℕ) → IsValidConfig config → bounds ≡ bounds_of config → old_break ≤ config.limit
    → pages_of old_break ≤ bounds.limit
unfolding pages_of
break_within config bounds old_break valid numbers within = elim valid.limit [
  | inl narrow ↦ omega (arith, narrow, within, ap (λ (b : Bounds). b.limit) numbers)
  | inr wide ↦ omega (arith, wide, within, ap (λ (b : Bounds). b.limit) numbers)
]
