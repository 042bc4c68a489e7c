-- For `MmState::new` and `MmState::apply`: a call from opening to entry.
use Rattle.std.proofs.Common.{◌≡◌, ◌≤◌, ◌<◌, ◌^◌, ℕ, List, [], ◌∷◌, ◌++◌, length, All, sym, ap, ◌∙◌, subst, arith, length-append}
use Rattle.std.specs.List.{AllByRecursion as Each}
use Rattle.std.proofs.lemmas.List.Elements.{All-nil, All-head, All-tail}
use Rattle.mm_types.specs.declared.area.Record.{Record}
use Rattle.mm_types.specs.declared.call.Counters.{Counters}
use Rattle.mm_types.specs.declared.config.Config.{Config}
use Rattle.mm_types.specs.declared.call.Entry.{Entry}
use Rattle.mm_types.specs.Config.{IsValidConfig, counters_at_opening}
use Rattle.mm_types.specs.Records.{IsValid}
use Rattle.area_list.specs.Areas.{page_of, IsCanonical}
use Rattle.area_list.proofs.Elements.{Pairs}
use Rattle.area_list.proofs.Order.{Before}
use Rattle.area_rules.specs.declared.placement.Bounds.{Bounds}
use Rattle.area_rules.specs.Tables.{space_of}
use Rattle.area_rules.specs.Tables.{AddressSpace}
use Rattle.area_rules.specs.Steps.{step, after, IsReady, IsLegalJournal}
use Rattle.area_rules.proofs.Journals.{after_ready, after-nil, after-push}
use Rattle.lock_core.specs.Facts.{list_after}
use Rattle.split_merge.specs.Plans.{PlanView, applied, IsPlannedFor}
use Rattle.split_merge.specs.Calls.{IsPlannedCall}
use Rattle.split_merge.proofs.Walking.{in_order}
use Rattle.sys_calls.proofs.Keeping.{opened_space}
use Rattle.vma_lock.specs.Seats.{table_config, journal}
use Rattle.area_tree.specs.AreaTrees.{areas_of, AreasRise}
use Rattle.mm_state.specs.declared.store.AreaStore.{AreaStore}
use Rattle.mm_state.specs.Internal.AreaStores.{IsEntered, IsPackable}
use Rattle.mm_state.proofs.Sane.{packable, sane}

-- a canonical list is in order
rise_each : (end start : ℕ) (areas : List Record) → Each IsValid areas → Pairs Before areas → Each (λ area. area.span.hi ≤ end) areas
    → Each (λ area. start ≤ area.span.lo) areas → AreasRise end start areas
rise_each end start [] valid order ends from = tt
rise_each end start (area ∷ areas) valid order ends from =
    (from.0, valid.0.some_pages, ends.0, rise_each end area.span.hi areas valid.1 order.1 ends.1 order.0)

from_zero : (areas : List Record) → Each (λ area. 0 ≤ area.span.lo) areas
from_zero [] = tt
from_zero (area ∷ areas) = (omega arith, from_zero areas)

ends_each : (end : ℕ) (areas : List Record) → All (λ area. area.span.hi ≤ end) areas → Each (λ area. area.span.hi ≤ end) areas
ends_each end [] all = tt
ends_each end (area ∷ areas) all = (All-head (λ (a : Record). a.span.hi ≤ end) area areas all, ends_each end areas (All-tail (λ (a : Record). a.span.hi ≤ end) area areas all))

canonical_rise : (end : ℕ) (areas : List Record) → IsCanonical end areas → AreasRise end 0 areas
canonical_rise end areas c = let o = in_order end areas c in rise_each end 0 areas o.valid o.ordered (ends_each end areas c.below_end) (from_zero areas)

-- a list with no area is kept
pub kept_nil : (bounds : Bounds) (most : ℕ) → IsPlannedFor bounds most []
kept_nil bounds most = record {
  canonical = record { valid = All-nil IsValid; below_end = All-nil (λ (area : Record). area.span.hi ≤ bounds.limit); ordered = tt; apart = tt };
  few = omega arith;
}

-- the state between two calls, and a call that was planned
pub record IsPlanned (store : AreaStore) (config : Config) (entries : List Entry) (counters : Counters) (entry : Entry) (old new : PlanView) : Type 0 where
  pub settings : table_config store.table ≡ config
  pub journal_is : journal store.writer ≡ entries
  pub space : space_of (areas_of store.areas) counters ≡ after config entries
  pub valid : IsValidConfig config
  pub room : length entries < 2 ^ 31
  pub most_is : store.areas.tree.areas ≡ config.areas
  pub limit_is : store.areas.bounds.limit ≡ page_of config.limit
  pub planned : IsPlannedCall store.areas.bounds store.areas.tree.areas (areas_of store.areas) (step config (space_of (areas_of store.areas) counters) entry.call)
      entry.reply old new

pub ready_now : (config : Config) (entries : List Entry) (list : List Record) (counters : Counters) → IsValidConfig config → length entries ≤ 2 ^ 31
    → space_of list counters ≡ after config entries → IsReady config (space_of list counters)
ready_now config entries list counters valid room space = subst (IsReady config) (sym space) (after_ready config entries valid (omega (arith, room)))

-- the space after the entry is the outcome's
pub space_after : (config : Config) (entries : List Entry) (list : List Record) (counters : Counters) (entry : Entry) → space_of list counters ≡ after config entries
    → (step config (space_of list counters) entry.call).space ≡ after config (entries ++ entry ∷ [])
space_after config entries list counters entry space =
    ap (λ (s : AddressSpace). (step config s entry.call).space) space ∙ sym (after-push config entries entry)

pub entered : (store : AreaStore) (config : Config) (entries : List Entry) (counters : Counters) (entry : Entry) (old new : PlanView)
    → IsPlanned store config entries counters entry old new → IsEntered store new.changes entry
entered store config entries counters entry old new p = record {
  reply = p.planned.reply ∙ ap (λ (s : AddressSpace). (step config s entry.call).reply) p.space
      ∙ ap (λ (c : Config). (step c (after c entries) entry.call).reply) (sym p.settings)
      ∙ ap (λ (j : List Entry). (step (table_config store.table) (after (table_config store.table) j) entry.call).reply) (sym p.journal_is);
  plan = p.planned.makes.plan_of;
  result = p.planned.makes.result ∙ ap (λ (s : AddressSpace). s.areas) next
      ∙ ap (λ (c : Config). list_after c (entries ++ entry ∷ [])) (sym p.settings)
      ∙ ap (λ (j : List Entry). list_after (table_config store.table) (j ++ entry ∷ [])) (sym p.journal_is);
  real = p.planned.makes.real;
  sane = sane new.changes (areas_of store.areas) (step config (space_of (areas_of store.areas) counters) entry.call).space.areas before
      (subst (λ (s : AddressSpace). All IsPackable s.areas) (sym next)
      (packable config (after config (entries ++ entry ∷ [])) (after_ready config (entries ++ entry ∷ []) p.valid (omega (arith, length-append entries (entry ∷ []), p.room)))))
      p.planned.makes;
  packable = before;
  few_after = omega (arith, p.planned.kept.few, p.most_is, ap (λ (c : Config). c.areas) p.settings);
  rise_after = subst (λ limit. AreasRise limit 0 (applied new.changes (areas_of store.areas))) (p.limit_is ∙ ap (λ (c : Config). page_of c.limit) (sym p.settings))
      (canonical_rise store.areas.bounds.limit (applied new.changes (areas_of store.areas)) p.planned.kept.canonical);
}
  where
    next : (step config (space_of (areas_of store.areas) counters) entry.call).space ≡ after config (entries ++ entry ∷ [])
    next = space_after config entries (areas_of store.areas) counters entry p.space

    before : All IsPackable (areas_of store.areas)
    before = subst (λ (s : AddressSpace). All IsPackable s.areas) (sym p.space)
        (packable config (after config entries) (after_ready config entries p.valid (omega (arith, p.room))))

-- a journal with no entry is legal
pub legal_nil : (config : Config) → IsLegalJournal config []
legal_nil config = record { replies = λ place entry there. cc }

pub opening_space : (config : Config) (list : List Record) (counters : Counters) (entries : List Entry) → list ≡ [] → counters ≡ counters_at_opening config → entries ≡ []
    → space_of list counters ≡ after config entries
opening_space config list counters entries empty files none = opened_space config list counters empty files
    ∙ sym (ap (after config) none ∙ after-nil config)
