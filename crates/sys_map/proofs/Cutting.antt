-- For `plan_munmap`: cuts of sound lists.
use Rattle.std.proofs.Common.{◌≡◌, ◌≤◌, ◌+◌, ◌*◌, ◌∙◌, ℕ, true, false, nat_lt, List, length, refl, ap, sym, subst}
use Rattle.std.proofs.lemmas.Bool.{ltb-false, le-ltb, ne_eqb}
use Rattle.mm_types.specs.declared.area.Span.{Span}
use Rattle.mm_types.specs.declared.area.Record.{Record}
use Rattle.mm_types.specs.declared.call.Counters.{Counters}
use Rattle.mm_types.specs.declared.call.Reply.TheVariants.{Zero}
use Rattle.mm_types.specs.declared.config.Config.{Config}
use Rattle.mm_types.specs.declared.config.TheConstants.{PAGE_SIZE}
use Rattle.area_rules.specs.declared.placement.Bounds.{Bounds}
use Rattle.area_list.specs.Areas.{page_of, IsSound}
use Rattle.area_list.specs.Changes.{cut}
use Rattle.area_rules.specs.Munmap.{range_of, munmap_rows, munmap_unsealed}
use Rattle.area_rules.specs.Tables.{space_of}
use Rattle.area_rules.specs.Tables.{is_aligned, pages_of}
use Rattle.area_list.proofs.Cutting.{cut_canonical}
use Rattle.split_merge.specs.Calls.{IsPrepared, IsPlannedCall}
use Rattle.split_merge.specs.Plans.{PlanView, applied, Makes}
use Rattle.split_merge.proofs.Calling.{done}
use Rattle.split_merge.proofs.Refusing.{range_some}

-- munmap(2) cuts where its tests pass
pub cut_call : {config : Config} {bounds : Bounds} {most : ℕ} {old : PlanView} (addr len : ℕ) (range : Span) (areas : List Record) (new : PlanView) (counters : Counters)
    → IsPrepared config bounds most old → new.room ≡ old.room → IsSound config areas → is_aligned addr ≡ true → (len ≡ 0 → ⊥)
    → addr + PAGE_SIZE * pages_of len ≤ config.limit → range ≡ range_of addr len → Makes new.changes areas (cut range areas)
    → nat_lt config.areas (length (applied new.changes areas)) ≡ false
    → IsPlannedCall bounds most areas (munmap_unsealed config (space_of areas counters) addr len) Zero old new
unfolding munmap_unsealed munmap_rows
cut_call {config} addr len range areas new counters prepared room sound aligned some within is made fits =
    let made_range = subst (λ span. Makes new.changes areas (cut span areas)) is made in
    let short = ap (λ (list : List Record). nat_lt config.areas (length list)) (sym made_range.result) ∙ fits in
    done prepared new room areas (cut (range_of addr len) areas) counters (munmap_unsealed config (space_of areas counters) addr len) Zero
    (rw (aligned, ne_eqb len 0 some, le-ltb config.limit (addr + PAGE_SIZE * pages_of len) within, short) refl) made_range (record {
      canonical = cut_canonical (page_of config.limit) (range_of addr len) areas (range_some addr len (range_of addr len) some refl) sound.canonical;
      few = ltb-false config.areas (length (cut (range_of addr len) areas)) short;
    })
