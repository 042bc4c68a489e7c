-- For `AreaChunks::apply`: lists without a sealed area.
use Rattle.std.proofs.Common.{◌≡◌, false, not, nat_lt, List, [], ◌∷◌, All}
use Rattle.std.specs.List.{filter, AllByRecursion as Each}
use Rattle.std.proofs.lemmas.Bool.{cond_both, or_parts}
use Rattle.std.proofs.lemmas.List.Elements.{All-from_recursion, recursion_from_All}
use Rattle.mm_types.specs.declared.area.Record.{Record}
use Rattle.area_list.specs.Changes.{insert_area}
use Rattle.split_merge.specs.declared.plan.Change.{Change}
use Rattle.split_merge.specs.declared.plan.Change.TheVariants.{Detach, Alter, Add}
use Rattle.split_merge.specs.Plans.{olds_of, news_of, starts_alike, without, with_all, applied}
use Rattle.split_merge.proofs.Lists.{Each-filter}
use Rattle.plain_space.specs.Stored.{brings_sealed}

abbrev pub IsUnsealed : Record → Type 0
IsUnsealed area = area.attr.sealed ≡ false

-- changes of which none brings a sealed area bring unsealed ones
pub unsealed_news : (changes : List Change) → brings_sealed changes ≡ false → Each IsUnsealed (news_of changes)
unsealed_news [] none = tt
unsealed_news (Detach old ∷ changes) none = unsealed_news changes none
unsealed_news (Alter old new ∷ changes) none = let parts = or_parts new.attr.sealed (brings_sealed changes) none in (parts.0, unsealed_news changes parts.1)
unsealed_news (Add new ∷ changes) none = let parts = or_parts new.attr.sealed (brings_sealed changes) none in (parts.0, unsealed_news changes parts.1)

each_without : (P : Record → Type 0) (olds areas : List Record) → Each P areas → Each P (without olds areas)
each_without P [] areas each = each
each_without P (old ∷ olds) areas each = each_without P olds (filter (λ area. not (starts_alike area old)) areas) (Each-filter P (λ area. not (starts_alike area old)) areas each)

each_insert : (P : Record → Type 0) (new : Record) (areas : List Record) → P new → Each P areas → Each P (insert_area new areas)
each_insert P new [] here each = (here, tt)
each_insert P new (first ∷ areas) here each =
    cond_both (nat_lt first.span.lo new.span.lo) (first ∷ insert_area new areas) (new ∷ (first ∷ areas)) (Each P)
    (λ later. (each.0, each_insert P new areas here each.1)) (λ before. (here, each))

each_with_all : (P : Record → Type 0) (news areas : List Record) → Each P news → Each P areas → Each P (with_all news areas)
each_with_all P [] areas come each = each
each_with_all P (new ∷ news) areas come each = each_with_all P news (insert_area new areas) come.1 (each_insert P new areas come.0 each)

-- a plan that brings no sealed area leaves none, where there is none
pub unsealed_applied : (plan : List Change) (areas : List Record) → All IsUnsealed areas → brings_sealed plan ≡ false → All IsUnsealed (applied plan areas)
unfolding applied
unsealed_applied plan areas none come = All-from_recursion IsUnsealed (with_all (news_of plan) (without (olds_of plan) areas))
    (each_with_all IsUnsealed (news_of plan) (without (olds_of plan) areas) (unsealed_news plan come)
    (each_without IsUnsealed (olds_of plan) areas (recursion_from_All IsUnsealed areas none)))
