-- For `MmState::apply`: the changes of a plan can be written.
use Rattle.std.proofs.Common.{List, [], ◌∷◌, All, sym, subst, arith}
use Rattle.std.specs.List.{Contains, insert}
use Rattle.std.proofs.lemmas.List.Elements.{All-nil, All-cons, All-head, All-tail, All-contains, All-weaker, All-from_recursion}
use Rattle.std.proofs.lemmas.List.Sorted.{All-permutation, IsPermutation-insert, IsPermutation-sym}
use Rattle.mm_types.specs.declared.area.Record.{Record}
use Rattle.mm_types.specs.declared.config.Config.{Config}
use Rattle.area_list.specs.Changes.{insert_area}
use Rattle.area_rules.specs.Tables.{AddressSpace}
use Rattle.area_rules.specs.Steps.{after, IsReady}
use Rattle.split_merge.specs.declared.plan.Change.{Change}
use Rattle.split_merge.specs.declared.plan.Change.TheVariants.{Detach, Alter, Add}
use Rattle.split_merge.specs.Plans.{olds_of, news_of, without, with_all, applied, Makes}
use Rattle.split_merge.proofs.Replacing.{each_contained}
use Rattle.split_merge.specs.Sorted.{begins_below}
use Rattle.split_merge.proofs.Going.{insert_is}
use Rattle.mm_state.specs.Internal.AreaStores.{IsPackable, IsSaneChange}

-- the areas of a list before which a step may be taken can be packed
pub packable : (config : Config) (space : AddressSpace) → IsReady config space → All IsPackable space.areas
packable config space ready k d within = record { valid = ready.sound.canonical.valid k d within; object = omega (arith, ready.counted k d within, ready.room) }

all_news : (P : Record → Type 0) (news areas : List Record) → All P (with_all news areas) → All P areas × All P news
all_news P [] areas all = (all, All-nil P)
all_news P (new ∷ news) areas all =
    let later : All P (insert_area new areas) × All P news = all_news P news (insert_area new areas) all in
    let both : All P (new ∷ areas) = All-permutation P (insert areas (begins_below new.span.lo areas) new) (new ∷ areas)
    (IsPermutation-sym (new ∷ areas) (insert areas (begins_below new.span.lo areas) new) (IsPermutation-insert areas (begins_below new.span.lo areas) new))
    (subst (All P) (sym (insert_is areas new)) later.0) in
    (All-tail P new areas both, All-cons P new news (All-head P new areas both) later.1)

sane_each : (whole : List Record) (changes : List Change) → All IsPackable (olds_of changes) → All IsPackable (news_of changes)
    → All (Contains whole) (olds_of changes) → All (λ new. Contains whole new → ⊥) (news_of changes) → All IsSaneChange changes
sane_each whole [] olds news there apart = All-nil IsSaneChange
sane_each whole (Detach old ∷ changes) olds news there apart = All-cons IsSaneChange (Detach old) changes tt
    (sane_each whole changes (All-tail IsPackable old (olds_of changes) olds) news (All-tail (Contains whole) old (olds_of changes) there) apart)
sane_each whole (Alter old new ∷ changes) olds news there apart = All-cons IsSaneChange (Alter old new) changes (
  All-head IsPackable old (olds_of changes) olds,
  All-head IsPackable new (news_of changes) news,
  λ same. All-head (λ (n : Record). Contains whole n → ⊥) new (news_of changes) apart (subst (Contains whole) same (All-head (Contains whole) old (olds_of changes) there)),
)
    (sane_each whole changes (All-tail IsPackable old (olds_of changes) olds) (All-tail IsPackable new (news_of changes) news)
    (All-tail (Contains whole) old (olds_of changes) there) (All-tail (λ (n : Record). Contains whole n → ⊥) new (news_of changes) apart))
sane_each whole (Add new ∷ changes) olds news there apart = All-cons IsSaneChange (Add new) changes (All-head IsPackable new (news_of changes) news)
    (sane_each whole changes olds (All-tail IsPackable new (news_of changes) news) there (All-tail (λ (n : Record). Contains whole n → ⊥) new (news_of changes) apart))

-- a plan between two lists of areas that can be packed
pub sane : (changes : List Change) (areas list : List Record) → All IsPackable areas → All IsPackable list → Makes changes areas list → All IsSaneChange changes
unfolding applied
sane changes areas list before after makes = sane_each (olds_of changes) changes
    (All-weaker (Contains areas) IsPackable (λ old member. All-contains IsPackable areas old before member) (olds_of changes) makes.plan_of.members)
    (all_news IsPackable (news_of changes) (without (olds_of changes) areas) (subst (All IsPackable) (sym makes.result) after)).1
    (All-from_recursion (Contains (olds_of changes)) (olds_of changes) (each_contained (olds_of changes)))
    makes.real
