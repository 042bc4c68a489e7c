-- For `remove_olds`, `insert_news` and others: lists in which areas go out and come in one by one.
use Rattle.std.proofs.Common.{◌≡◌, ◌≤◌, ◌<◌, ◌+◌, ◌⊎◌, inl, inr, ℕ, nat_lt, List, [], ◌∷◌, ◌++◌, length, take, drop, get_or, refl, ap, ◌∙◌, sym, arith}
use Rattle.std.specs.Option.{option_to_list}
use Rattle.std.specs.List.{Contains}
use Rattle.std.proofs.lemmas.Bool.{cases_lt, ltb-true}
use Rattle.std.proofs.lemmas.List.Sums.{prefix_len_passes}
use Rattle.std.proofs.lemmas.List.{drop_more, take-append-drop}
use Rattle.mm_types.specs.declared.area.Record.{Record}
use Rattle.split_merge.specs.declared.plan.Change.{Change}
use Rattle.split_merge.specs.declared.plan.Change.TheVariants.{Detach, Alter, Add}
use Rattle.split_merge.specs.Plans.{new_of, olds_of, news_of}
use Rattle.split_merge.proofs.Replacing.{olds_of-append, news_of-append}
use Rattle.split_merge.specs.Sorted.{begins_below}

-- an area of a list has its place within it
pub begins_member : (areas : List Record) (old : Record) → Contains areas old → begins_below old.span.lo areas < length areas
begins_member areas old member = by (cases_lt (begins_below old.span.lo areas) (length areas))
  where
    by : (begins_below old.span.lo areas < length areas) ⊎ (length areas ≤ begins_below old.span.lo areas) → begins_below old.span.lo areas < length areas
    by (inl within) = within
    by (inr past) =
        let passes = prefix_len_passes (λ (area : Record). nat_lt area.span.lo old.span.lo) areas member.0 old (omega (arith, member.1)) in
        let lower = ltb-true (get_or areas member.0 old).span.lo old.span.lo passes in
        omega (arith, lower, ap (λ (area : Record). area.span.lo) member.2)

-- the areas that the changes take away, around the change at a place
pub olds_around : (changes : List Change) (place : ℕ) (d : Change) → place < length changes
    → olds_of changes ≡ olds_of (take place changes) ++ (olds_of (get_or changes place d ∷ []) ++ olds_of (drop (place + 1) changes))
olds_around changes place d within =
    ap olds_of (sym (take-append-drop place changes))
    ∙ olds_of-append (take place changes) (drop place changes)
    ∙ ap (λ rest. olds_of (take place changes) ++ olds_of rest) (drop_more changes place d within)
    ∙ ap (λ rest. olds_of (take place changes) ++ rest) (olds_of-append (get_or changes place d ∷ []) (drop (place + 1) changes))

pub news_single : (change : Change) → news_of (change ∷ []) ≡ option_to_list (new_of change)
news_single (Detach old) = refl
news_single (Alter old new) = refl
news_single (Add new) = refl

-- the changes from a place on
pub olds_from : (changes : List Change) (place : ℕ) (d : Change) → place < length changes
    → olds_of (drop place changes) ≡ olds_of (get_or changes place d ∷ []) ++ olds_of (drop (place + 1) changes)
olds_from changes place d within = ap olds_of (drop_more changes place d within)
    ∙ olds_of-append (get_or changes place d ∷ []) (drop (place + 1) changes)

pub news_from : (changes : List Change) (place : ℕ) (d : Change) → place < length changes
    → news_of (drop place changes) ≡ news_of (get_or changes place d ∷ []) ++ news_of (drop (place + 1) changes)
news_from changes place d within = ap news_of (drop_more changes place d within)
    ∙ news_of-append (get_or changes place d ∷ []) (drop (place + 1) changes)
