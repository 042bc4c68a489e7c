-- For the conditions of `cut`, `put` and `changed_list`: changes of a list keep its numbers small.
use Rattle.std.proofs.Common.{◌≡◌, ◌≢◌, ℕ, ◌+◌, ◌-◌, ◌^◌, ◌<◌, ◌≤◌, min, max, Bool, true, false, cond, nat_eq, nat_lt, List, [], ◌∷◌, Some, All, inl, inr, refl, arith}
use Rattle.std.specs.List.{find}
use Rattle.std.proofs.lemmas.Bool.{cases_eq}
use Rattle.std.proofs.lemmas.Bool.Decides.{nat_tests}
use Rattle.std.proofs.lemmas.List.Elements.{All-nil, All-cons, All-head, All-tail, All-append, All-weaker}
use Rattle.mm_types.specs.declared.area.Span.{Span}
use Rattle.mm_types.specs.declared.area.Record.{Record}
use Rattle.mm_types.specs.Records.{IsValid}
use Rattle.area_list.specs.Areas.{index_of, joins}
use Rattle.area_list.specs.Changes.{IsSmall, piece, parts_outside, cut, joined_area, merge_from, merge, insert_area, put}
use Rattle.area_list.proofs.Finding.{find_keeps}

pub small_valid : (area : Record) → IsValid area → IsSmall area
small_valid area valid = record {
  end = omega (arith, valid.below_end);
  offset = elim (cases_eq area.object 0) [ inl none ↦ omega (arith, (valid.anonymous none).0) | inr some ↦ omega (arith, valid.backed some) ];
}

pub all_small : (areas : List Record) → All IsValid areas → All IsSmall areas
all_small areas valid = All-weaker IsValid IsSmall small_valid areas valid

small_one : (area : Record) → IsSmall area → All IsSmall (area ∷ [])
small_one area small = All-cons IsSmall area [] small (All-nil IsSmall)

-- the index of a page of the area, by whether it maps an object
small_index : (object offset lo hi page : ℕ) → (object ≢ 0 → offset + (hi - lo) ≤ 2 ^ 51 - 1) → page ≤ hi → cond (nat_eq object 0) 0 (offset + (page - lo)) ≤ 2 ^ 60
small_index object offset lo hi page backed within = elim (cases_eq object 0) [
  | inl none ↦ grind (arith, nat_tests)
  | inr some ↦ let room : offset + (hi - lo) ≤ 2 ^ 51 - 1 = backed some in grind (arith, nat_tests)
]

small_if : (area : Record) (lo hi : ℕ) (test : Bool) (part : Record) → nat_lt lo hi ≡ test → (lo < hi → IsSmall part) → All IsSmall (cond test (part ∷ []) [])
small_if area lo hi true part has small = small_one part (small (grind (arith, nat_tests)))
small_if area lo hi false part has small = All-nil IsSmall

small_piece : (area : Record) (lo hi : ℕ) → IsValid area → hi ≤ area.span.hi → All IsSmall (piece area lo hi)
unfolding piece index_of
small_piece area lo hi valid within = small_if area lo hi (nat_lt lo hi) _ refl (λ some. record {
  end = omega (arith, valid.below_end);
  offset = small_index area.object area.offset area.span.lo area.span.hi lo valid.backed (omega arith);
})

small_parts : (span : Span) (area : Record) → IsValid area → All IsSmall (parts_outside span area)
unfolding parts_outside
small_parts span area valid = All-append IsSmall _ _
    (small_piece area area.span.lo (min area.span.hi span.lo) valid (omega arith))
    (small_piece area (max area.span.lo span.hi) area.span.hi valid (omega arith))

small_cut : (span : Span) (areas : List Record) → All IsValid areas → All IsSmall (cut span areas)
small_cut span [] valid = All-nil IsSmall
small_cut span (area ∷ areas) valid = All-append IsSmall (parts_outside span area) (cut span areas)
    (small_parts span area (All-head IsValid area areas valid)) (small_cut span areas (All-tail IsValid area areas valid))

small_insert_if : (test : Bool) (area first : Record) (areas inserted : List Record) → IsSmall area → IsSmall first → All IsSmall areas → All IsSmall inserted
    → All IsSmall (cond test (first ∷ inserted) (area ∷ first ∷ areas))
small_insert_if true area first areas inserted small head rest more = All-cons IsSmall first inserted head more
small_insert_if false area first areas inserted small head rest more = All-cons IsSmall area (first ∷ areas) small (All-cons IsSmall first areas head rest)

small_insert : (area : Record) (areas : List Record) → IsSmall area → All IsSmall areas → All IsSmall (insert_area area areas)
small_insert area [] small each = small_one area small
small_insert area (first ∷ areas) small each =
    let head = All-head IsSmall first areas each in let rest = All-tail IsSmall first areas each in
    small_insert_if (nat_lt first.span.lo area.span.lo) area first areas (insert_area area areas) small head rest (small_insert area areas small rest)

small_merge_if : (test : Bool) (first : Record) (one two : List Record) → All IsSmall one → IsSmall first → All IsSmall two → All IsSmall (cond test one (first ∷ two))
small_merge_if true first one two joined_area head apart = joined_area
small_merge_if false first one two joined_area head apart = All-cons IsSmall first two head apart

small_merge_from : (first : Record) (areas : List Record) → IsSmall first → All IsSmall areas → All IsSmall (merge_from first areas)
small_merge_from first [] small each = small_one first small
small_merge_from first (next ∷ areas) small each =
    let head = All-head IsSmall next areas each in let rest = All-tail IsSmall next areas each in
    small_merge_if (joins first next) first (merge_from (joined_area first next) areas) (merge_from next areas)
    (small_merge_from (joined_area first next) areas (record { end = head.end; offset = small.offset }) rest) small (small_merge_from next areas head rest)

small_merge : (areas : List Record) → All IsSmall areas → All IsSmall (merge areas)
small_merge [] each = each
small_merge (first ∷ areas) each = small_merge_from first areas (All-head IsSmall first areas each) (All-tail IsSmall first areas each)

-- a put of a small area into a list of valid ones
pub small_put : (area : Record) (areas : List Record) → IsSmall area → All IsValid areas → All IsSmall (put area areas)
small_put area areas small valid = small_merge _ (small_insert area (cut area.span areas) small (small_cut area.span areas valid))

-- an area that is found is valid, and small
pub valid_found : (passes : Record → Bool) (areas : List Record) (area : Record) → All IsValid areas → find passes areas ≡ Some area → IsValid area
valid_found passes areas area valid found = find_keeps IsValid passes areas area valid found

pub small_found : (passes : Record → Bool) (areas : List Record) (area : Record) → All IsValid areas → find passes areas ≡ Some area → IsSmall area
small_found passes areas area valid found = small_valid area (valid_found passes areas area valid found)

pub index_below : (object offset lo page : ℕ) → offset ≤ 2 ^ 52 → page ≤ 2 ^ 54 → cond (nat_eq object 0) 0 (offset + (page - lo)) ≤ 2 ^ 60
index_below object offset lo page low within = elim (cases_eq object 0) [ inl none ↦ grind (arith, nat_tests) | inr some ↦ grind (arith, nat_tests) ]

pub offset_below : (area : Record) → IsValid area → area.offset ≤ 2 ^ 52
offset_below area valid = elim (cases_eq area.object 0) [ inl none ↦ omega (arith, (valid.anonymous none).0) | inr some ↦ omega (arith, valid.backed some) ]
