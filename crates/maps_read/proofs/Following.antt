-- For the laws: a list that an area may follow stays sound with it, and so is each front of a sound list.
use Rattle.std.proofs.Common.{◌≡◌, ◌↔◌, ◌≤◌, ◌-◌, ℕ, suc, Bool, true, false, not, ◌&&◌, nat_lt, nat_le, List, [], ◌∷◌, ◌++◌, length, Option, Some, None, IfSome, slice_get, refl, sym, ap, ◌∙◌, subst, append_assoc, arith, length-append}
use Rattle.std.specs.Option.{option_map_or}
use Rattle.std.specs.List.{AllByRecursion as Each}
use Rattle.std.proofs.lemmas.Bool.{and_parts, and_from, ltb-true, leb-true, lt-ltb, le-leb}
use Rattle.std.proofs.lemmas.List.Elements.{All-nil, All-cons, All-append}
use Rattle.mm_types.specs.declared.area.Record.{Record}
use Rattle.mm_types.specs.declared.config.TheConstants.{ADDRESS_LIMIT, MOST_AREAS}
use Rattle.mm_types.specs.declared.files.FileRow.{FileRow}
use Rattle.mm_types.specs.Config.{default_config}
use Rattle.mm_types.specs.Packed.{is_valid}
use Rattle.mm_types.specs.Records.{IsValid}
use Rattle.mm_types.proofs.PackedWords.{valid_tests, tests_valid}
use Rattle.area_list.specs.Areas.{page_of, joins, Neighbours, IsSound}
use Rattle.area_list.proofs.Elements.{Pairs, Each-left}
use Rattle.area_list.proofs.Parts.{Apart}
use Rattle.area_list.proofs.Order.{IsGood, Neighbours-from_Pairs, good_from_canonical, pairs_from_canonical, canonical_from_good}
use Rattle.maps_read.specs.RetraceLaws.{AreMappedBehind}
use Rattle.maps_read.specs.Retracing.{may_follow}
use Rattle.maps_read.proofs.OpenFiles.{AreOpenFrom}
use Rattle.maps_read.proofs.Mapped.{IsMapped, step_maps}

-- the last of a list
abbrev last_of : List Record → Option Record
last_of [] = None
last_of (area ∷ []) = Some area
last_of (area ∷ next ∷ areas) = last_of (next ∷ areas)

last_get : (areas : List Record) → slice_get areas (length areas - 1) ≡ last_of areas
last_get [] = refl
last_get (area ∷ []) = refl
last_get (area ∷ next ∷ areas) =
    let place : length (area ∷ next ∷ areas) - 1 ≡ suc (length (next ∷ areas) - 1) = omega arith in
    ap (λ (n : ℕ). slice_get (area ∷ next ∷ areas) n) place ∙ last_get (next ∷ areas)

push_neighbours : (R : Record → Record → Type 0) (areas : List Record) (area : Record) → IfSome (last_of areas) (λ last. R last area)
    → Neighbours R areas → Neighbours R (areas ++ area ∷ [])
push_neighbours R [] area last pairs = (tt, tt)
push_neighbours R (first ∷ []) area last pairs = (last, (tt, tt))
push_neighbours R (first ∷ next ∷ areas) area last pairs = (pairs.0, push_neighbours R (next ∷ areas) area last pairs.1)

-- what the test of the last area says
last_tests : (last : Option Record) (area : Record)
    → option_map_or (λ a. nat_le a.span.hi area.span.lo && not (joins a area)) last true ≡ true
    → IfSome last (λ a. a.span.hi ≤ area.span.lo) × IfSome last (λ a. joins a area ≡ false)
last_tests None area e = (tt, tt)
last_tests (Some a) area e =
    let parts = and_parts (nat_le a.span.hi area.span.lo) (not (joins a area)) e in
    (leb-true a.span.hi area.span.lo parts.0, by_join (joins a area) parts.1)
  where
    by_join : (b : Bool) → not b ≡ true → b ≡ false
    by_join false e = refl
    by_join true e = absurd (cc e)

-- an area that may follow a sound list keeps it sound
pub stays_sound : (files : List FileRow) (areas : List Record) (area : Record) → IsSound (default_config files) areas
    → may_follow areas area ≡ true → IsSound (default_config files) (areas ++ area ∷ [])
unfolding may_follow default_config
stays_sound files areas area sound follows =
    let first = and_parts (is_valid area) _ follows in
    let second = and_parts (nat_le area.span.hi (page_of ADDRESS_LIMIT)) _ first.1 in
    let third = and_parts (nat_lt (length areas) MOST_AREAS) _ second.1 in
    let valid : IsValid area = tests_valid area first.0 in
    let within = leb-true area.span.hi (page_of ADDRESS_LIMIT) second.0 in
    let room = ltb-true (length areas) MOST_AREAS third.0 in
    let one = length-append areas (area ∷ []) in
    let last = last_tests (last_of areas) area (ap (λ o. option_map_or (λ a. nat_le a.span.hi area.span.lo && not (joins a area)) o true) (sym (last_get areas)) ∙ third.1) in
    record {
      canonical = record {
        valid = All-append IsValid areas (area ∷ []) sound.canonical.valid (All-cons IsValid area [] valid (All-nil IsValid));
        below_end = All-append (λ a. a.span.hi ≤ page_of ADDRESS_LIMIT) areas (area ∷ []) sound.canonical.below_end
            (All-cons (λ a. a.span.hi ≤ page_of ADDRESS_LIMIT) area [] within (All-nil (λ a. a.span.hi ≤ page_of ADDRESS_LIMIT)));
        ordered = push_neighbours (λ a b. a.span.hi ≤ b.span.lo) areas area last.0 sound.canonical.ordered;
        apart = push_neighbours (λ a b. joins a b ≡ false) areas area last.1 sound.canonical.apart;
      };
      few = omega arith;
    }

pub none_sound : (files : List FileRow) → IsSound (default_config files) []
unfolding default_config
none_sound files = record {
  canonical = record {
    valid = All-nil IsValid;
    below_end = All-nil (λ a. a.span.hi ≤ page_of ADDRESS_LIMIT);
    ordered = tt;
    apart = tt;
  };
  few = omega arith;
}

-- the files do not matter
pub sound_with : (files others : List FileRow) (areas : List Record) → IsSound (default_config files) areas → IsSound (default_config others) areas
unfolding default_config
sound_with files others areas sound = record { canonical = sound.canonical; few = sound.few }

Pairs-left : (R : Record → Record → Type 0) (xs ys : List Record) → Pairs R (xs ++ ys) → Pairs R xs
Pairs-left R [] ys pairs = tt
Pairs-left R (x ∷ xs) ys pairs = (Each-left (R x) xs ys pairs.0, Pairs-left R xs ys pairs.1)

-- a front of a sound list
sound_front : (files : List FileRow) (xs ys : List Record) → IsSound (default_config files) (xs ++ ys) → IsSound (default_config files) xs
unfolding default_config
sound_front files xs ys sound =
    let good = good_from_canonical (page_of ADDRESS_LIMIT) (xs ++ ys) sound.canonical in
    let pairs = pairs_from_canonical (page_of ADDRESS_LIMIT) (xs ++ ys) sound.canonical in
    let few = sound.few in let both = length-append xs ys in
    record {
      canonical = canonical_from_good (page_of ADDRESS_LIMIT) xs (Each-left (IsGood (page_of ADDRESS_LIMIT)) xs ys good)
          (Neighbours-from_Pairs Apart xs (Pairs-left Apart xs ys pairs));
      few = omega arith;
    }

good_all : (files : List FileRow) (areas : List Record) → IsSound (default_config files) areas → Each (IsGood (page_of ADDRESS_LIMIT)) areas
unfolding default_config
good_all files areas sound = good_from_canonical (page_of ADDRESS_LIMIT) areas sound.canonical

middle : (P : Record → Type 0) (xs : List Record) (y : Record) (ys : List Record) → Each P (xs ++ y ∷ ys) → P y
middle P [] y ys each = each.0
middle P (x ∷ xs) y ys each = middle P xs y ys each.1

unsealed : (files : List FileRow) (areas : List Record) → Each (IsMapped files) areas → Each (λ a. a.attr.sealed ≡ false) areas
unsealed files [] are = tt
unsealed files (area ∷ areas) are = (are.0.unsealed, unsealed files areas are.1)

push_each : (P : Record → Type 0) (xs : List Record) (x : Record) → Each P xs → P x → Each P (xs ++ x ∷ [])
push_each P [] x each p = (p, tt)
push_each P (first ∷ xs) x each p = (each.0, push_each P xs x each.1 p)

-- the areas of a sound list are mapped one behind another
pub mapped_behind : (files : List FileRow) → AreOpenFrom 3 files → (before areas : List Record) → IsSound (default_config files) (before ++ areas)
    → Each (IsMapped files) before → Each (IsMapped files) areas → AreMappedBehind files before areas
mapped_behind files opened before [] sound first rest = tt
mapped_behind files opened before (area ∷ areas) sound first rest =
    let parts : before ++ area ∷ areas ≡ (before ++ area ∷ []) ++ areas = sym (append_assoc before (area ∷ []) areas) in
    let whole : IsSound (default_config files) ((before ++ area ∷ []) ++ areas) = subst (IsSound (default_config files)) parts sound in
    let good = middle (IsGood (page_of ADDRESS_LIMIT)) before area areas (good_all files (before ++ area ∷ areas) sound) in (
      step_maps files opened before area good.valid rest.0 good.below_end (sound_front files (before ++ area ∷ []) areas whole)
          (unsealed files before first),
      mapped_behind files opened (before ++ area ∷ []) areas whole (push_each (IsMapped files) before area first rest.0) rest.1,
    )

-- ---- and only such an area does

pulled_last : (R : Record → Record → Type 0) (areas : List Record) (area : Record) → Neighbours R (areas ++ area ∷ [])
    → IfSome (last_of areas) (λ last. R last area)
pulled_last R [] area pairs = tt
pulled_last R (first ∷ []) area pairs = pairs.0
pulled_last R (first ∷ next ∷ areas) area pairs = pulled_last R (next ∷ areas) area pairs.1

last_passes : (last : Option Record) (area : Record) → IfSome last (λ a. a.span.hi ≤ area.span.lo) → IfSome last (λ a. joins a area ≡ false)
    → option_map_or (λ a. nat_le a.span.hi area.span.lo && not (joins a area)) last true ≡ true
last_passes None area below apart = refl
last_passes (Some a) area below apart = and_from (nat_le a.span.hi area.span.lo) (not (joins a area)) (le-leb a.span.hi area.span.lo below) (ap not apart)

follows : (files : List FileRow) (areas : List Record) (area : Record) → IsSound (default_config files) (areas ++ area ∷ []) → may_follow areas area ≡ true
unfolding may_follow default_config
follows files areas area sound =
    let good : IsGood (page_of ADDRESS_LIMIT) area = middle (IsGood (page_of ADDRESS_LIMIT)) areas area [] (good_from_canonical (page_of ADDRESS_LIMIT) (areas ++ area ∷ []) sound.canonical) in
    let few = sound.few in
    let one = length-append areas (area ∷ []) in
    let below = pulled_last (λ a b. a.span.hi ≤ b.span.lo) areas area sound.canonical.ordered in
    let apart = pulled_last (λ a b. joins a b ≡ false) areas area sound.canonical.apart in
    and_from (is_valid area) _ (valid_tests area good.valid)
    (and_from (nat_le area.span.hi (page_of ADDRESS_LIMIT)) _ (le-leb area.span.hi (page_of ADDRESS_LIMIT) good.below_end)
    (and_from (nat_lt (length areas) MOST_AREAS) _ (lt-ltb (length areas) MOST_AREAS (omega arith))
    (ap (λ o. option_map_or (λ a. nat_le a.span.hi area.span.lo && not (joins a area)) o true) (last_get areas)
    ∙ last_passes (last_of areas) area below apart)))

-- an area may follow a sound list exactly where the list is sound with it
pub may_follow-sound : (files : List FileRow) (areas : List Record) (area : Record) → IsSound (default_config files) areas
    → (may_follow areas area ≡ true) ↔ IsSound (default_config files) (areas ++ area ∷ [])
may_follow-sound files areas area sound = (stays_sound files areas area sound, follows files areas area)
