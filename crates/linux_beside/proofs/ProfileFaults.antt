-- An access by the profile's rules.
use Rattle.std.proofs.Common.{arith, ◌∙◌}
use Rattle.std.proofs.lemmas.Bool.Decides.{nat_tests}
use Rattle.std.specs.Prelude.{ℕ, ◌≡◌, ◌+◌, ◌-◌, Bool, true, false, not, ◌&&◌, ◌||◌, if◌then◌else◌, nat_eq, nat_le, List, [], ◌∷◌, find, slice_get, Option, Some, None, Ok, refl}
use Rattle.std.specs.Option.{option_map_or}
use Rattle.mm_types.specs.declared.area.Access.{Access}
use Rattle.mm_types.specs.declared.area.Record.{Record}
use Rattle.mm_types.specs.declared.area.Verdict.TheVariants.{Served, AccErr, BusErr}
use Rattle.mm_types.specs.declared.config.Config.{Config}
use Rattle.mm_types.specs.declared.files.FileRow.{FileRow}
use Rattle.area_list.specs.Areas.{has_page, index_of, area_at, page_of}
use Rattle.area_rules.specs.Accesses.{permits}
use Rattle.area_rules.specs.Growing.{is_above, grower, grows}
use Rattle.area_rules.specs.Placement.{is_free}
use Rattle.area_rules.specs.Tables.{AddressSpace, pages_of}
use Rattle.area_rules.specs.Verdicts.{area_verdict, is_past_end, verdict}
use Rattle.linux_rules.specs.declared.area.Vma.{Vma}
use Rattle.linux_rules.specs.declared.verdict.LinuxVerdict.TheVariants as linux_verdict
use Rattle.linux_rules.specs.Steps.{Signal}
use Rattle.linux_beside.specs.Forgetting.{forgotten}
use Rattle.linux_beside.specs.Sides.{verdict_answer, accessed}
use Rattle.linux_beside.proofs.FaultLemmas.{by_profile, served, index_is}

-- two pages, one of which an area has, aren't free
not_free : (areas : List Record) (page : ℕ) (area : Record) → area_at areas page ≡ Some area → is_free areas 2 (page - 1) ≡ false
unfolding is_free
not_free [] page area found = absurd (cc)
not_free (first ∷ areas) page area found = at (has_page first.span page) refl (not_free areas page area) found
  where
    rest : Bool
    rest = is_free areas 2 (page - 1)

    at : (test : Bool) → has_page first.span page ≡ test → (area_at areas page ≡ Some area → rest ≡ false)
        → (if test then Some first else area_at areas page) ≡ Some area
        → ((nat_le (page - 1 + 2) first.span.lo || nat_le first.span.hi (page - 1)) && rest) ≡ false
    at true test later is =
        let here : (nat_le (page - 1 + 2) first.span.lo || nat_le first.span.hi (page - 1)) ≡ false = grind (arith, nat_tests) in rw here
    at false test later is = let off = later is in grind (arith)

-- none grows where the two pages aren't free
no_grower : (config : Config) (areas : List Record) (page : ℕ) → is_free areas 2 (page - 1) ≡ false → grower config areas page ≡ None
unfolding grower
no_grower config areas page taken = at (nat_le (page_of config.min) page)
  where
    at : (low : Bool) → (if low && is_free areas 2 (page - 1) then find (is_above page) areas else None) ≡ None
    at true = rw taken
    at false = refl

-- nor where none begins above the page
no_grower_above : (config : Config) (areas : List Record) (page : ℕ) → find (is_above page) areas ≡ None → grower config areas page ≡ None
unfolding grower
no_grower_above config areas page none = at (nat_le (page_of config.min) page && is_free areas 2 (page - 1))
  where
    at : (may : Bool) → (if may then find (is_above page) areas else None) ≡ None
    at true = none
    at false = refl

-- an access that grows nothing has the verdict, and changes nothing
plain_access : (config : Config) (space : AddressSpace) (page : ℕ) (access : Access) → grower config space.areas page ≡ None
    → accessed config space page access ≡ record { space = space; answer = Ok (verdict_answer (verdict config space.areas page access)) }
unfolding grows
plain_access config space page access none = rw none

-- where no area has the page, and none begins above
pub at_hole : (config : Config) (space : AddressSpace) (page : ℕ) (access : Access) → area_at space.areas page ≡ None → find (is_above page) space.areas ≡ None
    → accessed config space page access ≡ record { space = space; answer = Ok (Signal linux_verdict.MapErr) }
unfolding verdict
at_hole config space page access hole none = let still = no_grower_above config space.areas page none in
    let plain = plain_access config space page access still in rw (plain, hole, still)

-- the answer of an area's verdict
parts : (allowed past : Bool) (area : Record) (at : ℕ)
    → verdict_answer (if not allowed then AccErr else (if past then BusErr else Served area at))
    ≡ by_profile allowed past (verdict_answer (Served area at))
parts true true area at = refl
parts true false area at = refl
parts false past area at = refl

same_past : (plain : Bool) (found : Option FileRow) (first more : ℕ)
    → (not plain && option_map_or (λ file. nat_le (pages_of file.size) (if plain then 0 else (if plain then 0 else first) + more)) found false)
    ≡ (not plain && option_map_or (λ file. nat_le (pages_of file.size) (first + more)) found false)
same_past true found first more = refl
same_past false found first more = refl

past_is : (config : Config) (vma : Vma) (page : ℕ) → is_past_end config.files (forgotten vma) page
    ≡ (not (nat_eq vma.file 0) && option_map_or (λ file. nat_le (pages_of file.size) (vma.pgoff + (page - vma.lo))) (slice_get config.files (vma.file - 1)) false)
unfolding is_past_end index_of
past_is config vma page = same_past (nat_eq vma.file 0) (slice_get config.files (vma.file - 1)) vma.pgoff (page - vma.lo)

area_answer : (config : Config) (vma : Vma) (page : ℕ) (access : Access)
    → verdict_answer (area_verdict config.files page access (forgotten vma))
    ≡ by_profile (permits vma.flags.access access)
    (not (nat_eq vma.file 0) && option_map_or (λ file. nat_le (pages_of file.size) (vma.pgoff + (page - vma.lo))) (slice_get config.files (vma.file - 1)) false)
    (served vma page)
unfolding area_verdict
area_answer config vma page access = parts (permits vma.flags.access access) (is_past_end config.files (forgotten vma) page) (forgotten vma) (index_of (forgotten vma) page)
    ∙ (let past = past_is config vma page in let same = index_is vma page in rw (past, same))

-- where an area has the page
pub at_area : (config : Config) (space : AddressSpace) (vma : Vma) (page : ℕ) (access : Access) → area_at space.areas page ≡ Some (forgotten vma)
    → accessed config space page access ≡ record {
      space = space;
      answer = Ok (by_profile (permits vma.flags.access access)
          (not (nat_eq vma.file 0) && option_map_or (λ file. nat_le (pages_of file.size) (vma.pgoff + (page - vma.lo))) (slice_get config.files (vma.file - 1)) false)
          (served vma page));
    }
unfolding verdict
at_area config space vma page access found =
    let taken = not_free space.areas page (forgotten vma) found in
    let plain = plain_access config space page access (no_grower config space.areas page taken) in
    let answer = area_answer config vma page access in rw (plain, found, answer)
