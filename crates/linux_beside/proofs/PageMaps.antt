-- What the pages of a list are mapped to, by look-ups.
use Rattle.std.proofs.Common.{sym, ap, ◌∙◌}
use Rattle.std.specs.Prelude.{ℕ, ◌≡◌, ◌+◌, ◌-◌, Bool, true, false, if◌then◌else◌, nat_eq, List, [], ◌∷◌, Option, Some, option_map, refl}
use Rattle.area_list.specs.Areas.{MappedPage, index_of, mapped_page}
use Rattle.area_list.proofs.Pages.{page_map-nil}
use Rattle.linux_rules.specs.declared.area.Vma.{Vma}
use Rattle.linux_rules.specs.Areas.{vma_lookup}
use Rattle.linux_beside.specs.Forgetting.{forgotten}
use Rattle.linux_beside.proofs.SplitLemmas.{has, maps_to, maps_first}
use Rattle.linux_beside.proofs.LookUps.{IsOneOf, IsPut}

-- a page is mapped to what its area says
abbrev pub said : ℕ → Option Vma → Option MappedPage
said page found = option_map (λ vma. mapped_page page (forgotten vma)) found

pub maps_looked : (areas : List Vma) (page : ℕ) → maps_to areas page ≡ said page (vma_lookup areas page)
maps_looked [] page = page_map-nil page
maps_looked (first ∷ areas) page = maps_first first areas page ∙ case (has first page) (maps_looked areas page)
  where
    case : (here : Bool) → maps_to areas page ≡ said page (vma_lookup areas page)
        → (if here then Some (mapped_page page (forgotten first)) else maps_to areas page) ≡ said page (if here then Some first else vma_lookup areas page)
    case true rest = refl
    case false rest = rest

pub maps_one : (vma : Vma) (areas : List Vma) (page : ℕ) → IsOneOf 0 vma areas → has vma page ≡ true → maps_to areas page ≡ Some (mapped_page page (forgotten vma))
maps_one vma areas page one it = maps_looked areas page ∙ ap (λ (o : Option Vma). said page o) (one.looked page it)

pub maps_same : (areas others : List Vma) (page : ℕ) → vma_lookup areas page ≡ vma_lookup others page → maps_to areas page ≡ maps_to others page
maps_same areas others page same = maps_looked areas page ∙ (ap (λ (o : Option Vma). said page o) same ∙ sym (maps_looked others page))

pub maps_put : (vma : Vma) (before after : List Vma) (page : ℕ) → IsPut vma before after
    → maps_to after page ≡ (if has vma page then Some (mapped_page page (forgotten vma)) else maps_to before page)
maps_put vma before after page put = maps_looked after page ∙ (ap (λ (o : Option Vma). said page o) (put.looked page) ∙ case (has vma page))
  where
    case : (here : Bool) → said page (if here then Some vma else vma_lookup before page) ≡ (if here then Some (mapped_page page (forgotten vma)) else maps_to before page)
    case true = refl
    case false = sym (maps_looked before page)

-- two areas with the same attributes and the same object, which go on from the same page of it, map a page alike
pub maps_alike : (a b : Vma) (page : ℕ) → (forgotten a).attr ≡ (forgotten b).attr → a.file ≡ b.file → a.pgoff + (page - a.lo) ≡ b.pgoff + (page - b.lo)
    → mapped_page page (forgotten a) ≡ mapped_page page (forgotten b)
unfolding mapped_page index_of
maps_alike a b page attr file offset = λ i. record { attr = attr i; object = file i; index = index i }
  where
    at : (plain : Bool) → (if plain then 0 else (if plain then 0 else a.pgoff) + (page - a.lo)) ≡ (if plain then 0 else (if plain then 0 else b.pgoff) + (page - b.lo))
    at true = refl
    at false = offset

    index : (if nat_eq a.file 0 then 0 else (if nat_eq a.file 0 then 0 else a.pgoff) + (page - a.lo))
        ≡ (if nat_eq b.file 0 then 0 else (if nat_eq b.file 0 then 0 else b.pgoff) + (page - b.lo))
    index = at (nat_eq a.file 0) ∙ ap (λ (n : ℕ). if nat_eq n 0 then 0 else (if nat_eq n 0 then 0 else b.pgoff) + (page - b.lo)) file
