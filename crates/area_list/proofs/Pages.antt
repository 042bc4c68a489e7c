-- For all laws of lists: page maps of lists.
use Rattle.std.proofs.Common.{◌≡◌, ◌≤◌, ◌+◌, ◌-◌, ℕ, Bool, true, false, ◌&&◌, if◌then◌else◌, nat_eq, nat_le, nat_lt, List, [], ◌∷◌, ◌++◌, Option, Some, None, option_map, refl, ap, ◌∙◌, sym, arith}
use Rattle.std.specs.Option.{option_or}
use Rattle.std.proofs.lemmas.Bool.Decides.{nat_tests}
use Rattle.mm_types.specs.declared.area.Record.{Record}
use Rattle.area_list.specs.Areas.{MappedPage, mapped_page, has_page, index_of, page_map, area_at}
use Rattle.area_list.specs.Changes.{piece}
use Rattle.area_list.proofs.Parts.{part}

pub option_map-cond : {A B : Type 0} (f : A → B) (b : Bool) (x y : Option A)
    → option_map f (if b then x else y) ≡ (if b then option_map f x else option_map f y)
option_map-cond f true x y = refl
option_map-cond f false x y = refl

option_or-cond : {A : Type 0} (b : Bool) (x : A) (y z : Option A)
    → option_or (if b then Some x else y) z ≡ (if b then Some x else option_or y z)
option_or-cond true x y z = refl
option_or-cond false x y z = refl

-- whether a page lies from lo on and before hi
abbrev pub lies : ℕ → ℕ → ℕ → Bool
lies lo hi page = nat_le lo page && nat_lt page hi

pub page_map-nil : (page : ℕ) → page_map [] page ≡ None
unfolding page_map
page_map-nil page = refl

pub page_map-cons : (area : Record) (areas : List Record) (page : ℕ)
    → page_map (area ∷ areas) page
    ≡ (if has_page area.span page then Some (mapped_page page area) else page_map areas page)
unfolding page_map
page_map-cons area areas page =
    option_map-cond (mapped_page page) (has_page area.span page) (Some area) (area_at areas page)

pub page_map-append : (xs ys : List Record) (page : ℕ)
    → page_map (xs ++ ys) page ≡ option_or (page_map xs page) (page_map ys page)
page_map-append [] ys page = ap (λ o. option_or o (page_map ys page)) (sym (page_map-nil page))
page_map-append (x ∷ xs) ys page =
    page_map-cons x (xs ++ ys) page
    ∙ ap (λ o. if has_page x.span page then Some (mapped_page page x) else o) (page_map-append xs ys page)
    ∙ sym (option_or-cond (has_page x.span page) (mapped_page page x) (page_map xs page) (page_map ys page))
    ∙ ap (λ o. option_or o (page_map ys page)) (sym (page_map-cons x xs page))

part_index : (object offset from lo page : ℕ) → from ≤ lo → lo ≤ page
    → (if nat_eq object 0 then 0 else (if nat_eq object 0 then 0 else offset + (lo - from)) + (page - lo))
    ≡ (if nat_eq object 0 then 0 else offset + (page - from))
part_index object offset from lo page low here = grind (arith, nat_tests)

-- a part maps what the area maps
pub mapped_page-part : (area : Record) (lo hi page : ℕ) → area.span.lo ≤ lo → lo ≤ page
    → mapped_page page (part area lo hi) ≡ mapped_page page area
unfolding mapped_page index_of
mapped_page-part area lo hi page low here =
    λ i. record {
      attr = area.attr;
      object = area.object;
      index = part_index area.object area.offset area.span.lo lo page low here i;
    }

piece_tests : (lo hi page : ℕ) (c d : MappedPage) → (lo ≤ page → c ≡ d)
    → (if nat_lt lo hi then (if lies lo hi page then Some c else None) else None)
    ≡ (if lies lo hi page then Some d else None)
piece_tests lo hi page c d same = grind (arith, nat_tests)

pub page_map-cond : (b : Bool) (xs ys : List Record) (page : ℕ)
    → page_map (if b then xs else ys) page ≡ (if b then page_map xs page else page_map ys page)
page_map-cond true xs ys page = refl
page_map-cond false xs ys page = refl

pub page_map-single : (area : Record) (page : ℕ)
    → page_map (area ∷ []) page ≡ (if has_page area.span page then Some (mapped_page page area) else None)
page_map-single area page = page_map-cons area [] page
    ∙ ap (λ o. if has_page area.span page then Some (mapped_page page area) else o) (page_map-nil page)

-- a piece maps its pages as the area does
pub page_map-piece : (area : Record) (lo hi page : ℕ) → area.span.lo ≤ lo
    → page_map (piece area lo hi) page ≡ (if lies lo hi page then Some (mapped_page page area) else None)
unfolding piece
page_map-piece area lo hi page low =
    page_map-cond (nat_lt lo hi) (part area lo hi ∷ []) [] page
    ∙ ap (λ o. if nat_lt lo hi then o else page_map [] page) (page_map-single (part area lo hi) page)
    ∙ ap (λ o. if nat_lt lo hi then (if lies lo hi page then Some (mapped_page page (part area lo hi)) else None) else o)
    (page_map-nil page)
    ∙ piece_tests lo hi page (mapped_page page (part area lo hi)) (mapped_page page area)
    (λ here. mapped_page-part area lo hi page low here)
