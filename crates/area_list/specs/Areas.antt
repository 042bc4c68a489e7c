-- Lists of areas: which are sound, and what they say of each page.
use mathlib.Core.Bool.{beq as same}
use Rattle.std.specs.Prelude.{ℕ, ◌≡◌, ◌≤◌, ◌+◌, ◌-◌, ◌/◌, Bool, false, ◌&&◌, ◌||◌, if◌then◌else◌, nat_eq, nat_lt, nat_le, List, [], ◌∷◌, length, All, find, option_map, Option}
use Rattle.mm_types.specs.declared.area.Span.{Span}
use Rattle.mm_types.specs.declared.area.Prot.{Prot}
use Rattle.mm_types.specs.declared.area.Attr.{Attr}
use Rattle.mm_types.specs.declared.area.Record.{Record}
use Rattle.mm_types.specs.declared.config.Config.{Config}
use Rattle.mm_types.specs.declared.config.TheConstants.{PAGE_SIZE}
use Rattle.mm_types.specs.Records.{IsValid}

-- the page that an address lies in
abbrev pub page_of : ℕ → ℕ
page_of address = address / PAGE_SIZE

-- whether a page lies in a span
abbrev pub has_page : Span → ℕ → Bool
has_page span page = nat_le span.lo page && nat_lt page span.hi

-- whether two spans, each with a page, share one
abbrev pub overlap : Span → Span → Bool
overlap a b = nat_lt a.lo b.hi && nat_lt b.lo a.hi

-- the page of its object that an area maps at this page; 0 for private anonymous memory
unfoldable pub index_of : Record → ℕ → ℕ
index_of area page = if nat_eq area.object 0 then 0 else area.offset + (page - area.span.lo)

-- whether two protections are the same
abbrev pub same_prot : Prot → Prot → Bool
same_prot a b = same a.read b.read && (same a.write b.write && same a.exec b.exec)

-- whether two areas have the same attributes
abbrev pub same_attr : Attr → Attr → Bool
same_attr a b = same_prot a.prot b.prot && (same_prot a.most b.most && (same a.shared b.shared && (same a.grows b.grows && (same a.sealed b.sealed && same a.heap b.heap))))

-- Two neighbours join where they touch, agree in their attributes and their object, and, for an object, the second
-- goes on where the first ends.
unfoldable pub joins : Record → Record → Bool
joins a b = nat_eq a.span.hi b.span.lo && (same_attr a.attr b.attr && (nat_eq a.object b.object
    && (nat_eq a.object 0 || nat_eq b.offset (a.offset + (a.span.hi - a.span.lo)))))

-- P holds of the first element, if there is one
abbrev pub OfFirst : {A : Type 0} → (A → Type 0) → List A → Type 0
OfFirst P [] = Unit {0}
OfFirst P (a ∷ rest) = P a

-- R holds of each element and the next
abbrev pub Neighbours : {A : Type 0} → (A → A → Type 0) → List A → Type 0
Neighbours R [] = Unit {0}
Neighbours R (a ∷ rest) = OfFirst (R a) rest × Neighbours R rest

-- A list is canonical where its records are valid and end at or below this page, lie in ascending order without
-- overlap, and no two neighbours join: there is at most one such list for each map of pages.
pub record IsCanonical (end : ℕ) (areas : List Record) : Type 0 where
  pub valid : All IsValid areas
  pub below_end : All (λ area. area.span.hi ≤ end) areas
  pub ordered : Neighbours (λ a b. a.span.hi ≤ b.span.lo) areas
  pub apart : Neighbours (λ a b. joins a b ≡ false) areas

-- a list is sound for a configuration where it is canonical up to its limit, and not longer than allowed
pub record IsSound (config : Config) (areas : List Record) : Type 0 where
  pub canonical : IsCanonical (page_of config.limit) areas
  pub few : length areas ≤ config.areas

-- the area that has this page
abbrev pub area_at : List Record → ℕ → Option Record
area_at areas page = find (λ area. has_page area.span page) areas

-- what a page is mapped to: attributes, an object, and a page of it
pub record MappedPage : Type 0 where
  pub attr : Attr
  pub object : ℕ
  pub index : ℕ

-- what an area maps at one of its pages
unfoldable pub mapped_page : ℕ → Record → MappedPage
mapped_page page area = record { attr = area.attr; object = area.object; index = index_of area page }

-- the page map of a list: what each mapped page is mapped to
unfoldable pub page_map : List Record → ℕ → Option MappedPage
page_map areas page = option_map (mapped_page page) (area_at areas page)
