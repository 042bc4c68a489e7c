-- For the law `new_object_is_fresh`: the object of a mapping of shared anonymous memory is new.
use Rattle.std.proofs.Common.{◌≡◌, ◌≢◌, ◌+◌, ◌-◌, ◌*◌, ℕ, Bool, true, ◌&&◌, if◌then◌else◌, nat_eq, Some, All, ◌∙◌, sym, subst, arith}
use Rattle.std.specs.Option.{IsSomeAnd}
use Rattle.std.proofs.lemmas.Bool.{cond-true}
use Rattle.std.proofs.lemmas.Bool.Decides.{nat_tests}
use Rattle.std.proofs.lemmas.List.Elements.{All-from_recursion, recursion_from_All}
use Rattle.mm_types.specs.declared.area.Record.{Record}
use Rattle.mm_types.specs.declared.call.Call.TheVariants.{Mmap}
use Rattle.mm_types.specs.declared.call.MmapArgs.{MmapArgs}
use Rattle.mm_types.specs.declared.call.Reply.TheVariants.{Addr}
use Rattle.mm_types.specs.declared.config.Config.{Config}
use Rattle.area_list.specs.Areas.{MappedPage, page_of, has_page, index_of, mapped_page, page_map}
use Rattle.area_rules.specs.Tables.{AddressSpace, Outcome, pages_of}
use Rattle.area_rules.specs.Munmap.{range_of}
use Rattle.area_rules.specs.Mmap.{is_anonymous, is_shared, start_of, object_mapped, objects_after, new_area, mapped_list, mmap_done, mmap_unsealed}
use Rattle.area_rules.specs.Steps.{step_unsealed, step, IsReady}
use Rattle.area_rules.specs.Laws.{MapsShared}
use Rattle.area_list.proofs.Elements.{Each-weaker}
use Rattle.area_list.proofs.Order.{good_from_canonical}
use Rattle.area_list.proofs.Pages.{lies}
use Rattle.area_list.proofs.Putting.{page_map-put}
use Rattle.area_rules.proofs.NewArea.{IsAccepted, new_area_good}
use Rattle.area_rules.proofs.Guarding.{step_cases}
use Rattle.area_rules.proofs.Cases.{mmap_cases}
use Rattle.area_rules.proofs.Stepping.{IsCounted}

-- what an outcome with this reply has
abbrev Answers : ℕ → (Outcome → Type 0) → Outcome → Type 0
Answers address Q outcome = outcome.reply ≡ Addr address → Q outcome

-- what holds of the outcome at each place that the tests accept, holds of the outcome of a mapping that succeeds
shared_done : (Q : Outcome → Type 0) (config : Config) (space : AddressSpace) (args : MmapArgs) (address : ℕ)
    → MapsShared config space args address
    → ((start : ℕ) → start_of config space.areas args ≡ Some start → IsAccepted config args
    → page_of address ≡ start → Q (mmap_done config space args start))
    → Q (step config space (Mmap args))
unfolding step_unsealed
shared_done Q config space args address maps done =
    step_cases config space (Answers address Q) (Mmap args) (λ refused. cc)
    (λ left. mmap_cases (Answers address Q) config space args (λ errno h. cc)
    (λ start m h. done start m.found m.accepted (begins start h))) maps.reply
  where
    begins : (start : ℕ) → (mmap_done config space args start).reply ≡ Addr address → page_of address ≡ start
    begins start h = let same : 4096 * start ≡ address = unfold mmap_done in cc in omega arith

pub shared_counter : (config : Config) (space : AddressSpace) (args : MmapArgs) (address : ℕ)
    → MapsShared config space args address → (step config space (Mmap args)).space.objects ≡ space.objects + 1
unfolding mmap_done objects_after
shared_counter config space args address maps =
    shared_done (λ o. o.space.objects ≡ space.objects + 1) config space args address maps
    (λ start found accepted begins. counts (is_anonymous args) (is_shared args) maps.anonymous maps.shared)
  where
    counts : (anonymous shared : Bool) → anonymous ≡ true → shared ≡ true
        → (if anonymous && shared then space.objects + 1 else space.objects) ≡ space.objects + 1
    counts anonymous shared first second = grind arith

pub shared_fresh : (config : Config) (space : AddressSpace) (args : MmapArgs) (address : ℕ) → IsReady config space
    → MapsShared config space args address
    → All (λ area. area.object ≢ (step config space (Mmap args)).space.objects) space.areas
shared_fresh config space args address ready maps =
    let objects : ℕ = (step config space (Mmap args)).space.objects in
    let next : objects ≡ space.objects + 1 = shared_counter config space args address maps in
    All-from_recursion (λ area. area.object ≢ objects) space.areas
    (Each-weaker (IsCounted space.objects) (λ area. area.object ≢ objects) (λ area counted same. omega arith)
    space.areas (recursion_from_All (IsCounted space.objects) space.areas ready.counted))

shared_object : (config : Config) (objects : ℕ) (args : MmapArgs) → is_anonymous args ≡ true → is_shared args ≡ true
    → object_mapped config objects args ≡ objects + 1
unfolding object_mapped
shared_object config objects args anonymous shared =
    cond-true (is_anonymous args) _ _ anonymous ∙ cond-true (is_shared args) (objects + 1) 0 shared

shared_index : (config : Config) (objects : ℕ) (args : MmapArgs) (start page : ℕ) → is_anonymous args ≡ true
    → is_shared args ≡ true → index_of (new_area config objects args start) page ≡ page - start
unfolding index_of new_area
shared_index config objects args start page anonymous shared =
    tests (object_mapped config objects args) objects (is_anonymous args) (page_of args.offset) (page - start)
    (shared_object config objects args anonymous shared) anonymous
  where
    tests : (object objects : ℕ) (anonymous : Bool) (offset index : ℕ) → object ≡ objects + 1 → anonymous ≡ true
        → (if nat_eq object 0 then 0 else (if anonymous then 0 else offset) + index) ≡ index
    tests object objects anonymous offset index is none = grind (arith, nat_tests)

-- a page of the new area is mapped by it
new_page : (config : Config) (space : AddressSpace) (args : MmapArgs) (start page : ℕ) → IsReady config space
    → start_of config space.areas args ≡ Some start → IsAccepted config args
    → lies start (start + pages_of args.len) page ≡ true
    → page_map (mapped_list config space args start) page
    ≡ Some (mapped_page page (new_area config space.objects args start))
unfolding mapped_list new_area
new_page config space args start page ready found accepted here =
    let end = page_of config.limit in
    let area : Record = new_area config space.objects args start in
    page_map-put end area space.areas page
    (new_area_good config space.areas space.objects args start ready.valid accepted found)
    (good_from_canonical end space.areas ready.sound.canonical)
    ∙ cond-true (has_page area.span page) _ _ here

-- what a page of a new shared anonymous object is mapped to
abbrev IsShared : (objects index : ℕ) → MappedPage → Type 0
IsShared objects index mapped = (mapped.object ≡ objects) × (mapped.index ≡ index)

shared_page : (config : Config) (space : AddressSpace) (args : MmapArgs) (start page : ℕ) → is_anonymous args ≡ true
    → is_shared args ≡ true
    → IsShared (space.objects + 1) (page - start) (mapped_page page (new_area config space.objects args start))
unfolding mapped_page new_area
shared_page config space args start page anonymous shared = (
  shared_object config space.objects args anonymous shared,
  shared_index config space.objects args start page anonymous shared,
)

pub shared_pages : (config : Config) (space : AddressSpace) (args : MmapArgs) (address page : ℕ)
    → IsReady config space → MapsShared config space args address → has_page (range_of address args.len) page ≡ true
    → IsSomeAnd (page_map (step config space (Mmap args)).space.areas page)
    (λ mapped. (mapped.object ≡ (step config space (Mmap args)).space.objects)
    × (mapped.index ≡ page - page_of address))
unfolding range_of mmap_done
shared_pages config space args address page ready maps here =
    subst (λ objects. IsSomeAnd (page_map (step config space (Mmap args)).space.areas page)
    (IsShared objects (page - page_of address))) (sym (shared_counter config space args address maps))
    (shared_done (λ o. IsSomeAnd (page_map o.space.areas page) (IsShared (space.objects + 1) (page - page_of address)))
    config space args address maps
    (λ start found accepted begins.
    subst (λ o. IsSomeAnd o (IsShared (space.objects + 1) (page - page_of address)))
    (sym (new_page config space args start page ready found accepted
    (subst (λ lo. lies lo (lo + pages_of args.len) page ≡ true) begins here)))
    (subst (λ lo. IsShared (space.objects + 1) (page - lo) (mapped_page page (new_area config space.objects args start)))
    (sym begins) (shared_page config space args start page maps.anonymous maps.shared))))
