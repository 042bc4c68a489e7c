-- For the laws of this crate: how many areas each call makes.
use Rattle.std.proofs.Common.{◌≡◌, ◌≤◌, ◌+◌, ℕ, nat_lt, List, length, Some, arith}
use Rattle.std.proofs.lemmas.Bool.{cond_both, ltb-true}
use Rattle.mm_types.specs.declared.area.Prot.{Prot}
use Rattle.mm_types.specs.declared.area.Record.{Record}
use Rattle.mm_types.specs.declared.area.Span.{Span}
use Rattle.mm_types.specs.declared.call.MmapArgs.{MmapArgs}
use Rattle.mm_types.specs.declared.config.Config.{Config}
use Rattle.mm_types.specs.Config.{IsValidConfig}
use Rattle.area_list.specs.declared.attributes.AttrChange.TheVariants.{Protection, Seal}
use Rattle.area_list.specs.Areas.{page_of, area_at, IsCanonical}
use Rattle.area_list.specs.Changes.{cut, put, sealed_list}
use Rattle.area_list.proofs.Putting.{put_canonical}
use Rattle.area_rules.specs.declared.mremap_request.Moved.{Moved}
use Rattle.area_rules.specs.declared.mremap_request.MremapArgs.{MremapArgs}
use Rattle.area_rules.specs.Brk.{pages_between, heap_area, lowered_list, raised_list}
use Rattle.area_rules.specs.Laws.{moved_range}
use Rattle.area_rules.specs.Mmap.{new_area, mapped_list}
use Rattle.area_rules.specs.Mprotect.{stop_of, protected_prefix}
use Rattle.area_rules.specs.Mremap.{old_range, carried_area, moved_list, shrunk_list, added_range, lengthened_list, mremap_change}
use Rattle.area_rules.specs.Munmap.{range_of}
use Rattle.area_rules.specs.Tables.{AddressSpace, pages_of}
use Rattle.area_rules.proofs.ProtectLaws.{stop_is}
use Rattle.area_rules.proofs.RemapLaws.{IsRemappable, some_range, moved_good, grown_good, change_both}
use Rattle.area_rules.proofs.Stepping.{in_order}
use Rattle.area_rules.proofs.AreaLengths.{canonical_above, length-cut, length-put, length-changed_list}

module _ (end : ℕ) (areas : List Record) (canonical : IsCanonical end areas) where
  -- a range that is cut out makes one area more at most
  pub length-cut_range : (addr len : ℕ) → length (cut (range_of addr len) areas) ≤ length areas + 1
  length-cut_range addr len = length-cut (range_of addr len) 0 areas (in_order addr len) (canonical_above end areas canonical)

  -- a mapping makes two
  pub length-mapped_list : (config : Config) (space : AddressSpace) (args : MmapArgs) (start : ℕ) → space.areas ≡ areas
      → length (mapped_list config space args start) ≤ length areas + 2
  unfolding mapped_list new_area
  length-mapped_list config space args start same =
      rw same (length-put (new_area config space.objects args start) 0 areas (omega arith) (canonical_above end areas canonical))

  -- another protection makes two
  pub length-protected_prefix : (prot : Prot) (addr len : ℕ) → length (protected_prefix prot (range_of addr len) areas) ≤ length areas + 2
  unfolding protected_prefix
  length-protected_prefix prot addr len =
      length-changed_list (Protection prot)
      (record { lo = (range_of addr len).lo; hi = stop_of prot (range_of addr len) areas }) 0 areas
      (stop_is prot (range_of addr len) areas (in_order addr len)).begins (canonical_above end areas canonical)

  -- and seals make two
  pub length-sealed_list : (addr len : ℕ) → length (sealed_list (range_of addr len) areas) ≤ length areas + 2
  length-sealed_list addr len =
      length-changed_list Seal (range_of addr len) 0 areas (in_order addr len) (canonical_above end areas canonical)

  -- a shrunk range makes one
  length-shrunk_list : (args : MremapArgs) → length (shrunk_list areas args) ≤ length areas + 3
  unfolding shrunk_list
  length-shrunk_list args =
      let gone : Span = record {
        lo = page_of args.old + pages_of args.new_len;
        hi = page_of args.old + pages_of args.old_len;
      } in
      cond_both (nat_lt (pages_of args.new_len) (pages_of args.old_len)) (cut gone areas) areas (λ l. length l ≤ length areas + 3)
      (λ shrinks. let more : length (cut gone areas) ≤ length areas + 1 = length-cut gone 0 areas
      (omega (arith, ltb-true (pages_of args.new_len) (pages_of args.old_len) shrinks)) (canonical_above end areas canonical) in omega arith)
      (λ stays. omega arith)

-- a break that is lowered makes one area more at most
pub length-lowered_list : (end : ℕ) (space : AddressSpace) (addr : ℕ) → IsCanonical end space.areas → pages_of addr ≤ pages_of space.brk
    → length (lowered_list space addr) ≤ length space.areas + 1
length-lowered_list end space addr canonical below =
    length-cut (pages_between addr space.brk) 0 space.areas below (canonical_above end space.areas canonical)

-- one that is raised makes two
pub length-raised_list : (end : ℕ) (space : AddressSpace) (addr : ℕ) → IsCanonical end space.areas → pages_of space.brk ≤ pages_of addr
    → length (raised_list space addr) ≤ length space.areas + 2
unfolding heap_area
length-raised_list end space addr canonical above =
    length-put (heap_area (pages_between space.brk addr)) 0 space.areas above (canonical_above end space.areas canonical)

-- a range that is remapped makes three: two at its new place, and one where the old range is cut out
pub length-change : (config : Config) (areas : List Record) (args : MremapArgs) (area : Record) (change : Moved) → IsValidConfig config
    → IsCanonical (page_of config.limit) areas → IsRemappable config areas args → area_at areas (page_of args.old) ≡ Some area
    → mremap_change config areas area args ≡ Some change → length change.areas ≤ length areas + 3
unfolding moved_list lengthened_list
length-change config areas args area change valid canonical remappable found changes =
    let end : ℕ = page_of config.limit in
    change_both (λ l. length l ≤ length areas + 3) config areas area args change
    (λ start moves.
    let carried : Record = carried_area area (page_of args.old) (moved_range args start) in
    let good = moved_good config areas args area start valid canonical remappable found moves in
    let old = some_range args.old args.old_len remappable.some_old in
    omega (
      arith,
      length-put carried 0 areas (omega (arith, good.valid.some_pages)) (canonical_above end areas canonical),
      length-cut (old_range args) 0 (put carried areas) (omega (arith, old))
          (canonical_above end (put carried areas) (put_canonical end carried areas good canonical)),
    ))
    (length-shrunk_list end areas canonical args)
    (λ longer room.
    let carried : Record = carried_area area (added_range args).lo (added_range args) in
    let good = grown_good config areas args area valid canonical remappable found longer room in
    omega (arith, length-put carried 0 areas (omega (arith, good.valid.some_pages)) (canonical_above end areas canonical)))
    changes
