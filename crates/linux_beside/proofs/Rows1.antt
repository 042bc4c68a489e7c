-- Rows of docs/KERNEL.md are computed. Made by dev/make-linux-rules.
use Rattle.std.specs.Prelude.{refl}
use Rattle.linux_beside.specs.Rows1.{AllRows1}

pub all_rows1 : AllRows1
unfolding Rattle.mm_types.specs.Records.holds_all Rattle.area_list.specs.Areas.index_of Rattle.area_list.specs.Areas.joins Rattle.area_list.specs.Areas.mapped_page Rattle.area_list.specs.Areas.page_map Rattle.area_list.specs.Changes.piece Rattle.area_list.specs.Changes.parts_outside Rattle.area_list.specs.Changes.parts_changed Rattle.area_rules.specs.Accesses.permits Rattle.area_rules.specs.Blockers.blocker Rattle.area_rules.specs.Brk.heap_area Rattle.area_rules.specs.Brk.has_room_above Rattle.area_rules.specs.Brk.brk_rows Rattle.area_rules.specs.Brk.brk Rattle.area_rules.specs.Growing.grower Rattle.area_rules.specs.Growing.grows Rattle.area_rules.specs.Growing.grown_list Rattle.area_rules.specs.Growing.touch Rattle.area_rules.specs.Guarded.guarded_ranges Rattle.area_rules.specs.Guarded.is_sealed_off Rattle.area_rules.specs.Guarded.guarded Rattle.area_rules.specs.Mmap.is_fixed Rattle.area_rules.specs.Mmap.file_place Rattle.area_rules.specs.Mmap.object_of Rattle.area_rules.specs.Mmap.lacks_file Rattle.area_rules.specs.Mmap.overflows_offset Rattle.area_rules.specs.Mmap.has_no_sharing Rattle.area_rules.specs.Mmap.cannot_grow Rattle.area_rules.specs.Mmap.is_denied Rattle.area_rules.specs.Mmap.is_taken Rattle.area_rules.specs.Mmap.start_of Rattle.area_rules.specs.Mmap.most_allowed Rattle.area_rules.specs.Mmap.object_mapped Rattle.area_rules.specs.Mmap.objects_after Rattle.area_rules.specs.Mmap.new_area Rattle.area_rules.specs.Mmap.mapped_list Rattle.area_rules.specs.Mmap.mmap_rows Rattle.area_rules.specs.Mmap.maps_over_seal Rattle.area_rules.specs.Mmap.mmap_done Rattle.area_rules.specs.Mmap.mmap_placed Rattle.area_rules.specs.Mmap.mmap Rattle.area_rules.specs.Mmap.mmap_placed_unsealed Rattle.area_rules.specs.Mmap.mmap_unsealed Rattle.area_rules.specs.Mprotect.may_have Rattle.area_rules.specs.Mprotect.stop_of Rattle.area_rules.specs.Mprotect.protected_prefix Rattle.area_rules.specs.Mprotect.protect_request_rows Rattle.area_rules.specs.Mprotect.mprotect_rows Rattle.area_rules.specs.Mprotect.stop_error Rattle.area_rules.specs.Mprotect.mprotect Rattle.area_rules.specs.Mprotect.mprotect_unsealed_rows Rattle.area_rules.specs.Mprotect.mprotect_unsealed Rattle.area_rules.specs.Mremap.has_other_flag Rattle.area_rules.specs.Mremap.is_new_misplaced Rattle.area_rules.specs.Mremap.leaves_area Rattle.area_rules.specs.Mremap.overflows_object Rattle.area_rules.specs.Mremap.mremap_rows Rattle.area_rules.specs.Mremap.carried_area Rattle.area_rules.specs.Mremap.moved_list Rattle.area_rules.specs.Mremap.shrunk_list Rattle.area_rules.specs.Mremap.added_range Rattle.area_rules.specs.Mremap.has_room Rattle.area_rules.specs.Mremap.lengthened_list Rattle.area_rules.specs.Mremap.new_place Rattle.area_rules.specs.Mremap.mremap_change Rattle.area_rules.specs.Mremap.remaps_seal Rattle.area_rules.specs.Mremap.mremap_done Rattle.area_rules.specs.Mremap.mremap_changed Rattle.area_rules.specs.Mremap.mremap Rattle.area_rules.specs.Mremap.mremap_changed_unsealed Rattle.area_rules.specs.Mremap.mremap_unsealed Rattle.area_rules.specs.Mseal.has_hole Rattle.area_rules.specs.Mseal.seal_request_rows Rattle.area_rules.specs.Mseal.mseal_rows Rattle.area_rules.specs.Mseal.mseal Rattle.area_rules.specs.Munmap.range_of Rattle.area_rules.specs.Munmap.munmap_rows Rattle.area_rules.specs.Munmap.munmap Rattle.area_rules.specs.Munmap.munmap_unsealed Rattle.area_rules.specs.Pages.replied_range Rattle.area_rules.specs.Pages.replied_break Rattle.area_rules.specs.Pages.spans_about Rattle.area_rules.specs.Pages.is_about Rattle.area_rules.specs.Pages.mmap_page Rattle.area_rules.specs.Pages.runs_on Rattle.area_rules.specs.Placement.greatest_below Rattle.area_rules.specs.Placement.least_below Rattle.area_rules.specs.Placement.is_free Rattle.area_rules.specs.Placement.hint_page Rattle.area_rules.specs.Placement.is_high Rattle.area_rules.specs.Placement.hinted_place Rattle.area_rules.specs.Placement.high_place Rattle.area_rules.specs.Placement.low_place Rattle.area_rules.specs.Placement.place_high Rattle.area_rules.specs.Placement.place_low Rattle.area_rules.specs.Placement.place Rattle.area_rules.specs.Seals.has_sealed Rattle.area_rules.specs.Steps.step Rattle.area_rules.specs.Steps.step_unsealed Rattle.area_rules.specs.Steps.opening Rattle.area_rules.specs.Steps.after Rattle.area_rules.specs.Tables.pages_of Rattle.area_rules.specs.Verdicts.is_past_end Rattle.area_rules.specs.Verdicts.area_verdict Rattle.area_rules.specs.Verdicts.verdict Rattle.linux_rules.specs.AnonVmas.mergeable_anon Rattle.linux_rules.specs.AnonVmas.anon_vma_prepare Rattle.linux_rules.specs.Areas.pages_of Rattle.linux_rules.specs.Brk.lower_brk Rattle.linux_rules.specs.Brk.raise_brk Rattle.linux_rules.specs.Brk.move_brk Rattle.linux_rules.specs.Brk.brk Rattle.linux_rules.specs.Faults.expand_downwards Rattle.linux_rules.specs.Faults.object_pages Rattle.linux_rules.specs.Faults.fault_answer Rattle.linux_rules.specs.Faults.area_verdict Rattle.linux_rules.specs.Faults.area_for_fault Rattle.linux_rules.specs.Faults.do_user_addr_fault Rattle.linux_rules.specs.Faults.fault Rattle.linux_rules.specs.Forks.child_space Rattle.linux_rules.specs.Forks.fork Rattle.linux_rules.specs.Merging.merge_left Rattle.linux_rules.specs.Merging.right_of Rattle.linux_rules.specs.Merging.merge_new_range Rattle.linux_rules.specs.Merging.merge_existing_range Rattle.linux_rules.specs.Mmap.file_of_call Rattle.linux_rules.specs.Mmap.file_number Rattle.linux_rules.specs.Mmap.address_of Rattle.linux_rules.specs.Mmap.common_flags Rattle.linux_rules.specs.Mmap.file_flags Rattle.linux_rules.specs.Mmap.anonymous_flags Rattle.linux_rules.specs.Mmap.mapped_object Rattle.linux_rules.specs.Mmap.old_left Rattle.linux_rules.specs.Mmap.put_new Rattle.linux_rules.specs.Mmap.mmap_region Rattle.linux_rules.specs.Mmap.mmap Rattle.linux_rules.specs.Mprotect.split_off Rattle.linux_rules.specs.Mprotect.modify_flags Rattle.linux_rules.specs.Mprotect.flags_with Rattle.linux_rules.specs.Mprotect.mprotect_fixup Rattle.linux_rules.specs.Mprotect.mprotect_from Rattle.linux_rules.specs.Mprotect.mprotect Rattle.linux_rules.specs.Mremap.copy_vma Rattle.linux_rules.specs.Mremap.unmap_old Rattle.linux_rules.specs.Mremap.move_vma Rattle.linux_rules.specs.Mremap.place_and_move Rattle.linux_rules.specs.Mremap.expand_here Rattle.linux_rules.specs.Mremap.expand Rattle.linux_rules.specs.Mremap.check_range Rattle.linux_rules.specs.Mremap.check_prep Rattle.linux_rules.specs.Mremap.mremap_to Rattle.linux_rules.specs.Mremap.remap_from Rattle.linux_rules.specs.Mremap.new_mremap Rattle.linux_rules.specs.Mremap.old_mremap_to Rattle.linux_rules.specs.Mremap.old_mremap Rattle.linux_rules.specs.Mremap.mremap Rattle.linux_rules.specs.Mseal.is_mapped Rattle.linux_rules.specs.Mseal.seal_one Rattle.linux_rules.specs.Mseal.mseal_from Rattle.linux_rules.specs.Mseal.mseal Rattle.linux_rules.specs.Munmap.split_first Rattle.linux_rules.specs.Munmap.split_last Rattle.linux_rules.specs.Munmap.gather_vmas Rattle.linux_rules.specs.Munmap.is_bad_range Rattle.linux_rules.specs.Munmap.munmap Rattle.linux_rules.specs.Searching.is_room Rattle.linux_rules.specs.Searching.search_down Rattle.linux_rules.specs.Searching.search_up Rattle.linux_rules.specs.Searching.takes_hint Rattle.linux_rules.specs.Searching.topdown Rattle.linux_rules.specs.Searching.huge_place Rattle.linux_rules.specs.Searching.searched_place Rattle.linux_rules.specs.Searching.fixed_place Rattle.linux_rules.specs.Searching.get_unmapped_area Rattle.linux_rules.specs.Showing.maps_lines
all_rows1 = record {
  border_file = record { profile = refl; linux_6_1 = refl; linux_6_12 = refl; linux_6_16 = refl; linux_6_17 = refl; linux_6_18_15 = refl; linux_6_18 = refl; linux_7_2 = refl };
  border_written = record { profile = refl; linux_6_1 = refl; linux_6_12 = refl; linux_6_16 = refl; linux_6_17 = refl; linux_6_18_15 = refl; linux_6_18 = refl; linux_7_2 = refl };
  border_gap = record { profile = refl; linux_6_1 = refl; linux_6_12 = refl; linux_6_16 = refl; linux_6_17 = refl; linux_6_18_15 = refl; linux_6_18 = refl; linux_7_2 = refl };
  border_between = record { profile = refl; linux_6_1 = refl; linux_6_12 = refl; linux_6_16 = refl; linux_6_17 = refl; linux_6_18_15 = refl; linux_6_18 = refl; linux_7_2 = refl };
  border_moved = record { profile = refl; linux_6_1 = refl; linux_6_12 = refl; linux_6_16 = refl; linux_6_17 = refl; linux_6_18_15 = refl; linux_6_18 = refl; linux_7_2 = refl };
  border_moved_back = record { profile = refl; linux_6_1 = refl; linux_6_12 = refl; linux_6_16 = refl; linux_6_17 = refl; linux_6_18_15 = refl; linux_6_18 = refl; linux_7_2 = refl };
  border_stack = record { profile = refl; linux_6_1 = refl; linux_6_12 = refl; linux_6_16 = refl; linux_6_17 = refl; linux_6_18_15 = refl; linux_6_18 = refl; linux_7_2 = refl };
  border_noreserve = record { profile = refl; linux_6_1 = refl; linux_6_12 = refl; linux_6_16 = refl; linux_6_17 = refl; linux_6_18_15 = refl; linux_6_18 = refl; linux_7_2 = refl };
  border_populate = record { profile = refl; linux_6_1 = refl; linux_6_12 = refl; linux_6_16 = refl; linux_6_17 = refl; linux_6_18_15 = refl; linux_6_18 = refl; linux_7_2 = refl };
  border_refused = record { profile = refl; linux_6_1 = refl; linux_6_12 = refl; linux_6_16 = refl; linux_6_17 = refl; linux_6_18_15 = refl; linux_6_18 = refl; linux_7_2 = refl };
  aligned_anonymous = record { profile = refl; linux_6_1 = refl; linux_6_12 = refl; linux_6_16 = refl; linux_6_17 = refl; linux_6_18_15 = refl; linux_6_18 = refl; linux_7_2 = refl };
  aligned_file = record { profile = refl; linux_6_1 = refl; linux_6_12 = refl; linux_6_16 = refl; linux_6_17 = refl; linux_6_18_15 = refl; linux_6_18 = refl; linux_7_2 = refl };
  aligned_file_moved = record { profile = refl; linux_6_1 = refl; linux_6_12 = refl; linux_6_16 = refl; linux_6_17 = refl; linux_6_18_15 = refl; linux_6_18 = refl; linux_7_2 = refl };
  aligned_moved = record { profile = refl; linux_6_1 = refl; linux_6_12 = refl; linux_6_16 = refl; linux_6_17 = refl; linux_6_18_15 = refl; linux_6_18 = refl; linux_7_2 = refl };
  aligned_shared = record { profile = refl; linux_6_1 = refl; linux_6_12 = refl; linux_6_16 = refl; linux_6_17 = refl; linux_6_18_15 = refl; linux_6_18 = refl; linux_7_2 = refl };
  aligned_file_in_memory = record { profile = refl; linux_6_1 = refl; linux_6_12 = refl; linux_6_16 = refl; linux_6_17 = refl; linux_6_18_15 = refl; linux_6_18 = refl; linux_7_2 = refl };
}
