-- The traces of Linux 6.18.15 are computed. Made by dev/make-linux-rules.
use Rattle.std.specs.Prelude.{refl}
use Rattle.linux_rules.specs.Linux_6_18_15.{AllOfLinux_6_18_15}

pub all_of_linux_6_18_15 : AllOfLinux_6_18_15
unfolding Rattle.mm_types.specs.Records.holds_all Rattle.linux_rules.specs.AnonVmas.mergeable_anon Rattle.linux_rules.specs.AnonVmas.anon_vma_prepare Rattle.linux_rules.specs.Areas.pages_of Rattle.linux_rules.specs.Brk.lower_brk Rattle.linux_rules.specs.Brk.raise_brk Rattle.linux_rules.specs.Brk.move_brk Rattle.linux_rules.specs.Brk.brk Rattle.linux_rules.specs.Faults.expand_downwards Rattle.linux_rules.specs.Faults.object_pages Rattle.linux_rules.specs.Faults.fault_answer Rattle.linux_rules.specs.Faults.area_verdict Rattle.linux_rules.specs.Faults.area_for_fault Rattle.linux_rules.specs.Faults.do_user_addr_fault Rattle.linux_rules.specs.Faults.fault Rattle.linux_rules.specs.Forks.child_space Rattle.linux_rules.specs.Forks.fork Rattle.linux_rules.specs.Merging.merge_left Rattle.linux_rules.specs.Merging.right_of Rattle.linux_rules.specs.Merging.merge_new_range Rattle.linux_rules.specs.Merging.merge_existing_range Rattle.linux_rules.specs.Mmap.file_of_call Rattle.linux_rules.specs.Mmap.file_number Rattle.linux_rules.specs.Mmap.address_of Rattle.linux_rules.specs.Mmap.common_flags Rattle.linux_rules.specs.Mmap.file_flags Rattle.linux_rules.specs.Mmap.anonymous_flags Rattle.linux_rules.specs.Mmap.mapped_object Rattle.linux_rules.specs.Mmap.old_left Rattle.linux_rules.specs.Mmap.put_new Rattle.linux_rules.specs.Mmap.mmap_region Rattle.linux_rules.specs.Mmap.mmap Rattle.linux_rules.specs.Mprotect.split_off Rattle.linux_rules.specs.Mprotect.modify_flags Rattle.linux_rules.specs.Mprotect.flags_with Rattle.linux_rules.specs.Mprotect.mprotect_fixup Rattle.linux_rules.specs.Mprotect.mprotect_from Rattle.linux_rules.specs.Mprotect.mprotect Rattle.linux_rules.specs.Mremap.copy_vma Rattle.linux_rules.specs.Mremap.unmap_old Rattle.linux_rules.specs.Mremap.move_vma Rattle.linux_rules.specs.Mremap.place_and_move Rattle.linux_rules.specs.Mremap.expand_here Rattle.linux_rules.specs.Mremap.expand Rattle.linux_rules.specs.Mremap.check_range Rattle.linux_rules.specs.Mremap.check_prep Rattle.linux_rules.specs.Mremap.mremap_to Rattle.linux_rules.specs.Mremap.remap_from Rattle.linux_rules.specs.Mremap.new_mremap Rattle.linux_rules.specs.Mremap.old_mremap_to Rattle.linux_rules.specs.Mremap.old_mremap Rattle.linux_rules.specs.Mremap.mremap Rattle.linux_rules.specs.Mseal.is_mapped Rattle.linux_rules.specs.Mseal.seal_one Rattle.linux_rules.specs.Mseal.mseal_from Rattle.linux_rules.specs.Mseal.mseal Rattle.linux_rules.specs.Munmap.split_first Rattle.linux_rules.specs.Munmap.split_last Rattle.linux_rules.specs.Munmap.gather_vmas Rattle.linux_rules.specs.Munmap.is_bad_range Rattle.linux_rules.specs.Munmap.munmap Rattle.linux_rules.specs.Searching.is_room Rattle.linux_rules.specs.Searching.search_down Rattle.linux_rules.specs.Searching.search_up Rattle.linux_rules.specs.Searching.takes_hint Rattle.linux_rules.specs.Searching.topdown Rattle.linux_rules.specs.Searching.huge_place Rattle.linux_rules.specs.Searching.searched_place Rattle.linux_rules.specs.Searching.fixed_place Rattle.linux_rules.specs.Searching.get_unmapped_area Rattle.linux_rules.specs.Showing.maps_lines
all_of_linux_6_18_15 = record {
  brk_beside_plain_memory_holds = refl;
  brk_raise_beside_a_sealed_page_holds = refl;
  faults_after_a_partial_mprotect_holds = refl;
  faults_after_a_refused_call_holds = refl;
  faults_read_of_execute_only_holds = refl;
  faults_shared_memory_has_no_end_holds = refl;
  faults_write_of_execute_only_holds = refl;
  files_later_write_of_a_shared_readable_holds = refl;
  files_private_of_a_writable_only_holds = refl;
  files_shared_anonymous_may_have_any_access_holds = refl;
  files_shared_anonymous_refused_takes_no_number_holds = refl;
  fork_eight_holds = refl;
  fork_order_of_children_holds = refl;
  fork_sealed_later_holds = refl;
  fork_two_children_holds = refl;
  fork_versions_holds = refl;
  growing_next_mapping_goes_below_holds = refl;
  growing_sealed_grows_holds = refl;
  limits_mremap_on_the_way_holds = refl;
  merging_across_a_split_holds = refl;
  merging_fills_a_hole_otherwise_holds = refl;
  mmap_descriptor_greatest_holds = refl;
  mmap_offset_overflows_holds = refl;
  mprotect_may_not_be_written_holds = refl;
  mremap_first_page_not_mapped_holds = refl;
  mremap_limit_grow_in_place_holds = refl;
  mremap_two_mappings_to_a_place_holds = refl;
  mseal_fixed_over_it_holds = refl;
  mseal_flag_greatest_holds = refl;
  mseal_hole_after_holds = refl;
  mseal_limit_comes_first_holds = refl;
  mseal_mremap_shrinks_over_a_sealed_tail_holds = refl;
  mseal_munmap_refused_otherwise_holds = refl;
  mseal_part_then_all_holds = refl;
  munmap_limit_cut_at_the_end_holds = refl;
  munmap_limit_refused_keeps_holds = refl;
  order_mremap_new_place_below_lowest_before_ranges_overlap_holds = refl;
  placement_first_search_one_more_holds = refl;
  placement_hint_one_below_min_holds = refl;
  threads_growth_and_map_holds = refl;
}
