-- The traces of Linux 6.18.44 are computed. Made by dev/make-linux-rules.
use Rattle.std.specs.Prelude.{refl}
use Rattle.linux_rules.specs.Linux_6_18.{AllOfLinux_6_18}

pub all_of_linux_6_18 : AllOfLinux_6_18
unfolding Rattle.mm_types.specs.Records.holds_all Rattle.linux_rules.specs.AnonVmas.mergeable_anon Rattle.linux_rules.specs.AnonVmas.anon_vma_prepare Rattle.linux_rules.specs.Areas.pages_of Rattle.linux_rules.specs.Brk.lower_brk Rattle.linux_rules.specs.Brk.raise_brk Rattle.linux_rules.specs.Brk.move_brk Rattle.linux_rules.specs.Brk.brk Rattle.linux_rules.specs.Faults.expand_downwards Rattle.linux_rules.specs.Faults.object_pages Rattle.linux_rules.specs.Faults.fault_answer Rattle.linux_rules.specs.Faults.area_verdict Rattle.linux_rules.specs.Faults.area_for_fault Rattle.linux_rules.specs.Faults.do_user_addr_fault Rattle.linux_rules.specs.Faults.fault Rattle.linux_rules.specs.Forks.child_space Rattle.linux_rules.specs.Forks.fork Rattle.linux_rules.specs.Merging.merge_left Rattle.linux_rules.specs.Merging.right_of Rattle.linux_rules.specs.Merging.merge_new_range Rattle.linux_rules.specs.Merging.merge_existing_range Rattle.linux_rules.specs.Mmap.file_of_call Rattle.linux_rules.specs.Mmap.file_number Rattle.linux_rules.specs.Mmap.address_of Rattle.linux_rules.specs.Mmap.common_flags Rattle.linux_rules.specs.Mmap.file_flags Rattle.linux_rules.specs.Mmap.anonymous_flags Rattle.linux_rules.specs.Mmap.mapped_object Rattle.linux_rules.specs.Mmap.old_left Rattle.linux_rules.specs.Mmap.put_new Rattle.linux_rules.specs.Mmap.mmap_region Rattle.linux_rules.specs.Mmap.mmap Rattle.linux_rules.specs.Mprotect.split_off Rattle.linux_rules.specs.Mprotect.modify_flags Rattle.linux_rules.specs.Mprotect.flags_with Rattle.linux_rules.specs.Mprotect.mprotect_fixup Rattle.linux_rules.specs.Mprotect.mprotect_from Rattle.linux_rules.specs.Mprotect.mprotect Rattle.linux_rules.specs.Mremap.copy_vma Rattle.linux_rules.specs.Mremap.unmap_old Rattle.linux_rules.specs.Mremap.move_vma Rattle.linux_rules.specs.Mremap.place_and_move Rattle.linux_rules.specs.Mremap.expand_here Rattle.linux_rules.specs.Mremap.expand Rattle.linux_rules.specs.Mremap.check_range Rattle.linux_rules.specs.Mremap.check_prep Rattle.linux_rules.specs.Mremap.mremap_to Rattle.linux_rules.specs.Mremap.remap_from Rattle.linux_rules.specs.Mremap.new_mremap Rattle.linux_rules.specs.Mremap.old_mremap_to Rattle.linux_rules.specs.Mremap.old_mremap Rattle.linux_rules.specs.Mremap.mremap Rattle.linux_rules.specs.Mseal.is_mapped Rattle.linux_rules.specs.Mseal.seal_one Rattle.linux_rules.specs.Mseal.mseal_from Rattle.linux_rules.specs.Mseal.mseal Rattle.linux_rules.specs.Munmap.split_first Rattle.linux_rules.specs.Munmap.split_last Rattle.linux_rules.specs.Munmap.gather_vmas Rattle.linux_rules.specs.Munmap.is_bad_range Rattle.linux_rules.specs.Munmap.munmap Rattle.linux_rules.specs.Searching.is_room Rattle.linux_rules.specs.Searching.search_down Rattle.linux_rules.specs.Searching.search_up Rattle.linux_rules.specs.Searching.takes_hint Rattle.linux_rules.specs.Searching.topdown Rattle.linux_rules.specs.Searching.huge_place Rattle.linux_rules.specs.Searching.searched_place Rattle.linux_rules.specs.Searching.fixed_place Rattle.linux_rules.specs.Searching.get_unmapped_area Rattle.linux_rules.specs.Showing.maps_lines
all_of_linux_6_18 = record {
  brk_beside_plain_memory_holds = refl;
  brk_greatest_holds = refl;
  files_later_write_of_a_shared_readable_holds = refl;
  files_shared_anonymous_split_holds = refl;
  fork_eight_holds = refl;
  fork_order_of_children_holds = refl;
  fork_two_children_holds = refl;
  mseal_limit_comes_first_holds = refl;
  mseal_mprotect_odd_address_holds = refl;
  mseal_munmap_refused_otherwise_holds = refl;
  mseal_part_then_all_holds = refl;
  munmap_limit_cut_at_the_end_holds = refl;
  written_1_holds = refl;
  written_limit_15_holds = refl;
  hard_limit_37_holds = refl;
  hard_limit_69_holds = refl;
  hard_80_holds = refl;
  hard_96_holds = refl;
  written_limit_103_holds = refl;
  written_126_holds = refl;
  hard_131_holds = refl;
  written_limit_151_holds = refl;
  hard_160_holds = refl;
  written_166_holds = refl;
  written_177_holds = refl;
  written_188_holds = refl;
  written_198_holds = refl;
  hard_208_holds = refl;
  written_230_holds = refl;
  hard_275_holds = refl;
  hard_limit_309_holds = refl;
  hard_328_holds = refl;
  written_428_holds = refl;
  hard_587_holds = refl;
  hard_611_holds = refl;
  written_961_holds = refl;
  written_1001_holds = refl;
  hard_1027_holds = refl;
  hard_1272_holds = refl;
  sealed_1402_holds = refl;
  hard_1464_holds = refl;
  written_2062_holds = refl;
  directed_anon_vma_of_the_next_first_holds = refl;
  directed_refused_growth_counts_as_written_holds = refl;
  directed_written_range_of_a_fork_stays_apart_holds = refl;
  directed_anon_vma_needs_running_offsets_holds = refl;
}
