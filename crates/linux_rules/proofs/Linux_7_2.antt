-- The traces of Linux 7.2.12 are computed. Made by dev/make-linux-rules.
use Rattle.std.specs.Prelude.{refl}
use Rattle.linux_rules.specs.Linux_7_2.{AllOfLinux_7_2}

pub all_of_linux_7_2 : AllOfLinux_7_2
unfolding Rattle.mm_types.specs.Records.holds_all Rattle.linux_rules.specs.AnonVmas.mergeable_anon Rattle.linux_rules.specs.AnonVmas.anon_vma_prepare Rattle.linux_rules.specs.Areas.pages_of Rattle.linux_rules.specs.Brk.lower_brk Rattle.linux_rules.specs.Brk.raise_brk Rattle.linux_rules.specs.Brk.move_brk Rattle.linux_rules.specs.Brk.brk Rattle.linux_rules.specs.Faults.expand_downwards Rattle.linux_rules.specs.Faults.object_pages Rattle.linux_rules.specs.Faults.fault_answer Rattle.linux_rules.specs.Faults.area_verdict Rattle.linux_rules.specs.Faults.area_for_fault Rattle.linux_rules.specs.Faults.do_user_addr_fault Rattle.linux_rules.specs.Faults.fault Rattle.linux_rules.specs.Forks.child_space Rattle.linux_rules.specs.Forks.fork Rattle.linux_rules.specs.Merging.merge_left Rattle.linux_rules.specs.Merging.right_of Rattle.linux_rules.specs.Merging.merge_new_range Rattle.linux_rules.specs.Merging.merge_existing_range Rattle.linux_rules.specs.Mmap.file_of_call Rattle.linux_rules.specs.Mmap.file_number Rattle.linux_rules.specs.Mmap.address_of Rattle.linux_rules.specs.Mmap.common_flags Rattle.linux_rules.specs.Mmap.file_flags Rattle.linux_rules.specs.Mmap.anonymous_flags Rattle.linux_rules.specs.Mmap.mapped_object Rattle.linux_rules.specs.Mmap.old_left Rattle.linux_rules.specs.Mmap.put_new Rattle.linux_rules.specs.Mmap.mmap_region Rattle.linux_rules.specs.Mmap.mmap Rattle.linux_rules.specs.Mprotect.split_off Rattle.linux_rules.specs.Mprotect.modify_flags Rattle.linux_rules.specs.Mprotect.flags_with Rattle.linux_rules.specs.Mprotect.mprotect_fixup Rattle.linux_rules.specs.Mprotect.mprotect_from Rattle.linux_rules.specs.Mprotect.mprotect Rattle.linux_rules.specs.Mremap.copy_vma Rattle.linux_rules.specs.Mremap.unmap_old Rattle.linux_rules.specs.Mremap.move_vma Rattle.linux_rules.specs.Mremap.place_and_move Rattle.linux_rules.specs.Mremap.expand_here Rattle.linux_rules.specs.Mremap.expand Rattle.linux_rules.specs.Mremap.check_range Rattle.linux_rules.specs.Mremap.check_prep Rattle.linux_rules.specs.Mremap.mremap_to Rattle.linux_rules.specs.Mremap.remap_from Rattle.linux_rules.specs.Mremap.new_mremap Rattle.linux_rules.specs.Mremap.old_mremap_to Rattle.linux_rules.specs.Mremap.old_mremap Rattle.linux_rules.specs.Mremap.mremap Rattle.linux_rules.specs.Mseal.is_mapped Rattle.linux_rules.specs.Mseal.seal_one Rattle.linux_rules.specs.Mseal.mseal_from Rattle.linux_rules.specs.Mseal.mseal Rattle.linux_rules.specs.Munmap.split_first Rattle.linux_rules.specs.Munmap.split_last Rattle.linux_rules.specs.Munmap.gather_vmas Rattle.linux_rules.specs.Munmap.is_bad_range Rattle.linux_rules.specs.Munmap.munmap Rattle.linux_rules.specs.Searching.is_room Rattle.linux_rules.specs.Searching.search_down Rattle.linux_rules.specs.Searching.search_up Rattle.linux_rules.specs.Searching.takes_hint Rattle.linux_rules.specs.Searching.topdown Rattle.linux_rules.specs.Searching.huge_place Rattle.linux_rules.specs.Searching.searched_place Rattle.linux_rules.specs.Searching.fixed_place Rattle.linux_rules.specs.Searching.get_unmapped_area Rattle.linux_rules.specs.Showing.maps_lines
all_of_linux_7_2 = record {
  written_1_holds = refl;
  hard_3_holds = refl;
  written_6_holds = refl;
  written_limit_7_holds = refl;
  written_9_holds = refl;
  sealed_10_holds = refl;
  hard_11_holds = refl;
  written_12_holds = refl;
  written_limit_15_holds = refl;
  written_limit_23_holds = refl;
  written_28_holds = refl;
  written_30_holds = refl;
  written_limit_31_holds = refl;
  sealed_34_holds = refl;
  written_36_holds = refl;
  hard_limit_37_holds = refl;
  hard_40_holds = refl;
  hard_43_holds = refl;
  hard_limit_45_holds = refl;
  hard_limit_53_holds = refl;
  written_65_holds = refl;
  hard_88_holds = refl;
  written_97_holds = refl;
  hard_120_holds = refl;
  sealed_122_holds = refl;
  written_limit_135_holds = refl;
  hard_limit_141_holds = refl;
  written_161_holds = refl;
  written_166_holds = refl;
  written_174_holds = refl;
  written_188_holds = refl;
  hard_195_holds = refl;
  hard_limit_197_holds = refl;
  written_198_holds = refl;
  hard_208_holds = refl;
  written_220_holds = refl;
  hard_243_holds = refl;
  hard_272_holds = refl;
  hard_limit_301_holds = refl;
  hard_331_holds = refl;
  hard_611_holds = refl;
  hard_771_holds = refl;
  directed_move_has_room_for_two_holds = refl;
  directed_move_lacks_room_for_two_holds = refl;
}
