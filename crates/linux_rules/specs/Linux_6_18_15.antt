-- What Linux 6.18.15 answered to 40 traces. Made by dev/make-linux-rules from suite/.
use Rattle.std.specs.Prelude.{List, ◌∷◌, [], true, false, pos, negsuc, Some, None, Ok, Err}
use Rattle.mm_types.specs.declared.area.Access.TheVariants.{Read, Write}
use Rattle.linux_rules.specs.declared.kernel.Kernel.{Kernel}
use Rattle.linux_rules.specs.declared.kernel.Vsyscall.TheVariants.{Xonly}
use Rattle.linux_rules.specs.declared.verdict.LinuxVerdict.TheVariants.{MapErr, AccErr, PkuErr, BusErr}
use Rattle.linux_rules.specs.Versions.{linux_6_18_15}
use Rattle.linux_rules.specs.Steps.{Map, Unmap, Protect, Remap, Break, Seal, Touch, Fork, Returned, Serves, Signal, Step, none, r, x, rw, rwx, plain, heap, filed, kernel_step, file_row, config}
use Rattle.linux_rules.specs.Recorded.{IsAsRecorded}

-- brk_beside_plain_memory: the kernel
abbrev pub brk_beside_plain_memory_on : Kernel
brk_beside_plain_memory_on = record { rules = linux_6_18_15; machine = record { lowest_built = 16; memory = 245000; stack = 8388608; has_keys = true; huge_always = true; files_are_huge = false; vsyscall = Xonly }; config = config 4096 140737354133504 65530 1048576 ([]) }

-- brk_beside_plain_memory: its answers
abbrev pub brk_beside_plain_memory : List Step
brk_beside_plain_memory =
    kernel_step 0 (Map 1044480 4096 rw 50 (negsuc 0) 0) (Ok (Returned 1044480)) None
    ∷ kernel_step 0 (Break 1052672) (Ok (Returned 1052672)) (Some (plain 255 256 rw ∷ heap 256 257 rw ∷ []))
    ∷ []

-- brk_raise_beside_a_sealed_page: the kernel
abbrev pub brk_raise_beside_a_sealed_page_on : Kernel
brk_raise_beside_a_sealed_page_on = record { rules = linux_6_18_15; machine = record { lowest_built = 16; memory = 245000; stack = 8388608; has_keys = true; huge_always = true; files_are_huge = false; vsyscall = Xonly }; config = config 4096 140737354133504 65530 1048576 ([]) }

-- brk_raise_beside_a_sealed_page: its answers
abbrev pub brk_raise_beside_a_sealed_page : List Step
brk_raise_beside_a_sealed_page =
    kernel_step 0 (Break 1052672) (Ok (Returned 1052672)) None
    ∷ kernel_step 0 (Seal 1048576 4096 0) (Ok (Returned 0)) None
    ∷ kernel_step 0 (Break 1056768) (Ok (Returned 1056768)) (Some (heap 256 257 rw ∷ heap 257 258 rw ∷ []))
    ∷ []

-- faults_after_a_partial_mprotect: the kernel
abbrev pub faults_after_a_partial_mprotect_on : Kernel
faults_after_a_partial_mprotect_on = record { rules = linux_6_18_15; machine = record { lowest_built = 16; memory = 245000; stack = 8388608; has_keys = true; huge_always = true; files_are_huge = false; vsyscall = Xonly }; config = config 4096 140737354133504 65530 0 ([]) }

-- faults_after_a_partial_mprotect: its answers
abbrev pub faults_after_a_partial_mprotect : List Step
faults_after_a_partial_mprotect =
    kernel_step 0 (Map 131072 4096 rw 50 (negsuc 0) 0) (Ok (Returned 131072)) None
    ∷ kernel_step 0 (Protect 131072 8192 r) (Err 12) None
    ∷ kernel_step 0 (Touch 32 Write) (Ok (Signal AccErr)) (Some (plain 32 33 r ∷ []))
    ∷ []

-- faults_after_a_refused_call: the kernel
abbrev pub faults_after_a_refused_call_on : Kernel
faults_after_a_refused_call_on = record { rules = linux_6_18_15; machine = record { lowest_built = 16; memory = 245000; stack = 8388608; has_keys = true; huge_always = true; files_are_huge = false; vsyscall = Xonly }; config = config 4096 140737354133504 65530 0 ([]) }

-- faults_after_a_refused_call: its answers
abbrev pub faults_after_a_refused_call : List Step
faults_after_a_refused_call =
    kernel_step 0 (Map 131072 4096 rw 50 (negsuc 0) 0) (Ok (Returned 131072)) None
    ∷ kernel_step 0 (Protect 131073 4096 r) (Err 22) None
    ∷ kernel_step 0 (Touch 32 Write) (Ok (Serves 32 33 rw false 0)) (Some (plain 32 33 rw ∷ []))
    ∷ []

-- faults_read_of_execute_only: the kernel
abbrev pub faults_read_of_execute_only_on : Kernel
faults_read_of_execute_only_on = record { rules = linux_6_18_15; machine = record { lowest_built = 16; memory = 245000; stack = 8388608; has_keys = true; huge_always = true; files_are_huge = false; vsyscall = Xonly }; config = config 4096 140737354133504 65530 0 ([]) }

-- faults_read_of_execute_only: its answers
abbrev pub faults_read_of_execute_only : List Step
faults_read_of_execute_only =
    kernel_step 0 (Map 131072 4096 x 50 (negsuc 0) 0) (Ok (Returned 131072)) None
    ∷ kernel_step 0 (Touch 32 Read) (Ok (Signal PkuErr)) (Some (plain 32 33 x ∷ []))
    ∷ []

-- faults_shared_memory_has_no_end: the kernel
abbrev pub faults_shared_memory_has_no_end_on : Kernel
faults_shared_memory_has_no_end_on = record { rules = linux_6_18_15; machine = record { lowest_built = 16; memory = 245000; stack = 8388608; has_keys = true; huge_always = true; files_are_huge = false; vsyscall = Xonly }; config = config 4096 140737354133504 65530 0 ([]) }

-- faults_shared_memory_has_no_end: its answers
abbrev pub faults_shared_memory_has_no_end : List Step
faults_shared_memory_has_no_end =
    kernel_step 0 (Map 131072 4096 rw 49 (negsuc 0) 0) (Ok (Returned 131072)) None
    ∷ kernel_step 0 (Remap 131072 4096 8192 0 0) (Ok (Returned 131072)) None
    ∷ kernel_step 0 (Touch 33 Write) (Ok (Signal BusErr)) (Some (filed 32 34 rw true 0 1 ∷ []))
    ∷ []

-- faults_write_of_execute_only: the kernel
abbrev pub faults_write_of_execute_only_on : Kernel
faults_write_of_execute_only_on = record { rules = linux_6_18_15; machine = record { lowest_built = 16; memory = 245000; stack = 8388608; has_keys = true; huge_always = true; files_are_huge = false; vsyscall = Xonly }; config = config 4096 140737354133504 65530 0 ([]) }

-- faults_write_of_execute_only: its answers
abbrev pub faults_write_of_execute_only : List Step
faults_write_of_execute_only =
    kernel_step 0 (Map 131072 4096 x 50 (negsuc 0) 0) (Ok (Returned 131072)) None
    ∷ kernel_step 0 (Touch 32 Write) (Ok (Signal PkuErr)) (Some (plain 32 33 x ∷ []))
    ∷ []

-- files_later_write_of_a_shared_readable: the kernel
abbrev pub files_later_write_of_a_shared_readable_on : Kernel
files_later_write_of_a_shared_readable_on = record { rules = linux_6_18_15; machine = record { lowest_built = 16; memory = 245000; stack = 8388608; has_keys = true; huge_always = true; files_are_huge = false; vsyscall = Xonly }; config = config 4096 140737354133504 65530 0 (file_row 3 true false 8192 ∷ []) }

-- files_later_write_of_a_shared_readable: its answers
abbrev pub files_later_write_of_a_shared_readable : List Step
files_later_write_of_a_shared_readable =
    kernel_step 0 (Map 0 8192 r 1 (pos 3) 0) (Ok (Returned 140737354125312)) None
    ∷ kernel_step 0 (Protect 140737354125312 4096 rw) (Err 13) (Some (filed 34359705597 34359705599 r true 0 1 ∷ []))
    ∷ []

-- files_private_of_a_writable_only: the kernel
abbrev pub files_private_of_a_writable_only_on : Kernel
files_private_of_a_writable_only_on = record { rules = linux_6_18_15; machine = record { lowest_built = 16; memory = 245000; stack = 8388608; has_keys = true; huge_always = true; files_are_huge = false; vsyscall = Xonly }; config = config 4096 140737354133504 65530 0 (file_row 3 false true 8192 ∷ []) }

-- files_private_of_a_writable_only: its answers
abbrev pub files_private_of_a_writable_only : List Step
files_private_of_a_writable_only =
    kernel_step 0 (Map 0 8192 r 2 (pos 3) 0) (Err 13) (Some ([]))
    ∷ []

-- files_shared_anonymous_may_have_any_access: the kernel
abbrev pub files_shared_anonymous_may_have_any_access_on : Kernel
files_shared_anonymous_may_have_any_access_on = record { rules = linux_6_18_15; machine = record { lowest_built = 16; memory = 245000; stack = 8388608; has_keys = true; huge_always = true; files_are_huge = false; vsyscall = Xonly }; config = config 4096 140737354133504 65530 0 ([]) }

-- files_shared_anonymous_may_have_any_access: its answers
abbrev pub files_shared_anonymous_may_have_any_access : List Step
files_shared_anonymous_may_have_any_access =
    kernel_step 0 (Map 131072 4096 r 49 (negsuc 0) 0) (Ok (Returned 131072)) None
    ∷ kernel_step 0 (Protect 131072 4096 rwx) (Ok (Returned 0)) (Some (filed 32 33 rwx true 0 1 ∷ []))
    ∷ []

-- files_shared_anonymous_refused_takes_no_number: the kernel
abbrev pub files_shared_anonymous_refused_takes_no_number_on : Kernel
files_shared_anonymous_refused_takes_no_number_on = record { rules = linux_6_18_15; machine = record { lowest_built = 16; memory = 245000; stack = 8388608; has_keys = true; huge_always = true; files_are_huge = false; vsyscall = Xonly }; config = config 4096 140737354133504 65530 0 ([]) }

-- files_shared_anonymous_refused_takes_no_number: its answers
abbrev pub files_shared_anonymous_refused_takes_no_number : List Step
files_shared_anonymous_refused_takes_no_number =
    kernel_step 0 (Map 131072 4096 rw 49 (negsuc 0) 0) (Ok (Returned 131072)) None
    ∷ kernel_step 0 (Map 131073 4096 rw 49 (negsuc 0) 0) (Err 22) None
    ∷ kernel_step 0 (Map 196608 4096 rw 49 (negsuc 0) 0) (Ok (Returned 196608)) (Some (filed 32 33 rw true 0 1 ∷ filed 48 49 rw true 0 2 ∷ []))
    ∷ []

-- fork_eight: the kernel
abbrev pub fork_eight_on : Kernel
fork_eight_on = record { rules = linux_6_18_15; machine = record { lowest_built = 16; memory = 245000; stack = 8388608; has_keys = true; huge_always = true; files_are_huge = false; vsyscall = Xonly }; config = config 4096 140737354133504 65530 0 ([]) }

-- fork_eight: its answers
abbrev pub fork_eight : List Step
fork_eight =
    kernel_step 0 (Fork 1) (Ok (Returned 0)) None
    ∷ kernel_step 0 (Fork 2) (Ok (Returned 0)) None
    ∷ kernel_step 0 (Fork 3) (Ok (Returned 0)) None
    ∷ kernel_step 0 (Fork 4) (Ok (Returned 0)) None
    ∷ kernel_step 0 (Fork 5) (Ok (Returned 0)) None
    ∷ kernel_step 0 (Fork 6) (Ok (Returned 0)) None
    ∷ kernel_step 0 (Fork 7) (Ok (Returned 0)) None
    ∷ kernel_step 0 (Fork 8) (Ok (Returned 0)) (Some ([]))
    ∷ kernel_step 8 (Touch 32 Read) (Ok (Signal MapErr)) (Some ([]))
    ∷ []

-- fork_order_of_children: the kernel
abbrev pub fork_order_of_children_on : Kernel
fork_order_of_children_on = record { rules = linux_6_18_15; machine = record { lowest_built = 16; memory = 245000; stack = 8388608; has_keys = true; huge_always = true; files_are_huge = false; vsyscall = Xonly }; config = config 4096 140737354133504 65530 0 ([]) }

-- fork_order_of_children: its answers
abbrev pub fork_order_of_children : List Step
fork_order_of_children =
    kernel_step 0 (Fork 9) (Ok (Returned 0)) None
    ∷ kernel_step 0 (Fork 8) (Ok (Returned 0)) (Some ([]))
    ∷ kernel_step 8 (Map 131072 4096 r 50 (negsuc 0) 0) (Ok (Returned 131072)) (Some (plain 32 33 r ∷ []))
    ∷ kernel_step 9 (Map 196608 4096 r 50 (negsuc 0) 0) (Ok (Returned 196608)) (Some (plain 48 49 r ∷ []))
    ∷ []

-- fork_sealed_later: the kernel
abbrev pub fork_sealed_later_on : Kernel
fork_sealed_later_on = record { rules = linux_6_18_15; machine = record { lowest_built = 16; memory = 245000; stack = 8388608; has_keys = true; huge_always = true; files_are_huge = false; vsyscall = Xonly }; config = config 4096 140737354133504 65530 0 ([]) }

-- fork_sealed_later: its answers
abbrev pub fork_sealed_later : List Step
fork_sealed_later =
    kernel_step 0 (Map 131072 4096 rw 50 (negsuc 0) 0) (Ok (Returned 131072)) None
    ∷ kernel_step 0 (Fork 7) (Ok (Returned 0)) None
    ∷ kernel_step 0 (Seal 131072 4096 0) (Ok (Returned 0)) None
    ∷ kernel_step 7 (Unmap 131072 4096) (Ok (Returned 0)) (Some ([]))
    ∷ kernel_step 0 (Unmap 131072 4096) (Err 1) (Some (plain 32 33 rw ∷ []))
    ∷ []

-- fork_two_children: the kernel
abbrev pub fork_two_children_on : Kernel
fork_two_children_on = record { rules = linux_6_18_15; machine = record { lowest_built = 16; memory = 245000; stack = 8388608; has_keys = true; huge_always = true; files_are_huge = false; vsyscall = Xonly }; config = config 4096 140737354133504 65530 0 ([]) }

-- fork_two_children: its answers
abbrev pub fork_two_children : List Step
fork_two_children =
    kernel_step 0 (Map 131072 4096 rw 50 (negsuc 0) 0) (Ok (Returned 131072)) None
    ∷ kernel_step 0 (Fork 7) (Ok (Returned 0)) None
    ∷ kernel_step 0 (Fork 8) (Ok (Returned 0)) (Some (plain 32 33 rw ∷ []))
    ∷ kernel_step 7 (Protect 131072 4096 r) (Ok (Returned 0)) None
    ∷ kernel_step 8 (Touch 32 Write) (Ok (Serves 32 33 rw false 0)) (Some (plain 32 33 rw ∷ []))
    ∷ kernel_step 7 (Touch 32 Write) (Ok (Signal AccErr)) (Some (plain 32 33 r ∷ []))
    ∷ []

-- fork_versions: the kernel
abbrev pub fork_versions_on : Kernel
fork_versions_on = record { rules = linux_6_18_15; machine = record { lowest_built = 16; memory = 245000; stack = 8388608; has_keys = true; huge_always = true; files_are_huge = false; vsyscall = Xonly }; config = config 4096 140737354133504 65530 0 ([]) }

-- fork_versions: its answers
abbrev pub fork_versions : List Step
fork_versions =
    kernel_step 0 (Map 131072 4096 r 50 (negsuc 0) 0) (Ok (Returned 131072)) None
    ∷ kernel_step 0 (Map 196608 4096 r 50 (negsuc 0) 0) (Ok (Returned 196608)) None
    ∷ kernel_step 0 (Fork 7) (Ok (Returned 0)) (Some (plain 32 33 r ∷ plain 48 49 r ∷ []))
    ∷ kernel_step 7 (Touch 32 Read) (Ok (Serves 32 33 r false 0)) None
    ∷ kernel_step 7 (Unmap 131072 4096) (Ok (Returned 0)) (Some (plain 48 49 r ∷ []))
    ∷ []

-- growing_next_mapping_goes_below: the kernel
abbrev pub growing_next_mapping_goes_below_on : Kernel
growing_next_mapping_goes_below_on = record { rules = linux_6_18_15; machine = record { lowest_built = 16; memory = 245000; stack = 8388608; has_keys = true; huge_always = true; files_are_huge = false; vsyscall = Xonly }; config = config 4096 140737354133504 65530 0 ([]) }

-- growing_next_mapping_goes_below: its answers
abbrev pub growing_next_mapping_goes_below : List Step
growing_next_mapping_goes_below =
    kernel_step 0 (Map 0 4096 rw 290 (negsuc 0) 0) (Ok (Returned 140737354129408)) None
    ∷ kernel_step 0 (Map 0 4096 r 34 (negsuc 0) 0) (Ok (Returned 140737353076736)) None
    ∷ kernel_step 0 (Touch 34359705597 Write) (Ok (Signal MapErr)) (Some (plain 34359705341 34359705342 r ∷ plain 34359705598 34359705599 rw ∷ []))
    ∷ []

-- growing_sealed_grows: the kernel
abbrev pub growing_sealed_grows_on : Kernel
growing_sealed_grows_on = record { rules = linux_6_18_15; machine = record { lowest_built = 16; memory = 245000; stack = 8388608; has_keys = true; huge_always = true; files_are_huge = false; vsyscall = Xonly }; config = config 4096 140737354133504 65530 0 ([]) }

-- growing_sealed_grows: its answers
abbrev pub growing_sealed_grows : List Step
growing_sealed_grows =
    kernel_step 0 (Map 131072 4096 rw 306 (negsuc 0) 0) (Ok (Returned 131072)) None
    ∷ kernel_step 0 (Seal 131072 4096 0) (Ok (Returned 0)) None
    ∷ kernel_step 0 (Touch 31 Write) (Ok (Serves 31 33 rw false 0)) None
    ∷ kernel_step 0 (Protect 126976 4096 r) (Err 1) (Some (plain 31 33 rw ∷ []))
    ∷ []

-- limits_mremap_on_the_way: the kernel
abbrev pub limits_mremap_on_the_way_on : Kernel
limits_mremap_on_the_way_on = record { rules = linux_6_18_15; machine = record { lowest_built = 16; memory = 245000; stack = 8388608; has_keys = true; huge_always = true; files_are_huge = false; vsyscall = Xonly }; config = config 4096 140737354133504 2 0 ([]) }

-- limits_mremap_on_the_way: its answers
abbrev pub limits_mremap_on_the_way : List Step
limits_mremap_on_the_way =
    kernel_step 0 (Map 131072 4096 rw 50 (negsuc 0) 0) (Ok (Returned 131072)) None
    ∷ kernel_step 0 (Map 262144 4096 r 50 (negsuc 0) 0) (Ok (Returned 262144)) None
    ∷ kernel_step 0 (Remap 131072 4096 4096 3 262144) (Err 12) (Some (plain 32 33 rw ∷ plain 64 65 r ∷ []))
    ∷ []

-- merging_across_a_split: the kernel
abbrev pub merging_across_a_split_on : Kernel
merging_across_a_split_on = record { rules = linux_6_18_15; machine = record { lowest_built = 16; memory = 245000; stack = 8388608; has_keys = true; huge_always = true; files_are_huge = false; vsyscall = Xonly }; config = config 4096 140737354133504 65530 0 ([]) }

-- merging_across_a_split: its answers
abbrev pub merging_across_a_split : List Step
merging_across_a_split =
    kernel_step 0 (Map 131072 16384 rw 50 (negsuc 0) 0) (Ok (Returned 131072)) None
    ∷ kernel_step 0 (Protect 135168 8192 r) (Ok (Returned 0)) None
    ∷ kernel_step 0 (Protect 135168 4096 rw) (Ok (Returned 0)) None
    ∷ kernel_step 0 (Protect 139264 4096 rw) (Ok (Returned 0)) (Some (plain 32 36 rw ∷ []))
    ∷ []

-- merging_fills_a_hole_otherwise: the kernel
abbrev pub merging_fills_a_hole_otherwise_on : Kernel
merging_fills_a_hole_otherwise_on = record { rules = linux_6_18_15; machine = record { lowest_built = 16; memory = 245000; stack = 8388608; has_keys = true; huge_always = true; files_are_huge = false; vsyscall = Xonly }; config = config 4096 140737354133504 65530 0 (file_row 3 true false 65536 ∷ []) }

-- merging_fills_a_hole_otherwise: its answers
abbrev pub merging_fills_a_hole_otherwise : List Step
merging_fills_a_hole_otherwise =
    kernel_step 0 (Map 131072 12288 r 18 (pos 3) 0) (Ok (Returned 131072)) None
    ∷ kernel_step 0 (Unmap 135168 4096) (Ok (Returned 0)) None
    ∷ kernel_step 0 (Map 135168 4096 r 18 (pos 3) 8192) (Ok (Returned 135168)) (Some (filed 32 33 r false 0 1 ∷ filed 33 34 r false 8192 1 ∷ filed 34 35 r false 8192 1 ∷ []))
    ∷ []

-- mmap_descriptor_greatest: the kernel
abbrev pub mmap_descriptor_greatest_on : Kernel
mmap_descriptor_greatest_on = record { rules = linux_6_18_15; machine = record { lowest_built = 16; memory = 245000; stack = 8388608; has_keys = true; huge_always = true; files_are_huge = false; vsyscall = Xonly }; config = config 4096 140737354133504 65530 0 ([]) }

-- mmap_descriptor_greatest: its answers
abbrev pub mmap_descriptor_greatest : List Step
mmap_descriptor_greatest =
    kernel_step 0 (Map 0 4096 r 1 (pos 2147483647) 0) (Err 9) (Some ([]))
    ∷ []

-- mmap_offset_overflows: the kernel
abbrev pub mmap_offset_overflows_on : Kernel
mmap_offset_overflows_on = record { rules = linux_6_18_15; machine = record { lowest_built = 16; memory = 245000; stack = 8388608; has_keys = true; huge_always = true; files_are_huge = false; vsyscall = Xonly }; config = config 4096 140737354133504 65530 0 (file_row 3 true false 8192 ∷ []) }

-- mmap_offset_overflows: its answers
abbrev pub mmap_offset_overflows : List Step
mmap_offset_overflows =
    kernel_step 0 (Map 0 4096 r 2 (pos 3) 9223372036854771712) (Err 75) (Some ([]))
    ∷ []

-- mprotect_may_not_be_written: the kernel
abbrev pub mprotect_may_not_be_written_on : Kernel
mprotect_may_not_be_written_on = record { rules = linux_6_18_15; machine = record { lowest_built = 16; memory = 245000; stack = 8388608; has_keys = true; huge_always = true; files_are_huge = false; vsyscall = Xonly }; config = config 4096 140737354133504 65530 0 (file_row 3 true false 8192 ∷ []) }

-- mprotect_may_not_be_written: its answers
abbrev pub mprotect_may_not_be_written : List Step
mprotect_may_not_be_written =
    kernel_step 0 (Map 131072 8192 r 17 (pos 3) 0) (Ok (Returned 131072)) None
    ∷ kernel_step 0 (Protect 131072 8192 rw) (Err 13) (Some (filed 32 34 r true 0 1 ∷ []))
    ∷ []

-- mremap_first_page_not_mapped: the kernel
abbrev pub mremap_first_page_not_mapped_on : Kernel
mremap_first_page_not_mapped_on = record { rules = linux_6_18_15; machine = record { lowest_built = 16; memory = 245000; stack = 8388608; has_keys = true; huge_always = true; files_are_huge = false; vsyscall = Xonly }; config = config 4096 140737354133504 65530 0 ([]) }

-- mremap_first_page_not_mapped: its answers
abbrev pub mremap_first_page_not_mapped : List Step
mremap_first_page_not_mapped =
    kernel_step 0 (Map 135168 4096 rw 50 (negsuc 0) 0) (Ok (Returned 135168)) None
    ∷ kernel_step 0 (Remap 131072 8192 12288 1 0) (Err 14) (Some (plain 33 34 rw ∷ []))
    ∷ []

-- mremap_limit_grow_in_place: the kernel
abbrev pub mremap_limit_grow_in_place_on : Kernel
mremap_limit_grow_in_place_on = record { rules = linux_6_18_15; machine = record { lowest_built = 16; memory = 245000; stack = 8388608; has_keys = true; huge_always = true; files_are_huge = false; vsyscall = Xonly }; config = config 4096 140737354133504 1 0 ([]) }

-- mremap_limit_grow_in_place: its answers
abbrev pub mremap_limit_grow_in_place : List Step
mremap_limit_grow_in_place =
    kernel_step 0 (Map 131072 4096 rw 50 (negsuc 0) 0) (Ok (Returned 131072)) None
    ∷ kernel_step 0 (Remap 131072 4096 8192 0 0) (Ok (Returned 131072)) (Some (plain 32 34 rw ∷ []))
    ∷ []

-- mremap_two_mappings_to_a_place: the kernel
abbrev pub mremap_two_mappings_to_a_place_on : Kernel
mremap_two_mappings_to_a_place_on = record { rules = linux_6_18_15; machine = record { lowest_built = 16; memory = 245000; stack = 8388608; has_keys = true; huge_always = true; files_are_huge = false; vsyscall = Xonly }; config = config 4096 140737354133504 65530 0 ([]) }

-- mremap_two_mappings_to_a_place: its answers
abbrev pub mremap_two_mappings_to_a_place : List Step
mremap_two_mappings_to_a_place =
    kernel_step 0 (Map 131072 4096 rw 50 (negsuc 0) 0) (Ok (Returned 131072)) None
    ∷ kernel_step 0 (Map 135168 4096 r 50 (negsuc 0) 0) (Ok (Returned 135168)) None
    ∷ kernel_step 0 (Remap 131072 8192 8192 3 262144) (Ok (Returned 262144)) (Some (plain 64 65 rw ∷ plain 65 66 r ∷ []))
    ∷ []

-- mseal_fixed_over_it: the kernel
abbrev pub mseal_fixed_over_it_on : Kernel
mseal_fixed_over_it_on = record { rules = linux_6_18_15; machine = record { lowest_built = 16; memory = 245000; stack = 8388608; has_keys = true; huge_always = true; files_are_huge = false; vsyscall = Xonly }; config = config 4096 140737354133504 65530 0 ([]) }

-- mseal_fixed_over_it: its answers
abbrev pub mseal_fixed_over_it : List Step
mseal_fixed_over_it =
    kernel_step 0 (Map 131072 8192 rw 50 (negsuc 0) 0) (Ok (Returned 131072)) None
    ∷ kernel_step 0 (Seal 131072 8192 0) (Ok (Returned 0)) None
    ∷ kernel_step 0 (Map 131072 4096 r 50 (negsuc 0) 0) (Err 1) (Some (plain 32 34 rw ∷ []))
    ∷ []

-- mseal_flag_greatest: the kernel
abbrev pub mseal_flag_greatest_on : Kernel
mseal_flag_greatest_on = record { rules = linux_6_18_15; machine = record { lowest_built = 16; memory = 245000; stack = 8388608; has_keys = true; huge_always = true; files_are_huge = false; vsyscall = Xonly }; config = config 4096 140737354133504 65530 0 ([]) }

-- mseal_flag_greatest: its answers
abbrev pub mseal_flag_greatest : List Step
mseal_flag_greatest =
    kernel_step 0 (Map 131072 4096 rw 50 (negsuc 0) 0) (Ok (Returned 131072)) None
    ∷ kernel_step 0 (Seal 131072 4096 18446744073709551615) (Err 22) (Some (plain 32 33 rw ∷ []))
    ∷ []

-- mseal_hole_after: the kernel
abbrev pub mseal_hole_after_on : Kernel
mseal_hole_after_on = record { rules = linux_6_18_15; machine = record { lowest_built = 16; memory = 245000; stack = 8388608; has_keys = true; huge_always = true; files_are_huge = false; vsyscall = Xonly }; config = config 4096 140737354133504 65530 0 ([]) }

-- mseal_hole_after: its answers
abbrev pub mseal_hole_after : List Step
mseal_hole_after =
    kernel_step 0 (Map 131072 4096 rw 50 (negsuc 0) 0) (Ok (Returned 131072)) None
    ∷ kernel_step 0 (Seal 131072 8192 0) (Err 12) None
    ∷ kernel_step 0 (Unmap 131072 4096) (Ok (Returned 0)) (Some ([]))
    ∷ []

-- mseal_limit_comes_first: the kernel
abbrev pub mseal_limit_comes_first_on : Kernel
mseal_limit_comes_first_on = record { rules = linux_6_18_15; machine = record { lowest_built = 16; memory = 245000; stack = 8388608; has_keys = true; huge_always = true; files_are_huge = false; vsyscall = Xonly }; config = config 4096 140737354133504 1 0 ([]) }

-- mseal_limit_comes_first: its answers
abbrev pub mseal_limit_comes_first : List Step
mseal_limit_comes_first =
    kernel_step 0 (Map 131072 12288 rw 50 (negsuc 0) 0) (Ok (Returned 131072)) None
    ∷ kernel_step 0 (Seal 131072 12288 0) (Ok (Returned 0)) None
    ∷ kernel_step 0 (Unmap 135168 4096) (Err 12) (Some (plain 32 35 rw ∷ []))
    ∷ []

-- mseal_mremap_shrinks_over_a_sealed_tail: the kernel
abbrev pub mseal_mremap_shrinks_over_a_sealed_tail_on : Kernel
mseal_mremap_shrinks_over_a_sealed_tail_on = record { rules = linux_6_18_15; machine = record { lowest_built = 16; memory = 245000; stack = 8388608; has_keys = true; huge_always = true; files_are_huge = false; vsyscall = Xonly }; config = config 4096 140737354133504 65530 0 ([]) }

-- mseal_mremap_shrinks_over_a_sealed_tail: its answers
abbrev pub mseal_mremap_shrinks_over_a_sealed_tail : List Step
mseal_mremap_shrinks_over_a_sealed_tail =
    kernel_step 0 (Map 131072 12288 rw 50 (negsuc 0) 0) (Ok (Returned 131072)) None
    ∷ kernel_step 0 (Seal 139264 4096 0) (Ok (Returned 0)) None
    ∷ kernel_step 0 (Remap 131072 12288 4096 0 0) (Err 1) (Some (plain 32 33 rw ∷ plain 33 34 rw ∷ plain 34 35 rw ∷ []))
    ∷ []

-- mseal_munmap_refused_otherwise: the kernel
abbrev pub mseal_munmap_refused_otherwise_on : Kernel
mseal_munmap_refused_otherwise_on = record { rules = linux_6_18_15; machine = record { lowest_built = 16; memory = 245000; stack = 8388608; has_keys = true; huge_always = true; files_are_huge = false; vsyscall = Xonly }; config = config 4096 140737354133504 65530 0 ([]) }

-- mseal_munmap_refused_otherwise: its answers
abbrev pub mseal_munmap_refused_otherwise : List Step
mseal_munmap_refused_otherwise =
    kernel_step 0 (Map 131072 4096 rw 50 (negsuc 0) 0) (Ok (Returned 131072)) None
    ∷ kernel_step 0 (Seal 131072 4096 0) (Ok (Returned 0)) None
    ∷ kernel_step 0 (Unmap 131072 0) (Err 22) None
    ∷ kernel_step 0 (Unmap 131073 4096) (Err 22) (Some (plain 32 33 rw ∷ []))
    ∷ []

-- mseal_part_then_all: the kernel
abbrev pub mseal_part_then_all_on : Kernel
mseal_part_then_all_on = record { rules = linux_6_18_15; machine = record { lowest_built = 16; memory = 245000; stack = 8388608; has_keys = true; huge_always = true; files_are_huge = false; vsyscall = Xonly }; config = config 4096 140737354133504 65530 0 ([]) }

-- mseal_part_then_all: its answers
abbrev pub mseal_part_then_all : List Step
mseal_part_then_all =
    kernel_step 0 (Map 131072 12288 rw 50 (negsuc 0) 0) (Ok (Returned 131072)) None
    ∷ kernel_step 0 (Seal 135168 4096 0) (Ok (Returned 0)) None
    ∷ kernel_step 0 (Seal 131072 12288 0) (Ok (Returned 0)) (Some (plain 32 34 rw ∷ plain 34 35 rw ∷ []))
    ∷ []

-- munmap_limit_cut_at_the_end: the kernel
abbrev pub munmap_limit_cut_at_the_end_on : Kernel
munmap_limit_cut_at_the_end_on = record { rules = linux_6_18_15; machine = record { lowest_built = 16; memory = 245000; stack = 8388608; has_keys = true; huge_always = true; files_are_huge = false; vsyscall = Xonly }; config = config 4096 140737354133504 1 0 ([]) }

-- munmap_limit_cut_at_the_end: its answers
abbrev pub munmap_limit_cut_at_the_end : List Step
munmap_limit_cut_at_the_end =
    kernel_step 0 (Map 131072 12288 r 50 (negsuc 0) 0) (Ok (Returned 131072)) None
    ∷ kernel_step 0 (Unmap 139264 4096) (Ok (Returned 0)) (Some (plain 32 34 r ∷ []))
    ∷ []

-- munmap_limit_refused_keeps: the kernel
abbrev pub munmap_limit_refused_keeps_on : Kernel
munmap_limit_refused_keeps_on = record { rules = linux_6_18_15; machine = record { lowest_built = 16; memory = 245000; stack = 8388608; has_keys = true; huge_always = true; files_are_huge = false; vsyscall = Xonly }; config = config 4096 140737354133504 2 0 ([]) }

-- munmap_limit_refused_keeps: its answers
abbrev pub munmap_limit_refused_keeps : List Step
munmap_limit_refused_keeps =
    kernel_step 0 (Map 131072 12288 r 50 (negsuc 0) 0) (Ok (Returned 131072)) None
    ∷ kernel_step 0 (Map 196608 4096 r 50 (negsuc 0) 0) (Ok (Returned 196608)) None
    ∷ kernel_step 0 (Unmap 135168 4096) (Err 12) (Some (plain 32 35 r ∷ plain 48 49 r ∷ []))
    ∷ []

-- order_mremap_new_place_below_lowest_before_ranges_overlap: the kernel
abbrev pub order_mremap_new_place_below_lowest_before_ranges_overlap_on : Kernel
order_mremap_new_place_below_lowest_before_ranges_overlap_on = record { rules = linux_6_18_15; machine = record { lowest_built = 16; memory = 245000; stack = 8388608; has_keys = true; huge_always = true; files_are_huge = false; vsyscall = Xonly }; config = config 4096 140737354133504 65530 0 (file_row 3 true false 8192 ∷ file_row 4 false true 8192 ∷ []) }

-- order_mremap_new_place_below_lowest_before_ranges_overlap: its answers
abbrev pub order_mremap_new_place_below_lowest_before_ranges_overlap : List Step
order_mremap_new_place_below_lowest_before_ranges_overlap =
    kernel_step 0 (Map 131072 8192 rw 50 (negsuc 0) 0) (Ok (Returned 131072)) None
    ∷ kernel_step 0 (Map 196608 4096 r 17 (pos 3) 0) (Ok (Returned 196608)) None
    ∷ kernel_step 0 (Remap 32768 8192 8192 3 36864) (Err 22) (Some (plain 32 34 rw ∷ filed 48 49 r true 0 1 ∷ []))
    ∷ []

-- placement_first_search_one_more: the kernel
abbrev pub placement_first_search_one_more_on : Kernel
placement_first_search_one_more_on = record { rules = linux_6_18_15; machine = record { lowest_built = 16; memory = 245000; stack = 8388608; has_keys = true; huge_always = true; files_are_huge = false; vsyscall = Xonly }; config = config 4096 140737354133504 65530 0 ([]) }

-- placement_first_search_one_more: its answers
abbrev pub placement_first_search_one_more : List Step
placement_first_search_one_more =
    kernel_step 0 (Map 0 140737354072064 none 34 (negsuc 0) 0) (Err 12) (Some ([]))
    ∷ []

-- placement_hint_one_below_min: the kernel
abbrev pub placement_hint_one_below_min_on : Kernel
placement_hint_one_below_min_on = record { rules = linux_6_18_15; machine = record { lowest_built = 16; memory = 245000; stack = 8388608; has_keys = true; huge_always = true; files_are_huge = false; vsyscall = Xonly }; config = config 4096 140737354133504 65530 0 ([]) }

-- placement_hint_one_below_min: its answers
abbrev pub placement_hint_one_below_min : List Step
placement_hint_one_below_min =
    kernel_step 0 (Map 61440 4096 rw 34 (negsuc 0) 0) (Ok (Returned 65536)) (Some (plain 16 17 rw ∷ []))
    ∷ []

-- threads_growth_and_map: the kernel
abbrev pub threads_growth_and_map_on : Kernel
threads_growth_and_map_on = record { rules = linux_6_18_15; machine = record { lowest_built = 16; memory = 245000; stack = 8388608; has_keys = true; huge_always = true; files_are_huge = false; vsyscall = Xonly }; config = config 4096 140737354133504 65530 0 ([]) }

-- threads_growth_and_map: its answers
abbrev pub threads_growth_and_map : List Step
threads_growth_and_map =
    kernel_step 0 (Map 131072 4096 rw 306 (negsuc 0) 0) (Ok (Returned 131072)) None
    ∷ kernel_step 0 (Touch 31 Write) (Ok (Serves 31 33 rw false 0)) None
    ∷ kernel_step 0 (Map 126976 4096 r 1048610 (negsuc 0) 0) (Err 17) (Some (plain 31 33 rw ∷ []))
    ∷ []

-- The definitions answer all of these traces as Linux 6.18.15 did.
pub record AllOfLinux_6_18_15 : Type 0 where
  pub brk_beside_plain_memory_holds : IsAsRecorded brk_beside_plain_memory_on brk_beside_plain_memory
  pub brk_raise_beside_a_sealed_page_holds : IsAsRecorded brk_raise_beside_a_sealed_page_on brk_raise_beside_a_sealed_page
  pub faults_after_a_partial_mprotect_holds : IsAsRecorded faults_after_a_partial_mprotect_on faults_after_a_partial_mprotect
  pub faults_after_a_refused_call_holds : IsAsRecorded faults_after_a_refused_call_on faults_after_a_refused_call
  pub faults_read_of_execute_only_holds : IsAsRecorded faults_read_of_execute_only_on faults_read_of_execute_only
  pub faults_shared_memory_has_no_end_holds : IsAsRecorded faults_shared_memory_has_no_end_on faults_shared_memory_has_no_end
  pub faults_write_of_execute_only_holds : IsAsRecorded faults_write_of_execute_only_on faults_write_of_execute_only
  pub files_later_write_of_a_shared_readable_holds : IsAsRecorded files_later_write_of_a_shared_readable_on files_later_write_of_a_shared_readable
  pub files_private_of_a_writable_only_holds : IsAsRecorded files_private_of_a_writable_only_on files_private_of_a_writable_only
  pub files_shared_anonymous_may_have_any_access_holds : IsAsRecorded files_shared_anonymous_may_have_any_access_on files_shared_anonymous_may_have_any_access
  pub files_shared_anonymous_refused_takes_no_number_holds : IsAsRecorded files_shared_anonymous_refused_takes_no_number_on files_shared_anonymous_refused_takes_no_number
  pub fork_eight_holds : IsAsRecorded fork_eight_on fork_eight
  pub fork_order_of_children_holds : IsAsRecorded fork_order_of_children_on fork_order_of_children
  pub fork_sealed_later_holds : IsAsRecorded fork_sealed_later_on fork_sealed_later
  pub fork_two_children_holds : IsAsRecorded fork_two_children_on fork_two_children
  pub fork_versions_holds : IsAsRecorded fork_versions_on fork_versions
  pub growing_next_mapping_goes_below_holds : IsAsRecorded growing_next_mapping_goes_below_on growing_next_mapping_goes_below
  pub growing_sealed_grows_holds : IsAsRecorded growing_sealed_grows_on growing_sealed_grows
  pub limits_mremap_on_the_way_holds : IsAsRecorded limits_mremap_on_the_way_on limits_mremap_on_the_way
  pub merging_across_a_split_holds : IsAsRecorded merging_across_a_split_on merging_across_a_split
  pub merging_fills_a_hole_otherwise_holds : IsAsRecorded merging_fills_a_hole_otherwise_on merging_fills_a_hole_otherwise
  pub mmap_descriptor_greatest_holds : IsAsRecorded mmap_descriptor_greatest_on mmap_descriptor_greatest
  pub mmap_offset_overflows_holds : IsAsRecorded mmap_offset_overflows_on mmap_offset_overflows
  pub mprotect_may_not_be_written_holds : IsAsRecorded mprotect_may_not_be_written_on mprotect_may_not_be_written
  pub mremap_first_page_not_mapped_holds : IsAsRecorded mremap_first_page_not_mapped_on mremap_first_page_not_mapped
  pub mremap_limit_grow_in_place_holds : IsAsRecorded mremap_limit_grow_in_place_on mremap_limit_grow_in_place
  pub mremap_two_mappings_to_a_place_holds : IsAsRecorded mremap_two_mappings_to_a_place_on mremap_two_mappings_to_a_place
  pub mseal_fixed_over_it_holds : IsAsRecorded mseal_fixed_over_it_on mseal_fixed_over_it
  pub mseal_flag_greatest_holds : IsAsRecorded mseal_flag_greatest_on mseal_flag_greatest
  pub mseal_hole_after_holds : IsAsRecorded mseal_hole_after_on mseal_hole_after
  pub mseal_limit_comes_first_holds : IsAsRecorded mseal_limit_comes_first_on mseal_limit_comes_first
  pub mseal_mremap_shrinks_over_a_sealed_tail_holds : IsAsRecorded mseal_mremap_shrinks_over_a_sealed_tail_on mseal_mremap_shrinks_over_a_sealed_tail
  pub mseal_munmap_refused_otherwise_holds : IsAsRecorded mseal_munmap_refused_otherwise_on mseal_munmap_refused_otherwise
  pub mseal_part_then_all_holds : IsAsRecorded mseal_part_then_all_on mseal_part_then_all
  pub munmap_limit_cut_at_the_end_holds : IsAsRecorded munmap_limit_cut_at_the_end_on munmap_limit_cut_at_the_end
  pub munmap_limit_refused_keeps_holds : IsAsRecorded munmap_limit_refused_keeps_on munmap_limit_refused_keeps
  pub order_mremap_new_place_below_lowest_before_ranges_overlap_holds : IsAsRecorded order_mremap_new_place_below_lowest_before_ranges_overlap_on order_mremap_new_place_below_lowest_before_ranges_overlap
  pub placement_first_search_one_more_holds : IsAsRecorded placement_first_search_one_more_on placement_first_search_one_more
  pub placement_hint_one_below_min_holds : IsAsRecorded placement_hint_one_below_min_on placement_hint_one_below_min
  pub threads_growth_and_map_holds : IsAsRecorded threads_growth_and_map_on threads_growth_and_map
