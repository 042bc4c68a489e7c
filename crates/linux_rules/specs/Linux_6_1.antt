-- What Linux 6.1.192 answered to 41 traces. Made by dev/make-linux-rules from suite/.
use Rattle.std.specs.Prelude.{List, ◌∷◌, [], true, false, pos, negsuc, Some, None, Ok, Err}
use Rattle.mm_types.specs.declared.area.Access.TheVariants.{Read, Write, Exec}
use Rattle.linux_rules.specs.declared.kernel.Kernel.{Kernel}
use Rattle.linux_rules.specs.declared.kernel.Vsyscall.TheVariants.{Xonly}
use Rattle.linux_rules.specs.declared.verdict.LinuxVerdict.TheVariants.{MapErr, AccErr, PkuErr, BusErr}
use Rattle.linux_rules.specs.Versions.{linux_6_1}
use Rattle.linux_rules.specs.Steps.{Map, Unmap, Protect, Remap, Break, Touch, Fork, Returned, Serves, Signal, Step, none, r, w, x, rw, rx, rwx, plain, heap, filed, kernel_step, file_row, config}
use Rattle.linux_rules.specs.Recorded.{IsAsRecorded}

-- faults_after_a_refused_call: the kernel
abbrev pub faults_after_a_refused_call_on : Kernel
faults_after_a_refused_call_on = record { rules = linux_6_1; machine = record { lowest_built = 16; memory = 245000; stack = 8388608; has_keys = true; huge_always = true; files_are_huge = false; vsyscall = Xonly }; config = config 4096 140737354133504 65530 0 ([]) }

-- faults_after_a_refused_call: its answers
abbrev pub faults_after_a_refused_call : List Step
faults_after_a_refused_call =
    kernel_step 0 (Map 131072 4096 rw 50 (negsuc 0) 0) (Ok (Returned 131072)) None
    ∷ kernel_step 0 (Protect 131073 4096 r) (Err 22) None
    ∷ kernel_step 0 (Touch 32 Write) (Ok (Serves 32 33 rw false 0)) (Some (plain 32 33 rw ∷ []))
    ∷ []

-- faults_read_of_execute_only: the kernel
abbrev pub faults_read_of_execute_only_on : Kernel
faults_read_of_execute_only_on = record { rules = linux_6_1; machine = record { lowest_built = 16; memory = 245000; stack = 8388608; has_keys = true; huge_always = true; files_are_huge = false; vsyscall = Xonly }; config = config 4096 140737354133504 65530 0 ([]) }

-- faults_read_of_execute_only: its answers
abbrev pub faults_read_of_execute_only : List Step
faults_read_of_execute_only =
    kernel_step 0 (Map 131072 4096 x 50 (negsuc 0) 0) (Ok (Returned 131072)) None
    ∷ kernel_step 0 (Touch 32 Read) (Ok (Signal PkuErr)) (Some (plain 32 33 x ∷ []))
    ∷ []

-- faults_shared_memory_has_no_end: the kernel
abbrev pub faults_shared_memory_has_no_end_on : Kernel
faults_shared_memory_has_no_end_on = record { rules = linux_6_1; machine = record { lowest_built = 16; memory = 245000; stack = 8388608; has_keys = true; huge_always = true; files_are_huge = false; vsyscall = Xonly }; config = config 4096 140737354133504 65530 0 ([]) }

-- faults_shared_memory_has_no_end: its answers
abbrev pub faults_shared_memory_has_no_end : List Step
faults_shared_memory_has_no_end =
    kernel_step 0 (Map 131072 4096 rw 49 (negsuc 0) 0) (Ok (Returned 131072)) None
    ∷ kernel_step 0 (Remap 131072 4096 8192 0 0) (Ok (Returned 131072)) None
    ∷ kernel_step 0 (Touch 33 Write) (Ok (Signal BusErr)) (Some (filed 32 34 rw true 0 1 ∷ []))
    ∷ []

-- files_later_write_of_a_shared_readable: the kernel
abbrev pub files_later_write_of_a_shared_readable_on : Kernel
files_later_write_of_a_shared_readable_on = record { rules = linux_6_1; machine = record { lowest_built = 16; memory = 245000; stack = 8388608; has_keys = true; huge_always = true; files_are_huge = false; vsyscall = Xonly }; config = config 4096 140737354133504 65530 0 (file_row 3 true false 8192 ∷ []) }

-- files_later_write_of_a_shared_readable: its answers
abbrev pub files_later_write_of_a_shared_readable : List Step
files_later_write_of_a_shared_readable =
    kernel_step 0 (Map 0 8192 r 1 (pos 3) 0) (Ok (Returned 140737354125312)) None
    ∷ kernel_step 0 (Protect 140737354125312 4096 rw) (Err 13) (Some (filed 34359705597 34359705599 r true 0 1 ∷ []))
    ∷ []

-- files_shared_anonymous_split: the kernel
abbrev pub files_shared_anonymous_split_on : Kernel
files_shared_anonymous_split_on = record { rules = linux_6_1; machine = record { lowest_built = 16; memory = 245000; stack = 8388608; has_keys = true; huge_always = true; files_are_huge = false; vsyscall = Xonly }; config = config 4096 140737354133504 65530 0 ([]) }

-- files_shared_anonymous_split: its answers
abbrev pub files_shared_anonymous_split : List Step
files_shared_anonymous_split =
    kernel_step 0 (Map 131072 12288 rw 49 (negsuc 0) 0) (Ok (Returned 131072)) None
    ∷ kernel_step 0 (Unmap 135168 4096) (Ok (Returned 0)) (Some (filed 32 33 rw true 0 1 ∷ filed 34 35 rw true 8192 1 ∷ []))
    ∷ []

-- fork_eight: the kernel
abbrev pub fork_eight_on : Kernel
fork_eight_on = record { rules = linux_6_1; machine = record { lowest_built = 16; memory = 245000; stack = 8388608; has_keys = true; huge_always = true; files_are_huge = false; vsyscall = Xonly }; config = config 4096 140737354133504 65530 0 ([]) }

-- fork_eight: its answers
abbrev pub fork_eight : List Step
fork_eight =
    kernel_step 0 (Fork 1) (Ok (Returned 0)) None
    ∷ kernel_step 0 (Fork 2) (Ok (Returned 0)) None
    ∷ kernel_step 0 (Fork 3) (Ok (Returned 0)) None
    ∷ kernel_step 0 (Fork 4) (Ok (Returned 0)) None
    ∷ kernel_step 0 (Fork 5) (Ok (Returned 0)) None
    ∷ kernel_step 0 (Fork 6) (Ok (Returned 0)) None
    ∷ kernel_step 0 (Fork 7) (Ok (Returned 0)) None
    ∷ kernel_step 0 (Fork 8) (Ok (Returned 0)) (Some ([]))
    ∷ kernel_step 8 (Touch 32 Read) (Ok (Signal MapErr)) (Some ([]))
    ∷ []

-- fork_order_of_children: the kernel
abbrev pub fork_order_of_children_on : Kernel
fork_order_of_children_on = record { rules = linux_6_1; machine = record { lowest_built = 16; memory = 245000; stack = 8388608; has_keys = true; huge_always = true; files_are_huge = false; vsyscall = Xonly }; config = config 4096 140737354133504 65530 0 ([]) }

-- fork_order_of_children: its answers
abbrev pub fork_order_of_children : List Step
fork_order_of_children =
    kernel_step 0 (Fork 9) (Ok (Returned 0)) None
    ∷ kernel_step 0 (Fork 8) (Ok (Returned 0)) (Some ([]))
    ∷ kernel_step 8 (Map 131072 4096 r 50 (negsuc 0) 0) (Ok (Returned 131072)) (Some (plain 32 33 r ∷ []))
    ∷ kernel_step 9 (Map 196608 4096 r 50 (negsuc 0) 0) (Ok (Returned 196608)) (Some (plain 48 49 r ∷ []))
    ∷ []

-- fork_second_fork_later: the kernel
abbrev pub fork_second_fork_later_on : Kernel
fork_second_fork_later_on = record { rules = linux_6_1; machine = record { lowest_built = 16; memory = 245000; stack = 8388608; has_keys = true; huge_always = true; files_are_huge = false; vsyscall = Xonly }; config = config 4096 140737354133504 65530 0 ([]) }

-- fork_second_fork_later: its answers
abbrev pub fork_second_fork_later : List Step
fork_second_fork_later =
    kernel_step 0 (Fork 7) (Ok (Returned 0)) None
    ∷ kernel_step 0 (Map 131072 4096 rw 50 (negsuc 0) 0) (Ok (Returned 131072)) None
    ∷ kernel_step 0 (Fork 8) (Ok (Returned 0)) (Some (plain 32 33 rw ∷ []))
    ∷ kernel_step 7 (Touch 32 Read) (Ok (Signal MapErr)) (Some ([]))
    ∷ kernel_step 8 (Touch 32 Read) (Ok (Serves 32 33 rw false 0)) (Some (plain 32 33 rw ∷ []))
    ∷ []

-- fork_two_children: the kernel
abbrev pub fork_two_children_on : Kernel
fork_two_children_on = record { rules = linux_6_1; machine = record { lowest_built = 16; memory = 245000; stack = 8388608; has_keys = true; huge_always = true; files_are_huge = false; vsyscall = Xonly }; config = config 4096 140737354133504 65530 0 ([]) }

-- fork_two_children: its answers
abbrev pub fork_two_children : List Step
fork_two_children =
    kernel_step 0 (Map 131072 4096 rw 50 (negsuc 0) 0) (Ok (Returned 131072)) None
    ∷ kernel_step 0 (Fork 7) (Ok (Returned 0)) None
    ∷ kernel_step 0 (Fork 8) (Ok (Returned 0)) (Some (plain 32 33 rw ∷ []))
    ∷ kernel_step 7 (Protect 131072 4096 r) (Ok (Returned 0)) None
    ∷ kernel_step 8 (Touch 32 Write) (Ok (Serves 32 33 rw false 0)) (Some (plain 32 33 rw ∷ []))
    ∷ kernel_step 7 (Touch 32 Write) (Ok (Signal AccErr)) (Some (plain 32 33 r ∷ []))
    ∷ []

-- fork_versions: the kernel
abbrev pub fork_versions_on : Kernel
fork_versions_on = record { rules = linux_6_1; machine = record { lowest_built = 16; memory = 245000; stack = 8388608; has_keys = true; huge_always = true; files_are_huge = false; vsyscall = Xonly }; config = config 4096 140737354133504 65530 0 ([]) }

-- fork_versions: its answers
abbrev pub fork_versions : List Step
fork_versions =
    kernel_step 0 (Map 131072 4096 r 50 (negsuc 0) 0) (Ok (Returned 131072)) None
    ∷ kernel_step 0 (Map 196608 4096 r 50 (negsuc 0) 0) (Ok (Returned 196608)) None
    ∷ kernel_step 0 (Fork 7) (Ok (Returned 0)) (Some (plain 32 33 r ∷ plain 48 49 r ∷ []))
    ∷ kernel_step 7 (Touch 32 Read) (Ok (Serves 32 33 r false 0)) None
    ∷ kernel_step 7 (Unmap 131072 4096) (Ok (Returned 0)) (Some (plain 48 49 r ∷ []))
    ∷ []

-- growing_next_mapping_goes_below: the kernel
abbrev pub growing_next_mapping_goes_below_on : Kernel
growing_next_mapping_goes_below_on = record { rules = linux_6_1; machine = record { lowest_built = 16; memory = 245000; stack = 8388608; has_keys = true; huge_always = true; files_are_huge = false; vsyscall = Xonly }; config = config 4096 140737354133504 65530 0 ([]) }

-- growing_next_mapping_goes_below: its answers
abbrev pub growing_next_mapping_goes_below : List Step
growing_next_mapping_goes_below =
    kernel_step 0 (Map 0 4096 rw 290 (negsuc 0) 0) (Ok (Returned 140737354129408)) None
    ∷ kernel_step 0 (Map 0 4096 r 34 (negsuc 0) 0) (Ok (Returned 140737353076736)) None
    ∷ kernel_step 0 (Touch 34359705597 Write) (Ok (Signal MapErr)) (Some (plain 34359705341 34359705342 r ∷ plain 34359705598 34359705599 rw ∷ []))
    ∷ []

-- limits_min_one_page: the kernel
abbrev pub limits_min_one_page_on : Kernel
limits_min_one_page_on = record { rules = linux_6_1; machine = record { lowest_built = 16; memory = 245000; stack = 8388608; has_keys = true; huge_always = true; files_are_huge = false; vsyscall = Xonly }; config = config 4096 140737354133504 65530 0 ([]) }

-- limits_min_one_page: its answers
abbrev pub limits_min_one_page : List Step
limits_min_one_page =
    kernel_step 0 (Map 4096 4096 r 50 (negsuc 0) 0) (Ok (Returned 4096)) None
    ∷ kernel_step 0 (Map 0 4096 r 50 (negsuc 0) 0) (Err 1) (Some (plain 1 2 r ∷ []))
    ∷ []

-- mmap_descriptor_greatest: the kernel
abbrev pub mmap_descriptor_greatest_on : Kernel
mmap_descriptor_greatest_on = record { rules = linux_6_1; machine = record { lowest_built = 16; memory = 245000; stack = 8388608; has_keys = true; huge_always = true; files_are_huge = false; vsyscall = Xonly }; config = config 4096 140737354133504 65530 0 ([]) }

-- mmap_descriptor_greatest: its answers
abbrev pub mmap_descriptor_greatest : List Step
mmap_descriptor_greatest =
    kernel_step 0 (Map 0 4096 r 1 (pos 2147483647) 0) (Err 9) (Some ([]))
    ∷ []

-- mmap_offset_overflows: the kernel
abbrev pub mmap_offset_overflows_on : Kernel
mmap_offset_overflows_on = record { rules = linux_6_1; machine = record { lowest_built = 16; memory = 245000; stack = 8388608; has_keys = true; huge_always = true; files_are_huge = false; vsyscall = Xonly }; config = config 4096 140737354133504 65530 0 (file_row 3 true false 8192 ∷ []) }

-- mmap_offset_overflows: its answers
abbrev pub mmap_offset_overflows : List Step
mmap_offset_overflows =
    kernel_step 0 (Map 0 4096 r 2 (pos 3) 9223372036854771712) (Err 75) (Some ([]))
    ∷ []

-- mprotect_may_not_be_written: the kernel
abbrev pub mprotect_may_not_be_written_on : Kernel
mprotect_may_not_be_written_on = record { rules = linux_6_1; machine = record { lowest_built = 16; memory = 245000; stack = 8388608; has_keys = true; huge_always = true; files_are_huge = false; vsyscall = Xonly }; config = config 4096 140737354133504 65530 0 (file_row 3 true false 8192 ∷ []) }

-- mprotect_may_not_be_written: its answers
abbrev pub mprotect_may_not_be_written : List Step
mprotect_may_not_be_written =
    kernel_step 0 (Map 131072 8192 r 17 (pos 3) 0) (Ok (Returned 131072)) None
    ∷ kernel_step 0 (Protect 131072 8192 rw) (Err 13) (Some (filed 32 34 r true 0 1 ∷ []))
    ∷ []

-- mremap_place_zero: the kernel
abbrev pub mremap_place_zero_on : Kernel
mremap_place_zero_on = record { rules = linux_6_1; machine = record { lowest_built = 16; memory = 245000; stack = 8388608; has_keys = true; huge_always = true; files_are_huge = false; vsyscall = Xonly }; config = config 4096 140737354133504 65530 0 ([]) }

-- mremap_place_zero: its answers
abbrev pub mremap_place_zero : List Step
mremap_place_zero =
    kernel_step 0 (Map 131072 4096 rw 50 (negsuc 0) 0) (Ok (Returned 131072)) None
    ∷ kernel_step 0 (Remap 131072 4096 4096 3 0) (Err 1) (Some (plain 32 33 rw ∷ []))
    ∷ []

-- munmap_at_the_end: the kernel
abbrev pub munmap_at_the_end_on : Kernel
munmap_at_the_end_on = record { rules = linux_6_1; machine = record { lowest_built = 16; memory = 245000; stack = 8388608; has_keys = true; huge_always = true; files_are_huge = false; vsyscall = Xonly }; config = config 4096 140737354133504 65530 0 ([]) }

-- munmap_at_the_end: its answers
abbrev pub munmap_at_the_end : List Step
munmap_at_the_end =
    kernel_step 0 (Unmap 140737488351232 4096) (Err 22) (Some ([]))
    ∷ []

-- munmap_limit_cut_at_the_end: the kernel
abbrev pub munmap_limit_cut_at_the_end_on : Kernel
munmap_limit_cut_at_the_end_on = record { rules = linux_6_1; machine = record { lowest_built = 16; memory = 245000; stack = 8388608; has_keys = true; huge_always = true; files_are_huge = false; vsyscall = Xonly }; config = config 4096 140737354133504 1 0 ([]) }

-- munmap_limit_cut_at_the_end: its answers
abbrev pub munmap_limit_cut_at_the_end : List Step
munmap_limit_cut_at_the_end =
    kernel_step 0 (Map 131072 12288 r 50 (negsuc 0) 0) (Ok (Returned 131072)) None
    ∷ kernel_step 0 (Unmap 139264 4096) (Ok (Returned 0)) (Some (plain 32 34 r ∷ []))
    ∷ []

-- munmap_limit_refused_keeps: the kernel
abbrev pub munmap_limit_refused_keeps_on : Kernel
munmap_limit_refused_keeps_on = record { rules = linux_6_1; machine = record { lowest_built = 16; memory = 245000; stack = 8388608; has_keys = true; huge_always = true; files_are_huge = false; vsyscall = Xonly }; config = config 4096 140737354133504 2 0 ([]) }

-- munmap_limit_refused_keeps: its answers
abbrev pub munmap_limit_refused_keeps : List Step
munmap_limit_refused_keeps =
    kernel_step 0 (Map 131072 12288 r 50 (negsuc 0) 0) (Ok (Returned 131072)) None
    ∷ kernel_step 0 (Map 196608 4096 r 50 (negsuc 0) 0) (Ok (Returned 196608)) None
    ∷ kernel_step 0 (Unmap 135168 4096) (Err 12) (Some (plain 32 35 r ∷ plain 48 49 r ∷ []))
    ∷ []

-- placement_hint_one_below_min: the kernel
abbrev pub placement_hint_one_below_min_on : Kernel
placement_hint_one_below_min_on = record { rules = linux_6_1; machine = record { lowest_built = 16; memory = 245000; stack = 8388608; has_keys = true; huge_always = true; files_are_huge = false; vsyscall = Xonly }; config = config 4096 140737354133504 65530 0 ([]) }

-- placement_hint_one_below_min: its answers
abbrev pub placement_hint_one_below_min : List Step
placement_hint_one_below_min =
    kernel_step 0 (Map 61440 4096 rw 34 (negsuc 0) 0) (Ok (Returned 65536)) (Some (plain 16 17 rw ∷ []))
    ∷ []

-- hard_3: the kernel
abbrev pub hard_3_on : Kernel
hard_3_on = record { rules = linux_6_1; machine = record { lowest_built = 16; memory = 245000; stack = 8388608; has_keys = true; huge_always = true; files_are_huge = false; vsyscall = Xonly }; config = config 4096 140737354133504 65530 0 ([]) }

-- hard_3: its answers
abbrev pub hard_3 : List Step
hard_3 =
    kernel_step 0 (Map 1097728 12288 rw 50 (negsuc 0) 0) (Ok (Returned 1097728)) (Some (plain 268 271 rw ∷ []))
    ∷ kernel_step 0 (Map 1097728 12288 rw 50 (negsuc 0) 0) (Ok (Returned 1097728)) (Some (plain 268 271 rw ∷ []))
    ∷ kernel_step 0 (Remap 1097728 12288 8192 0 0) (Ok (Returned 1097728)) (Some (plain 268 270 rw ∷ []))
    ∷ kernel_step 0 (Remap 1097728 4096 8192 3 1105920) (Ok (Returned 1105920)) (Some (plain 269 272 rw ∷ []))
    ∷ kernel_step 0 (Touch 274 Read) (Ok (Signal MapErr)) None
    ∷ kernel_step 0 (Map 1085440 16384 rw 49 (negsuc 0) 0) (Ok (Returned 1085440)) (Some (filed 265 269 rw true 0 1 ∷ plain 269 272 rw ∷ []))
    ∷ kernel_step 0 (Protect 1060864 8192 rw) (Err 12) (Some (filed 265 269 rw true 0 1 ∷ plain 269 272 rw ∷ []))
    ∷ kernel_step 0 (Protect 1085440 16384 r) (Ok (Returned 0)) (Some (filed 265 269 r true 0 1 ∷ plain 269 272 rw ∷ []))
    ∷ kernel_step 0 (Remap 1085440 16384 24576 1 0) (Ok (Returned 140737354108928)) (Some (plain 269 272 rw ∷ filed 34359705593 34359705599 r true 0 1 ∷ []))
    ∷ kernel_step 0 (Map 1105920 4096 rw 1048610 (negsuc 0) 0) (Err 17) (Some (plain 269 272 rw ∷ filed 34359705593 34359705599 r true 0 1 ∷ []))
    ∷ kernel_step 0 (Touch 270 Write) (Ok (Serves 269 272 rw false 0)) None
    ∷ kernel_step 0 (Protect 1101824 4096 r) (Ok (Returned 0)) (Some (plain 269 270 r ∷ plain 270 272 rw ∷ filed 34359705593 34359705599 r true 0 1 ∷ []))
    ∷ kernel_step 0 (Map 1064960 12288 rw 50 (negsuc 0) 0) (Ok (Returned 1064960)) (Some (plain 260 263 rw ∷ plain 269 270 r ∷ plain 270 272 rw ∷ filed 34359705593 34359705599 r true 0 1 ∷ []))
    ∷ kernel_step 0 (Map 1097728 4096 r 50 (negsuc 0) 0) (Ok (Returned 1097728)) (Some (plain 260 263 rw ∷ plain 268 269 r ∷ plain 269 270 r ∷ plain 270 272 rw ∷ filed 34359705593 34359705599 r true 0 1 ∷ []))
    ∷ kernel_step 0 (Touch 271 Write) (Ok (Serves 270 272 rw false 0)) None
    ∷ kernel_step 0 (Touch 264 Write) (Ok (Signal MapErr)) None
    ∷ kernel_step 0 (Map 1064960 12288 r 32802 (negsuc 0) 0) (Ok (Returned 140737354096640)) (Some (plain 260 263 rw ∷ plain 268 269 r ∷ plain 269 270 r ∷ plain 270 272 rw ∷ plain 34359705590 34359705593 r ∷ filed 34359705593 34359705599 r true 0 1 ∷ []))
    ∷ kernel_step 0 (Touch 270 Write) (Ok (Serves 270 272 rw false 0)) None
    ∷ kernel_step 0 (Touch 270 Write) (Ok (Serves 270 272 rw false 0)) None
    ∷ kernel_step 0 (Protect 1097728 4096 rw) (Ok (Returned 0)) (Some (plain 260 263 rw ∷ plain 268 269 rw ∷ plain 269 270 r ∷ plain 270 272 rw ∷ plain 34359705590 34359705593 r ∷ filed 34359705593 34359705599 r true 0 1 ∷ []))
    ∷ kernel_step 0 (Map 1101824 4096 r 16433 (negsuc 0) 0) (Ok (Returned 1101824)) (Some (plain 260 263 rw ∷ plain 268 269 rw ∷ filed 269 270 r true 0 2 ∷ plain 270 272 rw ∷ plain 34359705590 34359705593 r ∷ filed 34359705593 34359705599 r true 0 1 ∷ []))
    ∷ kernel_step 0 (Map 140737354108928 16384 r 49 (negsuc 0) 0) (Ok (Returned 140737354108928)) (Some (plain 260 263 rw ∷ plain 268 269 rw ∷ filed 269 270 r true 0 2 ∷ plain 270 272 rw ∷ plain 34359705590 34359705593 r ∷ filed 34359705593 34359705597 r true 0 3 ∷ filed 34359705597 34359705599 r true 16384 1 ∷ []))
    ∷ kernel_step 0 (Map 140737354096640 12288 rw 50 (negsuc 0) 0) (Ok (Returned 140737354096640)) (Some (plain 260 263 rw ∷ plain 268 269 rw ∷ filed 269 270 r true 0 2 ∷ plain 270 272 rw ∷ plain 34359705590 34359705593 rw ∷ filed 34359705593 34359705597 r true 0 3 ∷ filed 34359705597 34359705599 r true 16384 1 ∷ []))
    ∷ kernel_step 0 (Protect 1101824 4096 rw) (Ok (Returned 0)) (Some (plain 260 263 rw ∷ plain 268 269 rw ∷ filed 269 270 rw true 0 2 ∷ plain 270 272 rw ∷ plain 34359705590 34359705593 rw ∷ filed 34359705593 34359705597 r true 0 3 ∷ filed 34359705597 34359705599 r true 16384 1 ∷ []))
    ∷ kernel_step 0 (Map 1069056 16384 r 50 (negsuc 0) 0) (Ok (Returned 1069056)) (Some (plain 260 261 rw ∷ plain 261 265 r ∷ plain 268 269 rw ∷ filed 269 270 rw true 0 2 ∷ plain 270 272 rw ∷ plain 34359705590 34359705593 rw ∷ filed 34359705593 34359705597 r true 0 3 ∷ filed 34359705597 34359705599 r true 16384 1 ∷ []))
    ∷ kernel_step 0 (Touch 270 Write) (Ok (Serves 270 272 rw false 0)) None
    ∷ kernel_step 0 (Remap 1114112 16384 20480 3 1114112) (Err 14) (Some (plain 260 261 rw ∷ plain 261 265 r ∷ plain 268 269 rw ∷ filed 269 270 rw true 0 2 ∷ plain 270 272 rw ∷ plain 34359705590 34359705593 rw ∷ filed 34359705593 34359705597 r true 0 3 ∷ filed 34359705597 34359705599 r true 16384 1 ∷ []))
    ∷ kernel_step 0 (Map 1060864 8192 rw 16434 (negsuc 0) 0) (Ok (Returned 1060864)) (Some (plain 259 261 rw ∷ plain 261 265 r ∷ plain 268 269 rw ∷ filed 269 270 rw true 0 2 ∷ plain 270 272 rw ∷ plain 34359705590 34359705593 rw ∷ filed 34359705593 34359705597 r true 0 3 ∷ filed 34359705597 34359705599 r true 16384 1 ∷ []))
    ∷ kernel_step 0 (Protect 1110016 4096 r) (Ok (Returned 0)) (Some (plain 259 261 rw ∷ plain 261 265 r ∷ plain 268 269 rw ∷ filed 269 270 rw true 0 2 ∷ plain 270 271 rw ∷ plain 271 272 r ∷ plain 34359705590 34359705593 rw ∷ filed 34359705593 34359705597 r true 0 3 ∷ filed 34359705597 34359705599 r true 16384 1 ∷ []))
    ∷ kernel_step 0 (Map 1093632 16384 r 50 (negsuc 0) 0) (Ok (Returned 1093632)) (Some (plain 259 261 rw ∷ plain 261 265 r ∷ plain 267 271 r ∷ plain 271 272 r ∷ plain 34359705590 34359705593 rw ∷ filed 34359705593 34359705597 r true 0 3 ∷ filed 34359705597 34359705599 r true 16384 1 ∷ []))
    ∷ []

-- written_12: the kernel
abbrev pub written_12_on : Kernel
written_12_on = record { rules = linux_6_1; machine = record { lowest_built = 16; memory = 245000; stack = 8388608; has_keys = true; huge_always = true; files_are_huge = false; vsyscall = Xonly }; config = config 4096 140737354133504 65530 1064960 (file_row 3 true true 20000 ∷ []) }

-- written_12: its answers
abbrev pub written_12 : List Step
written_12 =
    kernel_step 0 (Map 1077248 8192 rwx 50 (negsuc 0) 0) (Ok (Returned 1077248)) (Some (plain 263 265 rwx ∷ []))
    ∷ kernel_step 0 (Map 1064960 8192 rwx 50 (negsuc 0) 0) (Ok (Returned 1064960)) (Some (heap 260 262 rwx ∷ plain 263 265 rwx ∷ []))
    ∷ kernel_step 0 (Touch 258 Write) (Ok (Signal MapErr)) None
    ∷ kernel_step 0 (Map 1064960 16384 rw 50 (negsuc 0) 0) (Ok (Returned 1064960)) (Some (heap 260 264 rw ∷ plain 264 265 rwx ∷ []))
    ∷ kernel_step 0 (Break 1056768) (Ok (Returned 1064960)) (Some (heap 260 264 rw ∷ plain 264 265 rwx ∷ []))
    ∷ kernel_step 0 (Remap 1052672 4096 8192 1 0) (Err 14) (Some (heap 260 264 rw ∷ plain 264 265 rwx ∷ []))
    ∷ kernel_step 0 (Protect 1064960 12288 rwx) (Ok (Returned 0)) (Some (heap 260 263 rwx ∷ plain 263 264 rw ∷ plain 264 265 rwx ∷ []))
    ∷ kernel_step 0 (Touch 262 Read) (Ok (Serves 260 263 rwx false 0)) None
    ∷ kernel_step 0 (Remap 1056768 12288 12288 3 1576960) (Err 14) (Some (heap 260 263 rwx ∷ plain 263 264 rw ∷ plain 264 265 rwx ∷ []))
    ∷ kernel_step 0 (Break 1073152) (Ok (Returned 1064960)) (Some (heap 260 263 rwx ∷ plain 263 264 rw ∷ plain 264 265 rwx ∷ []))
    ∷ kernel_step 0 (Touch 263 Write) (Ok (Serves 263 264 rw false 0)) None
    ∷ kernel_step 0 (Touch 264 Write) (Ok (Serves 264 265 rwx false 0)) None
    ∷ kernel_step 0 (Touch 264 Write) (Ok (Serves 264 265 rwx false 0)) None
    ∷ kernel_step 0 (Fork 1) (Ok (Returned 0)) None
    ∷ kernel_step 0 (Protect 1052672 12288 rw) (Err 12) (Some (heap 260 263 rwx ∷ plain 263 264 rw ∷ plain 264 265 rwx ∷ []))
    ∷ kernel_step 1 (Map 1064960 8192 rw 50 (negsuc 0) 0) (Ok (Returned 1064960)) (Some (heap 260 262 rw ∷ plain 262 263 rwx ∷ plain 263 264 rw ∷ plain 264 265 rwx ∷ []))
    ∷ kernel_step 1 (Protect 1048576 16384 rw) (Err 12) (Some (heap 260 262 rw ∷ plain 262 263 rwx ∷ plain 263 264 rw ∷ plain 264 265 rwx ∷ []))
    ∷ kernel_step 0 (Protect 1064960 4096 r) (Ok (Returned 0)) (Some (heap 260 261 r ∷ plain 261 263 rwx ∷ plain 263 264 rw ∷ plain 264 265 rwx ∷ []))
    ∷ kernel_step 1 (Touch 263 Write) (Ok (Serves 263 264 rw false 0)) None
    ∷ kernel_step 1 (Map 1056768 12288 rwx 50 (negsuc 0) 0) (Ok (Returned 1056768)) (Some (heap 258 261 rwx ∷ plain 261 262 rw ∷ plain 262 263 rwx ∷ plain 263 264 rw ∷ plain 264 265 rwx ∷ []))
    ∷ kernel_step 1 (Touch 264 Write) (Ok (Serves 264 265 rwx false 0)) None
    ∷ kernel_step 0 (Touch 260 Read) (Ok (Serves 260 261 r false 0)) None
    ∷ kernel_step 0 (Protect 1081344 20480 rw) (Err 12) (Some (heap 260 261 r ∷ plain 261 263 rwx ∷ plain 263 265 rw ∷ []))
    ∷ kernel_step 0 (Map 1060864 8192 r 50 (negsuc 0) 0) (Ok (Returned 1060864)) (Some (heap 259 261 r ∷ plain 261 263 rwx ∷ plain 263 265 rw ∷ []))
    ∷ kernel_step 1 (Map 1048576 8192 rw 50 (negsuc 0) 0) (Ok (Returned 1048576)) (Some (plain 256 258 rw ∷ heap 258 261 rwx ∷ plain 261 262 rw ∷ plain 262 263 rwx ∷ plain 263 264 rw ∷ plain 264 265 rwx ∷ []))
    ∷ kernel_step 0 (Touch 260 Write) (Ok (Signal AccErr)) None
    ∷ kernel_step 1 (Touch 262 Write) (Ok (Serves 262 263 rwx false 0)) None
    ∷ kernel_step 1 (Remap 1576960 12288 12288 3 1056768) (Err 14) (Some (plain 256 258 rw ∷ heap 258 261 rwx ∷ plain 261 262 rw ∷ plain 262 263 rwx ∷ plain 263 264 rw ∷ plain 264 265 rwx ∷ []))
    ∷ kernel_step 0 (Break 1069056) (Ok (Returned 1064960)) (Some (heap 259 261 r ∷ plain 261 263 rwx ∷ plain 263 265 rw ∷ []))
    ∷ kernel_step 0 (Protect 1064960 16384 r) (Ok (Returned 0)) (Some (heap 259 261 r ∷ plain 261 263 r ∷ plain 263 264 r ∷ plain 264 265 rw ∷ []))
    ∷ []

-- written_limit_15: the kernel
abbrev pub written_limit_15_on : Kernel
written_limit_15_on = record { rules = linux_6_1; machine = record { lowest_built = 16; memory = 245000; stack = 8388608; has_keys = true; huge_always = true; files_are_huge = false; vsyscall = Xonly }; config = config 4096 140737354133504 12 0 (file_row 3 true false 0 ∷ []) }

-- written_limit_15: its answers
abbrev pub written_limit_15 : List Step
written_limit_15 =
    kernel_step 0 (Map 1056768 4096 r 50 (negsuc 0) 0) (Ok (Returned 1056768)) (Some (plain 258 259 r ∷ []))
    ∷ kernel_step 0 (Map 1048576 8192 rw 18 (pos 3) 0) (Ok (Returned 1048576)) (Some (filed 256 258 rw false 0 1 ∷ plain 258 259 r ∷ []))
    ∷ kernel_step 0 (Fork 1) (Ok (Returned 0)) None
    ∷ kernel_step 0 (Protect 1073152 8192 r) (Err 12) (Some (filed 256 258 rw false 0 1 ∷ plain 258 259 r ∷ []))
    ∷ kernel_step 0 (Touch 256 Write) (Ok (Signal BusErr)) None
    ∷ kernel_step 0 (Map 1060864 12288 rw 50 (negsuc 0) 0) (Ok (Returned 1060864)) (Some (filed 256 258 rw false 0 1 ∷ plain 258 259 r ∷ plain 259 262 rw ∷ []))
    ∷ kernel_step 0 (Remap 1064960 12288 12288 3 1572864) (Err 14) (Some (filed 256 258 rw false 0 1 ∷ plain 258 259 r ∷ plain 259 262 rw ∷ []))
    ∷ kernel_step 0 (Protect 1060864 4096 rw) (Ok (Returned 0)) (Some (filed 256 258 rw false 0 1 ∷ plain 258 259 r ∷ plain 259 262 rw ∷ []))
    ∷ kernel_step 0 (Map 1052672 12288 r 18 (pos 3) 4096) (Ok (Returned 1052672)) (Some (filed 256 257 rw false 0 1 ∷ filed 257 260 r false 4096 1 ∷ plain 260 262 rw ∷ []))
    ∷ kernel_step 1 (Touch 258 Write) (Ok (Signal AccErr)) None
    ∷ kernel_step 1 (Touch 256 Write) (Ok (Signal BusErr)) None
    ∷ kernel_step 0 (Touch 256 Write) (Ok (Signal BusErr)) None
    ∷ kernel_step 1 (Touch 258 Write) (Ok (Signal AccErr)) None
    ∷ kernel_step 1 (Map 1077248 4096 rw 50 (negsuc 0) 0) (Ok (Returned 1077248)) (Some (filed 256 258 rw false 0 1 ∷ plain 258 259 r ∷ plain 263 264 rw ∷ []))
    ∷ kernel_step 1 (Remap 1572864 12288 12288 3 1064960) (Err 14) (Some (filed 256 258 rw false 0 1 ∷ plain 258 259 r ∷ plain 263 264 rw ∷ []))
    ∷ kernel_step 0 (Protect 1069056 12288 r) (Err 12) (Some (filed 256 257 rw false 0 1 ∷ filed 257 260 r false 4096 1 ∷ plain 260 261 rw ∷ plain 261 262 r ∷ []))
    ∷ kernel_step 0 (Remap 1069056 4096 4096 3 1609728) (Ok (Returned 1609728)) (Some (filed 256 257 rw false 0 1 ∷ filed 257 260 r false 4096 1 ∷ plain 260 261 rw ∷ plain 393 394 r ∷ []))
    ∷ kernel_step 0 (Remap 1609728 4096 4096 3 1069056) (Ok (Returned 1069056)) (Some (filed 256 257 rw false 0 1 ∷ filed 257 260 r false 4096 1 ∷ plain 260 261 rw ∷ plain 261 262 r ∷ []))
    ∷ kernel_step 0 (Touch 259 Read) (Ok (Signal BusErr)) None
    ∷ kernel_step 1 (Remap 1056768 24576 24576 3 1609728) (Err 14) (Some (filed 256 258 rw false 0 1 ∷ plain 258 259 r ∷ plain 263 264 rw ∷ []))
    ∷ kernel_step 1 (Map 1077248 16384 r 18 (pos 3) 28672) (Ok (Returned 1077248)) (Some (filed 256 258 rw false 0 1 ∷ plain 258 259 r ∷ filed 263 267 r false 28672 1 ∷ []))
    ∷ kernel_step 1 (Touch 265 Write) (Ok (Signal AccErr)) None
    ∷ kernel_step 0 (Fork 2) (Ok (Returned 0)) None
    ∷ kernel_step 2 (Remap 1609728 24576 24576 3 1056768) (Err 14) (Some (filed 256 257 rw false 0 1 ∷ filed 257 260 r false 4096 1 ∷ plain 260 261 rw ∷ plain 261 262 r ∷ []))
    ∷ kernel_step 1 (Map 1060864 16384 r 18 (pos 3) 12288) (Ok (Returned 1060864)) (Some (filed 256 258 rw false 0 1 ∷ plain 258 259 r ∷ filed 259 267 r false 12288 1 ∷ []))
    ∷ kernel_step 0 (Map 1069056 8192 rw 18 (pos 3) 20480) (Ok (Returned 1069056)) (Some (filed 256 257 rw false 0 1 ∷ filed 257 260 r false 4096 1 ∷ plain 260 261 rw ∷ filed 261 263 rw false 20480 1 ∷ []))
    ∷ kernel_step 2 (Map 1077248 12288 rw 18 (pos 3) 28672) (Ok (Returned 1077248)) (Some (filed 256 257 rw false 0 1 ∷ filed 257 260 r false 4096 1 ∷ plain 260 261 rw ∷ plain 261 262 r ∷ filed 263 266 rw false 28672 1 ∷ []))
    ∷ kernel_step 1 (Protect 1056768 4096 r) (Ok (Returned 0)) (Some (filed 256 258 rw false 0 1 ∷ plain 258 259 r ∷ filed 259 267 r false 12288 1 ∷ []))
    ∷ kernel_step 1 (Touch 262 Write) (Ok (Signal AccErr)) (Some (filed 256 258 rw false 0 1 ∷ plain 258 259 r ∷ filed 259 267 r false 12288 1 ∷ []))
    ∷ kernel_step 2 (Touch 257 Write) (Ok (Signal AccErr)) (Some (filed 256 257 rw false 0 1 ∷ filed 257 260 r false 4096 1 ∷ plain 260 261 rw ∷ plain 261 262 r ∷ filed 263 266 rw false 28672 1 ∷ []))
    ∷ []

-- written_28: the kernel
abbrev pub written_28_on : Kernel
written_28_on = record { rules = linux_6_1; machine = record { lowest_built = 16; memory = 245000; stack = 8388608; has_keys = true; huge_always = true; files_are_huge = false; vsyscall = Xonly }; config = config 4096 140737354133504 65530 0 ([]) }

-- written_28: its answers
abbrev pub written_28 : List Step
written_28 =
    kernel_step 0 (Map 1056768 12288 rw 50 (negsuc 0) 0) (Ok (Returned 1056768)) (Some (plain 258 261 rw ∷ []))
    ∷ kernel_step 0 (Map 1048576 8192 rw 50 (negsuc 0) 0) (Ok (Returned 1048576)) (Some (plain 256 261 rw ∷ []))
    ∷ kernel_step 0 (Touch 260 Write) (Ok (Serves 256 261 rw false 0)) None
    ∷ kernel_step 0 (Protect 1048576 20480 rw) (Ok (Returned 0)) (Some (plain 256 261 rw ∷ []))
    ∷ kernel_step 0 (Map 1060864 8192 rw 50 (negsuc 0) 0) (Ok (Returned 1060864)) (Some (plain 256 261 rw ∷ []))
    ∷ kernel_step 0 (Remap 1064960 12288 12288 3 1572864) (Err 14) (Some (plain 256 261 rw ∷ []))
    ∷ kernel_step 0 (Touch 256 Read) (Ok (Serves 256 261 rw false 0)) None
    ∷ kernel_step 0 (Remap 1572864 12288 12288 3 1064960) (Err 14) (Some (plain 256 261 rw ∷ []))
    ∷ kernel_step 0 (Touch 257 Exec) (Ok (Signal AccErr)) None
    ∷ kernel_step 0 (Remap 1060864 12288 12288 3 1576960) (Err 14) (Some (plain 256 261 rw ∷ []))
    ∷ kernel_step 0 (Remap 1048576 8192 8192 3 1572864) (Ok (Returned 1572864)) (Some (plain 258 261 rw ∷ plain 384 386 rw ∷ []))
    ∷ kernel_step 0 (Touch 258 Write) (Ok (Serves 258 261 rw false 0)) None
    ∷ kernel_step 0 (Protect 1056768 8192 rw) (Ok (Returned 0)) (Some (plain 258 261 rw ∷ plain 384 386 rw ∷ []))
    ∷ kernel_step 0 (Map 1060864 4096 rw 50 (negsuc 0) 0) (Ok (Returned 1060864)) (Some (plain 258 261 rw ∷ plain 384 386 rw ∷ []))
    ∷ kernel_step 0 (Map 1064960 4096 rw 50 (negsuc 0) 0) (Ok (Returned 1064960)) (Some (plain 258 261 rw ∷ plain 384 386 rw ∷ []))
    ∷ kernel_step 0 (Touch 259 Exec) (Ok (Signal AccErr)) None
    ∷ kernel_step 0 (Remap 1572864 8192 8192 3 1048576) (Ok (Returned 1048576)) (Some (plain 256 261 rw ∷ []))
    ∷ kernel_step 0 (Touch 386 Write) (Ok (Signal MapErr)) None
    ∷ kernel_step 0 (Touch 260 Write) (Ok (Serves 256 261 rw false 0)) None
    ∷ kernel_step 0 (Fork 1) (Ok (Returned 0)) None
    ∷ kernel_step 1 (Touch 386 Write) (Ok (Signal MapErr)) None
    ∷ kernel_step 0 (Protect 1060864 4096 rw) (Ok (Returned 0)) (Some (plain 256 261 rw ∷ []))
    ∷ kernel_step 0 (Map 1052672 16384 rw 50 (negsuc 0) 0) (Ok (Returned 1052672)) (Some (plain 256 261 rw ∷ []))
    ∷ kernel_step 1 (Touch 258 Write) (Ok (Serves 256 261 rw false 0)) None
    ∷ kernel_step 0 (Remap 1048576 20480 20480 3 1576960) (Ok (Returned 1576960)) (Some (plain 385 390 rw ∷ []))
    ∷ kernel_step 0 (Remap 1060864 16384 20480 0 0) (Err 14) (Some (plain 385 390 rw ∷ []))
    ∷ kernel_step 1 (Touch 386 Write) (Ok (Signal MapErr)) None
    ∷ kernel_step 0 (Remap 1585152 4096 4096 3 1069056) (Ok (Returned 1069056)) (Some (plain 261 262 rw ∷ plain 385 387 rw ∷ plain 388 390 rw ∷ []))
    ∷ kernel_step 0 (Map 1052672 12288 rw 50 (negsuc 0) 0) (Ok (Returned 1052672)) (Some (plain 257 260 rw ∷ plain 261 262 rw ∷ plain 385 387 rw ∷ plain 388 390 rw ∷ []))
    ∷ kernel_step 1 (Protect 1056768 8192 rw) (Ok (Returned 0)) (Some (plain 256 261 rw ∷ []))
    ∷ []

-- written_30: the kernel
abbrev pub written_30_on : Kernel
written_30_on = record { rules = linux_6_1; machine = record { lowest_built = 16; memory = 245000; stack = 8388608; has_keys = true; huge_always = true; files_are_huge = false; vsyscall = Xonly }; config = config 4096 140737354133504 65530 1056768 ([]) }

-- written_30: its answers
abbrev pub written_30 : List Step
written_30 =
    kernel_step 0 (Map 1056768 12288 rw 50 (negsuc 0) 0) (Ok (Returned 1056768)) (Some (heap 258 261 rw ∷ []))
    ∷ kernel_step 0 (Map 1064960 12288 rw 50 (negsuc 0) 0) (Ok (Returned 1064960)) (Some (heap 258 263 rw ∷ []))
    ∷ kernel_step 0 (Remap 1056768 12288 12288 3 1044480) (Ok (Returned 1044480)) (Some (heap 255 258 rw ∷ plain 261 263 rw ∷ []))
    ∷ kernel_step 0 (Remap 1064960 12288 12288 3 1048576) (Err 14) (Some (heap 255 258 rw ∷ plain 261 263 rw ∷ []))
    ∷ kernel_step 0 (Touch 256 Write) (Ok (Serves 255 258 rw false 0)) None
    ∷ kernel_step 0 (Protect 1052672 8192 rw) (Err 12) (Some (heap 255 258 rw ∷ plain 261 263 rw ∷ []))
    ∷ kernel_step 0 (Touch 256 Write) (Ok (Serves 255 258 rw false 0)) None
    ∷ kernel_step 0 (Protect 1069056 24576 rw) (Err 12) (Some (heap 255 258 rw ∷ plain 261 263 rw ∷ []))
    ∷ kernel_step 0 (Touch 256 Write) (Ok (Serves 255 258 rw false 0)) None
    ∷ kernel_step 0 (Touch 257 Write) (Ok (Serves 255 258 rw false 0)) None
    ∷ kernel_step 0 (Protect 1052672 4096 rw) (Ok (Returned 0)) (Some (heap 255 258 rw ∷ plain 261 263 rw ∷ []))
    ∷ kernel_step 0 (Protect 1048576 8192 rw) (Ok (Returned 0)) (Some (heap 255 258 rw ∷ plain 261 263 rw ∷ []))
    ∷ kernel_step 0 (Map 1060864 12288 rw 50 (negsuc 0) 0) (Ok (Returned 1060864)) (Some (heap 255 258 rw ∷ plain 259 263 rw ∷ []))
    ∷ kernel_step 0 (Protect 1044480 28672 rw) (Err 12) (Some (heap 255 258 rw ∷ plain 259 263 rw ∷ []))
    ∷ kernel_step 0 (Touch 257 Write) (Ok (Serves 255 258 rw false 0)) None
    ∷ kernel_step 0 (Touch 255 Write) (Ok (Serves 255 258 rw false 0)) None
    ∷ kernel_step 0 (Protect 1064960 12288 rw) (Ok (Returned 0)) (Some (heap 255 258 rw ∷ plain 259 263 rw ∷ []))
    ∷ kernel_step 0 (Touch 260 Read) (Ok (Serves 259 263 rw false 0)) None
    ∷ kernel_step 0 (Protect 1048576 8192 rw) (Ok (Returned 0)) (Some (heap 255 258 rw ∷ plain 259 263 rw ∷ []))
    ∷ kernel_step 0 (Fork 1) (Ok (Returned 0)) None
    ∷ kernel_step 0 (Map 1060864 4096 rw 50 (negsuc 0) 0) (Ok (Returned 1060864)) (Some (heap 255 258 rw ∷ plain 259 263 rw ∷ []))
    ∷ kernel_step 0 (Break 1060864) (Ok (Returned 1056768)) (Some (heap 255 258 rw ∷ plain 259 263 rw ∷ []))
    ∷ kernel_step 1 (Touch 259 Write) (Ok (Serves 259 263 rw false 0)) None
    ∷ kernel_step 1 (Remap 1073152 4096 16384 1 0) (Ok (Returned 1073152)) (Some (heap 255 258 rw ∷ plain 259 266 rw ∷ []))
    ∷ kernel_step 0 (Touch 259 Read) (Ok (Serves 259 263 rw false 0)) None
    ∷ kernel_step 0 (Map 1056768 8192 rw 50 (negsuc 0) 0) (Ok (Returned 1056768)) (Some (heap 255 263 rw ∷ []))
    ∷ kernel_step 0 (Remap 1048576 12288 12288 3 1064960) (Ok (Returned 1064960)) (Some (plain 255 256 rw ∷ plain 259 260 rw ∷ plain 260 263 rw ∷ []))
    ∷ kernel_step 1 (Protect 1064960 12288 rw) (Ok (Returned 0)) (Some (heap 255 258 rw ∷ plain 259 266 rw ∷ []))
    ∷ kernel_step 0 (Touch 262 Write) (Ok (Serves 260 263 rw false 0)) None
    ∷ kernel_step 0 (Protect 1048576 4096 rw) (Err 12) (Some (plain 255 256 rw ∷ plain 259 260 rw ∷ plain 260 263 rw ∷ []))
    ∷ []

-- written_limit_31: the kernel
abbrev pub written_limit_31_on : Kernel
written_limit_31_on = record { rules = linux_6_1; machine = record { lowest_built = 16; memory = 245000; stack = 8388608; has_keys = true; huge_always = true; files_are_huge = false; vsyscall = Xonly }; config = config 4096 140737354133504 6 0 (file_row 3 false true 0 ∷ file_row 4 true true 20000 ∷ []) }

-- written_limit_31: its answers
abbrev pub written_limit_31 : List Step
written_limit_31 =
    kernel_step 0 (Map 1064960 4096 rw 50 (negsuc 0) 0) (Ok (Returned 1064960)) (Some (plain 260 261 rw ∷ []))
    ∷ kernel_step 0 (Map 1056768 4096 rw 50 (negsuc 0) 0) (Ok (Returned 1056768)) (Some (plain 258 259 rw ∷ plain 260 261 rw ∷ []))
    ∷ kernel_step 0 (Touch 258 Write) (Ok (Serves 258 259 rw false 0)) None
    ∷ kernel_step 0 (Touch 260 Write) (Ok (Serves 260 261 rw false 0)) None
    ∷ kernel_step 0 (Remap 1052672 12288 12288 7 1048576) (Err 14) (Some (plain 258 259 rw ∷ plain 260 261 rw ∷ []))
    ∷ kernel_step 0 (Touch 258 Write) (Ok (Serves 258 259 rw false 0)) None
    ∷ kernel_step 0 (Touch 258 Write) (Ok (Serves 258 259 rw false 0)) None
    ∷ kernel_step 0 (Touch 258 Write) (Ok (Serves 258 259 rw false 0)) None
    ∷ kernel_step 0 (Remap 1060864 4096 4096 7 1576960) (Err 14) (Some (plain 258 259 rw ∷ plain 260 261 rw ∷ []))
    ∷ kernel_step 0 (Touch 258 Write) (Ok (Serves 258 259 rw false 0)) None
    ∷ kernel_step 0 (Protect 1056768 4096 rw) (Ok (Returned 0)) (Some (plain 258 259 rw ∷ plain 260 261 rw ∷ []))
    ∷ kernel_step 0 (Fork 1) (Ok (Returned 0)) None
    ∷ kernel_step 1 (Touch 258 Write) (Ok (Serves 258 259 rw false 0)) None
    ∷ kernel_step 1 (Touch 258 Write) (Ok (Serves 258 259 rw false 0)) None
    ∷ kernel_step 0 (Protect 1056768 4096 rw) (Ok (Returned 0)) (Some (plain 258 259 rw ∷ plain 260 261 rw ∷ []))
    ∷ kernel_step 0 (Touch 260 Write) (Ok (Serves 260 261 rw false 0)) None
    ∷ kernel_step 0 (Map 1048576 8192 r 50 (negsuc 0) 0) (Ok (Returned 1048576)) (Some (plain 256 258 r ∷ plain 258 259 rw ∷ plain 260 261 rw ∷ []))
    ∷ kernel_step 1 (Protect 1056768 12288 rwx) (Err 12) (Some (plain 258 259 rwx ∷ plain 260 261 rw ∷ []))
    ∷ kernel_step 0 (Map 1052672 8192 r 50 (negsuc 0) 0) (Ok (Returned 1052672)) (Some (plain 256 259 r ∷ plain 260 261 rw ∷ []))
    ∷ kernel_step 1 (Remap 1576960 4096 4096 3 1060864) (Err 14) (Some (plain 258 259 rwx ∷ plain 260 261 rw ∷ []))
    ∷ kernel_step 0 (Touch 257 Write) (Ok (Signal AccErr)) None
    ∷ kernel_step 0 (Remap 1064960 4096 4096 7 1056768) (Err 12) (Some (plain 256 259 r ∷ plain 260 261 rw ∷ []))
    ∷ kernel_step 0 (Touch 258 Write) (Ok (Signal AccErr)) None
    ∷ kernel_step 1 (Touch 258 Read) (Ok (Serves 258 259 rwx false 0)) None
    ∷ kernel_step 1 (Protect 1056768 4096 rwx) (Ok (Returned 0)) (Some (plain 258 259 rwx ∷ plain 260 261 rw ∷ []))
    ∷ kernel_step 0 (Touch 260 Write) (Ok (Serves 260 261 rw false 0)) None
    ∷ kernel_step 0 (Touch 257 Write) (Ok (Signal AccErr)) None
    ∷ kernel_step 1 (Remap 1048576 8192 8192 3 1052672) (Err 14) (Some (plain 258 259 rwx ∷ plain 260 261 rw ∷ []))
    ∷ kernel_step 0 (Touch 260 Write) (Ok (Serves 260 261 rw false 0)) (Some (plain 256 259 r ∷ plain 260 261 rw ∷ []))
    ∷ kernel_step 1 (Map 1064960 8192 r 50 (negsuc 0) 0) (Ok (Returned 1064960)) (Some (plain 258 259 rwx ∷ plain 260 262 r ∷ []))
    ∷ []

-- written_36: the kernel
abbrev pub written_36_on : Kernel
written_36_on = record { rules = linux_6_1; machine = record { lowest_built = 16; memory = 245000; stack = 8388608; has_keys = true; huge_always = true; files_are_huge = false; vsyscall = Xonly }; config = config 4096 140737354133504 65530 0 ([]) }

-- written_36: its answers
abbrev pub written_36 : List Step
written_36 =
    kernel_step 0 (Map 1052672 34359758848 r 50 (negsuc 0) 0) (Ok (Returned 1052672)) (Some (plain 257 8388870 r ∷ []))
    ∷ kernel_step 0 (Map 1048576 4096 rw 50 (negsuc 0) 0) (Ok (Returned 1048576)) (Some (plain 256 257 rw ∷ plain 257 8388870 r ∷ []))
    ∷ kernel_step 0 (Touch 256 Read) (Ok (Serves 256 257 rw false 0)) None
    ∷ kernel_step 0 (Touch 260 Write) (Ok (Signal AccErr)) None
    ∷ kernel_step 0 (Protect 1048576 12288 r) (Ok (Returned 0)) (Some (plain 256 257 r ∷ plain 257 8388870 r ∷ []))
    ∷ kernel_step 0 (Map 1069056 8192 r 50 (negsuc 0) 0) (Ok (Returned 1069056)) (Some (plain 256 257 r ∷ plain 257 8388870 r ∷ []))
    ∷ kernel_step 0 (Touch 257 Write) (Ok (Signal AccErr)) None
    ∷ kernel_step 0 (Unmap 1073152 4096) (Ok (Returned 0)) (Some (plain 256 257 r ∷ plain 257 262 r ∷ plain 263 8388870 r ∷ []))
    ∷ kernel_step 0 (Map 1048576 8192 rw 50 (negsuc 0) 0) (Ok (Returned 1048576)) (Some (plain 256 258 rw ∷ plain 258 262 r ∷ plain 263 8388870 r ∷ []))
    ∷ kernel_step 0 (Touch 256 Read) (Ok (Serves 256 258 rw false 0)) None
    ∷ kernel_step 0 (Touch 257 Write) (Ok (Serves 256 258 rw false 0)) None
    ∷ kernel_step 0 (Map 1064960 16384 r 50 (negsuc 0) 0) (Ok (Returned 1064960)) (Some (plain 256 258 rw ∷ plain 258 8388870 r ∷ []))
    ∷ kernel_step 0 (Protect 1073152 4194304 r) (Ok (Returned 0)) (Some (plain 256 258 rw ∷ plain 258 8388870 r ∷ []))
    ∷ kernel_step 0 (Protect 1060864 16384 rw) (Ok (Returned 0)) (Some (plain 256 258 rw ∷ plain 258 259 r ∷ plain 259 263 rw ∷ plain 263 8388870 r ∷ []))
    ∷ kernel_step 0 (Touch 262 Write) (Ok (Serves 259 263 rw false 0)) None
    ∷ kernel_step 0 (Protect 1056768 8192 rw) (Ok (Returned 0)) (Some (plain 256 259 rw ∷ plain 259 263 rw ∷ plain 263 8388870 r ∷ []))
    ∷ kernel_step 0 (Touch 263 Write) (Ok (Signal AccErr)) None
    ∷ kernel_step 0 (Protect 1048576 8192 r) (Ok (Returned 0)) (Some (plain 256 258 r ∷ plain 258 259 rw ∷ plain 259 263 rw ∷ plain 263 8388870 r ∷ []))
    ∷ kernel_step 0 (Remap 1069056 4096 4096 7 1056768) (Ok (Returned 1056768)) (Some (plain 256 258 r ∷ plain 258 259 rw ∷ plain 259 263 rw ∷ plain 263 8388870 r ∷ []))
    ∷ kernel_step 0 (Touch 257 Read) (Ok (Serves 256 258 r false 0)) None
    ∷ kernel_step 0 (Map 1060864 8192 r 50 (negsuc 0) 0) (Ok (Returned 1060864)) (Some (plain 256 258 r ∷ plain 258 259 rw ∷ plain 259 261 r ∷ plain 261 263 rw ∷ plain 263 8388870 r ∷ []))
    ∷ kernel_step 0 (Map 1048576 34359758848 r 50 (negsuc 0) 0) (Ok (Returned 1048576)) (Some (plain 256 8388870 r ∷ []))
    ∷ kernel_step 0 (Protect 1069056 4096 rw) (Ok (Returned 0)) (Some (plain 256 261 r ∷ plain 261 262 rw ∷ plain 262 8388870 r ∷ []))
    ∷ kernel_step 0 (Touch 262 Read) (Ok (Serves 262 8388870 r false 0)) None
    ∷ kernel_step 0 (Protect 1073152 12288 rw) (Ok (Returned 0)) (Some (plain 256 261 r ∷ plain 261 265 rw ∷ plain 265 8388870 r ∷ []))
    ∷ kernel_step 0 (Protect 1097728 4096 rw) (Ok (Returned 0)) (Some (plain 256 261 r ∷ plain 261 265 rw ∷ plain 265 268 r ∷ plain 268 269 rw ∷ plain 269 8388870 r ∷ []))
    ∷ kernel_step 0 (Protect 1069056 16384 r) (Ok (Returned 0)) (Some (plain 256 261 r ∷ plain 261 265 r ∷ plain 265 268 r ∷ plain 268 269 rw ∷ plain 269 8388870 r ∷ []))
    ∷ kernel_step 0 (Protect 1097728 4096 r) (Ok (Returned 0)) (Some (plain 256 261 r ∷ plain 261 265 r ∷ plain 265 268 r ∷ plain 268 269 r ∷ plain 269 8388870 r ∷ []))
    ∷ kernel_step 0 (Map 1052672 17179869184 r 50 (negsuc 0) 0) (Ok (Returned 1052672)) (Some (plain 256 8388870 r ∷ []))
    ∷ kernel_step 0 (Touch 256 Read) (Ok (Serves 256 8388870 r false 0)) (Some (plain 256 8388870 r ∷ []))
    ∷ []

-- hard_43: the kernel
abbrev pub hard_43_on : Kernel
hard_43_on = record { rules = linux_6_1; machine = record { lowest_built = 16; memory = 245000; stack = 8388608; has_keys = true; huge_always = true; files_are_huge = false; vsyscall = Xonly }; config = config 4096 140737354133504 65530 1064960 ([]) }

-- hard_43: its answers
abbrev pub hard_43 : List Step
hard_43 =
    kernel_step 0 (Map 1085440 4096 rw 49 (negsuc 0) 0) (Ok (Returned 1085440)) (Some (filed 265 266 rw true 0 1 ∷ []))
    ∷ kernel_step 0 (Map 1118208 8192 r 50 (negsuc 0) 0) (Ok (Returned 1118208)) (Some (filed 265 266 rw true 0 1 ∷ plain 273 275 r ∷ []))
    ∷ kernel_step 0 (Protect 1118208 12288 rw) (Err 12) (Some (filed 265 266 rw true 0 1 ∷ plain 273 275 rw ∷ []))
    ∷ kernel_step 0 (Break 1060856) (Ok (Returned 1064960)) (Some (filed 265 266 rw true 0 1 ∷ plain 273 275 rw ∷ []))
    ∷ kernel_step 0 (Touch 265 Read) (Ok (Serves 265 266 rw true 0)) None
    ∷ kernel_step 0 (Map 1060864 4096 rw 50 (negsuc 0) 0) (Ok (Returned 1060864)) (Some (heap 259 260 rw ∷ filed 265 266 rw true 0 1 ∷ plain 273 275 rw ∷ []))
    ∷ kernel_step 0 (Protect 1118208 8192 rw) (Ok (Returned 0)) (Some (heap 259 260 rw ∷ filed 265 266 rw true 0 1 ∷ plain 273 275 rw ∷ []))
    ∷ kernel_step 0 (Protect 1073152 4096 rw) (Err 12) (Some (heap 259 260 rw ∷ filed 265 266 rw true 0 1 ∷ plain 273 275 rw ∷ []))
    ∷ kernel_step 0 (Touch 265 Write) (Ok (Serves 265 266 rw true 0)) None
    ∷ kernel_step 0 (Remap 1118208 8192 16384 3 1044480) (Ok (Returned 1044480)) (Some (heap 255 260 rw ∷ filed 265 266 rw true 0 1 ∷ []))
    ∷ kernel_step 0 (Map 1105920 4096 rw 50 (negsuc 0) 0) (Ok (Returned 1105920)) (Some (heap 255 260 rw ∷ filed 265 266 rw true 0 1 ∷ plain 270 271 rw ∷ []))
    ∷ kernel_step 0 (Protect 1105920 4096 rw) (Ok (Returned 0)) (Some (heap 255 260 rw ∷ filed 265 266 rw true 0 1 ∷ plain 270 271 rw ∷ []))
    ∷ kernel_step 0 (Remap 1085440 4096 4096 1 0) (Ok (Returned 1085440)) (Some (heap 255 260 rw ∷ filed 265 266 rw true 0 1 ∷ plain 270 271 rw ∷ []))
    ∷ kernel_step 0 (Protect 1044480 20480 rw) (Ok (Returned 0)) (Some (heap 255 260 rw ∷ filed 265 266 rw true 0 1 ∷ plain 270 271 rw ∷ []))
    ∷ kernel_step 0 (Touch 270 Write) (Ok (Serves 270 271 rw false 0)) None
    ∷ kernel_step 0 (Protect 1044480 20480 rw) (Ok (Returned 0)) (Some (heap 255 260 rw ∷ filed 265 266 rw true 0 1 ∷ plain 270 271 rw ∷ []))
    ∷ kernel_step 0 (Protect 1093632 16384 r) (Err 12) (Some (heap 255 260 rw ∷ filed 265 266 rw true 0 1 ∷ plain 270 271 rw ∷ []))
    ∷ kernel_step 0 (Break 1056760) (Ok (Returned 1064960)) (Some (heap 255 260 rw ∷ filed 265 266 rw true 0 1 ∷ plain 270 271 rw ∷ []))
    ∷ kernel_step 0 (Map 1097728 8192 rw 50 (negsuc 0) 0) (Ok (Returned 1097728)) (Some (heap 255 260 rw ∷ filed 265 266 rw true 0 1 ∷ plain 268 271 rw ∷ []))
    ∷ kernel_step 0 (Remap 1097728 12288 4096 1 0) (Ok (Returned 1097728)) (Some (heap 255 260 rw ∷ filed 265 266 rw true 0 1 ∷ plain 268 269 rw ∷ []))
    ∷ kernel_step 0 (Break 1081344) (Ok (Returned 1081344)) (Some (heap 255 260 rw ∷ heap 260 264 rw ∷ filed 265 266 rw true 0 1 ∷ plain 268 269 rw ∷ []))
    ∷ kernel_step 0 (Break 1085440) (Ok (Returned 1081344)) (Some (heap 255 260 rw ∷ heap 260 264 rw ∷ filed 265 266 rw true 0 1 ∷ plain 268 269 rw ∷ []))
    ∷ kernel_step 0 (Break 1089536) (Ok (Returned 1081344)) (Some (heap 255 260 rw ∷ heap 260 264 rw ∷ filed 265 266 rw true 0 1 ∷ plain 268 269 rw ∷ []))
    ∷ kernel_step 0 (Touch 265 Write) (Ok (Serves 265 266 rw true 0)) None
    ∷ kernel_step 0 (Touch 265 Write) (Ok (Serves 265 266 rw true 0)) None
    ∷ kernel_step 0 (Map 1056768 16384 rw 49 (negsuc 0) 0) (Ok (Returned 1056768)) (Some (plain 255 258 rw ∷ filed 258 262 rw true 0 2 ∷ heap 262 264 rw ∷ filed 265 266 rw true 0 1 ∷ plain 268 269 rw ∷ []))
    ∷ kernel_step 0 (Protect 1085440 4096 rw) (Ok (Returned 0)) (Some (plain 255 258 rw ∷ filed 258 262 rw true 0 2 ∷ heap 262 264 rw ∷ filed 265 266 rw true 0 1 ∷ plain 268 269 rw ∷ []))
    ∷ kernel_step 0 (Unmap 1056768 16384) (Ok (Returned 0)) (Some (plain 255 258 rw ∷ heap 262 264 rw ∷ filed 265 266 rw true 0 1 ∷ plain 268 269 rw ∷ []))
    ∷ kernel_step 0 (Map 1085440 12288 r 50 (negsuc 0) 0) (Ok (Returned 1085440)) (Some (plain 255 258 rw ∷ heap 262 264 rw ∷ plain 265 268 r ∷ plain 268 269 rw ∷ []))
    ∷ kernel_step 0 (Remap 1073152 28672 24576 1 0) (Ok (Returned 1073152)) (Some (plain 255 258 rw ∷ heap 262 264 rw ∷ plain 265 268 r ∷ []))
    ∷ []

-- hard_limit_45: the kernel
abbrev pub hard_limit_45_on : Kernel
hard_limit_45_on = record { rules = linux_6_1; machine = record { lowest_built = 16; memory = 245000; stack = 8388608; has_keys = true; huge_always = true; files_are_huge = false; vsyscall = Xonly }; config = config 4096 140737354133504 10 0 ([]) }

-- hard_limit_45: its answers
abbrev pub hard_limit_45 : List Step
hard_limit_45 =
    kernel_step 0 (Map 0 8192 rw 33 (negsuc 0) 0) (Ok (Returned 140737354125312)) (Some (filed 34359705597 34359705599 rw true 0 1 ∷ []))
    ∷ kernel_step 0 (Map 1056768 16384 rw 50 (negsuc 0) 0) (Ok (Returned 1056768)) (Some (plain 258 262 rw ∷ filed 34359705597 34359705599 rw true 0 1 ∷ []))
    ∷ kernel_step 0 (Touch 258 Exec) (Ok (Signal AccErr)) None
    ∷ kernel_step 0 (Touch 260 Write) (Ok (Serves 258 262 rw false 0)) None
    ∷ kernel_step 0 (Remap 1060864 4096 4096 5 0) (Ok (Returned 140737354121216)) (Some (plain 258 262 rw ∷ plain 34359705596 34359705597 rw ∷ filed 34359705597 34359705599 rw true 0 1 ∷ []))
    ∷ kernel_step 0 (Remap 1056768 16384 24576 3 1073152) (Ok (Returned 1073152)) (Some (plain 262 268 rw ∷ plain 34359705596 34359705597 rw ∷ filed 34359705597 34359705599 rw true 0 1 ∷ []))
    ∷ kernel_step 0 (Map 0 3145728 rw 34 (negsuc 0) 0) (Ok (Returned 140737350975488)) (Some (plain 262 268 rw ∷ plain 34359704828 34359705596 rw ∷ plain 34359705596 34359705597 rw ∷ filed 34359705597 34359705599 rw true 0 1 ∷ []))
    ∷ kernel_step 0 (Map 0 34359738368 r 34 (negsuc 0) 0) (Ok (Returned 140702991237120)) (Some (plain 262 268 rw ∷ plain 34351316220 34359704828 r ∷ plain 34359704828 34359705596 rw ∷ plain 34359705596 34359705597 rw ∷ filed 34359705597 34359705599 rw true 0 1 ∷ []))
    ∷ kernel_step 0 (Map 0 4194304 rw 34 (negsuc 0) 0) (Ok (Returned 140702987042816)) (Some (plain 262 268 rw ∷ plain 34351315196 34351316220 rw ∷ plain 34351316220 34359704828 r ∷ plain 34359704828 34359705596 rw ∷ plain 34359705596 34359705597 rw ∷ filed 34359705597 34359705599 rw true 0 1 ∷ []))
    ∷ kernel_step 0 (Touch 262 Write) (Ok (Serves 262 268 rw false 0)) None
    ∷ kernel_step 0 (Touch 265 Read) (Ok (Serves 262 268 rw false 0)) None
    ∷ kernel_step 0 (Touch 264 Write) (Ok (Serves 262 268 rw false 0)) None
    ∷ kernel_step 0 (Remap 1073152 24576 24576 7 1105920) (Err 12) (Some (plain 262 268 rw ∷ plain 34351315196 34351316220 rw ∷ plain 34351316220 34359704828 r ∷ plain 34359704828 34359705596 rw ∷ plain 34359705596 34359705597 rw ∷ filed 34359705597 34359705599 rw true 0 1 ∷ []))
    ∷ kernel_step 0 (Unmap 1073152 24576) (Ok (Returned 0)) (Some (plain 34351315196 34351316220 rw ∷ plain 34351316220 34359704828 r ∷ plain 34359704828 34359705596 rw ∷ plain 34359705596 34359705597 rw ∷ filed 34359705597 34359705599 rw true 0 1 ∷ []))
    ∷ kernel_step 0 (Map 0 12288 r 16418 (negsuc 0) 0) (Ok (Returned 140702987030528)) (Some (plain 34351315193 34351315196 r ∷ plain 34351315196 34351316220 rw ∷ plain 34351316220 34359704828 r ∷ plain 34359704828 34359705596 rw ∷ plain 34359705596 34359705597 rw ∷ filed 34359705597 34359705599 rw true 0 1 ∷ []))
    ∷ kernel_step 0 (Protect 140737351020544 3100672 rw) (Ok (Returned 0)) (Some (plain 34351315193 34351315196 r ∷ plain 34351315196 34351316220 rw ∷ plain 34351316220 34359704828 r ∷ plain 34359704828 34359705596 rw ∷ plain 34359705596 34359705597 rw ∷ filed 34359705597 34359705599 rw true 0 1 ∷ []))
    ∷ kernel_step 0 (Map 0 8589934592 rw 34 (negsuc 0) 0) (Err 12) (Some (plain 34351315193 34351315196 r ∷ plain 34351315196 34351316220 rw ∷ plain 34351316220 34359704828 r ∷ plain 34359704828 34359705596 rw ∷ plain 34359705596 34359705597 rw ∷ filed 34359705597 34359705599 rw true 0 1 ∷ []))
    ∷ kernel_step 0 (Touch 34351316955 Write) (Ok (Signal AccErr)) None
    ∷ kernel_step 0 (Map 1093632 8192 rw 50 (negsuc 0) 0) (Ok (Returned 1093632)) (Some (plain 267 269 rw ∷ plain 34351315193 34351315196 r ∷ plain 34351315196 34351316220 rw ∷ plain 34351316220 34359704828 r ∷ plain 34359704828 34359705596 rw ∷ plain 34359705596 34359705597 rw ∷ filed 34359705597 34359705599 rw true 0 1 ∷ []))
    ∷ kernel_step 0 (Touch 268 Read) (Ok (Serves 267 269 rw false 0)) None
    ∷ kernel_step 0 (Touch 267 Write) (Ok (Serves 267 269 rw false 0)) None
    ∷ kernel_step 0 (Touch 267 Write) (Ok (Serves 267 269 rw false 0)) None
    ∷ kernel_step 0 (Touch 268 Write) (Ok (Serves 267 269 rw false 0)) None
    ∷ kernel_step 0 (Remap 1093632 8192 8192 3 1101824) (Err 12) (Some (plain 267 269 rw ∷ plain 34351315193 34351315196 r ∷ plain 34351315196 34351316220 rw ∷ plain 34351316220 34359704828 r ∷ plain 34359704828 34359705596 rw ∷ plain 34359705596 34359705597 rw ∷ filed 34359705597 34359705599 rw true 0 1 ∷ []))
    ∷ kernel_step 0 (Touch 267 Write) (Ok (Serves 267 269 rw false 0)) None
    ∷ kernel_step 0 (Protect 1093632 8192 rw) (Ok (Returned 0)) (Some (plain 267 269 rw ∷ plain 34351315193 34351315196 r ∷ plain 34351315196 34351316220 rw ∷ plain 34351316220 34359704828 r ∷ plain 34359704828 34359705596 rw ∷ plain 34359705596 34359705597 rw ∷ filed 34359705597 34359705599 rw true 0 1 ∷ []))
    ∷ kernel_step 0 (Protect 1101824 4096 r) (Err 12) (Some (plain 267 269 rw ∷ plain 34351315193 34351315196 r ∷ plain 34351315196 34351316220 rw ∷ plain 34351316220 34359704828 r ∷ plain 34359704828 34359705596 rw ∷ plain 34359705596 34359705597 rw ∷ filed 34359705597 34359705599 rw true 0 1 ∷ []))
    ∷ kernel_step 0 (Map 1048576 16384 r 306 (negsuc 0) 0) (Ok (Returned 1048576)) (Some (plain 256 260 r ∷ plain 267 269 rw ∷ plain 34351315193 34351315196 r ∷ plain 34351315196 34351316220 rw ∷ plain 34351316220 34359704828 r ∷ plain 34359704828 34359705596 rw ∷ plain 34359705596 34359705597 rw ∷ filed 34359705597 34359705599 rw true 0 1 ∷ []))
    ∷ kernel_step 0 (Touch 258 Write) (Ok (Signal AccErr)) None
    ∷ kernel_step 0 (Remap 1093632 8192 8192 3 1064960) (Err 12) (Some (plain 256 260 r ∷ plain 267 269 rw ∷ plain 34351315193 34351315196 r ∷ plain 34351315196 34351316220 rw ∷ plain 34351316220 34359704828 r ∷ plain 34359704828 34359705596 rw ∷ plain 34359705596 34359705597 rw ∷ filed 34359705597 34359705599 rw true 0 1 ∷ []))
    ∷ []

-- hard_limit_69: the kernel
abbrev pub hard_limit_69_on : Kernel
hard_limit_69_on = record { rules = linux_6_1; machine = record { lowest_built = 16; memory = 245000; stack = 8388608; has_keys = true; huge_always = true; files_are_huge = false; vsyscall = Xonly }; config = config 4096 140737354133504 4 1069056 ([]) }

-- hard_limit_69: its answers
abbrev pub hard_limit_69 : List Step
hard_limit_69 =
    kernel_step 0 (Map 1064960 16384 rw 50 (negsuc 0) 0) (Ok (Returned 1064960)) (Some (heap 260 264 rw ∷ []))
    ∷ kernel_step 0 (Map 1077248 12288 rw 34 (negsuc 0) 0) (Ok (Returned 140737354121216)) (Some (heap 260 264 rw ∷ plain 34359705596 34359705599 rw ∷ []))
    ∷ kernel_step 0 (Touch 262 Write) (Ok (Serves 260 264 rw false 0)) None
    ∷ kernel_step 0 (Break 1073152) (Ok (Returned 1069056)) (Some (heap 260 264 rw ∷ plain 34359705596 34359705599 rw ∷ []))
    ∷ kernel_step 0 (Protect 1064960 16384 rw) (Ok (Returned 0)) (Some (heap 260 264 rw ∷ plain 34359705596 34359705599 rw ∷ []))
    ∷ kernel_step 0 (Break 1081344) (Ok (Returned 1069056)) (Some (heap 260 264 rw ∷ plain 34359705596 34359705599 rw ∷ []))
    ∷ kernel_step 0 (Remap 1064960 12288 4096 1 0) (Ok (Returned 1064960)) (Some (heap 260 261 rw ∷ plain 263 264 rw ∷ plain 34359705596 34359705599 rw ∷ []))
    ∷ kernel_step 0 (Protect 1077248 4096 rw) (Ok (Returned 0)) (Some (heap 260 261 rw ∷ plain 263 264 rw ∷ plain 34359705596 34359705599 rw ∷ []))
    ∷ kernel_step 0 (Unmap 1077248 4096) (Ok (Returned 0)) (Some (heap 260 261 rw ∷ plain 34359705596 34359705599 rw ∷ []))
    ∷ kernel_step 0 (Map 140737354133504 8192 r 305 (negsuc 0) 0) (Err 22) (Some (heap 260 261 rw ∷ plain 34359705596 34359705599 rw ∷ []))
    ∷ kernel_step 0 (Protect 1064960 4096 r) (Ok (Returned 0)) (Some (heap 260 261 r ∷ plain 34359705596 34359705599 rw ∷ []))
    ∷ kernel_step 0 (Break 1085432) (Ok (Returned 1085432)) (Some (heap 260 261 r ∷ heap 261 265 rw ∷ plain 34359705596 34359705599 rw ∷ []))
    ∷ kernel_step 0 (Map 1069056 4096 rw 50 (negsuc 0) 0) (Ok (Returned 1069056)) (Some (heap 260 261 r ∷ heap 261 265 rw ∷ plain 34359705596 34359705599 rw ∷ []))
    ∷ kernel_step 0 (Touch 260 Write) (Ok (Signal AccErr)) None
    ∷ kernel_step 0 (Break 1097728) (Ok (Returned 1097728)) (Some (heap 260 261 r ∷ heap 261 268 rw ∷ plain 34359705596 34359705599 rw ∷ []))
    ∷ kernel_step 0 (Unmap 1064960 32768) (Ok (Returned 0)) (Some (plain 34359705596 34359705599 rw ∷ []))
    ∷ kernel_step 0 (Protect 140737354129408 16384 rw) (Err 12) (Some (plain 34359705596 34359705599 rw ∷ []))
    ∷ kernel_step 0 (Break 1085432) (Ok (Returned 1097728)) (Some (plain 34359705596 34359705599 rw ∷ []))
    ∷ kernel_step 0 (Protect 140737354121216 12288 r) (Ok (Returned 0)) (Some (plain 34359705596 34359705599 r ∷ []))
    ∷ kernel_step 0 (Touch 34359705598 Exec) (Ok (Signal AccErr)) None
    ∷ kernel_step 0 (Protect 140737354121216 12288 rw) (Ok (Returned 0)) (Some (plain 34359705596 34359705599 rw ∷ []))
    ∷ kernel_step 0 (Touch 275 Write) (Ok (Signal MapErr)) None
    ∷ kernel_step 0 (Touch 34359705596 Write) (Ok (Serves 34359705596 34359705599 rw false 0)) None
    ∷ kernel_step 0 (Map 1105920 12288 rw 50 (negsuc 0) 0) (Ok (Returned 1105920)) (Some (plain 270 273 rw ∷ plain 34359705596 34359705599 rw ∷ []))
    ∷ kernel_step 0 (Break 1097736) (Ok (Returned 1097736)) (Some (heap 268 269 rw ∷ plain 270 273 rw ∷ plain 34359705596 34359705599 rw ∷ []))
    ∷ kernel_step 0 (Touch 272 Read) (Ok (Serves 270 273 rw false 0)) None
    ∷ kernel_step 0 (Break 1105928) (Ok (Returned 1097736)) (Some (heap 268 269 rw ∷ plain 270 273 rw ∷ plain 34359705596 34359705599 rw ∷ []))
    ∷ kernel_step 0 (Protect 1097728 4096 r) (Ok (Returned 0)) (Some (heap 268 269 r ∷ plain 270 273 rw ∷ plain 34359705596 34359705599 rw ∷ []))
    ∷ kernel_step 0 (Break 1101840) (Ok (Returned 1097736)) (Some (heap 268 269 r ∷ plain 270 273 rw ∷ plain 34359705596 34359705599 rw ∷ []))
    ∷ kernel_step 0 (Touch 271 Read) (Ok (Serves 270 273 rw false 0)) (Some (heap 268 269 r ∷ plain 270 273 rw ∷ plain 34359705596 34359705599 rw ∷ []))
    ∷ []

-- hard_limit_141: the kernel
abbrev pub hard_limit_141_on : Kernel
hard_limit_141_on = record { rules = linux_6_1; machine = record { lowest_built = 16; memory = 245000; stack = 8388608; has_keys = true; huge_always = true; files_are_huge = false; vsyscall = Xonly }; config = config 4096 140737354133504 6 0 ([]) }

-- hard_limit_141: its answers
abbrev pub hard_limit_141 : List Step
hard_limit_141 =
    kernel_step 0 (Map 1110016 16384 rw 50 (negsuc 0) 0) (Ok (Returned 1110016)) (Some (plain 271 275 rw ∷ []))
    ∷ kernel_step 0 (Map 1093632 8192 rw 32818 (negsuc 0) 0) (Ok (Returned 1093632)) (Some (plain 267 269 rw ∷ plain 271 275 rw ∷ []))
    ∷ kernel_step 0 (Touch 272 Read) (Ok (Serves 271 275 rw false 0)) None
    ∷ kernel_step 0 (Protect 1110016 16384 rw) (Ok (Returned 0)) (Some (plain 267 269 rw ∷ plain 271 275 rw ∷ []))
    ∷ kernel_step 0 (Remap 1097728 16384 20480 0 0) (Err 14) (Some (plain 267 269 rw ∷ plain 271 275 rw ∷ []))
    ∷ kernel_step 0 (Unmap 1097728 4096) (Ok (Returned 0)) (Some (plain 267 268 rw ∷ plain 271 275 rw ∷ []))
    ∷ kernel_step 0 (Map 1077248 12288 rw 32818 (negsuc 0) 0) (Ok (Returned 1077248)) (Some (plain 263 266 rw ∷ plain 267 268 rw ∷ plain 271 275 rw ∷ []))
    ∷ kernel_step 0 (Unmap 1110016 16384) (Ok (Returned 0)) (Some (plain 263 266 rw ∷ plain 267 268 rw ∷ []))
    ∷ kernel_step 0 (Protect 1093632 4096 rw) (Ok (Returned 0)) (Some (plain 263 266 rw ∷ plain 267 268 rw ∷ []))
    ∷ kernel_step 0 (Touch 267 Write) (Ok (Serves 267 268 rw false 0)) None
    ∷ kernel_step 0 (Protect 1077248 20480 r) (Err 12) (Some (plain 263 266 r ∷ plain 267 268 rw ∷ []))
    ∷ kernel_step 0 (Touch 267 Write) (Ok (Serves 267 268 rw false 0)) None
    ∷ kernel_step 0 (Touch 267 Read) (Ok (Serves 267 268 rw false 0)) None
    ∷ kernel_step 0 (Touch 267 Write) (Ok (Serves 267 268 rw false 0)) None
    ∷ kernel_step 0 (Touch 265 Write) (Ok (Signal AccErr)) None
    ∷ kernel_step 0 (Touch 261 Write) (Ok (Signal MapErr)) None
    ∷ kernel_step 0 (Remap 1093632 4096 12288 1 0) (Ok (Returned 1093632)) (Some (plain 263 266 r ∷ plain 267 270 rw ∷ []))
    ∷ kernel_step 0 (Protect 1097728 8192 r) (Ok (Returned 0)) (Some (plain 263 266 r ∷ plain 267 268 rw ∷ plain 268 270 r ∷ []))
    ∷ kernel_step 0 (Map 1089536 16384 r 50 (negsuc 0) 0) (Ok (Returned 1089536)) (Some (plain 263 266 r ∷ plain 266 270 r ∷ []))
    ∷ kernel_step 0 (Map 1069056 8192 r 50 (negsuc 0) 0) (Ok (Returned 1069056)) (Some (plain 261 263 r ∷ plain 263 266 r ∷ plain 266 270 r ∷ []))
    ∷ kernel_step 0 (Map 1069056 8192 rw 50 (negsuc 0) 0) (Ok (Returned 1069056)) (Some (plain 261 263 rw ∷ plain 263 266 r ∷ plain 266 270 r ∷ []))
    ∷ kernel_step 0 (Map 1105920 16384 rw 131122 (negsuc 0) 0) (Ok (Returned 1105920)) (Some (plain 261 263 rw ∷ plain 263 266 r ∷ plain 266 270 r ∷ plain 270 274 rw ∷ []))
    ∷ kernel_step 0 (Remap 1105920 16384 16384 5 0) (Err 12) (Some (plain 261 263 rw ∷ plain 263 266 r ∷ plain 266 270 r ∷ plain 270 274 rw ∷ []))
    ∷ kernel_step 0 (Protect 1105920 12288 rw) (Ok (Returned 0)) (Some (plain 261 263 rw ∷ plain 263 266 r ∷ plain 266 270 r ∷ plain 270 274 rw ∷ []))
    ∷ kernel_step 0 (Map 1105920 16384 rw 1179682 (negsuc 0) 0) (Err 17) (Some (plain 261 263 rw ∷ plain 263 266 r ∷ plain 266 270 r ∷ plain 270 274 rw ∷ []))
    ∷ kernel_step 0 (Protect 1077248 12288 rw) (Ok (Returned 0)) (Some (plain 261 263 rw ∷ plain 263 266 rw ∷ plain 266 270 r ∷ plain 270 274 rw ∷ []))
    ∷ kernel_step 0 (Protect 1105920 4096 rw) (Ok (Returned 0)) (Some (plain 261 263 rw ∷ plain 263 266 rw ∷ plain 266 270 r ∷ plain 270 274 rw ∷ []))
    ∷ kernel_step 0 (Unmap 1056768 16384) (Ok (Returned 0)) (Some (plain 262 263 rw ∷ plain 263 266 rw ∷ plain 266 270 r ∷ plain 270 274 rw ∷ []))
    ∷ kernel_step 0 (Protect 1077248 8192 rw) (Ok (Returned 0)) (Some (plain 262 263 rw ∷ plain 263 266 rw ∷ plain 266 270 r ∷ plain 270 274 rw ∷ []))
    ∷ kernel_step 0 (Protect 1089536 16384 rw) (Ok (Returned 0)) (Some (plain 262 263 rw ∷ plain 263 274 rw ∷ []))
    ∷ []

-- written_161: the kernel
abbrev pub written_161_on : Kernel
written_161_on = record { rules = linux_6_1; machine = record { lowest_built = 16; memory = 245000; stack = 8388608; has_keys = true; huge_always = true; files_are_huge = false; vsyscall = Xonly }; config = config 4096 140737354133504 65530 0 (file_row 3 true false 20000 ∷ file_row 4 true true 5000 ∷ []) }

-- written_161: its answers
abbrev pub written_161 : List Step
written_161 =
    kernel_step 0 (Map 1073152 12288 rw 50 (negsuc 0) 0) (Ok (Returned 1073152)) (Some (plain 262 265 rw ∷ []))
    ∷ kernel_step 0 (Map 1056768 4096 rw 50 (negsuc 0) 0) (Ok (Returned 1056768)) (Some (plain 258 259 rw ∷ plain 262 265 rw ∷ []))
    ∷ kernel_step 0 (Protect 1069056 4096 rw) (Err 12) (Some (plain 258 259 rw ∷ plain 262 265 rw ∷ []))
    ∷ kernel_step 0 (Protect 1060864 8192 r) (Err 12) (Some (plain 258 259 rw ∷ plain 262 265 rw ∷ []))
    ∷ kernel_step 0 (Unmap 1073152 12288) (Ok (Returned 0)) (Some (plain 258 259 rw ∷ []))
    ∷ kernel_step 0 (Touch 258 Write) (Ok (Serves 258 259 rw false 0)) None
    ∷ kernel_step 0 (Remap 1069056 8192 8192 7 1048576) (Err 14) (Some (plain 258 259 rw ∷ []))
    ∷ kernel_step 0 (Touch 258 Write) (Ok (Serves 258 259 rw false 0)) None
    ∷ kernel_step 0 (Protect 1073152 4096 rw) (Err 12) (Some (plain 258 259 rw ∷ []))
    ∷ kernel_step 0 (Map 1056768 34359738368 r 50 (negsuc 0) 0) (Ok (Returned 1056768)) (Some (plain 258 8388866 r ∷ []))
    ∷ kernel_step 0 (Map 1052672 34359738368 r 49 (negsuc 0) 0) (Err 12) (Some (plain 8388865 8388866 r ∷ []))
    ∷ kernel_step 0 (Protect 34360791040 4096 r) (Ok (Returned 0)) (Some (plain 8388865 8388866 r ∷ []))
    ∷ kernel_step 0 (Touch 8388865 Write) (Ok (Signal AccErr)) None
    ∷ kernel_step 0 (Map 1056768 17179869184 rw 49 (negsuc 0) 0) (Err 12) (Some (plain 8388865 8388866 r ∷ []))
    ∷ kernel_step 0 (Touch 8388865 Write) (Ok (Signal AccErr)) None
    ∷ kernel_step 0 (Touch 8388865 Write) (Ok (Signal AccErr)) None
    ∷ kernel_step 0 (Fork 1) (Ok (Returned 0)) None
    ∷ kernel_step 0 (Protect 1073152 12288 rw) (Err 12) (Some (plain 8388865 8388866 r ∷ []))
    ∷ kernel_step 1 (Protect 1056768 16384 r) (Err 12) (Some (plain 8388865 8388866 r ∷ []))
    ∷ kernel_step 1 (Protect 1064960 20480 r) (Err 12) (Some (plain 8388865 8388866 r ∷ []))
    ∷ kernel_step 0 (Remap 34360791040 4096 4096 3 1605632) (Ok (Returned 1605632)) (Some (plain 392 393 r ∷ []))
    ∷ kernel_step 1 (Touch 8388865 Read) (Ok (Serves 8388865 8388866 r false 0)) None
    ∷ kernel_step 0 (Map 1064960 34359738368 rw 50 (negsuc 0) 0) (Err 12) (Some ([]))
    ∷ kernel_step 1 (Protect 34360791040 4096 r) (Ok (Returned 0)) (Some (plain 8388865 8388866 r ∷ []))
    ∷ kernel_step 0 (Remap 1605632 4096 4096 7 1601536) (Err 14) (Some ([]))
    ∷ kernel_step 1 (Protect 34360791040 20480 r) (Err 12) (Some (plain 8388865 8388866 r ∷ []))
    ∷ kernel_step 0 (Touch 392 Write) (Ok (Signal MapErr)) None
    ∷ kernel_step 1 (Touch 8388865 Write) (Ok (Signal AccErr)) None
    ∷ kernel_step 0 (Touch 391 Write) (Ok (Signal MapErr)) (Some ([]))
    ∷ kernel_step 1 (Remap 34360791040 4096 4096 7 1609728) (Ok (Returned 1609728)) (Some (plain 393 394 r ∷ plain 8388865 8388866 r ∷ []))
    ∷ []

-- written_166: the kernel
abbrev pub written_166_on : Kernel
written_166_on = record { rules = linux_6_1; machine = record { lowest_built = 16; memory = 245000; stack = 8388608; has_keys = true; huge_always = true; files_are_huge = false; vsyscall = Xonly }; config = config 4096 140737354133504 65530 0 (file_row 3 true false 90000 ∷ file_row 4 false true 20000 ∷ []) }

-- written_166: its answers
abbrev pub written_166 : List Step
written_166 =
    kernel_step 0 (Map 1064960 16384 rw 50 (negsuc 0) 0) (Ok (Returned 1064960)) (Some (plain 260 264 rw ∷ []))
    ∷ kernel_step 0 (Map 1052672 8192 rw 50 (negsuc 0) 0) (Ok (Returned 1052672)) (Some (plain 257 259 rw ∷ plain 260 264 rw ∷ []))
    ∷ kernel_step 0 (Touch 258 Write) (Ok (Serves 257 259 rw false 0)) None
    ∷ kernel_step 0 (Touch 258 Write) (Ok (Serves 257 259 rw false 0)) None
    ∷ kernel_step 0 (Touch 258 Write) (Ok (Serves 257 259 rw false 0)) None
    ∷ kernel_step 0 (Touch 257 Write) (Ok (Serves 257 259 rw false 0)) None
    ∷ kernel_step 0 (Touch 260 Write) (Ok (Serves 260 264 rw false 0)) None
    ∷ kernel_step 0 (Protect 1064960 12288 rw) (Ok (Returned 0)) (Some (plain 257 259 rw ∷ plain 260 264 rw ∷ []))
    ∷ kernel_step 0 (Map 1064960 34359758848 r 50 (negsuc 0) 0) (Ok (Returned 1064960)) (Some (plain 257 259 rw ∷ plain 260 8388873 r ∷ []))
    ∷ kernel_step 0 (Remap 1056768 12288 12288 7 1642496) (Err 14) (Some (plain 257 259 rw ∷ plain 260 401 r ∷ plain 404 8388873 r ∷ []))
    ∷ kernel_step 0 (Touch 257 Write) (Ok (Serves 257 259 rw false 0)) None
    ∷ kernel_step 0 (Protect 1052672 589824 r) (Err 12) (Some (plain 257 259 r ∷ plain 260 401 r ∷ plain 404 8388873 r ∷ []))
    ∷ kernel_step 0 (Map 1064960 12288 rw 50 (negsuc 0) 0) (Ok (Returned 1064960)) (Some (plain 257 259 r ∷ plain 260 263 rw ∷ plain 263 401 r ∷ plain 404 8388873 r ∷ []))
    ∷ kernel_step 0 (Fork 1) (Ok (Returned 0)) None
    ∷ kernel_step 1 (Remap 1110016 24576 24576 7 1638400) (Ok (Returned 1638400)) (Some (plain 257 259 r ∷ plain 260 263 rw ∷ plain 263 400 r ∷ plain 400 406 r ∷ plain 406 8388873 r ∷ []))
    ∷ kernel_step 1 (Protect 1052672 12288 rw) (Err 12) (Some (plain 257 259 rw ∷ plain 260 263 rw ∷ plain 263 400 r ∷ plain 400 406 r ∷ plain 406 8388873 r ∷ []))
    ∷ kernel_step 1 (Touch 268 Write) (Ok (Signal AccErr)) None
    ∷ kernel_step 1 (Touch 260 Read) (Ok (Serves 260 263 rw false 0)) None
    ∷ kernel_step 0 (Map 1052672 16384 rw 50 (negsuc 0) 0) (Ok (Returned 1052672)) (Some (plain 257 263 rw ∷ plain 263 401 r ∷ plain 404 8388873 r ∷ []))
    ∷ kernel_step 0 (Touch 258 Write) (Ok (Serves 257 263 rw false 0)) None
    ∷ kernel_step 0 (Protect 1060864 16384 r) (Ok (Returned 0)) (Some (plain 257 259 rw ∷ plain 259 263 r ∷ plain 263 401 r ∷ plain 404 8388873 r ∷ []))
    ∷ kernel_step 1 (Touch 257 Read) (Ok (Serves 257 259 rw false 0)) None
    ∷ kernel_step 0 (Touch 405 Write) (Ok (Signal AccErr)) None
    ∷ kernel_step 1 (Touch 262 Write) (Ok (Serves 260 263 rw false 0)) None
    ∷ kernel_step 1 (Remap 1638400 24576 24576 3 1110016) (Ok (Returned 1110016)) (Some (plain 257 259 rw ∷ plain 260 263 rw ∷ plain 263 400 r ∷ plain 406 8388873 r ∷ []))
    ∷ kernel_step 0 (Unmap 1052672 4096) (Ok (Returned 0)) (Some (plain 258 259 rw ∷ plain 259 263 r ∷ plain 263 401 r ∷ plain 404 8388873 r ∷ []))
    ∷ kernel_step 1 (Remap 1642496 12288 12288 3 1056768) (Err 14) (Some (plain 257 259 rw ∷ plain 260 263 rw ∷ plain 263 400 r ∷ plain 406 8388873 r ∷ []))
    ∷ kernel_step 0 (Remap 1056768 20480 20480 3 1605632) (Err 14) (Some (plain 258 259 rw ∷ plain 259 263 r ∷ plain 263 392 r ∷ plain 397 401 r ∷ plain 404 8388873 r ∷ []))
    ∷ kernel_step 1 (Protect 1077248 49152 rw) (Ok (Returned 0)) (Some (plain 257 259 rw ∷ plain 260 275 rw ∷ plain 275 400 r ∷ plain 406 8388873 r ∷ []))
    ∷ kernel_step 0 (Remap 1048576 4096 8192 3 34360823808) (Err 14) (Some (plain 258 259 rw ∷ plain 259 263 r ∷ plain 263 392 r ∷ plain 397 401 r ∷ plain 404 8388873 r ∷ []))
    ∷ []

-- written_174: the kernel
abbrev pub written_174_on : Kernel
written_174_on = record { rules = linux_6_1; machine = record { lowest_built = 16; memory = 245000; stack = 8388608; has_keys = true; huge_always = true; files_are_huge = false; vsyscall = Xonly }; config = config 4096 140737354133504 65530 0 ([]) }

-- written_174: its answers
abbrev pub written_174 : List Step
written_174 =
    kernel_step 0 (Map 1060864 8192 rw 50 (negsuc 0) 0) (Ok (Returned 1060864)) (Some (plain 259 261 rw ∷ []))
    ∷ kernel_step 0 (Map 1048576 34359758848 rw 50 (negsuc 0) 0) (Err 12) (Some ([]))
    ∷ kernel_step 0 (Remap 1052672 12288 12288 3 1060864) (Err 14) (Some ([]))
    ∷ kernel_step 0 (Protect 1060864 8192 rw) (Err 12) (Some ([]))
    ∷ kernel_step 0 (Touch 259 Write) (Ok (Signal MapErr)) None
    ∷ kernel_step 0 (Touch 260 Write) (Ok (Signal MapErr)) None
    ∷ kernel_step 0 (Protect 1060864 8192 rw) (Err 12) (Some ([]))
    ∷ kernel_step 0 (Map 1052672 34359738368 r 49 (negsuc 0) 0) (Err 12) (Some ([]))
    ∷ kernel_step 0 (Touch 258 Write) (Ok (Signal MapErr)) None
    ∷ kernel_step 0 (Protect 1048576 12288 rw) (Err 12) (Some ([]))
    ∷ kernel_step 0 (Touch 260 Write) (Ok (Signal MapErr)) None
    ∷ kernel_step 0 (Protect 1052672 4096 r) (Err 12) (Some ([]))
    ∷ kernel_step 0 (Protect 1064960 20480 rw) (Err 12) (Some ([]))
    ∷ kernel_step 0 (Map 1060864 16384 rw 50 (negsuc 0) 0) (Ok (Returned 1060864)) (Some (plain 259 263 rw ∷ []))
    ∷ kernel_step 0 (Map 1060864 12288 rw 50 (negsuc 0) 0) (Ok (Returned 1060864)) (Some (plain 259 263 rw ∷ []))
    ∷ kernel_step 0 (Touch 262 Write) (Ok (Serves 259 263 rw false 0)) None
    ∷ kernel_step 0 (Protect 1060864 4096 rwx) (Ok (Returned 0)) (Some (plain 259 260 rwx ∷ plain 260 263 rw ∷ []))
    ∷ kernel_step 0 (Touch 259 Write) (Ok (Serves 259 260 rwx false 0)) None
    ∷ kernel_step 0 (Remap 1060864 12288 12288 3 1052672) (Err 22) (Some (plain 259 260 rwx ∷ plain 260 263 rw ∷ []))
    ∷ kernel_step 0 (Remap 1064960 8192 8192 3 1638400) (Ok (Returned 1638400)) (Some (plain 259 260 rwx ∷ plain 262 263 rw ∷ plain 400 402 rw ∷ []))
    ∷ kernel_step 0 (Map 1064960 16384 rwx 50 (negsuc 0) 0) (Ok (Returned 1064960)) (Some (plain 259 264 rwx ∷ plain 400 402 rw ∷ []))
    ∷ kernel_step 0 (Unmap 1052672 4096) (Ok (Returned 0)) (Some (plain 259 264 rwx ∷ plain 400 402 rw ∷ []))
    ∷ kernel_step 0 (Remap 1060864 20480 20480 7 1609728) (Ok (Returned 1609728)) (Some (plain 259 264 rwx ∷ plain 393 398 rwx ∷ plain 400 402 rw ∷ []))
    ∷ kernel_step 0 (Map 1052672 16384 rwx 50 (negsuc 0) 0) (Ok (Returned 1052672)) (Some (plain 257 264 rwx ∷ plain 393 398 rwx ∷ plain 400 402 rw ∷ []))
    ∷ kernel_step 0 (Remap 1613824 16384 16384 3 1064960) (Ok (Returned 1064960)) (Some (plain 257 260 rwx ∷ plain 260 264 rwx ∷ plain 393 394 rwx ∷ plain 400 402 rw ∷ []))
    ∷ kernel_step 0 (Remap 1060864 24576 32768 1 0) (Err 14) (Some (plain 257 260 rwx ∷ plain 260 264 rwx ∷ plain 393 394 rwx ∷ plain 400 402 rw ∷ []))
    ∷ kernel_step 0 (Touch 400 Write) (Ok (Serves 400 402 rw false 0)) None
    ∷ kernel_step 0 (Protect 1060864 20480 rwx) (Ok (Returned 0)) (Some (plain 257 260 rwx ∷ plain 260 264 rwx ∷ plain 393 394 rwx ∷ plain 400 402 rw ∷ []))
    ∷ kernel_step 0 (Protect 1052672 16384 r) (Ok (Returned 0)) (Some (plain 257 260 r ∷ plain 260 261 r ∷ plain 261 264 rwx ∷ plain 393 394 rwx ∷ plain 400 402 rw ∷ []))
    ∷ kernel_step 0 (Touch 257 Read) (Ok (Serves 257 260 r false 0)) (Some (plain 257 260 r ∷ plain 260 261 r ∷ plain 261 264 rwx ∷ plain 393 394 rwx ∷ plain 400 402 rw ∷ []))
    ∷ []

-- written_188: the kernel
abbrev pub written_188_on : Kernel
written_188_on = record { rules = linux_6_1; machine = record { lowest_built = 16; memory = 245000; stack = 8388608; has_keys = true; huge_always = true; files_are_huge = false; vsyscall = Xonly }; config = config 4096 140737354133504 65530 0 (file_row 3 true true 90000 ∷ file_row 4 true true 5000 ∷ file_row 5 true false 0 ∷ []) }

-- written_188: its answers
abbrev pub written_188 : List Step
written_188 =
    kernel_step 0 (Map 1056768 16384 r 50 (negsuc 0) 0) (Ok (Returned 1056768)) (Some (plain 258 262 r ∷ []))
    ∷ kernel_step 0 (Map 1048576 4096 rw 50 (negsuc 0) 0) (Ok (Returned 1048576)) (Some (plain 256 257 rw ∷ plain 258 262 r ∷ []))
    ∷ kernel_step 0 (Remap 1048576 4096 4096 7 1052672) (Ok (Returned 1052672)) (Some (plain 256 257 rw ∷ plain 257 258 rw ∷ plain 258 262 r ∷ []))
    ∷ kernel_step 0 (Remap 1048576 4096 4096 7 1605632) (Ok (Returned 1605632)) (Some (plain 256 257 rw ∷ plain 257 258 rw ∷ plain 258 262 r ∷ plain 392 393 rw ∷ []))
    ∷ kernel_step 0 (Protect 1060864 8192 r) (Ok (Returned 0)) (Some (plain 256 257 rw ∷ plain 257 258 rw ∷ plain 258 262 r ∷ plain 392 393 rw ∷ []))
    ∷ kernel_step 0 (Map 1052672 4096 rw 50 (negsuc 0) 0) (Ok (Returned 1052672)) (Some (plain 256 258 rw ∷ plain 258 262 r ∷ plain 392 393 rw ∷ []))
    ∷ kernel_step 0 (Touch 392 Read) (Ok (Serves 392 393 rw false 0)) None
    ∷ kernel_step 0 (Fork 1) (Ok (Returned 0)) None
    ∷ kernel_step 0 (Protect 1064960 8192 rw) (Ok (Returned 0)) (Some (plain 256 258 rw ∷ plain 258 260 r ∷ plain 260 262 rw ∷ plain 392 393 rw ∷ []))
    ∷ kernel_step 1 (Touch 257 Write) (Ok (Serves 256 258 rw false 0)) None
    ∷ kernel_step 1 (Map 1056768 12288 r 50 (negsuc 0) 0) (Ok (Returned 1056768)) (Some (plain 256 258 rw ∷ plain 258 262 r ∷ plain 392 393 rw ∷ []))
    ∷ kernel_step 0 (Fork 2) (Ok (Returned 0)) None
    ∷ kernel_step 2 (Touch 261 Write) (Ok (Serves 260 262 rw false 0)) None
    ∷ kernel_step 1 (Touch 256 Write) (Ok (Serves 256 258 rw false 0)) None
    ∷ kernel_step 1 (Remap 1605632 4096 4096 3 1048576) (Ok (Returned 1048576)) (Some (plain 256 258 rw ∷ plain 258 262 r ∷ []))
    ∷ kernel_step 0 (Touch 258 Write) (Ok (Signal AccErr)) None
    ∷ kernel_step 0 (Map 1048576 8192 rw 50 (negsuc 0) 0) (Ok (Returned 1048576)) (Some (plain 256 258 rw ∷ plain 258 260 r ∷ plain 260 262 rw ∷ plain 392 393 rw ∷ []))
    ∷ kernel_step 2 (Protect 1048576 12288 r) (Ok (Returned 0)) (Some (plain 256 258 r ∷ plain 258 260 r ∷ plain 260 262 rw ∷ plain 392 393 rw ∷ []))
    ∷ kernel_step 2 (Protect 1064960 8192 r) (Ok (Returned 0)) (Some (plain 256 258 r ∷ plain 258 260 r ∷ plain 260 262 r ∷ plain 392 393 rw ∷ []))
    ∷ kernel_step 2 (Map 1052672 8192 rw 50 (negsuc 0) 0) (Ok (Returned 1052672)) (Some (plain 256 257 r ∷ plain 257 259 rw ∷ plain 259 260 r ∷ plain 260 262 r ∷ plain 392 393 rw ∷ []))
    ∷ kernel_step 0 (Fork 3) (Ok (Returned 0)) None
    ∷ kernel_step 3 (Map 1052672 4096 rw 50 (negsuc 0) 0) (Ok (Returned 1052672)) (Some (plain 256 258 rw ∷ plain 258 260 r ∷ plain 260 262 rw ∷ plain 392 393 rw ∷ []))
    ∷ kernel_step 0 (Touch 258 Write) (Ok (Signal AccErr)) None
    ∷ kernel_step 0 (Protect 1048576 4096 r) (Ok (Returned 0)) (Some (plain 256 257 r ∷ plain 257 258 rw ∷ plain 258 260 r ∷ plain 260 262 rw ∷ plain 392 393 rw ∷ []))
    ∷ kernel_step 0 (Map 1048576 16384 rw 50 (negsuc 0) 0) (Ok (Returned 1048576)) (Some (plain 256 262 rw ∷ plain 392 393 rw ∷ []))
    ∷ kernel_step 3 (Touch 258 Write) (Ok (Signal AccErr)) None
    ∷ kernel_step 1 (Touch 257 Write) (Ok (Serves 256 258 rw false 0)) None
    ∷ kernel_step 1 (Map 1052672 16384 rw 50 (negsuc 0) 0) (Ok (Returned 1052672)) (Some (plain 256 261 rw ∷ plain 261 262 r ∷ []))
    ∷ kernel_step 3 (Touch 260 Write) (Ok (Serves 260 262 rw false 0)) (Some (plain 256 258 rw ∷ plain 258 260 r ∷ plain 260 262 rw ∷ plain 392 393 rw ∷ []))
    ∷ kernel_step 2 (Touch 392 Write) (Ok (Serves 392 393 rw false 0)) (Some (plain 256 257 r ∷ plain 257 259 rw ∷ plain 259 260 r ∷ plain 260 262 r ∷ plain 392 393 rw ∷ []))
    ∷ []

-- written_198: the kernel
abbrev pub written_198_on : Kernel
written_198_on = record { rules = linux_6_1; machine = record { lowest_built = 16; memory = 245000; stack = 8388608; has_keys = true; huge_always = true; files_are_huge = false; vsyscall = Xonly }; config = config 4096 140737354133504 65530 0 ([]) }

-- written_198: its answers
abbrev pub written_198 : List Step
written_198 =
    kernel_step 0 (Map 1060864 12288 rw 50 (negsuc 0) 0) (Ok (Returned 1060864)) (Some (plain 259 262 rw ∷ []))
    ∷ kernel_step 0 (Map 1052672 4096 rw 50 (negsuc 0) 0) (Ok (Returned 1052672)) (Some (plain 257 258 rw ∷ plain 259 262 rw ∷ []))
    ∷ kernel_step 0 (Touch 261 Write) (Ok (Serves 259 262 rw false 0)) None
    ∷ kernel_step 0 (Touch 261 Write) (Ok (Serves 259 262 rw false 0)) None
    ∷ kernel_step 0 (Remap 1048576 16384 16384 3 1056768) (Err 14) (Some (plain 257 258 rw ∷ plain 259 262 rw ∷ []))
    ∷ kernel_step 0 (Map 1060864 12288 rw 32818 (negsuc 0) 0) (Ok (Returned 1060864)) (Some (plain 257 258 rw ∷ plain 259 262 rw ∷ []))
    ∷ kernel_step 0 (Remap 1048576 12288 12288 3 1605632) (Err 14) (Some (plain 257 258 rw ∷ plain 259 262 rw ∷ []))
    ∷ kernel_step 0 (Touch 257 Write) (Ok (Serves 257 258 rw false 0)) None
    ∷ kernel_step 0 (Map 1056768 4096 rw 50 (negsuc 0) 0) (Ok (Returned 1056768)) (Some (plain 257 258 rw ∷ plain 258 262 rw ∷ []))
    ∷ kernel_step 0 (Touch 257 Read) (Ok (Serves 257 258 rw false 0)) None
    ∷ kernel_step 0 (Remap 1056768 4096 4096 7 1048576) (Ok (Returned 1048576)) (Some (plain 256 257 rw ∷ plain 257 258 rw ∷ plain 258 262 rw ∷ []))
    ∷ kernel_step 0 (Touch 257 Write) (Ok (Serves 257 258 rw false 0)) None
    ∷ kernel_step 0 (Map 1060864 4096 rw 131122 (negsuc 0) 0) (Ok (Returned 1060864)) (Some (plain 256 257 rw ∷ plain 257 258 rw ∷ plain 258 262 rw ∷ []))
    ∷ kernel_step 0 (Touch 261 Read) (Ok (Serves 258 262 rw false 0)) None
    ∷ kernel_step 0 (Protect 1048576 8192 rw) (Ok (Returned 0)) (Some (plain 256 257 rw ∷ plain 257 258 rw ∷ plain 258 262 rw ∷ []))
    ∷ kernel_step 0 (Map 1060864 4096 rw 50 (negsuc 0) 0) (Ok (Returned 1060864)) (Some (plain 256 257 rw ∷ plain 257 258 rw ∷ plain 258 262 rw ∷ []))
    ∷ kernel_step 0 (Touch 261 Read) (Ok (Serves 258 262 rw false 0)) None
    ∷ kernel_step 0 (Touch 257 Read) (Ok (Serves 257 258 rw false 0)) None
    ∷ kernel_step 0 (Touch 261 Read) (Ok (Serves 258 262 rw false 0)) None
    ∷ kernel_step 0 (Remap 1052672 4096 4096 3 1605632) (Ok (Returned 1605632)) (Some (plain 256 257 rw ∷ plain 258 262 rw ∷ plain 392 393 rw ∷ []))
    ∷ kernel_step 0 (Remap 1609728 8192 8192 3 1052672) (Err 14) (Some (plain 256 257 rw ∷ plain 258 262 rw ∷ plain 392 393 rw ∷ []))
    ∷ kernel_step 0 (Remap 1605632 4096 4096 3 1052672) (Ok (Returned 1052672)) (Some (plain 256 257 rw ∷ plain 257 258 rw ∷ plain 258 262 rw ∷ []))
    ∷ kernel_step 0 (Touch 256 Read) (Ok (Serves 256 257 rw false 0)) None
    ∷ kernel_step 0 (Protect 1064960 12288 rw) (Err 12) (Some (plain 256 257 rw ∷ plain 257 258 rw ∷ plain 258 262 rw ∷ []))
    ∷ kernel_step 0 (Touch 258 Write) (Ok (Serves 258 262 rw false 0)) None
    ∷ kernel_step 0 (Touch 257 Write) (Ok (Serves 257 258 rw false 0)) None
    ∷ kernel_step 0 (Protect 1052672 20480 rw) (Ok (Returned 0)) (Some (plain 256 257 rw ∷ plain 257 258 rw ∷ plain 258 262 rw ∷ []))
    ∷ kernel_step 0 (Protect 1060864 4096 rw) (Ok (Returned 0)) (Some (plain 256 257 rw ∷ plain 257 258 rw ∷ plain 258 262 rw ∷ []))
    ∷ kernel_step 0 (Unmap 1048576 12288) (Ok (Returned 0)) (Some (plain 259 262 rw ∷ []))
    ∷ kernel_step 0 (Touch 259 Write) (Ok (Serves 259 262 rw false 0)) (Some (plain 259 262 rw ∷ []))
    ∷ []

-- hard_208: the kernel
abbrev pub hard_208_on : Kernel
hard_208_on = record { rules = linux_6_1; machine = record { lowest_built = 16; memory = 245000; stack = 8388608; has_keys = true; huge_always = true; files_are_huge = false; vsyscall = Xonly }; config = config 4096 140737354133504 65530 0 ([]) }

-- hard_208: its answers
abbrev pub hard_208 : List Step
hard_208 =
    kernel_step 0 (Map 1085440 12288 r 16434 (negsuc 0) 0) (Ok (Returned 1085440)) (Some (plain 265 268 r ∷ []))
    ∷ kernel_step 0 (Map 1073152 16384 rw 1048609 (negsuc 0) 0) (Err 17) (Some (plain 265 268 r ∷ []))
    ∷ kernel_step 0 (Map 0 4194304 r 131361 (negsuc 0) 0) (Err 22) (Some (plain 265 268 r ∷ []))
    ∷ kernel_step 0 (Touch 265 Write) (Ok (Signal AccErr)) None
    ∷ kernel_step 0 (Protect 1114112 16384 rw) (Err 12) (Some (plain 265 268 r ∷ []))
    ∷ kernel_step 0 (Touch 265 Write) (Ok (Signal AccErr)) None
    ∷ kernel_step 0 (Map 1097728 8192 rw 50 (negsuc 0) 0) (Ok (Returned 1097728)) (Some (plain 265 268 r ∷ plain 268 270 rw ∷ []))
    ∷ kernel_step 0 (Protect 1097728 8192 rw) (Ok (Returned 0)) (Some (plain 265 268 r ∷ plain 268 270 rw ∷ []))
    ∷ kernel_step 0 (Remap 1085440 12288 12288 5 0) (Ok (Returned 140737354121216)) (Some (plain 265 268 r ∷ plain 268 270 rw ∷ plain 34359705596 34359705599 r ∷ []))
    ∷ kernel_step 0 (Touch 265 Write) (Ok (Signal AccErr)) None
    ∷ kernel_step 0 (Map 1122304 16384 r 50 (negsuc 0) 0) (Ok (Returned 1122304)) (Some (plain 265 268 r ∷ plain 268 270 rw ∷ plain 274 278 r ∷ plain 34359705596 34359705599 r ∷ []))
    ∷ kernel_step 0 (Protect 1085440 53248 rw) (Err 12) (Some (plain 265 268 rw ∷ plain 268 270 rw ∷ plain 274 278 r ∷ plain 34359705596 34359705599 r ∷ []))
    ∷ kernel_step 0 (Protect 1101824 16384 r) (Err 12) (Some (plain 265 268 rw ∷ plain 268 269 rw ∷ plain 269 270 r ∷ plain 274 278 r ∷ plain 34359705596 34359705599 r ∷ []))
    ∷ kernel_step 0 (Protect 1101824 4096 r) (Ok (Returned 0)) (Some (plain 265 268 rw ∷ plain 268 269 rw ∷ plain 269 270 r ∷ plain 274 278 r ∷ plain 34359705596 34359705599 r ∷ []))
    ∷ kernel_step 0 (Map 1097728 12288 r 50 (negsuc 0) 0) (Ok (Returned 1097728)) (Some (plain 265 268 rw ∷ plain 268 271 r ∷ plain 274 278 r ∷ plain 34359705596 34359705599 r ∷ []))
    ∷ kernel_step 0 (Protect 1097728 4096 r) (Ok (Returned 0)) (Some (plain 265 268 rw ∷ plain 268 271 r ∷ plain 274 278 r ∷ plain 34359705596 34359705599 r ∷ []))
    ∷ kernel_step 0 (Remap 1126400 12288 12288 5 0) (Ok (Returned 140737354108928)) (Some (plain 265 268 rw ∷ plain 268 271 r ∷ plain 274 278 r ∷ plain 34359705593 34359705596 r ∷ plain 34359705596 34359705599 r ∷ []))
    ∷ kernel_step 0 (Map 0 68719476736 r 34 (negsuc 0) 0) (Ok (Returned 140668634632192)) (Some (plain 265 268 rw ∷ plain 268 271 r ∷ plain 274 278 r ∷ plain 34342928377 34359705596 r ∷ plain 34359705596 34359705599 r ∷ []))
    ∷ kernel_step 0 (Protect 1134592 4096 r) (Ok (Returned 0)) (Some (plain 265 268 rw ∷ plain 268 271 r ∷ plain 274 278 r ∷ plain 34342928377 34359705596 r ∷ plain 34359705596 34359705599 r ∷ []))
    ∷ kernel_step 0 (Fork 1) (Ok (Returned 0)) None
    ∷ kernel_step 0 (Unmap 1085440 12288) (Ok (Returned 0)) (Some (plain 268 271 r ∷ plain 274 278 r ∷ plain 34342928377 34359705596 r ∷ plain 34359705596 34359705599 r ∷ []))
    ∷ kernel_step 0 (Protect 1097728 12288 r) (Ok (Returned 0)) (Some (plain 268 271 r ∷ plain 274 278 r ∷ plain 34342928377 34359705596 r ∷ plain 34359705596 34359705599 r ∷ []))
    ∷ kernel_step 1 (Touch 274 Read) (Ok (Serves 274 278 r false 0)) None
    ∷ kernel_step 1 (Remap 1122304 16384 16384 7 1138688) (Ok (Returned 1138688)) (Some (plain 265 268 rw ∷ plain 268 271 r ∷ plain 274 278 r ∷ plain 278 282 r ∷ plain 34342928377 34359705596 r ∷ plain 34359705596 34359705599 r ∷ []))
    ∷ kernel_step 0 (Unmap 1122304 16384) (Ok (Returned 0)) (Some (plain 268 271 r ∷ plain 34342928377 34359705596 r ∷ plain 34359705596 34359705599 r ∷ []))
    ∷ kernel_step 0 (Remap 1097728 0 12288 1 0) (Err 22) (Some (plain 268 271 r ∷ plain 34342928377 34359705596 r ∷ plain 34359705596 34359705599 r ∷ []))
    ∷ kernel_step 1 (Remap 1089536 12288 12288 5 0) (Err 14) (Some (plain 265 268 rw ∷ plain 268 271 r ∷ plain 274 278 r ∷ plain 278 282 r ∷ plain 34342928377 34359705596 r ∷ plain 34359705596 34359705599 r ∷ []))
    ∷ kernel_step 1 (Map 140737354133504 8192 r 50 (negsuc 0) 0) (Ok (Returned 140737354133504)) (Some (plain 265 268 rw ∷ plain 268 271 r ∷ plain 274 278 r ∷ plain 278 282 r ∷ plain 34342928377 34359705596 r ∷ plain 34359705596 34359705599 r ∷ plain 34359705599 34359705601 r ∷ []))
    ∷ kernel_step 0 (Touch 268 Exec) (Ok (Signal AccErr)) (Some (plain 268 271 r ∷ plain 34342928377 34359705596 r ∷ plain 34359705596 34359705599 r ∷ []))
    ∷ kernel_step 1 (Unmap 1077248 20480) (Ok (Returned 0)) (Some (plain 268 271 r ∷ plain 274 278 r ∷ plain 278 282 r ∷ plain 34342928377 34359705596 r ∷ plain 34359705596 34359705599 r ∷ plain 34359705599 34359705601 r ∷ []))
    ∷ []

-- written_220: the kernel
abbrev pub written_220_on : Kernel
written_220_on = record { rules = linux_6_1; machine = record { lowest_built = 16; memory = 245000; stack = 8388608; has_keys = true; huge_always = true; files_are_huge = false; vsyscall = Xonly }; config = config 4096 140737354133504 65530 0 ([]) }

-- written_220: its answers
abbrev pub written_220 : List Step
written_220 =
    kernel_step 0 (Map 1064960 8192 r 50 (negsuc 0) 0) (Ok (Returned 1064960)) (Some (plain 260 262 r ∷ []))
    ∷ kernel_step 0 (Map 1085440 16384 rw 50 (negsuc 0) 0) (Ok (Returned 1085440)) (Some (plain 260 262 r ∷ plain 265 269 rw ∷ []))
    ∷ kernel_step 0 (Protect 1069056 8192 rw) (Err 12) (Some (plain 260 261 r ∷ plain 261 262 rw ∷ plain 265 269 rw ∷ []))
    ∷ kernel_step 0 (Protect 1077248 4096 rw) (Err 12) (Some (plain 260 261 r ∷ plain 261 262 rw ∷ plain 265 269 rw ∷ []))
    ∷ kernel_step 0 (Fork 1) (Ok (Returned 0)) None
    ∷ kernel_step 1 (Protect 1064960 4096 r) (Ok (Returned 0)) (Some (plain 260 261 r ∷ plain 261 262 rw ∷ plain 265 269 rw ∷ []))
    ∷ kernel_step 0 (Fork 2) (Ok (Returned 0)) None
    ∷ kernel_step 2 (Protect 1056768 8192 r) (Err 12) (Some (plain 260 261 r ∷ plain 261 262 rw ∷ plain 265 269 rw ∷ []))
    ∷ kernel_step 1 (Remap 1060864 16384 16384 3 1060864) (Err 14) (Some (plain 260 261 r ∷ plain 261 262 rw ∷ plain 265 269 rw ∷ []))
    ∷ kernel_step 1 (Touch 267 Write) (Ok (Serves 265 269 rw false 0)) None
    ∷ kernel_step 1 (Touch 267 Write) (Ok (Serves 265 269 rw false 0)) None
    ∷ kernel_step 1 (Touch 260 Write) (Ok (Signal AccErr)) None
    ∷ kernel_step 1 (Map 1085440 8192 r 50 (negsuc 0) 0) (Ok (Returned 1085440)) (Some (plain 260 261 r ∷ plain 261 262 rw ∷ plain 265 267 r ∷ plain 267 269 rw ∷ []))
    ∷ kernel_step 0 (Touch 261 Read) (Ok (Serves 261 262 rw false 0)) None
    ∷ kernel_step 2 (Protect 1081344 12288 r) (Err 12) (Some (plain 260 261 r ∷ plain 261 262 rw ∷ plain 265 269 rw ∷ []))
    ∷ kernel_step 1 (Unmap 1085440 8192) (Ok (Returned 0)) (Some (plain 260 261 r ∷ plain 261 262 rw ∷ plain 267 269 rw ∷ []))
    ∷ kernel_step 0 (Remap 1093632 16384 16384 7 1077248) (Err 14) (Some (plain 260 261 r ∷ plain 261 262 rw ∷ plain 267 269 rw ∷ []))
    ∷ kernel_step 0 (Touch 260 Write) (Ok (Signal AccErr)) None
    ∷ kernel_step 1 (Protect 1048576 12288 rw) (Err 12) (Some (plain 260 261 r ∷ plain 261 262 rw ∷ plain 267 269 rw ∷ []))
    ∷ kernel_step 1 (Protect 1069056 4096 rw) (Ok (Returned 0)) (Some (plain 260 261 r ∷ plain 261 262 rw ∷ plain 267 269 rw ∷ []))
    ∷ kernel_step 1 (Protect 1069056 4096 rw) (Ok (Returned 0)) (Some (plain 260 261 r ∷ plain 261 262 rw ∷ plain 267 269 rw ∷ []))
    ∷ kernel_step 0 (Map 1056768 8192 r 50 (negsuc 0) 0) (Ok (Returned 1056768)) (Some (plain 258 261 r ∷ plain 261 262 rw ∷ plain 267 269 rw ∷ []))
    ∷ kernel_step 1 (Touch 267 Write) (Ok (Serves 267 269 rw false 0)) None
    ∷ kernel_step 0 (Map 1048576 16384 rw 50 (negsuc 0) 0) (Ok (Returned 1048576)) (Some (plain 256 260 rw ∷ plain 260 261 r ∷ plain 261 262 rw ∷ plain 267 269 rw ∷ []))
    ∷ kernel_step 2 (Remap 1077248 16384 16384 3 1093632) (Err 14) (Some (plain 260 261 r ∷ plain 261 262 rw ∷ plain 265 269 rw ∷ []))
    ∷ kernel_step 1 (Map 1052672 12288 r 50 (negsuc 0) 0) (Ok (Returned 1052672)) (Some (plain 257 261 r ∷ plain 261 262 rw ∷ plain 267 269 rw ∷ []))
    ∷ kernel_step 0 (Touch 261 Read) (Ok (Serves 261 262 rw false 0)) (Some (plain 256 260 rw ∷ plain 260 261 r ∷ plain 261 262 rw ∷ plain 267 269 rw ∷ []))
    ∷ kernel_step 1 (Remap 1069056 16384 16384 5 0) (Err 14) (Some (plain 257 261 r ∷ plain 261 262 rw ∷ plain 267 269 rw ∷ []))
    ∷ kernel_step 2 (Remap 1073152 12288 12288 5 0) (Err 14) (Some (plain 260 261 r ∷ plain 261 262 rw ∷ plain 265 269 rw ∷ []))
    ∷ kernel_step 1 (Unmap 1052672 4096) (Ok (Returned 0)) (Some (plain 258 261 r ∷ plain 261 262 rw ∷ plain 267 269 rw ∷ []))
    ∷ []

-- hard_272: the kernel
abbrev pub hard_272_on : Kernel
hard_272_on = record { rules = linux_6_1; machine = record { lowest_built = 16; memory = 245000; stack = 8388608; has_keys = true; huge_always = true; files_are_huge = false; vsyscall = Xonly }; config = config 4096 140737354133504 65530 0 (file_row 3 false true 0 ∷ file_row 4 false true 90000 ∷ []) }

-- hard_272: its answers
abbrev pub hard_272 : List Step
hard_272 =
    kernel_step 0 (Map 1048576 16384 r 50 (negsuc 0) 0) (Ok (Returned 1048576)) (Some (plain 256 260 r ∷ []))
    ∷ kernel_step 0 (Map 1085440 8192 r 50 (negsuc 0) 0) (Ok (Returned 1085440)) (Some (plain 256 260 r ∷ plain 265 267 r ∷ []))
    ∷ kernel_step 0 (Map 0 4096 r 32769 (pos 3) 0) (Err 13) (Some (plain 256 260 r ∷ plain 265 267 r ∷ []))
    ∷ kernel_step 0 (Touch 257 Exec) (Ok (Signal AccErr)) None
    ∷ kernel_step 0 (Map 1126400 4096 r 50 (negsuc 0) 0) (Ok (Returned 1126400)) (Some (plain 256 260 r ∷ plain 265 267 r ∷ plain 275 276 r ∷ []))
    ∷ kernel_step 0 (Touch 275 Write) (Ok (Signal AccErr)) None
    ∷ kernel_step 0 (Protect 1085440 8192 r) (Ok (Returned 0)) (Some (plain 256 260 r ∷ plain 265 267 r ∷ plain 275 276 r ∷ []))
    ∷ kernel_step 0 (Protect 1085440 8192 r) (Ok (Returned 0)) (Some (plain 256 260 r ∷ plain 265 267 r ∷ plain 275 276 r ∷ []))
    ∷ kernel_step 0 (Unmap 1048576 12288) (Ok (Returned 0)) (Some (plain 259 260 r ∷ plain 265 267 r ∷ plain 275 276 r ∷ []))
    ∷ kernel_step 0 (Remap 1126400 4096 4096 7 1122304) (Ok (Returned 1122304)) (Some (plain 259 260 r ∷ plain 265 267 r ∷ plain 274 275 r ∷ plain 275 276 r ∷ []))
    ∷ kernel_step 0 (Protect 1122304 8192 rw) (Ok (Returned 0)) (Some (plain 259 260 r ∷ plain 265 267 r ∷ plain 274 276 rw ∷ []))
    ∷ kernel_step 0 (Protect 1089536 4096 rw) (Ok (Returned 0)) (Some (plain 259 260 r ∷ plain 265 266 r ∷ plain 266 267 rw ∷ plain 274 276 rw ∷ []))
    ∷ kernel_step 0 (Remap 1060864 8192 4096 1 0) (Ok (Returned 1060864)) (Some (plain 259 260 r ∷ plain 265 266 r ∷ plain 266 267 rw ∷ plain 274 276 rw ∷ []))
    ∷ kernel_step 0 (Map 1097728 12288 r 50 (negsuc 0) 0) (Ok (Returned 1097728)) (Some (plain 259 260 r ∷ plain 265 266 r ∷ plain 266 267 rw ∷ plain 268 271 r ∷ plain 274 276 rw ∷ []))
    ∷ kernel_step 0 (Map 1064960 12288 rw 306 (negsuc 0) 0) (Ok (Returned 1064960)) (Some (plain 259 260 r ∷ plain 260 263 rw ∷ plain 265 266 r ∷ plain 266 267 rw ∷ plain 268 271 r ∷ plain 274 276 rw ∷ []))
    ∷ kernel_step 0 (Map 1064960 16384 r 34 (negsuc 0) 0) (Ok (Returned 140737354117120)) (Some (plain 259 260 r ∷ plain 260 263 rw ∷ plain 265 266 r ∷ plain 266 267 rw ∷ plain 268 271 r ∷ plain 274 276 rw ∷ plain 34359705595 34359705599 r ∷ []))
    ∷ kernel_step 0 (Protect 1060864 4096 r) (Ok (Returned 0)) (Some (plain 259 260 r ∷ plain 260 263 rw ∷ plain 265 266 r ∷ plain 266 267 rw ∷ plain 268 271 r ∷ plain 274 276 rw ∷ plain 34359705595 34359705599 r ∷ []))
    ∷ kernel_step 0 (Protect 1122304 4096 r) (Ok (Returned 0)) (Some (plain 259 260 r ∷ plain 260 263 rw ∷ plain 265 266 r ∷ plain 266 267 rw ∷ plain 268 271 r ∷ plain 274 275 r ∷ plain 275 276 rw ∷ plain 34359705595 34359705599 r ∷ []))
    ∷ kernel_step 0 (Map 1052672 4096 r 50 (negsuc 0) 0) (Ok (Returned 1052672)) (Some (plain 257 258 r ∷ plain 259 260 r ∷ plain 260 263 rw ∷ plain 265 266 r ∷ plain 266 267 rw ∷ plain 268 271 r ∷ plain 274 275 r ∷ plain 275 276 rw ∷ plain 34359705595 34359705599 r ∷ []))
    ∷ kernel_step 0 (Remap 1126400 0 4096 0 0) (Err 22) (Some (plain 257 258 r ∷ plain 259 260 r ∷ plain 260 263 rw ∷ plain 265 266 r ∷ plain 266 267 rw ∷ plain 268 271 r ∷ plain 274 275 r ∷ plain 275 276 rw ∷ plain 34359705595 34359705599 r ∷ []))
    ∷ kernel_step 0 (Touch 269 Read) (Ok (Serves 268 271 r false 0)) None
    ∷ kernel_step 0 (Map 1048576 8192 rw 18 (pos 4) 0) (Err 13) (Some (plain 257 258 r ∷ plain 259 260 r ∷ plain 260 263 rw ∷ plain 265 266 r ∷ plain 266 267 rw ∷ plain 268 271 r ∷ plain 274 275 r ∷ plain 275 276 rw ∷ plain 34359705595 34359705599 r ∷ []))
    ∷ kernel_step 0 (Remap 1089536 4096 4096 7 1118208) (Ok (Returned 1118208)) (Some (plain 257 258 r ∷ plain 259 260 r ∷ plain 260 263 rw ∷ plain 265 266 r ∷ plain 266 267 rw ∷ plain 268 271 r ∷ plain 273 274 rw ∷ plain 274 275 r ∷ plain 275 276 rw ∷ plain 34359705595 34359705599 r ∷ []))
    ∷ kernel_step 0 (Map 0 8192 rw 32802 (negsuc 0) 0) (Ok (Returned 140737354108928)) (Some (plain 257 258 r ∷ plain 259 260 r ∷ plain 260 263 rw ∷ plain 265 266 r ∷ plain 266 267 rw ∷ plain 268 271 r ∷ plain 273 274 rw ∷ plain 274 275 r ∷ plain 275 276 rw ∷ plain 34359705593 34359705595 rw ∷ plain 34359705595 34359705599 r ∷ []))
    ∷ kernel_step 0 (Map 1077248 4096 rw 17 (pos 4) 8192) (Err 13) (Some (plain 257 258 r ∷ plain 259 260 r ∷ plain 260 263 rw ∷ plain 265 266 r ∷ plain 266 267 rw ∷ plain 268 271 r ∷ plain 273 274 rw ∷ plain 274 275 r ∷ plain 275 276 rw ∷ plain 34359705593 34359705595 rw ∷ plain 34359705595 34359705599 r ∷ []))
    ∷ kernel_step 0 (Touch 257 Exec) (Ok (Signal AccErr)) None
    ∷ kernel_step 0 (Map 1093632 12288 r 34 (negsuc 0) 0) (Ok (Returned 140737354096640)) (Some (plain 257 258 r ∷ plain 259 260 r ∷ plain 260 263 rw ∷ plain 265 266 r ∷ plain 266 267 rw ∷ plain 268 271 r ∷ plain 273 274 rw ∷ plain 274 275 r ∷ plain 275 276 rw ∷ plain 34359705590 34359705593 r ∷ plain 34359705593 34359705595 rw ∷ plain 34359705595 34359705599 r ∷ []))
    ∷ kernel_step 0 (Map 0 4096 rw 258 (pos 4) 12288) (Err 13) (Some (plain 257 258 r ∷ plain 259 260 r ∷ plain 260 263 rw ∷ plain 265 266 r ∷ plain 266 267 rw ∷ plain 268 271 r ∷ plain 273 274 rw ∷ plain 274 275 r ∷ plain 275 276 rw ∷ plain 34359705590 34359705593 r ∷ plain 34359705593 34359705595 rw ∷ plain 34359705595 34359705599 r ∷ []))
    ∷ kernel_step 0 (Map 1118208 4096 r 17 (pos 4) 8192) (Err 13) (Some (plain 257 258 r ∷ plain 259 260 r ∷ plain 260 263 rw ∷ plain 265 266 r ∷ plain 266 267 rw ∷ plain 268 271 r ∷ plain 273 274 rw ∷ plain 274 275 r ∷ plain 275 276 rw ∷ plain 34359705590 34359705593 r ∷ plain 34359705593 34359705595 rw ∷ plain 34359705595 34359705599 r ∷ []))
    ∷ kernel_step 0 (Map 1081344 4096 rw 32818 (negsuc 0) 0) (Ok (Returned 1081344)) (Some (plain 257 258 r ∷ plain 259 260 r ∷ plain 260 263 rw ∷ plain 264 265 rw ∷ plain 265 266 r ∷ plain 266 267 rw ∷ plain 268 271 r ∷ plain 273 274 rw ∷ plain 274 275 r ∷ plain 275 276 rw ∷ plain 34359705590 34359705593 r ∷ plain 34359705593 34359705595 rw ∷ plain 34359705595 34359705599 r ∷ []))
    ∷ []

-- hard_331: the kernel
abbrev pub hard_331_on : Kernel
hard_331_on = record { rules = linux_6_1; machine = record { lowest_built = 16; memory = 245000; stack = 8388608; has_keys = true; huge_always = true; files_are_huge = false; vsyscall = Xonly }; config = config 4096 140737354133504 65530 1077248 ([]) }

-- hard_331: its answers
abbrev pub hard_331 : List Step
hard_331 =
    kernel_step 0 (Map 1114112 12288 r 50 (negsuc 0) 0) (Ok (Returned 1114112)) (Some (plain 272 275 r ∷ []))
    ∷ kernel_step 0 (Map 0 4096 r 33 (negsuc 0) 0) (Ok (Returned 140737354129408)) (Some (plain 272 275 r ∷ filed 34359705598 34359705599 r true 0 1 ∷ []))
    ∷ kernel_step 0 (Protect 1118208 8192 rx) (Ok (Returned 0)) (Some (plain 272 273 r ∷ plain 273 275 rx ∷ filed 34359705598 34359705599 r true 0 1 ∷ []))
    ∷ kernel_step 0 (Protect 1114112 4096 x) (Ok (Returned 0)) (Some (plain 272 273 x ∷ plain 273 275 rx ∷ filed 34359705598 34359705599 r true 0 1 ∷ []))
    ∷ kernel_step 0 (Remap 1118208 16384 16384 3 1097728) (Err 14) (Some (plain 272 273 x ∷ plain 273 275 rx ∷ filed 34359705598 34359705599 r true 0 1 ∷ []))
    ∷ kernel_step 0 (Remap 1097728 8192 8192 7 1105920) (Err 14) (Some (plain 272 273 x ∷ plain 273 275 rx ∷ filed 34359705598 34359705599 r true 0 1 ∷ []))
    ∷ kernel_step 0 (Remap 1097728 4096 4096 3 1089536) (Err 14) (Some (plain 272 273 x ∷ plain 273 275 rx ∷ filed 34359705598 34359705599 r true 0 1 ∷ []))
    ∷ kernel_step 0 (Break 1093640) (Ok (Returned 1093640)) (Some (heap 263 268 rw ∷ plain 272 273 x ∷ plain 273 275 rx ∷ filed 34359705598 34359705599 r true 0 1 ∷ []))
    ∷ kernel_step 0 (Touch 270 Write) (Ok (Signal MapErr)) None
    ∷ kernel_step 0 (Remap 1101824 16384 12288 3 1093632) (Err 14) (Some (heap 263 268 rw ∷ plain 272 273 x ∷ plain 273 275 rx ∷ filed 34359705598 34359705599 r true 0 1 ∷ []))
    ∷ kernel_step 0 (Remap 1126400 8192 16384 3 1110016) (Err 14) (Some (heap 263 268 rw ∷ plain 272 273 x ∷ plain 273 275 rx ∷ filed 34359705598 34359705599 r true 0 1 ∷ []))
    ∷ kernel_step 0 (Map 1069056 16384 rw 50 (negsuc 0) 0) (Ok (Returned 1069056)) (Some (heap 261 268 rw ∷ plain 272 273 x ∷ plain 273 275 rx ∷ filed 34359705598 34359705599 r true 0 1 ∷ []))
    ∷ kernel_step 0 (Protect 1101824 4096 w) (Err 12) (Some (heap 261 268 rw ∷ plain 272 273 x ∷ plain 273 275 rx ∷ filed 34359705598 34359705599 r true 0 1 ∷ []))
    ∷ kernel_step 0 (Protect 1101824 4096 rw) (Err 12) (Some (heap 261 268 rw ∷ plain 272 273 x ∷ plain 273 275 rx ∷ filed 34359705598 34359705599 r true 0 1 ∷ []))
    ∷ kernel_step 0 (Remap 1105920 8192 12288 3 1093632) (Err 14) (Some (heap 261 268 rw ∷ plain 272 273 x ∷ plain 273 275 rx ∷ filed 34359705598 34359705599 r true 0 1 ∷ []))
    ∷ kernel_step 0 (Map 1089536 12288 rw 49 (negsuc 0) 0) (Ok (Returned 1089536)) (Some (heap 261 266 rw ∷ filed 266 269 rw true 0 2 ∷ plain 272 273 x ∷ plain 273 275 rx ∷ filed 34359705598 34359705599 r true 0 1 ∷ []))
    ∷ kernel_step 0 (Map 140737354125312 4096 rx 50 (negsuc 0) 0) (Ok (Returned 140737354125312)) (Some (heap 261 266 rw ∷ filed 266 269 rw true 0 2 ∷ plain 272 273 x ∷ plain 273 275 rx ∷ plain 34359705597 34359705598 rx ∷ filed 34359705598 34359705599 r true 0 1 ∷ []))
    ∷ kernel_step 0 (Protect 1073152 16384 rw) (Ok (Returned 0)) (Some (heap 261 266 rw ∷ filed 266 269 rw true 0 2 ∷ plain 272 273 x ∷ plain 273 275 rx ∷ plain 34359705597 34359705598 rx ∷ filed 34359705598 34359705599 r true 0 1 ∷ []))
    ∷ kernel_step 0 (Protect 1069056 16384 r) (Ok (Returned 0)) (Some (heap 261 265 r ∷ heap 265 266 rw ∷ filed 266 269 rw true 0 2 ∷ plain 272 273 x ∷ plain 273 275 rx ∷ plain 34359705597 34359705598 rx ∷ filed 34359705598 34359705599 r true 0 1 ∷ []))
    ∷ kernel_step 0 (Break 1069056) (Ok (Returned 1093640)) (Some (heap 261 265 r ∷ heap 265 266 rw ∷ filed 266 269 rw true 0 2 ∷ plain 272 273 x ∷ plain 273 275 rx ∷ plain 34359705597 34359705598 rx ∷ filed 34359705598 34359705599 r true 0 1 ∷ []))
    ∷ kernel_step 0 (Map 1085440 16384 rw 50 (negsuc 0) 0) (Ok (Returned 1085440)) (Some (heap 261 265 r ∷ heap 265 269 rw ∷ plain 272 273 x ∷ plain 273 275 rx ∷ plain 34359705597 34359705598 rx ∷ filed 34359705598 34359705599 r true 0 1 ∷ []))
    ∷ kernel_step 0 (Protect 1069056 16384 rw) (Ok (Returned 0)) (Some (heap 261 269 rw ∷ plain 272 273 x ∷ plain 273 275 rx ∷ plain 34359705597 34359705598 rx ∷ filed 34359705598 34359705599 r true 0 1 ∷ []))
    ∷ kernel_step 0 (Map 1048576 8192 rw 49 (negsuc 0) 0) (Ok (Returned 1048576)) (Some (filed 256 258 rw true 0 3 ∷ heap 261 269 rw ∷ plain 272 273 x ∷ plain 273 275 rx ∷ plain 34359705597 34359705598 rx ∷ filed 34359705598 34359705599 r true 0 1 ∷ []))
    ∷ kernel_step 0 (Touch 272 Write) (Ok (Signal PkuErr)) None
    ∷ kernel_step 0 (Remap 1089536 8192 8192 7 1048576) (Ok (Returned 1048576)) (Some (plain 256 258 rw ∷ heap 261 269 rw ∷ plain 272 273 x ∷ plain 273 275 rx ∷ plain 34359705597 34359705598 rx ∷ filed 34359705598 34359705599 r true 0 1 ∷ []))
    ∷ kernel_step 0 (Protect 1048576 4096 r) (Ok (Returned 0)) (Some (plain 256 257 r ∷ plain 257 258 rw ∷ heap 261 269 rw ∷ plain 272 273 x ∷ plain 273 275 rx ∷ plain 34359705597 34359705598 rx ∷ filed 34359705598 34359705599 r true 0 1 ∷ []))
    ∷ kernel_step 0 (Touch 263 Write) (Ok (Serves 261 269 rw false 0)) None
    ∷ kernel_step 0 (Touch 256 Exec) (Ok (Signal AccErr)) None
    ∷ kernel_step 0 (Map 1122304 12288 w 50 (negsuc 0) 0) (Ok (Returned 1122304)) (Some (plain 256 257 r ∷ plain 257 258 rw ∷ heap 261 269 rw ∷ plain 272 273 x ∷ plain 273 274 rx ∷ plain 274 277 w ∷ plain 34359705597 34359705598 rx ∷ filed 34359705598 34359705599 r true 0 1 ∷ []))
    ∷ kernel_step 0 (Protect 1114112 12288 rwx) (Ok (Returned 0)) (Some (plain 256 257 r ∷ plain 257 258 rw ∷ heap 261 269 rw ∷ plain 272 275 rwx ∷ plain 275 277 w ∷ plain 34359705597 34359705598 rx ∷ filed 34359705598 34359705599 r true 0 1 ∷ []))
    ∷ []

-- placement_first_search_one_more: the kernel
abbrev pub placement_first_search_one_more_on : Kernel
placement_first_search_one_more_on = record { rules = linux_6_1; machine = record { lowest_built = 16; memory = 245000; stack = 8388608; has_keys = true; huge_always = true; files_are_huge = false; vsyscall = Xonly }; config = config 4096 140737354133504 65530 0 ([]) }

-- placement_first_search_one_more: its answers
abbrev pub placement_first_search_one_more : List Step
placement_first_search_one_more =
    kernel_step 0 (Map 0 140737354072064 none 34 (negsuc 0) 0) (Ok (Returned 61440)) (Some (plain 15 34359705599 none ∷ []))
    ∷ []

-- The definitions answer all of these traces as Linux 6.1.192 did.
pub record AllOfLinux_6_1 : Type 0 where
  pub faults_after_a_refused_call_holds : IsAsRecorded faults_after_a_refused_call_on faults_after_a_refused_call
  pub faults_read_of_execute_only_holds : IsAsRecorded faults_read_of_execute_only_on faults_read_of_execute_only
  pub faults_shared_memory_has_no_end_holds : IsAsRecorded faults_shared_memory_has_no_end_on faults_shared_memory_has_no_end
  pub files_later_write_of_a_shared_readable_holds : IsAsRecorded files_later_write_of_a_shared_readable_on files_later_write_of_a_shared_readable
  pub files_shared_anonymous_split_holds : IsAsRecorded files_shared_anonymous_split_on files_shared_anonymous_split
  pub fork_eight_holds : IsAsRecorded fork_eight_on fork_eight
  pub fork_order_of_children_holds : IsAsRecorded fork_order_of_children_on fork_order_of_children
  pub fork_second_fork_later_holds : IsAsRecorded fork_second_fork_later_on fork_second_fork_later
  pub fork_two_children_holds : IsAsRecorded fork_two_children_on fork_two_children
  pub fork_versions_holds : IsAsRecorded fork_versions_on fork_versions
  pub growing_next_mapping_goes_below_holds : IsAsRecorded growing_next_mapping_goes_below_on growing_next_mapping_goes_below
  pub limits_min_one_page_holds : IsAsRecorded limits_min_one_page_on limits_min_one_page
  pub mmap_descriptor_greatest_holds : IsAsRecorded mmap_descriptor_greatest_on mmap_descriptor_greatest
  pub mmap_offset_overflows_holds : IsAsRecorded mmap_offset_overflows_on mmap_offset_overflows
  pub mprotect_may_not_be_written_holds : IsAsRecorded mprotect_may_not_be_written_on mprotect_may_not_be_written
  pub mremap_place_zero_holds : IsAsRecorded mremap_place_zero_on mremap_place_zero
  pub munmap_at_the_end_holds : IsAsRecorded munmap_at_the_end_on munmap_at_the_end
  pub munmap_limit_cut_at_the_end_holds : IsAsRecorded munmap_limit_cut_at_the_end_on munmap_limit_cut_at_the_end
  pub munmap_limit_refused_keeps_holds : IsAsRecorded munmap_limit_refused_keeps_on munmap_limit_refused_keeps
  pub placement_hint_one_below_min_holds : IsAsRecorded placement_hint_one_below_min_on placement_hint_one_below_min
  pub hard_3_holds : IsAsRecorded hard_3_on hard_3
  pub written_12_holds : IsAsRecorded written_12_on written_12
  pub written_limit_15_holds : IsAsRecorded written_limit_15_on written_limit_15
  pub written_28_holds : IsAsRecorded written_28_on written_28
  pub written_30_holds : IsAsRecorded written_30_on written_30
  pub written_limit_31_holds : IsAsRecorded written_limit_31_on written_limit_31
  pub written_36_holds : IsAsRecorded written_36_on written_36
  pub hard_43_holds : IsAsRecorded hard_43_on hard_43
  pub hard_limit_45_holds : IsAsRecorded hard_limit_45_on hard_limit_45
  pub hard_limit_69_holds : IsAsRecorded hard_limit_69_on hard_limit_69
  pub hard_limit_141_holds : IsAsRecorded hard_limit_141_on hard_limit_141
  pub written_161_holds : IsAsRecorded written_161_on written_161
  pub written_166_holds : IsAsRecorded written_166_on written_166
  pub written_174_holds : IsAsRecorded written_174_on written_174
  pub written_188_holds : IsAsRecorded written_188_on written_188
  pub written_198_holds : IsAsRecorded written_198_on written_198
  pub hard_208_holds : IsAsRecorded hard_208_on hard_208
  pub written_220_holds : IsAsRecorded written_220_on written_220
  pub hard_272_holds : IsAsRecorded hard_272_on hard_272
  pub hard_331_holds : IsAsRecorded hard_331_on hard_331
  pub placement_first_search_one_more_holds : IsAsRecorded placement_first_search_one_more_on placement_first_search_one_more
