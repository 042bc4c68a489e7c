-- What Linux 6.12.117 answered to 40 traces. Made by dev/make-linux-rules from suite/.
use Rattle.std.specs.Prelude.{List, ◌∷◌, [], true, false, pos, negsuc, Some, None, Ok, Err}
use Rattle.mm_types.specs.declared.area.Access.TheVariants.{Read, Write, Exec}
use Rattle.linux_rules.specs.declared.kernel.Kernel.{Kernel}
use Rattle.linux_rules.specs.declared.kernel.Vsyscall.TheVariants.{Xonly}
use Rattle.linux_rules.specs.declared.verdict.LinuxVerdict.TheVariants.{MapErr, AccErr, PkuErr, BusErr}
use Rattle.linux_rules.specs.Versions.{linux_6_12}
use Rattle.linux_rules.specs.Steps.{Map, Unmap, Protect, Remap, Break, Seal, Touch, Fork, Returned, Serves, Signal, Step, none, r, w, x, rw, rx, rwx, plain, heap, filed, kernel_step, file_row, config}
use Rattle.linux_rules.specs.Recorded.{IsAsRecorded}

-- brk_beside_plain_memory: the kernel
abbrev pub brk_beside_plain_memory_on : Kernel
brk_beside_plain_memory_on = record { rules = linux_6_12; machine = record { lowest_built = 16; memory = 245000; stack = 8388608; has_keys = true; huge_always = true; files_are_huge = false; vsyscall = Xonly }; config = config 4096 140737354133504 65530 1048576 ([]) }

-- brk_beside_plain_memory: its answers
abbrev pub brk_beside_plain_memory : List Step
brk_beside_plain_memory =
    kernel_step 0 (Map 1044480 4096 rw 50 (negsuc 0) 0) (Ok (Returned 1044480)) None
    ∷ kernel_step 0 (Break 1052672) (Ok (Returned 1052672)) (Some (plain 255 256 rw ∷ heap 256 257 rw ∷ []))
    ∷ []

-- files_later_write_of_a_shared_readable: the kernel
abbrev pub files_later_write_of_a_shared_readable_on : Kernel
files_later_write_of_a_shared_readable_on = record { rules = linux_6_12; machine = record { lowest_built = 16; memory = 245000; stack = 8388608; has_keys = true; huge_always = true; files_are_huge = false; vsyscall = Xonly }; config = config 4096 140737354133504 65530 0 (file_row 3 true false 8192 ∷ []) }

-- files_later_write_of_a_shared_readable: its answers
abbrev pub files_later_write_of_a_shared_readable : List Step
files_later_write_of_a_shared_readable =
    kernel_step 0 (Map 0 8192 r 1 (pos 3) 0) (Ok (Returned 140737354125312)) None
    ∷ kernel_step 0 (Protect 140737354125312 4096 rw) (Err 13) (Some (filed 34359705597 34359705599 r true 0 1 ∷ []))
    ∷ []

-- files_shared_anonymous_split: the kernel
abbrev pub files_shared_anonymous_split_on : Kernel
files_shared_anonymous_split_on = record { rules = linux_6_12; machine = record { lowest_built = 16; memory = 245000; stack = 8388608; has_keys = true; huge_always = true; files_are_huge = false; vsyscall = Xonly }; config = config 4096 140737354133504 65530 0 ([]) }

-- files_shared_anonymous_split: its answers
abbrev pub files_shared_anonymous_split : List Step
files_shared_anonymous_split =
    kernel_step 0 (Map 131072 12288 rw 49 (negsuc 0) 0) (Ok (Returned 131072)) None
    ∷ kernel_step 0 (Unmap 135168 4096) (Ok (Returned 0)) (Some (filed 32 33 rw true 0 1 ∷ filed 34 35 rw true 8192 1 ∷ []))
    ∷ []

-- fork_eight: the kernel
abbrev pub fork_eight_on : Kernel
fork_eight_on = record { rules = linux_6_12; machine = record { lowest_built = 16; memory = 245000; stack = 8388608; has_keys = true; huge_always = true; files_are_huge = false; vsyscall = Xonly }; config = config 4096 140737354133504 65530 0 ([]) }

-- fork_eight: its answers
abbrev pub fork_eight : List Step
fork_eight =
    kernel_step 0 (Fork 1) (Ok (Returned 0)) None
    ∷ kernel_step 0 (Fork 2) (Ok (Returned 0)) None
    ∷ kernel_step 0 (Fork 3) (Ok (Returned 0)) None
    ∷ kernel_step 0 (Fork 4) (Ok (Returned 0)) None
    ∷ kernel_step 0 (Fork 5) (Ok (Returned 0)) None
    ∷ kernel_step 0 (Fork 6) (Ok (Returned 0)) None
    ∷ kernel_step 0 (Fork 7) (Ok (Returned 0)) None
    ∷ kernel_step 0 (Fork 8) (Ok (Returned 0)) (Some ([]))
    ∷ kernel_step 8 (Touch 32 Read) (Ok (Signal MapErr)) (Some ([]))
    ∷ []

-- fork_order_of_children: the kernel
abbrev pub fork_order_of_children_on : Kernel
fork_order_of_children_on = record { rules = linux_6_12; machine = record { lowest_built = 16; memory = 245000; stack = 8388608; has_keys = true; huge_always = true; files_are_huge = false; vsyscall = Xonly }; config = config 4096 140737354133504 65530 0 ([]) }

-- fork_order_of_children: its answers
abbrev pub fork_order_of_children : List Step
fork_order_of_children =
    kernel_step 0 (Fork 9) (Ok (Returned 0)) None
    ∷ kernel_step 0 (Fork 8) (Ok (Returned 0)) (Some ([]))
    ∷ kernel_step 8 (Map 131072 4096 r 50 (negsuc 0) 0) (Ok (Returned 131072)) (Some (plain 32 33 r ∷ []))
    ∷ kernel_step 9 (Map 196608 4096 r 50 (negsuc 0) 0) (Ok (Returned 196608)) (Some (plain 48 49 r ∷ []))
    ∷ []

-- fork_two_children: the kernel
abbrev pub fork_two_children_on : Kernel
fork_two_children_on = record { rules = linux_6_12; machine = record { lowest_built = 16; memory = 245000; stack = 8388608; has_keys = true; huge_always = true; files_are_huge = false; vsyscall = Xonly }; config = config 4096 140737354133504 65530 0 ([]) }

-- fork_two_children: its answers
abbrev pub fork_two_children : List Step
fork_two_children =
    kernel_step 0 (Map 131072 4096 rw 50 (negsuc 0) 0) (Ok (Returned 131072)) None
    ∷ kernel_step 0 (Fork 7) (Ok (Returned 0)) None
    ∷ kernel_step 0 (Fork 8) (Ok (Returned 0)) (Some (plain 32 33 rw ∷ []))
    ∷ kernel_step 7 (Protect 131072 4096 r) (Ok (Returned 0)) None
    ∷ kernel_step 8 (Touch 32 Write) (Ok (Serves 32 33 rw false 0)) (Some (plain 32 33 rw ∷ []))
    ∷ kernel_step 7 (Touch 32 Write) (Ok (Signal AccErr)) (Some (plain 32 33 r ∷ []))
    ∷ []

-- fork_versions: the kernel
abbrev pub fork_versions_on : Kernel
fork_versions_on = record { rules = linux_6_12; machine = record { lowest_built = 16; memory = 245000; stack = 8388608; has_keys = true; huge_always = true; files_are_huge = false; vsyscall = Xonly }; config = config 4096 140737354133504 65530 0 ([]) }

-- fork_versions: its answers
abbrev pub fork_versions : List Step
fork_versions =
    kernel_step 0 (Map 131072 4096 r 50 (negsuc 0) 0) (Ok (Returned 131072)) None
    ∷ kernel_step 0 (Map 196608 4096 r 50 (negsuc 0) 0) (Ok (Returned 196608)) None
    ∷ kernel_step 0 (Fork 7) (Ok (Returned 0)) (Some (plain 32 33 r ∷ plain 48 49 r ∷ []))
    ∷ kernel_step 7 (Touch 32 Read) (Ok (Serves 32 33 r false 0)) None
    ∷ kernel_step 7 (Unmap 131072 4096) (Ok (Returned 0)) (Some (plain 48 49 r ∷ []))
    ∷ []

-- merging_across_a_split: the kernel
abbrev pub merging_across_a_split_on : Kernel
merging_across_a_split_on = record { rules = linux_6_12; machine = record { lowest_built = 16; memory = 245000; stack = 8388608; has_keys = true; huge_always = true; files_are_huge = false; vsyscall = Xonly }; config = config 4096 140737354133504 65530 0 ([]) }

-- merging_across_a_split: its answers
abbrev pub merging_across_a_split : List Step
merging_across_a_split =
    kernel_step 0 (Map 131072 16384 rw 50 (negsuc 0) 0) (Ok (Returned 131072)) None
    ∷ kernel_step 0 (Protect 135168 8192 r) (Ok (Returned 0)) None
    ∷ kernel_step 0 (Protect 135168 4096 rw) (Ok (Returned 0)) None
    ∷ kernel_step 0 (Protect 139264 4096 rw) (Ok (Returned 0)) (Some (plain 32 36 rw ∷ []))
    ∷ []

-- mmap_descriptor_greatest: the kernel
abbrev pub mmap_descriptor_greatest_on : Kernel
mmap_descriptor_greatest_on = record { rules = linux_6_12; machine = record { lowest_built = 16; memory = 245000; stack = 8388608; has_keys = true; huge_always = true; files_are_huge = false; vsyscall = Xonly }; config = config 4096 140737354133504 65530 0 ([]) }

-- mmap_descriptor_greatest: its answers
abbrev pub mmap_descriptor_greatest : List Step
mmap_descriptor_greatest =
    kernel_step 0 (Map 0 4096 r 1 (pos 2147483647) 0) (Err 9) (Some ([]))
    ∷ []

-- mseal_limit_comes_first: the kernel
abbrev pub mseal_limit_comes_first_on : Kernel
mseal_limit_comes_first_on = record { rules = linux_6_12; machine = record { lowest_built = 16; memory = 245000; stack = 8388608; has_keys = true; huge_always = true; files_are_huge = false; vsyscall = Xonly }; config = config 4096 140737354133504 1 0 ([]) }

-- mseal_limit_comes_first: its answers
abbrev pub mseal_limit_comes_first : List Step
mseal_limit_comes_first =
    kernel_step 0 (Map 131072 12288 rw 50 (negsuc 0) 0) (Ok (Returned 131072)) None
    ∷ kernel_step 0 (Seal 131072 12288 0) (Ok (Returned 0)) None
    ∷ kernel_step 0 (Unmap 135168 4096) (Err 12) (Some (plain 32 35 rw ∷ []))
    ∷ []

-- mseal_mprotect_odd_address: the kernel
abbrev pub mseal_mprotect_odd_address_on : Kernel
mseal_mprotect_odd_address_on = record { rules = linux_6_12; machine = record { lowest_built = 16; memory = 245000; stack = 8388608; has_keys = true; huge_always = true; files_are_huge = false; vsyscall = Xonly }; config = config 4096 140737354133504 65530 0 ([]) }

-- mseal_mprotect_odd_address: its answers
abbrev pub mseal_mprotect_odd_address : List Step
mseal_mprotect_odd_address =
    kernel_step 0 (Map 131072 8192 rw 50 (negsuc 0) 0) (Ok (Returned 131072)) None
    ∷ kernel_step 0 (Seal 131072 8192 0) (Ok (Returned 0)) None
    ∷ kernel_step 0 (Protect 131073 4096 r) (Err 22) (Some (plain 32 34 rw ∷ []))
    ∷ []

-- mseal_munmap_refused_otherwise: the kernel
abbrev pub mseal_munmap_refused_otherwise_on : Kernel
mseal_munmap_refused_otherwise_on = record { rules = linux_6_12; machine = record { lowest_built = 16; memory = 245000; stack = 8388608; has_keys = true; huge_always = true; files_are_huge = false; vsyscall = Xonly }; config = config 4096 140737354133504 65530 0 ([]) }

-- mseal_munmap_refused_otherwise: its answers
abbrev pub mseal_munmap_refused_otherwise : List Step
mseal_munmap_refused_otherwise =
    kernel_step 0 (Map 131072 4096 rw 50 (negsuc 0) 0) (Ok (Returned 131072)) None
    ∷ kernel_step 0 (Seal 131072 4096 0) (Ok (Returned 0)) None
    ∷ kernel_step 0 (Unmap 131072 0) (Err 22) None
    ∷ kernel_step 0 (Unmap 131073 4096) (Err 22) (Some (plain 32 33 rw ∷ []))
    ∷ []

-- mseal_part_then_all: the kernel
abbrev pub mseal_part_then_all_on : Kernel
mseal_part_then_all_on = record { rules = linux_6_12; machine = record { lowest_built = 16; memory = 245000; stack = 8388608; has_keys = true; huge_always = true; files_are_huge = false; vsyscall = Xonly }; config = config 4096 140737354133504 65530 0 ([]) }

-- mseal_part_then_all: its answers
abbrev pub mseal_part_then_all : List Step
mseal_part_then_all =
    kernel_step 0 (Map 131072 12288 rw 50 (negsuc 0) 0) (Ok (Returned 131072)) None
    ∷ kernel_step 0 (Seal 135168 4096 0) (Ok (Returned 0)) None
    ∷ kernel_step 0 (Seal 131072 12288 0) (Ok (Returned 0)) (Some (plain 32 35 rw ∷ []))
    ∷ []

-- munmap_limit_cut_at_the_end: the kernel
abbrev pub munmap_limit_cut_at_the_end_on : Kernel
munmap_limit_cut_at_the_end_on = record { rules = linux_6_12; machine = record { lowest_built = 16; memory = 245000; stack = 8388608; has_keys = true; huge_always = true; files_are_huge = false; vsyscall = Xonly }; config = config 4096 140737354133504 1 0 ([]) }

-- munmap_limit_cut_at_the_end: its answers
abbrev pub munmap_limit_cut_at_the_end : List Step
munmap_limit_cut_at_the_end =
    kernel_step 0 (Map 131072 12288 r 50 (negsuc 0) 0) (Ok (Returned 131072)) None
    ∷ kernel_step 0 (Unmap 139264 4096) (Ok (Returned 0)) (Some (plain 32 34 r ∷ []))
    ∷ []

-- hard_limit_37: the kernel
abbrev pub hard_limit_37_on : Kernel
hard_limit_37_on = record { rules = linux_6_12; machine = record { lowest_built = 16; memory = 245000; stack = 8388608; has_keys = true; huge_always = true; files_are_huge = false; vsyscall = Xonly }; config = config 4096 140737354133504 8 0 (file_row 3 true false 90000 ∷ file_row 4 true true 90000 ∷ file_row 5 false true 0 ∷ []) }

-- hard_limit_37: its answers
abbrev pub hard_limit_37 : List Step
hard_limit_37 =
    kernel_step 0 (Map 1105920 12288 rw 50 (negsuc 0) 0) (Ok (Returned 1105920)) (Some (plain 270 273 rw ∷ []))
    ∷ kernel_step 0 (Map 0 4096 rw 33 (negsuc 0) 0) (Ok (Returned 140737354129408)) (Some (plain 270 273 rw ∷ filed 34359705598 34359705599 rw true 0 4 ∷ []))
    ∷ kernel_step 0 (Touch 271 Exec) (Ok (Signal AccErr)) None
    ∷ kernel_step 0 (Map 1089536 12288 rw 50 (negsuc 0) 0) (Ok (Returned 1089536)) (Some (plain 266 269 rw ∷ plain 270 273 rw ∷ filed 34359705598 34359705599 rw true 0 4 ∷ []))
    ∷ kernel_step 0 (Remap 1089536 12288 16384 1 0) (Ok (Returned 1089536)) (Some (plain 266 273 rw ∷ filed 34359705598 34359705599 rw true 0 4 ∷ []))
    ∷ kernel_step 0 (Map 1077248 12288 r 50 (negsuc 0) 0) (Ok (Returned 1077248)) (Some (plain 263 266 r ∷ plain 266 273 rw ∷ filed 34359705598 34359705599 rw true 0 4 ∷ []))
    ∷ kernel_step 0 (Remap 1089536 28672 28672 3 1110016) (Err 22) (Some (plain 263 266 r ∷ plain 266 273 rw ∷ filed 34359705598 34359705599 rw true 0 4 ∷ []))
    ∷ kernel_step 0 (Seal 1089536 20480 0) (Ok (Returned 0)) (Some (plain 263 266 r ∷ plain 266 271 rw ∷ plain 271 273 rw ∷ filed 34359705598 34359705599 rw true 0 4 ∷ []))
    ∷ kernel_step 0 (Remap 1114112 0 4096 1 0) (Err 22) (Some (plain 263 266 r ∷ plain 266 271 rw ∷ plain 271 273 rw ∷ filed 34359705598 34359705599 rw true 0 4 ∷ []))
    ∷ kernel_step 0 (Protect 1077248 40960 rw) (Err 1) (Some (plain 263 266 rw ∷ plain 266 271 rw ∷ plain 271 273 rw ∷ filed 34359705598 34359705599 rw true 0 4 ∷ []))
    ∷ kernel_step 0 (Protect 1077248 12288 rw) (Ok (Returned 0)) (Some (plain 263 266 rw ∷ plain 266 271 rw ∷ plain 271 273 rw ∷ filed 34359705598 34359705599 rw true 0 4 ∷ []))
    ∷ kernel_step 0 (Protect 1089536 20480 r) (Err 1) (Some (plain 263 266 rw ∷ plain 266 271 rw ∷ plain 271 273 rw ∷ filed 34359705598 34359705599 rw true 0 4 ∷ []))
    ∷ kernel_step 0 (Touch 270 Read) (Ok (Serves 266 271 rw false 0)) None
    ∷ kernel_step 0 (Remap 1077248 0 12288 1 0) (Err 22) (Some (plain 263 266 rw ∷ plain 266 271 rw ∷ plain 271 273 rw ∷ filed 34359705598 34359705599 rw true 0 4 ∷ []))
    ∷ kernel_step 0 (Touch 272 Exec) (Ok (Signal AccErr)) None
    ∷ kernel_step 0 (Map 1097728 8192 r 16434 (negsuc 0) 0) (Err 1) (Some (plain 263 266 rw ∷ plain 266 271 rw ∷ plain 271 273 rw ∷ filed 34359705598 34359705599 rw true 0 4 ∷ []))
    ∷ kernel_step 0 (Map 0 4096 rw 34 (negsuc 0) 0) (Ok (Returned 140737354125312)) (Some (plain 263 266 rw ∷ plain 266 271 rw ∷ plain 271 273 rw ∷ plain 34359705597 34359705598 rw ∷ filed 34359705598 34359705599 rw true 0 4 ∷ []))
    ∷ kernel_step 0 (Map 0 8192 r 32801 (negsuc 0) 0) (Ok (Returned 140737354117120)) (Some (plain 263 266 rw ∷ plain 266 271 rw ∷ plain 271 273 rw ∷ filed 34359705595 34359705597 r true 0 5 ∷ plain 34359705597 34359705598 rw ∷ filed 34359705598 34359705599 rw true 0 4 ∷ []))
    ∷ kernel_step 0 (Map 0 16384 r 34 (negsuc 0) 0) (Ok (Returned 140737354100736)) (Some (plain 263 266 rw ∷ plain 266 271 rw ∷ plain 271 273 rw ∷ plain 34359705591 34359705595 r ∷ filed 34359705595 34359705597 r true 0 5 ∷ plain 34359705597 34359705598 rw ∷ filed 34359705598 34359705599 rw true 0 4 ∷ []))
    ∷ kernel_step 0 (Protect 1089536 4096 rw) (Err 1) (Some (plain 263 266 rw ∷ plain 266 271 rw ∷ plain 271 273 rw ∷ plain 34359705591 34359705595 r ∷ filed 34359705595 34359705597 r true 0 5 ∷ plain 34359705597 34359705598 rw ∷ filed 34359705598 34359705599 rw true 0 4 ∷ []))
    ∷ kernel_step 0 (Touch 265 Write) (Ok (Serves 263 266 rw false 0)) None
    ∷ kernel_step 0 (Remap 1089536 4096 4096 5 0) (Err 1) (Some (plain 263 266 rw ∷ plain 266 271 rw ∷ plain 271 273 rw ∷ plain 34359705591 34359705595 r ∷ filed 34359705595 34359705597 r true 0 5 ∷ plain 34359705597 34359705598 rw ∷ filed 34359705598 34359705599 rw true 0 4 ∷ []))
    ∷ kernel_step 0 (Map 1085440 12288 rw 18 (pos 3) 12288) (Err 1) (Some (plain 263 265 rw ∷ plain 265 266 rw ∷ plain 266 271 rw ∷ plain 271 273 rw ∷ plain 34359705591 34359705595 r ∷ filed 34359705595 34359705597 r true 0 5 ∷ plain 34359705597 34359705598 rw ∷ filed 34359705598 34359705599 rw true 0 4 ∷ []))
    ∷ kernel_step 0 (Protect 1089536 4096 r) (Err 1) (Some (plain 263 265 rw ∷ plain 265 266 rw ∷ plain 266 271 rw ∷ plain 271 273 rw ∷ plain 34359705591 34359705595 r ∷ filed 34359705595 34359705597 r true 0 5 ∷ plain 34359705597 34359705598 rw ∷ filed 34359705598 34359705599 rw true 0 4 ∷ []))
    ∷ kernel_step 0 (Map 1105920 16384 rw 32787 (pos 3) 4096) (Err 13) (Some (plain 263 265 rw ∷ plain 265 266 rw ∷ plain 266 271 rw ∷ plain 271 273 rw ∷ plain 34359705591 34359705595 r ∷ filed 34359705595 34359705597 r true 0 5 ∷ plain 34359705597 34359705598 rw ∷ filed 34359705598 34359705599 rw true 0 4 ∷ []))
    ∷ kernel_step 0 (Unmap 1089536 20480) (Err 1) (Some (plain 263 265 rw ∷ plain 265 266 rw ∷ plain 266 271 rw ∷ plain 271 273 rw ∷ plain 34359705591 34359705595 r ∷ filed 34359705595 34359705597 r true 0 5 ∷ plain 34359705597 34359705598 rw ∷ filed 34359705598 34359705599 rw true 0 4 ∷ []))
    ∷ kernel_step 0 (Protect 1114112 4096 r) (Err 12) (Some (plain 263 265 rw ∷ plain 265 266 rw ∷ plain 266 271 rw ∷ plain 271 273 rw ∷ plain 34359705591 34359705595 r ∷ filed 34359705595 34359705597 r true 0 5 ∷ plain 34359705597 34359705598 rw ∷ filed 34359705598 34359705599 rw true 0 4 ∷ []))
    ∷ kernel_step 0 (Touch 265 Write) (Ok (Serves 265 266 rw false 0)) None
    ∷ kernel_step 0 (Seal 1089536 4096 0) (Ok (Returned 0)) (Some (plain 263 265 rw ∷ plain 265 266 rw ∷ plain 266 271 rw ∷ plain 271 273 rw ∷ plain 34359705591 34359705595 r ∷ filed 34359705595 34359705597 r true 0 5 ∷ plain 34359705597 34359705598 rw ∷ filed 34359705598 34359705599 rw true 0 4 ∷ []))
    ∷ kernel_step 0 (Remap 1085440 4096 12288 1 0) (Err 12) (Some (plain 263 265 rw ∷ plain 265 266 rw ∷ plain 266 271 rw ∷ plain 271 273 rw ∷ plain 34359705591 34359705595 r ∷ filed 34359705595 34359705597 r true 0 5 ∷ plain 34359705597 34359705598 rw ∷ filed 34359705598 34359705599 rw true 0 4 ∷ []))
    ∷ []

-- hard_limit_69: the kernel
abbrev pub hard_limit_69_on : Kernel
hard_limit_69_on = record { rules = linux_6_12; machine = record { lowest_built = 16; memory = 245000; stack = 8388608; has_keys = true; huge_always = true; files_are_huge = false; vsyscall = Xonly }; config = config 4096 140737354133504 4 1069056 ([]) }

-- hard_limit_69: its answers
abbrev pub hard_limit_69 : List Step
hard_limit_69 =
    kernel_step 0 (Map 1064960 16384 rw 50 (negsuc 0) 0) (Ok (Returned 1064960)) (Some (heap 260 264 rw ∷ []))
    ∷ kernel_step 0 (Map 1077248 12288 rw 34 (negsuc 0) 0) (Ok (Returned 140737354121216)) (Some (heap 260 264 rw ∷ plain 34359705596 34359705599 rw ∷ []))
    ∷ kernel_step 0 (Touch 262 Write) (Ok (Serves 260 264 rw false 0)) None
    ∷ kernel_step 0 (Break 1073152) (Ok (Returned 1069056)) (Some (heap 260 264 rw ∷ plain 34359705596 34359705599 rw ∷ []))
    ∷ kernel_step 0 (Protect 1064960 16384 rw) (Ok (Returned 0)) (Some (heap 260 264 rw ∷ plain 34359705596 34359705599 rw ∷ []))
    ∷ kernel_step 0 (Break 1081344) (Ok (Returned 1069056)) (Some (heap 260 264 rw ∷ plain 34359705596 34359705599 rw ∷ []))
    ∷ kernel_step 0 (Remap 1064960 12288 4096 1 0) (Ok (Returned 1064960)) (Some (plain 260 261 rw ∷ plain 263 264 rw ∷ plain 34359705596 34359705599 rw ∷ []))
    ∷ kernel_step 0 (Protect 1077248 4096 rw) (Ok (Returned 0)) (Some (plain 260 261 rw ∷ plain 263 264 rw ∷ plain 34359705596 34359705599 rw ∷ []))
    ∷ kernel_step 0 (Unmap 1077248 4096) (Ok (Returned 0)) (Some (plain 260 261 rw ∷ plain 34359705596 34359705599 rw ∷ []))
    ∷ kernel_step 0 (Map 140737354133504 8192 r 305 (negsuc 0) 0) (Err 22) (Some (plain 260 261 rw ∷ plain 34359705596 34359705599 rw ∷ []))
    ∷ kernel_step 0 (Protect 1064960 4096 r) (Ok (Returned 0)) (Some (plain 260 261 r ∷ plain 34359705596 34359705599 rw ∷ []))
    ∷ kernel_step 0 (Break 1085432) (Ok (Returned 1085432)) (Some (plain 260 261 r ∷ heap 261 265 rw ∷ plain 34359705596 34359705599 rw ∷ []))
    ∷ kernel_step 0 (Map 1069056 4096 rw 50 (negsuc 0) 0) (Ok (Returned 1069056)) (Some (plain 260 261 r ∷ heap 261 265 rw ∷ plain 34359705596 34359705599 rw ∷ []))
    ∷ kernel_step 0 (Touch 260 Write) (Ok (Signal AccErr)) None
    ∷ kernel_step 0 (Break 1097728) (Ok (Returned 1097728)) (Some (plain 260 261 r ∷ heap 261 268 rw ∷ plain 34359705596 34359705599 rw ∷ []))
    ∷ kernel_step 0 (Unmap 1064960 32768) (Ok (Returned 0)) (Some (plain 34359705596 34359705599 rw ∷ []))
    ∷ kernel_step 0 (Protect 140737354129408 16384 rw) (Err 12) (Some (plain 34359705596 34359705599 rw ∷ []))
    ∷ kernel_step 0 (Break 1085432) (Ok (Returned 1097728)) (Some (plain 34359705596 34359705599 rw ∷ []))
    ∷ kernel_step 0 (Protect 140737354121216 12288 r) (Ok (Returned 0)) (Some (plain 34359705596 34359705599 r ∷ []))
    ∷ kernel_step 0 (Touch 34359705598 Exec) (Ok (Signal AccErr)) None
    ∷ kernel_step 0 (Protect 140737354121216 12288 rw) (Ok (Returned 0)) (Some (plain 34359705596 34359705599 rw ∷ []))
    ∷ kernel_step 0 (Touch 275 Write) (Ok (Signal MapErr)) None
    ∷ kernel_step 0 (Touch 34359705596 Write) (Ok (Serves 34359705596 34359705599 rw false 0)) None
    ∷ kernel_step 0 (Map 1105920 12288 rw 50 (negsuc 0) 0) (Ok (Returned 1105920)) (Some (plain 270 273 rw ∷ plain 34359705596 34359705599 rw ∷ []))
    ∷ kernel_step 0 (Break 1097736) (Ok (Returned 1097736)) (Some (heap 268 269 rw ∷ plain 270 273 rw ∷ plain 34359705596 34359705599 rw ∷ []))
    ∷ kernel_step 0 (Touch 272 Read) (Ok (Serves 270 273 rw false 0)) None
    ∷ kernel_step 0 (Break 1105928) (Ok (Returned 1097736)) (Some (heap 268 269 rw ∷ plain 270 273 rw ∷ plain 34359705596 34359705599 rw ∷ []))
    ∷ kernel_step 0 (Protect 1097728 4096 r) (Ok (Returned 0)) (Some (heap 268 269 r ∷ plain 270 273 rw ∷ plain 34359705596 34359705599 rw ∷ []))
    ∷ kernel_step 0 (Break 1101840) (Ok (Returned 1097736)) (Some (heap 268 269 r ∷ plain 270 273 rw ∷ plain 34359705596 34359705599 rw ∷ []))
    ∷ kernel_step 0 (Touch 271 Read) (Ok (Serves 270 273 rw false 0)) (Some (heap 268 269 r ∷ plain 270 273 rw ∷ plain 34359705596 34359705599 rw ∷ []))
    ∷ []

-- hard_96: the kernel
abbrev pub hard_96_on : Kernel
hard_96_on = record { rules = linux_6_12; machine = record { lowest_built = 16; memory = 245000; stack = 8388608; has_keys = true; huge_always = true; files_are_huge = false; vsyscall = Xonly }; config = config 4096 140737354133504 65530 0 (file_row 3 false true 5000 ∷ file_row 4 true true 90000 ∷ []) }

-- hard_96: its answers
abbrev pub hard_96 : List Step
hard_96 =
    kernel_step 0 (Map 1073152 68719476736 rw 3 (pos 4) 0) (Ok (Returned 1073152)) (Some (filed 262 16777478 rw true 0 2 ∷ []))
    ∷ kernel_step 0 (Map 0 8192 r 32802 (negsuc 0) 0) (Ok (Returned 140737354125312)) (Some (filed 262 16777478 rw true 0 2 ∷ plain 34359705597 34359705599 r ∷ []))
    ∷ kernel_step 0 (Map 1077248 8589934592 rw 1 (pos 3) 4096) (Err 13) (Some (filed 262 16777478 rw true 0 2 ∷ plain 34359705597 34359705599 r ∷ []))
    ∷ kernel_step 0 (Touch 262 Write) (Ok (Serves 262 16777478 rw true 0)) None
    ∷ kernel_step 0 (Protect 1073152 45056 rw) (Ok (Returned 0)) (Some (filed 262 16777478 rw true 0 2 ∷ plain 34359705597 34359705599 r ∷ []))
    ∷ kernel_step 0 (Map 1064960 12288 rw 19 (pos 3) 12288) (Err 13) (Some (filed 262 16777478 rw true 0 2 ∷ plain 34359705597 34359705599 r ∷ []))
    ∷ kernel_step 0 (Remap 1073152 4194304 4194304 3 4096) (Err 22) (Some (filed 262 16777478 rw true 0 2 ∷ plain 34359705597 34359705599 r ∷ []))
    ∷ kernel_step 0 (Remap 1073152 12288 20480 3 1052672) (Ok (Returned 1052672)) (Some (filed 257 262 rw true 0 2 ∷ filed 265 16777478 rw true 12288 2 ∷ plain 34359705597 34359705599 r ∷ []))
    ∷ kernel_step 0 (Map 1056768 12288 rw 50 (negsuc 0) 0) (Ok (Returned 1056768)) (Some (filed 257 258 rw true 0 2 ∷ plain 258 261 rw ∷ filed 261 262 rw true 16384 2 ∷ filed 265 16777478 rw true 12288 2 ∷ plain 34359705597 34359705599 r ∷ []))
    ∷ kernel_step 0 (Touch 257 Write) (Ok (Serves 257 258 rw true 0)) None
    ∷ kernel_step 0 (Remap 1122304 8192 12288 1 0) (Ok (Returned 140737354113024)) (Some (filed 257 258 rw true 0 2 ∷ plain 258 261 rw ∷ filed 261 262 rw true 16384 2 ∷ filed 265 274 rw true 12288 2 ∷ filed 276 16777478 rw true 57344 2 ∷ filed 34359705594 34359705597 rw true 49152 2 ∷ plain 34359705597 34359705599 r ∷ []))
    ∷ kernel_step 0 (Protect 1069056 4096 rw) (Ok (Returned 0)) (Some (filed 257 258 rw true 0 2 ∷ plain 258 261 rw ∷ filed 261 262 rw true 16384 2 ∷ filed 265 274 rw true 12288 2 ∷ filed 276 16777478 rw true 57344 2 ∷ filed 34359705594 34359705597 rw true 49152 2 ∷ plain 34359705597 34359705599 r ∷ []))
    ∷ kernel_step 0 (Touch 260 Read) (Ok (Serves 258 261 rw false 0)) None
    ∷ kernel_step 0 (Map 140737354133504 8192 r 18 (pos 4) 8192) (Ok (Returned 140737354133504)) (Some (filed 257 258 rw true 0 2 ∷ plain 258 261 rw ∷ filed 261 262 rw true 16384 2 ∷ filed 265 274 rw true 12288 2 ∷ filed 276 16777478 rw true 57344 2 ∷ filed 34359705594 34359705597 rw true 49152 2 ∷ plain 34359705597 34359705599 r ∷ filed 34359705599 34359705601 r false 8192 2 ∷ []))
    ∷ kernel_step 0 (Remap 1052672 4096 4096 3 1122304) (Ok (Returned 1122304)) (Some (plain 258 261 rw ∷ filed 261 262 rw true 16384 2 ∷ filed 265 274 rw true 12288 2 ∷ filed 274 275 rw true 0 2 ∷ filed 276 16777478 rw true 57344 2 ∷ filed 34359705594 34359705597 rw true 49152 2 ∷ plain 34359705597 34359705599 r ∷ filed 34359705599 34359705601 r false 8192 2 ∷ []))
    ∷ kernel_step 0 (Protect 1085440 36864 r) (Ok (Returned 0)) (Some (plain 258 261 rw ∷ filed 261 262 rw true 16384 2 ∷ filed 265 274 r true 12288 2 ∷ filed 274 275 rw true 0 2 ∷ filed 276 16777478 rw true 57344 2 ∷ filed 34359705594 34359705597 rw true 49152 2 ∷ plain 34359705597 34359705599 r ∷ filed 34359705599 34359705601 r false 8192 2 ∷ []))
    ∷ kernel_step 0 (Protect 1060864 8192 rw) (Ok (Returned 0)) (Some (plain 258 261 rw ∷ filed 261 262 rw true 16384 2 ∷ filed 265 274 r true 12288 2 ∷ filed 274 275 rw true 0 2 ∷ filed 276 16777478 rw true 57344 2 ∷ filed 34359705594 34359705597 rw true 49152 2 ∷ plain 34359705597 34359705599 r ∷ filed 34359705599 34359705601 r false 8192 2 ∷ []))
    ∷ kernel_step 0 (Touch 270 Write) (Ok (Signal AccErr)) None
    ∷ kernel_step 0 (Map 0 12288 rw 34 (negsuc 0) 0) (Ok (Returned 140737354100736)) (Some (plain 258 261 rw ∷ filed 261 262 rw true 16384 2 ∷ filed 265 274 r true 12288 2 ∷ filed 274 275 rw true 0 2 ∷ filed 276 16777478 rw true 57344 2 ∷ plain 34359705591 34359705594 rw ∷ filed 34359705594 34359705597 rw true 49152 2 ∷ plain 34359705597 34359705599 r ∷ filed 34359705599 34359705601 r false 8192 2 ∷ []))
    ∷ kernel_step 0 (Fork 1) (Ok (Returned 0)) None
    ∷ kernel_step 0 (Touch 503 Read) (Ok (Signal BusErr)) None
    ∷ kernel_step 0 (Map 0 68719476736 rw 2 (pos 3) 0) (Err 13) (Some (plain 258 261 rw ∷ filed 261 262 rw true 16384 2 ∷ filed 265 274 r true 12288 2 ∷ filed 274 275 rw true 0 2 ∷ filed 276 16777478 rw true 57344 2 ∷ plain 34359705591 34359705594 rw ∷ filed 34359705594 34359705597 rw true 49152 2 ∷ plain 34359705597 34359705599 r ∷ filed 34359705599 34359705601 r false 8192 2 ∷ []))
    ∷ kernel_step 1 (Map 1056768 12288 rw 17 (pos 4) 4096) (Ok (Returned 1056768)) (Some (filed 258 262 rw true 4096 2 ∷ filed 265 274 r true 12288 2 ∷ filed 274 275 rw true 0 2 ∷ filed 276 16777478 rw true 57344 2 ∷ plain 34359705591 34359705594 rw ∷ filed 34359705594 34359705597 rw true 49152 2 ∷ plain 34359705597 34359705599 r ∷ filed 34359705599 34359705601 r false 8192 2 ∷ []))
    ∷ kernel_step 0 (Touch 959 Exec) (Ok (Signal BusErr)) None
    ∷ kernel_step 0 (Map 0 2097152 r 34 (negsuc 0) 0) (Ok (Returned 140737349943296)) (Some (plain 258 261 rw ∷ filed 261 262 rw true 16384 2 ∷ filed 265 274 r true 12288 2 ∷ filed 274 275 rw true 0 2 ∷ filed 276 16777478 rw true 57344 2 ∷ plain 34359704576 34359705088 r ∷ plain 34359705591 34359705594 rw ∷ filed 34359705594 34359705597 rw true 49152 2 ∷ plain 34359705597 34359705599 r ∷ filed 34359705599 34359705601 r false 8192 2 ∷ []))
    ∷ kernel_step 1 (Unmap 1122304 4096) (Ok (Returned 0)) (Some (filed 258 262 rw true 4096 2 ∷ filed 265 274 r true 12288 2 ∷ filed 276 16777478 rw true 57344 2 ∷ plain 34359705591 34359705594 rw ∷ filed 34359705594 34359705597 rw true 49152 2 ∷ plain 34359705597 34359705599 r ∷ filed 34359705599 34359705601 r false 8192 2 ∷ []))
    ∷ kernel_step 0 (Touch 266 Exec) (Ok (Signal AccErr)) (Some (plain 258 261 rw ∷ filed 261 262 rw true 16384 2 ∷ filed 265 274 r true 12288 2 ∷ filed 274 275 rw true 0 2 ∷ filed 276 16777478 rw true 57344 2 ∷ plain 34359704576 34359705088 r ∷ plain 34359705591 34359705594 rw ∷ filed 34359705594 34359705597 rw true 49152 2 ∷ plain 34359705597 34359705599 r ∷ filed 34359705599 34359705601 r false 8192 2 ∷ []))
    ∷ kernel_step 1 (Map 140737354108928 16384 rw 50 (negsuc 0) 0) (Ok (Returned 140737354108928)) (Some (filed 258 262 rw true 4096 2 ∷ filed 265 274 r true 12288 2 ∷ filed 276 16777478 rw true 57344 2 ∷ plain 34359705591 34359705597 rw ∷ plain 34359705597 34359705599 r ∷ filed 34359705599 34359705601 r false 8192 2 ∷ []))
    ∷ kernel_step 1 (Map 1052672 4194304 rw 2 (pos 3) 0) (Err 13) (Some (filed 258 262 rw true 4096 2 ∷ filed 265 274 r true 12288 2 ∷ filed 276 16777478 rw true 57344 2 ∷ plain 34359705591 34359705597 rw ∷ plain 34359705597 34359705599 r ∷ filed 34359705599 34359705601 r false 8192 2 ∷ []))
    ∷ kernel_step 1 (Remap 1056768 28672 36864 3 68720549888) (Err 14) (Some (filed 258 262 rw true 4096 2 ∷ filed 265 274 r true 12288 2 ∷ filed 276 16777478 rw true 57344 2 ∷ plain 34359705591 34359705597 rw ∷ plain 34359705597 34359705599 r ∷ filed 34359705599 34359705601 r false 8192 2 ∷ []))
    ∷ []

-- hard_107: the kernel
abbrev pub hard_107_on : Kernel
hard_107_on = record { rules = linux_6_12; machine = record { lowest_built = 16; memory = 245000; stack = 8388608; has_keys = true; huge_always = true; files_are_huge = false; vsyscall = Xonly }; config = config 4096 140737354133504 65530 0 (file_row 3 true true 90000 ∷ file_row 4 true true 20000 ∷ []) }

-- hard_107: its answers
abbrev pub hard_107 : List Step
hard_107 =
    kernel_step 0 (Map 0 8589934592 none 34 (negsuc 0) 0) (Ok (Returned 140728762105856)) (Some (plain 34357607936 34359705088 none ∷ []))
    ∷ kernel_step 0 (Map 0 68719476736 r 1 (pos 3) 4096) (Ok (Returned 140660042629120)) (Some (filed 34340830720 34357607936 r true 4096 1 ∷ plain 34357607936 34359705088 none ∷ []))
    ∷ kernel_step 0 (Map 1089536 4096 x 50 (negsuc 0) 0) (Ok (Returned 1089536)) (Some (plain 266 267 x ∷ filed 34340830720 34357607936 r true 4096 1 ∷ plain 34357607936 34359705088 none ∷ []))
    ∷ kernel_step 0 (Remap 1089536 4096 4096 7 1060864) (Ok (Returned 1060864)) (Some (plain 259 260 x ∷ plain 266 267 x ∷ filed 34340830720 34357607936 r true 4096 1 ∷ plain 34357607936 34359705088 none ∷ []))
    ∷ kernel_step 0 (Touch 259 Write) (Ok (Signal PkuErr)) None
    ∷ kernel_step 0 (Protect 1089536 4096 none) (Ok (Returned 0)) (Some (plain 259 260 x ∷ plain 266 267 none ∷ filed 34340830720 34357607936 r true 4096 1 ∷ plain 34357607936 34359705088 none ∷ []))
    ∷ kernel_step 0 (Protect 1089536 4096 rx) (Ok (Returned 0)) (Some (plain 259 260 x ∷ plain 266 267 rx ∷ filed 34340830720 34357607936 r true 4096 1 ∷ plain 34357607936 34359705088 none ∷ []))
    ∷ kernel_step 0 (Touch 267 Write) (Ok (Signal MapErr)) None
    ∷ kernel_step 0 (Unmap 1089536 4096) (Ok (Returned 0)) (Some (plain 259 260 x ∷ filed 34340830720 34357607936 r true 4096 1 ∷ plain 34357607936 34359705088 none ∷ []))
    ∷ kernel_step 0 (Map 0 8589934592 r 34 (negsuc 0) 0) (Ok (Returned 140651452694528)) (Some (plain 259 260 x ∷ plain 34338733568 34340830720 r ∷ filed 34340830720 34357607936 r true 4096 1 ∷ plain 34357607936 34359705088 none ∷ []))
    ∷ kernel_step 0 (Touch 259 Exec) (Ok (Serves 259 260 x false 0)) None
    ∷ kernel_step 0 (Protect 1060864 20480 none) (Err 12) (Some (plain 259 260 none ∷ plain 34338733568 34340830720 r ∷ filed 34340830720 34357607936 r true 4096 1 ∷ plain 34357607936 34359705088 none ∷ []))
    ∷ kernel_step 0 (Protect 1060864 4096 rw) (Ok (Returned 0)) (Some (plain 259 260 rw ∷ plain 34338733568 34340830720 r ∷ filed 34340830720 34357607936 r true 4096 1 ∷ plain 34357607936 34359705088 none ∷ []))
    ∷ kernel_step 0 (Remap 1060864 4096 4096 3 1052672) (Ok (Returned 1052672)) (Some (plain 257 258 rw ∷ plain 34338733568 34340830720 r ∷ filed 34340830720 34357607936 r true 4096 1 ∷ plain 34357607936 34359705088 none ∷ []))
    ∷ kernel_step 0 (Touch 257 Exec) (Ok (Signal AccErr)) None
    ∷ kernel_step 0 (Map 1126400 4096 none 50 (negsuc 0) 0) (Ok (Returned 1126400)) (Some (plain 257 258 rw ∷ plain 275 276 none ∷ plain 34338733568 34340830720 r ∷ filed 34340830720 34357607936 r true 4096 1 ∷ plain 34357607936 34359705088 none ∷ []))
    ∷ kernel_step 0 (Touch 275 Write) (Ok (Signal AccErr)) None
    ∷ kernel_step 0 (Protect 1052672 77824 rw) (Err 12) (Some (plain 257 258 rw ∷ plain 275 276 none ∷ plain 34338733568 34340830720 r ∷ filed 34340830720 34357607936 r true 4096 1 ∷ plain 34357607936 34359705088 none ∷ []))
    ∷ kernel_step 0 (Fork 1) (Ok (Returned 0)) None
    ∷ kernel_step 1 (Remap 1060864 8192 8192 3 1044480) (Err 14) (Some (plain 257 258 rw ∷ plain 275 276 none ∷ plain 34338733568 34340830720 r ∷ filed 34340830720 34357607936 r true 4096 1 ∷ plain 34357607936 34359705088 none ∷ []))
    ∷ kernel_step 1 (Remap 1126400 4096 4096 7 1085440) (Ok (Returned 1085440)) (Some (plain 257 258 rw ∷ plain 265 266 none ∷ plain 275 276 none ∷ plain 34338733568 34340830720 r ∷ filed 34340830720 34357607936 r true 4096 1 ∷ plain 34357607936 34359705088 none ∷ []))
    ∷ kernel_step 1 (Remap 1097728 8192 12288 1 0) (Err 14) (Some (plain 257 258 rw ∷ plain 265 266 none ∷ plain 275 276 none ∷ plain 34338733568 34340830720 r ∷ filed 34340830720 34357607936 r true 4096 1 ∷ plain 34357607936 34359705088 none ∷ []))
    ∷ kernel_step 1 (Protect 1126400 4096 rw) (Ok (Returned 0)) (Some (plain 257 258 rw ∷ plain 265 266 none ∷ plain 275 276 rw ∷ plain 34338733568 34340830720 r ∷ filed 34340830720 34357607936 r true 4096 1 ∷ plain 34357607936 34359705088 none ∷ []))
    ∷ kernel_step 1 (Map 0 2097152 rx 34 (negsuc 0) 0) (Ok (Returned 140651450597376)) (Some (plain 257 258 rw ∷ plain 265 266 none ∷ plain 275 276 rw ∷ plain 34338733056 34338733568 rx ∷ plain 34338733568 34340830720 r ∷ filed 34340830720 34357607936 r true 4096 1 ∷ plain 34357607936 34359705088 none ∷ []))
    ∷ kernel_step 0 (Touch 257 Write) (Ok (Serves 257 258 rw false 0)) None
    ∷ kernel_step 0 (Remap 1052672 4096 4096 3 1114112) (Ok (Returned 1114112)) (Some (plain 272 273 rw ∷ plain 275 276 none ∷ plain 34338733568 34340830720 r ∷ filed 34340830720 34357607936 r true 4096 1 ∷ plain 34357607936 34359705088 none ∷ []))
    ∷ kernel_step 1 (Map 1097728 68719476736 rw 1 (pos 4) 0) (Ok (Returned 140582731120640)) (Some (plain 257 258 rw ∷ plain 265 266 none ∷ plain 275 276 rw ∷ filed 34321955840 34338733056 rw true 0 2 ∷ plain 34338733056 34338733568 rx ∷ plain 34338733568 34340830720 r ∷ filed 34340830720 34357607936 r true 4096 1 ∷ plain 34357607936 34359705088 none ∷ []))
    ∷ kernel_step 1 (Remap 1052672 4096 4096 7 1089536) (Ok (Returned 1089536)) (Some (plain 257 258 rw ∷ plain 265 266 none ∷ plain 266 267 rw ∷ plain 275 276 rw ∷ filed 34321955840 34338733056 rw true 0 2 ∷ plain 34338733056 34338733568 rx ∷ plain 34338733568 34340830720 r ∷ filed 34340830720 34357607936 r true 4096 1 ∷ plain 34357607936 34359705088 none ∷ []))
    ∷ kernel_step 0 (Map 1122304 4096 rw 16434 (negsuc 0) 0) (Ok (Returned 1122304)) (Some (plain 272 273 rw ∷ plain 274 275 rw ∷ plain 275 276 none ∷ plain 34338733568 34340830720 r ∷ filed 34340830720 34357607936 r true 4096 1 ∷ plain 34357607936 34359705088 none ∷ []))
    ∷ kernel_step 1 (Touch 265 Write) (Ok (Signal AccErr)) (Some (plain 257 258 rw ∷ plain 265 266 none ∷ plain 266 267 rw ∷ plain 275 276 rw ∷ filed 34321955840 34338733056 rw true 0 2 ∷ plain 34338733056 34338733568 rx ∷ plain 34338733568 34340830720 r ∷ filed 34340830720 34357607936 r true 4096 1 ∷ plain 34357607936 34359705088 none ∷ []))
    ∷ []

-- hard_147: the kernel
abbrev pub hard_147_on : Kernel
hard_147_on = record { rules = linux_6_12; machine = record { lowest_built = 16; memory = 245000; stack = 8388608; has_keys = true; huge_always = true; files_are_huge = false; vsyscall = Xonly }; config = config 4096 140737354133504 65530 1060864 (file_row 3 false true 20000 ∷ file_row 4 true true 90000 ∷ file_row 5 true true 90000 ∷ []) }

-- hard_147: its answers
abbrev pub hard_147 : List Step
hard_147 =
    kernel_step 0 (Map 1118208 8192 r 290 (negsuc 0) 0) (Ok (Returned 1118208)) (Some (plain 273 275 r ∷ []))
    ∷ kernel_step 0 (Map 0 34359738368 rx 34 (negsuc 0) 0) (Ok (Returned 140702992302080)) (Some (plain 273 275 r ∷ plain 34351316480 34359705088 rx ∷ []))
    ∷ kernel_step 0 (Protect 1122304 8192 r) (Err 12) (Some (plain 273 275 r ∷ plain 34351316480 34359705088 rx ∷ []))
    ∷ kernel_step 0 (Break 1056760) (Ok (Returned 1060864)) (Some (plain 273 275 r ∷ plain 34351316480 34359705088 rx ∷ []))
    ∷ kernel_step 0 (Map 1060864 8192 rx 34 (negsuc 0) 0) (Ok (Returned 140737354125312)) (Some (plain 273 275 r ∷ plain 34351316480 34359705088 rx ∷ plain 34359705597 34359705599 rx ∷ []))
    ∷ kernel_step 0 (Touch 273 Write) (Ok (Signal AccErr)) None
    ∷ kernel_step 0 (Protect 1069056 20480 none) (Err 12) (Some (plain 273 275 r ∷ plain 34351316480 34359705088 rx ∷ plain 34359705597 34359705599 rx ∷ []))
    ∷ kernel_step 0 (Remap 1105920 20480 20480 7 1097728) (Err 14) (Some (plain 273 275 r ∷ plain 34351316480 34359705088 rx ∷ plain 34359705597 34359705599 rx ∷ []))
    ∷ kernel_step 0 (Map 0 16384 rx 131106 (negsuc 0) 0) (Ok (Returned 140737354108928)) (Some (plain 273 275 r ∷ plain 34351316480 34359705088 rx ∷ plain 34359705593 34359705597 rx ∷ plain 34359705597 34359705599 rx ∷ []))
    ∷ kernel_step 0 (Map 0 34359738368 rx 34 (negsuc 0) 0) (Ok (Returned 140668632563712)) (Some (plain 273 275 r ∷ plain 34342927872 34359705088 rx ∷ plain 34359705593 34359705597 rx ∷ plain 34359705597 34359705599 rx ∷ []))
    ∷ kernel_step 0 (Touch 273 Read) (Ok (Serves 273 275 r false 0)) None
    ∷ kernel_step 0 (Break 1056776) (Ok (Returned 1060864)) (Some (plain 273 275 r ∷ plain 34342927872 34359705088 rx ∷ plain 34359705593 34359705597 rx ∷ plain 34359705597 34359705599 rx ∷ []))
    ∷ kernel_step 0 (Protect 1118208 8192 rw) (Ok (Returned 0)) (Some (plain 273 275 rw ∷ plain 34342927872 34359705088 rx ∷ plain 34359705593 34359705597 rx ∷ plain 34359705597 34359705599 rx ∷ []))
    ∷ kernel_step 0 (Map 1110016 4096 w 50 (negsuc 0) 0) (Ok (Returned 1110016)) (Some (plain 271 272 w ∷ plain 273 275 rw ∷ plain 34342927872 34359705088 rx ∷ plain 34359705593 34359705597 rx ∷ plain 34359705597 34359705599 rx ∷ []))
    ∷ kernel_step 0 (Protect 1118208 8192 w) (Ok (Returned 0)) (Some (plain 271 272 w ∷ plain 273 275 w ∷ plain 34342927872 34359705088 rx ∷ plain 34359705593 34359705597 rx ∷ plain 34359705597 34359705599 rx ∷ []))
    ∷ kernel_step 0 (Map 1093632 2097152 rw 34 (negsuc 0) 0) (Ok (Returned 140668630466560)) (Some (plain 271 272 w ∷ plain 273 275 w ∷ plain 34342927360 34342927872 rw ∷ plain 34342927872 34359705088 rx ∷ plain 34359705593 34359705597 rx ∷ plain 34359705597 34359705599 rx ∷ []))
    ∷ kernel_step 0 (Map 1097728 2093056 rw 34 (negsuc 0) 0) (Ok (Returned 140668628373504)) (Some (plain 271 272 w ∷ plain 273 275 w ∷ plain 34342926849 34342927872 rw ∷ plain 34342927872 34359705088 rx ∷ plain 34359705593 34359705597 rx ∷ plain 34359705597 34359705599 rx ∷ []))
    ∷ kernel_step 0 (Map 140668634632192 4096 rw 306 (negsuc 0) 0) (Ok (Returned 140668634632192)) (Some (plain 271 272 w ∷ plain 273 275 w ∷ plain 34342926849 34342927872 rw ∷ plain 34342927872 34342928377 rx ∷ plain 34342928377 34342928378 rw ∷ plain 34342928378 34359705088 rx ∷ plain 34359705593 34359705597 rx ∷ plain 34359705597 34359705599 rx ∷ []))
    ∷ kernel_step 0 (Remap 1110016 4096 8192 1 0) (Ok (Returned 1110016)) (Some (plain 271 273 w ∷ plain 273 275 w ∷ plain 34342926849 34342927872 rw ∷ plain 34342927872 34342928377 rx ∷ plain 34342928377 34342928378 rw ∷ plain 34342928378 34359705088 rx ∷ plain 34359705593 34359705597 rx ∷ plain 34359705597 34359705599 rx ∷ []))
    ∷ kernel_step 0 (Remap 1110016 8192 4096 3 1089536) (Ok (Returned 1089536)) (Some (plain 266 267 w ∷ plain 273 275 w ∷ plain 34342926849 34342927872 rw ∷ plain 34342927872 34342928377 rx ∷ plain 34342928377 34342928378 rw ∷ plain 34342928378 34359705088 rx ∷ plain 34359705593 34359705597 rx ∷ plain 34359705597 34359705599 rx ∷ []))
    ∷ kernel_step 0 (Fork 1) (Ok (Returned 0)) None
    ∷ kernel_step 1 (Unmap 1118208 4096) (Ok (Returned 0)) (Some (plain 266 267 w ∷ plain 274 275 w ∷ plain 34342926849 34342927872 rw ∷ plain 34342927872 34342928377 rx ∷ plain 34342928377 34342928378 rw ∷ plain 34342928378 34359705088 rx ∷ plain 34359705593 34359705597 rx ∷ plain 34359705597 34359705599 rx ∷ []))
    ∷ kernel_step 1 (Touch 274 Write) (Ok (Serves 274 275 w false 0)) None
    ∷ kernel_step 1 (Break 1060864) (Ok (Returned 1060864)) (Some (plain 266 267 w ∷ plain 274 275 w ∷ plain 34342926849 34342927872 rw ∷ plain 34342927872 34342928377 rx ∷ plain 34342928377 34342928378 rw ∷ plain 34342928378 34359705088 rx ∷ plain 34359705593 34359705597 rx ∷ plain 34359705597 34359705599 rx ∷ []))
    ∷ kernel_step 0 (Break 1048576) (Ok (Returned 1060864)) (Some (plain 266 267 w ∷ plain 273 275 w ∷ plain 34342926849 34342927872 rw ∷ plain 34342927872 34342928377 rx ∷ plain 34342928377 34342928378 rw ∷ plain 34342928378 34359705088 rx ∷ plain 34359705593 34359705597 rx ∷ plain 34359705597 34359705599 rx ∷ []))
    ∷ kernel_step 0 (Break 1064952) (Ok (Returned 1064952)) (Some (heap 259 260 rw ∷ plain 266 267 w ∷ plain 273 275 w ∷ plain 34342926849 34342927872 rw ∷ plain 34342927872 34342928377 rx ∷ plain 34342928377 34342928378 rw ∷ plain 34342928378 34359705088 rx ∷ plain 34359705593 34359705597 rx ∷ plain 34359705597 34359705599 rx ∷ []))
    ∷ kernel_step 1 (Break 1069064) (Ok (Returned 1069064)) (Some (heap 259 262 rw ∷ plain 266 267 w ∷ plain 274 275 w ∷ plain 34342926849 34342927872 rw ∷ plain 34342927872 34342928377 rx ∷ plain 34342928377 34342928378 rw ∷ plain 34342928378 34359705088 rx ∷ plain 34359705593 34359705597 rx ∷ plain 34359705597 34359705599 rx ∷ []))
    ∷ kernel_step 1 (Unmap 1110016 16384) (Ok (Returned 0)) (Some (heap 259 262 rw ∷ plain 266 267 w ∷ plain 34342926849 34342927872 rw ∷ plain 34342927872 34342928377 rx ∷ plain 34342928377 34342928378 rw ∷ plain 34342928378 34359705088 rx ∷ plain 34359705593 34359705597 rx ∷ plain 34359705597 34359705599 rx ∷ []))
    ∷ kernel_step 1 (Map 140668634624000 8192 r 50 (negsuc 0) 0) (Ok (Returned 140668634624000)) (Some (heap 259 262 rw ∷ plain 266 267 w ∷ plain 34342926849 34342927872 rw ∷ plain 34342927872 34342928375 rx ∷ plain 34342928375 34342928377 r ∷ plain 34342928377 34342928378 rw ∷ plain 34342928378 34359705088 rx ∷ plain 34359705593 34359705597 rx ∷ plain 34359705597 34359705599 rx ∷ []))
    ∷ kernel_step 0 (Map 0 2093056 rx 33 (negsuc 0) 0) (Ok (Returned 140668626280448)) (Some (heap 259 260 rw ∷ plain 266 267 w ∷ plain 273 275 w ∷ filed 34342926338 34342926849 rx true 0 4 ∷ plain 34342926849 34342927872 rw ∷ plain 34342927872 34342928377 rx ∷ plain 34342928377 34342928378 rw ∷ plain 34342928378 34359705088 rx ∷ plain 34359705593 34359705597 rx ∷ plain 34359705597 34359705599 rx ∷ []))
    ∷ []

-- written_limit_151: the kernel
abbrev pub written_limit_151_on : Kernel
written_limit_151_on = record { rules = linux_6_12; machine = record { lowest_built = 16; memory = 245000; stack = 8388608; has_keys = true; huge_always = true; files_are_huge = false; vsyscall = Xonly }; config = config 4096 140737354133504 8 0 (file_row 3 true false 0 ∷ file_row 4 true false 20000 ∷ []) }

-- written_limit_151: its answers
abbrev pub written_limit_151 : List Step
written_limit_151 =
    kernel_step 0 (Map 1048576 16384 rw 50 (negsuc 0) 0) (Ok (Returned 1048576)) (Some (plain 256 260 rw ∷ []))
    ∷ kernel_step 0 (Map 1085440 12288 rw 50 (negsuc 0) 0) (Ok (Returned 1085440)) (Some (plain 256 260 rw ∷ plain 265 268 rw ∷ []))
    ∷ kernel_step 0 (Protect 1093632 16384 rw) (Err 12) (Some (plain 256 260 rw ∷ plain 265 268 rw ∷ []))
    ∷ kernel_step 0 (Touch 266 Write) (Ok (Serves 265 268 rw false 0)) None
    ∷ kernel_step 0 (Protect 1085440 16384 rw) (Err 12) (Some (plain 256 260 rw ∷ plain 265 268 rw ∷ []))
    ∷ kernel_step 0 (Fork 1) (Ok (Returned 0)) None
    ∷ kernel_step 0 (Map 1085440 16384 rw 50 (negsuc 0) 0) (Ok (Returned 1085440)) (Some (plain 256 260 rw ∷ plain 265 269 rw ∷ []))
    ∷ kernel_step 1 (Touch 266 Write) (Ok (Serves 265 268 rw false 0)) None
    ∷ kernel_step 1 (Remap 1085440 8192 8192 3 1572864) (Ok (Returned 1572864)) (Some (plain 256 260 rw ∷ plain 267 268 rw ∷ plain 384 386 rw ∷ []))
    ∷ kernel_step 1 (Remap 1572864 8192 8192 3 1085440) (Err 12) (Some (plain 256 260 rw ∷ plain 267 268 rw ∷ plain 384 386 rw ∷ []))
    ∷ kernel_step 0 (Protect 1077248 12288 rw) (Err 12) (Some (plain 256 260 rw ∷ plain 265 269 rw ∷ []))
    ∷ kernel_step 1 (Touch 266 Write) (Ok (Signal MapErr)) None
    ∷ kernel_step 1 (Touch 385 Write) (Ok (Serves 384 386 rw false 0)) None
    ∷ kernel_step 1 (Remap 1048576 16384 16384 3 1642496) (Err 12) (Some (plain 256 260 rw ∷ plain 267 268 rw ∷ plain 384 386 rw ∷ []))
    ∷ kernel_step 1 (Touch 257 Write) (Ok (Serves 256 260 rw false 0)) None
    ∷ kernel_step 0 (Fork 2) (Ok (Returned 0)) None
    ∷ kernel_step 0 (Protect 1081344 8192 rw) (Err 12) (Some (plain 256 260 rw ∷ plain 265 269 rw ∷ []))
    ∷ kernel_step 2 (Protect 1048576 4096 rw) (Ok (Returned 0)) (Some (plain 256 260 rw ∷ plain 265 269 rw ∷ []))
    ∷ kernel_step 1 (Map 1085440 4096 rw 50 (negsuc 0) 0) (Ok (Returned 1085440)) (Some (plain 256 260 rw ∷ plain 265 266 rw ∷ plain 267 268 rw ∷ plain 384 386 rw ∷ []))
    ∷ kernel_step 1 (Map 1052672 4096 rw 16434 (negsuc 0) 0) (Ok (Returned 1052672)) (Some (plain 256 257 rw ∷ plain 257 258 rw ∷ plain 258 260 rw ∷ plain 265 266 rw ∷ plain 267 268 rw ∷ plain 384 386 rw ∷ []))
    ∷ kernel_step 2 (Touch 267 Write) (Ok (Serves 265 269 rw false 0)) None
    ∷ kernel_step 0 (Fork 3) (Ok (Returned 0)) None
    ∷ kernel_step 0 (Touch 268 Write) (Ok (Serves 265 269 rw false 0)) None
    ∷ kernel_step 2 (Touch 265 Write) (Ok (Serves 265 269 rw false 0)) None
    ∷ kernel_step 3 (Touch 267 Write) (Ok (Serves 265 269 rw false 0)) (Some (plain 256 260 rw ∷ plain 265 269 rw ∷ []))
    ∷ kernel_step 0 (Protect 1085440 16384 rw) (Ok (Returned 0)) (Some (plain 256 260 rw ∷ plain 265 269 rw ∷ []))
    ∷ kernel_step 2 (Remap 1056768 24576 24576 3 1085440) (Err 14) (Some (plain 256 260 rw ∷ []))
    ∷ kernel_step 2 (Map 1081344 8192 rw 50 (negsuc 0) 0) (Ok (Returned 1081344)) (Some (plain 256 260 rw ∷ plain 264 266 rw ∷ []))
    ∷ kernel_step 2 (Protect 1052672 20480 rw) (Err 12) (Some (plain 256 260 rw ∷ plain 264 266 rw ∷ []))
    ∷ kernel_step 2 (Protect 1064960 4096 rw) (Err 12) (Some (plain 256 260 rw ∷ plain 264 266 rw ∷ []))
    ∷ []

-- hard_160: the kernel
abbrev pub hard_160_on : Kernel
hard_160_on = record { rules = linux_6_12; machine = record { lowest_built = 16; memory = 245000; stack = 8388608; has_keys = true; huge_always = true; files_are_huge = false; vsyscall = Xonly }; config = config 4096 140737354133504 65530 0 (file_row 3 false true 90000 ∷ file_row 4 false true 90000 ∷ file_row 5 true true 20000 ∷ []) }

-- hard_160: its answers
abbrev pub hard_160 : List Step
hard_160 =
    kernel_step 0 (Map 1118208 4096 rwx 18 (pos 3) 12288) (Err 13) (Some ([]))
    ∷ kernel_step 0 (Map 1077248 12288 x 50 (negsuc 0) 0) (Ok (Returned 1077248)) (Some (plain 263 266 x ∷ []))
    ∷ kernel_step 0 (Fork 1) (Ok (Returned 0)) None
    ∷ kernel_step 1 (Remap 1077248 12288 12288 3 1069056) (Err 22) (Some (plain 263 266 x ∷ []))
    ∷ kernel_step 1 (Touch 271 Write) (Ok (Signal MapErr)) None
    ∷ kernel_step 1 (Protect 1077248 12288 r) (Ok (Returned 0)) (Some (plain 263 266 r ∷ []))
    ∷ kernel_step 1 (Unmap 1077248 12288) (Ok (Returned 0)) (Some ([]))
    ∷ kernel_step 0 (Map 0 3145728 x 34 (negsuc 0) 0) (Ok (Returned 140737350987776)) (Some (plain 263 266 x ∷ plain 34359704831 34359705599 x ∷ []))
    ∷ kernel_step 1 (Remap 1089536 20480 20480 3 1101824) (Err 14) (Some ([]))
    ∷ kernel_step 0 (Map 1085440 8192 x 50 (negsuc 0) 0) (Ok (Returned 1085440)) (Some (plain 263 267 x ∷ plain 34359704831 34359705599 x ∷ []))
    ∷ kernel_step 0 (Map 1101824 4096 r 32769 (pos 4) 4096) (Err 13) (Some (plain 263 267 x ∷ plain 34359704831 34359705599 x ∷ []))
    ∷ kernel_step 1 (Unmap 1097728 16384) (Ok (Returned 0)) (Some ([]))
    ∷ kernel_step 0 (Touch 266 Write) (Ok (Signal PkuErr)) None
    ∷ kernel_step 0 (Touch 266 Write) (Ok (Signal PkuErr)) None
    ∷ kernel_step 0 (Touch 264 Read) (Ok (Signal PkuErr)) None
    ∷ kernel_step 0 (Protect 1077248 16384 x) (Ok (Returned 0)) (Some (plain 263 267 x ∷ plain 34359704831 34359705599 x ∷ []))
    ∷ kernel_step 1 (Map 1085440 12288 r 50 (negsuc 0) 0) (Ok (Returned 1085440)) (Some (plain 265 268 r ∷ []))
    ∷ kernel_step 0 (Unmap 1077248 16384) (Ok (Returned 0)) (Some (plain 34359704831 34359705599 x ∷ []))
    ∷ kernel_step 0 (Map 1060864 4096 none 50 (negsuc 0) 0) (Ok (Returned 1060864)) (Some (plain 259 260 none ∷ plain 34359704831 34359705599 x ∷ []))
    ∷ kernel_step 1 (Map 1101824 8192 none 1048609 (negsuc 0) 0) (Ok (Returned 1101824)) (Some (plain 265 268 r ∷ filed 269 271 none true 0 4 ∷ []))
    ∷ kernel_step 0 (Fork 2) (Ok (Returned 0)) None
    ∷ kernel_step 0 (Map 0 68719476736 x 34 (negsuc 0) 0) (Ok (Returned 140668630466560)) (Some (plain 259 260 none ∷ plain 34342927360 34359704576 x ∷ plain 34359704831 34359705599 x ∷ []))
    ∷ kernel_step 2 (Touch 272 Write) (Ok (Signal MapErr)) None
    ∷ kernel_step 1 (Touch 269 Read) (Ok (Signal AccErr)) (Some (plain 265 268 r ∷ filed 269 271 none true 0 4 ∷ []))
    ∷ kernel_step 0 (Map 0 2097152 r 34 (negsuc 0) 0) (Ok (Returned 140668628369408)) (Some (plain 259 260 none ∷ plain 34342926848 34342927360 r ∷ plain 34342927360 34359704576 x ∷ plain 34359704831 34359705599 x ∷ []))
    ∷ kernel_step 2 (Touch 274 Write) (Ok (Signal MapErr)) None
    ∷ kernel_step 0 (Touch 259 Write) (Ok (Signal AccErr)) None
    ∷ kernel_step 2 (Touch 259 Write) (Ok (Signal AccErr)) None
    ∷ kernel_step 0 (Remap 1060864 4096 4096 5 0) (Ok (Returned 140737350983680)) (Some (plain 259 260 none ∷ plain 34342926848 34342927360 r ∷ plain 34342927360 34359704576 x ∷ plain 34359704830 34359704831 none ∷ plain 34359704831 34359705599 x ∷ []))
    ∷ kernel_step 2 (Protect 1060864 4096 r) (Ok (Returned 0)) (Some (plain 259 260 r ∷ plain 34359704831 34359705599 x ∷ []))
    ∷ []

-- written_166: the kernel
abbrev pub written_166_on : Kernel
written_166_on = record { rules = linux_6_12; machine = record { lowest_built = 16; memory = 245000; stack = 8388608; has_keys = true; huge_always = true; files_are_huge = false; vsyscall = Xonly }; config = config 4096 140737354133504 65530 0 (file_row 3 true false 90000 ∷ file_row 4 false true 20000 ∷ []) }

-- written_166: its answers
abbrev pub written_166 : List Step
written_166 =
    kernel_step 0 (Map 1064960 16384 rw 50 (negsuc 0) 0) (Ok (Returned 1064960)) (Some (plain 260 264 rw ∷ []))
    ∷ kernel_step 0 (Map 1052672 8192 rw 50 (negsuc 0) 0) (Ok (Returned 1052672)) (Some (plain 257 259 rw ∷ plain 260 264 rw ∷ []))
    ∷ kernel_step 0 (Touch 258 Write) (Ok (Serves 257 259 rw false 0)) None
    ∷ kernel_step 0 (Touch 258 Write) (Ok (Serves 257 259 rw false 0)) None
    ∷ kernel_step 0 (Touch 258 Write) (Ok (Serves 257 259 rw false 0)) None
    ∷ kernel_step 0 (Touch 257 Write) (Ok (Serves 257 259 rw false 0)) None
    ∷ kernel_step 0 (Touch 260 Write) (Ok (Serves 260 264 rw false 0)) None
    ∷ kernel_step 0 (Protect 1064960 12288 rw) (Ok (Returned 0)) (Some (plain 257 259 rw ∷ plain 260 264 rw ∷ []))
    ∷ kernel_step 0 (Map 1064960 34359758848 r 50 (negsuc 0) 0) (Ok (Returned 1064960)) (Some (plain 257 259 rw ∷ plain 260 8388873 r ∷ []))
    ∷ kernel_step 0 (Remap 1056768 12288 12288 7 1642496) (Err 14) (Some (plain 257 259 rw ∷ plain 260 401 r ∷ plain 404 8388873 r ∷ []))
    ∷ kernel_step 0 (Touch 257 Write) (Ok (Serves 257 259 rw false 0)) None
    ∷ kernel_step 0 (Protect 1052672 589824 r) (Err 12) (Some (plain 257 259 r ∷ plain 260 401 r ∷ plain 404 8388873 r ∷ []))
    ∷ kernel_step 0 (Map 1064960 12288 rw 50 (negsuc 0) 0) (Ok (Returned 1064960)) (Some (plain 257 259 r ∷ plain 260 263 rw ∷ plain 263 401 r ∷ plain 404 8388873 r ∷ []))
    ∷ kernel_step 0 (Fork 1) (Ok (Returned 0)) None
    ∷ kernel_step 1 (Remap 1110016 24576 24576 7 1638400) (Ok (Returned 1638400)) (Some (plain 257 259 r ∷ plain 260 263 rw ∷ plain 263 400 r ∷ plain 400 8388873 r ∷ []))
    ∷ kernel_step 1 (Protect 1052672 12288 rw) (Err 12) (Some (plain 257 259 rw ∷ plain 260 263 rw ∷ plain 263 400 r ∷ plain 400 8388873 r ∷ []))
    ∷ kernel_step 1 (Touch 268 Write) (Ok (Signal AccErr)) None
    ∷ kernel_step 1 (Touch 260 Read) (Ok (Serves 260 263 rw false 0)) None
    ∷ kernel_step 0 (Map 1052672 16384 rw 50 (negsuc 0) 0) (Ok (Returned 1052672)) (Some (plain 257 263 rw ∷ plain 263 401 r ∷ plain 404 8388873 r ∷ []))
    ∷ kernel_step 0 (Touch 258 Write) (Ok (Serves 257 263 rw false 0)) None
    ∷ kernel_step 0 (Protect 1060864 16384 r) (Ok (Returned 0)) (Some (plain 257 259 rw ∷ plain 259 263 r ∷ plain 263 401 r ∷ plain 404 8388873 r ∷ []))
    ∷ kernel_step 1 (Touch 257 Read) (Ok (Serves 257 259 rw false 0)) None
    ∷ kernel_step 0 (Touch 405 Write) (Ok (Signal AccErr)) None
    ∷ kernel_step 1 (Touch 262 Write) (Ok (Serves 260 263 rw false 0)) None
    ∷ kernel_step 1 (Remap 1638400 24576 24576 3 1110016) (Ok (Returned 1110016)) (Some (plain 257 259 rw ∷ plain 260 263 rw ∷ plain 263 400 r ∷ plain 406 8388873 r ∷ []))
    ∷ kernel_step 0 (Unmap 1052672 4096) (Ok (Returned 0)) (Some (plain 258 259 rw ∷ plain 259 263 r ∷ plain 263 401 r ∷ plain 404 8388873 r ∷ []))
    ∷ kernel_step 1 (Remap 1642496 12288 12288 3 1056768) (Err 14) (Some (plain 257 259 rw ∷ plain 260 263 rw ∷ plain 263 400 r ∷ plain 406 8388873 r ∷ []))
    ∷ kernel_step 0 (Remap 1056768 20480 20480 3 1605632) (Err 14) (Some (plain 258 259 rw ∷ plain 259 263 r ∷ plain 263 392 r ∷ plain 397 401 r ∷ plain 404 8388873 r ∷ []))
    ∷ kernel_step 1 (Protect 1077248 49152 rw) (Ok (Returned 0)) (Some (plain 257 259 rw ∷ plain 260 275 rw ∷ plain 275 400 r ∷ plain 406 8388873 r ∷ []))
    ∷ kernel_step 0 (Remap 1048576 4096 8192 3 34360823808) (Err 14) (Some (plain 258 259 rw ∷ plain 259 263 r ∷ plain 263 392 r ∷ plain 397 401 r ∷ plain 404 8388873 r ∷ []))
    ∷ []

-- written_174: the kernel
abbrev pub written_174_on : Kernel
written_174_on = record { rules = linux_6_12; machine = record { lowest_built = 16; memory = 245000; stack = 8388608; has_keys = true; huge_always = true; files_are_huge = false; vsyscall = Xonly }; config = config 4096 140737354133504 65530 0 ([]) }

-- written_174: its answers
abbrev pub written_174 : List Step
written_174 =
    kernel_step 0 (Map 1060864 8192 rw 50 (negsuc 0) 0) (Ok (Returned 1060864)) (Some (plain 259 261 rw ∷ []))
    ∷ kernel_step 0 (Map 1048576 34359758848 rw 50 (negsuc 0) 0) (Err 12) (Some (plain 259 261 rw ∷ []))
    ∷ kernel_step 0 (Remap 1052672 12288 12288 3 1060864) (Err 14) (Some (plain 259 261 rw ∷ []))
    ∷ kernel_step 0 (Protect 1060864 8192 rw) (Ok (Returned 0)) (Some (plain 259 261 rw ∷ []))
    ∷ kernel_step 0 (Touch 259 Write) (Ok (Serves 259 261 rw false 0)) None
    ∷ kernel_step 0 (Touch 260 Write) (Ok (Serves 259 261 rw false 0)) None
    ∷ kernel_step 0 (Protect 1060864 8192 rw) (Ok (Returned 0)) (Some (plain 259 261 rw ∷ []))
    ∷ kernel_step 0 (Map 1052672 34359738368 r 49 (negsuc 0) 0) (Err 12) (Some ([]))
    ∷ kernel_step 0 (Touch 258 Write) (Ok (Signal MapErr)) None
    ∷ kernel_step 0 (Protect 1048576 12288 rw) (Err 12) (Some ([]))
    ∷ kernel_step 0 (Touch 260 Write) (Ok (Signal MapErr)) None
    ∷ kernel_step 0 (Protect 1052672 4096 r) (Err 12) (Some ([]))
    ∷ kernel_step 0 (Protect 1064960 20480 rw) (Err 12) (Some ([]))
    ∷ kernel_step 0 (Map 1060864 16384 rw 50 (negsuc 0) 0) (Ok (Returned 1060864)) (Some (plain 259 263 rw ∷ []))
    ∷ kernel_step 0 (Map 1060864 12288 rw 50 (negsuc 0) 0) (Ok (Returned 1060864)) (Some (plain 259 263 rw ∷ []))
    ∷ kernel_step 0 (Touch 262 Write) (Ok (Serves 259 263 rw false 0)) None
    ∷ kernel_step 0 (Protect 1060864 4096 rwx) (Ok (Returned 0)) (Some (plain 259 260 rwx ∷ plain 260 263 rw ∷ []))
    ∷ kernel_step 0 (Touch 259 Write) (Ok (Serves 259 260 rwx false 0)) None
    ∷ kernel_step 0 (Remap 1060864 12288 12288 3 1052672) (Err 22) (Some (plain 259 260 rwx ∷ plain 260 263 rw ∷ []))
    ∷ kernel_step 0 (Remap 1064960 8192 8192 3 1638400) (Ok (Returned 1638400)) (Some (plain 259 260 rwx ∷ plain 262 263 rw ∷ plain 400 402 rw ∷ []))
    ∷ kernel_step 0 (Map 1064960 16384 rwx 50 (negsuc 0) 0) (Ok (Returned 1064960)) (Some (plain 259 264 rwx ∷ plain 400 402 rw ∷ []))
    ∷ kernel_step 0 (Unmap 1052672 4096) (Ok (Returned 0)) (Some (plain 259 264 rwx ∷ plain 400 402 rw ∷ []))
    ∷ kernel_step 0 (Remap 1060864 20480 20480 7 1609728) (Ok (Returned 1609728)) (Some (plain 259 264 rwx ∷ plain 393 398 rwx ∷ plain 400 402 rw ∷ []))
    ∷ kernel_step 0 (Map 1052672 16384 rwx 50 (negsuc 0) 0) (Ok (Returned 1052672)) (Some (plain 257 264 rwx ∷ plain 393 398 rwx ∷ plain 400 402 rw ∷ []))
    ∷ kernel_step 0 (Remap 1613824 16384 16384 3 1064960) (Ok (Returned 1064960)) (Some (plain 257 260 rwx ∷ plain 260 264 rwx ∷ plain 393 394 rwx ∷ plain 400 402 rw ∷ []))
    ∷ kernel_step 0 (Remap 1060864 24576 32768 1 0) (Err 14) (Some (plain 257 260 rwx ∷ plain 260 264 rwx ∷ plain 393 394 rwx ∷ plain 400 402 rw ∷ []))
    ∷ kernel_step 0 (Touch 400 Write) (Ok (Serves 400 402 rw false 0)) None
    ∷ kernel_step 0 (Protect 1060864 20480 rwx) (Ok (Returned 0)) (Some (plain 257 260 rwx ∷ plain 260 264 rwx ∷ plain 393 394 rwx ∷ plain 400 402 rw ∷ []))
    ∷ kernel_step 0 (Protect 1052672 16384 r) (Ok (Returned 0)) (Some (plain 257 260 r ∷ plain 260 261 r ∷ plain 261 264 rwx ∷ plain 393 394 rwx ∷ plain 400 402 rw ∷ []))
    ∷ kernel_step 0 (Touch 257 Read) (Ok (Serves 257 260 r false 0)) (Some (plain 257 260 r ∷ plain 260 261 r ∷ plain 261 264 rwx ∷ plain 393 394 rwx ∷ plain 400 402 rw ∷ []))
    ∷ []

-- written_177: the kernel
abbrev pub written_177_on : Kernel
written_177_on = record { rules = linux_6_12; machine = record { lowest_built = 16; memory = 245000; stack = 8388608; has_keys = true; huge_always = true; files_are_huge = false; vsyscall = Xonly }; config = config 4096 140737354133504 65530 0 (file_row 3 true true 5000 ∷ file_row 4 true true 90000 ∷ []) }

-- written_177: its answers
abbrev pub written_177 : List Step
written_177 =
    kernel_step 0 (Map 1052672 8192 rw 50 (negsuc 0) 0) (Ok (Returned 1052672)) (Some (plain 257 259 rw ∷ []))
    ∷ kernel_step 0 (Map 1048576 16384 rw 50 (negsuc 0) 0) (Ok (Returned 1048576)) (Some (plain 256 260 rw ∷ []))
    ∷ kernel_step 0 (Touch 259 Write) (Ok (Serves 256 260 rw false 0)) None
    ∷ kernel_step 0 (Protect 1048576 16384 rw) (Ok (Returned 0)) (Some (plain 256 260 rw ∷ []))
    ∷ kernel_step 0 (Map 1052672 8192 rw 50 (negsuc 0) 0) (Ok (Returned 1052672)) (Some (plain 256 260 rw ∷ []))
    ∷ kernel_step 0 (Remap 1052672 8192 8192 3 1638400) (Ok (Returned 1638400)) (Some (plain 256 257 rw ∷ plain 259 260 rw ∷ plain 400 402 rw ∷ []))
    ∷ kernel_step 0 (Touch 259 Write) (Ok (Serves 259 260 rw false 0)) None
    ∷ kernel_step 0 (Protect 1060864 12288 rw) (Err 12) (Some (plain 256 257 rw ∷ plain 259 260 rw ∷ plain 400 402 rw ∷ []))
    ∷ kernel_step 0 (Fork 1) (Ok (Returned 0)) None
    ∷ kernel_step 1 (Remap 1638400 8192 8192 3 1052672) (Ok (Returned 1052672)) (Some (plain 256 257 rw ∷ plain 257 259 rw ∷ plain 259 260 rw ∷ []))
    ∷ kernel_step 1 (Remap 1052672 4096 4096 3 1642496) (Ok (Returned 1642496)) (Some (plain 256 257 rw ∷ plain 258 259 rw ∷ plain 259 260 rw ∷ plain 401 402 rw ∷ []))
    ∷ kernel_step 1 (Touch 258 Write) (Ok (Serves 258 259 rw false 0)) None
    ∷ kernel_step 0 (Map 1052672 4096 rw 50 (negsuc 0) 0) (Ok (Returned 1052672)) (Some (plain 256 258 rw ∷ plain 259 260 rw ∷ plain 400 402 rw ∷ []))
    ∷ kernel_step 0 (Map 1056768 8192 rw 131122 (negsuc 0) 0) (Ok (Returned 1056768)) (Some (plain 256 258 rw ∷ plain 258 260 rw ∷ plain 400 402 rw ∷ []))
    ∷ kernel_step 0 (Touch 257 Write) (Ok (Serves 256 258 rw false 0)) None
    ∷ kernel_step 0 (Remap 1642496 4096 4096 3 1052672) (Ok (Returned 1052672)) (Some (plain 256 257 rw ∷ plain 257 258 rw ∷ plain 258 260 rw ∷ plain 400 401 rw ∷ []))
    ∷ kernel_step 0 (Map 1060864 8192 rw 50 (negsuc 0) 0) (Ok (Returned 1060864)) (Some (plain 256 257 rw ∷ plain 257 258 rw ∷ plain 258 259 rw ∷ plain 259 261 rw ∷ plain 400 401 rw ∷ []))
    ∷ kernel_step 0 (Protect 1060864 16384 rw) (Err 12) (Some (plain 256 257 rw ∷ plain 257 258 rw ∷ plain 258 259 rw ∷ plain 259 261 rw ∷ plain 400 401 rw ∷ []))
    ∷ kernel_step 1 (Map 1056768 12288 rw 50 (negsuc 0) 0) (Ok (Returned 1056768)) (Some (plain 256 257 rw ∷ plain 258 261 rw ∷ plain 401 402 rw ∷ []))
    ∷ kernel_step 0 (Touch 257 Write) (Ok (Serves 257 258 rw false 0)) None
    ∷ kernel_step 1 (Touch 256 Write) (Ok (Serves 256 257 rw false 0)) None
    ∷ kernel_step 1 (Map 1052672 12288 rw 50 (negsuc 0) 0) (Ok (Returned 1052672)) (Some (plain 256 257 rw ∷ plain 257 261 rw ∷ plain 401 402 rw ∷ []))
    ∷ kernel_step 0 (Protect 1052672 4096 rw) (Ok (Returned 0)) (Some (plain 256 257 rw ∷ plain 257 258 rw ∷ plain 258 259 rw ∷ plain 259 261 rw ∷ plain 400 401 rw ∷ []))
    ∷ kernel_step 1 (Touch 401 Write) (Ok (Serves 401 402 rw false 0)) None
    ∷ kernel_step 0 (Touch 400 Write) (Ok (Serves 400 401 rw false 0)) None
    ∷ kernel_step 1 (Protect 1064960 8192 rw) (Err 12) (Some (plain 256 257 rw ∷ plain 257 261 rw ∷ plain 401 402 rw ∷ []))
    ∷ kernel_step 0 (Map 1060864 4096 rw 50 (negsuc 0) 0) (Ok (Returned 1060864)) (Some (plain 256 257 rw ∷ plain 257 258 rw ∷ plain 258 259 rw ∷ plain 259 261 rw ∷ plain 400 401 rw ∷ []))
    ∷ kernel_step 0 (Touch 260 Write) (Ok (Serves 259 261 rw false 0)) None
    ∷ kernel_step 0 (Touch 257 Write) (Ok (Serves 257 258 rw false 0)) None
    ∷ kernel_step 0 (Map 1052672 16384 rw 50 (negsuc 0) 0) (Ok (Returned 1052672)) (Some (plain 256 261 rw ∷ plain 400 401 rw ∷ []))
    ∷ []

-- written_188: the kernel
abbrev pub written_188_on : Kernel
written_188_on = record { rules = linux_6_12; machine = record { lowest_built = 16; memory = 245000; stack = 8388608; has_keys = true; huge_always = true; files_are_huge = false; vsyscall = Xonly }; config = config 4096 140737354133504 65530 0 (file_row 3 true true 90000 ∷ file_row 4 true true 5000 ∷ file_row 5 true false 0 ∷ []) }

-- written_188: its answers
abbrev pub written_188 : List Step
written_188 =
    kernel_step 0 (Map 1056768 16384 r 50 (negsuc 0) 0) (Ok (Returned 1056768)) (Some (plain 258 262 r ∷ []))
    ∷ kernel_step 0 (Map 1048576 4096 rw 50 (negsuc 0) 0) (Ok (Returned 1048576)) (Some (plain 256 257 rw ∷ plain 258 262 r ∷ []))
    ∷ kernel_step 0 (Remap 1048576 4096 4096 7 1052672) (Ok (Returned 1052672)) (Some (plain 256 257 rw ∷ plain 257 258 rw ∷ plain 258 262 r ∷ []))
    ∷ kernel_step 0 (Remap 1048576 4096 4096 7 1605632) (Ok (Returned 1605632)) (Some (plain 256 257 rw ∷ plain 257 258 rw ∷ plain 258 262 r ∷ plain 392 393 rw ∷ []))
    ∷ kernel_step 0 (Protect 1060864 8192 r) (Ok (Returned 0)) (Some (plain 256 257 rw ∷ plain 257 258 rw ∷ plain 258 262 r ∷ plain 392 393 rw ∷ []))
    ∷ kernel_step 0 (Map 1052672 4096 rw 50 (negsuc 0) 0) (Ok (Returned 1052672)) (Some (plain 256 258 rw ∷ plain 258 262 r ∷ plain 392 393 rw ∷ []))
    ∷ kernel_step 0 (Touch 392 Read) (Ok (Serves 392 393 rw false 0)) None
    ∷ kernel_step 0 (Fork 1) (Ok (Returned 0)) None
    ∷ kernel_step 0 (Protect 1064960 8192 rw) (Ok (Returned 0)) (Some (plain 256 258 rw ∷ plain 258 260 r ∷ plain 260 262 rw ∷ plain 392 393 rw ∷ []))
    ∷ kernel_step 1 (Touch 257 Write) (Ok (Serves 256 258 rw false 0)) None
    ∷ kernel_step 1 (Map 1056768 12288 r 50 (negsuc 0) 0) (Ok (Returned 1056768)) (Some (plain 256 258 rw ∷ plain 258 262 r ∷ plain 392 393 rw ∷ []))
    ∷ kernel_step 0 (Fork 2) (Ok (Returned 0)) None
    ∷ kernel_step 2 (Touch 261 Write) (Ok (Serves 260 262 rw false 0)) None
    ∷ kernel_step 1 (Touch 256 Write) (Ok (Serves 256 258 rw false 0)) None
    ∷ kernel_step 1 (Remap 1605632 4096 4096 3 1048576) (Ok (Returned 1048576)) (Some (plain 256 258 rw ∷ plain 258 262 r ∷ []))
    ∷ kernel_step 0 (Touch 258 Write) (Ok (Signal AccErr)) None
    ∷ kernel_step 0 (Map 1048576 8192 rw 50 (negsuc 0) 0) (Ok (Returned 1048576)) (Some (plain 256 258 rw ∷ plain 258 260 r ∷ plain 260 262 rw ∷ plain 392 393 rw ∷ []))
    ∷ kernel_step 2 (Protect 1048576 12288 r) (Ok (Returned 0)) (Some (plain 256 260 r ∷ plain 260 262 rw ∷ plain 392 393 rw ∷ []))
    ∷ kernel_step 2 (Protect 1064960 8192 r) (Ok (Returned 0)) (Some (plain 256 260 r ∷ plain 260 262 r ∷ plain 392 393 rw ∷ []))
    ∷ kernel_step 2 (Map 1052672 8192 rw 50 (negsuc 0) 0) (Ok (Returned 1052672)) (Some (plain 256 257 r ∷ plain 257 259 rw ∷ plain 259 260 r ∷ plain 260 262 r ∷ plain 392 393 rw ∷ []))
    ∷ kernel_step 0 (Fork 3) (Ok (Returned 0)) None
    ∷ kernel_step 3 (Map 1052672 4096 rw 50 (negsuc 0) 0) (Ok (Returned 1052672)) (Some (plain 256 258 rw ∷ plain 258 260 r ∷ plain 260 262 rw ∷ plain 392 393 rw ∷ []))
    ∷ kernel_step 0 (Touch 258 Write) (Ok (Signal AccErr)) None
    ∷ kernel_step 0 (Protect 1048576 4096 r) (Ok (Returned 0)) (Some (plain 256 257 r ∷ plain 257 258 rw ∷ plain 258 260 r ∷ plain 260 262 rw ∷ plain 392 393 rw ∷ []))
    ∷ kernel_step 0 (Map 1048576 16384 rw 50 (negsuc 0) 0) (Ok (Returned 1048576)) (Some (plain 256 262 rw ∷ plain 392 393 rw ∷ []))
    ∷ kernel_step 3 (Touch 258 Write) (Ok (Signal AccErr)) None
    ∷ kernel_step 1 (Touch 257 Write) (Ok (Serves 256 258 rw false 0)) None
    ∷ kernel_step 1 (Map 1052672 16384 rw 50 (negsuc 0) 0) (Ok (Returned 1052672)) (Some (plain 256 261 rw ∷ plain 261 262 r ∷ []))
    ∷ kernel_step 3 (Touch 260 Write) (Ok (Serves 260 262 rw false 0)) (Some (plain 256 258 rw ∷ plain 258 260 r ∷ plain 260 262 rw ∷ plain 392 393 rw ∷ []))
    ∷ kernel_step 2 (Touch 392 Write) (Ok (Serves 392 393 rw false 0)) (Some (plain 256 257 r ∷ plain 257 259 rw ∷ plain 259 260 r ∷ plain 260 262 r ∷ plain 392 393 rw ∷ []))
    ∷ []

-- written_198: the kernel
abbrev pub written_198_on : Kernel
written_198_on = record { rules = linux_6_12; machine = record { lowest_built = 16; memory = 245000; stack = 8388608; has_keys = true; huge_always = true; files_are_huge = false; vsyscall = Xonly }; config = config 4096 140737354133504 65530 0 ([]) }

-- written_198: its answers
abbrev pub written_198 : List Step
written_198 =
    kernel_step 0 (Map 1060864 12288 rw 50 (negsuc 0) 0) (Ok (Returned 1060864)) (Some (plain 259 262 rw ∷ []))
    ∷ kernel_step 0 (Map 1052672 4096 rw 50 (negsuc 0) 0) (Ok (Returned 1052672)) (Some (plain 257 258 rw ∷ plain 259 262 rw ∷ []))
    ∷ kernel_step 0 (Touch 261 Write) (Ok (Serves 259 262 rw false 0)) None
    ∷ kernel_step 0 (Touch 261 Write) (Ok (Serves 259 262 rw false 0)) None
    ∷ kernel_step 0 (Remap 1048576 16384 16384 3 1056768) (Err 14) (Some (plain 257 258 rw ∷ plain 259 262 rw ∷ []))
    ∷ kernel_step 0 (Map 1060864 12288 rw 32818 (negsuc 0) 0) (Ok (Returned 1060864)) (Some (plain 257 258 rw ∷ plain 259 262 rw ∷ []))
    ∷ kernel_step 0 (Remap 1048576 12288 12288 3 1605632) (Err 14) (Some (plain 257 258 rw ∷ plain 259 262 rw ∷ []))
    ∷ kernel_step 0 (Touch 257 Write) (Ok (Serves 257 258 rw false 0)) None
    ∷ kernel_step 0 (Map 1056768 4096 rw 50 (negsuc 0) 0) (Ok (Returned 1056768)) (Some (plain 257 259 rw ∷ plain 259 262 rw ∷ []))
    ∷ kernel_step 0 (Touch 257 Read) (Ok (Serves 257 259 rw false 0)) None
    ∷ kernel_step 0 (Remap 1056768 4096 4096 7 1048576) (Ok (Returned 1048576)) (Some (plain 256 257 rw ∷ plain 257 259 rw ∷ plain 259 262 rw ∷ []))
    ∷ kernel_step 0 (Touch 257 Write) (Ok (Serves 257 259 rw false 0)) None
    ∷ kernel_step 0 (Map 1060864 4096 rw 131122 (negsuc 0) 0) (Ok (Returned 1060864)) (Some (plain 256 257 rw ∷ plain 257 259 rw ∷ plain 259 260 rw ∷ plain 260 262 rw ∷ []))
    ∷ kernel_step 0 (Touch 261 Read) (Ok (Serves 260 262 rw false 0)) None
    ∷ kernel_step 0 (Protect 1048576 8192 rw) (Ok (Returned 0)) (Some (plain 256 257 rw ∷ plain 257 259 rw ∷ plain 259 260 rw ∷ plain 260 262 rw ∷ []))
    ∷ kernel_step 0 (Map 1060864 4096 rw 50 (negsuc 0) 0) (Ok (Returned 1060864)) (Some (plain 256 257 rw ∷ plain 257 260 rw ∷ plain 260 262 rw ∷ []))
    ∷ kernel_step 0 (Touch 261 Read) (Ok (Serves 260 262 rw false 0)) None
    ∷ kernel_step 0 (Touch 257 Read) (Ok (Serves 257 260 rw false 0)) None
    ∷ kernel_step 0 (Touch 261 Read) (Ok (Serves 260 262 rw false 0)) None
    ∷ kernel_step 0 (Remap 1052672 4096 4096 3 1605632) (Ok (Returned 1605632)) (Some (plain 256 257 rw ∷ plain 258 260 rw ∷ plain 260 262 rw ∷ plain 392 393 rw ∷ []))
    ∷ kernel_step 0 (Remap 1609728 8192 8192 3 1052672) (Err 14) (Some (plain 256 257 rw ∷ plain 258 260 rw ∷ plain 260 262 rw ∷ plain 392 393 rw ∷ []))
    ∷ kernel_step 0 (Remap 1605632 4096 4096 3 1052672) (Ok (Returned 1052672)) (Some (plain 256 257 rw ∷ plain 257 260 rw ∷ plain 260 262 rw ∷ []))
    ∷ kernel_step 0 (Touch 256 Read) (Ok (Serves 256 257 rw false 0)) None
    ∷ kernel_step 0 (Protect 1064960 12288 rw) (Err 12) (Some (plain 256 257 rw ∷ plain 257 260 rw ∷ plain 260 262 rw ∷ []))
    ∷ kernel_step 0 (Touch 258 Write) (Ok (Serves 257 260 rw false 0)) None
    ∷ kernel_step 0 (Touch 257 Write) (Ok (Serves 257 260 rw false 0)) None
    ∷ kernel_step 0 (Protect 1052672 20480 rw) (Ok (Returned 0)) (Some (plain 256 257 rw ∷ plain 257 260 rw ∷ plain 260 262 rw ∷ []))
    ∷ kernel_step 0 (Protect 1060864 4096 rw) (Ok (Returned 0)) (Some (plain 256 257 rw ∷ plain 257 260 rw ∷ plain 260 262 rw ∷ []))
    ∷ kernel_step 0 (Unmap 1048576 12288) (Ok (Returned 0)) (Some (plain 259 260 rw ∷ plain 260 262 rw ∷ []))
    ∷ kernel_step 0 (Touch 259 Write) (Ok (Serves 259 260 rw false 0)) (Some (plain 259 260 rw ∷ plain 260 262 rw ∷ []))
    ∷ []

-- hard_208: the kernel
abbrev pub hard_208_on : Kernel
hard_208_on = record { rules = linux_6_12; machine = record { lowest_built = 16; memory = 245000; stack = 8388608; has_keys = true; huge_always = true; files_are_huge = false; vsyscall = Xonly }; config = config 4096 140737354133504 65530 0 ([]) }

-- hard_208: its answers
abbrev pub hard_208 : List Step
hard_208 =
    kernel_step 0 (Map 1085440 12288 r 16434 (negsuc 0) 0) (Ok (Returned 1085440)) (Some (plain 265 268 r ∷ []))
    ∷ kernel_step 0 (Map 1073152 16384 rw 1048609 (negsuc 0) 0) (Err 17) (Some (plain 265 268 r ∷ []))
    ∷ kernel_step 0 (Map 0 4194304 r 131361 (negsuc 0) 0) (Err 22) (Some (plain 265 268 r ∷ []))
    ∷ kernel_step 0 (Touch 265 Write) (Ok (Signal AccErr)) None
    ∷ kernel_step 0 (Protect 1114112 16384 rw) (Err 12) (Some (plain 265 268 r ∷ []))
    ∷ kernel_step 0 (Touch 265 Write) (Ok (Signal AccErr)) None
    ∷ kernel_step 0 (Map 1097728 8192 rw 50 (negsuc 0) 0) (Ok (Returned 1097728)) (Some (plain 265 268 r ∷ plain 268 270 rw ∷ []))
    ∷ kernel_step 0 (Protect 1097728 8192 rw) (Ok (Returned 0)) (Some (plain 265 268 r ∷ plain 268 270 rw ∷ []))
    ∷ kernel_step 0 (Remap 1085440 12288 12288 5 0) (Ok (Returned 140737354121216)) (Some (plain 265 268 r ∷ plain 268 270 rw ∷ plain 34359705596 34359705599 r ∷ []))
    ∷ kernel_step 0 (Touch 265 Write) (Ok (Signal AccErr)) None
    ∷ kernel_step 0 (Map 1122304 16384 r 50 (negsuc 0) 0) (Ok (Returned 1122304)) (Some (plain 265 268 r ∷ plain 268 270 rw ∷ plain 274 278 r ∷ plain 34359705596 34359705599 r ∷ []))
    ∷ kernel_step 0 (Protect 1085440 53248 rw) (Err 12) (Some (plain 265 268 rw ∷ plain 268 270 rw ∷ plain 274 278 r ∷ plain 34359705596 34359705599 r ∷ []))
    ∷ kernel_step 0 (Protect 1101824 16384 r) (Err 12) (Some (plain 265 268 rw ∷ plain 268 269 rw ∷ plain 269 270 r ∷ plain 274 278 r ∷ plain 34359705596 34359705599 r ∷ []))
    ∷ kernel_step 0 (Protect 1101824 4096 r) (Ok (Returned 0)) (Some (plain 265 268 rw ∷ plain 268 269 rw ∷ plain 269 270 r ∷ plain 274 278 r ∷ plain 34359705596 34359705599 r ∷ []))
    ∷ kernel_step 0 (Map 1097728 12288 r 50 (negsuc 0) 0) (Ok (Returned 1097728)) (Some (plain 265 268 rw ∷ plain 268 271 r ∷ plain 274 278 r ∷ plain 34359705596 34359705599 r ∷ []))
    ∷ kernel_step 0 (Protect 1097728 4096 r) (Ok (Returned 0)) (Some (plain 265 268 rw ∷ plain 268 271 r ∷ plain 274 278 r ∷ plain 34359705596 34359705599 r ∷ []))
    ∷ kernel_step 0 (Remap 1126400 12288 12288 5 0) (Ok (Returned 140737354108928)) (Some (plain 265 268 rw ∷ plain 268 271 r ∷ plain 274 278 r ∷ plain 34359705593 34359705596 r ∷ plain 34359705596 34359705599 r ∷ []))
    ∷ kernel_step 0 (Map 0 68719476736 r 34 (negsuc 0) 0) (Ok (Returned 140668632563712)) (Some (plain 265 268 rw ∷ plain 268 271 r ∷ plain 274 278 r ∷ plain 34342927872 34359705088 r ∷ plain 34359705593 34359705596 r ∷ plain 34359705596 34359705599 r ∷ []))
    ∷ kernel_step 0 (Protect 1134592 4096 r) (Ok (Returned 0)) (Some (plain 265 268 rw ∷ plain 268 271 r ∷ plain 274 278 r ∷ plain 34342927872 34359705088 r ∷ plain 34359705593 34359705596 r ∷ plain 34359705596 34359705599 r ∷ []))
    ∷ kernel_step 0 (Fork 1) (Ok (Returned 0)) None
    ∷ kernel_step 0 (Unmap 1085440 12288) (Ok (Returned 0)) (Some (plain 268 271 r ∷ plain 274 278 r ∷ plain 34342927872 34359705088 r ∷ plain 34359705593 34359705596 r ∷ plain 34359705596 34359705599 r ∷ []))
    ∷ kernel_step 0 (Protect 1097728 12288 r) (Ok (Returned 0)) (Some (plain 268 271 r ∷ plain 274 278 r ∷ plain 34342927872 34359705088 r ∷ plain 34359705593 34359705596 r ∷ plain 34359705596 34359705599 r ∷ []))
    ∷ kernel_step 1 (Touch 274 Read) (Ok (Serves 274 278 r false 0)) None
    ∷ kernel_step 1 (Remap 1122304 16384 16384 7 1138688) (Ok (Returned 1138688)) (Some (plain 265 268 rw ∷ plain 268 271 r ∷ plain 274 278 r ∷ plain 278 282 r ∷ plain 34342927872 34359705088 r ∷ plain 34359705593 34359705596 r ∷ plain 34359705596 34359705599 r ∷ []))
    ∷ kernel_step 0 (Unmap 1122304 16384) (Ok (Returned 0)) (Some (plain 268 271 r ∷ plain 34342927872 34359705088 r ∷ plain 34359705593 34359705596 r ∷ plain 34359705596 34359705599 r ∷ []))
    ∷ kernel_step 0 (Remap 1097728 0 12288 1 0) (Err 22) (Some (plain 268 271 r ∷ plain 34342927872 34359705088 r ∷ plain 34359705593 34359705596 r ∷ plain 34359705596 34359705599 r ∷ []))
    ∷ kernel_step 1 (Remap 1089536 12288 12288 5 0) (Err 14) (Some (plain 265 268 rw ∷ plain 268 271 r ∷ plain 274 278 r ∷ plain 278 282 r ∷ plain 34342927872 34359705088 r ∷ plain 34359705593 34359705596 r ∷ plain 34359705596 34359705599 r ∷ []))
    ∷ kernel_step 1 (Map 140737354133504 8192 r 50 (negsuc 0) 0) (Ok (Returned 140737354133504)) (Some (plain 265 268 rw ∷ plain 268 271 r ∷ plain 274 278 r ∷ plain 278 282 r ∷ plain 34342927872 34359705088 r ∷ plain 34359705593 34359705596 r ∷ plain 34359705596 34359705599 r ∷ plain 34359705599 34359705601 r ∷ []))
    ∷ kernel_step 0 (Touch 268 Exec) (Ok (Signal AccErr)) (Some (plain 268 271 r ∷ plain 34342927872 34359705088 r ∷ plain 34359705593 34359705596 r ∷ plain 34359705596 34359705599 r ∷ []))
    ∷ kernel_step 1 (Unmap 1077248 20480) (Ok (Returned 0)) (Some (plain 268 271 r ∷ plain 274 278 r ∷ plain 278 282 r ∷ plain 34342927872 34359705088 r ∷ plain 34359705593 34359705596 r ∷ plain 34359705596 34359705599 r ∷ plain 34359705599 34359705601 r ∷ []))
    ∷ []

-- written_220: the kernel
abbrev pub written_220_on : Kernel
written_220_on = record { rules = linux_6_12; machine = record { lowest_built = 16; memory = 245000; stack = 8388608; has_keys = true; huge_always = true; files_are_huge = false; vsyscall = Xonly }; config = config 4096 140737354133504 65530 0 ([]) }

-- written_220: its answers
abbrev pub written_220 : List Step
written_220 =
    kernel_step 0 (Map 1064960 8192 r 50 (negsuc 0) 0) (Ok (Returned 1064960)) (Some (plain 260 262 r ∷ []))
    ∷ kernel_step 0 (Map 1085440 16384 rw 50 (negsuc 0) 0) (Ok (Returned 1085440)) (Some (plain 260 262 r ∷ plain 265 269 rw ∷ []))
    ∷ kernel_step 0 (Protect 1069056 8192 rw) (Err 12) (Some (plain 260 261 r ∷ plain 261 262 rw ∷ plain 265 269 rw ∷ []))
    ∷ kernel_step 0 (Protect 1077248 4096 rw) (Err 12) (Some (plain 260 261 r ∷ plain 261 262 rw ∷ plain 265 269 rw ∷ []))
    ∷ kernel_step 0 (Fork 1) (Ok (Returned 0)) None
    ∷ kernel_step 1 (Protect 1064960 4096 r) (Ok (Returned 0)) (Some (plain 260 261 r ∷ plain 261 262 rw ∷ plain 265 269 rw ∷ []))
    ∷ kernel_step 0 (Fork 2) (Ok (Returned 0)) None
    ∷ kernel_step 2 (Protect 1056768 8192 r) (Err 12) (Some (plain 260 261 r ∷ plain 261 262 rw ∷ plain 265 269 rw ∷ []))
    ∷ kernel_step 1 (Remap 1060864 16384 16384 3 1060864) (Err 14) (Some (plain 260 261 r ∷ plain 261 262 rw ∷ plain 265 269 rw ∷ []))
    ∷ kernel_step 1 (Touch 267 Write) (Ok (Serves 265 269 rw false 0)) None
    ∷ kernel_step 1 (Touch 267 Write) (Ok (Serves 265 269 rw false 0)) None
    ∷ kernel_step 1 (Touch 260 Write) (Ok (Signal AccErr)) None
    ∷ kernel_step 1 (Map 1085440 8192 r 50 (negsuc 0) 0) (Ok (Returned 1085440)) (Some (plain 260 261 r ∷ plain 261 262 rw ∷ plain 265 267 r ∷ plain 267 269 rw ∷ []))
    ∷ kernel_step 0 (Touch 261 Read) (Ok (Serves 261 262 rw false 0)) None
    ∷ kernel_step 2 (Protect 1081344 12288 r) (Err 12) (Some (plain 260 261 r ∷ plain 261 262 rw ∷ plain 265 269 rw ∷ []))
    ∷ kernel_step 1 (Unmap 1085440 8192) (Ok (Returned 0)) (Some (plain 260 261 r ∷ plain 261 262 rw ∷ plain 267 269 rw ∷ []))
    ∷ kernel_step 0 (Remap 1093632 16384 16384 7 1077248) (Err 14) (Some (plain 260 261 r ∷ plain 261 262 rw ∷ plain 267 269 rw ∷ []))
    ∷ kernel_step 0 (Touch 260 Write) (Ok (Signal AccErr)) None
    ∷ kernel_step 1 (Protect 1048576 12288 rw) (Err 12) (Some (plain 260 261 r ∷ plain 261 262 rw ∷ plain 267 269 rw ∷ []))
    ∷ kernel_step 1 (Protect 1069056 4096 rw) (Ok (Returned 0)) (Some (plain 260 261 r ∷ plain 261 262 rw ∷ plain 267 269 rw ∷ []))
    ∷ kernel_step 1 (Protect 1069056 4096 rw) (Ok (Returned 0)) (Some (plain 260 261 r ∷ plain 261 262 rw ∷ plain 267 269 rw ∷ []))
    ∷ kernel_step 0 (Map 1056768 8192 r 50 (negsuc 0) 0) (Ok (Returned 1056768)) (Some (plain 258 261 r ∷ plain 261 262 rw ∷ plain 267 269 rw ∷ []))
    ∷ kernel_step 1 (Touch 267 Write) (Ok (Serves 267 269 rw false 0)) None
    ∷ kernel_step 0 (Map 1048576 16384 rw 50 (negsuc 0) 0) (Ok (Returned 1048576)) (Some (plain 256 260 rw ∷ plain 260 261 r ∷ plain 261 262 rw ∷ plain 267 269 rw ∷ []))
    ∷ kernel_step 2 (Remap 1077248 16384 16384 3 1093632) (Err 14) (Some (plain 260 261 r ∷ plain 261 262 rw ∷ plain 265 269 rw ∷ []))
    ∷ kernel_step 1 (Map 1052672 12288 r 50 (negsuc 0) 0) (Ok (Returned 1052672)) (Some (plain 257 261 r ∷ plain 261 262 rw ∷ plain 267 269 rw ∷ []))
    ∷ kernel_step 0 (Touch 261 Read) (Ok (Serves 261 262 rw false 0)) (Some (plain 256 260 rw ∷ plain 260 261 r ∷ plain 261 262 rw ∷ plain 267 269 rw ∷ []))
    ∷ kernel_step 1 (Remap 1069056 16384 16384 5 0) (Err 14) (Some (plain 257 261 r ∷ plain 261 262 rw ∷ plain 267 269 rw ∷ []))
    ∷ kernel_step 2 (Remap 1073152 12288 12288 5 0) (Err 14) (Some (plain 260 261 r ∷ plain 261 262 rw ∷ plain 265 269 rw ∷ []))
    ∷ kernel_step 1 (Unmap 1052672 4096) (Ok (Returned 0)) (Some (plain 258 261 r ∷ plain 261 262 rw ∷ plain 267 269 rw ∷ []))
    ∷ []

-- hard_248: the kernel
abbrev pub hard_248_on : Kernel
hard_248_on = record { rules = linux_6_12; machine = record { lowest_built = 16; memory = 245000; stack = 8388608; has_keys = true; huge_always = true; files_are_huge = false; vsyscall = Xonly }; config = config 4096 140737354133504 65530 0 (file_row 3 true true 5000 ∷ file_row 4 true true 5000 ∷ []) }

-- hard_248: its answers
abbrev pub hard_248 : List Step
hard_248 =
    kernel_step 0 (Map 0 4096 none 34 (negsuc 0) 0) (Ok (Returned 140737354129408)) (Some (plain 34359705598 34359705599 none ∷ []))
    ∷ kernel_step 0 (Map 140737354125312 4096 rwx 50 (negsuc 0) 0) (Ok (Returned 140737354125312)) (Some (plain 34359705597 34359705598 rwx ∷ plain 34359705598 34359705599 none ∷ []))
    ∷ kernel_step 0 (Map 140737354129408 8192 rwx 17 (pos 3) 8192) (Ok (Returned 140737354129408)) (Some (plain 34359705597 34359705598 rwx ∷ filed 34359705598 34359705600 rwx true 8192 1 ∷ []))
    ∷ kernel_step 0 (Unmap 140737354129408 4096) (Ok (Returned 0)) (Some (plain 34359705597 34359705598 rwx ∷ filed 34359705599 34359705600 rwx true 12288 1 ∷ []))
    ∷ kernel_step 0 (Protect 140737354133504 4096 r) (Ok (Returned 0)) (Some (plain 34359705597 34359705598 rwx ∷ filed 34359705599 34359705600 r true 12288 1 ∷ []))
    ∷ kernel_step 0 (Unmap 140737354133504 4096) (Ok (Returned 0)) (Some (plain 34359705597 34359705598 rwx ∷ []))
    ∷ kernel_step 0 (Remap 140737354125312 16384 16384 3 1077248) (Err 14) (Some (plain 34359705597 34359705598 rwx ∷ []))
    ∷ kernel_step 0 (Protect 140737354125312 4096 rwx) (Ok (Returned 0)) (Some (plain 34359705597 34359705598 rwx ∷ []))
    ∷ kernel_step 0 (Remap 140737354125312 4096 8192 3 1056768) (Ok (Returned 1056768)) (Some (plain 258 260 rwx ∷ []))
    ∷ kernel_step 0 (Touch 259 Read) (Ok (Serves 258 260 rwx false 0)) None
    ∷ kernel_step 0 (Map 1089536 12288 rx 17 (pos 3) 0) (Ok (Returned 1089536)) (Some (plain 258 260 rwx ∷ filed 266 269 rx true 0 1 ∷ []))
    ∷ kernel_step 0 (Map 1077248 12288 x 50 (negsuc 0) 0) (Ok (Returned 1077248)) (Some (plain 258 260 rwx ∷ plain 263 266 x ∷ filed 266 269 rx true 0 1 ∷ []))
    ∷ kernel_step 0 (Protect 1060864 4096 none) (Ok (Returned 0)) (Some (plain 258 259 rwx ∷ plain 259 260 none ∷ plain 263 266 x ∷ filed 266 269 rx true 0 1 ∷ []))
    ∷ kernel_step 0 (Protect 1060864 12288 rwx) (Err 12) (Some (plain 258 260 rwx ∷ plain 263 266 x ∷ filed 266 269 rx true 0 1 ∷ []))
    ∷ kernel_step 0 (Remap 1089536 12288 12288 3 1064960) (Ok (Returned 1064960)) (Some (plain 258 260 rwx ∷ filed 260 263 rx true 0 1 ∷ plain 263 266 x ∷ []))
    ∷ kernel_step 0 (Touch 264 Read) (Ok (Signal PkuErr)) None
    ∷ kernel_step 0 (Touch 261 Write) (Ok (Signal AccErr)) None
    ∷ kernel_step 0 (Protect 1064960 12288 rx) (Ok (Returned 0)) (Some (plain 258 260 rwx ∷ filed 260 263 rx true 0 1 ∷ plain 263 266 x ∷ []))
    ∷ kernel_step 0 (Touch 263 Read) (Ok (Signal PkuErr)) None
    ∷ kernel_step 0 (Protect 1081344 8192 r) (Ok (Returned 0)) (Some (plain 258 260 rwx ∷ filed 260 263 rx true 0 1 ∷ plain 263 264 x ∷ plain 264 266 r ∷ []))
    ∷ kernel_step 0 (Touch 262 Write) (Ok (Signal AccErr)) None
    ∷ kernel_step 0 (Map 1077248 12288 rx 17 (pos 3) 12288) (Ok (Returned 1077248)) (Some (plain 258 260 rwx ∷ filed 260 266 rx true 0 1 ∷ []))
    ∷ kernel_step 0 (Map 1052672 16384 none 50 (negsuc 0) 0) (Ok (Returned 1052672)) (Some (plain 257 261 none ∷ filed 261 266 rx true 4096 1 ∷ []))
    ∷ kernel_step 0 (Seal 1052672 32768 0) (Ok (Returned 0)) (Some (plain 257 261 none ∷ filed 261 265 rx true 4096 1 ∷ filed 265 266 rx true 20480 1 ∷ []))
    ∷ kernel_step 0 (Map 1069056 4096 rwx 49 (negsuc 0) 0) (Err 1) (Some (plain 257 261 none ∷ filed 261 265 rx true 4096 1 ∷ filed 265 266 rx true 20480 1 ∷ []))
    ∷ kernel_step 0 (Seal 1069056 28672 0) (Err 12) (Some (plain 257 261 none ∷ filed 261 265 rx true 4096 1 ∷ filed 265 266 rx true 20480 1 ∷ []))
    ∷ kernel_step 0 (Protect 1052672 4096 rw) (Err 1) (Some (plain 257 261 none ∷ filed 261 265 rx true 4096 1 ∷ filed 265 266 rx true 20480 1 ∷ []))
    ∷ kernel_step 0 (Protect 1085440 4096 none) (Ok (Returned 0)) (Some (plain 257 261 none ∷ filed 261 265 rx true 4096 1 ∷ filed 265 266 none true 20480 1 ∷ []))
    ∷ kernel_step 0 (Touch 265 Read) (Ok (Signal AccErr)) None
    ∷ kernel_step 0 (Map 1048576 4096 rw 50 (negsuc 0) 0) (Ok (Returned 1048576)) (Some (plain 256 257 rw ∷ plain 257 261 none ∷ filed 261 265 rx true 4096 1 ∷ filed 265 266 none true 20480 1 ∷ []))
    ∷ []

-- written_limit_255: the kernel
abbrev pub written_limit_255_on : Kernel
written_limit_255_on = record { rules = linux_6_12; machine = record { lowest_built = 16; memory = 245000; stack = 8388608; has_keys = true; huge_always = true; files_are_huge = false; vsyscall = Xonly }; config = config 4096 140737354133504 7 0 (file_row 3 true true 20000 ∷ []) }

-- written_limit_255: its answers
abbrev pub written_limit_255 : List Step
written_limit_255 =
    kernel_step 0 (Map 1060864 12288 rw 50 (negsuc 0) 0) (Ok (Returned 1060864)) (Some (plain 259 262 rw ∷ []))
    ∷ kernel_step 0 (Map 1060864 8192 rw 50 (negsuc 0) 0) (Ok (Returned 1060864)) (Some (plain 259 262 rw ∷ []))
    ∷ kernel_step 0 (Protect 1052672 4096 rw) (Err 12) (Some (plain 259 262 rw ∷ []))
    ∷ kernel_step 0 (Protect 1060864 4096 rw) (Ok (Returned 0)) (Some (plain 259 262 rw ∷ []))
    ∷ kernel_step 0 (Touch 260 Write) (Ok (Serves 259 262 rw false 0)) None
    ∷ kernel_step 0 (Remap 1060864 12288 12288 3 1642496) (Ok (Returned 1642496)) (Some (plain 401 404 rw ∷ []))
    ∷ kernel_step 0 (Protect 1642496 12288 rw) (Ok (Returned 0)) (Some (plain 401 404 rw ∷ []))
    ∷ kernel_step 0 (Touch 402 Write) (Ok (Serves 401 404 rw false 0)) None
    ∷ kernel_step 0 (Remap 1642496 12288 12288 3 1060864) (Ok (Returned 1060864)) (Some (plain 259 262 rw ∷ []))
    ∷ kernel_step 0 (Protect 1060864 28672 rw) (Err 12) (Some (plain 259 262 rw ∷ []))
    ∷ kernel_step 0 (Map 1056768 34359758848 rw 50 (negsuc 0) 0) (Err 12) (Some (plain 259 262 rw ∷ []))
    ∷ kernel_step 0 (Touch 259 Write) (Ok (Serves 259 262 rw false 0)) None
    ∷ kernel_step 0 (Protect 1056768 16384 rw) (Err 12) (Some (plain 259 262 rw ∷ []))
    ∷ kernel_step 0 (Map 1052672 17179869184 rw 49 (negsuc 0) 0) (Err 12) (Some ([]))
    ∷ kernel_step 0 (Map 1056768 12288 rw 50 (negsuc 0) 0) (Ok (Returned 1056768)) (Some (plain 258 261 rw ∷ []))
    ∷ kernel_step 0 (Protect 1064960 12288 rw) (Err 12) (Some (plain 258 261 rw ∷ []))
    ∷ kernel_step 0 (Map 1060864 16384 rw 131122 (negsuc 0) 0) (Ok (Returned 1060864)) (Some (plain 258 259 rw ∷ plain 259 263 rw ∷ []))
    ∷ kernel_step 0 (Protect 1056768 4096 rw) (Ok (Returned 0)) (Some (plain 258 259 rw ∷ plain 259 263 rw ∷ []))
    ∷ kernel_step 0 (Touch 260 Write) (Ok (Serves 259 263 rw false 0)) None
    ∷ kernel_step 0 (Touch 261 Read) (Ok (Serves 259 263 rw false 0)) None
    ∷ kernel_step 0 (Protect 1056768 4096 rw) (Ok (Returned 0)) (Some (plain 258 259 rw ∷ plain 259 263 rw ∷ []))
    ∷ kernel_step 0 (Map 1060864 8192 rw 50 (negsuc 0) 0) (Ok (Returned 1060864)) (Some (plain 258 261 rw ∷ plain 261 263 rw ∷ []))
    ∷ kernel_step 0 (Remap 1048576 16384 16384 3 1056768) (Err 14) (Some (plain 258 261 rw ∷ plain 261 263 rw ∷ []))
    ∷ kernel_step 0 (Touch 259 Write) (Ok (Serves 258 261 rw false 0)) None
    ∷ kernel_step 0 (Protect 1052672 4096 rw) (Err 12) (Some (plain 258 261 rw ∷ plain 261 263 rw ∷ []))
    ∷ kernel_step 0 (Touch 260 Write) (Ok (Serves 258 261 rw false 0)) None
    ∷ kernel_step 0 (Touch 258 Write) (Ok (Serves 258 261 rw false 0)) None
    ∷ kernel_step 0 (Touch 259 Write) (Ok (Serves 258 261 rw false 0)) None
    ∷ kernel_step 0 (Touch 262 Read) (Ok (Serves 261 263 rw false 0)) None
    ∷ kernel_step 0 (Remap 1064960 12288 12288 3 1576960) (Err 12) (Some (plain 258 261 rw ∷ plain 261 263 rw ∷ []))
    ∷ []

-- hard_limit_309: the kernel
abbrev pub hard_limit_309_on : Kernel
hard_limit_309_on = record { rules = linux_6_12; machine = record { lowest_built = 16; memory = 245000; stack = 8388608; has_keys = true; huge_always = true; files_are_huge = false; vsyscall = Xonly }; config = config 4096 140737354133504 4 0 (file_row 3 true true 90000 ∷ file_row 4 true false 0 ∷ []) }

-- hard_limit_309: its answers
abbrev pub hard_limit_309 : List Step
hard_limit_309 =
    kernel_step 0 (Map 1056768 4096 rw 50 (negsuc 0) 0) (Ok (Returned 1056768)) (Some (plain 258 259 rw ∷ []))
    ∷ kernel_step 0 (Map 0 12288 x 32770 (pos 3) 0) (Ok (Returned 140737354121216)) (Some (plain 258 259 rw ∷ filed 34359705596 34359705599 x false 0 1 ∷ []))
    ∷ kernel_step 0 (Touch 258 Write) (Ok (Serves 258 259 rw false 0)) None
    ∷ kernel_step 0 (Map 140737354133504 8192 x 18 (pos 3) 12288) (Ok (Returned 140737354133504)) (Some (plain 258 259 rw ∷ filed 34359705596 34359705601 x false 0 1 ∷ []))
    ∷ kernel_step 0 (Remap 1056768 4096 4096 3 1052672) (Err 12) (Some (plain 258 259 rw ∷ filed 34359705596 34359705601 x false 0 1 ∷ []))
    ∷ kernel_step 0 (Touch 258 Write) (Ok (Serves 258 259 rw false 0)) None
    ∷ kernel_step 0 (Touch 258 Write) (Ok (Serves 258 259 rw false 0)) None
    ∷ kernel_step 0 (Remap 1056768 4096 4096 1 0) (Ok (Returned 1056768)) (Some (plain 258 259 rw ∷ filed 34359705596 34359705601 x false 0 1 ∷ []))
    ∷ kernel_step 0 (Map 1069056 12288 rw 1064994 (negsuc 0) 0) (Ok (Returned 1069056)) (Some (plain 258 259 rw ∷ plain 261 264 rw ∷ filed 34359705596 34359705601 x false 0 1 ∷ []))
    ∷ kernel_step 0 (Fork 1) (Ok (Returned 0)) None
    ∷ kernel_step 1 (Protect 1056768 24576 rx) (Err 12) (Some (plain 258 259 rx ∷ plain 261 264 rw ∷ filed 34359705596 34359705601 x false 0 1 ∷ []))
    ∷ kernel_step 0 (Map 0 2101248 w 258 (pos 4) 0) (Err 22) (Some (plain 258 259 rw ∷ plain 261 264 rw ∷ filed 34359705596 34359705601 x false 0 1 ∷ []))
    ∷ kernel_step 0 (Touch 264 Write) (Ok (Signal MapErr)) None
    ∷ kernel_step 1 (Touch 263 Read) (Ok (Serves 261 264 rw false 0)) None
    ∷ kernel_step 1 (Touch 258 Write) (Ok (Signal AccErr)) None
    ∷ kernel_step 1 (Protect 1056768 4096 rw) (Ok (Returned 0)) (Some (plain 258 259 rw ∷ plain 261 264 rw ∷ filed 34359705596 34359705601 x false 0 1 ∷ []))
    ∷ kernel_step 1 (Touch 263 Write) (Ok (Serves 261 264 rw false 0)) None
    ∷ kernel_step 0 (Protect 1105920 4096 x) (Err 12) (Some (plain 258 259 rw ∷ plain 261 264 rw ∷ filed 34359705596 34359705601 x false 0 1 ∷ []))
    ∷ kernel_step 1 (Touch 265 Write) (Ok (Signal MapErr)) None
    ∷ kernel_step 0 (Unmap 1056768 4096) (Ok (Returned 0)) (Some (plain 261 264 rw ∷ filed 34359705596 34359705601 x false 0 1 ∷ []))
    ∷ kernel_step 1 (Touch 258 Write) (Ok (Serves 258 259 rw false 0)) None
    ∷ kernel_step 0 (Protect 1073152 8192 r) (Ok (Returned 0)) (Some (plain 261 262 rw ∷ plain 262 264 r ∷ filed 34359705596 34359705601 x false 0 1 ∷ []))
    ∷ kernel_step 0 (Remap 1073152 8192 20480 1 0) (Ok (Returned 1073152)) (Some (plain 261 262 rw ∷ plain 262 267 r ∷ filed 34359705596 34359705601 x false 0 1 ∷ []))
    ∷ kernel_step 1 (Protect 1056768 4096 rw) (Ok (Returned 0)) (Some (plain 258 259 rw ∷ plain 261 264 rw ∷ filed 34359705596 34359705601 x false 0 1 ∷ []))
    ∷ kernel_step 0 (Remap 1069056 4096 4096 5 0) (Err 12) (Some (plain 261 262 rw ∷ plain 262 267 r ∷ filed 34359705596 34359705601 x false 0 1 ∷ []))
    ∷ kernel_step 0 (Touch 267 Exec) (Ok (Signal MapErr)) None
    ∷ kernel_step 0 (Touch 266 Write) (Ok (Signal AccErr)) None
    ∷ kernel_step 0 (Map 0 68719476736 rw 16418 (negsuc 0) 0) (Ok (Returned 140668632563712)) (Some (plain 261 262 rw ∷ plain 262 267 r ∷ plain 34342927872 34359705088 rw ∷ filed 34359705596 34359705601 x false 0 1 ∷ []))
    ∷ kernel_step 1 (Map 140737354104832 16384 r 50 (negsuc 0) 0) (Ok (Returned 140737354104832)) (Some (plain 258 259 rw ∷ plain 261 264 rw ∷ plain 34359705592 34359705596 r ∷ filed 34359705596 34359705601 x false 0 1 ∷ []))
    ∷ kernel_step 1 (Map 1085440 3145728 rw 34 (negsuc 0) 0) (Ok (Returned 1085440)) (Some (plain 258 259 rw ∷ plain 261 264 rw ∷ plain 265 1033 rw ∷ plain 34359705592 34359705596 r ∷ filed 34359705596 34359705601 x false 0 1 ∷ []))
    ∷ []

-- hard_328: the kernel
abbrev pub hard_328_on : Kernel
hard_328_on = record { rules = linux_6_12; machine = record { lowest_built = 16; memory = 245000; stack = 8388608; has_keys = true; huge_always = true; files_are_huge = false; vsyscall = Xonly }; config = config 4096 140737354133504 65530 1064960 (file_row 3 true false 90000 ∷ []) }

-- hard_328: its answers
abbrev pub hard_328 : List Step
hard_328 =
    kernel_step 0 (Map 1056768 16384 r 50 (negsuc 0) 0) (Ok (Returned 1056768)) (Some (heap 258 262 r ∷ []))
    ∷ kernel_step 0 (Map 1073152 16384 r 50 (negsuc 0) 0) (Ok (Returned 1073152)) (Some (heap 258 266 r ∷ []))
    ∷ kernel_step 0 (Break 1056768) (Ok (Returned 1064960)) (Some (heap 258 266 r ∷ []))
    ∷ kernel_step 0 (Touch 267 Write) (Ok (Signal MapErr)) None
    ∷ kernel_step 0 (Touch 265 Write) (Ok (Signal AccErr)) None
    ∷ kernel_step 0 (Touch 260 Exec) (Ok (Signal AccErr)) None
    ∷ kernel_step 0 (Map 1089536 12288 rw 49 (negsuc 0) 0) (Ok (Returned 1089536)) (Some (heap 258 266 r ∷ filed 266 269 rw true 0 2 ∷ []))
    ∷ kernel_step 0 (Touch 258 Write) (Ok (Signal AccErr)) None
    ∷ kernel_step 0 (Protect 1056768 4096 rw) (Ok (Returned 0)) (Some (plain 258 259 rw ∷ heap 259 266 r ∷ filed 266 269 rw true 0 2 ∷ []))
    ∷ kernel_step 0 (Touch 258 Exec) (Ok (Signal AccErr)) None
    ∷ kernel_step 0 (Protect 1089536 12288 rw) (Ok (Returned 0)) (Some (plain 258 259 rw ∷ heap 259 266 r ∷ filed 266 269 rw true 0 2 ∷ []))
    ∷ kernel_step 0 (Protect 1089536 12288 rw) (Ok (Returned 0)) (Some (plain 258 259 rw ∷ heap 259 266 r ∷ filed 266 269 rw true 0 2 ∷ []))
    ∷ kernel_step 0 (Touch 262 Write) (Ok (Signal AccErr)) None
    ∷ kernel_step 0 (Break 1073144) (Ok (Returned 1064960)) (Some (plain 258 259 rw ∷ heap 259 266 r ∷ filed 266 269 rw true 0 2 ∷ []))
    ∷ kernel_step 0 (Remap 1073152 20480 32768 0 0) (Err 14) (Some (plain 258 259 rw ∷ heap 259 266 r ∷ filed 266 269 rw true 0 2 ∷ []))
    ∷ kernel_step 0 (Protect 1056768 4096 rw) (Ok (Returned 0)) (Some (plain 258 259 rw ∷ heap 259 266 r ∷ filed 266 269 rw true 0 2 ∷ []))
    ∷ kernel_step 0 (Map 1060864 4096 r 49 (negsuc 0) 0) (Ok (Returned 1060864)) (Some (plain 258 259 rw ∷ filed 259 260 r true 0 3 ∷ plain 260 266 r ∷ filed 266 269 rw true 0 2 ∷ []))
    ∷ kernel_step 0 (Touch 261 Write) (Ok (Signal AccErr)) None
    ∷ kernel_step 0 (Map 1089536 4096 rw 49 (negsuc 0) 0) (Ok (Returned 1089536)) (Some (plain 258 259 rw ∷ filed 259 260 r true 0 3 ∷ plain 260 266 r ∷ filed 266 267 rw true 0 4 ∷ filed 267 269 rw true 4096 2 ∷ []))
    ∷ kernel_step 0 (Map 1056768 12288 r 50 (negsuc 0) 0) (Ok (Returned 1056768)) (Some (heap 258 266 r ∷ filed 266 267 rw true 0 4 ∷ filed 267 269 rw true 4096 2 ∷ []))
    ∷ kernel_step 0 (Unmap 1056768 36864) (Ok (Returned 0)) (Some (filed 267 269 rw true 4096 2 ∷ []))
    ∷ kernel_step 0 (Remap 1093632 8192 20480 0 0) (Ok (Returned 1093632)) (Some (filed 267 272 rw true 4096 2 ∷ []))
    ∷ kernel_step 0 (Map 1126400 8192 rw 50 (negsuc 0) 0) (Ok (Returned 1126400)) (Some (filed 267 272 rw true 4096 2 ∷ plain 275 277 rw ∷ []))
    ∷ kernel_step 0 (Touch 267 Exec) (Ok (Signal AccErr)) None
    ∷ kernel_step 0 (Map 0 8192 rw 34 (negsuc 0) 0) (Ok (Returned 140737354125312)) (Some (filed 267 272 rw true 4096 2 ∷ plain 275 277 rw ∷ plain 34359705597 34359705599 rw ∷ []))
    ∷ kernel_step 0 (Break 1081344) (Ok (Returned 1081344)) (Some (heap 260 264 rw ∷ filed 267 272 rw true 4096 2 ∷ plain 275 277 rw ∷ plain 34359705597 34359705599 rw ∷ []))
    ∷ kernel_step 0 (Touch 270 Exec) (Ok (Signal BusErr)) None
    ∷ kernel_step 0 (Protect 1077248 20480 r) (Err 12) (Some (heap 260 263 rw ∷ heap 263 264 r ∷ filed 267 272 rw true 4096 2 ∷ plain 275 277 rw ∷ plain 34359705597 34359705599 rw ∷ []))
    ∷ kernel_step 0 (Touch 275 Write) (Ok (Serves 275 277 rw false 0)) None
    ∷ kernel_step 0 (Map 0 4096 rw 33 (negsuc 0) 0) (Ok (Returned 140737354121216)) (Some (heap 260 263 rw ∷ heap 263 264 r ∷ filed 267 272 rw true 4096 2 ∷ plain 275 277 rw ∷ filed 34359705596 34359705597 rw true 0 5 ∷ plain 34359705597 34359705599 rw ∷ []))
    ∷ []

-- written_428: the kernel
abbrev pub written_428_on : Kernel
written_428_on = record { rules = linux_6_12; machine = record { lowest_built = 16; memory = 245000; stack = 8388608; has_keys = true; huge_always = true; files_are_huge = false; vsyscall = Xonly }; config = config 4096 140737354133504 65530 0 (file_row 3 true false 0 ∷ file_row 4 true true 90000 ∷ file_row 5 false true 20000 ∷ []) }

-- written_428: its answers
abbrev pub written_428 : List Step
written_428 =
    kernel_step 0 (Map 1048576 12288 rwx 50 (negsuc 0) 0) (Ok (Returned 1048576)) (Some (plain 256 259 rwx ∷ []))
    ∷ kernel_step 0 (Map 1073152 16384 rwx 50 (negsuc 0) 0) (Ok (Returned 1073152)) (Some (plain 256 259 rwx ∷ plain 262 266 rwx ∷ []))
    ∷ kernel_step 0 (Touch 257 Write) (Ok (Serves 256 259 rwx false 0)) None
    ∷ kernel_step 0 (Protect 1073152 4096 rw) (Ok (Returned 0)) (Some (plain 256 259 rwx ∷ plain 262 263 rw ∷ plain 263 266 rwx ∷ []))
    ∷ kernel_step 0 (Map 1048576 8192 rw 50 (negsuc 0) 0) (Ok (Returned 1048576)) (Some (plain 256 258 rw ∷ plain 258 259 rwx ∷ plain 262 263 rw ∷ plain 263 266 rwx ∷ []))
    ∷ kernel_step 0 (Protect 1056768 4096 rw) (Ok (Returned 0)) (Some (plain 256 258 rw ∷ plain 258 259 rw ∷ plain 262 263 rw ∷ plain 263 266 rwx ∷ []))
    ∷ kernel_step 0 (Map 1052672 4096 rw 50 (negsuc 0) 0) (Ok (Returned 1052672)) (Some (plain 256 259 rw ∷ plain 262 263 rw ∷ plain 263 266 rwx ∷ []))
    ∷ kernel_step 0 (Touch 257 Write) (Ok (Serves 256 259 rw false 0)) None
    ∷ kernel_step 0 (Touch 264 Write) (Ok (Serves 263 266 rwx false 0)) None
    ∷ kernel_step 0 (Protect 1073152 4096 rw) (Ok (Returned 0)) (Some (plain 256 259 rw ∷ plain 262 263 rw ∷ plain 263 266 rwx ∷ []))
    ∷ kernel_step 0 (Protect 1077248 16384 rw) (Err 12) (Some (plain 256 259 rw ∷ plain 262 263 rw ∷ plain 263 266 rw ∷ []))
    ∷ kernel_step 0 (Touch 256 Write) (Ok (Serves 256 259 rw false 0)) None
    ∷ kernel_step 0 (Protect 1048576 28672 rw) (Err 12) (Some (plain 256 259 rw ∷ plain 262 263 rw ∷ plain 263 266 rw ∷ []))
    ∷ kernel_step 0 (Touch 265 Write) (Ok (Serves 263 266 rw false 0)) None
    ∷ kernel_step 0 (Protect 1073152 4096 rw) (Ok (Returned 0)) (Some (plain 256 259 rw ∷ plain 262 263 rw ∷ plain 263 266 rw ∷ []))
    ∷ kernel_step 0 (Protect 1052672 12288 r) (Err 12) (Some (plain 256 257 rw ∷ plain 257 259 r ∷ plain 262 263 rw ∷ plain 263 266 rw ∷ []))
    ∷ kernel_step 0 (Protect 1052672 4096 rw) (Ok (Returned 0)) (Some (plain 256 258 rw ∷ plain 258 259 r ∷ plain 262 263 rw ∷ plain 263 266 rw ∷ []))
    ∷ kernel_step 0 (Touch 258 Write) (Ok (Signal AccErr)) None
    ∷ kernel_step 0 (Touch 258 Write) (Ok (Signal AccErr)) None
    ∷ kernel_step 0 (Map 1056768 12288 rwx 50 (negsuc 0) 0) (Ok (Returned 1056768)) (Some (plain 256 258 rw ∷ plain 258 261 rwx ∷ plain 262 263 rw ∷ plain 263 266 rw ∷ []))
    ∷ kernel_step 0 (Protect 1056768 8192 rwx) (Ok (Returned 0)) (Some (plain 256 258 rw ∷ plain 258 261 rwx ∷ plain 262 263 rw ∷ plain 263 266 rw ∷ []))
    ∷ kernel_step 0 (Touch 260 Read) (Ok (Serves 258 261 rwx false 0)) None
    ∷ kernel_step 0 (Fork 1) (Ok (Returned 0)) None
    ∷ kernel_step 0 (Map 1077248 4096 rwx 50 (negsuc 0) 0) (Ok (Returned 1077248)) (Some (plain 256 258 rw ∷ plain 258 261 rwx ∷ plain 262 263 rw ∷ plain 263 264 rwx ∷ plain 264 266 rw ∷ []))
    ∷ kernel_step 1 (Touch 258 Write) (Ok (Serves 258 261 rwx false 0)) None
    ∷ kernel_step 0 (Remap 1060864 12288 12288 3 1642496) (Err 14) (Some (plain 256 258 rw ∷ plain 258 261 rwx ∷ plain 262 263 rw ∷ plain 263 264 rwx ∷ plain 264 266 rw ∷ []))
    ∷ kernel_step 0 (Touch 265 Read) (Ok (Serves 264 266 rw false 0)) None
    ∷ kernel_step 1 (Protect 1056768 12288 rw) (Ok (Returned 0)) (Some (plain 256 258 rw ∷ plain 258 261 rw ∷ plain 262 263 rw ∷ plain 263 266 rw ∷ []))
    ∷ kernel_step 1 (Map 1048576 8192 r 50 (negsuc 0) 0) (Ok (Returned 1048576)) (Some (plain 256 258 r ∷ plain 258 261 rw ∷ plain 262 263 rw ∷ plain 263 266 rw ∷ []))
    ∷ kernel_step 0 (Map 1048576 4096 rw 50 (negsuc 0) 0) (Ok (Returned 1048576)) (Some (plain 256 258 rw ∷ plain 258 261 rwx ∷ plain 262 263 rw ∷ plain 263 264 rwx ∷ plain 264 266 rw ∷ []))
    ∷ []

-- written_529: the kernel
abbrev pub written_529_on : Kernel
written_529_on = record { rules = linux_6_12; machine = record { lowest_built = 16; memory = 245000; stack = 8388608; has_keys = true; huge_always = true; files_are_huge = false; vsyscall = Xonly }; config = config 4096 140737354133504 65530 0 (file_row 3 true false 90000 ∷ file_row 4 true false 90000 ∷ file_row 5 true true 0 ∷ []) }

-- written_529: its answers
abbrev pub written_529 : List Step
written_529 =
    kernel_step 0 (Map 1048576 8192 rw 50 (negsuc 0) 0) (Ok (Returned 1048576)) (Some (plain 256 258 rw ∷ []))
    ∷ kernel_step 0 (Map 1048576 4096 rwx 50 (negsuc 0) 0) (Ok (Returned 1048576)) (Some (plain 256 257 rwx ∷ plain 257 258 rw ∷ []))
    ∷ kernel_step 0 (Protect 1048576 8192 r) (Ok (Returned 0)) (Some (plain 256 258 r ∷ []))
    ∷ kernel_step 0 (Map 1060864 12288 rw 50 (negsuc 0) 0) (Ok (Returned 1060864)) (Some (plain 256 258 r ∷ plain 259 262 rw ∷ []))
    ∷ kernel_step 0 (Protect 1048576 4096 rwx) (Ok (Returned 0)) (Some (plain 256 257 rwx ∷ plain 257 258 r ∷ plain 259 262 rw ∷ []))
    ∷ kernel_step 0 (Touch 259 Write) (Ok (Serves 259 262 rw false 0)) None
    ∷ kernel_step 0 (Remap 1048576 4096 12288 3 1048576) (Err 22) (Some (plain 256 257 rwx ∷ plain 257 258 r ∷ plain 259 262 rw ∷ []))
    ∷ kernel_step 0 (Remap 1064960 16384 16384 3 1605632) (Err 14) (Some (plain 256 257 rwx ∷ plain 257 258 r ∷ plain 259 262 rw ∷ []))
    ∷ kernel_step 0 (Touch 256 Write) (Ok (Serves 256 257 rwx false 0)) None
    ∷ kernel_step 0 (Touch 260 Read) (Ok (Serves 259 262 rw false 0)) None
    ∷ kernel_step 0 (Protect 1052672 4096 rwx) (Ok (Returned 0)) (Some (plain 256 258 rwx ∷ plain 259 262 rw ∷ []))
    ∷ kernel_step 0 (Protect 1048576 8192 rw) (Ok (Returned 0)) (Some (plain 256 258 rw ∷ plain 259 262 rw ∷ []))
    ∷ kernel_step 0 (Protect 1060864 8192 rw) (Ok (Returned 0)) (Some (plain 256 258 rw ∷ plain 259 262 rw ∷ []))
    ∷ kernel_step 0 (Protect 1060864 12288 rw) (Ok (Returned 0)) (Some (plain 256 258 rw ∷ plain 259 262 rw ∷ []))
    ∷ kernel_step 0 (Map 1048576 16384 rw 50 (negsuc 0) 0) (Ok (Returned 1048576)) (Some (plain 256 262 rw ∷ []))
    ∷ kernel_step 0 (Map 1048576 16384 rwx 50 (negsuc 0) 0) (Ok (Returned 1048576)) (Some (plain 256 260 rwx ∷ plain 260 262 rw ∷ []))
    ∷ kernel_step 0 (Fork 1) (Ok (Returned 0)) None
    ∷ kernel_step 0 (Map 1056768 4096 r 50 (negsuc 0) 0) (Ok (Returned 1056768)) (Some (plain 256 258 rwx ∷ plain 258 259 r ∷ plain 259 260 rwx ∷ plain 260 262 rw ∷ []))
    ∷ kernel_step 0 (Touch 260 Write) (Ok (Serves 260 262 rw false 0)) None
    ∷ kernel_step 1 (Remap 1064960 4096 4096 3 1609728) (Ok (Returned 1609728)) (Some (plain 256 260 rwx ∷ plain 261 262 rw ∷ plain 393 394 rw ∷ []))
    ∷ kernel_step 0 (Touch 259 Write) (Ok (Serves 259 260 rwx false 0)) None
    ∷ kernel_step 0 (Touch 258 Write) (Ok (Signal AccErr)) None
    ∷ kernel_step 0 (Remap 1605632 16384 16384 3 1064960) (Err 14) (Some (plain 256 258 rwx ∷ plain 258 259 r ∷ plain 259 260 rwx ∷ plain 260 262 rw ∷ []))
    ∷ kernel_step 1 (Touch 258 Write) (Ok (Serves 256 260 rwx false 0)) None
    ∷ kernel_step 1 (Map 1056768 12288 rwx 50 (negsuc 0) 0) (Ok (Returned 1056768)) (Some (plain 256 261 rwx ∷ plain 261 262 rw ∷ plain 393 394 rw ∷ []))
    ∷ kernel_step 0 (Protect 1052672 12288 rw) (Ok (Returned 0)) (Some (plain 256 257 rwx ∷ plain 257 259 rw ∷ plain 259 262 rw ∷ []))
    ∷ kernel_step 0 (Touch 258 Write) (Ok (Serves 257 259 rw false 0)) None
    ∷ kernel_step 1 (Touch 261 Read) (Ok (Serves 261 262 rw false 0)) None
    ∷ kernel_step 1 (Map 1064960 16384 rwx 50 (negsuc 0) 0) (Ok (Returned 1064960)) (Some (plain 256 264 rwx ∷ plain 393 394 rw ∷ []))
    ∷ kernel_step 0 (Map 1056768 4096 rw 50 (negsuc 0) 0) (Ok (Returned 1056768)) (Some (plain 256 257 rwx ∷ plain 257 262 rw ∷ []))
    ∷ []

-- hard_611: the kernel
abbrev pub hard_611_on : Kernel
hard_611_on = record { rules = linux_6_12; machine = record { lowest_built = 16; memory = 245000; stack = 8388608; has_keys = true; huge_always = true; files_are_huge = false; vsyscall = Xonly }; config = config 4096 140737354133504 65530 1052672 ([]) }

-- hard_611: its answers
abbrev pub hard_611 : List Step
hard_611 =
    kernel_step 0 (Map 0 4194304 w 34 (negsuc 0) 0) (Ok (Returned 140737347846144)) (Some (plain 34359704064 34359705088 w ∷ []))
    ∷ kernel_step 0 (Map 0 8589934592 rw 34 (negsuc 0) 0) (Err 12) (Some (plain 34359704064 34359705088 w ∷ []))
    ∷ kernel_step 0 (Map 0 2101248 rwx 34 (negsuc 0) 0) (Ok (Returned 140737345744896)) (Some (plain 34359703551 34359704064 rwx ∷ plain 34359704064 34359705088 w ∷ []))
    ∷ kernel_step 0 (Remap 140737345744896 0 2101248 0 0) (Err 22) (Some (plain 34359703551 34359704064 rwx ∷ plain 34359704064 34359705088 w ∷ []))
    ∷ kernel_step 0 (Protect 140737347846144 4194304 x) (Ok (Returned 0)) (Some (plain 34359703551 34359704064 rwx ∷ plain 34359704064 34359705088 x ∷ []))
    ∷ kernel_step 0 (Touch 34359704011 Read) (Ok (Serves 34359703551 34359704064 rwx false 0)) None
    ∷ kernel_step 0 (Protect 140737345789952 2056192 r) (Ok (Returned 0)) (Some (plain 34359703551 34359703562 rwx ∷ plain 34359703562 34359704064 r ∷ plain 34359704064 34359705088 x ∷ []))
    ∷ kernel_step 0 (Remap 140737345744896 45056 45056 7 1101824) (Ok (Returned 1101824)) (Some (plain 269 280 rwx ∷ plain 34359703551 34359703562 rwx ∷ plain 34359703562 34359704064 r ∷ plain 34359704064 34359705088 x ∷ []))
    ∷ kernel_step 0 (Break 1064960) (Ok (Returned 1064960)) (Some (heap 257 260 rw ∷ plain 269 280 rwx ∷ plain 34359703551 34359703562 rwx ∷ plain 34359703562 34359704064 r ∷ plain 34359704064 34359705088 x ∷ []))
    ∷ kernel_step 0 (Map 0 2093056 rw 34 (negsuc 0) 0) (Ok (Returned 140737352040448)) (Some (heap 257 260 rw ∷ plain 269 280 rwx ∷ plain 34359703551 34359703562 rwx ∷ plain 34359703562 34359704064 r ∷ plain 34359704064 34359705088 x ∷ plain 34359705088 34359705599 rw ∷ []))
    ∷ kernel_step 0 (Remap 1064960 16384 8192 1 0) (Err 14) (Some (heap 257 260 rw ∷ plain 269 280 rwx ∷ plain 34359703551 34359703562 rwx ∷ plain 34359703562 34359704064 r ∷ plain 34359704064 34359705088 x ∷ plain 34359705088 34359705599 rw ∷ []))
    ∷ kernel_step 0 (Break 1056776) (Ok (Returned 1056776)) (Some (heap 257 259 rw ∷ plain 269 280 rwx ∷ plain 34359703551 34359703562 rwx ∷ plain 34359703562 34359704064 r ∷ plain 34359704064 34359705088 x ∷ plain 34359705088 34359705599 rw ∷ []))
    ∷ kernel_step 0 (Protect 1110016 20480 x) (Ok (Returned 0)) (Some (heap 257 259 rw ∷ plain 269 271 rwx ∷ plain 271 276 x ∷ plain 276 280 rwx ∷ plain 34359703551 34359703562 rwx ∷ plain 34359703562 34359704064 r ∷ plain 34359704064 34359705088 x ∷ plain 34359705088 34359705599 rw ∷ []))
    ∷ kernel_step 0 (Remap 1101824 4096 4096 3 1105920) (Ok (Returned 1105920)) (Some (heap 257 259 rw ∷ plain 270 271 rwx ∷ plain 271 276 x ∷ plain 276 280 rwx ∷ plain 34359703551 34359703562 rwx ∷ plain 34359703562 34359704064 r ∷ plain 34359704064 34359705088 x ∷ plain 34359705088 34359705599 rw ∷ []))
    ∷ kernel_step 0 (Map 0 4096 none 16418 (negsuc 0) 0) (Ok (Returned 140737345740800)) (Some (heap 257 259 rw ∷ plain 270 271 rwx ∷ plain 271 276 x ∷ plain 276 280 rwx ∷ plain 34359703550 34359703551 none ∷ plain 34359703551 34359703562 rwx ∷ plain 34359703562 34359704064 r ∷ plain 34359704064 34359705088 x ∷ plain 34359705088 34359705599 rw ∷ []))
    ∷ kernel_step 0 (Touch 258 Write) (Ok (Serves 257 259 rw false 0)) None
    ∷ kernel_step 0 (Touch 272 Read) (Ok (Signal PkuErr)) None
    ∷ kernel_step 0 (Protect 1069056 4096 rw) (Err 12) (Some (heap 257 259 rw ∷ plain 270 271 rwx ∷ plain 271 276 x ∷ plain 276 280 rwx ∷ plain 34359703550 34359703551 none ∷ plain 34359703551 34359703562 rwx ∷ plain 34359703562 34359704064 r ∷ plain 34359704064 34359705088 x ∷ plain 34359705088 34359705599 rw ∷ []))
    ∷ kernel_step 0 (Break 1064976) (Ok (Returned 1064976)) (Some (heap 257 261 rw ∷ plain 270 271 rwx ∷ plain 271 276 x ∷ plain 276 280 rwx ∷ plain 34359703550 34359703551 none ∷ plain 34359703551 34359703562 rwx ∷ plain 34359703562 34359704064 r ∷ plain 34359704064 34359705088 x ∷ plain 34359705088 34359705599 rw ∷ []))
    ∷ kernel_step 0 (Map 1089536 4096 rwx 50 (negsuc 0) 0) (Ok (Returned 1089536)) (Some (heap 257 261 rw ∷ plain 266 267 rwx ∷ plain 270 271 rwx ∷ plain 271 276 x ∷ plain 276 280 rwx ∷ plain 34359703550 34359703551 none ∷ plain 34359703551 34359703562 rwx ∷ plain 34359703562 34359704064 r ∷ plain 34359704064 34359705088 x ∷ plain 34359705088 34359705599 rw ∷ []))
    ∷ kernel_step 0 (Remap 1089536 4096 4096 7 1052672) (Ok (Returned 1052672)) (Some (heap 257 258 rwx ∷ heap 258 261 rw ∷ plain 266 267 rwx ∷ plain 270 271 rwx ∷ plain 271 276 x ∷ plain 276 280 rwx ∷ plain 34359703550 34359703551 none ∷ plain 34359703551 34359703562 rwx ∷ plain 34359703562 34359704064 r ∷ plain 34359704064 34359705088 x ∷ plain 34359705088 34359705599 rw ∷ []))
    ∷ kernel_step 0 (Protect 1110016 36864 x) (Ok (Returned 0)) (Some (heap 257 258 rwx ∷ heap 258 261 rw ∷ plain 266 267 rwx ∷ plain 270 271 rwx ∷ plain 271 280 x ∷ plain 34359703550 34359703551 none ∷ plain 34359703551 34359703562 rwx ∷ plain 34359703562 34359704064 r ∷ plain 34359704064 34359705088 x ∷ plain 34359705088 34359705599 rw ∷ []))
    ∷ kernel_step 0 (Protect 1089536 4096 x) (Ok (Returned 0)) (Some (heap 257 258 rwx ∷ heap 258 261 rw ∷ plain 266 267 x ∷ plain 270 271 rwx ∷ plain 271 280 x ∷ plain 34359703550 34359703551 none ∷ plain 34359703551 34359703562 rwx ∷ plain 34359703562 34359704064 r ∷ plain 34359704064 34359705088 x ∷ plain 34359705088 34359705599 rw ∷ []))
    ∷ kernel_step 0 (Remap 1064960 4096 16384 1 0) (Ok (Returned 1064960)) (Some (heap 257 258 rwx ∷ heap 258 264 rw ∷ plain 266 267 x ∷ plain 270 271 rwx ∷ plain 271 280 x ∷ plain 34359703550 34359703551 none ∷ plain 34359703551 34359703562 rwx ∷ plain 34359703562 34359704064 r ∷ plain 34359704064 34359705088 x ∷ plain 34359705088 34359705599 rw ∷ []))
    ∷ kernel_step 0 (Map 140737345732608 8192 w 50 (negsuc 0) 0) (Ok (Returned 140737345732608)) (Some (heap 257 258 rwx ∷ heap 258 264 rw ∷ plain 266 267 x ∷ plain 270 271 rwx ∷ plain 271 280 x ∷ plain 34359703548 34359703550 w ∷ plain 34359703550 34359703551 none ∷ plain 34359703551 34359703562 rwx ∷ plain 34359703562 34359704064 r ∷ plain 34359704064 34359705088 x ∷ plain 34359705088 34359705599 rw ∷ []))
    ∷ kernel_step 0 (Protect 1138688 8192 w) (Ok (Returned 0)) (Some (heap 257 258 rwx ∷ heap 258 264 rw ∷ plain 266 267 x ∷ plain 270 271 rwx ∷ plain 271 278 x ∷ plain 278 280 w ∷ plain 34359703548 34359703550 w ∷ plain 34359703550 34359703551 none ∷ plain 34359703551 34359703562 rwx ∷ plain 34359703562 34359704064 r ∷ plain 34359704064 34359705088 x ∷ plain 34359705088 34359705599 rw ∷ []))
    ∷ kernel_step 0 (Remap 1110016 28672 28672 7 1081344) (Ok (Returned 1081344)) (Some (heap 257 258 rwx ∷ heap 258 264 rw ∷ plain 264 271 x ∷ plain 271 278 x ∷ plain 278 280 w ∷ plain 34359703548 34359703550 w ∷ plain 34359703550 34359703551 none ∷ plain 34359703551 34359703562 rwx ∷ plain 34359703562 34359704064 r ∷ plain 34359704064 34359705088 x ∷ plain 34359705088 34359705599 rw ∷ []))
    ∷ kernel_step 0 (Protect 1052672 4096 rw) (Ok (Returned 0)) (Some (heap 257 264 rw ∷ plain 264 271 x ∷ plain 271 278 x ∷ plain 278 280 w ∷ plain 34359703548 34359703550 w ∷ plain 34359703550 34359703551 none ∷ plain 34359703551 34359703562 rwx ∷ plain 34359703562 34359704064 r ∷ plain 34359704064 34359705088 x ∷ plain 34359705088 34359705599 rw ∷ []))
    ∷ kernel_step 0 (Protect 1110016 45056 rw) (Err 12) (Some (heap 257 264 rw ∷ plain 264 271 x ∷ plain 271 278 rw ∷ plain 278 280 rw ∷ plain 34359703548 34359703550 w ∷ plain 34359703550 34359703551 none ∷ plain 34359703551 34359703562 rwx ∷ plain 34359703562 34359704064 r ∷ plain 34359704064 34359705088 x ∷ plain 34359705088 34359705599 rw ∷ []))
    ∷ kernel_step 0 (Remap 1081344 28672 28672 3 1024000) (Ok (Returned 1024000)) (Some (plain 250 257 x ∷ heap 257 264 rw ∷ plain 271 278 rw ∷ plain 278 280 rw ∷ plain 34359703548 34359703550 w ∷ plain 34359703550 34359703551 none ∷ plain 34359703551 34359703562 rwx ∷ plain 34359703562 34359704064 r ∷ plain 34359704064 34359705088 x ∷ plain 34359705088 34359705599 rw ∷ []))
    ∷ []

-- hard_771: the kernel
abbrev pub hard_771_on : Kernel
hard_771_on = record { rules = linux_6_12; machine = record { lowest_built = 16; memory = 245000; stack = 8388608; has_keys = true; huge_always = true; files_are_huge = false; vsyscall = Xonly }; config = config 4096 140737354133504 65530 0 ([]) }

-- hard_771: its answers
abbrev pub hard_771 : List Step
hard_771 =
    kernel_step 0 (Map 1114112 16384 rwx 50 (negsuc 0) 0) (Ok (Returned 1114112)) (Some (plain 272 276 rwx ∷ []))
    ∷ kernel_step 0 (Map 1130496 16384 none 16434 (negsuc 0) 0) (Ok (Returned 1130496)) (Some (plain 272 276 rwx ∷ plain 276 280 none ∷ []))
    ∷ kernel_step 0 (Map 1052672 16384 rw 50 (negsuc 0) 0) (Ok (Returned 1052672)) (Some (plain 257 261 rw ∷ plain 272 276 rwx ∷ plain 276 280 none ∷ []))
    ∷ kernel_step 0 (Map 1081344 4096 x 306 (negsuc 0) 0) (Ok (Returned 1081344)) (Some (plain 257 261 rw ∷ plain 264 265 x ∷ plain 272 276 rwx ∷ plain 276 280 none ∷ []))
    ∷ kernel_step 0 (Touch 263 Exec) (Ok (Signal MapErr)) None
    ∷ kernel_step 0 (Map 1048576 4096 rw 50 (negsuc 0) 0) (Ok (Returned 1048576)) (Some (plain 256 261 rw ∷ plain 264 265 x ∷ plain 272 276 rwx ∷ plain 276 280 none ∷ []))
    ∷ kernel_step 0 (Touch 259 Exec) (Ok (Signal AccErr)) None
    ∷ kernel_step 0 (Protect 1114112 4096 rw) (Ok (Returned 0)) (Some (plain 256 261 rw ∷ plain 264 265 x ∷ plain 272 273 rw ∷ plain 273 276 rwx ∷ plain 276 280 none ∷ []))
    ∷ kernel_step 0 (Map 1093632 4096 rw 32818 (negsuc 0) 0) (Ok (Returned 1093632)) (Some (plain 256 261 rw ∷ plain 264 265 x ∷ plain 267 268 rw ∷ plain 272 273 rw ∷ plain 273 276 rwx ∷ plain 276 280 none ∷ []))
    ∷ kernel_step 0 (Protect 1130496 4096 none) (Ok (Returned 0)) (Some (plain 256 261 rw ∷ plain 264 265 x ∷ plain 267 268 rw ∷ plain 272 273 rw ∷ plain 273 276 rwx ∷ plain 276 280 none ∷ []))
    ∷ kernel_step 0 (Protect 1138688 4096 rwx) (Ok (Returned 0)) (Some (plain 256 261 rw ∷ plain 264 265 x ∷ plain 267 268 rw ∷ plain 272 273 rw ∷ plain 273 276 rwx ∷ plain 276 278 none ∷ plain 278 279 rwx ∷ plain 279 280 none ∷ []))
    ∷ kernel_step 0 (Touch 276 Write) (Ok (Signal AccErr)) None
    ∷ kernel_step 0 (Touch 275 Write) (Ok (Serves 273 276 rwx false 0)) None
    ∷ kernel_step 0 (Touch 263 Write) (Ok (Signal MapErr)) None
    ∷ kernel_step 0 (Touch 264 Exec) (Ok (Serves 264 265 x false 0)) None
    ∷ kernel_step 0 (Remap 1093632 4096 8192 3 1146880) (Ok (Returned 1146880)) (Some (plain 256 261 rw ∷ plain 264 265 x ∷ plain 272 273 rw ∷ plain 273 276 rwx ∷ plain 276 278 none ∷ plain 278 279 rwx ∷ plain 279 280 none ∷ plain 280 282 rw ∷ []))
    ∷ kernel_step 0 (Touch 204 Write) (Ok (Signal MapErr)) None
    ∷ kernel_step 0 (Map 1069056 12288 rwx 131122 (negsuc 0) 0) (Ok (Returned 1069056)) (Some (plain 256 261 rw ∷ plain 261 264 rwx ∷ plain 264 265 x ∷ plain 272 273 rw ∷ plain 273 276 rwx ∷ plain 276 278 none ∷ plain 278 279 rwx ∷ plain 279 280 none ∷ plain 280 282 rw ∷ []))
    ∷ kernel_step 0 (Protect 1142784 4096 rwx) (Ok (Returned 0)) (Some (plain 256 261 rw ∷ plain 261 264 rwx ∷ plain 264 265 x ∷ plain 272 273 rw ∷ plain 273 276 rwx ∷ plain 276 278 none ∷ plain 278 280 rwx ∷ plain 280 282 rw ∷ []))
    ∷ kernel_step 0 (Remap 1146880 8192 8192 7 1105920) (Ok (Returned 1105920)) (Some (plain 256 261 rw ∷ plain 261 264 rwx ∷ plain 264 265 x ∷ plain 270 272 rw ∷ plain 272 273 rw ∷ plain 273 276 rwx ∷ plain 276 278 none ∷ plain 278 280 rwx ∷ plain 280 282 rw ∷ []))
    ∷ kernel_step 0 (Map 1085440 4096 x 50 (negsuc 0) 0) (Ok (Returned 1085440)) (Some (plain 256 261 rw ∷ plain 261 264 rwx ∷ plain 264 265 x ∷ plain 265 266 x ∷ plain 270 272 rw ∷ plain 272 273 rw ∷ plain 273 276 rwx ∷ plain 276 278 none ∷ plain 278 280 rwx ∷ plain 280 282 rw ∷ []))
    ∷ kernel_step 0 (Remap 1085440 36864 36864 3 1089536) (Err 22) (Some (plain 256 261 rw ∷ plain 261 264 rwx ∷ plain 264 265 x ∷ plain 265 266 x ∷ plain 270 272 rw ∷ plain 272 273 rw ∷ plain 273 276 rwx ∷ plain 276 278 none ∷ plain 278 280 rwx ∷ plain 280 282 rw ∷ []))
    ∷ kernel_step 0 (Map 1122304 16384 rw 50 (negsuc 0) 0) (Ok (Returned 1122304)) (Some (plain 256 261 rw ∷ plain 261 264 rwx ∷ plain 264 265 x ∷ plain 265 266 x ∷ plain 270 272 rw ∷ plain 272 273 rw ∷ plain 273 274 rwx ∷ plain 274 278 rw ∷ plain 278 280 rwx ∷ plain 280 282 rw ∷ []))
    ∷ kernel_step 0 (Map 1114112 4096 r 34 (negsuc 0) 0) (Ok (Returned 140737354129408)) (Some (plain 256 261 rw ∷ plain 261 264 rwx ∷ plain 264 265 x ∷ plain 265 266 x ∷ plain 270 272 rw ∷ plain 272 273 rw ∷ plain 273 274 rwx ∷ plain 274 278 rw ∷ plain 278 280 rwx ∷ plain 280 282 rw ∷ plain 34359705598 34359705599 r ∷ []))
    ∷ kernel_step 0 (Map 1048576 16384 r 50 (negsuc 0) 0) (Ok (Returned 1048576)) (Some (plain 256 260 r ∷ plain 260 261 rw ∷ plain 261 264 rwx ∷ plain 264 265 x ∷ plain 265 266 x ∷ plain 270 272 rw ∷ plain 272 273 rw ∷ plain 273 274 rwx ∷ plain 274 278 rw ∷ plain 278 280 rwx ∷ plain 280 282 rw ∷ plain 34359705598 34359705599 r ∷ []))
    ∷ kernel_step 0 (Map 1134592 12288 w 50 (negsuc 0) 0) (Ok (Returned 1134592)) (Some (plain 256 260 r ∷ plain 260 261 rw ∷ plain 261 264 rwx ∷ plain 264 265 x ∷ plain 265 266 x ∷ plain 270 272 rw ∷ plain 272 273 rw ∷ plain 273 274 rwx ∷ plain 274 277 rw ∷ plain 277 280 w ∷ plain 280 282 rw ∷ plain 34359705598 34359705599 r ∷ []))
    ∷ kernel_step 0 (Remap 1146880 8192 16384 1 0) (Ok (Returned 1146880)) (Some (plain 256 260 r ∷ plain 260 261 rw ∷ plain 261 264 rwx ∷ plain 264 265 x ∷ plain 265 266 x ∷ plain 270 272 rw ∷ plain 272 273 rw ∷ plain 273 274 rwx ∷ plain 274 277 rw ∷ plain 277 280 w ∷ plain 280 284 rw ∷ plain 34359705598 34359705599 r ∷ []))
    ∷ kernel_step 0 (Map 1146880 4096 rw 50 (negsuc 0) 0) (Ok (Returned 1146880)) (Some (plain 256 260 r ∷ plain 260 261 rw ∷ plain 261 264 rwx ∷ plain 264 265 x ∷ plain 265 266 x ∷ plain 270 272 rw ∷ plain 272 273 rw ∷ plain 273 274 rwx ∷ plain 274 277 rw ∷ plain 277 280 w ∷ plain 280 284 rw ∷ plain 34359705598 34359705599 r ∷ []))
    ∷ kernel_step 0 (Protect 1159168 4096 r) (Ok (Returned 0)) (Some (plain 256 260 r ∷ plain 260 261 rw ∷ plain 261 264 rwx ∷ plain 264 265 x ∷ plain 265 266 x ∷ plain 270 272 rw ∷ plain 272 273 rw ∷ plain 273 274 rwx ∷ plain 274 277 rw ∷ plain 277 280 w ∷ plain 280 283 rw ∷ plain 283 284 r ∷ plain 34359705598 34359705599 r ∷ []))
    ∷ kernel_step 0 (Touch 270 Exec) (Ok (Signal AccErr)) (Some (plain 256 260 r ∷ plain 260 261 rw ∷ plain 261 264 rwx ∷ plain 264 265 x ∷ plain 265 266 x ∷ plain 270 272 rw ∷ plain 272 273 rw ∷ plain 273 274 rwx ∷ plain 274 277 rw ∷ plain 277 280 w ∷ plain 280 283 rw ∷ plain 283 284 r ∷ plain 34359705598 34359705599 r ∷ []))
    ∷ []

-- hard_1027: the kernel
abbrev pub hard_1027_on : Kernel
hard_1027_on = record { rules = linux_6_12; machine = record { lowest_built = 16; memory = 245000; stack = 8388608; has_keys = true; huge_always = true; files_are_huge = false; vsyscall = Xonly }; config = config 4096 140737354133504 65530 1069056 (file_row 3 true true 20000 ∷ []) }

-- hard_1027: its answers
abbrev pub hard_1027 : List Step
hard_1027 =
    kernel_step 0 (Map 1077248 16384 rw 306 (negsuc 0) 0) (Ok (Returned 1077248)) (Some (plain 263 267 rw ∷ []))
    ∷ kernel_step 0 (Map 1093632 12288 r 32818 (negsuc 0) 0) (Ok (Returned 1093632)) (Some (plain 263 267 rw ∷ plain 267 270 r ∷ []))
    ∷ kernel_step 0 (Break 1073144) (Ok (Returned 1069056)) (Some (plain 263 267 rw ∷ plain 267 270 r ∷ []))
    ∷ kernel_step 0 (Touch 264 Write) (Ok (Serves 263 267 rw false 0)) None
    ∷ kernel_step 0 (Protect 1077248 4096 rw) (Ok (Returned 0)) (Some (plain 263 267 rw ∷ plain 267 270 r ∷ []))
    ∷ kernel_step 0 (Remap 1093632 12288 24576 1 0) (Ok (Returned 1093632)) (Some (plain 263 267 rw ∷ plain 267 273 r ∷ []))
    ∷ kernel_step 0 (Map 1069056 8192 rw 50 (negsuc 0) 0) (Ok (Returned 1069056)) (Some (plain 261 263 rw ∷ plain 263 267 rw ∷ plain 267 273 r ∷ []))
    ∷ kernel_step 0 (Touch 261 Write) (Ok (Serves 261 263 rw false 0)) None
    ∷ kernel_step 0 (Unmap 1077248 8192) (Ok (Returned 0)) (Some (plain 261 263 rw ∷ plain 265 267 rw ∷ plain 267 273 r ∷ []))
    ∷ kernel_step 0 (Map 0 4096 r 33 (negsuc 0) 0) (Ok (Returned 140737354129408)) (Some (plain 261 263 rw ∷ plain 265 267 rw ∷ plain 267 273 r ∷ filed 34359705598 34359705599 r true 0 2 ∷ []))
    ∷ kernel_step 0 (Map 1048576 16384 rwx 50 (negsuc 0) 0) (Ok (Returned 1048576)) (Some (plain 256 260 rwx ∷ plain 261 263 rw ∷ plain 265 267 rw ∷ plain 267 273 r ∷ filed 34359705598 34359705599 r true 0 2 ∷ []))
    ∷ kernel_step 0 (Touch 256 Read) (Ok (Serves 256 260 rwx false 0)) None
    ∷ kernel_step 0 (Touch 263 Read) (Ok (Signal MapErr)) None
    ∷ kernel_step 0 (Touch 272 Read) (Ok (Serves 267 273 r false 0)) None
    ∷ kernel_step 0 (Seal 1110016 8192 0) (Ok (Returned 0)) (Some (plain 256 260 rwx ∷ plain 261 263 rw ∷ plain 265 267 rw ∷ plain 267 271 r ∷ plain 271 273 r ∷ filed 34359705598 34359705599 r true 0 2 ∷ []))
    ∷ kernel_step 0 (Touch 205 Read) (Ok (Signal MapErr)) None
    ∷ kernel_step 0 (Map 1064960 4096 r 49 (negsuc 0) 0) (Ok (Returned 1064960)) (Some (plain 256 260 rwx ∷ filed 260 261 r true 0 3 ∷ plain 261 263 rw ∷ plain 265 267 rw ∷ plain 267 271 r ∷ plain 271 273 r ∷ filed 34359705598 34359705599 r true 0 2 ∷ []))
    ∷ kernel_step 0 (Touch 272 Write) (Ok (Signal AccErr)) None
    ∷ kernel_step 0 (Map 1048576 12288 r 306 (negsuc 0) 0) (Ok (Returned 1048576)) (Some (plain 256 259 r ∷ plain 259 260 rwx ∷ filed 260 261 r true 0 3 ∷ plain 261 263 rw ∷ plain 265 267 rw ∷ plain 267 271 r ∷ plain 271 273 r ∷ filed 34359705598 34359705599 r true 0 2 ∷ []))
    ∷ kernel_step 0 (Break 1081344) (Ok (Returned 1069056)) (Some (plain 256 259 r ∷ plain 259 260 rwx ∷ filed 260 261 r true 0 3 ∷ plain 261 263 rw ∷ plain 265 267 rw ∷ plain 267 271 r ∷ plain 271 273 r ∷ filed 34359705598 34359705599 r true 0 2 ∷ []))
    ∷ kernel_step 0 (Remap 1097728 12288 12288 7 1085440) (Ok (Returned 1085440)) (Some (plain 256 259 r ∷ plain 259 260 rwx ∷ filed 260 261 r true 0 3 ∷ plain 261 263 rw ∷ plain 265 268 r ∷ plain 268 271 r ∷ plain 271 273 r ∷ filed 34359705598 34359705599 r true 0 2 ∷ []))
    ∷ kernel_step 0 (Protect 1114112 4096 w) (Err 1) (Some (plain 256 259 r ∷ plain 259 260 rwx ∷ filed 260 261 r true 0 3 ∷ plain 261 263 rw ∷ plain 265 268 r ∷ plain 268 271 r ∷ plain 271 273 r ∷ filed 34359705598 34359705599 r true 0 2 ∷ []))
    ∷ kernel_step 0 (Touch 251 Write) (Ok (Signal AccErr)) None
    ∷ kernel_step 0 (Protect 1069056 4096 rw) (Ok (Returned 0)) (Some (plain 251 259 r ∷ plain 259 260 rwx ∷ filed 260 261 r true 0 3 ∷ plain 261 263 rw ∷ plain 265 268 r ∷ plain 268 271 r ∷ plain 271 273 r ∷ filed 34359705598 34359705599 r true 0 2 ∷ []))
    ∷ kernel_step 0 (Map 1069056 8192 rw 32818 (negsuc 0) 0) (Ok (Returned 1069056)) (Some (plain 251 259 r ∷ plain 259 260 rwx ∷ filed 260 261 r true 0 3 ∷ plain 261 263 rw ∷ plain 265 268 r ∷ plain 268 271 r ∷ plain 271 273 r ∷ filed 34359705598 34359705599 r true 0 2 ∷ []))
    ∷ kernel_step 0 (Map 1069056 16384 rw 50 (negsuc 0) 0) (Ok (Returned 1069056)) (Some (plain 251 259 r ∷ plain 259 260 rwx ∷ filed 260 261 r true 0 3 ∷ plain 261 265 rw ∷ plain 265 268 r ∷ plain 268 271 r ∷ plain 271 273 r ∷ filed 34359705598 34359705599 r true 0 2 ∷ []))
    ∷ kernel_step 0 (Map 1114112 4096 rwx 34 (negsuc 0) 0) (Ok (Returned 140737354125312)) (Some (plain 251 259 r ∷ plain 259 260 rwx ∷ filed 260 261 r true 0 3 ∷ plain 261 265 rw ∷ plain 265 268 r ∷ plain 268 271 r ∷ plain 271 273 r ∷ plain 34359705597 34359705598 rwx ∷ filed 34359705598 34359705599 r true 0 2 ∷ []))
    ∷ kernel_step 0 (Map 1060864 8192 none 50 (negsuc 0) 0) (Ok (Returned 1060864)) (Some (plain 251 259 r ∷ plain 259 261 none ∷ plain 261 265 rw ∷ plain 265 268 r ∷ plain 268 271 r ∷ plain 271 273 r ∷ plain 34359705597 34359705598 rwx ∷ filed 34359705598 34359705599 r true 0 2 ∷ []))
    ∷ kernel_step 0 (Remap 1110016 24576 32768 1 0) (Err 1) (Some (plain 251 259 r ∷ plain 259 261 none ∷ plain 261 265 rw ∷ plain 265 268 r ∷ plain 268 271 r ∷ plain 271 273 r ∷ plain 34359705597 34359705598 rwx ∷ filed 34359705598 34359705599 r true 0 2 ∷ []))
    ∷ kernel_step 0 (Unmap 1110016 8192) (Err 1) (Some (plain 251 259 r ∷ plain 259 261 none ∷ plain 261 265 rw ∷ plain 265 268 r ∷ plain 268 271 r ∷ plain 271 273 r ∷ plain 34359705597 34359705598 rwx ∷ filed 34359705598 34359705599 r true 0 2 ∷ []))
    ∷ []

-- hard_1056: the kernel
abbrev pub hard_1056_on : Kernel
hard_1056_on = record { rules = linux_6_12; machine = record { lowest_built = 16; memory = 245000; stack = 8388608; has_keys = true; huge_always = true; files_are_huge = false; vsyscall = Xonly }; config = config 4096 140737354133504 65530 0 ([]) }

-- hard_1056: its answers
abbrev pub hard_1056 : List Step
hard_1056 =
    kernel_step 0 (Map 1081344 16384 r 49 (negsuc 0) 0) (Ok (Returned 1081344)) (Some (filed 264 268 r true 0 1 ∷ []))
    ∷ kernel_step 0 (Map 1093632 4096 r 306 (negsuc 0) 0) (Ok (Returned 1093632)) (Some (filed 264 267 r true 0 1 ∷ plain 267 268 r ∷ []))
    ∷ kernel_step 0 (Map 1069056 12288 x 50 (negsuc 0) 0) (Ok (Returned 1069056)) (Some (plain 261 264 x ∷ filed 264 267 r true 0 1 ∷ plain 267 268 r ∷ []))
    ∷ kernel_step 0 (Map 1077248 16384 rw 49 (negsuc 0) 0) (Ok (Returned 1077248)) (Some (plain 261 263 x ∷ filed 263 267 rw true 0 2 ∷ plain 267 268 r ∷ []))
    ∷ kernel_step 0 (Touch 265 Write) (Ok (Serves 263 267 rw true 2)) None
    ∷ kernel_step 0 (Remap 1069056 8192 4194304 0 0) (Err 12) (Some (plain 261 263 x ∷ filed 263 267 rw true 0 2 ∷ plain 267 268 r ∷ []))
    ∷ kernel_step 0 (Remap 1077248 4096 12288 3 1064960) (Ok (Returned 1064960)) (Some (filed 260 263 rw true 0 2 ∷ filed 264 267 rw true 4096 2 ∷ plain 267 268 r ∷ []))
    ∷ kernel_step 0 (Touch 265 Write) (Ok (Serves 264 267 rw true 2)) None
    ∷ kernel_step 0 (Remap 1093632 4096 4096 3 1101824) (Ok (Returned 1101824)) (Some (filed 260 263 rw true 0 2 ∷ filed 264 267 rw true 4096 2 ∷ plain 269 270 r ∷ []))
    ∷ kernel_step 0 (Touch 259 Write) (Ok (Signal MapErr)) None
    ∷ kernel_step 0 (Protect 1085440 4096 rw) (Ok (Returned 0)) (Some (filed 260 263 rw true 0 2 ∷ filed 264 267 rw true 4096 2 ∷ plain 269 270 r ∷ []))
    ∷ kernel_step 0 (Touch 264 Write) (Ok (Serves 264 267 rw true 1)) None
    ∷ kernel_step 0 (Map 1093632 8192 x 50 (negsuc 0) 0) (Ok (Returned 1093632)) (Some (filed 260 263 rw true 0 2 ∷ filed 264 267 rw true 4096 2 ∷ plain 267 269 x ∷ plain 269 270 r ∷ []))
    ∷ kernel_step 0 (Remap 1101824 4096 4096 7 1105920) (Ok (Returned 1105920)) (Some (filed 260 263 rw true 0 2 ∷ filed 264 267 rw true 4096 2 ∷ plain 267 269 x ∷ plain 269 270 r ∷ plain 270 271 r ∷ []))
    ∷ kernel_step 0 (Touch 268 Write) (Ok (Signal PkuErr)) None
    ∷ kernel_step 0 (Protect 1060864 12288 rw) (Err 12) (Some (filed 260 263 rw true 0 2 ∷ filed 264 267 rw true 4096 2 ∷ plain 267 269 x ∷ plain 269 270 r ∷ plain 270 271 r ∷ []))
    ∷ kernel_step 0 (Remap 1081344 16384 20480 1 0) (Err 14) (Some (filed 260 263 rw true 0 2 ∷ filed 264 267 rw true 4096 2 ∷ plain 267 269 x ∷ plain 269 270 r ∷ plain 270 271 r ∷ []))
    ∷ kernel_step 0 (Protect 1105920 4096 x) (Ok (Returned 0)) (Some (filed 260 263 rw true 0 2 ∷ filed 264 267 rw true 4096 2 ∷ plain 267 269 x ∷ plain 269 270 r ∷ plain 270 271 x ∷ []))
    ∷ kernel_step 0 (Touch 269 Write) (Ok (Signal AccErr)) None
    ∷ kernel_step 0 (Touch 267 Write) (Ok (Signal PkuErr)) None
    ∷ kernel_step 0 (Map 1126400 4096 rwx 50 (negsuc 0) 0) (Ok (Returned 1126400)) (Some (filed 260 263 rw true 0 2 ∷ filed 264 267 rw true 4096 2 ∷ plain 267 269 x ∷ plain 269 270 r ∷ plain 270 271 x ∷ plain 275 276 rwx ∷ []))
    ∷ kernel_step 0 (Touch 267 Write) (Ok (Signal PkuErr)) None
    ∷ kernel_step 0 (Touch 270 Write) (Ok (Signal PkuErr)) None
    ∷ kernel_step 0 (Map 1101824 16384 rw 32818 (negsuc 0) 0) (Ok (Returned 1101824)) (Some (filed 260 263 rw true 0 2 ∷ filed 264 267 rw true 4096 2 ∷ plain 267 269 x ∷ plain 269 273 rw ∷ plain 275 276 rwx ∷ []))
    ∷ kernel_step 0 (Map 0 3145728 rx 34 (negsuc 0) 0) (Ok (Returned 140737350987776)) (Some (filed 260 263 rw true 0 2 ∷ filed 264 267 rw true 4096 2 ∷ plain 267 269 x ∷ plain 269 273 rw ∷ plain 275 276 rwx ∷ plain 34359704831 34359705599 rx ∷ []))
    ∷ kernel_step 0 (Protect 1089536 16384 r) (Ok (Returned 0)) (Some (filed 260 263 rw true 0 2 ∷ filed 264 266 rw true 4096 2 ∷ filed 266 267 r true 12288 2 ∷ plain 267 269 r ∷ plain 269 270 r ∷ plain 270 273 rw ∷ plain 275 276 rwx ∷ plain 34359704831 34359705599 rx ∷ []))
    ∷ kernel_step 0 (Touch 275 Write) (Ok (Serves 275 276 rwx false 0)) None
    ∷ kernel_step 0 (Protect 1064960 36864 rx) (Err 12) (Some (filed 260 263 rx true 0 2 ∷ filed 264 266 rw true 4096 2 ∷ filed 266 267 r true 12288 2 ∷ plain 267 269 r ∷ plain 269 270 r ∷ plain 270 273 rw ∷ plain 275 276 rwx ∷ plain 34359704831 34359705599 rx ∷ []))
    ∷ kernel_step 0 (Unmap 1081344 8192) (Ok (Returned 0)) (Some (filed 260 263 rx true 0 2 ∷ filed 266 267 r true 12288 2 ∷ plain 267 269 r ∷ plain 269 270 r ∷ plain 270 273 rw ∷ plain 275 276 rwx ∷ plain 34359704831 34359705599 rx ∷ []))
    ∷ kernel_step 0 (Map 1089536 8192 rw 50 (negsuc 0) 0) (Ok (Returned 1089536)) (Some (filed 260 263 rx true 0 2 ∷ plain 266 268 rw ∷ plain 268 269 r ∷ plain 269 270 r ∷ plain 270 273 rw ∷ plain 275 276 rwx ∷ plain 34359704831 34359705599 rx ∷ []))
    ∷ []

-- hard_1272: the kernel
abbrev pub hard_1272_on : Kernel
hard_1272_on = record { rules = linux_6_12; machine = record { lowest_built = 16; memory = 245000; stack = 8388608; has_keys = true; huge_always = true; files_are_huge = false; vsyscall = Xonly }; config = config 4096 140737354133504 65530 0 (file_row 3 true true 5000 ∷ []) }

-- hard_1272: its answers
abbrev pub hard_1272 : List Step
hard_1272 =
    kernel_step 0 (Map 1060864 8192 rw 306 (negsuc 0) 0) (Ok (Returned 1060864)) (Some (plain 259 261 rw ∷ []))
    ∷ kernel_step 0 (Map 1105920 4096 w 50 (negsuc 0) 0) (Ok (Returned 1105920)) (Some (plain 259 261 rw ∷ plain 270 271 w ∷ []))
    ∷ kernel_step 0 (Protect 1060864 8192 rw) (Ok (Returned 0)) (Some (plain 259 261 rw ∷ plain 270 271 w ∷ []))
    ∷ kernel_step 0 (Remap 1048576 12288 24576 0 0) (Err 14) (Some (plain 259 261 rw ∷ plain 270 271 w ∷ []))
    ∷ kernel_step 0 (Protect 1105920 4096 r) (Ok (Returned 0)) (Some (plain 259 261 rw ∷ plain 270 271 r ∷ []))
    ∷ kernel_step 0 (Remap 1105920 4096 4096 3 1101824) (Ok (Returned 1101824)) (Some (plain 259 261 rw ∷ plain 269 270 r ∷ []))
    ∷ kernel_step 0 (Map 1048576 12288 x 32818 (negsuc 0) 0) (Ok (Returned 1048576)) (Some (plain 256 259 x ∷ plain 259 261 rw ∷ plain 269 270 r ∷ []))
    ∷ kernel_step 0 (Unmap 1101824 4096) (Ok (Returned 0)) (Some (plain 256 259 x ∷ plain 259 261 rw ∷ []))
    ∷ kernel_step 0 (Protect 1060864 8192 r) (Ok (Returned 0)) (Some (plain 256 259 x ∷ plain 259 261 r ∷ []))
    ∷ kernel_step 0 (Touch 258 Write) (Ok (Signal PkuErr)) None
    ∷ kernel_step 0 (Protect 1060864 8192 x) (Ok (Returned 0)) (Some (plain 256 259 x ∷ plain 259 261 x ∷ []))
    ∷ kernel_step 0 (Touch 258 Exec) (Ok (Serves 256 259 x false 0)) None
    ∷ kernel_step 0 (Map 1036288 12288 r 18 (pos 3) 4096) (Ok (Returned 1036288)) (Some (filed 253 256 r false 4096 1 ∷ plain 256 259 x ∷ plain 259 261 x ∷ []))
    ∷ kernel_step 0 (Protect 1048576 16384 x) (Ok (Returned 0)) (Some (filed 253 256 r false 4096 1 ∷ plain 256 259 x ∷ plain 259 261 x ∷ []))
    ∷ kernel_step 0 (Map 1073152 16384 rw 33074 (negsuc 0) 0) (Ok (Returned 1073152)) (Some (filed 253 256 r false 4096 1 ∷ plain 256 259 x ∷ plain 259 261 x ∷ plain 262 266 rw ∷ []))
    ∷ kernel_step 0 (Map 1069056 12288 r 306 (negsuc 0) 0) (Ok (Returned 1069056)) (Some (filed 253 256 r false 4096 1 ∷ plain 256 259 x ∷ plain 259 261 x ∷ plain 261 264 r ∷ plain 264 266 rw ∷ []))
    ∷ kernel_step 0 (Protect 1081344 8192 rw) (Ok (Returned 0)) (Some (filed 253 256 r false 4096 1 ∷ plain 256 259 x ∷ plain 259 261 x ∷ plain 261 264 r ∷ plain 264 266 rw ∷ []))
    ∷ kernel_step 0 (Remap 1081344 4096 4096 7 1060864) (Ok (Returned 1060864)) (Some (filed 253 256 r false 4096 1 ∷ plain 256 259 x ∷ plain 259 260 rw ∷ plain 260 261 x ∷ plain 261 264 r ∷ plain 264 266 rw ∷ []))
    ∷ kernel_step 0 (Remap 1048576 4096 4096 7 1060864) (Ok (Returned 1060864)) (Some (filed 253 256 r false 4096 1 ∷ plain 256 259 x ∷ plain 259 260 x ∷ plain 260 261 x ∷ plain 261 264 r ∷ plain 264 266 rw ∷ []))
    ∷ kernel_step 0 (Protect 1044480 4096 rw) (Ok (Returned 0)) (Some (filed 253 255 r false 4096 1 ∷ filed 255 256 rw false 12288 1 ∷ plain 256 259 x ∷ plain 259 260 x ∷ plain 260 261 x ∷ plain 261 264 r ∷ plain 264 266 rw ∷ []))
    ∷ kernel_step 0 (Unmap 1069056 8192) (Ok (Returned 0)) (Some (filed 253 255 r false 4096 1 ∷ filed 255 256 rw false 12288 1 ∷ plain 256 259 x ∷ plain 259 260 x ∷ plain 260 261 x ∷ plain 263 264 r ∷ plain 264 266 rw ∷ []))
    ∷ kernel_step 0 (Map 1077248 12288 x 50 (negsuc 0) 0) (Ok (Returned 1077248)) (Some (filed 253 255 r false 4096 1 ∷ filed 255 256 rw false 12288 1 ∷ plain 256 259 x ∷ plain 259 260 x ∷ plain 260 261 x ∷ plain 263 266 x ∷ []))
    ∷ kernel_step 0 (Map 1118208 8192 rw 50 (negsuc 0) 0) (Ok (Returned 1118208)) (Some (filed 253 255 r false 4096 1 ∷ filed 255 256 rw false 12288 1 ∷ plain 256 259 x ∷ plain 259 260 x ∷ plain 260 261 x ∷ plain 263 266 x ∷ plain 273 275 rw ∷ []))
    ∷ kernel_step 0 (Remap 1101824 4096 4096 3 1064960) (Err 14) (Some (filed 253 255 r false 4096 1 ∷ filed 255 256 rw false 12288 1 ∷ plain 256 259 x ∷ plain 259 260 x ∷ plain 260 261 x ∷ plain 263 266 x ∷ plain 273 275 rw ∷ []))
    ∷ kernel_step 0 (Remap 1064960 4096 12288 3 1077248) (Ok (Returned 1077248)) (Some (filed 253 255 r false 4096 1 ∷ filed 255 256 rw false 12288 1 ∷ plain 256 259 x ∷ plain 259 260 x ∷ plain 263 266 x ∷ plain 273 275 rw ∷ []))
    ∷ kernel_step 0 (Protect 1044480 81920 r) (Err 12) (Some (filed 253 255 r false 4096 1 ∷ filed 255 256 r false 12288 1 ∷ plain 256 260 r ∷ plain 263 266 x ∷ plain 273 275 rw ∷ []))
    ∷ kernel_step 0 (Map 0 4096 r 34 (negsuc 0) 0) (Ok (Returned 140737354129408)) (Some (filed 253 255 r false 4096 1 ∷ filed 255 256 r false 12288 1 ∷ plain 256 260 r ∷ plain 263 266 x ∷ plain 273 275 rw ∷ plain 34359705598 34359705599 r ∷ []))
    ∷ kernel_step 0 (Protect 1118208 4096 x) (Ok (Returned 0)) (Some (filed 253 255 r false 4096 1 ∷ filed 255 256 r false 12288 1 ∷ plain 256 260 r ∷ plain 263 266 x ∷ plain 273 274 x ∷ plain 274 275 rw ∷ plain 34359705598 34359705599 r ∷ []))
    ∷ kernel_step 0 (Remap 1044480 0 4096 1 0) (Err 22) (Some (filed 253 255 r false 4096 1 ∷ filed 255 256 r false 12288 1 ∷ plain 256 260 r ∷ plain 263 266 x ∷ plain 273 274 x ∷ plain 274 275 rw ∷ plain 34359705598 34359705599 r ∷ []))
    ∷ kernel_step 0 (Protect 1122304 4096 none) (Ok (Returned 0)) (Some (filed 253 255 r false 4096 1 ∷ filed 255 256 r false 12288 1 ∷ plain 256 260 r ∷ plain 263 266 x ∷ plain 273 274 x ∷ plain 274 275 none ∷ plain 34359705598 34359705599 r ∷ []))
    ∷ []

-- written_2062: the kernel
abbrev pub written_2062_on : Kernel
written_2062_on = record { rules = linux_6_12; machine = record { lowest_built = 16; memory = 245000; stack = 8388608; has_keys = true; huge_always = true; files_are_huge = false; vsyscall = Xonly }; config = config 4096 140737354133504 65530 0 (file_row 3 true false 0 ∷ file_row 4 true false 0 ∷ file_row 5 false true 20000 ∷ []) }

-- written_2062: its answers
abbrev pub written_2062 : List Step
written_2062 =
    kernel_step 0 (Map 1048576 16384 r 50 (negsuc 0) 0) (Ok (Returned 1048576)) (Some (plain 256 260 r ∷ []))
    ∷ kernel_step 0 (Map 1052672 16384 r 50 (negsuc 0) 0) (Ok (Returned 1052672)) (Some (plain 256 261 r ∷ []))
    ∷ kernel_step 0 (Touch 259 Write) (Ok (Signal AccErr)) None
    ∷ kernel_step 0 (Touch 257 Write) (Ok (Signal AccErr)) None
    ∷ kernel_step 0 (Map 1056768 12288 r 50 (negsuc 0) 0) (Ok (Returned 1056768)) (Some (plain 256 261 r ∷ []))
    ∷ kernel_step 0 (Map 1060864 4096 r 50 (negsuc 0) 0) (Ok (Returned 1060864)) (Some (plain 256 261 r ∷ []))
    ∷ kernel_step 0 (Fork 1) (Ok (Returned 0)) None
    ∷ kernel_step 0 (Touch 257 Write) (Ok (Signal AccErr)) None
    ∷ kernel_step 0 (Touch 260 Write) (Ok (Signal AccErr)) None
    ∷ kernel_step 0 (Touch 257 Read) (Ok (Serves 256 261 r false 0)) None
    ∷ kernel_step 0 (Map 1064960 4096 r 50 (negsuc 0) 0) (Ok (Returned 1064960)) (Some (plain 256 261 r ∷ []))
    ∷ kernel_step 0 (Touch 258 Write) (Ok (Signal AccErr)) None
    ∷ kernel_step 0 (Map 1060864 4096 r 50 (negsuc 0) 0) (Ok (Returned 1060864)) (Some (plain 256 261 r ∷ []))
    ∷ kernel_step 0 (Touch 259 Read) (Ok (Serves 256 261 r false 0)) None
    ∷ kernel_step 1 (Remap 1048576 20480 12288 1 0) (Ok (Returned 1048576)) (Some (plain 256 259 r ∷ []))
    ∷ kernel_step 1 (Unmap 1048576 4096) (Ok (Returned 0)) (Some (plain 257 259 r ∷ []))
    ∷ kernel_step 1 (Protect 1052672 8192 r) (Ok (Returned 0)) (Some (plain 257 259 r ∷ []))
    ∷ kernel_step 1 (Map 1056768 12288 rw 50 (negsuc 0) 0) (Ok (Returned 1056768)) (Some (plain 257 258 r ∷ plain 258 261 rw ∷ []))
    ∷ kernel_step 1 (Map 1056768 4096 rw 50 (negsuc 0) 0) (Ok (Returned 1056768)) (Some (plain 257 258 r ∷ plain 258 261 rw ∷ []))
    ∷ kernel_step 1 (Touch 260 Write) (Ok (Serves 258 261 rw false 0)) None
    ∷ kernel_step 0 (Touch 258 Write) (Ok (Signal AccErr)) None
    ∷ kernel_step 1 (Protect 1048576 8192 rw) (Err 12) (Some (plain 257 258 r ∷ plain 258 261 rw ∷ []))
    ∷ kernel_step 1 (Touch 259 Write) (Ok (Serves 258 261 rw false 0)) None
    ∷ kernel_step 0 (Map 1060864 8192 r 50 (negsuc 0) 0) (Ok (Returned 1060864)) (Some (plain 256 261 r ∷ []))
    ∷ kernel_step 0 (Fork 2) (Ok (Returned 0)) None
    ∷ kernel_step 0 (Touch 257 Write) (Ok (Signal AccErr)) None
    ∷ kernel_step 0 (Touch 258 Write) (Ok (Signal AccErr)) None
    ∷ kernel_step 1 (Remap 1052672 4096 4096 7 1048576) (Ok (Returned 1048576)) (Some (plain 256 257 r ∷ plain 257 258 r ∷ plain 258 261 rw ∷ []))
    ∷ kernel_step 0 (Protect 1064960 4096 r) (Ok (Returned 0)) (Some (plain 256 261 r ∷ []))
    ∷ kernel_step 0 (Touch 257 Write) (Ok (Signal AccErr)) (Some (plain 256 261 r ∷ []))
    ∷ []

-- The definitions answer all of these traces as Linux 6.12.117 did.
pub record AllOfLinux_6_12 : Type 0 where
  pub brk_beside_plain_memory_holds : IsAsRecorded brk_beside_plain_memory_on brk_beside_plain_memory
  pub files_later_write_of_a_shared_readable_holds : IsAsRecorded files_later_write_of_a_shared_readable_on files_later_write_of_a_shared_readable
  pub files_shared_anonymous_split_holds : IsAsRecorded files_shared_anonymous_split_on files_shared_anonymous_split
  pub fork_eight_holds : IsAsRecorded fork_eight_on fork_eight
  pub fork_order_of_children_holds : IsAsRecorded fork_order_of_children_on fork_order_of_children
  pub fork_two_children_holds : IsAsRecorded fork_two_children_on fork_two_children
  pub fork_versions_holds : IsAsRecorded fork_versions_on fork_versions
  pub merging_across_a_split_holds : IsAsRecorded merging_across_a_split_on merging_across_a_split
  pub mmap_descriptor_greatest_holds : IsAsRecorded mmap_descriptor_greatest_on mmap_descriptor_greatest
  pub mseal_limit_comes_first_holds : IsAsRecorded mseal_limit_comes_first_on mseal_limit_comes_first
  pub mseal_mprotect_odd_address_holds : IsAsRecorded mseal_mprotect_odd_address_on mseal_mprotect_odd_address
  pub mseal_munmap_refused_otherwise_holds : IsAsRecorded mseal_munmap_refused_otherwise_on mseal_munmap_refused_otherwise
  pub mseal_part_then_all_holds : IsAsRecorded mseal_part_then_all_on mseal_part_then_all
  pub munmap_limit_cut_at_the_end_holds : IsAsRecorded munmap_limit_cut_at_the_end_on munmap_limit_cut_at_the_end
  pub hard_limit_37_holds : IsAsRecorded hard_limit_37_on hard_limit_37
  pub hard_limit_69_holds : IsAsRecorded hard_limit_69_on hard_limit_69
  pub hard_96_holds : IsAsRecorded hard_96_on hard_96
  pub hard_107_holds : IsAsRecorded hard_107_on hard_107
  pub hard_147_holds : IsAsRecorded hard_147_on hard_147
  pub written_limit_151_holds : IsAsRecorded written_limit_151_on written_limit_151
  pub hard_160_holds : IsAsRecorded hard_160_on hard_160
  pub written_166_holds : IsAsRecorded written_166_on written_166
  pub written_174_holds : IsAsRecorded written_174_on written_174
  pub written_177_holds : IsAsRecorded written_177_on written_177
  pub written_188_holds : IsAsRecorded written_188_on written_188
  pub written_198_holds : IsAsRecorded written_198_on written_198
  pub hard_208_holds : IsAsRecorded hard_208_on hard_208
  pub written_220_holds : IsAsRecorded written_220_on written_220
  pub hard_248_holds : IsAsRecorded hard_248_on hard_248
  pub written_limit_255_holds : IsAsRecorded written_limit_255_on written_limit_255
  pub hard_limit_309_holds : IsAsRecorded hard_limit_309_on hard_limit_309
  pub hard_328_holds : IsAsRecorded hard_328_on hard_328
  pub written_428_holds : IsAsRecorded written_428_on written_428
  pub written_529_holds : IsAsRecorded written_529_on written_529
  pub hard_611_holds : IsAsRecorded hard_611_on hard_611
  pub hard_771_holds : IsAsRecorded hard_771_on hard_771
  pub hard_1027_holds : IsAsRecorded hard_1027_on hard_1027
  pub hard_1056_holds : IsAsRecorded hard_1056_on hard_1056
  pub hard_1272_holds : IsAsRecorded hard_1272_on hard_1272
  pub written_2062_holds : IsAsRecorded written_2062_on written_2062
