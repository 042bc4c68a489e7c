-- Rows of docs/KERNEL.md. Made by dev/make-linux-rules from examples/kernel-rows.txt.
use Rattle.std.specs.Prelude.{List, ◌∷◌, [], true, false, pos, negsuc, Some, None, Ok, Err}
use Rattle.mm_types.specs.declared.area.Access.TheVariants.{Read, Write, Exec}
use Rattle.linux_rules.specs.declared.verdict.LinuxVerdict.TheVariants.{MapErr, AccErr, PkuErr, BusErr, NotCanonical}
use Rattle.linux_rules.specs.Versions.{linux_6_1, linux_6_12, linux_6_16, linux_6_17, linux_6_18_15, linux_6_18, linux_7_2}
use Rattle.linux_rules.specs.Steps.{Map, Remap, Touch, Returned, Serves, Signal, Step, none, r, x, rw, plain, filed, kernel_step, file_row, config}
use Rattle.linux_rules.specs.Recorded.{IsAsRecorded}
use Rattle.linux_beside.specs.Sides.{IsByProfile, on_the_machine}

-- error_writable_unshared
abbrev pub error_writable_unshared_by_profile : List Step
error_writable_unshared_by_profile =
    kernel_step 0 (Map 1048576 4096 rw 19 (pos 3) 0) (Err 22) (Some ([]))
    ∷ []

-- error_writable_unshared
abbrev pub error_writable_unshared_by_linux : List Step
error_writable_unshared_by_linux =
    kernel_step 0 (Map 1048576 4096 rw 19 (pos 3) 0) (Err 13) (Some ([]))
    ∷ []

-- error_writable_unshared: what the profile answers, and Linux
pub record ErrorWritableUnshared : Type 0 where
  pub profile : IsByProfile (config 65536 140737354133504 65530 0 (file_row 3 true false 4096 ∷ [])) error_writable_unshared_by_profile
  pub linux_6_1 : IsAsRecorded (on_the_machine linux_6_1 false (config 4096 140737354133504 65530 0 (file_row 3 true false 4096 ∷ []))) error_writable_unshared_by_linux
  pub linux_6_12 : IsAsRecorded (on_the_machine linux_6_12 false (config 4096 140737354133504 65530 0 (file_row 3 true false 4096 ∷ []))) error_writable_unshared_by_linux
  pub linux_6_16 : IsAsRecorded (on_the_machine linux_6_16 false (config 4096 140737354133504 65530 0 (file_row 3 true false 4096 ∷ []))) error_writable_unshared_by_linux
  pub linux_6_17 : IsAsRecorded (on_the_machine linux_6_17 false (config 4096 140737354133504 65530 0 (file_row 3 true false 4096 ∷ []))) error_writable_unshared_by_linux
  pub linux_6_18_15 : IsAsRecorded (on_the_machine linux_6_18_15 false (config 4096 140737354133504 65530 0 (file_row 3 true false 4096 ∷ []))) error_writable_unshared_by_linux
  pub linux_6_18 : IsAsRecorded (on_the_machine linux_6_18 false (config 4096 140737354133504 65530 0 (file_row 3 true false 4096 ∷ []))) error_writable_unshared_by_linux
  pub linux_7_2 : IsAsRecorded (on_the_machine linux_7_2 false (config 4096 140737354133504 65530 0 (file_row 3 true false 4096 ∷ []))) error_writable_unshared_by_linux

-- error_unshared_place
abbrev pub error_unshared_place_by_profile : List Step
error_unshared_place_by_profile =
    kernel_step 0 (Map 0 140737488289792 r 32 (negsuc 0) 0) (Err 22) (Some ([]))
    ∷ []

-- error_unshared_place
abbrev pub error_unshared_place_by_linux : List Step
error_unshared_place_by_linux =
    kernel_step 0 (Map 0 140737488289792 r 32 (negsuc 0) 0) (Err 12) (Some ([]))
    ∷ []

-- error_unshared_place: what the profile answers, and Linux
pub record ErrorUnsharedPlace : Type 0 where
  pub profile : IsByProfile (config 65536 140737354133504 65530 0 ([])) error_unshared_place_by_profile
  pub linux_6_1 : IsAsRecorded (on_the_machine linux_6_1 false (config 4096 140737354133504 65530 0 ([]))) error_unshared_place_by_linux
  pub linux_6_12 : IsAsRecorded (on_the_machine linux_6_12 false (config 4096 140737354133504 65530 0 ([]))) error_unshared_place_by_linux
  pub linux_6_16 : IsAsRecorded (on_the_machine linux_6_16 false (config 4096 140737354133504 65530 0 ([]))) error_unshared_place_by_linux
  pub linux_6_17 : IsAsRecorded (on_the_machine linux_6_17 false (config 4096 140737354133504 65530 0 ([]))) error_unshared_place_by_linux
  pub linux_6_18_15 : IsAsRecorded (on_the_machine linux_6_18_15 false (config 4096 140737354133504 65530 0 ([]))) error_unshared_place_by_linux
  pub linux_6_18 : IsAsRecorded (on_the_machine linux_6_18 false (config 4096 140737354133504 65530 0 ([]))) error_unshared_place_by_linux
  pub linux_7_2 : IsAsRecorded (on_the_machine linux_7_2 false (config 4096 140737354133504 65530 0 ([]))) error_unshared_place_by_linux

-- error_old_zero_unmapped
abbrev pub error_old_zero_unmapped_by_profile : List Step
error_old_zero_unmapped_by_profile =
    kernel_step 0 (Remap 1048576 0 4096 1 0) (Err 22) (Some ([]))
    ∷ []

-- error_old_zero_unmapped
abbrev pub error_old_zero_unmapped_by_linux : List Step
error_old_zero_unmapped_by_linux =
    kernel_step 0 (Remap 1048576 0 4096 1 0) (Err 14) (Some ([]))
    ∷ []

-- error_old_zero_unmapped: what the profile answers, and Linux
pub record ErrorOldZeroUnmapped : Type 0 where
  pub profile : IsByProfile (config 65536 140737354133504 65530 0 ([])) error_old_zero_unmapped_by_profile
  pub linux_6_1 : IsAsRecorded (on_the_machine linux_6_1 false (config 4096 140737354133504 65530 0 ([]))) error_old_zero_unmapped_by_linux
  pub linux_6_12 : IsAsRecorded (on_the_machine linux_6_12 false (config 4096 140737354133504 65530 0 ([]))) error_old_zero_unmapped_by_linux
  pub linux_6_16 : IsAsRecorded (on_the_machine linux_6_16 false (config 4096 140737354133504 65530 0 ([]))) error_old_zero_unmapped_by_linux
  pub linux_6_17 : IsAsRecorded (on_the_machine linux_6_17 false (config 4096 140737354133504 65530 0 ([]))) error_old_zero_unmapped_by_linux
  pub linux_6_18_15 : IsAsRecorded (on_the_machine linux_6_18_15 false (config 4096 140737354133504 65530 0 ([]))) error_old_zero_unmapped_by_linux
  pub linux_6_18 : IsAsRecorded (on_the_machine linux_6_18 false (config 4096 140737354133504 65530 0 ([]))) error_old_zero_unmapped_by_linux
  pub linux_7_2 : IsAsRecorded (on_the_machine linux_7_2 false (config 4096 140737354133504 65530 0 ([]))) error_old_zero_unmapped_by_linux

-- error_noreplace_unshared
abbrev pub error_noreplace_unshared_by_profile : List Step
error_noreplace_unshared_by_profile =
    kernel_step 0 (Map 1048576 4096 rw 50 (negsuc 0) 0) (Ok (Returned 1048576)) None
    ∷ kernel_step 0 (Map 1048576 4096 r 1048608 (negsuc 0) 0) (Err 22) (Some (plain 256 257 rw ∷ []))
    ∷ []

-- error_noreplace_unshared
abbrev pub error_noreplace_unshared_by_linux : List Step
error_noreplace_unshared_by_linux =
    kernel_step 0 (Map 1048576 4096 rw 50 (negsuc 0) 0) (Ok (Returned 1048576)) None
    ∷ kernel_step 0 (Map 1048576 4096 r 1048608 (negsuc 0) 0) (Err 17) (Some (plain 256 257 rw ∷ []))
    ∷ []

-- error_noreplace_unshared: what the profile answers, and Linux
pub record ErrorNoreplaceUnshared : Type 0 where
  pub profile : IsByProfile (config 65536 140737354133504 65530 0 ([])) error_noreplace_unshared_by_profile
  pub linux_6_1 : IsAsRecorded (on_the_machine linux_6_1 false (config 4096 140737354133504 65530 0 ([]))) error_noreplace_unshared_by_linux
  pub linux_6_12 : IsAsRecorded (on_the_machine linux_6_12 false (config 4096 140737354133504 65530 0 ([]))) error_noreplace_unshared_by_linux
  pub linux_6_16 : IsAsRecorded (on_the_machine linux_6_16 false (config 4096 140737354133504 65530 0 ([]))) error_noreplace_unshared_by_linux
  pub linux_6_17 : IsAsRecorded (on_the_machine linux_6_17 false (config 4096 140737354133504 65530 0 ([]))) error_noreplace_unshared_by_linux
  pub linux_6_18_15 : IsAsRecorded (on_the_machine linux_6_18_15 false (config 4096 140737354133504 65530 0 ([]))) error_noreplace_unshared_by_linux
  pub linux_6_18 : IsAsRecorded (on_the_machine linux_6_18 false (config 4096 140737354133504 65530 0 ([]))) error_noreplace_unshared_by_linux
  pub linux_7_2 : IsAsRecorded (on_the_machine linux_7_2 false (config 4096 140737354133504 65530 0 ([]))) error_noreplace_unshared_by_linux

-- fault_exec_only
abbrev pub fault_exec_only_by_profile : List Step
fault_exec_only_by_profile =
    kernel_step 0 (Map 1048576 4096 x 50 (negsuc 0) 0) (Ok (Returned 1048576)) None
    ∷ kernel_step 0 (Touch 256 Read) (Ok (Serves 256 257 x false 0)) (Some (plain 256 257 x ∷ []))
    ∷ []

-- fault_exec_only
abbrev pub fault_exec_only_by_linux : List Step
fault_exec_only_by_linux =
    kernel_step 0 (Map 1048576 4096 x 50 (negsuc 0) 0) (Ok (Returned 1048576)) None
    ∷ kernel_step 0 (Touch 256 Read) (Ok (Signal PkuErr)) (Some (plain 256 257 x ∷ []))
    ∷ []

-- fault_exec_only: what the profile answers, and Linux
pub record FaultExecOnly : Type 0 where
  pub profile : IsByProfile (config 65536 140737354133504 65530 0 ([])) fault_exec_only_by_profile
  pub linux_6_1 : IsAsRecorded (on_the_machine linux_6_1 false (config 4096 140737354133504 65530 0 ([]))) fault_exec_only_by_linux
  pub linux_6_12 : IsAsRecorded (on_the_machine linux_6_12 false (config 4096 140737354133504 65530 0 ([]))) fault_exec_only_by_linux
  pub linux_6_16 : IsAsRecorded (on_the_machine linux_6_16 false (config 4096 140737354133504 65530 0 ([]))) fault_exec_only_by_linux
  pub linux_6_17 : IsAsRecorded (on_the_machine linux_6_17 false (config 4096 140737354133504 65530 0 ([]))) fault_exec_only_by_linux
  pub linux_6_18_15 : IsAsRecorded (on_the_machine linux_6_18_15 false (config 4096 140737354133504 65530 0 ([]))) fault_exec_only_by_linux
  pub linux_6_18 : IsAsRecorded (on_the_machine linux_6_18 false (config 4096 140737354133504 65530 0 ([]))) fault_exec_only_by_linux
  pub linux_7_2 : IsAsRecorded (on_the_machine linux_7_2 false (config 4096 140737354133504 65530 0 ([]))) fault_exec_only_by_linux

-- fault_exec_only_write
abbrev pub fault_exec_only_write_by_profile : List Step
fault_exec_only_write_by_profile =
    kernel_step 0 (Map 1048576 4096 x 50 (negsuc 0) 0) (Ok (Returned 1048576)) None
    ∷ kernel_step 0 (Touch 256 Write) (Ok (Signal AccErr)) (Some (plain 256 257 x ∷ []))
    ∷ []

-- fault_exec_only_write
abbrev pub fault_exec_only_write_by_linux : List Step
fault_exec_only_write_by_linux =
    kernel_step 0 (Map 1048576 4096 x 50 (negsuc 0) 0) (Ok (Returned 1048576)) None
    ∷ kernel_step 0 (Touch 256 Write) (Ok (Signal PkuErr)) (Some (plain 256 257 x ∷ []))
    ∷ []

-- fault_exec_only_write: what the profile answers, and Linux
pub record FaultExecOnlyWrite : Type 0 where
  pub profile : IsByProfile (config 65536 140737354133504 65530 0 ([])) fault_exec_only_write_by_profile
  pub linux_6_1 : IsAsRecorded (on_the_machine linux_6_1 false (config 4096 140737354133504 65530 0 ([]))) fault_exec_only_write_by_linux
  pub linux_6_12 : IsAsRecorded (on_the_machine linux_6_12 false (config 4096 140737354133504 65530 0 ([]))) fault_exec_only_write_by_linux
  pub linux_6_16 : IsAsRecorded (on_the_machine linux_6_16 false (config 4096 140737354133504 65530 0 ([]))) fault_exec_only_write_by_linux
  pub linux_6_17 : IsAsRecorded (on_the_machine linux_6_17 false (config 4096 140737354133504 65530 0 ([]))) fault_exec_only_write_by_linux
  pub linux_6_18_15 : IsAsRecorded (on_the_machine linux_6_18_15 false (config 4096 140737354133504 65530 0 ([]))) fault_exec_only_write_by_linux
  pub linux_6_18 : IsAsRecorded (on_the_machine linux_6_18 false (config 4096 140737354133504 65530 0 ([]))) fault_exec_only_write_by_linux
  pub linux_7_2 : IsAsRecorded (on_the_machine linux_7_2 false (config 4096 140737354133504 65530 0 ([]))) fault_exec_only_write_by_linux

-- fault_exec_only_past_end
abbrev pub fault_exec_only_past_end_by_profile : List Step
fault_exec_only_past_end_by_profile =
    kernel_step 0 (Map 1048576 8192 x 18 (pos 3) 0) (Ok (Returned 1048576)) None
    ∷ kernel_step 0 (Touch 257 Read) (Ok (Signal BusErr)) (Some (filed 256 258 x false 0 1 ∷ []))
    ∷ []

-- fault_exec_only_past_end
abbrev pub fault_exec_only_past_end_by_linux : List Step
fault_exec_only_past_end_by_linux =
    kernel_step 0 (Map 1048576 8192 x 18 (pos 3) 0) (Ok (Returned 1048576)) None
    ∷ kernel_step 0 (Touch 257 Read) (Ok (Signal PkuErr)) (Some (filed 256 258 x false 0 1 ∷ []))
    ∷ []

-- fault_exec_only_past_end: what the profile answers, and Linux
pub record FaultExecOnlyPastEnd : Type 0 where
  pub profile : IsByProfile (config 65536 140737354133504 65530 0 (file_row 3 true false 4096 ∷ [])) fault_exec_only_past_end_by_profile
  pub linux_6_1 : IsAsRecorded (on_the_machine linux_6_1 false (config 4096 140737354133504 65530 0 (file_row 3 true false 4096 ∷ []))) fault_exec_only_past_end_by_linux
  pub linux_6_12 : IsAsRecorded (on_the_machine linux_6_12 false (config 4096 140737354133504 65530 0 (file_row 3 true false 4096 ∷ []))) fault_exec_only_past_end_by_linux
  pub linux_6_16 : IsAsRecorded (on_the_machine linux_6_16 false (config 4096 140737354133504 65530 0 (file_row 3 true false 4096 ∷ []))) fault_exec_only_past_end_by_linux
  pub linux_6_17 : IsAsRecorded (on_the_machine linux_6_17 false (config 4096 140737354133504 65530 0 (file_row 3 true false 4096 ∷ []))) fault_exec_only_past_end_by_linux
  pub linux_6_18_15 : IsAsRecorded (on_the_machine linux_6_18_15 false (config 4096 140737354133504 65530 0 (file_row 3 true false 4096 ∷ []))) fault_exec_only_past_end_by_linux
  pub linux_6_18 : IsAsRecorded (on_the_machine linux_6_18 false (config 4096 140737354133504 65530 0 (file_row 3 true false 4096 ∷ []))) fault_exec_only_past_end_by_linux
  pub linux_7_2 : IsAsRecorded (on_the_machine linux_7_2 false (config 4096 140737354133504 65530 0 (file_row 3 true false 4096 ∷ []))) fault_exec_only_past_end_by_linux

-- fault_exec_past_end
abbrev pub fault_exec_past_end_by_profile : List Step
fault_exec_past_end_by_profile =
    kernel_step 0 (Map 1048576 8192 r 18 (pos 3) 0) (Ok (Returned 1048576)) None
    ∷ kernel_step 0 (Touch 257 Exec) (Ok (Signal AccErr)) None
    ∷ kernel_step 0 (Touch 256 Exec) (Ok (Signal AccErr)) (Some (filed 256 258 r false 0 1 ∷ []))
    ∷ []

-- fault_exec_past_end
abbrev pub fault_exec_past_end_by_linux : List Step
fault_exec_past_end_by_linux =
    kernel_step 0 (Map 1048576 8192 r 18 (pos 3) 0) (Ok (Returned 1048576)) None
    ∷ kernel_step 0 (Touch 257 Exec) (Ok (Signal BusErr)) None
    ∷ kernel_step 0 (Touch 256 Exec) (Ok (Signal AccErr)) (Some (filed 256 258 r false 0 1 ∷ []))
    ∷ []

-- fault_exec_past_end: what the profile answers, and Linux
pub record FaultExecPastEnd : Type 0 where
  pub profile : IsByProfile (config 65536 140737354133504 65530 0 (file_row 3 true false 4096 ∷ [])) fault_exec_past_end_by_profile
  pub linux_6_1 : IsAsRecorded (on_the_machine linux_6_1 false (config 4096 140737354133504 65530 0 (file_row 3 true false 4096 ∷ []))) fault_exec_past_end_by_linux
  pub linux_6_12 : IsAsRecorded (on_the_machine linux_6_12 false (config 4096 140737354133504 65530 0 (file_row 3 true false 4096 ∷ []))) fault_exec_past_end_by_linux
  pub linux_6_16 : IsAsRecorded (on_the_machine linux_6_16 false (config 4096 140737354133504 65530 0 (file_row 3 true false 4096 ∷ []))) fault_exec_past_end_by_linux
  pub linux_6_17 : IsAsRecorded (on_the_machine linux_6_17 false (config 4096 140737354133504 65530 0 (file_row 3 true false 4096 ∷ []))) fault_exec_past_end_by_linux
  pub linux_6_18_15 : IsAsRecorded (on_the_machine linux_6_18_15 false (config 4096 140737354133504 65530 0 (file_row 3 true false 4096 ∷ []))) fault_exec_past_end_by_linux
  pub linux_6_18 : IsAsRecorded (on_the_machine linux_6_18 false (config 4096 140737354133504 65530 0 (file_row 3 true false 4096 ∷ []))) fault_exec_past_end_by_linux
  pub linux_7_2 : IsAsRecorded (on_the_machine linux_7_2 false (config 4096 140737354133504 65530 0 (file_row 3 true false 4096 ∷ []))) fault_exec_past_end_by_linux

-- fault_not_canonical
abbrev pub fault_not_canonical_by_profile : List Step
fault_not_canonical_by_profile =
    kernel_step 0 (Touch 34359738368 Read) (Ok (Signal MapErr)) None
    ∷ kernel_step 0 (Touch 34359738367 Read) (Ok (Signal MapErr)) None
    ∷ kernel_step 0 (Touch 4503565267632128 Read) (Ok (Signal MapErr)) (Some ([]))
    ∷ []

-- fault_not_canonical
abbrev pub fault_not_canonical_by_linux : List Step
fault_not_canonical_by_linux =
    kernel_step 0 (Touch 34359738368 Read) (Ok (Signal NotCanonical)) None
    ∷ kernel_step 0 (Touch 34359738367 Read) (Ok (Signal MapErr)) None
    ∷ kernel_step 0 (Touch 4503565267632128 Read) (Ok (Signal MapErr)) (Some ([]))
    ∷ []

-- fault_not_canonical: what the profile answers, and Linux
pub record FaultNotCanonical : Type 0 where
  pub profile : IsByProfile (config 65536 140737354133504 65530 0 ([])) fault_not_canonical_by_profile
  pub linux_6_1 : IsAsRecorded (on_the_machine linux_6_1 false (config 4096 140737354133504 65530 0 ([]))) fault_not_canonical_by_linux
  pub linux_6_12 : IsAsRecorded (on_the_machine linux_6_12 false (config 4096 140737354133504 65530 0 ([]))) fault_not_canonical_by_linux
  pub linux_6_16 : IsAsRecorded (on_the_machine linux_6_16 false (config 4096 140737354133504 65530 0 ([]))) fault_not_canonical_by_linux
  pub linux_6_17 : IsAsRecorded (on_the_machine linux_6_17 false (config 4096 140737354133504 65530 0 ([]))) fault_not_canonical_by_linux
  pub linux_6_18_15 : IsAsRecorded (on_the_machine linux_6_18_15 false (config 4096 140737354133504 65530 0 ([]))) fault_not_canonical_by_linux
  pub linux_6_18 : IsAsRecorded (on_the_machine linux_6_18 false (config 4096 140737354133504 65530 0 ([]))) fault_not_canonical_by_linux
  pub linux_7_2 : IsAsRecorded (on_the_machine linux_7_2 false (config 4096 140737354133504 65530 0 ([]))) fault_not_canonical_by_linux

-- fault_vsyscall
abbrev pub fault_vsyscall_by_profile : List Step
fault_vsyscall_by_profile =
    kernel_step 0 (Touch 4503599627367936 Exec) (Ok (Signal MapErr)) (Some ([]))
    ∷ []

-- fault_vsyscall
abbrev pub fault_vsyscall_by_linux : List Step
fault_vsyscall_by_linux =
    kernel_step 0 (Touch 4503599627367936 Exec) (Ok (Serves 4503599627367936 4503599627367937 x false 0)) (Some ([]))
    ∷ []

-- fault_vsyscall: what the profile answers, and Linux
pub record FaultVsyscall : Type 0 where
  pub profile : IsByProfile (config 65536 140737354133504 65530 0 ([])) fault_vsyscall_by_profile
  pub linux_6_1 : IsAsRecorded (on_the_machine linux_6_1 false (config 4096 140737354133504 65530 0 ([]))) fault_vsyscall_by_linux
  pub linux_6_12 : IsAsRecorded (on_the_machine linux_6_12 false (config 4096 140737354133504 65530 0 ([]))) fault_vsyscall_by_linux
  pub linux_6_16 : IsAsRecorded (on_the_machine linux_6_16 false (config 4096 140737354133504 65530 0 ([]))) fault_vsyscall_by_linux
  pub linux_6_17 : IsAsRecorded (on_the_machine linux_6_17 false (config 4096 140737354133504 65530 0 ([]))) fault_vsyscall_by_linux
  pub linux_6_18_15 : IsAsRecorded (on_the_machine linux_6_18_15 false (config 4096 140737354133504 65530 0 ([]))) fault_vsyscall_by_linux
  pub linux_6_18 : IsAsRecorded (on_the_machine linux_6_18 false (config 4096 140737354133504 65530 0 ([]))) fault_vsyscall_by_linux
  pub linux_7_2 : IsAsRecorded (on_the_machine linux_7_2 false (config 4096 140737354133504 65530 0 ([]))) fault_vsyscall_by_linux

-- fault_shared_grown
abbrev pub fault_shared_grown_by_profile : List Step
fault_shared_grown_by_profile =
    kernel_step 0 (Map 1048576 4096 rw 49 (negsuc 0) 0) (Ok (Returned 1048576)) None
    ∷ kernel_step 0 (Remap 1048576 4096 8192 0 0) (Ok (Returned 1048576)) None
    ∷ kernel_step 0 (Touch 257 Read) (Ok (Serves 256 258 rw true 1)) (Some (filed 256 258 rw true 0 1 ∷ []))
    ∷ []

-- fault_shared_grown
abbrev pub fault_shared_grown_by_linux : List Step
fault_shared_grown_by_linux =
    kernel_step 0 (Map 1048576 4096 rw 49 (negsuc 0) 0) (Ok (Returned 1048576)) None
    ∷ kernel_step 0 (Remap 1048576 4096 8192 0 0) (Ok (Returned 1048576)) None
    ∷ kernel_step 0 (Touch 257 Read) (Ok (Signal BusErr)) (Some (filed 256 258 rw true 0 1 ∷ []))
    ∷ []

-- fault_shared_grown: what the profile answers, and Linux
pub record FaultSharedGrown : Type 0 where
  pub profile : IsByProfile (config 65536 140737354133504 65530 0 ([])) fault_shared_grown_by_profile
  pub linux_6_1 : IsAsRecorded (on_the_machine linux_6_1 false (config 4096 140737354133504 65530 0 ([]))) fault_shared_grown_by_linux
  pub linux_6_12 : IsAsRecorded (on_the_machine linux_6_12 false (config 4096 140737354133504 65530 0 ([]))) fault_shared_grown_by_linux
  pub linux_6_16 : IsAsRecorded (on_the_machine linux_6_16 false (config 4096 140737354133504 65530 0 ([]))) fault_shared_grown_by_linux
  pub linux_6_17 : IsAsRecorded (on_the_machine linux_6_17 false (config 4096 140737354133504 65530 0 ([]))) fault_shared_grown_by_linux
  pub linux_6_18_15 : IsAsRecorded (on_the_machine linux_6_18_15 false (config 4096 140737354133504 65530 0 ([]))) fault_shared_grown_by_linux
  pub linux_6_18 : IsAsRecorded (on_the_machine linux_6_18 false (config 4096 140737354133504 65530 0 ([]))) fault_shared_grown_by_linux
  pub linux_7_2 : IsAsRecorded (on_the_machine linux_7_2 false (config 4096 140737354133504 65530 0 ([]))) fault_shared_grown_by_linux

-- grow_far
abbrev pub grow_far_by_profile : List Step
grow_far_by_profile =
    kernel_step 0 (Map 2097152 4096 rw 306 (negsuc 0) 0) (Ok (Returned 2097152)) None
    ∷ kernel_step 0 (Touch 509 Write) (Ok (Signal MapErr)) (Some (plain 512 513 rw ∷ []))
    ∷ []

-- grow_far
abbrev pub grow_far_by_linux : List Step
grow_far_by_linux =
    kernel_step 0 (Map 2097152 4096 rw 306 (negsuc 0) 0) (Ok (Returned 2097152)) None
    ∷ kernel_step 0 (Touch 509 Write) (Ok (Serves 509 513 rw false 0)) (Some (plain 509 513 rw ∷ []))
    ∷ []

-- grow_far: what the profile answers, and Linux
pub record GrowFar : Type 0 where
  pub profile : IsByProfile (config 65536 140737354133504 65530 0 ([])) grow_far_by_profile
  pub linux_6_1 : IsAsRecorded (on_the_machine linux_6_1 false (config 4096 140737354133504 65530 0 ([]))) grow_far_by_linux
  pub linux_6_12 : IsAsRecorded (on_the_machine linux_6_12 false (config 4096 140737354133504 65530 0 ([]))) grow_far_by_linux
  pub linux_6_16 : IsAsRecorded (on_the_machine linux_6_16 false (config 4096 140737354133504 65530 0 ([]))) grow_far_by_linux
  pub linux_6_17 : IsAsRecorded (on_the_machine linux_6_17 false (config 4096 140737354133504 65530 0 ([]))) grow_far_by_linux
  pub linux_6_18_15 : IsAsRecorded (on_the_machine linux_6_18_15 false (config 4096 140737354133504 65530 0 ([]))) grow_far_by_linux
  pub linux_6_18 : IsAsRecorded (on_the_machine linux_6_18 false (config 4096 140737354133504 65530 0 ([]))) grow_far_by_linux
  pub linux_7_2 : IsAsRecorded (on_the_machine linux_7_2 false (config 4096 140737354133504 65530 0 ([]))) grow_far_by_linux

-- grow_near
abbrev pub grow_near_by_profile : List Step
grow_near_by_profile =
    kernel_step 0 (Map 1048576 4096 rw 50 (negsuc 0) 0) (Ok (Returned 1048576)) None
    ∷ kernel_step 0 (Map 1572864 4096 rw 306 (negsuc 0) 0) (Ok (Returned 1572864)) None
    ∷ kernel_step 0 (Touch 383 Write) (Ok (Serves 383 385 rw false 0)) (Some (plain 256 257 rw ∷ plain 383 385 rw ∷ []))
    ∷ []

-- grow_near
abbrev pub grow_near_by_linux : List Step
grow_near_by_linux =
    kernel_step 0 (Map 1048576 4096 rw 50 (negsuc 0) 0) (Ok (Returned 1048576)) None
    ∷ kernel_step 0 (Map 1572864 4096 rw 306 (negsuc 0) 0) (Ok (Returned 1572864)) None
    ∷ kernel_step 0 (Touch 383 Write) (Ok (Signal MapErr)) (Some (plain 256 257 rw ∷ plain 384 385 rw ∷ []))
    ∷ []

-- grow_near: what the profile answers, and Linux
pub record GrowNear : Type 0 where
  pub profile : IsByProfile (config 65536 140737354133504 65530 0 ([])) grow_near_by_profile
  pub linux_6_1 : IsAsRecorded (on_the_machine linux_6_1 false (config 4096 140737354133504 65530 0 ([]))) grow_near_by_linux
  pub linux_6_12 : IsAsRecorded (on_the_machine linux_6_12 false (config 4096 140737354133504 65530 0 ([]))) grow_near_by_linux
  pub linux_6_16 : IsAsRecorded (on_the_machine linux_6_16 false (config 4096 140737354133504 65530 0 ([]))) grow_near_by_linux
  pub linux_6_17 : IsAsRecorded (on_the_machine linux_6_17 false (config 4096 140737354133504 65530 0 ([]))) grow_near_by_linux
  pub linux_6_18_15 : IsAsRecorded (on_the_machine linux_6_18_15 false (config 4096 140737354133504 65530 0 ([]))) grow_near_by_linux
  pub linux_6_18 : IsAsRecorded (on_the_machine linux_6_18 false (config 4096 140737354133504 65530 0 ([]))) grow_near_by_linux
  pub linux_7_2 : IsAsRecorded (on_the_machine linux_7_2 false (config 4096 140737354133504 65530 0 ([]))) grow_near_by_linux

-- grow_min
abbrev pub grow_min_by_profile : List Step
grow_min_by_profile =
    kernel_step 0 (Map 8192 4096 rw 306 (negsuc 0) 0) (Ok (Returned 8192)) None
    ∷ kernel_step 0 (Touch 1 Write) (Ok (Serves 1 3 rw false 0)) (Some (plain 1 3 rw ∷ []))
    ∷ []

-- grow_min
abbrev pub grow_min_by_linux : List Step
grow_min_by_linux =
    kernel_step 0 (Map 8192 4096 rw 306 (negsuc 0) 0) (Ok (Returned 8192)) None
    ∷ kernel_step 0 (Touch 1 Write) (Ok (Signal MapErr)) (Some (plain 2 3 rw ∷ []))
    ∷ []

-- grow_min: what the profile answers, and Linux
pub record GrowMin : Type 0 where
  pub profile : IsByProfile (config 4096 140737354133504 65530 0 ([])) grow_min_by_profile
  pub linux_6_1 : IsAsRecorded (on_the_machine linux_6_1 false (config 4096 140737354133504 65530 0 ([]))) grow_min_by_linux
  pub linux_6_12 : IsAsRecorded (on_the_machine linux_6_12 false (config 4096 140737354133504 65530 0 ([]))) grow_min_by_linux
  pub linux_6_16 : IsAsRecorded (on_the_machine linux_6_16 false (config 4096 140737354133504 65530 0 ([]))) grow_min_by_linux
  pub linux_6_17 : IsAsRecorded (on_the_machine linux_6_17 false (config 4096 140737354133504 65530 0 ([]))) grow_min_by_linux
  pub linux_6_18_15 : IsAsRecorded (on_the_machine linux_6_18_15 false (config 4096 140737354133504 65530 0 ([]))) grow_min_by_linux
  pub linux_6_18 : IsAsRecorded (on_the_machine linux_6_18 false (config 4096 140737354133504 65530 0 ([]))) grow_min_by_linux
  pub linux_7_2 : IsAsRecorded (on_the_machine linux_7_2 false (config 4096 140737354133504 65530 0 ([]))) grow_min_by_linux

-- grow_none
abbrev pub grow_none_by_profile : List Step
grow_none_by_profile =
    kernel_step 0 (Map 1564672 4096 none 50 (negsuc 0) 0) (Ok (Returned 1564672)) None
    ∷ kernel_step 0 (Map 1572864 4096 rw 306 (negsuc 0) 0) (Ok (Returned 1572864)) None
    ∷ kernel_step 0 (Touch 383 Write) (Ok (Signal MapErr)) None
    ∷ kernel_step 0 (Touch 382 Write) (Ok (Signal AccErr)) (Some (plain 382 383 none ∷ plain 384 385 rw ∷ []))
    ∷ []

-- grow_none
abbrev pub grow_none_by_linux : List Step
grow_none_by_linux =
    kernel_step 0 (Map 1564672 4096 none 50 (negsuc 0) 0) (Ok (Returned 1564672)) None
    ∷ kernel_step 0 (Map 1572864 4096 rw 306 (negsuc 0) 0) (Ok (Returned 1572864)) None
    ∷ kernel_step 0 (Touch 383 Write) (Ok (Serves 383 385 rw false 0)) None
    ∷ kernel_step 0 (Touch 382 Write) (Ok (Signal AccErr)) (Some (plain 382 383 none ∷ plain 383 385 rw ∷ []))
    ∷ []

-- grow_none: what the profile answers, and Linux
pub record GrowNone : Type 0 where
  pub profile : IsByProfile (config 65536 140737354133504 65530 0 ([])) grow_none_by_profile
  pub linux_6_1 : IsAsRecorded (on_the_machine linux_6_1 false (config 4096 140737354133504 65530 0 ([]))) grow_none_by_linux
  pub linux_6_12 : IsAsRecorded (on_the_machine linux_6_12 false (config 4096 140737354133504 65530 0 ([]))) grow_none_by_linux
  pub linux_6_16 : IsAsRecorded (on_the_machine linux_6_16 false (config 4096 140737354133504 65530 0 ([]))) grow_none_by_linux
  pub linux_6_17 : IsAsRecorded (on_the_machine linux_6_17 false (config 4096 140737354133504 65530 0 ([]))) grow_none_by_linux
  pub linux_6_18_15 : IsAsRecorded (on_the_machine linux_6_18_15 false (config 4096 140737354133504 65530 0 ([]))) grow_none_by_linux
  pub linux_6_18 : IsAsRecorded (on_the_machine linux_6_18 false (config 4096 140737354133504 65530 0 ([]))) grow_none_by_linux
  pub linux_7_2 : IsAsRecorded (on_the_machine linux_7_2 false (config 4096 140737354133504 65530 0 ([]))) grow_none_by_linux

-- grow_growing
abbrev pub grow_growing_by_profile : List Step
grow_growing_by_profile =
    kernel_step 0 (Map 1560576 4096 rw 306 (negsuc 0) 0) (Ok (Returned 1560576)) None
    ∷ kernel_step 0 (Map 1572864 4096 rw 306 (negsuc 0) 0) (Ok (Returned 1572864)) None
    ∷ kernel_step 0 (Touch 383 Write) (Ok (Serves 383 385 rw false 0)) None
    ∷ kernel_step 0 (Touch 382 Write) (Ok (Signal MapErr)) (Some (plain 381 382 rw ∷ plain 383 385 rw ∷ []))
    ∷ []

-- grow_growing
abbrev pub grow_growing_by_linux : List Step
grow_growing_by_linux =
    kernel_step 0 (Map 1560576 4096 rw 306 (negsuc 0) 0) (Ok (Returned 1560576)) None
    ∷ kernel_step 0 (Map 1572864 4096 rw 306 (negsuc 0) 0) (Ok (Returned 1572864)) None
    ∷ kernel_step 0 (Touch 383 Write) (Ok (Serves 383 385 rw false 0)) None
    ∷ kernel_step 0 (Touch 382 Write) (Ok (Serves 382 385 rw false 0)) (Some (plain 381 382 rw ∷ plain 382 385 rw ∷ []))
    ∷ []

-- grow_growing: what the profile answers, and Linux
pub record GrowGrowing : Type 0 where
  pub profile : IsByProfile (config 65536 140737354133504 65530 0 ([])) grow_growing_by_profile
  pub linux_6_1 : IsAsRecorded (on_the_machine linux_6_1 false (config 4096 140737354133504 65530 0 ([]))) grow_growing_by_linux
  pub linux_6_12 : IsAsRecorded (on_the_machine linux_6_12 false (config 4096 140737354133504 65530 0 ([]))) grow_growing_by_linux
  pub linux_6_16 : IsAsRecorded (on_the_machine linux_6_16 false (config 4096 140737354133504 65530 0 ([]))) grow_growing_by_linux
  pub linux_6_17 : IsAsRecorded (on_the_machine linux_6_17 false (config 4096 140737354133504 65530 0 ([]))) grow_growing_by_linux
  pub linux_6_18_15 : IsAsRecorded (on_the_machine linux_6_18_15 false (config 4096 140737354133504 65530 0 ([]))) grow_growing_by_linux
  pub linux_6_18 : IsAsRecorded (on_the_machine linux_6_18 false (config 4096 140737354133504 65530 0 ([]))) grow_growing_by_linux
  pub linux_7_2 : IsAsRecorded (on_the_machine linux_7_2 false (config 4096 140737354133504 65530 0 ([]))) grow_growing_by_linux

-- all rows of this file
pub record AllRows4 : Type 0 where
  pub error_writable_unshared : ErrorWritableUnshared
  pub error_unshared_place : ErrorUnsharedPlace
  pub error_old_zero_unmapped : ErrorOldZeroUnmapped
  pub error_noreplace_unshared : ErrorNoreplaceUnshared
  pub fault_exec_only : FaultExecOnly
  pub fault_exec_only_write : FaultExecOnlyWrite
  pub fault_exec_only_past_end : FaultExecOnlyPastEnd
  pub fault_exec_past_end : FaultExecPastEnd
  pub fault_not_canonical : FaultNotCanonical
  pub fault_vsyscall : FaultVsyscall
  pub fault_shared_grown : FaultSharedGrown
  pub grow_far : GrowFar
  pub grow_near : GrowNear
  pub grow_min : GrowMin
  pub grow_none : GrowNone
  pub grow_growing : GrowGrowing
